-- The spelling of a message, in the terms of the pages of the MongoDB wire protocol: of an OP_MSG
-- the section of kind 0 first, those of kind 1 after it, and no checksum; in the older form an
-- OP_REPLY of one document. Each document is spelt.
use Rattle.std.specs.Prelude.{◌≡◌, ℕ, List, [], ◌∷◌, ◌++◌, length}
use Rattle.bson_core.specs.Names.{IsName}
use Rattle.bson_core.specs.Fields.{Document}
use Rattle.op_msg.specs.Message.{Sequence, front, sequence_section, flags_of, reply_front}
use Rattle.op_msg.specs.declared.frame.Frame.{Frame}
use Rattle.codec_laws.specs.Spells.{Spells}

-- documents one after the other
abbrev pub SpellsDocuments : List Document → List ℕ → Type 0
SpellsDocuments [] bytes = bytes ≡ []
SpellsDocuments (doc ∷ docs) bytes = (first : List ℕ) × (rest : List ℕ) × Spells doc first
    × (bytes ≡ first ++ rest) × SpellsDocuments docs rest

-- sections of kind 1 one after the other
abbrev pub SpellsSequences : List Sequence → List ℕ → Type 0
SpellsSequences [] bytes = bytes ≡ []
SpellsSequences (seq ∷ seqs) bytes =
    (documents : List ℕ) × (rest : List ℕ) × IsName seq.0 × SpellsDocuments seq.1 documents
    × (bytes ≡ sequence_section seq.0 documents ++ rest) × SpellsSequences seqs rest

-- an OP_MSG whose one flag is moreToCome, where it has it
pub record SpellsCurrent (f : Frame) (bytes : List ℕ) : Type 0 where
  pub body : List ℕ
  pub sequences : List ℕ
  pub of_body : Spells f.body body
  pub of_sequences : SpellsSequences f.seqs sequences
  pub spelt : bytes
      ≡ front (length bytes) f.request_id f.response_to (flags_of f.more) ++ (0 ∷ body ++ sequences)

-- an OP_REPLY
pub record SpellsReply (f : Frame) (bytes : List ℕ) : Type 0 where
  pub body : List ℕ
  pub of_body : Spells f.body body
  pub spelt : bytes ≡ reply_front (length bytes) f.request_id f.response_to ++ body
