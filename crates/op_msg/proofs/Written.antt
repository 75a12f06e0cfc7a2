-- What is written of a message is that message.
use Rattle.std.proofs.Common.{◌≡◌, ℕ, ◌^◌, ◌<◌, ◌≤◌, Bool, true, false, inl, inr, List, [], ◌∷◌}
use Rattle.std.proofs.Common.{◌++◌, length, refl, sym, ap, subst, ◌∙◌, arith, FitsSigned}
use Rattle.std.specs.Int.{w32}
use Rattle.std.specs.List.{All, flat_map}
use Rattle.std.proofs.Math.Nat.{div-eq_of_lt}
use Rattle.std.proofs.Math.Pow.{pow-lt}
use Rattle.std.proofs.lemmas.List.{append-nil, length-append}
use Rattle.std.proofs.lemmas.List.Elements.{All-head, All-tail}
use Rattle.bson_core.specs.Fields.{Document}
use Rattle.bson_core.specs.Spelling.{spelling}
use Rattle.bson_core.specs.Written.{most}
use Rattle.op_msg.specs.Message.{Sequence, Section, front, sequence_section, sequences, sections}
use Rattle.op_msg.specs.Message.{flags_of, message_by, message, has_flag, ReadsDocuments}
use Rattle.op_msg.specs.Message.{ReadsSections, bodies, sequences_of, IsWithinLimits, AreFlags}
use Rattle.op_msg.specs.Message.{IsCurrent, IsMessage}
use Rattle.op_msg.specs.Written.{IsShallow, HasShallowDocuments, IsWritten, IsSequenceWritten}
use Rattle.op_msg.specs.declared.frame.Frame.{Frame}
use Rattle.op_msg.proofs.Fronts.{length_sequence_section, length_sections, length_message}

-- Flags.

no_flag : (bit flags : ℕ) → flags ≤ 2 → 2 ≤ bit → has_flag bit flags ≡ false
no_flag bit flags small high =
    let least : 2 ^ 1 < 2 ^ bit = pow-lt {i = 1} {j = bit} (omega arith) in
    let none : flags < 2 ^ bit = omega arith in
    rw (div-eq_of_lt none) refl

are_flags : (more : Bool) → AreFlags (flags_of more) more []
are_flags true = record {
  fits = omega arith;
  known = λ bit high low. no_flag bit 2 (omega arith) high;
  more_to_come = refl;
  sum = refl;
}
are_flags false = record {
  fits = omega arith;
  known = λ bit high low. no_flag bit 0 (omega arith) high;
  more_to_come = refl;
  sum = refl;
}

-- Sections.

documents_read : (docs : List Document) → All IsWritten docs → All IsShallow docs
    → length (flat_map spelling docs) ≤ most → ReadsDocuments docs (flat_map spelling docs)
documents_read [] written shallow small = refl
documents_read (doc ∷ docs) written shallow small =
    let len = length-append (spelling doc) (flat_map spelling docs) in (
      spelling doc,
      flat_map spelling docs,
      All-head IsWritten doc docs written (All-head IsShallow doc docs shallow) (omega arith),
      refl,
      documents_read docs (All-tail IsWritten doc docs written)
          (All-tail IsShallow doc docs shallow) (omega arith),
    )

-- the sequences as sections
abbrev sections_of : List Sequence → List Section
sections_of [] = []
sections_of (seq ∷ seqs) = inr seq ∷ sections_of seqs

abbrev AreShallow : Sequence → Type 0
AreShallow seq = All IsShallow seq.1

sections_read : (seqs : List Sequence) → All IsSequenceWritten seqs → All AreShallow seqs
    → length (sequences seqs) ≤ most → ReadsSections (sections_of seqs) (sequences seqs)
sections_read [] written shallow small = refl
sections_read (seq ∷ seqs) written shallow small =
    let documents = flat_map spelling seq.1 in
    let section = sequence_section seq.0 documents in
    let len = length-append section (sequences seqs) in
    let inner = length_sequence_section seq.0 documents in
    let first = All-head IsSequenceWritten seq seqs written in (
      section,
      sequences seqs,
      (
        documents,
        first.0,
        documents_read seq.1 first.1 (All-head AreShallow seq seqs shallow) (omega arith),
        refl,
      ),
      refl,
      sections_read seqs (All-tail IsSequenceWritten seq seqs written)
          (All-tail AreShallow seq seqs shallow) (omega arith),
    )

no_bodies : (seqs : List Sequence) → bodies (sections_of seqs) ≡ []
no_bodies [] = refl
no_bodies (seq ∷ seqs) = no_bodies seqs

same_sequences : (seqs : List Sequence) → sequences_of (sections_of seqs) ≡ seqs
same_sequences [] = refl
same_sequences (seq ∷ seqs) = ap (λ (more : List Sequence). seq ∷ more) (same_sequences seqs)

-- The whole.

is_current : (f : Frame) → FitsSigned w32 f.request_id → FitsSigned w32 f.response_to
    → IsWritten f.body → All IsSequenceWritten f.seqs
    → f.legacy ≡ false → HasShallowDocuments f → IsWithinLimits (length (message_by false f)) f.body
    → IsCurrent (message_by false f) f
is_current f request response body_written seqs_written modern shallow limits =
    let whole = length_message f in
    let inside = length_sections f in record {
      flags = flags_of f.more;
      parts = inl f.body ∷ sections_of f.seqs;
      inside = sections f;
      checksum = [];
      spelled = sym (append-nil (message_by false f)) ∙ ap (λ (len : ℕ).
          front len f.request_id f.response_to (flags_of f.more) ++ sections f ++ []) (sym whole);
      request_id = request;
      response_to = response;
      are_flags = are_flags f.more;
      reads = (
        0 ∷ spelling f.body,
        sequences f.seqs,
        (spelling f.body, body_written shallow.body (omega arith), refl),
        refl,
        sections_read f.seqs seqs_written shallow.seqs (omega arith),
      );
      body = ap (λ (more : List Document). f.body ∷ more) (no_bodies f.seqs);
      seqs = same_sequences f.seqs;
      limits = limits;
      modern = modern;
    }

pub is_message : (f : Frame) → FitsSigned w32 f.request_id → FitsSigned w32 f.response_to
    → IsWritten f.body → All IsSequenceWritten f.seqs
    → f.legacy ≡ false → HasShallowDocuments f → IsWithinLimits (length (message f)) f.body
    → IsMessage (message f) f
is_message f request response body_written seqs_written modern shallow limits =
    subst (λ (bytes : List ℕ). IsMessage bytes f) (ap (λ (b : Bool). message_by b f) (sym modern))
    (inl (is_current f request response body_written seqs_written modern shallow
    (subst (λ (b : Bool). IsWithinLimits (length (message_by b f)) f.body) modern limits)))
