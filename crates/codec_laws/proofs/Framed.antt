-- A message's spelling in the protocol's terms is the spelling.
use Rattle.std.proofs.Common.{◌≡◌, ℕ, ◌+◌, Bool, true, false, List, [], ◌∷◌, ◌++◌, length, sym, ap}
use Rattle.std.proofs.Common.{◌∙◌}
use Rattle.std.specs.List.{flat_map}
use Rattle.std.proofs.lemmas.List.{length-append}
use Rattle.std.proofs.lemmas.List.Concat.{flat_map-cons}
use Rattle.bson_core.specs.Fields.{Document}
use Rattle.bson_core.specs.Spelling.{spelling}
use Rattle.op_msg.specs.Message.{Sequence, front, sequence_section, sequences, sections, flags_of}
use Rattle.op_msg.specs.Message.{reply_front, message_by, message}
use Rattle.op_msg.specs.declared.frame.Frame.{Frame}
use Rattle.op_msg.proofs.Fronts.{length_front, length_reply_front}
use Rattle.codec_laws.specs.Messages.{SpellsDocuments, SpellsSequences, SpellsCurrent, SpellsReply}
use Rattle.codec_laws.proofs.Spelt.{document_spelt}

documents_are : (docs : List Document) (bytes : List ℕ) → SpellsDocuments docs bytes
    → bytes ≡ flat_map spelling docs
documents_are [] bytes h = h
documents_are (doc ∷ docs) bytes h =
    let first = document_spelt doc h.0 h.2 in
    let rest = documents_are docs h.1 h.4 in
    h.3 ∙ (λ i. first i ++ rest i) ∙ sym (flat_map-cons spelling doc docs)

abbrev section_of : Sequence → List ℕ
section_of seq = sequence_section seq.0 (flat_map spelling seq.1)

sequences_are : (seqs : List Sequence) (bytes : List ℕ) → SpellsSequences seqs bytes
    → bytes ≡ sequences seqs
sequences_are [] bytes h = h
sequences_are (seq ∷ seqs) bytes h =
    let documents = documents_are seq.1 h.0 h.3 in
    let rest = sequences_are seqs h.1 h.5 in
    h.4 ∙ (λ i. sequence_section seq.0 (documents i) ++ rest i)
    ∙ sym (flat_map-cons section_of seq seqs)

pub current_spelt : (f : Frame) (bytes : List ℕ) → f.legacy ≡ false → SpellsCurrent f bytes
    → bytes ≡ message f
current_spelt f bytes form h =
    let body = document_spelt f.body h.body h.of_body in
    let more = sequences_are f.seqs h.sequences h.of_sequences in
    let inside : 0 ∷ h.body ++ h.sequences ≡ sections f = λ i. 0 ∷ body i ++ more i in
    let len : length bytes ≡ 20 + length (sections f) =
    ap length h.spelt ∙ length-append (front (length bytes) f.request_id f.response_to
    (flags_of f.more)) (0 ∷ h.body ++ h.sequences)
    ∙ (λ i. length_front (length bytes) f.request_id f.response_to (flags_of f.more) i
    + length (inside i)) in
    h.spelt ∙ (λ i. front (len i) f.request_id f.response_to (flags_of f.more) ++ inside i)
    ∙ sym (ap (λ (legacy : Bool). message_by legacy f) form)

pub reply_spelt : (f : Frame) (bytes : List ℕ) → f.legacy ≡ true → SpellsReply f bytes
    → bytes ≡ message f
reply_spelt f bytes form h =
    let body = document_spelt f.body h.body h.of_body in
    let len : length bytes ≡ 36 + length (spelling f.body) =
    ap length h.spelt ∙ length-append (reply_front (length bytes) f.request_id f.response_to) h.body
    ∙ (λ i. length_reply_front (length bytes) f.request_id f.response_to i + length (body i)) in
    h.spelt ∙ (λ i. reply_front (len i) f.request_id f.response_to ++ body i)
    ∙ sym (ap (λ (legacy : Bool). message_by legacy f) form)
