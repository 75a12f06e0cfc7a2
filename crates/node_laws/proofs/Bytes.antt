-- No two messages between nodes have the same bytes.
use Rattle.std.proofs.Common.{◌≡◌, ℕ, ℤ, pos, false, ◌^◌, ◌<◌, ◌≤◌, ◌+◌, List, [], ◌∷◌, ◌++◌}
use Rattle.std.proofs.Common.{length, drop, codes, Some, Result, Ok, Err, refl, sym, ap, ◌∙◌}
use Rattle.std.proofs.Common.{append-nil, arith, FitsSigned}
use Rattle.std.specs.Int.{w32}
use Rattle.std.specs.List.{All}
use Rattle.std.proofs.lemmas.List.{drop_at}
use Rattle.std.proofs.lemmas.List.Elements.{All-nil, All-cons}
use Rattle.std.proofs.lemmas.Str.{IsUtf8-from_ascii, is_utf8-from_IsUtf8}
use Rattle.std.proofs.lemmas.Str.Ascii.{IsAscii-nil, IsAscii-cons}
use Rattle.bson_core.specs.declared.value.Value.{Value}
use Rattle.bson_core.specs.declared.value.Value.TheOpen as of
use Rattle.bson_core.specs.declared.value.Value.TheViews as views
use Rattle.bson_core.specs.declared.value.Value.TheVariants as value
use Rattle.bson_core.specs.declared.value.Value.TheFolds.{fold-roll-Value}
use Rattle.bson_core.specs.Fields.{Document}
use Rattle.bson_core.specs.Names.{IsName}
use Rattle.bson_core.specs.Nesting.{levels_step, levels, nesting}
use Rattle.bson_core.specs.Spelling.{spelling}
use Rattle.bson_core.specs.Written.{IsFieldWritten}
use Rattle.bson_core.proofs.InGrammar.{text_written, bin_written, int_written}
use Rattle.op_msg.specs.Message.{message, front, sections}
use Rattle.op_msg.specs.declared.frame.Frame.{Frame}
use Rattle.op_msg.proofs.Fronts.{length_front}
use Rattle.txn_types.specs.declared.message.Envelope.{Envelope}
use Rattle.txn_types.specs.declared.message.Msg.{Msg}
use Rattle.txn_types.specs.declared.message.Msg.TheVariants as msg
use Rattle.node_wire.specs.declared.error.WireErr.{WireErr}
use Rattle.node_wire.specs.Errors.{most}
use Rattle.node_wire.specs.Reading.{document_at}
use Rattle.node_wire.specs.Spelling.{body_of, frame_of, msg_kind, envelope_bytes, envelope_frame}
use Rattle.node_wire.specs.Spelling.{batch_bytes, batch_frame}
use Rattle.node_wire.proofs.Lengths.{length_body, length_frame}
use Rattle.node_laws.specs.Fits.{DocumentFits, EnvelopeFits, BatchedFits, ListFits}
use Rattle.node_laws.proofs.Parts.{document_again}
use Rattle.node_laws.proofs.Messages.{envelopes_apart, batches_apart}

-- The body is a document that can be written.

mtx_name : IsName (codes "mtx")
mtx_name =
    let ascii = IsAscii-cons 109 (116 ∷ 120 ∷ []) (omega arith) (IsAscii-cons 116 (120 ∷ [])
    (omega arith) (IsAscii-cons 120 [] (omega arith) IsAscii-nil)) in
    (is_utf8-from_IsUtf8 (codes "mtx") (IsUtf8-from_ascii (codes "mtx") ascii), refl)

db_name : IsName (codes "$db")
db_name =
    let ascii = IsAscii-cons 36 (100 ∷ 98 ∷ []) (omega arith) (IsAscii-cons 100 (98 ∷ [])
    (omega arith) (IsAscii-cons 98 [] (omega arith) IsAscii-nil)) in
    (is_utf8-from_IsUtf8 (codes "$db") (IsUtf8-from_ascii (codes "$db") ascii), refl)

b_name : IsName (codes "b")
b_name = (
  is_utf8-from_IsUtf8 (codes "b")
      (IsUtf8-from_ascii (codes "b") (IsAscii-cons 98 [] (omega arith) IsAscii-nil)),
  refl,
)

flat_int : (n : ℤ) → levels (value.Int n) ≡ 0
unfolding views.roll-Value denote.Hole.Carrier.roll
flat_int n = fold-roll-Value ℕ levels_step (of.Int n)

flat_text : (t : List ℕ) → levels (value.Text t) ≡ 0
unfolding views.roll-Value denote.Hole.Carrier.roll
flat_text t = fold-roll-Value ℕ levels_step (of.Text t)

flat_bin : (bytes : List ℕ) → levels (value.Bin (record { subtype = 0; bytes = bytes })) ≡ 0
unfolding views.roll-Value denote.Hole.Carrier.roll
flat_bin bytes = fold-roll-Value ℕ levels_step (of.Bin (record { subtype = 0; bytes = bytes }))

one_level : (kind : ℕ) (bytes : List ℕ) → nesting (body_of kind bytes) ≤ 100
one_level kind bytes =
    rw (flat_int (pos kind), flat_text (codes "mtx"), flat_bin bytes) (omega arith)

fields_written : (kind : ℕ) (bytes : List ℕ) → FitsSigned w32 (pos kind)
    → All IsFieldWritten (body_of kind bytes)
fields_written kind bytes fits =
    let content = value.Bin (record { subtype = 0; bytes = bytes }) in
    let last : List ℕ × Value = (codes "b", content) in
    let second : List ℕ × Value = (codes "$db", value.Text (codes "mtx")) in
    All-cons IsFieldWritten (codes "mtx", value.Int (pos kind)) (second ∷ last ∷ [])
    (mtx_name, int_written (pos kind) fits)
    (All-cons IsFieldWritten second (last ∷ [])
    (db_name, text_written (codes "mtx") (mtx_name.0)) (All-cons IsFieldWritten last []
    (b_name, bin_written (record { subtype = 0; bytes = bytes })) (All-nil IsFieldWritten)))

body_fits : (kind : ℕ) (bytes : List ℕ) → FitsSigned w32 (pos kind)
    → length (message (frame_of kind bytes)) ≤ most → DocumentFits (body_of kind bytes)
body_fits kind bytes fits small = (
  fields_written kind bytes fits,
  one_level kind bytes,
  omega (arith, length_body kind bytes, length_frame kind bytes, small),
)

-- What stands after the header and the section's kind is the body.

behind_header : (kind : ℕ) (bytes : List ℕ)
    → drop 20 (message (frame_of kind bytes)) ≡ 0 ∷ (spelling (body_of kind bytes) ++ [])
behind_header kind bytes =
    let f = frame_of kind bytes in
    drop_at (front (20 + length (sections f)) (pos 0) (pos 0) 0) (sections f) 20
    (length_front (20 + length (sections f)) (pos 0) (pos 0) 0)

body_bytes : (kind : ℕ) (bytes : List ℕ)
    → drop 1 (drop 20 (message (frame_of kind bytes))) ≡ spelling (body_of kind bytes)
body_bytes kind bytes = ap (drop 1) (behind_header kind bytes)
    ∙ append-nil (spelling (body_of kind bytes))

abbrev document_in : Result (Document × List ℕ) WireErr → Document
document_in (Ok x) = x.0
document_in (Err e) = []

doc_is : (a b : Document)
    → ◌≡◌ {A = Result (Document × List ℕ) WireErr} (Ok (a, [])) (Ok (b, [])) → a ≡ b
doc_is a b e = ap document_in e

same_bodies : (a b : Document) → DocumentFits a → DocumentFits b → spelling a ≡ spelling b → a ≡ b
same_bodies a b h k e =
    let first : document_at 0 (spelling a) ≡ Ok (a, []) =
    ap (document_at 0) (sym (append-nil (spelling a))) ∙ document_again 0 a h [] in
    let second : document_at 0 (spelling b) ≡ Ok (b, []) =
    ap (document_at 0) (sym (append-nil (spelling b))) ∙ document_again 0 b k [] in
    doc_is a b (sym first ∙ ap (document_at 0) e ∙ second)

same_frames : (m n : ℕ) (a b : List ℕ) → FitsSigned w32 (pos m) → FitsSigned w32 (pos n)
    → length (message (frame_of m a)) ≤ most → length (message (frame_of n b)) ≤ most
    → message (frame_of m a) ≡ message (frame_of n b) → frame_of m a ≡ frame_of n b
same_frames m n a b h k small few e =
    let bodies = same_bodies (body_of m a) (body_of n b) (body_fits m a h small) (body_fits n
    b k few) (sym (body_bytes m a) ∙ ap (λ (bytes : List ℕ). drop 1 (drop 20 bytes)) e
    ∙ body_bytes n b) in
    ap (λ (body : Document). record {
      request_id = pos 0;
      response_to = pos 0;
      legacy = false;
      more = false;
      body = body;
      seqs = [];
    }) bodies

small_kind : (k : ℕ) → k ≤ 12 → FitsSigned w32 (pos k)
small_kind k le = omega (arith, le)

kind_small : (m : Msg) → msg_kind m ≤ 12
kind_small (msg.Statement m) = omega arith
kind_small (msg.Answer m) = omega arith
kind_small (msg.Commit m) = omega arith
kind_small (msg.Outcome m) = omega arith
kind_small (msg.Abort m) = omega arith
kind_small (msg.CommitTwo m) = omega arith
kind_small (msg.Prepare m) = omega arith
kind_small (msg.Vote m) = omega arith
kind_small (msg.Decide m) = omega arith
kind_small (msg.Acked m) = omega arith
kind_small (msg.Recover m) = omega arith
kind_small msg.Nudge = omega arith

pub envelopes_differ : (a b : Envelope) → EnvelopeFits a → EnvelopeFits b
    → length (message (envelope_frame a)) ≤ most → length (message (envelope_frame b)) ≤ most
    → message (envelope_frame a) ≡ message (envelope_frame b) → a ≡ b
envelopes_differ a b h k small few e =
    envelopes_apart a b h k (same_frames (msg_kind a.msg) (msg_kind b.msg) (envelope_bytes a)
    (envelope_bytes b) (small_kind (msg_kind a.msg) (kind_small a.msg))
    (small_kind (msg_kind b.msg) (kind_small b.msg)) small few e)

pub batches_differ : (a b : List Envelope) → ListFits BatchedFits a → ListFits BatchedFits b
    → length (message (batch_frame a)) ≤ most → length (message (batch_frame b)) ≤ most
    → message (batch_frame a) ≡ message (batch_frame b) → a ≡ b
batches_differ a b h k small few e =
    batches_apart a b h k (same_frames 0 0 (batch_bytes a) (batch_bytes b)
    (small_kind 0 (omega arith)) (small_kind 0 (omega arith)) small few e)
