-- What is written of ids is read again, whatever stands after it.
use Rattle.std.proofs.Common.{◌≡◌, ℕ, ◌≤◌, List, [], ◌∷◌, ◌++◌, length, Some, Ok, refl, ap, ◌∙◌}
use Rattle.std.proofs.Common.{arith}
use Rattle.std.specs.List.{All}
use Rattle.std.proofs.lemmas.List.Elements.{All-nil, All-cons}
use Rattle.std.proofs.lemmas.Str.{IsUtf8-from_ascii, is_utf8-from_IsUtf8}
use Rattle.std.proofs.lemmas.Str.Ascii.{IsAscii-nil, IsAscii-cons}
use Rattle.bson_core.specs.declared.value.Value.{Value}
use Rattle.bson_core.specs.declared.value.Value.TheOpen as of
use Rattle.bson_core.specs.declared.value.Value.TheViews as views
use Rattle.bson_core.specs.declared.value.Value.TheViews.{out-Value}
use Rattle.bson_core.specs.declared.value.Value.TheFolds.{fold-roll-Value}
use Rattle.bson_core.specs.Fields.{Document}
use Rattle.bson_core.specs.Names.{IsName}
use Rattle.bson_core.specs.Nesting.{levels_step, levels, nesting}
use Rattle.bson_core.specs.Spelling.{spelling}
use Rattle.bson_core.specs.Written.{IsWritten, IsFieldWritten}
use Rattle.bson_core.proofs.InGrammar.{text_written, bin_written, oid_written, bool_written}
use Rattle.bson_core.proofs.InGrammar.{date_written, long_written}
use Rattle.txn_types.specs.Ids.{id_name, value_of_id, id_document}
use Rattle.txn_types.specs.declared.id.Id.{Id}
use Rattle.txn_types.specs.declared.id.Id.TheVariants as kinds
use Rattle.node_wire.specs.Reading.{document_at, long_id, id_at}
use Rattle.node_wire.specs.Spelling.{id_bytes}
use Rattle.node_laws.specs.Fits.{DocumentFits, ContentFits, IdFits}
use Rattle.node_laws.proofs.Parts.{IsReadAs, document_again}

flat : (id : Id) → levels (value_of_id id) ≡ 0
unfolding views.roll-Value denote.Hole.Carrier.roll
flat (kinds.Num n) = fold-roll-Value ℕ levels_step (of.Long n)
flat (kinds.Text t) = fold-roll-Value ℕ levels_step (of.Text t)
flat (kinds.Bin b) = fold-roll-Value ℕ levels_step (of.Bin b)
flat (kinds.Oid bytes) = fold-roll-Value ℕ levels_step (of.Oid bytes)
flat (kinds.Bool b) = fold-roll-Value ℕ levels_step (of.Bool b)
flat (kinds.Date n) = fold-roll-Value ℕ levels_step (of.Date n)

id_written : (id : Id) → ContentFits id → IsWritten (value_of_id id)
id_written (kinds.Num n) h = long_written n h
id_written (kinds.Text t) h = text_written t h
id_written (kinds.Bin b) h = bin_written b
id_written (kinds.Oid bytes) h = oid_written bytes h
id_written (kinds.Bool b) h = bool_written b
id_written (kinds.Date n) h = date_written n h

its_id : (id : Id) → long_id (out-Value (value_of_id id)) (value_of_id id) ≡ Some id
unfolding views.out-Value denote.Hole.Carrier.out views.roll-Value denote.Hole.Carrier.roll
its_id (kinds.Num n) = refl
its_id (kinds.Text t) = refl
its_id (kinds.Bin b) = refl
its_id (kinds.Oid bytes) = refl
its_id (kinds.Bool b) = refl
its_id (kinds.Date n) = refl

one_level : (v : Value) → levels v ≡ 0 → nesting ((id_name, v) ∷ []) ≤ 100
one_level v h = rw h (omega arith)

id_name_is_name : IsName id_name
id_name_is_name =
    let ascii = IsAscii-cons 95 (105 ∷ 100 ∷ []) (omega arith) (IsAscii-cons 105 (100 ∷ [])
    (omega arith) (IsAscii-cons 100 [] (omega arith) IsAscii-nil)) in
    (is_utf8-from_IsUtf8 id_name (IsUtf8-from_ascii id_name ascii), refl)

id_document_fits : (id : Id) → IdFits id → DocumentFits (id_document id)
id_document_fits id h = (
  All-cons IsFieldWritten (id_name, value_of_id id) [] (id_name_is_name, id_written id h.0)
      (All-nil IsFieldWritten),
  one_level (value_of_id id) (flat id),
  h.1,
)

id_pieces : (end : ℕ) (bytes rest : List ℕ) (id : Id) (v : Value)
    → document_at end (bytes ++ rest) ≡ Ok ((id_name, v) ∷ [], rest)
    → long_id (out-Value v) v ≡ Some id → id_at end (bytes ++ rest) ≡ Ok (id, rest)
unfolding id_at
id_pieces end bytes rest id v h its = rw (h, its) refl

pub id_again : (end : ℕ) (id : Id) → IdFits id → IsReadAs (id_at end) (id_bytes id) id
id_again end id h rest = id_pieces end (id_bytes id) rest id (value_of_id id) (document_again end
    (id_document id) (id_document_fits id h) rest) (its_id id)
