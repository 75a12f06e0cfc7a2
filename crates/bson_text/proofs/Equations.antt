-- The text of a value, kind by kind.
use Rattle.std.proofs.Common.{◌≡◌, ℕ, ℤ, List, ◌++◌, codes, map}
use Rattle.std.specs.Fmt.{signed_decimal}
use Rattle.bson_core.specs.declared.value.Value.{Value}
use Rattle.bson_core.specs.declared.value.Value.TheOpen as of
use Rattle.bson_core.specs.declared.value.Value.TheViews as views
use Rattle.bson_core.specs.declared.value.Value.TheVariants as variants
use Rattle.bson_core.specs.declared.value.Value.TheFolds.{fold-roll-Value}
use Rattle.bson_core.specs.Fields.{Document}
use Rattle.bson_text.specs.Text.{text_step, value_text, document_text, bracketed, hex_digits}

pub value_text_doc : (fields : Document) → value_text (views.Doc fields) ≡ document_text fields
unfolding views.roll-Value denote.Hole.Carrier.roll
value_text_doc fields = fold-roll-Value (List ℕ) text_step (of.Doc fields)

pub value_text_list : (values : List Value)
    → value_text (views.List values) ≡ bracketed (map value_text values)
unfolding views.roll-Value denote.Hole.Carrier.roll
value_text_list values = fold-roll-Value (List ℕ) text_step (of.List values)

pub value_text_oid : (bytes : List ℕ)
    → value_text (variants.Oid bytes) ≡ codes "o:" ++ hex_digits bytes
unfolding views.roll-Value denote.Hole.Carrier.roll
value_text_oid bytes = fold-roll-Value (List ℕ) text_step (of.Oid bytes)

pub value_text_date : (n : ℤ) → value_text (variants.Date n) ≡ codes "d:" ++ signed_decimal n
unfolding views.roll-Value denote.Hole.Carrier.roll
value_text_date n = fold-roll-Value (List ℕ) text_step (of.Date n)

pub ruleset value_text_kinds = (value_text_doc, value_text_list, value_text_oid, value_text_date)
