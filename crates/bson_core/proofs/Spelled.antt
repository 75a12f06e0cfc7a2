-- The equations of the spelling.
use Rattle.std.proofs.Common.{◌≡◌, ℕ, List, [], ◌∷◌, ◌++◌, map, refl, ap, ◌∙◌}
use Rattle.std.specs.List.{flat_map}
use Rattle.std.proofs.lemmas.List.Concat.{flat_map-cons}
use Rattle.bson_core.specs.declared.value.Bin.{Bin}
use Rattle.bson_core.specs.declared.value.Value.{Value}
use Rattle.bson_core.specs.declared.value.Value.TheOpen as of
use Rattle.bson_core.specs.declared.value.Value.TheViews as views
use Rattle.bson_core.specs.declared.value.Value.TheVariants as variants
use Rattle.bson_core.specs.declared.value.Value.TheFolds.{fold-roll-Value}
use Rattle.bson_core.specs.Fields.{Document}
use Rattle.bson_core.specs.Spelling.{Coded, coded_step, coded, element, elements, numbered, framed}
use Rattle.bson_core.specs.Spelling.{text, binary}

elements_are : (fields : Document) → flat_map element
    (map (λ (field : List ℕ × Value). (field.0, coded field.1)) fields) ≡ elements fields
elements_are [] = refl
elements_are (field ∷ fields) = flat_map-cons element (field.0, coded field.1)
    (map (λ (x : List ℕ × Value). (x.0, coded x.1)) fields)
    ∙ ap (λ (t : List ℕ). element (field.0, coded field.1) ++ t) (elements_are fields)

pub coded_doc : (fields : Document) → coded (views.Doc fields) ≡ (3, framed (elements fields))
unfolding views.roll-Value denote.Hole.Carrier.roll
coded_doc fields = fold-roll-Value Coded coded_step (of.Doc fields)
    ∙ ap (λ (t : List ℕ). (3, framed t)) (elements_are fields)

pub coded_list : (values : List Value)
    → coded (views.List values) ≡ (4, framed (numbered 0 (map coded values)))
unfolding views.roll-Value denote.Hole.Carrier.roll
coded_list values = fold-roll-Value Coded coded_step (of.List values)

pub coded_text : (bytes : List ℕ) → coded (variants.Text bytes) ≡ (2, text bytes)
unfolding views.roll-Value denote.Hole.Carrier.roll
coded_text bytes = fold-roll-Value Coded coded_step (of.Text bytes)

pub coded_bin : (b : Bin) → coded (variants.Bin b) ≡ (5, binary b)
unfolding views.roll-Value denote.Hole.Carrier.roll
coded_bin b = fold-roll-Value Coded coded_step (of.Bin b)

pub coded_oid : (bytes : List ℕ) → coded (variants.Oid bytes) ≡ (7, bytes)
unfolding views.roll-Value denote.Hole.Carrier.roll
coded_oid bytes = fold-roll-Value Coded coded_step (of.Oid bytes)
