-- A spelling in the grammar's terms is the spelling.
use Rattle.std.proofs.Common.{◌≡◌, ℕ, zero, suc, ◌+◌, ◌≤◌, List, [], ◌∷◌, ◌++◌, length, map, refl}
use Rattle.std.proofs.Common.{sym, ap, subst, ◌∙◌, arith}
use Rattle.std.specs.Fmt.{decimal}
use Rattle.bson_core.specs.declared.value.Value.{Value}
use Rattle.bson_core.specs.declared.value.Value.TheOpen as of
use Rattle.bson_core.specs.declared.value.Value.TheOpen.{Value-F}
use Rattle.bson_core.specs.declared.value.Value.TheViews as views
use Rattle.bson_core.specs.declared.value.Value.TheViews.{roll-Value, out-Value, out-roll-Value}
use Rattle.bson_core.specs.declared.value.Value.TheViews.{roll-out-Value}
use Rattle.bson_core.specs.declared.value.Value.TheFolds.{fold-roll-Value}
use Rattle.bson_core.specs.Fields.{Document}
use Rattle.bson_core.specs.Spelling.{Coded, coded_step, coded, element, elements, numbered, framed}
use Rattle.bson_core.specs.Spelling.{spelling}
use Rattle.bson_core.specs.Grammar.{Relation, values_of, reads_leaf, reads_step, ReadsAt}
use Rattle.bson_core.specs.Grammar.{ReadsElements}
use Rattle.bson_core.specs.Written.{most}
use Rattle.bson_core.proofs.Lengths.{length_framed}
use Rattle.bson_core.proofs.Spelled.{coded_doc, coded_list}
use Rattle.codec_laws.specs.Spells.{named_by_place, spells_step, SpellsAt, Spells, IsRead}

-- The bytes of a value.

abbrev IsCoded : (Value → Relation) → Type 0
IsCoded spells = (value : Value) (kind : ℕ) (bytes : List ℕ) → spells value kind bytes
    → coded value ≡ (kind, bytes)

coded_leaf : (x : Value-F Value) (kind : ℕ) (bytes : List ℕ) → reads_leaf x kind bytes
    → coded (roll-Value x) ≡ (kind, bytes)
coded_leaf (of.Doc fields) kind bytes h = absurd h
coded_leaf (of.List values) kind bytes h = absurd h
coded_leaf (of.Text t) kind bytes h = fold-roll-Value Coded coded_step (of.Text t) ∙ cc
coded_leaf (of.Bin b) kind bytes h = fold-roll-Value Coded coded_step (of.Bin b) ∙ cc
coded_leaf (of.Oid id) kind bytes h = fold-roll-Value Coded coded_step (of.Oid id) ∙ cc
coded_leaf (of.Bool b) kind bytes h = fold-roll-Value Coded coded_step (of.Bool b) ∙ cc
coded_leaf (of.Date n) kind bytes h = fold-roll-Value Coded coded_step (of.Date n) ∙ cc
coded_leaf of.Null kind bytes h = fold-roll-Value Coded coded_step of.Null ∙ cc
coded_leaf (of.Int n) kind bytes h = fold-roll-Value Coded coded_step (of.Int n) ∙ cc
coded_leaf (of.Stamp n) kind bytes h = fold-roll-Value Coded coded_step (of.Stamp n) ∙ cc
coded_leaf (of.Long n) kind bytes h = fold-roll-Value Coded coded_step (of.Long n) ∙ cc

-- the elements of a document, and of a list
elements_spelt : (spells : Value → Relation) → IsCoded spells → (fields : Document) (bytes : List ℕ)
    → ReadsElements spells fields bytes → bytes ≡ elements fields
elements_spelt spells is [] bytes h = h
elements_spelt spells is (field ∷ fields) bytes h =
    h.5 ∙ ap (λ (t : List ℕ). (h.0 ∷ field.0 ++ 0 ∷ h.1)
    ++ t) (elements_spelt spells is fields h.2 h.6)
    ∙ ap (λ (c : Coded). element (field.0, c) ++ elements fields) (sym (is field.1 h.0 h.1 h.3))

elements_named : (place : ℕ) (values : List Value)
    → elements (named_by_place place values) ≡ numbered place (map coded values)
elements_named place [] = refl
elements_named place (value ∷ values) = ap (λ (t : List ℕ). element (decimal place, coded value)
    ++ t) (elements_named (place + 1) values)

coded_inside : (spells : Value → Relation) → IsCoded spells
    → (x : Value-F Value) (kind : ℕ) (bytes : List ℕ) → spells_step spells x kind bytes
    → coded (roll-Value x) ≡ (kind, bytes)
unfolding views.roll-Value denote.Hole.Carrier.roll
coded_inside spells is (of.Doc fields) kind bytes h =
    let inside = elements_spelt spells is fields h.1.0 h.1.1 in
    coded_doc fields ∙ ap (λ (e : List ℕ). (3, framed e)) (sym inside) ∙ cc (h.0, h.1.2)
coded_inside spells is (of.List values) kind bytes h =
    let inside = elements_spelt spells is (named_by_place 0 values) h.1.0 h.1.1
    ∙ elements_named 0 values in
    coded_list values ∙ ap (λ (e : List ℕ). (4, framed e)) (sym inside) ∙ cc (h.0, h.1.2)
coded_inside spells is x kind bytes h = coded_leaf x kind bytes h

pub value_spelt : (levels : ℕ) → IsCoded (SpellsAt levels)
unfolding SpellsAt
value_spelt zero value kind bytes h = subst (λ (v : Value). coded v
    ≡ (kind, bytes)) (roll-out-Value value) (coded_leaf (out-Value value) kind bytes h)
value_spelt (suc levels) value kind bytes h =
    subst (λ (v : Value). coded v ≡ (kind, bytes)) (roll-out-Value value)
    (coded_inside (SpellsAt levels) (value_spelt levels) (out-Value value) kind bytes h)

pub document_spelt : (d : Document) (bytes : List ℕ) → Spells d bytes → bytes ≡ spelling d
document_spelt d bytes h = h.1.2
    ∙ ap framed (elements_spelt (SpellsAt h.0) (value_spelt h.0) d h.1.0 h.1.1)

pub spelt_short : (d : Document) (bytes : List ℕ) → Spells d bytes → length bytes ≤ most
spelt_short d bytes h = omega (arith, ap length h.1.2, length_framed h.1.0, h.1.3)

-- A spelling is read.

values_of_named : (place : ℕ) (values : List Value)
    → values_of (named_by_place place values) ≡ values
values_of_named place [] = refl
values_of_named place (value ∷ values) =
    ap (λ (vs : List Value). value ∷ vs) (values_of_named (place + 1) values)

elements_read : (spells reads : Value → Relation) → ((value : Value) (kind : ℕ) (bytes : List ℕ)
    → spells value kind bytes → reads value kind bytes) → (fields : Document) (bytes : List ℕ)
    → ReadsElements spells fields bytes → ReadsElements reads fields bytes
elements_read spells reads each [] bytes h = h
elements_read spells reads each (field ∷ fields) bytes h = (
  h.0,
  h.1,
  h.2,
  each field.1 h.0 h.1 h.3,
  h.4,
  h.5,
  elements_read spells reads each fields h.2 h.6,
)

step_read : (spells reads : Value → Relation) → ((value : Value) (kind : ℕ) (bytes : List ℕ)
    → spells value kind bytes → reads value kind bytes)
    → (x : Value-F Value) (kind : ℕ) (bytes : List ℕ) → spells_step spells x kind bytes
    → reads_step reads x kind bytes
step_read spells reads each (of.Doc fields) kind bytes h =
    (h.0, (h.1.0, elements_read spells reads each fields h.1.0 h.1.1, h.1.2, h.1.3))
step_read spells reads each (of.List values) kind bytes h = (
  h.0,
  (
    h.1.0,
    (
      named_by_place 0 values,
      values_of_named 0 values,
      elements_read spells reads each (named_by_place 0 values) h.1.0 h.1.1,
    ),
    h.1.2,
    h.1.3,
  ),
)
step_read spells reads each x kind bytes h = h

value_read : (levels : ℕ) (value : Value) (kind : ℕ) (bytes : List ℕ)
    → SpellsAt levels value kind bytes → ReadsAt levels value kind bytes
unfolding SpellsAt ReadsAt
value_read zero value kind bytes h = h
value_read (suc levels) value kind bytes h =
    step_read (SpellsAt levels) (ReadsAt levels) (value_read levels) (out-Value value) kind bytes h

pub spelt_read : (d : Document) (bytes : List ℕ) → Spells d bytes → IsRead d bytes
spelt_read d bytes h = (
  h.0,
  (h.1.0, elements_read (SpellsAt h.0) (ReadsAt h.0) (value_read h.0) d h.1.0 h.1.1, h.1.2, h.1.3),
)
