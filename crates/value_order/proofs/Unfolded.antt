-- The order of values, opened one level: by the brackets, then by number, bytes and parts.
use Rattle.std.proofs.Common.{◌≡◌, ℕ, List, [], ◌∷◌, map, refl, ap, ◌∙◌, sym}
use Rattle.std.specs.declared.cmp.Ordering.{Ordering}
use Rattle.std.specs.declared.cmp.Ordering.TheVariants.{Less, Equal, Greater}
use Rattle.std.specs.Ordering.{ordering_then, nat_cmp, int_cmp}
use Rattle.std.specs.Cmp.Lexicographic.{slice_cmp}
use Rattle.bson_core.specs.declared.value.Value.{Value, map-Value}
use Rattle.bson_core.specs.declared.value.Value.TheOpen as of
use Rattle.bson_core.specs.declared.value.Value.TheOpen.{Value-F}
use Rattle.bson_core.specs.declared.value.Value.TheViews.{out-Value}
use Rattle.bson_core.specs.declared.value.Value.TheFolds.{fold_out-Value}
use Rattle.bson_core.specs.Order.{bracket, bracket_of, number_of, bytes_of, parts_of, Place}
use Rattle.bson_core.specs.Order.{parts_cmp, place_step, place, value_cmp}
use Rattle.value_order.specs.Parts.{field_cmp}

then_assoc : (a b c : Ordering)
    → ordering_then (ordering_then a b) c ≡ ordering_then a (ordering_then b c)
then_assoc Less b c = refl
then_assoc Equal b c = refl
then_assoc Greater b c = refl

pub then_again : (a b : Ordering) → ordering_then a (ordering_then a b) ≡ ordering_then a b
then_again Less b = refl
then_again Equal b = refl
then_again Greater b = refl

-- a field of a document; a value of a list, which has no name
abbrev pub Part : Type 0
Part = List ℕ × Value

abbrev pub unnamed : Value → Part
unnamed value = ([], value)

-- one level, where `below` compares the parts
abbrev pub level : (Part → Part → Ordering) → Value-F Value → Value-F Value → Ordering
level below x y = ordering_then (nat_cmp (bracket_of x) (bracket_of y))
    (ordering_then (int_cmp (number_of x) (number_of y)) (ordering_then
    (slice_cmp nat_cmp (bytes_of x) (bytes_of y)) (slice_cmp below (parts_of x) (parts_of y))))

bracket_kept : (x : Value-F Value) → bracket_of (map-Value Value Place place x) ≡ bracket_of x
bracket_kept of.Null = refl
bracket_kept x = refl

-- the place of a value has its bracket
place_bracket : (a : Value) → (place a).0 ≡ bracket a
place_bracket a = ap (λ (p : Place). p.0) (fold_out-Value Place place_step a)
    ∙ bracket_kept (out-Value a)

regroup : (a b c d : Ordering) → ordering_then a (ordering_then b (ordering_then c d))
    ≡ ordering_then (ordering_then a (ordering_then b c)) d
regroup Less b c d = refl
regroup Equal b c d = sym (then_assoc b c d)
regroup Greater b c d = refl

fields_are : (xs ys : List Part)
    → parts_cmp (map (λ (p : Part). (p.0, place p.1)) xs) ys ≡ slice_cmp field_cmp xs ys
unfolding value_cmp
fields_are [] [] = refl
fields_are [] (y ∷ ys) = refl
fields_are (x ∷ xs) [] = refl
fields_are (x ∷ xs) (y ∷ ys) =
    rw (place_bracket x.1, fields_are xs ys) (regroup (nat_cmp (bracket x.1) (bracket y.1))
    (slice_cmp nat_cmp x.0 y.0) (value_cmp x.1 y.1) (slice_cmp field_cmp xs ys))

values_are : (xs : List Value) (ys : List Part) → parts_cmp (map (λ (p : Place). ([], p))
    (map place xs)) ys ≡ slice_cmp field_cmp (map unnamed xs) ys
unfolding value_cmp
values_are [] [] = refl
values_are [] (y ∷ ys) = refl
values_are (x ∷ xs) [] = refl
values_are (x ∷ xs) (y ∷ ys) =
    rw (place_bracket x, values_are xs ys) (regroup (nat_cmp (bracket x) (bracket y.1))
    (slice_cmp nat_cmp [] y.0) (value_cmp x y.1) (slice_cmp field_cmp (map unnamed xs) ys))

placed : (x : Value-F Value) (b : Value)
    → (place_step (map-Value Value Place place x)).1 b ≡ level field_cmp x (out-Value b)
placed (of.Doc fields) b = rw (fields_are fields (parts_of (out-Value b))) refl
placed (of.List values) b = rw (values_are values (parts_of (out-Value b))) refl
placed x b = rw (fields_are [] (parts_of (out-Value b))) refl

pub opened : (a b : Value) → value_cmp a b ≡ level field_cmp (out-Value a) (out-Value b)
unfolding value_cmp
opened a b = ap (λ (p : Place). p.1 b) (fold_out-Value Place place_step a) ∙ placed (out-Value a) b
