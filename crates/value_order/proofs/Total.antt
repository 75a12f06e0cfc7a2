-- The order of values is total. This is shown of the order that goes a number of levels deep, by
-- induction on the number. A number as large as the size of a value is deep enough for it.
use Rattle.std.proofs.Common.{◌≡◌, ℕ, zero, suc, ◌+◌, ◌≤◌, List, [], ◌∷◌, map, refl, ap, ◌∙◌, sym}
use Rattle.std.proofs.Common.{arith}
use Rattle.std.specs.declared.cmp.Ordering.{Ordering}
use Rattle.std.specs.declared.cmp.Ordering.TheVariants.{Equal}
use Rattle.std.specs.Ordering.{ordering_then, ordering_reverse, nat_cmp}
use Rattle.std.specs.Cmp.{IsTotalOrder}
use Rattle.std.specs.Cmp.Lexicographic.{slice_cmp}
use Rattle.std.proofs.lemmas.Cmp.{on_total, then_total, nat_cmp_total, int_cmp_total}
use Rattle.std.proofs.lemmas.Cmp.{nat_list_cmp_total, lists_total}
use Rattle.bson_core.specs.declared.value.Value.{Value, map-Value}
use Rattle.bson_core.specs.declared.value.Value.TheOpen as of
use Rattle.bson_core.specs.declared.value.Value.TheOpen.{Value-F}
use Rattle.bson_core.specs.declared.value.Value.TheViews.{out-Value}
use Rattle.bson_core.specs.declared.value.Value.TheFolds.{fold-Value, fold_out-Value}
use Rattle.bson_core.specs.Order.{bracket, bracket_of, number_of, bytes_of, parts_of, value_cmp}
use Rattle.value_order.specs.Parts.{field_cmp}
use Rattle.value_order.proofs.Unfolded.{Part, unnamed, level, opened}

-- a part, where `below` compares the values
abbrev pub part_cmp : (Value → Value → Ordering) → Part → Part → Ordering
part_cmp below x y = ordering_then (nat_cmp (bracket x.1) (bracket y.1))
    (ordering_then (slice_cmp nat_cmp x.0 y.0) (below x.1 y.1))

-- the order that looks at so many levels
cmp_at : ℕ → Value → Value → Ordering
cmp_at zero a b = Equal
cmp_at (suc n) a b = level (part_cmp (cmp_at n)) (out-Value a) (out-Value b)

pub part_total : {below : Value → Value → Ordering} → IsTotalOrder below
    → IsTotalOrder (part_cmp below)
part_total t = then_total (on_total (λ (x : Part). bracket x.1) nat_cmp_total)
    (then_total (on_total (λ (x : Part). x.0) nat_list_cmp_total) (on_total (λ (x : Part). x.1) t))

level_total : {below : Part → Part → Ordering} → IsTotalOrder below → IsTotalOrder (level below)
level_total t =
    then_total (on_total bracket_of nat_cmp_total) (then_total (on_total number_of int_cmp_total)
    (then_total (on_total bytes_of nat_list_cmp_total) (on_total parts_of (lists_total t))))

cmp_at-total : (n : ℕ) → IsTotalOrder (cmp_at n)
unfolding cmp_at
cmp_at-total zero =
    record { antisymm = λ a b. refl; trans = λ a b c h k. cc; congr = λ a b c h. refl }
cmp_at-total (suc n) = on_total out-Value (level_total (part_total (cmp_at-total n)))

-- the size of a value: it, and the sizes of its parts
total : List (List ℕ × ℕ) → ℕ
total [] = 0
total (x ∷ xs) = x.1 + total xs

size_step : Value-F ℕ → ℕ
size_step x = suc (total (parts_of x))

pub size : Value → ℕ
size = fold-Value ℕ size_step

unfoldable pub sized : List Part → ℕ
sized [] = 0
sized (x ∷ xs) = size x.1 + sized xs

fields_sized : (xs : List Part) → total (map (λ (x : Part). (x.0, size x.1)) xs) ≡ sized xs
unfolding total sized
fields_sized [] = refl
fields_sized (x ∷ xs) = ap (λ (n : ℕ). size x.1 + n) (fields_sized xs)

values_sized : (xs : List Value)
    → total (map (λ (n : ℕ). ([], n)) (map size xs)) ≡ sized (map unnamed xs)
unfolding total sized
values_sized [] = refl
values_sized (x ∷ xs) = ap (λ (n : ℕ). size x + n) (values_sized xs)

parts_sized : (x : Value-F Value) → total (parts_of (map-Value Value ℕ size x)) ≡ sized (parts_of x)
parts_sized (of.Doc fields) = fields_sized fields
parts_sized (of.List values) = values_sized values
parts_sized x = fields_sized []

pub size_is : (a : Value) → size a ≡ suc (sized (parts_of (out-Value a)))
unfolding size size_step
size_is a = fold_out-Value ℕ size_step a ∙ ap suc (parts_sized (out-Value a))

parts_agree : (n : ℕ) → ((a b : Value) → size a ≤ n → cmp_at n a b ≡ value_cmp a b)
    → (xs ys : List Part) → sized xs ≤ n
    → slice_cmp (part_cmp (cmp_at n)) xs ys ≡ slice_cmp field_cmp xs ys
unfolding sized
parts_agree n same [] [] h = refl
parts_agree n same [] (y ∷ ys) h = refl
parts_agree n same (x ∷ xs) [] h = refl
parts_agree n same (x ∷ xs) (y ∷ ys) h =
    rw (same x.1 y.1 (omega arith), parts_agree n same xs ys (omega arith)) refl

agree : (n : ℕ) (a b : Value) → size a ≤ n → cmp_at n a b ≡ value_cmp a b
unfolding cmp_at
agree zero a b h = absurd (omega (arith, size_is a))
agree (suc n) a b h = rw (parts_agree n (agree n) (parts_of (out-Value a)) (parts_of (out-Value b))
    (omega (arith, size_is a))) (sym (opened a b))

pub value_total : IsTotalOrder value_cmp
value_total = record {
  antisymm = λ a b.
      let n = size a + size b in
      sym (agree n a b (omega arith)) ∙ (cmp_at-total n).antisymm a b
      ∙ ap ordering_reverse (agree n b a (omega arith));
  trans = λ a b c h k.
      let n = size a + size b in
      sym (agree n a c (omega arith)) ∙ (cmp_at-total n).trans a b c (agree n a b (omega arith)
      ∙ h) (agree n b c (omega arith) ∙ k);
  congr = λ a b c h.
      let n = size a + size b in
      sym (agree n a c (omega arith)) ∙ (cmp_at-total n).congr a b c (agree n a b (omega arith) ∙ h)
      ∙ agree n b c (omega arith);
}
