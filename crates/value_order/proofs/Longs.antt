-- Two values are in one place of the order exactly where they are the same once each Int is a Long.
use Rattle.std.proofs.Common.{◌≡◌, ◌==◌, ℕ, zero, suc, ℤ, pos, negsuc, ◌≤◌, true, false, List, []}
use Rattle.std.proofs.Common.{◌∷◌, map, refl, ap, ◌∙◌, sym, arith, cond}
use Rattle.std.specs.declared.cmp.Ordering.{Ordering}
use Rattle.std.specs.declared.cmp.Ordering.TheVariants.{Less, Equal, Greater}
use Rattle.std.specs.Ordering.{ordering_then, nat_cmp, int_cmp}
use Rattle.std.specs.Cmp.Lexicographic.{slice_cmp}
use Rattle.std.proofs.lemmas.Cmp.{tied_itself, tied_back, nat_cmp_total, int_cmp_total}
use Rattle.std.proofs.lemmas.Cmp.{nat_list_cmp_total}
use Rattle.std.proofs.lemmas.Map.Lookups.{exact_unsigned, exact_signed, exact_bytes}
use Rattle.bson_core.specs.declared.value.Bin.{Bin}
use Rattle.bson_core.specs.declared.value.Value.{Value, map-Value}
use Rattle.bson_core.specs.declared.value.Value.TheOpen as of
use Rattle.bson_core.specs.declared.value.Value.TheOpen.{Value-F}
use Rattle.bson_core.specs.declared.value.Value.TheViews.{out-Value, roll-Value, out-roll-Value}
use Rattle.bson_core.specs.declared.value.Value.TheFolds.{fold_out-Value}
use Rattle.bson_core.specs.Order.{bracket, bracket_of, number_of, bytes_of, parts_of, value_cmp}
use Rattle.value_order.specs.Numbers.{as_long, in_longs}
use Rattle.value_order.specs.Parts.{field_cmp}
use Rattle.value_order.proofs.Unfolded.{Part, unnamed, level, opened}
use Rattle.value_order.proofs.Pairs.{alike}
use Rattle.value_order.proofs.Total.{size, sized, size_is, value_total}

-- equal by two orders, one after the other: equal by each
both_equal : (a b : Ordering) → ordering_then a b ≡ Equal → (a ≡ Equal) × (b ≡ Equal)
both_equal Less b h = cc
both_equal Equal b h = (refl, h)
both_equal Greater b h = cc

-- one level of a value, with its parts in longs
widened : Value-F Value → Value-F Value
widened x = as_long (map-Value Value Value in_longs x)

part_in_longs : Part → Part
part_in_longs p = (p.0, in_longs p.1)

in_longs_is : (a : Value) → in_longs a ≡ roll-Value (widened (out-Value a))
unfolding widened
in_longs_is a = fold_out-Value Value (λ x. roll-Value (as_long x)) a

-- a level, made again from what it is compared by
natural : ℤ → ℕ
natural (pos n) = n
natural (negsuc n) = 0

binary : List ℕ → Bin
binary (len ∷ subtype ∷ bytes) = record { subtype = subtype; bytes = bytes }
binary bytes = record { subtype = 0; bytes = bytes }

kind : ℕ → ℤ → List ℕ → List Part → Value-F Value
kind bracket n bytes parts =
    cond (bracket == 1) of.Null
    (cond (bracket == 2) (of.Long n)
    (cond (bracket == 3) (of.Text bytes)
    (cond (bracket == 4) (of.Doc parts)
    (cond (bracket == 5) (of.List (map (λ (p : Part). p.1) parts))
    (cond (bracket == 6) (of.Bin (binary bytes))
    (cond (bracket == 7) (of.Oid bytes)
    (cond (bracket == 8) (of.Bool (natural n == 1))
    (cond (bracket == 9) (of.Date n) (of.Stamp (natural n))))))))))

values_again : (values : List Value)
    → map in_longs values ≡ map (λ (p : Part). p.1) (map part_in_longs (map unnamed values))
unfolding part_in_longs
values_again [] = refl
values_again (value ∷ values) = ap (λ (vs : List Value). in_longs value ∷ vs) (values_again values)

again : (x : Value-F Value)
    → widened x ≡ kind (bracket_of x) (number_of x) (bytes_of x) (map part_in_longs (parts_of x))
unfolding widened part_in_longs kind natural binary
again of.Null = refl
again (of.Int n) = refl
again (of.Long n) = refl
again (of.Text t) = refl
again (of.Doc fields) = refl
again (of.List values) = ap (λ (vs : List Value). of.List vs) (values_again values)
again (of.Bin b) = refl
again (of.Oid id) = refl
again (of.Bool true) = refl
again (of.Bool false) = refl
again (of.Date n) = refl
again (of.Stamp n) = refl

same_parts : (n : ℕ) → ((a b : Value) → size a ≤ n → value_cmp a b ≡ Equal
    → in_longs a ≡ in_longs b) → (xs ys : List Part) → sized xs ≤ n
    → slice_cmp field_cmp xs ys ≡ Equal → map part_in_longs xs ≡ map part_in_longs ys
unfolding sized part_in_longs
same_parts n same [] [] h e = refl
same_parts n same [] (y ∷ ys) h e = cc
same_parts n same (x ∷ xs) [] h e = cc
same_parts n same (x ∷ xs) (y ∷ ys) h e =
    let all = both_equal (field_cmp x y) (slice_cmp field_cmp xs ys) e in
    let field = both_equal (slice_cmp nat_cmp x.0 y.0) (value_cmp x.1
    y.1) (both_equal (nat_cmp (bracket x.1) (bracket y.1))
    (ordering_then (slice_cmp nat_cmp x.0 y.0) (value_cmp x.1 y.1)) all.0).1 in
    let names = exact_bytes x.0 y.0 field.0 in
    let values = same x.1 y.1 (omega arith) field.1 in
    let rest = same_parts n same xs ys (omega arith) all.1 in
    cc

same_levels : (x y : Value-F Value) → (slice_cmp field_cmp (parts_of x) (parts_of y) ≡ Equal
    → map part_in_longs (parts_of x) ≡ map part_in_longs (parts_of y)) → level field_cmp x y ≡ Equal
    → widened x ≡ widened y
same_levels x y same e =
    let first = both_equal (nat_cmp (bracket_of x) (bracket_of y))
    (ordering_then (int_cmp (number_of x) (number_of y)) (ordering_then (slice_cmp nat_cmp
    (bytes_of x) (bytes_of y)) (slice_cmp field_cmp (parts_of x) (parts_of y)))) e in
    let second = both_equal (int_cmp (number_of x) (number_of y)) (ordering_then (slice_cmp nat_cmp
    (bytes_of x) (bytes_of y)) (slice_cmp field_cmp (parts_of x) (parts_of y))) first.1 in
    let third = both_equal (slice_cmp nat_cmp (bytes_of x) (bytes_of y)) (slice_cmp field_cmp
    (parts_of x) (parts_of y)) second.1 in
    cc (
      again x,
      again y,
      exact_unsigned (bracket_of x) (bracket_of y) first.0,
      exact_signed (number_of x) (number_of y) second.0,
      exact_bytes (bytes_of x) (bytes_of y) third.0,
      same third.1,
    )

same : (n : ℕ) (a b : Value) → size a ≤ n → value_cmp a b ≡ Equal → in_longs a ≡ in_longs b
same zero a b h e = absurd (omega (arith, size_is a))
same (suc n) a b h e =
    let levels =
    same_levels (out-Value a) (out-Value b) (same_parts n (same n) (parts_of (out-Value a))
    (parts_of (out-Value b)) (omega (arith, size_is a))) (sym (opened a b) ∙ e) in
    in_longs_is a ∙ ap roll-Value levels ∙ sym (in_longs_is b)

-- A value is in the place of what it is in longs.

bracket_widened : (x : Value-F Value) → bracket_of (widened x) ≡ bracket_of x
unfolding widened
bracket_widened (of.Int n) = refl
bracket_widened x = refl

number_widened : (x : Value-F Value) → number_of (widened x) ≡ number_of x
unfolding widened
number_widened (of.Int n) = refl
number_widened (of.Bool true) = refl
number_widened (of.Bool false) = refl
number_widened x = refl

bytes_widened : (x : Value-F Value) → bytes_of (widened x) ≡ bytes_of x
unfolding widened
bytes_widened (of.Int n) = refl
bytes_widened x = refl

values_widened : (values : List Value)
    → map unnamed (map in_longs values) ≡ map part_in_longs (map unnamed values)
unfolding part_in_longs
values_widened [] = refl
values_widened (value ∷ values) =
    ap (λ (ps : List Part). unnamed (in_longs value) ∷ ps) (values_widened values)

parts_widened : (x : Value-F Value) → parts_of (widened x) ≡ map part_in_longs (parts_of x)
unfolding widened part_in_longs
parts_widened (of.Int n) = refl
parts_widened (of.List values) = values_widened values
parts_widened x = refl

level_tied : (x : Value-F Value) → slice_cmp field_cmp (parts_of x) (map part_in_longs (parts_of x))
    ≡ Equal → level field_cmp x (widened x) ≡ Equal
level_tied x h =
    rw (bracket_widened x, number_widened x, bytes_widened x, parts_widened x)
    (rw (
      tied_itself nat_cmp_total (bracket_of x),
      tied_itself int_cmp_total (number_of x),
      tied_itself nat_list_cmp_total (bytes_of x),
    ) h)

parts_tied : (n : ℕ) → ((a : Value) → size a ≤ n → value_cmp a (in_longs a) ≡ Equal)
    → (xs : List Part) → sized xs ≤ n → slice_cmp field_cmp xs (map part_in_longs xs) ≡ Equal
unfolding sized part_in_longs
parts_tied n tied [] h = refl
parts_tied n tied (x ∷ xs) h =
    let value = tied x.1 (omega arith) in
    rw (
      ← alike x.1 (in_longs x.1) value,
      tied_itself nat_cmp_total (bracket x.1),
      tied_itself nat_list_cmp_total x.0,
      value,
    ) (parts_tied n tied xs (omega arith))

tied : (n : ℕ) (a : Value) → size a ≤ n → value_cmp a (in_longs a) ≡ Equal
tied zero a h = absurd (omega (arith, size_is a))
tied (suc n) a h =
    opened a (in_longs a)
    ∙ ap (λ (y : Value-F Value). level field_cmp (out-Value a) y)
    (ap out-Value (in_longs_is a) ∙ out-roll-Value (widened (out-Value a)))
    ∙ level_tied (out-Value a)
    (parts_tied n (tied n) (parts_of (out-Value a)) (omega (arith, size_is a)))

pub one_place_one_value : (a b : Value) → value_cmp a b ≡ Equal → in_longs a ≡ in_longs b
one_place_one_value a b h = same (size a) a b (omega arith) h

pub one_value_one_place : (a b : Value) → in_longs a ≡ in_longs b → value_cmp a b ≡ Equal
one_value_one_place a b h =
    value_total.congr a (in_longs a) b (tied (size a) a (omega arith))
    ∙ ap (λ (c : Value). value_cmp c b) h
    ∙ tied_back value_total b (in_longs b) (tied (size b) b (omega arith))
