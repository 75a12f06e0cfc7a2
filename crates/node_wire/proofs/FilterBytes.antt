-- The bytes of each kind of filter.
use Rattle.std.proofs.Common.{◌≡◌, ℕ, suc, ◌≤◌, List, [], ◌∷◌, ◌++◌, length, map, Bool, true, false}
use Rattle.std.proofs.Common.{refl, ap, subst, ◌∙◌, arith}
use Rattle.std.specs.List.{flat_map}
use Rattle.bson_core.specs.declared.value.Value.{Value}
use Rattle.bson_core.specs.Spelling.{bit}
use Rattle.txn_types.specs.declared.filter.Cmp.{Cmp}
use Rattle.txn_types.specs.declared.filter.Filter.{Filter}
use Rattle.txn_types.specs.declared.filter.Filter.TheOpen as asks
use Rattle.txn_types.specs.declared.filter.Filter.TheOpen.{Filter-F}
use Rattle.txn_types.specs.declared.filter.Filter.TheViews as views
use Rattle.txn_types.specs.declared.filter.Filter.TheVariants as leaves
use Rattle.txn_types.specs.declared.filter.Filter.TheFolds.{fold-roll-Filter}
use Rattle.node_wire.specs.Spelling.{word, counted, text_bytes, value_bytes, cmp_code, filter_step}
use Rattle.node_wire.specs.Spelling.{filter_bytes}

flat_is : (filters : List Filter)
    → flat_map (λ (b : List ℕ). b) (map filter_bytes filters) ≡ flat_map filter_bytes filters
flat_is [] = refl
flat_is (f ∷ filters) = ap (λ (xs : List ℕ). filter_bytes f ++ xs) (flat_is filters)

length_is : (filters : List Filter) → length (map filter_bytes filters) ≡ length filters
length_is [] = refl
length_is (f ∷ filters) = ap suc (length_is filters)

counted_is : (filters : List Filter)
    → counted (λ (b : List ℕ). b) (map filter_bytes filters) ≡ counted filter_bytes filters
counted_is filters = ap (λ (n : ℕ). word n
    ++ flat_map (λ (b : List ℕ). b) (map filter_bytes filters)) (length_is filters)
    ∙ ap (λ (xs : List ℕ). word (length filters) ++ xs) (flat_is filters)

pub bytes_of_and : (filters : List Filter)
    → filter_bytes (views.And filters) ≡ 1 ∷ counted filter_bytes filters
unfolding views.roll-Filter denote.Hole.Carrier.roll
bytes_of_and filters = fold-roll-Filter (List ℕ) filter_step (asks.And filters)
    ∙ ap (λ (xs : List ℕ). 1 ∷ xs) (counted_is filters)

pub bytes_of_or : (filters : List Filter)
    → filter_bytes (views.Or filters) ≡ 2 ∷ counted filter_bytes filters
unfolding views.roll-Filter denote.Hole.Carrier.roll
bytes_of_or filters = fold-roll-Filter (List ℕ) filter_step (asks.Or filters)
    ∙ ap (λ (xs : List ℕ). 2 ∷ xs) (counted_is filters)

pub bytes_of_nor : (filters : List Filter)
    → filter_bytes (views.Nor filters) ≡ 3 ∷ counted filter_bytes filters
unfolding views.roll-Filter denote.Hole.Carrier.roll
bytes_of_nor filters = fold-roll-Filter (List ℕ) filter_step (asks.Nor filters)
    ∙ ap (λ (xs : List ℕ). 3 ∷ xs) (counted_is filters)

pub bytes_of_test : (name : List ℕ) (cmp : Cmp) (v : Value)
    → filter_bytes (leaves.Test name cmp v) ≡ 4 ∷ text_bytes name ++ cmp_code cmp ∷ value_bytes v
unfolding views.roll-Filter denote.Hole.Carrier.roll
bytes_of_test name cmp v = fold-roll-Filter (List ℕ) filter_step (asks.Test name cmp v)

pub bytes_of_in : (name : List ℕ) (values : List Value)
    → filter_bytes (leaves.In name values) ≡ 5 ∷ text_bytes name ++ counted value_bytes values
unfolding views.roll-Filter denote.Hole.Carrier.roll
bytes_of_in name values = fold-roll-Filter (List ℕ) filter_step (asks.In name values)

pub bytes_of_nin : (name : List ℕ) (values : List Value)
    → filter_bytes (leaves.Nin name values) ≡ 6 ∷ text_bytes name ++ counted value_bytes values
unfolding views.roll-Filter denote.Hole.Carrier.roll
bytes_of_nin name values = fold-roll-Filter (List ℕ) filter_step (asks.Nin name values)

pub bytes_of_exists : (name : List ℕ) (there : Bool)
    → filter_bytes (leaves.Exists name there) ≡ 7 ∷ text_bytes name ++ bit there ∷ []
unfolding views.roll-Filter denote.Hole.Carrier.roll
bytes_of_exists name there = fold-roll-Filter (List ℕ) filter_step (asks.Exists name there)

-- it has one byte at least
step_long : (shape : Filter-F Filter) → 1 ≤ length (filter_bytes (views.roll-Filter shape))
unfolding views.roll-Filter denote.Hole.Carrier.roll
step_long (asks.And filters) = rw (bytes_of_and filters) (omega arith)
step_long (asks.Or filters) = rw (bytes_of_or filters) (omega arith)
step_long (asks.Nor filters) = rw (bytes_of_nor filters) (omega arith)
step_long (asks.Test name cmp v) = rw (bytes_of_test name cmp v) (omega arith)
step_long (asks.In name values) = rw (bytes_of_in name values) (omega arith)
step_long (asks.Nin name values) = rw (bytes_of_nin name values) (omega arith)
step_long (asks.Exists name there) = rw (bytes_of_exists name there) (omega arith)

pub filter_long : (f : Filter) → 1 ≤ length (filter_bytes f)
filter_long f = subst (λ (g : Filter). 1
    ≤ length (filter_bytes g)) (views.roll-out-Filter f) (step_long (views.out-Filter f))

pub ruleset bytes_of_filter = (
  bytes_of_and,
  bytes_of_or,
  bytes_of_nor,
  bytes_of_test,
  bytes_of_in,
  bytes_of_nin,
  bytes_of_exists,
)
