-- The equations of a filter's id test.
use Rattle.std.proofs.Common.{◌≡◌, ℕ, Bool, List, [], ◌∷◌, ◌++◌, Option, Some, None, map}
use Rattle.std.proofs.Common.{option_map, refl, ap, ◌∙◌, append_assoc, if◌then◌else◌}
use Rattle.std.specs.List.{cons_option}
use Rattle.std.proofs.lemmas.List.{append-nil}
use Rattle.std.specs.Str.{bytes_eq}
use Rattle.bson_core.specs.declared.value.Value.{Value}
use Rattle.txn_types.specs.Ids.{id_name}
use Rattle.txn_types.specs.declared.id.Id.{Id}
use Rattle.txn_types.specs.declared.filter.Cmp.{Cmp}
use Rattle.txn_types.specs.declared.filter.Cmp.TheVariants.{Eq, Ne, Gt, Gte, Lt, Lte}
use Rattle.txn_types.specs.declared.filter.Filter.{Filter}
use Rattle.txn_types.specs.declared.filter.Filter.TheOpen as asks
use Rattle.txn_types.specs.declared.filter.Filter.TheViews as views
use Rattle.txn_types.specs.declared.filter.Filter.TheVariants as leaves
use Rattle.txn_types.specs.declared.filter.Filter.TheFolds.{fold-roll-Filter}
use Rattle.txn_semantics.specs.Touched.{Touched, ids_among, first_some, id_test_step, id_test}

pub id_test_and : (filters : List Filter)
    → id_test (views.And filters) ≡ first_some (map id_test filters)
unfolding views.roll-Filter denote.Hole.Carrier.roll id_test
id_test_and filters = fold-roll-Filter Touched id_test_step (asks.And filters)

pub id_test_or : (filters : List Filter) → id_test (views.Or filters) ≡ None
unfolding views.roll-Filter denote.Hole.Carrier.roll id_test
id_test_or filters = fold-roll-Filter Touched id_test_step (asks.Or filters)

pub id_test_nor : (filters : List Filter) → id_test (views.Nor filters) ≡ None
unfolding views.roll-Filter denote.Hole.Carrier.roll id_test
id_test_nor filters = fold-roll-Filter Touched id_test_step (asks.Nor filters)

-- a test of a field, by how it compares
abbrev pub tested : List ℕ → Value → Cmp → Touched
tested name value Eq = if bytes_eq name id_name then Some (ids_among (value ∷ [])) else None
tested name value other = None

tested_case : (name : List ℕ) (value : Value) (cmp : Cmp)
    → id_test_step (asks.Test name cmp value) ≡ tested name value cmp
tested_case name value Eq = refl
tested_case name value Ne = refl
tested_case name value Gt = refl
tested_case name value Gte = refl
tested_case name value Lt = refl
tested_case name value Lte = refl

pub id_test_test : (name : List ℕ) (cmp : Cmp) (value : Value)
    → id_test (leaves.Test name cmp value) ≡ tested name value cmp
unfolding views.roll-Filter denote.Hole.Carrier.roll id_test
id_test_test name cmp value = fold-roll-Filter Touched id_test_step (asks.Test name cmp value)
    ∙ tested_case name value cmp

pub id_test_in : (name : List ℕ) (values : List Value) → id_test (leaves.In name values)
    ≡ (if bytes_eq name id_name then Some (ids_among values) else None)
unfolding views.roll-Filter denote.Hole.Carrier.roll id_test
id_test_in name values = fold-roll-Filter Touched id_test_step (asks.In name values)

pub id_test_nin : (name : List ℕ) (values : List Value) → id_test (leaves.Nin name values) ≡ None
unfolding views.roll-Filter denote.Hole.Carrier.roll id_test
id_test_nin name values = fold-roll-Filter Touched id_test_step (asks.Nin name values)

pub id_test_exists : (name : List ℕ) (wanted : Bool) → id_test (leaves.Exists name wanted) ≡ None
unfolding views.roll-Filter denote.Hole.Carrier.roll id_test
id_test_exists name wanted = fold-roll-Filter Touched id_test_step (asks.Exists name wanted)

-- one more, where there is one
pub kept_more : {A : Type 0} (xs : List A) (o : Option A) (rest : List A)
    → (xs ++ cons_option o []) ++ rest ≡ xs ++ cons_option o rest
kept_more xs None rest = ap (λ (ys : List _). ys ++ rest) (append-nil xs)
kept_more xs (Some a) rest = append_assoc xs (a ∷ []) rest

-- the tests of more items after those of some
pub joined_more : (xs ids : List Id) (rest : Touched)
    → option_map (λ (others : List Id). (xs ++ ids) ++ others) rest ≡ option_map
    (λ (others : List Id). xs ++ others) (option_map (λ (others : List Id). ids ++ others) rest)
joined_more xs ids None = refl
joined_more xs ids (Some others) = ap Some (append_assoc xs ids others)
