-- The equations of the id test at each kind of filter.
use Rattle.std.proofs.Common.{◌≡◌, ℕ, Bool, List, [], ◌∷◌, ◌++◌, Option, Some, None, map, refl, ap}
use Rattle.std.proofs.Common.{◌∙◌, append_assoc, if◌then◌else◌}
use Rattle.std.specs.Str.{bytes_eq}
use Rattle.bson_core.specs.declared.value.Value.{Value}
use Rattle.txn_types.specs.Ids.{id_of, id_name}
use Rattle.txn_types.specs.declared.id.Id.{Id}
use Rattle.std.specs.List.{cons_option}
use Rattle.txn_types.specs.declared.filter.Cmp.{Cmp}
use Rattle.txn_types.specs.declared.filter.Cmp.TheVariants.{Eq, Ne, Gt, Gte, Lt, Lte}
use Rattle.txn_types.specs.declared.filter.Filter.{Filter}
use Rattle.txn_types.specs.declared.filter.Filter.TheOpen as asks
use Rattle.txn_types.specs.declared.filter.Filter.TheViews as views
use Rattle.txn_types.specs.declared.filter.Filter.TheVariants as leaves
use Rattle.txn_types.specs.declared.filter.Filter.TheFolds.{fold-roll-Filter}
use Rattle.txn_semantics.specs.Touched.{Touched, ids_among, first_some, id_test_step, id_test}
use Rattle.chunk_map.specs.Place.{test_of}

pub id_test_and : (filters : List Filter)
    → id_test (views.And filters) ≡ first_some (map id_test filters)
unfolding views.roll-Filter denote.Hole.Carrier.roll id_test
id_test_and filters = fold-roll-Filter Touched id_test_step (asks.And filters)

pub id_test_or : (filters : List Filter) → id_test (views.Or filters) ≡ None
unfolding views.roll-Filter denote.Hole.Carrier.roll id_test
id_test_or filters = fold-roll-Filter Touched id_test_step (asks.Or filters)

pub id_test_nor : (filters : List Filter) → id_test (views.Nor filters) ≡ None
unfolding views.roll-Filter denote.Hole.Carrier.roll id_test
id_test_nor filters = fold-roll-Filter Touched id_test_step (asks.Nor filters)

pub id_test_test : (name : List ℕ) (cmp : Cmp) (value : Value)
    → id_test (leaves.Test name cmp value) ≡ test_of name cmp value
unfolding views.roll-Filter denote.Hole.Carrier.roll id_test
id_test_test name Eq value = fold-roll-Filter Touched id_test_step (asks.Test name Eq value)
id_test_test name Ne value = fold-roll-Filter Touched id_test_step (asks.Test name Ne value)
id_test_test name Gt value = fold-roll-Filter Touched id_test_step (asks.Test name Gt value)
id_test_test name Gte value = fold-roll-Filter Touched id_test_step (asks.Test name Gte value)
id_test_test name Lt value = fold-roll-Filter Touched id_test_step (asks.Test name Lt value)
id_test_test name Lte value = fold-roll-Filter Touched id_test_step (asks.Test name Lte value)

pub id_test_in : (name : List ℕ) (values : List Value) → id_test (leaves.In name values)
    ≡ (if bytes_eq name id_name then Some (ids_among values) else None)
unfolding views.roll-Filter denote.Hole.Carrier.roll id_test
id_test_in name values = fold-roll-Filter Touched id_test_step (asks.In name values)

pub id_test_nin : (name : List ℕ) (values : List Value) → id_test (leaves.Nin name values) ≡ None
unfolding views.roll-Filter denote.Hole.Carrier.roll id_test
id_test_nin name values = fold-roll-Filter Touched id_test_step (asks.Nin name values)

pub id_test_exists : (name : List ℕ) (wanted : Bool) → id_test (leaves.Exists name wanted) ≡ None
unfolding views.roll-Filter denote.Hole.Carrier.roll id_test
id_test_exists name wanted = fold-roll-Filter Touched id_test_step (asks.Exists name wanted)

cons_one : (o : Option Id) (ids : List Id) → cons_option o [] ++ ids ≡ cons_option o ids
cons_one None ids = refl
cons_one (Some id) ids = refl

pub ids_step : (front : List Id) (value : Value) (values : List Value)
    → (front ++ ids_among (value ∷ [])) ++ ids_among values ≡ front ++ ids_among (value ∷ values)
ids_step front value values = append_assoc front (ids_among (value ∷ [])) (ids_among values)
    ∙ ap (λ ids. front ++ ids) (cons_one (id_of value) (ids_among values))
