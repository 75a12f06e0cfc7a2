-- The equations of `matches` at the filters that hold others.
use Rattle.std.proofs.Common.{◌≡◌, ◌&&◌, ◌||◌, ℕ, Bool, true, false, cond, not, List, [], ◌∷◌, ap}
use Rattle.std.proofs.Common.{◌∙◌, refl, map}
use Rattle.std.specs.List.{list_all, list_any}
use Rattle.bson_core.specs.Fields.{Document}
use Rattle.txn_types.specs.declared.filter.Filter.{Filter}
use Rattle.txn_types.specs.declared.filter.Filter.TheOpen as asks
use Rattle.txn_types.specs.declared.filter.Filter.TheViews as views
use Rattle.txn_types.specs.declared.filter.Filter.TheFolds.{fold-roll-Filter}
use Rattle.std.specs.Prelude.{is_some}
use Rattle.bson_core.specs.declared.value.Value.{Value}
use Rattle.bson_core.specs.Fields.{value_of}
use Rattle.txn_types.specs.declared.filter.Cmp.{Cmp}
use Rattle.txn_types.specs.declared.filter.Filter.TheVariants as leaves
use Rattle.txn_semantics.specs.Filters.{matches, matches_step, passes, equals}

all_are : (doc : Document) (filters : List Filter) → list_all (λ b. b)
    (map (λ filter. matches filter doc) filters) ≡ list_all (λ filter. matches filter doc) filters
all_are doc [] = refl
all_are doc (filter ∷ filters) = ap (λ b. matches filter doc && b) (all_are doc filters)

some_are : (doc : Document) (filters : List Filter) → list_any (λ b. b)
    (map (λ filter. matches filter doc) filters) ≡ list_any (λ filter. matches filter doc) filters
some_are doc [] = refl
some_are doc (filter ∷ filters) = ap (λ b. matches filter doc || b) (some_are doc filters)

pub matches_and : (filters : List Filter) (doc : Document)
    → matches (views.And filters) doc ≡ list_all (λ filter. matches filter doc) filters
unfolding views.roll-Filter denote.Hole.Carrier.roll matches
matches_and filters doc = fold-roll-Filter Bool (matches_step doc) (asks.And filters)
    ∙ all_are doc filters

pub matches_or : (filters : List Filter) (doc : Document)
    → matches (views.Or filters) doc ≡ list_any (λ filter. matches filter doc) filters
unfolding views.roll-Filter denote.Hole.Carrier.roll matches
matches_or filters doc = fold-roll-Filter Bool (matches_step doc) (asks.Or filters)
    ∙ some_are doc filters

pub matches_nor : (filters : List Filter) (doc : Document)
    → matches (views.Nor filters) doc ≡ not (list_any (λ filter. matches filter doc) filters)
unfolding views.roll-Filter denote.Hole.Carrier.roll matches
matches_nor filters doc = fold-roll-Filter Bool (matches_step doc) (asks.Nor filters)
    ∙ ap not (some_are doc filters)

pub matches_test : (name : List ℕ) (cmp : Cmp) (value : Value) (doc : Document)
    → matches (leaves.Test name cmp value) doc ≡ passes cmp name value doc
unfolding views.roll-Filter denote.Hole.Carrier.roll matches
matches_test name cmp value doc =
    fold-roll-Filter Bool (matches_step doc) (asks.Test name cmp value)

pub matches_in : (name : List ℕ) (values : List Value) (doc : Document)
    → matches (leaves.In name values) doc ≡ list_any (λ value. equals name value doc) values
unfolding views.roll-Filter denote.Hole.Carrier.roll matches
matches_in name values doc = fold-roll-Filter Bool (matches_step doc) (asks.In name values)

pub matches_nin : (name : List ℕ) (values : List Value) (doc : Document)
    → matches (leaves.Nin name values) doc ≡ not (list_any (λ value. equals name value doc) values)
unfolding views.roll-Filter denote.Hole.Carrier.roll matches
matches_nin name values doc = fold-roll-Filter Bool (matches_step doc) (asks.Nin name values)

exists_case : (name : List ℕ) (yes : Bool) (doc : Document) → matches_step doc (asks.Exists name
    yes) ≡ cond yes (is_some (value_of name doc)) (not (is_some (value_of name doc)))
exists_case name true doc = refl
exists_case name false doc = refl

pub matches_exists : (name : List ℕ) (wanted : Bool) (doc : Document) → matches (leaves.Exists name
    wanted) doc ≡ cond wanted (is_some (value_of name doc)) (not (is_some (value_of name doc)))
unfolding views.roll-Filter denote.Hole.Carrier.roll matches
matches_exists name wanted doc = fold-roll-Filter Bool (matches_step doc) (asks.Exists name wanted)
    ∙ exists_case name wanted doc
