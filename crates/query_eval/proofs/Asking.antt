-- What a filter asks of `_id`, by itself or through others.
use Rattle.std.proofs.Common.{◌≡◌, ℕ, zero, suc, ◌<◌, ◌&&◌, Bool, true, false, List, [], ◌∷◌, Option}
use Rattle.std.proofs.Common.{Some, None, Bor, IfSome, get_or, length, refl, ap, subst, sym, ◌∙◌}
use Rattle.std.proofs.Common.{arith}
use Rattle.std.specs.List.{list_all}
use Rattle.std.specs.Str.{bytes_eq}
use Rattle.bson_core.specs.declared.value.Value.{Value}
use Rattle.bson_core.specs.Fields.{Document}
use Rattle.txn_types.specs.Ids.{id_name}
use Rattle.txn_types.specs.declared.filter.Cmp.TheVariants.{Eq}
use Rattle.txn_types.specs.declared.filter.Filter.{Filter}
use Rattle.txn_types.specs.declared.filter.Filter.TheViews as views
use Rattle.txn_types.specs.declared.filter.Filter.TheVariants as leaves
use Rattle.txn_semantics.specs.Filters.{equals, matches}
use Rattle.query_eval.proofs.Matching.{matches_and, matches_test}
use Rattle.query_eval.proofs.Touching.{same_name}

-- the filter asks for documents whose `_id` equals the value
abbrev pub AsksFor : Filter → Value → Type 0
AsksFor f value = (doc : Document) → matches f doc ≡ true → equals id_name value doc ≡ true

abbrev pub AllAskFor : List Filter → Value → Type 0
AllAskFor filters value = (doc : Document) → list_all (λ filter. matches filter doc) filters ≡ true
    → equals id_name value doc ≡ true

pub asks_test : (f : Filter) (name : List ℕ) (value : Value) → f ≡ leaves.Test name Eq value
    → bytes_eq name id_name ≡ true → AsksFor f value
asks_test f name value is named = λ doc m.
    subst (λ n. equals n value doc ≡ true) (same_name name id_name named)
    (sym (matches_test name Eq value doc) ∙ ap (λ g. matches g doc) (sym is) ∙ m)

pub asks_and : (f : Filter) (filters slice : List Filter) (o : Option (Bor Value))
    → f ≡ views.And filters → slice ≡ filters → IfSome o (λ value. AllAskFor slice value.now)
    → IfSome o (λ value. AsksFor f value.now)
asks_and f filters slice None is same h = tt
asks_and f filters slice (Some value) is same h = λ doc m. h doc
    (ap (list_all (λ filter. matches filter doc)) same ∙ sym (matches_and filters doc)
    ∙ ap (λ g. matches g doc) (sym is) ∙ m)

first_is : (a b : Bool) → (a && b) ≡ true → a ≡ true
first_is true b h = refl
first_is false b h = cc

rest_is : (a b : Bool) → (a && b) ≡ true → b ≡ true
rest_is true b h = h
rest_is false b h = cc

all_at : (doc : Document) (filters : List Filter) (i : ℕ) (d : Filter) → i < length filters
    → list_all (λ filter. matches filter doc) filters ≡ true
    → matches (get_or filters i d) doc ≡ true
all_at doc [] i d lt h = absurd (omega (arith, lt))
all_at doc (f ∷ filters) zero d lt h =
    first_is (matches f doc) (list_all (λ filter. matches filter doc) filters) h
all_at doc (f ∷ filters) (suc i) d lt h = all_at doc filters i d (omega (arith, lt))
    (rest_is (matches f doc) (list_all (λ filter. matches filter doc) filters) h)

pub asks_one : (filters : List Filter) (i : ℕ) (f : Filter) (value : Value) → f ≡ get_or filters i f
    → i < length filters → AsksFor f value → AllAskFor filters value
asks_one filters i f value is lt h =
    λ doc m. h doc (ap (λ g. matches g doc) is ∙ all_at doc filters i f lt m)
