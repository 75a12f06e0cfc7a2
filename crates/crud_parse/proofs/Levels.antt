-- The filter of a document is the same from the document's own levels on, so that it is read as the
-- filters in it are.
use Rattle.std.proofs.Common.{◌≡◌, ℕ, zero, suc, ◌+◌, ◌-◌, ◌≤◌, List, [], ◌∷◌, map, Option, Some}
use Rattle.std.proofs.Common.{None, Result, Ok, Err, refl, sym, ap, subst, ◌∙◌, arith}
use Rattle.std.proofs.Common.{if◌then◌else◌}
use Rattle.outcomes.specs.Bind.{◌>>=◌}
use Rattle.bson_core.specs.declared.value.Value.{Value}
use Rattle.bson_core.specs.declared.value.Value.TheOpen as of
use Rattle.bson_core.specs.declared.value.Value.TheOpen.{Value-F}
use Rattle.bson_core.specs.declared.value.Value.TheViews.{out-Value, roll-Value, roll-out-Value}
use Rattle.bson_core.specs.declared.value.Value.TheFolds.{fold-roll-Value}
use Rattle.bson_core.specs.Fields.{Document}
use Rattle.bson_core.specs.Grammar.{values_of}
use Rattle.bson_core.specs.Nesting.{greatest, levels_step, levels, nesting}
use Rattle.txn_types.specs.declared.filter.Filter.{Filter}
use Rattle.txn_types.specs.declared.filter.Filter.TheViews.{And}
use Rattle.crud_parse.specs.declared.error.CrudErr.{CrudErr}
use Rattle.crud_parse.specs.declared.error.CrudErr.TheVariants.{WrongKind}
use Rattle.crud_parse.specs.declared.operators.Junction.{Junction}
use Rattle.crud_parse.specs.Results.{each, with_front}
use Rattle.crud_parse.specs.Operators.{junction_of, joined}
use Rattle.crud_parse.specs.Filters.{Reader, are_documents, inner_by, filters_by, named_by}
use Rattle.crud_parse.specs.Filters.{element_by, filter_by, filter_at, filter_of}

levels_fields : (fields : Document) → map (λ (field : List ℕ × ℕ). field.1) (map
    (λ (field : List ℕ × Value). (field.0, levels field.1)) fields) ≡ map levels (values_of fields)
levels_fields [] = refl
levels_fields (field ∷ fields) = ap (λ (ns : List ℕ). levels field.1 ∷ ns) (levels_fields fields)

levels_doc : (fields : Document) → levels (roll-Value (of.Doc fields)) ≡ nesting fields
levels_doc fields = fold-roll-Value ℕ levels_step (of.Doc fields)
    ∙ ap (λ (ns : List ℕ). 1 + greatest ns) (levels_fields fields)

levels_list : (values : List Value)
    → levels (roll-Value (of.List values)) ≡ 1 + greatest (map levels values)
levels_list values = fold-roll-Value ℕ levels_step (of.List values)

-- two readers give the same of documents of at most so many levels
abbrev Alike : ℕ → Reader → Reader → Type 0
Alike n f g = (doc : Document) → nesting doc ≤ n → f doc ≡ g doc

inner_alike : (n : ℕ) (f g : Reader) → Alike n f g → (name : List ℕ) (x : Value-F Value)
    → levels (roll-Value x) ≤ n → inner_by f name x ≡ inner_by g name x
inner_alike n f g alike name (of.Doc fields) le =
    alike fields (omega (arith, le, levels_doc fields))
inner_alike n f g alike name other le = refl

all_alike : (n : ℕ) (f g : Reader) → Alike n f g → (name : List ℕ) (values : List Value)
    → greatest (map levels values) ≤ n
    → each (λ value. inner_by f name (out-Value value)) values
    ≡ each (λ value. inner_by g name (out-Value value)) values
all_alike n f g alike name [] le = refl
all_alike n f g alike name (value ∷ values) le =
    let first : levels (roll-Value (out-Value value)) ≤ n =
    subst (λ (v : Value). levels v ≤ n) (sym (roll-out-Value value)) (omega (arith, le)) in
    let rest : greatest (map levels values) ≤ n = omega (arith, le) in
    ap (λ (r : Result Filter CrudErr). r >>= λ y. with_front (y ∷ []) (each (λ value. inner_by f
    name (out-Value value)) values)) (inner_alike n f g alike name (out-Value value) first)
    ∙ ap (λ (r : Result (List Filter) CrudErr). inner_by g name (out-Value value)
    >>= λ y. with_front (y ∷ []) r) (all_alike n f g alike name values rest)

filters_alike : (n : ℕ) (f g : Reader) → Alike n f g → (name : List ℕ) (x : Value-F Value)
    → levels (roll-Value x) ≤ suc n → filters_by f name x ≡ filters_by g name x
filters_alike n f g alike name (of.List values) le =
    ap (λ (r : Result (List Filter) CrudErr). if are_documents values then r else Err
    (WrongKind name)) (all_alike n f g alike name values (omega (arith, le, levels_list values)))
filters_alike n f g alike name other le = refl

named_alike : (n : ℕ) (f g : Reader) → Alike n f g
    → (name : List ℕ) (value : Value) (o : Option Junction) → levels value ≤ suc n
    → named_by f name value o ≡ named_by g name value o
named_alike n f g alike name value None le = refl
named_alike n f g alike name value (Some junction) le =
    ap (λ (r : Result (List Filter) CrudErr). r >>= λ filters. Ok (joined junction filters))
    (filters_alike n f g alike name (out-Value value)
    (subst (λ (v : Value). levels v ≤ suc n) (sym (roll-out-Value value)) le))

element_alike : (n : ℕ) (f g : Reader) → Alike n f g → (element : List ℕ × Value)
    → levels element.1 ≤ suc n → element_by f element ≡ element_by g element
unfolding element_by
element_alike n f g alike element le =
    named_alike n f g alike element.0 element.1 (junction_of element.0) le

elements_alike : (n : ℕ) (f g : Reader) → Alike n f g → (fields : Document)
    → greatest (map levels (values_of fields)) ≤ suc n
    → each (element_by f) fields ≡ each (element_by g) fields
elements_alike n f g alike [] le = refl
elements_alike n f g alike (field ∷ fields) le =
    ap (λ (r : Result Filter CrudErr). r >>= λ y. with_front (y ∷ []) (each (element_by f) fields))
    (element_alike n f g alike field (omega (arith, le)))
    ∙ ap (λ (r : Result (List Filter) CrudErr). element_by g field >>= λ y. with_front (y ∷ []) r)
    (elements_alike n f g alike fields (omega (arith, le)))

filter_alike : (n : ℕ) (f g : Reader) → Alike n f g → (doc : Document) → nesting doc ≤ suc n
    → filter_by f doc ≡ filter_by g doc
filter_alike n f g alike doc le = ap (λ (r : Result (List Filter) CrudErr). r
    >>= λ filters. Ok (And filters)) (elements_alike n f g alike doc (omega (arith, le)))

-- from a document's levels on, more levels give the same
enough : (m n : ℕ) (doc : Document) → nesting doc ≤ m → nesting doc ≤ n
    → filter_at m doc ≡ filter_at n doc
unfolding filter_at
enough zero n doc le more = absurd (omega (arith, le))
enough (suc m) zero doc le more = absurd (omega (arith, more))
enough (suc m) (suc n) doc le more =
    filter_alike (nesting doc - 1) (filter_at m) (filter_at n) (λ inner inside. enough m n inner
    (omega (arith, inside, le)) (omega (arith, inside, more))) doc (omega arith)

pub filter_again : (doc : Document) → filter_of doc ≡ filter_by filter_of doc
unfolding filter_of filter_at
filter_again doc =
    let depth = greatest (map levels (values_of doc)) in
    let one_more : nesting doc ≡ suc depth = omega arith in
    ap (λ (n : ℕ). filter_at n doc) one_more ∙ filter_alike depth (filter_at depth) filter_of
    (λ inner inside. enough depth (nesting inner) inner inside (omega arith)) doc (omega arith)
