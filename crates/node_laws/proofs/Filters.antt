-- What is written of filters is read again, whatever stands after it.
use Rattle.std.proofs.Common.{◌≡◌, ℕ, zero, suc, ◌+◌, ◌≤◌, Bool, true, false, List, [], ◌∷◌, ◌++◌}
use Rattle.std.proofs.Common.{length, Some, Ok, refl, sym, ap, subst, ◌∙◌, append_assoc, arith}
use Rattle.std.specs.List.{All, flat_map}
use Rattle.bson_core.specs.declared.value.Value.{Value}
use Rattle.bson_core.specs.Spelling.{bit, spelling}
use Rattle.txn_types.specs.declared.filter.Cmp.{Cmp}
use Rattle.txn_types.specs.declared.filter.Cmp.TheVariants.{Eq, Ne, Gt, Gte, Lt, Lte}
use Rattle.txn_types.specs.declared.filter.Filter.{Filter}
use Rattle.txn_types.specs.declared.filter.Filter.TheOpen as asks
use Rattle.txn_types.specs.declared.filter.Filter.TheOpen.{Filter-F}
use Rattle.txn_types.specs.declared.filter.Filter.TheViews as views
use Rattle.txn_types.specs.declared.filter.Filter.TheViews.{out-Filter, roll-Filter}
use Rattle.txn_types.specs.declared.filter.Filter.TheViews.{roll-out-Filter}
use Rattle.txn_types.specs.declared.filter.Filter.TheVariants as leaves
use Rattle.node_wire.specs.Reading.{Found, is_name, flag_of, cmp_of, code_at, text_at, value_at}
use Rattle.node_wire.specs.Reading.{counted_at, one_to, test_at, among_at, exists_at, joined_at}
use Rattle.node_wire.specs.Reading.{filter_by, filter_at, filter_levels}
use Rattle.node_wire.specs.Spelling.{text_bytes, value_bytes, counted, cmp_code, filter_bytes}
use Rattle.node_wire.proofs.FilterBytes.{bytes_of_and, bytes_of_or, bytes_of_nor, bytes_of_test}
use Rattle.node_wire.proofs.FilterBytes.{bytes_of_in, bytes_of_nin, bytes_of_exists, filter_long}
use Rattle.node_laws.specs.Fits.{ListFits, NameFits, ValueFits, filter_step_fits, FilterFits}
use Rattle.node_laws.specs.Fits.{OuterFilterFits}
use Rattle.node_laws.proofs.Parts.{IsReadAs, flag_again, code_again, counted_again, text_again}
use Rattle.node_laws.proofs.Parts.{value_again, document_long}

-- The parts.

cmp_again : (end : ℕ) (cmp : Cmp) → IsReadAs (code_at cmp_of end) (cmp_code cmp ∷ []) cmp
cmp_again end Eq = code_again cmp_of end 1 Eq refl
cmp_again end Ne = code_again cmp_of end 2 Ne refl
cmp_again end Gt = code_again cmp_of end 3 Gt refl
cmp_again end Gte = code_again cmp_of end 4 Gte refl
cmp_again end Lt = code_again cmp_of end 5 Lt refl
cmp_again end Lte = code_again cmp_of end 6 Lte refl

pub name_again : (end : ℕ) (name : List ℕ) → NameFits name
    → IsReadAs (text_at is_name end) (text_bytes name) name
name_again end name h = text_again is_name end name h.0 h.1

values_again : (end : ℕ) (values : List Value) → ListFits ValueFits values
    → IsReadAs (counted_at (value_at end) end) (counted value_bytes values) values
values_again end values h = counted_again (value_at end) value_bytes ValueFits (value_again end)
    (λ v. document_long (([], v) ∷ [])) end values h

test_again : (end : ℕ) (name : List ℕ) (cmp : Cmp) (v : Value) → NameFits name
    → ValueFits v → IsReadAs (test_at end) (text_bytes name ++ cmp_code cmp
    ∷ value_bytes v) (leaves.Test name cmp v)
unfolding test_at
test_again end name cmp v h k rest =
    let t = text_bytes name in
    let b = value_bytes v in
    rw (
      append_assoc t (cmp_code cmp ∷ b) rest,
      name_again end name h (cmp_code cmp ∷ (b ++ rest)),
      cmp_again end cmp (b ++ rest),
      value_again end v k rest,
    ) refl

among_again : (make : List ℕ → List Value → Filter) (end : ℕ) (name : List ℕ) (values : List Value)
    → NameFits name → ListFits ValueFits values → IsReadAs (among_at make end) (text_bytes name
    ++ counted value_bytes values) (make name values)
unfolding among_at
among_again make end name values h k rest =
    let t = text_bytes name in
    let b = counted value_bytes values in
    rw (append_assoc t b rest, name_again end name h (b ++ rest), values_again end values k rest)
    refl

exists_again : (end : ℕ) (name : List ℕ) (there : Bool) → NameFits name
    → IsReadAs (exists_at end) (text_bytes name ++ bit there ∷ []) (leaves.Exists name there)
unfolding exists_at
exists_again end name there h rest =
    let t = text_bytes name in
    rw (
      append_assoc t (bit there ∷ []) rest,
      name_again end name h (bit there ∷ rest),
      flag_again end there rest,
    ) refl

joined_again : (read : List ℕ → Found Filter) (join : List Filter → Filter) (end : ℕ)
    (filters : List Filter) → IsReadAs (counted_at read end) (counted filter_bytes filters) filters
    → IsReadAs (joined_at read join end) (counted filter_bytes filters) (join filters)
unfolding joined_at
joined_again read join end filters h rest = rw (h rest) refl

-- A filter.

-- after its kind
by_again : (levels end kind : ℕ) (bytes : List ℕ) (f : Filter) → one_to 7 kind ≡ Some kind
    → IsReadAs (filter_by (filter_at levels end) kind end) bytes f
    → IsReadAs (filter_at (suc levels) end) (kind ∷ bytes) f
unfolding filter_at
by_again levels end kind bytes f is h rest =
    rw (code_again (one_to 7) end kind kind is (bytes ++ rest), h rest) refl

shape_again : (levels end : ℕ)
    → ((f : Filter) → FilterFits levels f → IsReadAs (filter_at levels end) (filter_bytes f) f)
    → (shape : Filter-F Filter) → filter_step_fits (FilterFits levels) shape
    → IsReadAs (filter_at (suc levels) end) (filter_bytes (roll-Filter shape)) (roll-Filter shape)
unfolding views.roll-Filter denote.Hole.Carrier.roll filter_by
shape_again levels end below (asks.And filters) h =
    let inside = counted_again (filter_at levels end) filter_bytes (FilterFits levels) below
    filter_long end filters h in
    subst (λ (bytes : List ℕ). IsReadAs (filter_at (suc levels) end) bytes (views.And filters))
    (sym (bytes_of_and filters)) (by_again levels end 1 (counted filter_bytes filters)
    (views.And filters) refl (joined_again (filter_at levels end) views.And end filters inside))
shape_again levels end below (asks.Or filters) h =
    let inside = counted_again (filter_at levels end) filter_bytes (FilterFits levels) below
    filter_long end filters h in
    subst (λ (bytes : List ℕ). IsReadAs (filter_at (suc levels) end) bytes (views.Or filters))
    (sym (bytes_of_or filters)) (by_again levels end 2 (counted filter_bytes filters)
    (views.Or filters) refl (joined_again (filter_at levels end) views.Or end filters inside))
shape_again levels end below (asks.Nor filters) h =
    let inside = counted_again (filter_at levels end) filter_bytes (FilterFits levels) below
    filter_long end filters h in
    subst (λ (bytes : List ℕ). IsReadAs (filter_at (suc levels) end) bytes (views.Nor filters))
    (sym (bytes_of_nor filters)) (by_again levels end 3 (counted filter_bytes filters)
    (views.Nor filters) refl (joined_again (filter_at levels end) views.Nor end filters inside))
shape_again levels end below (asks.Test name cmp v) h =
    subst (λ (bytes : List ℕ). IsReadAs (filter_at (suc levels) end) bytes (leaves.Test name cmp v))
    (sym (bytes_of_test name cmp v)) (by_again levels end 4 (text_bytes name ++ cmp_code cmp
    ∷ value_bytes v) (leaves.Test name cmp v) refl (test_again end name cmp v h.0 h.1))
shape_again levels end below (asks.In name values) h =
    subst (λ (bytes : List ℕ). IsReadAs (filter_at (suc levels) end) bytes (leaves.In name values))
    (sym (bytes_of_in name values))
    (by_again levels end 5 (text_bytes name ++ counted value_bytes values)
    (leaves.In name values) refl (among_again leaves.In end name values h.0 h.1))
shape_again levels end below (asks.Nin name values) h =
    subst (λ (bytes : List ℕ). IsReadAs (filter_at (suc levels) end) bytes (leaves.Nin name values))
    (sym (bytes_of_nin name values))
    (by_again levels end 6 (text_bytes name ++ counted value_bytes values)
    (leaves.Nin name values) refl (among_again leaves.Nin end name values h.0 h.1))
shape_again levels end below (asks.Exists name there) h =
    subst (λ (bytes : List ℕ). IsReadAs (filter_at (suc levels) end) bytes (leaves.Exists name
    there)) (sym (bytes_of_exists name there)) (by_again levels end 7 (text_bytes name
    ++ bit there ∷ []) (leaves.Exists name there) refl (exists_again end name there h))

pub filter_again : (levels end : ℕ) (f : Filter) → FilterFits levels f
    → IsReadAs (filter_at levels end) (filter_bytes f) f
unfolding FilterFits
filter_again zero end f h = absurd h
filter_again (suc levels) end f h =
    subst (λ (g : Filter). IsReadAs (filter_at (suc levels) end) (filter_bytes g) g)
    (roll-out-Filter f) (shape_again levels end (filter_again levels end) (out-Filter f) h)

pub outer_again : (end : ℕ) (f : Filter) → OuterFilterFits f
    → IsReadAs (filter_at filter_levels end) (filter_bytes f) f
outer_again end f h = filter_again filter_levels end f h
