-- The levels of a value are those within which its bytes are read.
use Rattle.std.proofs.Common.{◌≡◌, ℕ, zero, suc, ◌-◌, ◌+◌, ◌≤◌, List, [], ◌∷◌, map, refl, sym, ap}
use Rattle.std.proofs.Common.{subst, ◌∙◌, arith}
use Rattle.bson_core.specs.declared.value.Value.{Value}
use Rattle.bson_core.specs.declared.value.Value.TheOpen as of
use Rattle.bson_core.specs.declared.value.Value.TheOpen.{Value-F}
use Rattle.bson_core.specs.declared.value.Value.TheViews.{roll-Value, out-Value, roll-out-Value}
use Rattle.bson_core.specs.declared.value.Value.TheFolds.{fold-roll-Value}
use Rattle.bson_core.specs.Fields.{Document}
use Rattle.bson_core.specs.Grammar.{Relation, values_of, reads_leaf, reads_step, ReadsAt}
use Rattle.bson_core.specs.Grammar.{ReadsElements, Reads}
use Rattle.bson_core.specs.Nesting.{greatest, levels_step, levels, nesting}
use Rattle.codec_laws.specs.Spells.{IsRead}

-- The levels of a value, by its kind.

-- the levels of what a document or a list holds
abbrev pub inner : Value-F Value → ℕ
inner (of.Doc fields) = greatest (map levels (values_of fields))
inner (of.List values) = greatest (map levels values)
inner leaf = 0

abbrev pub levels_of : Value-F Value → ℕ
levels_of (of.Doc fields) = 1 + inner (of.Doc fields)
levels_of (of.List values) = 1 + inner (of.List values)
levels_of leaf = 0

levels_fields : (fields : Document) → map (λ (field : List ℕ × ℕ). field.1) (map
    (λ (field : List ℕ × Value). (field.0, levels field.1)) fields) ≡ map levels (values_of fields)
levels_fields [] = refl
levels_fields (field ∷ fields) = ap (λ (ns : List ℕ). levels field.1 ∷ ns) (levels_fields fields)

pub levels_rolled : (x : Value-F Value) → levels (roll-Value x) ≡ levels_of x
levels_rolled (of.Doc fields) = fold-roll-Value ℕ levels_step (of.Doc fields)
    ∙ ap (λ (ns : List ℕ). 1 + greatest ns) (levels_fields fields)
levels_rolled x = fold-roll-Value ℕ levels_step x

pub levels_is : (value : Value) → levels value ≡ levels_of (out-Value value)
levels_is value = ap levels (sym (roll-out-Value value)) ∙ levels_rolled (out-Value value)

-- What is read within some levels is read within as many as it has.

leaf_deeper : (reads : Value → Relation) (x : Value-F Value) (kind : ℕ) (bytes : List ℕ)
    → reads_leaf x kind bytes → reads_step reads x kind bytes
leaf_deeper reads (of.Doc fields) kind bytes h = absurd h
leaf_deeper reads (of.List values) kind bytes h = absurd h
leaf_deeper reads x kind bytes h = h

pub elements_deeper : (m n : ℕ) → ((value : Value) (kind : ℕ) (bytes : List ℕ) → levels value ≤ n
    → ReadsAt m value kind bytes → ReadsAt n value kind bytes)
    → (fields : Document) (bytes : List ℕ) → greatest (map levels (values_of fields)) ≤ n
    → ReadsElements (ReadsAt m) fields bytes → ReadsElements (ReadsAt n) fields bytes
elements_deeper m n deeper [] bytes le h = h
elements_deeper m n deeper (field ∷ fields) bytes le h = (
  h.0,
  h.1,
  h.2,
  deeper field.1 h.0 h.1 (omega arith) h.3,
  h.4,
  h.5,
  elements_deeper m n deeper fields h.2 (omega arith) h.6,
)

step_deeper : (m n : ℕ) → ((value : Value) (kind : ℕ) (bytes : List ℕ) → levels value ≤ n
    → ReadsAt m value kind bytes → ReadsAt n value kind bytes)
    → (x : Value-F Value) (kind : ℕ) (bytes : List ℕ) → inner x ≤ n
    → reads_step (ReadsAt m) x kind bytes → reads_step (ReadsAt n) x kind bytes
step_deeper m n deeper (of.Doc fields) kind bytes le h =
    (h.0, (h.1.0, elements_deeper m n deeper fields h.1.0 le h.1.1, h.1.2, h.1.3))
step_deeper m n deeper (of.List values) kind bytes le h = (
  h.0,
  (
    h.1.0,
    (
      h.1.1.0,
      h.1.1.1,
      elements_deeper m n deeper h.1.1.0 h.1.0
          (subst (λ (vs : List Value). greatest (map levels vs) ≤ n) (sym h.1.1.1) le) h.1.1.2,
    ),
    h.1.2,
    h.1.3,
  ),
)
step_deeper m n deeper x kind bytes le h = h

pub flat_step : (reads : Value → Relation) (x : Value-F Value) (kind : ℕ) (bytes : List ℕ)
    → levels_of x ≤ 0 → reads_step reads x kind bytes → reads_leaf x kind bytes
flat_step reads (of.Doc fields) kind bytes le h = absurd (omega arith)
flat_step reads (of.List values) kind bytes le h = absurd (omega arith)
flat_step reads x kind bytes le h = h

inner_below : (x : Value-F Value) (n : ℕ) → levels_of x ≤ suc n → inner x ≤ n
inner_below (of.Doc fields) n le = omega arith
inner_below (of.List values) n le = omega arith
inner_below x n le = omega arith

pub deeper : (m n : ℕ) (value : Value) (kind : ℕ) (bytes : List ℕ) → levels value ≤ n
    → ReadsAt m value kind bytes → ReadsAt n value kind bytes
unfolding ReadsAt
deeper zero zero value kind bytes le h = h
deeper zero (suc n) value kind bytes le h = leaf_deeper (ReadsAt n) (out-Value value) kind bytes h
deeper (suc m) zero value kind bytes le h =
    flat_step (ReadsAt m) (out-Value value) kind bytes (omega (arith, levels_is value)) h
deeper (suc m) (suc n) value kind bytes le h = step_deeper m n (deeper m n) (out-Value value) kind
    bytes (inner_below (out-Value value) n (omega (arith, levels_is value))) h

-- And it has no more levels.

pub elements_within : (m : ℕ) → ((value : Value) (kind : ℕ) (bytes : List ℕ)
    → ReadsAt m value kind bytes → levels value ≤ m) → (fields : Document) (bytes : List ℕ)
    → ReadsElements (ReadsAt m) fields bytes → greatest (map levels (values_of fields)) ≤ m
elements_within m within [] bytes h = omega arith
elements_within m within (field ∷ fields) bytes h =
    let first = within field.1 h.0 h.1 h.3 in
    let more = elements_within m within fields h.2 h.6 in
    omega (arith, first, more)

step_within : (m : ℕ) → ((value : Value) (kind : ℕ) (bytes : List ℕ) → ReadsAt m value kind bytes
    → levels value ≤ m) → (x : Value-F Value) (kind : ℕ) (bytes : List ℕ)
    → reads_step (ReadsAt m) x kind bytes → levels_of x ≤ suc m
step_within m within (of.Doc fields) kind bytes h = let le =
    elements_within m within fields h.1.0 h.1.1 in omega (arith, le)
step_within m within (of.List values) kind bytes h =
    let le : greatest (map levels values) ≤ m = subst (λ (vs : List Value). greatest (map levels vs)
    ≤ m) h.1.1.1 (elements_within m within h.1.1.0 h.1.0 h.1.1.2) in
    omega (arith, le)
step_within m within x kind bytes h = omega arith

leaf_within : (x : Value-F Value) (kind : ℕ) (bytes : List ℕ) → reads_leaf x kind bytes
    → levels_of x ≤ 0
leaf_within (of.Doc fields) kind bytes h = absurd h
leaf_within (of.List values) kind bytes h = absurd h
leaf_within x kind bytes h = omega arith

pub within : (m : ℕ) (value : Value) (kind : ℕ) (bytes : List ℕ) → ReadsAt m value kind bytes
    → levels value ≤ m
unfolding ReadsAt
within zero value kind bytes h = let le = leaf_within (out-Value value) kind bytes h in
    omega (arith, le, levels_is value)
within (suc m) value kind bytes h = let le =
    step_within m (within m) (out-Value value) kind bytes h in omega (arith, le, levels_is value)

-- Documents.

pub reads_within : (levels : ℕ) (d : Document) (bytes : List ℕ) → IsRead d bytes
    → nesting d ≤ levels → Reads levels d bytes
reads_within n d bytes h le = (
  h.1.0,
  elements_deeper h.0 (n - 1) (deeper h.0 (n - 1)) d h.1.0 (omega arith) h.1.1,
  h.1.2,
  h.1.3,
)

pub nesting_within : (levels : ℕ) (d : Document) (bytes : List ℕ) → 1 ≤ levels
    → Reads levels d bytes → nesting d ≤ levels
nesting_within n d bytes some h =
    let le = elements_within (n - 1) (within (n - 1)) d h.0 h.1 in
    omega (arith, le)

pub is_read : (levels : ℕ) (d : Document) (bytes : List ℕ) → Reads levels d bytes → IsRead d bytes
is_read n d bytes h = (n - 1, h)
