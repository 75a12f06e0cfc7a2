-- Sums and joins over shards.
use Rattle.std.proofs.Common.{◌≡◌, ◌≤◌, ℕ, List, [], ◌∷◌, ◌+◌, Bool, true, false, cond, refl, ap}
use Rattle.std.proofs.Common.{◌∙◌, sym, map, length, arith, if◌then◌else◌}
use Rattle.txn_types.specs.declared.id.Id.{Id}
use Rattle.txn_semantics.specs.Found.{joined}
use Rattle.txn_semantics.specs.Meaning.{capped}
use Rattle.txn_semantics.specs.Merge.{capped_sum}
use Rattle.txn_semantics.specs.Rows.{Row, at, IsRising}
use Rattle.txn_semantics.specs.Splits.{here, times, AreOnce}
use Rattle.txn_semantics.proofs.Parts.{join_two}

abbrev counted : (Id → ℕ) → List Row → List ℕ → ℕ
counted place rows [] = 0
counted place rows (s ∷ shards) = length (at (here place s) rows) + counted place rows shards

one_more : (row : Row) (rows : List Row) (b : Bool)
    → length (cond b (row ∷ rows) rows) ≡ (if b then 1 else 0) + length rows
one_more row rows true = omega arith
one_more row rows false = omega arith

counted-cons : (place : Id → ℕ) (row : Row) (rows : List Row) (shards : List ℕ)
    → counted place (row ∷ rows) shards ≡ times (place row.0) shards + counted place rows shards
counted-cons place row rows [] = refl
counted-cons place row rows (s ∷ shards) = omega (
  arith,
  one_more row (at (here place s) rows) (here place s row.0),
  counted-cons place row rows shards,
)

counted_none : (place : Id → ℕ) (shards : List ℕ) → counted place [] shards ≡ 0
counted_none place [] = refl
counted_none place (s ∷ shards) = omega (arith, counted_none place shards)

pub counted_once : (place : Id → ℕ) (shards : List ℕ) (rows : List Row) → AreOnce place shards rows
    → counted place rows shards ≡ length rows
counted_once place shards [] once = counted_none place shards
counted_once place shards (row ∷ rows) once =
    omega (arith, counted-cons place row rows shards, once.0, counted_once place shards rows once.1)

capped_add : (a b : ℕ) → capped (capped a + capped b) ≡ capped (a + b)
capped_add a b = omega arith

capped_counted : (place : Id → ℕ) (rows : List Row) (shards : List ℕ) → capped_sum (map
    (λ s. capped (length (at (here place s) rows))) shards) ≡ capped (counted place rows shards)
capped_counted place rows [] = omega arith
capped_counted place rows (s ∷ shards) = ap (λ n.
    capped (capped (length (at (here place s) rows)) + n)) (capped_counted place rows shards)
    ∙ capped_add (length (at (here place s) rows)) (counted place rows shards)

-- counts of the parts sum to the count of the whole, standing still or not
pub counts_merge : (place : Id → ℕ) (shards : List ℕ) (rows : List Row) → AreOnce place shards rows
    → capped_sum (map (λ s. capped (length (at (here place s) rows))) shards) ≡ capped (length rows)
counts_merge place shards rows once = capped_counted place rows shards
    ∙ ap capped (counted_once place shards rows once)

-- joins
abbrev among : (Id → ℕ) → (Id → Bool) → List ℕ → Id → Bool
among place p [] = p
among place p (s ∷ shards) = among place (λ id. cond (p id) true (here place s id)) shards

join_among : {A : Type 0} (place : Id → ℕ) (p : Id → Bool) (shards : List ℕ) (rows : List (Id × A))
    → IsRising rows
    → joined (at p rows) (map (λ s. at (here place s) rows) shards) ≡ at (among place p shards) rows
join_among place p [] rows r = refl
join_among place p (s ∷ shards) rows r = ap (λ xs.
    joined xs (map (λ s. at (here place s) rows) shards)) (join_two p (here place s) rows r)
    ∙ join_among place (λ id. cond (p id) true (here place s id)) shards rows r

among_from : (place : Id → ℕ) (p : Id → Bool) (shards : List ℕ) (id : Id) → p id ≡ true
    → among place p shards id ≡ true
among_from place p [] id h = h
among_from place p (s ∷ shards) id h = among_from place (λ id.
    cond (p id) true (here place s id)) shards id (ap (λ b. cond b true (here place s id)) h)

either_true : (b : Bool) → cond b true true ≡ true
either_true true = refl
either_true false = refl

among_case : (place : Id → ℕ) (p : Id → Bool) (s : ℕ) (shards : List ℕ) (id : Id) (b : Bool)
    → here place s id ≡ b → 1 ≤ (if b then 1 else 0) + times (place id) shards
    → ((q : Id → Bool) → 1 ≤ times (place id) shards → among place q shards id ≡ true)
    → among place (λ id. cond (p id) true (here place s id)) shards id ≡ true
among_case place p s shards id true is h more = among_from place (λ id. cond (p id) true
    (here place s id)) shards id (ap (λ b. cond (p id) true b) is ∙ either_true (p id))
among_case place p s shards id false is h more =
    more (λ id. cond (p id) true (here place s id)) (omega (arith, h))

among_once : (place : Id → ℕ) (shards : List ℕ) (id : Id) (p : Id → Bool)
    → 1 ≤ times (place id) shards → among place p shards id ≡ true
among_once place [] id p h = absurd (omega (arith, h))
among_once place (s ∷ shards) id p h = among_case place p s shards id (here place s id) refl h (λ q
    h'. among_once place shards id q h')

abbrev pub AreNamed : {A : Type 0} → (Id → ℕ) → List ℕ → List (Id × A) → Type 0
AreNamed place shards [] = Unit {0}
AreNamed place shards (row ∷ rows) = (1 ≤ times (place row.0) shards) × AreNamed place shards rows

at_all : {A : Type 0} (place : Id → ℕ) (shards : List ℕ) (p : Id → Bool) (rows : List (Id × A))
    → AreNamed place shards rows → at (among place p shards) rows ≡ rows
at_all place shards p [] h = refl
at_all place shards p (row ∷ rows) h = ap (λ b. cond b (row ∷ at (among place p shards) rows)
    (at (among place p shards) rows)) (among_once place shards row.0 p h.0)
    ∙ ap (λ xs. row ∷ xs) (at_all place shards p rows h.1)

at_none : {A : Type 0} (rows : List (Id × A)) → at (λ _. false) rows ≡ []
at_none [] = refl
at_none (row ∷ rows) = at_none rows

-- a rising list is the join of its parts
pub join_parts : {A : Type 0} (place : Id → ℕ) (shards : List ℕ) (rows : List (Id × A))
    → IsRising rows → AreNamed place shards rows
    → joined [] (map (λ s. at (here place s) rows) shards) ≡ rows
join_parts place shards rows r named =
    ap (λ xs. joined xs (map (λ s. at (here place s) rows) shards)) (sym (at_none rows))
    ∙ join_among place (λ _. false) shards rows r ∙ at_all place shards (λ _. false) rows named
