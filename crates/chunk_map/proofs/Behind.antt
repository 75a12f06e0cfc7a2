-- The last range of rows, and the first fault, seen from some place in them.
use Rattle.std.proofs.Common.{◌≡◌, ℕ, Bool, zero, suc, ◌+◌, ◌<◌, true, false, List, [], ◌∷◌, ◌++◌}
use Rattle.std.proofs.Common.{length, take, drop, get_or, Option, Some, refl, cond, ap, sym, subst}
use Rattle.std.proofs.Common.{◌∙◌, arith, add-one}
use Rattle.std.specs.Option.{option_or}
use Rattle.chunk_map.specs.declared.map.ChunkRow.{ChunkRow}
use Rattle.chunk_map.specs.declared.map.MapErr.{MapErr}
use Rattle.std.specs.Str.{bytes_eq}
use Rattle.chunk_map.specs.Map.{ranges_of, last_range, row_fault, fault_behind}

pub last_step : (row : ChunkRow) (rows : List ChunkRow) (o : Option ChunkRow)
    → option_or (last_range (row ∷ rows)) o ≡ option_or (last_range rows) (Some row)
last_step row [] o = refl
last_step row (next ∷ rows) o = last_step next rows o ∙ sym (last_step next rows (Some row))

moved : (front : List ChunkRow) (x : ChunkRow) (rows : List ChunkRow)
    → (front ++ x ∷ []) ++ rows ≡ front ++ x ∷ rows
moved [] x rows = refl
moved (y ∷ front) x rows = ap (λ ys. y ∷ ys) (moved front x rows)

no_more : (front : List ChunkRow) → front ++ [] ≡ front
no_more [] = refl
no_more (y ∷ front) = ap (λ ys. y ∷ ys) (no_more front)

-- the fault at a place, or else of those after it
fault_from : (shards k : ℕ) (front rows : List ChunkRow) (row : ChunkRow) → row ≡ get_or rows k row
    → k < length rows
    → (place : ℕ) → fault_behind shards place (front ++ take k rows) (drop k rows)
    ≡ option_or (row_fault shards place (front ++ take k rows) row) (fault_behind shards
    (place + 1) (front ++ take (suc k) rows) (drop (suc k) rows))
fault_from shards k front [] row e h place = absurd (omega (arith, h))
fault_from shards zero front (x ∷ rows) row e h place = subst (λ (y : ChunkRow). fault_behind shards
    place (front ++ []) (x ∷ rows) ≡ option_or (row_fault shards place (front ++ []) y)
    (fault_behind shards (place + 1) (front ++ x ∷ []) rows)) (sym e)
    (ap (λ (ys : List ChunkRow). option_or (row_fault shards place (front ++ []) x)
    (fault_behind shards (place + 1) (ys ++ x ∷ []) rows)) (no_more front))
fault_from shards (suc k) front (x ∷ rows) row e h place =
    subst (λ (ys : List ChunkRow). fault_behind shards place ys (drop k rows)
    ≡ option_or (row_fault shards place ys row) (fault_behind shards (place + 1)
    (front ++ x ∷ take (suc k) rows) (drop (suc k) rows))) (moved front x (take k rows))
    (subst (λ (ys : List ChunkRow). fault_behind shards place ((front ++ x ∷ []) ++ take k rows)
    (drop k rows) ≡ option_or (row_fault shards place ((front ++ x ∷ []) ++ take k rows) row)
    (fault_behind shards (place + 1) ys (drop (suc k) rows)))
    (moved front x (take (suc k) rows))
    (fault_from shards k (front ++ x ∷ []) rows row e (omega (arith, h)) place))

pub fault_at : (shards k : ℕ) (rows : List ChunkRow) (row : ChunkRow) → row ≡ get_or rows k row
    → k < length rows
    → fault_behind shards k (take k rows) (drop k rows) ≡ option_or (row_fault shards k
    (take k rows) row) (fault_behind shards (k + 1) (take (k + 1) rows) (drop (k + 1) rows))
fault_at shards k rows row e h = subst (λ i. fault_behind shards k (take k rows) (drop k rows)
    ≡ option_or (row_fault shards k (take k rows) row) (fault_behind shards (k + 1) (take i rows)
    (drop i rows))) (sym (add-one k)) (fault_from shards k [] rows row e h k)

pub fault_found : (shards k : ℕ) (rows : List ChunkRow) (row : ChunkRow) (fault : MapErr)
    → row_fault shards k (take k rows) row ≡ Some fault → row ≡ get_or rows k row → k < length rows
    → fault_behind shards k (take k rows) (drop k rows) ≡ Some fault
fault_found shards k rows row fault is e h = fault_at shards k rows row e h
    ∙ ap (λ o. option_or o (fault_behind shards (k + 1) (take (k + 1) rows) (drop (k + 1) rows))) is

last_here : (ns : List ℕ) (rows : List ChunkRow) (row : ChunkRow) (b : Bool) → b ≡ true
    → (o : Option ChunkRow) → option_or (last_range (cond b (row ∷ ranges_of ns rows)
    (ranges_of ns rows))) o ≡ option_or (last_range (ranges_of ns rows)) (Some row)
last_here ns rows row true h o = last_step row (ranges_of ns rows) o
last_here ns rows row false h o = cc

-- after a row of the namespace, this is the last so far
last_suc : (ns : List ℕ) (rows : List ChunkRow) (k : ℕ) (row : ChunkRow) → row ≡ get_or rows k row
    → k < length rows → bytes_eq row.ns ns ≡ true → (o : Option ChunkRow)
    → option_or (last_range (ranges_of ns (drop k rows))) o
    ≡ option_or (last_range (ranges_of ns (drop (suc k) rows))) (Some row)
last_suc ns [] k row e h same o = absurd (omega (arith, h))
last_suc ns (x ∷ rows) zero row e h same o = subst (λ (y : ChunkRow). bytes_eq y.ns ns ≡ true
    → option_or (last_range (ranges_of ns (y ∷ rows))) o
    ≡ option_or (last_range (ranges_of ns rows)) (Some row)) e (λ same. last_here ns rows row
    (bytes_eq row.ns ns) same o) (subst (λ (y : ChunkRow). bytes_eq y.ns ns ≡ true) e same)
last_suc ns (x ∷ rows) (suc k) row e h same o = last_suc ns rows k row e (omega (arith, h)) same o

pub last_next : (ns : List ℕ) (rows : List ChunkRow) (k : ℕ) (row : ChunkRow)
    → row ≡ get_or rows k row → k < length rows → bytes_eq row.ns ns ≡ true → (o : Option ChunkRow)
    → option_or (last_range (ranges_of ns (drop k rows))) o
    ≡ option_or (last_range (ranges_of ns (drop (k + 1) rows))) (Some row)
last_next ns rows k row e h same o = rw (add-one k) (last_suc ns rows k row e h same o)
