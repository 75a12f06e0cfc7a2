-- In a map the first range of each namespace begins before all ids, so each id is in a range where
-- there is one.
use Rattle.std.proofs.Common.{◌≡◌, ◌||◌, ◌⊎◌, inl, inr, ℕ, ◌+◌, Bool, true, false, cond, List, []}
use Rattle.std.proofs.Common.{◌∷◌, ◌++◌, map, filter, Option, Some, None, refl, ap, sym, subst, ◌∙◌}
use Rattle.std.proofs.Common.{nat_eq, nat_lt, if◌then◌else◌}
use Rattle.std.specs.List.{list_any}
use Rattle.std.specs.Option.{option_or}
use Rattle.std.specs.Ordering.{is_lt}
use Rattle.std.specs.Str.{bytes_eq}
use Rattle.std.proofs.lemmas.Bool.{eq-eqb}
use Rattle.txn_types.specs.Order.{id_cmp}
use Rattle.txn_types.specs.declared.id.Id.{Id}
use Rattle.chunk_map.specs.declared.map.ChunkRow.{ChunkRow}
use Rattle.chunk_map.specs.declared.map.MapErr.{MapErr}
use Rattle.chunk_map.specs.Map.{Map, IsMap, ranges_of, last_range, beginning_fault, row_fault}
use Rattle.chunk_map.specs.Map.{fault_behind}
use Rattle.chunk_map.specs.Place.{begins_by, shard_in, shard_of}
use Rattle.std.specs.Cmp.{Equal-is}
use Rattle.std.specs.Ordering.{nat_cmp}
use Rattle.std.specs.Cmp.Lexicographic.{slice_cmp}
use Rattle.std.proofs.lemmas.Map.Lookups.{exact_bytes}
use Rattle.std.proofs.lemmas.Map.Text.{is_eq-slice_cmp}

or_second : (a : Bool) {b : Bool} → b ≡ true → (a || b) ≡ true
or_second true h = refl
or_second false h = h

same_name : (a b : List ℕ) → bytes_eq a b ≡ true → a ≡ b
same_name a b h = exact_bytes a b ((Equal-is (slice_cmp nat_cmp a b)).0 (is_eq-slice_cmp a b ∙ h))

-- the first of them begins before all ids
abbrev pub IsOpen : List ChunkRow → Type 0
IsOpen [] = Unit {0}
IsOpen (row ∷ rows) = row.from ≡ None

first_none : (a b : Option MapErr) → option_or a b ≡ None → a ≡ None
first_none None b h = refl
first_none (Some e) b h = cc

second_none : (a b : Option MapErr) → option_or a b ≡ None → b ≡ None
second_none None b h = h
second_none (Some e) b h = cc

no_more : (rows : List ChunkRow) → rows ++ [] ≡ rows
no_more [] = refl
no_more (row ∷ rows) = ap (λ xs. row ∷ xs) (no_more rows)

moved : (front : List ChunkRow) (row : ChunkRow) (rows : List ChunkRow)
    → (front ++ row ∷ []) ++ rows ≡ front ++ row ∷ rows
moved [] row rows = refl
moved (x ∷ front) row rows = ap (λ xs. x ∷ xs) (moved front row rows)

ranges_case : (b : Bool) (x : ChunkRow) (xs ys zs : List ChunkRow) → xs ≡ ys ++ zs
    → cond b (x ∷ xs) xs ≡ cond b (x ∷ ys) ys ++ zs
ranges_case true x xs ys zs h = ap (λ rows. x ∷ rows) h
ranges_case false x xs ys zs h = h

ranges_last : (ns : List ℕ) (rows : List ChunkRow) (row : ChunkRow)
    → ranges_of ns (rows ++ row ∷ []) ≡ ranges_of ns rows ++ cond (bytes_eq row.ns ns) (row ∷ []) []
ranges_last ns [] row = refl
ranges_last ns (x ∷ rows) row = ranges_case (bytes_eq x.ns ns) x (ranges_of ns (rows ++ row ∷ []))
    (ranges_of ns rows) (cond (bytes_eq row.ns ns) (row ∷ []) []) (ranges_last ns rows row)

begins_open : (place : ℕ) (from : Option Id) → beginning_fault place None from ≡ None → from ≡ None
begins_open place None h = refl
begins_open place (Some id) h = cc

open_case : (place : ℕ) (before : List ChunkRow) (row : ChunkRow) → IsOpen before
    → beginning_fault place (last_range before) row.from ≡ None → IsOpen (before ++ row ∷ [])
open_case place [] row h none = begins_open place row.from none
open_case place (first ∷ before) row h none = h

open_next : (ns : List ℕ) (place : ℕ) (before : List ChunkRow) (row : ChunkRow) (b : Bool)
    → bytes_eq row.ns ns ≡ b → IsOpen (ranges_of ns before)
    → beginning_fault place (last_range (ranges_of row.ns before)) row.from ≡ None
    → IsOpen (ranges_of ns before ++ cond b (row ∷ []) [])
open_next ns place before row true is h none =
    let same : row.ns ≡ ns = same_name row.ns ns is in
    open_case place (ranges_of ns before) row h (subst
    (λ n. beginning_fault place (last_range (ranges_of n before)) row.from ≡ None) same none)
open_next ns place before row false is h none = subst IsOpen (sym (no_more (ranges_of ns before))) h

open_behind : (ns : List ℕ) (shards place : ℕ) (before rows : List ChunkRow)
    → IsOpen (ranges_of ns before) → fault_behind shards place before rows ≡ None
    → IsOpen (ranges_of ns (before ++ rows))
open_behind ns shards place before [] h none =
    subst (λ xs. IsOpen (ranges_of ns xs)) (sym (no_more before)) h
open_behind ns shards place before (row ∷ rows) h none =
    let here : row_fault shards place before row ≡ None = first_none (row_fault shards place before
    row) (fault_behind shards (place + 1) (before ++ row ∷ []) rows) none in
    let begins : beginning_fault place (last_range (ranges_of row.ns before)) row.from ≡ None =
    first_none (beginning_fault place (last_range (ranges_of row.ns before)) row.from) _ here in
    let next : IsOpen (ranges_of ns (before ++ row ∷ [])) = subst IsOpen (sym (ranges_last ns before
    row)) (open_next ns place before row (bytes_eq row.ns ns) refl h begins) in
    subst (λ xs. IsOpen (ranges_of ns xs)) (moved before row rows) (open_behind ns shards
    (place + 1) (before ++ row ∷ []) rows next (second_none (row_fault shards place before row)
    (fault_behind shards (place + 1) (before ++ row ∷ []) rows) none))

pub map_is_open : (m : Map) (ns : List ℕ) → IsMap m → IsOpen (ranges_of ns m.rows)
map_is_open m ns is = open_behind ns m.shards 0 [] m.rows tt is

there_or : (id : Id) (s : ℕ) (rows : List ChunkRow) → (shard_in s id rows ≡ s)
    ⊎ (list_any (nat_eq (shard_in s id rows)) (map (λ (r : ChunkRow). r.shard) rows) ≡ true)
    → list_any (nat_eq (shard_in s id rows)) (s ∷ map (λ (r : ChunkRow). r.shard) rows) ≡ true
there_or id s rows (inl same) =
    subst (λ k. list_any (nat_eq k) (s ∷ map (λ (r : ChunkRow). r.shard) rows) ≡ true) (sym same)
    (ap (λ b. b || list_any (nat_eq s) (map (λ (r : ChunkRow). r.shard) rows)) (eq-eqb s s refl))
there_or id s rows (inr there) = or_second (nat_eq (shard_in s id rows) s) there

or_there : (id : Id) (s t : ℕ) (rows : List ChunkRow) → (shard_in s id rows ≡ s)
    ⊎ (list_any (nat_eq (shard_in s id rows)) (map (λ (r : ChunkRow). r.shard) rows) ≡ true)
    → (shard_in s id rows ≡ s)
    ⊎ (list_any (nat_eq (shard_in s id rows)) (t ∷ map (λ (r : ChunkRow). r.shard) rows) ≡ true)
or_there id s t rows (inl same) = inl same
or_there id s t rows (inr there) = inr (or_second (nat_eq (shard_in s id rows) t) there)

-- the shard is that one, or a range's
in_case : (shard : ℕ) (id : Id) (row : ChunkRow) (rows : List ChunkRow) (b : Bool)
    → ((s : ℕ) → (shard_in s id rows ≡ s)
    ⊎ (list_any (nat_eq (shard_in s id rows)) (map (λ (r : ChunkRow). r.shard) rows) ≡ true))
    → (shard_in (if b then row.shard else shard) id rows ≡ shard)
    ⊎ (list_any (nat_eq (shard_in (if b then row.shard else shard) id rows))
    (row.shard ∷ map (λ (r : ChunkRow). r.shard) rows) ≡ true)
in_case shard id row rows true more = inr (there_or id row.shard rows (more row.shard))
in_case shard id row rows false more = or_there id shard row.shard rows (more shard)

shard_there : (id : Id) (rows : List ChunkRow) (shard : ℕ) → (shard_in shard id rows ≡ shard)
    ⊎ (list_any (nat_eq (shard_in shard id rows)) (map (λ (r : ChunkRow). r.shard) rows) ≡ true)
shard_there id [] shard = inl refl
shard_there id (row ∷ rows) shard =
    in_case shard id row rows (begins_by id row.from) (shard_there id rows)

open_there : (id : Id) (row : ChunkRow) (rows : List ChunkRow) → row.from ≡ None → list_any (nat_eq
    (shard_in 0 id (row ∷ rows))) (map (λ (r : ChunkRow). r.shard) (row ∷ rows)) ≡ true
open_there id row rows h =
    let begun : shard_in 0 id (row ∷ rows) ≡ shard_in row.shard id rows =
    ap (λ from. shard_in (if begins_by id from then row.shard else 0) id rows) h in
    subst (λ s. list_any (nat_eq s) (row.shard ∷ map (λ (r : ChunkRow). r.shard) rows) ≡ true)
    (sym begun) (there_or id row.shard rows (shard_there id rows row.shard))

-- where a namespace has ranges, each id is in one of them; else shard 0 keeps it
pub in_ranges : (id : Id) (rows : List ChunkRow)
    → IsOpen rows → ((rows ≡ []) × (shard_in 0 id rows ≡ 0))
    ⊎ (list_any (nat_eq (shard_in 0 id rows)) (map (λ (r : ChunkRow). r.shard) rows) ≡ true)
in_ranges id [] h = inl (refl, refl)
in_ranges id (row ∷ rows) h = inr (open_there id row rows h)
