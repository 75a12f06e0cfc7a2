-- The shard of what a filter matches is among those that are asked for it.
use Rattle.std.proofs.Common.{◌≡◌, ◌||◌, ◌⊎◌, inl, inr, ℕ, Bool, true, false, List, [], ◌∷◌, map}
use Rattle.std.proofs.Common.{Some, None, refl, ap, sym, subst, arith, nat_eq}
use Rattle.std.specs.Cmp.{Equal-is}
use Rattle.std.specs.List.{list_any}
use Rattle.std.proofs.lemmas.Bool.{eq-eqb}
use Rattle.bson_core.specs.Fields.{Document}
use Rattle.txn_types.specs.Ids.{id_in}
use Rattle.txn_types.specs.Order.{id_cmp, same_id}
use Rattle.txn_types.proofs.Orders.{id_exact}
use Rattle.txn_types.specs.declared.filter.Filter.{Filter}
use Rattle.txn_types.specs.declared.id.Id.{Id}
use Rattle.txn_semantics.specs.Filters.{matches}
use Rattle.txn_semantics.specs.Splits.{times}
use Rattle.txn_semantics.specs.Touched.{Touched, id_test, touches}
use Rattle.query_eval.proofs.Touching.{matched_is_touched}
use Rattle.chunk_map.specs.declared.map.ChunkRow.{ChunkRow}
use Rattle.chunk_map.specs.Map.{Map, IsMap, ranges_of}
use Rattle.chunk_map.specs.Place.{shard_in, shard_of, rising, or_first, shards_by, shards_for}
use Rattle.chunk_laws.proofs.Risen.{among_once}
use Rattle.chunk_laws.proofs.Ranges.{IsOpen, map_is_open, in_ranges}

-- none of the shards is left out where there is one
kept_first : (n : ℕ) (ns : List ℕ) → times n ns ≡ 1 → times n (or_first ns) ≡ 1
kept_first n [] h = absurd (omega (arith, h))
kept_first n (m ∷ ns) h = h

or_true : (a : Bool) {b : Bool} → b ≡ true → (a || b) ≡ true
or_true true h = refl
or_true false h = h

with_shard : (place : Id → ℕ) (id other : Id) (others : List Id) (b : Bool) → same_id id other ≡ b
    → (list_any (same_id id) others ≡ true → list_any (nat_eq (place id)) (map place others) ≡ true)
    → (b || list_any (same_id id) others) ≡ true → (nat_eq (place id) (place other)
    || list_any (nat_eq (place id)) (map place others)) ≡ true
with_shard place id other others true is more h =
    let same : id ≡ other = id_exact id other ((Equal-is (id_cmp id other)).0 is) in
    subst (λ i. (nat_eq (place id) (place i) || list_any (nat_eq (place id)) (map place others))
    ≡ true) same (ap (λ b. b || list_any (nat_eq (place id)) (map place others))
    (eq-eqb (place id) (place id) refl))
with_shard place id other others false is more h =
    or_true (nat_eq (place id) (place other)) (more h)

among_shards : (place : Id → ℕ) (id : Id) (ids : List Id) → list_any (same_id id) ids ≡ true
    → list_any (nat_eq (place id)) (map place ids) ≡ true
among_shards place id [] h = cc
among_shards place id (other ∷ others) h = with_shard place id other others (same_id id other) refl
    (λ more. among_shards place id others more) h

by_ranges : (m : Map) (ns : List ℕ) (id : Id) (rows : List ChunkRow)
    → ((rows ≡ []) × (shard_in 0 id rows ≡ 0))
    ⊎ (list_any (nat_eq (shard_in 0 id rows)) (map (λ (r : ChunkRow). r.shard) rows) ≡ true)
    → times (shard_in 0 id rows) (or_first (rising (map (λ (r : ChunkRow). r.shard) rows))) ≡ 1
by_ranges m ns id rows (inl none) =
    subst (λ (n : ℕ). times n (or_first (rising (map (λ (r : ChunkRow). r.shard) rows))) ≡ 1)
    (sym none.1) (subst (λ (xs : List ChunkRow).
    times 0 (or_first (rising (map (λ (r : ChunkRow). r.shard) xs))) ≡ 1) (sym none.0) refl)
by_ranges m ns id rows (inr there) =
    kept_first (shard_in 0 id rows) (rising (map (λ (r : ChunkRow). r.shard) rows))
    (among_once (shard_in 0 id rows) (map (λ (r : ChunkRow). r.shard) rows) there)

asked_by : (m : Map) (ns : List ℕ) (id : Id) (test : Touched) → IsMap m → touches test id ≡ true
    → times (shard_of m ns id) (shards_by m ns test) ≡ 1
asked_by m ns id (Some ids) is h =
    kept_first (shard_of m ns id) (rising (map (shard_of m ns) ids)) (among_once (shard_of m ns id)
    (map (shard_of m ns) ids) (among_shards (shard_of m ns) id ids h))
asked_by m ns id None is h = by_ranges m ns id (ranges_of ns m.rows) (in_ranges id
    (ranges_of ns m.rows) (map_is_open m ns is))

pub asked : (m : Map) (ns : List ℕ) (wanted : Filter) (id : Id) (doc : Document)
    → IsMap m → id_in doc ≡ Some id → matches wanted doc ≡ true
    → times (shard_of m ns id) (shards_for m ns wanted) ≡ 1
asked m ns wanted id doc is has h =
    asked_by m ns id (id_test wanted) is (matched_is_touched doc id has wanted h)
