-- Write sets: their parts, and what the parts make together.
use Rattle.std.proofs.Common.{◌≡◌, ◌||◌, ℕ, Bool, true, false, cond, List, [], ◌∷◌, ◌++◌, map, refl}
use Rattle.std.proofs.Common.{ap, sym, ◌∙◌, nat_eq}
use Rattle.std.specs.List.{list_any}
use Rattle.std.specs.declared.cmp.Ordering.{Ordering}
use Rattle.std.specs.declared.cmp.Ordering.TheVariants.{Less, Equal, Greater}
use Rattle.std.proofs.lemmas.List.{map-append}
use Rattle.std.proofs.lemmas.List.Concat.{flat_map-cons}
use Rattle.txn_types.specs.declared.write.Write.{Write}
use Rattle.txn_semantics.specs.Keyed.{put, laid, at, Rises}
use Rattle.txn_semantics.specs.Writes.{Place, place_of, place_cmp, placed, write_set}
use Rattle.txn_semantics.proofs.Laying.{at-laid, join_two, rises_laid}
use Rattle.txn_semantics.proofs.Places.{place_total, place_exact}
use Rattle.shard_laws.specs.Shares.{stands_at, writes_at, AllAmong, shares}

-- writes under their places
abbrev Placed : Type 0
Placed = List (Place × Write)

-- the writes of rows
abbrev contents : Placed → List Write
contents rows = map (λ (row : Place × Write). row.1) rows

-- what holds of each row
abbrev AllRows : (Place × Write → Type 0) → Placed → Type 0
AllRows P [] = Unit {0}
AllRows P (row ∷ rows) = P row × AllRows P rows

put_case : (P : Place × Write → Type 0) (place : Place) (write : Write) (row : Place
    × Write) (rows : Placed) (o : Ordering) → P (place, write) → P row → AllRows P rows
    → AllRows P (put place_cmp place write rows)
    → AllRows P (elim o [
      | Less ↦ (place, write) ∷ row ∷ rows
      | Equal ↦ (place, write) ∷ rows
      | Greater ↦ row ∷ put place_cmp place write rows
    ])
put_case P place write row rows Less h one all more = (h, (one, all))
put_case P place write row rows Equal h one all more = (h, all)
put_case P place write row rows Greater h one all more = (one, more)

all_put : (P : Place × Write → Type 0) (place : Place) (write : Write) (rows : Placed)
    → P (place, write) → AllRows P rows → AllRows P (put place_cmp place write rows)
all_put P place write [] h all = (h, tt)
all_put P place write (row ∷ rows) h all = put_case P place write row rows (place_cmp place row.0) h
    all.0 all.1 (all_put P place write rows h all.1)

all_laid : (P : Place × Write → Type 0) (rows others : Placed) → AllRows P others → AllRows P rows
    → AllRows P (laid place_cmp rows others)
all_laid P rows [] h all = all
all_laid P rows (other ∷ others) h all = all_laid P (put place_cmp other.0 other.1 rows) others h.1
    (all_put P other.0 other.1 rows h.0 all)

-- a row stands under its write's place
abbrev IsPlaced : Place × Write → Type 0
IsPlaced row = row.0 ≡ place_of row.1

all_placed : (writes : List Write) → AllRows IsPlaced (map placed writes)
all_placed [] = tt
all_placed (write ∷ writes) = (refl, all_placed writes)

-- the rows of a write set
abbrev rows_of : List Write → Placed
rows_of writes = laid place_cmp [] (map placed writes)

rows_placed : (writes : List Write) → AllRows IsPlaced (rows_of writes)
rows_placed writes = all_laid IsPlaced [] (map placed writes) (all_placed writes) tt

rows_rise : (writes : List Write) → Rises place_cmp (rows_of writes)
rows_rise writes = rises_laid place_cmp place_total place_exact [] (map placed writes) tt

-- The part of a write set.

filter_case : (here : Place → Bool) (row : Place × Write) (rows : Placed) (b c : Bool)
    → b ≡ c → contents (cond b (row ∷ at here rows) (at here rows))
    ≡ cond c (row.1 ∷ contents (at here rows)) (contents (at here rows))
filter_case here row rows true true h = refl
filter_case here row rows true false h = absurd cc
filter_case here row rows false true h = absurd cc
filter_case here row rows false false h = refl

contents_at : (here : Place → Bool) (rows : Placed) → AllRows IsPlaced rows
    → contents (at here rows) ≡ writes_at here (contents rows)
contents_at here [] all = refl
contents_at here (row ∷ rows) all =
    filter_case here row rows (here row.0) (here (place_of row.1)) (ap here all.0)
    ∙ ap (λ (ws : List Write). cond (here (place_of row.1)) (row.1 ∷ ws) ws)
    (contents_at here rows all.1)

placed_case : (write : Write) (writes : List Write) (b : Bool) → map placed (cond b (write ∷ writes)
    writes) ≡ cond b (placed write ∷ map placed writes) (map placed writes)
placed_case write writes true = refl
placed_case write writes false = refl

placed_at : (here : Place → Bool) (writes : List Write)
    → map placed (writes_at here writes) ≡ at here (map placed writes)
placed_at here [] = refl
placed_at here (write ∷ writes) =
    placed_case write (writes_at here writes) (here (place_of write)) ∙ ap (λ (rows : Placed).
    cond (here (place_of write)) (placed write ∷ rows) rows) (placed_at here writes)

rows_at : (here : Place → Bool) (writes : List Write)
    → at here (rows_of writes) ≡ rows_of (writes_at here writes)
rows_at here writes = at-laid place_cmp place_total place_exact here [] (map placed writes) tt
    ∙ ap (laid place_cmp []) (sym (placed_at here writes))

pub set_here : (here : Place → Bool) (writes : List Write)
    → writes_at here (write_set writes) ≡ write_set (writes_at here writes)
set_here here writes = sym (contents_at here (rows_of writes) (rows_placed writes))
    ∙ ap contents (rows_at here writes)

-- What the parts make together.

-- some rows' places, and those of these shards
abbrev among : (Place → ℕ) → (Place → Bool) → List ℕ → Place → Bool
among shard_of p [] = p
among shard_of p (s ∷ shards) =
    among shard_of (λ place. cond (p place) true (stands_at shard_of s place)) shards

-- the parts of rows at these shards, one after the other
abbrev parts : (Place → ℕ) → List ℕ → Placed → Placed
parts shard_of [] rows = []
parts shard_of (s ∷ shards) rows = at (stands_at shard_of s) rows ++ parts shard_of shards rows

laid-append : (rows others more : Placed)
    → laid place_cmp rows (others ++ more) ≡ laid place_cmp (laid place_cmp rows others) more
laid-append rows [] more = refl
laid-append rows (other ∷ others) more =
    laid-append (put place_cmp other.0 other.1 rows) others more

join_among : (shard_of : Place → ℕ) (p : Place → Bool) (shards : List ℕ) (rows : Placed)
    → Rises place_cmp rows
    → laid place_cmp (at p rows) (parts shard_of shards rows) ≡ at (among shard_of p shards) rows
join_among shard_of p [] rows r = refl
join_among shard_of p (s ∷ shards) rows r =
    laid-append (at p rows) (at (stands_at shard_of s) rows) (parts shard_of shards rows)
    ∙ ap (λ (xs : Placed). laid place_cmp xs (parts shard_of shards rows))
    (join_two place_cmp place_total place_exact p (stands_at shard_of s) rows r)
    ∙ join_among shard_of (λ place. cond (p place) true (stands_at shard_of s place)) shards rows r

-- the place is that of one of the shards
abbrev IsAmong : (Place → ℕ) → List ℕ → Place × Write → Type 0
IsAmong shard_of shards row = list_any (nat_eq (shard_of row.0)) shards ≡ true

among_from : (shard_of : Place → ℕ) (p : Place → Bool) (shards : List ℕ) (place : Place)
    → p place ≡ true → among shard_of p shards place ≡ true
among_from shard_of p [] place h = h
among_from shard_of p (s ∷ shards) place h =
    among_from shard_of (λ place. cond (p place) true (stands_at shard_of s place)) shards place
    (ap (λ b. cond b true (stands_at shard_of s place)) h)

either_true : (b : Bool) → cond b true true ≡ true
either_true true = refl
either_true false = refl

there_case : (shard_of : Place → ℕ) (p : Place
    → Bool) (s : ℕ) (shards : List ℕ) (place : Place) (b : Bool) → nat_eq (shard_of place) s ≡ b
    → (b || list_any (nat_eq (shard_of place)) shards) ≡ true
    → ((q : Place → Bool) → list_any (nat_eq (shard_of place)) shards ≡ true
    → among shard_of q shards place ≡ true) → among shard_of p (s ∷ shards) place ≡ true
there_case shard_of p s shards place true is h more =
    among_from shard_of (λ place. cond (p place) true (stands_at shard_of s place)) shards place
    (ap (λ (b : Bool). cond (p place) true b) is ∙ either_true (p place))
there_case shard_of p s shards place false is h more =
    more (λ place. cond (p place) true (stands_at shard_of s place)) h

there : (shard_of : Place → ℕ) (p : Place → Bool) (shards : List ℕ) (place : Place)
    → list_any (nat_eq (shard_of place)) shards ≡ true → among shard_of p shards place ≡ true
there shard_of p [] place h = absurd cc
there shard_of p (s ∷ shards) place h = there_case shard_of p s shards place
    (nat_eq (shard_of place) s) refl h (λ q. there shard_of q shards place)

at_all : (q : Place → Bool) (rows : Placed) → AllRows (λ row. q row.0 ≡ true) rows
    → at q rows ≡ rows
at_all q [] all = refl
at_all q (row ∷ rows) all = ap (λ (b : Bool). cond b (row ∷ at q rows) (at q rows)) all.0
    ∙ ap (λ (xs : Placed). row ∷ xs) (at_all q rows all.1)

all_there : (shard_of : Place → ℕ) (p : Place → Bool) (shards : List ℕ) (rows : Placed)
    → AllRows (IsAmong shard_of shards) rows
    → AllRows (λ row. among shard_of p shards row.0 ≡ true) rows
all_there shard_of p shards [] all = tt
all_there shard_of p shards (row ∷ rows) all =
    (there shard_of p shards row.0 all.0, all_there shard_of p shards rows all.1)

at_none : (rows : Placed) → at (λ _. false) rows ≡ []
at_none [] = refl
at_none (row ∷ rows) = at_none rows

among_placed : (shard_of : Place → ℕ) (shards : List ℕ) (writes : List Write)
    → AllAmong shard_of shards writes → AllRows (IsAmong shard_of shards) (map placed writes)
among_placed shard_of shards [] all = tt
among_placed shard_of shards (write ∷ writes) all =
    (all.0, among_placed shard_of shards writes all.1)

-- rows that rise are what their parts make
parts_join : (shard_of : Place → ℕ) (shards : List ℕ) (rows : Placed) → Rises place_cmp rows
    → AllRows (IsAmong shard_of shards) rows → laid place_cmp [] (parts shard_of shards rows) ≡ rows
parts_join shard_of shards rows r all =
    ap (λ (xs : Placed). laid place_cmp xs (parts shard_of shards rows)) (sym (at_none rows))
    ∙ join_among shard_of (λ _. false) shards rows r
    ∙ at_all (among shard_of (λ _. false) shards) rows
    (all_there shard_of (λ _. false) shards rows all)

-- rows are those of their writes
placed_again : (rows : Placed) → AllRows IsPlaced rows → map placed (contents rows) ≡ rows
placed_again [] all = refl
placed_again (row ∷ rows) all =
    ap (λ (place : Place). (place, row.1) ∷ map placed (contents rows)) (sym all.0)
    ∙ ap (λ (xs : Placed). row ∷ xs) (placed_again rows all.1)

share_rows : (shard_of : Place → ℕ) (writes : List Write) (s : ℕ) → map placed (write_set
    (writes_at (stands_at shard_of s) writes)) ≡ at (stands_at shard_of s) (rows_of writes)
share_rows shard_of writes s =
    placed_again (rows_of (writes_at (stands_at shard_of s) writes)) (rows_placed
    (writes_at (stands_at shard_of s) writes)) ∙ sym (rows_at (stands_at shard_of s) writes)

shares_rows : (shard_of : Place → ℕ) (shards : List ℕ) (writes : List Write)
    → map placed (shares shard_of shards writes) ≡ parts shard_of shards (rows_of writes)
shares_rows shard_of [] writes = refl
shares_rows shard_of (s ∷ shards) writes =
    ap (map placed)
    (flat_map-cons (λ s. write_set (writes_at (stands_at shard_of s) writes)) s shards)
    ∙ map-append placed (write_set (writes_at (stands_at shard_of s) writes))
    (shares shard_of shards writes)
    ∙ (λ i. share_rows shard_of writes s i ++ shares_rows shard_of shards writes i)

pub sets_join : (shard_of : Place → ℕ) (shards : List ℕ) (writes : List Write)
    → AllAmong shard_of shards writes → write_set (shares shard_of shards writes) ≡ write_set writes
sets_join shard_of shards writes all =
    ap (λ (rows : Placed). contents (laid place_cmp [] rows)) (shares_rows shard_of shards writes)
    ∙ ap contents (parts_join shard_of shards (rows_of writes) (rows_rise writes) (all_laid (IsAmong
    shard_of shards) [] (map placed writes) (among_placed shard_of shards writes all) tt))
