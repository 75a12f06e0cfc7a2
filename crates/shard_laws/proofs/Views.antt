-- What a shard sees of the commits is its part of what all see.
use Rattle.std.proofs.Common.{◌≡◌, ◌≤◌, ◌+◌, ◌||◌, ℕ, Bool, true, false, cond, List, [], ◌∷◌, ◌++◌}
use Rattle.std.proofs.Common.{map, refl, ap, sym, ◌∙◌, nat_le, nat_eq, arith, if◌then◌else◌}
use Rattle.std.specs.List.{list_any}
use Rattle.std.specs.Str.{bytes_eq}
use Rattle.std.proofs.lemmas.Slice.Eq.{bytes_eq-Decides}
use Rattle.bson_core.specs.Fields.{Document}
use Rattle.txn_types.specs.declared.id.Id.{Id}
use Rattle.txn_types.specs.declared.write.Write.{Write}
use Rattle.txn_types.specs.declared.write.Write.TheVariants.{Put, Delete}
use Rattle.txn_semantics.specs.declared.commits.Entry.{Entry}
use Rattle.txn_semantics.specs.Found.{joined}
use Rattle.txn_semantics.specs.Rows.{Row, put_row, delete_row, written, under, at, IsRising}
use Rattle.txn_semantics.specs.Splits.{here, times}
use Rattle.txn_semantics.specs.View.{view_from, view}
use Rattle.txn_semantics.specs.Writes.{Place, place_of}
use Rattle.txn_semantics.proofs.Parts.{at-put_in, at-put_out, at-taken_in, at-taken_past}
use Rattle.txn_semantics.proofs.Totals.{AreNamed, join_parts}
use Rattle.txn_semantics.proofs.Viewing.{written_rises, under_rises, view_rises}
use Rattle.shard_laws.specs.Shares.{stands_at, writes_at, entries_at, place_in, AreAmong}

module _ (stands : Place → Bool) (ns : List ℕ) where
  abbrev p : Id → Bool
  p id = stands (ns, id)

  -- of a write in this namespace or another
  put_case : (id : Id) (doc : Document) (rows : List Row) (c : Bool) → p id ≡ c → IsRising rows
      → at p (put_row id doc rows) ≡ cond c (put_row id doc (at p rows)) (at p rows)
  put_case id doc rows true is r = at-put_in p id doc rows is r
  put_case id doc rows false is r = at-put_out p id doc rows is

  delete_case : (id : Id) (rows : List Row) (c : Bool) → p id ≡ c → IsRising rows
      → at p (delete_row id rows) ≡ cond c (delete_row id (at p rows)) (at p rows)
  delete_case id rows true is r = at-taken_in p id rows is r
  delete_case id rows false is r = at-taken_past p id rows is

  same_case : (c : Bool) (xs : List Row) → xs ≡ cond c xs xs
  same_case true xs = refl
  same_case false xs = refl

  step_case : (there : List ℕ) (id : Id) (b : Bool) (rows more part : List Row) → bytes_eq ns there
      ≡ b → (p id ≡ stands (there, id) → at p more ≡ cond (stands (there, id)) part (at p rows))
      → at p (if b then more else rows)
      ≡ cond (stands (there, id)) (if b then part else at p rows) (at p rows)
  step_case there id true rows more part is h =
      h (ap (λ (n : List ℕ). stands (n, id)) ((bytes_eq-Decides ns there).0 is))
  step_case there id false rows more part is h = same_case (stands (there, id)) (at p rows)

  step : (rows : List Row) (write : Write) → IsRising rows → at p (written ns rows write)
      ≡ cond (stands (place_of write)) (written ns (at p rows) write) (at p rows)
  step rows (Put there id doc) r = step_case there id (bytes_eq ns there) rows (put_row id doc rows)
      (put_row id doc (at p rows)) refl (λ is. put_case id doc rows (stands (there, id)) is r)
  step rows (Delete there id) r = step_case there id (bytes_eq ns there) rows (delete_row id rows)
      (delete_row id (at p rows)) refl (λ is. delete_case id rows (stands (there, id)) is r)

  under_case : (rows : List Row) (write : Write) (writes : List Write) (c : Bool) → under ns (cond c
      (written ns rows write) rows) writes ≡ under ns rows (cond c (write ∷ writes) writes)
  under_case rows write writes true = refl
  under_case rows write writes false = refl

  -- rows under writes
  pub at-under_place : (rows : List Row) (writes : List Write) → IsRising rows
      → at p (under ns rows writes) ≡ under ns (at p rows) (writes_at stands writes)
  at-under_place rows [] r = refl
  at-under_place rows (write ∷ writes) r =
      at-under_place (written ns rows write) writes (written_rises ns rows write r)
      ∙ ap (λ (xs : List Row). under ns xs (writes_at stands writes)) (step rows write r)
      ∙ under_case (at p rows) write (writes_at stands writes) (stands (place_of write))

  entry_case : (b : Bool) (rows : List Row) (e : Entry)
      → IsRising rows → at p (if b then under ns rows e.writes
      else rows) ≡ (if b then under ns (at p rows) (writes_at stands e.writes) else at p rows)
  entry_case true rows e r = at-under_place rows e.writes r
  entry_case false rows e r = refl

  rises_case : (b : Bool) (rows : List Row) (e : Entry) → IsRising rows
      → IsRising (if b then under ns rows e.writes else rows)
  rises_case true rows e r = under_rises ns rows e.writes r
  rises_case false rows e r = r

  view_from_here : (rows : List Row) (entries : List Entry) (moment : ℕ)
      → IsRising rows → at p (view_from rows entries moment ns)
      ≡ view_from (at p rows) (entries_at stands entries) moment ns
  view_from_here rows [] moment r = refl
  view_from_here rows (e ∷ entries) moment r =
      view_from_here (if nat_le e.at moment then under ns rows e.writes else rows) entries moment
      (rises_case (nat_le e.at moment) rows e r)
      ∙ ap (λ (xs : List Row). view_from xs (entries_at stands entries) moment ns)
      (entry_case (nat_le e.at moment) rows e r)

pub view_here : (stands : Place → Bool) (entries : List Entry) (moment : ℕ) (ns : List ℕ) → at
    (λ id. stands (ns, id)) (view entries moment ns) ≡ view (entries_at stands entries) moment ns
view_here stands entries moment ns = view_from_here stands ns [] entries moment tt

-- A commit that wrote nothing.

no_change : (b : Bool) (ns : List ℕ) (rows : List Row)
    → (if b then under ns rows [] else rows) ≡ rows
no_change true ns rows = refl
no_change false ns rows = refl

silent_from : (rows : List Row) (before behind : List Entry) (e : Entry) (moment : ℕ) (ns : List ℕ)
    → e.writes ≡ []
    → view_from rows (before ++ e ∷ behind) moment ns ≡ view_from rows (before ++ behind) moment ns
silent_from rows [] behind e moment ns none =
    ap (λ (ws : List Write). view_from (if nat_le e.at moment then under ns rows ws else rows)
    behind moment ns) none
    ∙ ap (λ (xs : List Row). view_from xs behind moment ns) (no_change (nat_le e.at moment) ns rows)
silent_from rows (f ∷ before) behind e moment ns none = silent_from (if nat_le f.at moment
    then under ns rows f.writes else rows) before behind e moment ns none

pub silent_leaves : (before behind : List Entry) (e : Entry) (moment : ℕ) (ns : List ℕ)
    → e.writes ≡ [] → view (before ++ e ∷ behind) moment ns ≡ view (before ++ behind) moment ns
silent_leaves = silent_from []

-- The join.

all_views : (shard_of : Place → ℕ) (shards : List ℕ) (entries : List Entry) (moment : ℕ)
    (ns : List ℕ)
    → map (λ s. at (here (place_in shard_of ns) s) (view entries moment ns)) shards
    ≡ map (λ s. view (entries_at (stands_at shard_of s) entries) moment ns) shards
all_views shard_of [] entries moment ns = refl
all_views shard_of (s ∷ shards) entries moment ns =
    let one = view_here (stands_at shard_of s) entries moment ns in
    let more = all_views shard_of shards entries moment ns in
    λ i. one i ∷ more i

times_case : (n : ℕ) (b : Bool) (shards : List ℕ) → (b || list_any (nat_eq n) shards) ≡ true
    → (list_any (nat_eq n) shards ≡ true → 1 ≤ times n shards)
    → 1 ≤ (if b then 1 else 0) + times n shards
times_case n true shards h more = omega arith
times_case n false shards h more = let le = more h in omega (arith, le)

named_there : (n : ℕ) (shards : List ℕ) → list_any (nat_eq n) shards ≡ true → 1 ≤ times n shards
named_there n [] h = absurd cc
named_there n (s ∷ shards) h = times_case n (nat_eq n s) shards h (named_there n shards)

are_named : (place : Id → ℕ) (shards : List ℕ) (rows : List Row) → AreAmong place shards rows
    → AreNamed place shards rows
are_named place shards [] among = tt
are_named place shards (row ∷ rows) among =
    (named_there (place row.0) shards among.0, are_named place shards rows among.1)

pub views_join : (shard_of : Place → ℕ) (shards : List ℕ) (entries : List Entry) (moment : ℕ)
    (ns : List ℕ) → AreAmong (place_in shard_of ns) shards (view entries moment ns)
    → joined [] (map (λ s. view (entries_at (stands_at shard_of s) entries) moment ns) shards)
    ≡ view entries moment ns
views_join shard_of shards entries moment ns among =
    ap (joined []) (sym (all_views shard_of shards entries moment ns))
    ∙ join_parts (place_in shard_of ns) shards (view entries moment ns) (view_rises entries moment
    ns) (are_named (place_in shard_of ns) shards (view entries moment ns) among)
