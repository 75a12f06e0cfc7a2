-- Stores, place by place: what of them outlives a stop, after each change.
use Rattle.std.proofs.Common.{◌≡◌, Bool, true, false, cond, List, [], ◌∷◌, Option, Some, None}
use Rattle.std.proofs.Common.{filter, map, unwrap_or, refl, ap, ◌∙◌, sym}
use Rattle.std.specs.Option.{is_some}
use Rattle.std.specs.declared.cmp.Ordering.{Ordering}
use Rattle.std.specs.declared.cmp.Ordering.TheVariants.{Less, Equal, Greater}
use Rattle.std.specs.Ordering.{is_eq}
use Rattle.txn_types.specs.declared.names.Tag.{Tag}
use Rattle.txn_types.specs.declared.write.Write.{Write}
use Rattle.txn_semantics.specs.Keyed.{put, Rises}
use Rattle.txn_semantics.specs.Writes.{Place, place_cmp}
use Rattle.txn_semantics.proofs.Places.{place_total, place_exact}
use Rattle.version_store.specs.declared.version.Stamp.{Stamp}
use Rattle.version_store.specs.declared.version.Stamp.TheVariants.{Unfinished}
use Rattle.version_store.specs.declared.version.Version.{Version}
use Rattle.version_store.specs.Versions.{Versions, versions_of, has_versions, first, outlives}
use Rattle.version_store.specs.Versions.{finished, dropped, stamped, without, restamped, with_write}
use Rattle.version_store.specs.Versions.{with_writes}
use Rattle.participant.proofs.Written.{rises_dropped}
use Rattle.part_laws.specs.Each.{Each}
use Rattle.part_laws.specs.Looked.{looked}
use Rattle.part_laws.specs.Seen.{wrote_at}
use Rattle.part_laws.specs.Chain.{own_at, IsChain}
use Rattle.part_laws.proofs.Looking.{rows_same}
use Rattle.part_laws.proofs.Starting.{finished_survives}
use Rattle.part_laws.proofs.Stores.{versions_is, versions-dropped, versions-stamped}
use Rattle.part_laws.proofs.Stores.{versions-with_writes, rises-stamped, rises-with_writes}
use Rattle.part_laws.proofs.Stores.{topped_by}
use Rattle.durable_laws.proofs.Whole.{AreFilled, HasStamp}
use Rattle.durable_laws.proofs.Places.{lasting, lasting_without, lasting_drop, lasting_topped}
use Rattle.durable_laws.proofs.Places.{lasting_stamped, lasting_own}

-- Keys that have versions.

kept_filled : (key : Place × List Version) (store : Versions) (b : Bool) → has_versions key ≡ b
    → AreFilled store → AreFilled (cond b (key ∷ store) store)
kept_filled key store true is h = (is, h)
kept_filled key store false is h = h

pub filled_left : (store : Versions) → AreFilled (filter has_versions store)
filled_left [] = tt
filled_left (key ∷ store) =
    kept_filled key (filter has_versions store) (has_versions key) refl (filled_left store)

still_there : (f : Version → Version) (V : List Version) → is_some (first V) ≡ true
    → is_some (first (map f V)) ≡ true
still_there f [] h = h
still_there f (v ∷ V) h = refl

pub filled_stamped : (tag : Tag) (stamp : Stamp) (store : Versions) → AreFilled store
    → AreFilled (stamped tag stamp store)
filled_stamped tag stamp [] h = tt
filled_stamped tag stamp (key ∷ store) h =
    (still_there (restamped tag stamp) key.1 h.0, filled_stamped tag stamp store h.1)

put_filled : (key row : Place × List Version) (store more : Versions) (o : Ordering)
    → has_versions key ≡ true → AreFilled (row ∷ store) → AreFilled more
    → AreFilled (elim o [ Less ↦ key ∷ row ∷ store | Equal ↦ key ∷ store | Greater ↦ row ∷ more ])
put_filled key row store more Less new h m = (new, h)
put_filled key row store more Equal new h m = (new, h.1)
put_filled key row store more Greater new h m = (h.0, m)

filled_put : (place : Place) (v : Version) (V : List Version) (store : Versions) → AreFilled store
    → AreFilled (put place_cmp place (v ∷ V) store)
filled_put place v V [] h = (refl, tt)
filled_put place v V (row ∷ store) h = put_filled (place, v ∷ V) row store (put place_cmp place
    (v ∷ V) store) (place_cmp place row.0) refl h (filled_put place v V store h.1)

pub filled_writes : (tag : Tag) (store : Versions) (writes : List Write) → AreFilled store
    → AreFilled (with_writes tag store writes)
filled_writes tag store [] h = h
filled_writes tag store (write ∷ writes) h =
    filled_writes tag (with_write tag store write) writes (filled_put _ _ _ store h)

-- Stores with the same versions at each place are one.

some_list : List Version → Option (List Version)
some_list [] = None
some_list (v ∷ V) = Some (v ∷ V)

some_of : (V : List Version) → is_some (first V) ≡ true → some_list V ≡ Some V
unfolding some_list
some_of [] h = cc
some_of (v ∷ V) h = refl

looked_case : (place : Place) (key : Place × List Version) (store : Versions) (b : Bool)
    → has_versions key ≡ true
    → looked place_cmp place store ≡ some_list (unwrap_or (looked place_cmp place store) [])
    → cond b (Some key.1) (looked place_cmp place store)
    ≡ some_list (unwrap_or (cond b (Some key.1) (looked place_cmp place store)) [])
looked_case place key store true h more = sym (some_of key.1 h)
looked_case place key store false h more = more

looked_filled : (place : Place) (store : Versions) → AreFilled store
    → looked place_cmp place store ≡ some_list (unwrap_or (looked place_cmp place store) [])
unfolding some_list
looked_filled place [] h = refl
looked_filled place (key ∷ store) h =
    looked_case place key store (is_eq (place_cmp place key.0)) h.0 (looked_filled place store h.1)

pub stores_same : (a b : Versions) → Rises place_cmp a → Rises place_cmp b → AreFilled a
    → AreFilled b → ((place : Place) → versions_of a place ≡ versions_of b place) → a ≡ b
stores_same a b ra rb fa fb same =
    rows_same place_cmp place_total place_exact a b ra rb
    (λ place. looked_filled place a fa ∙ ap some_list (sym (versions_is a place) ∙ same place
    ∙ versions_is b place) ∙ sym (looked_filled place b fb))

-- What outlives a stop.

pub rises_finished : (store : Versions) → Rises place_cmp store → Rises place_cmp (finished store)
rises_finished store r = (finished_survives store r).rises

pub versions_finished : (store : Versions) (place : Place) → Rises place_cmp store
    → versions_of (finished store) place ≡ lasting (versions_of store place)
versions_finished store place r = (finished_survives store r).versions place

pub filled_finished : (store : Versions) → AreFilled (finished store)
filled_finished store =
    filled_left (map (λ (key : Place × List Version). (key.0, lasting key.1)) store)

pub filled_dropped : (tag : Tag) (store : Versions) → AreFilled (dropped tag store)
filled_dropped tag store =
    filled_left (map (λ (key : Place × List Version). (key.0, without tag key.1)) store)

pub finished_drop : (tag : Tag) (store : Versions) → Rises place_cmp store
    → finished (dropped tag store) ≡ dropped tag (finished store)
finished_drop tag store r =
    let rd = rises_dropped tag store r in
    let rf = rises_finished store r in
    stores_same (finished (dropped tag store)) (dropped tag (finished store))
    (rises_finished (dropped tag store) rd) (rises_dropped tag (finished store) rf)
    (filled_finished (dropped tag store)) (filled_dropped tag (finished store))
    (λ place. versions_finished (dropped tag store) place rd ∙ ap lasting
    (versions-dropped tag store place r) ∙ lasting_drop tag (versions_of store place)
    ∙ sym (versions-dropped tag (finished store) place rf
    ∙ ap (without tag) (versions_finished store place r)))

-- each version of this transaction isn't finished
abbrev pub AreUnfinished : Tag → Versions → Type 0
AreUnfinished tag store = (place : Place)
    → Each (HasStamp tag (Unfinished tag)) (versions_of store place)

pub finished_end : (tag : Tag) (store : Versions) → Rises place_cmp store → AreUnfinished tag store
    → finished (dropped tag store) ≡ finished store
finished_end tag store r live =
    let rd = rises_dropped tag store r in
    stores_same (finished (dropped tag store)) (finished store) (rises_finished (dropped tag store)
    rd) (rises_finished store r) (filled_finished (dropped tag store)) (filled_finished store)
    (λ place. versions_finished (dropped tag store) place rd
    ∙ ap lasting (versions-dropped tag store place r) ∙ lasting_without tag
    (versions_of store place) (live place) ∙ sym (versions_finished store place r))

pub finished_writes : (tag : Tag) (store : Versions) (writes : List Write) → Rises place_cmp store
    → AreUnfinished tag store → finished (with_writes tag store writes) ≡ finished store
finished_writes tag store writes r live =
    let rw = rises-with_writes tag store writes r in
    stores_same (finished (with_writes tag store writes)) (finished store)
    (rises_finished (with_writes tag store writes) rw) (rises_finished store r)
    (filled_finished (with_writes tag store writes)) (filled_finished store)
    (λ place. versions_finished (with_writes tag store writes) place rw ∙ ap lasting
    (versions-with_writes tag store place writes) ∙ lasting_topped tag (wrote_at place writes)
    (versions_of store place) (live place) ∙ sym (versions_finished store place r))

pub finished_decided : (tag : Tag) (old new : Stamp) (store : Versions)
    → Rises place_cmp store → outlives old ≡ true → outlives new ≡ true
    → ((place : Place) → Each (HasStamp tag old) (versions_of store place))
    → finished (stamped tag new store) ≡ stamped tag new (finished store)
finished_decided tag old new store r lo ln has =
    let rs = rises-stamped tag new store r in
    let rf = rises_finished store r in
    stores_same (finished (stamped tag new store)) (stamped tag new (finished store))
    (rises_finished (stamped tag new store) rs)
    (rises-stamped tag new (finished store) rf) (filled_finished (stamped tag new store))
    (filled_stamped tag new (finished store) (filled_finished store))
    (λ place. versions_finished (stamped tag new store) place rs ∙ ap lasting (versions-stamped tag
    new store place) ∙ lasting_stamped tag old new (versions_of store place) lo ln (has place)
    ∙ sym (versions-stamped tag new (finished store) place
    ∙ ap (map (restamped tag new)) (versions_finished store place r)))

-- a live transaction that commits, or is prepared
pub finished_own : (tag : Tag) (new : Stamp) (store : Versions) (writes : List Write)
    → Rises place_cmp store → outlives new ≡ true → AreUnfinished tag store
    → ((place : Place) → IsChain (versions_of store place))
    → ((place : Place) → own_at tag (versions_of store place) ≡ wrote_at place writes)
    → stamped tag new (with_writes tag (finished store) writes) ≡ finished (stamped tag new store)
finished_own tag new store writes r ln live chain own =
    let rs = rises-stamped tag new store r in
    let rf = rises_finished store r in
    let rw = rises-with_writes tag (finished store) writes rf in
    stores_same (stamped tag new (with_writes tag (finished store) writes))
    (finished (stamped tag new store)) (rises-stamped tag new
    (with_writes tag (finished store) writes) rw) (rises_finished (stamped tag new store) rs)
    (filled_stamped tag new (with_writes tag (finished store) writes) (filled_writes tag
    (finished store) writes (filled_finished store))) (filled_finished (stamped tag new store))
    (λ place. versions-stamped tag new (with_writes tag (finished store) writes) place
    ∙ ap (map (restamped tag new)) (versions-with_writes tag (finished store) place writes
    ∙ ap (topped_by tag (wrote_at place writes)) (versions_finished store place r)
    ∙ ap (λ c. topped_by tag c (lasting (versions_of store place))) (sym (own place)))
    ∙ lasting_own tag new (versions_of store place) ln (live place) (chain place)
    ∙ sym (versions_finished (stamped tag new store) place rs
    ∙ ap lasting (versions-stamped tag new store place)))
