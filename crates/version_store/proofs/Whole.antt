-- A change of the versions of one transaction: under its keys, and so in the whole store.
use Rattle.std.proofs.Common.{◌≡◌, Bool, true, false, cond, List, [], ◌∷◌, Option, Some, None, map}
use Rattle.std.proofs.Common.{find, refl, ap, sym, ◌∙◌}
use Rattle.std.specs.declared.cmp.Ordering.TheVariants.{Less, Equal}
use Rattle.txn_types.specs.declared.names.Tag.{Tag}
use Rattle.txn_semantics.specs.Keyed.{AllAbove, Rises}
use Rattle.txn_semantics.specs.Writes.{Place, place_cmp}
use Rattle.txn_semantics.proofs.Laying as laying
use Rattle.txn_semantics.proofs.Places.{place_total, place_exact}
use Rattle.version_store.specs.declared.version.Stamp.{Stamp}
use Rattle.version_store.specs.declared.version.Version.{Version}
use Rattle.version_store.specs.Versions.{Versions, is_of, keys_of, restamped, stamped, without}
use Rattle.version_store.specs.Versions.{dropped}
use Rattle.version_store.specs.Chains.{changed_under, with_versions}
use Rattle.version_store.proofs.Chained.{same_version, kept_version}
use Rattle.version_store.proofs.Histories.{Line}
use Rattle.version_store.proofs.Keyed as keyed

-- the keys of a transaction among keys that rise
over_case : (tag : Tag) (low : Place) (key : Place × Line) (keys : Versions) (o : Option Version)
    → find (is_of tag) key.1 ≡ o → place_cmp low key.0 ≡ Less
    → keyed.AllOver place_cmp low (keys_of tag keys)
    → keyed.AllOver place_cmp low (keys_of tag (key ∷ keys))
over_case tag low key keys None is h rest = rw is rest
over_case tag low key keys (Some version) is h rest = rw is (h, rest)

over : (tag : Tag) (low : Place) (keys : Versions) → AllAbove place_cmp low keys
    → keyed.AllOver place_cmp low (keys_of tag keys)
over tag low [] h = tt
over tag low (key ∷ keys) h =
    over_case tag low key keys (find (is_of tag) key.1) refl h.0 (over tag low keys h.1)

-- a change that leaves versions without one of the transaction
abbrev Spares : Tag → (Line → Line) → Type 0
Spares tag f = (versions : Line) → find (is_of tag) versions ≡ None → f versions ≡ versions

whole_case : (tag : Tag) (f : Line → Line) (spares : Spares tag f) (key : Place × Line) (keys :
    Versions) (o : Option Version) → find (is_of tag) key.1 ≡ o → Rises place_cmp (key ∷ keys)
    → changed_under place_cmp f (keys_of tag keys) keys ≡ map (λ key. (key.0, f key.1)) keys
    → changed_under place_cmp f (keys_of tag (key ∷ keys)) (key ∷ keys)
    ≡ (key.0, f key.1) ∷ map (λ key. (key.0, f key.1)) keys
whole_case tag f spares key keys None is r h =
    rw is
    (keyed.changed_behind place_cmp place_total place_exact f (keys_of tag keys) key keys
    (over tag key.0 keys r.0)
    ∙ ap (λ (xs : Versions). key ∷ xs) h
    ∙ ap (λ (c : Line). (key.0, c) ∷ map (λ key. (key.0, f key.1)) keys) (sym (spares key.1 is)))
whole_case tag f spares key keys (Some version) is r h =
    let same : place_cmp key.0 key.0 ≡ Equal =
    laying.cmp_self place_cmp place_total place_exact key.0 in
    rw is
    (ap (changed_under place_cmp f (keys_of tag keys))
    (keyed.changed_here place_cmp f key.0 key keys same ∙ ap
    (λ (xs : Versions). (key.0, f key.1) ∷ xs) (keyed.changed_above place_cmp f key.0 keys r.0))
    ∙ keyed.changed_behind place_cmp place_total place_exact f (keys_of tag keys) (key.0, f key.1)
    keys (over tag key.0 keys r.0)
    ∙ ap (λ (xs : Versions). (key.0, f key.1) ∷ xs) h)

whole : (tag : Tag) (f : Line → Line) → Spares tag f → (keys : Versions) → Rises place_cmp keys
    → changed_under place_cmp f (keys_of tag keys) keys ≡ map (λ key. (key.0, f key.1)) keys
whole tag f spares [] r = refl
whole tag f spares (key ∷ keys) r =
    whole_case tag f spares key keys (find (is_of tag) key.1) refl r (whole tag f spares keys r.1)

-- both changes of a store are such
none_case : (tag : Tag) (version : Version) (versions : Line) (b : Bool)
    → is_of tag version ≡ b → cond b (Some version) (find (is_of tag) versions) ≡ None
    → (is_of tag version ≡ false) × (find (is_of tag) versions ≡ None)
none_case tag version versions true is h = cc
none_case tag version versions false is h = (is, h)

spared_by_stamp : (tag : Tag) (stamp : Stamp) → Spares tag (map (restamped tag stamp))
spared_by_stamp tag stamp [] h = refl
spared_by_stamp tag stamp (version ∷ versions) h =
    let none = none_case tag version versions (is_of tag version) refl h in
    ap (λ (v : Version). v ∷ map (restamped tag stamp) versions) (same_version tag stamp version
    none.0) ∙ ap (λ (xs : Line). version ∷ xs) (spared_by_stamp tag stamp versions none.1)

spared_by_end : (tag : Tag) → Spares tag (without tag)
spared_by_end tag [] h = refl
spared_by_end tag (version ∷ versions) h =
    let none = none_case tag version versions (is_of tag version) refl h in
    kept_version tag version versions none.0
    ∙ ap (λ (xs : Line). version ∷ xs) (spared_by_end tag versions none.1)

pub stamped_under : (tag : Tag) (stamp : Stamp) (places : List Place) (keys : Versions)
    → Rises place_cmp keys → places ≡ keys_of tag keys
    → changed_under place_cmp (map (restamped tag stamp)) places keys ≡ stamped tag stamp keys
stamped_under tag stamp places keys r is =
    ap (λ (ps : List Place). changed_under place_cmp (map (restamped tag stamp)) ps keys) is
    ∙ whole tag (map (restamped tag stamp)) (spared_by_stamp tag stamp) keys r

pub dropped_under : (tag : Tag) (places : List Place) (keys : Versions)
    → Rises place_cmp keys → places ≡ keys_of tag keys
    → with_versions (changed_under place_cmp (without tag) places keys) ≡ dropped tag keys
dropped_under tag places keys r is =
    ap (λ (ps : List Place). with_versions (changed_under place_cmp (without tag) ps keys)) is
    ∙ ap with_versions (whole tag (without tag) (spared_by_end tag) keys r)
