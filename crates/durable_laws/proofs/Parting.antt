-- A whole part is what the definition of a part asks.
use Rattle.std.proofs.Common.{◌≡◌, ◌≤◌, ◌&&◌, ◌||◌, ℕ, Bool, true, false, cond, not, List, [], ◌∷◌}
use Rattle.std.proofs.Common.{find, map, Option, Some, None, All, IsSome, IsSomeAnd, IfSome}
use Rattle.std.proofs.Common.{option_map, unwrap_or, refl, ap, subst, ◌∙◌, sym, arith}
use Rattle.std.proofs.Common.{if◌then◌else◌}
use Rattle.std.specs.List.{list_any, cons_option}
use Rattle.std.specs.Option.{is_some, option_or}
use Rattle.std.specs.Cmp.{IsTotalOrder}
use Rattle.std.specs.Ordering.{is_eq, ordering_reverse}
use Rattle.std.specs.declared.cmp.Ordering.{Ordering}
use Rattle.std.proofs.lemmas.List.Elements.{All-nil, All-cons, All-head, All-tail}
use Rattle.std.proofs.lemmas.Map.Lookups.{CmpEqualImpliesEq}
use Rattle.bson_core.specs.Fields.{Document}
use Rattle.txn_types.specs.BySession.{BySession}
use Rattle.txn_types.specs.Order.{same_tag, same_lsid}
use Rattle.txn_types.specs.declared.names.Tag.{Tag}
use Rattle.txn_types.specs.declared.node.Lsid.{Lsid}
use Rattle.txn_types.specs.declared.write.Write.{Write}
use Rattle.txn_semantics.specs.Keyed.{AllAbove, Rises}
use Rattle.txn_semantics.specs.Writes.{Place, place_of, place_cmp}
use Rattle.txn_semantics.proofs.Places.{place_total, place_exact}
use Rattle.session_table.specs.Sessions.{prepared_at}
use Rattle.session_table.specs.declared.session.Session.{Session}
use Rattle.session_table.specs.declared.session.SessionState.{SessionState}
use Rattle.session_table.specs.declared.session.SessionState.TheVariants as state
use Rattle.version_store.specs.declared.version.Pending.{Pending}
use Rattle.version_store.specs.declared.version.Stamp.{Stamp}
use Rattle.version_store.specs.declared.version.Stamp.TheVariants.{Unfinished, Prepared}
use Rattle.version_store.specs.declared.version.Version.{Version}
use Rattle.version_store.specs.Versions.{Versions, versions_of, is_of, newest, content_of}
use Rattle.version_store.specs.Versions.{written_by, keys_of, first, has_versions, AreVersions}
use Rattle.version_store.specs.Versions.{IsStore, AreStamped, AreCommittedBy}
use Rattle.participant.specs.declared.said.Open.{Open}
use Rattle.participant.specs.Part.{Part, session, open_of, is_open}
use Rattle.participant.specs.Sound.{IsLive, IsPending, HasIts, IsOnce, IsPart}
use Rattle.participant.proofs.Inserted.{ascend_keys, rises_under, Ascend}
use Rattle.participant.proofs.Statements.{has_live}
use Rattle.participant.proofs.Written.{rises_written}
use Rattle.part_laws.specs.Each.{Each}
use Rattle.part_laws.specs.Looked.{looked}
use Rattle.part_laws.specs.Seen.{wrote_at}
use Rattle.part_laws.specs.Chain.{own_at}
use Rattle.part_laws.proofs.Chains.{each_both}
use Rattle.part_laws.proofs.Looking.{eq_self, eq_exact, looked_below, rows_same}
use Rattle.part_laws.proofs.Stores.{versions_is}
use Rattle.durable_laws.proofs.Whole.{AreFilled, AreNewestFirst, newest_commit, HasStamp, LiveHas}
use Rattle.durable_laws.proofs.Whole.{PendingHas, IsWhole}
use Rattle.durable_laws.proofs.Ends.{live_open}
use Rattle.durable_laws.proofs.Events.{all_live}
use Rattle.durable_laws.specs.Backed.{AreApart}
use Rattle.durable_laws.proofs.Facts.{each_session, each_found, one_of_each}
use Rattle.durable_laws.proofs.Opening.{at_looked}
use Rattle.durable_laws.proofs.Tables.{prepared_is}
use Rattle.participant.specs.Stands.{Stands}
use Rattle.part_laws.proofs.Opening.{some_of}

pub all_of_each : {X : Type 0} (P Q : X → Type 0) → ((x : X) → P x → Q x) → (xs : List X)
    → Each P xs → All Q xs
all_of_each P Q f [] h = All-nil Q
all_of_each P Q f (x ∷ xs) h = All-cons Q x xs (f x h.0) (all_of_each P Q f xs h.1)

-- Each row of a rising list is found under its key.
module _ {K A : Type 0} (cmp : K → K → Ordering) (total : IsTotalOrder cmp)
    (exact : CmpEqualImpliesEq cmp) where
  above_other : (key : K) (rest : List (K × A)) → AllAbove cmp key rest
      → Each (λ (row : K × A). is_eq (cmp row.0 key) ≡ false) rest
  above_other key [] above = tt
  above_other key (row ∷ rest) above = (
    ap is_eq (total.antisymm row.0 key ∙ ap ordering_reverse above.0),
    above_other key rest above.1,
  )

  pub each_looked : (rows : List (K × A)) → Rises cmp rows
      → Each (λ (row : K × A). looked cmp row.0 rows ≡ Some row.1) rows
  each_looked [] r = tt
  each_looked (row ∷ rest) r = (
    ap (λ b. if b then Some row.1 else looked cmp row.0 rest) (eq_self cmp total exact row.0),
    each_both (λ (other : K × A). is_eq (cmp other.0 row.0) ≡ false)
        (λ (other : K × A). looked cmp other.0 rest ≡ Some other.1)
        (λ (other : K × A). looked cmp other.0 (row ∷ rest) ≡ Some other.1)
        (λ other apart there. ap (λ b. if b then Some row.1 else looked cmp other.0 rest) apart
        ∙ there) rest (above_other row.0 rest r.0) (each_looked rest r.1),
  )

-- what holds at each place holds of each key
each_key : (P Q : List Version → Type 0) (store : Versions)
    → Rises place_cmp store → ((place : Place) → P (versions_of store place))
    → ((key : Place × List Version) → has_versions key ≡ true → P key.1 → Q key.1) → AreFilled store
    → All (λ (key : Place × List Version). Q key.1) store
each_key P Q store r at f filled =
    all_of_each (λ (key : Place × List Version). (has_versions key ≡ true) × P key.1)
    (λ (key : Place × List Version). Q key.1) (λ key h. f key h.0 h.1) store
    (each_both (λ (key : Place × List Version). looked place_cmp key.0 store ≡ Some key.1)
    (λ (key : Place × List Version). has_versions key ≡ true)
    (λ (key : Place × List Version). (has_versions key ≡ true) × P key.1)
    (λ key there has.
    (has, subst P (versions_is store key.0 ∙ ap (λ o. unwrap_or o []) there) (at key.0))) store
    (each_looked place_cmp place_total place_exact store r) filled)

are_versions : (V : List Version) → is_some (first V) ≡ true → AreNewestFirst V → AreVersions V
are_versions [] has h = cc
are_versions (v ∷ V) has h = h

pub whole_store : (p : Part) (last : ℕ) → IsWhole p last → IsStore p.store
whole_store p last w = record {
  rises = w.rises;
  versions = each_key AreNewestFirst AreVersions p.store w.rises w.newest (λ key has h.
      are_versions key.1 has h) w.filled;
}

all_stamped : (tag : Tag) (stamp : Stamp) (store : Versions) → Rises place_cmp store
    → AreFilled store → ((place : Place) → Each (HasStamp tag stamp) (versions_of store place))
    → AreStamped tag stamp store
all_stamped tag stamp store r filled at =
    each_key (Each (HasStamp tag stamp))
    (λ V. All (λ version. is_of tag version ≡ true → version.stamp ≡ stamp) V) store r at
    (λ key has h. all_of_each (HasStamp tag stamp)
    (λ version. is_of tag version ≡ true → version.stamp ≡ stamp) (λ v s. s) key.1 h) filled

-- What a transaction wrote, by key.

written_hit : (tag : Tag) (place : Place) (key : Place
    × List Version) (store : Versions) (o : Option Version) (b : Bool) → find (is_of tag) key.1 ≡ o
    → is_eq (place_cmp place key.0) ≡ b → (b ≡ true → looked place_cmp place store ≡ None)
    → looked place_cmp place (written_by tag store)
    ≡ own_at tag (unwrap_or (looked place_cmp place store) [])
    → looked place_cmp place (cons_option (option_map (λ (v : Version). (key.0, v.doc)) o)
    (written_by tag store))
    ≡ own_at tag (unwrap_or (cond b (Some key.1) (looked place_cmp place store)) [])
written_hit tag place key store None true found is below more = more ∙ ap (λ x.
    own_at tag (unwrap_or x [])) (below refl) ∙ sym (ap (option_map (λ (v : Version). v.doc)) found)
written_hit tag place key store None false found is below more = more
written_hit tag place key store (Some v) true found is below more =
    ap (λ b. cond b (Some v.doc) (looked place_cmp place (written_by tag store))) is
    ∙ sym (ap (option_map (λ (v : Version). v.doc)) found)
written_hit tag place key store (Some v) false found is below more =
    ap (λ b. cond b (Some v.doc) (looked place_cmp place (written_by tag store))) is ∙ more

below_case : (place : Place) (key : Place × List Version) (store : Versions)
    → AllAbove place_cmp key.0 store → is_eq (place_cmp place key.0) ≡ true
    → looked place_cmp place store ≡ None
below_case place key store above is =
    subst (λ x. looked place_cmp x store ≡ None) (sym (eq_exact place_cmp place_total place_exact
    place key.0 is)) (looked_below place_cmp place_total place_exact key.0 store above)

written_looked : (tag : Tag) (place : Place) (store : Versions)
    → Rises place_cmp store → looked place_cmp place (written_by tag store)
    ≡ own_at tag (unwrap_or (looked place_cmp place store) [])
written_looked tag place [] r = refl
written_looked tag place (key ∷ store) r =
    written_hit tag place key store (find (is_of tag) key.1) (is_eq (place_cmp place key.0)) refl
    refl (below_case place key store r.0) (written_looked tag place store r.1)

pub written_at : (tag : Tag) (place : Place) (store : Versions) → Rises place_cmp store
    → looked place_cmp place (written_by tag store) ≡ own_at tag (versions_of store place)
written_at tag place store r = written_looked tag place store r
    ∙ ap (own_at tag) (sym (versions_is store place))

abbrev row_of : Write → Place × Option Document
row_of write = (place_of write, content_of write)

wrote_hit : (place : Place) (write : Write) (writes : List Write) (b : Bool)
    → is_eq (place_cmp place (place_of write)) ≡ b
    → (b ≡ true → looked place_cmp place (map row_of writes) ≡ None)
    → looked place_cmp place (map row_of writes) ≡ wrote_at place writes
    → cond b (Some (content_of write)) (looked place_cmp place (map row_of writes))
    ≡ option_or (wrote_at place writes) (if b then Some (content_of write) else None)
wrote_hit place write writes true is below more =
    ap (λ o. option_or o (Some (content_of write))) (sym (below refl) ∙ more)
wrote_hit place write writes false is below more = more ∙ none_or (wrote_at place writes)
  where
    none_or : (c : Option (Option Document)) → c ≡ option_or c None
    none_or None = refl
    none_or (Some doc) = refl

wrote_looked : (place : Place) (writes : List Write) → Rises place_cmp (map row_of writes)
    → looked place_cmp place (map row_of writes) ≡ wrote_at place writes
wrote_looked place [] r = refl
wrote_looked place (write ∷ writes) r =
    wrote_hit place write writes (is_eq (place_cmp place (place_of write))) refl
    (λ is. subst (λ x. looked place_cmp x (map row_of writes) ≡ None)
    (sym (eq_exact place_cmp place_total place_exact place (place_of write) is))
    (looked_below place_cmp place_total place_exact (place_of write) (map row_of writes) r.0))
    (wrote_looked place writes r.1)

-- its keys were committed at or below what it reads at
keys_free : (tag : Tag) (at : ℕ) (store : Versions) → Rises place_cmp store
    → ((place : Place) → is_some (own_at tag (versions_of store place)) ≡ true
    → newest_commit (versions_of store place) ≤ at) → AreCommittedBy at (keys_of tag store) store
keys_free tag at store r over = keys_case (written_by tag store) (each_looked place_cmp place_total
    place_exact (written_by tag store) (rises_written tag store r))
  where
    time_case : (o : Option ℕ) → unwrap_or o 0 ≤ at → IfSome o (λ commit. commit ≤ at)
    time_case None h = tt
    time_case (Some n) h = h

    keys_case : (rows : List (Place × Option Document)) → Each (λ (row : Place × Option Document).
        looked place_cmp row.0 (written_by tag store) ≡ Some row.1) rows
        → All (λ place. IfSome (newest store place) (λ commit. commit ≤ at))
        (map (λ (row : Place × Option Document). row.0) rows)
    keys_case [] h = All-nil (λ place. IfSome (newest store place) (λ commit. commit ≤ at))
    keys_case (row ∷ rows) h =
        All-cons (λ place. IfSome (newest store place) (λ commit. commit ≤ at)) row.0
        (map (λ (row : Place × Option Document). row.0) rows)
        (time_case (newest store row.0)
        (over row.0 (ap is_some (sym (written_at tag row.0 store r) ∙ h.0))))
        (keys_case rows h.1)

-- Live ones.

whole_live : (p : Part) (last : ℕ) → IsWhole p last → (entry : Lsid × Open)
    → open_of p entry.0 ≡ Some entry.1 → IsLive p entry.0 entry.1
whole_live p last w entry mine =
    let o : Open = entry.1 in
    let h = w.live entry.0 o mine in
    let has = has_live p entry.0 o w.stands mine in
    let keys : map place_of o.writes ≡ keys_of o.tag p.store = has.keys
    ∙ ap (λ t. keys_of t p.store) (sym has.tag) in
    let up : Ascend place_cmp (map place_of o.writes) = subst (Ascend place_cmp) (sym keys)
    (ascend_keys place_cmp _ (rises_written o.tag p.store w.rises)) in
    let rises : Rises place_cmp (map row_of o.writes) =
    rises_under place_cmp place_of content_of o.writes up in
    record {
      session = subst (λ x. IsSomeAnd x (λ s. (s.tag ≡ o.tag) × (s.state ≡ state.Live)))
          (sym has.there) (sym has.tag, has.live);
      written = rows_same place_cmp place_total place_exact (written_by o.tag p.store) (map row_of
          o.writes) (rises_written o.tag p.store w.rises) rises
          (λ place. written_at o.tag place p.store w.rises ∙ h.own place
          ∙ sym (wrote_looked place o.writes rises));
      stamped = all_stamped o.tag (Unfinished o.tag) p.store w.rises w.filled h.over.stamps;
      free = subst (λ places. AreCommittedBy o.read_at places p.store) (sym keys) (keys_free o.tag
          o.read_at p.store w.rises h.over.behind);
    }

-- Prepared ones.

whole_pending : (p : Part) (last : ℕ) → IsWhole p last → (q : Pending) → PendingHas p q
    → IsPending p q
whole_pending p last w q h = (
  h.s,
  h.at,
  h.session,
  record {
    tag = h.tag;
    state = ap prepared_at h.state;
    later = h.later;
    keys = h.keys;
    stamped = all_stamped q.tag (Prepared q.tag h.at) p.store w.rises w.filled h.over.stamps;
    free = subst (λ places. AreCommittedBy q.read_at places p.store) h.keys (keys_free q.tag
        q.read_at p.store w.rises h.over.behind);
  },
)

-- Sessions.

its_case : (p : Part) (last : ℕ) (lsid : Lsid) (s : Session) (st : SessionState) → s.state ≡ st
    → IsWhole p last → session p lsid ≡ Some s → HasIts p lsid s st
its_case p last lsid s state.Live is w there = let a = live_open p last lsid s w there is in
    subst IsSome (sym a.1) refl
its_case p last lsid s (state.Prepared at coordinator) is w there =
    w.prepared lsid s at coordinator there is
its_case p last lsid s (state.Committed at) is w there = tt
its_case p last lsid s state.Released is w there = tt
its_case p last lsid s (state.Aborted why read_at) is w there = tt

apart_case : (p : Part) (last : ℕ) (lsid : Lsid) (s : Session) (entry : Lsid
    × Session) (a b c : Bool) → same_lsid entry.0 lsid ≡ a → same_tag entry.1.tag s.tag ≡ b
    → is_open entry.1.state ≡ c → IsWhole p last → session p lsid ≡ Some s → is_open s.state ≡ true
    → session p entry.0 ≡ Some entry.1 → (not a && b && c) ≡ false
apart_case p last lsid s entry true b c ia ib ic w there so has = refl
apart_case p last lsid s entry false false c ia ib ic w there so has = refl
apart_case p last lsid s entry false true false ia ib ic w there so has = refl
apart_case p last lsid s entry false true true ia ib ic w there so has =
    let wrong : true ≡ false =
    sym (w.stands.apart entry.0 lsid entry.1 s has there ic so ib) ∙ ia in cc

none_elsewhere : (p : Part) (last : ℕ) (lsid : Lsid) (s : Session) (entries : BySession Session)
    → IsWhole p last → session p lsid ≡ Some s → is_open s.state ≡ true
    → Each (λ (entry : Lsid × Session). session p entry.0 ≡ Some entry.1) entries
    → list_any (λ (entry : Lsid × Session). not (same_lsid entry.0 lsid)
    && same_tag entry.1.tag s.tag && is_open entry.1.state) entries ≡ false
none_elsewhere p last lsid s [] w there so h = refl
none_elsewhere p last lsid s (entry ∷ entries) w there so h =
    ap (λ b. b || list_any (λ (entry : Lsid × Session). not (same_lsid entry.0 lsid)
    && same_tag entry.1.tag s.tag && is_open entry.1.state) entries)
    (apart_case p last lsid s entry (same_lsid entry.0 lsid) (same_tag entry.1.tag s.tag)
    (is_open entry.1.state) refl refl refl w there so h.0)
    ∙ none_elsewhere p last lsid s entries w there so h.1

pub whole_is_part : (p : Part) (last : ℕ) → IsWhole p last → IsPart p
whole_is_part p last w =
    record {
      store = whole_store p last w;
      rises = w.lives;
      live = all_of_each (λ (entry : Lsid × Open). open_of p entry.0 ≡ Some entry.1) (λ (entry :
          Lsid × Open). IsLive p entry.0 entry.1) (whole_live p last w) p.live (all_live p w.lives);
      pending =
          all_of_each (PendingHas p) (IsPending p) (whole_pending p last w) p.pending w.pending;
      sessions = each_session (λ lsid s. HasIts p lsid s s.state
          × IsOnce p lsid s) p.sessions.entries w.apart
          (λ lsid s there. (
            its_case p last lsid s s.state refl w there,
            λ so. none_elsewhere p last lsid s p.sessions.entries w there so
                (each_found p.sessions.entries w.apart),
          ));
    }

-- And the other way.

each_all : {X : Type 0} (P Q : X → Type 0) → ((x : X) → P x → Q x) → (xs : List X)
    → All P xs → Each Q xs
each_all P Q f [] h = tt
each_all P Q f (x ∷ xs) h = (f x (All-head P x xs h), each_all P Q f xs (All-tail P x xs h))

versions_filled : (key : Place × List Version) (V : List Version) → key.1 ≡ V → AreVersions V
    → has_versions key ≡ true
versions_filled key [] is h = absurd h
versions_filled key (v ∷ V) is h = ap (λ (W : List Version). is_some (first W)) is

newest_versions : (V : List Version) → AreVersions V → AreNewestFirst V
newest_versions [] h = tt
newest_versions (v ∷ V) h = h

module _ (store : Versions) (sound : IsStore store) where
  store_filled : AreFilled store
  store_filled =
      each_all (λ (key : Place × List Version). AreVersions key.1) (λ (key : Place × List Version).
      has_versions key ≡ true) (λ key h. versions_filled key key.1 refl h) store sound.versions

  store_newest : (place : Place) → AreNewestFirst (versions_of store place)
  store_newest place =
      subst AreNewestFirst (sym (versions_is store place))
      (at_looked AreNewestFirst place store tt (each_all (λ (key : Place × List Version).
      AreVersions key.1) (λ (key : Place × List Version). AreNewestFirst key.1)
      (λ key h. newest_versions key.1 h) store sound.versions))

  stamped_at : (tag : Tag) (stamp : Stamp) → AreStamped tag stamp store → (place : Place)
      → Each (HasStamp tag stamp) (versions_of store place)
  stamped_at tag stamp all place =
      subst (Each (HasStamp tag stamp)) (sym (versions_is store place))
      (at_looked (Each (HasStamp tag stamp)) place store tt
      (each_all (λ (key : Place × List Version).
      All (λ version. is_of tag version ≡ true → version.stamp ≡ stamp) key.1)
      (λ (key : Place × List Version). Each (HasStamp tag stamp) key.1)
      (λ key h. each_all (λ version. is_of tag version ≡ true → version.stamp ≡ stamp)
      (HasStamp tag stamp) (λ v s. s) key.1 h) store all))

  found_key : (P : Place → Type 0) (place : Place) (doc : Option Document) (row : Place
      × Option Document) (rows : List (Place × Option Document)) (b : Bool)
      → is_eq (place_cmp place row.0) ≡ b → P row.0
      → (looked place_cmp place rows ≡ Some doc → P place)
      → cond b (Some row.1) (looked place_cmp place rows) ≡ Some doc → P place
  found_key P place doc row rows true is here more there =
      subst P (sym (eq_exact place_cmp place_total place_exact place row.0 is)) here
  found_key P place doc row rows false is here more there = more there

  one_key : (P : Place → Type 0) (rows : List (Place × Option Document))
      → All P (map (λ (row : Place × Option Document). row.0) rows)
      → (place : Place) (doc : Option Document) → looked place_cmp place rows ≡ Some doc → P place
  one_key P [] all place doc there = cc
  one_key P (row ∷ rows) all place doc there =
      let keys : List Place = map (λ (row : Place × Option Document). row.0) rows in
      found_key P place doc row rows (is_eq (place_cmp place row.0)) refl
      (All-head P row.0 keys all) (one_key P rows (All-tail P row.0 keys all) place doc) there

  time_under : (at : ℕ) (o : Option ℕ) → IfSome o (λ commit. commit ≤ at) → unwrap_or o 0 ≤ at
  time_under at None h = omega arith
  time_under at (Some n) h = h

  behind_keys : (tag : Tag) (at : ℕ) → AreCommittedBy at (keys_of tag store) store
      → (place : Place) → is_some (own_at tag (versions_of store place)) ≡ true
      → newest_commit (versions_of store place) ≤ at
  behind_keys tag at free place own =
      let there = some_of (own_at tag (versions_of store place)) own in
      time_under at (newest store place)
      (one_key (λ place. IfSome (newest store place) (λ commit. commit ≤ at)) (written_by tag
      store) free place there.0 (written_at tag place store sound.rises ∙ there.1))

module _ (p : Part) (last : ℕ) (part : IsPart p) (stands : Stands p)
    (reads : All (λ (entry : Lsid × Open). entry.1.read_at ≤ last) p.live)
    (apart : AreApart p.sessions.entries) where
  live_of : (lsid : Lsid) (o : Open) → open_of p lsid ≡ Some o → LiveHas p.store last o
  live_of lsid o mine =
      let h : IsLive p lsid o = one_of_each (IsLive p) p.live part.live lsid o mine in
      let has = has_live p lsid o stands mine in
      let keys : map place_of o.writes ≡ keys_of o.tag p.store = has.keys
      ∙ ap (λ t. keys_of t p.store) (sym has.tag) in
      let up : Ascend place_cmp (map place_of o.writes) = subst (Ascend place_cmp) (sym keys)
      (ascend_keys place_cmp _ (rises_written o.tag p.store part.store.rises)) in
      let rises : Rises place_cmp (map row_of o.writes) =
      rises_under place_cmp place_of content_of o.writes up in
      record {
        reads = one_of_each (λ (l : Lsid) (a : Open). a.read_at ≤ last) p.live reads lsid o mine;
        rises = rises_under place_cmp place_of (λ (write : Write). write) o.writes up;
        own = λ place. sym (written_at o.tag place p.store part.store.rises)
            ∙ ap (looked place_cmp place) h.written ∙ wrote_looked place o.writes rises;
        over = record {
          stamps = stamped_at p.store part.store o.tag (Unfinished o.tag) h.stamped;
          behind = behind_keys p.store part.store o.tag o.read_at
              (subst (λ places. AreCommittedBy o.read_at places p.store) keys h.free);
        };
      }

  pending_of_part : (q : Pending) → IsPending p q → PendingHas p q
  pending_of_part q h =
      let st = prepared_is h.0.state h.1 h.3.state in
      record {
        s = h.0;
        at = h.1;
        coordinator = st.0;
        session = h.2;
        tag = h.3.tag;
        state = st.1;
        later = h.3.later;
        keys = h.3.keys;
        over = record {
          stamps = stamped_at p.store part.store q.tag (Prepared q.tag h.1) h.3.stamped;
          behind = behind_keys p.store part.store q.tag q.read_at
              (subst (λ places. AreCommittedBy q.read_at places p.store) (sym h.3.keys) h.3.free);
        };
      }

  pub part_is_whole : IsWhole p last
  part_is_whole =
      record {
        stands = stands;
        rises = part.store.rises;
        filled = store_filled p.store part.store;
        newest = store_newest p.store part.store;
        lives = part.rises;
        live = live_of;
        pending = each_all (IsPending p) (PendingHas p) pending_of_part p.pending part.pending;
        prepared = λ lsid s at coordinator there is.
            let its = one_of_each (λ lsid s. HasIts p lsid s s.state
            × IsOnce p lsid s) p.sessions.entries part.sessions lsid s there in
            subst (HasIts p lsid s) is its.0;
        apart = apart;
      }

pub whole_reads : (p : Part) (last : ℕ) → IsWhole p last
    → All (λ (entry : Lsid × Open). entry.1.read_at ≤ last) p.live
whole_reads p last w = all_of_each (λ (entry : Lsid × Open). open_of p entry.0
    ≡ Some entry.1) (λ (entry : Lsid × Open). entry.1.read_at
    ≤ last) (λ entry mine. (w.live entry.0 entry.1 mine).reads) p.live (all_live p w.lives)
