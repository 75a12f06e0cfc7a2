-- A part after a statement.
use Rattle.std.proofs.Common.{◌≡◌, ◌≤◌, ◌<ℤ◌, ◌⊎◌, inl, inr, ◌||◌, ◌&&◌, ℕ, Bool, true, false, cond}
use Rattle.std.proofs.Common.{not, List, [], ◌∷◌, Option, Some, None, IsSomeAnd, IfSome, Result, Ok}
use Rattle.std.proofs.Common.{Err, refl, ap, subst, ◌∙◌, sym, arith, nat_eq, nat_lt, int_lt}
use Rattle.std.specs.List.{list_any}
use Rattle.bson_core.specs.Fields.{Document}
use Rattle.txn_types.specs.BySession.{BySession, with_entry}
use Rattle.txn_types.specs.Order.{same_tag, same_lsid, lsid_cmp}
use Rattle.txn_types.specs.declared.cause.By.{By}
use Rattle.txn_types.specs.declared.cause.Cause.{Cause}
use Rattle.txn_types.specs.declared.cause.Cause.TheVariants as cause
use Rattle.txn_types.specs.declared.id.Id.{Id}
use Rattle.txn_types.specs.declared.message.Statement.{Statement}
use Rattle.txn_types.specs.declared.names.Tag.{Tag}
use Rattle.txn_types.specs.declared.node.Lsid.{Lsid}
use Rattle.txn_types.specs.declared.operation.OpReply.{OpReply}
use Rattle.txn_types.specs.declared.write.Write.{Write}
use Rattle.txn_semantics.specs.Keyed.{put, taken_out}
use Rattle.txn_semantics.specs.Meaning.{Meaning, eval}
use Rattle.txn_semantics.specs.Rows.{Row}
use Rattle.txn_semantics.specs.Writes.{Place}
use Rattle.txn_semantics.proofs.Steps.{filters}
use Rattle.session_table.specs.Sessions.{with_session, prepared_at, is_full}
use Rattle.session_table.specs.declared.session.Session.{Session}
use Rattle.session_table.specs.declared.session.SessionState.{SessionState}
use Rattle.session_table.specs.declared.session.SessionState.TheVariants as state
use Rattle.version_store.specs.Versions.{Versions, versions_of, finished, dropped, without}
use Rattle.version_store.specs.Versions.{with_writes, is_of, conflict}
use Rattle.version_store.specs.declared.version.Held.{Held}
use Rattle.journal_rec.specs.Volume.{volume}
use Rattle.participant.specs.declared.said.Open.{Open}
use Rattle.participant.specs.Part.{Part, session, open_of, is_open, elsewhere, closed, without_live}
use Rattle.participant.specs.Part.{aborted, is_replaced}
use Rattle.participant.specs.Statement.{Turn, writes_with, with_open, refuses, does, opened}
use Rattle.participant.specs.Statement.{unless_conflict, evaluated, scanned, performed, begins}
use Rattle.participant.specs.Statement.{beside_older, beside, first_statement, goes_on}
use Rattle.participant.specs.Statement.{later_statement, by_session, statement, read_time}
use Rattle.participant.specs.Statement.{most_bytes, stands as stands_as}
use Rattle.participant.specs.Stands.{CanLeave, live_session, StateAt, SessionAt}
use Rattle.participant.proofs.Cases.{either}
use Rattle.participant.proofs.Following.{either_is}
use Rattle.participant.proofs.Ends.{entry_elsewhere}
use Rattle.participant.proofs.Moving.{entry_here}
use Rattle.participant.proofs.Tags.{lsid_self, lsid_flip, tag_same}
use Rattle.part_laws.specs.Each.{Each}
use Rattle.part_laws.specs.Chain.{IsCommitted}
use Rattle.part_laws.specs.Seen.{wrote_at}
use Rattle.part_laws.proofs.Chains.{each_filter}
use Rattle.part_laws.proofs.Owners.{unopposed, others_committed}
use Rattle.part_laws.proofs.Stores.{versions-dropped}
use Rattle.part_laws.proofs.Writing.{free_of}
use Rattle.part_laws.proofs.Ended.{in_state}
use Rattle.shard_image.specs.Image.{Image}
use Rattle.durable_laws.proofs.Whole.{newest_commit, IsWhole}
use Rattle.durable_laws.proofs.Holding.{HoldsPart, Left}
use Rattle.durable_laws.proofs.Beside.{IsFree, commits_dropped}
use Rattle.durable_laws.proofs.Lasting.{finished_end, finished_writes}
use Rattle.durable_laws.proofs.Ends.{at_session, live_open, live_unfinished, abort_left}
use Rattle.durable_laws.proofs.Ends.{recorded_below, unrecorded, still_recorded}
use Rattle.durable_laws.proofs.Opening.{settles_whole, Had, had, opens_whole}

-- An older live transaction of the session is ended first.

twice_case : (lsid : Lsid) (a b : Session) (entry : Lsid
    × Session) (entries : BySession Session) (test : Bool) → same_lsid lsid entry.0 ≡ test
    → with_entry lsid b (with_entry lsid a entries) ≡ with_entry lsid b entries
    → with_entry lsid b (cond test ((lsid, a) ∷ entries) (entry ∷ with_entry lsid a entries))
    ≡ cond test ((lsid, b) ∷ entries) (entry ∷ with_entry lsid b entries)
twice_case lsid a b entry entries true is more =
    ap (λ t. cond t ((lsid, b) ∷ entries) ((lsid, a) ∷ with_entry lsid b entries)) (lsid_self lsid)
twice_case lsid a b entry entries false is more =
    ap (λ t. cond t ((lsid, b) ∷ with_entry lsid a entries)
    (entry ∷ with_entry lsid b (with_entry lsid a entries))) is ∙ ap (λ xs. entry ∷ xs) more

with_twice : (lsid : Lsid) (a b : Session) (entries : BySession Session)
    → with_entry lsid b (with_entry lsid a entries) ≡ with_entry lsid b entries
with_twice lsid a b [] =
    ap (λ t. cond t ((lsid, b) ∷ []) ((lsid, a) ∷ (lsid, b) ∷ [])) (lsid_self lsid)
with_twice lsid a b (entry ∷ entries) =
    twice_case lsid a b entry entries (same_lsid lsid entry.0) refl (with_twice lsid a b entries)

is_there : Lsid → Tag → Lsid × Session → Bool
is_there lsid tag entry =
    not (same_lsid entry.0 lsid) && same_tag entry.1.tag tag && is_open entry.1.state

not_own : (lsid : Lsid) (tag : Tag) (entry : Lsid × Session) → same_lsid entry.0 lsid ≡ true
    → is_there lsid tag entry ≡ false
unfolding is_there
not_own lsid tag entry is = ap (λ b. not b && same_tag entry.1.tag tag && is_open entry.1.state) is

any_case : (lsid : Lsid) (tag : Tag) (s : Session) (entry : Lsid
    × Session) (entries : BySession Session) (test : Bool) → same_lsid lsid entry.0 ≡ test
    → list_any (is_there lsid tag) (with_entry lsid s entries)
    ≡ list_any (is_there lsid tag) entries
    → list_any (is_there lsid tag) (cond test ((lsid, s) ∷ entries) (entry ∷ with_entry lsid s
    entries)) ≡ (is_there lsid tag entry || list_any (is_there lsid tag) entries)
any_case lsid tag s entry entries true is more =
    ap (λ b. b || list_any (is_there lsid tag) entries) (not_own lsid tag (lsid, s) (lsid_self lsid)
    ∙ sym (not_own lsid tag entry (lsid_flip entry.0 lsid ∙ is)))
any_case lsid tag s entry entries false is more = ap (λ b. is_there lsid tag entry || b) more

any_with : (lsid : Lsid) (tag : Tag) (s : Session) (entries : BySession Session) → list_any
    (is_there lsid tag) (with_entry lsid s entries) ≡ list_any (is_there lsid tag) entries
any_with lsid tag s [] = ap (λ b. b || false) (not_own lsid tag (lsid, s) (lsid_self lsid))
any_with lsid tag s (entry ∷ entries) =
    any_case lsid tag s entry entries (same_lsid lsid entry.0) refl (any_with lsid tag s entries)

-- the part in which the session has nothing open, from which a statement's part is made as from the
-- part itself
pub record Cleared (p : Part) (last : ℕ) (m : Statement) : Type 0 where
  part : Part
  whole : IsWhole part last
  none : open_of part m.lsid ≡ None
  shut : (s : Session) → session part m.lsid ≡ Some s → is_open s.state ≡ false
  once : elsewhere part m.lsid m.tag ≡ elsewhere p m.lsid m.tag
  sessions : (x : Lsid) → same_lsid x m.lsid ≡ false → session part x ≡ session p x
  opens : (o : Open) (writes : List Write) → with_open (without_live p m.lsid) m o writes
      ≡ (let q : Part = record part {
        sessions = with_session part.sessions m.lsid (live_session m);
        live = put lsid_cmp m.lsid o part.live;
        store = with_writes m.tag part.store writes;
      } in q)
  settles : (st : SessionState) → stands_as (without_live p m.lsid) m st ≡ stands_as part m st
  newest : (place : Place)
      → newest_commit (versions_of part.store place) ≡ newest_commit (versions_of p.store place)
  free : (place : Place) → Each IsCommitted (without m.tag (versions_of p.store place))
      → Each IsCommitted (without m.tag (versions_of part.store place))
  lasts : finished part.store ≡ finished p.store
  pending : part.pending ≡ p.pending
  boot : part.boot ≡ p.boot

nothing_open : (p : Part) (last : ℕ) (m : Statement) → IsWhole p last → open_of p m.lsid ≡ None
    → ((s : Session) → session p m.lsid ≡ Some s → is_open s.state ≡ false) → Cleared p last m
nothing_open p last m whole none shut =
    record {
      part = p;
      whole = whole;
      none = none;
      shut = shut;
      once = refl;
      sessions = λ x apart. refl;
      opens = λ o writes. ap (λ e. with_open (closed p m.lsid e) m o writes) none;
      settles = λ st. ap (λ e. stands_as (closed p m.lsid e) m st) none;
      newest = λ place. refl;
      free = λ place h. h;
      lasts = refl;
      pending = refl;
      boot = refl;
    }

abbrev StateShut : Part → Lsid → Type 0
StateShut p lsid = (open_of p lsid ≡ None)
    × ((s : Session) → session p lsid ≡ Some s → is_open s.state ≡ false)

shut_state : (store : Versions) (s : Session) (st : SessionState) (o : Option Open)
    → is_open st ≡ false → StateAt store s st o → o ≡ None
shut_state store s state.Live o shut h = cc
shut_state store s (state.Prepared at coordinator) o shut h = h
shut_state store s (state.Committed at) o shut h = h
shut_state store s state.Released o shut h = h
shut_state store s (state.Aborted why read_at) o shut h = h

shut_here : (p : Part) (last : ℕ) (lsid : Lsid) (s : Session) → IsWhole p last
    → session p lsid ≡ Some s → is_open s.state ≡ false → StateShut p lsid
shut_here p last lsid s whole there shut = (
  shut_state p.store s s.state (open_of p lsid) shut (at_session p last lsid s whole there),
  (λ t has. let both : Some s ≡ Some t = sym there ∙ has in let one : s ≡ t = cc in
      subst (λ (z : Session). is_open z.state ≡ false) one shut),
)

nobody_here : (p : Part) (last : ℕ) (lsid : Lsid) → IsWhole p last → session p lsid ≡ None
    → StateShut p lsid
nobody_here p last lsid whole none = (
  subst (λ x. SessionAt p.store x (open_of p lsid)) none (whole.stands.sessions lsid),
  (λ t has. let wrong : None ≡ Some t = sym none ∙ has in cc),
)

older_ended : (i : Image) (p : Part) (last : ℕ) (m : Statement) (s : Session) → IsWhole p last
    → HoldsPart i p → session p m.lsid ≡ Some s → s.state ≡ state.Live → Cleared p last m
unfolding is_there
older_ended i p last m s whole holds there live =
    let a = live_open p last m.lsid s whole there live in
    let q : Part = aborted p m.lsid s cause.Memory in
    let mid : Session = in_state s (state.Aborted cause.Memory 0) in
    let left : Left i q last None =
    abort_left i p last m.lsid s whole holds there live cause.Memory in
    let here : session q m.lsid ≡ Some mid = entry_here m.lsid mid p.sessions.entries in
    let none : StateShut q m.lsid = shut_here q last m.lsid mid left.whole here refl in
    record {
      part = q;
      whole = left.whole;
      none = none.0;
      shut = none.1;
      once = any_with m.lsid m.tag mid p.sessions.entries;
      sessions = λ x apart. entry_elsewhere x m.lsid apart mid p.sessions.entries;
      opens = λ o writes.
          ap (λ e. with_open (closed p m.lsid e) m o writes) a.1
          ∙ ap (λ (t : Tag). let x : Part = record p {
            sessions = with_session p.sessions m.lsid (live_session m);
            live = put lsid_cmp m.lsid o (taken_out lsid_cmp m.lsid p.live);
            store = with_writes m.tag (dropped t p.store) writes;
          } in x) a.2
          ∙ ap (λ (entries : BySession Session). let x : Part = record p {
            sessions = record { limit = p.sessions.limit; entries = entries };
            live = put lsid_cmp m.lsid o (taken_out lsid_cmp m.lsid p.live);
            store = with_writes m.tag (dropped s.tag p.store) writes;
          } in x)
          (sym (with_twice m.lsid mid (live_session m) p.sessions.entries));
      settles = λ st.
          let new : Session = record { number = m.number; tag = m.tag; state = st } in
          ap (λ e. stands_as (closed p m.lsid e) m st) a.1
          ∙ ap (λ (t : Tag). let x : Part = record p {
            sessions = with_session p.sessions m.lsid new;
            live = taken_out lsid_cmp m.lsid p.live;
            store = dropped t p.store;
          } in x) a.2
          ∙ ap (λ (entries : BySession Session). let x : Part = record p {
            sessions = record { limit = p.sessions.limit; entries = entries };
            live = taken_out lsid_cmp m.lsid p.live;
            store = dropped s.tag p.store;
          } in x)
          (sym (with_twice m.lsid mid new p.sessions.entries));
      newest = λ place. ap newest_commit (versions-dropped s.tag p.store place whole.rises)
          ∙ commits_dropped s.tag (versions_of p.store place);
      free = λ place h.
          subst (λ V. Each IsCommitted (without m.tag V))
          (sym (versions-dropped s.tag p.store place whole.rises))
          (subst (Each IsCommitted) (filters (λ v. not (is_of s.tag v)) (λ v. not (is_of m.tag v))
          (versions_of p.store place)) (each_filter IsCommitted (λ v. not (is_of s.tag v))
          (without m.tag (versions_of p.store place)) h));
      lasts = finished_end s.tag p.store whole.rises (live_unfinished p last m.lsid s a.0
          whole a.1 a.2);
      pending = refl;
      boot = refl;
    }

cleared_state : (i : Image) (p : Part) (last : ℕ) (m : Statement) (s : Session) (st : SessionState)
    → s.state ≡ st → IsWhole p last → HoldsPart i p → session p m.lsid ≡ Some s
    → prepared_at st ≡ None → Cleared p last m
cleared_state i p last m s state.Live is whole holds there leave =
    older_ended i p last m s whole holds there is
cleared_state i p last m s (state.Prepared at coordinator) is whole holds there leave = cc
cleared_state i p last m s (state.Committed at) is whole holds there leave =
    let shut = shut_here p last m.lsid s whole there (ap is_open is) in
    nothing_open p last m whole shut.0 shut.1
cleared_state i p last m s state.Released is whole holds there leave =
    let shut = shut_here p last m.lsid s whole there (ap is_open is) in
    nothing_open p last m whole shut.0 shut.1
cleared_state i p last m s (state.Aborted why read_at) is whole holds there leave =
    let shut = shut_here p last m.lsid s whole there (ap is_open is) in
    nothing_open p last m whole shut.0 shut.1

cleared_case : (i : Image) (p : Part) (last : ℕ) (m : Statement) (x : Option Session)
    → session p m.lsid ≡ x → IsWhole p last → HoldsPart i p
    → IfSome x (λ t. prepared_at t.state ≡ None) → Cleared p last m
cleared_case i p last m None is whole holds leave = let shut = nobody_here p last m.lsid whole is in
    nothing_open p last m whole shut.0 shut.1
cleared_case i p last m (Some s) is whole holds leave =
    cleared_state i p last m s s.state refl whole holds is leave

-- What a statement may find.

-- its number is above the session's, or the session's transaction is live, and it isn't below
abbrev Above : Part → Statement → Type 0
Above p m = (s : Session) → session p m.lsid ≡ Some s
    → (s.number <ℤ m.number) ⊎ ((s.state ≡ state.Live) × (int_lt m.number s.number ≡ false))

above_case : (p : Part) (m : Statement) (s recorded : Session)
    → (s.number <ℤ m.number) ⊎ ((s.state ≡ state.Live) × (int_lt m.number s.number ≡ false))
    → (s ≡ recorded) ⊎ (recorded.number <ℤ s.number) → (recorded.state ≡ state.Live → ⊥)
    → recorded.number <ℤ m.number
above_case p m s recorded (inl less) (inl same) never =
    subst (λ (z : Session). z.number <ℤ m.number) same less
above_case p m s recorded (inl less) (inr below) never = grind (arith, less, below)
above_case p m s recorded (inr live) has never = let below =
    recorded_below s recorded has never live.0 in grind (arith, below, live.1)

above_some : (p : Part) (m : Statement) (recorded : Session) (x : Option Session) → session p m.lsid
    ≡ x → Above p m → IsSomeAnd x (λ s. (s ≡ recorded) ⊎ (recorded.number <ℤ s.number))
    → (recorded.state ≡ state.Live → ⊥) → recorded.number <ℤ m.number
above_some p m recorded None is above has never = absurd has
above_some p m recorded (Some s) is above has never =
    above_case p m s recorded (above s is) has never

same_left : (i : Image) (p : Part) (last : ℕ) → IsWhole p last → HoldsPart i p → Left i p last None
same_left i p last whole holds =
    record { whole = whole; holds = holds; ceiling = refl; coord = refl; written = tt }

module _ (i : Image) (p : Part) (last wall : ℕ) (m : Statement) (whole : IsWhole p last)
    (holds : HoldsPart i p) (once : elsewhere p m.lsid m.tag ≡ false) (above : Above p m)
    (leave : CanLeave (session p m.lsid)) where
  clear : Cleared p last m
  clear = cleared_case i p last m (session p m.lsid) refl whole holds leave

  pub refuses_left : (why : Cause) (read_at : ℕ) → Left i (refuses p m why read_at).1 last None
  refuses_left why read_at =
      let c : Cleared p last m = clear in
      let st : SessionState = state.Aborted why read_at in
      let new : Session = record { number = m.number; tag = m.tag; state = st } in
      let q : Part = stands_as c.part m st in
      subst (λ (x : Part). Left i x last None) (sym (c.settles st))
      (record {
        whole = settles_whole c.part last m c.whole c.none c.shut st refl;
        holds = record {
          boot = holds.boot ∙ sym c.boot;
          store = holds.store ∙ sym c.lasts;
          pending = holds.pending ∙ sym c.pending;
          sessions = unrecorded p q i.sessions m.lsid new holds.sessions
              (entry_here m.lsid new c.part.sessions.entries) (λ x apart.
              entry_elsewhere x m.lsid apart new c.part.sessions.entries ∙ c.sessions x apart)
              (λ recorded has was never. above_some p m recorded (session p m.lsid) refl
              above was never);
          recorded = still_recorded p q i.sessions m.lsid new holds.recorded
              (entry_here m.lsid new c.part.sessions.entries) (λ x apart.
              entry_elsewhere x m.lsid apart new c.part.sessions.entries ∙ c.sessions x apart) refl;
        };
        ceiling = refl;
        coord = refl;
        written = tt;
      })

  does_new : (reply : OpReply) (at : ℕ) (writes : List Write)
      → at ≤ last → conflict p.store at m.tag writes ≡ None
      → Left i (does p wall m at None reply writes).1 last None
  does_new reply at writes on free =
      let c : Cleared p last m = clear in
      let o : Open = opened wall m at None reply writes in
      let against = λ (place : Place) (doc : Option Document) (wrote : wrote_at place writes
      ≡ Some doc). unopposed at m.tag (versions_of p.store place) (free_of p.store at m.tag
      place writes doc free wrote) in
      let may : IsFree m.tag c.part.store writes = λ place doc wrote. c.free place
      (others_committed m.tag (versions_of p.store place) (against place doc wrote).0) in
      let under : (place : Place) (doc : Option Document) → wrote_at place writes ≡ Some doc
      → newest_commit (versions_of c.part.store place) ≤ at =
      λ place doc wrote. subst (λ n. n ≤ at) (sym (c.newest place)) (against place doc wrote).1 in
      let alone : elsewhere c.part m.lsid m.tag ≡ false = c.once ∙ once in
      let has : Had c.part last m o writes at c.whole alone may under on refl refl [] =
      had c.part last m o writes at c.whole alone may under on refl refl None c.none c.shut in
      let q : Part = record c.part {
        sessions = with_session c.part.sessions m.lsid (live_session m);
        live = put lsid_cmp m.lsid o c.part.live;
        store = with_writes m.tag c.part.store writes;
      } in
      subst (λ (x : Part). Left i x last None) (sym (c.opens o writes))
      (record {
        whole =
            opens_whole c.part last m o writes at c.whole alone may under on refl refl [] has refl;
        holds = record {
          boot = holds.boot ∙ sym c.boot;
          store = holds.store ∙ sym c.lasts
              ∙ sym (finished_writes m.tag c.part.store writes c.whole.rises has.stamps);
          pending = holds.pending ∙ sym c.pending;
          sessions = unrecorded p q i.sessions m.lsid (live_session m) holds.sessions
              (entry_here m.lsid (live_session m) c.part.sessions.entries)
              (λ x apart. entry_elsewhere x m.lsid apart (live_session m) c.part.sessions.entries
              ∙ c.sessions x apart)
              (λ recorded has was never. above_some p m recorded (session p m.lsid) refl
              above was never);
          recorded = still_recorded p q i.sessions m.lsid (live_session m) holds.recorded
              (entry_here m.lsid (live_session m) c.part.sessions.entries) (λ x apart.
              entry_elsewhere x m.lsid apart (live_session m) c.part.sessions.entries
              ∙ c.sessions x apart) refl;
        };
        ceiling = refl;
        coord = refl;
        written = tt;
      })

  does_more : (a : Open) (reply : OpReply) (at : ℕ) (writes : List Write)
      → open_of p m.lsid ≡ Some a → a.tag ≡ m.tag → a.read_at ≡ at
      → at ≤ last → conflict p.store at m.tag writes ≡ None
      → Left i (does p wall m at (Some a) reply writes).1 last None
  does_more a reply at writes mine tag reads on free =
      let o : Open = opened wall m at (Some a) reply writes in
      let against = λ (place : Place) (doc : Option Document) (wrote : wrote_at place writes
      ≡ Some doc). unopposed at m.tag (versions_of p.store place) (free_of p.store at m.tag
      place writes doc free wrote) in
      let may : IsFree m.tag p.store writes = λ place doc wrote.
      others_committed m.tag (versions_of p.store place) (against place doc wrote).0 in
      let under : (place : Place) (doc : Option Document) → wrote_at place writes ≡ Some doc
      → newest_commit (versions_of p.store place) ≤ at =
      λ place doc wrote. (against place doc wrote).1 in
      let has : Had p last m o writes at whole once may under on refl refl a.writes =
      had p last m o writes at whole once may under on refl refl (Some a) mine (tag, reads) in
      let q : Part = record p {
        sessions = with_session p.sessions m.lsid (live_session m);
        live = put lsid_cmp m.lsid o p.live;
        store = with_writes m.tag p.store writes;
      } in
      record {
        whole =
            opens_whole p last m o writes at whole once may under on refl refl a.writes has refl;
        holds = record {
          boot = holds.boot;
          store = holds.store ∙ sym (finished_writes m.tag p.store writes whole.rises has.stamps);
          pending = holds.pending;
          sessions = unrecorded p q i.sessions m.lsid (live_session m) holds.sessions
              (entry_here m.lsid (live_session m) p.sessions.entries) (λ x apart.
              entry_elsewhere x m.lsid apart (live_session m) p.sessions.entries)
              (λ recorded has was never. above_some p m recorded (session p m.lsid) refl
              above was never);
          recorded = still_recorded p q i.sessions m.lsid (live_session m) holds.recorded
              (entry_here m.lsid (live_session m) p.sessions.entries) (λ x apart.
              entry_elsewhere x m.lsid apart (live_session m) p.sessions.entries) refl;
        };
        ceiling = refl;
        coord = refl;
        written = tt;
      }

  -- what the transaction has, where its statement goes on
  abbrev MayGo : ℕ → Option Open → Type 0
  MayGo at None = Unit {0}
  MayGo at (Some a) = (open_of p m.lsid ≡ Some a) × (a.tag ≡ m.tag) × (a.read_at ≡ at)

  done : (at : ℕ) (mine : Option Open) (reply : OpReply) (writes : List Write)
      → MayGo at mine → at ≤ last → conflict p.store at m.tag writes ≡ None
      → Left i (does p wall m at mine reply writes).1 last None
  done at None reply writes go on free = does_new reply at writes on free
  done at (Some a) reply writes go on free = does_more a reply at writes go.0 go.1 go.2 on free

  conflict_case : (at : ℕ) (mine : Option Open) (reply : OpReply) (writes : List Write)
      (c : Option (Id × By)) → conflict p.store at m.tag writes ≡ c → MayGo at mine → at ≤ last
      → Left i (unless_conflict p wall m at mine reply writes c).1 last None
  conflict_case at mine reply writes None is go on =
      either (nat_lt most_bytes (volume (writes_with mine writes))) (λ (t : Turn).
      Left i t.1 last None) _ _ (refuses_left _ 0) (done at mine reply writes go on is)
  conflict_case at mine reply writes (Some c) is go on = refuses_left _ 0

  evaluated_case : (at : ℕ) (mine : Option Open) (meaning : Meaning) → MayGo at mine → at ≤ last
      → Left i (evaluated p wall m at mine meaning).1 last None
  evaluated_case at mine (Err err) go on = refuses_left (cause.Statement err) at
  evaluated_case at mine (Ok more) go on =
      conflict_case at mine more.0 more.1 (conflict p.store at m.tag more.1) refl go on

  scanned_case : (at : ℕ) (mine : Option Open) (rows : Result (List Row) Held) → MayGo at mine
      → at ≤ last → Left i (scanned p wall m at mine rows).1 last None
  scanned_case at mine (Err held) go on = same_left i p last whole holds
  scanned_case at mine (Ok rows) go on = evaluated_case at mine (eval m.op rows) go on

  pub performed_left : (at : ℕ) (mine : Option Open) → MayGo at mine → at ≤ last
      → Left i (performed p wall m at mine).1 last None
  unfolding performed
  performed_left at mine go on = scanned_case at mine _ go on

-- The rules, from the first.

module _ (i : Image) (p : Part) (last wall : ℕ) (m : Statement) (whole : IsWhole p last) (holds :
    HoldsPart i p) (once : elsewhere p m.lsid m.tag ≡ false) (reads : m.read_at ≤ last) where
  same : Left i p last None
  same = same_left i p last whole holds

  time_on : read_time last m ≤ last
  time_on = either (nat_eq m.read_at 0) (λ (n : ℕ). n ≤ last) last m.read_at (omega arith) reads

  begins_left : Above p m → CanLeave (session p m.lsid) → Left i (begins p last wall m).1 last None
  begins_left above leave =
      performed_left i p last wall m whole holds once above leave (read_time last m) None tt time_on

  -- another transaction of the session, whose number is below
  older_case : (s : Session) (st : SessionState) → s.state ≡ st → session p m.lsid ≡ Some s
      → s.number <ℤ m.number → Left i (beside_older p last wall m s.tag st).1 last None
  older_case s st is there less = older_by st is
    where
      above : Above p m
      above t has = let both : Some s ≡ Some t = sym there ∙ has in let one : s ≡ t = cc in
          inl (subst (λ (z : Session). z.number <ℤ m.number) one less)

      leave : prepared_at s.state ≡ None → CanLeave (session p m.lsid)
      leave none = subst (λ x. IfSome x (λ t. prepared_at t.state ≡ None)) (sym there) none

      older_by : (st : SessionState) → s.state ≡ st
          → Left i (beside_older p last wall m s.tag st).1 last None
      older_by state.Live is = begins_left above (leave (ap prepared_at is))
      older_by (state.Prepared at coordinator) is = same
      older_by (state.Committed at) is = begins_left above (leave (ap prepared_at is))
      older_by state.Released is = begins_left above (leave (ap prepared_at is))
      older_by (state.Aborted why read_at) is = begins_left above (leave (ap prepared_at is))

  beside_case : (x : Option Session) → session p m.lsid ≡ x → ((s : Session) → x ≡ Some s
      → s.number <ℤ m.number) → Left i (beside p last wall m x).1 last None
  beside_case None is less =
      either (is_full p.sessions) (λ (t : Turn). Left i t.1 last None) _ _ same
      (begins_left (λ t has. let wrong : None ≡ Some t = sym is ∙ has in cc)
      (subst (λ x. IfSome x (λ t. prepared_at t.state ≡ None)) (sym is) tt))
  beside_case (Some s) is less = older_case s s.state refl is (less s refl)

  first_case : (x : Option Session) → session p m.lsid ≡ x → ((s : Session) → x ≡ Some s
      → s.number <ℤ m.number) → Left i (first_statement p last wall m x).1 last None
  first_case x is less =
      either (nat_eq m.boot 0) (λ (t : Turn). Left i t.1 last None) _ _ (beside_case x is less) same

  goes_case : (s : Session) (o : Option Open) → open_of p m.lsid ≡ o → session p m.lsid ≡ Some s
      → s.state ≡ state.Live → s.tag ≡ m.tag → int_lt m.number s.number ≡ false
      → Left i (goes_on p wall m s o).1 last None
  goes_case s None is there live tag below = same
  goes_case s (Some o) is there live tag below =
      let a = live_open p last m.lsid s whole there live in
      let both : Some a.0 ≡ Some o = sym a.1 ∙ is in
      let one : a.0 ≡ o = cc in
      let own : o.tag ≡ m.tag = ap (λ (z : Open). z.tag) (sym one) ∙ a.2 ∙ tag in
      let above : Above p m = λ t has. let same_one : Some s ≡ Some t = sym there ∙ has in
      let it : s ≡ t = cc in inr (subst (λ (z : Session). (z.state ≡ state.Live)
      × (int_lt m.number z.number ≡ false)) it (live, below)) in
      let leave : CanLeave (session p m.lsid) = subst (λ x.
      IfSome x (λ t. prepared_at t.state ≡ None)) (sym there) (ap prepared_at live) in
      either (nat_eq m.k o.k) (λ (t : Turn). Left i t.1 last None) _ _ same
      (either (nat_lt m.k o.k) (λ (t : Turn). Left i t.1 last None) _ _ same
      (either (nat_eq m.boot p.boot) (λ (t : Turn). Left i t.1 last None) _ _
      (performed_left i p last wall m whole holds once above leave o.read_at (Some o)
      (is, own, refl) (whole.live m.lsid o is).reads)
      (abort_left i p last m.lsid s whole holds there live (cause.Unavailable m.boot p.boot))))

  later_case : (s : Session) (st : SessionState) → s.state ≡ st
      → session p m.lsid ≡ Some s → s.tag ≡ m.tag → int_lt m.number s.number ≡ false
      → Left i (later_statement p wall m s st).1 last None
  later_case s state.Live is there tag below =
      goes_case s (open_of p m.lsid) refl there is tag below
  later_case s (state.Prepared at coordinator) is there tag below = same
  later_case s (state.Committed at) is there tag below = same
  later_case s state.Released is there tag below = same
  later_case s (state.Aborted why read_at) is there tag below = same

  session_case : (x : Option Session) → session p m.lsid ≡ x
      → Left i (by_session p last wall m x).1 last None
  session_case None is = first_case None is (λ s h. cc)
  session_case (Some s) is =
      either_is (is_replaced s m.number m.tag) (λ (t : Turn). Left i t.1 last None) _ _
      (λ yes. same)
      (λ no. either_is (same_tag s.tag m.tag) (λ (t : Turn). Left i t.1 last None) _ _
      (λ own. later_case s s.state refl is (tag_same s.tag m.tag own) (not_replaced s no))
      (λ other. first_case (Some s) is (λ t h. let one : s ≡ t = cc in
      subst (λ (z : Session). z.number <ℤ m.number) one (below_other s no other))))
    where
      or_false : (a b : Bool) → (a || b) ≡ false → (a ≡ false) × (b ≡ false)
      or_false true b h = cc
      or_false false b h = (refl, h)

      not_replaced : (s : Session) → is_replaced s m.number m.tag ≡ false
          → int_lt m.number s.number ≡ false
      not_replaced s h = (or_false (int_lt m.number s.number)
          (not (int_lt s.number m.number) && not (same_tag s.tag m.tag)) h).0

      below_by : (a b : Bool) → (not a && not b) ≡ false → b ≡ false → a ≡ true
      below_by true b h other = refl
      below_by false true h other = cc
      below_by false false h other = cc

      below_other : (s : Session) → is_replaced s m.number m.tag ≡ false
          → same_tag s.tag m.tag ≡ false → s.number <ℤ m.number
      below_other s h other =
          let less =
          below_by (int_lt s.number m.number) (same_tag s.tag m.tag) (or_false (int_lt m.number
          s.number) (not (int_lt s.number m.number) && not (same_tag s.tag m.tag)) h).1 other in
          grind (arith, less)

  pub statement_left : Left i (statement p last wall m).1 last None
  unfolding statement
  statement_left = session_case (session p m.lsid) refl
