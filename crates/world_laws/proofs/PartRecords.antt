-- What a shard's part holds of prepared and committed transactions has its record, after each
-- message to a participant.
use Rattle.std.proofs.Common.{◌≡◌, ◌-◌, ℕ, Bool, true, false, List, [], ◌∷◌, Option, Some, None}
use Rattle.std.proofs.Common.{Result, Ok, Err, IfSome, refl, sym, subst, nat_eq, nat_lt, int_lt}
use Rattle.std.proofs.Common.{nat_le, if◌then◌else◌}
use Rattle.txn_types.specs.Clock.{ticked}
use Rattle.txn_types.specs.Order.{same_tag}
use Rattle.txn_types.specs.declared.cause.By.{By}
use Rattle.txn_types.specs.declared.cause.Cause.{Cause}
use Rattle.txn_types.specs.declared.cause.Cause.TheVariants as cause
use Rattle.txn_types.specs.declared.decision.Decision.{Decision}
use Rattle.txn_types.specs.declared.decision.Decision.TheVariants as decision
use Rattle.txn_types.specs.declared.id.Id.{Id}
use Rattle.txn_types.specs.declared.message.Statement.{Statement}
use Rattle.txn_types.specs.declared.message.Commit.{Commit}
use Rattle.txn_types.specs.declared.message.Prepare.{Prepare}
use Rattle.txn_types.specs.declared.message.Decide.{Decide}
use Rattle.txn_types.specs.declared.message.Abort.{Abort}
use Rattle.txn_types.specs.declared.message.Recover.{Recover}
use Rattle.txn_types.specs.declared.names.Tag.{Tag}
use Rattle.txn_types.specs.declared.node.Lsid.{Lsid}
use Rattle.txn_types.specs.declared.operation.OpReply.{OpReply}
use Rattle.txn_types.specs.declared.write.Write.{Write}
use Rattle.txn_semantics.specs.Meaning.{Meaning, eval, ns_of}
use Rattle.txn_semantics.specs.Rows.{Row}
use Rattle.txn_semantics.specs.Touched.{touched}
use Rattle.journal_rec.specs.Volume.{volume}
use Rattle.session_table.specs.Sessions.{is_full, state_behind}
use Rattle.session_table.specs.declared.session.Session.{Session}
use Rattle.session_table.specs.declared.session.SessionState.{SessionState}
use Rattle.session_table.specs.declared.session.SessionState.TheVariants as state
use Rattle.version_store.specs.Versions.{scan, conflict}
use Rattle.version_store.specs.declared.version.Held.{Held}
use Rattle.participant.specs.declared.said.Open.{Open}
use Rattle.participant.specs.Part.{Part, session, open_of, closed, without_live, aborted, ended}
use Rattle.participant.specs.Part.{ends_live, is_replaced}
use Rattle.participant.specs.Statement as stm
use Rattle.participant.specs.Commit as co
use Rattle.participant.specs.Prepare as pr
use Rattle.participant.specs.Decide as de
use Rattle.participant.specs.Abort as ab
use Rattle.participant.specs.Recover as rc
use Rattle.participant.specs.Expiry.{expire, expire_all, lifetime}
use Rattle.participant.specs.Memory.{ended_for_memory, ends_session, ends_own}
use Rattle.participant.proofs.Cases.{either}
use Rattle.world_laws.specs.Recorded.{StateRecorded, PartRecorded, CommitRecorded, ToldRecorded}
use Rattle.world_laws.specs.Recorded.{VoteHere, Makes}
use Rattle.world_laws.proofs.Naming.{tag_is}
use Rattle.world_laws.proofs.PartTimes.{entries_put, entry_has}

pub either_if : {A : Type 0} (test : Bool) (P : A → Type 0) (x y : A) → (test ≡ true → P x)
    → (test ≡ false → P y) → P (if test then x else y)
either_if true P x y a b = a refl
either_if false P x y a b = b refl

module _ (V C : Tag → ℕ → Type 0) where
  abbrev P : Part → Type 0
  P p = PartRecorded V C p

  abbrev In : Lsid × Session → Type 0
  In entry = StateRecorded V C entry.1.tag entry.1.state

  -- a session in another state
  ended_keeps : (p : Part) (lsid : Lsid) (s : Session) (st : SessionState)
      → StateRecorded V C s.tag st → P p → P (ended p lsid s st)
  ended_keeps p lsid s st k h = entries_put In lsid
      (record { number = s.number; tag = s.tag; state = st }) p.sessions.entries k h

  pub aborted_keeps : (p : Part) (lsid : Lsid) (s : Session) (why : Cause) → P p
      → P (aborted p lsid s why)
  aborted_keeps p lsid s why h = ended_keeps p lsid s (state.Aborted why 0) tt h

  closed_keeps : (p : Part) (lsid : Lsid) (o : Option Open) → P p → P (closed p lsid o)
  closed_keeps p lsid None h = h
  closed_keeps p lsid (Some o) h = h

  stands_keeps : (p : Part) (m : Statement) (st : SessionState) → StateRecorded V C m.tag st → P p
      → P (stm.stands p m st)
  stands_keeps p m st k h = entries_put In m.lsid
      (record { number = m.number; tag = m.tag; state = st }) p.sessions.entries k h

  -- the state of a session
  some_session : (p : Part) (lsid : Lsid) (s : Option Session) → session p lsid ≡ s → P p
      → IfSome s (λ (s : Session). StateRecorded V C s.tag s.state)
  some_session p lsid None e h = tt
  some_session p lsid (Some s) e h =
      entry_has (λ (s : Session). StateRecorded V C s.tag s.state) lsid p.sessions.entries h s e

  pub session_recorded : (p : Part) (lsid : Lsid) → P p
      → IfSome (session p lsid) (λ (s : Session). StateRecorded V C s.tag s.state)
  session_recorded p lsid h = some_session p lsid (session p lsid) refl h

  -- Statements.

  abbrev T : stm.Turn → Type 0
  T t = P t.1

  refuses_keeps : (p : Part) (m : Statement) (why : Cause) (at : ℕ) → P p
      → T (stm.refuses p m why at)
  refuses_keeps p m why at h = stands_keeps (without_live p m.lsid) m (state.Aborted why at) tt
      (closed_keeps p m.lsid (open_of p m.lsid) h)

  room_keeps : (p : Part) (m : Statement) (mine : Option Open) → P p → P (stm.made_room p m mine)
  room_keeps p m None h = closed_keeps p m.lsid (open_of p m.lsid) h
  room_keeps p m (Some o) h = h

  within_keeps : (p : Part) (wall : ℕ) (m : Statement) (at : ℕ) (mine : Option Open) (reply :
      OpReply) (writes : List Write) → P p → T (stm.within_volume p wall m at mine reply writes)
  within_keeps p wall m at mine reply writes h =
      either (nat_lt stm.most_bytes (volume (stm.writes_with mine writes))) T _ _ (refuses_keeps p m
      _ 0 h) (stands_keeps (stm.made_room p m mine) m state.Live tt (room_keeps p m mine h))

  conflict_keeps : (p : Part) (wall : ℕ) (m : Statement) (at : ℕ) (mine : Option Open)
      (reply : OpReply) (writes : List Write) (c : Option (Id × By)) → P p
      → T (stm.unless_conflict p wall m at mine reply writes c)
  conflict_keeps p wall m at mine reply writes None h = within_keeps p wall m at mine reply writes h
  conflict_keeps p wall m at mine reply writes (Some c) h = refuses_keeps p m _ 0 h

  evaluated_keeps : (p : Part) (wall : ℕ) (m : Statement) (at : ℕ) (mine : Option Open)
      (meaning : Meaning) → P p → T (stm.evaluated p wall m at mine meaning)
  evaluated_keeps p wall m at mine (Err err) h = refuses_keeps p m _ at h
  evaluated_keeps p wall m at mine (Ok done) h =
      conflict_keeps p wall m at mine done.0 done.1 (conflict p.store at m.tag done.1) h

  scanned_keeps : (p : Part) (wall : ℕ) (m : Statement) (at : ℕ) (mine : Option Open)
      (rows : Result (List Row) Held) → P p → T (stm.scanned p wall m at mine rows)
  scanned_keeps p wall m at mine (Err held) h = h
  scanned_keeps p wall m at mine (Ok rows) h = evaluated_keeps p wall m at mine (eval m.op rows) h

  performed_keeps : (p : Part) (wall : ℕ) (m : Statement) (at : ℕ) (mine : Option Open) → P p
      → T (stm.performed p wall m at mine)
  unfolding stm.performed
  performed_keeps p wall m at mine h =
      scanned_keeps p wall m at mine (scan p.store (ns_of m.op) (touched m.op) at m.tag) h

  begins_keeps : (last : ℕ) (p : Part) (wall : ℕ) (m : Statement) → P p
      → T (stm.begins p last wall m)
  begins_keeps last p wall m h = performed_keeps p wall m (stm.read_time last m) None h

  older_keeps : (last : ℕ) (p : Part) (wall : ℕ) (m : Statement) (older : Tag) (st : SessionState)
      → P p → T (stm.beside_older p last wall m older st)
  older_keeps last p wall m older state.Live h = begins_keeps last p wall m h
  older_keeps last p wall m older (state.Prepared at coordinator) h = h
  older_keeps last p wall m older (state.Committed at) h = begins_keeps last p wall m h
  older_keeps last p wall m older state.Released h = begins_keeps last p wall m h
  older_keeps last p wall m older (state.Aborted why read_at) h = begins_keeps last p wall m h

  beside_keeps : (last : ℕ) (p : Part) (wall : ℕ) (m : Statement) (s : Option Session) → P p
      → T (stm.beside p last wall m s)
  beside_keeps last p wall m None h =
      either (is_full p.sessions) T _ _ h (begins_keeps last p wall m h)
  beside_keeps last p wall m (Some s) h = older_keeps last p wall m s.tag s.state h

  first_keeps : (last : ℕ) (p : Part) (wall : ℕ) (m : Statement) (s : Option Session) → P p
      → T (stm.first_statement p last wall m s)
  first_keeps last p wall m s h = either (nat_eq m.boot 0) T _ _ (beside_keeps last p wall m s h) h

  goes_keeps : (p : Part) (wall : ℕ) (m : Statement) (s : Session) (o : Option Open) → P p
      → T (stm.goes_on p wall m s o)
  goes_keeps p wall m s None h = h
  goes_keeps p wall m s (Some o) h =
      either (nat_eq m.k o.k) T _ _ h
      (either (nat_lt m.k o.k) T _ _ h
      (either (nat_eq m.boot p.boot) T _ _ (performed_keeps p wall m o.read_at (Some o) h)
      (aborted_keeps p m.lsid s _ h)))

  later_keeps : (p : Part) (wall : ℕ) (m : Statement) (s : Session) (st : SessionState) → P p
      → T (stm.later_statement p wall m s st)
  later_keeps p wall m s state.Live h = goes_keeps p wall m s (open_of p m.lsid) h
  later_keeps p wall m s (state.Prepared at coordinator) h = h
  later_keeps p wall m s (state.Committed at) h = h
  later_keeps p wall m s state.Released h = h
  later_keeps p wall m s (state.Aborted why read_at) h = h

  by_session_keeps : (last : ℕ) (p : Part) (wall : ℕ) (m : Statement) (s : Option Session) → P p
      → T (stm.by_session p last wall m s)
  by_session_keeps last p wall m None h = first_keeps last p wall m None h
  by_session_keeps last p wall m (Some s) h =
      either (is_replaced s m.number m.tag) T _ _ h (either (same_tag s.tag m.tag) T _ _
      (later_keeps p wall m s s.state h) (first_keeps last p wall m (Some s) h))

  pub statement_keeps : (last : ℕ) (p : Part) (wall : ℕ) (m : Statement) → P p
      → T (stm.statement p last wall m)
  unfolding stm.statement
  statement_keeps last p wall m h = by_session_keeps last p wall m (session p m.lsid) h

  -- Ends.

  live_ends_keeps : (p : Part) (lsid : Lsid) (why : Cause) (s : Option Session) → P p
      → P (ends_live p lsid why s)
  live_ends_keeps p lsid why None h = h
  live_ends_keeps p lsid why (Some s) h = aborted_keeps p lsid s why h

  expire_all_keeps : (wall : ℕ) (entries : List (Lsid × Open)) (p : Part) → P p
      → P (expire_all wall entries p)
  expire_all_keeps wall [] p h = h
  expire_all_keeps wall (entry ∷ entries) p h =
      expire_all_keeps wall entries _ (either (nat_lt lifetime (wall - entry.1.begun)) P _ _
      (live_ends_keeps p entry.0 (cause.Expired entry.1.begun wall) (session p entry.0) h) h)

  pub expire_keeps : (p : Part) (wall : ℕ) → P p → P (expire p wall)
  unfolding expire
  expire_keeps p wall h = expire_all_keeps wall p.live p h

  ends_own_keeps : (p : Part) (lsid : Lsid) (s : Session) (st : SessionState) → P p
      → P (ends_own p lsid s st)
  ends_own_keeps p lsid s state.Live h = aborted_keeps p lsid s _ h
  ends_own_keeps p lsid s (state.Prepared at coordinator) h = h
  ends_own_keeps p lsid s (state.Committed at) h = h
  ends_own_keeps p lsid s state.Released h = h
  ends_own_keeps p lsid s (state.Aborted why read_at) h = h

  ends_session_keeps : (p : Part) (lsid : Lsid) (tag : Tag) (s : Option Session) → P p
      → P (ends_session p lsid tag s)
  ends_session_keeps p lsid tag None h = h
  ends_session_keeps p lsid tag (Some s) h =
      either (same_tag s.tag tag) P _ _ (ends_own_keeps p lsid s s.state h) h

  pub memory_keeps : (p : Part) (lsid : Lsid) (tag : Tag) → P p → P (ended_for_memory p lsid tag)
  memory_keeps p lsid tag h = ends_session_keeps p lsid tag (session p lsid) h

  aborts_own_keeps : (p : Part) (m : Abort) (s : Session) (st : SessionState) → P p
      → P (ab.aborts_own p m s st)
  aborts_own_keeps p m s state.Live h = aborted_keeps p m.lsid s _ h
  aborts_own_keeps p m s (state.Prepared at coordinator) h = h
  aborts_own_keeps p m s (state.Committed at) h = h
  aborts_own_keeps p m s state.Released h = h
  aborts_own_keeps p m s (state.Aborted why read_at) h = h

  aborts_keeps : (p : Part) (m : Abort) (s : Option Session) → P p → P (ab.aborts_session p m s)
  aborts_keeps p m None h = h
  aborts_keeps p m (Some s) h =
      either (same_tag s.tag m.tag) P _ _ (aborts_own_keeps p m s s.state h) h

  pub abort_keeps : (p : Part) (m : Abort) → P p → P (ab.abort p m)
  unfolding ab.abort
  abort_keeps p m h = aborts_keeps p m (session p m.lsid) h

  -- What is told to a router that looks for a decision.

  abbrev pub Tells : Tag → rc.Telling → Type 0
  Tells tag t = P t.1 × ToldRecorded C tag t.0

  recovers_own_keeps : (p : Part) (m : Recover) (s : Session) (st : SessionState) → s.tag ≡ m.tag
      → StateRecorded V C s.tag st → P p → Tells m.tag (rc.recovers_own p m s st)
  recovers_own_keeps p m s state.Live e k h = (aborted_keeps p m.lsid s _ h, tt)
  recovers_own_keeps p m s (state.Prepared at coordinator) e k h = (h, tt)
  recovers_own_keeps p m s (state.Committed at) e k h = (h, subst (λ (t : Tag). C t at) e k)
  recovers_own_keeps p m s state.Released e k h = (h, tt)
  recovers_own_keeps p m s (state.Aborted why read_at) e k h = (h, tt)

  recovers_none_keeps : (p : Part) (m : Recover) → P p → Tells m.tag (rc.recovers_none p m)
  recovers_none_keeps p m h = either (nat_eq m.boot p.boot) (Tells m.tag) _ _ (h, tt) (h, tt)

  recovers_keeps : (p : Part) (m : Recover) (s : Option Session)
      → IfSome s (λ (s : Session). StateRecorded V C s.tag s.state) → P p
      → Tells m.tag (rc.recovers_session p m s)
  recovers_keeps p m None k h = recovers_none_keeps p m h
  recovers_keeps p m (Some s) k h =
      either (int_lt m.number s.number) (Tells m.tag) _ _ (h, tt)
      (either_if (same_tag s.tag m.tag) (Tells m.tag) _ _ (λ is. recovers_own_keeps p m s s.state
      (tag_is s.tag m.tag is) k h) (λ is. recovers_none_keeps p m h))

  pub recover_keeps : (p : Part) (m : Recover) → P p → Tells m.tag (rc.recover p m)
  unfolding rc.recover
  recover_keeps p m h = recovers_keeps p m (session p m.lsid) (session_recorded p m.lsid h) h

  -- A decision.

  decided_state : (tag : Tag) (d : Decision) → CommitRecorded C tag d
      → StateRecorded V C tag (state_behind d)
  decided_state tag (decision.Commit at) h = h
  decided_state tag (decision.Abort shard code) h = tt

  abbrev pub Decides : de.Deciding → Type 0
  Decides d = P d.1 × IfSome d.0 (λ r. CommitRecorded C r.tag r.decision)

  applies_keeps : (p : Part) (m : Decide) (s : Session) → CommitRecorded C s.tag m.decision → P p
      → Decides (de.applies p m s)
  applies_keeps p m s k h =
      (ended_keeps p m.lsid s (state_behind m.decision) (decided_state s.tag m.decision k) h, k)

  decides_prepared_keeps : (p : Part) (m : Decide) (s : Session) (at : ℕ) (d : Decision)
      → CommitRecorded C s.tag m.decision → P p → Decides (de.decides_prepared p m s at d)
  decides_prepared_keeps p m s at (decision.Commit time) k h =
      either (nat_le at time) Decides _ _ (applies_keeps p m s k h) (h, tt)
  decides_prepared_keeps p m s at (decision.Abort shard code) k h = applies_keeps p m s k h

  decides_live_keeps : (p : Part) (m : Decide) (s : Session) (d : Decision) → P p
      → Decides (de.decides_live p m s d)
  decides_live_keeps p m s (decision.Commit time) h = (h, tt)
  decides_live_keeps p m s (decision.Abort shard code) h = (aborted_keeps p m.lsid s _ h, tt)

  decides_own_keeps : (p : Part) (m : Decide) (s : Session) (st : SessionState)
      → CommitRecorded C s.tag m.decision → P p → Decides (de.decides_own p m s st)
  decides_own_keeps p m s state.Live k h = decides_live_keeps p m s m.decision h
  decides_own_keeps p m s (state.Prepared at coordinator) k h =
      decides_prepared_keeps p m s at m.decision k h
  decides_own_keeps p m s (state.Committed at) k h = (h, tt)
  decides_own_keeps p m s state.Released k h = (h, tt)
  decides_own_keeps p m s (state.Aborted why read_at) k h = (h, tt)

  decides_keeps : (p : Part) (m : Decide) (s : Option Session) → CommitRecorded C m.tag m.decision
      → P p → Decides (de.decides_session p m s)
  decides_keeps p m None k h = (h, tt)
  decides_keeps p m (Some s) k h =
      either_if (same_tag s.tag m.tag) Decides _ _ (λ is. decides_own_keeps p m s s.state
      (subst (λ (t : Tag). CommitRecorded C t m.decision) (sym (tag_is s.tag m.tag is)) k) h)
      (λ is. (h, tt))

  pub decide_keeps : (p : Part) (m : Decide) → CommitRecorded C m.tag m.decision → P p
      → Decides (de.decide p m)
  unfolding de.decide
  decide_keeps p m k h = decides_keeps p m (session p m.lsid) k h

  -- A commit, where the record that it makes stands.

  abbrev pub Commits : Tag → co.Committing → Type 0
  Commits tag c = IfSome c.rec (Makes V C) → P c.part × IfSome c.told (ToldRecorded C tag)

  commits_by_keeps : (last : ℕ) (p : Part) (m : Commit) (s : Session) (o : Open) (t : Option ℕ)
      → s.tag ≡ m.tag → P p → Commits m.tag (co.commits_by p last m s o t)
  commits_by_keeps last p m s o None e h = λ r. (aborted_keeps p m.lsid s _ h, tt)
  commits_by_keeps last p m s o (Some at) e h =
      λ r. (ended_keeps p m.lsid s (state.Committed at) r h, subst (λ (t : Tag). C t at) e r)

  released_keeps : (last : ℕ) (p : Part) (m : Commit) (s : Session) → P p
      → Commits m.tag (co.releases p last m s)
  released_keeps last p m s h = λ r. (ended_keeps p m.lsid s state.Released tt h, tt)

  commits_writes_keeps : (last wall : ℕ) (p : Part) (m : Commit) (s : Session) (o : Open) (ws :
      List Write) → s.tag ≡ m.tag → P p → Commits m.tag (co.commits_writes p last wall m s o ws)
  commits_writes_keeps last wall p m s o [] e h = released_keeps last p m s h
  commits_writes_keeps last wall p m s o (w ∷ ws) e h =
      commits_by_keeps last p m s o (ticked last wall) e h

  commits_open_keeps : (last wall : ℕ) (p : Part) (m : Commit) (s : Session) (o : Option Open)
      → s.tag ≡ m.tag → P p → Commits m.tag (co.commits_open p last wall m s o)
  commits_open_keeps last wall p m s None e h = released_keeps last p m s h
  commits_open_keeps last wall p m s (Some o) e h =
      commits_writes_keeps last wall p m s o o.writes e h

  commits_own_keeps : (last wall : ℕ) (p : Part) (m : Commit) (s : Session) (st : SessionState)
      → s.tag ≡ m.tag → StateRecorded V C s.tag st → P p
      → Commits m.tag (co.commits_own p last wall m s st)
  commits_own_keeps last wall p m s state.Live e k h =
      either (nat_eq m.boot p.boot) (Commits m.tag) _ _ (commits_open_keeps last wall p m s
      (open_of p m.lsid) e h) (λ r. (aborted_keeps p m.lsid s _ h, tt))
  commits_own_keeps last wall p m s (state.Prepared at coordinator) e k h = λ r. (h, tt)
  commits_own_keeps last wall p m s (state.Committed at) e k h =
      λ r. (h, subst (λ (t : Tag). C t at) e k)
  commits_own_keeps last wall p m s state.Released e k h = λ r. (h, tt)
  commits_own_keeps last wall p m s (state.Aborted why read_at) e k h = λ r. (h, tt)

  commits_keeps : (last wall : ℕ) (p : Part) (m : Commit) (s : Option Session)
      → IfSome s (λ (s : Session). StateRecorded V C s.tag s.state) → P p
      → Commits m.tag (co.commits_session p last wall m s)
  commits_keeps last wall p m None k h = λ r. (h, tt)
  commits_keeps last wall p m (Some s) k h =
      either (int_lt m.number s.number) (Commits m.tag) _ _ (λ r. (h, tt))
      (either_if (same_tag s.tag m.tag) (Commits m.tag) _ _ (λ is.
      commits_own_keeps last wall p m s s.state (tag_is s.tag m.tag is) k h) (λ is r. (h, tt)))

  pub commit_keeps : (last wall : ℕ) (p : Part) (m : Commit) → P p
      → Commits m.tag (co.commit p last wall m)
  unfolding co.commit
  commit_keeps last wall p m h =
      commits_keeps last wall p m (session p m.lsid) (session_recorded p m.lsid h) h

  -- And a vote.

  abbrev pub Votes : Tag → pr.Voting → Type 0
  Votes tag c = IfSome c.rec (Makes V C) → P c.part × IfSome c.told (VoteHere V tag)

  prepares_by_keeps : (last : ℕ) (p : Part) (m : Prepare) (s : Session) (o : Open) (t : Option ℕ)
      → s.tag ≡ m.tag → P p → Votes m.tag (pr.prepares_by p last m s o t)
  prepares_by_keeps last p m s o None e h = λ r. (aborted_keeps p m.lsid s _ h, tt)
  prepares_by_keeps last p m s o (Some at) e h = λ r. (
    ended_keeps p m.lsid s (state.Prepared at m.coordinator) r h,
    subst (λ (t : Tag). V t at) e r,
  )

  prepares_open_keeps : (last wall : ℕ) (p : Part) (m : Prepare) (s : Session) (o : Option Open)
      → s.tag ≡ m.tag → P p → Votes m.tag (pr.prepares_open p last wall m s o)
  prepares_open_keeps last wall p m s None e h = λ r. (h, tt)
  prepares_open_keeps last wall p m s (Some o) e h =
      prepares_by_keeps last p m s o (ticked last wall) e h

  prepares_own_keeps : (last wall : ℕ) (p : Part) (m : Prepare) (s : Session) (st : SessionState)
      → s.tag ≡ m.tag → StateRecorded V C s.tag st → P p
      → Votes m.tag (pr.prepares_own p last wall m s st)
  prepares_own_keeps last wall p m s state.Live e k h =
      either (nat_eq m.boot p.boot) (Votes m.tag) _ _ (prepares_open_keeps last wall p m s
      (open_of p m.lsid) e h) (λ r. (aborted_keeps p m.lsid s _ h, tt))
  prepares_own_keeps last wall p m s (state.Prepared at coordinator) e k h =
      λ r. (h, subst (λ (t : Tag). V t at) e k)
  prepares_own_keeps last wall p m s (state.Committed at) e k h = λ r. (h, tt)
  prepares_own_keeps last wall p m s state.Released e k h = λ r. (h, tt)
  prepares_own_keeps last wall p m s (state.Aborted why read_at) e k h = λ r. (h, tt)

  prepares_keeps : (last wall : ℕ) (p : Part) (m : Prepare) (s : Option Session)
      → IfSome s (λ (s : Session). StateRecorded V C s.tag s.state) → P p
      → Votes m.tag (pr.prepares_session p last wall m s)
  prepares_keeps last wall p m None k h = λ r. (h, tt)
  prepares_keeps last wall p m (Some s) k h =
      either (is_replaced s m.number m.tag) (Votes m.tag) _ _ (λ r. (h, tt))
      (either_if (same_tag s.tag m.tag) (Votes m.tag) _ _ (λ is.
      prepares_own_keeps last wall p m s s.state (tag_is s.tag m.tag is) k h) (λ is r. (h, tt)))

  pub prepare_keeps : (last wall : ℕ) (p : Part) (m : Prepare) → P p
      → Votes m.tag (pr.prepare p last wall m)
  unfolding pr.prepare
  prepare_keeps last wall p m h =
      prepares_keeps last wall p m (session p m.lsid) (session_recorded p m.lsid h) h
