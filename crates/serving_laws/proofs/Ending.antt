-- Nothing becomes live where transactions end.
use Rattle.std.proofs.Common.{◌≡◌, ◌-◌, ℕ, Bool, true, false, List, [], ◌∷◌, Option, Some, None}
use Rattle.std.proofs.Common.{refl}
use Rattle.std.proofs.Common.{ap, ◌∙◌, sym, int_lt, nat_eq, nat_le, nat_lt, if◌then◌else◌}
use Rattle.txn_types.specs.BySession.{entry_of}
use Rattle.txn_types.specs.Clock.{ticked}
use Rattle.txn_types.specs.Order.{same_tag, same_lsid, lsid_cmp}
use Rattle.txn_types.specs.declared.cause.Cause.{Cause}
use Rattle.txn_types.specs.declared.cause.Cause.TheVariants as cause
use Rattle.txn_types.specs.declared.decision.Decision.{Decision}
use Rattle.txn_types.specs.declared.decision.Decision.TheVariants as decision
use Rattle.txn_types.specs.declared.message.Abort.{Abort}
use Rattle.txn_types.specs.declared.message.Commit.{Commit}
use Rattle.txn_types.specs.declared.message.Decide.{Decide}
use Rattle.txn_types.specs.declared.message.Prepare.{Prepare}
use Rattle.txn_types.specs.declared.message.Recover.{Recover}
use Rattle.txn_types.specs.declared.names.Tag.{Tag}
use Rattle.txn_types.specs.declared.node.Lsid.{Lsid}
use Rattle.txn_types.specs.declared.write.Write.{Write}
use Rattle.txn_types.proofs.Orders.{lsid_total, lsid_exact}
use Rattle.txn_semantics.specs.Keyed.{taken_out, Rises}
use Rattle.txn_semantics.proofs.Laying.{rises_taken_out}
use Rattle.session_table.specs.declared.session.Session.{Session}
use Rattle.session_table.specs.declared.session.SessionState.{SessionState}
use Rattle.session_table.specs.declared.session.SessionState.TheVariants as state
use Rattle.participant.specs.declared.said.Open.{Open}
use Rattle.participant.specs.Abort as ab
use Rattle.participant.specs.Commit as co
use Rattle.participant.specs.Decide as de
use Rattle.participant.specs.Expiry.{lifetime, expire_all, expire}
use Rattle.participant.specs.Memory.{ends_own, ends_session, ended_for_memory}
use Rattle.participant.specs.Part.{Part, session, open_of, is_replaced, ends_live, end_live}
use Rattle.participant.specs.Prepare as pr
use Rattle.participant.specs.Recover as re
use Rattle.participant.proofs.Cases.{either}
use Rattle.participant.proofs.Ends.{entry_without}
use Rattle.participant.proofs.Tags.{lsid_same}
use Rattle.part_laws.specs.Turned.{NoneBegins}
use Rattle.part_laws.proofs.Moving.{live_taken}

taken_less : (lsid other : Lsid) (live : List (Lsid × Open)) (o : Open) (b : Bool)
    → Rises lsid_cmp live → same_lsid other lsid ≡ b
    → entry_of other (taken_out lsid_cmp lsid live) ≡ Some o → entry_of other live ≡ Some o
taken_less lsid other live o true rises at there =
    let wrong : None ≡ Some o = sym (live_taken lsid live rises) ∙ ap (λ (l : Lsid).
    entry_of l (taken_out lsid_cmp lsid live)) (sym (lsid_same other lsid at)) ∙ there in cc
taken_less lsid other live o false rises apart there =
    sym (entry_without other lsid apart live) ∙ there

pub none_same : (p : Part) → NoneBegins p p
none_same p lsid o there = there

none_both : (p q r : Part) → NoneBegins p q → NoneBegins q r → NoneBegins p r
none_both p q r a b lsid o there = a lsid o (b lsid o there)

module _ (p : Part) (rises : Rises lsid_cmp p.live) where
  -- what a session had live is gone
  pub gone : (lsid other : Lsid) (o : Open)
      → entry_of other (taken_out lsid_cmp lsid p.live) ≡ Some o → open_of p other ≡ Some o
  gone lsid other o there =
      taken_less lsid other p.live o (same_lsid other lsid) rises refl there

  abbrev same : NoneBegins p p
  same = none_same p

  -- Commits.

  abbrev Commits : co.Committing → Type 0
  Commits c = NoneBegins p c.part

  commits_by_none : (last : ℕ) (m : Commit) (s : Session) (o : Open) (at : Option ℕ)
      → Commits (co.commits_by p last m s o at)
  commits_by_none last m s o None = gone m.lsid
  commits_by_none last m s o (Some at) = gone m.lsid

  commits_writes_none : (last wall : ℕ) (m : Commit) (s : Session) (o : Open) (writes : List Write)
      → Commits (co.commits_writes p last wall m s o writes)
  commits_writes_none last wall m s o [] = gone m.lsid
  commits_writes_none last wall m s o (write ∷ writes) =
      commits_by_none last m s o (ticked last wall)

  commits_open_none : (last wall : ℕ) (m : Commit) (s : Session) (o : Option Open)
      → Commits (co.commits_open p last wall m s o)
  commits_open_none last wall m s None = gone m.lsid
  commits_open_none last wall m s (Some o) = commits_writes_none last wall m s o o.writes

  commits_own_none : (last wall : ℕ) (m : Commit) (s : Session) (st : SessionState)
      → Commits (co.commits_own p last wall m s st)
  commits_own_none last wall m s state.Live = either (nat_eq m.boot p.boot) Commits _ _
      (commits_open_none last wall m s (open_of p m.lsid)) (gone m.lsid)
  commits_own_none last wall m s (state.Prepared at coordinator) = same
  commits_own_none last wall m s (state.Committed at) = same
  commits_own_none last wall m s state.Released = same
  commits_own_none last wall m s (state.Aborted why read_at) = same

  commits_session_none : (last wall : ℕ) (m : Commit) (s : Option Session)
      → Commits (co.commits_session p last wall m s)
  commits_session_none last wall m None = same
  commits_session_none last wall m (Some s) =
      either (int_lt m.number s.number) Commits _ _ same
      (either (same_tag s.tag m.tag) Commits _ _ (commits_own_none last wall m s s.state) same)

  pub commit_none : (last wall : ℕ) (m : Commit) → Commits (co.commit p last wall m)
  unfolding co.commit
  commit_none last wall m = commits_session_none last wall m (session p m.lsid)

  -- Prepares.

  abbrev Prepares : pr.Voting → Type 0
  Prepares c = NoneBegins p c.part

  prepares_by_none : (last : ℕ) (m : Prepare) (s : Session) (o : Open) (at : Option ℕ)
      → Prepares (pr.prepares_by p last m s o at)
  prepares_by_none last m s o None = gone m.lsid
  prepares_by_none last m s o (Some at) = gone m.lsid

  prepares_open_none : (last wall : ℕ) (m : Prepare) (s : Session) (o : Option Open)
      → Prepares (pr.prepares_open p last wall m s o)
  prepares_open_none last wall m s None = same
  prepares_open_none last wall m s (Some o) = prepares_by_none last m s o (ticked last wall)

  prepares_own_none : (last wall : ℕ) (m : Prepare) (s : Session) (st : SessionState)
      → Prepares (pr.prepares_own p last wall m s st)
  prepares_own_none last wall m s state.Live = either (nat_eq m.boot p.boot) Prepares _ _
      (prepares_open_none last wall m s (open_of p m.lsid)) (gone m.lsid)
  prepares_own_none last wall m s (state.Prepared at coordinator) = same
  prepares_own_none last wall m s (state.Committed at) = same
  prepares_own_none last wall m s state.Released = same
  prepares_own_none last wall m s (state.Aborted why read_at) = same

  prepares_session_none : (last wall : ℕ) (m : Prepare) (s : Option Session)
      → Prepares (pr.prepares_session p last wall m s)
  prepares_session_none last wall m None = same
  prepares_session_none last wall m (Some s) =
      either (is_replaced s m.number m.tag) Prepares _ _ same
      (either (same_tag s.tag m.tag) Prepares _ _ (prepares_own_none last wall m s s.state) same)

  pub prepare_none : (last wall : ℕ) (m : Prepare) → Prepares (pr.prepare p last wall m)
  unfolding pr.prepare
  prepare_none last wall m = prepares_session_none last wall m (session p m.lsid)

  -- Decisions.

  abbrev Decides : de.Deciding → Type 0
  Decides d = NoneBegins p d.1

  decides_prepared_none : (m : Decide) (s : Session) (at : ℕ) (d : Decision)
      → Decides (de.decides_prepared p m s at d)
  decides_prepared_none m s at (decision.Commit time) =
      either (nat_le at time) Decides _ _ (gone m.lsid) same
  decides_prepared_none m s at (decision.Abort shard code) = gone m.lsid

  decides_live_none : (m : Decide) (s : Session) (d : Decision) → Decides (de.decides_live p m s d)
  decides_live_none m s (decision.Commit time) = same
  decides_live_none m s (decision.Abort shard code) = gone m.lsid

  decides_own_none : (m : Decide) (s : Session) (st : SessionState)
      → Decides (de.decides_own p m s st)
  decides_own_none m s state.Live = decides_live_none m s m.decision
  decides_own_none m s (state.Prepared at coordinator) = decides_prepared_none m s at m.decision
  decides_own_none m s (state.Committed at) = same
  decides_own_none m s state.Released = same
  decides_own_none m s (state.Aborted why read_at) = same

  decides_session_none : (m : Decide) (s : Option Session) → Decides (de.decides_session p m s)
  decides_session_none m None = same
  decides_session_none m (Some s) =
      either (same_tag s.tag m.tag) Decides _ _ (decides_own_none m s s.state) same

  pub decide_none : (m : Decide) → Decides (de.decide p m)
  unfolding de.decide
  decide_none m = decides_session_none m (session p m.lsid)

  -- Aborts.

  aborts_own_none : (m : Abort) (s : Session) (st : SessionState)
      → NoneBegins p (ab.aborts_own p m s st)
  aborts_own_none m s state.Live = gone m.lsid
  aborts_own_none m s (state.Prepared at coordinator) = same
  aborts_own_none m s (state.Committed at) = same
  aborts_own_none m s state.Released = same
  aborts_own_none m s (state.Aborted why read_at) = same

  aborts_session_none : (m : Abort) (s : Option Session) → NoneBegins p (ab.aborts_session p m s)
  aborts_session_none m None = same
  aborts_session_none m (Some s) =
      either (same_tag s.tag m.tag) (NoneBegins p) _ _ (aborts_own_none m s s.state) same

  pub abort_none : (m : Abort) → NoneBegins p (ab.abort p m)
  unfolding ab.abort
  abort_none m = aborts_session_none m (session p m.lsid)

  -- Recoveries.

  abbrev Recovers : re.Telling → Type 0
  Recovers t = NoneBegins p t.1

  recovers_own_none : (m : Recover) (s : Session) (st : SessionState)
      → Recovers (re.recovers_own p m s st)
  recovers_own_none m s state.Live = gone m.lsid
  recovers_own_none m s (state.Prepared at coordinator) = same
  recovers_own_none m s (state.Committed at) = same
  recovers_own_none m s state.Released = same
  recovers_own_none m s (state.Aborted why read_at) = same

  recovers_none_none : (m : Recover) → Recovers (re.recovers_none p m)
  recovers_none_none m = either (nat_eq m.boot p.boot) Recovers _ _ same same

  recovers_session_none : (m : Recover) (s : Option Session) → Recovers (re.recovers_session p m s)
  recovers_session_none m None = recovers_none_none m
  recovers_session_none m (Some s) =
      either (int_lt m.number s.number) Recovers _ _ same
      (either (same_tag s.tag m.tag) Recovers _ _ (recovers_own_none m s s.state)
      (recovers_none_none m))

  pub recover_none : (m : Recover) → Recovers (re.recover p m)
  unfolding re.recover
  recover_none m = recovers_session_none m (session p m.lsid)

  -- Out of memory.

  own_none : (lsid : Lsid) (s : Session) (st : SessionState) → NoneBegins p (ends_own p lsid s st)
  own_none lsid s state.Live = gone lsid
  own_none lsid s (state.Prepared at coordinator) = same
  own_none lsid s (state.Committed at) = same
  own_none lsid s state.Released = same
  own_none lsid s (state.Aborted why read_at) = same

  ends_session_none : (lsid : Lsid) (tag : Tag) (s : Option Session)
      → NoneBegins p (ends_session p lsid tag s)
  ends_session_none lsid tag None = same
  ends_session_none lsid tag (Some s) =
      either (same_tag s.tag tag) (NoneBegins p) _ _ (own_none lsid s s.state) same

  pub memory_none : (lsid : Lsid) (tag : Tag) → NoneBegins p (ended_for_memory p lsid tag)
  memory_none lsid tag = ends_session_none lsid tag (session p lsid)

  -- One that expires.

  abbrev Ends : Part → Type 0
  Ends q = Rises lsid_cmp q.live × NoneBegins p q

  ends_live_none : (lsid : Lsid) (why : Cause) (s : Option Session) → Ends (ends_live p lsid why s)
  ends_live_none lsid why None = (rises, same)
  ends_live_none lsid why (Some s) =
      (rises_taken_out lsid_cmp lsid_total lsid_exact lsid p.live rises, gone lsid)

-- Expiry.

expire_all_none : (wall : ℕ) (rest : List (Lsid × Open)) (p : Part) → Rises lsid_cmp p.live
    → NoneBegins p (expire_all wall rest p)
expire_all_none wall [] p rises = none_same p
expire_all_none wall (entry ∷ rest) p rises =
    let why = cause.Expired entry.1.begun wall in
    let q : Part = (if nat_lt lifetime (wall - entry.1.begun) then end_live p entry.0 why else p) in
    let h : Ends p rises q =
    either (nat_lt lifetime (wall - entry.1.begun)) (Ends p rises) _ _
    (ends_live_none p rises entry.0 why (session p entry.0)) (rises, none_same p) in
    none_both p q (expire_all wall rest q) h.1 (expire_all_none wall rest q h.0)

pub expire_none : (p : Part) (wall : ℕ) → Rises lsid_cmp p.live → NoneBegins p (expire p wall)
unfolding expire
expire_none p wall rises = expire_all_none wall p.live p rises
