-- What a shard's part has of live transactions: a rule takes some away, and a statement that is
-- done puts in what it is answered.
use Rattle.std.proofs.Common.{◌≡◌, ℕ, ◌-◌, ◌∙◌, All, List, [], ◌∷◌, Option, Some, None, Result, Ok}
use Rattle.std.proofs.Common.{Err, refl, sym, subst, nat_eq, nat_lt, nat_le, int_lt}
use Rattle.std.specs.declared.cmp.Ordering.{Ordering}
use Rattle.std.specs.declared.cmp.Ordering.TheVariants.{Less, Equal, Greater}
use Rattle.std.proofs.lemmas.List.Elements.{All-nil, All-cons, All-head, All-tail}
use Rattle.txn_types.specs.Clock.{ticked}
use Rattle.txn_types.specs.Order.{same_tag, lsid_cmp}
use Rattle.txn_types.specs.declared.cause.By.{By}
use Rattle.txn_types.specs.declared.cause.Cause.{Cause}
use Rattle.txn_types.specs.declared.cause.Cause.TheVariants as cause
use Rattle.txn_types.specs.declared.decision.Decision.{Decision}
use Rattle.txn_types.specs.declared.decision.Decision.TheVariants as decision
use Rattle.txn_types.specs.declared.id.Id.{Id}
use Rattle.txn_types.specs.declared.message.Abort.{Abort}
use Rattle.txn_types.specs.declared.message.Commit.{Commit}
use Rattle.txn_types.specs.declared.message.Decide.{Decide}
use Rattle.txn_types.specs.declared.message.Prepare.{Prepare}
use Rattle.txn_types.specs.declared.message.Recover.{Recover}
use Rattle.txn_types.specs.declared.message.Statement.{Statement}
use Rattle.txn_types.specs.declared.names.Tag.{Tag}
use Rattle.txn_types.specs.declared.node.Lsid.{Lsid}
use Rattle.txn_types.specs.declared.operation.OpReply.{OpReply}
use Rattle.txn_types.specs.declared.write.Write.{Write}
use Rattle.txn_semantics.specs.Keyed.{put, taken_out}
use Rattle.txn_semantics.specs.Meaning.{Meaning, eval, ns_of}
use Rattle.txn_semantics.specs.Rows.{Row}
use Rattle.txn_semantics.specs.Touched.{touched}
use Rattle.journal_rec.specs.Volume.{volume}
use Rattle.session_table.specs.Sessions.{is_full}
use Rattle.session_table.specs.declared.session.Session.{Session}
use Rattle.session_table.specs.declared.session.SessionState.{SessionState}
use Rattle.session_table.specs.declared.session.SessionState.TheVariants as state
use Rattle.version_store.specs.Versions.{scan, conflict}
use Rattle.version_store.specs.declared.version.Held.{Held}
use Rattle.participant.specs.declared.said.Open.{Open}
use Rattle.participant.specs.declared.said.Said.TheVariants.{Did}
use Rattle.participant.specs.Part.{Part, session, open_of, closed, without_live, aborted, ends_live}
use Rattle.participant.specs.Part.{is_replaced}
use Rattle.participant.specs.Statement as stm
use Rattle.participant.specs.Commit as co
use Rattle.participant.specs.Prepare as pr
use Rattle.participant.specs.Decide as de
use Rattle.participant.specs.Abort as ab
use Rattle.participant.specs.Recover as rc
use Rattle.participant.specs.Expiry.{expire, expire_all, lifetime}
use Rattle.participant.specs.Memory.{ended_for_memory, ends_session, ends_own}
use Rattle.participant.proofs.Cases.{either}
use Rattle.world_laws.proofs.Naming.{put_all, taken_all}

-- What holds of each live transaction.
abbrev pub AllLive : (Open → Type 0) → Part → Type 0
AllLive P p = All (λ (entry : Lsid × Open). P entry.1) p.live

-- it holds after a rule
pub record Keeps (P : Open → Type 0) (p q : Part) : Type 0 where
  pub shard : q.shard ≡ p.shard
  pub boot : q.boot ≡ p.boot
  pub live : AllLive P p → AllLive P q

pub same : (P : Open → Type 0) (p : Part) → Keeps P p p
same P p = record { shard = refl; boot = refl; live = λ h. h }

pub both : (P : Open → Type 0) (p q r : Part) → Keeps P p q → Keeps P q r → Keeps P p r
both P p q r a b =
    record { shard = b.shard ∙ a.shard; boot = b.boot ∙ a.boot; live = λ h. b.live (a.live h) }

-- one is taken out
taken : (P : Open → Type 0) (lsid : Lsid) (p q : Part) → q.shard ≡ p.shard → q.boot ≡ p.boot
    → q.live ≡ taken_out lsid_cmp lsid p.live → Keeps P p q
taken P lsid p q a b l = record {
  shard = a;
  boot = b;
  live = λ h. subst (All (λ (entry : Lsid × Open). P entry.1)) (sym l) (taken_all lsid_cmp
      (λ (entry : Lsid × Open). P entry.1) lsid p.live h);
}

-- none is
alike : (P : Open → Type 0) (p q : Part) → q.shard ≡ p.shard → q.boot ≡ p.boot → q.live ≡ p.live
    → Keeps P p q
alike P p q a b l = record {
  shard = a;
  boot = b;
  live = λ h. subst (All (λ (entry : Lsid × Open). P entry.1)) (sym l) h;
}

closed_keeps : (P : Open → Type 0) (p : Part) (lsid : Lsid) (o : Option Open)
    → Keeps P p (closed p lsid o)
closed_keeps P p lsid None = same P p
closed_keeps P p lsid (Some o) = taken P lsid p (closed p lsid (Some o)) refl refl refl

pub aborted_keeps : (P : Open → Type 0) (p : Part) (lsid : Lsid) (s : Session) (why : Cause)
    → Keeps P p (aborted p lsid s why)
aborted_keeps P p lsid s why = taken P lsid p (aborted p lsid s why) refl refl refl

-- Statements.

-- it holds after a statement, where it holds of what this is answered, if it is done
pub record TurnKeeps (P : Open → Type 0) (p : Part) (m : Statement) (t : stm.Turn) : Type 0 where
  pub shard : t.1.shard ≡ p.shard
  pub boot : t.1.boot ≡ p.boot
  pub live : ((o : Open) → o.tag ≡ m.tag → o.k ≡ m.k → t.0 ≡ Did o.read_at o.reply o.wrote → P o)
      → AllLive P p → AllLive P t.1

turned : (P : Open → Type 0) (p : Part) (m : Statement) (t : stm.Turn) → Keeps P p t.1
    → TurnKeeps P p m t
turned P p m t k = record { shard = k.shard; boot = k.boot; live = λ told. k.live }

rests : (P : Open → Type 0) (p : Part) (m : Statement) (t : stm.Turn) → t.1 ≡ p → TurnKeeps P p m t
rests P p m t e = turned P p m t (subst (Keeps P p) (sym e) (same P p))

refuses_keeps : (P : Open → Type 0) (p : Part) (m : Statement) (why : Cause) (at : ℕ)
    → TurnKeeps P p m (stm.refuses p m why at)
refuses_keeps P p m why at =
    turned P p m (stm.refuses p m why at)
    (both P p (without_live p m.lsid) (stm.refuses p m why at).1
    (closed_keeps P p m.lsid (open_of p m.lsid))
    (alike P (without_live p m.lsid) (stm.refuses p m why at).1 refl refl refl))

room_keeps : (P : Open → Type 0) (p : Part) (m : Statement) (mine : Option Open)
    → Keeps P p (stm.made_room p m mine)
room_keeps P p m None = closed_keeps P p m.lsid (open_of p m.lsid)
room_keeps P p m (Some o) = same P p

does_keeps : (P : Open → Type 0) (p : Part) (wall : ℕ) (m : Statement)
    (at : ℕ) (mine : Option Open) (reply : OpReply) (writes : List Write)
    → TurnKeeps P p m (stm.does p wall m at mine reply writes)
does_keeps P p wall m at mine reply writes =
    let r = room_keeps P p m mine in
    let o = stm.opened wall m at mine reply writes in
    record {
      shard = r.shard;
      boot = r.boot;
      live = λ told h. put_all lsid_cmp (λ (entry : Lsid × Open).
          P entry.1) m.lsid o (stm.made_room p m mine).live (told o refl refl refl) (r.live h);
    }

within_keeps : (P : Open → Type 0) (p : Part) (wall : ℕ) (m : Statement)
    (at : ℕ) (mine : Option Open) (reply : OpReply) (writes : List Write)
    → TurnKeeps P p m (stm.within_volume p wall m at mine reply writes)
within_keeps P p wall m at mine reply writes =
    either (nat_lt stm.most_bytes (volume (stm.writes_with mine writes))) (TurnKeeps P p m) _ _
    (refuses_keeps P p m _ 0) (does_keeps P p wall m at mine reply writes)

conflict_keeps : (P : Open → Type 0) (p : Part) (wall : ℕ) (m : Statement) (at : ℕ)
    (mine : Option Open) (reply : OpReply) (writes : List Write) (c : Option (Id × By))
    → TurnKeeps P p m (stm.unless_conflict p wall m at mine reply writes c)
conflict_keeps P p wall m at mine reply writes None = within_keeps P p wall m at mine reply writes
conflict_keeps P p wall m at mine reply writes (Some c) = refuses_keeps P p m _ 0

evaluated_keeps : (P : Open → Type 0) (p : Part) (wall : ℕ) (m : Statement) (at : ℕ) (mine :
    Option Open) (meaning : Meaning) → TurnKeeps P p m (stm.evaluated p wall m at mine meaning)
evaluated_keeps P p wall m at mine (Err err) = refuses_keeps P p m _ at
evaluated_keeps P p wall m at mine (Ok done) =
    conflict_keeps P p wall m at mine done.0 done.1 (conflict p.store at m.tag done.1)

scanned_keeps : (P : Open → Type 0) (p : Part) (wall : ℕ) (m : Statement) (at : ℕ) (mine : Option
    Open) (rows : Result (List Row) Held) → TurnKeeps P p m (stm.scanned p wall m at mine rows)
scanned_keeps P p wall m at mine (Err held) =
    rests P p m (stm.scanned p wall m at mine (Err held)) refl
scanned_keeps P p wall m at mine (Ok rows) = evaluated_keeps P p wall m at mine (eval m.op rows)

performed_keeps : (P : Open → Type 0) (p : Part) (wall : ℕ) (m : Statement) (at : ℕ)
    (mine : Option Open) → TurnKeeps P p m (stm.performed p wall m at mine)
unfolding stm.performed
performed_keeps P p wall m at mine =
    scanned_keeps P p wall m at mine (scan p.store (ns_of m.op) (touched m.op) at m.tag)

begins_keeps : (P : Open → Type 0) (p : Part) (last wall : ℕ) (m : Statement)
    → TurnKeeps P p m (stm.begins p last wall m)
begins_keeps P p last wall m = performed_keeps P p wall m (stm.read_time last m) None

refused_keeps : (P : Open → Type 0) (p : Part) (m : Statement) (why : Cause)
    → TurnKeeps P p m (stm.refused p why)
refused_keeps P p m why = rests P p m (stm.refused p why) refl

older_keeps : (P : Open → Type 0) (p : Part) (last wall : ℕ) (m : Statement) (older : Tag)
    (st : SessionState) → TurnKeeps P p m (stm.beside_older p last wall m older st)
older_keeps P p last wall m older state.Live = begins_keeps P p last wall m
older_keeps P p last wall m older (state.Prepared at coordinator) =
    refused_keeps P p m (cause.PreparedStands older)
older_keeps P p last wall m older (state.Committed at) = begins_keeps P p last wall m
older_keeps P p last wall m older state.Released = begins_keeps P p last wall m
older_keeps P p last wall m older (state.Aborted why read_at) = begins_keeps P p last wall m

beside_keeps : (P : Open → Type 0) (p : Part) (last wall : ℕ) (m : Statement) (s : Option Session)
    → TurnKeeps P p m (stm.beside p last wall m s)
beside_keeps P p last wall m None = either (is_full p.sessions) (TurnKeeps P p m) _ _
    (refused_keeps P p m cause.TooManySessions) (begins_keeps P p last wall m)
beside_keeps P p last wall m (Some s) = older_keeps P p last wall m s.tag s.state

first_keeps : (P : Open → Type 0) (p : Part) (last wall : ℕ) (m : Statement) (s : Option Session)
    → TurnKeeps P p m (stm.first_statement p last wall m s)
first_keeps P p last wall m s = either (nat_eq m.boot 0) (TurnKeeps P p m) _ _ (beside_keeps P p
    last wall m s) (refused_keeps P p m (cause.Unavailable m.boot p.boot))

goes_keeps : (P : Open → Type 0) (p : Part) (wall : ℕ) (m : Statement) (s : Session)
    (o : Option Open) → TurnKeeps P p m (stm.goes_on p wall m s o)
goes_keeps P p wall m s None = rests P p m (stm.goes_on p wall m s None) refl
goes_keeps P p wall m s (Some o) =
    either (nat_eq m.k o.k) (TurnKeeps P p m) _ _ (rests P p m _ refl)
    (either (nat_lt m.k o.k) (TurnKeeps P p m) _ _ (rests P p m _ refl)
    (either (nat_eq m.boot p.boot) (TurnKeeps P p m) _ _ (performed_keeps P p wall m o.read_at
    (Some o)) (turned P p m _ (aborted_keeps P p m.lsid s _))))

later_keeps : (P : Open → Type 0) (p : Part) (wall : ℕ) (m : Statement) (s : Session)
    (st : SessionState) → TurnKeeps P p m (stm.later_statement p wall m s st)
later_keeps P p wall m s state.Live = goes_keeps P p wall m s (open_of p m.lsid)
later_keeps P p wall m s (state.Prepared at coordinator) =
    rests P p m (stm.later_statement p wall m s (state.Prepared at coordinator)) refl
later_keeps P p wall m s (state.Committed at) =
    rests P p m (stm.later_statement p wall m s (state.Committed at)) refl
later_keeps P p wall m s state.Released =
    rests P p m (stm.later_statement p wall m s state.Released) refl
later_keeps P p wall m s (state.Aborted why read_at) =
    rests P p m (stm.later_statement p wall m s (state.Aborted why read_at)) refl

session_keeps : (P : Open → Type 0) (p : Part) (last wall : ℕ) (m : Statement) (s : Option Session)
    → TurnKeeps P p m (stm.by_session p last wall m s)
session_keeps P p last wall m None = first_keeps P p last wall m None
session_keeps P p last wall m (Some s) =
    either (is_replaced s m.number m.tag) (TurnKeeps P p m) _ _
    (refused_keeps P p m (cause.Replaced s.number s.tag))
    (either (same_tag s.tag m.tag) (TurnKeeps P p m) _ _ (later_keeps P p wall m s s.state)
    (first_keeps P p last wall m (Some s)))

pub statement_keeps : (P : Open → Type 0) (p : Part) (last wall : ℕ) (m : Statement)
    → TurnKeeps P p m (stm.statement p last wall m)
unfolding stm.statement
statement_keeps P p last wall m = session_keeps P p last wall m (session p m.lsid)

-- Ends of transactions.

ends_keeps : (P : Open → Type 0) (p : Part) (lsid : Lsid) (why : Cause) (s : Option Session)
    → Keeps P p (ends_live p lsid why s)
ends_keeps P p lsid why None = same P p
ends_keeps P p lsid why (Some s) = aborted_keeps P p lsid s why

expire_all_keeps : (P : Open → Type 0) (wall : ℕ) (entries : List (Lsid × Open)) (p q : Part)
    → Keeps P p q → Keeps P p (expire_all wall entries q)
expire_all_keeps P wall [] p q h = h
expire_all_keeps P wall (entry ∷ entries) p q h =
    expire_all_keeps P wall entries p _
    (either (nat_lt lifetime (wall - entry.1.begun)) (Keeps P p) _ _
    (both P p q (ends_live q entry.0 (cause.Expired entry.1.begun wall) (session q entry.0)) h
    (ends_keeps P q entry.0 (cause.Expired entry.1.begun wall) (session q entry.0))) h)

pub expire_keeps : (P : Open → Type 0) (p : Part) (wall : ℕ) → Keeps P p (expire p wall)
unfolding expire
expire_keeps P p wall = expire_all_keeps P wall p.live p p (same P p)

ends_own_keeps : (P : Open → Type 0) (p : Part) (lsid : Lsid) (s : Session) (st : SessionState)
    → Keeps P p (ends_own p lsid s st)
ends_own_keeps P p lsid s state.Live = aborted_keeps P p lsid s cause.Memory
ends_own_keeps P p lsid s (state.Prepared at coordinator) = same P p
ends_own_keeps P p lsid s (state.Committed at) = same P p
ends_own_keeps P p lsid s state.Released = same P p
ends_own_keeps P p lsid s (state.Aborted why read_at) = same P p

ends_session_keeps : (P : Open → Type 0) (p : Part) (lsid : Lsid) (tag : Tag) (s : Option Session)
    → Keeps P p (ends_session p lsid tag s)
ends_session_keeps P p lsid tag None = same P p
ends_session_keeps P p lsid tag (Some s) =
    either (same_tag s.tag tag) (Keeps P p) _ _ (ends_own_keeps P p lsid s s.state) (same P p)

pub memory_keeps : (P : Open → Type 0) (p : Part) (lsid : Lsid) (tag : Tag)
    → Keeps P p (ended_for_memory p lsid tag)
memory_keeps P p lsid tag = ends_session_keeps P p lsid tag (session p lsid)

aborts_own_keeps : (P : Open → Type 0) (p : Part) (m : Abort) (s : Session) (st : SessionState)
    → Keeps P p (ab.aborts_own p m s st)
aborts_own_keeps P p m s state.Live = aborted_keeps P p m.lsid s _
aborts_own_keeps P p m s (state.Prepared at coordinator) = same P p
aborts_own_keeps P p m s (state.Committed at) = same P p
aborts_own_keeps P p m s state.Released = same P p
aborts_own_keeps P p m s (state.Aborted why read_at) = same P p

aborts_keeps : (P : Open → Type 0) (p : Part) (m : Abort) (s : Option Session)
    → Keeps P p (ab.aborts_session p m s)
aborts_keeps P p m None = same P p
aborts_keeps P p m (Some s) =
    either (same_tag s.tag m.tag) (Keeps P p) _ _ (aborts_own_keeps P p m s s.state) (same P p)

pub abort_keeps : (P : Open → Type 0) (p : Part) (m : Abort) → Keeps P p (ab.abort p m)
unfolding ab.abort
abort_keeps P p m = aborts_keeps P p m (session p m.lsid)

abbrev TellsKeeps : (Open → Type 0) → Part → rc.Telling → Type 0
TellsKeeps P p t = Keeps P p t.1

recovers_own_keeps : (P : Open → Type 0) (p : Part) (m : Recover) (s : Session) (st : SessionState)
    → TellsKeeps P p (rc.recovers_own p m s st)
recovers_own_keeps P p m s state.Live = aborted_keeps P p m.lsid s _
recovers_own_keeps P p m s (state.Prepared at coordinator) = same P p
recovers_own_keeps P p m s (state.Committed at) = same P p
recovers_own_keeps P p m s state.Released = same P p
recovers_own_keeps P p m s (state.Aborted why read_at) = same P p

recovers_none_keeps : (P : Open → Type 0) (p : Part) (m : Recover)
    → TellsKeeps P p (rc.recovers_none p m)
recovers_none_keeps P p m = either (nat_eq m.boot p.boot) (TellsKeeps P p) _ _ (same P p) (same P p)

recovers_keeps : (P : Open → Type 0) (p : Part) (m : Recover) (s : Option Session)
    → TellsKeeps P p (rc.recovers_session p m s)
recovers_keeps P p m None = recovers_none_keeps P p m
recovers_keeps P p m (Some s) =
    either (int_lt m.number s.number) (TellsKeeps P p) _ _ (same P p)
    (either (same_tag s.tag m.tag) (TellsKeeps P p) _ _ (recovers_own_keeps P p m s s.state)
    (recovers_none_keeps P p m))

pub recover_keeps : (P : Open → Type 0) (p : Part) (m : Recover) → TellsKeeps P p (rc.recover p m)
unfolding rc.recover
recover_keeps P p m = recovers_keeps P p m (session p m.lsid)

-- A decision.

abbrev DecidesKeeps : (Open → Type 0) → Part → de.Deciding → Type 0
DecidesKeeps P p d = Keeps P p d.1

applies_keeps : (P : Open → Type 0) (p : Part) (m : Decide) (s : Session)
    → DecidesKeeps P p (de.applies p m s)
applies_keeps P p m s = taken P m.lsid p (de.decided_part p m s) refl refl refl

decides_prepared_keeps : (P : Open → Type 0) (p : Part) (m : Decide) (s : Session) (at : ℕ)
    (d : Decision) → DecidesKeeps P p (de.decides_prepared p m s at d)
decides_prepared_keeps P p m s at (decision.Commit time) =
    either (nat_le at time) (DecidesKeeps P p) _ _ (applies_keeps P p m s) (same P p)
decides_prepared_keeps P p m s at (decision.Abort shard code) = applies_keeps P p m s

decides_live_keeps : (P : Open → Type 0) (p : Part) (m : Decide) (s : Session) (d : Decision)
    → DecidesKeeps P p (de.decides_live p m s d)
decides_live_keeps P p m s (decision.Commit time) = same P p
decides_live_keeps P p m s (decision.Abort shard code) = aborted_keeps P p m.lsid s _

decides_own_keeps : (P : Open → Type 0) (p : Part) (m : Decide) (s : Session) (st : SessionState)
    → DecidesKeeps P p (de.decides_own p m s st)
decides_own_keeps P p m s state.Live = decides_live_keeps P p m s m.decision
decides_own_keeps P p m s (state.Prepared at coordinator) =
    decides_prepared_keeps P p m s at m.decision
decides_own_keeps P p m s (state.Committed at) = same P p
decides_own_keeps P p m s state.Released = same P p
decides_own_keeps P p m s (state.Aborted why read_at) = same P p

decides_keeps : (P : Open → Type 0) (p : Part) (m : Decide) (s : Option Session)
    → DecidesKeeps P p (de.decides_session p m s)
decides_keeps P p m None = same P p
decides_keeps P p m (Some s) = either (same_tag s.tag m.tag) (DecidesKeeps P p) _ _
    (decides_own_keeps P p m s s.state) (same P p)

pub decide_keeps : (P : Open → Type 0) (p : Part) (m : Decide) → DecidesKeeps P p (de.decide p m)
unfolding de.decide
decide_keeps P p m = decides_keeps P p m (session p m.lsid)

-- A commit and a prepare.

abbrev CommitsKeep : (Open → Type 0) → Part → co.Committing → Type 0
CommitsKeep P p c = Keeps P p c.part

commits_by_keeps : (P : Open → Type 0) (p : Part) (last : ℕ) (m : Commit) (s : Session) (o : Open)
    (t : Option ℕ) → CommitsKeep P p (co.commits_by p last m s o t)
commits_by_keeps P p last m s o None = aborted_keeps P p m.lsid s _
commits_by_keeps P p last m s o (Some at) =
    taken P m.lsid p (co.commits p m s o at).part refl refl refl

releases_keeps : (P : Open → Type 0) (p : Part) (last : ℕ) (m : Commit) (s : Session)
    → CommitsKeep P p (co.releases p last m s)
releases_keeps P p last m s = taken P m.lsid p (co.releases p last m s).part refl refl refl

commits_writes_keeps : (P : Open → Type 0) (p : Part) (last wall : ℕ) (m : Commit) (s : Session)
    (o : Open) (ws : List Write) → CommitsKeep P p (co.commits_writes p last wall m s o ws)
commits_writes_keeps P p last wall m s o [] = releases_keeps P p last m s
commits_writes_keeps P p last wall m s o (w ∷ ws) =
    commits_by_keeps P p last m s o (ticked last wall)

commits_open_keeps : (P : Open → Type 0) (p : Part) (last wall : ℕ) (m : Commit) (s : Session)
    (o : Option Open) → CommitsKeep P p (co.commits_open p last wall m s o)
commits_open_keeps P p last wall m s None = releases_keeps P p last m s
commits_open_keeps P p last wall m s (Some o) = commits_writes_keeps P p last wall m s o o.writes

commits_own_keeps : (P : Open → Type 0) (p : Part) (last wall : ℕ) (m : Commit) (s : Session)
    (st : SessionState) → CommitsKeep P p (co.commits_own p last wall m s st)
commits_own_keeps P p last wall m s state.Live = either (nat_eq m.boot p.boot) (CommitsKeep P p) _ _
    (commits_open_keeps P p last wall m s (open_of p m.lsid)) (aborted_keeps P p m.lsid s _)
commits_own_keeps P p last wall m s (state.Prepared at coordinator) = same P p
commits_own_keeps P p last wall m s (state.Committed at) = same P p
commits_own_keeps P p last wall m s state.Released = same P p
commits_own_keeps P p last wall m s (state.Aborted why read_at) = same P p

commits_keep : (P : Open → Type 0) (p : Part) (last wall : ℕ) (m : Commit) (s : Option Session)
    → CommitsKeep P p (co.commits_session p last wall m s)
commits_keep P p last wall m None = same P p
commits_keep P p last wall m (Some s) =
    either (int_lt m.number s.number) (CommitsKeep P p) _ _ (same P p)
    (either (same_tag s.tag m.tag) (CommitsKeep P p) _ _
    (commits_own_keeps P p last wall m s s.state) (same P p))

pub commit_keeps : (P : Open → Type 0) (p : Part) (last wall : ℕ) (m : Commit)
    → CommitsKeep P p (co.commit p last wall m)
unfolding co.commit
commit_keeps P p last wall m = commits_keep P p last wall m (session p m.lsid)

abbrev VotesKeep : (Open → Type 0) → Part → pr.Voting → Type 0
VotesKeep P p c = Keeps P p c.part

prepares_by_keeps : (P : Open → Type 0) (p : Part) (last : ℕ) (m : Prepare) (s : Session) (o : Open)
    (t : Option ℕ) → VotesKeep P p (pr.prepares_by p last m s o t)
prepares_by_keeps P p last m s o None = aborted_keeps P p m.lsid s _
prepares_by_keeps P p last m s o (Some at) =
    taken P m.lsid p (pr.prepares p m s o at).part refl refl refl

prepares_open_keeps : (P : Open → Type 0) (p : Part) (last wall : ℕ) (m : Prepare) (s : Session)
    (o : Option Open) → VotesKeep P p (pr.prepares_open p last wall m s o)
prepares_open_keeps P p last wall m s None = same P p
prepares_open_keeps P p last wall m s (Some o) = prepares_by_keeps P p last m s o (ticked last wall)

prepares_own_keeps : (P : Open → Type 0) (p : Part) (last wall : ℕ) (m : Prepare) (s : Session)
    (st : SessionState) → VotesKeep P p (pr.prepares_own p last wall m s st)
prepares_own_keeps P p last wall m s state.Live = either (nat_eq m.boot p.boot) (VotesKeep P p) _ _
    (prepares_open_keeps P p last wall m s (open_of p m.lsid)) (aborted_keeps P p m.lsid s _)
prepares_own_keeps P p last wall m s (state.Prepared at coordinator) = same P p
prepares_own_keeps P p last wall m s (state.Committed at) = same P p
prepares_own_keeps P p last wall m s state.Released = same P p
prepares_own_keeps P p last wall m s (state.Aborted why read_at) = same P p

prepares_keep : (P : Open → Type 0) (p : Part) (last wall : ℕ) (m : Prepare) (s : Option Session)
    → VotesKeep P p (pr.prepares_session p last wall m s)
prepares_keep P p last wall m None = same P p
prepares_keep P p last wall m (Some s) =
    either (is_replaced s m.number m.tag) (VotesKeep P p) _ _ (same P p)
    (either (same_tag s.tag m.tag) (VotesKeep P p) _ _
    (prepares_own_keeps P p last wall m s s.state) (same P p))

pub prepare_keeps : (P : Open → Type 0) (p : Part) (last wall : ℕ) (m : Prepare)
    → VotesKeep P p (pr.prepare p last wall m)
unfolding pr.prepare
prepare_keeps P p last wall m = prepares_keep P p last wall m (session p m.lsid)
