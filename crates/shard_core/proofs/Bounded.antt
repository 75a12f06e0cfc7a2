-- Live transactions stay within their volume, whatever a shard's part does.
use Rattle.std.proofs.Common.{◌≡◌, ◌≤◌, ℕ, Bool, true, false, List, [], ◌∷◌, Option, Some, None}
use Rattle.std.proofs.Common.{Result, Ok, Err, refl, sym, ap, ◌∙◌, nat_eq, nat_le, nat_lt, int_lt}
use Rattle.std.proofs.Common.{arith, if◌then◌else◌, ◌-◌}
use Rattle.std.specs.declared.cmp.Ordering.{Ordering}
use Rattle.std.specs.declared.cmp.Ordering.TheVariants.{Less, Equal, Greater}
use Rattle.txn_types.specs.BySession.{entry_of}
use Rattle.txn_types.specs.Order.{lsid_cmp, same_tag, same_lsid}
use Rattle.txn_types.specs.declared.cause.Cause.{Cause}
use Rattle.txn_types.specs.declared.cause.Cause.TheVariants as cause
use Rattle.txn_types.specs.declared.cause.By.{By}
use Rattle.txn_types.specs.declared.decision.Decision.{Decision}
use Rattle.txn_types.specs.declared.decision.Decision.TheVariants as decision
use Rattle.txn_types.specs.declared.id.Id.{Id}
use Rattle.txn_types.specs.declared.message.Abort.{Abort}
use Rattle.txn_types.specs.declared.message.Commit.{Commit}
use Rattle.txn_types.specs.declared.message.Decide.{Decide}
use Rattle.txn_types.specs.declared.message.Prepare.{Prepare}
use Rattle.txn_types.specs.declared.message.Recover.{Recover}
use Rattle.txn_types.specs.declared.message.Statement.{Statement}
use Rattle.txn_types.specs.declared.names.Tag.{Tag}
use Rattle.txn_types.specs.declared.node.Lsid.{Lsid}
use Rattle.txn_types.specs.declared.operation.OpReply.{OpReply}
use Rattle.txn_types.specs.declared.write.Write.{Write}
use Rattle.txn_types.proofs.Orders.{lsid_total, lsid_exact}
use Rattle.txn_semantics.specs.Keyed.{put, taken_out}
use Rattle.txn_semantics.specs.Meaning.{Meaning, eval}
use Rattle.txn_semantics.specs.Rows.{Row}
use Rattle.txn_semantics.proofs.Laying.{rises_put, rises_taken_out}
use Rattle.session_table.specs.Sessions.{is_full}
use Rattle.session_table.specs.declared.session.Session.{Session}
use Rattle.session_table.specs.declared.session.SessionState.{SessionState}
use Rattle.session_table.specs.declared.session.SessionState.TheVariants as state
use Rattle.version_store.specs.Versions.{conflict, dropped}
use Rattle.version_store.specs.declared.version.Held.{Held}
use Rattle.journal_rec.specs.Volume.{volume}
use Rattle.participant.specs.declared.said.Open.{Open}
use Rattle.participant.specs.Part.{Part, session, open_of, closed, without_live, aborted, ends_live}
use Rattle.participant.specs.Part.{end_live, is_replaced}
use Rattle.participant.specs.Statement.{Turn, most_bytes, refuses, does, opened, made_room}
use Rattle.participant.specs.Statement.{writes_with, unless_conflict, evaluated, scanned, performed}
use Rattle.participant.specs.Statement.{beside_older, beside, first_statement, goes_on}
use Rattle.participant.specs.Statement.{later_statement, by_session, statement, read_time}
use Rattle.participant.specs.Commit.{Committing, commits_by, commits_writes, commits_open}
use Rattle.participant.specs.Commit.{commits_own, commits_session, commit}
use Rattle.participant.specs.Prepare.{Voting, prepares_by, prepares_open, prepares_own}
use Rattle.participant.specs.Prepare.{prepares_session, prepare}
use Rattle.participant.specs.Decide.{decides_prepared, decides_live, decides_own, decides_session}
use Rattle.participant.specs.Decide.{decide}
use Rattle.participant.specs.Abort.{aborts_own, aborts_session, abort}
use Rattle.participant.specs.Recover.{recovers_own, recovers_none, recovers_session, recover}
use Rattle.participant.specs.Expiry.{lifetime, expire_all, expire}
use Rattle.participant.specs.Memory.{ends_own, ends_session, ended_for_memory}
use Rattle.participant.specs.Laws.{ChangesOnly}
use Rattle.participant.proofs.Cases.{either}
use Rattle.participant.proofs.Ends.{ended_changes}
use Rattle.participant.proofs.Moving.{none_live}
use Rattle.participant.proofs.Tags.{lsid_same}
use Rattle.shard_core.specs.Carrying.{AreWithin, IsBounded}

-- Lists of live transactions.

taken_by : (row : Lsid × Open) (rows taken : List (Lsid × Open)) (o : Ordering)
    → AreWithin (row ∷ rows) → AreWithin taken
    → AreWithin (elim o [ Less ↦ row ∷ rows | Equal ↦ rows | Greater ↦ row ∷ taken ])
taken_by row rows taken Less h k = h
taken_by row rows taken Equal h k = h.1
taken_by row rows taken Greater h k = (h.0, k)

within_taken : (lsid : Lsid) (rows : List (Lsid × Open)) → AreWithin rows
    → AreWithin (taken_out lsid_cmp lsid rows)
within_taken lsid [] h = tt
within_taken lsid (row ∷ rows) h = taken_by row rows (taken_out lsid_cmp lsid rows) (lsid_cmp lsid
    row.0) h (within_taken lsid rows h.1)

put_by : (new row : Lsid × Open) (rows more : List (Lsid × Open)) (o : Ordering)
    → volume new.1.writes ≤ most_bytes → AreWithin (row ∷ rows) → AreWithin more
    → AreWithin (elim o [ Less ↦ new ∷ row ∷ rows | Equal ↦ new ∷ rows | Greater ↦ row ∷ more ])
put_by new row rows more Less few h k = (few, h)
put_by new row rows more Equal few h k = (few, h.1)
put_by new row rows more Greater few h k = (h.0, k)

within_put : (lsid : Lsid) (o : Open) (rows : List (Lsid × Open)) → volume o.writes ≤ most_bytes
    → AreWithin rows → AreWithin (put lsid_cmp lsid o rows)
within_put lsid o [] few h = (few, tt)
within_put lsid o (row ∷ rows) few h = put_by (lsid, o) row rows (put lsid_cmp lsid o rows)
    (lsid_cmp lsid row.0) few h (within_put lsid o rows few h.1)

-- parts with these live transactions
bounded_taken : (p q : Part) (lsid : Lsid) → q.live ≡ taken_out lsid_cmp lsid p.live → IsBounded p
    → IsBounded q
bounded_taken p q lsid is b =
    record {
      rises = rw is (rises_taken_out lsid_cmp lsid_total lsid_exact lsid p.live b.rises);
      within = rw is (within_taken lsid p.live b.within);
    }

bounded_put : (p q : Part) (lsid : Lsid) (o : Open) → q.live ≡ put lsid_cmp lsid o p.live
    → volume o.writes ≤ most_bytes → IsBounded p → IsBounded q
bounded_put p q lsid o is few b =
    record {
      rises = rw is (rises_put lsid_cmp lsid_total lsid_exact lsid o p.live b.rises);
      within = rw is (within_put lsid o p.live few b.within);
    }

bounded_same : (p q : Part) → q.live ≡ p.live → IsBounded p → IsBounded q
bounded_same p q is b = record { rises = rw is b.rises; within = rw is b.within }

bounded_closed : (p : Part) (lsid : Lsid) (o : Option Open) → IsBounded p
    → IsBounded (closed p lsid o)
bounded_closed p lsid None b = b
bounded_closed p lsid (Some o) b = bounded_taken p (closed p lsid (Some o)) lsid refl b

pub bounded_aborted : (p : Part) (lsid : Lsid) (s : Session) (why : Cause) → IsBounded p
    → IsBounded (aborted p lsid s why)
bounded_aborted p lsid s why b = bounded_taken p (aborted p lsid s why) lsid refl b

bounded_ends : (p : Part) (lsid : Lsid) (why : Cause) (s : Option Session) → IsBounded p
    → IsBounded (ends_live p lsid why s)
bounded_ends p lsid why None b = b
bounded_ends p lsid why (Some s) b = bounded_aborted p lsid s why b

pub bounded_end_live : (p : Part) (lsid : Lsid) (why : Cause) → IsBounded p
    → IsBounded (end_live p lsid why)
bounded_end_live p lsid why b = bounded_ends p lsid why (session p lsid) b

-- Statements.

abbrev Leaves : Turn → Type 0
Leaves t = IsBounded t.1

bounded_refuses : (p : Part) (m : Statement) (why : Cause) (read_at : ℕ) → IsBounded p
    → Leaves (refuses p m why read_at)
bounded_refuses p m why read_at b =
    bounded_same (without_live p m.lsid) (refuses p m why read_at).1 refl
    (bounded_closed p m.lsid (open_of p m.lsid) b)

bounded_room : (p : Part) (m : Statement) (mine : Option Open) → IsBounded p
    → IsBounded (made_room p m mine)
bounded_room p m None b = bounded_closed p m.lsid (open_of p m.lsid) b
bounded_room p m (Some o) b = b

bounded_does : (p : Part) (wall : ℕ) (m : Statement) (at : ℕ) (mine : Option Open) (reply : OpReply)
    (writes : List Write) → volume (writes_with mine writes) ≤ most_bytes → IsBounded p
    → Leaves (does p wall m at mine reply writes)
bounded_does p wall m at mine reply writes few b =
    bounded_put (made_room p m mine) (does p wall m at mine reply writes).1 m.lsid
    (opened wall m at mine reply writes) refl few (bounded_room p m mine b)

volume_case : (p : Part) (wall : ℕ) (m : Statement) (at : ℕ)
    (mine : Option Open) (reply : OpReply) (writes : List Write) (test : Bool)
    → nat_lt most_bytes (volume (writes_with mine writes)) ≡ test → IsBounded p
    → Leaves (if test then refuses p m (cause.Volume (volume (writes_with mine writes))) 0
    else does p wall m at mine reply writes)
volume_case p wall m at mine reply writes true is b = bounded_refuses p m _ 0 b
volume_case p wall m at mine reply writes false is b =
    bounded_does p wall m at mine reply writes (grind (arith, is)) b

conflict_case : (p : Part) (wall : ℕ) (m : Statement) (at : ℕ) (mine : Option Open)
    (reply : OpReply) (writes : List Write) (c : Option (Id × By)) → IsBounded p
    → Leaves (unless_conflict p wall m at mine reply writes c)
conflict_case p wall m at mine reply writes None b = volume_case p wall m at mine reply writes
    (nat_lt most_bytes (volume (writes_with mine writes))) refl b
conflict_case p wall m at mine reply writes (Some c) b = bounded_refuses p m _ 0 b

evaluated_case : (p : Part) (wall : ℕ) (m : Statement) (at : ℕ) (mine : Option Open)
    (meaning : Meaning) → IsBounded p → Leaves (evaluated p wall m at mine meaning)
evaluated_case p wall m at mine (Err err) b = bounded_refuses p m (cause.Statement err) at b
evaluated_case p wall m at mine (Ok done) b =
    conflict_case p wall m at mine done.0 done.1 (conflict p.store at m.tag done.1) b

scanned_case : (p : Part) (wall : ℕ) (m : Statement) (at : ℕ) (mine : Option Open)
    (rows : Result (List Row) Held) → IsBounded p → Leaves (scanned p wall m at mine rows)
scanned_case p wall m at mine (Err held) b = b
scanned_case p wall m at mine (Ok rows) b = evaluated_case p wall m at mine (eval m.op rows) b

bounded_performed : (p : Part) (wall : ℕ) (m : Statement) (at : ℕ) (mine : Option Open)
    → IsBounded p → Leaves (performed p wall m at mine)
unfolding performed
bounded_performed p wall m at mine b = scanned_case p wall m at mine _ b

older_case : (p : Part) (last wall : ℕ) (m : Statement) (older : Tag) (st : SessionState)
    → IsBounded p → Leaves (beside_older p last wall m older st)
older_case p last wall m older state.Live b = bounded_performed p wall m (read_time last m) None b
older_case p last wall m older (state.Prepared at coordinator) b = b
older_case p last wall m older (state.Committed at) b =
    bounded_performed p wall m (read_time last m) None b
older_case p last wall m older state.Released b =
    bounded_performed p wall m (read_time last m) None b
older_case p last wall m older (state.Aborted why read_at) b =
    bounded_performed p wall m (read_time last m) None b

beside_case : (p : Part) (last wall : ℕ) (m : Statement) (s : Option Session) → IsBounded p
    → Leaves (beside p last wall m s)
beside_case p last wall m None b =
    either (is_full p.sessions) Leaves _ _ b (bounded_performed p wall m (read_time last m) None b)
beside_case p last wall m (Some s) b = older_case p last wall m s.tag s.state b

first_case : (p : Part) (last wall : ℕ) (m : Statement) (s : Option Session) → IsBounded p
    → Leaves (first_statement p last wall m s)
first_case p last wall m s b = either (nat_eq m.boot 0) Leaves _ _ (beside_case p last wall m s b) b

goes_case : (p : Part) (wall : ℕ) (m : Statement) (s : Session) (o : Option Open) → IsBounded p
    → Leaves (goes_on p wall m s o)
goes_case p wall m s None b = b
goes_case p wall m s (Some o) b =
    either (nat_eq m.k o.k) Leaves _ _ b
    (either (nat_lt m.k o.k) Leaves _ _ b
    (either (nat_eq m.boot p.boot) Leaves _ _ (bounded_performed p wall m o.read_at (Some o) b)
    (bounded_aborted p m.lsid s (cause.Unavailable m.boot p.boot) b)))

later_case : (p : Part) (wall : ℕ) (m : Statement) (s : Session) (st : SessionState) → IsBounded p
    → Leaves (later_statement p wall m s st)
later_case p wall m s state.Live b = goes_case p wall m s (open_of p m.lsid) b
later_case p wall m s (state.Prepared at coordinator) b = b
later_case p wall m s (state.Committed at) b = b
later_case p wall m s state.Released b = b
later_case p wall m s (state.Aborted why read_at) b = b

session_case : (p : Part) (last wall : ℕ) (m : Statement) (s : Option Session) → IsBounded p
    → Leaves (by_session p last wall m s)
session_case p last wall m None b = first_case p last wall m None b
session_case p last wall m (Some s) b =
    either (is_replaced s m.number m.tag) Leaves _ _ b
    (either (same_tag s.tag m.tag) Leaves _ _ (later_case p wall m s s.state b)
    (first_case p last wall m (Some s) b))

pub bounded_statement : (p : Part) (last wall : ℕ) (m : Statement) → IsBounded p
    → IsBounded (statement p last wall m).1
unfolding statement
bounded_statement p last wall m b = session_case p last wall m (session p m.lsid) b

-- Ends.

decided_case : (p : Part) (m : Decide) (s : Session) (at : ℕ) (d : Decision) → IsBounded p
    → IsBounded (decides_prepared p m s at d).1
decided_case p m s at (decision.Commit time) b = either (nat_le at time) (λ (d : _ × Part).
    IsBounded d.1) _ _ (bounded_taken p _ m.lsid refl b) b
decided_case p m s at (decision.Abort shard code) b = bounded_taken p _ m.lsid refl b

decided_live : (p : Part) (m : Decide) (s : Session) (d : Decision) → IsBounded p
    → IsBounded (decides_live p m s d).1
decided_live p m s (decision.Commit time) b = b
decided_live p m s (decision.Abort shard code) b =
    bounded_aborted p m.lsid s (cause.Voted shard code) b

decided_own : (p : Part) (m : Decide) (s : Session) (st : SessionState) → IsBounded p
    → IsBounded (decides_own p m s st).1
decided_own p m s state.Live b = decided_live p m s m.decision b
decided_own p m s (state.Prepared at coordinator) b = decided_case p m s at m.decision b
decided_own p m s (state.Committed at) b = b
decided_own p m s state.Released b = b
decided_own p m s (state.Aborted why read_at) b = b

decided_session : (p : Part) (m : Decide) (s : Option Session) → IsBounded p
    → IsBounded (decides_session p m s).1
decided_session p m None b = b
decided_session p m (Some s) b = either (same_tag s.tag m.tag) (λ (d : _ × Part).
    IsBounded d.1) _ _ (decided_own p m s s.state b) b

pub bounded_decide : (p : Part) (m : Decide) → IsBounded p → IsBounded (decide p m).1
unfolding decide
bounded_decide p m b = decided_session p m (session p m.lsid) b

aborted_own : (p : Part) (m : Abort) (s : Session) (st : SessionState) → IsBounded p
    → IsBounded (aborts_own p m s st)
aborted_own p m s state.Live b = bounded_aborted p m.lsid s (cause.ClientAbort m.why) b
aborted_own p m s (state.Prepared at coordinator) b = b
aborted_own p m s (state.Committed at) b = b
aborted_own p m s state.Released b = b
aborted_own p m s (state.Aborted why read_at) b = b

aborted_session : (p : Part) (m : Abort) (s : Option Session) → IsBounded p
    → IsBounded (aborts_session p m s)
aborted_session p m None b = b
aborted_session p m (Some s) b =
    either (same_tag s.tag m.tag) IsBounded _ _ (aborted_own p m s s.state b) b

pub bounded_abort : (p : Part) (m : Abort) → IsBounded p → IsBounded (abort p m)
unfolding abort
bounded_abort p m b = aborted_session p m (session p m.lsid) b

recovered_own : (p : Part) (m : Recover) (s : Session) (st : SessionState) → IsBounded p
    → IsBounded (recovers_own p m s st).1
recovered_own p m s state.Live b = bounded_aborted p m.lsid s (cause.ClientAbort 3) b
recovered_own p m s (state.Prepared at coordinator) b = b
recovered_own p m s (state.Committed at) b = b
recovered_own p m s state.Released b = b
recovered_own p m s (state.Aborted why read_at) b = b

recovered_none : (p : Part) (m : Recover) → IsBounded p → IsBounded (recovers_none p m).1
recovered_none p m b = either (nat_eq m.boot p.boot) (λ (t : _ × Part). IsBounded t.1) _ _ b b

recovered_session : (p : Part) (m : Recover) (s : Option Session) → IsBounded p
    → IsBounded (recovers_session p m s).1
recovered_session p m None b = recovered_none p m b
recovered_session p m (Some s) b =
    either (int_lt m.number s.number) (λ (t : _ × Part). IsBounded t.1) _ _ b
    (either (same_tag s.tag m.tag) (λ (t : _ × Part). IsBounded t.1) _ _
    (recovered_own p m s s.state b) (recovered_none p m b))

pub bounded_recover : (p : Part) (m : Recover) → IsBounded p → IsBounded (recover p m).1
unfolding recover
bounded_recover p m b = recovered_session p m (session p m.lsid) b

wanted_own : (p : Part) (lsid : Lsid) (s : Session) (st : SessionState) → IsBounded p
    → IsBounded (ends_own p lsid s st)
wanted_own p lsid s state.Live b = bounded_aborted p lsid s cause.Memory b
wanted_own p lsid s (state.Prepared at coordinator) b = b
wanted_own p lsid s (state.Committed at) b = b
wanted_own p lsid s state.Released b = b
wanted_own p lsid s (state.Aborted why read_at) b = b

wanted_session : (p : Part) (lsid : Lsid) (tag : Tag) (s : Option Session) → IsBounded p
    → IsBounded (ends_session p lsid tag s)
wanted_session p lsid tag None b = b
wanted_session p lsid tag (Some s) b =
    either (same_tag s.tag tag) IsBounded _ _ (wanted_own p lsid s s.state b) b

pub bounded_memory : (p : Part) (lsid : Lsid) (tag : Tag) → IsBounded p
    → IsBounded (ended_for_memory p lsid tag)
bounded_memory p lsid tag b = wanted_session p lsid tag (session p lsid) b

expired_all : (wall : ℕ) (rows : List (Lsid × Open)) (p : Part) → IsBounded p
    → IsBounded (expire_all wall rows p)
expired_all wall [] p b = b
expired_all wall (row ∷ rows) p b =
    expired_all wall rows _ (either (nat_lt lifetime (wall - row.1.begun)) IsBounded _ _
    (bounded_end_live p row.0 (cause.Expired row.1.begun wall) b) b)

pub bounded_expire : (p : Part) (wall : ℕ) → IsBounded p → IsBounded (expire p wall)
unfolding expire
bounded_expire p wall b = expired_all wall p.live p b

-- what a session has after an end it had before

same_or_gone : (lsid other : Lsid) (p q : Part) (o : Open) (test : Bool)
    → same_lsid other lsid ≡ test → IsBounded p → q.live ≡ taken_out lsid_cmp lsid p.live
    → ChangesOnly lsid p q → open_of q other ≡ Some o → open_of p other ≡ Some o
same_or_gone lsid other p q o false is b live changes here = sym (changes.live other is) ∙ here
same_or_gone lsid other p q o true is b live changes here =
    let key = lsid_same other lsid is in
    let gone : open_of q other ≡ None = ap (λ (l : Lsid). open_of q l) key
    ∙ ap (λ (rows : List (Lsid × Open)). entry_of lsid rows) live ∙ none_live p lsid b.rises in
    let wrong : None ≡ Some o = sym gone ∙ here in
    cc

gone_ended : (p : Part) (lsid other : Lsid) (why : Cause) (s : Option Session) (o : Open)
    → IsBounded p → open_of (ends_live p lsid why s) other ≡ Some o → open_of p other ≡ Some o
gone_ended p lsid other why None o b here = here
gone_ended p lsid other why (Some s) o b here =
    same_or_gone lsid other p (aborted p lsid s why) o (same_lsid other lsid) refl b refl
    (ended_changes lsid p (dropped s.tag p.store) s (state.Aborted why 0)) here

gone_case : (p q : Part) (row : Lsid × Open) (why : Cause) (lsid : Lsid) (o : Open) (test : Bool)
    → IsBounded p → (if test then end_live p row.0 why else p) ≡ q → open_of q lsid ≡ Some o
    → open_of p lsid ≡ Some o
gone_case p q row why lsid o true b is here =
    gone_ended p row.0 lsid why (session p row.0) o b (ap (λ (x : Part). open_of x lsid) is ∙ here)
gone_case p q row why lsid o false b is here = ap (λ (x : Part). open_of x lsid) is ∙ here

gone_all : (wall : ℕ) (rows : List (Lsid × Open)) (p : Part) (lsid : Lsid) (o : Open) → IsBounded p
    → open_of (expire_all wall rows p) lsid ≡ Some o → open_of p lsid ≡ Some o
gone_all wall [] p lsid o b here = here
gone_all wall (row ∷ rows) p lsid o b here =
    let why = cause.Expired row.1.begun wall in
    let test = nat_lt lifetime (wall - row.1.begun) in
    gone_case p _ row why lsid o test b refl
    (gone_all wall rows _ lsid o
    (either test IsBounded _ _ (bounded_end_live p row.0 why b) b) here)

pub gone_expired : (p : Part) (wall : ℕ) (lsid : Lsid) (o : Open) → IsBounded p
    → open_of (expire p wall) lsid ≡ Some o → open_of p lsid ≡ Some o
unfolding expire
gone_expired p wall lsid o b here = gone_all wall p.live p lsid o b here

-- Commits and prepares.

commits_case : (p : Part) (last : ℕ) (m : Commit) (s : Session) (o : Open) (at : Option ℕ)
    → IsBounded p → IsBounded (commits_by p last m s o at).part
commits_case p last m s o None b = bounded_aborted p m.lsid s (cause.ClockEnd last) b
commits_case p last m s o (Some at) b = bounded_taken p _ m.lsid refl b

commits_writes_case : (p : Part) (last wall : ℕ) (m : Commit) (s : Session) (o : Open)
    (writes : List Write) → IsBounded p → IsBounded (commits_writes p last wall m s o writes).part
commits_writes_case p last wall m s o [] b = bounded_taken p _ m.lsid refl b
commits_writes_case p last wall m s o (write ∷ writes) b = commits_case p last m s o _ b

commits_open_case : (p : Part) (last wall : ℕ) (m : Commit) (s : Session) (o : Option Open)
    → IsBounded p → IsBounded (commits_open p last wall m s o).part
commits_open_case p last wall m s None b = bounded_taken p _ m.lsid refl b
commits_open_case p last wall m s (Some o) b = commits_writes_case p last wall m s o o.writes b

commits_own_case : (p : Part) (last wall : ℕ) (m : Commit) (s : Session) (st : SessionState)
    → IsBounded p → IsBounded (commits_own p last wall m s st).part
commits_own_case p last wall m s state.Live b =
    either (nat_eq m.boot p.boot) (λ (c : Committing). IsBounded c.part)
    _ _ (commits_open_case p last wall m s (open_of p m.lsid) b)
    (bounded_aborted p m.lsid s (cause.Unavailable m.boot p.boot) b)
commits_own_case p last wall m s (state.Prepared at coordinator) b = b
commits_own_case p last wall m s (state.Committed at) b = b
commits_own_case p last wall m s state.Released b = b
commits_own_case p last wall m s (state.Aborted why read_at) b = b

commits_session_case : (p : Part) (last wall : ℕ) (m : Commit) (s : Option Session) → IsBounded p
    → IsBounded (commits_session p last wall m s).part
commits_session_case p last wall m None b = b
commits_session_case p last wall m (Some s) b =
    either (int_lt m.number s.number) (λ (c : Committing). IsBounded c.part) _ _ b
    (either (same_tag s.tag m.tag) (λ (c : Committing). IsBounded c.part) _ _
    (commits_own_case p last wall m s s.state b) b)

pub bounded_commit : (p : Part) (last wall : ℕ) (m : Commit) → IsBounded p
    → IsBounded (commit p last wall m).part
unfolding commit
bounded_commit p last wall m b = commits_session_case p last wall m (session p m.lsid) b

prepares_case : (p : Part) (last : ℕ) (m : Prepare) (s : Session) (o : Open) (at : Option ℕ)
    → IsBounded p → IsBounded (prepares_by p last m s o at).part
prepares_case p last m s o None b = bounded_aborted p m.lsid s (cause.ClockEnd last) b
prepares_case p last m s o (Some at) b = bounded_taken p _ m.lsid refl b

prepares_open_case : (p : Part) (last wall : ℕ) (m : Prepare) (s : Session) (o : Option Open)
    → IsBounded p → IsBounded (prepares_open p last wall m s o).part
prepares_open_case p last wall m s None b = b
prepares_open_case p last wall m s (Some o) b = prepares_case p last m s o _ b

prepares_own_case : (p : Part) (last wall : ℕ) (m : Prepare) (s : Session) (st : SessionState)
    → IsBounded p → IsBounded (prepares_own p last wall m s st).part
prepares_own_case p last wall m s state.Live b =
    either (nat_eq m.boot p.boot) (λ (c : Voting). IsBounded c.part)
    _ _ (prepares_open_case p last wall m s (open_of p m.lsid) b)
    (bounded_aborted p m.lsid s (cause.Unavailable m.boot p.boot) b)
prepares_own_case p last wall m s (state.Prepared at coordinator) b = b
prepares_own_case p last wall m s (state.Committed at) b = b
prepares_own_case p last wall m s state.Released b = b
prepares_own_case p last wall m s (state.Aborted why read_at) b = b

prepares_session_case : (p : Part) (last wall : ℕ) (m : Prepare) (s : Option Session) → IsBounded p
    → IsBounded (prepares_session p last wall m s).part
prepares_session_case p last wall m None b = b
prepares_session_case p last wall m (Some s) b =
    either (is_replaced s m.number m.tag) (λ (c : Voting). IsBounded c.part) _ _ b
    (either (same_tag s.tag m.tag) (λ (c : Voting). IsBounded c.part) _ _
    (prepares_own_case p last wall m s s.state b) b)

pub bounded_prepare : (p : Part) (last wall : ℕ) (m : Prepare) → IsBounded p
    → IsBounded (prepare p last wall m).part
unfolding prepare
bounded_prepare p last wall m b = prepares_session_case p last wall m (session p m.lsid) b
