-- What ends of transactions leave of sessions, and what is told of them.
use Rattle.std.proofs.Common.{◌≡◌, inl, inr, ◌∙◌, ℕ, Bool, true, false, List, [], ◌∷◌}
use Rattle.std.proofs.Common.{Option, Some, None, IfSome, refl, ap, subst, nat_eq, nat_le}
use Rattle.std.proofs.Common.{int_lt, if◌then◌else◌}
use Rattle.txn_types.specs.Clock.{ticked}
use Rattle.txn_types.specs.BySession.{with_entry}
use Rattle.txn_types.specs.Order.{same_tag, lsid_cmp}
use Rattle.txn_types.specs.declared.cause.Cause.{Cause}
use Rattle.txn_types.specs.declared.cause.Cause.TheVariants as cause
use Rattle.txn_types.specs.declared.decision.Decision.{Decision}
use Rattle.txn_types.specs.declared.decision.Decision.TheVariants as decision
use Rattle.txn_types.specs.declared.decision.Told.{Told}
use Rattle.txn_types.specs.declared.decision.Told.TheVariants as told
use Rattle.txn_types.specs.declared.message.Abort.{Abort}
use Rattle.txn_types.specs.declared.message.Commit.{Commit}
use Rattle.txn_types.specs.declared.message.Decide.{Decide}
use Rattle.txn_types.specs.declared.message.Prepare.{Prepare}
use Rattle.txn_types.specs.declared.message.Recover.{Recover}
use Rattle.txn_types.specs.declared.names.Tag.{Tag}
use Rattle.txn_types.specs.declared.node.Lsid.{Lsid}
use Rattle.txn_types.specs.declared.write.Write.{Write}
use Rattle.txn_semantics.specs.Keyed.{taken_out}
use Rattle.session_table.specs.Sessions.{state_behind}
use Rattle.session_table.specs.declared.session.Session.{Session}
use Rattle.session_table.specs.declared.session.SessionState.{SessionState}
use Rattle.session_table.specs.declared.session.SessionState.TheVariants as state
use Rattle.participant.specs.declared.said.Open.{Open}
use Rattle.participant.specs.Part.{Part, session, open_of, aborted, is_replaced}
use Rattle.participant.specs.Commit as co
use Rattle.participant.specs.Prepare as pr
use Rattle.participant.specs.Decide as de
use Rattle.participant.specs.Abort as ab
use Rattle.participant.specs.Recover as rc
use Rattle.participant.specs.Memory.{ended_for_memory, ends_session, ends_own}
use Rattle.participant.proofs.Cases.{either}
use Rattle.participant.proofs.Tags.{tag_same}
use Rattle.cluster_core.specs.Causes.{is_aborted}
use Rattle.making_laws.proofs.Leaving.{is_kept, Leaves, rests, put_leaves}
use Rattle.making_laws.proofs.Leaving.{out_lives, ended_leaves, aborted_leaves, aborted_is}
use Rattle.making_laws.proofs.Turns.{ToldAs, IsUnended, no_session, other_tag, not_ended}
use Rattle.making_laws.proofs.Turns.{unended_told}

-- no statement is refused
abbrev pub NoneStated : Lsid → Session → Cause → Type 0
NoneStated lsid new why = ⊥

abbrev pub Rule : Part → Part → Type 0
Rule p q = Leaves NoneStated p q

rests_so : (p : Part) → Rule p p
rests_so p = rests NoneStated p

ends : (p : Part) (lsid : Lsid) (s : Session) (why : Cause) → session p lsid ≡ Some s
    → is_aborted s.state ≡ false → is_kept why ≡ true → Rule p (aborted p lsid s why)
ends p lsid s why is not kept = aborted_leaves NoneStated p lsid s why is not kept

not_of : (s : Session) (st : SessionState) → s.state ≡ st → is_aborted st ≡ false
    → is_aborted s.state ≡ false
not_of s st e not = ap is_aborted e ∙ not

-- Want of memory, and aborts.

own_memory : (p : Part) (lsid : Lsid) (s : Session) (st : SessionState) → session p lsid ≡ Some s
    → s.state ≡ st → Rule p (ends_own p lsid s st)
own_memory p lsid s state.Live is e =
    ends p lsid s cause.Memory is (not_of s state.Live e refl) refl
own_memory p lsid s (state.Prepared at coordinator) is e = rests_so p
own_memory p lsid s (state.Committed at) is e = rests_so p
own_memory p lsid s state.Released is e = rests_so p
own_memory p lsid s (state.Aborted why read_at) is e = rests_so p

session_memory : (p : Part) (lsid : Lsid) (tag : Tag) (s : Option Session) → session p lsid ≡ s
    → Rule p (ends_session p lsid tag s)
session_memory p lsid tag None is = rests_so p
session_memory p lsid tag (Some s) is =
    either (same_tag s.tag tag) (Rule p) _ _ (own_memory p lsid s s.state is refl) (rests_so p)

pub memory_leaves : (p : Part) (lsid : Lsid) (tag : Tag) → Rule p (ended_for_memory p lsid tag)
memory_leaves p lsid tag = session_memory p lsid tag (session p lsid) refl

own_abort : (p : Part) (m : Abort) (s : Session) (st : SessionState) → session p m.lsid ≡ Some s
    → s.state ≡ st → Rule p (ab.aborts_own p m s st)
own_abort p m s state.Live is e =
    ends p m.lsid s (cause.ClientAbort m.why) is (not_of s state.Live e refl) refl
own_abort p m s (state.Prepared at coordinator) is e = rests_so p
own_abort p m s (state.Committed at) is e = rests_so p
own_abort p m s state.Released is e = rests_so p
own_abort p m s (state.Aborted why read_at) is e = rests_so p

session_abort : (p : Part) (m : Abort) (s : Option Session) → session p m.lsid ≡ s
    → Rule p (ab.aborts_session p m s)
session_abort p m None is = rests_so p
session_abort p m (Some s) is =
    either (same_tag s.tag m.tag) (Rule p) _ _ (own_abort p m s s.state is refl) (rests_so p)

pub abort_leaves : (p : Part) (m : Abort) → Rule p (ab.abort p m)
unfolding ab.abort
abort_leaves p m = session_abort p m (session p m.lsid) refl

-- What is told of a transaction.

abbrev pub IsToldAs : Part → Lsid → Tag → Told → Type 0
IsToldAs p lsid tag (told.Aborted why) = ToldAs p lsid tag why
IsToldAs p lsid tag other = Unit {0}

repeated : (p : Part) (lsid : Lsid) (tag : Tag) (s : Session) (why : Cause) (at : ℕ)
    → session p lsid ≡ Some s → s.tag ≡ tag → s.state ≡ state.Aborted why at
    → ToldAs p lsid tag why
repeated p lsid tag s why at is own e =
    inr (inr (record { old = s; at = at; there = is; own = own; ended = e }))

-- A recovery.

pub record Recovers (p : Part) (m : Recover) (t : rc.Telling) : Type 0 where
  pub leaves : Rule p t.1
  pub told : IsToldAs p m.lsid m.tag t.0

quiet_recovery : (p : Part) (m : Recover) (t : Told) → IsToldAs p m.lsid m.tag t
    → Recovers p m (t, p)
quiet_recovery p m t h = record { leaves = rests_so p; told = h }

own_recovery : (p : Part) (m : Recover) (s : Session) (st : SessionState)
    → session p m.lsid ≡ Some s → s.tag ≡ m.tag → s.state ≡ st
    → Recovers p m (rc.recovers_own p m s st)
own_recovery p m s state.Live is own e =
    let not = not_of s state.Live e refl in
    record {
      leaves = ends p m.lsid s (cause.ClientAbort 3) is not refl;
      told = unended_told p m.lsid m.tag _ (not_ended p m.lsid m.tag s is not);
    }
own_recovery p m s (state.Prepared at coordinator) is own e = quiet_recovery p m told.NoTrace tt
own_recovery p m s (state.Committed at) is own e = quiet_recovery p m (told.Committed at) tt
own_recovery p m s state.Released is own e = quiet_recovery p m told.NoTrace tt
own_recovery p m s (state.Aborted why read_at) is own e = quiet_recovery p m (told.Aborted why)
    (repeated p m.lsid m.tag s why read_at is own e)

none_recovery : (p : Part) (m : Recover) → IsUnended p m.lsid m.tag
    → Recovers p m (rc.recovers_none p m)
none_recovery p m h =
    either (nat_eq m.boot p.boot) (Recovers p m) _ _ (quiet_recovery p m told.NoTrace tt)
    (quiet_recovery p m (told.Aborted (cause.Unavailable m.boot p.boot))
    (unended_told p m.lsid m.tag _ h))

tag_recovery : (p : Part) (m : Recover) (s : Session) (test : Bool) → same_tag s.tag m.tag ≡ test
    → session p m.lsid ≡ Some s
    → Recovers p m (if test then rc.recovers_own p m s s.state else rc.recovers_none p m)
tag_recovery p m s true e is = own_recovery p m s s.state is (tag_same s.tag m.tag e) refl
tag_recovery p m s false e is = none_recovery p m (other_tag p m.lsid m.tag s is e)

session_recovery : (p : Part) (m : Recover) (s : Option Session) → session p m.lsid ≡ s
    → Recovers p m (rc.recovers_session p m s)
session_recovery p m None is = none_recovery p m (no_session p m.lsid m.tag is)
session_recovery p m (Some s) is =
    either (int_lt m.number s.number) (Recovers p m) _ _
    (quiet_recovery p m (told.TooOld s.number) tt)
    (tag_recovery p m s (same_tag s.tag m.tag) refl is)

pub recover_leaves : (p : Part) (m : Recover) → Recovers p m (rc.recover p m)
unfolding rc.recover
recover_leaves p m = session_recovery p m (session p m.lsid) refl

-- A decision.

behind_leaves : (p q : Part) (lsid : Lsid) (s : Session) (d : Decision) → session p lsid ≡ Some s
    → is_aborted s.state ≡ false
    → q.sessions.entries ≡ with_entry lsid (record {
      number = s.number;
      tag = s.tag;
      state = state_behind d;
    }) p.sessions.entries → q.live ≡ taken_out lsid_cmp lsid p.live → Rule p q
behind_leaves p q lsid s (decision.Commit at) is not sessions live =
    ended_leaves NoneStated p lsid s q (state.Committed at) sessions live refl
behind_leaves p q lsid s (decision.Abort shard code) is not sessions live =
    let why = cause.Voted shard code in
    let new : Session = record { number = s.number; tag = s.tag; state = state.Aborted why 0 } in
    put_leaves NoneStated p q lsid new sessions
    (λ other at e. inl (record {
      old = s;
      there = is;
      was = inr (
        not,
        refl,
        subst (λ (w : Cause). is_kept w ≡ true) (aborted_is why other 0 at e)
            refl,
      );
    }))
    (out_lives p q lsid new sessions live)

abbrev Decides : Part → de.Deciding → Type 0
Decides p d = Rule p d.1

applies_leaves : (p : Part) (m : Decide) (s : Session) → session p m.lsid ≡ Some s
    → is_aborted s.state ≡ false → Decides p (de.applies p m s)
applies_leaves p m s is not =
    behind_leaves p (de.decided_part p m s) m.lsid s m.decision is not refl refl

prepared_decision : (p : Part) (m : Decide) (s : Session) (at : ℕ) (d : Decision)
    → session p m.lsid ≡ Some s → is_aborted s.state ≡ false
    → Decides p (de.decides_prepared p m s at d)
prepared_decision p m s at (decision.Commit time) is not =
    either (nat_le at time) (Decides p) _ _ (applies_leaves p m s is not) (rests_so p)
prepared_decision p m s at (decision.Abort shard code) is not = applies_leaves p m s is not

live_decision : (p : Part) (m : Decide) (s : Session) (d : Decision) → session p m.lsid ≡ Some s
    → is_aborted s.state ≡ false → Decides p (de.decides_live p m s d)
live_decision p m s (decision.Commit time) is not = rests_so p
live_decision p m s (decision.Abort shard code) is not =
    ends p m.lsid s (cause.Voted shard code) is not refl

own_decision : (p : Part) (m : Decide) (s : Session) (st : SessionState)
    → session p m.lsid ≡ Some s → s.state ≡ st → Decides p (de.decides_own p m s st)
own_decision p m s state.Live is e =
    live_decision p m s m.decision is (not_of s state.Live e refl)
own_decision p m s (state.Prepared at coordinator) is e =
    prepared_decision p m s at m.decision is (not_of s (state.Prepared at coordinator) e refl)
own_decision p m s (state.Committed at) is e = rests_so p
own_decision p m s state.Released is e = rests_so p
own_decision p m s (state.Aborted why read_at) is e = rests_so p

session_decision : (p : Part) (m : Decide) (s : Option Session) → session p m.lsid ≡ s
    → Decides p (de.decides_session p m s)
session_decision p m None is = rests_so p
session_decision p m (Some s) is =
    either (same_tag s.tag m.tag) (Decides p) _ _ (own_decision p m s s.state is refl) (rests_so p)

pub decide_leaves : (p : Part) (m : Decide) → Rule p (de.decide p m).1
unfolding de.decide
decide_leaves p m = session_decision p m (session p m.lsid) refl

-- A commit.

pub record Commits (p : Part) (m : Commit) (c : co.Committing) : Type 0 where
  pub leaves : Rule p c.part
  pub told : IfSome c.told (IsToldAs p m.lsid m.tag)

tells_commit : (p : Part) (last : ℕ) (m : Commit) (t : Told) → IsToldAs p m.lsid m.tag t
    → Commits p m (co.tells p last t)
tells_commit p last m t h = record { leaves = rests_so p; told = h }

fails_commit : (p : Part) (last : ℕ) (m : Commit) (s : Session) (why : Cause)
    → session p m.lsid ≡ Some s → is_aborted s.state ≡ false → is_kept why ≡ true
    → Commits p m (co.fails p last m s why)
fails_commit p last m s why is not kept = record {
  leaves = ends p m.lsid s why is not kept;
  told = unended_told p m.lsid m.tag why (not_ended p m.lsid m.tag s is not);
}

time_commit : (p : Part) (last : ℕ) (m : Commit) (s : Session) (o : Open) (t : Option ℕ)
    → session p m.lsid ≡ Some s → is_aborted s.state ≡ false
    → Commits p m (co.commits_by p last m s o t)
time_commit p last m s o None is not = fails_commit p last m s (cause.ClockEnd last) is not refl
time_commit p last m s o (Some at) is not = record {
  leaves = ended_leaves NoneStated p m.lsid s (co.commits p m s o at).part (state.Committed at) refl
      refl refl;
  told = tt;
}

releases_commit : (p : Part) (last : ℕ) (m : Commit) (s : Session)
    → Commits p m (co.releases p last m s)
releases_commit p last m s = record {
  leaves = ended_leaves NoneStated p m.lsid s (co.releases p last m s).part state.Released refl refl
      refl;
  told = tt;
}

writes_commit : (p : Part) (last wall : ℕ) (m : Commit) (s : Session) (o : Open) (ws : List Write)
    → session p m.lsid ≡ Some s → is_aborted s.state ≡ false
    → Commits p m (co.commits_writes p last wall m s o ws)
writes_commit p last wall m s o [] is not = releases_commit p last m s
writes_commit p last wall m s o (w ∷ ws) is not = time_commit p last m s o (ticked last wall) is not

open_commit : (p : Part) (last wall : ℕ) (m : Commit) (s : Session) (o : Option Open)
    → session p m.lsid ≡ Some s → is_aborted s.state ≡ false
    → Commits p m (co.commits_open p last wall m s o)
open_commit p last wall m s None is not = releases_commit p last m s
open_commit p last wall m s (Some o) is not = writes_commit p last wall m s o o.writes is not

own_commit : (p : Part) (last wall : ℕ) (m : Commit) (s : Session) (st : SessionState)
    → session p m.lsid ≡ Some s → s.tag ≡ m.tag → s.state ≡ st
    → Commits p m (co.commits_own p last wall m s st)
own_commit p last wall m s state.Live is own e =
    let not = not_of s state.Live e refl in
    either (nat_eq m.boot p.boot) (Commits p m) _ _
    (open_commit p last wall m s (open_of p m.lsid) is not)
    (fails_commit p last m s (cause.Unavailable m.boot p.boot) is not refl)
own_commit p last wall m s (state.Prepared at coordinator) is own e =
    record { leaves = rests_so p; told = tt }
own_commit p last wall m s (state.Committed at) is own e =
    tells_commit p last m (told.Committed at) tt
own_commit p last wall m s state.Released is own e = tells_commit p last m told.Released tt
own_commit p last wall m s (state.Aborted why read_at) is own e =
    tells_commit p last m (told.Aborted why) (repeated p m.lsid m.tag s why read_at is own e)

tag_commit : (p : Part) (last wall : ℕ) (m : Commit) (s : Session) (test : Bool)
    → same_tag s.tag m.tag ≡ test → session p m.lsid ≡ Some s
    → Commits p m (if test then co.commits_own p last wall m s s.state
    else co.tells p last (told.Aborted (cause.Unavailable m.boot p.boot)))
tag_commit p last wall m s true e is =
    own_commit p last wall m s s.state is (tag_same s.tag m.tag e) refl
tag_commit p last wall m s false e is =
    tells_commit p last m (told.Aborted (cause.Unavailable m.boot p.boot))
    (unended_told p m.lsid m.tag _ (other_tag p m.lsid m.tag s is e))

session_commit : (p : Part) (last wall : ℕ) (m : Commit) (s : Option Session)
    → session p m.lsid ≡ s → Commits p m (co.commits_session p last wall m s)
session_commit p last wall m None is =
    tells_commit p last m (told.Aborted (cause.Unavailable m.boot p.boot))
    (unended_told p m.lsid m.tag _ (no_session p m.lsid m.tag is))
session_commit p last wall m (Some s) is =
    either (int_lt m.number s.number) (Commits p m) _ _
    (tells_commit p last m (told.TooOld s.number) tt)
    (tag_commit p last wall m s (same_tag s.tag m.tag) refl is)

pub commit_leaves : (p : Part) (last wall : ℕ) (m : Commit)
    → Commits p m (co.commit p last wall m)
unfolding co.commit
commit_leaves p last wall m = session_commit p last wall m (session p m.lsid) refl

-- A prepare, of whose votes no client is told.

abbrev Votes : Part → pr.Voting → Type 0
Votes p c = Rule p c.part

time_vote : (p : Part) (last : ℕ) (m : Prepare) (s : Session) (o : Open) (t : Option ℕ)
    → session p m.lsid ≡ Some s → is_aborted s.state ≡ false
    → Votes p (pr.prepares_by p last m s o t)
time_vote p last m s o None is not = ends p m.lsid s (cause.ClockEnd last) is not refl
time_vote p last m s o (Some at) is not =
    ended_leaves NoneStated p m.lsid s (pr.prepares p m s o at).part
    (state.Prepared at m.coordinator) refl refl refl

open_vote : (p : Part) (last wall : ℕ) (m : Prepare) (s : Session) (o : Option Open)
    → session p m.lsid ≡ Some s → is_aborted s.state ≡ false
    → Votes p (pr.prepares_open p last wall m s o)
open_vote p last wall m s None is not = rests_so p
open_vote p last wall m s (Some o) is not = time_vote p last m s o (ticked last wall) is not

own_vote : (p : Part) (last wall : ℕ) (m : Prepare) (s : Session) (st : SessionState)
    → session p m.lsid ≡ Some s → s.state ≡ st → Votes p (pr.prepares_own p last wall m s st)
own_vote p last wall m s state.Live is e =
    let not = not_of s state.Live e refl in
    either (nat_eq m.boot p.boot) (Votes p) _ _
    (open_vote p last wall m s (open_of p m.lsid) is not)
    (ends p m.lsid s (cause.Unavailable m.boot p.boot) is not refl)
own_vote p last wall m s (state.Prepared at coordinator) is e = rests_so p
own_vote p last wall m s (state.Committed at) is e = rests_so p
own_vote p last wall m s state.Released is e = rests_so p
own_vote p last wall m s (state.Aborted why read_at) is e = rests_so p

session_vote : (p : Part) (last wall : ℕ) (m : Prepare) (s : Option Session)
    → session p m.lsid ≡ s → Votes p (pr.prepares_session p last wall m s)
session_vote p last wall m None is = rests_so p
session_vote p last wall m (Some s) is =
    either (is_replaced s m.number m.tag) (Votes p) _ _ (rests_so p)
    (either (same_tag s.tag m.tag) (Votes p) _ _ (own_vote p last wall m s s.state is refl)
    (rests_so p))

pub prepare_leaves : (p : Part) (last wall : ℕ) (m : Prepare)
    → Rule p (pr.prepare p last wall m).part
unfolding pr.prepare
prepare_leaves p last wall m = session_vote p last wall m (session p m.lsid) refl
