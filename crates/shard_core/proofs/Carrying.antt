-- A step's record carries what is known before the step.
use Rattle.std.proofs.Common.{◌≡◌, ◌⊎◌, inl, inr, ℕ, ℤ, max, Bool, true, false, List, [], ◌∷◌}
use Rattle.std.proofs.Common.{Option, Some, None, IfSome, option_map, option_and_then, unwrap_or}
use Rattle.std.proofs.Common.{refl, sym, ap, ◌∙◌, nat_eq, int_lt, if◌then◌else◌}
use Rattle.txn_types.specs.Order.{same_tag}
use Rattle.txn_types.specs.declared.cause.Cause.TheVariants as cause
use Rattle.txn_types.specs.declared.event.Happening.{Happening}
use Rattle.txn_types.specs.declared.event.Happening.TheVariants as what
use Rattle.txn_types.specs.declared.event.NodeAnswer.{NodeAnswer}
use Rattle.txn_types.specs.declared.event.NodeAnswer.TheVariants as answer
use Rattle.txn_types.specs.declared.event.NodeEvent.{NodeEvent}
use Rattle.txn_types.specs.declared.message.Acked.{Acked}
use Rattle.txn_types.specs.declared.message.Commit.{Commit}
use Rattle.txn_types.specs.declared.message.CommitTwo.{CommitTwo}
use Rattle.txn_types.specs.declared.message.Envelope.{Envelope}
use Rattle.txn_types.specs.declared.message.Msg.{Msg}
use Rattle.txn_types.specs.declared.message.Msg.TheVariants as msg
use Rattle.txn_types.specs.declared.message.Prepare.{Prepare}
use Rattle.txn_types.specs.declared.message.Statement.{Statement}
use Rattle.txn_types.specs.declared.message.Vote.{Vote}
use Rattle.txn_types.specs.declared.decision.Decision.{Decision}
use Rattle.txn_types.specs.declared.names.Tag.{Tag}
use Rattle.txn_types.specs.declared.node.Lsid.{Lsid}
use Rattle.txn_types.specs.declared.node.NodeId.{NodeId}
use Rattle.txn_types.specs.declared.write.Write.{Write}
use Rattle.session_table.specs.declared.session.Session.{Session}
use Rattle.session_table.specs.declared.session.SessionState.{SessionState}
use Rattle.session_table.specs.declared.session.SessionState.TheVariants as state
use Rattle.journal_rec.specs.Spelling.{body_bytes, parts_bytes}
use Rattle.journal_rec.specs.Volume.{writes_bytes}
use Rattle.journal_rec.specs.declared.record.Decided.{Decided}
use Rattle.journal_rec.specs.declared.record.Rec.{Rec}
use Rattle.journal_rec.specs.declared.record.Rec.TheVariants as rec
use Rattle.coordinator.specs.TwoPhase.{Coordinated, coordinated_of, decided_by, is_last_ack}
use Rattle.participant.specs.declared.said.Open.{Open}
use Rattle.participant.specs.declared.said.Said.{Said}
use Rattle.participant.specs.declared.said.Said.TheVariants.{Did, Blocked, Refused, Late}
use Rattle.participant.specs.Part.{Part, session, open_of, elsewhere, is_replaced}
use Rattle.participant.specs.Statement.{statement, own_of}
use Rattle.participant.specs.Commit.{Committing, commits_by, commits_writes, commits_open}
use Rattle.participant.specs.Commit.{commits_own, commits_session, commit}
use Rattle.participant.specs.Prepare.{Voting, prepares_by, prepares_open, prepares_own}
use Rattle.participant.specs.Prepare.{prepares_session, prepare}
use Rattle.participant.specs.Decide.{decide}
use Rattle.participant.specs.Expiry.{expire}
use Rattle.participant.proofs.Cases.{either}
use Rattle.shard_core.specs.State.{ShardState, met, with_part, ceiling_of}
use Rattle.shard_core.specs.Ruled.{Ruled, quiet, coordinates}
use Rattle.shard_core.specs.Participating.{answers, decided_record}
use Rattle.shard_core.specs.Coordinating.{asks, unless_coordinated, unless_older, unless_known}
use Rattle.shard_core.specs.Coordinating.{larger_number, starts_own, starts_new, votes_on, votes_if}
use Rattle.shard_core.specs.Coordinating.{acks_if, on_commit_two, on_recover, recovers}
use Rattle.shard_core.specs.Rules.{ruled, from_router, router_of}
use Rattle.shard_core.specs.Wanting.{Wanting, wanting, told_if, told_memory, may_be_told}
use Rattle.shard_core.specs.Core.{Room, Ample, Scarce, Short, CoreStep, core_step, step_if, stepped}
use Rattle.shard_core.specs.Core.{stays, entered, happened, scarce, running_step, stopped_step}
use Rattle.shard_core.specs.Carrying.{IsBounded, carried_by, carried, Carries, IsCarried}
use Rattle.shard_core.proofs.Bounded.{bounded_statement, bounded_commit, bounded_prepare}
use Rattle.shard_core.proofs.Bounded.{bounded_decide, bounded_abort, bounded_recover}
use Rattle.shard_core.proofs.Bounded.{bounded_memory, bounded_expire, bounded_aborted, gone_expired}

-- What commits and prepares carry.

-- the session's live transaction has these writes
abbrev Wrote : Part → Lsid → Rec → Type 0
Wrote p lsid r = (o : Open) × (open_of p lsid ≡ Some o) × (body_bytes r ≡ writes_bytes o.writes)

abbrev Has : Part → Lsid → Option Rec → Type 0
Has p lsid r = IfSome r (Wrote p lsid)

commits_by_has : (p : Part) (last : ℕ) (m : Commit) (s : Session) (o : Open) (at : Option ℕ)
    → open_of p m.lsid ≡ Some o → Has p m.lsid (commits_by p last m s o at).rec
commits_by_has p last m s o None is = tt
commits_by_has p last m s o (Some at) is = (o, is, refl)

writes_have : (p : Part) (last wall : ℕ) (m : Commit) (s : Session) (o : Open) (writes : List Write)
    → open_of p m.lsid ≡ Some o → Has p m.lsid (commits_writes p last wall m s o writes).rec
writes_have p last wall m s o [] is = tt
writes_have p last wall m s o (write ∷ writes) is = commits_by_has p last m s o _ is

open_has : (p : Part) (last wall : ℕ) (m : Commit) (s : Session) (o : Option Open)
    → open_of p m.lsid ≡ o → Has p m.lsid (commits_open p last wall m s o).rec
open_has p last wall m s None is = tt
open_has p last wall m s (Some o) is = writes_have p last wall m s o o.writes is

own_has : (p : Part) (last wall : ℕ) (m : Commit) (s : Session) (st : SessionState)
    → Has p m.lsid (commits_own p last wall m s st).rec
own_has p last wall m s state.Live = either (nat_eq m.boot p.boot) (λ (c : Committing).
    Has p m.lsid c.rec) _ _ (open_has p last wall m s (open_of p m.lsid) refl) tt
own_has p last wall m s (state.Prepared at coordinator) = tt
own_has p last wall m s (state.Committed at) = tt
own_has p last wall m s state.Released = tt
own_has p last wall m s (state.Aborted why read_at) = tt

session_has : (p : Part) (last wall : ℕ) (m : Commit) (s : Option Session)
    → Has p m.lsid (commits_session p last wall m s).rec
session_has p last wall m None = tt
session_has p last wall m (Some s) =
    either (int_lt m.number s.number) (λ (c : Committing). Has p m.lsid c.rec) _ _ tt
    (either (same_tag s.tag m.tag) (λ (c : Committing). Has p m.lsid c.rec) _ _
    (own_has p last wall m s s.state) tt)

commit_has : (p : Part) (last wall : ℕ) (m : Commit) → Has p m.lsid (commit p last wall m).rec
unfolding commit
commit_has p last wall m = session_has p last wall m (session p m.lsid)

prepares_by_has : (p : Part) (last : ℕ) (m : Prepare) (s : Session) (o : Open) (at : Option ℕ)
    → open_of p m.lsid ≡ Some o → Has p m.lsid (prepares_by p last m s o at).rec
prepares_by_has p last m s o None is = tt
prepares_by_has p last m s o (Some at) is = (o, is, refl)

prepares_open_has : (p : Part) (last wall : ℕ) (m : Prepare) (s : Session) (o : Option Open)
    → open_of p m.lsid ≡ o → Has p m.lsid (prepares_open p last wall m s o).rec
prepares_open_has p last wall m s None is = tt
prepares_open_has p last wall m s (Some o) is = prepares_by_has p last m s o _ is

prepares_own_has : (p : Part) (last wall : ℕ) (m : Prepare) (s : Session) (st : SessionState)
    → Has p m.lsid (prepares_own p last wall m s st).rec
prepares_own_has p last wall m s state.Live = either (nat_eq m.boot p.boot) (λ (c : Voting).
    Has p m.lsid c.rec) _ _ (prepares_open_has p last wall m s (open_of p m.lsid) refl) tt
prepares_own_has p last wall m s (state.Prepared at coordinator) = tt
prepares_own_has p last wall m s (state.Committed at) = tt
prepares_own_has p last wall m s state.Released = tt
prepares_own_has p last wall m s (state.Aborted why read_at) = tt

prepares_session_has : (p : Part) (last wall : ℕ) (m : Prepare) (s : Option Session)
    → Has p m.lsid (prepares_session p last wall m s).rec
prepares_session_has p last wall m None = tt
prepares_session_has p last wall m (Some s) =
    either (is_replaced s m.number m.tag) (λ (c : Voting). Has p m.lsid c.rec) _ _ tt
    (either (same_tag s.tag m.tag) (λ (c : Voting). Has p m.lsid c.rec) _ _
    (prepares_own_has p last wall m s s.state) tt)

prepare_has : (p : Part) (last wall : ℕ) (m : Prepare) → Has p m.lsid (prepare p last wall m).rec
unfolding prepare
prepare_has p last wall m = prepares_session_has p last wall m (session p m.lsid)

-- What other messages leave.

-- live transactions stay within their volume, and this holds of the record
record Leaves (P : Rec → Type 0) (r : Ruled) : Type 0 where
  bounded : IsBounded r.core.part
  carries : IfSome r.rec P

-- a record that carries nothing, and one that carries these participants
abbrev Bare : Rec → Type 0
Bare r = body_bytes r ≡ []

abbrev Names : List (ℕ × ℕ) → Rec → Type 0
Names parts r = body_bytes r ≡ parts_bytes parts

-- what the record of a message carries
abbrev Of : Part → Msg → Rec → Type 0
Of p (msg.Commit m) = Wrote p m.lsid
Of p (msg.Prepare m) = Wrote p m.lsid
Of p (msg.CommitTwo m) = Names m.parts
Of p other = Bare

quiet_leaves : (P : Rec → Type 0) (s : ShardState) → IsBounded s.part → Leaves P (quiet s)
quiet_leaves P s b = record { bounded = b; carries = tt }

answers_leave : (P : Rec → Type 0) (s : ShardState) (to : NodeId) (m : Statement) (said : Said)
    → IsBounded s.part → Leaves P (answers s to m said)
answers_leave P s to m (Did read_at reply wrote) b = record { bounded = b; carries = tt }
answers_leave P s to m (Blocked held) b = record { bounded = b; carries = tt }
answers_leave P s to m (Refused why read_at) b = record { bounded = b; carries = tt }
answers_leave P s to m Late b = record { bounded = b; carries = tt }

asks_leave : (P : Rec → Type 0) (s : ShardState) (router : ℕ) (tag : Tag) (c : Coordinated)
    (d : Option Decision) → IsBounded s.part → Leaves P (asks s router tag c d)
asks_leave P s router tag c None b = record { bounded = b; carries = tt }
asks_leave P s router tag c (Some d) b = record { bounded = b; carries = tt }

coordinated_leaves : (P : Rec
    → Type 0) (s : ShardState) (router : ℕ) (tag : Tag) (c : Option Coordinated) (other : Ruled)
    → IsBounded s.part → Leaves P other → Leaves P (unless_coordinated s router tag c other)
coordinated_leaves P s router tag None other b h = h
coordinated_leaves P s router tag (Some c) other b h = asks_leave P s router tag c c.decision b

older_leaves : (P : Rec
    → Type 0) (s : ShardState) (router : ℕ) (tag : Tag) (have : Option ℤ) (other : Ruled)
    → IsBounded s.part → Leaves P other → Leaves P (unless_older s router tag have other)
older_leaves P s router tag None other b h = h
older_leaves P s router tag (Some have) other b h = record { bounded = b; carries = tt }

known_leaves : (P : Rec → Type 0) (s : ShardState) (router : ℕ) (tag : Tag)
    (own : Option Session) (number : ℤ) (other : Ruled) → IsBounded s.part → Leaves P other
    → Leaves P (unless_known s router tag own number other)
known_leaves P s router tag own number other b h =
    older_leaves P s router tag (larger_number own number)
    (unless_coordinated s router tag (coordinated_of s.coord tag) other) b
    (coordinated_leaves P s router tag (coordinated_of s.coord tag) other b h)

starts_own_leaves : (s : ShardState) (router : ℕ) (m : CommitTwo) (own : Session)
    (st : SessionState) → IsBounded s.part → Leaves (Names m.parts) (starts_own s router m own st)
starts_own_leaves s router m own state.Live b =
    either (nat_eq m.boot s.part.boot) (Leaves (Names m.parts)) _ _
    (record { bounded = b; carries = refl })
    (record {
      bounded = bounded_aborted s.part m.lsid own (cause.Unavailable m.boot s.part.boot) b;
      carries = tt;
    })
starts_own_leaves s router m own (state.Prepared at coordinator) b =
    quiet_leaves (Names m.parts) s b
starts_own_leaves s router m own (state.Committed at) b = record { bounded = b; carries = tt }
starts_own_leaves s router m own state.Released b = quiet_leaves (Names m.parts) s b
starts_own_leaves s router m own (state.Aborted why read_at) b =
    record { bounded = b; carries = tt }

starts_new_leaves : (s : ShardState) (router : ℕ) (m : CommitTwo) (own : Option Session)
    → IsBounded s.part → Leaves (Names m.parts) (starts_new s router m own)
starts_new_leaves s router m None b = record { bounded = b; carries = tt }
starts_new_leaves s router m (Some own) b = either (same_tag own.tag m.tag) (Leaves (Names m.parts))
    _ _ (starts_own_leaves s router m own own.state b) (record { bounded = b; carries = tt })

votes_on_leave : (s : ShardState) (m : Vote) (c : Coordinated) (d : Option Decision)
    → IsBounded s.part → Leaves Bare (votes_on s m c d)
votes_on_leave s m c None b = record { bounded = b; carries = tt }
votes_on_leave s m c (Some d) b = record { bounded = b; carries = refl }

votes_leave : (s : ShardState) (m : Vote) (c : Option Coordinated) → IsBounded s.part
    → Leaves Bare (votes_if s m c)
votes_leave s m None b = quiet_leaves Bare s b
votes_leave s m (Some c) b = votes_on_leave s m c (decided_by m.shard m.vote c) b

ack_carries : (tag : Tag) (test : Bool)
    → IfSome (if test then Some (rec.CoordEnd tag) else None) Bare
ack_carries tag true = refl
ack_carries tag false = tt

acks_leave : (s : ShardState) (m : Acked) (c : Option Coordinated) → IsBounded s.part
    → Leaves Bare (acks_if s m c)
acks_leave s m None b = quiet_leaves Bare s b
acks_leave s m (Some c) b =
    record { bounded = b; carries = ack_carries m.tag (is_last_ack m.shard c) }

decided_carries : (d : Option Decided) → IfSome (decided_record d) Bare
decided_carries None = tt
decided_carries (Some d) = refl

router_leaves : (P : Rec → Type 0) (s : ShardState) (rule : ℕ → Ruled) (router : Option ℕ)
    → IsBounded s.part → ((n : ℕ) → Leaves P (rule n)) → Leaves P (from_router s rule router)
router_leaves P s rule None b h = quiet_leaves P s b
router_leaves P s rule (Some router) b h = h router

ruled_leaves : (s : ShardState) (from : NodeId) (m : Msg) → IsBounded s.part
    → Leaves (Of s.part m) (ruled s from m)
ruled_leaves s from (msg.Statement m) b =
    let turn = statement s.part s.clock.last s.wall m in
    either (elsewhere s.part m.lsid m.tag) (Leaves Bare) _ _ (quiet_leaves Bare s b) (answers_leave
    Bare (with_part s turn.1) from m turn.0 (bounded_statement s.part s.clock.last s.wall m b))
ruled_leaves s from (msg.Answer m) b = quiet_leaves Bare s b
ruled_leaves s from (msg.Commit m) b = record {
  bounded = bounded_commit s.part s.clock.last s.wall m b;
  carries = commit_has s.part s.clock.last s.wall m;
}
ruled_leaves s from (msg.Outcome m) b = quiet_leaves Bare s b
ruled_leaves s from (msg.Abort m) b = either (coordinates s m.tag) (Leaves Bare) _ _
    (quiet_leaves Bare s b) (record { bounded = bounded_abort s.part m b; carries = tt })
ruled_leaves s from (msg.CommitTwo m) b =
    router_leaves (Names m.parts) s (λ router. on_commit_two s router m) (router_of from) b
    (λ router. known_leaves (Names m.parts) s router m.tag (session s.part m.lsid) m.number _ b
    (starts_new_leaves s router m (session s.part m.lsid) b))
ruled_leaves s from (msg.Prepare m) b = record {
  bounded = bounded_prepare s.part s.clock.last s.wall m b;
  carries = prepare_has s.part s.clock.last s.wall m;
}
ruled_leaves s from (msg.Vote m) b = votes_leave s m (coordinated_of s.coord m.tag) b
ruled_leaves s from (msg.Decide m) b =
    record { bounded = bounded_decide s.part m b; carries = decided_carries (decide s.part m).0 }
ruled_leaves s from (msg.Acked m) b = acks_leave s m (coordinated_of s.coord m.tag) b
ruled_leaves s from (msg.Recover m) b =
    router_leaves Bare s (λ router. on_recover s router m) (router_of from) b
    (λ router. known_leaves Bare s router m.tag (session s.part m.lsid) m.number
    (recovers s router m) b (record { bounded = bounded_recover s.part m b; carries = tt }))
ruled_leaves s from msg.Nudge b = record { bounded = b; carries = tt }

-- The step.

-- what an event's record carries
abbrev Given : Part → Happening → Rec → Type 0
Given p (what.Deliver e) = Of p e.msg
Given p other = Bare

record Stepped (p : Part) (h : Happening) (o : CoreStep) : Type 0 where
  bounded : IsBounded o.core.part
  carries : IfSome o.rec (Given p h)

delivered_step : (s : ShardState) (e : Envelope) (r : Ruled) → Leaves (Of s.part e.msg) r
    → Stepped s.part (what.Deliver e) (stepped (ceiling_of s e) r)
delivered_step s e r l = record { bounded = l.bounded; carries = l.carries }

happened_step : (s : ShardState) (h : Happening) → IsBounded s.part
    → Stepped s.part h (happened s h)
happened_step s (what.Client conn frame) b = record { bounded = b; carries = tt }
happened_step s (what.Gone conn) b = record { bounded = b; carries = tt }
happened_step s (what.Deliver e) b =
    delivered_step s e (ruled (met s e) e.from e.msg) (ruled_leaves (met s e) e.from e.msg b)
happened_step s what.Resend b = record { bounded = b; carries = tt }
happened_step s what.Moment b = record { bounded = b; carries = tt }

abbrev Each : Part → Happening → Option CoreStep → Type 0
Each p h None = Unit {0}
Each p h (Some o) = Stepped p h o

told_step : (s : ShardState) (e : Envelope) (w : Option Wanting) → IsBounded s.part → Each s.part
    (what.Deliver e) (option_map (stepped (ceiling_of s e)) (option_and_then (told_if (met s e)) w))
told_step s e None b = tt
told_step s e (Some wanting) b =
    either (may_be_told (met s e) wanting) (λ (r : Option Ruled). Each s.part (what.Deliver e)
    (option_map (stepped (ceiling_of s e)) r)) (Some (told_memory (met s e) wanting)) None
    (record { bounded = bounded_memory s.part wanting.lsid wanting.tag b; carries = tt }) tt

scarce_step : (s : ShardState) (h : Happening) → IsBounded s.part → Each s.part h (scarce s h)
scarce_step s (what.Client conn frame) b = tt
scarce_step s (what.Gone conn) b = tt
scarce_step s (what.Deliver e) b = told_step s e (wanting (met s e) e.from e.msg) b
scarce_step s what.Resend b = tt
scarce_step s what.Moment b = tt

-- what is there after the expiry was there before it

wrote_before : (p : Part) (wall : ℕ) (lsid : Lsid) (r : Rec) → IsBounded p
    → Wrote (expire p wall) lsid r → body_bytes r ≡ writes_bytes (own_of (open_of p lsid))
wrote_before p wall lsid r b w = w.2
    ∙ ap (λ (x : Option Open). writes_bytes (own_of x)) (sym (gone_expired p wall lsid w.0 b w.1))

message_before : (p : Part) (wall : ℕ) (m : Msg) (r : Rec) → IsBounded p → Of (expire p wall) m r
    → (body_bytes r ≡ []) ⊎ (body_bytes r ≡ carried_by p m)
message_before p wall (msg.Statement m) r b h = inl h
message_before p wall (msg.Answer m) r b h = inl h
message_before p wall (msg.Commit m) r b h = inr (wrote_before p wall m.lsid r b h)
message_before p wall (msg.Outcome m) r b h = inl h
message_before p wall (msg.Abort m) r b h = inl h
message_before p wall (msg.CommitTwo m) r b h = inr h
message_before p wall (msg.Prepare m) r b h = inr (wrote_before p wall m.lsid r b h)
message_before p wall (msg.Vote m) r b h = inl h
message_before p wall (msg.Decide m) r b h = inl h
message_before p wall (msg.Acked m) r b h = inl h
message_before p wall (msg.Recover m) r b h = inl h
message_before p wall msg.Nudge r b h = inl h

event_before : (p : Part) (wall : ℕ) (h : Happening) (r : Rec) → IsBounded p
    → Given (expire p wall) h r → (body_bytes r ≡ []) ⊎ (body_bytes r ≡ carried p h)
event_before p wall (what.Client conn frame) r b g = inl g
event_before p wall (what.Gone conn) r b g = inl g
event_before p wall (what.Deliver e) r b g = message_before p wall e.msg r b g
event_before p wall what.Resend r b g = inl g
event_before p wall what.Moment r b g = inl g

record_before : (p : Part) (wall : ℕ) (h : Happening) (r : Option Rec) → IsBounded p
    → IfSome r (Given (expire p wall) h) → Carries (carried p h) r
record_before p wall h None b g = tt
record_before p wall h (Some r) b g = event_before p wall h r b g

carried_on : (s : ShardState) (e : NodeEvent) (o : CoreStep) → IsBounded s.part
    → Stepped (entered s e).part e.what o → IsCarried s e.what o
carried_on s e o b t = record {
  bounded = t.bounded;
  carries = record_before s.part (max s.wall e.wall) e.what o.rec b t.carries;
}

unless_short : (s : ShardState) (e : NodeEvent) (o : Option CoreStep) (other : CoreStep)
    → IsBounded s.part → Each (entered s e).part e.what o → IsCarried s e.what other
    → IsCarried s e.what (unwrap_or o other)
unless_short s e None other b x y = y
unless_short s e (Some o) other b x y = carried_on s e o b x

rests : (s : ShardState) (h : Happening) (a : NodeAnswer) → IsBounded s.part
    → IsCarried s h (stays s a)
rests s h a b = record { bounded = b; carries = tt }

runs : (room : Room) (s : ShardState) (e : NodeEvent) → IsBounded s.part
    → IsCarried s e.what (running_step room s e)
runs Ample s e b = carried_on s e (happened (entered s e) e.what) b (happened_step (entered s e)
    e.what (bounded_expire s.part (max s.wall e.wall) b))
runs Scarce s e b =
    unless_short s e (scarce (entered s e) e.what) (stays s answer.Memory) b (scarce_step (entered s
    e) e.what (bounded_expire s.part (max s.wall e.wall) b)) (rests s e.what answer.Memory b)
runs Short s e b = rests s e.what _ b

stops : (room : Room) (s : ShardState) (faults : ℕ) (e : NodeEvent) → IsBounded s.part
    → IsCarried s e.what (stopped_step room s faults e)
stops Ample s faults e b = rests s e.what _ b
stops Scarce s faults e b = rests s e.what _ b
stops Short s faults e b = rests s e.what _ b

steps : (room : Room) (s : ShardState) (e : NodeEvent) (stopped : Option ℕ) → IsBounded s.part
    → IsCarried s e.what (step_if room s e stopped)
steps room s e None b = runs room s e b
steps room s e (Some faults) b = stops room s faults e b

pub step_carries : (room : Room) (s : ShardState) (e : NodeEvent) → IsBounded s.part
    → IsCarried s e.what (core_step room s e)
unfolding core_step
step_carries room s e b = steps room s e s.stopped b
