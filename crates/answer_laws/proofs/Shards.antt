-- A shard sends no statement and no commit.
use Rattle.std.proofs.Common.{inl, inr, ℕ, ℤ, All, List, [], ◌∷◌, Option, Some, None, option_map}
use Rattle.std.proofs.Common.{option_and_then, unwrap_or, is_some, Result, Err, nat_eq, sym, subst}
use Rattle.std.proofs.lemmas.List.Elements.{All-nil, All-append, All-map}
use Rattle.txn_types.specs.Letters.{Letter, sent_by, given_out}
use Rattle.txn_types.specs.Order.{same_tag}
use Rattle.txn_types.specs.declared.cause.Cause.{Cause}
use Rattle.txn_types.specs.declared.cause.Cause.TheVariants as cause
use Rattle.txn_types.specs.declared.decision.Decision.{Decision}
use Rattle.txn_types.specs.declared.decision.Told.{Told}
use Rattle.txn_types.specs.declared.event.Happening.{Happening}
use Rattle.txn_types.specs.declared.event.Happening.TheVariants as what
use Rattle.txn_types.specs.declared.event.NodeAnswer.{NodeAnswer}
use Rattle.txn_types.specs.declared.event.NodeAnswer.TheVariants as answer
use Rattle.txn_types.specs.declared.event.NodeEvent.{NodeEvent}
use Rattle.txn_types.specs.declared.message.Acked.{Acked}
use Rattle.txn_types.specs.declared.message.CommitTwo.{CommitTwo}
use Rattle.txn_types.specs.declared.message.Envelope.{Envelope}
use Rattle.txn_types.specs.declared.message.Msg.{Msg}
use Rattle.txn_types.specs.declared.message.Msg.TheVariants as msg
use Rattle.txn_types.specs.declared.message.Prepare.{Prepare}
use Rattle.txn_types.specs.declared.message.Statement.{Statement}
use Rattle.txn_types.specs.declared.message.Vote.{Vote}
use Rattle.txn_types.specs.declared.names.Tag.{Tag}
use Rattle.txn_types.specs.declared.node.NodeId.{NodeId}
use Rattle.txn_types.specs.declared.node.NodeId.TheVariants.{Shard}
use Rattle.version_store.specs.declared.version.Held.{Held}
use Rattle.session_table.specs.declared.session.Session.{Session}
use Rattle.session_table.specs.declared.session.SessionState.{SessionState}
use Rattle.session_table.specs.declared.session.SessionState.TheVariants as state
use Rattle.coordinator.specs.TwoPhase.{Coordinated, Coordinations, coordinated_of, decided_by}
use Rattle.coordinator.specs.TwoPhase.{resends, resends_by}
use Rattle.participant.specs.Part.{Part, session, elsewhere}
use Rattle.participant.specs.Statement.{statement}
use Rattle.participant.specs.declared.said.Said.{Said}
use Rattle.participant.specs.declared.said.Said.TheVariants.{Did, Blocked, Refused, Late}
use Rattle.participant.proofs.Cases.{either}
use Rattle.shard_core.specs.State.{ShardState, met, ceiling_of, with_part}
use Rattle.shard_core.specs.Ruled.{Ruled, coordinates}
use Rattle.shard_core.specs.Participating as participating
use Rattle.shard_core.specs.Participating.{answers, outcome_if, vote_if}
use Rattle.shard_core.specs.Coordinating.{asks, starts, unless_coordinated, unless_older}
use Rattle.shard_core.specs.Coordinating.{unless_known, larger_number, starts_own, starts_new}
use Rattle.shard_core.specs.Coordinating.{votes_on, votes_if, acks_if, on_commit_two, on_recover}
use Rattle.shard_core.specs.Coordinating.{recovers}
use Rattle.shard_core.specs.Rules.{ruled, from_router, router_of}
use Rattle.shard_core.specs.Wanting.{wanting, Wanting, told_if, told_memory, may_be_told}
use Rattle.shard_core.specs.Core.{Room, Ample, Scarce, Short, CoreStep, core_step, step_if, stepped}
use Rattle.shard_core.specs.Core.{stays, entered, happened, scarce, running_step, stopped_step}
use Rattle.shard_core.specs.Core.{answer_stopped, says_stopped, gives_out, answer_of}
use Rattle.shard_core.specs.NodeStep.{NodeState, ShardTakes}
use Rattle.world_laws.proofs.Naming.{one, each}

-- no statement and no commit
abbrev pub Other : Msg → Type 0
Other (msg.Statement m) = ⊥
Other (msg.Commit m) = ⊥
Other other = Unit {0}

abbrev L : Letter → Type 0
L l = Other l.1

abbrev Sends : Ruled → Type 0
Sends r = All L r.out

abbrev pub E : Envelope → Type 0
E e = Other e.msg

none : All L []
none = All-nil L

answers_other : (s : ShardState) (p : Part) (to : NodeId) (m : Statement) (said : Said)
    → Sends (answers (with_part s p) to m said)
answers_other s p to m (Did read_at reply wrote) = one L _ tt
answers_other s p to m (Blocked held) = none
answers_other s p to m (Refused why read_at) = one L _ tt
answers_other s p to m Late = none

outcome_other : (s : ShardState) (tag : Tag) (to : NodeId) (t : Option Told)
    → All L (outcome_if s tag to t)
outcome_other s tag to None = none
outcome_other s tag to (Some t) = one L _ tt

vote_other : (s : ShardState) (m : Prepare) (v : Option (Result ℕ Cause)) → All L (vote_if s m v)
vote_other s m None = none
vote_other s m (Some vote) = one L _ tt

asks_other : (s : ShardState) (router : ℕ) (tag : Tag) (c : Coordinated) (d : Option Decision)
    → Sends (asks s router tag c d)
asks_other s router tag c None = none
asks_other s router tag c (Some d) = one L _ tt

coordinated_other : (s : ShardState) (router : ℕ) (tag : Tag) (c : Option Coordinated)
    (other : Ruled) → Sends other → Sends (unless_coordinated s router tag c other)
coordinated_other s router tag None other h = h
coordinated_other s router tag (Some c) other h = asks_other s router tag c c.decision

older_other : (s : ShardState) (router : ℕ) (tag : Tag) (have : Option ℤ) (other : Ruled)
    → Sends other → Sends (unless_older s router tag have other)
older_other s router tag None other h = h
older_other s router tag (Some have) other h = one L _ tt

known_other : (s : ShardState) (router : ℕ) (tag : Tag) (own : Option Session) (number : ℤ)
    (other : Ruled) → Sends other → Sends (unless_known s router tag own number other)
known_other s router tag own number other h =
    older_other s router tag (larger_number own number)
    (unless_coordinated s router tag (coordinated_of s.coord tag) other)
    (coordinated_other s router tag (coordinated_of s.coord tag) other h)

starts_other : (s : ShardState) (router : ℕ) (m : CommitTwo) → Sends (starts s router m)
starts_other s router m = each L _ m.parts (λ x. tt)

starts_own_other : (s : ShardState) (router : ℕ) (m : CommitTwo) (own : Session) (st : SessionState)
    → Sends (starts_own s router m own st)
starts_own_other s router m own state.Live =
    either (nat_eq m.boot s.part.boot) Sends _ _ (starts_other s router m) (one L _ tt)
starts_own_other s router m own (state.Prepared at coordinator) = none
starts_own_other s router m own (state.Committed at) = one L _ tt
starts_own_other s router m own state.Released = none
starts_own_other s router m own (state.Aborted why read_at) = one L _ tt

starts_new_other : (s : ShardState) (router : ℕ) (m : CommitTwo) (own : Option Session)
    → Sends (starts_new s router m own)
starts_new_other s router m None = one L _ tt
starts_new_other s router m (Some own) = either (same_tag own.tag m.tag) Sends _ _
    (starts_own_other s router m own own.state) (one L _ tt)

votes_on_other : (s : ShardState) (m : Vote) (c : Coordinated) (d : Option Decision)
    → Sends (votes_on s m c d)
votes_on_other s m c None = none
votes_on_other s m c (Some d) =
    All-append L _ _ (each L _ c.askers (λ x. tt)) (each L _ c.plan.parts (λ x. tt))

votes_other : (s : ShardState) (m : Vote) (c : Option Coordinated) → Sends (votes_if s m c)
votes_other s m None = none
votes_other s m (Some c) = votes_on_other s m c (decided_by m.shard m.vote c)

acks_other : (s : ShardState) (m : Acked) (c : Option Coordinated) → Sends (acks_if s m c)
acks_other s m None = none
acks_other s m (Some c) = none

router_other : (rule : ℕ → Ruled) (s : ShardState) (router : Option ℕ) → ((n : ℕ) → Sends (rule n))
    → Sends (from_router s rule router)
router_other rule s None h = none
router_other rule s (Some router) h = h router

resends_by_other : (own : ℕ) (tag : Tag) (c : Coordinated) (d : Option Decision)
    → All L (resends_by own tag c d)
resends_by_other own tag c None = each L _ _ (λ x. tt)
resends_by_other own tag c (Some d) = each L _ _ (λ x. tt)

resends_other : (own : ℕ) (coords : Coordinations) → All L (resends own coords)
resends_other own [] = none
resends_other own (entry ∷ coords) =
    All-append L (resends_by own entry.0 entry.1 entry.1.decision) (resends own coords)
    (resends_by_other own entry.0 entry.1 entry.1.decision) (resends_other own coords)

ruled_other : (s : ShardState) (from : NodeId) (m : Msg) → Sends (ruled s from m)
ruled_other s from (msg.Statement m) =
    let turn = statement s.part s.clock.last s.wall m in
    either (elsewhere s.part m.lsid m.tag) Sends _ _ none (answers_other s turn.1 from m turn.0)
ruled_other s from (msg.Answer m) = none
ruled_other s from (msg.Commit m) = outcome_other s m.tag from _
ruled_other s from (msg.Outcome m) = none
ruled_other s from (msg.Abort m) = either (coordinates s m.tag) Sends _ _ none none
ruled_other s from (msg.CommitTwo m) =
    router_other (λ router. on_commit_two s router m) s (router_of from)
    (λ router. known_other s router m.tag (session s.part m.lsid) m.number _
    (starts_new_other s router m (session s.part m.lsid)))
ruled_other s from (msg.Prepare m) = vote_other s m _
ruled_other s from (msg.Vote m) = votes_other s m (coordinated_of s.coord m.tag)
ruled_other s from (msg.Decide m) = one L _ tt
ruled_other s from (msg.Acked m) = acks_other s m (coordinated_of s.coord m.tag)
ruled_other s from (msg.Recover m) =
    router_other (λ router. on_recover s router m) s (router_of from) (λ router. known_other s
    router m.tag (session s.part m.lsid) m.number (recovers s router m) (one L _ tt))
ruled_other s from msg.Nudge = resends_other s.part.shard s.coord

-- A step.

abbrev Gives : CoreStep → Type 0
Gives o = All E (given_out o.answer)

gives : (s : ShardState) (out : List Letter) → All L out → All E (given_out (gives_out s out))
gives s out h = All-map E (sent_by (Shard s.part.shard) s.clock.last) out h

answer_gives : (s : ShardState) (out : List Letter) (h : Option Held) → All L out
    → All E (given_out (answer_of s out h))
answer_gives s out None h = gives s out h
answer_gives s out (Some held) h = All-nil E

stepped_gives : (c : Option ℕ) (r : Ruled) → Sends r → Gives (stepped c r)
stepped_gives c r h = answer_gives r.core r.out r.held h

happens : (s : ShardState) (w : Happening) → Gives (happened s w)
happens s (what.Client conn frame) = All-nil E
happens s (what.Gone conn) = All-nil E
happens s (what.Deliver sent) = stepped_gives (ceiling_of s sent) (ruled (met s sent) sent.from
    sent.msg) (ruled_other (met s sent) sent.from sent.msg)
happens s what.Resend = gives s _ (resends_other s.part.shard s.coord)
happens s what.Moment = All-nil E

abbrev WantsOther : Option Wanting → Type 0
WantsOther None = Unit {0}
WantsOther (Some w) = L w.letter

wants : (s : ShardState) (from : NodeId) (m : Msg) → WantsOther (wanting s from m)
wants s from (msg.Statement m) = either (elsewhere s.part m.lsid m.tag) WantsOther _ _ tt tt
wants s from (msg.Answer m) = tt
wants s from (msg.Commit m) = tt
wants s from (msg.Outcome m) = tt
wants s from (msg.Abort m) = tt
wants s from (msg.CommitTwo m) = either (is_some (router_of from)) WantsOther _ _ tt tt
wants s from (msg.Prepare m) = tt
wants s from (msg.Vote m) = tt
wants s from (msg.Decide m) = tt
wants s from (msg.Acked m) = tt
wants s from (msg.Recover m) = either (is_some (router_of from)) WantsOther _ _ tt tt
wants s from msg.Nudge = tt

abbrev EachGives : Option CoreStep → Type 0
EachGives None = Unit {0}
EachGives (Some o) = Gives o

told_gives : (s : ShardState) (sent : Envelope) (w : Option Wanting) → WantsOther w → EachGives
    (option_map (stepped (ceiling_of s sent)) (option_and_then (told_if (met s sent)) w))
told_gives s sent None h = tt
told_gives s sent (Some w) h =
    either (may_be_told (met s sent) w) (λ (r : Option Ruled). EachGives
    (option_map (stepped (ceiling_of s sent)) r)) (Some (told_memory (met s sent) w)) None
    (stepped_gives (ceiling_of s sent) (told_memory (met s sent) w) (one L w.letter h)) tt

scarce_gives : (s : ShardState) (w : Happening) → EachGives (scarce s w)
scarce_gives s (what.Client conn frame) = tt
scarce_gives s (what.Gone conn) = tt
scarce_gives s (what.Deliver sent) = told_gives s sent (wanting (met s sent) sent.from sent.msg)
    (wants (met s sent) sent.from sent.msg)
scarce_gives s what.Resend = tt
scarce_gives s what.Moment = tt

unless_short : (o : Option CoreStep) → EachGives o → (other : CoreStep) → Gives other
    → Gives (unwrap_or o other)
unless_short None h other k = k
unless_short (Some o) h other k = h

runs : (room : Room) (s : ShardState) (e : NodeEvent) → Gives (running_step room s e)
runs Ample s e = happens (entered s e) e.what
runs Scarce s e = unless_short (scarce (entered s e) e.what) (scarce_gives (entered s e) e.what)
    (stays s answer.Memory) (All-nil E)
runs Short s e = All-nil E

says : (s : ShardState) (faults : ℕ) (from : NodeId) (m : Msg)
    → All E (given_out (says_stopped s faults from m))
says s faults from (msg.Statement m) = let l : Letter =
    participating.answer s from m 0 (Err (cause.Faulted faults)) in gives s (l ∷ []) (one L l tt)
says s faults from other = All-nil E

stopped_gives : (s : ShardState) (faults : ℕ) (w : Happening)
    → All E (given_out (answer_stopped s faults w))
stopped_gives s faults (what.Deliver e) = says s faults e.from e.msg
stopped_gives s faults other = All-nil E

stops : (room : Room) (s : ShardState) (faults : ℕ) (e : NodeEvent)
    → Gives (stopped_step room s faults e)
stops Ample s faults e = stopped_gives s faults e.what
stops Scarce s faults e = All-nil E
stops Short s faults e = All-nil E

steps : (room : Room) (s : ShardState) (e : NodeEvent) (stopped : Option ℕ)
    → Gives (step_if room s e stopped)
steps room s e None = runs room s e
steps room s e (Some faults) = stops room s faults e

step_gives : (room : Room) (s : ShardState) (e : NodeEvent) → Gives (core_step room s e)
unfolding core_step
step_gives room s e = steps room s e s.stopped

pub takes_gives : (old : NodeState) (e : NodeEvent) (a : NodeAnswer) (new : NodeState)
    → ShardTakes old e a new → All E (given_out a)
takes_gives old e a new h = elim (h.1) [
  | inl d ↦ subst (λ (a : NodeAnswer). All E (given_out a)) (sym d.told) (step_gives h.0 old.core e)
  | inr d ↦ subst (λ (a : NodeAnswer). All E (given_out a)) (sym d.told) (All-nil E)
]
