-- A shard's step: what it sends of lost transactions names two boots.
use Rattle.std.proofs.Common.{◌≡◌, ℕ, ℤ, Bool, true, false, max, nat_eq, int_lt, map, All}
use Rattle.std.proofs.Common.{List, [], ◌∷◌, Option, Some, None, option_map, option_and_then}
use Rattle.std.proofs.Common.{unwrap_or, IfSome, is_some, Result, Err, refl}
use Rattle.std.proofs.Common.{if◌then◌else◌}
use Rattle.std.proofs.lemmas.List.Elements.{All-nil, All-append, All-map}
use Rattle.txn_types.specs.Letters.{Letter, sent_by}
use Rattle.txn_types.specs.Order.{same_tag}
use Rattle.txn_types.specs.declared.cause.Cause.{Cause}
use Rattle.txn_types.specs.declared.cause.Cause.TheVariants as cause
use Rattle.txn_types.specs.declared.decision.Decision.{Decision}
use Rattle.txn_types.specs.declared.decision.Decision.TheVariants as decision
use Rattle.txn_types.specs.declared.decision.Told.{Told}
use Rattle.txn_types.specs.declared.decision.Told.TheVariants as told
use Rattle.txn_types.specs.declared.event.Happening.{Happening}
use Rattle.txn_types.specs.declared.event.Happening.TheVariants as what
use Rattle.txn_types.specs.declared.event.NodeAnswer.TheVariants as answer
use Rattle.txn_types.specs.declared.event.NodeEvent.{NodeEvent}
use Rattle.txn_types.specs.declared.message.Acked.{Acked}
use Rattle.txn_types.specs.declared.message.CommitTwo.{CommitTwo}
use Rattle.txn_types.specs.declared.message.Msg.{Msg}
use Rattle.txn_types.specs.declared.message.Msg.TheVariants as msg
use Rattle.txn_types.specs.declared.message.Prepare.{Prepare}
use Rattle.txn_types.specs.declared.message.Statement.{Statement}
use Rattle.txn_types.specs.declared.message.Vote.{Vote}
use Rattle.txn_types.specs.declared.names.Tag.{Tag}
use Rattle.txn_types.specs.declared.node.NodeId.{NodeId}
use Rattle.txn_types.specs.declared.node.NodeId.TheVariants.{Shard}
use Rattle.session_table.specs.declared.session.Session.{Session}
use Rattle.session_table.specs.declared.session.SessionState.{SessionState}
use Rattle.session_table.specs.declared.session.SessionState.TheVariants as state
use Rattle.version_store.specs.declared.version.Held.{Held}
use Rattle.coordinator.specs.declared.plan.Plan.{Plan}
use Rattle.coordinator.specs.TwoPhase.{Coordinated, Coordinations, coordinated_of, decided_by}
use Rattle.coordinator.specs.TwoPhase.{prepare_to, decide_to, resends, resends_by}
use Rattle.participant.specs.declared.said.Said.{Said}
use Rattle.participant.specs.declared.said.Said.TheVariants.{Did, Blocked, Refused, Late}
use Rattle.participant.specs.Part.{Part, session, elsewhere, aborted}
use Rattle.participant.specs.Abort.{abort}
use Rattle.participant.specs.Expiry.{expire}
use Rattle.participant.specs.Recover.{recover}
use Rattle.participant.specs.Statement.{statement}
use Rattle.participant.proofs.Cases.{either}
use Rattle.shard_core.specs.State.{ShardState, met, ceiling_of, with_part}
use Rattle.shard_core.specs.Ruled.{Ruled, quiet, coordinates}
use Rattle.shard_core.specs.Participating as participating
use Rattle.shard_core.specs.Participating.{answers, outcome_if, vote_if}
use Rattle.shard_core.specs.Coordinating.{asks, tells, starts, fails, is_lost, plan_of, told_of}
use Rattle.shard_core.specs.Coordinating.{unless_coordinated, unless_older, unless_known}
use Rattle.shard_core.specs.Coordinating.{larger_number, starts_own, starts_new, votes_on, votes_if}
use Rattle.shard_core.specs.Coordinating.{acks_if, on_commit_two, on_recover, recovers}
use Rattle.shard_core.specs.Rules.{ruled, from_router, router_of}
use Rattle.shard_core.specs.Wanting.{wanting, Wanting, told_if, told_memory, may_be_told}
use Rattle.shard_core.specs.Core.{Room, Ample, Scarce, Short, CoreStep, core_step, step_if, stepped}
use Rattle.shard_core.specs.Core.{stays, entered, happened, scarce, running_step, stopped_step}
use Rattle.shard_core.specs.Core.{answer_stopped, says_stopped, gives_out, answer_of}
use Rattle.txn_types.specs.Letters.{given_out}
use Rattle.world_laws.proofs.Naming.{one, each}
use Rattle.lost_laws.specs.Lost.{Refuses, ToldApart, MsgApart, EnvApart, StateApart}
use Rattle.lost_laws.specs.Lost.{PartApart}
use Rattle.lost_laws.proofs.Causes.{Comes, TurnApart, state_apart, aborted_apart, by_boots}
use Rattle.lost_laws.proofs.Causes.{no_session, other_tag, statement_apart, expire_apart}
use Rattle.lost_laws.proofs.Causes.{expire_comes, memory_apart, abort_apart, recover_apart}
use Rattle.lost_laws.proofs.Causes.{decide_apart, commit_apart, prepare_apart}

abbrev LetterApart : Letter → Type 0
LetterApart l = MsgApart l.1

-- what a rule leaves and sends
record RuledApart (r : Ruled) : Type 0 where
  part : PartApart r.core.part
  out : All LetterApart r.out

none : All LetterApart []
none = All-nil LetterApart

quiet_apart : (s : ShardState) → PartApart s.part → RuledApart (quiet s)
quiet_apart s h = record { part = h; out = none }

tells_apart : (s : ShardState) (router : ℕ) (tag : Tag) (t : Told) → ToldApart t → PartApart s.part
    → RuledApart (tells s router tag t)
tells_apart s router tag t w h = record { part = h; out = one LetterApart _ w }

answers_apart : (s : ShardState) (q : Part) (to : NodeId) (m : Statement) (said : Said)
    → TurnApart (said, q) → RuledApart (answers (with_part s q) to m said)
answers_apart s q to m (Did at reply wrote) k = record { part = k.1; out = one LetterApart _ tt }
answers_apart s q to m (Blocked held) k = record { part = k.1; out = none }
answers_apart s q to m (Refused why at) k = record { part = k.1; out = one LetterApart _ k.0 }
answers_apart s q to m Late k = record { part = k.1; out = none }

outcome_apart : (s : ShardState) (tag : Tag) (to : NodeId) (t : Option Told) → IfSome t ToldApart
    → All LetterApart (outcome_if s tag to t)
outcome_apart s tag to None w = none
outcome_apart s tag to (Some t) w = one LetterApart _ w

vote_apart : (s : ShardState) (m : Prepare) (v : Option (Result ℕ Cause))
    → IfSome v (λ vote. Refuses vote) → All LetterApart (vote_if s m v)
vote_apart s m None w = none
vote_apart s m (Some vote) w = one LetterApart _ w

-- The coordinator.

told_apart : (d : Decision) → ToldApart (told_of d)
told_apart (decision.Commit at) = tt
told_apart (decision.Abort shard code) = tt

asks_apart : (s : ShardState) (router : ℕ) (tag : Tag) (c : Coordinated) (d : Option Decision)
    → PartApart s.part → RuledApart (asks s router tag c d)
asks_apart s router tag c None h = record { part = h; out = none }
asks_apart s router tag c (Some d) h = tells_apart s router tag (told_of d) (told_apart d) h

coordinated_apart : (s : ShardState) (router : ℕ) (tag : Tag)
    (c : Option Coordinated) (other : Ruled) → PartApart s.part → RuledApart other
    → RuledApart (unless_coordinated s router tag c other)
coordinated_apart s router tag None other h k = k
coordinated_apart s router tag (Some c) other h k = asks_apart s router tag c c.decision h

older_apart : (s : ShardState) (router : ℕ) (tag : Tag) (have : Option ℤ) (other : Ruled)
    → PartApart s.part → (have ≡ None → RuledApart other)
    → RuledApart (unless_older s router tag have other)
older_apart s router tag None other h k = k refl
older_apart s router tag (Some have) other h k = tells_apart s router tag (told.TooOld have) tt h

known_apart : (s : ShardState) (router : ℕ) (tag : Tag) (has : Option Session) (number : ℤ)
    (other : Ruled) → PartApart s.part → (larger_number has number ≡ None → RuledApart other)
    → RuledApart (unless_known s router tag has number other)
known_apart s router tag has number other h k =
    older_apart s router tag (larger_number has number)
    (unless_coordinated s router tag (coordinated_of s.coord tag) other) h
    (λ low. coordinated_apart s router tag (coordinated_of s.coord tag) other h (k low))

prepares_apart : (own : ℕ) (tag : Tag) (plan : Plan) (parts : List (ℕ × ℕ))
    → All LetterApart (map (prepare_to own tag plan) parts)
prepares_apart own tag plan parts = each LetterApart (prepare_to own tag plan) parts (λ x. tt)

decides_apart : (tag : Tag) (plan : Plan) (d : Decision) (parts : List (ℕ × ℕ))
    → All LetterApart (map (decide_to tag plan d) parts)
decides_apart tag plan d parts = each LetterApart (decide_to tag plan d) parts (λ x. tt)

starts_own_apart : (s : ShardState) (router : ℕ) (m : CommitTwo) (own : Session) (st : SessionState)
    → StateApart st → PartApart s.part → RuledApart (starts_own s router m own st)
starts_own_apart s router m own state.Live w h =
    by_boots RuledApart m.boot s.part.boot (starts s router m) (fails s router m own
    (cause.Unavailable m.boot s.part.boot)) (nat_eq m.boot s.part.boot) refl
    (record { part = h; out = prepares_apart s.part.shard m.tag (plan_of m) m.parts })
    (λ apart. tells_apart (with_part s (aborted s.part m.lsid own (cause.Unavailable m.boot
    s.part.boot))) router m.tag (told.Aborted (cause.Unavailable m.boot s.part.boot)) apart
    (aborted_apart s.part m.lsid own (cause.Unavailable m.boot s.part.boot) apart h))
starts_own_apart s router m own (state.Prepared at coordinator) w h = quiet_apart s h
starts_own_apart s router m own (state.Committed at) w h =
    tells_apart s router m.tag (told.Committed at) tt h
starts_own_apart s router m own state.Released w h = quiet_apart s h
starts_own_apart s router m own (state.Aborted why read_at) w h =
    tells_apart s router m.tag (told.Aborted why) w h

low_of : (number : ℤ) (s : Session) (test : Bool) → int_lt number s.number ≡ test
    → (if test then Some s.number else None) ≡ None → int_lt number s.number ≡ false
low_of number s true e none = cc
low_of number s false e none = e

starts_tag : (s : ShardState) (router : ℕ) (m : CommitTwo) (own : Session) (test : Bool)
    → same_tag own.tag m.tag ≡ test → session s.part m.lsid ≡ Some own
    → int_lt m.number own.number ≡ false → Comes s.part m.boot m.lsid m.number m.tag
    → PartApart s.part
    → RuledApart (if test then starts_own s router m own own.state else is_lost s router m)
starts_tag s router m own true e is low c h =
    starts_own_apart s router m own own.state (state_apart s.part m.lsid own is h) h
starts_tag s router m own false e is low c h =
    tells_apart s router m.tag (told.Aborted (cause.Unavailable m.boot s.part.boot))
    (other_tag s.part m.boot m.lsid m.number m.tag own is e low c) h

starts_new_apart : (s : ShardState) (router : ℕ) (m : CommitTwo) (own : Option Session)
    → session s.part m.lsid ≡ own → larger_number own m.number ≡ None
    → Comes s.part m.boot m.lsid m.number m.tag → PartApart s.part
    → RuledApart (starts_new s router m own)
starts_new_apart s router m None is low c h =
    tells_apart s router m.tag (told.Aborted (cause.Unavailable m.boot s.part.boot))
    (no_session s.part m.boot m.lsid m.number m.tag is c) h
starts_new_apart s router m (Some own) is low c h = starts_tag s router m own (same_tag own.tag
    m.tag) refl is (low_of m.number own (int_lt m.number own.number) refl low) c h

votes_on_apart : (s : ShardState) (m : Vote) (c : Coordinated) (d : Option Decision)
    → PartApart s.part → RuledApart (votes_on s m c d)
votes_on_apart s m c None h = record { part = h; out = none }
votes_on_apart s m c (Some d) h = record {
  part = h;
  out = All-append LetterApart _ _ (each LetterApart _ c.askers (λ x. told_apart d))
      (decides_apart m.tag c.plan d c.plan.parts);
}

votes_apart : (s : ShardState) (m : Vote) (c : Option Coordinated) → PartApart s.part
    → RuledApart (votes_if s m c)
votes_apart s m None h = quiet_apart s h
votes_apart s m (Some c) h = votes_on_apart s m c (decided_by m.shard m.vote c) h

acks_apart : (s : ShardState) (m : Acked) (c : Option Coordinated) → PartApart s.part
    → RuledApart (acks_if s m c)
acks_apart s m None h = quiet_apart s h
acks_apart s m (Some c) h = record { part = h; out = none }

router_rule : (s : ShardState) (rule : ℕ → Ruled) (router : Option ℕ) → PartApart s.part
    → ((n : ℕ) → RuledApart (rule n)) → RuledApart (from_router s rule router)
router_rule s rule None h k = quiet_apart s h
router_rule s rule (Some router) h k = k router

resends_by_apart : (own : ℕ) (tag : Tag) (c : Coordinated) (d : Option Decision)
    → All LetterApart (resends_by own tag c d)
resends_by_apart own tag c None = prepares_apart own tag c.plan _
resends_by_apart own tag c (Some d) = decides_apart tag c.plan d _

resends_apart : (own : ℕ) (coords : Coordinations) → All LetterApart (resends own coords)
resends_apart own [] = none
resends_apart own (entry ∷ coords) =
    All-append LetterApart (resends_by own entry.0 entry.1 entry.1.decision) (resends own coords)
    (resends_by_apart own entry.0 entry.1 entry.1.decision) (resends_apart own coords)

-- Each message, of a transaction that has come in this boot, if it has this one.

abbrev pub ComesBy : Part → Msg → Type 0
ComesBy p (msg.Statement m) = Comes p m.boot m.lsid m.number m.tag
ComesBy p (msg.Commit m) = Comes p m.boot m.lsid m.number m.tag
ComesBy p (msg.CommitTwo m) = Comes p m.boot m.lsid m.number m.tag
ComesBy p (msg.Prepare m) = Comes p m.boot m.lsid m.number m.tag
ComesBy p other = Unit {0}

expire_by : (p : Part) (wall : ℕ) (m : Msg) → ComesBy p m → ComesBy (expire p wall) m
expire_by p wall (msg.Statement m) c = expire_comes p wall m.boot m.lsid m.number m.tag c
expire_by p wall (msg.Commit m) c = expire_comes p wall m.boot m.lsid m.number m.tag c
expire_by p wall (msg.CommitTwo m) c = expire_comes p wall m.boot m.lsid m.number m.tag c
expire_by p wall (msg.Prepare m) c = expire_comes p wall m.boot m.lsid m.number m.tag c
expire_by p wall other c = tt

ruled_apart : (s : ShardState) (from : NodeId) (m : Msg) → ComesBy s.part m → PartApart s.part
    → RuledApart (ruled s from m)
ruled_apart s from (msg.Statement m) c h =
    let turn = statement s.part s.clock.last s.wall m in
    either (elsewhere s.part m.lsid m.tag) RuledApart _ _ (quiet_apart s h)
    (answers_apart s turn.1 from m turn.0 (statement_apart s.part s.clock.last s.wall m c h))
ruled_apart s from (msg.Answer m) c h = quiet_apart s h
ruled_apart s from (msg.Commit m) c h = let k = commit_apart s.part s.clock.last s.wall m c h in
    record { part = k.1; out = outcome_apart s m.tag from _ k.0 }
ruled_apart s from (msg.Outcome m) c h = quiet_apart s h
ruled_apart s from (msg.Abort m) c h = either (coordinates s m.tag) RuledApart _ _ (quiet_apart s h)
    (quiet_apart (with_part s (abort s.part m)) (abort_apart s.part m h))
ruled_apart s from (msg.CommitTwo m) c h =
    router_rule s (λ router. on_commit_two s router m) (router_of from) h
    (λ router. known_apart s router m.tag (session s.part m.lsid) m.number _ h
    (λ low. starts_new_apart s router m (session s.part m.lsid) refl low c h))
ruled_apart s from (msg.Prepare m) c h = let k = prepare_apart s.part s.clock.last s.wall m c h in
    record { part = k.1; out = vote_apart s m _ k.0 }
ruled_apart s from (msg.Vote m) c h = votes_apart s m (coordinated_of s.coord m.tag) h
ruled_apart s from (msg.Decide m) c h =
    record { part = decide_apart s.part m h; out = one LetterApart _ tt }
ruled_apart s from (msg.Acked m) c h = acks_apart s m (coordinated_of s.coord m.tag) h
ruled_apart s from (msg.Recover m) c h =
    router_rule s (λ router. on_recover s router m) (router_of from) h
    (λ router. known_apart s router m.tag (session s.part m.lsid) m.number
    (recovers s router m) h (λ low.
    let k = recover_apart s.part m h in
    tells_apart (with_part s (recover s.part m).1) router m.tag (recover s.part m).0 k.0 k.1))
ruled_apart s from msg.Nudge c h = record { part = h; out = resends_apart s.part.shard s.coord }

-- The step.

pub record StepApart (o : CoreStep) : Type 0 where
  pub part : PartApart o.core.part
  pub out : All EnvApart (given_out o.answer)

gives_apart : (s : ShardState) (out : List Letter) → All LetterApart out
    → All EnvApart (given_out (gives_out s out))
gives_apart s out h = All-map EnvApart (sent_by (Shard s.part.shard) s.clock.last) out h

answers_out : (s : ShardState) (out : List Letter) (h : Option Held) → All LetterApart out
    → All EnvApart (given_out (answer_of s out h))
answers_out s out None h = gives_apart s out h
answers_out s out (Some held) h = All-nil EnvApart

rules : (bound : Option ℕ) (r : Ruled) → RuledApart r → StepApart (stepped bound r)
rules bound r h = record { part = h.part; out = answers_out r.core r.out r.held h.out }

calm : (s : ShardState) (e : NodeEvent) → PartApart s.part
    → StepApart (stepped None (quiet (entered s e)))
calm s e h = record { part = expire_apart s.part (max s.wall e.wall) h; out = All-nil EnvApart }

-- what an event brings
abbrev pub ComesAt : Part → Happening → Type 0
ComesAt p (what.Deliver e) = ComesBy p e.msg
ComesAt p other = Unit {0}

happens : (s : ShardState) (e : NodeEvent) (w : Happening) → ComesAt s.part w → PartApart s.part
    → StepApart (happened (entered s e) w)
happens s e (what.Client conn frame) c h = calm s e h
happens s e (what.Gone conn) c h = calm s e h
happens s e (what.Deliver sent) c h =
    rules (ceiling_of (entered s e) sent) (ruled (met (entered s e) sent) sent.from sent.msg)
    (ruled_apart (met (entered s e) sent) sent.from sent.msg (expire_by s.part (max s.wall e.wall)
    sent.msg c) (expire_apart s.part (max s.wall e.wall) h))
happens s e what.Resend c h = record {
  part = expire_apart s.part (max s.wall e.wall) h;
  out = gives_apart (entered s e) _ (resends_apart (entered s e).part.shard s.coord);
}
happens s e what.Moment c h = calm s e h

-- out of memory

abbrev WantsApart : Option Wanting → Type 0
WantsApart w = IfSome w (λ w. LetterApart w.letter)

wants : (s : ShardState) (from : NodeId) (m : Msg) → WantsApart (wanting s from m)
wants s from (msg.Statement m) = either (elsewhere s.part m.lsid m.tag) WantsApart _ _ tt tt
wants s from (msg.Answer m) = tt
wants s from (msg.Commit m) = tt
wants s from (msg.Outcome m) = tt
wants s from (msg.Abort m) = tt
wants s from (msg.CommitTwo m) = either (is_some (router_of from)) WantsApart _ _ tt tt
wants s from (msg.Prepare m) = tt
wants s from (msg.Vote m) = tt
wants s from (msg.Decide m) = tt
wants s from (msg.Acked m) = tt
wants s from (msg.Recover m) = either (is_some (router_of from)) WantsApart _ _ tt tt
wants s from msg.Nudge = tt

abbrev EachStep : Option CoreStep → Type 0
EachStep o = IfSome o StepApart

memory_told : (s : ShardState) (bound : Option ℕ) (w : Option Wanting) → PartApart s.part
    → WantsApart w → EachStep (option_map (stepped bound) (option_and_then (told_if s) w))
memory_told s bound None h k = tt
memory_told s bound (Some w) h k =
    either (may_be_told s w) (λ (r : Option Ruled). EachStep (option_map (stepped bound) r))
    (Some (told_memory s w)) None
    (rules bound (told_memory s w)
    (record { part = memory_apart s.part w.lsid w.tag h; out = one LetterApart w.letter k })) tt

scarce_apart : (s : ShardState) (e : NodeEvent) (w : Happening) → PartApart s.part
    → EachStep (scarce (entered s e) w)
scarce_apart s e (what.Client conn frame) h = tt
scarce_apart s e (what.Gone conn) h = tt
scarce_apart s e (what.Deliver sent) h =
    memory_told (met (entered s e) sent) (ceiling_of (entered s e) sent) (wanting
    (met (entered s e) sent) sent.from sent.msg) (expire_apart s.part (max s.wall e.wall) h)
    (wants (met (entered s e) sent) sent.from sent.msg)
scarce_apart s e what.Resend h = tt
scarce_apart s e what.Moment h = tt

unless_short : (o : Option CoreStep) → EachStep o → (other : CoreStep) → StepApart other
    → StepApart (unwrap_or o other)
unless_short None h other k = k
unless_short (Some o) h other k = h

memory : (s : ShardState) → PartApart s.part → StepApart (stays s answer.Memory)
memory s h = record { part = h; out = All-nil EnvApart }

runs : (room : Room) (s : ShardState) (e : NodeEvent) → ComesAt s.part e.what → PartApart s.part
    → StepApart (running_step room s e)
runs Ample s e c h = happens s e e.what c h
runs Scarce s e c h = unless_short (scarce (entered s e) e.what) (scarce_apart s e e.what h)
    (stays s answer.Memory) (memory s h)
runs Short s e c h = memory s h

says : (s : ShardState) (faults : ℕ) (from : NodeId) (m : Msg)
    → All EnvApart (given_out (says_stopped s faults from m))
says s faults from (msg.Statement m) =
    let l : Letter = participating.answer s from m 0 (Err (cause.Faulted faults)) in
    gives_apart s (l ∷ []) (one LetterApart l tt)
says s faults from other = All-nil EnvApart

stopped_apart : (s : ShardState) (faults : ℕ) (w : Happening)
    → All EnvApart (given_out (answer_stopped s faults w))
stopped_apart s faults (what.Deliver e) = says s faults e.from e.msg
stopped_apart s faults other = All-nil EnvApart

stops : (room : Room) (s : ShardState) (faults : ℕ) (e : NodeEvent) → PartApart s.part
    → StepApart (stopped_step room s faults e)
stops Ample s faults e h = record { part = h; out = stopped_apart s faults e.what }
stops Scarce s faults e h = memory s h
stops Short s faults e h = memory s h

steps : (room : Room) (s : ShardState) (e : NodeEvent) (stopped : Option ℕ) → ComesAt s.part e.what
    → PartApart s.part → StepApart (step_if room s e stopped)
steps room s e None c h = runs room s e c h
steps room s e (Some faults) c h = stops room s faults e h

pub step_apart : (room : Room) (s : ShardState) (e : NodeEvent) → ComesAt s.part e.what
    → PartApart s.part → StepApart (core_step room s e)
unfolding core_step
step_apart room s e c h = steps room s e s.stopped c h
