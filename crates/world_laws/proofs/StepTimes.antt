-- No time that a shard's state holds, records or sends is above its clock, after a step.
use Rattle.std.proofs.Common.{◌≡◌, Result, Ok, ◌≤◌, ℕ, max, List, All, Option, Some, None, IfSome}
use Rattle.std.proofs.Common.{option_map, option_and_then, unwrap_or, is_some, Err, refl, sym}
use Rattle.std.proofs.Common.{arith, ◌∙◌}
use Rattle.std.proofs.lemmas.List.Elements.{All-map, All-weaker}
use Rattle.txn_types.specs.Clock.{Clock, raised}
use Rattle.txn_types.specs.Letters.{Letter, sent_by}
use Rattle.txn_types.specs.declared.cause.Cause.TheVariants as cause
use Rattle.txn_types.specs.declared.event.Happening.{Happening}
use Rattle.txn_types.specs.declared.event.Happening.TheVariants as what
use Rattle.txn_types.specs.declared.event.NodeAnswer.TheVariants as answer
use Rattle.txn_types.specs.declared.event.NodeEvent.{NodeEvent}
use Rattle.txn_types.specs.declared.message.Envelope.{Envelope}
use Rattle.txn_types.specs.declared.message.Msg.{Msg}
use Rattle.txn_types.specs.declared.message.Msg.TheVariants as msg
use Rattle.txn_types.specs.declared.node.NodeId.{NodeId}
use Rattle.txn_types.specs.declared.node.NodeId.TheVariants.{Shard}
use Rattle.version_store.specs.declared.version.Held.{Held}
use Rattle.participant.specs.Part.{elsewhere}
use Rattle.participant.proofs.Cases.{either}
use Rattle.shard_core.specs.State.{ShardState, met, ceiling_of}
use Rattle.shard_core.specs.Ruled.{Ruled, quiet}
use Rattle.shard_core.specs.Participating as participating
use Rattle.shard_core.specs.Coordinating.{on_resend}
use Rattle.shard_core.specs.Rules.{ruled, router_of}
use Rattle.shard_core.specs.Wanting.{wanting, Wanting, told_if, told_memory, may_be_told}
use Rattle.shard_core.specs.Core.{Room, Ample, Scarce, Short, CoreStep, core_step, step_if, stepped}
use Rattle.shard_core.specs.Core.{stays, entered, happened, scarce, running_step, answer_stopped}
use Rattle.shard_core.specs.Core.{says_stopped, gives_out, answer_of}
use Rattle.txn_types.specs.Letters.{given_out}
use Rattle.participant.specs.Laws.{DecisionBehind}
use Rattle.txn_types.specs.declared.cause.Cause.{Cause}
use Rattle.txn_types.specs.declared.decision.Decision.{Decision}
use Rattle.txn_types.specs.declared.decision.Decision.TheVariants as decision
use Rattle.shard_core.specs.State.{read_at_of}
use Rattle.shard_core.specs.Laws.{VoteBehind}
use Rattle.world_laws.specs.Behind.{MsgBehind, LetterBehind, CoreBehind, RuledBehind, EnvBehind}
use Rattle.world_laws.specs.Behind.{EventBehind, StepBehind}
use Rattle.world_laws.proofs.Numbers.{memory_same}
use Rattle.world_laws.proofs.PartTimes.{part_later, expire_behind, memory_behind}
use Rattle.world_laws.proofs.RuledTimes.{InOut, coord_later, resends_behind, ruled_behind}
use Rattle.world_laws.proofs.Naming.{nothing, one}

-- a later clock

pub decision_later : (a b : ℕ) → a ≤ b → (d : Decision) → DecisionBehind a d → DecisionBehind b d
decision_later a b l (decision.Commit at) h = grind arith
decision_later a b l (decision.Abort shard code) h = tt

pub vote_later : (a b : ℕ) → a ≤ b → (v : Result ℕ Cause) → VoteBehind a v → VoteBehind b v
vote_later a b l (Ok at) h = grind arith
vote_later a b l (Err why) h = tt

msg_later : (a b : ℕ) → a ≤ b → (m : Msg) → MsgBehind a m → MsgBehind b m
msg_later a b l (msg.Answer m) h = grind arith
msg_later a b l (msg.Vote m) h = vote_later a b l m.vote h
msg_later a b l (msg.Decide m) h = decision_later a b l m.decision h
msg_later a b l other h = tt

raised_last : (c : Clock) (bound : Option ℕ) → (raised c bound).last ≡ c.last
raised_last c None = refl
raised_last c (Some bound) = refl

core_later : (s t : ShardState) → t.part ≡ s.part → t.coord ≡ s.coord → s.clock.last ≤ t.clock.last
    → CoreBehind s → CoreBehind t
core_later s t p c l h =
    record {
      part = rw p (part_later s.clock.last t.clock.last l s.part h.part);
      coord = rw c (coord_later s.clock.last t.clock.last l s.coord h.coord);
    }

entered_behind : (s : ShardState) (e : NodeEvent) → CoreBehind s → CoreBehind (entered s e)
entered_behind s e h =
    record { part = expire_behind s.clock.last s.part (max s.wall e.wall) h.part; coord = h.coord }

met_last : (s : ShardState) (e : Envelope) → (s.clock.last ≤ (met s e).clock.last)
    × (e.time ≤ (met s e).clock.last) × (read_at_of e.msg ≤ (met s e).clock.last)
met_last s e = let is = raised_last s.clock (ceiling_of s e) in
    (rw is (grind arith), rw is (grind arith), rw is (grind arith))

met_behind : (s : ShardState) (e : Envelope) → CoreBehind s → CoreBehind (met s e)
met_behind s e h = core_later s (met s e) refl refl (met_last s e).0 h

-- what is given out

gives_behind : (s : ShardState) (out : List Letter)
    → All (λ l. LetterBehind s.clock.last s.part.shard l.1) out
    → All (EnvBehind s) (given_out (gives_out s out))
gives_behind s out h =
    All-map (EnvBehind s) (sent_by (Shard s.part.shard) s.clock.last) out
    (All-weaker (InOut s.clock.last s.part.shard) (λ (l : Letter).
    EnvBehind s (sent_by (Shard s.part.shard) s.clock.last l)) (λ l k. (refl, k)) out h)

answers_behind : (s : ShardState) (out : List Letter) (h : Option Held)
    → All (λ l. LetterBehind s.clock.last s.part.shard l.1) out
    → All (EnvBehind s) (given_out (answer_of s out h))
answers_behind s out None h = gives_behind s out h
answers_behind s out (Some held) h = nothing (EnvBehind s)

rules : (bound : Option ℕ) (r : Ruled) → RuledBehind r → StepBehind (stepped bound r)
rules bound r h =
    record { core = h.core; rec = h.rec; out = answers_behind r.core r.out r.held h.out }

quiet_does : (s : ShardState) → CoreBehind s → StepBehind (stepped None (quiet s))
quiet_does s h = record { core = h; rec = tt; out = nothing (EnvBehind s) }

happens : (s : ShardState) (w : Happening) → CoreBehind s → EventBehind w
    → StepBehind (happened s w)
happens s (what.Client conn frame) h k = quiet_does s h
happens s (what.Gone conn) h k = quiet_does s h
happens s (what.Deliver e) h k =
    let l = met_last s e in
    rules (ceiling_of s e) (ruled (met s e) e.from e.msg) (ruled_behind (met s e) e.from e.msg
    (met_behind s e h) l.2 (msg_later e.time (met s e).clock.last l.1 e.msg k))
happens s what.Resend h k = rules None (on_resend s) (record {
  core = h;
  rec = tt;
  out = resends_behind s.clock.last s.part.shard s.part.shard s.coord h.coord;
})
happens s what.Moment h k = quiet_does s h

-- out of memory

abbrev Wants : ShardState → Option Wanting → Type 0
Wants s w = IfSome w (λ w. LetterBehind 0 s.part.shard w.letter.1)

zero : 0 ≤ 0
zero = grind arith

wants : (s : ShardState) (from : NodeId) (m : Msg) → Wants s (wanting s from m)
wants s from (msg.Statement m) =
    either (elsewhere s.part m.lsid m.tag) (Wants s) _ _ tt (zero, refl)
wants s from (msg.Answer m) = tt
wants s from (msg.Commit m) = tt
wants s from (msg.Outcome m) = tt
wants s from (msg.Abort m) = tt
wants s from (msg.CommitTwo m) = either (is_some (router_of from)) (Wants s) _ _ tt tt
wants s from (msg.Prepare m) = tt
wants s from (msg.Vote m) = tt
wants s from (msg.Decide m) = tt
wants s from (msg.Acked m) = tt
wants s from (msg.Recover m) = either (is_some (router_of from)) (Wants s) _ _ tt tt
wants s from msg.Nudge = tt

letter_later : (last shard other : ℕ) (m : Msg) → other ≡ shard → LetterBehind 0 shard m
    → LetterBehind last other m
letter_later last shard other (msg.Answer m) e h = (grind (arith, h.0), h.1 ∙ sym e)
letter_later last shard other (msg.Vote m) e h = vote_later 0 last (grind arith) m.vote h
letter_later last shard other (msg.Decide m) e h = decision_later 0 last (grind arith) m.decision h
letter_later last shard other rest e h = tt

memory_does : (s : ShardState) (w : Wanting) → LetterBehind 0 s.part.shard w.letter.1 → CoreBehind s
    → RuledBehind (told_memory s w)
memory_does s w k h =
    let g = memory_same s.part w.lsid w.tag in
    record {
      core =
          record { part = memory_behind s.clock.last s.part w.lsid w.tag h.part; coord = h.coord };
      rec = tt;
      out = one (InOut s.clock.last (told_memory s w).core.part.shard) w.letter (letter_later
          s.clock.last s.part.shard (told_memory s w).core.part.shard w.letter.1 g.shard k);
    }

abbrev EachStep : Option CoreStep → Type 0
EachStep None = Unit {0}
EachStep (Some o) = StepBehind o

told_does : (s : ShardState) (e : Envelope) (w : Option Wanting) → Wants (met s e) w → CoreBehind s
    → EachStep (option_map (stepped (ceiling_of s e)) (option_and_then (told_if (met s e)) w))
told_does s e None k h = tt
told_does s e (Some w) k h =
    either (may_be_told (met s e) w) (λ (r : Option Ruled).
    EachStep (option_map (stepped (ceiling_of s e)) r)) (Some (told_memory (met s e) w)) None
    (rules (ceiling_of s e) (told_memory (met s e) w)
    (memory_does (met s e) w k (met_behind s e h))) tt

scarce_does : (s : ShardState) (w : Happening) → CoreBehind s → EachStep (scarce s w)
scarce_does s (what.Client conn frame) h = tt
scarce_does s (what.Gone conn) h = tt
scarce_does s (what.Deliver e) h =
    told_does s e (wanting (met s e) e.from e.msg) (wants (met s e) e.from e.msg) h
scarce_does s what.Resend h = tt
scarce_does s what.Moment h = tt

stays_behind : (s : ShardState) → CoreBehind s → StepBehind (stays s answer.Memory)
stays_behind s h = record { core = h; rec = tt; out = nothing (EnvBehind s) }

unless_short : (o : Option CoreStep) → EachStep o → (other : CoreStep) → StepBehind other
    → StepBehind (unwrap_or o other)
unless_short None h other k = k
unless_short (Some o) h other k = h

runs : (room : Room) (s : ShardState) (e : NodeEvent) → CoreBehind s → EventBehind e.what
    → StepBehind (running_step room s e)
runs Ample s e h k = happens (entered s e) e.what (entered_behind s e h) k
runs Scarce s e h k = unless_short (scarce (entered s e) e.what) (scarce_does (entered s e) e.what
    (entered_behind s e h)) (stays s answer.Memory) (stays_behind s h)
runs Short s e h k = stays_behind s h

runs_if : (room : Room) (s : ShardState) (e : NodeEvent) (stopped : Option ℕ) → stopped ≡ None
    → CoreBehind s → EventBehind e.what → StepBehind (step_if room s e stopped)
runs_if room s e None is h k = runs room s e h k
runs_if room s e (Some faults) is h k = grind arith

-- a step of a shard that runs
pub step_behind : (room : Room) (s : ShardState) (e : NodeEvent) → s.stopped ≡ None → CoreBehind s
    → EventBehind e.what → StepBehind (core_step room s e)
unfolding core_step
step_behind room s e is h k = runs_if room s e s.stopped is h k

-- A stopped shard answers no read.

abbrev Nulls : ShardState → Envelope → Type 0
Nulls s e = LetterBehind 0 s.part.shard e.msg

says : (s : ShardState) (faults : ℕ) (from : NodeId) (m : Msg)
    → All (Nulls s) (given_out (says_stopped s faults from m))
says s faults from (msg.Statement m) =
    let l : Letter = participating.answer s from m 0 (Err (cause.Faulted faults)) in
    one (Nulls s) (sent_by (Shard s.part.shard) s.clock.last l) (zero, refl)
says s faults from other = nothing (Nulls s)

stopped_says : (s : ShardState) (faults : ℕ) (w : Happening)
    → All (Nulls s) (given_out (answer_stopped s faults w))
stopped_says s faults (what.Deliver e) = says s faults e.from e.msg
stopped_says s faults other = nothing (Nulls s)

stops : (room : Room) (s : ShardState) (e : NodeEvent) (stopped : Option ℕ) (faults : ℕ)
    → stopped ≡ Some faults → All (Nulls s) (given_out (step_if room s e stopped).answer)
stops room s e None faults is = grind arith
stops Ample s e (Some n) faults is = stopped_says s n e.what
stops Scarce s e (Some n) faults is = nothing (Nulls s)
stops Short s e (Some n) faults is = nothing (Nulls s)

pub stopped_out : (room : Room) (s : ShardState) (e : NodeEvent) (faults : ℕ)
    → s.stopped ≡ Some faults
    → All (λ e. LetterBehind 0 s.part.shard e.msg) (given_out (core_step room s e).answer)
unfolding core_step
stopped_out room s e faults is = stops room s e s.stopped faults is
