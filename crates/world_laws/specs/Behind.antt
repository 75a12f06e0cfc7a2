-- What stands beside the second part of the joint invariant: no time that a shard's state holds is
-- above its clock, and no time in a message above that of its envelope.
use Rattle.std.specs.Prelude.{◌≡◌, ◌≤◌, ℕ, All, IfSome}
use Rattle.txn_types.specs.declared.event.Happening.{Happening}
use Rattle.txn_types.specs.declared.event.Happening.TheVariants as what
use Rattle.txn_types.specs.declared.message.Envelope.{Envelope}
use Rattle.txn_types.specs.declared.message.Msg.{Msg}
use Rattle.txn_types.specs.declared.message.Msg.TheVariants as msg
use Rattle.session_table.specs.declared.session.SessionState.{SessionState}
use Rattle.session_table.specs.declared.session.SessionState.TheVariants as state
use Rattle.journal_rec.specs.declared.record.Rec.{Rec}
use Rattle.coordinator.specs.TwoPhase.{Coordinated, Coordinations}
use Rattle.participant.specs.Part.{Part}
use Rattle.participant.specs.Laws.{DecisionBehind}
use Rattle.participant.specs.declared.said.Said.{Said}
use Rattle.participant.specs.declared.said.Said.TheVariants.{Did, Blocked, Refused, Late}
use Rattle.shard_core.specs.State.{ShardState}
use Rattle.shard_core.specs.Ruled.{Ruled}
use Rattle.shard_core.specs.Core.{CoreStep}
use Rattle.shard_core.specs.Laws.{IsBehind}
use Rattle.txn_types.specs.Letters.{given_out}
use Rattle.cluster_core.specs.Parts.{time_in}

abbrev pub StateBehind : ℕ → SessionState → Type 0
StateBehind last (state.Prepared at coordinator) = at ≤ last
StateBehind last (state.Committed at) = at ≤ last
StateBehind last (state.Aborted why read_at) = read_at ≤ last
StateBehind last other = Unit {0}

-- a shard's part
pub record PartBehind (last : ℕ) (p : Part) : Type 0 where
  pub live : All (λ entry. entry.1.read_at ≤ last) p.live
  pub sessions : All (λ entry. StateBehind last entry.1.state) p.sessions.entries

-- what it coordinates
abbrev pub CoordinatedBehind : ℕ → Coordinated → Type 0
CoordinatedBehind last c = All (λ vote. vote.1 ≤ last) c.votes
    × IfSome c.decision (DecisionBehind last)

abbrev pub CoordBehind : ℕ → Coordinations → Type 0
CoordBehind last coords = All (λ c. CoordinatedBehind last c.1) coords

-- a message
abbrev pub MsgBehind : ℕ → Msg → Type 0
MsgBehind last (msg.Answer a) = a.read_at ≤ last
MsgBehind last other = IsBehind last other

-- a letter of this shard, with the clock there
abbrev pub LetterBehind : ℕ → ℕ → Msg → Type 0
LetterBehind last shard (msg.Answer a) = (a.read_at ≤ last) × (a.shard ≡ shard)
LetterBehind last shard other = IsBehind last other

-- a record
abbrev pub RecBehind : ℕ → Rec → Type 0
RecBehind last r = IfSome (time_in r) (λ time. time ≤ last)

pub record CoreBehind (s : ShardState) : Type 0 where
  pub part : PartBehind s.clock.last s.part
  pub coord : CoordBehind s.clock.last s.coord

-- what a rule leaves, records and sends
pub record RuledBehind (r : Ruled) : Type 0 where
  pub core : CoreBehind r.core
  pub rec : IfSome r.rec (RecBehind r.core.clock.last)
  pub out : All (λ l. LetterBehind r.core.clock.last r.core.part.shard l.1) r.out

-- what a node sends, with its clock
abbrev pub EnvBehind : ShardState → Envelope → Type 0
EnvBehind s e = (e.time ≡ s.clock.last) × LetterBehind s.clock.last s.part.shard e.msg

-- what is delivered names no time above its envelope's
abbrev pub EventBehind : Happening → Type 0
EventBehind (what.Deliver e) = MsgBehind e.time e.msg
EventBehind other = Unit {0}

-- what a step leaves, records and gives out
pub record StepBehind (o : CoreStep) : Type 0 where
  pub core : CoreBehind o.core
  pub rec : IfSome o.rec (RecBehind o.core.clock.last)
  pub out : All (EnvBehind o.core) (given_out o.answer)

-- what is said to a statement
abbrev pub SaidBehind : ℕ → Said → Type 0
SaidBehind last (Did at reply wrote) = at ≤ last
SaidBehind last (Blocked held) = Unit {0}
SaidBehind last (Refused why at) = at ≤ last
SaidBehind last Late = Unit {0}
