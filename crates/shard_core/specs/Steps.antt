-- What a call of the step says.
use Rattle.std.specs.Prelude.{◌≡◌, ℕ, [], Option, Some, None, Result, Ok, Err}
use Rattle.txn_types.specs.declared.event.NodeAnswer.{NodeAnswer}
use Rattle.txn_types.specs.declared.event.NodeAnswer.TheVariants as answer
use Rattle.txn_types.specs.declared.event.NodeEvent.{NodeEvent}
use Rattle.version_store.specs.declared.version.Held.{Held}
use Rattle.shard_core.specs.declared.given.Given.{Given}
use Rattle.shard_core.specs.declared.step.Outbox.{Outbox}
use Rattle.shard_core.specs.declared.step.Step.{Step}
use Rattle.shard_core.specs.declared.step.StepErr.{StepErr}
use Rattle.shard_core.specs.declared.step.StepErr.TheVariants.{Memory, Stopped}
use Rattle.shard_core.specs.State.{ShardState}
use Rattle.shard_core.specs.Core.{Room, CoreStep, core_step, stays}

-- what a rule gave, as it is handed out
abbrev pub given_to : Given → Outbox
given_to g = record { envelopes = g.out; replies = []; closed = None }

abbrev pub step_of : Option ℕ → Given → Step
step_of ceiling g = record { ceiling = ceiling; then = g.rec; held = g.held }

-- what stands in the outbox is given out, or a key is held
abbrev pub answer_by : Outbox → Option Held → NodeAnswer
answer_by out None = answer.Did out.envelopes out.replies out.closed
answer_by out (Some h) = answer.Blocked h.id h.tag h.ts

abbrev pub refused : ShardState → StepErr → CoreStep
refused s Memory = stays s answer.Memory
refused s Stopped = stays s answer.Stopped

-- the core's step as the call says it: this core after it, this outbox, and this result
abbrev pub said : ShardState → Outbox → Result Step StepErr → CoreStep
said s out (Ok step) =
    record { core = s; ceiling = step.ceiling; rec = step.then; answer = answer_by out step.held }
said s out (Err e) = refused s e

-- it is the core's step, with some room
abbrev pub Steps : ShardState → NodeEvent → CoreStep → Type 0
Steps s e o = (room : Room) × (core_step room s e ≡ o)
