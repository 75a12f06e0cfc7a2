-- A node's answer where nothing outside it failed: its disk took what it had to, and it had the
-- memory that it wanted.
use Rattle.std.specs.Prelude.{Bool, true, false, Result, Ok, Err}
use Rattle.std.specs.Prelude.{◌≡◌}
use Rattle.std.specs.List.{list_any}
use Rattle.txn_types.specs.declared.cause.Cause.{Cause}
use Rattle.txn_types.specs.declared.cause.Cause.TheVariants as cause
use Rattle.txn_types.specs.declared.decision.Told.{Told}
use Rattle.txn_types.specs.declared.decision.Told.TheVariants as told
use Rattle.txn_types.specs.declared.event.NodeAnswer.{NodeAnswer}
use Rattle.txn_types.specs.declared.event.NodeAnswer.TheVariants as answer
use Rattle.txn_types.specs.declared.message.Msg.{Msg}
use Rattle.txn_types.specs.declared.message.Msg.TheVariants as msg

-- A shard that has no memory for what it was asked may tell that as the cause why the transaction
-- ended.

abbrev pub is_memory : Cause → Bool
is_memory cause.Memory = true
is_memory other = false

abbrev pub refuses_for_memory : {A : Type 0} → Result A Cause → Bool
refuses_for_memory (Ok x) = false
refuses_for_memory (Err why) = is_memory why

abbrev pub ended_for_memory : Told → Bool
ended_for_memory (told.Aborted why) = is_memory why
ended_for_memory other = false

abbrev pub tells_memory : Msg → Bool
tells_memory (msg.Answer m) = refuses_for_memory m.outcome
tells_memory (msg.Outcome m) = ended_for_memory m.told
tells_memory (msg.Vote m) = refuses_for_memory m.vote
tells_memory other = false

-- no append failed, and there was memory
abbrev pub IsUnharmed : NodeAnswer → Type 0
IsUnharmed (answer.Did out replies closed) = list_any (λ e. tells_memory e.msg) out ≡ false
IsUnharmed (answer.Blocked id tag ts) = Unit {0}
IsUnharmed answer.Stopped = Unit {0}
IsUnharmed answer.DiskFault = ⊥
IsUnharmed answer.Memory = ⊥
