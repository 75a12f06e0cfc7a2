-- At which steps a cause is new: the transaction ends with it, or is told it without having been
-- ended with it before. A step that only repeats the cause of an ended transaction isn't one.
use Rattle.std.specs.Prelude.{◌≡◌, ◌⊎◌, ℕ, Bool, true, false, Some}
use Rattle.txn_types.specs.declared.cause.Cause.{Cause}
use Rattle.txn_types.specs.declared.cause.Cause.TheVariants as cause
use Rattle.session_table.specs.declared.session.Session.{Session}
use Rattle.session_table.specs.declared.session.SessionState.TheVariants as state
use Rattle.participant.specs.Part.{session}
use Rattle.cluster_core.specs.Causes.{Making, TellsCause, EndsWith}

-- the transaction wasn't ended with this cause before the step
abbrev pub IsFirst : Making → Cause → Type 0
IsFirst m why = (old : Session) (read_at : ℕ) → session m.before.core.part m.lsid ≡ Some old
    → old.tag ≡ m.tag → old.state ≡ state.Aborted why read_at → ⊥

abbrev pub IsNew : Making → Cause → Type 0
IsNew m why = EndsWith m why ⊎ (TellsCause m why × IsFirst m why)

-- Of two causes the step that made them tells nothing: want of memory is free, and what a vote
-- refused stands in its coordinator's journal.
abbrev pub is_free : Cause → Bool
is_free cause.Memory = true
is_free (cause.Voted shard code) = true
is_free other = false
