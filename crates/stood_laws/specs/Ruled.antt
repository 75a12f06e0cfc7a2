-- Which causes a participant's rules make by what stands at its part, its clock and its disk alone.
use Rattle.std.specs.Prelude.{◌≡◌, ◌<◌, ◌≤◌, ℕ, Bool, true, false}
use Rattle.txn_types.specs.declared.cause.By.TheVariants as by
use Rattle.txn_types.specs.declared.cause.Cause.{Cause}
use Rattle.txn_types.specs.declared.cause.Cause.TheVariants as cause
use Rattle.txn_types.specs.declared.event.Happening.TheVariants as what
use Rattle.txn_types.specs.declared.message.Envelope.{Envelope}
use Rattle.txn_types.specs.declared.message.Msg.TheVariants as msg
use Rattle.txn_types.specs.declared.message.Recover.{Recover}
use Rattle.cluster_core.specs.Causes.{Making}

abbrev pub is_ruled : Cause → Bool
is_ruled (cause.WriteConflict id (by.At at)) = false
is_ruled (cause.Unavailable carried have) = false
is_ruled (cause.Statement err) = false
is_ruled (cause.Volume bytes) = false
is_ruled (cause.ClientAbort why) = false
is_ruled other = true

-- those of which it is shown here what stands; a client's is shown elsewhere
abbrev pub is_shown : Cause → Bool
is_shown (cause.ClientAbort why) = false
is_shown other = true

-- A recovery that is delivered names a boot that the shard had: its token was told in it.
abbrev pub NamesEarlier : ℕ → Recover → Type 0
NamesEarlier boot x = (0 < x.boot) × (x.boot ≤ boot)

abbrev pub RecoversEarlier : Making → Type 0
RecoversEarlier m = (d : Envelope) (x : Recover) → m.event.what ≡ what.Deliver d
    → d.msg ≡ msg.Recover x → NamesEarlier m.before.core.part.boot x
