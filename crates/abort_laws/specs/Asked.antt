-- What asks a shard to end a transaction by a client's or a router's wish.
use Rattle.std.specs.Prelude.{◌≡◌, ℕ}
use Rattle.txn_types.specs.declared.event.Happening.TheVariants as what
use Rattle.txn_types.specs.declared.message.Envelope.{Envelope}
use Rattle.cluster_core.specs.Causes.{Making, Aborts}

-- the step's event is the delivery of an Abort of the transaction with this reason, or for the
-- third of the reasons of a Recover of it
abbrev pub IsAskedFor : Making → ℕ → Type 0
IsAskedFor m why = (e : Envelope) × (m.event.what ≡ what.Deliver e) × Aborts m.tag why e.msg
