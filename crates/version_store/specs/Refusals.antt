-- What a refused write and a refused scan tell.
use Rattle.std.specs.Prelude.{◌≡◌, List, Option, Some, Result, Err}
use Rattle.txn_types.specs.declared.cause.By.{By}
use Rattle.txn_semantics.specs.Rows.{Row}
use Rattle.txn_semantics.specs.Writes.{Place}
use Rattle.version_store.specs.declared.refusal.PutErr.{PutErr}
use Rattle.version_store.specs.declared.refusal.PutErr.TheVariants.{Conflict, Memory}
use Rattle.version_store.specs.declared.refusal.ScanErr.{ScanErr}
use Rattle.version_store.specs.declared.refusal.ScanErr.TheVariants as scanning
use Rattle.version_store.specs.declared.version.Held.{Held}

-- the id of the place and what stands against the write, or out of memory
abbrev pub IsRefused : Place → Option By → PutErr → Type 0
IsRefused place why (Conflict id by) = (id ≡ place.1) × (why ≡ Some by)
IsRefused place why Memory = Unit {0}

-- the document that is held, or out of memory
abbrev pub IsHeld : Result (List Row) Held → ScanErr → Type 0
IsHeld result (scanning.Held held) = result ≡ Err held
IsHeld result scanning.Memory = Unit {0}
