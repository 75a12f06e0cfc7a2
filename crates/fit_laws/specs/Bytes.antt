-- Runs in which what clients send is bytes, on connections whose numbers have 32 bits, to routers
-- whose numbers have 16 bits and their boots 32.
use Rattle.std.specs.Prelude.{◌<◌, ◌≤◌, ◌^◌, ℕ, List, All, length, slice_index}
use Rattle.txn_types.specs.declared.event.Happening.{Happening}
use Rattle.txn_types.specs.declared.event.Happening.TheVariants as what
use Rattle.txn_types.specs.declared.message.Statement.{Statement}
use Rattle.router_state.specs.State.{RouterState}
use Rattle.txn_model.specs.declared.ran.Ran.{Ran}
use Rattle.txn_model.specs.declared.ran.Ran.TheVariants.{Step}
use Rattle.cluster_core.specs.Nodes.{Nodes}
use Rattle.request_laws.specs.Fitting.{OpFits}

abbrev pub BringsBytes : Happening → Type 0
BringsBytes (what.Client conn bytes) = (place : ℕ) → slice_index bytes place < 2 ^ 8
BringsBytes other = Unit {0}

abbrev pub IsOfBytes : Ran → Type 0
IsOfBytes (Step node e a faults) = BringsBytes e.what
IsOfBytes other = Unit {0}

abbrev pub AreOfBytes : List Ran → Type 0
AreOfBytes run = All IsOfBytes run

-- a client's message comes on a connection whose number has 32 bits
abbrev pub ComesOn : Happening → Type 0
ComesOn (what.Client conn bytes) = conn < 2 ^ 32
ComesOn other = Unit {0}

abbrev pub IsOnConnection : Ran → Type 0
IsOnConnection (Step node e a faults) = ComesOn e.what
IsOnConnection other = Unit {0}

abbrev pub AreOnConnections : List Ran → Type 0
AreOnConnections run = All IsOnConnection run

-- there are no more routers than a tag can name, and each starts in a boot that a tag can name
pub record RoutersFit (start : Nodes) : Type 0 where
  pub count : length start.routers ≤ 2 ^ 16
  pub boots : All (λ (r : RouterState). r.boot < 2 ^ 32) start.routers

-- a statement for a shard
abbrev pub StatementFits : ℕ → Statement → Type 0
StatementFits shard m = OpFits m.op
