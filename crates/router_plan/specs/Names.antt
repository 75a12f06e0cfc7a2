-- The sessions that clients' requests name are those of clients, and no connection's own.
use Rattle.std.specs.Prelude.{◌≡◌, false, Option, Some, None}
use Rattle.client_cmd.specs.declared.request.Request.{Request}
use Rattle.client_cmd.specs.declared.request.Request.TheVariants as request
use Rattle.client_cmd.specs.declared.request.Txn.{Txn}
use Rattle.router_state.specs.State.{is_own}

abbrev pub NamesClient : Option Txn → Type 0
NamesClient None = Unit {0}
NamesClient (Some txn) = is_own txn.lsid ≡ false

abbrev pub IsClients : Request → Type 0
IsClients (request.Statement op txn at after more time) = NamesClient txn
IsClients (request.Commit txn t more time) = NamesClient txn
IsClients (request.Abort txn more time) = NamesClient txn
IsClients other = Unit {0}
