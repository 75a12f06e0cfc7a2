use Rattle.std.proofs.Common.{◌≡◌, arith}
use Rattle.std.specs.Prelude.{true, false, nat_le}
use Rattle.mtx_durable.proofs.files.path_of.Goals as goal

pub returns-then-place-lt-ROUTERS_AT : goal.returns-then-place-lt-ROUTERS_AT
returns-then-place-lt-ROUTERS_AT c =
    let below : nat_le 16 c.args.place ≡ false =
    grind (arith, c.if-place-lt-ROUTERS_AT.true) in
    rw below c.shard_path.ensures

pub returns-else-place-lt-ROUTERS_AT : goal.returns-else-place-lt-ROUTERS_AT
returns-else-place-lt-ROUTERS_AT c =
    let above : nat_le 16 c.args.place ≡ true =
    grind (arith, c.if-place-lt-ROUTERS_AT.false) in
    rw above c.router_path.ensures
