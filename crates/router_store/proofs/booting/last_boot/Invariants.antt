use Rattle.std.proofs.Common.{drop}
use Rattle.router_store.proofs.Following.{Following}
use Rattle.router_store.proofs.booting.last_boot.Given as goal

abbrev pub invariant-loop-index : goal.invariant-loop-index
invariant-loop-index l = Following l.last l.index (drop l.index l.records) l.records
