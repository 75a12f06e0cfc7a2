use Rattle.std.proofs.Common.{◌≡◌, ◌++◌, drop}
use Rattle.std.specs.List.{filter_map}
use Rattle.router_rules.specs.Statements.{err_in}
use Rattle.router_txn.proofs.refusals.errs_in.Given as goal

abbrev pub invariant-loop-shard : goal.invariant-loop-shard
invariant-loop-shard l =
    l.errs ++ filter_map err_in (drop l.shard-index l.refusals) ≡ filter_map err_in l.refusals
