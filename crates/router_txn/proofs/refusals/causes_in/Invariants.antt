use Rattle.std.proofs.Common.{◌≡◌, ◌++◌, drop}
use Rattle.std.specs.List.{filter_map}
use Rattle.router_rules.specs.Statements.{cause_in}
use Rattle.router_txn.proofs.refusals.causes_in.Given as goal

abbrev pub invariant-loop-shard : goal.invariant-loop-shard
invariant-loop-shard l =
    l.causes ++ filter_map cause_in (drop l.shard-index l.answers) ≡ filter_map cause_in l.answers
