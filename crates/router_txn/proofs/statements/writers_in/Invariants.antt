use Rattle.std.proofs.Common.{◌≡◌, ◌++◌, drop}
use Rattle.std.specs.List.{filter_map}
use Rattle.router_rules.specs.Statements.{writer_in}
use Rattle.router_txn.proofs.statements.writers_in.Given as goal

abbrev pub invariant-loop-shard : goal.invariant-loop-shard
invariant-loop-shard l = l.writers ++ filter_map writer_in (drop l.shard-index l.answers)
    ≡ filter_map writer_in l.answers
