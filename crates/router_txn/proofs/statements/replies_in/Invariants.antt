use Rattle.std.proofs.Common.{◌≡◌, ◌++◌, drop}
use Rattle.std.specs.List.{filter_map}
use Rattle.router_rules.specs.Statements.{reply_in}
use Rattle.router_txn.proofs.statements.replies_in.Given as goal

abbrev pub invariant-loop-shard : goal.invariant-loop-shard
invariant-loop-shard l =
    l.replies ++ filter_map reply_in (drop l._shard-index l.answers) ≡ filter_map reply_in l.answers
