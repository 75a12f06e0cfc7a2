use Rattle.std.proofs.Common.{◌≡◌, ◌++◌, drop, map}
use Rattle.router_rules.specs.Statements.{statement_to}
use Rattle.router_txn.proofs.statements.statements_to.Given as goal

abbrev pub invariant-loop-shard : goal.invariant-loop-shard
invariant-loop-shard l = l.posts ++ map (statement_to l.chunks l.lsid l.number l.t l.op)
    (drop l.shard-index l.shards) ≡ map (statement_to l.chunks l.lsid l.number l.t l.op) l.shards
