use Rattle.std.proofs.Common.{◌≡◌, not, drop, find}
use Rattle.router_rules.specs.Statements.{is_err}
use Rattle.router_txn.proofs.refusals.first_other.Given as goal

abbrev pub invariant-loop-shard : goal.invariant-loop-shard
invariant-loop-shard l = find (λ refusal. not (is_err refusal)) (drop l.shard-index l.refusals)
    ≡ find (λ refusal. not (is_err refusal)) l.refusals
