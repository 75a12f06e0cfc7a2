use Rattle.std.proofs.Common.{◌≡◌, ◌≤◌, drop, length}
use Rattle.std.specs.Option.{option_copied}
use Rattle.router_rules.specs.Statements.{least_err}
use Rattle.router_txn.proofs.refusals.least_err.Given as goal

abbrev pub invariant-loop-left : goal.invariant-loop-left
invariant-loop-left l = record {
  within : l.left ≤ length l.errs;
  least : option_copied l.least ≡ least_err (drop l.left l.errs);
}

abbrev pub decreases-loop-left : goal.decreases-loop-left
decreases-loop-left l = l.left
