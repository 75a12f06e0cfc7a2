use Rattle.std.proofs.Common.{◌-◌, Some, ap, ◌∙◌, arith}
use Rattle.std.specs.Option.{option_copied}
use Rattle.router_txn.proofs.Least.{least_step}
use Rattle.router_txn.proofs.refusals.least_err.Goals as goal

pub loop-left-preserved : goal.loop-left-preserved
loop-left-preserved c = record {
  within = omega arith;
  least = ap Some c.lesser.ensures ∙ least_step (c.loop-left.left - 1) c.loop-left.left
      c.args.errs.now c.index-errs-left.result (option_copied c.loop-left.least) (omega arith)
      (omega arith) c.index-errs-left.is c.loop-left.invariant.least;
}
