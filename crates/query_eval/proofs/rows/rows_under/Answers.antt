use Rattle.std.proofs.Common.{ap}
use Rattle.txn_semantics.specs.Rows.{under}
use Rattle.query_eval.proofs.Keeping.{rows_all, rising_all}
use Rattle.query_eval.proofs.rows.rows_under.Goals as goal

pub loop-write-init : goal.loop-write-init
loop-write-init c = record {
  rows = ap (λ xs. under c.args.ns.now xs c.args.own.now) (rows_all _ c.args.rows.now
      c.in_ok-held.ensures.lent);
  rising = rising_all _ c.args.rows.now c.in_ok-held.ensures.lent c.requires;
  unwritten = c.in_ok-held.ensures.unwritten;
}
