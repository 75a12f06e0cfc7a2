use Rattle.std.proofs.Common.{map, arith}
use Rattle.txn_semantics.specs.Merge.{capped_sum, n_of, modified_of}
use Rattle.query_eval.proofs.Joining.{sum_small, capped_small}
use Rattle.query_eval.proofs.merging.merge_counts.Goals as goal

pub loop-part-init : goal.loop-part-init
loop-part-init c = record {
  n = capped_small (capped_sum (map n_of c.args.parts.now)) (sum_small (map n_of c.args.parts.now));
  modified = capped_small (capped_sum (map modified_of c.args.parts.now))
      (sum_small (map modified_of c.args.parts.now));
  n_small = omega arith;
  modified_small = omega arith;
}
