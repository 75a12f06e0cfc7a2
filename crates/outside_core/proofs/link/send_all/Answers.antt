use Rattle.std.proofs.Common.{arith, ◌∙◌}
use Rattle.outside_core.proofs.Steps.{writing_kept, writing_more, writing_part}
use Rattle.outside_core.proofs.link.send_all.Goals as goal

pub returns-in_err-count-clause-part : goal.returns-in_err-count-clause-part
returns-in_err-count-clause-part g c =
    writing_part (writing_kept c.loop-rest.invariant.wrote c.in_err-count.ensures.bytes)

pub loop-rest-preserved : goal.loop-rest-preserved
loop-rest-preserved g c = record {
  later = omega (arith, c.loop-rest.invariant.later, c.in_ok-count.ensures.faults.later);
  ends = omega (arith, c.loop-rest.invariant.ends, c.in_ok-count.ensures.ends);
  left = c.in_ok-count.ensures.left ∙ c.loop-rest.invariant.left;
  wrote = rw c.split_at.ensures.back (writing_more c.in_ok-count.count c.loop-rest.invariant.wrote
      c.in_ok-count.ensures.bytes);
}
