use Rattle.std.proofs.Common.{ℕ, ◌+◌, ◌-◌, ◌/◌, ◌<◌, length, sym, arith}
use Rattle.query_eval.proofs.Placed.{less_below, greater_above}
use Rattle.query_eval.proofs.held.place_of.Goals as goal

pub loop-low-preserved-in-Less : goal.loop-low-preserved-in-Less
loop-low-preserved-in-Less c =
    let m : ℕ = c.loop-low.low + (c.loop-low.high - c.loop-low.low) / 2 in
    let here : m < length c.args.rows.now = omega arith in
    record {
      ordered = omega arith;
      within = c.loop-low.invariant.within;
      below = less_below c.args.id.now c.args.rows.now m c.index-rows-middle.result c.requires here
          (sym c.in-Less.ensures);
      above = c.loop-low.invariant.above;
    }

pub loop-low-preserved : goal.loop-low-preserved
loop-low-preserved c =
    let m : ℕ = c.loop-low.low + (c.loop-low.high - c.loop-low.low) / 2 in
    let here : m < length c.args.rows.now = omega arith in
    record {
      ordered = omega arith;
      within = omega arith;
      below = c.loop-low.invariant.below;
      above = greater_above c.args.id.now c.args.rows.now m c.index-rows-middle.result c.requires
          here (sym c.in-Greater.ensures);
    }
