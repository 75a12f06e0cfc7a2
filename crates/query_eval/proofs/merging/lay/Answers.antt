use Rattle.std.proofs.Common.{length, ap, sym, subst, ◌∙◌, arith}
use Rattle.std.specs.Vec.Iter.{into_iter_items}
use Rattle.txn_semantics.specs.Rows.{IsRising, laid_over}
use Rattle.txn_semantics.proofs.Parts.{rising_put}
use Rattle.query_eval.proofs.merging.lay.Goals as goal

pub loop-id-preserved : goal.loop-id-preserved
loop-id-preserved c =
    let steps = c.in-Some.ensures.steps in
    let size = ap length steps.0 in
    record {
      laid = ap (λ xs. laid_over xs (into_iter_items c.next.new.self)) c.in_ok-put.ensures
          ∙ ap (laid_over c.loop-id.all.items) (sym steps.0) ∙ c.loop-id.invariant.laid;
      rising = subst IsRising (sym c.in_ok-put.ensures) (rising_put c.in-Some.id c.in-Some.held
          c.loop-id.all.items c.loop-id.invariant.rising);
      count = omega arith;
    }
