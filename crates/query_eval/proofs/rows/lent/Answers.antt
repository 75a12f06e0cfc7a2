use Rattle.std.proofs.Common.{ap, ◌∙◌, Some}
use Rattle.txn_types.specs.declared.id.Id.{Id}
use Rattle.query_eval.specs.Held.{some_of}
use Rattle.query_eval.proofs.Keeping.{lent_more, unwritten_more}
use Rattle.query_eval.proofs.rows.lent.Goals as goal

pub loop-id-preserved : goal.loop-id-preserved
loop-id-preserved c = record {
  lent = lent_more c.loop-id.held.items c.push.new.self.items c.args.rows.now
      c.loop-id.id-index _ c.loop-id-item.result c.in_ok-push.ensures.items
      (ap (λ (i : Id). (i, Some c.loop-id-item.result.1)) c.in_ok-copy.ensures
      ∙ ap some_of c.loop-id-item.is) c.loop-id-test.true c.loop-id.invariant.lent;
  unwritten = unwritten_more c.loop-id.held.items c.push.new.self.items _ _
      c.in_ok-push.ensures.items c.loop-id.invariant.unwritten;
}
