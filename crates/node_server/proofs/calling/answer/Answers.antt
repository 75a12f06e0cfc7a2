use Rattle.std.proofs.Common.{Ok, arith, refl, ap, ◌∙◌}
use Rattle.node_server.proofs.Steps.{answering_none, answering_more, turns_call, turns_as}
use Rattle.node_server.proofs.calling.answer.Goals as goal

pub loop-init : goal.loop-init
loop-init g c = record {
  table = refl;
  later = omega arith;
  answered = λ frame. answering_none g.T.Talk.makes g.T.Talk.carries g.M.Machine.takes frame
      c.args.event c.args.talk.now c.args.pass.now.knows c.args.log.now;
}

pub loop-preserved : goal.loop-preserved
loop-preserved g c = record {
  table = c.take_turn.ensures.table ∙ c.loop.invariant.table;
  later = omega (arith, c.loop.invariant.later, c.take_turn.ensures.later);
  answered =
      λ frame. answering_more g.T.Talk.makes g.T.Talk.carries g.M.Machine.takes frame c.loop.event _
      _ _ _ _ _ _ _ _ _ _ _ (c.loop.invariant.answered frame) (c.take_turn.ensures.answered frame)
      (turns_call frame _ _ c.take_turn.result c.in-Call.next (c.in-Ok.is ∙ ap Ok c.in-Call.is));
}

pub returns-in-Err-clause-answered : goal.returns-in-Err-clause-answered
returns-in-Err-clause-answered g c =
    λ frame. answering_more g.T.Talk.makes g.T.Talk.carries g.M.Machine.takes frame c.loop.event _ _
    _ _ _ _ _ _ _ _ _ _ (c.loop.invariant.answered frame) (c.take_turn.ensures.answered frame)
    (turns_as frame _ _ _ c.take_turn.result _ c.loop.invariant.later c.in-Err.is)

pub returns-in-Write-clause-answered : goal.returns-in-Write-clause-answered
returns-in-Write-clause-answered g c =
    λ frame. answering_more g.T.Talk.makes g.T.Talk.carries g.M.Machine.takes frame c.loop.event _ _
    _ _ _ _ _ _ _ _ _ _ (c.loop.invariant.answered frame) (c.take_turn.ensures.answered frame)
    (turns_as frame _ _ _ c.take_turn.result _ c.loop.invariant.later
    (c.in-Ok.is ∙ ap Ok c.in-Write.is))

pub returns-in-Close-clause-answered : goal.returns-in-Close-clause-answered
returns-in-Close-clause-answered g c =
    λ frame. answering_more g.T.Talk.makes g.T.Talk.carries g.M.Machine.takes frame c.loop.event _ _
    _ _ _ _ _ _ _ _ _ _ (c.loop.invariant.answered frame) (c.take_turn.ensures.answered frame)
    (turns_as frame _ _ _ c.take_turn.result _ c.loop.invariant.later
    (c.in-Ok.is ∙ ap Ok c.in-Close.is))
