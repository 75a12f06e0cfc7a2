use Rattle.std.proofs.Common.{Some, refl}
use Rattle.txn_model.specs.declared.ran.Ran.TheVariants.{Step}
use Rattle.play_steps.specs.Steps.{answer_text}
use Rattle.cluster_play.proofs.step.step.Goals as goal

pub returns-in_ok-took-in-Ok-clause-comes : goal.returns-in_ok-took-in-Ok-clause-comes
returns-in_ok-took-in-Ok-clause-comes g c =
    let st = c.in-Ok.ensures.stepped in
    let took = c.in_ok-took-in-Ok.ensures in (
      Some (Step c.in-Ok.answer.node st.taken c.in-Ok.answer.answer st.took.faults),
      answer_text c.args.player.now c.args.given c.in-Ok.answer.answer,
      took.text,
      (st.comes, took.room, st.took.happens, refl, took.player),
    )
