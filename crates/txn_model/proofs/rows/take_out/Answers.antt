use Rattle.std.proofs.Common.{sym, ◌∙◌}
use Rattle.query_eval.proofs.Placed.{taken_there_in, taken_between_in}
use Rattle.txn_model.proofs.rows.take_out.Goals as goal

pub returns-in-Ok : goal.returns-in-Ok
returns-in-Ok c = c.remove.ensures.items
    ∙ sym (taken_there_in c.args.id.now c.deref.result.now c.args.rows.now.items c.in-Ok.at
    c.deref.ensures.value c.requires c.in-Ok.ensures.within c.in-Ok.ensures.there)

pub returns-in-Err : goal.returns-in-Err
returns-in-Err c = sym (taken_between_in c.args.id.now c.deref.result.now c.args.rows.now.items
    c.in-Err._at c.deref.ensures.value c.in-Err.ensures.within c.in-Err.ensures.between)
