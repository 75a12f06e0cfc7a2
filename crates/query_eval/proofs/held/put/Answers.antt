use Rattle.std.proofs.Common.{sym, ◌∙◌}
use Rattle.query_eval.proofs.Placed.{put_there_in, put_between_in}
use Rattle.query_eval.proofs.held.put.Goals as goal

pub returns-in-Ok : goal.returns-in-Ok
returns-in-Ok c = sym (put_there_in c.args.id c.args.held c.deref.result.now c.args.rows.now.items
    c.in-Ok.at c.deref.ensures.value c.requires c.in-Ok.ensures.within c.in-Ok.ensures.there)

pub returns-in_ok-insert-in-Err : goal.returns-in_ok-insert-in-Err
returns-in_ok-insert-in-Err c = c.in_ok-insert-in-Err.ensures.items
    ∙ sym (put_between_in c.args.id c.args.held c.deref.result.now c.args.rows.now.items c.in-Err.at
    c.deref.ensures.value c.in-Err.ensures.within c.in-Err.ensures.between)
