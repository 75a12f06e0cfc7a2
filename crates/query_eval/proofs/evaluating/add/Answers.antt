use Rattle.std.proofs.Common.{◌∙◌}
use Rattle.query_eval.proofs.Adding.{inserted}
use Rattle.query_eval.proofs.evaluating.add.Goals as goal

pub returns-in-Ok : goal.returns-in-Ok
returns-in-Ok c =
    c.in-Ok.ensures.entries ∙ inserted c.args.id c.args.doc c.args.added.now.entries
