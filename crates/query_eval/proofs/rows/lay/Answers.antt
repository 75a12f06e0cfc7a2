use Rattle.std.proofs.Common.{sym, ◌∙◌, rules}
use Rattle.query_eval.specs.Held.{rows_in}
use Rattle.query_eval.proofs.Keeping.{written_put}
use Rattle.query_eval.proofs.rows.lay.Goals as goal

pub returns-in_ok-lend-in-Put-clause-rows : goal.returns-in_ok-lend-in-Put-clause-rows
returns-in_ok-lend-in-Put-clause-rows c =
    c.in_ok-lend-in-Put.ensures.rows
    ∙ sym (written_put c.args.ns.now c.in-Put.there c.in-Put.id c.in-Put.doc
    (rows_in c.args.rows.now.items) c.args.write.now c.in-Put.is (search rules))
