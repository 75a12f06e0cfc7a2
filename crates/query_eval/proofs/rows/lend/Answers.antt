use Rattle.std.proofs.Common.{ap, sym, subst, ◌∙◌}
use Rattle.txn_types.specs.declared.id.Id.{Id}
use Rattle.txn_semantics.specs.Rows.{IsRising, put_row}
use Rattle.txn_semantics.proofs.Parts.{rising_put}
use Rattle.query_eval.specs.Held.{rows_in, all_written}
use Rattle.query_eval.proofs.Keeping.{lent_rows, lent_unwritten}
use Rattle.query_eval.proofs.rows.lend.Goals as goal

pub returns-clause-rows : goal.returns-clause-rows
returns-clause-rows c = ap rows_in c.in_ok-put.ensures
    ∙ lent_rows c.args.rows.now.items _ c.args.doc c.requires.rising
    ∙ ap (λ (i : Id). put_row i c.args.doc.now (rows_in c.args.rows.now.items)) c.in_ok-id.ensures

pub returns-clause-rising : goal.returns-clause-rising
returns-clause-rising c = subst IsRising (sym c.in_ok-put.ensures) (rising_put _ _
    c.args.rows.now.items c.requires.rising)

pub returns-clause-unwritten : goal.returns-clause-unwritten
returns-clause-unwritten c = ap all_written c.in_ok-put.ensures
    ∙ lent_unwritten c.args.rows.now.items _ c.args.doc c.requires.rising c.requires.unwritten
