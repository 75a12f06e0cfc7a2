use Rattle.std.proofs.Common.{ap, sym, subst, ◌∙◌}
use Rattle.txn_semantics.specs.Rows.{IsRising}
use Rattle.query_eval.specs.Held.{rows_in, all_written}
use Rattle.query_eval.proofs.Keeping.{taken_rows, taken_unwritten, taken_rises}
use Rattle.query_eval.proofs.rows.take_back.Goals as goal

pub returns-clause-rows : goal.returns-clause-rows
returns-clause-rows c = ap rows_in c.take_out.ensures
    ∙ taken_rows c.args.rows.now.items c.args.id.now c.requires.rising

pub returns-clause-rising : goal.returns-clause-rising
returns-clause-rising c = subst IsRising (sym c.take_out.ensures) (taken_rises c.args.rows.now.items
    c.args.id.now c.requires.rising)

pub returns-clause-unwritten : goal.returns-clause-unwritten
returns-clause-unwritten c = ap all_written c.take_out.ensures
    ∙ taken_unwritten c.args.rows.now.items c.args.id.now c.requires.rising c.requires.unwritten
