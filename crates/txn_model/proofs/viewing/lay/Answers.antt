use Rattle.std.proofs.Common.{sym, subst, ◌∙◌, rules}
use Rattle.txn_semantics.specs.Rows.{IsRising}
use Rattle.txn_semantics.proofs.Parts.{rising_put, rising_taken_out}
use Rattle.query_eval.proofs.Keeping.{written_put}
use Rattle.txn_model.proofs.Viewed.{written_delete}
use Rattle.txn_model.proofs.viewing.lay.Goals as goal

pub returns-in_ok-keep-in-Put-clause-rows : goal.returns-in_ok-keep-in-Put-clause-rows
returns-in_ok-keep-in-Put-clause-rows c =
    c.in_ok-keep-in-Put.ensures ∙ sym (written_put c.args.ns.now c.in-Put.there c.in-Put.id
    c.in-Put.doc c.args.rows.now.items c.args.write.now c.in-Put.is (search rules))

pub returns-in_ok-keep-in-Put-clause-rising : goal.returns-in_ok-keep-in-Put-clause-rising
returns-in_ok-keep-in-Put-clause-rising c = subst IsRising (sym c.in_ok-keep-in-Put.ensures)
    (rising_put _ _ c.args.rows.now.items c.requires)

pub returns-then-eq-2-clause-rows : goal.returns-then-eq-2-clause-rows
returns-then-eq-2-clause-rows c =
    c.take_out.ensures ∙ sym (written_delete c.args.ns.now c.in-Delete.there c.in-Delete.id
    c.args.rows.now.items c.args.write.now c.in-Delete.is (search rules))

pub returns-then-eq-2-clause-rising : goal.returns-then-eq-2-clause-rising
returns-then-eq-2-clause-rising c =
    subst IsRising (sym c.take_out.ensures) (rising_taken_out _ c.args.rows.now.items c.requires)
