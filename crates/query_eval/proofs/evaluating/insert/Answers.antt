use Rattle.query_eval.specs.Held.{rows_in}
use Rattle.query_eval.proofs.Adding.{added_start, added_turn, added_refused, added_all}
use Rattle.query_eval.proofs.evaluating.insert.Goals as goal

pub loop-item-init : goal.loop-item-init
loop-item-init c = added_start c.args.items.now (rows_in c.args.rows.now) c.new-added.result.entries
    c.new-added.ensures.empty

pub loop-item-preserved : goal.loop-item-preserved
loop-item-preserved c = added_turn c.args.items.now c.loop-item.item-index c.item-item.result
    (rows_in c.args.rows.now) c.loop-item.added.entries c.insert_item.new.added.entries
    c.loop-item.n c.counted-n.result c.in-Ok.count c.item-item.is c.loop-item-test.true
    c.loop-item.invariant c.in-Ok.ensures c.counted-n.ensures

pub returns-in-Err : goal.returns-in-Err
returns-in-Err c = added_refused c.args.items.now c.loop-item.item-index c.item-item.result
    (rows_in c.args.rows.now) c.loop-item.added.entries c.loop-item.n c.args.ns.now c.in-Err.err
    c.item-item.is c.loop-item-test.true c.loop-item.invariant c.in-Err.ensures

pub returns : goal.returns
returns c = added_all c.args.items.now c.loop-item.item-index (rows_in c.args.rows.now)
    c.loop-item.added.entries c.loop-item.n c.args.ns.now c.in_ok-writes.writes
    c.loop-item-test.false c.loop-item.invariant c.in_ok-writes.ensures
