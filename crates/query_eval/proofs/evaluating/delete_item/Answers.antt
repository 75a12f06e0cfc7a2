use Rattle.std.proofs.Common.{◌<◌, length, get_or, arith, subst}
use Rattle.txn_semantics.specs.Effect.{without}
use Rattle.query_eval.specs.Acts.{Drops, no_content}
use Rattle.query_eval.proofs.Acting.{without_none}
use Rattle.query_eval.proofs.Placed.{same_at}
use Rattle.query_eval.proofs.Passing.{between_start, between_next, between_end}
use Rattle.query_eval.proofs.Turning.{gone, delete_met, delete_one, delete_ended}
use Rattle.query_eval.proofs.evaluating.delete_item.Goals as goal

pub loop-at-init : goal.loop-at-init
loop-at-init c = between_start gone c.args.item.now.filter c.args.item.now.many no_content without
    c.args.rows.now c.in_ok-places.places without_none c.requires.rising c.requires.known
    c.in_ok-places.ensures

pub returns-then-not-item : goal.returns-then-not-item
returns-then-not-item c =
    let rows = c.loop-at.rows in
    let at = c.loop-at.at in
    let h : at < length rows = omega (arith, c.loop-at.invariant.within, c.loop-at-test.true) in
    let old = get_or rows at c.index-rows-at.result in
    let is = same_at rows at c.index-rows-at.result old h in
    let drops = subst (Drops c.args.item.now.filter old c.drop_row.new.row)
    c.if-not-drop_row.false c.drop_row.ensures in
    delete_one c.args.item.now c.args.rows.now rows at c.loop-at.met.n c.loop-at.met.changed old
    c.drop_row.new.row c.if-not-item.true c.loop-at.invariant.walk is h drops

pub loop-at-preserved : goal.loop-at-preserved
loop-at-preserved c =
    let rows = c.loop-at.rows in
    let at = c.loop-at.at in
    let to = c.in_ok-places.places.to in
    let met = c.loop-at.met in
    let h : at < length rows = omega (arith, c.loop-at.invariant.within, c.loop-at-test.true) in
    let old = get_or rows at c.index-rows-at.result in
    let is = same_at rows at c.index-rows-at.result old h in
    let new = c.drop_row.new.row in
    let drops = subst (Drops c.args.item.now.filter old new) c.if-not-drop_row.false
    c.drop_row.ensures in
    between_next gone c.args.item.now.filter c.args.item.now.many no_content without
    c.args.rows.now rows at to met.n met.changed _ _ new c.loop-at-test.true c.loop-at.invariant
    (delete_met c.args.item.now c.args.rows.now rows at met.n met.changed old new
    c.if-not-item.false c.loop-at.invariant.walk is h drops)

pub returns : goal.returns
returns c = delete_ended c.args.item.now c.args.rows.now c.loop-at.rows (length c.loop-at.rows)
    c.loop-at.met (between_end gone c.args.item.now.filter c.args.item.now.many no_content without
    c.args.rows.now c.loop-at.rows c.loop-at.at c.in_ok-places.places.to c.loop-at.met.n
    c.loop-at.met.changed c.loop-at-test.false c.loop-at.invariant) (omega arith)
