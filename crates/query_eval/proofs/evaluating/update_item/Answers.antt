use Rattle.std.proofs.Common.{◌<◌, length, get_or, refl, subst, Ok, arith}
use Rattle.txn_semantics.specs.Effect.{updated}
use Rattle.txn_semantics.specs.Meaning.{document_rules}
use Rattle.txn_semantics.specs.Rows.{laid_over}
use Rattle.query_eval.specs.Acts.{Changed, Changes, put_content}
use Rattle.query_eval.proofs.Placed.{same_at}
use Rattle.query_eval.proofs.Passing.{between_start, between_next, between_end}
use Rattle.query_eval.proofs.Turning.{update_met, update_one, update_refused, update_ended}
use Rattle.query_eval.proofs.evaluating.update_item.Goals as goal

pub loop-at-init : goal.loop-at-init
loop-at-init c =
    between_start (updated document_rules c.args.item.now) c.args.item.now.filter
    c.args.item.now.many put_content laid_over c.args.rows.now c.in_ok-places.places (λ rows. refl)
    c.requires.rising c.requires.known c.in_ok-places.ensures

pub returns-in-Err : goal.returns-in-Err
returns-in-Err c =
    let rows = c.loop-at.rows in
    let at = c.loop-at.at in
    let h : at < length rows = omega (arith, c.loop-at.invariant.within, c.loop-at-test.true) in
    let old = get_or rows at c.index-rows-at.result in
    update_refused c.args.item.now c.args.rows.now rows at c.loop-at.met.n c.loop-at.met.changed old
    c.in-Err.err c.loop-at.invariant.walk (same_at rows at c.index-rows-at.result old h) h
    c.in-Err.ensures

pub returns-then-not-item : goal.returns-then-not-item
returns-then-not-item c =
    let rows = c.loop-at.rows in
    let at = c.loop-at.at in
    let h : at < length rows = omega (arith, c.loop-at.invariant.within, c.loop-at-test.true) in
    let old = get_or rows at c.index-rows-at.result in
    let is = same_at rows at c.index-rows-at.result old h in
    let new = c.change_row.new.row in
    let changed : Changed c.args.item.now old new c.in-Ok-Some.count =
    subst (λ o. Changes c.args.item.now old new (Ok o)) c.in-Ok-Some.field-0-is
    c.in-Ok-Some.ensures in
    update_one c.args.item.now c.args.rows.now rows at c.loop-at.met.n c.loop-at.met.changed
    c.in-Ok-Some.count old new c.if-not-item.true c.loop-at.invariant.walk is h
    changed

pub loop-at-preserved : goal.loop-at-preserved
loop-at-preserved c =
    let rows = c.loop-at.rows in
    let at = c.loop-at.at in
    let to = c.in_ok-places.places.to in
    let met = c.loop-at.met in
    let h : at < length rows = omega (arith, c.loop-at.invariant.within, c.loop-at-test.true) in
    let old = get_or rows at c.index-rows-at.result in
    let is = same_at rows at c.index-rows-at.result old h in
    let new = c.change_row.new.row in
    let changed : Changed c.args.item.now old new c.in-Ok-Some.count =
    subst (λ o. Changes c.args.item.now old new (Ok o)) c.in-Ok-Some.field-0-is
    c.in-Ok-Some.ensures in
    between_next (updated document_rules c.args.item.now) c.args.item.now.filter
    c.args.item.now.many put_content laid_over c.args.rows.now rows at to met.n met.changed _ _ new
    c.loop-at-test.true c.loop-at.invariant
    (update_met c.args.item.now c.args.rows.now rows at met.n met.changed c.in-Ok-Some.count old
    new c.if-not-item.false c.loop-at.invariant.walk is h changed)

pub returns : goal.returns
returns c =
    update_ended c.args.item.now c.args.rows.now c.loop-at.rows (length c.loop-at.rows)
    c.loop-at.met
    (between_end (updated document_rules c.args.item.now) c.args.item.now.filter
    c.args.item.now.many put_content laid_over c.args.rows.now c.loop-at.rows c.loop-at.at
    c.in_ok-places.places.to c.loop-at.met.n c.loop-at.met.changed c.loop-at-test.false
    c.loop-at.invariant) (omega arith)
