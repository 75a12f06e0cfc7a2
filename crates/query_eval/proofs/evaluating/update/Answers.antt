use Rattle.std.proofs.Common.{◌+◌, ℕ, refl, sym, subst, ap₂, drop, arith}
use Rattle.txn_types.specs.declared.operation.OpReply.TheVariants.{Count}
use Rattle.txn_semantics.specs.Effect.{update_step}
use Rattle.txn_semantics.specs.Meaning.{document_rules, capped, count_both, put_of}
use Rattle.txn_semantics.specs.Rows.{laid_over}
use Rattle.query_eval.specs.Acts.{Acted, Refuses, put_content}
use Rattle.query_eval.specs.Held.{rows_in}
use Rattle.query_eval.proofs.Acting.{laid_append}
use Rattle.query_eval.proofs.Operating.{SoFar, so_far_start, so_far_turn, so_far_err, so_far_all}
use Rattle.query_eval.proofs.Operating.{so_far_ended, back}
use Rattle.query_eval.proofs.evaluating.update.Goals as goal

pub loop-item-init : goal.loop-item-init
loop-item-init c = so_far_start (update_step document_rules) put_content laid_over c.args.items.now
    c.args.rows.items (λ rows. refl) c.requires.rising c.requires.known

pub loop-item-preserved : goal.loop-item-preserved
loop-item-preserved c =
    let turn = so_far_turn (update_step document_rules) put_content laid_over c.args.items.now
    c.loop-item.item-index c.item-item.result c.args.rows.items c.loop-item.rows.items
    c.update_item.new.rows c.loop-item.n c.loop-item.modified c.in-Ok.met laid_append
    c.item-item.is c.loop-item-test.true c.loop-item.invariant (subst (λ xs.
    Acted put_content laid_over (update_step document_rules c.item-item.result (rows_in xs)) xs
    c.update_item.new.rows c.in-Ok.met) c.deref_mut.ensures.value c.in-Ok.ensures) in
    let same = back c.update_item.new.rows c.loop-item.rows.items c.loop-item.rows.len (omega arith)
    (omega arith) in
    subst (λ xs. SoFar (update_step document_rules) put_content laid_over c.args.items.now
    (drop (c.loop-item.item-index + 1) c.args.items.now) c.args.rows.items xs c.counted-n.result
    c.counted-modified.result) (sym same)
    (subst (λ k. SoFar (update_step document_rules) put_content laid_over c.args.items.now
    (drop (c.loop-item.item-index + 1) c.args.items.now) c.args.rows.items
    c.update_item.new.rows k c.counted-modified.result) (sym c.counted-n.ensures)
    (subst (λ k. SoFar (update_step document_rules) put_content laid_over c.args.items.now (drop
    (c.loop-item.item-index + 1) c.args.items.now) c.args.rows.items c.update_item.new.rows
    (capped (c.loop-item.n + c.in-Ok.met.n)) k) (sym c.counted-modified.ensures) turn))

pub returns-in-Err : goal.returns-in-Err
returns-in-Err c = so_far_err (update_step document_rules) put_content laid_over c.args.items.now
    c.loop-item.item-index c.item-item.result c.args.rows.items c.loop-item.rows.items c.loop-item.n
    c.loop-item.modified count_both (put_of c.args.ns.now) c.in-Err.err c.item-item.is
    c.loop-item-test.true c.loop-item.invariant (subst (λ xs. Refuses c.in-Err.err (update_step
    document_rules c.item-item.result (rows_in xs))) c.deref_mut.ensures.value c.in-Err.ensures)

pub returns : goal.returns
returns c =
    let s = so_far_all (update_step document_rules) put_content laid_over c.args.items.now
    c.loop-item.item-index c.args.rows.items c.loop-item.rows.items c.loop-item.n
    c.loop-item.modified c.loop-item-test.false c.loop-item.invariant in
    so_far_ended (update_step document_rules) put_content laid_over c.args.items.now
    c.args.rows.items c.loop-item.rows.items c.loop-item.n c.loop-item.modified count_both
    (put_of c.args.ns.now) c.args.ns.now (Count c.loop-item.n c.loop-item.modified)
    c.in_ok-writes.writes (λ row. refl) c.requires.unwritten s
    (ap₂ (λ (x : ℕ) y. Count x y) s.n_is s.modified_is) c.in_ok-writes.ensures
