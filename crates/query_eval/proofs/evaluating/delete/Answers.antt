use Rattle.std.proofs.Common.{◌+◌, ℕ, refl, sym, subst, ap, drop, arith}
use Rattle.txn_types.specs.declared.operation.OpReply.TheVariants.{Count}
use Rattle.txn_semantics.specs.Effect.{delete_step, without}
use Rattle.txn_semantics.specs.Meaning.{document_rules, capped, count_met, removed_of}
use Rattle.query_eval.specs.Acts.{Acted, Refuses, no_content}
use Rattle.query_eval.specs.Held.{rows_in}
use Rattle.query_eval.proofs.Acting.{without_append, without_none}
use Rattle.query_eval.proofs.Operating.{SoFar, so_far_start, so_far_turn, so_far_err, so_far_all}
use Rattle.query_eval.proofs.Operating.{so_far_ended, back}
use Rattle.query_eval.proofs.evaluating.delete.Goals as goal

pub loop-item-init : goal.loop-item-init
loop-item-init c = (
  0,
  so_far_start (delete_step document_rules) no_content without c.args.items.now c.args.rows.items
      without_none c.requires.rising c.requires.known,
)

pub loop-item-preserved : goal.loop-item-preserved
loop-item-preserved c =
    let turn = so_far_turn (delete_step document_rules) no_content without c.args.items.now
    c.loop-item.item-index c.item-item.result c.args.rows.items c.loop-item.rows.items
    c.delete_item.new.rows c.loop-item.n c.loop-item.invariant.0 c.in-Ok.met
    without_append c.item-item.is c.loop-item-test.true c.loop-item.invariant.1 (subst
    (λ xs. Acted no_content without (delete_step document_rules c.item-item.result (rows_in xs))
    xs c.delete_item.new.rows c.in-Ok.met) c.deref_mut.ensures.value c.in-Ok.ensures) in
    let same = back c.delete_item.new.rows c.loop-item.rows.items c.loop-item.rows.len (omega arith)
    (omega arith) in (
      capped (c.loop-item.invariant.0 + c.in-Ok.met.changed),
      subst (λ xs. SoFar (delete_step document_rules) no_content without c.args.items.now
          (drop (c.loop-item.item-index + 1) c.args.items.now) c.args.rows.items xs
          c.counted-n.result (capped (c.loop-item.invariant.0 + c.in-Ok.met.changed))) (sym same)
          (subst (λ k. SoFar (delete_step document_rules) no_content without c.args.items.now
          (drop (c.loop-item.item-index + 1) c.args.items.now) c.args.rows.items
          c.delete_item.new.rows k (capped (c.loop-item.invariant.0 + c.in-Ok.met.changed)))
          (sym c.counted-n.ensures) turn),
    )

pub returns-in-Err : goal.returns-in-Err
returns-in-Err c = so_far_err (delete_step document_rules) no_content without c.args.items.now
    c.loop-item.item-index c.item-item.result c.args.rows.items c.loop-item.rows.items c.loop-item.n
    c.loop-item.invariant.0 count_met (removed_of c.args.ns.now) c.in-Err.err c.item-item.is
    c.loop-item-test.true c.loop-item.invariant.1 (subst (λ xs. Refuses c.in-Err.err (delete_step
    document_rules c.item-item.result (rows_in xs))) c.deref_mut.ensures.value c.in-Err.ensures)

pub returns : goal.returns
returns c =
    let s = so_far_all (delete_step document_rules) no_content without c.args.items.now
    c.loop-item.item-index c.args.rows.items c.loop-item.rows.items c.loop-item.n
    c.loop-item.invariant.0 c.loop-item-test.false c.loop-item.invariant.1 in
    so_far_ended (delete_step document_rules) no_content without c.args.items.now c.args.rows.items
    c.loop-item.rows.items c.loop-item.n c.loop-item.invariant.0 count_met (removed_of
    c.args.ns.now) c.args.ns.now (Count c.loop-item.n 0) c.in_ok-writes.writes (λ row. refl)
    c.requires.unwritten s (ap (λ (x : ℕ). Count x 0) s.n_is) c.in_ok-writes.ensures
