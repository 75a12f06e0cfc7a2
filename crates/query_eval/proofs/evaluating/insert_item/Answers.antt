use Rattle.std.proofs.Common.{◌≡◌, ◌||◌, ◌++◌, ap₂, sym, true, false, Some, ◌∙◌}
use Rattle.txn_types.specs.Ids.{id_in}
use Rattle.txn_semantics.specs.Rows.{holds_id}
use Rattle.query_eval.specs.Held.{rows_in}
use Rattle.query_eval.proofs.Adding.{added_none, added_one, added_twice, there_by, there_first}
use Rattle.query_eval.proofs.Adding.{there_later}
use Rattle.query_eval.proofs.evaluating.insert_item.Goals as goal
use Rattle.query_eval.proofs.evaluating.insert_item.Goals.{then-holds-via-then-holds}
use Rattle.query_eval.proofs.evaluating.insert_item.Goals.{then-holds-via-else-holds+then-contains_key}

pub returns-in_default : goal.returns-in_default
returns-in_default c = added_none c.args.item.now (rows_in c.args.rows.now) c.args.added.now.entries
    (sym c.in_ok-id.ensures ∙ c.in_default.is)

pub returns-then-holds : goal.returns-then-holds
returns-then-holds c =
    let id = c.in-Some.id in
    let rows = rows_in c.args.rows.now in
    let added = c.args.added.now.entries in
    let has : id_in c.args.item.now.doc ≡ Some id = sym c.in_ok-id.ensures ∙ c.in-Some.is in
    let there : holds_id id (rows ++ added) ≡ true = elim c.then-holds.branch [
      | then-holds-via-then-holds w ↦
          there_first id rows added (sym c.holds.ensures ∙ w.if-holds.true)
      | then-holds-via-else-holds+then-contains_key w ↦
          there_later id rows added (sym w.contains_key.ensures ∙ w.if-contains_key.true)
    ] in
    added_twice c.args.item.now (rows ++ added) id c.refused.result has there c.refused.ensures

pub returns : goal.returns
returns c =
    let id = c.in-Some.id in
    let rows = rows_in c.args.rows.now in
    let added = c.args.added.now.entries in
    let has : id_in c.args.item.now.doc ≡ Some id = sym c.in_ok-id.ensures ∙ c.in-Some.is in
    let free : holds_id id (rows ++ added) ≡ false =
    there_by id rows added c.holds.result c.contains_key.result c.holds.ensures
    c.contains_key.ensures ∙ ap₂ (λ a b. a || b) c.if-holds.false c.if-contains_key.false in
    added_one c.args.item.now rows added c.add.new.added.entries id c.in_ok-doc.doc has free
    c.in_ok-add.ensures c.in_ok-doc.ensures
