use Rattle.std.proofs.Common.{◌∙◌, sym, length}
use Rattle.std.proofs.lemmas.Slice.Zip.{zip_end}
use Rattle.bson_core.specs.Order.{value_cmp}
use Rattle.value_order.specs.Parts.{field_cmp}
use Rattle.value_order.proofs.Ends.{ended}
use Rattle.value_order.proofs.Unlike.{int_unlike, long_unlike, text_unlike, document_unlike}
use Rattle.value_order.proofs.Unlike.{list_unlike, binary_unlike, object_id_unlike, bool_unlike}
use Rattle.value_order.proofs.Unlike.{date_unlike, stamp_unlike, null_unlike}
use Rattle.value_order.proofs.order.+compare.Goals as goal
use Rattle.value_order.proofs.order.+compare.Goals.{compare-in_default-via-in-Int+in_default}
use Rattle.value_order.proofs.order.+compare.Goals.{compare-in_default-via-in-Long+in_default}
use Rattle.value_order.proofs.order.+compare.Goals.{compare-in_default-via-in-Text+in_default}
use Rattle.value_order.proofs.order.+compare.Goals.{compare-in_default-via-in-Doc+in_default}
use Rattle.value_order.proofs.order.+compare.Goals.{compare-in_default-via-in-List+in_default}
use Rattle.value_order.proofs.order.+compare.Goals.{compare-in_default-via-in-Bin+in_default}
use Rattle.value_order.proofs.order.+compare.Goals.{compare-in_default-via-in-Oid+in_default}
use Rattle.value_order.proofs.order.+compare.Goals.{compare-in_default-via-in-Bool+in_default}
use Rattle.value_order.proofs.order.+compare.Goals.{compare-in_default-via-in-Date+in_default}
use Rattle.value_order.proofs.order.+compare.Goals.{compare-in_default-via-in-Stamp+in_default}
use Rattle.value_order.proofs.order.+compare.Goals.{compare-in_default-via-in_default}

pub compare-returns-in_default : goal.compare-returns-in_default
compare-returns-in_default t c =
    let a = c.args.a.now in
    let b = c.args.b.now in
    elim c.in_default.branch [
      | compare-in_default-via-in-Int+in_default w ↦
          cc (int_unlike a b _ w.in_default.is-0 w.in_default.not-Int-1 w.in_default.not-Long-1)
      | compare-in_default-via-in-Long+in_default w ↦
          cc (long_unlike a b _ w.in_default.is-0 w.in_default.not-Int-1 w.in_default.not-Long-1)
      | compare-in_default-via-in-Text+in_default w ↦
          cc (text_unlike a b _ w.in_default.is-0 w.in_default.not-Text-1)
      | compare-in_default-via-in-Doc+in_default w ↦
          cc (document_unlike a b _ w.in_default.is-0 w.in_default.not-Doc-1)
      | compare-in_default-via-in-List+in_default w ↦
          cc (list_unlike a b _ w.in_default.is-0 w.in_default.not-List-1)
      | compare-in_default-via-in-Bin+in_default w ↦
          cc (binary_unlike a b _ w.in_default.is-0 w.in_default.not-Bin-1)
      | compare-in_default-via-in-Oid+in_default w ↦
          cc (object_id_unlike a b _ w.in_default.is-0 w.in_default.not-Oid-1)
      | compare-in_default-via-in-Bool+in_default w ↦
          cc (bool_unlike a b _ w.in_default.is-0 w.in_default.not-Bool-1)
      | compare-in_default-via-in-Date+in_default w ↦
          cc (date_unlike a b _ w.in_default.is-0 w.in_default.not-Date-1)
      | compare-in_default-via-in-Stamp+in_default w ↦
          cc (stamp_unlike a b _ w.in_default.is-0 w.in_default.not-Stamp-1)
      | compare-in_default-via-in_default w ↦ cc (null_unlike a b w.in_default.is-0)
    ]

pub compare_documents-returns : goal.compare_documents-returns
compare_documents-returns t c =
    let a = c.args.fields.now in
    let b = c.args.others.now in
    let k = zip_end a b c.loop-name.yielded c.into_iter-name-iterator.result
    c.loop-name.name-iterator c.next.new.self c.next.result (cc) (cc) c.loop-name.yielded_by
    c.in-None.is c.next.ensures.steps in
    c.cmp.ensures ∙ sym (ended field_cmp a b (length c.loop-name.yielded) k) ∙ c.loop-name.invariant

pub compare_lists-returns : goal.compare_lists-returns
compare_lists-returns t c =
    let a = c.args.values.now in
    let b = c.args.others.now in
    let k = zip_end a b c.loop-value.yielded c.into_iter-value-iterator.result
    c.loop-value.value-iterator c.next.new.self c.next.result (cc) (cc) c.loop-value.yielded_by
    c.in-None.is c.next.ensures.steps in
    c.cmp.ensures ∙ sym (ended value_cmp a b (length c.loop-value.yielded) k)
    ∙ c.loop-value.invariant
