use Rattle.std.proofs.Common.{◌≡◌, length, drop}
use Rattle.std.specs.Cmp.Lexicographic.{slice_cmp}
use Rattle.bson_core.specs.Order.{value_cmp}
use Rattle.value_order.specs.Parts.{field_cmp}
use Rattle.value_order.proofs.order.+compare.Given as goal

abbrev pub invariant-compare_documents-loop-name : goal.invariant-compare_documents-loop-name
invariant-compare_documents-loop-name l = slice_cmp field_cmp (drop (length l.yielded) l.fields)
    (drop (length l.yielded) l.others) ≡ slice_cmp field_cmp l.fields l.others

abbrev pub invariant-compare_lists-loop-value : goal.invariant-compare_lists-loop-value
invariant-compare_lists-loop-value l = slice_cmp value_cmp (drop (length l.yielded) l.values)
    (drop (length l.yielded) l.others) ≡ slice_cmp value_cmp l.values l.others
