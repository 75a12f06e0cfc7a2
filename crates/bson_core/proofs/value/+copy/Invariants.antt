use Rattle.std.proofs.Common.{◌≡◌, take}
use Rattle.bson_core.proofs.value.+copy.Given as goal

abbrev pub invariant-copy_doc-loop-name : goal.invariant-copy_doc-loop-name
invariant-copy_doc-loop-name l = l.copy.items ≡ take l.name-index l.name-items

abbrev pub invariant-copy_list-loop-value : goal.invariant-copy_list-loop-value
invariant-copy_list-loop-value l = l.copy.items ≡ take l.value-index l.value-items
