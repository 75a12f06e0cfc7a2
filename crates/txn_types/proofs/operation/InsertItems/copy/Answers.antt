use Rattle.std.proofs.Common.{subst, sym, ◌∙◌}
use Rattle.std.proofs.lemmas.List.{take_all}
use Rattle.txn_types.specs.Items.{AllHaveIds}
use Rattle.txn_types.proofs.operation.InsertItems.copy.Goals as goal

pub invariant_of-result : goal.invariant_of-result
invariant_of-result c = subst AllHaveIds (sym (c.loop-item.invariant
    ∙ take_all _ _ c.loop-item-test.false ∙ c.as_slice-item-items.ensures.value)) c.self.invariant
