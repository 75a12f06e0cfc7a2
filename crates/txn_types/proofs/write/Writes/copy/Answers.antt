use Rattle.std.proofs.Common.{subst, sym, ◌∙◌}
use Rattle.std.proofs.lemmas.List.{take_all}
use Rattle.txn_types.specs.Writes.{AllHaveOwnIds}
use Rattle.txn_types.proofs.write.Writes.copy.Goals as goal

pub invariant_of-result : goal.invariant_of-result
invariant_of-result c = subst AllHaveOwnIds (sym (c.loop-write.invariant
    ∙ take_all _ _ c.loop-write-test.false ∙ c.as_slice-write-items.ensures.value)) c.self.invariant
