use Rattle.std.proofs.Common.{subst, sym}
use Rattle.txn_types.specs.Items.{AllHaveIds}
use Rattle.txn_types.proofs.Kept.{ids_more}
use Rattle.txn_types.proofs.operation.InsertItems.push.Goals as goal

pub invariant_of-self-2 : goal.invariant_of-self-2
invariant_of-self-2 c = subst AllHaveIds (sym c.in_ok-push.ensures.items)
    (ids_more c.self.inside.items.items c.args.item c.self.invariant c.requires)
