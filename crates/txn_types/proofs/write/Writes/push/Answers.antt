use Rattle.std.proofs.Common.{subst, sym}
use Rattle.txn_types.specs.Writes.{AllHaveOwnIds}
use Rattle.txn_types.proofs.Kept.{kept_more}
use Rattle.txn_types.proofs.write.Writes.push.Goals as goal

pub invariant_of-self-2 : goal.invariant_of-self-2
invariant_of-self-2 c = subst AllHaveOwnIds (sym c.in_ok-push.ensures.items)
    (kept_more c.self.inside.writes.items c.args.write c.self.invariant c.requires)
