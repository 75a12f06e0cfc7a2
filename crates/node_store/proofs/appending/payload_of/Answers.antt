use Rattle.std.proofs.Common.{◌≤◌, List, sym, subst}
use Rattle.txn_types.specs.declared.write.Write.{Write}
use Rattle.journal_rec.specs.Volume.{volume}
use Rattle.node_store.proofs.Known.{own_within}
use Rattle.node_store.proofs.appending.payload_of.Goals as goal

pub of_writes-requires : goal.of_writes-requires
of_writes-requires c = subst (λ (l : List Write). volume l ≤ 100000000) (sym c.writes_of.ensures)
    (own_within c.args.core.now.part c.in-Commit.m.lsid c.requires)

pub of_writes-requires-in-Prepare : goal.of_writes-requires-in-Prepare
of_writes-requires-in-Prepare c = subst (λ (l : List Write). volume l ≤ 100000000) (sym
    c.writes_of-in-Prepare.ensures) (own_within c.args.core.now.part c.in-Prepare.m.lsid c.requires)
