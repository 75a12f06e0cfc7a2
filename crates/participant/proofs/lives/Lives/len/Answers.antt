use Rattle.std.proofs.Common.{List, subst}
use Rattle.txn_types.specs.Order.{lsid_cmp}
use Rattle.txn_types.specs.declared.node.Lsid.{Lsid}
use Rattle.txn_semantics.specs.Keyed.{Rises}
use Rattle.version_store.proofs.Keyed.{rises_of}
use Rattle.participant.specs.declared.said.Open.{Open}
use Rattle.participant.proofs.lives.Lives.len.Goals as goal

pub returns : goal.returns
returns c = subst (λ (rows : List (Lsid × Open)). Rises lsid_cmp rows) c.self.view_is
    (rises_of lsid_cmp c.self.inside.lives.entries c.len.ensures.ordered)
