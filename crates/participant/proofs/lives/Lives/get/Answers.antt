use Rattle.std.proofs.Common.{List, ap, ◌∙◌}
use Rattle.txn_types.specs.BySession.{entry_of}
use Rattle.txn_types.specs.Order.{lsid_cmp}
use Rattle.txn_types.specs.declared.node.Lsid.{Lsid}
use Rattle.version_store.proofs.Keyed.{found}
use Rattle.participant.specs.declared.said.Open.{Open}
use Rattle.participant.proofs.lives.Lives.get.Goals as goal

pub returns : goal.returns
returns c =
    c.get.ensures.value
    ∙ found lsid_cmp c.new.result c.self.inside.lives.entries
    ∙ ap (λ (lsid : Lsid). entry_of lsid c.self.inside.lives.entries) c.new.ensures
    ∙ ap (λ (rows : List (Lsid × Open)). entry_of c.args.lsid.now rows) c.self.view_is
