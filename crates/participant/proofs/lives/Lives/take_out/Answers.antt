use Rattle.std.proofs.Common.{List, ap, ◌∙◌}
use Rattle.txn_types.specs.BySession.{entry_of}
use Rattle.txn_types.specs.Order.{lsid_cmp}
use Rattle.txn_types.specs.declared.node.Lsid.{Lsid}
use Rattle.txn_types.proofs.Orders.{lsid_total, lsid_exact}
use Rattle.txn_semantics.specs.Keyed.{taken_out}
use Rattle.version_store.proofs.Keyed.{found, rises_of}
use Rattle.participant.specs.declared.said.Open.{Open}
use Rattle.participant.proofs.Ordered.{removed}
use Rattle.participant.proofs.lives.Lives.take_out.Goals as goal

pub returns-clause-left : goal.returns-clause-left
returns-clause-left c =
    c.remove.ensures.entries
    ∙ removed lsid_cmp lsid_total lsid_exact c.new.result c.self.inside.lives.entries
    (rises_of lsid_cmp c.self.inside.lives.entries c.len-count.ensures.ordered)
    ∙ ap (λ (lsid : Lsid). taken_out lsid_cmp lsid c.self.inside.lives.entries) c.new.ensures
    ∙ ap (λ (rows : List (Lsid × Open)). taken_out lsid_cmp c.args.lsid.now rows) c.self.view_is

pub returns-clause-taken : goal.returns-clause-taken
returns-clause-taken c =
    c.remove.ensures.value
    ∙ found lsid_cmp c.new.result c.self.inside.lives.entries
    ∙ ap (λ (lsid : Lsid). entry_of lsid c.self.inside.lives.entries) c.new.ensures
    ∙ ap (λ (rows : List (Lsid × Open)). entry_of c.args.lsid.now rows) c.self.view_is
