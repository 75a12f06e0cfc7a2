use Rattle.std.proofs.Common.{◌∙◌, ap}
use Rattle.txn_types.specs.BySession.{entry_of}
use Rattle.txn_types.specs.declared.node.Lsid.{Lsid}
use Rattle.session_table.specs.Sessions.{Table, session_of}
use Rattle.session_table.proofs.Entries.{found}
use Rattle.session_table.proofs.table.Sessions.find.Goals as goal

pub returns : goal.returns
returns c =
    c.get.ensures.value
    ∙ found c.new.result c.self.inside.entries.entries
    ∙ ap (λ (lsid : Lsid). entry_of lsid c.self.inside.entries.entries) c.new.ensures
    ∙ ap (λ (table : Table). session_of table c.args.lsid.now) c.self.view_is
