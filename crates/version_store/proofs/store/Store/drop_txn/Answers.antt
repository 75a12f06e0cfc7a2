use Rattle.std.proofs.Common.{◌∙◌}
use Rattle.version_store.proofs.Whole.{dropped_under}
use Rattle.version_store.proofs.store.Store.drop_txn.Goals as goal

pub returns : goal.returns
returns c = c.take_out.ensures.changed ∙ dropped_under c.args.tag c.args.keys.now c.args.self.now
    c.take_out.ensures.kept.rises c.requires
