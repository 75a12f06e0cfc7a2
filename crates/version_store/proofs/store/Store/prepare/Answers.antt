use Rattle.std.proofs.Common.{◌∙◌}
use Rattle.version_store.specs.declared.version.Stamp.TheVariants.{Prepared}
use Rattle.version_store.proofs.Whole.{stamped_under}
use Rattle.version_store.proofs.store.Store.prepare.Goals as goal

pub returns : goal.returns
returns c = c.restamp.ensures.changed ∙ stamped_under c.args.tag (Prepared c.args.tag c.args.at)
    c.args.keys.now c.args.self.now c.restamp.ensures.kept.rises c.requires
