use Rattle.std.proofs.Common.{Option, ℕ, ap, sym, ◌∙◌}
use Rattle.version_store.specs.Versions.{decided}
use Rattle.version_store.specs.declared.version.Stamp.TheVariants.{At}
use Rattle.version_store.proofs.Whole.{stamped_under}
use Rattle.version_store.proofs.store.Store.decide.Goals as goal

pub returns-in-Some : goal.returns-in-Some
returns-in-Some c =
    c.restamp.ensures.changed
    ∙ stamped_under c.args.tag (At c.in-Some.at) c.args.keys.now c.args.self.now
    c.restamp.ensures.kept.rises c.requires
    ∙ sym (ap (λ (at : Option ℕ). decided c.args.tag at c.args.self.now) c.in-Some.is)
