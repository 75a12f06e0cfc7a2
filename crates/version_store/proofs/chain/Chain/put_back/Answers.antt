use Rattle.std.proofs.Common.{ap, sym, ◌∙◌, reverse}
use Rattle.version_store.specs.Chains.{begins}
use Rattle.version_store.proofs.Chained.{put_back_first, put_back_none}
use Rattle.version_store.proofs.chain.Chain.put_back.Goals as goal

pub returns-then-begins : goal.returns-then-begins
returns-then-begins c =
    put_back_first c.args.tag.now c.args.version (reverse c.self.inside.versions.items)
    c.args.self.now _
    c.self.view_is c.self.invariant
    (ap (λ xs. begins c.args.tag.now (reverse xs)) (sym c.as_slice.ensures.value)
    ∙ sym c.begins.ensures ∙ c.if-begins.true) c.replace_newest.ensures

pub returns-else-begins : goal.returns-else-begins
returns-else-begins c =
    sym c.self.view_is
    ∙ put_back_none c.args.tag.now c.args.version (reverse c.self.inside.versions.items)
    c.args.self.now c.self.view_is
    (ap (λ xs. begins c.args.tag.now (reverse xs)) (sym c.as_slice.ensures.value)
    ∙ sym c.begins.ensures ∙ c.if-begins.false)
