use Rattle.std.proofs.Common.{List, ap, sym, subst, ◌∙◌}
use Rattle.version_store.specs.declared.laid.Laid.{Laid}
use Rattle.version_store.specs.TakenBack.{HadIds, all_taken_back}
use Rattle.version_store.proofs.TakenBack.{back_last, had_less}
use Rattle.version_store.proofs.store.Store.take_all_back.Goals as goal

pub loop-last-preserved : goal.loop-last-preserved
loop-last-preserved c =
    let tag = c.args.tag.now in
    let left = c.pop.new.self.items in
    let had = had_less left c.in-Some.last (subst HadIds c.in-Some.ensures.items
    c.loop-last.invariant.0) in (
      had.0,
      ap (all_taken_back tag left) c.take_back.ensures
          ∙ sym (back_last tag left c.in-Some.last c.loop-last.self)
          ∙ sym (ap (λ (l : List Laid). all_taken_back tag l c.loop-last.self)
          c.in-Some.ensures.items)
          ∙ c.loop-last.invariant.1,
    )

pub take_back-requires : goal.take_back-requires
take_back-requires c = (had_less c.pop.new.self.items c.in-Some.last
    (subst HadIds c.in-Some.ensures.items c.loop-last.invariant.0)).1
