use Rattle.std.proofs.Common.{◌≡◌, length}
use Rattle.version_store.specs.TakenBack.{all_taken_back, HadIds}
use Rattle.version_store.proofs.store.Store.take_all_back.Given as goal

abbrev pub decreases-loop-last : goal.decreases-loop-last
decreases-loop-last l = length l.left.items

abbrev pub invariant-loop-last : goal.invariant-loop-last
invariant-loop-last l = HadIds l.left.items × (all_taken_back l.tag l.left.items l.self
    ≡ all_taken_back l.tag l.initial.left.items l.initial.self)
