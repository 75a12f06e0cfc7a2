use Rattle.std.proofs.Common.{◌≡◌, ◌++◌}
use Rattle.version_store.specs.Chains.{AreCollections}
use Rattle.version_store.specs.Nested.{flattened}
use Rattle.version_store.proofs.store.Store.copy.Given as goal

abbrev pub invariant-loop-ns : goal.invariant-loop-ns
invariant-loop-ns l = AreCollections (l.collections.entries ++ l.ns-iterator)
    × (flattened (l.collections.entries ++ l.ns-iterator) ≡ l.self)
