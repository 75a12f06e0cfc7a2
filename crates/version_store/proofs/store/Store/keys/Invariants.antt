use Rattle.std.proofs.Common.{◌≡◌, ◌++◌}
use Rattle.version_store.specs.Versions.{keys_of}
use Rattle.version_store.specs.Nested.{flattened}
use Rattle.version_store.proofs.store.Store.keys.Given as goal

abbrev pub invariant-loop-ns : goal.invariant-loop-ns
invariant-loop-ns l = l.keys.items ++ keys_of l.tag (flattened l.ns-iterator) ≡ keys_of l.tag l.self
