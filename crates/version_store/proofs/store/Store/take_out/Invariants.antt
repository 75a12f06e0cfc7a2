use Rattle.std.proofs.Common.{◌≡◌, drop}
use Rattle.txn_semantics.specs.Writes.{place_cmp}
use Rattle.version_store.specs.Versions.{without}
use Rattle.version_store.specs.Chains.{changed_under, with_versions}
use Rattle.version_store.proofs.store.Store.take_out.Given as goal

abbrev pub invariant-loop-key : goal.invariant-loop-key
invariant-loop-key l = with_versions (changed_under place_cmp (without l.tag) (drop l.key-index
    l.keys) l.self) ≡ with_versions (changed_under place_cmp (without l.tag) l.keys l.initial.self)
