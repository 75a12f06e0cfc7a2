use Rattle.std.proofs.Common.{◌≡◌, drop, map}
use Rattle.txn_semantics.specs.Writes.{place_cmp}
use Rattle.version_store.specs.Versions.{restamped}
use Rattle.version_store.specs.Chains.{changed_under}
use Rattle.version_store.proofs.store.Store.restamp.Given as goal

abbrev pub invariant-loop-key : goal.invariant-loop-key
invariant-loop-key l = changed_under place_cmp (map (restamped l.tag l.stamp)) (drop l.key-index
    l.keys) l.self ≡ changed_under place_cmp (map (restamped l.tag l.stamp)) l.keys l.initial.self
