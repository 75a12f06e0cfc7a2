use Rattle.std.proofs.Common.{drop}
use Rattle.version_store.proofs.TakenBack.{IsLaying}
use Rattle.version_store.proofs.store.Store.put_all.Given as goal

abbrev pub invariant-loop-write : goal.invariant-loop-write
invariant-loop-write l =
    IsLaying l.tag l.self l.laid.items (drop l.write-index l.writes) l.initial.self l.writes
