use Rattle.std.proofs.Common.{List, sym, subst}
use Rattle.txn_types.specs.declared.write.Write.{Write}
use Rattle.version_store.specs.TakenBack.{AreFree}
use Rattle.version_store.proofs.TakenBack.{free_without_conflict}
use Rattle.participant.proofs.part.Participant.write_free.Goals as goal

pub put-requires-clause-free : goal.put-requires-clause-free
put-requires-clause-free c =
    subst (λ (writes : List Write). AreFree c.args.m.now.tag c.args.self.now.store writes)
    (sym c.as_slice-2.ensures.writes)
    (free_without_conflict c.args.m.now.tag c.args.read_at c.args.self.now.store c.args.writes
    c.requires.free)
