use Rattle.std.proofs.Common.{arith}
use Rattle.version_store.proofs.Chained.{newest_set}
use Rattle.version_store.proofs.chain.replace_newest.Goals as goal

pub returns-in-Some : goal.returns-in-Some
returns-in-Some c = λ newest older h.
    newest_set c.args.versions.now.items _ c.args.version newest older (omega arith) h
