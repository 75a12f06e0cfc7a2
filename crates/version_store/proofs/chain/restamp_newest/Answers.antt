use Rattle.std.proofs.Common.{◌∷◌, ap, ◌∙◌, arith}
use Rattle.version_store.specs.declared.version.Version.{Version}
use Rattle.version_store.proofs.Chained.{newest_is, newest_set}
use Rattle.version_store.proofs.chain.restamp_newest.Goals as goal

pub returns-in-Some : goal.returns-in-Some
returns-in-Some c = λ newest older h.
    newest_set c.args.versions.now.items _ _ newest older (omega arith) h
    ∙ ap (λ (w : Version). record { stamp = c.args.stamp.now; doc = w.doc } ∷ older)
    (c.in-Some.ensures.value ∙ newest_is c.args.versions.now.items _ c.in-Some.newest.now newest
    older (omega arith) h)
