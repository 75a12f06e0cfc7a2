use Rattle.std.proofs.Common.{◌≡◌, drop}
use Rattle.txn_model.specs.Commits.{prepared_in}
use Rattle.txn_model.specs.Gathering.{gathered}
use Rattle.txn_model.proofs.gathering.take_journal.Given as goal

abbrev pub invariant-loop-rec : goal.invariant-loop-rec
invariant-loop-rec l = gathered l.share (prepared_in l.tag (drop l.rec-index l.recs))
    ≡ gathered l.initial.share (prepared_in l.tag l.recs)
