use Rattle.std.proofs.Common.{◌≡◌, drop}
use Rattle.txn_model.specs.Commits.{parts_by, parts_in}
use Rattle.txn_model.proofs.gathering.parts_in.Given as goal

abbrev pub invariant-loop-rec : goal.invariant-loop-rec
invariant-loop-rec l = parts_by l.tag l.parts (drop l.rec-index l.recs) ≡ parts_in l.tag l.recs
