use Rattle.std.proofs.Common.{drop}
use Rattle.journal_rec.specs.Follows.{first_refused}
use Rattle.shard_image.specs.Image.{image_of}
use Rattle.shard_image.proofs.Behind.{Comes}
use Rattle.shard_image.proofs.change.image_of.Given as goal

abbrev pub invariant-loop-rec : goal.invariant-loop-rec
invariant-loop-rec l =
    Comes l.image l.rec-index (drop l.rec-index l.recs) (image_of l.recs) (first_refused l.recs)
