use Rattle.std.proofs.Common.{◌∙◌}
use Rattle.txn_model.proofs.Gathered.{gathered_more}
use Rattle.txn_model.proofs.gathering.share_of.Goals as goal

pub loop-part-preserved : goal.loop-part-preserved
loop-part-preserved c = gathered_more _ c.args.tag c.loop-part.share c.take_journal.new.share
    c.args.parts.now c.loop-part.part-index _ c.records_of.result.now c.loop-part-test.true
    c.records_of.ensures c.in_ok-take_journal.ensures ∙ c.loop-part.invariant
