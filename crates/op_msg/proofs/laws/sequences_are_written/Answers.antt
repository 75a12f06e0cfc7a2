use Rattle.std.proofs.Common.{subst}
use Rattle.std.specs.List.{All}
use Rattle.std.proofs.lemmas.List.{take_all}
use Rattle.std.proofs.lemmas.List.Elements.{All-more}
use Rattle.op_msg.specs.Written.{IsWritten, IsSequenceWritten}
use Rattle.op_msg.proofs.laws.sequences_are_written.Goals as goal

pub loop-name-preserved : goal.loop-name-preserved
loop-name-preserved c =
    let documents : All IsWritten c.loop-name-item.result.1 =
    subst (All IsWritten) c.as_slice.ensures c.documents_are_written.ensures in
    All-more IsSequenceWritten c.args.seqs.now c.loop-name.name-index
    c.loop-name-item.result c.loop-name-test.true c.loop-name.invariant
    (subst IsSequenceWritten c.loop-name-item.is (c.as_str-name.ensures.name, documents))

pub returns : goal.returns
returns c = subst (All IsSequenceWritten) (take_all c.loop-name.name-index c.args.seqs.now
    c.loop-name-test.false) c.loop-name.invariant
