use Rattle.std.proofs.Common.{ap, ◌∙◌}
use Rattle.bson_core.specs.Fields.{Document}
use Rattle.bson_core.specs.Spelling.{spelling}
use Rattle.node_wire.specs.Output.{joined}
use Rattle.node_wire.proofs.Joined.{each_goes_on, each_ends}
use Rattle.node_wire.proofs.spell_causes.put_each_document.Goals as goal

pub loop-doc-preserved : goal.loop-doc-preserved
loop-doc-preserved c =
    each_goes_on spelling c.args.docs.now c.loop-doc.doc-index c.doc-item.result c.loop-doc.out _ _
    c.loop-doc-test.true c.loop-doc.invariant
    (c.in_ok-put_document.ensures
    ∙ ap (λ (y : Document). joined c.loop-doc.out (spelling y)) c.doc-item.is)

pub returns : goal.returns
returns c = each_ends spelling c.args.docs.now c.loop-doc.doc-index _ _ c.loop-doc-test.false
    c.loop-doc.invariant
