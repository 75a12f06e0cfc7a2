use Rattle.node_wire.specs.Spelling.{part_bytes}
use Rattle.node_wire.proofs.Joined.{each_goes_on, each_ends}
use Rattle.node_wire.proofs.spell_fields.put_each_part.Goals as goal

pub loop-part-preserved : goal.loop-part-preserved
loop-part-preserved c = each_goes_on part_bytes c.args.parts.now c.loop-part.part-index _ _ _ _
    c.loop-part-test.true c.loop-part.invariant c.in_ok-put_part.ensures

pub returns : goal.returns
returns c = each_ends part_bytes c.args.parts.now c.loop-part.part-index _ _ c.loop-part-test.false
    c.loop-part.invariant
