use Rattle.std.proofs.Common.{ap, ◌∙◌}
use Rattle.bson_core.specs.declared.value.Value.{Value}
use Rattle.node_wire.specs.Spelling.{value_bytes}
use Rattle.node_wire.specs.Output.{joined}
use Rattle.node_wire.proofs.Joined.{each_goes_on, each_ends}
use Rattle.node_wire.proofs.spell_filters.put_each_value.Goals as goal

pub loop-value-preserved : goal.loop-value-preserved
loop-value-preserved c =
    each_goes_on value_bytes c.args.values.now c.loop-value.value-index c.value-item.result
    c.loop-value.out _ _ c.loop-value-test.true c.loop-value.invariant
    (c.in_ok-put_value.ensures
    ∙ ap (λ (y : Value). joined c.loop-value.out (value_bytes y)) c.value-item.is)

pub returns : goal.returns
returns c = each_ends value_bytes c.args.values.now c.loop-value.value-index _ _
    c.loop-value-test.false c.loop-value.invariant
