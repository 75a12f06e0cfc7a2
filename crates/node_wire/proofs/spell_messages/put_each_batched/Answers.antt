use Rattle.std.proofs.Common.{ap, ◌∙◌}
use Rattle.txn_types.specs.declared.message.Envelope.{Envelope}
use Rattle.node_wire.specs.Spelling.{batched_bytes}
use Rattle.node_wire.specs.Output.{joined}
use Rattle.node_wire.proofs.Joined.{each_goes_on, each_ends}
use Rattle.node_wire.proofs.spell_messages.put_each_batched.Goals as goal

pub loop-envelope-preserved : goal.loop-envelope-preserved
loop-envelope-preserved c =
    each_goes_on batched_bytes c.args.envelopes.now c.loop-envelope.envelope-index
    c.envelope-item.result c.loop-envelope.out _ _ c.loop-envelope-test.true
    c.loop-envelope.invariant
    (c.in_ok-put_batched.ensures
    ∙ ap (λ (y : Envelope). joined c.loop-envelope.out (batched_bytes y)) c.envelope-item.is)

pub returns : goal.returns
returns c = each_ends batched_bytes c.args.envelopes.now c.loop-envelope.envelope-index _ _
    c.loop-envelope-test.false c.loop-envelope.invariant
