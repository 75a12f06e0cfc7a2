use Rattle.std.proofs.Common.{[]}
use Rattle.std.proofs.lemmas.Result.{err_from_is_err_and}
use Rattle.node_wire.specs.Reading.{each_at, batched_at}
use Rattle.node_wire.proofs.Turns.{each_more, each_end, each_refused}
use Rattle.node_wire.proofs.messages.read_each_batched.Goals as goal

pub returns-in_err-envelope : goal.returns-in_err-envelope
returns-in_err-envelope c =
    let p = err_from_is_err_and c.from_residual.result c.from_residual.ensures.1 in
    rw (p.1, p.2) (each_refused (batched_at c.args.end) c.args.count c.loop.counter
    c.loop.envelopes.items c.loop.rest.now c.in_err-envelope.field-0.0
    (each_at (batched_at c.args.end) c.args.count [] c.args.bytes.now) c.loop-test.true
    c.in_err-envelope.ensures c.loop.invariant)

pub loop-preserved : goal.loop-preserved
loop-preserved c =
    rw c.in_ok-push.ensures.items (each_more (batched_at c.args.end) c.args.count c.loop.counter
    c.loop.envelopes.items c.loop.rest.now c.in_ok-envelope.after.now c.in_ok-envelope.envelope
    (each_at (batched_at c.args.end) c.args.count [] c.args.bytes.now) c.loop-test.true
    c.in_ok-envelope.ensures c.loop.invariant)

pub returns : goal.returns
returns c = each_end (batched_at c.args.end) c.args.count c.loop.counter c.loop.envelopes.items
    c.loop.rest.now (each_at (batched_at c.args.end) c.args.count [] c.args.bytes.now)
    c.loop-test.false c.loop.invariant
