use Rattle.std.proofs.Common.{length, ◌+◌}
use Rattle.std.proofs.lemmas.Result.{err_from_is_err_and}
use Rattle.bson_core.specs.Reading.{value_by, nested_at, elements_at}
use Rattle.bson_core.proofs.Loop.{goes_on, stops, refuses, ends}
use Rattle.bson_core.proofs.reading.+value.Goals as goal

pub read_elements-returns-in_err-field : goal.read_elements-returns-in_err-field
read_elements-returns-in_err-field t c =
    let p = err_from_is_err_and c.from_residual.result c.from_residual.ensures.1 in
    let read = value_by (nested_at c.args.levels) in
    let count = length c.args.bytes.now + 1 in
    rw (p.1, p.2) (refuses c.in_err-field.field-0.0 read c.args.start
    c.args.last_at c.loop.fields.items count c.loop.counter c.loop.rest.now
    (elements_at read c.args.start c.args.last_at count c.args.bytes.now) c.loop-test.true
    c.in_err-field.ensures c.loop.invariant)

pub read_elements-returns-in_default : goal.read_elements-returns-in_default
read_elements-returns-in_default t c =
    let read = value_by (nested_at c.args.levels) in
    let count = length c.args.bytes.now + 1 in
    stops read c.args.start c.args.last_at c.loop.fields.items count c.loop.counter c.loop.rest.now
    (elements_at read c.args.start c.args.last_at count c.args.bytes.now) c.loop-test.true
    (rw c.in_default.is at c.in_ok-field.ensures) c.loop.invariant

pub read_elements-loop-preserved : goal.read_elements-loop-preserved
read_elements-loop-preserved t c =
    let read = value_by (nested_at c.args.levels) in
    let count = length c.args.bytes.now + 1 in
    rw c.in_ok-push.ensures.items (goes_on read c.args.start c.args.last_at c.loop.fields.items
    count c.loop.counter c.loop.rest.now c.in-Some.field c.in-Some.after.now
    (elements_at read c.args.start c.args.last_at count c.args.bytes.now) c.loop-test.true
    (rw c.in-Some.is at c.in_ok-field.ensures) c.loop.invariant)

pub read_elements-returns : goal.read_elements-returns
read_elements-returns t c =
    let read = value_by (nested_at c.args.levels) in
    let count = length c.args.bytes.now + 1 in
    ends read c.args.start c.args.last_at c.loop.fields.items count c.loop.counter c.loop.rest.now
    (elements_at read c.args.start c.args.last_at count c.args.bytes.now) c.loop-test.false
    c.loop.invariant
