use Rattle.std.proofs.Common.{[]}
use Rattle.std.proofs.lemmas.Result.{err_from_is_err_and}
use Rattle.journal_rec.specs.Reading.{each_write_at}
use Rattle.journal_rec.proofs.Turns.{writes_more, writes_end, writes_refused}
use Rattle.journal_rec.proofs.contents.read_each.Goals as goal

pub returns-in_err-more : goal.returns-in_err-more
returns-in_err-more c =
    let p = err_from_is_err_and c.from_residual.result c.from_residual.ensures.1 in
    rw (p.1, p.2) (writes_refused c.args.count c.loop.counter c.args.end c.loop.writes
    c.loop.rest.now c.in_err-more.field-0.0 (each_write_at c.args.count c.args.end []
    c.args.bytes.now) c.loop-test.true c.in_err-more.ensures c.loop.invariant)

pub loop-preserved : goal.loop-preserved
loop-preserved c =
    writes_more c.args.count c.loop.counter c.args.end c.loop.writes c.in_ok-more.more
    c.loop.rest.now c.in_ok-more.after.now (each_write_at c.args.count c.args.end []
    c.args.bytes.now) c.loop-test.true c.in_ok-more.ensures c.loop.invariant

pub returns : goal.returns
returns c = writes_end c.args.count c.loop.counter c.args.end c.loop.writes c.loop.rest.now
    (each_write_at c.args.count c.args.end [] c.args.bytes.now) c.loop-test.false c.loop.invariant
