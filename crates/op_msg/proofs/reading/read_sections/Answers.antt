use Rattle.std.proofs.Common.{◌≡◌, ◌+◌, ◌∷◌, None, length, [], rules}
use Rattle.std.proofs.lemmas.Result.{err_from_is_err_and}
use Rattle.op_msg.specs.Reading.{Found, sections_at}
use Rattle.op_msg.proofs.Turns.{sections_more, sections_end, sections_refused, sections_out}
use Rattle.op_msg.proofs.reading.read_sections.Goals as goal

pub returns-in_default : goal.returns-in_default
returns-in_default c =
    let found : Found = (c.loop.found.body, c.loop.found.seqs.items) in
    rw (← sections_end (length c.args.bytes.now + 1) c.loop.counter found c.loop.rest.now
    (sections_at (length c.args.bytes.now + 1) (None, []) c.args.bytes.now) c.loop-test.true
    c.in_default.ensures.cases c.loop.invariant) c.finish.ensures

pub returns-in_err-more : goal.returns-in_err-more
returns-in_err-more c =
    let p = err_from_is_err_and c.from_residual.result c.from_residual.ensures.1 in
    let found : Found = (c.loop.found.body, c.loop.found.seqs.items) in
    let is : c.loop.rest.now ≡ c.in-Some.kind.now ∷ c.in-Some.after.now = search rules in
    rw (p.1, p.2) (sections_refused (length c.args.bytes.now + 1) c.loop.counter found
    c.in-Some.kind.now c.loop.rest.now c.in-Some.after.now c.in_err-more.field-0.0
    (sections_at (length c.args.bytes.now + 1) (None, []) c.args.bytes.now) c.loop-test.true is
    c.in_err-more.ensures c.loop.invariant)

pub loop-preserved : goal.loop-preserved
loop-preserved c =
    let found : Found = (c.loop.found.body, c.loop.found.seqs.items) in
    let more : Found = (c.in_ok-more.more.body, c.in_ok-more.more.seqs.items) in
    let is : c.loop.rest.now ≡ c.in-Some.kind.now ∷ c.in-Some.after.now = search rules in
    sections_more (length c.args.bytes.now + 1) c.loop.counter found more
    c.in-Some.kind.now c.loop.rest.now c.in-Some.after.now c.in_ok-more.after.now
    (sections_at (length c.args.bytes.now + 1) (None, []) c.args.bytes.now) c.loop-test.true is
    c.in_ok-more.ensures c.loop.invariant

pub returns : goal.returns
returns c = sections_out (length c.args.bytes.now + 1) c.loop.counter
    (c.loop.found.body, c.loop.found.seqs.items) c.loop.rest.now (sections_at
    (length c.args.bytes.now + 1) (None, []) c.args.bytes.now) c.loop-test.false c.loop.invariant
