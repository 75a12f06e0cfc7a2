use Rattle.client_streams.proofs.Cutting.{goes_on, goes_smaller, stops}
use Rattle.std.proofs.Common.{◌∙◌}
use Rattle.client_streams.proofs.connection.Connection.cut.Goals as goal

pub loop-smaller : goal.loop-smaller
loop-smaller c =
    let x = c.in_ok-cut_next.ensures.cut c.if-branch.true in
    goes_smaller c.loop.self c.cut_next.new.self x.0 x.1 x.2

pub loop-preserved : goal.loop-preserved
loop-preserved c =
    let x = c.in_ok-cut_next.ensures.cut c.if-branch.true in
    goes_on c.loop.self c.cut_next.new.self x.0 x.1 x.2 ∙ c.loop.invariant

pub returns : goal.returns
returns c = stops c.loop.self c.cut_next.new.self (λ again. c.in_ok-cut_next.ensures.last again
    c.if-branch.false) ∙ c.loop.invariant
