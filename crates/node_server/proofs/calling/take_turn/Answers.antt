use Rattle.std.proofs.Common.{◌≡◌, [], sym, ap, subst, ◌∙◌}
use Rattle.node_server.specs.Acts.{calling}
use Rattle.node_server.specs.Ends.{Answered, Turns, heeded}
use Rattle.node_server.proofs.Steps.{answered_one}
use Rattle.node_server.proofs.calling.take_turn.Goals as goal

pub returns-clause-answered : goal.returns-clause-answered
returns-clause-answered g c = λ frame.
    let called = c.in-Ok.ensures.called in
    let is : c.heed.result ≡ heeded c.args.event c.in-Ok.made.0 = c.heed.ensures
    ∙ ap (λ e. heeded e c.in-Ok.made.0) c.in-Ok.ensures.again in
    subst (λ r. Answered g.T.Talk.makes g.T.Talk.carries g.M.Machine.takes c.args.talk.now
    c.call_once.new.talk c.args.pass.now.knows c.call_once.new.pass.knows
    c.args.log.now c.call_once.new.log (calling frame c.args.event) [] (Turns frame
    (g.T.Talk.fault_count c.args.talk.now) (g.T.Talk.fault_count c.call_once.new.talk) r))
    (sym is)
    (answered_one g.T.Talk.makes g.T.Talk.carries g.M.Machine.takes frame c.args.event
    c.args.talk.now c.call_once.new.talk c.args.pass.now.knows c.call_once.new.pass.knows
    c.args.log.now c.call_once.new.log (g.T.Talk.fault_count c.args.talk.now)
    (g.T.Talk.fault_count c.call_once.new.talk) called.0 called.1 c.in-Ok.made.0 called.2
    called.3 called.4 c.in-Ok.ensures.faults)
