use Rattle.node_server.specs.Ends.{tally}
use Rattle.node_server.proofs.Courses.{served_stopped, served_dropped, served_frame}
use Rattle.node_server.proofs.serving.serve_next.Goals as goal

pub returns-in-Err-clause-served : goal.returns-in-Err-clause-served
returns-in-Err-clause-served g c =
    served_stopped g.T.Talk.makes g.T.Talk.carries g.M.Machine.takes _ _ _ _ _ _ _ _ _ _
    (tally (g.L.Link.fault_count c.args.link.now) (g.L.Link.end_count c.args.link.now)
    (g.T.Talk.fault_count c.args.talk.now))
    (tally (g.L.Link.fault_count c.next.new.link) (g.L.Link.end_count c.next.new.link)
    (g.T.Talk.fault_count c.args.talk.now))
    c.in-Err.ended c.next.result c.in-Err.is c.next.ensures.held c.next.ensures.fetches

pub returns-in_default-clause-served : goal.returns-in_default-clause-served
returns-in_default-clause-served g c =
    served_dropped g.T.Talk.makes g.T.Talk.carries g.M.Machine.takes _ _ _ _ _ _ _ _ _ _
    (tally (g.L.Link.fault_count c.args.link.now) (g.L.Link.end_count c.args.link.now)
    (g.T.Talk.fault_count c.args.talk.now))
    (tally (g.L.Link.fault_count c.next.new.link) (g.L.Link.end_count c.next.new.link)
    (g.T.Talk.fault_count c.args.talk.now))
    _ _ _ _ c.next.result c.next.ensures.held c.next.ensures.fetches

pub returns-clause-served : goal.returns-clause-served
returns-clause-served g c =
    served_frame g.T.Talk.makes g.T.Talk.carries g.M.Machine.takes _ _ _ _ _ _ _ _
    c.next.new.self.feeder.held _ _ _ _ _ _
    (g.L.Link.fault_count c.args.link.now) (g.L.Link.fault_count c.next.new.link)
    (g.L.Link.fault_count c.serve_frame.new.link)
    (g.L.Link.end_count c.args.link.now) (g.L.Link.end_count c.next.new.link)
    (g.L.Link.end_count c.serve_frame.new.link)
    (g.T.Talk.fault_count c.args.talk.now) (g.T.Talk.fault_count c.serve_frame.new.talk)
    c.in-Ok.frame c.next.result c.serve_frame.result c.next.ensures.later.0 c.in-Ok.is
    c.serve_frame.ensures.left c.next.ensures.held c.next.ensures.fetches
    c.serve_frame.ensures.answered
