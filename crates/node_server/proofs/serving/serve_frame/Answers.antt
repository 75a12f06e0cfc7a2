use Rattle.std.proofs.Common.{Err, refl, ap, subst, ◌∙◌}
use Rattle.outside_core.proofs.Steps.{went_none}
use Rattle.node_server.specs.Ends.{Replies}
use Rattle.node_server.proofs.Courses.{part_none, frames_refused, frames_replied, asked_failed}
use Rattle.node_server.proofs.Courses.{asked_then}
use Rattle.node_server.proofs.serving.serve_frame.Goals as goal

pub returns-in-Err-Failed-clause-answered : goal.returns-in-Err-Failed-clause-answered
returns-in-Err-Failed-clause-answered g c =
    let is = c.in-Err-Failed.is ∙ ap Err c.in-Err-Failed.field-0-is in
    asked_failed g.T.Talk.makes g.T.Talk.carries g.M.Machine.takes
    c.args.frame _ _ _ _ _ c.event.result _ is c.event.ensures.makes
    ((refl, c.event.ensures.faults.cause is), went_none _)

pub returns-in-Err-Memory-clause-answered : goal.returns-in-Err-Memory-clause-answered
returns-in-Err-Memory-clause-answered g c =
    let is = c.in-Err-Memory.is ∙ ap Err c.in-Err-Memory.field-0-is in
    asked_failed g.T.Talk.makes g.T.Talk.carries g.M.Machine.takes c.args.frame _ _ _ _ _
    c.event.result _ is c.event.ensures.makes (tt, part_none _)

pub returns-in-Err-clause-answered : goal.returns-in-Err-clause-answered
returns-in-Err-clause-answered g c =
    asked_then g.T.Talk.makes g.T.Talk.carries g.M.Machine.takes c.args.frame
    c.in-Ok.event _ _ _ _ _ _ _ c.event.result _ _ c.in-Ok.is c.event.ensures.makes
    (c.answer.ensures.answered c.args.frame)
    (frames_refused (Unit {0}) c.args.frame _ _ _ _ _ c.in-Err.ended c.event.ensures.faults.later
    c.answer.result c.in-Err.is)

pub returns-clause-answered : goal.returns-clause-answered
returns-clause-answered g c =
    let same = c.as_slice.ensures ∙ c.requires.kept in
    let given = subst (λ frame. Replies frame (g.L.Link.held c.args.link.now)
    (g.L.Link.held c.write_reply.new.link) (g.L.Link.fault_count c.args.link.now)
    (g.L.Link.fault_count c.write_reply.new.link) c.in-Ok-answer.reply c.write_reply.result)
    same c.write_reply.ensures.replies in
    asked_then g.T.Talk.makes g.T.Talk.carries g.M.Machine.takes c.args.frame
    c.in-Ok.event _ _ _ _ _ _ _ c.event.result _ _ c.in-Ok.is c.event.ensures.makes
    (c.answer.ensures.answered c.args.frame)
    (frames_replied c.args.frame _ _ _ _ _ _ _ c.in-Ok-answer.reply c.answer.result
    c.write_reply.result c.in-Ok-answer.is given)
