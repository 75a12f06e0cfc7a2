use Rattle.std.proofs.Common.{rules, ℕ, [], ap, refl, subst, ◌∙◌, ◌<◌, ◌^◌, arith}
use Rattle.node_server.specs.Ends.{tally, Later, Serves, Served}
use Rattle.node_server.proofs.Courses.{served_none, served_more, goes_on, ends_so}
use Rattle.node_server.proofs.serving.serve_connection.Goals as goal

later_more : (a b c d e f g h i : ℕ) → Later (tally a b c) (tally d e f)
    → Later (tally d e f) (tally g h i) → Later (tally a b c) (tally g h i)
later_more a b c d e f g h i p q = record {
  faults = omega (arith, p.faults, q.faults);
  ends = omega (arith, p.ends, q.ends);
  talk = omega (arith, p.talk, q.talk);
}

pub loop-init : goal.loop-init
loop-init g c = record {
  table = refl;
  limit = ap (λ f. f.limit) c.new-incoming.ensures ∙ c.limit.ensures;
  few = subst (λ n. n < 2 ^ 32) c.limit.ensures (search rules);
  later = record { faults = omega arith; ends = omega arith; talk = omega arith };
  served = served_none g.T.Talk.makes g.T.Talk.carries g.M.Machine.takes _ _ _ _
      c.new-incoming.result.feeder.held _ _ (ap (λ f. f.held) c.new-incoming.ensures);
}

pub loop-preserved : goal.loop-preserved
loop-preserved g c =
    let i = c.loop.invariant in
    let n = subst (λ limit. Served g.T.Talk.makes g.T.Talk.carries g.M.Machine.takes c.loop.talk
    c.serve_next.new.talk c.loop.pass.knows c.serve_next.new.pass.knows c.loop.log
    c.serve_next.new.log limit c.loop.incoming.feeder.held (g.L.Link.left c.loop.link)
    (g.L.Link.left c.serve_next.new.link)
    (Serves limit c.serve_next.new.incoming.feeder.held (g.L.Link.left c.serve_next.new.link)
    (g.L.Link.held c.loop.link) (g.L.Link.held c.serve_next.new.link)
    (tally (g.L.Link.fault_count c.loop.link) (g.L.Link.end_count c.loop.link)
    (g.T.Talk.fault_count c.loop.talk)) (tally (g.L.Link.fault_count c.serve_next.new.link)
    (g.L.Link.end_count c.serve_next.new.link) (g.T.Talk.fault_count c.serve_next.new.talk))
    c.serve_next.result)) i.limit c.serve_next.ensures.served in record {
      table = c.serve_next.ensures.table ∙ i.table;
      limit = c.serve_next.ensures.limit ∙ i.limit;
      few = i.few;
      later = later_more _ _ _ _ _ _ _ _ _ i.later c.serve_next.ensures.later;
      served = served_more g.T.Talk.makes g.T.Talk.carries g.M.Machine.takes _ c.loop.talk
          _ _ c.loop.pass.knows _ _ c.loop.log _ (g.T.Talk.frame_limit c.args.talk.now)
          [] c.loop.incoming.feeder.held _ (g.L.Link.left c.loop.link) _
          (g.L.Link.held c.args.link.now) (g.L.Link.held c.loop.link) _ _ i.served n
          (goes_on g.T.Talk.makes g.T.Talk.carries g.M.Machine.takes
          (g.T.Talk.frame_limit c.args.talk.now) c.serve_next.new.incoming.feeder.held
          (g.L.Link.left c.serve_next.new.link) (g.L.Link.held c.args.link.now)
          (g.L.Link.held c.loop.link) (g.L.Link.held c.serve_next.new.link)
          (tally (g.L.Link.fault_count c.loop.link)
          (g.L.Link.end_count c.loop.link) (g.T.Talk.fault_count c.loop.talk))
          (tally (g.L.Link.fault_count c.serve_next.new.link) (g.L.Link.end_count
          c.serve_next.new.link) (g.T.Talk.fault_count c.serve_next.new.talk))
          c.serve_next.result c.in_default.not-Err);
    }

pub returns-in-Err-clause-served : goal.returns-in-Err-clause-served
returns-in-Err-clause-served g c =
    let i = c.loop.invariant in
    let n = subst (λ limit. Served g.T.Talk.makes g.T.Talk.carries g.M.Machine.takes c.loop.talk
    c.serve_next.new.talk c.loop.pass.knows c.serve_next.new.pass.knows c.loop.log
    c.serve_next.new.log limit c.loop.incoming.feeder.held (g.L.Link.left c.loop.link)
    (g.L.Link.left c.serve_next.new.link)
    (Serves limit c.serve_next.new.incoming.feeder.held (g.L.Link.left c.serve_next.new.link)
    (g.L.Link.held c.loop.link) (g.L.Link.held c.serve_next.new.link)
    (tally (g.L.Link.fault_count c.loop.link) (g.L.Link.end_count c.loop.link)
    (g.T.Talk.fault_count c.loop.talk)) (tally (g.L.Link.fault_count c.serve_next.new.link)
    (g.L.Link.end_count c.serve_next.new.link) (g.T.Talk.fault_count c.serve_next.new.talk))
    c.serve_next.result)) i.limit c.serve_next.ensures.served in
    served_more g.T.Talk.makes g.T.Talk.carries g.M.Machine.takes _ c.loop.talk _ _
    c.loop.pass.knows _ _ c.loop.log _ (g.T.Talk.frame_limit c.args.talk.now) []
    c.loop.incoming.feeder.held _ (g.L.Link.left c.loop.link) _ (g.L.Link.held c.args.link.now)
    (g.L.Link.held c.loop.link) _ _ i.served n
    (ends_so g.T.Talk.makes g.T.Talk.carries g.M.Machine.takes
    (g.T.Talk.frame_limit c.args.talk.now) c.serve_next.new.incoming.feeder.held
    (g.L.Link.left c.serve_next.new.link) (g.L.Link.held c.args.link.now)
    (g.L.Link.held c.loop.link) (g.L.Link.held c.serve_next.new.link)
    (tally (g.L.Link.fault_count c.args.link.now) (g.L.Link.end_count c.args.link.now)
    (g.T.Talk.fault_count c.args.talk.now)) (tally (g.L.Link.fault_count c.loop.link)
    (g.L.Link.end_count c.loop.link) (g.T.Talk.fault_count c.loop.talk))
    (tally (g.L.Link.fault_count c.serve_next.new.link)
    (g.L.Link.end_count c.serve_next.new.link) (g.T.Talk.fault_count c.serve_next.new.talk))
    c.serve_next.result c.in-Err.ended c.in-Err.is i.later)
