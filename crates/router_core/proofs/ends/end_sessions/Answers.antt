use Rattle.std.proofs.Common.{[], ◌∙◌}
use Rattle.txn_types.specs.declared.node.Lsid.TheVariants.{Client}
use Rattle.router_state.specs.Deeds.{Move}
use Rattle.router_plan.specs.Plans.{state_of}
use Rattle.router_core.proofs.Ending.{next_state, next_given}
use Rattle.router_core.proofs.ends.end_sessions.Goals as goal

pub loop-lsid-preserved : goal.loop-lsid-preserved
loop-lsid-preserved c =
    let move : Move = record {
      state = state_of c.args.base.now c.args.chunks.now c.end_session.new.sessions;
      given = c.in_ok-more.more;
    } in
    record {
      state = next_state (state_of c.args.base.now c.args.chunks.now c.loop-lsid.all)
          move c.loop-lsid.lsid-index c.args.ids.now (Client []) c.loop-lsid-test.true
          (c.in_ok-more.ensures c.args.base.now c.args.chunks.now) ∙ c.loop-lsid.invariant.state;
      given = next_given (state_of c.args.base.now c.args.chunks.now c.loop-lsid.all) move
          c.loop-lsid.given c.in_ok-given.given c.loop-lsid.lsid-index c.args.ids.now (Client [])
          c.loop-lsid-test.true (c.in_ok-more.ensures c.args.base.now c.args.chunks.now)
          c.in_ok-given.ensures ∙ c.loop-lsid.invariant.given;
    }
