use Rattle.std.proofs.Common.{List, [], ◌∷◌, ◌++◌, ap, sym, ◌∙◌}
use Rattle.txn_types.specs.declared.message.Msg.TheVariants.{Nudge}
use Rattle.router_state.specs.State.{Post}
use Rattle.router_core.proofs.Nudging.{nudges_next}
use Rattle.router_core.proofs.serving.resent.Goals as goal

pub loop-shard-preserved : goal.loop-shard-preserved
loop-shard-preserved c = c.in_ok-push.ensures.ok
    ∙ ap (λ (posts : List Post). posts ++ (c.loop-shard.shard, Nudge) ∷ []) c.loop-shard.invariant
    ∙ sym (nudges_next c.loop-shard.shard)
