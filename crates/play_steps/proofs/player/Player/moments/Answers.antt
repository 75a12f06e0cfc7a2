use Rattle.std.proofs.Common.{◌≡◌, [], ap, sym, ◌∙◌, arith}
use Rattle.play_steps.specs.Player.{Player}
use Rattle.play_steps.proofs.Queueing.{at_shard, at_router, from_on, moments_start, one_more}
use Rattle.play_steps.proofs.Queueing.{no_more, queued_none}
use Rattle.play_steps.proofs.player.Player.moments.Goals as goal

pub loop-shard-init : goal.loop-shard-init
loop-shard-init c = moments_start c.args.self.now

pub loop-shard-preserved : goal.loop-shard-preserved
loop-shard-preserved c =
    let same : c.self.inside.shards ≡ c.args.self.now.shards =
    ap (λ (p : Player). p.shards) c.self.view_is in
    one_more at_shard c.loop-shard.self c.enqueue.new.self c.loop-shard.shard
    c.args.self.now.shards (from_on at_router 0 c.args.self.now.routers [])
    (omega (arith, c.loop-shard-test.true, same)) c.in_ok-enqueue.ensures
    ∙ c.loop-shard.invariant

pub loop-router-init : goal.loop-router-init
loop-router-init c =
    let same : c.self.inside.shards ≡ c.args.self.now.shards =
    ap (λ (p : Player). p.shards) c.self.view_is in
    sym (no_more at_shard c.loop-shard.self c.loop-shard.shard
    c.args.self.now.shards (from_on at_router 0 c.args.self.now.routers [])
    (omega (arith, c.loop-shard-test.false, c.loop-shard.auto.shard-end, same)))
    ∙ c.loop-shard.invariant

pub loop-router-preserved : goal.loop-router-preserved
loop-router-preserved c =
    let same : c.self-2.inside.routers ≡ c.args.self.now.routers = ap (λ (p : Player).
    p.routers) c.self-2.view_is ∙ ap (λ (p : Player). p.routers) c.loop-shard.invariant in
    one_more at_router c.loop-router.self c.enqueue-in-loop-router.new.self c.loop-router.router
    c.args.self.now.routers [] (omega (arith, c.loop-router-test.true, same))
    c.in_ok-enqueue-2.ensures
    ∙ c.loop-router.invariant

pub returns : goal.returns
returns c =
    let same : c.self-2.inside.routers ≡ c.args.self.now.routers = ap (λ (p : Player).
    p.routers) c.self-2.view_is ∙ ap (λ (p : Player). p.routers) c.loop-shard.invariant in
    sym (queued_none c.loop-router.self)
    ∙ sym (no_more at_router c.loop-router.self c.loop-router.router c.args.self.now.routers []
    (omega (arith, c.loop-router-test.false, c.loop-router.auto.router-end, same)))
    ∙ c.loop-router.invariant
