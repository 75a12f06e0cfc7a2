use Rattle.std.proofs.Common.{◌≡◌, ℕ, List, IfSome, ap, sym, subst, ◌∙◌}
use Rattle.coordinator.specs.TwoPhase.{coordinated_of}
use Rattle.shard_core.specs.State.{ShardState}
use Rattle.shard_core.proofs.Arriving.{arrived_coord}
use Rattle.shard_core.proofs.Asking.{planned_here}
use Rattle.shard_core.proofs.shard.Shard.deliver_vote_on.Goals as goal

pub hear-requires-clause-coordinated : goal.hear-requires-clause-coordinated
hear-requires-clause-coordinated c =
    let coord : c.arrive.new.self.coord ≡ c.args.self.now.coord = ap (λ (s : ShardState). s.coord)
    c.arrive.ensures.arrived ∙ arrived_coord c.args.self.now c.args.wall c.args.envelope.now in
    let askers : IfSome (coordinated_of c.args.self.now.coord c.args.m.now.tag) (λ k.
    c.as_slice-2.result.now ≡ k.askers) =
    subst (λ (xs : List ℕ). IfSome (coordinated_of c.args.self.now.coord c.args.m.now.tag)
    (λ k. xs ≡ k.askers)) (sym c.as_slice-2.ensures.value) c.in_ok-askers.ensures in
    planned_here c.args.self.now.coord c.arrive.new.self.coord c.args.m.now.tag c.args.plan.now
    c.as_slice-2.result.now coord c.requires.plan askers
