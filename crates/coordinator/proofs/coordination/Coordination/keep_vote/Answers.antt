use Rattle.std.proofs.Common.{◌≡◌, ◌++◌, ◌∷◌, [], ℕ, List, true, ap, sym, subst, ◌∙◌, arith}
use Rattle.std.specs.Vec.{vec_capacity}
use Rattle.coordinator.specs.Room.{HasRoom}
use Rattle.coordinator.specs.TwoPhase.{Coordinated, counts, with_vote}
use Rattle.coordinator.specs.contracts.coordination.Coordination.{the_view}
use Rattle.coordinator.proofs.Counting.{vote_fits, room_behind_vote, pushed}
use Rattle.coordinator.proofs.coordination.Coordination.keep_vote.Goals as goal

pub invariant_of-self : goal.invariant_of-self
invariant_of-self c =
    let old = the_view c.self.inside in
    let counted : counts c.args.shard old ≡ true =
    subst (λ (s : Coordinated). counts c.args.shard s ≡ true) (sym c.self.view_is) c.requires in
    let room = vec_capacity c.self.inside.votes in
    let ack_room = vec_capacity c.self.inside.acks in
    let ok = c.push-kept.ensures.succeeds (omega (
      arith,
      vote_fits c.args.shard c.args.at old room ack_room counted c.self.invariant,
      c.self.inside.votes.ok.0,
    )) in
    let is = pushed _ c.push-kept.new.self.items old.votes (old.votes ++ (c.args.shard, c.args.at)
    ∷ []) ok c.push-kept.ensures.items in
    subst (λ (votes : List (ℕ × ℕ)). HasRoom old.plan.parts votes
    (vec_capacity c.push-kept.new.self) old.acks ack_room) (sym is)
    (room_behind_vote c.args.shard c.args.at old room (vec_capacity c.push-kept.new.self) ack_room
    counted c.self.invariant c.push-kept.ensures.capacity)

pub returns : goal.returns
returns c =
    let old = the_view c.self.inside in
    let counted : counts c.args.shard old ≡ true =
    subst (λ (s : Coordinated). counts c.args.shard s ≡ true) (sym c.self.view_is) c.requires in
    let ok = c.push-kept.ensures.succeeds (omega (
      arith,
      vote_fits c.args.shard c.args.at old (vec_capacity c.self.inside.votes)
          (vec_capacity c.self.inside.acks) counted c.self.invariant,
      c.self.inside.votes.ok.0,
    )) in
    let is = pushed _ c.push-kept.new.self.items old.votes (old.votes ++ (c.args.shard, c.args.at)
    ∷ []) ok c.push-kept.ensures.items in
    ap (λ (votes : List (ℕ × ℕ)). record old { votes = votes }) is
    ∙ ap (with_vote c.args.shard c.args.at) c.self.view_is
