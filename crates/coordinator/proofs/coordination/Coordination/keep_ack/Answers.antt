use Rattle.std.proofs.Common.{◌≡◌, ◌++◌, ◌∷◌, [], ℕ, List, true, ap, sym, subst, ◌∙◌, arith}
use Rattle.std.specs.Vec.{vec_capacity}
use Rattle.coordinator.specs.Room.{HasRoom}
use Rattle.coordinator.specs.TwoPhase.{Coordinated, ack_counts, with_ack}
use Rattle.coordinator.specs.contracts.coordination.Coordination.{the_view}
use Rattle.coordinator.proofs.Counting.{ack_fits, room_behind_ack, pushed}
use Rattle.coordinator.proofs.coordination.Coordination.keep_ack.Goals as goal

pub invariant_of-self : goal.invariant_of-self
invariant_of-self c =
    let old = the_view c.self.inside in
    let counted : ack_counts c.args.shard old ≡ true = subst (λ (s : Coordinated).
    ack_counts c.args.shard s ≡ true) (sym c.self.view_is) c.requires in
    let room = vec_capacity c.self.inside.votes in
    let ack_room = vec_capacity c.self.inside.acks in
    let ok = c.push-kept.ensures.succeeds (omega (
      arith,
      ack_fits c.args.shard old room ack_room counted c.self.invariant,
      c.self.inside.acks.ok.0,
    )) in
    let is = pushed _ c.push-kept.new.self.items old.acks (old.acks ++ c.args.shard
    ∷ []) ok c.push-kept.ensures.items in
    subst (λ (acks : List ℕ). HasRoom old.plan.parts old.votes room acks
    (vec_capacity c.push-kept.new.self)) (sym is)
    (room_behind_ack c.args.shard old room ack_room (vec_capacity c.push-kept.new.self) counted
    c.self.invariant c.push-kept.ensures.capacity)

pub returns : goal.returns
returns c =
    let old = the_view c.self.inside in
    let counted : ack_counts c.args.shard old ≡ true = subst (λ (s : Coordinated).
    ack_counts c.args.shard s ≡ true) (sym c.self.view_is) c.requires in
    let ok = c.push-kept.ensures.succeeds (omega (
      arith,
      ack_fits c.args.shard old (vec_capacity c.self.inside.votes) (vec_capacity c.self.inside.acks)
          counted c.self.invariant,
      c.self.inside.acks.ok.0,
    )) in
    let is = pushed _ c.push-kept.new.self.items old.acks (old.acks ++ c.args.shard
    ∷ []) ok c.push-kept.ensures.items in
    ap (λ (acks : List ℕ). record old { acks = acks }) is
    ∙ ap (with_ack c.args.shard) c.self.view_is
