use Rattle.std.specs.Vec.{vec_capacity}
use Rattle.coordinator.proofs.Counting.{room_for}
use Rattle.coordinator.proofs.coordination.Coordination.new.Goals as goal

pub invariant_of-result : goal.invariant_of-result
invariant_of-result c =
    let votes = c.in_ok-with_capacity.field-0 in
    let acks = c.in_ok-with_capacity-2.field-0 in
    room_for c.args.parts.now c.in_ok-keep_parts.field-0 votes.items acks.items (vec_capacity votes)
    (vec_capacity acks) c.in_ok-keep_parts.ensures
    c.in_ok-with_capacity.ensures.items
    c.in_ok-with_capacity-2.ensures.items
    c.in_ok-with_capacity.ensures.capacity
    c.in_ok-with_capacity-2.ensures.capacity
