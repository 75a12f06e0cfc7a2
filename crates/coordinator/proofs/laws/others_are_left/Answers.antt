use Rattle.std.proofs.Common.{◌≡◌, cond, is_none, refl}
use Rattle.txn_types.specs.Order.{tag_cmp}
use Rattle.txn_semantics.specs.Keyed.{taken_out}
use Rattle.coordinator.specs.TwoPhase.{Coordinations, coordinated_of, with_coordinated, undecided}
use Rattle.coordinator.specs.TwoPhase.{with_asker, counts, behind_vote, ack_counts, all_acked}
use Rattle.coordinator.specs.TwoPhase.{with_ack}
use Rattle.coordinator.proofs.Found.{at_another, at_another_left, either}
use Rattle.coordinator.proofs.laws.others_are_left.Goals as goal

pub returns-clause-starts : goal.returns-clause-starts
returns-clause-starts _ tag other plan coords apart =
    at_another tag other (undecided plan) coords apart

pub returns-clause-questions : goal.returns-clause-questions
returns-clause-questions _ tag other router c coords apart =
    either (λ (s : Coordinations). coordinated_of s other ≡ coordinated_of coords other)
    (is_none c.decision) (with_coordinated tag (with_asker router c) coords) coords
    (at_another tag other (with_asker router c) coords apart) refl

pub returns-clause-votes : goal.returns-clause-votes
returns-clause-votes _ tag other shard vote c coords apart =
    either (λ (s : Coordinations). coordinated_of s other ≡ coordinated_of coords other)
    (counts shard c) (with_coordinated tag (behind_vote shard vote c) coords) coords
    (at_another tag other (behind_vote shard vote c) coords apart) refl

pub returns-clause-acks : goal.returns-clause-acks
returns-clause-acks _ tag other shard c coords apart =
    let P : Coordinations → Type 0 = λ s. coordinated_of s other ≡ coordinated_of coords other in
    let kept = with_coordinated tag (with_ack shard c) coords in
    let gone = taken_out tag_cmp tag coords in
    either P (ack_counts shard c) (cond (all_acked (with_ack shard c)) gone kept) coords
    (either P (all_acked (with_ack shard c)) gone kept (at_another_left tag other coords apart)
    (at_another tag other (with_ack shard c) coords apart))
    refl
