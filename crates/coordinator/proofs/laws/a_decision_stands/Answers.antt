use Rattle.std.proofs.Common.{◌≡◌, ◌&&◌, not, is_none, cond, Option, Some, IsSomeAnd, ap, sym}
use Rattle.std.proofs.Common.{subst}
use Rattle.txn_types.specs.declared.decision.Decision.{Decision}
use Rattle.coordinator.specs.TwoPhase.{Coordinations, coordinated_of, takes_part, has_voted}
use Rattle.coordinator.specs.TwoPhase.{behind_vote, with_coordinated, with_asker, ack_counts}
use Rattle.coordinator.proofs.Found.{others_keep, decision_left}
use Rattle.coordinator.proofs.laws.a_decision_stands.Goals as goal

pub returns-clause-votes : goal.returns-clause-votes
returns-clause-votes _ tag shard vote c coords d decided =
    ap (λ (o : Option Decision). cond (is_none o && takes_part shard c.plan && not (has_voted shard
    c)) (with_coordinated tag (behind_vote shard vote c) coords) coords) decided

pub returns-clause-questions : goal.returns-clause-questions
returns-clause-questions _ tag router c coords d decided =
    ap (λ (o : Option Decision). cond (is_none o)
    (with_coordinated tag (with_asker router c) coords) coords) decided

pub returns-clause-acks : goal.returns-clause-acks
returns-clause-acks _ tag shard c coords d decided there other =
    subst (λ (s : Coordinations). IsSomeAnd (coordinated_of s tag)
    (λ after. after.decision ≡ Some d)) (sym (others_keep tag shard c coords other))
    (decision_left (ack_counts shard c) tag shard c coords d decided there)
