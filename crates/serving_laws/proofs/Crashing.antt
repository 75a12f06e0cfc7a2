-- What holds of a shard's part where the machine stopped in a step, or after it.
use Rattle.std.proofs.Common.{◌≡◌, ◌⊎◌, inl, inr, ◌≤◌, ◌++◌, ℕ, List, [], ◌∷◌, Some, None, ap}
use Rattle.std.proofs.Common.{subst, ◌∙◌, sym, arith}
use Rattle.txn_types.specs.declared.event.NodeAnswer.{NodeAnswer}
use Rattle.txn_types.specs.declared.event.NodeEvent.{NodeEvent}
use Rattle.journal_rec.specs.declared.record.Rec.{Rec}
use Rattle.shard_image.specs.Sound.{AreWritten}
use Rattle.shard_core.specs.Core.{Room, core_step}
use Rattle.shard_core.specs.Laws.{KeepsTime}
use Rattle.shard_core.specs.NodeStep.{NodeState, Appended, Failed, ShardTakes, started}
use Rattle.durable_laws.specs.Backed.{IsBacked, IsDurableNode, IsLeft, at_ceiling, kept_state}
use Rattle.durable_laws.specs.Backed.{lost_state}
use Rattle.durable_laws.proofs.Stepping.{step_is_backed, fault_is_backed}
use Rattle.durable_laws.proofs.Nodes.{node_takes, written_front, append_none}
use Rattle.serving_laws.specs.Crash.{Serving, ServesOn, AtLast, ServesAgain}
use Rattle.serving_laws.proofs.Starting.{start_serves}

left_written : (n : NodeState) (recs : List Rec) → IsDurableNode n → IsLeft n recs → AreWritten recs
left_written n recs h (inl is) =
    subst AreWritten (sym is) (written_front n.records n.hand h.written)
left_written n recs h (inr is) = subst AreWritten (sym is) h.written

either_left : (n : NodeState) (recs : List Rec) → n.hand ≡ [] → IsLeft n recs → recs ≡ n.records
either_left n recs none (inl is) = is
either_left n recs none (inr is) = is ∙ ap (λ (l : List Rec). n.records ++ l) none
    ∙ append_none n.records

module _ (old : NodeState) (e : NodeEvent) (room : Room) (a : NodeAnswer)
    (new : NodeState) (durable : IsDurableNode old) (after : IsDurableNode new)
    (runs : old.core.stopped ≡ None) (time : KeepsTime old.core (core_step room old.core e))
    (below : old.core.clock.last ≤ old.core.clock.ceiling)
    (before : Serving old.core) (behind : Serving (core_step room old.core e).core) (recs :
    List Rec) (shard faults : ℕ) (m : NodeState) (go : started shard recs faults ≡ Some m) where
  as_behind : IsBacked recs (core_step room old.core e).core → AreWritten recs
      → ServesOn (core_step room old.core e).core behind m.core
  as_behind backed written = start_serves shard recs faults m (core_step room old.core e).core
      behind.opens behind.entries behind.served backed written behind.holds time.clock.below go

  as_before : IsBacked recs old.core → AreWritten recs → ServesOn old.core before m.core
  as_before backed written = start_serves shard recs faults m old.core before.opens before.entries
      before.served backed written before.holds below go

  ceiling_below : old.core.clock.last
      ≤ (at_ceiling old.core (core_step room old.core e)).clock.ceiling
  ceiling_below = subst (λ (n : ℕ). old.core.clock.last
      ≤ n) time.ceiling (grind (arith, time.rises, time.clock.below))

  as_raised : IsBacked recs (at_ceiling old.core (core_step room old.core e)) → AreWritten recs
      → ServesOn old.core before m.core
  as_raised backed written =
      start_serves shard recs faults m (at_ceiling old.core (core_step room old.core e))
      before.opens before.entries before.served backed written before.holds ceiling_below go

  kept_case : (kept : List (List Rec))
      → IsBacked recs (kept_state old.core (core_step room old.core e) kept) → AreWritten recs
      → ServesOn old.core before m.core
  kept_case [] backed written = as_before backed written
  kept_case (k ∷ kept) backed written = as_raised backed written

  lost_case : (rest : List (List Rec))
      → IsBacked recs (lost_state old.core (core_step room old.core e) rest) → AreWritten recs
      → AtLast rest (ServesOn old.core before m.core) (ServesOn (core_step room old.core e).core
      behind m.core)
  lost_case [] backed written = as_behind backed written
  lost_case (next ∷ more) backed written = as_raised backed written

  serves_case : (done : Appended old (core_step room old.core e) a new
      ⊎ Failed old (core_step room old.core e) a new) (left : IsLeft new recs)
      → ServesAgain old (core_step room old.core e) a new recs done left before behind m.core
  serves_case (inl done) left =
      let own = durable.running runs in
      let none : new.hand ≡ [] = done.hand ∙ own.1 in
      as_behind (subst (λ (r : List Rec). IsBacked r (core_step room old.core e).core)
      (sym (either_left new recs none left ∙ done.records))
      (step_is_backed room old.core e old.records own.0)) (left_written new recs after left)
  serves_case (inr f) (inl is) =
      kept_case f.kept (subst (λ (r : List Rec). IsBacked r
      (kept_state old.core (core_step room old.core e) f.kept)) (sym is) (fault_is_backed old e
      room a new f (durable.running runs).0).0) (left_written new recs after (inl is))
  serves_case (inr f) (inr is) =
      lost_case f.rest (subst (λ (r : List Rec). IsBacked r
      (lost_state old.core (core_step room old.core e) f.rest)) (sym is) (fault_is_backed old e
      room a new f (durable.running runs).0).1) (left_written new recs after (inr is))

pub crash_serves : (old : NodeState) (e : NodeEvent) (a : NodeAnswer) (new : NodeState)
    (t : ShardTakes old e a new) → IsDurableNode old → old.core.stopped ≡ None
    → KeepsTime old.core (core_step t.0 old.core e) → old.core.clock.last ≤ old.core.clock.ceiling
    → (before : Serving old.core) (behind : Serving (core_step t.0 old.core e).core)
    (recs : List Rec) (left : IsLeft new recs) (shard faults : ℕ) (m : NodeState)
    → started shard recs faults ≡ Some m
    → ServesAgain old (core_step t.0 old.core e) a new recs t.1 left before behind m.core
crash_serves old e a new t durable runs time below before behind recs left shard faults m go =
    serves_case old e t.0 a new durable (node_takes old e a new t durable) runs time below before
    behind recs shard faults m go t.1 left
