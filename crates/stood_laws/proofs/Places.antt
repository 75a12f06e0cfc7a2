-- What stands before and after a step of a run.
use Rattle.std.proofs.Common.{◌≡◌, ◌≢◌, ◌⊎◌, inl, inr, ◌<◌, ◌≤◌, ◌+◌, ◌++◌, ℕ, zero, suc, List, []}
use Rattle.std.proofs.Common.{◌∷◌, Option, Some, None, ap, subst, ◌∙◌, sym, arith, slice_get}
use Rattle.txn_types.specs.declared.event.NodeAnswer.{NodeAnswer}
use Rattle.txn_types.specs.declared.event.NodeAnswer.TheVariants.{DiskFault}
use Rattle.txn_types.specs.declared.event.NodeEvent.{NodeEvent}
use Rattle.txn_types.specs.declared.node.NodeId.TheVariants.{Shard, Router}
use Rattle.shard_core.specs.Core.{core_step}
use Rattle.shard_core.specs.NodeStep.{NodeState, ShardTakes, started}
use Rattle.shard_core.specs.State.{ShardState}
use Rattle.journal_rec.specs.declared.record.Rec.{Rec}
use Rattle.chunk_map.specs.Map.{Map}
use Rattle.txn_model.specs.declared.ran.Ran.{Ran}
use Rattle.txn_model.specs.declared.ran.Ran.TheVariants.{Step, Swapped}
use Rattle.cluster_core.specs.Causes.{HasFailed}
use Rattle.cluster_core.specs.Nodes.{Nodes}
use Rattle.cluster_core.specs.Trace.{Happens, IsTrace, IsFresh, ShardSteps}
use Rattle.world_laws.proofs.Clocks.{started_is}
use Rattle.world_laws.proofs.Lists.{get_set, set_at}
use Rattle.world_laws.proofs.Steps.{step_does}

-- the nodes before the step come of a run from the start, and those after it lead to the end
pub record Placed (old : Nodes) (run : List Ran) (trace : List Nodes) (now : Nodes) (i : ℕ)
    (nodes : Nodes) (ran : Ran) : Type 0 where
  pub before_run : List Ran
  pub before_trace : List Nodes
  pub comes : IsTrace old before_run before_trace nodes
  pub next : Nodes
  pub happens : Happens nodes ran next
  pub behind : slice_get (trace ++ now ∷ []) (i + 1) ≡ Some next
  pub after_run : List Ran
  pub after_trace : List Nodes
  pub goes : IsTrace next after_run after_trace now
  pub whole : run ≡ before_run ++ ran ∷ after_run

first_of : (old : Nodes) (run : List Ran) (trace : List Nodes) (now : Nodes)
    → IsTrace old run trace now → slice_get (trace ++ now ∷ []) 0 ≡ Some old
first_of old [] [] now h = ap Some h
first_of old [] (nodes ∷ trace) now h = absurd h
first_of old (ran ∷ run) [] now h = absurd h
first_of old (ran ∷ run) (nodes ∷ trace) now h = ap Some h.0

one_place : {A : Type 0} (x y : A) → Some x ≡ Some y → x ≡ y
one_place x y h = cc

after_place : {A : Type 0} (x : A) (xs : List A) (i : ℕ) (y : Option A) → slice_get xs (i + 1) ≡ y
    → slice_get (x ∷ xs) (suc i + 1) ≡ y
after_place x xs i y h =
    let e : suc i + 1 ≡ suc (i + 1) = omega arith in ap (slice_get (x ∷ xs)) e ∙ h

pub place_of : (old : Nodes) (run : List Ran) (trace : List Nodes) (now : Nodes)
    → IsTrace old run trace now → (i : ℕ) (nodes : Nodes) (ran : Ran)
    → slice_get trace i ≡ Some nodes → slice_get run i ≡ Some ran
    → Placed old run trace now i nodes ran
place_of old [] [] now h i nodes ran before step = let wrong : None ≡ Some ran = step in cc
place_of old [] (n ∷ trace) now h i nodes ran before step = absurd h
place_of old (r ∷ run) [] now h i nodes ran before step = absurd h
place_of old (r ∷ run) (n ∷ trace) now h zero nodes ran before step =
    let here : n ≡ nodes = one_place n nodes before in
    let this : r ≡ ran = one_place r ran step in
    record {
      before_run = [];
      before_trace = [];
      comes = sym here ∙ h.0;
      next = h.1.0;
      happens = subst (λ (x : Ran). Happens nodes x h.1.0) this
          (subst (λ (x : Nodes). Happens x r h.1.0) (sym h.0 ∙ here) h.1.1);
      behind = first_of h.1.0 run trace now h.1.2;
      after_run = run;
      after_trace = trace;
      goes = h.1.2;
      whole = ap (λ (x : Ran). x ∷ run) this;
    }
place_of old (r ∷ run) (n ∷ trace) now h (suc i) nodes ran before step =
    let p = place_of h.1.0 run trace now h.1.2 i nodes ran before step in
    record {
      before_run = r ∷ p.before_run;
      before_trace = n ∷ p.before_trace;
      comes = (h.0, (h.1.0, h.1.1, p.comes));
      next = p.next;
      happens = p.happens;
      behind = after_place n (trace ++ now ∷ []) i (Some p.next) p.behind;
      after_run = p.after_run;
      after_trace = p.after_trace;
      goes = p.goes;
      whole = ap (λ (xs : List Ran). r ∷ xs) p.whole;
    }

-- A stopped shard's disk has failed since its start.

-- a step before this place failed, and the shard wasn't started since
abbrev FailedIn : List Ran → ℕ → ℕ → ℕ → Type 0
FailedIn run n i faults =
    (p : ℕ) × (e : NodeEvent)
    × (slice_get run p ≡ Some (Step (Shard n) e DiskFault faults)) × (p < i)
    × ((j : ℕ) → p < j → j < i → slice_get run j ≢ Some (Swapped (Shard n)))

abbrev StoppedIn : Nodes → ℕ → ℕ → Type 0
StoppedIn nodes n faults =
    (x : NodeState) × (slice_get nodes.shards n ≡ Some x) × (x.core.stopped ≡ Some faults)

-- or it was stopped at first, and not started
abbrev Was : Nodes → List Ran → ℕ → ℕ → ℕ → Type 0
Was old run n i faults = StoppedIn old n faults
    × ((j : ℕ) → j < i → slice_get run j ≢ Some (Swapped (Shard n)))

abbrev IsWhy : Nodes → List Ran → ℕ → ℕ → ℕ → Type 0
IsWhy old run n i faults = FailedIn run n i faults ⊎ Was old run n i faults

still : (s : ShardState) (o : Option ℕ) (faults : ℕ) → o ≡ s.stopped → o ≡ Some faults
    → s.stopped ≡ Some faults
still s o faults same is = sym same ∙ is

-- a step of the shard leaves it stopped: it was, or this step's append failed
stops_by : (before : NodeState) (e : NodeEvent) (a : NodeAnswer) (after : NodeState) (faults : ℕ)
    → ShardTakes before e a after → after.core.stopped ≡ Some faults
    → (before.core.stopped ≡ Some faults) ⊎ ((a ≡ DiskFault) × (after.faults ≡ faults))
stops_by before e a after faults (room, inl done) is =
    let effect = step_does (λ n. Unit {0}) room before.core e in
    inl (still before.core (core_step room before.core e).core.stopped faults effect.stopped
    (sym (ap (λ (s : ShardState). s.stopped) done.core) ∙ is))
stops_by before e a after faults (room, inr failed) is =
    let both : Some after.faults ≡ Some faults =
    sym (ap (λ (s : ShardState). s.stopped) failed.core) ∙ is in
    inr (failed.told, one_place after.faults faults both)

pub runs_first : (n : ℕ) (recs : List Rec) (faults : ℕ) (x : NodeState)
    → started n recs faults ≡ Some x → x.core.stopped ≡ None
runs_first n recs faults x is =
    ap (λ (y : NodeState). y.core.stopped) (started_is n recs faults x is)

-- one step earlier
earlier : (old mid : Nodes) (r : Ran) (run : List Ran) (n i faults : ℕ) → Happens old r mid
    → IsWhy mid run n i faults → IsWhy old (r ∷ run) n (suc i) faults
earlier old mid r run n i faults h (inl f) =
    inl (
      suc f.0,
      f.1,
      f.2,
      omega (arith, f.3),
      λ j after before. no_start j after before,
    )
  where
    no_start : (j : ℕ) → suc f.0 < j → j < suc i → slice_get (r ∷ run) j ≢ Some (Swapped (Shard n))
    no_start zero after before = absurd (omega (arith, after))
    no_start (suc j) after before = f.4 j (omega (arith, after)) (omega (arith, before))
earlier old mid r run n i faults h (inr w) = by_step r h
  where
    none_before : (q : Ran) → q ≢ Swapped (Shard n) → (j : ℕ) → j < suc i
        → slice_get (q ∷ run) j ≢ Some (Swapped (Shard n))
    none_before q other zero before is = other (one_place q (Swapped (Shard n)) is)
    none_before q other (suc j) before is = w.1 j (omega (arith, before)) is

    same_shards : (q : Ran) → q ≢ Swapped (Shard n) → mid.shards ≡ old.shards
        → IsWhy old (q ∷ run) n (suc i) faults
    same_shards q other same = inr (
      (w.0.0, ap (λ (xs : List NodeState). slice_get xs n) (sym same) ∙ w.0.1, w.0.2),
      none_before q other,
    )

    no_step : (k : ℕ) (e : NodeEvent) (a : NodeAnswer) (f : ℕ)
        → Step (Shard k) e a f ≢ Swapped (Shard n)
    no_step k e a f is = cc

    no_router : (k : ℕ) (e : NodeEvent) (a : NodeAnswer) (f : ℕ)
        → Step (Router k) e a f ≢ Swapped (Shard n)
    no_router k e a f is = cc

    no_again : (k : ℕ) → Swapped (Router k) ≢ Swapped (Shard n)
    no_again k is = cc

    same_shard : (k : ℕ) → Swapped (Shard k) ≡ Swapped (Shard n) → k ≡ n
    same_shard k is = cc

    at_after : (k : ℕ) (e : NodeEvent) (a : NodeAnswer) (f : ℕ) (s : ShardSteps old k e a f mid)
        → n ≡ k → s.after ≡ w.0.0 → IsWhy old (Step (Shard k) e a f ∷ run) n (suc i) faults
    at_after k e a f s at this =
        by_stop (stops_by s.before e a s.after faults s.takes
        (ap (λ (x : NodeState). x.core.stopped) this ∙ w.0.2))
      where
        by_stop : (s.before.core.stopped ≡ Some faults) ⊎ ((a ≡ DiskFault)
            × (s.after.faults ≡ faults)) → IsWhy old (Step (Shard k) e a f ∷ run) n (suc i) faults
        by_stop (inl was) = inr (
          (s.before, ap (slice_get old.shards) at ∙ s.there, was),
          none_before (Step (Shard k) e a f) (no_step k e a f),
        )
        by_stop (inr failed) = inl (
          0,
          e,
          ap (λ (m : ℕ). Some (Step (Shard m) e a f)) (sym at)
              ∙ ap (λ (b : NodeAnswer). Some (Step (Shard n) e b f)) failed.0
              ∙ ap (λ (c : ℕ). Some (Step (Shard n) e DiskFault c)) (s.count ∙ failed.1),
          omega arith,
          λ j after before. later j after before,
        )
          where
            later : (j : ℕ) → 0 < j → j < suc i
                → slice_get (Step (Shard k) e a f ∷ run) j ≢ Some (Swapped (Shard n))
            later zero after before = absurd (omega (arith, after))
            later (suc j) after before = w.1 j (omega (arith, before))

    by_step : (q : Ran) → Happens old q mid → IsWhy old (q ∷ run) n (suc i) faults
    by_step (Step (Router k) e a f) s =
        same_shards (Step (Router k) e a f) (no_router k e a f)
        (ap (λ (x : Nodes). x.shards) s.nodes)
    by_step (Swapped (Router k)) s =
        same_shards (Swapped (Router k)) (no_again k) (ap (λ (x : Nodes). x.shards) s.nodes)
    by_step (Step (Shard k) e a f) s =
        elim (get_set old.shards k n s.after w.0.0
        (sym (ap (λ (x : Nodes). slice_get x.shards n) s.nodes) ∙ w.0.1)) [
          | inl c ↦ at_after k e a f s c.0 c.1
          | inr there ↦ inr (
            (w.0.0, there, w.0.2),
            none_before (Step (Shard k) e a f) (no_step k e a f),
          )
        ]
    by_step (Swapped (Shard k)) s =
        let runs : s.after.core.stopped ≡ None = runs_first k s.recs s.faults s.after s.starts in
        let here : slice_get mid.shards k ≡ Some s.after =
        set_at old.shards mid.shards k s.after s.before (ap (λ (x : Nodes). x.shards) s.nodes)
        s.there in
        let wrong : s.after ≡ w.0.0 → ⊥ = λ e.
        let both : None ≡ Some faults =
        sym runs ∙ ap (λ (x : NodeState). x.core.stopped) e ∙ w.0.2 in cc in
        elim (get_set old.shards k n s.after w.0.0
        (sym (ap (λ (x : Nodes). slice_get x.shards n) s.nodes) ∙ w.0.1)) [
          | inl c ↦ absurd (wrong c.1)
          | inr there ↦ inr (
            (w.0.0, there, w.0.2),
            none_before (Swapped (Shard k)) (λ is.
                let k_is : k ≡ n = same_shard k is in
                wrong (one_place s.after w.0.0
                (sym here ∙ ap (slice_get mid.shards) k_is ∙ w.0.1))),
          )
        ]

failing : (old : Nodes) (run : List Ran) (trace : List Nodes) (now : Nodes)
    → IsTrace old run trace now → (i : ℕ) (nodes : Nodes) → slice_get trace i ≡ Some nodes
    → (n faults : ℕ) → StoppedIn nodes n faults → IsWhy old run n i faults
failing old [] [] now h i nodes before n faults is = let wrong : None ≡ Some nodes = before in cc
failing old [] (m ∷ trace) now h i nodes before n faults is = absurd h
failing old (r ∷ run) [] now h i nodes before n faults is = absurd h
failing old (r ∷ run) (m ∷ trace) now h zero nodes before n faults is =
    let here : nodes ≡ old = sym (one_place m nodes before) ∙ h.0 in
    inr (
      subst (λ (x : Nodes). StoppedIn x n faults) here is,
      λ j before. absurd (omega (arith, before)),
    )
failing old (r ∷ run) (m ∷ trace) now h (suc i) nodes before n faults is =
    earlier old h.1.0 r run n i faults h.1.1
    (failing h.1.0 run trace now h.1.2 i nodes before n faults is)

pub has_failed : (chunks : Map) (old : Nodes) (run : List Ran) (trace : List Nodes) (now : Nodes)
    → IsFresh chunks old → IsTrace old run trace now → (i : ℕ) (nodes : Nodes) (n faults : ℕ)
    → slice_get trace i ≡ Some nodes → (e : NodeEvent) (a : NodeAnswer) (f : ℕ)
    → slice_get run i ≡ Some (Step (Shard n) e a f) → (x : NodeState)
    → slice_get nodes.shards n ≡ Some x → x.core.stopped ≡ Some faults
    → HasFailed run n i faults
has_failed chunks old run trace now fresh h i nodes n faults before e a f step x there is =
    by_why (failing old run trace now h i nodes before n faults (x, there, is))
  where
    no_swap : Step (Shard n) e a f ≢ Swapped (Shard n)
    no_swap same = cc

    since : (p : ℕ) → ((j : ℕ) → p < j → j < i → slice_get run j ≢ Some (Swapped (Shard n)))
        → (j : ℕ) → p < j → j ≤ i → slice_get run j ≢ Some (Swapped (Shard n))
    since p earlier j after within found =
        elim (last_or j i within) [
          | inl below ↦ earlier j after below found
          | inr at ↦ no_swap (one_place (Step (Shard n) e a f) (Swapped (Shard n))
              (sym step ∙ ap (slice_get run) (sym at) ∙ found))
        ]
      where
        last_or : (j i : ℕ) → j ≤ i → (j < i) ⊎ (j ≡ i)
        last_or j i within = grind (arith, within)

    by_why : IsWhy old run n i faults → HasFailed run n i faults
    by_why (inl w) =
        record {
          place = w.0;
          event = w.1;
          step = w.2;
          earlier = omega (arith, w.3);
          since = since w.0 w.4;
        }
    by_why (inr w) =
        let start = fresh.shards n w.0.0 w.0.1 in
        let runs : w.0.0.core.stopped ≡ None = runs_first n start.0 start.1 w.0.0 start.2 in
        let wrong : None ≡ Some faults = sym runs ∙ w.0.2 in
        cc
