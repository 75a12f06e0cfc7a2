-- What a node's step comes to.
use Rattle.std.proofs.Common.{◌≡◌, inl, ℕ, Bool, false, List, Option, Some, None, IfSome, refl, sym}
use Rattle.std.proofs.Common.{ap, subst, ◌∙◌, arith, append-nil}
use Rattle.txn_types.specs.declared.event.NodeAnswer.{NodeAnswer}
use Rattle.txn_types.specs.declared.event.NodeAnswer.TheVariants as answer
use Rattle.txn_types.specs.declared.event.NodeEvent.{NodeEvent}
use Rattle.journal_rec.specs.declared.record.Rec.{Rec}
use Rattle.shard_core.specs.Carrying.{IsBounded, Carries, IsCarried, carried}
use Rattle.shard_core.specs.Core.{Room, Ample, Scarce, Short, CoreStep, core_step, step_if, stays}
use Rattle.shard_core.specs.NodeStep.{NodeState, Appended, ShardTakes}
use Rattle.shard_core.specs.State.{ShardState}
use Rattle.shard_core.specs.Steps.{Steps}
use Rattle.shard_core.proofs.Carrying.{step_carries}

-- with no room nothing changes
short_case : (s : ShardState) (e : NodeEvent) (o : Option ℕ)
    → step_if Short s e o ≡ stays s answer.Memory
short_case s e None = refl
short_case s e (Some faults) = refl

short_step : (s : ShardState) (e : NodeEvent) → core_step Short s e ≡ stays s answer.Memory
unfolding core_step
short_step s e = short_case s e s.stopped

-- a stopped core makes nothing durable, and doesn't change
pub record IsStill (s : ShardState) (o : CoreStep) : Type 0 where
  pub core : o.core ≡ s
  pub ceiling : o.ceiling ≡ None
  pub rec : o.rec ≡ None

still_case : (room : Room) (s : ShardState) (e : NodeEvent) (o : Option ℕ) (faults : ℕ)
    → o ≡ Some faults → IsStill s (step_if room s e o)
still_case room s e None faults is = absurd cc
still_case Ample s e (Some f) faults is = record { core = refl; ceiling = refl; rec = refl }
still_case Scarce s e (Some f) faults is = record { core = refl; ceiling = refl; rec = refl }
still_case Short s e (Some f) faults is = record { core = refl; ceiling = refl; rec = refl }

still_step : (room : Room) (s : ShardState) (e : NodeEvent) (faults : ℕ) → s.stopped ≡ Some faults
    → IsStill s (core_step room s e)
unfolding core_step
still_step room s e faults is = still_case room s e s.stopped faults is

some_or_none : (o : Option ℕ) (A : Type 0) → (o ≡ None → A)
    → ((faults : ℕ) → o ≡ Some faults → A) → A
some_or_none None A none some = none refl
some_or_none (Some faults) A none some = some faults refl

if_some : {A : Type 0} (o : Option A) (P : Type 0) → P → IfSome o (λ _. P)
if_some None P h = tt
if_some (Some x) P h = h

-- What is known of a step that was made: its core, what it makes durable, and what it answers.
module _ (s : ShardState) (e : NodeEvent) (made : CoreStep) (step : Steps s e made) (closed : Bool)
    (running : s.stopped ≡ None → closed ≡ false) where
  still_made : (faults : ℕ) → s.stopped ≡ Some faults → IsStill s made
  still_made faults is =
      subst (λ (o : CoreStep). IsStill s o) step.1 (still_step step.0 s e faults is)

  -- a core that runs after it ran before it
  pub ran : made.core.stopped ≡ None → closed ≡ false
  ran none = some_or_none s.stopped (closed ≡ false) running (λ faults is. let same : made.core
      ≡ s = (still_made faults is).core in let was : s.stopped ≡ None =
      sym (ap (λ (x : ShardState). x.stopped) same) ∙ none in absurd cc)

  pub can_append_ceiling : IfSome made.ceiling (λ _. closed ≡ false)
  can_append_ceiling =
      some_or_none s.stopped (IfSome made.ceiling (λ _. closed ≡ false))
      (λ none. if_some made.ceiling (closed ≡ false) (running none))
      (λ faults is. subst (λ (o : Option ℕ). IfSome o (λ _. closed ≡ false))
      (sym (still_made faults is).ceiling) tt)

  pub can_append_record : IfSome made.rec (λ _. closed ≡ false)
  can_append_record =
      some_or_none s.stopped (IfSome made.rec (λ _. closed ≡ false))
      (λ none. if_some made.rec (closed ≡ false) (running none))
      (λ faults is. subst (λ (o : Option Rec). IfSome o (λ _. closed ≡ false))
      (sym (still_made faults is).rec) tt)

  pub made_carries : IsBounded s.part → IsCarried s e.what made
  made_carries bounded =
      subst (λ (o : CoreStep). IsCarried s e.what o) step.1 (step_carries step.0 s e bounded)

  pub carries_payload : (payload : List ℕ) → IsBounded s.part → payload ≡ carried s.part e.what
      → Carries payload made.rec
  carries_payload payload bounded is =
      subst (λ (l : List ℕ). Carries l made.rec) (sym is) (made_carries bounded).carries

-- all appends were made
takes_all : (old new : NodeState) (e : NodeEvent) (a : NodeAnswer) (made : CoreStep)
    → Steps old.core e made → Appended old made a new → ShardTakes old e a new
takes_all old new e a made step h =
    (step.0, inl (subst (λ (o : CoreStep). Appended old o a new) (sym step.1) h))

-- nothing has changed
takes_none : (old new : NodeState) (e : NodeEvent) (a : NodeAnswer)
    → Steps old.core e (stays old.core a) → new ≡ old → ShardTakes old e a new
takes_none old new e a step same =
    takes_all old new e a (stays old.core a) step (
    subst (λ (n : NodeState). Appended old (stays old.core a) a n) (sym same) (record {
      told = refl;
      later = omega arith;
      core = refl;
      records = sym (append-nil old.records);
      hand = refl;
      settled = refl;
    })
    )

pub takes_short : (old new : NodeState) (e : NodeEvent) → new ≡ old
    → ShardTakes old e answer.Memory new
takes_short old new e same = takes_none old new e answer.Memory (Short, short_step old.core e) same

-- nodes that agree in each part
pub same_node : (core : ShardState) (settled : Option ℕ) (records records_2 hand hand_2 : List Rec)
    (faults faults_2 : ℕ) → records ≡ records_2 → hand ≡ hand_2 → faults ≡ faults_2
    → ◌≡◌ {A = NodeState}
    (record { core = core; records = records; hand = hand; settled = settled; faults = faults })
    (record {
      core = core;
      records = records_2;
      hand = hand_2;
      settled = settled;
      faults = faults_2;
    })
same_node core settled records records_2 hand hand_2 faults faults_2 r h f =
    ap (λ (l : List Rec).
    record { core = core; records = l; hand = hand; settled = settled; faults = faults }) r
    ∙ ap (λ (l : List Rec).
    record { core = core; records = records_2; hand = l; settled = settled; faults = faults }) h
    ∙ ap (λ (n : ℕ).
    record { core = core; records = records_2; hand = hand_2; settled = settled; faults = n }) f
