-- A shard's node.
use Rattle.std.proofs.Common.{◌≡◌, ◌⊎◌, inl, inr, ◌++◌, ℕ, List, [], ◌∷◌, Option, Some, None, refl}
use Rattle.std.proofs.Common.{ap, subst, ◌∙◌, sym}
use Rattle.txn_types.specs.declared.event.NodeAnswer.{NodeAnswer}
use Rattle.txn_types.specs.declared.event.NodeEvent.{NodeEvent}
use Rattle.journal_rec.specs.Follows.{first_refused}
use Rattle.journal_rec.specs.declared.record.Rec.{Rec}
use Rattle.shard_image.specs.Image.{image_of}
use Rattle.shard_image.specs.Sound.{AreWritten}
use Rattle.shard_core.specs.State.{ShardState}
use Rattle.shard_core.specs.Core.{Room, Ample, Scarce, Short, CoreStep, core_step, step_if}
use Rattle.shard_core.specs.Core.{stopped_step}
use Rattle.shard_core.specs.NodeStep.{NodeState, boot_behind, started, appends_of, joined, Appended}
use Rattle.shard_core.specs.NodeStep.{Failed, ShardTakes}
use Rattle.durable_laws.specs.Backed.{IsShard, IsBacked, IsFoundAgain, kept_state, lost_state}
use Rattle.durable_laws.specs.Backed.{IsDurableNode, IsLeft, left_state}
use Rattle.durable_laws.proofs.Stepping.{step_is_shard, step_is_backed, step_is_written}
use Rattle.durable_laws.proofs.Stepping.{fault_is_backed, behind_both, with_hand}
use Rattle.durable_laws.proofs.Beginning.{started_case, start_backed, start_finds}

pub append_none : (xs : List Rec) → xs ++ [] ≡ xs
append_none [] = refl
append_none (x ∷ xs) = ap (λ (l : List Rec). x ∷ l) (append_none xs)

pub written_both : (xs ys : List Rec) → AreWritten xs → AreWritten ys → AreWritten (xs ++ ys)
written_both [] ys h k = k
written_both (x ∷ xs) ys h k = (h.0, written_both xs ys h.1 k)

pub written_front : (xs ys : List Rec) → AreWritten (xs ++ ys) → AreWritten xs
written_front [] ys h = tt
written_front (x ∷ xs) ys h = (h.0, written_front xs ys h.1)

-- of lists one after the other, what those in front hold
joined_both : (xs ys : List (List Rec)) → joined (xs ++ ys) ≡ joined xs ++ joined ys
joined_both [] ys = refl
joined_both (x ∷ xs) ys = ap (λ (l : List Rec). x ++ l) (joined_both xs ys)
    ∙ sym (behind_both x (joined xs) (joined ys))

-- A stopped shard appends nothing, and stays.

record Rests (s : ShardState) (o : CoreStep) : Type 0 where
  core : o.core ≡ s
  none : appends_of o ≡ []

stopped_rests : (room : Room) (s : ShardState) (faults : ℕ) (e : NodeEvent)
    → Rests s (stopped_step room s faults e)
stopped_rests Ample s faults e = record { core = refl; none = refl }
stopped_rests Scarce s faults e = record { core = refl; none = refl }
stopped_rests Short s faults e = record { core = refl; none = refl }

rests_case : (room : Room) (s : ShardState) (e : NodeEvent) (stopped : Option ℕ) (faults : ℕ)
    → stopped ≡ Some faults → Rests s (step_if room s e stopped)
rests_case room s e None faults is = cc
rests_case room s e (Some n) faults is = stopped_rests room s n e

step_rests : (room : Room) (s : ShardState) (e : NodeEvent) (faults : ℕ) → s.stopped ≡ Some faults
    → Rests s (core_step room s e)
unfolding core_step
step_rests room s e faults is = rests_case room s e s.stopped faults is

-- All appends were made.

appended_running : (old : NodeState) (e : NodeEvent) (room : Room) (a : NodeAnswer)
    (new : NodeState) → IsDurableNode old → old.core.stopped ≡ None
    → Appended old (core_step room old.core e) a new → IsDurableNode new
appended_running old e room a new h runs done =
    let o : CoreStep = core_step room old.core e in
    let before = h.running runs in
    let core : IsShard new.core =
    subst IsShard (sym done.core) (step_is_shard room old.core e h.shard) in
    let backed : IsBacked new.records new.core =
    subst (IsBacked new.records) (sym done.core) (subst (λ (r : List Rec). IsBacked r o.core)
    (sym done.records) (step_is_backed room old.core e old.records before.0)) in
    let none : new.hand ≡ [] = done.hand ∙ before.1 in
    let all : new.records ++ new.hand ≡ new.records = ap (λ (l : List Rec). new.records ++ l) none
    ∙ append_none new.records in
    let was : AreWritten old.records = written_front old.records old.hand h.written in
    record {
      shard = core;
      running = λ _. (backed, none);
      kept = (new.core, backed);
      hand = (new.core, subst (λ (r : List Rec). IsBacked r new.core) (sym all) backed);
      written = subst AreWritten (sym (all ∙ done.records)) (written_both old.records
          (joined (appends_of o)) was (step_is_written room old.core e old.records before.0));
    }

appended_stopped : (old : NodeState) (e : NodeEvent) (room : Room) (a : NodeAnswer)
    (new : NodeState) (faults : ℕ) → IsDurableNode old → old.core.stopped ≡ Some faults
    → Appended old (core_step room old.core e) a new → IsDurableNode new
appended_stopped old e room a new faults h stops done =
    let rests = step_rests room old.core e faults stops in
    let core : new.core ≡ old.core = done.core ∙ rests.core in
    let records : new.records ≡ old.records = done.records ∙ ap (λ (l : List (List Rec)).
    old.records ++ joined l) rests.none ∙ append_none old.records in
    let both : new.records ++ new.hand ≡ old.records ++ old.hand = ap (λ (l : List Rec). l
    ++ new.hand) records ∙ ap (λ (l : List Rec). old.records ++ l) done.hand in
    record {
      shard = subst IsShard (sym core) h.shard;
      running = λ none. let wrong : None ≡ Some faults = sym none
          ∙ ap (λ (s : ShardState). s.stopped) core ∙ stops in cc;
      kept = (h.kept.0, subst (λ (r : List Rec). IsBacked r h.kept.0) (sym records) h.kept.1);
      hand = (h.hand.0, subst (λ (r : List Rec). IsBacked r h.hand.0) (sym both) h.hand.1);
      written = subst AreWritten (sym both) h.written;
    }

-- One failed.

failed_running : (old : NodeState) (e : NodeEvent) (room : Room) (a : NodeAnswer) (new : NodeState)
    → IsDurableNode old → old.core.stopped ≡ None → Failed old (core_step room old.core e) a new
    → IsDurableNode new
failed_running old e room a new h runs f =
    let o : CoreStep = core_step room old.core e in
    let before = h.running runs in
    let left = fault_is_backed old e room a new f before.0 in
    let s : IsShard o.core = step_is_shard room old.core e h.shard in
    let still : IsShard (record o.core { stopped = Some new.faults }) = record {
      part = s.part;
      stands = s.stands;
      reads = s.reads;
      apart = s.apart;
      rises = s.rises;
    } in
    let was : AreWritten old.records = written_front old.records old.hand h.written in
    let more : AreWritten ((joined f.kept ++ f.lost) ++ joined f.rest) =
    subst AreWritten (ap joined f.parted ∙ joined_both f.kept (f.lost ∷ f.rest)
    ∙ sym (behind_both (joined f.kept) f.lost (joined f.rest))) (step_is_written room old.core e
    old.records before.0) in
    record {
      shard = subst IsShard (sym f.core) still;
      running = λ none. let wrong : None ≡ Some new.faults = sym none
          ∙ ap (λ (s : ShardState). s.stopped) f.core in cc;
      kept = (kept_state old.core o f.kept, left.0);
      hand = (lost_state old.core o f.rest, left.1);
      written = subst AreWritten (sym (with_hand old.records (joined f.kept) f.lost new.records
          new.hand f.records f.hand)) (written_both old.records (joined f.kept ++ f.lost) was
          (written_front (joined f.kept ++ f.lost) (joined f.rest) more));
    }

none_lost : (kept : List (List Rec)) (lost : List Rec) (rest : List (List Rec))
    → [] ≡ kept ++ lost ∷ rest → ⊥
none_lost [] lost rest h = cc
none_lost (k ∷ kept) lost rest h = cc

takes_case : (old : NodeState) (e : NodeEvent) (room : Room) (a : NodeAnswer) (new : NodeState)
    (stopped : Option ℕ) → old.core.stopped ≡ stopped → IsDurableNode old
    → Appended old (core_step room old.core e) a new ⊎ Failed old (core_step room old.core e) a new
    → IsDurableNode new
takes_case old e room a new None is h (inl done) = appended_running old e room a new h is done
takes_case old e room a new None is h (inr f) = failed_running old e room a new h is f
takes_case old e room a new (Some faults) is h (inl done) =
    appended_stopped old e room a new faults h is done
takes_case old e room a new (Some faults) is h (inr f) = absurd (none_lost f.kept f.lost f.rest
    (sym (step_rests room old.core e faults is).none ∙ f.parted))

pub node_takes : (old : NodeState) (e : NodeEvent) (a : NodeAnswer) (new : NodeState)
    → ShardTakes old e a new → IsDurableNode old → IsDurableNode new
node_takes old e a new t h = takes_case old e t.0 a new old.core.stopped refl h t.1

-- Starts.

pub node_starts : (shard : ℕ) (recs : List Rec) (faults : ℕ) (n : NodeState) → AreWritten recs
    → started shard recs faults ≡ Some n → IsDurableNode n
node_starts shard recs faults n written h =
    let start = started_case shard recs faults n (first_refused recs) refl h in
    let backed = start_backed shard recs faults n written h in
    let none : [] ≡ n.hand = ap (λ (x : NodeState). x.hand) start.node in
    let all : n.records ++ n.hand ≡ n.records = ap (λ (l : List Rec). n.records ++ l) (sym none)
    ∙ append_none n.records in
    let boot : AreWritten (recs ++ boot_behind (image_of recs) ∷ []) =
    written_both recs (boot_behind (image_of recs) ∷ []) written (tt, tt) in
    record {
      shard = backed.shard;
      running = λ _. (backed, sym none);
      kept = (n.core, backed);
      hand = (n.core, subst (λ (r : List Rec). IsBacked r n.core) (sym all) backed);
      written = subst AreWritten (ap (λ (x : NodeState). x.records) start.node ∙ sym all) boot;
    }

-- what a stop of the machine leaves is started again
pub node_again : (n : NodeState) (recs : List Rec) (shard faults : ℕ) (m : NodeState)
    → IsDurableNode n → IsLeft n recs → started shard recs faults ≡ Some m
    → IsDurableNode m × ((s : ShardState) × IsBacked recs s × IsFoundAgain s m.core)
node_again n recs shard faults m h (inl is) go =
    let written : AreWritten recs =
    subst AreWritten (sym is) (written_front n.records n.hand h.written) in
    let backed : IsBacked recs h.kept.0 =
    subst (λ (r : List Rec). IsBacked r h.kept.0) (sym is) h.kept.1 in (
      node_starts shard recs faults m written go,
      (h.kept.0, backed, start_finds shard recs faults m h.kept.0 backed go),
    )
node_again n recs shard faults m h (inr is) go =
    let written : AreWritten recs = subst AreWritten (sym is) h.written in
    let backed : IsBacked recs h.hand.0 =
    subst (λ (r : List Rec). IsBacked r h.hand.0) (sym is) h.hand.1 in (
      node_starts shard recs faults m written go,
      (h.hand.0, backed, start_finds shard recs faults m h.hand.0 backed go),
    )

either_left : {A : Type 0} {recs now all : A} → (recs ≡ now) ⊎ (recs ≡ all) → all ≡ now → recs ≡ now
either_left (inl is) same = is
either_left (inr is) same = is ∙ same

-- after a step of a node that ran, what is left holds just that state
left_backed : (old : NodeState) (e : NodeEvent) (room : Room) (a : NodeAnswer) (new : NodeState)
    (recs : List Rec) → IsDurableNode old → old.core.stopped ≡ None
    → (done : Appended old (core_step room old.core e) a new
    ⊎ Failed old (core_step room old.core e) a new) (left : IsLeft new recs)
    → IsBacked recs (left_state old (core_step room old.core e) a new recs done left)
left_backed old e room a new recs h runs (inl done) left =
    let before = h.running runs in
    let none : new.hand ≡ [] = done.hand ∙ before.1 in
    let all : new.records ++ new.hand ≡ new.records = ap (λ (l : List Rec). new.records ++ l) none
    ∙ append_none new.records in
    subst (λ (r : List Rec). IsBacked r (core_step room old.core e).core) (sym (either_left left all
    ∙ done.records)) (step_is_backed room old.core e old.records before.0)
left_backed old e room a new recs h runs (inr f) (inl is) =
    subst (λ (r : List Rec). IsBacked r (kept_state old.core (core_step room old.core e) f.kept))
    (sym is) (fault_is_backed old e room a new f (h.running runs).0).0
left_backed old e room a new recs h runs (inr f) (inr is) =
    subst (λ (r : List Rec). IsBacked r (lost_state old.core (core_step room old.core e) f.rest))
    (sym is) (fault_is_backed old e room a new f (h.running runs).0).1

pub node_crashes : (old : NodeState) (e : NodeEvent) (a : NodeAnswer) (new : NodeState)
    (t : ShardTakes old e a new) → IsDurableNode old → old.core.stopped ≡ None
    → (recs : List Rec) (left : IsLeft new recs) (shard faults : ℕ) (m : NodeState)
    → started shard recs faults ≡ Some m
    → IsFoundAgain (left_state old (core_step t.0 old.core e) a new recs t.1 left) m.core
node_crashes old e a new t h runs recs left shard faults m go =
    start_finds shard recs faults m (left_state old (core_step t.0 old.core e) a new recs t.1 left)
    (left_backed old e t.0 a new recs h runs t.1 left) go
