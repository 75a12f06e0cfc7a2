-- What a node answers, and how it is after it, where nothing outside it fails.
use Rattle.std.proofs.Common.{◌≡◌, ◌≢◌, ◌||◌, inl, inr, ℕ, Bool, true, false, List, [], ◌∷◌, ◌++◌}
use Rattle.std.proofs.Common.{Option, Some, None, option_map, option_and_then, unwrap_or, is_some}
use Rattle.std.proofs.Common.{Err, cond, nat_lt, refl, sym, ap, subst, ◌∙◌}
use Rattle.txn_types.specs.declared.cause.Cause.TheVariants as cause
use Rattle.txn_types.specs.declared.event.Happening.{Happening}
use Rattle.txn_types.specs.declared.event.Happening.TheVariants as what
use Rattle.txn_types.specs.declared.event.NodeAnswer.{NodeAnswer}
use Rattle.txn_types.specs.declared.event.NodeAnswer.TheVariants as answer
use Rattle.txn_types.specs.declared.event.NodeEvent.{NodeEvent}
use Rattle.txn_types.specs.declared.message.Msg.{Msg}
use Rattle.txn_types.specs.declared.message.Msg.TheVariants as msg
use Rattle.txn_types.specs.declared.node.NodeId.{NodeId}
use Rattle.journal_rec.specs.declared.record.Rec.{Rec}
use Rattle.journal_rec.specs.Follows.{first_refused}
use Rattle.shard_image.specs.Image.{image_of}
use Rattle.participant.proofs.Cases.{either}
use Rattle.participant.specs.Part.{elsewhere}
use Rattle.shard_core.specs.Participating as participating
use Rattle.shard_core.specs.State.{ShardState, met, ceiling_of}
use Rattle.shard_core.specs.Ruled.{Ruled}
use Rattle.shard_core.specs.Rules.{router_of}
use Rattle.shard_core.specs.Wanting.{Wanting, wanting, wants_outcome, told_if, told_memory}
use Rattle.shard_core.specs.Wanting.{may_be_told}
use Rattle.shard_core.specs.Core.{Room, Ample, Scarce, Short, CoreStep, core_step, step_if, stepped}
use Rattle.shard_core.specs.Core.{stays, entered, scarce}
use Rattle.shard_core.specs.NodeStep.{NodeState, ShardTakes, appends_of, joined}
use Rattle.shard_core.specs.NodeStep.{node_of, boot_behind, started_if, started}
use Rattle.router_state.specs.State.{RouterState}
use Rattle.router_core.specs.Step.{RouterTakes}
use Rattle.course_laws.specs.Unharmed.{tells_memory, IsUnharmed}
use Rattle.course_laws.specs.Course.{uncounted}

-- A shard with little memory answers that there is none, or tells so.

abbrev LetterTells : Option Wanting → Type 0
LetterTells None = Unit {0}
LetterTells (Some w) = tells_memory w.letter.1 ≡ true

wanting_tells : (s : ShardState) (from : NodeId) (m : Msg) → LetterTells (wanting s from m)
wanting_tells s from (msg.Statement m) =
    either (elsewhere s.part m.lsid m.tag) LetterTells None (Some (record {
      lsid = m.lsid;
      number = m.number;
      tag = m.tag;
      letter = participating.answer s from m 0 (Err cause.Memory);
    })) tt refl
wanting_tells s from (msg.Commit m) = refl
wanting_tells s from (msg.CommitTwo m) = either (is_some (router_of from)) LetterTells
    (Some (wants_outcome s from m.lsid m.number m.tag)) None refl tt
wanting_tells s from (msg.Prepare m) = refl
wanting_tells s from (msg.Recover m) = either (is_some (router_of from)) LetterTells
    (Some (wants_outcome s from m.lsid m.number m.tag)) None refl tt
wanting_tells s from other = tt

first_tells : (b : Bool) → b ≡ true → (b || false) ≡ false → ⊥
first_tells true is none = cc
first_tells false is none = cc

abbrev IsHarmed : CoreStep → Type 0
IsHarmed o = IsUnharmed o.answer → ⊥

told_harms : (s : ShardState) (ceiling : Option ℕ) (w : Option Wanting) (other : CoreStep)
    → LetterTells w → IsHarmed other
    → IsHarmed (unwrap_or (option_map (stepped ceiling) (option_and_then (told_if s) w)) other)
told_harms s ceiling None other tells harmed = harmed
told_harms s ceiling (Some w) other tells harmed =
    either (may_be_told s w)
    (λ (r : Option Ruled). IsHarmed (unwrap_or (option_map (stepped ceiling) r) other))
    (Some (told_memory s w)) None (first_tells (tells_memory w.letter.1) tells) harmed

scarce_harms : (s : ShardState) (h : Happening) (other : CoreStep) → IsHarmed other
    → IsHarmed (unwrap_or (scarce s h) other)
scarce_harms s (what.Deliver e) other harmed =
    told_harms (met s e) (ceiling_of s e) (wanting (met s e) e.from e.msg) other
    (wanting_tells (met s e) e.from e.msg) harmed
scarce_harms s other_event other harmed = harmed

step_case : (room : Room) (s : ShardState) (e : NodeEvent) (o : Option ℕ)
    → IsUnharmed (step_if room s e o).answer → step_if room s e o ≡ step_if Ample s e o
step_case Ample s e o well = refl
step_case Scarce s e None well =
    absurd (scarce_harms (entered s e) e.what (stays s answer.Memory) (λ h. h) well)
step_case Short s e None well = absurd well
step_case Scarce s e (Some faults) well = absurd well
step_case Short s e (Some faults) well = absurd well

ample : (room : Room) (s : ShardState) (e : NodeEvent) → IsUnharmed (core_step room s e).answer
    → core_step room s e ≡ core_step Ample s e
unfolding core_step
ample room s e well = step_case room s e s.stopped well

-- So its step is one function of its state but for the count of faults.

abbrev pub node_behind : NodeState → CoreStep → NodeState
node_behind old o = record {
  core = o.core;
  records = old.records ++ joined (appends_of o);
  hand = old.hand;
  settled = old.settled;
  faults = 0;
}

uncounted_is : (s : NodeState) (core : ShardState) (records hand : List Rec) (settled : Option ℕ)
    → s.core ≡ core → s.records ≡ records → s.hand ≡ hand → s.settled ≡ settled
    → uncounted s ≡ record {
      core = core;
      records = records;
      hand = hand;
      settled = settled;
      faults = 0;
    }
uncounted_is s core records hand settled a b c d = cc

-- what came of it
pub record ComesOf (old : NodeState) (e : NodeEvent) (a : NodeAnswer)
    (new : NodeState) : Type 0 where
  pub told : a ≡ (core_step Ample old.core e).answer
  pub is : uncounted new ≡ node_behind old (core_step Ample old.core e)
  pub hand : new.hand ≡ old.hand

pub shard_takes : (old : NodeState) (e : NodeEvent) (a : NodeAnswer) (new : NodeState)
    → ShardTakes old e a new → IsUnharmed a → ComesOf old e a new
shard_takes old e a new (room, inl h) well =
    let o = core_step room old.core e in
    let is : o ≡ core_step Ample old.core e =
    ample room old.core e (subst IsUnharmed h.told well) in
    record {
      told = h.told ∙ ap (λ (x : CoreStep). x.answer) is;
      is = uncounted_is new o.core (old.records ++ joined (appends_of o)) old.hand old.settled
          h.core h.records h.hand h.settled ∙ ap (node_behind old) is;
      hand = h.hand;
    }
shard_takes old e a new (room, inr h) well = absurd (subst IsUnharmed h.told well)

pub shard_takes_once : (before before' after after' : NodeState) (e : NodeEvent)
    (a a' : NodeAnswer) → uncounted before ≡ uncounted before' → ShardTakes before e a after
    → ShardTakes before' e a' after' → IsUnharmed a → IsUnharmed a'
    → (a ≡ a') × (uncounted after ≡ uncounted after')
shard_takes_once before before' after after' e a a' same takes takes' well well' =
    let one = shard_takes before e a after takes well in
    let other = shard_takes before' e a' after' takes' well' in
    let answers : (core_step Ample before.core e).answer ≡ (core_step Ample before'.core e).answer =
    ap (λ (s : NodeState). (core_step Ample s.core e).answer) same in
    let nodes : node_behind before (core_step Ample before.core e)
    ≡ node_behind before' (core_step Ample before'.core e) =
    ap (λ (s : NodeState). node_behind s (core_step Ample s.core e)) same in
    (one.told ∙ answers ∙ sym other.told, one.is ∙ nodes ∙ sym other.is)

-- Routers.

pub router_takes_once : (before after after' : RouterState) (e : NodeEvent) (a a' : NodeAnswer)
    → RouterTakes before e a after → RouterTakes before e a' after' → a ≢ answer.Memory
    → a' ≢ answer.Memory → (a ≡ a') × (after ≡ after')
router_takes_once before after after' e a a' (true, is, new) takes' room room' = absurd (room is)
router_takes_once before after after' e a a' (false, is, new) (true, is', new') room room' =
    absurd (room' is')
router_takes_once before after after' e a a' (false, is, new) (false, is', new') room room' =
    (is ∙ sym is', new ∙ sym new')

-- Starts from the same records, at disks that failed so often.

starts_case : (t : Bool) (one other a b : NodeState) → uncounted one ≡ uncounted other
    → cond t (Some one) None ≡ Some a → cond t (Some other) None ≡ Some b
    → uncounted a ≡ uncounted b
starts_case true one other a b same is is' =
    let first : one ≡ a = cc in
    let second : other ≡ b = cc in
    sym (ap uncounted first) ∙ same ∙ ap uncounted second
starts_case false one other a b same is is' = cc

starts_if : (n : ℕ) (recs : List Rec) (f f' : ℕ) (o : Option ℕ) (a b : NodeState)
    → started_if n recs f o ≡ Some a → started_if n recs f' o ≡ Some b → uncounted a ≡ uncounted b
starts_if n recs f f' None a b is is' =
    let i = image_of recs in
    starts_case (nat_lt i.boot 4294967294) (node_of n (recs ++ boot_behind i ∷ []) f)
    (node_of n (recs ++ boot_behind i ∷ []) f') a b refl is is'
starts_if n recs f f' (Some index) a b is is' = cc

pub starts_once : (n : ℕ) (recs : List Rec) (f f' : ℕ) (a b : NodeState)
    → started n recs f ≡ Some a → started n recs f' ≡ Some b → uncounted a ≡ uncounted b
starts_once n recs f f' a b is is' = starts_if n recs f f' (first_refused recs) a b is is'

empty_case : (t : Bool) (one a : NodeState) → one.hand ≡ [] → cond t (Some one) None ≡ Some a
    → a.hand ≡ []
empty_case true one a none is =
    let first : one ≡ a = cc in subst (λ (s : NodeState). s.hand ≡ []) first none
empty_case false one a none is = cc

empty_if : (n : ℕ) (recs : List Rec) (f : ℕ) (o : Option ℕ) (a : NodeState)
    → started_if n recs f o ≡ Some a → a.hand ≡ []
empty_if n recs f None a is =
    let i = image_of recs in
    empty_case (nat_lt i.boot 4294967294) (node_of n (recs ++ boot_behind i ∷ []) f) a refl is
empty_if n recs f (Some index) a is = cc

-- nothing is in hand at a start
pub starts_empty : (n : ℕ) (recs : List Rec) (f : ℕ) (a : NodeState) → started n recs f ≡ Some a
    → a.hand ≡ []
starts_empty n recs f a is = empty_if n recs f (first_refused recs) a is
