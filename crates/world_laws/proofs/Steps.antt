-- What a step of a shard does, over all events and however much memory there is.
use Rattle.std.proofs.Common.{◌≡◌, inl, ◌≤◌, ℕ, max, List, [], ◌∷◌, Option, Some, None, IfSome}
use Rattle.std.proofs.Common.{option_map, option_and_then, unwrap_or, is_some, Err, refl, subst}
use Rattle.std.proofs.Common.{arith, ◌∙◌}
use Rattle.std.proofs.lemmas.List.Elements.{All-map}
use Rattle.txn_types.specs.Clock.{Clock, raised}
use Rattle.txn_types.specs.Letters.{Letter, sent_by}
use Rattle.txn_types.specs.declared.cause.Cause.TheVariants as cause
use Rattle.txn_types.specs.declared.event.Happening.{Happening}
use Rattle.txn_types.specs.declared.event.Happening.TheVariants as what
use Rattle.txn_types.specs.declared.event.NodeAnswer.{NodeAnswer}
use Rattle.txn_types.specs.declared.event.NodeAnswer.TheVariants as answer
use Rattle.txn_types.specs.declared.event.NodeEvent.{NodeEvent}
use Rattle.txn_types.specs.declared.message.Envelope.{Envelope}
use Rattle.txn_types.specs.declared.message.Msg.{Msg}
use Rattle.txn_types.specs.declared.message.Msg.TheVariants as msg
use Rattle.txn_types.specs.declared.node.NodeId.{NodeId}
use Rattle.txn_types.specs.declared.node.NodeId.TheVariants.{Shard}
use Rattle.version_store.specs.declared.version.Held.{Held}
use Rattle.journal_rec.specs.declared.record.Rec.{Rec}
use Rattle.participant.specs.Part.{elsewhere}
use Rattle.participant.proofs.Cases.{either}
use Rattle.shard_core.specs.State.{ShardState, met, ceiling_of}
use Rattle.shard_core.specs.Ruled.{Ruled, quiet}
use Rattle.shard_core.specs.Participating as participating
use Rattle.shard_core.specs.Rules.{ruled, router_of}
use Rattle.shard_core.specs.Wanting.{wanting, Wanting, told_if, told_memory, may_be_told}
use Rattle.shard_core.specs.Core.{Room, Ample, Scarce, Short, CoreStep, core_step, step_if, stepped}
use Rattle.shard_core.specs.Core.{stays, entered, happened, scarce, running_step, stopped_step}
use Rattle.shard_core.specs.Core.{answer_stopped, says_stopped, gives_out, answer_of}
use Rattle.shard_core.specs.Laws.{KeepsCeiling}
use Rattle.shard_core.proofs.Keeping.{ruled_keeps}
use Rattle.txn_types.specs.Letters.{given_out, Named, named_in}
use Rattle.shard_core.specs.Effect.{Same, MayRecord, NamesOnly, AllName, Effect, NamesBy, SentNames}
use Rattle.shard_core.specs.Effect.{StepRecords, StepEffect, Rests}
use Rattle.world_laws.proofs.Numbers.{expire_same, memory_same}
use Rattle.world_laws.proofs.Naming.{nothing, one, resends_name}
use Rattle.world_laws.proofs.Effects.{ruled_does}

-- what is given out names what its letters name
gives_names : (P : Named → Type 0) (s : ShardState) (out : List Letter) → AllName P out
    → SentNames P (given_out (gives_out s out))
gives_names P s out h = All-map (λ (e : Envelope). IfSome (named_in e.msg) P)
    (sent_by (Shard s.part.shard) s.clock.last) out h

answers_name : (P : Named → Type 0) (s : ShardState) (out : List Letter) (h : Option Held)
    → AllName P out → SentNames P (given_out (answer_of s out h))
answers_name P s out None h = gives_names P s out h
answers_name P s out (Some held) h = nothing (λ (e : Envelope). IfSome (named_in e.msg) P)

entered_same : (s : ShardState) (e : NodeEvent) → Same s.part (entered s e).part
entered_same s e = let h = expire_same s.part (max s.wall e.wall) in
    record { shard = h.shard; boot = h.boot }

-- nothing has changed
rests : (P : Named → Type 0) (s : ShardState) (e : NodeEvent) (a : NodeAnswer)
    → SentNames P (given_out a) → StepEffect P s e (stays s a)
rests P s e a h = record {
  wall = grind arith;
  ceiling = grind arith;
  stopped = refl;
  same = record { shard = refl; boot = refl };
  recorded = tt;
  plans = λ x y. y;
  names = λ x y. h;
}

-- a rule that records nothing, of an event that names nothing
calm : (P : Named → Type 0) (s : ShardState) (e : NodeEvent)
    → StepEffect P s e (stepped None (quiet (entered s e)))
calm P s e =
    record {
      wall = grind arith;
      ceiling = grind arith;
      stopped = refl;
      same = entered_same s e;
      recorded = tt;
      plans = λ x y. y;
      names = λ x y. nothing (λ (e : Envelope). IfSome (named_in e.msg) P);
    }

raised_rises : (c : Clock) (bound : Option ℕ) → c.ceiling ≤ (raised c bound).ceiling
raised_rises c None = grind arith
raised_rises c (Some bound) = grind arith

recorded_by : (s : ShardState) (e : NodeEvent) (sent : Envelope) (new : ShardState) (r : Option Rec)
    → e.what ≡ what.Deliver sent → IfSome r (MayRecord (met (entered s e) sent) sent.msg new)
    → IfSome r (StepRecords s e new)
recorded_by s e sent new None is h = tt
recorded_by s e sent new (Some r) is h = (sent, is, h)

rules : (P : Named → Type 0) (s : ShardState) (e : NodeEvent) (sent : Envelope) (r : Ruled)
    → e.what ≡ what.Deliver sent → KeepsCeiling (met (entered s e) sent) r
    → Effect P (met (entered s e) sent) sent.msg r
    → StepEffect P s e (stepped (ceiling_of (entered s e) sent) r)
rules P s e sent r is k h =
    let here = entered_same s e in
    let named_of : NamesBy P e.what → NamesBy P (what.Deliver sent) = λ x. subst (NamesBy P) is x in
    record {
      wall = rw h.wall (grind arith);
      ceiling = rw k.ceiling (raised_rises s.clock (ceiling_of (entered s e) sent));
      stopped = h.stopped;
      same = record { shard = h.same.shard ∙ here.shard; boot = h.same.boot ∙ here.boot };
      recorded = recorded_by s e sent r.core r.rec is h.recorded;
      plans = λ x y. h.plans (named_of x) y;
      names = λ x y. answers_name P r.core r.out r.held (h.names (named_of x) y);
    }

happens : (P : Named → Type 0) (s : ShardState) (e : NodeEvent) (w : Happening) → e.what ≡ w
    → StepEffect P s e (happened (entered s e) w)
happens P s e (what.Client conn frame) is = calm P s e
happens P s e (what.Gone conn) is = calm P s e
happens P s e (what.Deliver sent) is = rules P s e sent (ruled (met (entered s e) sent) sent.from
    sent.msg) is (ruled_keeps (met (entered s e) sent) sent.from sent.msg) (ruled_does P
    (met (entered s e) sent) sent.from sent.msg)
happens P s e what.Resend is =
    record {
      wall = grind arith;
      ceiling = grind arith;
      stopped = refl;
      same = entered_same s e;
      recorded = tt;
      plans = λ x y. y;
      names =
          λ x y. gives_names P (entered s e) _ (resends_name P (entered s e).part.shard s.coord y);
    }
happens P s e what.Moment is = calm P s e

-- out of memory

abbrev WantsNone : (Named → Type 0) → Option Wanting → Type 0
WantsNone P w = IfSome w (λ w. NamesOnly P w.letter)

wants : (P : Named → Type 0) (s : ShardState) (from : NodeId) (m : Msg)
    → WantsNone P (wanting s from m)
wants P s from (msg.Statement m) = either (elsewhere s.part m.lsid m.tag) (WantsNone P) _ _ tt tt
wants P s from (msg.Answer m) = tt
wants P s from (msg.Commit m) = tt
wants P s from (msg.Outcome m) = tt
wants P s from (msg.Abort m) = tt
wants P s from (msg.CommitTwo m) = either (is_some (router_of from)) (WantsNone P) _ _ tt tt
wants P s from (msg.Prepare m) = tt
wants P s from (msg.Vote m) = tt
wants P s from (msg.Decide m) = tt
wants P s from (msg.Acked m) = tt
wants P s from (msg.Recover m) = either (is_some (router_of from)) (WantsNone P) _ _ tt tt
wants P s from msg.Nudge = tt

abbrev EachStep : (Named → Type 0) → ShardState → NodeEvent → Option CoreStep → Type 0
EachStep P s e None = Unit {0}
EachStep P s e (Some o) = StepEffect P s e o

memory_does : (P : Named → Type 0) (s : ShardState) (m : Msg) (w : Wanting) → NamesOnly P w.letter
    → Effect P s m (told_memory s w)
memory_does P s m w h =
    let g = memory_same s.part w.lsid w.tag in
    record {
      wall = refl;
      stopped = refl;
      same = record { shard = g.shard; boot = g.boot };
      recorded = tt;
      plans = λ a b. b;
      names = λ a b. one (NamesOnly P) w.letter h;
    }

told_does : (P : Named → Type 0) (s : ShardState) (e : NodeEvent) (sent : Envelope)
    (w : Option Wanting) → e.what ≡ what.Deliver sent → WantsNone P w
    → EachStep P s e (option_map (stepped (ceiling_of (entered s e) sent))
    (option_and_then (told_if (met (entered s e) sent)) w))
told_does P s e sent None is h = tt
told_does P s e sent (Some w) is h =
    either (may_be_told (met (entered s e) sent) w) (λ (r : Option Ruled).
    EachStep P s e (option_map (stepped (ceiling_of (entered s e) sent)) r))
    (Some (told_memory (met (entered s e) sent) w)) None
    (rules P s e sent (told_memory (met (entered s e) sent) w)
    is (record { last = inl refl; ceiling = refl })
    (memory_does P (met (entered s e) sent) sent.msg w h)) tt

scarce_does : (P : Named → Type 0) (s : ShardState) (e : NodeEvent) (w : Happening) → e.what ≡ w
    → EachStep P s e (scarce (entered s e) w)
scarce_does P s e (what.Client conn frame) is = tt
scarce_does P s e (what.Gone conn) is = tt
scarce_does P s e (what.Deliver sent) is = told_does P s e sent (wanting (met (entered s e) sent)
    sent.from sent.msg) is (wants P (met (entered s e) sent) sent.from sent.msg)
scarce_does P s e what.Resend is = tt
scarce_does P s e what.Moment is = tt

unless_short : (P : Named → Type 0) (s : ShardState) (e : NodeEvent) (o : Option CoreStep)
    → EachStep P s e o → (other : CoreStep) → StepEffect P s e other
    → StepEffect P s e (unwrap_or o other)
unless_short P s e None h other k = k
unless_short P s e (Some o) h other k = h

-- told where memory wanted, in the state that it entered
stays_entered : (P : Named → Type 0) (s : ShardState) (e : NodeEvent)
    → StepEffect P s e (stays s answer.Memory)
stays_entered P s e =
    rests P s e answer.Memory (nothing (λ (e : Envelope). IfSome (named_in e.msg) P))

runs : (P : Named → Type 0) (room : Room) (s : ShardState) (e : NodeEvent)
    → StepEffect P s e (running_step room s e)
runs P Ample s e = happens P s e e.what refl
runs P Scarce s e = unless_short P s e (scarce (entered s e) e.what) (scarce_does P s e e.what refl)
    (stays s answer.Memory) (stays_entered P s e)
runs P Short s e = stays_entered P s e

says : (P : Named → Type 0) (s : ShardState) (faults : ℕ) (from : NodeId) (m : Msg)
    → SentNames P (given_out (says_stopped s faults from m))
says P s faults from (msg.Statement m) =
    let l : Letter = participating.answer s from m 0 (Err (cause.Faulted faults)) in
    gives_names P s (l ∷ []) (one (NamesOnly P) l tt)
says P s faults from other = nothing (λ (e : Envelope). IfSome (named_in e.msg) P)

stopped_names : (P : Named → Type 0) (s : ShardState) (faults : ℕ) (w : Happening)
    → SentNames P (given_out (answer_stopped s faults w))
stopped_names P s faults (what.Deliver e) = says P s faults e.from e.msg
stopped_names P s faults other = nothing (λ (e : Envelope). IfSome (named_in e.msg) P)

stops : (P : Named → Type 0) (room : Room) (s : ShardState) (faults : ℕ) (e : NodeEvent)
    → StepEffect P s e (stopped_step room s faults e) × Rests s (stopped_step room s faults e)
stops P Ample s faults e = (
  rests P s e _ (stopped_names P s faults e.what),
  record { core = refl; ceiling = refl; rec = refl },
)
stops P Scarce s faults e =
    (stays_entered P s e, record { core = refl; ceiling = refl; rec = refl })
stops P Short s faults e = (stays_entered P s e, record { core = refl; ceiling = refl; rec = refl })

steps : (P : Named → Type 0) (room : Room) (s : ShardState) (e : NodeEvent) (stopped : Option ℕ)
    → StepEffect P s e (step_if room s e stopped)
steps P room s e None = runs P room s e
steps P room s e (Some faults) = (stops P room s faults e).0

pub step_does : (P : Named → Type 0) (room : Room) (s : ShardState) (e : NodeEvent)
    → StepEffect P s e (core_step room s e)
unfolding core_step
step_does P room s e = steps P room s e s.stopped

rests_if : (room : Room) (s : ShardState) (e : NodeEvent) (stopped : Option ℕ) (faults : ℕ)
    → stopped ≡ Some faults → Rests s (step_if room s e stopped)
rests_if room s e None faults is = grind arith
rests_if room s e (Some n) faults is = (stops (λ n. Unit {0}) room s n e).1

-- a stopped shard rests
pub stopped_rests : (room : Room) (s : ShardState) (e : NodeEvent) (faults : ℕ)
    → s.stopped ≡ Some faults → Rests s (core_step room s e)
unfolding core_step
stopped_rests room s e faults is = rests_if room s e s.stopped faults is
