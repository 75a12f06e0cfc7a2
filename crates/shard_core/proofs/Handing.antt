-- What is handed out is the core's step.
use Rattle.std.proofs.Common.{◌≡◌, inl, inr, ◌≢◌, ℕ, List, [], ◌∷◌, Option, Some, None}
use Rattle.std.proofs.Common.{option_and_then, option_map, unwrap_or, Ok, Err, refl, ap, sym, ◌∙◌}
use Rattle.txn_types.specs.Letters.{Letter, all_sent_by}
use Rattle.txn_types.specs.declared.event.Happening.{Happening}
use Rattle.txn_types.specs.declared.event.Happening.TheVariants as what
use Rattle.txn_types.specs.declared.event.NodeAnswer.{NodeAnswer}
use Rattle.txn_types.specs.declared.event.NodeAnswer.TheVariants as answer
use Rattle.txn_types.specs.declared.event.NodeEvent.{NodeEvent}
use Rattle.txn_types.specs.declared.cause.Cause.TheVariants as cause
use Rattle.txn_types.specs.declared.message.Envelope.{Envelope}
use Rattle.txn_types.specs.declared.message.Msg.{Msg}
use Rattle.txn_types.specs.declared.message.Msg.TheVariants as msg
use Rattle.txn_types.specs.declared.message.Statement.{Statement}
use Rattle.txn_types.specs.declared.node.NodeId.{NodeId}
use Rattle.txn_types.specs.declared.node.NodeId.TheVariants.{Shard}
use Rattle.version_store.specs.declared.version.Held.{Held}
use Rattle.shard_core.specs.declared.given.Given.{Given}
use Rattle.shard_core.specs.declared.step.Outbox.{Outbox}
use Rattle.shard_core.specs.declared.step.Step.{Step}
use Rattle.shard_core.specs.declared.step.StepErr.{StepErr}
use Rattle.shard_core.specs.State.{ShardState, walled, expired, met, ceiling_of}
use Rattle.shard_core.specs.Arrived.{arrived}
use Rattle.shard_core.specs.Ruled.{Ruled, quiet, sends}
use Rattle.shard_core.specs.Participating as participating
use Rattle.shard_core.specs.Rules.{ruled}
use Rattle.shard_core.specs.Wanting.{wanting, told_if}
use Rattle.shard_core.specs.Coordinating.{on_resend}
use Rattle.shard_core.specs.Core.{Room, Ample, Scarce, Short, CoreStep, core_step, step_if}
use Rattle.shard_core.specs.Core.{running_step, stopped_step, stepped, stays, answer_of, gives_out}
use Rattle.shard_core.specs.Core.{entered, happened, scarce, answer_stopped, says_stopped}
use Rattle.shard_core.specs.Told.{given_by, Gives, Comes}
use Rattle.shard_core.specs.Steps.{Steps, said, answer_by, given_to, step_of}
use Rattle.shard_core.proofs.Restoring.{arrived_is}

abbrev box_of : ShardState → List Letter → Outbox
box_of s out = record {
  envelopes = all_sent_by (Shard s.part.shard) s.clock.last out;
  replies = [];
  closed = None;
}

answers_so : (s : ShardState) (out : List Letter) (held : Option Held)
    → answer_by (box_of s out) held ≡ answer_of s out held
answers_so s out None = refl
answers_so s out (Some h) = refl

-- a rule, handed out
handed : (r : Ruled) (ceiling : Option ℕ)
    → said r.core (given_to (given_by r)) (Ok (step_of ceiling (given_by r))) ≡ stepped ceiling r
handed r ceiling =
    ap (λ (a : NodeAnswer). record { core = r.core; ceiling = ceiling; rec = r.rec; answer = a })
    (answers_so r.core r.out r.held)

pub handed_out : (r : Ruled) (ceiling : Option ℕ) (new : ShardState) (g : Given) (out : Outbox)
    (step : Step) → Gives r new g → out ≡ given_to g → step ≡ step_of ceiling g
    → said new out (Ok step) ≡ stepped ceiling r
handed_out r ceiling new g out step h o t =
    let core : new ≡ r.core = h.0 in
    let given : out ≡ given_to (given_by r) = o ∙ ap given_to h.1 in
    let made : step ≡ step_of ceiling (given_by r) = t ∙ ap (step_of ceiling) h.1 in
    rw (core, given, made) (handed r ceiling)

-- The step of a shard that runs.

running : (room : Room) (s : ShardState) (e : NodeEvent) (o : Option ℕ) → s.stopped ≡ o → o ≡ None
    → core_step room s e ≡ running_step room s e
unfolding core_step
running room s e None is none = ap (step_if room s e) is
running room s e (Some faults) is none = cc

scarce_case : (s other : CoreStep) (o : Option CoreStep) → o ≡ Some s → unwrap_or o other ≡ s
scarce_case s other None is = cc
scarce_case s other (Some t) is = cc

pub delivered_steps : (s : ShardState) (wall : ℕ) (e : Envelope) (ceiling : Option ℕ)
    (new : ShardState) (g : Given) (out : Outbox) (step : Step) → s.stopped ≡ None
    → ceiling ≡ ceiling_of (expired (walled s wall)) e → Comes s wall e new g → out ≡ given_to g
    → step ≡ step_of ceiling g
    → Steps s (record { wall = wall; what = what.Deliver e }) (said new out (Ok step))
delivered_steps s wall e ceiling new g out step runs is (inl h) o t =
    let event : NodeEvent = record { wall = wall; what = what.Deliver e } in
    let core : ruled (arrived s wall e) e.from e.msg ≡ ruled (met (expired (walled s wall)) e)
    e.from e.msg = ap (λ (s : ShardState). ruled s e.from e.msg) (arrived_is s wall e) in (
      Ample,
      running Ample s event s.stopped refl runs
          ∙ ap (λ (c : Option ℕ). stepped c (ruled (met (expired (walled s wall)) e) e.from e.msg))
          (sym is)
          ∙ ap (stepped ceiling) (sym core)
          ∙ sym (handed_out (ruled (arrived s wall e) e.from e.msg) ceiling new g out step h o t),
    )
delivered_steps s wall e ceiling new g out step runs is (inr h) o t =
    let event : NodeEvent = record { wall = wall; what = what.Deliver e } in
    let at : ShardState = met (expired (walled s wall)) e in
    let r : Ruled = h.0 in
    let told : option_and_then (told_if at) (wanting at e.from e.msg) ≡ Some r =
    ap (λ (s : ShardState). option_and_then (told_if s) (wanting s e.from e.msg))
    (sym (arrived_is s wall e)) ∙ h.1 in
    let step_told : scarce (entered s event) event.what ≡ Some (stepped ceiling r) =
    ap (λ (o : Option Ruled). option_map (stepped (ceiling_of (expired (walled s wall)) e)) o) told
    ∙ ap (λ (c : Option ℕ). Some (stepped c r)) (sym is) in (
      Scarce,
      running Scarce s event s.stopped refl runs
          ∙ scarce_case (stepped ceiling r) (stays s answer.Memory)
          (scarce (entered s event) event.what) step_told
          ∙ sym (handed_out r ceiling new g out step h.2 o t),
    )

-- out of memory, with nothing changed
pub short_steps : (s : ShardState) (e : NodeEvent) (new : ShardState) (out : Outbox)
    → s.stopped ≡ None → new ≡ s → Steps s e (said new out (Err StepErr.Memory))
short_steps s e new out runs same = (
  Short,
  running Short s e s.stopped refl runs ∙ ap (λ (s : ShardState). stays s answer.Memory) (sym same),
)

pub resend_steps : (s : ShardState) (wall : ℕ) (new : ShardState) (g : Given) (out : Outbox)
    (step : Step) → s.stopped ≡ None → Gives (on_resend (expired (walled s wall))) new g
    → out ≡ given_to g → step ≡ step_of None g
    → Steps s (record { wall = wall; what = what.Resend }) (said new out (Ok step))
resend_steps s wall new g out step runs h o t = (
  Ample,
  running Ample s (record { wall = wall; what = what.Resend }) s.stopped refl runs
      ∙ sym (handed_out (on_resend (expired (walled s wall))) None new g out step h o t),
)

-- of what is no matter of a shard
abbrev pub IsIdle : Happening → Type 0
IsIdle (what.Deliver e) = ⊥
IsIdle what.Resend = ⊥
IsIdle other = Unit {0}

idle_happens : (s : ShardState) (h : Happening) → IsIdle h → happened s h ≡ stepped None (quiet s)
idle_happens s (what.Client conn frame) idle = refl
idle_happens s (what.Gone conn) idle = refl
idle_happens s (what.Deliver e) idle = absurd idle
idle_happens s what.Resend idle = absurd idle
idle_happens s what.Moment idle = refl

pub idle_steps : (s : ShardState) (e : NodeEvent) (h : Happening) (new : ShardState) (out : Outbox)
    (step : Step) → s.stopped ≡ None → e.what ≡ h → IsIdle h → new ≡ expired (walled s e.wall)
    → out ≡ given_to (given_by (quiet s)) → step ≡ step_of None (given_by (quiet s))
    → Steps s e (said new out (Ok step))
idle_steps s e h new out step runs is idle core o t =
    let at : ShardState = expired (walled s e.wall) in (
      Ample,
      running Ample s e s.stopped refl runs
          ∙ ap (happened at) is
          ∙ idle_happens at h idle
          ∙ sym (handed_out (quiet at) None new (given_by (quiet at)) out step (core, refl) o t),
    )

-- Which step is refused since the shard is stopped.

answers_something : (s : ShardState) (out : List Letter) (held : Option Held)
    → answer_of s out held ≢ answer.Stopped
answers_something s out None = λ h. cc
answers_something s out (Some held) = λ h. cc

happens_something : (s : ShardState) (h : Happening) → (happened s h).answer ≢ answer.Stopped
happens_something s (what.Client conn frame) = answers_something s [] None
happens_something s (what.Gone conn) = answers_something s [] None
happens_something s (what.Deliver e) =
    let r : Ruled = ruled (met s e) e.from e.msg in
    answers_something r.core r.out r.held
happens_something s what.Resend = answers_something s (on_resend s).out None
happens_something s what.Moment = answers_something s [] None

-- one that runs refuses none
pub running_answers : (s : ShardState) (e : NodeEvent) → s.stopped ≡ None
    → (core_step Ample s e).answer ≢ answer.Stopped
running_answers s e runs =
    rw (running Ample s e s.stopped refl runs) (happens_something (entered s e) e.what)

stopping : (room : Room) (s : ShardState) (e : NodeEvent) (o : Option ℕ) (faults : ℕ)
    → s.stopped ≡ o → o ≡ Some faults → core_step room s e ≡ stopped_step room s faults e
unfolding core_step
stopping room s e None faults is some = cc
stopping room s e (Some f) faults is some =
    let same : f ≡ faults = cc in
    ap (step_if room s e) is ∙ ap (λ (f : ℕ). stopped_step room s f e) same

pub not_delivered : (s : ShardState) (faults : ℕ) (h : Happening)
    → ((e : Envelope) → h ≡ what.Deliver e → ⊥) → answer_stopped s faults h ≡ answer.Stopped
not_delivered s faults (what.Client conn frame) other = refl
not_delivered s faults (what.Gone conn) other = refl
not_delivered s faults (what.Deliver e) other = absurd (other e refl)
not_delivered s faults what.Resend other = refl
not_delivered s faults what.Moment other = refl

pub not_stated : (s : ShardState) (faults : ℕ) (from : NodeId) (m : Msg)
    → ((x : Statement) → m ≡ msg.Statement x → ⊥) → says_stopped s faults from m ≡ answer.Stopped
not_stated s faults from (msg.Statement m) other = absurd (other m refl)
not_stated s faults from (msg.Answer m) other = refl
not_stated s faults from (msg.Commit m) other = refl
not_stated s faults from (msg.Outcome m) other = refl
not_stated s faults from (msg.Abort m) other = refl
not_stated s faults from (msg.CommitTwo m) other = refl
not_stated s faults from (msg.Prepare m) other = refl
not_stated s faults from (msg.Vote m) other = refl
not_stated s faults from (msg.Decide m) other = refl
not_stated s faults from (msg.Acked m) other = refl
not_stated s faults from (msg.Recover m) other = refl
not_stated s faults from msg.Nudge other = refl

pub stopped_steps : (s : ShardState) (e : NodeEvent) (faults : ℕ) (out : Outbox)
    → s.stopped ≡ Some faults → answer_stopped s faults e.what ≡ answer.Stopped
    → Steps s e (said s out (Err StepErr.Stopped))
stopped_steps s e faults out stops is =
    (Ample, stopping Ample s e s.stopped faults refl stops ∙ ap (stays s) is)

pub stopped_short : (s : ShardState) (e : NodeEvent) (faults : ℕ) (out : Outbox)
    → s.stopped ≡ Some faults → Steps s e (said s out (Err StepErr.Memory))
stopped_short s e faults out stops = (Short, stopping Short s e s.stopped faults refl stops)

pub stopped_answer : (s : ShardState) (e : NodeEvent) (faults : ℕ) → s.stopped ≡ Some faults
    → (core_step Ample s e).answer ≡ answer_stopped s faults e.what
stopped_answer s e faults stops =
    ap (λ (o : CoreStep). o.answer) (stopping Ample s e s.stopped faults refl stops)

pub refuses_statement : (s : ShardState) (e : NodeEvent) (env : Envelope) (m : Statement)
    (faults : ℕ) → e.what ≡ what.Deliver env → env.msg ≡ msg.Statement m
    → answer_stopped s faults e.what
    ≡ gives_out s (participating.answer s env.from m 0 (Err (cause.Faulted faults)) ∷ [])
refuses_statement s e env m faults is says =
    ap (λ (h : Happening). answer_stopped s faults h) is
    ∙ ap (λ (m : Msg). says_stopped s faults env.from m) says

pub refused_steps : (s : ShardState) (e : NodeEvent) (env : Envelope) (m : Statement) (faults : ℕ)
    (g : Given) (out : Outbox) (step : Step) → s.stopped ≡ Some faults → e.what ≡ what.Deliver env
    → env.msg ≡ msg.Statement m → g ≡ given_by (sends s (participating.answer s env.from m 0
    (Err (cause.Faulted faults)) ∷ [])) → out ≡ given_to g → step ≡ step_of None g
    → Steps s e (said s out (Ok step))
refused_steps s e env m faults g out step stops is says given o t = (
  Ample,
  stopping Ample s e s.stopped faults refl stops
      ∙ ap (stays s) (refuses_statement s e env m faults is says)
      ∙ sym (handed_out (sends s (participating.answer s env.from m 0 (Err (cause.Faulted faults))
      ∷ [])) None s g out step (refl, given) o t),
)

pub refused_answers : (s : ShardState) (e : NodeEvent) (env : Envelope) (m : Statement) (faults : ℕ)
    → s.stopped ≡ Some faults → e.what ≡ what.Deliver env → env.msg ≡ msg.Statement m
    → (core_step Ample s e).answer ≢ answer.Stopped
refused_answers s e env m faults stops is says =
    rw (stopped_answer s e faults stops, refuses_statement s e env m faults is says)
    (answers_something s
    (participating.answer s env.from m 0 (Err (cause.Faulted faults)) ∷ []) None)
