-- What a step does of a shard that commits alone.
use Rattle.std.proofs.Common.{◌≡◌, max, ℕ, List, [], All, Option, Some, None, IfSome, option_map}
use Rattle.std.proofs.Common.{option_and_then, unwrap_or, is_some, Err, refl, subst, ◌∙◌, sym}
use Rattle.std.proofs.lemmas.List.Elements.{All-map, All-weaker}
use Rattle.txn_types.specs.Letters.{Letter, sent_by, Named, given_out}
use Rattle.txn_types.specs.declared.cause.Cause.TheVariants as cause
use Rattle.txn_types.specs.declared.event.Happening.{Happening}
use Rattle.txn_types.specs.declared.event.Happening.TheVariants as what
use Rattle.txn_types.specs.declared.event.NodeAnswer.{NodeAnswer}
use Rattle.txn_types.specs.declared.event.NodeAnswer.TheVariants as answer
use Rattle.txn_types.specs.declared.event.NodeEvent.{NodeEvent}
use Rattle.txn_types.specs.declared.message.Envelope.{Envelope}
use Rattle.txn_types.specs.declared.message.Msg.{Msg}
use Rattle.txn_types.specs.declared.message.Msg.TheVariants as msg
use Rattle.txn_types.specs.declared.node.NodeId.{NodeId}
use Rattle.txn_types.specs.declared.node.NodeId.TheVariants.{Shard}
use Rattle.version_store.specs.declared.version.Held.{Held}
use Rattle.journal_rec.specs.declared.record.Rec.{Rec}
use Rattle.participant.specs.Part.{Part, elsewhere}
use Rattle.participant.proofs.Cases.{either}
use Rattle.shard_core.specs.State.{ShardState, met, ceiling_of}
use Rattle.shard_core.specs.Ruled.{Ruled, quiet}
use Rattle.shard_core.specs.Coordinating.{on_resend}
use Rattle.shard_core.specs.Participating as participating
use Rattle.shard_core.specs.Rules.{ruled, router_of}
use Rattle.shard_core.specs.Wanting.{wanting, Wanting, told_if, told_memory, may_be_told}
use Rattle.shard_core.specs.Core.{Room, Ample, Scarce, Short, CoreStep, core_step, step_if, stepped}
use Rattle.shard_core.specs.Core.{stays, entered, happened, scarce, running_step, stopped_step}
use Rattle.shard_core.specs.Core.{answer_stopped, says_stopped, answer_of}
use Rattle.shard_core.specs.Effect.{NamesBy}
use Rattle.one_shard_laws.specs.Sessions.{SessionsNamed, GoesOn, IsOnce}
use Rattle.one_shard_laws.specs.Alone.{IsAlone, EventAlone, EventAtLeast, ServedAtLeast, RecHeld}
use Rattle.one_shard_laws.specs.Alone.{EventAsksFor, StepAlone}
use Rattle.one_shard_laws.proofs.Sessions.{same_goes, both_go, expire_goes, memory_goes}
use Rattle.world_laws.proofs.Naming.{nothing, one}
use Rattle.one_shard_laws.proofs.Ruling.{LetterAtLeast, RuleAlone, quiet_alone, says_alone}
use Rattle.one_shard_laws.proofs.Ruling.{resend_alone, ruled_alone}

abbrev OutAlone : Envelope → Type 0
OutAlone e = IsAlone e.msg

abbrev OutAtLeast : Part → Happening → Envelope → Type 0
OutAtLeast q w e = EventAtLeast q w e.msg

-- what is said of each letter is said of what is given out
given : (Q : Msg → Type 0) (s : ShardState) (out : List Letter) (held : Option Held)
    → All (λ (l : Letter). Q l.1) out
    → All (λ (e : Envelope). Q e.msg) (given_out (answer_of s out held))
given Q s out None h =
    All-map (λ (e : Envelope). Q e.msg) (sent_by (Shard s.part.shard) s.clock.last) out
    (All-weaker (λ (l : Letter). Q l.1)
    (λ (l : Letter). Q (sent_by (Shard s.part.shard) s.clock.last l).msg) (λ l k. k) out h)
given Q s out (Some held) h = nothing (λ (e : Envelope). Q e.msg)

module _ (P : Named → Type 0) (s : ShardState) where
  held_from : (p : Part) (r : Ruled) (x : Option Rec) → GoesOn P s.part p
      → IfSome x (RecHeld P p r.core.part r.core.clock.last) → IfSome x (λ (y : Rec). (p : Part)
      × GoesOn P s.part p × RecHeld P p r.core.part r.core.clock.last y)
  held_from p r None goes h = tt
  held_from p r (Some y) goes h = (p, goes, h)

  -- from a state that went on
  from : (w : Happening) (m : Msg) (t : ShardState) (ceiling : Option ℕ) (r : Ruled)
      → GoesOn P s.part t.part → ((q : Part) (a : Msg) → ServedAtLeast q m a → EventAtLeast q w a)
      → IfSome r.rec (EventAsksFor w r.core.part.boot) → RuleAlone P t m r
      → StepAlone P s w (stepped ceiling r)
  from w m t ceiling r goes taken asked h =
      record {
        goes = both_go P s.part t.part r.core.part goes h.goes;
        coord = h.coord;
        rec = held_from t.part r r.rec goes h.rec;
        asked = asked;
        out = given IsAlone r.core r.out r.held h.out;
        served = given (EventAtLeast r.core.part w) r.core r.out r.held
            (All-weaker (LetterAtLeast r.core.part m) (λ (l : Letter).
            EventAtLeast r.core.part w l.1) (λ l k. taken r.core.part l.1 k) r.out h.served);
      }

  rests : (w : Happening) (a : NodeAnswer) → s.coord ≡ [] → All OutAlone (given_out a)
      → All (OutAtLeast s.part w) (given_out a) → StepAlone P s w (stays s a)
  rests w a none out served =
      record {
        goes = same_goes P s.part;
        coord = none;
        rec = tt;
        asked = tt;
        out = out;
        served = served;
      }

  silent : (w : Happening) (a : NodeAnswer) → s.coord ≡ [] → given_out a ≡ []
      → StepAlone P s w (stays s a)
  silent w a none is = rests w a none (subst (All OutAlone) (sym is) (nothing OutAlone))
      (subst (All (OutAtLeast s.part w)) (sym is) (nothing (OutAtLeast s.part w)))

abbrev IfStep : (CoreStep → Type 0) → Option CoreStep → Type 0
IfStep Q None = Unit {0}
IfStep Q (Some o) = Q o

-- out of memory is told by no answer of a statement that was served
abbrev WantAlone : Part → Msg → Option Wanting → Type 0
WantAlone q m None = Unit {0}
WantAlone q m (Some w) = IsAlone w.letter.1 × ((p : Part) → ServedAtLeast p m w.letter.1)

want_alone : (s : ShardState) → s.part.shard ≡ 0 → (from : NodeId) (m : Msg) → IsAlone m
    → WantAlone s.part m (wanting s from m)
want_alone s own from (msg.Statement m) alone = either (elsewhere s.part m.lsid m.tag)
    (WantAlone s.part (msg.Statement m)) _ _ tt (own, λ p meant. absurd meant)
want_alone s own from (msg.Answer m) alone = tt
want_alone s own from (msg.Commit m) alone = (tt, λ p. tt)
want_alone s own from (msg.Outcome m) alone = tt
want_alone s own from (msg.Abort m) alone = tt
want_alone s own from (msg.CommitTwo m) alone = absurd alone
want_alone s own from (msg.Prepare m) alone = absurd alone
want_alone s own from (msg.Vote m) alone = absurd alone
want_alone s own from (msg.Decide m) alone = absurd alone
want_alone s own from (msg.Acked m) alone = absurd alone
want_alone s own from (msg.Recover m) alone =
    either (is_some (router_of from)) (WantAlone s.part (msg.Recover m)) _ _ (tt, λ p. tt) tt
want_alone s own from msg.Nudge alone = tt

module _ (P : Named → Type 0) (once : IsOnce P) (s : ShardState) (own : s.part.shard ≡ 0)
    (all : SessionsNamed P s.part.sessions) (none : s.coord ≡ []) (wall : ℕ) where
  abbrev t : ShardState
  t = entered s (record { wall = wall; what = what.Moment })

  goes : GoesOn P s.part t.part
  goes = expire_goes P s.part (max s.wall wall)

  quiet_step : (w : Happening) → ((q : Part) (a : Msg) → EventAtLeast q w a)
      → StepAlone P s w (stepped None (quiet t))
  quiet_step w any = from P s w msg.Nudge t None (quiet t) goes (λ q a h.
      any q a) tt (quiet_alone P t msg.Nudge t.part (same_goes P t.part) none)

  happens : (w : Happening) → EventAlone w → NamesBy P w → StepAlone P s w (happened t w)
  happens (what.Deliver e) alone named =
      let h = ruled_alone P once (met t e) (goes.shard ∙ own) (goes.sessions.named all) none e.from
      e.msg alone named in
      from P s (what.Deliver e) e.msg (met t e) (ceiling_of t e) (ruled (met t e) e.from e.msg) goes
      (λ q a k. k) h.asked h
  happens (what.Client conn frame) alone named = quiet_step (what.Client conn frame) (λ q a. tt)
  happens (what.Gone conn) alone named = quiet_step (what.Gone conn) (λ q a. tt)
  happens what.Resend alone named = from P s what.Resend msg.Nudge t None (on_resend t) goes (λ q a
      h. tt) tt (resend_alone P t msg.Nudge none)
  happens what.Moment alone named = quiet_step what.Moment (λ q a. tt)

  told_step : (e : Envelope) (w : Option Wanting) → WantAlone t.part e.msg w
      → IfStep (StepAlone P s (what.Deliver e)) (option_map (stepped (ceiling_of t e))
      (option_and_then (told_if (met t e)) w))
  told_step e None h = tt
  told_step e (Some w) h =
      either (may_be_told (met t e) w) (λ (r : Option Ruled).
      IfStep (StepAlone P s (what.Deliver e)) (option_map (stepped (ceiling_of t e)) r))
      (Some (told_memory (met t e) w)) None
      (from P s (what.Deliver e) e.msg (met t e) (ceiling_of t e) (told_memory (met t e) w) goes
      (λ q a k. k) tt
      (let q = (told_memory (met t e) w).core.part in says_alone P (met t e) e.msg q w.letter
      (memory_goes P t.part w.lsid w.tag) none h.0 (h.1 q))) tt

  scarce_step : (w : Happening) → EventAlone w → IfStep (StepAlone P s w) (scarce t w)
  scarce_step (what.Client conn frame) alone = tt
  scarce_step (what.Gone conn) alone = tt
  scarce_step (what.Deliver e) alone = told_step e (wanting (met t e) e.from e.msg)
      (want_alone (met t e) (goes.shard ∙ own) e.from e.msg alone)
  scarce_step what.Resend alone = tt
  scarce_step what.Moment alone = tt

module _ (P : Named → Type 0) (s : ShardState) (own : s.part.shard ≡ 0) (none : s.coord ≡ []) where
  stopped_case : (faults : ℕ) (e : Envelope) (m : Msg) → e.msg ≡ m
      → StepAlone P s (what.Deliver e) (stays s (says_stopped s faults e.from m))
  stopped_case faults e (msg.Statement m) is =
      let l = participating.answer s e.from m 0 (Err (cause.Faulted faults)) in
      rests P s (what.Deliver e) (says_stopped s faults e.from (msg.Statement m)) none
      (one OutAlone _ own)
      (one (OutAtLeast s.part (what.Deliver e)) _
      (subst (λ (x : Msg). ServedAtLeast s.part x l.1) (sym is) (λ meant. absurd meant)))
  stopped_case faults e (msg.Answer m) is = silent P s (what.Deliver e) answer.Stopped none refl
  stopped_case faults e (msg.Commit m) is = silent P s (what.Deliver e) answer.Stopped none refl
  stopped_case faults e (msg.Outcome m) is = silent P s (what.Deliver e) answer.Stopped none refl
  stopped_case faults e (msg.Abort m) is = silent P s (what.Deliver e) answer.Stopped none refl
  stopped_case faults e (msg.CommitTwo m) is = silent P s (what.Deliver e) answer.Stopped none refl
  stopped_case faults e (msg.Prepare m) is = silent P s (what.Deliver e) answer.Stopped none refl
  stopped_case faults e (msg.Vote m) is = silent P s (what.Deliver e) answer.Stopped none refl
  stopped_case faults e (msg.Decide m) is = silent P s (what.Deliver e) answer.Stopped none refl
  stopped_case faults e (msg.Acked m) is = silent P s (what.Deliver e) answer.Stopped none refl
  stopped_case faults e (msg.Recover m) is = silent P s (what.Deliver e) answer.Stopped none refl
  stopped_case faults e msg.Nudge is = silent P s (what.Deliver e) answer.Stopped none refl

  stopped_alone : (faults : ℕ) (w : Happening)
      → StepAlone P s w (stays s (answer_stopped s faults w))
  stopped_alone faults (what.Deliver e) = stopped_case faults e e.msg refl
  stopped_alone faults (what.Client conn frame) =
      silent P s (what.Client conn frame) answer.Stopped none refl
  stopped_alone faults (what.Gone conn) = silent P s (what.Gone conn) answer.Stopped none refl
  stopped_alone faults what.Resend = silent P s what.Resend answer.Stopped none refl
  stopped_alone faults what.Moment = silent P s what.Moment answer.Stopped none refl

  or_memory : (w : Happening) (o : Option CoreStep) → IfStep (StepAlone P s w) o
      → StepAlone P s w (unwrap_or o (stays s answer.Memory))
  or_memory w None h = silent P s w answer.Memory none refl
  or_memory w (Some o) h = h

  stopping : (room : Room) (faults : ℕ) (e : NodeEvent)
      → StepAlone P s e.what (stopped_step room s faults e)
  stopping Ample faults e = stopped_alone faults e.what
  stopping Scarce faults e = silent P s e.what answer.Memory none refl
  stopping Short faults e = silent P s e.what answer.Memory none refl

  running : IsOnce P → SessionsNamed P s.part.sessions → (room : Room) (e : NodeEvent)
      → EventAlone e.what → NamesBy P e.what → StepAlone P s e.what (running_step room s e)
  running once all Ample e alone named = happens P once s own all none e.wall e.what alone named
  running once all Scarce e alone named = or_memory e.what (scarce (entered s e) e.what)
      (scarce_step P once s own all none e.wall e.what alone)
  running once all Short e alone named = silent P s e.what answer.Memory none refl

  by_stopped : IsOnce P → SessionsNamed P s.part.sessions
      → (room : Room) (e : NodeEvent) (stopped : Option ℕ) → EventAlone e.what → NamesBy P e.what
      → StepAlone P s e.what (step_if room s e stopped)
  by_stopped once all room e None alone named = running once all room e alone named
  by_stopped once all room e (Some faults) alone named = stopping room faults e

pub step_alone : (P : Named → Type 0) (room : Room) (s : ShardState) (e : NodeEvent) → IsOnce P
    → s.part.shard ≡ 0 → SessionsNamed P s.part.sessions → s.coord ≡ [] → EventAlone e.what
    → NamesBy P e.what → StepAlone P s e.what (core_step room s e)
unfolding core_step
step_alone P room s e once own all none alone named =
    by_stopped P s own none once all room e s.stopped alone named
