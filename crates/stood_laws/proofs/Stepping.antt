-- Why a shard's step tells a cause, or ends a transaction with it.
use Rattle.std.proofs.Common.{◌≡◌, ◌⊎◌, inl, inr, ◌<◌, ◌≤◌, ◌-◌, ℕ, ℤ, Bool, true, false, List, []}
use Rattle.std.proofs.Common.{◌∷◌, All, Option, Some, None, IfSome, option_map, option_and_then}
use Rattle.std.proofs.Common.{unwrap_or, is_some, Result, Ok, Err, refl, ap, subst, ◌∙◌, sym}
use Rattle.std.proofs.Common.{arith, nat_eq, if◌then◌else◌}
use Rattle.std.proofs.lemmas.List.Elements.{All-nil, All-cons, All-map, All-weaker}
use Rattle.txn_types.specs.Clock.{ticked, next_time, last_time}
use Rattle.txn_types.specs.Letters.{Letter, sent_by, given_out}
use Rattle.txn_types.specs.declared.cause.Cause.{Cause}
use Rattle.txn_types.specs.declared.cause.Cause.TheVariants as cause
use Rattle.txn_types.specs.declared.decision.Told.{Told}
use Rattle.txn_types.specs.declared.decision.Told.TheVariants as told
use Rattle.txn_types.specs.declared.event.Happening.{Happening}
use Rattle.txn_types.specs.declared.event.Happening.TheVariants as what
use Rattle.txn_types.specs.declared.event.NodeAnswer.{NodeAnswer}
use Rattle.txn_types.specs.declared.event.NodeAnswer.TheVariants as answer
use Rattle.txn_types.specs.declared.event.NodeEvent.{NodeEvent}
use Rattle.txn_types.specs.declared.message.Envelope.{Envelope}
use Rattle.txn_types.specs.declared.message.Msg.{Msg}
use Rattle.txn_types.specs.declared.message.Msg.TheVariants as msg
use Rattle.txn_types.specs.declared.message.Recover.{Recover}
use Rattle.txn_types.specs.declared.message.Statement.{Statement}
use Rattle.txn_types.specs.declared.names.Tag.{Tag}
use Rattle.txn_types.specs.declared.node.Lsid.{Lsid}
use Rattle.txn_types.specs.declared.node.NodeId.{NodeId}
use Rattle.txn_types.specs.declared.node.NodeId.TheVariants.{Shard, Router}
use Rattle.txn_types.specs.declared.operation.OpReply.{OpReply}
use Rattle.txn_semantics.specs.declared.commits.Entry.{Entry}
use Rattle.session_table.specs.declared.session.Session.{Session}
use Rattle.session_table.specs.declared.session.SessionState.TheVariants as state
use Rattle.version_store.specs.declared.version.Held.{Held}
use Rattle.coordinator.specs.TwoPhase.{Coordinated, Coordinations, coordinated_of, resends}
use Rattle.participant.specs.declared.said.Open.{Open}
use Rattle.participant.specs.declared.said.Said.{Said}
use Rattle.participant.specs.declared.said.Said.TheVariants.{Did, Blocked, Refused, Late}
use Rattle.participant.specs.Part.{Part, session, open_of, elsewhere}
use Rattle.participant.specs.Statement.{statement}
use Rattle.participant.specs.Commit.{commit}
use Rattle.participant.specs.Abort.{abort}
use Rattle.participant.specs.Recover.{recover}
use Rattle.participant.proofs.Cases.{either}
use Rattle.part_laws.specs.Sound.{Opens, Served}
use Rattle.part_laws.specs.Parts.{IsServing, AtSession}
use Rattle.part_laws.proofs.Elapsed.{expire_holds}
use Rattle.shard_core.specs.State.{ShardState, with_part, met, ceiling_of}
use Rattle.shard_core.specs.Ruled.{Ruled, quiet, outcome, coordinates}
use Rattle.shard_core.specs.Participating as participating
use Rattle.shard_core.specs.Participating.{answers, said_to, outcome_if}
use Rattle.shard_core.specs.Coordinating.{tells, recovers, larger_number, unless_coordinated}
use Rattle.shard_core.specs.Coordinating.{unless_older, on_recover, on_resend}
use Rattle.shard_core.specs.Rules.{ruled, from_router, router_of}
use Rattle.shard_core.specs.Wanting.{wanting, Wanting, told_if, told_memory, may_be_told}
use Rattle.shard_core.specs.Core.{Room, Ample, Scarce, Short, CoreStep, core_step, step_if, stepped}
use Rattle.shard_core.specs.Core.{stays, entered, happened, scarce, running_step, stopped_step}
use Rattle.shard_core.specs.Core.{answer_stopped, says_stopped, answer_of}
use Rattle.shard_core.proofs.Keeping.{ruled_keeps}
use Rattle.cluster_core.specs.Causes.{Tells}
use Rattle.one_shard_laws.specs.Alone.{IsAlone, EventAlone}
use Rattle.stood_laws.specs.Because.{Aims, MsgBecause, IsTooOld, ToldAt, EndsAt}
use Rattle.stood_laws.proofs.Ruling.{Again, ToldBy, EndsFor, same_ends, statement_for, commit_for}
use Rattle.stood_laws.proofs.Ruling.{abort_for, recover_for, memory_for, MemoryBecause, open_tag}
use Rattle.stood_laws.proofs.Expiring.{Expiring, expire_for}

-- Rules.

abbrev Why : Part → (Cause → Type 0) → Lsid → Tag → Letter → Type 0
Why p B lsid named l = (tag : Tag) (why : Cause) → Tells tag why l.1
    → (named ≡ tag) × (Again p lsid tag why ⊎ B why)

-- for a message of this session and tag
record RuleFor (s : ShardState) (B : Cause → Type 0) (lsid : Lsid) (tag : Tag) (r : Ruled) :
    Type 0 where
  told : All (Why s.part B lsid tag) r.out
  ends : EndsFor B s.part lsid tag r.core.part

nothing : {A : Type 0} (P : A → Type 0) → All P []
nothing P = All-nil P

one : {A : Type 0} (P : A → Type 0) (x : A) → P x → All P (x ∷ [])
one P x h = All-cons P x [] h (All-nil P)

retold : (p : Part) (B : Cause → Type 0) (lsid : Lsid) (a b : Tag) (why : Cause) → a ≡ b
    → Again p lsid a why ⊎ B why → (a ≡ b) × (Again p lsid b why ⊎ B why)
retold p B lsid a b why is h = (is, subst (λ (t : Tag). Again p lsid t why ⊎ B why) is h)

quiet_for : (s : ShardState) (B : Cause → Type 0) (lsid : Lsid) (tag : Tag)
    → RuleFor s B lsid tag (quiet s)
quiet_for s B lsid tag =
    record { told = nothing (Why s.part B lsid tag); ends = same_ends B s.part lsid tag }

-- Statements.

abbrev SaidBy : (Cause → Type 0) → Part → Lsid → Tag → Said → Type 0
SaidBy B p lsid tag (Refused why at) = Again p lsid tag why ⊎ B why
SaidBy B p lsid tag (Did at reply wrote) = Unit {0}
SaidBy B p lsid tag (Blocked held) = Unit {0}
SaidBy B p lsid tag Late = Unit {0}

same_err : (a b : Cause) (f : Result (OpReply × Bool) Cause) → f ≡ Err a → f ≡ Err b → a ≡ b
same_err a b f h k = let both : ◌≡◌ {A = Result (OpReply × Bool) Cause} (Err a) (Err b) =
    sym h ∙ k in cc

no_reply : (done : OpReply × Bool) (b : Cause)
    → ◌≡◌ {A = Result (OpReply × Bool) Cause} (Ok done) (Err b) → ⊥
no_reply done b h = cc

module _ (s : ShardState) (B : Cause → Type 0) (to : NodeId) (m : Statement) (q : Part) where
  abbrev W : Letter → Type 0
  W l = Why s.part B m.lsid m.tag l

  said_for : (said : Said) → SaidBy B s.part m.lsid m.tag said → EndsFor B s.part m.lsid m.tag q
      → RuleFor s B m.lsid m.tag (answers (with_part s q) to m said)
  said_for (Did at reply wrote) h ends =
      record {
        told = one W (participating.answer (with_part s q) to m at (Ok (reply, wrote)))
            (λ tag why t. absurd (no_reply (reply, wrote) why t.1));
        ends = ends;
      }
  said_for (Blocked held) h ends = record { told = nothing W; ends = ends }
  said_for (Refused cause at) h ends =
      record {
        told = one W (participating.answer (with_part s q) to m at (Err cause))
            (λ tag why t. retold s.part B m.lsid m.tag tag why t.0
            (subst (λ (c : Cause). Again s.part m.lsid m.tag c ⊎ B c)
            (same_err cause why (Err cause) refl t.1) h));
        ends = ends;
      }
  said_for Late h ends = record { told = nothing W; ends = ends }

-- Ends.

outcome_for : (s : ShardState) (B : Cause → Type 0) (lsid : Lsid) (tag : Tag) (q : ShardState)
    (to : NodeId) (t : Told) → ToldBy B s.part lsid tag t
    → Why s.part B lsid tag (outcome q tag t to)
outcome_for s B lsid tag q to t h other why is =
    retold s.part B lsid tag other why is.0 (subst (ToldBy B s.part lsid tag) is.1 h)

outcomes_for : (s : ShardState) (B : Cause → Type 0) (lsid : Lsid) (tag : Tag) (q : ShardState)
    (to : NodeId) (t : Option Told) → IfSome t (ToldBy B s.part lsid tag)
    → All (Why s.part B lsid tag) (outcome_if q tag to t)
outcomes_for s B lsid tag q to None h = nothing (Why s.part B lsid tag)
outcomes_for s B lsid tag q to (Some t) h =
    one (Why s.part B lsid tag) (outcome q tag t to) (outcome_for s B lsid tag q to t h)

none_coordinated : (s : ShardState) (tag : Tag) → s.coord ≡ [] → coordinated_of s.coord tag ≡ None
none_coordinated s tag none = ap (λ (c : Coordinations). coordinated_of c tag) none

module _ (s : ShardState) (none : s.coord ≡ []) (m : Recover) where
  abbrev RB : Cause → Type 0
  RB why = MsgBecause s (msg.Recover m) why

  abbrev R : Ruled → Type 0
  R r = RuleFor s RB m.lsid m.tag r

  tells_for : (router : ℕ) (q : Part) (t : Told) → ToldBy RB s.part m.lsid m.tag t
      → EndsFor RB s.part m.lsid m.tag q → R (tells (with_part s q) router m.tag t)
  tells_for router q t h ends =
      record {
        told = one (Why s.part RB m.lsid m.tag) (outcome (with_part s q) m.tag t (Router router))
            (outcome_for s RB m.lsid m.tag (with_part s q) (Router router) t h);
        ends = ends;
      }

  coordinated_case : (router : ℕ) (c : Option Coordinated) (other : Ruled)
      → coordinated_of s.coord m.tag ≡ c → R other → R (unless_coordinated s router m.tag c other)
  coordinated_case router None other is h = h
  coordinated_case router (Some c) other is h = let wrong : None ≡ Some c =
      sym (none_coordinated s m.tag none) ∙ is in cc

  older_case : (router : ℕ) (have : Option ℤ) (other : Ruled) → R other
      → R (unless_older s router m.tag have other)
  older_case router None other h = h
  older_case router (Some have) other h =
      tells_for router s.part (told.TooOld have) tt (same_ends RB s.part m.lsid m.tag)

  recovers_for : (router : Option ℕ) → R (from_router s (λ n. on_recover s n m) router)
  recovers_for None = quiet_for s RB m.lsid m.tag
  recovers_for (Some n) =
      let h = recover_for s.part m in
      older_case n (larger_number (session s.part m.lsid) m.number)
      (unless_coordinated s n m.tag (coordinated_of s.coord m.tag) (recovers s n m))
      (coordinated_case n (coordinated_of s.coord m.tag) (recovers s n m) refl
      (tells_for n (recover s.part m).1 (recover s.part m).0 h.0 h.1))

-- what is told at a rule, and what it ends
abbrev WhyMsg : ShardState → Msg → Letter → Type 0
WhyMsg s m l = (tag : Tag) (why : Cause) → Tells tag why l.1
    → (lsid : Lsid) × Aims lsid tag m × (Again s.part lsid tag why ⊎ MsgBecause s m why)

record MsgFor (s : ShardState) (m : Msg) (r : Ruled) : Type 0 where
  told : All (WhyMsg s m) r.out
  ends : (lsid : Lsid) (new : Session) (why : Cause) (read_at : ℕ)
      → session r.core.part lsid ≡ Some new → new.state ≡ state.Aborted why read_at
      → (session s.part lsid ≡ Some new) ⊎ (Aims lsid new.tag m × MsgBecause s m why)

of_rule : (s : ShardState) (m : Msg) (lsid : Lsid) (tag : Tag) (r : Ruled)
    → ((l : Lsid) (t : Tag) → l ≡ lsid → t ≡ tag → Aims l t m)
    → RuleFor s (MsgBecause s m) lsid tag r → MsgFor s m r
of_rule s m lsid tag r aims h =
    record {
      told = All-weaker (Why s.part (MsgBecause s m) lsid tag) (WhyMsg s m)
          (λ l k other why t. let x = k other why t in
          (lsid, aims lsid other refl (sym x.0), x.1)) r.out h.told;
      ends = λ other new why read_at there is. at_end other new why
          (h.ends other new why read_at there is);
    }
  where
    at_end : (other : Lsid) (new : Session) (why : Cause) → (session s.part other ≡ Some new)
        ⊎ ((other ≡ lsid) × (new.tag ≡ tag) × MsgBecause s m why)
        → (session s.part other ≡ Some new) ⊎ (Aims other new.tag m × MsgBecause s m why)
    at_end other new why (inl there) = inl there
    at_end other new why (inr x) = inr (aims other new.tag x.0 x.1, x.2)

silent_for : (s : ShardState) (m : Msg) → MsgFor s m (quiet s)
silent_for s m =
    record { told = nothing (WhyMsg s m); ends = λ lsid new why read_at there is. inl there }

resends_none : (Q : Letter → Type 0) (own : ℕ) (coords : Coordinations) → coords ≡ []
    → All Q (resends own coords)
resends_none Q own coords none =
    subst (λ (c : Coordinations). All Q (resends own c)) (sym none) (nothing Q)

resend_for : (s : ShardState) (m : Msg) → s.coord ≡ [] → MsgFor s m (on_resend s)
resend_for s m none =
    record {
      told = resends_none (WhyMsg s m) s.part.shard s.coord none;
      ends = λ lsid new why read_at there is. inl there;
    }

ruled_for : (s : ShardState) (opens : Opens) → s.coord ≡ []
    → ((lsid : Lsid) → AtSession s.part.boot opens (session s.part lsid) (open_of s.part lsid))
    → (from : NodeId) (m : Msg) → IsAlone m → MsgFor s m (ruled s from m)
ruled_for s opens none sessions from (msg.Statement m) alone =
    let turn = statement s.part s.clock.last s.wall m in
    let h = statement_for s.part opens s.clock.last s.wall m (sessions m.lsid) in
    either (elsewhere s.part m.lsid m.tag) (MsgFor s (msg.Statement m)) _ _
    (silent_for s (msg.Statement m))
    (of_rule s (msg.Statement m) m.lsid m.tag (said_to s from m turn)
    (λ l t x y. (sym x, sym y))
    (said_for s (MsgBecause s (msg.Statement m)) from m turn.1 turn.0
    (said_same turn.0 h.0) h.1))
  where
    said_same : (said : Said) → SaidBy (MsgBecause s (msg.Statement m)) s.part m.lsid m.tag said
        → SaidBy (MsgBecause s (msg.Statement m)) s.part m.lsid m.tag said
    said_same said h = h
ruled_for s opens none sessions from (msg.Answer m) alone = silent_for s (msg.Answer m)
ruled_for s opens none sessions from (msg.Commit m) alone =
    let c = commit s.part s.clock.last s.wall m in
    let h = commit_for s.part s.clock.last s.wall m in
    of_rule s (msg.Commit m) m.lsid m.tag (participating.on_commit s from m)
    (λ l t x y. (sym x, sym y))
    (record {
      told = outcomes_for s (MsgBecause s (msg.Commit m)) m.lsid m.tag s from c.told h.0;
      ends = h.1;
    })
ruled_for s opens none sessions from (msg.Outcome m) alone = silent_for s (msg.Outcome m)
ruled_for s opens none sessions from (msg.Abort m) alone =
    either (coordinates s m.tag) (MsgFor s (msg.Abort m)) _ _ (silent_for s (msg.Abort m))
    (of_rule s (msg.Abort m) m.lsid m.tag (quiet (with_part s (abort s.part m)))
    (λ l t x y. (sym x, sym y))
    (record {
      told = nothing (Why s.part (MsgBecause s (msg.Abort m)) m.lsid m.tag);
      ends = abort_for s.part m;
    }))
ruled_for s opens none sessions from (msg.CommitTwo m) alone = absurd alone
ruled_for s opens none sessions from (msg.Prepare m) alone = absurd alone
ruled_for s opens none sessions from (msg.Vote m) alone = absurd alone
ruled_for s opens none sessions from (msg.Decide m) alone = absurd alone
ruled_for s opens none sessions from (msg.Acked m) alone = absurd alone
ruled_for s opens none sessions from (msg.Recover m) alone =
    of_rule s (msg.Recover m) m.lsid m.tag
    (from_router s (λ n. on_recover s n m) (router_of from)) (λ l t x y. (sym x, sym y))
    (recovers_for s none m (router_of from))
ruled_for s opens none sessions from msg.Nudge alone = resend_for s msg.Nudge none

-- Steps.

abbrev Given : ShardState → NodeEvent → Envelope → Type 0
Given s e x = (tag : Tag) (why : Cause) → Tells tag why x.msg → ToldAt s e tag why

-- a message comes
abbrev pub Delivers : Happening → Type 0
Delivers (what.Deliver d) = Unit {0}
Delivers other = ⊥

-- the clock is at or past where the message took it, or nothing is told
abbrev pub Reaches : ShardState → NodeEvent → CoreStep → Type 0
Reaches s e o = (d : Envelope) → e.what ≡ what.Deliver d
    → ((met (entered s e) d).clock.last ≤ o.core.clock.last) ⊎ (given_out o.answer ≡ [])

pub record StepFor (s : ShardState) (e : NodeEvent) (o : CoreStep) : Type 0 where
  pub told : All (Given s e) (given_out o.answer)
  pub clock : Reaches s e o
  pub ends : (lsid : Lsid) (new : Session) (why : Cause) (read_at : ℕ)
      → session o.core.part lsid ≡ Some new → new.state ≡ state.Aborted why read_at
      → (session s.part lsid ≡ Some new) ⊎ EndsAt s e lsid new.tag why

-- what is said of each letter is said of what is given out
given : (Q : Msg → Type 0) (s : ShardState) (out : List Letter) (held : Option Held)
    → All (λ (l : Letter). Q l.1) out
    → All (λ (e : Envelope). Q e.msg) (given_out (answer_of s out held))
given Q s out None h =
    All-map (λ (e : Envelope). Q e.msg) (sent_by (Shard s.part.shard) s.clock.last) out
    (All-weaker (λ (l : Letter). Q l.1)
    (λ (l : Letter). Q (sent_by (Shard s.part.shard) s.clock.last l).msg) (λ l k. k) out h)
given Q s out (Some held) h = nothing (λ (e : Envelope). Q e.msg)

silent : (s : ShardState) (e : NodeEvent) (a : NodeAnswer) → given_out a ≡ []
    → StepFor s e (stays s a)
silent s e a none =
    record {
      told = subst (All (Given s e)) (sym none) (nothing (Given s e));
      clock = λ d is. inr none;
      ends = λ lsid new why read_at there is. inl there;
    }

-- a rule leaves the clock where it was, or ticks
ticked_by : (test : Bool) (last next now : ℕ) → last < next
    → (if test then None else Some next) ≡ Some now → last ≤ now
ticked_by true last next now up h = let wrong : None ≡ Some now = h in cc
ticked_by false last next now up h = let same : next ≡ now = cc in omega (arith, up, same)

rule_rises : (s : ShardState) (from : NodeId) (m : Msg)
    → s.clock.last ≤ (ruled s from m).core.clock.last
rule_rises s from m = last_case (ruled_keeps s from m).last
  where
    last_case : ((ruled s from m).core.clock.last ≡ s.clock.last)
        ⊎ (ticked s.clock.last s.wall ≡ Some (ruled s from m).core.clock.last)
        → s.clock.last ≤ (ruled s from m).core.clock.last
    last_case (inl same) = omega (arith, same)
    last_case (inr tick) = ticked_by (nat_eq s.clock.last last_time) s.clock.last
        (next_time s.clock.last s.wall) (ruled s from m).core.clock.last (omega arith) tick

-- out of memory is told as the cause
abbrev TellsMemory : Wanting → Type 0
TellsMemory w = (tag : Tag) (why : Cause) → Tells tag why w.letter.1 → why ≡ cause.Memory

told_cause : (why : Cause) → told.Aborted cause.Memory ≡ told.Aborted why → why ≡ cause.Memory
told_cause why h = cc

vote_cause : (why : Cause) → ◌≡◌ {A = Result ℕ Cause} (Err cause.Memory) (Err why)
    → why ≡ cause.Memory
vote_cause why h = cc

wants_memory : (s : ShardState) (from : NodeId) (m : Msg)
    → IfSome (wanting s from m) TellsMemory
wants_memory s from (msg.Statement m) =
    either (elsewhere s.part m.lsid m.tag) (λ (w : Option Wanting). IfSome w TellsMemory) _ _ tt
    (λ tag why tells. same_err why cause.Memory (Err cause.Memory) tells.1 refl)
wants_memory s from (msg.Answer m) = tt
wants_memory s from (msg.Commit m) = λ tag why tells. told_cause why tells.1
wants_memory s from (msg.Outcome m) = tt
wants_memory s from (msg.Abort m) = tt
wants_memory s from (msg.CommitTwo m) =
    either (is_some (router_of from)) (λ (w : Option Wanting). IfSome w TellsMemory) _ _
    (λ tag why tells. told_cause why tells.1) tt
wants_memory s from (msg.Prepare m) = λ tag why tells. vote_cause why tells.1
wants_memory s from (msg.Vote m) = tt
wants_memory s from (msg.Decide m) = tt
wants_memory s from (msg.Acked m) = tt
wants_memory s from (msg.Recover m) =
    either (is_some (router_of from)) (λ (w : Option Wanting). IfSome w TellsMemory) _ _
    (λ tag why tells. told_cause why tells.1) tt
wants_memory s from msg.Nudge = tt

module _ (s : ShardState) (e : NodeEvent) (opens : Opens) (entries : List Entry)
    (served : List Served) (part : IsServing s.part opens s.clock.last entries served)
    (none : s.coord ≡ []) where
  abbrev t : ShardState
  t = entered s e

  one_event : (d x : Envelope) → what.Deliver d ≡ what.Deliver x → d ≡ x
  one_event d x h = cc

  same_why : (a b : Cause) (m n : ℕ) → state.Aborted a m ≡ state.Aborted b n → b ≡ a
  same_why a b m n h = cc

  -- a session's transaction that has ended with a cause as the event's wall leaves it
  entering : (lsid : Lsid) (new : Session) (why : Cause) (read_at : ℕ)
      → session t.part lsid ≡ Some new → new.state ≡ state.Aborted why read_at
      → (session s.part lsid ≡ Some new) ⊎ IsTooOld s.part t.wall lsid new.tag why
  entering lsid new why read_at there is =
      let h = expire_for s.part t.wall part.rises lsid new there in
      was h.0 h.1 h.1.state_is
    where
      was : (old : Session) → (x : Expiring s.part t.wall lsid old new)
          → (new ≡ old) ⊎ ((o : Open) × (open_of s.part lsid ≡ Some o)
          × (new.state ≡ state.Aborted (cause.Expired o.begun t.wall) 0)
          × (60 < t.wall - o.begun))
          → (session s.part lsid ≡ Some new) ⊎ IsTooOld s.part t.wall lsid new.tag why
      was old x (inl same) =
          inl (subst (λ (y : Session). session s.part lsid ≡ Some y) (sym same) x.was)
      was old x (inr ended) =
          let tag : ended.0.tag ≡ new.tag =
          open_tag s.part opens lsid (part.sessions lsid) old x.was ended.0 ended.1
          ∙ sym x.tag in
          inr (subst (IsTooOld s.part t.wall lsid new.tag)
          (same_why why (cause.Expired ended.0.begun t.wall) read_at 0 (sym is ∙ ended.2))
          (refl, (ended.0, ended.1, tag, refl, ended.3)))

  entered_again : (lsid : Lsid) (tag : Tag) (why : Cause) → Again t.part lsid tag why
      → Again s.part lsid tag why ⊎ IsTooOld s.part t.wall lsid tag why
  entered_again lsid tag why a = again_case (entering lsid a.0 why a.1 a.2 a.4)
    where
      again_case : (session s.part lsid ≡ Some a.0) ⊎ IsTooOld s.part t.wall lsid a.0.tag why
          → Again s.part lsid tag why ⊎ IsTooOld s.part t.wall lsid tag why
      again_case (inl there) = inl (a.0, a.1, there, a.3, a.4)
      again_case (inr old) =
          inr (subst (λ (x : Tag). IsTooOld s.part t.wall lsid x why) a.3 old)

  entered_sessions : (lsid : Lsid)
      → (o : Opens) × AtSession t.part.boot o (session t.part lsid) (open_of t.part lsid)
  entered_sessions lsid =
      let h = expire_holds s.part opens s.clock.last entries served part t.wall in
      (h.0, h.1.sessions lsid)

  -- from a rule of what is delivered
  delivered_for : (d : Envelope) → e.what ≡ what.Deliver d → (ceiling : Option ℕ) (r : Ruled)
      → (met t d).clock.last ≤ r.core.clock.last → MsgFor (met t d) d.msg r
      → StepFor s e (stepped ceiling r)
  delivered_for d is ceiling r up h =
      record {
        clock = λ x there. inl (subst (λ (y : Envelope). (met t y).clock.last ≤ r.core.clock.last)
            (one_event d x (sym is ∙ there)) up);
        told = given (λ (m : Msg). (tag : Tag) (why : Cause) → Tells tag why m
            → ToldAt s e tag why) r.core r.out r.held
            (All-weaker (WhyMsg (met t d) d.msg) (λ (l : Letter). (tag : Tag) (why : Cause)
            → Tells tag why l.1 → ToldAt s e tag why) (λ l k tag why tells.
            let x = k tag why tells in told_case x.0 tag why x.1 x.2) r.out h.told);
        ends = λ lsid new why read_at there at.
            end_case lsid new why read_at at (h.ends lsid new why read_at there at);
      }
    where
      told_case : (lsid : Lsid) (tag : Tag) (why : Cause) → Aims lsid tag d.msg
          → Again t.part lsid tag why ⊎ MsgBecause (met t d) d.msg why → ToldAt s e tag why
      told_case lsid tag why aims (inl again) =
          before_case (entered_again lsid tag why again)
        where
          before_case : Again s.part lsid tag why ⊎ IsTooOld s.part t.wall lsid tag why
              → ToldAt s e tag why
          before_case (inl a) = inr (d, lsid, is, aims, inl a)
          before_case (inr old) = inr (d, lsid, is, aims, inr (inl old))
      told_case lsid tag why aims (inr because) =
          inr (d, lsid, is, aims, inr (inr because))

      end_case : (lsid : Lsid) (new : Session) (why : Cause) (read_at : ℕ)
          → new.state ≡ state.Aborted why read_at
          → (session t.part lsid ≡ Some new) ⊎ (Aims lsid new.tag d.msg
          × MsgBecause (met t d) d.msg why)
          → (session s.part lsid ≡ Some new) ⊎ EndsAt s e lsid new.tag why
      end_case lsid new why read_at at (inl there) =
          entry_case (entering lsid new why read_at there at)
        where
          entry_case : (session s.part lsid ≡ Some new) ⊎ IsTooOld s.part t.wall lsid new.tag why
              → (session s.part lsid ≡ Some new) ⊎ EndsAt s e lsid new.tag why
          entry_case (inl x) = inl x
          entry_case (inr old) = inr (inr (inl old))
      end_case lsid new why read_at at (inr x) = inr (inr (inr (d, is, x.0, x.1)))

  -- nothing is delivered
  else_for : (r : Ruled) → r.core ≡ t → r.out ≡ [] → (w : Happening) → e.what ≡ w
      → (Delivers w → ⊥) → StepFor s e (stepped None r)
  else_for r core out w is never =
      record {
        clock = λ d there. absurd (never (subst Delivers (sym there ∙ is) tt));
        told = given (λ (m : Msg). (tag : Tag) (why : Cause) → Tells tag why m
            → ToldAt s e tag why) r.core r.out r.held
            (subst (All (λ (l : Letter). (tag : Tag) (why : Cause) → Tells tag why l.1
            → ToldAt s e tag why)) (sym out) (nothing (λ (l : Letter). (tag : Tag) (why : Cause)
            → Tells tag why l.1 → ToldAt s e tag why)));
        ends = λ lsid new why read_at there at.
            entry_case lsid new why (entering lsid new why read_at
            (sym (ap (λ (x : ShardState). session x.part lsid) core) ∙ there) at);
      }
    where
      entry_case : (lsid : Lsid) (new : Session) (why : Cause)
          → (session s.part lsid ≡ Some new) ⊎ IsTooOld s.part t.wall lsid new.tag why
          → (session s.part lsid ≡ Some new) ⊎ EndsAt s e lsid new.tag why
      entry_case lsid new why (inl x) = inl x
      entry_case lsid new why (inr old) = inr (inr (inl old))

  no_resends : resends t.part.shard t.coord ≡ []
  no_resends = ap (resends t.part.shard) none

  happens_for : (w : Happening) → e.what ≡ w → EventAlone w → StepFor s e (happened t w)
  happens_for (what.Deliver d) is alone =
      let h = expire_holds s.part opens s.clock.last entries served part t.wall in
      delivered_for d is (ceiling_of t d) (ruled (met t d) d.from d.msg)
      (rule_rises (met t d) d.from d.msg)
      (ruled_for (met t d) h.0 none h.1.sessions d.from d.msg alone)
  happens_for (what.Client conn frame) is alone =
      else_for (quiet t) refl refl (what.Client conn frame) is (λ x. x)
  happens_for (what.Gone conn) is alone = else_for (quiet t) refl refl (what.Gone conn) is (λ x. x)
  happens_for what.Resend is alone =
      else_for (on_resend t) refl no_resends what.Resend is (λ x. x)
  happens_for what.Moment is alone = else_for (quiet t) refl refl what.Moment is (λ x. x)

  -- want of memory
  told_memory_for : (d : Envelope) → e.what ≡ what.Deliver d → (w : Wanting) → TellsMemory w
      → StepFor s e (stepped (ceiling_of t d) (told_memory (met t d) w))
  told_memory_for d is w h =
      record {
        clock = λ x there. inl (subst (λ (y : Envelope). (met t y).clock.last
            ≤ (met t d).clock.last) (one_event d x (sym is ∙ there)) (omega arith));
        told = given (λ (m : Msg). (tag : Tag) (why : Cause) → Tells tag why m
            → ToldAt s e tag why) (told_memory (met t d) w).core (w.letter ∷ []) None
            (one (λ (l : Letter). (tag : Tag) (why : Cause) → Tells tag why l.1
            → ToldAt s e tag why) w.letter (λ tag why tells. inl (h tag why tells)));
        ends = λ lsid new why read_at there at.
            end_case lsid new why read_at at
            (memory_for t.part w.lsid w.tag lsid new why read_at there at);
      }
    where
      end_case : (lsid : Lsid) (new : Session) (why : Cause) (read_at : ℕ)
          → new.state ≡ state.Aborted why read_at
          → (session t.part lsid ≡ Some new) ⊎ ((lsid ≡ w.lsid) × (new.tag ≡ w.tag)
          × MemoryBecause why)
          → (session s.part lsid ≡ Some new) ⊎ EndsAt s e lsid new.tag why
      end_case lsid new why read_at at (inl there) =
          entry_case (entering lsid new why read_at there at)
        where
          entry_case : (session s.part lsid ≡ Some new) ⊎ IsTooOld s.part t.wall lsid new.tag why
              → (session s.part lsid ≡ Some new) ⊎ EndsAt s e lsid new.tag why
          entry_case (inl x) = inl x
          entry_case (inr old) = inr (inr (inl old))
      end_case lsid new why read_at at (inr x) = inr (inl x.2)

  told_step : (d : Envelope) → e.what ≡ what.Deliver d → (w : Option Wanting)
      → IfSome w TellsMemory
      → IfSome (option_map (stepped (ceiling_of t d)) (option_and_then (told_if (met t d)) w))
      (StepFor s e)
  told_step d is None h = tt
  told_step d is (Some w) h =
      either (may_be_told (met t d) w) (λ (r : Option Ruled).
      IfSome (option_map (stepped (ceiling_of t d)) r) (StepFor s e))
      (Some (told_memory (met t d) w)) None (told_memory_for d is w h) tt

  scarce_for : (w : Happening) → e.what ≡ w → IfSome (scarce t w) (StepFor s e)
  scarce_for (what.Client conn frame) is = tt
  scarce_for (what.Gone conn) is = tt
  scarce_for (what.Deliver d) is =
      told_step d is (wanting (met t d) d.from d.msg) (wants_memory (met t d) d.from d.msg)
  scarce_for what.Resend is = tt
  scarce_for what.Moment is = tt

  or_memory : (o : Option CoreStep) → IfSome o (StepFor s e)
      → StepFor s e (unwrap_or o (stays s answer.Memory))
  or_memory None h = silent s e answer.Memory refl
  or_memory (Some o) h = h

  running_for : (room : Room) → EventAlone e.what → StepFor s e (running_step room s e)
  running_for Ample alone = happens_for e.what refl alone
  running_for Scarce alone = or_memory (scarce t e.what) (scarce_for e.what refl)
  running_for Short alone = silent s e answer.Memory refl

-- A stopped shard.

-- a stopped shard stays as it is, and tells that its disk failed, if anything
abbrev Faults : ℕ → Envelope → Type 0
Faults faults x = (tag : Tag) (why : Cause) → Tells tag why x.msg → why ≡ cause.Faulted faults

pub record StoppedFor (s : ShardState) (faults : ℕ) (o : CoreStep) : Type 0 where
  pub told : All (Faults faults) (given_out o.answer)
  pub core : o.core ≡ s

module _ (s : ShardState) (faults : ℕ) where
  stopped_silent : (a : NodeAnswer) → given_out a ≡ [] → StoppedFor s faults (stays s a)
  stopped_silent a none =
      record {
        told = subst (All (Faults faults)) (sym none) (nothing (Faults faults));
        core = refl;
      }

  says_for : (from : NodeId) (m : Msg)
      → StoppedFor s faults (stays s (says_stopped s faults from m))
  says_for from (msg.Statement m) =
      record {
        told = one (Faults faults) _ (λ tag why tells.
            same_err why (cause.Faulted faults) (Err (cause.Faulted faults)) tells.1 refl);
        core = refl;
      }
  says_for from (msg.Answer m) = stopped_silent answer.Stopped refl
  says_for from (msg.Commit m) = stopped_silent answer.Stopped refl
  says_for from (msg.Outcome m) = stopped_silent answer.Stopped refl
  says_for from (msg.Abort m) = stopped_silent answer.Stopped refl
  says_for from (msg.CommitTwo m) = stopped_silent answer.Stopped refl
  says_for from (msg.Prepare m) = stopped_silent answer.Stopped refl
  says_for from (msg.Vote m) = stopped_silent answer.Stopped refl
  says_for from (msg.Decide m) = stopped_silent answer.Stopped refl
  says_for from (msg.Acked m) = stopped_silent answer.Stopped refl
  says_for from (msg.Recover m) = stopped_silent answer.Stopped refl
  says_for from msg.Nudge = stopped_silent answer.Stopped refl

  answers_for : (w : Happening) → StoppedFor s faults (stays s (answer_stopped s faults w))
  answers_for (what.Deliver d) = says_for d.from d.msg
  answers_for (what.Client conn frame) = stopped_silent answer.Stopped refl
  answers_for (what.Gone conn) = stopped_silent answer.Stopped refl
  answers_for what.Resend = stopped_silent answer.Stopped refl
  answers_for what.Moment = stopped_silent answer.Stopped refl

  stopping_for : (room : Room) (e : NodeEvent) → StoppedFor s faults (stopped_step room s faults e)
  stopping_for Ample e = answers_for e.what
  stopping_for Scarce e = stopped_silent answer.Memory refl
  stopping_for Short e = stopped_silent answer.Memory refl

pub stopped_for : (s : ShardState) (e : NodeEvent) (faults : ℕ) → s.stopped ≡ Some faults
    → (room : Room) → StoppedFor s faults (core_step room s e)
unfolding core_step
stopped_for s e faults is room =
    subst (λ (o : Option ℕ). StoppedFor s faults (step_if room s e o)) (sym is)
    (stopping_for s faults room e)

-- A shard that runs, whose part is right.
pub step_for : (s : ShardState) (e : NodeEvent) (opens : Opens) (entries : List Entry)
    (served : List Served) → IsServing s.part opens s.clock.last entries served → s.coord ≡ []
    → s.stopped ≡ None → EventAlone e.what → (room : Room) → StepFor s e (core_step room s e)
unfolding core_step
step_for s e opens entries served part none runs alone room =
    subst (λ (o : Option ℕ). StepFor s e (step_if room s e o)) (sym runs)
    (running_for s e opens entries served part none room alone)
