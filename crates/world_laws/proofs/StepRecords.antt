-- What a shard holds and tells of prepared and committed transactions has its record, after a
-- step.
use Rattle.std.proofs.Common.{◌≡◌, ℕ, max, List, All, Option, Some, None, IfSome, option_map}
use Rattle.std.proofs.Common.{option_and_then, unwrap_or, is_some, Err, refl, sym, arith, ◌∙◌}
use Rattle.std.proofs.lemmas.List.Elements.{All-map, All-weaker}
use Rattle.txn_types.specs.Letters.{Letter, sent_by}
use Rattle.txn_types.specs.declared.cause.Cause.TheVariants as cause
use Rattle.txn_types.specs.declared.event.Happening.{Happening}
use Rattle.txn_types.specs.declared.event.Happening.TheVariants as what
use Rattle.txn_types.specs.declared.event.NodeAnswer.TheVariants as answer
use Rattle.txn_types.specs.declared.event.NodeEvent.{NodeEvent}
use Rattle.txn_types.specs.declared.message.Envelope.{Envelope}
use Rattle.txn_types.specs.declared.message.Msg.{Msg}
use Rattle.txn_types.specs.declared.message.Msg.TheVariants as msg
use Rattle.txn_types.specs.declared.node.NodeId.{NodeId}
use Rattle.txn_types.specs.declared.node.NodeId.TheVariants.{Shard}
use Rattle.version_store.specs.declared.version.Held.{Held}
use Rattle.participant.specs.Part.{elsewhere}
use Rattle.participant.proofs.Cases.{either}
use Rattle.shard_core.specs.State.{ShardState, met, ceiling_of}
use Rattle.shard_core.specs.Ruled.{Ruled, quiet}
use Rattle.shard_core.specs.Participating as participating
use Rattle.shard_core.specs.Coordinating.{on_resend}
use Rattle.shard_core.specs.Rules.{ruled, router_of}
use Rattle.shard_core.specs.Wanting.{wanting, Wanting, told_if, told_memory, may_be_told}
use Rattle.shard_core.specs.Core.{Room, Ample, Scarce, Short, CoreStep, core_step, step_if, stepped}
use Rattle.shard_core.specs.Core.{stays, entered, happened, scarce, running_step, answer_stopped}
use Rattle.shard_core.specs.Core.{says_stopped, gives_out, answer_of}
use Rattle.txn_types.specs.Letters.{given_out}
use Rattle.world_laws.proofs.Numbers.{memory_same}
use Rattle.world_laws.proofs.Naming.{nothing, one}
use Rattle.txn_types.specs.declared.decision.Decision.{Decision}
use Rattle.txn_types.specs.declared.decision.Decision.TheVariants as decision
use Rattle.txn_types.specs.declared.names.Tag.{Tag}
use Rattle.txn_types.specs.declared.node.Lsid.{Lsid}
use Rattle.session_table.specs.declared.session.Session.{Session}
use Rattle.session_table.specs.declared.session.SessionState.{SessionState}
use Rattle.session_table.specs.declared.session.SessionState.TheVariants as state
use Rattle.journal_rec.specs.declared.record.Rec.{Rec}
use Rattle.journal_rec.specs.declared.record.Rec.TheVariants as rec
use Rattle.coordinator.specs.TwoPhase.{Coordinated}
use Rattle.world_laws.specs.Recorded.{StateRecorded, CommitRecorded, CoreRecorded, LetterRecorded}
use Rattle.world_laws.specs.Recorded.{Makes, RestsOn, RuledRecorded, StepRecorded, EventRecorded}
use Rattle.world_laws.proofs.PartRecords.{expire_keeps, memory_keeps}
use Rattle.world_laws.proofs.RuledRecords.{InOut, resends_keeps, ruled_keeps}

module _ (V C : Tag → ℕ → Type 0) where
  abbrev Env : ShardState → Envelope → Type 0
  Env s e = LetterRecorded V C s.part.shard e.msg

  -- where the record that a step makes stands
  abbrev S : CoreStep → Type 0
  S o = IfSome o.rec (Makes V C) → StepRecorded V C o

  entered_keeps : (s : ShardState) (e : NodeEvent) → CoreRecorded V C s
      → CoreRecorded V C (entered s e)
  entered_keeps s e h =
      record { part = expire_keeps V C s.part (max s.wall e.wall) h.part; coord = h.coord }

  met_keeps : (s : ShardState) (e : Envelope) → CoreRecorded V C s → CoreRecorded V C (met s e)
  met_keeps s e h = record { part = h.part; coord = h.coord }

  gives_keep : (s : ShardState) (out : List Letter)
      → All (λ l. LetterRecorded V C s.part.shard l.1) out
      → All (Env s) (given_out (gives_out s out))
  gives_keep s out h =
      All-map (Env s) (sent_by (Shard s.part.shard) s.clock.last)
      out (All-weaker (InOut V C s.part.shard)
      (λ (l : Letter). Env s (sent_by (Shard s.part.shard) s.clock.last l)) (λ l k. k) out h)

  answers_keep : (s : ShardState) (out : List Letter) (h : Option Held)
      → All (λ l. LetterRecorded V C s.part.shard l.1) out
      → All (Env s) (given_out (answer_of s out h))
  answers_keep s out None h = gives_keep s out h
  answers_keep s out (Some held) h = nothing (Env s)

  rules : (bound : Option ℕ) (r : Ruled) → (IfSome r.rec (Makes V C) → RuledRecorded V C r)
      → S (stepped bound r)
  rules bound r f = λ m. let h = f m in
      record { core = h.core; rec = h.rec; out = answers_keep r.core r.out r.held h.out }

  quiet_does : (s : ShardState) → CoreRecorded V C s → S (stepped None (quiet s))
  quiet_does s h = λ m. record { core = h; rec = tt; out = nothing (Env s) }

  happens : (s : ShardState) (w : Happening) → CoreRecorded V C s → EventRecorded C w
      → S (happened s w)
  happens s (what.Client conn frame) h k = quiet_does s h
  happens s (what.Gone conn) h k = quiet_does s h
  happens s (what.Deliver e) h k = rules (ceiling_of s e) (ruled (met s e) e.from e.msg)
      (ruled_keeps V C (met s e) e.from e.msg (met_keeps s e h) k)
  happens s what.Resend h k = rules None (on_resend s) (λ m. record {
    core = h;
    rec = tt;
    out = resends_keeps V C s.part.shard s.part.shard s.coord h.coord;
  })
  happens s what.Moment h k = quiet_does s h

  -- out of memory

  abbrev Wants : ShardState → Option Wanting → Type 0
  Wants s w = IfSome w (λ w. LetterRecorded V C s.part.shard w.letter.1)

  wants : (s : ShardState) (from : NodeId) (m : Msg) → Wants s (wanting s from m)
  wants s from (msg.Statement m) = either (elsewhere s.part m.lsid m.tag) (Wants s) _ _ tt tt
  wants s from (msg.Answer m) = tt
  wants s from (msg.Commit m) = tt
  wants s from (msg.Outcome m) = tt
  wants s from (msg.Abort m) = tt
  wants s from (msg.CommitTwo m) = either (is_some (router_of from)) (Wants s) _ _ tt tt
  wants s from (msg.Prepare m) = (tt, refl)
  wants s from (msg.Vote m) = tt
  wants s from (msg.Decide m) = tt
  wants s from (msg.Acked m) = tt
  wants s from (msg.Recover m) = either (is_some (router_of from)) (Wants s) _ _ tt tt
  wants s from msg.Nudge = tt

  letter_moves : (shard other : ℕ) (m : Msg) → other ≡ shard → LetterRecorded V C shard m
      → LetterRecorded V C other m
  letter_moves shard other (msg.Statement m) e h = h
  letter_moves shard other (msg.Answer m) e h = h
  letter_moves shard other (msg.Commit m) e h = h
  letter_moves shard other (msg.Outcome m) e h = h
  letter_moves shard other (msg.Abort m) e h = h
  letter_moves shard other (msg.CommitTwo m) e h = h
  letter_moves shard other (msg.Prepare m) e h = h
  letter_moves shard other (msg.Vote m) e h = (h.0, h.1 ∙ sym e)
  letter_moves shard other (msg.Decide m) e h = h
  letter_moves shard other (msg.Acked m) e h = h
  letter_moves shard other (msg.Recover m) e h = h
  letter_moves shard other msg.Nudge e h = h

  memory_does : (s : ShardState) (w : Wanting) → LetterRecorded V C s.part.shard w.letter.1
      → CoreRecorded V C s → IfSome (told_memory s w).rec (Makes V C)
      → RuledRecorded V C (told_memory s w)
  memory_does s w k h m =
      let g = memory_same s.part w.lsid w.tag in
      record {
        core = record { part = memory_keeps V C s.part w.lsid w.tag h.part; coord = h.coord };
        rec = tt;
        out = one (InOut V C (told_memory s w).core.part.shard) w.letter (letter_moves s.part.shard
            (told_memory s w).core.part.shard w.letter.1 g.shard k);
      }

  abbrev EachStep : Option CoreStep → Type 0
  EachStep None = Unit {0}
  EachStep (Some o) = S o

  told_does : (s : ShardState) (e : Envelope) (w : Option Wanting)
      → Wants (met s e) w → CoreRecorded V C s
      → EachStep (option_map (stepped (ceiling_of s e)) (option_and_then (told_if (met s e)) w))
  told_does s e None k h = tt
  told_does s e (Some w) k h =
      either (may_be_told (met s e) w) (λ (r : Option Ruled).
      EachStep (option_map (stepped (ceiling_of s e)) r)) (Some (told_memory (met s e) w)) None
      (rules (ceiling_of s e) (told_memory (met s e) w)
      (memory_does (met s e) w k (met_keeps s e h))) tt

  scarce_does : (s : ShardState) (w : Happening) → CoreRecorded V C s → EachStep (scarce s w)
  scarce_does s (what.Client conn frame) h = tt
  scarce_does s (what.Gone conn) h = tt
  scarce_does s (what.Deliver e) h =
      told_does s e (wanting (met s e) e.from e.msg) (wants (met s e) e.from e.msg) h
  scarce_does s what.Resend h = tt
  scarce_does s what.Moment h = tt

  stays_keep : (s : ShardState) → CoreRecorded V C s → S (stays s answer.Memory)
  stays_keep s h = λ m. record { core = h; rec = tt; out = nothing (Env s) }

  unless_short : (o : Option CoreStep) → EachStep o → (other : CoreStep) → S other
      → S (unwrap_or o other)
  unless_short None h other k = k
  unless_short (Some o) h other k = h

  runs : (room : Room) (s : ShardState) (e : NodeEvent) → CoreRecorded V C s
      → EventRecorded C e.what → S (running_step room s e)
  runs Ample s e h k = happens (entered s e) e.what (entered_keeps s e h) k
  runs Scarce s e h k = unless_short (scarce (entered s e) e.what) (scarce_does (entered s e) e.what
      (entered_keeps s e h)) (stays s answer.Memory) (stays_keep s h)
  runs Short s e h k = stays_keep s h

  runs_if : (room : Room) (s : ShardState) (e : NodeEvent) (stopped : Option ℕ) → stopped ≡ None
      → CoreRecorded V C s → EventRecorded C e.what → S (step_if room s e stopped)
  runs_if room s e None is h k = runs room s e h k
  runs_if room s e (Some faults) is h k = grind arith

  -- a step of a shard that runs
  pub step_keeps : (room : Room) (s : ShardState) (e : NodeEvent) → s.stopped ≡ None
      → CoreRecorded V C s → EventRecorded C e.what → S (core_step room s e)
  unfolding core_step
  step_keeps room s e is h k = runs_if room s e s.stopped is h k

  -- a stopped shard tells of no commit

  says : (s : ShardState) (faults : ℕ) (from : NodeId) (m : Msg)
      → All (Env s) (given_out (says_stopped s faults from m))
  says s faults from (msg.Statement m) = let l : Letter =
      participating.answer s from m 0 (Err (cause.Faulted faults)) in
      one (Env s) (sent_by (Shard s.part.shard) s.clock.last l) tt
  says s faults from other = nothing (Env s)

  stopped_says : (s : ShardState) (faults : ℕ) (w : Happening)
      → All (Env s) (given_out (answer_stopped s faults w))
  stopped_says s faults (what.Deliver e) = says s faults e.from e.msg
  stopped_says s faults other = nothing (Env s)

  stops : (room : Room) (s : ShardState) (e : NodeEvent) (stopped : Option ℕ) (faults : ℕ)
      → stopped ≡ Some faults → All (Env s) (given_out (step_if room s e stopped).answer)
  stops room s e None faults is = grind arith
  stops Ample s e (Some n) faults is = stopped_says s n e.what
  stops Scarce s e (Some n) faults is = nothing (Env s)
  stops Short s e (Some n) faults is = nothing (Env s)

  pub stopped_tells : (room : Room) (s : ShardState) (e : NodeEvent) (faults : ℕ)
      → s.stopped ≡ Some faults
      → All (λ e. LetterRecorded V C s.part.shard e.msg) (given_out (core_step room s e).answer)
  unfolding core_step
  stopped_tells room s e faults is = stops room s e s.stopped faults is

-- More records: what was recorded is recorded still.

module _ (V C V' C' : Tag → ℕ → Type 0) (f : (tag : Tag) (at : ℕ) → V tag at → V' tag at)
    (g : (tag : Tag) (at : ℕ) → C tag at → C' tag at) where
  state_more : (tag : Tag) (st : SessionState) → StateRecorded V C tag st
      → StateRecorded V' C' tag st
  state_more tag state.Live h = tt
  state_more tag (state.Prepared at coordinator) h = f tag at h
  state_more tag (state.Committed at) h = g tag at h
  state_more tag state.Released h = tt
  state_more tag (state.Aborted why read_at) h = tt

  pub commit_more : (tag : Tag) (d : Decision) → CommitRecorded C tag d → CommitRecorded C' tag d
  commit_more tag (decision.Commit at) h = g tag at h
  commit_more tag (decision.Abort shard code) h = tt

  if_more : (tag : Tag) (d : Option Decision) → IfSome d (CommitRecorded C tag)
      → IfSome d (CommitRecorded C' tag)
  if_more tag None h = tt
  if_more tag (Some d) h = commit_more tag d h

  pub core_more : (s : ShardState) → CoreRecorded V C s → CoreRecorded V' C' s
  core_more s h =
      record {
        part = All-weaker (λ (entry : Lsid × Session). StateRecorded V C entry.1.tag entry.1.state)
            (λ (entry : Lsid × Session). StateRecorded V' C' entry.1.tag entry.1.state) (λ entry k.
            state_more entry.1.tag entry.1.state k) s.part.sessions.entries h.part;
        coord = All-weaker (λ (c : Tag × Coordinated). IfSome c.1.decision (CommitRecorded C c.0))
            (λ (c : Tag × Coordinated). IfSome c.1.decision (CommitRecorded C' c.0)) (λ c k.
            if_more c.0 c.1.decision k) s.coord h.coord;
      }

  pub rests_more : (r : Rec) → RestsOn C r → RestsOn C' r
  rests_more (rec.Boot boot) h = tt
  rests_more (rec.Ceiling bound) h = tt
  rests_more (rec.Commit tag lsid number read_at at writes) h = tt
  rests_more (rec.Prepared tag lsid number boot read_at at coordinator writes) h = tt
  rests_more (rec.Decided d) h = commit_more d.tag d.decision h
  rests_more (rec.CoordStart tag lsid number parts) h = tt
  rests_more (rec.CoordDecision tag d) h = tt
  rests_more (rec.CoordEnd tag) h = tt
  rests_more (rec.Floor floor) h = tt
