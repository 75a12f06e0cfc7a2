-- A shard's step: what it then has of live transactions it had before, or it has answered it in
-- this step.
use Rattle.std.proofs.Common.{◌≡◌, ℕ, ℤ, Bool, ◌∙◌, max, nat_eq, List, Option, Some, None}
use Rattle.std.proofs.Common.{option_map, option_and_then, unwrap_or, IfSome, Ok, refl, sym, ap}
use Rattle.std.proofs.Common.{subst, arith}
use Rattle.std.specs.Prelude.{Contains}
use Rattle.txn_types.specs.Letters.{sent_by, given_out}
use Rattle.txn_types.specs.Order.{same_tag}
use Rattle.txn_types.specs.declared.cause.Cause.{Cause}
use Rattle.txn_types.specs.declared.cause.Cause.TheVariants as cause
use Rattle.txn_types.specs.declared.decision.Decision.{Decision}
use Rattle.txn_types.specs.declared.event.Happening.{Happening}
use Rattle.txn_types.specs.declared.event.Happening.TheVariants as what
use Rattle.txn_types.specs.declared.event.NodeAnswer.{NodeAnswer}
use Rattle.txn_types.specs.declared.event.NodeAnswer.TheVariants as answer
use Rattle.txn_types.specs.declared.event.NodeEvent.{NodeEvent}
use Rattle.txn_types.specs.declared.message.Acked.{Acked}
use Rattle.txn_types.specs.declared.message.Answer.{Answer}
use Rattle.txn_types.specs.declared.message.CommitTwo.{CommitTwo}
use Rattle.txn_types.specs.declared.message.Envelope.{Envelope}
use Rattle.txn_types.specs.declared.message.Msg.{Msg}
use Rattle.txn_types.specs.declared.message.Msg.TheVariants as msg
use Rattle.txn_types.specs.declared.message.Statement.{Statement}
use Rattle.txn_types.specs.declared.message.Vote.{Vote}
use Rattle.txn_types.specs.declared.names.Tag.{Tag}
use Rattle.txn_types.specs.declared.node.NodeId.{NodeId}
use Rattle.txn_types.specs.declared.node.NodeId.TheVariants.{Shard}
use Rattle.txn_types.specs.declared.operation.OpReply.{OpReply}
use Rattle.session_table.specs.declared.session.Session.{Session}
use Rattle.session_table.specs.declared.session.SessionState.{SessionState}
use Rattle.session_table.specs.declared.session.SessionState.TheVariants as state
use Rattle.version_store.specs.declared.version.Held.{Held}
use Rattle.coordinator.specs.TwoPhase.{Coordinated, coordinated_of, decided_by}
use Rattle.participant.specs.declared.said.Open.{Open}
use Rattle.participant.specs.declared.said.Said.{Said}
use Rattle.participant.specs.declared.said.Said.TheVariants.{Did, Blocked, Refused, Late}
use Rattle.participant.specs.Part.{Part, session, elsewhere}
use Rattle.participant.specs.Statement.{statement}
use Rattle.participant.specs.Abort.{abort}
use Rattle.participant.proofs.Cases.{either}
use Rattle.shard_core.specs.State.{ShardState, met, ceiling_of, with_part}
use Rattle.shard_core.specs.Ruled.{Ruled, quiet, coordinates}
use Rattle.shard_core.specs.Participating.{answers}
use Rattle.shard_core.specs.Coordinating.{asks, starts, fails, is_lost, unless_coordinated}
use Rattle.shard_core.specs.Coordinating.{unless_older, unless_known, larger_number, starts_own}
use Rattle.shard_core.specs.Coordinating.{starts_new, votes_on, votes_if, acks_if, on_commit_two}
use Rattle.shard_core.specs.Coordinating.{on_recover, recovers}
use Rattle.shard_core.specs.Rules.{ruled, from_router, router_of}
use Rattle.shard_core.specs.Wanting.{wanting, Wanting, told_if, told_memory, may_be_told}
use Rattle.shard_core.specs.Core.{Room, Ample, Scarce, Short, CoreStep, core_step, step_if, stepped}
use Rattle.shard_core.specs.Core.{stays, entered, happened, scarce, running_step, stopped_step}
use Rattle.shard_core.specs.Core.{answer_of}
use Rattle.live_laws.proofs.Opens.{AllLive, Keeps, TurnKeeps, same, aborted_keeps, statement_keeps}
use Rattle.live_laws.proofs.Opens.{expire_keeps, memory_keeps, abort_keeps, recover_keeps}
use Rattle.live_laws.proofs.Opens.{decide_keeps, commit_keeps, prepare_keeps}

-- this shard in this boot answered what the live transaction has
abbrev pub IsAnswerOf : ℕ → ℕ → Open → Answer → Type 0
IsAnswerOf shard boot o a = (a.tag ≡ o.tag) × (a.k ≡ o.k) × (a.shard ≡ shard) × (a.boot ≡ boot)
    × (a.read_at ≡ o.read_at) × (a.outcome ≡ Ok (o.reply, o.wrote))

abbrev pub AnsweredIn : List Envelope → ℕ → ℕ → Open → Type 0
AnsweredIn sent shard boot o = (e : Envelope) × (a : Answer) × Contains sent e
    × (e.msg ≡ msg.Answer a) × IsAnswerOf shard boot o a

-- What holds of each live transaction, and of what is answered, holds after this.
pub record Lives (P : Open → Type 0) (p q : Part) (a : NodeAnswer) : Type 0 where
  pub shard : q.shard ≡ p.shard
  pub boot : q.boot ≡ p.boot
  pub live : ((o : Open) → AnsweredIn (given_out a) q.shard q.boot o → P o) → AllLive P p
      → AllLive P q

lives : (P : Open → Type 0) (p q : Part) (a : NodeAnswer) → Keeps P p q → Lives P p q a
lives P p q a k = record { shard = k.shard; boot = k.boot; live = λ told. k.live }

abbrev RuledLives : (Open → Type 0) → ShardState → Ruled → Type 0
RuledLives P s r = Lives P s.part r.core.part (answer_of r.core r.out r.held)

rests : (P : Open → Type 0) (s : ShardState) (r : Ruled) → r.core.part ≡ s.part → RuledLives P s r
rests P s r e = lives P s.part r.core.part (answer_of r.core r.out r.held) (subst (Keeps P s.part)
    (sym e) (same P s.part))

ends : (P : Open → Type 0) (s : ShardState) (r : Ruled) → Keeps P s.part r.core.part
    → RuledLives P s r
ends P s r k = lives P s.part r.core.part (answer_of r.core r.out r.held) k

-- Statements.

abbrev read_in : ℕ → Said → ℕ
read_in other (Did at reply wrote) = at
read_in other said = other

abbrev told_in : OpReply × Bool → Said → OpReply × Bool
told_in other (Did at reply wrote) = (reply, wrote)
told_in other said = other

pub no_blocked : (held : Held) (at : ℕ) (reply : OpReply) (wrote : Bool)
    → Blocked held ≡ Did at reply wrote → ⊥
no_blocked held at reply wrote e = cc

pub no_refused : (why : Cause) (read_at at : ℕ) (reply : OpReply) (wrote : Bool)
    → Refused why read_at ≡ Did at reply wrote → ⊥
no_refused why read_at at reply wrote e = cc

pub no_late : (at : ℕ) (reply : OpReply) (wrote : Bool) → Late ≡ Did at reply wrote → ⊥
no_late at reply wrote e = cc

answers_live : (P : Open → Type 0) (s : ShardState) (q : Part) (to : NodeId) (m : Statement) (said :
    Said) → TurnKeeps P s.part m (said, q) → RuledLives P s (answers (with_part s q) to m said)
answers_live P s q to m (Did at reply wrote) k = record {
  shard = k.shard;
  boot = k.boot;
  live = λ told. k.live (λ o tag place is. told o (
    sent_by (Shard q.shard) s.clock.last (
      to,
      msg.Answer (record {
        tag = m.tag;
        k = m.k;
        shard = q.shard;
        boot = q.boot;
        read_at = at;
        outcome = Ok (reply, wrote);
      }),
    ),
    record {
      tag = m.tag;
      k = m.k;
      shard = q.shard;
      boot = q.boot;
      read_at = at;
      outcome = Ok (reply, wrote);
    },
    (0, omega arith, refl),
    refl,
    (
      sym tag,
      sym place,
      refl,
      refl,
      ap (read_in at) is,
      ap (λ (x : Said). Ok (told_in (reply, wrote) x)) is,
    ),
  ));
}
answers_live P s q to m (Blocked held) k = record {
  shard = k.shard;
  boot = k.boot;
  live = λ told. k.live (λ o tag place is. absurd (no_blocked held o.read_at o.reply o.wrote is));
}
answers_live P s q to m (Refused why at) k = record {
  shard = k.shard;
  boot = k.boot;
  live = λ told. k.live (λ o tag place is. absurd (no_refused why at o.read_at o.reply o.wrote is));
}
answers_live P s q to m Late k = record {
  shard = k.shard;
  boot = k.boot;
  live = λ told. k.live (λ o tag place is. absurd (no_late o.read_at o.reply o.wrote is));
}

-- The coordinator.

asks_live : (P : Open → Type 0) (s : ShardState) (router : ℕ) (tag : Tag) (c : Coordinated)
    (d : Option Decision) → RuledLives P s (asks s router tag c d)
asks_live P s router tag c None = rests P s (asks s router tag c None) refl
asks_live P s router tag c (Some d) = rests P s (asks s router tag c (Some d)) refl

coordinated_live : (P : Open
    → Type 0) (s : ShardState) (router : ℕ) (tag : Tag) (c : Option Coordinated) (other : Ruled)
    → RuledLives P s other → RuledLives P s (unless_coordinated s router tag c other)
coordinated_live P s router tag None other k = k
coordinated_live P s router tag (Some c) other k = asks_live P s router tag c c.decision

older_live : (P : Open → Type 0) (s : ShardState) (router : ℕ) (tag : Tag) (have : Option ℤ)
    (other : Ruled) → RuledLives P s other → RuledLives P s (unless_older s router tag have other)
older_live P s router tag None other k = k
older_live P s router tag (Some have) other k =
    rests P s (unless_older s router tag (Some have) other) refl

known_live : (P : Open → Type 0) (s : ShardState) (router : ℕ) (tag : Tag)
    (has : Option Session) (number : ℤ) (other : Ruled) → RuledLives P s other
    → RuledLives P s (unless_known s router tag has number other)
known_live P s router tag has number other k =
    older_live P s router tag (larger_number has number)
    (unless_coordinated s router tag (coordinated_of s.coord tag) other)
    (coordinated_live P s router tag (coordinated_of s.coord tag) other k)

starts_own_live : (P : Open → Type 0) (s : ShardState) (router : ℕ) (m : CommitTwo) (own : Session)
    (st : SessionState) → RuledLives P s (starts_own s router m own st)
starts_own_live P s router m own state.Live =
    either (nat_eq m.boot s.part.boot) (RuledLives P s) (starts s router m) (fails s router m own
    (cause.Unavailable m.boot s.part.boot)) (rests P s (starts s router m) refl)
    (ends P s (fails s router m own (cause.Unavailable m.boot s.part.boot))
    (aborted_keeps P s.part m.lsid own (cause.Unavailable m.boot s.part.boot)))
starts_own_live P s router m own (state.Prepared at coordinator) =
    rests P s (starts_own s router m own (state.Prepared at coordinator)) refl
starts_own_live P s router m own (state.Committed at) =
    rests P s (starts_own s router m own (state.Committed at)) refl
starts_own_live P s router m own state.Released =
    rests P s (starts_own s router m own state.Released) refl
starts_own_live P s router m own (state.Aborted why read_at) =
    rests P s (starts_own s router m own (state.Aborted why read_at)) refl

starts_new_live : (P : Open → Type 0) (s : ShardState) (router : ℕ) (m : CommitTwo)
    (own : Option Session) → RuledLives P s (starts_new s router m own)
starts_new_live P s router m None = rests P s (starts_new s router m None) refl
starts_new_live P s router m (Some own) = either (same_tag own.tag m.tag) (RuledLives P s) _ _
    (starts_own_live P s router m own own.state) (rests P s (is_lost s router m) refl)

votes_on_live : (P : Open → Type 0) (s : ShardState) (m : Vote) (c : Coordinated)
    (d : Option Decision) → RuledLives P s (votes_on s m c d)
votes_on_live P s m c None = rests P s (votes_on s m c None) refl
votes_on_live P s m c (Some d) = rests P s (votes_on s m c (Some d)) refl

votes_live : (P : Open → Type 0) (s : ShardState) (m : Vote) (c : Option Coordinated)
    → RuledLives P s (votes_if s m c)
votes_live P s m None = rests P s (votes_if s m None) refl
votes_live P s m (Some c) = votes_on_live P s m c (decided_by m.shard m.vote c)

acks_live : (P : Open → Type 0) (s : ShardState) (m : Acked) (c : Option Coordinated)
    → RuledLives P s (acks_if s m c)
acks_live P s m None = rests P s (acks_if s m None) refl
acks_live P s m (Some c) = rests P s (acks_if s m (Some c)) refl

router_rule : (P : Open → Type 0) (s : ShardState) (rule : ℕ → Ruled) (router : Option ℕ)
    → ((n : ℕ) → RuledLives P s (rule n)) → RuledLives P s (from_router s rule router)
router_rule P s rule None h = rests P s (quiet s) refl
router_rule P s rule (Some router) h = h router

-- Each message.

ruled_live : (P : Open → Type 0) (s : ShardState) (from : NodeId) (m : Msg)
    → RuledLives P s (ruled s from m)
ruled_live P s from (msg.Statement m) =
    let turn = statement s.part s.clock.last s.wall m in
    either (elsewhere s.part m.lsid m.tag) (RuledLives P s) _ _ (rests P s (quiet s) refl)
    (answers_live P s turn.1 from m turn.0 (statement_keeps P s.part s.clock.last s.wall m))
ruled_live P s from (msg.Answer m) = rests P s (quiet s) refl
ruled_live P s from (msg.Commit m) =
    ends P s (ruled s from (msg.Commit m)) (commit_keeps P s.part s.clock.last s.wall m)
ruled_live P s from (msg.Outcome m) = rests P s (quiet s) refl
ruled_live P s from (msg.Abort m) = either (coordinates s m.tag) (RuledLives P s) _ _ (rests P s
    (quiet s) refl) (ends P s (quiet (with_part s (abort s.part m))) (abort_keeps P s.part m))
ruled_live P s from (msg.CommitTwo m) =
    router_rule P s (λ router. on_commit_two s router m) (router_of from)
    (λ router. known_live P s router m.tag (session s.part m.lsid) m.number _
    (starts_new_live P s router m (session s.part m.lsid)))
ruled_live P s from (msg.Prepare m) =
    ends P s (ruled s from (msg.Prepare m)) (prepare_keeps P s.part s.clock.last s.wall m)
ruled_live P s from (msg.Vote m) = votes_live P s m (coordinated_of s.coord m.tag)
ruled_live P s from (msg.Decide m) =
    ends P s (ruled s from (msg.Decide m)) (decide_keeps P s.part m)
ruled_live P s from (msg.Acked m) = acks_live P s m (coordinated_of s.coord m.tag)
ruled_live P s from (msg.Recover m) =
    router_rule P s (λ router. on_recover s router m) (router_of from)
    (λ router. known_live P s router m.tag (session s.part m.lsid) m.number (recovers s router m)
    (ends P s (recovers s router m) (recover_keeps P s.part m)))
ruled_live P s from msg.Nudge = rests P s (ruled s from msg.Nudge) refl

-- The step of a shard that runs.

abbrev StepLives : (Open → Type 0) → ShardState → CoreStep → Type 0
StepLives P s o = Lives P s.part o.core.part o.answer

behind : (P : Open → Type 0) (p q r : Part) (a : NodeAnswer) → Keeps P p q → Lives P q r a
    → Lives P p r a
behind P p q r a k h = record {
  shard = h.shard ∙ k.shard;
  boot = h.boot ∙ k.boot;
  live = λ told all. h.live told (k.live all);
}

calm : (P : Open → Type 0) (s : ShardState) (e : NodeEvent)
    → StepLives P s (stepped None (quiet (entered s e)))
calm P s e = lives P s.part (entered s e).part _ (expire_keeps P s.part (max s.wall e.wall))

happens : (P : Open → Type 0) (s : ShardState) (e : NodeEvent) (w : Happening)
    → StepLives P s (happened (entered s e) w)
happens P s e (what.Client conn frame) = calm P s e
happens P s e (what.Gone conn) = calm P s e
happens P s e (what.Deliver sent) =
    let r = ruled (met (entered s e) sent) sent.from sent.msg in
    behind P s.part (entered s e).part r.core.part (answer_of r.core r.out r.held) (expire_keeps P
    s.part (max s.wall e.wall)) (ruled_live P (met (entered s e) sent) sent.from sent.msg)
happens P s e what.Resend =
    lives P s.part (entered s e).part _ (expire_keeps P s.part (max s.wall e.wall))
happens P s e what.Moment = calm P s e

-- out of memory

abbrev EachStep : (Open → Type 0) → ShardState → Option CoreStep → Type 0
EachStep P s o = IfSome o (StepLives P s)

told_live : (P : Open → Type 0) (old : ShardState) (s : ShardState)
    (bound : Option ℕ) (w : Option Wanting) → Keeps P old.part s.part
    → EachStep P old (option_map (stepped bound) (option_and_then (told_if s) w))
told_live P old s bound None k = tt
told_live P old s bound (Some w) k =
    either (may_be_told s w) (λ (r : Option Ruled). EachStep P old (option_map (stepped bound) r))
    (Some (told_memory s w)) None
    (behind P old.part s.part (told_memory s w).core.part _ k
    (ends P s (told_memory s w) (memory_keeps P s.part w.lsid w.tag))) tt

scarce_live : (P : Open → Type 0) (s : ShardState) (e : NodeEvent) (w : Happening)
    → EachStep P s (scarce (entered s e) w)
scarce_live P s e (what.Client conn frame) = tt
scarce_live P s e (what.Gone conn) = tt
scarce_live P s e (what.Deliver sent) =
    told_live P s (met (entered s e) sent) (ceiling_of (entered s e) sent) (wanting
    (met (entered s e) sent) sent.from sent.msg) (expire_keeps P s.part (max s.wall e.wall))
scarce_live P s e what.Resend = tt
scarce_live P s e what.Moment = tt

unless_short : (P : Open → Type 0) (s : ShardState) (o : Option CoreStep) → EachStep P s o
    → (other : CoreStep) → StepLives P s other → StepLives P s (unwrap_or o other)
unless_short P s None h other k = k
unless_short P s (Some o) h other k = h

memory : (P : Open → Type 0) (s : ShardState) → StepLives P s (stays s answer.Memory)
memory P s = lives P s.part s.part answer.Memory (same P s.part)

runs : (P : Open → Type 0) (room : Room) (s : ShardState) (e : NodeEvent)
    → StepLives P s (running_step room s e)
runs P Ample s e = happens P s e e.what
runs P Scarce s e = unless_short P s (scarce (entered s e) e.what) (scarce_live P s e e.what)
    (stays s answer.Memory) (memory P s)
runs P Short s e = memory P s

-- A stopped shard stays as it is.

stops : (P : Open → Type 0) (room : Room) (s : ShardState) (faults : ℕ) (e : NodeEvent)
    → StepLives P s (stopped_step room s faults e) × ((stopped_step room s faults e).core ≡ s)
stops P Ample s faults e = (lives P s.part s.part _ (same P s.part), refl)
stops P Scarce s faults e = (memory P s, refl)
stops P Short s faults e = (memory P s, refl)

steps : (P : Open → Type 0) (room : Room) (s : ShardState) (e : NodeEvent) (stopped : Option ℕ)
    → s.stopped ≡ stopped
    → StepLives P s (step_if room s e stopped)
    × ((step_if room s e stopped).core.stopped ≡ None → s.stopped ≡ None)
steps P room s e None is = (runs P room s e, λ runs. is)
steps P room s e (Some faults) is = let k = stops P room s faults e in
    (k.0, λ runs. sym (ap (λ (c : ShardState). c.stopped) k.1) ∙ runs)

pub step_live : (P : Open → Type 0) (room : Room) (s : ShardState) (e : NodeEvent)
    → StepLives P s (core_step room s e)
    × ((core_step room s e).core.stopped ≡ None → s.stopped ≡ None)
unfolding core_step
step_live P room s e = steps P room s e s.stopped refl
