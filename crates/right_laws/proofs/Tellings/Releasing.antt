-- To whom a shard tells ends of transactions: it names itself, and what it tells as released was
-- asked by a commit, whose sender it tells.
use Rattle.std.proofs.Common.{◌≡◌, inl, inr, max, ℕ, All, List, [], ◌∷◌, Option, Some}
use Rattle.std.proofs.Common.{None, option_map, option_and_then, unwrap_or, is_some, nat_eq, int_lt}
use Rattle.std.proofs.Common.{Err, refl, subst, ◌∙◌, sym, ap}
use Rattle.std.proofs.lemmas.List.Elements.{All-nil, All-map}
use Rattle.txn_types.specs.Letters.{Letter, Named, sent_by, given_out}
use Rattle.txn_types.specs.Order.{same_tag}
use Rattle.txn_types.specs.declared.cause.Cause.{Cause}
use Rattle.txn_types.specs.declared.cause.Cause.TheVariants as cause
use Rattle.txn_types.specs.declared.decision.Told.{Told}
use Rattle.txn_types.specs.declared.decision.Told.TheVariants as told
use Rattle.txn_types.specs.declared.event.Happening.{Happening}
use Rattle.txn_types.specs.declared.event.Happening.TheVariants as what
use Rattle.txn_types.specs.declared.event.NodeAnswer.{NodeAnswer}
use Rattle.txn_types.specs.declared.event.NodeAnswer.TheVariants as answer
use Rattle.txn_types.specs.declared.event.NodeEvent.{NodeEvent}
use Rattle.txn_types.specs.declared.message.Commit.{Commit}
use Rattle.txn_types.specs.declared.message.Envelope.{Envelope}
use Rattle.txn_types.specs.declared.message.Msg.{Msg}
use Rattle.txn_types.specs.declared.message.Msg.TheVariants as msg
use Rattle.txn_types.specs.declared.message.Recover.{Recover}
use Rattle.txn_types.specs.declared.message.Statement.{Statement}
use Rattle.txn_types.specs.declared.names.Tag.{Tag}
use Rattle.txn_types.specs.declared.node.NodeId.{NodeId}
use Rattle.txn_types.specs.declared.node.NodeId.TheVariants.{Shard}
use Rattle.version_store.specs.declared.version.Held.{Held}
use Rattle.session_table.specs.declared.session.Session.{Session}
use Rattle.session_table.specs.declared.session.SessionState.{SessionState}
use Rattle.session_table.specs.declared.session.SessionState.TheVariants as state
use Rattle.coordinator.specs.TwoPhase.{Coordinated, Coordinations, coordinated_of, resends}
use Rattle.participant.specs.Part.{Part, session, elsewhere}
use Rattle.participant.specs.Recover.{recover, recovers_none, recovers_own, Telling}
use Rattle.participant.specs.Recover.{recovers_session}
use Rattle.participant.specs.Statement.{statement}
use Rattle.participant.specs.Commit.{commit}
use Rattle.participant.specs.declared.said.Said.{Said}
use Rattle.participant.specs.declared.said.Said.TheVariants.{Did, Blocked, Refused, Late}
use Rattle.participant.proofs.Cases.{either}
use Rattle.shard_core.specs.State.{ShardState, met, ceiling_of, with_part}
use Rattle.shard_core.specs.Ruled.{Ruled, coordinates}
use Rattle.shard_core.specs.Participating as participating
use Rattle.shard_core.specs.Participating.{answers, outcome_if}
use Rattle.shard_core.specs.Coordinating.{unless_coordinated, unless_older, larger_number}
use Rattle.shard_core.specs.Coordinating.{on_recover, recovers}
use Rattle.shard_core.specs.Rules.{ruled, from_router, router_of}
use Rattle.shard_core.specs.Wanting.{wanting, Wanting, told_if, told_memory, may_be_told}
use Rattle.shard_core.specs.Core.{Room, Ample, Scarce, Short, CoreStep, core_step, step_if, stepped}
use Rattle.shard_core.specs.Core.{stays, entered, happened, scarce, running_step, stopped_step}
use Rattle.shard_core.specs.Core.{answer_stopped, says_stopped, gives_out, answer_of}
use Rattle.shard_core.specs.NodeStep.{NodeState, ShardTakes}
use Rattle.world_laws.proofs.Naming.{one}
use Rattle.one_shard_laws.specs.Alone.{IsAlone, EventAlone}
use Rattle.one_shard_laws.proofs.Sessions.{expire_goes, recover_goes}

-- the message, from this node, asks for the release that is told there
abbrev pub AsksRelease : NodeId → Msg → NodeId → Tag → Type 0
AsksRelease from (msg.Commit m) to tag = (m.tag ≡ tag) × (to ≡ from)
AsksRelease from other to tag = ⊥

-- what is told there where this message came from this node
abbrev pub Says : NodeId → Msg → NodeId → Msg → Type 0
Says from m to (msg.Outcome o) =
    (o.shard ≡ 0) × (o.told ≡ told.Released → AsksRelease from m to o.tag)
Says from m to other = Unit {0}

abbrev pub SaysAt : Happening → Envelope → Type 0
SaysAt (what.Deliver e) x = Says e.from e.msg x.to x.msg
SaysAt other x = ⊥

abbrev LetterSays : NodeId → Msg → Letter → Type 0
LetterSays from m l = Says from m l.0 l.1

abbrev Sends : NodeId → Msg → Ruled → Type 0
Sends from m r = All (LetterSays from m) r.out

none_says : (from : NodeId) (m : Msg) → All (LetterSays from m) []
none_says from m = All-nil (LetterSays from m)

not_aborted : {X : Type 0} (why : Cause) → told.Aborted why ≡ told.Released → X
not_aborted why e = cc

not_old : {X : Type 0} (have : _) → told.TooOld have ≡ told.Released → X
not_old have e = cc

not_traced : {X : Type 0} → told.NoTrace ≡ told.Released → X
not_traced e = cc

not_committed : {X : Type 0} (at : ℕ) → told.Committed at ≡ told.Released → X
not_committed at e = cc

-- a recovery is never told a release

abbrev Other : Telling → Type 0
Other t = t.0 ≡ told.Released → ⊥

own_other : (p : Part) (m : Recover) (s : Session) (st : SessionState)
    → Other (recovers_own p m s st)
own_other p m s state.Live = λ e. not_aborted (cause.ClientAbort 3) e
own_other p m s (state.Prepared at coordinator) = λ e. not_traced e
own_other p m s (state.Committed at) = λ e. not_committed at e
own_other p m s state.Released = λ e. not_traced e
own_other p m s (state.Aborted why read_at) = λ e. not_aborted why e

none_other : (p : Part) (m : Recover) → Other (recovers_none p m)
none_other p m =
    either (nat_eq m.boot p.boot) Other _ _ (λ e. not_traced e)
    (λ e. not_aborted (cause.Unavailable m.boot p.boot) e)

session_other : (p : Part) (m : Recover) (s : Option Session) → Other (recovers_session p m s)
session_other p m None = none_other p m
session_other p m (Some s) =
    either (int_lt m.number s.number) Other _ _ (λ e. not_old s.number e)
    (either (same_tag s.tag m.tag) Other _ _ (own_other p m s s.state) (none_other p m))

recover_other : (p : Part) (m : Recover) → Other (recover p m)
unfolding recover
recover_other p m = session_other p m (session p m.lsid)

-- A rule.

abbrev Anyone : Named → Type 0
Anyone x = Unit {0}

module _ (s : ShardState) (own : s.part.shard ≡ 0) (none : s.coord ≡ []) (from : NodeId) where
  answers_say : (p : Part) (m : Statement) (said : Said)
      → Sends from (msg.Statement m) (answers (with_part s p) from m said)
  answers_say p m (Did read_at reply wrote) = one (LetterSays from (msg.Statement m)) _ tt
  answers_say p m (Blocked held) = none_says from (msg.Statement m)
  answers_say p m (Refused why read_at) = one (LetterSays from (msg.Statement m)) _ tt
  answers_say p m Late = none_says from (msg.Statement m)

  outcome_says : (m : Commit) (t : Option Told)
      → All (LetterSays from (msg.Commit m)) (outcome_if s m.tag from t)
  outcome_says m None = none_says from (msg.Commit m)
  outcome_says m (Some t) = one (LetterSays from (msg.Commit m)) _ (own, λ e. (refl, refl))

  coordinated_case : (m : Recover) (router : ℕ) (c : Option Coordinated) (other : Ruled)
      → coordinated_of s.coord m.tag ≡ c → Sends from (msg.Recover m) other
      → Sends from (msg.Recover m) (unless_coordinated s router m.tag c other)
  coordinated_case m router None other is h = h
  coordinated_case m router (Some c) other is h =
      let wrong : None ≡ Some c =
      sym (ap (λ (x : Coordinations). coordinated_of x m.tag) none) ∙ is in
      cc

  older_case : (m : Recover) (router : ℕ) (have : Option _) (other : Ruled)
      → Sends from (msg.Recover m) other
      → Sends from (msg.Recover m) (unless_older s router m.tag have other)
  older_case m router None other h = h
  older_case m router (Some have) other h =
      one (LetterSays from (msg.Recover m)) _ (own, λ e. not_old have e)

  recover_says : (m : Recover) (router : Option ℕ)
      → Sends from (msg.Recover m) (from_router s (λ n. on_recover s n m) router)
  recover_says m None = none_says from (msg.Recover m)
  recover_says m (Some n) =
      older_case m n (larger_number (session s.part m.lsid) m.number)
      (unless_coordinated s n m.tag (coordinated_of s.coord m.tag) (recovers s n m))
      (coordinated_case m n (coordinated_of s.coord m.tag) (recovers s n m) refl
      (one (LetterSays from (msg.Recover m)) _ (
        (recover_goes Anyone s.part m).shard ∙ own,
        λ e. absurd (recover_other s.part m e),
      )))

  resends_say : (m : Msg) → All (LetterSays from m) (resends s.part.shard s.coord)
  resends_say m =
      subst (λ (c : Coordinations). All (LetterSays from m) (resends s.part.shard c)) (sym none)
      (none_says from m)

  ruled_says : (m : Msg) → IsAlone m → Sends from m (ruled s from m)
  ruled_says (msg.Statement m) alone =
      let turn = statement s.part s.clock.last s.wall m in
      either (elsewhere s.part m.lsid m.tag) (Sends from (msg.Statement m)) _ _
      (none_says from (msg.Statement m)) (answers_say turn.1 m turn.0)
  ruled_says (msg.Answer m) alone = none_says from (msg.Answer m)
  ruled_says (msg.Commit m) alone =
      outcome_says m (commit s.part s.clock.last s.wall m).told
  ruled_says (msg.Outcome m) alone = none_says from (msg.Outcome m)
  ruled_says (msg.Abort m) alone =
      either (coordinates s m.tag) (Sends from (msg.Abort m)) _ _
      (none_says from (msg.Abort m)) (none_says from (msg.Abort m))
  ruled_says (msg.CommitTwo m) alone = absurd alone
  ruled_says (msg.Prepare m) alone = absurd alone
  ruled_says (msg.Vote m) alone = absurd alone
  ruled_says (msg.Decide m) alone = absurd alone
  ruled_says (msg.Acked m) alone = absurd alone
  ruled_says (msg.Recover m) alone = recover_says m (router_of from)
  ruled_says msg.Nudge alone = resends_say msg.Nudge

  abbrev WantsSay : Msg → Option Wanting → Type 0
  WantsSay m None = Unit {0}
  WantsSay m (Some w) = LetterSays from m w.letter

  wants_say : (m : Msg) → IsAlone m → WantsSay m (wanting s from m)
  wants_say (msg.Statement m) alone =
      either (elsewhere s.part m.lsid m.tag) (WantsSay (msg.Statement m)) _ _ tt tt
  wants_say (msg.Answer m) alone = tt
  wants_say (msg.Commit m) alone = (own, λ e. not_aborted cause.Memory e)
  wants_say (msg.Outcome m) alone = tt
  wants_say (msg.Abort m) alone = tt
  wants_say (msg.CommitTwo m) alone = absurd alone
  wants_say (msg.Prepare m) alone = absurd alone
  wants_say (msg.Vote m) alone = absurd alone
  wants_say (msg.Decide m) alone = absurd alone
  wants_say (msg.Acked m) alone = absurd alone
  wants_say (msg.Recover m) alone =
      either (is_some (router_of from)) (WantsSay (msg.Recover m)) _ _
      (own, λ e. not_aborted cause.Memory e) tt
  wants_say msg.Nudge alone = tt

-- A step.

abbrev Gives : Happening → CoreStep → Type 0
Gives w o = All (SaysAt w) (given_out o.answer)

none_given : (w : Happening) → All (SaysAt w) []
none_given w = All-nil (SaysAt w)

gives : (x : Envelope) (s : ShardState) (out : List Letter) → All (LetterSays x.from x.msg) out
    → All (SaysAt (what.Deliver x)) (given_out (gives_out s out))
gives x s out h =
    All-map (SaysAt (what.Deliver x)) (sent_by (Shard s.part.shard) s.clock.last) out h

stepped_gives : (x : Envelope) (c : Option ℕ) (r : Ruled) → Sends x.from x.msg r
    → Gives (what.Deliver x) (stepped c r)
stepped_gives x c r h = by r.held
  where
    by : (held : Option Held)
        → All (SaysAt (what.Deliver x)) (given_out (answer_of r.core r.out held))
    by None = gives x r.core r.out h
    by (Some held) = none_given (what.Deliver x)

-- of a shard that runs
module _ (t : ShardState) (own : t.part.shard ≡ 0) (none : t.coord ≡ []) where
  happens : (w : Happening) → EventAlone w → Gives w (happened t w)
  happens (what.Client conn frame) alone = none_given (what.Client conn frame)
  happens (what.Gone conn) alone = none_given (what.Gone conn)
  happens (what.Deliver x) alone =
      stepped_gives x (ceiling_of t x) (ruled (met t x) x.from x.msg)
      (ruled_says (met t x) own none x.from x.msg alone)
  happens what.Resend alone =
      subst (λ (c : Coordinations). All (SaysAt what.Resend)
      (given_out (gives_out t (resends t.part.shard c)))) (sym none) (none_given what.Resend)
  happens what.Moment alone = none_given what.Moment

  abbrev EachGives : Happening → Option CoreStep → Type 0
  EachGives w None = Unit {0}
  EachGives w (Some o) = Gives w o

  told_gives : (x : Envelope) (w : Option Wanting) → WantsSay t own none x.from x.msg w
      → EachGives (what.Deliver x) (option_map (stepped (ceiling_of t x))
      (option_and_then (told_if (met t x)) w))
  told_gives x None h = tt
  told_gives x (Some w) h =
      either (may_be_told (met t x) w) (λ (r : Option Ruled). EachGives (what.Deliver x)
      (option_map (stepped (ceiling_of t x)) r)) (Some (told_memory (met t x) w)) None
      (stepped_gives x (ceiling_of t x) (told_memory (met t x) w)
      (one (LetterSays x.from x.msg) w.letter h)) tt

  scarce_gives : (w : Happening) → EventAlone w → EachGives w (scarce t w)
  scarce_gives (what.Client conn frame) alone = tt
  scarce_gives (what.Gone conn) alone = tt
  scarce_gives (what.Deliver x) alone =
      told_gives x (wanting (met t x) x.from x.msg)
      (wants_say (met t x) own none x.from x.msg alone)
  scarce_gives what.Resend alone = tt
  scarce_gives what.Moment alone = tt

  unless_short : (s : ShardState) (w : Happening) (o : Option CoreStep) → EachGives w o
      → Gives w (unwrap_or o (stays s answer.Memory))
  unless_short s w None h = none_given w
  unless_short s w (Some o) h = h

module _ (s : ShardState) (own : s.part.shard ≡ 0) where
  entered_own : (e : NodeEvent) → (entered s e).part.shard ≡ 0
  entered_own e = (expire_goes Anyone s.part (max s.wall e.wall)).shard ∙ own

  running_gives : s.coord ≡ [] → (room : Room) (e : NodeEvent) → EventAlone e.what
      → Gives e.what (running_step room s e)
  running_gives none Ample e alone = happens (entered s e) (entered_own e) none e.what alone
  running_gives none Scarce e alone =
      unless_short (entered s e) (entered_own e) none s e.what (scarce (entered s e) e.what)
      (scarce_gives (entered s e) (entered_own e) none e.what alone)
  running_gives none Short e alone = none_given e.what

  says_case : (faults : ℕ) (x : Envelope) (m : Msg) → x.msg ≡ m
      → All (SaysAt (what.Deliver x)) (given_out (says_stopped s faults x.from m))
  says_case faults x (msg.Statement m) is =
      let l : Letter = participating.answer s x.from m 0 (Err (cause.Faulted faults)) in
      gives x s (l ∷ []) (one (LetterSays x.from x.msg) l tt)
  says_case faults x other is = none_given (what.Deliver x)

  stopped_gives : (faults : ℕ) (w : Happening) → All (SaysAt w) (given_out (answer_stopped s faults
      w))
  stopped_gives faults (what.Deliver x) = says_case faults x x.msg refl
  stopped_gives faults (what.Client conn frame) = none_given (what.Client conn frame)
  stopped_gives faults (what.Gone conn) = none_given (what.Gone conn)
  stopped_gives faults what.Resend = none_given what.Resend
  stopped_gives faults what.Moment = none_given what.Moment

  stopping_gives : (room : Room) (faults : ℕ) (e : NodeEvent)
      → Gives e.what (stopped_step room s faults e)
  stopping_gives Ample faults e = stopped_gives faults e.what
  stopping_gives Scarce faults e = none_given e.what
  stopping_gives Short faults e = none_given e.what

  by_stopped : (room : Room) (e : NodeEvent) (stopped : Option ℕ)
      → (stopped ≡ None → s.coord ≡ []) → EventAlone e.what
      → Gives e.what (step_if room s e stopped)
  by_stopped room e None none alone = running_gives (none refl) room e alone
  by_stopped room e (Some faults) none alone = stopping_gives room faults e

step_gives : (room : Room) (s : ShardState) (e : NodeEvent) → s.part.shard ≡ 0
    → (s.stopped ≡ None → s.coord ≡ []) → EventAlone e.what → Gives e.what (core_step room s e)
unfolding core_step
step_gives room s e own none alone = by_stopped s own room e s.stopped none alone

pub takes_says : (old : NodeState) (e : NodeEvent) (a : NodeAnswer) (new : NodeState)
    → ShardTakes old e a new → old.core.part.shard ≡ 0
    → (old.core.stopped ≡ None → old.core.coord ≡ []) → EventAlone e.what
    → All (SaysAt e.what) (given_out a)
takes_says old e a new h own none alone =
    elim (h.1) [
      | inl d ↦ subst (λ (x : NodeAnswer). All (SaysAt e.what) (given_out x)) (sym d.told)
          (step_gives h.0 old.core e own none alone)
      | inr d ↦ subst (λ (x : NodeAnswer). All (SaysAt e.what) (given_out x)) (sym d.told)
          (none_given e.what)
    ]
