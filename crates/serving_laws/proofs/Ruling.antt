-- What holds of a shard's part after the rule of each message.
use Rattle.std.proofs.Common.{◌≡◌, ◌⊎◌, inl, inr, ◌≤◌, ℕ, ℤ, List, [], ◌∷◌, All, Option, Some, None}
use Rattle.std.proofs.Common.{Result, Ok, Err, refl, sym, nat_eq}
use Rattle.std.proofs.lemmas.List.Elements.{All-nil, All-append, All-weaker}
use Rattle.txn_types.specs.Letters.{Letter}
use Rattle.txn_types.specs.Order.{same_tag}
use Rattle.txn_types.specs.declared.cause.Cause.{Cause}
use Rattle.txn_types.specs.declared.cause.Cause.TheVariants as cause
use Rattle.txn_types.specs.declared.decision.Decision.{Decision}
use Rattle.txn_types.specs.declared.decision.Told.{Told}
use Rattle.txn_types.specs.declared.decision.Told.TheVariants as told
use Rattle.txn_types.specs.declared.message.Statement.{Statement}
use Rattle.txn_types.specs.declared.message.CommitTwo.{CommitTwo}
use Rattle.txn_types.specs.declared.message.Prepare.{Prepare}
use Rattle.txn_types.specs.declared.message.Vote.{Vote}
use Rattle.txn_types.specs.declared.message.Acked.{Acked}
use Rattle.txn_types.specs.declared.message.Msg.{Msg}
use Rattle.txn_types.specs.declared.message.Msg.TheVariants as msg
use Rattle.txn_types.specs.declared.names.Tag.{Tag}
use Rattle.txn_types.specs.declared.node.NodeId.{NodeId}
use Rattle.txn_semantics.specs.declared.commits.Entry.{Entry}
use Rattle.session_table.specs.declared.session.Session.{Session}
use Rattle.session_table.specs.declared.session.SessionState.{SessionState}
use Rattle.session_table.specs.declared.session.SessionState.TheVariants as state
use Rattle.version_store.specs.declared.version.Held.{Held}
use Rattle.journal_rec.specs.declared.record.Decided.{Decided}
use Rattle.journal_rec.specs.declared.record.Rec.{Rec}
use Rattle.journal_rec.specs.declared.record.Rec.TheVariants as rec
use Rattle.coordinator.specs.TwoPhase.{Coordinated, Coordinations, coordinated_of, decided_by}
use Rattle.coordinator.specs.TwoPhase.{is_last_ack, prepare_to, decide_to, resends, resends_by}
use Rattle.participant.specs.declared.said.Said.{Said}
use Rattle.participant.specs.declared.said.Said.TheVariants.{Did, Blocked, Refused, Late}
use Rattle.participant.specs.Part.{Part, session, elsewhere, aborted}
use Rattle.participant.specs.Statement.{Turn, statement}
use Rattle.participant.specs.Commit.{commit}
use Rattle.participant.specs.Prepare.{prepare}
use Rattle.participant.specs.Decide.{decide}
use Rattle.participant.proofs.Cases.{either}
use Rattle.participant.proofs.Following.{either_is}
use Rattle.part_laws.specs.Sound.{Opens, Served}
use Rattle.part_laws.specs.Parts.{IsServing, Holds}
use Rattle.part_laws.specs.Turned.{IsOf, IsTold, IsRefused, IsRefusedAs, IsAnswered, NoneBegins}
use Rattle.part_laws.specs.Turned.{IsAnew, LivesFor, Turned}
use Rattle.part_laws.proofs.Messages.{same_holds, abort_live, abort_holds, recover_holds}
use Rattle.part_laws.proofs.Messages.{commit_holds, prepare_holds, decide_holds}
use Rattle.shard_core.specs.State.{ShardState, with_part, read_at_of}
use Rattle.shard_core.specs.Ruled.{Ruled, quiet, coordinates, outcome}
use Rattle.shard_core.specs.Participating as participating
use Rattle.shard_core.specs.Participating.{answers, said_to, outcome_if, vote_if, decided_record}
use Rattle.shard_core.specs.Coordinating.{asks, tells, starts, plan_of, told_of, unless_coordinated}
use Rattle.shard_core.specs.Coordinating.{unless_older, unless_known, larger_number, starts_own}
use Rattle.shard_core.specs.Coordinating.{starts_new, votes_on, votes_if, acks_if, on_commit_two}
use Rattle.shard_core.specs.Coordinating.{on_recover, recovers}
use Rattle.shard_core.specs.Rules.{ruled, from_router, router_of}
use Rattle.serving_laws.specs.Coming.{MsgComes}
use Rattle.serving_laws.specs.Telling.{TellsRefusal, AnswersTo, IsToldBy}
use Rattle.serving_laws.specs.Left.{NoneButCoord, NoneButDecided, LeftBy}
use Rattle.serving_laws.proofs.Turning.{new_turns}
use Rattle.serving_laws.proofs.Ending.{none_same, gone, commit_none, prepare_none, decide_none}
use Rattle.serving_laws.proofs.Ending.{abort_none, recover_none}
use Rattle.serving_laws.proofs.Lists.{nothing, one, each}

-- What a rule leaves, and what its letters tell.

abbrev pub InTold : List Served → Letter → Type 0
InTold told l = IsToldBy told l.1

-- at most one statement is served, and its Answer is all that is sent
abbrev pub GrowsAs : Part → Part → Msg → List Served → List Served → List Letter
    → Option Held → Type 0
GrowsAs p q (msg.Statement m) served told out held = ((told ≡ served) × NoneBegins p q)
    ⊎ ((x : Served) × (told ≡ x ∷ served) × IsOf m x × (x.life ≡ q.boot) × IsAnew p m x.read_at
    × LivesFor p q m.lsid x × (held ≡ None) × ((l : Letter) × (out ≡ l ∷ []) × AnswersTo x l.1))
GrowsAs p q other served told out held = (told ≡ served) × NoneBegins p q

pub record RuleServes (before : Part) (old : Opens) (last : ℕ) (entries : List Entry)
    (served : List Served) (m : Msg) (r : Ruled) : Type 0 where
  pub told : List Served
  pub left : LeftBy old r.core.part last r.core.clock.last entries told m r.rec
  pub grows : GrowsAs before r.core.part m served told r.out r.held
  pub out : All (InTold told) r.out

-- what tells nothing of a statement
abbrev IsSilentMsg : Msg → Type 0
IsSilentMsg (msg.Answer a) = ⊥
IsSilentMsg other = Unit {0}

abbrev pub IsSilent : Letter → Type 0
IsSilent l = IsSilentMsg l.1

silent_case : (told : List Served) (m : Msg) → IsSilentMsg m → IsToldBy told m
silent_case told (msg.Answer a) h = absurd h
silent_case told (msg.Statement m) h = tt
silent_case told (msg.Commit m) h = tt
silent_case told (msg.Outcome m) h = tt
silent_case told (msg.Abort m) h = tt
silent_case told (msg.CommitTwo m) h = tt
silent_case told (msg.Prepare m) h = tt
silent_case told (msg.Vote m) h = tt
silent_case told (msg.Decide m) h = tt
silent_case told (msg.Acked m) h = tt
silent_case told (msg.Recover m) h = tt
silent_case told msg.Nudge h = tt

silent_out : (told : List Served) (out : List Letter) → All IsSilent out → All (InTold told) out
silent_out told out h = All-weaker IsSilent (InTold told) (λ l k. silent_case told l.1 k) out h

resends_by_silent : (own : ℕ) (tag : Tag) (c : Coordinated) (d : Option Decision)
    → All IsSilent (resends_by own tag c d)
resends_by_silent own tag c None = each IsSilent (prepare_to own tag c.plan) _ (λ x. tt)
resends_by_silent own tag c (Some d) = each IsSilent (decide_to tag c.plan d) _ (λ x. tt)

pub resends_silent : (own : ℕ) (coords : Coordinations) → All IsSilent (resends own coords)
resends_silent own [] = All-nil IsSilent
resends_silent own (entry ∷ coords) =
    All-append IsSilent (resends_by own entry.0 entry.1 entry.1.decision) (resends own coords)
    (resends_by_silent own entry.0 entry.1 entry.1.decision) (resends_silent own coords)

pub told_resends : (told : List Served) (own : ℕ) (coords : Coordinations)
    → All (InTold told) (resends own coords)
told_resends told own coords = silent_out told (resends own coords) (resends_silent own coords)

outcome_silent : (s : ShardState) (tag : Tag) (to : NodeId) (t : Option Told)
    → All IsSilent (outcome_if s tag to t)
outcome_silent s tag to None = nothing IsSilent
outcome_silent s tag to (Some t) = one IsSilent (outcome s tag t to) tt

vote_silent : (s : ShardState) (m : Prepare) (v : Option (Result ℕ Cause))
    → All IsSilent (vote_if s m v)
vote_silent s m None = nothing IsSilent
vote_silent s m (Some v) = one IsSilent _ tt

only_decided : (d : Option Decided) → NoneButDecided (decided_record d)
only_decided None = tt
only_decided (Some d) = tt

-- Answers.

answers_refusal : (m : Statement) (x : Served) (why : Cause) (at : ℕ) → IsRefused why at x
    → (at ≡ x.read_at) × TellsRefusal x.meaning why
answers_refusal m x (cause.Statement err) at h = (sym h.0, h.1)
answers_refusal m x (cause.WriteConflict id by) at h = absurd h
answers_refusal m x other at h = absurd h

refused_there : (s : ShardState) (to : NodeId) (m : Statement) (told : List Served) (why : Cause)
    (at : ℕ) → IsRefusedAs s.part.boot told m why at
    → InTold told (participating.answer s to m at (Err why))
refused_there s to m told (cause.Statement err) at h = h
refused_there s to m told other at h = tt

module _ (s : ShardState) (to : NodeId) (m : Statement) (opens : Opens) (entries : List Entry)
    (served : List Served) where
  grown : (before : Part) (told : List Served) (said : Said) → ((told ≡ served)
      × NoneBegins before s.part) ⊎ ((x : Served) × (told ≡ x ∷ served) × IsOf m x
      × (x.life ≡ s.part.boot) × IsTold said x × IsAnew before m x.read_at
      × LivesFor before s.part m.lsid x)
      → GrowsAs before (answers s to m said).core.part (msg.Statement m) served told
      (answers s to m said).out (answers s to m said).held
  grown before told (Did at reply wrote) (inl h) = inl h
  grown before told (Blocked held) (inl h) = inl h
  grown before told (Refused why at) (inl h) = inl h
  grown before told Late (inl h) = inl h
  grown before told (Did at reply wrote) (inr h) =
      inr (
        h.0,
        h.1,
        h.2,
        h.3,
        h.5,
        h.6,
        refl,
        (
          participating.answer s to m at (Ok (reply, wrote)),
          refl,
          record { tag = sym h.2.0; k = sym h.2.1; read_at = sym h.4.0; outcome = h.4.1 },
        ),
      )
  grown before told (Blocked held) (inr h) = absurd h.4
  grown before told (Refused why at) (inr h) =
      let r = answers_refusal m h.0 why at h.4 in
      inr (
        h.0,
        h.1,
        h.2,
        h.3,
        h.5,
        h.6,
        refl,
        (
          participating.answer s to m at (Err why),
          refl,
          record { tag = sym h.2.0; k = sym h.2.1; read_at = r.0; outcome = r.1 },
        ),
      )
  grown before told Late (inr h) = absurd h.4

  told_out : (told : List Served) (said : Said) → IsAnswered s.part.boot told m said
      → All (InTold told) (answers s to m said).out
  told_out told (Did at reply wrote) h = one (InTold told) _ h
  told_out told (Blocked held) h = nothing (InTold told)
  told_out told (Refused why at) h = one (InTold told) _ (refused_there s to m told why at h)
  told_out told Late h = nothing (InTold told)

  same_core : (told : List Served) (said : Said) → Holds opens s.part s.clock.last entries told
      → LeftBy opens (answers s to m said).core.part s.clock.last (answers s to m
      said).core.clock.last entries told (msg.Statement m) (answers s to m said).rec
  same_core told (Did at reply wrote) h = (h, tt)
  same_core told (Blocked held) h = (h, tt)
  same_core told (Refused why at) h = (h, tt)
  same_core told Late h = (h, tt)

turn_serves : (s : ShardState) (to : NodeId) (m : Statement) (opens : Opens) (entries : List Entry)
    (served : List Served) (turn : Turn) → Turned s.part opens s.clock.last entries served m turn
    → RuleServes s.part opens s.clock.last entries served (msg.Statement m) (said_to s to m turn)
turn_serves s to m opens entries served turn t =
    let then : ShardState = with_part s turn.1 in
    record {
      told = t.told;
      left = same_core then to m opens entries served t.told turn.0 t.holds;
      grows = grown then to m opens entries served s.part t.told turn.0 t.grows;
      out = told_out then to m opens entries served t.told turn.0 t.answered;
    }

-- The other messages.

module _ (s : ShardState) (opens : Opens) (entries : List Entry) (served : List Served)
    (part : IsServing s.part opens s.clock.last entries served) where
  -- the commits stay, and what is prepared; what is sent is no Answer
  record Rests (r : Ruled) : Type 0 where
    holds : Holds opens r.core.part r.core.clock.last entries served
    recorded : NoneButCoord r.rec
    none : NoneBegins s.part r.core.part
    out : All IsSilent r.out

  same : Holds opens s.part s.clock.last entries served
  same = same_holds s.part s.clock.last entries served opens part

  quiet_rests : Rests (quiet s)
  quiet_rests =
      record { holds = same; recorded = tt; none = none_same s.part; out = nothing IsSilent }

  tells_rests : (router : ℕ) (tag : Tag) (t : Told) → Rests (tells s router tag t)
  tells_rests router tag t =
      record { holds = same; recorded = tt; none = none_same s.part; out = one IsSilent _ tt }

  asks_rests : (router : ℕ) (tag : Tag) (c : Coordinated) (d : Option Decision)
      → Rests (asks s router tag c d)
  asks_rests router tag c None =
      record { holds = same; recorded = tt; none = none_same s.part; out = nothing IsSilent }
  asks_rests router tag c (Some d) = tells_rests router tag (told_of d)

  coordinated_rests : (router : ℕ) (tag : Tag) (c : Option Coordinated) (other : Ruled)
      → Rests other → Rests (unless_coordinated s router tag c other)
  coordinated_rests router tag None other h = h
  coordinated_rests router tag (Some c) other h = asks_rests router tag c c.decision

  older_rests : (router : ℕ) (tag : Tag) (have : Option ℤ) (other : Ruled) → Rests other
      → Rests (unless_older s router tag have other)
  older_rests router tag None other h = h
  older_rests router tag (Some have) other h = tells_rests router tag _

  known_rests : (router : ℕ) (tag : Tag) (own : Option Session) (number : ℤ) (other : Ruled)
      → Rests other → Rests (unless_known s router tag own number other)
  known_rests router tag own number other h =
      older_rests router tag (larger_number own number)
      (unless_coordinated s router tag (coordinated_of s.coord tag) other)
      (coordinated_rests router tag (coordinated_of s.coord tag) other h)

  starts_rests : (router : ℕ) (m : CommitTwo) → Rests (starts s router m)
  starts_rests router m = record {
    holds = same;
    recorded = tt;
    none = none_same s.part;
    out = each IsSilent (prepare_to s.part.shard m.tag (plan_of m)) m.parts (λ x. tt);
  }

  fails_rests : (router : ℕ) (m : CommitTwo) (own : Session) → session s.part m.lsid ≡ Some own
      → own.state ≡ state.Live
      → Rests (tells (with_part s (aborted s.part m.lsid own (cause.Unavailable m.boot
      s.part.boot))) router m.tag (told.Aborted (cause.Unavailable m.boot s.part.boot)))
  fails_rests router m own is live =
      record {
        holds = abort_live s.part s.clock.last entries served opens part m.lsid own
            (cause.Unavailable m.boot s.part.boot) (λ err h. cc) is live;
        recorded = tt;
        none = gone s.part part.rises m.lsid;
        out = one IsSilent _ tt;
      }

  own_rests : (router : ℕ) (m : CommitTwo) (own : Session) (st : SessionState)
      → session s.part m.lsid ≡ Some own → own.state ≡ st → Rests (starts_own s router m own st)
  own_rests router m own state.Live is at = either (nat_eq m.boot s.part.boot) Rests _ _
      (starts_rests router m) (fails_rests router m own is at)
  own_rests router m own (state.Prepared at coordinator) is st = quiet_rests
  own_rests router m own (state.Committed at) is st = tells_rests router m.tag _
  own_rests router m own state.Released is st = quiet_rests
  own_rests router m own (state.Aborted why read_at) is st = tells_rests router m.tag _

  new_rests : (router : ℕ) (m : CommitTwo) (own : Option Session) → session s.part m.lsid ≡ own
      → Rests (starts_new s router m own)
  new_rests router m None is = tells_rests router m.tag _
  new_rests router m (Some own) is = either (same_tag own.tag m.tag) Rests _ _ (own_rests router m
      own own.state is refl) (tells_rests router m.tag _)

  votes_on_rests : (m : Vote) (c : Coordinated) (d : Option Decision) → Rests (votes_on s m c d)
  votes_on_rests m c None =
      record { holds = same; recorded = tt; none = none_same s.part; out = nothing IsSilent }
  votes_on_rests m c (Some d) =
      record {
        holds = same;
        recorded = tt;
        none = none_same s.part;
        out = All-append IsSilent _ _ (each IsSilent _ c.askers (λ x. tt)) (each IsSilent
            (decide_to m.tag c.plan d) c.plan.parts (λ x. tt));
      }

  votes_rests : (m : Vote) (c : Option Coordinated) → Rests (votes_if s m c)
  votes_rests m None = quiet_rests
  votes_rests m (Some c) = votes_on_rests m c (decided_by m.shard m.vote c)

  acks_rests : (m : Acked) (c : Option Coordinated) → Rests (acks_if s m c)
  acks_rests m None = quiet_rests
  acks_rests m (Some c) = record {
    holds = same;
    recorded = either (is_last_ack m.shard c) NoneButCoord (Some (rec.CoordEnd m.tag)) None tt tt;
    none = none_same s.part;
    out = nothing IsSilent;
  }

  router_rests : (rule : ℕ → Ruled) (router : Option ℕ) → ((n : ℕ) → Rests (rule n))
      → Rests (from_router s rule router)
  router_rests rule None h = quiet_rests
  router_rests rule (Some n) h = h n

  rests : (m : Msg) (r : Ruled) → ((told : List Served) (out : List Letter) (held : Option Held)
      → (told ≡ served) × NoneBegins s.part r.core.part
      → GrowsAs s.part r.core.part m served told out held)
      → ((q : Part) (later : ℕ) (recorded : Option Rec) → Holds opens q later entries served
      → NoneButCoord recorded → LeftBy opens q s.clock.last later entries served m recorded)
      → Rests r → RuleServes s.part opens s.clock.last entries served m r
  rests m r grows left h = record {
    told = served;
    left = left r.core.part r.core.clock.last r.rec h.holds h.recorded;
    grows = grows served r.out r.held (refl, h.none);
    out = silent_out served r.out h.out;
  }

  pub rule_serves : (from : NodeId) (m : Msg) → read_at_of m ≤ s.clock.last
      → MsgComes s.part opens entries served m
      → RuleServes s.part opens s.clock.last entries served m (ruled s from m)
  rule_serves from (msg.Statement m) reads comes =
      either_is (elsewhere s.part m.lsid m.tag)
      (RuleServes s.part opens s.clock.last entries served (msg.Statement m)) _ _
      (λ there. record {
        told = served;
        left = (same, tt);
        grows = inl (refl, λ lsid o there. there);
        out = nothing (InTold served);
      })
      (λ alone. turn_serves s from m opens entries served (statement s.part s.clock.last s.wall m)
      (new_turns s.part opens s.clock.last entries served part m reads alone comes s.wall))
  rule_serves from (msg.Answer m) reads comes = rests (msg.Answer m) (quiet s) (λ told out held h.
      h) (λ q later recorded h k. (h, k)) quiet_rests
  rule_serves from (msg.Commit m) reads comes =
      record {
        told = served;
        left = commit_holds s.part s.clock.last entries served opens part s.wall m;
        grows = (refl, commit_none s.part part.rises s.clock.last s.wall m);
        out = silent_out served _ (outcome_silent s m.tag from
            (commit s.part s.clock.last s.wall m).told);
      }
  rule_serves from (msg.Outcome m) reads comes = rests (msg.Outcome m) (quiet s) (λ told out held h.
      h) (λ q later recorded h k. (h, k)) quiet_rests
  rule_serves from (msg.Abort m) reads comes =
      rests (msg.Abort m) _ (λ told out held h. h) (λ q later recorded h k. (h, k))
      (either (coordinates s m.tag) Rests _ _ quiet_rests (record {
        holds = abort_holds s.part s.clock.last entries served opens part m;
        recorded = tt;
        none = abort_none s.part part.rises m;
        out = nothing IsSilent;
      }))
  rule_serves from (msg.CommitTwo m) reads comes =
      rests (msg.CommitTwo m) _ (λ told out held h. h) (λ q later recorded h k. (h, k))
      (router_rests (λ router. on_commit_two s router m) (router_of from)
      (λ router. known_rests router m.tag (session s.part m.lsid) m.number _
      (new_rests router m (session s.part m.lsid) refl)))
  rule_serves from (msg.Prepare m) reads comes =
      record {
        told = served;
        left = prepare_holds s.part s.clock.last entries served opens part s.wall m;
        grows = (refl, prepare_none s.part part.rises s.clock.last s.wall m);
        out = silent_out served _ (vote_silent s m (prepare s.part s.clock.last s.wall m).told);
      }
  rule_serves from (msg.Vote m) reads comes = rests (msg.Vote m) _ (λ told out held h.
      h) (λ q later recorded h k. (h, k)) (votes_rests m (coordinated_of s.coord m.tag))
  rule_serves from (msg.Decide m) reads comes =
      record {
        told = served;
        left = (
          decide_holds s.part s.clock.last entries served opens part m comes,
          only_decided (decide s.part m).0,
        );
        grows = (refl, decide_none s.part part.rises m);
        out = one (InTold served) _ tt;
      }
  rule_serves from (msg.Acked m) reads comes = rests (msg.Acked m) _ (λ told out held h.
      h) (λ q later recorded h k. (h, k)) (acks_rests m (coordinated_of s.coord m.tag))
  rule_serves from (msg.Recover m) reads comes =
      rests (msg.Recover m) _ (λ told out held h. h) (λ q later recorded h k. (h, k))
      (router_rests (λ router. on_recover s router m) (router_of from)
      (λ router. known_rests router m.tag (session s.part m.lsid) m.number
      (recovers s router m) (record {
        holds = recover_holds s.part s.clock.last entries served opens part m;
        recorded = tt;
        none = recover_none s.part part.rises m;
        out = one IsSilent _ tt;
      })))
  rule_serves from msg.Nudge reads comes =
      rests msg.Nudge _ (λ told out held h. h) (λ q later recorded h k. (h, k))
      (record {
        holds = same;
        recorded = tt;
        none = none_same s.part;
        out = resends_silent s.part.shard s.coord;
      })
