-- A shard's step: which sessions it leaves aborted, and which causes it tells.
use Rattle.std.proofs.Common.{◌≡◌, ◌⊎◌, inl, inr, ◌∙◌, ℕ, ℤ, Bool, true, false, max, All, Contains}
use Rattle.std.proofs.Common.{List, [], ◌∷◌, map, Option, Some, None, option_map, option_and_then}
use Rattle.std.proofs.Common.{unwrap_or, IfSome, is_some, Result, Ok, Err, refl, sym, ap, subst}
use Rattle.std.proofs.Common.{nat_eq, if◌then◌else◌}
use Rattle.std.proofs.lemmas.List.Elements.{All-nil, All-append, All-map, All-weaker}
use Rattle.txn_types.specs.Letters.{Letter, sent_by, given_out}
use Rattle.txn_types.specs.Order.{same_tag}
use Rattle.txn_types.specs.declared.cause.Cause.{Cause}
use Rattle.txn_types.specs.declared.cause.Cause.TheVariants as cause
use Rattle.txn_types.specs.declared.decision.Decision.{Decision}
use Rattle.txn_types.specs.declared.decision.Decision.TheVariants as decision
use Rattle.txn_types.specs.declared.decision.Told.{Told}
use Rattle.txn_types.specs.declared.decision.Told.TheVariants as told
use Rattle.txn_types.specs.declared.event.Happening.{Happening}
use Rattle.txn_types.specs.declared.event.Happening.TheVariants as what
use Rattle.txn_types.specs.declared.event.NodeAnswer.{NodeAnswer}
use Rattle.txn_types.specs.declared.event.NodeAnswer.TheVariants as answer
use Rattle.txn_types.specs.declared.event.NodeEvent.{NodeEvent}
use Rattle.txn_types.specs.declared.message.CommitTwo.{CommitTwo}
use Rattle.txn_types.specs.declared.message.Envelope.{Envelope}
use Rattle.txn_types.specs.declared.message.Msg.{Msg}
use Rattle.txn_types.specs.declared.message.Msg.TheVariants as msg
use Rattle.txn_types.specs.declared.message.Prepare.{Prepare}
use Rattle.txn_types.specs.declared.message.Statement.{Statement}
use Rattle.txn_types.specs.declared.message.Vote.{Vote}
use Rattle.txn_types.specs.declared.message.Acked.{Acked}
use Rattle.txn_types.specs.declared.names.Tag.{Tag}
use Rattle.txn_types.specs.declared.node.Lsid.{Lsid}
use Rattle.txn_types.specs.declared.node.NodeId.{NodeId}
use Rattle.txn_types.specs.declared.node.NodeId.TheVariants.{Shard}
use Rattle.session_table.specs.declared.session.Session.{Session}
use Rattle.session_table.specs.declared.session.SessionState.{SessionState}
use Rattle.session_table.specs.declared.session.SessionState.TheVariants as state
use Rattle.version_store.specs.declared.version.Held.{Held}
use Rattle.coordinator.specs.declared.plan.Plan.{Plan}
use Rattle.coordinator.specs.TwoPhase.{Coordinated, Coordinations, coordinated_of, decided_by}
use Rattle.coordinator.specs.TwoPhase.{prepare_to, decide_to, resends, resends_by}
use Rattle.participant.specs.declared.said.Said.TheVariants.{Did, Blocked, Refused, Late}
use Rattle.participant.specs.Part.{Part, session, elsewhere}
use Rattle.participant.specs.Abort.{abort}
use Rattle.participant.specs.Commit.{commit}
use Rattle.participant.specs.Recover.{recover}
use Rattle.participant.specs.Statement.{statement, Turn}
use Rattle.participant.proofs.Cases.{either}
use Rattle.participant.proofs.Tags.{tag_same}
use Rattle.shard_core.specs.State.{ShardState, met, ceiling_of, with_part}
use Rattle.shard_core.specs.Ruled.{Ruled, quiet, coordinates, outcome}
use Rattle.shard_core.specs.Participating as participating
use Rattle.shard_core.specs.Participating.{answers, outcome_if, vote_if}
use Rattle.shard_core.specs.Coordinating.{asks, tells, starts, fails, is_lost, plan_of, told_of}
use Rattle.shard_core.specs.Coordinating.{unless_coordinated, unless_older, unless_known}
use Rattle.shard_core.specs.Coordinating.{larger_number, starts_own, starts_new, votes_on, votes_if}
use Rattle.shard_core.specs.Coordinating.{acks_if, on_commit_two, on_recover, recovers}
use Rattle.shard_core.specs.Rules.{ruled, from_router, router_of}
use Rattle.shard_core.specs.Wanting.{wanting, Wanting, told_if, told_memory, may_be_told}
use Rattle.shard_core.specs.Core.{Room, Ample, Scarce, Short, CoreStep, core_step, step_if, stepped}
use Rattle.shard_core.specs.Core.{stays, entered, happened, scarce, running_step, stopped_step}
use Rattle.shard_core.specs.Core.{answer_stopped, says_stopped, answer_of}
use Rattle.cluster_core.specs.Causes.{is_aborted, Names}
use Rattle.world_laws.proofs.Naming.{one, each}
use Rattle.world_laws.proofs.Numbers.{expire_same, statement_same, recover_same}
use Rattle.answer_laws.proofs.Lists.{has_first}
use Rattle.told_laws.proofs.Lists.{has_map}
use Rattle.making_laws.specs.News.{is_free}
use Rattle.making_laws.proofs.Leaving.{Leaves, LivesStand, rests}
use Rattle.making_laws.proofs.Leaving.{aborted_leaves}
use Rattle.making_laws.proofs.Turns.{ToldAs, Fresh, AllKept, Stated, TurnLeaves, IsUnended}
use Rattle.making_laws.proofs.Turns.{no_session, other_tag, not_ended, unended_told, unkept}
use Rattle.making_laws.proofs.Turns.{statement_leaves}
use Rattle.making_laws.proofs.Ending.{NoneStated, Rule, IsToldAs, memory_leaves, abort_leaves}
use Rattle.making_laws.proofs.Ending.{recover_leaves, decide_leaves, commit_leaves, prepare_leaves}
use Rattle.making_laws.proofs.Expiring.{Expires, expire_left, told_before, kept_then, leaves_before}

-- What is told of a transaction: by the session that the message names, or by what is coordinated.

pub record Named (p : Part) (m : Msg) (tag : Tag) (why : Cause) : Type 0 where
  pub lsid : Lsid
  pub number : ℤ
  pub names : Names tag lsid number m
  pub told : ToldAs p lsid tag why

pub record Planned (coords : Coordinations) (tag : Tag) (why : Cause) : Type 0 where
  pub free : is_free why ≡ true
  pub c : Coordinated
  pub there : coordinated_of coords tag ≡ Some c

abbrev pub Subject : Part → Coordinations → Msg → Tag → Cause → Type 0
Subject p coords m tag why = Named p m tag why ⊎ Planned coords tag why

-- of a shard's messages
abbrev pub IfRefused : {A : Type 0} → Result A Cause → (Cause → Type 0) → Type 0
IfRefused (Ok a) P = Unit {0}
IfRefused (Err why) P = P why

abbrev pub IfAborted : Told → (Cause → Type 0) → Type 0
IfAborted (told.Aborted why) P = P why
IfAborted other P = Unit {0}

abbrev pub MsgTold : ℕ → (Tag → Cause → Type 0) → Msg → Type 0
MsgTold shard S (msg.Answer a) = (a.shard ≡ shard) × IfRefused a.outcome (S a.tag)
MsgTold shard S (msg.Outcome o) = (o.shard ≡ shard) × IfAborted o.told (S o.tag)
MsgTold shard S other = Unit {0}

abbrev pub LetterTold : ℕ → (Tag → Cause → Type 0) → Letter → Type 0
LetterTold shard S l = MsgTold shard S l.1

-- an Answer tells this cause of the transaction
abbrev pub Answers : Tag → Cause → Msg → Type 0
Answers tag why (msg.Answer a) = (a.tag ≡ tag) × (a.outcome ≡ Err why)
Answers tag why other = ⊥

-- a refusal is told, of a session that is aborted by it
pub record StatedIn (r : Ruled) (lsid : Lsid) (new : Session) (why : Cause) : Type 0 where
  pub none : r.held ≡ None
  pub letter : Letter
  pub among : Contains r.out letter
  pub tells : Answers new.tag why letter.1

pub record RuledTold (s : ShardState) (m : Msg) (r : Ruled) : Type 0 where
  pub leaves : Leaves (StatedIn r) s.part r.core.part
  pub out : All (LetterTold s.part.shard (Subject s.part s.coord m)) r.out

more_stated : (T U : Lsid → Session → Cause → Type 0) (p q : Part)
    → ((lsid : Lsid) (new : Session) (why : Cause) → T lsid new why → U lsid new why)
    → Leaves T p q → Leaves U p q
more_stated T U p q f h = record {
  aborts = λ lsid new why at there ended.
      elim (h.aborts lsid new why at there ended)
      [ inl old ↦ inl old | inr t ↦ inr (f lsid new why t.0, t.1) ];
  lives = h.lives;
}

none_so : (r : Ruled) (p q : Part) → Rule p q → Leaves (StatedIn r) p q
none_so r p q h = more_stated NoneStated (StatedIn r) p q (λ lsid new why t. absurd t) h

-- What is asked of participants tells nothing.

module _ (shard : ℕ) (S : Tag → Cause → Type 0) where
  prepares_out : (own : ℕ) (tag : Tag) (plan : Plan) (parts : List (ℕ × ℕ))
      → All (LetterTold shard S) (map (prepare_to own tag plan) parts)
  prepares_out own tag plan parts =
      each (LetterTold shard S) (prepare_to own tag plan) parts (λ x. tt)

  decides_out : (tag : Tag) (plan : Plan) (d : Decision) (parts : List (ℕ × ℕ))
      → All (LetterTold shard S) (map (decide_to tag plan d) parts)
  decides_out tag plan d parts =
      each (LetterTold shard S) (decide_to tag plan d) parts (λ x. tt)

  resends_one : (own : ℕ) (tag : Tag) (c : Coordinated) (d : Option Decision)
      → All (LetterTold shard S) (resends_by own tag c d)
  resends_one own tag c None = prepares_out own tag c.plan _
  resends_one own tag c (Some d) = decides_out tag c.plan d _

  resends_all : (own : ℕ) (coords : Coordinations) → All (LetterTold shard S) (resends own coords)
  resends_all own [] = All-nil (LetterTold shard S)
  resends_all own (entry ∷ coords) =
      All-append (LetterTold shard S) (resends_by own entry.0 entry.1 entry.1.decision)
      (resends own coords) (resends_one own entry.0 entry.1 entry.1.decision)
      (resends_all own coords)

module _ (s : ShardState) (m : Msg) where
  abbrev S : Tag → Cause → Type 0
  S = Subject s.part s.coord m

  abbrev L : Letter → Type 0
  L = LetterTold s.part.shard S

  none : All L []
  none = All-nil L

  -- by a rule of the part, with these letters
  by_rule : (r : Ruled) → Rule s.part r.core.part → All L r.out → RuledTold s m r
  by_rule r h out = record { leaves = none_so r s.part r.core.part h; out = out }

  rests_rule : (r : Ruled) → r.core.part ≡ s.part → All L r.out → RuledTold s m r
  rests_rule r same out = by_rule r
      (subst (Rule s.part) (sym same) (rests NoneStated s.part)) out

  quiet_rule : RuledTold s m (quiet s)
  quiet_rule = rests_rule (quiet s) refl none

  -- an outcome of the transaction that the message names
  named_outcome : (lsid : Lsid) (number : ℤ) (tag : Tag) (t : Told) → Names tag lsid number m
      → IsToldAs s.part lsid tag t → IfAborted t (S tag)
  named_outcome lsid number tag (told.Aborted why) names h = inl (record {
    lsid = lsid;
    number = number;
    names = names;
    told = h;
  })
  named_outcome lsid number tag (told.Committed at) names h = tt
  named_outcome lsid number tag told.Released names h = tt
  named_outcome lsid number tag (told.TooOld have) names h = tt
  named_outcome lsid number tag told.NoTrace names h = tt

  outcome_out : (tag : Tag) (to : NodeId) (t : Told) → IfAborted t (S tag)
      → All L (outcome s tag t to ∷ [])
  outcome_out tag to t h = one L (outcome s tag t to) (refl, h)

  if_out : (tag : Tag) (to : NodeId) (t : Option Told) → IfSome t (λ t. IfAborted t (S tag))
      → All L (outcome_if s tag to t)
  if_out tag to None h = none
  if_out tag to (Some t) h = outcome_out tag to t h

  -- of a decision
  free_decision : (tag : Tag) (c : Coordinated) (d : Decision) → coordinated_of s.coord tag ≡ Some c
      → IfAborted (told_of d) (S tag)
  free_decision tag c (decision.Commit at) there = tt
  free_decision tag c (decision.Abort shard code) there =
      inr (record { free = refl; c = c; there = there })

  asks_rule : (router : ℕ) (tag : Tag) (c : Coordinated) (d : Option Decision)
      → coordinated_of s.coord tag ≡ Some c → RuledTold s m (asks s router tag c d)
  asks_rule router tag c None there = rests_rule (asks s router tag c None) refl none
  asks_rule router tag c (Some d) there = rests_rule (asks s router tag c (Some d)) refl
      (outcome_out tag _ (told_of d) (free_decision tag c d there))

  coordinated_rule : (router : ℕ) (tag : Tag) (c : Option Coordinated) (other : Ruled)
      → coordinated_of s.coord tag ≡ c → RuledTold s m other
      → RuledTold s m (unless_coordinated s router tag c other)
  coordinated_rule router tag None other there h = h
  coordinated_rule router tag (Some c) other there h = asks_rule router tag c c.decision there

  older_rule : (router : ℕ) (tag : Tag) (have : Option ℤ) (other : Ruled) → RuledTold s m other
      → RuledTold s m (unless_older s router tag have other)
  older_rule router tag None other h = h
  older_rule router tag (Some have) other h = rests_rule
      (unless_older s router tag (Some have) other) refl (outcome_out tag _ (told.TooOld have) tt)

  known_rule : (router : ℕ) (tag : Tag) (has : Option Session) (number : ℤ) (other : Ruled)
      → RuledTold s m other → RuledTold s m (unless_known s router tag has number other)
  known_rule router tag has number other h =
      older_rule router tag (larger_number has number)
      (unless_coordinated s router tag (coordinated_of s.coord tag) other)
      (coordinated_rule router tag (coordinated_of s.coord tag) other refl h)

  router_rule : (rule : ℕ → Ruled) (router : Option ℕ) → ((n : ℕ) → RuledTold s m (rule n))
      → RuledTold s m (from_router s rule router)
  router_rule rule None h = quiet_rule
  router_rule rule (Some router) h = h router

  votes_on_rule : (v : Vote) (c : Coordinated) (d : Option Decision)
      → coordinated_of s.coord v.tag ≡ Some c → RuledTold s m (votes_on s v c d)
  votes_on_rule v c None there = rests_rule (votes_on s v c None) refl none
  votes_on_rule v c (Some d) there = rests_rule (votes_on s v c (Some d)) refl
      (All-append L _ _
      (each L _ c.askers (λ x. (refl, free_decision v.tag c d there)))
      (decides_out s.part.shard S v.tag c.plan d c.plan.parts))

  votes_rule : (v : Vote) (c : Option Coordinated) → coordinated_of s.coord v.tag ≡ c
      → RuledTold s m (votes_if s v c)
  votes_rule v None there = quiet_rule
  votes_rule v (Some c) there = votes_on_rule v c (decided_by v.shard v.vote c) there

  acks_rule : (v : Acked) (c : Option Coordinated) → RuledTold s m (acks_if s v c)
  acks_rule v None = quiet_rule
  acks_rule v (Some c) = rests_rule (acks_if s v (Some c)) refl none

  vote_out : (v : Prepare) (x : Option (Result ℕ Cause)) → All L (vote_if s v x)
  vote_out v None = none
  vote_out v (Some x) = one L _ tt

-- A statement.

refused_is : (a b : Cause) (m n : ℕ) → Refused a m ≡ Refused b n → a ≡ b
refused_is a b m n e = cc

answers_rule : (s : ShardState) (m : Statement) (to : NodeId) (t : Turn)
    → t.1.shard ≡ s.part.shard → TurnLeaves s.part m t
    → RuledTold s (msg.Statement m) (answers (with_part s t.1) to m t.0)
answers_rule s m to (Did at reply wrote, q) same h =
    let r = answers (with_part s q) to m (Did at reply wrote) in
    record {
      leaves = more_stated (Stated m (Did at reply wrote)) (StatedIn r) s.part q
          (λ lsid new why t. let no = t.refused in cc) h.leaves;
      out = one (LetterTold s.part.shard (Subject s.part s.coord (msg.Statement m))) _ (same, tt);
    }
answers_rule s m to (Blocked held, q) same h =
    let r = answers (with_part s q) to m (Blocked held) in
    record {
      leaves = more_stated (Stated m (Blocked held)) (StatedIn r) s.part q
          (λ lsid new why t. let no = t.refused in cc) h.leaves;
      out = All-nil (LetterTold s.part.shard (Subject s.part s.coord (msg.Statement m)));
    }
answers_rule s m to (Refused why at, q) same h =
    let r = answers (with_part s q) to m (Refused why at) in
    record {
      leaves = more_stated (Stated m (Refused why at)) (StatedIn r) s.part q
          (λ lsid new other t. record {
            none = refl;
            letter = participating.answer (with_part s q) to m at (Err why);
            among = has_first _ [];
            tells =
                (sym t.tag_is, ap (λ (w : Cause). Err w) (refused_is why other at t.at t.refused));
          }) h.leaves;
      out = one (LetterTold s.part.shard (Subject s.part s.coord (msg.Statement m))) _ (
        same,
        inl (record {
          lsid = m.lsid;
          number = m.number;
          names = (refl, refl, refl);
          told = h.told;
        }),
      );
    }
answers_rule s m to (Late, q) same h =
    let r = answers (with_part s q) to m Late in
    record {
      leaves = more_stated (Stated m Late) (StatedIn r) s.part q
          (λ lsid new why t. let no = t.refused in cc) h.leaves;
      out = All-nil (LetterTold s.part.shard (Subject s.part s.coord (msg.Statement m)));
    }

-- A commit of several shards.

module _ (s : ShardState) (m : CommitTwo) where
  abbrev Two : Ruled → Type 0
  Two r = RuledTold s (msg.CommitTwo m) r

  told_two : (router : ℕ) (why : Cause) → ToldAs s.part m.lsid m.tag why
      → Two (tells s router m.tag (told.Aborted why))
  told_two router why h =
      rests_rule s (msg.CommitTwo m) (tells s router m.tag (told.Aborted why)) refl
      (outcome_out s (msg.CommitTwo m) m.tag _ (told.Aborted why)
      (named_outcome s (msg.CommitTwo m) m.lsid m.number m.tag (told.Aborted why)
      (refl, refl, refl) h))

  own_two : (router : ℕ) (own : Session) (st : SessionState) → session s.part m.lsid ≡ Some own
      → own.tag ≡ m.tag → own.state ≡ st → Two (starts_own s router m own st)
  own_two router own state.Live is tag e =
      let why = cause.Unavailable m.boot s.part.boot in
      let not = ap is_aborted e in
      either (nat_eq m.boot s.part.boot) Two (starts s router m) (fails s router m own why)
      (rests_rule s (msg.CommitTwo m) (starts s router m) refl
      (prepares_out s.part.shard (Subject s.part s.coord (msg.CommitTwo m)) s.part.shard m.tag
      (plan_of m) m.parts))
      (by_rule s (msg.CommitTwo m) (fails s router m own why)
      (aborted_leaves NoneStated s.part m.lsid own why is not refl)
      (outcome_out s (msg.CommitTwo m) m.tag _ (told.Aborted why)
      (named_outcome s (msg.CommitTwo m) m.lsid m.number m.tag (told.Aborted why)
      (refl, refl, refl) (unended_told s.part m.lsid m.tag why
      (not_ended s.part m.lsid m.tag own is not)))))
  own_two router own (state.Prepared at coordinator) is tag e = quiet_rule s (msg.CommitTwo m)
  own_two router own (state.Committed at) is tag e =
      rests_rule s (msg.CommitTwo m) (tells s router m.tag (told.Committed at)) refl
      (outcome_out s (msg.CommitTwo m) m.tag _ (told.Committed at) tt)
  own_two router own state.Released is tag e = quiet_rule s (msg.CommitTwo m)
  own_two router own (state.Aborted why read_at) is tag e = told_two router why
      (inr (inr (record { old = own; at = read_at; there = is; own = tag; ended = e })))

  lost_two : (router : ℕ) → IsUnended s.part m.lsid m.tag → Two (is_lost s router m)
  lost_two router h = told_two router (cause.Unavailable m.boot s.part.boot)
      (unended_told s.part m.lsid m.tag _ h)

  tag_two : (router : ℕ) (own : Session) (test : Bool) → same_tag own.tag m.tag ≡ test
      → session s.part m.lsid ≡ Some own
      → Two (if test then starts_own s router m own own.state else is_lost s router m)
  tag_two router own true e is = own_two router own own.state is (tag_same own.tag m.tag e) refl
  tag_two router own false e is = lost_two router (other_tag s.part m.lsid m.tag own is e)

  new_two : (router : ℕ) (own : Option Session) → session s.part m.lsid ≡ own
      → Two (starts_new s router m own)
  new_two router None is = lost_two router (no_session s.part m.lsid m.tag is)
  new_two router (Some own) is = tag_two router own (same_tag own.tag m.tag) refl is

-- A message.

ruled_told : (s : ShardState) (from : NodeId) (m : Msg) → AllKept s.part
    → RuledTold s m (ruled s from m)
ruled_told s from (msg.Statement m) kept =
    let turn = statement s.part s.clock.last s.wall m in
    either (elsewhere s.part m.lsid m.tag) (RuledTold s (msg.Statement m)) _ _
    (quiet_rule s (msg.Statement m))
    (answers_rule s m from turn (statement_same s.part s.clock.last s.wall m).shard
    (statement_leaves s.part s.clock.last s.wall m kept))
ruled_told s from (msg.Answer m) kept = quiet_rule s (msg.Answer m)
ruled_told s from (msg.Commit m) kept =
    let k = commit_leaves s.part s.clock.last s.wall m in
    by_rule s (msg.Commit m) (participating.on_commit s from m) k.leaves
    (if_out s (msg.Commit m) m.tag from (commit s.part s.clock.last s.wall m).told
    (told_each (commit s.part s.clock.last s.wall m).told k.told))
  where
    told_each : (t : Option Told) → IfSome t (IsToldAs s.part m.lsid m.tag)
        → IfSome t (λ t. IfAborted t (Subject s.part s.coord (msg.Commit m) m.tag))
    told_each None h = tt
    told_each (Some t) h = named_outcome s (msg.Commit m) m.lsid m.number m.tag t
        (refl, refl, refl) h
ruled_told s from (msg.Outcome m) kept = quiet_rule s (msg.Outcome m)
ruled_told s from (msg.Abort m) kept =
    either (coordinates s m.tag) (RuledTold s (msg.Abort m)) _ _ (quiet_rule s (msg.Abort m))
    (by_rule s (msg.Abort m) (quiet (with_part s (abort s.part m))) (abort_leaves s.part m)
    (none s (msg.Abort m)))
ruled_told s from (msg.CommitTwo m) kept =
    router_rule s (msg.CommitTwo m) (λ router. on_commit_two s router m) (router_of from)
    (λ router. known_rule s (msg.CommitTwo m) router m.tag (session s.part m.lsid) m.number _
    (new_two s m router (session s.part m.lsid) refl))
ruled_told s from (msg.Prepare m) kept =
    by_rule s (msg.Prepare m) (participating.on_prepare s m)
    (prepare_leaves s.part s.clock.last s.wall m) (vote_out s (msg.Prepare m) m _)
ruled_told s from (msg.Vote m) kept =
    votes_rule s (msg.Vote m) m (coordinated_of s.coord m.tag) refl
ruled_told s from (msg.Decide m) kept =
    by_rule s (msg.Decide m) (participating.on_decide s from m) (decide_leaves s.part m)
    (one (L s (msg.Decide m)) _ tt)
ruled_told s from (msg.Acked m) kept = acks_rule s (msg.Acked m) m (coordinated_of s.coord m.tag)
ruled_told s from (msg.Recover m) kept =
    let k = recover_leaves s.part m in
    router_rule s (msg.Recover m) (λ router. on_recover s router m) (router_of from)
    (λ router. known_rule s (msg.Recover m) router m.tag (session s.part m.lsid) m.number
    (recovers s router m)
    (by_rule s (msg.Recover m) (recovers s router m) k.leaves
    (one (L s (msg.Recover m)) _ (
      (recover_same s.part m).shard,
      named_outcome s (msg.Recover m) m.lsid m.number m.tag (recover s.part m).0
          (refl, refl, refl) k.told,
    ))))
ruled_told s from msg.Nudge kept = rests_rule s msg.Nudge _ refl
    (resends_all s.part.shard (Subject s.part s.coord msg.Nudge) s.part.shard s.coord)

-- The step.

abbrev pub SubjectAt : Part → Coordinations → Happening → Tag → Cause → Type 0
SubjectAt p coords (what.Deliver e) tag why = Subject p coords e.msg tag why
SubjectAt p coords other tag why = ⊥

-- a transaction that the message names wasn't ended with this before
pub record FreshIn (p : Part) (m : Msg) (tag : Tag) (why : Cause) : Type 0 where
  pub lsid : Lsid
  pub number : ℤ
  pub names : Names tag lsid number m
  pub first : Fresh p lsid tag why

abbrev pub FreshAt : Part → Happening → Tag → Cause → Type 0
FreshAt p (what.Deliver e) tag why = FreshIn p e.msg tag why
FreshAt p other tag why = ⊥

fresh_subject : (p : Part) (coords : Coordinations) (w : Happening) (tag : Tag) (why : Cause)
    → FreshAt p w tag why → SubjectAt p coords w tag why
fresh_subject p coords (what.Deliver e) tag why h = inl (record {
  lsid = h.lsid;
  number = h.number;
  names = h.names;
  told = inr (inl h.first);
})
fresh_subject p coords (what.Client conn frame) tag why h = h
fresh_subject p coords (what.Gone conn) tag why h = h
fresh_subject p coords what.Resend tag why h = h
fresh_subject p coords what.Moment tag why h = h

-- a stopped shard stays stopped
stays_stopped : (room : Room) (s : ShardState) (faults : ℕ) (e : NodeEvent)
    → (stopped_step room s faults e).core ≡ s
stays_stopped Ample s faults e = refl
stays_stopped Scarce s faults e = refl
stays_stopped Short s faults e = refl

pub step_stopped : (room : Room) (s : ShardState) (e : NodeEvent) (faults : ℕ)
    → s.stopped ≡ Some faults → (core_step room s e).core.stopped ≡ Some faults
unfolding core_step
step_stopped room s e faults is =
    subst (λ (stopped : Option ℕ). (step_if room s e stopped).core.stopped ≡ Some faults) (sym is)
    (ap (λ (c : ShardState). c.stopped) (stays_stopped room s faults e) ∙ is)

pub record TellsGiven (a : NodeAnswer) (lsid : Lsid) (new : Session) (why : Cause) : Type 0 where
  pub envelope : Envelope
  pub among : Contains (given_out a) envelope
  pub tells : Answers new.tag why envelope.msg

abbrev pub EnvTold : ℕ → (Tag → Cause → Type 0) → Envelope → Type 0
EnvTold shard S e = MsgTold shard S e.msg

pub record StepTold (s : ShardState) (w : Happening) (o : CoreStep) : Type 0 where
  pub leaves : Leaves (TellsGiven o.answer) s.part o.core.part
  pub out : All (EnvTold s.part.shard (SubjectAt s.part s.coord w)) (given_out o.answer)

gives_told : (s : ShardState) (shard : ℕ) (S : Tag → Cause → Type 0) (out : List Letter)
    (held : Option Held) → All (LetterTold shard S) out
    → All (EnvTold shard S) (given_out (answer_of s out held))
gives_told s shard S out None h =
    All-map (EnvTold shard S) (sent_by (Shard s.part.shard) s.clock.last) out h
gives_told s shard S out (Some held) h = All-nil (EnvTold shard S)

stated_given : (r : Ruled) (lsid : Lsid) (new : Session) (why : Cause) → StatedIn r lsid new why
    → TellsGiven (answer_of r.core r.out r.held) lsid new why
stated_given r lsid new why h =
    let send = sent_by (Shard r.core.part.shard) r.core.clock.last in
    let here : TellsGiven (answer_of r.core r.out None) lsid new why = record {
      envelope = send h.letter;
      among = has_map send r.out h.letter h.among;
      tells = h.tells;
    } in
    subst (λ (held : Option Held). TellsGiven (answer_of r.core r.out held) lsid new why)
    (sym h.none) here

pub msg_more : (shard : ℕ) (S U : Tag → Cause → Type 0)
    → ((tag : Tag) (why : Cause) → S tag why → U tag why) → (m : Msg) → MsgTold shard S m
    → MsgTold shard U m
msg_more shard S U f (msg.Answer a) h = (h.0, by a.outcome h.1)
  where
    by : {A : Type 0} (r : Result A Cause) → IfRefused r (S a.tag) → IfRefused r (U a.tag)
    by (Ok x) h = tt
    by (Err why) h = f a.tag why h
msg_more shard S U f (msg.Outcome o) h = (h.0, by o.told h.1)
  where
    by : (t : Told) → IfAborted t (S o.tag) → IfAborted t (U o.tag)
    by (told.Aborted why) h = f o.tag why h
    by (told.Committed at) h = tt
    by told.Released h = tt
    by (told.TooOld have) h = tt
    by told.NoTrace h = tt
msg_more shard S U f (msg.Statement m) h = tt
msg_more shard S U f (msg.Commit m) h = tt
msg_more shard S U f (msg.Abort m) h = tt
msg_more shard S U f (msg.CommitTwo m) h = tt
msg_more shard S U f (msg.Prepare m) h = tt
msg_more shard S U f (msg.Vote m) h = tt
msg_more shard S U f (msg.Decide m) h = tt
msg_more shard S U f (msg.Acked m) h = tt
msg_more shard S U f (msg.Recover m) h = tt
msg_more shard S U f msg.Nudge h = tt

subject_before : (p q : Part) (coords : Coordinations) (m : Msg) → Expires p q → (tag : Tag)
    (why : Cause) → Subject q coords m tag why → Subject p coords m tag why
subject_before p q coords m e tag why (inl h) = inl (record {
  lsid = h.lsid;
  number = h.number;
  names = h.names;
  told = told_before p q e h.lsid tag why h.told;
})
subject_before p q coords m e tag why (inr h) = inr h

-- Out of memory.

wanted : (s : ShardState) (from : NodeId) (m : Msg) (w : Option Wanting)
    → wanting s from m ≡ w
    → IfSome w (λ w. LetterTold s.part.shard (Subject s.part s.coord m) w.letter)
wanted s from (msg.Statement m) w is = subst (λ (w : Option Wanting). IfSome w (λ w.
    LetterTold s.part.shard (Subject s.part s.coord (msg.Statement m)) w.letter)) is
    (either (elsewhere s.part m.lsid m.tag) (λ (w : Option Wanting). IfSome w (λ w.
    LetterTold s.part.shard (Subject s.part s.coord (msg.Statement m)) w.letter)) _ _ tt (
      refl,
      inl (record {
        lsid = m.lsid;
        number = m.number;
        names = (refl, refl, refl);
        told = inl refl;
      }),
    ))
wanted s from (msg.Commit m) w is = subst (λ (w : Option Wanting). IfSome w (λ w.
    LetterTold s.part.shard (Subject s.part s.coord (msg.Commit m)) w.letter)) is (
      refl,
      inl (record {
        lsid = m.lsid;
        number = m.number;
        names = (refl, refl, refl);
        told = inl refl;
      }),
    )
wanted s from (msg.CommitTwo m) w is = subst (λ (w : Option Wanting). IfSome w (λ w.
    LetterTold s.part.shard (Subject s.part s.coord (msg.CommitTwo m)) w.letter)) is
    (either (is_some (router_of from)) (λ (w : Option Wanting). IfSome w (λ w.
    LetterTold s.part.shard (Subject s.part s.coord (msg.CommitTwo m)) w.letter)) _ _ (
      refl,
      inl (record {
        lsid = m.lsid;
        number = m.number;
        names = (refl, refl, refl);
        told = inl refl;
      }),
    ) tt)
wanted s from (msg.Prepare m) w is = subst (λ (w : Option Wanting). IfSome w (λ w.
    LetterTold s.part.shard (Subject s.part s.coord (msg.Prepare m)) w.letter)) is tt
wanted s from (msg.Recover m) w is = subst (λ (w : Option Wanting). IfSome w (λ w.
    LetterTold s.part.shard (Subject s.part s.coord (msg.Recover m)) w.letter)) is
    (either (is_some (router_of from)) (λ (w : Option Wanting). IfSome w (λ w.
    LetterTold s.part.shard (Subject s.part s.coord (msg.Recover m)) w.letter)) _ _ (
      refl,
      inl (record {
        lsid = m.lsid;
        number = m.number;
        names = (refl, refl, refl);
        told = inl refl;
      }),
    ) tt)
wanted s from (msg.Answer m) w is = subst (λ (w : Option Wanting). IfSome w (λ w.
    LetterTold s.part.shard (Subject s.part s.coord (msg.Answer m)) w.letter)) is tt
wanted s from (msg.Outcome m) w is = subst (λ (w : Option Wanting). IfSome w (λ w.
    LetterTold s.part.shard (Subject s.part s.coord (msg.Outcome m)) w.letter)) is tt
wanted s from (msg.Abort m) w is = subst (λ (w : Option Wanting). IfSome w (λ w.
    LetterTold s.part.shard (Subject s.part s.coord (msg.Abort m)) w.letter)) is tt
wanted s from (msg.Vote m) w is = subst (λ (w : Option Wanting). IfSome w (λ w.
    LetterTold s.part.shard (Subject s.part s.coord (msg.Vote m)) w.letter)) is tt
wanted s from (msg.Decide m) w is = subst (λ (w : Option Wanting). IfSome w (λ w.
    LetterTold s.part.shard (Subject s.part s.coord (msg.Decide m)) w.letter)) is tt
wanted s from (msg.Acked m) w is = subst (λ (w : Option Wanting). IfSome w (λ w.
    LetterTold s.part.shard (Subject s.part s.coord (msg.Acked m)) w.letter)) is tt
wanted s from msg.Nudge w is = subst (λ (w : Option Wanting). IfSome w (λ w.
    LetterTold s.part.shard (Subject s.part s.coord msg.Nudge) w.letter)) is tt

wants_told : (s : ShardState) (from : NodeId) (m : Msg) (w : Wanting) → wanting s from m ≡ Some w
    → LetterTold s.part.shard (Subject s.part s.coord m) w.letter
wants_told s from m w is = wanted s from m (Some w) is

module _ (s : ShardState) (e : NodeEvent) (kept : AllKept s.part) (lives : LivesStand s.part) where
  abbrev now : Part
  now = (entered s e).part

  left : Expires s.part now × LivesStand now
  left = expire_left s.part (max s.wall e.wall) lives

  -- where nothing but what expires changes, and nothing is told of transactions
  calm : (w : Happening) (c : CoreStep) → c.core.part ≡ now
      → All (EnvTold s.part.shard (SubjectAt s.part s.coord w)) (given_out c.answer)
      → StepTold s w c
  calm w c same out = record {
    leaves = leaves_before s.part now left.0 (TellsGiven c.answer) c.core.part (λ h. left.1)
        (subst (Leaves (TellsGiven c.answer) now) (sym same) (rests (TellsGiven c.answer) now));
    out = out;
  }

  rules : (sent : Envelope) (bound : Option ℕ) (r : Ruled)
      → RuledTold (met (entered s e) sent) sent.msg r
      → StepTold s (what.Deliver sent) (stepped bound r)
  rules sent bound r h = record {
    leaves = leaves_before s.part now left.0 (TellsGiven (answer_of r.core r.out r.held))
        r.core.part (λ k. left.1)
        (more_stated (StatedIn r) (TellsGiven (answer_of r.core r.out r.held)) now r.core.part
        (λ lsid new why t. stated_given r lsid new why t) h.leaves);
    out = gives_told r.core s.part.shard (SubjectAt s.part s.coord (what.Deliver sent)) r.out
        r.held (All-weaker (LetterTold now.shard (Subject now s.coord sent.msg))
        (LetterTold s.part.shard (SubjectAt s.part s.coord (what.Deliver sent)))
        (λ l k. msg_more s.part.shard (Subject now s.coord sent.msg)
        (Subject s.part s.coord sent.msg)
        (subject_before s.part now s.coord sent.msg left.0) l.1
        (subst (λ (n : ℕ). LetterTold n (Subject now s.coord sent.msg) l)
        (expire_same s.part (max s.wall e.wall)).shard k)) r.out h.out);
  }

  happens : (w : Happening) → StepTold s w (happened (entered s e) w)
  happens (what.Client conn frame) = calm (what.Client conn frame)
      (happened (entered s e) (what.Client conn frame)) refl
      (All-nil (EnvTold s.part.shard (SubjectAt s.part s.coord (what.Client conn frame))))
  happens (what.Gone conn) = calm (what.Gone conn) (happened (entered s e) (what.Gone conn)) refl
      (All-nil (EnvTold s.part.shard (SubjectAt s.part s.coord (what.Gone conn))))
  happens (what.Deliver sent) = rules sent (ceiling_of (entered s e) sent)
      (ruled (met (entered s e) sent) sent.from sent.msg)
      (ruled_told (met (entered s e) sent) sent.from sent.msg (kept_then s.part now left.0 kept))
  happens what.Resend = calm what.Resend (happened (entered s e) what.Resend) refl
      (gives_told (entered s e) s.part.shard (SubjectAt s.part s.coord what.Resend) _ None
      (resends_all s.part.shard (SubjectAt s.part s.coord what.Resend) now.shard s.coord))
  happens what.Moment = calm what.Moment (happened (entered s e) what.Moment) refl
      (All-nil (EnvTold s.part.shard (SubjectAt s.part s.coord what.Moment)))

  -- out of memory

  memory_free : (sent : Envelope) (w : Wanting)
      → wanting (met (entered s e) sent) sent.from sent.msg ≡ Some w
      → LetterTold now.shard (Subject now s.coord sent.msg) w.letter
  memory_free sent w is = wants_told (met (entered s e) sent) sent.from sent.msg w is

  memory_step : (sent : Envelope) (bound : Option ℕ) (w : Wanting)
      → wanting (met (entered s e) sent) sent.from sent.msg ≡ Some w
      → StepTold s (what.Deliver sent) (stepped bound (told_memory (met (entered s e) sent) w))
  memory_step sent bound w is =
      let state = met (entered s e) sent in
      rules sent bound (told_memory state w)
      (by_rule state sent.msg (told_memory state w) (memory_leaves now w.lsid w.tag)
      (one (L state sent.msg) w.letter (memory_free sent w is)))

  maybe_memory : (sent : Envelope) (bound : Option ℕ) (w : Option Wanting)
      → wanting (met (entered s e) sent) sent.from sent.msg ≡ w
      → IfSome (option_map (stepped bound) (option_and_then (told_if (met (entered s e) sent)) w))
      (StepTold s (what.Deliver sent))
  maybe_memory sent bound None is = tt
  maybe_memory sent bound (Some w) is =
      either (may_be_told (met (entered s e) sent) w)
      (λ (r : Option Ruled). IfSome (option_map (stepped bound) r) (StepTold s (what.Deliver sent)))
      (Some (told_memory (met (entered s e) sent) w)) None (memory_step sent bound w is) tt

  scarce_told : (w : Happening) → IfSome (scarce (entered s e) w) (StepTold s w)
  scarce_told (what.Client conn frame) = tt
  scarce_told (what.Gone conn) = tt
  scarce_told (what.Deliver sent) = maybe_memory sent (ceiling_of (entered s e) sent)
      (wanting (met (entered s e) sent) sent.from sent.msg) refl
  scarce_told what.Resend = tt
  scarce_told what.Moment = tt

  stays_told : (w : Happening) (a : NodeAnswer)
      → All (EnvTold s.part.shard (SubjectAt s.part s.coord w)) (given_out a)
      → StepTold s w (stays s a)
  stays_told w a out = record { leaves = rests (TellsGiven a) s.part; out = out }

  unless_told : (w : Happening) (o : Option CoreStep) → IfSome o (StepTold s w)
      → StepTold s w (unwrap_or o (stays s answer.Memory))
  unless_told w None h = stays_told w answer.Memory
      (All-nil (EnvTold s.part.shard (SubjectAt s.part s.coord w)))
  unless_told w (Some o) h = h

  runs : (room : Room) → StepTold s e.what (running_step room s e)
  runs Ample = happens e.what
  runs Scarce = unless_told e.what (scarce (entered s e) e.what) (scarce_told e.what)
  runs Short = stays_told e.what answer.Memory
      (All-nil (EnvTold s.part.shard (SubjectAt s.part s.coord e.what)))

  -- a stopped shard

  faulted : (faults : ℕ) (sent : Envelope) (m : Msg) → sent.msg ≡ m
      → All (EnvTold s.part.shard (FreshIn s.part m))
      (given_out (says_stopped s faults sent.from m))
  faulted faults sent (msg.Statement m) is =
      one (EnvTold s.part.shard (FreshIn s.part (msg.Statement m))) _ (
        refl,
        record {
          lsid = m.lsid;
          number = m.number;
          names = (refl, refl, refl);
          first = unkept s.part m.lsid m.tag (cause.Faulted faults) kept refl;
        },
      )
  faulted faults sent other is = All-nil (EnvTold s.part.shard (FreshIn s.part other))

  stopped_fresh : (faults : ℕ) (w : Happening)
      → All (EnvTold s.part.shard (FreshAt s.part w)) (given_out (answer_stopped s faults w))
  stopped_fresh faults (what.Deliver sent) = faulted faults sent sent.msg refl
  stopped_fresh faults (what.Client conn frame) =
      All-nil (EnvTold s.part.shard (FreshAt s.part (what.Client conn frame)))
  stopped_fresh faults (what.Gone conn) =
      All-nil (EnvTold s.part.shard (FreshAt s.part (what.Gone conn)))
  stopped_fresh faults what.Resend = All-nil (EnvTold s.part.shard (FreshAt s.part what.Resend))
  stopped_fresh faults what.Moment = All-nil (EnvTold s.part.shard (FreshAt s.part what.Moment))

  stopped_told : (faults : ℕ) (w : Happening)
      → All (EnvTold s.part.shard (SubjectAt s.part s.coord w))
      (given_out (answer_stopped s faults w))
  stopped_told faults w =
      All-weaker (EnvTold s.part.shard (FreshAt s.part w))
      (EnvTold s.part.shard (SubjectAt s.part s.coord w))
      (λ env k. msg_more s.part.shard (FreshAt s.part w) (SubjectAt s.part s.coord w)
      (fresh_subject s.part s.coord w) env.msg k) _ (stopped_fresh faults w)

  stops_fresh : (room : Room) (faults : ℕ)
      → All (EnvTold s.part.shard (FreshAt s.part e.what))
      (given_out (stopped_step room s faults e).answer)
  stops_fresh Ample faults = stopped_fresh faults e.what
  stops_fresh Scarce faults = All-nil (EnvTold s.part.shard (FreshAt s.part e.what))
  stops_fresh Short faults = All-nil (EnvTold s.part.shard (FreshAt s.part e.what))

  pub step_fresh : (room : Room) (faults : ℕ) → s.stopped ≡ Some faults
      → All (EnvTold s.part.shard (FreshAt s.part e.what)) (given_out (core_step room s e).answer)
  unfolding core_step
  step_fresh room faults is =
      subst (λ (stopped : Option ℕ). All (EnvTold s.part.shard (FreshAt s.part e.what))
      (given_out (step_if room s e stopped).answer)) (sym is) (stops_fresh room faults)

  stops : (room : Room) (faults : ℕ) → StepTold s e.what (stopped_step room s faults e)
  stops Ample faults = stays_told e.what (answer_stopped s faults e.what)
      (stopped_told faults e.what)
  stops Scarce faults = stays_told e.what answer.Memory
      (All-nil (EnvTold s.part.shard (SubjectAt s.part s.coord e.what)))
  stops Short faults = stays_told e.what answer.Memory
      (All-nil (EnvTold s.part.shard (SubjectAt s.part s.coord e.what)))

  steps : (room : Room) (stopped : Option ℕ) → StepTold s e.what (step_if room s e stopped)
  steps room None = runs room
  steps room (Some faults) = stops room faults

  pub step_told : (room : Room) → StepTold s e.what (core_step room s e)
  unfolding core_step
  step_told room = steps room s.stopped
