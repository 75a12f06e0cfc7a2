-- A shard's step: each transaction that it leaves ended by a wish was ended so before, or is by the
-- step's message; it tells of no other; and it sends no Abort and no Recover.
use Rattle.std.proofs.Common.{◌≡◌, ℕ, ℤ, max, nat_eq, map, All, List, [], ◌∷◌, Option, Some}
use Rattle.std.proofs.Common.{None, IfSome, option_map, option_and_then, unwrap_or, is_some}
use Rattle.std.proofs.Common.{Result, Ok, Err, Bool, true, false, refl, subst}
use Rattle.std.proofs.Common.{if◌then◌else◌}
use Rattle.std.proofs.lemmas.List.Elements.{All-nil, All-append, All-map}
use Rattle.txn_types.specs.Letters.{Letter, sent_by, given_out}
use Rattle.txn_types.specs.Order.{same_tag}
use Rattle.txn_types.specs.declared.cause.Cause.{Cause}
use Rattle.txn_types.specs.declared.cause.Cause.TheVariants as cause
use Rattle.txn_types.specs.declared.decision.Decision.{Decision}
use Rattle.txn_types.specs.declared.decision.Decision.TheVariants as decision
use Rattle.txn_types.specs.declared.decision.Told.{Told}
use Rattle.txn_types.specs.declared.decision.Told.TheVariants as told
use Rattle.txn_types.specs.declared.event.Happening.{Happening}
use Rattle.txn_types.specs.declared.event.Happening.TheVariants as what
use Rattle.txn_types.specs.declared.event.NodeAnswer.TheVariants as answer
use Rattle.txn_types.specs.declared.event.NodeEvent.{NodeEvent}
use Rattle.txn_types.specs.declared.message.Acked.{Acked}
use Rattle.txn_types.specs.declared.message.CommitTwo.{CommitTwo}
use Rattle.txn_types.specs.declared.message.Envelope.{Envelope}
use Rattle.txn_types.specs.declared.message.Msg.{Msg}
use Rattle.txn_types.specs.declared.message.Msg.TheVariants as msg
use Rattle.txn_types.specs.declared.message.Prepare.{Prepare}
use Rattle.txn_types.specs.declared.message.Statement.{Statement}
use Rattle.txn_types.specs.declared.message.Vote.{Vote}
use Rattle.txn_types.specs.declared.names.Tag.{Tag}
use Rattle.txn_types.specs.declared.node.Lsid.{Lsid}
use Rattle.txn_types.specs.declared.node.NodeId.{NodeId}
use Rattle.txn_types.specs.declared.node.NodeId.TheVariants.{Shard, Router}
use Rattle.session_table.specs.declared.session.Session.{Session}
use Rattle.session_table.specs.declared.session.SessionState.{SessionState}
use Rattle.session_table.specs.declared.session.SessionState.TheVariants as state
use Rattle.version_store.specs.declared.version.Held.{Held}
use Rattle.coordinator.specs.declared.plan.Plan.{Plan}
use Rattle.coordinator.specs.TwoPhase.{Coordinated, Coordinations, coordinated_of, decided_by}
use Rattle.coordinator.specs.TwoPhase.{prepare_to, decide_to, resends, resends_by}
use Rattle.participant.specs.declared.said.Said.{Said}
use Rattle.participant.specs.declared.said.Said.TheVariants.{Did, Blocked, Refused, Late}
use Rattle.participant.specs.Part.{session, elsewhere, aborted}
use Rattle.participant.specs.Statement.{statement}
use Rattle.participant.specs.Commit.{commit}
use Rattle.participant.specs.Prepare.{prepare}
use Rattle.participant.specs.Abort.{abort}
use Rattle.participant.specs.Recover.{recover}
use Rattle.participant.proofs.Cases.{either}
use Rattle.participant.proofs.Tags.{tag_same}
use Rattle.shard_core.specs.State.{ShardState, met, ceiling_of, with_part}
use Rattle.shard_core.specs.Ruled.{Ruled, quiet, coordinates, outcome}
use Rattle.shard_core.specs.Participating as participating
use Rattle.shard_core.specs.Participating.{answers, outcome_if, vote_if}
use Rattle.shard_core.specs.Coordinating.{asks, tells, starts, fails, is_lost, plan_of, told_of}
use Rattle.shard_core.specs.Coordinating.{unless_coordinated, unless_older, unless_known}
use Rattle.shard_core.specs.Coordinating.{larger_number, starts_own, starts_new, votes_on, votes_if}
use Rattle.shard_core.specs.Coordinating.{acks_if, on_commit_two, on_recover, recovers}
use Rattle.shard_core.specs.Rules.{ruled, from_router, router_of}
use Rattle.shard_core.specs.Wanting.{wanting, Wanting, told_if, told_memory, may_be_told}
use Rattle.shard_core.specs.Core.{Room, Ample, Scarce, Short, CoreStep, core_step, step_if, stepped}
use Rattle.shard_core.specs.Core.{stays, entered, happened, scarce, running_step, stopped_step}
use Rattle.shard_core.specs.Core.{answer_stopped, says_stopped, gives_out, answer_of}
use Rattle.world_laws.proofs.Naming.{one, each}
use Rattle.cluster_core.specs.Causes.{Names}
use Rattle.abort_laws.proofs.Parts.{CauseOk, EndOk, ToldOk, SaidOk, ResultOk, PartOk}
use Rattle.abort_laws.proofs.Parts.{aborted_ok, statement_ok}
use Rattle.abort_laws.proofs.Parts.{expire_ok, memory_ok, abort_ok, recover_ok, decide_ok}
use Rattle.abort_laws.proofs.Parts.{commit_ok, prepare_ok}

-- what is said of each message that a shard sends: of a wish that it tells, `T`; and no Abort and
-- no Recover is sent
abbrev pub ShardSays : (Tag → ℕ → Type 0) → Msg → Type 0
ShardSays T (msg.Answer a) = ResultOk (T a.tag) a.outcome
ShardSays T (msg.Outcome o) = ToldOk (T o.tag) o.told
ShardSays T (msg.Vote v) = ResultOk (T v.tag) v.vote
ShardSays T (msg.Abort a) = ⊥
ShardSays T (msg.Recover r) = ⊥
ShardSays T other = Unit {0}

abbrev LetterOk : (Tag → ℕ → Type 0) → Letter → Type 0
LetterOk T l = ShardSays T l.1

-- that is told in answer to a message which names the transaction
abbrev pub Says : (Lsid → Tag → ℕ → Type 0) → Msg → Tag → ℕ → Type 0
Says G m tag why = (lsid : Lsid) × (number : ℤ) × Names tag lsid number m × G lsid tag why

abbrev pub SaysAt : (Lsid → Tag → ℕ → Type 0) → Happening → Tag → ℕ → Type 0
SaysAt G (what.Deliver e) tag why = Says G e.msg tag why
SaysAt G other tag why = ⊥

-- what the message ends is ended so
abbrev pub EndsBy : (Lsid → Tag → ℕ → Type 0) → Msg → Type 0
EndsBy G (msg.Abort m) = G m.lsid m.tag m.why
EndsBy G (msg.Recover m) = G m.lsid m.tag 3
EndsBy G other = Unit {0}

abbrev pub EndsAt : (Lsid → Tag → ℕ → Type 0) → Happening → Type 0
EndsAt G (what.Deliver e) = EndsBy G e.msg
EndsAt G other = Unit {0}

cause_on : (F H : ℕ → Type 0) → ((why : ℕ) → F why → H why) → (why : Cause) → CauseOk F why
    → CauseOk H why
cause_on F H f (cause.ClientAbort why) h = f why h
cause_on F H f other h = tt

told_on : (F H : ℕ → Type 0) → ((why : ℕ) → F why → H why) → (t : Told) → ToldOk F t → ToldOk H t
told_on F H f (told.Aborted why) h = cause_on F H f why h
told_on F H f other h = tt

result_on : {A : Type 0} (F H : ℕ → Type 0) → ((why : ℕ) → F why → H why) → (r : Result A Cause)
    → ResultOk F r → ResultOk H r
result_on F H f (Ok a) h = tt
result_on F H f (Err why) h = cause_on F H f why h

module _ (G : Lsid → Tag → ℕ → Type 0) where
  pub record RuledOk (T : Tag → ℕ → Type 0) (r : Ruled) : Type 0 where
    pub part : PartOk G r.core.part
    pub out : All (LetterOk T) r.out

  silent : (T : Tag → ℕ → Type 0) (s : ShardState) → PartOk G s.part → RuledOk T (quiet s)
  silent T s h = record { part = h; out = All-nil (LetterOk T) }

  -- Statements and ends.

  answers_ok : (T : Tag → ℕ → Type 0) (s : ShardState) (to : NodeId) (m : Statement) (said : Said)
      → PartOk G s.part → SaidOk (T m.tag) said → RuledOk T (answers s to m said)
  answers_ok T s to m (Did at reply wrote) h k = record { part = h; out = one (LetterOk T) _ tt }
  answers_ok T s to m (Blocked held) h k = record { part = h; out = All-nil (LetterOk T) }
  answers_ok T s to m (Refused why at) h k = record { part = h; out = one (LetterOk T) _ k }
  answers_ok T s to m Late h k = silent T s h

  said_on : (F H : ℕ → Type 0) → ((why : ℕ) → F why → H why) → (said : Said) → SaidOk F said
      → SaidOk H said
  said_on F H f (Refused why at) h = cause_on F H f why h
  said_on F H f (Did at reply wrote) h = tt
  said_on F H f (Blocked held) h = tt
  said_on F H f Late h = tt

  outcome_ok : (T : Tag → ℕ → Type 0) (s : ShardState) (tag : Tag) (to : NodeId) (t : Option Told)
      → IfSome t (ToldOk (T tag)) → All (LetterOk T) (outcome_if s tag to t)
  outcome_ok T s tag to None h = All-nil (LetterOk T)
  outcome_ok T s tag to (Some t) h = one (LetterOk T) _ h

  vote_ok : (T : Tag → ℕ → Type 0) (s : ShardState) (m : Prepare) (v : Option (Result ℕ Cause))
      → IfSome v (ResultOk (T m.tag)) → All (LetterOk T) (vote_if s m v)
  vote_ok T s m None h = All-nil (LetterOk T)
  vote_ok T s m (Some v) h = one (LetterOk T) _ h

  some_told : (F H : ℕ → Type 0) → ((why : ℕ) → F why → H why) → (t : Option Told)
      → IfSome t (ToldOk F) → IfSome t (ToldOk H)
  some_told F H f None h = tt
  some_told F H f (Some t) h = told_on F H f t h

  some_vote : (F H : ℕ → Type 0) → ((why : ℕ) → F why → H why) → (v : Option (Result ℕ Cause))
      → IfSome v (ResultOk F) → IfSome v (ResultOk H)
  some_vote F H f None h = tt
  some_vote F H f (Some v) h = result_on F H f v h

  -- The coordinator.

  tells_ok : (T : Tag → ℕ → Type 0) (s : ShardState) (router : ℕ) (tag : Tag) (t : Told)
      → PartOk G s.part → ToldOk (T tag) t → RuledOk T (tells s router tag t)
  tells_ok T s router tag t h k = record { part = h; out = one (LetterOk T) _ k }

  told_decision : (F : ℕ → Type 0) (d : Decision) → ToldOk F (told_of d)
  told_decision F (decision.Commit at) = tt
  told_decision F (decision.Abort shard code) = tt

  asks_ok : (T : Tag → ℕ → Type 0) (s : ShardState) (router : ℕ) (tag : Tag) (c : Coordinated)
      (d : Option Decision) → PartOk G s.part → RuledOk T (asks s router tag c d)
  asks_ok T s router tag c None h = record { part = h; out = All-nil (LetterOk T) }
  asks_ok T s router tag c (Some d) h =
      tells_ok T s router tag (told_of d) h (told_decision (T tag) d)

  coordinated_ok : (T : Tag → ℕ → Type 0) (s : ShardState) (router : ℕ) (tag : Tag)
      (c : Option Coordinated) (other : Ruled) → PartOk G s.part → RuledOk T other
      → RuledOk T (unless_coordinated s router tag c other)
  coordinated_ok T s router tag None other h k = k
  coordinated_ok T s router tag (Some c) other h k = asks_ok T s router tag c c.decision h

  older_ok : (T : Tag → ℕ → Type 0) (s : ShardState) (router : ℕ) (tag : Tag) (have : Option ℤ)
      (other : Ruled) → PartOk G s.part → RuledOk T other
      → RuledOk T (unless_older s router tag have other)
  older_ok T s router tag None other h k = k
  older_ok T s router tag (Some have) other h k =
      tells_ok T s router tag (told.TooOld have) h tt

  known_ok : (T : Tag → ℕ → Type 0) (s : ShardState) (router : ℕ) (tag : Tag)
      (has : Option Session) (number : ℤ) (other : Ruled) → PartOk G s.part → RuledOk T other
      → RuledOk T (unless_known s router tag has number other)
  known_ok T s router tag has number other h k =
      older_ok T s router tag (larger_number has number)
      (unless_coordinated s router tag (coordinated_of s.coord tag) other) h
      (coordinated_ok T s router tag (coordinated_of s.coord tag) other h k)

  prepares_go : (T : Tag → ℕ → Type 0) (own : ℕ) (tag : Tag) (plan : Plan) (parts : List (ℕ × ℕ))
      → All (LetterOk T) (map (prepare_to own tag plan) parts)
  prepares_go T own tag plan parts = each (LetterOk T) (prepare_to own tag plan) parts (λ x. tt)

  decides_go : (T : Tag → ℕ → Type 0) (tag : Tag) (plan : Plan) (d : Decision)
      (parts : List (ℕ × ℕ)) → All (LetterOk T) (map (decide_to tag plan d) parts)
  decides_go T tag plan d parts = each (LetterOk T) (decide_to tag plan d) parts (λ x. tt)

  starts_own_ok : (T : Tag → ℕ → Type 0) (s : ShardState) (router : ℕ) (m : CommitTwo)
      (own : Session) (st : SessionState) → PartOk G s.part → EndOk (T m.tag) st
      → RuledOk T (starts_own s router m own st)
  starts_own_ok T s router m own state.Live h e =
      either (nat_eq m.boot s.part.boot) (RuledOk T) (starts s router m) (fails s router m own
      (cause.Unavailable m.boot s.part.boot))
      (record { part = h; out = prepares_go T s.part.shard m.tag (plan_of m) m.parts })
      (tells_ok T (with_part s (aborted s.part m.lsid own (cause.Unavailable m.boot s.part.boot)))
      router m.tag (told.Aborted (cause.Unavailable m.boot s.part.boot))
      (aborted_ok G s.part m.lsid own (cause.Unavailable m.boot s.part.boot) tt h) tt)
  starts_own_ok T s router m own (state.Prepared at coordinator) h e = silent T s h
  starts_own_ok T s router m own (state.Committed at) h e =
      tells_ok T s router m.tag (told.Committed at) h tt
  starts_own_ok T s router m own state.Released h e = silent T s h
  starts_own_ok T s router m own (state.Aborted why read_at) h e =
      tells_ok T s router m.tag (told.Aborted why) h e

  end_on : (F H : ℕ → Type 0) → ((why : ℕ) → F why → H why) → (st : SessionState) → EndOk F st
      → EndOk H st
  end_on F H f (state.Aborted why at) h = cause_on F H f why h
  end_on F H f state.Live h = tt
  end_on F H f (state.Prepared at coordinator) h = tt
  end_on F H f (state.Committed at) h = tt
  end_on F H f state.Released h = tt

  lost_ok : (T : Tag → ℕ → Type 0) (s : ShardState) (router : ℕ) (m : CommitTwo)
      → PartOk G s.part → RuledOk T (is_lost s router m)
  lost_ok T s router m h = tells_ok T s router m.tag
      (told.Aborted (cause.Unavailable m.boot s.part.boot)) h tt

  starts_tag : (s : ShardState) (router : ℕ) (m : CommitTwo) (own : Session) (test : Bool)
      → same_tag own.tag m.tag ≡ test → session s.part m.lsid ≡ Some own → PartOk G s.part
      → RuledOk (Says G (msg.CommitTwo m))
      (if test then starts_own s router m own own.state else is_lost s router m)
  starts_tag s router m own true same is h =
      let T = Says G (msg.CommitTwo m) in
      let end : EndOk (G m.lsid m.tag) own.state = subst
      (λ (t : Tag). EndOk (G m.lsid t) own.state) (tag_same own.tag m.tag same)
      (h m.lsid own is) in
      starts_own_ok T s router m own own.state h
      (end_on (G m.lsid m.tag) (T m.tag) (λ why g. (m.lsid, m.number, (refl, refl, refl), g))
      own.state end)
  starts_tag s router m own false same is h = lost_ok (Says G (msg.CommitTwo m)) s router m h

  starts_new_ok : (s : ShardState) (router : ℕ) (m : CommitTwo) (own : Option Session)
      → session s.part m.lsid ≡ own → PartOk G s.part
      → RuledOk (Says G (msg.CommitTwo m)) (starts_new s router m own)
  starts_new_ok s router m None is h = lost_ok (Says G (msg.CommitTwo m)) s router m h
  starts_new_ok s router m (Some own) is h =
      starts_tag s router m own (same_tag own.tag m.tag) refl is h

  votes_on_ok : (T : Tag → ℕ → Type 0) (s : ShardState) (m : Vote) (c : Coordinated)
      (d : Option Decision) → PartOk G s.part → RuledOk T (votes_on s m c d)
  votes_on_ok T s m c None h = record { part = h; out = All-nil (LetterOk T) }
  votes_on_ok T s m c (Some d) h = record {
    part = h;
    out = All-append (LetterOk T) _ _
        (each (LetterOk T) (λ (router : ℕ). outcome s m.tag (told_of d) (Router router)) c.askers
        (λ x. told_decision (T m.tag) d))
        (decides_go T m.tag c.plan d c.plan.parts);
  }

  votes_ok : (T : Tag → ℕ → Type 0) (s : ShardState) (m : Vote) (c : Option Coordinated)
      → PartOk G s.part → RuledOk T (votes_if s m c)
  votes_ok T s m None h = silent T s h
  votes_ok T s m (Some c) h = votes_on_ok T s m c (decided_by m.shard m.vote c) h

  acks_ok : (T : Tag → ℕ → Type 0) (s : ShardState) (m : Acked) (c : Option Coordinated)
      → PartOk G s.part → RuledOk T (acks_if s m c)
  acks_ok T s m None h = silent T s h
  acks_ok T s m (Some c) h = record { part = h; out = All-nil (LetterOk T) }

  router_rule : (T : Tag → ℕ → Type 0) (s : ShardState) (rule : ℕ → Ruled) (router : Option ℕ)
      → PartOk G s.part → ((n : ℕ) → RuledOk T (rule n)) → RuledOk T (from_router s rule router)
  router_rule T s rule None h k = silent T s h
  router_rule T s rule (Some router) h k = k router

  resends_by_go : (T : Tag → ℕ → Type 0) (own : ℕ) (tag : Tag) (c : Coordinated)
      (d : Option Decision) → All (LetterOk T) (resends_by own tag c d)
  resends_by_go T own tag c None = prepares_go T own tag c.plan _
  resends_by_go T own tag c (Some d) = decides_go T tag c.plan d _

  resends_go : (T : Tag → ℕ → Type 0) (own : ℕ) (coords : Coordinations)
      → All (LetterOk T) (resends own coords)
  resends_go T own [] = All-nil (LetterOk T)
  resends_go T own (entry ∷ coords) =
      All-append (LetterOk T) (resends_by own entry.0 entry.1 entry.1.decision)
      (resends own coords) (resends_by_go T own entry.0 entry.1 entry.1.decision)
      (resends_go T own coords)

  -- Each message.

  statement_turn : (s : ShardState) (from : NodeId) (m : Statement) → PartOk G s.part
      → RuledOk (Says G (msg.Statement m))
      (answers (with_part s (statement s.part s.clock.last s.wall m).1) from m
      (statement s.part s.clock.last s.wall m).0)
  statement_turn s from m h =
      let T = Says G (msg.Statement m) in
      let turn = statement s.part s.clock.last s.wall m in
      let k = statement_ok G s.part s.clock.last s.wall m h in
      answers_ok T (with_part s turn.1) from m turn.0 k.part
      (said_on (G m.lsid m.tag) (T m.tag) (λ why g. (m.lsid, m.number, (refl, refl, refl), g))
      turn.0 k.said)

  ruled_ok : (s : ShardState) (from : NodeId) (m : Msg) → EndsBy G m → PartOk G s.part
      → RuledOk (Says G m) (ruled s from m)
  ruled_ok s from (msg.Statement m) g h =
      either (elsewhere s.part m.lsid m.tag) (RuledOk (Says G (msg.Statement m))) _ _
      (silent (Says G (msg.Statement m)) s h) (statement_turn s from m h)
  ruled_ok s from (msg.Answer m) g h = silent (Says G (msg.Answer m)) s h
  ruled_ok s from (msg.Commit m) g h =
      let T = Says G (msg.Commit m) in
      let k = commit_ok G s.part s.clock.last s.wall m h in
      record {
        part = k.part;
        out = outcome_ok T s m.tag from (commit s.part s.clock.last s.wall m).told
            (some_told (G m.lsid m.tag) (T m.tag)
            (λ why g. (m.lsid, m.number, (refl, refl, refl), g))
            (commit s.part s.clock.last s.wall m).told k.told);
      }
  ruled_ok s from (msg.Outcome m) g h = silent (Says G (msg.Outcome m)) s h
  ruled_ok s from (msg.Abort m) g h =
      either (coordinates s m.tag) (RuledOk (Says G (msg.Abort m))) _ _
      (silent (Says G (msg.Abort m)) s h)
      (silent (Says G (msg.Abort m)) (with_part s (abort s.part m)) (abort_ok G s.part m g h))
  ruled_ok s from (msg.CommitTwo m) g h =
      router_rule (Says G (msg.CommitTwo m)) s (λ router. on_commit_two s router m)
      (router_of from) h
      (λ router. known_ok (Says G (msg.CommitTwo m)) s router m.tag (session s.part m.lsid)
      m.number _ h (starts_new_ok s router m (session s.part m.lsid) refl h))
  ruled_ok s from (msg.Prepare m) g h =
      let T = Says G (msg.Prepare m) in
      let k = prepare_ok G s.part s.clock.last s.wall m h in
      record {
        part = k.part;
        out = vote_ok T s m (prepare s.part s.clock.last s.wall m).told
            (some_vote (G m.lsid m.tag) (T m.tag)
            (λ why g. (m.lsid, m.number, (refl, refl, refl), g))
            (prepare s.part s.clock.last s.wall m).told k.told);
      }
  ruled_ok s from (msg.Vote m) g h =
      votes_ok (Says G (msg.Vote m)) s m (coordinated_of s.coord m.tag) h
  ruled_ok s from (msg.Decide m) g h = record {
    part = decide_ok G s.part m h;
    out = one (LetterOk (Says G (msg.Decide m))) _ tt;
  }
  ruled_ok s from (msg.Acked m) g h =
      acks_ok (Says G (msg.Acked m)) s m (coordinated_of s.coord m.tag) h
  ruled_ok s from (msg.Recover m) g h =
      let T = Says G (msg.Recover m) in
      let k = recover_ok G s.part m g h in
      router_rule T s (λ router. on_recover s router m) (router_of from) h
      (λ router. known_ok T s router m.tag (session s.part m.lsid) m.number
      (recovers s router m) h
      (tells_ok T (with_part s (recover s.part m).1) router m.tag (recover s.part m).0 k.part
      (told_on (G m.lsid m.tag) (T m.tag) (λ why g. (m.lsid, m.number, (refl, refl, refl), g))
      (recover s.part m).0 k.told)))
  ruled_ok s from msg.Nudge g h = record {
    part = h;
    out = resends_go (Says G msg.Nudge) s.part.shard s.coord;
  }

  -- The step.

  abbrev SentOk : (Tag → ℕ → Type 0) → Envelope → Type 0
  SentOk T e = ShardSays T e.msg

  pub record StepOk (T : Tag → ℕ → Type 0) (o : CoreStep) : Type 0 where
    pub part : PartOk G o.core.part
    pub out : All (λ (e : Envelope). ShardSays T e.msg) (given_out o.answer)

  gives_ok : (T : Tag → ℕ → Type 0) (s : ShardState) (out : List Letter) → All (LetterOk T) out
      → All (SentOk T) (given_out (gives_out s out))
  gives_ok T s out h = All-map (SentOk T) (sent_by (Shard s.part.shard) s.clock.last) out h

  answers_out : (T : Tag → ℕ → Type 0) (s : ShardState) (out : List Letter) (held : Option Held)
      → All (LetterOk T) out → All (SentOk T) (given_out (answer_of s out held))
  answers_out T s out None h = gives_ok T s out h
  answers_out T s out (Some held) h = All-nil (SentOk T)

  rules : (T : Tag → ℕ → Type 0) (bound : Option ℕ) (r : Ruled) → RuledOk T r
      → StepOk T (stepped bound r)
  rules T bound r h = record { part = h.part; out = answers_out T r.core r.out r.held h.out }

  calm : (T : Tag → ℕ → Type 0) (s : ShardState) (e : NodeEvent) → PartOk G s.part
      → StepOk T (stepped None (quiet (entered s e)))
  calm T s e h = record {
    part = expire_ok G s.part (max s.wall e.wall) h;
    out = All-nil (SentOk T);
  }

  happens : (s : ShardState) (e : NodeEvent) (w : Happening) → EndsAt G w → PartOk G s.part
      → StepOk (SaysAt G w) (happened (entered s e) w)
  happens s e (what.Client conn frame) g h = calm (SaysAt G (what.Client conn frame)) s e h
  happens s e (what.Gone conn) g h = calm (SaysAt G (what.Gone conn)) s e h
  happens s e (what.Deliver sent) g h =
      rules (Says G sent.msg) (ceiling_of (entered s e) sent)
      (ruled (met (entered s e) sent) sent.from sent.msg)
      (ruled_ok (met (entered s e) sent) sent.from sent.msg g
      (expire_ok G s.part (max s.wall e.wall) h))
  happens s e what.Resend g h = record {
    part = expire_ok G s.part (max s.wall e.wall) h;
    out = gives_ok (SaysAt G what.Resend) (entered s e) _
        (resends_go (SaysAt G what.Resend) (entered s e).part.shard s.coord);
  }
  happens s e what.Moment g h = calm (SaysAt G what.Moment) s e h

  -- out of memory

  abbrev WantOk : (Tag → ℕ → Type 0) → Option Wanting → Type 0
  WantOk T w = IfSome w (λ w. LetterOk T w.letter)

  wants : (T : Tag → ℕ → Type 0) (s : ShardState) (from : NodeId) (m : Msg)
      → WantOk T (wanting s from m)
  wants T s from (msg.Statement m) =
      either (elsewhere s.part m.lsid m.tag) (WantOk T) _ _ tt tt
  wants T s from (msg.Answer m) = tt
  wants T s from (msg.Commit m) = tt
  wants T s from (msg.Outcome m) = tt
  wants T s from (msg.Abort m) = tt
  wants T s from (msg.CommitTwo m) = either (is_some (router_of from)) (WantOk T) _ _ tt tt
  wants T s from (msg.Prepare m) = tt
  wants T s from (msg.Vote m) = tt
  wants T s from (msg.Decide m) = tt
  wants T s from (msg.Acked m) = tt
  wants T s from (msg.Recover m) = either (is_some (router_of from)) (WantOk T) _ _ tt tt
  wants T s from msg.Nudge = tt

  abbrev EachStep : (Tag → ℕ → Type 0) → Option CoreStep → Type 0
  EachStep T o = IfSome o (StepOk T)

  memory_told : (T : Tag → ℕ → Type 0) (s : ShardState) (bound : Option ℕ) (w : Option Wanting)
      → PartOk G s.part → WantOk T w
      → EachStep T (option_map (stepped bound) (option_and_then (told_if s) w))
  memory_told T s bound None h k = tt
  memory_told T s bound (Some w) h k =
      either (may_be_told s w) (λ (r : Option Ruled). EachStep T (option_map (stepped bound) r))
      (Some (told_memory s w)) None
      (rules T bound (told_memory s w) (record {
        part = memory_ok G s.part w.lsid w.tag h;
        out = one (LetterOk T) w.letter k;
      }))
      tt

  scarce_ok : (T : Tag → ℕ → Type 0) (s : ShardState) (e : NodeEvent) (w : Happening)
      → PartOk G s.part → EachStep T (scarce (entered s e) w)
  scarce_ok T s e (what.Client conn frame) h = tt
  scarce_ok T s e (what.Gone conn) h = tt
  scarce_ok T s e (what.Deliver sent) h =
      memory_told T (met (entered s e) sent) (ceiling_of (entered s e) sent)
      (wanting (met (entered s e) sent) sent.from sent.msg)
      (expire_ok G s.part (max s.wall e.wall) h)
      (wants T (met (entered s e) sent) sent.from sent.msg)
  scarce_ok T s e what.Resend h = tt
  scarce_ok T s e what.Moment h = tt

  unless_short : (T : Tag → ℕ → Type 0) (o : Option CoreStep) → EachStep T o → (other : CoreStep)
      → StepOk T other → StepOk T (unwrap_or o other)
  unless_short T None h other k = k
  unless_short T (Some o) h other k = h

  memory : (T : Tag → ℕ → Type 0) (s : ShardState) → PartOk G s.part
      → StepOk T (stays s answer.Memory)
  memory T s h = record { part = h; out = All-nil (SentOk T) }

  runs : (room : Room) (s : ShardState) (e : NodeEvent) → EndsAt G e.what → PartOk G s.part
      → StepOk (SaysAt G e.what) (running_step room s e)
  runs Ample s e g h = happens s e e.what g h
  runs Scarce s e g h = unless_short (SaysAt G e.what) (scarce (entered s e) e.what)
      (scarce_ok (SaysAt G e.what) s e e.what h) (stays s answer.Memory)
      (memory (SaysAt G e.what) s h)
  runs Short s e g h = memory (SaysAt G e.what) s h

  says : (T : Tag → ℕ → Type 0) (s : ShardState) (faults : ℕ) (from : NodeId) (m : Msg)
      → All (SentOk T) (given_out (says_stopped s faults from m))
  says T s faults from (msg.Statement m) =
      let l : Letter = participating.answer s from m 0 (Err (cause.Faulted faults)) in
      gives_ok T s (l ∷ []) (one (LetterOk T) l tt)
  says T s faults from other = All-nil (SentOk T)

  stopped_ok : (T : Tag → ℕ → Type 0) (s : ShardState) (faults : ℕ) (w : Happening)
      → All (SentOk T) (given_out (answer_stopped s faults w))
  stopped_ok T s faults (what.Deliver e) = says T s faults e.from e.msg
  stopped_ok T s faults other = All-nil (SentOk T)

  stops : (T : Tag → ℕ → Type 0) (room : Room) (s : ShardState) (faults : ℕ) (e : NodeEvent)
      → PartOk G s.part → StepOk T (stopped_step room s faults e)
  stops T Ample s faults e h = record { part = h; out = stopped_ok T s faults e.what }
  stops T Scarce s faults e h = memory T s h
  stops T Short s faults e h = memory T s h

  steps : (room : Room) (s : ShardState) (e : NodeEvent) (stopped : Option ℕ) → EndsAt G e.what
      → PartOk G s.part → StepOk (SaysAt G e.what) (step_if room s e stopped)
  steps room s e None g h = runs room s e g h
  steps room s e (Some faults) g h = stops (SaysAt G e.what) room s faults e h

  pub step_ok : (room : Room) (s : ShardState) (e : NodeEvent) → EndsAt G e.what → PartOk G s.part
      → StepOk (SaysAt G e.what) (core_step room s e)
  unfolding core_step
  step_ok room s e g h = steps room s e s.stopped g h
