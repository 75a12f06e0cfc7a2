-- What each message does at a shard, and what a step does.
use Rattle.std.proofs.Common.{◌≡◌, ℕ, ℤ, Option, Some, None, IfSome, Result, refl, nat_eq}
use Rattle.std.proofs.lemmas.List.Elements.{All-append}
use Rattle.txn_types.specs.Order.{same_tag, tag_cmp}
use Rattle.txn_types.specs.declared.cause.Cause.{Cause}
use Rattle.txn_types.specs.declared.decision.Decision.{Decision}
use Rattle.txn_types.specs.declared.decision.Told.{Told}
use Rattle.txn_types.specs.declared.message.Statement.{Statement}
use Rattle.txn_types.specs.declared.message.CommitTwo.{CommitTwo}
use Rattle.txn_types.specs.declared.message.Prepare.{Prepare}
use Rattle.txn_types.specs.declared.message.Vote.{Vote}
use Rattle.txn_types.specs.declared.message.Acked.{Acked}
use Rattle.txn_types.specs.declared.message.Decide.{Decide}
use Rattle.txn_types.specs.declared.message.Msg.{Msg}
use Rattle.txn_types.specs.declared.message.Msg.TheVariants as msg
use Rattle.txn_types.specs.declared.names.Tag.{Tag}
use Rattle.txn_types.specs.declared.node.NodeId.{NodeId}
use Rattle.session_table.specs.declared.session.Session.{Session}
use Rattle.session_table.specs.declared.session.SessionState.{SessionState}
use Rattle.session_table.specs.declared.session.SessionState.TheVariants as state
use Rattle.journal_rec.specs.declared.record.Decided.{Decided}
use Rattle.journal_rec.specs.declared.record.Rec.{Rec}
use Rattle.journal_rec.specs.declared.record.Rec.TheVariants as rec
use Rattle.coordinator.specs.TwoPhase.{Coordinated, coordinated_of, decided_by, with_asker}
use Rattle.coordinator.specs.TwoPhase.{undecided}
use Rattle.participant.specs.declared.said.Said.{Said}
use Rattle.participant.specs.declared.said.Said.TheVariants.{Did, Blocked, Refused, Late}
use Rattle.participant.specs.Part.{Part, session, elsewhere, aborted}
use Rattle.participant.specs.Statement.{statement}
use Rattle.participant.specs.Commit.{commit}
use Rattle.participant.specs.Prepare.{prepare}
use Rattle.participant.specs.Decide.{decide}
use Rattle.participant.specs.Recover.{recover}
use Rattle.participant.proofs.Cases.{either}
use Rattle.shard_core.specs.State.{ShardState, with_part}
use Rattle.shard_core.specs.Ruled.{Ruled, quiet, coordinates}
use Rattle.shard_core.specs.Participating.{answers, outcome_if, vote_if, decided_record, changed}
use Rattle.shard_core.specs.Coordinating.{asks, tells, starts, plan_of, told_of, unless_coordinated}
use Rattle.shard_core.specs.Coordinating.{unless_older, unless_known, larger_number, starts_own}
use Rattle.shard_core.specs.Coordinating.{starts_new, votes_on, votes_if, acks_if, on_commit_two}
use Rattle.shard_core.specs.Coordinating.{on_recover, recovers}
use Rattle.shard_core.specs.Rules.{ruled, from_router, router_of}
use Rattle.txn_types.specs.Letters.{Named}
use Rattle.shard_core.specs.Effect.{Same, MayRecord, plan_name, NamesOnly, AllName, Effect}
use Rattle.world_laws.proofs.Numbers.{statement_same, abort_same, recover_same, decide_as}
use Rattle.world_laws.proofs.Numbers.{commit_as, prepare_as, CommitsAt, PreparesAt}
use Rattle.world_laws.proofs.Naming.{nothing, one, each, put_all, found, voted_plans, acked_plans}
use Rattle.world_laws.proofs.Naming.{prepares_name, decides_name, resends_name}

unchanged : (p : Part) → Same p p
unchanged p = record { shard = refl; boot = refl }

quiet_does : (P : Named → Type 0) (s : ShardState) (m : Msg) → Effect P s m (quiet s)
quiet_does P s m = record {
  wall = refl;
  stopped = refl;
  same = unchanged s.part;
  recorded = tt;
  plans = λ a b. b;
  names = λ a b. nothing (NamesOnly P);
}

-- Statements and ends.

answers_do : (P : Named → Type 0) (s : ShardState) (p : Part) (to : NodeId) (m : Statement)
    (said : Said) → Same s.part p → Effect P s (msg.Statement m) (answers (with_part s p) to m said)
answers_do P s p to m (Did read_at reply wrote) h = record {
  wall = refl;
  stopped = refl;
  same = h;
  recorded = tt;
  plans = λ a b. b;
  names = λ a b. one (NamesOnly P) _ tt;
}
answers_do P s p to m (Blocked held) h = record {
  wall = refl;
  stopped = refl;
  same = h;
  recorded = tt;
  plans = λ a b. b;
  names = λ a b. nothing (NamesOnly P);
}
answers_do P s p to m (Refused why read_at) h = record {
  wall = refl;
  stopped = refl;
  same = h;
  recorded = tt;
  plans = λ a b. b;
  names = λ a b. one (NamesOnly P) _ tt;
}
answers_do P s p to m Late h = record {
  wall = refl;
  stopped = refl;
  same = h;
  recorded = tt;
  plans = λ a b. b;
  names = λ a b. nothing (NamesOnly P);
}

outcome_names : (P : Named → Type 0) (s : ShardState) (tag : Tag) (to : NodeId) (t : Option Told)
    → AllName P (outcome_if s tag to t)
outcome_names P s tag to None = nothing (NamesOnly P)
outcome_names P s tag to (Some t) = one (NamesOnly P) _ tt

vote_names : (P : Named → Type 0) (s : ShardState) (m : Prepare) (v : Option (Result ℕ Cause))
    → AllName P (vote_if s m v)
vote_names P s m None = nothing (NamesOnly P)
vote_names P s m (Some vote) = one (NamesOnly P) _ tt

commit_records : (s new : ShardState) (m : Msg) (r : Option Rec)
    → IfSome r (CommitsAt new.clock.last) → IfSome r (MayRecord s m new)
commit_records s new m None h = tt
commit_records s new m (Some (rec.Commit tag lsid number read_at at writes)) h = h
commit_records s new m (Some (rec.Boot boot)) h = h
commit_records s new m (Some (rec.Ceiling bound)) h = h
commit_records s new m (Some (rec.Prepared tag lsid number boot read_at at coordinator writes)) h =
    absurd h
commit_records s new m (Some (rec.Decided d)) h = absurd h
commit_records s new m (Some (rec.CoordStart tag lsid number parts)) h = absurd h
commit_records s new m (Some (rec.CoordDecision tag d)) h = absurd h
commit_records s new m (Some (rec.CoordEnd tag)) h = absurd h
commit_records s new m (Some (rec.Floor floor)) h = h

prepare_records : (s new : ShardState) (m : Msg) (r : Option Rec)
    → IfSome r (PreparesAt new.clock.last) → IfSome r (MayRecord s m new)
prepare_records s new m None h = tt
prepare_records s new m (Some (rec.Commit tag lsid number read_at at writes)) h = absurd h
prepare_records s new m (Some (rec.Boot boot)) h = h
prepare_records s new m (Some (rec.Ceiling bound)) h = h
prepare_records s new m (Some (rec.Prepared tag lsid number boot read_at at coordinator writes)) h =
    h
prepare_records s new m (Some (rec.Decided d)) h = absurd h
prepare_records s new m (Some (rec.CoordStart tag lsid number parts)) h = absurd h
prepare_records s new m (Some (rec.CoordDecision tag d)) h = absurd h
prepare_records s new m (Some (rec.CoordEnd tag)) h = absurd h
prepare_records s new m (Some (rec.Floor floor)) h = h

decided_records : (s new : ShardState) (m : Decide) (d : Option Decided) → IfSome d (λ r. r.decision
    ≡ m.decision) → IfSome (decided_record d) (MayRecord s (msg.Decide m) new)
decided_records s new m None h = tt
decided_records s new m (Some d) h = (m, refl, h)

-- The coordinator.

tells_do : (P : Named → Type 0) (s : ShardState) (m : Msg) (router : ℕ) (tag : Tag) (t : Told)
    (p : Part) → Same s.part p → Effect P s m (tells (with_part s p) router tag t)
tells_do P s m router tag t p h = record {
  wall = refl;
  stopped = refl;
  same = h;
  recorded = tt;
  plans = λ a b. b;
  names = λ a b. one (NamesOnly P) _ tt;
}

asks_do : (P : Named → Type 0) (s : ShardState) (m : Msg) (router : ℕ) (tag : Tag)
    (c : Coordinated) (d : Option Decision) → coordinated_of s.coord tag ≡ Some c
    → Effect P s m (asks s router tag c d)
asks_do P s m router tag c None e =
    record {
      wall = refl;
      stopped = refl;
      same = unchanged s.part;
      recorded = tt;
      plans = λ a b. put_all tag_cmp (λ x. P (plan_name x)) tag (with_asker router c) s.coord
          (found (λ x. P (plan_name x)) tag s.coord b c e) b;
      names = λ a b. nothing (NamesOnly P);
    }
asks_do P s m router tag c (Some d) e =
    tells_do P s m router tag (told_of d) s.part (unchanged s.part)

coordinated_does : (P : Named → Type 0) (s : ShardState) (m : Msg) (router : ℕ) (tag : Tag)
    (c : Option Coordinated) (other : Ruled) → coordinated_of s.coord tag ≡ c → Effect P s m other
    → Effect P s m (unless_coordinated s router tag c other)
coordinated_does P s m router tag None other e h = h
coordinated_does P s m router tag (Some c) other e h = asks_do P s m router tag c c.decision e

older_does : (P : Named
    → Type 0) (s : ShardState) (m : Msg) (router : ℕ) (tag : Tag) (have : Option ℤ) (other : Ruled)
    → Effect P s m other → Effect P s m (unless_older s router tag have other)
older_does P s m router tag None other h = h
older_does P s m router tag (Some have) other h =
    tells_do P s m router tag _ s.part (unchanged s.part)

known_does : (P : Named → Type 0) (s : ShardState) (m : Msg) (router : ℕ) (tag : Tag)
    (own : Option Session) (number : ℤ) (other : Ruled) → Effect P s m other
    → Effect P s m (unless_known s router tag own number other)
known_does P s m router tag own number other h =
    older_does P s m router tag (larger_number own number)
    (unless_coordinated s router tag (coordinated_of s.coord tag) other)
    (coordinated_does P s m router tag (coordinated_of s.coord tag) other refl h)

starts_does : (P : Named → Type 0) (s : ShardState) (router : ℕ) (m : CommitTwo)
    → Effect P s (msg.CommitTwo m) (starts s router m)
starts_does P s router m =
    record {
      wall = refl;
      stopped = refl;
      same = unchanged s.part;
      recorded = refl;
      plans = λ a b. put_all tag_cmp (λ x. P (plan_name x)) m.tag (with_asker router
          (undecided (plan_of m))) s.coord a b;
      names = λ a b. prepares_name P s.part.shard m.tag (plan_of m) a m.parts;
    }

starts_own_does : (P : Named → Type 0) (s : ShardState) (router : ℕ) (m : CommitTwo) (own : Session)
    (st : SessionState) → Effect P s (msg.CommitTwo m) (starts_own s router m own st)
starts_own_does P s router m own state.Live =
    either (nat_eq m.boot s.part.boot) (Effect P s (msg.CommitTwo m)) _ _ (starts_does P s router m)
    (tells_do P s (msg.CommitTwo m) router m.tag _ (aborted s.part m.lsid own _)
    (record { shard = refl; boot = refl }))
starts_own_does P s router m own (state.Prepared at coordinator) = quiet_does P s (msg.CommitTwo m)
starts_own_does P s router m own (state.Committed at) =
    tells_do P s (msg.CommitTwo m) router m.tag _ s.part (unchanged s.part)
starts_own_does P s router m own state.Released = quiet_does P s (msg.CommitTwo m)
starts_own_does P s router m own (state.Aborted why read_at) =
    tells_do P s (msg.CommitTwo m) router m.tag _ s.part (unchanged s.part)

starts_new_does : (P : Named → Type 0) (s : ShardState) (router : ℕ) (m : CommitTwo)
    (own : Option Session) → Effect P s (msg.CommitTwo m) (starts_new s router m own)
starts_new_does P s router m None =
    tells_do P s (msg.CommitTwo m) router m.tag _ s.part (unchanged s.part)
starts_new_does P s router m (Some own) =
    either (same_tag own.tag m.tag) (Effect P s (msg.CommitTwo m)) _ _ (starts_own_does P s router m
    own own.state) (tells_do P s (msg.CommitTwo m) router m.tag _ s.part (unchanged s.part))

votes_on_does : (P : Named → Type 0) (s : ShardState) (m : Vote) (c : Coordinated)
    (d : Option Decision) → coordinated_of s.coord m.tag ≡ Some c → decided_by m.shard m.vote c ≡ d
    → Effect P s (msg.Vote m) (votes_on s m c d)
votes_on_does P s m c None e t =
    record {
      wall = refl;
      stopped = refl;
      same = unchanged s.part;
      recorded = tt;
      plans = λ a b. voted_plans P m.tag m.shard m.vote c s.coord (found (λ x. P (plan_name x))
          m.tag s.coord b c e) b;
      names = λ a b. nothing (NamesOnly P);
    }
votes_on_does P s m c (Some d) e t =
    record {
      wall = refl;
      stopped = refl;
      same = unchanged s.part;
      recorded =
          record { vote = m; is = refl; tag_is = refl; coordinated = c; there = e; decides = t };
      plans = λ a b. voted_plans P m.tag m.shard m.vote c s.coord (found (λ x. P (plan_name x))
          m.tag s.coord b c e) b;
      names = λ a b. All-append (NamesOnly P) _ _ (each (NamesOnly P) _ c.askers (λ x. tt))
          (decides_name P m.tag c.plan d (found (λ x. P (plan_name x)) m.tag s.coord b c e)
          c.plan.parts);
    }

votes_do : (P : Named → Type 0) (s : ShardState) (m : Vote) (c : Option Coordinated)
    → coordinated_of s.coord m.tag ≡ c → Effect P s (msg.Vote m) (votes_if s m c)
votes_do P s m None e = quiet_does P s (msg.Vote m)
votes_do P s m (Some c) e = votes_on_does P s m c (decided_by m.shard m.vote c) e refl

acks_do : (P : Named → Type 0) (s : ShardState) (m : Acked) (c : Option Coordinated)
    → coordinated_of s.coord m.tag ≡ c → Effect P s (msg.Acked m) (acks_if s m c)
acks_do P s m None e = quiet_does P s (msg.Acked m)
acks_do P s m (Some c) e =
    record {
      wall = refl;
      stopped = refl;
      same = unchanged s.part;
      recorded = either _ (λ (r : Option Rec). IfSome r (MayRecord s (msg.Acked m)
          (acks_if s m (Some c)).core)) (Some (rec.CoordEnd m.tag)) None tt tt;
      plans = λ a b. acked_plans P m.tag m.shard c s.coord (found (λ x. P (plan_name x)) m.tag
          s.coord b c e) b;
      names = λ a b. nothing (NamesOnly P);
    }

router_does : (P : Named → Type 0) (s : ShardState) (m : Msg) (rule : ℕ → Ruled) (router : Option ℕ)
    → ((n : ℕ) → Effect P s m (rule n)) → Effect P s m (from_router s rule router)
router_does P s m rule None h = quiet_does P s m
router_does P s m rule (Some router) h = h router

-- each message

pub ruled_does : (P : Named → Type 0) (s : ShardState) (from : NodeId) (m : Msg)
    → Effect P s m (ruled s from m)
ruled_does P s from (msg.Statement m) =
    let turn = statement s.part s.clock.last s.wall m in
    either (elsewhere s.part m.lsid m.tag) (Effect P s (msg.Statement m)) _ _
    (quiet_does P s (msg.Statement m))
    (answers_do P s turn.1 from m turn.0 (statement_same s.part s.clock.last s.wall m))
ruled_does P s from (msg.Answer m) = quiet_does P s (msg.Answer m)
ruled_does P s from (msg.Commit m) =
    let h = commit_as s.part s.clock.last s.wall m in
    record {
      wall = refl;
      stopped = refl;
      same = h.0;
      recorded = commit_records s (changed s (commit s.part s.clock.last s.wall m)) (msg.Commit m)
          (commit s.part s.clock.last s.wall m).rec h.1;
      plans = λ a b. b;
      names = λ a b. outcome_names P s m.tag from _;
    }
ruled_does P s from (msg.Outcome m) = quiet_does P s (msg.Outcome m)
ruled_does P s from (msg.Abort m) =
    either (coordinates s m.tag) (Effect P s (msg.Abort m)) _ _ (quiet_does P s (msg.Abort m))
    (record {
      wall = refl;
      stopped = refl;
      same = abort_same s.part m;
      recorded = tt;
      plans = λ a b. b;
      names = λ a b. nothing (NamesOnly P);
    })
ruled_does P s from (msg.CommitTwo m) =
    router_does P s (msg.CommitTwo m) (λ router. on_commit_two s router m) (router_of from)
    (λ router. known_does P s (msg.CommitTwo m) router m.tag (session s.part m.lsid) m.number _
    (starts_new_does P s router m (session s.part m.lsid)))
ruled_does P s from (msg.Prepare m) =
    let h = prepare_as s.part s.clock.last s.wall m in
    record {
      wall = refl;
      stopped = refl;
      same = h.0;
      recorded = prepare_records s (changed s (prepare s.part s.clock.last s.wall m))
          (msg.Prepare m) (prepare s.part s.clock.last s.wall m).rec h.1;
      plans = λ a b. b;
      names = λ a b. vote_names P s m _;
    }
ruled_does P s from (msg.Vote m) = votes_do P s m (coordinated_of s.coord m.tag) refl
ruled_does P s from (msg.Decide m) =
    let h = decide_as s.part m in
    record {
      wall = refl;
      stopped = refl;
      same = h.0;
      recorded = decided_records s (with_part s (decide s.part m).1) m (decide s.part m).0 h.1;
      plans = λ a b. b;
      names = λ a b. one (NamesOnly P) _ tt;
    }
ruled_does P s from (msg.Acked m) = acks_do P s m (coordinated_of s.coord m.tag) refl
ruled_does P s from (msg.Recover m) =
    router_does P s (msg.Recover m) (λ router. on_recover s router m) (router_of from)
    (λ router. known_does P s (msg.Recover m) router m.tag (session s.part m.lsid) m.number
    (recovers s router m)
    (tells_do P s (msg.Recover m) router m.tag (recover s.part m).0 (recover s.part m).1
    (recover_same s.part m)))
ruled_does P s from msg.Nudge =
    record {
      wall = refl;
      stopped = refl;
      same = unchanged s.part;
      recorded = tt;
      plans = λ a b. b;
      names = λ a b. resends_name P s.part.shard s.coord b;
    }
