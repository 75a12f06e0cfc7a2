-- A shard's step: how its sessions go on, and that what it coordinates, records and sends of boots
-- is known.
use Rattle.std.proofs.Common.{◌≡◌, ℕ, ℤ, max, nat_eq, map, All, List, [], ◌∷◌, Option, Some, None}
use Rattle.std.proofs.Common.{IfSome, option_map, option_and_then, unwrap_or, is_some, not, Result}
use Rattle.std.proofs.Common.{Err, refl, sym, subst}
use Rattle.std.proofs.lemmas.List.Elements.{All-nil, All-head, All-tail, All-append, All-map}
use Rattle.std.proofs.lemmas.List.Elements.{All-filter}
use Rattle.txn_types.specs.Letters.{Letter, sent_by, Named, given_out, named_in}
use Rattle.txn_types.specs.Order.{same_tag, tag_cmp}
use Rattle.txn_types.specs.declared.cause.Cause.{Cause}
use Rattle.txn_types.specs.declared.cause.Cause.TheVariants as cause
use Rattle.txn_types.specs.declared.decision.Decision.{Decision}
use Rattle.txn_types.specs.declared.decision.Told.{Told}
use Rattle.txn_types.specs.declared.event.Happening.{Happening}
use Rattle.txn_types.specs.declared.event.Happening.TheVariants as what
use Rattle.txn_types.specs.declared.event.NodeAnswer.TheVariants as answer
use Rattle.txn_types.specs.declared.event.NodeEvent.{NodeEvent}
use Rattle.txn_types.specs.declared.message.Acked.{Acked}
use Rattle.txn_types.specs.declared.message.Answer.{Answer}
use Rattle.txn_types.specs.declared.message.CommitTwo.{CommitTwo}
use Rattle.txn_types.specs.declared.message.Msg.{Msg}
use Rattle.txn_types.specs.declared.message.Msg.TheVariants as msg
use Rattle.txn_types.specs.declared.message.Outcome.{Outcome}
use Rattle.txn_types.specs.declared.message.Prepare.{Prepare}
use Rattle.txn_types.specs.declared.message.Statement.{Statement}
use Rattle.txn_types.specs.declared.message.Vote.{Vote}
use Rattle.txn_types.specs.declared.names.Tag.{Tag}
use Rattle.txn_types.specs.declared.node.NodeId.{NodeId}
use Rattle.txn_types.specs.declared.node.NodeId.TheVariants.{Shard, Router}
use Rattle.session_table.specs.declared.session.Session.{Session}
use Rattle.session_table.specs.declared.session.SessionState.{SessionState}
use Rattle.session_table.specs.declared.session.SessionState.TheVariants as state
use Rattle.version_store.specs.declared.version.Held.{Held}
use Rattle.journal_rec.specs.declared.record.Decided.{Decided}
use Rattle.journal_rec.specs.declared.record.Rec.{Rec}
use Rattle.journal_rec.specs.declared.record.Rec.TheVariants as rec
use Rattle.coordinator.specs.declared.plan.Plan.{Plan}
use Rattle.coordinator.specs.TwoPhase.{Coordinated, Coordinations, coordinated_of, decided_by}
use Rattle.coordinator.specs.TwoPhase.{with_asker, undecided, counts, voted, behind_vote, acked}
use Rattle.coordinator.specs.TwoPhase.{ack_counts, all_acked, with_ack, has_voted, prepare_to}
use Rattle.coordinator.specs.TwoPhase.{decide_to, resends, resends_by, is_last_ack}
use Rattle.participant.specs.declared.said.Said.{Said}
use Rattle.participant.specs.declared.said.Said.TheVariants.{Did, Blocked, Refused, Late}
use Rattle.participant.specs.Part.{Part, session, elsewhere, aborted}
use Rattle.participant.specs.Statement.{statement}
use Rattle.participant.specs.Commit.{commit}
use Rattle.participant.specs.Prepare.{prepare}
use Rattle.participant.specs.Decide.{decide}
use Rattle.participant.specs.Abort.{abort}
use Rattle.participant.specs.Recover.{recover}
use Rattle.participant.proofs.Cases.{either}
use Rattle.shard_core.specs.State.{ShardState, met, ceiling_of, with_part}
use Rattle.shard_core.specs.Ruled.{Ruled, quiet, coordinates}
use Rattle.shard_core.specs.Participating as participating
use Rattle.shard_core.specs.Participating.{answers, outcome_if, vote_if, decided_record}
use Rattle.shard_core.specs.Coordinating.{asks, tells, starts, fails, is_lost, plan_of, told_of}
use Rattle.shard_core.specs.Coordinating.{unless_coordinated, unless_older, unless_known}
use Rattle.shard_core.specs.Coordinating.{larger_number, starts_own, starts_new, votes_on, votes_if}
use Rattle.shard_core.specs.Coordinating.{acks_if, on_commit_two, on_recover, recovers}
use Rattle.shard_core.specs.Rules.{ruled, from_router, router_of}
use Rattle.shard_core.specs.Wanting.{wanting, Wanting, told_if, told_memory, may_be_told}
use Rattle.shard_core.specs.Core.{Room, Ample, Scarce, Short, CoreStep, core_step, step_if, stepped}
use Rattle.shard_core.specs.Core.{stays, entered, happened, scarce, running_step, stopped_step}
use Rattle.shard_core.specs.Core.{answer_stopped, says_stopped, gives_out, answer_of}
use Rattle.known_laws.specs.Known.{PartNamed, RecNamed, PartsKnown, AskedKnown, KnownTo}
use Rattle.known_laws.specs.Known.{LetterKnown, EnvKnown, EventKnown, PlanKnown, PlansKnown}
use Rattle.known_laws.specs.Known.{BeginsKnown, Answered}
use Rattle.known_laws.proofs.Sessions.{Moves, TurnMoves, Own, stays as part_stays, follows}
use Rattle.known_laws.proofs.Sessions.{aborted_moves, statement_moves, expire_moves, memory_moves}
use Rattle.known_laws.proofs.Sessions.{abort_moves, recover_moves, decide_moves, commit_moves}
use Rattle.known_laws.proofs.Sessions.{prepare_moves}
use Rattle.world_laws.proofs.Naming.{one, each, each_of, put_all, taken_all, found, vote_plan}

-- what a rule leaves, records and sends
pub record RuledKnown (P : Named → Type 0) (B : ℕ → ℕ → Named → Type 0) (s : ShardState)
    (r : Ruled) : Type 0 where
  pub moves : Moves P s.part r.core.part
  pub plans : PlansKnown B r.core.coord
  pub rec : IfSome r.rec (λ x. RecNamed P x × BeginsKnown B x)
  pub out : All (LetterKnown B (Answered P r.core.part)) r.out

outcome_to : (B : ℕ → ℕ → Named → Type 0) (A : Answer → Type 0) (to : NodeId) (o : Outcome)
    → KnownTo B A to (msg.Outcome o)
outcome_to B A (Shard n) o = tt
outcome_to B A (Router n) o = tt

acked_to : (B : ℕ → ℕ → Named → Type 0) (A : Answer → Type 0) (to : NodeId) (a : Acked)
    → KnownTo B A to (msg.Acked a)
acked_to B A (Shard n) a = tt
acked_to B A (Router n) a = tt

answer_to : (B : ℕ → ℕ → Named → Type 0) (A : Answer → Type 0) (to : NodeId) (a : Answer) → A a
    → KnownTo B A to (msg.Answer a)
answer_to B A (Shard n) a h = tt
answer_to B A (Router n) a h = h

none : (P : Named → Type 0) (B : ℕ → ℕ → Named → Type 0) (p : Part)
    → All (LetterKnown B (Answered P p)) []
none P B p = All-nil (LetterKnown B (Answered P p))

quiet_known : (P : Named → Type 0) (B : ℕ → ℕ → Named → Type 0) (s : ShardState)
    → PlansKnown B s.coord → RuledKnown P B s (quiet s)
quiet_known P B s c =
    record { moves = part_stays P s.part; plans = c; rec = tt; out = none P B s.part }

-- with another part, and nothing given out
part_known : (P : Named → Type 0) (B : ℕ → ℕ → Named → Type 0) (s : ShardState) (q : Part)
    → Moves P s.part q → PlansKnown B s.coord → RuledKnown P B s (quiet (with_part s q))
part_known P B s q k c = record { moves = k; plans = c; rec = tt; out = none P B q }

-- Statements and ends.

answers_known : (P : Named → Type 0) (B : ℕ → ℕ → Named
    → Type 0) (s : ShardState) (q : Part) (to : NodeId) (m : Statement) (said : Said)
    → P (record { tag = m.tag; lsid = m.lsid; number = m.number }) → TurnMoves P s.part m (said, q)
    → PlansKnown B s.coord
    → RuledKnown P B s (answers (with_part s q) to m said)
answers_known P B s q to m (Did at reply wrote) this k c = record {
  moves = k.moves;
  plans = c;
  rec = tt;
  out = one (LetterKnown B (Answered P q)) _ (answer_to B (Answered P q) to _ (record {
    shard = refl;
    boot = refl;
    done = (
      record { tag = m.tag; lsid = m.lsid; number = m.number },
      this,
      refl,
      k.did at reply wrote refl,
    );
  }));
}
answers_known P B s q to m (Blocked held) this k c =
    record { moves = k.moves; plans = c; rec = tt; out = none P B q }
answers_known P B s q to m (Refused why at) this k c =
    record {
      moves = k.moves;
      plans = c;
      rec = tt;
      out = one (LetterKnown B (Answered P q)) _ (answer_to B (Answered P q) to _
          (record { shard = refl; boot = refl; done = tt }));
    }
answers_known P B s q to m Late this k c = part_known P B s q k.moves c

outcome_known : (P : Named → Type 0) (B : ℕ → ℕ → Named
    → Type 0) (p : Part) (s : ShardState) (tag : Tag) (to : NodeId) (t : Option Told)
    → All (LetterKnown B (Answered P p)) (outcome_if s tag to t)
outcome_known P B p s tag to None = none P B p
outcome_known P B p s tag to (Some t) =
    one (LetterKnown B (Answered P p)) _ (outcome_to B (Answered P p) to _)

vote_known : (P : Named → Type 0) (B : ℕ → ℕ → Named → Type 0) (p : Part) (s : ShardState)
    (m : Prepare) (v : Option (Result ℕ Cause)) → All (LetterKnown B (Answered P p)) (vote_if s m v)
vote_known P B p s m None = none P B p
vote_known P B p s m (Some vote) = one (LetterKnown B (Answered P p)) _ tt

-- a participant's record is of a commit alone, or of a prepared transaction

abbrev Both : (Named → Type 0) → (ℕ → ℕ → Named → Type 0) → Option Rec → Type 0
Both P B r = IfSome r (λ x. RecNamed P x × BeginsKnown B x)

own_known : (P : Named → Type 0) (B : ℕ → ℕ → Named → Type 0) (x : Rec) → Own P x
    → RecNamed P x × BeginsKnown B x
own_known P B (rec.Boot boot) h = absurd h
own_known P B (rec.Ceiling bound) h = absurd h
own_known P B (rec.Commit tag lsid number read_at at writes) h = (h, tt)
own_known P B (rec.Prepared tag lsid number boot read_at at coordinator writes) h = (h, tt)
own_known P B (rec.Decided d) h = absurd h
own_known P B (rec.CoordStart tag lsid number parts) h = absurd h
own_known P B (rec.CoordDecision tag d) h = absurd h
own_known P B (rec.CoordEnd tag) h = absurd h
own_known P B (rec.Floor floor) h = absurd h

recorded_known : (P : Named → Type 0) (B : ℕ → ℕ → Named → Type 0) (r : Option Rec)
    → IfSome r (Own P) → Both P B r
recorded_known P B None h = tt
recorded_known P B (Some x) h = own_known P B x h

decided_known : (P : Named → Type 0) (B : ℕ → ℕ → Named → Type 0) (d : Option Decided)
    → IfSome d (λ x. P (record { tag = x.tag; lsid = x.lsid; number = x.number }))
    → IfSome (decided_record d) (λ x. RecNamed P x × BeginsKnown B x)
decided_known P B None h = tt
decided_known P B (Some d) h = (h, tt)

-- The coordinator.

tells_known : (P : Named → Type 0) (B : ℕ → ℕ → Named
    → Type 0) (s : ShardState) (q : Part) (router : ℕ) (tag : Tag) (t : Told) → Moves P s.part q
    → PlansKnown B s.coord → RuledKnown P B s (tells (with_part s q) router tag t)
tells_known P B s q router tag t k c =
    record { moves = k; plans = c; rec = tt; out = one (LetterKnown B (Answered P q)) _ tt }

told_known : (P : Named → Type 0) (B : ℕ → ℕ → Named → Type 0) (s : ShardState) (router : ℕ)
    (tag : Tag) (t : Told) → PlansKnown B s.coord → RuledKnown P B s (tells s router tag t)
told_known P B s router tag t c = tells_known P B s s.part router tag t (part_stays P s.part) c

plan_known : (B : ℕ → ℕ → Named → Type 0) (coords : Coordinations) (tag : Tag) (c : Coordinated)
    → coordinated_of coords tag ≡ Some c → PlansKnown B coords → PlanKnown B (tag, c)
plan_known B coords tag c e h = found (PlanKnown B) tag coords h c e

asks_known : (P : Named → Type 0) (B : ℕ → ℕ → Named → Type 0) (s : ShardState) (router : ℕ)
    (tag : Tag) (c : Coordinated) (d : Option Decision) → coordinated_of s.coord tag ≡ Some c
    → PlansKnown B s.coord → RuledKnown P B s (asks s router tag c d)
asks_known P B s router tag c None e h = record {
  moves = part_stays P s.part;
  plans = put_all tag_cmp (PlanKnown B) tag (with_asker router c) s.coord (plan_known B s.coord
      tag c e h) h;
  rec = tt;
  out = none P B s.part;
}
asks_known P B s router tag c (Some d) e h = told_known P B s router tag (told_of d) h

coordinated_known : (P : Named → Type 0) (B : ℕ → ℕ → Named
    → Type 0) (s : ShardState) (router : ℕ) (tag : Tag) (c : Option Coordinated) (other : Ruled)
    → coordinated_of s.coord tag ≡ c → PlansKnown B s.coord → RuledKnown P B s other
    → RuledKnown P B s (unless_coordinated s router tag c other)
coordinated_known P B s router tag None other e h k = k
coordinated_known P B s router tag (Some c) other e h k =
    asks_known P B s router tag c c.decision e h

older_known : (P : Named → Type 0) (B : ℕ → ℕ → Named → Type 0) (s : ShardState) (router : ℕ)
    (tag : Tag) (have : Option ℤ) (other : Ruled) → PlansKnown B s.coord → RuledKnown P B s other
    → RuledKnown P B s (unless_older s router tag have other)
older_known P B s router tag None other h k = k
older_known P B s router tag (Some have) other h k = told_known P B s router tag _ h

known_known : (P : Named → Type 0) (B : ℕ → ℕ → Named → Type 0) (s : ShardState) (router : ℕ)
    (tag : Tag) (has : Option Session) (number : ℤ) (other : Ruled) → PlansKnown B s.coord
    → RuledKnown P B s other
    → RuledKnown P B s (unless_known s router tag has number other)
known_known P B s router tag has number other h k =
    older_known P B s router tag (larger_number has number)
    (unless_coordinated s router tag (coordinated_of s.coord tag) other) h
    (coordinated_known P B s router tag (coordinated_of s.coord tag) other refl h k)

prepares_go : (P : Named → Type 0) (B : ℕ → ℕ → Named
    → Type 0) (p : Part) (own : ℕ) (tag : Tag) (plan : Plan) (parts : List (ℕ × ℕ))
    → PartsKnown B (record { tag = tag; lsid = plan.lsid; number = plan.number }) parts
    → All (LetterKnown B (Answered P p)) (map (prepare_to own tag plan) parts)
prepares_go P B p own tag plan parts h =
    each_of (λ (part : ℕ × ℕ).
    B part.0 part.1 (record { tag = tag; lsid = plan.lsid; number = plan.number }))
    (LetterKnown B (Answered P p)) (prepare_to own tag plan) (λ part k. k) parts h

decides_go : (P : Named → Type 0) (B : ℕ → ℕ → Named
    → Type 0) (p : Part) (tag : Tag) (plan : Plan) (d : Decision) (parts : List (ℕ × ℕ))
    → All (LetterKnown B (Answered P p)) (map (decide_to tag plan d) parts)
decides_go P B p tag plan d parts =
    each (LetterKnown B (Answered P p)) (decide_to tag plan d) parts (λ x. tt)

starts_known : (P : Named → Type 0) (B : ℕ → ℕ → Named → Type 0) (s : ShardState) (router : ℕ) (m :
    CommitTwo) → PartsKnown B (record { tag = m.tag; lsid = m.lsid; number = m.number }) m.parts
    → PlansKnown B s.coord → RuledKnown P B s (starts s router m)
starts_known P B s router m p c = record {
  moves = part_stays P s.part;
  plans =
      put_all tag_cmp (PlanKnown B) m.tag (with_asker router (undecided (plan_of m))) s.coord p c;
  rec = (tt, p);
  out = prepares_go P B s.part s.part.shard m.tag (plan_of m) m.parts p;
}

starts_own_known : (P : Named → Type 0) (B : ℕ → ℕ → Named → Type 0) (s : ShardState) (router : ℕ)
    (m : CommitTwo) (own : Session) (st : SessionState) → session s.part m.lsid ≡ Some own
    → PartsKnown B (record { tag = m.tag; lsid = m.lsid; number = m.number }) m.parts
    → PlansKnown B s.coord → RuledKnown P B s (starts_own s router m own st)
starts_own_known P B s router m own state.Live is p c =
    either (nat_eq m.boot s.part.boot) (RuledKnown P B s) (starts s router m) (fails s router m own
    (cause.Unavailable m.boot s.part.boot)) (starts_known P B s router m p c)
    (tells_known P B s (aborted s.part m.lsid own (cause.Unavailable m.boot s.part.boot)) router
    m.tag _ (aborted_moves P s.part m.lsid own (cause.Unavailable m.boot s.part.boot) is) c)
starts_own_known P B s router m own (state.Prepared at coordinator) is p c = quiet_known P B s c
starts_own_known P B s router m own (state.Committed at) is p c = told_known P B s router m.tag _ c
starts_own_known P B s router m own state.Released is p c = quiet_known P B s c
starts_own_known P B s router m own (state.Aborted why read_at) is p c =
    told_known P B s router m.tag _ c

starts_new_known : (P : Named → Type 0) (B : ℕ → ℕ → Named → Type 0) (s : ShardState)
    (router : ℕ) (m : CommitTwo) (own : Option Session) → session s.part m.lsid ≡ own
    → PartsKnown B (record { tag = m.tag; lsid = m.lsid; number = m.number }) m.parts
    → PlansKnown B s.coord → RuledKnown P B s (starts_new s router m own)
starts_new_known P B s router m None is p c = told_known P B s router m.tag _ c
starts_new_known P B s router m (Some own) is p c =
    either (same_tag own.tag m.tag) (RuledKnown P B s) (starts_own s router m own own.state)
    (is_lost s router m) (starts_own_known P B s router m own own.state is p c)
    (told_known P B s router m.tag _ c)

voted_known : (B : ℕ → ℕ → Named → Type 0) (tag : Tag) (shard : ℕ) (vote : Result ℕ Cause)
    (c : Coordinated) (coords : Coordinations) → PlanKnown B (tag, c) → PlansKnown B coords
    → PlansKnown B (voted tag shard vote c coords)
voted_known B tag shard vote c coords this h =
    either (counts shard c) (PlansKnown B) _ _
    (put_all tag_cmp (PlanKnown B) tag (behind_vote shard vote c) coords
    (subst (λ (p : Plan). PartsKnown B (record { tag = tag; lsid = p.lsid; number = p.number })
    p.parts) (sym (vote_plan shard vote c)) this) h) h

votes_on_known : (P : Named → Type 0) (B : ℕ → ℕ → Named
    → Type 0) (s : ShardState) (m : Vote) (c : Coordinated) (d : Option Decision)
    → PlanKnown B (m.tag, c) → PlansKnown B s.coord → RuledKnown P B s (votes_on s m c d)
votes_on_known P B s m c None this h =
    record {
      moves = part_stays P s.part;
      plans = voted_known B m.tag m.shard m.vote c s.coord this h;
      rec = tt;
      out = none P B s.part;
    }
votes_on_known P B s m c (Some d) this h = record {
  moves = part_stays P s.part;
  plans = voted_known B m.tag m.shard m.vote c s.coord this h;
  rec = (tt, tt);
  out = All-append (LetterKnown B (Answered P s.part)) _ _ (each (LetterKnown B (Answered P s.part))
      _ c.askers (λ x. tt)) (decides_go P B s.part m.tag c.plan d c.plan.parts);
}

votes_known : (P : Named → Type 0) (B : ℕ → ℕ → Named
    → Type 0) (s : ShardState) (m : Vote) (c : Option Coordinated)
    → coordinated_of s.coord m.tag ≡ c → PlansKnown B s.coord → RuledKnown P B s (votes_if s m c)
votes_known P B s m None e h = quiet_known P B s h
votes_known P B s m (Some c) e h =
    votes_on_known P B s m c (decided_by m.shard m.vote c) (plan_known B s.coord m.tag c e h) h

acked_known : (B : ℕ → ℕ → Named
    → Type 0) (tag : Tag) (shard : ℕ) (c : Coordinated) (coords : Coordinations)
    → PlanKnown B (tag, c) → PlansKnown B coords → PlansKnown B (acked tag shard c coords)
acked_known B tag shard c coords this h =
    either (ack_counts shard c) (PlansKnown B) _ _
    (either (all_acked (with_ack shard c)) (PlansKnown B) _ _ (taken_all tag_cmp (PlanKnown B) tag
    coords h) (put_all tag_cmp (PlanKnown B) tag (with_ack shard c) coords this h)) h

acks_known : (P : Named → Type 0) (B : ℕ → ℕ → Named
    → Type 0) (s : ShardState) (m : Acked) (c : Option Coordinated)
    → coordinated_of s.coord m.tag ≡ c → PlansKnown B s.coord → RuledKnown P B s (acks_if s m c)
acks_known P B s m None e h = quiet_known P B s h
acks_known P B s m (Some c) e h = record {
  moves = part_stays P s.part;
  plans = acked_known B m.tag m.shard c s.coord (plan_known B s.coord m.tag c e h) h;
  rec = either (is_last_ack m.shard c) (λ (r : Option Rec).
      IfSome r (λ x. RecNamed P x × BeginsKnown B x)) (Some (rec.CoordEnd m.tag)) None (tt, tt) tt;
  out = none P B s.part;
}

router_rule : (P : Named → Type 0) (B : ℕ → ℕ → Named → Type 0) (s : ShardState) (rule : ℕ
    → Ruled) (router : Option ℕ) → PlansKnown B s.coord → ((n : ℕ) → RuledKnown P B s (rule n))
    → RuledKnown P B s (from_router s rule router)
router_rule P B s rule None c h = quiet_known P B s c
router_rule P B s rule (Some router) c h = h router

resends_by_go : (P : Named → Type 0) (B : ℕ → ℕ → Named
    → Type 0) (p : Part) (own : ℕ) (tag : Tag) (c : Coordinated) (d : Option Decision)
    → PlanKnown B (tag, c) → All (LetterKnown B (Answered P p)) (resends_by own tag c d)
resends_by_go P B p own tag c None h =
    prepares_go P B p own tag c.plan _
    (All-filter (λ (part : ℕ × ℕ). not (has_voted part.0 c)) (λ (part : ℕ × ℕ). B part.0 part.1
    (record { tag = tag; lsid = c.plan.lsid; number = c.plan.number })) c.plan.parts h)
resends_by_go P B p own tag c (Some d) h = decides_go P B p tag c.plan d _

resends_go : (P : Named → Type 0) (B : ℕ → ℕ → Named
    → Type 0) (p : Part) (own : ℕ) (coords : Coordinations) → PlansKnown B coords
    → All (LetterKnown B (Answered P p)) (resends own coords)
resends_go P B p own [] h = none P B p
resends_go P B p own (entry ∷ coords) h =
    All-append (LetterKnown B (Answered P p)) (resends_by own entry.0 entry.1 entry.1.decision)
    (resends own coords)
    (resends_by_go P B p own entry.0 entry.1 entry.1.decision (All-head (PlanKnown B) entry coords
    h)) (resends_go P B p own coords (All-tail (PlanKnown B) entry coords h))

-- Each message, of a transaction that is named.

-- what is named by a message
abbrev NamedBy : (Named → Type 0) → Msg → Type 0
NamedBy P m = IfSome (named_in m) P

ruled_known : (P : Named → Type 0) (B : ℕ → ℕ → Named
    → Type 0) (s : ShardState) (from : NodeId) (m : Msg) → NamedBy P m → AskedKnown B s.part.shard m
    → PartNamed P s.part → PlansKnown B s.coord → RuledKnown P B s (ruled s from m)
ruled_known P B s from (msg.Statement m) this b n c =
    let turn = statement s.part s.clock.last s.wall m in
    either (elsewhere s.part m.lsid m.tag) (RuledKnown P B s) _ _
    (quiet_known P B s c) (answers_known P B s turn.1 from m turn.0 this
    (statement_moves P s.part s.clock.last s.wall m this) c)
ruled_known P B s from (msg.Answer m) this b n c = quiet_known P B s c
ruled_known P B s from (msg.Commit m) this b n c =
    let k = commit_moves P s.part s.clock.last s.wall m in
    record {
      moves = k.0;
      plans = c;
      rec = recorded_known P B (commit s.part s.clock.last s.wall m).rec (k.1 n);
      out = outcome_known P B (commit s.part s.clock.last s.wall m).part s m.tag from _;
    }
ruled_known P B s from (msg.Outcome m) this b n c = quiet_known P B s c
ruled_known P B s from (msg.Abort m) this b n c =
    either (coordinates s m.tag) (RuledKnown P B s) _ _ (quiet_known P B s c)
    (part_known P B s (abort s.part m) (abort_moves P s.part m) c)
ruled_known P B s from (msg.CommitTwo m) this b n c =
    router_rule P B s (λ router. on_commit_two s router m) (router_of from) c
    (λ router. known_known P B s router m.tag (session s.part m.lsid) m.number _ c
    (starts_new_known P B s router m (session s.part m.lsid) refl b.1 c))
ruled_known P B s from (msg.Prepare m) this b n c =
    let k = prepare_moves P s.part s.clock.last s.wall m in
    record {
      moves = k.0;
      plans = c;
      rec = recorded_known P B (prepare s.part s.clock.last s.wall m).rec (k.1 n);
      out = vote_known P B (prepare s.part s.clock.last s.wall m).part s m _;
    }
ruled_known P B s from (msg.Vote m) this b n c =
    votes_known P B s m (coordinated_of s.coord m.tag) refl c
ruled_known P B s from (msg.Decide m) this b n c =
    let k = decide_moves P s.part m in
    record {
      moves = k.0;
      plans = c;
      rec = decided_known P B (decide s.part m).0 (k.1 n);
      out = one (LetterKnown B (Answered P (decide s.part m).1)) _ (acked_to B
          (Answered P (decide s.part m).1) from _);
    }
ruled_known P B s from (msg.Acked m) this b n c =
    acks_known P B s m (coordinated_of s.coord m.tag) refl c
ruled_known P B s from (msg.Recover m) this b n c =
    router_rule P B s (λ router. on_recover s router m) (router_of from) c
    (λ router. known_known P B s router m.tag (session s.part m.lsid) m.number
    (recovers s router m) c
    (tells_known P B s (recover s.part m).1 router m.tag (recover s.part m).0
    (recover_moves P s.part m) c))
ruled_known P B s from msg.Nudge this b n c = record {
  moves = part_stays P s.part;
  plans = c;
  rec = tt;
  out = resends_go P B s.part s.part.shard s.coord c;
}

-- The step.

pub record StepKnown (P : Named → Type 0) (B : ℕ → ℕ → Named → Type 0) (s : ShardState)
    (o : CoreStep) : Type 0 where
  pub moves : Moves P s.part o.core.part
  pub plans : PlansKnown B o.core.coord
  pub rec : IfSome o.rec (λ x. RecNamed P x × BeginsKnown B x)
  pub out : All (EnvKnown B (Answered P o.core.part)) (given_out o.answer)

gives_known : (P : Named → Type 0) (B : ℕ → ℕ → Named → Type 0) (s : ShardState) (out : List Letter)
    → All (LetterKnown B (Answered P s.part)) out
    → All (EnvKnown B (Answered P s.part)) (given_out (gives_out s out))
gives_known P B s out h =
    All-map (EnvKnown B (Answered P s.part)) (sent_by (Shard s.part.shard) s.clock.last) out h

answers_out : (P : Named → Type 0) (B : ℕ → ℕ → Named → Type 0) (s : ShardState)
    (out : List Letter) (h : Option Held) → All (LetterKnown B (Answered P s.part)) out
    → All (EnvKnown B (Answered P s.part)) (given_out (answer_of s out h))
answers_out P B s out None h = gives_known P B s out h
answers_out P B s out (Some held) h = All-nil (EnvKnown B (Answered P s.part))

-- after what has expired, and a message's times
rules : (P : Named → Type 0) (B : ℕ → ℕ → Named → Type 0) (old s : ShardState) (bound : Option ℕ)
    (r : Ruled) → Moves P old.part s.part → RuledKnown P B s r → StepKnown P B old (stepped bound r)
rules P B old s bound r k h = record {
  moves = follows P old.part s.part r.core.part k h.moves;
  plans = h.plans;
  rec = h.rec;
  out = answers_out P B r.core r.out r.held h.out;
}

calm : (P : Named → Type 0) (B : ℕ → ℕ → Named → Type 0) (s : ShardState) (e : NodeEvent)
    → PlansKnown B s.coord → StepKnown P B s (stepped None (quiet (entered s e)))
calm P B s e c = record {
  moves = expire_moves P s.part (max s.wall e.wall);
  plans = c;
  rec = tt;
  out = All-nil (EnvKnown B (Answered P (entered s e).part));
}

-- what an event names
abbrev NamedAt : (Named → Type 0) → Happening → Type 0
NamedAt P (what.Deliver e) = NamedBy P e.msg
NamedAt P other = Unit {0}

happens : (P : Named → Type 0) (B : ℕ → ℕ → Named → Type 0) (A : Answer
    → Type 0) (s : ShardState) (e : NodeEvent) (w : Happening) → NamedAt P w
    → EventKnown B A (Shard s.part.shard) w → PartNamed P s.part → PlansKnown B s.coord
    → StepKnown P B s (happened (entered s e) w)
happens P B A s e (what.Client conn frame) this b n c = calm P B s e c
happens P B A s e (what.Gone conn) this b n c = calm P B s e c
happens P B A s e (what.Deliver sent) this b n c =
    let k = expire_moves P s.part (max s.wall e.wall) in
    rules P B s (met (entered s e) sent) (ceiling_of (entered s e) sent)
    (ruled (met (entered s e) sent) sent.from sent.msg) k
    (ruled_known P B (met (entered s e) sent) sent.from sent.msg this
    (subst (λ (n : ℕ). AskedKnown B n sent.msg) (sym k.shard) b) (k.named n) c)
happens P B A s e what.Resend this b n c = record {
  moves = expire_moves P s.part (max s.wall e.wall);
  plans = c;
  rec = tt;
  out = gives_known P B (entered s e) _ (resends_go P B (entered s e).part
      (entered s e).part.shard s.coord c);
}
happens P B A s e what.Moment this b n c = calm P B s e c

-- out of memory

abbrev WantsKnown : (Named → Type 0) → (ℕ → ℕ → Named → Type 0) → ShardState
    → Option Wanting → Type 0
WantsKnown P B s w = IfSome w (λ w. (q : Part) → q.shard ≡ s.part.shard → q.boot ≡ s.part.boot
    → LetterKnown B (Answered P q) w.letter)

refusal_to : (P : Named → Type 0) (B : ℕ → ℕ → Named → Type 0) (s : ShardState) (to : NodeId)
    (m : Statement) (why : Cause) (q : Part) → q.shard ≡ s.part.shard → q.boot ≡ s.part.boot
    → LetterKnown B (Answered P q) (participating.answer s to m 0 (Err why))
refusal_to P B s to m why q a b =
    answer_to B (Answered P q) to _ (record { shard = sym a; boot = sym b; done = tt })

wants : (P : Named → Type 0) (B : ℕ → ℕ → Named → Type 0) (s : ShardState) (from : NodeId) (m : Msg)
    → WantsKnown P B s (wanting s from m)
wants P B s from (msg.Statement m) = either (elsewhere s.part m.lsid m.tag) (WantsKnown P B s) _ _
    tt (refusal_to P B s from m cause.Memory)
wants P B s from (msg.Answer m) = tt
wants P B s from (msg.Commit m) = λ q a b. outcome_to B (Answered P q) from _
wants P B s from (msg.Outcome m) = tt
wants P B s from (msg.Abort m) = tt
wants P B s from (msg.CommitTwo m) = either (is_some (router_of from)) (WantsKnown P B s) _ _ (λ q a
    b. outcome_to B (Answered P q) from _) tt
wants P B s from (msg.Prepare m) = λ q a b. tt
wants P B s from (msg.Vote m) = tt
wants P B s from (msg.Decide m) = tt
wants P B s from (msg.Acked m) = tt
wants P B s from (msg.Recover m) = either (is_some (router_of from)) (WantsKnown P B s) _ _ (λ q a
    b. outcome_to B (Answered P q) from _) tt
wants P B s from msg.Nudge = tt

abbrev EachStep : (Named → Type 0) → (ℕ → ℕ → Named → Type 0) → ShardState
    → Option CoreStep → Type 0
EachStep P B s o = IfSome o (StepKnown P B s)

memory_told : (P : Named → Type 0) (B : ℕ → ℕ → Named
    → Type 0) (old s : ShardState) (bound : Option ℕ) (w : Option Wanting) → Moves P old.part s.part
    → PlansKnown B s.coord → WantsKnown P B s w
    → EachStep P B old (option_map (stepped bound) (option_and_then (told_if s) w))
memory_told P B old s bound None k c h = tt
memory_told P B old s bound (Some w) k c h =
    let m = memory_moves P s.part w.lsid w.tag in
    either (may_be_told s w) (λ (r : Option Ruled). EachStep P B old (option_map (stepped bound) r))
    (Some (told_memory s w)) None
    (rules P B old s bound (told_memory s w) k (record {
      moves = m;
      plans = c;
      rec = tt;
      out = one (LetterKnown B (Answered P (told_memory s w).core.part)) w.letter
          (h (told_memory s w).core.part m.shard m.boot);
    }))
    tt

scarce_known : (P : Named → Type 0) (B : ℕ → ℕ → Named → Type 0) (s : ShardState) (e : NodeEvent)
    (w : Happening) → PlansKnown B s.coord → EachStep P B s (scarce (entered s e) w)
scarce_known P B s e (what.Client conn frame) c = tt
scarce_known P B s e (what.Gone conn) c = tt
scarce_known P B s e (what.Deliver sent) c =
    memory_told P B s (met (entered s e) sent) (ceiling_of (entered s e) sent) (wanting
    (met (entered s e) sent) sent.from sent.msg) (expire_moves P s.part (max s.wall e.wall)) c
    (wants P B (met (entered s e) sent) sent.from sent.msg)
scarce_known P B s e what.Resend c = tt
scarce_known P B s e what.Moment c = tt

unless_short : (P : Named → Type 0) (B : ℕ → ℕ → Named
    → Type 0) (s : ShardState) (o : Option CoreStep) → EachStep P B s o → (other : CoreStep)
    → StepKnown P B s other → StepKnown P B s (unwrap_or o other)
unless_short P B s None h other k = k
unless_short P B s (Some o) h other k = h

memory : (P : Named → Type 0) (B : ℕ → ℕ → Named → Type 0) (s : ShardState) → PlansKnown B s.coord
    → StepKnown P B s (stays s answer.Memory)
memory P B s c = record {
  moves = part_stays P s.part;
  plans = c;
  rec = tt;
  out = All-nil (EnvKnown B (Answered P s.part));
}

runs : (P : Named → Type 0) (B : ℕ → ℕ → Named → Type 0) (A : Answer
    → Type 0) (room : Room) (s : ShardState) (e : NodeEvent) → NamedAt P e.what
    → EventKnown B A (Shard s.part.shard) e.what → PartNamed P s.part → PlansKnown B s.coord
    → StepKnown P B s (running_step room s e)
runs P B A Ample s e this b n c = happens P B A s e e.what this b n c
runs P B A Scarce s e this b n c = unless_short P B s (scarce (entered s e) e.what) (scarce_known P
    B s e e.what c) (stays s answer.Memory) (memory P B s c)
runs P B A Short s e this b n c = memory P B s c

says : (P : Named → Type 0) (B : ℕ → ℕ → Named
    → Type 0) (s : ShardState) (faults : ℕ) (from : NodeId) (m : Msg)
    → All (EnvKnown B (Answered P s.part)) (given_out (says_stopped s faults from m))
says P B s faults from (msg.Statement m) =
    let l : Letter = participating.answer s from m 0 (Err (cause.Faulted faults)) in
    gives_known P B s (l ∷ []) (one (LetterKnown B (Answered P s.part)) l
    (refusal_to P B s from m (cause.Faulted faults) s.part refl refl))
says P B s faults from other = All-nil (EnvKnown B (Answered P s.part))

stopped_known : (P : Named → Type 0) (B : ℕ → ℕ → Named → Type 0) (s : ShardState) (faults : ℕ)
    (w : Happening) → All (EnvKnown B (Answered P s.part)) (given_out (answer_stopped s faults w))
stopped_known P B s faults (what.Deliver e) = says P B s faults e.from e.msg
stopped_known P B s faults other = All-nil (EnvKnown B (Answered P s.part))

stops : (P : Named → Type 0) (B : ℕ → ℕ → Named
    → Type 0) (room : Room) (s : ShardState) (faults : ℕ) (e : NodeEvent) → PlansKnown B s.coord
    → StepKnown P B s (stopped_step room s faults e)
stops P B Ample s faults e c = record {
  moves = part_stays P s.part;
  plans = c;
  rec = tt;
  out = stopped_known P B s faults e.what;
}
stops P B Scarce s faults e c = memory P B s c
stops P B Short s faults e c = memory P B s c

steps : (P : Named → Type 0) (B : ℕ → ℕ → Named → Type 0) (A : Answer
    → Type 0) (room : Room) (s : ShardState) (e : NodeEvent) (stopped : Option ℕ) → NamedAt P e.what
    → EventKnown B A (Shard s.part.shard) e.what → PartNamed P s.part → PlansKnown B s.coord
    → StepKnown P B s (step_if room s e stopped)
steps P B A room s e None this b n c = runs P B A room s e this b n c
steps P B A room s e (Some faults) this b n c = stops P B room s faults e c

pub step_known : (P : Named → Type 0) (B : ℕ → ℕ → Named → Type 0) (A : Answer
    → Type 0) (room : Room) (s : ShardState) (e : NodeEvent) → NamedAt P e.what
    → EventKnown B A (Shard s.part.shard) e.what → PartNamed P s.part → PlansKnown B s.coord
    → StepKnown P B s (core_step room s e)
unfolding core_step
step_known P B A room s e this b n c = steps P B A room s e s.stopped this b n c
