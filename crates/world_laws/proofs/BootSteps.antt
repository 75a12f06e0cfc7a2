-- A shard's step: the boots in what it coordinates, records and sends are its own, or those of the
-- message.
use Rattle.std.proofs.Common.{◌≡◌, ℕ, ℤ, max, nat_eq, map, All, List, [], ◌∷◌, Option, Some, None}
use Rattle.std.proofs.Common.{IfSome, option_map, option_and_then, unwrap_or, is_some, not, Result}
use Rattle.std.proofs.Common.{Err, refl, sym, subst}
use Rattle.std.proofs.lemmas.List.Elements.{All-nil, All-head, All-tail, All-append, All-map}
use Rattle.std.proofs.lemmas.List.Elements.{All-filter}
use Rattle.txn_types.specs.Letters.{Letter, sent_by}
use Rattle.txn_types.specs.Order.{same_tag, tag_cmp}
use Rattle.txn_types.specs.declared.cause.Cause.{Cause}
use Rattle.txn_types.specs.declared.cause.Cause.TheVariants as cause
use Rattle.txn_types.specs.declared.decision.Decision.{Decision}
use Rattle.txn_types.specs.declared.decision.Told.{Told}
use Rattle.txn_types.specs.declared.event.Happening.{Happening}
use Rattle.txn_types.specs.declared.event.Happening.TheVariants as what
use Rattle.txn_types.specs.declared.event.NodeAnswer.TheVariants as answer
use Rattle.txn_types.specs.declared.event.NodeEvent.{NodeEvent}
use Rattle.txn_types.specs.declared.message.Acked.{Acked}
use Rattle.txn_types.specs.declared.message.Answer.{Answer}
use Rattle.txn_types.specs.declared.message.CommitTwo.{CommitTwo}
use Rattle.txn_types.specs.declared.message.Msg.{Msg}
use Rattle.txn_types.specs.declared.message.Msg.TheVariants as msg
use Rattle.txn_types.specs.declared.message.Outcome.{Outcome}
use Rattle.txn_types.specs.declared.message.Prepare.{Prepare}
use Rattle.txn_types.specs.declared.message.Statement.{Statement}
use Rattle.txn_types.specs.declared.message.Vote.{Vote}
use Rattle.txn_types.specs.declared.names.Tag.{Tag}
use Rattle.txn_types.specs.declared.node.NodeId.{NodeId}
use Rattle.txn_types.specs.declared.node.NodeId.TheVariants.{Shard, Router}
use Rattle.session_table.specs.declared.session.Session.{Session}
use Rattle.session_table.specs.declared.session.SessionState.{SessionState}
use Rattle.session_table.specs.declared.session.SessionState.TheVariants as state
use Rattle.version_store.specs.declared.version.Held.{Held}
use Rattle.journal_rec.specs.declared.record.Decided.{Decided}
use Rattle.journal_rec.specs.declared.record.Rec.{Rec}
use Rattle.journal_rec.specs.declared.record.Rec.TheVariants as rec
use Rattle.coordinator.specs.declared.plan.Plan.{Plan}
use Rattle.coordinator.specs.TwoPhase.{Coordinated, Coordinations, coordinated_of, decided_by}
use Rattle.coordinator.specs.TwoPhase.{with_asker, undecided, counts, voted, behind_vote, acked}
use Rattle.coordinator.specs.TwoPhase.{ack_counts, all_acked, with_ack, has_voted, prepare_to}
use Rattle.coordinator.specs.TwoPhase.{decide_to, resends, resends_by, is_last_ack}
use Rattle.participant.specs.declared.said.Said.{Said}
use Rattle.participant.specs.declared.said.Said.TheVariants.{Did, Blocked, Refused, Late}
use Rattle.participant.specs.Part.{Part, session, elsewhere, aborted}
use Rattle.participant.specs.Statement.{statement}
use Rattle.participant.specs.Commit.{commit}
use Rattle.participant.specs.Prepare.{prepare}
use Rattle.participant.specs.Decide.{decide}
use Rattle.participant.specs.Recover.{recover}
use Rattle.participant.proofs.Cases.{either}
use Rattle.shard_core.specs.State.{ShardState, met, ceiling_of, with_part}
use Rattle.shard_core.specs.Ruled.{Ruled, quiet, coordinates}
use Rattle.shard_core.specs.Participating as participating
use Rattle.shard_core.specs.Participating.{answers, outcome_if, vote_if, decided_record}
use Rattle.shard_core.specs.Coordinating.{asks, tells, starts, plan_of, told_of, unless_coordinated}
use Rattle.shard_core.specs.Coordinating.{unless_older, unless_known, larger_number, starts_own}
use Rattle.shard_core.specs.Coordinating.{starts_new, votes_on, votes_if, acks_if, on_commit_two}
use Rattle.shard_core.specs.Coordinating.{on_recover, recovers}
use Rattle.shard_core.specs.Rules.{ruled, from_router, router_of}
use Rattle.shard_core.specs.Wanting.{wanting, Wanting, told_if, told_memory, may_be_told}
use Rattle.shard_core.specs.Core.{Room, Ample, Scarce, Short, CoreStep, core_step, step_if, stepped}
use Rattle.shard_core.specs.Core.{stays, entered, happened, scarce, running_step, stopped_step}
use Rattle.shard_core.specs.Core.{answer_stopped, says_stopped, gives_out, answer_of}
use Rattle.txn_types.specs.Letters.{given_out}
use Rattle.shard_core.specs.Effect.{Same}
use Rattle.world_laws.specs.Boots.{PartsTold, AskedBoots, BootsTo, LetterBoots, EnvBoots, BootsBy}
use Rattle.world_laws.specs.Boots.{CoordinatedTold, PlansTold, BeginsTold}
use Rattle.world_laws.proofs.Numbers.{statement_same, recover_same, commit_as, prepare_as}
use Rattle.world_laws.proofs.Numbers.{CommitsAt, PreparesAt, expire_same}
use Rattle.world_laws.proofs.Naming.{one, each, put_all, taken_all, found, vote_plan}

abbrev Party : (ℕ → ℕ → Type 0) → ℕ × ℕ → Type 0
Party B part = B part.0 part.1

-- a shard's own boot
abbrev pub OwnTold : (ℕ → ℕ → Type 0) → Part → Type 0
OwnTold B p = B p.shard p.boot

same_own : (B : ℕ → ℕ → Type 0) (p q : Part) → Same p q → OwnTold B p → OwnTold B q
same_own B p q h k =
    subst (λ (n : ℕ). B n q.boot) (sym h.shard) (subst (λ (n : ℕ). B p.shard n) (sym h.boot) k)

-- what a rule leaves, records and sends
pub record RuledBoots (B : ℕ → ℕ → Type 0) (r : Ruled) : Type 0 where
  pub plans : PlansTold B r.core.coord
  pub rec : IfSome r.rec (BeginsTold B)
  pub out : All (LetterBoots B) r.out

none : (B : ℕ → ℕ → Type 0) → All (LetterBoots B) []
none B = All-nil (LetterBoots B)

quiet_boots : (B : ℕ → ℕ → Type 0) (s : ShardState) → PlansTold B s.coord → RuledBoots B (quiet s)
quiet_boots B s c = record { plans = c; rec = tt; out = none B }

-- Statements and ends.

answer_to : (B : ℕ → ℕ → Type 0) (to : NodeId) (a : Answer) → B a.shard a.boot
    → BootsTo B to (msg.Answer a)
answer_to B (Shard n) a h = tt
answer_to B (Router n) a h = h

outcome_to : (B : ℕ → ℕ → Type 0) (to : NodeId) (o : Outcome) → B o.shard o.boot
    → BootsTo B to (msg.Outcome o)
outcome_to B (Shard n) o h = tt
outcome_to B (Router n) o h = h

acked_to : (B : ℕ → ℕ → Type 0) (to : NodeId) (a : Acked) → BootsTo B to (msg.Acked a)
acked_to B (Shard n) a = tt
acked_to B (Router n) a = tt

answers_boots : (B : ℕ → ℕ → Type 0) (s : ShardState) (to : NodeId) (m : Statement) (said : Said)
    → OwnTold B s.part → PlansTold B s.coord → RuledBoots B (answers s to m said)
answers_boots B s to m (Did read_at reply wrote) own c =
    record { plans = c; rec = tt; out = one (LetterBoots B) _ (answer_to B to _ own) }
answers_boots B s to m (Blocked held) own c = record { plans = c; rec = tt; out = none B }
answers_boots B s to m (Refused why read_at) own c =
    record { plans = c; rec = tt; out = one (LetterBoots B) _ (answer_to B to _ own) }
answers_boots B s to m Late own c = quiet_boots B s c

outcome_boots : (B : ℕ → ℕ → Type 0) (s : ShardState) (tag : Tag) (to : NodeId) (t : Option Told)
    → OwnTold B s.part → All (LetterBoots B) (outcome_if s tag to t)
outcome_boots B s tag to None own = none B
outcome_boots B s tag to (Some t) own = one (LetterBoots B) _ (outcome_to B to _ own)

vote_boots : (B : ℕ → ℕ → Type 0) (s : ShardState) (m : Prepare) (v : Option (Result ℕ Cause))
    → All (LetterBoots B) (vote_if s m v)
vote_boots B s m None = none B
vote_boots B s m (Some vote) = one (LetterBoots B) _ tt

commit_told : (B : ℕ → ℕ → Type 0) (last : ℕ) (r : Rec) → CommitsAt last r → BeginsTold B r
commit_told B last (rec.Boot boot) h = tt
commit_told B last (rec.Ceiling bound) h = tt
commit_told B last (rec.Commit tag lsid number read_at at writes) h = tt
commit_told B last (rec.Prepared tag lsid number boot read_at at coordinator writes) h = tt
commit_told B last (rec.Decided d) h = tt
commit_told B last (rec.CoordStart tag lsid number parts) h = absurd h
commit_told B last (rec.CoordDecision tag d) h = tt
commit_told B last (rec.CoordEnd tag) h = tt
commit_told B last (rec.Floor floor) h = tt

prepare_told : (B : ℕ → ℕ → Type 0) (last : ℕ) (r : Rec) → PreparesAt last r → BeginsTold B r
prepare_told B last (rec.Boot boot) h = tt
prepare_told B last (rec.Ceiling bound) h = tt
prepare_told B last (rec.Commit tag lsid number read_at at writes) h = tt
prepare_told B last (rec.Prepared tag lsid number boot read_at at coordinator writes) h = tt
prepare_told B last (rec.Decided d) h = tt
prepare_told B last (rec.CoordStart tag lsid number parts) h = absurd h
prepare_told B last (rec.CoordDecision tag d) h = tt
prepare_told B last (rec.CoordEnd tag) h = tt
prepare_told B last (rec.Floor floor) h = tt

if_told : (B : ℕ → ℕ → Type 0) (R : Rec → Type 0) → ((r : Rec) → R r → BeginsTold B r)
    → (r : Option Rec) → IfSome r R → IfSome r (BeginsTold B)
if_told B R f None h = tt
if_told B R f (Some r) h = f r h

decided_told : (B : ℕ → ℕ → Type 0) (d : Option Decided) → IfSome (decided_record d) (BeginsTold B)
decided_told B None = tt
decided_told B (Some d) = tt

-- The coordinator.

tells_boots : (B : ℕ → ℕ → Type 0) (s : ShardState) (router : ℕ) (tag : Tag) (t : Told)
    → OwnTold B s.part → PlansTold B s.coord → RuledBoots B (tells s router tag t)
tells_boots B s router tag t own c = record { plans = c; rec = tt; out = one (LetterBoots B) _ own }

asks_boots : (B : ℕ → ℕ → Type 0) (s : ShardState) (router : ℕ) (tag : Tag) (c : Coordinated)
    (d : Option Decision) → coordinated_of s.coord tag ≡ Some c → OwnTold B s.part
    → PlansTold B s.coord → RuledBoots B (asks s router tag c d)
asks_boots B s router tag c None e own h = record {
  plans = put_all tag_cmp (CoordinatedTold B) tag (with_asker router c) s.coord
      (found (CoordinatedTold B) tag s.coord h c e) h;
  rec = tt;
  out = none B;
}
asks_boots B s router tag c (Some d) e own h = tells_boots B s router tag (told_of d) own h

coordinated_boots : (B : ℕ → ℕ
    → Type 0) (s : ShardState) (router : ℕ) (tag : Tag) (c : Option Coordinated) (other : Ruled)
    → coordinated_of s.coord tag ≡ c → OwnTold B s.part → PlansTold B s.coord → RuledBoots B other
    → RuledBoots B (unless_coordinated s router tag c other)
coordinated_boots B s router tag None other e own h k = k
coordinated_boots B s router tag (Some c) other e own h k =
    asks_boots B s router tag c c.decision e own h

older_boots : (B : ℕ → ℕ → Type 0) (s : ShardState) (router : ℕ) (tag : Tag) (have : Option ℤ)
    (other : Ruled) → OwnTold B s.part → PlansTold B s.coord → RuledBoots B other
    → RuledBoots B (unless_older s router tag have other)
older_boots B s router tag None other own h k = k
older_boots B s router tag (Some have) other own h k = tells_boots B s router tag _ own h

known_boots : (B : ℕ → ℕ → Type 0) (s : ShardState) (router : ℕ) (tag : Tag) (has : Option Session)
    (number : ℤ) (other : Ruled) → OwnTold B s.part → PlansTold B s.coord → RuledBoots B other
    → RuledBoots B (unless_known s router tag has number other)
known_boots B s router tag has number other own h k =
    older_boots B s router tag (larger_number has number)
    (unless_coordinated s router tag (coordinated_of s.coord tag) other) own h
    (coordinated_boots B s router tag (coordinated_of s.coord tag) other refl own h k)

prepares_boots : (B : ℕ → ℕ → Type 0) (own : ℕ) (tag : Tag) (plan : Plan) (parts : List (ℕ × ℕ))
    → PartsTold B parts → All (LetterBoots B) (map (prepare_to own tag plan) parts)
prepares_boots B own tag plan parts h = All-map (LetterBoots B) (prepare_to own tag plan) parts h

decides_boots : (B : ℕ → ℕ → Type 0) (tag : Tag) (plan : Plan) (d : Decision) (parts : List (ℕ × ℕ))
    → All (LetterBoots B) (map (decide_to tag plan d) parts)
decides_boots B tag plan d parts = each (LetterBoots B) (decide_to tag plan d) parts (λ x. tt)

starts_boots : (B : ℕ → ℕ → Type 0) (s : ShardState) (router : ℕ) (m : CommitTwo)
    → PartsTold B m.parts → PlansTold B s.coord → RuledBoots B (starts s router m)
starts_boots B s router m p c = record {
  plans = put_all tag_cmp (CoordinatedTold B) m.tag (with_asker router (undecided (plan_of m)))
      s.coord p c;
  rec = p;
  out = prepares_boots B s.part.shard m.tag (plan_of m) m.parts p;
}

starts_own_boots : (B : ℕ → ℕ → Type 0) (s : ShardState) (router : ℕ) (m : CommitTwo)
    (own : Session) (st : SessionState) → OwnTold B s.part → PartsTold B m.parts
    → PlansTold B s.coord → RuledBoots B (starts_own s router m own st)
starts_own_boots B s router m own state.Live o p c =
    either (nat_eq m.boot s.part.boot) (RuledBoots B) _ _ (starts_boots B s router m p c)
    (tells_boots B (with_part s (aborted s.part m.lsid own _)) router m.tag _ o c)
starts_own_boots B s router m own (state.Prepared at coordinator) o p c = quiet_boots B s c
starts_own_boots B s router m own (state.Committed at) o p c = tells_boots B s router m.tag _ o c
starts_own_boots B s router m own state.Released o p c = quiet_boots B s c
starts_own_boots B s router m own (state.Aborted why read_at) o p c =
    tells_boots B s router m.tag _ o c

starts_new_boots : (B : ℕ → ℕ → Type 0) (s : ShardState) (router : ℕ) (m : CommitTwo)
    (own : Option Session) → OwnTold B s.part → PartsTold B m.parts → PlansTold B s.coord
    → RuledBoots B (starts_new s router m own)
starts_new_boots B s router m None o p c = tells_boots B s router m.tag _ o c
starts_new_boots B s router m (Some own) o p c = either (same_tag own.tag m.tag) (RuledBoots B) _ _
    (starts_own_boots B s router m own own.state o p c) (tells_boots B s router m.tag _ o c)

voted_told : (B : ℕ → ℕ → Type 0) (tag : Tag) (shard : ℕ) (vote : Result ℕ Cause)
    (c : Coordinated) (coords : Coordinations) → CoordinatedTold B (tag, c) → PlansTold B coords
    → PlansTold B (voted tag shard vote c coords)
voted_told B tag shard vote c coords this h =
    either (counts shard c) (PlansTold B) _ _
    (put_all tag_cmp (CoordinatedTold B) tag (behind_vote shard vote c) coords
    (subst (λ (p : Plan). PartsTold B p.parts) (sym (vote_plan shard vote c)) this) h) h

votes_on_boots : (B : ℕ → ℕ → Type 0) (s : ShardState) (m : Vote) (c : Coordinated)
    (d : Option Decision) → coordinated_of s.coord m.tag ≡ Some c → OwnTold B s.part
    → PlansTold B s.coord → RuledBoots B (votes_on s m c d)
votes_on_boots B s m c None e own h = record {
  plans =
      voted_told B m.tag m.shard m.vote c s.coord (found (CoordinatedTold B) m.tag s.coord h c e) h;
  rec = tt;
  out = none B;
}
votes_on_boots B s m c (Some d) e own h = record {
  plans =
      voted_told B m.tag m.shard m.vote c s.coord (found (CoordinatedTold B) m.tag s.coord h c e) h;
  rec = tt;
  out = All-append (LetterBoots B) _ _ (each (LetterBoots B) _ c.askers (λ x. own)) (decides_boots B
      m.tag c.plan d c.plan.parts);
}

votes_boots : (B : ℕ → ℕ → Type 0) (s : ShardState) (m : Vote) (c : Option Coordinated)
    → coordinated_of s.coord m.tag ≡ c → OwnTold B s.part → PlansTold B s.coord
    → RuledBoots B (votes_if s m c)
votes_boots B s m None e own h = quiet_boots B s h
votes_boots B s m (Some c) e own h = votes_on_boots B s m c (decided_by m.shard m.vote c) e own h

acked_told : (B : ℕ → ℕ → Type 0) (tag : Tag) (shard : ℕ) (c : Coordinated) (coords : Coordinations)
    → CoordinatedTold B (tag, c) → PlansTold B coords → PlansTold B (acked tag shard c coords)
acked_told B tag shard c coords this h =
    either (ack_counts shard c) (PlansTold B) _ _
    (either (all_acked (with_ack shard c)) (PlansTold B) _ _ (taken_all tag_cmp (CoordinatedTold B)
    tag coords h) (put_all tag_cmp (CoordinatedTold B) tag (with_ack shard c) coords this h)) h

acks_boots : (B : ℕ → ℕ → Type 0) (s : ShardState) (m : Acked) (c : Option Coordinated)
    → coordinated_of s.coord m.tag ≡ c → PlansTold B s.coord → RuledBoots B (acks_if s m c)
acks_boots B s m None e h = quiet_boots B s h
acks_boots B s m (Some c) e h = record {
  plans = acked_told B m.tag m.shard c s.coord (found (CoordinatedTold B) m.tag s.coord h c e) h;
  rec = either (is_last_ack m.shard c) (λ (r : Option Rec).
      IfSome r (BeginsTold B)) (Some (rec.CoordEnd m.tag)) None tt tt;
  out = none B;
}

router_rule : (B : ℕ → ℕ → Type 0) (s : ShardState) (rule : ℕ → Ruled) (router : Option ℕ)
    → PlansTold B s.coord → ((n : ℕ) → RuledBoots B (rule n))
    → RuledBoots B (from_router s rule router)
router_rule B s rule None c h = quiet_boots B s c
router_rule B s rule (Some router) c h = h router

resends_by_boots : (B : ℕ → ℕ → Type 0) (own : ℕ) (tag : Tag) (c : Coordinated) (d :
    Option Decision) → CoordinatedTold B (tag, c) → All (LetterBoots B) (resends_by own tag c d)
resends_by_boots B own tag c None h = prepares_boots B own tag c.plan _
    (All-filter (λ (part : ℕ × ℕ). not (has_voted part.0 c)) (Party B) c.plan.parts h)
resends_by_boots B own tag c (Some d) h = decides_boots B tag c.plan d _

resends_boots : (B : ℕ → ℕ → Type 0) (own : ℕ) (coords : Coordinations) → PlansTold B coords
    → All (LetterBoots B) (resends own coords)
resends_boots B own [] h = none B
resends_boots B own (entry ∷ coords) h =
    All-append (LetterBoots B) (resends_by own entry.0 entry.1 entry.1.decision)
    (resends own coords) (resends_by_boots B own entry.0 entry.1 entry.1.decision
    (All-head (CoordinatedTold B) entry coords h))
    (resends_boots B own coords (All-tail (CoordinatedTold B) entry coords h))

-- each message

ruled_boots : (B : ℕ → ℕ → Type 0) (s : ShardState) (from : NodeId) (m : Msg) → OwnTold B s.part
    → AskedBoots B s.part.shard m → PlansTold B s.coord → RuledBoots B (ruled s from m)
ruled_boots B s from (msg.Statement m) own b c =
    let turn = statement s.part s.clock.last s.wall m in
    either (elsewhere s.part m.lsid m.tag) (RuledBoots B) _ _ (quiet_boots B s c)
    (answers_boots B (with_part s turn.1) from m turn.0
    (same_own B s.part turn.1 (statement_same s.part s.clock.last s.wall m) own) c)
ruled_boots B s from (msg.Answer m) own b c = quiet_boots B s c
ruled_boots B s from (msg.Commit m) own b c =
    let h = commit_as s.part s.clock.last s.wall m in
    record {
      plans = c;
      rec = if_told B (CommitsAt _) (commit_told B _) (commit s.part s.clock.last s.wall m).rec h.1;
      out = outcome_boots B s m.tag from _ own;
    }
ruled_boots B s from (msg.Outcome m) own b c = quiet_boots B s c
ruled_boots B s from (msg.Abort m) own b c = either (coordinates s m.tag) (RuledBoots B) _ _
    (quiet_boots B s c) (record { plans = c; rec = tt; out = none B })
ruled_boots B s from (msg.CommitTwo m) own b c =
    router_rule B s (λ router. on_commit_two s router m) (router_of from) c
    (λ router. known_boots B s router m.tag (session s.part m.lsid) m.number _ own c
    (starts_new_boots B s router m (session s.part m.lsid) own b.1 c))
ruled_boots B s from (msg.Prepare m) own b c =
    let h = prepare_as s.part s.clock.last s.wall m in
    record {
      plans = c;
      rec = if_told B (PreparesAt _) (prepare_told B _) (prepare s.part s.clock.last
          s.wall m).rec h.1;
      out = vote_boots B s m _;
    }
ruled_boots B s from (msg.Vote m) own b c =
    votes_boots B s m (coordinated_of s.coord m.tag) refl own c
ruled_boots B s from (msg.Decide m) own b c = record {
  plans = c;
  rec = decided_told B (decide s.part m).0;
  out = one (LetterBoots B) _ (acked_to B from _);
}
ruled_boots B s from (msg.Acked m) own b c = acks_boots B s m (coordinated_of s.coord m.tag) refl c
ruled_boots B s from (msg.Recover m) own b c =
    router_rule B s (λ router. on_recover s router m) (router_of from) c
    (λ router. known_boots B s router m.tag (session s.part m.lsid) m.number
    (recovers s router m) own c
    (tells_boots B (with_part s (recover s.part m).1) router m.tag (recover s.part m).0
    (same_own B s.part (recover s.part m).1 (recover_same s.part m) own) c))
ruled_boots B s from msg.Nudge own b c =
    record { plans = c; rec = tt; out = resends_boots B s.part.shard s.coord c }

-- The step.

pub record StepBoots (B : ℕ → ℕ → Type 0) (o : CoreStep) : Type 0 where
  pub plans : PlansTold B o.core.coord
  pub rec : IfSome o.rec (BeginsTold B)
  pub out : All (EnvBoots B) (given_out o.answer)

gives_boots : (B : ℕ → ℕ → Type 0) (s : ShardState) (out : List Letter) → All (LetterBoots B) out
    → All (EnvBoots B) (given_out (gives_out s out))
gives_boots B s out h = All-map (EnvBoots B) (sent_by (Shard s.part.shard) s.clock.last) out h

answers_out : (B : ℕ → ℕ → Type 0) (s : ShardState) (out : List Letter) (h : Option Held)
    → All (LetterBoots B) out → All (EnvBoots B) (given_out (answer_of s out h))
answers_out B s out None h = gives_boots B s out h
answers_out B s out (Some held) h = All-nil (EnvBoots B)

rules : (B : ℕ → ℕ → Type 0) (bound : Option ℕ) (r : Ruled) → RuledBoots B r
    → StepBoots B (stepped bound r)
rules B bound r h =
    record { plans = h.plans; rec = h.rec; out = answers_out B r.core r.out r.held h.out }

calm : (B : ℕ → ℕ → Type 0) (s : ShardState) (e : NodeEvent) → PlansTold B s.coord
    → StepBoots B (stepped None (quiet (entered s e)))
calm B s e c = record { plans = c; rec = tt; out = All-nil (EnvBoots B) }

entered_same : (s : ShardState) (e : NodeEvent) → Same s.part (entered s e).part
entered_same s e = let h = expire_same s.part (max s.wall e.wall) in
    record { shard = h.shard; boot = h.boot }

happens : (B : ℕ → ℕ → Type 0) (s : ShardState) (e : NodeEvent) (w : Happening)
    → OwnTold B s.part → BootsBy B (Shard s.part.shard) w → PlansTold B s.coord
    → StepBoots B (happened (entered s e) w)
happens B s e (what.Client conn frame) own b c = calm B s e c
happens B s e (what.Gone conn) own b c = calm B s e c
happens B s e (what.Deliver sent) own b c =
    let same = entered_same s e in
    rules B (ceiling_of (entered s e) sent) (ruled (met (entered s e) sent) sent.from sent.msg)
    (ruled_boots B (met (entered s e) sent) sent.from sent.msg (same_own B s.part (entered s e).part
    same own) (subst (λ (n : ℕ). AskedBoots B n sent.msg) (sym same.shard) b) c)
happens B s e what.Resend own b c = record {
  plans = c;
  rec = tt;
  out = gives_boots B (entered s e) _ (resends_boots B (entered s e).part.shard s.coord c);
}
happens B s e what.Moment own b c = calm B s e c

-- out of memory

abbrev WantsBoots : (ℕ → ℕ → Type 0) → Option Wanting → Type 0
WantsBoots B w = IfSome w (λ w. LetterBoots B w.letter)

wants : (B : ℕ → ℕ → Type 0) (s : ShardState) (from : NodeId) (m : Msg) → OwnTold B s.part
    → WantsBoots B (wanting s from m)
wants B s from (msg.Statement m) own =
    either (elsewhere s.part m.lsid m.tag) (WantsBoots B) _ _ tt (answer_to B from _ own)
wants B s from (msg.Answer m) own = tt
wants B s from (msg.Commit m) own = outcome_to B from _ own
wants B s from (msg.Outcome m) own = tt
wants B s from (msg.Abort m) own = tt
wants B s from (msg.CommitTwo m) own =
    either (is_some (router_of from)) (WantsBoots B) _ _ (outcome_to B from _ own) tt
wants B s from (msg.Prepare m) own = tt
wants B s from (msg.Vote m) own = tt
wants B s from (msg.Decide m) own = tt
wants B s from (msg.Acked m) own = tt
wants B s from (msg.Recover m) own =
    either (is_some (router_of from)) (WantsBoots B) _ _ (outcome_to B from _ own) tt
wants B s from msg.Nudge own = tt

abbrev EachStep : (ℕ → ℕ → Type 0) → Option CoreStep → Type 0
EachStep B None = Unit {0}
EachStep B (Some o) = StepBoots B o

told_boots : (B : ℕ → ℕ → Type 0) (s : ShardState) (bound : Option ℕ) (w : Option Wanting)
    → PlansTold B s.coord → WantsBoots B w
    → EachStep B (option_map (stepped bound) (option_and_then (told_if s) w))
told_boots B s bound None c h = tt
told_boots B s bound (Some w) c h =
    either (may_be_told s w) (λ (r : Option Ruled). EachStep B (option_map (stepped bound) r))
    (Some (told_memory s w)) None
    (rules B bound (told_memory s w)
    (record { plans = c; rec = tt; out = one (LetterBoots B) w.letter h })) tt

scarce_boots : (B : ℕ → ℕ → Type 0) (s : ShardState) (e : NodeEvent) (w : Happening)
    → OwnTold B s.part → PlansTold B s.coord → EachStep B (scarce (entered s e) w)
scarce_boots B s e (what.Client conn frame) own c = tt
scarce_boots B s e (what.Gone conn) own c = tt
scarce_boots B s e (what.Deliver sent) own c =
    told_boots B (met (entered s e) sent) (ceiling_of (entered s e) sent)
    (wanting (met (entered s e) sent) sent.from sent.msg) c
    (wants B (met (entered s e) sent) sent.from sent.msg
    (same_own B s.part (entered s e).part (entered_same s e) own))
scarce_boots B s e what.Resend own c = tt
scarce_boots B s e what.Moment own c = tt

unless_short : (B : ℕ → ℕ → Type 0) (o : Option CoreStep) → EachStep B o → (other : CoreStep)
    → StepBoots B other → StepBoots B (unwrap_or o other)
unless_short B None h other k = k
unless_short B (Some o) h other k = h

memory : (B : ℕ → ℕ → Type 0) (s : ShardState) → PlansTold B s.coord
    → StepBoots B (stays s answer.Memory)
memory B s c = record { plans = c; rec = tt; out = All-nil (EnvBoots B) }

runs : (B : ℕ → ℕ → Type 0) (room : Room) (s : ShardState) (e : NodeEvent)
    → OwnTold B s.part → BootsBy B (Shard s.part.shard) e.what → PlansTold B s.coord
    → StepBoots B (running_step room s e)
runs B Ample s e own b c = happens B s e e.what own b c
runs B Scarce s e own b c = unless_short B (scarce (entered s e) e.what) (scarce_boots B s e e.what
    own c) (stays s answer.Memory) (memory B s c)
runs B Short s e own b c = memory B s c

says : (B : ℕ → ℕ → Type 0) (s : ShardState) (faults : ℕ) (from : NodeId) (m : Msg)
    → OwnTold B s.part → All (EnvBoots B) (given_out (says_stopped s faults from m))
says B s faults from (msg.Statement m) own =
    let l : Letter = participating.answer s from m 0 (Err (cause.Faulted faults)) in
    gives_boots B s (l ∷ []) (one (LetterBoots B) l (answer_to B from _ own))
says B s faults from other own = All-nil (EnvBoots B)

stopped_boots : (B : ℕ → ℕ → Type 0) (s : ShardState) (faults : ℕ) (w : Happening)
    → OwnTold B s.part → All (EnvBoots B) (given_out (answer_stopped s faults w))
stopped_boots B s faults (what.Deliver e) own = says B s faults e.from e.msg own
stopped_boots B s faults other own = All-nil (EnvBoots B)

stops : (B : ℕ → ℕ → Type 0) (room : Room) (s : ShardState) (faults : ℕ) (e : NodeEvent)
    → OwnTold B s.part → PlansTold B s.coord → StepBoots B (stopped_step room s faults e)
stops B Ample s faults e own c =
    record { plans = c; rec = tt; out = stopped_boots B s faults e.what own }
stops B Scarce s faults e own c = memory B s c
stops B Short s faults e own c = memory B s c

steps : (B : ℕ → ℕ → Type 0) (room : Room) (s : ShardState) (e : NodeEvent) (stopped : Option ℕ)
    → OwnTold B s.part → BootsBy B (Shard s.part.shard) e.what → PlansTold B s.coord
    → StepBoots B (step_if room s e stopped)
steps B room s e None own b c = runs B room s e own b c
steps B room s e (Some faults) own b c = stops B room s faults e own c

pub step_boots : (B : ℕ → ℕ → Type 0) (room : Room) (s : ShardState) (e : NodeEvent)
    → OwnTold B s.part → BootsBy B (Shard s.part.shard) e.what → PlansTold B s.coord
    → StepBoots B (core_step room s e)
unfolding core_step
step_boots B room s e own b c = steps B room s e s.stopped own b c
