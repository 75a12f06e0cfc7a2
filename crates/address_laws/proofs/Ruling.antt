-- A shard's step: what it sends goes to nodes that are there, and what it coordinates and records
-- is of such, where the message came from one and names such.
use Rattle.std.proofs.Common.{◌≡◌, ℕ, ℤ, nat_eq, nat_lt, int_lt, map, All, List, [], ◌∷◌, Option}
use Rattle.std.proofs.Common.{Some, None, IfSome, option_map, option_and_then, unwrap_or, is_some}
use Rattle.std.proofs.Common.{not, Result, Ok, Err, refl, subst}
use Rattle.std.proofs.lemmas.List.Elements.{All-nil, All-head, All-tail, All-append, All-filter}
use Rattle.txn_types.specs.Clock.{ticked}
use Rattle.txn_types.specs.Letters.{Letter}
use Rattle.txn_types.specs.Order.{same_tag, tag_cmp}
use Rattle.txn_types.specs.declared.cause.Cause.{Cause}
use Rattle.txn_types.specs.declared.cause.Cause.TheVariants as cause
use Rattle.txn_types.specs.declared.decision.Decision.{Decision}
use Rattle.txn_types.specs.declared.decision.Told.{Told}
use Rattle.txn_types.specs.declared.event.Happening.{Happening}
use Rattle.txn_types.specs.declared.event.Happening.TheVariants as what
use Rattle.txn_types.specs.declared.event.NodeAnswer.TheVariants as answer
use Rattle.txn_types.specs.declared.event.NodeEvent.{NodeEvent}
use Rattle.txn_types.specs.declared.message.Acked.{Acked}
use Rattle.txn_types.specs.declared.message.Commit.{Commit}
use Rattle.txn_types.specs.declared.message.CommitTwo.{CommitTwo}
use Rattle.txn_types.specs.declared.message.Msg.{Msg}
use Rattle.txn_types.specs.declared.message.Msg.TheVariants as msg
use Rattle.txn_types.specs.declared.message.Prepare.{Prepare}
use Rattle.txn_types.specs.declared.message.Statement.{Statement}
use Rattle.txn_types.specs.declared.message.Vote.{Vote}
use Rattle.txn_types.specs.declared.names.Tag.{Tag}
use Rattle.txn_types.specs.declared.node.Lsid.{Lsid}
use Rattle.txn_types.specs.declared.node.NodeId.{NodeId}
use Rattle.txn_types.specs.declared.node.NodeId.TheVariants.{Shard, Router}
use Rattle.txn_types.specs.declared.write.Write.{Write}
use Rattle.session_table.specs.declared.session.Session.{Session}
use Rattle.session_table.specs.declared.session.SessionState.{SessionState}
use Rattle.session_table.specs.declared.session.SessionState.TheVariants as state
use Rattle.version_store.specs.declared.version.Held.{Held}
use Rattle.journal_rec.specs.declared.record.Decided.{Decided}
use Rattle.journal_rec.specs.declared.record.Rec.{Rec}
use Rattle.journal_rec.specs.declared.record.Rec.TheVariants as rec
use Rattle.coordinator.specs.declared.plan.Plan.{Plan}
use Rattle.coordinator.specs.TwoPhase.{Coordinated, Coordinations, coordinated_of, decided_by}
use Rattle.coordinator.specs.TwoPhase.{with_asker, undecided, counts, voted, behind_vote, acked}
use Rattle.coordinator.specs.TwoPhase.{ack_counts, all_acked, with_ack, has_voted, has_acked}
use Rattle.coordinator.specs.TwoPhase.{prepare_to, decide_to, resends, resends_by, is_last_ack}
use Rattle.participant.specs.declared.said.Open.{Open}
use Rattle.participant.specs.declared.said.Said.{Said}
use Rattle.participant.specs.declared.said.Said.TheVariants.{Did, Blocked, Refused, Late}
use Rattle.participant.specs.Part.{Part, session, open_of, elsewhere, aborted, is_replaced}
use Rattle.participant.specs.Statement.{statement}
use Rattle.participant.specs.Commit as co
use Rattle.participant.specs.Prepare as pr
use Rattle.participant.specs.Decide.{decide}
use Rattle.participant.specs.Recover.{recover}
use Rattle.participant.specs.Memory.{ends_own, ends_session}
use Rattle.participant.proofs.Cases.{either}
use Rattle.shard_core.specs.State.{ShardState, met, ceiling_of, with_part}
use Rattle.shard_core.specs.Ruled.{Ruled, quiet, coordinates}
use Rattle.shard_core.specs.Participating as participating
use Rattle.shard_core.specs.Participating.{answers, outcome_if, vote_if, decided_record}
use Rattle.shard_core.specs.Coordinating.{asks, tells, starts, plan_of, told_of, unless_coordinated}
use Rattle.shard_core.specs.Coordinating.{unless_older, unless_known, larger_number, starts_own}
use Rattle.shard_core.specs.Coordinating.{starts_new, votes_on, votes_if, acks_if, on_commit_two}
use Rattle.shard_core.specs.Coordinating.{on_recover, recovers}
use Rattle.shard_core.specs.Rules.{ruled, from_router, router_of}
use Rattle.shard_core.specs.Wanting.{wanting, Wanting, told_if, told_memory, may_be_told}
use Rattle.shard_core.specs.Core.{Room, Ample, Scarce, Short, CoreStep, core_step, step_if, stepped}
use Rattle.shard_core.specs.Core.{stays, entered, happened, scarce, running_step, stopped_step}
use Rattle.shard_core.specs.Core.{answer_stopped, says_stopped, gives_out, answer_of}
use Rattle.txn_types.specs.Letters.{given_out}
use Rattle.address_laws.specs.Addresses.{PartsThere, NamesThere, LetterThere, EnvThere, EventThere}
use Rattle.address_laws.specs.Addresses.{CoordinatedThere, PlansThere, BeginsThere}
use Rattle.address_laws.proofs.Lists.{found, numbers_put}
use Rattle.address_laws.proofs.Sending.{letters_go}
use Rattle.world_laws.proofs.Naming.{one, each_of, put_all, taken_all}

abbrev Party : (NodeId → Type 0) → ℕ × ℕ → Type 0
Party T part = T (Shard part.0)

abbrev Asker : (NodeId → Type 0) → ℕ → Type 0
Asker T router = T (Router router)

-- a coordination
abbrev Coord : (NodeId → Type 0) → Tag × Coordinated → Type 0
Coord T c = CoordinatedThere T c.1

-- what a rule leaves, records and sends, where the shard itself is there
pub record RuledThere (T : NodeId → Type 0) (r : Ruled) : Type 0 where
  pub plans : PlansThere T r.core.coord
  pub rec : IfSome r.rec (BeginsThere T)
  pub out : T (Shard r.core.part.shard) → All (LetterThere T) r.out

none : (T : NodeId → Type 0) → All (LetterThere T) []
none T = All-nil (LetterThere T)

quiet_there : (T : NodeId → Type 0) (s : ShardState) → PlansThere T s.coord → RuledThere T (quiet s)
quiet_there T s c = record { plans = c; rec = tt; out = λ own. none T }

-- Statements and ends.

answers_there : (T : NodeId → Type 0) (s : ShardState) (to : NodeId) (m : Statement) (said : Said)
    → T to → PlansThere T s.coord → RuledThere T (answers s to m said)
answers_there T s to m (Did read_at reply wrote) this c =
    record { plans = c; rec = tt; out = λ own. one (LetterThere T) _ (this, own) }
answers_there T s to m (Blocked held) this c = record { plans = c; rec = tt; out = λ own. none T }
answers_there T s to m (Refused why read_at) this c =
    record { plans = c; rec = tt; out = λ own. one (LetterThere T) _ (this, own) }
answers_there T s to m Late this c = quiet_there T s c

outcome_there : (T : NodeId → Type 0) (s : ShardState) (tag : Tag) (to : NodeId) (t : Option Told)
    → T to → All (LetterThere T) (outcome_if s tag to t)
outcome_there T s tag to None this = none T
outcome_there T s tag to (Some t) this = one (LetterThere T) _ (this, tt)

vote_there : (T : NodeId → Type 0) (s : ShardState) (m : Prepare) (v : Option (Result ℕ Cause))
    → T (Shard m.coordinator) → All (LetterThere T) (vote_if s m v)
vote_there T s m None this = none T
vote_there T s m (Some vote) this = one (LetterThere T) _ (this, tt)

-- What a participant records begins no commit of several shards.

abbrev Begins : (NodeId → Type 0) → Option Rec → Type 0
Begins T r = IfSome r (BeginsThere T)

commits_by_there : (T : NodeId → Type 0) (p : Part) (last : ℕ) (m : Commit) (s : Session) (o : Open)
    (at : Option ℕ) → Begins T (co.commits_by p last m s o at).rec
commits_by_there T p last m s o None = tt
commits_by_there T p last m s o (Some at) = tt

commits_writes_there : (T : NodeId → Type 0) (p : Part) (last wall : ℕ) (m : Commit) (s : Session)
    (o : Open) (ws : List Write) → Begins T (co.commits_writes p last wall m s o ws).rec
commits_writes_there T p last wall m s o [] = tt
commits_writes_there T p last wall m s o (w ∷ ws) =
    commits_by_there T p last m s o (ticked last wall)

commits_open_there : (T : NodeId → Type 0) (p : Part) (last wall : ℕ) (m : Commit) (s : Session)
    (o : Option Open) → Begins T (co.commits_open p last wall m s o).rec
commits_open_there T p last wall m s None = tt
commits_open_there T p last wall m s (Some o) = commits_writes_there T p last wall m s o o.writes

commits_own_there : (T : NodeId → Type 0) (p : Part) (last wall : ℕ) (m : Commit) (s : Session)
    (st : SessionState) → Begins T (co.commits_own p last wall m s st).rec
commits_own_there T p last wall m s state.Live =
    either (nat_eq m.boot p.boot) (λ (c : co.Committing). Begins T c.rec) _ _
    (commits_open_there T p last wall m s (open_of p m.lsid)) tt
commits_own_there T p last wall m s (state.Prepared at coordinator) = tt
commits_own_there T p last wall m s (state.Committed at) = tt
commits_own_there T p last wall m s state.Released = tt
commits_own_there T p last wall m s (state.Aborted why read_at) = tt

commits_there : (T : NodeId → Type 0) (p : Part) (last wall : ℕ) (m : Commit) (s : Option Session)
    → Begins T (co.commits_session p last wall m s).rec
commits_there T p last wall m None = tt
commits_there T p last wall m (Some s) =
    either (int_lt m.number s.number) (λ (c : co.Committing). Begins T c.rec) _ _ tt
    (either (same_tag s.tag m.tag) (λ (c : co.Committing). Begins T c.rec) _ _
    (commits_own_there T p last wall m s s.state) tt)

commit_there : (T : NodeId → Type 0) (p : Part) (last wall : ℕ) (m : Commit)
    → Begins T (co.commit p last wall m).rec
unfolding co.commit
commit_there T p last wall m = commits_there T p last wall m (session p m.lsid)

prepares_by_there : (T : NodeId → Type 0) (p : Part) (last : ℕ) (m : Prepare) (s : Session)
    (o : Open) (at : Option ℕ) → Begins T (pr.prepares_by p last m s o at).rec
prepares_by_there T p last m s o None = tt
prepares_by_there T p last m s o (Some at) = tt

prepares_open_there : (T : NodeId → Type 0) (p : Part) (last wall : ℕ) (m : Prepare) (s : Session)
    (o : Option Open) → Begins T (pr.prepares_open p last wall m s o).rec
prepares_open_there T p last wall m s None = tt
prepares_open_there T p last wall m s (Some o) = prepares_by_there T p last m s o (ticked last wall)

prepares_own_there : (T : NodeId → Type 0) (p : Part) (last wall : ℕ) (m : Prepare) (s : Session)
    (st : SessionState) → Begins T (pr.prepares_own p last wall m s st).rec
prepares_own_there T p last wall m s state.Live =
    either (nat_eq m.boot p.boot) (λ (c : pr.Voting). Begins T c.rec) _ _
    (prepares_open_there T p last wall m s (open_of p m.lsid)) tt
prepares_own_there T p last wall m s (state.Prepared at coordinator) = tt
prepares_own_there T p last wall m s (state.Committed at) = tt
prepares_own_there T p last wall m s state.Released = tt
prepares_own_there T p last wall m s (state.Aborted why read_at) = tt

prepares_session_there : (T : NodeId → Type 0) (p : Part) (last wall : ℕ) (m : Prepare)
    (s : Option Session) → Begins T (pr.prepares_session p last wall m s).rec
prepares_session_there T p last wall m None = tt
prepares_session_there T p last wall m (Some s) =
    either (is_replaced s m.number m.tag) (λ (c : pr.Voting). Begins T c.rec) _ _ tt
    (either (same_tag s.tag m.tag) (λ (c : pr.Voting). Begins T c.rec) _ _
    (prepares_own_there T p last wall m s s.state) tt)

prepare_there : (T : NodeId → Type 0) (p : Part) (last wall : ℕ) (m : Prepare)
    → Begins T (pr.prepare p last wall m).rec
unfolding pr.prepare
prepare_there T p last wall m = prepares_session_there T p last wall m (session p m.lsid)

decided_begins : (T : NodeId → Type 0) (d : Option Decided) → Begins T (decided_record d)
decided_begins T None = tt
decided_begins T (Some d) = tt

-- The coordinator.

coordinated_there : (T : NodeId → Type 0) (coords : Coordinations) (tag : Tag) (c : Coordinated)
    → coordinated_of coords tag ≡ Some c → PlansThere T coords → CoordinatedThere T c
coordinated_there T coords tag c e h =
    found (CoordinatedThere T) (λ (c : Tag × Coordinated). same_tag c.0 tag) coords h c e

asker_there : (T : NodeId → Type 0) (router : ℕ) (c : Coordinated) → T (Router router)
    → CoordinatedThere T c → CoordinatedThere T (with_asker router c)
asker_there T router c this h =
    record { parts = h.parts; askers = numbers_put (Asker T) router c.askers this h.askers }

tells_there : (T : NodeId → Type 0) (s : ShardState) (router : ℕ) (tag : Tag) (t : Told)
    → T (Router router) → PlansThere T s.coord → RuledThere T (tells s router tag t)
tells_there T s router tag t this c =
    record { plans = c; rec = tt; out = λ own. one (LetterThere T) _ (this, tt) }

asks_there : (T : NodeId → Type 0) (s : ShardState) (router : ℕ) (tag : Tag) (c : Coordinated)
    (d : Option Decision) → coordinated_of s.coord tag ≡ Some c → T (Router router)
    → PlansThere T s.coord → RuledThere T (asks s router tag c d)
asks_there T s router tag c None e this h = record {
  plans = put_all tag_cmp (Coord T) tag (with_asker router c) s.coord (asker_there T router c this
      (coordinated_there T s.coord tag c e h)) h;
  rec = tt;
  out = λ own. none T;
}
asks_there T s router tag c (Some d) e this h = tells_there T s router tag (told_of d) this h

unless_coordinated_there : (T : NodeId
    → Type 0) (s : ShardState) (router : ℕ) (tag : Tag) (c : Option Coordinated) (other : Ruled)
    → coordinated_of s.coord tag ≡ c → T (Router router) → PlansThere T s.coord → RuledThere T other
    → RuledThere T (unless_coordinated s router tag c other)
unless_coordinated_there T s router tag None other e this h k = k
unless_coordinated_there T s router tag (Some c) other e this h k =
    asks_there T s router tag c c.decision e this h

older_there : (T : NodeId → Type 0) (s : ShardState) (router : ℕ) (tag : Tag) (have : Option ℤ)
    (other : Ruled) → T (Router router) → PlansThere T s.coord → RuledThere T other
    → RuledThere T (unless_older s router tag have other)
older_there T s router tag None other this h k = k
older_there T s router tag (Some have) other this h k = tells_there T s router tag _ this h

known_there : (T : NodeId → Type 0) (s : ShardState) (router : ℕ) (tag : Tag) (has : Option Session)
    (number : ℤ) (other : Ruled) → T (Router router) → PlansThere T s.coord → RuledThere T other
    → RuledThere T (unless_known s router tag has number other)
known_there T s router tag has number other this h k =
    older_there T s router tag (larger_number has number)
    (unless_coordinated s router tag (coordinated_of s.coord tag) other) this h
    (unless_coordinated_there T s router tag (coordinated_of s.coord tag) other refl this h k)

prepares_go : (T : NodeId → Type 0) (own : ℕ) (tag : Tag) (plan : Plan) (parts : List (ℕ × ℕ))
    → T (Shard own) → PartsThere T parts → All (LetterThere T) (map (prepare_to own tag plan) parts)
prepares_go T own tag plan parts this h =
    each_of (Party T) (LetterThere T) (prepare_to own tag plan) (λ part k. (k, this)) parts h

decides_go : (T : NodeId → Type 0) (tag : Tag) (plan : Plan) (d : Decision) (parts : List (ℕ × ℕ))
    → PartsThere T parts → All (LetterThere T) (map (decide_to tag plan d) parts)
decides_go T tag plan d parts h =
    each_of (Party T) (LetterThere T) (decide_to tag plan d) (λ part k. (k, tt)) parts h

starts_there : (T : NodeId → Type 0) (s : ShardState) (router : ℕ) (m : CommitTwo)
    → T (Router router) → PartsThere T m.parts → PlansThere T s.coord
    → RuledThere T (starts s router m)
starts_there T s router m this p c = record {
  plans = put_all tag_cmp (Coord T) m.tag (with_asker router (undecided (plan_of m))) s.coord
      (asker_there T router (undecided (plan_of m)) this
      (record { parts = p; askers = All-nil (Asker T) })) c;
  rec = p;
  out = λ own. prepares_go T s.part.shard m.tag (plan_of m) m.parts own p;
}

starts_own_there : (T : NodeId → Type 0) (s : ShardState) (router : ℕ) (m : CommitTwo)
    (own : Session) (st : SessionState) → T (Router router) → PartsThere T m.parts
    → PlansThere T s.coord → RuledThere T (starts_own s router m own st)
starts_own_there T s router m own state.Live this p c =
    either (nat_eq m.boot s.part.boot) (RuledThere T) _ _ (starts_there T s router m this p c)
    (tells_there T (with_part s (aborted s.part m.lsid own _)) router m.tag _ this c)
starts_own_there T s router m own (state.Prepared at coordinator) this p c = quiet_there T s c
starts_own_there T s router m own (state.Committed at) this p c =
    tells_there T s router m.tag _ this c
starts_own_there T s router m own state.Released this p c = quiet_there T s c
starts_own_there T s router m own (state.Aborted why read_at) this p c =
    tells_there T s router m.tag _ this c

starts_new_there : (T : NodeId → Type 0) (s : ShardState) (router : ℕ) (m : CommitTwo)
    (own : Option Session) → T (Router router) → PartsThere T m.parts → PlansThere T s.coord
    → RuledThere T (starts_new s router m own)
starts_new_there T s router m None this p c = tells_there T s router m.tag _ this c
starts_new_there T s router m (Some own) this p c =
    either (same_tag own.tag m.tag) (RuledThere T) _ _ (starts_own_there T s router m own own.state
    this p c) (tells_there T s router m.tag _ this c)

vote_keeps : (T : NodeId → Type 0) (shard : ℕ) (vote : Result ℕ Cause) (c : Coordinated)
    → CoordinatedThere T c → CoordinatedThere T (behind_vote shard vote c)
vote_keeps T shard (Ok at) c h = record { parts = h.parts; askers = h.askers }
vote_keeps T shard (Err why) c h = record { parts = h.parts; askers = h.askers }

voted_there : (T : NodeId → Type 0) (tag : Tag) (shard : ℕ) (vote : Result ℕ Cause)
    (c : Coordinated) (coords : Coordinations) → CoordinatedThere T c → PlansThere T coords
    → PlansThere T (voted tag shard vote c coords)
voted_there T tag shard vote c coords this h =
    either (counts shard c) (PlansThere T) _ _ (put_all tag_cmp (Coord T) tag
    (behind_vote shard vote c) coords (vote_keeps T shard vote c this) h) h

votes_on_there : (T : NodeId → Type 0) (s : ShardState) (m : Vote) (c : Coordinated) (d :
    Option Decision) → CoordinatedThere T c → PlansThere T s.coord → RuledThere T (votes_on s m c d)
votes_on_there T s m c None this h = record {
  plans = voted_there T m.tag m.shard m.vote c s.coord this h;
  rec = tt;
  out = λ own. none T;
}
votes_on_there T s m c (Some d) this h = record {
  plans = voted_there T m.tag m.shard m.vote c s.coord this h;
  rec = tt;
  out = λ own. All-append (LetterThere T) _ _ (each_of (Asker T) (LetterThere T) _ (λ router k.
      (k, tt)) c.askers this.askers) (decides_go T m.tag c.plan d c.plan.parts this.parts);
}

votes_there : (T : NodeId → Type 0) (s : ShardState) (m : Vote) (c : Option Coordinated)
    → coordinated_of s.coord m.tag ≡ c → PlansThere T s.coord → RuledThere T (votes_if s m c)
votes_there T s m None e h = quiet_there T s h
votes_there T s m (Some c) e h =
    votes_on_there T s m c (decided_by m.shard m.vote c) (coordinated_there T s.coord m.tag c e h) h

acked_there : (T : NodeId
    → Type 0) (tag : Tag) (shard : ℕ) (c : Coordinated) (coords : Coordinations)
    → CoordinatedThere T c → PlansThere T coords → PlansThere T (acked tag shard c coords)
acked_there T tag shard c coords this h =
    either (ack_counts shard c) (PlansThere T) _ _
    (either (all_acked (with_ack shard c)) (PlansThere T) _ _
    (taken_all tag_cmp (Coord T) tag coords h)
    (put_all tag_cmp (Coord T) tag (with_ack shard c) coords
    (record { parts = this.parts; askers = this.askers }) h)) h

acks_there : (T : NodeId → Type 0) (s : ShardState) (m : Acked) (c : Option Coordinated)
    → coordinated_of s.coord m.tag ≡ c → PlansThere T s.coord → RuledThere T (acks_if s m c)
acks_there T s m None e h = quiet_there T s h
acks_there T s m (Some c) e h = record {
  plans = acked_there T m.tag m.shard c s.coord (coordinated_there T s.coord m.tag c e h) h;
  rec = either (is_last_ack m.shard c) (Begins T) (Some (rec.CoordEnd m.tag)) None tt tt;
  out = λ own. none T;
}

router_there : (T : NodeId → Type 0) (from : NodeId) → T from → IfSome (router_of from) (Asker T)
router_there T (Router n) this =
    either (nat_lt n 8) (λ (o : Option ℕ). IfSome o (Asker T)) (Some n) None this tt
router_there T (Shard n) this = tt

router_rule : (T : NodeId → Type 0) (s : ShardState) (rule : ℕ → Ruled) (router : Option ℕ)
    → IfSome router (Asker T) → PlansThere T s.coord
    → ((n : ℕ) → T (Router n) → RuledThere T (rule n)) → RuledThere T (from_router s rule router)
router_rule T s rule None this c h = quiet_there T s c
router_rule T s rule (Some router) this c h = h router this

resends_by_go : (T : NodeId → Type 0) (own : ℕ) (tag : Tag) (c : Coordinated) (d : Option Decision)
    → T (Shard own) → CoordinatedThere T c → All (LetterThere T) (resends_by own tag c d)
resends_by_go T own tag c None this h = prepares_go T own tag c.plan _ this
    (All-filter (λ (part : ℕ × ℕ). not (has_voted part.0 c)) (Party T) c.plan.parts h.parts)
resends_by_go T own tag c (Some d) this h = decides_go T tag c.plan d _
    (All-filter (λ (part : ℕ × ℕ). not (has_acked part.0 c)) (Party T) c.plan.parts h.parts)

resends_go : (T : NodeId → Type 0) (own : ℕ) (coords : Coordinations) → T (Shard own)
    → PlansThere T coords → All (LetterThere T) (resends own coords)
resends_go T own [] this h = none T
resends_go T own (entry ∷ coords) this h =
    All-append (LetterThere T) (resends_by own entry.0 entry.1 entry.1.decision)
    (resends own coords)
    (resends_by_go T own entry.0 entry.1 entry.1.decision this (All-head (Coord T) entry coords h))
    (resends_go T own coords this (All-tail (Coord T) entry coords h))

-- Each message.

ruled_there : (T : NodeId → Type 0) (s : ShardState) (from : NodeId) (m : Msg) → T from
    → NamesThere T m → PlansThere T s.coord → RuledThere T (ruled s from m)
ruled_there T s from (msg.Statement m) this b c =
    let turn = statement s.part s.clock.last s.wall m in
    either (elsewhere s.part m.lsid m.tag) (RuledThere T) _ _ (quiet_there T s c)
    (answers_there T (with_part s turn.1) from m turn.0 this c)
ruled_there T s from (msg.Answer m) this b c = quiet_there T s c
ruled_there T s from (msg.Commit m) this b c = record {
  plans = c;
  rec = commit_there T s.part s.clock.last s.wall m;
  out = λ own. outcome_there T s m.tag from _ this;
}
ruled_there T s from (msg.Outcome m) this b c = quiet_there T s c
ruled_there T s from (msg.Abort m) this b c = either (coordinates s m.tag) (RuledThere T) _ _
    (quiet_there T s c) (record { plans = c; rec = tt; out = λ own. none T })
ruled_there T s from (msg.CommitTwo m) this b c =
    router_rule T s (λ router. on_commit_two s router m) (router_of from)
    (router_there T from this) c
    (λ router asker. known_there T s router m.tag (session s.part m.lsid) m.number _ asker c
    (starts_new_there T s router m (session s.part m.lsid) asker b c))
ruled_there T s from (msg.Prepare m) this b c = record {
  plans = c;
  rec = prepare_there T s.part s.clock.last s.wall m;
  out = λ own. vote_there T s m _ b;
}
ruled_there T s from (msg.Vote m) this b c = votes_there T s m (coordinated_of s.coord m.tag) refl c
ruled_there T s from (msg.Decide m) this b c = record {
  plans = c;
  rec = decided_begins T (decide s.part m).0;
  out = λ own. one (LetterThere T) _ (this, tt);
}
ruled_there T s from (msg.Acked m) this b c = acks_there T s m (coordinated_of s.coord m.tag) refl c
ruled_there T s from (msg.Recover m) this b c =
    router_rule T s (λ router. on_recover s router m) (router_of from) (router_there T from this) c
    (λ router asker. known_there T s router m.tag (session s.part m.lsid) m.number
    (recovers s router m) asker c
    (tells_there T (with_part s (recover s.part m).1) router m.tag (recover s.part m).0 asker c))
ruled_there T s from msg.Nudge this b c =
    record { plans = c; rec = tt; out = λ own. resends_go T s.part.shard s.coord own c }

-- The step.

pub record StepThere (T : NodeId → Type 0) (o : CoreStep) : Type 0 where
  pub plans : PlansThere T o.core.coord
  pub rec : IfSome o.rec (BeginsThere T)
  pub out : T (Shard o.core.part.shard) → All (EnvThere T) (given_out o.answer)

gives_there : (T : NodeId → Type 0) (s : ShardState) (out : List Letter) → T (Shard s.part.shard)
    → All (LetterThere T) out → All (EnvThere T) (given_out (gives_out s out))
gives_there T s out own h = letters_go T (Shard s.part.shard) s.clock.last out own h

answers_out : (T : NodeId → Type 0) (s : ShardState) (out : List Letter) (h : Option Held)
    → T (Shard s.part.shard) → All (LetterThere T) out
    → All (EnvThere T) (given_out (answer_of s out h))
answers_out T s out None own h = gives_there T s out own h
answers_out T s out (Some held) own h = All-nil (EnvThere T)

rules : (T : NodeId → Type 0) (bound : Option ℕ) (r : Ruled) → RuledThere T r
    → StepThere T (stepped bound r)
rules T bound r h = record {
  plans = h.plans;
  rec = h.rec;
  out = λ own. answers_out T r.core r.out r.held own (h.out own);
}

calm : (T : NodeId → Type 0) (s : ShardState) (e : NodeEvent) → PlansThere T s.coord
    → StepThere T (stepped None (quiet (entered s e)))
calm T s e c = record { plans = c; rec = tt; out = λ own. All-nil (EnvThere T) }

happens : (T : NodeId → Type 0) (s : ShardState) (e : NodeEvent) (w : Happening) → EventThere T w
    → PlansThere T s.coord → StepThere T (happened (entered s e) w)
happens T s e (what.Client conn frame) b c = calm T s e c
happens T s e (what.Gone conn) b c = calm T s e c
happens T s e (what.Deliver sent) b c =
    rules T (ceiling_of (entered s e) sent) (ruled (met (entered s e) sent) sent.from sent.msg)
    (ruled_there T (met (entered s e) sent) sent.from sent.msg b.comes b.names c)
happens T s e what.Resend b c = record {
  plans = c;
  rec = tt;
  out = λ own. gives_there T (entered s e) _ own (resends_go T (entered s e).part.shard
      s.coord own c);
}
happens T s e what.Moment b c = calm T s e c

-- out of memory

abbrev WantsThere : (NodeId → Type 0) → ShardState → Option Wanting → Type 0
WantsThere T s w = IfSome w (λ w. T (Shard s.part.shard) → LetterThere T w.letter)

wants : (T : NodeId → Type 0) (s : ShardState) (from : NodeId) (m : Msg) → T from → NamesThere T m
    → WantsThere T s (wanting s from m)
wants T s from (msg.Statement m) this b =
    either (elsewhere s.part m.lsid m.tag) (WantsThere T s) _ _ tt (λ own. (this, own))
wants T s from (msg.Answer m) this b = tt
wants T s from (msg.Commit m) this b = λ own. (this, tt)
wants T s from (msg.Outcome m) this b = tt
wants T s from (msg.Abort m) this b = tt
wants T s from (msg.CommitTwo m) this b =
    either (is_some (router_of from)) (WantsThere T s) _ _ (λ own. (this, tt)) tt
wants T s from (msg.Prepare m) this b = λ own. (b, tt)
wants T s from (msg.Vote m) this b = tt
wants T s from (msg.Decide m) this b = tt
wants T s from (msg.Acked m) this b = tt
wants T s from (msg.Recover m) this b =
    either (is_some (router_of from)) (WantsThere T s) _ _ (λ own. (this, tt)) tt
wants T s from msg.Nudge this b = tt

-- a shard that tells out of memory keeps its number

ends_own_shard : (p : Part) (lsid : Lsid) (s : Session) (st : SessionState)
    → (ends_own p lsid s st).shard ≡ p.shard
ends_own_shard p lsid s state.Live = refl
ends_own_shard p lsid s (state.Prepared at coordinator) = refl
ends_own_shard p lsid s (state.Committed at) = refl
ends_own_shard p lsid s state.Released = refl
ends_own_shard p lsid s (state.Aborted why read_at) = refl

ends_session_shard : (p : Part) (lsid : Lsid) (tag : Tag) (s : Option Session)
    → (ends_session p lsid tag s).shard ≡ p.shard
ends_session_shard p lsid tag None = refl
ends_session_shard p lsid tag (Some s) = either (same_tag s.tag tag) (λ (q : Part). q.shard
    ≡ p.shard) _ _ (ends_own_shard p lsid s s.state) refl

abbrev EachStep : (NodeId → Type 0) → Option CoreStep → Type 0
EachStep T o = IfSome o (StepThere T)

told_there : (T : NodeId → Type 0) (s : ShardState) (bound : Option ℕ) (w : Option Wanting)
    → PlansThere T s.coord → WantsThere T s w
    → EachStep T (option_map (stepped bound) (option_and_then (told_if s) w))
told_there T s bound None c h = tt
told_there T s bound (Some w) c h =
    either (may_be_told s w) (λ (r : Option Ruled). EachStep T (option_map (stepped bound) r))
    (Some (told_memory s w)) None
    (rules T bound (told_memory s w) (record {
      plans = c;
      rec = tt;
      out = λ own. one (LetterThere T) w.letter (h (subst (λ (n : ℕ). T (Shard n))
          (ends_session_shard s.part w.lsid w.tag (session s.part w.lsid)) own));
    }))
    tt

scarce_there : (T : NodeId → Type 0) (s : ShardState) (e : NodeEvent) (w : Happening)
    → EventThere T w → PlansThere T s.coord → EachStep T (scarce (entered s e) w)
scarce_there T s e (what.Client conn frame) b c = tt
scarce_there T s e (what.Gone conn) b c = tt
scarce_there T s e (what.Deliver sent) b c =
    told_there T (met (entered s e) sent) (ceiling_of (entered s e) sent)
    (wanting (met (entered s e) sent) sent.from sent.msg) c
    (wants T (met (entered s e) sent) sent.from sent.msg b.comes b.names)
scarce_there T s e what.Resend b c = tt
scarce_there T s e what.Moment b c = tt

unless_short : (T : NodeId → Type 0) (o : Option CoreStep) → EachStep T o → (other : CoreStep)
    → StepThere T other → StepThere T (unwrap_or o other)
unless_short T None h other k = k
unless_short T (Some o) h other k = h

memory : (T : NodeId → Type 0) (s : ShardState) → PlansThere T s.coord
    → StepThere T (stays s answer.Memory)
memory T s c = record { plans = c; rec = tt; out = λ own. All-nil (EnvThere T) }

runs : (T : NodeId → Type 0) (room : Room) (s : ShardState) (e : NodeEvent) → EventThere T e.what
    → PlansThere T s.coord → StepThere T (running_step room s e)
runs T Ample s e b c = happens T s e e.what b c
runs T Scarce s e b c = unless_short T (scarce (entered s e) e.what) (scarce_there T s e e.what b c)
    (stays s answer.Memory) (memory T s c)
runs T Short s e b c = memory T s c

-- a stopped shard

says : (T : NodeId → Type 0) (s : ShardState) (faults : ℕ) (from : NodeId) (m : Msg) → T from
    → T (Shard s.part.shard) → All (EnvThere T) (given_out (says_stopped s faults from m))
says T s faults from (msg.Statement m) this own =
    let l : Letter = participating.answer s from m 0 (Err (cause.Faulted faults)) in
    gives_there T s (l ∷ []) own (one (LetterThere T) l (this, own))
says T s faults from other this own = All-nil (EnvThere T)

stopped_there : (T : NodeId → Type 0) (s : ShardState) (faults : ℕ) (w : Happening) → EventThere T w
    → T (Shard s.part.shard) → All (EnvThere T) (given_out (answer_stopped s faults w))
stopped_there T s faults (what.Deliver e) b own = says T s faults e.from e.msg b.comes own
stopped_there T s faults other b own = All-nil (EnvThere T)

stops : (T : NodeId → Type 0) (room : Room) (s : ShardState) (faults : ℕ) (e : NodeEvent)
    → EventThere T e.what → PlansThere T s.coord → StepThere T (stopped_step room s faults e)
stops T Ample s faults e b c =
    record { plans = c; rec = tt; out = λ own. stopped_there T s faults e.what b own }
stops T Scarce s faults e b c = memory T s c
stops T Short s faults e b c = memory T s c

steps : (T : NodeId → Type 0) (room : Room) (s : ShardState) (e : NodeEvent) (stopped : Option ℕ)
    → EventThere T e.what → PlansThere T s.coord → StepThere T (step_if room s e stopped)
steps T room s e None b c = runs T room s e b c
steps T room s e (Some faults) b c = stops T room s faults e b c

pub step_there : (T : NodeId → Type 0) (room : Room) (s : ShardState) (e : NodeEvent)
    → EventThere T e.what → PlansThere T s.coord → StepThere T (core_step room s e)
unfolding core_step
step_there T room s e b c = steps T room s e s.stopped b c
