-- What a shard records by itself is above what was resolved there.
use Rattle.std.proofs.Common.{◌≡◌, ◌≤◌, ◌<◌, ◌⊎◌, inl, inr, ◌++◌, ℕ, ℤ, Bool, true, false, max}
use Rattle.std.proofs.Common.{nat_eq, int_lt, All, List, [], ◌∷◌, Option, Some, None, IfSome}
use Rattle.std.proofs.Common.{option_map, option_and_then, unwrap_or, refl, sym, ap, subst, ◌∙◌}
use Rattle.std.proofs.Common.{arith, if◌then◌else◌}
use Rattle.std.specs.Prelude.{slice_get, slice_set}
use Rattle.std.proofs.lemmas.List.{append-nil}
use Rattle.std.proofs.lemmas.List.Elements.{All-nil, All-append}
use Rattle.txn_types.specs.Clock.{ticked, next_time, last_time, raised}
use Rattle.txn_types.specs.Order.{same_tag}
use Rattle.txn_types.specs.declared.decision.Decision.{Decision}
use Rattle.txn_types.specs.declared.event.Happening.{Happening}
use Rattle.txn_types.specs.declared.event.Happening.TheVariants as what
use Rattle.txn_types.specs.declared.event.NodeAnswer.TheVariants as answer
use Rattle.txn_types.specs.declared.event.NodeEvent.{NodeEvent}
use Rattle.txn_types.specs.declared.message.Acked.{Acked}
use Rattle.txn_types.specs.declared.message.CommitTwo.{CommitTwo}
use Rattle.txn_types.specs.declared.message.Msg.{Msg}
use Rattle.txn_types.specs.declared.message.Msg.TheVariants as msg
use Rattle.txn_types.specs.declared.message.Prepare.{Prepare}
use Rattle.txn_types.specs.declared.message.Statement.{Statement}
use Rattle.txn_types.specs.declared.message.Vote.{Vote}
use Rattle.txn_types.specs.declared.names.Tag.{Tag}
use Rattle.txn_types.specs.declared.node.NodeId.{NodeId}
use Rattle.txn_types.specs.declared.node.NodeId.TheVariants.{Shard, Router}
use Rattle.session_table.specs.declared.session.Session.{Session}
use Rattle.session_table.specs.declared.session.SessionState.{SessionState}
use Rattle.session_table.specs.declared.session.SessionState.TheVariants as state
use Rattle.journal_rec.specs.declared.record.Decided.{Decided}
use Rattle.journal_rec.specs.declared.record.Rec.{Rec}
use Rattle.journal_rec.specs.declared.record.Rec.TheVariants as rec
use Rattle.coordinator.specs.TwoPhase.{Coordinated, coordinated_of, decided_by, is_last_ack}
use Rattle.participant.specs.declared.said.Said.{Said}
use Rattle.participant.specs.declared.said.Said.TheVariants.{Did, Blocked, Refused, Late}
use Rattle.participant.specs.Part.{Part, session, elsewhere}
use Rattle.participant.specs.Statement.{statement}
use Rattle.participant.specs.Commit.{commit}
use Rattle.participant.specs.Prepare.{prepare}
use Rattle.participant.specs.Decide.{decide}
use Rattle.participant.proofs.Cases.{either}
use Rattle.shard_core.specs.State.{ShardState, met, ceiling_of, with_part}
use Rattle.shard_core.specs.Ruled.{Ruled, coordinates}
use Rattle.shard_core.specs.Participating.{answers, decided_record}
use Rattle.shard_core.specs.Coordinating.{asks, unless_coordinated, unless_older, unless_known}
use Rattle.shard_core.specs.Coordinating.{larger_number, starts_own, starts_new, votes_on, votes_if}
use Rattle.shard_core.specs.Coordinating.{acks_if, on_commit_two, on_recover, recovers}
use Rattle.shard_core.specs.Rules.{ruled, from_router, router_of}
use Rattle.shard_core.specs.Wanting.{wanting, Wanting, told_if, told_memory, may_be_told}
use Rattle.shard_core.specs.Core.{Room, Ample, Scarce, Short, CoreStep, core_step, step_if, stepped}
use Rattle.shard_core.specs.Core.{stays, entered, happened, scarce, running_step, stopped_step}
use Rattle.txn_types.specs.declared.message.Commit.{Commit}
use Rattle.txn_types.specs.declared.event.NodeAnswer.{NodeAnswer}
use Rattle.txn_types.specs.declared.write.Write.{Write}
use Rattle.participant.specs.declared.said.Open.{Open}
use Rattle.participant.specs.Part.{open_of, is_replaced}
use Rattle.participant.specs.Commit as co
use Rattle.participant.specs.Prepare as pr
use Rattle.shard_core.specs.State.{below, resolved_of}
use Rattle.participant.specs.Part.{least_prepared}
use Rattle.shard_image.specs.Image.{image_of}
use Rattle.shard_core.specs.NodeStep.{NodeState, ShardTakes, Appended, Failed, joined, appends_of}
use Rattle.shard_core.specs.NodeStep.{boot_behind, started, resolved_at}
use Rattle.txn_model.specs.declared.ran.Ran.{Ran}
use Rattle.txn_model.specs.declared.ran.Ran.TheVariants.{Step, Swapped}
use Rattle.cluster_core.specs.Nodes.{Nodes}
use Rattle.cluster_core.specs.Parts.{IsRunning}
use Rattle.cluster_core.specs.Trace.{Happens, MayRemain}
use Rattle.world_laws.specs.Clocks.{ClockStands, ClocksStand}
use Rattle.world_laws.specs.Above.{IsAbove, ResolvedStands, ResolvedStand, GrowsAbove, AllGrow}
use Rattle.world_laws.proofs.Lists.{get_set}
use Rattle.world_laws.proofs.Naming.{one}
use Rattle.world_laws.proofs.Going.{some_same}
use Rattle.world_laws.proofs.Records.{Added, added_step}
use Rattle.world_laws.proofs.Steps.{stopped_rests}
use Rattle.world_laws.proofs.Clocks.{started_is, each_set, each_same, no_appends, rests_not}

abbrev Above : ℕ → Option Rec → Type 0
Above last r = IfSome r (IsAbove last)

abbrev R : ℕ → Ruled → Type 0
R last r = Above last r.rec

-- A commit and a prepare are at the clock's next time.

ticked_by : (test : Bool) (last next at : ℕ) → last < next
    → (if test then None else Some next) ≡ Some at → last < at
ticked_by true last next at h e = grind arith
ticked_by false last next at h e = let is : next ≡ at = some_same next at e in omega (arith, is, h)

ticked_above : (last wall at : ℕ) → ticked last wall ≡ Some at → last < at
ticked_above last wall at e =
    ticked_by (nat_eq last last_time) last (next_time last wall) at (omega arith) e

commits_by_above : (p : Part) (last wall : ℕ) (m : Commit) (s : Session) (o : Open) (t : Option ℕ)
    → ticked last wall ≡ t → Above last (co.commits_by p last m s o t).rec
commits_by_above p last wall m s o None e = tt
commits_by_above p last wall m s o (Some at) e = ticked_above last wall at e

commits_writes_above : (p : Part) (last wall : ℕ) (m : Commit) (s : Session) (o : Open)
    (ws : List Write) → Above last (co.commits_writes p last wall m s o ws).rec
commits_writes_above p last wall m s o [] = tt
commits_writes_above p last wall m s o (w ∷ ws) =
    commits_by_above p last wall m s o (ticked last wall) refl

commits_open_above : (p : Part) (last wall : ℕ) (m : Commit) (s : Session) (o : Option Open)
    → Above last (co.commits_open p last wall m s o).rec
commits_open_above p last wall m s None = tt
commits_open_above p last wall m s (Some o) = commits_writes_above p last wall m s o o.writes

commits_own_above : (p : Part) (last wall : ℕ) (m : Commit) (s : Session) (st : SessionState)
    → Above last (co.commits_own p last wall m s st).rec
commits_own_above p last wall m s state.Live = either (nat_eq m.boot p.boot) (λ (c : co.Committing).
    Above last c.rec) _ _ (commits_open_above p last wall m s (open_of p m.lsid)) tt
commits_own_above p last wall m s (state.Prepared at coordinator) = tt
commits_own_above p last wall m s (state.Committed at) = tt
commits_own_above p last wall m s state.Released = tt
commits_own_above p last wall m s (state.Aborted why read_at) = tt

commits_above : (p : Part) (last wall : ℕ) (m : Commit) (s : Option Session)
    → Above last (co.commits_session p last wall m s).rec
commits_above p last wall m None = tt
commits_above p last wall m (Some s) =
    either (int_lt m.number s.number) (λ (c : co.Committing). Above last c.rec) _ _ tt
    (either (same_tag s.tag m.tag) (λ (c : co.Committing). Above last c.rec) _ _
    (commits_own_above p last wall m s s.state) tt)

commit_above : (p : Part) (last wall : ℕ) (m : Commit) → Above last (commit p last wall m).rec
unfolding commit
commit_above p last wall m = commits_above p last wall m (session p m.lsid)

prepares_by_above : (p : Part) (last wall : ℕ) (m : Prepare) (s : Session) (o : Open) (t : Option ℕ)
    → ticked last wall ≡ t → Above last (pr.prepares_by p last m s o t).rec
prepares_by_above p last wall m s o None e = tt
prepares_by_above p last wall m s o (Some at) e = ticked_above last wall at e

prepares_open_above : (p : Part) (last wall : ℕ) (m : Prepare) (s : Session) (o : Option Open)
    → Above last (pr.prepares_open p last wall m s o).rec
prepares_open_above p last wall m s None = tt
prepares_open_above p last wall m s (Some o) =
    prepares_by_above p last wall m s o (ticked last wall) refl

prepares_own_above : (p : Part) (last wall : ℕ) (m : Prepare) (s : Session) (st : SessionState)
    → Above last (pr.prepares_own p last wall m s st).rec
prepares_own_above p last wall m s state.Live = either (nat_eq m.boot p.boot) (λ (c : pr.Voting).
    Above last c.rec) _ _ (prepares_open_above p last wall m s (open_of p m.lsid)) tt
prepares_own_above p last wall m s (state.Prepared at coordinator) = tt
prepares_own_above p last wall m s (state.Committed at) = tt
prepares_own_above p last wall m s state.Released = tt
prepares_own_above p last wall m s (state.Aborted why read_at) = tt

prepares_above : (p : Part) (last wall : ℕ) (m : Prepare) (s : Option Session)
    → Above last (pr.prepares_session p last wall m s).rec
prepares_above p last wall m None = tt
prepares_above p last wall m (Some s) =
    either (is_replaced s m.number m.tag) (λ (c : pr.Voting). Above last c.rec) _ _
    tt (either (same_tag s.tag m.tag) (λ (c : pr.Voting). Above last c.rec) _ _
    (prepares_own_above p last wall m s s.state) tt)

prepare_above : (p : Part) (last wall : ℕ) (m : Prepare) → Above last (prepare p last wall m).rec
unfolding prepare
prepare_above p last wall m = prepares_above p last wall m (session p m.lsid)

-- No other message records one.

answers_above : (last : ℕ) (s : ShardState) (to : NodeId) (m : Statement) (said : Said)
    → R last (answers s to m said)
answers_above last s to m (Did read_at reply wrote) = tt
answers_above last s to m (Blocked held) = tt
answers_above last s to m (Refused why read_at) = tt
answers_above last s to m Late = tt

decided_above : (last : ℕ) (d : Option Decided) → Above last (decided_record d)
decided_above last None = tt
decided_above last (Some d) = tt

asks_above : (last : ℕ) (s : ShardState) (router : ℕ) (tag : Tag) (c : Coordinated)
    (d : Option Decision) → R last (asks s router tag c d)
asks_above last s router tag c None = tt
asks_above last s router tag c (Some d) = tt

coordinated_above : (last : ℕ) (s : ShardState) (router : ℕ) (tag : Tag) (c : Option Coordinated)
    (other : Ruled) → R last other → R last (unless_coordinated s router tag c other)
coordinated_above last s router tag None other k = k
coordinated_above last s router tag (Some c) other k = asks_above last s router tag c c.decision

older_above : (last : ℕ) (s : ShardState) (router : ℕ) (tag : Tag) (have : Option ℤ) (other : Ruled)
    → R last other → R last (unless_older s router tag have other)
older_above last s router tag None other k = k
older_above last s router tag (Some have) other k = tt

known_above : (last : ℕ) (s : ShardState) (router : ℕ) (tag : Tag) (has : Option Session) (number :
    ℤ) (other : Ruled) → R last other → R last (unless_known s router tag has number other)
known_above last s router tag has number other k =
    older_above last s router tag (larger_number has number)
    (unless_coordinated s router tag (coordinated_of s.coord tag) other)
    (coordinated_above last s router tag (coordinated_of s.coord tag) other k)

starts_own_above : (last : ℕ) (s : ShardState) (router : ℕ) (m : CommitTwo) (own : Session)
    (st : SessionState) → R last (starts_own s router m own st)
starts_own_above last s router m own state.Live =
    either (nat_eq m.boot s.part.boot) (R last) _ _ tt tt
starts_own_above last s router m own (state.Prepared at coordinator) = tt
starts_own_above last s router m own (state.Committed at) = tt
starts_own_above last s router m own state.Released = tt
starts_own_above last s router m own (state.Aborted why read_at) = tt

starts_new_above : (last : ℕ) (s : ShardState) (router : ℕ) (m : CommitTwo) (own : Option Session)
    → R last (starts_new s router m own)
starts_new_above last s router m None = tt
starts_new_above last s router m (Some own) =
    either (same_tag own.tag m.tag) (R last) _ _ (starts_own_above last s router m own own.state) tt

votes_on_above : (last : ℕ) (s : ShardState) (m : Vote) (c : Coordinated) (d : Option Decision)
    → R last (votes_on s m c d)
votes_on_above last s m c None = tt
votes_on_above last s m c (Some d) = tt

votes_above : (last : ℕ) (s : ShardState) (m : Vote) (c : Option Coordinated)
    → R last (votes_if s m c)
votes_above last s m None = tt
votes_above last s m (Some c) = votes_on_above last s m c (decided_by m.shard m.vote c)

acks_above : (last : ℕ) (s : ShardState) (m : Acked) (c : Option Coordinated)
    → R last (acks_if s m c)
acks_above last s m None = tt
acks_above last s m (Some c) =
    either (is_last_ack m.shard c) (Above last) (Some (rec.CoordEnd m.tag)) None tt tt

router_above : (last : ℕ) (s : ShardState) (rule : ℕ → Ruled) (router : Option ℕ)
    → ((n : ℕ) → R last (rule n)) → R last (from_router s rule router)
router_above last s rule None h = tt
router_above last s rule (Some router) h = h router

ruled_above : (s : ShardState) (from : NodeId) (m : Msg) → R s.clock.last (ruled s from m)
ruled_above s from (msg.Statement m) =
    let turn = statement s.part s.clock.last s.wall m in
    either (elsewhere s.part m.lsid m.tag) (R s.clock.last) _ _ tt
    (answers_above s.clock.last (with_part s turn.1) from m turn.0)
ruled_above s from (msg.Answer m) = tt
ruled_above s from (msg.Commit m) = commit_above s.part s.clock.last s.wall m
ruled_above s from (msg.Outcome m) = tt
ruled_above s from (msg.Abort m) = either (coordinates s m.tag) (R s.clock.last) _ _ tt tt
ruled_above s from (msg.CommitTwo m) =
    router_above s.clock.last s (λ router. on_commit_two s router m) (router_of from)
    (λ router. known_above s.clock.last s router m.tag (session s.part m.lsid) m.number _
    (starts_new_above s.clock.last s router m (session s.part m.lsid)))
ruled_above s from (msg.Prepare m) = prepare_above s.part s.clock.last s.wall m
ruled_above s from (msg.Vote m) = votes_above s.clock.last s m (coordinated_of s.coord m.tag)
ruled_above s from (msg.Decide m) = decided_above s.clock.last (decide s.part m).0
ruled_above s from (msg.Acked m) = acks_above s.clock.last s m (coordinated_of s.coord m.tag)
ruled_above s from (msg.Recover m) =
    router_above s.clock.last s (λ router. on_recover s router m) (router_of from)
    (λ router. known_above s.clock.last s router m.tag (session s.part m.lsid) m.number
    (recovers s router m) tt)
ruled_above s from msg.Nudge = tt

-- The step.

lower_rec : (low last : ℕ) → low ≤ last → (r : Rec) → IsAbove last r → IsAbove low r
lower_rec low last le (rec.Commit tag lsid number read_at at writes) h = omega (arith, le, h)
lower_rec low last le (rec.Prepared tag lsid number boot read_at at coordinator writes) h =
    omega (arith, le, h)
lower_rec low last le other h = tt

lower : (low last : ℕ) → low ≤ last → (r : Option Rec) → Above last r → Above low r
lower low last le None h = tt
lower low last le (Some r) h = lower_rec low last le r h

raised_last : (s : ShardState) (e : NodeEvent) (bound : Option ℕ) (time read_at : ℕ)
    → s.clock.last ≤ max (max (raised s.clock bound).last time) read_at
raised_last s e None time read_at = omega arith
raised_last s e (Some bound) time read_at = omega arith

abbrev StepAbove : ℕ → CoreStep → Type 0
StepAbove last o = Above last o.rec

happens_above : (s : ShardState) (e : NodeEvent) (w : Happening)
    → StepAbove s.clock.last (happened (entered s e) w)
happens_above s e (what.Client conn frame) = tt
happens_above s e (what.Gone conn) = tt
happens_above s e (what.Deliver sent) =
    let there = met (entered s e) sent in
    lower s.clock.last there.clock.last (raised_last s e (ceiling_of (entered s e) sent) sent.time
    _) (ruled there sent.from sent.msg).rec (ruled_above there sent.from sent.msg)
happens_above s e what.Resend = tt
happens_above s e what.Moment = tt

abbrev EachStep : ℕ → Option CoreStep → Type 0
EachStep last o = IfSome o (StepAbove last)

told_above : (last : ℕ) (s : ShardState) (bound : Option ℕ) (w : Option Wanting)
    → EachStep last (option_map (stepped bound) (option_and_then (told_if s) w))
told_above last s bound None = tt
told_above last s bound (Some w) = either (may_be_told s w) (λ (r : Option Ruled).
    EachStep last (option_map (stepped bound) r)) (Some (told_memory s w)) None tt tt

scarce_above : (last : ℕ) (s : ShardState) (e : NodeEvent) (w : Happening)
    → EachStep last (scarce (entered s e) w)
scarce_above last s e (what.Client conn frame) = tt
scarce_above last s e (what.Gone conn) = tt
scarce_above last s e (what.Deliver sent) = told_above last (met (entered s e) sent)
    (ceiling_of (entered s e) sent) (wanting (met (entered s e) sent) sent.from sent.msg)
scarce_above last s e what.Resend = tt
scarce_above last s e what.Moment = tt

unless_short : (last : ℕ) (o : Option CoreStep) → EachStep last o → (other : CoreStep)
    → StepAbove last other → StepAbove last (unwrap_or o other)
unless_short last None h other k = k
unless_short last (Some o) h other k = h

runs_above : (room : Room) (s : ShardState) (e : NodeEvent)
    → StepAbove s.clock.last (running_step room s e)
runs_above Ample s e = happens_above s e e.what
runs_above Scarce s e = unless_short s.clock.last (scarce (entered s e) e.what)
    (scarce_above s.clock.last s e e.what) (stays s answer.Memory) tt
runs_above Short s e = tt

stops_above : (room : Room) (s : ShardState) (faults : ℕ) (e : NodeEvent)
    → StepAbove s.clock.last (stopped_step room s faults e)
stops_above Ample s faults e = tt
stops_above Scarce s faults e = tt
stops_above Short s faults e = tt

steps_above : (room : Room) (s : ShardState) (e : NodeEvent) (stopped : Option ℕ)
    → StepAbove s.clock.last (step_if room s e stopped)
steps_above room s e None = runs_above room s e
steps_above room s e (Some faults) = stops_above room s faults e

step_above : (room : Room) (s : ShardState) (e : NodeEvent)
    → StepAbove s.clock.last (core_step room s e)
unfolding core_step
step_above room s e = steps_above room s e s.stopped

-- What is resolved is at or below the clock.

below_last : (last : ℕ) (at : Option ℕ) → below last at ≤ last
below_last last None = omega arith
below_last last (Some at) = omega arith

resolved_last : (s : ShardState) → resolved_of s ≤ s.clock.last
resolved_last s = below_last s.clock.last (least_prepared s.part)

-- A shard's step.

pub record Moved (old new : NodeState) : Type 0 where
  pub stands : ResolvedStands new
  pub grows : GrowsAbove old new

running_at : (old : NodeState) → old.settled ≡ None → resolved_at old ≡ resolved_of old.core
running_at old e = ap (λ (o : Option ℕ). unwrap_or o (resolved_of old.core)) e

moved_running : (old : NodeState) (room : Room) (e : NodeEvent) (a : NodeAnswer) (new : NodeState)
    → IsRunning old → ClockStands old → ResolvedStands old
    → (Appended old (core_step room old.core e) a new
    ⊎ Failed old (core_step room old.core e) a new) → Moved old new
moved_running old room e a new run c s h =
    let time = resolved_of old.core in
    let o = core_step room old.core e in
    let calm = c.calm run in
    let added = added_step (IsAbove time) old o a new (λ b. tt) (lower time old.core.clock.last
    (resolved_last old.core) o.rec (step_above room old.core e)) (subst (All (IsAbove time))
    (sym calm) (All-nil (IsAbove time))) h in
    record {
      stands = by added h;
      grows = record {
        more = added.more;
        records = added.records;
        above = subst (λ (t : ℕ). All (IsAbove t) added.more)
            (sym (running_at old (s.running run))) added.all;
      };
    }
  where
    by : (added : Added (IsAbove (resolved_of old.core)) old new)
        → (Appended old (core_step room old.core e) a new
        ⊎ Failed old (core_step room old.core e) a new) → ResolvedStands new
    by added (inl d) = record {
      running = λ r. d.settled ∙ s.running run;
      hand = subst (All (IsAbove (resolved_at new))) (sym (d.hand ∙ c.calm run))
          (All-nil (IsAbove (resolved_at new)));
    }
    by added (inr d) = record {
      running = λ r. let stops : new.core.stopped ≡ Some new.faults =
          ap (λ (s : ShardState). s.stopped) d.core in absurd (grind (arith, stops, r));
      hand = subst (λ (t : ℕ). All (IsAbove t) new.hand)
          (sym (ap (λ (o : Option ℕ). unwrap_or o (resolved_of new.core)) d.settled)) added.hand;
    }

moved_stopped : (old : NodeState) (room : Room) (e : NodeEvent) (a : NodeAnswer)
    (new : NodeState) (faults : ℕ) → old.core.stopped ≡ Some faults → ResolvedStands old
    → Appended old (core_step room old.core e) a new → Moved old new
moved_stopped old room e a new faults stopped s d =
    let r = stopped_rests room old.core e faults stopped in
    let core : new.core ≡ old.core = d.core ∙ r.core in
    let none : joined (appends_of (core_step room old.core e)) ≡ [] =
    ap joined (no_appends (core_step room old.core e) r.ceiling r.rec) in
    let same : resolved_at old ≡ resolved_at new =
    sym (ap (λ (o : Option ℕ). unwrap_or o (resolved_of new.core)) d.settled
    ∙ ap (λ (x : ShardState). unwrap_or old.settled (resolved_of x)) core) in
    let runs : IsRunning new
    → IsRunning old = λ x. sym (ap (λ (y : ShardState). y.stopped) core) ∙ x in
    record {
      stands = record {
        running = λ x. d.settled ∙ s.running (runs x);
        hand = subst (λ (t : ℕ). All (IsAbove t) new.hand) same
            (subst (All (IsAbove (resolved_at old))) (sym d.hand) s.hand);
      };
      grows = record {
        more = [];
        records = d.records ∙ ap (λ (rs : List Rec). old.records ++ rs) none;
        above = All-nil (IsAbove (resolved_at old));
      };
    }

moved_by : (old : NodeState) (room : Room) (e : NodeEvent) (a : NodeAnswer) (new : NodeState)
    (stopped : Option ℕ) → old.core.stopped ≡ stopped → ClockStands old → ResolvedStands old
    → (Appended old (core_step room old.core e) a new
    ⊎ Failed old (core_step room old.core e) a new) → Moved old new
moved_by old room e a new None is c s h = moved_running old room e a new is c s h
moved_by old room e a new (Some faults) is c s (inl d) =
    moved_stopped old room e a new faults is s d
moved_by old room e a new (Some faults) is c s (inr d) =
    absurd (rests_not old room e a new faults is d)

moved : (old : NodeState) (e : NodeEvent) (a : NodeAnswer) (new : NodeState)
    → ShardTakes old e a new → ClockStands old → ResolvedStands old → Moved old new
moved old e a new h c s = moved_by old h.0 e a new old.core.stopped refl c s h.1

-- A start.

pub starts_resolved : (n : ℕ) (recs : List Rec) (faults : ℕ) (s : NodeState)
    → started n recs faults ≡ Some s → ResolvedStands s
starts_resolved n recs faults s e = subst ResolvedStands (sym (started_is n recs faults s e))
    (record { running = λ r. refl; hand = All-nil (IsAbove _) })

starts_records : (n : ℕ) (recs : List Rec) (faults : ℕ) (s : NodeState)
    → started n recs faults ≡ Some s → s.records ≡ recs ++ boot_behind (image_of recs) ∷ []
starts_records n recs faults s e = ap (λ (x : NodeState). x.records) (started_is n recs faults s e)

append_on : {A : Type 0} (a b c : List A) → (a ++ b) ++ c ≡ a ++ (b ++ c)
append_on [] b c = refl
append_on (x ∷ a) b c = ap (λ (l : List _). x ∷ l) (append_on a b c)

grows_start : (old : NodeState) (n : ℕ) (recs : List Rec) (faults : ℕ) (new : NodeState)
    → MayRemain old recs → started n recs faults ≡ Some new → ResolvedStands old
    → GrowsAbove old new
grows_start old n recs faults new (inl is) e s = record {
  more = boot_behind (image_of recs) ∷ [];
  records = starts_records n recs faults new e
      ∙ ap (λ (rs : List Rec). rs ++ boot_behind (image_of recs) ∷ []) is;
  above = one (IsAbove (resolved_at old)) (boot_behind (image_of recs)) tt;
}
grows_start old n recs faults new (inr is) e s = record {
  more = old.hand ++ boot_behind (image_of recs) ∷ [];
  records = starts_records n recs faults new e
      ∙ ap (λ (rs : List Rec). rs ++ boot_behind (image_of recs) ∷ []) is
      ∙ append_on old.records old.hand (boot_behind (image_of recs) ∷ []);
  above = All-append (IsAbove (resolved_at old)) old.hand (boot_behind (image_of recs)
      ∷ []) s.hand (one (IsAbove (resolved_at old)) (boot_behind (image_of recs)) tt);
}

-- Each event.

pub resolved_step : (old : Nodes) (ran : Ran) (new : Nodes) → Happens old ran new → ClocksStand old
    → ResolvedStand old → ResolvedStand new
resolved_step old (Step (Shard n) e a faults) new h c s =
    each_set (λ number x. ResolvedStands x) old n h.after new (ap (λ (w : Nodes). w.shards) h.nodes)
    s (moved h.before e a h.after h.takes (c n h.before h.there) (s n h.before h.there)).stands
resolved_step old (Step (Router n) e a faults) new h c s =
    each_same (λ number x. ResolvedStands x) old new (ap (λ (w : Nodes). w.shards) h.nodes) s
resolved_step old (Swapped (Shard n)) new h c s =
    each_set (λ number x. ResolvedStands x) old n h.after new (ap (λ (w : Nodes). w.shards) h.nodes)
    s (starts_resolved n h.recs h.faults h.after h.starts)
resolved_step old (Swapped (Router n)) new h c s =
    each_same (λ number x. ResolvedStands x) old new (ap (λ (w : Nodes). w.shards) h.nodes) s

grows_self : (x y : NodeState) → y ≡ x → GrowsAbove x y
grows_self x y is = subst (GrowsAbove x) (sym is) (record {
  more = [];
  records = sym (append-nil x.records);
  above = All-nil (IsAbove (resolved_at x));
})

grow_set : (old : Nodes) (n : ℕ) (before after : NodeState) (new : Nodes)
    → slice_get old.shards n ≡ Some before → new.shards ≡ slice_set old.shards n after
    → GrowsAbove before after → AllGrow old new
grow_set old n before after new there is h number x y was now =
    elim (get_set old.shards n number after y
    (sym (ap (λ (l : List NodeState). slice_get l number) is) ∙ now)) [
      | inl w ↦
          let same : x ≡ before =
          some_same x before (sym was ∙ ap (slice_get old.shards) w.0 ∙ there) in
          subst (λ (z : NodeState). GrowsAbove z y) (sym same) (subst (GrowsAbove before) w.1 h)
      | inr w ↦ grows_self x y (some_same y x (sym w ∙ was))
    ]

grow_same : (old new : Nodes) → new.shards ≡ old.shards → AllGrow old new
grow_same old new is number x y was now = grows_self x y (some_same y x
    (sym now ∙ ap (λ (l : List NodeState). slice_get l number) is ∙ was))

pub grows_step : (old : Nodes) (ran : Ran) (new : Nodes) → Happens old ran new → ClocksStand old
    → ResolvedStand old → AllGrow old new
grows_step old (Step (Shard n) e a faults) new h c s =
    grow_set old n h.before h.after new h.there (ap (λ (w : Nodes). w.shards) h.nodes)
    (moved h.before e a h.after h.takes (c n h.before h.there) (s n h.before h.there)).grows
grows_step old (Step (Router n) e a faults) new h c s =
    grow_same old new (ap (λ (w : Nodes). w.shards) h.nodes)
grows_step old (Swapped (Shard n)) new h c s =
    grow_set old n h.before h.after new h.there (ap (λ (w : Nodes). w.shards) h.nodes)
    (grows_start h.before n h.recs h.faults h.after h.remain h.starts (s n h.before h.there))
grows_step old (Swapped (Router n)) new h c s =
    grow_same old new (ap (λ (w : Nodes). w.shards) h.nodes)
