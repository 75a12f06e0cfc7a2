-- A boot that a message names was that of a shard, and what stands where a message of an earlier
-- one is refused.
use Rattle.std.proofs.Common.{◌≡◌, inl, inr, ◌<◌, ◌≤◌, ◌+◌, ℕ, Bool, true}
use Rattle.std.proofs.Common.{List, [], ◌∷◌, All, Contains, Some, None, is_some, Result, Ok}
use Rattle.std.proofs.Common.{Err, refl, ap, subst, ◌∙◌, sym, arith, slice_get, length}
use Rattle.std.proofs.lemmas.List.Elements.{All-contains}
use Rattle.txn_types.specs.declared.cause.Cause.{Cause}
use Rattle.txn_types.specs.declared.cause.Cause.TheVariants as cause
use Rattle.txn_types.specs.declared.event.Happening.TheVariants as what
use Rattle.txn_types.specs.declared.message.Answer.{Answer}
use Rattle.txn_types.specs.declared.message.Commit.{Commit}
use Rattle.txn_types.specs.declared.message.Envelope.{Envelope}
use Rattle.txn_types.specs.declared.message.Msg.{Msg}
use Rattle.txn_types.specs.declared.message.Msg.TheVariants as msg
use Rattle.txn_types.specs.declared.message.Statement.{Statement}
use Rattle.txn_types.specs.declared.names.Tag.{Tag}
use Rattle.txn_types.specs.declared.node.NodeId.TheVariants.{Shard}
use Rattle.txn_types.specs.declared.operation.OpReply.{OpReply}
use Rattle.txn_semantics.specs.declared.commits.Answered.{Answered}
use Rattle.participant.specs.Part.{Part}
use Rattle.part_laws.specs.Each.{Each, Among}
use Rattle.part_laws.specs.Sound.{Served}
use Rattle.part_laws.specs.Turned.{IsOf}
use Rattle.part_laws.proofs.Elapsed.{expire_holds}
use Rattle.serving_laws.specs.Telling.{ToldThere, IsToldBy}
use Rattle.shard_core.specs.Core.{entered}
use Rattle.shard_core.specs.NodeStep.{NodeState}
use Rattle.shard_core.specs.State.{ShardState, met}
use Rattle.chunk_map.specs.Map.{Map, IsMap}
use Rattle.txn_model.specs.declared.ran.Ran.{Ran}
use Rattle.cluster_core.specs.Answering.{meaning_in, refused_as}
use Rattle.cluster_core.specs.Causes.{Making, IsMade, Stood, Past}
use Rattle.cluster_core.specs.Ledger.{answered_in}
use Rattle.cluster_core.specs.Nodes.{Nodes}
use Rattle.cluster_core.specs.Trace.{IsTrace, MayCome}
use Rattle.answer_laws.specs.Opened.{opened_in}
use Rattle.known_laws.specs.Known.{KnownStands, NamesNone, RecNamed}
use Rattle.known_laws.proofs.Standing.{known_run, known_fresh}
use Rattle.world_laws.specs.Joint.{DisksStand, DiskStands, NoName}
use Rattle.world_laws.proofs.Clocks.{started_is}
use Rattle.world_laws.proofs.Joint.{new_disk}
use Rattle.world_laws.proofs.Naming.{one as one_all}
use Rattle.one_shard_laws.specs.Lasting.{WasAsked, AllAsked, HasRun, commits_by}
use Rattle.one_shard_laws.specs.Concluding.{StartsAlone}
use Rattle.commit_laws.specs.Speaking.{Gave, StatementFollows, CommitFollows, MsgFollows}
use Rattle.commit_laws.proofs.Running.{all_stand}
use Rattle.stood_laws.specs.Because.{MsgBecause, NamesOther}
use Rattle.stood_laws.specs.Because.{IsAfter}
use Rattle.making_laws.specs.News.{IsNew}
use Rattle.cluster_core.specs.Right.{past_of}
use Rattle.stood_laws.specs.Ruled.{RecoversEarlier}
use Rattle.stood_laws.proofs.Boots.{AllCount, Counts, counts_run, counts_first}
use Rattle.stood_laws.proofs.Standing.{Origin, origin}
use Rattle.stood_laws.proofs.Standing.{step, world, has_run, only, stands_alone}
use Rattle.stood_laws.proofs.Unavailable.{statement_boot, commit_boot, recover_boot}

-- An Answer that is a reply, or a refusal by a statement's meaning, was told in a boot that was.

each_life : (boot : ℕ) (served : List Served) (x : Served)
    → Each (λ (y : Served). (0 < y.life) × (y.life ≤ boot)) served → Among x served → 0 < x.life
each_life boot [] x h a = absurd a
each_life boot (y ∷ served) x h (inl is) =
    subst (λ (z : Served). 0 < z.life) (sym is) h.0.0
each_life boot (y ∷ served) x h (inr more) = each_life boot served x h.1 more

module _ (boot : ℕ) (served : List Served)
    (lives : Each (λ (y : Served). (0 < y.life) × (y.life ≤ boot)) served) where
  refusal_boot : (a : Answer) (shard : ℕ) (why : Cause) → a.outcome ≡ Err why
      → ToldThere served a (Err why) → is_some (refused_as why) ≡ true → 0 < a.boot
  refusal_boot a shard (cause.Statement err) is told some =
      subst (λ (n : ℕ). 0 < n) told.5 (each_life boot served told.0 lives told.1)
  refusal_boot a shard other is told some = grind (arith, some)

  meant : (a : Answer) (shard : ℕ) (why : Cause) → a.outcome ≡ Err why
      → meaning_in (shard, a) ≡ refused_as why
  meant a shard why is = rw is refl

  outcome_boot : (a : Answer) (shard : ℕ) (o : Result (OpReply × Bool) Cause) → a.outcome ≡ o
      → ToldThere served a o → is_some (meaning_in (shard, a)) ≡ true → 0 < a.boot
  outcome_boot a shard (Ok done) is told some =
      subst (λ (n : ℕ). 0 < n) told.6 (each_life boot served told.0 lives told.1)
  outcome_boot a shard (Err why) is told some =
      refusal_boot a shard why is told (ap is_some (sym (meant a shard why is)) ∙ some)

  gave_boot : (sent : List Envelope) (answers : List Answered) (tag : Tag) (k : ℕ) (named : ℕ)
      → All (λ (e : Envelope). IsToldBy served e.msg) sent → Gave sent answers tag k named
      → 0 < named
  gave_boot sent answers tag k named told g =
      let a = g.one.answer in
      let there : ToldThere served a a.outcome =
      subst (IsToldBy served) g.one.msg
      (All-contains (λ (e : Envelope). IsToldBy served e.msg) sent g.one.envelope told
      g.one.was_sent) in
      subst (λ (n : ℕ). 0 < n) g.boot_is
      (outcome_boot a a.shard a.outcome refl there (ap is_some g.one.says))

-- a served statement was sent
asked_of : (sent : List Envelope) (served : List Served) (x : Served) → AllAsked sent served
    → Among x served
    → (e : Envelope) × (m : Statement) × Contains sent e × (e.msg ≡ msg.Statement m) × IsOf m x
asked_of sent [] x h a = absurd a
asked_of sent (y ∷ served) x h (inl is) =
    let w : WasAsked sent served y = h.0 in
    (w.0, w.1, w.2, w.3, subst (IsOf w.1) (sym is) w.4)
asked_of sent (y ∷ served) x h (inr more) = asked_of sent served x h.1 more

-- On one shard.

new_names : (chunks : Map) (start : Nodes) → StartsAlone chunks start → NamesNone start
new_names chunks start h number n is =
    let first = only h.node n number
    (subst (λ (shards : List NodeState). slice_get shards number ≡ Some n) h.shards is) in
    subst (λ (x : NodeState). All (RecNamed NoName) x.records) (sym first.1)
    (subst (λ (x : NodeState). All (RecNamed NoName) x.records)
    (sym (started_is 0 [] h.faults h.node h.starts)) (one_all (RecNamed NoName) _ tt))

new_disks : (chunks : Map) (start : Nodes) → StartsAlone chunks start → DisksStand start
new_disks chunks start h number n is =
    let first = only h.node n number
    (subst (λ (shards : List NodeState). slice_get shards number ≡ Some n) h.shards is) in
    subst (λ (x : NodeState). DiskStands start x.records) (sym first.1)
    (new_disk start 0 h.faults h.node h.starts)

new_counts : (chunks : Map) (start : Nodes) → StartsAlone chunks start → AllCount start
new_counts chunks start h number n is =
    let first = only h.node n number
    (subst (λ (shards : List NodeState). slice_get shards number ≡ Some n) h.shards is) in
    subst Counts (sym first.1) (counts_first 0 h.faults h.node h.starts)

one_shard : (chunks : Map) (start : Nodes) → StartsAlone chunks start → chunks.shards ≡ 1
one_shard chunks start h =
    h.fresh.count ∙ ap (λ (shards : List NodeState). length shards) h.shards

module _ (chunks : Map) (start : Nodes) (run : List Ran) (trace : List Nodes) (now : Nodes)
    (map : IsMap chunks) (alone : StartsAlone chunks start) (is : IsTrace start run trace now)
    (within shard : ℕ) (tag : Tag) (why : Cause) (m : Making)
    (made : IsMade (past_of chunks start run trace now) within shard tag why m)
    (runs : m.before.core.stopped ≡ None) where
  abbrev past : Past
  past = past_of chunks start run trace now

  abbrev nodes : Nodes
  nodes = made.nodes

  abbrev before_run : List Ran
  before_run = (step chunks start run trace now alone is within shard tag why m made).before_run

  comes_of : IsTrace start before_run
      (step chunks start run trace now alone is within shard tag why m made).before_trace nodes
  comes_of = (step chunks start run trace now alone is within shard tag why m made).comes

  known : KnownStands nodes
  known = known_run start before_run
      (step chunks start run trace now alone is within shard tag why m made).before_trace nodes
      comes_of (stands_alone chunks start alone)
      (known_fresh chunks start alone.fresh (new_disks chunks start alone)
      (new_names chunks start alone))

  counts : Counts m.before
  counts = counts_run start before_run
      (step chunks start run trace now alone is within shard tag why m made).before_trace nodes
      comes_of (stands_alone chunks start alone) (new_counts chunks start alone) shard m.before
      made.before

  follows : All (λ (e : Envelope). MsgFollows (Gave nodes.sent
      (answered_in start.routers before_run)) (opened_in start.routers before_run)
      (answered_in start.routers before_run) e.to e.msg) nodes.sent
  follows = (all_stand chunks map (one_shard chunks start alone) start alone.fresh before_run
      (step chunks start run trace now alone is within shard tag why m made).before_trace nodes
      comes_of).sent

  ran : HasRun nodes.sent m.before.core m.before.records m.before.hand
  ran = has_run chunks start run trace now alone is within shard tag why m made runs

  comes : MayCome nodes.sent (Shard shard) m.event.what
  comes = (step chunks start run trace now alone is within shard tag why m made).steps.comes

  gave_some : (t : Tag) (k boot : ℕ)
      → Gave nodes.sent (answered_in start.routers before_run) t k boot → 0 < boot
  gave_some t k boot g =
      gave_boot m.before.core.part.boot ran.0 ran.1.lives nodes.sent
      (answered_in start.routers before_run) t k boot ran.1.told g

  statement_follows : (e : Envelope) (x : Statement) → Contains nodes.sent e
      → e.msg ≡ msg.Statement x
      → StatementFollows (Gave nodes.sent (answered_in start.routers before_run)) x
  statement_follows e x there at =
      (subst (λ (y : Msg). MsgFollows (Gave nodes.sent (answered_in start.routers before_run))
      (opened_in start.routers before_run) (answered_in start.routers before_run) e.to y) at
      (All-contains (λ (e : Envelope). MsgFollows (Gave nodes.sent
      (answered_in start.routers before_run)) (opened_in start.routers before_run)
      (answered_in start.routers before_run) e.to e.msg) nodes.sent e follows there)).1

  place_up : (x : Statement) → StatementFollows (Gave nodes.sent
      (answered_in start.routers before_run)) x → 0 < x.k
  place_up x (inl first) = let one : x.k ≡ 1 = first.0 in omega (arith, one)
  place_up x (inr later) = let k : x.k ≡ later.0 + 1 = later.1 in omega (arith, k)

  -- what is delivered
  module _ (d : Envelope) (what_is : m.event.what ≡ what.Deliver d) where
    abbrev s : ShardState
    s = met (entered m.before.core m.event) d

    abbrev p : Part
    p = s.part

    came : Contains nodes.sent d
    came = (subst (MayCome nodes.sent (Shard shard)) what_is comes).0

    -- a live transaction's newest statement has a place
    live_place : (x : Statement) → (a : IsAfter p x) → 0 < a.0.k
    live_place x a =
        let h = expire_holds m.before.core.part ran.1.opens m.before.core.clock.last
        (commits_by m.before.records) ran.0 ran.1.holds s.wall in
        let kept = h.1.kept x.lsid a.0 a.1 in
        let asked = asked_of nodes.sent ran.0 kept.0 ran.1.asked kept.1 in
        let up : 0 < asked.1.k = place_up asked.1
        (statement_follows asked.0 asked.1 asked.2 asked.3) in
        let one : kept.0.k ≡ asked.1.k = asked.4.1 in
        let two : kept.0.k ≡ a.0.k = kept.3 in
        omega (arith, up, one, two)

    statement_some : (x : Statement) → d.msg ≡ msg.Statement x → NamesOther p x → 0 < x.boot
    statement_some x at (inl named) = named.0
    statement_some x at (inr after) = by_place (statement_follows d x came at)
      where
        by_place : StatementFollows (Gave nodes.sent (answered_in start.routers before_run)) x
            → 0 < x.boot
        by_place (inl first) =
            let one : x.k ≡ 1 = first.0 in
            let up : 0 < after.1.0.k = live_place x after.1 in
            let less : after.1.0.k < x.k = after.1.3 in
            absurd (omega (arith, one, up, less))
        by_place (inr later) = gave_some x.tag later.0 x.boot later.2

    commit_some : (x : Commit) → d.msg ≡ msg.Commit x → 0 < x.boot
    commit_some x at =
        let f : CommitFollows (Gave nodes.sent (answered_in start.routers before_run))
        (opened_in start.routers before_run) (answered_in start.routers before_run) x =
        subst (λ (y : Msg). MsgFollows (Gave nodes.sent (answered_in start.routers before_run))
        (opened_in start.routers before_run) (answered_in start.routers before_run) d.to y) at
        (All-contains (λ (e : Envelope). MsgFollows (Gave nodes.sent
        (answered_in start.routers before_run)) (opened_in start.routers before_run)
        (answered_in start.routers before_run) e.to e.msg) nodes.sent d follows came) in
        gave_some x.tag f.k x.boot f.newest

    by_msg : RecoversEarlier m → (carried have : ℕ) (x : Msg) → d.msg ≡ x
        → MsgBecause s x (cause.Unavailable carried have)
        → Stood past m (cause.Unavailable carried have)
    by_msg earlier carried have (msg.Statement x) at h =
        statement_boot past m nodes shard made.before counts ran.1.holds.rises
        (world chunks start run trace now alone is within shard tag why m made).tags.one_begin
        ran.2.named known.sent d what_is comes x at (statement_some x at) carried have h
    by_msg earlier carried have (msg.Commit x) at h =
        commit_boot past m nodes shard made.before counts ran.1.holds.rises
        (world chunks start run trace now alone is within shard tag why m made).tags.one_begin
        ran.2.named known.sent d what_is comes x at (commit_some x at) carried have h
    by_msg earlier carried have (msg.Recover x) at h =
        recover_boot past m nodes shard made.before counts ran.1.holds.rises
        (world chunks start run trace now alone is within shard tag why m made).tags.one_begin
        ran.2.named known.sent d what_is comes x (earlier d x what_is at) carried have h
    by_msg earlier carried have (msg.Abort x) at h = cc
    by_msg earlier carried have (msg.Answer x) at h = absurd h
    by_msg earlier carried have (msg.Outcome x) at h = absurd h
    by_msg earlier carried have (msg.CommitTwo x) at h = absurd h
    by_msg earlier carried have (msg.Prepare x) at h = absurd h
    by_msg earlier carried have (msg.Vote x) at h = absurd h
    by_msg earlier carried have (msg.Decide x) at h = absurd h
    by_msg earlier carried have (msg.Acked x) at h = absurd h
    by_msg earlier carried have msg.Nudge at h = absurd h

pub unavailable_stood : (chunks : Map) (start : Nodes) (run : List Ran) (trace : List Nodes)
    (now : Nodes) → IsMap chunks → StartsAlone chunks start → IsTrace start run trace now
    → (within shard : ℕ) (tag : Tag) (carried have : ℕ) (m : Making)
    → IsMade (past_of chunks start run trace now) within shard tag
    (cause.Unavailable carried have) m → IsNew m (cause.Unavailable carried have)
    → RecoversEarlier m
    → Stood (past_of chunks start run trace now) m (cause.Unavailable carried have)
unavailable_stood chunks start run trace now map alone is within shard tag carried have m made new
    earlier =
    by_origin (origin chunks start run trace now alone is within shard tag
    (cause.Unavailable carried have) m made new)
  where
    by_origin : Origin m (cause.Unavailable carried have)
        → Stood (past_of chunks start run trace now) m (cause.Unavailable carried have)
    by_origin (inl memory) = cc
    by_origin (inr (inl fault)) = absurd (not_fault fault.0 fault.2)
      where
        not_fault : (faults : ℕ) → cause.Unavailable carried have ≡ cause.Faulted faults → ⊥
        not_fault faults h = cc
    by_origin (inr (inr (runs, inl old))) = absurd old
    by_origin (inr (inr (runs, inr rule))) =
        by_msg chunks start run trace now map alone is within shard tag
        (cause.Unavailable carried have) m made runs rule.0 rule.1 earlier carried have rule.0.msg
        refl rule.3
