-- What a making comes of, on one shard: the want of memory, the wall, a disk that failed, or the
-- rule of the message that was delivered, which names the transaction.
use Rattle.std.proofs.Common.{◌≡◌, ◌⊎◌, inl, inr, ◌++◌, ℕ, zero, suc, ℤ, true, false}
use Rattle.std.proofs.Common.{List, [], ◌∷◌, All, Contains, Option, Some, None, IfSome, arith, refl}
use Rattle.std.proofs.Common.{ap, subst, ◌∙◌, sym, slice_get}
use Rattle.std.proofs.lemmas.List.Elements.{All-contains, All-nil}
use Rattle.txn_types.specs.Letters.{Named, named_in, given_out}
use Rattle.txn_types.specs.declared.cause.Cause.{Cause}
use Rattle.txn_types.specs.declared.cause.Cause.TheVariants as cause
use Rattle.txn_types.specs.declared.event.Happening.{Happening}
use Rattle.txn_types.specs.declared.event.Happening.TheVariants as what
use Rattle.txn_types.specs.declared.event.NodeAnswer.{NodeAnswer}
use Rattle.txn_types.specs.declared.event.NodeAnswer.TheVariants.{DiskFault}
use Rattle.txn_types.specs.declared.message.Envelope.{Envelope}
use Rattle.txn_types.specs.declared.message.Msg.{Msg}
use Rattle.txn_types.specs.declared.message.Msg.TheVariants as msg
use Rattle.txn_types.specs.declared.names.Tag.{Tag}
use Rattle.txn_types.specs.declared.node.Lsid.{Lsid}
use Rattle.txn_types.specs.declared.node.NodeId.TheVariants.{Shard}
use Rattle.session_table.specs.declared.session.Session.{Session}
use Rattle.coordinator.specs.TwoPhase.{Coordinations, coordinated_of}
use Rattle.participant.specs.declared.said.Open.{Open}
use Rattle.participant.specs.Part.{Part, session, open_of}
use Rattle.part_laws.proofs.Elapsed.{session_of_open}
use Rattle.shard_core.specs.State.{ShardState, met}
use Rattle.shard_core.specs.Core.{entered, core_step, CoreStep}
use Rattle.shard_core.specs.NodeStep.{NodeState, Appended, Failed, ShardTakes}
use Rattle.chunk_map.specs.Map.{Map}
use Rattle.txn_model.specs.declared.ran.Ran.{Ran}
use Rattle.txn_model.specs.declared.ran.Ran.TheVariants.{Step}
use Rattle.cluster_core.specs.Causes.{Past, Making, IsMade, EndsWith, Tells, Names}
use Rattle.cluster_core.specs.Causes.{NamesAt, HasSession, HasPlan, is_aborted}
use Rattle.cluster_core.specs.Nodes.{Nodes}
use Rattle.cluster_core.specs.Trace.{IsTrace, ShardSteps, MayCome}
use Rattle.world_laws.specs.Joint.{Stands, DiskStands}
use Rattle.world_laws.proofs.Joint.{stands_run, stands_fresh, new_disk}
use Rattle.world_laws.proofs.Lists.{set_at}
use Rattle.one_shard_laws.specs.Alone.{IsAlone, EventAlone}
use Rattle.one_shard_laws.specs.Sessions.{IsOnce, name_of}
use Rattle.one_shard_laws.specs.Lasting.{WasNamed, OneShard, commits_by, HasRun}
use Rattle.one_shard_laws.specs.Concluding.{StartsAlone}
use Rattle.one_shard_laws.proofs.Behind.{sent_named}
use Rattle.one_shard_laws.proofs.Joint.{runs_alone}
use Rattle.stood_laws.specs.Because.{Aims, MsgBecause, IsTooOld, ToldAt, EndsAt}
use Rattle.making_laws.specs.News.{IsFirst, IsNew}
use Rattle.cluster_core.specs.Right.{past_of}
use Rattle.stood_laws.proofs.Places.{place_of}
use Rattle.stood_laws.proofs.Ruling.{open_tag}
use Rattle.stood_laws.proofs.Stepping.{StepFor, step_for, stopped_for}

-- the message names the transaction of the making
abbrev pub IsOfMaking : Making → Msg → Type 0
IsOfMaking m (msg.Statement s) = (s.tag ≡ m.tag) × (s.lsid ≡ m.lsid) × (s.number ≡ m.number)
IsOfMaking m (msg.Commit c) = (c.tag ≡ m.tag) × (c.lsid ≡ m.lsid) × (c.number ≡ m.number)
IsOfMaking m other = Unit {0}

abbrev pub ByRule : Making → Cause → Type 0
ByRule m why = (d : Envelope) × (m.event.what ≡ what.Deliver d) × IsOfMaking m d.msg
    × MsgBecause (met (entered m.before.core m.event) d) d.msg why

abbrev pub ByFault : Making → Cause → Type 0
ByFault m why = (faults : ℕ) × (m.before.core.stopped ≡ Some faults)
    × (why ≡ cause.Faulted faults)

abbrev pub ByWall : Making → Cause → Type 0
ByWall m why = IsTooOld m.before.core.part (entered m.before.core m.event).wall m.lsid m.tag why

abbrev pub Origin : Making → Cause → Type 0
Origin m why = (why ≡ cause.Memory) ⊎ (ByFault m why
    ⊎ ((m.before.core.stopped ≡ None) × (ByWall m why ⊎ ByRule m why)))

one_some : {A : Type 0} (x y : A) → Some x ≡ Some y → x ≡ y
one_some x y h = cc

-- the one shard is the first
pub only : {A : Type 0} (x y : A) (n : ℕ) → slice_get (x ∷ []) n ≡ Some y → (n ≡ 0) × (y ≡ x)
only x y zero is = let one : y ≡ x = grind (arith, is) in (refl, one)
only x y (suc n) is = let wrong : None ≡ Some y = is in cc

pub stands_alone : (chunks : Map) (nodes : Nodes) → StartsAlone chunks nodes → Stands nodes
stands_alone chunks nodes h =
    stands_fresh chunks nodes h.fresh
    (λ number n is.
    let one = only h.node n number
    (subst (λ (shards : List NodeState). slice_get shards number ≡ Some n) h.shards is) in
    subst (λ (x : NodeState). DiskStands nodes x.records) (sym one.1)
    (new_disk nodes 0 h.faults h.node h.starts))

pub comes_alone : (nodes : Nodes) (shard : ℕ) (w : Happening)
    → All (λ (e : Envelope). IsAlone e.msg) nodes.sent → MayCome nodes.sent (Shard shard) w
    → EventAlone w
comes_alone nodes shard (what.Deliver e) all h =
    All-contains (λ (e : Envelope). IsAlone e.msg) nodes.sent e all h.0
comes_alone nodes shard (what.Client conn frame) all h = tt
comes_alone nodes shard (what.Gone conn) all h = tt
comes_alone nodes shard what.Resend all h = tt
comes_alone nodes shard what.Moment all h = tt

-- The step of a making.
pub record StepOf (past : Past) (start : Nodes) (shard : ℕ) (m : Making) (nodes : Nodes)
    (next : Nodes) : Type 0 where
  pub faults : ℕ
  pub before_run : List Ran
  pub before_trace : List Nodes
  pub comes : IsTrace start before_run before_trace nodes
  pub after_run : List Ran
  pub after_trace : List Nodes
  pub goes : IsTrace next after_run after_trace past.now
  pub whole : past.run ≡ before_run ++ Step (Shard shard) m.event m.answer faults ∷ after_run
  pub steps : ShardSteps nodes shard m.event m.answer faults next
  pub before : steps.before ≡ m.before
  pub after : steps.after ≡ m.after

pub step_of : (chunks : Map) (start : Nodes) (run : List Ran) (trace : List Nodes) (now : Nodes)
    → IsTrace start run trace now → (within shard : ℕ) (tag : Tag) (why : Cause) (m : Making)
    → (made : IsMade (past_of chunks start run trace now) within shard tag why m)
    → StepOf (past_of chunks start run trace now) start shard m made.nodes made.next
step_of chunks start run trace now is within shard tag why m made =
    let p = place_of start run trace now is m.place made.nodes
    (Step (Shard shard) m.event m.answer made.faults) made.at.before made.at.step in
    let next : p.next ≡ made.next = one_some p.next made.next (sym p.behind ∙ made.behind) in
    let s : ShardSteps made.nodes shard m.event m.answer made.faults made.next =
    subst (λ (x : Nodes). ShardSteps made.nodes shard m.event m.answer made.faults x) next
    p.happens in
    record {
      before_run = p.before_run;
      before_trace = p.before_trace;
      comes = p.comes;
      after_run = p.after_run;
      after_trace = p.after_trace;
      goes = subst (λ (x : Nodes). IsTrace x p.after_run p.after_trace now) next p.goes;
      whole = p.whole;
      faults = made.faults;
      steps = s;
      before = one_some s.before m.before (sym s.there ∙ made.before);
      after = one_some s.after m.after
          (sym (set_at made.nodes.shards made.next.shards shard s.after s.before
          (ap (λ (x : Nodes). x.shards) s.nodes) s.there) ∙ made.after);
    }

-- the shard has taken it
pub takes_of : (past : Past) (start : Nodes) (shard : ℕ) (m : Making) (nodes next : Nodes)
    → StepOf past start shard m nodes next → ShardTakes m.before m.event m.answer m.after
takes_of past start shard m nodes next s =
    subst (λ (x : NodeState). ShardTakes x m.event m.answer m.after) s.before
    (subst (λ (x : NodeState). ShardTakes s.steps.before m.event m.answer x) s.after s.steps.takes)

-- nothing is given out where an append failed
pub no_letters : (a : NodeAnswer) → a ≡ DiskFault → (e : Envelope) → Contains (given_out a) e → ⊥
no_letters a is e h =
    none (subst (λ (x : NodeAnswer). Contains (given_out x) e) is h)
  where
    none : Contains [] e → ⊥
    none h = All-contains (λ (x : Envelope). ⊥) [] e (All-nil (λ (x : Envelope). ⊥)) h

module _ (m : Making) (why : Cause) (takes : ShardTakes m.before m.event m.answer m.after) where
  abbrev o : CoreStep
  o = core_step takes.0 m.before.core m.event

  gives : Appended m.before o m.answer m.after ⊎ Failed m.before o m.answer m.after
      → (Q : Envelope → Type 0) → All Q (given_out o.answer) → (e : Envelope)
      → Contains (given_out m.answer) e → Q e
  gives (inl done) Q all e there = All-contains Q (given_out o.answer) e all
      (subst (λ (x : NodeAnswer). Contains (given_out x) e) done.told there)
  gives (inr failed) Q all e there = absurd (no_letters m.answer failed.told e there)

  part_is : Appended m.before o m.answer m.after ⊎ Failed m.before o m.answer m.after
      → m.after.core.part ≡ o.core.part
  part_is (inl done) = ap (λ (s : ShardState). s.part) done.core
  part_is (inr failed) = ap (λ (s : ShardState). s.part) failed.core

  -- a session that wasn't ended before the step and is after it was not so before
  not_before : (x : EndsWith m why) → session m.before.core.part m.lsid ≡ Some x.new → ⊥
  not_before x there =
      let same : x.old ≡ x.new = one_some x.old x.new (sym x.was ∙ there) in
      let no : is_aborted x.new.state ≡ false =
      ap (λ (s : Session). is_aborted s.state) (sym same) ∙ x.unended in
      let yes : is_aborted x.new.state ≡ true = ap is_aborted x.ended in
      let wrong : true ≡ false = sym yes ∙ no in
      cc

  stopped_origin : (faults : ℕ) → m.before.core.stopped ≡ Some faults → IsNew m why
      → Origin m why
  stopped_origin faults is (inl ends) =
      let h = stopped_for m.before.core m.event faults is takes.0 in
      absurd (not_before ends
      (ap (λ (p : Part). session p m.lsid) (sym (part_is takes.1
      ∙ ap (λ (s : ShardState). s.part) h.core)) ∙ ends.is))
  stopped_origin faults is (inr tells) =
      let h = stopped_for m.before.core m.event faults is takes.0 in
      let t = tells.0 in
      inr (inl (
        faults,
        is,
        gives takes.1 (λ (x : Envelope). (tag : Tag) (why : Cause) → Tells tag why x.msg
            → why ≡ cause.Faulted faults) h.told t.0 t.1 m.tag why t.2,
      ))

  -- of a shard that runs
  module _ (sent : List Envelope) (once : IsOnce (WasNamed sent))
      (named : (lsid : Lsid) (s : Session) → session m.before.core.part lsid ≡ Some s
      → WasNamed sent (name_of lsid s))
      (none : m.before.core.coord ≡ []) (runs : m.before.core.stopped ≡ None)
      (live : (lsid : Lsid) (x : Open) → open_of m.before.core.part lsid ≡ Some x
      → (s : Session) × (session m.before.core.part lsid ≡ Some s) × (x.tag ≡ s.tag))
      (comes : MayCome sent (Shard 0) m.event.what)
      (made : NamesAt m m.event.what ⊎ (HasSession m ⊎ HasPlan m)) where
    no_plan : HasPlan m → ⊥
    no_plan p =
        let wrong : None ≡ Some p.0 =
        sym (ap (λ (c : Coordinations). coordinated_of c m.tag) none) ∙ p.1 in cc

    abbrev name_is : Named
    name_is = record { tag = m.tag; lsid = m.lsid; number = m.number }

    session_named : HasSession m → WasNamed sent name_is
    session_named h =
        subst (λ (n : ℤ). WasNamed sent (record { tag = m.tag; lsid = m.lsid; number = n })) h.3
        (subst (λ (t : Tag). WasNamed sent (record { tag = t; lsid = m.lsid; number = h.0.number }))
        h.2 (named m.lsid h.0 h.1))

    -- the session of the message's transaction is that of the making
    aimed : (d : Envelope) → m.event.what ≡ what.Deliver d → (lsid : Lsid)
        → Aims lsid m.tag d.msg → (s : Session) → session m.before.core.part lsid ≡ Some s
        → s.tag ≡ m.tag → lsid ≡ m.lsid
    aimed d is lsid aims s there tag = by_session made
      where
        by_names : (x : Msg) → Aims lsid m.tag x → Names m.tag m.lsid m.number x → lsid ≡ m.lsid
        by_names (msg.Statement x) a n = sym a.0 ∙ n.1
        by_names (msg.Commit x) a n = sym a.0 ∙ n.1
        by_names (msg.Recover x) a n = sym a.0 ∙ n.1
        by_names (msg.Abort x) a n = absurd n
        by_names (msg.Answer x) a n = absurd n
        by_names (msg.Outcome x) a n = absurd n
        by_names (msg.CommitTwo x) a n = absurd a
        by_names (msg.Prepare x) a n = absurd a
        by_names (msg.Vote x) a n = absurd a
        by_names (msg.Decide x) a n = absurd a
        by_names (msg.Acked x) a n = absurd a
        by_names msg.Nudge a n = absurd a

        by_session : NamesAt m m.event.what ⊎ (HasSession m ⊎ HasPlan m) → lsid ≡ m.lsid
        by_session (inl n) = by_names d.msg aims (subst (NamesAt m) is n)
        by_session (inr (inl h)) =
            (once (name_of lsid s) name_is (named lsid s there) (session_named h) tag).0
        by_session (inr (inr p)) = absurd (no_plan p)

    -- the message names the transaction of the making
    of_making : (d : Envelope) → m.event.what ≡ what.Deliver d → (lsid : Lsid)
        → Aims lsid m.tag d.msg → IsOfMaking m d.msg
    of_making d is lsid aims = by_session made
      where
        contains : Contains sent d
        contains = (subst (MayCome sent (Shard 0)) is comes).0

        by_names : (x : Msg) → Names m.tag m.lsid m.number x → IsOfMaking m x
        by_names (msg.Statement x) n = n
        by_names (msg.Commit x) n = n
        by_names other n = tt

        was_named : WasNamed sent name_is → (x : Msg) → d.msg ≡ x → Aims lsid m.tag x
            → IsOfMaking m x
        was_named w (msg.Statement x) at a =
            let named_x : WasNamed sent (record { tag = x.tag; lsid = x.lsid; number = x.number }) =
            subst (λ (y : Msg). IfSome (named_in y) (WasNamed sent)) at (sent_named sent d
            contains) in
            let same = once (record { tag = x.tag; lsid = x.lsid; number = x.number }) name_is
            named_x w a.1 in
            (a.1, same.0, same.1)
        was_named w (msg.Commit x) at a =
            let named_x : WasNamed sent (record { tag = x.tag; lsid = x.lsid; number = x.number }) =
            subst (λ (y : Msg). IfSome (named_in y) (WasNamed sent)) at (sent_named sent d
            contains) in
            let same = once (record { tag = x.tag; lsid = x.lsid; number = x.number }) name_is
            named_x w a.1 in
            (a.1, same.0, same.1)
        was_named w other at a = tt

        by_session : NamesAt m m.event.what ⊎ (HasSession m ⊎ HasPlan m) → IsOfMaking m d.msg
        by_session (inl n) = by_names d.msg (subst (NamesAt m) is n)
        by_session (inr (inl h)) = was_named (session_named h) d.msg refl aims
        by_session (inr (inr p)) = absurd (no_plan p)

    from_ends : (tag : Tag) → tag ≡ m.tag → EndsAt m.before.core m.event m.lsid tag why
        → Origin m why
    from_ends tag same (inl memory) = inl memory
    from_ends tag same (inr (inl old)) =
        inr (inr (
          runs,
          inl (subst (λ (t : Tag). IsTooOld m.before.core.part
              (entered m.before.core m.event).wall m.lsid t why) same old),
        ))
    from_ends tag same (inr (inr r)) =
        inr (inr (
          runs,
          inr (
            r.0,
            r.1,
            of_making r.0 r.1 m.lsid (subst (λ (t : Tag). Aims m.lsid t r.0.msg) same r.2),
            r.3,
          ),
        ))

    -- whose transaction is too old
    wall_of : (d : Envelope) → m.event.what ≡ what.Deliver d → (lsid : Lsid)
        → Aims lsid m.tag d.msg → (c : Cause)
        → IsTooOld m.before.core.part (entered m.before.core m.event).wall lsid m.tag c
        → IsTooOld m.before.core.part (entered m.before.core m.event).wall m.lsid m.tag c
    wall_of d is lsid aims (cause.Expired begun now) old =
        let x = old.1 in
        let s = live lsid x.0 x.1 in
        let same : lsid ≡ m.lsid = aimed d is lsid aims s.0 s.1 (sym s.2 ∙ x.2) in
        (old.0, (x.0, ap (open_of m.before.core.part) (sym same) ∙ x.1, x.2, x.3, x.4))
    wall_of d is lsid aims other old = absurd old

    from_told : IsFirst m why → ToldAt m.before.core m.event m.tag why → Origin m why
    from_told first (inl memory) = inl memory
    from_told first (inr (d, lsid, is, aims, inl had)) =
        let same : lsid ≡ m.lsid = aimed d is lsid aims had.0 had.2 had.3 in
        absurd (first had.0 had.1 (ap (session m.before.core.part) (sym same) ∙ had.2) had.3 had.4)
    from_told first (inr (d, lsid, is, aims, inr (inl old))) =
        inr (inr (runs, inl (wall_of d is lsid aims why old)))
    from_told first (inr (d, lsid, is, aims, inr (inr because))) =
        inr (inr (runs, inr (d, is, of_making d is lsid aims, because)))

    running_origin : StepFor m.before.core m.event o → IsNew m why → Origin m why
    running_origin h (inl ends) = by_end (h.ends m.lsid ends.new why ends.read_at
        (ap (λ (p : Part). session p m.lsid) (sym (part_is takes.1)) ∙ ends.is) ends.ended)
      where
        by_end : (session m.before.core.part m.lsid ≡ Some ends.new)
            ⊎ EndsAt m.before.core m.event m.lsid ends.new.tag why → Origin m why
        by_end (inl there) = absurd (not_before ends there)
        by_end (inr e) = from_ends ends.new.tag ends.same e
    running_origin h (inr tells) =
        let t = tells.0 in
        from_told tells.1
        (gives takes.1 (λ (x : Envelope). (tag : Tag) (why : Cause) → Tells tag why x.msg
        → ToldAt m.before.core m.event tag why) h.told t.0 t.1 m.tag why t.2)

-- On one shard.
module _ (chunks : Map) (start : Nodes) (run : List Ran) (trace : List Nodes) (now : Nodes)
    (alone : StartsAlone chunks start) (is : IsTrace start run trace now) (within shard : ℕ)
    (tag : Tag) (why : Cause) (m : Making)
    (made : IsMade (past_of chunks start run trace now) within shard tag why m) where
  pub step : StepOf (past_of chunks start run trace now) start shard m made.nodes made.next
  step = step_of chunks start run trace now is within shard tag why m made

  pub one : OneShard made.nodes
  one = runs_alone chunks start step.before_run step.before_trace made.nodes alone step.comes

  pub world : Stands made.nodes
  world = stands_run start step.before_run step.before_trace made.nodes step.comes
      (stands_alone chunks start alone)

  pub at_first : (shard ≡ 0) × (m.before ≡ one.node)
  at_first = only one.node m.before shard
      (subst (λ (xs : List NodeState). slice_get xs shard ≡ Some m.before) one.shards made.before)

  pub taken : ShardTakes m.before m.event m.answer m.after
  taken = takes_of (past_of chunks start run trace now) start shard m made.nodes made.next step

  pub has_run : m.before.core.stopped ≡ None
      → HasRun made.nodes.sent m.before.core m.before.records m.before.hand
  has_run runs =
      subst (λ (x : NodeState). x.core.stopped ≡ None
      → HasRun made.nodes.sent x.core x.records x.hand) (sym at_first.1) one.right.runs runs

  pub event_alone : EventAlone m.event.what
  event_alone = comes_alone made.nodes shard m.event.what one.alone step.steps.comes

  by_stopped : (o : Option ℕ) → m.before.core.stopped ≡ o → IsNew m why → Origin m why
  by_stopped (Some faults) stopped new = stopped_origin m why taken faults stopped new
  by_stopped None runs new =
      let h = has_run runs in
      let lasts = h.1 in
      let r = h.2 in
      running_origin m why taken made.nodes.sent world.tags.one_begin r.named r.coord runs
      (λ lsid x there.
      let s = session_of_open m.before.core.part lasts.opens m.before.core.clock.last
      (commits_by m.before.records) h.0 lasts.holds lsid x there in (
        s.0,
        s.1,
        open_tag m.before.core.part lasts.opens lsid (lasts.holds.sessions lsid) s.0 s.1 x
            there,
      ))
      (subst (λ (n : ℕ). MayCome made.nodes.sent (Shard n) m.event.what) at_first.0
      step.steps.comes) made.session
      (step_for m.before.core m.event lasts.opens (commits_by m.before.records) h.0 lasts.holds
      r.coord runs event_alone taken.0)
      new

  pub origin : IsNew m why → Origin m why
  origin new = by_stopped m.before.core.stopped refl new
