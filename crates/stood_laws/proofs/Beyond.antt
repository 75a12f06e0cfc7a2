-- On one shard what is recorded behind a state is above the time that its clock has reached.
use Rattle.std.proofs.Common.{◌≡◌, ◌⊎◌, inl, inr, ◌<◌, ◌≤◌, ◌^◌, ◌++◌, ℕ, List, [], ◌∷◌}
use Rattle.std.proofs.Common.{All, Option, Some, None, IfSome, refl, ap, subst, ◌∙◌, sym}
use Rattle.std.proofs.Common.{arith, map, slice_get, slice_set}
use Rattle.std.proofs.lemmas.List.{append-nil, append_assoc}
use Rattle.std.proofs.lemmas.List.Elements.{All-nil, All-append, All-contains, All-weaker}
use Rattle.std.proofs.lemmas.List.Elements.{Contains-append_left, Contains-append_right}
use Rattle.txn_types.specs.Letters.{Named}
use Rattle.txn_types.specs.declared.event.Happening.{Happening}
use Rattle.txn_types.specs.declared.event.Happening.TheVariants as what
use Rattle.txn_types.specs.declared.event.NodeAnswer.{NodeAnswer}
use Rattle.txn_types.specs.declared.event.NodeEvent.{NodeEvent}
use Rattle.txn_types.specs.declared.message.Envelope.{Envelope}
use Rattle.txn_types.specs.declared.node.NodeId.TheVariants.{Shard, Router}
use Rattle.txn_semantics.specs.View.{view}
use Rattle.journal_rec.specs.declared.record.Rec.{Rec}
use Rattle.journal_rec.specs.declared.record.Rec.TheVariants as rec
use Rattle.shard_image.specs.Image.{image_of}
use Rattle.part_laws.specs.Parts.{Holds}
use Rattle.part_laws.specs.Sound.{Served}
use Rattle.shard_core.specs.Core.{Room, CoreStep, core_step}
use Rattle.shard_core.specs.Laws.{HasTimes, KeepsTime}
use Rattle.shard_core.specs.NodeStep.{NodeState, ShardTakes, Appended, Failed, joined}
use Rattle.shard_core.specs.NodeStep.{boot_behind, started}
use Rattle.shard_core.specs.State.{ShardState}
use Rattle.shard_core.proofs.Stepping.{step_keeps}
use Rattle.txn_model.specs.Commits.{commits}
use Rattle.txn_model.specs.declared.ran.Ran.{Ran}
use Rattle.txn_model.specs.declared.ran.Ran.TheVariants.{Step, Swapped}
use Rattle.cluster_core.specs.Nodes.{Nodes, commits_of}
use Rattle.cluster_core.specs.Parts.{last_ceiling}
use Rattle.cluster_core.specs.Trace.{Happens, IsTrace, MayCome, MayRemain, ShardSteps, ShardStarts}
use Rattle.world_laws.specs.Above.{IsAbove}
use Rattle.world_laws.specs.Clocks.{ClockStands}
use Rattle.world_laws.specs.Joint.{Stands}
use Rattle.world_laws.proofs.Clocks as clocks
use Rattle.world_laws.proofs.Clocks.{Any, no_appends, rests_not, failed_ceilings, ceiling_on}
use Rattle.world_laws.proofs.Clocks.{ceiling_of_image, started_is, remains_small}
use Rattle.world_laws.proofs.Joint.{stands_step}
use Rattle.world_laws.proofs.Naming.{one}
use Rattle.world_laws.proofs.Records.{added_step}
use Rattle.world_laws.proofs.Steps.{step_does, stopped_rests}
use Rattle.told_laws.proofs.Lists.{contained}
use Rattle.one_shard_laws.specs.Alone.{EventAlone, RecAlone}
use Rattle.one_shard_laws.specs.Lasting.{WasNamed, OneShard, IsRight, commits_by}
use Rattle.one_shard_laws.specs.Sessions.{IsOnce}
use Rattle.one_shard_laws.proofs.Behind.{Committed, does, serves, leaves}
use Rattle.one_shard_laws.proofs.Growing.{WasSent}
use Rattle.one_shard_laws.proofs.Joint.{one_shard_step}
use Rattle.stood_laws.proofs.Standing.{comes_alone, only}
use Rattle.stood_laws.proofs.Views.{view_stays}

-- the records go on behind these, above that time, and so does what is in hand; and the time is at
-- or below the last ceiling and, where the shard runs, the clock
pub record Beyond (recs : List Rec) (bound : ℕ) (n : NodeState) : Type 0 where
  pub more : List Rec
  pub records : n.records ≡ recs ++ more
  pub above : All (IsAbove bound) more
  pub hand : All (IsAbove bound) n.hand
  pub ceiling : bound ≤ last_ceiling n.records
  pub clock : n.core.stopped ≡ None → bound ≤ n.core.clock.last

at_most : (a b c : ℕ) → a ≤ b → b ≤ c → a ≤ c
at_most a b c h k = omega (arith, h, k)

above_all : (bound last mid at : ℕ) → bound ≤ last → last ≤ mid → mid < at → bound < at
above_all bound last mid at h k m = omega (arith, h, k, m)

same_least : (a b c : ℕ) → a ≤ b → b ≡ c → a ≤ c
same_least a b c h is = omega (arith, h, is)

-- A step.

module _ (recs : List Rec) (bound : ℕ) (old : NodeState) (e : NodeEvent) (a : NodeAnswer)
    (new : NodeState) (room : Room) (h : Beyond recs bound old) where
  abbrev o : CoreStep
  o = core_step room old.core e

  goes_on : (took : Appended old o a new ⊎ Failed old o a new) → IfSome o.rec (IsAbove bound)
      → bound ≤ last_ceiling new.records
      → (new.core.stopped ≡ None → bound ≤ new.core.clock.last) → Beyond recs bound new
  goes_on took above ceiling clock =
      let added = added_step (IsAbove bound) old o a new (λ b. tt) above h.hand took in
      record {
        more = h.more ++ added.more;
        records = added.records ∙ ap (λ (rs : List Rec). rs ++ added.more) h.records
            ∙ append_assoc recs h.more added.more;
        above = All-append (IsAbove bound) h.more added.more h.above added.all;
        hand = added.hand;
        ceiling = ceiling;
        clock = clock;
      }

  -- once it stopped
  stopped_beyond : (faults : ℕ) → old.core.stopped ≡ Some faults → Appended old o a new
      → Beyond recs bound new
  stopped_beyond faults is d =
      let r = stopped_rests room old.core e faults is in
      let core : new.core ≡ old.core = d.core ∙ r.core in
      let same : old.records ≡ new.records =
      sym (d.records ∙ ap (λ (x : List (List Rec)). old.records ++ joined x)
      (no_appends o r.ceiling r.rec) ∙ append-nil old.records) in
      goes_on (inl d) (subst (λ (x : Option Rec). IfSome x (IsAbove bound)) (sym r.rec) tt)
      (subst (λ (rs : List Rec). bound ≤ last_ceiling rs) same h.ceiling)
      (λ runs. let wrong : Some faults ≡ None =
      sym is ∙ sym (ap (λ (s : ShardState). s.stopped) core) ∙ runs in cc)

  -- while it runs
  module _ (run : old.core.stopped ≡ None) (c : ClockStands old) (now : ClockStands new)
      (time : KeepsTime old.core o) (above : IfSome o.rec (IsAbove bound)) where
    low : bound ≤ o.core.clock.last
    low = at_most bound old.core.clock.last o.core.clock.last (h.clock run) time.rises

    appended : Appended old o a new → Beyond recs bound new
    appended d =
        let runs : new.core.stopped ≡ None = ap (λ (s : ShardState). s.stopped) d.core
        ∙ (step_does Any room old.core e).stopped ∙ run in
        let here : bound ≤ new.core.clock.last =
        subst (λ (s : ShardState). bound ≤ s.clock.last) (sym d.core) low in
        goes_on (inl d) above
        (same_least bound new.core.clock.ceiling (last_ceiling new.records)
        (at_most bound new.core.clock.last new.core.clock.ceiling here (now.clock runs).below)
        (now.ceiling runs))
        (λ x. here)

    failed : Failed old o a new → Beyond recs bound new
    failed f =
        let stops : new.core.stopped ≡ Some new.faults =
        ap (λ (s : ShardState). s.stopped) f.core in
        goes_on (inr f) above
        (at_most bound (last_ceiling old.records) (last_ceiling new.records) h.ceiling
        (failed_ceilings old room e a new f run c time).1)
        (λ runs. let wrong : Some new.faults ≡ None = sym stops ∙ runs in cc)

module _ (recs : List Rec) (bound : ℕ) (sent : List Envelope) (once : IsOnce (WasNamed sent))
    (old : NodeState) (own : old.core.part.shard ≡ 0) (e : NodeEvent) (a : NodeAnswer)
    (new : NodeState) (alone : EventAlone e.what) (comes : WasSent sent e.what)
    (c : ClockStands old) (now : ClockStands new) (wall : e.wall < 2 ^ 32)
    (times : HasTimes e.what) (right : IsRight sent old.core old.records old.hand)
    (h : Beyond recs bound old) where
  module _ (room : Room) (run : old.core.stopped ≡ None) where
    abbrev took : CoreStep
    took = core_step room old.core e

    time : KeepsTime old.core took
    time = step_keeps room old.core e (c.clock run) c.wall wall times

    recorded : IfSome took.rec (IsAbove bound)
    recorded =
        let r = right.runs run in
        let does_it = does sent once room old.core own e old.records r.0 r.1 r.2 alone comes time in
        let serves_it =
        serves sent once room old.core own e old.records r.0 r.1 r.2 alone comes time in
        by_left serves_it.last serves_it.told serves_it.rises
        (leaves (WasNamed sent) old.core.part took.core.part r.1.opens serves_it.last
        took.core.clock.last (commits_by old.records) serves_it.told e.what took.rec alone
        does_it.rec serves_it.left)
      where
        by_left : (last : ℕ) (told : List Served) → old.core.clock.last ≤ last
            → ((took.rec ≡ None) × Holds (right.runs run).1.opens took.core.part
            took.core.clock.last (commits_by old.records) told)
            ⊎ Committed took.core.part last (commits_by old.records) told (right.runs run).1.opens
            took.rec
            → IfSome took.rec (IsAbove bound)
        by_left last told up (inl none) =
            subst (λ (x : Option Rec). IfSome x (IsAbove bound)) (sym none.0) tt
        by_left last told up (inr k) =
            subst (λ (x : Option Rec). IfSome x (IsAbove bound)) (sym k.is)
            (above_all bound old.core.clock.last last k.at (h.clock run) up k.above)

  takes_case : (room : Room) (o : Option ℕ) → old.core.stopped ≡ o
      → Appended old (core_step room old.core e) a new
      ⊎ Failed old (core_step room old.core e) a new → Beyond recs bound new
  takes_case room None run (inl d) =
      appended recs bound old e a new room h run c now (time room run) (recorded room run) d
  takes_case room None run (inr f) =
      failed recs bound old e a new room h run c now (time room run) (recorded room run) f
  takes_case room (Some faults) is (inl d) =
      stopped_beyond recs bound old e a new room h faults is d
  takes_case room (Some faults) is (inr f) = absurd (rests_not old room e a new faults is f)

  pub takes_beyond : ShardTakes old e a new → Beyond recs bound new
  takes_beyond t = takes_case t.0 old.core.stopped refl t.1

-- A start.

starts_case : (recs : List Rec) (bound : ℕ) (old : NodeState) (left : List Rec) (faults : ℕ)
    (new : NodeState) → started 0 left faults ≡ Some new → ClockStands old
    → Beyond recs bound old → MayRemain old left
    → (more : List Rec) × (left ≡ recs ++ more) × All (IsAbove bound) more
starts_case recs bound old left faults new go c h (inl is) = (h.more, is ∙ h.records, h.above)
starts_case recs bound old left faults new go c h (inr is) = (
  h.more ++ old.hand,
  is ∙ ap (λ (rs : List Rec). rs ++ old.hand) h.records ∙ append_assoc recs h.more old.hand,
  All-append (IsAbove bound) h.more old.hand h.above h.hand,
)

pub starts_beyond : (recs : List Rec) (bound : ℕ) (old : NodeState) (left : List Rec) (faults : ℕ)
    (new : NodeState) → started 0 left faults ≡ Some new → ClockStands old → MayRemain old left
    → Beyond recs bound old → Beyond recs bound new
starts_beyond recs bound old left faults new go c remain h =
    let boot : List Rec = boot_behind (image_of left) ∷ [] in
    let k = starts_case recs bound old left faults new go c h remain in
    let is = started_is 0 left faults new go in
    let records : new.records ≡ left ++ boot =
    ap (λ (x : NodeState). x.records) is in
    let kept : last_ceiling (left ++ boot) ≡ last_ceiling left = ceiling_on left boot in
    let low : bound ≤ last_ceiling left =
    at_most bound (last_ceiling old.records) (last_ceiling left) h.ceiling
    (remains_small old left remain c).0 in
    let up : bound ≤ last_ceiling (left ++ boot) =
    same_least bound (last_ceiling left) (last_ceiling (left ++ boot)) low (sym kept) in
    record {
      more = k.0 ++ boot;
      records = records ∙ ap (λ (rs : List Rec). rs ++ boot) k.1 ∙ append_assoc recs k.0 boot;
      above = All-append (IsAbove bound) k.0 boot k.2
          (one (IsAbove bound) (boot_behind (image_of left)) tt);
      hand = subst (λ (x : NodeState). All (IsAbove bound) x.hand) (sym is)
          (All-nil (IsAbove bound));
      ceiling = subst (λ (rs : List Rec). bound ≤ last_ceiling rs) (sym records) up;
      clock = λ runs. same_least bound (last_ceiling (left ++ boot)) new.core.clock.last up
          (sym (ceiling_of_image (left ++ boot))
          ∙ sym (ap (λ (x : NodeState). x.core.clock.last) is));
    }

-- A run.

abbrev pub GoesBeyond : List Rec → ℕ → Nodes → Type 0
GoesBeyond recs bound nodes = (n : NodeState) × (nodes.shards ≡ n ∷ []) × Beyond recs bound n

pub comes_sent : (nodes : Nodes) (shard : ℕ) (w : Happening) → MayCome nodes.sent (Shard shard) w
    → WasSent nodes.sent w
comes_sent nodes shard (what.Deliver d) h = h.0
comes_sent nodes shard (what.Client conn frame) h = tt
comes_sent nodes shard (what.Gone conn) h = tt
comes_sent nodes shard what.Resend h = tt
comes_sent nodes shard what.Moment h = tt

module _ (recs : List Rec) (bound : ℕ) (old : Nodes) (s : Stands old) (h : OneShard old)
    (g : GoesBeyond recs bound old) where
  at_it : (n : ℕ) (before : NodeState) → slice_get old.shards n ≡ Some before
      → (n ≡ 0) × (before ≡ g.0)
  at_it n before there = only g.0 before n
      (subst (λ (xs : List NodeState). slice_get xs n ≡ Some before) g.1 there)

  right_of : (n : ℕ) (before : NodeState) → slice_get old.shards n ≡ Some before
      → IsRight old.sent before.core before.records before.hand
  right_of n before there =
      let at = only h.node before n
      (subst (λ (xs : List NodeState). slice_get xs n ≡ Some before) h.shards there) in
      subst (λ (x : NodeState). IsRight old.sent x.core x.records x.hand) (sym at.1) h.right

  set_one : (n : ℕ) (after : NodeState) → n ≡ 0 → slice_set old.shards n after ≡ after ∷ []
  set_one n after is = ap (λ (xs : List NodeState). slice_set xs n after) g.1
      ∙ ap (λ (i : ℕ). slice_set (g.0 ∷ []) i after) is

  shard_goes : (n : ℕ) (e : NodeEvent) (a : NodeAnswer) (faults : ℕ) (new : Nodes)
      → ShardSteps old n e a faults new → GoesBeyond recs bound new
  shard_goes n e a faults new k =
      let at = at_it n k.before k.there in
      let c = s.clocks n k.before k.there in (
        k.after,
        ap (λ (x : Nodes). x.shards) k.nodes ∙ set_one n k.after at.0,
        takes_beyond recs bound old.sent s.tags.one_begin k.before
            ((s.reads.shards n k.before k.there).own ∙ at.0) e a k.after
            (comes_alone old n e.what h.alone k.comes) (comes_sent old n e.what k.comes) c
            (clocks.takes k.before e a k.after k.takes k.wall k.times c) k.wall k.times
            (right_of n k.before k.there)
            (subst (Beyond recs bound) (sym at.1) g.2) k.takes,
      )

  start_goes : (n : ℕ) (new : Nodes) → ShardStarts old n new → GoesBeyond recs bound new
  start_goes n new k =
      let at = at_it n k.before k.there in (
        k.after,
        ap (λ (x : Nodes). x.shards) k.nodes ∙ set_one n k.after at.0,
        starts_beyond recs bound k.before k.recs k.faults k.after
            (subst (λ (i : ℕ). started i k.recs k.faults ≡ Some k.after) at.0 k.starts)
            (s.clocks n k.before k.there) k.remain (subst (Beyond recs bound) (sym at.1) g.2),
      )

  same_goes : (new : Nodes) → new.shards ≡ old.shards → GoesBeyond recs bound new
  same_goes new is = (g.0, is ∙ g.1, g.2)

  step_goes : (ran : Ran) (new : Nodes) → Happens old ran new → GoesBeyond recs bound new
  step_goes (Step (Shard n) e a faults) new k = shard_goes n e a faults new k
  step_goes (Step (Router n) e a faults) new k =
      same_goes new (ap (λ (x : Nodes). x.shards) k.nodes)
  step_goes (Swapped (Shard n)) new k = start_goes n new k
  step_goes (Swapped (Router n)) new k = same_goes new (ap (λ (x : Nodes). x.shards) k.nodes)

pub run_goes : (recs : List Rec) (bound : ℕ) (old : Nodes) (run : List Ran) (trace : List Nodes)
    (new : Nodes) → IsTrace old run trace new → Stands old → OneShard old
    → GoesBeyond recs bound old → OneShard new × GoesBeyond recs bound new
run_goes recs bound old [] [] new is s h g =
    subst (λ (x : Nodes). OneShard x × GoesBeyond recs bound x) (sym is) (h, g)
run_goes recs bound old [] (nodes ∷ trace) new is s h g = absurd is
run_goes recs bound old (ran ∷ run) [] new is s h g = absurd is
run_goes recs bound old (ran ∷ run) (nodes ∷ trace) new is s h g =
    run_goes recs bound is.1.0 run trace new is.1.2 (stands_step old ran is.1.0 is.1.1 s)
    (one_shard_step old s h ran is.1.0 is.1.1) (step_goes recs bound old s h g ran is.1.0 is.1.1)

-- What is seen.

lower_one : (at bound : ℕ) → at ≤ bound → (r : Rec) → IsAbove bound r → IsAbove at r
lower_one at bound le (rec.Commit tag lsid number read_at time writes) h = omega (arith, le, h)
lower_one at bound le (rec.Prepared tag lsid number boot read_at time coordinator writes) h =
    omega (arith, le, h)
lower_one at bound le other h = tt

pub seen_still : (recs : List Rec) (bound : ℕ) (now : Nodes) → OneShard now
    → GoesBeyond recs bound now → (at : ℕ) → at ≤ bound → (ns : List ℕ)
    → view (commits_of now) at ns ≡ view (commits_by recs) at ns
seen_still recs bound now o g at le ns =
    let b = g.2 in
    let P : Named → Type 0 = WasNamed now.sent in
    let same : g.0 ≡ o.node = (only o.node g.0 0
    (subst (λ (xs : List NodeState). slice_get xs 0 ≡ Some g.0) (sym g.1 ∙ o.shards) refl)).1 in
    let all : All (RecAlone P) (recs ++ b.more) =
    subst (All (RecAlone P)) (sym (ap (λ (n : NodeState). n.records) same) ∙ b.records)
    o.right.kept.2.alone.records in
    let front : All (RecAlone P) recs = contained (RecAlone P) recs (λ r there.
    All-contains (RecAlone P) (recs ++ b.more) r all (Contains-append_left recs b.more r there)) in
    let back : All (RecAlone P) b.more = contained (RecAlone P) b.more (λ r there.
    All-contains (RecAlone P) (recs ++ b.more) r all (Contains-append_right recs b.more r there)) in
    ap (λ (shards : List NodeState). view (commits (map (λ (n : NodeState). n.records) shards)) at
    ns) g.1
    ∙ ap (λ (rs : List Rec). view (commits_by rs) at ns) b.records
    ∙ view_stays P recs b.more at ns front back
    (All-weaker (IsAbove bound) (IsAbove at) (lower_one at bound le) b.more b.above)
