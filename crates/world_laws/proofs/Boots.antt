-- Each event keeps that no message has a boot above that of the shard that it is of.
use Rattle.std.proofs.Common.{◌≡◌, ◌≤◌, ◌+◌, ◌⊎◌, inl, inr, ◌++◌, ℕ, All, List, [], ◌∷◌, Option}
use Rattle.std.proofs.Common.{Some, None, IfSome, refl, sym, ap, subst, ◌∙◌, arith}
use Rattle.std.specs.Prelude.{slice_get, slice_set}
use Rattle.std.proofs.lemmas.List.Elements.{All-nil, All-head, All-tail, All-append, All-weaker}
use Rattle.std.proofs.lemmas.List.Elements.{All-contains}
use Rattle.txn_types.specs.Order.{tag_cmp}
use Rattle.txn_types.specs.declared.decision.Decision.{Decision}
use Rattle.txn_types.specs.declared.event.Happening.{Happening}
use Rattle.txn_types.specs.declared.event.Happening.TheVariants as what
use Rattle.txn_types.specs.declared.event.NodeAnswer.{NodeAnswer}
use Rattle.txn_types.specs.declared.event.NodeEvent.{NodeEvent}
use Rattle.txn_types.specs.declared.message.Envelope.{Envelope}
use Rattle.txn_types.specs.declared.message.Msg.{Msg}
use Rattle.txn_types.specs.declared.message.Msg.TheVariants as msg
use Rattle.txn_types.specs.declared.names.Tag.{Tag}
use Rattle.txn_types.specs.declared.node.Lsid.{Lsid}
use Rattle.txn_types.specs.declared.node.NodeId.{NodeId}
use Rattle.txn_types.specs.declared.node.NodeId.TheVariants.{Shard, Router}
use Rattle.journal_rec.specs.declared.record.Rec.{Rec}
use Rattle.journal_rec.specs.declared.record.Rec.TheVariants as rec
use Rattle.chunk_map.specs.Map.{Map}
use Rattle.coordinator.specs.TwoPhase.{Coordinated, Coordinations, coordinated_of, with_decision}
use Rattle.router_state.specs.declared.state.Doing.{Doing}
use Rattle.router_state.specs.declared.state.Doing.TheVariants.{Begun, Sought}
use Rattle.router_state.specs.declared.state.Session.{Session}
use Rattle.router_state.specs.State.{Post, RouterState}
use Rattle.router_core.specs.Step.{RouterTakes}
use Rattle.shard_image.specs.Image.{Image, image_of, empty_image, decided_if}
use Rattle.shard_image.specs.Image as image
use Rattle.shard_core.specs.State.{ShardState}
use Rattle.shard_core.specs.Core.{CoreStep, core_step}
use Rattle.shard_core.specs.NodeStep.{NodeState, ShardTakes, Appended, Failed, boot_behind, started}
use Rattle.txn_model.specs.declared.ran.Ran.{Ran}
use Rattle.txn_model.specs.declared.ran.Ran.TheVariants.{Step, Swapped}
use Rattle.txn_types.specs.Letters.{given_out}
use Rattle.cluster_core.specs.Nodes.{Nodes}
use Rattle.cluster_core.specs.Trace.{Happens, IsFresh, MayCome, MayRemain, again}
use Rattle.shard_core.specs.Effect.{MayRecord, StepRecords}
use Rattle.world_laws.specs.Clocks.{EachShard}
use Rattle.world_laws.specs.Tags.{BeginsNamed}
use Rattle.world_laws.specs.Joint.{NoName}
use Rattle.world_laws.specs.ReadTimes.{ReadsStand}
use Rattle.world_laws.specs.Boots.{PartsTold, AskedBoots, ToldBoots, BootsTo, EnvBoots, BootsBy}
use Rattle.world_laws.specs.Boots.{PostBoots, DoingBoots, RouterBoots, CoordinatedTold, PlansTold}
use Rattle.world_laws.specs.Boots.{BeginsTold, NodeTold, IsNoBoot, BootStands, HasBooted}
use Rattle.world_laws.specs.Boots.{BootsStand}
use Rattle.world_laws.proofs.Lists.{get_set}
use Rattle.world_laws.proofs.Naming.{one, put_all, taken_all, found}
use Rattle.world_laws.proofs.Going.{some_same}
use Rattle.world_laws.proofs.Records.{records_step, added_step}
use Rattle.world_laws.proofs.Steps.{step_does}
use Rattle.world_laws.proofs.Clocks.{Any, started_is, each_set, each_same}
use Rattle.world_laws.proofs.Booting.{Zero, router_boots}
use Rattle.world_laws.proofs.BootSteps.{OwnTold, step_boots}

-- What is said of boots, where more is said of each.

parts_weaker : (B C : ℕ → ℕ → Type 0) → ((shard boot : ℕ) → B shard boot → C shard boot)
    → (parts : List (ℕ × ℕ)) → PartsTold B parts → PartsTold C parts
parts_weaker B C f parts h = All-weaker (λ (part : ℕ × ℕ). B part.0 part.1) (λ (part : ℕ × ℕ).
    C part.0 part.1) (λ part k. f part.0 part.1 k) parts h

asked_weaker : (B C : ℕ → ℕ → Type 0) → ((shard boot : ℕ) → B shard boot → C shard boot)
    → (shard : ℕ) (m : Msg) → AskedBoots B shard m → AskedBoots C shard m
asked_weaker B C f shard (msg.Statement m) h = f shard m.boot h
asked_weaker B C f shard (msg.Commit m) h = f shard m.boot h
asked_weaker B C f shard (msg.CommitTwo m) h = (f shard m.boot h.0, parts_weaker B C f m.parts h.1)
asked_weaker B C f shard (msg.Prepare m) h = f shard m.boot h
asked_weaker B C f shard other h = tt

told_weaker : (B C : ℕ → ℕ → Type 0) → ((shard boot : ℕ) → B shard boot → C shard boot) → (m : Msg)
    → ToldBoots B m → ToldBoots C m
told_weaker B C f (msg.Answer a) h = f a.shard a.boot h
told_weaker B C f (msg.Outcome o) h = f o.shard o.boot h
told_weaker B C f other h = tt

to_weaker : (B C : ℕ → ℕ → Type 0) → ((shard boot : ℕ) → B shard boot → C shard boot)
    → (to : NodeId) (m : Msg) → BootsTo B to m → BootsTo C to m
to_weaker B C f (Shard shard) m h = asked_weaker B C f shard m h
to_weaker B C f (Router router) m h = told_weaker B C f m h

sent_weaker : (B C : ℕ → ℕ → Type 0) → ((shard boot : ℕ) → B shard boot → C shard boot)
    → (sent : List Envelope) → All (EnvBoots B) sent → All (EnvBoots C) sent
sent_weaker B C f sent h =
    All-weaker (EnvBoots B) (EnvBoots C) (λ (e : Envelope). to_weaker B C f e.to e.msg) sent h

doing_weaker : (B C : ℕ → ℕ → Type 0) → ((shard boot : ℕ) → B shard boot → C shard boot)
    → (doing : Doing) → DoingBoots B doing → DoingBoots C doing
doing_weaker B C f (Begun t) h = (
  parts_weaker B C f t.parts h.0,
  All-weaker (PostBoots B) (PostBoots C) (λ (post : Post). asked_weaker B C f post.0 post.1)
      t.waiting h.1,
)
doing_weaker B C f (Sought seeking known) h = tt

router_weaker : (B C : ℕ → ℕ → Type 0) → ((shard boot : ℕ) → B shard boot → C shard boot)
    → (r : RouterState) → RouterBoots B r → RouterBoots C r
router_weaker B C f r h = All-weaker (λ (entry : Lsid × Session). DoingBoots B entry.1.doing)
    (λ (entry : Lsid × Session). DoingBoots C entry.1.doing) (λ (entry : Lsid × Session).
    doing_weaker B C f entry.1.doing) r.sessions h

begins_weaker : (B C : ℕ → ℕ → Type 0) → ((shard boot : ℕ) → B shard boot → C shard boot)
    → (r : Rec) → BeginsTold B r → BeginsTold C r
begins_weaker B C f (rec.CoordStart tag lsid number parts) h = parts_weaker B C f parts h
begins_weaker B C f other h = tt

node_weaker : (B C : ℕ → ℕ → Type 0) → ((shard boot : ℕ) → B shard boot → C shard boot)
    → (n : NodeState) → NodeTold B n → NodeTold C n
node_weaker B C f n h = record {
  plans = All-weaker (CoordinatedTold B) (CoordinatedTold C) (λ (c : Tag × Coordinated).
      parts_weaker B C f c.1.plan.parts) n.core.coord h.plans;
  records = All-weaker (BeginsTold B) (BeginsTold C) (begins_weaker B C f) n.records h.records;
  hand = All-weaker (BeginsTold B) (BeginsTold C) (begins_weaker B C f) n.hand h.hand;
}

-- The boot of records.

pub image_on : (i : Image) (a b : List Rec)
    → image.with_records i (a ++ b) ≡ image.with_records (image.with_records i a) b
image_on i [] b = refl
image_on i (r ∷ a) b = image_on (image.with_record i r) a b

record_boot : (i : Image) (r : Rec) → IsNoBoot r → (image.with_record i r).boot ≡ i.boot
record_boot i (rec.Boot boot) h = absurd h
record_boot i (rec.Ceiling bound) h = refl
record_boot i (rec.Commit tag lsid number read_at at writes) h = refl
record_boot i (rec.Prepared tag lsid number boot read_at at coordinator writes) h = refl
record_boot i (rec.Decided d) h = refl
record_boot i (rec.CoordStart tag lsid number parts) h = refl
record_boot i (rec.CoordDecision tag d) h = refl
record_boot i (rec.CoordEnd tag) h = refl
record_boot i (rec.Floor floor) h = refl

records_boot : (recs : List Rec) (i : Image) → All IsNoBoot recs
    → (image.with_records i recs).boot ≡ i.boot
records_boot [] i h = refl
records_boot (r ∷ recs) i h = records_boot recs (image.with_record i r) (All-tail IsNoBoot r recs h)
    ∙ record_boot i r (All-head IsNoBoot r recs h)

boot_on : (a b : List Rec) → All IsNoBoot b → (image_of (a ++ b)).boot ≡ (image_of a).boot
unfolding image_of
boot_on a b h = ap (λ (i : Image). i.boot) (image_on empty_image a b)
    ∙ records_boot b (image.with_records empty_image a) h

next_boot : (recs : List Rec) (boot : ℕ) → (image_of (recs ++ rec.Boot boot ∷ [])).boot ≡ boot
unfolding image_of
next_boot recs boot = ap (λ (i : Image). i.boot) (image_on empty_image recs (rec.Boot boot ∷ []))

no_boot : (s : ShardState) (m : Msg) (new : ShardState) (r : Rec) → MayRecord s m new r → IsNoBoot r
no_boot s m new (rec.Boot boot) h = h
no_boot s m new other h = tt

step_no_boot : (s : ShardState) (e : NodeEvent) (new : ShardState) (r : Option Rec)
    → IfSome r (StepRecords s e new) → IfSome r IsNoBoot
step_no_boot s e new None h = tt
step_no_boot s e new (Some r) h = no_boot _ _ new r h.2

-- A shard's step.

pub record Stepped (B : ℕ → ℕ → Type 0) (old new : NodeState) (given : List Envelope) : Type 0 where
  pub boot : new.core.part.boot ≡ old.core.part.boot
  pub stands : BootStands new
  pub told : NodeTold B new
  pub out : All (EnvBoots B) given

pub core_by : (P : ShardState → Type 0) (old : NodeState) (o : CoreStep) (a : NodeAnswer)
    (new : NodeState) → P o.core → ((stopped : Option ℕ) → P (record o.core { stopped = stopped }))
    → (Appended old o a new ⊎ Failed old o a new) → P new.core
core_by P old o a new h k (inl d) = subst P (sym d.core) h
core_by P old o a new h k (inr d) = subst P (sym d.core) (k (Some new.faults))

out_by : (B : ℕ → ℕ → Type 0) (old : NodeState) (o : CoreStep) (a : NodeAnswer) (new : NodeState)
    → All (EnvBoots B) (given_out o.answer) → (Appended old o a new ⊎ Failed old o a new)
    → All (EnvBoots B) (given_out a)
out_by B old o a new h (inl d) =
    subst (λ (x : NodeAnswer). All (EnvBoots B) (given_out x)) (sym d.told) h
out_by B old o a new h (inr d) =
    subst (λ (x : NodeAnswer). All (EnvBoots B) (given_out x)) (sym d.told) (All-nil (EnvBoots B))

takes_boots : (B : ℕ → ℕ → Type 0) (old : NodeState) (e : NodeEvent) (a : NodeAnswer)
    (new : NodeState) → ShardTakes old e a new → OwnTold B old.core.part
    → BootsBy B (Shard old.core.part.shard) e.what → BootStands old → NodeTold B old
    → Stepped B old new (given_out a)
takes_boots B old e a new h own b s t =
    let o = core_step h.0 old.core e in
    let f = step_does Any h.0 old.core e in
    let k = step_boots B h.0 old.core e own b t.plans in
    let boot : new.core.part.boot ≡ old.core.part.boot = core_by (λ (c : ShardState). c.part.boot
    ≡ old.core.part.boot) old o a new f.same.boot (λ stopped. f.same.boot) h.1 in
    let added = added_step IsNoBoot old o a new (λ x. tt) (step_no_boot old.core e o.core o.rec
    f.recorded) s.hand h.1 in
    let recs = records_step (BeginsTold B) old o a new (λ x. tt) k.rec t.records t.hand h.1 in
    record {
      boot = boot;
      stands = record {
        records = boot ∙ s.records ∙ sym (ap (λ (rs : List Rec). (image_of rs).boot) added.records
            ∙ boot_on old.records added.more added.all);
        hand = added.hand;
      };
      told = record {
        plans = core_by (λ (c : ShardState). PlansTold B c.coord) old o a new k.plans (λ stopped.
            k.plans) h.1;
        records = recs.0;
        hand = recs.1;
      };
      out = out_by B old o a new k.out h.1;
    }

-- A start of a shard.

decided_plans : (B : ℕ → ℕ
    → Type 0) (coords : Coordinations) (tag : Tag) (d : Decision) (c : Option Coordinated)
    → coordinated_of coords tag ≡ c → PlansTold B coords → PlansTold B (decided_if coords tag d c)
decided_plans B coords tag d None e h = h
decided_plans B coords tag d (Some c) e h = put_all tag_cmp (CoordinatedTold B) tag
    (with_decision (Some d) c) coords (found (CoordinatedTold B) tag coords h c e) h

changed_plans : (B : ℕ → ℕ → Type 0) (i : Image) (r : Rec) → PlansTold B i.coord → BeginsTold B r
    → PlansTold B (image.with_record i r).coord
changed_plans B i (rec.Boot boot) h b = h
changed_plans B i (rec.Ceiling bound) h b = h
changed_plans B i (rec.Commit tag lsid number read_at at writes) h b = h
changed_plans B i (rec.Prepared tag lsid number boot read_at at coordinator writes) h b = h
changed_plans B i (rec.Decided d) h b = h
changed_plans B i (rec.CoordStart tag lsid number parts) h b =
    put_all tag_cmp (CoordinatedTold B) tag _ i.coord b h
changed_plans B i (rec.CoordDecision tag d) h b =
    decided_plans B i.coord tag d (coordinated_of i.coord tag) refl h
changed_plans B i (rec.CoordEnd tag) h b = taken_all tag_cmp (CoordinatedTold B) tag i.coord h
changed_plans B i (rec.Floor floor) h b = h

image_plans : (B : ℕ → ℕ → Type 0) (recs : List Rec) (i : Image) → PlansTold B i.coord
    → All (BeginsTold B) recs → PlansTold B (image.with_records i recs).coord
image_plans B [] i h b = h
image_plans B (r ∷ recs) i h b = image_plans B recs (image.with_record i r) (changed_plans B i r h
    (All-head (BeginsTold B) r recs b)) (All-tail (BeginsTold B) r recs b)

plans_of_image : (B : ℕ → ℕ → Type 0) (recs : List Rec) → All (BeginsTold B) recs
    → PlansTold B (image_of recs).coord
unfolding image_of
plans_of_image B recs b = image_plans B recs empty_image (All-nil (CoordinatedTold B)) b

starts_told : (B : ℕ → ℕ → Type 0) (n : ℕ) (recs : List Rec) (faults : ℕ) (s : NodeState)
    → started n recs faults ≡ Some s → All (BeginsTold B) recs → BootStands s × NodeTold B s
starts_told B n recs faults s e h =
    let more = recs ++ boot_behind (image_of recs) ∷ [] in
    let all = All-append (BeginsTold B) recs (boot_behind (image_of recs)
    ∷ []) h (one (BeginsTold B) (boot_behind (image_of recs)) tt) in
    subst (λ (x : NodeState). BootStands x × NodeTold B x) (sym (started_is n recs faults s e)) (
      record { records = refl; hand = All-nil IsNoBoot },
      record { plans = plans_of_image B more all; records = all; hand = All-nil (BeginsTold B) },
    )

-- a start comes to the next boot
starts_next : (n : ℕ) (recs : List Rec) (faults : ℕ) (s : NodeState)
    → started n recs faults ≡ Some s → s.core.part.boot ≡ (image_of recs).boot + 1
starts_next n recs faults s e = ap (λ (x : NodeState). x.core.part.boot) (started_is n recs faults s
    e) ∙ next_boot recs ((image_of recs).boot + 1)

remains_boot : (old : NodeState) (recs : List Rec) → MayRemain old recs → BootStands old
    → (image_of recs).boot ≡ old.core.part.boot
remains_boot old recs (inl e) s = ap (λ (rs : List Rec). (image_of rs).boot) e ∙ sym s.records
remains_boot old recs (inr e) s = ap (λ (rs : List Rec). (image_of rs).boot) e
    ∙ boot_on old.records old.hand s.hand ∙ sym s.records

remains_told : (B : ℕ → ℕ → Type 0) (old : NodeState) (recs : List Rec) → MayRemain old recs
    → NodeTold B old → All (BeginsTold B) recs
remains_told B old recs (inl e) t = subst (All (BeginsTold B)) (sym e) t.records
remains_told B old recs (inr e) t = subst (All (BeginsTold B)) (sym e) (All-append (BeginsTold B)
    old.records old.hand t.records t.hand)

-- Each event: shards come to later boots.

booted_on : (old : Nodes) (n : ℕ) (before after : NodeState) (new : Nodes)
    → slice_get old.shards n ≡ Some before → new.shards ≡ slice_set old.shards n after
    → before.core.part.boot ≤ after.core.part.boot
    → (shard boot : ℕ) → HasBooted old shard boot → HasBooted new shard boot
booted_on old n before after new there is rises shard boot h x e =
    elim (get_set old.shards n shard after x
    (sym (ap (λ (l : List NodeState). slice_get l shard) is) ∙ e)) [
      | inl w ↦
          let was : boot ≤ before.core.part.boot =
          h before (ap (slice_get old.shards) w.0 ∙ there) in
          subst (λ (y : NodeState). boot ≤ y.core.part.boot) w.1 (omega (arith, was, rises))
      | inr w ↦ h x w
    ]

booted_same : (old new : Nodes) → new.shards ≡ old.shards → (shard boot : ℕ)
    → HasBooted old shard boot → HasBooted new shard boot
booted_same old new is shard boot h x e =
    h x (sym (ap (λ (l : List NodeState). slice_get l shard) is) ∙ e)

booted_zero : (nodes : Nodes) → Zero (HasBooted nodes)
booted_zero nodes shard x e = omega arith

-- what may come
comes_boots : (nodes : Nodes) (node : NodeId) (w : Happening)
    → All (EnvBoots (HasBooted nodes)) nodes.sent → MayCome nodes.sent node w
    → BootsBy (HasBooted nodes) node w
comes_boots nodes node (what.Deliver e) s h = subst (λ (to : NodeId). BootsTo (HasBooted nodes) to
    e.msg) h.1 (All-contains (EnvBoots (HasBooted nodes)) nodes.sent e s h.0)
comes_boots nodes node other s h = tt

-- a shard is the one at its place, so that its boot has come
own_booted : (nodes : Nodes) (n : ℕ) (s : NodeState) → slice_get nodes.shards n ≡ Some s
    → s.core.part.shard ≡ n → OwnTold (HasBooted nodes) s.core.part
own_booted nodes n s there own x e =
    let is : x ≡ s = some_same x s (sym e ∙ ap (slice_get nodes.shards) own ∙ there) in
    subst (λ (y : NodeState). s.core.part.boot ≤ y.core.part.boot) (sym is) (omega arith)

stay_booted : (old new : Nodes)
    → ((shard boot : ℕ) → HasBooted old shard boot → HasBooted new shard boot)
    → EachShard new (λ number n. BootStands n × NodeTold (HasBooted old) n)
    → ((number : ℕ) (r : RouterState) → slice_get new.routers number ≡ Some r
    → RouterBoots (HasBooted old) r) → All (EnvBoots (HasBooted old)) new.sent → BootsStand new
stay_booted old new f shards routers sent = record {
  shards = λ number n e. let k = shards number n e in
      (k.0, node_weaker (HasBooted old) (HasBooted new) f n k.1);
  routers = λ number r e. router_weaker (HasBooted old) (HasBooted new) f r (routers number r e);
  sent = sent_weaker (HasBooted old) (HasBooted new) f new.sent sent;
}

sent_more : (B : ℕ → ℕ → Type 0) (old new : Nodes) (out : List Envelope)
    → new.sent ≡ old.sent ++ out → All (EnvBoots B) old.sent → All (EnvBoots B) out
    → All (EnvBoots B) new.sent
sent_more B old new out is h k =
    subst (All (EnvBoots B)) (sym is) (All-append (EnvBoots B) old.sent out h k)

routers_set : (B : ℕ → ℕ → Type 0) (old : Nodes) (n : ℕ) (after : RouterState) (new : Nodes)
    → new.routers ≡ slice_set old.routers n after → ((number : ℕ) (r : RouterState)
    → slice_get old.routers number ≡ Some r → RouterBoots B r) → RouterBoots B after
    → (number : ℕ) (r : RouterState) → slice_get new.routers number ≡ Some r → RouterBoots B r
routers_set B old n after new is h this number x e =
    elim (get_set old.routers n number after x
    (sym (ap (λ (l : List RouterState). slice_get l number) is) ∙ e))
    [ inl w ↦ subst (RouterBoots B) w.1 this | inr w ↦ h number x w ]

routers_same : (B : ℕ → ℕ → Type 0) (old new : Nodes) → new.routers ≡ old.routers
    → ((number : ℕ) (r : RouterState) → slice_get old.routers number ≡ Some r → RouterBoots B r)
    → (number : ℕ) (r : RouterState) → slice_get new.routers number ≡ Some r → RouterBoots B r
routers_same B old new is h number x e =
    h number x (sym (ap (λ (l : List RouterState). slice_get l number) is) ∙ e)

router_takes : (B : ℕ → ℕ → Type 0) → Zero B
    → (n : ℕ) (old : RouterState) (e : NodeEvent) (a : NodeAnswer) (new : RouterState)
    → RouterTakes old e a new → BootsBy B (Router n) e.what → RouterBoots B old
    → RouterBoots B new × All (EnvBoots B) (given_out a)
router_takes B z n old e a new h b k =
    let s = router_boots B z n h.0 old e b k in (
      subst (RouterBoots B) (sym h.2) s.0,
      subst (λ (a : NodeAnswer). All (EnvBoots B) (given_out a)) (sym h.1) s.1,
    )

pub boots_step : (old : Nodes) (ran : Ran) (new : Nodes) → Happens old ran new → ReadsStand old
    → BootsStand old → BootsStand new
boots_step old (Step (Shard n) e a faults) new h r c =
    let B = HasBooted old in
    let was = c.shards n h.before h.there in
    let own = (r.shards n h.before h.there).own in
    let came = subst (λ (k : ℕ). BootsBy B (Shard k) e.what) (sym own) (comes_boots old (Shard n)
    e.what c.sent h.comes) in
    let s = takes_boots B h.before e a h.after h.takes (own_booted old n h.before h.there own) came
    was.0 was.1 in
    stay_booted old new (booted_on old n h.before h.after new h.there
    (ap (λ (w : Nodes). w.shards) h.nodes) (let same = s.boot in omega (arith, same)))
    (each_set (λ number s. BootStands s × NodeTold B s) old n h.after new
    (ap (λ (w : Nodes). w.shards) h.nodes) c.shards (s.stands, s.told))
    (routers_same B old new (ap (λ (w : Nodes). w.routers) h.nodes) c.routers)
    (sent_more B old new (given_out a) (ap (λ (w : Nodes). w.sent) h.nodes) c.sent s.out)
boots_step old (Step (Router n) e a faults) new h r c =
    let B = HasBooted old in
    let s = router_takes B (booted_zero old) n h.before e a h.after h.takes (comes_boots old
    (Router n) e.what c.sent h.comes) (c.routers n h.before h.there) in
    stay_booted old new (booted_same old new (ap (λ (w : Nodes). w.shards) h.nodes))
    (each_same (λ number s. BootStands s × NodeTold B s) old new
    (ap (λ (w : Nodes). w.shards) h.nodes) c.shards)
    (routers_set B old n h.after new (ap (λ (w : Nodes). w.routers) h.nodes) c.routers s.0)
    (sent_more B old new (given_out a) (ap (λ (w : Nodes). w.sent) h.nodes) c.sent s.1)
boots_step old (Swapped (Shard n)) new h r c =
    let B = HasBooted old in
    let was = c.shards n h.before h.there in
    let next = starts_next n h.recs h.faults h.after h.starts in
    let last = remains_boot h.before h.recs h.remain was.0 in
    stay_booted old new (booted_on old n h.before h.after new h.there
    (ap (λ (w : Nodes). w.shards) h.nodes) (omega (arith, next, last)))
    (each_set (λ number s. BootStands s × NodeTold B s) old n h.after new
    (ap (λ (w : Nodes). w.shards) h.nodes) c.shards
    (starts_told B n h.recs h.faults h.after h.starts
    (remains_told B h.before h.recs h.remain was.1)))
    (routers_same B old new (ap (λ (w : Nodes). w.routers) h.nodes) c.routers)
    (subst (All (EnvBoots B)) (sym (ap (λ (w : Nodes). w.sent) h.nodes)) c.sent)
boots_step old (Swapped (Router n)) new h r c =
    let B = HasBooted old in
    stay_booted old new (booted_same old new (ap (λ (w : Nodes). w.shards) h.nodes))
    (each_same (λ number s. BootStands s × NodeTold B s) old new
    (ap (λ (w : Nodes). w.shards) h.nodes) c.shards)
    (routers_set B old n (again n h.before) new (ap (λ (w : Nodes). w.routers) h.nodes) c.routers
    (All-nil (λ (entry : Lsid × Session). DoingBoots B entry.1.doing)))
    (subst (All (EnvBoots B)) (sym (ap (λ (w : Nodes). w.sent) h.nodes)) c.sent)

-- At a start.

begins_none : (B : ℕ → ℕ → Type 0) (r : Rec) → BeginsNamed NoName r → BeginsTold B r
begins_none B (rec.CoordStart tag lsid number parts) h = absurd h
begins_none B other h = tt

pub starts_boots : (nodes : Nodes) (number : ℕ) (recs : List Rec) (faults : ℕ) (n : NodeState)
    → started number recs faults ≡ Some n → All (BeginsNamed NoName) recs
    → BootStands n × NodeTold (HasBooted nodes) n
starts_boots nodes number recs faults n is h =
    starts_told (HasBooted nodes) number recs faults n is (All-weaker (BeginsNamed NoName)
    (BeginsTold (HasBooted nodes)) (begins_none (HasBooted nodes)) recs h)

pub router_fresh_boots : (chunks : Map) (nodes : Nodes) → IsFresh chunks nodes
    → (number : ℕ) (r : RouterState) → slice_get nodes.routers number ≡ Some r
    → RouterBoots (HasBooted nodes) r
router_fresh_boots chunks nodes h number r e =
    subst (RouterBoots (HasBooted nodes)) (sym (h.routers number r e).1)
    (All-nil (λ (entry : Lsid × Session). DoingBoots (HasBooted nodes) entry.1.doing))
