-- Each event keeps that messages go to nodes that are there.
use Rattle.std.proofs.Common.{◌≡◌, ◌⊎◌, inl, inr, ◌<◌, ◌++◌, ℕ, All, List, [], ◌∷◌, length, Option}
use Rattle.std.proofs.Common.{Some, None, refl, sym, ap, subst, ◌∙◌}
use Rattle.std.specs.Prelude.{slice_get, slice_set}
use Rattle.std.proofs.lemmas.Option.{slice_get_within}
use Rattle.std.proofs.lemmas.List.Elements.{All-nil, All-head, All-tail, All-append, All-weaker}
use Rattle.std.proofs.lemmas.List.Elements.{All-contains}
use Rattle.txn_types.specs.Order.{tag_cmp, same_tag}
use Rattle.txn_types.specs.declared.decision.Decision.{Decision}
use Rattle.txn_types.specs.declared.event.Happening.{Happening}
use Rattle.txn_types.specs.declared.event.Happening.TheVariants as what
use Rattle.txn_types.specs.declared.event.NodeAnswer.{NodeAnswer}
use Rattle.txn_types.specs.declared.event.NodeEvent.{NodeEvent}
use Rattle.txn_types.specs.declared.message.Envelope.{Envelope}
use Rattle.txn_types.specs.declared.names.Tag.{Tag}
use Rattle.txn_types.specs.declared.node.Lsid.{Lsid}
use Rattle.txn_types.specs.declared.node.NodeId.{NodeId}
use Rattle.txn_types.specs.declared.node.NodeId.TheVariants.{Shard, Router}
use Rattle.journal_rec.specs.declared.record.Rec.{Rec}
use Rattle.journal_rec.specs.declared.record.Rec.TheVariants as rec
use Rattle.chunk_map.specs.Map.{Map, IsMap}
use Rattle.coordinator.specs.TwoPhase.{Coordinated, Coordinations, coordinated_of, with_decision}
use Rattle.router_state.specs.declared.state.Session.{Session}
use Rattle.router_state.specs.State.{RouterState}
use Rattle.router_core.specs.Step.{RouterTakes, router_step}
use Rattle.router_core.proofs.Going.{step_on}
use Rattle.shard_image.specs.Image.{Image, image_of, empty_image, decided_if}
use Rattle.shard_image.specs.Image as image
use Rattle.shard_core.specs.State.{ShardState}
use Rattle.shard_core.specs.Core.{CoreStep, core_step}
use Rattle.shard_core.specs.NodeStep.{NodeState, ShardTakes, Appended, Failed, boot_behind, started}
use Rattle.txn_model.specs.declared.ran.Ran.{Ran}
use Rattle.txn_model.specs.declared.ran.Ran.TheVariants.{Step, Swapped}
use Rattle.txn_types.specs.Letters.{given_out}
use Rattle.cluster_core.specs.Nodes.{Nodes}
use Rattle.cluster_core.specs.Trace.{Happens, IsTrace, IsFresh, MayCome, MayRemain, again}
use Rattle.world_laws.specs.Clocks.{EachShard}
use Rattle.world_laws.specs.Tags.{BeginsNamed}
use Rattle.world_laws.specs.Joint.{Stands, NoName, DisksStand}
use Rattle.world_laws.proofs.Clocks.{started_is, each_set, each_same}
use Rattle.world_laws.proofs.Joint.{stands_step, all_front}
use Rattle.address_laws.specs.Addresses.{IsThere, HasNode, EnvThere, EventThere, DoingThere}
use Rattle.address_laws.specs.Addresses.{MapThere, RouterThere, CoordinatedThere, PlansThere}
use Rattle.address_laws.specs.Addresses.{BeginsThere, NodeThere, AddressesStand}
use Rattle.address_laws.proofs.Lists.{found, set_length}
use Rattle.world_laws.proofs.Records.{records_step}
use Rattle.address_laws.proofs.Sending.{router_sends}
use Rattle.address_laws.proofs.Ruling.{step_there}
use Rattle.world_laws.proofs.Naming.{one, put_all, taken_all, each}
use Rattle.world_laws.proofs.Lists.{get_set, set_at}

-- A shard's step.

record Stepped (T : NodeId → Type 0) (new : NodeState) (given : List Envelope) : Type 0 where
  node : NodeThere T new
  out : T (Shard new.core.part.shard) → All (EnvThere T) given

plans_by : (T : NodeId → Type 0) (old : NodeState) (o : CoreStep) (a : NodeAnswer) (new : NodeState)
    → PlansThere T o.core.coord → (Appended old o a new ⊎ Failed old o a new)
    → PlansThere T new.core.coord
plans_by T old o a new h (inl d) = subst (λ (s : ShardState). PlansThere T s.coord) (sym d.core) h
plans_by T old o a new h (inr d) = subst (λ (s : ShardState). PlansThere T s.coord) (sym d.core) h

out_by : (T : NodeId → Type 0) (old : NodeState) (o : CoreStep) (a : NodeAnswer) (new : NodeState)
    → (T (Shard o.core.part.shard) → All (EnvThere T) (given_out o.answer))
    → (Appended old o a new ⊎ Failed old o a new)
    → T (Shard new.core.part.shard) → All (EnvThere T) (given_out a)
out_by T old o a new h (inl d) own =
    subst (λ (x : NodeAnswer). All (EnvThere T) (given_out x)) (sym d.told)
    (h (subst (λ (s : ShardState). T (Shard s.part.shard)) d.core own))
out_by T old o a new h (inr d) own =
    subst (λ (x : NodeAnswer). All (EnvThere T) (given_out x)) (sym d.told) (All-nil (EnvThere T))

takes_there : (T : NodeId
    → Type 0) (old : NodeState) (e : NodeEvent) (a : NodeAnswer) (new : NodeState)
    → ShardTakes old e a new → EventThere T e.what → NodeThere T old → Stepped T new (given_out a)
takes_there T old e a new h b s =
    let o = core_step h.0 old.core e in
    let k = step_there T h.0 old.core e b s.plans in
    let recs = records_step (BeginsThere T) old o a new (λ x. tt) k.rec s.records s.hand h.1 in
    record {
      node = record { plans = plans_by T old o a new k.plans h.1; records = recs.0; hand = recs.1 };
      out = out_by T old o a new k.out h.1;
    }

-- A start of a shard.

decided_plans : (T : NodeId
    → Type 0) (coords : Coordinations) (tag : Tag) (d : Decision) (c : Option Coordinated)
    → coordinated_of coords tag ≡ c → PlansThere T coords → PlansThere T (decided_if coords tag d c)
decided_plans T coords tag d None e h = h
decided_plans T coords tag d (Some c) e h =
    let this =
    found (CoordinatedThere T) (λ (c : Tag × Coordinated). same_tag c.0 tag) coords h c e in
    put_all tag_cmp (λ (c : Tag × Coordinated). CoordinatedThere T c.1) tag
    (with_decision (Some d) c) coords (record { parts = this.parts; askers = this.askers }) h

changed_plans : (T : NodeId → Type 0) (i : Image) (r : Rec) → PlansThere T i.coord → BeginsThere T r
    → PlansThere T (image.with_record i r).coord
changed_plans T i (rec.Boot boot) h b = h
changed_plans T i (rec.Ceiling bound) h b = h
changed_plans T i (rec.Commit tag lsid number read_at at writes) h b = h
changed_plans T i (rec.Prepared tag lsid number boot read_at at coordinator writes) h b = h
changed_plans T i (rec.Decided d) h b = h
changed_plans T i (rec.CoordStart tag lsid number parts) h b =
    put_all tag_cmp (λ (c : Tag × Coordinated). CoordinatedThere T c.1) tag _ i.coord
    (record { parts = b; askers = All-nil (λ (n : ℕ). T (Router n)) }) h
changed_plans T i (rec.CoordDecision tag d) h b =
    decided_plans T i.coord tag d (coordinated_of i.coord tag) refl h
changed_plans T i (rec.CoordEnd tag) h b =
    taken_all tag_cmp (λ (c : Tag × Coordinated). CoordinatedThere T c.1) tag i.coord h
changed_plans T i (rec.Floor floor) h b = h

image_plans : (T : NodeId → Type 0) (recs : List Rec) (i : Image) → PlansThere T i.coord
    → All (BeginsThere T) recs → PlansThere T (image.with_records i recs).coord
image_plans T [] i h b = h
image_plans T (r ∷ recs) i h b =
    image_plans T recs (image.with_record i r) (changed_plans T i r h
    (All-head (BeginsThere T) r recs b)) (All-tail (BeginsThere T) r recs b)

plans_of_image : (T : NodeId → Type 0) (recs : List Rec) → All (BeginsThere T) recs
    → PlansThere T (image_of recs).coord
unfolding image_of
plans_of_image T recs b =
    image_plans T recs empty_image (All-nil (λ (c : Tag × Coordinated). CoordinatedThere T c.1)) b

starts_there : (T : NodeId → Type 0) (n : ℕ) (recs : List Rec) (faults : ℕ) (s : NodeState)
    → started n recs faults ≡ Some s → All (BeginsThere T) recs → NodeThere T s
starts_there T n recs faults s e h =
    let more = recs ++ boot_behind (image_of recs) ∷ [] in
    let all = All-append (BeginsThere T) recs (boot_behind (image_of recs)
    ∷ []) h (one (BeginsThere T) (boot_behind (image_of recs)) tt) in
    subst (NodeThere T) (sym (started_is n recs faults s e)) (record {
      plans = plans_of_image T more all;
      records = all;
      hand = All-nil (BeginsThere T);
    })

remains_there : (T : NodeId → Type 0) (old : NodeState) (recs : List Rec) → MayRemain old recs
    → NodeThere T old → All (BeginsThere T) recs
remains_there T old recs (inl e) s = subst (All (BeginsThere T)) (sym e) s.records
remains_there T old recs (inr e) s = subst (All (BeginsThere T)) (sym e) (All-append (BeginsThere T)
    old.records old.hand s.records s.hand)

-- A router's step.

router_takes : (T : NodeId → Type 0) (old : RouterState) (e : NodeEvent) (a : NodeAnswer)
    (new : RouterState) → RouterTakes old e a new → EventThere T e.what → RouterThere T old
    → RouterThere T new × (T (Router new.number) → All (EnvThere T) (given_out a))
router_takes T old e a new h b k =
    let s = router_sends T h.0 old e b k in
    let turned = router_step h.0 old e in (
      subst (RouterThere T) (sym h.2) (record {
        map = subst (MapThere T) (sym (step_on h.0 old e).chunks) k.map;
        sessions = s.sessions;
      }),
      λ own. subst (λ (a : NodeAnswer). All (EnvThere T) (given_out a)) (sym h.1)
          (s.out (subst (λ (r : RouterState). T (Router r.number)) h.2 own)),
    )

-- Each event: the nodes that are there stay there.

-- of nodes of a cluster of so many shards and routers
record Standing (shards routers : ℕ) (nodes : Nodes) : Type 0 where
  each : EachShard nodes (λ number n. NodeThere (IsThere shards routers) n)
  others : (number : ℕ) (r : RouterState) → slice_get nodes.routers number ≡ Some r
      → RouterThere (IsThere shards routers) r
  sent : All (EnvThere (IsThere shards routers)) nodes.sent

to_standing : (nodes : Nodes) → AddressesStand nodes
    → Standing (length nodes.shards) (length nodes.routers) nodes
to_standing nodes h = record { each = h.shards; others = h.routers; sent = h.sent }

from_standing : (shards routers : ℕ) (nodes : Nodes) → length nodes.shards ≡ shards
    → length nodes.routers ≡ routers → Standing shards routers nodes → AddressesStand nodes
from_standing shards routers nodes a b h =
    let k = subst (λ (n : ℕ). Standing n (length nodes.routers) nodes) (sym a)
    (subst (λ (n : ℕ). Standing shards n nodes) (sym b) h) in
    record { shards = k.each; routers = k.others; sent = k.sent }

comes_there : (T : NodeId → Type 0) (sent : List Envelope) (node : NodeId) (w : Happening)
    → All (EnvThere T) sent → MayCome sent node w → EventThere T w
comes_there T sent node (what.Deliver e) s h = All-contains (EnvThere T) sent e s h.0
comes_there T sent node other s h = tt

sent_more : (T : NodeId → Type 0) (old new : Nodes) (out : List Envelope)
    → new.sent ≡ old.sent ++ out → All (EnvThere T) old.sent → All (EnvThere T) out
    → All (EnvThere T) new.sent
sent_more T old new out is h k =
    subst (All (EnvThere T)) (sym is) (All-append (EnvThere T) old.sent out h k)

abbrev Others : (NodeId → Type 0) → Nodes → Type 0
Others T nodes = (number : ℕ) (r : RouterState) → slice_get nodes.routers number ≡ Some r
    → RouterThere T r

others_set : (T : NodeId → Type 0) (old : Nodes) (n : ℕ) (after : RouterState) (new : Nodes)
    → new.routers ≡ slice_set old.routers n after → Others T old → RouterThere T after
    → Others T new
others_set T old n after new is h this number x e =
    elim (get_set old.routers n number after x
    (sym (ap (λ (l : List RouterState). slice_get l number) is) ∙ e))
    [ inl w ↦ subst (RouterThere T) w.1 this | inr w ↦ h number x w ]

others_same : (T : NodeId → Type 0) (old new : Nodes) → new.routers ≡ old.routers → Others T old
    → Others T new
others_same T old new is h number x e =
    h number x (sym (ap (λ (l : List RouterState). slice_get l number) is) ∙ e)

-- a shard that stands at a place is there, as that place's
shard_at : (routers : ℕ) (nodes : Nodes) (n : ℕ) (s : NodeState) → slice_get nodes.shards n ≡ Some s
    → Stands nodes → IsThere (length nodes.shards) routers (Shard s.core.part.shard)
shard_at routers nodes n s there stands =
    subst (λ (k : ℕ). k < length nodes.shards) (sym (stands.reads.shards n s there).own)
    (slice_get_within nodes.shards n s there)

router_at : (shards : ℕ) (nodes : Nodes) (n : ℕ) (r : RouterState) → slice_get nodes.routers n
    ≡ Some r → Stands nodes → IsThere shards (length nodes.routers) (Router r.number)
router_at shards nodes n r there stands =
    subst (λ (k : ℕ). k < length nodes.routers) (sym (stands.begun n r there).own)
    (slice_get_within nodes.routers n r there)

pub addresses_step : (old : Nodes) (ran : Ran) (new : Nodes) → Happens old ran new → Stands old
    → AddressesStand old → AddressesStand new
addresses_step old (Step (Shard n) e a faults) new h stands c =
    let T = IsThere (length old.shards) (length old.routers) in
    let shards = ap (λ (w : Nodes). w.shards) h.nodes in
    let routers = ap (λ (w : Nodes). w.routers) h.nodes in
    let count = ap length shards ∙ set_length old.shards n h.after in
    let was = to_standing old c in
    let s = takes_there T h.before e a h.after h.takes (comes_there T old.sent (Shard n) e.what
    was.sent h.comes) (was.each n h.before h.there) in
    let own = shard_at (length old.routers) new n h.after (set_at old.shards new.shards n h.after
    h.before shards h.there) (stands_step old (Step (Shard n) e a faults) new h stands) in
    from_standing (length old.shards) (length old.routers) new count (ap length routers)
    (record {
      each = each_set (λ number s. NodeThere T s) old n h.after new shards was.each s.node;
      others = others_same T old new routers was.others;
      sent = sent_more T old new (given_out a) (ap (λ (w : Nodes). w.sent) h.nodes) was.sent
          (s.out (subst (λ (k : ℕ). IsThere k (length old.routers) (Shard h.after.core.part.shard))
          count own));
    })
addresses_step old (Step (Router n) e a faults) new h stands c =
    let T = IsThere (length old.shards) (length old.routers) in
    let shards = ap (λ (w : Nodes). w.shards) h.nodes in
    let routers = ap (λ (w : Nodes). w.routers) h.nodes in
    let count = ap length routers ∙ set_length old.routers n h.after in
    let was = to_standing old c in
    let s = router_takes T h.before e a h.after h.takes (comes_there T old.sent (Router n) e.what
    was.sent h.comes) (was.others n h.before h.there) in
    let own = router_at (length old.shards) new n h.after (set_at old.routers new.routers n h.after
    h.before routers h.there) (stands_step old (Step (Router n) e a faults) new h stands) in
    from_standing (length old.shards) (length old.routers) new (ap length shards) count
    (record {
      each = each_same (λ number s. NodeThere T s) old new shards was.each;
      others = others_set T old n h.after new routers was.others s.0;
      sent = sent_more T old new (given_out a) (ap (λ (w : Nodes). w.sent) h.nodes) was.sent
          (s.1 (subst (λ (k : ℕ). IsThere (length old.shards) k (Router h.after.number))
          count own));
    })
addresses_step old (Swapped (Shard n)) new h stands c =
    let T = IsThere (length old.shards) (length old.routers) in
    let shards = ap (λ (w : Nodes). w.shards) h.nodes in
    let routers = ap (λ (w : Nodes). w.routers) h.nodes in
    let was = to_standing old c in
    from_standing (length old.shards) (length old.routers) new
    (ap length shards ∙ set_length old.shards n h.after) (ap length routers)
    (record {
      each = each_set (λ number s. NodeThere T s) old n h.after new shards was.each
          (starts_there T n h.recs h.faults h.after h.starts
          (remains_there T h.before h.recs h.remain (was.each n h.before h.there)));
      others = others_same T old new routers was.others;
      sent = subst (All (EnvThere T)) (sym (ap (λ (w : Nodes). w.sent) h.nodes)) was.sent;
    })
addresses_step old (Swapped (Router n)) new h stands c =
    let T = IsThere (length old.shards) (length old.routers) in
    let shards = ap (λ (w : Nodes). w.shards) h.nodes in
    let routers = ap (λ (w : Nodes). w.routers) h.nodes in
    let was = to_standing old c in
    from_standing (length old.shards) (length old.routers) new (ap length shards)
    (ap length routers ∙ set_length old.routers n (again n h.before))
    (record {
      each = each_same (λ number s. NodeThere T s) old new shards was.each;
      others = others_set T old n (again n h.before) new routers was.others
          (record {
            map = (was.others n h.before h.there).map;
            sessions = All-nil (λ (entry : Lsid × Session). DoingThere T entry.1.doing);
          });
      sent = subst (All (EnvThere T)) (sym (ap (λ (w : Nodes). w.sent) h.nodes)) was.sent;
    })

pub addresses_run : (old : Nodes) (run : List Ran) (trace : List Nodes) (new : Nodes)
    → IsTrace old run trace new → Stands old → AddressesStand old → AddressesStand new
addresses_run old [] [] new h s c = subst AddressesStand (sym h) c
addresses_run old [] (nodes ∷ trace) new h s c = absurd h
addresses_run old (ran ∷ run) [] new h s c = absurd h
addresses_run old (ran ∷ run) (nodes ∷ trace) new h s c =
    addresses_run h.1.0 run trace new h.1.2 (stands_step old ran h.1.0 h.1.1 s)
    (addresses_step old ran h.1.0 h.1.1 s c)

-- At a start.

begins_none : (T : NodeId → Type 0) (r : Rec) → BeginsNamed NoName r → BeginsThere T r
begins_none T (rec.CoordStart tag lsid number parts) h = absurd h
begins_none T other h = tt

begins_front : (T : NodeId → Type 0) (number : ℕ) (recs : List Rec) (faults : ℕ) (n : NodeState)
    → started number recs faults ≡ Some n → All (BeginsNamed NoName) n.records
    → All (BeginsThere T) recs
begins_front T number recs faults n is h =
    All-weaker (BeginsNamed NoName) (BeginsThere T) (begins_none T) recs
    (all_front (BeginsNamed NoName) recs (boot_behind (image_of recs) ∷ []) (subst (λ (x :
    NodeState). All (BeginsNamed NoName) x.records) (started_is number recs faults n is) h))

fresh_map : (chunks : Map) (nodes : Nodes) → IsFresh chunks nodes → IsMap chunks
    → MapThere (HasNode nodes) chunks
fresh_map chunks nodes h is = record {
  is = is;
  some = subst (λ (k : ℕ). 0 < k) (sym h.count) h.some;
  all = λ n below. subst (λ (k : ℕ). n < k) h.count below;
}

pub addresses_fresh : (chunks : Map) (nodes : Nodes) → IsFresh chunks nodes → IsMap chunks
    → DisksStand nodes → AddressesStand nodes
addresses_fresh chunks nodes h is d =
    let T = HasNode nodes in
    record {
      shards = λ number n e. let s = h.shards number n e in starts_there T number s.0 s.1 n s.2
          (begins_front T number s.0 s.1 n s.2 (d number n e).begins);
      routers = λ number r e.
          subst (RouterThere T) (sym (h.routers number r e).1) (record {
            map = fresh_map chunks nodes h is;
            sessions = All-nil (λ (entry : Lsid × Session). DoingThere T entry.1.doing);
          });
      sent = subst (All (EnvThere T)) (sym h.sent) (All-nil (EnvThere T));
    }

pub all_go : (nodes : Nodes) → AddressesStand nodes
    → All (λ (e : Envelope). HasNode nodes e.to) nodes.sent
all_go nodes h = All-weaker (EnvThere (HasNode nodes)) (λ (e : Envelope).
    HasNode nodes e.to) (λ e k. k.goes) nodes.sent h.sent
