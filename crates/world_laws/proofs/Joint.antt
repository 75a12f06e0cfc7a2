-- What stands is kept by each event, and holds at a start.
use Rattle.std.proofs.Common.{◌≡◌, ℕ, List, [], ◌∷◌, ◌++◌, Some, All, ap, sym, subst, ◌∙◌, arith}
use Rattle.std.specs.Prelude.{slice_get, Contains}
use Rattle.std.proofs.lemmas.List.Elements.{All-nil, All-cons, All-head, All-tail, All-weaker}
use Rattle.txn_types.specs.declared.node.Lsid.{Lsid}
use Rattle.journal_rec.specs.declared.record.Rec.{Rec}
use Rattle.journal_rec.specs.declared.record.Rec.TheVariants as rec
use Rattle.chunk_map.specs.Map.{Map}
use Rattle.router_state.specs.declared.state.Session.{Session}
use Rattle.router_state.specs.State.{RouterState}
use Rattle.shard_image.specs.Image.{image_of}
use Rattle.shard_core.specs.NodeStep.{NodeState, started, boot_behind}
use Rattle.txn_model.specs.declared.ran.Ran.{Ran}
use Rattle.txn_types.specs.Letters.{Named}
use Rattle.cluster_core.specs.Nodes.{Nodes}
use Rattle.cluster_core.specs.Trace.{Happens, IsTrace, IsFresh}
use Rattle.cluster_core.specs.Parts.{AnswersBehind, HasCommit, IsRecorded, last_ceiling, names_of}
use Rattle.txn_types.specs.declared.message.Envelope.{Envelope}
use Rattle.world_laws.specs.Behind.{RecBehind, MsgBehind}
use Rattle.world_laws.specs.Asking.{DoingAsks, RouterAsks}
use Rattle.world_laws.specs.ReadTimes.{NodeReads}
use Rattle.world_laws.specs.Clocks.{ClockStands}
use Rattle.world_laws.specs.Tags.{BeginsNamed, PlansNamed}
use Rattle.world_laws.specs.Joint.{Stands, NoName, DiskStands, DisksStand}
use Rattle.world_laws.proofs.NodeRecords.{records_kept, starts_recorded}
use Rattle.world_laws.specs.Recorded.{RestsOn, NodeRecorded}
use Rattle.world_laws.specs.Boots.{EnvBoots, NodeTold, BootStands, HasBooted}
use Rattle.world_laws.proofs.Boots.{boots_step, starts_boots, router_fresh_boots}
use Rattle.world_laws.proofs.Above.{resolved_step, starts_resolved}
use Rattle.world_laws.proofs.Once.{once_step, tags_all, once_fresh, tags_fresh}
use Rattle.world_laws.proofs.Clocks.{clocks_step, starts_clock, started_is, ceiling_on}
use Rattle.world_laws.proofs.ReadTimes.{reads_step, starts_reads}
use Rattle.world_laws.proofs.RouterSteps.{routers_step, routers_sent}
use Rattle.world_laws.proofs.Tags.{plans_step, starts_named}

pub stands_step : (old : Nodes) (ran : Ran) (new : Nodes) → Happens old ran new → Stands old
    → Stands new
stands_step old ran new h s =
    let asks = routers_sent old ran new h s.asks in
    let reads = reads_step old ran new h asks s.clocks s.reads in
    record {
      clocks = clocks_step old ran new h s.clocks;
      asks = routers_step old ran new h s.asks;
      reads = reads;
      plans = plans_step old ran new h s.plans;
      begun = once_step old ran new h s.plans s.tags s.begun;
      tags = tags_all old ran new h s.plans s.begun s.tags;
      recorded = records_kept old ran new h asks s.reads reads s.recorded;
      boots = boots_step old ran new h s.reads s.boots;
      resolved = resolved_step old ran new h s.clocks s.resolved;
    }

pub stands_run : (old : Nodes) (run : List Ran) (trace : List Nodes) (new : Nodes)
    → IsTrace old run trace new → Stands old → Stands new
stands_run old [] [] new h s = subst Stands (sym h) s
stands_run old [] (nodes ∷ trace) new h s = absurd h
stands_run old (ran ∷ run) [] new h s = absurd h
stands_run old (ran ∷ run) (nodes ∷ trace) new h s =
    stands_run h.1.0 run trace new h.1.2 (stands_step old ran h.1.0 h.1.1 s)

-- At a start.

pub all_front : {A : Type 0} (P : A → Type 0) (xs ys : List A) → All P (xs ++ ys) → All P xs
all_front P [] ys h = All-nil P
all_front P (x ∷ xs) ys h =
    All-cons P x xs (All-head P x (xs ++ ys) h) (all_front P xs ys (All-tail P x (xs ++ ys) h))

-- of the records of a node that started, those that it started from
front_of : (P : Rec → Type 0) (number : ℕ) (recs : List Rec) (faults : ℕ) (n : NodeState)
    → started number recs faults ≡ Some n → All P n.records → All P recs
front_of P number recs faults n is h = all_front P recs (boot_behind (image_of recs)
    ∷ []) (subst (λ (x : NodeState). All P x.records) (started_is number recs faults n is) h)

same_ceiling : (number : ℕ) (recs : List Rec) (faults : ℕ) (n : NodeState)
    → started number recs faults ≡ Some n → last_ceiling n.records ≡ last_ceiling recs
same_ceiling number recs faults n is = ap (λ (x : NodeState). last_ceiling x.records)
    (started_is number recs faults n is) ∙ ceiling_on recs (boot_behind (image_of recs) ∷ [])

begins_more : (P : Named → Type 0) (r : Rec) → BeginsNamed NoName r → BeginsNamed P r
begins_more P (rec.Boot boot) h = tt
begins_more P (rec.Ceiling bound) h = tt
begins_more P (rec.Commit tag lsid number read_at at writes) h = tt
begins_more P (rec.Prepared tag lsid number boot read_at at coordinator writes) h = tt
begins_more P (rec.Decided d) h = tt
begins_more P (rec.CoordStart tag lsid number parts) h = absurd h
begins_more P (rec.CoordDecision tag d) h = tt
begins_more P (rec.CoordEnd tag) h = tt
begins_more P (rec.Floor floor) h = tt

starts_all : (P : Named → Type 0) (nodes : Nodes) (number : ℕ) (recs : List Rec) (faults : ℕ)
    (n : NodeState) → started number recs faults ≡ Some n → slice_get nodes.shards number ≡ Some n
    → DiskStands nodes n.records → ClockStands n × NodeReads number n × PlansNamed P n
    × NodeRecorded nodes n × (BootStands n × NodeTold (HasBooted nodes) n)
starts_all P nodes number recs faults n is there d = (
  starts_clock number recs faults n is d.ceiling,
  (starts_reads number recs faults n is (front_of (RecBehind (last_ceiling recs)) number recs faults
      n is (subst (λ (k : ℕ). All (RecBehind k) n.records) (same_ceiling number recs faults n is)
      d.times))).0,
  starts_named P number recs faults n is (All-weaker (BeginsNamed NoName) (BeginsNamed P)
      (begins_more P) recs (front_of (BeginsNamed NoName) number recs faults n is d.begins)),
  starts_recorded nodes number recs faults n there is
      (front_of (RestsOn (HasCommit nodes)) number recs faults n is d.rests),
  starts_boots nodes number recs faults n is
      (front_of (BeginsNamed NoName) number recs faults n is d.begins),
)

router_fresh : (chunks : Map) (nodes : Nodes) → IsFresh chunks nodes
    → (number : ℕ) (r : RouterState) → slice_get nodes.routers number ≡ Some r → RouterAsks r
router_fresh chunks nodes h number r e = subst RouterAsks (sym (h.routers number r e).1)
    (All-nil (λ (entry : Lsid × Session). DoingAsks entry.1.doing))

pub stands_fresh : (chunks : Map) (nodes : Nodes) → IsFresh chunks nodes → DisksStand nodes
    → Stands nodes
stands_fresh chunks nodes h d =
    let at = λ (number : ℕ) (n : NodeState) (e : slice_get nodes.shards number ≡ Some n). let s =
    h.shards number n e in
    starts_all (Contains (names_of nodes)) nodes number s.0 s.1 n s.2 e (d number n e) in
    record {
      clocks = λ number n e. (at number n e).0;
      asks = router_fresh chunks nodes h;
      reads = record {
        shards = λ number n e. (at number n e).1;
        times = subst (All (λ (e : Envelope). MsgBehind e.time e.msg)) (sym h.sent)
            (All-nil (λ (e : Envelope). MsgBehind e.time e.msg));
        answers = subst (All (AnswersBehind nodes)) (sym h.sent) (All-nil (AnswersBehind nodes));
      };
      plans = λ number n e. (at number n e).2;
      begun = once_fresh chunks nodes h;
      tags = tags_fresh chunks nodes h;
      recorded = record {
        shards = λ number n e. (at number n e).3;
        sent = subst (All (λ (e : Envelope). IsRecorded nodes e.msg)) (sym h.sent)
            (All-nil (λ (e : Envelope). IsRecorded nodes e.msg));
      };
      boots = record {
        shards = λ number n e. (at number n e).4;
        routers = router_fresh_boots chunks nodes h;
        sent = subst (All (EnvBoots (HasBooted nodes))) (sym h.sent)
            (All-nil (EnvBoots (HasBooted nodes)));
      };
      resolved = λ number n e. let s = h.shards number n e in starts_resolved number s.0 s.1 n s.2;
    }

-- a new disk has one record, of its first boot
pub new_disk : (nodes : Nodes) (number : ℕ) (faults : ℕ) (n : NodeState)
    → started number [] faults ≡ Some n → DiskStands nodes n.records
unfolding image_of
new_disk nodes number faults n is =
    let one : DiskStands nodes (rec.Boot 1 ∷ []) = record {
      ceiling = omega arith;
      times = All-cons (RecBehind 0) (rec.Boot 1) [] tt (All-nil (RecBehind 0));
      begins = All-cons (BeginsNamed NoName) (rec.Boot 1) [] tt (All-nil (BeginsNamed NoName));
      rests = All-cons (RestsOn (HasCommit nodes)) (rec.Boot 1) [] tt
          (All-nil (RestsOn (HasCommit nodes)));
    } in
    subst (λ (x : NodeState). DiskStands nodes x.records)
    (sym (started_is number [] faults n is)) one
