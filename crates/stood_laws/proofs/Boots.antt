-- A shard's journal has each of its boots, in their order.
use Rattle.std.proofs.Common.{◌≡◌, ◌⊎◌, inl, inr, ◌<◌, ◌≤◌, ◌+◌, ◌++◌, ℕ, zero, suc, List, []}
use Rattle.std.proofs.Common.{◌∷◌, All, Contains, Option, Some, None, IfSome, refl, ap, subst, ◌∙◌}
use Rattle.std.proofs.Common.{sym}
use Rattle.std.proofs.Common.{arith, filter_map}
use Rattle.std.proofs.lemmas.List.{append-nil}
use Rattle.std.proofs.lemmas.List.Elements.{All-head, All-tail, filter_map-append}
use Rattle.std.proofs.lemmas.List.Elements.{Contains-append_left, Contains-push}
use Rattle.txn_types.specs.declared.event.NodeAnswer.{NodeAnswer}
use Rattle.txn_types.specs.declared.event.NodeEvent.{NodeEvent}
use Rattle.txn_types.specs.declared.message.Msg.{Msg}
use Rattle.txn_types.specs.declared.node.NodeId.TheVariants.{Shard, Router}
use Rattle.journal_rec.specs.declared.record.Rec.{Rec}
use Rattle.journal_rec.specs.declared.record.Rec.TheVariants as rec
use Rattle.shard_image.specs.Image.{Image, image_of, with_record, with_records}
use Rattle.shard_core.specs.Core.{core_step}
use Rattle.shard_core.specs.Effect.{MayRecord, StepRecords}
use Rattle.shard_core.specs.NodeStep.{NodeState, ShardTakes, started, boot_behind}
use Rattle.shard_core.specs.State.{ShardState}
use Rattle.durable_laws.proofs.Facts.{image_append}
use Rattle.txn_model.specs.declared.ran.Ran.{Ran}
use Rattle.txn_model.specs.declared.ran.Ran.TheVariants.{Step, Swapped}
use Rattle.cluster_core.specs.Causes.{boot_in}
use Rattle.cluster_core.specs.Nodes.{Nodes}
use Rattle.cluster_core.specs.Trace.{Happens, IsTrace, MayRemain}
use Rattle.world_laws.specs.Boots.{IsNoBoot, BootStands}
use Rattle.world_laws.specs.Clocks.{EachShard}
use Rattle.world_laws.specs.Joint.{Stands}
use Rattle.world_laws.proofs.Boots.{core_by}
use Rattle.world_laws.proofs.Clocks.{started_is, each_set, each_same}
use Rattle.world_laws.proofs.Joint.{stands_step}
use Rattle.world_laws.proofs.Records.{added_step}
use Rattle.world_laws.proofs.Steps.{step_does}

-- the boots up to one
abbrev pub counted : ℕ → List ℕ
counted zero = []
counted (suc n) = counted n ++ suc n ∷ []

pub counted_has : (n boot : ℕ) → 0 < boot → boot ≤ n → Contains (counted n) boot
counted_has zero boot some within = absurd (omega (arith, some, within))
counted_has (suc n) boot some within =
    elim (last_or boot n within) [
      | inl below ↦ Contains-append_left (counted n) (suc n ∷ []) boot
          (counted_has n boot some below)
      | inr at ↦ subst (Contains (counted n ++ suc n ∷ [])) (sym at)
          (Contains-push (counted n) (suc n))
    ]
  where
    last_or : (boot n : ℕ) → boot ≤ suc n → (boot ≤ n) ⊎ (boot ≡ suc n)
    last_or boot n within = grind (arith, within)

-- records without a boot
no_boots : (recs : List Rec) → All IsNoBoot recs → filter_map boot_in recs ≡ []
no_boots [] h = refl
no_boots (r ∷ recs) h =
    first r (All-head IsNoBoot r recs h) (no_boots recs (All-tail IsNoBoot r recs h))
  where
    first : (r : Rec) → IsNoBoot r → filter_map boot_in recs ≡ []
        → filter_map boot_in (r ∷ recs) ≡ []
    first (rec.Boot boot) h more = absurd h
    first (rec.Ceiling bound) h more = more
    first (rec.Commit tag lsid number read_at at writes) h more = more
    first (rec.Prepared tag lsid number boot read_at at coordinator writes) h more = more
    first (rec.Decided d) h more = more
    first (rec.CoordStart tag lsid number parts) h more = more
    first (rec.CoordDecision tag d) h more = more
    first (rec.CoordEnd tag) h more = more
    first (rec.Floor floor) h more = more

record_boot : (i : Image) (r : Rec) → IsNoBoot r → (with_record i r).boot ≡ i.boot
record_boot i (rec.Boot boot) h = absurd h
record_boot i (rec.Ceiling bound) h = refl
record_boot i (rec.Commit tag lsid number read_at at writes) h = refl
record_boot i (rec.Prepared tag lsid number boot read_at at coordinator writes) h = refl
record_boot i (rec.Decided d) h = refl
record_boot i (rec.CoordStart tag lsid number parts) h = refl
record_boot i (rec.CoordDecision tag d) h = refl
record_boot i (rec.CoordEnd tag) h = refl
record_boot i (rec.Floor floor) h = refl

records_boot : (recs : List Rec) (i : Image) → All IsNoBoot recs
    → (with_records i recs).boot ≡ i.boot
records_boot [] i h = refl
records_boot (r ∷ recs) i h = records_boot recs (with_record i r) (All-tail IsNoBoot r recs h)
    ∙ record_boot i r (All-head IsNoBoot r recs h)

no_boot : (s : ShardState) (m : Msg) (new : ShardState) (r : Rec) → MayRecord s m new r → IsNoBoot r
no_boot s m new (rec.Boot boot) h = h
no_boot s m new other h = tt

step_no_boot : (s : ShardState) (e : NodeEvent) (new : ShardState) (r : Option Rec)
    → IfSome r (StepRecords s e new) → IfSome r IsNoBoot
step_no_boot s e new None h = tt
step_no_boot s e new (Some r) h = no_boot _ _ new r h.2

-- the records have the boots up to the shard's
abbrev pub Counts : NodeState → Type 0
Counts n = filter_map boot_in n.records ≡ counted n.core.part.boot

takes_counts : (old : NodeState) (e : NodeEvent) (a : NodeAnswer) (new : NodeState)
    → ShardTakes old e a new → BootStands old → Counts old → Counts new
takes_counts old e a new h s c =
    let o = core_step h.0 old.core e in
    let f = step_does (λ n. Unit {0}) h.0 old.core e in
    let boot : new.core.part.boot ≡ old.core.part.boot =
    core_by (λ (x : ShardState). x.part.boot ≡ old.core.part.boot) old o a new f.same.boot
    (λ stopped. f.same.boot) h.1 in
    let added = added_step IsNoBoot old o a new (λ x. tt)
    (step_no_boot old.core e o.core o.rec f.recorded) s.hand h.1 in
    ap (filter_map boot_in) added.records ∙ filter_map-append boot_in old.records added.more
    ∙ ap (λ (xs : List ℕ). filter_map boot_in old.records ++ xs) (no_boots added.more added.all)
    ∙ append-nil (filter_map boot_in old.records) ∙ c ∙ ap counted (sym boot)

-- of the records that a start finds
abbrev Finds : NodeState → List Rec → Type 0
Finds n recs = (filter_map boot_in recs ≡ counted n.core.part.boot)
    × ((image_of recs).boot ≡ n.core.part.boot)

finds : (n : NodeState) (recs : List Rec) → MayRemain n recs → BootStands n → Counts n
    → Finds n recs
finds n recs (inl is) s c = (
  ap (filter_map boot_in) is ∙ c,
  ap (λ (rs : List Rec). (image_of rs).boot) is ∙ sym s.records,
)
finds n recs (inr is) s c = (
  ap (filter_map boot_in) is ∙ filter_map-append boot_in n.records n.hand
      ∙ ap (λ (xs : List ℕ). filter_map boot_in n.records ++ xs) (no_boots n.hand s.hand)
      ∙ append-nil (filter_map boot_in n.records) ∙ c,
  ap (λ (rs : List Rec). (image_of rs).boot) is
      ∙ ap (λ (i : Image). i.boot) (image_append n.records n.hand)
      ∙ records_boot n.hand (image_of n.records) s.hand ∙ sym s.records,
)

starts_counts : (number : ℕ) (recs : List Rec) (faults : ℕ) (new : NodeState) (boot : ℕ)
    → started number recs faults ≡ Some new → filter_map boot_in recs ≡ counted boot
    → (image_of recs).boot ≡ boot → Counts new
starts_counts number recs faults new boot h c is =
    let node = started_is number recs faults new h in
    let next : (image_of recs).boot + 1 ≡ suc boot = ap (λ (n : ℕ). n + 1) is ∙ omega arith in
    let boots : new.core.part.boot ≡ suc boot =
    ap (λ (n : NodeState). n.core.part.boot) node
    ∙ ap (λ (i : Image). i.boot) (image_append recs (boot_behind (image_of recs) ∷ [])) ∙ next in
    ap (λ (n : NodeState). filter_map boot_in n.records) node
    ∙ filter_map-append boot_in recs (boot_behind (image_of recs) ∷ [])
    ∙ ap (λ (xs : List ℕ). xs ++ ((image_of recs).boot + 1) ∷ []) c
    ∙ ap (λ (n : ℕ). counted boot ++ n ∷ []) next ∙ ap counted (sym boots)

abbrev pub AllCount : Nodes → Type 0
AllCount nodes = EachShard nodes (λ number n. Counts n)

counts_step : (old : Nodes) (ran : Ran) (new : Nodes) → Happens old ran new → Stands old
    → AllCount old → AllCount new
counts_step old (Step (Shard n) e a faults) new h s c =
    each_set (λ number x. Counts x) old n h.after new (ap (λ (w : Nodes). w.shards) h.nodes) c
    (takes_counts h.before e a h.after h.takes (s.boots.shards n h.before h.there).0
    (c n h.before h.there))
counts_step old (Step (Router n) e a faults) new h s c =
    each_same (λ number x. Counts x) old new (ap (λ (w : Nodes). w.shards) h.nodes) c
counts_step old (Swapped (Shard n)) new h s c =
    let f = finds h.before h.recs h.remain (s.boots.shards n h.before h.there).0
    (c n h.before h.there) in
    each_set (λ number x. Counts x) old n h.after new (ap (λ (w : Nodes). w.shards) h.nodes) c
    (starts_counts n h.recs h.faults h.after h.before.core.part.boot h.starts f.0 f.1)
counts_step old (Swapped (Router n)) new h s c =
    each_same (λ number x. Counts x) old new (ap (λ (w : Nodes). w.shards) h.nodes) c

pub counts_run : (old : Nodes) (run : List Ran) (trace : List Nodes) (new : Nodes)
    → IsTrace old run trace new → Stands old → AllCount old → AllCount new
counts_run old [] [] new h s c = subst AllCount (sym h) c
counts_run old [] (nodes ∷ trace) new h s c = absurd h
counts_run old (ran ∷ run) [] new h s c = absurd h
counts_run old (ran ∷ run) (nodes ∷ trace) new h s c =
    counts_run h.1.0 run trace new h.1.2 (stands_step old ran h.1.0 h.1.1 s)
    (counts_step old ran h.1.0 h.1.1 s c)

pub counts_first : (number faults : ℕ) (n : NodeState) → started number [] faults ≡ Some n
    → Counts n
unfolding image_of
counts_first number faults n is = starts_counts number [] faults n 0 is refl refl
