-- Each event keeps that clocks stand at or below their ceilings.
use Rattle.std.proofs.Common.{◌≡◌, ◌⊎◌, inl, inr, ◌<◌, ◌≤◌, ◌^◌, ◌++◌, ℕ, All, Bool, true, false}
use Rattle.std.proofs.Common.{List, [], ◌∷◌, Option, Some, None, unwrap_or, refl, sym, ap, subst}
use Rattle.std.proofs.Common.{◌∙◌, arith, nat_lt, if◌then◌else◌}
use Rattle.std.specs.Prelude.{slice_get, slice_set}
use Rattle.std.proofs.lemmas.List.{append-nil}
use Rattle.txn_types.specs.declared.event.NodeAnswer.{NodeAnswer}
use Rattle.txn_types.specs.declared.event.NodeEvent.{NodeEvent}
use Rattle.txn_types.specs.declared.node.NodeId.TheVariants.{Shard, Router}
use Rattle.journal_rec.specs.Follows.{Ledger, with_records, no_records, ledger_of, first_refused}
use Rattle.journal_rec.specs.declared.record.Rec.{Rec}
use Rattle.journal_rec.specs.declared.record.Rec.TheVariants as rec
use Rattle.shard_image.specs.Image.{Image, image_of, empty_image}
use Rattle.shard_image.specs.Image as image
use Rattle.shard_core.specs.State.{ShardState}
use Rattle.shard_core.specs.Core.{Room, CoreStep, core_step}
use Rattle.shard_core.specs.NodeStep.{NodeState, ShardTakes, Appended, Failed, joined, appends_of}
use Rattle.shard_core.specs.NodeStep.{started, started_if, node_of, boot_behind}
use Rattle.shard_core.specs.Laws.{HasTimes, KeepsTime}
use Rattle.shard_core.proofs.Stepping.{step_keeps}
use Rattle.txn_model.specs.declared.ran.Ran.{Ran}
use Rattle.txn_model.specs.declared.ran.Ran.TheVariants.{Step, Swapped}
use Rattle.txn_types.specs.Letters.{Named}
use Rattle.cluster_core.specs.Nodes.{Nodes}
use Rattle.cluster_core.specs.Trace.{Happens, MayRemain}
use Rattle.cluster_core.specs.Parts.{IsRunning, last_ceiling, ClockBelowCeiling}
use Rattle.world_laws.specs.Clocks.{ClockStands, EachShard, ClocksStand}
use Rattle.world_laws.proofs.Lists.{get_set, all_places}
use Rattle.world_laws.proofs.Ceilings.{records_on, appended_ceiling, parted}
use Rattle.world_laws.proofs.Steps.{step_does, stopped_rests}

-- no name is asked for
abbrev pub Any : Named → Type 0
Any n = Unit {0}

-- the last ceiling after one list of records and then another
pub ceiling_on : (a b : List Rec) → last_ceiling (a ++ b) ≡ (with_records (ledger_of a) b).ceiling
ceiling_on a b = ap (λ (l : Ledger). l.ceiling) (records_on no_records a b)

-- A running shard's step.

pub ceiling_behind : (old : NodeState) (room : Room) (e : NodeEvent)
    → last_ceiling (old.records ++ joined (appends_of (core_step room old.core e)))
    ≡ unwrap_or (core_step room old.core e).ceiling (last_ceiling old.records)
ceiling_behind old room e =
    let o = core_step room old.core e in
    let h = step_does Any room old.core e in
    ceiling_on old.records (joined (appends_of o))
    ∙ appended_ceiling old.core e o.core (ledger_of old.records) o.ceiling o.rec h.recorded

appends : (old : NodeState) (room : Room) (e : NodeEvent) (a : NodeAnswer) (new : NodeState)
    → Appended old (core_step room old.core e) a new → e.wall < 2 ^ 32
    → IsRunning old → ClockStands old → KeepsTime old.core (core_step room old.core e)
    → ClockStands new
appends old room e a new d w run c k =
    let o = core_step room old.core e in
    let h = step_does Any room old.core e in
    let is : last_ceiling new.records ≡ o.core.clock.ceiling =
    rw (d.records, ceiling_behind old room e, sym (c.ceiling run)) (sym k.ceiling) in
    let none : new.hand ≡ [] = d.hand ∙ c.calm run in
    let all : last_ceiling (new.records ++ new.hand) ≡ o.core.clock.ceiling =
    rw (none, append-nil new.records) is in
    record {
      wall = rw d.core (grind (arith, h.wall, c.wall));
      clock = λ r. rw d.core k.clock;
      ceiling = λ r. rw d.core (sym is);
      calm = λ r. none;
      durable = rw (is, all) (grind arith);
      ends = rw all k.clock.ends;
    }

ceiling_all : (old : NodeState) (kept lost : List Rec) → last_ceiling ((old.records ++ kept)
    ++ lost) ≡ (with_records (ledger_of old.records) (kept ++ lost)).ceiling
ceiling_all old kept lost =
    ap (λ (l : Ledger). l.ceiling) (records_on no_records (old.records ++ kept) lost
    ∙ ap (λ (l : Ledger). with_records l lost) (records_on no_records old.records kept)
    ∙ sym (records_on (ledger_of old.records) kept lost))

kept_below : (before behind kept last bound : ℕ) → (kept ≡ last) ⊎ (kept ≡ bound) → last ≡ before
    → bound ≡ behind → before ≤ behind → kept ≤ behind
kept_below before behind kept last bound (inl e) a b h = grind arith
kept_below before behind kept last bound (inr e) a b h = grind arith

fails : (old : NodeState) (room : Room) (e : NodeEvent) (a : NodeAnswer) (new : NodeState)
    → Failed old (core_step room old.core e) a new → e.wall < 2 ^ 32
    → IsRunning old → ClockStands old → KeepsTime old.core (core_step room old.core e)
    → ClockStands new
fails old room e a new d w run c k =
    let o = core_step room old.core e in
    let h = step_does Any room old.core e in
    let p = parted old.core e o.core (ledger_of old.records) o.ceiling o.rec h.recorded d.kept
    d.lost d.rest d.parted in
    let bound : unwrap_or o.ceiling (last_ceiling old.records) ≡ o.core.clock.ceiling =
    rw (sym (c.ceiling run)) (sym k.ceiling) in
    let all : last_ceiling (new.records ++ new.hand) ≡ o.core.clock.ceiling =
    rw (d.records, d.hand) (ceiling_all old (joined d.kept) d.lost ∙ p.lost_is ∙ bound) in
    let some : last_ceiling new.records ≡ (with_records (ledger_of old.records)
    (joined d.kept)).ceiling = rw d.records (ceiling_on old.records (joined d.kept)) in
    let stops : new.core.stopped ≡ Some new.faults = ap (λ (s : ShardState). s.stopped) d.core in
    record {
      wall = rw d.core (grind (arith, h.wall, c.wall));
      clock = λ r. absurd (grind (arith, stops, r));
      ceiling = λ r. absurd (grind (arith, stops, r));
      calm = λ r. absurd (grind (arith, stops, r));
      durable = rw (all, some) (kept_below old.core.clock.ceiling o.core.clock.ceiling _ _ _
          p.kept_is (sym (c.ceiling run)) bound h.ceiling);
      ends = rw all k.clock.ends;
    }

-- A stopped shard's step: it rests, and no append of it fails.

pub no_appends : (o : CoreStep) → o.ceiling ≡ None → o.rec ≡ None → appends_of o ≡ []
no_appends o a b = rw (a, b) refl

rests : (old : NodeState) (room : Room) (e : NodeEvent) (a : NodeAnswer) (new : NodeState)
    (faults : ℕ) → old.core.stopped ≡ Some faults → Appended old (core_step room old.core e) a new
    → ClockStands old → ClockStands new
rests old room e a new faults stopped d c =
    let r = stopped_rests room old.core e faults stopped in
    let core : new.core ≡ old.core = d.core ∙ r.core in
    let records : new.records ≡ old.records =
    rw (d.records, no_appends (core_step room old.core e) r.ceiling r.rec)
    (append-nil old.records) in
    record {
      wall = rw core c.wall;
      clock = λ x. rw core (c.clock (rw (sym core) x));
      ceiling = λ x. rw (core, records) (c.ceiling (rw (sym core) x));
      calm = λ x. rw d.hand (c.calm (rw (sym core) x));
      durable = rw (records, d.hand) c.durable;
      ends = rw (records, d.hand) c.ends;
    }

pub none_parts : {A : Type 0} (kept : List A) (lost : A) (rest : List A)
    → [] ≡ kept ++ lost ∷ rest → ⊥
none_parts [] lost rest e = grind arith
none_parts (k ∷ kept) lost rest e = grind arith

pub rests_not : (old : NodeState) (room : Room) (e : NodeEvent) (a : NodeAnswer) (new : NodeState)
    (faults : ℕ) → old.core.stopped ≡ Some faults → Failed old (core_step room old.core e) a new → ⊥
rests_not old room e a new faults stopped d =
    let r = stopped_rests room old.core e faults stopped in
    none_parts d.kept d.lost d.rest
    (sym (no_appends (core_step room old.core e) r.ceiling r.rec) ∙ d.parted)

-- a shard's step, whatever becomes of its appends

takes_by : (old : NodeState) (room : Room) (e : NodeEvent) (a : NodeAnswer) (new : NodeState)
    (stopped : Option ℕ) → old.core.stopped ≡ stopped → e.wall < 2 ^ 32 → HasTimes e.what
    → ClockStands old
    → (Appended old (core_step room old.core e) a new
    ⊎ Failed old (core_step room old.core e) a new) → ClockStands new
takes_by old room e a new None run w t c (inl d) =
    appends old room e a new d w run c (step_keeps room old.core e (c.clock run) c.wall w t)
takes_by old room e a new None run w t c (inr d) =
    fails old room e a new d w run c (step_keeps room old.core e (c.clock run) c.wall w t)
takes_by old room e a new (Some faults) run w t c (inl d) = rests old room e a new faults run d c
takes_by old room e a new (Some faults) run w t c (inr d) =
    absurd (rests_not old room e a new faults run d)

pub takes : (old : NodeState) (e : NodeEvent) (a : NodeAnswer) (new : NodeState)
    → ShardTakes old e a new → e.wall < 2 ^ 32 → HasTimes e.what → ClockStands old → ClockStands new
takes old e a new h w t c = takes_by old h.0 e a new old.core.stopped refl w t c h.1

-- A start.

image_ceiling : (recs : List Rec) (i : Image) (l : Ledger) → i.ceiling ≡ l.ceiling
    → (image.with_records i recs).ceiling ≡ (with_records l recs).ceiling
image_ceiling [] i l e = e
image_ceiling (rec.Boot boot ∷ recs) i l e = image_ceiling recs _ _ e
image_ceiling (rec.Ceiling bound ∷ recs) i l e = image_ceiling recs _ _ refl
image_ceiling (rec.Commit tag lsid number read_at at writes ∷ recs) i l e = image_ceiling recs _ _ e
image_ceiling (rec.Prepared tag lsid number boot read_at at coordinator writes ∷ recs) i l e =
    image_ceiling recs _ _ e
image_ceiling (rec.Decided d ∷ recs) i l e = image_ceiling recs _ _ e
image_ceiling (rec.CoordStart tag lsid number parts ∷ recs) i l e = image_ceiling recs _ _ e
image_ceiling (rec.CoordDecision tag d ∷ recs) i l e = image_ceiling recs _ _ e
image_ceiling (rec.CoordEnd tag ∷ recs) i l e = image_ceiling recs _ _ e
image_ceiling (rec.Floor floor ∷ recs) i l e = image_ceiling recs _ _ e

pub ceiling_of_image : (recs : List Rec) → (image_of recs).ceiling ≡ last_ceiling recs
unfolding image_of
ceiling_of_image recs = image_ceiling recs empty_image no_records refl

-- what has started is the node of its records after the next boot
started_by : (n : ℕ) (recs : List Rec) (faults : ℕ) (s other : NodeState) (test : Bool)
    → (if test then Some other else None) ≡ Some s → s ≡ other
started_by n recs faults s other true e = grind arith
started_by n recs faults s other false e = grind arith

start_is : (n : ℕ) (recs : List Rec) (faults : ℕ) (s : NodeState) (refused : Option ℕ)
    → started_if n recs faults refused ≡ Some s
    → s ≡ node_of n (recs ++ boot_behind (image_of recs) ∷ []) faults
start_is n recs faults s None e =
    started_by n recs faults s _ (nat_lt (image_of recs).boot 4294967294) e
start_is n recs faults s (Some index) e = grind arith

pub started_is : (n : ℕ) (recs : List Rec) (faults : ℕ) (s : NodeState) → started n recs faults
    ≡ Some s → s ≡ node_of n (recs ++ boot_behind (image_of recs) ∷ []) faults
started_is n recs faults s e = start_is n recs faults s (first_refused recs) e

pub starts : (n : ℕ) (recs : List Rec) (faults : ℕ) (s : NodeState) → started n recs faults ≡ Some s
    → last_ceiling recs < 2 ^ 64 → ClockStands s
starts n recs faults s e small =
    let more = recs ++ boot_behind (image_of recs) ∷ [] in
    let same : last_ceiling more ≡ last_ceiling recs =
    ceiling_on recs (boot_behind (image_of recs) ∷ []) in
    let is : (image_of more).ceiling ≡ last_ceiling more = ceiling_of_image more in
    rw (started_is n recs faults s e)
    (record {
      wall = grind arith;
      clock = λ r. record { below = grind arith; ends = rw (is, same) small };
      ceiling = λ r. is;
      calm = λ r. refl;
      durable = rw (append-nil more) (grind arith);
      ends = rw (append-nil more, same) small;
    })

pub remains_small : (old : NodeState) (recs : List Rec) → MayRemain old recs → ClockStands old
    → (last_ceiling old.records ≤ last_ceiling recs) × (last_ceiling recs < 2 ^ 64)
remains_small old recs (inl e) c = rw e (grind arith, grind (arith, c.durable, c.ends))
remains_small old recs (inr e) c = rw e (c.durable, c.ends)

-- Each event.

pub each_set : (P : ℕ → NodeState → Type 0) (old : Nodes) (n : ℕ) (after : NodeState) (new : Nodes)
    → new.shards ≡ slice_set old.shards n after → EachShard old P → P n after → EachShard new P
each_set P old n after new is h this number x e =
    elim (get_set old.shards n number after x
    (sym (ap (λ (l : List NodeState). slice_get l number) is) ∙ e)) [
      | inl w ↦
          subst (λ (y : NodeState). P number y) w.1 (subst (λ (k : ℕ). P k after) (sym w.0) this)
      | inr w ↦ h number x w
    ]

pub each_same : (P : ℕ → NodeState → Type 0) (old new : Nodes) → new.shards ≡ old.shards
    → EachShard old P → EachShard new P
each_same P old new is h number x e =
    h number x (sym (ap (λ (l : List NodeState). slice_get l number) is) ∙ e)

pub clocks_step : (old : Nodes) (ran : Ran) (new : Nodes) → Happens old ran new → ClocksStand old
    → ClocksStand new
clocks_step old (Step (Shard n) e a faults) new h c =
    each_set (λ number s. ClockStands s) old n h.after new (ap (λ (w : Nodes). w.shards) h.nodes) c
    (takes h.before e a h.after h.takes h.wall h.times (c n h.before h.there))
clocks_step old (Step (Router n) e a faults) new h c =
    each_same (λ number s. ClockStands s) old new (ap (λ (w : Nodes). w.shards) h.nodes) c
clocks_step old (Swapped (Shard n)) new h c =
    each_set (λ number s. ClockStands s) old n h.after new (ap (λ (w : Nodes). w.shards) h.nodes) c
    (starts n h.recs h.faults h.after h.starts
    (remains_small h.before h.recs h.remain (c n h.before h.there)).1)
clocks_step old (Swapped (Router n)) new h c =
    each_same (λ number s. ClockStands s) old new (ap (λ (w : Nodes). w.shards) h.nodes) c

below : (n : NodeState) → ClockStands n → ClockBelowCeiling n
below n c r = let k = c.clock r in rw (sym (c.ceiling r)) k.below

pub clocks_part : (nodes : Nodes) → ClocksStand nodes → All ClockBelowCeiling nodes.shards
clocks_part nodes c = all_places ClockBelowCeiling nodes.shards (λ i n e r. below n (c i n e) r)

kept_above : (before behind kept last bound : ℕ) → (kept ≡ last) ⊎ (kept ≡ bound) → last ≡ before
    → bound ≡ behind → before ≤ behind → last ≤ kept
kept_above before behind kept last bound (inl e) a b h = grind arith
kept_above before behind kept last bound (inr e) a b h = grind arith

-- after a failed append: the ceiling with what is in hand is that of the core, and the ceiling
-- without isn't below what it was
pub failed_ceilings : (old : NodeState) (room : Room) (e : NodeEvent) (a : NodeAnswer)
    (new : NodeState) → Failed old (core_step room old.core e) a new → IsRunning old
    → ClockStands old → KeepsTime old.core (core_step room old.core e)
    → (last_ceiling (new.records ++ new.hand) ≡ (core_step room old.core e).core.clock.ceiling)
    × (last_ceiling old.records ≤ last_ceiling new.records)
failed_ceilings old room e a new d run c k =
    let o = core_step room old.core e in
    let h = step_does Any room old.core e in
    let p = parted old.core e o.core (ledger_of old.records) o.ceiling o.rec h.recorded d.kept
    d.lost d.rest d.parted in
    let bound : unwrap_or o.ceiling (last_ceiling old.records) ≡ o.core.clock.ceiling =
    rw (sym (c.ceiling run)) (sym k.ceiling) in
    let some : last_ceiling new.records ≡ (with_records (ledger_of old.records)
    (joined d.kept)).ceiling = rw d.records (ceiling_on old.records (joined d.kept)) in (
      rw (d.records, d.hand) (ceiling_all old (joined d.kept) d.lost ∙ p.lost_is ∙ bound),
      rw some (kept_above old.core.clock.ceiling o.core.clock.ceiling _ _ _ p.kept_is
          (sym (c.ceiling run)) bound h.ceiling),
    )

pub starts_clock : (number : ℕ) (recs : List Rec) (faults : ℕ) (n : NodeState)
    → started number recs faults ≡ Some n → last_ceiling n.records < 2 ^ 64 → ClockStands n
starts_clock number recs faults n is small =
    let same : last_ceiling n.records ≡ last_ceiling recs =
    ap (λ (x : NodeState). last_ceiling x.records) (started_is number recs faults n is)
    ∙ ceiling_on recs (boot_behind (image_of recs) ∷ []) in
    starts number recs faults n is (subst (λ (k : ℕ). k < 2 ^ 64) same small)
