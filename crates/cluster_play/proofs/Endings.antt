-- How a playing ended.
use Rattle.std.proofs.Common.{◌≡◌, ◌≤◌, ℕ, ◌+◌, List, length, map, Option, Some, Result, Ok, Err}
use Rattle.std.proofs.Common.{IfOk, IfErr, inl, inr, refl, sym, ap, subst, ◌∙◌, arith}
use Rattle.outcomes.specs.Causes.{Rose}
use Rattle.outcomes.specs.Outcome as outcome
use Rattle.chunk_map.specs.Map.{Map}
use Rattle.record_store.specs.declared.error.NodeErr.{NodeErr}
use Rattle.record_store.specs.declared.error.NodeErr.TheVariants as error
use Rattle.txn_types.specs.declared.node.NodeId.{NodeId}
use Rattle.txn_types.specs.declared.node.NodeId.TheVariants.{Shard, Router}
use Rattle.cluster_core.specs.Nodes.{Nodes}
use Rattle.play_steps.specs.declared.want.Want.{Want}
use Rattle.play_steps.specs.declared.want.Want.TheVariants as want
use Rattle.std.proofs.lemmas.List.{length-map}
use Rattle.play_steps.specs.Player.{Player, first_player}
use Rattle.cluster_play.specs.declared.status.Status.{Status}
use Rattle.cluster_play.specs.declared.status.Status.TheVariants as status
use Rattle.cluster_play.specs.declared.stop.Cut.TheVariants as cuts
use Rattle.cluster_play.specs.declared.stop.Stop.{Stop}
use Rattle.cluster_play.specs.declared.stop.Stop.TheVariants as stop
use Rattle.cluster_play.specs.Schedule.{Schedule, is_memory, schedule_of, player_of}
use Rattle.cluster_play.specs.Ended.{place_of, AreStarted, Written, Over, Ended}
use Rattle.cluster_play.specs.Steps.{status_at, PlaysUpTo, PlayStops, status_of, status_behind}
use Rattle.cluster_play.specs.Steps.{EndedOver, IsStartErr, IsFrontErr, Leaves, RoseAt, HasAll}
use Rattle.cluster_play.proofs.Turns.{written_cut}

-- the status that ends a playing says what was written
ended_at : (told : Type 0) (chunks : Map) (p : Player) (start : Nodes)
    (held held' : Option (List ℕ)) (last : Want) (s : Status) → status_at last ≡ Some s
    → Written told chunks last p start held held' → EndedOver told chunks p start held held' s
ended_at told chunks p start held held' want.End s is w = let same : status.Ok ≡ s = cc in
    subst (EndedOver told chunks p start held held') same w
ended_at told chunks p start held held' (want.Bad line) s is w = let same : status.BadLine line
    ≡ s = cc in subst (EndedOver told chunks p start held held') same w
ended_at told chunks p start held held' want.Spent s is w = let same : status.Budget ≡ s = cc in
    subst (EndedOver told chunks p start held held') same w
ended_at told chunks p start held held' (want.Event node happening) s is w = cc
ended_at told chunks p start held held' (want.Deliver number) s is w = cc
ended_at told chunks p start held held' (want.Renew node) s is w = cc

lone_at : (told : Type 0) (chunks : Map) (p : Player) (start : Nodes) (held held' : Option (List ℕ))
    (node : NodeId) (e : NodeErr) → Written told chunks (want.Renew node) p start held held'
    → EndedOver told chunks p start held held' (status_of e (place_of node))
lone_at told chunks p start held held' node error.DiskFault w = (node, refl, w)
lone_at told chunks p start held held' node (error.BadJournal index) w = (node, refl, w)
lone_at told chunks p start held held' node error.Memory w =
    written_cut told chunks (want.Renew node) p start held held' w

pub played_over : {D : Type 0} (told : Type 0) (chunks : Map) (p : Player) (start : Nodes)
    (held held' : Option (List ℕ)) (r : Result Status (Stop D))
    → IfOk r (PlaysUpTo told chunks p start held held')
    → IfErr r (PlayStops told chunks p start held held')
    → EndedOver told chunks p start held held' (status_behind r)
played_over told chunks p start held held' (Ok s) h stops =
    ended_at told chunks p start held held' h.last s h.ends h.written
played_over told chunks p start held held' (Err (stop.Cut cuts.WriteFault)) h stops = stops
played_over told chunks p start held held' (Err (stop.Cut cuts.Memory)) h stops = stops
played_over told chunks p start held held' (Err (stop.Lone node error disk)) h stops =
    lone_at told chunks p start held held' node error stops

over : (told : Type 0) (P : Schedule → Nodes → Type 0) (lines : List (List ℕ)) (s : Schedule)
    (start : Nodes) → schedule_of lines ≡ Ok s → AreStarted told s.conf start → P s start
    → Over told P lines
over told P lines s start reads started played =
    record { schedule = s; reads = reads; start = start; started = started; played = played }

-- over the nodes of a schedule
pub ended_over : (told : Type 0) (lines : List (List ℕ)) (s : Schedule) (start : Nodes)
    (held held' : Option (List ℕ)) (end : Status)
    → schedule_of lines ≡ Ok s → AreStarted told s.conf start
    → EndedOver told s.conf.map (player_of s) start held held' end
    → Ended told lines held held' end
ended_over told lines s start held held' status.Ok reads started h =
    over told _ lines s start reads started h
ended_over told lines s start held held' (status.BadLine line) reads started h =
    inr (over told _ lines s start reads started h)
ended_over told lines s start held held' status.Budget reads started h =
    over told _ lines s start reads started h
ended_over told lines s start held held' status.BadConf reads started h = absurd h
ended_over told lines s start held held' (status.DiskFault disk) reads started h =
    inr (h.0, h.1, over told _ lines s start reads started h.2)
ended_over told lines s start held held' (status.BadJournal disk index) reads started h =
    inr (h.0, h.1, over told _ lines s start reads started h.2)
ended_over told lines s start held held' status.WriteFault reads started h =
    over told _ lines s start reads started h
ended_over told lines s start held held' status.Memory reads started h =
    inr (over told _ lines s start reads started h)
ended_over told lines s start held held' status.ReadFault reads started h = absurd h

-- the nodes don't start
pub ended_before : (told : Type 0) (lines : List (List ℕ)) (s : Schedule)
    (held : Option (List ℕ)) (end : Status) → schedule_of lines ≡ Ok s → IsStartErr s.conf end
    → Ended told lines held held end
ended_before told lines s held (status.DiskFault disk) reads h = inl (s, reads, h, refl)
ended_before told lines s held (status.BadJournal disk index) reads h = inl (s, reads, h, refl)
ended_before told lines s held status.Memory reads h = inl refl
ended_before told lines s held status.Ok reads h = absurd h
ended_before told lines s held (status.BadLine line) reads h = absurd h
ended_before told lines s held status.Budget reads h = absurd h
ended_before told lines s held status.BadConf reads h = absurd h
ended_before told lines s held status.WriteFault reads h = absurd h
ended_before told lines s held status.ReadFault reads h = absurd h

-- the lines are no schedule
pub ended_first : (told : Type 0) (lines : List (List ℕ)) (held : Option (List ℕ)) (end : Status)
    → IsFrontErr end → outcome.Refuses is_memory end (schedule_of lines)
    → Ended told lines held held end
ended_first told lines held (status.BadLine line) h refuses = inl (refuses, refl)
ended_first told lines held status.BadConf h refuses = (refuses, refl)
ended_first told lines held status.Memory h refuses = inl refl
ended_first told lines held status.Ok h refuses = absurd h
ended_first told lines held (status.DiskFault disk) h refuses = absurd h
ended_first told lines held (status.BadJournal disk index) h refuses = absurd h
ended_first told lines held status.Budget h refuses = absurd h
ended_first told lines held status.WriteFault h refuses = absurd h
ended_first told lines held status.ReadFault h refuses = absurd h

-- all disks are there after a playing
pub has_all : {D : Type 0} (r : Result Status (Stop D)) (old new : Nodes) (disks shards routers : ℕ)
    → Leaves r old new → shards ≡ length new.shards → routers ≡ length new.routers
    → disks + length old.shards + length old.routers ≡ 24 → length old.shards ≤ 16
    → length old.routers ≤ 8 → HasAll r disks shards routers
has_all (Ok s) old new disks shards routers left a b all few more =
    (omega (arith, left.shards, left.routers, a, b, all), omega (arith, left.routers, b, more))
has_all (Err (stop.Cut cut)) old new disks shards routers left a b all few more =
    (omega (arith, left.shards, left.routers, a, b, all), omega (arith, left.routers, b, more))
has_all (Err (stop.Lone (Shard n) error disk)) old new disks shards routers left a b all few more = (
  omega (arith, left.1.0, left.1.1, a, b, all),
  (omega (arith, left.0, few), omega (arith, left.1.1, b, more)),
)
has_all (Err (stop.Lone (Router n) error disk)) old new disks shards routers left a b all few more = (
  omega (arith, left.1.0, left.1.1, a, b, all),
  (omega (arith, left.0, more), omega (arith, left.1.1, b, more)),
)

-- how many nodes there are
pub count_of : {A B : Type 0} (f : A → B) (xs : List A) (ys : List B) (n : ℕ) → n ≡ length xs
    → map f xs ≡ ys → n ≡ length ys
count_of {A} {B} f xs ys n is all = is ∙ sym (length-map xs f) ∙ ap (λ (l : List B). length l) all

-- over the schedule of a front
pub front_at : (told : Type 0) (s : Schedule) (start : Nodes) (held held' : Option (List ℕ))
    (end : Status) (chunks : Map) (p : Player) (shards routers : ℕ) → chunks ≡ s.conf.map
    → p ≡ first_player shards routers s.taken s.lines → shards ≡ s.conf.shards
    → routers ≡ s.conf.routers → EndedOver told chunks p start held held' end
    → EndedOver told s.conf.map (player_of s) start held held' end
front_at told s start held held' end chunks p shards routers map_is is shards_is routers_is h =
    let same : p ≡ player_of s = is ∙ ap (λ (n : ℕ). first_player n routers s.taken s.lines)
    shards_is ∙ ap (λ (n : ℕ). first_player s.conf.shards n s.taken s.lines) routers_is in
    let at_map : EndedOver told s.conf.map p start held held' end =
    subst (λ (m : Map). EndedOver told m p start held held' end) map_is h in
    subst (λ (x : Player). EndedOver told s.conf.map x start held held' end) same at_map

pub front_over : (told : Type 0) (lines : List (List ℕ)) (s : Schedule) (start : Nodes)
    (held held' : Option (List ℕ)) (end : Status) (chunks : Map) (p : Player) (shards routers : ℕ)
    → schedule_of lines ≡ Ok s → AreStarted told s.conf start → chunks ≡ s.conf.map
    → p ≡ first_player shards routers s.taken s.lines → shards ≡ s.conf.shards
    → routers ≡ s.conf.routers
    → EndedOver told chunks p start held held' end → Ended told lines held held' end
front_over told lines s start held held' end chunks p shards routers reads started map_is is
    shards_is routers_is h = ended_over told lines s start held held' end reads started
    (front_at told s start held held' end chunks p shards routers map_is is shards_is routers_is h)

ends_not : (w : Want) → status_at w ≡ Some status.WriteFault → ⊥
ends_not want.End is = cc
ends_not (want.Bad line) is = cc
ends_not want.Spent is = cc
ends_not (want.Event node happening) is = cc
ends_not (want.Deliver number) is = cc
ends_not (want.Renew node) is = cc

lone_not : (e : NodeErr) (place : ℕ) → status_of e place ≡ status.WriteFault → ⊥
lone_not error.DiskFault place is = cc
lone_not (error.BadJournal index) place is = cc
lone_not error.Memory place is = cc

-- the sink's fault is answered only where it counted one
pub fault_at : {D : Type 0} (told : Type 0) (chunks : Map) (p : Player) (start : Nodes)
    (held held' : Option (List ℕ)) (r : Result Status (Stop D)) (before now : ℕ)
    → IfOk r (PlaysUpTo told chunks p start held held') → IfErr r (RoseAt before now)
    → status_behind r ≡ status.WriteFault → Rose before now
fault_at told chunks p start held held' (Ok s) before now h rose is =
    absurd (ends_not h.last (h.ends ∙ ap (λ (x : Status). Some x) is))
fault_at told chunks p start held held' (Err (stop.Cut cuts.WriteFault)) before now h rose is = rose
fault_at told chunks p start held held' (Err (stop.Cut cuts.Memory)) before now h rose is = cc
fault_at told chunks p start held held' (Err (stop.Lone node error disk)) before now h rose is =
    absurd (lone_not error (place_of node) is)
