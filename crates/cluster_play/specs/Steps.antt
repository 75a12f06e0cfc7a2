-- What stands between the parts of the code: steps, stops, and the nodes that a stop leaves.
use Rattle.std.specs.Prelude.{◌≡◌, ◌≢◌, ◌≤◌, ◌⊎◌, ℕ, ◌+◌, List, [], length, Option, Some, None}
use Rattle.std.specs.Prelude.{Result, Ok, Err}
use Rattle.outcomes.specs.Causes.{Rose}
use Rattle.outside_core.specs.Bytes.{Went, WentInPart}
use Rattle.chunk_map.specs.Map.{Map}
use Rattle.txn_types.specs.declared.event.NodeAnswer.TheVariants as answer
use Rattle.txn_types.specs.declared.node.NodeId.{NodeId}
use Rattle.txn_types.specs.declared.node.NodeId.TheVariants.{Shard, Router}
use Rattle.txn_model.specs.declared.ran.Ran.{Ran}
use Rattle.txn_model.specs.declared.ran.Ran.TheVariants.{Step, Swapped}
use Rattle.cluster_core.specs.Nodes.{Nodes}
use Rattle.cluster_core.specs.Trace.{Happens}
use Rattle.cluster_conf.specs.Conf.{Settings}
use Rattle.node_store.specs.Nodes.{ShardOn}
use Rattle.router_store.specs.Routers.{RouterOn}
use Rattle.record_store.specs.Logged.{DiskRecords}
use Rattle.record_store.specs.declared.error.NodeErr.{NodeErr}
use Rattle.record_store.specs.declared.error.NodeErr.TheVariants as error
use Rattle.cluster_world.specs.World.{HasNode, MayHappen, event_of, AsMany}
use Rattle.cluster_world.specs.declared.event.WorldEvent.{WorldEvent}
use Rattle.play_steps.specs.declared.want.Given.{Given}
use Rattle.play_steps.specs.declared.want.Want.{Want}
use Rattle.play_steps.specs.declared.want.Want.TheVariants as want
use Rattle.play_steps.specs.Player.{Player}
use Rattle.play_steps.specs.Steps.{answer_text, behind_answer}
use Rattle.cluster_play.specs.declared.status.Status.{Status}
use Rattle.cluster_play.specs.declared.status.Status.TheVariants as status
use Rattle.cluster_play.specs.declared.stop.Cut.{Cut}
use Rattle.cluster_play.specs.declared.stop.Cut.TheVariants as cuts
use Rattle.cluster_play.specs.declared.stop.Stop.{Stop}
use Rattle.cluster_play.specs.declared.stop.Stop.TheVariants as stop
use Rattle.cluster_play.specs.Plays.{next_at, Does, Turn}
use Rattle.cluster_play.specs.Starting.{shard_states, router_states, IsLone}
use Rattle.cluster_play.specs.Ended.{place_of, HasPlace, Written, IsTurnText, CutShort}

-- an event came to its node, which took it; or it couldn't come
abbrev pub Comes : Player → Given → WorldEvent → Nodes → Option Ran → List ℕ → Player
    → Nodes → Type 0
Comes p given event nodes None text q behind = (MayHappen nodes event → ⊥) × (text ≡ []) × (q ≡ p)
    × (behind ≡ nodes)
Comes p given event nodes (Some (Step node e a faults)) text q behind =
    (event_of nodes event ≡ Some (node, e)) × (a ≢ answer.Memory)
    × Happens nodes (Step node e a faults) behind × (text ≡ answer_text p given a)
    × (q ≡ behind_answer p given a)
Comes p given event nodes (Some (Swapped node)) text q behind = ⊥

-- the status that ends the playing where this comes next
abbrev pub status_at : Want → Option Status
status_at want.End = Some status.Ok
status_at (want.Bad line) = Some (status.BadLine line)
status_at want.Spent = Some status.Budget
status_at other = None

-- as many nodes as before, but for one
abbrev pub AreAllBut : NodeId → Nodes → Nodes → Type 0
AreAllBut (Shard n) old new = (length new.shards + 1 ≡ length old.shards)
    × (length new.routers ≡ length old.routers)
AreAllBut (Router n) old new = (length new.shards ≡ length old.shards)
    × (length new.routers + 1 ≡ length old.routers)

-- Stops.

-- the nodes that are left after a result
abbrev pub StopLeaves : {D : Type 0} → Stop D → Nodes → Nodes → Type 0
StopLeaves (stop.Cut cut) old new = AsMany old new
StopLeaves (stop.Lone node error disk) old new = HasNode old node × AreAllBut node old new

abbrev pub Leaves : {T D : Type 0} → Result T (Stop D) → Nodes → Nodes → Type 0
Leaves (Ok x) old new = AsMany old new
Leaves (Err s) old new = StopLeaves s old new

-- a sink that failed counts it
abbrev pub RoseAt : {D : Type 0} → ℕ → ℕ → Stop D → Type 0
RoseAt before now (stop.Cut cuts.WriteFault) = Rose before now
RoseAt before now (stop.Cut cuts.Memory) = Unit {0}
RoseAt before now (stop.Lone node error disk) = Unit {0}

-- out of memory, or at a node that was to start again
abbrev pub StopsFor : {D : Type 0} → Want → Stop D → Type 0
StopsFor w (stop.Cut cut) = cut ≡ cuts.Memory
StopsFor w (stop.Lone node error disk) = w ≡ want.Renew node

-- what is wanted was done, and its text written
pub record Acts (told : Type 0) (chunks : Map) (p : Player) (w : Want) (nodes : Nodes)
    (held held' : Option (List ℕ)) (q : Player) (behind : Nodes) : Type 0 where
  pub item : Option Ran
  pub text : List ℕ
  pub does : Does told chunks p w nodes item text q behind
  pub went : Went held held' text

-- it was done, and a front of its text was written
pub record ActsInPart (told : Type 0) (chunks : Map) (p : Player) (w : Want) (nodes : Nodes)
    (held held' : Option (List ℕ)) : Type 0 where
  pub item : Option Ran
  pub text : List ℕ
  pub q : Player
  pub behind : Nodes
  pub does : Does told chunks p w nodes item text q behind
  pub part : WentInPart held held' text

abbrev pub ActStops : {D : Type 0} → Type 0 → Map → Player → Want → Nodes → Option (List ℕ)
    → Option (List ℕ) → Stop D → Type 0
ActStops told chunks p w nodes held held' (stop.Cut cut) = (held' ≡ held)
    ⊎ ActsInPart told chunks p w nodes held held'
ActStops told chunks p w nodes held held' (stop.Lone node error disk) = (w ≡ want.Renew node)
    × (held' ≡ held)

-- a turn was made, or what comes next ends the playing; its text was written
abbrev pub TurnedTo : Type 0 → Map → Player → Nodes → Option (List ℕ) → Option (List ℕ) → Player
    → Nodes → Option Status → Type 0
TurnedTo told chunks p nodes held held' q behind None =
    (item : Option Ran) × (text : List ℕ)
    × Turn told chunks (next_at chunks nodes p) nodes item text q behind × Went held held' text
TurnedTo told chunks p nodes held held' q behind (Some status) =
    (status_at (next_at chunks nodes p).1 ≡ Some status)
    × Went held held' (next_at chunks nodes p).0

abbrev pub TurnStops : {D : Type 0} → Type 0 → Map → Player → Nodes → Option (List ℕ)
    → Option (List ℕ) → Stop D → Type 0
TurnStops told chunks p nodes held held' (stop.Cut cut) = (text : List ℕ)
    × IsTurnText told chunks p nodes text × WentInPart held held' text
TurnStops told chunks p nodes held held' (stop.Lone node error disk) =
    ((next_at chunks nodes p).1 ≡ want.Renew node) × Went held held' (next_at chunks nodes p).0

-- the playing came to where this status ends it
pub record PlaysUpTo (told : Type 0) (chunks : Map) (p : Player) (nodes : Nodes)
    (held held' : Option (List ℕ)) (status : Status) : Type 0 where
  pub last : Want
  pub ends : status_at last ≡ Some status
  pub written : Written told chunks last p nodes held held'

abbrev pub PlayStops : {D : Type 0} → Type 0 → Map → Player → Nodes → Option (List ℕ)
    → Option (List ℕ) → Stop D → Type 0
PlayStops told chunks p nodes held held' (stop.Cut cut) = CutShort told chunks p nodes held held'
PlayStops told chunks p nodes held held' (stop.Lone node error disk) =
    Written told chunks (want.Renew node) p nodes held held'

-- Statuses.

abbrev pub status_cut : Cut → Status
status_cut cuts.WriteFault = status.WriteFault
status_cut cuts.Memory = status.Memory

abbrev pub status_of : NodeErr → ℕ → Status
status_of error.DiskFault place = status.DiskFault place
status_of (error.BadJournal index) place = status.BadJournal place index
status_of error.Memory place = status.Memory

abbrev pub status_behind : {D : Type 0} → Result Status (Stop D) → Status
status_behind (Ok status) = status
status_behind (Err (stop.Cut cut)) = status_cut cut
status_behind (Err (stop.Lone node error disk)) = status_of error (place_of node)

-- how a playing over nodes that have started ended
abbrev pub EndedOver : Type 0 → Map → Player → Nodes → Option (List ℕ) → Option (List ℕ)
    → Status → Type 0
EndedOver told chunks p start held held' status.Ok = Written told chunks want.End p start held held'
EndedOver told chunks p start held held' (status.BadLine line) =
    Written told chunks (want.Bad line) p start held held'
EndedOver told chunks p start held held' status.Budget =
    Written told chunks want.Spent p start held held'
EndedOver told chunks p start held held' status.BadConf = ⊥
EndedOver told chunks p start held held' (status.DiskFault disk) = (node : NodeId)
    × (disk ≡ place_of node) × Written told chunks (want.Renew node) p start held held'
EndedOver told chunks p start held held' (status.BadJournal disk index) = (node : NodeId)
    × (disk ≡ place_of node) × Written told chunks (want.Renew node) p start held held'
EndedOver told chunks p start held held' status.WriteFault = CutShort told chunks p start held held'
EndedOver told chunks p start held held' status.Memory = CutShort told chunks p start held held'
EndedOver told chunks p start held held' status.ReadFault = ⊥

-- why the nodes of a configuration don't start
abbrev pub IsStartErr : Settings → Status → Type 0
IsStartErr conf (status.DiskFault disk) = HasPlace conf disk
IsStartErr conf (status.BadJournal disk index) = HasPlace conf disk
IsStartErr conf status.Memory = Unit {0}
IsStartErr conf other = ⊥

-- why lines are no schedule
abbrev pub IsFrontErr : Status → Type 0
IsFrontErr (status.BadLine line) = Unit {0}
IsFrontErr status.BadConf = Unit {0}
IsFrontErr status.Memory = Unit {0}
IsFrontErr other = ⊥

-- Nodes and their disks.

-- the nodes, before anything was sent
abbrev pub nodes_of : {D : Type 0} → List (ShardOn (DiskRecords D))
    → List (RouterOn (DiskRecords D)) → Nodes
nodes_of shards routers =
    record { shards = shard_states shards; routers = router_states routers; sent = [] }

-- with the disk of a node that didn't start again, where there is one, all disks are there
abbrev pub HasAll : {D : Type 0} → Result Status (Stop D) → ℕ → ℕ → ℕ → Type 0
HasAll (Ok status) disks shards routers = (disks + shards + routers ≡ 24) × (routers ≤ 8)
HasAll (Err (stop.Cut cut)) disks shards routers = (disks + shards + routers ≡ 24) × (routers ≤ 8)
HasAll (Err (stop.Lone node error disk)) disks shards routers = (disks + shards + routers + 1 ≡ 24)
    × IsLone node routers
