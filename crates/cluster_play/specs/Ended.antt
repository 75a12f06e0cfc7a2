-- How the playing of a schedule ended, and what was written by then.
use Rattle.std.specs.Prelude.{◌≡◌, ◌<◌, ◌≤◌, ◌⊎◌, ℕ, ◌+◌, List, [], length, Option, Some, Ok}
use Rattle.std.specs.Prelude.{Err, slice_get}
use Rattle.outside_core.specs.Bytes.{Went, WentInPart}
use Rattle.shard_core.specs.NodeStep.{NodeState, started}
use Rattle.chunk_map.specs.Map.{Map}
use Rattle.cluster_conf.specs.Conf.{Settings}
use Rattle.router_state.specs.State.{RouterState, fresh_router}
use Rattle.cluster_core.specs.Nodes.{Nodes}
use Rattle.cluster_core.specs.Trace.{IsFresh}
use Rattle.txn_model.specs.declared.ran.Ran.{Ran}
use Rattle.txn_types.specs.declared.node.NodeId.{NodeId}
use Rattle.txn_types.specs.declared.node.NodeId.TheVariants.{Shard, Router}
use Rattle.play_steps.specs.declared.want.Want.{Want}
use Rattle.play_steps.specs.declared.want.Want.TheVariants.{Renew, End, Bad, Spent}
use Rattle.play_steps.specs.Player.{Player}
use Rattle.cluster_play.specs.declared.status.Status.{Status}
use Rattle.cluster_play.specs.declared.status.Status.TheVariants as status
use Rattle.cluster_play.specs.Schedule.{Schedule, schedule_of, player_of}
use Rattle.cluster_play.specs.Plays.{next_at, Turn, PlaysTo, Plays, IsCalm, IsRun}

-- The nodes of a configuration, each as its start left it. A disk of more than 17 bytes is refused,
-- so where disks tell what they hold each shard starts from no record, and each router at its first
-- boot.
pub record AreStarted (told : Type 0) (conf : Settings) (nodes : Nodes) : Type 0 where
  pub fresh : IsFresh conf.map nodes
  pub new : told → (n : ℕ) (s : NodeState) → slice_get nodes.shards n ≡ Some s
      → (faults : ℕ) × (started n [] faults ≡ Some s)
  pub booted : told → (n : ℕ) (r : RouterState) → slice_get nodes.routers n ≡ Some r
      → r ≡ fresh_router n 1 conf.map
  pub shards : length nodes.shards ≡ conf.shards
  pub routers : length nodes.routers ≡ conf.routers

-- the place of a node's disk among those handed in
abbrev pub place_of : NodeId → ℕ
place_of (Shard n) = n
place_of (Router n) = 16 + n

abbrev pub HasPlace : Settings → ℕ → Type 0
HasPlace conf place = (place < conf.shards) ⊎ ((16 ≤ place) × (place < 16 + conf.routers))

-- The schedule was played up to where `last` comes next, and its whole text up to there was
-- written, and no more. Where no line asks for a restart, that is a run that may happen.
pub record Written (told : Type 0) (chunks : Map) (last : Want) (p : Player) (start : Nodes)
    (held held' : Option (List ℕ)) : Type 0 where
  pub items : List (Option Ran)
  pub text : List ℕ
  pub behind : Nodes
  pub plays : Plays told chunks last p start items text behind
  pub run : IsCalm p → IsRun start items behind
  pub went : Went held held' text

-- the text of a turn, or of what stands in it before what comes next
abbrev pub IsTurnText : Type 0 → Map → Player → Nodes → List ℕ → Type 0
IsTurnText told chunks p nodes text =
    (text ≡ (next_at chunks nodes p).0) ⊎ ((item : Option Ran) × (q : Player) × (behind : Nodes)
    × Turn told chunks (next_at chunks nodes p) nodes item text q behind)

-- of some turns the whole text was written, and of the next one a front of it; the turns are a run
-- likewise
pub record CutShort (told : Type 0) (chunks : Map) (p : Player) (start : Nodes)
    (held held' : Option (List ℕ)) : Type 0 where
  pub items : List (Option Ran)
  pub text : List ℕ
  pub player : Player
  pub nodes : Nodes
  pub turns : PlaysTo told chunks p start items text player nodes
  pub run : IsCalm p → IsRun start items nodes
  pub between : Option (List ℕ)
  pub went : Went held between text
  pub next : List ℕ
  pub is_text : IsTurnText told chunks player nodes next
  pub part : WentInPart between held' next

-- the schedule that lines are, and the nodes that it was played over
pub record Over (told : Type 0) (P : Schedule → Nodes → Type 0)
    (lines : List (List ℕ)) : Type 0 where
  pub schedule : Schedule
  pub reads : schedule_of lines ≡ Ok schedule
  pub start : Nodes
  pub started : AreStarted told schedule.conf start
  pub played : P schedule start

abbrev pub Played : Type 0 → List (List ℕ) → Want → Option (List ℕ) → Option (List ℕ) → Type 0
Played told lines last held held' =
    Over told (λ s start. Written told s.conf.map last (player_of s) start held held') lines

abbrev pub PlayedInPart : Type 0 → List (List ℕ) → Option (List ℕ) → Option (List ℕ) → Type 0
PlayedInPart told lines held held' =
    Over told (λ s start. CutShort told s.conf.map (player_of s) start held held') lines

-- the lines are refused for this reason, and nothing was written
abbrev pub IsRefused : List (List ℕ) → Status → Option (List ℕ) → Option (List ℕ) → Type 0
IsRefused lines why held held' = (schedule_of lines ≡ Err why) × (held' ≡ held)

-- a node didn't start at first, and nothing was written; or not again, and the text up to there was
-- written
abbrev pub IsUnstarted : Type 0 → List (List ℕ) → ℕ → Option (List ℕ) → Option (List ℕ) → Type 0
IsUnstarted told lines place held held' =
    ((s : Schedule) × (schedule_of lines ≡ Ok s) × HasPlace s.conf place × (held' ≡ held))
    ⊎ ((node : NodeId) × (place ≡ place_of node) × Played told lines (Renew node) held held')

-- What each status says of the lines, and of what was written after what the sink held before.
abbrev pub Ended : Type 0 → List (List ℕ) → Option (List ℕ) → Option (List ℕ) → Status → Type 0
Ended told lines held held' status.Ok = Played told lines End held held'
Ended told lines held held' (status.BadLine line) = IsRefused lines (status.BadLine line) held held'
    ⊎ Played told lines (Bad line) held held'
Ended told lines held held' status.Budget = Played told lines Spent held held'
Ended told lines held held' status.BadConf = IsRefused lines status.BadConf held held'
Ended told lines held held' (status.DiskFault disk) = IsUnstarted told lines disk held held'
Ended told lines held held' (status.BadJournal disk index) = IsUnstarted told lines disk held held'
Ended told lines held held' status.WriteFault = PlayedInPart told lines held held'
Ended told lines held held' status.Memory = (held' ≡ held) ⊎ PlayedInPart told lines held held'
Ended told lines held held' status.ReadFault = ⊥
