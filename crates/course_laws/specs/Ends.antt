-- How a schedule ends where nothing outside fails.
use Rattle.std.specs.Prelude.{◌≡◌, ◌⊎◌, ℕ, List, [], Option, Some, Err, Ok}
use Rattle.std.proofs.Common.{inl, inr}
use Rattle.txn_model.specs.declared.ran.Ran.{Ran}
use Rattle.cluster_conf.specs.Conf.{Settings}
use Rattle.cluster_core.specs.Nodes.{Nodes}
use Rattle.play_steps.specs.declared.want.Want.{Want}
use Rattle.play_steps.specs.declared.want.Want.TheVariants as want
use Rattle.cluster_play.specs.declared.status.Status.{Status}
use Rattle.cluster_play.specs.declared.status.Status.TheVariants as status
use Rattle.cluster_play.specs.Schedule.{Schedule, schedule_of, player_of}
use Rattle.cluster_play.specs.Plays.{Plays}
use Rattle.cluster_play.specs.Steps.{status_at}
use Rattle.cluster_play.specs.Ended.{AreStarted, Played, Ended}
use Rattle.course_laws.specs.Course.{AreUndisturbed, AreRestored}

-- the schedule that lines are was played over these nodes, undisturbed, to where this status ends
-- it; this is the whole text
pub record ComesTo (told : Type 0) (lines : List (List ℕ)) (start : Nodes) (text : List ℕ)
    (s : Status) : Type 0 where
  pub schedule : Schedule
  pub reads : schedule_of lines ≡ Ok schedule
  pub last : Want
  pub items : List (Option Ran)
  pub behind : Nodes
  pub plays : Plays told schedule.conf.map last (player_of schedule) start items text behind
  pub undisturbed : AreUndisturbed items
  pub ends : status_at last ≡ Some s

-- Over these nodes the lines end with this status, and this is written, where nothing outside
-- fails: they are no schedule, or it was played to there.
abbrev pub Ends : Type 0 → List (List ℕ) → Nodes → List ℕ → Status → Type 0
Ends told lines start text s = ((schedule_of lines ≡ Err s) × (text ≡ []))
    ⊎ ComesTo told lines start text s

-- restarts bring back what stood, where it was played
abbrev pub IsRestored : (told : Type 0) → (lines : List (List ℕ)) → (start : Nodes)
    → (text : List ℕ) → (s : Status) → Ends told lines start text s → Type 0
IsRestored told lines start text s (inl refused) = Unit {0}
IsRestored told lines start text s (inr h) =
    AreRestored told h.schedule.conf.map (player_of h.schedule) start h.items h.plays.front
    h.plays.player h.behind h.plays.turns

-- over these nodes they end with no other status, and nothing else is written
abbrev pub IsOnly : Type 0 → List (List ℕ) → Nodes → List ℕ → Status → Type 0
IsOnly told lines start text s = (other : List ℕ) (status : Status)
    → Ends told lines start other status → (status ≡ s) × (other ≡ text)

-- so over any nodes of the configuration that start on new disks
abbrev pub IsOnlyOnNew : Type 0 → List (List ℕ) → Settings → List ℕ → Status → Type 0
IsOnlyOnNew told lines conf text s = (start : Nodes) → AreStarted told conf start
    → IsOnly told lines start text s

-- Restarts bring back what stood: over one shard always, where disks tell what they hold (`told`).
abbrev pub MayRestart : (told : Type 0) → (lines : List (List ℕ)) → (last : Want)
    → (held held' : Option (List ℕ)) → Played told lines last held held' → Type 0
MayRestart told lines last held held' w = (told × (w.schedule.conf.shards ≡ 1))
    ⊎ AreRestored told w.schedule.conf.map (player_of w.schedule) w.start w.played.items
    w.played.plays.front w.played.plays.player w.played.behind w.played.plays.turns

-- The status of what was played undisturbed, where restarts bring back what stood, is the only one
-- that the schedule has over the nodes that it started from; and where disks tell what they hold,
-- over any that start on new disks.
abbrev pub IsFound : (told : Type 0) → (lines : List (List ℕ)) → (last : Want)
    → (held held' : Option (List ℕ)) → Played told lines last held held' → Status → Type 0
IsFound told lines last held held' w s = AreUndisturbed w.played.items
    → MayRestart told lines last held held' w
    → Ends told lines w.start w.played.text s × IsOnly told lines w.start w.played.text s
    × (told → IsOnlyOnNew told lines w.schedule.conf w.played.text s)

-- lines that are no schedule have one status over any nodes
abbrev pub IsFoundAnywhere : Type 0 → List (List ℕ) → Status → Type 0
IsFoundAnywhere told lines s = (start : Nodes) → Ends told lines start [] s
    × IsOnly told lines start [] s

-- of each status that no failure outside brings
abbrev pub FoundBy : (told : Type 0) → (lines : List (List ℕ)) → (held held' : Option (List ℕ))
    → (s : Status) → Ended told lines held held' s → Type 0
FoundBy told lines held held' status.Ok w = IsFound told lines want.End held held' w status.Ok
FoundBy told lines held held' (status.BadLine line) (inl refused) =
    IsFoundAnywhere told lines (status.BadLine line)
FoundBy told lines held held' (status.BadLine line) (inr w) =
    IsFound told lines (want.Bad line) held held' w (status.BadLine line)
FoundBy told lines held held' status.Budget w =
    IsFound told lines want.Spent held held' w status.Budget
FoundBy told lines held held' status.BadConf w = IsFoundAnywhere told lines status.BadConf
FoundBy told lines held held' (status.DiskFault disk) w = Unit {0}
FoundBy told lines held held' (status.BadJournal disk index) w = Unit {0}
FoundBy told lines held held' status.WriteFault w = Unit {0}
FoundBy told lines held held' status.Memory w = Unit {0}
FoundBy told lines held held' status.ReadFault w = Unit {0}
