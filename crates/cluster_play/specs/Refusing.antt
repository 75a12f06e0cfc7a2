-- Why a node doesn't start at first: its disk failed, or was served before. Until old disks are
-- served, that is one of more than 17 bytes, which are a journal's header.
use Rattle.std.specs.Prelude.{◌≡◌, ◌<◌, ◌≤◌, ◌⊎◌, ◌+◌, ◌-◌, ◌++◌, ℕ, List, length, take, drop, remove}
use Rattle.std.specs.Prelude.{Option, Some, Ok, slice_get, slice_set}
use Rattle.outcomes.specs.Causes.{Rose}
use Rattle.cluster_conf.specs.Conf.{Settings}
use Rattle.record_store.specs.declared.error.NodeErr.{NodeErr}
use Rattle.record_store.specs.declared.error.NodeErr.TheVariants.{DiskFault, BadJournal, Memory}
use Rattle.cluster_play.specs.declared.status.Status.{Status}
use Rattle.cluster_play.specs.declared.status.Status.TheVariants as status
use Rattle.txn_types.specs.declared.node.NodeId.{NodeId}
use Rattle.play_steps.specs.declared.want.Want.TheVariants.{Renew}
use Rattle.cluster_play.specs.Schedule.{Schedule, schedule_of}
use Rattle.cluster_play.specs.Ended.{HasPlace, Played, place_of}
use Rattle.cluster_play.specs.Steps.{status_of}

-- a disk that a node may start from at first, where it tells what it holds
abbrev pub IsYoung : Type 0 → List ℕ → Type 0
IsYoung told file = told → length file ≤ 17

-- why a node doesn't start from a disk, which is handed back: of a disk what it holds is `seen`,
-- and how often it has failed `count`
abbrev pub RefusesFirst : {D : Type 0} → Type 0 → (D → List ℕ) → (D → ℕ) → NodeErr → D → D → Type 0
RefusesFirst told seen count DiskFault before after = Rose (count before) (count after)
RefusesFirst told seen count (BadJournal index) before after =
    told → (index ≡ 0) × (17 < length (seen before))
RefusesFirst told seen count Memory before after = Unit {0}

-- the disk at this place of a list is another one afterwards
pub record Replaced {D : Type 0} (P : D → D → Type 0) (old new : List D) (place : ℕ) : Type 0 where
  pub before : D
  pub after : D
  pub was : slice_get old place ≡ Some before
  pub is : new ≡ slice_set old place after
  pub holds : P before after

-- it was taken out
pub record TakenOut {D : Type 0} (P : D → Type 0) (old new : List D) (place : ℕ) : Type 0 where
  pub disk : D
  pub was : slice_get old place ≡ Some disk
  pub left : new ≡ remove old place
  pub holds : P disk

-- the first of these disks, from a place on, are young
abbrev pub AreYoung : {D : Type 0} → Type 0 → (D → List ℕ) → List D → ℕ → ℕ → Type 0
AreYoung {D} told seen disks from count =
    (n : ℕ) (d : D) → n < count → slice_get disks (from + n) ≡ Some d → IsYoung told (seen d)

-- What is left of disks where shards have started from the first of them, and where routers have
-- from those at a place and after it.

abbrev pub after_shards : {D : Type 0} → List D → ℕ → List D
after_shards disks shards = drop shards disks

abbrev pub after_routers : {D : Type 0} → List D → ℕ → ℕ → List D
after_routers disks place routers = take place disks ++ drop (place + routers) disks

-- the next shard didn't start, or the next router; those before it started from young disks
pub record ShardRefused {D : Type 0} (told : Type 0) (seen : D → List ℕ) (count : D → ℕ)
    (conf : Settings) (started : ℕ) (old new : List D) (s : Status) : Type 0 where
  pub error : NodeErr
  pub one : started < conf.shards
  pub earlier : AreYoung told seen old 0 started
  pub status : s ≡ status_of error started
  pub put_back : Replaced (RefusesFirst told seen count error) (after_shards old started) new 0

pub record RouterRefused {D : Type 0} (told : Type 0) (seen : D → List ℕ) (count : D → ℕ)
    (conf : Settings) (place started : ℕ) (old new : List D) (s : Status) : Type 0 where
  pub error : NodeErr
  pub one : started < conf.routers
  pub earlier : AreYoung told seen old place started
  pub status : s ≡ status_of error (16 + started)
  pub put_back : Replaced (RefusesFirst told seen count error) (after_routers old place started) new
      place

-- Why not all nodes have started: memory; or a shard that didn't, before any router; or a router
-- that didn't, after all shards.
abbrev pub StopsAt : {D : Type 0} → Type 0 → (D → List ℕ) → (D → ℕ) → Settings → ℕ → ℕ → List D
    → List D → Status → Type 0
StopsAt told seen count conf shards routers old new s = (s ≡ status.Memory)
    ⊎ (((routers ≡ 0) × ShardRefused told seen count conf shards old new s)
    ⊎ ((shards ≡ conf.shards) × (shards ≤ 16) × AreYoung told seen old 0 shards
    × RouterRefused told seen count conf (16 - shards) routers (after_shards old shards) new s))

-- the disks at these places are young
abbrev pub YoungAt : {D : Type 0} → Type 0 → (D → List ℕ) → (ℕ → Type 0) → List D → Type 0
YoungAt {D} told seen P disks = (place : ℕ) (d : D) → P place → slice_get disks place ≡ Some d
    → IsYoung told (seen d)

-- a node didn't start from the disk at this place, which is handed back there; those before it were
-- young
pub record RefusedAt {D : Type 0} (told : Type 0) (seen : D → List ℕ) (count : D → ℕ)
    (conf : Settings) (old new : List D) (place : ℕ) (e : NodeErr) : Type 0 where
  pub there : HasPlace conf place
  pub earlier : YoungAt told seen (λ n. HasPlace conf n × (n < place)) old
  pub before : D
  pub after : D
  pub was : slice_get old place ≡ Some before
  pub is : slice_get new place ≡ Some after
  pub refuses : RefusesFirst told seen count e before after

-- why the nodes of a configuration don't start
abbrev pub RefusesStarts : {D : Type 0} → Type 0 → (D → List ℕ) → (D → ℕ) → Settings → List D
    → List D → Status → Type 0
RefusesStarts told seen count conf old new (status.DiskFault place) =
    RefusedAt told seen count conf old new place DiskFault
RefusesStarts told seen count conf old new (status.BadJournal place index) =
    RefusedAt told seen count conf old new place (BadJournal index)
RefusesStarts told seen count conf old new status.Memory = Unit {0}
RefusesStarts told seen count conf old new other = ⊥

-- where they have started, the disk of each is young
abbrev pub AllYoung : {D : Type 0} → Type 0 → (D → List ℕ) → Settings → List D → Type 0
AllYoung told seen conf disks = YoungAt told seen (HasPlace conf) disks

-- What a status says of the disks that were handed in, and are handed back.

-- the nodes of the lines' configuration didn't start
pub record Unstarted {D : Type 0} (told : Type 0) (seen : D → List ℕ) (count : D → ℕ)
    (lines : List (List ℕ)) (old new : List D) (s : Status) : Type 0 where
  pub schedule : Schedule
  pub reads : schedule_of lines ≡ Ok schedule
  pub refuses : RefusesStarts told seen count schedule.conf old new s

-- they did
abbrev pub WereYoung : {D : Type 0} → Type 0 → (D → List ℕ) → List (List ℕ) → List D → Type 0
WereYoung told seen lines old = (s : Schedule) → schedule_of lines ≡ Ok s
    → AllYoung told seen s.conf old

-- they did, and the node whose disk has this place didn't start again
abbrev pub IsLeft : {D : Type 0} → Type 0 → (D → List ℕ) → List (List ℕ) → List D → ℕ
    → Option (List ℕ) → Option (List ℕ) → Type 0
IsLeft told seen lines old place held held' = WereYoung told seen lines old
    × ((node : NodeId) × (place ≡ place_of node) × Played told lines (Renew node) held held')

abbrev pub DisksSay : {D : Type 0} → Type 0 → (D → List ℕ) → (D → ℕ) → List (List ℕ) → List D
    → List D → Option (List ℕ) → Option (List ℕ) → Status → Type 0
DisksSay told seen count lines old new held held' (status.DiskFault place) =
    Unstarted told seen count lines old new (status.DiskFault place)
    ⊎ IsLeft told seen lines old place held held'
DisksSay told seen count lines old new held held' (status.BadJournal place index) =
    Unstarted told seen count lines old new (status.BadJournal place index)
    ⊎ IsLeft told seen lines old place held held'
DisksSay told seen count lines old new held held' status.Memory = Unit {0}
DisksSay told seen count lines old new held held' other = WereYoung told seen lines old
