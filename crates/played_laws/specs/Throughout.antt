-- That what clients of a cluster are answered is right after every event of what is played,
-- wherever the playing ended: on one shard as a whole, on several as far as it is shown.
use Rattle.std.specs.Prelude.{◌≡◌, ◌⊎◌, ℕ, All, List, [], ◌∷◌, ◌++◌, Option, Some}
use Rattle.std.proofs.Common.{inl, inr}
use Rattle.chunk_map.specs.Map.{Map}
use Rattle.txn_types.specs.declared.node.NodeId.TheVariants.{Shard}
use Rattle.txn_model.specs.declared.ran.Ran.{Ran}
use Rattle.cluster_core.specs.Ledger.{answered_in, all_replied}
use Rattle.cluster_core.specs.Nodes.{Nodes}
use Rattle.cluster_core.specs.Parts.{BootsKnown}
use Rattle.cluster_core.specs.Right.{Right, past_of}
use Rattle.cluster_core.specs.Telling.{ToldRight, told_in}
use Rattle.address_laws.specs.Addresses.{HasNode}
use Rattle.world_laws.specs.Joint.{Stands}
use Rattle.answer_laws.specs.Comes.{IsAnswered}
use Rattle.answer_laws.specs.Opened.{opened_in}
use Rattle.lost_laws.specs.Lost.{LostStands}
use Rattle.making_laws.specs.Made.{AllMade}
use Rattle.play_script.specs.Lines.{line_of}
use Rattle.play_script.specs.declared.line.Line.{Line}
use Rattle.play_script.specs.declared.line.Line.TheVariants as line
use Rattle.play_steps.specs.declared.want.Want.{Want}
use Rattle.play_steps.specs.declared.want.Want.TheVariants as want
use Rattle.play_steps.specs.Player.{Player}
use Rattle.cluster_play.specs.declared.status.Status.{Status}
use Rattle.cluster_play.specs.declared.status.Status.TheVariants as status
use Rattle.cluster_play.specs.Ended.{Ended, IsTurnText, Played, PlayedInPart}
use Rattle.cluster_play.specs.Plays.{IsRun, PlaysTo, ran_of}
use Rattle.cluster_play.specs.Schedule.{Schedule, player_of}
use Rattle.restart_laws.specs.Restarts.{NextFits, RestartsFit}

-- On any number of shards: these items may happen in a cluster, one after the other. Its clocks,
-- records, tags and boots are as the joint invariant says; a shard that tells of another boot
-- isn't in that boot; each message that was sent goes to a node that is there; each statement's
-- answer is what its shards said, and each reply tells that; and each cause that a reply tells was
-- made by a step of the shard that it names.
pub record SoundBehind (chunks : Map) (start : Nodes) (items : List (Option Ran))
    (behind : Nodes) : Type 0 where
  pub run : IsRun start items behind
  pub stands : Stands behind
  pub boots : BootsKnown behind
  pub lost : LostStands behind
  pub there : All (λ e. HasNode behind e.to) behind.sent
  pub answered : All (IsAnswered behind.sent (opened_in start.routers (ran_of items)))
      (answered_in start.routers (ran_of items))
  pub told : ToldRight (answered_in start.routers (ran_of items))
      (all_replied start.routers (ran_of items))
  pub made : AllMade (past_of chunks start (ran_of items) run.0 behind)
      (told_in start.routers (ran_of items))

-- On one shard: these items may happen in a cluster, one after the other; and what clients were
-- answered by then is right against the list of commits as it is then.
pub record RightBehind (chunks : Map) (start : Nodes) (items : List (Option Ran))
    (behind : Nodes) : Type 0 where
  pub run : IsRun start items behind
  pub right : Right chunks start (ran_of items) behind

-- items that were played, in two parts: what was written by then, and the player and the nodes then
pub record PlaysBetween (told : Type 0) (chunks : Map) (p : Player) (start : Nodes)
    (first rest : List (Option Ran)) (text : List ℕ) (q : Player) (behind : Nodes) : Type 0 where
  pub front : List ℕ
  pub more : List ℕ
  pub player : Player
  pub nodes : Nodes
  pub before : PlaysTo told chunks p start first front player nodes
  pub after : PlaysTo told chunks player nodes rest more q behind
  pub is : text ≡ front ++ more

-- it holds behind each front of the items that were played
abbrev pub Throughout : Type 0 → Map → (List (Option Ran) → Nodes → Type 0) → Player → Nodes
    → List (Option Ran) → List ℕ → Player → Nodes → Type 0
Throughout told chunks P p start items text q behind = (first rest : List (Option Ran))
    → items ≡ first ++ rest
    → (b : PlaysBetween told chunks p start first rest text q behind) × P first b.nodes

-- and behind the next one, where a front of its text may have been written
abbrev pub AndNext : (told : Type 0) → (chunks : Map) → (List (Option Ran) → Nodes → Type 0)
    → (items : List (Option Ran)) → (q : Player) → (behind : Nodes) → (text : List ℕ)
    → IsTurnText told chunks q behind text → Type 0
AndNext told chunks P items q behind text (inl none) = Unit {0}
AndNext told chunks P items q behind text (inr next) = P (items ++ next.0 ∷ []) next.2

-- Restarts of shards. On one shard, whose disk tells what it holds, records are always read as they
-- were written. On several it is said where no line asks that a shard starts again, or where each
-- record fits its bytes when its shard does.

abbrev pub AsksNoShard : Option Line → Type 0
AsksNoShard (Some (line.Restart (Shard n))) = ⊥
AsksNoShard other = Unit {0}

abbrev pub HaveNoShardRestart : List (List ℕ) → Type 0
HaveNoShardRestart [] = Unit {0}
HaveNoShardRestart (l ∷ lines) = AsksNoShard (line_of l) × HaveNoShardRestart lines

abbrev pub MayRestart : Schedule → Type 0 → Type 0
MayRestart schedule Fit =
    (schedule.conf.shards ≡ 1) ⊎ (HaveNoShardRestart schedule.lines ⊎ Fit)

-- what is said of a schedule whose disks tell what they hold
abbrev pub IsSaid : Type 0 → Schedule → Nodes → Type 0
    → ((List (Option Ran) → Nodes → Type 0) → Type 0) → Type 0
IsSaid told schedule start Fit Holds = told
    → (MayRestart schedule Fit → Holds (SoundBehind schedule.conf.map start))
    × (schedule.conf.shards ≡ 1 → Holds (RightBehind schedule.conf.map start))

-- what was played up to where `last` comes next
abbrev pub IsRight : (told : Type 0) → (lines : List (List ℕ)) → (last : Want)
    → (held held' : Option (List ℕ)) → Played told lines last held held' → Type 0
IsRight told lines last held held' w = IsSaid told w.schedule w.start
    (RestartsFit told w.schedule.conf.map (player_of w.schedule) w.start w.played.items
    w.played.plays.front w.played.plays.player w.played.behind w.played.plays.turns)
    (λ P. Throughout told w.schedule.conf.map P (player_of w.schedule) w.start w.played.items
    w.played.plays.front w.played.plays.player w.played.behind)

-- what was played where the playing was cut short
abbrev pub IsRightInPart : (told : Type 0) → (lines : List (List ℕ)) → (held held' : Option (List ℕ))
    → PlayedInPart told lines held held' → Type 0
IsRightInPart told lines held held' w = IsSaid told w.schedule w.start
    (RestartsFit told w.schedule.conf.map (player_of w.schedule) w.start w.played.items
    w.played.text w.played.player w.played.nodes w.played.turns
    × NextFits told w.schedule.conf.map w.played.player w.played.nodes w.played.next
    w.played.is_text)
    (λ P. Throughout told w.schedule.conf.map P (player_of w.schedule) w.start w.played.items
    w.played.text w.played.player w.played.nodes
    × AndNext told w.schedule.conf.map P w.played.items w.played.player w.played.nodes
    w.played.next w.played.is_text)

-- By how the playing ended: at the schedule's end, at a line that is bad, at too much, at a node
-- that didn't start again, or cut short. Where nothing was played there is nothing to say.
abbrev pub RightBy : (told : Type 0) → (lines : List (List ℕ)) → (held held' : Option (List ℕ))
    → (ending : Status) → Ended told lines held held' ending → Type 0
RightBy told lines held held' status.Ok w = IsRight told lines want.End held held' w
RightBy told lines held held' (status.BadLine line) (inl refused) = Unit {0}
RightBy told lines held held' (status.BadLine line) (inr w) =
    IsRight told lines (want.Bad line) held held' w
RightBy told lines held held' status.Budget w = IsRight told lines want.Spent held held' w
RightBy told lines held held' status.BadConf w = Unit {0}
RightBy told lines held held' (status.DiskFault disk) (inl unstarted) = Unit {0}
RightBy told lines held held' (status.DiskFault disk) (inr w) =
    IsRight told lines (want.Renew w.0) held held' w.2
RightBy told lines held held' (status.BadJournal disk index) (inl unstarted) = Unit {0}
RightBy told lines held held' (status.BadJournal disk index) (inr w) =
    IsRight told lines (want.Renew w.0) held held' w.2
RightBy told lines held held' status.WriteFault w = IsRightInPart told lines held held' w
RightBy told lines held held' status.Memory (inl none) = Unit {0}
RightBy told lines held held' status.Memory (inr w) = IsRightInPart told lines held held' w
RightBy told lines held held' status.ReadFault w = Unit {0}
