-- Schedules whose lines are all of clients: what each status says of the lines alone.
use Rattle.std.specs.Prelude.{◌≡◌, ◌≤◌, ◌<◌, ◌⊎◌, ℕ, ◌+◌, Bool, List, [], ◌∷◌, length, take}
use Rattle.std.specs.Prelude.{◌||◌, Option, Some, slice_get, codes, nat_eq, true, false}
use Rattle.std.specs.List.{list_all, starts_with}
use Rattle.std.proofs.Common.{inl, inr}
use Rattle.play_script.specs.Limits.{most_lines}
use Rattle.play_script.specs.Lines.{Asked, Asks, IsBad}
use Rattle.play_steps.specs.Player.{Round, Player}
use Rattle.cluster_play.specs.declared.status.Status.{Status}
use Rattle.cluster_play.specs.declared.status.Status.TheVariants as status
use Rattle.cluster_play.specs.Ended.{Ended}

-- Each line begins as a client's, or is empty: so the one that stands in place of what wasn't read.
abbrev pub is_empty : List ℕ → Bool
is_empty [] = true
is_empty (b ∷ l) = false

abbrev pub is_of_client : List ℕ → Bool
is_of_client l = starts_with nat_eq l (codes "client ") || is_empty l

abbrev pub AreOfClients : List (List ℕ) → Type 0
AreOfClients lines = list_all is_of_client lines ≡ true

-- each of these lines asks something
abbrev pub AllAsk : List (List ℕ) → Type 0
AllAsk [] = Unit {0}
AllAsk (line ∷ lines) = ((asked : Asked) × Asks line asked) × AllAsk lines

-- each line asks something, and there are no more than are played
pub record IsPlayable (lines : List (List ℕ)) : Type 0 where
  pub ask : AllAsk lines
  pub few : length lines ≤ most_lines

-- the first line that asks nothing is this one, counted from 1, and it would be played
pub record FirstBadLine (number : ℕ) (lines : List (List ℕ)) : Type 0 where
  pub before : ℕ
  pub place : number ≡ before + 1
  pub within : number ≤ most_lines
  pub ask : AllAsk (take before lines)
  pub line : List ℕ
  pub there : slice_get lines before ≡ Some line
  pub bad : IsBad line

-- there are more lines than are played, and each that is played asks something
pub record IsOverrun (lines : List (List ℕ)) : Type 0 where
  pub ask : AllAsk (take most_lines lines)
  pub many : most_lines < length lines

-- a settling has delivered the million messages that it may
pub record IsSpent (p : Player) : Type 0 where
  pub round : Round
  pub settles : p.round ≡ Some round
  pub all : 1000000 ≤ round.count

-- what a status says of the lines, where the playing came to this player
abbrev pub JudgesLines : List (List ℕ) → Player → Status → Type 0
JudgesLines lines p status.Ok = IsPlayable lines
JudgesLines lines p (status.BadLine line) = FirstBadLine line lines
JudgesLines lines p status.Budget = IsOverrun lines ⊎ IsSpent p
JudgesLines lines p other = ⊥

-- so the status that a playing ended with
abbrev pub JudgedBy : (told : Type 0) → (lines : List (List ℕ)) → (held held' : Option (List ℕ))
    → (s : Status) → Ended told lines held held' s → Type 0
JudgedBy told lines held held' status.Ok w = JudgesLines lines w.played.plays.player status.Ok
JudgedBy told lines held held' (status.BadLine line) (inl refused) = ⊥
JudgedBy told lines held held' (status.BadLine line) (inr w) =
    JudgesLines lines w.played.plays.player (status.BadLine line)
JudgedBy told lines held held' status.Budget w =
    JudgesLines lines w.played.plays.player status.Budget
JudgedBy told lines held held' status.BadConf w = ⊥
JudgedBy told lines held held' (status.DiskFault disk) w = Unit {0}
JudgedBy told lines held held' (status.BadJournal disk index) w = Unit {0}
JudgedBy told lines held held' status.WriteFault w = Unit {0}
JudgedBy told lines held held' status.Memory w = Unit {0}
JudgedBy told lines held held' status.ReadFault w = Unit {0}
