-- What the program does: the schedule that was read is played over a cluster.
use Rattle.std.specs.Prelude.{◌≡◌, ◌⊎◌, ℕ, List, Option}
use Rattle.play_script.specs.Input.{IsInput}
use Rattle.play_script.specs.Lines.{lines_of}
use Rattle.play_script.specs.declared.input.End.{End}
use Rattle.cluster_play.specs.declared.status.Status.{Status}
use Rattle.cluster_play.specs.declared.status.Status.TheVariants.{ReadFault, Memory}
use Rattle.cluster_play.specs.Ended.{Ended}
use Rattle.cluster_play.specs.Schedule.{bytes_played}

-- what was read of the input was played, and ended so
pub record PlayedAsRead (told : Type 0) (input : List ℕ) (held held' : Option (List ℕ))
    (s : Status) : Type 0 where
  pub bytes : List ℕ
  pub end : End
  pub read : IsInput input bytes end
  pub ended : Ended told (lines_of (bytes_played bytes end)) held held' s

-- it was played; or it couldn't be read, and nothing was written
abbrev pub IsPlayed : Type 0 → List ℕ → Option (List ℕ) → Option (List ℕ) → Status → Type 0
IsPlayed told input held held' s = PlayedAsRead told input held held' s
    ⊎ (((s ≡ ReadFault) ⊎ (s ≡ Memory)) × (held' ≡ held))
