-- What `play` does: the schedule that was read is played over a cluster, what its clients are
-- answered is right, and how it ends is the schedule's own.
use Rattle.std.specs.Prelude.{◌≡◌, ◌⊎◌, ℕ, List, Option}
use Rattle.play_script.specs.Input.{IsInput}
use Rattle.play_script.specs.Lines.{lines_of}
use Rattle.play_script.specs.declared.input.End.{End}
use Rattle.cluster_play.specs.declared.status.Status.{Status as Ending}
use Rattle.cluster_play.specs.Ended.{Ended}
use Rattle.cluster_play.specs.Schedule.{bytes_played}
use Rattle.course_laws.specs.Clients.{AreOfClients, JudgedBy}
use Rattle.course_laws.specs.Ends.{FoundBy}
use Rattle.played_laws.specs.Throughout.{RightBy}
use Rattle.mtx.specs.declared.status.Status.{Status}
use Rattle.mtx.specs.declared.status.Status.TheVariants as status
use Rattle.mtx.specs.Statuses.{status_of}

-- The lines were played over a cluster, which ended so. Where its disks tell what they hold
-- (`told`), what its clients were answered is right after each event: on one shard as a whole, on
-- several as far as it is shown. Where nothing outside failed, the lines have no other status over
-- the nodes that started, nor over any that start on new disks, and no other text. Of lines that
-- are all of clients the status says what they ask.
pub record PlayedOver (told : Type 0) (lines : List (List ℕ)) (held held' : Option (List ℕ))
    (s : Status) : Type 0 where
  pub ending : Ending
  pub status : s ≡ status_of ending
  pub ended : Ended told lines held held' ending
  pub right : RightBy told lines held held' ending ended
  pub found : FoundBy told lines held held' ending ended
  pub judged : AreOfClients lines → JudgedBy told lines held held' ending ended

-- what was read of the input was played
pub record PlayedAsRead (told : Type 0) (input : List ℕ) (held held' : Option (List ℕ))
    (s : Status) : Type 0 where
  pub bytes : List ℕ
  pub end : End
  pub read : IsInput input bytes end
  pub played : PlayedOver told (lines_of (bytes_played bytes end)) held held' s

-- it was played; or it couldn't be read, and nothing was written
abbrev pub IsPlayed : Type 0 → List ℕ → Option (List ℕ) → Option (List ℕ) → Status → Type 0
IsPlayed told input held held' s = PlayedAsRead told input held held' s
    ⊎ (((s ≡ status.ReadFault) ⊎ (s ≡ status.Memory)) × (held' ≡ held))
