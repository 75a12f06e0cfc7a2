-- A journal, as contracts see it.
use Rattle.std.specs.Prelude.{◌≡◌, ◌<◌, ◌≤◌, ◌+◌, ◌^◌, ℕ, Bool, false, IsTrue, List, Result, Ok}
use Rattle.std.specs.Prelude.{Err}
use Rattle.journal_core.specs.declared.error.JournalErr.{JournalErr}
use Rattle.journal_core.specs.Frames.{frames_on}
use Rattle.journal_core.specs.Left.{IsAtRest}

pub record JournalState (D : Type 0) : Type 0 where
  pub disk : D
  -- the payloads that it holds, where the disk tells
  pub frames : List (List ℕ)
  pub count : ℕ
  -- the place of its end gate
  pub end : ℕ
  -- a call of the disk failed, and it takes nothing more
  pub closed : Bool

-- What holds of every journal: its numbers fit, and while it is open its disk is at rest, where it
-- tells.
pub record IsSound (tells : Bool) (seen : List ℕ) (may_leave : List ℕ → Type 0) (count end : ℕ)
    (closed : Bool) : Type 0 where
  pub room : end + 1 < 2 ^ 64
  pub few : count ≤ end
  pub rests : IsTrue tells → closed ≡ false → IsAtRest seen may_leave (frames_on seen) count end

-- the disk of a journal that started, or the one that was given back
abbrev pub disk_of : {D : Type 0} → Result (JournalState D) (JournalErr × D) → D
disk_of (Ok journal) = journal.disk
disk_of (Err refused) = refused.1
