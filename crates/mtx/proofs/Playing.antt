-- What was read is played.
use Rattle.std.proofs.Common.{◌≡◌, ℕ, List, [], Option, Some, None, inl, refl, subst}
use Rattle.outcomes.specs.Told.{WhereKnown}
use Rattle.play_script.specs.Input.{AreWhole, IsInput, IsAtEnd}
use Rattle.play_script.specs.Lines.{lines_of}
use Rattle.play_script.specs.declared.input.End.{End}
use Rattle.play_script.specs.declared.input.End.TheVariants.{Whole, LongLine, ManyLines}
use Rattle.cluster_play.specs.declared.status.Status.{Status as Ending}
use Rattle.cluster_play.specs.declared.status.Status.TheVariants as ending
use Rattle.cluster_play.specs.Ended.{Ended}
use Rattle.cluster_play.specs.Schedule.{bytes_played}
use Rattle.course_laws.proofs.Finding.{found_by}
use Rattle.course_laws.proofs.Judging.{judged_by}
use Rattle.played_laws.proofs.Throughout.{right_by}
use Rattle.mtx.specs.declared.status.Status.{Status}
use Rattle.mtx.specs.declared.status.Status.TheVariants as status
use Rattle.mtx.specs.Play.{IsPlayed}
use Rattle.mtx.specs.Statuses.{status_of}

pub played_as_read : (told : Type 0) (left : Option (List ℕ)) (bytes : List ℕ)
    (end : End) (held held' : Option (List ℕ)) (s : Status) (ending : Ending)
    → WhereKnown left (λ input. IsInput input bytes end) → s ≡ status_of ending
    → Ended told (lines_of (bytes_played bytes end)) held held' ending
    → WhereKnown left (λ input. IsPlayed told input held held' s)
played_as_read told None bytes end held held' s ending is same ended = tt
played_as_read told (Some input) bytes end held held' s ending is same ended =
    inl (record {
      bytes = bytes;
      end = end;
      read = is;
      played = record {
        ending = ending;
        status = same;
        ended = ended;
        right = right_by told (lines_of (bytes_played bytes end)) held held' ending ended;
        found = found_by told (lines_of (bytes_played bytes end)) held held' ending ended;
        judged = judged_by told (lines_of (bytes_played bytes end)) held held' ending ended;
      };
    })

-- where the lines that were read are the whole input, nothing is left of it
read_whole : (input bytes : List ℕ) (end : End) → IsInput input bytes end
    → (AreWhole bytes → end ≡ Whole) → end ≡ Whole
read_whole input bytes Whole is whole = refl
read_whole input bytes LongLine is whole = whole is.2
read_whole input bytes ManyLines is whole = whole is.2

pub read_to_end : (left left' : Option (List ℕ)) (bytes : List ℕ) (end : End)
    → WhereKnown left (λ input. IsInput input bytes end)
    → WhereKnown left (λ input. IsAtEnd left' end) → (AreWhole bytes → end ≡ Whole)
    → WhereKnown left (λ input. left' ≡ Some [])
read_to_end None left' bytes end is at whole = tt
read_to_end (Some input) left' bytes end is at whole =
    subst (IsAtEnd left') (read_whole input bytes end is whole) at

pub ends_ok : (e : Ending) → status_of e ≡ status.Ok → e ≡ ending.Ok
ends_ok ending.Ok is = refl
ends_ok (ending.BadLine n) is = cc
ends_ok ending.ReadFault is = cc
ends_ok ending.WriteFault is = cc
ends_ok ending.Memory is = cc
ends_ok (ending.DiskFault d) is = cc
ends_ok (ending.BadJournal d i) is = cc
ends_ok ending.Budget is = cc
ends_ok ending.BadConf is = cc
