-- What was read is played.
use Rattle.std.proofs.Common.{◌≡◌, ◌∙◌, ap, subst, ℕ, List, [], ◌++◌, Option, Some, None, IfSome, inl}
use Rattle.outcomes.specs.Told.{WhereKnown}
use Rattle.play_script.specs.Input.{IsInput}
use Rattle.play_script.specs.Lines.{lines_of}
use Rattle.play_script.specs.declared.input.End.{End}
use Rattle.cluster_play.specs.declared.status.Status.{Status}
use Rattle.cluster_play.specs.Ended.{Ended}
use Rattle.cluster_play.specs.Schedule.{bytes_played}
use Rattle.mtx_durable.specs.Play.{IsPlayed}

pub played_as_read : (told : Type 0) (left : Option (List ℕ)) (bytes : List ℕ) (end : End)
    (held held' : Option (List ℕ)) (s : Status) → WhereKnown left (λ input. IsInput input bytes end)
    → Ended told (lines_of (bytes_played bytes end)) held held' s
    → WhereKnown left (λ input. IsPlayed told input held held' s)
played_as_read told None bytes end held held' s is ended = tt
played_as_read told (Some input) bytes end held held' s is ended =
    inl (record { bytes = bytes; end = end; read = is; ended = ended })

-- What a reader gave is what was played.
pub played_as_given : (told : Type 0) (given held held' : Option (List ℕ)) (left bytes front : List ℕ)
    (s : Status) → left ≡ bytes → front ≡ []
    → IfSome given (λ (input : List ℕ). bytes ≡ front ++ input) → IsPlayed told left held held' s
    → WhereKnown given (λ input. IsPlayed told input held held' s)
played_as_given told None held held' left bytes front s same none is played = tt
played_as_given told (Some input) held held' left bytes front s same none is played =
    subst (λ (l : List ℕ). IsPlayed told l held held' s)
    (same ∙ is ∙ ap (λ (l : List ℕ). l ++ input) none) played
