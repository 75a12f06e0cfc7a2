-- What is left of lines of clients that can all be played.
use Rattle.std.proofs.Common.{◌≡◌, ℕ, zero, suc, List, [], ◌∷◌, Option, Some, inl, inr, refl, sym}
use Rattle.std.proofs.Common.{ap, subst, ◌∙◌}
use Rattle.std.specs.Prelude.{slice_get, unwrap_or}
use Rattle.play_script.specs.Lines.{Asked, Asks}
use Rattle.cluster_play.specs.declared.status.Status.{Status as Ending}
use Rattle.cluster_play.specs.declared.status.Status.TheVariants as ending
use Rattle.cluster_play.specs.Ended.{Ended}
use Rattle.course_laws.specs.Clients.{AllAsk, IsPlayable, FirstBadLine, JudgedBy}
use Rattle.mtx.specs.declared.status.Status.{Status}
use Rattle.mtx.specs.declared.status.Status.TheVariants as status
use Rattle.mtx.specs.Ending.{IsLeft}
use Rattle.mtx.specs.Statuses.{status_of}

-- where each line asks something, so does the one at a place
asks_at : (lines : List (List ℕ)) → AllAsk lines → (k : ℕ) (line : List ℕ)
    → slice_get lines k ≡ Some line → (a : Asked) × Asks line a
asks_at [] all k line there = cc
asks_at (l ∷ lines) all zero line there =
    subst (λ (x : List ℕ). (a : Asked) × Asks x a)
    (ap (λ (o : Option (List ℕ)). unwrap_or o l) there) all.0
asks_at (l ∷ lines) all (suc k) line there = asks_at lines all.1 k line there

playable_not_bad : (number : ℕ) (lines : List (List ℕ)) → IsPlayable lines
    → FirstBadLine number lines → ⊥
playable_not_bad number lines q p =
    let found = asks_at lines q.ask p.before p.line p.there in p.bad found.0 found.1

left_of : (told : Type 0) (lines : List (List ℕ)) (held held' : Option (List ℕ)) (e : Ending)
    (w : Ended told lines held held' e) → IsPlayable lines → JudgedBy told lines held held' e w
    → (status_of e ≡ status.ReadFault → ⊥) → (status_of e ≡ status.WriteFault → ⊥)
    → IsLeft (status_of e)
left_of told lines held held' ending.Ok w playable judged no_read no_write = tt
left_of told lines held held' (ending.BadLine n) (inl refused) playable judged no_read no_write =
    absurd judged
left_of told lines held held' (ending.BadLine n) (inr w) playable judged no_read no_write =
    absurd (playable_not_bad n lines playable judged)
left_of told lines held held' ending.Budget w playable judged no_read no_write = tt
left_of told lines held held' ending.BadConf w playable judged no_read no_write = absurd judged
left_of told lines held held' (ending.DiskFault d) w playable judged no_read no_write = tt
left_of told lines held held' (ending.BadJournal d i) w playable judged no_read no_write = tt
left_of told lines held held' ending.WriteFault w playable judged no_read no_write =
    absurd (no_write refl)
left_of told lines held held' ending.Memory w playable judged no_read no_write = tt
left_of told lines held held' ending.ReadFault w playable judged no_read no_write =
    absurd (no_read refl)

pub only_left : (told : Type 0) (lines : List (List ℕ)) (held held' : Option (List ℕ)) (s : Status)
    (e : Ending) (w : Ended told lines held held' e) → s ≡ status_of e → IsPlayable lines
    → JudgedBy told lines held held' e w → (s ≡ status.ReadFault → ⊥)
    → (s ≡ status.WriteFault → ⊥) → IsLeft s
only_left told lines held held' s e w is playable judged no_read no_write =
    subst IsLeft (sym is) (left_of told lines held held' e w playable judged
    (λ same. no_read (is ∙ same)) (λ same. no_write (is ∙ same)))
