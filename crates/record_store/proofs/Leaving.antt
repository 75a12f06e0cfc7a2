-- What a crash leaves of a log on a disk.
use Rattle.std.proofs.Common.{◌≡◌, ◌<◌, ◌≤◌, ◌^◌, ℕ, false, List, [], length, Option, Some, None}
use Rattle.std.proofs.Common.{is_some, refl, sym, ◌∙◌, append-nil}
use Rattle.outside_core.specs.Crash.{LeavesOnly}
use Rattle.outside_core.specs.declared.disk.Disk.{Ghosts}
use Rattle.outside_core.proofs.Moments.{then_goes}
use Rattle.journal_core.specs.Left.{Leaves, IsAtRest}
use Rattle.journal_core.specs.Looks.{Looks}
use Rattle.journal_core.proofs.Appends.{begins_leaves}

pub none_of : {A : Type 0} (o : Option A) → is_some o ≡ false → o ≡ None
none_of None h = refl
none_of (Some x) h = absurd cc

-- a journal at rest
pub rest_leaves : (frames : List (List ℕ)) (hand seen : List ℕ) (may_leave : List ℕ
    → Type 0) (count end : ℕ) → IsAtRest seen may_leave frames count end → length hand < 2 ^ 32
    → (c : List ℕ) → may_leave c → Leaves frames hand c
rest_leaves frames hand seen may_leave count end rests fits c now =
    begins_leaves frames hand rests.short fits seen c rests.file
    ([], rests.durable c now ∙ sym (append-nil seen))

module _ {D : Type 0} (d : Ghosts D) where
  -- calls that only look, after a run
  pub looked : (a b c : D) (P : List ℕ → Type 0) → LeavesOnly d.moment d.left_since a b P
      → ((t : ℕ) (f : List ℕ) → t ≤ d.moment b → d.may_leave b f → d.left_since b t f)
      → Looks d.seen d.may_leave d.moment d.left_since b c
      → LeavesOnly d.moment d.left_since a c P
  looked a b c P run law looks =
      then_goes d a b c P (d.may_leave b) P run looks.moments (λ f here. here)
      (λ f now. run.each f (law (d.moment a) f run.later now))
