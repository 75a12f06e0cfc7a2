-- What of the text was written.
use Rattle.std.proofs.Common.{◌≡◌, ◌≤◌, ℕ, ◌+◌, List, ◌++◌, length, take, Option, Some, None, refl}
use Rattle.std.proofs.Common.{sym, ap, subst, ◌∙◌, append_assoc, arith, length-append}
use Rattle.std.proofs.Math.Seq.{take-length, take-append-add}
use Rattle.outside_core.specs.Bytes.{Went, WentInPart}
use Rattle.outside_core.proofs.Steps.{went_more, went_none}

pub part_none : (held : Option (List ℕ)) (bytes : List ℕ) → WentInPart held held bytes
part_none held bytes = (0, omega arith, went_none held)

pub part_all : (held held' : Option (List ℕ)) (bytes : List ℕ) → Went held held' bytes
    → WentInPart held held' bytes
part_all held held' bytes went = (
  length bytes,
  omega arith,
  subst (λ (l : List ℕ). Went held held' l) (sym (take-length bytes)) went,
)

pub part_same : (held held' : Option (List ℕ)) (bytes : List ℕ) → held' ≡ held
    → WentInPart held held' bytes
part_same held held' bytes same =
    subst (λ (h : Option (List ℕ)). WentInPart held h bytes) (sym same) (part_none held bytes)

-- what went in two parts
pub went_parts : (held held' : Option (List ℕ)) (xs ys : List ℕ) → Went held held' (xs ++ ys)
    → (between : Option (List ℕ)) × Went held between xs × Went between held' ys
went_parts None held' xs ys went = (None, refl, went)
went_parts (Some bytes) held' xs ys went =
    (Some (bytes ++ xs), refl, went ∙ ap (λ (l : List ℕ). Some l) (sym (append_assoc bytes xs ys)))

-- all of one text, and a front of the next
pub part_more : (held mid held' : Option (List ℕ)) (xs ys : List ℕ) → Went held mid xs
    → WentInPart mid held' ys → WentInPart held held' (xs ++ ys)
part_more held mid held' xs ys went part =
    let long : length xs + part.0 ≤ length (xs ++ ys) =
    omega (arith, length-append xs ys, part.1) in (
      length xs + part.0,
      long,
      subst (λ (l : List ℕ). Went held held' l) (sym (take-append-add xs ys part.0))
          (went_more held mid held' xs (take part.0 ys) went part.2),
    )
