-- The least of errors, from the last one on.
use Rattle.std.proofs.Common.{◌≡◌, ℕ, zero, suc, ◌+◌, ◌<◌, List, [], ◌∷◌, length, get_or, drop}
use Rattle.std.proofs.Common.{Option, Some, ap, ◌∙◌, arith, add-one}
use Rattle.txn_types.specs.declared.operation.OpErr.{OpErr}
use Rattle.router_rules.specs.Statements.{lesser_err, least_err}

least_next : (k : ℕ) (errs : List (ℕ × OpErr)) (e : ℕ × OpErr)
    → k < length errs → e ≡ get_or errs k e
    → Some (lesser_err e (least_err (drop (suc k) errs))) ≡ least_err (drop k errs)
least_next k [] e h is = absurd (omega (arith, h))
least_next zero (x ∷ errs) e h is = ap (λ (y : ℕ × OpErr). Some (lesser_err y (least_err errs))) is
least_next (suc k) (x ∷ errs) e h is = least_next k errs e (omega (arith, h)) is

pub least_step : (k j : ℕ) (errs : List (ℕ × OpErr)) (e : ℕ × OpErr) (o : Option (ℕ × OpErr))
    → j ≡ k + 1 → k < length errs → e ≡ get_or errs k e → o ≡ least_err (drop j errs)
    → Some (lesser_err e o) ≡ least_err (drop k errs)
least_step k j errs e o after h is least =
    ap (λ (o : Option (ℕ × OpErr)). Some (lesser_err e o)) (least
    ∙ ap (λ i. least_err (drop i errs)) (after ∙ add-one k)) ∙ least_next k errs e h is
