-- What stands in front once parts were written one after the other, and what stands after a place
-- then.
use Rattle.std.proofs.Common.{◌≡◌, ◌≤◌, ℕ, List, ◌++◌, length, take, drop, ap, sym, subst, ◌∙◌}
use Rattle.std.proofs.Common.{append_assoc}
use Rattle.std.proofs.lemmas.List.{length-take-le}
use Rattle.std.proofs.Math.Seq.{take-length, drop-append_seam}

pub two_put : (start front whole r s a b : List ℕ) → front ≡ start ++ r → whole ≡ front ++ s → r ≡ a
    → s ≡ b → whole ≡ start ++ (a ++ b)
two_put start front whole r s a b e h x y =
    h ∙ ap (λ (xs : List ℕ). xs ++ s) e ∙ append_assoc start r s
    ∙ ap (λ (xs : List ℕ). start ++ (xs ++ s)) x
    ∙ ap (λ (xs : List ℕ). start ++ (a ++ xs)) y

pub three_put : (start front more whole r s t a b d : List ℕ) → front ≡ start ++ r
    → more ≡ front ++ s → whole ≡ more ++ t → r ≡ a → s ≡ b → t ≡ d → whole ≡ start ++ (a ++ b ++ d)
three_put start front more whole r s t a b d e h k x y z =
    k ∙ ap (λ (xs : List ℕ). xs ++ t) (two_put start front more r s a b e h x y)
    ∙ append_assoc start (a ++ b) t
    ∙ ap (λ (xs : List ℕ). start ++ ((a ++ b) ++ xs)) z

-- what was written from a place to the end stands after it
pub written_behind : (n end : ℕ) (old new bytes : List ℕ) → n ≤ length old → length new ≡ end
    → take end new ≡ take n old ++ bytes → drop n new ≡ bytes
written_behind n end old new bytes h e is =
    let whole : new ≡ take n old ++ bytes = sym (take-length new)
    ∙ ap (λ (k : ℕ). take k new) e ∙ is in
    let here : length (take n old) ≡ n = length-take-le n old h in
    rw whole (subst (λ (k : ℕ). drop k (take n old ++ bytes) ≡ bytes) here
    (drop-append_seam (take n old) bytes))
