-- Numbers grow by their digits.
use Rattle.std.proofs.Common.{◌≡◌, ◌≤◌, ◌<◌, ◌+◌, ◌^◌, ◌∙◌, ℕ, false, List, [], ◌∷◌, Some, None}
use Rattle.std.proofs.Common.{length, get_or, drop, drop-cons, add-one, nat_lt, ap, sym, arith}
use Rattle.std.specs.Prelude.{fold, if◌then◌else◌}
use Rattle.std.proofs.lemmas.Grind.{common_steps}
use Rattle.play_script.specs.Lines.{with_digit, value_of}

pub grows : (n : ℕ) (digits : List ℕ) → n ≤ fold with_digit n digits
grows n [] = omega arith
grows n (d ∷ digits) = let more = grows (with_digit n d) digits in omega (arith, more)

-- where it is too large at one digit, it is in the end
pub too_large : (n i : ℕ) (digits : List ℕ) → i < length digits
    → fold with_digit n (drop i digits) ≡ value_of digits
    → (if nat_lt (with_digit n (get_or digits i 0)) (2 ^ 64)
    then Some (with_digit n (get_or digits i 0)) else None) ≡ None
    → nat_lt (value_of digits) (2 ^ 64) ≡ false
too_large n i digits within is none =
    let d = get_or digits i 0 in
    let next : drop i digits ≡ d ∷ drop (i + 1) digits = rw add-one (drop-cons digits i 0 within) in
    let more = grows (with_digit n d) (drop (i + 1) digits) in
    let whole : fold with_digit (with_digit n d) (drop (i + 1) digits) ≡ value_of digits =
    sym (ap (fold with_digit n) next) ∙ is in
    grind (arith, common_steps, more, whole, none)
