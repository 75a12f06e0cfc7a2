-- What is written of a number is read again, whatever stands after it.
use Rattle.std.proofs.Common.{◌≡◌, ℕ, ◌^◌, ◌<◌, false, ltb, List, ◌++◌, length, Some, refl, ap, ◌∙◌}
use Rattle.std.proofs.Common.{arith}
use Rattle.std.specs.Int.{Width, w16, w32, w64, to_le_bytes, from_le_bytes}
use Rattle.std.proofs.lemmas.Bool.{le-ltb}
use Rattle.std.proofs.lemmas.List.{take_at, drop_at, length-append}
use Rattle.std.proofs.lemmas.Nat.{from_le_bytes-to_le_bytes_2}
use Rattle.bson_core.specs.Reading.{number_at}
use Rattle.bson_core.proofs.Again.{number32_again, number64_again}

-- these bytes are those of the number
abbrev pub IsNumber : Width → List ℕ → ℕ → Type 0
IsNumber w bytes n = (rest : List ℕ) → number_at w (bytes ++ rest) ≡ Some (n, rest)

two_bytes : (front rest : List ℕ) → length front ≡ 2
    → number_at w16 (front ++ rest) ≡ Some (from_le_bytes w16 front, rest)
unfolding number_at
two_bytes front rest len =
    let long : ltb (length (front ++ rest)) 2 ≡ false =
    le-ltb _ _ (omega (arith, length-append front rest)) in
    rw (long, take_at front rest 2 len, drop_at front rest 2 len) refl

pub number16_again : (n : ℕ) → n < 2 ^ 16 → IsNumber w16 (to_le_bytes w16 n) n
number16_again n lt rest = two_bytes (to_le_bytes w16 n) rest refl
    ∙ ap (λ (m : ℕ). Some (m, rest)) (from_le_bytes-to_le_bytes_2 n lt)

pub wide32 : (n : ℕ) → n < 2 ^ 32 → IsNumber w32 (to_le_bytes w32 n) n
wide32 n lt rest = number32_again n rest lt

pub wide64 : (n : ℕ) → n < 2 ^ 64 → IsNumber w64 (to_le_bytes w64 n) n
wide64 n lt rest = number64_again n rest lt
