-- Sums of numbers that fit, and of those that don't.
use Rattle.std.proofs.Common.{◌≡◌, ◌<◌, ◌≤◌, ◌^◌, ◌&&◌, true, Ok, Err, ℤ, pos, negsuc, ap, ◌∙◌}
use Rattle.std.proofs.Common.{arith, if◌then◌else◌}
use Rattle.std.proofs.lemmas.Bool.{lt-leb, le-leb}
use Rattle.std.specs.Int.{w32, w64}
use Rattle.std.specs.Prelude.{FitsSigned}
use Rattle.bson_core.specs.declared.value.Value.TheVariants.{Int, Long}
use Rattle.txn_types.specs.declared.operation.What.TheVariants.{Overflow}
use Rattle.txn_semantics.specs.Updates.{long_of, int_of}

pub long_fits : (z : ℤ) → FitsSigned w64 z → long_of z ≡ Ok (Long z)
long_fits (pos n) h = let le : n ≤ 9223372036854775807 = omega (arith, h.sfits) in
    ap (λ b. if b then Ok (Long (pos n)) else Err Overflow) (le-leb n 9223372036854775807 le)
long_fits (negsuc n) h = let le : n ≤ 9223372036854775807 = omega (arith, h.sfits) in ap (λ b.
    if (b && true) then Ok (Long (negsuc n)) else Err Overflow) (le-leb n 9223372036854775807 le)

pub long_over : (z : ℤ) → (FitsSigned w64 z → ⊥) → long_of z ≡ Err Overflow
long_over (pos n) h =
    let out : n < 2 ^ 63 → ⊥ = λ lt. h (record { sfits = lt }) in
    let lt : 9223372036854775807 < n = omega (arith, out) in
    ap (λ b. if b then Ok (Long (pos n)) else Err Overflow) (lt-leb n 9223372036854775807 lt)
long_over (negsuc n) h =
    let out : n < 2 ^ 63 → ⊥ = λ lt. h (record { sfits = lt }) in
    let lt : 9223372036854775807 < n = omega (arith, out) in
    ap (λ b. if (b && true) then Ok (Long (negsuc n)) else Err Overflow)
    (lt-leb n 9223372036854775807 lt)

pub int_fits : (z : ℤ) → FitsSigned w32 z → int_of z ≡ Ok (Int z)
int_fits (pos n) h = let le : n ≤ 2147483647 = omega (arith, h.sfits) in
    ap (λ b. if b then Ok (Int (pos n)) else long_of (pos n)) (le-leb n 2147483647 le)
int_fits (negsuc n) h = let le : n ≤ 2147483647 = omega (arith, h.sfits) in ap (λ b. if (b && true)
    then Ok (Int (negsuc n)) else long_of (negsuc n)) (le-leb n 2147483647 le)

pub int_over : (z : ℤ) → (FitsSigned w32 z → ⊥) → FitsSigned w64 z → int_of z ≡ Ok (Long z)
int_over (pos n) h g =
    let out : n < 2 ^ 31 → ⊥ = λ lt. h (record { sfits = lt }) in
    let lt : 2147483647 < n = omega (arith, out) in
    ap (λ b. if b then Ok (Int (pos n)) else long_of (pos n)) (lt-leb n 2147483647 lt)
    ∙ long_fits (pos n) g
int_over (negsuc n) h g =
    let out : n < 2 ^ 31 → ⊥ = λ lt. h (record { sfits = lt }) in
    let lt : 2147483647 < n = omega (arith, out) in
    ap (λ b. if (b && true) then Ok (Int (negsuc n))
    else long_of (negsuc n)) (lt-leb n 2147483647 lt) ∙ long_fits (negsuc n) g
