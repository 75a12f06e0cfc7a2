-- The bytes of numbers, the highest first, as a writer of bytes gives them and as they are defined.
use Rattle.std.proofs.Common.{◌≡◌, ℕ, ◌<◌, ◌^◌, ◌/◌, ◌%◌, List, [], ◌∷◌, refl, arith}
use Rattle.std.specs.Int.{w16, w32, w64, to_be_bytes}
use Rattle.client_reply.specs.Replies.{in_two, in_four, in_eight}

pub two_bytes : (n : ℕ) → to_be_bytes w16 n ≡ in_two n
two_bytes n = refl

pub four_bytes : (n : ℕ) → to_be_bytes w32 n ≡ in_four n
four_bytes n =
    let first : n / 256 ^ 3 % 256 ≡ n / 2 ^ 16 / 256 % 256 = omega arith in
    let second : n / 256 ^ 2 % 256 ≡ n / 2 ^ 16 % 256 = omega arith in
    rw (first, second) refl

pub eight_bytes : (n : ℕ) → to_be_bytes w64 n ≡ in_eight n
eight_bytes n =
    let a : n / 256 ^ 7 % 256 ≡ n / 2 ^ 32 / 2 ^ 16 / 256 % 256 = omega arith in
    let b : n / 256 ^ 6 % 256 ≡ n / 2 ^ 32 / 2 ^ 16 % 256 = omega arith in
    let c : n / 256 ^ 5 % 256 ≡ n / 2 ^ 32 / 256 % 256 = omega arith in
    let d : n / 256 ^ 4 % 256 ≡ n / 2 ^ 32 % 256 = omega arith in
    let e : n / 256 ^ 3 % 256 ≡ n / 2 ^ 16 / 256 % 256 = omega arith in
    let f : n / 256 ^ 2 % 256 ≡ n / 2 ^ 16 % 256 = omega arith in
    rw (a, b, c, d, e, f) refl
