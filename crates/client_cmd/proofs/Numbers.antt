-- A number in two, four and eight bytes, as a reader of bytes gives it and as it is defined.
use Rattle.std.proofs.Common.{◌≡◌, ℕ, List, [], ◌∷◌, length, arith}
use Rattle.byteorder.specs.Endian.{big_number}
use Rattle.client_cmd.specs.Tokens.{number_of_bytes}

pub two_bytes : (bytes : List ℕ) → length bytes ≡ 2 → big_number 2 bytes ≡ number_of_bytes bytes
two_bytes (a ∷ b ∷ []) len = omega arith
two_bytes bytes len = absurd (omega arith)

pub four_bytes : (bytes : List ℕ) → length bytes ≡ 4 → big_number 4 bytes ≡ number_of_bytes bytes
four_bytes (a ∷ b ∷ c ∷ d ∷ []) len = omega arith
four_bytes bytes len = absurd (omega arith)

pub eight_bytes : (bytes : List ℕ) → length bytes ≡ 8 → big_number 8 bytes ≡ number_of_bytes bytes
eight_bytes (a ∷ b ∷ c ∷ d ∷ e ∷ f ∷ g ∷ h ∷ []) len = omega arith
eight_bytes bytes len = absurd (omega arith)
