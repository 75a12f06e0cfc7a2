-- What is told of digits that are no bytes.
use Rattle.std.proofs.Common.{◌≡◌, ℕ, Bool, false, List, length, Result, Err, inl, inr, ap, sym}
use Rattle.std.proofs.Common.{subst, ◌∙◌}
use Rattle.std.specs.Prelude.{◌⊎◌, if◌then◌else◌, ◌==◌}
use Rattle.outcomes.specs.Outcome.{Refuses}
use Rattle.hex.specs.Hex.{decode_of}
use Rattle.hex.specs.declared.error.FromHexError.{FromHexError}
use Rattle.hex.specs.declared.error.FromHexError.TheVariants.{InvalidHexCharacter, OddLength}
use Rattle.hex.specs.declared.error.FromHexError.TheVariants.{InvalidStringLength, OutOfMemory}
use Rattle.play_script.specs.declared.line.LineErr.{LineErr}
use Rattle.play_script.specs.declared.line.LineErr.TheVariants.{Hex}
use Rattle.play_script.specs.Lines.{is_memory, told_of, decoded, bytes_in}

told_hex : (why : FromHexError) (defined : Result (List ℕ) LineErr) → defined ≡ Err Hex
    → Refuses is_memory (told_of why) defined
told_hex (InvalidHexCharacter c index) defined is = is
told_hex OddLength defined is = is
told_hex InvalidStringLength defined is = is
told_hex OutOfMemory defined is = tt

pub refused : (digits : List ℕ) (why : FromHexError) → (length digits == 0) ≡ false
    → (why ≡ OutOfMemory) ⊎ (decode_of digits ≡ Err why)
    → Refuses is_memory (told_of why) (bytes_in digits)
refused digits why some (inl memory) =
    subst (λ (w : FromHexError). Refuses is_memory (told_of w) (bytes_in digits)) (sym memory) tt
refused digits why some (inr bad) =
    told_hex why (bytes_in digits)
    (ap (λ (b : Bool). if b then Err Hex else decoded (decode_of digits)) some ∙ ap decoded bad)
