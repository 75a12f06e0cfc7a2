-- What escaping leaves as it is.
use Rattle.std.proofs.Common.{◌≡◌, ◌≢◌, ℕ, ◌<◌, ◌≤◌, List, [], ◌∷◌, length, get_or, arith, refl}
use Rattle.std.proofs.Common.{suc, sym, ◌∙◌}
use Rattle.std.specs.Char.{encode_utf8}
use Rattle.std.specs.List.{flat_map}
use Rattle.std.proofs.lemmas.List.{append-nil}
use Rattle.std.proofs.lemmas.Str.{inside_one}
use Rattle.std.proofs.lemmas.Bool.Decides.{nat_tests}
use Rattle.bson_text.specs.Text.{escaped}

-- the byte needs no escape
record IsPlain (b : ℕ) : Type 0 where
  printable : 32 ≤ b
  no_quote : b ≢ 34
  no_backslash : b ≢ 92

escaped_plain : (b : ℕ) → IsPlain b → escaped b ≡ b ∷ []
escaped_plain b plain = grind (arith, nat_tests)

escaped_all_plain : (bytes : List ℕ) → ((k : ℕ) → k < length bytes → IsPlain (get_or bytes k 0))
    → flat_map escaped bytes ≡ bytes
escaped_all_plain [] plain = refl
escaped_all_plain (b ∷ bytes) plain = rw (
  escaped_plain b (plain 0 (omega arith)),
  escaped_all_plain bytes (λ k within. plain (suc k) (omega arith)),
)

pub escaped_char : (c : ℕ) → 32 ≤ c → c ≢ 34 → c ≢ 92
    → flat_map escaped (encode_utf8 c) ≡ encode_utf8 c
escaped_char c printable no_quote no_backslash = escaped_all_plain (encode_utf8 c) (λ k within.
    let inside = inside_one c [] (encode_utf8 c) k (sym (append-nil (encode_utf8 c))) within in
    record {
      printable = grind (arith, inside);
      no_quote = λ is. no_quote (inside (omega arith) ∙ is);
      no_backslash = λ is. no_backslash (inside (omega arith) ∙ is);
    })
