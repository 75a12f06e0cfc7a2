-- What is read of a line, by its length and its words.
use Rattle.std.proofs.Common.{◌≡◌, ◌≤◌, ◌<◌, ℕ, Bool, true, false, List, [], ◌∷◌, nat_le, eqb}
use Rattle.std.proofs.Common.{length, Result, Ok, Err, refl, ap, sym, ◌∙◌, arith}
use Rattle.std.specs.Prelude.{if◌then◌else◌}
use Rattle.std.specs.List.{slice_split}
use Rattle.play_script.specs.declared.line.Line.{Line}
use Rattle.play_script.specs.declared.line.LineErr.{LineErr}
use Rattle.play_script.specs.declared.line.LineErr.TheVariants.{Form, Hex, Number, Memory}
use Rattle.play_script.specs.Lines.{Gives, words_ask, read_of}

le_true : (n m : ℕ) → n ≤ m → nat_le n m ≡ true
le_true n m h = grind (arith, h)

le_false : (n m : ℕ) → m < n → nat_le n m ≡ false
le_false n m h = grind (arith, h)

pub read_short : (line : List ℕ) (words : List (List ℕ)) → length line ≤ 100000000
    → slice_split (λ b. eqb b 32) line ≡ words → read_of line ≡ words_ask words
unfolding read_of
read_short line words short are =
    ap (λ (b : Bool). if b then words_ask (slice_split (λ (x : ℕ). eqb x 32) line)
    else Err Form) (le_true (length line) 100000000 short) ∙ ap words_ask are

pub read_long : (line : List ℕ) → 100000000 < length line → read_of line ≡ Err Form
unfolding read_of
read_long line long = ap (λ (b : Bool). if b then words_ask (slice_split (λ (x : ℕ). eqb x 32) line)
    else Err Form) (le_false (length line) 100000000 long)

many_ask : (words : List (List ℕ)) → 3 < length words → words_ask words ≡ Err Form
many_ask [] many = absurd (omega arith)
many_ask (a ∷ []) many = absurd (omega arith)
many_ask (a ∷ b ∷ []) many = absurd (omega arith)
many_ask (a ∷ b ∷ c ∷ []) many = absurd (omega arith)
many_ask (a ∷ b ∷ c ∷ d ∷ words) many = refl

pub read_many : (line : List ℕ) → length line ≤ 100000000
    → 3 < length (slice_split (λ b. eqb b 32) line) → read_of line ≡ Err Form
read_many line short many = read_short line _ short refl ∙ many_ask _ many

short_by : (line : List ℕ) (l : Line) (b : Bool) → nat_le (length line) 100000000 ≡ b
    → ◌≡◌ {A = Result Line LineErr} (if b then words_ask (slice_split (λ x. eqb x 32) line)
    else Err Form) (Ok l) → length line ≤ 100000000
short_by line l true is read = grind (arith, is)
short_by line l false is read = cc

-- a line that is read is short
pub short_of : (line : List ℕ) (l : Line) → read_of line ≡ Ok l → length line ≤ 100000000
unfolding read_of
short_of line l read = short_by line l (nat_le (length line) 100000000) refl read

-- what is the defined result gives it
pub gives_same : (r defined : Result Line LineErr) → r ≡ defined → Gives (λ l. l) r defined
gives_same (Ok l) defined is = sym is
gives_same (Err Form) defined is = sym is
gives_same (Err Hex) defined is = sym is
gives_same (Err Number) defined is = sym is
gives_same (Err Memory) defined is = tt
