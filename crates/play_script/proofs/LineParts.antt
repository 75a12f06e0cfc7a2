-- Laws of the lines of a text.
use Rattle.std.proofs.Common.{◌≡◌, ℕ, suc, ◌<◌, Bool, true, false, cond, eqb, List, [], ◌∷◌, ◌++◌}
use Rattle.std.proofs.Common.{length, inl, inr, refl, ap, sym, ◌∙◌, arith, append_assoc}
use Rattle.std.specs.List.{onto_first}
use Rattle.std.proofs.lemmas.Bool.{ne_eqb}
use Rattle.std.proofs.lemmas.List.{append-nil}
use Rattle.play_script.specs.Lines.{Lacks, lines_in, lines_of}
use Rattle.play_script.specs.Input.{AreWhole}
use Rattle.play_script.proofs.Cuts.{pieces_at, some_pieces, one_piece}

-- the pieces between line feeds
abbrev pub pieces : List ℕ → List (List ℕ)
pieces text = pieces_at 10 text

onto_first-append : (x : ℕ) (parts more : List (List ℕ)) → 0 < length parts
    → onto_first x (parts ++ more) ≡ onto_first x parts ++ more
onto_first-append x [] more some = absurd (omega arith)
onto_first-append x (part ∷ parts) more some = refl

-- where a line feed stands, the pieces before it and those after it
step_on : (b : Bool) (x : ℕ) (before behind all : List (List ℕ))
    → 0 < length before → all ≡ before ++ behind
    → cond b ([] ∷ all) (onto_first x all) ≡ cond b ([] ∷ before) (onto_first x before) ++ behind
step_on true x before behind all some is = ap (λ (p : List (List ℕ)). [] ∷ p) is
step_on false x before behind all some is = ap (onto_first x) is
    ∙ onto_first-append x before behind some

pub pieces-append : (front rest : List ℕ)
    → pieces (front ++ 10 ∷ rest) ≡ pieces front ++ pieces rest
pieces-append [] rest = refl
pieces-append (x ∷ front) rest = step_on (eqb x 10) x (pieces front) (pieces rest)
    (pieces (front ++ 10 ∷ rest)) (some_pieces 10 front) (pieces-append front rest)

-- pieces with others after them are lines
lines_in-append : (parts more : List (List ℕ)) → 0 < length more
    → lines_in (parts ++ more) ≡ parts ++ lines_in more
lines_in-append [] more some = refl
lines_in-append (x ∷ []) [] some = absurd (omega arith)
lines_in-append (x ∷ []) (y ∷ more) some = refl
lines_in-append (x ∷ y ∷ parts) more some =
    ap (λ (p : List (List ℕ)). x ∷ p) (lines_in-append (y ∷ parts) more some)

-- no text, no line
pub lines_of-nil : lines_of [] ≡ []
unfolding lines_of
lines_of-nil = refl

-- the lines in front of a line feed are its pieces
ended : (front rest : List ℕ) → lines_of (front ++ 10 ∷ rest) ≡ pieces front ++ lines_of rest
unfolding lines_of
ended front rest = ap lines_in (pieces-append front rest)
    ∙ lines_in-append (pieces front) (pieces rest) (some_pieces 10 rest)

-- a line that is ended, and the lines after it
pub lines_of-ended : (line rest : List ℕ) → Lacks 10 line
    → lines_of (line ++ 10 ∷ rest) ≡ line ∷ lines_of rest
lines_of-ended line rest lacks = ended line rest
    ∙ ap (λ (p : List (List ℕ)). p ++ lines_of rest) (one_piece 10 line lacks)

-- the last line, which no line feed ends
last_line : (line : List ℕ) → 0 < length line → lines_in (line ∷ []) ≡ line ∷ []
last_line [] some = absurd (omega arith)
last_line (x ∷ line) some =
    ap (λ (b : Bool). cond b [] ((x ∷ line) ∷ [])) (ne_eqb (suc (length line)) 0 (λ e. omega arith))

pub lines_of-last : (line : List ℕ) → Lacks 10 line → 0 < length line → lines_of line ≡ line ∷ []
unfolding lines_of
lines_of-last line lacks some = ap lines_in (one_piece 10 line lacks) ∙ last_line line some

-- the same, with the empty text after it
pub lines_of-whole : (line rest : List ℕ) → Lacks 10 line → 0 < length line → length rest ≡ 0
    → lines_of line ≡ line ∷ lines_of rest
lines_of-whole line [] lacks some none = lines_of-last line lacks some
    ∙ sym (ap (λ (p : List (List ℕ)). line ∷ p) lines_of-nil)
lines_of-whole line (x ∷ rest) lacks some none = absurd (omega arith)

-- the lines of whole lines and of what follows them
ended-append : (front rest : List ℕ)
    → lines_of ((front ++ 10 ∷ []) ++ rest) ≡ lines_of (front ++ 10 ∷ []) ++ lines_of rest
ended-append front rest =
    let all : lines_of ((front ++ 10 ∷ []) ++ rest) ≡ pieces front ++ lines_of rest =
    ap lines_of (append_assoc front (10 ∷ []) rest) ∙ ended front rest in
    let whole : lines_of (front ++ 10 ∷ []) ≡ pieces front = ended front []
    ∙ ap (λ (p : List (List ℕ)). pieces front ++ p) lines_of-nil ∙ append-nil (pieces front) in
    all ∙ ap (λ (p : List (List ℕ)). p ++ lines_of rest) (sym whole)

pub lines_of-append : (a b : List ℕ) → AreWhole a → lines_of (a ++ b) ≡ lines_of a ++ lines_of b
lines_of-append a b (inl none) =
    ap (λ (t : List ℕ). lines_of (t ++ b)) none
    ∙ sym (ap (λ (p : List (List ℕ)). p ++ lines_of b) (ap lines_of none ∙ lines_of-nil))
lines_of-append a b (inr (front, is)) =
    ap (λ (t : List ℕ). lines_of (t ++ b)) is ∙ ended-append front b
    ∙ sym (ap (λ (t : List ℕ). lines_of t ++ lines_of b) is)
