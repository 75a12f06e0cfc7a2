-- Lists that are cut at each place of a byte.
use Rattle.std.proofs.Common.{◌≡◌, ◌<◌, ℕ, List, [], ◌∷◌, ◌++◌, eqb, not, length, refl, ap, ◌∙◌}
use Rattle.std.proofs.Common.{arith}
use Rattle.std.specs.List.{slice_split}
use Rattle.std.proofs.lemmas.Bool.{eq-eqb, not-true}
use Rattle.std.proofs.lemmas.List.Splits.{slice_split_none, slice_split_at, length-slice_split}
use Rattle.std.proofs.lemmas.List.Sums.{AllPass-from_list_all}
use Rattle.play_script.specs.Lines.{Lacks}

-- the pieces between the places of the byte
abbrev pub pieces_at : ℕ → List ℕ → List (List ℕ)
pieces_at byte bytes = slice_split (λ b. eqb b byte) bytes

-- there is always a piece
pub some_pieces : (byte : ℕ) (bytes : List ℕ) → 0 < length (pieces_at byte bytes)
some_pieces byte bytes = omega (arith, length-slice_split (λ (b : ℕ). eqb b byte) bytes)

-- without the byte there is one piece
pub one_piece : (byte : ℕ) (bytes : List ℕ) → Lacks byte bytes → pieces_at byte bytes ≡ bytes ∷ []
one_piece byte bytes lacks = slice_split_none (λ (b : ℕ). eqb b byte) bytes (λ k d lt.
    not-true _ (AllPass-from_list_all (λ (b : ℕ). not (eqb b byte)) bytes lacks k d lt))

-- up to the first place of the byte there is one piece
pub first_piece : (byte : ℕ) (front rest : List ℕ) → Lacks byte front
    → pieces_at byte (front ++ byte ∷ rest) ≡ front ∷ pieces_at byte rest
first_piece byte front rest lacks =
    slice_split_at (λ (b : ℕ). eqb b byte) front byte rest (λ k d lt.
    not-true _ (AllPass-from_list_all (λ (b : ℕ). not (eqb b byte)) front lacks k d lt))
    (eq-eqb byte byte refl)

-- two words, and what follows them
pub two_pieces : (byte : ℕ) (first second rest : List ℕ) → Lacks byte first
    → Lacks byte second → pieces_at byte (first ++ byte ∷ (second ++ byte ∷ rest))
    ≡ first ∷ second ∷ pieces_at byte rest
two_pieces byte first second rest no_first no_second =
    first_piece byte first (second ++ byte ∷ rest) no_first
    ∙ ap (λ (ps : List (List ℕ)). first ∷ ps) (first_piece byte second rest no_second)

pub three_pieces : (byte : ℕ) (first second rest : List ℕ)
    → Lacks byte first → Lacks byte second → Lacks byte rest
    → pieces_at byte (first ++ byte ∷ (second ++ byte ∷ rest)) ≡ first ∷ second ∷ rest ∷ []
three_pieces byte first second rest no_first no_second none =
    two_pieces byte first second rest no_first no_second
    ∙ ap (λ (ps : List (List ℕ)). first ∷ second ∷ ps) (one_piece byte rest none)

pub many_pieces : (byte : ℕ) (first second rest third more : List ℕ) → Lacks byte first
    → Lacks byte second → Lacks byte third → rest ≡ third ++ byte ∷ more
    → 3 < length (pieces_at byte (first ++ byte ∷ (second ++ byte ∷ rest)))
many_pieces byte first second rest third more no_first no_second no_third is =
    let cut : pieces_at byte (first ++ byte ∷ (second ++ byte ∷ rest))
    ≡ first ∷ second ∷ third ∷ pieces_at byte more =
    two_pieces byte first second rest no_first no_second ∙ ap (λ (ps : List (List ℕ)). first
    ∷ second ∷ ps) (ap (pieces_at byte) is ∙ first_piece byte third more no_third) in
    omega (arith, ap length cut, some_pieces byte more)
