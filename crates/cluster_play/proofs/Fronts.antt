-- The lines up to a marker.
use Rattle.std.proofs.Common.{◌≡◌, ℕ, ◌+◌, Bool, true, false, cond, List, [], ◌∷◌, ◌++◌, length}
use Rattle.std.proofs.Common.{Option, Some, None, option_map, refl, sym, ap, ◌∙◌, append_assoc}
use Rattle.std.proofs.Common.{arith}
use Rattle.std.proofs.lemmas.List.{append-nil}
use Rattle.std.specs.Str.{bytes_eq}
use Rattle.cluster_play.specs.Schedule.{MarkedLines, marker, up_to_marker, marked_by, text_of}

-- what is found from here on, after what was gathered
abbrev pub behind : List ℕ → ℕ → List (List ℕ) × List (List ℕ) → MarkedLines
behind text taken parts =
    record { text = text ++ text_of parts.0; taken = taken + length parts.0 + 1; lines = parts.1 }

abbrev pub gathered : List ℕ → ℕ → List (List ℕ) → Option MarkedLines
gathered text taken lines = option_map (behind text taken) (up_to_marker lines)

abbrev lines_at : List ℕ → ℕ → List (List ℕ) → MarkedLines
lines_at text taken lines = record { text = text; taken = taken; lines = lines }

same_behind : (text more : List ℕ) (taken count : ℕ) (lines : List (List ℕ)) → text ≡ more
    → taken ≡ count → lines_at text taken lines ≡ lines_at more count lines
same_behind text more taken count lines a b = ap (λ (t : List ℕ). lines_at t taken lines) a
    ∙ ap (λ (n : ℕ). lines_at more n lines) b

gathered_by : (text : List ℕ) (taken : ℕ) (l : List ℕ)
    (found : Option (List (List ℕ) × List (List ℕ)))
    → option_map (behind text taken) (option_map (λ parts. (l ∷ parts.0, parts.1)) found)
    ≡ option_map (behind ((text ++ l) ++ 10 ∷ []) (taken + 1)) found
gathered_by text taken l None = refl
gathered_by text taken l (Some parts) =
    let is : text ++ ((l ++ 10 ∷ []) ++ text_of parts.0)
    ≡ ((text ++ l) ++ 10 ∷ []) ++ text_of parts.0 =
    sym (append_assoc text (l ++ 10 ∷ []) (text_of parts.0))
    ∙ ap (λ (t : List ℕ). t ++ text_of parts.0) (sym (append_assoc text l (10 ∷ []))) in
    let count : taken + length (l ∷ parts.0) + 1 ≡ taken + 1 + length parts.0 + 1 = omega arith in
    ap (λ (m : MarkedLines). Some m) (same_behind _ _ _ _ parts.1 is count)

pub gathered_more : (text : List ℕ) (taken : ℕ) (l : List ℕ) (rest lines : List (List ℕ))
    → rest ≡ l ∷ lines → bytes_eq l marker ≡ false
    → gathered text taken rest ≡ gathered ((text ++ l) ++ 10 ∷ []) (taken + 1) lines
gathered_more text taken l rest lines is other =
    ap (gathered text taken) is
    ∙ ap (λ (b : Bool). option_map (behind text taken) (cond b (Some ([], lines))
    (option_map (λ parts. (l ∷ parts.0, parts.1)) (up_to_marker lines)))) other
    ∙ gathered_by text taken l (up_to_marker lines)

pub gathered_ends : (text : List ℕ) (taken : ℕ) (l : List ℕ) (rest lines : List (List ℕ))
    → rest ≡ l ∷ lines → bytes_eq l marker ≡ true
    → gathered text taken rest ≡ Some (record { text = text; taken = taken + 1; lines = lines })
gathered_ends text taken l rest lines is marks =
    ap (gathered text taken) is
    ∙ ap (λ (b : Bool). option_map (behind text taken) (cond b (Some ([], lines))
    (option_map (λ parts. (l ∷ parts.0, parts.1)) (up_to_marker lines)))) marks
    ∙ ap (λ (m : MarkedLines). Some m) (same_behind _ _ _ _ lines (append-nil text) (omega arith))

same_lines : (parts : List (List ℕ) × List (List ℕ)) → behind [] 1 parts ≡ marked_by parts
same_lines parts = same_behind _ _ _ _ parts.1 refl (omega arith)

none_by : (found : Option (List (List ℕ) × List (List ℕ)))
    → option_map (behind [] 1) found ≡ option_map marked_by found
none_by None = refl
none_by (Some parts) = ap (λ (m : MarkedLines). Some m) (same_lines parts)

pub gathered_none : (lines : List (List ℕ))
    → gathered [] 1 lines ≡ option_map marked_by (up_to_marker lines)
gathered_none lines = none_by (up_to_marker lines)

pub is_false : (b : Bool) → (b ≡ true → ⊥) → b ≡ false
is_false true h = absurd (h refl)
is_false false h = refl
