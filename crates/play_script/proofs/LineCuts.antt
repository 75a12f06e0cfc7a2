-- Laws of a list that is cut at the first place of a byte.
use Rattle.std.proofs.Common.{◌≡◌, ℕ, ◌+◌, ◌<◌, ◌≤◌, Bool, true, false, cond, not, eqb, List, ◌∷◌}
use Rattle.std.proofs.Common.{◌++◌, length, get_or, take, drop, Some, None, refl, ap, sym, ◌∙◌}
use Rattle.std.proofs.Common.{arith, drop-cons, add-one}
use Rattle.std.specs.Prelude.{position}
use Rattle.std.specs.List.{position_or_len}
use Rattle.std.proofs.lemmas.Bool.{eqb-true, ltb-false, not_from_false}
use Rattle.std.proofs.lemmas.List.{get_or_default, get_or-take, length-take-le, take-append-drop}
use Rattle.std.proofs.lemmas.List.Quantifiers.{position-Some}
use Rattle.std.proofs.lemmas.List.Sums.{list_all-from_AllPass, fails_before_first}
use Rattle.play_script.specs.Lines.{Lacks}

-- the search finds nothing: no byte is that one
not_found : (b : Bool) (m : ℕ) → None ≡ cond b (Some m) None → b ≡ false
not_found true m e = absurd cc
not_found false m e = refl

pub lacks_from_none : (byte : ℕ) (bytes : List ℕ) → None ≡ position (λ b. eqb b byte) bytes
    → Lacks byte bytes
lacks_from_none byte bytes none =
    let p : ℕ → Bool = λ b. eqb b byte in
    let past : length bytes ≤ position_or_len p bytes = ltb-false _ _ (not_found _ _ none) in
    list_all-from_AllPass (λ (b : ℕ). not (eqb b byte)) bytes
    (λ k d lt. not_from_false _ (fails_before_first p bytes k d (omega arith)))

-- the search finds a place: the byte stands there, and not in front of it
pub record IsFirstAt (byte : ℕ) (bytes : List ℕ) (at : ℕ) : Type 0 where
  pub within : at < length bytes
  pub parts : bytes ≡ take at bytes ++ byte ∷ drop (at + 1) bytes
  pub front : Lacks byte (take at bytes)

parts_at : (bytes : List ℕ) (at byte : ℕ) → at < length bytes → get_or bytes at 0 ≡ byte
    → bytes ≡ take at bytes ++ byte ∷ drop (at + 1) bytes
parts_at bytes at byte within is =
    let more : drop at bytes ≡ get_or bytes at 0 ∷ drop (at + 1) bytes =
    rw add-one (drop-cons bytes at 0 within) in
    sym (take-append-drop at bytes) ∙ ap (λ (t : List ℕ). take at bytes ++ t) (more
    ∙ ap (λ (b : ℕ). b ∷ drop (at + 1) bytes) is)

pub first_from_some : (byte : ℕ) (bytes : List ℕ) (at : ℕ)
    → Some at ≡ position (λ b. eqb b byte) bytes → IsFirstAt byte bytes at
first_from_some byte bytes at some =
    let p : ℕ → Bool = λ b. eqb b byte in
    let found = position-Some p bytes at 0 (sym some) in
    let long : length (take at bytes) ≡ at = length-take-le at bytes (omega (arith, found.0)) in
    record {
      within = found.0;
      parts = parts_at bytes at byte found.0 (eqb-true _ _ found.1);
      front = list_all-from_AllPass (λ (b : ℕ). not (eqb b byte)) (take at bytes) (λ k d lt.
          let before : k < at = omega arith in
          let same : get_or (take at bytes) k d ≡ get_or bytes k 0 = get_or-take at bytes k d before
          ∙ get_or_default bytes k d 0 (omega (arith, found.0)) in
          not_from_false _ (ap p same ∙ found.2 k before));
    }
