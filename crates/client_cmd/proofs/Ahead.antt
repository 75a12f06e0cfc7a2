-- The first of a message's times that is too far ahead, one time after the other.
use Rattle.std.proofs.Common.{◌≡◌, ℕ, Bool, true, false, cond, List, [], ◌∷◌, Option, Some, None}
use Rattle.std.proofs.Common.{refl, sym, ap, ◌∙◌}
use Rattle.std.specs.List.{find, filter_map}
use Rattle.std.specs.Option.{option_or}

abbrev first_of_times : (ℕ → Bool) → List (Option ℕ) → Option ℕ
first_of_times is_ahead times = find is_ahead (filter_map (λ t. t) times)

one_more : (is_ahead : ℕ → Bool) (time : Option ℕ) (times : List (Option ℕ))
    → first_of_times is_ahead (time ∷ times)
    ≡ option_or (first_of_times is_ahead (time ∷ [])) (first_of_times is_ahead times)
one_more is_ahead None times = refl
one_more is_ahead (Some t) times = by (is_ahead t)
  where
    by : (b : Bool) → cond b (Some t) (first_of_times is_ahead times)
        ≡ option_or (cond b (Some t) None) (first_of_times is_ahead times)
    by true = refl
    by false = refl

or_or : (a b c : Option ℕ) → option_or (option_or a b) c ≡ option_or a (option_or b c)
or_or None b c = refl
or_or (Some t) b c = refl

pub three_times : (is_ahead : ℕ → Bool) (seen after at : Option ℕ)
    → option_or (option_or (find is_ahead (filter_map (λ t. t) (seen ∷ []))) (find is_ahead
    (filter_map (λ t. t) (after ∷ [])))) (find is_ahead (filter_map (λ t. t) (at ∷ [])))
    ≡ find is_ahead (filter_map (λ t. t) (seen ∷ after ∷ at ∷ []))
three_times is_ahead seen after at =
    let one = first_of_times is_ahead in
    or_or (one (seen ∷ [])) (one (after ∷ [])) (one (at ∷ [])) ∙ ap (λ (o : Option ℕ).
    option_or (one (seen ∷ [])) o) (sym (one_more is_ahead after (at ∷ [])))
    ∙ sym (one_more is_ahead seen (after ∷ at ∷ []))
