-- What is missing after two things, the one after the other; and the next of what is checked.
use Rattle.std.proofs.Common.{◌≡◌, ℕ, suc, ◌+◌, ◌<◌, false, List, [], ◌∷◌, ◌++◌, length, drop, map}
use Rattle.std.proofs.Common.{Option, Some, None, Ok, Err, Bor, refl, sym, ap, ◌∙◌, arith}
use Rattle.std.proofs.Math.ListN.{get_or}
use Rattle.std.proofs.Math.Seq.{drop-cons}
use Rattle.std.specs.Option.{option_or}
use Rattle.outcomes.specs.Bind.{◌>>=◌}
use Rattle.command_parse.specs.Checks.{Checked, behind, check_each, is_among, firsts_behind}

pub behind_behind : (first second : Option (List ℕ)) (more : Checked)
    → behind (option_or first second) more ≡ behind first (behind second more)
behind_behind None None (Ok x) = refl
behind_behind None None (Err e) = refl
behind_behind None (Some y) (Ok x) = refl
behind_behind None (Some y) (Err e) = refl
behind_behind (Some z) second (Ok x) = refl
behind_behind (Some z) second (Err e) = refl

-- the references from the i-th on are the i-th and those after it
pub from_the_next : {A : Type 0} (xs : List (Bor A)) (i : ℕ) (x : Bor A) → i < length xs
    → x ≡ get_or xs i x → map (λ y. y.now) (drop i xs) ≡ x.now ∷ map (λ y. y.now) (drop (i + 1) xs)
from_the_next {A = A} xs i x less is =
    let one_more : suc i ≡ i + 1 = omega arith in
    ap (map (λ y. y.now)) (drop-cons xs i x less)
    ∙ ap (λ (n : ℕ). (get_or xs i x).now ∷ map (λ y. y.now) (drop n xs)) one_more
    ∙ ap (λ (y : Bor A). y.now ∷ map (λ y. y.now) (drop (i + 1) xs)) (sym is)

pub next_check : {A : Type 0} (check : A → Checked) (missing inside : Option (List ℕ)) (x : A)
    (xs : List A) → check x ≡ Ok inside → behind (option_or missing inside) (check_each check xs)
    ≡ behind missing (check_each check (x ∷ xs))
next_check {A = A} check missing inside x xs is = behind_behind missing inside (check_each check xs)
    ∙ ap (λ (r : Checked). behind missing (r >>= λ m. behind m (check_each check xs))) (sym is)

-- what is left from the i-th on is the i-th and what is after it
pub drop_next : {A : Type 0} (xs : List A) (i : ℕ) (x : A) → i < length xs → x ≡ get_or xs i x
    → drop i xs ≡ x ∷ drop (i + 1) xs
drop_next {A = A} xs i x less is =
    let one_more : suc i ≡ i + 1 = omega arith in
    drop-cons xs i x less ∙ ap (λ (n : ℕ). get_or xs i x ∷ drop n xs) one_more
    ∙ ap (λ (y : A). y ∷ drop (i + 1) xs) (sym is)

-- a field whose name is new is checked, and its name is known after it
pub next_first : {A : Type 0} (check : List ℕ × A → Checked) (missing inside : Option (List ℕ))
    (names : List (List ℕ)) (field : List ℕ × A) (fields : List (List ℕ × A))
    → is_among field.0 names ≡ false → check field ≡ Ok inside
    → behind (option_or missing inside) (check_each check (firsts_behind (names ++ field.0 ∷ [])
    fields)) ≡ behind missing (check_each check (firsts_behind names (field ∷ fields)))
next_first check missing inside names field fields new is =
    rw new (next_check check missing inside field (firsts_behind (names ++ field.0 ∷ []) fields) is)
