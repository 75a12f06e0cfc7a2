-- Pieces that are joined with a separator, one more at a time.
use Rattle.std.proofs.Common.{◌≡◌, ℕ, zero, suc, ◌+◌, ◌<◌, ◌==◌, if◌then◌else◌, List, [], ◌∷◌, ◌++◌}
use Rattle.std.proofs.Common.{map, take, length, get_or, ap, sym, ◌∙◌, append_assoc, add-one, arith}
use Rattle.std.proofs.Common.{false}
use Rattle.std.proofs.lemmas.Bool.{ne_eqb}
use Rattle.std.specs.List.{join_by, flat_map}
use Rattle.std.proofs.lemmas.List.{append-nil, map_more}
use Rattle.std.proofs.lemmas.List.Concat.{flat_map-append}

flat_map_of_more : {X Y A : Type 0} (g : Y → List A) (h : X → Y) (xs : List X) (i : ℕ) (d : X)
    → i < length xs
    → flat_map g (map h (take (i + 1) xs)) ≡ flat_map g (map h (take i xs)) ++ g (h (get_or xs i d))
flat_map_of_more {A = A} g h xs i d within = ap (flat_map g) (map_more h xs i d within)
    ∙ flat_map-append g (map h (take i xs)) (h (get_or xs i d) ∷ [])
    ∙ ap (λ (t : List A). flat_map g (map h (take i xs)) ++ t) (append-nil (g (h (get_or xs i d))))

pub join_by_more : {X Y A : Type 0} (f : Y → List A) (separator : List A) (h : X → Y) (xs : List X)
    (i : ℕ) (d : X) → i < length xs → join_by f separator (map h (take (i + 1) xs)) ≡ join_by f
    separator (map h (take i xs)) ++ ((if i == 0 then [] else separator) ++ f (h (get_or xs i d)))
join_by_more f separator h [] i d within = absurd (omega arith)
join_by_more f separator h (x ∷ xs) zero d within = append-nil (f (h x))
join_by_more {A = A} f separator h (x ∷ xs) (suc n) d within = let later : (suc n == 0) ≡ false =
    ne_eqb (suc n) 0 (λ is. absurd (omega arith)) in rw (add-one, later) (ap (λ (t : List A).
    f (h x) ++ t) (rw add-one at (flat_map_of_more (λ y. separator ++ f y) h xs n d (omega arith)))
    ∙ sym (append_assoc (f (h x)) _ _))
