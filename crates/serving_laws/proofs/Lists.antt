-- What holds of each element of a list.
use Rattle.std.proofs.Common.{List, [], ◌∷◌, map, All}
use Rattle.std.proofs.lemmas.List.Elements.{All-nil, All-cons}

pub nothing : {A : Type 0} (P : A → Type 0) → All P []
nothing P = All-nil P

pub one : {A : Type 0} (P : A → Type 0) (x : A) → P x → All P (x ∷ [])
one P x h = All-cons P x [] h (All-nil P)

pub each : {A B : Type 0} (P : B → Type 0) (f : A → B) (xs : List A) → ((x : A) → P (f x))
    → All P (map f xs)
each P f [] h = All-nil P
each P f (x ∷ xs) h = All-cons P (f x) (map f xs) (h x) (each P f xs h)
