-- Lists that hold one thing under each key, rising by the key: rows by id, writes by namespace and
-- id.
use Rattle.std.specs.Prelude.{◌≡◌, Bool, List, [], ◌∷◌, filter}
use Rattle.std.specs.declared.cmp.Ordering.{Ordering}
use Rattle.std.specs.declared.cmp.Ordering.TheVariants.{Less, Equal, Greater}

-- the list with this under the key, in place of what stood there
abbrev pub put : {K A : Type 0} → (K → K → Ordering) → K → A → List (K × A) → List (K × A)
put cmp key a [] = (key, a) ∷ []
put cmp key a (row ∷ rows) = elim (cmp key row.0)
    [ Less ↦ (key, a) ∷ row ∷ rows | Equal ↦ (key, a) ∷ rows | Greater ↦ row ∷ put cmp key a rows ]

-- the list with nothing under the key
abbrev pub taken_out : {K A : Type 0} → (K → K → Ordering) → K → List (K × A) → List (K × A)
taken_out cmp key [] = []
taken_out cmp key (row ∷ rows) = elim (cmp key row.0)
    [ Less ↦ row ∷ rows | Equal ↦ rows | Greater ↦ row ∷ taken_out cmp key rows ]

-- the list with others laid over it, one after the other
abbrev pub laid : {K A : Type 0} → (K → K → Ordering) → List (K × A) → List (K × A) → List (K × A)
laid cmp rows [] = rows
laid cmp rows (other ∷ others) = laid cmp (put cmp other.0 other.1 rows) others

-- those whose keys pass the test
abbrev pub at : {K A : Type 0} → (K → Bool) → List (K × A) → List (K × A)
at here rows = filter (λ row. here row.0) rows

-- each key is above this one
abbrev pub AllAbove : {K A : Type 0} → (K → K → Ordering) → K → List (K × A) → Type 0
AllAbove cmp key [] = Unit {0}
AllAbove cmp key (row ∷ rows) = (cmp key row.0 ≡ Less) × AllAbove cmp key rows

-- the keys rise
abbrev pub Rises : {K A : Type 0} → (K → K → Ordering) → List (K × A) → Type 0
Rises cmp [] = Unit {0}
Rises cmp (row ∷ rows) = AllAbove cmp row.0 rows × Rises cmp rows
