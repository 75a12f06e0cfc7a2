-- Where an id stands in a list that rises by id, or where it belongs.
use Rattle.std.proofs.Common.{◌≡◌, ℕ, zero, suc, ◌+◌, ◌⊎◌, inl, inr, ◌<◌, ◌≤◌, true, false, List}
use Rattle.std.proofs.Common.{[], ◌∷◌, ◌||◌, Option, Some, None, is_some, length, get_or, set}
use Rattle.std.proofs.Common.{insert, remove, refl, ap, subst, ◌∙◌, arith}
use Rattle.std.specs.List.{HoldsAt, AllWithin}
use Rattle.std.specs.List.Sorted.{IsPartitionPoint}
use Rattle.std.proofs.lemmas.Bool.{cases_lt}
use Rattle.std.specs.Ordering.{ordering_reverse, is_eq}
use Rattle.std.specs.declared.cmp.Ordering.{Ordering}
use Rattle.std.specs.declared.cmp.Ordering.TheVariants.{Less, Equal, Greater}
use Rattle.txn_types.specs.Order.{id_cmp, same_id}
use Rattle.txn_types.specs.declared.id.Id.{Id}
use Rattle.txn_types.proofs.Orders.{id_total, id_exact}
use Rattle.bson_core.specs.Fields.{Document}
use Rattle.txn_semantics.specs.Rows.{IsRising, put_row, delete_row, holds_id}
use Rattle.query_eval.specs.Held.{kept}
use Rattle.txn_semantics.proofs.Parts.{AllAbove}

pub back : (a b : Id) (o : Ordering) → id_cmp a b ≡ o → id_cmp b a ≡ ordering_reverse o
back a b o h = id_total.antisymm b a ∙ ap ordering_reverse h

pub above_index : {A : Type 0} (id : Id) (rows : List (Id × A)) (k : ℕ) (d : Id × A)
    → AllAbove id rows → k < length rows → id_cmp id (get_or rows k d).0 ≡ Less
above_index id [] k d above h = absurd (omega (arith, h))
above_index id (row ∷ rows) zero d above h = above.0
above_index id (row ∷ rows) (suc k) d above h = above_index id rows k d above.1 (omega (arith, h))

pub same_at : {A : Type 0} (xs : List A) (k : ℕ) (d e : A) → k < length xs
    → get_or xs k d ≡ get_or xs k e
same_at [] k d e h = absurd (omega (arith, h))
same_at (x ∷ xs) zero d e h = refl
same_at (x ∷ xs) (suc k) d e h = same_at xs k d e (omega (arith, h))

-- of two places the later one has the greater id
pub index_less : {A : Type 0} (rows : List (Id × A)) (i j : ℕ) (d : Id × A) → IsRising rows → i < j
    → j < length rows → id_cmp (get_or rows i d).0 (get_or rows j d).0 ≡ Less
index_less [] i j d rising lt h = absurd (omega (arith, h))
index_less (row ∷ rows) zero zero d rising lt h = absurd (omega (arith, lt))
index_less (row ∷ rows) zero (suc j) d rising lt h =
    above_index row.0 rows j d rising.0 (omega (arith, h))
index_less (row ∷ rows) (suc i) zero d rising lt h = absurd (omega (arith, lt))
index_less (row ∷ rows) (suc i) (suc j) d rising lt h =
    index_less rows i j d rising.1 (omega (arith, lt)) (omega (arith, h))

below_case : {A : Type 0} (id : Id) (rows : List (Id × A)) (m : ℕ) (e : Id × A) → IsRising rows
    → m < length rows → id_cmp (get_or rows m e).0 id ≡ Less
    → (k : ℕ) (d : Id × A) → (k < m) ⊎ (m ≤ k) → k < m + 1 → id_cmp (get_or rows k d).0 id ≡ Less
below_case id rows m e rising h less k d (inl lt) high =
    let at : id_cmp (get_or rows m d).0 id ≡ Less =
    ap (λ (row : Id × _). id_cmp row.0 id) (same_at rows m d e h) ∙ less in
    id_total.trans (get_or rows k d).0 (get_or rows m d).0 id (index_less rows k m d rising lt h) at
below_case id rows m e rising h less k d (inr le) high =
    let same : k ≡ m = omega arith in
    ap (λ n. id_cmp (get_or rows n d).0 id) same
    ∙ ap (λ (row : Id × _). id_cmp row.0 id) (same_at rows m d e h) ∙ less

-- all up to a lesser id are lesser, and all from a greater one on are greater
pub less_below : {A : Type 0} (id : Id) (rows : List (Id × A)) (m : ℕ) (e : Id × A)
    → IsRising rows → m < length rows → id_cmp (get_or rows m e).0 id ≡ Less
    → AllWithin (λ (row : Id × A). id_cmp row.0 id ≡ Less) rows 0 (m + 1)
less_below id rows m e rising h less =
    λ k d low high. below_case id rows m e rising h less k d (cases_lt k m) high

above_case : {A : Type 0} (id : Id) (rows : List (Id × A)) (m : ℕ) (e : Id × A) → IsRising rows
    → m < length rows → id_cmp (get_or rows m e).0 id ≡ Greater
    → (k : ℕ) (d : Id × A) → (m < k) ⊎ (k ≤ m) → m ≤ k → k < length rows
    → id_cmp (get_or rows k d).0 id ≡ Greater
above_case id rows m e rising h greater k d (inl lt) low high =
    let at : id_cmp (get_or rows m d).0 id ≡ Greater =
    ap (λ (row : Id × _). id_cmp row.0 id) (same_at rows m d e h) ∙ greater in
    back id (get_or rows k d).0 Less (id_total.trans id (get_or rows m d).0 (get_or rows k d).0
    (back (get_or rows m d).0 id Greater at) (index_less rows m k d rising lt high))
above_case id rows m e rising h greater k d (inr le) low high =
    let same : k ≡ m = omega arith in
    ap (λ n. id_cmp (get_or rows n d).0 id) same
    ∙ ap (λ (row : Id × _). id_cmp row.0 id) (same_at rows m d e h) ∙ greater

pub greater_above : {A : Type 0} (id : Id) (rows : List (Id × A)) (m : ℕ) (e : Id × A)
    → IsRising rows → m < length rows → id_cmp (get_or rows m e).0 id ≡ Greater
    → AllWithin (λ (row : Id × A). id_cmp row.0 id ≡ Greater) rows m (length rows)
greater_above id rows m e rising h greater =
    λ k d low high. above_case id rows m e rising h greater k d (cases_lt m k) low high

-- what is put at its place
pub put_there : {A : Type 0} (id : Id) (a : A) (rows : List (Id × A)) (k : ℕ) → IsRising rows
    → k < length rows → HoldsAt (λ (row : Id × A). id_cmp row.0 id ≡ Equal) rows k
    → put_row id a rows ≡ set rows k (id, a)
put_there id a [] k rising h there = absurd (omega (arith, h))
put_there id a (row ∷ rows) zero rising h there = ap (λ o. elim o
    [ Less ↦ (id, a) ∷ row ∷ rows | Equal ↦ (id, a) ∷ rows | Greater ↦ row ∷ put_row id a rows ])
    (back row.0 id Equal (there row))
put_there id a (row ∷ rows) (suc k) rising h there =
    let within : k < length rows = omega (arith, h) in
    let less : id_cmp row.0 id ≡ Less = subst (λ i. id_cmp row.0 i ≡ Less) (id_exact
    (get_or rows k row).0 id (there row)) (above_index row.0 rows k row rising.0 within) in
    ap (λ o. elim o [
      | Less ↦ (id, a) ∷ row ∷ rows
      | Equal ↦ (id, a) ∷ rows
      | Greater ↦ row ∷ put_row id a rows
    ]) (back row.0 id Less less)
    ∙ ap (λ xs. row ∷ xs) (put_there id a rows k rising.1 within (λ d. there d))

pub put_between : {A : Type 0} (id : Id) (a : A) (rows : List (Id × A)) (k : ℕ) → k ≤ length rows
    → IsPartitionPoint (λ (row : Id × A). id_cmp row.0 id ≡ Less) (λ (row : Id × A). id_cmp row.0 id
    ≡ Greater) rows k → put_row id a rows ≡ insert rows k (id, a)
put_between id a [] zero h p = refl
put_between id a [] (suc k) h p = absurd (omega (arith, h))
put_between id a (row ∷ rows) zero h p = ap (λ o. elim o
    [ Less ↦ (id, a) ∷ row ∷ rows | Equal ↦ (id, a) ∷ rows | Greater ↦ row ∷ put_row id a rows ])
    (back row.0 id Greater (p.1 0 row (omega arith) (omega arith)))
put_between id a (row ∷ rows) (suc k) h p =
    ap (λ o. elim o [
      | Less ↦ (id, a) ∷ row ∷ rows
      | Equal ↦ (id, a) ∷ rows
      | Greater ↦ row ∷ put_row id a rows
    ]) (back row.0 id Less (p.0 0 row (omega arith) (omega arith)))
    ∙ ap (λ xs. row ∷ xs) (put_between id a rows k (omega (arith, h)) (
      (λ i d low high. p.0 (suc i) d (omega arith) (omega (arith, high))),
      (λ i d low high. p.1 (suc i) d (omega (arith, low)) (omega (arith, high))),
    ))

-- what is taken out from its place
pub taken_there : {A : Type 0} (id : Id) (rows : List (Id × A)) (k : ℕ) → IsRising rows
    → k < length rows → HoldsAt (λ (row : Id × A). id_cmp row.0 id ≡ Equal) rows k
    → delete_row id rows ≡ remove rows k
taken_there id [] k rising h there = absurd (omega (arith, h))
taken_there id (row ∷ rows) zero rising h there =
    ap (λ o. elim o [ Less ↦ row ∷ rows | Equal ↦ rows | Greater ↦ row ∷ delete_row id rows ])
    (back row.0 id Equal (there row))
taken_there id (row ∷ rows) (suc k) rising h there =
    let within : k < length rows = omega (arith, h) in
    let less : id_cmp row.0 id ≡ Less = subst (λ i. id_cmp row.0 i ≡ Less) (id_exact
    (get_or rows k row).0 id (there row)) (above_index row.0 rows k row rising.0 within) in
    ap (λ o. elim o [ Less ↦ row ∷ rows | Equal ↦ rows | Greater ↦ row ∷ delete_row id rows ])
    (back row.0 id Less less)
    ∙ ap (λ xs. row ∷ xs) (taken_there id rows k rising.1 within (λ d. there d))

pub taken_between : {A : Type 0} (id : Id) (rows : List (Id × A)) (k : ℕ) → k ≤ length rows
    → IsPartitionPoint (λ (row : Id × A). id_cmp row.0 id ≡ Less) (λ (row : Id × A). id_cmp row.0 id
    ≡ Greater) rows k → delete_row id rows ≡ rows
taken_between id [] k h p = refl
taken_between id (row ∷ rows) zero h p =
    ap (λ o. elim o [ Less ↦ row ∷ rows | Equal ↦ rows | Greater ↦ row ∷ delete_row id rows ])
    (back row.0 id Greater (p.1 0 row (omega arith) (omega arith)))
taken_between id (row ∷ rows) (suc k) h p =
    ap (λ o. elim o [ Less ↦ row ∷ rows | Equal ↦ rows | Greater ↦ row ∷ delete_row id rows ])
    (back row.0 id Less (p.0 0 row (omega arith) (omega arith)))
    ∙ ap (λ xs. row ∷ xs) (taken_between id rows k (omega (arith, h)) (
      (λ i d low high. p.0 (suc i) d (omega arith) (omega (arith, high))),
      (λ i d low high. p.1 (suc i) d (omega (arith, low)) (omega (arith, high))),
    ))

-- whether an id is held
holds_case : {A : Type 0} (f : A → Option Document) (id : Id) (row : Id
    × A) (rows : List (Id × A)) (o : Option Document) → same_id id row.0 ≡ false → holds_id id
    (elim o [ Some b ↦ (row.0, b) ∷ kept f rows | None ↦ kept f rows ]) ≡ holds_id id (kept f rows)
holds_case f id row rows None h = refl
holds_case f id row rows (Some b) h = ap (λ c. c || holds_id id (kept f rows)) h

none_above : {A : Type 0} (f : A → Option Document) (id : Id) (rows : List (Id × A))
    → AllAbove id rows → holds_id id (kept f rows) ≡ false
none_above f id [] above = refl
none_above f id (row ∷ rows) above = holds_case f id row rows (f row.1) (ap is_eq above.0)
    ∙ none_above f id rows above.1

here_case : {A : Type 0} (f : A → Option Document) (id : Id) (row : Id × A) (rows : List (Id × A))
    (o : Option Document) → same_id id row.0 ≡ true → holds_id id (kept f rows) ≡ false
    → holds_id id (elim o [ Some b ↦ (row.0, b) ∷ kept f rows | None ↦ kept f rows ]) ≡ is_some o
here_case f id row rows None h rest = rest
here_case f id row rows (Some b) h rest = ap (λ c. c || holds_id id (kept f rows)) h

above_same : {A : Type 0} (a b : Id) (rows : List (Id × A)) → id_cmp a b ≡ Equal → AllAbove a rows
    → AllAbove b rows
above_same a b rows h above = subst (λ i. AllAbove i rows) (id_exact a b h) above

pub holds_there : {A : Type 0} (f : A
    → Option Document) (id : Id) (rows : List (Id × A)) (k : ℕ) (d : Id × A) → IsRising rows
    → k < length rows → HoldsAt (λ (row : Id × A). id_cmp row.0 id ≡ Equal) rows k
    → holds_id id (kept f rows) ≡ is_some (f (get_or rows k d).1)
holds_there f id [] k d rising h there = absurd (omega (arith, h))
holds_there f id (row ∷ rows) zero d rising h there =
    here_case f id row rows (f row.1) (ap is_eq (back row.0 id Equal (there row))) (none_above f id
    rows (above_same row.0 id rows (there row) rising.0))
holds_there f id (row ∷ rows) (suc k) d rising h there =
    let within : k < length rows = omega (arith, h) in
    let less : id_cmp row.0 id ≡ Less = subst (λ i. id_cmp row.0 i ≡ Less) (id_exact
    (get_or rows k row).0 id (there row)) (above_index row.0 rows k row rising.0 within) in
    holds_case f id row rows (f row.1) (ap is_eq (back row.0 id Less less))
    ∙ holds_there f id rows k d rising.1 within (λ e. there e)

pub holds_between : {A : Type 0} (f : A → Option Document) (id : Id) (rows : List (Id × A)) (k : ℕ)
    → k ≤ length rows → IsPartitionPoint (λ (row : Id × A). id_cmp row.0 id
    ≡ Less) (λ (row : Id × A). id_cmp row.0 id ≡ Greater) rows k → holds_id id (kept f rows) ≡ false
holds_between f id [] k h p = refl
holds_between f id (row ∷ rows) zero h p = holds_case f id row rows (f row.1) (ap is_eq (back row.0
    id Greater (p.1 0 row (omega arith) (omega arith)))) ∙ holds_between f id rows 0 (omega arith) (
      (λ i d low high. absurd (omega (arith, high))),
      (λ i d low high. p.1 (suc i) d (omega arith) (omega (arith, high))),
    )
holds_between f id (row ∷ rows) (suc k) h p = holds_case f id row rows (f row.1)
    (ap is_eq (back row.0 id Less (p.0 0 row (omega arith) (omega arith))))
    ∙ holds_between f id rows k (omega (arith, h)) (
      (λ i d low high. p.0 (suc i) d (omega arith) (omega (arith, high))),
      (λ i d low high. p.1 (suc i) d (omega (arith, low)) (omega (arith, high))),
    )

-- the same, where the list was seen under another name
abbrev EqualAt : {A : Type 0} → Id → List (Id × A) → ℕ → Type 0
EqualAt {A} id rows k = HoldsAt (λ (row : Id × A). id_cmp row.0 id ≡ Equal) rows k

abbrev Between : {A : Type 0} → Id → List (Id × A) → ℕ → Type 0
Between {A} id rows k = IsPartitionPoint (λ (row : Id × A). id_cmp row.0 id
    ≡ Less) (λ (row : Id × A). id_cmp row.0 id ≡ Greater) rows k

pub put_there_in : {A : Type 0} (id : Id) (a : A) (xs rows : List (Id × A)) (k : ℕ) → xs ≡ rows
    → IsRising rows → k < length xs → EqualAt id xs k → put_row id a rows ≡ set rows k (id, a)
put_there_in {A} id a xs rows k e rising h there = subst (λ (ys : List (Id × A)). IsRising ys
    → put_row id a ys ≡ set ys k (id, a)) e (λ r. put_there id a xs k r h there) rising

pub put_between_in : {A : Type 0} (id : Id) (a : A) (xs rows : List (Id × A)) (k : ℕ) → xs ≡ rows
    → k ≤ length xs → Between id xs k → put_row id a rows ≡ insert rows k (id, a)
put_between_in {A} id a xs rows k e h p = subst (λ (ys : List (Id × A)). put_row id a ys
    ≡ insert ys k (id, a)) e (put_between id a xs k h p)

pub taken_there_in : {A : Type 0} (id : Id) (xs rows : List (Id × A)) (k : ℕ) → xs ≡ rows
    → IsRising rows → k < length xs → EqualAt id xs k → delete_row id rows ≡ remove rows k
taken_there_in {A} id xs rows k e rising h there = subst (λ (ys : List (Id × A)). IsRising ys
    → delete_row id ys ≡ remove ys k) e (λ r. taken_there id xs k r h there) rising

pub taken_between_in : {A : Type 0} (id : Id) (xs rows : List (Id × A)) (k : ℕ) → xs ≡ rows
    → k ≤ length xs → Between id xs k → delete_row id rows ≡ rows
taken_between_in {A} id xs rows k e h p =
    subst (λ (ys : List (Id × A)). delete_row id ys ≡ ys) e (taken_between id xs k h p)
