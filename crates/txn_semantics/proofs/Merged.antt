-- The find over all rows from the finds over the parts.
use Rattle.std.proofs.Common.{◌≡◌, ◌≤◌, ℕ, List, [], ◌∷◌, ◌++◌, ◌+◌, ◌-◌, Bool, true, false, cond}
use Rattle.std.proofs.Common.{refl, ap, ap₂, subst, ◌∙◌, sym, filter, map, length, take, reverse}
use Rattle.std.proofs.Common.{nat_eq, nat_le, arith, if◌then◌else◌, Some, None, append-nil, le_refl}
use Rattle.std.proofs.lemmas.List.{take_all, reverse-reverse, length-reverse}
use Rattle.std.proofs.lemmas.List.Elements.{filter-append}
use Rattle.std.proofs.lemmas.Grind.{reverse_onto}
use Rattle.std.specs.declared.cmp.Ordering.TheVariants.{Less}
use Rattle.txn_types.specs.declared.id.Id.{Id}
use Rattle.txn_semantics.specs.Effect.{AreKnown, DocumentRules}
use Rattle.txn_semantics.specs.Found.{joined, first_of, ordered, Found, cut_rows, Mark, marks_of}
use Rattle.txn_semantics.specs.Found.{cut_marks, merged}
use Rattle.txn_semantics.specs.Rows.{Row, at, IsRising}
use Rattle.txn_semantics.specs.Splits.{here, times}
use Rattle.txn_semantics.proofs.Finds.{trimmed, bump, part_marks, cut_same, told_marks}
use Rattle.txn_semantics.proofs.Parts.{AllAbove}
use Rattle.txn_semantics.proofs.Steps.{filters, rising_filter}
use Rattle.txn_semantics.proofs.Totals.{AreNamed, join_parts}
use Rattle.txn_types.specs.Order.{id_cmp}

-- a find by any test of rows
abbrev pub found_by : DocumentRules → ℕ → List Row → Bool → ℕ → (Row → Bool) → Found
found_by w room rows down limit wanted =
    cut_rows w room (first_of limit (ordered down (filter wanted rows)))

-- a filter in either order
reverse-cons : {X : Type 0} (x : X) (xs : List X) → reverse (x ∷ xs) ≡ reverse xs ++ x ∷ []
reverse-cons x xs = reverse_onto xs x []

filter-one : {X : Type 0} (p : X → Bool) (x : X) (xs : List X) (b : Bool)
    → reverse xs ++ cond b (x ∷ []) [] ≡ reverse (cond b (x ∷ xs) xs)
filter-one p x xs true = sym (reverse-cons x xs)
filter-one p x xs false = append-nil (reverse xs)

filter-reverse : {X : Type 0} (p : X → Bool) (xs : List X)
    → filter p (reverse xs) ≡ reverse (filter p xs)
filter-reverse p [] = refl
filter-reverse p (x ∷ xs) = ap (filter p) (reverse-cons x xs) ∙ filter-append p (reverse xs) (x
    ∷ []) ∙ ap (λ ys. ys ++ cond (p x) (x ∷ []) []) (filter-reverse p xs)
    ∙ filter-one p x (filter p xs) (p x)

filter-ordered : {X : Type 0} (p : X → Bool) (down : Bool) (xs : List X)
    → filter p (ordered down xs) ≡ ordered down (filter p xs)
filter-ordered p true xs = filter-reverse p xs
filter-ordered p false xs = refl

ordered-ordered : {X : Type 0} (down : Bool) (xs : List X) → ordered down (ordered down xs) ≡ xs
ordered-ordered true xs = reverse-reverse xs
ordered-ordered false xs = refl

length-ordered : {X : Type 0} (down : Bool) (xs : List X) → length (ordered down xs) ≡ length xs
length-ordered true xs = length-reverse xs
length-ordered false xs = refl

-- a property of all ids, and a chain
abbrev pub AllIds : {A : Type 0} → (Id → Type 0) → List (Id × A) → Type 0
AllIds P [] = Unit {0}
AllIds P (row ∷ rows) = P row.0 × AllIds P rows

abbrev pub Chain : {A : Type 0} → (Id → Id → Type 0) → List (Id × A) → Type 0
Chain R [] = Unit {0}
Chain R (row ∷ rows) = AllIds (R row.0) rows × Chain R rows

all_trimmed_case : (P : Id → Type 0) (row : Row) (more skipped last : List Mark) (z f : Bool)
    → P row.0 → AllIds P more → AllIds P skipped → AllIds P last
    → AllIds P
    (if z then skipped else (if f then (row.0, Some row.1) ∷ more else ((row.0, None) ∷ last)))
all_trimmed_case P row more skipped last true f h hm hs hl = hs
all_trimmed_case P row more skipped last false true h hm hs hl = (h, hm)
all_trimmed_case P row more skipped last false false h hm hs hl = (h, hl)

all_trimmed : (P : Id → Type 0) (w : DocumentRules) (place : Id → ℕ) (rows : List Row)
    → AllIds P rows → (c r : ℕ → ℕ) → AllIds P (trimmed w place c r rows)
all_trimmed P w place [] h = λ c r. tt
all_trimmed P w place (row ∷ rows) h = λ c r.
    all_trimmed_case P row (trimmed w place (bump (place row.0) (c (place row.0) - 1) c)
    (bump (place row.0) (r (place row.0) - w.size row.1) r) rows) (trimmed w place c r rows)
    (trimmed w place (bump (place row.0) 0 c) r rows)
    (nat_eq (c (place row.0)) 0) (nat_le (w.size row.1) (r (place row.0))) h.0
    (all_trimmed P w place rows h.1 (bump (place row.0) (c (place row.0) - 1) c) (bump (place row.0)
    (r (place row.0) - w.size row.1) r)) (all_trimmed P w place rows h.1 c r)
    (all_trimmed P w place rows h.1 (bump (place row.0) 0 c) r)

chain_trimmed_case : (R : Id → Id → Type 0) (row : Row) (more skipped last : List Mark) (z f : Bool)
    → AllIds (R row.0) more → AllIds (R row.0) last → Chain R more → Chain R skipped → Chain R last
    → Chain R
    (if z then skipped else (if f then (row.0, Some row.1) ∷ more else ((row.0, None) ∷ last)))
chain_trimmed_case R row more skipped last true f am al hm hs hl = hs
chain_trimmed_case R row more skipped last false true am al hm hs hl = (am, hm)
chain_trimmed_case R row more skipped last false false am al hm hs hl = (al, hl)

chain_trimmed : (R : Id → Id → Type 0) (w : DocumentRules) (place : Id → ℕ) (rows : List Row)
    → Chain R rows → (c r : ℕ → ℕ) → Chain R (trimmed w place c r rows)
chain_trimmed R w place [] h = λ c r. tt
chain_trimmed R w place (row ∷ rows) h = λ c r.
    chain_trimmed_case R row (trimmed w place (bump (place row.0) (c (place row.0) - 1) c)
    (bump (place row.0) (r (place row.0) - w.size row.1) r) rows) (trimmed w place c r rows)
    (trimmed w place (bump (place row.0) 0 c) r rows)
    (nat_eq (c (place row.0)) 0) (nat_le (w.size row.1) (r (place row.0)))
    (all_trimmed (R row.0) w place rows h.0 (bump (place row.0) (c (place row.0) - 1) c)
    (bump (place row.0) (r (place row.0) - w.size row.1) r))
    (all_trimmed (R row.0) w place rows h.0 (bump (place row.0) 0 c) r)
    (chain_trimmed R w place rows h.1 (bump (place row.0) (c (place row.0) - 1) c)
    (bump (place row.0) (r (place row.0) - w.size row.1) r)) (chain_trimmed R w place rows h.1 c
    r) (chain_trimmed R w place rows h.1 (bump (place row.0) 0 c) r)

pub all_append : {A : Type 0} (P : Id → Type 0) (xs ys : List (Id × A)) → AllIds P xs → AllIds P ys
    → AllIds P (xs ++ ys)
all_append P [] ys hx hy = hy
all_append P (x ∷ xs) ys hx hy = (hx.0, all_append P xs ys hx.1 hy)

all_reverse : {A : Type 0} (P : Id → Type 0) (xs : List (Id × A)) → AllIds P xs
    → AllIds P (reverse xs)
all_reverse P [] h = tt
all_reverse P (x ∷ xs) h = subst (AllIds P) (sym (reverse-cons x xs)) (all_append P (reverse xs)
    (x ∷ []) (all_reverse P xs h.1) (h.0, tt))

chain_snoc : {A : Type 0} (R : Id → Id → Type 0) (xs : List (Id × A)) (x : Id × A) → Chain R xs
    → AllIds (λ id. R id x.0) xs → Chain R (xs ++ x ∷ [])
chain_snoc R [] x h a = (tt, tt)
chain_snoc R (y ∷ xs) x h a =
    (all_append (R y.0) xs (x ∷ []) h.0 (a.0, tt), chain_snoc R xs x h.1 a.1)

chain_reverse : {A : Type 0} (R : Id → Id → Type 0) (xs : List (Id × A)) → Chain R xs
    → Chain (λ a b. R b a) (reverse xs)
chain_reverse R [] h = tt
chain_reverse R (x ∷ xs) h = subst (Chain (λ a b. R b a)) (sym (reverse-cons x xs))
    (chain_snoc (λ a b. R b a) (reverse xs) x (chain_reverse R xs h.1) (all_reverse (R x.0) xs h.0))

abbrev below : Id → Id → Type 0
below a b = id_cmp a b ≡ Less

all_of_above : {A : Type 0} (id : Id) (rows : List (Id × A)) → AllAbove id rows
    → AllIds (below id) rows
all_of_above id [] h = tt
all_of_above id (row ∷ rows) h = (h.0, all_of_above id rows h.1)

above_of_all : {A : Type 0} (id : Id) (rows : List (Id × A)) → AllIds (below id) rows
    → AllAbove id rows
above_of_all id [] h = tt
above_of_all id (row ∷ rows) h = (h.0, above_of_all id rows h.1)

chain_of_rising : {A : Type 0} (rows : List (Id × A)) → IsRising rows → Chain below rows
chain_of_rising [] h = tt
chain_of_rising (row ∷ rows) h = (all_of_above row.0 rows h.0, chain_of_rising rows h.1)

rising_of_chain : {A : Type 0} (rows : List (Id × A)) → Chain below rows → IsRising rows
rising_of_chain [] h = tt
rising_of_chain (row ∷ rows) h = (above_of_all row.0 rows h.0, rising_of_chain rows h.1)

-- the marks of all, rising again
rising_marks : (w : DocumentRules) (place : Id → ℕ) (c r : ℕ → ℕ) (down : Bool) (rows : List Row)
    → IsRising rows → IsRising (ordered down (trimmed w place c r (ordered down rows)))
rising_marks w place c r false rows h = rising_of_chain (trimmed w place c r rows)
    (chain_trimmed below w place rows (chain_of_rising rows h) c r)
rising_marks w place c r true rows h =
    rising_of_chain (reverse (trimmed w place c r (reverse rows)))
    (chain_reverse (λ a b. below b a) (trimmed w place c r (reverse rows)) (chain_trimmed (λ a b.
    below b a) w place (reverse rows) (chain_reverse below rows (chain_of_rising rows h)) c r))

all_ordered : {A : Type 0} (P : Id → Type 0) (down : Bool) (xs : List (Id × A)) → AllIds P xs
    → AllIds P (ordered down xs)
all_ordered P true xs h = all_reverse P xs h
all_ordered P false xs h = h

named_of_all : {A : Type 0} (place : Id → ℕ) (shards : List ℕ) (rows : List (Id × A))
    → AllIds (λ id. 1 ≤ times (place id) shards) rows → AreNamed place shards rows
named_of_all place shards [] h = tt
named_of_all place shards (row ∷ rows) h = (h.0, named_of_all place shards rows h.1)

all_of_named : {A : Type 0} (place : Id → ℕ) (shards : List ℕ) (rows : List (Id × A))
    → AreNamed place shards rows → AllIds (λ id. 1 ≤ times (place id) shards) rows
all_of_named place shards [] h = tt
all_of_named place shards (row ∷ rows) h = (h.0, all_of_named place shards rows h.1)

named_marks : (w : DocumentRules) (place : Id → ℕ) (shards : List ℕ) (c r : ℕ
    → ℕ) (down : Bool) (rows : List Row) → AreNamed place shards rows
    → AreNamed place shards (ordered down (trimmed w place c r (ordered down rows)))
named_marks w place shards c r down rows h =
    named_of_all place shards (ordered down (trimmed w place c r (ordered down rows)))
    (all_ordered (λ id. 1 ≤ times (place id) shards) down (trimmed w place c r (ordered down rows))
    (all_trimmed (λ id. 1 ≤ times (place id) shards) w place (ordered down rows) (all_ordered
    (λ id. 1 ≤ times (place id) shards) down rows (all_of_named place shards rows h)) c r))

-- lengths
length_filter_case : {X : Type 0} (x : X) (xs ys : List X) (b : Bool) → length xs ≤ length ys
    → length (cond b (x ∷ xs) xs) ≤ length (x ∷ ys)
length_filter_case x xs ys true h = omega (arith, h)
length_filter_case x xs ys false h = omega (arith, h)

length_filter : {X : Type 0} (p : X → Bool) (xs : List X) → length (filter p xs) ≤ length xs
length_filter p [] = omega arith
length_filter p (x ∷ xs) = length_filter_case x (filter p xs) xs (p x) (length_filter p xs)

length_trimmed_case : (row : Row) (more skipped last : List Mark) (n : ℕ) (z f : Bool)
    → length more ≤ n → length skipped ≤ n → length last ≤ n
    → length (if z then skipped
    else (if f then (row.0, Some row.1) ∷ more else ((row.0, None) ∷ last))) ≤ n + 1
length_trimmed_case row more skipped last n true f hm hs hl = omega (arith, hs)
length_trimmed_case row more skipped last n false true hm hs hl = omega (arith, hm)
length_trimmed_case row more skipped last n false false hm hs hl = omega (arith, hl)

length_trimmed : (w : DocumentRules) (place : Id → ℕ) (rows : List Row) (c r : ℕ → ℕ)
    → length (trimmed w place c r rows) ≤ length rows
length_trimmed w place [] c r = omega arith
length_trimmed w place (row ∷ rows) c r =
    let h : length (trimmed w place c r (row ∷ rows)) ≤ length rows + 1 =
    length_trimmed_case row (trimmed w place (bump (place row.0) (c (place row.0) - 1) c)
    (bump (place row.0) (r (place row.0) - w.size row.1) r) rows) (trimmed w place c r rows)
    (trimmed w place (bump (place row.0) 0 c) r rows) (length rows)
    (nat_eq (c (place row.0)) 0) (nat_le (w.size row.1) (r (place row.0)))
    (length_trimmed w place rows (bump (place row.0) (c (place row.0) - 1) c)
    (bump (place row.0) (r (place row.0) - w.size row.1) r)) (length_trimmed w place rows c r)
    (length_trimmed w place rows (bump (place row.0) 0 c) r) in omega (arith, h)

-- a limit, 0 being none, as a number
abbrev allowed : ℕ → ℕ → ℕ
allowed limit n = if nat_eq limit 0 then n else limit

first_case : {X : Type 0} (limit n : ℕ) (b : Bool) (xs : List X) → length xs ≤ n
    → (if b then xs else take limit xs) ≡ take (if b then n else limit) xs
first_case limit n true xs h = sym (take_all n xs h)
first_case limit n false xs h = refl

first_allowed : {X : Type 0} (limit n : ℕ) (xs : List X) → length xs ≤ n
    → first_of limit xs ≡ take (allowed limit n) xs
first_allowed limit n xs h = first_case limit n (nat_eq limit 0) xs h

known_filter_case : (w : DocumentRules) (row : Row) (rows : List Row) (b : Bool)
    → w.id_in row.1 ≡ Some row.0 → AreKnown w rows → AreKnown w (cond b (row ∷ rows) rows)
known_filter_case w row rows true h more = (h, more)
known_filter_case w row rows false h more = more

known_filter : (w : DocumentRules) (p : Row → Bool) (rows : List Row) → AreKnown w rows
    → AreKnown w (filter p rows)
known_filter w p [] h = tt
known_filter w p (row ∷ rows) h =
    known_filter_case w row (filter p rows) (p row) h.0 (known_filter w p rows h.1)

known_append : (w : DocumentRules) (xs ys : List Row) → AreKnown w xs → AreKnown w ys
    → AreKnown w (xs ++ ys)
known_append w [] ys hx hy = hy
known_append w (x ∷ xs) ys hx hy = (hx.0, known_append w xs ys hx.1 hy)

known_reverse : (w : DocumentRules) (xs : List Row) → AreKnown w xs → AreKnown w (reverse xs)
known_reverse w [] h = tt
known_reverse w (x ∷ xs) h = subst (AreKnown w) (sym (reverse-cons x xs)) (known_append w
    (reverse xs) (x ∷ []) (known_reverse w xs h.1) (h.0, tt))

known_ordered : (w : DocumentRules) (down : Bool) (xs : List Row) → AreKnown w xs
    → AreKnown w (ordered down xs)
known_ordered w true xs h = known_reverse w xs h
known_ordered w false xs h = h

-- the rows asked for, in the order of the operation
abbrev asked : Bool → (Row → Bool) → List Row → List Row
asked down wanted rows = ordered down (filter wanted rows)

abbrev whole_marks : DocumentRules → ℕ → (Id → ℕ) → Bool → ℕ → (Row → Bool) → List Row → List Mark
whole_marks w room place down limit wanted rows = trimmed w place (λ _.
    allowed limit (length (asked down wanted rows))) (λ _. room) (asked down wanted rows)

asked_at : (place : Id → ℕ) (s : ℕ) (down : Bool) (wanted : Row → Bool) (rows : List Row)
    → asked down wanted (at (here place s) rows) ≡ at (here place s) (asked down wanted rows)
asked_at place s down wanted rows = ap (ordered down) (filters wanted (λ row. here place s row.0)
    rows) ∙ sym (filter-ordered (λ row. here place s row.0) down (filter wanted rows))

part_told : (w : DocumentRules) (room : ℕ) (place : Id → ℕ) (down : Bool) (limit : ℕ) (wanted : Row
    → Bool) (rows : List Row) (s : ℕ) → AreKnown w rows
    → ordered down (marks_of w (found_by w room (at (here place s) rows) down limit wanted))
    ≡ at (here place s) (ordered down (whole_marks w room place down limit wanted rows))
part_told w room place down limit wanted rows s known =
    ap (ordered down)
    (ap (λ xs. marks_of w (cut_rows w room (first_of limit xs))) (asked_at place s down wanted rows)
    ∙ ap (λ xs. marks_of w (cut_rows w room xs)) (first_allowed limit
    (length (asked down wanted rows)) (at (here place s) (asked down wanted rows))
    (length_filter (λ row. here place s row.0) (asked down wanted rows)))
    ∙ told_marks w (allowed limit (length (asked down wanted rows))) room (at (here place s)
    (asked down wanted rows)) (known_filter w (λ row. here place s row.0) (asked down wanted
    rows) (known_ordered w down (filter wanted rows) (known_filter w wanted rows known)))
    ∙ sym (part_marks w place s (asked down wanted rows)
    (λ _. allowed limit (length (asked down wanted rows))) (λ _. room)))
    ∙ sym (filter-ordered (λ mark. here place s mark.0) down
    (whole_marks w room place down limit wanted rows))

parts_told : (w : DocumentRules) (room : ℕ) (place : Id → ℕ) (down : Bool) (limit : ℕ) (wanted : Row
    → Bool) (rows : List Row) (shards : List ℕ) → AreKnown w rows
    → map (λ told. ordered down (marks_of w told))
    (map (λ s. found_by w room (at (here place s) rows) down limit wanted) shards) ≡ map (λ s.
    at (here place s) (ordered down (whole_marks w room place down limit wanted rows))) shards
parts_told w room place down limit wanted rows [] known = refl
parts_told w room place down limit wanted rows (s ∷ shards) known =
    ap₂ (λ (x : List Mark) xs. x ∷ xs) (part_told w room place down limit wanted rows s known)
    (parts_told w room place down limit wanted rows shards known)

-- the merged replies of the parts are the reply over all rows, cut or not
pub finds_merge : (w : DocumentRules) (room : ℕ) (place : Id → ℕ) (shards : List ℕ) (down : Bool)
    (limit : ℕ) (wanted : Row → Bool) (rows : List Row)
    → IsRising rows → AreKnown w rows → AreNamed place shards (filter wanted rows)
    → merged w room down limit (map (λ s. found_by w room (at (here place s) rows) down limit
    wanted) shards) ≡ found_by w room rows down limit wanted
finds_merge w room place shards down limit wanted rows rising known names =
    ap (λ parts. cut_marks w room (first_of limit (ordered down (joined [] parts))))
    (parts_told w room place down limit wanted rows shards known)
    ∙ ap (λ xs. cut_marks w room (first_of limit (ordered down xs)))
    (join_parts place shards (ordered down (whole_marks w room place down limit wanted rows))
    (rising_marks w place (λ _. allowed limit (length (asked down wanted rows))) (λ _. room) down
    (filter wanted rows) (rising_filter wanted rows rising))
    (named_marks w place shards (λ _. allowed limit (length (asked down wanted rows))) (λ _. room)
    down (filter wanted rows) names))
    ∙ ap (λ xs. cut_marks w room (first_of limit xs))
    (ordered-ordered down (whole_marks w room place down limit wanted rows))
    ∙ ap (cut_marks w room) (first_allowed limit (length (asked down wanted rows)) (whole_marks w
    room place down limit wanted rows) (length_trimmed w place (asked down wanted rows)
    (λ _. allowed limit (length (asked down wanted rows))) (λ _. room)))
    ∙ cut_same w place (asked down wanted rows) (allowed limit (length (asked down wanted rows)))
    room (λ _. allowed limit (length (asked down wanted rows))) (λ _. room)
    (λ t. le_refl (allowed limit (length (asked down wanted rows)))) (λ t. le_refl room)
    ∙ ap (cut_rows w room) (sym (first_allowed limit (length (asked down wanted rows))
    (asked down wanted rows) (le_refl (length (asked down wanted rows)))))
