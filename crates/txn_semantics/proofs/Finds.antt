-- Finds of parts, merged.
use Rattle.std.proofs.Common.{◌≡◌, ◌<◌, ◌≤◌, ℕ, zero, suc, List, [], ◌∷◌, ◌-◌, Bool, true, false}
use Rattle.std.proofs.Common.{cond, refl, ap, ap₂, subst, ◌∙◌, sym, take, nat_eq, nat_le, arith}
use Rattle.std.proofs.Common.{if◌then◌else◌, Some, None, eqb-true, eq-eqb, ne_eqb, leb-true}
use Rattle.std.proofs.Common.{leb-false}
use Rattle.txn_types.specs.declared.id.Id.{Id}
use Rattle.txn_semantics.specs.Effect.{AreKnown, DocumentRules}
use Rattle.txn_semantics.specs.Found.{with_doc, cut_rows, Mark, marks_of, cut_marks}
use Rattle.txn_semantics.specs.Rows.{Row, at}
use Rattle.txn_semantics.specs.Splits.{here}

abbrev pub bump : ℕ → ℕ → (ℕ → ℕ) → ℕ → ℕ
bump k n c t = if nat_eq k t then n else c t

-- the marks that a part gives of rows, with this many allowed and this room
abbrev pub trim : DocumentRules → ℕ → ℕ → List Row → List Mark
trim w c r [] = []
trim w c r (row ∷ rows) = if nat_eq c 0 then [] else (if nat_le (w.size row.1) r
    then (row.0, Some row.1) ∷ trim w (c - 1) (r - w.size row.1) rows else ((row.0, None) ∷ []))

-- the same of all parts, in the order of all rows
abbrev pub trimmed : DocumentRules → (Id → ℕ) → (ℕ → ℕ) → (ℕ → ℕ) → List Row → List Mark
trimmed w place c r [] = []
trimmed w place c r (row ∷ rows) =
    if nat_eq (c (place row.0)) 0 then trimmed w place c r rows
    else (if nat_le (w.size row.1) (r (place row.0))
    then (row.0, Some row.1) ∷ trimmed w place (bump (place row.0) (c (place row.0) - 1) c)
    (bump (place row.0) (r (place row.0) - w.size row.1) r) rows
    else (row.0, None) ∷ trimmed w place (bump (place row.0) 0 c) r rows)

trim_none : (w : DocumentRules) (c r : ℕ) (rows : List Row) → c ≡ 0 → trim w c r rows ≡ []
trim_none w c r [] h = refl
trim_none w c r (row ∷ rows) h = rw h refl

abbrev pub IsPart : DocumentRules → (Id → ℕ) → ℕ → List Row → Type 0
IsPart w place s rows = (c r : ℕ → ℕ)
    → at (here place s) (trimmed w place c r rows) ≡ trim w (c s) (r s) (at (here place s) rows)

part_same : (w : DocumentRules) (place : Id → ℕ) (c r : ℕ
    → ℕ) (row : Row) (rows : List Row) (z f : Bool) → nat_eq (c (place row.0)) 0 ≡ z
    → nat_eq (place row.0) (place row.0) ≡ true → IsPart w place (place row.0) rows
    → at (here place (place row.0)) (if z then trimmed w place c r rows
    else (if f
    then (row.0, Some row.1) ∷ trimmed w place (bump (place row.0) (c (place row.0) - 1) c)
    (bump (place row.0) (r (place row.0) - w.size row.1) r) rows
    else (row.0, None) ∷ trimmed w place (bump (place row.0) 0 c) r rows))
    ≡ (if z then [] else (if f then (row.0, Some row.1) ∷ trim w (c (place row.0) - 1) (r (place
    row.0) - w.size row.1) (at (here place (place row.0)) rows) else ((row.0, None) ∷ [])))
part_same w place c r row rows true f hz self more = more c r ∙ trim_none w (c (place row.0))
    (r (place row.0)) (at (here place (place row.0)) rows) (eqb-true (c (place row.0)) 0 hz)
part_same w place c r row rows false true hz self more =
    ap (λ b. cond b ((row.0, Some row.1) ∷ at (here place (place row.0))
    (trimmed w place (bump (place row.0) (c (place row.0) - 1) c)
    (bump (place row.0) (r (place row.0) - w.size row.1) r) rows))
    (at (here place (place row.0)) (trimmed w place (bump (place row.0) (c (place row.0) - 1) c)
    (bump (place row.0) (r (place row.0) - w.size row.1) r) rows))) self
    ∙ ap (λ (xs : List Mark). (row.0, Some row.1) ∷ xs) (more (bump (place row.0)
    (c (place row.0) - 1) c) (bump (place row.0) (r (place row.0) - w.size row.1) r)
    ∙ ap (λ b. trim w (cond b (c (place row.0) - 1) (c (place row.0))) (cond b (r (place row.0)
    - w.size row.1) (r (place row.0))) (at (here place (place row.0)) rows)) self)
part_same w place c r row rows false false hz self more =
    ap (λ b. cond b ((row.0, None)
    ∷ at (here place (place row.0)) (trimmed w place (bump (place row.0) 0 c) r rows))
    (at (here place (place row.0)) (trimmed w place (bump (place row.0) 0 c) r rows))) self
    ∙ ap (λ (xs : List Mark). (row.0, None) ∷ xs) (more (bump (place row.0) 0 c) r
    ∙ trim_none w (bump (place row.0) 0 c (place row.0)) (r (place row.0))
    (at (here place (place row.0)) rows) (ap (λ b. cond b 0 (c (place row.0))) self))

part_other : (w : DocumentRules) (place : Id → ℕ) (s : ℕ) (c r : ℕ → ℕ) (row : Row)
    (rows : List Row) (z f : Bool) → nat_eq (place row.0) s ≡ false → IsPart w place s rows
    → at (here place s) (if z then trimmed w place c r rows
    else (if f
    then (row.0, Some row.1) ∷ trimmed w place (bump (place row.0) (c (place row.0) - 1) c)
    (bump (place row.0) (r (place row.0) - w.size row.1) r) rows
    else (row.0, None) ∷ trimmed w place (bump (place row.0) 0 c) r rows))
    ≡ trim w (c s) (r s) (at (here place s) rows)
part_other w place s c r row rows true f other more = more c r
part_other w place s c r row rows false true other more =
    ap (λ b. cond b ((row.0, Some row.1) ∷ at (here place s) (trimmed w place (bump (place row.0)
    (c (place row.0) - 1) c) (bump (place row.0) (r (place row.0) - w.size row.1) r) rows))
    (at (here place s) (trimmed w place (bump (place row.0) (c (place row.0) - 1) c)
    (bump (place row.0) (r (place row.0) - w.size row.1) r) rows))) other
    ∙ more (bump (place row.0) (c (place row.0) - 1) c)
    (bump (place row.0) (r (place row.0) - w.size row.1) r)
    ∙ ap (λ b. trim w (cond b (c (place row.0) - 1) (c s))
    (cond b (r (place row.0) - w.size row.1) (r s)) (at (here place s) rows)) other
part_other w place s c r row rows false false other more =
    ap (λ b. cond b ((row.0, None) ∷ at (here place s) (trimmed w place (bump (place row.0) 0 c) r
    rows)) (at (here place s) (trimmed w place (bump (place row.0) 0 c) r rows))) other
    ∙ more (bump (place row.0) 0 c) r
    ∙ ap (λ b. trim w (cond b 0 (c s)) (r s) (at (here place s) rows)) other

part_case : (w : DocumentRules) (place : Id → ℕ) (s : ℕ) (c r : ℕ → ℕ) (row : Row) (rows : List Row)
    (b : Bool) → nat_eq (place row.0) s ≡ b → IsPart w place s rows
    → at (here place s) (trimmed w place c r (row ∷ rows))
    ≡ trim w (c s) (r s) (cond b (row ∷ at (here place s) rows) (at (here place s) rows))
part_case w place s c r row rows true is more =
    subst (λ s. IsPart w place s rows → at (here place s) (trimmed w place c r (row ∷ rows))
    ≡ trim w (c s) (r s) (row ∷ at (here place s) rows)) (eqb-true (place row.0) s is)
    (λ m. part_same w place c r row rows (nat_eq (c (place row.0)) 0) (nat_le (w.size row.1)
    (r (place row.0))) refl (eq-eqb (place row.0) (place row.0) refl) m) more
part_case w place s c r row rows false is more = part_other w place s c r row rows
    (nat_eq (c (place row.0)) 0) (nat_le (w.size row.1) (r (place row.0))) is more

pub part_marks : (w : DocumentRules) (place : Id → ℕ) (s : ℕ) (rows : List Row)
    → IsPart w place s rows
part_marks w place s [] = λ c r. refl
part_marks w place s (row ∷ rows) = λ c r. part_case w place s c r row rows (nat_eq (place row.0) s)
    refl (part_marks w place s rows)

-- the cut of all rows and of their marks
abbrev pub IsAtMost : ℕ → (ℕ → ℕ) → Type 0
IsAtMost n c = (t : ℕ) → n ≤ c t

bump_case : (n m x : ℕ) (b : Bool) → n ≤ m → n ≤ x → n ≤ (if b then m else x)
bump_case n m x true h g = h
bump_case n m x false h g = g

bump_most : (n k m : ℕ) (c : ℕ → ℕ) → n ≤ m → ((t : ℕ) → n ≤ c t) → IsAtMost n (bump k m c)
bump_most n k m c h more = λ t. bump_case n m (c t) (nat_eq k t) h (more t)

fits_case : (w : DocumentRules) (room n : ℕ) (row : Row) (marks : List Mark) (rows : List Row)
    (f : Bool) → nat_le (w.size row.1) room ≡ f
    → (w.size row.1 ≤ room → cut_marks w (room - w.size row.1) (take n marks)
    ≡ cut_rows w (room - w.size row.1) (take n rows))
    → (if f then with_doc row.1 (cut_marks w (room - w.size row.1) (take n marks))
    else ([], Some row.0)) ≡ (if f
    then with_doc row.1 (cut_rows w (room - w.size row.1) (take n rows)) else ([], Some row.0))
fits_case w room n row marks rows true is more =
    ap (with_doc row.1) (more (leb-true (w.size row.1) room is))
fits_case w room n row marks rows false is more = refl

lt_of : {a b c : ℕ} → b < c → a ≤ b → a < c
lt_of g h = omega (arith, g, h)

leb_case : (a b : ℕ) (f : Bool) → nat_le a b ≡ f → b < a → f ≡ false
leb_case a b true is h = absurd (omega (arith, leb-true a b is, h))
leb_case a b false is h = refl

lt-leb_false : (a b : ℕ) → b < a → nat_le a b ≡ false
lt-leb_false a b h = leb_case a b (nat_le a b) refl h

cut_case : (w : DocumentRules) (room n : ℕ) (row : Row) (marks gone : List Mark) (rows : List Row)
    (room' : ℕ) (f : Bool) → nat_le (w.size row.1) room' ≡ f → room ≤ room'
    → (w.size row.1 ≤ room → cut_marks w (room - w.size row.1) (take n marks)
    ≡ cut_rows w (room - w.size row.1) (take n rows))
    → cut_marks w room (take (suc n) (if f then (row.0, Some row.1) ∷ marks
    else ((row.0, None) ∷ gone))) ≡ cut_rows w room (row ∷ take n rows)
cut_case w room n row marks gone rows room' true is most more =
    fits_case w room n row marks rows (nat_le (w.size row.1) room) refl more
cut_case w room n row marks gone rows room' false is most more =
    let large : nat_le (w.size row.1) room ≡ false =
    lt-leb_false (w.size row.1) room (lt_of (leb-false (w.size row.1) room' is) most) in
    sym (ap (λ b. if b then with_doc row.1 (cut_rows w (room - w.size row.1) (take n rows))
    else ([], Some row.0)) large)

pub cut_same : (w : DocumentRules) (place : Id → ℕ) (rows : List Row) (n room : ℕ) (c r : ℕ → ℕ)
    → IsAtMost n c → IsAtMost room r
    → cut_marks w room (take n (trimmed w place c r rows)) ≡ cut_rows w room (take n rows)
cut_same w place [] zero room c r hc hr = refl
cut_same w place [] (suc n) room c r hc hr = refl
cut_same w place (row ∷ rows) zero room c r hc hr = refl
cut_same w place (row ∷ rows) (suc n) room c r hc hr =
    let k : ℕ = place row.0 in
    let some : nat_eq (c (place row.0)) 0 ≡ false =
    ne_eqb (c (place row.0)) 0 (λ e. omega (arith, e, hc (place row.0))) in
    ap (λ z. cut_marks w room (take (suc n) (if z then trimmed w place c r rows
    else (if nat_le (w.size row.1) (r (place row.0))
    then (row.0, Some row.1) ∷ trimmed w place (bump (place row.0) (c (place row.0) - 1) c)
    (bump (place row.0) (r (place row.0) - w.size row.1) r) rows
    else (row.0, None) ∷ trimmed w place (bump (place row.0) 0 c) r rows)))) some
    ∙ cut_case w room n row (trimmed w place (bump (place row.0) (c (place row.0) - 1) c)
    (bump (place row.0) (r (place row.0) - w.size row.1) r) rows)
    (trimmed w place (bump (place row.0) 0 c) r rows) rows (r (place row.0))
    (nat_le (w.size row.1) (r (place row.0))) refl (hr (place row.0))
    (λ fits. cut_same w place rows n (room - w.size row.1) (bump (place row.0) (c (place row.0) - 1)
    c) (bump (place row.0) (r (place row.0) - w.size row.1) r)
    (bump_most n (place row.0) (c (place row.0) - 1) c (omega (arith, hc (place row.0)))
    (λ t. omega (arith, hc t)))
    (bump_most (room - w.size row.1) (place row.0) (r (place row.0) - w.size row.1) r
    (omega (arith, hr (place row.0))) (λ t. omega (arith, hr t))))

-- what a part's reply tells
told_case : (w : DocumentRules) (c r : ℕ) (row : Row) (rows : List Row) (f : Bool)
    → w.id_in row.1 ≡ Some row.0
    → marks_of w (cut_rows w (r - w.size row.1) (take c rows)) ≡ trim w c (r - w.size row.1) rows
    → marks_of w (if f then with_doc row.1 (cut_rows w (r - w.size row.1) (take c rows))
    else ([], Some row.0)) ≡ (if f then (row.0, Some row.1) ∷ trim w c (r - w.size row.1) rows
    else ((row.0, None) ∷ []))
told_case w c r row rows true known more =
    ap (λ o. elim o [
      | None ↦ marks_of w (cut_rows w (r - w.size row.1) (take c rows))
      | Some id ↦ (id, Some row.1) ∷ marks_of w (cut_rows w (r - w.size row.1) (take c rows))
    ]) known
    ∙ ap (λ (xs : List Mark). (row.0, Some row.1) ∷ xs) more
told_case w c r row rows false known more = refl

pub told_marks : (w : DocumentRules) (c r : ℕ) (rows : List Row) → AreKnown w rows
    → marks_of w (cut_rows w r (take c rows)) ≡ trim w c r rows
told_marks w zero r [] known = refl
told_marks w zero r (row ∷ rows) known = refl
told_marks w (suc c) r [] known = refl
told_marks w (suc c) r (row ∷ rows) known =
    told_case w c r row rows (nat_le (w.size row.1) r) known.0
    (told_marks w c (r - w.size row.1) rows known.1)
    ∙ ap₂ (λ z n. if z then [] else (if nat_le (w.size row.1) r
    then (row.0, Some row.1) ∷ trim w n (r - w.size row.1) rows else ((row.0, None) ∷ [])))
    (sym (ne_eqb (suc c) 0 (λ e. omega (arith, e)))) (omega arith)
