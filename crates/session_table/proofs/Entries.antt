-- What a map by sessions holds, and the list of its entries.
use Rattle.std.proofs.Common.{◌≡◌, Bool, true, false, cond, List, [], ◌∷◌, ◌++◌, find, Some, None}
use Rattle.std.proofs.Common.{IsSome, option_map, Result, Ok, Err, IsOk, OnOk, refl, ap, ◌∙◌, sym}
use Rattle.std.proofs.Common.{subst, true≢false}
use Rattle.std.specs.List.{IsDistinct, AllByRecursion}
use Rattle.std.specs.Map.{lookup, keys_of}
use Rattle.std.specs.Ordering.{eq_by_cmp}
use Rattle.std.proofs.lemmas.Cmp.{eq_by_cmp_equiv}
use Rattle.std.proofs.lemmas.List.{append_assoc}
use Rattle.std.proofs.lemmas.Map.Keys.{IsDistinct-head, IsDistinct-tail}
use Rattle.std.proofs.lemmas.Map.Views.{tells_apart}
use Rattle.indexmap.specs.IndexMap.{insert_entry}
use Rattle.txn_types.specs.BySession.{BySession, entry_of, with_entry}
use Rattle.txn_types.specs.Order.{lsid_cmp, same_lsid}
use Rattle.txn_types.specs.declared.node.Lsid.{Lsid}
use Rattle.txn_types.proofs.Orders.{lsid_total, lsid_exact}

found_case : {A : Type 0} (entry : Lsid × A) (entries : BySession A) (lsid : Lsid) (b : Bool)
    → same_lsid lsid entry.0 ≡ b
    → lookup (eq_by_cmp lsid_cmp lsid) entries ≡ entry_of lsid entries
    → cond b (Some entry.1) (lookup (eq_by_cmp lsid_cmp lsid) entries)
    ≡ option_map (λ e. e.1) (cond b (Some entry) (find (λ e. same_lsid lsid e.0) entries))
found_case entry entries lsid true is rest = refl
found_case entry entries lsid false is rest = rest

-- what a map finds
pub found : {A : Type 0} (lsid : Lsid) (entries : BySession A)
    → lookup (eq_by_cmp lsid_cmp lsid) entries ≡ entry_of lsid entries
found lsid [] = refl
found lsid (entry ∷ entries) =
    found_case entry entries lsid (same_lsid lsid entry.0) refl (found lsid entries)

put_case : {A : Type 0} (lsid : Lsid) (a : A) (entry : Lsid
    × A) (old new entries : BySession A) (b : Bool) → same_lsid lsid entry.0 ≡ b → old ≡ new
    → cond b ((entry.0, a) ∷ entries) (entry ∷ old) ≡ cond b ((lsid, a) ∷ entries) (entry ∷ new)
put_case lsid a entry old new entries true is rest =
    ap (λ (l : Lsid). (l, a) ∷ entries) (sym (tells_apart lsid_exact lsid entry.0 is))
put_case lsid a entry old new entries false is rest = ap (λ (es : BySession _). entry ∷ es) rest

-- what is put into a map
pub put : {A : Type 0} (lsid : Lsid) (a : A) (entries : BySession A)
    → insert_entry (eq_by_cmp lsid_cmp) entries lsid a ≡ with_entry lsid a entries
put lsid a [] = refl
put lsid a (entry ∷ entries) = put_case lsid a entry (insert_entry (eq_by_cmp lsid_cmp) entries lsid
    a) (with_entry lsid a entries) entries (same_lsid lsid entry.0) refl (put lsid a entries)

-- one more entry of a map is copied: the copy, and what is left to copy, are still what they were
kept_apart : {A : Type 0} (one lsid : Lsid) (a : A) (entries rest : BySession A)
    → AllByRecursion (λ other. same_lsid one other ≡ false) (keys_of (entries ++ (lsid, a) ∷ rest))
    → same_lsid one lsid ≡ false
kept_apart one lsid a [] rest h = h.0
kept_apart one lsid a (entry ∷ entries) rest h = kept_apart one lsid a entries rest h.1

put_last : {A : Type 0} (lsid : Lsid) (a : A) (entries rest : BySession A)
    → IsDistinct (eq_by_cmp lsid_cmp) (keys_of (entries ++ (lsid, a) ∷ rest))
    → with_entry lsid a entries ≡ entries ++ (lsid, a) ∷ []
put_last lsid a [] rest h = refl
put_last {A} lsid a (entry ∷ entries) rest h =
    let behind : List Lsid = keys_of (entries ++ (lsid, a) ∷ rest) in
    let other : same_lsid lsid entry.0 ≡ false = (eq_by_cmp_equiv lsid_total).symm lsid entry.0
    ∙ kept_apart entry.0 lsid a entries rest (IsDistinct-head (eq_by_cmp lsid_cmp) entry.0
    behind h) in
    ap (λ (b : Bool). cond b ((lsid, a) ∷ entries) (entry ∷ with_entry lsid a entries)) other
    ∙ ap (λ (es : BySession A). entry
    ∷ es) (put_last lsid a entries rest (IsDistinct-tail (eq_by_cmp lsid_cmp) entry.0 behind h))

pub copied_on : {A : Type 0} (P : BySession A
    → Type 0) (copy steps left : BySession A) (lsid lsid_again : Lsid) (a a_again : A)
    → IsDistinct (eq_by_cmp lsid_cmp) (keys_of (copy ++ steps)) → steps ≡ (lsid, a) ∷ left
    → lsid_again ≡ lsid → a_again ≡ a
    → P (copy ++ steps) → P (with_entry lsid_again a_again copy ++ left)
copied_on {A} P copy steps left lsid lsid_again a a_again r next same_key same_value so_far =
    let whole : copy ++ (lsid, a) ∷ left ≡ copy ++ steps =
    ap (λ (es : BySession A). copy ++ es) (sym next) in
    let now : with_entry lsid_again a_again copy ≡ copy ++ (lsid, a) ∷ [] =
    ap (λ (l : Lsid). with_entry l a_again copy) same_key
    ∙ ap (λ (x : A). with_entry lsid x copy) same_value
    ∙ put_last lsid a copy left (subst (λ (es : BySession A).
    IsDistinct (eq_by_cmp lsid_cmp) (keys_of es)) (sym whole) r) in
    subst P (sym (ap (λ (es : BySession A). es ++ left) now
    ∙ append_assoc copy ((lsid, a) ∷ []) left ∙ whole)) so_far

-- a map that has no entry under the session has none
pub absent : {A : Type 0} (lsid : Lsid) (entries : BySession A)
    → lookup (eq_by_cmp lsid_cmp lsid) entries ≡ None → IsSome (entry_of lsid entries) → ⊥
absent lsid entries none some =
    true≢false (sym (subst IsSome (sym (found lsid entries) ∙ none) some))

-- what holds at Ok, of what is Ok
pub on_ok : {T E : Type 0} (P : Type 0) (r : Result T E) → IsOk r → OnOk r P → P
on_ok P (Ok t) is h = h
on_ok P (Err e) is h = absurd (true≢false (sym is))
