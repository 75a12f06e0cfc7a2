-- A list of things under sessions, with one put in.
use Rattle.std.proofs.Common.{◌≡◌, ◌≤◌, ◌+◌, max, Bool, true, false, not, cond, [], ◌∷◌, filter}
use Rattle.std.proofs.Common.{find, length, Some, option_map, refl, ap, subst, sym, arith}
use Rattle.std.specs.Ordering.{is_eq}
use Rattle.txn_types.specs.BySession.{BySession, entry_of, with_entry}
use Rattle.txn_types.specs.Order.{same_lsid, lsid_cmp}
use Rattle.txn_types.specs.declared.node.Lsid.{Lsid}
use Rattle.txn_types.proofs.Orders.{lsid_total, lsid_exact}
use Rattle.txn_semantics.proofs.Laying.{cmp_self}
use Rattle.shard_image.proofs.Changing.{is_equal}

pub own_lsid : (lsid : Lsid) → same_lsid lsid lsid ≡ true
own_lsid lsid = ap is_eq (cmp_self lsid_cmp lsid_total lsid_exact lsid)

pub lsid_is : (a b : Lsid) → same_lsid a b ≡ true → a ≡ b
lsid_is a b h = lsid_exact a b (is_equal (lsid_cmp a b) h)

module _ {A : Type 0} (lsid : Lsid) where
  own_case : (a : A) (entry : Lsid × A) (entries : BySession A) (test : Bool)
      → same_lsid lsid entry.0 ≡ test → entry_of lsid (with_entry lsid a entries) ≡ Some a
      → entry_of lsid (cond test ((lsid, a) ∷ entries) (entry ∷ with_entry lsid a entries)) ≡ Some a
  own_case a entry entries true is more = rw (own_lsid lsid) refl
  own_case a entry entries false is more = rw is more

  pub entry_there : (a : A) (entries : BySession A)
      → entry_of lsid (with_entry lsid a entries) ≡ Some a
  entry_there a [] = rw (own_lsid lsid) refl
  entry_there a (entry ∷ entries) =
      own_case a entry entries (same_lsid lsid entry.0) refl (entry_there a entries)

  twice_case : (a b : A) (entry : Lsid × A) (entries : BySession A) (test : Bool)
      → same_lsid lsid entry.0 ≡ test
      → with_entry lsid b (with_entry lsid a entries) ≡ with_entry lsid b entries
      → with_entry lsid b (cond test ((lsid, a) ∷ entries) (entry ∷ with_entry lsid a entries))
      ≡ cond test ((lsid, b) ∷ entries) (entry ∷ with_entry lsid b entries)
  twice_case a b entry entries true is more = rw (own_lsid lsid) refl
  twice_case a b entry entries false is more = rw is (ap (λ (xs : BySession A). entry ∷ xs) more)

  -- what was put in is put in anew
  pub with_entry_twice : (a b : A) (entries : BySession A)
      → with_entry lsid b (with_entry lsid a entries) ≡ with_entry lsid b entries
  with_entry_twice a b [] = rw (own_lsid lsid) refl
  with_entry_twice a b (entry ∷ entries) =
      twice_case a b entry entries (same_lsid lsid entry.0) refl (with_entry_twice a b entries)

  again_case : (a : A) (entry : Lsid × A) (entries : BySession A) (test : Bool)
      → same_lsid lsid entry.0 ≡ test → option_map (λ (entry : Lsid × A).
      entry.1) (cond test (Some entry) (find (λ entry. same_lsid lsid entry.0) entries)) ≡ Some a
      → (entry_of lsid entries ≡ Some a → with_entry lsid a entries ≡ entries)
      → cond test ((lsid, a) ∷ entries) (entry ∷ with_entry lsid a entries) ≡ entry ∷ entries
  again_case a entry entries true is h more =
      let value : entry.1 ≡ a = cc in
      let key : lsid ≡ entry.0 = lsid_is lsid entry.0 is in
      rw (key, sym value) refl
  again_case a entry entries false is h more = ap (λ (xs : BySession A). entry ∷ xs) (more h)

  -- what stands there may be put in
  pub with_entry_again : (a : A) (entries : BySession A) → entry_of lsid entries ≡ Some a
      → with_entry lsid a entries ≡ entries
  with_entry_again a [] h = cc
  with_entry_again a (entry ∷ entries) h =
      again_case a entry entries (same_lsid lsid entry.0) refl h (with_entry_again a entries)

  length_case : (a : A) (entry : Lsid × A) (entries : BySession A) (test : Bool)
      → length (with_entry lsid a entries)
      ≤ max (length entries) (length (filter (λ entry. not (same_lsid lsid entry.0)) entries) + 1)
      → length (cond test ((lsid, a) ∷ entries) (entry ∷ with_entry lsid a entries))
      ≤ max (length (entry ∷ entries))
      (length (cond (not test) (entry ∷ filter (λ entry. not (same_lsid lsid entry.0)) entries)
      (filter (λ entry. not (same_lsid lsid entry.0)) entries)) + 1)
  length_case a entry entries true more = omega arith
  length_case a entry entries false more = omega arith

  -- they are one more than the others at most
  pub length_with_entry : (a : A) (entries : BySession A) → length (with_entry lsid a entries)
      ≤ max (length entries) (length (filter (λ entry. not (same_lsid lsid entry.0)) entries) + 1)
  length_with_entry a [] = omega arith
  length_with_entry a (entry ∷ entries) =
      length_case a entry entries (same_lsid lsid entry.0) (length_with_entry a entries)

-- other sessions stay
other_of : (other lsid there : Lsid) → same_lsid other lsid ≡ false → same_lsid lsid there ≡ true
    → same_lsid other there ≡ false
other_of other lsid there apart e =
    subst (λ (l : Lsid). same_lsid other l ≡ false) (lsid_is lsid there e) apart

module _ {A : Type 0} (other lsid : Lsid) (apart : same_lsid other lsid ≡ false) where
  same_case : (a : A) (entry : Lsid × A) (entries : BySession A) (test : Bool)
      → same_lsid lsid entry.0 ≡ test
      → find (λ entry. same_lsid other entry.0) (with_entry lsid a entries)
      ≡ find (λ entry. same_lsid other entry.0) entries
      → find (λ entry. same_lsid other entry.0) (cond test ((lsid, a) ∷ entries) (entry
      ∷ with_entry lsid a entries)) ≡ find (λ entry. same_lsid other entry.0) (entry ∷ entries)
  same_case a entry entries true is more = rw (apart, other_of other lsid entry.0 apart is) refl
  same_case a entry entries false is more = ap (cond (same_lsid other entry.0) (Some entry)) more

  found_elsewhere : (a : A) (entries : BySession A)
      → find (λ entry. same_lsid other entry.0) (with_entry lsid a entries)
      ≡ find (λ entry. same_lsid other entry.0) entries
  found_elsewhere a [] = rw apart refl
  found_elsewhere a (entry ∷ entries) =
      same_case a entry entries (same_lsid lsid entry.0) refl (found_elsewhere a entries)

  pub entry_elsewhere : (a : A) (entries : BySession A)
      → entry_of other (with_entry lsid a entries) ≡ entry_of other entries
  entry_elsewhere a entries = ap (option_map (λ entry. entry.1)) (found_elsewhere a entries)
