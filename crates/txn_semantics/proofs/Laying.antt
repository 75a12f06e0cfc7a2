-- What stands under a key, put or taken out: the keys still rise; and what of it stands at a place.
use Rattle.std.proofs.Common.{◌≡◌, Bool, true, false, cond, List, [], ◌∷◌, refl, ap, subst, ◌∙◌}
use Rattle.std.proofs.Common.{sym}
use Rattle.std.specs.declared.cmp.Ordering.{Ordering}
use Rattle.std.specs.declared.cmp.Ordering.TheVariants.{Less, Equal, Greater}
use Rattle.std.specs.Ordering.{ordering_reverse}
use Rattle.std.specs.Cmp.{IsTotalOrder}
use Rattle.std.proofs.lemmas.Map.Lookups.{CmpEqualImpliesEq}
use Rattle.txn_semantics.specs.Keyed.{put, taken_out, laid, at, AllAbove, Rises}

module _ {K : Type 0} (cmp : K → K → Ordering) (total : IsTotalOrder cmp)
    (exact : CmpEqualImpliesEq cmp) where
  pub above_trans : {A : Type 0} (low key : K) (rows : List (K × A)) → cmp low key ≡ Less
      → AllAbove cmp key rows → AllAbove cmp low rows
  above_trans low key [] h above = tt
  above_trans low key (row ∷ rows) h above =
      (total.trans low key row.0 h above.0, above_trans low key rows h above.1)

  above_put_case : {A : Type 0} (low key : K) (a : A) (row : K
      × A) (rows : List (K × A)) (o : Ordering) → cmp low key ≡ Less → AllAbove cmp low (row ∷ rows)
      → AllAbove cmp low (put cmp key a rows)
      → AllAbove cmp low (elim o [
        | Less ↦ (key, a) ∷ row ∷ rows
        | Equal ↦ (key, a) ∷ rows
        | Greater ↦ row ∷ put cmp key a rows
      ])
  above_put_case low key a row rows Less h above more = (h, above)
  above_put_case low key a row rows Equal h above more = (h, above.1)
  above_put_case low key a row rows Greater h above more = (above.0, more)

  pub above_put : {A : Type 0} (low key : K) (a : A) (rows : List (K × A)) → cmp low key ≡ Less
      → AllAbove cmp low rows → AllAbove cmp low (put cmp key a rows)
  above_put low key a [] h above = (h, tt)
  above_put low key a (row ∷ rows) h above =
      above_put_case low key a row rows (cmp key row.0) h above (above_put low key a rows h above.1)

  rises_put_case : {A : Type 0} (key : K) (a : A) (row : K × A) (rows : List (K × A)) (o : Ordering)
      → cmp key row.0 ≡ o → Rises cmp (row ∷ rows) → Rises cmp (put cmp key a rows)
      → Rises cmp (elim o [
        | Less ↦ (key, a) ∷ row ∷ rows
        | Equal ↦ (key, a) ∷ rows
        | Greater ↦ row ∷ put cmp key a rows
      ])
  rises_put_case key a row rows Less is r more = ((is, above_trans key row.0 rows is r.0), r)
  rises_put_case key a row rows Equal is r more = let above : AllAbove cmp key rows =
      subst (λ k. AllAbove cmp k rows) (sym (exact key row.0 is)) r.0 in (above, r.1)
  rises_put_case key a row rows Greater is r more =
      (above_put row.0 key a rows (total.antisymm row.0 key ∙ ap ordering_reverse is) r.0, more)

  pub rises_put : {A : Type 0} (key : K) (a : A) (rows : List (K × A)) → Rises cmp rows
      → Rises cmp (put cmp key a rows)
  rises_put key a [] r = (tt, tt)
  rises_put key a (row ∷ rows) r =
      rises_put_case key a row rows (cmp key row.0) refl r (rises_put key a rows r.1)

  pub rises_laid : {A : Type 0} (rows others : List (K × A)) → Rises cmp rows
      → Rises cmp (laid cmp rows others)
  rises_laid rows [] r = r
  rises_laid rows (other ∷ others) r =
      rises_laid (put cmp other.0 other.1 rows) others (rises_put other.0 other.1 rows r)

  above_taken_out_case : {A : Type 0} (low key : K) (row : K × A) (rows : List (K × A))
      (o : Ordering) → AllAbove cmp low (row ∷ rows) → AllAbove cmp low (taken_out cmp key rows)
      → AllAbove cmp low
      (elim o [ Less ↦ row ∷ rows | Equal ↦ rows | Greater ↦ row ∷ taken_out cmp key rows ])
  above_taken_out_case low key row rows Less above more = above
  above_taken_out_case low key row rows Equal above more = above.1
  above_taken_out_case low key row rows Greater above more = (above.0, more)

  pub above_taken_out : {A : Type 0} (low key : K) (rows : List (K × A)) → AllAbove cmp low rows
      → AllAbove cmp low (taken_out cmp key rows)
  above_taken_out low key [] above = tt
  above_taken_out low key (row ∷ rows) above = above_taken_out_case low key row rows (cmp key row.0)
      above (above_taken_out low key rows above.1)

  rises_taken_out_case : {A : Type 0} (key : K) (row : K × A) (rows : List (K × A)) (o : Ordering)
      → Rises cmp (row ∷ rows) → Rises cmp (taken_out cmp key rows)
      → Rises cmp
      (elim o [ Less ↦ row ∷ rows | Equal ↦ rows | Greater ↦ row ∷ taken_out cmp key rows ])
  rises_taken_out_case key row rows Less r more = r
  rises_taken_out_case key row rows Equal r more = r.1
  rises_taken_out_case key row rows Greater r more = (above_taken_out row.0 key rows r.0, more)

  pub rises_taken_out : {A : Type 0} (key : K) (rows : List (K × A)) → Rises cmp rows
      → Rises cmp (taken_out cmp key rows)
  rises_taken_out key [] r = tt
  rises_taken_out key (row ∷ rows) r =
      rises_taken_out_case key row rows (cmp key row.0) r (rises_taken_out key rows r.1)

  above_at_case : {A : Type 0} (p : K
      → Bool) (id : K) (row : K × A) (rows : List (K × A)) (b : Bool) → cmp id row.0 ≡ Less
      → AllAbove cmp id (at p rows) → AllAbove cmp id (cond b (row ∷ at p rows) (at p rows))
  above_at_case p id row rows true h more = (h, more)
  above_at_case p id row rows false h more = more

  pub above_at : {A : Type 0} (p : K → Bool) (id : K) (rows : List (K × A)) → AllAbove cmp id rows
      → AllAbove cmp id (at p rows)
  above_at p id [] above = tt
  above_at p id (row ∷ rows) above =
      above_at_case p id row rows (p row.0) above.0 (above_at p id rows above.1)

  rises_at_case : {A : Type 0} (p : K → Bool) (row : K × A) (rows : List (K × A)) (b : Bool)
      → AllAbove cmp row.0 (at p rows) → Rises cmp (at p rows)
      → Rises cmp (cond b (row ∷ at p rows) (at p rows))
  rises_at_case p row rows true above more = (above, more)
  rises_at_case p row rows false above more = more

  pub rises_at : {A : Type 0} (p : K → Bool) (rows : List (K × A)) → Rises cmp rows
      → Rises cmp (at p rows)
  rises_at p [] r = tt
  rises_at p (row ∷ rows) r =
      rises_at_case p row rows (p row.0) (above_at p row.0 rows r.0) (rises_at p rows r.1)

  -- what is put in front
  pub put_first : {A : Type 0} (id : K) (a : A) (rows : List (K × A)) → AllAbove cmp id rows
      → put cmp id a rows ≡ (id, a) ∷ rows
  put_first id a [] above = refl
  put_first id a (row ∷ rows) above = rw (put, above.0) refl

  -- what is put, place by place
  put_in_case : {A : Type 0} (p : K → Bool) (id : K) (a : A) (row : K
      × A) (rows : List (K × A)) (o : Ordering) (b : Bool) → cmp id row.0 ≡ o → p row.0 ≡ b
      → p id ≡ true → AllAbove cmp row.0 rows
      → at p (put cmp id a rows) ≡ put cmp id a (at p rows)
      → at p (elim o [
        | Less ↦ (id, a) ∷ row ∷ rows
        | Equal ↦ (id, a) ∷ rows
        | Greater ↦ row ∷ put cmp id a rows
      ]) ≡ put cmp id a (cond b (row ∷ at p rows) (at p rows))
  put_in_case p id a row rows Less true is hb hid above more = rw (hid, hb, put, is) refl
  put_in_case p id a row rows Less false is hb hid above more = rw (
    hid,
    hb,
    put_first id a (at p rows) (above_at p id rows (above_trans id row.0 rows is above)),
  ) refl
  put_in_case p id a row rows Equal true is hb hid above more = rw (hid, put, is) refl
  put_in_case p id a row rows Equal false is hb hid above more = let wrong : true ≡ false = sym hid
      ∙ ap p (exact id row.0 is) ∙ hb in cc
  put_in_case p id a row rows Greater true is hb hid above more = rw (hb, more, put, is) refl
  put_in_case p id a row rows Greater false is hb hid above more = rw (hb, more) refl

  pub at-put_in : {A : Type 0} (p : K → Bool) (id : K) (a : A) (rows : List (K × A)) → p id ≡ true
      → Rises cmp rows → at p (put cmp id a rows) ≡ put cmp id a (at p rows)
  at-put_in p id a [] hid r = rw hid refl
  at-put_in p id a (row ∷ rows) hid r = put_in_case p id a row rows (cmp id row.0) (p row.0) refl
      refl hid r.0 (at-put_in p id a rows hid r.1)

  put_out_case : {A : Type 0} (p : K → Bool) (id : K) (a : A) (row : K
      × A) (rows : List (K × A)) (o : Ordering) → cmp id row.0 ≡ o → p id ≡ false
      → at p (put cmp id a rows) ≡ at p rows
      → at p (elim o [
        | Less ↦ (id, a) ∷ row ∷ rows
        | Equal ↦ (id, a) ∷ rows
        | Greater ↦ row ∷ put cmp id a rows
      ]) ≡ at p (row ∷ rows)
  put_out_case p id a row rows Less is hid more = rw hid refl
  put_out_case p id a row rows Equal is hid more = let there : p row.0 ≡ false =
      ap p (sym (exact id row.0 is)) ∙ hid in rw (hid, there) refl
  put_out_case p id a row rows Greater is hid more = rw more refl

  pub at-put_out : {A : Type 0} (p : K → Bool) (id : K) (a : A) (rows : List (K × A)) → p id ≡ false
      → at p (put cmp id a rows) ≡ at p rows
  at-put_out p id a [] hid = rw hid refl
  at-put_out p id a (row ∷ rows) hid =
      put_out_case p id a row rows (cmp id row.0) refl hid (at-put_out p id a rows hid)

  laid_case : {A : Type 0} (p : K → Bool) (rows : List (K × A)) (row : K
      × A) (others : List (K × A)) (b : Bool) → p row.0 ≡ b → Rises cmp rows
      → at p (laid cmp (put cmp row.0 row.1 rows) others)
      ≡ laid cmp (at p (put cmp row.0 row.1 rows)) (at p others)
      → at p (laid cmp (put cmp row.0 row.1 rows) others)
      ≡ laid cmp (at p rows) (cond b (row ∷ at p others) (at p others))
  laid_case p rows row others true is r more = more
      ∙ ap (λ xs. laid cmp xs (at p others)) (at-put_in p row.0 row.1 rows is r)
  laid_case p rows row others false is r more = more
      ∙ ap (λ xs. laid cmp xs (at p others)) (at-put_out p row.0 row.1 rows is)

  -- the part of what is laid is the part laid over the part
  pub at-laid : {A : Type 0} (p : K → Bool) (rows others : List (K × A)) → Rises cmp rows
      → at p (laid cmp rows others) ≡ laid cmp (at p rows) (at p others)
  at-laid p rows [] r = refl
  at-laid p rows (row ∷ others) r = laid_case p rows row others (p row.0) refl r (at-laid p
      (put cmp row.0 row.1 rows) others (rises_put row.0 row.1 rows r))

  -- joining parts of one rising list
  laid_behind_case : {A : Type 0} (row : K × A) (rows : List (K × A)) (other : K × A)
      → cmp row.0 other.0 ≡ Less
      → put cmp other.0 other.1 (row ∷ rows) ≡ row ∷ put cmp other.0 other.1 rows
  laid_behind_case row rows other h = let less : cmp other.0 row.0 ≡ Greater =
      total.antisymm other.0 row.0 ∙ ap ordering_reverse h in rw (put, less) refl

  pub laid_behind : {A : Type 0} (row : K × A) (rows others : List (K × A))
      → AllAbove cmp row.0 others → laid cmp (row ∷ rows) others ≡ row ∷ laid cmp rows others
  laid_behind row rows [] above = refl
  laid_behind row rows (other ∷ others) above = ap (λ xs. laid cmp xs others) (laid_behind_case row
      rows other above.0) ∙ laid_behind row (put cmp other.0 other.1 rows) others above.1

  self_reverse : (o : Ordering) → o ≡ ordering_reverse o → o ≡ Equal
  self_reverse Less h = cc
  self_reverse Equal h = refl
  self_reverse Greater h = cc

  pub cmp_self : (a : K) → cmp a a ≡ Equal
  cmp_self a = self_reverse (cmp a a) (total.antisymm a a)

  put_again : {A : Type 0} (row : K × A) (rows : List (K × A))
      → put cmp row.0 row.1 (row ∷ rows) ≡ row ∷ rows
  put_again row rows = rw (put, cmp_self row.0) refl

  join_case : {A : Type 0} (p q : K → Bool) (row : K × A) (rows : List (K × A)) (b c : Bool)
      → AllAbove cmp row.0 rows
      → laid cmp (at p rows) (at q rows) ≡ at (λ id. cond (p id) true (q id)) rows
      → laid cmp (cond b (row ∷ at p rows) (at p rows)) (cond c (row ∷ at q rows) (at q rows))
      ≡ cond (cond b true c) (row ∷ at (λ id. cond (p id) true (q id)) rows)
      (at (λ id. cond (p id) true (q id)) rows)
  join_case p q row rows true true above more = ap (λ xs. laid cmp xs (at q rows)) (put_again row
      (at p rows)) ∙ laid_behind row (at p rows) (at q rows) (above_at q row.0 rows above)
      ∙ ap (λ xs. row ∷ xs) more
  join_case p q row rows true false above more = laid_behind row (at p rows) (at q rows) (above_at q
      row.0 rows above) ∙ ap (λ xs. row ∷ xs) more
  join_case p q row rows false true above more = ap (λ xs.
      laid cmp xs (at q rows)) (put_first row.0 row.1 (at p rows) (above_at p row.0 rows above))
      ∙ laid_behind row (at p rows) (at q rows) (above_at q row.0 rows above)
      ∙ ap (λ xs. row ∷ xs) more
  join_case p q row rows false false above more = more

  pub join_two : {A : Type 0} (p q : K → Bool) (rows : List (K × A)) → Rises cmp rows
      → laid cmp (at p rows) (at q rows) ≡ at (λ id. cond (p id) true (q id)) rows
  join_two p q [] r = refl
  join_two p q (row ∷ rows) r =
      join_case p q row rows (p row.0) (q row.0) r.0 (join_two p q rows r.1)

  -- what is taken out, place by place
  pub taken_first : {A : Type 0} (id : K) (rows : List (K × A)) → AllAbove cmp id rows
      → taken_out cmp id rows ≡ rows
  taken_first id [] h = refl
  taken_first id (row ∷ rows) h = rw (taken_out, h.0) refl

  taken_in_case : {A : Type 0} (p : K → Bool) (id : K) (row : K × A) (rows : List (K × A)) (o :
      Ordering) (b : Bool) → cmp id row.0 ≡ o → p row.0 ≡ b → p id ≡ true → AllAbove cmp row.0 rows
      → at p (taken_out cmp id rows) ≡ taken_out cmp id (at p rows)
      → at p (elim o [ Less ↦ row ∷ rows | Equal ↦ rows | Greater ↦ row ∷ taken_out cmp id rows ])
      ≡ taken_out cmp id (cond b (row ∷ at p rows) (at p rows))
  taken_in_case p id row rows Less true is hb hid above more = rw (hb, taken_out, is) refl
  taken_in_case p id row rows Less false is hb hid above more =
      rw (hb, taken_first id (at p rows) (above_at p id rows (above_trans id row.0 rows is above)))
      refl
  taken_in_case p id row rows Equal true is hb hid above more = rw (taken_out, is) refl
  taken_in_case p id row rows Equal false is hb hid above more = let wrong : true ≡ false = sym hid
      ∙ ap p (exact id row.0 is) ∙ hb in cc
  taken_in_case p id row rows Greater true is hb hid above more = rw (hb, more, taken_out, is) refl
  taken_in_case p id row rows Greater false is hb hid above more = rw (hb, more) refl

  pub at-taken_in : {A : Type 0} (p : K → Bool) (id : K) (rows : List (K × A)) → p id ≡ true
      → Rises cmp rows → at p (taken_out cmp id rows) ≡ taken_out cmp id (at p rows)
  at-taken_in p id [] hid r = refl
  at-taken_in p id (row ∷ rows) hid r = taken_in_case p id row rows (cmp id row.0) (p row.0) refl
      refl hid r.0 (at-taken_in p id rows hid r.1)

  taken_past_case : {A : Type 0} (p : K → Bool) (id : K) (row : K × A) (rows : List (K × A))
      (o : Ordering) → cmp id row.0 ≡ o → p id ≡ false → at p (taken_out cmp id rows) ≡ at p rows
      → at p (elim o [ Less ↦ row ∷ rows | Equal ↦ rows | Greater ↦ row ∷ taken_out cmp id rows ])
      ≡ at p (row ∷ rows)
  taken_past_case p id row rows Less is hid more = refl
  taken_past_case p id row rows Equal is hid more = let there : p row.0 ≡ false =
      ap p (sym (exact id row.0 is)) ∙ hid in rw there refl
  taken_past_case p id row rows Greater is hid more = rw more refl

  pub at-taken_past : {A : Type 0} (p : K → Bool) (id : K) (rows : List (K × A)) → p id ≡ false
      → at p (taken_out cmp id rows) ≡ at p rows
  at-taken_past p id [] hid = refl
  at-taken_past p id (row ∷ rows) hid =
      taken_past_case p id row rows (cmp id row.0) refl hid (at-taken_past p id rows hid)
