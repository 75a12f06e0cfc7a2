-- A call is recorded: the history grows by it, and the rule is kept.
use Rattle.std.proofs.Common.{◌≡◌, ◌≢◌, ℕ, ◌+◌, ◌%◌, ◌<◌, ◌^◌, List, [], ◌∷◌, ◌++◌, length, set}
use Rattle.std.proofs.Common.{get_or, refl, sym, ap, ◌∙◌, subst, arith, length-append, length-set}
use Rattle.std.proofs.Common.{get_or-set_other, get_or-set_same}
use Rattle.std.specs.Prelude.{Some, None}
use mathlib.Core.Option.{some, some-injective}
use lib.ListN.{get_elem?}
use Rattle.atomic_table.specs.Table.{State, Me, keeps, rest, Allows}
use Rattle.node_lock.specs.declared.kept.Kept.{Kept}
use Rattle.node_lock.specs.declared.law.View.{View}
use Rattle.node_lock.specs.declared.law.Stage.{Stage}
use Rattle.node_lock.specs.declared.law.Stage.TheVariants.{Idle, Waiting, Holding}
use Rattle.node_lock.specs.Known.{wrap, at_place, IsHistory, IsSound}
use Rattle.node_lock.specs.Rule.{once_below, queued, Course, in_line, shares_of, Stands, InPlace}
use Rattle.node_lock.specs.Rule.{Fits, Lawful}
use Rattle.node_lock.specs.Plays.{Notes, Records}
use Rattle.node_lock.proofs.Sums.{total_set, total_has, each_set, set_at}
use Rattle.node_lock.proofs.Calls.{wrap_suc, legal_snoc, prefix_more, prefix_self, placed_more}
use Rattle.node_lock.proofs.Calls.{placed_snoc, count_snoc, one_if, once_below_more, once_at_most}
use Rattle.node_lock.proofs.Changes.{ticket_of}

abbrev head_or : {X : Type 0} → X → List (ℕ × X) → X
head_or d [] = d
head_or d (x ∷ xs) = x.1

module _ {M E A : Type 0} (takes : M → E → A → M → Type 0) (opening : M) (shares : ℕ) where
  abbrev Law : State (Kept M E A) (View M E A) → Type 0
  Law s = Lawful takes opening shares s

  -- what is seen of a history that the rule has is legal, and the calls of the pass stand in it,
  -- each once
  pub sound_of : (s : State (Kept M E A) (View M E A)) (r : Law s) (id : ℕ) (w : View M E A)
      → get_elem? s.views id ≡ some w → 0 < w.shares → w.seen ≡ r.c.log → IsSound takes w
  sound_of s r id w at some_share seen = let f = r.each id w at in record {
    legal = subst (λ (x : Rattle.std.specs.Prelude.Option M × List (E × A)). IsHistory takes x.0
        x.1) (λ i. (sym (f.live some_share).0 i, sym seen i)) (r.c.state, r.legal);
    placed = subst (λ log. Rattle.std.specs.List.All (λ call.
        Rattle.std.specs.Prelude.slice_get log call.0 ≡ Some call.1) w.mine) (sym seen) f.placed;
    once = λ p. let has = total_has (at_place p) s.views id w at in
        omega (arith, has, r.each_place p, once_at_most p (length r.c.log));
  }

  -- what one seat tells of the note in its slot
  one_note : (k k' : Kept M E A) (y y' : M) (e e' : E) (a a' : A) → k ≡ k' → Notes k y e a
      → Notes k' y' e' a' → (y ≡ y') × (e ≡ e') × (a ≡ a')
  one_note k k' y y' e e' a a' same p q =
      (cc (p.0, q.0, same), cc (p.1, q.1, same), cc (p.2, q.2, same))

  -- the others don't hold the machine
  stays_recorded : (c : Course M E A) (log : List (E × A)) (y : M) (id j : ℕ) (stage : Stage M)
      → j ≢ id → c.out ≡ some id → Stands c j stage
      → Stands (record c { log = log; state = y }) j stage
  stays_recorded c log y id j Idle ne is h = tt
  stays_recorded c log y id j (Waiting t) ne is h = h
  stays_recorded c log y id j (Holding t m) ne is h =
      absurd (ne (some-injective j id (sym h.3 ∙ is)))

  abbrev recorded : View M E A → ℕ → M → List (E × A) → E → A → View M E A
  recorded v t y log e a = record v
      { stage = Holding t y; seen = log ++ (e, a) ∷ []; mine = v.mine ++ (length log, (e, a)) ∷ [] }

  -- the rule after the step
  goes_on : (id : ℕ) (v : View M E A) (t : ℕ) (x y : M) (e : E) (a : A) → v.stage ≡ Holding t x
      → takes x e a y
      → (s : State (Kept M E A) (View M E A)) (r : Law s) → get_elem? s.views id ≡ some v
      → Law record {
        words = set s.words 2 ((get_or s.words 2 0 + 1) % 2 ^ 64);
        homes = s.homes;
        views = set s.views id (recorded v t y r.c.log e a);
      }
  goes_on id v t x y e a holds taken s r at =
      let f = r.each id v at in
      let st = subst (Stands r.c id) holds f.stands in
      let w = recorded v t y r.c.log e a in
      let c' : Course M E A = record r.c { log = r.c.log ++ (e, a) ∷ []; state = y } in
      let had : queued v.stage ≡ 1 = ap queued holds in
      let len3 = r.wide in
      let l = total_set in_line s.views id v w at in
      let sh = total_set shares_of s.views id v w at in record {
        c = c';
        wide = length-set s.words 2 _ ∙ r.wide;
        one_slot = r.one_slot;
        next_is = get_or-set_other s.words 2 0 _ 0 (λ e. omega arith) ∙ r.next_is;
        serving_is = get_or-set_other s.words 2 1 _ 0 (λ e. omega arith) ∙ r.serving_is;
        count_is = get_or-set_same s.words 2 _ 0 (omega (arith, len3))
            ∙ (ap (λ (z : ℕ). (z + 1) % 2 ^ 64) r.count_is
            ∙ (wrap_suc (length r.c.log) ∙ ap wrap (sym (length-append r.c.log ((e, a) ∷ [])))));
        legal = legal_snoc takes opening r.c.log x y e a (subst
            (Rattle.machine.specs.History.Legal takes opening r.c.log) (sym st.4) r.legal) taken;
        place = subst (InPlace s.homes y) (sym st.3) tt;
        held = λ j is. (
          w,
          subst (λ (z : ℕ). get_elem? (set s.views id w) z ≡ some w)
              (some-injective id j (sym st.3 ∙ is)) (set_at s.views id v w at),
          ap (λ (z : ℕ). Holding z y) st.1,
        );
        line = omega (arith, l, had, r.line);
        all_shares = omega (arith, sh, r.all_shares);
        few = r.few;
        each_place = λ p.
            let t = total_set (at_place p) s.views id v w at in
            let more : at_place p w ≡ at_place p v + one_if (length r.c.log) p =
            count_snoc p (length r.c.log) v.mine (e, a) in
            let below : once_below p (length c'.log) ≡ once_below p (length r.c.log) + one_if
            (length r.c.log) p = ap (once_below p) (length-append r.c.log ((e, a) ∷ []))
            ∙ once_below_more p (length r.c.log) in
            omega (arith, t, more, below, r.each_place p);
        each = each_set (λ j u. Fits opening shares c' j u) s.views id w
            (λ j u ne is. let g = r.each j u is in record {
              stands = stays_recorded r.c c'.log y id j u.stage ne st.3 g.stands;
              live = g.live;
              seen = prefix_more u.seen r.c.log ((e, a) ∷ []) g.seen;
              heard = prefix_more u.heard r.c.log ((e, a) ∷ []) g.heard;
              placed = placed_more r.c.log ((e, a) ∷ []) u.mine g.placed;
              share = g.share;
              spent = g.spent;
            })
            record {
              stands = (st.0, st.1, st.2, st.3, refl);
              live = f.live;
              seen = prefix_self c'.log;
              heard = prefix_more v.heard r.c.log ((e, a) ∷ []) f.heard;
              placed = placed_snoc r.c.log v.mine (e, a) f.placed;
              share = omega (arith, f.share, had);
              spent = λ none. absurd (omega (arith, f.share, had, none));
            };
      }

  pub records : (n id : ℕ) (me : Me (Kept M E A) (View M E A)) (k : Kept M E A) (t : ℕ) (x y : M)
      (e : E) (a : A) → me.1 ≡ (0, k) ∷ rest me.1 → me.0.stage ≡ Holding t x → Notes k y e a
      → takes x e a y
      → Allows Law n id me 2 (λ z. (z + 1) % 2 ^ 64) (λ found m. Records takes me found m)
  unfolding goes_on
  records n id me k t x y e a is holds notes taken s r wide at _ =
      let v : View M E A = me.0 in
      let f = r.each id v at in
      let had : queued v.stage ≡ 1 = ap queued holds in
      let w = recorded v t y r.c.log e a in
      let law = goes_on id v t x y e a holds taken s r at in
      let sound =
      sound_of _ law id w (set_at s.views id v w at) (omega (arith, f.share, had)) refl in (
        w,
        keeps,
        tt,
        law,
        (
          refl,
          λ t' x' y' e' a' k' holds' has notes'.
              let q : Holding t x ≡ Holding t' x' = sym holds ∙ holds' in
              let same_t : t ≡ t' = ap ticket_of q in
              let both : (0, k) ∷ rest me.1 ≡ (0, k') ∷ rest me.1 = sym is ∙ has in
              let same_k : k ≡ k' = ap (head_or k) both in
              let o = one_note k k' y y' e e' a a' same_k notes notes' in (
                r.c.log,
                r.count_is,
                f.seen,
                (λ i. recorded v (same_t i) (o.0 i) r.c.log (o.1 i) (o.2 i)),
                sound,
              ),
        ),
      )
