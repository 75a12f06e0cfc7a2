-- The first seat; a seat that is cut in two, one that takes another in, and one that looks at the
-- whole history.
use Rattle.std.proofs.Common.{◌≡◌, ℕ, zero, suc, ◌<◌, ◌^◌, List, [], ◌∷◌, ◌++◌, length, set, eqb}
use Rattle.std.proofs.Common.{refl, sym, ap, ◌∙◌, subst, arith}
use Rattle.std.specs.Prelude.{Some}
use Rattle.std.proofs.lemmas.List.{set-get_or}
use mathlib.Core.Option.{some, none, some-injective, some-ne-none}
use Rattle.std.specs.List.{count_by}
use lib.ListN.{get_elem?}
use Rattle.atomic_table.specs.Table.{State, Me, keeps, Allows, Splits, Joins}
use Rattle.atomic_table.proofs.Lists.{set_else}
use Rattle.node_lock.specs.declared.kept.Kept.{Kept}
use Rattle.node_lock.specs.declared.law.View.{View}
use Rattle.node_lock.specs.declared.law.Stage.TheVariants.{Idle}
use Rattle.node_lock.specs.Known.{at_place, newcomer, cut_off, left_over}
use Rattle.node_lock.specs.Rule.{total, queued, Course, in_line, shares_of, Stands, Fits, Lawful}
use Rattle.node_lock.specs.Plays.{Glances, joined, spent}
use Rattle.node_lock.proofs.Sums.{total_set, total_snoc, total_alone, each_set, each_snoc, set_at}
use Rattle.node_lock.proofs.Calls.{prefix_none, prefix_self, placed_none, placed_both, count_both}
use Rattle.node_lock.proofs.Calls.{once_is, once_none}
use Rattle.node_lock.proofs.Changes.{held_else, held_longer, regroup}
use Rattle.node_lock.proofs.Recording.{sound_of}

module _ {M E A : Type 0} (takes : M → E → A → M → Type 0) (opening : M) (shares : ℕ) where
  abbrev Law : State (Kept M E A) (View M E A) → Type 0
  Law s = Lawful takes opening shares s

  abbrev W : Type 0
  W = View M E A

  abbrev begun : Course M E A
  begun = record { next = 0; serving = 0; log = []; state = opening; out = none; owner = λ _. 0 }

  pub begins : (k : Kept M E A) → k.machine ≡ Some opening → shares < 2 ^ 64 → Law
      record { words = 0 ∷ 0 ∷ 0 ∷ []; homes = some k ∷ []; views = newcomer opening shares ∷ [] }
  begins k has few = record {
    c = begun;
    wide = refl;
    one_slot = refl;
    next_is = refl;
    serving_is = refl;
    count_is = refl;
    legal = refl;
    place = (k, refl, has);
    held = λ j e. absurd (some-ne-none j (sym e));
    line = refl;
    all_shares = omega arith;
    few = few;
    each_place = λ p. sym (once_none p);
    each = λ j v e. fits j v e;
  }
    where
      first : (j : ℕ) → Fits opening shares begun j (newcomer opening shares)
      first j = record {
        stands = tt;
        live = λ _. (refl, refl);
        seen = prefix_self [];
        heard = prefix_self [];
        placed = placed_none [];
        share = omega arith;
        spent = λ _. refl;
      }

      fits : (j : ℕ) (v : W) → get_elem? (newcomer opening shares ∷ []) j ≡ some v
          → Fits opening shares begun j v
      fits zero v e =
          subst (λ (u : W). Fits opening shares begun 0 u) (some-injective _ _ e) (first 0)
      fits (suc j) v e = absurd (some-ne-none v (sym e))

  -- ---- a pass is cut off
  left_fits : (c : Course M E A) (id : ℕ) (v : W) → v.stage ≡ Idle → 1 < v.shares
      → Fits opening shares c id v → Fits opening shares c id (left_over v)
  left_fits c id v idle two f = let none_yet : queued v.stage ≡ 0 = ap queued idle in record {
    stands = f.stands;
    live = λ _. f.live (omega (arith, two));
    seen = f.seen;
    heard = f.heard;
    placed = f.placed;
    share = omega (arith, none_yet);
    spent = λ e. absurd (omega (arith, two, e));
  }

  cut_fits : (c : Course M E A) (id j : ℕ) (v : W) → v.stage ≡ Idle → 1 < v.shares
      → Fits opening shares c id v → Fits opening shares c j (cut_off v)
  cut_fits c id j v idle two f = let none_yet : queued v.stage ≡ 0 = ap queued idle in record {
    stands = subst (Stands c j) (sym idle) tt;
    live = λ _. f.live (omega (arith, two));
    seen = f.seen;
    heard = f.heard;
    placed = placed_none c.log;
    share = omega (arith, none_yet);
    spent = λ e. absurd (omega (arith, e));
  }

  pub splits : (id : ℕ) (v : W) → v.stage ≡ Idle → 1 < v.shares
      → Splits Law id v (left_over v) (cut_off v)
  splits id v idle two s r at =
      let views = set s.views id (left_over v) in
      let none_yet : queued v.stage ≡ 0 = ap queued idle in
      let line : total in_line (views ++ cut_off v ∷ []) ≡ total in_line s.views =
      (let x = total_set in_line s.views id v (left_over v) at in
      let y = total_snoc in_line views (cut_off v) in omega (arith, x, y, none_yet)) in
      let all : total shares_of (views ++ cut_off v ∷ []) ≡ total shares_of s.views =
      (let x = total_set shares_of s.views id v (left_over v) at in
      let y = total_snoc shares_of views (cut_off v) in omega (arith, x, y, two)) in
      regroup takes opening shares s r (views ++ cut_off v ∷ [])
      (held_longer takes opening shares r.c views (cut_off v)
      (held_else takes opening shares r.c s.views id v (left_over v) at idle r.held))
      line
      all
      (λ p. let x = total_set (at_place p) s.views id v (left_over v) at in
      let y = total_snoc (at_place p) views (cut_off v) in omega (arith, x, y))
      (each_snoc (Fits opening shares r.c) views (cut_off v)
      (each_set (Fits opening shares r.c) s.views id (left_over v) (λ j u ne e. r.each j u e)
      (left_fits r.c id v idle two (r.each id v at)))
      (λ j. cut_fits r.c id j v idle two (r.each id v at)))

  -- ---- a pass takes another in
  joined_fits : (c : Course M E A) (id other : ℕ) (v w : W) → v.stage ≡ Idle
      → 0 < v.shares → Fits opening shares c id v → Fits opening shares c other w
      → Fits opening shares c id (joined v w)
  joined_fits c id other v w idle some_share f g = let none_yet : queued v.stage ≡ 0 =
      ap queued idle in record {
        stands = f.stands;
        live = λ _. f.live some_share;
        seen = f.seen;
        heard = g.seen;
        placed = placed_both c.log v.mine w.mine f.placed g.placed;
        share = omega (arith, none_yet);
        spent = λ e. absurd (omega (arith, some_share, e));
      }

  spent_fits : (c : Course M E A) (j : ℕ) → Fits opening shares c j spent
  spent_fits c j = record {
    stands = tt;
    live = λ lt. absurd (omega (arith, lt));
    seen = prefix_none c.log;
    heard = prefix_none c.log;
    placed = placed_none c.log;
    share = omega arith;
    spent = λ _. refl;
  }

  pub joins : (id : ℕ) (v : W) (other : ℕ) (w : W) → v.stage ≡ Idle → 0 < v.shares → w.stage ≡ Idle
      → Joins Law id v other w (joined v w) spent
  joins id v other w idle some_share idle' s r at apart at' =
      let views = set s.views id (joined v w) in
      let none_yet : queued v.stage ≡ 0 = ap queued idle in
      let none_yet' : queued w.stage ≡ 0 = ap queued idle' in
      let theirs : get_elem? s.views other ≡ some w =
      sym (set_else s.views id other (joined v w) apart) ∙ at' in
      let line : total in_line (set views other spent) ≡ total in_line s.views =
      (let x = total_set in_line s.views id v (joined v w) at in let y =
      total_set in_line views other w spent at' in omega (arith, x, y, none_yet, none_yet')) in
      let all : total shares_of (set views other spent) ≡ total shares_of s.views =
      (let x = total_set shares_of s.views id v (joined v w) at in
      let y = total_set shares_of views other w spent at' in omega (arith, x, y)) in
      regroup takes opening shares s r (set views other spent)
      (held_else takes opening shares r.c views other w spent at' idle'
      (held_else takes opening shares r.c s.views id v (joined v w) at idle r.held))
      line
      all
      (λ p. let x = total_set (at_place p) s.views id v (joined v w) at in
      let y = total_set (at_place p) views other w spent at' in
      let z = count_both p v.mine w.mine in omega (arith, x, y, z))
      (each_set (Fits opening shares r.c) views other spent
      (λ j u ne e. each_set (Fits opening shares r.c) s.views id (joined v w)
      (λ k x ne' e'. r.each k x e') (joined_fits r.c id other v w idle some_share
      (r.each id v at) (r.each other w theirs)) j u e)
      (spent_fits r.c other))

  -- ---- a pass looks at the whole history
  abbrev looked : W → List (E × A) → W
  looked v log = record v { seen = log; heard = [] }

  looked_fits : (c : Course M E A) (id : ℕ) (v : W) → Fits opening shares c id v
      → Fits opening shares c id (looked v c.log)
  looked_fits c id v f = record {
    stands = f.stands;
    live = f.live;
    seen = prefix_self c.log;
    heard = prefix_none c.log;
    placed = f.placed;
    share = f.share;
    spent = f.spent;
  }

  -- where one view has all shares, each place is that of one of its calls
  own_places : (s : State (Kept M E A) W) (r : Law s) (id : ℕ) (w : W)
      → get_elem? s.views id ≡ some w → w.shares ≡ shares → (place : ℕ) → place < length r.c.log
      → at_place place w ≡ 1
  own_places s r id w at all place lt =
      let alone = total_alone shares_of (at_place place) s.views id w at (λ j u e none.
      ap (λ (mine : List (ℕ × (E × A))). count_by (λ call. eqb call.0 place) mine)
      ((r.each j u e).spent none)) (r.all_shares ∙ sym all) in
      sym alone ∙ (r.each_place place ∙ once_is place (length r.c.log) lt)

  pub glances : (n id : ℕ) (me : Me (Kept M E A) W) → me.0.stage ≡ Idle → 0 < me.0.shares
      → Allows Law n id me 2 (λ z. z) (λ found m. Glances takes me found m)
  unfolding regroup
  glances n id me idle some_share s r wide at _ =
      let v : W = me.0 in
      let w : W = looked v r.c.log in
      let f = r.each id v at in
      let law : Law record { words = s.words; homes = s.homes; views = set s.views id w } = (let x =
      total_set in_line s.views id v w at in let y = total_set shares_of s.views id v w at in
      regroup takes opening shares s r (set s.views id w)
      (held_else takes opening shares r.c s.views id v w at idle r.held)
      (omega (arith, x))
      (omega (arith, y))
      (λ p. let z = total_set (at_place p) s.views id v w at in omega (arith, z))
      (each_set (Fits opening shares r.c) s.views id w (λ j u ne e. r.each j u e)
      (looked_fits r.c id v f))) in
      let there = set_at s.views id v w at in (
        w,
        keeps,
        tt,
        subst (λ (ws : List ℕ).
            Law record { words = ws; homes = s.homes; views = set s.views id w })
            (sym (set-get_or s.words 2 0)) law,
        (
          r.c.log,
          refl,
          r.count_is,
          f.seen,
          f.heard,
          sound_of takes opening shares
              record { words = s.words; homes = s.homes; views = set s.views id w } law id w there
              some_share refl,
          (λ all place lt.
              own_places record { words = s.words; homes = s.homes; views = set s.views id w } law
              id w there (all ∙ (f.live some_share).1) place lt),
        ),
      )
