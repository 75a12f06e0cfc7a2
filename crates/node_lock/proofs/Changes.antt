-- The rule after a step that leaves the history as it is.
use Rattle.std.proofs.Common.{◌≡◌, ◌≢◌, ℕ, ◌+◌, ◌<◌, ◌≤◌, ◌^◌, List, [], ◌∷◌, ◌++◌, length, set}
use Rattle.std.proofs.Common.{get_or, eqb, refl, sym, ap, ◌∙◌, subst, arith}
use Rattle.std.specs.Prelude.{Some}
use Rattle.std.proofs.lemmas.Bool.{eq-eqb, ne_eqb}
use mathlib.Core.Option.{some, none, some-injective, some-ne-none}
use mathlib.Core.Option as maybe
use prog.Atomic.{either}
use lib.ListN.{get_elem?}
use Rattle.atomic_table.specs.Table.{State}
use Rattle.atomic_table.proofs.Lists.{set_else, at_longer}
use Rattle.node_lock.specs.declared.kept.Kept.{Kept}
use Rattle.node_lock.specs.declared.law.View.{View}
use Rattle.node_lock.specs.declared.law.Stage.{Stage}
use Rattle.node_lock.specs.declared.law.Stage.TheVariants.{Idle, Waiting, Holding}
use Rattle.node_lock.specs.Known.{wrap, at_place}
use Rattle.node_lock.specs.Rule.{total, queued, Course, in_line, shares_of, Stands, InPlace, IsHeld}
use Rattle.node_lock.specs.Rule.{Fits, Lawful}
use Rattle.node_lock.specs.Plays.{staged}
use Rattle.node_lock.proofs.Sums.{total_set, total_below, Each, each_set}

-- ---- who drew a ticket
abbrev pub named : (ℕ → ℕ) → ℕ → ℕ → ℕ → ℕ
named owner n id t = either (eqb t n) id (owner t)

pub named_here : (owner : ℕ → ℕ) (n id : ℕ) → named owner n id n ≡ id
named_here owner n id = ap (λ b. either b id (owner n)) (eq-eqb n n refl)

pub named_else : (owner : ℕ → ℕ) (n id t : ℕ) → t ≢ n → named owner n id t ≡ owner t
named_else owner n id t ne = ap (λ b. either b id (owner t)) (ne_eqb t n ne)

abbrev pub ticket_of : {M : Type 0} → Stage M → ℕ
ticket_of Idle = 0
ticket_of (Waiting t) = t
ticket_of (Holding t m) = t

abbrev pub waits_of : {M : Type 0} → Stage M → ℕ
waits_of Idle = 0
waits_of (Waiting t) = 1
waits_of (Holding t m) = 0

module _ {M E A : Type 0} (takes : M → E → A → M → Type 0) (opening : M) (shares : ℕ) where
  abbrev pub K : Type 0
  K = Kept M E A

  abbrev pub W : Type 0
  W = View M E A

  abbrev pub St : Type 0
  St = State K W

  abbrev pub Rule : St → Type 0
  Rule s = Lawful takes opening shares s

  -- the tickets in the line are fewer than a word can tell apart
  pub near : (s : St) (r : Rule s) → r.c.next < r.c.serving + 2 ^ 64
  near s r = let t = total_below in_line shares_of s.views (λ j v e. (r.each j v e).share) in
      omega (arith, t, r.line, r.all_shares, r.few)

  -- the view of one seat keeps what the rule says of it, where it has another stage that stands
  pub restaged_fits : (c c' : Course M E A) (seat : ℕ) (v : W) (stage : Stage M) → c'.log ≡ c.log
      → Fits opening shares c seat v → Stands c' seat stage → queued stage ≤ v.shares
      → Fits opening shares c' seat (staged v stage)
  restaged_fits c c' seat v stage same f stands share = record {
    stands = stands;
    live = f.live;
    seen = subst (λ log. mathlib.Core.List.IsPrefix v.seen log) (sym same) f.seen;
    heard = subst (λ log. mathlib.Core.List.IsPrefix v.heard log) (sym same) f.heard;
    placed = subst (λ log. Rattle.std.specs.List.All (λ call.
        Rattle.std.specs.List.slice_get log call.0 ≡ Some call.1) v.mine) (sym same) f.placed;
    share = share;
    spent = f.spent;
  }

  -- Of two courses with one history: the stage of one seat changes alone
  pub restage : (s : St) (r : Rule s) (id : ℕ) (v : W) (stage : Stage M) (words : List ℕ)
      (homes : List (maybe.Option K)) (next serving : ℕ) (out : maybe.Option ℕ) (owner : ℕ → ℕ)
      → (let c' : Course M E A =
      record r.c { next = next; serving = serving; out = out; owner = owner } in
      get_elem? s.views id ≡ some v → length words ≡ 3 → length homes ≡ 1
      → get_or words 0 0 ≡ wrap next → get_or words 1 0 ≡ wrap serving
      → get_or words 2 0 ≡ get_or s.words 2 0
      → InPlace homes r.c.state out → IsHeld c' (set s.views id (staged v stage))
      → (serving + r.c.next + queued stage ≡ next + r.c.serving + queued v.stage)
      → queued stage ≤ v.shares
      → ((j : ℕ) (u : W) → j ≢ id → get_elem? s.views j ≡ some u → Stands r.c j u.stage
      → Stands c' j u.stage)
      → Stands c' id stage
      → Rule record { words = words; homes = homes; views = set s.views id (staged v stage) })
  restage s r id v stage words homes next serving out owner at wide one_slot w0 w1 w2 place held
      line share others mine =
      let w : W = staged v stage in
      let l = total_set in_line s.views id v w at in
      let sh = total_set shares_of s.views id v w at in record {
        c = record r.c { next = next; serving = serving; out = out; owner = owner };
        wide = wide;
        one_slot = one_slot;
        next_is = w0;
        serving_is = w1;
        count_is = w2 ∙ r.count_is;
        legal = r.legal;
        place = place;
        held = held;
        line = omega (arith, l, r.line, line);
        all_shares = omega (arith, sh, r.all_shares);
        few = r.few;
        each_place = λ p. let t = total_set (at_place p) s.views id v w at in
            omega (arith, t, r.each_place p);
        each = each_set (λ j u. Fits opening shares (record r.c
            { next = next; serving = serving; out = out; owner = owner }) j u) s.views id w
            (λ j u ne e. let f = r.each j u e in restaged_fits r.c
            (record r.c { next = next; serving = serving; out = out; owner = owner }) j u
            u.stage refl f (others j u ne e f.stands) f.share)
            (restaged_fits r.c
            (record r.c { next = next; serving = serving; out = out; owner = owner }) id v stage
            refl (r.each id v at) mine share);
      }

  -- an idle view may change: it is not the one that holds the machine
  pub held_else : (c : Course M E A) (views : List W) (id : ℕ) (v w : W)
      → get_elem? views id ≡ some v → v.stage ≡ Idle → IsHeld c views → IsHeld c (set views id w)
  held_else c views id v w at idle held seat out =
      let h = held seat out in (
        h.0,
        set_else views id seat w (λ same. holding_idle h.0
            (some-injective h.0 v (sym h.1 ∙ (ap (get_elem? views) same ∙ at))) h.2) ∙ h.1,
        h.2,
      )
    where
      holding_idle : (u : W) → u ≡ v → u.stage ≡ Holding c.serving c.state → ⊥
      holding_idle u same holds = let bad : 0 ≡ 1 = ap queued (sym idle
          ∙ (ap (λ (x : W). x.stage) (sym same) ∙ holds)) in absurd (omega (arith, bad))

  pub held_longer : (c : Course M E A) (views : List W) (w : W) → IsHeld c views
      → IsHeld c (views ++ w ∷ [])
  held_longer c views w held seat out = let h = held seat out in
      (h.0, at_longer views (w ∷ []) seat h.0 h.1, h.2)

  -- The words, the machine and the history stay, and so do the sums over all views
  unfoldable pub regroup : (s : St) (r : Rule s) (views : List W) → IsHeld r.c views
      → total in_line views ≡ total in_line s.views
      → total shares_of views ≡ total shares_of s.views
      → ((p : ℕ) → total (at_place p) views ≡ total (at_place p) s.views)
      → Each (Fits opening shares r.c) views
      → Rule record { words = s.words; homes = s.homes; views = views }
  regroup s r views held line all_shares each_place each = record {
    c = r.c;
    wide = r.wide;
    one_slot = r.one_slot;
    next_is = r.next_is;
    serving_is = r.serving_is;
    count_is = r.count_is;
    legal = r.legal;
    place = r.place;
    held = held;
    line = omega (arith, line, r.line);
    all_shares = all_shares ∙ r.all_shares;
    few = r.few;
    each_place = λ p. each_place p ∙ r.each_place p;
    each = each;
  }
