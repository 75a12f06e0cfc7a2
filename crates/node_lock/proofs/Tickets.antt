-- A seat draws a ticket, looks whether it is served, and gives the machine back: each keeps the
-- rule.
use Rattle.std.proofs.Common.{◌≡◌, ◌≢◌, ℕ, ◌+◌, ◌%◌, ◌<◌, ◌^◌, List, ◌∷◌, set, get_or, refl, sym}
use Rattle.std.proofs.Common.{ap, ◌∙◌, subst, arith, length-set, get_or-set_other, get_or-set_same}
use Rattle.std.specs.Prelude.{Some}
use Rattle.std.proofs.lemmas.List.{set-get_or}
use mathlib.Core.Option.{some, none, some-injective, some-ne-none}
use mathlib.Core.Option as maybe
use mathlib.Core.Logic.{dite}
use native.Mathlib.Decide.{ℕ_discrete}
use lib.ListN.{get_elem?}
use Rattle.atomic_table.specs.Table.{State, Me, Act, stepped, carried_after, Valid, keeps}
use Rattle.atomic_table.specs.Table.{takes as taking, gives, rest, Allows}
use Rattle.atomic_table.proofs.Lists.{set_here, set_again, one_turn}
use Rattle.node_lock.specs.declared.kept.Kept.{Kept}
use Rattle.node_lock.specs.declared.law.View.{View}
use Rattle.node_lock.specs.declared.law.Stage.{Stage}
use Rattle.node_lock.specs.declared.law.Stage.TheVariants.{Idle, Waiting, Holding}
use Rattle.node_lock.specs.Known.{wrap}
use Rattle.node_lock.specs.Rule.{queued, Course, Stands, InPlace, Lawful}
use Rattle.node_lock.specs.Plays.{staged, Draws, Looks, Releases}
use Rattle.node_lock.proofs.Sums.{set_at}
use Rattle.node_lock.proofs.Calls.{wrap_suc}
use Rattle.node_lock.proofs.Changes.{named, named_here, named_else, ticket_of, waits_of, St, near}
use Rattle.node_lock.proofs.Changes.{restage, held_else}

module _ {M E A : Type 0} (takes : M → E → A → M → Type 0) (opening : M) (shares : ℕ) where
  abbrev Law : State (Kept M E A) (View M E A) → Type 0
  Law s = Lawful takes opening shares s

  -- ---- a ticket is drawn
  -- it leaves what the stages of the others mean
  stays_drawn : (c : Course M E A) (id j : ℕ) (stage : Stage M) → Stands c j stage
      → Stands (record c { next = c.next + 1; owner = named c.owner c.next id }) j stage
  stays_drawn c id j Idle h = tt
  stays_drawn c id j (Waiting t) h =
      (named_else c.owner c.next id t (λ e. omega (arith, h.2, e)) ∙ h.0, h.1, omega (arith, h.2))
  stays_drawn c id j (Holding t m) h = (
    named_else c.owner c.next id t (λ e. omega (arith, h.2, e)) ∙ h.0,
    h.1,
    omega (arith, h.2),
    h.3,
    h.4,
  )

  pub draws : (n id : ℕ) (me : Me (Kept M E A) (View M E A)) → me.0.stage ≡ Idle → 0 < me.0.shares
      → Allows Law n id me 0 (λ y. (y + 1) % 2 ^ 64) (λ found m. Draws me found m)
  draws n id me idle some_share s r wide at _ =
      let len3 = r.wide in
      let none_yet : queued me.0.stage ≡ 0 = ap queued idle in (
        staged me.0 (Waiting r.c.next),
        keeps,
        tt,
        restage takes opening shares s r id me.0 (Waiting r.c.next) _ s.homes (r.c.next + 1)
            r.c.serving r.c.out (named r.c.owner r.c.next id)
            at
            (length-set s.words 0 _ ∙ r.wide)
            r.one_slot
            (get_or-set_same s.words 0 _ 0 (omega (arith, len3))
            ∙ (ap (λ (z : ℕ). (z + 1) % 2 ^ 64) r.next_is ∙ wrap_suc r.c.next))
            (get_or-set_other s.words 0 1 _ 0 (λ e. omega arith) ∙ r.serving_is)
            (get_or-set_other s.words 0 2 _ 0 (λ e. omega arith))
            r.place
            (held_else takes opening shares r.c s.views id me.0 _ at idle r.held)
            (omega (arith, none_yet))
            some_share
            (λ j u ne e h. stays_drawn r.c id j u.stage h)
            (named_here r.c.owner r.c.next id, omega (arith, r.line), omega arith),
        (r.c.next, refl, r.next_is),
      )

  -- ---- a seat looks who is served
  -- the view that is served finds the machine at home
  at_home : (s : St takes opening shares) (r : Law s) (t id : ℕ) (v : View M E A)
      → get_elem? s.views id ≡ some v → v.stage ≡ Waiting t → r.c.owner t ≡ id → t ≡ r.c.serving
      → (out : maybe.Option ℕ) → r.c.out ≡ out → InPlace s.homes r.c.state out
      → (k : Kept M E A) × (get_elem? s.homes 0 ≡ some (some k)) × (k.machine ≡ Some r.c.state)
      × (r.c.out ≡ none)
  at_home s r t id v at waits mine now none e p = (p.0, p.1, p.2, e)
  at_home s r t id v at waits mine now (some j) e p =
      let o = r.held j e in
      let theirs = subst (Stands r.c j) o.2 (r.each j o.0 o.1).stands in
      let same : j ≡ id = sym theirs.0 ∙ (ap r.c.owner (sym now) ∙ mine) in
      let one : o.0 ≡ v = some-injective o.0 v (sym o.1 ∙ (ap (get_elem? s.views) same ∙ at)) in
      let q : Holding r.c.serving r.c.state ≡ Waiting t = sym o.2
      ∙ (ap (λ (x : View M E A). x.stage) one ∙ waits) in
      let bad : 0 ≡ 1 = ap waits_of q in
      absurd (omega (arith, bad))

  -- nobody else holds the machine while it is at home
  stays_taken : (c : Course M E A) (id j : ℕ) (stage : Stage M) → c.out ≡ none → Stands c j stage
      → Stands (record c { out = some id }) j stage
  stays_taken c id j Idle home h = tt
  stays_taken c id j (Waiting t) home h = h
  stays_taken c id j (Holding t m) home h = absurd (some-ne-none j (sym h.3 ∙ home))

  stands_of : (s : St takes opening shares) (r : Law s) (id : ℕ) (v : View M E A) (stage : Stage M)
      → get_elem? s.views id ≡ some v → v.stage ≡ stage → Stands r.c id stage
  stands_of s r id v stage at is = subst (Stands r.c id) is (r.each id v at).stands

  same_ticket : (v : View M E A) (t u : ℕ) → v.stage ≡ Waiting t → v.stage ≡ Waiting u → t ≡ u
  same_ticket v t u a b = let q : Waiting t ≡ Waiting u = sym a ∙ b in ap ticket_of q

  -- the step goes on from the state s
  abbrev Goes : ℕ → ℕ → Me (Kept M E A) (View M E A) → (ℕ → ℕ)
      → (ℕ → Me (Kept M E A) (View M E A) → Type 0) → State (Kept M E A) (View M E A) → Type 0
  Goes i id me f told s = (w : View M E A) × (a : Act (Kept M E A))
      × Valid s.homes me.1 a × Law (stepped s i (f (get_or s.words i 0)) id me.1 w a)
      × told (get_or s.words i 0) (w, carried_after me.1 a)

  looks_served : (n id : ℕ) (me : Me (Kept M E A) (View M E A)) (t : ℕ) → me.0.stage ≡ Waiting t
      → (s : State (Kept M E A) (View M E A)) (r : Law s) → get_elem? s.views id ≡ some me.0
      → t ≡ r.c.serving → Goes 1 id me (λ y. y) (λ found m. Looks me found m) s
  looks_served n id me t waits s r at now =
      let v : View M E A = me.0 in
      let stage : Stage M = Holding t r.c.state in
      let st = stands_of s r id v (Waiting t) at waits in
      let h = at_home s r t id v at waits st.0 now r.c.out refl r.place in
      let had : queued v.stage ≡ 1 = ap queued waits in
      let mine = (r.each id v at).share in (
        staged v stage,
        taking 0 h.0,
        h.1,
        subst (λ (ws : List ℕ). Law record {
          words = ws;
          homes = set s.homes 0 none;
          views = set s.views id (staged v stage);
        }) (sym (set-get_or s.words 1 0))
            (restage takes opening shares s r id v stage s.words (set s.homes 0 none) r.c.next
            r.c.serving (some id) r.c.owner
            at
            r.wide
            (length-set s.homes 0 none ∙ r.one_slot)
            r.next_is
            r.serving_is
            refl
            tt
            (λ j e. (
              staged v stage,
              subst (λ (k : ℕ). get_elem? (set s.views id (staged v stage)) k ≡ some (staged v
                  stage)) (some-injective id j e) (set_at s.views id v (staged v stage) at),
              ap (λ (z : ℕ). Holding z r.c.state) now,
            ))
            (omega (arith, had))
            (omega (arith, mine, had))
            (λ j u ne e g. stays_taken r.c id j u.stage h.3 g)
            (st.0, now, st.2, refl, refl)),
        (λ u is. let same = same_ticket v t u waits is in (
          (λ _. (
            r.c.state,
            h.0,
            (λ i. (staged v (Holding (same i) r.c.state), (0, h.0) ∷ me.1)),
            h.2,
          )),
          (λ other. absurd (other (r.serving_is ∙ ap wrap (sym now ∙ same)))),
        )),
      )

  looks_not : (n id : ℕ) (me : Me (Kept M E A) (View M E A)) (t : ℕ) → me.0.stage ≡ Waiting t
      → (s : State (Kept M E A) (View M E A)) (r : Law s) → get_elem? s.views id ≡ some me.0
      → t ≢ r.c.serving → Goes 1 id me (λ y. y) (λ found m. Looks me found m) s
  looks_not n id me t waits s r at other =
      let v : View M E A = me.0 in
      let st = stands_of s r id v (Waiting t) at waits in
      let far = near takes opening shares s r in (
        v,
        keeps,
        tt,
        subst (λ (x : List ℕ × List (View M E A)).
            Law record { words = x.0; homes = s.homes; views = x.1 })
            (λ i. (sym (set-get_or s.words 1 0) i, sym (set_again s.views id v at) i)) r,
        (λ u is. let same = same_ticket v t u waits is in (
          (λ found. absurd (other (sym (one_turn r.c.serving t (2 ^ 64) st.1
              (omega (arith, far, st.2)) (sym r.serving_is ∙ (found ∙ ap wrap (sym same))))))),
          (λ _. refl),
        )),
      )

  pub looks : (n id : ℕ) (me : Me (Kept M E A) (View M E A)) (t : ℕ) → me.0.stage ≡ Waiting t
      → Allows Law n id me 1 (λ y. y) (λ found m. Looks me found m)
  looks n id me t waits s r wide at _ = dite (ℕ_discrete t r.c.serving) (λ now.
      looks_served n id me t waits s r at now) (λ other. looks_not n id me t waits s r at other)

  -- ---- the machine is given back, and the next ticket is served
  stays_released : (c : Course M E A) (id j : ℕ) (stage : Stage M) → j ≢ id
      → c.out ≡ some id → c.owner c.serving ≡ id → Stands c j stage
      → Stands (record c { serving = c.serving + 1; out = none }) j stage
  stays_released c id j Idle ne is own h = tt
  stays_released c id j (Waiting t) ne is own h =
      let other : t ≢ c.serving = λ e. ne (sym h.0 ∙ (ap c.owner e ∙ own)) in
      (h.0, omega (arith, h.1, other), omega (arith, h.2))
  stays_released c id j (Holding t m) ne is own h = absurd (ne (some-injective j id (sym h.3 ∙ is)))

  releases_slot : (n id : ℕ) (v : View M E A) (k : Kept M E A) (others : List (ℕ × Kept M E A))
      (t : ℕ) (x : M) → v.stage ≡ Holding t x → k.machine ≡ Some x
      → Allows Law n id (v, (0, k) ∷ others) 1 (λ z. (z + 1) % 2 ^ 64)
      (λ found m. Releases (v, (0, k) ∷ others) found m)
  releases_slot n id v k others t x holds has s r wide at _ =
      let st = stands_of s r id v (Holding t x) at holds in
      let had : queued v.stage ≡ 1 = ap queued holds in
      let len3 = r.wide in
      let one = r.one_slot in (
        staged v Idle,
        gives,
        tt,
        restage takes opening shares s r id v Idle _ (set s.homes 0 (some k)) r.c.next
            (r.c.serving + 1) none r.c.owner
            at
            (length-set s.words 1 _ ∙ r.wide)
            (length-set s.homes 0 (some k) ∙ r.one_slot)
            (get_or-set_other s.words 1 0 _ 0 (λ e. omega arith) ∙ r.next_is)
            (get_or-set_same s.words 1 _ 0 (omega (arith, len3))
            ∙ (ap (λ (z : ℕ). (z + 1) % 2 ^ 64) r.serving_is ∙ wrap_suc r.c.serving))
            (get_or-set_other s.words 1 2 _ 0 (λ e. omega arith))
            (k, set_here s.homes 0 (some k) (omega (arith, one)), has ∙ ap Some st.4)
            (λ j e. absurd (some-ne-none j (sym e)))
            (omega (arith, had))
            (omega arith)
            (λ j u ne e h. stays_released r.c id j u.stage ne st.3
            (ap r.c.owner (sym st.1) ∙ st.0) h)
            tt,
        refl,
      )

  pub releases : (n id : ℕ) (me : Me (Kept M E A) (View M E A)) (k : Kept M E A) (t : ℕ) (x : M)
      → me.1 ≡ (0, k) ∷ rest me.1 → me.0.stage ≡ Holding t x → k.machine ≡ Some x
      → Allows Law n id me 1 (λ z. (z + 1) % 2 ^ 64) (λ found m. Releases me found m)
  releases n id me k t x is holds has =
      subst (λ (l : List (ℕ × Kept M E A)). Allows Law n id (me.0, l) 1
      (λ z. (z + 1) % 2 ^ 64) (λ found m. Releases (me.0, l) found m)) (sym is)
      (releases_slot n id me.0 k (rest me.1) t x holds has)
