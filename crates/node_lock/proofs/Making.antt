-- The steps of one call, put together; and a look at the whole history after a join.
use Rattle.std.proofs.Common.{◌≡◌, ℕ, ◌+◌, List, [], ◌∷◌, ◌++◌, length, sym, ap, ◌∙◌, subst}
use mathlib.Core.List.{IsPrefix}
use Rattle.atomic_table.specs.Table.{Me, rest}
use Rattle.node_lock.specs.declared.kept.Kept.{Kept}
use Rattle.node_lock.specs.declared.law.View.{View}
use Rattle.node_lock.specs.declared.law.Stage.{Stage}
use Rattle.node_lock.specs.declared.law.Stage.TheVariants.{Idle, Waiting, Holding}
use Rattle.node_lock.specs.Known.{IsSound, Called, Met, Whole}
use Rattle.node_lock.specs.Plays.{staged, Served, HasMachine, HasNote, Ran, Recorded, Records}
use Rattle.node_lock.specs.Plays.{Glances, joined}

module _ {M E A : Type 0} (takes : M → E → A → M → Type 0) where
  abbrev S : Type 0
  S = Me (Kept M E A) (View M E A)

  -- a seat that was served has the machine
  pub has_machine : (m m' : S) (t : ℕ) → Served t m m' → HasMachine m'
  has_machine m m' t h = (
    t,
    h.0,
    h.1,
    ap (λ (x : S). x.1) h.2 ∙ ap (λ (x : S). (0, h.1) ∷ rest x.1) (sym h.2),
    ap (λ (x : S). x.0.stage) h.2,
    h.3,
  )

  -- the slot after the machine's step has a note of it
  abbrev pub has_note : (m m' : S) (e : E) (a : A) → Ran takes e a m m' → HasNote takes m'
  has_note m m' e a h = (
    h.0,
    h.1,
    h.2,
    e,
    a,
    h.3,
    ap (λ (x : S). x.1) h.5 ∙ ap (λ (x : S). (0, h.3) ∷ rest x.1) (sym h.5),
    ap (λ (x : S). x.0.stage) h.5 ∙ h.4,
    h.6,
    h.7,
  )

  -- what the record tells of it
  pub told : (m m' m'' : S) (found : ℕ) (e : E) (a : A) → (h : Ran takes e a m m')
      → Records takes m' found m'' → Recorded takes found e a h.0 h.2 m'.0 m''.0
  told m m' m'' found e a h r = let n = has_note m m' e a h in r.1 h.0 h.1 h.2 e a h.3 n.7 n.6 h.6

  -- after the record the machine lies in the slot
  pub has_recorded : (m m' m'' : S) (found : ℕ) (e : E) (a : A) → Ran takes e a m m'
      → Records takes m' found m'' → HasMachine m''
  has_recorded m m' m'' found e a h r =
      let n = has_note m m' e a h in
      let t = told m m' m'' found e a h r in (
        h.0,
        h.2,
        h.3,
        r.0 ∙ (n.6 ∙ ap (λ (l : List (ℕ × Kept M E A)). (0, h.3) ∷ rest l) (sym r.0)),
        ap (λ (x : View M E A). x.stage) t.3,
        h.6.0,
      )

  sound_staged : (v : View M E A) (stage : Stage M) → IsSound takes v
      → IsSound takes (staged v stage)
  sound_staged v stage s = record { legal = s.legal; placed = s.placed; once = s.once }

  -- from the first step of a call to its last
  pub called : (m0 m1 m2 m3 m4 m5 : S) (t u found : ℕ) (e : E) (a : A) → m0.0.stage ≡ Idle
      → m1 ≡ (staged m0.0 (Waiting t), m0.1) → Served u m1 m2 → Ran takes e a m2 m3
      → Records takes m3 found m4 → m5 ≡ (staged m4.0 Idle, rest m4.1)
      → Called takes e found a m0.0 m5.0 × (m5.1 ≡ m0.1)
  called m0 m1 m2 m3 m4 m5 t u found e a idle drawn served ran recorded released =
      let r = told m2 m3 m4 found e a ran recorded in
      let at3 : m3.0 ≡ staged m0.0 (Holding u served.0) = ap (λ (x : S). x.0) ran.5 ∙ (ap
      (λ (x : S). x.0) served.2 ∙ ap (λ (x : S). staged x.0 (Holding u served.0)) drawn) in
      let at5 : m5.0 ≡ staged m4.0 Idle = ap (λ (x : S). x.0) released in
      let all5 : m5.0 ≡ record m0.0 {
        stage = Idle;
        seen = r.0 ++ (e, a) ∷ [];
        mine = m0.0.mine ++ (length r.0, (e, a)) ∷ [];
      } =
      at5 ∙ (ap (λ (x : View M E A). staged x Idle) r.3 ∙ ap (λ (x : View M E A). record x
      { stage = Idle; seen = r.0 ++ (e, a) ∷ []; mine = x.mine ++ (length r.0, (e, a)) ∷ [] })
      at3) in
      let slot3 : m3.1 ≡ (0, ran.3) ∷ rest m2.1 = ap (λ (x : S). x.1) ran.5 in
      let slot2 : rest m2.1 ≡ m0.1 = ap (λ (x : S). rest x.1) served.2
      ∙ ap (λ (x : S). x.1) drawn in (
        record {
          before = r.0;
          place_is = r.1;
          later = subst (λ (x : View M E A). IsPrefix x.seen r.0) at3 r.2;
          changed = all5 ∙ (λ i. record m0.0 {
            stage = sym idle i;
            seen = r.0 ++ (e, a) ∷ [];
            mine = m0.0.mine ++ (length r.0, (e, a)) ∷ [];
          });
          sound = subst (IsSound takes) (sym at5) (sound_staged m4.0 Idle r.4);
        },
        ap (λ (x : S). x.1) released
            ∙ (ap (λ (l : List (ℕ × Kept M E A)). rest l) (recorded.0 ∙ slot3) ∙ slot2),
      )

  -- one seat has taken another in, and has looked at the history
  pub met : (m0 m1 m2 : S) (w : View M E A) (found : ℕ) → m0.0.heard ≡ []
      → m1 ≡ (joined m0.0 w, m0.1) → Glances takes m1 found m2
      → Met takes m0.0 w m2.0 × (m2.1 ≡ m0.1)
  met m0 m1 m2 w found heard is g = (
    record {
      seen = g.0;
      later = subst (λ (x : S). IsPrefix x.0.seen g.0) is g.3;
      told = subst (λ (x : S). IsPrefix x.0.heard g.0) is g.4;
      changed = ap (λ (x : S). x.0) g.1
          ∙ (ap (λ (x : S). record x.0 { seen = g.0; heard = [] }) is ∙ (λ i. record m0.0 {
            seen = g.0;
            heard = sym heard i;
            mine = m0.0.mine ++ w.mine;
            shares = m0.0.shares + w.shares;
          }));
      sound = g.5;
    },
    ap (λ (x : S). x.1) g.1 ∙ ap (λ (x : S). x.1) is,
  )

  pub looked : (m0 m1 : S) (found : ℕ) → m0.0.heard ≡ [] → m0.0.shares ≡ m0.0.all
      → Glances takes m0 found m1 → Whole takes found m0.0 m1.0 × (m1.1 ≡ m0.1)
  looked m0 m1 found heard all g = (
    record {
      seen = g.0;
      count_is = g.2;
      later = g.3;
      changed = ap (λ (x : S). x.0) g.1 ∙ (λ i. record m0.0 { seen = g.0; heard = sym heard i });
      sound = g.5;
      own = g.6 all;
    },
    ap (λ (x : S). x.1) g.1,
  )
