-- What each step on the lock's table tells its caller.
use Rattle.std.specs.Prelude.{◌≡◌, ℕ, ◌+◌, ◌<◌, List, [], ◌∷◌, ◌++◌, length, Some, None, option_map}
use mathlib.Core.List.{IsPrefix}
use Rattle.atomic_table.specs.Table.{Me, rest}
use Rattle.node_lock.specs.declared.kept.Kept.{Kept}
use Rattle.node_lock.specs.declared.law.View.{View}
use Rattle.node_lock.specs.declared.law.Stage.{Stage}
use Rattle.node_lock.specs.declared.law.Stage.TheVariants.{Idle, Waiting, Holding}
use Rattle.node_lock.specs.Known.{wrap, at_place, IsSound}

module _ {M E A : Type 0} where
  -- the same, but for its stage
  abbrev pub staged : View M E A → Stage M → View M E A
  staged v stage = record v { stage = stage }

  -- the ticket is the number found
  abbrev pub Draws : Me (Kept M E A) (View M E A) → ℕ → Me (Kept M E A) (View M E A) → Type 0
  Draws m found m' = (t : ℕ) × (m' ≡ (staged m.0 (Waiting t), m.1)) × (found ≡ wrap t)

  -- the seat's ticket is served, and the seat has taken the slot, in which the machine lies
  abbrev pub Served : ℕ → Me (Kept M E A) (View M E A) → Me (Kept M E A) (View M E A) → Type 0
  Served t m m' = (x : M) × (k : Kept M E A) × (m' ≡ (staged m.0 (Holding t x), (0, k) ∷ m.1))
      × (k.machine ≡ Some x)

  abbrev pub Looks : Me (Kept M E A) (View M E A) → ℕ → Me (Kept M E A) (View M E A) → Type 0
  Looks m found m' = (t : ℕ) → m.0.stage ≡ Waiting t
      → (found ≡ wrap t → Served t m m') × ((found ≡ wrap t → ⊥) → m' ≡ m)

  -- the slot has the machine y, and a note of the call
  abbrev pub Notes : Kept M E A → M → E → A → Type 0
  Notes k y e a = (k.machine ≡ Some y) × (option_map (λ s. s.value) k.event ≡ Some e)
      × (option_map (λ s. s.value) k.answer ≡ Some a)

  -- the seat holds the slot, in which the machine lies
  abbrev pub HasMachine : Me (Kept M E A) (View M E A) → Type 0
  HasMachine m = (t : ℕ) × (x : M) × (k : Kept M E A) × (m.1 ≡ (0, k) ∷ rest m.1)
      × (m.0.stage ≡ Holding t x) × (k.machine ≡ Some x)

  -- the slot has the machine after a call, and a note of the call
  abbrev pub HasNote : (M → E → A → M → Type 0) → Me (Kept M E A) (View M E A) → Type 0
  HasNote takes m = (t : ℕ) × (x : M) × (y : M) × (e : E) × (a : A) × (k : Kept M E A)
      × (m.1 ≡ (0, k) ∷ rest m.1) × (m.0.stage ≡ Holding t x) × Notes k y e a × takes x e a y

  -- the machine in the slot takes the event
  abbrev pub Ran : (M → E → A → M → Type 0) → E → A → Me (Kept M E A) (View M E A)
      → Me (Kept M E A) (View M E A) → Type 0
  Ran takes e a m m' = (t : ℕ) × (x : M) × (y : M) × (k : Kept M E A)
      × (m.0.stage ≡ Holding t x) × (m' ≡ (m.0, (0, k) ∷ rest m.1)) × Notes k y e a × takes x e a y

  -- the call that the slot notes is the last of the history that is then seen
  abbrev pub Recorded : (M → E → A → M → Type 0) → ℕ → E → A → ℕ → M → View M E A
      → View M E A → Type 0
  Recorded takes found e a t y v w = (log : List (E × A)) × (found ≡ wrap (length log))
      × IsPrefix v.seen log
      × (w ≡ record v {
        stage = Holding t y;
        seen = log ++ (e, a) ∷ [];
        mine = v.mine ++ (length log, (e, a)) ∷ [];
      }) × IsSound takes w

  abbrev pub Records : (M → E → A → M → Type 0) → Me (Kept M E A) (View M E A) → ℕ
      → Me (Kept M E A) (View M E A) → Type 0
  Records takes m found m' = (m'.1 ≡ m.1)
      × ((t : ℕ) (x y : M) (e : E) (a : A) (k : Kept M E A) → m.0.stage ≡ Holding t x
      → m.1 ≡ (0, k) ∷ rest m.1
      → Notes k y e a → Recorded takes found e a t y m.0 m'.0)

  abbrev pub Releases : Me (Kept M E A) (View M E A) → ℕ → Me (Kept M E A) (View M E A) → Type 0
  Releases m found m' = m' ≡ (staged m.0 Idle, rest m.1)

  -- the whole history is seen
  abbrev pub Glances : (M → E → A → M → Type 0) → Me (Kept M E A) (View M E A) → ℕ
      → Me (Kept M E A) (View M E A) → Type 0
  Glances takes m found m' = (log : List (E × A))
      × (m' ≡ (record m.0 { seen = log; heard = [] }, m.1)) × (found ≡ wrap (length log))
      × IsPrefix m.0.seen log × IsPrefix m.0.heard log × IsSound takes m'.0
      × (m.0.shares ≡ m.0.all → (place : ℕ) → place < length log → at_place place m'.0 ≡ 1)

  -- one view takes in another's calls and shares, and has heard what the other saw
  abbrev pub joined : View M E A → View M E A → View M E A
  joined v w = record v { heard = w.seen; mine = v.mine ++ w.mine; shares = v.shares + w.shares }

  abbrev pub spent : View M E A
  spent =
      record { stage = Idle; opening = None; seen = []; heard = []; mine = []; shares = 0; all = 0 }
