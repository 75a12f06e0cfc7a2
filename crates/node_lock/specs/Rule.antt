-- The rule of a lock's table, which holds between any two of its steps. Word 0 is the next ticket,
-- word 1 the ticket that is served, word 2 the number of calls, each modulo 2^64. The one slot has
-- the machine.
use Rattle.std.specs.Prelude.{◌≡◌, ℕ, ◌+◌, ◌<◌, ◌≤◌, ◌^◌, List, [], length, slice_index, Some, cond}
use Rattle.std.specs.Prelude.{nat_lt}
use Rattle.std.specs.List.{All, slice_get}
use mathlib.Core.Option.{some}
use mathlib.Core.Option as maybe
use mathlib.Core.List.{IsPrefix, ◌∷◌}
use lib.ListN.{get_elem?}
use Rattle.atomic_table.specs.Table.{State}
use Rattle.machine.specs.History.{Legal}
use Rattle.node_lock.specs.declared.kept.Kept.{Kept}
use Rattle.node_lock.specs.declared.law.View.{View}
use Rattle.node_lock.specs.declared.law.Stage.{Stage}
use Rattle.node_lock.specs.declared.law.Stage.TheVariants.{Idle, Waiting, Holding}
use Rattle.node_lock.specs.Known.{wrap, at_place}

-- the views' numbers, added up
abbrev pub total : {V : Type 0} → (V → ℕ) → List V → ℕ
total f [] = 0
total f (v ∷ vs) = f v + total f vs

abbrev pub once_below : ℕ → ℕ → ℕ
once_below place n = cond (nat_lt place n) 1 0

abbrev pub queued : {M : Type 0} → Stage M → ℕ
queued Idle = 0
queued (Waiting t) = 1
queued (Holding t m) = 1

-- How far the lock has come: the next ticket and the one that is served, not wrapped; the history,
-- and the machine after it; which seat holds the machine, if one does; and which seat drew a
-- ticket
pub record Course (M E A : Type 0) : Type 0 where
  pub next : ℕ
  pub serving : ℕ
  pub log : List (E × A)
  pub state : M
  pub out : maybe.Option ℕ
  pub owner : ℕ → ℕ

module _ {M E A : Type 0} where
  abbrev pub in_line : View M E A → ℕ
  in_line v = queued v.stage

  abbrev pub shares_of : View M E A → ℕ
  shares_of v = v.shares

  -- what a seat's stage means
  abbrev pub Stands : Course M E A → ℕ → Stage M → Type 0
  Stands c seat Idle = Unit {0}
  Stands c seat (Waiting t) = (c.owner t ≡ seat) × (c.serving ≤ t) × (t < c.next)
  Stands c seat (Holding t m) = (c.owner t ≡ seat) × (t ≡ c.serving) × (t < c.next)
      × (c.out ≡ some seat) × (m ≡ c.state)

  -- the machine is at home, or out with the seat that is served
  abbrev pub InPlace : List (maybe.Option (Kept M E A)) → M → maybe.Option ℕ → Type 0
  InPlace homes m maybe.none = (k : Kept M E A) × (get_elem? homes 0 ≡ some (some k))
      × (k.machine ≡ Some m)
  InPlace homes m (maybe.some seat) = Unit {0}

  abbrev pub IsHeld : Course M E A → List (View M E A) → Type 0
  IsHeld c views = (seat : ℕ) → c.out ≡ some seat
      → (v : View M E A) × (get_elem? views seat ≡ some v) × (v.stage ≡ Holding c.serving c.state)

  -- what holds of the view of each seat
  pub record Fits (opening : M) (shares : ℕ) (c : Course M E A) (seat : ℕ)
      (v : View M E A) : Type 0 where
    pub stands : Stands c seat v.stage
    pub live : 0 < v.shares → (v.opening ≡ Some opening) × (v.all ≡ shares)
    pub seen : IsPrefix v.seen c.log
    pub heard : IsPrefix v.heard c.log
    pub placed : All (λ call. slice_get c.log call.0 ≡ Some call.1) v.mine
    pub share : in_line v ≤ v.shares
    pub spent : v.shares ≡ 0 → v.mine ≡ []

  pub record Lawful (takes : M → E → A → M → Type 0) (opening : M) (shares : ℕ)
      (s : State (Kept M E A) (View M E A)) : Type 0 where
    pub c : Course M E A
    pub wide : length s.words ≡ 3
    pub one_slot : length s.homes ≡ 1
    pub next_is : slice_index s.words 0 ≡ wrap c.next
    pub serving_is : slice_index s.words 1 ≡ wrap c.serving
    pub count_is : slice_index s.words 2 ≡ wrap (length c.log)
    pub legal : Legal takes opening c.log c.state
    pub place : InPlace s.homes c.state c.out
    pub held : IsHeld c s.views
    -- the tickets that are drawn and not served are those of the views in line
    pub line : c.serving + total in_line s.views ≡ c.next
    pub all_shares : total shares_of s.views ≡ shares
    pub few : shares < 2 ^ 64
    -- each place of the history is that of a call of exactly one view
    pub each_place : (p : ℕ) → total (at_place p) s.views ≡ once_below p (length c.log)
    pub each : (seat : ℕ) (v : View M E A) → get_elem? s.views seat ≡ some v
        → Fits opening shares c seat v
