-- What contracts say of a lock and of a pass of it. The history of a lock is the list of all its
-- calls, each an event and its answer, in the order in which they were made.
use Rattle.std.specs.Prelude.{◌≡◌, ◌==◌, ℕ, ◌+◌, ◌-◌, ◌≤◌, ◌<◌, ◌%◌, ◌^◌, List, [], ◌∷◌, ◌++◌}
use Rattle.std.specs.Prelude.{length, Option, Some, None}
use Rattle.std.specs.List.{All, count_by, slice_get}
use mathlib.Core.List.{IsPrefix}
use Rattle.atomic_table.specs.Seated.{TableId}
use Rattle.machine.specs.History.{Legal}
use Rattle.node_lock.specs.declared.law.View.{View}
use Rattle.node_lock.specs.declared.law.Stage.TheVariants.{Idle}

-- a lock: its table, and what it was told at the start
pub record Locked (K : Type 0) : Type 0 where
  pub table : TableId
  pub about : K

-- a pass: its lock's table, and what it knows
pub record Passed (V : Type 0) : Type 0 where
  pub table : TableId
  pub knows : V

-- a number as a word of the table has it
abbrev pub wrap : ℕ → ℕ
wrap n = n % 2 ^ 64

-- these calls may be made on this machine, one after the other
abbrev pub IsHistory : {M E A : Type 0} → (M → E → A → M → Type 0) → Option M
    → List (E × A) → Type 0
IsHistory takes None calls = ⊥
IsHistory {M} takes (Some opening) calls = (now : M) × Legal takes opening calls now

module _ {M E A : Type 0} where
  -- the first pass: it has all shares, and has seen nothing
  abbrev pub newcomer : M → ℕ → View M E A
  newcomer opening shares = record {
    stage = Idle;
    opening = Some opening;
    seen = [];
    heard = [];
    mine = [];
    shares = shares;
    all = shares;
  }

  -- how many of the calls that were made with the pass stand at this place
  abbrev pub at_place : ℕ → View M E A → ℕ
  at_place place v = count_by (λ call. call.0 == place) v.mine

  -- A legal history was seen. The calls that were made with the pass stand in it, each once
  pub record IsSound (takes : M → E → A → M → Type 0) (v : View M E A) : Type 0 where
    pub legal : IsHistory takes v.opening v.seen
    pub placed : All (λ call. slice_get v.seen call.0 ≡ Some call.1) v.mine
    pub once : (place : ℕ) → at_place place v ≤ 1

  -- A call: the history that is then seen begins with what was seen before, and has the call as its
  -- last, at its place. It is one more of the calls that were made with the pass
  pub record Called (takes : M → E → A → M → Type 0) (event : E) (place : ℕ) (answer : A)
      (old new : View M E A) : Type 0 where
    pub before : List (E × A)
    pub place_is : place ≡ wrap (length before)
    pub later : IsPrefix old.seen before
    pub changed : new ≡ record old {
      seen = before ++ (event, answer) ∷ [];
      mine = old.mine ++ (length before, (event, answer)) ∷ [];
    }
    pub sound : IsSound takes new

  -- A pass that has seen the same and has made no call takes one of the shares
  abbrev pub cut_off : View M E A → View M E A
  cut_off v = record v { mine = []; shares = 1 }

  abbrev pub left_over : View M E A → View M E A
  left_over v = record v { shares = v.shares - 1 }

  -- Two passes become one, which has then seen what both had, and has the calls and the shares of
  -- both
  pub record Met (takes : M → E → A → M → Type 0) (one other new : View M E A) : Type 0 where
    pub seen : List (E × A)
    pub later : IsPrefix one.seen seen
    pub told : IsPrefix other.seen seen
    pub changed : new ≡ record one
        { seen = seen; mine = one.mine ++ other.mine; shares = one.shares + other.shares }
    pub sound : IsSound takes new

  -- The history is seen whole, and each of its calls was made with the pass
  pub record Whole (takes : M → E → A → M → Type 0) (count : ℕ)
      (old new : View M E A) : Type 0 where
    pub seen : List (E × A)
    pub count_is : count ≡ wrap (length seen)
    pub later : IsPrefix old.seen seen
    pub changed : new ≡ record old { seen = seen }
    pub sound : IsSound takes new
    pub own : (place : ℕ) → place < length seen → at_place place new ≡ 1
