-- What a disk's calls do to the bytes that it holds, and what a crash may leave of them. An image
-- is what a start after a crash finds.
use Rattle.std.specs.Prelude.{◌≡◌, ◌⊎◌, ℕ, ◌+◌, ◌-◌, ◌≤◌, min, max, List, ◌++◌, length, take, drop}

-- new is old with these bytes at this place
abbrev pub Holds : List ℕ → ℕ → List ℕ → List ℕ → Type 0
Holds old at bytes new = new ≡ take at old ++ bytes ++ drop (at + length bytes) old

-- A write of n bytes at a place that a crash cuts short: any bytes in the range and past the old
-- end, the same elsewhere, and a length between the old one and the whole write's.
pub record Torn (at n : ℕ) (old new : List ℕ) : Type 0 where
  pub before : take (min at (length old)) new ≡ take at old
  pub after : drop (at + n) old ≡ take (length old - (at + n)) (drop (at + n) new)
  pub no_shorter : length old ≤ length new
  pub no_longer : length new ≤ max (length old) (at + n)

-- a cut to n bytes that a crash cuts short: some length between
pub record CutShort (n : ℕ) (old new : List ℕ) : Type 0 where
  pub no_shorter : min n (length old) ≤ length new
  pub front : new ≡ take (length new) old

-- nothing is changed
abbrev pub Same : List ℕ → List ℕ → Type 0
Same old new = new ≡ old

-- a crash leaves this image and no other
abbrev pub Only : List ℕ → (List ℕ → Type 0) → Type 0
Only file images = (c : List ℕ) → images c → c ≡ file

-- A call of a disk, as a crash sees it: each image that may be left now comes by a step from one
-- that might have been left before, and what a crash since an earlier moment might have left, it
-- might have left before the call or may leave now.
pub record Passes {D : Type 0} (may_leave : D → List ℕ → Type 0) (moment : D → ℕ) (left_since : D
    → ℕ → List ℕ → Type 0) (step : List ℕ → List ℕ → Type 0) (old new : D) : Type 0 where
  pub follows : (c : List ℕ) → may_leave new c → (d : List ℕ) × may_leave old d × step d c
  pub later : moment old ≤ moment new
  pub nothing_else : (t : ℕ) (c : List ℕ) → t ≤ moment old → left_since new t c
      → left_since old t c ⊎ may_leave new c
  pub keeps : (t : ℕ) (c : List ℕ) → t ≤ moment old → left_since old t c → left_since new t c

-- A crash at any moment since old, in a call or between two, leaves an image with P.
pub record LeavesOnly {D : Type 0} (moment : D → ℕ) (left_since : D → ℕ → List ℕ → Type 0)
    (old new : D) (P : List ℕ → Type 0) : Type 0 where
  pub later : moment old ≤ moment new
  pub each : (c : List ℕ) → left_since new (moment old) c → P c
  -- for a run that began earlier
  pub before : (t : ℕ) (c : List ℕ) → t ≤ moment old → left_since new t c → left_since old t c ⊎ P c
