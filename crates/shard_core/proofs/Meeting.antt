-- A clock after a ceiling that a delivered message asks for.
use Rattle.std.proofs.Common.{◌≡◌, ◌⊎◌, inl, inr, ◌<◌, ◌≤◌, ◌^◌, ℕ, max, Bool, true, false, refl}
use Rattle.std.proofs.Common.{arith, nat_lt, nat_eq}
use Rattle.txn_types.specs.Clock.{Clock, next_time, reach, raised, ceiling_for, last_time}
use Rattle.shard_core.specs.Laws.{IsClock}
use Rattle.shard_core.proofs.Times.{within, tick_within, reach_ends}
use Rattle.shard_core.proofs.Stepping.{covers, not_last}

-- the message's times are within the ceiling, and so is a tick after them
pub record Meets (clock : Clock) (wall time read_at ceiling : ℕ) : Type 0 where
  pub first : time ≤ ceiling
  pub second : read_at ≤ ceiling
  pub ticks : (max (max clock.last time) read_at ≡ last_time)
      ⊎ (next_time (max (max clock.last time) read_at) wall ≤ ceiling)

is_last : (n : ℕ) → nat_eq n last_time ≡ true → n ≡ last_time
is_last n h = grind arith

ticks_case : (last wall time read_at ceiling : ℕ) (test : Bool)
    → nat_eq (max (max last time) read_at) last_time ≡ test → wall < 2 ^ 32
    → max (max last time) read_at < 2 ^ 64 → reach last wall time read_at ≤ ceiling
    → (max (max last time) read_at ≡ last_time)
    ⊎ (next_time (max (max last time) read_at) wall ≤ ceiling)
ticks_case last wall time read_at ceiling true is w small far =
    inl (is_last (max (max last time) read_at) is)
ticks_case last wall time read_at ceiling false is w small far =
    let tick =
    tick_within last wall time read_at w (not_last (max (max last time) read_at) is small) in
    inr (grind (arith, tick, far))

pub meets : (clock : Clock) (wall time read_at : ℕ) → IsClock clock → wall < 2 ^ 32 → time < 2 ^ 64
    → read_at < 2 ^ 64
    → Meets clock wall time read_at
    (raised clock (ceiling_for clock (reach clock.last wall time read_at))).ceiling
meets clock wall time read_at c w t r =
    let far : ℕ = reach clock.last wall time read_at in
    let cover = covers clock far (nat_lt clock.ceiling far) refl c (reach_ends clock.last wall
    time read_at) in
    let last : clock.last < 2 ^ 64 = grind (arith, c.below, c.ends) in
    let most : max (max clock.last time) read_at ≤ far =
    within clock.last wall time read_at last t r in
    let small : max (max clock.last time) read_at < 2 ^ 64 = grind arith in
    record {
      first = grind (arith, most, cover.far_enough);
      second = grind (arith, most, cover.far_enough);
      ticks = ticks_case clock.last wall time read_at _ (nat_eq (max (max clock.last time) read_at)
          last_time) refl w small cover.far_enough;
    }
