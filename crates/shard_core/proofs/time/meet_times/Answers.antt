use Rattle.std.proofs.Common.{◌≡◌, ◌⊎◌, ◌≤◌, ◌<◌, ◌^◌, ℕ, max, Option, ap, sym, subst, ◌∙◌, arith}
use Rattle.txn_types.specs.Clock.{Clock, reach, raised, ceiling_for, next_time, last_time}
use Rattle.shard_core.specs.Laws.{IsClock}
use Rattle.shard_core.proofs.Meeting.{Meets, meets}
use Rattle.shard_core.proofs.time.meet_times.Goals as goal

-- within the ceiling that stands then
met : (clock : Clock) (wall time read_at ceiling : ℕ) (bound : Option ℕ)
    → IsClock clock → wall < 2 ^ 32 → time < 2 ^ 64 → read_at < 2 ^ 64
    → bound ≡ ceiling_for clock (reach clock.last wall time read_at)
    → ceiling ≡ (raised clock bound).ceiling → Meets clock wall time read_at ceiling
met clock wall time read_at ceiling bound c w t r asked is =
    subst (λ (n : ℕ). Meets clock wall time read_at n)
    (sym (is ∙ ap (λ (b : Option ℕ). (raised clock b).ceiling) asked))
    (meets clock wall time read_at c w t r)

pub advance-requires : goal.advance-requires
advance-requires c =
    let clock : Clock =
    record { last = c.args.clock.now.last; ceiling = c.args.clock.now.ceiling } in
    let ends : clock.ceiling < 2 ^ 64 = omega (arith, c.requires.own) in
    let is : IsClock clock = record { below = omega arith; ends = ends } in
    (met clock c.args.wall c.args.time c.args.read_at c.raise_if.new.clock.ceiling c.args.bound is
    (omega arith) (omega arith) (omega arith) c.requires.bound c.raise_if.ensures.ceiling).first

pub advance-requires-2 : goal.advance-requires-2
advance-requires-2 c =
    let clock : Clock =
    record { last = c.args.clock.now.last; ceiling = c.args.clock.now.ceiling } in
    let ends : clock.ceiling < 2 ^ 64 = omega (arith, c.requires.own) in
    let is : IsClock clock = record { below = omega arith; ends = ends } in
    (met clock c.args.wall c.args.time c.args.read_at c.advance.new.clock.ceiling
    c.args.bound is (omega arith) (omega arith) (omega arith) c.requires.bound
    (c.advance.ensures.ceiling ∙ c.raise_if.ensures.ceiling)).second

pub returns-clause-ticks : goal.returns-clause-ticks
returns-clause-ticks c =
    let clock : Clock =
    record { last = c.args.clock.now.last; ceiling = c.args.clock.now.ceiling } in
    let ends : clock.ceiling < 2 ^ 64 = omega (arith, c.requires.own) in
    let is : IsClock clock = record { below = omega arith; ends = ends } in
    let ceiling : c.advance-2.new.clock.ceiling ≡ (raised clock c.args.bound).ceiling =
    c.advance-2.ensures.ceiling ∙ c.advance.ensures.ceiling ∙ c.raise_if.ensures.ceiling in
    let last : c.advance-2.new.clock.last
    ≡ max (max c.args.clock.now.last c.args.time) c.args.read_at =
    c.advance-2.ensures.last ∙ ap (λ (n : ℕ). max n c.args.read_at) (c.advance.ensures.last
    ∙ ap (λ (n : ℕ). max n c.args.time) c.raise_if.ensures.last) in
    let m = met clock c.args.wall c.args.time c.args.read_at c.advance-2.new.clock.ceiling
    c.args.bound is (omega arith) (omega arith) (omega arith) c.requires.bound ceiling in
    subst (λ (n : ℕ). (n ≡ last_time) ⊎ (next_time n c.args.wall ≤ c.advance-2.new.clock.ceiling))
    (sym last) m.ticks
