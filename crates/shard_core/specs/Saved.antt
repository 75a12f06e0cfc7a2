-- What is kept of a shard before a message comes, so that it can be put back.
use Rattle.std.specs.Prelude.{◌≡◌, ℕ, max, unwrap_or, MatchOption}
use Rattle.participant.specs.Expiry.{expire}
use Rattle.shard_core.specs.declared.saving.Saved.{Saved}
use Rattle.shard_core.specs.State.{ShardState}

-- with what was kept; the part is kept where something expires
abbrev pub restored : ShardState → Saved → ShardState
restored s kept =
    record s {
      wall = kept.wall;
      clock = record { last = kept.clock.last; ceiling = kept.clock.ceiling };
      part = unwrap_or kept.part s.part;
    }

-- it is of this shard, at which a message comes at this wall
pub record IsSaved (s : ShardState) (wall : ℕ) (kept : Saved) : Type 0 where
  pub time : kept.wall ≡ s.wall
  pub last : kept.clock.last ≡ s.clock.last
  pub ceiling : kept.clock.ceiling ≡ s.clock.ceiling
  pub part : MatchOption kept.part (expire s.part (max s.wall wall) ≡ s.part) (λ p. p ≡ s.part)
