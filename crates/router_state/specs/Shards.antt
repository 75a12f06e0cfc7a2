-- The shards of a transaction: those that take part, and those of them that wrote.
use Rattle.std.specs.Prelude.{ℕ, Bool, not, List, map, filter, nat_eq}
use Rattle.std.specs.List.{list_any}
use Rattle.std.specs.Ordering.{nat_cmp}
use Rattle.txn_semantics.specs.Keyed.{put}
use Rattle.router_state.specs.declared.state.Transaction.{Transaction}
use Rattle.router_state.specs.State.{boot_of}

-- a shard takes part, with the boot that it told, if it did before
abbrev pub with_shard : List (ℕ × ℕ) → ℕ → List (ℕ × ℕ)
with_shard parts shard = put nat_cmp shard (boot_of parts shard) parts

abbrev pub has_written : Transaction → ℕ → Bool
has_written t shard = list_any (nat_eq shard) t.wrote

-- the participants without a write, rising
abbrev pub readers : Transaction → List (ℕ × ℕ)
readers t = filter (λ part. not (has_written t part.0)) t.parts

-- those that wrote, each with its boot, the first that wrote in front
abbrev pub writers : Transaction → List (ℕ × ℕ)
writers t = map (λ shard. (shard, boot_of t.parts shard)) t.wrote
