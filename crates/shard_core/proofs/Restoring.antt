-- A shard is put back as it was before a message came.
use Rattle.std.proofs.Common.{◌≡◌, ℕ, max, Option, Some, None, MatchOption, unwrap_or, refl, ap}
use Rattle.std.proofs.Common.{◌∙◌}
use Rattle.txn_types.specs.declared.message.Envelope.{Envelope}
use Rattle.participant.specs.Expiry.{expire}
use Rattle.participant.specs.Part.{Part}
use Rattle.shard_core.specs.declared.saving.Saved.{Saved}
use Rattle.shard_core.specs.Arrived.{arrived}
use Rattle.shard_core.specs.Saved.{restored, IsSaved}
use Rattle.shard_core.specs.State.{ShardState, walled, expired, met}

part_back : (s : ShardState) (wall : ℕ) (o : Option Part)
    → MatchOption o (expire s.part (max s.wall wall) ≡ s.part) (λ p. p ≡ s.part)
    → unwrap_or o (expire s.part (max s.wall wall)) ≡ s.part
part_back s wall None h = h
part_back s wall (Some p) h = h

restored_here : (s : ShardState) (wall : ℕ) (e : Envelope) (kept : Saved) → IsSaved s wall kept
    → restored (met (expired (walled s wall)) e) kept ≡ s
restored_here s wall e kept h =
    rw (h.time, h.last, h.ceiling, part_back s wall kept.part h.part) refl

pub arrived_is : (s : ShardState) (wall : ℕ) (e : Envelope)
    → arrived s wall e ≡ met (expired (walled s wall)) e
unfolding arrived
arrived_is s wall e = refl

pub restored_is : (s now : ShardState) (wall : ℕ) (e : Envelope) (kept : Saved)
    → IsSaved s wall kept → now ≡ arrived s wall e → restored now kept ≡ s
restored_is s now wall e kept h is = ap (λ (s : ShardState). restored s kept) (is
    ∙ arrived_is s wall e) ∙ restored_here s wall e kept h
