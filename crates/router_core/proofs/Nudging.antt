-- A nudge to each shard, one after the other.
use Rattle.std.proofs.Common.{◌≡◌, ℕ, zero, suc, ◌+◌, List, [], ◌∷◌, ◌++◌, map, ap, ◌∙◌, arith}
use Rattle.std.specs.List.{range_with_len}
use Rattle.txn_types.specs.declared.message.Msg.TheVariants.{Nudge}
use Rattle.router_state.specs.State.{Post}

abbrev nudge : ℕ → Post
nudge shard = (shard, Nudge)

nudges_last : (a n j : ℕ) → a + n ≡ j
    → map nudge (range_with_len a (suc n)) ≡ map nudge (range_with_len a n) ++ nudge j ∷ []
nudges_last a zero j e = let same : a ≡ j = omega (arith, e) in ap (λ k. nudge k ∷ []) same
nudges_last a (suc n) j e =
    ap (λ (xs : List Post). nudge a ∷ xs) (nudges_last (a + 1) n j (omega (arith, e)))

pub nudges_next : (n : ℕ) → map {B = Post} (λ shard. (shard, Nudge)) (range_with_len 0 (n + 1))
    ≡ map {B = Post} (λ shard. (shard, Nudge)) (range_with_len 0 n) ++ (n, Nudge) ∷ []
nudges_next n = let on : n + 1 ≡ suc n = omega arith in
    ap (λ k. map nudge (range_with_len 0 k)) on ∙ nudges_last 0 n n (omega arith)
