-- What lines ask for, one after the other; and what is written of messages.
use Rattle.std.proofs.Common.{◌≡◌, ℕ, suc, ◌+◌, ◌-◌, ◌<◌, List, [], ◌∷◌, ◌++◌, map, sym, ap, ◌∙◌}
use Rattle.std.proofs.Common.{append_assoc, arith}
use Rattle.std.specs.List.{range_with_len}
use Rattle.std.proofs.lemmas.List.{append-nil}
use Rattle.txn_types.specs.declared.event.Happening.TheVariants as what
use Rattle.txn_types.specs.declared.node.NodeId.TheVariants.{Shard, Router}
use Rattle.play_steps.specs.declared.want.Want.{Want}
use Rattle.play_steps.specs.declared.want.Want.TheVariants.{Event}
use Rattle.play_steps.specs.Player.{Player}
use Rattle.play_steps.specs.Lines.{queued, moments}

queued_more : (p : Player) (w : Want) (ws : List Want)
    → queued (queued p (w ∷ [])) ws ≡ queued p (w ∷ ws)
queued_more p w ws =
    ap (λ (q : List Want). record p { queue = q }) (append_assoc p.queue (w ∷ []) ws)

range_by : (m j k : ℕ) → j ≡ suc m → range_with_len k j ≡ k ∷ range_with_len (k + 1) m
range_by m j k is = ap (range_with_len k) is

range_step : (k n : ℕ) → k < n → range_with_len k (n - k) ≡ k ∷ range_with_len (k + 1) (n - (k + 1))
range_step k n less = range_by (n - (k + 1)) (n - k) k (omega (arith, less))

abbrev pub at_shard : ℕ → Want
at_shard n = Event (Shard n) what.Moment

abbrev pub at_router : ℕ → Want
at_router n = Event (Router n) what.Moment

-- the wants from a number on, and those after them
abbrev pub from_on : (ℕ → Want) → ℕ → ℕ → List Want → List Want
from_on f k n more = map f (range_with_len k (n - k)) ++ more

pub one_more : (f : ℕ → Want) (p q : Player) (k n : ℕ) (more : List Want) → k < n
    → q ≡ queued p (f k ∷ []) → queued q (from_on f (k + 1) n more) ≡ queued p (from_on f k n more)
one_more f p q k n more less is =
    ap (λ (r : Player). queued r (from_on f (k + 1) n more)) is
    ∙ queued_more p (f k) (from_on f (k + 1) n more)
    ∙ ap (λ (ks : List ℕ). queued p (map f ks ++ more)) (sym (range_step k n less))

minus_none : (n : ℕ) → n - 0 ≡ n
minus_none n = omega arith

pub moments_start : (p : Player) → queued p (from_on at_shard 0 p.shards
    (from_on at_router 0 p.routers [])) ≡ queued p (moments p)
moments_start p =
    ap (λ (n : ℕ). queued p (map at_shard (range_with_len 0 n)
    ++ (map at_router (range_with_len 0 (p.routers - 0)) ++ []))) (minus_none p.shards)
    ∙ ap (λ (n : ℕ). queued p (map at_shard (range_with_len 0 p.shards)
    ++ (map at_router (range_with_len 0 n) ++ []))) (minus_none p.routers)
    ∙ ap (λ (ws : List Want). queued p (map at_shard (range_with_len 0 p.shards) ++ ws))
    (append-nil (map at_router (range_with_len 0 p.routers)))

range_none : (k j : ℕ) → j ≡ 0 → range_with_len k j ≡ []
range_none k j is = ap (range_with_len k) is

pub no_more : (f : ℕ → Want) (p : Player) (k n : ℕ) (more : List Want) → k ≡ n
    → queued p (from_on f k n more) ≡ queued p more
no_more f p k n more is =
    ap (λ (ks : List ℕ). queued p (map f ks ++ more)) (range_none k (n - k) (omega (arith, is)))

pub queued_none : (p : Player) → queued p [] ≡ p
queued_none p = ap (λ (q : List Want). record p { queue = q }) (append-nil p.queue)
