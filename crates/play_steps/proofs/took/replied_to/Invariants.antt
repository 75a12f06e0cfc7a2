use Rattle.std.proofs.Common.{◌≡◌, ℕ, List, ◌++◌, map, drop}
use Rattle.play_steps.proofs.took.replied_to.Given as goal

abbrev pub invariant-loop-conn : goal.invariant-loop-conn
invariant-loop-conn l = l.conns.items ++ map (λ (r : ℕ × List ℕ). r.0) (drop l.conn-index l.replies)
    ≡ map (λ (r : ℕ × List ℕ). r.0) l.replies
