use Rattle.std.proofs.Common.{◌≡◌, length}
use Rattle.play_steps.specs.Player.{undone}
use Rattle.play_steps.proofs.player.Player.drop_done.Given as goal

abbrev pub invariant-loop-number : goal.invariant-loop-number
invariant-loop-number l =
    undone l.self.pending l.left.items ≡ undone l.self.pending l.initial.left.items

abbrev pub decreases-loop-number : goal.decreases-loop-number
decreases-loop-number l = length l.left.items
