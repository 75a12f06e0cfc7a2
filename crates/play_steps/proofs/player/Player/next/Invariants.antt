use Rattle.std.proofs.Common.{◌≡◌, length}
use Rattle.play_steps.specs.Lines.{written, next}
use Rattle.play_steps.proofs.player.Player.next.Given as goal

abbrev pub invariant-loop-want : goal.invariant-loop-want
invariant-loop-want g l = written l.out.items (next (g.L.CommitList.text l.commits) l.self)
    ≡ written l.initial.out.items (next (g.L.CommitList.text l.commits) l.initial.self)

abbrev pub decreases-loop-want : goal.decreases-loop-want
decreases-loop-want g l = length l.self.lines
