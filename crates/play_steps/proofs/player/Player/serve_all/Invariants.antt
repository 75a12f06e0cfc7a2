use Rattle.std.proofs.Common.{◌≡◌, length}
use Rattle.play_steps.specs.Player.{behind_text, ready}
use Rattle.play_steps.proofs.player.Player.serve_all.Given as goal

abbrev pub invariant-loop-conn : goal.invariant-loop-conn
invariant-loop-conn l =
    behind_text l.out.items (ready l.self) ≡ behind_text l.initial.out.items (ready l.initial.self)

abbrev pub decreases-loop-conn : goal.decreases-loop-conn
decreases-loop-conn l = length l.self.serving
