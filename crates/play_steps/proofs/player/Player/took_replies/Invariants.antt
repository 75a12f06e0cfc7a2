use Rattle.std.proofs.Common.{◌≡◌, ℕ, List, ◌++◌, drop, flat_map}
use Rattle.play_text.specs.Text.{reply_line}
use Rattle.play_steps.specs.Taking.{all_answered}
use Rattle.play_steps.proofs.player.Player.took_replies.Given as goal

abbrev pub invariant-loop-conn : goal.invariant-loop-conn
invariant-loop-conn l = record {
  text : l.out.items ++ flat_map (λ (r : ℕ × List ℕ).
      reply_line r.0 r.1) (drop l.conn-index l.replies)
      ≡ l.initial.out.items ++ flat_map (λ (r : ℕ × List ℕ). reply_line r.0 r.1) l.replies;
  player : all_answered l.self (drop l.conn-index l.replies)
      ≡ all_answered l.initial.self l.replies;
}
