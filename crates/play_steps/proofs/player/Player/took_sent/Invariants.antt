use Rattle.std.proofs.Common.{◌≡◌, ◌++◌, drop}
use Rattle.play_steps.specs.Taking.{sent_lines, where_logs, with_sent}
use Rattle.play_steps.proofs.player.Player.took_sent.Given as goal

abbrev pub invariant-loop-envelope : goal.invariant-loop-envelope
invariant-loop-envelope l = record {
  text : l.out.items ++ where_logs l.self.logs (sent_lines l.self.sent
      (drop l.envelope-index l.sent)) ≡ l.initial.out.items
      ++ where_logs l.initial.self.logs (sent_lines l.initial.self.sent l.sent);
  player : with_sent l.self (drop l.envelope-index l.sent) ≡ with_sent l.initial.self l.sent;
}
