use Rattle.std.proofs.Common.{◌≡◌, drop}
use Rattle.router_rules.specs.Tokens.{is_known}
use Rattle.router_txn.proofs.tokens.is_known.Given as goal

abbrev pub invariant-loop-other : goal.invariant-loop-other
invariant-loop-other l = is_known l.tag (drop l.other-index l.known) ≡ is_known l.tag l.known
