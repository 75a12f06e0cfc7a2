use Rattle.std.proofs.Common.{◌≡◌, ◌++◌, drop, map}
use Rattle.router_rules.specs.Safe.{AllFit}
use Rattle.router_plan.specs.Spelling.{spelled}
use Rattle.router_plan.proofs.spelling.all_spelled.Given as goal

abbrev pub invariant-loop-sent : goal.invariant-loop-sent
invariant-loop-sent l = record {
  spelled : l.all ++ map (spelled l.time) (drop l.sent-index l.replies)
      ≡ map (spelled l.time) l.replies;
  fit : AllFit (drop l.sent-index l.replies);
}
