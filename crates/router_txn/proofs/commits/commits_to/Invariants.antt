use Rattle.std.proofs.Common.{◌≡◌, ◌++◌, drop, map}
use Rattle.router_rules.specs.Commits.{commit_to}
use Rattle.router_txn.proofs.commits.commits_to.Given as goal

abbrev pub invariant-loop-part : goal.invariant-loop-part
invariant-loop-part l = l.posts ++ map (commit_to l.lsid l.number l.t) (drop l.part-index l.parts)
    ≡ map (commit_to l.lsid l.number l.t) l.parts
