use Rattle.std.proofs.Common.{◌≡◌, ◌++◌, drop, map}
use Rattle.router_rules.specs.Ends.{abort_to}
use Rattle.router_txn.proofs.ends.aborts.Given as goal

abbrev pub invariant-loop-part : goal.invariant-loop-part
invariant-loop-part l = l.posts ++ map (abort_to l.lsid l.number l.why l.t.tag) (drop l.part-index
    l.part-items) ≡ map (abort_to l.lsid l.number l.why l.t.tag) l.part-items
