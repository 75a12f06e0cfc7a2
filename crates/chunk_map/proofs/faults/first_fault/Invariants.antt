use Rattle.std.proofs.Common.{◌≡◌, take, drop}
use Rattle.chunk_map.specs.Map.{fault_behind, first_fault}
use Rattle.chunk_map.proofs.faults.first_fault.Given as goal

abbrev pub invariant-loop-place : goal.invariant-loop-place
invariant-loop-place l = fault_behind l.shards l.place (take l.place l.rows) (drop l.place l.rows)
    ≡ first_fault l.shards l.rows
