use Rattle.std.proofs.Common.{◌≡◌, [], map, take}
use Rattle.query_eval.specs.Held.{all_written, mark_of, some_of}
use Rattle.query_eval.proofs.rows.lent.Given as goal

abbrev pub invariant-loop-id : goal.invariant-loop-id
invariant-loop-id l = record {
  lent : map mark_of l.held.items ≡ map some_of (take l.id-index l.rows);
  unwritten : all_written l.held.items ≡ [];
}
