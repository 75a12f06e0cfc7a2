use Rattle.std.proofs.Common.{◌≡◌, ◌≤◌, ◌+◌, ◌-◌, ◌^◌, map, drop}
use Rattle.txn_semantics.specs.Meaning.{capped}
use Rattle.txn_semantics.specs.Merge.{capped_sum, n_of, modified_of}
use Rattle.query_eval.proofs.merging.merge_counts.Given as goal

abbrev pub invariant-loop-part : goal.invariant-loop-part
invariant-loop-part l = record {
  n : capped (l.n + capped_sum (map n_of (drop l.part-index l.parts)))
      ≡ capped_sum (map n_of l.parts);
  modified : capped (l.modified + capped_sum (map modified_of (drop l.part-index l.parts)))
      ≡ capped_sum (map modified_of l.parts);
  n_small : l.n ≤ 2 ^ 63 - 1;
  modified_small : l.modified ≤ 2 ^ 63 - 1;
}
