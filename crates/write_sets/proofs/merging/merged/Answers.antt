use Rattle.std.proofs.Common.{◌≡◌, List, IfOk, subst}
use Rattle.txn_types.specs.declared.write.Write.{Write}
use Rattle.write_sets.proofs.Merges.{merged_is}
use Rattle.write_sets.proofs.merging.merged.Goals as goal

pub returns : goal.returns
returns c =
    subst (λ (set : List Write). IfOk c.unloaded.result (λ all. all ≡ set))
    (merged_is c.args.own.now c.args.writes.now c.as_slice.result.now c.new-rows.result.entries
    c.lay_all.new.rows.entries c.lay_all-2.new.rows.entries c.new-rows.ensures.empty
    c.in_ok-lay_all.ensures c.as_slice.ensures.writes c.in_ok-lay_all-2.ensures)
    c.unloaded.ensures
