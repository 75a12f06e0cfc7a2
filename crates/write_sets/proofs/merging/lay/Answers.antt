use Rattle.std.proofs.Common.{ap, ◌∙◌}
use Rattle.txn_types.specs.declared.write.Write.{Write}
use Rattle.txn_semantics.specs.Keyed.{put}
use Rattle.txn_semantics.specs.Writes.{Place, place_of, place_cmp}
use Rattle.txn_semantics.proofs.Places.{place_total, place_exact}
use Rattle.version_store.proofs.Keyed.{inserted}
use Rattle.write_sets.proofs.merging.lay.Goals as goal

pub returns-in-Ok : goal.returns-in-Ok
returns-in-Ok c =
    c.in-Ok.ensures.entries
    ∙ inserted place_cmp place_total place_exact c.new.result c.new-write.result
    c.args.rows.now.entries
    ∙ ap (λ (place : Place). put place_cmp place c.new-write.result c.args.rows.now.entries)
    (c.new.ensures ∙ c.in_ok-key.ensures)
    ∙ ap (λ (write : Write). put place_cmp (place_of c.args.write.now) write
    c.args.rows.now.entries) (c.new-write.ensures ∙ c.in_ok-copy.ensures)
