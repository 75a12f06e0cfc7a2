use Rattle.std.proofs.Common.{◌≡◌, drop}
use Rattle.toml.specs.View.{items_view}
use Rattle.cluster_conf.specs.Conf.{rows_of}
use Rattle.cluster_conf.proofs.Fronts.{with_rows}
use Rattle.cluster_conf.proofs.chunks.rows_of.Given as goal

abbrev pub invariant-loop-value : goal.invariant-loop-value
invariant-loop-value l = with_rows l.rows.items (rows_of (items_view (drop l.value-index l.values)))
    ≡ rows_of (items_view l.values)
