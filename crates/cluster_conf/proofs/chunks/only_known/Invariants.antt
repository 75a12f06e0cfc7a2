use Rattle.std.proofs.Common.{◌≡◌}
use Rattle.toml.specs.View.{members_view}
use Rattle.cluster_conf.specs.Conf.{row_keys, unknown_in}
use Rattle.cluster_conf.proofs.chunks.only_known.Given as goal

abbrev pub invariant-members : goal.invariant-members
invariant-members l =
    (goal.iterator-members).can_next l.key-iterator ×
    (goal.iterator-members).is_finite l.key-iterator ×
    (unknown_in row_keys (members_view l.key-iterator)
    ≡ unknown_in row_keys (members_view l.row.entries))
