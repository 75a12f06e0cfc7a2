use Rattle.std.proofs.Common.{◌≡◌, drop}
use Rattle.toml.specs.View.{items_view}
use Rattle.cluster_conf.specs.Conf.{texts_of}
use Rattle.cluster_conf.proofs.Fronts.{with_texts}
use Rattle.cluster_conf.proofs.lists.texts_of.Given as goal

abbrev pub invariant-loop-value : goal.invariant-loop-value
invariant-loop-value l = with_texts l.texts (texts_of (items_view (drop l.value-index l.values)))
    ≡ texts_of (items_view l.values)
