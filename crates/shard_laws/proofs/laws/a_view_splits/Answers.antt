use Rattle.shard_laws.proofs.Views.{view_here, silent_leaves, views_join}
use Rattle.shard_laws.proofs.laws.a_view_splits.Goals as goal

pub returns-clause-here : goal.returns-clause-here
returns-clause-here c = view_here

pub returns-clause-silent : goal.returns-clause-silent
returns-clause-silent c = silent_leaves

pub returns-clause-join : goal.returns-clause-join
returns-clause-join c = views_join
