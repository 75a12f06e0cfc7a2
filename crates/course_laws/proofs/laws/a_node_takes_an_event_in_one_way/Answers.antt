use Rattle.course_laws.proofs.Taking.{shard_takes_once, router_takes_once}
use Rattle.course_laws.proofs.laws.a_node_takes_an_event_in_one_way.Goals as goal

pub returns-clause-shard : goal.returns-clause-shard
returns-clause-shard c = shard_takes_once

pub returns-clause-router : goal.returns-clause-router
returns-clause-router c = router_takes_once
