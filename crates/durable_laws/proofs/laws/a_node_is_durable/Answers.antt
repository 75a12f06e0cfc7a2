use Rattle.durable_laws.proofs.Nodes.{node_takes, node_starts, node_again, node_crashes}
use Rattle.durable_laws.proofs.laws.a_node_is_durable.Goals as goal

pub returns-clause-takes : goal.returns-clause-takes
returns-clause-takes c = node_takes

pub returns-clause-starts : goal.returns-clause-starts
returns-clause-starts c = node_starts

pub returns-clause-again : goal.returns-clause-again
returns-clause-again c = node_again

pub returns-clause-crash : goal.returns-clause-crash
returns-clause-crash c = node_crashes
