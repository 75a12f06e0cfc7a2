use Rattle.address_laws.proofs.Standing.{addresses_step, addresses_run, addresses_fresh, all_go}
use Rattle.address_laws.proofs.laws.sent_messages_go_to_nodes_that_are_there.Goals as goal

pub returns-clause-step : goal.returns-clause-step
returns-clause-step c = addresses_step

pub returns-clause-run : goal.returns-clause-run
returns-clause-run c = addresses_run

pub returns-clause-fresh : goal.returns-clause-fresh
returns-clause-fresh c = addresses_fresh

pub returns-clause-sent : goal.returns-clause-sent
returns-clause-sent c = all_go
