use Rattle.cluster_core.specs.Ledger.{fresh_ledger}
use Rattle.chain_laws.proofs.Completed.{run_of, all_completed}
use Rattle.chain_laws.proofs.laws.answers_are_of_completed_statements.Goals as goal

pub returns-clause-of : goal.returns-clause-of
returns-clause-of c routers run = run_of (fresh_ledger routers) run

pub returns-clause-come : goal.returns-clause-come
returns-clause-come c = all_completed
