use Rattle.durable_laws.proofs.Beginning.{start_backed, start_finds, first_start}
use Rattle.durable_laws.proofs.laws.a_start_is_durable.Goals as goal

pub returns-clause-found : goal.returns-clause-found
returns-clause-found c = start_finds

pub returns-clause-backed : goal.returns-clause-backed
returns-clause-backed c = start_backed

pub returns-clause-first : goal.returns-clause-first
returns-clause-first c = first_start
