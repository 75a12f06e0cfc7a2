use Rattle.node_laws.proofs.Bytes.{envelopes_differ, batches_differ}
use Rattle.node_laws.proofs.laws.messages_are_told_apart.Goals as goal

pub returns-clause-envelopes : goal.returns-clause-envelopes
returns-clause-envelopes c = envelopes_differ

pub returns-clause-batches : goal.returns-clause-batches
returns-clause-batches c = batches_differ
