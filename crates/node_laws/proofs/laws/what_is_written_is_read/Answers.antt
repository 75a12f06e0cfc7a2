use Rattle.node_laws.proofs.Messages.{envelope_frame_again, batch_frame_again}
use Rattle.node_laws.proofs.laws.what_is_written_is_read.Goals as goal

pub returns-clause-envelope : goal.returns-clause-envelope
returns-clause-envelope c = envelope_frame_again

pub returns-clause-batch : goal.returns-clause-batch
returns-clause-batch c = batch_frame_again
