use Rattle.client_cmd.proofs.Sessions.{abort_session}
use Rattle.client_cmd.proofs.reading.read_abort.Goals as goal

pub txn_in-requires : goal.txn_in-requires
txn_in-requires c = abort_session c.args.frame.now c.in_ok-check.field-0 c.in_ok-check.ensures
