use Rattle.client_cmd.proofs.Sessions.{commit_session}
use Rattle.client_cmd.proofs.reading.read_commit.Goals as goal

pub txn_in-requires : goal.txn_in-requires
txn_in-requires c = commit_session c.args.frame.now c.in_ok-check.field-0 c.in_ok-check.ensures
