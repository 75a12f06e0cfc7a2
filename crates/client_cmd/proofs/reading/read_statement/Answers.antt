use Rattle.client_cmd.proofs.Sessions.{statement_session}
use Rattle.client_cmd.proofs.reading.read_statement.Goals as goal

pub statement_txn-requires : goal.statement_txn-requires
statement_txn-requires c =
    statement_session c.args.statement c.args.frame.now c.in_ok-op.op c.in_ok-op.ensures
