use Rattle.client_cmd.proofs.Sessions.{ended_sessions}
use Rattle.client_cmd.proofs.reading.read_end_of_sessions.Goals as goal

pub sessions_under-requires : goal.sessions_under-requires
sessions_under-requires c =
    ended_sessions c.args.frame.now c.in_ok-check.field-0 c.in_ok-check.ensures
