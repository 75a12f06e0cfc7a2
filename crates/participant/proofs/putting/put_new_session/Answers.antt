use Rattle.std.proofs.Common.{◌∙◌, ap}
use Rattle.session_table.specs.Sessions.{with_session}
use Rattle.session_table.specs.declared.session.Session.{Session}
use Rattle.participant.specs.Stands.{live_session}
use Rattle.participant.proofs.Laid.{taken_back}
use Rattle.participant.proofs.putting.put_new_session.Goals as goal

pub returns-in-Err-clause-old_sessions : goal.returns-in-Err-clause-old_sessions
returns-in-Err-clause-old_sessions c =
    taken_back c.args.sessions.now c.set.new.self c.take_back.new.self c.args.m.now.lsid
    (live_session c.args.m.now) c.requires.new
    (c.in_ok-set.ensures.ok ∙ ap (λ (s : Session). with_session c.args.sessions.now
    c.args.m.now.lsid s) c.live_session.ensures)
    c.take_back.ensures.limit c.take_back.ensures.entries
