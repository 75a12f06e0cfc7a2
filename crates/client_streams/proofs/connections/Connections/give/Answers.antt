use Rattle.std.proofs.Common.{refl}
use Rattle.client_streams.specs.Turns.{taken_from}
use Rattle.client_streams.proofs.Places.{put_changed}
use Rattle.client_streams.proofs.connections.Connections.give.Goals as goal

pub returns-clause-rest : goal.returns-clause-rest
returns-clause-rest c = put_changed taken_from (λ x. refl) c.put.new.self c.take.new.self
    c.args.self.now c.in_ok-connection.connection c.give-message.new.self c.args.conn
    c.in_ok-connection.ensures.taken c.give-message.ensures.rest c.in_ok-connection.ensures.rest
    c.in_ok-put.ensures
