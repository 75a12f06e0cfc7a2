use Rattle.std.proofs.Common.{refl}
use Rattle.client_streams.specs.Turns.{answered_in}
use Rattle.client_streams.proofs.Places.{put_changed}
use Rattle.client_streams.proofs.connections.Connections.answered.Goals as goal

pub returns : goal.returns
returns c = put_changed answered_in (λ x. refl) c.put.new.self c.take.new.self c.args.self.now
    c.in_ok-connection.connection c.answer.new.self c.args.conn c.in_ok-connection.ensures.taken
    c.answer.ensures c.in_ok-connection.ensures.rest c.in_ok-put.ensures
