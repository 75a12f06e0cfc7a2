use Rattle.client_streams.specs.Streams.{Connection, fed}
use Rattle.client_streams.proofs.Places.{put_changed, fed_conn}
use Rattle.client_streams.proofs.connections.Connections.feed.Goals as goal

pub returns : goal.returns
returns c = put_changed (λ (x : Connection). fed x c.args.bytes.now) (λ x.
    fed_conn x c.args.bytes.now) c.put.new.self c.take.new.self c.args.self.now
    c.in_ok-connection.connection c.feed.new.self c.args.conn c.in_ok-connection.ensures.taken
    c.in_ok-feed.ensures c.in_ok-connection.ensures.rest c.in_ok-put.ensures
