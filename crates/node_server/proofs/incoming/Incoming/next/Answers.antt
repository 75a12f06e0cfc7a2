use Rattle.std.proofs.Common.{◌≡◌, List, ℕ, Ok, Some, ◌∙◌}
use Rattle.op_msg.specs.Stream.{next_of}
use Rattle.node_server.proofs.Fetching.{fetched_stop, taken_none}
use Rattle.node_server.proofs.incoming.Incoming.next.Goals as goal

pub returns-in-Err-clause-fetches : goal.returns-in-Err-clause-fetches
returns-in-Err-clause-fetches g c =
    let i = c.loop.invariant in
    fetched_stop c.args.self.now.feeder.limit c.args.self.now.feeder.held c.loop.self.feeder.held
    (g.L.Link.left c.args.link.now) (g.L.Link.left c.loop.link) i.came {X = Unit {0}}
    {Y = List ℕ} (λ _ rest. rest ≡ c.read_more.new.self.feeder.held)
    (λ frame rest. next_of c.args.self.now.feeder.limit rest
    ≡ Ok (Some (frame, c.read_more.new.self.feeder.held))) c.take.new.self.feeder.limit
    c.take.new.self.feeder.held c.read_more.result (g.L.Link.left c.read_more.new.link)
    (g.L.Link.fault_count c.args.link.now) (g.L.Link.fault_count c.loop.link)
    (g.L.Link.fault_count c.read_more.new.link) (g.L.Link.end_count c.args.link.now)
    (g.L.Link.end_count c.loop.link) (g.L.Link.end_count c.read_more.new.link) c.in-Err.ended
    (c.take.ensures.limit ∙ i.limit)
    (taken_none c.loop.self.feeder.limit c.loop.self.feeder.held c.take.new.self.feeder.held
    c.take.result c.in_ok-frame.field-0 c.in_ok-frame.was c.in_default.not-Some
    c.take.ensures.takes)
    c.in-Err.is i.faults i.ends c.read_more.ensures.fetches
