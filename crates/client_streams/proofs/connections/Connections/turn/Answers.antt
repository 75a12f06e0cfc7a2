use Rattle.std.proofs.Common.{List, slice_index_or, ◌∙◌, ap, sym}
use Rattle.client_streams.specs.Streams.{Connection}
use Rattle.client_streams.specs.Turns.{turn_of}
use Rattle.client_streams.proofs.Places.{found_some, found_none}
use Rattle.client_streams.proofs.connections.Connections.turn.Goals as goal

pub returns-in-Some : goal.returns-in-Some
returns-in-Some c =
    c.turn.ensures
    ∙ ap turn_of (
    c.index.ensures
    ∙ ap (λ (cs : List Connection). slice_index_or cs c.in-Some.place c.index.result.now)
    c.self.view_is
    ∙ sym (found_some c.index.result.now c.args.self.now c.args.conn c.in-Some.place
    c.in-Some.ensures)
    )

pub returns-in-None : goal.returns-in-None
returns-in-None c = sym (ap turn_of (found_none c.args.self.now c.args.conn c.in-None.ensures))
