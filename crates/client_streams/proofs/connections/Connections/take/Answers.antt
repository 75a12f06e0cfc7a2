use Rattle.std.proofs.Common.{List, slice_set, slice_index_or, inr, ◌∙◌, ap, sym, refl}
use Rattle.client_streams.specs.Streams.{Connection, fresh}
use Rattle.client_streams.proofs.Places.{put_some, found_some, found_none}
use Rattle.client_streams.proofs.connections.Connections.take.Goals as goal

pub returns-in-Some-clause-taken : goal.returns-in-Some-clause-taken
returns-in-Some-clause-taken c =
    c.replace.ensures.value
    ∙ c.index_mut.ensures.value
    ∙ ap (λ (cs : List Connection). slice_index_or cs c.in-Some.place c.index_mut.result.now)
    c.self.view_is
    ∙ sym (found_some c.index_mut.result.now c.args.self.now c.args.conn c.in-Some.place
    c.in-Some.ensures)

pub returns-in-Some-clause-rest : goal.returns-in-Some-clause-rest
returns-in-Some-clause-rest c =
    inr (
    ap (λ (cs : List Connection). slice_set cs c.in-Some.place c.replace.new.dest) c.self.view_is
    ∙ put_some (fresh c.args.conn) c.replace.new.dest c.args.self.now c.args.conn c.in-Some.place
    refl (c.replace.ensures.after ∙ c.new-fresh.ensures) c.in-Some.ensures
    )

pub returns-in-None-clause-taken : goal.returns-in-None-clause-taken
returns-in-None-clause-taken c = c.new-fresh.ensures
    ∙ sym (found_none c.args.self.now c.args.conn c.in-None.ensures)
