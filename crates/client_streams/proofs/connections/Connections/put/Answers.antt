use Rattle.std.proofs.Common.{List, [], ◌∷◌, ◌++◌, slice_set, ◌∙◌, ap, refl}
use Rattle.client_streams.specs.Streams.{Connection}
use Rattle.client_streams.proofs.Places.{put_some, put_none}
use Rattle.client_streams.proofs.connections.Connections.put.Goals as goal

pub returns-in-Some : goal.returns-in-Some
returns-in-Some c =
    ap (λ (cs : List Connection). slice_set cs c.in-Some.place c.args.connection) c.self.view_is
    ∙ put_some c.args.connection c.args.connection c.args.self.now c.number.result c.in-Some.place
    c.number.ensures refl c.in-Some.ensures

pub returns-in_ok-push-in-None : goal.returns-in_ok-push-in-None
returns-in_ok-push-in-None c =
    c.in_ok-push-in-None.ensures.items
    ∙ ap (λ (cs : List Connection). cs ++ c.args.connection ∷ []) c.self.view_is
    ∙ put_none c.args.connection c.args.self.now c.number.result c.number.ensures c.in-None.ensures
