use Rattle.std.proofs.Common.{rules, not, nat_eq, filter, ◌%◌, ap, ◌∙◌}
use Rattle.std.proofs.lemmas.Fn.{filter_same}
use Rattle.client_streams.specs.Streams.{Connection}
use Rattle.client_streams.proofs.connections.Connections.drop_of.Goals as goal

pub returns : goal.returns
returns c =
    filter_same _ _ _ (λ x b f' k. search rules) _ _ c.retain.ensures.filtered
    ∙ ap (filter (λ (x : Connection). not (nat_eq (x.conn % c.args.routers) c.args.router)))
    c.self.view_is
