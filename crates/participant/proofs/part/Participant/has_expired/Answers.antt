use Rattle.std.proofs.Common.{◌∙◌, ap, sym, is_some}
use Rattle.std.specs.List.{list_any}
use Rattle.participant.specs.Expiry.{expire}
use Rattle.participant.specs.Part.{Part}
use Rattle.participant.specs.Stands.{is_older}
use Rattle.participant.proofs.Expiries.{any_older, no_first, settled}
use Rattle.participant.proofs.part.Participant.has_expired.Goals as goal

pub returns-clause-older : goal.returns-clause-older
returns-clause-older c = c.is_some.ensures ∙ ap is_some c.first_older.ensures.first
    ∙ any_older c.args.wall c.self.inside.live
    ∙ ap (λ (q : Part). list_any (is_older c.args.wall) q.live) c.self.view_is

pub returns-clause-stays : goal.returns-clause-stays
unfolding expire
returns-clause-stays c = λ none.
    let p : Part = record {
      shard = c.self.inside.shard;
      boot = c.self.inside.boot;
      sessions = c.self.inside.sessions;
      live = c.self.inside.live;
      pending = c.self.inside.pending;
      store = c.self.inside.store;
    } in
    settled p c.args.self.now c.args.wall (sym c.first_older.ensures.first
    ∙ no_first c.first_older.result (sym c.is_some.ensures ∙ none)) c.self.view_is
