use Rattle.std.proofs.Common.{rules, ◌≡◌, ap, ◌∙◌}
use Rattle.coordinator.specs.TwoPhase.{Coordinations, with_coordinated, with_asker, undecided}
use Rattle.coordinator.specs.TwoPhase.{started}
use Rattle.shard_core.specs.Coordinating.{plan_of}
use Rattle.shard_core.specs.State.{ShardState, with_coord}
use Rattle.shard_core.proofs.Beginning.{begun_asked}
use Rattle.shard_core.proofs.shard.Shard.begin.Goals as goal

pub returns-in-Ok-clause-ok : goal.returns-in-Ok-clause-ok
returns-in-Ok-clause-ok c =
    let old : ShardState = record {
      wall = c.self.inside.wall;
      clock = record { last = c.self.inside.clock.last; ceiling = c.self.inside.clock.ceiling };
      part = c.self.inside.part;
      coord = c.self.inside.coord;
      stopped = c.self.inside.stopped;
    } in
    let between : c.start.new.self
    ≡ started c.args.m.now.tag (plan_of c.args.m.now) c.self.inside.coord = search rules in
    let coord : c.ask-decision.new.self ≡ with_coordinated c.args.m.now.tag
    (with_asker c.args.router (undecided (plan_of c.args.m.now))) c.self.inside.coord =
    begun_asked c.args.m.now.tag c.args.router (plan_of c.args.m.now) c.self.inside.coord
    c.start.new.self c.ask-decision.new.self between c.ask-decision.ensures.after in
    ap (λ (coords : Coordinations). with_coord old coords) coord
    ∙ ap (λ (s : ShardState). with_coord s (with_coordinated c.args.m.now.tag
    (with_asker c.args.router (undecided (plan_of c.args.m.now))) s.coord)) c.self.view_is
