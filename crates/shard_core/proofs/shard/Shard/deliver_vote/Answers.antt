use Rattle.std.proofs.Common.{sym, ◌∙◌}
use Rattle.shard_core.proofs.Coming.{vote_unknown}
use Rattle.shard_core.proofs.shard.Shard.deliver_vote.Goals as goal

pub returns-in-Ok-None-clause-ok : goal.returns-in-Ok-None-clause-ok
returns-in-Ok-None-clause-ok c =
    vote_unknown c.args.self.now c.args.wall c.args.envelope.now c.arrive.new.self
    c.args.m.now c.quiet.result c.arrive.ensures.arrived c.requires
    (sym c.in-Ok-None.ensures ∙ c.in-Ok-None.field-0-is) c.quiet.ensures
