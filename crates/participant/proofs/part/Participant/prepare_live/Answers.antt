use Rattle.std.proofs.Common.{◌∙◌, ap}
use Rattle.participant.specs.Part.{Part}
use Rattle.participant.proofs.Votes.{other_boot}
use Rattle.participant.proofs.part.Participant.prepare_live.Goals as goal

pub returns-then-m-self-clause-voted : goal.returns-then-m-self-clause-voted
returns-then-m-self-clause-voted c = λ s is.
    other_boot c.args.self.now c.args.clock.now.last c.args.wall c.args.m.now s c.self.inside.boot
    (ap (λ (q : Part). q.boot) c.self.view_is) c.if-m-self.true
    ∙ c.veto.ensures c.args.clock.now.last s is
