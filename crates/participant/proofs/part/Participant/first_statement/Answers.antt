use Rattle.std.proofs.Common.{◌∙◌, ap, sym}
use Rattle.participant.specs.declared.said.Said.{Said}
use Rattle.participant.specs.Part.{Part, session}
use Rattle.participant.specs.Statement.{Turn}
use Rattle.participant.proofs.Rules.{first_elsewhere}
use Rattle.participant.proofs.part.Participant.first_statement.Goals as goal

pub returns-clause-said : goal.returns-clause-said
returns-clause-said c =
    first_elsewhere c.args.self.now c.args.last c.args.wall c.args.m.now
    (session c.args.self.now c.args.m.now.lsid) c.self.inside.boot
    (ap (λ (q : Part). q.boot) c.self.view_is) (sym c.is_here.ensures ∙ c.if-is_here.false)
    ∙ ap (λ (said : Said). let t : Turn = (said, c.args.self.now) in t) (sym c.refused.ensures)
