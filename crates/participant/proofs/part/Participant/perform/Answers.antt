use Rattle.std.proofs.Common.{◌≡◌, ◌∙◌, IfOk, sym, subst, ap}
use Rattle.participant.specs.Statement.{Turn}
use Rattle.participant.specs.Stands.{mine}
use Rattle.participant.proofs.Rules.{acting, performed_is}
use Rattle.participant.proofs.part.Participant.perform.Goals as goal

pub returns-in-HeldBy-clause-said : goal.returns-in-HeldBy-clause-said
returns-in-HeldBy-clause-said c =
    performed_is c.args.self.now c.args.wall c.args.m.now c.args.read_at
    (mine c.args.self.now c.args.m.now)
    ∙ ap (acting c.args.self.now c.args.wall c.args.m.now c.args.read_at
    (mine c.args.self.now c.args.m.now)) (sym c.in_ok-meant.ensures ∙ c.in-HeldBy.is)

pub returns-in-Refused-clause-said : goal.returns-in-Refused-clause-said
returns-in-Refused-clause-said c =
    subst (λ (t : Turn). IfOk c.refuse.result
    (λ said. t ≡ (let u : Turn = (said, c.refuse.new.self) in u)))
    (sym
    (performed_is c.args.self.now c.args.wall c.args.m.now c.args.read_at
    (mine c.args.self.now c.args.m.now)
    ∙ ap (acting c.args.self.now c.args.wall c.args.m.now c.args.read_at
    (mine c.args.self.now c.args.m.now)) (sym c.in_ok-meant.ensures ∙ c.in-Refused.is)))
    c.refuse.ensures.said

pub returns-in-Does-clause-said : goal.returns-in-Does-clause-said
returns-in-Does-clause-said c =
    subst (λ (t : Turn). IfOk c.write.result
    (λ said. t ≡ (let u : Turn = (said, c.write.new.self) in u)))
    (sym
    (performed_is c.args.self.now c.args.wall c.args.m.now c.args.read_at
    (mine c.args.self.now c.args.m.now)
    ∙ ap (acting c.args.self.now c.args.wall c.args.m.now c.args.read_at
    (mine c.args.self.now c.args.m.now)) (sym c.in_ok-meant.ensures ∙ c.in-Does.is)))
    c.write.ensures.said
