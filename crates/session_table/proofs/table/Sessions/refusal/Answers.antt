use Rattle.std.proofs.Common.{Option, Some, ℤ, ap, ◌∙◌}
use Rattle.std.proofs.Math.Facts.{to_z-of_z}
use Rattle.session_table.specs.Sessions.{refusal_of}
use Rattle.session_table.specs.declared.session.Session.{Session}
use Rattle.session_table.proofs.table.Sessions.refusal.Goals as goal

pub returns-in-Some : goal.returns-in-Some
returns-in-Some c =
    c.refusal_of.ensures c.args.self.now
    ∙ ap (λ (number : ℤ). refusal_of c.args.self.now number (Some c.in-Some.session.now))
    (to_z-of_z c.ranges.number)
    ∙ ap (λ (s : Option Session). refusal_of c.args.self.now c.args.number s) c.in-Some.ensures
