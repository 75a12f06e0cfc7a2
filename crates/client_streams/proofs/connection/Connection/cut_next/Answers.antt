use Rattle.std.proofs.Common.{rules}
use Rattle.client_streams.proofs.connection.Connection.cut_next.Goals as goal

pub returns-in_ok-push_back-in-Ok-Some-clause-cut :
    goal.returns-in_ok-push_back-in-Ok-Some-clause-cut
returns-in_ok-push_back-in-Ok-Some-clause-cut c =
    λ _. ((c.in-Ok-Some.message, c.next.new.self.held), search rules, search rules)
