use Rattle.std.proofs.Common.{◌≡◌, drop}
use Rattle.std.specs.List.{filter_map}
use Rattle.txn_types.specs.declared.node.Lsid.{Lsid}
use Rattle.session_table.specs.Sessions.{prepared_at}
use Rattle.session_table.specs.declared.session.Session.{Session}
use Rattle.participant.specs.Part.{least_prepared}
use Rattle.participant.proofs.Places.{least_from}
use Rattle.participant.proofs.part.Participant.least_prepared.Given as goal

abbrev pub invariant-loop-place : goal.invariant-loop-place
invariant-loop-place l = least_from l.least (filter_map (λ (entry : Lsid × Session).
    prepared_at entry.1.state) (drop l.place l.self.sessions.entries)) ≡ least_prepared l.self
