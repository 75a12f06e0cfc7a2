use Rattle.journal_core.proofs.Gathering.{Gathering}
use Rattle.journal_core.proofs.journal.Journal.payloads.Given as goal

abbrev pub invariant-loop-i : goal.invariant-loop-i
invariant-loop-i g l = Gathering g.D.Disk l.initial.self l.self l.all.items l.place l._i
