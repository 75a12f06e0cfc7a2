use Rattle.std.proofs.Common.{[], List, ℕ, subst}
use Rattle.op_msg.specs.Stream.{fed, run}
use Rattle.op_msg.proofs.Cuts.{Cuts, next-append, one_way, refused-append, run_cuts}
use Rattle.op_msg.proofs.feeder.cuts_dont_matter.Goals as goal

pub returns-clause-same : goal.returns-clause-same
returns-clause-same c = λ limit first second same last also_last.
    one_way limit (fed second) (run limit [] first).0 (run limit [] first).1 (run limit [] second).0
    (run limit [] second).1
    (subst (λ (stream : List ℕ). Cuts limit stream (run limit [] first).0 (run limit [] first).1)
    same (run_cuts limit [] first)) (run_cuts limit [] second) last also_last

pub returns-clause-message : goal.returns-clause-message
returns-clause-message c = next-append

pub returns-clause-refused : goal.returns-clause-refused
returns-clause-refused c = refused-append
