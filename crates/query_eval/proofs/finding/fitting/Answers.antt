use Rattle.std.proofs.Common.{◌≤◌, ◌<◌, length, sym, arith}
use Rattle.bson_core.specs.Spelling.{spelling}
use Rattle.query_eval.proofs.Telling.{fitting_is, fitting_not}
use Rattle.query_eval.proofs.finding.fitting.Goals as goal

pub returns-then-size-room-clause-doc : goal.returns-then-size-room-clause-doc
returns-then-size-room-clause-doc c =
    let fits : length (spelling c.in_ok-doc.doc.now) ≤ c.args.room = omega arith in
    sym (fitting_is c.args.room c.args.held.now c.in_ok-doc.doc.now (sym c.in_ok-doc.ensures) fits)

pub returns-else-size-room-clause-doc : goal.returns-else-size-room-clause-doc
returns-else-size-room-clause-doc c =
    let out : c.args.room < length (spelling c.in_ok-doc.doc.now) = omega arith in
    sym (fitting_not c.args.room c.args.held.now c.in_ok-doc.doc.now (sym c.in_ok-doc.ensures) out)
