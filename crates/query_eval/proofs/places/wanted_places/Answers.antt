use Rattle.std.proofs.Common.{rules}
use Rattle.query_eval.proofs.Passing.{asked_there, asked_nowhere}
use Rattle.query_eval.proofs.places.wanted_places.Goals as goal

pub returns-in-Ok : goal.returns-in-Ok
returns-in-Ok c = asked_there c.args.filter.now c.in-Some.value.now c.in-Ok.id c.args.rows.now
    c.place_alone.result c.in-Some.ensures c.requires.known c.in-Ok.ensures.ok c.place_alone.ensures

pub returns-in-Err-BadId : goal.returns-in-Err-BadId
returns-in-Err-BadId c = asked_nowhere c.args.filter.now c.in-Some.value.now c.args.rows.now
    c.in-Some.ensures c.requires.known (search rules)
