use Rattle.query_eval.proofs.Passing.{alone_there}
use Rattle.query_eval.proofs.places.place_alone.Goals as goal

pub returns-in-Ok : goal.returns-in-Ok
returns-in-Ok c = alone_there c.args.id.now c.args.rows.now c.in-Ok.at c.requires
    c.in-Ok.ensures.within c.in-Ok.ensures.there
