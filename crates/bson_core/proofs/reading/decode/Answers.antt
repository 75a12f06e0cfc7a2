use Rattle.std.proofs.Common.{subst, arith}
use Rattle.bson_core.specs.Reading.{Gives}
use Rattle.bson_core.proofs.Whole.{is_found, whole_again}
use Rattle.bson_core.proofs.reading.decode.Goals as goal

pub returns-clause-found : goal.returns-clause-found
returns-clause-found c = is_found c.args.limit c.args.bytes.now c.read_whole.result (λ i.
    omega (arith, c.type_inv.bytes i)) c.read_whole.ensures

pub returns-clause-only : goal.returns-clause-only
returns-clause-only c = λ d reads short. subst (λ r. Gives (λ d. d) c.read_whole.result r)
    (whole_again c.args.limit c.args.bytes.now d reads short) c.read_whole.ensures
