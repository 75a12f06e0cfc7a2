use Rattle.std.proofs.Common.{arith}
use Rattle.bson_core.proofs.Whole.{whole_again, whole_found}
use Rattle.bson_core.proofs.laws.grammar_has_no_fault.Goals as goal

pub returns-clause-read : goal.returns-clause-read
returns-clause-read c = whole_again c.args.limit c.args.bytes.now

pub returns-clause-found : goal.returns-clause-found
returns-clause-found c = λ d read. (whole_found c.args.limit c.args.bytes.now d
    (λ i. omega (arith, c.type_inv.bytes i)) read).0

pub returns-clause-within : goal.returns-clause-within
returns-clause-within c = λ d read. (whole_found c.args.limit c.args.bytes.now d
    (λ i. omega (arith, c.type_inv.bytes i)) read).1
