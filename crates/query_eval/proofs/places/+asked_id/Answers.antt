use Rattle.std.proofs.Common.{ap, ◌∙◌, rules}
use Rattle.txn_types.specs.declared.filter.Filter.TheVariants as leaves
use Rattle.query_eval.proofs.Asking.{asks_and, asks_test}
use Rattle.query_eval.proofs.places.+asked_id.Goals as goal

pub asked_id-returns-in-And : goal.asked_id-returns-in-And
asked_id-returns-in-And t c = asks_and c.args.filter.now c.in-And.filters c.as_slice.result.now
    c.first_asked.result c.in-And.is c.as_slice.ensures c.first_asked.ensures

pub asked_id-returns-in-Eq : goal.asked_id-returns-in-Eq
asked_id-returns-in-Eq t c = asks_test c.args.filter.now c.in-Test.name c.in-Test.value
    (c.in-Test.is ∙ ap (λ k. leaves.Test c.in-Test.name k c.in-Test.value) c.in-Eq.is)
    (search rules)
