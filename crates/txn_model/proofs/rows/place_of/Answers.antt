use Rattle.std.proofs.Common.{rules}
use Rattle.std.proofs.lemmas.Fn.{always_returns_same}
use Rattle.txn_types.specs.Order.{id_cmp}
use Rattle.txn_model.proofs.Searched.{found_there, found_between}
use Rattle.txn_model.proofs.rows.place_of.Goals as goal

pub returns-clause-there : goal.returns-clause-there
returns-clause-there c =
    found_there c.args.id.now c.args.rows.now c.binary_search_by.result
    (c.binary_search_by.ensures.position (λ row. id_cmp row.0 c.args.id.now)
    (always_returns_same _ _ _ (λ a r f called. search rules)))

pub returns-clause-between : goal.returns-clause-between
returns-clause-between c =
    found_between c.args.id.now c.args.rows.now c.binary_search_by.result c.requires
    (c.binary_search_by.ensures.position (λ row. id_cmp row.0 c.args.id.now)
    (always_returns_same _ _ _ (λ a r f called. search rules)))
