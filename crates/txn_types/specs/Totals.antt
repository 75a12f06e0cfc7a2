-- Ids stand in a total order, so that ordered maps may have them as keys.
use Rattle.std.specs.Cmp.{IsTotalOrder}
use Rattle.std.proofs.lemmas.Cmp.{on_total, then_total, nat_cmp_total, int_cmp_total}
use Rattle.std.proofs.lemmas.Cmp.{nat_list_cmp_total}
use Rattle.txn_types.specs.Order.{kind_of, number_of, bytes_of, id_cmp}

pub id_is_total : IsTotalOrder id_cmp
id_is_total = then_total (on_total kind_of nat_cmp_total)
    (then_total (on_total number_of int_cmp_total) (on_total bytes_of nat_list_cmp_total))
