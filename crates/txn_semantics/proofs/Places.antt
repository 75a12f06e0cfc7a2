-- The order of places, by the orders of bytes and of ids.
use Rattle.std.specs.Ordering.{nat_cmp}
use Rattle.std.specs.Cmp.{IsTotalOrder}
use Rattle.std.specs.Cmp.Lexicographic.{slice_cmp}
use Rattle.std.proofs.lemmas.Cmp.{on_total, then_total, nat_list_cmp_total}
use Rattle.std.proofs.lemmas.Map.Lookups.{CmpEqualImpliesEq, exact_bytes, exact_pairs}
use Rattle.txn_types.specs.Order.{id_cmp}
use Rattle.txn_types.proofs.Orders.{id_total, id_exact}
use Rattle.txn_semantics.specs.Writes.{Place, place_cmp}

pub place_total : IsTotalOrder place_cmp
place_total = then_total (on_total (λ (p : Place). p.0) nat_list_cmp_total)
    (on_total (λ (p : Place). p.1) id_total)

pub place_exact : CmpEqualImpliesEq place_cmp
place_exact = exact_pairs (slice_cmp nat_cmp) id_cmp exact_bytes id_exact
