-- Views: their rows rise, and an entry above the moment is not in them.
use Rattle.std.proofs.Common.{◌≡◌, ◌<◌, ℕ, Bool, true, false, List, [], ◌∷◌, ◌++◌, cond, ap, nat_le}
use Rattle.std.proofs.lemmas.Bool.{lt-leb}
use Rattle.std.specs.Str.{bytes_eq}
use Rattle.txn_types.specs.Order.{id_cmp}
use Rattle.txn_types.specs.declared.write.Write.{Write}
use Rattle.txn_types.specs.declared.write.Write.TheVariants.{Put, Delete}
use Rattle.txn_types.proofs.Orders.{id_total, id_exact}
use Rattle.txn_semantics.specs.declared.commits.Entry.{Entry}
use Rattle.txn_semantics.specs.Rows.{Row, IsRising, put_row, delete_row, written, under}
use Rattle.txn_semantics.specs.View.{view_from, view}
use Rattle.txn_semantics.proofs.Laying.{rises_put, rises_taken_out}

either_rises : (b : Bool) (xs ys : List Row) → IsRising xs → IsRising ys → IsRising (cond b xs ys)
either_rises true xs ys rx ry = rx
either_rises false xs ys rx ry = ry

pub written_rises : (ns : List ℕ) (rows : List Row) (write : Write) → IsRising rows
    → IsRising (written ns rows write)
written_rises ns rows (Put there id doc) r = either_rises (bytes_eq ns there) (put_row id doc rows)
    rows (rises_put id_cmp id_total id_exact id doc rows r) r
written_rises ns rows (Delete there id) r = either_rises (bytes_eq ns there) (delete_row id rows)
    rows (rises_taken_out id_cmp id_total id_exact id rows r) r

pub under_rises : (ns : List ℕ) (rows : List Row) (writes : List Write) → IsRising rows
    → IsRising (under ns rows writes)
under_rises ns rows [] r = r
under_rises ns rows (write ∷ writes) r =
    under_rises ns (written ns rows write) writes (written_rises ns rows write r)

pub view_from_rises : (rows : List Row) (entries : List Entry) (at : ℕ) (ns : List ℕ)
    → IsRising rows → IsRising (view_from rows entries at ns)
view_from_rises rows [] at ns r = r
view_from_rises rows (entry ∷ entries) at ns r =
    let b = nat_le entry.at at in
    view_from_rises (cond b (under ns rows entry.writes) rows) entries at ns
    (either_rises b (under ns rows entry.writes) rows (under_rises ns rows entry.writes r) r)

pub view_rises : (entries : List Entry) (at : ℕ) (ns : List ℕ) → IsRising (view entries at ns)
view_rises entries at ns = view_from_rises [] entries at ns tt

leaves_from : (rows : List Row) (before behind : List Entry) (entry : Entry) (at : ℕ) (ns : List ℕ)
    → at < entry.at
    → view_from rows (before ++ entry ∷ behind) at ns ≡ view_from rows (before ++ behind) at ns
leaves_from rows [] behind entry at ns above = ap (λ b.
    view_from (cond b (under ns rows entry.writes) rows) behind at ns) (lt-leb entry.at at above)
leaves_from rows (first ∷ before) behind entry at ns above = leaves_from (cond (nat_le first.at at)
    (under ns rows first.writes) rows) before behind entry at ns above

pub entry_above_leaves : (before behind : List Entry) (entry : Entry) (at : ℕ) (ns : List ℕ)
    → at < entry.at → view (before ++ entry ∷ behind) at ns ≡ view (before ++ behind) at ns
entry_above_leaves before behind entry at ns above = leaves_from [] before behind entry at ns above
