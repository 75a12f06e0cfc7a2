-- Under a transaction's own writes each document still has its row's id.
use Rattle.std.proofs.Common.{ℕ, Bool, true, false, List, [], ◌∷◌, if◌then◌else◌}
use Rattle.std.specs.Str.{bytes_eq}
use Rattle.std.specs.declared.cmp.Ordering.{Ordering}
use Rattle.std.specs.declared.cmp.Ordering.TheVariants.{Less, Equal, Greater}
use Rattle.txn_types.specs.Order.{id_cmp}
use Rattle.txn_types.specs.Writes.{AllHaveOwnIds, HasOwnId}
use Rattle.txn_types.specs.declared.id.Id.{Id}
use Rattle.txn_types.specs.declared.write.Write.{Write}
use Rattle.txn_types.specs.declared.write.Write.TheVariants.{Put, Delete}
use Rattle.txn_semantics.specs.Effect.{AreKnown}
use Rattle.txn_semantics.specs.Meaning.{document_rules}
use Rattle.txn_semantics.specs.Rows.{Row, put_row, delete_row, written, under}
use Rattle.txn_semantics.proofs.Routing.{known_put}

deleted_case : (id : Id) (row : Row) (rows : List Row) (o : Ordering)
    → AreKnown document_rules (row ∷ rows)
    → AreKnown document_rules (delete_row id rows) → AreKnown document_rules (elim o
    [ Less ↦ row ∷ rows | Equal ↦ rows | Greater ↦ row ∷ delete_row id rows ])
deleted_case id row rows Less all more = all
deleted_case id row rows Equal all more = all.1
deleted_case id row rows Greater all more = (all.0, more)

known_deleted : (id : Id) (rows : List Row) → AreKnown document_rules rows
    → AreKnown document_rules (delete_row id rows)
known_deleted id [] all = tt
known_deleted id (row ∷ rows) all =
    deleted_case id row rows (id_cmp id row.0) all (known_deleted id rows all.1)

known_if : (b : Bool) (new rows : List Row) → AreKnown document_rules new
    → AreKnown document_rules rows → AreKnown document_rules (if b then new else rows)
known_if true new rows h g = h
known_if false new rows h g = g

known_written : (ns : List ℕ) (rows : List Row) (write : Write) → HasOwnId write
    → AreKnown document_rules rows → AreKnown document_rules (written ns rows write)
known_written ns rows (Put there id doc) kept all = known_if (bytes_eq ns there) (put_row id doc
    rows) rows (known_put document_rules id doc rows kept all) all
known_written ns rows (Delete there id) kept all =
    known_if (bytes_eq ns there) (delete_row id rows) rows (known_deleted id rows all) all

pub known_under : (ns : List ℕ) (rows : List Row) (writes : List Write) → AllHaveOwnIds writes
    → AreKnown document_rules rows → AreKnown document_rules (under ns rows writes)
known_under ns rows [] kept all = all
known_under ns rows (write ∷ writes) kept all =
    known_under ns (written ns rows write) writes kept.1 (known_written ns rows write kept.0 all)
