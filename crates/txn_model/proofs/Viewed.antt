-- What the code's steps leave of a view that is still to be made.
use Rattle.std.proofs.Common.{◌≡◌, ℕ, true, List, if◌then◌else◌, ap, ◌∙◌}
use Rattle.std.specs.Str.{bytes_eq}
use Rattle.txn_types.specs.declared.id.Id.{Id}
use Rattle.txn_types.specs.declared.write.Write.{Write}
use Rattle.txn_types.specs.declared.write.Write.TheVariants.{Delete}
use Rattle.txn_semantics.specs.Rows.{Row, delete_row, written}

pub written_delete : (ns there : List ℕ) (id : Id) (rows : List Row) (write : Write)
    → write ≡ Delete there id → bytes_eq ns there ≡ true
    → written ns rows write ≡ delete_row id rows
written_delete ns there id rows write is same = ap (written ns rows) is
    ∙ ap (λ b. if b then delete_row id rows else rows) same
