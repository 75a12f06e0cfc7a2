-- What a moment sees of a list of commits, as the server's read concern "snapshot" has it: the
-- writes of all transactions that committed at or below it, in the order of the list, and of no
-- other.
use Rattle.std.specs.Prelude.{ℕ, List, [], ◌∷◌, if◌then◌else◌, nat_le}
use Rattle.txn_semantics.specs.declared.commits.Entry.{Entry}
use Rattle.txn_semantics.specs.Rows.{Row, under}

-- from these rows on
abbrev pub view_from : List Row → List Entry → ℕ → List ℕ → List Row
view_from rows [] at ns = rows
view_from rows (entry ∷ entries) at ns =
    view_from (if nat_le entry.at at then under ns rows entry.writes else rows) entries at ns

-- the rows of a namespace at a moment
abbrev pub view : List Entry → ℕ → List ℕ → List Row
view entries at ns = view_from [] entries at ns
