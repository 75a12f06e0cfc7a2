-- What is told of the replies of several shards to one statement.
use Rattle.std.specs.Prelude.{ℕ, ◌+◌, List, [], ◌∷◌, map, None}
use Rattle.txn_types.specs.Limits.{most_found}
use Rattle.txn_types.specs.declared.operation.Op.{Op}
use Rattle.txn_types.specs.declared.operation.Op.TheVariants.{Insert, Find, Update, Delete}
use Rattle.txn_types.specs.declared.operation.OpReply.{OpReply}
use Rattle.txn_types.specs.declared.operation.OpReply.TheVariants.{Count, Rows}
use Rattle.txn_semantics.specs.Effect.{DocumentRules}
use Rattle.txn_semantics.specs.Found.{Found, merged}
use Rattle.txn_semantics.specs.Meaning.{capped, rows_of, document_rules}

-- a sum that stands still at 2^63 - 1
abbrev pub capped_sum : List ℕ → ℕ
capped_sum [] = 0
capped_sum (n ∷ counts) = capped (n + capped_sum counts)

abbrev pub n_of : OpReply → ℕ
n_of (Count n modified) = n
n_of (Rows docs cut) = 0

abbrev pub modified_of : OpReply → ℕ
modified_of (Count n modified) = modified
modified_of (Rows docs cut) = 0

abbrev pub found_of : OpReply → Found
found_of (Count n modified) = ([], None)
found_of (Rows docs cut) = (docs, cut)

abbrev pub merge_counts : List OpReply → OpReply
merge_counts parts = Count (capped_sum (map n_of parts)) (capped_sum (map modified_of parts))

abbrev pub merge_by : DocumentRules → Op → List OpReply → OpReply
merge_by w (Insert ns items) parts = merge_counts parts
merge_by w (Find ns wanted down limit) parts =
    rows_of (merged w most_found down limit (map found_of parts))
merge_by w (Update ns items) parts = merge_counts parts
merge_by w (Delete ns items) parts = merge_counts parts

-- the reply over the joined rows
abbrev pub merge : Op → List OpReply → OpReply
merge op parts = merge_by document_rules op parts
