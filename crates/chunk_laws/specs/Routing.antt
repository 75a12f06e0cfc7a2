-- What is asked of an operation beside what a map says of it.
use Rattle.std.specs.Prelude.{List}
use Rattle.txn_types.specs.declared.operation.Op.{Op}
use Rattle.txn_types.specs.declared.operation.Op.TheVariants.{Insert, Find, Update, Delete}
use Rattle.txn_semantics.specs.Splits.{IndicesRise}

-- the items' places in their command rise
abbrev pub IndicesOfItemsRise : Op → Type 0
IndicesOfItemsRise (Insert ns docs) = IndicesRise (λ item. item.index) docs
IndicesOfItemsRise (Find ns wanted down limit) = Unit {0}
IndicesOfItemsRise (Update ns items) = IndicesRise (λ item. item.index) items
IndicesOfItemsRise (Delete ns items) = IndicesRise (λ item. item.index) items
