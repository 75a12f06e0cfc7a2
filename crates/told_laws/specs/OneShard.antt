-- What is asked of an operation beside what a map of one shard says of it.
use Rattle.std.specs.Prelude.{◌≡◌, All, is_some, true}
use Rattle.txn_types.specs.Ids.{id_in}
use Rattle.txn_types.specs.declared.operation.Op.{Op}
use Rattle.txn_types.specs.declared.operation.Op.TheVariants.{Insert, Find, Update, Delete}

-- each document of an insert has an id
abbrev pub HaveIds : Op → Type 0
HaveIds (Insert ns docs) = All (λ item. is_some (id_in item.doc) ≡ true) docs
HaveIds (Find ns wanted down limit) = Unit {0}
HaveIds (Update ns items) = Unit {0}
HaveIds (Delete ns items) = Unit {0}
