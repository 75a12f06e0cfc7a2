-- Which places beside the operand a comparison wants. Inequality asks for equality, and is turned
-- round.
use Rattle.std.specs.Prelude.{Bool}
use Rattle.std.specs.declared.cmp.Ordering.{Ordering}
use Rattle.std.specs.Ordering.{is_eq, is_lt, is_le, is_gt, is_ge}
use Rattle.txn_types.specs.declared.filter.Cmp.{Cmp}
use Rattle.txn_types.specs.declared.filter.Cmp.TheVariants.{Eq, Ne, Gt, Gte, Lt, Lte}

abbrev pub wanted : Cmp → Ordering → Bool
wanted Eq = is_eq
wanted Ne = is_eq
wanted Gt = is_gt
wanted Gte = is_ge
wanted Lt = is_lt
wanted Lte = is_le
