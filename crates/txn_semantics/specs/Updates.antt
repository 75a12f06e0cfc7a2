-- What an update makes of a document. After the MongoDB manual's $set, $unset and $inc and its
-- replacement documents, which are done in the order written.
use Rattle.std.specs.Prelude.{ℕ, ℤ, pos, negsuc, ◌+ℤ◌, ◌&&◌, Bool, true, false, not, List, [], ◌∷◌}
use Rattle.std.specs.Prelude.{◌++◌, length, filter, Option, Some, None, Result, Ok, Err}
use Rattle.std.specs.Prelude.{if◌then◌else◌, int_le, nat_le}
use Rattle.std.specs.Str.{bytes_eq}
use Rattle.std.specs.Ordering.{is_eq}
use Rattle.txn_types.specs.Limits.{most_stored}
use Rattle.outcomes.specs.Bind.{◌>>=◌}
use Rattle.bson_core.specs.declared.value.Value.{Value}
use Rattle.bson_core.specs.declared.value.Value.TheVariants.{Int, Long}
use Rattle.bson_core.specs.declared.value.Value.TheOpen as of
use Rattle.bson_core.specs.declared.value.Value.TheOpen.{Value-F}
use Rattle.bson_core.specs.declared.value.Value.TheViews.{out-Value}
use Rattle.bson_core.specs.Fields.{Document, value_of, with_value}
use Rattle.bson_core.specs.Order.{value_cmp}
use Rattle.bson_core.specs.Spelling.{spelling}
use Rattle.txn_types.specs.Ids.{id_name}
use Rattle.txn_types.specs.declared.operation.What.{What}
use Rattle.txn_types.specs.declared.operation.What.TheVariants.{NotNumber, Overflow, Immutable}
use Rattle.txn_types.specs.declared.operation.What.TheVariants.{TooLarge}
use Rattle.txn_types.specs.declared.update.Update.{Update}
use Rattle.txn_types.specs.declared.update.Update.TheVariants.{Replace, Ops}
use Rattle.txn_types.specs.declared.update.UpdateKind.{UpdateKind}
use Rattle.txn_types.specs.declared.update.UpdateKind.TheVariants.{Set, Unset, Inc}
use Rattle.txn_types.specs.declared.update.UpdateOp.{UpdateOp}

-- an int64 of that value, which has to fit
abbrev pub long_of : ℤ → Result Value What
long_of z = if int_le (negsuc 9223372036854775807) z && int_le z (pos 9223372036854775807)
    then Ok (Long z) else Err Overflow

-- an int32 of that value where it fits, else an int64
abbrev pub int_of : ℤ → Result Value What
int_of z = if int_le (negsuc 2147483647) z && int_le z (pos 2147483647) then Ok (Int z)
    else long_of z

-- two int32 give an int32 where it fits; with an int64 the sum is one
abbrev pub sum_of : Value-F Value → Value-F Value → Result Value What
sum_of (of.Int m) (of.Int n) = int_of (m +ℤ n)
sum_of (of.Int m) (of.Long n) = long_of (m +ℤ n)
sum_of (of.Long m) (of.Int n) = long_of (m +ℤ n)
sum_of (of.Long m) (of.Long n) = long_of (m +ℤ n)
sum_of x y = Err NotNumber

-- a field that isn't there is set to the amount
abbrev pub amount_of : Value-F Value → Result Value What
amount_of (of.Int n) = Ok (Int n)
amount_of (of.Long n) = Ok (Long n)
amount_of other = Err NotNumber

abbrev pub increased : Option Value → Value → Result Value What
increased None amount = amount_of (out-Value amount)
increased (Some value) amount = sum_of (out-Value value) (out-Value amount)

-- the document without any field of that name
abbrev pub without_name : List ℕ → Document → Document
without_name name doc = filter (λ field. not (bytes_eq field.0 name)) doc

-- what an operator of this kind makes of the document
abbrev pub applied : UpdateKind → List ℕ → Value → Document → Result Document What
applied Set name value doc = Ok (with_value name value doc)
applied Unset name value doc = Ok (without_name name doc)
applied Inc name value doc =
    increased (value_of name doc) value >>= λ sum. Ok (with_value name sum doc)

-- one operator after the other
abbrev pub all_applied : List UpdateOp → Document → Result Document What
all_applied [] doc = Ok doc
all_applied (op ∷ ops) doc = applied op.kind op.name op.value doc >>= λ next. all_applied ops next

-- two values that may be there are one, by the order of values
abbrev pub is_same_value : Option Value → Option Value → Bool
is_same_value None None = true
is_same_value None (Some b) = false
is_same_value (Some a) None = false
is_same_value (Some a) (Some b) = is_eq (value_cmp a b)

-- the `_id` of a result has to be the old one
abbrev pub with_old_id : Document → Document → Result Document What
with_old_id doc new = if is_same_value (value_of id_name new) (value_of id_name doc) then Ok new
    else Err Immutable

-- the field `_id` of a document
abbrev pub id_fields : Option Value → Document
id_fields None = []
id_fields (Some value) = (id_name, value) ∷ []

-- an `_id` of the new document's own has to be the old one
abbrev pub may_replace : Option Value → Option Value → Bool
may_replace None old = true
may_replace (Some own) old = is_same_value (Some own) old

-- the old `_id`, and after it the new document's other fields in their order
abbrev pub replaced : Document → Document → Result Document What
replaced new doc =
    if may_replace (value_of id_name new) (value_of id_name doc)
    then Ok (id_fields (value_of id_name doc) ++ without_name id_name new)
    else Err Immutable

-- a document that can be stored
abbrev pub within_limit : Document → Result Document What
within_limit doc = if nat_le (length (spelling doc)) most_stored then Ok doc else Err TooLarge

abbrev pub updated_by : Update → Document → Result Document What
updated_by (Replace new) doc = replaced new doc
updated_by (Ops ops) doc = all_applied ops doc >>= with_old_id doc

-- the document that an update makes of this one
unfoldable pub apply : Update → Document → Result Document What
apply update doc = updated_by update doc >>= within_limit
