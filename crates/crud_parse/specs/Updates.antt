-- The update that a value is, after the update documents of the MongoDB manual.
use Rattle.std.specs.Prelude.{ℕ, Bool, true, false, List, [], ◌∷◌, Option, Some, None, Result, Ok}
use Rattle.std.specs.Prelude.{Err, if◌then◌else◌, codes}
use Rattle.outcomes.specs.Bind.{◌>>=◌}
use Rattle.bson_core.specs.declared.value.Value.{Value}
use Rattle.bson_core.specs.declared.value.Value.TheVariants.{Null}
use Rattle.bson_core.specs.declared.value.Value.TheOpen as of
use Rattle.bson_core.specs.declared.value.Value.TheOpen.{Value-F}
use Rattle.bson_core.specs.declared.value.Value.TheViews.{out-Value}
use Rattle.txn_types.specs.declared.update.Update.{Update}
use Rattle.txn_types.specs.declared.update.Update.TheVariants.{Replace, Ops}
use Rattle.txn_types.specs.declared.update.UpdateKind.{UpdateKind}
use Rattle.txn_types.specs.declared.update.UpdateKind.TheVariants.{Set, Unset, Inc}
use Rattle.txn_types.specs.declared.update.UpdateOp.{UpdateOp}
use Rattle.crud_parse.specs.declared.error.CrudErr.{CrudErr}
use Rattle.crud_parse.specs.declared.error.CrudErr.TheVariants.{UnknownOperator, DottedName}
use Rattle.crud_parse.specs.declared.error.CrudErr.TheVariants.{WrongKind}
use Rattle.crud_parse.specs.Results.{each, each_of}
use Rattle.crud_parse.specs.Names.{has_full_stop, begins_with_operator}
use Rattle.crud_parse.specs.Operators.{kind_of}

abbrev pub is_number : Value-F Value → Bool
is_number (of.Int n) = true
is_number (of.Long n) = true
is_number other = false

-- the value that an operation on the field of that name has
abbrev pub value_for : UpdateKind → List ℕ → Value → Result Value CrudErr
value_for Set name value = Ok value
value_for Unset name value = Ok Null
value_for Inc name value = if is_number (out-Value value) then Ok value else Err (WrongKind name)

-- the operation on a field
abbrev pub field_op : UpdateKind → List ℕ × Value → Result UpdateOp CrudErr
field_op kind field =
    if has_full_stop field.0 then Err (DottedName field.0) else (value_for kind field.0 field.1
    >>= λ value. Ok (record { kind = kind; name = field.0; value = value }))

-- the operations on the fields of an operator's value
abbrev pub ops_in : List ℕ → Option UpdateKind → Value-F Value → Result (List UpdateOp) CrudErr
ops_in operator None value = Err (UnknownOperator operator)
ops_in operator (Some kind) (of.Doc fields) = each (field_op kind) fields
ops_in operator (Some kind) other = Err (WrongKind operator)

abbrev pub ops_of : List ℕ × Value → Result (List UpdateOp) CrudErr
ops_of operator = ops_in operator.0 (kind_of operator.0) (out-Value operator.1)

-- the name `u`, under which a statement has an update
abbrev pub update_name : List ℕ
update_name = codes "u"

-- operators, where the first name begins with `$`, else a replacement with its names as they come
abbrev pub update_in : Value-F Value → Result Update CrudErr
update_in (of.Doc fields) = if begins_with_operator fields
    then (each_of ops_of fields >>= λ ops. Ok (Ops ops)) else Ok (Replace fields)
update_in other = Err (WrongKind update_name)

-- the update that a value is
abbrev pub update_of : Value → Result Update CrudErr
update_of value = update_in (out-Value value)
