-- The filter that a document is, after the query documents of the MongoDB manual: all of its
-- elements hold.
use Rattle.std.specs.Prelude.{ℕ, zero, suc, ◌==◌, ◌&&◌, Bool, true, false, not, List, [], length}
use Rattle.std.specs.Prelude.{Option, Some, None, Result, Ok, Err, if◌then◌else◌}
use Rattle.std.specs.List.{list_all}
use Rattle.outcomes.specs.Bind.{◌>>=◌}
use Rattle.bson_core.specs.declared.value.Value.{Value}
use Rattle.bson_core.specs.declared.value.Value.TheOpen as of
use Rattle.bson_core.specs.declared.value.Value.TheOpen.{Value-F}
use Rattle.bson_core.specs.declared.value.Value.TheViews.{out-Value}
use Rattle.bson_core.specs.Fields.{Document}
use Rattle.bson_core.specs.Nesting.{nesting}
use Rattle.txn_types.specs.declared.filter.Cmp.TheVariants.{Eq}
use Rattle.txn_types.specs.declared.filter.Filter.{Filter}
use Rattle.txn_types.specs.declared.filter.Filter.TheVariants.{Test, In, Nin, Exists}
use Rattle.txn_types.specs.declared.filter.Filter.TheViews.{And}
use Rattle.crud_parse.specs.declared.error.CrudErr.{CrudErr}
use Rattle.crud_parse.specs.declared.error.CrudErr.TheVariants.{UnknownOperator, DottedName}
use Rattle.crud_parse.specs.declared.error.CrudErr.TheVariants.{WrongKind}
use Rattle.crud_parse.specs.declared.operators.Junction.{Junction}
use Rattle.crud_parse.specs.declared.operators.Operator.{Operator}
use Rattle.crud_parse.specs.declared.operators.Operator.TheVariants as asks
use Rattle.crud_parse.specs.Results.{each}
use Rattle.crud_parse.specs.Names.{begins_with_dollar, has_full_stop, begins_with_operator}
use Rattle.crud_parse.specs.Operators.{junction_of, operator_of, joined}

-- the list that an operator wants
abbrev pub list_in : List ℕ → Value-F Value → Result (List Value) CrudErr
list_in operator (of.List values) = Ok values
list_in operator other = Err (WrongKind operator)

-- the truth value that an operator wants
abbrev pub flag_in : List ℕ → Value-F Value → Result Bool CrudErr
flag_in operator (of.Bool b) = Ok b
flag_in operator other = Err (WrongKind operator)

-- what an operator, which has this name, asks of a field
abbrev pub asked : List ℕ → List ℕ → Value → Option Operator → Result Filter CrudErr
asked field name value None = Err (UnknownOperator name)
asked field name value (Some (asks.Compare cmp)) = Ok (Test field cmp value)
asked field name value (Some asks.In) =
    list_in name (out-Value value) >>= λ values. Ok (In field values)
asked field name value (Some asks.Nin) =
    list_in name (out-Value value) >>= λ values. Ok (Nin field values)
asked field name value (Some asks.Exists) =
    flag_in name (out-Value value) >>= λ yes. Ok (Exists field yes)

abbrev pub condition : List ℕ → List ℕ × Value → Result Filter CrudErr
condition field operator = asked field operator.0 operator.1 (operator_of operator.0)

-- the operators in a document whose first name begins with `$`
abbrev pub operators_in : Value-F Value → Option Document
operators_in (of.Doc fields) = if begins_with_operator fields then Some fields else None
operators_in other = None

-- what these operators, or the value where there are none, ask of a field
abbrev pub meets : List ℕ → Value → Option Document → Result Filter CrudErr
meets field value (Some operators) =
    each (condition field) operators >>= λ filters. Ok (And filters)
meets field value None = Ok (Test field Eq value)

abbrev pub field_filter : List ℕ → Value → Result Filter CrudErr
field_filter field value = meets field value (operators_in (out-Value value))

-- a list of documents, not empty
abbrev pub is_document : Value-F Value → Bool
is_document (of.Doc fields) = true
is_document other = false

abbrev pub are_documents : List Value → Bool
are_documents values =
    not (length values == 0) && list_all (λ value. is_document (out-Value value)) values

-- how a document in another is read
abbrev pub Reader : Type 0
Reader = Document → Result Filter CrudErr

-- a document in the list of that name
abbrev pub inner_by : Reader → List ℕ → Value-F Value → Result Filter CrudErr
inner_by read name (of.Doc fields) = read fields
inner_by read name other = Err (WrongKind name)

-- the documents in the list of that name
abbrev pub filters_by : Reader → List ℕ → Value-F Value → Result (List Filter) CrudErr
filters_by read name (of.List values) = if are_documents values
    then each (λ value. inner_by read name (out-Value value)) values else Err (WrongKind name)
filters_by read name other = Err (WrongKind name)

-- an element whose name is that of a junction, or of none
abbrev pub named_by : Reader → List ℕ → Value → Option Junction → Result Filter CrudErr
named_by read name value (Some junction) =
    filters_by read name (out-Value value) >>= λ filters. Ok (joined junction filters)
named_by read name value None =
    if begins_with_dollar name then Err (UnknownOperator name)
    else (if has_full_stop name then Err (DottedName name) else field_filter name value)

unfoldable pub element_by : Reader → List ℕ × Value → Result Filter CrudErr
element_by read element = named_by read element.0 element.1 (junction_of element.0)

-- the elements of a document, over what reads the documents in it
abbrev pub filter_by : Reader → Reader
filter_by read doc = each (element_by read) doc >>= λ filters. Ok (And filters)

-- a document of at most so many levels; each has one at least
unfoldable pub filter_at : ℕ → Reader
filter_at zero doc = Ok (And [])
filter_at (suc levels) doc = filter_by (filter_at levels) doc

-- the filter that a document is, with all of its levels
unfoldable pub filter_of : Reader
filter_of doc = filter_at (nesting doc) doc
