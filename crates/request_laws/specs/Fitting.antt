-- What a client asks fits the fields of the records that are made of it: documents, the values that
-- an update sets, and the namespace.
use Rattle.std.specs.Prelude.{◌≡◌, ◌<◌, ◌≤◌, ◌^◌, ℕ, true, List, All, Some, length}
use Rattle.bson_core.specs.declared.value.Value.{Value}
use Rattle.bson_core.specs.Fields.{Document}
use Rattle.bson_core.specs.Names.{IsName}
use Rattle.bson_core.specs.Nesting.{levels}
use Rattle.bson_core.specs.Written.{IsWritten}
use Rattle.txn_types.specs.Ids.{id_of}
use Rattle.txn_types.specs.declared.id.Id.{Id}
use Rattle.txn_types.specs.declared.operation.Op.{Op}
use Rattle.txn_types.specs.declared.operation.Op.TheVariants.{Insert, Find, Update, Delete}
use Rattle.txn_types.specs.declared.operation.InsertItem.{InsertItem}
use Rattle.txn_types.specs.declared.operation.UpdateItem.{UpdateItem}
use Rattle.txn_types.specs.declared.update.Update.{Update as Change}
use Rattle.txn_types.specs.declared.update.Update.TheVariants.{Replace, Ops}
use Rattle.txn_types.specs.declared.update.UpdateOp.{UpdateOp}
use Rattle.txn_types.specs.declared.write.Write.{Write}
use Rattle.txn_types.specs.declared.write.Write.TheVariants.{Put, Delete as Removed}
use Rattle.txn_semantics.specs.Rows.{Row}
use Rattle.journal_rec.specs.Reading.{is_namespace}
use Rattle.record_laws.specs.Fits.{IdFits}

-- a value that may stand in a document: what is written of it is in the grammar, with the document
-- it has at most 100 levels, and the id that it is fits, where it is one
pub record ValueFits (value : Value) : Type 0 where
  pub written : IsWritten value
  pub levels : levels value ≤ 99
  pub id : (id : Id) → id_of value ≡ Some id → IdFits id

abbrev pub FieldFits : List ℕ × Value → Type 0
FieldFits field = IsName field.0 × ValueFits field.1

abbrev pub DocFits : Document → Type 0
DocFits doc = All FieldFits doc

abbrev pub NsFits : List ℕ → Type 0
NsFits ns = (is_namespace ns ≡ true) × (length ns < 2 ^ 16)

-- what an update sets
abbrev pub SetsFit : UpdateOp → Type 0
SetsFit op = IsName op.name × ValueFits op.value

abbrev pub ChangeFits : Change → Type 0
ChangeFits (Replace new) = DocFits new
ChangeFits (Ops ops) = All SetsFit ops

abbrev pub InsertFits : InsertItem → Type 0
InsertFits item = DocFits item.doc

abbrev pub UpdateFits : UpdateItem → Type 0
UpdateFits item = ChangeFits item.update

-- an operation
abbrev pub OpFits : Op → Type 0
OpFits (Insert ns docs) = NsFits ns × All InsertFits docs
OpFits (Find ns wanted down limit) = NsFits ns
OpFits (Update ns items) = NsFits ns × All UpdateFits items
OpFits (Delete ns items) = NsFits ns

-- a row, and a write but for how many bytes it has
abbrev pub RowFits : Row → Type 0
RowFits row = IdFits row.0 × DocFits row.1

abbrev pub WriteFits : Write → Type 0
WriteFits (Put ns id doc) = NsFits ns × IdFits id × DocFits doc
WriteFits (Removed ns id) = NsFits ns × IdFits id
