-- What can be written of a message between nodes: a number within its bytes, a client's session of
-- 16 bytes, a count or a length within four, a document of at most 100 levels, a filter of at most
-- 200.
use Rattle.std.specs.Prelude.{◌≡◌, ◌<◌, ◌≤◌, ◌^◌, ℕ, zero, suc, Bool, true, List, [], ◌∷◌, Option}
use Rattle.std.specs.Prelude.{Some, None, is_some, Result, Ok, Err, length, FitsSigned}
use Rattle.std.specs.Int.{w64}
use Rattle.std.specs.List.{All}
use Rattle.std.specs.Str.{is_utf8}
use Rattle.bson_core.specs.declared.value.Value.{Value}
use Rattle.bson_core.specs.declared.value.Value.TheViews.{out-Value}
use Rattle.bson_core.specs.Fields.{Document}
use Rattle.bson_core.specs.Nesting.{nesting}
use Rattle.bson_core.specs.Spelling.{spelling}
use Rattle.bson_core.specs.Written.{IsFieldWritten}
use Rattle.txn_types.specs.Ids.{id_in, id_document}
use Rattle.txn_types.specs.declared.cause.By.{By}
use Rattle.txn_types.specs.declared.cause.By.TheVariants as by
use Rattle.txn_types.specs.declared.cause.Cause.{Cause}
use Rattle.txn_types.specs.declared.cause.Cause.TheVariants as cause
use Rattle.txn_types.specs.declared.decision.Decision.{Decision}
use Rattle.txn_types.specs.declared.decision.Decision.TheVariants as decision
use Rattle.txn_types.specs.declared.decision.Told.{Told}
use Rattle.txn_types.specs.declared.decision.Told.TheVariants as told
use Rattle.txn_types.specs.declared.filter.Filter.{Filter}
use Rattle.txn_types.specs.declared.filter.Filter.TheOpen as asks
use Rattle.txn_types.specs.declared.filter.Filter.TheOpen.{Filter-F}
use Rattle.txn_types.specs.declared.filter.Filter.TheViews.{out-Filter}
use Rattle.txn_types.specs.declared.id.Id.{Id}
use Rattle.txn_types.specs.declared.id.Id.TheVariants as kinds
use Rattle.txn_types.specs.declared.message.Envelope.{Envelope}
use Rattle.txn_types.specs.declared.message.Msg.{Msg}
use Rattle.txn_types.specs.declared.message.Msg.TheVariants as msg
use Rattle.txn_types.specs.declared.names.Tag.{Tag}
use Rattle.txn_types.specs.declared.node.Lsid.{Lsid}
use Rattle.txn_types.specs.declared.node.Lsid.TheVariants.{Client, Own}
use Rattle.txn_types.specs.declared.node.NodeId.{NodeId}
use Rattle.txn_types.specs.declared.node.NodeId.TheVariants.{Shard, Router}
use Rattle.txn_types.specs.declared.operation.DeleteItem.{DeleteItem}
use Rattle.txn_types.specs.declared.operation.InsertItem.{InsertItem}
use Rattle.txn_types.specs.declared.operation.Op.{Op}
use Rattle.txn_types.specs.declared.operation.Op.TheVariants as op
use Rattle.txn_types.specs.declared.operation.OpErr.{OpErr}
use Rattle.txn_types.specs.declared.operation.OpReply.{OpReply}
use Rattle.txn_types.specs.declared.operation.OpReply.TheVariants as reply
use Rattle.txn_types.specs.declared.operation.UpdateItem.{UpdateItem}
use Rattle.txn_types.specs.declared.update.Update.{Update}
use Rattle.txn_types.specs.declared.update.Update.TheVariants as update
use Rattle.txn_types.specs.declared.update.UpdateOp.{UpdateOp}
use Rattle.node_wire.specs.Errors.{most}
use Rattle.node_wire.specs.Reading.{is_name, is_namespace, may_have, filter_levels}
use Rattle.node_wire.specs.Spelling.{envelope_bytes}

abbrev pub TagFits : Tag → Type 0
TagFits tag = (tag.router < 2 ^ 16) × (tag.boot < 2 ^ 32) × (tag.serial < 2 ^ 64)

abbrev pub LsidFits : Lsid → Type 0
LsidFits (Client bytes) = length bytes ≡ 16
LsidFits (Own router boot conn) = (router < 2 ^ 16) × (boot < 2 ^ 32) × (conn < 2 ^ 32)

abbrev pub DecisionFits : Decision → Type 0
DecisionFits (decision.Commit at) = at < 2 ^ 64
DecisionFits (decision.Abort shard code) = shard < 2 ^ 16

-- a participant's shard and boot
abbrev pub PartFits : ℕ × ℕ → Type 0
PartFits part = (part.0 < 2 ^ 16) × (part.1 < 2 ^ 32)

-- a shard's number is below 64, a router's below 8
abbrev pub NodeFits : NodeId → Type 0
NodeFits (Shard number) = number < 64
NodeFits (Router number) = number < 8

-- as many as a count can say, each fitting
abbrev pub ListFits : {A : Type 0} → (A → Type 0) → List A → Type 0
ListFits Fits items = (length items < 2 ^ 32) × All Fits items

abbrev pub DocumentFits : Document → Type 0
DocumentFits doc = All IsFieldWritten doc × (nesting doc ≤ 100) × (length (spelling doc) ≤ most)

-- a value fits where its document does
abbrev pub ValueFits : Value → Type 0
ValueFits v = DocumentFits (([], v) ∷ [])

-- the parts of an id, and the length of its document
abbrev pub ContentFits : Id → Type 0
ContentFits (kinds.Num n) = FitsSigned w64 n
ContentFits (kinds.Text t) = is_utf8 t ≡ true
ContentFits (kinds.Bin b) = Unit {0}
ContentFits (kinds.Oid bytes) = length bytes ≡ 12
ContentFits (kinds.Bool b) = Unit {0}
ContentFits (kinds.Date n) = FitsSigned w64 n

abbrev pub IdFits : Id → Type 0
IdFits id = ContentFits id × (length (spelling (id_document id)) ≤ most)

abbrev pub NameFits : List ℕ → Type 0
NameFits name = (is_name name ≡ true) × (length name < 2 ^ 32)

abbrev pub NamespaceFits : List ℕ → Type 0
NamespaceFits ns = (is_namespace ns ≡ true) × (length ns < 2 ^ 32)

-- a filter over those in it
abbrev pub filter_step_fits : (Filter → Type 0) → Filter-F Filter → Type 0
filter_step_fits Fits (asks.And filters) = ListFits Fits filters
filter_step_fits Fits (asks.Or filters) = ListFits Fits filters
filter_step_fits Fits (asks.Nor filters) = ListFits Fits filters
filter_step_fits Fits (asks.Test name cmp v) = NameFits name × ValueFits v
filter_step_fits Fits (asks.In name values) = NameFits name × ListFits ValueFits values
filter_step_fits Fits (asks.Nin name values) = NameFits name × ListFits ValueFits values
filter_step_fits Fits (asks.Exists name there) = NameFits name

-- with at most so many levels, itself included
unfoldable pub FilterFits : ℕ → Filter → Type 0
FilterFits zero filter = ⊥
FilterFits (suc levels) filter = filter_step_fits (FilterFits levels) (out-Filter filter)

abbrev pub OuterFilterFits : Filter → Type 0
OuterFilterFits filter = FilterFits filter_levels filter

-- what is taken out has null
abbrev pub UpdateOpFits : UpdateOp → Type 0
UpdateOpFits o = NameFits o.name × ValueFits o.value × (may_have o.kind (out-Value o.value) ≡ true)

abbrev pub UpdateFits : Update → Type 0
UpdateFits (update.Replace doc) = DocumentFits doc
UpdateFits (update.Ops ops) = ListFits UpdateOpFits ops

-- a document to insert has an id
abbrev pub InsertItemFits : InsertItem → Type 0
InsertItemFits item = (item.index < 2 ^ 32) × DocumentFits item.doc
    × (is_some (id_in item.doc) ≡ true)

abbrev pub UpdateItemFits : UpdateItem → Type 0
UpdateItemFits item = (item.index < 2 ^ 32) × OuterFilterFits item.filter × UpdateFits item.update

abbrev pub DeleteItemFits : DeleteItem → Type 0
DeleteItemFits item = (item.index < 2 ^ 32) × OuterFilterFits item.filter

abbrev pub OpFits : Op → Type 0
OpFits (op.Insert ns docs) = NamespaceFits ns × ListFits InsertItemFits docs
OpFits (op.Find ns filter down limit) = NamespaceFits ns × OuterFilterFits filter × (limit < 2 ^ 64)
OpFits (op.Update ns items) = NamespaceFits ns × ListFits UpdateItemFits items
OpFits (op.Delete ns items) = NamespaceFits ns × ListFits DeleteItemFits items

abbrev pub CutFits : Option Id → Type 0
CutFits None = Unit {0}
CutFits (Some id) = IdFits id

abbrev pub ReplyFits : OpReply → Type 0
ReplyFits (reply.Count n modified) = (n < 2 ^ 64) × (modified < 2 ^ 64)
ReplyFits (reply.Rows docs cut) = ListFits DocumentFits docs × CutFits cut

abbrev pub OpErrFits : OpErr → Type 0
OpErrFits e = (e.index < 2 ^ 32) × IdFits e.id

abbrev pub ByFits : By → Type 0
ByFits (by.Tag tag) = TagFits tag
ByFits (by.At at) = at < 2 ^ 64

abbrev pub CauseFits : Cause → Type 0
CauseFits (cause.WriteConflict id with) = IdFits id × ByFits with
CauseFits (cause.Expired begun now) = (begun < 2 ^ 32) × (now < 2 ^ 32)
CauseFits (cause.ClientAbort why) = Unit {0}
CauseFits (cause.Unavailable carried have) = (carried < 2 ^ 32) × (have < 2 ^ 32)
CauseFits (cause.Faulted faults) = faults < 2 ^ 64
CauseFits (cause.Statement err) = OpErrFits err
CauseFits (cause.Replaced number tag) = FitsSigned w64 number × TagFits tag
CauseFits (cause.Volume bytes) = bytes < 2 ^ 64
CauseFits (cause.ClockEnd last) = last < 2 ^ 64
CauseFits (cause.PreparedStands tag) = TagFits tag
CauseFits cause.TooManySessions = Unit {0}
CauseFits (cause.Voted shard code) = shard < 2 ^ 16
CauseFits cause.Memory = Unit {0}
CauseFits (cause.SnapshotTooOld at floor) = (at < 2 ^ 64) × (floor < 2 ^ 64)

abbrev pub OutcomeFits : Result (OpReply × Bool) Cause → Type 0
OutcomeFits (Ok answer) = ReplyFits answer.0
OutcomeFits (Err c) = CauseFits c

abbrev pub VoteFits : Result ℕ Cause → Type 0
VoteFits (Ok at) = at < 2 ^ 64
VoteFits (Err c) = CauseFits c

abbrev pub ToldFits : Told → Type 0
ToldFits (told.Committed at) = at < 2 ^ 64
ToldFits told.Released = Unit {0}
ToldFits (told.Aborted c) = CauseFits c
ToldFits (told.TooOld have) = FitsSigned w64 have
ToldFits told.NoTrace = Unit {0}

abbrev pub MsgFits : Msg → Type 0
MsgFits (msg.Statement m) = TagFits m.tag × LsidFits m.lsid × FitsSigned w64 m.number
    × (m.k < 2 ^ 32) × (m.read_at < 2 ^ 64) × (m.boot < 2 ^ 32) × OpFits m.op
MsgFits (msg.Answer m) = TagFits m.tag × (m.k < 2 ^ 32) × (m.shard < 2 ^ 16) × (m.boot < 2 ^ 32)
    × (m.read_at < 2 ^ 64) × OutcomeFits m.outcome
MsgFits (msg.Commit m) = TagFits m.tag × LsidFits m.lsid × FitsSigned w64 m.number
    × (m.boot < 2 ^ 32)
MsgFits (msg.Outcome m) = TagFits m.tag × (m.shard < 2 ^ 16) × (m.boot < 2 ^ 32) × ToldFits m.told
MsgFits (msg.Abort m) = TagFits m.tag × LsidFits m.lsid × FitsSigned w64 m.number
MsgFits (msg.CommitTwo m) = TagFits m.tag × LsidFits m.lsid × FitsSigned w64 m.number
    × (m.boot < 2 ^ 32) × (length m.parts < 2 ^ 16) × All PartFits m.parts
MsgFits (msg.Prepare m) = TagFits m.tag × LsidFits m.lsid × FitsSigned w64 m.number
    × (m.boot < 2 ^ 32) × (m.coordinator < 2 ^ 16)
MsgFits (msg.Vote m) = TagFits m.tag × (m.shard < 2 ^ 16) × VoteFits m.vote
MsgFits (msg.Decide m) = TagFits m.tag × LsidFits m.lsid × FitsSigned w64 m.number
    × DecisionFits m.decision
MsgFits (msg.Acked m) = TagFits m.tag × (m.shard < 2 ^ 16)
MsgFits (msg.Recover m) = TagFits m.tag × LsidFits m.lsid × FitsSigned w64 m.number
    × (m.boot < 2 ^ 32)
MsgFits msg.Nudge = Unit {0}

abbrev pub EnvelopeFits : Envelope → Type 0
EnvelopeFits e = NodeFits e.from × NodeFits e.to × (e.time < 2 ^ 64) × MsgFits e.msg

-- in a batch, the length of an envelope's bytes is a u32
abbrev pub BatchedFits : Envelope → Type 0
BatchedFits e = EnvelopeFits e × (length (envelope_bytes e) < 2 ^ 32)
