-- The bytes of node messages, a layout of this project (docs/formats/NODES.md). All numbers are
-- little-endian.
--
-- A message between nodes is an OP_MSG whose body has three fields: `mtx`, the number of its kind;
-- `$db`, the text "mtx"; and `b`, a binary of subtype 0 with the bytes that are defined here. An
-- envelope has its message's kind, from 1 to 12; a batch of envelopes has kind 0.
use Rattle.std.specs.Prelude.{ℕ, ℤ, pos, Bool, true, false, List, [], ◌∷◌, ◌++◌, length, Option}
use Rattle.std.specs.Prelude.{Some, None, Result, Ok, Err, codes}
use Rattle.std.specs.List.{flat_map}
use Rattle.std.specs.Int.{w16, w32, w64, to_le_bytes, cast_unsigned}
use Rattle.bson_core.specs.declared.value.Value.{Value}
use Rattle.bson_core.specs.declared.value.Value.TheVariants as value
use Rattle.bson_core.specs.Fields.{Document}
use Rattle.bson_core.specs.Spelling.{spelling, bit}
use Rattle.op_msg.specs.declared.frame.Frame.{Frame}
use Rattle.txn_types.specs.Causes.{cause_number}
use Rattle.txn_types.specs.Ids.{id_document}
use Rattle.txn_types.specs.declared.cause.By.{By}
use Rattle.txn_types.specs.declared.cause.By.TheVariants as by
use Rattle.txn_types.specs.declared.cause.Cause.{Cause}
use Rattle.txn_types.specs.declared.cause.Cause.TheVariants as cause
use Rattle.txn_types.specs.declared.decision.Decision.{Decision}
use Rattle.txn_types.specs.declared.decision.Decision.TheVariants as decision
use Rattle.txn_types.specs.declared.decision.Told.{Told}
use Rattle.txn_types.specs.declared.decision.Told.TheVariants as told
use Rattle.txn_types.specs.declared.filter.Cmp.{Cmp}
use Rattle.txn_types.specs.declared.filter.Cmp.TheVariants.{Eq, Ne, Gt, Gte, Lt, Lte}
use Rattle.txn_types.specs.declared.filter.Filter.{Filter}
use Rattle.txn_types.specs.declared.filter.Filter.TheOpen as asks
use Rattle.txn_types.specs.declared.filter.Filter.TheOpen.{Filter-F}
use Rattle.txn_types.specs.declared.filter.Filter.TheFolds.{fold-Filter}
use Rattle.txn_types.specs.declared.id.Id.{Id}
use Rattle.txn_types.specs.declared.message.Envelope.{Envelope}
use Rattle.txn_types.specs.declared.message.Msg.{Msg}
use Rattle.txn_types.specs.declared.message.Msg.TheVariants as msg
use Rattle.txn_types.specs.declared.names.Tag.{Tag}
use Rattle.txn_types.specs.declared.node.Lsid.{Lsid}
use Rattle.txn_types.specs.declared.node.Lsid.TheVariants.{Client, Own}
use Rattle.txn_types.specs.declared.node.NodeId.{NodeId}
use Rattle.txn_types.specs.declared.node.NodeId.TheVariants.{Shard, Router}
use Rattle.txn_types.specs.declared.operation.DeleteItem.{DeleteItem}
use Rattle.txn_types.specs.declared.operation.InsertItem.{InsertItem}
use Rattle.txn_types.specs.declared.operation.Op.{Op}
use Rattle.txn_types.specs.declared.operation.Op.TheVariants as op
use Rattle.txn_types.specs.declared.operation.OpErr.{OpErr}
use Rattle.txn_types.specs.declared.operation.OpReply.{OpReply}
use Rattle.txn_types.specs.declared.operation.OpReply.TheVariants as reply
use Rattle.txn_types.specs.declared.operation.UpdateItem.{UpdateItem}
use Rattle.txn_types.specs.declared.operation.What.{What}
use Rattle.txn_types.specs.declared.operation.What.TheVariants as what
use Rattle.txn_types.specs.declared.update.Update.{Update}
use Rattle.txn_types.specs.declared.update.Update.TheVariants as update
use Rattle.txn_types.specs.declared.update.UpdateKind.{UpdateKind}
use Rattle.txn_types.specs.declared.update.UpdateKind.TheVariants as kind
use Rattle.txn_types.specs.declared.update.UpdateOp.{UpdateOp}

-- Parts.

-- a number of 16, 32 or 64 bits
unfoldable pub half : ℕ → List ℕ
half n = to_le_bytes w16 n

unfoldable pub word : ℕ → List ℕ
word n = to_le_bytes w32 n

unfoldable pub long : ℕ → List ℕ
long n = to_le_bytes w64 n

unfoldable pub signed : ℤ → List ℕ
signed n = to_le_bytes w64 (cast_unsigned w64 n)

-- the number of bytes, and the bytes
abbrev pub text_bytes : List ℕ → List ℕ
text_bytes text = word (length text) ++ text

-- how many there are, and each of them
abbrev pub counted : {A : Type 0} → (A → List ℕ) → List A → List ℕ
counted bytes_of items = word (length items) ++ flat_map bytes_of items

-- a value, as the document that has it under the empty name
abbrev pub value_bytes : Value → List ℕ
value_bytes v = spelling (([], v) ∷ [])

-- an id, as the document that has it alone
abbrev pub id_bytes : Id → List ℕ
id_bytes id = spelling (id_document id)

-- router, boot and serial: 14 bytes
unfoldable pub tag_bytes : Tag → List ℕ
tag_bytes tag = half tag.router ++ word tag.boot ++ long tag.serial

-- router, boot and connection: 10 bytes
unfoldable pub own_bytes : ℕ → ℕ → ℕ → List ℕ
own_bytes router boot conn = half router ++ word boot ++ word conn

-- a 0 and the 16 bytes of a client's session; or a 1, the numbers of an own one, and 6 zeros: 17
-- bytes
unfoldable pub lsid_bytes : Lsid → List ℕ
lsid_bytes (Client bytes) = 0 ∷ bytes
lsid_bytes (Own router boot conn) = 1 ∷ own_bytes router boot conn ++ 0 ∷ 0 ∷ 0 ∷ 0 ∷ 0 ∷ 0 ∷ []

-- the transaction that a message is of: 39 bytes
abbrev pub named_bytes : Tag → Lsid → ℤ → List ℕ
named_bytes tag lsid number = tag_bytes tag ++ lsid_bytes lsid ++ signed number

-- a 0 for a shard, a 1 for a router, and its number
abbrev pub node_bytes : NodeId → List ℕ
node_bytes (Shard number) = 0 ∷ half number
node_bytes (Router number) = 1 ∷ half number

-- a 1, the time and three zeros; or a 2, eight zeros, the shard and the number of the cause: 12
-- bytes
unfoldable pub decision_bytes : Decision → List ℕ
decision_bytes (decision.Commit at) = 1 ∷ long at ++ 0 ∷ 0 ∷ 0 ∷ []
decision_bytes (decision.Abort shard code) =
    2 ∷ 0 ∷ 0 ∷ 0 ∷ 0 ∷ 0 ∷ 0 ∷ 0 ∷ 0 ∷ half shard ++ code ∷ []

-- a shard and its boot
unfoldable pub part_bytes : ℕ × ℕ → List ℕ
part_bytes part = half part.0 ++ word part.1

-- at most 65,535 participants
abbrev pub parts_bytes : List (ℕ × ℕ) → List ℕ
parts_bytes parts = half (length parts) ++ flat_map part_bytes parts

-- Operations.

abbrev pub cmp_code : Cmp → ℕ
cmp_code Eq = 1
cmp_code Ne = 2
cmp_code Gt = 3
cmp_code Gte = 4
cmp_code Lt = 5
cmp_code Lte = 6

-- by cases on the filter, over the bytes of the filters in it
abbrev pub filter_step : Filter-F (List ℕ) → List ℕ
filter_step (asks.And filters) = 1 ∷ counted (λ b. b) filters
filter_step (asks.Or filters) = 2 ∷ counted (λ b. b) filters
filter_step (asks.Nor filters) = 3 ∷ counted (λ b. b) filters
filter_step (asks.Test name cmp v) = 4 ∷ text_bytes name ++ cmp_code cmp ∷ value_bytes v
filter_step (asks.In name values) = 5 ∷ text_bytes name ++ counted value_bytes values
filter_step (asks.Nin name values) = 6 ∷ text_bytes name ++ counted value_bytes values
filter_step (asks.Exists name there) = 7 ∷ text_bytes name ++ bit there ∷ []

abbrev pub filter_bytes : Filter → List ℕ
filter_bytes filter = fold-Filter (List ℕ) filter_step filter

abbrev pub update_code : UpdateKind → ℕ
update_code kind.Set = 1
update_code kind.Unset = 2
update_code kind.Inc = 3

abbrev pub update_op_bytes : UpdateOp → List ℕ
update_op_bytes o = update_code o.kind ∷ text_bytes o.name ++ value_bytes o.value

abbrev pub update_bytes : Update → List ℕ
update_bytes (update.Replace doc) = 1 ∷ spelling doc
update_bytes (update.Ops ops) = 2 ∷ counted update_op_bytes ops

abbrev pub insert_item_bytes : InsertItem → List ℕ
insert_item_bytes item = word item.index ++ spelling item.doc

abbrev pub update_item_bytes : UpdateItem → List ℕ
update_item_bytes item =
    word item.index ++ filter_bytes item.filter ++ update_bytes item.update ++ bit item.many ∷ []

abbrev pub delete_item_bytes : DeleteItem → List ℕ
delete_item_bytes item = word item.index ++ filter_bytes item.filter ++ bit item.many ∷ []

abbrev pub op_bytes : Op → List ℕ
op_bytes (op.Insert ns docs) = 1 ∷ text_bytes ns ++ counted insert_item_bytes docs
op_bytes (op.Find ns filter down limit) =
    2 ∷ text_bytes ns ++ filter_bytes filter ++ bit down ∷ long limit
op_bytes (op.Update ns items) = 3 ∷ text_bytes ns ++ counted update_item_bytes items
op_bytes (op.Delete ns items) = 4 ∷ text_bytes ns ++ counted delete_item_bytes items

-- Answers.

-- a 0, or a 1 and the id
abbrev pub cut_bytes : Option Id → List ℕ
cut_bytes None = 0 ∷ []
cut_bytes (Some id) = 1 ∷ id_bytes id

abbrev pub reply_bytes : OpReply → List ℕ
reply_bytes (reply.Count n modified) = 1 ∷ long n ++ long modified
reply_bytes (reply.Rows docs cut) = 2 ∷ counted spelling docs ++ cut_bytes cut

abbrev pub what_code : What → ℕ
what_code what.Duplicate = 1
what_code what.NotNumber = 2
what_code what.Overflow = 3
what_code what.Immutable = 4
what_code what.TooLarge = 5

abbrev pub op_err_bytes : OpErr → List ℕ
op_err_bytes e = word e.index ++ id_bytes e.id ++ what_code e.what ∷ []

abbrev pub by_bytes : By → List ℕ
by_bytes (by.Tag tag) = 1 ∷ tag_bytes tag
by_bytes (by.At at) = 2 ∷ long at

-- the fields of a cause, in their order
abbrev pub cause_fields : Cause → List ℕ
cause_fields (cause.WriteConflict id with) = id_bytes id ++ by_bytes with
cause_fields (cause.Expired begun now) = word begun ++ word now
cause_fields (cause.ClientAbort why) = why ∷ []
cause_fields (cause.Unavailable carried have) = word carried ++ word have
cause_fields (cause.Faulted faults) = long faults
cause_fields (cause.Statement err) = op_err_bytes err
cause_fields (cause.Replaced number tag) = signed number ++ tag_bytes tag
cause_fields (cause.Volume bytes) = long bytes
cause_fields (cause.ClockEnd last) = long last
cause_fields (cause.PreparedStands tag) = tag_bytes tag
cause_fields cause.TooManySessions = []
cause_fields (cause.Voted shard code) = half shard ++ code ∷ []
cause_fields cause.Memory = []
cause_fields (cause.SnapshotTooOld at floor) = long at ++ long floor

abbrev pub cause_bytes : Cause → List ℕ
cause_bytes c = cause_number c ∷ cause_fields c

-- a 1, the reply and whether it wrote; or a 0 and the cause
abbrev pub outcome_bytes : Result (OpReply × Bool) Cause → List ℕ
outcome_bytes (Ok answer) = 1 ∷ reply_bytes answer.0 ++ bit answer.1 ∷ []
outcome_bytes (Err c) = 0 ∷ cause_bytes c

-- a 1 and the prepare timestamp; or a 0 and the cause
abbrev pub vote_bytes : Result ℕ Cause → List ℕ
vote_bytes (Ok at) = 1 ∷ long at
vote_bytes (Err c) = 0 ∷ cause_bytes c

abbrev pub told_bytes : Told → List ℕ
told_bytes (told.Committed at) = 1 ∷ long at
told_bytes told.Released = 2 ∷ []
told_bytes (told.Aborted c) = 3 ∷ cause_bytes c
told_bytes (told.TooOld have) = 4 ∷ signed have
told_bytes told.NoTrace = 5 ∷ []

-- Messages.

abbrev pub msg_kind : Msg → ℕ
msg_kind (msg.Statement m) = 1
msg_kind (msg.Answer m) = 2
msg_kind (msg.Commit m) = 3
msg_kind (msg.Outcome m) = 4
msg_kind (msg.Abort m) = 5
msg_kind (msg.CommitTwo m) = 6
msg_kind (msg.Prepare m) = 7
msg_kind (msg.Vote m) = 8
msg_kind (msg.Decide m) = 9
msg_kind (msg.Acked m) = 10
msg_kind (msg.Recover m) = 11
msg_kind msg.Nudge = 12

abbrev pub msg_bytes : Msg → List ℕ
msg_bytes (msg.Statement m) =
    named_bytes m.tag m.lsid m.number ++ word m.k ++ long m.read_at ++ word m.boot ++ op_bytes m.op
msg_bytes (msg.Answer m) = tag_bytes m.tag ++ word m.k ++ half m.shard ++ word m.boot
    ++ long m.read_at ++ outcome_bytes m.outcome
msg_bytes (msg.Commit m) = named_bytes m.tag m.lsid m.number ++ word m.boot
msg_bytes (msg.Outcome m) = tag_bytes m.tag ++ half m.shard ++ word m.boot ++ told_bytes m.told
msg_bytes (msg.Abort m) = named_bytes m.tag m.lsid m.number ++ m.why ∷ []
msg_bytes (msg.CommitTwo m) =
    named_bytes m.tag m.lsid m.number ++ word m.boot ++ parts_bytes m.parts
msg_bytes (msg.Prepare m) = named_bytes m.tag m.lsid m.number ++ word m.boot ++ half m.coordinator
msg_bytes (msg.Vote m) = tag_bytes m.tag ++ half m.shard ++ vote_bytes m.vote
msg_bytes (msg.Decide m) = named_bytes m.tag m.lsid m.number ++ decision_bytes m.decision
msg_bytes (msg.Acked m) = tag_bytes m.tag ++ half m.shard
msg_bytes (msg.Recover m) = named_bytes m.tag m.lsid m.number ++ word m.boot
msg_bytes msg.Nudge = []

-- Envelopes and batches.

-- what `b` holds of an envelope: from, to, the time, and the message
abbrev pub envelope_bytes : Envelope → List ℕ
envelope_bytes e = node_bytes e.from ++ node_bytes e.to ++ long e.time ++ msg_bytes e.msg

-- an envelope in a batch: the length of its `b`, its kind, and its `b`
abbrev pub batched_bytes : Envelope → List ℕ
batched_bytes e = word (length (envelope_bytes e)) ++ msg_kind e.msg ∷ envelope_bytes e

abbrev pub batch_bytes : List Envelope → List ℕ
batch_bytes envelopes = counted batched_bytes envelopes

-- the body of a message of this kind
abbrev pub body_of : ℕ → List ℕ → Document
body_of kind bytes =
    (codes "mtx", value.Int (pos kind)) ∷ (codes "$db", value.Text (codes "mtx"))
    ∷ (codes "b", value.Bin (record { subtype = 0; bytes = bytes })) ∷ []

abbrev pub frame_of : ℕ → List ℕ → Frame
frame_of kind bytes = record {
  request_id = pos 0;
  response_to = pos 0;
  legacy = false;
  more = false;
  body = body_of kind bytes;
  seqs = [];
}

-- the one spelling of an envelope, and of a batch
abbrev pub envelope_frame : Envelope → Frame
envelope_frame e = frame_of (msg_kind e.msg) (envelope_bytes e)

abbrev pub batch_frame : List Envelope → Frame
batch_frame envelopes = frame_of 0 (batch_bytes envelopes)
