-- Reading the bytes of node messages front to back, as functions on lists: a field and the bytes
-- after it, or the place of the first byte of the field that can't be read. `end` is the place
-- after the bytes, so those that are left begin at the place `end - length bytes`.
use Rattle.std.specs.Prelude.{ℕ, ℤ, pos, zero, suc, ◌+◌, ◌-◌, ◌==◌, ◌&&◌, ◌||◌, Bool, true, false}
use Rattle.std.specs.Prelude.{not, List, [], ◌∷◌, ◌++◌, length, take, drop, position, nat_lt}
use Rattle.std.specs.Prelude.{nat_le, is_some, Option, Some, None, option_and_then, Result, Ok, Err}
use Rattle.std.specs.Prelude.{codes, if◌then◌else◌}
use Rattle.std.specs.List.{position_or_len, before_first, after_first}
use Rattle.std.specs.Int.{Width, w16, w32, w64, cast_signed}
use Rattle.std.specs.Str.{is_utf8, bytes_eq}
use Rattle.op_msg.specs.Limits.{most_internal}
use Rattle.outcomes.specs.Bind.{◌>>=◌}
use Rattle.bson_core.specs.declared.error.BsonErr.{BsonErr}
use Rattle.bson_core.specs.declared.value.Bin.{Bin}
use Rattle.bson_core.specs.declared.value.Value.{Value}
use Rattle.bson_core.specs.declared.value.Value.TheOpen as of
use Rattle.bson_core.specs.declared.value.Value.TheOpen.{Value-F}
use Rattle.bson_core.specs.declared.value.Value.TheViews.{out-Value}
use Rattle.bson_core.specs.Fields.{Document}
use Rattle.bson_core.specs.Names.{has_no_zero}
use Rattle.bson_core.specs.Reading.{number_at, document_of}
use Rattle.op_msg.specs.Message.{is_text}
use Rattle.op_msg.specs.declared.frame.Frame.{Frame}
use Rattle.txn_types.specs.Ids.{id_name, id_of, id_in}
use Rattle.txn_types.specs.Names.{is_database, is_collection}
use Rattle.txn_types.specs.declared.cause.By.{By}
use Rattle.txn_types.specs.declared.cause.By.TheVariants as by
use Rattle.txn_types.specs.declared.cause.Cause.{Cause}
use Rattle.txn_types.specs.declared.cause.Cause.TheVariants as cause
use Rattle.txn_types.specs.declared.decision.Decision.{Decision}
use Rattle.txn_types.specs.declared.decision.Decision.TheVariants as decision
use Rattle.txn_types.specs.declared.decision.Told.{Told}
use Rattle.txn_types.specs.declared.decision.Told.TheVariants as told
use Rattle.txn_types.specs.declared.filter.Cmp.{Cmp}
use Rattle.txn_types.specs.declared.filter.Cmp.TheVariants.{Eq, Ne, Gt, Gte, Lt, Lte}
use Rattle.txn_types.specs.declared.filter.Filter.{Filter}
use Rattle.txn_types.specs.declared.filter.Filter.TheVariants as asks
use Rattle.txn_types.specs.declared.id.Id.{Id}
use Rattle.txn_types.specs.declared.message.Envelope.{Envelope}
use Rattle.txn_types.specs.declared.message.Msg.{Msg}
use Rattle.txn_types.specs.declared.message.Msg.TheVariants as msg
use Rattle.txn_types.specs.declared.names.Tag.{Tag}
use Rattle.txn_types.specs.declared.node.Lsid.{Lsid}
use Rattle.txn_types.specs.declared.node.Lsid.TheVariants.{Client, Own}
use Rattle.txn_types.specs.declared.node.NodeId.{NodeId}
use Rattle.txn_types.specs.declared.node.NodeId.TheVariants.{Shard, Router}
use Rattle.txn_types.specs.declared.operation.DeleteItem.{DeleteItem}
use Rattle.txn_types.specs.declared.operation.InsertItem.{InsertItem}
use Rattle.txn_types.specs.declared.operation.Op.{Op}
use Rattle.txn_types.specs.declared.operation.Op.TheVariants as op
use Rattle.txn_types.specs.declared.operation.OpErr.{OpErr}
use Rattle.txn_types.specs.declared.operation.OpReply.{OpReply}
use Rattle.txn_types.specs.declared.operation.OpReply.TheVariants as reply
use Rattle.txn_types.specs.declared.operation.UpdateItem.{UpdateItem}
use Rattle.txn_types.specs.declared.operation.What.{What}
use Rattle.txn_types.specs.declared.operation.What.TheVariants as what
use Rattle.txn_types.specs.declared.update.Update.{Update}
use Rattle.txn_types.specs.declared.update.Update.TheVariants as update
use Rattle.txn_types.specs.declared.update.UpdateKind.{UpdateKind}
use Rattle.txn_types.specs.declared.update.UpdateKind.TheVariants as kind
use Rattle.txn_types.specs.declared.update.UpdateOp.{UpdateOp}
use Rattle.node_wire.specs.Errors.{from_document}
use Rattle.node_wire.specs.declared.error.WireErr.{WireErr}
use Rattle.node_wire.specs.declared.error.WireErr.TheVariants.{Field, NotInternal}

-- a field and the bytes after it, or the first fault
abbrev pub Found : Type 0 → Type 0
Found A = Result (A × List ℕ) WireErr

-- where the bytes begin
abbrev pub place : ℕ → List ℕ → ℕ
place end bytes = end - length bytes

-- what was found; else the field that begins here can't be read
abbrev pub or_field : {A : Type 0} → ℕ → Option A → Result A WireErr
or_field at None = Err (Field at)
or_field at (Some x) = Ok x

-- Numbers, counts and texts.

abbrev pub byte_at : ℕ → List ℕ → Found ℕ
byte_at end [] = Err (Field end)
byte_at end (byte ∷ bytes) = Ok (byte, bytes)

abbrev pub number_of : Width → ℕ → List ℕ → Found ℕ
number_of w end bytes = or_field (place end bytes) (number_at w bytes)

abbrev pub signed_at : ℕ → List ℕ → Found ℤ
signed_at end bytes = number_of w64 end bytes >>= λ n. Ok (cast_signed w64 n.0, n.1)

-- so many bytes
unfoldable pub bytes_of : ℕ → ℕ → List ℕ → Found (List ℕ)
bytes_of n end bytes = if nat_lt (length bytes) n then Err (Field (place end bytes))
    else Ok (take n bytes, drop n bytes)

-- so many zeros, each a field: the first byte that is none, or isn't there, is the fault
abbrev pub zeros_by : ℕ → Option ℕ → Result (List ℕ) WireErr → Result (List ℕ) WireErr
zeros_by at None rest = rest
zeros_by at (Some n) rest = Err (Field (at + n))

unfoldable pub zeros_at : ℕ → ℕ → List ℕ → Result (List ℕ) WireErr
zeros_at n end bytes =
    zeros_by (place end bytes) (position (λ b. not (b == 0)) (take n bytes))
    (if nat_lt (length bytes) n then Err (Field end) else Ok (drop n bytes))

-- a count or a length, which no more bytes follow than it says: each thing that is counted has a
-- byte
unfoldable pub count_at : ℕ → List ℕ → Found ℕ
count_at end bytes = number_of w32 end bytes >>= λ n. if nat_lt (length n.1) n.0
    then Err (Field (place end bytes)) else Ok n

-- a byte that is 0 or 1
abbrev pub flag_of : ℕ → Option Bool
flag_of byte = if byte == 0 then Some false else (if byte == 1 then Some true else None)

-- a byte with a meaning
unfoldable pub code_at : {A : Type 0} → (ℕ → Option A) → ℕ → List ℕ → Found A
code_at meaning end bytes = do
  byte ← byte_at end bytes
  x ← or_field (place end bytes) (meaning byte.0)
  Ok (x, byte.1)

-- so many things after those in front, each read alike
abbrev pub each_at : {A : Type 0} → (List ℕ → Found A) → ℕ → List A → List ℕ → Found (List A)
each_at read zero front bytes = Ok (front, bytes)
each_at read (suc n) front bytes = read bytes >>= λ x. each_at read n (front ++ x.0 ∷ []) x.1

unfoldable pub counted_at : {A : Type 0} → (List ℕ → Found A) → ℕ → List ℕ → Found (List A)
counted_at read end bytes = count_at end bytes >>= λ n. each_at read n.0 [] n.1

-- a text that passes a test
unfoldable pub text_at : (List ℕ → Bool) → ℕ → List ℕ → Found (List ℕ)
text_at passes end bytes = do
  n ← count_at end bytes
  if passes (take n.0 n.1) then Ok (take n.0 n.1, drop n.0 n.1) else Err (Field (place end bytes))

abbrev pub is_name : List ℕ → Bool
is_name bytes = is_utf8 bytes && has_no_zero bytes

-- a database's name, a full stop and a collection's name
abbrev pub is_namespace : List ℕ → Bool
is_namespace bytes =
    is_utf8 bytes && nat_lt (position_or_len (λ b. b == 46) bytes) (length bytes)
    && is_database (before_first (λ b. b == 46) bytes)
    && is_collection (after_first (λ b. b == 46) bytes)

-- Documents, values and ids.

abbrev pub as_field : {A : Type 0} → ℕ → Result A BsonErr → Result A WireErr
as_field at (Ok x) = Ok x
as_field at (Err e) = Err (from_document at e)

-- a document, in as many bytes as its count says
unfoldable pub document_at : ℕ → List ℕ → Found Document
document_at end bytes = do
  n ← number_of w32 end bytes
  if nat_lt (length bytes) n.0 then Err (Field (place end bytes)) else
      (as_field (place end bytes) (document_of most_internal (take n.0 bytes))
      >>= λ doc. Ok (doc, drop n.0 bytes))

-- the value of a document that has one field, of this name
abbrev pub only_under : List ℕ → Document → Option Value
only_under name [] = None
only_under name (field ∷ []) = if bytes_eq field.0 name then Some field.1 else None
only_under name (field ∷ other ∷ fields) = None

unfoldable pub value_at : ℕ → List ℕ → Found Value
value_at end bytes = do
  doc ← document_at end bytes
  v ← or_field (place end bytes) (only_under [] doc.0)
  Ok (v, doc.1)

-- the id that a value is, where a number is an int64
abbrev pub long_id : Value-F Value → Value → Option Id
long_id (of.Int n) value = None
long_id other value = id_of value

unfoldable pub id_at : ℕ → List ℕ → Found Id
id_at end bytes = do
  doc ← document_at end bytes
  id ← or_field (place end bytes)
      (option_and_then (λ v. long_id (out-Value v) v) (only_under id_name doc.0))
  Ok (id, doc.1)

-- Transactions and nodes.

unfoldable pub tag_at : ℕ → List ℕ → Found Tag
tag_at end bytes = do
  router ← number_of w16 end bytes
  boot ← number_of w32 end router.1
  serial ← number_of w64 end boot.1
  Ok (record { router = router.0; boot = boot.0; serial = serial.0 }, serial.1)

abbrev pub client_at : ℕ → List ℕ → Found Lsid
client_at end bytes = bytes_of 16 end bytes >>= λ x. Ok (Client x.0, x.1)

unfoldable pub own_at : ℕ → List ℕ → Found Lsid
own_at end bytes = do
  router ← number_of w16 end bytes
  boot ← number_of w32 end router.1
  conn ← number_of w32 end boot.1
  rest ← zeros_at 6 end conn.1
  Ok (Own router.0 boot.0 conn.0, rest)

unfoldable pub lsid_at : ℕ → List ℕ → Found Lsid
lsid_at end bytes = code_at flag_of end bytes >>= λ own. if own.0 then own_at end own.1
    else client_at end own.1

abbrev pub Named : Type 0
Named = Tag × Lsid × ℤ

unfoldable pub named_at : ℕ → List ℕ → Found Named
named_at end bytes = do
  tag ← tag_at end bytes
  lsid ← lsid_at end tag.1
  number ← signed_at end lsid.1
  Ok ((tag.0, lsid.0, number.0), number.1)

-- shards are below 64, routers below 8
abbrev pub node_of : Bool → ℕ → Option NodeId
node_of false number = if nat_lt number 64 then Some (Shard number) else None
node_of true number = if nat_lt number 8 then Some (Router number) else None

unfoldable pub node_at : ℕ → List ℕ → Found NodeId
node_at end bytes = do
  router ← code_at flag_of end bytes
  number ← number_of w16 end router.1
  node ← or_field (place end router.1) (node_of router.0 number.0)
  Ok (node, number.1)

unfoldable pub committed_at : ℕ → List ℕ → Found Decision
committed_at end bytes = do
  at ← number_of w64 end bytes
  rest ← zeros_at 3 end at.1
  Ok (decision.Commit at.0, rest)

unfoldable pub aborted_at : ℕ → List ℕ → Found Decision
aborted_at end bytes = do
  rest ← zeros_at 8 end bytes
  shard ← number_of w16 end rest
  code ← byte_at end shard.1
  Ok (decision.Abort shard.0 code.0, code.1)

-- a byte from 1 to n
abbrev pub one_to : ℕ → ℕ → Option ℕ
one_to n byte = if nat_le 1 byte && nat_le byte n then Some byte else None

unfoldable pub decision_at : ℕ → List ℕ → Found Decision
decision_at end bytes = code_at (one_to 2) end bytes >>= λ way. if way.0 == 1
    then committed_at end way.1 else aborted_at end way.1

unfoldable pub part_at : ℕ → List ℕ → Found (ℕ × ℕ)
part_at end bytes = do
  shard ← number_of w16 end bytes
  boot ← number_of w32 end shard.1
  Ok ((shard.0, boot.0), boot.1)

unfoldable pub parts_at : ℕ → List ℕ → Found (List (ℕ × ℕ))
parts_at end bytes = number_of w16 end bytes >>= λ n. each_at (part_at end) n.0 [] n.1

-- Operations.

abbrev pub cmp_of : ℕ → Option Cmp
cmp_of byte =
    if byte == 1 then Some Eq else (if byte == 2 then Some Ne else (if byte == 3 then Some Gt else
    (if byte == 4 then Some Gte
    else (if byte == 5 then Some Lt else (if byte == 6 then Some Lte else None)))))

-- filters that are joined
unfoldable pub joined_at : (List ℕ → Found Filter) → (List Filter → Filter) → ℕ → List ℕ
    → Found Filter
joined_at read join end bytes = counted_at read end bytes >>= λ x. Ok (join x.0, x.1)

unfoldable pub test_at : ℕ → List ℕ → Found Filter
test_at end bytes = do
  name ← text_at is_name end bytes
  cmp ← code_at cmp_of end name.1
  v ← value_at end cmp.1
  Ok (asks.Test name.0 cmp.0 v.0, v.1)

unfoldable pub among_at : (List ℕ → List Value → Filter) → ℕ → List ℕ → Found Filter
among_at make end bytes = do
  name ← text_at is_name end bytes
  values ← counted_at (value_at end) end name.1
  Ok (make name.0 values.0, values.1)

unfoldable pub exists_at : ℕ → List ℕ → Found Filter
exists_at end bytes = do
  name ← text_at is_name end bytes
  there ← code_at flag_of end name.1
  Ok (asks.Exists name.0 there.0, there.1)

-- a filter of this kind, over what reads the filters in it
unfoldable pub filter_by : (List ℕ → Found Filter) → ℕ → ℕ → List ℕ → Found Filter
filter_by read kind end bytes =
    if kind == 1 then joined_at read asks.And end bytes else
    (if kind == 2 then joined_at read asks.Or end bytes else
    (if kind == 3 then joined_at read asks.Nor end bytes else
    (if kind == 4 then test_at end bytes else
    (if kind == 5 then among_at asks.In end bytes else
    (if kind == 6 then among_at asks.Nin end bytes else exists_at end bytes)))))

-- with so many levels left, itself included
unfoldable pub filter_at : ℕ → ℕ → List ℕ → Found Filter
filter_at zero end bytes = Err (Field (place end bytes))
filter_at (suc levels) end bytes =
    code_at (one_to 7) end bytes >>= λ kind. filter_by (filter_at levels end) kind.0 end kind.1

-- A command's document has at most 100 levels, and its filter at most two for each of them.
abbrev pub filter_levels : ℕ
filter_levels = 200

abbrev pub update_kind_of : ℕ → Option UpdateKind
update_kind_of byte = if byte == 1 then Some kind.Set
    else (if byte == 2 then Some kind.Unset else (if byte == 3 then Some kind.Inc else None))

-- what is taken out has null
abbrev pub may_have : UpdateKind → Value-F Value → Bool
may_have kind.Unset of.Null = true
may_have kind.Unset other = false
may_have other value = true

unfoldable pub update_op_at : ℕ → List ℕ → Found UpdateOp
update_op_at end bytes = do
  kind ← code_at update_kind_of end bytes
  name ← text_at is_name end kind.1
  v ← value_at end name.1
  if may_have kind.0 (out-Value v.0)
      then Ok (record { kind = kind.0; name = name.0; value = v.0 }, v.1)
      else Err (Field (place end name.1))

abbrev pub replace_at : ℕ → List ℕ → Found Update
replace_at end bytes = document_at end bytes >>= λ x. Ok (update.Replace x.0, x.1)

abbrev pub ops_at : ℕ → List ℕ → Found Update
ops_at end bytes = counted_at (update_op_at end) end bytes >>= λ x. Ok (update.Ops x.0, x.1)

unfoldable pub update_at : ℕ → List ℕ → Found Update
update_at end bytes = code_at (one_to 2) end bytes >>= λ kind. if kind.0 == 1
    then replace_at end kind.1 else ops_at end kind.1

-- a document to insert has an id
unfoldable pub insert_item_at : ℕ → List ℕ → Found InsertItem
insert_item_at end bytes = do
  index ← number_of w32 end bytes
  doc ← document_at end index.1
  if is_some (id_in doc.0) then Ok (record { index = index.0; doc = doc.0 }, doc.1)
      else Err (Field (place end index.1))

unfoldable pub update_item_at : ℕ → List ℕ → Found UpdateItem
update_item_at end bytes = do
  index ← number_of w32 end bytes
  filter ← filter_at filter_levels end index.1
  update ← update_at end filter.1
  many ← code_at flag_of end update.1
  Ok (record { index = index.0; filter = filter.0; update = update.0; many = many.0 }, many.1)

unfoldable pub delete_item_at : ℕ → List ℕ → Found DeleteItem
delete_item_at end bytes = do
  index ← number_of w32 end bytes
  filter ← filter_at filter_levels end index.1
  many ← code_at flag_of end filter.1
  Ok (record { index = index.0; filter = filter.0; many = many.0 }, many.1)

unfoldable pub find_at : List ℕ → ℕ → List ℕ → Found Op
find_at ns end bytes = do
  filter ← filter_at filter_levels end bytes
  down ← code_at flag_of end filter.1
  limit ← number_of w64 end down.1
  Ok (op.Find ns filter.0 down.0 limit.0, limit.1)

-- the operation of this kind on this collection
unfoldable pub op_by : ℕ → List ℕ → ℕ → List ℕ → Found Op
op_by kind ns end bytes =
    if kind == 1
    then (counted_at (insert_item_at end) end bytes >>= λ x. Ok (op.Insert ns x.0, x.1)) else
    (if kind == 2 then find_at ns end bytes else
    (if kind == 3
    then (counted_at (update_item_at end) end bytes >>= λ x. Ok (op.Update ns x.0, x.1)) else
    (counted_at (delete_item_at end) end bytes >>= λ x. Ok (op.Delete ns x.0, x.1))))

unfoldable pub op_at : ℕ → List ℕ → Found Op
op_at end bytes = do
  kind ← code_at (one_to 4) end bytes
  ns ← text_at is_namespace end kind.1
  op_by kind.0 ns.0 end ns.1

-- Answers.

unfoldable pub cut_at : ℕ → List ℕ → Found (Option Id)
cut_at end bytes = code_at flag_of end bytes >>= λ there.
    if there.0 then (id_at end there.1 >>= λ id. Ok (Some id.0, id.1)) else Ok (None, there.1)

unfoldable pub number_reply_at : ℕ → List ℕ → Found OpReply
number_reply_at end bytes = do
  n ← number_of w64 end bytes
  modified ← number_of w64 end n.1
  Ok (reply.Count n.0 modified.0, modified.1)

unfoldable pub rows_at : ℕ → List ℕ → Found OpReply
rows_at end bytes = do
  docs ← counted_at (document_at end) end bytes
  cut ← cut_at end docs.1
  Ok (reply.Rows docs.0 cut.0, cut.1)

unfoldable pub reply_at : ℕ → List ℕ → Found OpReply
reply_at end bytes = code_at (one_to 2) end bytes >>= λ kind. if kind.0 == 1
    then number_reply_at end kind.1 else rows_at end kind.1

abbrev pub what_of : ℕ → Option What
what_of byte =
    if byte == 1 then Some what.Duplicate
    else (if byte == 2 then Some what.NotNumber else (if byte == 3 then Some what.Overflow else
    (if byte == 4 then Some what.Immutable else (if byte == 5 then Some what.TooLarge else None))))

unfoldable pub op_err_at : ℕ → List ℕ → Found OpErr
op_err_at end bytes = do
  index ← number_of w32 end bytes
  id ← id_at end index.1
  what ← code_at what_of end id.1
  Ok (record { index = index.0; id = id.0; what = what.0 }, what.1)

unfoldable pub by_at : ℕ → List ℕ → Found By
by_at end bytes = code_at (one_to 2) end bytes >>= λ kind.
    if kind.0 == 1 then (tag_at end kind.1 >>= λ tag. Ok (by.Tag tag.0, tag.1))
    else (number_of w64 end kind.1 >>= λ at. Ok (by.At at.0, at.1))

unfoldable pub conflict_at : ℕ → List ℕ → Found Cause
conflict_at end bytes = do
  id ← id_at end bytes
  with ← by_at end id.1
  Ok (cause.WriteConflict id.0 with.0, with.1)

-- two numbers of a width
unfoldable pub pair_at : Width → (ℕ → ℕ → Cause) → ℕ → List ℕ → Found Cause
pair_at w make end bytes = do
  first ← number_of w end bytes
  second ← number_of w end first.1
  Ok (make first.0 second.0, second.1)

abbrev pub one_at : Width → (ℕ → Cause) → ℕ → List ℕ → Found Cause
one_at w make end bytes = number_of w end bytes >>= λ n. Ok (make n.0, n.1)

unfoldable pub replaced_at : ℕ → List ℕ → Found Cause
replaced_at end bytes = do
  number ← signed_at end bytes
  tag ← tag_at end number.1
  Ok (cause.Replaced number.0 tag.0, tag.1)

unfoldable pub voted_at : ℕ → List ℕ → Found Cause
voted_at end bytes = do
  shard ← number_of w16 end bytes
  code ← byte_at end shard.1
  Ok (cause.Voted shard.0 code.0, code.1)

-- the fields of the cause of this number
unfoldable pub cause_by : ℕ → ℕ → List ℕ → Found Cause
cause_by number end bytes =
    if number == 1 then conflict_at end bytes else
    (if number == 2 then pair_at w32 cause.Expired end bytes else
    (if number == 3 then (byte_at end bytes >>= λ why. Ok (cause.ClientAbort why.0, why.1)) else
    (if number == 4 then pair_at w32 cause.Unavailable end bytes else
    (if number == 5 then one_at w64 cause.Faulted end bytes else
    (if number == 6 then (op_err_at end bytes >>= λ err. Ok (cause.Statement err.0, err.1)) else
    (if number == 7 then replaced_at end bytes else
    (if number == 8 then one_at w64 cause.Volume end bytes else
    (if number == 9 then one_at w64 cause.ClockEnd end bytes else
    (if number == 10 then (tag_at end bytes >>= λ tag. Ok (cause.PreparedStands tag.0, tag.1)) else
    (if number == 11 then Ok (cause.TooManySessions, bytes) else
    (if number == 12 then voted_at end bytes else
    (if number == 13 then Ok (cause.Memory, bytes)
    else pair_at w64 cause.SnapshotTooOld end bytes))))))))))))

unfoldable pub cause_at : ℕ → List ℕ → Found Cause
cause_at end bytes = code_at (one_to 14) end bytes >>= λ number. cause_by number.0 end number.1

unfoldable pub answered_at : ℕ → List ℕ → Found (Result (OpReply × Bool) Cause)
answered_at end bytes = do
  answer ← reply_at end bytes
  wrote ← code_at flag_of end answer.1
  Ok (Ok (answer.0, wrote.0), wrote.1)

unfoldable pub outcome_at : ℕ → List ℕ → Found (Result (OpReply × Bool) Cause)
outcome_at end bytes = code_at flag_of end bytes >>= λ ok.
    if ok.0 then answered_at end ok.1 else (cause_at end ok.1 >>= λ c. Ok (Err c.0, c.1))

unfoldable pub vote_at : ℕ → List ℕ → Found (Result ℕ Cause)
vote_at end bytes = code_at flag_of end bytes >>= λ ok.
    if ok.0 then (number_of w64 end ok.1 >>= λ at. Ok (Ok at.0, at.1))
    else (cause_at end ok.1 >>= λ c. Ok (Err c.0, c.1))

unfoldable pub told_at : ℕ → List ℕ → Found Told
told_at end bytes = code_at (one_to 5) end bytes >>= λ kind.
    if kind.0 == 1 then (number_of w64 end kind.1 >>= λ at. Ok (told.Committed at.0, at.1)) else
    (if kind.0 == 2 then Ok (told.Released, kind.1) else
    (if kind.0 == 3 then (cause_at end kind.1 >>= λ c. Ok (told.Aborted c.0, c.1)) else
    (if kind.0 == 4 then (signed_at end kind.1 >>= λ have. Ok (told.TooOld have.0, have.1))
    else Ok (told.NoTrace, kind.1))))

-- Messages.

unfoldable pub statement_at : ℕ → List ℕ → Found Msg
statement_at end bytes = do
  named ← named_at end bytes
  k ← number_of w32 end named.1
  read_at ← number_of w64 end k.1
  boot ← number_of w32 end read_at.1
  op ← op_at end boot.1
  Ok (
    msg.Statement (record {
      tag = named.0.0;
      lsid = named.0.1;
      number = named.0.2;
      k = k.0;
      read_at = read_at.0;
      boot = boot.0;
      op = op.0;
    }),
    op.1,
  )

unfoldable pub answer_at : ℕ → List ℕ → Found Msg
answer_at end bytes = do
  tag ← tag_at end bytes
  k ← number_of w32 end tag.1
  shard ← number_of w16 end k.1
  boot ← number_of w32 end shard.1
  read_at ← number_of w64 end boot.1
  outcome ← outcome_at end read_at.1
  Ok (
    msg.Answer (record {
      tag = tag.0;
      k = k.0;
      shard = shard.0;
      boot = boot.0;
      read_at = read_at.0;
      outcome = outcome.0;
    }),
    outcome.1,
  )

-- a transaction, and the boot of the shard that it is sent to
unfoldable pub named_boot_at : ℕ → List ℕ → Found (Named × ℕ)
named_boot_at end bytes = do
  named ← named_at end bytes
  boot ← number_of w32 end named.1
  Ok ((named.0, boot.0), boot.1)

unfoldable pub commit_at : ℕ → List ℕ → Found Msg
commit_at end bytes = named_boot_at end bytes >>= λ x.
    Ok (msg.Commit (record { tag = x.0.0.0; lsid = x.0.0.1; number = x.0.0.2; boot = x.0.1 }), x.1)

unfoldable pub told_msg_at : ℕ → List ℕ → Found Msg
told_msg_at end bytes = do
  tag ← tag_at end bytes
  shard ← number_of w16 end tag.1
  boot ← number_of w32 end shard.1
  told ← told_at end boot.1
  Ok (msg.Outcome (record { tag = tag.0; shard = shard.0; boot = boot.0; told = told.0 }), told.1)

unfoldable pub abort_at : ℕ → List ℕ → Found Msg
abort_at end bytes = do
  named ← named_at end bytes
  why ← byte_at end named.1
  Ok (
    msg.Abort (record { tag = named.0.0; lsid = named.0.1; number = named.0.2; why = why.0 }),
    why.1,
  )

unfoldable pub commit_two_at : ℕ → List ℕ → Found Msg
commit_two_at end bytes = do
  x ← named_boot_at end bytes
  parts ← parts_at end x.1
  Ok (
    msg.CommitTwo
        (record { tag = x.0.0.0; lsid = x.0.0.1; number = x.0.0.2; boot = x.0.1; parts = parts.0 }),
    parts.1,
  )

unfoldable pub prepare_at : ℕ → List ℕ → Found Msg
prepare_at end bytes = do
  x ← named_boot_at end bytes
  coordinator ← number_of w16 end x.1
  Ok (
    msg.Prepare (record {
      tag = x.0.0.0;
      lsid = x.0.0.1;
      number = x.0.0.2;
      boot = x.0.1;
      coordinator = coordinator.0;
    }),
    coordinator.1,
  )

unfoldable pub vote_msg_at : ℕ → List ℕ → Found Msg
vote_msg_at end bytes = do
  tag ← tag_at end bytes
  shard ← number_of w16 end tag.1
  vote ← vote_at end shard.1
  Ok (msg.Vote (record { tag = tag.0; shard = shard.0; vote = vote.0 }), vote.1)

unfoldable pub decide_at : ℕ → List ℕ → Found Msg
decide_at end bytes = do
  named ← named_at end bytes
  decision ← decision_at end named.1
  Ok (
    msg.Decide
        (record { tag = named.0.0; lsid = named.0.1; number = named.0.2; decision = decision.0 }),
    decision.1,
  )

unfoldable pub acked_at : ℕ → List ℕ → Found Msg
acked_at end bytes = do
  tag ← tag_at end bytes
  shard ← number_of w16 end tag.1
  Ok (msg.Acked (record { tag = tag.0; shard = shard.0 }), shard.1)

unfoldable pub recover_at : ℕ → List ℕ → Found Msg
recover_at end bytes = named_boot_at end bytes >>= λ x.
    Ok (msg.Recover (record { tag = x.0.0.0; lsid = x.0.0.1; number = x.0.0.2; boot = x.0.1 }), x.1)

-- the message of this kind, from 1 to 12
unfoldable pub msg_by : ℕ → ℕ → List ℕ → Found Msg
msg_by kind end bytes =
    if kind == 1 then statement_at end bytes else
    (if kind == 2 then answer_at end bytes else
    (if kind == 3 then commit_at end bytes else
    (if kind == 4 then told_msg_at end bytes else
    (if kind == 5 then abort_at end bytes else
    (if kind == 6 then commit_two_at end bytes else
    (if kind == 7 then prepare_at end bytes else
    (if kind == 8 then vote_msg_at end bytes else
    (if kind == 9 then decide_at end bytes else
    (if kind == 10 then acked_at end bytes else
    (if kind == 11 then recover_at end bytes else Ok (msg.Nudge, bytes)))))))))))

-- Envelopes and batches.

-- nothing may be left
abbrev pub whole : {A : Type 0} → ℕ → A → List ℕ → Result A WireErr
whole end x [] = Ok x
whole end x (byte ∷ bytes) = Err (Field (place end (byte ∷ bytes)))

-- the envelope of this kind that is all of the bytes
unfoldable pub envelope_of : ℕ → ℕ → List ℕ → Result Envelope WireErr
envelope_of kind end bytes = do
  from ← node_at end bytes
  to ← node_at end from.1
  time ← number_of w64 end to.1
  m ← msg_by kind end time.1
  whole end (record { from = from.0; to = to.0; time = time.0; msg = m.0 }) m.1

-- the length of an envelope in a batch, after which its kind and as many bytes follow
unfoldable pub length_at : ℕ → List ℕ → Found ℕ
length_at end bytes = number_of w32 end bytes >>= λ n. if nat_lt n.0 (length n.1) then Ok n
    else Err (Field (place end bytes))

-- an envelope in a batch: the length of its bytes, its kind, and its bytes
unfoldable pub batched_at : ℕ → List ℕ → Found Envelope
batched_at end bytes = do
  n ← length_at end bytes
  kind ← code_at (one_to 12) end n.1
  e ← envelope_of kind.0 (place end (drop n.0 kind.1)) (take n.0 kind.1)
  Ok (e, drop n.0 kind.1)

unfoldable pub batch_of : List ℕ → Result (List Envelope) WireErr
batch_of bytes = counted_at (batched_at (length bytes)) (length bytes) bytes
    >>= λ x. whole (length bytes) x.0 x.1

-- Frames.

-- a number that isn't negative, and the bytes of a binary of subtype 0
abbrev pub kind_in : Value-F Value → Option ℕ
kind_in (of.Int (pos n)) = Some n
kind_in other = None

abbrev pub bytes_in : Value-F Value → Option (List ℕ)
bytes_in (of.Bin b) = if b.subtype == 0 then Some b.bytes else None
bytes_in other = None

-- the kind and the bytes that a body holds, where it has the three fields
abbrev pub content_by : Bool → Option ℕ → Option (List ℕ) → Option (ℕ × List ℕ)
content_by true (Some kind) (Some bytes) = Some (kind, bytes)
content_by other kind bytes = None

abbrev pub content_of : Document → Option (ℕ × List ℕ)
content_of (a ∷ b ∷ c ∷ []) =
    content_by (bytes_eq a.0 (codes "mtx") && bytes_eq b.0 (codes "$db") && bytes_eq c.0 (codes "b")
    && is_text (codes "mtx") (out-Value b.1))
    (kind_in (out-Value a.1)) (bytes_in (out-Value c.1))
content_of other = None

abbrev pub has_none : {A : Type 0} → List A → Bool
has_none [] = true
has_none (x ∷ xs) = false

-- the kind and the bytes that a message holds, where it is an OP_MSG without a sequence
abbrev pub content_in : Frame → Option (ℕ × List ℕ)
content_in f = if not f.legacy && has_none f.seqs then content_of f.body else None

abbrev pub or_not_internal : {A : Type 0} → Option A → Result A WireErr
or_not_internal None = Err NotInternal
or_not_internal (Some x) = Ok x

-- the envelope that a frame holds, and the batch
unfoldable pub envelope_in : Frame → Result Envelope WireErr
envelope_in f = do
  x ← or_not_internal (content_in f)
  kind ← or_not_internal (one_to 12 x.0)
  envelope_of kind (length x.1) x.1

unfoldable pub batch_in : Frame → Result (List Envelope) WireErr
batch_in f = do
  x ← or_not_internal (content_in f)
  if x.0 == 0 then batch_of x.1 else Err NotInternal
