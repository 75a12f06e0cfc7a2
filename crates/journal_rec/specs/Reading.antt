-- Reading a record front to back, as functions on lists: a field and the bytes after it, or the
-- first fault, with its place. `end` is how many bytes the record has, so the bytes that are left
-- begin at the place `end - length bytes`.
use Rattle.std.specs.Prelude.{ℕ, ℤ, zero, suc, ◌+◌, ◌-◌, ◌==◌, ◌&&◌, Bool, true, false, not, List}
use Rattle.std.specs.Prelude.{[], ◌∷◌, ◌++◌, length, take, drop, position, nat_lt, slice_get}
use Rattle.std.specs.Prelude.{Option, Some, None, Result, Ok, Err, if◌then◌else◌}
use Rattle.std.specs.List.{position_or_len, before_first, after_first}
use Rattle.std.specs.Int.{Width, w16, w32, w64, cast_signed}
use Rattle.std.specs.Ordering.{is_lt}
use Rattle.std.specs.Str.{is_utf8}
use Rattle.outcomes.specs.Bind.{◌>>=◌}
use Rattle.bson_core.specs.declared.error.BsonErr.{BsonErr}
use Rattle.bson_core.specs.declared.value.Value.{Value}
use Rattle.bson_core.specs.declared.value.Value.TheOpen as of
use Rattle.bson_core.specs.declared.value.Value.TheOpen.{Value-F}
use Rattle.bson_core.specs.declared.value.Value.TheViews.{out-Value}
use Rattle.bson_core.specs.Fields.{Document}
use Rattle.bson_core.specs.Reading.{number_at, document_of}
use Rattle.txn_types.specs.Ids.{id_in}
use Rattle.txn_types.specs.Names.{is_database, is_collection}
use Rattle.txn_types.specs.declared.decision.Decision.{Decision}
use Rattle.txn_types.specs.declared.decision.Decision.TheVariants as decision
use Rattle.txn_types.specs.declared.id.Id.{Id}
use Rattle.txn_types.specs.declared.names.Tag.{Tag}
use Rattle.txn_types.specs.declared.node.Lsid.{Lsid}
use Rattle.txn_types.specs.declared.node.Lsid.TheVariants.{Client, Own}
use Rattle.txn_types.specs.declared.write.Write.{Write}
use Rattle.txn_types.specs.declared.write.Write.TheVariants.{Put, Delete}
use Rattle.txn_semantics.specs.Writes.{place_of, place_cmp}
use Rattle.journal_rec.specs.Errors.{from_document}
use Rattle.journal_rec.specs.declared.error.RecErr.{RecErr}
use Rattle.journal_rec.specs.declared.error.RecErr.TheVariants.{Kind, Short, Extra, Field, Bson}
use Rattle.journal_rec.specs.declared.error.RecErr.TheVariants.{Order}
use Rattle.journal_rec.specs.declared.record.Decided.{Decided}
use Rattle.journal_rec.specs.declared.record.Rec.{Rec}
use Rattle.journal_rec.specs.declared.record.Rec.TheVariants as rec

-- a field and the bytes after it, or the first fault
abbrev pub Found : Type 0 → Type 0
Found A = Result (A × List ℕ) RecErr

-- where the bytes begin
abbrev pub place : ℕ → List ℕ → ℕ
place end bytes = end - length bytes

-- what was found; else the bytes end before the field does
abbrev pub or_short : {A : Type 0} → Option A → Result A RecErr
or_short None = Err Short
or_short (Some x) = Ok x

-- Numbers and bytes.

abbrev pub byte_at : List ℕ → Found ℕ
byte_at [] = Err Short
byte_at (byte ∷ bytes) = Ok (byte, bytes)

abbrev pub number_of : Width → List ℕ → Found ℕ
number_of w bytes = or_short (number_at w bytes)

abbrev pub signed_at : List ℕ → Found ℤ
signed_at bytes = number_of w64 bytes >>= λ n. Ok (cast_signed w64 n.0, n.1)

-- so many bytes
unfoldable pub bytes_at : ℕ → List ℕ → Found (List ℕ)
bytes_at n bytes = if nat_lt (length bytes) n then Err Short else Ok (take n bytes, drop n bytes)

-- so many zeros: the first byte that is none is the fault
abbrev pub zeros_by : ℕ → Option ℕ → List ℕ → Result (List ℕ) RecErr
zeros_by at None rest = Ok rest
zeros_by at (Some n) rest = Err (Field (at + n))

unfoldable pub zeros_at : ℕ → ℕ → List ℕ → Result (List ℕ) RecErr
zeros_at end n bytes =
    bytes_at n bytes >>= λ x. zeros_by (place end bytes) (position (λ b. not (b == 0)) x.0) x.1

-- Fields.

unfoldable pub tag_at : List ℕ → Found Tag
tag_at bytes = do
  router ← number_of w16 bytes
  boot ← number_of w32 router.1
  serial ← number_of w64 boot.1
  Ok (record { router = router.0; boot = boot.0; serial = serial.0 }, serial.1)

unfoldable pub client_at : List ℕ → Found Lsid
client_at bytes = bytes_at 16 bytes >>= λ x. Ok (Client x.0, x.1)

unfoldable pub own_at : ℕ → List ℕ → Found Lsid
own_at end bytes = do
  router ← number_of w16 bytes
  boot ← number_of w32 router.1
  conn ← number_of w32 boot.1
  rest ← zeros_at end 6 conn.1
  Ok (Own router.0 boot.0 conn.0, rest)

-- a session: another first byte than 0 and 1 is a fault
unfoldable pub lsid_at : ℕ → List ℕ → Found Lsid
lsid_at end bytes = do
  kind ← byte_at bytes
  if kind.0 == 0 then client_at kind.1
      else (if kind.0 == 1 then own_at end kind.1 else Err (Field (place end bytes)))

-- the transaction that a record is of
abbrev pub Named : Type 0
Named = Tag × Lsid × ℤ

unfoldable pub named_at : ℕ → List ℕ → Found Named
named_at end bytes = do
  tag ← tag_at bytes
  lsid ← lsid_at end tag.1
  number ← signed_at lsid.1
  Ok ((tag.0, lsid.0, number.0), number.1)

unfoldable pub commit_at : ℕ → List ℕ → Found Decision
commit_at end bytes = do
  at ← number_of w64 bytes
  rest ← zeros_at end 3 at.1
  Ok (decision.Commit at.0, rest)

unfoldable pub abort_at : ℕ → List ℕ → Found Decision
abort_at end bytes = do
  rest ← zeros_at end 8 bytes
  shard ← number_of w16 rest
  code ← byte_at shard.1
  Ok (decision.Abort shard.0 code.0, code.1)

-- a decision: another first byte than 1 and 2 is a fault
unfoldable pub decision_at : ℕ → List ℕ → Found Decision
decision_at end bytes = do
  kind ← byte_at bytes
  if kind.0 == 1 then commit_at end kind.1
      else (if kind.0 == 2 then abort_at end kind.1 else Err (Field (place end bytes)))

unfoldable pub part_at : List ℕ → Found (ℕ × ℕ)
part_at bytes = do
  shard ← number_of w16 bytes
  boot ← number_of w32 shard.1
  Ok ((shard.0, boot.0), boot.1)

-- so many participants more, after those in front
unfoldable pub parts_at : ℕ → List (ℕ × ℕ) → List ℕ → Found (List (ℕ × ℕ))
parts_at zero front bytes = Ok (front, bytes)
parts_at (suc n) front bytes = part_at bytes >>= λ part. parts_at n (front ++ part.0 ∷ []) part.1

-- Writes.

-- a text of a database's name, a full stop and a collection's name
abbrev pub is_namespace : List ℕ → Bool
is_namespace bytes =
    is_utf8 bytes && nat_lt (position_or_len (λ b. b == 46) bytes) (length bytes)
    && is_database (before_first (λ b. b == 46) bytes)
    && is_collection (after_first (λ b. b == 46) bytes)

-- a namespace; the fault of one that is none stands at its write's first byte
unfoldable pub namespace_at : ℕ → List ℕ → Found (List ℕ)
namespace_at end bytes = do
  count ← number_of w16 bytes
  name ← bytes_at count.0 count.1
  if is_namespace name.0 then Ok name else Err (Field (place end bytes))

abbrev pub as_record : {A : Type 0} → ℕ → Result A BsonErr → Result A RecErr
as_record at (Ok x) = Ok x
as_record at (Err e) = Err (from_document at e)

-- a document, in as many bytes as its count says; a count is an int32 that isn't negative
unfoldable pub document_at : ℕ → List ℕ → Found Document
document_at end bytes = do
  count ← number_of w32 bytes
  if nat_lt 2147483647 count.0 then Err (Bson (place end bytes)) else
      (if nat_lt (length bytes) count.0 then Err Short else
      (as_record (place end bytes) (document_of 2147483647 (take count.0 bytes))
      >>= λ doc. Ok (doc, drop count.0 bytes)))

-- the document is its id alone, and a number is an int64
abbrev pub is_int : Value-F Value → Bool
is_int (of.Int n) = true
is_int other = false

abbrev pub is_id_alone : Document → Bool
is_id_alone [] = false
is_id_alone (field ∷ []) = not (is_int (out-Value field.1))
is_id_alone (field ∷ other ∷ fields) = false

-- the write of a document: a 1 puts it, a 0 deletes what has its id; the document's fault stands at
-- its first byte
abbrev pub write_by : ℕ → List ℕ → ℕ → Document → Option Id → Result Write RecErr
write_by at ns kind doc None = Err (Field at)
write_by at ns kind doc (Some id) = if kind == 1 then Ok (Put ns id doc)
    else (if is_id_alone doc then Ok (Delete ns id) else Err (Field at))

unfoldable pub content_at : ℕ → List ℕ → ℕ → List ℕ → Found Write
content_at end ns kind bytes = do
  doc ← document_at end bytes
  write ← write_by (place end bytes) ns kind doc.0 (id_in doc.0)
  Ok (write, doc.1)

unfoldable pub write_at : ℕ → List ℕ → Found Write
write_at end bytes = do
  ns ← namespace_at end bytes
  kind ← byte_at ns.1
  if nat_lt 1 kind.0 then Err (Field (place end ns.1)) else content_at end ns.0 kind.0 kind.1

-- the write is above the last, by namespace and id
abbrev pub is_above : Option Write → Write → Bool
is_above None write = true
is_above (Some last) write = is_lt (place_cmp (place_of last) (place_of write))

abbrev pub last_of : List Write → Option Write
last_of writes = slice_get writes (length writes - 1)

-- one write more after those in front; the fault of one that isn't above the last stands at its
-- first byte
unfoldable pub next_write_at : ℕ → List Write → List ℕ → Found (List Write)
next_write_at end front bytes = do
  write ← write_at end bytes
  if is_above (last_of front) write.0 then Ok (front ++ write.0 ∷ [], write.1)
      else Err (Order (place end bytes))

-- so many writes more
unfoldable pub each_write_at : ℕ → ℕ → List Write → List ℕ → Found (List Write)
each_write_at zero end front bytes = Ok (front, bytes)
each_write_at (suc n) end front bytes =
    next_write_at end front bytes >>= λ x. each_write_at n end x.0 x.1

unfoldable pub writes_at : ℕ → List ℕ → Found (List Write)
writes_at end bytes = number_of w32 bytes >>= λ count. each_write_at count.0 end [] count.1

-- Records, without their kind.

unfoldable pub boot_at : List ℕ → Found Rec
boot_at bytes = number_of w32 bytes >>= λ boot. Ok (rec.Boot boot.0, boot.1)

unfoldable pub ceiling_at : List ℕ → Found Rec
ceiling_at bytes = number_of w64 bytes >>= λ bound. Ok (rec.Ceiling bound.0, bound.1)

unfoldable pub committed_at : ℕ → List ℕ → Found Rec
committed_at end bytes = do
  named ← named_at end bytes
  read_at ← number_of w64 named.1
  at ← number_of w64 read_at.1
  writes ← writes_at end at.1
  Ok (rec.Commit named.0.0 named.0.1 named.0.2 read_at.0 at.0 writes.0, writes.1)

-- boot, read timestamp, prepare timestamp and coordinator of a prepared transaction
abbrev pub Preparing : Type 0
Preparing = ℕ × ℕ × ℕ × ℕ

unfoldable pub preparing_at : List ℕ → Found Preparing
preparing_at bytes = do
  boot ← number_of w32 bytes
  read_at ← number_of w64 boot.1
  at ← number_of w64 read_at.1
  coordinator ← number_of w16 at.1
  Ok ((boot.0, read_at.0, at.0, coordinator.0), coordinator.1)

unfoldable pub prepared_at : ℕ → List ℕ → Found Rec
prepared_at end bytes = do
  named ← named_at end bytes
  p ← preparing_at named.1
  writes ← writes_at end p.1
  Ok (rec.Prepared named.0.0 named.0.1 named.0.2 p.0.0 p.0.1 p.0.2 p.0.3 writes.0, writes.1)

-- filled up with zeros to 64 bytes in all
unfoldable pub decided_at : ℕ → List ℕ → Found Rec
decided_at end bytes = do
  named ← named_at end bytes
  decision ← decision_at end named.1
  rest ← zeros_at end 12 decision.1
  Ok (
    rec.Decided
        (record { tag = named.0.0; lsid = named.0.1; number = named.0.2; decision = decision.0 }),
    rest,
  )

unfoldable pub coord_start_at : ℕ → List ℕ → Found Rec
coord_start_at end bytes = do
  named ← named_at end bytes
  count ← number_of w16 named.1
  parts ← parts_at count.0 [] count.1
  Ok (rec.CoordStart named.0.0 named.0.1 named.0.2 parts.0, parts.1)

unfoldable pub coord_decision_at : ℕ → List ℕ → Found Rec
coord_decision_at end bytes = do
  tag ← tag_at bytes
  decision ← decision_at end tag.1
  Ok (rec.CoordDecision tag.0 decision.0, decision.1)

unfoldable pub coord_end_at : List ℕ → Found Rec
coord_end_at bytes = tag_at bytes >>= λ tag. Ok (rec.CoordEnd tag.0, tag.1)

unfoldable pub floor_at : List ℕ → Found Rec
floor_at bytes = number_of w64 bytes >>= λ floor. Ok (rec.Floor floor.0, floor.1)

-- a record of this kind
unfoldable pub fields_at : ℕ → ℕ → List ℕ → Found Rec
fields_at kind end bytes =
    if kind == 1 then boot_at bytes else
    (if kind == 2 then ceiling_at bytes else
    (if kind == 3 then committed_at end bytes else
    (if kind == 4 then prepared_at end bytes else
    (if kind == 5 then decided_at end bytes else
    (if kind == 6 then coord_start_at end bytes else
    (if kind == 7 then coord_decision_at end bytes else
    (if kind == 8 then coord_end_at bytes else
    (if kind == 9 then floor_at bytes else Err (Kind kind)))))))))

-- nothing may be left
abbrev pub if_whole : ℕ → Rec → List ℕ → Result Rec RecErr
if_whole end r [] = Ok r
if_whole end r (byte ∷ bytes) = Err (Extra (place end (byte ∷ bytes)))

-- the record that is all of the bytes, or its first fault
unfoldable pub record_of : List ℕ → Result Rec RecErr
record_of bytes = do
  kind ← byte_at bytes
  r ← fields_at kind.0 (length bytes) kind.1
  if_whole (length bytes) r.0 r.1
