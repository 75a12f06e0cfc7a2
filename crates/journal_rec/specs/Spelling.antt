-- The bytes of records: a kind and fields, all numbers little-endian. A layout of this project.
use Rattle.std.specs.Prelude.{ℕ, ℤ, List, [], ◌∷◌, ◌++◌, length}
use Rattle.std.specs.Int.{w16, w32, w64, to_le_bytes, cast_unsigned}
use Rattle.txn_types.specs.declared.decision.Decision.{Decision}
use Rattle.txn_types.specs.declared.decision.Decision.TheVariants as decision
use Rattle.txn_types.specs.declared.names.Tag.{Tag}
use Rattle.txn_types.specs.declared.node.Lsid.{Lsid}
use Rattle.txn_types.specs.declared.node.Lsid.TheVariants.{Client, Own}
use Rattle.journal_rec.specs.Volume.{writes_bytes}
use Rattle.journal_rec.specs.declared.record.Decided.{Decided}
use Rattle.journal_rec.specs.declared.record.Rec.{Rec}
use Rattle.journal_rec.specs.declared.record.Rec.TheVariants as rec

-- router, boot and serial: 14 bytes
unfoldable pub tag_bytes : Tag → List ℕ
tag_bytes tag = to_le_bytes w16 tag.router ++ to_le_bytes w32 tag.boot ++ to_le_bytes w64 tag.serial

-- router, boot and connection: 10 bytes
unfoldable pub own_bytes : ℕ → ℕ → ℕ → List ℕ
own_bytes router boot conn = to_le_bytes w16 router ++ to_le_bytes w32 boot ++ to_le_bytes w32 conn

-- a 0 and the 16 bytes of a client's session; or a 1, the numbers of an own one, and 6 zeros: 17
-- bytes
unfoldable pub lsid_bytes : Lsid → List ℕ
lsid_bytes (Client bytes) = 0 ∷ bytes
lsid_bytes (Own router boot conn) = 1 ∷ own_bytes router boot conn ++ 0 ∷ 0 ∷ 0 ∷ 0 ∷ 0 ∷ 0 ∷ []

unfoldable pub number_bytes : ℤ → List ℕ
number_bytes number = to_le_bytes w64 (cast_unsigned w64 number)

-- the transaction that a record is of: 39 bytes
abbrev pub named_bytes : Tag → Lsid → ℤ → List ℕ
named_bytes tag lsid number = tag_bytes tag ++ lsid_bytes lsid ++ number_bytes number

-- a 1, the time and three zeros; or a 2, eight zeros, the shard and the number of the cause: 12
-- bytes
unfoldable pub decision_bytes : Decision → List ℕ
decision_bytes (decision.Commit at) = 1 ∷ to_le_bytes w64 at ++ 0 ∷ 0 ∷ 0 ∷ []
decision_bytes (decision.Abort shard code) =
    2 ∷ 0 ∷ 0 ∷ 0 ∷ 0 ∷ 0 ∷ 0 ∷ 0 ∷ 0 ∷ to_le_bytes w16 shard ++ code ∷ []

-- a shard and its boot: 6 bytes
unfoldable pub part_bytes : ℕ × ℕ → List ℕ
part_bytes part = to_le_bytes w16 part.0 ++ to_le_bytes w32 part.1

abbrev pub each_part_bytes : List (ℕ × ℕ) → List ℕ
each_part_bytes [] = []
each_part_bytes (part ∷ parts) = part_bytes part ++ each_part_bytes parts

unfoldable pub time_bytes : ℕ → List ℕ
time_bytes at = to_le_bytes w64 at

-- boot, read timestamp, prepare timestamp and coordinator of a prepared transaction
abbrev pub preparing_bytes : ℕ → ℕ → ℕ → ℕ → List ℕ
preparing_bytes boot read_at at coordinator =
    to_le_bytes w32 boot ++ time_bytes read_at ++ time_bytes at ++ to_le_bytes w16 coordinator

-- filled up with zeros to 64 bytes
abbrev pub twelve_zeros : List ℕ
twelve_zeros = 0 ∷ 0 ∷ 0 ∷ 0 ∷ 0 ∷ 0 ∷ 0 ∷ 0 ∷ 0 ∷ 0 ∷ 0 ∷ 0 ∷ []

abbrev pub decided_bytes : Decided → List ℕ
decided_bytes d = 5 ∷ named_bytes d.tag d.lsid d.number ++ decision_bytes d.decision ++ twelve_zeros

-- the one spelling of a record
abbrev pub record_bytes : Rec → List ℕ
record_bytes (rec.Boot boot) = 1 ∷ to_le_bytes w32 boot
record_bytes (rec.Ceiling bound) = 2 ∷ time_bytes bound
record_bytes (rec.Commit tag lsid number read_at at writes) =
    3 ∷ named_bytes tag lsid number ++ (time_bytes read_at ++ time_bytes at) ++ writes_bytes writes
record_bytes (rec.Prepared tag lsid number boot read_at at coordinator writes) =
    4 ∷ named_bytes tag lsid number ++ preparing_bytes boot read_at at coordinator
    ++ writes_bytes writes
record_bytes (rec.Decided d) = decided_bytes d
record_bytes (rec.CoordStart tag lsid number parts) =
    6 ∷ named_bytes tag lsid number ++ (to_le_bytes w16 (length parts) ++ each_part_bytes parts)
record_bytes (rec.CoordDecision tag decision) = 7 ∷ tag_bytes tag ++ decision_bytes decision
record_bytes (rec.CoordEnd tag) = 8 ∷ tag_bytes tag
record_bytes (rec.Floor floor) = 9 ∷ time_bytes floor

-- A record's bytes in two parts: what stands in front, at most 64 bytes, and the writes or the
-- participants after it.

abbrev pub parts_bytes : List (ℕ × ℕ) → List ℕ
parts_bytes parts = to_le_bytes w16 (length parts) ++ each_part_bytes parts

abbrev pub front_bytes : Rec → List ℕ
front_bytes (rec.Boot boot) = 1 ∷ to_le_bytes w32 boot
front_bytes (rec.Ceiling bound) = 2 ∷ time_bytes bound
front_bytes (rec.Commit tag lsid number read_at at writes) =
    3 ∷ named_bytes tag lsid number ++ (time_bytes read_at ++ time_bytes at)
front_bytes (rec.Prepared tag lsid number boot read_at at coordinator writes) =
    4 ∷ named_bytes tag lsid number ++ preparing_bytes boot read_at at coordinator
front_bytes (rec.Decided d) = decided_bytes d
front_bytes (rec.CoordStart tag lsid number parts) = 6 ∷ named_bytes tag lsid number
front_bytes (rec.CoordDecision tag decision) = 7 ∷ tag_bytes tag ++ decision_bytes decision
front_bytes (rec.CoordEnd tag) = 8 ∷ tag_bytes tag
front_bytes (rec.Floor floor) = 9 ∷ time_bytes floor

abbrev pub body_bytes : Rec → List ℕ
body_bytes (rec.Commit tag lsid number read_at at writes) = writes_bytes writes
body_bytes (rec.Prepared tag lsid number boot read_at at coordinator writes) = writes_bytes writes
body_bytes (rec.CoordStart tag lsid number parts) = parts_bytes parts
body_bytes other = []
