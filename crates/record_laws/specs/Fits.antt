-- What fits the fields of a record: a number its bytes, a client's session 16 bytes.
use Rattle.std.specs.Prelude.{◌≡◌, ◌<◌, ◌≤◌, ◌^◌, ℕ, true, List, [], ◌∷◌, Option, Some, None}
use Rattle.std.specs.Prelude.{length, FitsSigned}
use Rattle.std.specs.Int.{w64}
use Rattle.std.specs.List.{All}
use Rattle.std.specs.Str.{is_utf8}
use Rattle.bson_core.specs.Fields.{Document}
use Rattle.bson_core.specs.Nesting.{nesting}
use Rattle.bson_core.specs.Spelling.{spelling}
use Rattle.bson_core.specs.Written.{IsFieldWritten}
use Rattle.txn_types.specs.declared.decision.Decision.{Decision}
use Rattle.txn_types.specs.declared.decision.Decision.TheVariants as decision
use Rattle.txn_types.specs.Ids.{id_in, id_document}
use Rattle.txn_types.specs.declared.id.Id.{Id}
use Rattle.txn_types.specs.declared.id.Id.TheVariants as kinds
use Rattle.txn_types.specs.declared.names.Tag.{Tag}
use Rattle.txn_types.specs.declared.node.Lsid.{Lsid}
use Rattle.txn_types.specs.declared.node.Lsid.TheVariants.{Client, Own}
use Rattle.txn_types.specs.declared.write.Write.{Write}
use Rattle.txn_types.specs.declared.write.Write.TheVariants.{Put, Delete}
use Rattle.journal_rec.specs.declared.record.Rec.{Rec}
use Rattle.journal_rec.specs.declared.record.Rec.TheVariants as rec
use Rattle.journal_rec.specs.Reading.{is_namespace, is_above}

abbrev pub TagFits : Tag → Type 0
TagFits tag = (tag.router < 2 ^ 16) × (tag.boot < 2 ^ 32) × (tag.serial < 2 ^ 64)

abbrev pub LsidFits : Lsid → Type 0
LsidFits (Client bytes) = length bytes ≡ 16
LsidFits (Own router boot conn) = (router < 2 ^ 16) × (boot < 2 ^ 32) × (conn < 2 ^ 32)

-- the number of a cause is a byte
abbrev pub DecisionFits : Decision → Type 0
DecisionFits (decision.Commit at) = at < 2 ^ 64
DecisionFits (decision.Abort shard code) = (shard < 2 ^ 16) × (code < 2 ^ 8)

-- a participant's shard and boot
abbrev pub PartFits : ℕ × ℕ → Type 0
PartFits part = (part.0 < 2 ^ 16) × (part.1 < 2 ^ 32)

-- the fields that a document's type has, 100 levels at most, and a count that is an int32
abbrev pub DocumentFits : Document → Type 0
DocumentFits doc = All IsFieldWritten doc × (nesting doc ≤ 100)
    × (length (spelling doc) ≤ 2147483647)

abbrev pub IdFits : Id → Type 0
IdFits (kinds.Num n) = FitsSigned w64 n
IdFits (kinds.Text t) = is_utf8 t ≡ true
IdFits (kinds.Bin b) = Unit {0}
IdFits (kinds.Oid bytes) = length bytes ≡ 12
IdFits (kinds.Bool b) = Unit {0}
IdFits (kinds.Date n) = FitsSigned w64 n

-- a namespace, and a document that stands under its own id; or an id
abbrev pub WriteFits : Write → Type 0
WriteFits (Put ns id doc) = (is_namespace ns ≡ true) × (length ns < 2 ^ 16) × DocumentFits doc
    × (id_in doc ≡ Some id)
WriteFits (Delete ns id) = (is_namespace ns ≡ true) × (length ns < 2 ^ 16) × IdFits id
    × (length (spelling (id_document id)) ≤ 2147483647)

-- each write is above the one before it
abbrev pub Rise : Option Write → List Write → Type 0
Rise last [] = Unit {0}
Rise last (write ∷ writes) = (is_above last write ≡ true) × Rise (Some write) writes

abbrev pub WritesFit : List Write → Type 0
WritesFit writes = (length writes < 2 ^ 32) × All WriteFits writes × Rise None writes

-- a record whose every field fits
abbrev pub RecordFits : Rec → Type 0
RecordFits (rec.Boot boot) = boot < 2 ^ 32
RecordFits (rec.Ceiling bound) = bound < 2 ^ 64
RecordFits (rec.Commit tag lsid number read_at at writes) = TagFits tag × LsidFits lsid
    × FitsSigned w64 number × (read_at < 2 ^ 64) × (at < 2 ^ 64) × WritesFit writes
RecordFits (rec.Prepared tag lsid number boot read_at at coordinator writes) =
    TagFits tag × LsidFits lsid × FitsSigned w64 number × (boot < 2 ^ 32) × (read_at < 2 ^ 64)
    × (at < 2 ^ 64) × (coordinator < 2 ^ 16) × WritesFit writes
RecordFits (rec.Decided d) = TagFits d.tag × LsidFits d.lsid × FitsSigned w64 d.number
    × DecisionFits d.decision
RecordFits (rec.CoordStart tag lsid number parts) = TagFits tag × LsidFits lsid
    × FitsSigned w64 number × (length parts < 2 ^ 16) × All PartFits parts
RecordFits (rec.CoordDecision tag decision) = TagFits tag × DecisionFits decision
RecordFits (rec.CoordEnd tag) = TagFits tag
RecordFits (rec.Floor floor) = floor < 2 ^ 64
