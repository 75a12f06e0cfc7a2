-- A log of records on a disk, as contracts see it.
use Rattle.std.specs.Prelude.{◌≡◌, ◌⊎◌, ℕ, Bool, false, IsTrue, List, [], ◌∷◌, Option, Some, None}
use Rattle.std.specs.Prelude.{is_some, Ok}
use Rattle.journal_rec.specs.Reading.{record_of}
use Rattle.journal_rec.specs.Spelling.{record_bytes}
use Rattle.journal_rec.specs.declared.record.Rec.{Rec}
use Rattle.journal_core.specs.Left.{Leaves}
use Rattle.journal_core.specs.State.{JournalState}

-- the journal, the records that it holds, the one that an append which failed had in hand, and for
-- how many more there is memory
pub record DiskRecords (D : Type 0) : Type 0 where
  pub journal : JournalState D
  pub records : List Rec
  pub hand : Option Rec
  pub room : ℕ

abbrev pub listed : Option Rec → List Rec
listed None = []
listed (Some r) = r ∷ []

-- the payload that is in hand
abbrev pub payload_in : Option Rec → List ℕ
payload_in None = []
payload_in (Some r) = record_bytes r

-- a payload is read as this record, or was written of it
abbrev pub IsOf : List ℕ → Rec → Type 0
IsOf payload r = (record_of payload ≡ Ok r) ⊎ (payload ≡ record_bytes r)

-- payloads are those of records, one of each
abbrev pub AreOf : List (List ℕ) → List Rec → Type 0
AreOf [] [] = Unit {0}
AreOf [] (r ∷ recs) = ⊥
AreOf (payload ∷ payloads) [] = ⊥
AreOf (payload ∷ payloads) (r ∷ recs) = IsOf payload r × AreOf payloads recs

-- a crash leaves the payloads of these records, or these and the one in hand
pub record LeftOf (may_leave : List ℕ → Type 0) (recs : List Rec) (hand : Option Rec) : Type 0 where
  pub payloads : List (List ℕ)
  pub are : AreOf payloads recs
  pub left : (c : List ℕ) → may_leave c → Leaves payloads (payload_in hand) c

-- While no append failed, the payloads of the journal are those of the records.
pub record IsLogged (tells : Bool) (may_leave : List ℕ → Type 0) (frames : List (List ℕ))
    (closed : Bool) (recs : List Rec) (hand : Option Rec) : Type 0 where
  pub failed : closed ≡ is_some hand
  pub held : IsTrue tells → closed ≡ false → AreOf frames recs
  pub left : IsTrue tells → LeftOf may_leave recs hand
