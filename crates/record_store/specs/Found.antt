-- What a start finds in the file of a journal.
use Rattle.std.specs.Prelude.{◌≡◌, ◌⊎◌, ◌<◌, ℕ, ◌+◌, List, [], ◌∷◌, Result, Ok, Err}
use Rattle.journal_core.specs.Frames.{payloads_of}
use Rattle.journal_core.specs.Starts.{Walked}
use Rattle.journal_rec.specs.Reading.{record_of}
use Rattle.journal_rec.specs.declared.error.RecErr.{RecErr}
use Rattle.journal_rec.specs.declared.record.Rec.{Rec}
use Rattle.record_store.specs.Logged.{DiskRecords}
use Rattle.record_store.specs.declared.error.NodeErr.{NodeErr}
use Rattle.record_store.specs.declared.error.NodeErr.TheVariants.{DiskFault, BadJournal, Memory}

abbrev pub in_front : Rec → Result (List Rec) ℕ → Result (List Rec) ℕ
in_front r (Ok recs) = Ok (r ∷ recs)
in_front r (Err index) = Err index

-- what was read at a place, in front of what follows
abbrev pub read_then : ℕ → Result Rec RecErr → Result (List Rec) ℕ → Result (List Rec) ℕ
read_then index (Ok r) following = in_front r following
read_then index (Err e) following = Err index

-- the records that payloads are, from this number on; or the number of the first payload that is
-- none
abbrev pub records_from : ℕ → List (List ℕ) → Result (List Rec) ℕ
records_from index [] = Ok []
records_from index (payload ∷ payloads) =
    read_then index (record_of payload) (records_from (index + 1) payloads)

abbrev pub records_of : List (List ℕ) → Result (List Rec) ℕ
records_of payloads = records_from 0 payloads

-- these records were read; where the disk tells, from the payloads of this file
pub record FoundIn (told : Type 0) (file : List ℕ) (recs : List Rec) : Type 0 where
  pub payloads : List (List ℕ)
  pub file_has : told → payloads_of file ≡ Ok payloads
  pub are : records_of payloads ≡ Ok recs

-- these records were read; where the disk tells, from these payloads
pub record ReadFrom (told : Type 0) (frames : List (List ℕ)) (recs : List Rec) : Type 0 where
  pub payloads : List (List ℕ)
  pub same : told → payloads ≡ frames
  pub are : records_of payloads ≡ Ok recs

-- so many whole frames stand in front of the byte at fault; none, where it is in the header
abbrev pub StandBefore : List ℕ → ℕ → ℕ → Type 0
StandBefore file at index = ((at < 16) × (index ≡ 0)) ⊎ Walked file index at

abbrev pub HasBadBytes : List ℕ → ℕ → Type 0
HasBadBytes file index = (at : ℕ) × (payloads_of file ≡ Err at) × StandBefore file at index

-- the payload of this number is the first that is no record
abbrev pub HasBadRecord : List ℕ → ℕ → Type 0
HasBadRecord file index = (payloads : List (List ℕ)) × (payloads_of file ≡ Ok payloads)
    × (records_of payloads ≡ Err index)

-- why the records of a file aren't read
abbrev pub RefusesFile : Type 0 → List ℕ → NodeErr → Type 0
RefusesFile told file DiskFault = Unit {0}
RefusesFile told file (BadJournal index) = told → HasBadBytes file index ⊎ HasBadRecord file index
RefusesFile told file Memory = Unit {0}

-- why payloads aren't read as records
abbrev pub RefusesPayloads : List (List ℕ) → NodeErr → Type 0
RefusesPayloads payloads DiskFault = ⊥
RefusesPayloads payloads (BadJournal index) = records_of payloads ≡ Err index
RefusesPayloads payloads Memory = Unit {0}

-- why the payloads of a journal aren't read
abbrev pub RefusesFrames : Type 0 → List (List ℕ) → NodeErr → Type 0
RefusesFrames told frames DiskFault = Unit {0}
RefusesFrames told frames (BadJournal index) = told → records_of frames ≡ Err index
RefusesFrames told frames Memory = Unit {0}

-- why a payload isn't read as a record
abbrev pub RefusesPayload : ℕ → List ℕ → NodeErr → Type 0
RefusesPayload number payload DiskFault = ⊥
RefusesPayload number payload (BadJournal index) = (index ≡ number) × (e : RecErr)
    × (record_of payload ≡ Err e)
RefusesPayload number payload Memory = Unit {0}

-- the disk of a log that started, or the one that was given back
abbrev pub disk_in : {D : Type 0} → Result (DiskRecords D) (NodeErr × D) → D
disk_in (Ok log) = log.journal.disk
disk_in (Err refused) = refused.1
