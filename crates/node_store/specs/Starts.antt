-- The start of a shard's node from the records of its log.
use Rattle.std.specs.Prelude.{◌≡◌, ◌⊎◌, ◌<◌, ◌≤◌, ℕ, List, [], ◌∷◌, ◌++◌, length, Some, None}
use Rattle.journal_rec.specs.Follows.{first_refused}
use Rattle.journal_rec.specs.declared.record.Rec.{Rec}
use Rattle.shard_image.specs.Image.{Image, image_of}
use Rattle.shard_core.specs.NodeStep.{NodeState, boot_behind, started}
use Rattle.record_store.specs.Found.{FoundIn, HasBadBytes, HasBadRecord}
use Rattle.record_store.specs.declared.error.NodeErr.{NodeErr}
use Rattle.record_store.specs.declared.error.NodeErr.TheVariants.{DiskFault, BadJournal, Memory}

-- no boot is left after these records
abbrev pub HasNoBoot : List Rec → ℕ → Type 0
HasNoBoot recs index = (first_refused recs ≡ None) × (4294967294 ≤ (image_of recs).boot)
    × (index ≡ length recs)

-- the record of this number is the first that can't follow those before it, or no boot is left
abbrev pub HasBadOrder : List Rec → ℕ → Type 0
HasBadOrder recs index = (first_refused recs ≡ Some index) ⊎ HasNoBoot recs index

-- why a shard doesn't start from records
abbrev pub RefusesRecords : List Rec → NodeErr → Type 0
RefusesRecords recs DiskFault = Unit {0}
RefusesRecords recs (BadJournal index) = HasBadOrder recs index
RefusesRecords recs Memory = Unit {0}

-- a start of a log: each record can follow those before it, and the record of the next boot stands
-- after them
pub record Boots (old new : List Rec) (image : Image) : Type 0 where
  pub follow : first_refused old ≡ None
  pub left : (image_of old).boot < 4294967294
  pub records : new ≡ old ++ boot_behind (image_of old) ∷ []
  pub image_is : image ≡ image_of new

-- a node that started from the records of a file, where its disk tells
pub record StartsFrom (shard : ℕ) (told : Type 0) (file : List ℕ) (n : NodeState) : Type 0 where
  pub recs : List Rec
  pub found : FoundIn told file recs
  pub starts : started shard recs n.faults ≡ Some n

-- the records of a file don't follow one another
pub record HasBadRecords (file : List ℕ) (index : ℕ) : Type 0 where
  pub recs : List Rec
  pub found : FoundIn (Unit {0}) file recs
  pub order : HasBadOrder recs index

-- why a shard doesn't start from a file
abbrev pub RefusesStart : Type 0 → List ℕ → NodeErr → Type 0
RefusesStart told file DiskFault = Unit {0}
RefusesStart told file (BadJournal index) = told
    → HasBadBytes file index ⊎ HasBadRecord file index ⊎ HasBadRecords file index
RefusesStart told file Memory = Unit {0}
