-- The journal of a router, which has the records of its boots alone.
use Rattle.std.specs.Prelude.{◌≡◌, ◌⊎◌, ◌≤◌, ℕ, ◌+◌, Bool, true, false, ◌&&◌, List, [], ◌∷◌, length}
use Rattle.std.specs.Prelude.{Option, Some, None, nat_lt, unwrap_or, if◌then◌else◌}
use Rattle.journal_rec.specs.declared.record.Rec.{Rec}
use Rattle.journal_rec.specs.declared.record.Rec.TheVariants as rec
use Rattle.record_store.specs.Found.{FoundIn, HasBadBytes, HasBadRecord}
use Rattle.record_store.specs.declared.error.NodeErr.{NodeErr}
use Rattle.record_store.specs.declared.error.NodeErr.TheVariants.{DiskFault, BadJournal, Memory}

abbrev pub is_above : ℕ → Option ℕ → Bool
is_above boot None = true
is_above boot (Some last) = nat_lt last boot

-- a boot above the last one, and below 4,294,967,295
abbrev pub is_next : Option ℕ → Rec → Bool
is_next last (rec.Boot boot) = is_above boot last && nat_lt boot 4294967295
is_next last other = false

abbrev pub boot_after : Option ℕ → Rec → Option ℕ
boot_after last (rec.Boot boot) = Some boot
boot_after last other = last

-- the number of the first record that isn't a next boot
abbrev pub first_refused_from : ℕ → Option ℕ → List Rec → Option ℕ
first_refused_from index last [] = None
first_refused_from index last (r ∷ recs) = if is_next last r
    then first_refused_from (index + 1) (boot_after last r) recs else Some index

abbrev pub first_refused : List Rec → Option ℕ
first_refused recs = first_refused_from 0 None recs

abbrev pub boot_behind : Option ℕ → List Rec → Option ℕ
boot_behind last [] = last
boot_behind last (r ∷ recs) = boot_behind (boot_after last r) recs

-- the last boot; 0 where there was none
abbrev pub last_boot : List Rec → ℕ
last_boot recs = unwrap_or (boot_behind None recs) 0

abbrev pub next_boot : List Rec → ℕ
next_boot recs = last_boot recs + 1

-- the journal of a router at this boot: boots that rise, of which this is the last
pub record AreBoots (recs : List Rec) (boot : ℕ) : Type 0 where
  pub follow : first_refused recs ≡ None
  pub last : last_boot recs ≡ boot

-- the record of this number is the first that isn't a next boot, or no boot is left
abbrev pub HasBadBoots : List Rec → ℕ → Type 0
HasBadBoots recs index = (first_refused recs ≡ Some index)
    ⊎ ((first_refused recs ≡ None) × (4294967294 ≤ last_boot recs) × (index ≡ length recs))

-- why a router doesn't start from records
abbrev pub RefusesBoots : List Rec → NodeErr → Type 0
RefusesBoots recs DiskFault = Unit {0}
RefusesBoots recs (BadJournal index) = HasBadBoots recs index
RefusesBoots recs Memory = Unit {0}

-- the records of a file aren't those of boots
pub record HasOtherRecords (file : List ℕ) (index : ℕ) : Type 0 where
  pub recs : List Rec
  pub found : FoundIn (Unit {0}) file recs
  pub boots : HasBadBoots recs index

-- why a router doesn't start from a file
abbrev pub RefusesRouter : Type 0 → List ℕ → NodeErr → Type 0
RefusesRouter told file DiskFault = Unit {0}
RefusesRouter told file (BadJournal index) = told
    → HasBadBytes file index ⊎ HasBadRecord file index ⊎ HasOtherRecords file index
RefusesRouter told file Memory = Unit {0}
