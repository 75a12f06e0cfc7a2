-- Why a record isn't taken.
use Rattle.std.specs.Prelude.{◌≡◌, ℕ, Bool, false, Option, Some}
use Rattle.shard_image.specs.declared.image.ImageErr.{ImageErr}
use Rattle.shard_image.specs.declared.image.ImageErr.TheVariants.{BadOrder, Memory}

-- the record can't follow, and so many came before it; or there was no memory
abbrev pub IsRefused : Bool → ℕ → ImageErr → Type 0
IsRefused follows count (BadOrder index) = (follows ≡ false) × (index ≡ count)
IsRefused follows count Memory = Unit {0}

-- the first that can't follow those before it stands at this place; or there was no memory
abbrev pub IsRefusedAt : Option ℕ → ImageErr → Type 0
IsRefusedAt refused (BadOrder index) = refused ≡ Some index
IsRefusedAt refused Memory = Unit {0}
