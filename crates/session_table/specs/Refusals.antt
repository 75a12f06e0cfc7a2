-- What a refused transaction is told.
use Rattle.std.specs.Prelude.{◌≡◌, Option, Some, None}
use Rattle.session_table.specs.declared.session.SessionErr.{SessionErr}
use Rattle.session_table.specs.declared.session.SessionErr.TheVariants.{TooOld, InUse}
use Rattle.session_table.specs.declared.session.SessionErr.TheVariants.{PreparedStands, TooMany}
use Rattle.session_table.specs.declared.session.SessionErr.TheVariants.{Memory}

-- it is the refusal that there is, or there is none and no memory
abbrev pub IsRefused : Option SessionErr → SessionErr → Type 0
IsRefused why Memory = why ≡ None
IsRefused why (TooOld number have) = why ≡ Some (TooOld number have)
IsRefused why (InUse tag) = why ≡ Some (InUse tag)
IsRefused why (PreparedStands tag) = why ≡ Some (PreparedStands tag)
IsRefused why TooMany = why ≡ Some TooMany
