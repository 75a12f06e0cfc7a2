-- A machine of one flag: a call may set it, and a call may ask for it.
use Rattle.std.specs.Prelude.{Bool, true, false}
use Rattle.lock_tests.specs.declared.flag.Ask.{Ask}
use Rattle.lock_tests.specs.declared.flag.Ask.TheVariants.{Wait, Set}
use Rattle.lock_tests.specs.declared.flag.Told.{Told}
use Rattle.lock_tests.specs.declared.flag.Told.TheVariants.{Held, Passed}

-- the flag after a call
abbrev pub flag_after : Bool → Ask → Bool
flag_after flag Set = true
flag_after flag Wait = flag

-- what a call is told
abbrev pub told_of : Bool → Told
told_of true = Passed
told_of false = Held
