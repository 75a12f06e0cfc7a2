-- Parts of a text one after the other.
use Rattle.std.proofs.Common.{◌≡◌, List, ◌++◌, append_assoc}

pub append_append : {A : Type 0} (first second third : List A)
    → first ++ second ++ third ≡ first ++ (second ++ third)
append_append first second third = append_assoc first second third
