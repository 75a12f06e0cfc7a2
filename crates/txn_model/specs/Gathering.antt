-- What participants prepared, gathered one by one. It stands between the code's parts.
use Rattle.std.specs.Prelude.{List, [], ◌∷◌, ◌++◌, Some}
use Rattle.std.specs.Option.{option_or}
use Rattle.txn_model.specs.Commits.{Prepared}
use Rattle.txn_model.specs.declared.gathering.Share.{Share}

abbrev pub with_prepared : Share → Prepared → Share
with_prepared s p =
    record { read_at = option_or s.read_at (Some p.read_at); writes = s.writes ++ p.writes }

abbrev pub gathered : Share → List Prepared → Share
gathered s [] = s
gathered s (p ∷ ps) = gathered (with_prepared s p) ps
