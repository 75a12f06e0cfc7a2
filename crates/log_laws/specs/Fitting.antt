-- Records whose every field fits its bytes.
use Rattle.std.specs.Prelude.{List, [], ◌∷◌, Option, Some, None}
use Rattle.journal_rec.specs.declared.record.Rec.{Rec}
use Rattle.record_laws.specs.Fits.{RecordFits}

abbrev pub AllFit : List Rec → Type 0
AllFit [] = Unit {0}
AllFit (r ∷ recs) = RecordFits r × AllFit recs

-- so does the record in hand, where there is one
abbrev pub HandFits : Option Rec → Type 0
HandFits None = Unit {0}
HandFits (Some r) = RecordFits r
