-- A schedule whose last line is empty doesn't come to its end: that line asks nothing, so it is a
-- bad one.
use Rattle.std.proofs.Common.{◌≡◌, ℕ, List, [], ◌∷◌, Option, Some, None, refl, sym, ap, subst, ◌∙◌}
use Rattle.play_script.specs.Lines.{read_of, line_of}
use Rattle.play_script.specs.declared.line.Line.{Line}
use Rattle.play_script.specs.declared.line.Line.TheVariants as line
use Rattle.play_steps.specs.declared.want.Want.{Want}
use Rattle.play_steps.specs.declared.want.Want.TheVariants as want
use Rattle.play_steps.specs.Player.{Player}
use Rattle.play_steps.specs.Lines.{Next, done_if, did_next, from_lines, next}
use Rattle.play_steps.proofs.Keeping.{Grants, AllAre, LineAsks, AskedFor, IsKept, IsNext}
use Rattle.play_steps.proofs.Keeping.{bad_line, good_line, next_on}

abbrev pub EndEmpty : List (List ℕ) → Type 0
EndEmpty [] = ⊥
EndEmpty (l ∷ []) = l ≡ []
EndEmpty (l ∷ m ∷ lines) = EndEmpty (m ∷ lines)

abbrev pub IsNoEnd : Want → Type 0
IsNoEnd want.End = ⊥
IsNoEnd other = Unit {0}

granted : Grants IsNoEnd
granted = record { event = λ node happening. tt; deliver = λ number. tt; spent = tt }

-- an empty line asks nothing
empty_line : line_of [] ≡ None
unfolding read_of
empty_line = refl

bad_on : (dump l : List ℕ) (p : Player) (lines : Player → Next) → l ≡ []
    → IsNext EndEmpty IsNoEnd (did_next p (done_if dump p (line_of l)) lines)
bad_on dump l p lines is =
    let none : line_of l ≡ None = ap line_of is ∙ empty_line in
    subst (λ (o : Option Line). IsNext EndEmpty IsNoEnd (did_next p (done_if dump p o) lines))
    (sym none) tt

line_asks : (l : Line) → LineAsks IsNoEnd l
line_asks (line.Restart node) = tt
line_asks other = tt

asked_for : (o : Option Line) → AskedFor IsNoEnd o
asked_for None = tt
asked_for (Some l) = line_asks l

from_on : (dump : List ℕ) (lines : List (List ℕ)) (p : Player) → EndEmpty lines
    → AllAre IsNoEnd p.queue → IsNext EndEmpty IsNoEnd (from_lines dump lines p)
from_on dump [] p ends all = absurd ends
from_on dump (l ∷ []) p ends all =
    bad_line EndEmpty IsNoEnd dump l [] p (λ q f. bad_on dump l q f ends)
from_on dump (l ∷ m ∷ lines) p ends all =
    good_line EndEmpty IsNoEnd granted dump l (m ∷ lines) p ends all (asked_for (line_of l))
    (λ q on. from_on dump (m ∷ lines) q ends on.1)

pub never_ends : (dump : List ℕ) (p : Player) → IsKept EndEmpty IsNoEnd p
    → IsNext EndEmpty IsNoEnd (next dump p)
never_ends dump p on = next_on EndEmpty IsNoEnd granted dump (from_on dump) p on
