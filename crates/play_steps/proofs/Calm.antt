-- A schedule without a restart brings none.
use Rattle.std.proofs.Common.{◌≡◌, ℕ, Bool, true, false, cond, List, [], ◌∷◌, ◌++◌, length, drop}
use Rattle.std.proofs.Common.{nat_le, Option, Some, None, Result, Ok, Err, refl, sym, ap, subst, ◌∙◌}
use Rattle.std.specs.Prelude.{nat_eq, codes, ◌&&◌}
use Rattle.std.specs.List.{list_all, starts_with}
use Rattle.std.proofs.lemmas.Bool.Decides.{Decides-eqb}
use Rattle.std.proofs.lemmas.Slice.Eq.{starts_is}
use Rattle.play_script.specs.Lines.{asked_by, asked_in, mapped, read_of, line_of, words_ask}
use Rattle.play_script.specs.declared.line.Line.{Line}
use Rattle.play_script.specs.declared.line.Line.TheVariants as line
use Rattle.play_script.specs.declared.line.LineErr.{LineErr}
use Rattle.play_script.specs.declared.line.LineErr.TheVariants.{Form}
use Rattle.play_script.proofs.Cuts.{pieces_at, first_piece}
use Rattle.play_steps.specs.declared.want.Want.{Want}
use Rattle.play_steps.specs.declared.want.Want.TheVariants as want
use Rattle.play_steps.specs.Player.{Player}
use Rattle.play_steps.specs.Lines.{AsksNoRestart, HaveNoRestart, from_lines, next}
use Rattle.play_steps.proofs.Keeping.{Grants, AllAre, LineAsks, AskedFor, IsKept, IsNext}
use Rattle.play_steps.proofs.Keeping.{good_line, next_on}

abbrev pub IsNoRenew : Want → Type 0
IsNoRenew (want.Renew node) = ⊥
IsNoRenew other = Unit {0}

granted : Grants IsNoRenew
granted = record { event = λ node happening. tt; deliver = λ number. tt; spent = tt }

line_asks : (l : Line) → AsksNoRestart (Some l) → LineAsks IsNoRenew l
line_asks (line.Restart node) calm = calm
line_asks other calm = tt

asked_for : (o : Option Line) → AsksNoRestart o → AskedFor IsNoRenew o
asked_for None calm = tt
asked_for (Some l) calm = line_asks l calm

from_on : (dump : List ℕ) (lines : List (List ℕ)) (p : Player) → HaveNoRestart lines
    → AllAre IsNoRenew p.queue → IsNext HaveNoRestart IsNoRenew (from_lines dump lines p)
from_on dump [] p calm all = tt
from_on dump (l ∷ lines) p calm all =
    good_line HaveNoRestart IsNoRenew granted dump l lines p calm.1 all
    (asked_for (line_of l) calm.0) (λ q on. from_on dump lines q calm.1 on.1)

pub stays_calm : (dump : List ℕ) (p : Player) → IsKept HaveNoRestart IsNoRenew p
    → IsNext HaveNoRestart IsNoRenew (next dump p)
stays_calm dump p on = next_on HaveNoRestart IsNoRenew granted dump (from_on dump) p on

-- Lines of clients.

abbrev NoRestart : Result Line LineErr → Type 0
NoRestart r = AsksNoRestart (asked_by r)

client_bytes : (r : Result (ℕ × List ℕ) LineErr)
    → NoRestart (mapped (λ (a : ℕ × List ℕ). line.Client a.0 a.1) r)
client_bytes (Ok a) = tt
client_bytes (Err why) = tt

-- the first word says it
client_words : (words : List (List ℕ)) → NoRestart (words_ask (codes "client" ∷ words))
client_words [] = tt
client_words (first ∷ []) = tt
client_words (first ∷ second ∷ []) = client_bytes (asked_in first second)
client_words (first ∷ second ∷ third ∷ words) = tt

short_on : (b : Bool) (r : Result Line LineErr) → NoRestart r → NoRestart (cond b r (Err Form))
short_on true r on = on
short_on false r on = tt

client_line : (l : List ℕ) → starts_with nat_eq l (codes "client ") ≡ true
    → AsksNoRestart (line_of l)
unfolding read_of
client_line l begins =
    let rest = drop 7 l in
    let parts : l ≡ codes "client " ++ rest =
    (starts_is Decides-eqb l (codes "client ") (starts_with nat_eq l (codes "client ")) refl).0
    begins in
    let words : pieces_at 32 l ≡ codes "client" ∷ pieces_at 32 rest =
    ap (pieces_at 32) parts ∙ first_piece 32 (codes "client") rest refl in
    short_on (nat_le (length l) 100000000) (words_ask (pieces_at 32 l))
    (subst (λ (w : List (List ℕ)). NoRestart (words_ask w)) (sym words)
    (client_words (pieces_at 32 rest)))

both_true : (a b : Bool) → (a && b) ≡ true → (a ≡ true) × (b ≡ true)
both_true true b is = (refl, is)
both_true false b is = absurd (cc)

pub clients_are_calm : (lines : List (List ℕ))
    → list_all (λ l. starts_with nat_eq l (codes "client ")) lines ≡ true → HaveNoRestart lines
clients_are_calm [] is = tt
clients_are_calm (l ∷ lines) is =
    let parts = both_true (starts_with nat_eq l (codes "client "))
    (list_all (λ (x : List ℕ). starts_with nat_eq x (codes "client ")) lines) is in
    (client_line l parts.0, clients_are_calm lines parts.1)
