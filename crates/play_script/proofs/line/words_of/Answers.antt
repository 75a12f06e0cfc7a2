use Rattle.std.proofs.Common.{◌∷◌, List, ℕ, ap, ◌∙◌}
use Rattle.play_script.proofs.Cuts.{pieces_at, one_piece, first_piece}
use Rattle.play_script.proofs.line.words_of.Goals as goal

pub returns-in_default : goal.returns-in_default
returns-in_default c = one_piece 32 c.args.line.now c.in_default.ensures

pub returns-in-None : goal.returns-in-None
returns-in-None c =
    ap (pieces_at 32) c.in-Some.ensures.0
    ∙ first_piece 32 c.in-Some.first.now c.in-Some.rest.now c.in-Some.ensures.1
    ∙ ap (λ (ps : List (List ℕ)). c.in-Some.first.now ∷ ps)
    (one_piece 32 c.in-Some.rest.now c.in-None.ensures)
