use Rattle.std.proofs.Common.{◌≡◌, ℕ, List, [], Ok, sym, ap, subst, ◌∙◌}
use Rattle.std.proofs.lemmas.Bool.{eqb-true}
use Rattle.std.proofs.lemmas.List.{nil_from_length}
use Rattle.play_script.specs.Lines.{lines_of}
use Rattle.play_script.proofs.LineParts.{lines_of-nil}
use Rattle.cluster_play.specs.Schedule.{Schedule, Gives, unmarked, schedule_of}
use Rattle.cluster_play.proofs.front.front_of.Goals as goal

pub returns-then-is_empty-clause-front : goal.returns-then-is_empty-clause-front
returns-then-is_empty-clause-front c =
    let nil : c.args.lines.now ≡ [] = nil_from_length c.args.lines.now (eqb-true _ _
    (sym c.is_empty.ensures ∙ c.if-is_empty.true)) in
    let none : lines_of c.args.lines.now ≡ [] = ap lines_of nil ∙ lines_of-nil in
    subst (λ (ls : List (List ℕ)). Gives (λ (f : Schedule). f) c.unmarked.result (schedule_of ls))
    (sym none) (subst (λ (ls : List (List ℕ)). Gives (λ (f : Schedule). f) c.unmarked.result
    (Ok (unmarked ls))) none c.unmarked.ensures.front)
