use Rattle.std.proofs.Common.{◌≡◌, [], sym, ap, ◌∙◌}
use Rattle.std.proofs.lemmas.Bool.{eqb-true}
use Rattle.std.proofs.lemmas.List.{nil_from_length}
use Rattle.play_script.specs.Lines.{lines_of}
use Rattle.play_script.proofs.LineParts.{lines_of-nil}
use Rattle.cluster_play.proofs.Fronts.{gathered}
use Rattle.cluster_play.proofs.front.enclosed.Goals as goal

pub returns : goal.returns
returns c =
    let nil : c.loop-rest.rest.now ≡ [] = nil_from_length c.loop-rest.rest.now (eqb-true _ _
    (sym c.is_empty.ensures ∙ c.loop-rest-test.false)) in
    sym (ap (gathered c.loop-rest.text.items c.loop-rest.taken) (ap lines_of nil ∙ lines_of-nil))
    ∙ c.loop-rest.invariant.found
