use Rattle.std.proofs.Common.{◌∙◌, ap, arith}
use Rattle.std.proofs.lemmas.List.{length-take}
use Rattle.play_script.specs.Lines.{lines_of}
use Rattle.play_script.proofs.LineParts.{lines_of-ended, lines_of-whole}
use Rattle.play_script.proofs.line.next_line.Goals as goal

pub returns-in-Some-clause-parts : goal.returns-in-Some-clause-parts
returns-in-Some-clause-parts c = ap lines_of c.in-Some.ensures.0
    ∙ lines_of-ended _ _ c.in-Some.ensures.1

pub returns-in-None-clause-parts : goal.returns-in-None-clause-parts
returns-in-None-clause-parts c =
    lines_of-whole _ _ c.in-None.ensures c.requires (simp length-take (omega arith))
