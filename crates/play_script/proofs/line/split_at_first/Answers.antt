use Rattle.std.proofs.lemmas.List.{take_rest}
use Rattle.play_script.proofs.LineCuts.{lacks_from_none, first_from_some}
use Rattle.play_script.proofs.line.split_at_first.Goals as goal

pub returns-in_err-at : goal.returns-in_err-at
returns-in_err-at c =
    rw c.from_residual.ensures (lacks_from_none c.args.byte c.args.bytes.now c.in_err-at.ensures)

pub returns : goal.returns
returns c =
    let first = first_from_some c.args.byte c.args.bytes.now c.in_ok-at.at c.in_ok-at.ensures in
    (rw take_rest first.parts, first.front)
