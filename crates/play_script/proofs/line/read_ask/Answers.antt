use Rattle.std.proofs.Common.{ap, ◌≡◌, Ok, ◌∙◌}
use Rattle.play_script.specs.declared.line.Line.TheVariants.{Client}
use Rattle.play_script.specs.Lines.{asked_by, read_of}
use Rattle.play_script.proofs.Asked.{short_of}
use Rattle.play_script.proofs.line.read_ask.Goals as goal

pub returns-in-Client-clause-ok : goal.returns-in-Client-clause-ok
returns-in-Client-clause-ok c =
    let read : read_of c.args.line.now ≡ Ok (Client c.in-Client.conn c.in-Client.bytes) =
    c.in_ok-asked.ensures ∙ ap Ok c.in-Client.is in
    record { form = ap asked_by read; short = short_of c.args.line.now _ read }
