use Rattle.std.proofs.Common.{sym}
use Rattle.std.proofs.lemmas.Result.{err_from_is_err_and}
use Rattle.play_script.proofs.Hexed.{refused}
use Rattle.play_script.proofs.line.bytes_in.Goals as goal

pub returns-in_err-decode : goal.returns-in_err-decode
returns-in_err-decode c =
    let told = err_from_is_err_and c.from_residual.result c.from_residual.ensures.1 in
    rw (told.1, told.2) (refused c.args.digits.now c.in_err-decode.field-0.0
    (sym c.if-is_empty.ensures) c.in_err-decode.ensures.err)
