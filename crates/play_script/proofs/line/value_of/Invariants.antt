use Rattle.std.proofs.Common.{◌≡◌, ◌<◌, ◌^◌, drop}
use Rattle.std.specs.Prelude.{fold}
use Rattle.play_script.specs.Lines.{with_digit, value_of}
use Rattle.play_script.proofs.line.value_of.Given as goal

abbrev pub invariant-loop-digit : goal.invariant-loop-digit
invariant-loop-digit l = (l.number < 2 ^ 64)
    × (fold with_digit l.number (drop l.digit-index l.digits) ≡ value_of l.digits)
