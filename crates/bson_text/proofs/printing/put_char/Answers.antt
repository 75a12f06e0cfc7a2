use Rattle.std.proofs.Common.{arith}
use Rattle.std.proofs.lemmas.Grind.{common_steps}
use Rattle.bson_text.proofs.Escapes.{escaped_char}
use Rattle.bson_text.proofs.printing.put_char.Goals as goal

pub returns-in_default : goal.returns-in_default
returns-in_default c =
    let plain = escaped_char c.args.c (omega arith) (λ is. omega arith) (λ is. omega arith) in
    grind (arith, common_steps, plain)
