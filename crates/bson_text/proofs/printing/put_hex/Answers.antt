use Rattle.std.proofs.Common.{arith, false, get_or}
use Rattle.std.proofs.lemmas.Fmt.{hex_byte}
use Rattle.std.proofs.lemmas.Grind.{common_steps}
use Rattle.bson_text.proofs.printing.put_hex.Goals as goal

pub loop-byte-preserved : goal.loop-byte-preserved
loop-byte-preserved c =
    let place = c.loop-byte.byte-index in
    let digits =
    hex_byte false (get_or c.args.bytes.now place 0) (omega (arith, c.type_inv.bytes place)) in
    let wrote =
    rw (c.laid_out.ensures, c.in_radix.ensures, digits) at c.in_ok-write.ensures.bytes in
    grind (arith, common_steps, wrote)
