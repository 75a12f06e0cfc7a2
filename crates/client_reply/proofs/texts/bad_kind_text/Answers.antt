use Rattle.std.proofs.Common.{arith, false}
use Rattle.std.proofs.lemmas.Fmt.{hex_byte}
use Rattle.client_reply.proofs.texts.bad_kind_text.Goals as goal

pub returns : goal.returns
returns c = rw (
  c.laid_out.ensures,
  c.in_radix.ensures,
  hex_byte false c.args.byte (omega (arith, c.ranges.byte.fits)),
) at c.format.ensures.ok
