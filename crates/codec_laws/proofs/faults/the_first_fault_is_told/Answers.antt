use Rattle.std.proofs.Common.{arith}
use Rattle.codec_laws.proofs.Exactly.{exactly_first}
use Rattle.codec_laws.proofs.faults.the_first_fault_is_told.Goals as goal

pub returns : goal.returns
returns c = exactly_first c.args.bytes.now (λ i. omega (arith, c.type_inv.bytes i))
