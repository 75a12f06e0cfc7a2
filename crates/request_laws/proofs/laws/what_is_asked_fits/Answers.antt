use Rattle.std.proofs.Common.{arith}
use Rattle.request_laws.proofs.Requests.{frame_read, op_fits}
use Rattle.request_laws.proofs.laws.what_is_asked_fits.Goals as goal

pub returns : goal.returns
returns c s bytes frame o fits read asks =
    op_fits s frame o asks (frame_read bytes frame (λ i. omega (arith, fits i)) read)
