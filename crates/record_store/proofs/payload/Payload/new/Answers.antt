use Rattle.std.proofs.Common.{arith}
use Rattle.std.proofs.lemmas.List.{drop_all}
use Rattle.record_store.proofs.payload.Payload.new.Goals as goal

pub returns : goal.returns
returns c = drop_all 64 c.in_ok-bytes.bytes.items (omega (arith, c.in_ok-bytes.ensures))
