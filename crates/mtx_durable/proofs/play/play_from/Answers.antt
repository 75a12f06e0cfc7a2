use Rattle.std.proofs.Common.{ap, IsTrue}
use Rattle.outside_core.specs.Memory.{Feed}
use Rattle.mtx_durable.proofs.Playing.{played_as_given}
use Rattle.mtx_durable.proofs.play.play_from.Goals as goal

pub returns-clause-played : goal.returns-clause-played
returns-clause-played g c =
    played_as_given ((d : g.row.D.Denot) → IsTrue (g.D.Disk.tells d))
    (g.I.Read.remaining c.args.from.now) (g.K.Sink.held c.args.out.now) (g.K.Sink.held c.play.new.out)
    c.of-source.result.left c.read_to_end.new.buf.items c.new-bytes.result.items c.play.result
    (ap (λ (s : Feed). s.left) c.of-source.ensures) c.new-bytes.ensures.items c.in_default.ensures.bytes
    c.play.ensures.played
