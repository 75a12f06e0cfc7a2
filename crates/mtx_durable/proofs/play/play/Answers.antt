use Rattle.std.specs.Prelude.{IsTrue}
use Rattle.mtx_durable.proofs.Playing.{played_as_read}
use Rattle.mtx_durable.proofs.play.play.Goals as goal

pub returns-in-Ok-clause-played : goal.returns-in-Ok-clause-played
returns-in-Ok-clause-played g c =
    played_as_read ((d : g.row.D.Denot) → IsTrue (g.D.Disk.tells d))
    (g.S.Source.left c.args.src.now) c.in-Ok.input.bytes.items c.in-Ok.input.end
    (g.K.Sink.held c.args.out.now) (g.K.Sink.held c.play_input.new.out)
    c.play_input.result c.in-Ok.ensures.read c.play_input.ensures.ended
