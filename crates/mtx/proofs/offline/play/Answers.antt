use Rattle.std.proofs.Common.{sym, ◌∙◌}
use Rattle.std.specs.Prelude.{IsTrue}
use Rattle.mtx.proofs.Playing.{played_as_read, read_to_end, ends_ok}
use Rattle.mtx.proofs.offline.play.Goals as goal

pub returns-in-Ok-clause-played : goal.returns-in-Ok-clause-played
returns-in-Ok-clause-played g c =
    played_as_read ((d : g.row.D.Denot) → IsTrue (g.D.Disk.tells d))
    (g.S.Source.left c.args.src.now) c.in-Ok.input.bytes.items c.in-Ok.input.end
    (g.K.Sink.held c.args.out.now) (g.K.Sink.held c.play_input.new.out) c.from.result
    c.play_input.result c.in-Ok.ensures.read c.from.ensures c.play_input.ensures.ended

pub returns-in-Ok-clause-at_end : goal.returns-in-Ok-clause-at_end
returns-in-Ok-clause-at_end g c = λ ok.
    read_to_end (g.S.Source.left c.args.src.now) (g.S.Source.left c.read_input.new.src)
    c.in-Ok.input.bytes.items c.in-Ok.input.end c.in-Ok.ensures.read c.in-Ok.ensures.at_end
    (λ whole. c.play_input.ensures.whole whole
    (ends_ok c.play_input.result (sym c.from.ensures ∙ ok)))
