use Rattle.node_store.proofs.Cutting.{on_err, cut_first}
use Rattle.node_store.proofs.appending.append_all.Goals as goal

pub returns-in_err-append-clause-err : goal.returns-in_err-append-clause-err
returns-in_err-append-clause-err g c =
    on_err c.from_residual.result _ (
    cut_first c.args.ceiling _ c.args.then (g.L.RecordLog.kept c.args.log.now)
    (g.L.RecordLog.kept c.append.new.self) (g.L.RecordLog.lost c.append.new.self) c.in-Some.is
    c.in_err-append.ensures.err.0 c.in_err-append.ensures.err.1
    )
