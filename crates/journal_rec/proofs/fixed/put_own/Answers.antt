use Rattle.std.proofs.Common.{take}
use Rattle.std.specs.Int.{w16, w32, to_le_bytes}
use Rattle.journal_rec.specs.Spelling.{own_bytes}
use Rattle.journal_rec.proofs.Fronts.{three_put}
use Rattle.journal_rec.proofs.fixed.put_own.Goals as goal

pub returns-clause-front : goal.returns-clause-front
unfolding own_bytes
returns-clause-front c =
    three_put (take c.args.at c.args.out.now) _ _ _ c.to_le_bytes.result c.to_le_bytes-2.result
    c.to_le_bytes-3.result (to_le_bytes w16 c.args.router) (to_le_bytes w32 c.args.boot)
    (to_le_bytes w32 c.args.conn)
    c.put-second.ensures.front c.put-third.ensures.front c.put.ensures.front c.to_le_bytes.ensures
    c.to_le_bytes-2.ensures c.to_le_bytes-3.ensures
