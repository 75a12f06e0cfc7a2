use Rattle.std.proofs.Common.{take}
use Rattle.std.specs.Int.{w16, w32, w64, to_le_bytes}
use Rattle.journal_rec.specs.Spelling.{tag_bytes}
use Rattle.journal_rec.proofs.Fronts.{three_put}
use Rattle.journal_rec.proofs.fixed.put_tag.Goals as goal

pub returns-clause-front : goal.returns-clause-front
unfolding tag_bytes
returns-clause-front c =
    let tag = c.args.tag in
    three_put (take c.args.at c.args.out.now) _ _ _ c.to_le_bytes.result c.to_le_bytes-2.result
    c.to_le_bytes-3.result (to_le_bytes w16 tag.router) (to_le_bytes w32 tag.boot)
    (to_le_bytes w64 tag.serial)
    c.put-boot.ensures.front c.put-serial.ensures.front c.put.ensures.front c.to_le_bytes.ensures
    c.to_le_bytes-2.ensures c.to_le_bytes-3.ensures
