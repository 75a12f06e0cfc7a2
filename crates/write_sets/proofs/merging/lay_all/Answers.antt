use Rattle.write_sets.proofs.Merges.{kept_at}
use Rattle.write_sets.proofs.merging.lay_all.Goals as goal

pub lay-requires : goal.lay-requires
lay-requires c = kept_at c.args.writes.now c.loop-write.write-index c.write-item.result c.requires
    c.loop-write-test.true c.write-item.is
