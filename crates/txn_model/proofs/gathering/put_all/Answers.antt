use Rattle.write_sets.proofs.Merges.{kept_at}
use Rattle.txn_model.proofs.gathering.put_all.Goals as goal

pub put-requires : goal.put-requires
put-requires c = kept_at c.args.more.now c.loop-write.write-index c.write-item.result c.requires
    c.loop-write-test.true c.write-item.is
