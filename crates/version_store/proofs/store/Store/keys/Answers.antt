use Rattle.version_store.specs.Versions.{keys_of}
use Rattle.version_store.proofs.Written.{keys_on}
use Rattle.version_store.proofs.store.Store.keys.Goals as goal

pub loop-ns-preserved : goal.loop-ns-preserved
loop-ns-preserved c =
    let tag = c.args.tag in
    keys_on tag c.loop-ns.keys.items c.add_keys.new.keys.items (keys_of tag c.args.self.now)
    (c.in-Some.ns.now, c.in-Some.collection.now) c.next.new.self c.loop-ns.ns-iterator
    c.in-Some.ensures.steps c.in_ok-add_keys.ensures
    c.loop-ns.invariant
