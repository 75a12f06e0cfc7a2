use Rattle.std.proofs.Common.{[], ◌∙◌, sym}
use Rattle.version_store.proofs.Groups.{versions_in, group_found, group_absent}
use Rattle.version_store.proofs.store.Store.versions.Goals as goal

pub returns-in-Some : goal.returns-in-Some
returns-in-Some c =
    let ns = c.args.ns.now in
    let groups = c.self.inside.collections.entries in
    c.versions.ensures
    ∙ versions_in ns c.args.id.now c.in-Some.collection.now groups
    c.args.self.now c.self.view_is c.self.invariant.rises
    (group_found ns c.in-Some.collection.now groups (sym c.in-Some.ensures.value))

pub returns-in-None : goal.returns-in-None
returns-in-None c =
    let ns = c.args.ns.now in
    let groups = c.self.inside.collections.entries in
    versions_in ns c.args.id.now [] groups c.args.self.now c.self.view_is c.self.invariant.rises
    (group_absent ns groups (sym c.in-None.ensures.value))
