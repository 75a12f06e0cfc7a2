use Rattle.std.proofs.Common.{[], Ok, ap, sym, ◌∙◌}
use Rattle.std.specs.Option.{option_copied}
use Rattle.version_store.proofs.Groups.{scan_nested, group_found, group_absent}
use Rattle.version_store.proofs.store.Store.scan.Goals as goal

pub returns-in-Some-clause-rows : goal.returns-in-Some-clause-rows
returns-in-Some-clause-rows c =
    let ns = c.args.ns.now in
    let groups = c.self.inside.collections.entries in
    let docs = c.in-Some.collection.now in
    let same = scan_nested ns (option_copied c.args.ids) c.args.at c.args.tag docs groups
    c.args.self.now c.self.view_is c.self.invariant.rises (group_found ns docs groups
    (sym c.in-Some.ensures.value)) in
    rw same c.scan.ensures.rows

pub returns-in-Some-clause-held : goal.returns-in-Some-clause-held
returns-in-Some-clause-held c =
    let ns = c.args.ns.now in
    let groups = c.self.inside.collections.entries in
    let docs = c.in-Some.collection.now in
    let same = scan_nested ns (option_copied c.args.ids) c.args.at c.args.tag docs groups
    c.args.self.now c.self.view_is c.self.invariant.rises (group_found ns docs groups
    (sym c.in-Some.ensures.value)) in
    rw same c.scan.ensures.held

pub returns-in-None-clause-rows : goal.returns-in-None-clause-rows
returns-in-None-clause-rows c =
    let ns = c.args.ns.now in
    let groups = c.self.inside.collections.entries in
    scan_nested ns (option_copied c.args.ids) c.args.at c.args.tag [] groups c.args.self.now
    c.self.view_is c.self.invariant.rises (group_absent ns groups (sym c.in-None.ensures.value))
    ∙ ap Ok (sym c.new.ensures.items)
