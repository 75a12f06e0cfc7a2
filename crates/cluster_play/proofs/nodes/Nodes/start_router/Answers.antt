use Rattle.std.specs.Prelude.{IsTrue}
use Rattle.std.proofs.Common.{arith, subst}
use Rattle.chunk_map.specs.Map.{Map}
use Rattle.cluster_play.specs.Starting.{IsBooted}
use Rattle.record_store.specs.declared.error.NodeErr.TheVariants.{Memory}
use Rattle.cluster_play.specs.Refusing.{IsYoung, RefusesFirst}
use Rattle.cluster_play.proofs.Starts.{routers_push}
use Rattle.cluster_play.proofs.Refused.{replaced, taken_out, untouched}
use Rattle.cluster_play.proofs.nodes.Nodes.start_router.Goals as goal

pub returns-in-Ok-first_router-clause-booted : goal.returns-in-Ok-first_router-clause-booted
returns-in-Ok-first_router-clause-booted g c =
    let told = (d : g.row.D.Denot) → IsTrue (g.D.Disk.tells d) in
    let booted : IsBooted told c.in-Ok.map c.args.router c.in-Ok-first_router.node.router =
    c.in-Ok-first_router.ensures.booted in
    let here : IsBooted told c.args.map.now c.args.router c.in-Ok-first_router.node.router =
    subst (λ (m : Map). IsBooted told m c.args.router c.in-Ok-first_router.node.router)
    c.in-Ok.ensures booted in
    routers_push told c.args.map.now c.args.self.now.routers.items c.push_reserved.new.self.items
    c.in-Ok-first_router.node c.args.router c.push_reserved.ensures.items
    (omega (arith, c.requires.next, c.args.self.now.routers.ok.0)) c.requires.booted here

pub returns-in_default-clause-why : goal.returns-in_default-clause-why
returns-in_default-clause-why g c =
    let told = (d : g.row.D.Denot) → IsTrue (g.D.Disk.tells d) in
    untouched (RefusesFirst told g.D.Disk.seen g.D.Disk.fault_count Memory) c.args.disks.now.items
    c.args.place (λ d. tt) (omega (arith, c.requires.disk, c.args.disks.now.ok.0))

pub returns-in-Ok-first_router-clause-disk : goal.returns-in-Ok-first_router-clause-disk
returns-in-Ok-first_router-clause-disk g c =
    let told = (d : g.row.D.Denot) → IsTrue (g.D.Disk.tells d) in
    taken_out (λ (d : g.row.D.Denot). IsYoung told (g.D.Disk.seen d)) c.args.disks.now.items
    c.remove.new.self.items c.args.place c.remove.result
    (omega (arith, c.requires.disk, c.args.disks.now.ok.0)) c.remove.ensures.value
    c.remove.ensures.items c.in-Ok-first_router.ensures.young

pub returns-in-Err-clause-why : goal.returns-in-Err-clause-why
returns-in-Err-clause-why g c =
    let told = (d : g.row.D.Denot) → IsTrue (g.D.Disk.tells d) in
    replaced (RefusesFirst told g.D.Disk.seen g.D.Disk.fault_count c.in-Err.error)
    c.args.disks.now.items c.remove.new.self.items c.put_in.new.disks.items c.args.place
    c.remove.result c.in-Err.disk (omega (arith, c.requires.disk, c.args.disks.now.ok.0))
    c.remove.ensures.value c.remove.ensures.items c.put_in.ensures.items c.in-Err.ensures.refused
