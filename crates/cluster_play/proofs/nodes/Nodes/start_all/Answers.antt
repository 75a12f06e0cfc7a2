use Rattle.std.specs.Prelude.{IsTrue}
use Rattle.std.proofs.Common.{◌≡◌, ◌-◌, List, length, subst, vec_len, arith}
use Rattle.cluster_play.specs.Starting.{AllStarted, shard_states}
use Rattle.cluster_play.specs.Refusing.{AreYoung}
use Rattle.cluster_play.proofs.Starts.{are_started}
use Rattle.cluster_play.proofs.Refused.{all_young, err_more, router_stops}
use Rattle.cluster_play.proofs.Leaving.{ok_more}
use Rattle.cluster_play.proofs.nodes.Nodes.start_all.Goals as goal

pub returns-clause-started : goal.returns-clause-started
returns-clause-started g c =
    let same = c.start_routers.ensures.shards in
    let settings = c.shards.ensures.settings in
    let told = (d : g.row.D.Denot) → IsTrue (g.D.Disk.tells d) in
    let started : AllStarted told (shard_states c.start_routers.new.self.shards.items) =
    rw same c.start_shards.ensures.started in
    let count : length c.start_routers.new.self.shards.items ≡ c.args.conf.now.shards = rw same
    (omega (arith, c.in_ok-start_shards.ensures.ok, c.start_shards.new.self.shards.ok.0)) in
    ok_more c.start_routers.result _ _ (λ many. are_started told c.args.conf.now
    c.start_routers.new.self.shards.items c.start_routers.new.self.routers.items
    settings.some_shards settings.map started c.start_routers.ensures.booted count
    (omega (arith, many, c.start_routers.new.self.routers.ok.0))) c.start_routers.ensures.ok

pub returns-clause-young : goal.returns-clause-young
returns-clause-young g c =
    let told = (d : g.row.D.Denot) → IsTrue (g.D.Disk.tells d) in
    let conf = c.args.conf.now in
    ok_more c.start_routers.result _ _ (λ young. all_young told g.D.Disk.seen conf
    c.args.disks.now.items c.shards.ensures.settings.shards c.in_ok-start_shards.ensures.young
    (subst (λ (l : List g.row.D.Denot). AreYoung told g.D.Disk.seen l (16 - conf.shards)
    conf.routers) c.in_ok-start_shards.ensures.left young)) c.start_routers.ensures.young

pub returns-clause-why : goal.returns-clause-why
returns-clause-why g c =
    let told = (d : g.row.D.Denot) → IsTrue (g.D.Disk.tells d) in
    let same = c.start_routers.ensures.shards in
    let all : vec_len c.start_routers.new.self.shards ≡ c.args.conf.now.shards =
    rw same c.in_ok-start_shards.ensures.ok in
    err_more c.start_routers.result _ _ (λ s h. router_stops told g.D.Disk.seen
    g.D.Disk.fault_count c.args.conf.now _ _ c.args.disks.now.items c.start_shards.new.disks.items
    c.start_routers.new.disks.items s all c.shards.ensures.settings.shards
    c.in_ok-start_shards.ensures.young c.in_ok-start_shards.ensures.left h)
    c.start_routers.ensures.why
