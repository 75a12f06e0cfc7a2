use Rattle.std.specs.Prelude.{IsTrue}
use Rattle.std.proofs.Common.{◌≡◌, ◌≤◌, ◌-◌, ℕ, length, ap, subst, ◌∙◌, refl, arith, rules}
use Rattle.std.proofs.lemmas.List.{length-map}
use Rattle.cluster_play.specs.Starting.{router_states}
use Rattle.cluster_play.specs.Steps.{status_of}
use Rattle.cluster_play.specs.Refusing.{AreYoung, IsYoung, TakenOut}
use Rattle.cluster_play.proofs.Starts.{none_booted}
use Rattle.cluster_play.proofs.Refused.{no_router, no_young, routers_first, routers_one_more}
use Rattle.cluster_play.proofs.Refused.{routers_young}
use Rattle.cluster_play.proofs.nodes.Nodes.start_routers.Goals as goal

pub overflow_sub-place : goal.overflow_sub-place
overflow_sub-place g c =
    omega (arith, c.from-place.ensures, c.shards.ensures.value, c.shards.ensures.settings.shards)

pub loop-router-init : goal.loop-router-init
loop-router-init g c =
    let told = (d : g.row.D.Denot) → IsTrue (g.D.Disk.tells d) in
    let place = 16 - c.args.conf.now.shards in record {
      booted = none_booted told c.args.conf.now.map (router_states c.args.self.now.routers.items)
          (length-map c.args.self.now.routers.items (λ n. n.router)
          ∙ omega (arith, c.requires.none, c.args.self.now.routers.ok.0));
      count = search rules;
      all = search rules;
      capacity = search rules;
      room = search rules;
      young = no_young told g.D.Disk.seen c.args.disks.now.items place;
      left = routers_first c.args.disks.now.items place;
      shards = refl;
    }

pub start_router-requires-clause-disk : goal.start_router-requires-clause-disk
start_router-requires-clause-disk g c = omega (
  arith,
  c.from-place.ensures,
  c.shards.ensures.value,
  c.shards.ensures.settings.shards,
  c.shards.ensures.settings.routers,
  c.requires.disks,
  c.loop-router.invariant.all,
  c.loop-router.invariant.count,
  c.loop-router-test.true,
  c.routers-router-end.ensures,
)

pub place_of-requires : goal.place_of-requires
place_of-requires g c = omega (
  arith,
  c.shards.ensures.settings.routers,
  c.loop-router-test.true,
  c.routers-router-end.ensures,
)

pub returns-in-Err-clause-few : goal.returns-in-Err-clause-few
returns-in-Err-clause-few g c = omega (
  arith,
  c.shards.ensures.settings.routers,
  c.loop-router.invariant.count,
  c.loop-router-test.true,
  c.routers-router-end.ensures,
  c.in-Err.ensures.same,
)

pub returns-clause-few : goal.returns-clause-few
returns-clause-few g c = omega (
  arith,
  c.shards.ensures.settings.routers,
  c.loop-router.invariant.count,
  c.loop-router.auto.router-end,
  c.routers-router-end.ensures,
)

pub loop-router-preserved : goal.loop-router-preserved
loop-router-preserved g c =
    let told = (d : g.row.D.Denot) → IsTrue (g.D.Disk.tells d) in
    let young = λ (d : g.row.D.Denot). IsYoung told (g.D.Disk.seen d) in
    let all = c.loop-router.invariant in
    let old = c.args.disks.now.items in
    let disks = c.loop-router.disks.items in
    let more = c.start_router.new.disks.items in
    let place = 16 - c.args.conf.now.shards in
    let from = 16 - c.from-place.result in
    let here : from ≡ place = omega (arith, c.from-place.ensures, c.shards.ensures.value) in
    let taken : TakenOut young disks more place =
    subst (λ (k : ℕ). TakenOut young disks more k) here c.in-Ok.ensures.disk in
    let within : place ≤ length old = omega (
      arith,
      c.requires.disks,
      c.args.disks.now.ok.0,
      c.shards.ensures.settings.shards,
    ) in record {
      booted = search rules;
      count = omega (arith, all.count, c.in-Ok.ensures.more);
      all = omega (arith, all.all, c.start_router.ensures.all);
      capacity = c.start_router.ensures.capacity ∙ all.capacity;
      room = omega (arith, all.room, c.start_router.ensures.room);
      young = routers_young told g.D.Disk.seen old disks more place c.loop-router.router within
          all.young all.left taken;
      left = routers_one_more young old disks more place c.loop-router.router within all.left
          taken;
      shards = c.start_router.ensures.shards ∙ all.shards;
    }

pub returns-in-Err-clause-why : goal.returns-in-Err-clause-why
returns-in-Err-clause-why g c =
    let told = (d : g.row.D.Denot) → IsTrue (g.D.Disk.tells d) in
    let all = c.loop-router.invariant in
    let place = 16 - c.args.conf.now.shards in
    let from = 16 - c.from-place.result in
    let here : from ≡ place = omega (arith, c.from-place.ensures, c.shards.ensures.value) in
    no_router told g.D.Disk.seen g.D.Disk.fault_count c.args.conf.now place from _
    c.loop-router.router c.args.disks.now.items c.loop-router.disks.items
    c.start_router.new.disks.items c.in-Err.error c.status_of.result here
    (omega (arith, all.count, c.in-Err.ensures.same))
    (omega (arith, c.loop-router-test.true, c.routers-router-end.ensures)) all.young all.left
    c.in-Err.ensures.why
    (c.status_of.ensures ∙ ap (λ (k : ℕ). status_of c.in-Err.error k) c.place_of.ensures)

pub returns-clause-young : goal.returns-clause-young
returns-clause-young g c =
    let told = (d : g.row.D.Denot) → IsTrue (g.D.Disk.tells d) in
    let all : c.loop-router.router ≡ c.args.conf.now.routers = omega (
      arith,
      c.loop-router.auto.router-end,
      c.loop-router-test.false,
      c.routers-router-end.ensures,
    ) in
    subst (λ (n : ℕ). AreYoung told g.D.Disk.seen c.args.disks.now.items
    (16 - c.args.conf.now.shards) n) all c.loop-router.invariant.young
