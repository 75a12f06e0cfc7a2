use Rattle.std.specs.Prelude.{IsTrue}
use Rattle.std.proofs.Common.{◌≡◌, ℕ, List, subst, ap, ◌∙◌, refl, arith, rules}
use Rattle.std.proofs.lemmas.List.{length-map}
use Rattle.cluster_play.specs.Starting.{shard_states}
use Rattle.cluster_play.specs.Refusing.{AreYoung, IsYoung, after_shards}
use Rattle.cluster_play.proofs.Starts.{none_started}
use Rattle.cluster_play.proofs.Refused.{no_shard, no_young, shards_one_more, shards_young}
use Rattle.cluster_play.proofs.nodes.Nodes.start_shards.Goals as goal

pub loop-shard-init : goal.loop-shard-init
loop-shard-init g c =
    let told = (d : g.row.D.Denot) → IsTrue (g.D.Disk.tells d) in record {
      started = none_started told (shard_states c.args.self.now.shards.items)
          (length-map c.args.self.now.shards.items (λ n. n.node)
          ∙ omega (arith, c.requires.none, c.args.self.now.shards.ok.0));
      count = search rules;
      all = search rules;
      capacity = search rules;
      room = search rules;
      young = no_young told g.D.Disk.seen c.args.disks.now.items 0;
      left = refl {A = List g.row.D.Denot};
      routers = refl;
    }

pub start_shard-requires-clause-disk : goal.start_shard-requires-clause-disk
start_shard-requires-clause-disk g c = omega (
  arith,
  c.loop-shard.invariant.all,
  c.loop-shard.invariant.count,
  c.loop-shard-test.true,
  c.shards-shard-end.ensures.value,
  c.shards-shard-end.ensures.settings.shards,
)

pub loop-shard-preserved : goal.loop-shard-preserved
loop-shard-preserved g c =
    let told = (d : g.row.D.Denot) → IsTrue (g.D.Disk.tells d) in
    let young = λ (d : g.row.D.Denot). IsYoung told (g.D.Disk.seen d) in
    let all = c.loop-shard.invariant in record {
      started = c.start_shard.ensures.started;
      count = omega (arith, all.count, c.in-Ok.ensures.more);
      all = omega (arith, all.all, c.start_shard.ensures.all);
      capacity = c.start_shard.ensures.capacity ∙ all.capacity;
      room = omega (arith, all.room, c.start_shard.ensures.room);
      young = shards_young told g.D.Disk.seen c.args.disks.now.items c.loop-shard.disks.items
          c.start_shard.new.disks.items c.loop-shard.shard all.young all.left c.in-Ok.ensures.disk;
      left = shards_one_more young c.args.disks.now.items c.loop-shard.disks.items
          c.start_shard.new.disks.items c.loop-shard.shard all.left c.in-Ok.ensures.disk;
      routers = c.start_shard.ensures.routers ∙ all.routers;
    }

pub returns-in-Err-clause-why : goal.returns-in-Err-clause-why
returns-in-Err-clause-why g c =
    let told = (d : g.row.D.Denot) → IsTrue (g.D.Disk.tells d) in
    let all = c.loop-shard.invariant in
    no_shard told g.D.Disk.seen g.D.Disk.fault_count c.args.conf.now _ c.loop-shard.shard
    c.args.disks.now.items c.loop-shard.disks.items c.start_shard.new.disks.items c.in-Err.error
    c.status_of.result (omega (arith, all.count, c.in-Err.ensures.same))
    (omega (arith, c.loop-shard-test.true, c.shards-shard-end.ensures.value)) all.young all.left
    c.in-Err.ensures.why c.status_of.ensures

pub returns-clause-young : goal.returns-clause-young
returns-clause-young g c =
    let told = (d : g.row.D.Denot) → IsTrue (g.D.Disk.tells d) in
    let all : c.loop-shard.shard ≡ c.args.conf.now.shards = omega (
      arith,
      c.loop-shard.auto.shard-end,
      c.loop-shard-test.false,
      c.shards-shard-end.ensures.value,
    ) in
    subst (λ (n : ℕ). AreYoung told g.D.Disk.seen c.args.disks.now.items 0 n) all
    c.loop-shard.invariant.young

pub returns-clause-left : goal.returns-clause-left
returns-clause-left g c =
    let all : c.loop-shard.shard ≡ c.args.conf.now.shards = omega (
      arith,
      c.loop-shard.auto.shard-end,
      c.loop-shard-test.false,
      c.shards-shard-end.ensures.value,
    ) in
    c.loop-shard.invariant.left ∙ ap (λ (n : ℕ). after_shards c.args.disks.now.items n) all
