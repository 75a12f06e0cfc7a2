use Rattle.std.proofs.Common.{sym, ◌∙◌, codes, arith}
use Rattle.toml.specs.Data.{get_member}
use Rattle.toml.specs.View.{table_view}
use Rattle.cluster_conf.specs.Conf.{most_shards, most_routers, count_in, addresses_in}
use Rattle.cluster_conf.proofs.Ranges.{key_is, count_within, addresses_for, map_over}
use Rattle.cluster_conf.proofs.conf.settings_of.Goals as goal

pub invariant_of-result : goal.invariant_of-result
invariant_of-result c =
    let t = table_view c.args.table.now in
    let shards = count_within most_shards (get_member (codes "shards") t)
    c.in_ok-shards.shards (omega arith) (key_is (codes "shards") (count_in most_shards
    (get_member (codes "shards") t)) c.in_ok-shards.shards c.in_ok-shards.ensures) in
    let routers = count_within most_routers (get_member (codes "routers") t)
    c.in_ok-routers.routers (omega arith) (key_is (codes "routers") (count_in most_routers
    (get_member (codes "routers") t)) c.in_ok-routers.routers c.in_ok-routers.ensures) in
    record {
      some_shards = shards.0;
      shards = shards.1;
      some_routers = routers.0;
      routers = routers.1;
      map = map_over c.in_ok-shards.shards c.in_ok-rows.rows.items c.in_ok-map.map
          (sym c.map_of.ensures ∙ c.in_ok-map.was);
      shard_at = addresses_for c.in_ok-shards.shards (get_member (codes "shard_at") t)
          c.in_ok-shard_at.shard_at (key_is (codes "shard_at") (addresses_in c.in_ok-shards.shards
          (get_member (codes "shard_at") t)) c.in_ok-shard_at.shard_at c.in_ok-shard_at.ensures);
      router_at = addresses_for c.in_ok-routers.routers (get_member (codes "router_at")
          t) c.in_ok-router_at.router_at (key_is (codes "router_at")
          (addresses_in c.in_ok-routers.routers (get_member (codes "router_at") t))
          c.in_ok-router_at.router_at c.in_ok-router_at.ensures);
    }
