use Rattle.std.proofs.Common.{Err, sym, ap, ◌∙◌, arith}
use Rattle.shard_core.specs.State.{ShardState}
use Rattle.cluster_play.proofs.Leaving.{shard_gone, boot_shard}
use Rattle.cluster_play.proofs.renew.renew_shard.Goals as goal

pub returns-in-Err-Next-clause-nodes : goal.returns-in-Err-Next-clause-nodes
returns-in-Err-Next-clause-nodes g c =
    let r = c.swap_shard.ensures.refused (c.in-Err-Next.error, c.in-Err-Next.disk) (c.in-Err-Next.is
    ∙ ap (λ x. Err x) c.in-Err-Next.field-0-is) in (
      c.requires.there,
      shard_gone c.args.world.now.nodes c.swap_shard.new.self.nodes c.args.shard
          c.requires.there r.3,
    )

pub returns-in-Ok-clause-boot : goal.returns-in-Ok-clause-boot
returns-in-Ok-clause-boot g c =
    let there = boot_shard c.swap_shard.new.self.nodes c.shards.result.now c.args.shard
    c.from.result c.index-shards-from.result c.shards.ensures c.from.ensures
    (omega (arith, c.requires.there, c.in-Ok.ensures.count.shards)) c.index-shards-from.is in
    c.boot.ensures ∙ ap (λ (s : ShardState). s.part.boot) c.shard.ensures ∙ sym there
