-- A shard that its records hold, in the definitions' words and place by place.
use Rattle.std.proofs.Common.{List}
use Rattle.journal_rec.specs.declared.record.Rec.{Rec}
use Rattle.shard_image.specs.Image.{Image, image_of}
use Rattle.shard_core.specs.State.{ShardState}
use Rattle.shard_core.specs.Durable.{HasSession, IsDurable}
use Rattle.durable_laws.specs.Backed.{IsShard, IsBacked}
use Rattle.durable_laws.proofs.Whole.{IsWhole}
use Rattle.durable_laws.proofs.Holding.{Backs}
use Rattle.durable_laws.proofs.Facts.{image_fine, each_session, one_of_each}
use Rattle.durable_laws.proofs.Parting.{whole_is_part, whole_reads, part_is_whole}

pub shard_whole : (s : ShardState) → IsShard s → IsWhole s.part s.clock.last
shard_whole s h = part_is_whole s.part s.clock.last h.part h.stands h.reads h.apart

pub backs_shard : (i : Image) (s : ShardState) → Backs i s → IsShard s
backs_shard i s b = record {
  part = whole_is_part s.part s.clock.last b.whole;
  stands = b.whole.stands;
  reads = whole_reads s.part s.clock.last b.whole;
  apart = b.whole.apart;
  rises = b.rises;
}

pub to_backs : (recs : List Rec) (s : ShardState) → IsBacked recs s → Backs (image_of recs) s
to_backs recs s b =
    let i : Image = image_of recs in
    let fine = image_fine recs in
    let d : IsDurable i s = b.durable in
    record {
      whole = shard_whole s b.shard;
      holds = record {
        boot = d.boot;
        store = d.store;
        pending = d.pending;
        sessions = λ lsid recorded has. (
          one_of_each (HasSession s.part) i.sessions.entries d.sessions lsid recorded has,
          fine.never lsid recorded has,
        );
        recorded = b.recorded;
      };
      ceiling = d.ceiling;
      rises = b.shard.rises;
      plans = d.coord;
    }

pub from_backs : (recs : List Rec) (s : ShardState) → Backs (image_of recs) s → IsBacked recs s
from_backs recs s b =
    let i : Image = image_of recs in
    let fine = image_fine recs in
    record {
      shard = backs_shard i s b;
      durable = record {
        boot = b.holds.boot;
        ceiling = b.ceiling;
        store = b.holds.store;
        pending = b.holds.pending;
        coord = b.plans;
        sessions = each_session (HasSession s.part) i.sessions.entries fine.apart (λ lsid recorded
            has. (b.holds.sessions lsid recorded has).0);
      };
      recorded = b.holds.recorded;
    }
