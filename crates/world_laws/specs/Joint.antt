-- What holds of a cluster in each state that it comes to, as far as it is shown: of clocks, of the
-- times that shards answer and record, of what routers send, of what shards coordinate, of what
-- tags stand for, of the records of what is told as committed, of boots, and of what is resolved.
-- Each event keeps it as a whole.
use Rattle.std.specs.Prelude.{◌<◌, ◌^◌, List, All}
use Rattle.journal_rec.specs.declared.record.Rec.{Rec}
use Rattle.txn_types.specs.Letters.{Named}
use Rattle.cluster_core.specs.Nodes.{Nodes}
use Rattle.cluster_core.specs.Parts.{last_ceiling, TagsBegunOnce, HasCommit}
use Rattle.world_laws.specs.Clocks.{EachShard, ClocksStand}
use Rattle.world_laws.specs.Behind.{RecBehind}
use Rattle.world_laws.specs.ReadTimes.{ReadsStand}
use Rattle.world_laws.specs.Asking.{AllRoutersAsk}
use Rattle.world_laws.specs.Tags.{BeginsNamed, AllPlansNamed}
use Rattle.world_laws.specs.Begins.{AllBegunOnce}
use Rattle.world_laws.specs.Recorded.{RestsOn, RecordsStand}
use Rattle.world_laws.specs.Boots.{BootsStand}
use Rattle.world_laws.specs.Above.{ResolvedStand}

pub record Stands (nodes : Nodes) : Type 0 where
  pub clocks : ClocksStand nodes
  pub asks : AllRoutersAsk nodes
  pub reads : ReadsStand nodes
  pub plans : AllPlansNamed nodes
  pub begun : AllBegunOnce nodes
  pub tags : TagsBegunOnce nodes
  pub recorded : RecordsStand nodes
  pub boots : BootsStand nodes
  pub resolved : ResolvedStand nodes

-- What may be on the disks that a cluster starts from: the last ceiling is a time, no record has
-- one above it, no commit of several shards was begun, and what was decided as committed has the
-- record of its commit.

abbrev pub NoName : Named → Type 0
NoName named = ⊥

pub record DiskStands (nodes : Nodes) (recs : List Rec) : Type 0 where
  pub ceiling : last_ceiling recs < 2 ^ 64
  pub times : All (RecBehind (last_ceiling recs)) recs
  pub begins : All (BeginsNamed NoName) recs
  pub rests : All (RestsOn (HasCommit nodes)) recs

abbrev pub DisksStand : Nodes → Type 0
DisksStand nodes = EachShard nodes (λ number n. DiskStands nodes n.records)
