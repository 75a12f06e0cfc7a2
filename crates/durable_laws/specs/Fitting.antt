-- What else the records of a shard's state have to be so that its next record can follow them.
use Rattle.std.specs.Prelude.{◌≡◌, ◌≤◌, false, List, Some, None, nat_eq}
use Rattle.txn_types.specs.declared.names.Tag.{Tag}
use Rattle.txn_types.specs.declared.node.Lsid.{Lsid}
use Rattle.session_table.specs.Sessions.{session_of, is_full}
use Rattle.session_table.specs.declared.session.Session.{Session}
use Rattle.journal_rec.specs.Follows.{first_refused}
use Rattle.journal_rec.specs.declared.record.Rec.{Rec}
use Rattle.coordinator.specs.TwoPhase.{Coordinated, coordinated_of, greatest}
use Rattle.participant.specs.Part.{session}
use Rattle.shard_image.specs.Image.{image_of}
use Rattle.shard_image.specs.Sound.{AreWritten}
use Rattle.shard_core.specs.State.{ShardState}

-- there are some, each could follow those before it, and their writes rise; no time among them and
-- no vote is above the clock; and a session that they don't have would find room among theirs
pub record AreOrdered (recs : List Rec) (s : ShardState) : Type 0 where
  pub some : nat_eq (image_of recs).count 0 ≡ false
  pub follow : first_refused recs ≡ None
  pub written : AreWritten recs
  pub times : (image_of recs).greatest ≤ s.clock.last
  pub votes : (tag : Tag) (c : Coordinated) → coordinated_of s.coord tag ≡ Some c
      → greatest c.votes ≤ s.clock.last
  pub room : (lsid : Lsid) (t : Session) → session s.part lsid ≡ Some t
      → session_of (image_of recs).sessions lsid ≡ None → is_full (image_of recs).sessions ≡ false
