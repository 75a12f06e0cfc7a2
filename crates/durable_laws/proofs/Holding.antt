-- A state of records that holds a shard's part, and one that backs a shard's state.
use Rattle.std.specs.Prelude.{◌≡◌, ℕ, Option, Some, None, IfSome}
use Rattle.txn_types.specs.Order.{tag_cmp}
use Rattle.txn_types.specs.declared.node.Lsid.{Lsid}
use Rattle.txn_semantics.specs.Keyed.{Rises}
use Rattle.session_table.specs.Sessions.{session_of}
use Rattle.session_table.specs.declared.session.Session.{Session}
use Rattle.session_table.specs.declared.session.SessionState.TheVariants as state
use Rattle.version_store.specs.Versions.{finished}
use Rattle.journal_rec.specs.declared.record.Rec.{Rec}
use Rattle.participant.specs.Part.{Part}
use Rattle.shard_image.specs.Image.{Image, with_record}
use Rattle.shard_image.specs.Sound.{IsWritten}
use Rattle.shard_core.specs.State.{ShardState}
use Rattle.shard_core.specs.Durable.{HasSession, plans_of}
use Rattle.durable_laws.specs.Backed.{AreRecorded}
use Rattle.durable_laws.proofs.Whole.{IsWhole}

-- what outlives a stop of the part is in it; it has no live transaction
pub record HoldsPart (i : Image) (p : Part) : Type 0 where
  pub boot : i.boot ≡ p.boot
  pub store : i.store ≡ finished p.store
  pub pending : i.pending ≡ p.pending
  pub sessions : (lsid : Lsid) (recorded : Session) → session_of i.sessions lsid ≡ Some recorded
      → HasSession p lsid recorded × (recorded.state ≡ state.Live → ⊥)
  pub recorded : AreRecorded i.sessions p

-- after a record, if there is one
abbrev pub behind : Image → Option Rec → Image
behind i None = i
behind i (Some r) = with_record i r

-- a part that is whole and held by the records' state, of which the record changes nothing else
pub record Left (i : Image) (q : Part) (later : ℕ) (r : Option Rec) : Type 0 where
  pub whole : IsWhole q later
  pub holds : HoldsPart (behind i r) q
  pub ceiling : (behind i r).ceiling ≡ i.ceiling
  pub coord : (behind i r).coord ≡ i.coord
  pub written : IfSome r IsWritten

-- the part is whole and held, and so are the ceiling and what is coordinated
pub record Backs (i : Image) (s : ShardState) : Type 0 where
  pub whole : IsWhole s.part s.clock.last
  pub holds : HoldsPart i s.part
  pub ceiling : i.ceiling ≡ s.clock.ceiling
  pub rises : Rises tag_cmp s.coord
  pub plans : plans_of i.coord ≡ plans_of s.coord
