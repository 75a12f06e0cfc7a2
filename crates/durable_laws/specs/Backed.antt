-- A shard's state that its records hold.
use Rattle.std.specs.Prelude.{◌≡◌, ◌⊎◌, ◌≤◌, ◌+◌, Bool, true, false, List, [], ◌∷◌, ◌++◌, Some}
use Rattle.std.specs.Prelude.{None, All, unwrap_or}
use Rattle.std.proofs.Common.{inl, inr}
use Rattle.txn_types.specs.BySession.{BySession}
use Rattle.txn_types.specs.Order.{same_lsid, tag_cmp}
use Rattle.txn_semantics.specs.Keyed.{Rises}
use Rattle.txn_types.specs.declared.node.Lsid.{Lsid}
use Rattle.session_table.specs.Sessions.{Table, session_of}
use Rattle.session_table.specs.declared.session.Session.{Session}
use Rattle.session_table.specs.declared.session.SessionState.{SessionState}
use Rattle.session_table.specs.declared.session.SessionState.TheVariants as state
use Rattle.version_store.specs.Versions.{finished}
use Rattle.journal_rec.specs.declared.record.Rec.{Rec}
use Rattle.participant.specs.Part.{Part, session}
use Rattle.participant.specs.Sound.{IsPart}
use Rattle.participant.specs.Stands.{Stands}
use Rattle.part_laws.specs.Each.{Each}
use Rattle.shard_image.specs.Image.{image_of}
use Rattle.shard_image.specs.Sound.{AreWritten}
use Rattle.txn_types.specs.declared.event.NodeAnswer.{NodeAnswer}
use Rattle.shard_core.specs.State.{ShardState}
use Rattle.shard_core.specs.Core.{CoreStep}
use Rattle.shard_core.specs.NodeStep.{NodeState, Appended, Failed}
use Rattle.shard_core.specs.Durable.{plans_of, HasSession, AreRecordsOf}

-- no session stands twice
abbrev pub AreApart : BySession Session → Type 0
AreApart [] = Unit {0}
AreApart (entry ∷ entries) = Each (λ other. same_lsid entry.0 other.0 ≡ false) entries
    × AreApart entries

-- the part is of one piece and each of its sessions has what its state says; a live transaction
-- reads at or below the clock's last time; and what is coordinated stands by tag
pub record IsShard (s : ShardState) : Type 0 where
  pub part : IsPart s.part
  pub stands : Stands s.part
  pub reads : All (λ entry. entry.1.read_at ≤ s.clock.last) s.part.live
  pub apart : AreApart s.part.sessions.entries
  pub rises : Rises tag_cmp s.coord

-- an outcome that is told only once its record is durable
abbrev pub is_recorded : SessionState → Bool
is_recorded state.Live = false
is_recorded (state.Prepared at coordinator) = true
is_recorded (state.Committed at) = true
is_recorded state.Released = false
is_recorded (state.Aborted why read_at) = false

-- each prepared or committed transaction of a session stands in this table as it does here
abbrev pub AreRecorded : Table → Part → Type 0
AreRecorded table p = (lsid : Lsid) (s : Session) → session p lsid ≡ Some s
    → is_recorded s.state ≡ true → session_of table lsid ≡ Some s

-- and the records hold it
pub record IsBacked (recs : List Rec) (s : ShardState) : Type 0 where
  pub shard : IsShard s
  pub durable : AreRecordsOf recs s
  pub recorded : AreRecorded (image_of recs).sessions s.part

-- Where an append fails.

-- the state with the ceiling of a step
abbrev pub at_ceiling : ShardState → CoreStep → ShardState
at_ceiling s o = record s
    { clock = record { last = s.clock.last; ceiling = unwrap_or o.ceiling s.clock.ceiling } }

-- what the appends before the one that failed hold: the state before the step, or with the step's
-- ceiling
abbrev pub kept_state : ShardState → CoreStep → List (List Rec) → ShardState
kept_state s o [] = s
kept_state s o (kept ∷ more) = at_ceiling s o

-- what they hold with the one that failed: the state after the step, or with its ceiling where a
-- record was to follow
abbrev pub lost_state : ShardState → CoreStep → List (List Rec) → ShardState
lost_state s o [] = o.core
lost_state s o (next ∷ more) = at_ceiling s o

-- Where a shard starts again.

-- the new state has what outlives a stop of the old one, is of the next boot, and its clock stands
-- at the last ceiling
pub record IsFoundAgain (old new : ShardState) : Type 0 where
  pub boot : new.part.boot ≡ old.part.boot + 1
  pub clock : new.clock ≡ record { last = old.clock.ceiling; ceiling = old.clock.ceiling }
  pub store : new.part.store ≡ finished old.part.store
  pub pending : new.part.pending ≡ old.part.pending
  pub live : new.part.live ≡ []
  pub coord : plans_of new.coord ≡ plans_of old.coord
  pub sessions : All (λ entry. HasSession old.part entry.0 entry.1) new.part.sessions.entries
  pub recorded : AreRecorded new.part.sessions old.part
  pub stopped : new.stopped ≡ None

-- Nodes.

-- the shard is of one piece; where it runs, its records hold it and nothing is in hand; what its
-- records hold, and what they hold with those in hand, is of one piece too; and the writes of each
-- record rise
pub record IsDurableNode (n : NodeState) : Type 0 where
  pub shard : IsShard n.core
  pub running : n.core.stopped ≡ None → IsBacked n.records n.core × (n.hand ≡ [])
  pub kept : (s : ShardState) × IsBacked n.records s
  pub hand : (s : ShardState) × IsBacked (n.records ++ n.hand) s
  pub written : AreWritten (n.records ++ n.hand)

-- what a stop of the machine leaves of a node: its records, or these with the ones in hand
abbrev pub IsLeft : NodeState → List Rec → Type 0
IsLeft n recs = (recs ≡ n.records) ⊎ (recs ≡ n.records ++ n.hand)

-- the state that these records hold after a step of a node that ran: the state after the step;
-- or, where an append failed, what the appends before it hold, or what they hold with it
abbrev pub left_state : (old : NodeState) (o : CoreStep) (a : NodeAnswer) (new : NodeState)
    (recs : List Rec) → Appended old o a new ⊎ Failed old o a new → IsLeft new recs → ShardState
left_state old o a new recs (inl done) left = o.core
left_state old o a new recs (inr failed) (inl is) = kept_state old.core o failed.kept
left_state old o a new recs (inr failed) (inr is) = lost_state old.core o failed.rest
