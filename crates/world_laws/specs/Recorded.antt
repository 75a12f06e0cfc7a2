-- What stands beside the part of the joint invariant on what is told as committed: what a shard
-- holds of prepared and committed transactions has its record. Here `V tag at` says that this shard
-- has a record by which the transaction is prepared at that time, and `C tag at` that some shard
-- has one by which it commits then.
use Rattle.std.specs.Prelude.{◌≡◌, ℕ, All, Contains, IfSome, Result, Ok, Err}
use Rattle.txn_types.specs.declared.cause.Cause.{Cause}
use Rattle.txn_types.specs.declared.decision.Decision.{Decision}
use Rattle.txn_types.specs.declared.decision.Decision.TheVariants as decision
use Rattle.txn_types.specs.declared.decision.Told.{Told}
use Rattle.txn_types.specs.declared.decision.Told.TheVariants as told
use Rattle.txn_types.specs.declared.event.Happening.{Happening}
use Rattle.txn_types.specs.declared.event.Happening.TheVariants as what
use Rattle.txn_types.specs.declared.message.Msg.{Msg}
use Rattle.txn_types.specs.declared.message.Msg.TheVariants as msg
use Rattle.txn_types.specs.declared.names.Tag.{Tag}
use Rattle.session_table.specs.declared.session.SessionState.{SessionState}
use Rattle.session_table.specs.declared.session.SessionState.TheVariants as state
use Rattle.journal_rec.specs.declared.record.Rec.{Rec}
use Rattle.journal_rec.specs.declared.record.Rec.TheVariants as rec
use Rattle.coordinator.specs.TwoPhase.{Coordinations}
use Rattle.participant.specs.Part.{Part}
use Rattle.shard_core.specs.State.{ShardState}
use Rattle.shard_core.specs.Ruled.{Ruled}
use Rattle.shard_core.specs.Core.{CoreStep}
use Rattle.shard_core.specs.NodeStep.{NodeState}
use Rattle.txn_types.specs.Letters.{given_out}
use Rattle.cluster_core.specs.Nodes.{Nodes}
use Rattle.cluster_core.specs.Parts.{IsRunning, IsPreparedAs, HasCommit, CommitsRecorded}
use Rattle.world_laws.specs.Clocks.{EachShard}

abbrev pub StateRecorded : (Tag → ℕ → Type 0) → (Tag → ℕ → Type 0) → Tag → SessionState → Type 0
StateRecorded V C tag (state.Prepared at coordinator) = V tag at
StateRecorded V C tag (state.Committed at) = C tag at
StateRecorded V C tag other = Unit {0}

abbrev pub PartRecorded : (Tag → ℕ → Type 0) → (Tag → ℕ → Type 0) → Part → Type 0
PartRecorded V C p = All (λ entry. StateRecorded V C entry.1.tag entry.1.state) p.sessions.entries

abbrev pub CommitRecorded : (Tag → ℕ → Type 0) → Tag → Decision → Type 0
CommitRecorded C tag (decision.Commit at) = C tag at
CommitRecorded C tag (decision.Abort shard code) = Unit {0}

abbrev pub CoordRecorded : (Tag → ℕ → Type 0) → Coordinations → Type 0
CoordRecorded C coords = All (λ c. IfSome c.1.decision (CommitRecorded C c.0)) coords

pub record CoreRecorded (V C : Tag → ℕ → Type 0) (s : ShardState) : Type 0 where
  pub part : PartRecorded V C s.part
  pub coord : CoordRecorded C s.coord

-- what is told of a transaction, and how a shard votes
abbrev pub ToldRecorded : (Tag → ℕ → Type 0) → Tag → Told → Type 0
ToldRecorded C tag (told.Committed at) = C tag at
ToldRecorded C tag other = Unit {0}

abbrev pub VoteHere : (Tag → ℕ → Type 0) → Tag → Result ℕ Cause → Type 0
VoteHere V tag (Ok at) = V tag at
VoteHere V tag (Err why) = Unit {0}

-- a letter of this shard
abbrev pub LetterRecorded : (Tag → ℕ → Type 0) → (Tag → ℕ → Type 0) → ℕ → Msg → Type 0
LetterRecorded V C shard (msg.Vote v) = VoteHere V v.tag v.vote × (v.shard ≡ shard)
LetterRecorded V C shard (msg.Outcome o) = ToldRecorded C o.tag o.told
LetterRecorded V C shard (msg.Decide d) = CommitRecorded C d.tag d.decision
LetterRecorded V C shard other = Unit {0}

-- a message that is delivered: only a decision says something
abbrev pub ComesRecorded : (Tag → ℕ → Type 0) → Msg → Type 0
ComesRecorded C (msg.Decide d) = CommitRecorded C d.tag d.decision
ComesRecorded C other = Unit {0}

-- what a record makes so, and what one that applies a decision rests on
abbrev pub Makes : (Tag → ℕ → Type 0) → (Tag → ℕ → Type 0) → Rec → Type 0
Makes V C (rec.Commit tag lsid number read_at at writes) = C tag at
Makes V C (rec.Prepared tag lsid number boot read_at at coordinator writes) = V tag at
Makes V C (rec.CoordDecision tag d) = CommitRecorded C tag d
Makes V C other = Unit {0}

abbrev pub RestsOn : (Tag → ℕ → Type 0) → Rec → Type 0
RestsOn C (rec.Decided d) = CommitRecorded C d.tag d.decision
RestsOn C other = Unit {0}

-- what a rule leaves, records and sends
pub record RuledRecorded (V C : Tag → ℕ → Type 0) (r : Ruled) : Type 0 where
  pub core : CoreRecorded V C r.core
  pub rec : IfSome r.rec (RestsOn C)
  pub out : All (λ l. LetterRecorded V C r.core.part.shard l.1) r.out

-- what an event delivers
abbrev pub EventRecorded : (Tag → ℕ → Type 0) → Happening → Type 0
EventRecorded C (what.Deliver e) = ComesRecorded C e.msg
EventRecorded C other = Unit {0}

-- what a step leaves, records and gives out
pub record StepRecorded (V C : Tag → ℕ → Type 0) (o : CoreStep) : Type 0 where
  pub core : CoreRecorded V C o.core
  pub rec : IfSome o.rec (RestsOn C)
  pub out : All (λ e. LetterRecorded V C o.core.part.shard e.msg) (given_out o.answer)

-- Of a shard: while it runs, what it holds has its record; and what its records apply of decisions
-- was recorded.

abbrev pub Here : NodeState → Tag → ℕ → Type 0
Here n tag at = (r : Rec) × Contains n.records r × IsPreparedAs tag at r

pub record NodeRecorded (nodes : Nodes) (n : NodeState) : Type 0 where
  pub core : IsRunning n → CoreRecorded (Here n) (HasCommit nodes) n.core
  pub records : All (RestsOn (HasCommit nodes)) n.records
  pub hand : All (RestsOn (HasCommit nodes)) n.hand

pub record RecordsStand (nodes : Nodes) : Type 0 where
  pub shards : EachShard nodes (λ number n. NodeRecorded nodes n)
  pub sent : CommitsRecorded nodes
