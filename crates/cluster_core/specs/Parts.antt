-- What holds of clocks, records and messages together, in each state that a cluster comes to. Each
-- part is kept by every event, and what is right of a run rests on all of them.
use Rattle.std.specs.Prelude.{◌≡◌, ◌≤◌, ◌<◌, ◌⊎◌, ◌<ℤ◌, ℕ, ℤ, List, filter_map, All, Contains}
use Rattle.std.specs.Prelude.{Option, Some, None, IfSome, slice_get, Ok, Err}
use Rattle.txn_types.specs.declared.decision.Decision.{Decision}
use Rattle.txn_types.specs.declared.decision.Decision.TheVariants as decision
use Rattle.txn_types.specs.declared.decision.Told.TheVariants as told
use Rattle.txn_types.specs.declared.message.Answer.{Answer}
use Rattle.txn_types.specs.declared.message.Envelope.{Envelope}
use Rattle.txn_types.specs.declared.message.Msg.{Msg}
use Rattle.txn_types.specs.declared.message.Msg.TheVariants as msg
use Rattle.txn_types.specs.declared.message.Outcome.{Outcome}
use Rattle.txn_types.specs.declared.message.Vote.{Vote}
use Rattle.txn_types.specs.declared.names.Tag.{Tag}
use Rattle.txn_types.specs.declared.node.Lsid.{Lsid}
use Rattle.txn_types.specs.declared.node.NodeId.TheVariants.{Shard, Router}
use Rattle.session_table.specs.declared.session.Session.{Session}
use Rattle.journal_rec.specs.Follows.{Standing, ledger_of, coordination_of}
use Rattle.journal_rec.specs.declared.record.Rec.{Rec}
use Rattle.journal_rec.specs.declared.record.Rec.TheVariants as rec
use Rattle.participant.specs.Part.{Part, session}
use Rattle.participant.specs.declared.said.Open.{Open}
use Rattle.shard_core.specs.NodeStep.{NodeState}
use Rattle.router_state.specs.State.{RouterState}
use Rattle.txn_model.specs.Commits.{records_of}
use Rattle.txn_types.specs.Letters.{Named, named_in}
use Rattle.cluster_core.specs.Nodes.{Nodes, journals_of}

-- a fact of the shard of that number
abbrev pub AtShard : Nodes → ℕ → (NodeState → Type 0) → Type 0
AtShard nodes shard P = (n : NodeState) → slice_get nodes.shards shard ≡ Some n → P n

abbrev pub IsRunning : NodeState → Type 0
IsRunning n = n.core.stopped ≡ None

-- the last ceiling of a journal
abbrev pub last_ceiling : List Rec → ℕ
last_ceiling recs = (ledger_of recs).ceiling

-- A running shard's clock is at or below its last ceiling.
abbrev pub ClockBelowCeiling : NodeState → Type 0
ClockBelowCeiling n = IsRunning n → n.core.clock.last ≤ last_ceiling n.records

-- Each read timestamp that a shard answered, and each timestamp in its records, is at or below its
-- clock while it runs, and at or below its last ceiling.

abbrev pub IsBehind : NodeState → ℕ → Type 0
IsBehind n time = (IsRunning n → time ≤ n.core.clock.last) × (time ≤ last_ceiling n.records)

abbrev pub AnswersBehind : Nodes → Envelope → Type 0
AnswersBehind nodes e = elim (e.msg) [
  | msg.Answer a ↦ AtShard nodes a.shard (λ n. IsBehind n a.read_at)
  | _ ↦ Unit {0}
]

abbrev pub decision_time : Decision → Option ℕ
decision_time (decision.Commit at) = Some at
decision_time (decision.Abort shard code) = None

abbrev pub time_in : Rec → Option ℕ
time_in (rec.Commit tag lsid number read_at at writes) = Some at
time_in (rec.Prepared tag lsid number boot read_at at coordinator writes) = Some at
time_in (rec.Decided d) = decision_time d.decision
time_in (rec.CoordDecision tag d) = decision_time d
time_in other = None

abbrev pub RecordsBehind : NodeState → Type 0
RecordsBehind n = All (λ r. IfSome (time_in r) (IsBehind n)) n.records

pub record ReadsBehind (nodes : Nodes) : Type 0 where
  pub answers : All (AnswersBehind nodes) nodes.sent
  pub records : All RecordsBehind nodes.shards

-- A boot in a message is at most the shard's, but for that of a Recover, which is a token's. Where
-- they are equal, the transaction is there as the statements that were answered in that boot left
-- it, or it has ended there.

-- it is the session's transaction, or the session has gone on
abbrev pub HasCome : Part → Lsid → ℤ → Tag → Type 0
HasCome p lsid number tag = (s : Session) × (session p lsid ≡ Some s)
    × ((s.tag ≡ tag) ⊎ (number <ℤ s.number))

abbrev pub KnowsBoot : Nodes → ℕ → ℕ → Lsid → ℤ → Tag → Type 0
KnowsBoot nodes shard boot lsid number tag = AtShard nodes shard (λ n. (boot ≤ n.core.part.boot)
    × (boot ≡ n.core.part.boot → HasCome n.core.part lsid number tag))

abbrev pub KnowsParts : Nodes → List (ℕ × ℕ) → Lsid → ℤ → Tag → Type 0
KnowsParts nodes parts lsid number tag =
    All (λ part. KnowsBoot nodes part.0 part.1 lsid number tag) parts

abbrev pub KnowsAsked : Nodes → ℕ → Msg → Type 0
KnowsAsked nodes shard (msg.Statement m) = KnowsBoot nodes shard m.boot m.lsid m.number m.tag
KnowsAsked nodes shard (msg.Commit m) = KnowsBoot nodes shard m.boot m.lsid m.number m.tag
KnowsAsked nodes shard (msg.CommitTwo m) = KnowsBoot nodes shard m.boot m.lsid m.number m.tag
    × KnowsParts nodes m.parts m.lsid m.number m.tag
KnowsAsked nodes shard (msg.Prepare m) = KnowsBoot nodes shard m.boot m.lsid m.number m.tag
KnowsAsked nodes shard other = Unit {0}

abbrev pub KnowsTold : Nodes → Msg → Type 0
KnowsTold nodes (msg.Answer a) = AtShard nodes a.shard (λ n. a.boot ≤ n.core.part.boot)
KnowsTold nodes (msg.Outcome o) = AtShard nodes o.shard (λ n. o.boot ≤ n.core.part.boot)
KnowsTold nodes other = Unit {0}

abbrev pub KnowsBoots : Nodes → Envelope → Type 0
KnowsBoots nodes e = elim (e.to)
    [ Shard shard ↦ KnowsAsked nodes shard e.msg | Router router ↦ KnowsTold nodes e.msg ]

-- what a live transaction of a running shard has is what its newest statement there was answered in
-- this boot (a shard whose append of a ceiling failed at a statement has begun to serve it, and is
-- stopped)
abbrev pub IsAnswer : NodeState → Open → Answer → Type 0
IsAnswer n o a = (a.tag ≡ o.tag) × (a.k ≡ o.k) × (a.shard ≡ n.core.part.shard)
    × (a.boot ≡ n.core.part.boot) × (a.read_at ≡ o.read_at) × (a.outcome ≡ Ok (o.reply, o.wrote))

abbrev pub WasAnswered : Nodes → NodeState → Open → Type 0
WasAnswered nodes n o = (e : Envelope) × (a : Answer) × Contains nodes.sent e
    × (e.msg ≡ msg.Answer a) × IsAnswer n o a

abbrev pub LiveAsAnswered : Nodes → NodeState → Type 0
LiveAsAnswered nodes n = IsRunning n → All (λ entry. WasAnswered nodes n entry.1) n.core.part.live

pub record BootsKnown (nodes : Nodes) : Type 0 where
  pub messages : All (KnowsBoots nodes) nodes.sent
  pub live : All (LiveAsAnswered nodes) nodes.shards

-- A vote with a time has its record, and so has each commit that was told.

abbrev pub IsPreparedAs : Tag → ℕ → Rec → Type 0
IsPreparedAs tag at (rec.Prepared there lsid number boot read_at time coordinator writes) =
    (there ≡ tag) × (time ≡ at)
IsPreparedAs tag at other = ⊥

abbrev pub IsCommitAs : Tag → ℕ → Rec → Type 0
IsCommitAs tag at (rec.Commit there lsid number read_at time writes) = (there ≡ tag) × (time ≡ at)
IsCommitAs tag at (rec.CoordDecision there d) = (there ≡ tag) × (d ≡ decision.Commit at)
IsCommitAs tag at other = ⊥

abbrev pub HasPrepared : Nodes → ℕ → Tag → ℕ → Type 0
HasPrepared nodes shard tag at = (r : Rec) × Contains (records_of (journals_of nodes) shard) r
    × IsPreparedAs tag at r

abbrev pub HasCommit : Nodes → Tag → ℕ → Type 0
HasCommit nodes tag at = (recs : List Rec) × (r : Rec) × Contains (journals_of nodes) recs
    × Contains recs r × IsCommitAs tag at r

abbrev pub VoteRecorded : Nodes → Vote → Type 0
VoteRecorded nodes v =
    elim (v.vote) [ Ok at ↦ HasPrepared nodes v.shard v.tag at | Err why ↦ Unit {0} ]

abbrev pub OutcomeRecorded : Nodes → Outcome → Type 0
OutcomeRecorded nodes o = elim (o.told) [
  | told.Committed at ↦ HasCommit nodes o.tag at
  | _ ↦ Unit {0}
]

abbrev pub DecisionRecorded : Nodes → Tag → Decision → Type 0
DecisionRecorded nodes tag (decision.Commit at) = HasCommit nodes tag at
DecisionRecorded nodes tag (decision.Abort shard code) = Unit {0}

abbrev pub IsRecorded : Nodes → Msg → Type 0
IsRecorded nodes (msg.Vote v) = VoteRecorded nodes v
IsRecorded nodes (msg.Outcome o) = OutcomeRecorded nodes o
IsRecorded nodes (msg.Decide d) = DecisionRecorded nodes d.tag d.decision
IsRecorded nodes other = Unit {0}

abbrev pub CommitsRecorded : Nodes → Type 0
CommitsRecorded nodes = All (λ e. IsRecorded nodes e.msg) nodes.sent

-- What is prepared and not decided has a coordinator that holds it; a commit is at or above its
-- timestamp.

abbrev pub AtOrAbove : ℕ → Option Decision → Type 0
AtOrAbove at None = Unit {0}
AtOrAbove at (Some (decision.Abort shard code)) = Unit {0}
AtOrAbove at (Some (decision.Commit time)) = at ≤ time

-- the transaction is prepared, by a record that names the coordinator
abbrev pub NamesCoordinator : Tag → ℕ → ℕ → Rec → Type 0
NamesCoordinator tag at coordinator (rec.Prepared there lsid number boot read_at time other
    writes) = (there ≡ tag) × (time ≡ at) × (other ≡ coordinator)
NamesCoordinator tag at coordinator other = ⊥

pub record IsCoordinated (nodes : Nodes) (recs : List Rec) (s : Standing) : Type 0 where
  pub coordinator : ℕ
  pub prepared : Rec
  pub stood : Contains recs prepared
  pub names : NamesCoordinator s.tag s.at coordinator prepared
  pub decision : Option Decision
  pub held : coordination_of (ledger_of (records_of (journals_of nodes) coordinator)) s.tag
      ≡ Some decision
  pub above : AtOrAbove s.at decision

abbrev pub PreparedCoordinated : Nodes → Type 0
PreparedCoordinated nodes =
    All (λ recs. All (IsCoordinated nodes recs) (ledger_of recs).standing) (journals_of nodes)

-- A tag stands for one begin at one router: what names it names one session and number, its serial
-- was drawn there, and a router begins one transaction for a session and number in a boot.

-- what the messages name that were ever sent
abbrev pub names_of : Nodes → List Named
names_of nodes = filter_map (λ e. named_in e.msg) nodes.sent

abbrev pub WasDrawn : RouterState → Tag → Type 0
WasDrawn r tag = (tag.boot < r.boot) ⊎ ((tag.boot ≡ r.boot) × (tag.serial ≤ r.serial))

pub record TagsBegunOnce (nodes : Nodes) : Type 0 where
  pub one_begin : (a b : Named) → Contains (names_of nodes) a → Contains (names_of nodes) b
      → a.tag ≡ b.tag → (a.lsid ≡ b.lsid) × (a.number ≡ b.number)
  pub drawn : (a : Named) → Contains (names_of nodes) a
      → (r : RouterState) × (slice_get nodes.routers a.tag.router ≡ Some r) × WasDrawn r a.tag
  pub one_tag : (a b : Named) → Contains (names_of nodes) a → Contains (names_of nodes) b
      → a.lsid ≡ b.lsid → a.number ≡ b.number → a.tag.router ≡ b.tag.router
      → a.tag.boot ≡ b.tag.boot → a.tag ≡ b.tag
