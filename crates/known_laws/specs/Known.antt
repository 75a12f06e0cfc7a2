-- What is known of a shard's boots: a message that has a shard's boot is of a transaction that has
-- come to that shard in that boot. What shards and routers have stands beside it.
use Rattle.std.specs.Prelude.{◌≡◌, ◌<◌, ◌⊎◌, ℕ, ℤ, Bool, true, false, List, All, Contains, IfOk}
use Rattle.std.specs.Prelude.{Some, is_some, slice_get}
use Rattle.std.specs.List.{list_any}
use Rattle.txn_types.specs.Letters.{Letter}
use Rattle.txn_types.specs.declared.event.Happening.{Happening}
use Rattle.txn_types.specs.declared.event.Happening.TheVariants as what
use Rattle.txn_types.specs.declared.message.Answer.{Answer}
use Rattle.txn_types.specs.declared.message.Envelope.{Envelope}
use Rattle.txn_types.specs.declared.message.Msg.{Msg}
use Rattle.txn_types.specs.declared.message.Msg.TheVariants as msg
use Rattle.txn_types.specs.declared.names.Tag.{Tag}
use Rattle.txn_types.specs.declared.node.Lsid.{Lsid}
use Rattle.txn_types.specs.declared.node.NodeId.{NodeId}
use Rattle.txn_types.specs.declared.node.NodeId.TheVariants.{Shard, Router}
use Rattle.txn_types.specs.declared.operation.OpReply.{OpReply}
use Rattle.session_table.specs.declared.session.Session.{Session}
use Rattle.journal_rec.specs.declared.record.Rec.{Rec}
use Rattle.journal_rec.specs.declared.record.Rec.TheVariants as rec
use Rattle.participant.specs.Part.{Part, session}
use Rattle.coordinator.specs.TwoPhase.{Coordinated, Coordinations}
use Rattle.shard_core.specs.NodeStep.{NodeState}
use Rattle.router_state.specs.State.{Post, RouterState, is_waited}
use Rattle.router_state.specs.declared.state.Doing.{Doing}
use Rattle.router_state.specs.declared.state.Doing.TheVariants.{Begun, Sought}
use Rattle.router_state.specs.declared.state.Phase.{Phase}
use Rattle.router_state.specs.declared.state.Phase.TheVariants.{Idle, Asking, Checking, Deciding}
use Rattle.router_state.specs.declared.state.Phase.TheVariants.{Committed, Released, Aborted}
use Rattle.router_state.specs.declared.state.Transaction.{Transaction}
use Rattle.router_rules.specs.Statements.{cause_in}
use Rattle.txn_types.specs.Letters.{Named}
use Rattle.cluster_core.specs.Nodes.{Nodes}
use Rattle.cluster_core.specs.Parts.{names_of, KnowsBoot}
use Rattle.world_laws.specs.Clocks.{EachShard}
use Rattle.shard_core.specs.Effect.{plan_name}
use Rattle.world_laws.specs.Joint.{NoName}

-- What a shard's sessions and records name. `P` says of a name that it stands.

abbrev pub SessionNamed : (Named → Type 0) → Lsid × Session → Type 0
SessionNamed P entry = P (record { tag = entry.1.tag; lsid = entry.0; number = entry.1.number })

abbrev pub PartNamed : (Named → Type 0) → Part → Type 0
PartNamed P p = All (SessionNamed P) p.sessions.entries

abbrev pub RecNamed : (Named → Type 0) → Rec → Type 0
RecNamed P (rec.Commit tag lsid number read_at at writes) =
    P (record { tag = tag; lsid = lsid; number = number })
RecNamed P (rec.Prepared tag lsid number boot read_at at coordinator writes) =
    P (record { tag = tag; lsid = lsid; number = number })
RecNamed P (rec.Decided d) = P (record { tag = d.tag; lsid = d.lsid; number = d.number })
RecNamed P other = Unit {0}

-- What is said of boots. `B` says of a shard, a boot of it and a transaction that this is known
-- there.

abbrev pub PartsKnown : (ℕ → ℕ → Named → Type 0) → Named → List (ℕ × ℕ) → Type 0
PartsKnown B x parts = All (λ part. B part.0 part.1 x) parts

-- a message to a shard
abbrev pub AskedKnown : (ℕ → ℕ → Named → Type 0) → ℕ → Msg → Type 0
AskedKnown B shard (msg.Statement m) =
    B shard m.boot (record { tag = m.tag; lsid = m.lsid; number = m.number })
AskedKnown B shard (msg.Commit m) =
    B shard m.boot (record { tag = m.tag; lsid = m.lsid; number = m.number })
AskedKnown B shard (msg.CommitTwo m) =
    B shard m.boot (record { tag = m.tag; lsid = m.lsid; number = m.number })
    × PartsKnown B (record { tag = m.tag; lsid = m.lsid; number = m.number }) m.parts
AskedKnown B shard (msg.Prepare m) =
    B shard m.boot (record { tag = m.tag; lsid = m.lsid; number = m.number })
AskedKnown B shard other = Unit {0}

-- a message to a router: `A` is said of an answer
abbrev pub ToldKnown : (Answer → Type 0) → Msg → Type 0
ToldKnown A (msg.Answer a) = A a
ToldKnown A other = Unit {0}

abbrev pub KnownTo : (ℕ → ℕ → Named → Type 0) → (Answer → Type 0) → NodeId → Msg → Type 0
KnownTo B A (Shard shard) m = AskedKnown B shard m
KnownTo B A (Router router) m = ToldKnown A m

abbrev pub LetterKnown : (ℕ → ℕ → Named → Type 0) → (Answer → Type 0) → Letter → Type 0
LetterKnown B A l = KnownTo B A l.0 l.1

abbrev pub EnvKnown : (ℕ → ℕ → Named → Type 0) → (Answer → Type 0) → Envelope → Type 0
EnvKnown B A e = KnownTo B A e.to e.msg

-- what an event brings to a node
abbrev pub EventKnown : (ℕ → ℕ → Named → Type 0) → (Answer → Type 0) → NodeId → Happening → Type 0
EventKnown B A node (what.Deliver e) = KnownTo B A node e.msg
EventKnown B A node other = Unit {0}

-- what a shard coordinates, and what its records begin to
abbrev pub PlanKnown : (ℕ → ℕ → Named → Type 0) → Tag × Coordinated → Type 0
PlanKnown B c = PartsKnown B (plan_name c) c.1.plan.parts

abbrev pub PlansKnown : (ℕ → ℕ → Named → Type 0) → Coordinations → Type 0
PlansKnown B coords = All (PlanKnown B) coords

abbrev pub BeginsKnown : (ℕ → ℕ → Named → Type 0) → Rec → Type 0
BeginsKnown B (rec.CoordStart tag lsid number parts) =
    PartsKnown B (record { tag = tag; lsid = lsid; number = number }) parts
BeginsKnown B other = Unit {0}

-- an answer that isn't a refusal is of a transaction that the shard's session has
abbrev pub HasTag : Part → Named → Type 0
HasTag p x = (s : Session) × (session p x.lsid ≡ Some s) × (s.tag ≡ x.tag)

pub record Answered (P : Named → Type 0) (p : Part) (a : Answer) : Type 0 where
  pub shard : a.shard ≡ p.shard
  pub boot : a.boot ≡ p.boot
  pub done : IfOk a.outcome (λ done. (x : Named) × P x × (x.tag ≡ a.tag) × HasTag p x)

-- A router. Of the shards that take part in a transaction each boot is known, unless one has
-- refused it, or it is aborted.

abbrev pub PostKnown : (ℕ → ℕ → Named → Type 0) → Post → Type 0
PostKnown B post = AskedKnown B post.0 post.1

abbrev pub PostsKnown : (ℕ → ℕ → Named → Type 0) → List Post → Type 0
PostsKnown B posts = All (PostKnown B) posts

-- one of the answers refuses
abbrev pub has_refusal : List (ℕ × Answer) → Bool
has_refusal answers = list_any (λ answer. is_some (cause_in answer)) answers

-- those that have answered aren't waited for
abbrev pub AreTaken : List Post → List (ℕ × Answer) → Type 0
AreTaken waiting answers = All (λ answer. is_waited answer.0 waiting ≡ false) answers

abbrev pub PhaseKnown : (ℕ → ℕ → Named → Type 0) → Named → List (ℕ × ℕ) → List Post → Phase → Type 0
PhaseKnown B x parts waiting Idle = PartsKnown B x parts
PhaseKnown B x parts waiting (Asking asker op answers) =
    (PartsKnown B x parts ⊎ (has_refusal answers ≡ true)) × AreTaken waiting answers
PhaseKnown B x parts waiting (Checking asker) = PartsKnown B x parts
PhaseKnown B x parts waiting (Deciding asker) = PartsKnown B x parts
PhaseKnown B x parts waiting Committed = PartsKnown B x parts
PhaseKnown B x parts waiting Released = PartsKnown B x parts
PhaseKnown B x parts waiting (Aborted sent) = Unit {0}

pub record TransactionKnown (B : ℕ → ℕ → Named → Type 0) (x : Named)
    (t : Transaction) : Type 0 where
  pub parts : PhaseKnown B x t.parts t.waiting t.phase
  pub waiting : PostsKnown B t.waiting

abbrev pub DoingKnown : (ℕ → ℕ → Named → Type 0) → Lsid → ℤ → Doing → Type 0
DoingKnown B lsid number (Begun t) =
    TransactionKnown B (record { tag = t.tag; lsid = lsid; number = number }) t
DoingKnown B lsid number (Sought seeking known) = Unit {0}

abbrev pub RouterKnown : (ℕ → ℕ → Named → Type 0) → RouterState → Type 0
RouterKnown B r = All (λ entry. DoingKnown B entry.0 entry.1.number entry.1.doing) r.sessions

-- Of all nodes and messages. A shard that hasn't answered a router is of boot 0 there, which none
-- has.

abbrev pub Known : Nodes → ℕ → ℕ → Named → Type 0
Known nodes shard boot x =
    (boot ≡ 0) ⊎ (Contains (names_of nodes) x × KnowsBoot nodes shard boot x.lsid x.number x.tag)

-- the transaction of an answer that isn't a refusal has come to its shard in its boot
abbrev pub IsTold : Nodes → Answer → OpReply × Bool → Type 0
IsTold nodes a done =
    (x : Named) × Contains (names_of nodes) x × (x.tag ≡ a.tag)
    × KnowsBoot nodes a.shard a.boot x.lsid x.number x.tag

abbrev pub Tells : Nodes → Answer → Type 0
Tells nodes a = IfOk a.outcome (IsTold nodes a)

pub record NodeKnown (nodes : Nodes) (n : NodeState) : Type 0 where
  pub boot : 0 < n.core.part.boot
  pub sessions : PartNamed (Contains (names_of nodes)) n.core.part
  pub records : All (RecNamed (Contains (names_of nodes))) n.records
  pub hand : All (RecNamed (Contains (names_of nodes))) n.hand
  pub plans : PlansKnown (Known nodes) n.core.coord
  pub begins : All (BeginsKnown (Known nodes)) n.records
  pub more : All (BeginsKnown (Known nodes)) n.hand

pub record KnownStands (nodes : Nodes) : Type 0 where
  pub shards : EachShard nodes (λ number n. NodeKnown nodes n)
  pub routers : (number : ℕ) (r : RouterState) → slice_get nodes.routers number ≡ Some r
      → RouterKnown (Known nodes) r
  pub sent : All (EnvKnown (Known nodes) (Tells nodes)) nodes.sent

-- A disk names no transaction.
abbrev pub NamesNone : Nodes → Type 0
NamesNone nodes = EachShard nodes (λ number n. All (RecNamed NoName) n.records)
