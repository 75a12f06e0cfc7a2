-- What a message does at a shard that isn't stopped, as far as other nodes can tell: what it leaves
-- alone, what it records, and which transactions it names. All parts of the joint invariant rest on
-- this one account of the rules.
use Rattle.std.specs.Prelude.{◌≡◌, ◌≤◌, max, List, All, Some, None, IfSome}
use Rattle.txn_types.specs.Letters.{Letter}
use Rattle.txn_types.specs.declared.decision.Decision.{Decision}
use Rattle.txn_types.specs.declared.event.Happening.{Happening}
use Rattle.txn_types.specs.declared.event.Happening.TheVariants as what
use Rattle.txn_types.specs.declared.event.NodeEvent.{NodeEvent}
use Rattle.txn_types.specs.declared.message.Decide.{Decide}
use Rattle.txn_types.specs.declared.message.Envelope.{Envelope}
use Rattle.txn_types.specs.declared.message.Vote.{Vote}
use Rattle.txn_types.specs.declared.message.Msg.{Msg}
use Rattle.txn_types.specs.declared.message.Msg.TheVariants as msg
use Rattle.txn_types.specs.declared.names.Tag.{Tag}
use Rattle.journal_rec.specs.declared.record.Rec.{Rec}
use Rattle.journal_rec.specs.declared.record.Rec.TheVariants as rec
use Rattle.coordinator.specs.TwoPhase.{Coordinated, Coordinations, coordinated_of, decided_by}
use Rattle.participant.specs.Part.{Part}
use Rattle.shard_core.specs.State.{ShardState, met}
use Rattle.shard_core.specs.Ruled.{Ruled}
use Rattle.shard_core.specs.Core.{CoreStep, entered}
use Rattle.txn_types.specs.Letters.{given_out, Named, named, named_in}

-- a part keeps its shard's number and boot
pub record Same (p q : Part) : Type 0 where
  pub shard : q.shard ≡ p.shard
  pub boot : q.boot ≡ p.boot

-- a decision that is recorded is what the last vote decides
pub record IsDecided (s : ShardState) (m : Msg) (tag : Tag) (d : Decision) : Type 0 where
  pub vote : Vote
  pub is : m ≡ msg.Vote vote
  pub tag_is : tag ≡ vote.tag
  pub coordinated : Coordinated
  pub there : coordinated_of s.coord tag ≡ Some coordinated
  pub decides : decided_by vote.shard vote.vote coordinated ≡ Some d

-- What a message records: a commit or a prepared transaction at the clock's time then, a decision
-- that was sent, or one that is made, and the begin and the end of a commit across shards. No boot,
-- and no ceiling.
abbrev pub MayRecord : ShardState → Msg → ShardState → Rec → Type 0
MayRecord s m new (rec.Boot boot) = ⊥
MayRecord s m new (rec.Ceiling bound) = ⊥
MayRecord s m new (rec.Commit tag lsid number read_at at writes) = at ≡ new.clock.last
MayRecord s m new (rec.Prepared tag lsid number boot read_at at coordinator writes) =
    at ≡ new.clock.last
MayRecord s m new (rec.Decided r) = (d : Decide) × (m ≡ msg.Decide d) × (r.decision ≡ d.decision)
MayRecord s m new (rec.CoordStart tag lsid number parts) = named_in m ≡ named tag lsid number
MayRecord s m new (rec.CoordDecision tag d) = IsDecided s m tag d
MayRecord s m new (rec.CoordEnd tag) = Unit {0}
MayRecord s m new (rec.Floor floor) = ⊥

-- each transaction that is coordinated is named so
abbrev pub plan_name : Tag × Coordinated → Named
plan_name c = record { tag = c.0; lsid = c.1.plan.lsid; number = c.1.plan.number }

abbrev pub AllPlans : (Named → Type 0) → Coordinations → Type 0
AllPlans P coords = All (λ c. P (plan_name c)) coords

-- what a letter names is named so
abbrev pub NamesOnly : (Named → Type 0) → Letter → Type 0
NamesOnly P l = IfSome (named_in l.1) P

abbrev pub AllName : (Named → Type 0) → List Letter → Type 0
AllName P out = All (NamesOnly P) out

-- Of what a message names, and of plans, what is said of names is said of the plans then and of
-- what is sent.
pub record Effect (P : Named → Type 0) (s : ShardState) (m : Msg) (r : Ruled) : Type 0 where
  pub wall : r.core.wall ≡ s.wall
  pub stopped : r.core.stopped ≡ s.stopped
  pub same : Same s.part r.core.part
  pub recorded : IfSome r.rec (MayRecord s m r.core)
  pub plans : IfSome (named_in m) P → AllPlans P s.coord → AllPlans P r.core.coord
  pub names : IfSome (named_in m) P → AllPlans P s.coord → AllName P r.out

-- A step.

-- what an event names is named so
abbrev pub NamesBy : (Named → Type 0) → Happening → Type 0
NamesBy P (what.Deliver e) = IfSome (named_in e.msg) P
NamesBy P other = Unit {0}

-- what is sent is named so
abbrev pub SentNames : (Named → Type 0) → List Envelope → Type 0
SentNames P out = All (λ e. IfSome (named_in e.msg) P) out

-- a step's record is that of the message which it was given, as the rule of the message met the
-- shard
abbrev pub StepRecords : ShardState → NodeEvent → ShardState → Rec → Type 0
StepRecords s e new r = (sent : Envelope) × (e.what ≡ what.Deliver sent)
    × MayRecord (met (entered s e) sent) sent.msg new r

pub record StepEffect (P : Named → Type 0) (s : ShardState) (e : NodeEvent)
    (o : CoreStep) : Type 0 where
  pub wall : o.core.wall ≤ max s.wall e.wall
  pub ceiling : s.clock.ceiling ≤ o.core.clock.ceiling
  pub stopped : o.core.stopped ≡ s.stopped
  pub same : Same s.part o.core.part
  pub recorded : IfSome o.rec (StepRecords s e o.core)
  pub plans : NamesBy P e.what → AllPlans P s.coord → AllPlans P o.core.coord
  pub names : NamesBy P e.what → AllPlans P s.coord → SentNames P (given_out o.answer)

-- a stopped shard's step changes nothing, and a shard without memory's neither
pub record Rests (s : ShardState) (o : CoreStep) : Type 0 where
  pub core : o.core ≡ s
  pub ceiling : o.ceiling ≡ None
  pub rec : o.rec ≡ None
