-- What a shard does that commits alone: no message and no record of a commit of several shards.
use Rattle.std.specs.Prelude.{◌≡◌, ◌≤◌, ℕ, ℤ, [], All, Bool, Some, IfSome, Result, Ok, Err}
use Rattle.txn_types.specs.declared.cause.Cause.{Cause}
use Rattle.txn_types.specs.declared.cause.Cause.TheVariants as cause
use Rattle.txn_types.specs.declared.event.Happening.{Happening}
use Rattle.txn_types.specs.declared.event.Happening.TheVariants as what
use Rattle.txn_types.specs.declared.message.Commit.{Commit}
use Rattle.txn_types.specs.declared.message.Envelope.{Envelope}
use Rattle.txn_types.specs.declared.message.Msg.{Msg}
use Rattle.txn_types.specs.declared.message.Msg.TheVariants as msg
use Rattle.txn_types.specs.declared.message.Statement.{Statement}
use Rattle.txn_types.specs.declared.node.Lsid.{Lsid}
use Rattle.txn_types.specs.declared.operation.OpReply.{OpReply}
use Rattle.journal_rec.specs.declared.record.Rec.{Rec}
use Rattle.journal_rec.specs.declared.record.Rec.TheVariants as rec
use Rattle.participant.specs.Part.{Part}
use Rattle.participant.specs.declared.said.Said.{Said}
use Rattle.participant.specs.declared.said.Said.TheVariants.{Did, Refused}
use Rattle.session_table.specs.declared.session.Session.{Session}
use Rattle.participant.specs.Part.{session}
use Rattle.shard_core.specs.State.{ShardState}
use Rattle.shard_core.specs.Core.{CoreStep}
use Rattle.txn_types.specs.Letters.{Named, given_out}
use Rattle.one_shard_laws.specs.Sessions.{AtLeast, GoesOn}

-- a message that no commit of several shards needs; an Answer is the first shard's
abbrev pub IsAlone : Msg → Type 0
IsAlone (msg.Answer a) = a.shard ≡ 0
IsAlone (msg.CommitTwo m) = ⊥
IsAlone (msg.Prepare m) = ⊥
IsAlone (msg.Vote m) = ⊥
IsAlone (msg.Decide m) = ⊥
IsAlone (msg.Acked m) = ⊥
IsAlone other = Unit {0}

abbrev pub EventAlone : Happening → Type 0
EventAlone (what.Deliver e) = IsAlone e.msg
EventAlone other = Unit {0}

-- a record of a boot, of a ceiling, or of a commit of this shard, which was named
abbrev pub RecAlone : (Named → Type 0) → Rec → Type 0
RecAlone P (rec.Boot boot) = Unit {0}
RecAlone P (rec.Ceiling bound) = Unit {0}
RecAlone P (rec.Commit tag lsid number read_at at writes) =
    P (record { tag = tag; lsid = lsid; number = number })
RecAlone P other = ⊥

-- the session has this number
abbrev pub HasNumber : Part → Lsid → ℤ → Type 0
HasNumber p lsid number = (s : Session) × (session p lsid ≡ Some s) × (s.number ≡ number)

-- a commit's record: it was named; its number is that of its session before, which has it still;
-- and its time is at or below the clock
abbrev pub RecHeld : (Named → Type 0) → Part → Part → ℕ → Rec → Type 0
RecHeld P p q last (rec.Commit tag lsid number read_at at writes) =
    P (record { tag = tag; lsid = lsid; number = number })
    × HasNumber p lsid number × AtLeast q.sessions lsid number × (at ≤ last)
RecHeld P p q last other = ⊥

-- the message asks for the commit that is recorded, in this boot
abbrev pub AsksFor : Msg → ℕ → Rec → Type 0
AsksFor m boot (rec.Commit tag lsid number read_at at writes) =
    (c : Commit) × (m ≡ msg.Commit c) × (c.tag ≡ tag) × (c.boot ≡ boot)
AsksFor m boot other = ⊥

abbrev pub EventAsksFor : Happening → ℕ → Rec → Type 0
EventAsksFor (what.Deliver e) boot r = AsksFor e.msg boot r
EventAsksFor other boot r = ⊥

-- Where a statement is done, or refused by its meaning, its session has its number, or has gone on.

abbrev pub IsMeant : Cause → Type 0
IsMeant (cause.Statement err) = Unit {0}
IsMeant other = ⊥

abbrev pub SaidAtLeast : Statement → Said → Part → Type 0
SaidAtLeast m (Did at reply wrote) q = AtLeast q.sessions m.lsid m.number
SaidAtLeast m (Refused why at) q = IsMeant why → AtLeast q.sessions m.lsid m.number
SaidAtLeast m other q = Unit {0}

abbrev pub IsServedBy : Result (OpReply × Bool) Cause → Type 0
IsServedBy (Ok done) = Unit {0}
IsServedBy (Err why) = IsMeant why

abbrev pub AnswerAtLeast : Part → Statement → Msg → Type 0
AnswerAtLeast q m (msg.Answer a) = IsServedBy a.outcome → AtLeast q.sessions m.lsid m.number
AnswerAtLeast q m other = Unit {0}

abbrev pub ServedAtLeast : Part → Msg → Msg → Type 0
ServedAtLeast q (msg.Statement m) answer = AnswerAtLeast q m answer
ServedAtLeast q other answer = Unit {0}

abbrev pub EventAtLeast : Part → Happening → Msg → Type 0
EventAtLeast q (what.Deliver e) answer = ServedAtLeast q e.msg answer
EventAtLeast q other answer = Unit {0}

-- A step: sessions go on; nothing is coordinated; what is recorded is the commit that its message
-- asks for; and nothing is sent of a commit of several shards.
pub record StepAlone (P : Named → Type 0) (s : ShardState) (w : Happening)
    (o : CoreStep) : Type 0 where
  pub goes : GoesOn P s.part o.core.part
  pub coord : o.core.coord ≡ []
  pub rec : IfSome o.rec
      (λ (r : Rec). (p : Part) × GoesOn P s.part p × RecHeld P p o.core.part o.core.clock.last r)
  pub asked : IfSome o.rec (EventAsksFor w o.core.part.boot)
  pub out : All (λ (e : Envelope). IsAlone e.msg) (given_out o.answer)
  pub served : All (λ (e : Envelope). EventAtLeast o.core.part w e.msg) (given_out o.answer)

-- what a router sends is of one shard: no message of a shard, and none of a commit of several
abbrev pub IsAskedAlone : Msg → Type 0
IsAskedAlone (msg.Statement m) = Unit {0}
IsAskedAlone (msg.Commit m) = Unit {0}
IsAskedAlone (msg.Abort m) = Unit {0}
IsAskedAlone (msg.Recover m) = Unit {0}
IsAskedAlone msg.Nudge = Unit {0}
IsAskedAlone other = ⊥
