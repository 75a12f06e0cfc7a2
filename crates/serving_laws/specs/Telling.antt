-- What a shard's Answers tell of the statements that were served there.
use Rattle.std.specs.Prelude.{◌≡◌, ◌⊎◌, List, [], ◌∷◌, Result, Ok, Err, Bool}
use Rattle.txn_types.specs.declared.cause.Cause.{Cause}
use Rattle.txn_types.specs.declared.cause.Cause.TheVariants as cause
use Rattle.txn_types.specs.declared.event.Happening.{Happening}
use Rattle.txn_types.specs.declared.event.Happening.TheVariants as what
use Rattle.txn_types.specs.declared.message.Answer.{Answer}
use Rattle.txn_types.specs.declared.message.Envelope.{Envelope}
use Rattle.txn_types.specs.declared.message.Msg.{Msg}
use Rattle.txn_types.specs.declared.message.Msg.TheVariants as msg
use Rattle.txn_types.specs.declared.operation.OpReply.{OpReply}
use Rattle.txn_semantics.specs.Meaning.{Meaning, reply_of}
use Rattle.part_laws.specs.Each.{Among}
use Rattle.part_laws.specs.Sound.{Served}
use Rattle.part_laws.specs.Parts.{IsRefusedBy}
use Rattle.participant.specs.Part.{Part}
use Rattle.part_laws.specs.Turned.{IsOf, NoneBegins, IsAnew, LivesFor}

-- an Answer's outcome tells this meaning: its reply, or its refusal
abbrev pub TellsRefusal : Meaning → Cause → Type 0
TellsRefusal meaning (cause.Statement err) = meaning ≡ Err err
TellsRefusal meaning other = ⊥

abbrev pub Tells : Meaning → Result (OpReply × Bool) Cause → Type 0
Tells meaning (Ok done) = reply_of meaning ≡ Ok done.0
Tells meaning (Err why) = TellsRefusal meaning why

-- it is the Answer to this served statement
pub record IsAnswerOf (x : Served) (a : Answer) : Type 0 where
  pub tag : a.tag ≡ x.tag
  pub k : a.k ≡ x.k
  pub read_at : a.read_at ≡ x.read_at
  pub outcome : Tells x.meaning a.outcome

abbrev pub AnswersTo : Served → Msg → Type 0
AnswersTo x (msg.Answer a) = IsAnswerOf x a
AnswersTo x other = ⊥

-- In the boot that it names, a reply was told of a served statement of its transaction and place,
-- at that moment; the refusal of a statement by its meaning of one of its transaction, which it
-- ended. Other causes are told of none.

abbrev pub RefusedThere : List Served → Answer → Cause → Type 0
RefusedThere served a (cause.Statement err) = IsRefusedBy a.boot served a.tag err a.read_at
RefusedThere served a other = Unit {0}

abbrev pub ToldThere : List Served → Answer → Result (OpReply × Bool) Cause → Type 0
ToldThere served a (Ok done) = (x : Served) × Among x served × (x.tag ≡ a.tag) × (x.k ≡ a.k)
    × (x.read_at ≡ a.read_at) × (reply_of x.meaning ≡ Ok done.0) × (x.life ≡ a.boot)
ToldThere served a (Err why) = RefusedThere served a why

abbrev pub IsToldBy : List Served → Msg → Type 0
IsToldBy served (msg.Answer a) = ToldThere served a a.outcome
IsToldBy served other = Unit {0}

-- What a step adds to what was served, from this part to that: nothing, and nothing more is live;
-- or the statement that was delivered, served anew in this boot, whose Answer is all that it gives
-- out.

abbrev pub GrowsBy : Part → Part → Msg → List Served → List Served → List Envelope → Type 0
GrowsBy p q (msg.Statement m) served told out =
    ((told ≡ served) × NoneBegins p q)
    ⊎ ((x : Served) × (told ≡ x ∷ served) × IsOf m x × (x.life ≡ q.boot) × IsAnew p m x.read_at
    × LivesFor p q m.lsid x × ((e : Envelope) × (out ≡ e ∷ []) × AnswersTo x e.msg))
GrowsBy p q other served told out = (told ≡ served) × NoneBegins p q

abbrev pub Grows : Part → Part → Happening → List Served → List Served → List Envelope → Type 0
Grows p q (what.Deliver e) served told out = GrowsBy p q e.msg served told out
Grows p q other served told out = (told ≡ served) × NoneBegins p q
