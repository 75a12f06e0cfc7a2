-- What a shard's step leaves of what holds of its part beside its commits and what was served
-- there.
use Rattle.std.specs.Prelude.{◌≡◌, ◌⊎◌, ◌≤◌, ℕ, List, All, Option, Some, None}
use Rattle.txn_types.specs.declared.event.Happening.{Happening}
use Rattle.txn_types.specs.declared.event.Happening.TheVariants as what
use Rattle.txn_types.specs.declared.message.Envelope.{Envelope}
use Rattle.txn_types.specs.declared.message.Msg.{Msg}
use Rattle.txn_types.specs.declared.message.Msg.TheVariants as msg
use Rattle.txn_semantics.specs.declared.commits.Entry.{Entry}
use Rattle.journal_rec.specs.declared.record.Rec.{Rec}
use Rattle.journal_rec.specs.declared.record.Rec.TheVariants as rec
use Rattle.participant.specs.Expiry.{expire}
use Rattle.participant.specs.Part.{Part}
use Rattle.part_laws.specs.Sound.{Opens, Served}
use Rattle.part_laws.specs.Parts.{Holds, HoldsBut}
use Rattle.part_laws.specs.Kept.{CommitsBy, PreparesBy}
use Rattle.shard_core.specs.State.{ShardState}
use Rattle.shard_core.specs.Core.{CoreStep}
use Rattle.txn_types.specs.Letters.{given_out}
use Rattle.serving_laws.specs.Telling.{IsToldBy, Grows}

-- a record of no commit here, of nothing that is prepared here and of no decision applied here
abbrev pub CoordinatesOnly : Rec → Type 0
CoordinatesOnly (rec.CoordStart tag lsid number parts) = Unit {0}
CoordinatesOnly (rec.CoordDecision tag decision) = Unit {0}
CoordinatesOnly (rec.CoordEnd tag) = Unit {0}
CoordinatesOnly other = ⊥

abbrev pub NoneButCoord : Option Rec → Type 0
NoneButCoord None = Unit {0}
NoneButCoord (Some r) = CoordinatesOnly r

abbrev pub AppliesOnly : Rec → Type 0
AppliesOnly (rec.Decided d) = Unit {0}
AppliesOnly other = ⊥

abbrev pub NoneButDecided : Option Rec → Type 0
NoneButDecided None = Unit {0}
NoneButDecided (Some r) = AppliesOnly r

-- after a message: a commit's record adds its entry, by its time; a prepare's stands prepared; a
-- decision is applied to its transaction; and else the commits stay, and what is prepared
abbrev pub LeftBy : Opens → Part → ℕ → ℕ → List Entry → List Served → Msg → Option Rec → Type 0
LeftBy old q last later entries told (msg.Commit m) recorded =
    CommitsBy old q last later entries told recorded
LeftBy old q last later entries told (msg.Prepare m) recorded =
    PreparesBy old q last later entries told recorded
LeftBy old q last later entries told (msg.Decide m) recorded =
    HoldsBut m.tag old q later entries told × NoneButDecided recorded
LeftBy old q last later entries told other recorded = Holds old q later entries told
    × NoneButCoord recorded

abbrev pub Left : Opens → Part → ℕ → ℕ → List Entry → List Served → Happening → Option Rec → Type 0
Left old q last later entries told (what.Deliver e) recorded =
    LeftBy old q last later entries told e.msg recorded
Left old q last later entries told other recorded = Holds old q later entries told
    × NoneButCoord recorded

-- at its event a shard first ends what expired, if anything
abbrev pub Enters : Part → Part → Type 0
Enters p entered = (entered ≡ p) ⊎ ((wall : ℕ) × (entered ≡ expire p wall))

-- after a step: what was served, with at most one statement more; the clock when its message had
-- come; and what is left
pub record StepServes (old : Opens) (s : ShardState) (w : Happening) (entries : List Entry)
    (served : List Served) (o : CoreStep) : Type 0 where
  pub told : List Served
  pub last : ℕ
  pub rises : s.clock.last ≤ last
  pub left : Left old o.core.part last o.core.clock.last entries told w o.rec
  pub entered : Part
  pub enters : Enters s.part entered
  pub grows : Grows entered o.core.part w served told (given_out o.answer)
  pub answered : All (λ (e : Envelope). IsToldBy told e.msg) (given_out o.answer)
