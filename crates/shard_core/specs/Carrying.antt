-- What a step's record carries after its front, which is known before the step: the writes that
-- the transaction has, or the participants that the message names.
use Rattle.std.specs.Prelude.{◌≡◌, ◌⊎◌, ◌≤◌, ℕ, List, [], ◌∷◌, Option, IfSome}
use Rattle.txn_types.specs.Order.{lsid_cmp}
use Rattle.txn_types.specs.declared.event.Happening.{Happening}
use Rattle.txn_types.specs.declared.event.Happening.TheVariants as what
use Rattle.txn_types.specs.declared.message.Msg.{Msg}
use Rattle.txn_types.specs.declared.message.Msg.TheVariants as msg
use Rattle.txn_types.specs.declared.node.Lsid.{Lsid}
use Rattle.txn_semantics.specs.Keyed.{Rises}
use Rattle.journal_rec.specs.Spelling.{body_bytes, parts_bytes}
use Rattle.journal_rec.specs.Volume.{volume, writes_bytes}
use Rattle.journal_rec.specs.declared.record.Rec.{Rec}
use Rattle.participant.specs.declared.said.Open.{Open}
use Rattle.participant.specs.Part.{Part, open_of}
use Rattle.participant.specs.Statement.{most_bytes, own_of}
use Rattle.shard_core.specs.State.{ShardState}
use Rattle.shard_core.specs.Core.{CoreStep}

-- the writes of each live transaction have at most so many bytes
abbrev pub AreWithin : List (Lsid × Open) → Type 0
AreWithin [] = Unit {0}
AreWithin (entry ∷ live) = (volume entry.1.writes ≤ most_bytes) × AreWithin live

-- live transactions stand by session, each within its volume
pub record IsBounded (p : Part) : Type 0 where
  pub rises : Rises lsid_cmp p.live
  pub within : AreWithin p.live

-- what stands after the front of a record that the delivery of a message makes, where it makes one
-- that carries anything
abbrev pub carried_by : Part → Msg → List ℕ
carried_by p (msg.Commit m) = writes_bytes (own_of (open_of p m.lsid))
carried_by p (msg.Prepare m) = writes_bytes (own_of (open_of p m.lsid))
carried_by p (msg.CommitTwo m) = parts_bytes m.parts
carried_by p other = []

abbrev pub carried : Part → Happening → List ℕ
carried p (what.Deliver e) = carried_by p e.msg
carried p other = []

-- a record carries nothing, or this
abbrev pub Carries : List ℕ → Option Rec → Type 0
Carries body r = IfSome r (λ r. (body_bytes r ≡ []) ⊎ (body_bytes r ≡ body))

-- a step leaves live transactions within their volume, and its record carries what is known before
pub record IsCarried (old : ShardState) (h : Happening) (o : CoreStep) : Type 0 where
  pub bounded : IsBounded o.core.part
  pub carries : Carries (carried old.part h) o.rec
