-- Sessions go on: their numbers don't fall, and each transaction that one has was named by a
-- message.
use Rattle.std.specs.Prelude.{◌≡◌, ◌≤ℤ◌, ℤ, Some}
use Rattle.txn_types.specs.declared.names.Tag.{Tag}
use Rattle.txn_types.specs.declared.node.Lsid.{Lsid}
use Rattle.session_table.specs.declared.session.Session.{Session}
use Rattle.session_table.specs.Sessions.{Table, session_of}
use Rattle.participant.specs.Part.{Part}
use Rattle.txn_types.specs.Letters.{Named}

-- the session stands with a number as great
abbrev pub AtLeast : Table → Lsid → ℤ → Type 0
AtLeast table lsid number = (s : Session) × (session_of table lsid ≡ Some s) × (number ≤ℤ s.number)

-- the name of a session's transaction
abbrev pub name_of : Lsid → Session → Named
name_of lsid s = record { tag = s.tag; lsid = lsid; number = s.number }

abbrev pub SessionsNamed : (Named → Type 0) → Table → Type 0
SessionsNamed P table = (lsid : Lsid) (s : Session) → session_of table lsid ≡ Some s
    → P (name_of lsid s)

pub record TablesGo (P : Named → Type 0) (old new : Table) : Type 0 where
  pub numbers : (lsid : Lsid) (s : Session) → session_of old lsid ≡ Some s
      → AtLeast new lsid s.number
  pub named : SessionsNamed P old → SessionsNamed P new

-- a part goes on, of its shard and in its boot
pub record GoesOn (P : Named → Type 0) (p q : Part) : Type 0 where
  pub shard : q.shard ≡ p.shard
  pub boot : q.boot ≡ p.boot
  pub sessions : TablesGo P p.sessions q.sessions

-- the transaction has a name, whose session stands with a number as great
abbrev pub IsHeld : (Named → Type 0) → Table → Tag → Type 0
IsHeld P table tag = (x : Named) × P x × (x.tag ≡ tag) × AtLeast table x.lsid x.number

-- each tag names one session and number
abbrev pub IsOnce : (Named → Type 0) → Type 0
IsOnce P = (a b : Named) → P a → P b → a.tag ≡ b.tag → (a.lsid ≡ b.lsid) × (a.number ≡ b.number)
