-- What holds of a shard's part beside the commits of its shard and what was served there: its store
-- is sound, and its sessions have the open transactions.
use Rattle.std.specs.Prelude.{◌≡◌, ℕ, true, false, List, Option, Some, None, Ok, Err, is_some}
use Rattle.std.specs.Prelude.{if◌then◌else◌}
use Rattle.txn_types.specs.Order.{same_tag, lsid_cmp}
use Rattle.txn_types.specs.declared.cause.Cause.TheVariants as cause
use Rattle.txn_types.specs.declared.names.Tag.{Tag}
use Rattle.txn_types.specs.declared.node.Lsid.{Lsid}
use Rattle.txn_types.specs.declared.operation.OpErr.{OpErr}
use Rattle.txn_semantics.specs.declared.commits.Entry.{Entry}
use Rattle.txn_semantics.specs.Keyed.{Rises}
use Rattle.txn_semantics.specs.Meaning.{reply_of}
use Rattle.session_table.specs.declared.session.Session.{Session}
use Rattle.session_table.specs.declared.session.SessionState.{SessionState}
use Rattle.session_table.specs.declared.session.SessionState.TheVariants.{Live, Prepared, Committed}
use Rattle.session_table.specs.declared.session.SessionState.TheVariants.{Released, Aborted}
use Rattle.participant.specs.declared.said.Open.{Open}
use Rattle.participant.specs.Part.{Part, session, open_of, is_open}
use Rattle.part_laws.specs.Each.{Among}
use Rattle.part_laws.specs.Sound.{Opened, Opens, Served, IsSound}

-- what a live transaction has here
abbrev pub opened_of : ℕ → Open → Opened
opened_of boot o =
    record { life = boot; read_at = o.read_at; prepared = None; decided = None; writes = o.writes }

abbrev pub LiveAt : ℕ → Opens → Tag → Option Open → Type 0
LiveAt boot opens tag None = ⊥
LiveAt boot opens tag (Some o) = (o.tag ≡ tag) × (opens tag ≡ Some (opened_of boot o))

abbrev pub PreparedAt : Opens → Tag → ℕ → Option Open → Type 0
PreparedAt opens tag at o = (o ≡ None)
    × ((x : Opened) × (opens tag ≡ Some x) × (x.prepared ≡ Some at))

-- what stands beside a session in this state
abbrev pub AtState : ℕ → Opens → Tag → SessionState → Option Open → Type 0
AtState boot opens tag Live o = LiveAt boot opens tag o
AtState boot opens tag (Prepared at coordinator) o = PreparedAt opens tag at o
AtState boot opens tag (Committed at) o = o ≡ None
AtState boot opens tag Released o = o ≡ None
AtState boot opens tag (Aborted why read_at) o = o ≡ None

abbrev pub AtSession : ℕ → Opens → Option Session → Option Open → Type 0
AtSession boot opens None o = o ≡ None
AtSession boot opens (Some s) o = AtState boot opens s.tag s.state o

-- some session has the transaction
abbrev pub HeldBy : Part → Tag → Type 0
HeldBy p tag = (lsid : Lsid) × (s : Session) × (session p lsid ≡ Some s) × (s.tag ≡ tag)
    × (is_open s.state ≡ true)

-- what a live transaction's newest statement was answered, a served statement of it was told, in
-- this boot
abbrev pub IsKept : ℕ → List Served → Open → Type 0
IsKept boot served o = (s : Served) × Among s served × (s.tag ≡ o.tag) × (s.k ≡ o.k)
    × (s.read_at ≡ o.read_at) × (reply_of s.meaning ≡ Ok o.reply) × (s.life ≡ boot)

-- a statement of this transaction was served in this boot, and its meaning refused it so
abbrev pub IsRefusedBy : ℕ → List Served → Tag → OpErr → ℕ → Type 0
IsRefusedBy boot served tag err at = (s : Served) × Among s served × (s.tag ≡ tag)
    × (s.read_at ≡ at) × (s.meaning ≡ Err err) × (s.life ≡ boot)

pub record IsServing (p : Part) (opens : Opens) (last : ℕ) (entries : List Entry)
    (served : List Served) : Type 0 where
  pub sound : IsSound p.store opens last entries served
  pub rises : Rises lsid_cmp p.live
  pub sessions : (lsid : Lsid) → AtSession p.boot opens (session p lsid) (open_of p lsid)
  pub kept : (lsid : Lsid) (o : Open) → open_of p lsid ≡ Some o → IsKept p.boot served o
  pub refusals : (lsid : Lsid) (s : Session) (err : OpErr) (at : ℕ) → session p lsid ≡ Some s
      → s.state ≡ Aborted (cause.Statement err) at → IsRefusedBy p.boot served s.tag err at
  pub held : (tag : Tag) (o : Opened) → opens tag ≡ Some o → HeldBy p tag
  pub alone : (a b : Lsid) (s t : Session) → session p a ≡ Some s → session p b ≡ Some t
      → is_open s.state ≡ true → is_open t.state ≡ true → s.tag ≡ t.tag → a ≡ b

-- an open transaction, where it is prepared
abbrev pub if_prepared : Option Opened → Option Opened
if_prepared None = None
if_prepared (Some o) = if is_some o.prepared then Some o else None

-- the same are prepared
abbrev pub SamePrepared : Opens → Opens → Type 0
SamePrepared old new = (tag : Tag) → if_prepared (new tag) ≡ if_prepared (old tag)

-- the same are prepared, but for this one
abbrev pub SameBut : Tag → Opens → Opens → Type 0
SameBut tag old new = (other : Tag) → same_tag other tag ≡ false
    → if_prepared (new other) ≡ if_prepared (old other)

-- it holds with some open transactions, of which the same are prepared as before
abbrev pub Holds : Opens → Part → ℕ → List Entry → List Served → Type 0
Holds old p last entries served = (opens : Opens) × IsServing p opens last entries served
    × SamePrepared old opens

abbrev pub HoldsBut : Tag → Opens → Part → ℕ → List Entry → List Served → Type 0
HoldsBut tag old p last entries served = (opens : Opens) × IsServing p opens last entries served
    × SameBut tag old opens
