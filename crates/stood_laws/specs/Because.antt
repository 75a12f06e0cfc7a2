-- Why a shard's rules refuse: what stands at its part where a rule makes a cause.
use Rattle.std.specs.Prelude.{◌≡◌, ◌≢◌, ◌⊎◌, ◌<◌, ◌<ℤ◌, ◌-◌, ℕ, List, true, false}
use Rattle.std.specs.Prelude.{Option, Some, None, Ok, Err, unwrap_or, option_map}
use Rattle.txn_types.specs.Clock.{last_time}
use Rattle.txn_types.specs.Limits.{most_written}
use Rattle.txn_types.specs.Order.{same_tag}
use Rattle.txn_types.specs.declared.cause.Cause.{Cause}
use Rattle.txn_types.specs.declared.cause.Cause.TheVariants as cause
use Rattle.txn_types.specs.declared.event.Happening.TheVariants as what
use Rattle.txn_types.specs.declared.event.NodeEvent.{NodeEvent}
use Rattle.txn_types.specs.declared.message.Commit.{Commit}
use Rattle.txn_types.specs.declared.message.Envelope.{Envelope}
use Rattle.txn_types.specs.declared.message.Msg.{Msg}
use Rattle.txn_types.specs.declared.message.Msg.TheVariants as msg
use Rattle.txn_types.specs.declared.message.Recover.{Recover}
use Rattle.txn_types.specs.declared.message.Statement.{Statement}
use Rattle.txn_types.specs.declared.names.Tag.{Tag}
use Rattle.txn_types.specs.declared.node.Lsid.{Lsid}
use Rattle.txn_types.specs.declared.operation.OpReply.{OpReply}
use Rattle.txn_types.specs.declared.write.Write.{Write}
use Rattle.txn_semantics.specs.Meaning.{eval, ns_of}
use Rattle.txn_semantics.specs.Rows.{Row}
use Rattle.txn_semantics.specs.Touched.{touched}
use Rattle.journal_rec.specs.Volume.{volume}
use Rattle.session_table.specs.Sessions.{is_full}
use Rattle.session_table.specs.declared.session.Session.{Session}
use Rattle.session_table.specs.declared.session.SessionState.TheVariants as state
use Rattle.version_store.specs.Versions.{scan, conflict}
use Rattle.participant.specs.declared.said.Open.{Open}
use Rattle.participant.specs.Part.{Part, session, open_of}
use Rattle.participant.specs.Stands.{mine}
use Rattle.participant.specs.Statement.{read_time, writes_with}
use Rattle.shard_core.specs.State.{ShardState, met}
use Rattle.shard_core.specs.Core.{entered}

-- what a statement reads at: its transaction's moment, where this is live here
abbrev pub moment_of : ℕ → Statement → Option Open → ℕ
moment_of last m mine = unwrap_or (option_map (λ (o : Open). o.read_at) mine) (read_time last m)

-- the rows that a statement sees of the shard's store
abbrev pub Sees : Part → ℕ → Statement → List Row → Type 0
Sees p at m rows = scan p.store (ns_of m.op) (touched m.op) at m.tag ≡ Ok rows

-- it is done over these rows
abbrev pub DoneOver : Part → ℕ → Statement → OpReply → List Write → Type 0
DoneOver p at m reply writes = (rows : List Row) × Sees p at m rows
    × (eval m.op rows ≡ Ok (reply, writes))

-- a statement that names another boot: one that isn't the first of its transaction, which isn't
-- here, or one that comes after the newest of its live transaction
abbrev pub IsNewer : Part → Statement → Type 0
IsNewer p m = (s : Session) → session p m.lsid ≡ Some s → s.number <ℤ m.number

abbrev pub IsAfter : Part → Statement → Type 0
IsAfter p m = (o : Open) × (open_of p m.lsid ≡ Some o) × (o.tag ≡ m.tag) × (o.k < m.k)

abbrev pub NamesOther : Part → Statement → Type 0
NamesOther p m = ((0 < m.boot) × IsNewer p m) ⊎ ((m.boot ≢ p.boot) × IsAfter p m)

-- a statement that is served anew: the first of a transaction that its session hasn't, or one that
-- comes after the newest of its live transaction, in its boot
abbrev pub BeginsHere : Part → Statement → Type 0
BeginsHere p m = (m.boot ≡ 0)
    × ((s : Session) → session p m.lsid ≡ Some s → same_tag s.tag m.tag ≡ false)

abbrev pub GoesOnHere : Part → Statement → Type 0
GoesOnHere p m = (o : Open) × (open_of p m.lsid ≡ Some o) × (o.tag ≡ m.tag) × (o.k < m.k)
    × (m.boot ≡ p.boot)

abbrev pub IsAnewHere : Part → Statement → Type 0
IsAnewHere p m = BeginsHere p m ⊎ GoesOnHere p m

-- for a statement that comes to a shard's part, at the clock's last time
abbrev pub Because : Part → ℕ → Statement → Cause → Type 0
Because p last m (cause.Replaced number other) =
    (s : Session) × (session p m.lsid ≡ Some s) × (s.number ≡ number) × (s.tag ≡ other)
    × ((m.number <ℤ number) ⊎ ((m.number ≡ number) × (other ≢ m.tag)))
Because p last m (cause.Unavailable carried have) = (carried ≡ m.boot) × (have ≡ p.boot)
    × NamesOther p m
Because p last m (cause.PreparedStands other) =
    (s : Session) × (session p m.lsid ≡ Some s) × (s.tag ≡ other)
    × ((at : ℕ) × (coordinator : ℕ) × (s.state ≡ state.Prepared at coordinator))
Because p last m cause.TooManySessions = (is_full p.sessions ≡ true) × (session p m.lsid ≡ None)
Because p last m (cause.Statement err) =
    (rows : List Row) × Sees p (moment_of last m (mine p m)) m rows × (eval m.op rows ≡ Err err)
    × IsAnewHere p m
Because p last m (cause.WriteConflict id by) =
    (reply : OpReply) × (writes : List Write)
    × DoneOver p (moment_of last m (mine p m)) m reply writes
    × (conflict p.store (moment_of last m (mine p m)) m.tag writes ≡ Some (id, by))
Because p last m (cause.Volume bytes) =
    (reply : OpReply) × (writes : List Write)
    × DoneOver p (moment_of last m (mine p m)) m reply writes
    × (bytes ≡ volume (writes_with (mine p m) writes)) × (most_written < bytes)
    × IsAnewHere p m
Because p last m other = ⊥

-- for a commit
abbrev pub IsElsewhere : Part → Commit → Type 0
IsElsewhere p m = (s : Session) → session p m.lsid ≡ Some s
    → (s.tag ≢ m.tag) × ((m.number <ℤ s.number) → ⊥)

abbrev pub CommitBecause : Part → ℕ → Commit → Cause → Type 0
CommitBecause p last m (cause.Unavailable carried have) = (carried ≡ m.boot) × (have ≡ p.boot)
    × ((m.boot ≢ p.boot) ⊎ IsElsewhere p m)
CommitBecause p last m (cause.ClockEnd end) = (end ≡ last) × (last ≡ last_time)
CommitBecause p last m other = ⊥

-- for a recovery: what is live is ended, and what isn't here may have been in an earlier boot
abbrev pub RecoverBecause : Part → Recover → Cause → Type 0
RecoverBecause p m (cause.Unavailable carried have) = (carried ≡ m.boot) × (have ≡ p.boot)
    × (m.boot ≢ p.boot)
RecoverBecause p m (cause.ClientAbort why) = why ≡ 3
RecoverBecause p m other = ⊥

-- the session and the transaction that a message aims at
abbrev pub Aims : Lsid → Tag → Msg → Type 0
Aims lsid tag (msg.Statement m) = (m.lsid ≡ lsid) × (m.tag ≡ tag)
Aims lsid tag (msg.Commit m) = (m.lsid ≡ lsid) × (m.tag ≡ tag)
Aims lsid tag (msg.Abort m) = (m.lsid ≡ lsid) × (m.tag ≡ tag)
Aims lsid tag (msg.Recover m) = (m.lsid ≡ lsid) × (m.tag ≡ tag)
Aims lsid tag other = ⊥

-- why the rule of a message makes a cause, at a shard that commits alone
abbrev pub MsgBecause : ShardState → Msg → Cause → Type 0
MsgBecause s (msg.Statement m) why = Because s.part s.clock.last m why
MsgBecause s (msg.Commit m) why = CommitBecause s.part s.clock.last m why
MsgBecause s (msg.Abort m) why = why ≡ cause.ClientAbort m.why
MsgBecause s (msg.Recover m) why = RecoverBecause s.part m why
MsgBecause s other why = ⊥

-- a live transaction that is too old at this wall
abbrev pub IsTooOld : Part → ℕ → Lsid → Tag → Cause → Type 0
IsTooOld p wall lsid tag (cause.Expired begun now) = (now ≡ wall)
    × ((o : Open) × (open_of p lsid ≡ Some o) × (o.tag ≡ tag) × (begun ≡ o.begun)
    × (60 < wall - begun))
IsTooOld p wall lsid tag other = ⊥

-- Why the step of a shard that runs tells a cause of a transaction: for want of memory; or to what
-- is delivered, of a transaction which had ended with it, or was too old, or by its rule.
abbrev pub HadEnded : Part → Lsid → Tag → Cause → Type 0
HadEnded p lsid tag why = (s : Session) × (read_at : ℕ) × (session p lsid ≡ Some s)
    × (s.tag ≡ tag) × (s.state ≡ state.Aborted why read_at)

abbrev pub ToldOf : ShardState → NodeEvent → Envelope → Lsid → Tag → Cause → Type 0
ToldOf s e d lsid tag why = HadEnded s.part lsid tag why
    ⊎ (IsTooOld s.part (entered s e).wall lsid tag why
    ⊎ MsgBecause (met (entered s e) d) d.msg why)

abbrev pub ToldAt : ShardState → NodeEvent → Tag → Cause → Type 0
ToldAt s e tag why = (why ≡ cause.Memory) ⊎ ((d : Envelope) × (lsid : Lsid)
    × (e.what ≡ what.Deliver d) × Aims lsid tag d.msg × ToldOf s e d lsid tag why)

abbrev pub RulesAt : ShardState → NodeEvent → Lsid → Tag → Cause → Type 0
RulesAt s e lsid tag why = (d : Envelope) × (e.what ≡ what.Deliver d) × Aims lsid tag d.msg
    × MsgBecause (met (entered s e) d) d.msg why

-- why it ends one
abbrev pub EndsAt : ShardState → NodeEvent → Lsid → Tag → Cause → Type 0
EndsAt s e lsid tag why = (why ≡ cause.Memory)
    ⊎ (IsTooOld s.part (entered s e).wall lsid tag why ⊎ RulesAt s e lsid tag why)
