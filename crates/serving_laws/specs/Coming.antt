-- What comes to a shard: what a message must find there.
use Rattle.std.specs.Prelude.{◌≡◌, ◌<ℤ◌, List, [], Some}
use Rattle.txn_types.specs.declared.event.Happening.{Happening}
use Rattle.txn_types.specs.declared.event.Happening.TheVariants as what
use Rattle.txn_types.specs.declared.message.Msg.{Msg}
use Rattle.txn_types.specs.declared.message.Msg.TheVariants as msg
use Rattle.txn_types.specs.declared.message.Statement.{Statement}
use Rattle.txn_semantics.specs.declared.commits.Entry.{Entry}
use Rattle.session_table.specs.declared.session.Session.{Session}
use Rattle.participant.specs.Part.{Part, session}
use Rattle.part_laws.specs.Sound.{Opens, Served, written, HasNone}
use Rattle.part_laws.specs.Kept.{IsDecided}

-- the session of a statement has no number as great
abbrev pub MayBegin : Part → Statement → Type 0
MayBegin p m = (s : Session) → session p m.lsid ≡ Some s → s.number <ℤ m.number

-- where its session has no number as great, a statement's transaction wrote nothing here in this
-- boot, and has no commit
abbrev pub IsNew : Part → List Entry → List Served → Statement → Type 0
IsNew p entries served m = MayBegin p m → (written m.tag p.boot served ≡ []) × HasNone m.tag entries

-- a statement is new where it may begin its transaction, and a decision of a prepared one is that
-- of the commits
abbrev pub MsgComes : Part → Opens → List Entry → List Served → Msg → Type 0
MsgComes p opens entries served (msg.Statement m) = IsNew p entries served m
MsgComes p opens entries served (msg.Decide m) = IsDecided opens m
MsgComes p opens entries served other = Unit {0}

abbrev pub EventComes : Part → Opens → List Entry → List Served → Happening → Type 0
EventComes p opens entries served (what.Deliver e) = MsgComes p opens entries served e.msg
EventComes p opens entries served other = Unit {0}
