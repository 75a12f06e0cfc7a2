-- Where a shard tells that it was started again since a transaction came, the boot that was carried
-- isn't the one that it has.
use Rattle.std.specs.Prelude.{◌≢◌, All, Result, Ok, Err}
use Rattle.txn_types.specs.declared.cause.Cause.{Cause}
use Rattle.txn_types.specs.declared.cause.Cause.TheVariants as cause
use Rattle.txn_types.specs.declared.decision.Told.{Told}
use Rattle.txn_types.specs.declared.decision.Told.TheVariants as told
use Rattle.txn_types.specs.declared.message.Envelope.{Envelope}
use Rattle.txn_types.specs.declared.message.Msg.{Msg}
use Rattle.txn_types.specs.declared.message.Msg.TheVariants as msg
use Rattle.txn_types.specs.declared.node.NodeId.TheVariants.{Shard, Router}
use Rattle.session_table.specs.declared.session.SessionState.{SessionState}
use Rattle.session_table.specs.declared.session.SessionState.TheVariants as state
use Rattle.participant.specs.Part.{Part}
use Rattle.cluster_core.specs.Nodes.{Nodes}
use Rattle.world_laws.specs.Clocks.{EachShard}

abbrev pub IsApart : Cause → Type 0
IsApart (cause.Unavailable carried have) = carried ≢ have
IsApart other = Unit {0}

abbrev pub Refuses : {A : Type 0} → Result A Cause → Type 0
Refuses (Ok a) = Unit {0}
Refuses (Err why) = IsApart why

abbrev pub ToldApart : Told → Type 0
ToldApart (told.Aborted why) = IsApart why
ToldApart other = Unit {0}

abbrev pub MsgApart : Msg → Type 0
MsgApart (msg.Answer a) = Refuses a.outcome
MsgApart (msg.Vote v) = Refuses v.vote
MsgApart (msg.Outcome o) = ToldApart o.told
MsgApart other = Unit {0}

-- of what shards send
abbrev pub EnvApart : Envelope → Type 0
EnvApart e = elim (e.from) [ Shard n ↦ MsgApart e.msg | Router n ↦ Unit {0} ]

-- a shard keeps why a transaction was aborted, and tells it again
abbrev pub StateApart : SessionState → Type 0
StateApart (state.Aborted why read_at) = IsApart why
StateApart other = Unit {0}

abbrev pub PartApart : Part → Type 0
PartApart p = All (λ entry. StateApart entry.1.state) p.sessions.entries

pub record LostStands (nodes : Nodes) : Type 0 where
  pub shards : EachShard nodes (λ number n. PartApart n.core.part)
  pub sent : All EnvApart nodes.sent
