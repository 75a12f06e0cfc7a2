-- What a message of a shard, or the end of a connection, does in a session.
use Rattle.txn_types.specs.declared.event.Happening.{Happening}
use Rattle.txn_types.specs.declared.event.Happening.TheVariants as what
use Rattle.txn_types.specs.declared.message.Msg.{Msg}
use Rattle.txn_types.specs.declared.message.Msg.TheVariants as msg
use Rattle.txn_types.specs.declared.node.Lsid.{Lsid}
use Rattle.router_state.specs.declared.deed.Deed.{Deed}
use Rattle.router_state.specs.declared.state.Session.{Session}
use Rattle.router_state.specs.Deeds.{stays}
use Rattle.router_rules.specs.Ends.{gone_from}
use Rattle.router_rules.specs.Serving.{answered_in, ended_in}

abbrev pub tells : Msg → (Lsid → Session → Deed)
tells (msg.Answer a) = answered_in a
tells (msg.Outcome o) = ended_in o
tells other = λ lsid session. stays session

abbrev pub acts : Happening → (Lsid → Session → Deed)
acts (what.Deliver e) = tells e.msg
acts (what.Gone conn) = gone_from conn
acts other = λ lsid session. stays session
