-- Messages of shards, in a session.
use Rattle.txn_types.specs.declared.message.Answer.{Answer}
use Rattle.txn_types.specs.declared.message.Outcome.{Outcome}
use Rattle.txn_types.specs.declared.node.Lsid.{Lsid}
use Rattle.router_state.specs.declared.deed.Deed.{Deed}
use Rattle.router_state.specs.declared.state.Doing.TheVariants.{Begun, Sought}
use Rattle.router_state.specs.declared.state.Session.{Session}
use Rattle.router_state.specs.Deeds.{stays}
use Rattle.router_rules.specs.Commits.{on_outcome}
use Rattle.router_rules.specs.Statements.{on_answer}
use Rattle.router_rules.specs.Tokens.{on_recovered}

abbrev pub answered_in : Answer → Lsid → Session → Deed
answered_in a lsid session = elim (session.doing) [
  | Begun t ↦ on_answer lsid session.number a t
  | Sought seeking known ↦ stays session
]

abbrev pub ended_in : Outcome → Lsid → Session → Deed
ended_in o lsid session = elim (session.doing) [
  | Begun t ↦ on_outcome lsid session.number o t
  | Sought seeking known ↦ on_recovered session.number seeking known o
]
