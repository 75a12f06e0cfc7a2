-- How a router ends transactions: by an Abort to their participants, for a reason that it names.
-- The reasons are 1 the client's abort, 2 the end of its session, 4 the end of the connection of
-- its unanswered statement, 5 another participant's refusal, 6 a larger number of its session.
use Rattle.std.specs.Prelude.{ℕ, ℤ, ◌&&◌, not, List, [], ◌∷◌, map, Option, Some, None, is_none}
use Rattle.std.specs.Prelude.{if◌then◌else◌}
use Rattle.txn_types.specs.declared.message.Msg.TheVariants as msg
use Rattle.txn_types.specs.declared.names.Tag.{Tag}
use Rattle.txn_types.specs.declared.node.Lsid.{Lsid}
use Rattle.client_reply.specs.declared.reply.Reply.TheVariants as reply
use Rattle.router_state.specs.declared.state.Asker.{Asker}
use Rattle.router_state.specs.declared.state.Phase.{Phase}
use Rattle.router_state.specs.declared.state.Transaction.{Transaction}
use Rattle.router_state.specs.declared.state.Seeking.{Seeking}
use Rattle.router_state.specs.declared.state.Session.{Session}
use Rattle.router_state.specs.State.{RouterState}
use Rattle.router_state.specs.declared.state.Phase.TheVariants.{Idle, Asking, Checking, Deciding}
use Rattle.router_state.specs.declared.state.Phase.TheVariants.{Committed, Released, Aborted}
use Rattle.router_state.specs.declared.state.Doing.TheVariants.{Begun, Sought}
use Rattle.router_state.specs.State.{Post, session_of, commit_sent, is_unfinished, asker_of}
use Rattle.router_state.specs.State.{is_from}
use Rattle.router_state.specs.declared.deed.Deed.{Deed}
use Rattle.router_state.specs.Deeds.{nothing, both, aborting, telling, told, stays, in_session}
use Rattle.router_state.specs.Deeds.{Move, still, answers, with_session, in_each_session}

abbrev pub abort_to : Lsid → ℤ → ℕ → Tag → ℕ × ℕ → Post
abort_to lsid number why tag part =
    (part.0, msg.Abort (record { tag = tag; lsid = lsid; number = number; why = why }))

-- to each participant, by rising shard
abbrev pub aborts : Lsid → ℤ → ℕ → Transaction → List Post
aborts lsid number why t = map (abort_to lsid number why t.tag) t.parts

-- nothing more is asked of it
abbrev pub ended : Phase → Transaction → Transaction
ended phase t = record t { phase = phase; waiting = [] }

-- known as aborted
abbrev pub aborted : Transaction → Transaction
aborted t = ended (Aborted (commit_sent t.phase)) t

-- aborted for this reason
abbrev pub ends : Lsid → ℤ → ℕ → Transaction → Deed
ends lsid number why t = in_session number (aborted t) (aborting (aborts lsid number why t))

-- what is left of a session's older transaction when a larger number comes
abbrev pub leaves : Lsid → Session → List Post
leaves lsid session = elim (session.doing) [
  | Begun t ↦ if is_unfinished t.phase then aborts lsid session.number 6 t else []
  | Sought seeking known ↦ []
]

-- The client's abort: one whose abort is known is answered alike, and nothing is sent again.
abbrev pub client_aborts : Lsid → ℤ → Asker → Transaction → Deed
client_aborts lsid number asker t = elim (t.phase) [
  | Aborted sent ↦ in_session number t (telling (told asker (reply.Ended None) ∷ []))
  | _ ↦ in_session number (aborted t)
      (both (aborting (aborts lsid number 1 t)) (telling (told asker (reply.Ended None) ∷ [])))
]

-- The end of a session: its transaction is aborted where no request waits and its commit wasn't
-- sent.
abbrev pub ends_session : Lsid → Session → Deed
ends_session lsid session = elim (session.doing) [
  | Begun t ↦ if is_none (asker_of session.doing) && not (commit_sent t.phase)
      then ends lsid session.number 2 t else stays session
  | Sought seeking known ↦ stays session
]

abbrev pub end_session : RouterState → Lsid → Option Session → Move
end_session s lsid None = still s
end_session s lsid (Some session) = record {
  state = with_session s lsid (ends_session lsid session).session;
  given = (ends_session lsid session).given;
}

-- one session after the other, in the order of the request
abbrev pub end_sessions : RouterState → List Lsid → Move
end_sessions s [] = still s
end_sessions s (lsid ∷ lsids) =
    let first = end_session s lsid (session_of s lsid) in
    let more = end_sessions first.state lsids in
    record { state = more.state; given = both first.given more.given }

-- The end of a connection. Its unanswered statement's transaction is aborted; an unanswered commit
-- stays, and nobody waits for it.

abbrev pub gone_asking : ℕ → Lsid → Session → Transaction → Deed
gone_asking conn lsid session t = elim (t.phase) [
  | Asking asker op answers ↦ ends lsid session.number 4 t
  | Checking asker ↦ in_session session.number (record t { phase = Checking None }) nothing
  | Deciding asker ↦ in_session session.number (record t { phase = Deciding None }) nothing
  | Idle ↦ stays session
  | Committed ↦ stays session
  | Released ↦ stays session
  | Aborted sent ↦ stays session
]

abbrev pub unheard : Option Seeking → Option Seeking
unheard None = None
unheard (Some k) = Some (record k { asker = None })

abbrev pub gone_in : ℕ → Lsid → Session → Deed
gone_in conn lsid session = elim (session.doing) [
  | Begun t ↦ gone_asking conn lsid session t
  | Sought seeking known ↦ record {
    session = record { number = session.number; doing = Sought (unheard seeking) known };
    given = nothing;
  }
]

abbrev pub gone_from : ℕ → Lsid → Session → Deed
gone_from conn lsid session = if is_from conn (asker_of session.doing)
    then gone_in conn lsid session else stays session

abbrev pub gone : RouterState → ℕ → Move
gone s conn = in_each_session (gone_from conn) s
