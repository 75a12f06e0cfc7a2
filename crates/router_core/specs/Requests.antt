-- How a router serves requests.
use Rattle.std.specs.Prelude.{ℕ, ℤ, ◌+◌, Bool, true, List, [], Option, Some, None}
use Rattle.txn_types.specs.declared.decision.Token.{Token}
use Rattle.txn_types.specs.declared.decision.Token.TheVariants as token
use Rattle.txn_types.specs.declared.names.Tag.{Tag}
use Rattle.txn_types.specs.declared.node.Lsid.{Lsid}
use Rattle.txn_types.specs.declared.operation.Op.{Op}
use Rattle.client_cmd.specs.declared.request.Request.{Request}
use Rattle.client_cmd.specs.declared.request.Request.TheVariants as request
use Rattle.client_cmd.specs.declared.request.Txn.{Txn}
use Rattle.client_reply.specs.declared.reply.Reply.{Reply}
use Rattle.client_reply.specs.declared.reply.Reply.TheVariants as reply
use Rattle.chunk_map.specs.Parts.{shards_of}
use Rattle.router_state.specs.declared.state.Asker.{Asker}
use Rattle.router_state.specs.declared.state.Transaction.{Transaction}
use Rattle.router_state.specs.declared.state.Session.{Session}
use Rattle.router_state.specs.declared.state.Phase.TheVariants.{Idle}
use Rattle.router_state.specs.State.{Post, RouterState, session_of, own_session, is_own}
use Rattle.router_state.specs.declared.deed.Deed.{Deed}
use Rattle.router_state.specs.Deeds.{both, aborting, Move, still, answers, done_in}
use Rattle.router_rules.specs.Times.{met, timed, read_time}
use Rattle.router_rules.specs.Ends.{leaves, client_aborts, end_sessions}
use Rattle.router_rules.specs.Commits.{commit_asked}
use Rattle.router_rules.specs.Statements.{asks}
use Rattle.router_rules.specs.Tokens.{seeks}
use Rattle.router_plan.specs.Plain.{next_number}
use Rattle.router_plan.specs.Plans.{told_also}
use Rattle.router_plan.specs.Refusals.{begun_in, statement_refusal, commit_refusal, abort_refusal}

-- what is refused, or else done
abbrev pub unless_refused : RouterState → Asker → Option Reply → Move → Move
unless_refused s asker None move = move
unless_refused s asker (Some r) move = answers s asker r

-- Statements. A transaction begins with its first statement: it draws a serial and chooses what it
-- reads at.

abbrev pub next_tag : RouterState → Tag
next_tag s = record { router = s.number; boot = s.boot; serial = s.serial + 1 }

abbrev pub begun_at : RouterState → ℕ → Transaction
begun_at s read_at = record {
  tag = next_tag s;
  read_at = read_at;
  k = 0;
  parts = [];
  wrote = [];
  phase = Idle;
  reply = None;
  waiting = [];
}

abbrev pub left_of : Lsid → Option Session → List Post
left_of lsid None = []
left_of lsid (Some session) = leaves lsid session

-- the router after the choice
abbrev pub drawn : RouterState → ℕ → RouterState
drawn s read_at = record (timed s read_at) { serial = s.serial + 1 }

abbrev pub behind_left : Lsid → Option Session → Deed → Deed
behind_left lsid session deed =
    record { session = deed.session; given = both (aborting (left_of lsid session)) deed.given }

abbrev pub begins_at : RouterState → Lsid → Option Session → ℤ → Asker → Op → ℕ → Move
begins_at s lsid session number asker op read_at =
    done_in (drawn s read_at) lsid
    (behind_left lsid session (asks s.chunks lsid number asker op (begun_at s read_at)))

abbrev pub begins : RouterState → Lsid → Option Session → ℤ → Asker → Op → Option ℕ → Move
begins s lsid session number asker op at =
    begins_at s lsid session number asker op (read_time s (is_own lsid) (shards_of s.chunks op) at)

abbrev pub states : RouterState → Lsid → Option Session → ℤ → Asker → Op → Option ℕ
    → Option Transaction → Move
states s lsid session number asker op at None = begins s lsid session number asker op at
states s lsid session number asker op at (Some t) =
    done_in s lsid (asks s.chunks lsid number asker op t)

abbrev pub statement_in : RouterState → Asker → Txn → Option Session → Op → Option ℕ → Move
statement_in s asker txn session op at =
    unless_refused s asker (statement_refusal s asker.conn session txn op)
    (states s txn.lsid session txn.number asker op at (begun_in session txn.number))

-- a command by itself starts the next transaction of its connection's own session
abbrev pub by_itself : RouterState → ℕ → Txn
by_itself s conn = record {
  lsid = own_session s conn;
  number = next_number (session_of s (own_session s conn));
  start = true;
}

abbrev pub statement : RouterState → Asker → Option Txn → Op → Option ℕ → Move
statement s asker None op at =
    statement_in s asker (by_itself s asker.conn) (session_of s (own_session s asker.conn)) op at
statement s asker (Some txn) op at = statement_in s asker txn (session_of s txn.lsid) op at

-- Commits. One that was begun here is committed by what the router knows; any other by its token.

abbrev pub commit_sought : RouterState → Asker → Txn → Option Session → Option Token → Move
commit_sought s asker txn session (Some (token.Placed tag shard boot)) =
    done_in s txn.lsid (seeks txn.lsid txn.number asker tag shard boot session)
commit_sought s asker txn session other = still s

abbrev pub commit_by : RouterState → Asker → Txn → Option Session → Option Token
    → Option Transaction → Move
commit_by s asker txn session t None = commit_sought s asker txn session t
commit_by s asker txn session t (Some own) =
    done_in s txn.lsid (commit_asked txn.lsid txn.number asker own)

abbrev pub commit_in : RouterState → Asker → Txn → Option Session → Option Token → Move
commit_in s asker txn session t =
    unless_refused s asker (commit_refusal s asker.conn session txn t)
    (commit_by s asker txn session t (begun_in session txn.number))

-- a request to commit or to abort names its transaction
abbrev pub commit : RouterState → Asker → Option Txn → Option Token → Move
commit s asker None t = still s
commit s asker (Some txn) t = commit_in s asker txn (session_of s txn.lsid) t

-- Aborts.

abbrev pub abort_by : RouterState → Asker → Txn → Option Transaction → Move
abort_by s asker txn None = still s
abort_by s asker txn (Some own) = done_in s txn.lsid (client_aborts txn.lsid txn.number asker own)

abbrev pub abort : RouterState → Asker → Option Txn → Move
abort s asker None = still s
abort s asker (Some txn) =
    unless_refused s asker (abort_refusal s asker.conn (session_of s txn.lsid) txn)
    (abort_by s asker txn (begun_in (session_of s txn.lsid) txn.number))

-- Requests.

-- what a request asks, in the older form of messages or not
unfoldable pub serves : RouterState → Asker → Bool → Request → Move
serves s asker legacy (request.Ping more time) =
    told_also (still (met s time None)) asker legacy reply.Ping
serves s asker legacy (request.Hello old_name more time) =
    told_also (still (met s time None)) asker legacy (reply.Hello old_name s.wall asker.conn)
serves s asker legacy (request.Statement op txn at after more time) =
    statement (met s time after) asker txn op at
serves s asker legacy (request.Commit txn t more time) = commit (met s time None) asker txn t
serves s asker legacy (request.Abort txn more time) = abort (met s time None) asker txn
serves s asker legacy (request.EndSessions ids more time) =
    told_also (end_sessions (met s time None) ids) asker legacy (reply.Ended None)
