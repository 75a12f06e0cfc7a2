-- The state of a router. A session has its newest transaction: one that was begun here, or one
-- whose decision is looked for by a token. A transaction of several statements and a command by
-- itself are served alike; the latter is the next transaction of its connection's own session.
use Rattle.std.specs.Prelude.{ℕ, Bool, true, false, List, [], ◌∷◌, filter, nat_eq, Option, Some}
use Rattle.std.specs.Prelude.{None, not, option_and_then, unwrap_or, option_map}
use Rattle.std.specs.List.{list_any, find}
use Rattle.txn_types.specs.BySession.{BySession, entry_of}
use Rattle.txn_types.specs.declared.decision.Token.{Token}
use Rattle.txn_types.specs.declared.decision.Token.TheVariants as token
use Rattle.txn_types.specs.declared.message.Msg.{Msg}
use Rattle.txn_types.specs.declared.node.Lsid.{Lsid}
use Rattle.txn_types.specs.declared.node.Lsid.TheVariants.{Client, Own}
use Rattle.chunk_map.specs.Map.{Map}
use Rattle.router_state.specs.declared.state.Asker.{Asker}
use Rattle.router_state.specs.declared.state.Phase.{Phase}
use Rattle.router_state.specs.declared.state.Phase.TheVariants.{Idle, Asking, Checking, Deciding}
use Rattle.router_state.specs.declared.state.Phase.TheVariants.{Committed, Released, Aborted}
use Rattle.router_state.specs.declared.state.Transaction.{Transaction}
use Rattle.router_state.specs.declared.state.Doing.{Doing}
use Rattle.router_state.specs.declared.state.Doing.TheVariants.{Begun, Sought}
use Rattle.router_state.specs.declared.state.Session.{Session}

-- a message, and the shard that it goes to
abbrev pub Post : Type 0
Post = ℕ × Msg

pub record RouterState : Type 0 where
  pub number : ℕ
  pub boot : ℕ
  pub chunks : Map
  pub wall : ℕ
  pub time : ℕ
  pub serial : ℕ
  pub sessions : BySession Session

-- a router that has started
abbrev pub fresh_router : ℕ → ℕ → Map → RouterState
fresh_router number boot chunks = record {
  number = number;
  boot = boot;
  chunks = chunks;
  wall = 0;
  time = 0;
  serial = 0;
  sessions = [];
}

abbrev pub session_of : RouterState → Lsid → Option Session
session_of s lsid = entry_of lsid s.sessions

-- a connection's own session, for commands by themselves
abbrev pub own_session : RouterState → ℕ → Lsid
own_session s conn = Own s.number s.boot conn

abbrev pub is_own : Lsid → Bool
is_own (Client bytes) = false
is_own (Own router boot conn) = true

-- its commit was sent
abbrev pub commit_sent : Phase → Bool
commit_sent Idle = false
commit_sent (Asking asker op answers) = false
commit_sent (Checking asker) = true
commit_sent (Deciding asker) = true
commit_sent Committed = true
commit_sent Released = true
commit_sent (Aborted sent) = sent

-- how it ended isn't known
abbrev pub is_unfinished : Phase → Bool
is_unfinished Idle = true
is_unfinished (Asking asker op answers) = true
is_unfinished (Checking asker) = true
is_unfinished (Deciding asker) = true
is_unfinished Committed = false
is_unfinished Released = false
is_unfinished (Aborted sent) = false

-- who waits for a transaction
abbrev pub asker_in : Phase → Option Asker
asker_in Idle = None
asker_in (Asking asker op answers) = Some asker
asker_in (Checking asker) = asker
asker_in (Deciding asker) = asker
asker_in Committed = None
asker_in Released = None
asker_in (Aborted sent) = None

-- who waits in a session
abbrev pub asker_of : Doing → Option Asker
asker_of (Begun t) = asker_in t.phase
asker_of (Sought seeking known) = option_and_then (λ k. k.asker) seeking

abbrev pub is_from : ℕ → Option Asker → Bool
is_from conn None = false
is_from conn (Some asker) = nat_eq asker.conn conn

-- a request of the connection is unanswered
abbrev pub is_waiting : RouterState → ℕ → Bool
is_waiting s conn = list_any (λ entry. is_from conn (asker_of entry.1.doing)) s.sessions

-- the boot that a participant told
abbrev pub boot_of : List (ℕ × ℕ) → ℕ → ℕ
boot_of parts shard =
    unwrap_or (option_map (λ part. part.1) (find (λ part. nat_eq part.0 shard) parts)) 0

abbrev pub is_waited : ℕ → List Post → Bool
is_waited shard posts = list_any (λ post. nat_eq post.0 shard) posts

-- without what that shard was asked
abbrev pub without : ℕ → List Post → List Post
without shard posts = filter (λ post. not (nat_eq post.0 shard)) posts

-- the token of a transaction: the first shard that wrote, with its boot, once one has
abbrev pub token_by : Transaction → List ℕ → Token
token_by t [] = token.Early t.tag
token_by t (shard ∷ more) = token.Placed t.tag shard (boot_of t.parts shard)

abbrev pub token_of : Transaction → Token
token_of t = token_by t t.wrote
