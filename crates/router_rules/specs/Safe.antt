-- What holds of a router's sessions, so that its numbers fit into messages: a connection's own
-- number is no more than the serials that were drawn, the shards that have written are different
-- ones below 65,535, and what is told of a command by itself can be spelled.
use Rattle.std.specs.Prelude.{◌≡◌, ◌<◌, ◌≤ℤ◌, ℕ, ℤ, pos, true, List, [], ◌∷◌, Option, Some, None}
use Rattle.std.specs.Prelude.{nat_eq}
use Rattle.std.specs.List.{IsDistinct}
use Rattle.std.specs.Ordering.{nat_cmp}
use Rattle.txn_types.specs.BySession.{BySession}
use Rattle.txn_types.specs.declared.node.Lsid.{Lsid}
use Rattle.txn_semantics.specs.Keyed.{Rises}
use Rattle.client_reply.specs.Replies.{FitsReply}
use Rattle.client_reply.specs.declared.reply.Reply.{Reply}
use Rattle.router_state.specs.declared.deed.Deed.{Deed}
use Rattle.router_state.specs.declared.deed.Sent.{Sent}
use Rattle.router_state.specs.declared.state.Doing.{Doing}
use Rattle.router_state.specs.declared.state.Doing.TheVariants.{Begun, Sought}
use Rattle.router_state.specs.declared.state.Phase.{Phase}
use Rattle.router_state.specs.declared.state.Phase.TheVariants.{Asking}
use Rattle.router_state.specs.declared.state.Session.{Session}
use Rattle.router_state.specs.declared.state.Transaction.{Transaction}
use Rattle.router_state.specs.State.{Post, is_own}

-- each of the numbers is below
abbrev pub Below : ℕ → List ℕ → Type 0
Below n [] = Unit {0}
Below n (m ∷ ms) = (m < n) × Below n ms

-- and so are the shards under which these stand
abbrev pub KeysBelow : {A : Type 0} → ℕ → List (ℕ × A) → Type 0
KeysBelow n [] = Unit {0}
KeysBelow n (row ∷ rows) = (row.0 < n) × KeysBelow n rows

-- a reply can be spelled, where there is one
abbrev pub FitsIf : Option Reply → Type 0
FitsIf None = Unit {0}
FitsIf (Some reply) = FitsReply reply

-- the answers to a statement are of different shards, of which there are fewer than 65,535
abbrev pub IsSafePhase : List Post → Phase → Type 0
IsSafePhase waiting (Asking asker op answers) = KeysBelow 65535 waiting × Rises nat_cmp answers
    × KeysBelow 65535 answers
IsSafePhase waiting other = Unit {0}

pub record IsSafeTransaction (t : Transaction) : Type 0 where
  pub once : IsDistinct nat_eq t.wrote
  pub few : Below 65535 t.wrote
  pub told : FitsIf t.reply
  pub asked : IsSafePhase t.waiting t.phase

abbrev pub IsSafeDoing : Doing → Type 0
IsSafeDoing (Begun t) = IsSafeTransaction t
IsSafeDoing (Sought seeking known) = Unit {0}

-- a number of a connection's own session is no more than the serials that were drawn
abbrev pub IsDrawn : ℕ → Lsid → ℤ → Type 0
IsDrawn serial lsid number = is_own lsid ≡ true → number ≤ℤ pos serial

pub record IsSafeIn (serial : ℕ) (lsid : Lsid) (session : Session) : Type 0 where
  pub own : IsDrawn serial lsid session.number
  pub doing : IsSafeDoing session.doing

abbrev pub AreSafe : ℕ → BySession Session → Type 0
AreSafe serial [] = Unit {0}
AreSafe serial (entry ∷ sessions) = IsSafeIn serial entry.0 entry.1 × AreSafe serial sessions

-- all of these can be spelled
abbrev pub AllFit : List Sent → Type 0
AllFit [] = Unit {0}
AllFit (sent ∷ replies) = FitsReply sent.reply × AllFit replies

-- a deed that leaves its session so, and whose replies can be spelled
pub record IsGood (serial : ℕ) (lsid : Lsid) (deed : Deed) : Type 0 where
  pub session : IsSafeIn serial lsid deed.session
  pub replies : AllFit deed.given.replies
