-- Which request each reply of a run answers, and of which transaction it is. A connection has one
-- request at a time, so a reply answers the one that its connection has in hand.
use Rattle.std.specs.Prelude.{ℕ, ◌&&◌, Bool, true, not, List, [], ◌∷◌, ◌++◌, map, filter}
use Rattle.std.specs.Prelude.{filter_map, nat_eq, Option, Some, None, is_some, option_map}
use Rattle.std.specs.Prelude.{option_and_then}
use Rattle.std.specs.List.{find, list_any}
use Rattle.std.specs.Option.{option_or}
use Rattle.std.specs.Ordering.{int_eq}
use Rattle.txn_types.specs.Order.{same_lsid}
use Rattle.txn_types.specs.declared.decision.Token.{Token}
use Rattle.txn_types.specs.declared.decision.Token.TheVariants as token
use Rattle.txn_types.specs.declared.event.Happening.{Happening}
use Rattle.txn_types.specs.declared.event.Happening.TheVariants as what
use Rattle.txn_types.specs.declared.event.NodeAnswer.{NodeAnswer}
use Rattle.txn_types.specs.declared.event.NodeEvent.{NodeEvent}
use Rattle.txn_types.specs.declared.message.Statement.{Statement}
use Rattle.txn_types.specs.declared.names.Tag.{Tag}
use Rattle.client_cmd.specs.declared.request.Request.{Request}
use Rattle.client_cmd.specs.declared.request.Request.TheVariants as request
use Rattle.client_cmd.specs.declared.request.Txn.{Txn}
use Rattle.client_reply.specs.declared.reply.Reply.{Reply}
use Rattle.router_state.specs.declared.deed.Sent.{Sent}
use Rattle.router_state.specs.State.{RouterState}
use Rattle.cluster_core.specs.Answering.{statements_in}
use Rattle.cluster_core.specs.Routers.{Asked, request_at}

-- a request that a connection of a router has in hand: what it asks, the transaction that it is of,
-- the place of its statement there, and whether the asked router began the transaction
pub record Hand : Type 0 where
  pub router : ℕ
  pub conn : ℕ
  pub request : Request
  pub tag : Option Tag
  pub k : ℕ
  pub here : Bool

-- the transaction that a request names, if it names one
abbrev pub txn_of : Request → Option Txn
txn_of (request.Statement op txn at after more time) = txn
txn_of (request.Commit txn t more time) = txn
txn_of (request.Abort txn more time) = txn
txn_of other = None

abbrev pub token_of : Request → Option Token
token_of (request.Commit txn t more time) = t
token_of other = None

abbrev pub tag_in : Token → Option Tag
tag_in (token.Early tag) = Some tag
tag_in (token.Placed tag shard boot) = Some tag
tag_in token.Other = None

-- the transaction of this session and number that the router began in this boot, by the statements
-- that it sent
abbrev pub is_begun : ℕ → ℕ → Txn → Statement → Bool
is_begun router boot txn m =
    nat_eq m.tag.router router && nat_eq m.tag.boot boot && same_lsid m.lsid txn.lsid
    && int_eq m.number txn.number

abbrev pub begun_tag : List Statement → RouterState → Txn → Option Tag
begun_tag begun r txn = option_map (λ m. m.tag) (find (is_begun r.number r.boot txn) begun)

-- by the first part of the statement that the request sent
abbrev pub hand_by : ℕ → List Statement → RouterState → Asked → List Statement → Hand
hand_by n begun r asked [] =
    let here = option_and_then (begun_tag begun r) (txn_of asked.1) in
    record {
      router = n;
      conn = asked.0;
      request = asked.1;
      tag = option_or here (option_and_then tag_in (token_of asked.1));
      k = 0;
      here = is_some here;
    }
hand_by n begun r asked (m ∷ ms) =
    record { router = n; conn = asked.0; request = asked.1; tag = Some m.tag; k = m.k; here = true }

abbrev pub hands_of : ℕ → List Statement → RouterState → Option Asked → NodeAnswer → List Hand
hands_of n begun r None a = []
hands_of n begun r (Some asked) a =
    hand_by n begun r asked (map (λ part. part.1) (statements_in a)) ∷ []

-- the connection's
abbrev pub is_of : ℕ → ℕ → Hand → Bool
is_of n conn h = nat_eq h.router n && nat_eq h.conn conn

abbrev pub without_conn : ℕ → ℕ → List Hand → List Hand
without_conn n conn hands = filter (λ h. not (is_of n conn h)) hands

-- after the end of a connection
abbrev pub hands_at : ℕ → Happening → List Hand → List Hand
hands_at n (what.Gone conn) hands = without_conn n conn hands
hands_at n other hands = hands

-- the requests in hand at a router's step, the one that it takes among them
abbrev pub held_in : ℕ → List Statement → RouterState → NodeEvent → NodeAnswer
    → List Hand → List Hand
held_in n begun r e a hands = hands_at n e.what hands ++ hands_of n begun r (request_at r e a) a

-- a reply of a run, with its request and its place in the run
pub record Replied : Type 0 where
  pub place : ℕ
  pub hand : Hand
  pub reply : Reply

abbrev pub replied_by : ℕ → ℕ → List Hand → Sent → Option Replied
replied_by place n hands sent = option_map (λ h.
    record { place = place; hand = h; reply = sent.reply }) (find (is_of n sent.conn) hands)

-- what a step replies to requests; what is told of bytes that are no request isn't spoken of
abbrev pub replied_in : ℕ → ℕ → List Hand → List Sent → List Replied
replied_in place n hands replies = filter_map (replied_by place n hands) replies

-- the requests that are left in hand
abbrev pub left_in_hand : ℕ → List Sent → List Hand → List Hand
left_in_hand n replies hands =
    filter (λ h. not (list_any (λ (sent : Sent). is_of n sent.conn h) replies)) hands
