-- A schedule being played: what is left of it, the connections' bytes and messages, and the
-- messages that aren't done. It says what comes next: first the messages that wait on connections,
-- then what a line has asked for, then the round of a settling, and then the next line.
use Rattle.std.specs.Prelude.{ℕ, ◌+◌, ◌%◌, Bool, true, false, List, [], ◌∷◌, ◌++◌, nat_eq, nat_lt}
use Rattle.std.specs.Prelude.{Option, Some, None, if◌then◌else◌}
use Rattle.std.specs.List.{list_any}
use Rattle.client_streams.specs.Streams.{Connection, fresh, connection_in, with_connection}
use Rattle.txn_types.specs.declared.event.Happening.TheVariants as what
use Rattle.txn_types.specs.declared.node.NodeId.TheVariants.{Router}
use Rattle.play_text.specs.Text.{closed_line}
use Rattle.play_steps.specs.declared.want.Want.{Want}
use Rattle.play_steps.specs.declared.want.Want.TheVariants.{Event, Deliver, Spent}

-- a settling: what is left of the round, whether a message became done in it, and how many were
-- delivered in all
pub record Round : Type 0 where
  pub left : List ℕ
  pub progress : Bool
  pub count : ℕ

pub record Player : Type 0 where
  pub shards : ℕ
  pub routers : ℕ
  pub lines : List (List ℕ)
  pub taken : ℕ
  pub wall : ℕ
  pub logs : Bool
  pub connections : List Connection
  pub serving : List ℕ
  pub queue : List Want
  pub round : Option Round
  pub sent : ℕ
  pub pending : List ℕ

-- before its first line; so many lines were taken for the configuration
abbrev pub first_player : ℕ → ℕ → ℕ → List (List ℕ) → Player
first_player shards routers taken lines =
    record {
      shards = shards;
      routers = routers;
      lines = lines;
      taken = taken;
      wall = 1;
      logs = false;
      connections = [];
      serving = [];
      queue = [];
      round = None;
      sent = 0;
      pending = [];
    }

-- Connections.

abbrev pub connection : Player → ℕ → Connection
connection p conn = connection_in p.connections conn

abbrev pub with_conn : Player → Connection → Player
with_conn p c = record p { connections = with_connection c p.connections }

-- the router that a connection belongs to
abbrev pub router_of : Player → ℕ → ℕ
router_of p conn = conn % p.routers

-- the bytes and the waiting messages are dropped
abbrev pub shut : Player → ℕ → Player
shut p conn = with_conn p (fresh conn)

-- What is ready: what is written before it, what it is, and the player then.
abbrev pub Ready : Type 0
Ready = List ℕ × Option Want × Player

abbrev pub wanting : Want → Player → Ready
wanting w p = ([], Some w, p)

abbrev pub behind_text : List ℕ → Ready → Ready
behind_text text ready = (text ++ ready.0, ready.1, ready.2)

-- A round of a settling delivers those of its messages that aren't done; one without progress ends
-- the settling. A settling delivers a million messages at most.

-- from the first on that isn't done
abbrev pub undone : List ℕ → List ℕ → List ℕ
undone pending [] = []
undone pending (n ∷ ns) = if list_any (nat_eq n) pending then n ∷ ns else undone pending ns

abbrev pub delivers : Player → ℕ → Bool → List ℕ → Ready
delivers p count progress [] = ([], None, record p { round = None })
delivers p count progress (n ∷ ns) =
    if nat_lt count 1000000
    then wanting (Deliver n)
    (record p { round = Some (record { left = ns; progress = progress; count = count + 1 }) })
    else wanting Spent (record p { round = None })

abbrev pub rounds : Player → Round → List ℕ → Ready
rounds p r [] = if r.progress then delivers p r.count false p.pending
    else ([], None, record p { round = None })
rounds p r (n ∷ ns) = delivers p r.count r.progress (n ∷ ns)

abbrev pub round_ready : Player → Option Round → Ready
round_ready p None = ([], None, p)
round_ready p (Some r) = rounds p r (undone p.pending r.left)

-- What a line has asked for.
abbrev pub queue_ready : Player → List Want → Ready
queue_ready p [] = round_ready p p.round
queue_ready p (w ∷ ws) = wanting w (record p { queue = ws })

-- The connections that are to be served: each until a message of it is unanswered. Where none
-- waits, a fault closes it.

abbrev pub gives : Player → Connection → List ℕ → List ℕ → List (List ℕ) → Ready
gives p c conns message messages =
    wanting (Event (Router (router_of p c.conn)) (what.Client c.conn message))
    (record (with_conn p (record c { waiting = messages; busy = true })) { serving = conns })

abbrev pub idle_ready : Player → Option ℕ → ℕ → (Player → Ready) → Ready
idle_ready p None conn next = next p
idle_ready p (Some number) conn next = behind_text (closed_line conn number) (next (shut p conn))

abbrev pub conn_ready : Player → Connection → List ℕ → List (List ℕ) → (Player → Ready) → Ready
conn_ready p c conns [] next = idle_ready p c.fault c.conn next
conn_ready p c conns (message ∷ messages) next = gives p c conns message messages

abbrev pub serving_ready : Player → List ℕ → Ready
serving_ready p [] = queue_ready (record p { serving = [] }) p.queue
serving_ready p (conn ∷ conns) =
    if (connection p conn).busy then serving_ready p conns
    else conn_ready p (connection p conn) (conn ∷ conns) (connection p conn).waiting
    (λ q. serving_ready q conns)

abbrev pub ready : Player → Ready
ready p = serving_ready p p.serving
