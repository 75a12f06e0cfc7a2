-- What a line of a schedule does, and what comes next of a schedule.
use Rattle.std.specs.Prelude.{ℕ, ◌+◌, Bool, true, false, not, List, [], ◌∷◌, ◌++◌, map, filter}
use Rattle.std.specs.Prelude.{nat_eq, nat_lt, nat_le, Option, Some, None, if◌then◌else◌}
use Rattle.std.specs.List.{range_with_len}
use Rattle.play_script.specs.Limits.{most_lines}
use Rattle.txn_types.specs.declared.event.Happening.TheVariants as what
use Rattle.txn_types.specs.declared.node.NodeId.{NodeId}
use Rattle.txn_types.specs.declared.node.NodeId.TheVariants.{Shard, Router}
use Rattle.play_script.specs.Lines.{line_of}
use Rattle.play_script.specs.declared.line.Line.{Line}
use Rattle.play_script.specs.declared.line.Line.TheVariants as line
use Rattle.play_steps.specs.declared.want.Want.{Want}
use Rattle.play_steps.specs.declared.want.Want.TheVariants.{Event, Deliver, Renew, End, Bad, Spent}
use Rattle.client_streams.specs.Streams.{fed}
use Rattle.play_steps.specs.Player.{Player, Ready, connection, with_conn, router_of, shut, ready}

-- the node is there
abbrev pub is_there : Player → NodeId → Bool
is_there p (Shard n) = nat_lt n p.shards
is_there p (Router n) = nat_lt n p.routers

-- the message was sent
abbrev pub was_sent : Player → ℕ → Bool
was_sent p number = nat_lt number p.sent

-- what a line does: what is written of it, and the player then; none where it names what isn't
-- there
abbrev pub Did : Type 0
Did = Option (List ℕ × Player)

abbrev pub does : Player → Did
does p = Some ([], p)

abbrev pub does_where : Bool → Player → Did
does_where true p = does p
does_where false p = None

abbrev pub queued : Player → List Want → Player
queued p wants = record p { queue = p.queue ++ wants }

abbrev pub asks : Player → ℕ → List ℕ → Player
asks p conn bytes = record (with_conn p (fed (connection p conn) bytes)) { serving = conn ∷ [] }

-- the first round is taken once what stands before it is done
abbrev pub settles : Player → Player
settles p = record p { round = Some (record { left = []; progress = true; count = 0 }) }

abbrev pub moments : Player → List Want
moments p = map (λ n. Event (Shard n) what.Moment) (range_with_len 0 p.shards)
    ++ map (λ n. Event (Router n) what.Moment) (range_with_len 0 p.routers)

-- a router that starts anew has no connection
abbrev pub without_connections : Player → NodeId → Player
without_connections p (Shard n) = p
without_connections p (Router n) =
    record p { connections = filter (λ c. not (nat_eq (router_of p c.conn) n)) p.connections }

abbrev pub lost : Player → ℕ → Player
lost p number = record p { pending = filter (λ n. not (nat_eq n number)) p.pending }

abbrev pub done_by : List ℕ → Player → Line → Did
done_by dump p (line.Ask conn bytes) = does (asks p conn bytes)
done_by dump p (line.Client conn bytes) = does (settles (asks p conn bytes))
done_by dump p (line.Gone conn) =
    does (queued (shut p conn) (Event (Router (router_of p conn)) (what.Gone conn) ∷ []))
done_by dump p (line.Deliver number) =
    does_where (was_sent p number) (queued p (Deliver number ∷ []))
done_by dump p (line.Lose number) = does_where (was_sent p number) (lost p number)
done_by dump p line.Settle = does (settles p)
done_by dump p (line.Restart node) =
    does_where (is_there p node) (queued (without_connections p node) (Renew node ∷ []))
done_by dump p (line.Resend node) =
    does_where (is_there p node) (queued p (Event node what.Resend ∷ []))
done_by dump p (line.Wall secs) = does (queued (record p { wall = secs }) (moments p))
done_by dump p line.Dump = Some (dump, p)
done_by dump p line.Log = does (record p { logs = true })

abbrev pub done_if : List ℕ → Player → Option Line → Did
done_if dump p None = None
done_if dump p (Some l) = done_by dump p l

-- the player at its next line
abbrev pub at_line : Player → List (List ℕ) → Player
at_line p lines = record p { lines = lines; taken = p.taken + 1 }

-- What comes next: what is written before it, what it is, and the player then.
abbrev pub Next : Type 0
Next = List ℕ × Want × Player

abbrev pub written : List ℕ → Next → Next
written text next = (text ++ next.0, next.1, next.2)

-- what is ready, or else what the lines bring
abbrev pub or_lines : Ready → (Player → Next) → Next
or_lines r lines = elim (r.1) [ Some w ↦ (r.0, w, r.2) | None ↦ written r.0 (lines r.2) ]

abbrev pub did_next : Player → Did → (Player → Next) → Next
did_next p None lines = ([], Bad p.taken, p)
did_next p (Some did) lines = written did.0 (or_lines (ready did.1) lines)

-- At the end of the schedule the list of commits is written. No more than 10,000,000 lines are
-- taken.
abbrev pub from_lines : List ℕ → List (List ℕ) → Player → Next
from_lines dump [] p = (dump, End, record p { lines = [] })
from_lines dump (l ∷ lines) p =
    if nat_le most_lines p.taken then ([], Spent, p)
    else did_next (at_line p lines) (done_if dump (at_line p lines) (line_of l))
    (from_lines dump lines)

unfoldable pub next : List ℕ → Player → Next
next dump p = or_lines (ready p) (λ q. from_lines dump q.lines q)

-- Schedules without a restart.

abbrev pub AsksNoRestart : Option Line → Type 0
AsksNoRestart None = Unit {0}
AsksNoRestart (Some (line.Restart node)) = ⊥
AsksNoRestart (Some other) = Unit {0}

-- no line asks that a node starts again
abbrev pub HaveNoRestart : List (List ℕ) → Type 0
HaveNoRestart [] = Unit {0}
HaveNoRestart (l ∷ lines) = AsksNoRestart (line_of l) × HaveNoRestart lines
