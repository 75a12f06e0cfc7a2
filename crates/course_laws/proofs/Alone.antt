-- A player wants no delivery but by a message's number.
use Rattle.std.proofs.Common.{ℕ, ◌+◌, Bool, true, false, cond, List, [], ◌∷◌, ◌++◌, map, nat_le}
use Rattle.std.proofs.Common.{nat_lt, Option, Some, None}
use Rattle.std.specs.List.{range_with_len}
use Rattle.client_streams.specs.Streams.{Connection}
use Rattle.play_script.specs.Lines.{line_of}
use Rattle.play_script.specs.declared.line.Line.{Line}
use Rattle.play_script.specs.declared.line.Line.TheVariants as line
use Rattle.txn_types.specs.declared.event.Happening.TheVariants as what
use Rattle.txn_types.specs.declared.event.NodeAnswer.{NodeAnswer}
use Rattle.txn_types.specs.declared.node.NodeId.{NodeId}
use Rattle.txn_types.specs.declared.node.NodeId.TheVariants.{Shard, Router}
use Rattle.cluster_world.specs.World.{ComesAlone}
use Rattle.play_steps.specs.declared.want.Want.{Want}
use Rattle.play_steps.specs.declared.want.Want.TheVariants as want
use Rattle.play_steps.specs.declared.want.Given.{Given}
use Rattle.play_steps.specs.Player.{Player, Round, Ready, connection, shut, wanting, undone}
use Rattle.play_steps.specs.Player.{delivers, rounds, round_ready, queue_ready, idle_ready}
use Rattle.play_steps.specs.Player.{conn_ready, serving_ready, ready, router_of}
use Rattle.play_steps.specs.Lines.{Did, Next, does_where, is_there, was_sent, queued, moments, lost}
use Rattle.play_steps.specs.Lines.{without_connections, done_by, done_if, at_line, or_lines}
use Rattle.play_steps.specs.Lines.{did_next, from_lines, next}
use Rattle.play_steps.specs.Steps.{behind_answer}
use Rattle.play_steps.proofs.Keeping.{AllAre, answer_on}

abbrev pub IsAlone : Want → Type 0
IsAlone (want.Event node happening) = ComesAlone happening
IsAlone other = Unit {0}

abbrev pub AsksAlone : Player → Type 0
AsksAlone p = AllAre IsAlone p.queue

abbrev HasWant : Option Want → Type 0
HasWant None = Unit {0}
HasWant (Some w) = IsAlone w

abbrev IsReady : Ready → Type 0
IsReady r = HasWant r.1 × AsksAlone r.2

abbrev pub IsNext : Next → Type 0
IsNext n = IsAlone n.1 × AsksAlone n.2

abbrev as_ready : List ℕ → Option Want → Player → Ready
as_ready text w p = (text, w, p)

abbrev as_next : List ℕ → Want → Player → Next
as_next text w p = (text, w, p)

-- What is ready.

delivers_case : (p : Player) (n count : ℕ) (ns : List ℕ) (progress t : Bool) → AsksAlone p
    → IsReady (cond t (wanting (want.Deliver n)
    (record p { round = Some (record { left = ns; progress = progress; count = count + 1 }) }))
    (wanting want.Spent (record p { round = None })))
delivers_case p n count ns progress true on = (tt, on)
delivers_case p n count ns progress false on = (tt, on)

delivers_on : (p : Player) (count : ℕ) (progress : Bool) (ns : List ℕ) → AsksAlone p
    → IsReady (delivers p count progress ns)
delivers_on p count progress [] on = (tt, on)
delivers_on p count progress (n ∷ ns) on =
    delivers_case p n count ns progress (nat_lt count 1000000) on

fresh_on : (p : Player) (count : ℕ) (b : Bool) → AsksAlone p
    → IsReady (cond b (delivers p count false p.pending) (as_ready [] None
    (record p { round = None })))
fresh_on p count true on = delivers_on p count false p.pending on
fresh_on p count false on = (tt, on)

rounds_on : (p : Player) (r : Round) (ns : List ℕ) → AsksAlone p → IsReady (rounds p r ns)
rounds_on p r [] on = fresh_on p r.count r.progress on
rounds_on p r (n ∷ ns) on = delivers_on p r.count r.progress (n ∷ ns) on

round_on : (p : Player) (o : Option Round) → AsksAlone p → IsReady (round_ready p o)
round_on p None on = (tt, on)
round_on p (Some r) on = rounds_on p r (undone p.pending r.left) on

queue_on : (p : Player) (ws : List Want) → AsksAlone p → AllAre IsAlone ws
    → IsReady (queue_ready p ws)
queue_on p [] on all = round_on p p.round on
queue_on p (w ∷ ws) on all = (all.0, all.1)

idle_on : (p : Player) (f : Option ℕ) (conn : ℕ) (goes : Player → Ready)
    → ((q : Player) → AsksAlone q → IsReady (goes q)) → AsksAlone p
    → IsReady (idle_ready p f conn goes)
idle_on p None conn goes keeps on = keeps p on
idle_on p (Some number) conn goes keeps on = keeps (shut p conn) on

conn_on : (p : Player) (c : Connection) (conns rest : List ℕ) (b : Bool) (w : List (List ℕ))
    → ((q : Player) → AsksAlone q → IsReady (serving_ready q rest)) → AsksAlone p
    → IsReady (cond b (serving_ready p rest) (conn_ready p c conns w (λ q. serving_ready q rest)))
conn_on p c conns rest true w keeps on = keeps p on
conn_on p c conns rest false [] keeps on =
    idle_on p c.fault c.conn (λ q. serving_ready q rest) keeps on
conn_on p c conns rest false (m ∷ ms) keeps on = (tt, on)

serving_on : (p : Player) (conns : List ℕ) → AsksAlone p → IsReady (serving_ready p conns)
serving_on p [] on = queue_on (record p { serving = [] }) p.queue on on
serving_on p (conn ∷ conns) on =
    conn_on p (connection p conn) (conn ∷ conns) conns (connection p conn).busy
    (connection p conn).waiting (λ q. serving_on q conns) on

-- What a line asks.

all_both : (ws vs : List Want) → AllAre IsAlone ws → AllAre IsAlone vs → AllAre IsAlone (ws ++ vs)
all_both [] vs all more = more
all_both (w ∷ ws) vs all more = (all.0, all_both ws vs all.1 more)

shards_moments : (ns : List ℕ) → AllAre IsAlone (map (λ n. want.Event (Shard n) what.Moment) ns)
shards_moments [] = tt
shards_moments (n ∷ ns) = (tt, shards_moments ns)

routers_moments : (ns : List ℕ) → AllAre IsAlone (map (λ n. want.Event (Router n) what.Moment) ns)
routers_moments [] = tt
routers_moments (n ∷ ns) = (tt, routers_moments ns)

moments_on : (p : Player) → AllAre IsAlone (moments p)
moments_on p = all_both (map (λ n. want.Event (Shard n) what.Moment) (range_with_len 0 p.shards))
    (map (λ n. want.Event (Router n) what.Moment) (range_with_len 0 p.routers))
    (shards_moments (range_with_len 0 p.shards)) (routers_moments (range_with_len 0 p.routers))

abbrev IsDid : Did → Type 0
IsDid None = Unit {0}
IsDid (Some did) = AsksAlone did.1

where_on : (b : Bool) (p : Player) → AsksAlone p → IsDid (does_where b p)
where_on true p on = on
where_on false p on = tt

restart_on : (dump : List ℕ) (p : Player) (node : NodeId) → AsksAlone p
    → IsDid (done_by dump p (line.Restart node))
restart_on dump p (Shard n) on = where_on (is_there p (Shard n))
    (queued (without_connections p (Shard n)) (want.Renew (Shard n) ∷ []))
    (all_both p.queue (want.Renew (Shard n) ∷ []) on (tt, tt))
restart_on dump p (Router n) on = where_on (is_there p (Router n))
    (queued (without_connections p (Router n)) (want.Renew (Router n) ∷ []))
    (all_both p.queue (want.Renew (Router n) ∷ []) on (tt, tt))

done_on : (dump : List ℕ) (p : Player) (l : Line) → AsksAlone p → IsDid (done_by dump p l)
done_on dump p (line.Ask conn bytes) on = on
done_on dump p (line.Client conn bytes) on = on
done_on dump p (line.Gone conn) on =
    all_both p.queue (want.Event (Router (router_of p conn)) (what.Gone conn) ∷ []) on (tt, tt)
done_on dump p (line.Deliver number) on = where_on (was_sent p number)
    (queued p (want.Deliver number ∷ []))
    (all_both p.queue (want.Deliver number ∷ []) on (tt, tt))
done_on dump p (line.Lose number) on = where_on (was_sent p number) (lost p number) on
done_on dump p line.Settle on = on
done_on dump p (line.Restart node) on = restart_on dump p node on
done_on dump p (line.Resend node) on = where_on (is_there p node)
    (queued p (want.Event node what.Resend ∷ []))
    (all_both p.queue (want.Event node what.Resend ∷ []) on (tt, tt))
done_on dump p (line.Wall secs) on = all_both p.queue (moments p) on (moments_on p)
done_on dump p line.Dump on = on
done_on dump p line.Log on = on

done_if_on : (dump : List ℕ) (p : Player) (o : Option Line) → AsksAlone p
    → IsDid (done_if dump p o)
done_if_on dump p None on = tt
done_if_on dump p (Some l) on = done_on dump p l on

-- What comes next.

or_on : (text : List ℕ) (o : Option Want) (q : Player) (lines : Player → Next)
    → ((x : Player) → AsksAlone x → IsNext (lines x)) → HasWant o → AsksAlone q
    → IsNext (or_lines (as_ready text o q) lines)
or_on text None q lines goes one on = goes q on
or_on text (Some w) q lines goes one on = (one, on)

did_on : (p : Player) (d : Did) (lines : Player → Next)
    → ((x : Player) → AsksAlone x → IsNext (lines x)) → AsksAlone p → IsDid d
    → IsNext (did_next p d lines)
did_on p None lines goes on did = (tt, on)
did_on p (Some did) lines goes before on =
    let r = serving_on did.1 did.1.serving on in
    or_on (ready did.1).0 (ready did.1).1 (ready did.1).2 lines goes r.0 r.1

few_on : (b : Bool) (p : Player) (n : Next) → AsksAlone p → IsNext n
    → IsNext (cond b (as_next [] want.Spent p) n)
few_on true p n on h = (tt, on)
few_on false p n on h = h

from_on : (dump : List ℕ) (lines : List (List ℕ)) (p : Player) → AsksAlone p
    → IsNext (from_lines dump lines p)
from_on dump [] p on = (tt, on)
from_on dump (l ∷ lines) p on =
    few_on (nat_le 10000000 p.taken) p (did_next (at_line p lines)
    (done_if dump (at_line p lines) (line_of l)) (from_lines dump lines)) on
    (did_on (at_line p lines) (done_if dump (at_line p lines) (line_of l)) (from_lines dump lines)
    (λ q more. from_on dump lines q more) on (done_if_on dump (at_line p lines) (line_of l) on))

pub next_alone : (dump : List ℕ) (p : Player) → AsksAlone p → IsNext (next dump p)
unfolding next
next_alone dump p on =
    let r = serving_on p p.serving on in
    or_on (ready p).0 (ready p).1 (ready p).2 (λ q. from_lines dump q.lines q)
    (λ q more. from_on dump q.lines q more) r.0 r.1

-- it is kept by answers
pub answer_alone : (p : Player) (x : Given) (a : NodeAnswer) → AsksAlone p
    → AsksAlone (behind_answer p x a)
answer_alone p x a on = (answer_on (λ lines. Unit {0}) IsAlone p x a (tt, on)).1
