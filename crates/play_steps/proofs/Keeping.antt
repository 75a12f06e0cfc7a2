-- What a schedule that is played keeps to: something of its lines that are still to come (`P`), and
-- something of each want that it has asked for (`W`), which holds of what a connection, a delivery
-- and a settling bring.
use Rattle.std.proofs.Common.{ℕ, ◌+◌, Bool, true, false, cond, List, [], ◌∷◌, ◌++◌, map, nat_le}
use Rattle.std.proofs.Common.{nat_lt, Option, Some, None}
use Rattle.std.specs.List.{range_with_len}
use Rattle.client_streams.specs.Streams.{Connection}
use Rattle.play_script.specs.Lines.{line_of}
use Rattle.play_script.specs.declared.line.Line.{Line}
use Rattle.play_script.specs.declared.line.Line.TheVariants as line
use Rattle.txn_types.specs.declared.event.Happening.{Happening}
use Rattle.txn_types.specs.declared.event.Happening.TheVariants as what
use Rattle.txn_types.specs.declared.event.NodeAnswer.{NodeAnswer}
use Rattle.txn_types.specs.declared.event.NodeAnswer.TheVariants as answer
use Rattle.txn_types.specs.declared.node.NodeId.{NodeId}
use Rattle.txn_types.specs.declared.node.NodeId.TheVariants.{Shard, Router}
use Rattle.play_steps.specs.declared.want.Want.{Want}
use Rattle.play_steps.specs.declared.want.Want.TheVariants as want
use Rattle.play_steps.specs.declared.want.Given.{Given}
use Rattle.play_steps.specs.declared.want.Given.TheVariants as given
use Rattle.play_steps.specs.Player.{Player, Round, Ready, connection, shut, wanting, undone}
use Rattle.play_steps.specs.Player.{delivers, rounds, round_ready, queue_ready, idle_ready}
use Rattle.play_steps.specs.Player.{conn_ready, serving_ready, ready, router_of}
use Rattle.play_steps.specs.Lines.{Did, Next, does_where, is_there, was_sent, queued, moments, lost}
use Rattle.play_steps.specs.Lines.{without_connections, done_by, done_if, at_line, or_lines}
use Rattle.play_steps.specs.Lines.{did_next, from_lines, next}
use Rattle.play_steps.specs.Taking.{answered, all_answered, with_sent, unless_wanted}
use Rattle.play_steps.specs.Steps.{heard_of, message_done, behind_answer}
use Rattle.play_steps.proofs.Ready.{as_ready, as_next}

-- it holds of what comes without a line
pub record Grants (W : Want → Type 0) : Type 0 where
  pub event : (node : NodeId) (happening : Happening) → W (want.Event node happening)
  pub deliver : (number : ℕ) → W (want.Deliver number)
  pub spent : W want.Spent

abbrev pub AllAre : (Want → Type 0) → List Want → Type 0
AllAre W [] = Unit {0}
AllAre W (w ∷ ws) = W w × AllAre W ws

abbrev pub IsKept : (List (List ℕ) → Type 0) → (Want → Type 0) → Player → Type 0
IsKept P W p = P p.lines × AllAre W p.queue

-- it holds of what comes next, and where that goes on, it is kept
abbrev pub Goes : (List (List ℕ) → Type 0) → (Want → Type 0) → Want → Player → Type 0
Goes P W want.End q = W want.End
Goes P W (want.Bad line) q = Unit {0}
Goes P W want.Spent q = Unit {0}
Goes P W (want.Renew node) q = W (want.Renew node) × IsKept P W q
Goes P W (want.Event node happening) q = IsKept P W q
Goes P W (want.Deliver number) q = IsKept P W q

-- What is ready.

abbrev HasWant : (Want → Type 0) → Option Want → Type 0
HasWant W None = Unit {0}
HasWant W (Some w) = W w

abbrev IsReady : (List (List ℕ) → Type 0) → (Want → Type 0) → Ready → Type 0
IsReady P W r = HasWant W r.1 × IsKept P W r.2

delivers_case : (P : List (List ℕ) → Type 0) (W : Want → Type 0) (g : Grants W) (p : Player)
    (n count : ℕ) (ns : List ℕ) (progress t : Bool) → IsKept P W p → IsReady P W (cond t
    (wanting (want.Deliver n)
    (record p { round = Some (record { left = ns; progress = progress; count = count + 1 }) }))
    (wanting want.Spent (record p { round = None })))
delivers_case P W g p n count ns progress true on = (g.deliver n, on)
delivers_case P W g p n count ns progress false on = (g.spent, on)

delivers_on : (P : List (List ℕ) → Type 0) (W : Want → Type 0) (g : Grants W) (p : Player)
    (count : ℕ) (progress : Bool) (ns : List ℕ) → IsKept P W p
    → IsReady P W (delivers p count progress ns)
delivers_on P W g p count progress [] on = (tt, on)
delivers_on P W g p count progress (n ∷ ns) on =
    delivers_case P W g p n count ns progress (nat_lt count 1000000) on

fresh_on : (P : List (List ℕ) → Type 0) (W : Want → Type 0) (g : Grants W) (p : Player)
    (count : ℕ) (b : Bool) → IsKept P W p → IsReady P W (cond b (delivers p count false p.pending)
    (as_ready [] None (record p { round = None })))
fresh_on P W g p count true on = delivers_on P W g p count false p.pending on
fresh_on P W g p count false on = (tt, on)

rounds_on : (P : List (List ℕ) → Type 0) (W : Want → Type 0) (g : Grants W) (p : Player)
    (r : Round) (ns : List ℕ) → IsKept P W p → IsReady P W (rounds p r ns)
rounds_on P W g p r [] on = fresh_on P W g p r.count r.progress on
rounds_on P W g p r (n ∷ ns) on = delivers_on P W g p r.count r.progress (n ∷ ns) on

round_on : (P : List (List ℕ) → Type 0) (W : Want → Type 0) (g : Grants W) (p : Player)
    (o : Option Round) → IsKept P W p → IsReady P W (round_ready p o)
round_on P W g p None on = (tt, on)
round_on P W g p (Some r) on = rounds_on P W g p r (undone p.pending r.left) on

queue_on : (P : List (List ℕ) → Type 0) (W : Want → Type 0) (g : Grants W) (p : Player)
    (ws : List Want) → IsKept P W p → AllAre W ws → IsReady P W (queue_ready p ws)
queue_on P W g p [] on all = round_on P W g p p.round on
queue_on P W g p (w ∷ ws) on all = (all.0, (on.0, all.1))

idle_on : (P : List (List ℕ) → Type 0) (W : Want → Type 0) (p : Player) (f : Option ℕ) (conn : ℕ)
    (goes : Player → Ready) → ((q : Player) → IsKept P W q → IsReady P W (goes q)) → IsKept P W p
    → IsReady P W (idle_ready p f conn goes)
idle_on P W p None conn goes keeps on = keeps p on
idle_on P W p (Some number) conn goes keeps on = keeps (shut p conn) on

conn_on : (P : List (List ℕ) → Type 0) (W : Want → Type 0) (g : Grants W) (p : Player)
    (c : Connection) (conns rest : List ℕ) (b : Bool) (w : List (List ℕ))
    → ((q : Player) → IsKept P W q → IsReady P W (serving_ready q rest)) → IsKept P W p
    → IsReady P W (cond b (serving_ready p rest)
    (conn_ready p c conns w (λ q. serving_ready q rest)))
conn_on P W g p c conns rest true w keeps on = keeps p on
conn_on P W g p c conns rest false [] keeps on =
    idle_on P W p c.fault c.conn (λ q. serving_ready q rest) keeps on
conn_on P W g p c conns rest false (m ∷ ms) keeps on =
    (g.event (Router (router_of p c.conn)) (what.Client c.conn m), on)

serving_on : (P : List (List ℕ) → Type 0) (W : Want → Type 0) (g : Grants W) (p : Player)
    (conns : List ℕ) → IsKept P W p → IsReady P W (serving_ready p conns)
serving_on P W g p [] on = queue_on P W g (record p { serving = [] }) p.queue on on.1
serving_on P W g p (conn ∷ conns) on =
    conn_on P W g p (connection p conn) (conn ∷ conns) conns (connection p conn).busy
    (connection p conn).waiting (λ q. serving_on P W g q conns) on

-- What a line does. It may ask that a node starts again.

abbrev pub LineAsks : (Want → Type 0) → Line → Type 0
LineAsks W (line.Restart node) = W (want.Renew node)
LineAsks W other = Unit {0}

abbrev pub AskedFor : (Want → Type 0) → Option Line → Type 0
AskedFor W None = Unit {0}
AskedFor W (Some l) = LineAsks W l

all_both : (W : Want → Type 0) (ws vs : List Want) → AllAre W ws → AllAre W vs → AllAre W (ws ++ vs)
all_both W [] vs all more = more
all_both W (w ∷ ws) vs all more = (all.0, all_both W ws vs all.1 more)

shards_moments : (W : Want → Type 0) (g : Grants W) (ns : List ℕ)
    → AllAre W (map (λ n. want.Event (Shard n) what.Moment) ns)
shards_moments W g [] = tt
shards_moments W g (n ∷ ns) = (g.event (Shard n) what.Moment, shards_moments W g ns)

routers_moments : (W : Want → Type 0) (g : Grants W) (ns : List ℕ)
    → AllAre W (map (λ n. want.Event (Router n) what.Moment) ns)
routers_moments W g [] = tt
routers_moments W g (n ∷ ns) = (g.event (Router n) what.Moment, routers_moments W g ns)

moments_on : (W : Want → Type 0) (g : Grants W) (p : Player) → AllAre W (moments p)
moments_on W g p =
    all_both W (map (λ n. want.Event (Shard n) what.Moment) (range_with_len 0 p.shards))
    (map (λ n. want.Event (Router n) what.Moment) (range_with_len 0 p.routers))
    (shards_moments W g (range_with_len 0 p.shards))
    (routers_moments W g (range_with_len 0 p.routers))

queued_on : (P : List (List ℕ) → Type 0) (W : Want → Type 0) (p : Player) (ws : List Want)
    → IsKept P W p → AllAre W ws → IsKept P W (queued p ws)
queued_on P W p ws on all = (on.0, all_both W p.queue ws on.1 all)

abbrev IsDid : (List (List ℕ) → Type 0) → (Want → Type 0) → Did → Type 0
IsDid P W None = Unit {0}
IsDid P W (Some did) = IsKept P W did.1

where_on : (P : List (List ℕ) → Type 0) (W : Want → Type 0) (b : Bool) (p : Player) → IsKept P W p
    → IsDid P W (does_where b p)
where_on P W true p on = on
where_on P W false p on = tt

restart_on : (P : List (List ℕ) → Type 0) (W : Want → Type 0) (dump : List ℕ) (p : Player)
    (node : NodeId) → W (want.Renew node) → IsKept P W p
    → IsDid P W (done_by dump p (line.Restart node))
restart_on P W dump p (Shard n) one on = where_on P W (is_there p (Shard n))
    (queued (without_connections p (Shard n)) (want.Renew (Shard n) ∷ []))
    (queued_on P W (without_connections p (Shard n)) (want.Renew (Shard n) ∷ []) on (one, tt))
restart_on P W dump p (Router n) one on = where_on P W (is_there p (Router n))
    (queued (without_connections p (Router n)) (want.Renew (Router n) ∷ []))
    (queued_on P W (without_connections p (Router n)) (want.Renew (Router n) ∷ []) on (one, tt))

done_on : (P : List (List ℕ) → Type 0) (W : Want → Type 0) (g : Grants W) (dump : List ℕ)
    (p : Player) (l : Line) → LineAsks W l → IsKept P W p → IsDid P W (done_by dump p l)
done_on P W g dump p (line.Ask conn bytes) one on = on
done_on P W g dump p (line.Client conn bytes) one on = on
done_on P W g dump p (line.Gone conn) one on =
    queued_on P W (shut p conn) (want.Event (Router (router_of p conn)) (what.Gone conn) ∷ []) on
    (g.event (Router (router_of p conn)) (what.Gone conn), tt)
done_on P W g dump p (line.Deliver number) one on =
    where_on P W (was_sent p number) (queued p (want.Deliver number ∷ []))
    (queued_on P W p (want.Deliver number ∷ []) on (g.deliver number, tt))
done_on P W g dump p (line.Lose number) one on =
    where_on P W (was_sent p number) (lost p number) on
done_on P W g dump p line.Settle one on = on
done_on P W g dump p (line.Restart node) one on = restart_on P W dump p node one on
done_on P W g dump p (line.Resend node) one on =
    where_on P W (is_there p node) (queued p (want.Event node what.Resend ∷ []))
    (queued_on P W p (want.Event node what.Resend ∷ []) on (g.event node what.Resend, tt))
done_on P W g dump p (line.Wall secs) one on =
    queued_on P W (record p { wall = secs }) (moments p) on (moments_on W g p)
done_on P W g dump p line.Dump one on = on
done_on P W g dump p line.Log one on = on

done_if_on : (P : List (List ℕ) → Type 0) (W : Want → Type 0) (g : Grants W) (dump : List ℕ)
    (p : Player) (o : Option Line) → AskedFor W o → IsKept P W p → IsDid P W (done_if dump p o)
done_if_on P W g dump p None one on = tt
done_if_on P W g dump p (Some l) one on = done_on P W g dump p l one on

-- What comes next.

abbrev pub IsNext : (List (List ℕ) → Type 0) → (Want → Type 0) → Next → Type 0
IsNext P W n = Goes P W n.1 n.2

goes_on : (P : List (List ℕ) → Type 0) (W : Want → Type 0) (w : Want) (q : Player) → W w
    → IsKept P W q → Goes P W w q
goes_on P W (want.Event node happening) q one on = on
goes_on P W (want.Deliver number) q one on = on
goes_on P W (want.Renew node) q one on = (one, on)
goes_on P W want.End q one on = one
goes_on P W (want.Bad line) q one on = tt
goes_on P W want.Spent q one on = tt

or_on : (P : List (List ℕ) → Type 0) (W : Want → Type 0) (text : List ℕ) (o : Option Want)
    (q : Player) (lines : Player → Next) → ((x : Player) → IsKept P W x → IsNext P W (lines x))
    → HasWant W o → IsKept P W q → IsNext P W (or_lines (text, o, q) lines)
or_on P W text None q lines goes one on = goes q on
or_on P W text (Some w) q lines goes one on = goes_on P W w q one on

did_on : (P : List (List ℕ) → Type 0) (W : Want → Type 0) (g : Grants W) (p : Player) (d : Did)
    (lines : Player → Next) → ((x : Player) → IsKept P W x → IsNext P W (lines x)) → IsDid P W d
    → IsNext P W (did_next p d lines)
did_on P W g p None lines goes on = tt
did_on P W g p (Some did) lines goes on =
    let r = serving_on P W g did.1 did.1.serving on in
    or_on P W (ready did.1).0 (ready did.1).1 (ready did.1).2 lines goes r.0 r.1

few_on : (P : List (List ℕ) → Type 0) (W : Want → Type 0) (b : Bool) (p : Player) (n : Next)
    → IsNext P W n → IsNext P W (cond b (as_next [] want.Spent p) n)
few_on P W true p n on = tt
few_on P W false p n on = on

-- a line that is a bad one at that place, or of which it is kept
pub bad_line : (P : List (List ℕ) → Type 0) (W : Want → Type 0) (dump l : List ℕ)
    (lines : List (List ℕ)) (p : Player) → ((q : Player) (f : Player → Next)
    → IsNext P W (did_next q (done_if dump q (line_of l)) f))
    → IsNext P W (from_lines dump (l ∷ lines) p)
bad_line P W dump l lines p bad =
    few_on P W (nat_le 10000000 p.taken) p (did_next (at_line p lines)
    (done_if dump (at_line p lines) (line_of l)) (from_lines dump lines))
    (bad (at_line p lines) (from_lines dump lines))

pub good_line : (P : List (List ℕ) → Type 0) (W : Want → Type 0) (g : Grants W) (dump l : List ℕ)
    (lines : List (List ℕ)) (p : Player) → P lines → AllAre W p.queue → AskedFor W (line_of l)
    → ((q : Player) → IsKept P W q → IsNext P W (from_lines dump lines q))
    → IsNext P W (from_lines dump (l ∷ lines) p)
good_line P W g dump l lines p rest all one goes =
    few_on P W (nat_le 10000000 p.taken) p (did_next (at_line p lines)
    (done_if dump (at_line p lines) (line_of l)) (from_lines dump lines))
    (did_on P W g (at_line p lines) (done_if dump (at_line p lines) (line_of l))
    (from_lines dump lines) goes
    (done_if_on P W g dump (at_line p lines) (line_of l) one (rest, all)))

pub next_on : (P : List (List ℕ) → Type 0) (W : Want → Type 0) (g : Grants W) (dump : List ℕ)
    → ((lines : List (List ℕ)) (q : Player) → P lines → AllAre W q.queue
    → IsNext P W (from_lines dump lines q)) → (p : Player) → IsKept P W p
    → IsNext P W (next dump p)
unfolding next
next_on P W g dump goes p on =
    let r = serving_on P W g p p.serving on in
    or_on P W (ready p).0 (ready p).1 (ready p).2 (λ q. from_lines dump q.lines q)
    (λ q more. goes q.lines q more.0 more.1) r.0 r.1

-- What a node answers leaves it.

all_on : (P : List (List ℕ) → Type 0) (W : Want → Type 0) (p : Player)
    (replies : List (ℕ × List ℕ)) → IsKept P W p → IsKept P W (all_answered p replies)
all_on P W p [] on = on
all_on P W p (r ∷ replies) on = all_on P W (answered p r.0) replies on

unless_on : (P : List (List ℕ) → Type 0) (W : Want → Type 0) (p : Player) (conn : ℕ)
    (wanted : Bool) → IsKept P W p → IsKept P W (unless_wanted p conn wanted)
unless_on P W p conn true on = on
unless_on P W p conn false on = on

heard_on : (P : List (List ℕ) → Type 0) (W : Want → Type 0) (p : Player) (x : Given)
    (closed : Option ℕ) → IsKept P W p → IsKept P W (heard_of p x closed)
heard_on P W p (given.Client conn wanted) None on = unless_on P W p conn wanted on
heard_on P W p (given.Client conn wanted) (Some number) on = on
heard_on P W p (given.Message number) closed on = on
heard_on P W p given.Other closed on = on

message_on : (P : List (List ℕ) → Type 0) (W : Want → Type 0) (p : Player) (x : Given)
    → IsKept P W p → IsKept P W (message_done p x)
message_on P W p (given.Client conn wanted) on = on
message_on P W p (given.Message number) on = on
message_on P W p given.Other on = on

pub answer_on : (P : List (List ℕ) → Type 0) (W : Want → Type 0) (p : Player) (x : Given)
    (a : NodeAnswer) → IsKept P W p → IsKept P W (behind_answer p x a)
answer_on P W p x (answer.Did out replies closed) on =
    message_on P W _ x (heard_on P W (all_answered (with_sent p out) replies) x closed
    (all_on P W (with_sent p out) replies on))
answer_on P W p x (answer.Blocked id tag ts) on = on
answer_on P W p x answer.DiskFault on = message_on P W p x on
answer_on P W p x answer.Stopped on = message_on P W p x on
answer_on P W p x answer.Memory on = message_on P W p x on
