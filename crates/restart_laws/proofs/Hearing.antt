-- What clients bring in a schedule that is played is bytes, on connections whose numbers have 32
-- bits: what comes next brings such, and so it stays.
use Rattle.std.proofs.Common.{◌≡◌, ◌<◌, ◌^◌, ℕ, zero, suc, ◌+◌, Bool, true, false, cond, not, All, List}
use Rattle.std.proofs.Common.{[], ◌∷◌, ◌++◌, length, map, take, drop, nat_eq, nat_lt, nat_le, Option}
use Rattle.std.proofs.Common.{Some, None, Result, Ok, Err, refl, sym, subst}
use Rattle.std.specs.Prelude.{unwrap_or}
use Rattle.std.specs.List.{find, range_with_len}
use Rattle.std.proofs.lemmas.List.Elements.{All-nil, All-cons, All-append, All-head, All-tail}
use Rattle.std.proofs.lemmas.List.Elements.{All-filter, All-take, All-drop}
use Rattle.op_msg.specs.Stream.{Next as Cut, length_of, next_by, next_of}
use Rattle.op_msg.specs.declared.frame.FrameErr.{FrameErr}
use Rattle.client_streams.specs.Streams.{Connection, fresh, cut_by, cut_times, fed_by, fed}
use Rattle.client_streams.specs.Streams.{connection_in, with_connection}
use Rattle.client_streams.proofs.Places.{conn_in}
use Rattle.play_script.specs.Lines.{line_of}
use Rattle.play_script.specs.declared.line.Line.{Line}
use Rattle.play_script.specs.declared.line.Line.TheVariants as line
use Rattle.txn_types.specs.declared.event.Happening.{Happening}
use Rattle.txn_types.specs.declared.event.Happening.TheVariants as what
use Rattle.txn_types.specs.declared.event.NodeAnswer.{NodeAnswer}
use Rattle.txn_types.specs.declared.event.NodeAnswer.TheVariants as answer
use Rattle.txn_types.specs.declared.node.NodeId.{NodeId}
use Rattle.txn_types.specs.declared.node.NodeId.TheVariants.{Shard, Router}
use Rattle.play_steps.specs.declared.want.Want.{Want}
use Rattle.play_steps.specs.declared.want.Want.TheVariants as want
use Rattle.play_steps.specs.declared.want.Given.{Given}
use Rattle.play_steps.specs.declared.want.Given.TheVariants as given
use Rattle.play_steps.specs.Player.{Player, Round, Ready, connection, with_conn, shut, wanting, undone}
use Rattle.play_steps.specs.Player.{delivers, rounds, round_ready, queue_ready, idle_ready}
use Rattle.play_steps.specs.Player.{conn_ready, serving_ready, ready, router_of}
use Rattle.play_steps.specs.Lines.{Did, Next, does_where, is_there, was_sent, queued, moments, lost}
use Rattle.play_steps.specs.Lines.{without_connections, done_by, done_if, at_line, or_lines, asks}
use Rattle.play_steps.specs.Lines.{did_next, from_lines, next}
use Rattle.play_steps.specs.Taking.{answered, all_answered, with_sent, unless_wanted}
use Rattle.play_steps.specs.Steps.{heard_of, message_done, behind_answer}
use Rattle.restart_laws.proofs.Lines.{AreBytes, Comes, LineFits, SomeFits, line_fits}

-- what a connection has of its client
abbrev pub HoldsBytes : Connection → Type 0
HoldsBytes c = AreBytes c.bytes × All (Comes c.conn) c.waiting

-- so what happens to a node
abbrev pub EventFits : Happening → Type 0
EventFits (what.Client conn bytes) = Comes conn bytes
EventFits other = Unit {0}

abbrev pub WantFits : Want → Type 0
WantFits (want.Event node happening) = EventFits happening
WantFits other = Unit {0}

-- what a player has of its clients
abbrev pub Hears : Player → Type 0
Hears p = All HoldsBytes p.connections × All WantFits p.queue

-- what is ready and what comes next, put together of their parts

abbrev as_ready : List ℕ → Option Want → Player → Ready
as_ready text w p = (text, w, p)

abbrev as_next : List ℕ → Want → Player → Next
as_next text w p = (text, w, p)

-- Connections.

fresh_holds : (conn : ℕ) → HoldsBytes (fresh conn)
fresh_holds conn = (All-nil (λ (b : ℕ). b < 2 ^ 8), All-nil (Comes conn))

in_case : (d : Connection) (cs : List Connection) (conn : ℕ) (t : Bool) → HoldsBytes d
    → HoldsBytes (connection_in cs conn) → HoldsBytes (unwrap_or (cond t (Some d)
    (find (λ (c : Connection). nat_eq c.conn conn) cs)) (fresh conn))
in_case d cs conn true h rest = h
in_case d cs conn false h rest = rest

in_holds : (cs : List Connection) (conn : ℕ) → All HoldsBytes cs → HoldsBytes (connection_in cs conn)
in_holds [] conn all = fresh_holds conn
in_holds (d ∷ cs) conn all = in_case d cs conn (nat_eq d.conn conn) (All-head HoldsBytes d cs all)
    (in_holds cs conn (All-tail HoldsBytes d cs all))

put_case : (c d : Connection) (cs : List Connection) (t : Bool) → HoldsBytes c → HoldsBytes d
    → All HoldsBytes cs → All HoldsBytes (with_connection c cs)
    → All HoldsBytes (cond t (c ∷ cs) (d ∷ with_connection c cs))
put_case c d cs true one h all rest = All-cons HoldsBytes c cs one all
put_case c d cs false one h all rest = All-cons HoldsBytes d (with_connection c cs) h rest

put_holds : (c : Connection) (cs : List Connection) → HoldsBytes c → All HoldsBytes cs
    → All HoldsBytes (with_connection c cs)
put_holds c [] one all = All-cons HoldsBytes c [] one (All-nil HoldsBytes)
put_holds c (d ∷ cs) one all = put_case c d cs (nat_eq c.conn d.conn) one
    (All-head HoldsBytes d cs all) (All-tail HoldsBytes d cs all)
    (put_holds c cs one (All-tail HoldsBytes d cs all))

put_on : (p : Player) (c : Connection) → HoldsBytes c → Hears p → Hears (with_conn p c)
put_on p c one on = (put_holds c p.connections one on.0, on.1)

-- Messages are cut off what came.

cut_at : (held : List ℕ) (len : ℕ) (message : List ℕ × List ℕ) → AreBytes held
    → ◌≡◌ {A = Cut} (Ok (Some (take len held, drop len held))) (Ok (Some message))
    → AreBytes message.0 × AreBytes message.1
cut_at held len message all is =
    let same : (take len held, drop len held) ≡ message = cc in
    subst (λ (m : List ℕ × List ℕ). AreBytes m.0 × AreBytes m.1) same
    (All-take (λ (b : ℕ). b < 2 ^ 8) len held all, All-drop (λ (b : ℕ). b < 2 ^ 8) len held all)

cut_bytes : (held : List ℕ) (r : Result (Option ℕ) FrameErr) (message : List ℕ × List ℕ)
    → AreBytes held → next_by held r ≡ Ok (Some message) → AreBytes message.0 × AreBytes message.1
cut_bytes held (Ok (Some len)) message all is = cut_at held len message all is
cut_bytes held (Ok None) message all is = absurd cc
cut_bytes held (Err e) message all is = absurd cc

abbrev Feeds : Connection → Type 0
Feeds c = (c.conn < 2 ^ 32) × HoldsBytes c

cut_case : (f : Connection → Connection) (c : Connection) (o : Cut)
    → ((d : Connection) → Feeds d → Feeds (f d)) → ((m : List ℕ × List ℕ) → o ≡ Ok (Some m)
    → AreBytes m.0 × AreBytes m.1) → Feeds c → Feeds (cut_by f c o)
cut_case f c (Ok (Some m)) goes cut on =
    let h = cut m refl in
    goes (record c { bytes = m.1; waiting = c.waiting ++ m.0 ∷ [] }) (
      on.0,
      (
        h.1,
        All-append (Comes c.conn) c.waiting (m.0 ∷ []) on.1.1
            (All-cons (Comes c.conn) m.0 [] (on.0, h.0) (All-nil (Comes c.conn))),
      ),
    )
cut_case f c (Ok None) goes cut on = on
cut_case f c (Err e) goes cut on = (on.0, (All-nil (λ (b : ℕ). b < 2 ^ 8), on.1.1))

cut_on : (n : ℕ) (c : Connection) → Feeds c → Feeds (cut_times n c)
cut_on zero c on = on
cut_on (suc n) c on = cut_case (cut_times n) c (next_of 48000000 c.bytes) (cut_on n)
    (λ m is. cut_bytes c.bytes (length_of 48000000 c.bytes) m on.1.0 is) on

fed_case : (f : Option ℕ) (c : Connection) (bytes : List ℕ) → Feeds c → AreBytes bytes
    → Feeds (fed_by f c bytes)
fed_case None c bytes on came = cut_on (length (c.bytes ++ bytes))
    (record c { bytes = c.bytes ++ bytes })
    (on.0, (All-append (λ (b : ℕ). b < 2 ^ 8) c.bytes bytes on.1.0 came, on.1.1))
fed_case (Some number) c bytes on came = on

fed_on : (c : Connection) (bytes : List ℕ) → Feeds c → AreBytes bytes → Feeds (fed c bytes)
unfolding fed
fed_on c bytes on came = fed_case c.fault c bytes on came

asks_on : (p : Player) (conn : ℕ) (bytes : List ℕ) → Comes conn bytes → Hears p
    → Hears (asks p conn bytes)
asks_on p conn bytes came on =
    let small : (connection p conn).conn < 2 ^ 32 =
    subst (λ (n : ℕ). n < 2 ^ 32) (sym (conn_in p.connections conn)) came.0 in
    put_on p (fed (connection p conn) bytes) (fed_on (connection p conn) bytes
    (small, in_holds p.connections conn on.0) came.1).1 on

shut_on : (p : Player) (conn : ℕ) → Hears p → Hears (shut p conn)
shut_on p conn on = put_on p (fresh conn) (fresh_holds conn) on

-- What is ready.

abbrev HasWant : Option Want → Type 0
HasWant None = Unit {0}
HasWant (Some w) = WantFits w

abbrev IsReady : Ready → Type 0
IsReady r = HasWant r.1 × Hears r.2

delivers_case : (p : Player) (n count : ℕ) (ns : List ℕ) (progress t : Bool) → Hears p
    → IsReady (cond t (wanting (want.Deliver n)
    (record p { round = Some (record { left = ns; progress = progress; count = count + 1 }) }))
    (wanting want.Spent (record p { round = None })))
delivers_case p n count ns progress true on = (tt, on)
delivers_case p n count ns progress false on = (tt, on)

delivers_on : (p : Player) (count : ℕ) (progress : Bool) (ns : List ℕ) → Hears p
    → IsReady (delivers p count progress ns)
delivers_on p count progress [] on = (tt, on)
delivers_on p count progress (n ∷ ns) on =
    delivers_case p n count ns progress (nat_lt count 1000000) on

fresh_on : (p : Player) (count : ℕ) (b : Bool) → Hears p → IsReady (cond b
    (delivers p count false p.pending) (as_ready [] None (record p { round = None })))
fresh_on p count true on = delivers_on p count false p.pending on
fresh_on p count false on = (tt, on)

rounds_on : (p : Player) (r : Round) (ns : List ℕ) → Hears p → IsReady (rounds p r ns)
rounds_on p r [] on = fresh_on p r.count r.progress on
rounds_on p r (n ∷ ns) on = delivers_on p r.count r.progress (n ∷ ns) on

round_on : (p : Player) (o : Option Round) → Hears p → IsReady (round_ready p o)
round_on p None on = (tt, on)
round_on p (Some r) on = rounds_on p r (undone p.pending r.left) on

queue_on : (p : Player) (ws : List Want) → Hears p → All WantFits ws → IsReady (queue_ready p ws)
queue_on p [] on all = round_on p p.round on
queue_on p (w ∷ ws) on all = (All-head WantFits w ws all, (on.0, All-tail WantFits w ws all))

idle_on : (p : Player) (f : Option ℕ) (conn : ℕ) (goes : Player → Ready)
    → ((q : Player) → Hears q → IsReady (goes q)) → Hears p → IsReady (idle_ready p f conn goes)
idle_on p None conn goes keeps on = keeps p on
idle_on p (Some number) conn goes keeps on = keeps (shut p conn) (shut_on p conn on)

conn_on : (p : Player) (c : Connection) (conns rest : List ℕ) (b : Bool) (w : List (List ℕ))
    → ((q : Player) → Hears q → IsReady (serving_ready q rest)) → AreBytes c.bytes
    → All (Comes c.conn) w → Hears p → IsReady (cond b (serving_ready p rest)
    (conn_ready p c conns w (λ q. serving_ready q rest)))
conn_on p c conns rest true w keeps bytes all on = keeps p on
conn_on p c conns rest false [] keeps bytes all on =
    idle_on p c.fault c.conn (λ q. serving_ready q rest) keeps on
conn_on p c conns rest false (m ∷ ms) keeps bytes all on = (
  All-head (Comes c.conn) m ms all,
  put_on p (record c { waiting = ms; busy = true }) (bytes, All-tail (Comes c.conn) m ms all) on,
)

serving_on : (p : Player) (conns : List ℕ) → Hears p → IsReady (serving_ready p conns)
serving_on p [] on = queue_on (record p { serving = [] }) p.queue on on.1
serving_on p (conn ∷ conns) on =
    let held : HoldsBytes (connection p conn) = in_holds p.connections conn on.0 in
    conn_on p (connection p conn) (conn ∷ conns) conns (connection p conn).busy
    (connection p conn).waiting (λ q. serving_on q conns) held.0 held.1 on

-- What a line does.

shards_moments : (ns : List ℕ) → All WantFits (map (λ n. want.Event (Shard n) what.Moment) ns)
shards_moments [] = All-nil WantFits
shards_moments (n ∷ ns) = All-cons WantFits (want.Event (Shard n) what.Moment)
    (map (λ k. want.Event (Shard k) what.Moment) ns) tt (shards_moments ns)

routers_moments : (ns : List ℕ) → All WantFits (map (λ n. want.Event (Router n) what.Moment) ns)
routers_moments [] = All-nil WantFits
routers_moments (n ∷ ns) = All-cons WantFits (want.Event (Router n) what.Moment)
    (map (λ k. want.Event (Router k) what.Moment) ns) tt (routers_moments ns)

moments_on : (p : Player) → All WantFits (moments p)
moments_on p = All-append WantFits
    (map (λ n. want.Event (Shard n) what.Moment) (range_with_len 0 p.shards))
    (map (λ n. want.Event (Router n) what.Moment) (range_with_len 0 p.routers))
    (shards_moments (range_with_len 0 p.shards)) (routers_moments (range_with_len 0 p.routers))

queued_on : (p : Player) (ws : List Want) → Hears p → All WantFits ws → Hears (queued p ws)
queued_on p ws on all = (on.0, All-append WantFits p.queue ws on.1 all)

queued_one : (p : Player) (w : Want) → Hears p → WantFits w → Hears (queued p (w ∷ []))
queued_one p w on one = queued_on p (w ∷ []) on (All-cons WantFits w [] one (All-nil WantFits))

abbrev IsDid : Did → Type 0
IsDid None = Unit {0}
IsDid (Some did) = Hears did.1

where_on : (b : Bool) (p : Player) → Hears p → IsDid (does_where b p)
where_on true p on = on
where_on false p on = tt

restart_on : (dump : List ℕ) (p : Player) (node : NodeId) → Hears p
    → IsDid (done_by dump p (line.Restart node))
restart_on dump p (Shard n) on = where_on (is_there p (Shard n))
    (queued p (want.Renew (Shard n) ∷ [])) (queued_one p (want.Renew (Shard n)) on tt)
restart_on dump p (Router n) on =
    let q : Player = without_connections p (Router n) in
    where_on (is_there p (Router n)) (queued q (want.Renew (Router n) ∷ []))
    (queued_one q (want.Renew (Router n)) (
      All-filter
          (λ (c : Connection). not (nat_eq (router_of p c.conn) n)) HoldsBytes p.connections on.0,
      on.1,
    )
    tt)

done_on : (dump : List ℕ) (p : Player) (l : Line) → LineFits l → Hears p
    → IsDid (done_by dump p l)
done_on dump p (line.Ask conn bytes) one on = asks_on p conn bytes one on
done_on dump p (line.Client conn bytes) one on = asks_on p conn bytes one on
done_on dump p (line.Gone conn) one on =
    queued_one (shut p conn) (want.Event (Router (router_of p conn)) (what.Gone conn))
    (shut_on p conn on) tt
done_on dump p (line.Deliver number) one on =
    where_on (was_sent p number) (queued p (want.Deliver number ∷ []))
    (queued_one p (want.Deliver number) on tt)
done_on dump p (line.Lose number) one on = where_on (was_sent p number) (lost p number) on
done_on dump p line.Settle one on = on
done_on dump p (line.Restart node) one on = restart_on dump p node on
done_on dump p (line.Resend node) one on =
    where_on (is_there p node) (queued p (want.Event node what.Resend ∷ []))
    (queued_one p (want.Event node what.Resend) on tt)
done_on dump p (line.Wall secs) one on =
    queued_on (record p { wall = secs }) (moments p) on (moments_on p)
done_on dump p line.Dump one on = on
done_on dump p line.Log one on = on

done_if_on : (dump : List ℕ) (p : Player) (o : Option Line) → SomeFits o → Hears p
    → IsDid (done_if dump p o)
done_if_on dump p None one on = tt
done_if_on dump p (Some l) one on = done_on dump p l one on

-- What comes next.

abbrev pub IsNext : Next → Type 0
IsNext n = WantFits n.1 × Hears n.2

or_on : (text : List ℕ) (o : Option Want) (q : Player) (lines : Player → Next)
    → ((x : Player) → Hears x → IsNext (lines x)) → HasWant o → Hears q
    → IsNext (or_lines (text, o, q) lines)
or_on text None q lines goes one on = goes q on
or_on text (Some w) q lines goes one on = (one, on)

did_on : (p : Player) (d : Did) (lines : Player → Next)
    → ((x : Player) → Hears x → IsNext (lines x)) → Hears p → IsDid d
    → IsNext (did_next p d lines)
did_on p None lines goes on did = (tt, on)
did_on p (Some did) lines goes on h =
    let r = serving_on did.1 did.1.serving h in
    or_on (ready did.1).0 (ready did.1).1 (ready did.1).2 lines goes r.0 r.1

few_on : (b : Bool) (p : Player) (n : Next) → Hears p → IsNext n
    → IsNext (cond b (as_next [] want.Spent p) n)
few_on true p n on h = (tt, on)
few_on false p n on h = h

from_on : (dump : List ℕ) (lines : List (List ℕ)) (p : Player) → Hears p
    → IsNext (from_lines dump lines p)
from_on dump [] p on = (tt, on)
from_on dump (l ∷ lines) p on =
    few_on (nat_le 10000000 p.taken) p (did_next (at_line p lines)
    (done_if dump (at_line p lines) (line_of l)) (from_lines dump lines)) on
    (did_on (at_line p lines) (done_if dump (at_line p lines) (line_of l))
    (from_lines dump lines) (from_on dump lines) on
    (done_if_on dump (at_line p lines) (line_of l) (line_fits l) on))

pub next_on : (dump : List ℕ) (p : Player) → Hears p → IsNext (next dump p)
unfolding next
next_on dump p on =
    let r = serving_on p p.serving on in
    or_on (ready p).0 (ready p).1 (ready p).2 (λ q. from_lines dump q.lines q)
    (λ q more. from_on dump q.lines q more) r.0 r.1

-- What a node answers leaves it.

idle_again : (p : Player) (conn : ℕ) → Hears p → Hears (answered p conn)
idle_again p conn on = put_on p (record (connection p conn) { busy = false })
    (in_holds p.connections conn on.0) on

all_on : (p : Player) (replies : List (ℕ × List ℕ)) → Hears p → Hears (all_answered p replies)
all_on p [] on = on
all_on p (r ∷ replies) on = all_on (answered p r.0) replies (idle_again p r.0 on)

unless_on : (p : Player) (conn : ℕ) (wanted : Bool) → Hears p → Hears (unless_wanted p conn wanted)
unless_on p conn true on = on
unless_on p conn false on = idle_again p conn on

heard_on : (p : Player) (x : Given) (closed : Option ℕ) → Hears p → Hears (heard_of p x closed)
heard_on p (given.Client conn wanted) None on = unless_on p conn wanted on
heard_on p (given.Client conn wanted) (Some number) on = shut_on p conn on
heard_on p (given.Message number) closed on = on
heard_on p given.Other closed on = on

message_on : (p : Player) (x : Given) → Hears p → Hears (message_done p x)
message_on p (given.Client conn wanted) on = on
message_on p (given.Message number) on = on
message_on p given.Other on = on

pub answer_on : (p : Player) (x : Given) (a : NodeAnswer) → Hears p → Hears (behind_answer p x a)
answer_on p x (answer.Did out replies closed) on =
    message_on _ x (heard_on (all_answered (with_sent p out) replies) x closed
    (all_on (with_sent p out) replies on))
answer_on p x (answer.Blocked id tag ts) on = on
answer_on p x answer.DiskFault on = message_on p x on
answer_on p x answer.Stopped on = message_on p x on
answer_on p x answer.Memory on = message_on p x on
