-- What the status of a schedule whose lines are all of clients says of them.
use Rattle.std.proofs.Common.{◌≡◌, ◌≤◌, ◌<◌, ◌⊎◌, inl, inr, ℕ, ◌+◌, Bool, true, false, cond, List}
use Rattle.std.proofs.Common.{[], ◌∷◌, ◌++◌}
use Rattle.std.proofs.Common.{length, take, nat_le, nat_lt, Option, Some, None, Err, refl}
use Rattle.std.proofs.Common.{sym, ap, subst, ◌∙◌, arith, append_assoc}
use Rattle.std.specs.Prelude.{slice_get}
use Rattle.std.proofs.lemmas.List.{append-nil, length-append}
use Rattle.chunk_map.specs.Map.{Map}
use Rattle.txn_types.specs.declared.event.NodeAnswer.{NodeAnswer}
use Rattle.txn_types.specs.declared.event.NodeAnswer.TheVariants as answer
use Rattle.txn_model.specs.declared.ran.Ran.{Ran}
use Rattle.cluster_core.specs.Nodes.{Nodes}
use Rattle.client_streams.specs.Streams.{Connection}
use Rattle.play_script.specs.Lines.{line_of, Asked, Asks}
use Rattle.play_script.specs.declared.line.Line.{Line}
use Rattle.play_script.specs.declared.line.Line.TheVariants as line
use Rattle.play_steps.specs.declared.want.Want.{Want}
use Rattle.play_steps.specs.declared.want.Want.TheVariants as want
use Rattle.play_steps.specs.declared.want.Given.{Given}
use Rattle.play_steps.specs.declared.want.Given.TheVariants as given
use Rattle.play_steps.specs.Player.{Player, Round, Ready, connection, shut, wanting, undone}
use Rattle.play_steps.specs.Player.{delivers, rounds, round_ready, queue_ready, idle_ready}
use Rattle.play_steps.specs.Player.{conn_ready, serving_ready, ready}
use Rattle.play_steps.specs.Lines.{Next, done_if, at_line, or_lines, did_next, from_lines, next}
use Rattle.play_steps.specs.Lines.{asks, settles}
use Rattle.play_steps.specs.Taking.{answered, all_answered, with_sent, unless_wanted}
use Rattle.play_steps.specs.Steps.{given_of, heard_of, message_done, behind_answer}
use Rattle.cluster_play.specs.declared.status.Status.{Status}
use Rattle.cluster_play.specs.declared.status.Status.TheVariants as status
use Rattle.cluster_play.specs.Schedule.{Schedule, schedule_of, unmarked, player_of}
use Rattle.cluster_play.specs.Plays.{dump_at, next_at, PlaysTo}
use Rattle.cluster_play.specs.Ended.{Played, Ended}
use Rattle.cluster_play.specs.Steps.{status_at}
use Rattle.course_laws.specs.Clients.{AreOfClients, AllAsk, IsPlayable, FirstBadLine, IsOverrun}
use Rattle.course_laws.specs.Clients.{IsSpent, JudgesLines, JudgedBy}
use Rattle.course_laws.proofs.Doing.{ends_undone, does_keeps}
use Rattle.course_laws.proofs.Finding.{not_both_ways}
use Rattle.course_laws.proofs.Lines.{asks_or_not, none_bad, first_client, no_configuration}
use Rattle.course_laws.proofs.Lines.{ask_both}
use Rattle.course_laws.proofs.Lines.{front_of, after_front, unmarked_alone}

-- Of all lines so many were taken, each of which asks something; these are to come.
record Taken (all lines : List (List ℕ)) (taken : ℕ) : Type 0 where
  before : List (List ℕ)
  is : all ≡ before ++ lines
  ask : AllAsk before
  count : taken ≡ length before
  few : taken ≤ 10000000
  clients : AreOfClients lines

-- the player stands there, and nothing else was asked
abbrev Stands : List (List ℕ) → List (List ℕ) → Player → Type 0
Stands all lines p = Taken all lines p.taken × (p.lines ≡ lines) × (p.queue ≡ [])

abbrev StandsIn : List (List ℕ) → Player → Type 0
StandsIn all p = Stands all p.lines p

-- What is ready.

-- a settling that delivers no more
abbrev IsOver : Option Round → Type 0
IsOver None = ⊥
IsOver (Some r) = 1000000 ≤ r.count

abbrev ReadyBy : List (List ℕ) → List (List ℕ) → Option Round → Option Want → Player → Type 0
ReadyBy all lines round None q = Stands all lines q
ReadyBy all lines round (Some (want.Event node happening)) q = Stands all lines q
ReadyBy all lines round (Some (want.Deliver number)) q = Stands all lines q
ReadyBy all lines round (Some (want.Renew node)) q = ⊥
ReadyBy all lines round (Some want.End) q = ⊥
ReadyBy all lines round (Some (want.Bad line)) q = ⊥
ReadyBy all lines round (Some want.Spent) q = IsOver round

abbrev IsReady : List (List ℕ) → List (List ℕ) → Option Round → Ready → Type 0
IsReady all lines round r = ReadyBy all lines round r.1 r.2

abbrev as_ready : List ℕ → Option Want → Player → Ready
as_ready text w p = (text, w, p)

abbrev as_next : List ℕ → Want → Player → Next
as_next text w p = (text, w, p)

not_less : (n : ℕ) → nat_lt n 1000000 ≡ false → 1000000 ≤ n
not_less n is = grind arith

delivers_case : (all lines : List (List ℕ)) (p : Player) (r : Round) (n : ℕ) (ns : List ℕ)
    (progress t : Bool) → nat_lt r.count 1000000 ≡ t → Stands all lines p
    → IsReady all lines (Some r) (cond t (wanting (want.Deliver n) (record p
    { round = Some (record { left = ns; progress = progress; count = r.count + 1 }) }))
    (wanting want.Spent (record p { round = None })))
delivers_case all lines p r n ns progress true is on = on
delivers_case all lines p r n ns progress false is on = not_less r.count is

delivers_by : (all lines : List (List ℕ)) (p : Player) (r : Round) (progress : Bool) (ns : List ℕ)
    → Stands all lines p → IsReady all lines (Some r) (delivers p r.count progress ns)
delivers_by all lines p r progress [] on = on
delivers_by all lines p r progress (n ∷ ns) on =
    delivers_case all lines p r n ns progress (nat_lt r.count 1000000) refl on

fresh_by : (all lines : List (List ℕ)) (p : Player) (r : Round) (b : Bool) → Stands all lines p
    → IsReady all lines (Some r) (cond b (delivers p r.count false p.pending)
    (as_ready [] None (record p { round = None })))
fresh_by all lines p r true on = delivers_by all lines p r false p.pending on
fresh_by all lines p r false on = on

rounds_by : (all lines : List (List ℕ)) (p : Player) (r : Round) (ns : List ℕ)
    → Stands all lines p → IsReady all lines (Some r) (rounds p r ns)
rounds_by all lines p r [] on = fresh_by all lines p r r.progress on
rounds_by all lines p r (n ∷ ns) on = delivers_by all lines p r r.progress (n ∷ ns) on

round_by : (all lines : List (List ℕ)) (p : Player) (o : Option Round) → Stands all lines p
    → IsReady all lines o (round_ready p o)
round_by all lines p None on = on
round_by all lines p (Some r) on = rounds_by all lines p r (undone p.pending r.left) on

not_empty : (w : Want) (ws : List Want) → (w ∷ ws) ≡ [] → ⊥
not_empty w ws is = cc

queue_by : (all lines : List (List ℕ)) (p : Player) (ws : List Want) → ws ≡ []
    → Stands all lines p → IsReady all lines p.round (queue_ready p ws)
queue_by all lines p [] none on = round_by all lines p p.round on
queue_by all lines p (w ∷ ws) none on = absurd (not_empty w ws none)

idle_by : (all lines : List (List ℕ)) (p : Player) (f : Option ℕ) (conn : ℕ)
    (goes : Player → Ready)
    → ((q : Player) → Stands all lines q → IsReady all lines q.round (goes q))
    → Stands all lines p → IsReady all lines p.round (idle_ready p f conn goes)
idle_by all lines p None conn goes keeps on = keeps p on
idle_by all lines p (Some number) conn goes keeps on = keeps (shut p conn) on

conn_by : (all lines : List (List ℕ)) (p : Player) (c : Connection) (conns rest : List ℕ)
    (b : Bool) (w : List (List ℕ))
    → ((q : Player) → Stands all lines q → IsReady all lines q.round (serving_ready q rest))
    → Stands all lines p → IsReady all lines p.round (cond b (serving_ready p rest)
    (conn_ready p c conns w (λ q. serving_ready q rest)))
conn_by all lines p c conns rest true w keeps on = keeps p on
conn_by all lines p c conns rest false [] keeps on =
    idle_by all lines p c.fault c.conn (λ q. serving_ready q rest) keeps on
conn_by all lines p c conns rest false (m ∷ ms) keeps on = on

serving_by : (all lines : List (List ℕ)) (p : Player) (conns : List ℕ) → Stands all lines p
    → IsReady all lines p.round (serving_ready p conns)
serving_by all lines p [] on = queue_by all lines (record p { serving = [] }) p.queue on.2 on
serving_by all lines p (conn ∷ conns) on =
    conn_by all lines p (connection p conn) (conn ∷ conns) conns (connection p conn).busy
    (connection p conn).waiting (λ q. serving_by all lines q conns) on

-- What comes next.

abbrev NextBy : List (List ℕ) → Option Round → Want → Player → Type 0
NextBy all round (want.Event node happening) q = StandsIn all q
NextBy all round (want.Deliver number) q = StandsIn all q
NextBy all round (want.Renew node) q = ⊥
NextBy all round want.End q = IsPlayable all
NextBy all round (want.Bad line) q = FirstBadLine line all
NextBy all round want.Spent q = IsOverrun all ⊎ IsOver round

abbrev IsNext : List (List ℕ) → Option Round → Next → Type 0
IsNext all round n = NextBy all round n.1 n.2

in_place : (all lines : List (List ℕ)) (q : Player) → Stands all lines q → StandsIn all q
in_place all lines q on = subst (λ (ls : List (List ℕ)). Stands all ls q) (sym on.1) on

ready_next : (all lines : List (List ℕ)) (round : Option Round) (w : Want) (q : Player)
    → ReadyBy all lines round (Some w) q → NextBy all round w q
ready_next all lines round (want.Event node happening) q on = in_place all lines q on
ready_next all lines round (want.Deliver number) q on = in_place all lines q on
ready_next all lines round (want.Renew node) q on = absurd on
ready_next all lines round want.End q on = absurd on
ready_next all lines round (want.Bad line) q on = absurd on
ready_next all lines round want.Spent q on = inr on

or_by : (all lines : List (List ℕ)) (round : Option Round) (text : List ℕ) (o : Option Want)
    (q : Player) (goes : Player → Next)
    → ((x : Player) → Stands all lines x → IsNext all round (goes x))
    → ReadyBy all lines round o q → IsNext all round (or_lines (as_ready text o q) goes)
or_by all lines round text None q goes keeps on = keeps q on
or_by all lines round text (Some w) q goes keeps on = ready_next all lines round w q on

-- all lines were taken
all_taken : (all : List (List ℕ)) (n : ℕ) → Taken all [] n → IsPlayable all
all_taken all n h =
    let is : all ≡ h.before = h.is ∙ append-nil h.before in
    let count : length all ≡ n = ap (λ (l : List (List ℕ)). length l) is ∙ sym h.count in
    record {
      ask = subst AllAsk (sym is) h.ask;
      few = subst (λ (k : ℕ). k ≤ 10000000) (sym count) h.few;
    }

-- there are more than are played
many_by : (l : List ℕ) (lines : List (List ℕ)) (n m : ℕ) → n ≡ m + length (l ∷ lines)
    → m ≡ 10000000 → 10000000 < n
many_by l lines n m is at = omega (arith, is, at)

at_most : (n : ℕ) → nat_le 10000000 n ≡ true → n ≤ 10000000 → n ≡ 10000000
at_most n is few = grind (arith, is, few)

too_many : (all lines : List (List ℕ)) (l : List ℕ) (n : ℕ) → Taken all (l ∷ lines) n
    → nat_le 10000000 n ≡ true → IsOverrun all
too_many all lines l n h is =
    let at : n ≡ 10000000 = at_most n is h.few in
    let front : take 10000000 all ≡ h.before = ap (λ (x : List (List ℕ)). take 10000000 x) h.is
    ∙ front_of h.before (l ∷ lines) 10000000 (sym at ∙ h.count) in
    let count : length all ≡ length h.before + length (l ∷ lines) =
    ap (λ (x : List (List ℕ)). length x) h.is ∙ length-append h.before (l ∷ lines) in
    record {
      ask = subst AllAsk (sym front) h.ask;
      many = many_by l lines (length all) (length h.before) count (sym h.count ∙ at);
    }

below : (n : ℕ) → nat_le 10000000 n ≡ false → n + 1 ≤ 10000000
below n is = grind arith

-- one of them asks nothing
bad_at : (all lines : List (List ℕ)) (l : List ℕ) (n : ℕ) → Taken all (l ∷ lines) n
    → nat_le 10000000 n ≡ false → line_of l ≡ None → FirstBadLine (n + 1) all
bad_at all lines l n h less none =
    let front : take n all ≡ h.before = ap (λ (x : List (List ℕ)). take n x) h.is
    ∙ front_of h.before (l ∷ lines) n h.count in
    record {
      before = n;
      place = refl;
      within = below n less;
      ask = subst AllAsk (sym front) h.ask;
      line = l;
      there = ap (λ (x : List (List ℕ)). slice_get x n) h.is
          ∙ after_front h.before lines l n h.count;
      bad = none_bad l none;
    }

-- one more was taken
one_more : (all lines : List (List ℕ)) (l : List ℕ) (n : ℕ) → Taken all (l ∷ lines) n
    → nat_le 10000000 n ≡ false → ((a : Asked) × Asks l a) → Taken all lines (n + 1)
one_more all lines l n h less one =
    record {
      before = h.before ++ l ∷ [];
      is = h.is ∙ sym (append_assoc h.before (l ∷ []) lines);
      ask = ask_both h.before (l ∷ []) h.ask (one, tt);
      count = ap (λ (k : ℕ). k + 1) h.count ∙ sym (length-append h.before (l ∷ []));
      few = below n less;
      clients = (first_client l lines h.clients).1;
    }

-- a settling that begins has delivered nothing
abbrev first_round : Round
first_round = record { left = []; progress = true; count = 0 }

not_over : 1000000 ≤ 0 → ⊥
not_over h = omega (arith, h)

begun_by : (all lines : List (List ℕ)) (round : Option Round) (text : List ℕ) (o : Option Want)
    (q : Player) (goes : Player → Next)
    → ((x : Player) → Stands all lines x → IsNext all round (goes x))
    → ReadyBy all lines (Some first_round) o q
    → IsNext all round (or_lines (as_ready text o q) goes)
begun_by all lines round text None q goes keeps on = keeps q on
begun_by all lines round text (Some (want.Event node happening)) q goes keeps on =
    in_place all lines q on
begun_by all lines round text (Some (want.Deliver number)) q goes keeps on = in_place all lines q on
begun_by all lines round text (Some (want.Renew node)) q goes keeps on = absurd on
begun_by all lines round text (Some want.End) q goes keeps on = absurd on
begun_by all lines round text (Some (want.Bad line)) q goes keeps on = absurd on
begun_by all lines round text (Some want.Spent) q goes keeps on = absurd (not_over on)

asked_by : (all lines : List (List ℕ)) (round : Option Round) (dump : List ℕ) (p : Player)
    (conn : ℕ) (bytes : List ℕ) (goes : Player → Next)
    → ((x : Player) → Stands all lines x → IsNext all round (goes x)) → Stands all lines p
    → IsNext all round (did_next p (done_if dump p (Some (line.Client conn bytes))) goes)
asked_by all lines round dump p conn bytes goes keeps on =
    let q = settles (asks p conn bytes) in
    let r = serving_by all lines q q.serving on in
    begun_by all lines round (ready q).0 (ready q).1 (ready q).2 goes keeps r

few_by : (all lines : List (List ℕ)) (round : Option Round) (l : List ℕ) (b : Bool) (p : Player)
    (n : Next) → nat_le 10000000 p.taken ≡ b → Taken all (l ∷ lines) p.taken
    → (b ≡ false → IsNext all round n)
    → IsNext all round (cond b (as_next [] want.Spent p) n)
few_by all lines round l true p n is h goes = inl (too_many all lines l p.taken h is)
few_by all lines round l false p n is h goes = goes refl

from_by : (all : List (List ℕ)) (round : Option Round) (dump : List ℕ) (lines : List (List ℕ))
    (p : Player) → Taken all lines p.taken → p.queue ≡ []
    → IsNext all round (from_lines dump lines p)
from_by all round dump [] p h none = all_taken all p.taken h
from_by all round dump (l ∷ lines) p h none =
    few_by all lines round l (nat_le 10000000 p.taken) p (did_next (at_line p lines)
    (done_if dump (at_line p lines) (line_of l)) (from_lines dump lines)) refl h
    (λ less. elim (asks_or_not l (first_client l lines h.clients).0) [
      | inl one ↦ subst (λ (o : Option Line). IsNext all round (did_next (at_line p lines)
          (done_if dump (at_line p lines) o) (from_lines dump lines))) (sym one.1.form)
          (asked_by all lines round dump (at_line p lines) one.0.connection one.0.bytes
          (from_lines dump lines) (λ x on. from_by all round dump lines x on.0 on.2)
          (one_more all lines l p.taken h less one, refl, none))
      | inr bad ↦ subst (λ (o : Option Line). IsNext all round (did_next (at_line p lines)
          (done_if dump (at_line p lines) o) (from_lines dump lines))) (sym bad)
          (bad_at all lines l p.taken h less bad)
    ])

next_by : (all : List (List ℕ)) (dump : List ℕ) (p : Player) → StandsIn all p
    → IsNext all p.round (next dump p)
unfolding next
next_by all dump p on =
    or_by all p.lines p.round (ready p).0 (ready p).1 (ready p).2 (λ q. from_lines dump q.lines q)
    (λ q more. from_by all p.round dump q.lines q
    (subst (λ (ls : List (List ℕ)). Taken all ls q.taken) (sym more.1) more.0) more.2)
    (serving_by all p.lines p p.serving on)

-- Answers leave it so.

all_by : (all : List (List ℕ)) (p : Player) (replies : List (ℕ × List ℕ)) → StandsIn all p
    → StandsIn all (all_answered p replies)
all_by all p [] on = on
all_by all p (r ∷ replies) on = all_by all (answered p r.0) replies on

unless_by : (all : List (List ℕ)) (p : Player) (conn : ℕ) (wanted : Bool) → StandsIn all p
    → StandsIn all (unless_wanted p conn wanted)
unless_by all p conn true on = on
unless_by all p conn false on = on

heard_by : (all : List (List ℕ)) (p : Player) (x : Given) (closed : Option ℕ) → StandsIn all p
    → StandsIn all (heard_of p x closed)
heard_by all p (given.Client conn wanted) None on = unless_by all p conn wanted on
heard_by all p (given.Client conn wanted) (Some number) on = on
heard_by all p (given.Message number) closed on = on
heard_by all p given.Other closed on = on

message_by : (all : List (List ℕ)) (p : Player) (x : Given) → StandsIn all p
    → StandsIn all (message_done p x)
message_by all p (given.Client conn wanted) on = on
message_by all p (given.Message number) on = on
message_by all p given.Other on = on

answer_by : (all : List (List ℕ)) (p : Player) (x : Given) (a : NodeAnswer) → StandsIn all p
    → StandsIn all (behind_answer p x a)
answer_by all p x (answer.Did out replies closed) on =
    message_by all _ x (heard_by all (all_answered (with_sent p out) replies) x closed
    (all_by all (with_sent p out) replies on))
answer_by all p x (answer.Blocked id tag ts) on = on
answer_by all p x answer.DiskFault on = message_by all p x on
answer_by all p x answer.Stopped on = message_by all p x on
answer_by all p x answer.Memory on = message_by all p x on

-- Turns.

goes_by : (all : List (List ℕ)) (round : Option Round) (w : Want) (q : Player)
    → NextBy all round w q → ((s : Status) → status_at w ≡ Some s → ⊥) → StandsIn all q
goes_by all round (want.Event node happening) q on goes = on
goes_by all round (want.Deliver number) q on goes = on
goes_by all round (want.Renew node) q on goes = absurd on
goes_by all round want.End q on goes = absurd (goes status.Ok refl)
goes_by all round (want.Bad line) q on goes = absurd (goes (status.BadLine line) refl)
goes_by all round want.Spent q on goes = absurd (goes status.Budget refl)

plays_by : (all : List (List ℕ)) (told : Type 0) (chunks : Map) (p : Player) (nodes : Nodes)
    (items : List (Option Ran)) (text : List ℕ) (q : Player) (behind : Nodes) → StandsIn all p
    → PlaysTo told chunks p nodes items text q behind → StandsIn all q
plays_by all told chunks p nodes [] text q behind on h = subst (StandsIn all) (sym h.1) on
plays_by all told chunks p nodes (item ∷ items) text q behind on h =
    let n : Next = next_at chunks nodes p in
    let before : StandsIn all n.2 = goes_by all p.round n.1 n.2
    (next_by all (dump_at chunks nodes) p on)
    (λ s is. ends_undone told chunks n.2 n.1 nodes item h.4.0 h.2 h.3 s is h.4.2) in
    plays_by all told chunks h.2 h.3 items h.1 q behind
    (does_keeps (StandsIn all) (λ x w a keeps. answer_by all x (given_of w) a keeps) told chunks n.2
    n.1 nodes item h.4.0 h.2 h.3 before h.4.2) h.6

-- Where it ends.

spent_by : (p : Player) (o : Option Round) → p.round ≡ o → IsOver o → IsSpent p
spent_by p None is over = absurd over
spent_by p (Some r) is over = record { round = r; settles = is; all = over }

judged_at : (all : List (List ℕ)) (last : Want) (p q : Player) (s : Status)
    → status_at last ≡ Some s → NextBy all p.round last q → JudgesLines all p s
judged_at all want.End p q s is on =
    let same : status.Ok ≡ s = cc in subst (JudgesLines all p) same on
judged_at all (want.Bad line) p q s is on =
    let same : status.BadLine line ≡ s = cc in subst (JudgesLines all p) same on
judged_at all want.Spent p q s is (inl many) =
    let same : status.Budget ≡ s = cc in subst (JudgesLines all p) same (inl many)
judged_at all want.Spent p q s is (inr over) =
    let same : status.Budget ≡ s = cc in
    subst (JudgesLines all p) same (inr (spent_by p p.round refl over))
judged_at all (want.Event node happening) p q s is on = cc
judged_at all (want.Deliver number) p q s is on = cc
judged_at all (want.Renew node) p q s is on = cc

few_first : 0 ≤ 10000000
few_first = omega arith

stands_first : (lines : List (List ℕ)) → AreOfClients lines
    → StandsIn lines (player_of (unmarked lines))
stands_first lines clients = (
  record {
    before = [];
    is = refl;
    ask = tt;
    count = refl;
    few = few_first;
    clients = clients;
  },
  refl,
  refl,
)

played_judged : (told : Type 0) (lines : List (List ℕ)) (last : Want)
    (held held' : Option (List ℕ)) (w : Played told lines last held held') (s : Status)
    → status_at last ≡ Some s → AreOfClients lines → JudgesLines lines w.played.plays.player s
played_judged told lines last held held' w s ends clients =
    let is : unmarked lines ≡ w.schedule = unmarked_alone lines w.schedule clients w.reads in
    let first : StandsIn lines (player_of w.schedule) = subst (λ (x : Schedule).
    StandsIn lines (player_of x)) is (stands_first lines clients) in
    let pl = w.played.plays in
    let on = plays_by lines told w.schedule.conf.map (player_of w.schedule) w.start w.played.items
    pl.front pl.player w.played.behind first pl.turns in
    let comes = next_by lines (dump_at w.schedule.conf.map w.played.behind) pl.player on in
    let n : Next = next_at w.schedule.conf.map w.played.behind pl.player in
    judged_at lines last pl.player n.2 s ends
    (subst (λ (v : Want). NextBy lines pl.player.round v n.2) pl.comes comes)

never_refused : (lines : List (List ℕ)) (s : Status) → AreOfClients lines
    → schedule_of lines ≡ Err s → ⊥
never_refused lines s clients is =
    not_both_ways s (unmarked lines) (sym is ∙ no_configuration lines clients)

pub judged_by : (told : Type 0) (lines : List (List ℕ)) (held held' : Option (List ℕ))
    (s : Status) (w : Ended told lines held held' s) → AreOfClients lines
    → JudgedBy told lines held held' s w
judged_by told lines held held' status.Ok w clients =
    played_judged told lines want.End held held' w status.Ok refl clients
judged_by told lines held held' (status.BadLine line) (inl refused) clients =
    never_refused lines (status.BadLine line) clients refused.0
judged_by told lines held held' (status.BadLine line) (inr w) clients =
    played_judged told lines (want.Bad line) held held' w (status.BadLine line) refl clients
judged_by told lines held held' status.Budget w clients =
    played_judged told lines want.Spent held held' w status.Budget refl clients
judged_by told lines held held' status.BadConf w clients =
    never_refused lines status.BadConf clients w.0
judged_by told lines held held' (status.DiskFault disk) w clients = tt
judged_by told lines held held' (status.BadJournal disk index) w clients = tt
judged_by told lines held held' status.WriteFault w clients = tt
judged_by told lines held held' status.Memory w clients = tt
judged_by told lines held held' status.ReadFault w clients = tt
