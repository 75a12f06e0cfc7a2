-- What the lines bring, one after the other.
use Rattle.std.proofs.Common.{◌≡◌, ℕ, ◌+◌, ◌<◌, Bool, true, false, cond, List, [], ◌∷◌, ◌++◌}
use Rattle.std.proofs.Common.{length, nat_lt, nat_le, Option, Some, None, refl, sym, ap, subst, ◌∙◌}
use Rattle.std.proofs.Common.{append_assoc, arith}
use Rattle.std.specs.Prelude.{MatchOption}
use Rattle.std.proofs.lemmas.Bool.{leb-true}
use Rattle.txn_types.specs.declared.node.NodeId.{NodeId}
use Rattle.txn_types.specs.declared.node.NodeId.TheVariants.{Shard, Router}
use Rattle.play_script.specs.Lines.{line_of, lines_of}
use Rattle.play_script.proofs.LineParts.{lines_of-nil}
use Rattle.play_script.specs.declared.line.Line.{Line}
use Rattle.play_script.specs.declared.line.Line.TheVariants as line
use Rattle.play_steps.specs.declared.want.Want.{Want}
use Rattle.play_steps.specs.declared.want.Want.TheVariants.{Deliver, End, Spent}
use Rattle.client_streams.specs.Streams.{Connection}
use Rattle.play_steps.specs.Player.{Player, Round, Ready, connection, shut, behind_text, wanting}
use Rattle.play_steps.specs.Player.{idle_ready, conn_ready, serving_ready, queue_ready, round_ready}
use Rattle.play_steps.specs.Player.{rounds, delivers, undone, ready}
use Rattle.play_steps.specs.Lines.{Did, Next, does_where, is_there, was_sent, done_by, done_if}
use Rattle.play_steps.specs.Lines.{at_line, written, or_lines, did_next, from_lines, next}
use Rattle.play_steps.specs.Steps.{behind_line}
use Rattle.play_steps.proofs.Ready.{as_ready, as_next}

-- What is ready leaves the lines.

delivers_case : (p : Player) (n count : ℕ) (ns : List ℕ) (progress t : Bool)
    → (cond t (wanting (Deliver n)
    (record p { round = Some (record { left = ns; progress = progress; count = count + 1 }) }))
    (wanting Spent (record p { round = None }))).2.lines ≡ p.lines
delivers_case p n count ns progress true = refl
delivers_case p n count ns progress false = refl

delivers_lines : (p : Player) (count : ℕ) (progress : Bool) (ns : List ℕ)
    → (delivers p count progress ns).2.lines ≡ p.lines
delivers_lines p count progress [] = refl
delivers_lines p count progress (n ∷ ns) =
    delivers_case p n count ns progress (nat_lt count 1000000)

fresh_lines : (p : Player) (count : ℕ) (b : Bool) → (cond b (delivers p count false p.pending)
    (as_ready [] None (record p { round = None }))).2.lines ≡ p.lines
fresh_lines p count true = delivers_lines p count false p.pending
fresh_lines p count false = refl

rounds_lines : (p : Player) (r : Round) (ns : List ℕ) → (rounds p r ns).2.lines ≡ p.lines
rounds_lines p r [] = fresh_lines p r.count r.progress
rounds_lines p r (n ∷ ns) = delivers_lines p r.count r.progress (n ∷ ns)

round_lines : (p : Player) (o : Option Round) → (round_ready p o).2.lines ≡ p.lines
round_lines p None = refl
round_lines p (Some r) = rounds_lines p r (undone p.pending r.left)

queue_lines : (p : Player) (ws : List Want) → (queue_ready p ws).2.lines ≡ p.lines
queue_lines p [] = round_lines p p.round
queue_lines p (w ∷ ws) = refl

idle_lines : (p : Player) (f : Option ℕ) (conn : ℕ) (next : Player → Ready)
    → ((q : Player) → (next q).2.lines ≡ q.lines) → (idle_ready p f conn next).2.lines ≡ p.lines
idle_lines p None conn next keeps = keeps p
idle_lines p (Some number) conn next keeps = keeps (shut p conn)

conn_lines : (p : Player) (c : Connection) (conns rest : List ℕ) (b : Bool) (w : List (List ℕ))
    → ((q : Player) → (serving_ready q rest).2.lines ≡ q.lines) → (cond b (serving_ready p rest)
    (conn_ready p c conns w (λ q. serving_ready q rest))).2.lines ≡ p.lines
conn_lines p c conns rest true w keeps = keeps p
conn_lines p c conns rest false [] keeps =
    idle_lines p c.fault c.conn (λ q. serving_ready q rest) keeps
conn_lines p c conns rest false (m ∷ ms) keeps = refl

serving_lines : (p : Player) (conns : List ℕ) → (serving_ready p conns).2.lines ≡ p.lines
serving_lines p [] = queue_lines (record p { serving = [] }) p.queue
serving_lines p (conn ∷ conns) = conn_lines p (connection p conn) (conn
    ∷ conns) conns (connection p conn).busy (connection p conn).waiting (λ q. serving_lines q conns)

ready_lines : (p : Player) → (ready p).2.lines ≡ p.lines
ready_lines p = serving_lines p p.serving

pub ready_keeps : (p q : Player) (text after : List ℕ) (w : Option Want)
    → behind_text text (ready p) ≡ (after, w, q) → q.lines ≡ p.lines
ready_keeps p q text after w is = ap (λ (r : Ready). r.2.lines) (sym is) ∙ ready_lines p

-- What a line does leaves them too.

where_lines : (text : List ℕ) (p q : Player) (b : Bool) → q.lines ≡ p.lines
    → (behind_line text p (does_where b q)).2.lines ≡ p.lines
where_lines text p q true is = is
where_lines text p q false is = refl

restart_lines : (text : List ℕ) (dump : List ℕ) (p : Player) (node : NodeId)
    → (behind_line text p (done_by dump p (line.Restart node))).2.lines ≡ p.lines
restart_lines text dump p (Shard n) = where_lines text p _ (is_there p (Shard n)) refl
restart_lines text dump p (Router n) = where_lines text p _ (is_there p (Router n)) refl

done_lines : (text dump : List ℕ) (p : Player) (l : Line)
    → (behind_line text p (done_by dump p l)).2.lines ≡ p.lines
done_lines text dump p (line.Ask conn bytes) = refl
done_lines text dump p (line.Client conn bytes) = refl
done_lines text dump p (line.Gone conn) = refl
done_lines text dump p (line.Deliver number) = where_lines text p _ (was_sent p number) refl
done_lines text dump p (line.Lose number) = where_lines text p _ (was_sent p number) refl
done_lines text dump p line.Settle = refl
done_lines text dump p (line.Restart node) = restart_lines text dump p node
done_lines text dump p (line.Resend node) = where_lines text p _ (is_there p node) refl
done_lines text dump p (line.Wall secs) = refl
done_lines text dump p line.Dump = refl
done_lines text dump p line.Log = refl

-- Texts in front of what comes next.

written_twice : (a b : List ℕ) (n : Next) → written a (written b n) ≡ written (a ++ b) n
written_twice a b n = ap (λ (t : List ℕ). (as_next t n.1 n.2)) (sym (append_assoc a b n.0))

some_none : (w : Want) → ◌≡◌ {A = Option Want} (Some w) None → ⊥
some_none w is = cc

some_same : (v w : Want) → ◌≡◌ {A = Option Want} (Some v) (Some w) → v ≡ w
some_same v w is = cc

none_by : (dump text after t : List ℕ) (o : Option Want) (s q : Player)
    → ◌≡◌ {A = Ready} (text ++ t, o, s) (after, None, q) → written text (or_lines (t, o, s)
    (λ r. from_lines dump r.lines r)) ≡ written after (from_lines dump q.lines q)
none_by dump text after t (Some w) s q is = absurd (some_none w (ap (λ (r : Ready). r.1) is))
none_by dump text after t None s q is =
    written_twice text t (from_lines dump s.lines s)
    ∙ ap (λ (a : List ℕ). written a (from_lines dump s.lines s)) (ap (λ (r : Ready). r.0) is)
    ∙ ap (λ (r : Player). written after (from_lines dump r.lines r)) (ap (λ (r : Ready). r.2) is)

some_by : (dump text after t : List ℕ) (o : Option Want) (s q : Player) (w : Want)
    → ◌≡◌ {A = Ready} (text ++ t, o, s) (after, Some w, q)
    → written text (or_lines (t, o, s) (λ r. from_lines dump r.lines r)) ≡ (after, w, q)
some_by dump text after t None s q w is = absurd (some_none w (sym (ap (λ (r : Ready). r.1) is)))
some_by dump text after t (Some v) s q w is =
    let same : v ≡ w = some_same v w (ap (λ (r : Ready). r.1) is) in
    ap (λ (r : Ready). (as_next r.0 v r.2)) is ∙ ap (λ (u : Want). (as_next after u q)) same

pub ready_none : (dump text after : List ℕ) (p q : Player) → behind_text text (ready p)
    ≡ (after, None, q) → written text (next dump p) ≡ written after (from_lines dump q.lines q)
unfolding next
ready_none dump text after p q is = none_by dump text after (ready p).0 (ready p).1 (ready p).2 q is

pub ready_some : (dump text after : List ℕ) (p q : Player) (w : Want)
    → behind_text text (ready p) ≡ (after, Some w, q) → written text (next dump p) ≡ (after, w, q)
unfolding next
ready_some dump text after p q w is =
    some_by dump text after (ready p).0 (ready p).1 (ready p).2 q w is

-- the end of the schedule
pub no_lines : (bytes : List ℕ) → length bytes ≡ 0 → lines_of bytes ≡ []
no_lines [] is = lines_of-nil
no_lines (b ∷ bytes) is = absurd (omega (arith, is))

pub ends : (dump text after : List ℕ) (p : Player) → p.lines ≡ [] → after ≡ text ++ dump
    → written text (from_lines dump p.lines p) ≡ (after, End, p)
ends dump text after p none is =
    ap (λ (l : List (List ℕ)). written text (from_lines dump l p)) none
    ∙ ap (λ (l : List (List ℕ)). (as_next (text ++ dump) End (record p { lines = l }))) (sym none)
    ∙ ap (λ (a : List ℕ). (as_next a End p)) (sym is)

few_by : (n : ℕ) (b : Bool) → nat_le 10000000 n ≡ b → n < 10000000 → b ≡ false
few_by n true is less = absurd (omega (arith, leb-true 10000000 n is, less))
few_by n false is less = refl

taken_line : (dump text l : List ℕ) (rest : List (List ℕ)) (p : Player) → p.lines ≡ l ∷ rest
    → p.taken < 10000000 → written text (from_lines dump p.lines p) ≡ written text
    (did_next (at_line p rest) (done_if dump (at_line p rest) (line_of l)) (from_lines dump rest))
taken_line dump text l rest p is few =
    ap (λ (ls : List (List ℕ)). written text (from_lines dump ls p)) is
    ∙ ap (λ (b : Bool). written text (cond b (as_next [] Spent p) (did_next (at_line p rest)
    (done_if dump (at_line p rest) (line_of l)) (from_lines dump rest))))
    (few_by p.taken (nat_le 10000000 p.taken) refl few)

-- a line that is done
or_by : (r : Ready) (o : Option Want) (f g : Player → Next) → f r.2 ≡ g r.2
    → or_lines (r.0, o, r.2) f ≡ or_lines (r.0, o, r.2) g
or_by r None f g same = ap (written r.0) same
or_by r (Some w) f g same = refl

not_true : ◌≡◌ {A = Bool} false true → ⊥
not_true is = cc

done_case : (dump text after : List ℕ) (p q : Player) (d : Did) (rest : List (List ℕ))
    → q.lines ≡ rest → ◌≡◌ {A = Bool × List ℕ × Player} (behind_line text p d) (true, after, q)
    → written text (did_next p d (from_lines dump rest)) ≡ written after (next dump q)
unfolding next
done_case dump text after p q None rest kept is =
    absurd (not_true (ap (λ (x : Bool × List ℕ × Player). x.0) is))
done_case dump text after p q (Some d) rest kept is =
    let player : d.1 ≡ q = ap (λ (x : Bool × List ℕ × Player). x.2) is in
    written_twice text d.0 (or_lines (ready d.1) (from_lines dump rest))
    ∙ ap (λ (a : List ℕ). written a (or_lines (ready d.1) (from_lines dump rest)))
    (ap (λ (x : Bool × List ℕ × Player). x.1) is)
    ∙ ap (λ (r : Player). written after (or_lines (ready r) (from_lines dump rest))) player
    ∙ ap (written after)
    (or_by (ready q) (ready q).1 (from_lines dump rest) (λ r. from_lines dump r.lines r)
    (ap (λ (ls : List (List ℕ)). from_lines dump ls (ready q).2) (sym (ready_lines q ∙ kept))))

pub done : (dump text after l : List ℕ) (rest : List (List ℕ)) (p mid q : Player) (asked : Line)
    → p.lines ≡ l ∷ rest → p.taken < 10000000 → mid ≡ at_line p rest → Some asked ≡ line_of l
    → ◌≡◌ {A = Bool × List ℕ × Player} (behind_line text mid (done_by dump mid asked))
    (true, after, q) → written text (from_lines dump p.lines p) ≡ written after (next dump q)
done dump text after l rest p mid q asked is few at form behind =
    let behind' : ◌≡◌ {A = Bool × List ℕ × Player} (behind_line text
    (at_line p rest) (done_by dump (at_line p rest) asked)) (true, after, q) =
    subst (λ (r : Player). ◌≡◌ {A = Bool × List ℕ × Player}
    (behind_line text r (done_by dump r asked)) (true, after, q)) at behind in
    let kept : q.lines ≡ rest = ap (λ (x : Bool × List ℕ × Player). x.2.lines) (sym behind')
    ∙ done_lines text dump (at_line p rest) asked in
    taken_line dump text l rest p is few
    ∙ ap (λ (o : Option Line). written text (did_next (at_line p rest)
    (done_if dump (at_line p rest) o) (from_lines dump rest))) (sym form)
    ∙ done_case dump text after (at_line p rest) q (done_by dump (at_line p rest) asked) rest
    kept behind'

-- by what a line brings
pub line_ends : (dump text after : List ℕ) (p q : Player) (o : Option Want) (w : Want) → o ≡ Some w
    → MatchOption o (written text (from_lines dump p.lines p) ≡ written after (next dump q))
    (λ x. written text (from_lines dump p.lines p) ≡ as_next after x q)
    → written text (from_lines dump p.lines p) ≡ as_next after w q
line_ends dump text after p q o w is told = subst (λ (x : Option Want).
    MatchOption x (written text (from_lines dump p.lines p) ≡ written after (next dump q))
    (λ v. written text (from_lines dump p.lines p) ≡ as_next after v q)) is told

pub line_goes : (dump text after : List ℕ) (p q : Player) (o : Option Want) → o ≡ None
    → MatchOption o (written text (from_lines dump p.lines p) ≡ written after (next dump q))
    (λ x. written text (from_lines dump p.lines p) ≡ as_next after x q)
    → written text (from_lines dump p.lines p) ≡ written after (next dump q)
line_goes dump text after p q o is told = subst (λ (x : Option Want).
    MatchOption x (written text (from_lines dump p.lines p) ≡ written after (next dump q))
    (λ v. written text (from_lines dump p.lines p) ≡ as_next after v q)) is told
