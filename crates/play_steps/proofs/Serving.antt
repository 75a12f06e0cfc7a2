-- What is ready, connection by connection.
use Rattle.std.proofs.Common.{◌≡◌, ℕ, Bool, true, false, cond, List, [], ◌∷◌, ◌++◌, length, drop}
use Rattle.std.proofs.Common.{Option, Some, None, refl, sym, ap, subst, ◌∙◌, append_assoc, arith}
use Rattle.std.specs.Prelude.{MatchOption}
use Rattle.std.proofs.lemmas.List.{append-nil}
use Rattle.txn_types.specs.declared.event.Happening.TheVariants as what
use Rattle.txn_types.specs.declared.node.NodeId.TheVariants.{Router}
use Rattle.play_text.specs.Text.{closed_line}
use Rattle.play_steps.specs.declared.want.Want.{Want}
use Rattle.play_steps.specs.declared.want.Want.TheVariants.{Event}
use Rattle.client_streams.specs.declared.connection.Turn.TheVariants.{Message, Fault, Nothing}
use Rattle.play_steps.specs.Player.{Player, Ready, connection, with_conn, router_of, shut}
use Rattle.play_steps.specs.Player.{behind_text, wanting, gives, idle_ready, conn_ready}
use Rattle.play_steps.specs.Player.{serving_ready, ready}
use Rattle.client_streams.specs.Streams.{Connection}
use Rattle.client_streams.specs.Turns.{turn_by, turn_of, taken_from}
use Rattle.client_streams.proofs.Places.{conn_in}
use Rattle.play_steps.proofs.Ready.{as_ready}

-- the player with other connections to serve
abbrev pub serves : Player → List ℕ → Player
serves p conns = record p { serving = conns }

-- what is ready doesn't depend on them beside the list that is gone through
apart_case : (p : Player) (s conns : List ℕ) (c : Connection) (b : Bool) (w : List (List ℕ))
    (f : Option ℕ)
    → ((q : Player) → serving_ready (serves q s) conns ≡ serving_ready q conns)
    → cond b (serving_ready (serves p s) conns) (conn_ready (serves p s) (record c { fault = f })
    (c.conn ∷ conns) w (λ q. serving_ready q conns))
    ≡ cond b (serving_ready p conns)
    (conn_ready p (record c { fault = f }) (c.conn ∷ conns) w (λ q. serving_ready q conns))
apart_case p s conns c true w f rest = rest p
apart_case p s conns c false [] None rest = rest p
apart_case p s conns c false [] (Some number) rest =
    ap (behind_text (closed_line c.conn number)) (rest (shut p c.conn))
apart_case p s conns c false (m ∷ w) f rest = refl

apart : (p : Player) (s conns : List ℕ) → serving_ready (serves p s) conns ≡ serving_ready p conns
apart p s [] = refl
apart p s (conn ∷ conns) =
    let c = connection p conn in
    let whole : cond c.busy (serving_ready (serves p s) conns) (conn_ready (serves p s) c
    (c.conn ∷ conns) c.waiting (λ q. serving_ready q conns)) ≡ cond c.busy (serving_ready p
    conns) (conn_ready p c (c.conn ∷ conns) c.waiting (λ q. serving_ready q conns)) =
    apart_case p s conns c c.busy c.waiting c.fault (λ q. apart q s conns) in
    subst (λ (n : ℕ). cond c.busy (serving_ready (serves p s) conns)
    (conn_ready (serves p s) c (n ∷ conns) c.waiting (λ q. serving_ready q conns)) ≡ cond c.busy
    (serving_ready p conns) (conn_ready p c (n ∷ conns) c.waiting (λ q. serving_ready q conns)))
    (conn_in p.connections conn) whole

-- nothing is served on a connection
nothing_by : (p : Player) (c : Connection) (conns rest : List ℕ) (b : Bool) (w : List (List ℕ))
    (f : Option ℕ) → c.fault ≡ f → cond b Nothing (turn_by w f) ≡ Nothing → cond b (serving_ready p
    rest) (conn_ready p c conns w (λ q. serving_ready q rest)) ≡ serving_ready p rest
nothing_by p c conns rest true w f is turn = refl
nothing_by p c conns rest false [] None is turn =
    ap (λ (g : Option ℕ). idle_ready p g c.conn (λ q. serving_ready q rest)) is
nothing_by p c conns rest false [] (Some number) is turn = cc
nothing_by p c conns rest false (m ∷ w) f is turn = cc

first_of : (p : Player) (conn : ℕ) (rest : List ℕ) → p.serving ≡ conn ∷ rest
    → ready p ≡ serving_ready p (conn ∷ rest)
first_of p conn rest is = ap (serving_ready p) is

pub passes : (p q : Player) (conn : ℕ) → p.serving ≡ conn ∷ drop 1 p.serving
    → Nothing ≡ turn_of (connection p conn) → q ≡ serves p (drop 1 p.serving) → ready q ≡ ready p
passes p q conn first turn is =
    let rest = drop 1 p.serving in
    let c = connection p conn in
    ap ready is ∙ apart p rest rest ∙ sym (nothing_by p c (conn ∷ rest) rest c.busy c.waiting
    c.fault refl (sym turn)) ∙ sym (first_of p conn rest first)

-- a connection is closed
fault_by : (p : Player) (c : Connection) (number : ℕ) (conns rest : List ℕ) (b : Bool)
    (w : List (List ℕ)) (f : Option ℕ) → c.fault ≡ f → cond b Nothing (turn_by w f) ≡ Fault number
    → cond b (serving_ready p rest) (conn_ready p c conns w (λ q. serving_ready q rest))
    ≡ behind_text (closed_line c.conn number) (serving_ready (shut p c.conn) rest)
fault_by p c number conns rest true w f is turn = cc
fault_by p c number conns rest false [] None is turn = cc
fault_by p c number conns rest false [] (Some n) is turn =
    let same : n ≡ number = cc in
    ap (λ (g : Option ℕ). idle_ready p g c.conn (λ q. serving_ready q rest)) is
    ∙ ap (λ (m : ℕ). behind_text (closed_line c.conn m) (serving_ready (shut p c.conn) rest)) same
fault_by p c number conns rest false (m ∷ w) f is turn = cc

pub closes : (p q : Player) (conn number : ℕ) → p.serving ≡ conn ∷ drop 1 p.serving → Fault number
    ≡ turn_of (connection p conn) → q ≡ record (shut p conn) { serving = drop 1 p.serving }
    → behind_text (closed_line conn number) (ready q) ≡ ready p
closes p q conn number first turn is =
    let rest = drop 1 p.serving in
    let c = connection p conn in
    ap (λ (r : Player). behind_text (closed_line conn number) (ready r)) is
    ∙ ap (behind_text (closed_line conn number)) (apart (shut p conn) rest rest)
    ∙ ap (λ (n : ℕ). behind_text (closed_line n number) (serving_ready (shut p n) rest))
    (sym (conn_in p.connections conn))
    ∙ sym (fault_by p c number (conn ∷ rest) rest c.busy c.waiting c.fault refl (sym turn))
    ∙ sym (first_of p conn rest first)

-- a message is given
message_by : (p : Player) (c : Connection) (m : List ℕ) (ms : List (List ℕ))
    (conns rest : List ℕ) (b : Bool) (w : List (List ℕ)) (f : Option ℕ) → w ≡ m ∷ ms
    → cond b Nothing (turn_by w f) ≡ Message → cond b (serving_ready p rest) (conn_ready p c conns w
    (λ q. serving_ready q rest)) ≡ gives p c conns m ms
message_by p c m ms conns rest true w f is turn = cc
message_by p c m ms conns rest false w f is turn =
    ap (λ (v : List (List ℕ)). conn_ready p c conns v (λ q. serving_ready q rest)) is

pub given : (p q : Player) (conn : ℕ) (m : List ℕ) (w : Want)
    → p.serving ≡ conn ∷ drop 1 p.serving → Message ≡ turn_of (connection p conn)
    → (connection p conn).waiting ≡ m ∷ drop 1 (connection p conn).waiting
    → w ≡ Event (Router (router_of p conn)) (what.Client conn m)
    → q ≡ with_conn p (taken_from (connection p conn)) → ready p ≡ ([], Some w, q)
given p q conn m w first turn message wanted is =
    let rest = drop 1 p.serving in
    let c = connection p conn in
    let ms = drop 1 c.waiting in
    first_of p conn rest first
    ∙ message_by p c m ms (conn ∷ rest) rest c.busy c.waiting c.fault message (sym turn)
    ∙ ap (λ (n : ℕ). wanting (Event (Router (router_of p n)) (what.Client n m)) (record (with_conn p
    (taken_from c)) { serving = conn ∷ rest })) (conn_in p.connections conn)
    ∙ ap (λ (s : List ℕ). wanting (Event (Router (router_of p conn)) (what.Client conn m))
    (record (with_conn p (taken_from c)) { serving = s })) (sym first)
    ∙ ap (λ (v : Want). (as_ready [] (Some v) (with_conn p (taken_from c)))) (sym wanted)
    ∙ ap (λ (r : Player). (as_ready [] (Some w) r)) (sym is)

pub dropped_none : (messages : List (List ℕ)) → messages ≡ drop 1 messages → messages ≡ []
dropped_none [] is = refl
dropped_none (m ∷ messages) is = absurd (omega (arith, ap (λ (ms : List (List ℕ)). length ms) is))

none_waits_by : (b : Bool) (w : List (List ℕ)) (f : Option ℕ) → w ≡ []
    → cond b Nothing (turn_by w f) ≡ Message → ⊥
none_waits_by true w f is turn = cc
none_waits_by false [] None is turn = cc
none_waits_by false [] (Some n) is turn = cc
none_waits_by false (m ∷ w) f is turn = cc

pub waits : (p : Player) (conn : ℕ) → Message ≡ turn_of (connection p conn)
    → (connection p conn).waiting ≡ [] → ⊥
waits p conn turn is = none_waits_by (connection p conn).busy (connection p conn).waiting
    (connection p conn).fault is (sym turn)

pub gives_next : (p q : Player) (conn : ℕ) (w : Option Want) (text : List ℕ) (start : Ready)
    → p.serving ≡ conn ∷ drop 1 p.serving → Message ≡ turn_of (connection p conn)
    → MatchOption w ((connection p conn).waiting ≡ [])
    (λ x. (m : List ℕ) × ((connection p conn).waiting ≡ m ∷ drop 1 (connection p conn).waiting)
    × (x ≡ Event (Router (router_of p conn)) (what.Client conn m)))
    → q ≡ with_conn p (taken_from (connection p conn))
    → behind_text text (ready p) ≡ start
    → MatchOption w ((q.serving ≡ []) × (start ≡ behind_text text (ready q)))
    (λ x. start ≡ (text, Some x, q))
gives_next p q conn None text start first turn none is before = absurd (waits p conn turn none)
gives_next p q conn (Some x) text start first turn some is before =
    sym before
    ∙ ap (behind_text text) (given p q conn some.0 x first turn some.1 some.2 is)
    ∙ ap (λ (t : List ℕ). (as_ready t (Some x) q)) (append-nil text)

pub behind_behind : (a b : List ℕ) (r : Ready)
    → behind_text a (behind_text b r) ≡ behind_text (a ++ b) r
behind_behind a b r = ap (λ (t : List ℕ). (as_ready t r.1 r.2)) (sym (append_assoc a b r.0))
