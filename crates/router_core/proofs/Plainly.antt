-- A command by itself begins a transaction that wasn't begun before, so that only four refusals can
-- come.
use Rattle.std.proofs.Common.{◌≡◌, ℕ, ℤ, pos, ◌-◌, ◌^◌, ◌<◌, ◌<ℤ◌, Option, Some, None, refl, ap}
use Rattle.std.proofs.Common.{sym, ◌∙◌, arith}
use Rattle.std.specs.Prelude.{IfSome}
use Rattle.std.proofs.lemmas.Int.{ints}
use Rattle.txn_types.specs.BySession.{entry_of}
use Rattle.txn_types.specs.declared.node.Lsid.{Lsid}
use Rattle.txn_types.specs.declared.operation.Op.{Op}
use Rattle.client_reply.specs.declared.reply.Reply.{Reply}
use Rattle.router_state.specs.declared.state.Asker.{Asker}
use Rattle.router_state.specs.declared.state.Session.{Session}
use Rattle.router_state.specs.declared.state.Transaction.{Transaction}
use Rattle.router_state.specs.Deeds.{answers}
use Rattle.router_state.specs.State.{RouterState, own_session, session_of}
use Rattle.router_rules.proofs.Held.{found_safe}
use Rattle.router_plan.specs.Plain.{plain_refusal, next_number}
use Rattle.router_plan.specs.Refusals.{begun_in}
use Rattle.router_plan.proofs.Alone.{begun_none, plain_is}
use Rattle.router_plan.proofs.Behind.{plain_has_serial}
use Rattle.router_core.specs.Requests.{unless_refused, begins, states, statement}
use Rattle.router_core.specs.Safe.{IsSafe}

-- what a command by itself does
plain_done : (s : RouterState) (asker : Asker) (op : Op) (at : Option ℕ)
    → statement s asker None op at ≡ unless_refused s asker (plain_refusal s
    asker.conn (session_of s (own_session s asker.conn)) op) (begins s
    (own_session s asker.conn) (session_of s (own_session s asker.conn))
    (next_number (session_of s (own_session s asker.conn))) asker op at)
plain_done s asker op at =
    let lsid : Lsid = own_session s asker.conn in
    let session : Option Session = session_of s lsid in
    ap (λ (r : Option Reply). unless_refused s asker r (states s lsid session
    (next_number session) asker op at (begun_in session (next_number session))))
    (plain_is s asker.conn session lsid op)
    ∙ ap (λ (t : Option Transaction). unless_refused s asker (plain_refusal s asker.conn session op)
    (states s lsid session (next_number session) asker op at t)) (begun_none session)

-- a connection's number leaves room for the next
next_fits : (s : RouterState) (conn : ℕ) (session : Session) → IsSafe s → s.serial < 2 ^ 63 - 1
    → entry_of (own_session s conn) s.sessions ≡ Some session → session.number <ℤ pos (2 ^ 63 - 1)
next_fits s conn session safe below is =
    let own =
    (found_safe s.serial (own_session s conn) s.sessions session safe.sessions is).own refl in
    omega (arith, ints)

room_case : (s : RouterState) (conn : ℕ) (session : Option Session) → IsSafe s
    → s.serial < 2 ^ 63 - 1 → session ≡ session_of s (own_session s conn)
    → IfSome session (λ x. x.number <ℤ pos (2 ^ 63 - 1))
room_case s conn None safe below is = tt
room_case s conn (Some session) safe below is = next_fits s conn session safe below (sym is)

pub next_has_room : (s : RouterState) (conn : ℕ) (op : Op) (session : Option Session)
    (refusal : Option Reply) → IsSafe s → session ≡ session_of s (own_session s conn)
    → refusal ≡ plain_refusal s conn session op → refusal ≡ None
    → IfSome session (λ x. x.number <ℤ pos (2 ^ 63 - 1))
next_has_room s conn op session refusal safe is refused none =
    room_case s conn session safe (plain_has_serial s conn session op (sym refused ∙ none)) is

-- one that is refused, and one that isn't
plain_by : (s : RouterState) (asker : Asker) (op : Op) (at : Option ℕ) (session : Option Session)
    (refusal : Option Reply) → session ≡ session_of s (own_session s asker.conn)
    → refusal ≡ plain_refusal s asker.conn session op
    → unless_refused s asker refusal (begins s (own_session s asker.conn) session
    (next_number session) asker op at) ≡ statement s asker None op at
plain_by s asker op at session refusal is refused =
    ap (λ (r : Option Reply). unless_refused s asker r
    (begins s (own_session s asker.conn) session (next_number session) asker op at)) refused
    ∙ ap (λ (x : Option Session). unless_refused s asker (plain_refusal s asker.conn x op)
    (begins s (own_session s asker.conn) x (next_number x) asker op at)) is
    ∙ sym (plain_done s asker op at)

pub plain_refused : (s : RouterState) (asker : Asker) (op : Op) (at : Option ℕ)
    (session : Option Session) (refusal : Option Reply) (reply : Reply)
    → session ≡ session_of s (own_session s asker.conn)
    → refusal ≡ plain_refusal s asker.conn session op → refusal ≡ Some reply
    → answers s asker reply ≡ statement s asker None op at
plain_refused s asker op at session refusal reply is refused some =
    ap (λ (r : Option Reply). unless_refused s asker r
    (begins s (own_session s asker.conn) session (next_number session) asker op at)) (sym some)
    ∙ plain_by s asker op at session refusal is refused

pub plain_begins : (s : RouterState) (asker : Asker) (op : Op) (at : Option ℕ)
    (session : Option Session) (refusal : Option Reply) (number : ℤ) → session
    ≡ session_of s (own_session s asker.conn) → refusal ≡ plain_refusal s asker.conn session op
    → refusal ≡ None → number ≡ next_number session
    → begins s (own_session s asker.conn) session number asker op at ≡ statement s asker None op at
plain_begins s asker op at session refusal number is refused none next =
    ap (λ (n : ℤ). begins s (own_session s asker.conn) session n asker op at) next
    ∙ ap (λ (r : Option Reply). unless_refused s asker r
    (begins s (own_session s asker.conn) session (next_number session) asker op at)) (sym none)
    ∙ plain_by s asker op at session refusal is refused
