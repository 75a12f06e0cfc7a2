-- What messages name fits the fields of a record: a tag, a session and its number.
use Rattle.std.proofs.Common.{◌≡◌, ◌+◌, ◌-◌, ◌≤◌, ◌<◌, ◌^◌, ◌&&◌, ℕ, ℤ, pos, negsuc, Bool}
use Rattle.std.proofs.Common.{true, false}
use Rattle.std.proofs.Common.{List, Option, Some, None, Result, Ok, Err, refl}
use Rattle.std.proofs.Common.{arith, IfSome, is_none, if◌then◌else◌}
use Rattle.std.specs.Prelude.{FitsSigned, slice_index, nat_le}
use Rattle.std.specs.Int.{w64}
use Rattle.std.proofs.lemmas.Grind.{common_steps}
use Rattle.std.proofs.lemmas.Int.{ints}
use Rattle.txn_types.specs.declared.event.Happening.{Happening}
use Rattle.txn_types.specs.declared.event.Happening.TheVariants as what
use Rattle.txn_types.specs.declared.event.NodeEvent.{NodeEvent}
use Rattle.txn_types.specs.declared.node.Lsid.{Lsid}
use Rattle.txn_types.specs.declared.node.Lsid.TheVariants.{Client, Own}
use Rattle.txn_types.specs.declared.operation.Op.{Op}
use Rattle.txn_types.specs.Letters.{Named}
use Rattle.client_cmd.specs.declared.request.Request.{Request}
use Rattle.client_cmd.specs.declared.request.Request.TheVariants as request
use Rattle.client_cmd.specs.declared.request.Txn.{Txn}
use Rattle.client_reply.specs.declared.reply.Refusal.TheVariants as refusal
use Rattle.client_reply.specs.declared.reply.Reply.{Reply}
use Rattle.record_laws.specs.Fits.{TagFits, LsidFits}
use Rattle.router_state.specs.declared.state.Session.{Session}
use Rattle.router_state.specs.declared.state.Transaction.{Transaction}
use Rattle.router_state.specs.State.{RouterState, session_of, own_session, is_waiting}
use Rattle.router_rules.specs.Times.{walled, met}
use Rattle.router_plan.specs.Messages.{asked_in}
use Rattle.router_plan.specs.Refusals.{begun_in, statement_refusal, too_old, busy, started}
use Rattle.router_plan.specs.Refusals.{no_transaction, after_commit, too_long, too_many, spent}
use Rattle.router_plan.specs.declared.message.Unserved.{Unserved}
use Rattle.router_core.specs.Requests.{next_tag, by_itself}
use Rattle.world_laws.specs.Begins.{begins_unless, begins_by, begins_asked, begins_at}
use Rattle.world_laws.specs.Begins.{begins}
use Rattle.world_laws.proofs.Beginning.{first_none, so_not}
use Rattle.fit_laws.specs.Bytes.{BringsBytes, ComesOn}
use Rattle.fit_laws.proofs.Asked.{IsClients, RequestFits, TxnIn, asked_fits}
use Rattle.fit_laws.proofs.Drawn.{RouterDrawn, Within, found, next_drawn}

pub record NameFits (x : Named) : Type 0 where
  pub tag : TagFits x.tag
  pub lsid : LsidFits x.lsid
  pub number : FitsSigned w64 x.number

-- a router whose numbers fit into tags
pub record RouterFits (r : RouterState) : Type 0 where
  pub number : r.number < 2 ^ 16
  pub boot : r.boot < 2 ^ 32
  pub drawn : RouterDrawn r

-- Serials.

not_spent : (serial : ℕ) → nat_le (2 ^ 63 - 1) serial ≡ false → serial < 2 ^ 63 - 1
not_spent serial h = grind (arith, h)

left_if : (own : Option Transaction) (serial : ℕ) → own ≡ None
    → (is_none own && nat_le (2 ^ 63 - 1) serial) ≡ false → nat_le (2 ^ 63 - 1) serial ≡ false
left_if None serial e h = h
left_if (Some t) serial e h = absurd cc

has_serial : (s : RouterState) (conn : ℕ) (session : Option Session) (txn : Txn) (op : Op)
    → statement_refusal s conn session txn op ≡ None → begun_in session txn.number ≡ None
    → s.serial < 2 ^ 63 - 1
unfolding statement_refusal
has_serial s conn session txn op h none =
    let n = txn.number in
    let a = first_none (too_old session n) _ h in
    let b = first_none (busy session conn) _ a.1 in
    let c = first_none (started session txn) _ b.1 in
    let d = first_none (no_transaction session n txn.start false) _ c.1 in
    let e = first_none (after_commit session n) _ d.1 in
    let f = first_none (too_long session n) _ e.1 in
    let g = first_none (too_many s session) _ f.1 in
    let k = first_none (spent s session n) _ g.1 in
    not_spent s.serial (left_if (begun_in session n) s.serial none
    (so_not (is_none (begun_in session n) && nat_le (2 ^ 63 - 1) s.serial) refusal.Spent k.0))

next_serial : (serial : ℕ) → serial < 2 ^ 63 - 1 → serial + 1 < 2 ^ 64
next_serial serial h = omega (arith, h)

tag_fits : (s : RouterState) → RouterFits s → s.serial < 2 ^ 63 - 1 → TagFits (next_tag s)
tag_fits s h below = (h.number, h.boot, next_serial s.serial below)

-- Numbers.

within_fits : (n : ℤ) (serial : ℕ) → serial + 1 < 2 ^ 63 → Within (serial + 1) n → FitsSigned w64 n
within_fits (pos k) serial below h =
    let high : k ≤ serial + 1 = omega (arith, ints, h.1) in
    let small : k < 2 ^ 63 = omega (arith, below, high) in
    grind (arith, common_steps, small)
within_fits (negsuc k) serial below h = absurd (omega (arith, ints, h.0))

next_below : (serial : ℕ) → serial < 2 ^ 63 - 1 → serial + 1 < 2 ^ 63
next_below serial h = omega (arith, h)

clients_fit : (lsid : Lsid) → IsClients lsid → LsidFits lsid
clients_fit (Client bytes) h = h
clients_fit (Own router boot conn) h = absurd h

-- What a step begins.

begins_case : (s : RouterState) (conn : ℕ) (txn : Txn) (op : Op) (why : Option Reply)
    (own : Option Transaction)
    → statement_refusal s conn (session_of s txn.lsid) txn op ≡ why
    → begun_in (session_of s txn.lsid) txn.number ≡ own → RouterFits s → LsidFits txn.lsid
    → (s.serial < 2 ^ 63 - 1 → FitsSigned w64 txn.number)
    → IfSome (begins_unless s txn why own) NameFits
begins_case s conn txn op (Some why) own a b r lsid number = tt
begins_case s conn txn op None (Some own) a b r lsid number = tt
begins_case s conn txn op None None a b r lsid number =
    let below = has_serial s conn (session_of s txn.lsid) txn op a b in
    record { tag = tag_fits s r below; lsid = lsid; number = number below }

begins_fit : (s : RouterState) (conn : ℕ) (txn : Option Txn) (op : Op) → conn < 2 ^ 32
    → TxnIn txn → RouterFits s → IfSome (begins_by s conn txn op) NameFits
begins_fit s conn None op c fits r =
    let txn = by_itself s conn in
    begins_case s conn txn op (statement_refusal s conn (session_of s txn.lsid) txn op)
    (begun_in (session_of s txn.lsid) txn.number) refl refl r (r.number, r.boot, c)
    (λ below. within_fits txn.number s.serial (next_below s.serial below)
    (next_drawn s.serial (session_of s (own_session s conn))
    (λ x e. found s (own_session s conn) x r.drawn e refl)))
begins_fit s conn (Some txn) op c fits r =
    begins_case s conn txn op (statement_refusal s conn (session_of s txn.lsid) txn op)
    (begun_in (session_of s txn.lsid) txn.number) refl refl r (clients_fit txn.lsid fits.lsid)
    (λ below. fits.number)

asked_fit : (s : RouterState) (conn : ℕ) (x : Result Request Unserved) → conn < 2 ^ 32
    → ((q : Request) → x ≡ Ok q → RequestFits q) → RouterFits s
    → IfSome (begins_asked s conn x) NameFits
asked_fit s conn (Ok (request.Statement op txn at after more time)) c fits r =
    begins_fit (met s time after) conn txn op c
    (fits (request.Statement op txn at after more time) refl).1
    (record { number = r.number; boot = r.boot; drawn = r.drawn })
asked_fit s conn (Ok (request.Ping more time)) c fits r = tt
asked_fit s conn (Ok (request.Hello old_name more time)) c fits r = tt
asked_fit s conn (Ok (request.Commit txn t more time)) c fits r = tt
asked_fit s conn (Ok (request.Abort txn more time)) c fits r = tt
asked_fit s conn (Ok (request.EndSessions ids more time)) c fits r = tt
asked_fit s conn (Err why) c fits r = tt

client_fit : (s : RouterState) (conn : ℕ) (bytes : List ℕ) (test : Bool) → conn < 2 ^ 32
    → ((place : ℕ) → slice_index bytes place < 2 ^ 8) → RouterFits s
    → IfSome (if test then None else begins_asked s conn (asked_in s.wall bytes)) NameFits
client_fit s conn bytes true c fits r = tt
client_fit s conn bytes false c fits r = asked_fit s conn (asked_in s.wall bytes) c
    (λ q e. asked_fits s.wall bytes q fits e) r

happened_fit : (s : RouterState) (w : Happening) → BringsBytes w → ComesOn w → RouterFits s
    → IfSome (begins_at s w) NameFits
happened_fit s (what.Client conn bytes) fits c r =
    client_fit s conn bytes (is_waiting s conn) c fits r
happened_fit s (what.Gone conn) fits c r = tt
happened_fit s (what.Deliver e) fits c r = tt
happened_fit s what.Resend fits c r = tt
happened_fit s what.Moment fits c r = tt

pub step_begins : (want : Bool) (s : RouterState) (e : NodeEvent) → BringsBytes e.what
    → ComesOn e.what → RouterFits s → IfSome (begins want s e) NameFits
step_begins true s e fits c r = tt
step_begins false s e fits c r = happened_fit (walled s e.wall) e.what fits c
    (record { number = r.number; boot = r.boot; drawn = r.drawn })
