-- The number of a connection's own session is at most the serial that its router drew last, after
-- each step of a router to which clients send bytes.
use Rattle.std.proofs.Common.{◌≡◌, ◌+◌, ◌<◌, ◌^◌, ◌≤ℤ◌, ◌+ℤ◌, ℕ, ℤ, pos, Bool, true, false, All}
use Rattle.std.proofs.Common.{List, [], ◌∷◌, Option, Some, None, Result, Ok, Err, refl, sym, subst}
use Rattle.std.proofs.Common.{arith, if◌then◌else◌}
use Rattle.std.specs.Prelude.{slice_index}
use Rattle.std.proofs.lemmas.Int.{ints}
use Rattle.std.proofs.lemmas.List.Elements.{All-cons, All-head, All-tail, All-weaker}
use Rattle.txn_types.specs.BySession.{BySession}
use Rattle.txn_types.specs.declared.decision.Token.{Token}
use Rattle.txn_types.specs.declared.decision.Token.TheVariants as token
use Rattle.txn_types.specs.declared.event.Happening.{Happening}
use Rattle.txn_types.specs.declared.event.Happening.TheVariants as what
use Rattle.txn_types.specs.declared.event.NodeEvent.{NodeEvent}
use Rattle.txn_types.specs.declared.message.Msg.{Msg}
use Rattle.txn_types.specs.declared.message.Msg.TheVariants as msg
use Rattle.txn_types.specs.declared.node.Lsid.{Lsid}
use Rattle.txn_types.specs.declared.node.Lsid.TheVariants.{Client, Own}
use Rattle.txn_types.specs.declared.operation.Op.{Op}
use Rattle.client_cmd.specs.declared.request.Request.{Request}
use Rattle.client_cmd.specs.declared.request.Request.TheVariants as request
use Rattle.client_cmd.specs.declared.request.Txn.{Txn}
use Rattle.client_reply.specs.declared.reply.Reply.{Reply}
use Rattle.op_msg.specs.Asking.{wants_reply}
use Rattle.router_state.specs.declared.deed.Deed.{Deed}
use Rattle.router_state.specs.declared.state.Asker.{Asker}
use Rattle.router_state.specs.declared.state.Session.{Session}
use Rattle.router_state.specs.declared.state.Transaction.{Transaction}
use Rattle.router_state.specs.Deeds.{Move, done_in, each_session, still}
use Rattle.router_state.specs.State.{RouterState, session_of, own_session, is_own, is_waiting}
use Rattle.router_rules.specs.Commits as co
use Rattle.router_rules.specs.Ends as en
use Rattle.router_rules.specs.Statements as st
use Rattle.router_rules.specs.Tokens as tk
use Rattle.router_rules.specs.Serving.{answered_in, ended_in}
use Rattle.router_rules.specs.Times.{walled, timed, met}
use Rattle.router_plan.specs.Messages.{asked_in}
use Rattle.router_plan.specs.Plain.{next_number}
use Rattle.router_plan.specs.Refusals.{begun_in}
use Rattle.router_plan.specs.declared.message.Unserved.{Unserved}
use Rattle.router_plan.specs.declared.message.Unserved.TheVariants as un
use Rattle.router_core.specs.Requests as rq
use Rattle.router_core.specs.Step as sp
use Rattle.durable_laws.proofs.Facts.{one_of_each}
use Rattle.world_laws.proofs.Beginning.{is_begun}
use Rattle.world_laws.proofs.PartTimes.{entries_put}
use Rattle.fit_laws.specs.Bytes.{BringsBytes}
use Rattle.fit_laws.proofs.Asked.{IsClients, RequestFits, TxnFits, TxnIn, asked_fits}
use Rattle.fit_laws.proofs.Deeds.{Has, answered_has, ended_has, gone_has, ends_has}

-- a number of a connection's own session
abbrev pub Within : ℕ → ℤ → Type 0
Within serial number = (pos 0 ≤ℤ number) × (number ≤ℤ pos serial)

abbrev pub IsDrawn : ℕ → Lsid → ℤ → Type 0
IsDrawn serial lsid number = is_own lsid ≡ true → Within serial number

abbrev pub OwnEntry : ℕ → Lsid × Session → Type 0
OwnEntry serial entry = IsDrawn serial entry.0 entry.1.number

abbrev pub RouterDrawn : RouterState → Type 0
RouterDrawn r = All (OwnEntry r.serial) r.sessions

not_own : (lsid : Lsid) → IsClients lsid → is_own lsid ≡ true → ⊥
not_own (Client bytes) h e = absurd cc
not_own (Own router boot conn) h e = h

-- a client's session has any number
clients_drawn : (serial : ℕ) (lsid : Lsid) (number : ℤ) → IsClients lsid → IsDrawn serial lsid number
clients_drawn serial lsid number h e = absurd (not_own lsid h e)

-- of a session that is there
pub found : (r : RouterState) (lsid : Lsid) (s : Session) → RouterDrawn r → session_of r lsid ≡ Some s
    → IsDrawn r.serial lsid s.number
found r lsid s h e = one_of_each (λ (lsid : Lsid) (s : Session). IsDrawn r.serial lsid s.number)
    r.sessions h lsid s e

same_drawn : (serial : ℕ) (lsid : Lsid) (a b : ℤ) → b ≡ a → IsDrawn serial lsid a
    → IsDrawn serial lsid b
same_drawn serial lsid a b e h = subst (λ (n : ℤ). IsDrawn serial lsid n) (sym e) h

done_drawn : (r : RouterState) (lsid : Lsid) (d : Deed) → RouterDrawn r
    → IsDrawn r.serial lsid d.session.number → RouterDrawn (done_in r lsid d).state
done_drawn r lsid d h this = entries_put (OwnEntry r.serial) lsid d.session r.sessions this h

each_drawn : (serial : ℕ) (act : Lsid → Session → Deed)
    → ((lsid : Lsid) (s : Session) → Has s.number (act lsid s)) → (sessions : BySession Session)
    → All (OwnEntry serial) sessions → All (OwnEntry serial) (each_session act sessions).0
each_drawn serial act has [] h = h
each_drawn serial act has (entry ∷ entries) h =
    All-cons (OwnEntry serial) (entry.0, (act entry.0 entry.1).session)
    (each_session act entries).0
    (same_drawn serial entry.0 entry.1.number (act entry.0 entry.1).session.number
    (has entry.0 entry.1) (All-head (OwnEntry serial) entry entries h))
    (each_drawn serial act has entries (All-tail (OwnEntry serial) entry entries h))

next_within : (n : ℤ) (serial : ℕ) → Within serial n → Within (serial + 1) (n +ℤ pos 1)
next_within n serial h =
    let low = h.0 in let high = h.1 in (omega (arith, ints, low), omega (arith, ints, high))

one_within : (serial : ℕ) → Within (serial + 1) (pos 1)
one_within serial = (omega (arith, ints), omega (arith, ints))

pub next_drawn : (serial : ℕ) (session : Option Session)
    → ((s : Session) → session ≡ Some s → Within serial s.number)
    → Within (serial + 1) (next_number session)
next_drawn serial None h = one_within serial
next_drawn serial (Some s) h = next_within s.number serial (h s refl)

above : (n : ℤ) (serial : ℕ) → Within serial n → Within (serial + 1) n
above n serial h = let high = h.1 in (h.0, omega (arith, ints, high))

-- Statements.

begins_drawn : (r : RouterState) (lsid : Lsid) (session : Option Session) (number : ℤ)
    (asker : Asker) (op : Op) (read_at : ℕ) → RouterDrawn r
    → IsDrawn (r.serial + 1) lsid number
    → RouterDrawn (rq.begins_at r lsid session number asker op read_at).state
begins_drawn r lsid session number asker op read_at h this =
    entries_put (OwnEntry (r.serial + 1)) lsid _ r.sessions this
    (All-weaker (OwnEntry r.serial) (OwnEntry (r.serial + 1))
    (λ entry k own. above entry.1.number r.serial (k own)) r.sessions h)

states_drawn : (r : RouterState) (lsid : Lsid) (number : ℤ) (asker : Asker) (op : Op)
    (at : Option ℕ) (own : Option Transaction) → begun_in (session_of r lsid) number ≡ own
    → RouterDrawn r → IsDrawn (r.serial + 1) lsid number
    → RouterDrawn (rq.states r lsid (session_of r lsid) number asker op at own).state
states_drawn r lsid number asker op at None e h this =
    begins_drawn r lsid (session_of r lsid) number asker op _ h this
states_drawn r lsid number asker op at (Some t) e h this =
    let b = is_begun (session_of r lsid) number t e in
    done_drawn r lsid (st.asks r.chunks lsid number asker op t) h
    (same_drawn r.serial lsid b.there.number number (sym b.number_is)
    (found r lsid b.there h b.is))

refused_drawn : (r : RouterState) (asker : Asker) (refusal : Option Reply) (m : Move)
    → RouterDrawn r → RouterDrawn m.state → RouterDrawn (rq.unless_refused r asker refusal m).state
refused_drawn r asker None m h k = k
refused_drawn r asker (Some why) m h k = h

statement_drawn : (r : RouterState) (asker : Asker) (txn : Option Txn) (op : Op) (at : Option ℕ)
    → TxnIn txn → RouterDrawn r → RouterDrawn (rq.statement r asker txn op at).state
statement_drawn r asker None op at fits h =
    let lsid = own_session r asker.conn in
    let number = next_number (session_of r lsid) in
    refused_drawn r asker _ _ h
    (states_drawn r lsid number asker op at (begun_in (session_of r lsid) number) refl h
    (λ own. next_drawn r.serial (session_of r lsid) (λ s e. found r lsid s h e refl)))
statement_drawn r asker (Some txn) op at fits h =
    refused_drawn r asker _ _ h
    (states_drawn r txn.lsid txn.number asker op at (begun_in (session_of r txn.lsid) txn.number)
    refl h (clients_drawn (r.serial + 1) txn.lsid txn.number fits.lsid))

-- Commits, aborts and ends of sessions.

client_done : (r : RouterState) (lsid : Lsid) (d : Deed) → IsClients lsid → RouterDrawn r
    → RouterDrawn (done_in r lsid d).state
client_done r lsid d is h =
    done_drawn r lsid d h (clients_drawn r.serial lsid d.session.number is)

sought_drawn : (r : RouterState) (asker : Asker) (txn : Txn) (session : Option Session)
    (t : Option Token) → TxnFits txn → RouterDrawn r
    → RouterDrawn (rq.commit_sought r asker txn session t).state
sought_drawn r asker txn session None fits h = h
sought_drawn r asker txn session (Some (token.Early tag)) fits h = h
sought_drawn r asker txn session (Some (token.Placed tag shard boot)) fits h =
    client_done r txn.lsid (tk.seeks txn.lsid txn.number asker tag shard boot session) fits.lsid h
sought_drawn r asker txn session (Some token.Other) fits h = h

commit_by_drawn : (r : RouterState) (asker : Asker) (txn : Txn) (session : Option Session)
    (t : Option Token) (own : Option Transaction) → TxnFits txn → RouterDrawn r
    → RouterDrawn (rq.commit_by r asker txn session t own).state
commit_by_drawn r asker txn session t None fits h = sought_drawn r asker txn session t fits h
commit_by_drawn r asker txn session t (Some own) fits h =
    client_done r txn.lsid (co.commit_asked txn.lsid txn.number asker own) fits.lsid h

commit_drawn : (r : RouterState) (asker : Asker) (txn : Option Txn) (t : Option Token) → TxnIn txn
    → RouterDrawn r → RouterDrawn (rq.commit r asker txn t).state
commit_drawn r asker None t fits h = h
commit_drawn r asker (Some txn) t fits h = refused_drawn r asker _ _ h
    (commit_by_drawn r asker txn (session_of r txn.lsid) t
    (begun_in (session_of r txn.lsid) txn.number) fits h)

abort_by_drawn : (r : RouterState) (asker : Asker) (txn : Txn) (own : Option Transaction)
    → TxnFits txn → RouterDrawn r → RouterDrawn (rq.abort_by r asker txn own).state
abort_by_drawn r asker txn None fits h = h
abort_by_drawn r asker txn (Some own) fits h =
    client_done r txn.lsid (en.client_aborts txn.lsid txn.number asker own) fits.lsid h

abort_drawn : (r : RouterState) (asker : Asker) (txn : Option Txn) → TxnIn txn → RouterDrawn r
    → RouterDrawn (rq.abort r asker txn).state
abort_drawn r asker None fits h = h
abort_drawn r asker (Some txn) fits h = refused_drawn r asker _ _ h
    (abort_by_drawn r asker txn (begun_in (session_of r txn.lsid) txn.number) fits h)

end_drawn : (r : RouterState) (lsid : Lsid) (session : Option Session) → session_of r lsid ≡ session
    → RouterDrawn r → RouterDrawn (en.end_session r lsid session).state
end_drawn r lsid None e h = h
end_drawn r lsid (Some s) e h =
    entries_put (OwnEntry r.serial) lsid (en.ends_session lsid s).session r.sessions
    (same_drawn r.serial lsid s.number (en.ends_session lsid s).session.number (ends_has lsid s)
    (found r lsid s h e)) h

ends_drawn : (lsids : List Lsid) (r : RouterState) → RouterDrawn r
    → RouterDrawn (en.end_sessions r lsids).state
ends_drawn [] r h = h
ends_drawn (lsid ∷ lsids) r h = ends_drawn lsids (en.end_session r lsid (session_of r lsid)).state
    (end_drawn r lsid (session_of r lsid) refl h)

-- The step.

serves_drawn : (r : RouterState) (asker : Asker) (legacy : Bool) (x : Request) → RequestFits x
    → RouterDrawn r → RouterDrawn (rq.serves r asker legacy x).state
unfolding rq.serves
serves_drawn r asker legacy (request.Ping more time) fits h = h
serves_drawn r asker legacy (request.Hello old_name more time) fits h = h
serves_drawn r asker legacy (request.Statement op txn at after more time) fits h =
    statement_drawn (met r time after) asker txn op at fits.1 h
serves_drawn r asker legacy (request.Commit txn t more time) fits h =
    commit_drawn (met r time None) asker txn t fits h
serves_drawn r asker legacy (request.Abort txn more time) fits h =
    abort_drawn (met r time None) asker txn fits h
serves_drawn r asker legacy (request.EndSessions ids more time) fits h =
    ends_drawn ids (met r time None) h

served_drawn : (r : RouterState) (conn : ℕ) (bytes : List ℕ) (x : Result Request Unserved)
    → ((q : Request) → x ≡ Ok q → RequestFits q) → RouterDrawn r
    → RouterDrawn (sp.served r conn bytes x).state
served_drawn r conn bytes (Ok asked) fits h =
    serves_drawn r (sp.asker_by conn bytes) _ asked (fits asked refl) h
served_drawn r conn bytes (Err (un.Told why)) fits h = h
served_drawn r conn bytes (Err (un.Closed number)) fits h = h
served_drawn r conn bytes (Err un.Memory) fits h = h

silent_drawn : (test : Bool) (m : Move) → RouterDrawn m.state
    → RouterDrawn (sp.unless_silent test m).state
silent_drawn true m h = h
silent_drawn false m h = h

client_drawn : (r : RouterState) (conn : ℕ) (bytes : List ℕ) (test : Bool)
    → ((place : ℕ) → slice_index bytes place < 2 ^ 8) → RouterDrawn r
    → RouterDrawn (if test then still r
    else sp.unless_silent (wants_reply bytes)
    (sp.served r conn bytes (asked_in r.wall bytes))).state
client_drawn r conn bytes true fits h = h
client_drawn r conn bytes false fits h =
    silent_drawn (wants_reply bytes) (sp.served r conn bytes (asked_in r.wall bytes))
    (served_drawn r conn bytes (asked_in r.wall bytes)
    (λ q e. asked_fits r.wall bytes q fits e) h)

delivered_drawn : (r : RouterState) (m : Msg) → RouterDrawn r → RouterDrawn (sp.delivered r m).state
delivered_drawn r (msg.Answer a) h =
    each_drawn r.serial (answered_in a) (answered_has a) r.sessions h
delivered_drawn r (msg.Outcome o) h =
    each_drawn r.serial (ended_in o) (ended_has o) r.sessions h
delivered_drawn r other h = h

happened_drawn : (r : RouterState) (w : Happening) → BringsBytes w → RouterDrawn r
    → RouterDrawn (sp.happened r w).state
happened_drawn r (what.Client conn bytes) fits h =
    client_drawn r conn bytes (is_waiting r conn) fits h
happened_drawn r (what.Gone conn) fits h =
    each_drawn r.serial (en.gone_from conn) (gone_has conn) r.sessions h
happened_drawn r (what.Deliver e) fits h = delivered_drawn (timed r e.time) e.msg h
happened_drawn r what.Resend fits h = h
happened_drawn r what.Moment fits h = h

pub step_drawn : (want : Bool) (r : RouterState) (e : NodeEvent) → BringsBytes e.what
    → RouterDrawn r → RouterDrawn (sp.router_step want r e).state
unfolding sp.router_step
step_drawn true r e fits h = h
step_drawn false r e fits h = happened_drawn (walled r e.wall) e.what fits h
