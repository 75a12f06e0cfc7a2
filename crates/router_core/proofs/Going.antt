-- A router stays the one that it is, and its times and serials go on.
use Rattle.std.proofs.Common.{◌≡◌, ℕ, ℤ, Bool, true, false, List, [], ◌∷◌, Option, Some, None}
use Rattle.std.proofs.Common.{Result, Ok, Err, refl, ap, sym, subst, ◌∙◌, arith, if◌then◌else◌}
use Rattle.txn_types.specs.BySession.{BySession}
use Rattle.txn_types.specs.declared.decision.Token.{Token}
use Rattle.txn_types.specs.declared.decision.Token.TheVariants as token
use Rattle.txn_types.specs.declared.event.Happening.{Happening}
use Rattle.txn_types.specs.declared.event.Happening.TheVariants as what
use Rattle.txn_types.specs.declared.event.NodeEvent.{NodeEvent}
use Rattle.txn_types.specs.declared.message.Msg.{Msg}
use Rattle.txn_types.specs.declared.message.Msg.TheVariants as msg
use Rattle.txn_types.specs.declared.node.Lsid.{Lsid}
use Rattle.txn_types.specs.declared.operation.Op.{Op}
use Rattle.client_cmd.specs.declared.request.Request.{Request}
use Rattle.client_cmd.specs.declared.request.Request.TheVariants as request
use Rattle.client_cmd.specs.declared.request.Txn.{Txn}
use Rattle.client_reply.specs.declared.reply.Reply.{Reply}
use Rattle.router_state.specs.declared.state.Asker.{Asker}
use Rattle.router_state.specs.declared.state.Session.{Session}
use Rattle.router_state.specs.declared.state.Transaction.{Transaction}
use Rattle.router_state.specs.Deeds.{Move, still}
use Rattle.router_state.specs.State.{RouterState, session_of, own_session, is_waiting}
use Rattle.router_rules.specs.Ends.{end_session, end_sessions}
use Rattle.router_rules.specs.Times.{walled, timed, met}
use Rattle.router_plan.specs.declared.message.Unserved.{Unserved}
use Rattle.router_plan.specs.declared.message.Unserved.TheVariants.{Told, Closed, Memory}
use Rattle.router_plan.specs.Messages.{asked_in}
use Rattle.router_plan.specs.Plain.{next_number}
use Rattle.router_plan.specs.Refusals.{begun_in, statement_refusal, commit_refusal, abort_refusal}
use Rattle.router_core.specs.Laws.{GoesOn}
use Rattle.router_core.specs.Requests.{unless_refused, states, by_itself, statement, commit_sought}
use Rattle.router_core.specs.Requests.{commit_by, commit, abort_by, abort, serves}
use Rattle.router_core.specs.Step.{delivered, unless_silent, served, client, happened, router_step}

-- the same but for its sessions
same_on : (s : RouterState) (sessions : BySession Session)
    → GoesOn s (record s { sessions = sessions })
same_on s sessions = record {
  number = refl;
  boot = refl;
  chunks = refl;
  wall = omega arith;
  time = omega arith;
  serial = (omega arith, omega arith);
}

-- it has met a time
met_then : (s : RouterState) (time after : Option ℕ) (new : RouterState)
    → GoesOn (met s time after) new → GoesOn s new
met_then s time after new on = record {
  number = on.number;
  boot = on.boot;
  chunks = on.chunks;
  wall = on.wall;
  time = omega (arith, on.time);
  serial = on.serial;
}

timed_then : (s : RouterState) (time : ℕ) (new : RouterState) → GoesOn (timed s time) new
    → GoesOn s new
timed_then s time new on = record {
  number = on.number;
  boot = on.boot;
  chunks = on.chunks;
  wall = on.wall;
  time = omega (arith, on.time);
  serial = on.serial;
}

walled_then : (s : RouterState) (wall : ℕ) (new : RouterState) → GoesOn (walled s wall) new
    → GoesOn s new
walled_then s wall new on = record {
  number = on.number;
  boot = on.boot;
  chunks = on.chunks;
  wall = omega (arith, on.wall);
  time = on.time;
  serial = on.serial;
}

refused_on : (s : RouterState) (asker : Asker) (o : Option Reply) (move : Move)
    → GoesOn s move.state → GoesOn s (unless_refused s asker o move).state
refused_on s asker None move on = on
refused_on s asker (Some r) move on = same_on s s.sessions

states_on : (s : RouterState) (lsid : Lsid) (session : Option Session) (number : ℤ)
    (asker : Asker) (op : Op) (at : Option ℕ) (t : Option Transaction)
    → GoesOn s (states s lsid session number asker op at t).state
states_on s lsid session number asker op at None = record {
  number = refl;
  boot = refl;
  chunks = refl;
  wall = omega arith;
  time = omega arith;
  serial = (omega arith, omega arith);
}
states_on s lsid session number asker op at (Some t) = same_on s _

statement_on : (s : RouterState) (asker : Asker) (txn : Option Txn) (op : Op) (at : Option ℕ)
    → GoesOn s (statement s asker txn op at).state
statement_on s asker None op at =
    let lsid : Lsid = own_session s asker.conn in
    let session : Option Session = session_of s lsid in
    refused_on s asker (statement_refusal s asker.conn session (by_itself s asker.conn) op)
    _ (states_on s lsid session (next_number session) asker op at
    (begun_in session (next_number session)))
statement_on s asker (Some txn) op at =
    let session : Option Session = session_of s txn.lsid in
    refused_on s asker (statement_refusal s asker.conn session txn op) _
    (states_on s txn.lsid session txn.number asker op at (begun_in session txn.number))

sought_on : (s : RouterState) (asker : Asker) (txn : Txn) (session : Option Session)
    (t : Option Token) → GoesOn s (commit_sought s asker txn session t).state
sought_on s asker txn session None = same_on s s.sessions
sought_on s asker txn session (Some (token.Early tag)) = same_on s s.sessions
sought_on s asker txn session (Some token.Other) = same_on s s.sessions
sought_on s asker txn session (Some (token.Placed tag shard boot)) = same_on s _

by_on : (s : RouterState) (asker : Asker) (txn : Txn) (session : Option Session) (t : Option Token)
    (own : Option Transaction) → GoesOn s (commit_by s asker txn session t own).state
by_on s asker txn session t None = sought_on s asker txn session t
by_on s asker txn session t (Some own) = same_on s _

commit_on : (s : RouterState) (asker : Asker) (txn : Option Txn) (t : Option Token)
    → GoesOn s (commit s asker txn t).state
commit_on s asker None t = same_on s s.sessions
commit_on s asker (Some txn) t =
    let session : Option Session = session_of s txn.lsid in
    refused_on s asker (commit_refusal s asker.conn session txn t) _
    (by_on s asker txn session t (begun_in session txn.number))

abort_by_on : (s : RouterState) (asker : Asker) (txn : Txn) (own : Option Transaction)
    → GoesOn s (abort_by s asker txn own).state
abort_by_on s asker txn None = same_on s s.sessions
abort_by_on s asker txn (Some own) = same_on s _

abort_on : (s : RouterState) (asker : Asker) (txn : Option Txn) → GoesOn s (abort s asker txn).state
abort_on s asker None = same_on s s.sessions
abort_on s asker (Some txn) =
    let session : Option Session = session_of s txn.lsid in
    refused_on s asker (abort_refusal s asker.conn session txn) _
    (abort_by_on s asker txn (begun_in session txn.number))

-- ends of sessions change nothing else, one after the other
abbrev SameBut : (s new : RouterState) → Type 0
SameBut s new = (sessions : BySession Session) × (new ≡ record s { sessions = sessions })

end_same : (s : RouterState) (lsid : Lsid) (session : Option Session)
    → SameBut s (end_session s lsid session).state
end_same s lsid None = (s.sessions, refl)
end_same s lsid (Some session) = (_, refl)

again_same : (s mid new : RouterState) → SameBut s mid → SameBut mid new → SameBut s new
again_same s mid new first more =
    (more.0, more.1 ∙ ap (λ (r : RouterState). record r { sessions = more.0 }) first.1)

ends_same : (s : RouterState) (lsids : List Lsid) → SameBut s (end_sessions s lsids).state
ends_same s [] = (s.sessions, refl)
ends_same s (lsid ∷ lsids) =
    let first : RouterState = (end_session s lsid (session_of s lsid)).state in
    again_same s first (end_sessions first lsids).state (end_same s lsid (session_of s lsid))
    (ends_same first lsids)

same_then : (s new : RouterState) → SameBut s new → GoesOn s new
same_then s new same = subst (λ (r : RouterState). GoesOn s r) (sym same.1) (same_on s same.0)

serves_on : (s : RouterState) (asker : Asker) (legacy : Bool) (r : Request)
    → GoesOn s (serves s asker legacy r).state
unfolding serves
serves_on s asker legacy (request.Ping more time) =
    met_then s time None _ (same_on (met s time None) s.sessions)
serves_on s asker legacy (request.Hello old_name more time) =
    met_then s time None _ (same_on (met s time None) s.sessions)
serves_on s asker legacy (request.Statement op txn at after more time) =
    met_then s time after _ (statement_on (met s time after) asker txn op at)
serves_on s asker legacy (request.Commit txn t more time) =
    met_then s time None _ (commit_on (met s time None) asker txn t)
serves_on s asker legacy (request.Abort txn more time) =
    met_then s time None _ (abort_on (met s time None) asker txn)
serves_on s asker legacy (request.EndSessions ids more time) =
    met_then s time None _ (same_then (met s time None) _ (ends_same (met s time None) ids))

served_on : (s : RouterState) (conn : ℕ) (bytes : List ℕ) (asked : Result Request Unserved)
    → GoesOn s (served s conn bytes asked).state
served_on s conn bytes (Ok r) = serves_on s _ _ r
served_on s conn bytes (Err (Told why)) = same_on s s.sessions
served_on s conn bytes (Err (Closed number)) = same_on s s.sessions
served_on s conn bytes (Err Memory) = same_on s s.sessions

silent_on : (s : RouterState) (wants : Bool) (move : Move) → GoesOn s move.state
    → GoesOn s (unless_silent wants move).state
silent_on s true move on = on
silent_on s false move on = on

either_on : (s : RouterState) (b : Bool) (x y : Move) → GoesOn s x.state → GoesOn s y.state
    → GoesOn s (if b then x else y).state
either_on s true x y ox oy = ox
either_on s false x y ox oy = oy

client_on : (s : RouterState) (conn : ℕ) (bytes : List ℕ) → GoesOn s (client s conn bytes).state
client_on s conn bytes =
    either_on s (is_waiting s conn) (still s) _ (same_on s s.sessions) (silent_on s _
    (served s conn bytes (asked_in s.wall bytes)) (served_on s conn bytes (asked_in s.wall bytes)))

delivered_on : (s : RouterState) (m : Msg) → GoesOn s (delivered s m).state
delivered_on s (msg.Answer a) = same_on s _
delivered_on s (msg.Outcome o) = same_on s _
delivered_on s other = same_on s s.sessions

happened_on : (s : RouterState) (h : Happening) → GoesOn s (happened s h).state
happened_on s (what.Client conn bytes) = client_on s conn bytes
happened_on s (what.Gone conn) = same_on s _
happened_on s (what.Deliver e) = timed_then s e.time _ (delivered_on (timed s e.time) e.msg)
happened_on s what.Resend = same_on s s.sessions
happened_on s what.Moment = same_on s s.sessions

pub step_on : (want : Bool) (s : RouterState) (e : NodeEvent)
    → GoesOn s (router_step want s e).state
unfolding router_step
step_on true s e = same_on s s.sessions
step_on false s e = walled_then s e.wall _ (happened_on (walled s e.wall) e.what)
