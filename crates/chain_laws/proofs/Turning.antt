-- A router's step: what it asks is chained to what was answered, and so are its sessions.
use Rattle.std.proofs.Common.{◌≡◌, ◌+◌, ◌≤◌, ℕ, Bool, true, false, All, List, [], ◌++◌, map, Result}
use Rattle.std.proofs.Common.{Ok, Err, refl, sym, ap, subst, ◌∙◌, if◌then◌else◌}
use Rattle.std.specs.Prelude.{Contains}
use Rattle.txn_types.specs.BySession.{BySession, entry_of}
use Rattle.txn_types.specs.declared.event.Happening.{Happening}
use Rattle.txn_types.specs.declared.event.Happening.TheVariants as what
use Rattle.txn_types.specs.declared.event.NodeEvent.{NodeEvent}
use Rattle.txn_types.specs.declared.message.Msg.{Msg}
use Rattle.txn_types.specs.declared.message.Msg.TheVariants as msg
use Rattle.txn_types.specs.declared.message.Statement.{Statement}
use Rattle.txn_types.specs.declared.names.Tag.{Tag}
use Rattle.txn_semantics.specs.declared.commits.Answered.{Answered}
use Rattle.client_cmd.specs.declared.request.Request.{Request}
use Rattle.client_cmd.specs.declared.request.Request.TheVariants as request
use Rattle.op_msg.specs.Asking.{is_legacy, wants_reply}
use Rattle.chunk_map.specs.Map.{IsMap}
use Rattle.router_state.specs.declared.state.Session.{Session}
use Rattle.router_state.specs.Deeds.{Move, still, in_each_session}
use Rattle.router_state.specs.State.{RouterState, is_waiting}
use Rattle.router_rules.specs.Ends.{gone_from}
use Rattle.router_rules.specs.Serving.{answered_in as takes_answer, ended_in}
use Rattle.router_rules.specs.Times.{walled, timed, met}
use Rattle.router_plan.specs.declared.message.Unserved.{Unserved}
use Rattle.router_plan.specs.declared.message.Unserved.TheVariants as un
use Rattle.router_plan.specs.Messages.{asked_in}
use Rattle.router_plan.specs.Names.{IsClients}
use Rattle.router_plan.proofs.Clients.{asked_clients}
use Rattle.router_core.specs.Requests as rq
use Rattle.router_core.specs.Step as sp
use Rattle.cluster_core.specs.Answering.{Unanswered, with_answer, taken_msg}
use Rattle.answer_laws.proofs.Fits.{AskedFits, Unless, HappenedFits, EventFits}
use Rattle.told_laws.proofs.Moves.{AllQuiet, all_self as quiet_self, each_quiet, others_quiet}
use Rattle.told_laws.proofs.Quiet.{ended_quiet, gone_quiet}
use Rattle.told_laws.proofs.Standing.{RouterStands}
use Rattle.chain_laws.specs.Completing.{completed_among}
use Rattle.chain_laws.proofs.Above.{NamesUp, asked_up}
use Rattle.chain_laws.proofs.Answering.{answered_chain}
use Rattle.chain_laws.proofs.Asking.{Begins, asked_chains}
use Rattle.told_laws.proofs.Lists.{none_there}
use Rattle.chain_laws.proofs.Moving.{AllSame, all_self, each_same, others_same, statement_asks}
use Rattle.chain_laws.proofs.Same.{ended_same, gone_same}
use Rattle.chain_laws.proofs.Standing.{Times, SessionsChain, Chained, IsSingle, sessions_go}
use Rattle.chain_laws.proofs.Standing.{sessions_more}

-- what a step leaves; `E` says of its new statements that each is as it has to be
pub record Turned (completed now : List Unanswered) (times : Times) (r s : RouterState)
    (E : (ℕ → Statement → Type 0) → Type 0) : Type 0 where
  pub fresh : Times
  pub begins : (x : Tag × ℕ) → Contains fresh x → Begins r s x
  pub one : (x y : Tag × ℕ) → Contains fresh x → Contains fresh y → x ≡ y
  pub sessions : SessionsChain (completed ++ now) (times ++ fresh) s
  pub fits : E (Chained (completed ++ now) (times ++ fresh))

-- nothing is asked
none_turned : (completed now : List Unanswered) (times : Times) (r s : RouterState)
    (E : (ℕ → Statement → Type 0) → Type 0) → ((Q : ℕ → Statement → Type 0) → E Q)
    → SessionsChain (completed ++ now) (times ++ []) s → Turned completed now times r s E
none_turned completed now times r s E fits h = record {
  fresh = [];
  begins = λ x c. none_there x c;
  one = λ x y c d. none_there x c;
  sessions = h;
  fits = fits (Chained (completed ++ now) (times ++ []));
}

-- nor answered
quiet_turned : (completed now : List Unanswered) (times : Times) (r q s : RouterState)
    (E : (ℕ → Statement → Type 0) → Type 0) → ((Q : ℕ → Statement → Type 0) → E Q)
    → AllQuiet q s → AllSame q s → SessionsChain completed times q
    → Turned completed now times r s E
quiet_turned completed now times r q s E fits quiet same h =
    none_turned completed now times r s E fits
    (sessions_more completed now times [] s (sessions_go completed times q s quiet same h))

same_sessions : (completed : List Unanswered) (times : Times) (r s : RouterState)
    → s.sessions ≡ r.sessions → SessionsChain completed times r → SessionsChain completed times s
same_sessions completed times r s e h lsid v there =
    h lsid v (ap (λ (xs : BySession Session). entry_of lsid xs) (sym e) ∙ there)

-- A client's message.

silent_turned : (P : RouterState → Type 0) (test : Bool) (m : Move) → P m.state
    → P (sp.unless_silent test m).state
silent_turned P true m h = h
silent_turned P false m h = h

served_turned : (completed now : List Unanswered) (times : Times) (r s : RouterState) (conn : ℕ)
    (bytes : List ℕ) (x : Result Request Unserved)
    → ((q : Request) → x ≡ Ok q → IsClients q × NamesUp q) → s.serial ≡ r.serial
    → s.number ≡ r.number → s.boot ≡ r.boot → IsMap s.chunks → s.chunks.shards ≡ 1
    → is_waiting s conn ≡ false → SessionsChain completed times s
    → Turned completed now times r (sp.served s conn bytes x).state
    (λ Q. AskedFits Q s conn bytes x)
unfolding rq.serves
served_turned completed now times r s conn bytes (Ok (request.Statement op txn at after more time))
    names serial number boot is one waits h =
    let asker = sp.asker_by conn bytes in
    let n = names (request.Statement op txn at after more time) refl in
    let m = rq.statement (met s time after) asker txn op at in
    let a = asked_chains completed now times (met s time after) op m is one h
    (statement_asks (met s time after) asker txn op at n.0 n.1 waits) in
    record {
      fresh = a.fresh;
      begins = λ x c.
          let b = a.begins x c in
          record {
            tag = b.tag ∙ tag_same serial number boot;
            drawn = subst (λ (k : ℕ). k + 1 ≤ m.state.serial) serial b.drawn;
          };
      one = a.one;
      sessions = a.sessions;
      fits = a.sends;
    }
  where
    tag_same : s.serial ≡ r.serial → s.number ≡ r.number → s.boot ≡ r.boot
        → rq.next_tag (met s time after) ≡ rq.next_tag r
    tag_same a b c = λ i. record { router = b i; boot = c i; serial = a i + 1 }
served_turned completed now times r s conn bytes (Ok (request.Ping more time)) names serial number
    boot is one waits h =
    let q = request.Ping more time in
    quiet_turned completed now times r s (rq.serves s (sp.asker_by conn bytes) (is_legacy bytes)
    q).state (λ Q. AskedFits Q s conn bytes (Ok q)) (λ Q. tt)
    (others_quiet s (sp.asker_by conn bytes) (is_legacy bytes) q tt).sessions
    (others_same s (sp.asker_by conn bytes) (is_legacy bytes) q tt) h
served_turned completed now times r s conn bytes (Ok (request.Hello old_name more time)) names
    serial number boot is one waits h =
    let q = request.Hello old_name more time in
    quiet_turned completed now times r s (rq.serves s (sp.asker_by conn bytes) (is_legacy bytes)
    q).state (λ Q. AskedFits Q s conn bytes (Ok q)) (λ Q. tt)
    (others_quiet s (sp.asker_by conn bytes) (is_legacy bytes) q tt).sessions
    (others_same s (sp.asker_by conn bytes) (is_legacy bytes) q tt) h
served_turned completed now times r s conn bytes (Ok (request.Commit txn t more time)) names serial
    number boot is one waits h =
    let q = request.Commit txn t more time in
    quiet_turned completed now times r s (rq.serves s (sp.asker_by conn bytes) (is_legacy bytes)
    q).state (λ Q. AskedFits Q s conn bytes (Ok q)) (λ Q. tt)
    (others_quiet s (sp.asker_by conn bytes) (is_legacy bytes) q tt).sessions
    (others_same s (sp.asker_by conn bytes) (is_legacy bytes) q tt) h
served_turned completed now times r s conn bytes (Ok (request.Abort txn more time)) names serial
    number boot is one waits h =
    let q = request.Abort txn more time in
    quiet_turned completed now times r s (rq.serves s (sp.asker_by conn bytes) (is_legacy bytes)
    q).state (λ Q. AskedFits Q s conn bytes (Ok q)) (λ Q. tt)
    (others_quiet s (sp.asker_by conn bytes) (is_legacy bytes) q tt).sessions
    (others_same s (sp.asker_by conn bytes) (is_legacy bytes) q tt) h
served_turned completed now times r s conn bytes (Ok (request.EndSessions ids more time)) names
    serial number boot is one waits h =
    let q = request.EndSessions ids more time in
    quiet_turned completed now times r s (rq.serves s (sp.asker_by conn bytes) (is_legacy bytes)
    q).state (λ Q. AskedFits Q s conn bytes (Ok q)) (λ Q. tt)
    (others_quiet s (sp.asker_by conn bytes) (is_legacy bytes) q tt).sessions
    (others_same s (sp.asker_by conn bytes) (is_legacy bytes) q tt) h
served_turned completed now times r s conn bytes (Err (un.Told why)) names serial number boot is
    one waits h =
    quiet_turned completed now times r s s (λ Q. AskedFits Q s conn bytes (Err (un.Told why)))
    (λ Q. tt) (quiet_self s) (all_self s) h
served_turned completed now times r s conn bytes (Err (un.Closed code)) names serial number boot is
    one waits h =
    quiet_turned completed now times r s s (λ Q. AskedFits Q s conn bytes (Err (un.Closed code)))
    (λ Q. tt) (quiet_self s) (all_self s) h
served_turned completed now times r s conn bytes (Err un.Memory) names serial number boot is one
    waits h =
    quiet_turned completed now times r s s (λ Q. AskedFits Q s conn bytes (Err un.Memory))
    (λ Q. tt) (quiet_self s) (all_self s) h

client_turned : (completed now : List Unanswered) (times : Times) (r s : RouterState) (conn : ℕ)
    (bytes : List ℕ) (test : Bool) (x : Result Request Unserved)
    → ((q : Request) → x ≡ Ok q → IsClients q × NamesUp q) → s.serial ≡ r.serial
    → s.number ≡ r.number → s.boot ≡ r.boot → IsMap s.chunks → s.chunks.shards ≡ 1
    → is_waiting s conn ≡ test → SessionsChain completed times s
    → Turned completed now times r (if test then still s
    else sp.unless_silent (wants_reply bytes) (sp.served s conn bytes x)).state
    (λ Q. Unless test (AskedFits Q s conn bytes x))
client_turned completed now times r s conn bytes true x names serial number boot is one waits h =
    quiet_turned completed now times r s s (λ Q. Unless true (AskedFits Q s conn bytes x))
    (λ Q. tt) (quiet_self s) (all_self s) h
client_turned completed now times r s conn bytes false x names serial number boot is one waits h =
    silent_turned (λ (y : RouterState). Turned completed now times r y
    (λ Q. AskedFits Q s conn bytes x)) (wants_reply bytes) (sp.served s conn bytes x)
    (served_turned completed now times r s conn bytes x names serial number boot is one waits h)

-- A message of a shard. An Answer is the first shard's.

abbrev pub IsFirst : Msg → Type 0
IsFirst (msg.Answer a) = a.shard ≡ 0
IsFirst other = Unit {0}

abbrev pub EventFirst : Happening → Type 0
EventFirst (what.Deliver e) = IsFirst e.msg
EventFirst other = Unit {0}

-- what an Answer completes
abbrev pub Completes : ℕ → Happening → List Unanswered → List Unanswered → Type 0
Completes n (what.Deliver e) us now = completed_among (taken_msg n e.msg us) ≡ now
Completes n other us now = Unit {0}

delivered_turned : (completed begun us : List Unanswered) (told : List Answered) (times : Times)
    (n : ℕ) (r s : RouterState) (m : Msg) → IsFirst m → s.sessions ≡ r.sessions
    → All IsSingle us → RouterStands n begun us told r → SessionsChain completed times s
    → Turned completed (completed_among (taken_msg n m us)) times r (sp.delivered s m).state
    (λ Q. Unit {0})
delivered_turned completed begun us told times n r s (msg.Answer a) first same single stands h =
    let now = completed_among (map (with_answer n a) us) in
    none_turned completed now times r (in_each_session (takes_answer a) s).state (λ Q. Unit {0})
    (λ Q. tt)
    (answered_chain n a begun us told completed (times ++ []) r s first single
    (λ lsid v e. stands.sessions lsid v
    (ap (λ (xs : BySession Session). entry_of lsid xs) (sym same) ∙ e))
    (sessions_more completed now times [] s h))
delivered_turned completed begun us told times n r s (msg.Outcome o) first same single stands h =
    quiet_turned completed (completed_among us) times r s
    (in_each_session (ended_in o) s).state (λ Q. Unit {0}) (λ Q. tt)
    (each_quiet (ended_in o) s (λ lsid v. ended_quiet o lsid v.number v.doing)).sessions
    (each_same (ended_in o) s (λ lsid v. ended_same o lsid v.number v.doing)) h
delivered_turned completed begun us told times n r s other first same single stands h =
    quiet_turned completed (completed_among us) times r s s (λ Q. Unit {0}) (λ Q. tt)
    (quiet_self s) (all_self s) h

-- The step.

happened_turned : (completed now begun us : List Unanswered) (told : List Answered) (times : Times)
    (n : ℕ) (r s : RouterState) (w : Happening) → EventFirst w → Completes n w us now
    → s.serial ≡ r.serial → s.number ≡ r.number → s.boot ≡ r.boot → s.sessions ≡ r.sessions
    → IsMap s.chunks → s.chunks.shards ≡ 1 → All IsSingle us → RouterStands n begun us told r
    → SessionsChain completed times s
    → Turned completed now times r (sp.happened s w).state (λ Q. HappenedFits Q s w)
happened_turned completed now begun us told times n r s (what.Client conn bytes) first completes
    serial number boot sessions is one single stands h =
    client_turned completed now times r s conn bytes (is_waiting s conn) (asked_in s.wall bytes)
    (λ q e. (asked_clients s.wall bytes q e, asked_up s.wall bytes q e)) serial number boot is one
    refl h
happened_turned completed now begun us told times n r s (what.Gone conn) first completes
    serial number boot sessions is one single stands h =
    quiet_turned completed now times r s (in_each_session (gone_from conn) s).state
    (λ Q. Unit {0}) (λ Q. tt)
    (each_quiet (gone_from conn) s (λ lsid v. (gone_quiet conn lsid v).0)).sessions
    (each_same (gone_from conn) s (λ lsid v. gone_same conn lsid v)) h
happened_turned completed now begun us told times n r s (what.Deliver e) first completes
    serial number boot sessions is one single stands h =
    subst (λ (c : List Unanswered). Turned completed c times r
    (sp.delivered (timed s e.time) e.msg).state (λ Q. Unit {0})) completes
    (delivered_turned completed begun us told times n r (timed s e.time) e.msg first sessions single
    stands h)
happened_turned completed now begun us told times n r s what.Resend first completes
    serial number boot sessions is one single stands h =
    quiet_turned completed now times r s s (λ Q. Unit {0}) (λ Q. tt) (quiet_self s) (all_self s) h
happened_turned completed now begun us told times n r s what.Moment first completes
    serial number boot sessions is one single stands h =
    quiet_turned completed now times r s s (λ Q. Unit {0}) (λ Q. tt) (quiet_self s) (all_self s) h

pub step_turned : (completed now begun us : List Unanswered) (told : List Answered) (times : Times)
    (n : ℕ) (r : RouterState) (e : NodeEvent) → EventFirst e.what → Completes n e.what us now
    → IsMap r.chunks → r.chunks.shards ≡ 1 → All IsSingle us → RouterStands n begun us told r
    → SessionsChain completed times r
    → Turned completed now times r (sp.router_step false r e).state (λ Q. EventFits Q false r e)
unfolding sp.router_step
step_turned completed now begun us told times n r e first completes is one single stands h =
    happened_turned completed now begun us told times n r (walled r e.wall) e.what first completes
    refl refl refl refl is one single stands h
