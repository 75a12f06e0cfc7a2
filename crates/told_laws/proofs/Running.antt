-- What stands of opened statements is kept by each event, and so stands after each run.
use Rattle.std.proofs.Common.{◌≡◌, inl, inr, ◌&&◌, ℕ, Bool, true, false, All, List, [], ◌∷◌, ◌++◌}
use Rattle.std.proofs.Common.{map, Option, Some, None, Result, Ok, Err, refl, sym, ap, ap₂, subst}
use Rattle.std.proofs.Common.{◌∙◌, arith, if◌then◌else◌}
use Rattle.std.specs.Prelude.{slice_get, slice_set}
use Rattle.std.proofs.lemmas.List.{append-nil, append_assoc}
use Rattle.std.proofs.lemmas.List.Elements.{All-nil, All-head, All-tail, All-weaker}
use Rattle.txn_types.specs.BySession.{BySession, entry_of}
use Rattle.txn_types.specs.declared.event.Happening.{Happening}
use Rattle.txn_types.specs.declared.event.Happening.TheVariants as what
use Rattle.txn_types.specs.declared.event.NodeAnswer.{NodeAnswer}
use Rattle.txn_types.specs.declared.event.NodeEvent.{NodeEvent}
use Rattle.txn_types.specs.declared.message.Msg.{Msg}
use Rattle.txn_types.specs.declared.message.Msg.TheVariants as msg
use Rattle.txn_types.specs.declared.message.Statement.{Statement}
use Rattle.txn_types.specs.declared.node.NodeId.{NodeId}
use Rattle.txn_types.specs.declared.node.NodeId.TheVariants.{Shard, Router}
use Rattle.txn_types.specs.declared.operation.Op.{Op}
use Rattle.txn_semantics.specs.declared.commits.Answered.{Answered}
use Rattle.client_cmd.specs.declared.request.Request.{Request}
use Rattle.client_cmd.specs.declared.request.Request.TheVariants as request
use Rattle.op_msg.specs.Asking.{is_legacy, wants_reply}
use Rattle.chunk_map.specs.Map.{Map}
use Rattle.chunk_map.specs.Parts.{shards_of}
use Rattle.router_state.specs.declared.state.Session.{Session}
use Rattle.router_state.specs.Deeds.{Move, still, in_each_session}
use Rattle.router_state.specs.State.{Post, RouterState, is_waiting, fresh_router}
use Rattle.router_rules.specs.Ends.{gone_from}
use Rattle.router_rules.specs.Serving.{answered_in as takes_answer, ended_in}
use Rattle.router_rules.specs.Times.{walled, timed, met}
use Rattle.router_plan.specs.declared.message.Unserved.{Unserved}
use Rattle.router_plan.specs.declared.message.Unserved.TheVariants as un
use Rattle.router_plan.specs.Messages.{asked_in}
use Rattle.router_core.specs.Requests as rq
use Rattle.router_core.specs.Step as sp
use Rattle.txn_model.specs.declared.ran.Ran.{Ran}
use Rattle.txn_model.specs.declared.ran.Ran.TheVariants.{Step, Swapped}
use Rattle.cluster_core.specs.Answering.{Unanswered, is_complete, all_say, answered_among}
use Rattle.cluster_core.specs.Answering.{left_unanswered, taken_msg, taken_what, opened, opened_by}
use Rattle.cluster_core.specs.Answering.{statements_in}
use Rattle.cluster_core.specs.Ledger.{Ledger, Entered, fresh_ledger, ledger_behind, answered_from}
use Rattle.cluster_core.specs.Ledger.{entered, entered_by, passed, swapped}
use Rattle.cluster_core.specs.Nodes.{Nodes}
use Rattle.cluster_core.specs.Routers.{asked_by, request_at}
use Rattle.cluster_core.specs.Trace.{Happens, IsTrace, IsFresh, RouterSteps, again}
use Rattle.world_laws.specs.Begins.{Kept}
use Rattle.answer_laws.specs.Opened.{opened_at, opened_by as opened_in_step, opened_from}
use Rattle.answer_laws.proofs.Lists.{set_same}
use Rattle.answer_laws.proofs.Sending.{parts_from, part_for, parts_are, skipped, told_by}
use Rattle.told_laws.specs.Places.{IsOpened}
use Rattle.told_laws.proofs.Quiet.{DoingNotFrom, ended_quiet, gone_quiet}
use Rattle.told_laws.proofs.Moves.{QuietFrom, AllQuiet, QuietMove, AsksOne, MayAskOne, all_self}
use Rattle.told_laws.proofs.Moves.{each_from, each_quiet, quiet_still, statement_asks, others_quiet}
use Rattle.told_laws.proofs.Standing.{RouterStands, IsOpen, ListsStand, BookStands}
use Rattle.told_laws.proofs.Booking.{quiet_router, quiet_book, gone_book, again_book}
use Rattle.told_laws.proofs.Opening.{news_of, asks_book}
use Rattle.told_laws.proofs.Answering.{answer_book}

-- Where none is complete, none is answered.

left_same : (us : List Unanswered) → All (λ u. is_complete u ≡ false) us → left_unanswered us ≡ us
left_same [] h = refl
left_same (u ∷ us) h =
    let first : is_complete u ≡ false = All-head (λ u. is_complete u ≡ false) u us h in
    rw first (ap (λ (more : List Unanswered). u ∷ more)
    (left_same us (All-tail (λ u. is_complete u ≡ false) u us h)))

answered_none : (us : List Unanswered) → All (λ u. is_complete u ≡ false) us
    → answered_among us ≡ []
answered_none [] h = refl
answered_none (u ∷ us) h =
    let first : (is_complete u && all_say u) ≡ false = ap (λ (b : Bool). b && all_say u)
    (All-head (λ u. is_complete u ≡ false) u us h) in
    rw first (answered_none us (All-tail (λ u. is_complete u ≡ false) u us h))

settle : (routers : List RouterState) (begun us : List Unanswered) (told : List Answered)
    → BookStands routers begun us told
    → BookStands routers begun (left_unanswered us) (told ++ answered_among us)
settle routers begun us told h =
    let unfinished = All-weaker (IsOpen begun) (λ u. is_complete u ≡ false) (λ u o. o.incomplete) us
    h.lists.are_open in
    subst (λ (left : List Unanswered). BookStands routers begun left (told ++ answered_among us))
    (sym (left_same us unfinished))
    (subst (λ (now : List Answered). BookStands routers begun us (told ++ now))
    (sym (answered_none us unfinished))
    (subst (λ (all : List Answered). BookStands routers begun us all) (sym (append-nil told)) h))

-- What stands after a step that opens these, before the complete ones are told apart.
abbrev Behind : List RouterState → List Unanswered → List Unanswered → List Answered
    → List Unanswered → List Unanswered → Type 0
Behind routers begun us told taken new = BookStands routers (begun ++ new)
    (left_unanswered (taken ++ new)) (told ++ answered_among (taken ++ new))

none_new : (routers : List RouterState) (begun us taken : List Unanswered) (told : List Answered)
    → BookStands routers begun (left_unanswered taken) (told ++ answered_among taken)
    → Behind routers begun us told taken []
none_new routers begun us taken told h =
    subst (λ (b : List Unanswered). BookStands routers b (left_unanswered (taken ++ []))
    (told ++ answered_among (taken ++ []))) (sym (append-nil begun))
    (subst (λ (t : List Unanswered). BookStands routers begun (left_unanswered t)
    (told ++ answered_among t)) (sym (append-nil taken)) h)

-- A request.

same_sessions : (r s : RouterState) → s.sessions ≡ r.sessions → AllQuiet r s
same_sessions r s e lsid v there = all_self r lsid v
    (ap (λ (xs : BySession Session). entry_of lsid xs) (sym e) ∙ there)

quiet_behind : (routers : List RouterState) (n : ℕ) (r s : RouterState) (begun us : List Unanswered)
    (told : List Answered) → slice_get routers n ≡ Some r → Kept r s → AllQuiet r s
    → BookStands routers begun us told → Behind (slice_set routers n s) begun us told us []
quiet_behind routers n r s begun us told there kept quiet h =
    none_new (slice_set routers n s) begun us us told
    (settle (slice_set routers n s) begun us told
    (quiet_book routers n r s begun us told there kept quiet h))

-- the statements among what goes out, of a move that asks one
parts_of : (r : RouterState) (conn : ℕ) (op : Op) (m : Move) (from : NodeId) (time : ℕ)
    (a : AsksOne r conn op m)
    → parts_from from time (m.given.aborts ++ m.given.sends) ≡ map
    (part_for r.chunks a.lsid a.number a.t op) (shards_of r.chunks op)
parts_of r conn op m from time a =
    skipped from time m.given.aborts m.given.sends a.aborts ∙ ap (parts_from from time) a.sends ∙
    parts_are from time r.chunks a.lsid a.number a.t op (shards_of r.chunks op)

move_behind : (routers : List RouterState) (n conn : ℕ) (r s : RouterState) (op : Op) (m : Move)
    (begun us : List Unanswered) (told : List Answered) (from : NodeId) (time : ℕ)
    → slice_get routers n ≡ Some r
    → s.number ≡ r.number → s.boot ≡ r.boot → s.serial ≡ r.serial → s.sessions ≡ r.sessions
    → MayAskOne s conn op m → BookStands routers begun us told
    → Behind (slice_set routers n m.state) begun us told us
    (opened_by n conn op (parts_from from time (m.given.aborts ++ m.given.sends)))
move_behind routers n conn r s op m begun us told from time there number boot serial sessions
    (inl none) h =
    let nothing : parts_from from time (m.given.aborts ++ m.given.sends) ≡ [] =
    ap₂ (λ (aborts sends : List Post). parts_from from time (aborts ++ sends)) none.2 none.1 in
    subst (λ (parts : List (ℕ × Statement)). Behind (slice_set routers n m.state) begun us told us
    (opened_by n conn op parts)) (sym nothing)
    (subst (λ (x : RouterState). Behind (slice_set routers n x) begun us told us []) (sym none.0)
    (quiet_behind routers n r s begun us told there
    (record { number = number; boot = boot; serial = serial }) (same_sessions r s sessions) h))
move_behind routers n conn r s op m begun us told from time there number boot serial sessions
    (inr a) h =
    let x = quiet_router n r s begun us told (record {
      number = number;
      boot = boot;
      serial = serial;
    }) (same_sessions r s sessions) (h.routers_stand n r there) in
    subst (λ (parts : List (ℕ × Statement)). Behind (slice_set routers n m.state) begun us told us
    (opened_by n conn op parts)) (sym (parts_of s conn op m from time a))
    (settle (slice_set routers n m.state) (begun ++ news_of n conn s op m a)
    (us ++ news_of n conn s op m a) told (asks_book routers n conn s op m begun us told a x h))

silent_behind : (routers : List RouterState) (n conn : ℕ) (r s : RouterState) (op : Op)
    (test : Bool) (m : Move) (begun us : List Unanswered) (told : List Answered) (c : Option ℕ)
    (replies : List (ℕ × List ℕ)) (closed : Option ℕ)
    → slice_get routers n ≡ Some r → s.number ≡ r.number → s.boot ≡ r.boot → s.serial ≡ r.serial
    → s.sessions ≡ r.sessions → MayAskOne s conn op m → BookStands routers begun us told
    → Behind (slice_set routers n (sp.unless_silent test m).state) begun us told us
    (opened_by n conn op (statements_in (told_by c (sp.unless_silent test m) replies closed)))
silent_behind routers n conn r s op true m begun us told c replies closed there number boot serial
    sessions may h = move_behind routers n conn r s op m begun us told _ m.state.time there number
    boot serial sessions may h
silent_behind routers n conn r s op false m begun us told c replies closed there number boot serial
    sessions may h = move_behind routers n conn r s op m begun us told _ m.state.time there number
    boot serial sessions may h

silent_state : (P : RouterState → Type 0) (test : Bool) (m : Move) → P m.state
    → P (sp.unless_silent test m).state
silent_state P true m h = h
silent_state P false m h = h

kept_move : (routers : List RouterState) (n : ℕ) (r s : RouterState) (m : Move) (test : Bool)
    (begun us : List Unanswered) (told : List Answered) → slice_get routers n ≡ Some r
    → s.number ≡ r.number → s.boot ≡ r.boot → s.serial ≡ r.serial → s.sessions ≡ r.sessions
    → QuietMove s m → BookStands routers begun us told
    → Behind (slice_set routers n (sp.unless_silent test m).state) begun us told us []
kept_move routers n r s m test begun us told there number boot serial sessions q h =
    silent_state (λ (x : RouterState). Behind (slice_set routers n x) begun us told us []) test m
    (quiet_behind routers n r m.state begun us told there
    (record {
      number = q.kept.number ∙ number;
      boot = q.kept.boot ∙ boot;
      serial = q.kept.serial ∙
          serial;
    })
    (λ lsid v e. subst (λ (xs : BySession Session). QuietFrom (entry_of lsid xs) v.doing) sessions
    (q.sessions lsid v e)) h)

client_behind : (routers : List RouterState) (n : ℕ) (r s : RouterState) (conn : ℕ) (bytes : List ℕ)
    (test : Bool) (x : Result Request Unserved) (begun us : List Unanswered) (told : List Answered)
    (c : Option ℕ) (replies : List (ℕ × List ℕ)) (closed : Option ℕ) → slice_get routers n ≡ Some r
    → s.number ≡ r.number → s.boot ≡ r.boot → s.serial ≡ r.serial → s.sessions ≡ r.sessions
    → is_waiting s conn ≡ test
    → BookStands routers begun us told
    → Behind (slice_set routers n (if test then still s else sp.unless_silent (wants_reply bytes)
    (sp.served s conn bytes x)).state) begun us told us
    (opened n (if test then None else asked_by conn x)
    (told_by c (if test then still s else sp.unless_silent (wants_reply bytes)
    (sp.served s conn bytes x)) replies closed))
unfolding rq.serves
client_behind routers n r s conn bytes true x begun us told c replies closed there number boot
    serial sessions waits h =
    quiet_behind routers n r s begun us told there
    (record { number = number; boot = boot; serial = serial }) (same_sessions r s sessions) h
client_behind routers n r s conn bytes false (Ok (request.Statement op txn at after more time))
    begun us told c replies closed there number boot serial sessions waits h =
    let asker = sp.asker_by conn bytes in
    silent_behind routers n conn r (met s time after) op (wants_reply bytes)
    (rq.statement (met s time after) asker txn op at) begun us told c replies closed there
    number boot serial sessions
    (statement_asks (met s time after) asker txn op at waits) h
client_behind routers n r s conn bytes false (Ok (request.Ping more time)) begun us told c replies
    closed there number boot serial sessions waits h =
    kept_move routers n r s (sp.served s conn bytes (Ok (request.Ping more time)))
    (wants_reply bytes) begun us told there number boot serial sessions
    (others_quiet s (sp.asker_by conn bytes) (is_legacy bytes) (request.Ping more time) tt) h
client_behind routers n r s conn bytes false (Ok (request.Hello old_name more time)) begun us told c
    replies closed there number boot serial sessions waits h =
    kept_move routers n r s (sp.served s conn bytes (Ok (request.Hello old_name more time)))
    (wants_reply bytes) begun us told there number boot serial sessions
    (others_quiet s (sp.asker_by conn bytes) (is_legacy bytes)
    (request.Hello old_name more time) tt) h
client_behind routers n r s conn bytes false (Ok (request.Commit txn t more time)) begun us told c
    replies closed there number boot serial sessions waits h =
    kept_move routers n r s (sp.served s conn bytes (Ok (request.Commit txn t more time)))
    (wants_reply bytes) begun us told there number boot serial sessions
    (others_quiet s (sp.asker_by conn bytes) (is_legacy bytes) (request.Commit txn t more time)
    tt) h
client_behind routers n r s conn bytes false (Ok (request.Abort txn more time)) begun us told c
    replies closed there number boot serial sessions waits h =
    kept_move routers n r s (sp.served s conn bytes (Ok (request.Abort txn more time)))
    (wants_reply bytes) begun us told there number boot serial sessions
    (others_quiet s (sp.asker_by conn bytes) (is_legacy bytes) (request.Abort txn more time) tt)
    h
client_behind routers n r s conn bytes false (Ok (request.EndSessions ids more time)) begun us told
    c replies closed there number boot serial sessions waits h =
    kept_move routers n r s (sp.served s conn bytes (Ok (request.EndSessions ids more time)))
    (wants_reply bytes) begun us told there number boot serial sessions
    (others_quiet s (sp.asker_by conn bytes) (is_legacy bytes)
    (request.EndSessions ids more time) tt) h
client_behind routers n r s conn bytes false (Err (un.Told why)) begun us told c replies closed
    there number boot serial sessions waits h =
    kept_move routers n r s (sp.served s conn bytes (Err (un.Told why))) (wants_reply bytes) begun
    us told there number boot serial sessions
    (quiet_still s (sp.served s conn bytes (Err (un.Told why))) refl) h
client_behind routers n r s conn bytes false (Err (un.Closed code)) begun us told c replies closed
    there number boot serial sessions waits h =
    kept_move routers n r s (still s) (wants_reply bytes) begun us told there number boot serial
    sessions (quiet_still s (still s) refl) h
client_behind routers n r s conn bytes false (Err un.Memory) begun us told c replies closed there
    number boot serial sessions waits h =
    kept_move routers n r s (still s) (wants_reply bytes) begun us told there number boot serial
    sessions (quiet_still s (still s) refl) h

-- A message of a shard.

delivered_behind : (routers : List RouterState) (n : ℕ) (r s : RouterState) (m : Msg)
    (begun us : List Unanswered) (told : List Answered) → slice_get routers n ≡ Some r
    → s.number ≡ r.number → s.boot ≡ r.boot → s.serial ≡ r.serial → s.sessions ≡ r.sessions
    → BookStands routers begun us told
    → Behind (slice_set routers n (sp.delivered s m).state) begun us told (taken_msg n m us) []
delivered_behind routers n r s (msg.Answer a) begun us told there number boot serial sessions h =
    none_new (slice_set routers n (in_each_session (takes_answer a) s).state) begun us
    (taken_msg n (msg.Answer a) us) told
    (answer_book routers n a r s (in_each_session (takes_answer a) s).state begun us told there
    number boot serial sessions refl h)
delivered_behind routers n r s (msg.Outcome o) begun us told there number boot serial sessions h =
    kept_move routers n r s (in_each_session (ended_in o) s) true begun us told there number boot
    serial sessions (each_quiet (ended_in o) s (λ lsid v. ended_quiet o lsid v.number v.doing))
    h
delivered_behind routers n r s other begun us told there number boot serial sessions h =
    kept_move routers n r s (still s) true begun us told there number boot serial sessions
    (quiet_still s (still s) refl) h

gone_behind : (routers : List RouterState) (n : ℕ) (r s : RouterState) (conn : ℕ)
    (begun us : List Unanswered) (told : List Answered) → slice_get routers n ≡ Some r
    → s.number ≡ r.number → s.boot ≡ r.boot → s.serial ≡ r.serial → s.sessions ≡ r.sessions
    → BookStands routers begun us told
    → Behind (slice_set routers n (in_each_session (gone_from conn) s).state) begun us told
    (taken_what n (what.Gone conn) us) []
gone_behind routers n r s conn begun us told there number boot serial sessions h =
    let t = (in_each_session (gone_from conn) s).state in
    let taken = taken_what n (what.Gone conn) us in
    none_new (slice_set routers n t) begun us taken told
    (settle (slice_set routers n t) begun taken told
    (gone_book routers n conn r t begun us told there
    (record { number = number; boot = boot; serial = serial })
    (λ lsid v e. subst (λ (xs : BySession Session). QuietFrom (entry_of lsid xs) v.doing) sessions
    ((each_quiet (gone_from conn) s (λ lsid v. (gone_quiet conn lsid v).0)).sessions lsid v e))
    (λ lsid v e.
    let f = each_from (gone_from conn) s lsid v e in
    subst (λ (w : Session). DoingNotFrom conn w.doing) (sym f.2) (gone_quiet conn lsid f.0).1)
    h))

-- A router's step.

happened_behind : (routers : List RouterState) (n : ℕ) (r : RouterState) (wall : ℕ) (w : Happening)
    (e : NodeEvent) (c : Option ℕ) (replies : List (ℕ × List ℕ)) (closed : Option ℕ)
    (begun us : List Unanswered) (told : List Answered)
    → e ≡ record { wall = wall; what = w } → slice_get routers n ≡ Some r
    → BookStands routers begun us told
    → Behind (slice_set routers n (sp.happened (walled r wall) w).state) begun us told
    (taken_what n w us)
    (opened n (request_at r e (told_by c (sp.happened (walled r wall) w) replies closed))
    (told_by c (sp.happened (walled r wall) w) replies closed))
happened_behind routers n r wall (what.Client conn bytes) e c replies closed begun us told is there
    h =
    rw is (client_behind routers n r (walled r wall) conn bytes (is_waiting r conn)
    (asked_in (walled r wall).wall bytes) begun us told c replies closed there refl refl refl
    refl refl h)
happened_behind routers n r wall (what.Gone conn) e c replies closed begun us told is there h = rw
    is (gone_behind routers n r (walled r wall) conn begun us told there refl refl refl refl h)
happened_behind routers n r wall (what.Deliver m) e c replies closed begun us told is there h =
    rw is (delivered_behind routers n r (timed (walled r wall) m.time) m.msg begun us told there
    refl refl refl refl h)
happened_behind routers n r wall what.Resend e c replies closed begun us told is there h =
    rw is (quiet_behind routers n r (walled r wall) begun us told there
    (record { number = refl; boot = refl; serial = refl })
    (same_sessions r (walled r wall) refl) h)
happened_behind routers n r wall what.Moment e c replies closed begun us told is there h =
    rw is (quiet_behind routers n r (walled r wall) begun us told there
    (record { number = refl; boot = refl; serial = refl })
    (same_sessions r (walled r wall) refl) h)

abbrev StepBehind : List RouterState → ℕ → RouterState → NodeEvent → Bool → List Unanswered
    → List Unanswered → List Answered → Type 0
StepBehind routers n r e want begun us told =
    Behind (slice_set routers n (sp.router_step want r e).state) begun us told
    (taken_what n e.what us)
    (opened n (request_at r e (sp.answer_of want (sp.router_step want r e)))
    (sp.answer_of want (sp.router_step want r e)))

did_behind : (routers : List RouterState) (n : ℕ) (r : RouterState) (e : NodeEvent)
    (begun us : List Unanswered) (told : List Answered) → slice_get routers n ≡ Some r
    → BookStands routers begun us told
    → StepBehind routers n r e false begun us told
unfolding sp.router_step
did_behind routers n r e begun us told there h = happened_behind routers n r e.wall e.what e
    (sp.closed_at (walled r e.wall) e.what) _ _ begun us told refl there h

pub memory_state : (r : RouterState) (e : NodeEvent) → (sp.router_step true r e).state ≡ r
unfolding sp.router_step
memory_state r e = refl

-- What stands after events: the ledger has the routers as they are.

pub record Booked (l : Ledger) (begun : List Unanswered) (told : List Answered) (nodes : Nodes) :
    Type 0 where
  pub same : l.routers ≡ nodes.routers
  pub book : BookStands l.routers begun l.unanswered told

-- an entry of the ledger, with what it opened
abbrev pub IsBooked : Entered → List Unanswered → List Answered → Nodes → Type 0
IsBooked x begun told nodes = Booked x.ledger begun (told ++ x.answered) nodes

passes_on : (l : Ledger) (begun : List Unanswered) (told : List Answered) (old new : Nodes)
    → new.routers ≡ old.routers → Booked l begun told old
    → IsBooked (passed l) (begun ++ []) told new
passes_on l begun told old new rs k =
    let book = subst (λ (b : List Unanswered). BookStands l.routers b l.unanswered (told ++ []))
    (sym (append-nil begun)) (subst (λ (t : List Answered). BookStands l.routers begun
    l.unanswered t) (sym (append-nil told)) k.book) in
    record { same = k.same ∙ sym rs; book = book }

by_want : (want : Bool) (l : Ledger) (n : ℕ) (r : RouterState) (e : NodeEvent)
    (begun : List Unanswered) (told : List Answered) (old new : Nodes)
    → slice_get l.routers n ≡ Some r
    → new.routers ≡ slice_set old.routers n (sp.router_step want r e).state
    → Booked l begun told old
    → IsBooked (entered l n (Some r) e (sp.answer_of want (sp.router_step want r e)))
    (begun ++ opened n (request_at r e (sp.answer_of want (sp.router_step want r e)))
    (sp.answer_of want (sp.router_step want r e))) told new
by_want true l n r e begun told old new there rs k =
    let still : slice_set old.routers n (sp.router_step true r e).state ≡ old.routers =
    ap (slice_set old.routers n) (memory_state r e) ∙ set_same old.routers n r
    (ap (λ (xs : List RouterState). slice_get xs n) (sym k.same) ∙ there) in
    passes_on l begun told old new (rs ∙ still) k
by_want false l n r e begun told old new there rs k = record {
  same = ap (λ (xs : List RouterState). slice_set xs n (sp.router_step false r e).state) k.same ∙
      sym rs;
  book = did_behind l.routers n r e begun l.unanswered told there k.book;
}

router_booked : (l : Ledger) (begun : List Unanswered) (told : List Answered) (old : Nodes) (n : ℕ)
    (e : NodeEvent) (a : NodeAnswer) (faults : ℕ) (new : Nodes) → RouterSteps old n e a faults new
    → Booked l begun told old → IsBooked (entered l n (slice_get l.routers n) e a)
    (begun ++ opened_at n (slice_get l.routers n) e a) told new
router_booked l begun told old n e a faults new h k =
    let there : slice_get l.routers n ≡ Some h.before = ap
    (λ (xs : List RouterState). slice_get xs n) k.same ∙ h.there in
    let rs : new.routers ≡ slice_set old.routers n (sp.router_step h.takes.0 h.before e).state = ap
    (λ (w : Nodes). w.routers) h.nodes ∙ ap (slice_set old.routers n) h.takes.2 in
    rw there (rw h.takes.1 (by_want h.takes.0 l n h.before e begun told old new there rs k))

pub step_booked : (l : Ledger) (begun : List Unanswered) (told : List Answered) (old : Nodes)
    (ran : Ran) (new : Nodes) → Happens old ran new → Booked l begun told old
    → IsBooked (entered_by l ran) (begun ++ opened_in_step l ran) told new
unfolding entered_by
step_booked l begun told old (Step (Router n) e a faults) new h k = router_booked l begun told old n
    e a faults new h k
step_booked l begun told old (Step (Shard n) e a faults) new h k = passes_on l begun told old new
    (ap (λ (w : Nodes). w.routers) h.nodes) k
step_booked l begun told old (Swapped (Shard n)) new h k = passes_on l begun told old new
    (ap (λ (w : Nodes). w.routers) h.nodes) k
step_booked l begun told old (Swapped (Router n)) new h k =
    let there : slice_get l.routers n ≡ Some h.before = ap
    (λ (xs : List RouterState). slice_get xs n) k.same ∙ h.there in
    let rs : new.routers ≡ slice_set old.routers n (again n h.before) = ap
    (λ (w : Nodes). w.routers) h.nodes in
    subst (λ (b : List Unanswered). Booked (swapped l n (slice_get l.routers n)) b (told ++ []) new)
    (sym (append-nil begun))
    (subst (λ (t : List Answered). Booked (swapped l n (slice_get l.routers n)) begun t new)
    (sym (append-nil told))
    (rw there (record {
      same = ap (λ (xs : List RouterState). slice_set xs n (again n h.before)) k.same ∙ sym rs;
      book = again_book l.routers n h.before begun l.unanswered told there k.book;
    })))

run_booked : (l : Ledger) (begun : List Unanswered) (told : List Answered) (old : Nodes)
    (run : List Ran) (trace : List Nodes) (new : Nodes) → IsTrace old run trace new
    → Booked l begun told old
    → Booked (ledger_behind l run) (begun ++ opened_from l run) (told ++ answered_from l run) new
run_booked l begun told old [] [] new h k =
    subst (λ (w : Nodes). Booked l (begun ++ []) (told ++ []) w) (sym h)
    (subst (λ (b : List Unanswered). Booked l b (told ++ []) old) (sym (append-nil begun))
    (subst (λ (t : List Answered). Booked l begun t old) (sym (append-nil told)) k))
run_booked l begun told old [] (nodes ∷ trace) new h k = absurd h
run_booked l begun told old (ran ∷ run) [] new h k = absurd h
run_booked l begun told old (ran ∷ run) (nodes ∷ trace) new h k =
    let x = entered_by l ran in
    let next = run_booked x.ledger (begun ++ opened_in_step l ran) (told ++ x.answered) h.1.0 run
    trace new h.1.2 (step_booked l begun told old ran h.1.0 h.1.1 k) in
    subst (λ (b : List Unanswered). Booked (ledger_behind x.ledger run) b
    (told ++ (x.answered ++ answered_from x.ledger run)) new)
    (append_assoc begun (opened_in_step l ran) (opened_from x.ledger run))
    (subst (λ (t : List Answered). Booked (ledger_behind x.ledger run)
    ((begun ++ opened_in_step l ran) ++ opened_from x.ledger run) t new)
    (append_assoc told x.answered (answered_from x.ledger run)) next)

no_lists : ListsStand [] [] []
no_lists = record {
  order = tt;
  behind = λ u v p q same less. absurd (omega (arith, p.1));
  are_open = All-nil (IsOpen []);
  apart = tt;
  newest = λ u a p q same. absurd (omega (arith, p.1));
  of = All-nil (IsOpened []);
  later = tt;
}

fresh_router_stands : (n boot : ℕ) (chunks : Map)
    → RouterStands n [] [] [] (fresh_router n boot chunks)
fresh_router_stands n boot chunks = record {
  number = refl;
  drawn = λ u p is. absurd (omega (arith, p.1));
  sessions = λ lsid s e. let no : None ≡ Some s = e in grind (arith, no);
  alone = λ lsid other s v e f same. let no : None ≡ Some s = e in grind (arith, no);
}

pub fresh_booked : (chunks : Map) (nodes : Nodes) → IsFresh chunks nodes
    → Booked (fresh_ledger nodes.routers) [] [] nodes
fresh_booked chunks nodes f = record {
  same = refl;
  book = record {
    routers_stand = λ n r at. let b = f.routers n r at in subst (RouterStands n [] [] []) (sym b.1)
        (fresh_router_stands n b.0 chunks);
    lists = no_lists;
  };
}

pub all_booked : (chunks : Map) (start : Nodes) (run : List Ran) (trace : List Nodes) (now : Nodes)
    → IsFresh chunks start → IsTrace start run trace now
    → Booked (ledger_behind (fresh_ledger start.routers) run)
    (opened_from (fresh_ledger start.routers) run)
    (answered_from (fresh_ledger start.routers) run) now
all_booked chunks start run trace now f h = run_booked (fresh_ledger start.routers) [] [] start run
    trace now h (fresh_booked chunks start f)
