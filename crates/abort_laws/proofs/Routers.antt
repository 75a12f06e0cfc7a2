-- A router's step: each Abort and each Recover that goes out has its ground, and what its sessions
-- keep of grounds stands.
use Rattle.std.proofs.Common.{◌≡◌, ◌++◌, max, ℕ, ℤ, Bool, true, false, All, List, [], ◌∷◌, map}
use Rattle.std.proofs.Common.{Option, Some, None, Result, Ok, Err, refl}
use Rattle.std.proofs.Common.{if◌then◌else◌}
use Rattle.std.specs.Prelude.{Contains, flat_map}
use Rattle.std.specs.List.{range_with_len}
use Rattle.std.specs.Ordering.{is_lt}
use Rattle.std.proofs.lemmas.List.Elements.{All-nil, All-cons, All-head, All-tail, All-append}
use Rattle.std.proofs.lemmas.List.Elements.{All-map}
use Rattle.txn_types.specs.BySession.{BySession}
use Rattle.txn_types.specs.Letters.{Letter, sent_by, given_out}
use Rattle.txn_types.specs.declared.decision.Told.TheVariants as told_as
use Rattle.txn_types.specs.declared.event.Happening.{Happening}
use Rattle.txn_types.specs.declared.event.Happening.TheVariants as what
use Rattle.txn_types.specs.declared.event.NodeEvent.{NodeEvent}
use Rattle.txn_types.specs.declared.message.Answer.{Answer}
use Rattle.txn_types.specs.declared.message.Envelope.{Envelope}
use Rattle.txn_types.specs.declared.message.Msg.{Msg}
use Rattle.txn_types.specs.declared.message.Msg.TheVariants as msg
use Rattle.txn_types.specs.declared.names.Tag.{Tag}
use Rattle.txn_types.specs.declared.node.Lsid.{Lsid}
use Rattle.txn_types.specs.declared.node.NodeId.TheVariants.{Router}
use Rattle.txn_types.specs.declared.operation.Op.{Op}
use Rattle.client_cmd.specs.declared.request.Request.{Request}
use Rattle.op_msg.specs.Asking.{wants_reply}
use Rattle.router_state.specs.declared.deed.Deed.{Deed}
use Rattle.router_state.specs.declared.state.Asker.{Asker}
use Rattle.router_state.specs.declared.state.Doing.{Doing}
use Rattle.router_state.specs.declared.state.Doing.TheVariants.{Begun, Sought}
use Rattle.router_state.specs.declared.state.Phase.TheVariants.{Asking}
use Rattle.router_state.specs.declared.state.Seeking.{Seeking}
use Rattle.router_state.specs.declared.state.Session.{Session}
use Rattle.router_state.specs.declared.state.Transaction.{Transaction}
use Rattle.router_state.specs.Deeds.{Move, still, each_session, in_each_session}
use Rattle.router_state.specs.State.{Post, RouterState, is_waiting, is_from, asker_of}
use Rattle.router_rules.specs.Ends.{gone_from}
use Rattle.router_rules.specs.Resends as rs
use Rattle.router_rules.specs.Serving.{answered_in, ended_in}
use Rattle.router_rules.specs.Times.{walled, timed}
use Rattle.router_plan.specs.declared.message.Unserved.{Unserved}
use Rattle.router_plan.specs.declared.message.Unserved.TheVariants as un
use Rattle.router_plan.specs.Messages.{asked_in}
use Rattle.router_plan.specs.Spelling.{letter_of}
use Rattle.router_core.specs.Step as sp
use Rattle.participant.proofs.Cases.{either}
use Rattle.world_laws.proofs.Naming.{one, each}
use Rattle.answer_laws.proofs.Lists.{has_first, has_more}
use Rattle.reply_laws.proofs.Lists.{Once, once_each}
use Rattle.abort_laws.proofs.Deeds.{SendOk, RefusalOk, DoingOk, SeekOk, GivenOk, DeedOk, PostOk}
use Rattle.abort_laws.proofs.Deeds.{no_given, both_ok, plains_ok, answered_ok, ended_ok, gone_ok}
use Rattle.abort_laws.proofs.Requests.{Grounds, EntryOk, MoveOk, still_ok, serves_ok}

module _ (A : Lsid → ℤ → Tag → ℕ → Type 0) (R O V : Tag → Type 0) where
  -- In each session.

  each_ok : (act : Lsid → Session → Deed) (entries : BySession Session)
      → ((lsid : Lsid) (s : Session) → Contains entries (lsid, s) → DoingOk R O V s.doing
      → DeedOk A R O V (act lsid s))
      → All (EntryOk A R O V) entries
      → All (EntryOk A R O V) (each_session act entries).0
      × GivenOk A R O V (each_session act entries).1
  each_ok act [] g h = (h, no_given A R O V [])
  each_ok act (entry ∷ entries) g h =
      let d = g entry.0 entry.1 (has_first entry entries)
      (All-head (EntryOk A R O V) entry entries h) in
      let more = each_ok act entries (λ lsid s c. g lsid s (has_more entry entries (lsid, s) c))
      (All-tail (EntryOk A R O V) entry entries h) in (
        All-cons (EntryOk A R O V) (entry.0, (act entry.0 entry.1).session)
            (each_session act entries).0 d.doing more.0,
        both_ok A R O V (act entry.0 entry.1).given (each_session act entries).1 d.given more.1,
      )

  in_each : (act : Lsid → Session → Deed) (r : RouterState)
      → ((lsid : Lsid) (s : Session) → Contains r.sessions (lsid, s) → DoingOk R O V s.doing
      → DeedOk A R O V (act lsid s))
      → All (EntryOk A R O V) r.sessions → MoveOk A R O V r.sessions (in_each_session act r)
  in_each act r g h =
      let e = each_ok act r.sessions g h in
      record { sessions = e.0; once = λ o. once_each act r.sessions o; given = e.1 }

  -- Resends.

  abbrev Un : rs.Unanswered → Type 0
  Un u = PostOk A R O V u.1

  inserted_ok : (a : rs.Unanswered) (others : List rs.Unanswered) → Un a → All Un others
      → All Un (rs.inserted a others)
  inserted_ok a [] k h = one Un a k
  inserted_ok a (b ∷ others) k h =
      either (is_lt (rs.waiting_cmp a b)) (All Un) _ _ (All-cons Un a (b ∷ others) k h)
      (All-cons Un b (rs.inserted a others) (All-head Un b others h)
      (inserted_ok a others k (All-tail Un b others h)))

  order_ok : (us : List rs.Unanswered) → All Un us → All Un (rs.in_order us)
  order_ok [] h = h
  order_ok (u ∷ us) h = inserted_ok u (rs.in_order us) (All-head Un u us h)
      (order_ok us (All-tail Un u us h))

  sought_un : (lsid : Lsid) (number : ℤ) (k : Option Seeking) → SeekOk R k
      → All Un (rs.sought_post lsid number k)
  sought_un lsid number None h = All-nil Un
  sought_un lsid number (Some k) h = one Un _ h

  waiting_un : (lsid : Lsid) (number : ℤ) (doing : Doing) → DoingOk R O V doing
      → All Un (rs.waiting_in (lsid, record { number = number; doing = doing }))
  waiting_un lsid number (Begun t) h = All-map Un (λ (post : Post). (t.tag, post)) t.waiting
      (plains_ok A R O V t.waiting h.waiting)
  waiting_un lsid number (Sought seeking known) h = sought_un lsid number seeking h

  all_un : (sessions : BySession Session) → All (EntryOk A R O V) sessions
      → All Un (flat_map rs.waiting_in sessions)
  all_un [] h = All-nil Un
  all_un (entry ∷ entries) h =
      All-append Un (rs.waiting_in entry) (flat_map rs.waiting_in entries)
      (waiting_un entry.0 entry.1.number entry.1.doing
      (All-head (EntryOk A R O V) entry entries h))
      (all_un entries (All-tail (EntryOk A R O V) entry entries h))

  resent_ok : (r : RouterState) → All (EntryOk A R O V) r.sessions
      → All (PostOk A R O V) (rs.resent r)
  resent_ok r h =
      All-append (PostOk A R O V) _ (rs.unanswered r.sessions)
      (each (PostOk A R O V) _ (range_with_len 0 r.chunks.shards) (λ x. tt))
      (All-map (PostOk A R O V) (λ (a : rs.Unanswered). a.1)
      (rs.in_order (flat_map rs.waiting_in r.sessions))
      (order_ok (flat_map rs.waiting_in r.sessions) (all_un r.sessions h)))

  -- The step.

  silent_ok : (old : BySession Session) (test : Bool) (m : Move) → MoveOk A R O V old m
      → MoveOk A R O V old (sp.unless_silent test m)
  silent_ok old true m h = h
  silent_ok old false m h = record {
    sessions = h.sessions;
    once = h.once;
    given = record { aborts = h.given.aborts; sends = h.given.sends };
  }

  -- what an event grounds at a router
  abbrev pub AskedGrounds : RouterState → ℕ → Result Request Unserved → Type 0
  AskedGrounds r conn (Ok x) = Grounds A R O r (conn, x)
  AskedGrounds r conn (Err why) = Unit {0}

  abbrev pub MsgGrounds : Msg → Type 0
  MsgGrounds (msg.Answer a) = (lsid : Lsid) (number : ℤ) (tag : Tag) → O tag
      → (a.tag ≡ tag → RefusalOk (V tag) a.outcome) × (V tag → A lsid number tag 5)
  MsgGrounds (msg.Outcome o) = (lsid : Lsid) (number : ℤ) (tag : Tag) → O tag → o.tag ≡ tag
      → (o.told ≡ told_as.Released → ⊥) → A lsid number tag 5
  MsgGrounds other = Unit {0}

  abbrev pub GoneGrounds : RouterState → ℕ → Type 0
  GoneGrounds r conn = (lsid : Lsid) (s : Session) (t : Transaction) (asker : Asker) (op : Op)
      (answers : List (ℕ × Answer)) → Contains r.sessions (lsid, s) → DoingOk R O V s.doing
      → s.doing ≡ Begun t
      → t.phase ≡ Asking asker op answers → is_from conn (asker_of s.doing) ≡ true
      → A lsid s.number t.tag 4

  abbrev pub EventGrounds : RouterState → ℕ → Happening → Type 0
  EventGrounds r wall (what.Client conn bytes) = is_waiting r conn ≡ false
      → AskedGrounds r conn (asked_in wall bytes)
  EventGrounds r wall (what.Gone conn) = GoneGrounds r conn
  EventGrounds r wall (what.Deliver e) = MsgGrounds e.msg
  EventGrounds r wall what.Resend = Unit {0}
  EventGrounds r wall what.Moment = Unit {0}

  served_ok : (r : RouterState) (conn : ℕ) (bytes : List ℕ) (x : Result Request Unserved)
      → AskedGrounds r conn x → All (EntryOk A R O V) r.sessions
      → MoveOk A R O V r.sessions (sp.served r conn bytes x)
  served_ok r conn bytes (Ok x) g h = serves_ok A R O V r (sp.asker_by conn bytes) _ x g h
  served_ok r conn bytes (Err (un.Told why)) g h = record {
    sessions = h;
    once = λ o. o;
    given = both_ok A R O V _ _ (no_given A R O V []) (no_given A R O V _);
  }
  served_ok r conn bytes (Err (un.Closed number)) g h = still_ok A R O V r h
  served_ok r conn bytes (Err un.Memory) g h = still_ok A R O V r h

  client_ok : (r : RouterState) (conn : ℕ) (bytes : List ℕ) (test : Bool)
      → (test ≡ false → AskedGrounds r conn (asked_in r.wall bytes))
      → All (EntryOk A R O V) r.sessions
      → MoveOk A R O V r.sessions (if test then still r else sp.unless_silent (wants_reply bytes)
      (sp.served r conn bytes (asked_in r.wall bytes)))
  client_ok r conn bytes true g h = still_ok A R O V r h
  client_ok r conn bytes false g h = silent_ok r.sessions (wants_reply bytes) _
      (served_ok r conn bytes (asked_in r.wall bytes) (g refl) h)

  delivered_ok : (r : RouterState) (m : Msg) → MsgGrounds m → All (EntryOk A R O V) r.sessions
      → MoveOk A R O V r.sessions (sp.delivered r m)
  delivered_ok r (msg.Answer a) g h = in_each (answered_in a) r
      (λ lsid s c k. answered_ok A R O V a lsid s.number s.doing k
      (λ t own. g lsid s.number t.tag own)) h
  delivered_ok r (msg.Outcome o) g h = in_each (ended_in o) r
      (λ lsid s c k. ended_ok A R O V o lsid s.number s.doing k
      (λ t own. g lsid s.number t.tag own)) h
  delivered_ok r other g h = still_ok A R O V r h

  happened_ok : (r : RouterState) (w : Happening) → EventGrounds r r.wall w
      → All (EntryOk A R O V) r.sessions → MoveOk A R O V r.sessions (sp.happened r w)
  happened_ok r (what.Client conn bytes) g h = client_ok r conn bytes (is_waiting r conn) g h
  happened_ok r (what.Gone conn) g h = in_each (gone_from conn) r
      (λ lsid s c k. gone_ok A R O V conn lsid s k
      (λ t asker op answers a b f. g lsid s t asker op answers c k a b f)) h
  happened_ok r (what.Deliver e) g h =
      let m = delivered_ok (timed r e.time) e.msg g h in
      record { sessions = m.sessions; once = m.once; given = m.given }
  happened_ok r what.Resend g h = record {
    sessions = h;
    once = λ o. o;
    given = record { aborts = All-nil (PostOk A R O V); sends = resent_ok r h };
  }
  happened_ok r what.Moment g h = still_ok A R O V r h

  -- what a step leaves and gives out
  pub record StepOk (r t : RouterState) (sent : List Envelope) : Type 0 where
    pub sessions : All (EntryOk A R O V) t.sessions
    pub once : Once r.sessions → Once t.sessions
    pub out : All (λ (e : Envelope). SendOk A R e.msg) sent

  pub step_ok : (want : Bool) (r : RouterState) (e : NodeEvent)
      → (want ≡ false → EventGrounds r (max r.wall e.wall) e.what)
      → All (EntryOk A R O V) r.sessions
      → StepOk r (sp.router_step want r e).state
      (given_out (sp.answer_of want (sp.router_step want r e)))
  unfolding sp.router_step
  step_ok true r e g h = record {
    sessions = h;
    once = λ o. o;
    out = All-nil (λ (e : Envelope). SendOk A R e.msg);
  }
  step_ok false r e g h =
      let m = sp.happened (walled r e.wall) e.what in
      let k = happened_ok (walled r e.wall) e.what (by e.what (g refl)) h in
      record {
        sessions = k.sessions;
        once = k.once;
        out = All-map (λ (e : Envelope). SendOk A R e.msg) (sent_by (Router m.state.number)
            m.state.time) (map letter_of (m.given.aborts ++ m.given.sends))
            (All-map (λ (l : Letter). SendOk A R l.1) letter_of
            (m.given.aborts ++ m.given.sends)
            (All-append (PostOk A R O V) m.given.aborts m.given.sends k.given.aborts
            k.given.sends));
      }
    where
      asked : (x : Result Request Unserved) (conn : ℕ) → AskedGrounds r conn x
          → AskedGrounds (walled r e.wall) conn x
      asked (Ok x) conn k = record {
        client = k.client;
        session = k.session;
        token = k.token;
        larger = k.larger;
        parts = k.parts;
        fresh = k.fresh;
      }
      asked (Err why) conn k = tt

      by : (w : Happening) → EventGrounds r (max r.wall e.wall) w
          → EventGrounds (walled r e.wall) (max r.wall e.wall) w
      by (what.Client conn bytes) k = λ free. asked (asked_in (max r.wall e.wall) bytes) conn
          (k free)
      by (what.Gone conn) k = k
      by (what.Deliver sent) k = k
      by what.Resend k = tt
      by what.Moment k = tt
