-- A router's step: each request to recover that goes out is by a token that was given.
use Rattle.std.proofs.Common.{◌≡◌, inl, inr, ◌++◌, ℕ, ℤ, Bool, true, false, All, List, [], ◌∷◌, map}
use Rattle.std.proofs.Common.{Option, Some, None, Result, Ok, Err, refl, ap, if◌then◌else◌}
use Rattle.std.specs.Prelude.{flat_map}
use Rattle.std.specs.List.{range_with_len}
use Rattle.std.specs.Ordering.{is_lt}
use Rattle.std.proofs.lemmas.List.Elements.{All-nil, All-cons, All-head, All-tail, All-append}
use Rattle.std.proofs.lemmas.List.Elements.{All-map, All-weaker}
use Rattle.txn_types.specs.BySession.{BySession}
use Rattle.txn_types.specs.Letters.{Letter, sent_by, given_out}
use Rattle.txn_types.specs.declared.event.Happening.{Happening}
use Rattle.txn_types.specs.declared.event.Happening.TheVariants as what
use Rattle.txn_types.specs.declared.event.NodeEvent.{NodeEvent}
use Rattle.txn_types.specs.declared.message.Envelope.{Envelope}
use Rattle.txn_types.specs.declared.message.Msg.{Msg}
use Rattle.txn_types.specs.declared.message.Msg.TheVariants as msg
use Rattle.txn_types.specs.declared.names.Tag.{Tag}
use Rattle.txn_types.specs.declared.node.Lsid.{Lsid}
use Rattle.txn_types.specs.declared.node.NodeId.TheVariants.{Router}
use Rattle.client_cmd.specs.declared.request.Request.{Request}
use Rattle.client_cmd.specs.declared.request.Request.TheVariants as request
use Rattle.client_cmd.specs.declared.request.Txn.{Txn}
use Rattle.op_msg.specs.Asking.{wants_reply, is_legacy}
use Rattle.router_state.specs.declared.deed.Deed.{Deed}
use Rattle.router_state.specs.declared.state.Doing.{Doing}
use Rattle.router_state.specs.declared.state.Doing.TheVariants.{Begun, Sought}
use Rattle.router_state.specs.declared.state.Seeking.{Seeking}
use Rattle.router_state.specs.declared.state.Session.{Session}
use Rattle.router_state.specs.Deeds.{Move, still, each_session, in_each_session}
use Rattle.router_state.specs.State.{Post, RouterState, is_waiting}
use Rattle.router_rules.specs.Ends.{gone_from}
use Rattle.router_rules.specs.Resends as rs
use Rattle.router_rules.specs.Serving.{answered_in, ended_in}
use Rattle.router_rules.specs.Times.{timed}
use Rattle.router_plan.specs.declared.message.Unserved.{Unserved}
use Rattle.router_plan.specs.declared.message.Unserved.TheVariants as un
use Rattle.router_plan.specs.Messages.{asked_in}
use Rattle.router_plan.specs.Spelling.{letter_of}
use Rattle.router_core.specs.Step as sp
use Rattle.participant.proofs.Cases.{either}
use Rattle.world_laws.proofs.Naming.{one, each}
use Rattle.commit_laws.proofs.Stepping.{move_of, did}
use Rattle.right_laws.specs.Said.{NamesIt}
use Rattle.right_laws.proofs.Tokens.Deeds.{SeekOk, AskOk, PostOk, DoingOk, DeedOk}
use Rattle.right_laws.proofs.Tokens.Deeds.{answered_ok, ended_ok, gone_ok}
use Rattle.right_laws.proofs.Tokens.Requests.{Seeks, EntryOk, NamesAsked, serves_ok}

-- the session of a request is that of the transaction that it names, if it names one

no_txn : {X : Type 0} (txn : Txn) → None ≡ Some txn → X
no_txn txn e = cc

same_names : (a b : Txn) → Some a ≡ Some b → (b.lsid ≡ a.lsid) × (b.number ≡ a.number)
same_names a b e = let same : b ≡ a = cc in
    (ap (λ (t : Txn). t.lsid) same, ap (λ (t : Txn). t.number) same)

pub names_asked : (r : RouterState) (conn : ℕ) (q : Request) → NamesAsked (NamesIt q) r conn q
names_asked r conn (request.Ping more time) = tt
names_asked r conn (request.Hello old_name more time) = tt
names_asked r conn (request.Statement op None at after more time) = λ txn e. no_txn txn e
names_asked r conn (request.Statement op (Some own) at after more time) =
    λ txn e. same_names own txn e
names_asked r conn (request.Commit None t more time) = λ txn e. no_txn txn e
names_asked r conn (request.Commit (Some own) t more time) = λ txn e. same_names own txn e
names_asked r conn (request.Abort None more time) = λ txn e. no_txn txn e
names_asked r conn (request.Abort (Some own) more time) = λ txn e. same_names own txn e
names_asked r conn (request.EndSessions ids more time) = tt

module _ (R : Lsid → ℤ → Tag → ℕ → Type 0) where
  -- In each session.

  record EachOk (act : Lsid → Session → Deed) (entries : BySession Session) : Type 0 where
    sessions : All (EntryOk R) (each_session act entries).0
    aborts : All (PostOk R) (each_session act entries).1.aborts
    sends : All (PostOk R) (each_session act entries).1.sends

  each_ok : (act : Lsid → Session → Deed) (entries : BySession Session)
      → ((lsid : Lsid) (s : Session) → DoingOk R lsid s.number s.doing
      → DeedOk R lsid s.number (act lsid s))
      → All (EntryOk R) entries → EachOk act entries
  each_ok act [] g h =
      record { sessions = h; aborts = All-nil (PostOk R); sends = All-nil (PostOk R) }
  each_ok act (entry ∷ entries) g h =
      let k = g entry.0 entry.1 (All-head (EntryOk R) entry entries h) in
      let more = each_ok act entries g (All-tail (EntryOk R) entry entries h) in
      let d = act entry.0 entry.1 in
      let rest = each_session act entries in
      record {
        sessions = All-cons (EntryOk R) (entry.0, d.session) rest.0 k.doing more.sessions;
        aborts = All-append (PostOk R) d.given.aborts rest.1.aborts k.aborts more.aborts;
        sends = All-append (PostOk R) d.given.sends rest.1.sends k.sends more.sends;
      }

  -- what is done at the router, but for what it tells
  pub record Goes (m : Move) : Type 0 where
    pub sessions : All (EntryOk R) m.state.sessions
    pub aborts : All (PostOk R) m.given.aborts
    pub sends : All (PostOk R) m.given.sends

  in_each : (act : Lsid → Session → Deed) (r : RouterState)
      → ((lsid : Lsid) (s : Session) → DoingOk R lsid s.number s.doing
      → DeedOk R lsid s.number (act lsid s))
      → All (EntryOk R) r.sessions → Goes (in_each_session act r)
  in_each act r g h =
      let e = each_ok act r.sessions g h in
      record { sessions = e.sessions; aborts = e.aborts; sends = e.sends }

  stays_so : (r : RouterState) → All (EntryOk R) r.sessions → Goes (still r)
  stays_so r h = record { sessions = h; aborts = All-nil (PostOk R); sends = All-nil (PostOk R) }

  -- Resends.

  abbrev Un : rs.Unanswered → Type 0
  Un u = PostOk R u.1

  inserted_ok : (a : rs.Unanswered) (others : List rs.Unanswered) → Un a → All Un others
      → All Un (rs.inserted a others)
  inserted_ok a [] k h = one Un a k
  inserted_ok a (b ∷ others) k h =
      either (is_lt (rs.waiting_cmp a b)) (All Un) _ _ (All-cons Un a (b ∷ others) k h)
      (All-cons Un b (rs.inserted a others) (All-head Un b others h)
      (inserted_ok a others k (All-tail Un b others h)))

  order_ok : (us : List rs.Unanswered) → All Un us → All Un (rs.in_order us)
  order_ok [] h = h
  order_ok (u ∷ us) h = inserted_ok u (rs.in_order us) (All-head Un u us h)
      (order_ok us (All-tail Un u us h))

  sought_un : (lsid : Lsid) (number : ℤ) (k : Option Seeking) → SeekOk (R lsid number) k
      → All Un (rs.sought_post lsid number k)
  sought_un lsid number None h = All-nil Un
  sought_un lsid number (Some k) h = one Un _ h

  waiting_un : (lsid : Lsid) (number : ℤ) (doing : Doing) → DoingOk R lsid number doing
      → All Un (rs.waiting_in (lsid, record { number = number; doing = doing }))
  waiting_un lsid number (Begun t) h =
      All-map Un (λ (post : Post). (t.tag, post)) t.waiting h.waiting
  waiting_un lsid number (Sought seeking known) h = sought_un lsid number seeking h

  all_un : (sessions : BySession Session) → All (EntryOk R) sessions
      → All Un (flat_map rs.waiting_in sessions)
  all_un [] h = All-nil Un
  all_un (entry ∷ entries) h =
      All-append Un (rs.waiting_in entry) (flat_map rs.waiting_in entries)
      (waiting_un entry.0 entry.1.number entry.1.doing (All-head (EntryOk R) entry entries h))
      (all_un entries (All-tail (EntryOk R) entry entries h))

  resent_ok : (r : RouterState) → All (EntryOk R) r.sessions → All (PostOk R) (rs.resent r)
  resent_ok r h =
      All-append (PostOk R) _ (rs.unanswered r.sessions)
      (each (PostOk R) _ (range_with_len 0 r.chunks.shards) (λ x. tt))
      (All-map (PostOk R) (λ (a : rs.Unanswered). a.1)
      (rs.in_order (flat_map rs.waiting_in r.sessions))
      (order_ok (flat_map rs.waiting_in r.sessions) (all_un r.sessions h)))

  -- The step.

  silent_ok : (test : Bool) (m : Move) → Goes m → Goes (sp.unless_silent test m)
  silent_ok true m h = h
  silent_ok false m h = record { sessions = h.sessions; aborts = h.aborts; sends = h.sends }

  -- a token by which a message seeks was given
  abbrev pub AskedGiven : RouterState → Result Request Unserved → Type 0
  AskedGiven r x = (q : Request) → x ≡ Ok q → (tag : Tag) (boot : ℕ) (k : Seeks r q tag boot)
      → R k.txn.lsid k.txn.number tag boot

  abbrev pub EventGiven : RouterState → Happening → Type 0
  EventGiven r (what.Client conn bytes) = is_waiting r conn ≡ false
      → AskedGiven r (asked_in r.wall bytes)
  EventGiven r other = Unit {0}

  served_ok : (r : RouterState) (conn : ℕ) (bytes : List ℕ) (x : Result Request Unserved)
      → AskedGiven r x → All (EntryOk R) r.sessions → Goes (sp.served r conn bytes x)
  served_ok r conn bytes (Ok q) g h =
      let m = serves_ok R (NamesIt q) r (sp.asker_by conn bytes) (is_legacy bytes) q (g q refl)
      (names_asked r conn q) h in
      record { sessions = m.sessions; aborts = m.aborts; sends = m.sends }
  served_ok r conn bytes (Err (un.Told why)) g h =
      record { sessions = h; aborts = All-nil (PostOk R); sends = All-nil (PostOk R) }
  served_ok r conn bytes (Err (un.Closed number)) g h = stays_so r h
  served_ok r conn bytes (Err un.Memory) g h = stays_so r h

  client_ok : (r : RouterState) (conn : ℕ) (bytes : List ℕ) (test : Bool)
      → (test ≡ false → AskedGiven r (asked_in r.wall bytes)) → All (EntryOk R) r.sessions
      → Goes (if test then still r else sp.unless_silent (wants_reply bytes)
      (sp.served r conn bytes (asked_in r.wall bytes)))
  client_ok r conn bytes true g h = stays_so r h
  client_ok r conn bytes false g h = silent_ok (wants_reply bytes) _
      (served_ok r conn bytes (asked_in r.wall bytes) (g refl) h)

  delivered_ok : (r : RouterState) (m : Msg) → All (EntryOk R) r.sessions
      → Goes (sp.delivered r m)
  delivered_ok r (msg.Answer a) h =
      in_each (answered_in a) r (λ lsid s k. answered_ok R a lsid s.number s.doing k) h
  delivered_ok r (msg.Outcome o) h =
      in_each (ended_in o) r (λ lsid s k. ended_ok R o lsid s.number s.doing k) h
  delivered_ok r other h = stays_so r h

  pub happened_ok : (r : RouterState) (w : Happening) → EventGiven r w → All (EntryOk R) r.sessions
      → Goes (sp.happened r w)
  happened_ok r (what.Client conn bytes) g h = client_ok r conn bytes (is_waiting r conn) g h
  happened_ok r (what.Gone conn) g h =
      in_each (gone_from conn) r (λ lsid s k. gone_ok R conn lsid s k) h
  happened_ok r (what.Deliver e) g h =
      let m = delivered_ok (timed r e.time) e.msg h in
      record { sessions = m.sessions; aborts = m.aborts; sends = m.sends }
  happened_ok r what.Resend g h =
      record { sessions = h; aborts = All-nil (PostOk R); sends = resent_ok r h }
  happened_ok r what.Moment g h = stays_so r h

  -- what goes out
  pub out_ok : (r : RouterState) (e : NodeEvent) → Goes (move_of r e)
      → All (λ (x : Envelope). AskOk R x.msg) (given_out (did r e))
  unfolding sp.router_step
  out_ok r e k =
      let m = move_of r e in
      All-map (λ (x : Envelope). AskOk R x.msg) (sent_by (Router m.state.number) m.state.time)
      (map letter_of (m.given.aborts ++ m.given.sends))
      (All-map (λ (l : Letter). AskOk R l.1) letter_of (m.given.aborts ++ m.given.sends)
      (All-append (PostOk R) m.given.aborts m.given.sends k.aborts k.sends))
