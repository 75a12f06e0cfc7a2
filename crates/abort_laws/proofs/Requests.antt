-- What a router does at a request: each Abort and each Recover that goes out has its ground in what
-- the request asks.
use Rattle.std.proofs.Common.{◌≡◌, ◌<ℤ◌, ℕ, ℤ, Bool, false, All, List, [], ◌∷◌}
use Rattle.std.proofs.Common.{int_eq, int_lt, Option, Some, None, refl, sym, ap}
use Rattle.std.proofs.Common.{subst, ◌∙◌, is_none, not, ◌&&◌}
use Rattle.std.specs.Prelude.{Contains}
use Rattle.std.proofs.lemmas.List.Elements.{All-nil}
use Rattle.txn_types.specs.BySession.{BySession}
use Rattle.txn_types.specs.declared.decision.Token.{Token}
use Rattle.txn_types.specs.declared.decision.Token.TheVariants as token
use Rattle.txn_types.specs.declared.names.Tag.{Tag}
use Rattle.txn_types.specs.declared.node.Lsid.{Lsid}
use Rattle.txn_types.specs.declared.operation.Op.{Op}
use Rattle.client_cmd.specs.declared.request.Request.{Request}
use Rattle.client_cmd.specs.declared.request.Request.TheVariants as request
use Rattle.client_cmd.specs.declared.request.Txn.{Txn}
use Rattle.client_reply.specs.declared.reply.Refusal.TheVariants as refusal
use Rattle.client_reply.specs.declared.reply.Reply.{Reply}
use Rattle.chunk_map.specs.Parts.{shards_of}
use Rattle.router_state.specs.declared.deed.Deed.{Deed}
use Rattle.router_state.specs.declared.state.Asker.{Asker}
use Rattle.router_state.specs.declared.state.Doing.TheVariants.{Begun}
use Rattle.router_state.specs.declared.state.Seeking.{Seeking}
use Rattle.router_state.specs.declared.state.Session.{Session}
use Rattle.router_state.specs.declared.state.Transaction.{Transaction}
use Rattle.router_state.specs.Deeds.{Move, still, answers, aborting, done_in}
use Rattle.router_state.specs.State.{RouterState, session_of}
use Rattle.router_rules.specs.Ends as en
use Rattle.router_rules.specs.Statements as st
use Rattle.router_rules.specs.Times.{met}
use Rattle.router_rules.specs.Tokens as tk
use Rattle.router_plan.specs.Refusals.{begun_in, statement_refusal, commit_refusal, abort_refusal}
use Rattle.router_plan.specs.Refusals.{too_old, busy, started, no_transaction, after_commit, is_so}
use Rattle.router_plan.specs.Plans.{told_also}
use Rattle.router_plan.specs.Refusals.{too_long, too_many, spent, many_shards, known_aborted}
use Rattle.router_core.specs.Requests as rq
use Rattle.cluster_core.specs.Causes.{AbortsIt, EndsIt, SeeksIt, IsLarger}
use Rattle.cluster_core.specs.Routers.{Asked}
use Rattle.world_laws.proofs.Beginning.{four_none, so_not, not_lower, lower_if, start_above}
use Rattle.world_laws.proofs.Beginning.{is_begun}
use Rattle.answer_laws.proofs.Lists.{has_first, has_more}
use Rattle.known_laws.proofs.Sessions.{entry_named, entries_put}
use Rattle.reply_laws.proofs.Lists.{Once, once_put}
use Rattle.abort_laws.proofs.Deeds.{DoingOk, TxnOk, GivenOk, DeedOk, PostOk, no_given}
use Rattle.abort_laws.proofs.Deeds.{both_ok, commit_asked_ok, asks_ok, client_aborts_ok, session_ok}
use Rattle.abort_laws.proofs.Deeds.{seeks_ok, leaves_ok}

-- a statement that isn't refused, of a transaction that its session hasn't begun, is above the
-- session's number
fresh_if : (s : RouterState) (conn : ℕ) (session : Option Session) (txn : Txn) (op : Op)
    → statement_refusal s conn session txn op ≡ None → begun_in session txn.number ≡ None
    → (old : Session) → session ≡ Some old → old.number <ℤ txn.number
unfolding statement_refusal
fresh_if s conn session txn op h none old is =
    let n = txn.number in
    let f = four_none (too_old session n) (busy session conn) (started session txn) (no_transaction
    session n txn.start false) (after_commit session n ∷ too_long session n ∷ too_many s session
    ∷ spent s session n ∷ many_shards s.chunks op ∷ known_aborted session n ∷ []) h in
    let lower : int_lt n old.number ≡ false =
    not_lower n old (ap (λ (o : Option Session). too_old o n) (sym is) ∙ f.0) in
    let same : (txn.start && int_eq old.number n) ≡ false =
    ap (λ (o : Option Session). txn.start && is_so (λ (s : Session). int_eq s.number n) o) (sym is)
    ∙ so_not (txn.start && is_so (λ (s : Session). int_eq s.number n) session)
    (refusal.Started n) f.1 in
    let starts : not txn.start ≡ false =
    ap (λ (o : Option Transaction). is_none o && not txn.start) (sym none) ∙ so_not (is_none
    (begun_in session n) && not txn.start) (refusal.NoTransaction n false) f.2 in
    start_above old txn.number txn.start lower same starts

-- what a statement asks
abbrev pub op_in : Request → Option Op
op_in (request.Statement o txn at after more time) = Some o
op_in other = None

-- What a request grounds.
pub record Grounds (A : Lsid → ℤ → Tag → ℕ → Type 0) (R O : Tag → Type 0) (r : RouterState)
    (asked : Asked) : Type 0 where
  pub client : (lsid : Lsid) (number : ℤ) (tag : Tag) → AbortsIt lsid number r asked → O tag
      → A lsid number tag 1
  pub session : (lsid : Lsid) (number : ℤ) (tag : Tag) → EndsIt lsid r asked → O tag
      → A lsid number tag 2
  pub token : (tag : Tag) → SeeksIt tag r asked → R tag
  pub larger : (lsid : Lsid) (number : ℤ) (tag : Tag) → IsLarger lsid number r asked → O tag
      → A lsid number tag 6
  pub parts : (op : Op) → op_in asked.1 ≡ Some op → shards_of r.chunks op ≡ [] → ⊥
  pub fresh : O (rq.next_tag r)

module _ (A : Lsid → ℤ → Tag → ℕ → Type 0) (R O V : Tag → Type 0) where
  abbrev pub EntryOk : Lsid × Session → Type 0
  EntryOk entry = DoingOk R O V entry.1.doing

  pub record MoveOk (old : BySession Session) (m : Move) : Type 0 where
    pub sessions : All EntryOk m.state.sessions
    pub once : Once old → Once m.state.sessions
    pub given : GivenOk A R O V m.given

  pub doing_of : (r : RouterState) (lsid : Lsid) (s : Session) → All EntryOk r.sessions
      → session_of r lsid ≡ Some s → DoingOk R O V s.doing
  doing_of r lsid s h is = entry_named EntryOk lsid r.sessions h s is

  own_of : (s : Session) (t : Transaction) → DoingOk R O V s.doing → s.doing ≡ Begun t
      → TxnOk O V t
  own_of s t h is = subst (DoingOk R O V) is h

  done : (r : RouterState) (lsid : Lsid) (d : Deed) → All EntryOk r.sessions → DeedOk A R O V d
      → MoveOk r.sessions (done_in r lsid d)
  done r lsid d h k = record {
    sessions = entries_put EntryOk lsid d.session r.sessions k.doing h;
    once = λ o. once_put lsid d.session r.sessions o;
    given = k.given;
  }

  pub still_ok : (r : RouterState) → All EntryOk r.sessions → MoveOk r.sessions (still r)
  still_ok r h = record { sessions = h; once = λ o. o; given = no_given A R O V [] }

  replied : (r : RouterState) (asker : Asker) (reply : Reply) → All EntryOk r.sessions
      → MoveOk r.sessions (answers r asker reply)
  replied r asker reply h = record { sessions = h; once = λ o. o; given = no_given A R O V _ }

  begun_txn : (r : RouterState) (lsid : Lsid) (number : ℤ) (t : Transaction)
      → begun_in (session_of r lsid) number ≡ Some t → All EntryOk r.sessions → TxnOk O V t
  begun_txn r lsid number t e h =
      let b = is_begun (session_of r lsid) number t e in
      own_of b.there t (doing_of r lsid b.there h b.is) b.doing

  -- Statements.

  begins_ok : (r : RouterState) (lsid : Lsid) (s : Option Session) (number : ℤ) (asker : Asker)
      (op : Op) (read_at : ℕ) → session_of r lsid ≡ s → O (rq.next_tag r)
      → (shards_of r.chunks op ≡ [] → ⊥)
      → ((old : Session) → s ≡ Some old → (tag : Tag) → O tag → A lsid old.number tag 6)
      → All EntryOk r.sessions → MoveOk r.sessions (rq.begins_at r lsid s number asker op read_at)
  begins_ok r lsid s number asker op read_at is o some a h =
      let t = rq.begun_at r read_at in
      let k = asks_ok A R O V r.chunks lsid number asker op t o some in
      let deed = st.asks r.chunks lsid number asker op t in
      let m = done (rq.drawn r read_at) lsid (rq.behind_left lsid s deed) h (record {
        doing = k.doing;
        given = both_ok A R O V (aborting (rq.left_of lsid s)) deed.given
            (record { aborts = left s is a; sends = All-nil (PostOk A R O V) }) k.given;
      }) in
      record { sessions = m.sessions; once = m.once; given = m.given }
    where
      left : (x : Option Session) → session_of r lsid ≡ x
          → ((old : Session) → x ≡ Some old → (tag : Tag) → O tag → A lsid old.number tag 6)
          → All (PostOk A R O V) (rq.left_of lsid x)
      left None e g = All-nil (PostOk A R O V)
      left (Some old) e g = leaves_ok A R O V lsid old
          (λ t doing. g old refl t.tag (own_of old t (doing_of r lsid old h e) doing).own)

  states_ok : (r : RouterState) (asker : Asker) (txn : Txn) (op : Op) (at : Option ℕ)
      (refused : Option Reply) (own : Option Transaction)
      → statement_refusal r asker.conn (session_of r txn.lsid) txn op ≡ refused
      → begun_in (session_of r txn.lsid) txn.number ≡ own → O (rq.next_tag r)
      → (shards_of r.chunks op ≡ [] → ⊥)
      → ((number : ℤ) → number <ℤ txn.number → (tag : Tag) → O tag → A txn.lsid number tag 6)
      → All EntryOk r.sessions
      → MoveOk r.sessions (rq.unless_refused r asker refused (rq.states r txn.lsid
      (session_of r txn.lsid) txn.number asker op at own))
  states_ok r asker txn op at (Some why) own a b o some g h = replied r asker why h
  states_ok r asker txn op at None (Some t) a b o some g h =
      done r txn.lsid (st.asks r.chunks txn.lsid txn.number asker op t) h
      (asks_ok A R O V r.chunks txn.lsid txn.number asker op t
      (begun_txn r txn.lsid txn.number t b h).own some)
  states_ok r asker txn op at None None a b o some g h =
      begins_ok r txn.lsid (session_of r txn.lsid) txn.number asker op _ refl o some
      (λ old is tag own. g old.number
      (fresh_if r asker.conn (session_of r txn.lsid) txn op a b old is) tag own) h

  statement_ok : (r : RouterState) (asker : Asker) (txn : Option Txn) (op : Op)
      (at after time : Option ℕ) (more : Bool)
      → Grounds A R O r (asker.conn, request.Statement op txn at after more time)
      → All EntryOk r.sessions → MoveOk r.sessions (rq.statement r asker txn op at)
  statement_ok r asker None op at after time more g h =
      let txn = rq.by_itself r asker.conn in
      states_ok r asker txn op at (statement_refusal r asker.conn (session_of r txn.lsid) txn op)
      (begun_in (session_of r txn.lsid) txn.number) refl refl g.fresh (g.parts op refl)
      (λ number less tag own. g.larger txn.lsid number tag refl own) h
  statement_ok r asker (Some txn) op at after time more g h =
      states_ok r asker txn op at (statement_refusal r asker.conn (session_of r txn.lsid) txn op)
      (begun_in (session_of r txn.lsid) txn.number) refl refl g.fresh (g.parts op refl)
      (λ number less tag own. g.larger txn.lsid number tag (refl, less) own) h

  -- Commits.

  sought_ok : (r : RouterState) (asker : Asker) (txn : Txn) (t : Option Token) (more : Bool)
      (time : Option ℕ) → Grounds A R O r (asker.conn, request.Commit (Some txn) t more time)
      → All EntryOk r.sessions
      → MoveOk r.sessions (rq.commit_sought r asker txn (session_of r txn.lsid) t)
  sought_ok r asker txn None more time g h = still_ok r h
  sought_ok r asker txn (Some (token.Early tag)) more time g h = still_ok r h
  sought_ok r asker txn (Some (token.Placed tag shard boot)) more time g h =
      let k : Seeking = record { asker = Some asker; tag = tag; shard = shard; boot = boot } in
      done r txn.lsid (tk.seeks_by txn.lsid txn.number asker k (session_of r txn.lsid)) h
      (seeks_ok A R O V txn.lsid txn.number asker k (session_of r txn.lsid)
      (g.token tag (token.Placed tag shard boot, refl, refl))
      (λ s is. doing_of r txn.lsid s h is)
      (λ s is less t doing. g.larger txn.lsid s.number t.tag
      (refl, lower_if s.number txn.number less)
      (own_of s t (doing_of r txn.lsid s h is) doing).own))
  sought_ok r asker txn (Some token.Other) more time g h = still_ok r h

  commits_ok : (r : RouterState) (asker : Asker) (txn : Txn) (t : Option Token) (more : Bool)
      (time : Option ℕ) (refused : Option Reply) (own : Option Transaction)
      → begun_in (session_of r txn.lsid) txn.number ≡ own
      → Grounds A R O r (asker.conn, request.Commit (Some txn) t more time)
      → All EntryOk r.sessions
      → MoveOk r.sessions (rq.unless_refused r asker refused (rq.commit_by r asker txn
      (session_of r txn.lsid) t own))
  commits_ok r asker txn t more time (Some why) own b g h = replied r asker why h
  commits_ok r asker txn t more time None None b g h = sought_ok r asker txn t more time g h
  commits_ok r asker txn t more time None (Some own) b g h =
      done r txn.lsid _ h (commit_asked_ok A R O V txn.lsid txn.number asker own
      (begun_txn r txn.lsid txn.number own b h))

  commit_ok : (r : RouterState) (asker : Asker) (txn : Option Txn) (t : Option Token) (more : Bool)
      (time : Option ℕ) → Grounds A R O r (asker.conn, request.Commit txn t more time)
      → All EntryOk r.sessions → MoveOk r.sessions (rq.commit r asker txn t)
  commit_ok r asker None t more time g h = still_ok r h
  commit_ok r asker (Some txn) t more time g h = commits_ok r asker txn t more time
      (commit_refusal r asker.conn (session_of r txn.lsid) txn t)
      (begun_in (session_of r txn.lsid) txn.number) refl g h

  -- Aborts.

  aborts_ok : (r : RouterState) (asker : Asker) (txn : Txn) (more : Bool) (time : Option ℕ)
      (refused : Option Reply) (own : Option Transaction)
      → begun_in (session_of r txn.lsid) txn.number ≡ own
      → Grounds A R O r (asker.conn, request.Abort (Some txn) more time)
      → All EntryOk r.sessions
      → MoveOk r.sessions (rq.unless_refused r asker refused (rq.abort_by r asker txn own))
  aborts_ok r asker txn more time (Some why) own b g h = replied r asker why h
  aborts_ok r asker txn more time None None b g h = still_ok r h
  aborts_ok r asker txn more time None (Some own) b g h =
      let t = begun_txn r txn.lsid txn.number own b h in
      done r txn.lsid _ h (client_aborts_ok A R O V txn.lsid txn.number asker own t
      (g.client txn.lsid txn.number own.tag (txn, more, time, refl, refl, refl) t.own))

  abort_ok : (r : RouterState) (asker : Asker) (txn : Option Txn) (more : Bool) (time : Option ℕ)
      → Grounds A R O r (asker.conn, request.Abort txn more time)
      → All EntryOk r.sessions → MoveOk r.sessions (rq.abort r asker txn)
  abort_ok r asker None more time g h = still_ok r h
  abort_ok r asker (Some txn) more time g h = aborts_ok r asker txn more time
      (abort_refusal r asker.conn (session_of r txn.lsid) txn)
      (begun_in (session_of r txn.lsid) txn.number) refl g h

  -- Ends of sessions.

  end_ok : (r : RouterState) (lsid : Lsid) (o : Option Session) → session_of r lsid ≡ o
      → ((number : ℤ) (tag : Tag) → O tag → A lsid number tag 2)
      → All EntryOk r.sessions → MoveOk r.sessions (en.end_session r lsid o)
  end_ok r lsid None e g h = still_ok r h
  end_ok r lsid (Some s) e g h =
      let m = done r lsid (en.ends_session lsid s) h (session_ok A R O V lsid s
      (doing_of r lsid s h e) (λ t own. g s.number t.tag own)) in
      record { sessions = m.sessions; once = m.once; given = m.given }

  ends_ok : (r : RouterState) (lsids : List Lsid)
      → ((lsid : Lsid) → Contains lsids lsid → (number : ℤ) (tag : Tag) → O tag
      → A lsid number tag 2)
      → All EntryOk r.sessions → MoveOk r.sessions (en.end_sessions r lsids)
  ends_ok r [] g h = still_ok r h
  ends_ok r (lsid ∷ lsids) g h =
      let one = end_ok r lsid (session_of r lsid) refl (g lsid (has_first lsid lsids)) h in
      let next = en.end_session r lsid (session_of r lsid) in
      let more = ends_ok next.state lsids (λ other c. g other (has_more lsid lsids other c))
      one.sessions in
      record {
        sessions = more.sessions;
        once = λ o. more.once (one.once o);
        given = both_ok A R O V next.given (en.end_sessions next.state lsids).given one.given
            more.given;
      }

  -- Any request.

  also : (r : RouterState) (m : Move) (legacy : Bool) (asker : Asker) (reply : Reply)
      → MoveOk r.sessions m → MoveOk r.sessions (told_also m asker legacy reply)
  also r m legacy asker reply k = record {
    sessions = k.sessions;
    once = k.once;
    given = both_ok A R O V m.given _ k.given (no_given A R O V _);
  }

  pub serves_ok : (r : RouterState) (asker : Asker) (legacy : Bool) (x : Request)
      → Grounds A R O r (asker.conn, x) → All EntryOk r.sessions
      → MoveOk r.sessions (rq.serves r asker legacy x)
  unfolding rq.serves
  serves_ok r asker legacy (request.Ping more time) g h =
      also r (still (met r time None)) legacy asker _ (still_ok (met r time None) h)
  serves_ok r asker legacy (request.Hello old_name more time) g h =
      also r (still (met r time None)) legacy asker _ (still_ok (met r time None) h)
  serves_ok r asker legacy (request.Statement op txn at after more time) g h =
      statement_ok (met r time after) asker txn op at after time more
      (record {
        client = g.client;
        session = g.session;
        token = g.token;
        larger = g.larger;
        parts = g.parts;
        fresh = g.fresh;
      }) h
  serves_ok r asker legacy (request.Commit txn t more time) g h =
      commit_ok (met r time None) asker txn t more time (record {
        client = g.client;
        session = g.session;
        token = g.token;
        larger = g.larger;
        parts = g.parts;
        fresh = g.fresh;
      }) h
  serves_ok r asker legacy (request.Abort txn more time) g h =
      abort_ok (met r time None) asker txn more time (record {
        client = g.client;
        session = g.session;
        token = g.token;
        larger = g.larger;
        parts = g.parts;
        fresh = g.fresh;
      }) h
  serves_ok r asker legacy (request.EndSessions ids more time) g h =
      also r (en.end_sessions (met r time None) ids) legacy asker _
      (ends_ok (met r time None) ids (λ lsid c number tag own. g.session lsid number tag
      (ids, more, time, refl, c) own) h)
