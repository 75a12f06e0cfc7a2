-- What a router does at a request: a token that it seeks by was given, and one that it tells is of
-- the session that the request names.
use Rattle.std.proofs.Common.{◌≡◌, ◌⊎◌, inl, inr, ℕ, ℤ, Bool, true, false, All, List, [], ◌∷◌, ◌++◌}
use Rattle.std.proofs.Common.{int_lt, Option, Some, None, refl, sym, ap, subst, ◌∙◌}
use Rattle.std.proofs.Common.{is_none, not, ◌&&◌}
use Rattle.std.specs.Prelude.{Contains}
use Rattle.std.proofs.lemmas.List.Elements.{All-nil, All-append, All-weaker}
use Rattle.txn_types.specs.BySession.{BySession, with_entry}
use Rattle.txn_types.specs.declared.decision.Token.{Token}
use Rattle.txn_types.specs.declared.decision.Token.TheVariants as token
use Rattle.txn_types.specs.declared.names.Tag.{Tag}
use Rattle.txn_types.specs.declared.node.Lsid.{Lsid}
use Rattle.txn_types.specs.declared.operation.Op.{Op}
use Rattle.txn_semantics.specs.Touched.{first_some}
use Rattle.client_cmd.specs.declared.request.Request.{Request}
use Rattle.client_cmd.specs.declared.request.Request.TheVariants as request
use Rattle.client_cmd.specs.declared.request.Txn.{Txn}
use Rattle.client_reply.specs.Replies.{token_in}
use Rattle.client_reply.specs.declared.reply.Refusal.{Refusal}
use Rattle.client_reply.specs.declared.reply.Reply.{Reply}
use Rattle.client_reply.specs.declared.reply.Reply.TheVariants as reply
use Rattle.router_state.specs.declared.deed.Deed.{Deed}
use Rattle.router_state.specs.declared.deed.Sent.{Sent}
use Rattle.router_state.specs.declared.state.Asker.{Asker}
use Rattle.router_state.specs.declared.state.Doing.{Doing}
use Rattle.router_state.specs.declared.state.Doing.TheVariants.{Begun, Sought}
use Rattle.router_state.specs.declared.state.Seeking.{Seeking}
use Rattle.router_state.specs.declared.state.Session.{Session}
use Rattle.router_state.specs.declared.state.Transaction.{Transaction}
use Rattle.router_state.specs.Deeds.{Move, still, answers, done_in, told}
use Rattle.router_state.specs.State.{RouterState, session_of, asker_of, commit_sent}
use Rattle.router_rules.specs.Ends as en
use Rattle.router_rules.specs.Statements as st
use Rattle.router_rules.specs.Times.{met}
use Rattle.router_rules.specs.Tokens as tk
use Rattle.router_plan.specs.Refusals as rf
use Rattle.router_plan.specs.Refusals.{begun_in, statement_refusal, commit_refusal, abort_refusal}
use Rattle.router_plan.specs.Refusals.{too_old}
use Rattle.router_plan.specs.Plans.{told_also}
use Rattle.router_core.specs.Requests as rq
use Rattle.participant.proofs.Cases.{either}
use Rattle.shard_image.proofs.Sessions.{entry_there}
use Rattle.world_laws.proofs.Beginning.{first_none, is_begun, not_lower}
use Rattle.world_laws.proofs.Naming.{one}
use Rattle.told_laws.proofs.Lists.{contained}
use Rattle.known_laws.proofs.Sessions.{entry_named, entries_put}
use Rattle.right_laws.proofs.Tokens.Deeds.{PostOk, TxnOk, DoingOk, SaysOk}
use Rattle.right_laws.proofs.Tokens.Deeds.{DeedOk, commit_asked_ok, asks_ok, client_aborts_ok}
use Rattle.right_laws.proofs.Tokens.Deeds.{session_ok}
use Rattle.right_laws.proofs.Tokens.Deeds.{seeks_ok, leaves_ok}

-- A refusal has no token.

abbrev Bare : Option Reply → Type 0
Bare None = Unit {0}
Bare (Some r) = token_in r ≡ None

abbrev AllBare : List (Option Reply) → Type 0
AllBare [] = Unit {0}
AllBare (o ∷ os) = Bare o × AllBare os

first_bare : (os : List (Option Reply)) → AllBare os → Bare (first_some os)
first_bare [] h = tt
first_bare (None ∷ os) h = first_bare os h.1
first_bare (Some r ∷ os) h = h.0

so_bare : (b : Bool) (why : Refusal) → Bare (rf.where_so b why)
so_bare true why = refl
so_bare false why = tt

old_bare : (session : Option Session) (number : ℤ) → Bare (too_old session number)
old_bare None number = tt
old_bare (Some s) number =
    either (int_lt number s.number) Bare (Some (reply.TooOld number s.number)) None refl tt

statement_bare : (r : RouterState) (conn : ℕ) (session : Option Session) (txn : Txn) (op : Op)
    → Bare (statement_refusal r conn session txn op)
unfolding statement_refusal
statement_bare r conn session txn op =
    let n = txn.number in
    first_bare (too_old session n ∷ rf.busy session conn ∷ rf.started session txn
    ∷ rf.no_transaction session n txn.start false ∷ rf.after_commit session n
    ∷ rf.too_long session n ∷ rf.too_many r session ∷ rf.spent r session n
    ∷ rf.many_shards r.chunks op ∷ rf.known_aborted session n ∷ []) (
      old_bare session n,
      (
        so_bare _ _,
        (
          so_bare _ _,
          (
            so_bare _ _,
            (
              so_bare _ _,
              (
                so_bare _ _,
                (
                  so_bare _ _,
                  (
                    so_bare _ _,
                    (
                      so_bare _ _,
                      (
                        so_bare _ _,
                        tt,
                      ),
                    ),
                  ),
                ),
              ),
            ),
          ),
        ),
      ),
    )

commit_bare : (r : RouterState) (conn : ℕ) (session : Option Session) (txn : Txn)
    (t : Option Token) → Bare (commit_refusal r conn session txn t)
unfolding commit_refusal
commit_bare r conn session txn t =
    let n = txn.number in
    first_bare (too_old session n ∷ rf.busy session conn ∷ rf.started session txn
    ∷ rf.no_transaction session n _ true ∷ rf.no_token_shard session n r.chunks.shards t
    ∷ rf.too_many r session ∷ rf.known_aborted session n ∷ []) (
      old_bare session n,
      (so_bare _ _, (so_bare _ _, (so_bare _ _, (so_bare _ _, (so_bare _ _, (so_bare _ _, tt)))))),
    )

abort_bare : (r : RouterState) (conn : ℕ) (session : Option Session) (txn : Txn)
    → Bare (abort_refusal r conn session txn)
unfolding abort_refusal
abort_bare r conn session txn =
    let n = txn.number in
    first_bare (too_old session n ∷ rf.busy session conn ∷ rf.started session txn
    ∷ rf.no_transaction session n false false ∷ rf.after_commit session n ∷ [])
    (old_bare session n, (so_bare _ _, (so_bare _ _, (so_bare _ _, (so_bare _ _, tt)))))

commit_older : (r : RouterState) (conn : ℕ) (session : Option Session) (txn : Txn)
    (t : Option Token) → commit_refusal r conn session txn t ≡ None
    → too_old session txn.number ≡ None
unfolding commit_refusal
commit_older r conn session txn t e = (first_none (too_old session txn.number) _ e).0

-- Which token a request seeks by: its router hasn't begun the transaction, nor a newer one of the
-- session.

pub record Seeks (r : RouterState) (x : Request) (tag : Tag) (boot : ℕ) : Type 0 where
  pub txn : Txn
  pub shard : ℕ
  pub more : Bool
  pub time : Option ℕ
  pub is : x ≡ request.Commit (Some txn) (Some (token.Placed tag shard boot)) more time
  pub none : begun_in (session_of r txn.lsid) txn.number ≡ None
  pub older : too_old (session_of r txn.lsid) txn.number ≡ None

abbrev pub EntryOk : (Lsid → ℤ → Tag → ℕ → Type 0) → Lsid × Session → Type 0
EntryOk R entry = DoingOk R entry.0 entry.1.number entry.1.doing

-- `It` says of a session and a number that the request names them.

abbrev pub Names : (Lsid → ℤ → Type 0) → RouterState → ℕ → Option Txn → Type 0
Names It r conn None = It (rq.by_itself r conn).lsid (rq.by_itself r conn).number
Names It r conn (Some txn) = It txn.lsid txn.number

abbrev pub NamesAsked : (Lsid → ℤ → Type 0) → RouterState → ℕ → Request → Type 0
NamesAsked It r conn (request.Statement op txn at after more time) =
    Names It (met r time after) conn txn
NamesAsked It r conn (request.Commit txn t more time) = Names It (met r time None) conn txn
NamesAsked It r conn (request.Abort txn more time) = Names It (met r time None) conn txn
NamesAsked It r conn other = Unit {0}

module _ (R : Lsid → ℤ → Tag → ℕ → Type 0) (It : Lsid → ℤ → Type 0) where
  abbrev Entries : BySession Session → Type 0
  Entries sessions = All (EntryOk R) sessions

  -- a reply has no token, or one of the session that the request names
  abbrev pub Tells : BySession Session → Sent → Type 0
  Tells sessions sent = (token_in sent.reply ≡ None)
      ⊎ ((entry : Lsid × Session) × Contains sessions entry × It entry.0 entry.1.number
      × SaysOk R entry.0 entry.1.number entry.1.doing sent)

  pub record MoveOk (m : Move) : Type 0 where
    pub sessions : Entries m.state.sessions
    pub aborts : All (PostOk R) m.given.aborts
    pub sends : All (PostOk R) m.given.sends
    pub replies : All (Tells m.state.sessions) m.given.replies

  doing_of : (r : RouterState) (lsid : Lsid) (s : Session) → Entries r.sessions
      → session_of r lsid ≡ Some s → DoingOk R lsid s.number s.doing
  doing_of r lsid s h is = entry_named (EntryOk R) lsid r.sessions h s is

  txn_of : (lsid : Lsid) (s : Session) (t : Transaction) → DoingOk R lsid s.number s.doing
      → s.doing ≡ Begun t → TxnOk R t
  txn_of lsid s t h is = subst (DoingOk R lsid s.number) is h

  put_there : (lsid : Lsid) (s : Session) (entries : BySession Session)
      → Contains (with_entry lsid s entries) (lsid, s)
  put_there lsid s entries =
      entry_named (Contains (with_entry lsid s entries)) lsid (with_entry lsid s entries)
      (contained (Contains (with_entry lsid s entries)) (with_entry lsid s entries) (λ x c. c)) s
      (entry_there lsid s entries)

  done : (r : RouterState) (lsid : Lsid) (number : ℤ) (d : Deed) → It lsid number
      → Entries r.sessions → DeedOk R lsid number d → MoveOk (done_in r lsid d)
  done r lsid number d it h k = record {
    sessions = entries_put (EntryOk R) lsid d.session r.sessions k.doing h;
    aborts = k.aborts;
    sends = k.sends;
    replies = All-weaker (SaysOk R lsid d.session.number d.session.doing)
        (Tells (with_entry lsid d.session r.sessions))
        (λ sent says. inr (
          (lsid, d.session),
          put_there lsid d.session r.sessions,
          subst (It lsid) (sym k.number_is) it,
          says,
        ))
        d.given.replies k.replies;
  }

  no_posts : All (PostOk R) []
  no_posts = All-nil (PostOk R)

  pub still_ok : (r : RouterState) → Entries r.sessions → MoveOk (still r)
  still_ok r h = record {
    sessions = h;
    aborts = no_posts;
    sends = no_posts;
    replies = All-nil (Tells r.sessions);
  }

  replied : (r : RouterState) (asker : Asker) (x : Reply) → token_in x ≡ None
      → Entries r.sessions → MoveOk (answers r asker x)
  replied r asker x bare h = record {
    sessions = h;
    aborts = no_posts;
    sends = no_posts;
    replies = one (Tells r.sessions) (told asker x) (inl bare);
  }

  begun_txn : (r : RouterState) (lsid : Lsid) (number : ℤ) (t : Transaction)
      → begun_in (session_of r lsid) number ≡ Some t → Entries r.sessions → TxnOk R t
  begun_txn r lsid number t e h =
      let b = is_begun (session_of r lsid) number t e in
      txn_of lsid b.there t (doing_of r lsid b.there h b.is) b.doing

  -- Statements.

  left_ok : (lsid : Lsid) (o : Option Session) → All (PostOk R) (rq.left_of lsid o)
  left_ok lsid None = no_posts
  left_ok lsid (Some s) = leaves_ok R lsid s

  begins_ok : (r : RouterState) (lsid : Lsid) (s : Option Session) (number : ℤ) (asker : Asker)
      (op : Op) (read_at : ℕ) → It lsid number → Entries r.sessions
      → MoveOk (rq.begins_at r lsid s number asker op read_at)
  begins_ok r lsid s number asker op read_at it h =
      let t = rq.begun_at r read_at in
      let deed = st.asks r.chunks lsid number asker op t in
      let k = asks_ok R r.chunks lsid number asker op t refl in
      done (rq.drawn r read_at) lsid number (rq.behind_left lsid s deed) it h (record {
        number_is = k.number_is;
        doing = k.doing;
        aborts = All-append (PostOk R) (rq.left_of lsid s) [] (left_ok lsid s) no_posts;
        sends = k.sends;
        replies = k.replies;
      })

  states_ok : (r : RouterState) (asker : Asker) (txn : Txn) (op : Op) (at : Option ℕ)
      (refused : Option Reply) (own : Option Transaction) → Bare refused
      → begun_in (session_of r txn.lsid) txn.number ≡ own → It txn.lsid txn.number
      → Entries r.sessions
      → MoveOk (rq.unless_refused r asker refused (rq.states r txn.lsid
      (session_of r txn.lsid) txn.number asker op at own))
  states_ok r asker txn op at (Some why) own bare b it h = replied r asker why bare h
  states_ok r asker txn op at None (Some t) bare b it h =
      done r txn.lsid txn.number (st.asks r.chunks txn.lsid txn.number asker op t) it h
      (asks_ok R r.chunks txn.lsid txn.number asker op t
      (begun_txn r txn.lsid txn.number t b h).kept)
  states_ok r asker txn op at None None bare b it h =
      begins_ok r txn.lsid (session_of r txn.lsid) txn.number asker op _ it h

  statement_ok : (r : RouterState) (asker : Asker) (txn : Option Txn) (op : Op) (at : Option ℕ)
      → Names It r asker.conn txn → Entries r.sessions → MoveOk (rq.statement r asker txn op at)
  statement_ok r asker None op at it h =
      let txn = rq.by_itself r asker.conn in
      states_ok r asker txn op at (statement_refusal r asker.conn (session_of r txn.lsid) txn op)
      (begun_in (session_of r txn.lsid) txn.number)
      (statement_bare r asker.conn (session_of r txn.lsid) txn op) refl it h
  statement_ok r asker (Some txn) op at it h =
      states_ok r asker txn op at (statement_refusal r asker.conn (session_of r txn.lsid) txn op)
      (begun_in (session_of r txn.lsid) txn.number)
      (statement_bare r asker.conn (session_of r txn.lsid) txn op) refl it h

  -- Commits.

  sought_ok : (r : RouterState) (asker : Asker) (txn : Txn) (t : Option Token) (more : Bool)
      (time : Option ℕ)
      → ((tag : Tag) (boot : ℕ) (k : Seeks r (request.Commit (Some txn) t more time) tag boot)
      → R k.txn.lsid k.txn.number tag boot)
      → begun_in (session_of r txn.lsid) txn.number ≡ None
      → too_old (session_of r txn.lsid) txn.number ≡ None → It txn.lsid txn.number
      → Entries r.sessions
      → MoveOk (rq.commit_sought r asker txn (session_of r txn.lsid) t)
  sought_ok r asker txn None more time g none older it h = still_ok r h
  sought_ok r asker txn (Some (token.Early tag)) more time g none older it h = still_ok r h
  sought_ok r asker txn (Some (token.Placed tag shard boot)) more time g none older it h =
      let k : Seeking = record { asker = Some asker; tag = tag; shard = shard; boot = boot } in
      done r txn.lsid txn.number
      (tk.seeks_by txn.lsid txn.number asker k (session_of r txn.lsid)) it h
      (seeks_ok R txn.lsid txn.number asker k (session_of r txn.lsid)
      (g tag boot (record {
        txn = txn;
        shard = shard;
        more = more;
        time = time;
        is = refl;
        none = none;
        older = older;
      }))
      (λ s is. not_lower txn.number s
      (ap (λ (o : Option Session). too_old o txn.number) (sym is) ∙ older))
      (λ s is. doing_of r txn.lsid s h is))
  sought_ok r asker txn (Some token.Other) more time g none older it h = still_ok r h

  commits_ok : (r : RouterState) (asker : Asker) (txn : Txn) (t : Option Token) (more : Bool)
      (time : Option ℕ) (refused : Option Reply) (own : Option Transaction) → Bare refused
      → commit_refusal r asker.conn (session_of r txn.lsid) txn t ≡ refused
      → begun_in (session_of r txn.lsid) txn.number ≡ own
      → ((tag : Tag) (boot : ℕ) (k : Seeks r (request.Commit (Some txn) t more time) tag boot)
      → R k.txn.lsid k.txn.number tag boot)
      → It txn.lsid txn.number → Entries r.sessions
      → MoveOk (rq.unless_refused r asker refused (rq.commit_by r asker txn
      (session_of r txn.lsid) t own))
  commits_ok r asker txn t more time (Some why) own bare is b g it h = replied r asker why bare h
  commits_ok r asker txn t more time None None bare is b g it h =
      sought_ok r asker txn t more time g b
      (commit_older r asker.conn (session_of r txn.lsid) txn t is) it h
  commits_ok r asker txn t more time None (Some own) bare is b g it h =
      done r txn.lsid txn.number _ it h (commit_asked_ok R txn.lsid txn.number asker own
      (begun_txn r txn.lsid txn.number own b h))

  commit_ok : (r : RouterState) (asker : Asker) (txn : Option Txn) (t : Option Token) (more : Bool)
      (time : Option ℕ)
      → ((tag : Tag) (boot : ℕ) (k : Seeks r (request.Commit txn t more time) tag boot)
      → R k.txn.lsid k.txn.number tag boot)
      → Names It r asker.conn txn → Entries r.sessions → MoveOk (rq.commit r asker txn t)
  commit_ok r asker None t more time g it h = still_ok r h
  commit_ok r asker (Some txn) t more time g it h = commits_ok r asker txn t more time
      (commit_refusal r asker.conn (session_of r txn.lsid) txn t)
      (begun_in (session_of r txn.lsid) txn.number)
      (commit_bare r asker.conn (session_of r txn.lsid) txn t) refl refl g it h

  -- Aborts.

  aborts_ok : (r : RouterState) (asker : Asker) (txn : Txn) (refused : Option Reply)
      (own : Option Transaction) → Bare refused
      → begun_in (session_of r txn.lsid) txn.number ≡ own → It txn.lsid txn.number
      → Entries r.sessions
      → MoveOk (rq.unless_refused r asker refused (rq.abort_by r asker txn own))
  aborts_ok r asker txn (Some why) own bare b it h = replied r asker why bare h
  aborts_ok r asker txn None None bare b it h = still_ok r h
  aborts_ok r asker txn None (Some own) bare b it h =
      done r txn.lsid txn.number _ it h (client_aborts_ok R txn.lsid txn.number asker own
      (begun_txn r txn.lsid txn.number own b h))

  abort_ok : (r : RouterState) (asker : Asker) (txn : Option Txn) → Names It r asker.conn txn
      → Entries r.sessions → MoveOk (rq.abort r asker txn)
  abort_ok r asker None it h = still_ok r h
  abort_ok r asker (Some txn) it h = aborts_ok r asker txn
      (abort_refusal r asker.conn (session_of r txn.lsid) txn)
      (begun_in (session_of r txn.lsid) txn.number)
      (abort_bare r asker.conn (session_of r txn.lsid) txn) refl it h

  -- Ends of sessions, which nobody is told of.

  pub record EndsOk (m : Move) : Type 0 where
    pub sessions : Entries m.state.sessions
    pub aborts : All (PostOk R) m.given.aborts
    pub sends : All (PostOk R) m.given.sends
    pub replies : m.given.replies ≡ []

  ends_none : (lsid : Lsid) (number : ℤ) (doing : Doing)
      → (en.ends_session lsid (record { number = number; doing = doing })).given.replies ≡ []
  ends_none lsid number (Begun t) =
      either (is_none (asker_of (Begun t)) && not (commit_sent t.phase))
      (λ (d : Deed). d.given.replies ≡ []) _ _ refl refl
  ends_none lsid number (Sought seeking known) = refl

  end_ok : (r : RouterState) (lsid : Lsid) (o : Option Session) → session_of r lsid ≡ o
      → Entries r.sessions → EndsOk (en.end_session r lsid o)
  end_ok r lsid None e h =
      record { sessions = h; aborts = no_posts; sends = no_posts; replies = refl }
  end_ok r lsid (Some s) e h =
      let d = en.ends_session lsid s in
      let k = session_ok R lsid s (doing_of r lsid s h e) in
      record {
        sessions = entries_put (EntryOk R) lsid d.session r.sessions k.doing h;
        aborts = k.aborts;
        sends = k.sends;
        replies = ends_none lsid s.number s.doing;
      }

  both_none : (a b : List Sent) → a ≡ [] → b ≡ [] → a ++ b ≡ []
  both_none a b e f = ap (λ (l : List Sent). l ++ b) e ∙ f

  ends_ok : (r : RouterState) (lsids : List Lsid) → Entries r.sessions
      → EndsOk (en.end_sessions r lsids)
  ends_ok r [] h = record { sessions = h; aborts = no_posts; sends = no_posts; replies = refl }
  ends_ok r (lsid ∷ lsids) h =
      let first = end_ok r lsid (session_of r lsid) refl h in
      let next = en.end_session r lsid (session_of r lsid) in
      let more = ends_ok next.state lsids first.sessions in
      let rest = en.end_sessions next.state lsids in
      record {
        sessions = more.sessions;
        aborts = All-append (PostOk R) next.given.aborts rest.given.aborts first.aborts
            more.aborts;
        sends = All-append (PostOk R) next.given.sends rest.given.sends first.sends more.sends;
        replies = both_none next.given.replies rest.given.replies first.replies more.replies;
      }

  -- Any request.

  also : (m : Move) (asker : Asker) (legacy : Bool) (x : Reply) → token_in x ≡ None → EndsOk m
      → MoveOk (told_also m asker legacy x)
  also m asker legacy x bare k =
      let sent : Sent = record {
        conn = asker.conn;
        request = asker.request;
        legacy = legacy;
        reply = x;
      } in
      record {
        sessions = k.sessions;
        aborts = All-append (PostOk R) m.given.aborts [] k.aborts no_posts;
        sends = All-append (PostOk R) m.given.sends [] k.sends no_posts;
        replies = subst (λ (l : List Sent). All (Tells m.state.sessions) (l ++ sent ∷ []))
            (sym k.replies) (one (Tells m.state.sessions) sent (inl bare));
      }

  pub also_still : (r : RouterState) (asker : Asker) (legacy : Bool) (x : Reply)
      → token_in x ≡ None → Entries r.sessions → MoveOk (told_also (still r) asker legacy x)
  also_still r asker legacy x bare h = also (still r) asker legacy x bare
      (record { sessions = h; aborts = no_posts; sends = no_posts; replies = refl })

  pub serves_ok : (r : RouterState) (asker : Asker) (legacy : Bool) (x : Request)
      → ((tag : Tag) (boot : ℕ) (k : Seeks r x tag boot) → R k.txn.lsid k.txn.number tag boot)
      → NamesAsked It r asker.conn x → Entries r.sessions → MoveOk (rq.serves r asker legacy x)
  unfolding rq.serves
  serves_ok r asker legacy (request.Ping more time) g it h =
      also_still (met r time None) asker legacy reply.Ping refl h
  serves_ok r asker legacy (request.Hello old_name more time) g it h =
      also_still (met r time None) asker legacy (reply.Hello old_name r.wall asker.conn) refl h
  serves_ok r asker legacy (request.Statement op txn at after more time) g it h =
      statement_ok (met r time after) asker txn op at it h
  serves_ok r asker legacy (request.Commit txn t more time) g it h =
      commit_ok (met r time None) asker txn t more time
      (λ tag boot k. g tag boot (record {
        txn = k.txn;
        shard = k.shard;
        more = k.more;
        time = k.time;
        is = k.is;
        none = k.none;
        older = k.older;
      })) it h
  serves_ok r asker legacy (request.Abort txn more time) g it h =
      abort_ok (met r time None) asker txn it h
  serves_ok r asker legacy (request.EndSessions ids more time) g it h =
      also (en.end_sessions (met r time None) ids) asker legacy (reply.Ended None) refl
      (ends_ok (met r time None) ids h)
