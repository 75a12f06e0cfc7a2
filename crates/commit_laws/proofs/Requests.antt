-- What a request, a message of a shard, the end of a connection and a resend do at a router.
use Rattle.std.proofs.Common.{◌≡◌, ◌⊎◌, inl, inr, ℕ, ℤ, Bool, true, false, not, List, [], ◌∷◌, ◌++◌}
use Rattle.std.proofs.Common.{map, Option, Some, None, Result, Ok, Err, refl, sym, ap, ap₂, subst}
use Rattle.std.proofs.Common.{◌∙◌, arith, if◌then◌else◌}
use Rattle.std.specs.Prelude.{Contains, flat_map}
use Rattle.std.specs.List.{range_with_len}
use Rattle.std.specs.Ordering.{is_lt}
use Rattle.std.proofs.lemmas.List.Elements.{All-contains, Contains-append_cases}
use Rattle.txn_types.specs.declared.decision.Token.{Token}
use Rattle.txn_types.specs.declared.decision.Token.TheVariants as token
use Rattle.txn_types.specs.declared.event.Happening.{Happening}
use Rattle.txn_types.specs.declared.event.Happening.TheVariants as what
use Rattle.txn_types.specs.declared.message.Msg.{Msg}
use Rattle.txn_types.specs.declared.message.Msg.TheVariants as msg
use Rattle.txn_types.specs.declared.names.Tag.{Tag}
use Rattle.txn_types.specs.declared.node.Lsid.{Lsid}
use Rattle.txn_types.specs.declared.operation.Op.{Op}
use Rattle.client_cmd.specs.declared.request.Request.{Request}
use Rattle.client_cmd.specs.declared.request.Request.TheVariants as request
use Rattle.client_cmd.specs.declared.request.Txn.{Txn}
use Rattle.client_reply.specs.declared.reply.Reply.{Reply}
use Rattle.client_reply.specs.declared.reply.Reply.TheVariants as reply
use Rattle.op_msg.specs.Asking.{wants_reply, is_legacy}
use Rattle.chunk_map.specs.Map.{IsMap}
use Rattle.router_state.specs.declared.deed.Deed.{Deed}
use Rattle.router_state.specs.declared.deed.Given.{Given}
use Rattle.router_state.specs.declared.state.Asker.{Asker}
use Rattle.router_state.specs.declared.state.Doing.{Doing}
use Rattle.router_state.specs.declared.state.Doing.TheVariants.{Begun, Sought}
use Rattle.router_state.specs.declared.state.Phase.{Phase}
use Rattle.router_state.specs.declared.state.Phase.TheVariants.{Idle, Asking, Checking, Deciding}
use Rattle.router_state.specs.declared.state.Phase.TheVariants.{Committed, Released, Aborted}
use Rattle.router_state.specs.declared.state.Seeking.{Seeking}
use Rattle.router_state.specs.declared.state.Session.{Session}
use Rattle.router_state.specs.declared.state.Transaction.{Transaction}
use Rattle.router_state.specs.Deeds.{Move, still, answers, done_in, nothing, sending}
use Rattle.router_state.specs.State.{Post, RouterState, session_of, is_waiting, is_from, asker_of}
use Rattle.router_state.specs.State.{asker_in, commit_sent}
use Rattle.router_rules.specs.Commits as co
use Rattle.router_rules.specs.Ends as en
use Rattle.router_rules.specs.Resends as rs
use Rattle.router_rules.specs.Serving as sv
use Rattle.router_rules.specs.Statements as st
use Rattle.router_rules.specs.Times.{met, timed}
use Rattle.router_rules.specs.Tokens as tk
use Rattle.router_plan.specs.declared.message.Unserved.{Unserved}
use Rattle.router_plan.specs.declared.message.Unserved.TheVariants as un
use Rattle.router_plan.specs.Messages.{asked_in}
use Rattle.router_plan.specs.Plans.{told_also}
use Rattle.router_plan.specs.Refusals.{begun_in, statement_refusal, commit_refusal, abort_refusal}
use Rattle.router_plan.specs.Refusals.{is_so, is_elsewhere, is_aborted}
use Rattle.router_core.specs.Requests as rq
use Rattle.router_core.specs.Step as sp
use Rattle.participant.proofs.Cases.{either}
use Rattle.world_laws.proofs.Beginning.{is_begun}
use Rattle.answer_laws.proofs.Lists.{has_first, has_more}
use Rattle.told_laws.proofs.Lists.{has_cases, map_has, only_one}
use Rattle.told_laws.proofs.Moves.{done_there, not_waiting, Passes, passes}
use Rattle.commit_laws.proofs.Once.{OnceUnder, put_once, stands_here}
use Rattle.commit_laws.proofs.Follows.{Follows, DoingFollows, IsPast, IsNoAsk, NoneAsk, DeedFrom}
use Rattle.commit_laws.proofs.Deeds.{no_asks, none_twice, leaves_none, commit_asked_from}
use Rattle.commit_laws.proofs.Deeds.{ended_from, client_aborts_from, session_from, gone_from}
use Rattle.commit_laws.proofs.Deeds.{seeks_from, anew_new}
use Rattle.commit_laws.proofs.Answering.{IsGiven, answered_from}
use Rattle.commit_laws.proofs.Asking.{asks_follow}
use Rattle.commit_laws.proofs.Moves.{RouterFollows, SessionKept, SentFrom, MoveFrom, EndsFrom}
use Rattle.commit_laws.proofs.Moves.{done_from, deed_from, still_from, each_move, kept_then}
use Rattle.commit_laws.proofs.Moves.{ends_move, ends_follow, deed_kept, self_kept}

-- A statement that isn't refused is of a transaction in which nothing is asked, and whose commit
-- wasn't sent.

idle_if : (conn : ℕ) (p : Phase) → is_elsewhere conn (asker_in p) ≡ false → commit_sent p ≡ false
    → is_aborted p ≡ false → is_from conn (asker_in p) ≡ false → p ≡ Idle
idle_if conn Idle a b c d = refl
idle_if conn (Asking asker op answers) a b c d = let no : not false ≡ false = ap not (sym d) ∙ a in
    grind (arith, no)
idle_if conn (Checking asker) a b c d = grind (arith, b)
idle_if conn (Deciding asker) a b c d = grind (arith, b)
idle_if conn Committed a b c d = grind (arith, b)
idle_if conn Released a b c d = grind (arith, b)
idle_if conn (Aborted sent) a b c d = grind (arith, c)

is_idle : (r : RouterState) (conn : ℕ) (lsid : Lsid) (number : ℤ) (t : Transaction)
    → begun_in (session_of r lsid) number ≡ Some t → Passes conn (session_of r lsid) number
    → is_waiting r conn ≡ false → t.phase ≡ Idle
is_idle r conn lsid number t b k w =
    let there = is_begun (session_of r lsid) number t b in
    let here : asker_of there.there.doing ≡ asker_in t.phase = ap asker_of there.doing in
    idle_if conn t.phase
    (ap (is_elsewhere conn) (sym here) ∙ ap (is_so (λ (s : Session). is_elsewhere conn
    (asker_of s.doing))) (sym there.is) ∙ k.elsewhere)
    (ap (is_so (λ (t : Transaction). commit_sent t.phase)) (sym b) ∙ k.sent)
    (ap (is_so (λ (t : Transaction). is_aborted t.phase)) (sym b) ∙ k.aborted)
    (ap (is_from conn) (sym here) ∙ not_waiting conn lsid r.sessions there.there w there.is)

-- What is in lists that are put in order, or joined.

inserted_has : (a : rs.Unanswered) (others : List rs.Unanswered) (x : rs.Unanswered)
    → Contains (rs.inserted a others) x → Contains (a ∷ others) x
inserted_has a [] x c = c
inserted_has a (b ∷ others) x c =
    by (is_lt (rs.waiting_cmp a b)) c (λ d. inserted_has a others x d)
  where
    by : (test : Bool) → Contains (if test then a ∷ b ∷ others else b ∷ rs.inserted a others) x
        → (Contains (rs.inserted a others) x → Contains (a ∷ others) x)
        → Contains (a ∷ b ∷ others) x
    by true k more = k
    by false k more =
        elim (has_cases b (rs.inserted a others) x k) [
          | inl e ↦ subst (λ (y : rs.Unanswered). Contains (a ∷ b ∷ others) y) (sym e)
              (has_more a (b ∷ others) b (has_first b others))
          | inr d ↦
              elim (has_cases a others x (more d)) [
                | inl e ↦ subst (λ (y : rs.Unanswered). Contains (a ∷ b ∷ others) y) (sym e)
                    (has_first a (b ∷ others))
                | inr f ↦ has_more a (b ∷ others) x (has_more b others x f)
              ]
        ]

order_has : (us : List rs.Unanswered) (x : rs.Unanswered) → Contains (rs.in_order us) x
    → Contains us x
order_has [] x c = c
order_has (u ∷ us) x c =
    elim (has_cases u (rs.in_order us) x (inserted_has u (rs.in_order us) x c)) [
      | inl e ↦ subst (λ (y : rs.Unanswered). Contains (u ∷ us) y) (sym e) (has_first u us)
      | inr k ↦ has_more u us x (order_has us x k)
    ]

flat_has : {A B : Type 0} (f : A → List B) (xs : List A) (y : B) → Contains (flat_map f xs) y
    → (x : A) × Contains xs x × Contains (f x) y
flat_has f [] y c = absurd (omega (arith, c.1))
flat_has f (x ∷ xs) y c =
    elim (Contains-append_cases (f x) (flat_map f xs) y c) [
      | inl k ↦ (x, has_first x xs, k)
      | inr k ↦ let more = flat_has f xs y k in (more.0, has_more x xs more.0 more.1, more.2)
    ]

-- one shard
abbrev pub HasOne : RouterState → Type 0
HasOne r = IsMap r.chunks × (r.chunks.shards ≡ 1)

module _ (G : Tag → ℕ → ℕ → Type 0) where
  -- what stands of a router before an event
  abbrev pub Ready : RouterState → Type 0
  Ready r = RouterFollows G r × (OnceUnder r.sessions × HasOne r)

  quiet_from : (r : RouterState) (g : Given) → Ready r → NoneAsk g.sends → NoneAsk g.aborts
      → MoveFrom G r (record { state = r; given = g })
  quiet_from r g h sends aborts =
      still_from G r g h.0 h.1.0
      (λ post c. inr (All-contains (λ (post : Post). IsNoAsk post.1) g.sends post sends c)) aborts

  pub still_is : (r : RouterState) → Ready r → MoveFrom G r (still r)
  still_is r h = quiet_from r nothing h no_asks no_asks

  refused_from : (r : RouterState) (asker : Asker) (why : Reply) → Ready r
      → MoveFrom G r (answers r asker why)
  refused_from r asker why h = quiet_from r (answers r asker why).given h no_asks no_asks

  -- the session's transaction
  begun_from : (r : RouterState) (lsid : Lsid) (number : ℤ) (t : Transaction) (d : Deed) → Ready r
      → begun_in (session_of r lsid) number ≡ Some t
      → (Follows G t t.phase → DeedFrom G (Begun t) d) → MoveFrom G r (done_in r lsid d)
  begun_from r lsid number t d h b k =
      let there = is_begun (session_of r lsid) number t b in
      let follows : Follows G t t.phase =
      subst (DoingFollows G) there.doing (h.0 lsid there.there there.is) in
      deed_from G r lsid there.there d h.0 h.1.0 there.is
      (subst (λ (x : Doing). DeedFrom G x d) (sym there.doing) (k follows))

  -- Statements.

  asks_from : (r : RouterState) (lsid : Lsid) (number : ℤ) (asker : Asker) (op : Op)
      (t : Transaction) → HasOne r → t.phase ≡ Idle → Follows G t t.phase
      → DeedFrom G (Begun t) (st.asks r.chunks lsid number asker op t)
  asks_from r lsid number asker op t one idle h =
      let heard = (subst (Follows G t) idle h).0 in
      record {
        doing = (
          refl,
          (
            asks_follow G r.chunks lsid number asker op t one.0 one.1 (inr heard),
            λ p. absurd (subst IsPast idle p),
          ),
        );
        sends = inr refl;
        aborts = no_asks;
      }

  left_none : (lsid : Lsid) (s : Option Session) → NoneAsk (rq.left_of lsid s)
  left_none lsid None = no_asks
  left_none lsid (Some s) = leaves_none lsid s

  begins_from : (r : RouterState) (lsid : Lsid) (s : Option Session) (number : ℤ) (asker : Asker)
      (op : Op) (read_at : ℕ) → Ready r
      → MoveFrom G r (rq.begins_at r lsid s number asker op read_at)
  begins_from r lsid s number asker op read_at h =
      let t = rq.begun_at r read_at in
      let deed = rq.behind_left lsid s (st.asks r.chunks lsid number asker op t) in
      let m = done_from G r lsid deed h.0 h.1.0 (
        asks_follow G r.chunks lsid number asker op t h.1.1.0 h.1.1.1 (inl (refl, refl, refl)),
        inr refl,
      ) (inr refl) (none_twice (rq.left_of lsid s) [] (left_none lsid s) no_asks) in
      record { sessions = m.sessions; sends = m.sends; aborts = m.aborts; once = m.once }

  states_from : (r : RouterState) (asker : Asker) (lsid : Lsid) (number : ℤ) (op : Op)
      (at : Option ℕ) (refused : Option Reply) (own : Option Transaction) → Ready r
      → begun_in (session_of r lsid) number ≡ own
      → (refused ≡ None → Passes asker.conn (session_of r lsid) number)
      → is_waiting r asker.conn ≡ false
      → MoveFrom G r (rq.unless_refused r asker refused
      (rq.states r lsid (session_of r lsid) number asker op at own))
  states_from r asker lsid number op at (Some why) own h b p w = refused_from r asker why h
  states_from r asker lsid number op at None (Some t) h b p w =
      begun_from r lsid number t (st.asks r.chunks lsid number asker op t) h b
      (λ f. asks_from r lsid number asker op t h.1.1
      (is_idle r asker.conn lsid number t b (p refl) w) f)
  states_from r asker lsid number op at None None h b p w =
      begins_from r lsid (session_of r lsid) number asker op _ h

  statement_from : (r : RouterState) (asker : Asker) (txn : Option Txn) (op : Op) (at : Option ℕ)
      → Ready r → is_waiting r asker.conn ≡ false
      → MoveFrom G r (rq.statement r asker txn op at)
  statement_from r asker None op at h w =
      let txn = rq.by_itself r asker.conn in
      states_from r asker txn.lsid txn.number op at
      (statement_refusal r asker.conn (session_of r txn.lsid) txn op)
      (begun_in (session_of r txn.lsid) txn.number) h refl
      (λ e. passes r asker.conn (session_of r txn.lsid) txn op e) w
  statement_from r asker (Some txn) op at h w =
      states_from r asker txn.lsid txn.number op at
      (statement_refusal r asker.conn (session_of r txn.lsid) txn op)
      (begun_in (session_of r txn.lsid) txn.number) h refl
      (λ e. passes r asker.conn (session_of r txn.lsid) txn op e) w

  -- Commits.

  seeks_case : (r : RouterState) (lsid : Lsid) (number : ℤ) (asker : Asker) (k : Seeking)
      (s : Option Session) → Ready r → session_of r lsid ≡ s
      → MoveFrom G r (done_in r lsid (tk.seeks_by lsid number asker k s))
  seeks_case r lsid number asker k None h there =
      let d = anew_new G lsid number k in
      done_from G r lsid (tk.asks_anew lsid number k []) h.0 h.1.0 tt d.sends d.aborts
  seeks_case r lsid number asker k (Some s) h there =
      deed_from G r lsid s (tk.seeks_by lsid number asker k (Some s)) h.0 h.1.0 there
      (seeks_from G lsid number asker k s (h.0 lsid s there))

  sought_from : (r : RouterState) (asker : Asker) (txn : Txn) (t : Option Token) → Ready r
      → MoveFrom G r (rq.commit_sought r asker txn (session_of r txn.lsid) t)
  sought_from r asker txn (Some (token.Placed tag shard boot)) h =
      seeks_case r txn.lsid txn.number asker
      (record { asker = Some asker; tag = tag; shard = shard; boot = boot })
      (session_of r txn.lsid) h refl
  sought_from r asker txn None h = still_is r h
  sought_from r asker txn (Some (token.Early tag)) h = still_is r h
  sought_from r asker txn (Some token.Other) h = still_is r h

  commits_case : (r : RouterState) (asker : Asker) (txn : Txn) (t : Option Token)
      (refused : Option Reply) (own : Option Transaction) → Ready r
      → begun_in (session_of r txn.lsid) txn.number ≡ own
      → MoveFrom G r (rq.unless_refused r asker refused (rq.commit_by r asker txn
      (session_of r txn.lsid) t own))
  commits_case r asker txn t (Some why) own h b = refused_from r asker why h
  commits_case r asker txn t None None h b = sought_from r asker txn t h
  commits_case r asker txn t None (Some own) h b =
      begun_from r txn.lsid txn.number own (co.commit_asked txn.lsid txn.number asker own) h b
      (commit_asked_from G txn.lsid txn.number asker own)

  commit_from : (r : RouterState) (asker : Asker) (txn : Option Txn) (t : Option Token) → Ready r
      → MoveFrom G r (rq.commit r asker txn t)
  commit_from r asker None t h = still_is r h
  commit_from r asker (Some txn) t h =
      commits_case r asker txn t (commit_refusal r asker.conn (session_of r txn.lsid) txn t)
      (begun_in (session_of r txn.lsid) txn.number) h refl

  -- Aborts.

  aborts_case : (r : RouterState) (asker : Asker) (txn : Txn) (refused : Option Reply)
      (own : Option Transaction) → Ready r → begun_in (session_of r txn.lsid) txn.number ≡ own
      → MoveFrom G r (rq.unless_refused r asker refused (rq.abort_by r asker txn own))
  aborts_case r asker txn (Some why) own h b = refused_from r asker why h
  aborts_case r asker txn None None h b = still_is r h
  aborts_case r asker txn None (Some own) h b =
      begun_from r txn.lsid txn.number own (en.client_aborts txn.lsid txn.number asker own) h b
      (client_aborts_from G txn.lsid txn.number asker own)

  abort_from : (r : RouterState) (asker : Asker) (txn : Option Txn) → Ready r
      → MoveFrom G r (rq.abort r asker txn)
  abort_from r asker None h = still_is r h
  abort_from r asker (Some txn) h =
      aborts_case r asker txn (abort_refusal r asker.conn (session_of r txn.lsid) txn)
      (begun_in (session_of r txn.lsid) txn.number) h refl

  -- Ends of sessions.

  stays_ends : (r : RouterState) → RouterFollows G r → OnceUnder r.sessions
      → EndsFrom G r (still r)
  stays_ends r h once = record {
    sessions = λ lsid v e. self_kept G r lsid v h e;
    sends = refl;
    aborts = no_asks;
    once = once;
  }

  ends_none : (lsid : Lsid) (number : ℤ) (doing : Doing)
      → (en.ends_session lsid (record { number = number; doing = doing })).given.sends ≡ []
  ends_none lsid number (Begun t) =
      either _ (λ (d : Deed). d.given.sends ≡ []) (en.ends lsid number 2 t) _ refl refl
  ends_none lsid number (Sought seeking known) = refl

  end_from : (r : RouterState) (lsid : Lsid) (o : Option Session) → session_of r lsid ≡ o
      → RouterFollows G r → OnceUnder r.sessions → EndsFrom G r (en.end_session r lsid o)
  end_from r lsid None there h once = stays_ends r h once
  end_from r lsid (Some s) there h once =
      let d = en.ends_session lsid s in
      let k = session_from G lsid s.number s.doing (h lsid s there) in
      let kept = deed_kept G r lsid s d there k in
      record {
        sessions = λ other v e.
            elim (done_there r lsid other d v e) [
              | inl w ↦ subst (λ (l : Lsid). SessionKept G r l v.doing) (sym w.0)
                  (subst (λ (x : Session). SessionKept G r lsid x.doing) (sym w.1) kept)
              | inr w ↦ self_kept G r other v h w.1
            ];
        sends = ends_none lsid s.number s.doing;
        aborts = k.aborts;
        once = put_once lsid d.session r.sessions once;
      }

  ends_from : (lsids : List Lsid) (r : RouterState) → RouterFollows G r → OnceUnder r.sessions
      → EndsFrom G r (en.end_sessions r lsids)
  ends_from [] r h once = stays_ends r h once
  ends_from (lsid ∷ lsids) r h once =
      let move = en.end_session r lsid (session_of r lsid) in
      let first = end_from r lsid (session_of r lsid) refl h once in
      let more = ends_from lsids move.state (ends_follow G r move first) first.once in
      record {
        sessions = λ other v e.
            kept_then G r move.state other v.doing (more.sessions other v e)
            (λ w there. first.sessions other w there);
        sends = ap₂ (λ (a b : List Post). a ++ b) first.sends more.sends;
        aborts = none_twice move.given.aborts (en.end_sessions move.state lsids).given.aborts
            first.aborts more.aborts;
        once = more.once;
      }

  -- Requests.

  also_ends : (r : RouterState) (m : Move) (asker : Asker) (legacy : Bool) (reply : Reply)
      → EndsFrom G r m → EndsFrom G r (told_also m asker legacy reply)
  also_ends r m asker legacy reply h = record {
    sessions = h.sessions;
    sends = ap (λ (a : List Post). a ++ []) h.sends;
    aborts = none_twice m.given.aborts [] h.aborts no_asks;
    once = h.once;
  }

  also_still : (r : RouterState) (asker : Asker) (legacy : Bool) (reply : Reply) → Ready r
      → MoveFrom G r (told_also (still r) asker legacy reply)
  also_still r asker legacy reply h =
      ends_move G r (told_also (still r) asker legacy reply)
      (also_ends r (still r) asker legacy reply (stays_ends r h.0 h.1.0))

  serves_from : (r : RouterState) (asker : Asker) (legacy : Bool) (x : Request) → Ready r
      → is_waiting r asker.conn ≡ false → MoveFrom G r (rq.serves r asker legacy x)
  unfolding rq.serves
  serves_from r asker legacy (request.Ping more time) h w =
      let m = also_still (met r time None) asker legacy reply.Ping h in
      record { sessions = m.sessions; sends = m.sends; aborts = m.aborts; once = m.once }
  serves_from r asker legacy (request.Hello old_name more time) h w =
      let m = also_still (met r time None) asker legacy
      (reply.Hello old_name (met r time None).wall asker.conn) h in
      record { sessions = m.sessions; sends = m.sends; aborts = m.aborts; once = m.once }
  serves_from r asker legacy (request.Statement op txn at after more time) h w =
      let m = statement_from (met r time after) asker txn op at h w in
      record { sessions = m.sessions; sends = m.sends; aborts = m.aborts; once = m.once }
  serves_from r asker legacy (request.Commit txn t more time) h w =
      let m = commit_from (met r time None) asker txn t h in
      record { sessions = m.sessions; sends = m.sends; aborts = m.aborts; once = m.once }
  serves_from r asker legacy (request.Abort txn more time) h w =
      let m = abort_from (met r time None) asker txn h in
      record { sessions = m.sessions; sends = m.sends; aborts = m.aborts; once = m.once }
  serves_from r asker legacy (request.EndSessions ids more time) h w =
      let q = met r time None in
      let e = ends_from ids q h.0 h.1.0 in
      let m = ends_move G q (told_also (en.end_sessions q ids) asker legacy (reply.Ended None))
      (also_ends q (en.end_sessions q ids) asker legacy (reply.Ended None) e) in
      record { sessions = m.sessions; sends = m.sends; aborts = m.aborts; once = m.once }

  served_from : (r : RouterState) (conn : ℕ) (bytes : List ℕ) (x : Result Request Unserved)
      → Ready r → is_waiting r conn ≡ false → MoveFrom G r (sp.served r conn bytes x)
  served_from r conn bytes (Ok asked) h w =
      serves_from r (sp.asker_by conn bytes) (is_legacy bytes) asked h w
  served_from r conn bytes (Err (un.Told why)) h w =
      also_still r (sp.asker_by conn bytes) (is_legacy bytes) (reply.Refused why) h
  served_from r conn bytes (Err (un.Closed number)) h w = still_is r h
  served_from r conn bytes (Err un.Memory) h w = still_is r h

  silent_from : (r : RouterState) (test : Bool) (m : Move) → MoveFrom G r m
      → MoveFrom G r (sp.unless_silent test m)
  silent_from r true m h = h
  silent_from r false m h =
      record { sessions = h.sessions; sends = h.sends; aborts = h.aborts; once = h.once }

  client_case : (r : RouterState) (conn : ℕ) (bytes : List ℕ) (test : Bool)
      → is_waiting r conn ≡ test → Ready r
      → MoveFrom G r (if test then still r else sp.unless_silent (wants_reply bytes)
      (sp.served r conn bytes (asked_in r.wall bytes)))
  client_case r conn bytes true w h = still_is r h
  client_case r conn bytes false w h =
      silent_from r (wants_reply bytes) (sp.served r conn bytes (asked_in r.wall bytes))
      (served_from r conn bytes (asked_in r.wall bytes) h w)

  -- Resends.

  resent_doing : (r : RouterState) (lsid : Lsid) (s : Session) (doing : Doing) (x : rs.Unanswered)
      → session_of r lsid ≡ Some s → s.doing ≡ doing
      → Contains (rs.waiting_in (lsid, record { number = s.number; doing = doing })) x
      → SentFrom r.sessions x.1 ⊎ IsNoAsk x.1.1
  resent_doing r lsid s (Begun t) x there is c =
      let m = map_has (λ (post : Post). (t.tag, post)) t.waiting x c in
      inl (record {
        lsid = lsid;
        session = s;
        there = there;
        t = t;
        doing = is;
        waits = subst (λ (y : rs.Unanswered). Contains t.waiting y.1) (sym m.2) m.1;
      })
  resent_doing r lsid s (Sought seeking known) x there is c = by seeking c
    where
      by : (k : Option Seeking) → Contains (rs.sought_post lsid s.number k) x
          → SentFrom r.sessions x.1 ⊎ IsNoAsk x.1.1
      by None d = absurd (omega (arith, d.1))
      by (Some k) d =
          inr (subst (λ (y : rs.Unanswered). IsNoAsk y.1.1)
          (sym (only_one (k.tag, tk.recover_to lsid s.number k) x d)) tt)

  resent_from : (r : RouterState) (post : Post) → OnceUnder r.sessions
      → Contains (rs.resent r) post → SentFrom r.sessions post ⊎ IsNoAsk post.1
  resent_from r post once c =
      elim (Contains-append_cases (map (λ (shard : ℕ). (shard, msg.Nudge))
      (range_with_len 0 r.chunks.shards)) (rs.unanswered r.sessions) post c) [
        | inl k ↦
            let m = map_has (λ (shard : ℕ). (shard, msg.Nudge))
            (range_with_len 0 r.chunks.shards) post k in
            inr (subst (λ (p : Post). IsNoAsk p.1) (sym m.2) tt)
        | inr k ↦
            let m = map_has (λ (a : rs.Unanswered). a.1)
            (rs.in_order (flat_map rs.waiting_in r.sessions)) post k in
            let f = flat_has rs.waiting_in r.sessions m.0
            (order_has (flat_map rs.waiting_in r.sessions) m.0 m.1) in
            subst (λ (p : Post). SentFrom r.sessions p ⊎ IsNoAsk p.1) (sym m.2)
            (resent_doing r f.0.0 f.0.1 f.0.1.doing m.0 (stands_here r.sessions f.0 once f.1) refl
            f.2)
      ]

  -- What happens.

  -- the Answer that comes was given by the shard for the statement that is asked
  abbrev pub MsgGiven : RouterState → Msg → Type 0
  MsgGiven r (msg.Answer a) =
      (lsid : Lsid) (s : Session) (t : Transaction) → session_of r lsid ≡ Some s
      → s.doing ≡ Begun t → IsGiven G a t
  MsgGiven r other = Unit {0}

  abbrev pub WhatGiven : RouterState → Happening → Type 0
  WhatGiven r (what.Deliver e) = MsgGiven r e.msg
  WhatGiven r other = Unit {0}

  delivered_from : (r : RouterState) (m : Msg) → Ready r → MsgGiven r m
      → MoveFrom G r (sp.delivered r m)
  delivered_from r (msg.Answer a) h given =
      each_move G (sv.answered_in a) r h.1.0
      (λ lsid s there. answered_from G a lsid s.number s.doing (h.0 lsid s there)
      (λ t is. given lsid s t there is))
  delivered_from r (msg.Outcome o) h given =
      each_move G (sv.ended_in o) r h.1.0
      (λ lsid s there. ended_from G o lsid s.number s.doing (h.0 lsid s there))
  delivered_from r other h given = still_is r h

  pub happened_from : (r : RouterState) (w : Happening) → Ready r → WhatGiven r w
      → MoveFrom G r (sp.happened r w)
  happened_from r (what.Client conn bytes) h given =
      client_case r conn bytes (is_waiting r conn) refl h
  happened_from r (what.Gone conn) h given =
      each_move G (en.gone_from conn) r h.1.0
      (λ lsid s there. gone_from G conn lsid s (h.0 lsid s there))
  happened_from r (what.Deliver e) h given =
      let m = delivered_from (timed r e.time) e.msg h given in
      record { sessions = m.sessions; sends = m.sends; aborts = m.aborts; once = m.once }
  happened_from r what.Resend h given =
      still_from G r (sending (rs.resent r)) h.0 h.1.0 (λ post c. resent_from r post h.1.0 c)
      no_asks
  happened_from r what.Moment h given = still_is r h
