-- A router's step: the statements that it sends it waits for already, or it takes them from a
-- request; and sessions go on.
use Rattle.std.proofs.Common.{◌≡◌, ◌⊎◌, inl, inr, ◌<ℤ◌, ℕ, ℤ, Bool, true, false, not, ◌&&◌, All}
use Rattle.std.proofs.Common.{List, [], ◌∷◌, ◌++◌, map, int_lt, int_eq, is_none, Option, Some, None}
use Rattle.std.proofs.Common.{Result, Ok, Err, refl, sym, ap, subst, ◌∙◌, arith, if◌then◌else◌}
use Rattle.std.specs.Prelude.{flat_map}
use Rattle.std.specs.List.{range_with_len}
use Rattle.std.specs.Ordering.{is_lt}
use Rattle.std.proofs.lemmas.List.Elements.{All-nil, All-cons, All-head, All-tail, All-append}
use Rattle.std.proofs.lemmas.List.Elements.{All-map}
use Rattle.txn_types.specs.BySession.{BySession, entry_of}
use Rattle.txn_types.specs.Order.{same_lsid}
use Rattle.txn_types.specs.Letters.{Letter, sent_by, given_out}
use Rattle.txn_types.specs.declared.decision.Token.{Token}
use Rattle.txn_types.specs.declared.decision.Token.TheVariants as token
use Rattle.txn_types.specs.declared.event.Happening.{Happening}
use Rattle.txn_types.specs.declared.event.Happening.TheVariants as what
use Rattle.txn_types.specs.declared.event.NodeEvent.{NodeEvent}
use Rattle.txn_types.specs.declared.message.Envelope.{Envelope}
use Rattle.txn_types.specs.declared.message.Msg.{Msg}
use Rattle.txn_types.specs.declared.message.Msg.TheVariants as msg
use Rattle.txn_types.specs.declared.node.Lsid.{Lsid}
use Rattle.txn_types.specs.declared.node.NodeId.TheVariants.{Router}
use Rattle.txn_types.specs.declared.operation.Op.{Op}
use Rattle.client_cmd.specs.declared.request.Request.{Request}
use Rattle.client_cmd.specs.declared.request.Request.TheVariants as request
use Rattle.client_cmd.specs.declared.request.Txn.{Txn}
use Rattle.client_reply.specs.declared.reply.Refusal.TheVariants as refusal
use Rattle.client_reply.specs.declared.reply.Reply.{Reply}
use Rattle.op_msg.specs.Asking.{wants_reply}
use Rattle.router_state.specs.declared.deed.Deed.{Deed}
use Rattle.router_state.specs.declared.state.Asker.{Asker}
use Rattle.router_state.specs.declared.state.Doing.{Doing}
use Rattle.router_state.specs.declared.state.Doing.TheVariants.{Begun, Sought}
use Rattle.router_state.specs.declared.state.Seeking.{Seeking}
use Rattle.router_state.specs.declared.state.Session.{Session}
use Rattle.router_state.specs.declared.state.Transaction.{Transaction}
use Rattle.router_state.specs.Deeds.{Move, still, answers, both, aborting, done_in}
use Rattle.router_state.specs.State.{Post, RouterState, session_of, is_waiting}
use Rattle.router_rules.specs.Ends as en
use Rattle.router_rules.specs.Resends as rs
use Rattle.router_rules.specs.Serving.{answered_in, ended_in}
use Rattle.router_rules.specs.Statements as st
use Rattle.router_rules.specs.Times.{walled, met, timed}
use Rattle.router_rules.specs.Tokens as tk
use Rattle.router_plan.specs.declared.message.Unserved.{Unserved}
use Rattle.router_plan.specs.declared.message.Unserved.TheVariants as un
use Rattle.router_plan.specs.Messages.{asked_in}
use Rattle.router_plan.specs.Plans.{told_also}
use Rattle.router_plan.specs.Refusals.{begun_in, statement_refusal, commit_refusal, abort_refusal}
use Rattle.router_plan.specs.Refusals.{too_old, busy, started, no_transaction, after_commit}
use Rattle.router_plan.specs.Refusals.{too_long, too_many, spent, many_shards, known_aborted, is_so}
use Rattle.router_plan.specs.Spelling.{letter_of}
use Rattle.router_core.specs.Requests as rq
use Rattle.router_core.specs.Step as sp
use Rattle.shard_image.proofs.Sessions.{entry_there}
use Rattle.participant.proofs.Cases.{either}
use Rattle.txn_types.specs.declared.message.Statement.{Statement}
use Rattle.answer_laws.proofs.Fits.{PostFits, AllFit, DoingFits, EntryFits, RouterFits, GoesOn}
use Rattle.answer_laws.proofs.Fits.{DeedFits, AllGo, MoveFits, AskFits, AskedFits, Unless}
use Rattle.answer_laws.proofs.Fits.{HappenedFits, EventFits, Asks, NoStatement}
use Rattle.answer_laws.specs.Parts.{SentTo, SentFit}
use Rattle.world_laws.proofs.Naming.{one, each}
use Rattle.answer_laws.proofs.Deeds.{Own, both_name, own_deed, asks_name, leaves_name, leaves_any}
use Rattle.answer_laws.proofs.Deeds.{commit_asked_names, client_aborts_name, answered_names}
use Rattle.answer_laws.proofs.Deeds.{ended_names, gone_names, session_names, stays_names}
use Rattle.answer_laws.proofs.Deeds.{seeks_in_names, anew_given}
use Rattle.world_laws.proofs.Going.{first_is, rest_is, some_same}
use Rattle.answer_laws.proofs.Going.{all_self, all_then, done_names, in_each_names}
use Rattle.world_laws.proofs.Beginning.{four_none, so_not, not_lower, same_unless, lower_if}
use Rattle.world_laws.proofs.Beginning.{start_above, commit_above}
use Rattle.world_laws.proofs.Beginning.{is_begun, is_session}

-- What refusals leave.

-- a statement that isn't refused, of a transaction that its session hasn't begun, is above the
-- session's number
fresh_if : (s : RouterState) (conn : ℕ) (session : Option Session) (txn : Txn) (op : Op)
    → statement_refusal s conn session txn op ≡ None → begun_in session txn.number ≡ None
    → (old : Session) → session ≡ Some old → old.number <ℤ txn.number
unfolding statement_refusal
fresh_if s conn session txn op h none old is =
    let n = txn.number in
    let f = four_none (too_old session n) (busy session conn) (started session txn) (no_transaction
    session n txn.start false) (after_commit session n ∷ too_long session n ∷ too_many s session
    ∷ spent s session n ∷ many_shards s.chunks op ∷ known_aborted session n ∷ []) h in
    let lower : int_lt n old.number ≡ false =
    not_lower n old (ap (λ (o : Option Session). too_old o n) (sym is) ∙ f.0) in
    let same : (txn.start && int_eq old.number n) ≡ false =
    ap (λ (o : Option Session). txn.start && is_so (λ (s : Session). int_eq s.number n) o) (sym is)
    ∙ so_not (txn.start && is_so (λ (s : Session). int_eq s.number n) session)
    (refusal.Started n) f.1 in
    let starts : not txn.start ≡ false =
    ap (λ (o : Option Transaction). is_none o && not txn.start) (sym none) ∙ so_not (is_none
    (begun_in session n) && not txn.start) (refusal.NoTransaction n false) f.2 in
    start_above old txn.number txn.start lower same starts

-- Sessions of a router.

either_if : {A : Type 0} (test : Bool) (Q : A → Type 0) (x y : A) → (test ≡ true → Q x)
    → (test ≡ false → Q y) → Q (if test then x else y)
either_if true Q x y a b = a refl
either_if false Q x y a b = b refl

entry_case : (Q : ℕ → Statement → Type 0) (lsid : Lsid) (entry : Lsid
    × Session) (entries : BySession Session) (s : Session) → EntryFits Q entry
    → (entry_of lsid entries ≡ Some s → DoingFits Q s.doing)
    → (test : Bool) → same_lsid lsid entry.0 ≡ test → entry_of lsid (entry ∷ entries) ≡ Some s
    → DoingFits Q s.doing
entry_case Q lsid entry entries s this more true here e =
    let old : entry.1 ≡ s = some_same entry.1 s (sym (first_is lsid entry entries here) ∙ e) in
    subst (λ (x : Session). DoingFits Q x.doing) old this
entry_case Q lsid entry entries s this more false here e =
    more (sym (rest_is lsid entry entries here) ∙ e)

entry_named : (Q : ℕ → Statement → Type 0) (lsid : Lsid) (entries : BySession Session) (s : Session)
    → All (EntryFits Q) entries → entry_of lsid entries ≡ Some s → DoingFits Q s.doing
entry_named Q lsid [] s h e = grind arith
entry_named Q lsid (entry ∷ entries) s h e =
    entry_case Q lsid entry entries s (All-head (EntryFits Q) entry entries h) (entry_named Q lsid
    entries s (All-tail (EntryFits Q) entry entries h)) (same_lsid lsid entry.0) refl e

-- what is done with a transaction that was begun
own_done : (Q : ℕ → Statement → Type 0) (r : RouterState) (lsid : Lsid) (number : ℤ)
    (t : Transaction) (d : Deed) → begun_in (session_of r lsid) number ≡ Some t → RouterFits Q r
    → (AllFit Q t.waiting → Own Q number t.tag t.k d) → MoveFits Q r (done_in r lsid d)
own_done Q r lsid number t d e h f =
    let b = is_begun (session_of r lsid) number t e in
    let s = is_session b.there number t b.number_is b.doing in
    let n = subst (λ (x : Session). DoingFits Q x.doing) s (entry_named Q lsid r.sessions
    b.there h b.is) in
    let k = own_deed Q lsid number t d (f n) in
    done_names Q r lsid d h k.doing k.given (λ old x. subst (λ (y : Session). GoesOn y d.session)
    (sym (some_same old b.there (sym x ∙ b.is) ∙ s)) k.goes)

still_names : (Q : ℕ → Statement → Type 0) (r : RouterState) → RouterFits Q r
    → MoveFits Q r (still r)
still_names Q r h = record {
  state = h;
  given = record { aborts = All-nil (PostFits Q); sends = All-nil (PostFits Q) };
  goes = all_self r r refl;
  chunks = refl;
}

replied_names : (Q : ℕ → Statement → Type 0) (r : RouterState) (asker : Asker) (reply : Reply)
    → RouterFits Q r → MoveFits Q r (answers r asker reply)
replied_names Q r asker reply h = record {
  state = h;
  given = record { aborts = All-nil (PostFits Q); sends = All-nil (PostFits Q) };
  goes = all_self r r refl;
  chunks = refl;
}

-- Statements.

left_names : (Q : ℕ → Statement → Type 0) (r : RouterState) (lsid : Lsid) (s : Option Session)
    → session_of r lsid ≡ s → RouterFits Q r → AllFit Q (rq.left_of lsid s)
left_names Q r lsid None e h = All-nil (PostFits Q)
left_names Q r lsid (Some s) e h = leaves_name Q lsid s (entry_named Q lsid r.sessions s h e)

begun_as : (Q : ℕ → Statement → Type 0) (lsid : Lsid) (number : ℤ) (t : Transaction) (d : Deed)
    → Own Q number t.tag t.k d → DoingFits Q d.session.doing
begun_as Q lsid number t d o = (own_deed Q lsid number t d o).doing

begins_names : (Q : ℕ → Statement → Type 0) (r : RouterState) (lsid : Lsid) (s : Option Session)
    (number : ℤ) (asker : Asker) (op : Op) (read_at : ℕ) → session_of r lsid ≡ s
    → ((old : Session) → s ≡ Some old → old.number <ℤ number)
    → AllFit Q (st.statements_to r.chunks lsid number (rq.begun_at r read_at) op) → RouterFits Q r
    → MoveFits Q r (rq.begins_at r lsid s number asker op read_at)
begins_names Q r lsid s number asker op read_at e fresh p h =
    let t = rq.begun_at r read_at in
    let deed = st.asks r.chunks lsid number asker op t in
    let o = asks_name Q r.chunks lsid number asker op t p in
    let d = rq.behind_left lsid s deed in
    let m = done_names Q (rq.drawn r read_at) lsid d h (begun_as Q lsid number
    t deed o) (both_name Q (aborting (rq.left_of lsid s)) deed.given
    (record { aborts = left_names Q r lsid s e h; sends = All-nil (PostFits Q) }) o.given)
    (λ old x. inl (fresh old (sym e ∙ x))) in
    record { state = m.state; given = m.given; goes = m.goes; chunks = m.chunks }

states_names : (Q : ℕ → Statement → Type 0) (r : RouterState) (asker : Asker) (txn : Txn)
    (op : Op) (at : Option ℕ) (refusal : Option Reply) (own : Option Transaction)
    → statement_refusal r asker.conn (session_of r txn.lsid) txn op ≡ refusal
    → begun_in (session_of r txn.lsid) txn.number ≡ own
    → AllFit Q (rq.unless_refused r asker refusal (rq.states r txn.lsid (session_of r txn.lsid)
    txn.number asker op at own)).given.sends → RouterFits Q r
    → MoveFits Q r (rq.unless_refused r asker refusal
    (rq.states r txn.lsid (session_of r txn.lsid) txn.number asker op at own))
states_names Q r asker txn op at (Some why) own a b p h = replied_names Q r asker why h
states_names Q r asker txn op at None (Some t) a b p h = own_done Q r txn.lsid txn.number t _ b h
    (λ w. asks_name Q r.chunks txn.lsid txn.number asker op t p)
states_names Q r asker txn op at None None a b p h =
    begins_names Q r txn.lsid (session_of r txn.lsid) txn.number asker op _ refl
    (fresh_if r asker.conn (session_of r txn.lsid) txn op a b) p h

statement_names : (Q : ℕ → Statement → Type 0) (r : RouterState) (asker : Asker) (txn : Option Txn)
    (op : Op) (at : Option ℕ) → AllFit Q (rq.statement r asker txn op at).given.sends
    → RouterFits Q r → MoveFits Q r (rq.statement r asker txn op at)
statement_names Q r asker None op at p h = let txn = rq.by_itself r asker.conn in
    states_names Q r asker txn op at (statement_refusal r asker.conn (session_of r txn.lsid) txn op)
    (begun_in (session_of r txn.lsid) txn.number) refl refl p h
statement_names Q r asker (Some txn) op at p h =
    states_names Q r asker txn op at (statement_refusal r asker.conn (session_of r txn.lsid) txn op)
    (begun_in (session_of r txn.lsid) txn.number) refl refl p h

-- Commits, also by a token, and aborts.

seeks_larger : (Q : ℕ → Statement → Type 0) (lsid : Lsid) (number : ℤ) (asker : Asker) (k : Seeking)
    (s : Session) → s.number <ℤ number → DoingFits Q s.doing
    → DeedFits Q lsid s (record {
      session = (tk.asks_anew lsid number k []).session;
      given = both (aborting (en.leaves lsid s)) (tk.asks_anew lsid number k []).given;
    })
seeks_larger Q lsid number asker k s less h = record {
  doing = tt;
  given = both_name Q (aborting (en.leaves lsid s)) (tk.asks_anew lsid number k []).given
      (record { aborts = leaves_name Q lsid s h; sends = All-nil (PostFits Q) }) (anew_given Q lsid
      number k []);
  goes = inl less;
}

seeks_doing : (Q : ℕ → Statement → Type 0) (lsid : Lsid) (number own : ℤ) (asker : Asker)
    (k : Seeking) (doing : Doing) → int_lt number own ≡ false → DoingFits Q doing
    → DeedFits Q lsid (record { number = own; doing = doing })
    (tk.seeks_by lsid number asker k (Some (record { number = own; doing = doing })))
seeks_doing Q lsid number own asker k (Begun t) lower h =
    either_if (int_lt own number) (DeedFits Q lsid (record { number = own; doing = Begun t })) _ _
    (λ is. seeks_larger Q lsid number asker k (record { number = own; doing = Begun t }) (lower_if
    own number is) h) (λ is. stays_names Q lsid (record { number = own; doing = Begun t }) h)
seeks_doing Q lsid number own asker k (Sought seeking known) lower h =
    either_if (int_lt own number)
    (DeedFits Q lsid (record { number = own; doing = Sought seeking known })) _ _
    (λ is. seeks_larger Q lsid number asker k
    (record { number = own; doing = Sought seeking known }) (lower_if own number is) h)
    (λ is. subst (λ (n : ℤ). DeedFits Q lsid (record { number = n; doing = Sought seeking known })
    (tk.seeks_in lsid number asker k seeking known)) (sym (same_unless own number lower is))
    (seeks_in_names Q lsid number asker k seeking known))

seeks_some : (Q : ℕ → Statement → Type 0) (lsid : Lsid) (number : ℤ) (asker : Asker)
    (k : Seeking) (s : Session) → int_lt number s.number ≡ false → DoingFits Q s.doing
    → DeedFits Q lsid s (tk.seeks_by lsid number asker k (Some s))
seeks_some Q lsid number asker k s lower h =
    seeks_doing Q lsid number s.number asker k s.doing lower h

seeks_done : (Q : ℕ → Statement → Type 0) (r : RouterState) (lsid : Lsid) (number : ℤ)
    (asker : Asker) (k : Seeking) (s : Option Session) → session_of r lsid ≡ s
    → ((old : Session) → s ≡ Some old → int_lt number old.number ≡ false) → RouterFits Q r
    → MoveFits Q r (done_in r lsid (tk.seeks_by lsid number asker k s))
seeks_done Q r lsid number asker k None e lower h = done_names Q r lsid _ h tt (anew_given Q lsid
    number k []) (λ old x. let bad : None ≡ Some old = sym e ∙ x in grind (arith, bad))
seeks_done Q r lsid number asker k (Some s) e lower h =
    let d =
    seeks_some Q lsid number asker k s (lower s refl) (entry_named Q lsid r.sessions s h e) in
    done_names Q r lsid _ h d.doing d.given (λ old x. subst (λ (y : Session). GoesOn y
    (tk.seeks_by lsid number asker k (Some s)).session) (some_same s old (sym e ∙ x)) d.goes)

sought_names : (Q : ℕ → Statement
    → Type 0) (r : RouterState) (asker : Asker) (txn : Txn) (t : Option Token) → ((old : Session)
    → session_of r txn.lsid ≡ Some old → int_lt txn.number old.number ≡ false) → RouterFits Q r
    → MoveFits Q r (rq.commit_sought r asker txn (session_of r txn.lsid) t)
sought_names Q r asker txn None lower h = still_names Q r h
sought_names Q r asker txn (Some (token.Early tag)) lower h = still_names Q r h
sought_names Q r asker txn (Some (token.Placed tag shard boot)) lower h =
    seeks_done Q r txn.lsid txn.number asker _ (session_of r txn.lsid) refl lower h
sought_names Q r asker txn (Some token.Other) lower h = still_names Q r h

commits_names : (Q : ℕ → Statement → Type 0) (r : RouterState) (asker : Asker)
    (txn : Txn) (t : Option Token) (refusal : Option Reply) (own : Option Transaction)
    → commit_refusal r asker.conn (session_of r txn.lsid) txn t ≡ refusal
    → begun_in (session_of r txn.lsid) txn.number ≡ own → RouterFits Q r → MoveFits Q r
    (rq.unless_refused r asker refusal (rq.commit_by r asker txn (session_of r txn.lsid) t own))
commits_names Q r asker txn t (Some why) own a b h = replied_names Q r asker why h
commits_names Q r asker txn t None None a b h =
    sought_names Q r asker txn t (commit_above r asker.conn (session_of r txn.lsid) txn t a) h
commits_names Q r asker txn t None (Some own) a b h = own_done Q r txn.lsid txn.number own _ b h
    (λ w. commit_asked_names Q txn.lsid txn.number asker own w)

commit_names : (Q : ℕ → Statement → Type 0) (r : RouterState) (asker : Asker) (txn : Option Txn)
    (t : Option Token) → RouterFits Q r → MoveFits Q r (rq.commit r asker txn t)
commit_names Q r asker None t h = still_names Q r h
commit_names Q r asker (Some txn) t h = commits_names Q r asker txn t (commit_refusal r asker.conn
    (session_of r txn.lsid) txn t) (begun_in (session_of r txn.lsid) txn.number) refl refl h

aborts_names : (Q : ℕ → Statement → Type 0) (r : RouterState) (asker : Asker)
    (txn : Txn) (refusal : Option Reply) (own : Option Transaction)
    → begun_in (session_of r txn.lsid) txn.number ≡ own → RouterFits Q r
    → MoveFits Q r (rq.unless_refused r asker refusal (rq.abort_by r asker txn own))
aborts_names Q r asker txn (Some why) own b h = replied_names Q r asker why h
aborts_names Q r asker txn None None b h = still_names Q r h
aborts_names Q r asker txn None (Some own) b h = own_done Q r txn.lsid txn.number own _ b h (λ w.
    client_aborts_name Q txn.lsid txn.number asker own w)

abort_names : (Q : ℕ → Statement → Type 0) (r : RouterState) (asker : Asker) (txn : Option Txn)
    → RouterFits Q r → MoveFits Q r (rq.abort r asker txn)
abort_names Q r asker None h = still_names Q r h
abort_names Q r asker (Some txn) h = aborts_names Q r asker txn (abort_refusal r asker.conn
    (session_of r txn.lsid) txn) (begun_in (session_of r txn.lsid) txn.number) refl h

-- Ends of sessions.

end_names : (Q : ℕ → Statement → Type 0) (r : RouterState) (lsid : Lsid) (s : Option Session)
    → session_of r lsid ≡ s → RouterFits Q r → MoveFits Q r (en.end_session r lsid s)
end_names Q r lsid None e h = still_names Q r h
end_names Q r lsid (Some s) e h =
    let d = session_names Q lsid s (entry_named Q lsid r.sessions s h e) in
    done_names Q r lsid (en.ends_session lsid s) h d.doing d.given (λ old x. subst (λ (y : Session).
    GoesOn y (en.ends_session lsid s).session) (some_same s old (sym e ∙ x)) d.goes)

end_all_names : (Q : ℕ → Statement → Type 0) (lsids : List Lsid) (r : RouterState) → RouterFits Q r
    → MoveFits Q r (en.end_sessions r lsids)
end_all_names Q [] r h = still_names Q r h
end_all_names Q (lsid ∷ lsids) r h =
    let first = end_names Q r lsid (session_of r lsid) refl h in
    let next = (en.end_session r lsid (session_of r lsid)).state in
    let more = end_all_names Q lsids next first.state in
    record {
      state = more.state;
      given = both_name Q (en.end_session r lsid (session_of r lsid)).given (en.end_sessions next
          lsids).given first.given more.given;
      goes = all_then r next (en.end_sessions next lsids).state first.goes more.goes;
      chunks = more.chunks ∙ first.chunks;
    }

-- Requests.

also_names : (Q : ℕ → Statement → Type 0) (r : RouterState) (m : Move) (asker : Asker)
    (legacy : Bool) (reply : Reply) → MoveFits Q r m → MoveFits Q r (told_also m asker legacy reply)
also_names Q r m asker legacy reply h = record {
  state = h.state;
  given = record {
    aborts = All-append (PostFits Q) m.given.aborts [] h.given.aborts (All-nil (PostFits Q));
    sends = All-append (PostFits Q) m.given.sends [] h.given.sends (All-nil (PostFits Q));
  };
  goes = h.goes;
  chunks = h.chunks;
}

-- the times that a request names change no session
met_names : (Q : ℕ → Statement → Type 0) (r : RouterState) (time after : Option ℕ) (m : Move)
    → MoveFits Q (met r time after) m → MoveFits Q r m
met_names Q r time after m h =
    record { state = h.state; given = h.given; goes = h.goes; chunks = h.chunks }

serves_names : (Q : ℕ → Statement → Type 0) (r : RouterState) (asker : Asker) (legacy : Bool)
    (x : Request) → AskFits Q r asker x → RouterFits Q r → MoveFits Q r (rq.serves r asker legacy x)
unfolding rq.serves
serves_names Q r asker legacy (request.Ping more time) p h =
    also_names Q r _ asker legacy _ (met_names Q r time None _ (still_names Q (met r time None) h))
serves_names Q r asker legacy (request.Hello old_name more time) p h =
    also_names Q r _ asker legacy _ (met_names Q r time None _ (still_names Q (met r time None) h))
serves_names Q r asker legacy (request.Statement op txn at after more time) p h =
    met_names Q r time after _ (statement_names Q (met r time after) asker txn op at p h)
serves_names Q r asker legacy (request.Commit txn t more time) p h =
    met_names Q r time None _ (commit_names Q (met r time None) asker txn t h)
serves_names Q r asker legacy (request.Abort txn more time) p h =
    met_names Q r time None _ (abort_names Q (met r time None) asker txn h)
serves_names Q r asker legacy (request.EndSessions ids more time) p h = also_names Q r _ asker
    legacy _ (met_names Q r time None _ (end_all_names Q ids (met r time None) h))

served_names : (Q : ℕ → Statement
    → Type 0) (r : RouterState) (conn : ℕ) (bytes : List ℕ) (x : Result Request Unserved)
    → AskedFits Q r conn bytes x → RouterFits Q r → MoveFits Q r (sp.served r conn bytes x)
served_names Q r conn bytes (Ok asked) p h = serves_names Q r (sp.asker_by conn bytes) _ asked p h
served_names Q r conn bytes (Err (un.Told why)) p h =
    also_names Q r (still r) _ _ _ (still_names Q r h)
served_names Q r conn bytes (Err (un.Closed number)) p h = still_names Q r h
served_names Q r conn bytes (Err un.Memory) p h = still_names Q r h

silent_names : (Q : ℕ → Statement → Type 0) (r : RouterState) (test : Bool) (m : Move)
    → MoveFits Q r m → MoveFits Q r (sp.unless_silent test m)
silent_names Q r true m h = h
silent_names Q r false m h = record {
  state = h.state;
  given = record { aborts = h.given.aborts; sends = h.given.sends };
  goes = h.goes;
  chunks = h.chunks;
}

client_names : (Q : ℕ → Statement → Type 0) (r : RouterState) (conn : ℕ) (bytes : List ℕ)
    (test : Bool) → Unless test (AskedFits Q r conn bytes (asked_in r.wall bytes)) → RouterFits Q r
    → MoveFits Q r (if test then still r
    else sp.unless_silent (wants_reply bytes) (sp.served r conn bytes (asked_in r.wall bytes)))
client_names Q r conn bytes true p h = still_names Q r h
client_names Q r conn bytes false p h =
    silent_names Q r (wants_reply bytes) _ (served_names Q r conn bytes (asked_in r.wall bytes) p h)

-- Resends.

abbrev Un : (ℕ → Statement → Type 0) → rs.Unanswered → Type 0
Un Q u = PostFits Q u.1

inserted_names : (Q : ℕ → Statement → Type 0) (a : rs.Unanswered) (others : List rs.Unanswered)
    → Un Q a → All (Un Q) others → All (Un Q) (rs.inserted a others)
inserted_names Q a [] k h = one (Un Q) a k
inserted_names Q a (b ∷ others) k h =
    either (is_lt (rs.waiting_cmp a b)) (All (Un Q)) _ _ (All-cons (Un Q) a (b ∷ others) k h)
    (All-cons (Un Q) b (rs.inserted a others) (All-head (Un Q) b others h)
    (inserted_names Q a others k (All-tail (Un Q) b others h)))

order_names : (Q : ℕ → Statement → Type 0) (us : List rs.Unanswered) → All (Un Q) us
    → All (Un Q) (rs.in_order us)
order_names Q [] h = h
order_names Q (u ∷ us) h = inserted_names Q u (rs.in_order us) (All-head (Un Q) u us h)
    (order_names Q us (All-tail (Un Q) u us h))

sought_un : (Q : ℕ → Statement → Type 0) (lsid : Lsid) (number : ℤ) (k : Option Seeking)
    → All (Un Q) (rs.sought_post lsid number k)
sought_un Q lsid number None = All-nil (Un Q)
sought_un Q lsid number (Some k) = one (Un Q) _ tt

waiting_un : (Q : ℕ → Statement → Type 0) (lsid : Lsid) (number : ℤ) (doing : Doing)
    → DoingFits Q doing
    → All (Un Q) (rs.waiting_in (lsid, record { number = number; doing = doing }))
waiting_un Q lsid number (Begun t) h = All-map (Un Q) (λ (post : Post). (t.tag, post)) t.waiting h
waiting_un Q lsid number (Sought seeking known) h = sought_un Q lsid number seeking

all_un : (Q : ℕ → Statement → Type 0) (sessions : BySession Session) → All (EntryFits Q) sessions
    → All (Un Q) (flat_map rs.waiting_in sessions)
all_un Q [] h = All-nil (Un Q)
all_un Q (entry ∷ entries) h =
    All-append (Un Q) (rs.waiting_in entry) (flat_map rs.waiting_in entries)
    (waiting_un Q entry.0 entry.1.number entry.1.doing (All-head (EntryFits Q) entry entries h))
    (all_un Q entries (All-tail (EntryFits Q) entry entries h))

resent_names : (Q : ℕ → Statement → Type 0) (r : RouterState) → RouterFits Q r
    → AllFit Q (rs.resent r)
resent_names Q r h =
    All-append (PostFits Q) _ (rs.unanswered r.sessions)
    (each (PostFits Q) _ (range_with_len 0 r.chunks.shards) (λ x. tt))
    (All-map (PostFits Q) (λ (a : rs.Unanswered). a.1) (rs.in_order (flat_map rs.waiting_in
    r.sessions)) (order_names Q (flat_map rs.waiting_in r.sessions) (all_un Q r.sessions h)))

-- The step.

delivered_names : (Q : ℕ → Statement → Type 0) (r : RouterState) (m : Msg) → RouterFits Q r
    → MoveFits Q r (sp.delivered r m)
delivered_names Q r (msg.Answer a) h =
    in_each_names Q (answered_in a) r (λ lsid s k. answered_names Q a lsid s.number s.doing k) h
delivered_names Q r (msg.Outcome o) h =
    in_each_names Q (ended_in o) r (λ lsid s k. ended_names Q o lsid s.number s.doing k) h
delivered_names Q r other h = still_names Q r h

happened_names : (Q : ℕ → Statement → Type 0) (r : RouterState) (w : Happening) → HappenedFits Q r w
    → RouterFits Q r → MoveFits Q r (sp.happened r w)
happened_names Q r (what.Client conn bytes) p h =
    client_names Q r conn bytes (is_waiting r conn) p h
happened_names Q r (what.Gone conn) p h =
    in_each_names Q (en.gone_from conn) r (gone_names Q conn) h
happened_names Q r (what.Deliver e) p h = let m = delivered_names Q (timed r e.time) e.msg h in
    record { state = m.state; given = m.given; goes = m.goes; chunks = m.chunks }
happened_names Q r what.Resend p h = record {
  state = h;
  given = record { aborts = All-nil (PostFits Q); sends = resent_names Q r h };
  goes = all_self r r refl;
  chunks = refl;
}
happened_names Q r what.Moment p h = still_names Q r h

-- what a step leaves and gives out
pub record StepFits (Q : ℕ → Statement → Type 0) (s t : RouterState)
    (sent : List Envelope) : Type 0 where
  pub chunks : t.chunks ≡ s.chunks
  pub state : RouterFits Q t
  pub out : SentFit Q sent
  pub goes : AllGo s t

pub step_names : (Q : ℕ → Statement → Type 0) (want : Bool) (r : RouterState) (e : NodeEvent)
    → EventFits Q want r e → RouterFits Q r
    → StepFits Q r (sp.router_step want r e).state
    (given_out (sp.answer_of want (sp.router_step want r e)))
unfolding sp.router_step
step_names Q true r e p h = record {
  state = h;
  out = All-nil (λ (e : Envelope). SentTo Q e.to e.msg);
  goes = all_self r r refl;
  chunks = refl;
}
step_names Q false r e p h =
    let m = sp.happened (walled r e.wall) e.what in
    let k = happened_names Q (walled r e.wall) e.what p h in
    record {
      state = k.state;
      out =
          All-map (λ (e : Envelope). SentTo Q e.to e.msg) (sent_by (Router m.state.number)
          m.state.time) (map letter_of (m.given.aborts ++ m.given.sends))
          (All-map (λ (l : Letter). SentTo Q l.0 l.1) letter_of (m.given.aborts ++ m.given.sends)
          (All-append (PostFits Q) m.given.aborts m.given.sends k.given.aborts k.given.sends));
      goes = k.goes;
      chunks = k.chunks;
    }

-- What a statement asks.

pub leaves_fit : (Q : ℕ → Statement → Type 0) (lsid : Lsid) (s : Option Session)
    → AllFit Q (rq.left_of lsid s)
leaves_fit Q lsid None = All-nil (PostFits Q)
leaves_fit Q lsid (Some s) = leaves_any Q lsid s

asks_begun : (r : RouterState) (lsid : Lsid) (number : ℤ) (asker : Asker)
    (op : Op) (t : Transaction) → begun_in (session_of r lsid) number ≡ Some t
    → Asks r op (done_in r lsid (st.asks r.chunks lsid number asker op t))
asks_begun r lsid number asker op t e = record {
  lsid = lsid;
  number = number;
  t = t;
  sends = refl;
  aborts = All-nil (PostFits NoStatement);
  of = inl e;
  come = (
    (st.asks r.chunks lsid number asker op t).session,
    entry_there lsid (st.asks r.chunks lsid number asker op t).session r.sessions,
    inr (refl, (refl, omega arith)),
  );
}

asks_new : (r : RouterState) (lsid : Lsid) (s : Option Session) (number : ℤ) (asker : Asker)
    (op : Op) (read_at : ℕ) → Asks r op (rq.begins_at r lsid s number asker op read_at)
asks_new r lsid s number asker op read_at =
    let t = rq.begun_at r read_at in
    let deed = st.asks r.chunks lsid number asker op t in
    record {
      lsid = lsid;
      number = number;
      t = t;
      sends = refl;
      aborts = All-append (PostFits NoStatement) (rq.left_of lsid s) [] (leaves_fit NoStatement lsid
          s) (All-nil (PostFits NoStatement));
      of = inr (refl, refl);
      come =
          (deed.session, entry_there lsid deed.session r.sessions, inr (refl, (refl, omega arith)));
    }

-- it asks nothing, and changes no session, or it asks so
abbrev pub MayAsk : RouterState → Op → Move → Type 0
MayAsk r op m = ((m.given.sends ≡ []) × (m.given.aborts ≡ [])) ⊎ Asks r op m

states_ask : (r : RouterState) (asker : Asker) (lsid : Lsid) (number : ℤ) (op : Op) (at : Option ℕ)
    (refusal : Option Reply) (own : Option Transaction) → begun_in (session_of r lsid) number ≡ own
    → MayAsk r op (rq.unless_refused r asker refusal
    (rq.states r lsid (session_of r lsid) number asker op at own))
states_ask r asker lsid number op at (Some why) own b = inl (refl, refl)
states_ask r asker lsid number op at None (Some t) b = inr (asks_begun r lsid number asker op t b)
states_ask r asker lsid number op at None None b =
    inr (asks_new r lsid (session_of r lsid) number asker op _)

pub statement_asks : (r : RouterState) (asker : Asker) (txn : Option Txn) (op : Op) (at : Option ℕ)
    → MayAsk r op (rq.statement r asker txn op at)
statement_asks r asker None op at = let txn = rq.by_itself r asker.conn in
    states_ask r asker txn.lsid txn.number op at (statement_refusal r asker.conn
    (session_of r txn.lsid) txn op) (begun_in (session_of r txn.lsid) txn.number) refl
statement_asks r asker (Some txn) op at =
    states_ask r asker txn.lsid txn.number op at (statement_refusal r asker.conn
    (session_of r txn.lsid) txn op) (begun_in (session_of r txn.lsid) txn.number) refl
