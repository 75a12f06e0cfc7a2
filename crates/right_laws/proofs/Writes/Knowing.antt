-- What a session knows of the writes of its transaction, each deed and each event at a router
-- keeps: they leave its tag and the shards that wrote, but for an Answer that it takes.
use Rattle.std.proofs.Common.{◌≡◌, inl, inr, ◌&&◌, ℕ, ℤ, Bool, true, false, not, List, [], ◌∷◌}
use Rattle.std.proofs.Common.{length, nat_eq, int_lt, is_none, Option, Some, None, Result, Ok, Err}
use Rattle.std.proofs.Common.{refl, sym, ap, subst, ◌∙◌}
use Rattle.txn_types.specs.Order.{same_tag}
use Rattle.txn_types.specs.declared.decision.Token.{Token}
use Rattle.txn_types.specs.declared.decision.Token.TheVariants as token
use Rattle.txn_types.specs.declared.decision.Told.{Told}
use Rattle.txn_types.specs.declared.decision.Told.TheVariants as told_as
use Rattle.txn_types.specs.declared.event.Happening.{Happening}
use Rattle.txn_types.specs.declared.event.Happening.TheVariants as what
use Rattle.txn_types.specs.declared.message.Msg.{Msg}
use Rattle.txn_types.specs.declared.message.Msg.TheVariants as msg
use Rattle.txn_types.specs.declared.message.Outcome.{Outcome}
use Rattle.txn_types.specs.declared.names.Tag.{Tag}
use Rattle.txn_types.specs.declared.node.Lsid.{Lsid}
use Rattle.txn_types.specs.declared.operation.Op.{Op}
use Rattle.txn_types.specs.declared.operation.OpReply.{OpReply}
use Rattle.op_msg.specs.Asking.{is_legacy, wants_reply}
use Rattle.client_cmd.specs.declared.request.Request.{Request}
use Rattle.client_cmd.specs.declared.request.Request.TheVariants as request
use Rattle.client_cmd.specs.declared.request.Txn.{Txn}
use Rattle.client_reply.specs.declared.reply.Reply.{Reply}
use Rattle.chunk_map.specs.Parts.{shards_of}
use Rattle.router_state.specs.declared.deed.Deed.{Deed}
use Rattle.router_state.specs.declared.state.Asker.{Asker}
use Rattle.router_state.specs.declared.state.Doing.{Doing}
use Rattle.router_state.specs.declared.state.Doing.TheVariants.{Begun, Sought}
use Rattle.router_state.specs.declared.state.Phase.{Phase}
use Rattle.router_state.specs.declared.state.Phase.TheVariants.{Idle, Asking, Checking, Deciding}
use Rattle.router_state.specs.declared.state.Phase.TheVariants.{Aborted}
use Rattle.router_state.specs.declared.state.Seeking.{Seeking}
use Rattle.router_state.specs.declared.state.Session.{Session}
use Rattle.router_state.specs.declared.state.Transaction.{Transaction}
use Rattle.router_state.specs.Deeds.{Move, done_in, in_each_session}
use Rattle.router_state.specs.Shards.{writers, readers}
use Rattle.router_state.specs.State.{Post, RouterState, session_of, is_waiting, asker_of, is_from}
use Rattle.router_state.specs.State.{is_own, commit_sent, is_waited, without}
use Rattle.router_rules.specs.Commits as co
use Rattle.router_rules.specs.Ends as en
use Rattle.router_rules.specs.Serving as sv
use Rattle.router_rules.specs.Statements as st
use Rattle.router_rules.specs.Times.{met, timed, read_time}
use Rattle.router_rules.specs.Tokens as tk
use Rattle.router_plan.specs.declared.message.Unserved.{Unserved}
use Rattle.router_plan.specs.declared.message.Unserved.TheVariants as un
use Rattle.router_plan.specs.Messages.{asked_in}
use Rattle.router_plan.specs.Refusals as rf
use Rattle.router_core.specs.Requests as rq
use Rattle.router_core.specs.Step as sp
use Rattle.participant.proofs.Cases.{either}
use Rattle.told_laws.proofs.Moves.{done_there, each_from, passes}
use Rattle.right_laws.proofs.Tellings.Moving.{of_begun}

-- `P` of a transaction that isn't aborted, `A` of one that is

module _ (P A : Tag → List ℕ → Type 0)
    (fall : (tag : Tag) (wrote : List ℕ) → P tag wrote → A tag wrote) where
  abbrev pub PhaseKnows : Tag → List ℕ → Phase → Type 0
  PhaseKnows tag wrote (Aborted sent) = A tag wrote
  PhaseKnows tag wrote other = P tag wrote

  abbrev pub DoingKnows : Doing → Type 0
  DoingKnows (Begun t) = PhaseKnows t.tag t.wrote t.phase
  DoingKnows (Sought seeking known) = Unit {0}

  abbrev pub Knows : Deed → Type 0
  Knows d = DoingKnows d.session.doing

  falls : (tag : Tag) (wrote : List ℕ) (p : Phase) → PhaseKnows tag wrote p → A tag wrote
  falls tag wrote (Aborted sent) h = h
  falls tag wrote other h = fall tag wrote h

  open_phase : (tag : Tag) (wrote : List ℕ) (p : Phase) → rf.is_aborted p ≡ false
      → PhaseKnows tag wrote p → P tag wrote
  open_phase tag wrote (Aborted sent) e h = let no : true ≡ false = e in cc
  open_phase tag wrote other e h = h

  -- Commits.

  decides_case : (lsid : Lsid) (number : ℤ) (asker : Option Asker) (t : Transaction)
      (parts : List (ℕ × ℕ)) → P t.tag t.wrote → Knows (co.decides_by lsid number asker t parts)
  decides_case lsid number asker t [] h = h
  decides_case lsid number asker t (first ∷ []) h = h
  decides_case lsid number asker t (first ∷ second ∷ more) h = h

  commits_case : (lsid : Lsid) (number : ℤ) (asker : Option Asker) (t : Transaction)
      (parts : List (ℕ × ℕ)) → P t.tag t.wrote → Knows (co.commits_by lsid number asker t parts)
  commits_case lsid number asker t [] h = decides_case lsid number asker t (writers t) h
  commits_case lsid number asker t (first ∷ more) h = h

  commit_phase : (lsid : Lsid) (number : ℤ) (asker : Asker) (t : Transaction) (p : Phase)
      → PhaseKnows t.tag t.wrote p
      → Knows (co.commit_asked lsid number asker (record t { phase = p }))
  commit_phase lsid number asker t Idle h =
      commits_case lsid number (Some asker) (record t { phase = Idle })
      (readers (record t { phase = Idle })) h
  commit_phase lsid number asker t (Deciding other) h =
      either (nat_eq (length t.waiting) 0) Knows _ _
      (decides_case lsid number (Some asker) (record t { phase = Deciding other })
      (writers (record t { phase = Deciding other })) h) h
  commit_phase lsid number asker t other h = h

  commit_knows : (lsid : Lsid) (number : ℤ) (asker : Asker) (t : Transaction)
      → DoingKnows (Begun t) → Knows (co.commit_asked lsid number asker t)
  commit_knows lsid number asker t h = commit_phase lsid number asker t t.phase h

  -- what is done with the reply to a statement
  pub replies_know : (lsid : Lsid) (number : ℤ) (asker : Asker) (op : Op) (t : Transaction)
      (r : OpReply) → P t.tag t.wrote
      → Knows (st.replies lsid number asker op (record t { phase = Idle }) r)
  replies_know lsid number asker op t r h =
      either (is_own lsid && not (st.is_cut r)) Knows
      (co.commits lsid number (Some asker)
      (record t { phase = Idle; reply = Some (st.reply_of op r None) })) _
      (commits_case lsid number (Some asker)
      (record t { phase = Idle; reply = Some (st.reply_of op r None) })
      (readers (record t { phase = Idle; reply = Some (st.reply_of op r None) })) h) h

  -- Outcomes.

  released_case : (lsid : Lsid) (number : ℤ) (asker : Option Asker) (t : Transaction)
      (posts : List Post) → P t.tag t.wrote
      → Knows (co.released lsid number asker (record t { phase = Checking asker }) posts)
  released_case lsid number asker t [] h =
      decides_case lsid number asker (record t { phase = Checking asker })
      (writers (record t { phase = Checking asker })) h
  released_case lsid number asker t (post ∷ posts) h = h

  checked_case : (lsid : Lsid) (number : ℤ) (asker : Option Asker) (o : Outcome)
      (t : Transaction) (x : Told) → P t.tag t.wrote
      → Knows (co.checked lsid number asker (record o { told = x })
      (record t { phase = Checking asker }))
  checked_case lsid number asker o t told_as.Released h =
      released_case lsid number asker t (without o.shard t.waiting) h
  checked_case lsid number asker o t (told_as.Committed at) h = h
  checked_case lsid number asker o t (told_as.Aborted why) h = fall t.tag t.wrote h
  checked_case lsid number asker o t (told_as.TooOld have) h = fall t.tag t.wrote h
  checked_case lsid number asker o t told_as.NoTrace h = fall t.tag t.wrote h

  decided_case : (lsid : Lsid) (number : ℤ) (asker : Option Asker) (o : Outcome)
      (t : Transaction) (x : Told) → P t.tag t.wrote
      → Knows (co.decided lsid number asker (record o { told = x }) t)
  decided_case lsid number asker o t told_as.Released h = h
  decided_case lsid number asker o t (told_as.Committed at) h = h
  decided_case lsid number asker o t (told_as.Aborted why) h = fall t.tag t.wrote h
  decided_case lsid number asker o t (told_as.TooOld have) h = h
  decided_case lsid number asker o t told_as.NoTrace h = h

  counted_case : (lsid : Lsid) (number : ℤ) (o : Outcome) (t : Transaction) (p : Phase)
      → PhaseKnows t.tag t.wrote p → Knows (co.counted lsid number o (record t { phase = p }))
  counted_case lsid number o t (Checking asker) h =
      checked_case lsid number asker o t o.told h
  counted_case lsid number o t (Deciding asker) h =
      decided_case lsid number asker o (record t { phase = Deciding asker }) o.told h
  counted_case lsid number o t other h = h

  outcome_knows : (o : Outcome) (lsid : Lsid) (number : ℤ) (doing : Doing) → DoingKnows doing
      → Knows (sv.ended_in o lsid (record { number = number; doing = doing }))
  outcome_knows o lsid number (Begun t) h =
      either (same_tag t.tag o.tag && is_waited o.shard t.waiting) Knows
      (co.counted lsid number o t) _ (counted_case lsid number o t t.phase h) h
  outcome_knows o lsid number (Sought None known) h = tt
  outcome_knows o lsid number (Sought (Some k) known) h =
      either (same_tag k.tag o.tag && nat_eq k.shard o.shard) Knows
      (tk.recovered number k known o) _ tt tt

  -- Ends.

  client_phase : (lsid : Lsid) (number : ℤ) (asker : Asker) (t : Transaction) (p : Phase)
      → PhaseKnows t.tag t.wrote p
      → Knows (en.client_aborts lsid number asker (record t { phase = p }))
  client_phase lsid number asker t (Aborted sent) h = h
  client_phase lsid number asker t other h = fall t.tag t.wrote h

  client_aborts_know : (lsid : Lsid) (number : ℤ) (asker : Asker) (t : Transaction)
      → DoingKnows (Begun t) → Knows (en.client_aborts lsid number asker t)
  client_aborts_know lsid number asker t h = client_phase lsid number asker t t.phase h

  session_knows : (lsid : Lsid) (number : ℤ) (doing : Doing) → DoingKnows doing
      → Knows (en.ends_session lsid (record { number = number; doing = doing }))
  session_knows lsid number (Begun t) h =
      either (is_none (asker_of (Begun t)) && not (commit_sent t.phase)) Knows
      (en.ends lsid number 2 t) _ (falls t.tag t.wrote t.phase h) h
  session_knows lsid number (Sought seeking known) h = tt

  gone_phase : (conn : ℕ) (lsid : Lsid) (number : ℤ) (t : Transaction) (p : Phase)
      → PhaseKnows t.tag t.wrote p
      → Knows (en.gone_asking conn lsid
      (record { number = number; doing = Begun (record t { phase = p }) }) (record t { phase = p }))
  gone_phase conn lsid number t (Asking asker op answers) h = fall t.tag t.wrote h
  gone_phase conn lsid number t other h = h

  gone_doing : (conn : ℕ) (lsid : Lsid) (number : ℤ) (doing : Doing) → DoingKnows doing
      → Knows (en.gone_in conn lsid (record { number = number; doing = doing }))
  gone_doing conn lsid number (Begun t) h = gone_phase conn lsid number t t.phase h
  gone_doing conn lsid number (Sought seeking known) h = tt

  gone_knows : (conn : ℕ) (lsid : Lsid) (s : Session) → DoingKnows s.doing
      → Knows (en.gone_from conn lsid s)
  gone_knows conn lsid s h =
      either (is_from conn (asker_of s.doing)) Knows _ _
      (gone_doing conn lsid s.number s.doing h) h

  -- Tokens.

  asks_for_know : (lsid : Lsid) (number : ℤ) (k : Seeking) (older : Option Seeking)
      (known : List Tag) → Knows (tk.asks_for lsid number k older known)
  asks_for_know lsid number k None known = tt
  asks_for_know lsid number k (Some older) known = either (tk.same_place older k) Knows _ _ tt tt

  seeks_in_know : (lsid : Lsid) (number : ℤ) (asker : Asker) (k : Seeking)
      (seeking : Option Seeking) (known : List Tag)
      → Knows (tk.seeks_in lsid number asker k seeking known)
  seeks_in_know lsid number asker k seeking known =
      either (tk.is_known k.tag known) Knows _ _ tt (asks_for_know lsid number k seeking known)

  seeks_doing : (lsid : Lsid) (number own : ℤ) (asker : Asker) (k : Seeking) (doing : Doing)
      → DoingKnows doing
      → Knows (tk.seeks_by lsid number asker k (Some (record { number = own; doing = doing })))
  seeks_doing lsid number own asker k (Begun t) h = either (int_lt own number) Knows _ _ tt h
  seeks_doing lsid number own asker k (Sought seeking known) h =
      either (int_lt own number) Knows _ _ tt (seeks_in_know lsid number asker k seeking known)

  -- Sessions of a router.

  abbrev pub RouterKnows : RouterState → Type 0
  RouterKnows r = (lsid : Lsid) (s : Session) → session_of r lsid ≡ Some s → DoingKnows s.doing

  abbrev After : Move → Type 0
  After m = RouterKnows m.state

  done_knows : (r : RouterState) (lsid : Lsid) (d : Deed) → RouterKnows r → Knows d
      → After (done_in r lsid d)
  done_knows r lsid d h first other v e =
      elim (done_there r lsid other d v e) [
        | inl w ↦ subst (λ (s : Session). DoingKnows s.doing) (sym w.1) first
        | inr w ↦ h other v w.1
      ]

  each_knows : (act : Lsid → Session → Deed) (r : RouterState)
      → ((lsid : Lsid) (s : Session) → session_of r lsid ≡ Some s → Knows (act lsid s))
      → After (in_each_session act r)
  each_knows act r f lsid v e =
      let k = each_from act r lsid v e in
      subst (λ (w : Session). DoingKnows w.doing) (sym k.2) (f lsid k.0 k.1)

  -- Statements.

  states_know : (r : RouterState) (asker : Asker) (lsid : Lsid) (number : ℤ) (op : Op)
      (at : Option ℕ) (refused : Option Reply) (own : Option Transaction) → RouterKnows r
      → P (rq.next_tag r) [] → rf.begun_in (session_of r lsid) number ≡ own
      → (refused ≡ None → rf.is_so (λ (t : Transaction). rf.is_aborted t.phase)
      (rf.begun_in (session_of r lsid) number) ≡ false)
      → After (rq.unless_refused r asker refused
      (rq.states r lsid (session_of r lsid) number asker op at own))
  states_know r asker lsid number op at (Some why) own h new b live = h
  states_know r asker lsid number op at None (Some t) h new b live =
      done_knows r lsid (st.asks r.chunks lsid number asker op t) h
      (open_phase t.tag t.wrote t.phase
      (ap (rf.is_so (λ (t : Transaction). rf.is_aborted t.phase)) (sym b) ∙ live refl)
      (of_begun DoingKnows r lsid number t (λ s there. h lsid s there) b))
  states_know r asker lsid number op at None None h new b live =
      let read_at = read_time r (is_own lsid) (shards_of r.chunks op) at in
      done_knows (rq.drawn r read_at) lsid (rq.behind_left lsid (session_of r lsid)
      (st.asks r.chunks lsid number asker op (rq.begun_at r read_at))) h new

  statement_knows : (r : RouterState) (asker : Asker) (txn : Option Txn) (op : Op)
      (at : Option ℕ) → RouterKnows r → P (rq.next_tag r) []
      → After (rq.statement r asker txn op at)
  statement_knows r asker None op at h new =
      let txn = rq.by_itself r asker.conn in
      states_know r asker txn.lsid txn.number op at
      (rf.statement_refusal r asker.conn (session_of r txn.lsid) txn op)
      (rf.begun_in (session_of r txn.lsid) txn.number) h new refl
      (λ e. (passes r asker.conn (session_of r txn.lsid) txn op e).aborted)
  statement_knows r asker (Some txn) op at h new =
      states_know r asker txn.lsid txn.number op at
      (rf.statement_refusal r asker.conn (session_of r txn.lsid) txn op)
      (rf.begun_in (session_of r txn.lsid) txn.number) h new refl
      (λ e. (passes r asker.conn (session_of r txn.lsid) txn op e).aborted)

  -- Commits and aborts.

  seeks_case : (r : RouterState) (lsid : Lsid) (number : ℤ) (asker : Asker) (k : Seeking)
      (s : Option Session) → RouterKnows r → session_of r lsid ≡ s
      → After (done_in r lsid (tk.seeks_by lsid number asker k s))
  seeks_case r lsid number asker k None h there =
      done_knows r lsid (tk.seeks_by lsid number asker k None) h tt
  seeks_case r lsid number asker k (Some s) h there =
      done_knows r lsid (tk.seeks_by lsid number asker k (Some s)) h
      (seeks_doing lsid number s.number asker k s.doing (h lsid s there))

  sought_knows : (r : RouterState) (asker : Asker) (txn : Txn) (t : Option Token)
      → RouterKnows r → After (rq.commit_sought r asker txn (session_of r txn.lsid) t)
  sought_knows r asker txn (Some (token.Placed tag shard boot)) h =
      seeks_case r txn.lsid txn.number asker
      (record { asker = Some asker; tag = tag; shard = shard; boot = boot })
      (session_of r txn.lsid) h refl
  sought_knows r asker txn None h = h
  sought_knows r asker txn (Some (token.Early tag)) h = h
  sought_knows r asker txn (Some token.Other) h = h

  commits_by_know : (r : RouterState) (asker : Asker) (txn : Txn) (t : Option Token)
      (refused : Option Reply) (own : Option Transaction) → RouterKnows r
      → rf.begun_in (session_of r txn.lsid) txn.number ≡ own
      → After (rq.unless_refused r asker refused (rq.commit_by r asker txn
      (session_of r txn.lsid) t own))
  commits_by_know r asker txn t (Some why) own h b = h
  commits_by_know r asker txn t None None h b = sought_knows r asker txn t h
  commits_by_know r asker txn t None (Some own) h b =
      done_knows r txn.lsid (co.commit_asked txn.lsid txn.number asker own) h
      (commit_knows txn.lsid txn.number asker own
      (of_begun DoingKnows r txn.lsid txn.number own (λ s there. h txn.lsid s there) b))

  commit_asked_knows : (r : RouterState) (asker : Asker) (txn : Option Txn) (t : Option Token)
      → RouterKnows r → After (rq.commit r asker txn t)
  commit_asked_knows r asker None t h = h
  commit_asked_knows r asker (Some txn) t h =
      commits_by_know r asker txn t (rf.commit_refusal r asker.conn (session_of r txn.lsid) txn t)
      (rf.begun_in (session_of r txn.lsid) txn.number) h refl

  aborts_by_know : (r : RouterState) (asker : Asker) (txn : Txn) (refused : Option Reply)
      (own : Option Transaction) → RouterKnows r
      → rf.begun_in (session_of r txn.lsid) txn.number ≡ own
      → After (rq.unless_refused r asker refused (rq.abort_by r asker txn own))
  aborts_by_know r asker txn (Some why) own h b = h
  aborts_by_know r asker txn None None h b = h
  aborts_by_know r asker txn None (Some own) h b =
      done_knows r txn.lsid (en.client_aborts txn.lsid txn.number asker own) h
      (client_aborts_know txn.lsid txn.number asker own
      (of_begun DoingKnows r txn.lsid txn.number own (λ s there. h txn.lsid s there) b))

  abort_knows : (r : RouterState) (asker : Asker) (txn : Option Txn) → RouterKnows r
      → After (rq.abort r asker txn)
  abort_knows r asker None h = h
  abort_knows r asker (Some txn) h =
      aborts_by_know r asker txn (rf.abort_refusal r asker.conn (session_of r txn.lsid) txn)
      (rf.begun_in (session_of r txn.lsid) txn.number) h refl

  end_knows : (r : RouterState) (lsid : Lsid) (o : Option Session) → session_of r lsid ≡ o
      → RouterKnows r → After (en.end_session r lsid o)
  end_knows r lsid None there h = h
  end_knows r lsid (Some s) there h =
      done_knows r lsid (en.ends_session lsid s) h
      (session_knows lsid s.number s.doing (h lsid s there))

  ends_know : (lsids : List Lsid) (r : RouterState) → RouterKnows r
      → After (en.end_sessions r lsids)
  ends_know [] r h = h
  ends_know (lsid ∷ lsids) r h =
      ends_know lsids (en.end_session r lsid (session_of r lsid)).state
      (end_knows r lsid (session_of r lsid) refl h)

  -- Requests.

  serves_know : (r : RouterState) (asker : Asker) (legacy : Bool) (x : Request) → RouterKnows r
      → P (rq.next_tag r) [] → After (rq.serves r asker legacy x)
  unfolding rq.serves
  serves_know r asker legacy (request.Ping more time) h new = h
  serves_know r asker legacy (request.Hello old_name more time) h new = h
  serves_know r asker legacy (request.Statement op txn at after more time) h new =
      statement_knows (met r time after) asker txn op at h new
  serves_know r asker legacy (request.Commit txn t more time) h new =
      commit_asked_knows (met r time None) asker txn t h
  serves_know r asker legacy (request.Abort txn more time) h new =
      abort_knows (met r time None) asker txn h
  serves_know r asker legacy (request.EndSessions ids more time) h new =
      ends_know ids (met r time None) h

  served_knows : (r : RouterState) (conn : ℕ) (bytes : List ℕ) (x : Result Request Unserved)
      → RouterKnows r → P (rq.next_tag r) [] → After (sp.served r conn bytes x)
  served_knows r conn bytes (Ok asked) h new =
      serves_know r (sp.asker_by conn bytes) (is_legacy bytes) asked h new
  served_knows r conn bytes (Err (un.Told why)) h new = h
  served_knows r conn bytes (Err (un.Closed number)) h new = h
  served_knows r conn bytes (Err un.Memory) h new = h

  silent_knows : (test : Bool) (m : Move) → After m → After (sp.unless_silent test m)
  silent_knows true m h = h
  silent_knows false m h = h

  client_knows : (r : RouterState) (conn : ℕ) (bytes : List ℕ) → RouterKnows r
      → P (rq.next_tag r) [] → After (sp.client r conn bytes)
  client_knows r conn bytes h new =
      either (is_waiting r conn) After _ _ h
      (silent_knows (wants_reply bytes) (sp.served r conn bytes (asked_in r.wall bytes))
      (served_knows r conn bytes (asked_in r.wall bytes) h new))

  -- What happens: of an Answer it is said what each session comes to.

  abbrev pub MsgKnows : RouterState → Msg → Type 0
  MsgKnows r (msg.Answer a) = (lsid : Lsid) (s : Session) → session_of r lsid ≡ Some s
      → Knows (sv.answered_in a lsid s)
  MsgKnows r other = RouterKnows r

  abbrev pub WhatKnows : RouterState → Happening → Type 0
  WhatKnows r (what.Deliver e) = MsgKnows r e.msg
  WhatKnows r other = RouterKnows r

  delivered_knows : (r : RouterState) (m : Msg) → MsgKnows r m → After (sp.delivered r m)
  delivered_knows r (msg.Answer a) h = each_knows (sv.answered_in a) r h
  delivered_knows r (msg.Outcome o) h =
      each_knows (sv.ended_in o) r
      (λ lsid s there. outcome_knows o lsid s.number s.doing (h lsid s there))
  delivered_knows r other h = h

  pub happened_knows : (r : RouterState) (w : Happening) → P (rq.next_tag r) []
      → WhatKnows r w → After (sp.happened r w)
  happened_knows r (what.Client conn bytes) new h = client_knows r conn bytes h new
  happened_knows r (what.Gone conn) new h =
      each_knows (en.gone_from conn) r (λ lsid s there. gone_knows conn lsid s (h lsid s there))
  happened_knows r (what.Deliver e) new h = delivered_knows (timed r e.time) e.msg h
  happened_knows r what.Resend new h = h
  happened_knows r what.Moment new h = h
