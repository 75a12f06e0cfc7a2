-- What an event does at a router keeps what its sessions say of the ends of their transactions.
use Rattle.std.proofs.Common.{◌≡◌, inl, inr, ◌&&◌, ℕ, ℤ, Bool, true, false, not, List, []}
use Rattle.std.proofs.Common.{◌∷◌, is_none, Option, Some, None, Result, Ok, Err, refl, sym}
use Rattle.std.proofs.Common.{ap, subst, ◌∙◌}
use Rattle.std.proofs.lemmas.List.Elements.{All-nil}
use Rattle.txn_types.specs.declared.decision.Token.{Token}
use Rattle.txn_types.specs.declared.decision.Token.TheVariants as token
use Rattle.txn_types.specs.declared.event.Happening.{Happening}
use Rattle.txn_types.specs.declared.event.Happening.TheVariants as what
use Rattle.txn_types.specs.declared.message.Msg.{Msg}
use Rattle.txn_types.specs.declared.message.Msg.TheVariants as msg
use Rattle.txn_types.specs.declared.names.Tag.{Tag}
use Rattle.txn_types.specs.declared.node.Lsid.{Lsid}
use Rattle.txn_types.specs.declared.operation.Op.{Op}
use Rattle.op_msg.specs.Asking.{is_legacy, wants_reply}
use Rattle.client_cmd.specs.declared.request.Request.{Request}
use Rattle.client_cmd.specs.declared.request.Request.TheVariants as request
use Rattle.client_cmd.specs.declared.request.Txn.{Txn}
use Rattle.client_reply.specs.declared.reply.Refusal.TheVariants as refusal
use Rattle.client_reply.specs.declared.reply.Reply.{Reply}
use Rattle.router_state.specs.declared.deed.Deed.{Deed}
use Rattle.router_state.specs.declared.state.Asker.{Asker}
use Rattle.router_state.specs.declared.state.Doing.{Doing}
use Rattle.router_state.specs.declared.state.Doing.TheVariants.{Begun, Sought}
use Rattle.router_state.specs.declared.state.Phase.{Phase}
use Rattle.router_state.specs.declared.state.Phase.TheVariants.{Idle, Asking, Checking, Deciding}
use Rattle.router_state.specs.declared.state.Phase.TheVariants.{Committed, Released, Aborted}
use Rattle.router_state.specs.declared.state.Seeking.{Seeking}
use Rattle.router_state.specs.declared.state.Session.{Session}
use Rattle.router_state.specs.declared.state.Transaction.{Transaction}
use Rattle.router_state.specs.Deeds.{Move, done_in, in_each_session}
use Rattle.router_state.specs.State.{RouterState, session_of, is_waiting, commit_sent, asker_of}
use Rattle.router_state.specs.State.{is_own}
use Rattle.chunk_map.specs.Parts.{shards_of}
use Rattle.router_rules.specs.Ends as en
use Rattle.router_rules.specs.Serving as sv
use Rattle.router_rules.specs.Statements as st
use Rattle.router_rules.specs.Times.{met, timed, read_time}
use Rattle.router_rules.specs.Tokens as tk
use Rattle.router_rules.specs.Commits as co
use Rattle.router_plan.specs.declared.message.Unserved.{Unserved}
use Rattle.router_plan.specs.declared.message.Unserved.TheVariants as un
use Rattle.router_plan.specs.Messages.{asked_in}
use Rattle.router_plan.specs.Refusals as rf
use Rattle.router_core.specs.Requests as rq
use Rattle.router_core.specs.Step as sp
use Rattle.participant.proofs.Cases.{either}
use Rattle.world_laws.proofs.Beginning.{is_begun, first_none, so_not}
use Rattle.told_laws.proofs.Moves.{done_there, each_from}
use Rattle.commit_laws.proofs.Follows.{Heard, Follows, DoingFollows, FromDoing}
use Rattle.commit_laws.proofs.Moves.{RouterFollows}
use Rattle.commit_laws.proofs.Deeds.{commit_asked_from, ended_from}
use Rattle.commit_laws.proofs.Answering.{answered_from}
use Rattle.right_laws.proofs.Tellings.Kept as kept
use Rattle.right_laws.proofs.Tellings.Kept.{DoingKeeps}
use Rattle.right_laws.proofs.Tellings.Phases.{TakesPart, PhaseParts, DoingParts, DoingMeans, Hears}
use Rattle.right_laws.proofs.Tellings.Phases.{UnaskedNever}
use Rattle.right_laws.proofs.Tellings.Phases as phases

-- Who takes part stands by what follows.

abbrev pub Any : Tag → ℕ → ℕ → Type 0
Any tag k boot = Unit {0}

heard_part : (t : Transaction) → Heard Any t.tag t.k t.parts t.wrote → TakesPart t.parts t.wrote
heard_part t h = record { boot = h.boot; parts_are = h.parts_are; wrote_is = h.wrote_is }

phase_parts : (t : Transaction) (p : Phase) → Follows Any t p → PhaseParts t p
phase_parts t Idle h = heard_part t h.0
phase_parts t (Asking asker op answers) h = tt
phase_parts t (Checking asker) h = heard_part t h.0
phase_parts t (Deciding asker) h = heard_part t h.0
phase_parts t Committed h = heard_part t h.0
phase_parts t Released h = heard_part t h.0
phase_parts t (Aborted sent) h = tt

doing_parts : (old new : Doing) → FromDoing Any old new → DoingParts new
doing_parts old (Sought seeking known) h = tt
doing_parts (Begun t) (Begun v) h = phase_parts v v.phase h.1.0
doing_parts (Sought seeking known) (Begun v) h = absurd h

-- a request to abort that isn't refused is of a transaction whose commit wasn't sent
abort_unsent : (r : RouterState) (conn : ℕ) (session : Option Session) (txn : Txn)
    → rf.abort_refusal r conn session txn ≡ None
    → rf.is_so (λ (t : Transaction). commit_sent t.phase) (rf.begun_in session txn.number) ≡ false
unfolding rf.abort_refusal
abort_unsent r conn session txn h =
    let n = txn.number in
    let last = rf.after_commit session n ∷ [] in
    let a = first_none (rf.too_old session n) (rf.busy session conn ∷ rf.started session txn
    ∷ rf.no_transaction session n false false ∷ last) h in
    let b = first_none (rf.busy session conn) (rf.started session txn
    ∷ rf.no_transaction session n false false ∷ last) a.1 in
    let c = first_none (rf.started session txn)
    (rf.no_transaction session n false false ∷ last) b.1 in
    let d = first_none (rf.no_transaction session n false false) last c.1 in
    let e = first_none (rf.after_commit session n) [] d.1 in
    so_not (rf.is_so (λ (t : Transaction). commit_sent t.phase) (rf.begun_in session n))
    refusal.AfterCommit e.0

-- what is said of a session's doing is said of the transaction that was begun there
pub of_begun : (P : Doing → Type 0) (r : RouterState) (lsid : Lsid) (number : ℤ)
    (t : Transaction) → ((s : Session) → session_of r lsid ≡ Some s → P s.doing)
    → rf.begun_in (session_of r lsid) number ≡ Some t → P (Begun t)
of_begun P r lsid number t h b =
    let there = is_begun (session_of r lsid) number t b in
    subst P there.doing (h there.there there.is)

module _ (C R A N : Tag → Type 0) where
  abbrev pub Meets : Doing → Type 0
  Meets doing = DoingMeans C R A N doing × DoingKeeps doing

  abbrev pub RouterMeets : RouterState → Type 0
  RouterMeets r = (lsid : Lsid) (s : Session) → session_of r lsid ≡ Some s → Meets s.doing

  abbrev pub RouterNever : RouterState → Type 0
  RouterNever r = (lsid : Lsid) (s : Session) → session_of r lsid ≡ Some s
      → UnaskedNever C R A N s.doing

  -- what stands of a router before an event
  abbrev pub Ready : RouterState → Type 0
  Ready r = RouterMeets r × (RouterNever r × RouterFollows Any r)

  abbrev After : Move → Type 0
  After m = RouterMeets m.state

  done_meets : (r : RouterState) (lsid : Lsid) (d : Deed) → RouterMeets r → Meets d.session.doing
      → After (done_in r lsid d)
  done_meets r lsid d h first other v e =
      elim (done_there r lsid other d v e) [
        | inl w ↦ subst (λ (s : Session). Meets s.doing) (sym w.1) first
        | inr w ↦ h other v w.1
      ]

  each_meets : (act : Lsid → Session → Deed) (r : RouterState)
      → ((lsid : Lsid) (s : Session) → session_of r lsid ≡ Some s
      → Meets (act lsid s).session.doing)
      → After (in_each_session act r)
  each_meets act r f lsid v e =
      let k = each_from act r lsid v e in
      subst (λ (w : Session). Meets w.doing) (sym k.2) (f lsid k.0 k.1)

  -- Statements.

  states_meet : (r : RouterState) (asker : Asker) (lsid : Lsid) (number : ℤ) (op : Op)
      (at : Option ℕ) (refused : Option Reply) (own : Option Transaction) → RouterMeets r
      → rf.begun_in (session_of r lsid) number ≡ own
      → After (rq.unless_refused r asker refused
      (rq.states r lsid (session_of r lsid) number asker op at own))
  states_meet r asker lsid number op at (Some why) own h b = h
  states_meet r asker lsid number op at None (Some t) h b =
      done_meets r lsid (st.asks r.chunks lsid number asker op t) h
      (tt, of_begun DoingKeeps r lsid number t (λ s there. (h lsid s there).1) b)
  states_meet r asker lsid number op at None None h b =
      let read_at = read_time r (is_own lsid) (shards_of r.chunks op) at in
      done_meets (rq.drawn r read_at) lsid (rq.behind_left lsid (session_of r lsid)
      (st.asks r.chunks lsid number asker op (rq.begun_at r read_at))) h (tt, tt)

  statement_meets : (r : RouterState) (asker : Asker) (txn : Option Txn) (op : Op)
      (at : Option ℕ) → RouterMeets r → After (rq.statement r asker txn op at)
  statement_meets r asker None op at h =
      let txn = rq.by_itself r asker.conn in
      states_meet r asker txn.lsid txn.number op at
      (rf.statement_refusal r asker.conn (session_of r txn.lsid) txn op)
      (rf.begun_in (session_of r txn.lsid) txn.number) h refl
  statement_meets r asker (Some txn) op at h =
      states_meet r asker txn.lsid txn.number op at
      (rf.statement_refusal r asker.conn (session_of r txn.lsid) txn op)
      (rf.begun_in (session_of r txn.lsid) txn.number) h refl

  -- Commits.

  seeks_case : (r : RouterState) (lsid : Lsid) (number : ℤ) (asker : Asker) (k : Seeking)
      (s : Option Session) → RouterMeets r → session_of r lsid ≡ s
      → After (done_in r lsid (tk.seeks_by lsid number asker k s))
  seeks_case r lsid number asker k None h there =
      done_meets r lsid (tk.seeks_by lsid number asker k None) h (All-nil C, tt)
  seeks_case r lsid number asker k (Some s) h there =
      let m = h lsid s there in
      done_meets r lsid (tk.seeks_by lsid number asker k (Some s)) h (
        phases.seeks_means C R A N lsid number asker k s m.0,
        kept.seeks_kept lsid number asker k s m.1,
      )

  sought_meets : (r : RouterState) (asker : Asker) (txn : Txn) (t : Option Token)
      → RouterMeets r → After (rq.commit_sought r asker txn (session_of r txn.lsid) t)
  sought_meets r asker txn (Some (token.Placed tag shard boot)) h =
      seeks_case r txn.lsid txn.number asker
      (record { asker = Some asker; tag = tag; shard = shard; boot = boot })
      (session_of r txn.lsid) h refl
  sought_meets r asker txn None h = h
  sought_meets r asker txn (Some (token.Early tag)) h = h
  sought_meets r asker txn (Some token.Other) h = h

  commits_case : (r : RouterState) (asker : Asker) (txn : Txn) (t : Option Token)
      (refused : Option Reply) (own : Option Transaction) → Ready r
      → rf.begun_in (session_of r txn.lsid) txn.number ≡ own
      → After (rq.unless_refused r asker refused (rq.commit_by r asker txn
      (session_of r txn.lsid) t own))
  commits_case r asker txn t (Some why) own h b = h.0
  commits_case r asker txn t None None h b = sought_meets r asker txn t h.0
  commits_case r asker txn t None (Some own) h b =
      let d = co.commit_asked txn.lsid txn.number asker own in
      let m = of_begun Meets r txn.lsid txn.number own (λ s there. h.0 txn.lsid s there) b in
      let f = of_begun (λ (doing : Doing). DoingFollows Any doing) r txn.lsid txn.number own
      (λ s there. h.1.1 txn.lsid s there) b in
      done_meets r txn.lsid d h.0 (
        phases.commit_asked_means C R A N txn.lsid txn.number asker own m.0
            (doing_parts (Begun own) d.session.doing
            (commit_asked_from Any txn.lsid txn.number asker own f).doing),
        kept.commit_kept txn.lsid txn.number asker own m.1,
      )

  commit_meets : (r : RouterState) (asker : Asker) (txn : Option Txn) (t : Option Token) → Ready r
      → After (rq.commit r asker txn t)
  commit_meets r asker None t h = h.0
  commit_meets r asker (Some txn) t h =
      commits_case r asker txn t (rf.commit_refusal r asker.conn (session_of r txn.lsid) txn t)
      (rf.begun_in (session_of r txn.lsid) txn.number) h refl

  -- Aborts.

  aborts_case : (r : RouterState) (asker : Asker) (txn : Txn) (refused : Option Reply)
      (own : Option Transaction) → Ready r
      → rf.begun_in (session_of r txn.lsid) txn.number ≡ own
      → (refused ≡ None → rf.is_so (λ (t : Transaction). commit_sent t.phase)
      (rf.begun_in (session_of r txn.lsid) txn.number) ≡ false)
      → After (rq.unless_refused r asker refused (rq.abort_by r asker txn own))
  aborts_case r asker txn (Some why) own h b unsent = h.0
  aborts_case r asker txn None None h b unsent = h.0
  aborts_case r asker txn None (Some own) h b unsent =
      let m = of_begun Meets r txn.lsid txn.number own (λ s there. h.0 txn.lsid s there) b in
      let n = of_begun (UnaskedNever C R A N) r txn.lsid txn.number own
      (λ s there. h.1.0 txn.lsid s there) b in
      done_meets r txn.lsid (en.client_aborts txn.lsid txn.number asker own) h.0 (
        phases.client_means C R A N txn.lsid txn.number asker own m.0 n
            (ap (rf.is_so (λ (t : Transaction). commit_sent t.phase)) (sym b) ∙ unsent refl),
        kept.client_kept txn.lsid txn.number asker own m.1,
      )

  abort_meets : (r : RouterState) (asker : Asker) (txn : Option Txn) → Ready r
      → After (rq.abort r asker txn)
  abort_meets r asker None h = h.0
  abort_meets r asker (Some txn) h =
      aborts_case r asker txn (rf.abort_refusal r asker.conn (session_of r txn.lsid) txn)
      (rf.begun_in (session_of r txn.lsid) txn.number) h refl
      (λ e. abort_unsent r asker.conn (session_of r txn.lsid) txn e)

  -- Ends of sessions.

  session_never : (lsid : Lsid) (number : ℤ) (doing : Doing) → UnaskedNever C R A N doing
      → UnaskedNever C R A N
      (en.ends_session lsid (record { number = number; doing = doing })).session.doing
  session_never lsid number (Begun t) h =
      either (is_none (asker_of (Begun t)) && not (commit_sent t.phase))
      (λ (d : Deed). UnaskedNever C R A N d.session.doing) (en.ends lsid number 2 t) _
      (λ asked. absurd asked) h
  session_never lsid number (Sought seeking known) h = tt

  end_meets : (r : RouterState) (lsid : Lsid) (o : Option Session) → session_of r lsid ≡ o
      → RouterMeets r → RouterNever r
      → RouterMeets (en.end_session r lsid o).state × RouterNever (en.end_session r lsid o).state
  end_meets r lsid None there h k = (h, k)
  end_meets r lsid (Some s) there h k =
      let d = en.ends_session lsid s in
      let m = h lsid s there in (
        done_meets r lsid d h (
          phases.session_means C R A N lsid s.number s.doing m.0 (k lsid s there),
          kept.session_kept lsid s.number s.doing m.1,
        ),
        λ other v e. elim (done_there r lsid other d v e) [
          | inl w ↦ subst (λ (x : Session). UnaskedNever C R A N x.doing) (sym w.1)
              (session_never lsid s.number s.doing (k lsid s there))
          | inr w ↦ k other v w.1
        ],
      )

  ends_meet : (lsids : List Lsid) (r : RouterState) → RouterMeets r → RouterNever r
      → After (en.end_sessions r lsids)
  ends_meet [] r h k = h
  ends_meet (lsid ∷ lsids) r h k =
      let first = end_meets r lsid (session_of r lsid) refl h k in
      ends_meet lsids (en.end_session r lsid (session_of r lsid)).state first.0 first.1

  -- Requests.

  serves_meet : (r : RouterState) (asker : Asker) (legacy : Bool) (x : Request) → Ready r
      → After (rq.serves r asker legacy x)
  unfolding rq.serves
  serves_meet r asker legacy (request.Ping more time) h = h.0
  serves_meet r asker legacy (request.Hello old_name more time) h = h.0
  serves_meet r asker legacy (request.Statement op txn at after more time) h =
      statement_meets (met r time after) asker txn op at h.0
  serves_meet r asker legacy (request.Commit txn t more time) h =
      commit_meets (met r time None) asker txn t h
  serves_meet r asker legacy (request.Abort txn more time) h =
      abort_meets (met r time None) asker txn h
  serves_meet r asker legacy (request.EndSessions ids more time) h =
      ends_meet ids (met r time None) h.0 h.1.0

  served_meets : (r : RouterState) (conn : ℕ) (bytes : List ℕ) (x : Result Request Unserved)
      → Ready r → After (sp.served r conn bytes x)
  served_meets r conn bytes (Ok asked) h =
      serves_meet r (sp.asker_by conn bytes) (is_legacy bytes) asked h
  served_meets r conn bytes (Err (un.Told why)) h = h.0
  served_meets r conn bytes (Err (un.Closed number)) h = h.0
  served_meets r conn bytes (Err un.Memory) h = h.0

  silent_meets : (test : Bool) (m : Move) → After m → After (sp.unless_silent test m)
  silent_meets true m h = h
  silent_meets false m h = h

  client_meets : (r : RouterState) (conn : ℕ) (bytes : List ℕ) → Ready r
      → After (sp.client r conn bytes)
  client_meets r conn bytes h =
      either (is_waiting r conn) After _ _ h.0
      (silent_meets (wants_reply bytes) (sp.served r conn bytes (asked_in r.wall bytes))
      (served_meets r conn bytes (asked_in r.wall bytes) h))

  -- What happens.

  abbrev pub MsgHears : Msg → Type 0
  MsgHears (msg.Outcome o) = Hears C R A N o
  MsgHears other = Unit {0}

  abbrev pub WhatHears : Happening → Type 0
  WhatHears (what.Deliver e) = MsgHears e.msg
  WhatHears other = Unit {0}

  delivered_meets : (r : RouterState) (m : Msg) → Ready r → MsgHears m
      → After (sp.delivered r m)
  delivered_meets r (msg.Answer a) h hear =
      each_meets (sv.answered_in a) r (λ lsid s there.
      let m = h.0 lsid s there in (
        phases.answer_means C R A N a lsid s.number s.doing m.0 (h.1.0 lsid s there)
            (doing_parts s.doing (sv.answered_in a lsid s).session.doing
            (answered_from Any a lsid s.number s.doing (h.1.1 lsid s there)
            (λ t is asker op phase so done ok. tt)).doing),
        kept.answer_kept a lsid s.number s.doing m.1,
      ))
  delivered_meets r (msg.Outcome o) h hear =
      each_meets (sv.ended_in o) r (λ lsid s there.
      let m = h.0 lsid s there in (
        phases.outcome_means C R A N o hear lsid s.number s.doing m.0
            (doing_parts s.doing (sv.ended_in o lsid s).session.doing
            (ended_from Any o lsid s.number s.doing (h.1.1 lsid s there)).doing),
        kept.outcome_kept o lsid s.number s.doing m.1,
      ))
  delivered_meets r other h hear = h.0

  pub happened_meets : (r : RouterState) (w : Happening) → Ready r → WhatHears w
      → After (sp.happened r w)
  happened_meets r (what.Client conn bytes) h hear = client_meets r conn bytes h
  happened_meets r (what.Gone conn) h hear =
      each_meets (en.gone_from conn) r (λ lsid s there.
      let m = h.0 lsid s there in (
        phases.gone_means C R A N conn lsid s m.0 (h.1.0 lsid s there),
        kept.gone_kept conn lsid s m.1,
      ))
  happened_meets r (what.Deliver e) h hear = delivered_meets (timed r e.time) e.msg h hear
  happened_meets r what.Resend h hear = h.0
  happened_meets r what.Moment h hear = h.0
