-- The token of a reply, where the reply was given at once, or by what was done in the session in
-- which the request waited: it is known of the session and the number that the request names.
use Rattle.std.proofs.Common.{◌≡◌, ◌⊎◌, inl, inr, ℕ, ℤ, Bool, true, false, All, List, ◌∷◌, []}
use Rattle.std.proofs.Common.{Option, Some, None, Result, Ok, Err, refl, sym, ap, subst, ◌∙◌, arith}
use Rattle.std.proofs.Common.{if◌then◌else◌}
use Rattle.std.specs.Prelude.{Contains}
use Rattle.std.proofs.lemmas.List.Elements.{All-contains}
use Rattle.txn_types.specs.declared.decision.Token.{Token}
use Rattle.txn_types.specs.declared.decision.Token.TheVariants as token
use Rattle.txn_types.specs.declared.event.Happening.{Happening}
use Rattle.txn_types.specs.declared.event.Happening.TheVariants as what
use Rattle.txn_types.specs.declared.event.NodeEvent.{NodeEvent}
use Rattle.txn_types.specs.declared.message.Msg.{Msg}
use Rattle.txn_types.specs.declared.message.Msg.TheVariants as msg
use Rattle.txn_types.specs.declared.names.Tag.{Tag}
use Rattle.txn_types.specs.declared.node.Lsid.{Lsid}
use Rattle.op_msg.specs.Asking.{is_legacy, wants_reply}
use Rattle.client_cmd.specs.declared.request.Request.{Request}
use Rattle.client_cmd.specs.declared.request.Txn.{Txn}
use Rattle.client_reply.specs.Replies.{token_in}
use Rattle.router_state.specs.declared.deed.Deed.{Deed}
use Rattle.router_state.specs.declared.deed.Sent.{Sent}
use Rattle.router_state.specs.declared.state.Doing.{Doing}
use Rattle.router_state.specs.declared.state.Doing.TheVariants.{Begun, Sought}
use Rattle.router_state.specs.declared.state.Session.{Session}
use Rattle.router_state.specs.declared.state.Transaction.{Transaction}
use Rattle.router_state.specs.Deeds.{Move, still}
use Rattle.router_state.specs.State.{RouterState, session_of, is_waiting, token_of}
use Rattle.router_rules.specs.Times.{walled, timed}
use Rattle.router_rules.specs.Ends.{gone_from}
use Rattle.router_rules.specs.Serving.{answered_in, ended_in}
use Rattle.router_plan.specs.declared.message.Unserved.{Unserved}
use Rattle.router_plan.specs.Messages.{asked_in}
use Rattle.router_core.specs.News.{acts, tells}
use Rattle.router_core.specs.Requests as rq
use Rattle.router_core.specs.Step as sp
use Rattle.cluster_core.specs.Replying.{Replied, txn_of}
use Rattle.answer_laws.proofs.Lists.{has_first}
use Rattle.known_laws.proofs.Sessions.{entry_named}
use Rattle.told_laws.proofs.Lists.{contained}
use Rattle.commit_laws.proofs.Once.{each_has}
use Rattle.commit_laws.proofs.Stepping.{move_of}
use Rattle.making_laws.proofs.Hearing.{no_some, some_is}
use Rattle.right_laws.specs.Said.{Heard, Served, NamesIt}
use Rattle.right_laws.proofs.Tokens.Deeds.{DoingOk, DeedOk, SaysOk, OwnToken, TokenOk, IsTold}
use Rattle.right_laws.proofs.Tokens.Deeds.{answered_ok, ended_ok, gone_ok, stays_ok}
use Rattle.right_laws.proofs.Tokens.Requests.{EntryOk, Tells, MoveOk, serves_ok}
use Rattle.right_laws.proofs.Tokens.Routers.{AskedGiven, EventGiven, names_asked}

none_in : {X : Type 0} (s : Sent) → Contains [] s → X
none_in s c = absurd (omega (arith, c.1))

module _ (R : Lsid → ℤ → Tag → ℕ → Type 0) where
  -- the token of a reply is known of the session and number that its request names
  abbrev pub TokenFrom : Replied → Type 0
  TokenFrom y = (txn : Txn) → txn_of y.hand.request ≡ Some txn → (tag : Tag) (shard boot : ℕ)
      → token_in y.reply ≡ Some (token.Placed tag shard boot) → R txn.lsid txn.number tag boot

  -- the tokens of the transactions of sessions are known
  abbrev pub AreOwn : RouterState → Type 0
  AreOwn r = (entry : Lsid × Session) → Contains r.sessions entry → (t : Transaction)
      → entry.1.doing ≡ Begun t → IsTold t.phase → (tag : Tag) (shard boot : ℕ)
      → token_of t ≡ token.Placed tag shard boot → R entry.0 entry.1.number tag boot

  module _ (after : RouterState) (own : AreOwn after) (entry : Lsid × Session)
      (there : Contains after.sessions entry) (tag : Tag) (shard boot : ℕ) where
    same_token : (other : Tag) (one named : ℕ)
        → token.Placed tag shard boot ≡ token.Placed other one named
        → R entry.0 entry.1.number other named → R entry.0 entry.1.number tag boot
    same_token other one named same k =
        let tags : other ≡ tag = cc in
        let boots : named ≡ boot = cc in
        subst (λ (y : Tag). R entry.0 entry.1.number y boot) tags
        (subst (R entry.0 entry.1.number other) boots k)

    own_case : (doing : Doing) → entry.1.doing ≡ doing
        → OwnToken (R entry.0 entry.1.number) doing (Some (token.Placed tag shard boot))
        → R entry.0 entry.1.number tag boot
    own_case (Begun t) is h =
        own entry there t is h.1 tag shard boot
        (sym (some_is (token.Placed tag shard boot) (token_of t) h.0))
    own_case (Sought seeking known) is h =
        same_token h.0.tag h.0.shard h.0.boot
        (some_is (token.Placed tag shard boot) (token.Placed h.0.tag h.0.shard h.0.boot) h.1) h.2

    -- a token that is told there
    said_known : (sent : Sent) → SaysOk R entry.0 entry.1.number entry.1.doing sent
        → token_in sent.reply ≡ Some (token.Placed tag shard boot)
        → R entry.0 entry.1.number tag boot
    said_known sent (inl bare) e = no_some (token.Placed tag shard boot) (sym bare ∙ e)
    said_known sent (inr k) e =
        own_case entry.1.doing refl
        (subst (OwnToken (R entry.0 entry.1.number) entry.1.doing) e k)

  named_it : (txn : Txn) (lsid : Lsid) (number : ℤ) (tag : Tag) (boot : ℕ)
      → (txn.lsid ≡ lsid) × (txn.number ≡ number) → R lsid number tag boot
      → R txn.lsid txn.number tag boot
  named_it txn lsid number tag boot same k =
      subst (λ (l : Lsid). R l txn.number tag boot) (sym same.0)
      (subst (λ (i : ℤ). R lsid i tag boot) (sym same.1) k)

  -- By what a message does in a session, or the end of a connection.

  tells_ok : (m : Msg) (lsid : Lsid) (s : Session) → DoingOk R lsid s.number s.doing
      → DeedOk R lsid s.number (tells m lsid s)
  tells_ok (msg.Answer a) lsid s h = answered_ok R a lsid s.number s.doing h
  tells_ok (msg.Outcome o) lsid s h = ended_ok R o lsid s.number s.doing h
  tells_ok other lsid s h = stays_ok R lsid s h

  acts_ok : (w : Happening) (lsid : Lsid) (s : Session) → DoingOk R lsid s.number s.doing
      → DeedOk R lsid s.number (acts w lsid s)
  acts_ok (what.Deliver e) lsid s h = tells_ok e.msg lsid s h
  acts_ok (what.Gone conn) lsid s h = gone_ok R conn lsid s h
  acts_ok other lsid s h = stays_ok R lsid s h

  module _ (r : RouterState) (lsid : Lsid) (s : Session) (there : Contains r.sessions (lsid, s))
    where
      msg_there : (time : ℕ) (m : Msg) (sent : Sent) → Contains (tells m lsid s).given.replies sent
          → Contains (sp.delivered (timed r time) m).state.sessions (lsid, (tells m lsid s).session)
      msg_there time (msg.Answer a) sent c = each_has (answered_in a) r.sessions (lsid, s) there
      msg_there time (msg.Outcome o) sent c = each_has (ended_in o) r.sessions (lsid, s) there
      msg_there time other sent c = there

      acts_there : (w : Happening) (sent : Sent) → Contains (acts w lsid s).given.replies sent
          → Contains (sp.happened r w).state.sessions (lsid, (acts w lsid s).session)
      acts_there (what.Deliver e) sent c = msg_there e.time e.msg sent c
      acts_there (what.Gone conn) sent c = each_has (gone_from conn) r.sessions (lsid, s) there
      acts_there (what.Client conn bytes) sent c = none_in sent c
      acts_there what.Resend sent c = there
      acts_there what.Moment sent c = there

  session_there : (r : RouterState) (lsid : Lsid) (s : Session) → session_of r lsid ≡ Some s
      → Contains r.sessions (lsid, s)
  session_there r lsid s e =
      entry_named (Contains r.sessions) lsid r.sessions
      (contained (Contains r.sessions) r.sessions (λ x c. c)) s e

  heard_known : (r : RouterState) (e : NodeEvent) (y : Replied) → Heard r e y
      → All (EntryOk R) r.sessions → AreOwn (move_of r e).state → TokenFrom y
  heard_known r e y k h own txn is tag shard boot told =
      let doing : DoingOk R k.lsid k.session.number k.session.doing =
      entry_named (EntryOk R) k.lsid r.sessions h k.session k.in_it in
      let d = acts e.what k.lsid k.session in
      let ok = acts_ok e.what k.lsid k.session doing in
      let says = All-contains (SaysOk R k.lsid d.session.number d.session.doing) d.given.replies
      k.sent ok.replies k.among in
      named_it txn k.lsid d.session.number tag boot
      ((k.names txn is).0, (k.names txn is).1 ∙ sym ok.number_is)
      (said_known (move_of r e).state own (k.lsid, d.session)
      (acts_there (walled r e.wall) k.lsid k.session (session_there r k.lsid k.session k.in_it)
      e.what k.sent k.among) tag shard boot k.sent says (ap token_in k.reply ∙ told))

  -- At once.

  silent_state : (b : Bool) (m : Move) → (sp.unless_silent b m).state ≡ m.state
  silent_state true m = refl
  silent_state false m = refl

  client_state : (r : RouterState) (conn : ℕ) (bytes : List ℕ) (q : Request)
      → is_waiting r conn ≡ false → asked_in r.wall bytes ≡ Ok q
      → (sp.happened r (what.Client conn bytes)).state
      ≡ (rq.serves r (sp.asker_by conn bytes) (is_legacy bytes) q).state
  client_state r conn bytes q free asked =
      ap (λ (test : Bool). (if test then still r
      else sp.unless_silent (wants_reply bytes)
      (sp.served r conn bytes (asked_in r.wall bytes))).state) free
      ∙ silent_state (wants_reply bytes) (sp.served r conn bytes (asked_in r.wall bytes))
      ∙ ap (λ (x : Result Request Unserved). (sp.served r conn bytes x).state) asked

  served_known : (r : RouterState) (e : NodeEvent) (y : Replied) → Served r e y
      → EventGiven R (walled r e.wall) e.what → All (EntryOk R) r.sessions
      → AreOwn (move_of r e).state → TokenFrom y
  served_known r e y k given h own txn is tag shard boot told =
      let R' = walled r e.wall in
      let q = y.hand.request in
      let asker = sp.asker_by y.hand.conn k.bytes in
      let m = rq.serves R' asker (is_legacy k.bytes) q in
      let asked : EventGiven R R' (what.Client y.hand.conn k.bytes) =
      subst (EventGiven R R') k.what_is given in
      let ok : MoveOk R (NamesIt q) m = serves_ok R (NamesIt q) R' asker (is_legacy k.bytes) q
      (asked k.free q k.asked) (names_asked R' y.hand.conn q) h in
      by (move_of r e).state own
      (ap (λ (w : Happening). (sp.happened R' w).state) k.what_is
      ∙ client_state R' y.hand.conn k.bytes q k.free k.asked)
      (All-contains (Tells R (NamesIt q) m.state.sessions) m.given.replies k.sent ok.replies
      k.among)
    where
      by : (after : RouterState) → AreOwn after
          → after ≡ (rq.serves (walled r e.wall) (sp.asker_by y.hand.conn k.bytes)
          (is_legacy k.bytes) y.hand.request).state
          → Tells R (NamesIt y.hand.request) (rq.serves (walled r e.wall)
          (sp.asker_by y.hand.conn k.bytes) (is_legacy k.bytes) y.hand.request).state.sessions
          k.sent → R txn.lsid txn.number tag boot
      by after mine same (inl bare) =
          no_some (token.Placed tag shard boot) (sym bare ∙ ap token_in k.reply ∙ told)
      by after mine same (inr (entry, there, it, says)) =
          named_it txn entry.0 entry.1.number tag boot (it txn is)
          (said_known after mine entry
          (subst (λ (x : RouterState). Contains x.sessions entry) (sym same) there) tag shard boot
          k.sent says (ap token_in k.reply ∙ told))

  pub replied_known : (r : RouterState) (e : NodeEvent) (y : Replied)
      → Heard r e y ⊎ Served r e y → EventGiven R (walled r e.wall) e.what
      → All (EntryOk R) r.sessions → AreOwn (move_of r e).state → TokenFrom y
  replied_known r e y (inl k) given h own = heard_known r e y k h own
  replied_known r e y (inr k) given h own = served_known r e y k given h own
