-- What a reply of a run tells of a transaction stands in a session after the step that gives it, or
-- was told.
use Rattle.std.proofs.Common.{◌≡◌, inl, ◌∙◌, ◌&&◌, ℕ, ℤ, Bool, true, false}
use Rattle.std.proofs.Common.{Contains, List, [], ◌∷◌, option_and_then, is_some}
use Rattle.std.proofs.Common.{Option, Some, None, Result, Ok, refl, sym, ap, subst}
use Rattle.std.proofs.Common.{if◌then◌else◌, int_lt, arith}
use Rattle.std.proofs.lemmas.List.Elements.{All-contains}
use Rattle.txn_types.specs.BySession.{BySession, entry_of}
use Rattle.txn_types.specs.Order.{same_lsid, same_tag}
use Rattle.txn_types.specs.declared.cause.Cause.{Cause}
use Rattle.txn_types.specs.declared.decision.Told.TheVariants as told_as
use Rattle.txn_types.specs.declared.decision.Token.{Token}
use Rattle.txn_types.specs.declared.decision.Token.TheVariants as token
use Rattle.txn_types.specs.declared.event.Happening.{Happening}
use Rattle.txn_types.specs.declared.event.Happening.TheVariants as what
use Rattle.txn_types.specs.declared.event.NodeEvent.{NodeEvent}
use Rattle.txn_types.specs.declared.message.Answer.{Answer}
use Rattle.txn_types.specs.declared.message.Msg.{Msg}
use Rattle.txn_types.specs.declared.message.Msg.TheVariants as msg
use Rattle.txn_types.specs.declared.message.Outcome.{Outcome}
use Rattle.txn_types.specs.declared.names.Tag.{Tag}
use Rattle.txn_types.specs.declared.node.Lsid.{Lsid}
use Rattle.txn_types.specs.declared.operation.Op.{Op}
use Rattle.op_msg.specs.Asking.{is_legacy, wants_reply}
use Rattle.client_cmd.specs.declared.request.Request.{Request}
use Rattle.client_cmd.specs.declared.request.Request.TheVariants as request
use Rattle.client_cmd.specs.declared.request.Txn.{Txn}
use Rattle.client_reply.specs.declared.reply.Refusal.{Refusal}
use Rattle.client_reply.specs.declared.reply.Refusal.TheVariants as refusal
use Rattle.client_reply.specs.declared.reply.Reply.{Reply}
use Rattle.client_reply.specs.declared.reply.Reply.TheVariants as reply
use Rattle.router_state.specs.declared.deed.Deed.{Deed}
use Rattle.router_state.specs.declared.deed.Sent.{Sent}
use Rattle.router_state.specs.declared.state.Asker.{Asker}
use Rattle.router_state.specs.declared.state.Doing.{Doing}
use Rattle.router_state.specs.declared.state.Doing.TheVariants.{Begun, Sought}
use Rattle.router_state.specs.declared.state.Phase.{Phase}
use Rattle.router_state.specs.declared.state.Phase.TheVariants.{Idle, Asking, Checking, Deciding}
use Rattle.router_state.specs.declared.state.Phase.TheVariants.{Committed, Released, Aborted}
use Rattle.router_state.specs.declared.state.Seeking.{Seeking}
use Rattle.router_state.specs.declared.state.Session.{Session}
use Rattle.router_state.specs.declared.state.Transaction.{Transaction}
use Rattle.router_state.specs.Deeds.{Move, done_in, each_session}
use Rattle.router_state.specs.Deeds.{still, told}
use Rattle.router_state.specs.State.{RouterState, session_of, is_from, asker_of, is_waiting}
use Rattle.router_state.specs.State.{is_waited}
use Rattle.router_rules.specs.Commits as co
use Rattle.router_rules.specs.Ends as en
use Rattle.router_rules.specs.Serving.{answered_in, ended_in}
use Rattle.router_rules.specs.Times.{walled, timed, met}
use Rattle.router_rules.specs.Tokens as tk
use Rattle.router_plan.specs.declared.message.Unserved.{Unserved}
use Rattle.router_plan.specs.Messages.{asked_in}
use Rattle.router_plan.specs.Refusals as rf
use Rattle.router_core.specs.News.{acts, tells}
use Rattle.router_core.specs.Requests as rq
use Rattle.router_core.specs.Step as sp
use Rattle.cluster_core.specs.Replying.{Replied, txn_of, token_of, tag_in}
use Rattle.cluster_core.specs.Telling.{Meant, Undone, is_attempt, is_abort}
use Rattle.cluster_core.specs.Telling.{meant_by}
use Rattle.participant.proofs.Cases.{either}
use Rattle.shard_image.proofs.Sessions.{entry_there, lsid_is}
use Rattle.world_laws.proofs.Beginning.{is_begun, first_none}
use Rattle.world_laws.proofs.Going.{first_is, rest_is}
use Rattle.txn_semantics.specs.Touched.{first_some}
use Rattle.told_laws.proofs.Lists.{only_one}
use Rattle.commit_laws.proofs.Stepping.{move_of}
use Rattle.decision_laws.specs.Ends.{IsAborted}
use Rattle.right_laws.specs.Said.{Heard, Served, Suits, SuitsPhase, tag_of}
use Rattle.right_laws.proofs.Tellings.Kept.{KeepsMild, DoingKeeps}
use Rattle.right_laws.proofs.Tellings.Moving.{of_begun}
use Rattle.right_laws.proofs.Tellings.Saying.{MeantGround, Grounded, SaysRight}
use Rattle.right_laws.proofs.Tellings.Saying.{answer_says, outcome_says, recovered_says}
use Rattle.right_laws.proofs.Tellings.Saying.{commit_says}
use Rattle.right_laws.proofs.Tellings.Saying.{client_says, seeks_says, SuitsAsking}

none_in : {X : Type 0} (s : Sent) → Contains [] s → X
none_in s c = absurd (omega (arith, c.1))

some_is : {A : Type 0} (a b : A) → Some a ≡ Some b → a ≡ b
some_is a b e = cc

no_some : {A X : Type 0} (a : A) → None ≡ Some a → X
no_some a e = cc

no_true : {X : Type 0} → false ≡ true → X
no_true e = cc

-- What is done in each session stands there.

each_there : (act : Lsid → Session → Deed) (lsid : Lsid) (s : Session)
    (entries : BySession Session) → entry_of lsid entries ≡ Some s
    → entry_of lsid (each_session act entries).0 ≡ Some (act lsid s).session
each_there act lsid s [] e = no_some s e
each_there act lsid s (entry ∷ entries) e =
    by (same_lsid lsid entry.0) refl (λ f. each_there act lsid s entries f)
  where
    by : (test : Bool) → same_lsid lsid entry.0 ≡ test
        → (entry_of lsid entries ≡ Some s
        → entry_of lsid (each_session act entries).0 ≡ Some (act lsid s).session)
        → entry_of lsid (each_session act (entry ∷ entries)).0 ≡ Some (act lsid s).session
    by true is more =
        let key : lsid ≡ entry.0 = lsid_is lsid entry.0 is in
        let here : entry.1 ≡ s =
        some_is entry.1 s (sym (first_is lsid entry entries is) ∙ e) in
        first_is lsid (entry.0, (act entry.0 entry.1).session) (each_session act entries).0 is
        ∙ ap (λ (x : Session). Some (act entry.0 x).session) here
        ∙ ap (λ (l : Lsid). Some (act l s).session) (sym key)
    by false is more =
        rest_is lsid (entry.0, (act entry.0 entry.1).session) (each_session act entries).0 is
        ∙ more (sym (rest_is lsid entry entries is) ∙ e)

-- `A` says of a transaction that it was told as aborted.

module _ (A : Tag → Type 0) where
  -- where it stands after a step
  pub record Stands (after : RouterState) (tag : Tag) (meant : Meant) : Type 0 where
    pub q : Request
    pub lsid : Lsid
    pub session : Session
    pub there : session_of after lsid ≡ Some session
    pub ground : MeantGround A q tag session.doing meant

  stands_in : (q : Request) (tag : Tag) (after : RouterState) (lsid : Lsid) (d : Deed) (s : Sent)
      (meant : Meant) → session_of after lsid ≡ Some d.session → SaysRight A q tag d
      → Contains d.given.replies s → meant_by q s.reply ≡ Some meant → Stands after tag meant
  stands_in q tag after lsid d s meant there says c e = record {
    q = q;
    lsid = lsid;
    session = d.session;
    there = there;
    ground = All-contains (Grounded A q tag d.session.doing) d.given.replies s says c meant e;
  }

  -- A message.

  asking_suits : (q : Request) (lsid : Lsid) (p : Phase) → SuitsPhase q lsid p
      → SuitsAsking A q lsid p
  asking_suits q lsid (Asking asker op answers) h = h.0
  asking_suits q lsid Idle h = tt
  asking_suits q lsid (Checking asker) h = tt
  asking_suits q lsid (Deciding asker) h = tt
  asking_suits q lsid Committed h = tt
  asking_suits q lsid Released h = tt
  asking_suits q lsid (Aborted sent) h = tt

  -- an outcome says nothing where a statement is asked
  asking_quiet : (lsid : Lsid) (number : ℤ) (o : Outcome) (t : Transaction) (asker : Asker)
      (op : Op) (answers : List (ℕ × Answer))
      → (co.on_outcome lsid number o (record t { phase = Asking asker op answers })).given.replies
      ≡ []
  asking_quiet lsid number o t asker op answers =
      either (same_tag t.tag o.tag && is_waited o.shard t.waiting)
      (λ (d : Deed). d.given.replies ≡ [])
      (co.counted lsid number o (record t { phase = Asking asker op answers })) _ refl refl

  module _ (lsid : Lsid) (number : ℤ) (q : Request) (s : Sent) (tag : Tag) (meant : Meant)
      (means : meant_by q s.reply ≡ Some meant) where
    abbrev At : Doing → Session
    At doing = record { number = number; doing = doing }

    answer_case : (a : Answer) (doing : Doing) → Suits q lsid doing → Some tag ≡ tag_of doing
        → Contains (answered_in a lsid (At doing)).given.replies s
        → MeantGround A q tag (answered_in a lsid (At doing)).session.doing meant
    answer_case a (Begun t) suits same c =
        let own : tag ≡ t.tag = some_is tag t.tag same in
        let d = answered_in a lsid (At (Begun t)) in
        subst (λ (x : Tag). MeantGround A q x d.session.doing meant) (sym own)
        (All-contains (Grounded A q t.tag d.session.doing) d.given.replies s
        (answer_says A q lsid number a t (asking_suits q lsid t.phase suits)) c meant means)
    answer_case a (Sought seeking known) suits same c = none_in s c

    by_attempt : (o : Outcome)
        → ((why : Cause) → o.told ≡ told_as.Aborted why → A o.tag) → (t : Transaction)
        → is_attempt q ≡ true → KeepsMild t.reply → Some tag ≡ Some t.tag
        → Contains (co.on_outcome lsid number o t).given.replies s
        → MeantGround A q tag (co.on_outcome lsid number o t).session.doing meant
    by_attempt o hear t attempt kept same c =
        let own : tag ≡ t.tag = some_is tag t.tag same in
        let d = co.on_outcome lsid number o t in
        subst (λ (x : Tag). MeantGround A q x d.session.doing meant) (sym own)
        (All-contains (Grounded A q t.tag d.session.doing) d.given.replies s
        (outcome_says A q o hear attempt lsid number t kept) c meant means)

    outcome_phase : (o : Outcome)
        → ((why : Cause) → o.told ≡ told_as.Aborted why → A o.tag) → (t : Transaction) (p : Phase)
        → SuitsPhase q lsid p → KeepsMild t.reply → Some tag ≡ Some t.tag
        → Contains (co.on_outcome lsid number o (record t { phase = p })).given.replies s
        → MeantGround A q tag
        (co.on_outcome lsid number o (record t { phase = p })).session.doing meant
    outcome_phase o hear t (Asking asker op answers) suits kept same c =
        none_in s (subst (λ (l : List Sent). Contains l s)
        (asking_quiet lsid number o t asker op answers) c)
    outcome_phase o hear t Idle suits kept same c =
        by_attempt o hear (record t { phase = Idle }) suits kept same c
    outcome_phase o hear t (Checking asker) suits kept same c =
        by_attempt o hear (record t { phase = Checking asker }) suits kept same c
    outcome_phase o hear t (Deciding asker) suits kept same c =
        by_attempt o hear (record t { phase = Deciding asker }) suits kept same c
    outcome_phase o hear t Committed suits kept same c =
        by_attempt o hear (record t { phase = Committed }) suits kept same c
    outcome_phase o hear t Released suits kept same c =
        by_attempt o hear (record t { phase = Released }) suits kept same c
    outcome_phase o hear t (Aborted sent) suits kept same c =
        by_attempt o hear (record t { phase = Aborted sent }) suits kept same c

    outcome_case : (o : Outcome)
        → ((why : Cause) → o.told ≡ told_as.Aborted why → A o.tag) → (doing : Doing)
        → Suits q lsid doing → DoingKeeps doing → Some tag ≡ tag_of doing
        → Contains (ended_in o lsid (At doing)).given.replies s
        → MeantGround A q tag (ended_in o lsid (At doing)).session.doing meant
    outcome_case o hear (Begun t) suits kept same c =
        outcome_phase o hear t t.phase suits kept same c
    outcome_case o hear (Sought None known) suits kept same c = none_in s c
    outcome_case o hear (Sought (Some k) known) suits kept same c =
        let own : tag ≡ k.tag = some_is tag k.tag same in
        let d = tk.on_recovered number (Some k) known o in
        subst (λ (x : Tag). MeantGround A q x d.session.doing meant) (sym own)
        (All-contains (Grounded A q k.tag d.session.doing) d.given.replies s
        (recovered_says A q o hear suits number k known) c meant means)

  abbrev pub MsgTold : Msg → Type 0
  MsgTold (msg.Outcome o) = (why : Cause) → o.told ≡ told_as.Aborted why → A o.tag
  MsgTold other = Unit {0}

  abbrev pub WhatTold : Happening → Type 0
  WhatTold (what.Deliver x) = MsgTold x.msg
  WhatTold other = Unit {0}

  module _ (r : RouterState) (wall : ℕ) (lsid : Lsid) (v : Session) (q : Request) (s : Sent)
      (tag : Tag) (meant : Meant) (at : session_of r lsid ≡ Some v)
      (means : meant_by q s.reply ≡ Some meant) (suits : Suits q lsid v.doing)
      (kept : DoingKeeps v.doing) (same : Some tag ≡ tag_of v.doing) where
    by_msg : (time : ℕ) (m : Msg) → MsgTold m → Contains (tells m lsid v).given.replies s
        → Stands (sp.delivered (timed (walled r wall) time) m).state tag meant
    by_msg time (msg.Answer a) told c = record {
      q = q;
      lsid = lsid;
      session = (answered_in a lsid v).session;
      there = each_there (answered_in a) lsid v r.sessions at;
      ground = answer_case lsid v.number q s tag meant means a v.doing suits same c;
    }
    by_msg time (msg.Outcome o) told c = record {
      q = q;
      lsid = lsid;
      session = (ended_in o lsid v).session;
      there = each_there (ended_in o) lsid v r.sessions at;
      ground = outcome_case lsid v.number q s tag meant means o told v.doing suits kept same c;
    }
    by_msg time (msg.Statement m) told c = none_in s c
    by_msg time (msg.Commit m) told c = none_in s c
    by_msg time (msg.Abort m) told c = none_in s c
    by_msg time (msg.CommitTwo m) told c = none_in s c
    by_msg time (msg.Prepare m) told c = none_in s c
    by_msg time (msg.Vote m) told c = none_in s c
    by_msg time (msg.Decide m) told c = none_in s c
    by_msg time (msg.Acked m) told c = none_in s c
    by_msg time (msg.Recover m) told c = none_in s c
    by_msg time msg.Nudge told c = none_in s c

    gone_phase : (conn : ℕ) (w : Session) (t : Transaction) (p : Phase)
        → (en.gone_asking conn lsid w (record t { phase = p })).given.replies ≡ []
    gone_phase conn w t (Asking asker op answers) = refl
    gone_phase conn w t (Checking asker) = refl
    gone_phase conn w t (Deciding asker) = refl
    gone_phase conn w t Idle = refl
    gone_phase conn w t Committed = refl
    gone_phase conn w t Released = refl
    gone_phase conn w t (Aborted sent) = refl

    gone_doing : (conn : ℕ) (number : ℤ) (doing : Doing)
        → (en.gone_in conn lsid (record { number = number; doing = doing })).given.replies ≡ []
    gone_doing conn number (Begun t) =
        gone_phase conn (record { number = number; doing = Begun t }) t t.phase
    gone_doing conn number (Sought seeking known) = refl

    gone_quiet : (conn : ℕ) → (en.gone_from conn lsid v).given.replies ≡ []
    gone_quiet conn =
        either (is_from conn (asker_of v.doing)) (λ (d : Deed). d.given.replies ≡ [])
        (en.gone_in conn lsid v) _ (gone_doing conn v.number v.doing) refl

    by_what : (w : Happening) → WhatTold w → Contains (acts w lsid v).given.replies s
        → Stands (sp.happened (walled r wall) w).state tag meant
    by_what (what.Deliver x) told c = by_msg x.time x.msg told c
    by_what (what.Client conn bytes) told c = none_in s c
    by_what (what.Gone conn) told c =
        none_in s (subst (λ (l : List Sent). Contains l s) (gone_quiet conn) c)
    by_what what.Resend told c = none_in s c
    by_what what.Moment told c = none_in s c

  pub heard_stands : (r : RouterState) (e : NodeEvent) (y : Replied) (k : Heard r e y) (tag : Tag)
      (meant : Meant) → y.hand.tag ≡ Some tag → meant_by y.hand.request y.reply ≡ Some meant
      → WhatTold e.what → DoingKeeps k.session.doing → Stands (move_of r e).state tag meant
  heard_stands r e y k tag meant same means told kept =
      by_what r e.wall k.lsid k.session y.hand.request k.sent tag meant k.in_it
      (ap (meant_by y.hand.request) k.reply ∙ means) k.suits kept (sym same ∙ k.tag) e.what told
      k.among

  -- A request that is refused.

  module _ (q : Request) (session : Option Session) (number : ℤ) where
    -- it tells of the transaction, if anything, that it is aborted, as it is
    abbrev SoRefused : Option Reply → Type 0
    SoRefused None = Unit {0}
    SoRefused (Some r) = (meant : Meant) → meant_by q r ≡ Some meant
        → (meant ≡ Undone)
        × ((t : Transaction) × (rf.begun_in session number ≡ Some t) × IsAborted t.phase)

    abbrev AllSo : List (Option Reply) → Type 0
    AllSo [] = Unit {0}
    AllSo (o ∷ os) = SoRefused o × AllSo os

    first_so : (os : List (Option Reply)) → AllSo os → SoRefused (first_some os)
    first_so [] h = tt
    first_so (None ∷ os) h = first_so os h.1
    first_so (Some r ∷ os) h = h.0

    mild_so : (b : Bool) (why : Refusal) → meant_by q (reply.Refused why) ≡ None
        → SoRefused (rf.where_so b why)
    mild_so true why none = λ meant e. no_some meant (sym none ∙ e)
    mild_so false why none = tt

    old_so : SoRefused (rf.too_old session number)
    old_so = by session
      where
        by : (o : Option Session) → SoRefused (rf.too_old o number)
        by None = tt
        by (Some v) =
            either (int_lt number v.number) SoRefused (Some (reply.TooOld number v.number)) None
            (λ meant e. no_some meant e) tt

    aborted_case : (t : Transaction) (p : Phase) → t.phase ≡ p
        → rf.begun_in session number ≡ Some t
        → SoRefused (rf.where_so (rf.is_aborted p) refusal.Aborted)
    aborted_case t (Aborted sent) is b =
        λ meant e. (sym (some_is Undone meant e), (t, b, subst IsAborted (sym is) tt))
    aborted_case t Idle is b = tt
    aborted_case t (Asking asker op answers) is b = tt
    aborted_case t (Checking asker) is b = tt
    aborted_case t (Deciding asker) is b = tt
    aborted_case t Committed is b = tt
    aborted_case t Released is b = tt

    known_case : (o : Option Transaction) → rf.begun_in session number ≡ o
        → SoRefused (rf.where_so (rf.is_so (λ (t : Transaction). rf.is_aborted t.phase) o)
        refusal.Aborted)
    known_case None b = tt
    known_case (Some t) b = aborted_case t t.phase refl b

    known_so : SoRefused (rf.known_aborted session number)
    known_so = known_case (rf.begun_in session number) refl

  statement_so : (q : Request) (r : RouterState) (conn : ℕ) (session : Option Session) (txn : Txn)
      (op : Op) → SoRefused q session txn.number (rf.statement_refusal r conn session txn op)
  unfolding rf.statement_refusal
  statement_so q r conn session txn op =
      let n = txn.number in
      first_so q session n (rf.too_old session n ∷ rf.busy session conn ∷ rf.started session txn
      ∷ rf.no_transaction session n txn.start false ∷ rf.after_commit session n
      ∷ rf.too_long session n ∷ rf.too_many r session ∷ rf.spent r session n
      ∷ rf.many_shards r.chunks op ∷ rf.known_aborted session n ∷ []) (
        old_so q session n,
        (
          mild_so q session n _ _ refl,
          (
            mild_so q session n _ _ refl,
            (
              mild_so q session n _ _ refl,
              (
                mild_so q session n _ _ refl,
                (
                  mild_so q session n _ _ refl,
                  (
                    mild_so q session n _ _ refl,
                    (
                      mild_so q session n _ _ refl,
                      (mild_so q session n _ _ refl, (known_so q session n, tt)),
                    ),
                  ),
                ),
              ),
            ),
          ),
        ),
      )

  commit_so : (q : Request) (r : RouterState) (conn : ℕ) (session : Option Session) (txn : Txn)
      (t : Option Token) → SoRefused q session txn.number (rf.commit_refusal r conn session txn t)
  unfolding rf.commit_refusal
  commit_so q r conn session txn t =
      let n = txn.number in
      first_so q session n (rf.too_old session n ∷ rf.busy session conn ∷ rf.started session txn
      ∷ rf.no_transaction session n (is_some t) true
      ∷ rf.no_token_shard session n r.chunks.shards t ∷ rf.too_many r session
      ∷ rf.known_aborted session n ∷ []) (
        old_so q session n,
        (
          mild_so q session n _ _ refl,
          (
            mild_so q session n _ _ refl,
            (
              mild_so q session n _ _ refl,
              (
                mild_so q session n _ _ refl,
                (mild_so q session n _ _ refl, (known_so q session n, tt)),
              ),
            ),
          ),
        ),
      )

  abort_so : (q : Request) (r : RouterState) (conn : ℕ) (session : Option Session) (txn : Txn)
      → SoRefused q session txn.number (rf.abort_refusal r conn session txn)
  unfolding rf.abort_refusal
  abort_so q r conn session txn =
      let n = txn.number in
      first_so q session n (rf.too_old session n ∷ rf.busy session conn ∷ rf.started session txn
      ∷ rf.no_transaction session n false false ∷ rf.after_commit session n ∷ []) (
        old_so q session n,
        (
          mild_so q session n _ _ refl,
          (
            mild_so q session n _ _ refl,
            (mild_so q session n _ _ refl, (mild_so q session n _ _ refl, tt)),
          ),
        ),
      )

  -- a commit that isn't refused is of no lower number
  commit_new : (r : RouterState) (conn : ℕ) (session : Option Session) (txn : Txn)
      (t : Option Token) → rf.commit_refusal r conn session txn t ≡ None
      → rf.too_old session txn.number ≡ None
  unfolding rf.commit_refusal
  commit_new r conn session txn t e = (first_none (rf.too_old session txn.number) _ e).0

  -- A request that is answered at once.

  only_reply : (s a : Sent) → Contains (a ∷ []) s → s.reply ≡ a.reply
  only_reply s a c = ap (λ (x : Sent). x.reply) (only_one a s c)

  module _ (R : RouterState) (asker : Asker) (q : Request) (s : Sent) (tag : Tag) (meant : Meant)
      (means : meant_by q s.reply ≡ Some meant)
      (kept : (lsid : Lsid) (v : Session) → session_of R lsid ≡ Some v → DoingKeeps v.doing) where
    module _ (txn : Txn)
        (own : (t : Transaction) → rf.begun_in (session_of R txn.lsid) txn.number ≡ Some t
        → Some tag ≡ Some t.tag) where
      -- refused, it tells that the transaction is aborted, which it is
      refused_stands : (why : Reply)
          → SoRefused q (session_of R txn.lsid) txn.number (Some why)
          → Contains (told asker why ∷ []) s → Stands R tag meant
      refused_stands why so c =
          let f = so meant (ap (meant_by q) (sym (only_reply s (told asker why) c)) ∙ means) in
          let b = is_begun (session_of R txn.lsid) txn.number f.1.0 f.1.1 in
          record {
            q = q;
            lsid = txn.lsid;
            session = b.there;
            there = b.is;
            ground = subst (λ (m : Meant). MeantGround A q tag b.there.doing m) (sym f.0)
                (subst (λ (d : Doing). MeantGround A q tag d Undone) (sym b.doing)
                (inl (sym (some_is tag f.1.0.tag (own f.1.0 f.1.1)), f.1.2)));
          }

      done_stands : (d : Deed) (t : Transaction)
          → rf.begun_in (session_of R txn.lsid) txn.number ≡ Some t → SaysRight A q t.tag d
          → Contains d.given.replies s → Stands (done_in R txn.lsid d).state tag meant
      done_stands d t b says c =
          stands_in q tag (done_in R txn.lsid d).state txn.lsid d s meant
          (entry_there txn.lsid d.session R.sessions)
          (subst (λ (x : Tag). SaysRight A q x d) (sym (some_is tag t.tag (own t b))) says) c means

      states_stand : (op : Op) (at : Option ℕ) (refused : Option Reply)
          (mine : Option Transaction)
          → SoRefused q (session_of R txn.lsid) txn.number refused
          → Contains (rq.unless_refused R asker refused (rq.states R txn.lsid
          (session_of R txn.lsid) txn.number asker op at mine)).given.replies s
          → Stands (rq.unless_refused R asker refused (rq.states R txn.lsid
          (session_of R txn.lsid) txn.number asker op at mine)).state tag meant
      states_stand op at (Some why) mine so c = refused_stands why so c
      states_stand op at None (Some t) so c = none_in s c
      states_stand op at None None so c = none_in s c

      kept_in : (t : Transaction) → rf.begun_in (session_of R txn.lsid) txn.number ≡ Some t
          → KeepsMild t.reply
      kept_in t b =
          of_begun DoingKeeps R txn.lsid txn.number t (λ v there. kept txn.lsid v there) b

      sought_stand : (t : Option Token) → is_attempt q ≡ true → Some tag ≡ option_and_then tag_in t
          → Contains (rq.commit_sought R asker txn (session_of R txn.lsid) t).given.replies s
          → Stands (rq.commit_sought R asker txn (session_of R txn.lsid) t).state tag meant
      sought_stand None attempt same c = none_in s c
      sought_stand (Some (token.Early x)) attempt same c = none_in s c
      sought_stand (Some token.Other) attempt same c = none_in s c
      sought_stand (Some (token.Placed x shard boot)) attempt same c =
          let k : Seeking = record { asker = Some asker; tag = x; shard = shard; boot = boot } in
          let d = tk.seeks_by txn.lsid txn.number asker k (session_of R txn.lsid) in
          stands_in q tag (done_in R txn.lsid d).state txn.lsid d s meant
          (entry_there txn.lsid d.session R.sessions)
          (subst (λ (y : Tag). SaysRight A q y d) (sym (some_is tag x same))
          (seeks_says A q txn.lsid txn.number asker k (session_of R txn.lsid) attempt)) c means

      commits_stand : (t : Option Token) (refused : Option Reply) (mine : Option Transaction)
          → is_attempt q ≡ true
          → SoRefused q (session_of R txn.lsid) txn.number refused
          → rf.begun_in (session_of R txn.lsid) txn.number ≡ mine
          → (refused ≡ None → mine ≡ None → Some tag ≡ option_and_then tag_in t)
          → Contains (rq.unless_refused R asker refused (rq.commit_by R asker txn
          (session_of R txn.lsid) t mine)).given.replies s
          → Stands (rq.unless_refused R asker refused (rq.commit_by R asker txn
          (session_of R txn.lsid) t mine)).state tag meant
      commits_stand t (Some why) mine attempt so b other c = refused_stands why so c
      commits_stand t None None attempt so b other c =
          sought_stand t attempt (other refl refl) c
      commits_stand t None (Some x) attempt so b other c =
          done_stands (co.commit_asked txn.lsid txn.number asker x) x b
          (commit_says A q txn.lsid txn.number asker x attempt (kept_in x b)) c

      aborts_stand : (refused : Option Reply) (mine : Option Transaction) → is_abort q ≡ true
          → SoRefused q (session_of R txn.lsid) txn.number refused
          → rf.begun_in (session_of R txn.lsid) txn.number ≡ mine
          → Contains (rq.unless_refused R asker refused (rq.abort_by R asker txn
          mine)).given.replies s
          → Stands (rq.unless_refused R asker refused (rq.abort_by R asker txn mine)).state tag
          meant
      aborts_stand (Some why) mine abort so b c = refused_stands why so c
      aborts_stand None None abort so b c = none_in s c
      aborts_stand None (Some x) abort so b c =
          done_stands (en.client_aborts txn.lsid txn.number asker x) x b
          (client_says A q txn.lsid txn.number asker x abort) c

  -- what is known of the transaction of a request
  pub record Of (r : RouterState) (q : Request) (tag : Tag) : Type 0 where
    pub some : txn_of q ≡ None → ⊥
    pub own : (txn : Txn) (t : Transaction) → txn_of q ≡ Some txn
        → rf.begun_in (session_of r txn.lsid) txn.number ≡ Some t → Some tag ≡ Some t.tag
    pub other : (txn : Txn) → txn_of q ≡ Some txn
        → rf.begun_in (session_of r txn.lsid) txn.number ≡ None
        → rf.too_old (session_of r txn.lsid) txn.number ≡ None
        → Some tag ≡ option_and_then tag_in (token_of q)

  serves_stand : (r : RouterState) (asker : Asker) (legacy : Bool) (s : Sent) (tag : Tag)
      (meant : Meant)
      → ((lsid : Lsid) (v : Session) → session_of r lsid ≡ Some v → DoingKeeps v.doing)
      → (q : Request) → meant_by q s.reply ≡ Some meant → Of r q tag
      → Contains (rq.serves r asker legacy q).given.replies s
      → Stands (rq.serves r asker legacy q).state tag meant
  unfolding rq.serves
  serves_stand r asker legacy s tag meant kept (request.Ping more time) means of c =
      absurd (of.some refl)
  serves_stand r asker legacy s tag meant kept (request.Hello old_name more time) means of c =
      absurd (of.some refl)
  serves_stand r asker legacy s tag meant kept (request.EndSessions ids more time) means of c =
      absurd (of.some refl)
  serves_stand r asker legacy s tag meant kept (request.Statement op None at after more time)
      means of c = absurd (of.some refl)
  serves_stand r asker legacy s tag meant kept (request.Statement op (Some txn) at after more time)
      means of c =
      let q = request.Statement op (Some txn) at after more time in
      let R = met r time after in
      states_stand R asker q s tag meant means kept txn (λ t b. of.own txn t refl b) op at
      (rf.statement_refusal R asker.conn (session_of R txn.lsid) txn op)
      (rf.begun_in (session_of R txn.lsid) txn.number)
      (statement_so q R asker.conn (session_of R txn.lsid) txn op) c
  serves_stand r asker legacy s tag meant kept (request.Commit None t more time) means of c =
      absurd (of.some refl)
  serves_stand r asker legacy s tag meant kept (request.Commit (Some txn) t more time) means of c =
      let q = request.Commit (Some txn) t more time in
      let R = met r time None in
      commits_stand R asker q s tag meant means kept txn (λ x b. of.own txn x refl b) t
      (rf.commit_refusal R asker.conn (session_of R txn.lsid) txn t)
      (rf.begun_in (session_of R txn.lsid) txn.number) refl
      (commit_so q R asker.conn (session_of R txn.lsid) txn t) refl
      (λ none b. of.other txn refl b (commit_new R asker.conn (session_of R txn.lsid) txn t none))
      c
  serves_stand r asker legacy s tag meant kept (request.Abort None more time) means of c =
      absurd (of.some refl)
  serves_stand r asker legacy s tag meant kept (request.Abort (Some txn) more time) means of c =
      let q = request.Abort (Some txn) more time in
      let R = met r time None in
      aborts_stand R asker q s tag meant means kept txn (λ x b. of.own txn x refl b)
      (rf.abort_refusal R asker.conn (session_of R txn.lsid) txn)
      (rf.begun_in (session_of R txn.lsid) txn.number) refl
      (abort_so q R asker.conn (session_of R txn.lsid) txn) refl c

  silent_state : (b : Bool) (m : Move) → (sp.unless_silent b m).state ≡ m.state
  silent_state true m = refl
  silent_state false m = refl

  client_state : (R : RouterState) (conn : ℕ) (bytes : List ℕ) (q : Request)
      → is_waiting R conn ≡ false → asked_in R.wall bytes ≡ Ok q
      → (sp.client R conn bytes).state
      ≡ (rq.serves R (sp.asker_by conn bytes) (is_legacy bytes) q).state
  client_state R conn bytes q free asked =
      ap (λ (test : Bool). (if test then still R
      else sp.unless_silent (wants_reply bytes)
      (sp.served R conn bytes (asked_in R.wall bytes))).state) free
      ∙ silent_state (wants_reply bytes) (sp.served R conn bytes (asked_in R.wall bytes))
      ∙ ap (λ (x : Result Request Unserved). (sp.served R conn bytes x).state) asked

  pub served_stands : (r : RouterState) (e : NodeEvent) (y : Replied) (k : Served r e y)
      (tag : Tag) (meant : Meant) → y.hand.tag ≡ Some tag
      → meant_by y.hand.request y.reply ≡ Some meant
      → ((lsid : Lsid) (v : Session) → session_of r lsid ≡ Some v → DoingKeeps v.doing)
      → Stands (move_of r e).state tag meant
  served_stands r e y k tag meant same means kept =
      let R = walled r e.wall in
      let q = y.hand.request in
      let asker = sp.asker_by y.hand.conn k.bytes in
      let state : (sp.happened R e.what).state
      ≡ (rq.serves R asker (is_legacy k.bytes) q).state =
      ap (λ (w : Happening). (sp.happened R w).state) k.what_is
      ∙ client_state R y.hand.conn k.bytes q k.free k.asked in
      subst (λ (x : RouterState). Stands x tag meant) (sym state)
      (serves_stand R asker (is_legacy k.bytes) k.sent tag meant kept q
      (ap (meant_by q) k.reply ∙ means)
      (record {
        some = λ none. no_some tag (sym (k.none none) ∙ same);
        own = λ txn t is b. sym same ∙ k.own txn t is b;
        other = λ txn is b old. sym same ∙ k.other txn is b old;
      }) k.among)
