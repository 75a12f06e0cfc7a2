-- What a reply tells of its transaction stands in the session after the deed that gives it: where
-- it tells that a commit was done, the transaction is known as committed or released there; where
-- it tells that it is aborted, it is known as aborted there, or was told so; and where it tells a
-- cause, it was aborted before its commit was sent, or told as aborted.
use Rattle.std.proofs.Common.{◌≡◌, ◌⊎◌, inl, inr, ◌&&◌, ◌||◌, ◌++◌, ℕ, ℤ, Bool, true, false, not}
use Rattle.std.proofs.Common.{All, Contains, List, [], ◌∷◌, length, nat_eq, int_lt}
use Rattle.std.proofs.Common.{filter_map, Option, Some, None, unwrap_or, refl, sym, ap, subst}
use Rattle.std.proofs.Common.{◌∙◌, if◌then◌else◌}
use Rattle.std.specs.List.{list_any}
use Rattle.std.specs.Ordering.{nat_cmp}
use Rattle.std.proofs.lemmas.List.Elements.{All-nil, Contains-append_right}
use Rattle.txn_types.specs.Order.{same_tag}
use Rattle.txn_types.specs.declared.cause.Cause.{Cause}
use Rattle.txn_types.specs.declared.decision.Token.{Token}
use Rattle.txn_types.specs.declared.decision.Told.{Told}
use Rattle.txn_types.specs.declared.decision.Told.TheVariants as told_as
use Rattle.txn_types.specs.declared.message.Answer.{Answer}
use Rattle.txn_types.specs.declared.message.Outcome.{Outcome}
use Rattle.txn_types.specs.declared.names.Tag.{Tag}
use Rattle.txn_types.specs.declared.node.Lsid.{Lsid}
use Rattle.txn_types.specs.declared.operation.Op.{Op}
use Rattle.txn_types.specs.declared.operation.Op.TheVariants as op_as
use Rattle.txn_types.specs.declared.operation.OpReply.{OpReply}
use Rattle.txn_types.specs.declared.operation.OpReply.TheVariants.{Count, Rows}
use Rattle.txn_semantics.specs.Keyed.{put}
use Rattle.txn_semantics.specs.Merge.{merge}
use Rattle.client_cmd.specs.declared.request.Request.{Request}
use Rattle.client_cmd.specs.declared.request.Request.TheVariants as request
use Rattle.client_reply.specs.declared.reply.Refusal.TheVariants as refusal
use Rattle.client_reply.specs.declared.reply.Reply.{Reply}
use Rattle.client_reply.specs.declared.reply.Reply.TheVariants as reply
use Rattle.router_state.specs.declared.deed.Deed.{Deed}
use Rattle.router_state.specs.declared.deed.Sent.{Sent}
use Rattle.router_state.specs.declared.state.Asker.{Asker}
use Rattle.router_state.specs.declared.state.Doing.{Doing}
use Rattle.router_state.specs.declared.state.Doing.TheVariants.{Begun, Sought}
use Rattle.router_state.specs.declared.state.Phase.{Phase}
use Rattle.router_state.specs.declared.state.Phase.TheVariants.{Idle, Asking, Checking, Deciding}
use Rattle.router_state.specs.declared.state.Phase.TheVariants.{Committed, Released, Aborted}
use Rattle.router_state.specs.declared.state.Seeking.{Seeking}
use Rattle.router_state.specs.declared.state.Session.{Session}
use Rattle.router_state.specs.declared.state.Transaction.{Transaction}
use Rattle.router_state.specs.Deeds.{nothing, in_session, telling, told, told_if}
use Rattle.router_state.specs.Shards.{writers, readers}
use Rattle.router_state.specs.State.{Post, is_own, is_waited, without, token_of}
use Rattle.router_rules.specs.Commits as co
use Rattle.router_rules.specs.Ends as en
use Rattle.router_rules.specs.Statements as st
use Rattle.router_rules.specs.Tokens as tk
use Rattle.cluster_core.specs.Telling.{Meant, Done, Undone, Caused, is_attempt, is_abort}
use Rattle.cluster_core.specs.Telling.{done_where, ended_as, meant_by}
use Rattle.participant.proofs.Cases.{either}
use Rattle.participant.proofs.Tags.{tag_same}
use Rattle.world_laws.proofs.Naming.{one}
use Rattle.answer_laws.proofs.Lists.{both_true, has_first, has_more}
use Rattle.decision_laws.specs.Ends.{IsAborted}
use Rattle.right_laws.proofs.Tellings.Kept.{IsMild, KeepsMild, reply_mild}

-- What stands in a session after a deed.

abbrev pub IsKnownDone : Phase → Type 0
IsKnownDone Committed = Unit {0}
IsKnownDone Released = Unit {0}
IsKnownDone other = ⊥

abbrev pub IsDoneIn : Tag → Doing → Type 0
IsDoneIn tag (Begun t) = (t.tag ≡ tag) × IsKnownDone t.phase
IsDoneIn tag (Sought seeking known) = Contains known tag

abbrev pub IsUndoneIn : Tag → Doing → Type 0
IsUndoneIn tag (Begun t) = (t.tag ≡ tag) × IsAborted t.phase
IsUndoneIn tag (Sought seeking known) = ⊥

-- it was aborted before its commit was sent
abbrev pub IsLostIn : Tag → Doing → Type 0
IsLostIn tag (Begun t) = (t.tag ≡ tag) × (t.phase ≡ Aborted false)
IsLostIn tag (Sought seeking known) = ⊥

no_some : {A X : Type 0} (a : A) → None ≡ Some a → X
no_some a e = cc

some_is : {A : Type 0} (a b : A) → Some a ≡ Some b → a ≡ b
some_is a b e = cc

no_true : {X : Type 0} → false ≡ true → X
no_true e = cc

any_has : (tag : Tag) (known : List Tag) → list_any (same_tag tag) known ≡ true
    → Contains known tag
any_has tag [] e = no_true e
any_has tag (x ∷ known) e = by (same_tag tag x) refl e (λ f. any_has tag known f)
  where
    by : (test : Bool) → same_tag tag x ≡ test
        → (test || list_any (same_tag tag) known) ≡ true
        → (list_any (same_tag tag) known ≡ true → Contains known tag)
        → Contains (x ∷ known) tag
    by true is f more =
        subst (λ (y : Tag). Contains (x ∷ known) y) (sym (tag_same tag x is)) (has_first x known)
    by false is f more = has_more x known tag (more f)

-- a reply of these kinds tells an attempt to commit that it is done, if anything
ended_done : (q : Request) (meant : Meant) → is_attempt q ≡ true → ended_as q ≡ Some meant
    → meant ≡ Done
ended_done (request.Commit txn t more time) meant a e = sym (some_is Done meant e)
ended_done (request.Abort txn more time) meant a e = no_true a
ended_done (request.Statement op txn at after more time) meant a e = no_some meant e
ended_done (request.Ping more time) meant a e = no_some meant e
ended_done (request.Hello old_name more time) meant a e = no_some meant e
ended_done (request.EndSessions ids more time) meant a e = no_some meant e

where_done : (b : Bool) (meant : Meant) → done_where b ≡ Some meant → meant ≡ Done
where_done true meant e = sym (some_is Done meant e)
where_done false meant e = no_some meant e

mild_done : (q : Request) (r : Reply) (meant : Meant) → IsMild r → meant_by q r ≡ Some meant
    → meant ≡ Done
mild_done q (reply.Wrote n modified t) meant h e = where_done (is_attempt q) meant e
mild_done q (reply.Found ns docs t) meant h e = where_done (is_attempt q) meant e
mild_done q (reply.Refused refusal.ReplyTooLarge) meant h e = no_some meant e
mild_done q other meant h e = absurd h

kept_done : (q : Request) (r : Option Reply) (meant : Meant) → is_attempt q ≡ true → KeepsMild r
    → meant_by q (unwrap_or r (reply.Ended None)) ≡ Some meant → meant ≡ Done
kept_done q None meant a h e = ended_done q meant a e
kept_done q (Some r) meant a h e = mild_done q r meant h e

commit_done : (q : Request) (lsid : Lsid) (t : Transaction) (meant : Meant) → is_attempt q ≡ true
    → KeepsMild t.reply → meant_by q (co.commit_reply lsid t) ≡ Some meant → meant ≡ Done
commit_done q lsid t meant a h =
    either (is_own lsid) (λ (r : Reply). meant_by q r ≡ Some meant → meant ≡ Done)
    (unwrap_or t.reply (reply.Ended None)) (reply.Ended (Some (token_of t)))
    (λ e. kept_done q t.reply meant a h e) (λ e. ended_done q meant a e)

-- `A` says of a transaction that it was told as aborted.

module _ (A : Tag → Type 0) (q : Request) where
  abbrev pub MeantGround : Tag → Doing → Meant → Type 0
  MeantGround tag doing Done = IsDoneIn tag doing
  MeantGround tag doing Undone = IsUndoneIn tag doing ⊎ A tag
  MeantGround tag doing (Caused shard why) = IsLostIn tag doing ⊎ A tag

  abbrev pub Grounded : Tag → Doing → Sent → Type 0
  Grounded tag doing s = (meant : Meant) → meant_by q s.reply ≡ Some meant
      → MeantGround tag doing meant

  abbrev pub SaysRight : Tag → Deed → Type 0
  SaysRight tag d = All (Grounded tag d.session.doing) d.given.replies

  says_none : (tag : Tag) (doing : Doing) → All (Grounded tag doing) []
  says_none tag doing = All-nil (Grounded tag doing)

  says_if : (tag : Tag) (doing : Doing) (asker : Option Asker) (r : Reply)
      → ((meant : Meant) → meant_by q r ≡ Some meant → MeantGround tag doing meant)
      → All (Grounded tag doing) (told_if asker r)
  says_if tag doing None r f = says_none tag doing
  says_if tag doing (Some asker) r f = one (Grounded tag doing) (told asker r) f

  -- Commits.

  finished_says : (lsid : Lsid) (number : ℤ) (asker : Option Asker) (p : Phase) (t : Transaction)
      → is_attempt q ≡ true → IsKnownDone p → KeepsMild t.reply
      → SaysRight t.tag (co.finished lsid number asker p t)
  finished_says lsid number asker p t a known h =
      says_if t.tag (Begun (en.ended p t)) asker (co.commit_reply lsid t)
      (λ meant e. subst (MeantGround t.tag (Begun (en.ended p t)))
      (sym (commit_done q lsid t meant a h e)) (refl, known))

  decides_case : (lsid : Lsid) (number : ℤ) (asker : Option Asker) (t : Transaction)
      (parts : List (ℕ × ℕ)) → is_attempt q ≡ true → KeepsMild t.reply
      → SaysRight t.tag (co.decides_by lsid number asker t parts)
  decides_case lsid number asker t [] a h = finished_says lsid number asker Released t a tt h
  decides_case lsid number asker t (first ∷ []) a h =
      says_none t.tag (co.decides_by lsid number asker t (first ∷ [])).session.doing
  decides_case lsid number asker t (first ∷ second ∷ more) a h =
      says_none t.tag (co.decides_by lsid number asker t (first ∷ second ∷ more)).session.doing

  commits_case : (lsid : Lsid) (number : ℤ) (asker : Option Asker) (t : Transaction)
      (parts : List (ℕ × ℕ)) → is_attempt q ≡ true → KeepsMild t.reply
      → SaysRight t.tag (co.commits_by lsid number asker t parts)
  commits_case lsid number asker t [] a h = decides_case lsid number asker t (writers t) a h
  commits_case lsid number asker t (first ∷ more) a h =
      says_none t.tag (co.commits_by lsid number asker t (first ∷ more)).session.doing

  commit_phase : (lsid : Lsid) (number : ℤ) (asker : Asker) (t : Transaction) (p : Phase)
      → is_attempt q ≡ true → KeepsMild t.reply
      → SaysRight t.tag (co.commit_asked lsid number asker (record t { phase = p }))
  commit_phase lsid number asker t Idle a h =
      commits_case lsid number (Some asker) (record t { phase = Idle })
      (readers (record t { phase = Idle })) a h
  commit_phase lsid number asker t (Asking other op answers) a h =
      says_none t.tag (Begun (record t { phase = Asking other op answers }))
  commit_phase lsid number asker t (Checking other) a h =
      says_none t.tag (Begun (record t { phase = Checking (Some asker) }))
  commit_phase lsid number asker t (Deciding other) a h =
      either (nat_eq (length t.waiting) 0) (SaysRight t.tag)
      (co.decides lsid number (Some asker) (record t { phase = Deciding other })) _
      (decides_case lsid number (Some asker) (record t { phase = Deciding other })
      (writers (record t { phase = Deciding other })) a h)
      (says_none t.tag (Begun (record t { phase = Deciding (Some asker) })))
  commit_phase lsid number asker t Committed a h =
      finished_says lsid number (Some asker) Committed (record t { phase = Committed }) a tt h
  commit_phase lsid number asker t Released a h =
      finished_says lsid number (Some asker) Released (record t { phase = Released }) a tt h
  commit_phase lsid number asker t (Aborted sent) a h =
      one (Grounded t.tag (Begun (record t { phase = Aborted sent })))
      (told asker (reply.Refused refusal.Aborted))
      (λ meant e. subst (MeantGround t.tag (Begun (record t { phase = Aborted sent })))
      (some_is Undone meant e) (inl (refl, tt)))

  pub commit_says : (lsid : Lsid) (number : ℤ) (asker : Asker) (t : Transaction)
      → is_attempt q ≡ true → KeepsMild t.reply
      → SaysRight t.tag (co.commit_asked lsid number asker t)
  commit_says lsid number asker t a h = commit_phase lsid number asker t t.phase a h

  -- Outcomes.

  module _ (o : Outcome) (hear : (why : Cause) → o.told ≡ told_as.Aborted why → A o.tag)
      (attempt : is_attempt q ≡ true) where
    released_says : (lsid : Lsid) (number : ℤ) (asker : Option Asker) (t : Transaction)
        (posts : List Post) → KeepsMild t.reply
        → SaysRight t.tag (co.released lsid number asker t posts)
    released_says lsid number asker t [] h =
        decides_case lsid number asker t (writers t) attempt h
    released_says lsid number asker t (post ∷ posts) h =
        says_none t.tag (Begun (record t { waiting = post ∷ posts }))

    -- so it was told
    aborted_says : (t : Transaction) (doing : Doing) (asker : Option Asker) (shard : ℕ)
        (number : ℤ) (why : Cause) → o.tag ≡ t.tag → o.told ≡ told_as.Aborted why
        → All (Grounded t.tag doing) (told_if asker (reply.Caused shard number why))
    aborted_says t doing asker shard number why same told =
        says_if t.tag doing asker (reply.Caused shard number why)
        (λ meant e. subst (MeantGround t.tag doing) (some_is (Caused shard why) meant e)
        (inr (subst A same (hear why told))))

    checked_says : (lsid : Lsid) (number : ℤ) (asker : Option Asker) (t : Transaction) (x : Told)
        → o.tag ≡ t.tag → o.told ≡ x → KeepsMild t.reply
        → SaysRight t.tag (co.checked lsid number asker (record o { told = x }) t)
    checked_says lsid number asker t told_as.Released same told h =
        released_says lsid number asker t (without o.shard t.waiting) h
    checked_says lsid number asker t (told_as.Committed at) same told h =
        finished_says lsid number asker Committed t attempt tt h
    checked_says lsid number asker t (told_as.Aborted why) same told h =
        aborted_says t (Begun (en.ended (Aborted true) t)) asker o.shard number why same told
    checked_says lsid number asker t (told_as.TooOld have) same told h =
        says_if t.tag (Begun (en.ended (Aborted true) t)) asker (reply.TooOld number have)
        (λ meant e. no_some meant e)
    checked_says lsid number asker t told_as.NoTrace same told h =
        says_if t.tag (Begun (en.ended (Aborted true) t)) asker (reply.Refused refusal.NoDecision)
        (λ meant e. no_some meant e)

    decided_says : (lsid : Lsid) (number : ℤ) (asker : Option Asker) (t : Transaction) (x : Told)
        → o.tag ≡ t.tag → o.told ≡ x → KeepsMild t.reply
        → SaysRight t.tag (co.decided lsid number asker (record o { told = x }) t)
    decided_says lsid number asker t told_as.Released same told h =
        finished_says lsid number asker Committed t attempt tt h
    decided_says lsid number asker t (told_as.Committed at) same told h =
        finished_says lsid number asker Committed t attempt tt h
    decided_says lsid number asker t (told_as.Aborted why) same told h =
        aborted_says t (Begun (en.ended (Aborted true) t)) asker o.shard number why same told
    decided_says lsid number asker t (told_as.TooOld have) same told h =
        says_if t.tag (Begun (en.ended (Deciding None) t)) asker (reply.TooOld number have)
        (λ meant e. no_some meant e)
    decided_says lsid number asker t told_as.NoTrace same told h =
        says_if t.tag (Begun (en.ended (Deciding None) t)) asker (reply.Refused refusal.NoDecision)
        (λ meant e. no_some meant e)

    counted_says : (lsid : Lsid) (number : ℤ) (t : Transaction) (p : Phase) → o.tag ≡ t.tag
        → KeepsMild t.reply
        → SaysRight t.tag (co.counted lsid number o (record t { phase = p }))
    counted_says lsid number t (Checking asker) same h =
        checked_says lsid number asker (record t { phase = Checking asker }) o.told same refl h
    counted_says lsid number t (Deciding asker) same h =
        decided_says lsid number asker (record t { phase = Deciding asker }) o.told same refl h
    counted_says lsid number t Idle same h = says_none t.tag (Begun (record t { phase = Idle }))
    counted_says lsid number t (Asking asker op answers) same h =
        says_none t.tag (Begun (record t { phase = Asking asker op answers }))
    counted_says lsid number t Committed same h =
        says_none t.tag (Begun (record t { phase = Committed }))
    counted_says lsid number t Released same h =
        says_none t.tag (Begun (record t { phase = Released }))
    counted_says lsid number t (Aborted sent) same h =
        says_none t.tag (Begun (record t { phase = Aborted sent }))

    pub outcome_says : (lsid : Lsid) (number : ℤ) (t : Transaction) → KeepsMild t.reply
        → SaysRight t.tag (co.on_outcome lsid number o t)
    outcome_says lsid number t h = by (same_tag t.tag o.tag && is_waited o.shard t.waiting) refl
      where
        by : (test : Bool) → (same_tag t.tag o.tag && is_waited o.shard t.waiting) ≡ test
            → SaysRight t.tag (if test then co.counted lsid number o t
            else in_session number t nothing)
        by true e =
            counted_says lsid number t t.phase
            (sym (tag_same t.tag o.tag (both_true (same_tag t.tag o.tag)
            (is_waited o.shard t.waiting) e).0)) h
        by false e = says_none t.tag (Begun t)

    -- of a transaction that is looked for
    token_says : (number : ℤ) (k : Seeking) (known : List Tag) (x : Told) → o.tag ≡ k.tag
        → o.told ≡ x
        → All (Grounded k.tag (Sought None (tk.known_by k.tag known x)))
        (told_if k.asker (co.outcome_reply o.shard number (tk.token_reply k) x))
    token_says number k known (told_as.Committed at) same e =
        says_if k.tag (Sought None (known ++ k.tag ∷ [])) k.asker (tk.token_reply k)
        (λ meant f. subst (MeantGround k.tag (Sought None (known ++ k.tag ∷ [])))
        (sym (ended_done q meant attempt f))
        (Contains-append_right known (k.tag ∷ []) k.tag (has_first k.tag [])))
    token_says number k known told_as.Released same e =
        says_if k.tag (Sought None (known ++ k.tag ∷ [])) k.asker (tk.token_reply k)
        (λ meant f. subst (MeantGround k.tag (Sought None (known ++ k.tag ∷ [])))
        (sym (ended_done q meant attempt f))
        (Contains-append_right known (k.tag ∷ []) k.tag (has_first k.tag [])))
    token_says number k known (told_as.Aborted why) same e =
        says_if k.tag (Sought None known) k.asker (reply.Caused o.shard number why)
        (λ meant f. subst (MeantGround k.tag (Sought None known))
        (some_is (Caused o.shard why) meant f) (inr (subst A same (hear why e))))
    token_says number k known (told_as.TooOld have) same e =
        says_if k.tag (Sought None known) k.asker (reply.TooOld number have)
        (λ meant f. no_some meant f)
    token_says number k known told_as.NoTrace same e =
        says_if k.tag (Sought None known) k.asker (reply.Refused refusal.NoDecision)
        (λ meant f. no_some meant f)

    pub recovered_says : (number : ℤ) (k : Seeking) (known : List Tag)
        → SaysRight k.tag (tk.on_recovered number (Some k) known o)
    recovered_says number k known = by (same_tag k.tag o.tag && nat_eq k.shard o.shard) refl
      where
        by : (test : Bool) → (same_tag k.tag o.tag && nat_eq k.shard o.shard) ≡ test
            → SaysRight k.tag (if test then tk.recovered number k known o
            else tk.sought number (Some k) known nothing)
        by true e =
            token_says number k known o.told
            (sym (tag_same k.tag o.tag (both_true (same_tag k.tag o.tag) (nat_eq k.shard o.shard)
            e).0)) refl
        by false e = says_none k.tag (Sought (Some k) known)

  -- Answers.

  -- a reply to a statement tells of no commit, unless it is one by itself
  reply_says : (op : Op) (r : OpReply) (t : Option Token) (own : Bool) (tag : Tag) (doing : Doing)
      (meant : Meant) → is_attempt q ≡ own → (own && not (st.is_cut r)) ≡ false
      → meant_by q (st.reply_of op r t) ≡ Some meant → MeantGround tag doing meant
  reply_says op (Rows docs (Some id)) t own tag doing meant a none e = no_some meant e
  reply_says op (Rows docs None) t true tag doing meant a none e = no_true (sym none)
  reply_says op (Rows docs None) t false tag doing meant a none e =
      no_some meant (sym (ap done_where a) ∙ e)
  reply_says op (Count n modified) t true tag doing meant a none e = no_true (sym none)
  reply_says (op_as.Update ns items) (Count n modified) t false tag doing meant a none e =
      no_some meant (sym (ap done_where a) ∙ e)
  reply_says (op_as.Insert ns docs) (Count n modified) t false tag doing meant a none e =
      no_some meant (sym (ap done_where a) ∙ e)
  reply_says (op_as.Find ns wanted down limit) (Count n modified) t false tag doing meant a none
      e = no_some meant (sym (ap done_where a) ∙ e)
  reply_says (op_as.Delete ns items) (Count n modified) t false tag doing meant a none e =
      no_some meant (sym (ap done_where a) ∙ e)

  module _ (lsid : Lsid) (number : ℤ) (a : Answer) (asker : Asker) (op : Op)
      (answers : List (ℕ × Answer)) (t : Transaction) (suits : is_attempt q ≡ is_own lsid) where
    abbrev now : Transaction
    now = st.with_answer asker op answers a t

    abbrev rows : List (ℕ × Answer)
    rows = put nat_cmp a.shard a answers

    abbrev replied : OpReply → Transaction
    replied r = record (st.answered_by rows now) { reply = Some (st.reply_of op r None) }

    replies_case : (r : OpReply) (own : Bool) (test : Bool) → is_attempt q ≡ own
        → (own && not (st.is_cut r)) ≡ test
        → SaysRight t.tag (if test then co.commits lsid number (Some asker) (replied r)
        else in_session number (st.answered_by rows now)
        (telling (told asker (st.reply_of op r (Some (token_of (st.answered_by rows now)))) ∷ [])))
    replies_case r own true e both =
        commits_case lsid number (Some asker) (replied r) (readers (replied r))
        (e ∙ (both_true own (not (st.is_cut r)) both).0) (reply_mild op r None)
    replies_case r own false e none =
        one (Grounded t.tag (Begun (st.answered_by rows now)))
        (told asker (st.reply_of op r (Some (token_of (st.answered_by rows now)))))
        (λ meant f. reply_says op r (Some (token_of (st.answered_by rows now))) own t.tag
        (Begun (st.answered_by rows now)) meant e none f)

    concludes_says : (o : Option (ℕ × Cause))
        → SaysRight t.tag (st.concludes_by lsid number asker op rows now o)
    concludes_says None =
        replies_case (merge op (filter_map st.reply_in rows)) (is_own lsid) _ suits refl
    concludes_says (Some refusal) =
        one (Grounded t.tag (Begun (en.ended (Aborted false) now)))
        (told asker (reply.Caused refusal.0 number refusal.1))
        (λ meant e. subst (MeantGround t.tag (Begun (en.ended (Aborted false) now)))
        (some_is (Caused refusal.0 refusal.1) meant e) (inl (refl, refl)))

    taken_says : (posts : List Post)
        → SaysRight t.tag (st.taken_by lsid number asker op rows now posts)
    taken_says [] = concludes_says (st.winning (filter_map st.cause_in rows))
    taken_says (post ∷ posts) = says_none t.tag (Begun now)

  -- an answer counts where a statement is asked
  abbrev pub SuitsAsking : Lsid → Phase → Type 0
  SuitsAsking lsid (Asking asker op answers) = is_attempt q ≡ is_own lsid
  SuitsAsking lsid other = Unit {0}

  answer_phase : (lsid : Lsid) (number : ℤ) (a : Answer) (t : Transaction) (p : Phase)
      → SuitsAsking lsid p → SaysRight t.tag (st.answer_to lsid number a (record t { phase = p }))
  answer_phase lsid number a t (Asking asker op answers) suits =
      taken_says lsid number a asker op answers (record t { phase = Asking asker op answers })
      suits (without a.shard t.waiting)
  answer_phase lsid number a t Idle suits = says_none t.tag (Begun (record t { phase = Idle }))
  answer_phase lsid number a t (Checking asker) suits =
      says_none t.tag (Begun (record t { phase = Checking asker }))
  answer_phase lsid number a t (Deciding asker) suits =
      says_none t.tag (Begun (record t { phase = Deciding asker }))
  answer_phase lsid number a t Committed suits =
      says_none t.tag (Begun (record t { phase = Committed }))
  answer_phase lsid number a t Released suits =
      says_none t.tag (Begun (record t { phase = Released }))
  answer_phase lsid number a t (Aborted sent) suits =
      says_none t.tag (Begun (record t { phase = Aborted sent }))

  pub answer_says : (lsid : Lsid) (number : ℤ) (a : Answer) (t : Transaction)
      → SuitsAsking lsid t.phase → SaysRight t.tag (st.on_answer lsid number a t)
  answer_says lsid number a t suits =
      either (same_tag t.tag a.tag && nat_eq a.k t.k && is_waited a.shard t.waiting)
      (SaysRight t.tag) (st.answer_to lsid number a t) _
      (answer_phase lsid number a t t.phase suits) (says_none t.tag (Begun t))

  -- Aborts.

  ends_said : (t : Transaction) (v : Transaction) (asker : Asker) → v.tag ≡ t.tag
      → IsAborted v.phase → is_abort q ≡ true
      → All (Grounded t.tag (Begun v)) (told asker (reply.Ended None) ∷ [])
  ends_said t v asker same ended abort =
      one (Grounded t.tag (Begun v)) (told asker (reply.Ended None))
      (λ meant e. subst (MeantGround t.tag (Begun v)) (undone q meant abort e)
      (inl (same, ended)))
    where
      undone : (x : Request) (meant : Meant) → is_abort x ≡ true → ended_as x ≡ Some meant
          → Undone ≡ meant
      undone (request.Abort txn more time) meant b e = some_is Undone meant e
      undone (request.Commit txn t more time) meant b e = no_true b
      undone (request.Statement op txn at after more time) meant b e = no_true b
      undone (request.Ping more time) meant b e = no_true b
      undone (request.Hello old_name more time) meant b e = no_true b
      undone (request.EndSessions ids more time) meant b e = no_true b

  client_phase : (lsid : Lsid) (number : ℤ) (asker : Asker) (t : Transaction) (p : Phase)
      → is_abort q ≡ true
      → SaysRight t.tag (en.client_aborts lsid number asker (record t { phase = p }))
  client_phase lsid number asker t (Aborted sent) b =
      ends_said t (record t { phase = Aborted sent }) asker refl tt b
  client_phase lsid number asker t Idle b =
      ends_said t (en.aborted (record t { phase = Idle })) asker refl tt b
  client_phase lsid number asker t (Asking other op answers) b =
      ends_said t (en.aborted (record t { phase = Asking other op answers })) asker refl tt b
  client_phase lsid number asker t (Checking other) b =
      ends_said t (en.aborted (record t { phase = Checking other })) asker refl tt b
  client_phase lsid number asker t (Deciding other) b =
      ends_said t (en.aborted (record t { phase = Deciding other })) asker refl tt b
  client_phase lsid number asker t Committed b =
      ends_said t (en.aborted (record t { phase = Committed })) asker refl tt b
  client_phase lsid number asker t Released b =
      ends_said t (en.aborted (record t { phase = Released })) asker refl tt b

  pub client_says : (lsid : Lsid) (number : ℤ) (asker : Asker) (t : Transaction)
      → is_abort q ≡ true → SaysRight t.tag (en.client_aborts lsid number asker t)
  client_says lsid number asker t b = client_phase lsid number asker t t.phase b

  -- Tokens.

  asks_for_says : (lsid : Lsid) (number : ℤ) (k : Seeking) (older : Option Seeking)
      (known : List Tag) → SaysRight k.tag (tk.asks_for lsid number k older known)
  asks_for_says lsid number k None known = says_none k.tag (Sought (Some k) known)
  asks_for_says lsid number k (Some older) known =
      either (tk.same_place older k) (SaysRight k.tag) _ _
      (says_none k.tag (Sought (Some k) known)) (says_none k.tag (Sought (Some k) known))

  seeks_in_case : (lsid : Lsid) (number : ℤ) (asker : Asker) (k : Seeking)
      (seeking : Option Seeking) (known : List Tag) (test : Bool) → is_attempt q ≡ true
      → tk.is_known k.tag known ≡ test
      → SaysRight k.tag (if test then tk.sought number seeking known
      (telling (told asker (tk.token_reply k) ∷ []))
      else tk.asks_for lsid number k seeking known)
  seeks_in_case lsid number asker k seeking known true a is =
      one (Grounded k.tag (Sought seeking known)) (told asker (tk.token_reply k))
      (λ meant e. subst (MeantGround k.tag (Sought seeking known)) (sym (ended_done q meant a e))
      (any_has k.tag known is))
  seeks_in_case lsid number asker k seeking known false a is =
      asks_for_says lsid number k seeking known

  seeks_doing : (lsid : Lsid) (number own : ℤ) (asker : Asker) (k : Seeking) (doing : Doing)
      → is_attempt q ≡ true → SaysRight k.tag
      (tk.seeks_by lsid number asker k (Some (record { number = own; doing = doing })))
  seeks_doing lsid number own asker k (Begun t) a =
      either (int_lt own number) (SaysRight k.tag) _ _ (says_none k.tag (Sought (Some k) []))
      (says_none k.tag (Begun t))
  seeks_doing lsid number own asker k (Sought seeking known) a =
      either (int_lt own number) (SaysRight k.tag) _ _ (says_none k.tag (Sought (Some k) []))
      (seeks_in_case lsid number asker k seeking known _ a refl)

  pub seeks_says : (lsid : Lsid) (number : ℤ) (asker : Asker) (k : Seeking) (s : Option Session)
      → is_attempt q ≡ true → SaysRight k.tag (tk.seeks_by lsid number asker k s)
  seeks_says lsid number asker k None a = says_none k.tag (Sought (Some k) [])
  seeks_says lsid number asker k (Some s) a =
      seeks_doing lsid number s.number asker k s.doing a
