-- What is done in a session of a router: each request to recover that goes out is by a token that
-- was given, and each token that is told is that of the session's own transaction, or was given.
-- The session keeps its number, or takes that of the request.
use Rattle.std.proofs.Common.{◌≡◌, ◌⊎◌, inl, inr, ℕ, ℤ, true, false, not, ◌&&◌, List, [], ◌∷◌}
use Rattle.std.proofs.Common.{map, filter_map, length, nat_eq, int_lt, is_none, Option, Some, None}
use Rattle.std.proofs.Common.{All, refl, sym, ap, subst, ◌∙◌, unwrap_or}
use Rattle.std.proofs.lemmas.List.Elements.{All-nil, All-append, All-filter}
use Rattle.std.specs.Ordering.{nat_cmp}
use Rattle.txn_types.specs.Order.{same_tag}
use Rattle.txn_types.specs.declared.cause.Cause.{Cause}
use Rattle.txn_types.specs.declared.decision.Told.{Told}
use Rattle.txn_types.specs.declared.decision.Told.TheVariants as told_as
use Rattle.txn_types.specs.declared.decision.Token.{Token}
use Rattle.txn_types.specs.declared.decision.Token.TheVariants as token
use Rattle.txn_types.specs.declared.message.Answer.{Answer}
use Rattle.txn_types.specs.declared.message.Msg.{Msg}
use Rattle.txn_types.specs.declared.message.Msg.TheVariants as msg
use Rattle.txn_types.specs.declared.message.Outcome.{Outcome}
use Rattle.txn_types.specs.declared.names.Tag.{Tag}
use Rattle.txn_types.specs.declared.node.Lsid.{Lsid}
use Rattle.txn_types.specs.declared.operation.Op.{Op}
use Rattle.txn_types.specs.declared.operation.Op.TheVariants.{Insert, Find, Update, Delete}
use Rattle.txn_types.specs.declared.operation.OpReply.{OpReply}
use Rattle.txn_types.specs.declared.operation.OpReply.TheVariants.{Count, Rows}
use Rattle.txn_semantics.specs.Keyed.{put}
use Rattle.txn_semantics.specs.Merge.{merge}
use Rattle.client_reply.specs.Replies.{token_in}
use Rattle.client_reply.specs.declared.reply.Refusal.TheVariants as refusal
use Rattle.client_reply.specs.declared.reply.Reply.{Reply}
use Rattle.client_reply.specs.declared.reply.Reply.TheVariants as reply
use Rattle.chunk_map.specs.Map.{Map}
use Rattle.chunk_map.specs.Parts.{shards_of}
use Rattle.router_state.specs.declared.deed.Deed.{Deed}
use Rattle.router_state.specs.declared.deed.Sent.{Sent}
use Rattle.router_state.specs.declared.state.Asker.{Asker}
use Rattle.router_state.specs.declared.state.Doing.{Doing}
use Rattle.router_state.specs.declared.state.Doing.TheVariants.{Begun, Sought}
use Rattle.router_state.specs.declared.state.Phase.{Phase}
use Rattle.router_state.specs.declared.state.Phase.TheVariants.{Idle, Asking, Checking, Deciding}
use Rattle.router_state.specs.declared.state.Phase.TheVariants.{Committed, Released, Aborted}
use Rattle.router_state.specs.declared.state.Seeking.{Seeking}
use Rattle.router_state.specs.declared.state.Session.{Session}
use Rattle.router_state.specs.declared.state.Transaction.{Transaction}
use Rattle.router_state.specs.State.{Post, asker_of, is_from, commit_sent, is_unfinished, is_waited}
use Rattle.router_state.specs.State.{is_own, without, token_by, token_of}
use Rattle.router_state.specs.Shards.{writers, readers}
use Rattle.router_state.specs.Deeds.{nothing, aborting, telling, told, told_if, both, in_session}
use Rattle.router_state.specs.Deeds.{stays}
use Rattle.router_rules.specs.Commits as co
use Rattle.router_rules.specs.Ends as en
use Rattle.router_rules.specs.Serving.{answered_in, ended_in}
use Rattle.router_rules.specs.Statements as st
use Rattle.router_rules.specs.Tokens as tk
use Rattle.participant.proofs.Cases.{either}
use Rattle.world_laws.proofs.Beginning.{same_unless}
use Rattle.world_laws.proofs.Naming.{one, each}
use Rattle.abort_laws.proofs.Deeds.{either_if}

-- `R` says of a transaction and a boot, in a session and under a number, that a token which names
-- them was given there.

abbrev pub SeekOk : (Tag → ℕ → Type 0) → Option Seeking → Type 0
SeekOk R None = Unit {0}
SeekOk R (Some k) = R k.tag k.boot

abbrev pub AskOk : (Lsid → ℤ → Tag → ℕ → Type 0) → Msg → Type 0
AskOk R (msg.Recover x) = R x.lsid x.number x.tag x.boot
AskOk R other = Unit {0}

-- a transaction whose token may be told
abbrev pub IsTold : Phase → Type 0
IsTold Idle = Unit {0}
IsTold Committed = Unit {0}
IsTold Released = Unit {0}
IsTold other = ⊥

-- what is kept for the reply to a command by itself has no token
abbrev pub HasNone : Option Reply → Type 0
HasNone kept = token_in (unwrap_or kept (reply.Ended None)) ≡ None

-- what may be told in a session that does this
abbrev pub OwnToken : (Tag → ℕ → Type 0) → Doing → Option Token → Type 0
OwnToken R (Begun t) o = (o ≡ Some (token_of t)) × IsTold t.phase
OwnToken R (Sought seeking known) o =
    (k : Seeking) × (o ≡ Some (token.Placed k.tag k.shard k.boot)) × R k.tag k.boot

abbrev pub TokenOk : (Tag → ℕ → Type 0) → Doing → Option Token → Type 0
TokenOk R doing o = (o ≡ None) ⊎ OwnToken R doing o

-- Some lemmas of tokens.

ended_token : (p : Phase) (t : Transaction) → token_of (en.ended p t) ≡ token_of t
ended_token p t = by t.wrote
  where
    by : (wrote : List ℕ) → token_by (en.ended p t) wrote ≡ token_by t wrote
    by [] = refl
    by (shard ∷ more) = refl

abbrev NoneOr : Option Token → Option Token → Type 0
NoneOr o t = (o ≡ None) ⊎ (o ≡ t)

-- of a statement's reply
reply_token : (op : Op) (r : OpReply) (t : Option Token) → NoneOr (token_in (st.reply_of op r t)) t
reply_token (Update ns items) (Count n modified) t = inr refl
reply_token (Insert ns items) (Count n modified) t = inr refl
reply_token (Find ns wanted down limit) (Count n modified) t = inr refl
reply_token (Delete ns items) (Count n modified) t = inr refl
reply_token (Update ns items) (Rows docs None) t = inr refl
reply_token (Insert ns items) (Rows docs None) t = inr refl
reply_token (Find ns wanted down limit) (Rows docs None) t = inr refl
reply_token (Delete ns items) (Rows docs None) t = inr refl
reply_token (Update ns items) (Rows docs (Some id)) t = inl refl
reply_token (Insert ns items) (Rows docs (Some id)) t = inl refl
reply_token (Find ns wanted down limit) (Rows docs (Some id)) t = inl refl
reply_token (Delete ns items) (Rows docs (Some id)) t = inl refl

reply_none : (op : Op) (r : OpReply) → token_in (st.reply_of op r None) ≡ None
reply_none op r = elim (reply_token op r None) [ inl e ↦ e | inr e ↦ e ]

commit_token : (lsid : Lsid) (t : Transaction) → HasNone t.reply
    → NoneOr (token_in (co.commit_reply lsid t)) (Some (token_of t))
commit_token lsid t kept =
    either (is_own lsid) (λ (r : Reply). NoneOr (token_in r) (Some (token_of t)))
    (unwrap_or t.reply (reply.Ended None)) (reply.Ended (Some (token_of t))) (inl kept) (inr refl)

outcome_token : (shard : ℕ) (number : ℤ) (done : Reply) (x : Told)
    → NoneOr (token_in (co.outcome_reply shard number done x)) (token_in done)
outcome_token shard number done (told_as.Committed at) = inr refl
outcome_token shard number done told_as.Released = inr refl
outcome_token shard number done (told_as.Aborted cause) = inl refl
outcome_token shard number done (told_as.TooOld have) = inl refl
outcome_token shard number done told_as.NoTrace = inl refl

module _ (R : Lsid → ℤ → Tag → ℕ → Type 0) where
  abbrev pub PostOk : Post → Type 0
  PostOk post = AskOk R post.1

  pub record TxnOk (t : Transaction) : Type 0 where
    pub waiting : All PostOk t.waiting
    pub kept : HasNone t.reply

  abbrev pub DoingOk : Lsid → ℤ → Doing → Type 0
  DoingOk lsid number (Begun t) = TxnOk t
  DoingOk lsid number (Sought seeking known) = SeekOk (R lsid number) seeking

  abbrev pub SaysOk : Lsid → ℤ → Doing → Sent → Type 0
  SaysOk lsid number doing sent = TokenOk (R lsid number) doing (token_in sent.reply)

  pub record DeedOk (lsid : Lsid) (number : ℤ) (d : Deed) : Type 0 where
    pub number_is : d.session.number ≡ number
    pub doing : DoingOk lsid d.session.number d.session.doing
    pub aborts : All PostOk d.given.aborts
    pub sends : All PostOk d.given.sends
    pub replies : All (SaysOk lsid d.session.number d.session.doing) d.given.replies

  none : All PostOk []
  none = All-nil PostOk

  silent : (lsid : Lsid) (number : ℤ) (doing : Doing) → All (SaysOk lsid number doing) []
  silent lsid number doing = All-nil (SaysOk lsid number doing)

  says : (lsid : Lsid) (number : ℤ) (doing : Doing) (asker : Option Asker) (r : Reply)
      → TokenOk (R lsid number) doing (token_in r)
      → All (SaysOk lsid number doing) (told_if asker r)
  says lsid number doing None r h = silent lsid number doing
  says lsid number doing (Some asker) r h = one (SaysOk lsid number doing) (told asker r) h

  tells : (lsid : Lsid) (number : ℤ) (doing : Doing) (asker : Asker) (r : Reply)
      → TokenOk (R lsid number) doing (token_in r)
      → All (SaysOk lsid number doing) (told asker r ∷ [])
  tells lsid number doing asker r h = one (SaysOk lsid number doing) (told asker r) h

  -- nothing goes out
  rests : (lsid : Lsid) (number : ℤ) (t : Transaction) → TxnOk t
      → DeedOk lsid number (in_session number t nothing)
  rests lsid number t h =
      record {
        number_is = refl;
        doing = h;
        aborts = none;
        sends = none;
        replies = silent lsid number (Begun t);
      }

  -- Ends.

  aborts_ok : (lsid : Lsid) (number : ℤ) (why : ℕ) (t : Transaction)
      → All PostOk (en.aborts lsid number why t)
  aborts_ok lsid number why t = each PostOk (en.abort_to lsid number why t.tag) t.parts (λ x. tt)

  without_ok : (shard : ℕ) (posts : List Post) → All PostOk posts
      → All PostOk (without shard posts)
  without_ok shard posts h = All-filter (λ post. not (nat_eq post.0 shard)) PostOk posts h

  over : (t : Transaction) (p : Phase) → HasNone t.reply → TxnOk (en.ended p t)
  over t p kept = record { waiting = none; kept = kept }

  ends_ok : (lsid : Lsid) (number : ℤ) (why : ℕ) (t : Transaction) → HasNone t.reply
      → DeedOk lsid number (en.ends lsid number why t)
  ends_ok lsid number why t kept = record {
    number_is = refl;
    doing = over t (Aborted (commit_sent t.phase)) kept;
    aborts = aborts_ok lsid number why t;
    sends = none;
    replies = silent lsid number (Begun (en.aborted t));
  }

  leaves_doing : (lsid : Lsid) (number : ℤ) (doing : Doing)
      → All PostOk (en.leaves lsid (record { number = number; doing = doing }))
  leaves_doing lsid number (Begun t) =
      either (is_unfinished t.phase) (All PostOk) _ _ (aborts_ok lsid number 6 t) none
  leaves_doing lsid number (Sought seeking known) = none

  pub leaves_ok : (lsid : Lsid) (s : Session) → All PostOk (en.leaves lsid s)
  leaves_ok lsid s = leaves_doing lsid s.number s.doing

  -- Commits.

  finished_ok : (lsid : Lsid) (number : ℤ) (asker : Option Asker) (p : Phase) (t : Transaction)
      → IsTold p → HasNone t.reply → DeedOk lsid number (co.finished lsid number asker p t)
  finished_ok lsid number asker p t so kept = record {
    number_is = refl;
    doing = over t p kept;
    aborts = none;
    sends = none;
    replies = says lsid number (Begun (en.ended p t)) asker (co.commit_reply lsid t)
        (elim (commit_token lsid t kept) [
          | inl e ↦ inl e
          | inr e ↦ inr (e ∙ ap Some (sym (ended_token p t)), so)
        ]);
  }

  waits_ok : (lsid : Lsid) (number : ℤ) (p : Phase) (posts : List Post) (t : Transaction)
      → All PostOk posts
      → HasNone t.reply → DeedOk lsid number (co.waits number p posts t)
  waits_ok lsid number p posts t h kept = record {
    number_is = refl;
    doing = record { waiting = h; kept = kept };
    aborts = none;
    sends = h;
    replies = silent lsid number (Begun (record t { phase = p; waiting = posts }));
  }

  decides_by_ok : (lsid : Lsid) (number : ℤ) (asker : Option Asker) (t : Transaction)
      (parts : List (ℕ × ℕ)) → HasNone t.reply
      → DeedOk lsid number (co.decides_by lsid number asker t parts)
  decides_by_ok lsid number asker t [] kept = finished_ok lsid number asker Released t tt kept
  decides_by_ok lsid number asker t (first ∷ []) kept =
      waits_ok lsid number (Deciding asker) (co.commit_to lsid number t first ∷ []) t
      (one PostOk (co.commit_to lsid number t first) tt) kept
  decides_by_ok lsid number asker t (first ∷ second ∷ more) kept =
      waits_ok lsid number (Deciding asker) (co.commit_two_to lsid number t first ∷ []) t
      (one PostOk (co.commit_two_to lsid number t first) tt) kept

  decides_ok : (lsid : Lsid) (number : ℤ) (asker : Option Asker) (t : Transaction)
      → HasNone t.reply → DeedOk lsid number (co.decides lsid number asker t)
  decides_ok lsid number asker t kept = decides_by_ok lsid number asker t (writers t) kept

  commits_by_ok : (lsid : Lsid) (number : ℤ) (asker : Option Asker) (t : Transaction)
      (parts : List (ℕ × ℕ)) → HasNone t.reply
      → DeedOk lsid number (co.commits_by lsid number asker t parts)
  commits_by_ok lsid number asker t [] kept = decides_ok lsid number asker t kept
  commits_by_ok lsid number asker t (first ∷ more) kept =
      waits_ok lsid number (Checking asker) (map (co.commit_to lsid number t) (first ∷ more)) t
      (each PostOk (co.commit_to lsid number t) (first ∷ more) (λ x. tt)) kept

  commits_ok : (lsid : Lsid) (number : ℤ) (asker : Option Asker) (t : Transaction)
      → HasNone t.reply → DeedOk lsid number (co.commits lsid number asker t)
  commits_ok lsid number asker t kept = commits_by_ok lsid number asker t (readers t) kept

  listens_ok : (lsid : Lsid) (number : ℤ) (asker : Asker) (t : Transaction) → TxnOk t
      → DeedOk lsid number (co.listens lsid number asker t)
  listens_ok lsid number asker t h =
      either (nat_eq (length t.waiting) 0) (DeedOk lsid number) _ _
      (decides_ok lsid number (Some asker) t h.kept)
      (rests lsid number (record t { phase = Deciding (Some asker) })
      (record { waiting = h.waiting; kept = h.kept }))

  commit_phase : (lsid : Lsid) (number : ℤ) (asker : Asker) (t : Transaction) (p : Phase)
      → All PostOk t.waiting → HasNone t.reply
      → DeedOk lsid number (co.commit_asked lsid number asker (record t { phase = p }))
  commit_phase lsid number asker t Idle h kept =
      commits_ok lsid number (Some asker) (record t { phase = Idle }) kept
  commit_phase lsid number asker t (Asking other op answers) h kept =
      rests lsid number (record t { phase = Asking other op answers })
      (record { waiting = h; kept = kept })
  commit_phase lsid number asker t (Checking other) h kept =
      rests lsid number (record t { phase = Checking (Some asker) })
      (record { waiting = h; kept = kept })
  commit_phase lsid number asker t (Deciding other) h kept =
      listens_ok lsid number asker (record t { phase = Deciding other })
      (record { waiting = h; kept = kept })
  commit_phase lsid number asker t Committed h kept =
      finished_ok lsid number (Some asker) Committed (record t { phase = Committed }) tt kept
  commit_phase lsid number asker t Released h kept =
      finished_ok lsid number (Some asker) Released (record t { phase = Released }) tt kept
  commit_phase lsid number asker t (Aborted sent) h kept = record {
    number_is = refl;
    doing = record { waiting = h; kept = kept };
    aborts = none;
    sends = none;
    replies = tells lsid number (Begun (record t { phase = Aborted sent })) asker
        (reply.Refused refusal.Aborted) (inl refl);
  }

  pub commit_asked_ok : (lsid : Lsid) (number : ℤ) (asker : Asker) (t : Transaction)
      → TxnOk t → DeedOk lsid number (co.commit_asked lsid number asker t)
  commit_asked_ok lsid number asker t h =
      commit_phase lsid number asker t t.phase h.waiting h.kept

  released_ok : (lsid : Lsid) (number : ℤ) (asker : Option Asker) (t : Transaction)
      (posts : List Post) → All PostOk posts → HasNone t.reply
      → DeedOk lsid number (co.released lsid number asker t posts)
  released_ok lsid number asker t [] h kept = decides_ok lsid number asker t kept
  released_ok lsid number asker t (post ∷ posts) h kept =
      rests lsid number (record t { waiting = post ∷ posts }) (record { waiting = h; kept = kept })

  fails_ok : (lsid : Lsid) (number : ℤ) (asker : Option Asker) (x : Outcome) (t : Transaction)
      → HasNone t.reply
      → token_in (co.outcome_reply x.shard number (co.commit_reply lsid t) x.told) ≡ None
      → DeedOk lsid number (co.fails lsid number asker x t)
  fails_ok lsid number asker x t kept e = record {
    number_is = refl;
    doing = over t (Aborted true) kept;
    aborts = All-append PostOk (without x.shard (en.aborts lsid number 5 t)) []
        (without_ok x.shard (en.aborts lsid number 5 t) (aborts_ok lsid number 5 t)) none;
    sends = none;
    replies = says lsid number (Begun (en.ended (Aborted true) t)) asker
        (co.outcome_reply x.shard number (co.commit_reply lsid t) x.told) (inl e);
  }

  -- Statements.

  pub asks_ok : (chunks : Map) (lsid : Lsid) (number : ℤ) (asker : Asker) (op : Op)
      (t : Transaction) → HasNone t.reply
      → DeedOk lsid number (st.asks chunks lsid number asker op t)
  asks_ok chunks lsid number asker op t kept =
      let sent = each PostOk (st.statement_to chunks lsid number t op) (shards_of chunks op)
      (λ x. tt) in
      record {
        number_is = refl;
        doing = record { waiting = sent; kept = kept };
        aborts = none;
        sends = sent;
        replies = silent lsid number (st.asks chunks lsid number asker op t).session.doing;
      }

  refuses_ok : (lsid : Lsid) (number : ℤ) (asker : Asker) (t : Transaction) (refusal : ℕ × Cause)
      → HasNone t.reply → DeedOk lsid number (st.refuses lsid number asker t refusal)
  refuses_ok lsid number asker t refusal kept = record {
    number_is = refl;
    doing = over t (Aborted false) kept;
    aborts = All-append PostOk (without refusal.0 (en.aborts lsid number 5 t)) []
        (without_ok refusal.0 (en.aborts lsid number 5 t) (aborts_ok lsid number 5 t)) none;
    sends = none;
    replies = tells lsid number (Begun (en.ended (Aborted false) t)) asker
        (reply.Caused refusal.0 number refusal.1) (inl refl);
  }

  replies_ok : (lsid : Lsid) (number : ℤ) (asker : Asker) (op : Op) (t : Transaction)
      (r : OpReply) → TxnOk t → IsTold t.phase
      → DeedOk lsid number (st.replies lsid number asker op t r)
  replies_ok lsid number asker op t r h so =
      either (is_own lsid && not (st.is_cut r)) (DeedOk lsid number)
      (co.commits lsid number (Some asker) (record t { reply = Some (st.reply_of op r None) }))
      (in_session number t (telling (told asker (st.reply_of op r (Some (token_of t))) ∷ [])))
      (commits_ok lsid number (Some asker) (record t { reply = Some (st.reply_of op r None) })
      (reply_none op r))
      (record {
        number_is = refl;
        doing = h;
        aborts = none;
        sends = none;
        replies = tells lsid number (Begun t) asker (st.reply_of op r (Some (token_of t)))
            (elim (reply_token op r (Some (token_of t))) [ inl e ↦ inl e | inr e ↦ inr (e, so) ]);
      })

  concludes_by_ok : (lsid : Lsid) (number : ℤ) (asker : Asker) (op : Op)
      (answers : List (ℕ × Answer)) (t : Transaction) (w : Option (ℕ × Cause)) → HasNone t.reply
      → DeedOk lsid number (st.concludes_by lsid number asker op answers t w)
  concludes_by_ok lsid number asker op answers t None kept =
      replies_ok lsid number asker op (st.answered_by answers t)
      (merge op (filter_map st.reply_in answers)) (record { waiting = none; kept = kept }) tt
  concludes_by_ok lsid number asker op answers t (Some refusal) kept =
      refuses_ok lsid number asker t refusal kept

  taken_by_ok : (lsid : Lsid) (number : ℤ) (asker : Asker) (op : Op)
      (answers : List (ℕ × Answer)) (t : Transaction) (posts : List Post) → TxnOk t
      → DeedOk lsid number (st.taken_by lsid number asker op answers t posts)
  taken_by_ok lsid number asker op answers t [] h =
      concludes_by_ok lsid number asker op answers t
      (st.winning (filter_map st.cause_in answers)) h.kept
  taken_by_ok lsid number asker op answers t (post ∷ posts) h = rests lsid number t h

  answer_phase : (lsid : Lsid) (number : ℤ) (a : Answer) (t : Transaction) (p : Phase)
      → TxnOk t → DeedOk lsid number (st.answer_to lsid number a (record t { phase = p }))
  answer_phase lsid number a t (Asking asker op answers) h =
      taken_by_ok lsid number asker op (put nat_cmp a.shard a answers)
      (st.with_answer asker op answers a (record t { phase = Asking asker op answers }))
      (without a.shard t.waiting)
      (record { waiting = without_ok a.shard t.waiting h.waiting; kept = h.kept })
  answer_phase lsid number a t Idle h =
      rests lsid number (record t { phase = Idle }) (record { waiting = h.waiting; kept = h.kept })
  answer_phase lsid number a t (Checking asker) h =
      rests lsid number (record t { phase = Checking asker })
      (record { waiting = h.waiting; kept = h.kept })
  answer_phase lsid number a t (Deciding asker) h =
      rests lsid number (record t { phase = Deciding asker })
      (record { waiting = h.waiting; kept = h.kept })
  answer_phase lsid number a t Committed h =
      rests lsid number (record t { phase = Committed })
      (record { waiting = h.waiting; kept = h.kept })
  answer_phase lsid number a t Released h =
      rests lsid number (record t { phase = Released })
      (record { waiting = h.waiting; kept = h.kept })
  answer_phase lsid number a t (Aborted sent) h =
      rests lsid number (record t { phase = Aborted sent })
      (record { waiting = h.waiting; kept = h.kept })

  on_answer_ok : (lsid : Lsid) (number : ℤ) (a : Answer) (t : Transaction) → TxnOk t
      → DeedOk lsid number (st.on_answer lsid number a t)
  on_answer_ok lsid number a t h =
      either (same_tag t.tag a.tag && nat_eq a.k t.k && is_waited a.shard t.waiting)
      (DeedOk lsid number)
      (st.answer_to lsid number a t) (in_session number t nothing)
      (answer_phase lsid number a t t.phase h) (rests lsid number t h)

  -- Outcomes.

  checked_told : (lsid : Lsid) (number : ℤ) (asker : Option Asker) (o : Outcome)
      (t : Transaction) (x : Told) → TxnOk t
      → DeedOk lsid number (co.checked lsid number asker (record o { told = x }) t)
  checked_told lsid number asker o t told_as.Released h =
      released_ok lsid number asker t (without o.shard t.waiting)
      (without_ok o.shard t.waiting h.waiting) h.kept
  checked_told lsid number asker o t (told_as.Committed at) h =
      finished_ok lsid number asker Committed t tt h.kept
  checked_told lsid number asker o t (told_as.Aborted cause) h =
      fails_ok lsid number asker (record o { told = told_as.Aborted cause }) t h.kept refl
  checked_told lsid number asker o t (told_as.TooOld have) h =
      fails_ok lsid number asker (record o { told = told_as.TooOld have }) t h.kept refl
  checked_told lsid number asker o t told_as.NoTrace h =
      fails_ok lsid number asker (record o { told = told_as.NoTrace }) t h.kept refl

  decided_none : (lsid : Lsid) (number : ℤ) (asker : Option Asker) (p : Phase)
      (t : Transaction) (r : Reply)
      → HasNone t.reply → token_in r ≡ None
      → DeedOk lsid number (in_session number (en.ended p t) (telling (told_if asker r)))
  decided_none lsid number asker p t r kept e = record {
    number_is = refl;
    doing = over t p kept;
    aborts = none;
    sends = none;
    replies = says lsid number (Begun (en.ended p t)) asker r (inl e);
  }

  decided_told : (lsid : Lsid) (number : ℤ) (asker : Option Asker) (o : Outcome)
      (t : Transaction) (x : Told) → HasNone t.reply
      → DeedOk lsid number (co.decided lsid number asker (record o { told = x }) t)
  decided_told lsid number asker o t told_as.Released kept =
      finished_ok lsid number asker Committed t tt kept
  decided_told lsid number asker o t (told_as.Committed at) kept =
      finished_ok lsid number asker Committed t tt kept
  decided_told lsid number asker o t (told_as.Aborted cause) kept =
      decided_none lsid number asker (Aborted true) t (reply.Caused o.shard number cause) kept refl
  decided_told lsid number asker o t (told_as.TooOld have) kept =
      decided_none lsid number asker (Deciding None) t (reply.TooOld number have) kept refl
  decided_told lsid number asker o t told_as.NoTrace kept =
      decided_none lsid number asker (Deciding None) t (reply.Refused refusal.NoDecision) kept refl

  counted_phase : (lsid : Lsid) (number : ℤ) (o : Outcome) (t : Transaction) (p : Phase)
      → All PostOk t.waiting → HasNone t.reply
      → DeedOk lsid number (co.counted lsid number o (record t { phase = p }))
  counted_phase lsid number o t (Checking asker) h kept =
      checked_told lsid number asker o (record t { phase = Checking asker }) o.told
      (record { waiting = h; kept = kept })
  counted_phase lsid number o t (Deciding asker) h kept =
      decided_told lsid number asker o (record t { phase = Deciding asker }) o.told kept
  counted_phase lsid number o t Idle h kept =
      rests lsid number (record t { phase = Idle }) (record { waiting = h; kept = kept })
  counted_phase lsid number o t (Asking asker op answers) h kept =
      rests lsid number (record t { phase = Asking asker op answers })
      (record { waiting = h; kept = kept })
  counted_phase lsid number o t Committed h kept =
      rests lsid number (record t { phase = Committed }) (record { waiting = h; kept = kept })
  counted_phase lsid number o t Released h kept =
      rests lsid number (record t { phase = Released }) (record { waiting = h; kept = kept })
  counted_phase lsid number o t (Aborted sent) h kept =
      rests lsid number (record t { phase = Aborted sent }) (record { waiting = h; kept = kept })

  on_outcome_ok : (lsid : Lsid) (number : ℤ) (o : Outcome) (t : Transaction) → TxnOk t
      → DeedOk lsid number (co.on_outcome lsid number o t)
  on_outcome_ok lsid number o t h =
      either (same_tag t.tag o.tag && is_waited o.shard t.waiting) (DeedOk lsid number)
      (co.counted lsid number o t) (in_session number t nothing)
      (counted_phase lsid number o t t.phase h.waiting h.kept) (rests lsid number t h)

  -- Ends that clients ask for, and those of sessions and connections.

  client_ends : (lsid : Lsid) (number : ℤ) (asker : Asker) (t : Transaction) → HasNone t.reply
      → DeedOk lsid number (in_session number (en.aborted t)
      (both (aborting (en.aborts lsid number 1 t)) (telling (told asker (reply.Ended None) ∷ []))))
  client_ends lsid number asker t kept = record {
    number_is = refl;
    doing = over t (Aborted (commit_sent t.phase)) kept;
    aborts = All-append PostOk (en.aborts lsid number 1 t) [] (aborts_ok lsid number 1 t) none;
    sends = none;
    replies = tells lsid number (Begun (en.aborted t)) asker (reply.Ended None) (inl refl);
  }

  client_phase : (lsid : Lsid) (number : ℤ) (asker : Asker) (t : Transaction) (p : Phase)
      → All PostOk t.waiting → HasNone t.reply
      → DeedOk lsid number (en.client_aborts lsid number asker (record t { phase = p }))
  client_phase lsid number asker t (Aborted sent) h kept = record {
    number_is = refl;
    doing = record { waiting = h; kept = kept };
    aborts = none;
    sends = none;
    replies = tells lsid number (Begun (record t { phase = Aborted sent })) asker (reply.Ended None)
        (inl refl);
  }
  client_phase lsid number asker t Idle h kept =
      client_ends lsid number asker (record t { phase = Idle }) kept
  client_phase lsid number asker t (Asking other op answers) h kept =
      client_ends lsid number asker (record t { phase = Asking other op answers }) kept
  client_phase lsid number asker t (Checking other) h kept =
      client_ends lsid number asker (record t { phase = Checking other }) kept
  client_phase lsid number asker t (Deciding other) h kept =
      client_ends lsid number asker (record t { phase = Deciding other }) kept
  client_phase lsid number asker t Committed h kept =
      client_ends lsid number asker (record t { phase = Committed }) kept
  client_phase lsid number asker t Released h kept =
      client_ends lsid number asker (record t { phase = Released }) kept

  pub client_aborts_ok : (lsid : Lsid) (number : ℤ) (asker : Asker) (t : Transaction)
      → TxnOk t → DeedOk lsid number (en.client_aborts lsid number asker t)
  client_aborts_ok lsid number asker t h =
      client_phase lsid number asker t t.phase h.waiting h.kept

  gone_phase : (conn : ℕ) (lsid : Lsid) (number : ℤ) (t : Transaction) (p : Phase)
      → All PostOk t.waiting → HasNone t.reply
      → DeedOk lsid number (en.gone_asking conn lsid
      (record { number = number; doing = Begun (record t { phase = p }) })
      (record t { phase = p }))
  gone_phase conn lsid number t (Asking asker op answers) h kept =
      ends_ok lsid number 4 (record t { phase = Asking asker op answers }) kept
  gone_phase conn lsid number t (Checking asker) h kept =
      rests lsid number (record t { phase = Checking None }) (record { waiting = h; kept = kept })
  gone_phase conn lsid number t (Deciding asker) h kept =
      rests lsid number (record t { phase = Deciding None }) (record { waiting = h; kept = kept })
  gone_phase conn lsid number t Idle h kept =
      rests lsid number (record t { phase = Idle }) (record { waiting = h; kept = kept })
  gone_phase conn lsid number t Committed h kept =
      rests lsid number (record t { phase = Committed }) (record { waiting = h; kept = kept })
  gone_phase conn lsid number t Released h kept =
      rests lsid number (record t { phase = Released }) (record { waiting = h; kept = kept })
  gone_phase conn lsid number t (Aborted sent) h kept =
      rests lsid number (record t { phase = Aborted sent }) (record { waiting = h; kept = kept })

  -- In any session.

  pub stays_ok : (lsid : Lsid) (s : Session) → DoingOk lsid s.number s.doing
      → DeedOk lsid s.number (stays s)
  stays_ok lsid s h = record {
    number_is = refl;
    doing = h;
    aborts = none;
    sends = none;
    replies = silent lsid s.number s.doing;
  }

  pub answered_ok : (a : Answer) (lsid : Lsid) (number : ℤ) (doing : Doing)
      → DoingOk lsid number doing
      → DeedOk lsid number (answered_in a lsid (record { number = number; doing = doing }))
  answered_ok a lsid number (Begun t) h = on_answer_ok lsid number a t h
  answered_ok a lsid number (Sought seeking known) h =
      stays_ok lsid (record { number = number; doing = Sought seeking known }) h

  recovered_ok : (lsid : Lsid) (number : ℤ) (seeking : Option Seeking) (known : List Tag)
      (o : Outcome)
      → SeekOk (R lsid number) seeking → DeedOk lsid number (tk.on_recovered number seeking known o)
  recovered_ok lsid number None known o h =
      record {
        number_is = refl;
        doing = tt;
        aborts = none;
        sends = none;
        replies = silent lsid number (Sought None known);
      }
  recovered_ok lsid number (Some k) known o h =
      either (same_tag k.tag o.tag && nat_eq k.shard o.shard) (DeedOk lsid number)
      (tk.recovered number k known o) (tk.sought number (Some k) known nothing)
      (record {
        number_is = refl;
        doing = tt;
        aborts = none;
        sends = none;
        replies = says lsid number (Sought None (tk.known_by k.tag known o.told)) k.asker
            (co.outcome_reply o.shard number (tk.token_reply k) o.told)
            (elim (outcome_token o.shard number (tk.token_reply k) o.told) [
              | inl e ↦ inl e
              | inr e ↦ inr (k, e, h)
            ]);
      })
      (record {
        number_is = refl;
        doing = h;
        aborts = none;
        sends = none;
        replies = silent lsid number (Sought (Some k) known);
      })

  pub ended_ok : (o : Outcome) (lsid : Lsid) (number : ℤ) (doing : Doing)
      → DoingOk lsid number doing
      → DeedOk lsid number (ended_in o lsid (record { number = number; doing = doing }))
  ended_ok o lsid number (Begun t) h = on_outcome_ok lsid number o t h
  ended_ok o lsid number (Sought seeking known) h = recovered_ok lsid number seeking known o h

  unheard_ok : (lsid : Lsid) (number : ℤ) (seeking : Option Seeking)
      → SeekOk (R lsid number) seeking → SeekOk (R lsid number) (en.unheard seeking)
  unheard_ok lsid number None h = tt
  unheard_ok lsid number (Some k) h = h

  gone_doing : (conn : ℕ) (lsid : Lsid) (number : ℤ) (doing : Doing) → DoingOk lsid number doing
      → DeedOk lsid number (en.gone_in conn lsid (record { number = number; doing = doing }))
  gone_doing conn lsid number (Begun t) h =
      gone_phase conn lsid number t t.phase h.waiting h.kept
  gone_doing conn lsid number (Sought seeking known) h = record {
    number_is = refl;
    doing = unheard_ok lsid number seeking h;
    aborts = none;
    sends = none;
    replies = silent lsid number (Sought (en.unheard seeking) known);
  }

  pub gone_ok : (conn : ℕ) (lsid : Lsid) (s : Session) → DoingOk lsid s.number s.doing
      → DeedOk lsid s.number (en.gone_from conn lsid s)
  gone_ok conn lsid s h =
      either (is_from conn (asker_of s.doing)) (DeedOk lsid s.number)
      (en.gone_in conn lsid s) (stays s)
      (gone_doing conn lsid s.number s.doing h) (stays_ok lsid s h)

  session_doing : (lsid : Lsid) (number : ℤ) (doing : Doing) → DoingOk lsid number doing
      → DeedOk lsid number (en.ends_session lsid (record { number = number; doing = doing }))
  session_doing lsid number (Begun t) h =
      either (is_none (asker_of (Begun t)) && not (commit_sent t.phase)) (DeedOk lsid number) _ _
      (ends_ok lsid number 2 t h.kept)
      (stays_ok lsid (record { number = number; doing = Begun t }) h)
  session_doing lsid number (Sought seeking known) h =
      stays_ok lsid (record { number = number; doing = Sought seeking known }) h

  pub session_ok : (lsid : Lsid) (s : Session) → DoingOk lsid s.number s.doing
      → DeedOk lsid s.number (en.ends_session lsid s)
  session_ok lsid s h = session_doing lsid s.number s.doing h

  -- Tokens.

  anew_ok : (lsid : Lsid) (number : ℤ) (k : Seeking) (known : List Tag) → R lsid number k.tag k.boot
      → DeedOk lsid number (tk.asks_anew lsid number k known)
  anew_ok lsid number k known h = record {
    number_is = refl;
    doing = h;
    aborts = none;
    sends = one PostOk (tk.recover_to lsid number k) h;
    replies = silent lsid number (Sought (Some k) known);
  }

  asks_for_ok : (lsid : Lsid) (number : ℤ) (k : Seeking) (older : Option Seeking)
      (known : List Tag) → R lsid number k.tag k.boot
      → DeedOk lsid number (tk.asks_for lsid number k older known)
  asks_for_ok lsid number k None known h = anew_ok lsid number k known h
  asks_for_ok lsid number k (Some older) known h =
      either (tk.same_place older k) (DeedOk lsid number) _ _
      (record {
        number_is = refl;
        doing = h;
        aborts = none;
        sends = none;
        replies = silent lsid number (Sought (Some k) known);
      })
      (anew_ok lsid number k known h)

  seeks_in_ok : (lsid : Lsid) (number : ℤ) (asker : Asker) (k : Seeking)
      (seeking : Option Seeking) (known : List Tag) → R lsid number k.tag k.boot
      → SeekOk (R lsid number) seeking
      → DeedOk lsid number (tk.seeks_in lsid number asker k seeking known)
  seeks_in_ok lsid number asker k seeking known h s =
      either (tk.is_known k.tag known) (DeedOk lsid number) _ _
      (record {
        number_is = refl;
        doing = s;
        aborts = none;
        sends = none;
        replies =
            tells lsid number (Sought seeking known) asker (tk.token_reply k) (inr (k, refl, h));
      })
      (asks_for_ok lsid number k seeking known h)

  -- of a larger number, the older transaction is left
  seeks_above : (lsid : Lsid) (number : ℤ) (k : Seeking) (v : Session) → R lsid number k.tag k.boot
      → DeedOk lsid number (record {
        session = (tk.asks_anew lsid number k []).session;
        given = both (aborting (en.leaves lsid v)) (tk.asks_anew lsid number k []).given;
      })
  seeks_above lsid number k v h = record {
    number_is = refl;
    doing = h;
    aborts = All-append PostOk (en.leaves lsid v) [] (leaves_ok lsid v) none;
    sends = one PostOk (tk.recover_to lsid number k) h;
    replies = silent lsid number (Sought (Some k) []);
  }

  seeks_doing : (lsid : Lsid) (number own : ℤ) (asker : Asker) (k : Seeking) (doing : Doing)
      → R lsid number k.tag k.boot → int_lt number own ≡ false → DoingOk lsid own doing
      → DeedOk lsid number (tk.seeks_by lsid number asker k
      (Some (record { number = own; doing = doing })))
  seeks_doing lsid number own asker k (Begun t) h low s =
      either_if (int_lt own number) (DeedOk lsid number) _ _
      (λ e. seeks_above lsid number k (record { number = own; doing = Begun t }) h)
      (λ e. subst (λ (i : ℤ). DeedOk lsid i (stays (record { number = own; doing = Begun t })))
      (same_unless own number low e) (stays_ok lsid (record { number = own; doing = Begun t }) s))
  seeks_doing lsid number own asker k (Sought seeking known) h low s =
      either_if (int_lt own number) (DeedOk lsid number) _ _
      (λ e. seeks_above lsid number k (record { number = own; doing = Sought seeking known }) h)
      (λ e. seeks_in_ok lsid number asker k seeking known h
      (subst (λ (i : ℤ). SeekOk (R lsid i) seeking) (same_unless own number low e) s))

  pub seeks_ok : (lsid : Lsid) (number : ℤ) (asker : Asker) (k : Seeking) (o : Option Session)
      → R lsid number k.tag k.boot
      → ((s : Session) → o ≡ Some s → int_lt number s.number ≡ false)
      → ((s : Session) → o ≡ Some s → DoingOk lsid s.number s.doing)
      → DeedOk lsid number (tk.seeks_by lsid number asker k o)
  seeks_ok lsid number asker k None h low s = anew_ok lsid number k [] h
  seeks_ok lsid number asker k (Some v) h low s =
      seeks_doing lsid number v.number asker k v.doing h (low v refl) (s v refl)
