-- What is done in a session of a router: each Abort and each Recover that goes out has its ground,
-- and what the session keeps of grounds stands.
use Rattle.std.proofs.Common.{◌≡◌, ℕ, ℤ, Bool, true, false, not, ◌&&◌, List, [], ◌∷◌, map}
use Rattle.std.proofs.Common.{filter_map, length, nat_eq, int_lt, is_none, Option, Some, None, All}
use Rattle.std.proofs.Common.{Result, Ok, Err, refl, sym, subst, ◌∙◌, if◌then◌else◌}
use Rattle.std.proofs.lemmas.List.Elements.{All-nil, All-head, All-tail, All-append}
use Rattle.std.proofs.lemmas.List.Elements.{All-filter, All-weaker}
use Rattle.std.specs.Ordering.{nat_cmp}
use Rattle.txn_types.specs.Order.{same_tag}
use Rattle.txn_types.specs.declared.cause.Cause.{Cause}
use Rattle.txn_types.specs.declared.decision.Told.{Told}
use Rattle.txn_types.specs.declared.decision.Told.TheVariants as told_as
use Rattle.txn_types.specs.declared.message.Answer.{Answer}
use Rattle.txn_types.specs.declared.message.Msg.{Msg}
use Rattle.txn_types.specs.declared.message.Msg.TheVariants as msg
use Rattle.txn_types.specs.declared.message.Outcome.{Outcome}
use Rattle.txn_types.specs.declared.names.Tag.{Tag}
use Rattle.txn_types.specs.declared.node.Lsid.{Lsid}
use Rattle.txn_types.specs.declared.operation.Op.{Op}
use Rattle.txn_types.specs.declared.operation.OpReply.{OpReply}
use Rattle.txn_semantics.specs.Keyed.{put}
use Rattle.txn_semantics.specs.Merge.{merge}
use Rattle.chunk_map.specs.Map.{Map}
use Rattle.chunk_map.specs.Parts.{shards_of}
use Rattle.router_state.specs.declared.deed.Deed.{Deed}
use Rattle.router_state.specs.declared.deed.Given.{Given}
use Rattle.router_state.specs.declared.deed.Sent.{Sent}
use Rattle.router_state.specs.declared.state.Asker.{Asker}
use Rattle.router_state.specs.declared.state.Doing.{Doing}
use Rattle.router_state.specs.declared.state.Doing.TheVariants.{Begun, Sought}
use Rattle.router_state.specs.declared.state.Phase.{Phase}
use Rattle.router_state.specs.declared.state.Phase.TheVariants.{Idle, Asking, Checking, Deciding}
use Rattle.router_state.specs.declared.state.Phase.TheVariants.{Committed, Released, Aborted}
use Rattle.router_state.specs.declared.state.Seeking.{Seeking}
use Rattle.router_state.specs.declared.state.Session.{Session}
use Rattle.router_state.specs.declared.state.Transaction.{Transaction}
use Rattle.router_state.specs.State.{Post, asker_of, is_from, commit_sent, is_unfinished, is_waited}
use Rattle.router_state.specs.State.{is_own, without, token_of}
use Rattle.router_state.specs.Shards.{writers, readers}
use Rattle.router_state.specs.Deeds.{nothing, aborting, telling, told, both, in_session, stays}
use Rattle.router_rules.specs.Commits as co
use Rattle.router_rules.specs.Ends as en
use Rattle.router_rules.specs.Serving.{answered_in, ended_in}
use Rattle.router_rules.specs.Statements as st
use Rattle.router_rules.specs.Tokens as tk
use Rattle.participant.proofs.Cases.{either}
use Rattle.participant.proofs.Tags.{tag_same}
use Rattle.world_laws.proofs.Naming.{one, each, put_all}

pub either_if : {A : Type 0} (test : Bool) (P : A → Type 0) (x y : A) → (test ≡ true → P x)
    → (test ≡ false → P y) → P (if test then x else y)
either_if true P x y a b = a refl
either_if false P x y a b = b refl

first_true : (a b c : Bool) → (a && b && c) ≡ true → a ≡ true
first_true true b c e = refl
first_true false b c e = e

map_none : {A B : Type 0} (f : A → B) (xs : List A) → map f xs ≡ [] → xs ≡ []
map_none f [] e = refl
map_none f (x ∷ xs) e = cc

not_aborted : (why : Cause) → told_as.Aborted why ≡ told_as.Released → ⊥
not_aborted why e = cc

not_too_old : (have : ℤ) → told_as.TooOld have ≡ told_as.Released → ⊥
not_too_old have e = cc

no_trace : told_as.NoTrace ≡ told_as.Released → ⊥
no_trace e = cc

-- Of what is sent: `A` is said of an Abort, by session, number, transaction and reason, and `R` of
-- the transaction of a Recover.

abbrev pub SendOk : (Lsid → ℤ → Tag → ℕ → Type 0) → (Tag → Type 0) → Msg → Type 0
SendOk A R (msg.Abort x) = A x.lsid x.number x.tag x.why
SendOk A R (msg.Recover x) = R x.tag
SendOk A R other = Unit {0}

-- neither an Abort nor a Recover
abbrev pub PlainMsg : Msg → Type 0
PlainMsg (msg.Abort x) = ⊥
PlainMsg (msg.Recover x) = ⊥
PlainMsg other = Unit {0}

abbrev pub IsPlain : Post → Type 0
IsPlain post = PlainMsg post.1

-- Of what a session keeps: `O` is said of its transaction's tag, and `V` of that of one which an
-- answer has refused.

abbrev pub RefusalOk : Type 0 → Result (OpReply × Bool) Cause → Type 0
RefusalOk V (Ok done) = Unit {0}
RefusalOk V (Err why) = V

abbrev pub AnswerOk : Type 0 → ℕ × Answer → Type 0
AnswerOk V answer = RefusalOk V answer.1.outcome

abbrev pub PhaseOk : Type 0 → List Post → Phase → Type 0
PhaseOk V waiting (Asking asker op answers) = (waiting ≡ [] → ⊥) × All (AnswerOk V) answers
PhaseOk V waiting other = Unit {0}

pub record TxnOk (O V : Tag → Type 0) (t : Transaction) : Type 0 where
  pub own : O t.tag
  pub waiting : All IsPlain t.waiting
  pub phase : PhaseOk (V t.tag) t.waiting t.phase

abbrev pub SeekOk : (Tag → Type 0) → Option Seeking → Type 0
SeekOk R None = Unit {0}
SeekOk R (Some k) = R k.tag

abbrev pub DoingOk : (R O V : Tag → Type 0) → Doing → Type 0
DoingOk R O V (Begun t) = TxnOk O V t
DoingOk R O V (Sought seeking known) = SeekOk R seeking

module _ (A : Lsid → ℤ → Tag → ℕ → Type 0) (R O V : Tag → Type 0) where
  abbrev pub PostOk : Post → Type 0
  PostOk post = SendOk A R post.1

  pub record GivenOk (g : Given) : Type 0 where
    pub aborts : All PostOk g.aborts
    pub sends : All PostOk g.sends

  pub record DeedOk (d : Deed) : Type 0 where
    pub doing : DoingOk R O V d.session.doing
    pub given : GivenOk d.given

  none : All PostOk []
  none = All-nil PostOk

  pub no_given : (replies : List Sent) → GivenOk (telling replies)
  no_given replies = record { aborts = none; sends = none }

  pub both_ok : (a b : Given) → GivenOk a → GivenOk b → GivenOk (both a b)
  both_ok a b h k = record {
    aborts = All-append PostOk a.aborts b.aborts h.aborts k.aborts;
    sends = All-append PostOk a.sends b.sends h.sends k.sends;
  }

  plain_msg : (m : Msg) → PlainMsg m → SendOk A R m
  plain_msg (msg.Abort x) h = absurd h
  plain_msg (msg.Recover x) h = absurd h
  plain_msg (msg.Statement x) h = tt
  plain_msg (msg.Answer x) h = tt
  plain_msg (msg.Commit x) h = tt
  plain_msg (msg.Outcome x) h = tt
  plain_msg (msg.CommitTwo x) h = tt
  plain_msg (msg.Prepare x) h = tt
  plain_msg (msg.Vote x) h = tt
  plain_msg (msg.Decide x) h = tt
  plain_msg (msg.Acked x) h = tt
  plain_msg msg.Nudge h = tt

  pub plain_ok : (post : Post) → IsPlain post → PostOk post
  plain_ok post h = plain_msg post.1 h

  pub plains_ok : (posts : List Post) → All IsPlain posts → All PostOk posts
  plains_ok posts h = All-weaker IsPlain PostOk plain_ok posts h

  -- a transaction that asks nothing now
  over : (number : ℤ) (t : Transaction) (g : Given) → O t.tag → All IsPlain t.waiting
      → PhaseOk (V t.tag) t.waiting t.phase → GivenOk g → DeedOk (in_session number t g)
  over number t g o w p k =
      record { doing = record { own = o; waiting = w; phase = p }; given = k }

  rests : (number : ℤ) (t : Transaction) → TxnOk O V t → DeedOk (in_session number t nothing)
  rests number t h = record { doing = h; given = no_given [] }

  -- Ends.

  aborts_ok : (lsid : Lsid) (number : ℤ) (why : ℕ) (t : Transaction) → A lsid number t.tag why
      → All PostOk (en.aborts lsid number why t)
  aborts_ok lsid number why t a =
      each PostOk (en.abort_to lsid number why t.tag) t.parts (λ x. a)

  without_ok : (shard : ℕ) (posts : List Post) → All PostOk posts
      → All PostOk (without shard posts)
  without_ok shard posts h = All-filter (λ post. not (nat_eq post.0 shard)) PostOk posts h

  without_plain : (shard : ℕ) (posts : List Post) → All IsPlain posts
      → All IsPlain (without shard posts)
  without_plain shard posts h = All-filter (λ post. not (nat_eq post.0 shard)) IsPlain posts h

  ends_ok : (lsid : Lsid) (number : ℤ) (why : ℕ) (t : Transaction) → O t.tag
      → A lsid number t.tag why → DeedOk (en.ends lsid number why t)
  ends_ok lsid number why t o a = over number (en.aborted t) _ o (All-nil IsPlain) tt
      (record { aborts = aborts_ok lsid number why t a; sends = none })

  leaves_doing : (lsid : Lsid) (number : ℤ) (doing : Doing)
      → ((t : Transaction) → doing ≡ Begun t → A lsid number t.tag 6)
      → All PostOk (en.leaves lsid (record { number = number; doing = doing }))
  leaves_doing lsid number (Begun t) a =
      either (is_unfinished t.phase) (All PostOk) _ _
      (aborts_ok lsid number 6 t (a t refl)) none
  leaves_doing lsid number (Sought seeking known) a = none

  pub leaves_ok : (lsid : Lsid) (s : Session)
      → ((t : Transaction) → s.doing ≡ Begun t → A lsid s.number t.tag 6)
      → All PostOk (en.leaves lsid s)
  leaves_ok lsid s a = leaves_doing lsid s.number s.doing a

  -- Commits.

  finished_ok : (lsid : Lsid) (number : ℤ) (asker : Option Asker) (t : Transaction) → O t.tag
      → DeedOk (co.finished lsid number asker Committed t)
  finished_ok lsid number asker t o = over number (en.ended Committed t) _ o (All-nil IsPlain) tt
      (record { aborts = none; sends = none })

  released_end : (lsid : Lsid) (number : ℤ) (asker : Option Asker) (t : Transaction) → O t.tag
      → DeedOk (co.finished lsid number asker Released t)
  released_end lsid number asker t o = over number (en.ended Released t) _ o (All-nil IsPlain) tt
      (record { aborts = none; sends = none })

  waits_checking : (number : ℤ) (asker : Option Asker) (posts : List Post) (t : Transaction)
      → O t.tag → All IsPlain posts → DeedOk (co.waits number (Checking asker) posts t)
  waits_checking number asker posts t o h =
      over number (record t { phase = Checking asker; waiting = posts }) _ o h tt
      (record { aborts = none; sends = plains_ok posts h })

  waits_deciding : (number : ℤ) (asker : Option Asker) (posts : List Post) (t : Transaction)
      → O t.tag → All IsPlain posts → DeedOk (co.waits number (Deciding asker) posts t)
  waits_deciding number asker posts t o h =
      over number (record t { phase = Deciding asker; waiting = posts }) _ o h tt
      (record { aborts = none; sends = plains_ok posts h })

  decides_by_ok : (lsid : Lsid) (number : ℤ) (asker : Option Asker) (t : Transaction)
      (parts : List (ℕ × ℕ)) → O t.tag → DeedOk (co.decides_by lsid number asker t parts)
  decides_by_ok lsid number asker t [] o = released_end lsid number asker t o
  decides_by_ok lsid number asker t (first ∷ []) o = waits_deciding number asker _ t o
      (one IsPlain (co.commit_to lsid number t first) tt)
  decides_by_ok lsid number asker t (first ∷ second ∷ more) o = waits_deciding number asker _ t o
      (one IsPlain (co.commit_two_to lsid number t first) tt)

  decides_ok : (lsid : Lsid) (number : ℤ) (asker : Option Asker) (t : Transaction) → O t.tag
      → DeedOk (co.decides lsid number asker t)
  decides_ok lsid number asker t o = decides_by_ok lsid number asker t (writers t) o

  commits_by_ok : (lsid : Lsid) (number : ℤ) (asker : Option Asker) (t : Transaction)
      (parts : List (ℕ × ℕ)) → O t.tag → DeedOk (co.commits_by lsid number asker t parts)
  commits_by_ok lsid number asker t [] o = decides_ok lsid number asker t o
  commits_by_ok lsid number asker t (first ∷ more) o = waits_checking number asker _ t o
      (each IsPlain (co.commit_to lsid number t) (first ∷ more) (λ x. tt))

  commits_ok : (lsid : Lsid) (number : ℤ) (asker : Option Asker) (t : Transaction) → O t.tag
      → DeedOk (co.commits lsid number asker t)
  commits_ok lsid number asker t o = commits_by_ok lsid number asker t (readers t) o

  listens_ok : (lsid : Lsid) (number : ℤ) (asker : Asker) (t : Transaction) → O t.tag
      → All IsPlain t.waiting → DeedOk (co.listens lsid number asker t)
  listens_ok lsid number asker t o h =
      either (nat_eq (length t.waiting) 0) DeedOk _ _ (decides_ok lsid number (Some asker) t o)
      (over number (record t { phase = Deciding (Some asker) }) nothing o h tt (no_given []))

  commit_phase : (lsid : Lsid) (number : ℤ) (asker : Asker) (t : Transaction) (p : Phase)
      → O t.tag → All IsPlain t.waiting → PhaseOk (V t.tag) t.waiting p
      → DeedOk (co.commit_asked lsid number asker (record t { phase = p }))
  commit_phase lsid number asker t Idle o h k =
      commits_ok lsid number (Some asker) (record t { phase = Idle }) o
  commit_phase lsid number asker t (Asking other op answers) o h k =
      over number (record t { phase = Asking other op answers }) nothing o h k (no_given [])
  commit_phase lsid number asker t (Checking other) o h k =
      over number (record t { phase = Checking (Some asker) }) nothing o h tt (no_given [])
  commit_phase lsid number asker t (Deciding other) o h k =
      listens_ok lsid number asker (record t { phase = Deciding other }) o h
  commit_phase lsid number asker t Committed o h k =
      finished_ok lsid number (Some asker) (record t { phase = Committed }) o
  commit_phase lsid number asker t Released o h k =
      released_end lsid number (Some asker) (record t { phase = Released }) o
  commit_phase lsid number asker t (Aborted sent) o h k =
      over number (record t { phase = Aborted sent }) _ o h tt
      (record { aborts = none; sends = none })

  pub commit_asked_ok : (lsid : Lsid) (number : ℤ) (asker : Asker) (t : Transaction)
      → TxnOk O V t → DeedOk (co.commit_asked lsid number asker t)
  commit_asked_ok lsid number asker t h =
      commit_phase lsid number asker t t.phase h.own h.waiting h.phase

  released_ok : (lsid : Lsid) (number : ℤ) (asker : Option Asker) (t : Transaction)
      (posts : List Post) → O t.tag → All IsPlain posts
      → PhaseOk (V t.tag) posts t.phase → DeedOk (co.released lsid number asker t posts)
  released_ok lsid number asker t [] o h k = decides_ok lsid number asker t o
  released_ok lsid number asker t (post ∷ posts) o h k =
      over number (record t { waiting = post ∷ posts }) nothing o h k (no_given [])

  fails_ok : (lsid : Lsid) (number : ℤ) (asker : Option Asker) (x : Outcome) (t : Transaction)
      → O t.tag → A lsid number t.tag 5 → DeedOk (co.fails lsid number asker x t)
  fails_ok lsid number asker x t o a =
      over number (en.ended (Aborted true) t) _ o (All-nil IsPlain) tt
      (record {
        aborts = All-append PostOk (without x.shard (en.aborts lsid number 5 t)) []
            (without_ok x.shard (en.aborts lsid number 5 t) (aborts_ok lsid number 5 t a)) none;
        sends = none;
      })

  -- Statements.

  pub asks_ok : (chunks : Map) (lsid : Lsid) (number : ℤ) (asker : Asker) (op : Op)
      (t : Transaction) → O t.tag → (shards_of chunks op ≡ [] → ⊥)
      → DeedOk (st.asks chunks lsid number asker op t)
  asks_ok chunks lsid number asker op t o some =
      let sent = each IsPlain (st.statement_to chunks lsid number t op) (shards_of chunks op)
      (λ x. tt) in
      record {
        doing = record {
          own = o;
          waiting = sent;
          phase = (
            λ e. some (map_none (st.statement_to chunks lsid number t op) (shards_of chunks op) e),
            All-nil (AnswerOk (V t.tag)),
          );
        };
        given = record {
          aborts = none;
          sends = plains_ok (st.statements_to chunks lsid number t op) sent;
        };
      }

  refuses_ok : (lsid : Lsid) (number : ℤ) (asker : Asker) (t : Transaction) (refusal : ℕ × Cause)
      → O t.tag → A lsid number t.tag 5 → DeedOk (st.refuses lsid number asker t refusal)
  refuses_ok lsid number asker t refusal o a =
      over number (en.ended (Aborted false) t) _ o (All-nil IsPlain) tt
      (record {
        aborts = All-append PostOk (without refusal.0 (en.aborts lsid number 5 t)) []
            (without_ok refusal.0 (en.aborts lsid number 5 t) (aborts_ok lsid number 5 t a)) none;
        sends = none;
      })

  replies_ok : (lsid : Lsid) (number : ℤ) (asker : Asker) (op : Op) (t : Transaction)
      (r : OpReply) → TxnOk O V t → DeedOk (st.replies lsid number asker op t r)
  replies_ok lsid number asker op t r h =
      either (is_own lsid && not (st.is_cut r)) DeedOk
      (co.commits lsid number (Some asker) (record t { reply = Some (st.reply_of op r None) }))
      (in_session number t (telling (told asker (st.reply_of op r (Some (token_of t))) ∷ [])))
      (commits_ok lsid number (Some asker) (record t { reply = Some (st.reply_of op r None) })
      h.own)
      (record { doing = h; given = record { aborts = none; sends = none } })

  -- a refusal that is told was in an answer

  first_cause : (X : Type 0) (shard : ℕ) (a : Answer) (o : Result (OpReply × Bool) Cause)
      (answers : List (ℕ × Answer)) (r : ℕ × Cause) (rs : List (ℕ × Cause)) → RefusalOk X o
      → (filter_map st.cause_in answers ≡ r ∷ rs → X)
      → filter_map st.cause_in ((shard, record a { outcome = o }) ∷ answers) ≡ r ∷ rs → X
  first_cause X shard a (Ok done) answers r rs k more e = more e
  first_cause X shard a (Err why) answers r rs k more e = k

  any_cause : (X : Type 0) (answers : List (ℕ × Answer)) (r : ℕ × Cause) (rs : List (ℕ × Cause))
      → All (AnswerOk X) answers → filter_map st.cause_in answers ≡ r ∷ rs → X
  any_cause X [] r rs h e = absurd (no_cause r rs e)
    where
      no_cause : (r : ℕ × Cause) (rs : List (ℕ × Cause)) → [] ≡ r ∷ rs → ⊥
      no_cause r rs e = cc
  any_cause X (answer ∷ answers) r rs h e =
      first_cause X answer.0 answer.1 answer.1.outcome answers r rs
      (All-head (AnswerOk X) answer answers h)
      (any_cause X answers r rs (All-tail (AnswerOk X) answer answers h)) e

  some_cause : (X : Type 0) (causes : List (ℕ × Cause)) (refusal : ℕ × Cause)
      → ((r : ℕ × Cause) (rs : List (ℕ × Cause)) → causes ≡ r ∷ rs → X)
      → st.winning causes ≡ Some refusal → X
  some_cause X [] refusal f e = absurd (no_refusal refusal e)
    where
      no_refusal : (refusal : ℕ × Cause) → None ≡ Some refusal → ⊥
      no_refusal refusal e = cc
  some_cause X (r ∷ rs) refusal f e = f r rs refl

  refused_by : (X : Type 0) (answers : List (ℕ × Answer)) (refusal : ℕ × Cause)
      → All (AnswerOk X) answers → st.winning (filter_map st.cause_in answers) ≡ Some refusal → X
  refused_by X answers refusal h e = some_cause X (filter_map st.cause_in answers) refusal
      (λ r rs is. any_cause X answers r rs h is) e

  concludes_by_ok : (lsid : Lsid) (number : ℤ) (asker : Asker) (op : Op)
      (answers : List (ℕ × Answer)) (t : Transaction) (w : Option (ℕ × Cause)) → O t.tag
      → ((refusal : ℕ × Cause) → w ≡ Some refusal → A lsid number t.tag 5)
      → DeedOk (st.concludes_by lsid number asker op answers t w)
  concludes_by_ok lsid number asker op answers t None o a =
      replies_ok lsid number asker op (st.answered_by answers t)
      (merge op (filter_map st.reply_in answers))
      (record { own = o; waiting = All-nil IsPlain; phase = tt })
  concludes_by_ok lsid number asker op answers t (Some refusal) o a =
      refuses_ok lsid number asker t refusal o (a refusal refl)

  some_post : (post : Post) (posts : List Post) → post ∷ posts ≡ [] → ⊥
  some_post post posts e = cc

  taken_by_ok : (lsid : Lsid) (number : ℤ) (asker : Asker) (op : Op)
      (answers : List (ℕ × Answer)) (t : Transaction) (posts : List Post) → O t.tag
      → t.waiting ≡ posts → All IsPlain t.waiting → t.phase ≡ Asking asker op answers
      → All (AnswerOk (V t.tag)) answers → (V t.tag → A lsid number t.tag 5)
      → DeedOk (st.taken_by lsid number asker op answers t posts)
  taken_by_ok lsid number asker op answers t [] o is h asks all a =
      concludes_by_ok lsid number asker op answers t
      (st.winning (filter_map st.cause_in answers)) o
      (λ refusal e. a (refused_by (V t.tag) answers refusal all e))
  taken_by_ok lsid number asker op answers t (post ∷ posts) o is h asks all a =
      rests number t (record {
        own = o;
        waiting = h;
        phase = subst (PhaseOk (V t.tag) t.waiting) (sym asks) (
          λ e. some_post post posts (sym is ∙ e),
          all,
        );
      })

  answer_phase : (lsid : Lsid) (number : ℤ) (a : Answer) (t : Transaction) (p : Phase)
      → O t.tag → All IsPlain t.waiting → PhaseOk (V t.tag) t.waiting p
      → RefusalOk (V t.tag) a.outcome → (V t.tag → A lsid number t.tag 5)
      → DeedOk (st.answer_to lsid number a (record t { phase = p }))
  answer_phase lsid number a t (Asking asker op answers) o h k r x =
      taken_by_ok lsid number asker op (put nat_cmp a.shard a answers)
      (st.with_answer asker op answers a (record t { phase = Asking asker op answers }))
      (without a.shard t.waiting) o refl (without_plain a.shard t.waiting h) refl
      (put_all nat_cmp (AnswerOk (V t.tag)) a.shard a answers r k.1) x
  answer_phase lsid number a t Idle o h k r x =
      over number (record t { phase = Idle }) nothing o h tt (no_given [])
  answer_phase lsid number a t (Checking asker) o h k r x =
      over number (record t { phase = Checking asker }) nothing o h tt (no_given [])
  answer_phase lsid number a t (Deciding asker) o h k r x =
      over number (record t { phase = Deciding asker }) nothing o h tt (no_given [])
  answer_phase lsid number a t Committed o h k r x =
      over number (record t { phase = Committed }) nothing o h tt (no_given [])
  answer_phase lsid number a t Released o h k r x =
      over number (record t { phase = Released }) nothing o h tt (no_given [])
  answer_phase lsid number a t (Aborted sent) o h k r x =
      over number (record t { phase = Aborted sent }) nothing o h tt (no_given [])

  on_answer_ok : (lsid : Lsid) (number : ℤ) (a : Answer) (t : Transaction) → TxnOk O V t
      → (a.tag ≡ t.tag → RefusalOk (V t.tag) a.outcome) → (V t.tag → A lsid number t.tag 5)
      → DeedOk (st.on_answer lsid number a t)
  on_answer_ok lsid number a t h r x =
      either_if (same_tag t.tag a.tag && nat_eq a.k t.k && is_waited a.shard t.waiting) DeedOk
      (st.answer_to lsid number a t) (in_session number t nothing)
      (λ e. answer_phase lsid number a t t.phase h.own h.waiting h.phase
      (r (sym (tag_same t.tag a.tag (first_true (same_tag t.tag a.tag) (nat_eq a.k t.k)
      (is_waited a.shard t.waiting) e)))) x)
      (λ e. rests number t h)

  -- Outcomes.

  checked_told : (lsid : Lsid) (number : ℤ) (asker : Option Asker) (o : Outcome)
      (t : Transaction) (x : Told) → O t.tag → All IsPlain t.waiting
      → t.phase ≡ Checking asker → ((x ≡ told_as.Released → ⊥) → A lsid number t.tag 5)
      → DeedOk (co.checked lsid number asker (record o { told = x }) t)
  checked_told lsid number asker o t told_as.Released own h is a =
      released_ok lsid number asker t (without o.shard t.waiting) own
      (without_plain o.shard t.waiting h)
      (subst (PhaseOk (V t.tag) (without o.shard t.waiting)) (sym is) tt)
  checked_told lsid number asker o t (told_as.Committed at) own h is a =
      finished_ok lsid number asker t own
  checked_told lsid number asker o t (told_as.Aborted cause) own h is a =
      fails_ok lsid number asker (record o { told = told_as.Aborted cause }) t own
      (a (not_aborted cause))
  checked_told lsid number asker o t (told_as.TooOld have) own h is a =
      fails_ok lsid number asker (record o { told = told_as.TooOld have }) t own
      (a (not_too_old have))
  checked_told lsid number asker o t told_as.NoTrace own h is a =
      fails_ok lsid number asker (record o { told = told_as.NoTrace }) t own
      (a no_trace)

  decided_told : (lsid : Lsid) (number : ℤ) (asker : Option Asker) (o : Outcome)
      (t : Transaction) (x : Told) → O t.tag
      → DeedOk (co.decided lsid number asker (record o { told = x }) t)
  decided_told lsid number asker o t told_as.Released own = finished_ok lsid number asker t own
  decided_told lsid number asker o t (told_as.Committed at) own =
      finished_ok lsid number asker t own
  decided_told lsid number asker o t (told_as.Aborted cause) own =
      over number (en.ended (Aborted true) t) _ own (All-nil IsPlain) tt
      (record { aborts = none; sends = none })
  decided_told lsid number asker o t (told_as.TooOld have) own =
      over number (en.ended (Deciding None) t) _ own (All-nil IsPlain) tt
      (record { aborts = none; sends = none })
  decided_told lsid number asker o t told_as.NoTrace own =
      over number (en.ended (Deciding None) t) _ own (All-nil IsPlain) tt
      (record { aborts = none; sends = none })

  counted_phase : (lsid : Lsid) (number : ℤ) (o : Outcome) (t : Transaction) (p : Phase)
      → O t.tag → All IsPlain t.waiting → PhaseOk (V t.tag) t.waiting p
      → ((o.told ≡ told_as.Released → ⊥) → A lsid number t.tag 5)
      → DeedOk (co.counted lsid number o (record t { phase = p }))
  counted_phase lsid number o t (Checking asker) own h k a =
      checked_told lsid number asker o (record t { phase = Checking asker }) o.told own h refl a
  counted_phase lsid number o t (Deciding asker) own h k a =
      decided_told lsid number asker o (record t { phase = Deciding asker }) o.told own
  counted_phase lsid number o t Idle own h k a =
      over number (record t { phase = Idle }) nothing own h tt (no_given [])
  counted_phase lsid number o t (Asking asker op answers) own h k a =
      over number (record t { phase = Asking asker op answers }) nothing own h k (no_given [])
  counted_phase lsid number o t Committed own h k a =
      over number (record t { phase = Committed }) nothing own h tt (no_given [])
  counted_phase lsid number o t Released own h k a =
      over number (record t { phase = Released }) nothing own h tt (no_given [])
  counted_phase lsid number o t (Aborted sent) own h k a =
      over number (record t { phase = Aborted sent }) nothing own h tt (no_given [])

  both_first : (a b : Bool) → (a && b) ≡ true → a ≡ true
  both_first true b e = refl
  both_first false b e = e

  on_outcome_ok : (lsid : Lsid) (number : ℤ) (o : Outcome) (t : Transaction) → TxnOk O V t
      → (o.tag ≡ t.tag → (o.told ≡ told_as.Released → ⊥) → A lsid number t.tag 5)
      → DeedOk (co.on_outcome lsid number o t)
  on_outcome_ok lsid number o t h a =
      either_if (same_tag t.tag o.tag && is_waited o.shard t.waiting) DeedOk
      (co.counted lsid number o t) (in_session number t nothing)
      (λ e. counted_phase lsid number o t t.phase h.own h.waiting h.phase
      (a (sym (tag_same t.tag o.tag (both_first (same_tag t.tag o.tag)
      (is_waited o.shard t.waiting) e)))))
      (λ e. rests number t h)

  -- Ends that clients ask for, and those of sessions and connections.

  client_phase : (lsid : Lsid) (number : ℤ) (asker : Asker) (t : Transaction) (p : Phase)
      → O t.tag → All IsPlain t.waiting → A lsid number t.tag 1
      → DeedOk (en.client_aborts lsid number asker (record t { phase = p }))
  client_phase lsid number asker t (Aborted sent) o h a =
      over number (record t { phase = Aborted sent }) _ o h tt
      (record { aborts = none; sends = none })
  client_phase lsid number asker t Idle o h a =
      over number (en.aborted (record t { phase = Idle })) _ o (All-nil IsPlain) tt
      (both_ok (aborting (en.aborts lsid number 1 t)) _
      (record { aborts = aborts_ok lsid number 1 t a; sends = none }) (no_given _))
  client_phase lsid number asker t (Asking other op answers) o h a =
      over number (en.aborted (record t { phase = Asking other op answers })) _ o
      (All-nil IsPlain) tt
      (both_ok (aborting (en.aborts lsid number 1 t)) _
      (record { aborts = aborts_ok lsid number 1 t a; sends = none }) (no_given _))
  client_phase lsid number asker t (Checking other) o h a =
      over number (en.aborted (record t { phase = Checking other })) _ o (All-nil IsPlain) tt
      (both_ok (aborting (en.aborts lsid number 1 t)) _
      (record { aborts = aborts_ok lsid number 1 t a; sends = none }) (no_given _))
  client_phase lsid number asker t (Deciding other) o h a =
      over number (en.aborted (record t { phase = Deciding other })) _ o (All-nil IsPlain) tt
      (both_ok (aborting (en.aborts lsid number 1 t)) _
      (record { aborts = aborts_ok lsid number 1 t a; sends = none }) (no_given _))
  client_phase lsid number asker t Committed o h a =
      over number (en.aborted (record t { phase = Committed })) _ o (All-nil IsPlain) tt
      (both_ok (aborting (en.aborts lsid number 1 t)) _
      (record { aborts = aborts_ok lsid number 1 t a; sends = none }) (no_given _))
  client_phase lsid number asker t Released o h a =
      over number (en.aborted (record t { phase = Released })) _ o (All-nil IsPlain) tt
      (both_ok (aborting (en.aborts lsid number 1 t)) _
      (record { aborts = aborts_ok lsid number 1 t a; sends = none }) (no_given _))

  pub client_aborts_ok : (lsid : Lsid) (number : ℤ) (asker : Asker) (t : Transaction)
      → TxnOk O V t → A lsid number t.tag 1 → DeedOk (en.client_aborts lsid number asker t)
  client_aborts_ok lsid number asker t h a =
      client_phase lsid number asker t t.phase h.own h.waiting a

  gone_phase : (conn : ℕ) (lsid : Lsid) (number : ℤ) (t : Transaction) (p : Phase)
      → O t.tag → All IsPlain t.waiting
      → ((asker : Asker) (op : Op) (answers : List (ℕ × Answer)) → p ≡ Asking asker op answers
      → A lsid number t.tag 4)
      → DeedOk (en.gone_asking conn lsid
      (record { number = number; doing = Begun (record t { phase = p }) })
      (record t { phase = p }))
  gone_phase conn lsid number t (Asking asker op answers) o h a =
      ends_ok lsid number 4 (record t { phase = Asking asker op answers }) o
      (a asker op answers refl)
  gone_phase conn lsid number t (Checking asker) o h a =
      over number (record t { phase = Checking None }) nothing o h tt (no_given [])
  gone_phase conn lsid number t (Deciding asker) o h a =
      over number (record t { phase = Deciding None }) nothing o h tt (no_given [])
  gone_phase conn lsid number t Idle o h a =
      over number (record t { phase = Idle }) nothing o h tt (no_given [])
  gone_phase conn lsid number t Committed o h a =
      over number (record t { phase = Committed }) nothing o h tt (no_given [])
  gone_phase conn lsid number t Released o h a =
      over number (record t { phase = Released }) nothing o h tt (no_given [])
  gone_phase conn lsid number t (Aborted sent) o h a =
      over number (record t { phase = Aborted sent }) nothing o h tt (no_given [])

  -- In any session.

  pub stays_ok : (s : Session) → DoingOk R O V s.doing → DeedOk (stays s)
  stays_ok s h = record { doing = h; given = no_given [] }

  -- what an Answer, an Outcome and the end of a connection have to bring
  abbrev pub AnswerGrounds : Answer → Lsid → ℤ → Tag → Type 0
  AnswerGrounds a lsid number tag = (a.tag ≡ tag → RefusalOk (V tag) a.outcome)
      × (V tag → A lsid number tag 5)

  pub answered_ok : (a : Answer) (lsid : Lsid) (number : ℤ) (doing : Doing)
      → DoingOk R O V doing
      → ((t : Transaction) → O t.tag → AnswerGrounds a lsid number t.tag)
      → DeedOk (answered_in a lsid (record { number = number; doing = doing }))
  answered_ok a lsid number (Begun t) h g =
      on_answer_ok lsid number a t h (g t h.own).0 (g t h.own).1
  answered_ok a lsid number (Sought seeking known) h g =
      stays_ok (record { number = number; doing = Sought seeking known }) h

  recovered_ok : (number : ℤ) (seeking : Option Seeking) (known : List Tag) (o : Outcome)
      → SeekOk R seeking → DeedOk (tk.on_recovered number seeking known o)
  recovered_ok number None known o h = record { doing = tt; given = no_given [] }
  recovered_ok number (Some k) known o h =
      either (same_tag k.tag o.tag && nat_eq k.shard o.shard) DeedOk _ _
      (record { doing = tt; given = record { aborts = none; sends = none } })
      (record { doing = h; given = no_given [] })

  pub ended_ok : (o : Outcome) (lsid : Lsid) (number : ℤ) (doing : Doing) → DoingOk R O V doing
      → ((t : Transaction) → O t.tag → o.tag ≡ t.tag → (o.told ≡ told_as.Released → ⊥)
      → A lsid number t.tag 5)
      → DeedOk (ended_in o lsid (record { number = number; doing = doing }))
  ended_ok o lsid number (Begun t) h g = on_outcome_ok lsid number o t h (g t h.own)
  ended_ok o lsid number (Sought seeking known) h g = recovered_ok number seeking known o h

  unheard_ok : (seeking : Option Seeking) → SeekOk R seeking → SeekOk R (en.unheard seeking)
  unheard_ok None h = tt
  unheard_ok (Some k) h = h

  gone_doing : (conn : ℕ) (lsid : Lsid) (number : ℤ) (doing : Doing) → DoingOk R O V doing
      → ((t : Transaction) (asker : Asker) (op : Op) (answers : List (ℕ × Answer))
      → doing ≡ Begun t → t.phase ≡ Asking asker op answers → A lsid number t.tag 4)
      → DeedOk (en.gone_in conn lsid (record { number = number; doing = doing }))
  gone_doing conn lsid number (Begun t) h g =
      gone_phase conn lsid number t t.phase h.own h.waiting
      (λ asker op answers e. g t asker op answers refl e)
  gone_doing conn lsid number (Sought seeking known) h g =
      record { doing = unheard_ok seeking h; given = no_given [] }

  pub gone_ok : (conn : ℕ) (lsid : Lsid) (s : Session) → DoingOk R O V s.doing
      → ((t : Transaction) (asker : Asker) (op : Op) (answers : List (ℕ × Answer))
      → s.doing ≡ Begun t → t.phase ≡ Asking asker op answers
      → is_from conn (asker_of s.doing) ≡ true → A lsid s.number t.tag 4)
      → DeedOk (en.gone_from conn lsid s)
  gone_ok conn lsid s h g = either_if (is_from conn (asker_of s.doing)) DeedOk
      (en.gone_in conn lsid s) (stays s)
      (λ e. gone_doing conn lsid s.number s.doing h
      (λ t asker op answers a b. g t asker op answers a b e))
      (λ e. stays_ok s h)

  session_doing : (lsid : Lsid) (number : ℤ) (doing : Doing) → DoingOk R O V doing
      → ((t : Transaction) → O t.tag → A lsid number t.tag 2)
      → DeedOk (en.ends_session lsid (record { number = number; doing = doing }))
  session_doing lsid number (Begun t) h g =
      either (is_none (asker_of (Begun t)) && not (commit_sent t.phase)) DeedOk _ _
      (ends_ok lsid number 2 t h.own (g t h.own))
      (stays_ok (record { number = number; doing = Begun t }) h)
  session_doing lsid number (Sought seeking known) h g =
      stays_ok (record { number = number; doing = Sought seeking known }) h

  pub session_ok : (lsid : Lsid) (s : Session) → DoingOk R O V s.doing
      → ((t : Transaction) → O t.tag → A lsid s.number t.tag 2) → DeedOk (en.ends_session lsid s)
  session_ok lsid s h g = session_doing lsid s.number s.doing h g

  -- Tokens.

  anew_ok : (lsid : Lsid) (number : ℤ) (k : Seeking) (known : List Tag) → R k.tag
      → DeedOk (tk.asks_anew lsid number k known)
  anew_ok lsid number k known h = record {
    doing = h;
    given = record { aborts = none; sends = one PostOk (tk.recover_to lsid number k) h };
  }

  asks_for_ok : (lsid : Lsid) (number : ℤ) (k : Seeking) (older : Option Seeking)
      (known : List Tag) → R k.tag → DeedOk (tk.asks_for lsid number k older known)
  asks_for_ok lsid number k None known h = anew_ok lsid number k known h
  asks_for_ok lsid number k (Some older) known h =
      either (tk.same_place older k) DeedOk _ _
      (record { doing = h; given = no_given [] }) (anew_ok lsid number k known h)

  seeks_in_ok : (lsid : Lsid) (number : ℤ) (asker : Asker) (k : Seeking)
      (seeking : Option Seeking) (known : List Tag) → R k.tag → SeekOk R seeking
      → DeedOk (tk.seeks_in lsid number asker k seeking known)
  seeks_in_ok lsid number asker k seeking known h s =
      either (tk.is_known k.tag known) DeedOk _ _
      (record { doing = s; given = record { aborts = none; sends = none } })
      (asks_for_ok lsid number k seeking known h)

  -- of a larger number, the older transaction is left
  seeks_above : (lsid : Lsid) (number : ℤ) (k : Seeking) (v : Session) → R k.tag
      → ((t : Transaction) → v.doing ≡ Begun t → A lsid v.number t.tag 6)
      → DeedOk (record {
        session = (tk.asks_anew lsid number k []).session;
        given = both (aborting (en.leaves lsid v)) (tk.asks_anew lsid number k []).given;
      })
  seeks_above lsid number k v h g = record {
    doing = h;
    given = both_ok (aborting (en.leaves lsid v)) (tk.asks_anew lsid number k []).given
        (record { aborts = leaves_ok lsid v g; sends = none })
        (anew_ok lsid number k [] h).given;
  }

  seeks_doing : (lsid : Lsid) (number own : ℤ) (asker : Asker) (k : Seeking) (doing : Doing)
      → R k.tag → DoingOk R O V doing
      → (int_lt own number ≡ true → (t : Transaction) → doing ≡ Begun t → A lsid own t.tag 6)
      → DeedOk (tk.seeks_by lsid number asker k
      (Some (record { number = own; doing = doing })))
  seeks_doing lsid number own asker k (Begun t) h s g =
      either_if (int_lt own number) DeedOk _ _
      (λ e. seeks_above lsid number k (record { number = own; doing = Begun t }) h (g e))
      (λ e. stays_ok (record { number = own; doing = Begun t }) s)
  seeks_doing lsid number own asker k (Sought seeking known) h s g =
      either_if (int_lt own number) DeedOk _ _
      (λ e. seeks_above lsid number k (record { number = own; doing = Sought seeking known }) h
      (g e))
      (λ e. seeks_in_ok lsid number asker k seeking known h s)

  pub seeks_ok : (lsid : Lsid) (number : ℤ) (asker : Asker) (k : Seeking) (o : Option Session)
      → R k.tag → ((s : Session) → o ≡ Some s → DoingOk R O V s.doing)
      → ((s : Session) → o ≡ Some s → int_lt s.number number ≡ true → (t : Transaction)
      → s.doing ≡ Begun t → A lsid s.number t.tag 6)
      → DeedOk (tk.seeks_by lsid number asker k o)
  seeks_ok lsid number asker k None h s g = anew_ok lsid number k [] h
  seeks_ok lsid number asker k (Some v) h s g =
      seeks_doing lsid number v.number asker k v.doing h (s v refl) (g v refl)
