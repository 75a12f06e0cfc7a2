-- What the outcome of a commit, and the end of another connection, do for a request in hand.
use Rattle.std.proofs.Common.{◌≡◌, ℕ, ℤ, Bool, true, false, List, [], ◌∷◌, nat_eq, Option}
use Rattle.std.proofs.Common.{Some, None, refl, sym, ap, subst, ◌∙◌, ◌&&◌}
use Rattle.txn_types.specs.Order.{same_tag}
use Rattle.txn_types.specs.declared.decision.Told.{Told}
use Rattle.txn_types.specs.declared.decision.Told.TheVariants as told_as
use Rattle.txn_types.specs.declared.message.Outcome.{Outcome}
use Rattle.txn_types.specs.declared.names.Tag.{Tag}
use Rattle.txn_types.specs.declared.node.Lsid.{Lsid}
use Rattle.txn_semantics.specs.declared.commits.Answered.{Answered}
use Rattle.client_reply.specs.declared.reply.Refusal.TheVariants as refusal
use Rattle.client_reply.specs.declared.reply.Reply.TheVariants as reply
use Rattle.router_state.specs.declared.deed.Deed.{Deed}
use Rattle.router_state.specs.declared.state.Asker.{Asker}
use Rattle.router_state.specs.declared.state.Doing.{Doing}
use Rattle.router_state.specs.declared.state.Doing.TheVariants.{Begun, Sought}
use Rattle.router_state.specs.declared.state.Phase.{Phase}
use Rattle.router_state.specs.declared.state.Phase.TheVariants.{Idle, Asking, Checking, Deciding}
use Rattle.router_state.specs.declared.state.Phase.TheVariants.{Committed, Released, Aborted}
use Rattle.router_state.specs.declared.state.Seeking.{Seeking}
use Rattle.router_state.specs.declared.state.Session.{Session}
use Rattle.router_state.specs.declared.state.Transaction.{Transaction}
use Rattle.router_state.specs.State.{Post, asker_of, asker_in, is_from, is_waited, without}
use Rattle.router_state.specs.Shards.{writers, readers}
use Rattle.router_rules.specs.Commits as co
use Rattle.router_rules.specs.Ends as en
use Rattle.router_rules.specs.Serving.{ended_in}
use Rattle.router_rules.specs.Statements.{reply_of}
use Rattle.router_rules.specs.Tokens as tk
use Rattle.participant.proofs.Cases.{either}
use Rattle.cluster_core.specs.Replying.{Hand}
use Rattle.cluster_core.specs.Telling.{IsToldTo}
use Rattle.answer_laws.proofs.Lists.{nat_is}
use Rattle.told_laws.proofs.Opening.{nat_sym}
use Rattle.reply_laws.proofs.Hands.{Commits, EntryStands, Goes, told_done, told_plain, told_commit}
use Rattle.reply_laws.proofs.Hands.{tells_goes, keeps_goes, drops_goes}

abbrev pub SessionIs : ℤ → Transaction → Session
SessionIs number t = record { number = number; doing = Begun t }

module _ (n : ℕ) (answered : List Answered) (h : Hand) (here : nat_eq h.router n ≡ true) where
  told_kept : (lsid : Lsid) (t : Transaction) → Commits answered h lsid t.reply
      → IsToldTo answered h h.request (co.commit_reply lsid t)
  told_kept lsid t c =
      let w = c.1 in
      let same : co.commit_reply lsid t ≡ reply_of w.answer.op w.done None = rw (c.0, w.reply)
      refl in
      subst (IsToldTo answered h h.request) (sym same)
      (told_done answered h w.answer w.done None w.among w.is_of w.outcome)

  -- what is told of an outcome
  outcome_told : (shard : ℕ) (number : ℤ) (lsid : Lsid) (t : Transaction) (x : Told)
      → Commits answered h lsid t.reply
      → IsToldTo answered h h.request (co.outcome_reply shard number (co.commit_reply lsid t) x)
  outcome_told shard number lsid t (told_as.Committed at) c = told_kept lsid t c
  outcome_told shard number lsid t told_as.Released c = told_kept lsid t c
  outcome_told shard number lsid t (told_as.Aborted cause) c = told_commit answered h t.reply shard
      number cause c.1
  outcome_told shard number lsid t (told_as.TooOld have) c = told_plain answered h
      (reply.TooOld number have) tt
  outcome_told shard number lsid t told_as.NoTrace c = told_plain answered h
      (reply.Refused refusal.NoDecision) tt

  finished_goes : (lsid : Lsid) (number : ℤ) (asker : Option Asker) (phase : Phase)
      (t : Transaction) → asker_in phase ≡ None
      → (is_from h.conn asker ≡ true → Commits answered h lsid t.reply)
      → Goes n answered h lsid asker (co.finished lsid number asker phase t)
  finished_goes lsid number asker phase t none f = tells_goes n answered h here lsid asker
      (co.finished lsid number asker phase t) (co.commit_reply lsid t) none refl
      (λ from. told_kept lsid t (f from))

  decides_by_goes : (lsid : Lsid) (number : ℤ) (asker : Option Asker) (t : Transaction)
      (parts : List (ℕ × ℕ)) → (is_from h.conn asker ≡ true → Commits answered h lsid t.reply)
      → Goes n answered h lsid asker (co.decides_by lsid number asker t parts)
  decides_by_goes lsid number asker t [] f = finished_goes lsid number asker Released t refl f
  decides_by_goes lsid number asker t (first ∷ []) f = keeps_goes n answered h lsid asker
      (co.decides_by lsid number asker t (first ∷ [])) refl refl f
  decides_by_goes lsid number asker t (first ∷ second ∷ more) f = keeps_goes n answered h lsid asker
      (co.decides_by lsid number asker t (first ∷ second ∷ more)) refl refl f

  decides_goes : (lsid : Lsid) (number : ℤ) (asker : Option Asker) (t : Transaction)
      → (is_from h.conn asker ≡ true → Commits answered h lsid t.reply)
      → Goes n answered h lsid asker (co.decides lsid number asker t)
  decides_goes lsid number asker t f = decides_by_goes lsid number asker t (writers t) f

  commits_by_goes : (lsid : Lsid) (number : ℤ) (asker : Option Asker) (t : Transaction)
      (parts : List (ℕ × ℕ)) → (is_from h.conn asker ≡ true → Commits answered h lsid t.reply)
      → Goes n answered h lsid asker (co.commits_by lsid number asker t parts)
  commits_by_goes lsid number asker t [] f = decides_goes lsid number asker t f
  commits_by_goes lsid number asker t (first ∷ more) f = keeps_goes n answered h lsid asker
      (co.commits_by lsid number asker t (first ∷ more)) refl refl f

  -- a commit of which the connection waits
  pub commits_goes : (lsid : Lsid) (number : ℤ) (asker : Option Asker) (t : Transaction)
      → (is_from h.conn asker ≡ true → Commits answered h lsid t.reply)
      → Goes n answered h lsid asker (co.commits lsid number asker t)
  commits_goes lsid number asker t f = commits_by_goes lsid number asker t (readers t) f

  -- Outcomes.

  released_goes : (lsid : Lsid) (number : ℤ) (asker : Option Asker) (t : Transaction)
      (posts : List Post) → (is_from h.conn asker ≡ true → Commits answered h lsid t.reply)
      → Goes n answered h lsid asker
      (co.released lsid number asker (record t { phase = Checking asker }) posts)
  released_goes lsid number asker t [] f = decides_goes lsid number asker
      (record t { phase = Checking asker }) f
  released_goes lsid number asker t (post ∷ posts) f = keeps_goes n answered h lsid asker
      (co.released lsid number asker (record t { phase = Checking asker }) (post ∷ posts)) refl refl
      f

  fails_goes : (lsid : Lsid) (number : ℤ) (asker : Option Asker) (o : Outcome) (t : Transaction)
      → (is_from h.conn asker ≡ true → Commits answered h lsid t.reply)
      → Goes n answered h lsid asker (co.fails lsid number asker o t)
  fails_goes lsid number asker o t f = tells_goes n answered h here lsid asker
      (co.fails lsid number asker o t)
      (co.outcome_reply o.shard number (co.commit_reply lsid t) o.told) refl refl
      (λ from. outcome_told o.shard number lsid t o.told (f from))

  checked_goes : (lsid : Lsid) (number : ℤ) (asker : Option Asker) (o : Outcome) (t : Transaction)
      (x : Told) → (is_from h.conn asker ≡ true → Commits answered h lsid t.reply)
      → Goes n answered h lsid asker (co.checked lsid number asker (record o { told = x })
      (record t { phase = Checking asker }))
  checked_goes lsid number asker o t told_as.Released f = released_goes lsid number asker t
      (without o.shard t.waiting) f
  checked_goes lsid number asker o t (told_as.Committed at) f = finished_goes lsid number asker
      Committed (record t { phase = Checking asker }) refl f
  checked_goes lsid number asker o t (told_as.Aborted cause) f = fails_goes lsid number asker
      (record o { told = told_as.Aborted cause }) (record t { phase = Checking asker }) f
  checked_goes lsid number asker o t (told_as.TooOld have) f = fails_goes lsid number asker
      (record o { told = told_as.TooOld have }) (record t { phase = Checking asker }) f
  checked_goes lsid number asker o t told_as.NoTrace f = fails_goes lsid number asker
      (record o { told = told_as.NoTrace }) (record t { phase = Checking asker }) f

  decided_goes : (lsid : Lsid) (number : ℤ) (asker : Option Asker) (o : Outcome) (t : Transaction)
      (x : Told) → (is_from h.conn asker ≡ true → Commits answered h lsid t.reply)
      → Goes n answered h lsid asker (co.decided lsid number asker (record o { told = x }) t)
  decided_goes lsid number asker o t (told_as.Committed at) f = finished_goes lsid number asker
      Committed t refl f
  decided_goes lsid number asker o t told_as.Released f = finished_goes lsid number asker Committed
      t refl f
  decided_goes lsid number asker o t (told_as.Aborted cause) f = tells_goes n answered h here lsid
      asker (co.decided lsid number asker (record o { told = told_as.Aborted cause }) t)
      (reply.Caused o.shard number cause) refl refl
      (λ from. told_commit answered h t.reply o.shard number cause (f from).1)
  decided_goes lsid number asker o t (told_as.TooOld have) f = tells_goes n answered h here lsid
      asker (co.decided lsid number asker (record o { told = told_as.TooOld have }) t)
      (reply.TooOld number have) refl refl
      (λ from. told_plain answered h (reply.TooOld number have) tt)
  decided_goes lsid number asker o t told_as.NoTrace f = tells_goes n answered h here lsid asker
      (co.decided lsid number asker (record o { told = told_as.NoTrace }) t)
      (reply.Refused refusal.NoDecision) refl refl
      (λ from. told_plain answered h (reply.Refused refusal.NoDecision) tt)

  pub stays_goes : (lsid : Lsid) (s : Session) → EntryStands answered h (lsid, s)
      → Goes n answered h lsid (asker_of s.doing) (record {
        session = s;
        given = record { aborts = []; sends = []; replies = [] };
      })
  stays_goes lsid s f = keeps_goes n answered h lsid (asker_of s.doing) (record {
    session = s;
    given = record { aborts = []; sends = []; replies = [] };
  }) refl refl f

  counted_goes : (lsid : Lsid) (number : ℤ) (o : Outcome) (t : Transaction) (p : Phase)
      → EntryStands answered h (lsid, SessionIs number (record t { phase = p }))
      → Goes n answered h lsid (asker_in p) (co.counted lsid number o (record t { phase = p }))
  counted_goes lsid number o t (Checking asker) f = checked_goes lsid number asker o t o.told f
  counted_goes lsid number o t (Deciding asker) f = decided_goes lsid number asker o
      (record t { phase = Deciding asker }) o.told f
  counted_goes lsid number o t Idle f = stays_goes lsid (SessionIs number
      (record t { phase = Idle })) f
  counted_goes lsid number o t (Asking asker op answers) f = stays_goes lsid (SessionIs number
      (record t { phase = Asking asker op answers })) f
  counted_goes lsid number o t Committed f = stays_goes lsid (SessionIs number
      (record t { phase = Committed })) f
  counted_goes lsid number o t Released f = stays_goes lsid (SessionIs number
      (record t { phase = Released })) f
  counted_goes lsid number o t (Aborted sent) f = stays_goes lsid (SessionIs number
      (record t { phase = Aborted sent })) f

  outcome_goes : (lsid : Lsid) (number : ℤ) (o : Outcome) (t : Transaction)
      → EntryStands answered h (lsid, SessionIs number t)
      → Goes n answered h lsid (asker_in t.phase) (co.on_outcome lsid number o t)
  outcome_goes lsid number o t f =
      either (same_tag t.tag o.tag && is_waited o.shard t.waiting)
      (λ (d : Deed). Goes n answered h lsid (asker_in t.phase) d)
      (co.counted lsid number o t) _
      (counted_goes lsid number o t t.phase f) (stays_goes lsid (SessionIs number t) f)

  -- Nobody who asked a statement looks for a decision.

  recovered_goes : (lsid : Lsid) (number : ℤ) (seeking : Option Seeking) (known : List Tag)
      (o : Outcome) → EntryStands answered h (
        lsid,
        record {
          number = number;
          doing = Sought seeking known;
        },
      )
      → Goes n answered h lsid (asker_of (Sought seeking known))
      (tk.on_recovered number seeking known o)
  recovered_goes lsid number None known o f = keeps_goes n answered h lsid None
      (tk.on_recovered number None known o) refl refl f
  recovered_goes lsid number (Some k) known o f =
      either (same_tag k.tag o.tag && nat_eq k.shard o.shard)
      (λ (d : Deed). Goes n answered h lsid k.asker d) (tk.recovered number k known o) _
      (tells_goes n answered h here lsid k.asker (tk.recovered number k known o)
      (co.outcome_reply o.shard number (tk.token_reply k) o.told) refl refl (λ from. absurd
      (f from)))
      (stays_goes lsid (record { number = number; doing = Sought (Some k) known }) f)

  pub ended_goes : (o : Outcome) (lsid : Lsid) (number : ℤ) (doing : Doing)
      → EntryStands answered h (lsid, record { number = number; doing = doing })
      → Goes n answered h lsid (asker_of doing)
      (ended_in o lsid (record { number = number; doing = doing }))
  ended_goes o lsid number (Begun t) f = outcome_goes lsid number o t f
  ended_goes o lsid number (Sought seeking known) f = recovered_goes lsid number seeking known o f

  -- The end of another connection.

  other_from : (conn : ℕ) (o : Option Asker) → nat_eq h.conn conn ≡ false → is_from conn o ≡ true
      → is_from h.conn o ≡ false
  other_from conn None apart e = refl
  other_from conn (Some asker) apart e =
      ap (λ (c : ℕ). nat_eq c h.conn) (nat_is asker.conn conn e) ∙ nat_sym conn h.conn ∙ apart

  gone_phase : (conn : ℕ) (lsid : Lsid) (number : ℤ) (t : Transaction) (p : Phase)
      → is_from h.conn (asker_in p) ≡ false
      → Goes n answered h lsid (asker_in p) (en.gone_asking conn lsid
      (SessionIs number (record t { phase = p })) (record t { phase = p }))
  gone_phase conn lsid number t (Asking asker op answers) other = drops_goes n answered h lsid
      (Some asker) (en.gone_asking conn lsid
      (SessionIs number (record t { phase = Asking asker op answers }))
      (record t { phase = Asking asker op answers })) refl refl other
  gone_phase conn lsid number t (Checking asker) other = drops_goes n answered h lsid asker
      (en.gone_asking conn lsid (SessionIs number (record t { phase = Checking asker }))
      (record t { phase = Checking asker })) refl refl other
  gone_phase conn lsid number t (Deciding asker) other = drops_goes n answered h lsid asker
      (en.gone_asking conn lsid (SessionIs number (record t { phase = Deciding asker }))
      (record t { phase = Deciding asker })) refl refl other
  gone_phase conn lsid number t Idle other = drops_goes n answered h lsid None
      (en.gone_asking conn lsid (SessionIs number (record t { phase = Idle }))
      (record t { phase = Idle })) refl refl other
  gone_phase conn lsid number t Committed other = drops_goes n answered h lsid None
      (en.gone_asking conn lsid (SessionIs number (record t { phase = Committed }))
      (record t { phase = Committed })) refl refl other
  gone_phase conn lsid number t Released other = drops_goes n answered h lsid None
      (en.gone_asking conn lsid (SessionIs number (record t { phase = Released }))
      (record t { phase = Released })) refl refl other
  gone_phase conn lsid number t (Aborted sent) other = drops_goes n answered h lsid None
      (en.gone_asking conn lsid (SessionIs number (record t { phase = Aborted sent }))
      (record t { phase = Aborted sent })) refl refl other

  unheard_none : (seeking : Option Seeking) (known : List Tag)
      → asker_of (Sought (en.unheard seeking) known) ≡ None
  unheard_none None known = refl
  unheard_none (Some k) known = refl

  gone_doing : (conn : ℕ) (lsid : Lsid) (number : ℤ) (doing : Doing)
      → is_from h.conn (asker_of doing) ≡ false
      → Goes n answered h lsid (asker_of doing)
      (en.gone_in conn lsid (record { number = number; doing = doing }))
  gone_doing conn lsid number (Begun t) other = gone_phase conn lsid number t t.phase other
  gone_doing conn lsid number (Sought seeking known) other = drops_goes n answered h lsid
      (asker_of (Sought seeking known)) (en.gone_in conn lsid
      (record { number = number; doing = Sought seeking known })) (unheard_none seeking known) refl
      other

  gone_case : (conn : ℕ) (lsid : Lsid) (s : Session) (test : Bool) → nat_eq h.conn conn ≡ false
      → is_from conn (asker_of s.doing) ≡ test → EntryStands answered h (lsid, s)
      → Goes n answered h lsid (asker_of s.doing) (en.gone_from conn lsid s)
  gone_case conn lsid s true apart e f = rw e (gone_doing conn lsid s.number s.doing
      (other_from conn (asker_of s.doing) apart e))
  gone_case conn lsid s false apart e f = rw e (stays_goes lsid s f)

  pub gone_goes : (conn : ℕ) (lsid : Lsid) (s : Session) → nat_eq h.conn conn ≡ false
      → EntryStands answered h (lsid, s)
      → Goes n answered h lsid (asker_of s.doing) (en.gone_from conn lsid s)
  gone_goes conn lsid s apart f = gone_case conn lsid s (is_from conn (asker_of s.doing)) apart refl
      f
