-- What the sessions of a router keep to, after each event in them.
use Rattle.std.proofs.Common.{◌≡◌, ◌&&◌, ℕ, ℤ, ◌+◌, ◌^◌, ◌<◌, ◌≤◌, Bool, true, false, not, List, []}
use Rattle.std.proofs.Common.{◌∷◌, map, length, Option, Some, None, refl, sym, subst, arith, nat_eq}
use Rattle.std.proofs.Common.{if◌then◌else◌}
use Rattle.std.specs.Prelude.{filter_map, unwrap_or, is_none, int_lt}
use Rattle.std.specs.Ordering.{nat_cmp}
use Rattle.txn_types.specs.Order.{same_tag}
use Rattle.txn_types.specs.declared.cause.Cause.{Cause}
use Rattle.txn_types.specs.declared.decision.Told.{Told}
use Rattle.txn_types.specs.declared.decision.Told.TheVariants as told_as
use Rattle.txn_types.specs.declared.decision.Token.{Token}
use Rattle.txn_types.specs.declared.message.Answer.{Answer}
use Rattle.txn_types.specs.declared.message.Outcome.{Outcome}
use Rattle.txn_types.specs.declared.names.Tag.{Tag}
use Rattle.txn_types.specs.declared.node.Lsid.{Lsid}
use Rattle.txn_types.specs.declared.operation.Op.{Op}
use Rattle.txn_types.specs.declared.operation.Op.TheVariants.{Insert, Find, Update, Delete}
use Rattle.txn_types.specs.declared.operation.OpReply.{OpReply}
use Rattle.txn_types.specs.declared.operation.OpReply.TheVariants.{Count, Rows}
use Rattle.txn_semantics.specs.Keyed.{put, Rises}
use Rattle.txn_semantics.specs.Meaning.{capped}
use Rattle.txn_semantics.specs.Merge.{merge, capped_sum, n_of, modified_of}
use Rattle.client_reply.specs.Replies.{FitsReply, IsSpelled}
use Rattle.client_reply.specs.declared.reply.Refusal.TheVariants as refusal
use Rattle.client_reply.specs.declared.reply.Reply.{Reply}
use Rattle.client_reply.specs.declared.reply.Reply.TheVariants as reply
use Rattle.chunk_map.specs.Map.{Map, IsMap}
use Rattle.chunk_map.specs.Parts.{shards_of}
use Rattle.router_state.specs.declared.deed.Given.{Given}
use Rattle.router_state.specs.declared.state.Asker.{Asker}
use Rattle.router_state.specs.declared.state.Doing.{Doing}
use Rattle.router_state.specs.declared.state.Doing.TheVariants.{Begun, Sought}
use Rattle.router_state.specs.declared.state.Phase.{Phase}
use Rattle.router_state.specs.declared.state.Phase.TheVariants.{Idle, Asking, Checking, Deciding}
use Rattle.router_state.specs.declared.state.Phase.TheVariants.{Committed, Released, Aborted}
use Rattle.router_state.specs.declared.state.Seeking.{Seeking}
use Rattle.router_state.specs.declared.state.Session.{Session}
use Rattle.router_state.specs.declared.state.Transaction.{Transaction}
use Rattle.router_state.specs.Deeds.{nothing, both, aborting, sending, telling, told, told_if}
use Rattle.router_state.specs.Deeds.{stays, in_session}
use Rattle.router_state.specs.Shards.{readers, writers}
use Rattle.router_state.specs.State.{Post, asker_of, commit_sent, is_from, is_own, is_waited}
use Rattle.router_state.specs.State.{token_by, token_of, without}
use Rattle.router_rules.specs.Commits.{commit_reply, finished, waits, commit_to, commit_two_to}
use Rattle.router_rules.specs.Commits.{decides_by, decides, commits_by, commits, listens}
use Rattle.router_rules.specs.Commits.{commit_asked, outcome_reply, released, fails, checked}
use Rattle.router_rules.specs.Commits.{decided, counted, on_outcome}
use Rattle.router_rules.specs.Ends.{aborts, ended, aborted, ends, leaves, client_aborts}
use Rattle.router_rules.specs.Ends.{ends_session, gone_asking, unheard, gone_in, gone_from}
use Rattle.router_rules.specs.Serving.{answered_in, ended_in}
use Rattle.router_rules.specs.Statements.{statement_to, asks, reply_in, cause_in, winning, reply_of}
use Rattle.router_rules.specs.Statements.{is_cut, refuses, answered_by, replies, concludes_by}
use Rattle.router_rules.specs.Statements.{with_answer, taken_by, taken, answer_to, on_answer}
use Rattle.router_rules.specs.Tokens.{is_known, same_place, recover_to, sought, asks_anew, asks_for}
use Rattle.router_rules.specs.Tokens.{token_reply, seeks_in, seeks_by, known_by, recovered}
use Rattle.router_rules.specs.Tokens.{on_recovered}
use Rattle.router_rules.specs.Safe.{Below, KeysBelow, FitsIf, IsDrawn, IsSafePhase}
use Rattle.router_rules.specs.Safe.{IsSafeTransaction, IsSafeDoing, IsSafeIn, AllFit, IsGood}
use Rattle.router_rules.proofs.Below.{asked_below}
use Rattle.router_rules.proofs.Writing.{last_of, wrote_once, wrote_below, put_below, put_rises}
use Rattle.router_rules.proofs.Writing.{waited_below}

-- Replies that can be spelled.

told_fits : (asker : Option Asker) (r : Reply) → FitsReply r → AllFit (told_if asker r)
told_fits None r fits = tt
told_fits (Some asker) r fits = (fits, tt)

by_spelled : (t : Transaction) (shards : List ℕ) → IsSpelled (Some (token_by t shards))
by_spelled t [] = tt
by_spelled t (shard ∷ shards) = tt

spelled_fits : (token : Token) → IsSpelled (Some token) → FitsReply (reply.Ended (Some token))
spelled_fits token spelled = (tt, spelled)

commit_case : (t : Transaction) (own : Bool) (kept : Option Reply) → FitsIf kept
    → FitsReply (if own then unwrap_or kept (reply.Ended None) else reply.Ended (Some (token_of t)))
commit_case t true None fits = (tt, tt)
commit_case t true (Some r) fits = fits
commit_case t false kept fits = spelled_fits (token_of t) (by_spelled t t.wrote)

commit_fits : (lsid : Lsid) (t : Transaction) → IsSafeTransaction t
    → FitsReply (commit_reply lsid t)
commit_fits lsid t safe = commit_case t (is_own lsid) t.reply safe.told

outcome_fits : (shard : ℕ) (number : ℤ) (done : Reply) (what : Told) → FitsReply done
    → FitsReply (outcome_reply shard number done what)
outcome_fits shard number done (told_as.Committed at) fits = fits
outcome_fits shard number done told_as.Released fits = fits
outcome_fits shard number done (told_as.Aborted cause) fits = (tt, tt)
outcome_fits shard number done (told_as.TooOld have) fits = (tt, tt)
outcome_fits shard number done told_as.NoTrace fits = (tt, tt)

abbrev FitsCounted : OpReply → Type 0
FitsCounted (Count n modified) = (n < 2 ^ 63) × (modified < 2 ^ 63)
FitsCounted (Rows docs cut) = Unit {0}

capped_below : (n : ℕ) → capped n < 2 ^ 63
capped_below n = omega arith

sum_below : (ns : List ℕ) → capped_sum ns < 2 ^ 63
sum_below [] = omega arith
sum_below (n ∷ ns) = capped_below (n + capped_sum ns)

merged_fits : (op : Op) (parts : List OpReply) → FitsCounted (merge op parts)
merged_fits (Insert ns items) parts =
    (sum_below (map n_of parts), sum_below (map modified_of parts))
merged_fits (Find ns wanted down limit) parts = tt
merged_fits (Update ns items) parts =
    (sum_below (map n_of parts), sum_below (map modified_of parts))
merged_fits (Delete ns items) parts =
    (sum_below (map n_of parts), sum_below (map modified_of parts))

reply_fits : (op : Op) (r : OpReply) (token : Option Token) → FitsCounted r → IsSpelled token
    → FitsReply (reply_of op r token)
reply_fits (Insert ns items) (Count n modified) token fits spelled = ((fits.0, tt), spelled)
reply_fits (Insert ns items) (Rows docs None) token fits spelled = (tt, spelled)
reply_fits (Insert ns items) (Rows docs (Some id)) token fits spelled = (tt, tt)
reply_fits (Find ns wanted down limit) (Count n modified) token fits spelled =
    ((fits.0, tt), spelled)
reply_fits (Find ns wanted down limit) (Rows docs None) token fits spelled = (tt, spelled)
reply_fits (Find ns wanted down limit) (Rows docs (Some id)) token fits spelled = (tt, tt)
reply_fits (Update ns items) (Count n modified) token fits spelled = ((fits.0, fits.1), spelled)
reply_fits (Update ns items) (Rows docs None) token fits spelled = (tt, spelled)
reply_fits (Update ns items) (Rows docs (Some id)) token fits spelled = (tt, tt)
reply_fits (Delete ns items) (Count n modified) token fits spelled = ((fits.0, tt), spelled)
reply_fits (Delete ns items) (Rows docs None) token fits spelled = (tt, spelled)
reply_fits (Delete ns items) (Rows docs (Some id)) token fits spelled = (tt, tt)

-- Transactions.

pub phase_safe : (t : Transaction) (phase : Phase) (posts : List Post) → IsSafeTransaction t
    → IsSafePhase posts phase → IsSafeTransaction (record t { phase = phase; waiting = posts })
phase_safe t phase posts safe asked =
    record { once = safe.once; few = safe.few; told = safe.told; asked = asked }

heard_safe : (t : Transaction) (phase : Phase) → IsSafeTransaction t → IsSafePhase t.waiting phase
    → IsSafeTransaction (record t { phase = phase })
heard_safe t phase safe asked =
    record { once = safe.once; few = safe.few; told = safe.told; asked = asked }

either : {A : Type 0} (P : A → Type 0) (b : Bool) (x y : A) → (b ≡ true → P x) → (b ≡ false → P y)
    → P (if b then x else y)
either P true x y holds fails = holds refl
either P false x y holds fails = fails refl

posts_below : (chunks : Map) (lsid : Lsid) (number : ℤ) (t : Transaction) (op : Op) (shards : List
    ℕ) → Below 65535 shards → KeysBelow 65535 (map (statement_to chunks lsid number t op) shards)
posts_below chunks lsid number t op [] below = tt
posts_below chunks lsid number t op (shard ∷ shards) below =
    (below.0, posts_below chunks lsid number t op shards below.1)

left_case : (n : ℕ) (post : Post) (posts : List Post) (b : Bool) → KeysBelow n (post ∷ posts)
    → KeysBelow n posts → KeysBelow n (if b then post ∷ posts else posts)
left_case n post posts true below more = below
left_case n post posts false below more = more

keys_cons : (n : ℕ) (post : Post) (posts : List Post) → post.0 < n → KeysBelow n posts
    → KeysBelow n (post ∷ posts)
keys_cons n post posts h below = (h, below)

left_below : (n shard : ℕ) (posts : List Post) → KeysBelow n posts
    → KeysBelow n (without shard posts)
left_below n shard [] below = tt
left_below n shard (post ∷ posts) below =
    let more = left_below n shard posts below.1 in
    left_case n post (without shard posts) (not (nat_eq post.0 shard))
    (keys_cons n post (without shard posts) below.0 more) more

module _ (serial : ℕ) (lsid : Lsid) (number : ℤ) (own : IsDrawn serial lsid number) where
  good : (t : Transaction) (given : Given) → IsSafeTransaction t → AllFit given.replies
      → IsGood serial lsid (in_session number t given)
  good t given safe fit = record { session = record { own = own; doing = safe }; replies = fit }

  -- Statements.

  pub asks_good : (chunks : Map) (asker : Asker) (op : Op) (t : Transaction)
      → IsMap chunks → chunks.shards ≤ 65535 → IsSafeTransaction t
      → IsGood serial lsid (asks chunks lsid number asker op t)
  asks_good chunks asker op t is few safe = record {
    session = record {
      own = own;
      doing = record {
        once = safe.once;
        few = safe.few;
        told = safe.told;
        asked = (
          posts_below chunks lsid number t op (shards_of chunks op) (asked_below chunks op is few),
          tt,
          tt,
        );
      };
    };
    replies = tt;
  }

  -- Commits.

  finished_good : (asker : Option Asker) (phase : Phase) (t : Transaction) → IsSafeTransaction t
      → IsSafePhase [] phase → IsGood serial lsid (finished lsid number asker phase t)
  finished_good asker phase t safe asked =
      good (ended phase t) (telling (told_if asker (commit_reply lsid t))) (phase_safe t phase []
      safe asked) (told_fits asker (commit_reply lsid t) (commit_fits lsid t safe))

  waits_good : (phase : Phase) (posts : List Post) (t : Transaction) → IsSafeTransaction t
      → IsSafePhase posts phase → IsGood serial lsid (waits number phase posts t)
  waits_good phase posts t safe asked = good (record t { phase = phase; waiting = posts })
      (sending posts) (phase_safe t phase posts safe asked) tt

  decides_case : (asker : Option Asker) (t : Transaction) (all : List (ℕ × ℕ)) → IsSafeTransaction t
      → IsGood serial lsid (decides_by lsid number asker t all)
  decides_case asker t [] safe = finished_good asker Released t safe tt
  decides_case asker t (one ∷ []) safe =
      waits_good (Deciding asker) (commit_to lsid number t one ∷ []) t safe tt
  decides_case asker t (first ∷ second ∷ more) safe =
      waits_good (Deciding asker) (commit_two_to lsid number t first ∷ []) t safe tt

  decides_good : (asker : Option Asker) (t : Transaction) → IsSafeTransaction t
      → IsGood serial lsid (decides lsid number asker t)
  decides_good asker t safe = decides_case asker t (writers t) safe

  commits_case : (asker : Option Asker) (t : Transaction) (all : List (ℕ × ℕ)) → IsSafeTransaction t
      → IsGood serial lsid (commits_by lsid number asker t all)
  commits_case asker t [] safe = decides_good asker t safe
  commits_case asker t (first ∷ more) safe =
      waits_good (Checking asker) (map (commit_to lsid number t) (first ∷ more)) t safe tt

  commits_good : (asker : Option Asker) (t : Transaction) → IsSafeTransaction t
      → IsGood serial lsid (commits lsid number asker t)
  commits_good asker t safe = commits_case asker t (readers t) safe

  listens_good : (asker : Asker) (t : Transaction) → IsSafeTransaction t
      → IsGood serial lsid (listens lsid number asker t)
  listens_good asker t safe =
      either (IsGood serial lsid) (nat_eq (length t.waiting) 0) (decides lsid number (Some asker) t)
      (in_session number (record t { phase = Deciding (Some asker) }) nothing)
      (λ h. decides_good (Some asker) t safe)
      (λ h. good (record t { phase = Deciding (Some asker) }) nothing
      (heard_safe t (Deciding (Some asker)) safe tt) tt)

  asked_case : (asker : Asker) (t : Transaction) (phase : Phase) → IsSafeTransaction t
      → IsGood serial lsid (elim phase [
        | Idle ↦ commits lsid number (Some asker) t
        | Asking other op answers ↦ in_session number t nothing
        | Checking other ↦ in_session number (record t { phase = Checking (Some asker) }) nothing
        | Deciding other ↦ listens lsid number asker t
        | Committed ↦ finished lsid number (Some asker) Committed t
        | Released ↦ finished lsid number (Some asker) Released t
        | Aborted sent ↦
            in_session number t (telling (told_if (Some asker) (reply.Refused refusal.Aborted)))
      ])
  asked_case asker t Idle safe = commits_good (Some asker) t safe
  asked_case asker t (Asking other op answers) safe = good t nothing safe tt
  asked_case asker t (Checking other) safe = good (record t { phase = Checking (Some asker) })
      nothing (heard_safe t (Checking (Some asker)) safe tt) tt
  asked_case asker t (Deciding other) safe = listens_good asker t safe
  asked_case asker t Committed safe = finished_good (Some asker) Committed t safe tt
  asked_case asker t Released safe = finished_good (Some asker) Released t safe tt
  asked_case asker t (Aborted sent) safe =
      good t (telling (told_if (Some asker) (reply.Refused refusal.Aborted))) safe
      (told_fits (Some asker) (reply.Refused refusal.Aborted) (tt, tt))

  pub commit_asked_good : (asker : Asker) (t : Transaction) → IsSafeTransaction t
      → IsGood serial lsid (commit_asked lsid number asker t)
  commit_asked_good asker t safe = asked_case asker t t.phase safe

  -- Outcomes.

  tells_good : (asker : Option Asker) (r : Reply) (phase : Phase) (t : Transaction)
      → IsSafeTransaction t → IsSafePhase [] phase → FitsReply r
      → IsGood serial lsid (in_session number (ended phase t) (telling (told_if asker r)))
  tells_good asker r phase t safe asked fits = good (ended phase t) (telling (told_if asker r))
      (phase_safe t phase [] safe asked) (told_fits asker r fits)

  released_good : (asker : Option Asker) (t : Transaction) (posts : List Post)
      → t.phase ≡ Checking asker → IsSafeTransaction t
      → IsGood serial lsid (released lsid number asker t posts)
  released_good asker t [] is safe = decides_good asker t safe
  released_good asker t (post ∷ posts) is safe =
      let asked : IsSafePhase (post ∷ posts) t.phase =
      subst (λ p. IsSafePhase (post ∷ posts) p) (sym is) tt in
      good (record t { waiting = post ∷ posts }) nothing
      (record { once = safe.once; few = safe.few; told = safe.told; asked = asked }) tt

  fails_good : (asker : Option Asker) (o : Outcome) (t : Transaction) → IsSafeTransaction t
      → IsGood serial lsid (fails lsid number asker o t)
  fails_good asker o t safe =
      let r : Reply = outcome_reply o.shard number (commit_reply lsid t) o.told in
      good (ended (Aborted true) t)
      (both (aborting (without o.shard (aborts lsid number 5 t))) (telling (told_if asker r)))
      (phase_safe t (Aborted true) [] safe tt) (told_fits asker r
      (outcome_fits o.shard number (commit_reply lsid t) o.told (commit_fits lsid t safe)))

  checked_case : (asker : Option Asker) (o : Outcome) (t : Transaction) (what : Told)
      → t.phase ≡ Checking asker → IsSafeTransaction t → IsGood serial lsid (elim what [
        | told_as.Released ↦ released lsid number asker t (without o.shard t.waiting)
        | told_as.Committed at ↦ finished lsid number asker Committed t
        | told_as.Aborted cause ↦ fails lsid number asker o t
        | told_as.TooOld have ↦ fails lsid number asker o t
        | told_as.NoTrace ↦ fails lsid number asker o t
      ])
  checked_case asker o t told_as.Released is safe =
      released_good asker t (without o.shard t.waiting) is safe
  checked_case asker o t (told_as.Committed at) is safe = finished_good asker Committed t safe tt
  checked_case asker o t (told_as.Aborted cause) is safe = fails_good asker o t safe
  checked_case asker o t (told_as.TooOld have) is safe = fails_good asker o t safe
  checked_case asker o t told_as.NoTrace is safe = fails_good asker o t safe

  decided_case : (asker : Option Asker) (o : Outcome) (t : Transaction) (what : Told)
      → IsSafeTransaction t → IsGood serial lsid (elim what [
        | told_as.Committed at ↦ finished lsid number asker Committed t
        | told_as.Released ↦ finished lsid number asker Committed t
        | told_as.Aborted cause ↦ in_session number (ended (Aborted true) t)
            (telling (told_if asker (reply.Caused o.shard number cause)))
        | told_as.TooOld have ↦ in_session number (ended (Deciding None) t)
            (telling (told_if asker (reply.TooOld number have)))
        | told_as.NoTrace ↦ in_session number (ended (Deciding None) t)
            (telling (told_if asker (reply.Refused refusal.NoDecision)))
      ])
  decided_case asker o t (told_as.Committed at) safe = finished_good asker Committed t safe tt
  decided_case asker o t told_as.Released safe = finished_good asker Committed t safe tt
  decided_case asker o t (told_as.Aborted cause) safe =
      tells_good asker (reply.Caused o.shard number cause) (Aborted true) t safe tt (tt, tt)
  decided_case asker o t (told_as.TooOld have) safe =
      tells_good asker (reply.TooOld number have) (Deciding None) t safe tt (tt, tt)
  decided_case asker o t told_as.NoTrace safe =
      tells_good asker (reply.Refused refusal.NoDecision) (Deciding None) t safe tt (tt, tt)

  counted_case : (o : Outcome) (t : Transaction) (phase : Phase) → t.phase ≡ phase
      → IsSafeTransaction t → IsGood serial lsid (elim phase [
        | Checking asker ↦ checked lsid number asker o t
        | Deciding asker ↦ decided lsid number asker o t
        | Idle ↦ in_session number t nothing
        | Asking asker op answers ↦ in_session number t nothing
        | Committed ↦ in_session number t nothing
        | Released ↦ in_session number t nothing
        | Aborted sent ↦ in_session number t nothing
      ])
  counted_case o t (Checking asker) is safe = checked_case asker o t o.told is safe
  counted_case o t (Deciding asker) is safe = decided_case asker o t o.told safe
  counted_case o t Idle is safe = good t nothing safe tt
  counted_case o t (Asking asker op answers) is safe = good t nothing safe tt
  counted_case o t Committed is safe = good t nothing safe tt
  counted_case o t Released is safe = good t nothing safe tt
  counted_case o t (Aborted sent) is safe = good t nothing safe tt

  pub on_outcome_good : (o : Outcome) (t : Transaction) → IsSafeTransaction t
      → IsGood serial lsid (on_outcome lsid number o t)
  on_outcome_good o t safe =
      either (IsGood serial lsid) (same_tag t.tag o.tag && is_waited o.shard t.waiting)
      (counted lsid number o t) (in_session number t nothing)
      (λ h. counted_case o t t.phase refl safe) (λ h. good t nothing safe tt)

  -- Answers.

  refuses_good : (asker : Asker) (t : Transaction) (why : ℕ × Cause) → IsSafeTransaction t
      → IsGood serial lsid (refuses lsid number asker t why)
  refuses_good asker t why safe =
      good (ended (Aborted false) t) (both (aborting (without why.0 (aborts lsid number 5 t)))
      (telling (told asker (reply.Caused why.0 number why.1) ∷ [])))
      (phase_safe t (Aborted false) [] safe tt) ((tt, tt), tt)

  replies_good : (asker : Asker) (op : Op) (t : Transaction) (r : OpReply) → FitsCounted r
      → IsSafeTransaction t → IsGood serial lsid (replies lsid number asker op t r)
  replies_good asker op t r fits safe =
      let kept : IsSafeTransaction (record t { reply = Some (reply_of op r None) }) = record {
        once = safe.once;
        few = safe.few;
        told = reply_fits op r None fits tt;
        asked = safe.asked;
      } in
      either (IsGood serial lsid) (is_own lsid && not (is_cut r))
      (commits lsid number (Some asker) (record t { reply = Some (reply_of op r None) }))
      (in_session number t (telling (told asker (reply_of op r (Some (token_of t))) ∷ [])))
      (λ h. commits_good (Some asker) (record t { reply = Some (reply_of op r None) }) kept)
      (λ h. good t (telling (told asker (reply_of op r (Some (token_of t))) ∷ [])) safe
      (reply_fits op r (Some (token_of t)) fits (by_spelled t t.wrote), tt))

  answered_safe : (rows : List (ℕ × Answer)) (t : Transaction) → Rises nat_cmp rows
      → KeysBelow 65535 rows → IsSafeTransaction t → IsSafeTransaction (answered_by rows t)
  answered_safe rows t rises below safe = record {
    once = wrote_once t rows safe.once rises;
    few = wrote_below 65535 t rows safe.few below;
    told = safe.told;
    asked = tt;
  }

  concludes_case : (asker : Asker) (op : Op) (rows : List (ℕ × Answer)) (t : Transaction)
      (why : Option (ℕ × Cause)) → Rises nat_cmp rows → KeysBelow 65535 rows → IsSafeTransaction t
      → IsGood serial lsid (concludes_by lsid number asker op rows t why)
  concludes_case asker op rows t None rises below safe =
      replies_good asker op (answered_by rows t) (merge op (filter_map reply_in rows))
      (merged_fits op (filter_map reply_in rows)) (answered_safe rows t rises below safe)
  concludes_case asker op rows t (Some why) rises below safe = refuses_good asker t why safe

  taken_case : (asker : Asker) (op : Op) (rows : List (ℕ × Answer)) (t : Transaction)
      (posts : List Post) → Rises nat_cmp rows → KeysBelow 65535 rows → IsSafeTransaction t
      → IsGood serial lsid (taken_by lsid number asker op rows t posts)
  taken_case asker op rows t [] rises below safe =
      concludes_case asker op rows t (winning (filter_map cause_in rows)) rises below safe
  taken_case asker op rows t (post ∷ posts) rises below safe = good t nothing safe tt

  taken_good : (a : Answer) (asker : Asker) (op : Op) (answers : List (ℕ × Answer))
      (t : Transaction) → IsSafePhase t.waiting (Asking asker op answers)
      → is_waited a.shard t.waiting ≡ true → IsSafeTransaction t
      → IsGood serial lsid (taken lsid number a asker op answers t)
  taken_good a asker op answers t asked waited safe =
      let below : a.shard < 65535 = waited_below 65535 a.shard t.waiting asked.0 waited in
      let rises : Rises nat_cmp (put nat_cmp a.shard a answers) =
      put_rises a.shard a answers asked.1 in
      let keys : KeysBelow 65535 (put nat_cmp a.shard a answers) =
      put_below 65535 a.shard a answers below asked.2 in
      taken_case asker op (put nat_cmp a.shard a answers) (with_answer asker op answers a t)
      (without a.shard t.waiting) rises keys
      (record {
        once = safe.once;
        few = safe.few;
        told = safe.told;
        asked = (left_below 65535 a.shard t.waiting asked.0, rises, keys);
      })

  answer_case : (a : Answer) (t : Transaction) (phase : Phase) → IsSafePhase t.waiting phase
      → is_waited a.shard t.waiting ≡ true → IsSafeTransaction t → IsGood serial lsid (elim phase [
        | Asking asker op answers ↦ taken lsid number a asker op answers t
        | Idle ↦ in_session number t nothing
        | Checking asker ↦ in_session number t nothing
        | Deciding asker ↦ in_session number t nothing
        | Committed ↦ in_session number t nothing
        | Released ↦ in_session number t nothing
        | Aborted sent ↦ in_session number t nothing
      ])
  answer_case a t (Asking asker op answers) asked waited safe =
      taken_good a asker op answers t asked waited safe
  answer_case a t Idle asked waited safe = good t nothing safe tt
  answer_case a t (Checking asker) asked waited safe = good t nothing safe tt
  answer_case a t (Deciding asker) asked waited safe = good t nothing safe tt
  answer_case a t Committed asked waited safe = good t nothing safe tt
  answer_case a t Released asked waited safe = good t nothing safe tt
  answer_case a t (Aborted sent) asked waited safe = good t nothing safe tt

  pub on_answer_good : (a : Answer) (t : Transaction) → IsSafeTransaction t
      → IsGood serial lsid (on_answer lsid number a t)
  on_answer_good a t safe =
      either (IsGood serial lsid) (same_tag t.tag a.tag && nat_eq a.k t.k
      && is_waited a.shard t.waiting) (answer_to lsid number a t) (in_session number t nothing)
      (λ h. answer_case a t t.phase safe.asked (last_of (same_tag t.tag a.tag) (nat_eq a.k t.k)
      (is_waited a.shard t.waiting) h) safe) (λ h. good t nothing safe tt)

  -- Ends.

  ends_good : (why : ℕ) (t : Transaction) → IsSafeTransaction t
      → IsGood serial lsid (ends lsid number why t)
  ends_good why t safe = good (aborted t) (aborting (aborts lsid number why t)) (phase_safe t
      (Aborted (commit_sent t.phase)) [] safe tt) tt

  aborts_good : (asker : Asker) (t : Transaction) → IsSafeTransaction t
      → IsGood serial lsid (in_session number (aborted t)
      (both (aborting (aborts lsid number 1 t)) (telling (told asker (reply.Ended None) ∷ []))))
  aborts_good asker t safe = good (aborted t) (both (aborting (aborts lsid number 1 t))
      (telling (told asker (reply.Ended None) ∷ []))) (phase_safe t (Aborted (commit_sent t.phase))
      [] safe tt) ((tt, tt), tt)

  client_case : (asker : Asker) (t : Transaction) (phase : Phase) → IsSafeTransaction t
      → IsGood serial lsid (elim phase [
        | Aborted sent ↦ in_session number t (telling (told asker (reply.Ended None) ∷ []))
        | _ ↦ in_session number (aborted t)
            (both (aborting (aborts lsid number 1 t))
            (telling (told asker (reply.Ended None) ∷ [])))
      ])
  client_case asker t (Aborted sent) safe =
      good t (telling (told asker (reply.Ended None) ∷ [])) safe ((tt, tt), tt)
  client_case asker t Idle safe = aborts_good asker t safe
  client_case asker t (Asking other op answers) safe = aborts_good asker t safe
  client_case asker t (Checking other) safe = aborts_good asker t safe
  client_case asker t (Deciding other) safe = aborts_good asker t safe
  client_case asker t Committed safe = aborts_good asker t safe
  client_case asker t Released safe = aborts_good asker t safe

  pub client_aborts_good : (asker : Asker) (t : Transaction) → IsSafeTransaction t
      → IsGood serial lsid (client_aborts lsid number asker t)
  client_aborts_good asker t safe = client_case asker t t.phase safe

  -- Tokens.

  sought_good : (seeking : Option Seeking) (known : List Tag) (given : Given) → AllFit given.replies
      → IsGood serial lsid (sought number seeking known given)
  sought_good seeking known given fit =
      record { session = record { own = own; doing = tt }; replies = fit }

  asks_for_good : (k : Seeking) (older : Option Seeking) (known : List Tag)
      → IsGood serial lsid (asks_for lsid number k older known)
  asks_for_good k None known =
      sought_good (Some k) known (sending (recover_to lsid number k ∷ [])) tt
  asks_for_good k (Some older) known =
      either (IsGood serial lsid) (same_place older k) (sought number (Some k) known nothing)
      (asks_anew lsid number k known)
      (λ h. sought_good (Some k) known nothing tt)
      (λ h. sought_good (Some k) known (sending (recover_to lsid number k ∷ [])) tt)

  seeks_in_good : (asker : Asker) (k : Seeking) (seeking : Option Seeking) (known : List Tag)
      → IsGood serial lsid (seeks_in lsid number asker k seeking known)
  seeks_in_good asker k seeking known =
      either (IsGood serial lsid) (is_known k.tag known) (sought number seeking known
      (telling (told asker (token_reply k) ∷ []))) (asks_for lsid number k seeking known)
      (λ h. sought_good seeking known (telling (told asker (token_reply k) ∷ [])) ((tt, tt), tt))
      (λ h. asks_for_good k seeking known)

  pub on_recovered_good : (seeking : Option Seeking) (known : List Tag) (o : Outcome)
      → IsGood serial lsid (on_recovered number seeking known o)
  on_recovered_good None known o = sought_good None known nothing tt
  on_recovered_good (Some k) known o =
      let r : Reply = outcome_reply o.shard number (token_reply k) o.told in
      either (IsGood serial lsid) (same_tag k.tag o.tag && nat_eq k.shard o.shard)
      (recovered number k known o) (sought number (Some k) known nothing)
      (λ h. sought_good None (known_by k.tag known o.told) (telling (told_if k.asker r))
      (told_fits k.asker r (outcome_fits o.shard number (token_reply k) o.told (tt, tt))))
      (λ h. sought_good (Some k) known nothing tt)

-- Sessions.

pub stays_good : (serial : ℕ) (lsid : Lsid) (session : Session) → IsSafeIn serial lsid session
    → IsGood serial lsid (stays session)
stays_good serial lsid session safe = record { session = safe; replies = tt }

answered_case : (serial : ℕ) (lsid : Lsid) (a : Answer) (session : Session) (doing : Doing)
    → IsSafeIn serial lsid session → IsSafeDoing doing → IsGood serial lsid (elim doing [
      | Begun t ↦ on_answer lsid session.number a t
      | Sought seeking known ↦ stays session
    ])
answered_case serial lsid a session (Begun t) safe doing =
    on_answer_good serial lsid session.number safe.own a t doing
answered_case serial lsid a session (Sought seeking known) safe doing =
    stays_good serial lsid session safe

pub answered_good : (serial : ℕ) (a : Answer) (lsid : Lsid) (session : Session)
    → IsSafeIn serial lsid session → IsGood serial lsid (answered_in a lsid session)
answered_good serial a lsid session safe =
    answered_case serial lsid a session session.doing safe safe.doing

ended_case : (serial : ℕ) (lsid : Lsid) (o : Outcome) (session : Session) (doing : Doing)
    → IsSafeIn serial lsid session → IsSafeDoing doing → IsGood serial lsid (elim doing [
      | Begun t ↦ on_outcome lsid session.number o t
      | Sought seeking known ↦ on_recovered session.number seeking known o
    ])
ended_case serial lsid o session (Begun t) safe doing =
    on_outcome_good serial lsid session.number safe.own o t doing
ended_case serial lsid o session (Sought seeking known) safe doing =
    on_recovered_good serial lsid session.number safe.own seeking known o

pub ended_good : (serial : ℕ) (o : Outcome) (lsid : Lsid) (session : Session)
    → IsSafeIn serial lsid session → IsGood serial lsid (ended_in o lsid session)
ended_good serial o lsid session safe =
    ended_case serial lsid o session session.doing safe safe.doing

end_case : (serial : ℕ) (lsid : Lsid) (session : Session) (doing : Doing)
    → IsSafeIn serial lsid session → IsSafeDoing doing → IsGood serial lsid (elim doing [
      | Begun t ↦ if is_none (asker_of session.doing) && not (commit_sent t.phase)
          then ends lsid session.number 2 t else stays session
      | Sought seeking known ↦ stays session
    ])
end_case serial lsid session (Begun t) safe doing =
    either (IsGood serial lsid) (is_none (asker_of session.doing) && not (commit_sent t.phase))
    (ends lsid session.number 2 t) (stays session)
    (λ h. ends_good serial lsid session.number safe.own 2 t doing)
    (λ h. stays_good serial lsid session safe)
end_case serial lsid session (Sought seeking known) safe doing = stays_good serial lsid session safe

pub ends_session_good : (serial : ℕ) (lsid : Lsid) (session : Session)
    → IsSafeIn serial lsid session → IsGood serial lsid (ends_session lsid session)
ends_session_good serial lsid session safe =
    end_case serial lsid session session.doing safe safe.doing

gone_asking_case : (serial : ℕ) (lsid : Lsid) (session : Session) (t : Transaction) (phase : Phase)
    → IsSafeIn serial lsid session → IsSafeTransaction t → IsGood serial lsid (elim phase [
      | Asking asker op answers ↦ ends lsid session.number 4 t
      | Checking asker ↦ in_session session.number (record t { phase = Checking None }) nothing
      | Deciding asker ↦ in_session session.number (record t { phase = Deciding None }) nothing
      | Idle ↦ stays session
      | Committed ↦ stays session
      | Released ↦ stays session
      | Aborted sent ↦ stays session
    ])
gone_asking_case serial lsid session t (Asking asker op answers) safe doing =
    ends_good serial lsid session.number safe.own 4 t doing
gone_asking_case serial lsid session t (Checking asker) safe doing = good serial lsid session.number
    safe.own (record t { phase = Checking None }) nothing (heard_safe t (Checking None) doing tt) tt
gone_asking_case serial lsid session t (Deciding asker) safe doing = good serial lsid session.number
    safe.own (record t { phase = Deciding None }) nothing (heard_safe t (Deciding None) doing tt) tt
gone_asking_case serial lsid session t Idle safe doing = stays_good serial lsid session safe
gone_asking_case serial lsid session t Committed safe doing = stays_good serial lsid session safe
gone_asking_case serial lsid session t Released safe doing = stays_good serial lsid session safe
gone_asking_case serial lsid session t (Aborted sent) safe doing =
    stays_good serial lsid session safe

gone_case : (serial conn : ℕ) (lsid : Lsid) (session : Session) (doing : Doing)
    → IsSafeIn serial lsid session → IsSafeDoing doing → IsGood serial lsid (elim doing [
      | Begun t ↦ gone_asking conn lsid session t
      | Sought seeking known ↦ record {
        session = record { number = session.number; doing = Sought (unheard seeking) known };
        given = nothing;
      }
    ])
gone_case serial conn lsid session (Begun t) safe doing =
    gone_asking_case serial lsid session t t.phase safe doing
gone_case serial conn lsid session (Sought seeking known) safe doing =
    record { session = record { own = safe.own; doing = tt }; replies = tt }

pub gone_good : (serial conn : ℕ) (lsid : Lsid) (session : Session) → IsSafeIn serial lsid session
    → IsGood serial lsid (gone_from conn lsid session)
gone_good serial conn lsid session safe =
    either (IsGood serial lsid) (is_from conn (asker_of session.doing)) (gone_in conn lsid session)
    (stays session)
    (λ h. gone_case serial conn lsid session session.doing safe safe.doing)
    (λ h. stays_good serial lsid session safe)

-- by a token
seeks_case : (serial : ℕ) (lsid : Lsid) (number : ℤ) (own : IsDrawn serial lsid number)
    (asker : Asker) (k : Seeking) (session : Session) (doing : Doing) → IsSafeIn serial lsid session
    → IsGood serial lsid (elim doing [
      | Sought seeking known ↦ seeks_in lsid number asker k seeking known
      | Begun t ↦ stays session
    ])
seeks_case serial lsid number own asker k session (Sought seeking known) safe =
    seeks_in_good serial lsid number own asker k seeking known
seeks_case serial lsid number own asker k session (Begun t) safe =
    stays_good serial lsid session safe

pub seeks_good : (serial : ℕ) (lsid : Lsid) (number : ℤ) (own : IsDrawn serial lsid number)
    (asker : Asker) (k : Seeking) (session : Option Session) → ((s : Session) → session ≡ Some s
    → IsSafeIn serial lsid s) → IsGood serial lsid (seeks_by lsid number asker k session)
seeks_good serial lsid number own asker k None safe =
    sought_good serial lsid number own (Some k) [] (sending (recover_to lsid number k ∷ [])) tt
seeks_good serial lsid number own asker k (Some session) safe =
    either (IsGood serial lsid) (int_lt session.number number) _ _
    (λ h. sought_good serial lsid number own (Some k) []
    (both (aborting (leaves lsid session)) (sending (recover_to lsid number k ∷ []))) tt)
    (λ h. seeks_case serial lsid number own asker k session session.doing (safe session refl))
