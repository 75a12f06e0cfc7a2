-- What the phase of a router's transaction says of its end, and how each deed keeps that: one that
-- is known as committed was told so, or its release was taken; one that is known as aborted was
-- told so, or was ended before its commit was sent.
use Rattle.std.proofs.Common.{◌≡◌, ◌⊎◌, inl, inr, ◌&&◌, ℕ, ℤ, Bool, true, false, not, All}
use Rattle.std.proofs.Common.{List, [], ◌∷◌, map, filter, length, nat_eq, int_lt, is_none, Option}
use Rattle.std.proofs.Common.{Some, None, refl, sym, ap, ap₂, subst, ◌∙◌}
use Rattle.std.proofs.Common.{if◌then◌else◌}
use Rattle.std.specs.List.{list_any}
use Rattle.std.proofs.lemmas.List.Elements.{All-nil, All-append}
use Rattle.txn_types.specs.Order.{same_tag}
use Rattle.txn_types.specs.declared.cause.Cause.{Cause}
use Rattle.txn_types.specs.declared.decision.Told.{Told}
use Rattle.txn_types.specs.declared.decision.Told.TheVariants as told_as
use Rattle.txn_types.specs.declared.message.Answer.{Answer}
use Rattle.txn_types.specs.declared.message.Outcome.{Outcome}
use Rattle.txn_types.specs.declared.names.Tag.{Tag}
use Rattle.txn_types.specs.declared.node.Lsid.{Lsid}
use Rattle.txn_types.specs.declared.operation.Op.{Op}
use Rattle.txn_types.specs.declared.operation.OpReply.{OpReply}
use Rattle.txn_semantics.specs.Merge.{merge}
use Rattle.router_state.specs.declared.deed.Deed.{Deed}
use Rattle.router_state.specs.declared.state.Asker.{Asker}
use Rattle.router_state.specs.declared.state.Doing.{Doing}
use Rattle.router_state.specs.declared.state.Doing.TheVariants.{Begun, Sought}
use Rattle.router_state.specs.declared.state.Phase.{Phase}
use Rattle.router_state.specs.declared.state.Phase.TheVariants.{Idle, Asking, Checking, Deciding}
use Rattle.router_state.specs.declared.state.Phase.TheVariants.{Committed, Released, Aborted}
use Rattle.router_state.specs.declared.state.Seeking.{Seeking}
use Rattle.router_state.specs.declared.state.Session.{Session}
use Rattle.router_state.specs.declared.state.Transaction.{Transaction}
use Rattle.router_state.specs.Deeds.{nothing, in_session, stays, telling, told}
use Rattle.router_state.specs.Shards.{writers, readers}
use Rattle.router_state.specs.State.{Post, asker_of, is_from, commit_sent, is_waited}
use Rattle.router_state.specs.State.{without, boot_of, asker_in, token_of}
use Rattle.std.proofs.Common.{filter_map}
use Rattle.std.specs.Ordering.{nat_cmp}
use Rattle.txn_semantics.specs.Keyed.{put}
use Rattle.router_rules.specs.Commits as co
use Rattle.router_rules.specs.Ends as en
use Rattle.router_rules.specs.Serving.{answered_in, ended_in}
use Rattle.router_rules.specs.Statements as st
use Rattle.router_rules.specs.Tokens as tk
use Rattle.participant.proofs.Cases.{either}
use Rattle.participant.proofs.Tags.{tag_same}
use Rattle.world_laws.proofs.Naming.{one}
use Rattle.answer_laws.proofs.Lists.{both_true}
use Rattle.one_shard_laws.specs.Asking.{OneWrote}
use Rattle.decision_laws.specs.Ends.{IsUnasked, IsAborted}

-- Of a transaction whose statements were answered, the one shard takes part.

pub record TakesPart (parts : List (ℕ × ℕ)) (wrote : List ℕ) : Type 0 where
  pub boot : ℕ
  pub parts_are : parts ≡ (0, boot) ∷ []
  pub wrote_is : OneWrote wrote

abbrev pub PhaseParts : Transaction → Phase → Type 0
PhaseParts t (Asking asker op answers) = Unit {0}
PhaseParts t (Aborted sent) = Unit {0}
PhaseParts t other = TakesPart t.parts t.wrote

abbrev pub DoingParts : Doing → Type 0
DoingParts (Begun t) = PhaseParts t t.phase
DoingParts (Sought seeking known) = Unit {0}

no_true : {X : Type 0} → true ≡ false → X
no_true e = cc

not_true : (b : Bool) → not b ≡ true → b ≡ false
not_true true e = cc
not_true false e = refl

no_cons : {A X : Type 0} (x : A) (xs : List A) → x ∷ xs ≡ [] → X
no_cons x xs e = cc

abbrev read_only : List (ℕ × ℕ) → List ℕ → List (ℕ × ℕ)
read_only parts wrote = filter (λ part. not (list_any (nat_eq part.0) wrote)) parts

-- it is the one that wrote, or the one that didn't
reads_alone : (t : Transaction) (k : TakesPart t.parts t.wrote) → t.wrote ≡ []
    → readers t ≡ (0, k.boot) ∷ []
reads_alone t k none = ap₂ read_only k.parts_are none

writes_alone : (t : Transaction) → t.wrote ≡ 0 ∷ [] → TakesPart t.parts t.wrote → readers t ≡ []
writes_alone t some k = ap₂ read_only k.parts_are some

no_writer : (t : Transaction) → t.wrote ≡ [] → writers t ≡ []
no_writer t none = ap (map (λ (shard : ℕ). (shard, boot_of t.parts shard))) none

a_writer : (t : Transaction) → t.wrote ≡ 0 ∷ [] → writers t ≡ (0, boot_of t.parts 0) ∷ []
a_writer t some = ap (map (λ (shard : ℕ). (shard, boot_of t.parts shard))) some

-- What is known of transactions: `C` of one that was told as committed, or whose release was taken;
-- `R` of one whose release was taken; `A` of one that was told as aborted; and `N` of one that is
-- never committed.

module _ (C R A N : Tag → Type 0) where
  abbrev pub PhaseMeans : Tag → List ℕ → Phase → Type 0
  PhaseMeans tag wrote Idle = Unit {0}
  PhaseMeans tag wrote (Asking asker op answers) = Unit {0}
  PhaseMeans tag wrote (Checking asker) = wrote ≡ []
  PhaseMeans tag wrote (Deciding asker) = wrote ≡ [] → ⊥
  PhaseMeans tag wrote Committed = C tag
  PhaseMeans tag wrote Released = R tag
  PhaseMeans tag wrote (Aborted true) = A tag ⊎ (wrote ≡ [])
  PhaseMeans tag wrote (Aborted false) = N tag

  abbrev pub DoingMeans : Doing → Type 0
  DoingMeans (Begun t) = PhaseMeans t.tag t.wrote t.phase
  DoingMeans (Sought seeking known) = All C known

  abbrev pub Leaves : Deed → Type 0
  Leaves d = DoingMeans d.session.doing

  -- what an outcome that comes says
  pub record Hears (o : Outcome) : Type 0 where
    pub committed : (at : ℕ) → o.told ≡ told_as.Committed at → C o.tag
    pub released : o.told ≡ told_as.Released → R o.tag × C o.tag
    pub aborted : (why : Cause) → o.told ≡ told_as.Aborted why → A o.tag

  -- Commits.

  decides_case : (lsid : Lsid) (number : ℤ) (asker : Option Asker) (t : Transaction)
      (parts : List (ℕ × ℕ)) → writers t ≡ parts
      → DoingParts (co.decides_by lsid number asker t parts).session.doing
      → (TakesPart t.parts t.wrote → t.wrote ≡ [] → R t.tag)
      → Leaves (co.decides_by lsid number asker t parts)
  decides_case lsid number asker t [] is k r = elim k.wrote_is [
    | inl none ↦ r k none
    | inr some ↦ no_cons (0, boot_of t.parts 0) [] (sym (a_writer t some) ∙ is)
  ]
  decides_case lsid number asker t (first ∷ []) is k r =
      λ none. no_cons first [] (sym is ∙ no_writer t none)
  decides_case lsid number asker t (first ∷ second ∷ more) is k r =
      λ none. no_cons first (second ∷ more) (sym is ∙ no_writer t none)

  decides_means : (lsid : Lsid) (number : ℤ) (asker : Option Asker) (t : Transaction)
      → DoingParts (co.decides lsid number asker t).session.doing
      → (TakesPart t.parts t.wrote → t.wrote ≡ [] → R t.tag)
      → Leaves (co.decides lsid number asker t)
  decides_means lsid number asker t k r =
      decides_case lsid number asker t (writers t) refl k r

  commits_case : (lsid : Lsid) (number : ℤ) (asker : Option Asker) (t : Transaction)
      (parts : List (ℕ × ℕ)) → readers t ≡ parts
      → DoingParts (co.commits_by lsid number asker t parts).session.doing
      → Leaves (co.commits_by lsid number asker t parts)
  commits_case lsid number asker t [] is k =
      decides_means lsid number asker t k
      (λ p none. no_cons (0, p.boot) [] (sym (reads_alone t p none) ∙ is))
  commits_case lsid number asker t (first ∷ more) is k = elim k.wrote_is [
    | inl none ↦ none
    | inr some ↦ no_cons first more (sym is ∙ writes_alone t some
        (record { boot = k.boot; parts_are = k.parts_are; wrote_is = k.wrote_is }))
  ]

  commits_means : (lsid : Lsid) (number : ℤ) (asker : Option Asker) (t : Transaction)
      → DoingParts (co.commits lsid number asker t).session.doing
      → Leaves (co.commits lsid number asker t)
  commits_means lsid number asker t k = commits_case lsid number asker t (readers t) refl k

  listens_means : (lsid : Lsid) (number : ℤ) (asker : Asker) (t : Transaction) (test : Bool)
      → (t.wrote ≡ [] → ⊥)
      → DoingParts (if test then co.decides lsid number (Some asker) t
      else in_session number (record t { phase = Deciding (Some asker) }) nothing).session.doing
      → Leaves (if test then co.decides lsid number (Some asker) t
      else in_session number (record t { phase = Deciding (Some asker) }) nothing)
  listens_means lsid number asker t true some k =
      decides_means lsid number (Some asker) t k (λ p none. absurd (some none))
  listens_means lsid number asker t false some k = some

  commit_phase : (lsid : Lsid) (number : ℤ) (asker : Asker) (t : Transaction) (p : Phase)
      → PhaseMeans t.tag t.wrote p
      → DoingParts (co.commit_asked lsid number asker (record t { phase = p })).session.doing
      → Leaves (co.commit_asked lsid number asker (record t { phase = p }))
  commit_phase lsid number asker t Idle h k =
      commits_means lsid number (Some asker) (record t { phase = Idle }) k
  commit_phase lsid number asker t (Asking other op answers) h k = tt
  commit_phase lsid number asker t (Checking other) h k = h
  commit_phase lsid number asker t (Deciding other) h k =
      listens_means lsid number asker (record t { phase = Deciding other })
      (nat_eq (length t.waiting) 0) h k
  commit_phase lsid number asker t Committed h k = h
  commit_phase lsid number asker t Released h k = h
  commit_phase lsid number asker t (Aborted sent) h k = h

  pub commit_asked_means : (lsid : Lsid) (number : ℤ) (asker : Asker) (t : Transaction)
      → DoingMeans (Begun t) → DoingParts (co.commit_asked lsid number asker t).session.doing
      → Leaves (co.commit_asked lsid number asker t)
  commit_asked_means lsid number asker t h k = commit_phase lsid number asker t t.phase h k

  -- Outcomes.

  module _ (o : Outcome) (hear : Hears o) where
    released_means : (lsid : Lsid) (number : ℤ) (asker : Option Asker) (t : Transaction)
        (posts : List Post) → o.tag ≡ t.tag → o.told ≡ told_as.Released → t.wrote ≡ []
        → DoingParts (co.released lsid number asker (record t { phase = Checking asker })
        posts).session.doing
        → Leaves (co.released lsid number asker (record t { phase = Checking asker }) posts)
    released_means lsid number asker t [] same told none k =
        decides_means lsid number asker (record t { phase = Checking asker }) k
        (λ p no. subst R same (hear.released told).0)
    released_means lsid number asker t (post ∷ posts) same told none k = none

    checked_means : (lsid : Lsid) (number : ℤ) (asker : Option Asker) (t : Transaction) (x : Told)
        → o.tag ≡ t.tag → o.told ≡ x → t.wrote ≡ []
        → DoingParts (co.checked lsid number asker (record o { told = x })
        (record t { phase = Checking asker })).session.doing
        → Leaves (co.checked lsid number asker (record o { told = x })
        (record t { phase = Checking asker }))
    checked_means lsid number asker t told_as.Released same told none k =
        released_means lsid number asker t (without o.shard t.waiting) same told none k
    checked_means lsid number asker t (told_as.Committed at) same told none k =
        subst C same (hear.committed at told)
    checked_means lsid number asker t (told_as.Aborted why) same told none k =
        inl (subst A same (hear.aborted why told))
    checked_means lsid number asker t (told_as.TooOld have) same told none k = inr none
    checked_means lsid number asker t told_as.NoTrace same told none k = inr none

    decided_means : (lsid : Lsid) (number : ℤ) (asker : Option Asker) (t : Transaction) (x : Told)
        → o.tag ≡ t.tag → o.told ≡ x → (t.wrote ≡ [] → ⊥)
        → Leaves (co.decided lsid number asker (record o { told = x }) t)
    decided_means lsid number asker t told_as.Released same told some =
        subst C same (hear.released told).1
    decided_means lsid number asker t (told_as.Committed at) same told some =
        subst C same (hear.committed at told)
    decided_means lsid number asker t (told_as.Aborted why) same told some =
        inl (subst A same (hear.aborted why told))
    decided_means lsid number asker t (told_as.TooOld have) same told some = some
    decided_means lsid number asker t told_as.NoTrace same told some = some

    counted_means : (lsid : Lsid) (number : ℤ) (t : Transaction) (p : Phase) → o.tag ≡ t.tag
        → PhaseMeans t.tag t.wrote p
        → DoingParts (co.counted lsid number o (record t { phase = p })).session.doing
        → Leaves (co.counted lsid number o (record t { phase = p }))
    counted_means lsid number t (Checking asker) same h k =
        checked_means lsid number asker t o.told same refl h k
    counted_means lsid number t (Deciding asker) same h k =
        decided_means lsid number asker (record t { phase = Deciding asker }) o.told same refl h
    counted_means lsid number t Idle same h k = tt
    counted_means lsid number t (Asking asker op answers) same h k = tt
    counted_means lsid number t Committed same h k = h
    counted_means lsid number t Released same h k = h
    counted_means lsid number t (Aborted sent) same h k = h

    outcome_case : (lsid : Lsid) (number : ℤ) (t : Transaction) (test : Bool)
        → (same_tag t.tag o.tag && is_waited o.shard t.waiting) ≡ test → DoingMeans (Begun t)
        → DoingParts (if test then co.counted lsid number o t
        else in_session number t nothing).session.doing
        → Leaves (if test then co.counted lsid number o t else in_session number t nothing)
    outcome_case lsid number t true e h k =
        counted_means lsid number t t.phase
        (sym (tag_same t.tag o.tag (both_true (same_tag t.tag o.tag) (is_waited o.shard t.waiting)
        e).0)) h k
    outcome_case lsid number t false e h k = h

    known_means : (known : List Tag) (tag : Tag) (x : Told) → o.tag ≡ tag → o.told ≡ x
        → All C known → All C (tk.known_by tag known x)
    known_means known tag (told_as.Committed at) same told h =
        All-append C known (tag ∷ []) h (one C tag (subst C same (hear.committed at told)))
    known_means known tag told_as.Released same told h =
        All-append C known (tag ∷ []) h (one C tag (subst C same (hear.released told).1))
    known_means known tag (told_as.Aborted why) same told h = h
    known_means known tag (told_as.TooOld have) same told h = h
    known_means known tag told_as.NoTrace same told h = h

    recovered_case : (number : ℤ) (k : Seeking) (known : List Tag) (test : Bool)
        → (same_tag k.tag o.tag && nat_eq k.shard o.shard) ≡ test → All C known
        → Leaves (if test then tk.recovered number k known o
        else tk.sought number (Some k) known nothing)
    recovered_case number k known true e h =
        known_means known k.tag o.told
        (sym (tag_same k.tag o.tag (both_true (same_tag k.tag o.tag) (nat_eq k.shard o.shard) e).0))
        refl h
    recovered_case number k known false e h = h

    pub outcome_means : (lsid : Lsid) (number : ℤ) (doing : Doing) → DoingMeans doing
        → DoingParts (ended_in o lsid (record { number = number; doing = doing })).session.doing
        → Leaves (ended_in o lsid (record { number = number; doing = doing }))
    outcome_means lsid number (Begun t) h k = outcome_case lsid number t _ refl h k
    outcome_means lsid number (Sought None known) h k = h
    outcome_means lsid number (Sought (Some seeking) known) h k =
        recovered_case number seeking known _ refl h

  -- A transaction that ends before its commit was asked for is never committed.

  abbrev pub UnaskedNever : Doing → Type 0
  UnaskedNever (Begun t) = IsUnasked t.phase → N t.tag
  UnaskedNever (Sought seeking known) = Unit {0}

  -- Answers.

  replies_case : (lsid : Lsid) (number : ℤ) (asker : Asker) (op : Op) (t : Transaction)
      (r : OpReply) (test : Bool)
      → DoingParts (if test then co.commits lsid number (Some asker)
      (record t { phase = Idle; reply = Some (st.reply_of op r None) })
      else in_session number (record t { phase = Idle })
      (telling (told asker (st.reply_of op r (Some (token_of (record t { phase = Idle })))) ∷ []))
      ).session.doing
      → Leaves (if test then co.commits lsid number (Some asker)
      (record t { phase = Idle; reply = Some (st.reply_of op r None) })
      else in_session number (record t { phase = Idle })
      (telling (told asker (st.reply_of op r (Some (token_of (record t { phase = Idle })))) ∷ [])))
  replies_case lsid number asker op t r true k =
      commits_means lsid number (Some asker)
      (record t { phase = Idle; reply = Some (st.reply_of op r None) }) k
  replies_case lsid number asker op t r false k = tt

  module _ (lsid : Lsid) (number : ℤ) (a : Answer) (asker : Asker) (op : Op)
      (answers : List (ℕ × Answer)) (t : Transaction) (never : N t.tag) where
    abbrev now : Transaction
    now = st.with_answer asker op answers a t

    abbrev rows : List (ℕ × Answer)
    rows = put nat_cmp a.shard a answers

    concludes_means : (o : Option (ℕ × Cause))
        → DoingParts (st.concludes_by lsid number asker op rows now o).session.doing
        → Leaves (st.concludes_by lsid number asker op rows now o)
    concludes_means None k =
        replies_case lsid number asker op (st.answered_by rows now)
        (merge op (filter_map st.reply_in rows)) _ k
    concludes_means (Some refusal) k = never

    taken_means : (posts : List Post)
        → DoingParts (st.taken_by lsid number asker op rows now posts).session.doing
        → Leaves (st.taken_by lsid number asker op rows now posts)
    taken_means [] k = concludes_means (st.winning (filter_map st.cause_in rows)) k
    taken_means (post ∷ posts) k = tt

  answer_phase : (lsid : Lsid) (number : ℤ) (a : Answer) (t : Transaction) (p : Phase)
      → PhaseMeans t.tag t.wrote p → (IsUnasked p → N t.tag)
      → DoingParts (st.answer_to lsid number a (record t { phase = p })).session.doing
      → Leaves (st.answer_to lsid number a (record t { phase = p }))
  answer_phase lsid number a t (Asking asker op answers) h never k =
      taken_means lsid number a asker op answers (record t { phase = Asking asker op answers })
      (never tt) (without a.shard t.waiting) k
  answer_phase lsid number a t Idle h never k = tt
  answer_phase lsid number a t (Checking asker) h never k = h
  answer_phase lsid number a t (Deciding asker) h never k = h
  answer_phase lsid number a t Committed h never k = h
  answer_phase lsid number a t Released h never k = h
  answer_phase lsid number a t (Aborted sent) h never k = h

  answer_case : (lsid : Lsid) (number : ℤ) (a : Answer) (t : Transaction) (test : Bool)
      → DoingMeans (Begun t) → UnaskedNever (Begun t)
      → DoingParts (if test then st.answer_to lsid number a t
      else in_session number t nothing).session.doing
      → Leaves (if test then st.answer_to lsid number a t else in_session number t nothing)
  answer_case lsid number a t true h never k =
      answer_phase lsid number a t t.phase h never k
  answer_case lsid number a t false h never k = h

  pub answer_means : (a : Answer) (lsid : Lsid) (number : ℤ) (doing : Doing) → DoingMeans doing
      → UnaskedNever doing
      → DoingParts (answered_in a lsid (record { number = number; doing = doing })).session.doing
      → Leaves (answered_in a lsid (record { number = number; doing = doing }))
  answer_means a lsid number (Begun t) h never k = answer_case lsid number a t _ h never k
  answer_means a lsid number (Sought seeking known) h never k = h

  -- Ends.

  aborted_phase : (t : Transaction) (p : Phase) → PhaseMeans t.tag t.wrote p
      → (IsUnasked p → N t.tag) → (commit_sent p ≡ false) ⊎ IsAborted p
      → PhaseMeans t.tag t.wrote (Aborted (commit_sent p))
  aborted_phase t Idle h never s = never tt
  aborted_phase t (Asking asker op answers) h never s = never tt
  aborted_phase t (Aborted true) h never s = h
  aborted_phase t (Aborted false) h never s = h
  aborted_phase t (Checking asker) h never (inl s) = no_true s
  aborted_phase t (Deciding asker) h never (inl s) = no_true s
  aborted_phase t Committed h never (inl s) = no_true s
  aborted_phase t Released h never (inl s) = no_true s
  aborted_phase t (Checking asker) h never (inr s) = absurd s
  aborted_phase t (Deciding asker) h never (inr s) = absurd s
  aborted_phase t Committed h never (inr s) = absurd s
  aborted_phase t Released h never (inr s) = absurd s

  client_phase : (lsid : Lsid) (number : ℤ) (asker : Asker) (t : Transaction) (p : Phase)
      → PhaseMeans t.tag t.wrote p → (IsUnasked p → N t.tag) → commit_sent p ≡ false
      → Leaves (en.client_aborts lsid number asker (record t { phase = p }))
  client_phase lsid number asker t Idle h never s = never tt
  client_phase lsid number asker t (Asking other op answers) h never s = never tt
  client_phase lsid number asker t (Aborted sent) h never s = h
  client_phase lsid number asker t (Checking other) h never s = no_true s
  client_phase lsid number asker t (Deciding other) h never s = no_true s
  client_phase lsid number asker t Committed h never s = no_true s
  client_phase lsid number asker t Released h never s = no_true s

  pub client_means : (lsid : Lsid) (number : ℤ) (asker : Asker) (t : Transaction)
      → DoingMeans (Begun t) → UnaskedNever (Begun t) → commit_sent t.phase ≡ false
      → Leaves (en.client_aborts lsid number asker t)
  client_means lsid number asker t h never s =
      client_phase lsid number asker t t.phase h never s

  ends_case : (lsid : Lsid) (number : ℤ) (t : Transaction) (p : Phase)
      (test : Bool) → (is_none (asker_in p) && not (commit_sent p)) ≡ test
      → PhaseMeans t.tag t.wrote p → (IsUnasked p → N t.tag)
      → Leaves (if test then en.ends lsid number 2 (record t { phase = p })
      else stays (record { number = number; doing = Begun (record t { phase = p }) }))
  ends_case lsid number t p true e h never =
      aborted_phase t p h never
      (inl (not_true (commit_sent p) (both_true (is_none (asker_in p)) (not (commit_sent p)) e).1))
  ends_case lsid number t p false e h never = h

  pub session_means : (lsid : Lsid) (number : ℤ) (doing : Doing) → DoingMeans doing
      → UnaskedNever doing
      → Leaves (en.ends_session lsid (record { number = number; doing = doing }))
  session_means lsid number (Begun t) h never = ends_case lsid number t t.phase _ refl h never
  session_means lsid number (Sought seeking known) h never = h

  gone_phase : (conn : ℕ) (lsid : Lsid) (number : ℤ) (t : Transaction) (p : Phase)
      → PhaseMeans t.tag t.wrote p → (IsUnasked p → N t.tag)
      → Leaves (en.gone_asking conn lsid
      (record { number = number; doing = Begun (record t { phase = p }) }) (record t { phase = p }))
  gone_phase conn lsid number t (Asking asker op answers) h never = never tt
  gone_phase conn lsid number t (Checking asker) h never = h
  gone_phase conn lsid number t (Deciding asker) h never = h
  gone_phase conn lsid number t Idle h never = tt
  gone_phase conn lsid number t Committed h never = h
  gone_phase conn lsid number t Released h never = h
  gone_phase conn lsid number t (Aborted sent) h never = h

  gone_doing : (conn : ℕ) (lsid : Lsid) (number : ℤ) (doing : Doing) → DoingMeans doing
      → UnaskedNever doing
      → Leaves (en.gone_in conn lsid (record { number = number; doing = doing }))
  gone_doing conn lsid number (Begun t) h never = gone_phase conn lsid number t t.phase h never
  gone_doing conn lsid number (Sought seeking known) h never = h

  pub gone_means : (conn : ℕ) (lsid : Lsid) (s : Session) → DoingMeans s.doing
      → UnaskedNever s.doing → Leaves (en.gone_from conn lsid s)
  gone_means conn lsid s h never =
      either (is_from conn (asker_of s.doing)) Leaves _ _
      (gone_doing conn lsid s.number s.doing h never) h

  -- Tokens.

  asks_for_means : (lsid : Lsid) (number : ℤ) (k : Seeking) (older : Option Seeking)
      (known : List Tag) → All C known → Leaves (tk.asks_for lsid number k older known)
  asks_for_means lsid number k None known h = h
  asks_for_means lsid number k (Some older) known h =
      either (tk.same_place older k) Leaves _ _ h h

  seeks_in_means : (lsid : Lsid) (number : ℤ) (asker : Asker) (k : Seeking)
      (seeking : Option Seeking) (known : List Tag) → All C known
      → Leaves (tk.seeks_in lsid number asker k seeking known)
  seeks_in_means lsid number asker k seeking known h =
      either (tk.is_known k.tag known) Leaves _ _ h (asks_for_means lsid number k seeking known h)

  seeks_doing : (lsid : Lsid) (number own : ℤ) (asker : Asker) (k : Seeking) (doing : Doing)
      → DoingMeans doing
      → Leaves (tk.seeks_by lsid number asker k (Some (record { number = own; doing = doing })))
  seeks_doing lsid number own asker k (Begun t) h =
      either (int_lt own number) Leaves _ _ (All-nil C) h
  seeks_doing lsid number own asker k (Sought seeking known) h =
      either (int_lt own number) Leaves _ _ (All-nil C)
      (seeks_in_means lsid number asker k seeking known h)

  pub seeks_means : (lsid : Lsid) (number : ℤ) (asker : Asker) (k : Seeking) (s : Session)
      → DoingMeans s.doing → Leaves (tk.seeks_by lsid number asker k (Some s))
  seeks_means lsid number asker k s h = seeks_doing lsid number s.number asker k s.doing h

  pub anew_means : (lsid : Lsid) (number : ℤ) (asker : Asker) (k : Seeking)
      → Leaves (tk.seeks_by lsid number asker k None)
  anew_means lsid number asker k = All-nil C
