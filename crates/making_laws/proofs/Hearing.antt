-- What a message of a shard, and the end of a connection, do in a router's session: who waits there
-- is told a cause only where a message of the transaction told it.
use Rattle.std.proofs.Common.{◌≡◌, ◌⊎◌, inl, inr, ◌∙◌, ◌&&◌, ℕ, ℤ, Bool, true, false, not, All}
use Rattle.std.proofs.Common.{Contains, List, [], ◌∷◌, map, filter, filter_map, find, nat_eq}
use Rattle.std.proofs.Common.{Option, Some, None, option_map, unwrap_or, Result, Ok, Err, refl, sym}
use Rattle.std.proofs.Common.{ap, subst, if◌then◌else◌}
use Rattle.std.specs.Option.{option_or}
use Rattle.std.specs.Ordering.{nat_cmp, is_lt}
use Rattle.std.proofs.lemmas.List.Elements.{All-contains}
use Rattle.bson_core.specs.Fields.{Document}
use Rattle.txn_types.specs.Order.{same_tag}
use Rattle.txn_types.specs.declared.cause.Cause.{Cause}
use Rattle.txn_types.specs.declared.cause.Cause.TheVariants as cause
use Rattle.txn_types.specs.declared.decision.Token.{Token}
use Rattle.txn_types.specs.declared.decision.Told.{Told}
use Rattle.txn_types.specs.declared.decision.Told.TheVariants as told_as
use Rattle.txn_types.specs.declared.id.Id.{Id}
use Rattle.txn_types.specs.declared.message.Answer.{Answer}
use Rattle.txn_types.specs.declared.message.Envelope.{Envelope}
use Rattle.txn_types.specs.declared.message.Msg.{Msg}
use Rattle.txn_types.specs.declared.message.Msg.TheVariants as msg
use Rattle.txn_types.specs.declared.message.Outcome.{Outcome}
use Rattle.txn_types.specs.declared.message.Statement.{Statement}
use Rattle.txn_types.specs.declared.names.Tag.{Tag}
use Rattle.txn_types.specs.declared.node.Lsid.{Lsid}
use Rattle.txn_types.specs.declared.operation.Op.{Op}
use Rattle.txn_types.specs.declared.operation.Op.TheVariants as operation
use Rattle.txn_types.specs.declared.operation.OpErr.{OpErr}
use Rattle.txn_types.specs.declared.operation.OpReply.{OpReply}
use Rattle.txn_types.specs.declared.operation.OpReply.TheVariants.{Count, Rows}
use Rattle.txn_semantics.specs.Keyed.{put}
use Rattle.txn_semantics.specs.Merge.{merge}
use Rattle.txn_semantics.specs.Splits.{err_cmp}
use Rattle.client_reply.specs.declared.reply.Refusal.TheVariants as refusal
use Rattle.client_reply.specs.declared.reply.Reply.{Reply}
use Rattle.client_reply.specs.declared.reply.Reply.TheVariants as reply
use Rattle.router_state.specs.Deeds.{told_if, in_session, nothing, stays}
use Rattle.router_state.specs.Shards.{writers, readers, has_written}
use Rattle.router_state.specs.State.{Post, asker_of, asker_in, is_from, is_own, is_waited, without}
use Rattle.router_state.specs.State.{token_of, boot_of}
use Rattle.router_state.specs.declared.deed.Deed.{Deed}
use Rattle.router_state.specs.declared.state.Asker.{Asker}
use Rattle.router_state.specs.declared.state.Doing.{Doing}
use Rattle.router_state.specs.declared.state.Doing.TheVariants.{Begun, Sought}
use Rattle.router_state.specs.declared.state.Phase.{Phase}
use Rattle.router_state.specs.declared.state.Phase.TheVariants.{Idle, Asking, Checking, Deciding}
use Rattle.router_state.specs.declared.state.Phase.TheVariants.{Committed, Released, Aborted}
use Rattle.router_state.specs.declared.state.Seeking.{Seeking}
use Rattle.router_state.specs.declared.state.Session.{Session}
use Rattle.router_state.specs.declared.state.Transaction.{Transaction}
use Rattle.router_rules.specs.Commits as co
use Rattle.router_rules.specs.Ends as en
use Rattle.router_rules.specs.Serving.{answered_in, ended_in}
use Rattle.router_rules.specs.Statements as st
use Rattle.router_rules.specs.Tokens as tk
use Rattle.participant.proofs.Cases.{either}
use Rattle.participant.proofs.Tags.{tag_same}
use Rattle.world_laws.proofs.Naming.{put_all}
use Rattle.answer_laws.proofs.Lists.{has_first, has_more, both_true}
use Rattle.told_laws.proofs.Lists.{none_there, has_cases}
use Rattle.reply_laws.proofs.Lists.{found_passes}

-- What is sent of a transaction, and told of it.

-- a statement of the transaction was sent
pub record Stated (begun : List Statement) (tag : Tag) (lsid : Lsid) (number : ℤ) : Type 0 where
  pub statement : Statement
  pub among : Contains begun statement
  pub tag_is : statement.tag ≡ tag
  pub lsid_is : statement.lsid ≡ lsid
  pub number_is : statement.number ≡ number

-- a message of this shard tells this cause of the transaction
abbrev pub Causes : Tag → ℕ → Cause → Msg → Type 0
Causes tag shard why (msg.Answer a) =
    (a.tag ≡ tag) × (a.shard ≡ shard) × (a.outcome ≡ Err why)
Causes tag shard why (msg.Outcome o) =
    (o.tag ≡ tag) × (o.shard ≡ shard) × (o.told ≡ told_as.Aborted why)
Causes tag shard why other = ⊥

pub record CauseSent (sent : List Envelope) (tag : Tag) (shard : ℕ) (why : Cause) : Type 0 where
  pub envelope : Envelope
  pub among : Contains sent envelope
  pub causes : Causes tag shard why envelope.msg

-- an answer that a session keeps was sent
pub record IsGiven (sent : List Envelope) (tag : Tag) (row : ℕ × Answer) : Type 0 where
  pub envelope : Envelope
  pub among : Contains sent envelope
  pub is : envelope.msg ≡ msg.Answer row.1
  pub tag_is : row.1.tag ≡ tag
  pub shard_is : row.1.shard ≡ row.0

abbrev pub AreGiven : List Envelope → Tag → Phase → Type 0
AreGiven sent tag (Asking asker op answers) = All (IsGiven sent tag) answers
AreGiven sent tag other = Unit {0}

-- nothing was sent of it, and its commit wasn't asked for
abbrev pub NotCommitting : Phase → Type 0
NotCommitting (Checking asker) = ⊥
NotCommitting (Deciding asker) = ⊥
NotCommitting other = Unit {0}

pub record IsBare (t : Transaction) : Type 0 where
  pub parts : t.parts ≡ []
  pub wrote : t.wrote ≡ []
  pub waiting : t.waiting ≡ []
  pub phase : NotCommitting t.phase

-- the reply that it keeps tells no cause
abbrev pub IsPlain : Reply → Type 0
IsPlain (reply.Caused shard number why) = ⊥
IsPlain other = Unit {0}

abbrev pub KeepsPlain : Option Reply → Type 0
KeepsPlain None = Unit {0}
KeepsPlain (Some r) = IsPlain r

pub record TxnHas (begun : List Statement) (sent : List Envelope) (lsid : Lsid) (number : ℤ)
    (t : Transaction) : Type 0 where
  pub stated : IsBare t ⊎ Stated begun t.tag lsid number
  pub kept : KeepsPlain t.reply
  pub given : AreGiven sent t.tag t.phase

abbrev pub DoingHas : List Statement → List Envelope → Lsid → ℤ → Doing → Type 0
DoingHas begun sent lsid number (Begun t) = TxnHas begun sent lsid number t
DoingHas begun sent lsid number (Sought seeking known) = Unit {0}

abbrev pub EntryHas : List Statement → List Envelope → Lsid × Session → Type 0
EntryHas begun sent entry = DoingHas begun sent entry.0 entry.1.number entry.1.doing

-- Which transaction a session's request is of; none where a statement is asked of no shard.

abbrev pub tag_of : Doing → Option Tag
tag_of (Begun t) = Some t.tag
tag_of (Sought seeking known) = option_map (λ k. k.tag) seeking

abbrev pub IsAsking : Phase → Type 0
IsAsking (Asking asker op answers) = Unit {0}
IsAsking other = ⊥

abbrev pub AsksNone : Doing → Type 0
AsksNone (Begun t) = (t.waiting ≡ []) × IsAsking t.phase
AsksNone (Sought seeking known) = ⊥

abbrev pub TagFits : Option Tag → Doing → Type 0
TagFits tag doing = (tag ≡ tag_of doing) ⊎ AsksNone doing

abbrev pub CausedBy : List Envelope → Option Tag → Reply → Type 0
CausedBy sent tag (reply.Caused shard number why) =
    (x : Tag) × (tag ≡ Some x) × CauseSent sent x shard why
CausedBy sent tag other = Unit {0}

pub plain_caused : (sent : List Envelope) (tag : Option Tag) (r : Reply) → IsPlain r
    → CausedBy sent tag r
plain_caused sent tag (reply.Caused shard number why) h = absurd h
plain_caused sent tag other h = tt

-- Whoever waited waits; or is told; or nobody waits where this connection did.

pub record Waits (old : Doing) (d : Deed) : Type 0 where
  pub asker : asker_of d.session.doing ≡ asker_of old
  pub tag : (x : Option Tag) → TagFits x old → TagFits x d.session.doing
  pub replies : d.given.replies ≡ []

pub record Tells (sent : List Envelope) (old : Doing) (d : Deed) : Type 0 where
  pub nobody : asker_of d.session.doing ≡ None
  pub asks : AsksNone old → ⊥
  pub reply : Reply
  pub replies : d.given.replies ≡ told_if (asker_of old) reply
  pub caused : CausedBy sent (tag_of old) reply

pub record Leaves (conn : ℕ) (old : Doing) (d : Deed) : Type 0 where
  pub nobody : asker_of d.session.doing ≡ None
  pub replies : d.given.replies ≡ []
  pub from : is_from conn (asker_of old) ≡ true

pub record Ends (begun : List Statement) (sent : List Envelope) (lsid : Lsid) (conn : ℕ)
    (old : Doing) (d : Deed) : Type 0 where
  pub has : EntryHas begun sent (lsid, d.session)
  pub goes : Waits old d ⊎ Leaves conn old d

pub record Hears (begun : List Statement) (sent : List Envelope) (lsid : Lsid) (old : Doing)
    (d : Deed) : Type 0 where
  pub has : EntryHas begun sent (lsid, d.session)
  pub goes : Waits old d ⊎ Tells sent old d

-- A commit that goes on.

abbrev pub SessionIs : ℤ → Transaction → Session
SessionIs number t = record { number = number; doing = Begun t }

pub no_some : {A X : Type 0} (a : A) → None ≡ Some a → X
no_some a e = cc

pub some_is : {A : Type 0} (a b : A) → Some a ≡ Some b → a ≡ b
some_is a b e = cc

no_cons : {A X : Type 0} (a : A) (xs : List A) → [] ≡ a ∷ xs → X
no_cons a xs e = cc

-- it waits by these, or is done and told so
pub record Goes (begun : List Statement) (sent : List Envelope) (lsid : Lsid) (number : ℤ)
    (asker : Option Asker) (t : Transaction) (d : Deed) : Type 0 where
  pub v : Transaction
  pub doing : d.session.doing ≡ Begun v
  pub tag : v.tag ≡ t.tag
  pub has : EntryHas begun sent (lsid, d.session)
  pub goes : ((asker_of d.session.doing ≡ asker) × (d.given.replies ≡ [])
      × Stated begun t.tag lsid number)
      ⊎ ((asker_of d.session.doing ≡ None) × ((r : Reply) × (d.given.replies ≡ told_if asker r)
      × IsPlain r))

module _ (begun : List Statement) (sent : List Envelope) (lsid : Lsid) (number : ℤ) where
  commit_plain : (t : Transaction) → KeepsPlain t.reply → IsPlain (co.commit_reply lsid t)
  commit_plain t h = either (is_own lsid) IsPlain _ _ (by t.reply h) tt
    where
      by : (r : Option Reply) → KeepsPlain r → IsPlain (unwrap_or r (reply.Ended None))
      by None h = tt
      by (Some r) h = h

  pub ended_stated : (t : Transaction) (p : Phase) → NotCommitting p
      → IsBare t ⊎ Stated begun t.tag lsid number
      → IsBare (en.ended p t) ⊎ Stated begun t.tag lsid number
  ended_stated t p not (inl bare) =
      inl (record { parts = bare.parts; wrote = bare.wrote; waiting = refl; phase = not })
  ended_stated t p not (inr h) = inr h

  pub finished_goes : (asker : Option Asker) (p : Phase) (t : Transaction) → asker_in p ≡ None
      → NotCommitting p → AreGiven sent t.tag p → TxnHas begun sent lsid number t
      → Goes begun sent lsid number asker t (co.finished lsid number asker p t)
  finished_goes asker p t none not given h = record {
    v = en.ended p t;
    doing = refl;
    tag = refl;
    has = record { stated = ended_stated t p not h.stated; kept = h.kept; given = given };
    goes = inr (none, (co.commit_reply lsid t, refl, commit_plain t h.kept));
  }

  -- it waits for what it asks of those that take part
  waits_goes : (asker : Option Asker) (p : Phase) (posts : List Post) (t : Transaction)
      → asker_in p ≡ asker → AreGiven sent t.tag p → Stated begun t.tag lsid number
      → KeepsPlain t.reply → Goes begun sent lsid number asker t (co.waits number p posts t)
  waits_goes asker p posts t same given stated kept = record {
    v = record t { phase = p; waiting = posts };
    doing = refl;
    tag = refl;
    has = record { stated = inr stated; kept = kept; given = given };
    goes = inl (same, refl, stated);
  }

  -- who has written or read took part
  stated_by : (t : Transaction) (parts : List (ℕ × ℕ)) (first : ℕ × ℕ) (more : List (ℕ × ℕ))
      → parts ≡ first ∷ more → (IsBare t → parts ≡ [])
      → IsBare t ⊎ Stated begun t.tag lsid number → Stated begun t.tag lsid number
  stated_by t parts first more is none (inl bare) = no_cons first more (sym (none bare) ∙ is)
  stated_by t parts first more is none (inr h) = h

  no_writers : (t : Transaction) → IsBare t → writers t ≡ []
  no_writers t bare =
      ap (λ (l : List ℕ). map (λ (shard : ℕ). (shard, boot_of t.parts shard)) l) bare.wrote

  no_readers : (t : Transaction) → IsBare t → readers t ≡ []
  no_readers t bare =
      ap (λ (l : List (ℕ × ℕ)). filter (λ (part : ℕ × ℕ). not (has_written t part.0)) l) bare.parts

  decides_case : (asker : Option Asker) (t : Transaction) (parts : List (ℕ × ℕ))
      → writers t ≡ parts → TxnHas begun sent lsid number t
      → Goes begun sent lsid number asker t (co.decides_by lsid number asker t parts)
  decides_case asker t [] is h = finished_goes asker Released t refl tt tt h
  decides_case asker t (first ∷ []) is h =
      waits_goes asker (Deciding asker) _ t refl tt
      (stated_by t (writers t) first [] is (no_writers t) h.stated) h.kept
  decides_case asker t (first ∷ second ∷ more) is h =
      waits_goes asker (Deciding asker) _ t refl tt
      (stated_by t (writers t) first (second ∷ more) is (no_writers t) h.stated) h.kept

  pub decides_goes : (asker : Option Asker) (t : Transaction) → TxnHas begun sent lsid number t
      → Goes begun sent lsid number asker t (co.decides lsid number asker t)
  decides_goes asker t h = decides_case asker t (writers t) refl h

  commits_case : (asker : Option Asker) (t : Transaction) (parts : List (ℕ × ℕ))
      → readers t ≡ parts → TxnHas begun sent lsid number t
      → Goes begun sent lsid number asker t (co.commits_by lsid number asker t parts)
  commits_case asker t [] is h = decides_goes asker t h
  commits_case asker t (first ∷ more) is h =
      waits_goes asker (Checking asker) _ t refl tt
      (stated_by t (readers t) first more is (no_readers t) h.stated) h.kept

  pub commits_goes : (asker : Option Asker) (t : Transaction) → TxnHas begun sent lsid number t
      → Goes begun sent lsid number asker t (co.commits lsid number asker t)
  commits_goes asker t h = commits_case asker t (readers t) refl h

  -- as a message hears it
  goes_heard : (asker : Option Asker) (t : Transaction) (old : Doing) (d : Deed)
      → asker_of old ≡ asker → tag_of old ≡ Some t.tag → (AsksNone old → ⊥)
      → Goes begun sent lsid number asker t d → Hears begun sent lsid old d
  goes_heard asker t old d from tag some g = record {
    has = g.has;
    goes = elim g.goes [
      | inl w ↦ inl (record {
        asker = w.0 ∙ sym from;
        tag = λ x fits. elim fits [
          | inl is ↦ inl (is ∙ tag ∙ ap (λ (y : Tag). Some y) (sym g.tag)
              ∙ ap tag_of (sym g.doing))
          | inr none ↦ absurd (some none)
        ];
        replies = w.1;
      })
      | inr e ↦ inr (record {
        nobody = e.0;
        asks = some;
        reply = e.1.0;
        replies = e.1.1 ∙ ap (λ (o : Option Asker). told_if o e.1.0) (sym from);
        caused = plain_caused sent (tag_of old) e.1.0 e.1.2;
      })
    ];
  }

-- Answers.

-- the refusal that is told is one of these
found_in : {A : Type 0} (p : A → Bool) (xs : List A) (x : A) → find p xs ≡ Some x → Contains xs x
found_in p xs x e = (found_passes p xs x e).0

skips : {A B : Type 0} (f : A → Option B) (x : A) (xs : List A) → f x ≡ None
    → filter_map f (x ∷ xs) ≡ filter_map f xs
skips f x xs is = rw is refl

keeps : {A B : Type 0} (f : A → Option B) (x : A) (xs : List A) (z : B) → f x ≡ Some z
    → filter_map f (x ∷ xs) ≡ z ∷ filter_map f xs
keeps f x xs z is = rw is refl

pub record MappedFrom {A B : Type 0} (f : A → Option B) (xs : List A) (y : B) : Type 0 where
  pub x : A
  pub among : Contains xs x
  pub is : f x ≡ Some y

mapped_more : {A B : Type 0} (f : A → Option B) (x : A) (xs : List A) (y : B) → MappedFrom f xs y
    → MappedFrom f (x ∷ xs) y
mapped_more f x xs y h = record { x = h.x; among = has_more x xs h.x h.among; is = h.is }

pub mapped_in : {A B : Type 0} (f : A → Option B) (xs : List A) (y : B)
    → Contains (filter_map f xs) y → MappedFrom f xs y
mapped_in f [] y h = none_there y h
mapped_in f (x ∷ xs) y h = by (f x) refl h (mapped_in f xs y)
  where
    by : (o : Option _) → f x ≡ o → Contains (filter_map f (x ∷ xs)) y
        → (Contains (filter_map f xs) y → MappedFrom f xs y) → MappedFrom f (x ∷ xs) y
    by None is h more = mapped_more f x xs y
        (more (subst (λ (l : List _). Contains l y) (skips f x xs is) h))
    by (Some z) is h more =
        elim (has_cases z (filter_map f xs) y
        (subst (λ (l : List _). Contains l y) (keeps f x xs z is) h)) [
          | inl same ↦ record {
            x = x;
            among = has_first x xs;
            is = is ∙ ap (λ (w : _). Some w) (sym same);
          }
          | inr there ↦ mapped_more f x xs y (more there)
        ]

least_in : (errs : List (ℕ × OpErr)) (x : ℕ × OpErr) → st.least_err errs ≡ Some x
    → Contains errs x
least_in [] x e = no_some x e
least_in (err ∷ errs) x e = by (λ f is. least_in errs f is) (st.least_err errs) refl e
  where
    by : ((f : ℕ × OpErr) → st.least_err errs ≡ Some f → Contains errs f)
        → (o : Option (ℕ × OpErr)) → st.least_err errs ≡ o → Some (st.lesser_err err o) ≡ Some x
        → Contains (err ∷ errs) x
    by more None is e = subst (Contains (err ∷ errs)) (some_is err x e) (has_first err errs)
    by more (Some f) is e = choose (is_lt (err_cmp f.1 err.1)) e
      where
        choose : (b : Bool) → Some (if b then f else err) ≡ Some x → Contains (err ∷ errs) x
        choose true e = has_more err errs x
            (subst (Contains errs) (some_is f x e) (more f is))
        choose false e = subst (Contains (err ∷ errs)) (some_is err x e) (has_first err errs)

-- an own refusal is one of the refusals
err_is : (refusal : ℕ × Cause) (why : Cause) (e : ℕ × OpErr) → refusal.1 ≡ why
    → st.err_by refusal.0 why ≡ Some e → refusal ≡ (e.0, cause.Statement e.1)
err_is refusal (cause.Statement err) e is found =
    ap (λ (w : Cause). (refusal.0, w)) is
    ∙ ap (λ (x : ℕ × OpErr). (x.0, cause.Statement x.1)) (some_is (refusal.0, err) e found)
err_is refusal other e is found = no_some e found

winning_in : (refusals : List (ℕ × Cause)) (x : ℕ × Cause) → st.winning refusals ≡ Some x
    → Contains refusals x
winning_in refusals x e = by (find not_err refusals) refl e
  where
    not_err : ℕ × Cause → Bool
    not_err = λ refusal. not (st.is_err refusal)

    own : (o : Option (ℕ × OpErr)) → st.least_err (filter_map st.err_in refusals) ≡ o
        → option_map (λ (e : ℕ × OpErr). (e.0, cause.Statement e.1)) o ≡ Some x
        → Contains refusals x
    own None is e = no_some x e
    own (Some err) is e =
        let from = mapped_in st.err_in refusals err
        (least_in (filter_map st.err_in refusals) err is) in
        let same : from.x ≡ (err.0, cause.Statement err.1) =
        err_is from.x from.x.1 err refl from.is in
        subst (Contains refusals) (same ∙ some_is (err.0, cause.Statement err.1) x e) from.among

    by : (o : Option (ℕ × Cause)) → find not_err refusals ≡ o
        → option_or o (option_map (λ (e : ℕ × OpErr). (e.0, cause.Statement e.1))
        (st.least_err (filter_map st.err_in refusals))) ≡ Some x → Contains refusals x
    by (Some y) is e =
        subst (Contains refusals) (some_is y x e) (found_passes not_err refusals y is).0
    by None is e = own (st.least_err (filter_map st.err_in refusals)) refl e

-- a refusal among given answers was sent
refusal_row : (row : ℕ × Answer) (r : Result (OpReply × Bool) Cause) (x : ℕ × Cause)
    → row.1.outcome ≡ r → st.cause_in row ≡ Some x → (row.0 ≡ x.0) × (row.1.outcome ≡ Err x.1)
refusal_row row (Ok done) x is e = let no : None ≡ Some x = sym (ok_none is) ∙ e in no_some x no
  where
    ok_none : row.1.outcome ≡ Ok done → st.cause_in row ≡ None
    ok_none is = rw is refl
refusal_row row (Err why) x is e =
    let same : (row.0, why) ≡ x = some_is (row.0, why) x (sym (err_some is) ∙ e) in
    (ap (λ (y : ℕ × Cause). y.0) same, is ∙ ap (λ (y : ℕ × Cause). Err y.1) same)
  where
    err_some : row.1.outcome ≡ Err why → st.cause_in row ≡ Some (row.0, why)
    err_some is = rw is refl

refusal_sent : (sent : List Envelope) (tag : Tag) (answers : List (ℕ × Answer)) (x : ℕ × Cause)
    → All (IsGiven sent tag) answers → st.winning (filter_map st.cause_in answers) ≡ Some x
    → CauseSent sent tag x.0 x.1
refusal_sent sent tag answers x given wins =
    let from = mapped_in st.cause_in answers x (winning_in (filter_map st.cause_in answers) x wins)
    in
    let row = from.x in
    let g = All-contains (IsGiven sent tag) answers row given from.among in
    let r = refusal_row row row.1.outcome x refl from.is in
    record {
      envelope = g.envelope;
      among = g.among;
      causes = subst (Causes tag x.0 x.1) (sym g.is) (g.tag_is, g.shard_is ∙ r.0, r.1);
    }

-- A session hears an Answer.

rows_plain : (op : Op) (docs : List Document) (cut : Option Id) (t : Option Token)
    → IsPlain (st.reply_of op (Rows docs cut) t)
rows_plain (operation.Update ns items) docs None t = tt
rows_plain (operation.Update ns items) docs (Some id) t = tt
rows_plain (operation.Insert ns items) docs None t = tt
rows_plain (operation.Insert ns items) docs (Some id) t = tt
rows_plain (operation.Find ns wanted down limit) docs None t = tt
rows_plain (operation.Find ns wanted down limit) docs (Some id) t = tt
rows_plain (operation.Delete ns items) docs None t = tt
rows_plain (operation.Delete ns items) docs (Some id) t = tt

reply_plain : (op : Op) (r : OpReply) (t : Option Token) → IsPlain (st.reply_of op r t)
reply_plain (operation.Update ns items) (Count n modified) t = tt
reply_plain (operation.Insert ns items) (Count n modified) t = tt
reply_plain (operation.Find ns wanted down limit) (Count n modified) t = tt
reply_plain (operation.Delete ns items) (Count n modified) t = tt
reply_plain op (Rows docs cut) t = rows_plain op docs cut t

module _ (begun : List Statement) (sent : List Envelope) (lsid : Lsid) (number : ℤ) where
  stays_heard : (doing : Doing) → DoingHas begun sent lsid number doing
      → Hears begun sent lsid doing (record {
        session = record { number = number; doing = doing };
        given = record { aborts = []; sends = []; replies = [] };
      })
  stays_heard doing h = record {
    has = h;
    goes = inl (record { asker = refl; tag = λ x fits. fits; replies = refl });
  }

  no_from : {X : Type 0} (conn : ℕ) → is_from conn None ≡ true → X
  no_from conn e = let wrong : false ≡ true = e in cc

  pub not_bare : (t : Transaction) (p : Phase) → (NotCommitting p → ⊥)
      → IsBare (record t { phase = p }) ⊎ Stated begun t.tag lsid number
      → Stated begun t.tag lsid number
  not_bare t p not (inl bare) = absurd (not bare.phase)
  not_bare t p not (inr h) = h

  asking_stated : (t : Transaction) (p : Phase) → NotCommitting Idle
      → IsBare (record t { phase = p }) ⊎ Stated begun t.tag lsid number
      → IsBare (record t { phase = Idle }) ⊎ Stated begun t.tag lsid number
  asking_stated t p idle (inl bare) = inl (record {
    parts = bare.parts;
    wrote = bare.wrote;
    waiting = bare.waiting;
    phase = tt;
  })
  asking_stated t p idle (inr h) = inr h

  -- a waited shard isn't waited for by none
  waited_some : {X : Type 0} (shard : ℕ) (posts : List Post) → is_waited shard posts ≡ true
      → posts ≡ [] → X
  waited_some shard posts e none =
      let wrong : false ≡ true = ap (is_waited shard) (sym none) ∙ e in cc

  -- a transaction of which something is waited for was stated
  stated_so : (t : Transaction) (shard : ℕ) → is_waited shard t.waiting ≡ true
      → IsBare t ⊎ Stated begun t.tag lsid number → Stated begun t.tag lsid number
  stated_so t shard e (inl bare) = waited_some shard t.waiting e bare.waiting
  stated_so t shard e (inr h) = h

  module _ (a : Answer) (envelope : Envelope) (among : Contains sent envelope)
      (is : envelope.msg ≡ msg.Answer a) where
    module _ (t : Transaction) (asker : Asker) (op : Op) (answers : List (ℕ × Answer))
        (tag : a.tag ≡ t.tag) (waits : is_waited a.shard t.waiting ≡ true)
        (stated : Stated begun t.tag lsid number) (kept : KeepsPlain t.reply)
        (given : All (IsGiven sent t.tag) answers) where
      abbrev old : Doing
      old = Begun (record t { phase = Asking asker op answers })

      abbrev rows : List (ℕ × Answer)
      rows = put nat_cmp a.shard a answers

      rows_given : All (IsGiven sent t.tag) rows
      rows_given = put_all nat_cmp (IsGiven sent t.tag) a.shard a answers (record {
        envelope = envelope;
        among = among;
        is = is;
        tag_is = tag;
        shard_is = refl;
      }) given

      asks_some : AsksNone old → ⊥
      asks_some h = waited_some a.shard t.waiting waits h.0

      abbrev taken : Transaction
      taken = st.with_answer asker op answers a (record t { phase = Asking asker op answers })

      replies_heard : (r : OpReply) (test : Bool) → (is_own lsid && not (st.is_cut r)) ≡ test
          → Hears begun sent lsid old
          (st.replies lsid number asker op (st.answered_by rows taken) r)
      replies_heard r true e =
          rw e (goes_heard begun sent lsid number (Some asker) (record (st.answered_by rows taken)
          { reply = Some (st.reply_of op r None) }) old _ refl refl asks_some
          (commits_goes begun sent lsid number (Some asker) (record (st.answered_by rows taken)
          { reply = Some (st.reply_of op r None) })
          (record { stated = inr stated; kept = reply_plain op r None; given = tt })))
      replies_heard r false e =
          let token = Some (token_of (st.answered_by rows taken)) in
          rw e (record {
            has = record { stated = inr stated; kept = kept; given = tt };
            goes = inr (record {
              nobody = refl;
              asks = asks_some;
              reply = st.reply_of op r token;
              replies = refl;
              caused = plain_caused sent (Some t.tag) (st.reply_of op r token)
                  (reply_plain op r token);
            });
          })

      concludes_heard : (o : Option (ℕ × Cause))
          → st.winning (filter_map st.cause_in rows) ≡ o
          → Hears begun sent lsid old (st.concludes_by lsid number asker op rows taken o)
      concludes_heard None wins =
          replies_heard (merge op (filter_map st.reply_in rows)) _ refl
      concludes_heard (Some refusal) wins = record {
        has = record { stated = inr stated; kept = kept; given = tt };
        goes = inr (record {
          nobody = refl;
          asks = asks_some;
          reply = reply.Caused refusal.0 number refusal.1;
          replies = refl;
          caused = (t.tag, refl, refusal_sent sent t.tag rows refusal rows_given wins);
        });
      }

      taken_heard : (posts : List Post) → without a.shard t.waiting ≡ posts
          → Hears begun sent lsid old (st.taken_by lsid number asker op rows taken posts)
      taken_heard [] e = concludes_heard (st.winning (filter_map st.cause_in rows)) refl
      taken_heard (post ∷ posts) e = record {
        has = record { stated = inr stated; kept = kept; given = rows_given };
        goes = inl (record {
          asker = refl;
          tag = λ x fits. elim fits [ inl same ↦ inl same | inr none ↦ absurd (asks_some none) ];
          replies = refl;
        });
      }

    answer_phase : (t : Transaction) (p : Phase) → a.tag ≡ t.tag
        → is_waited a.shard t.waiting ≡ true
        → TxnHas begun sent lsid number (record t { phase = p })
        → Hears begun sent lsid (Begun (record t { phase = p }))
        (st.answer_to lsid number a (record t { phase = p }))
    answer_phase t (Asking asker op answers) tag waits h =
        taken_heard t asker op answers tag waits
        (stated_so (record t { phase = Asking asker op answers }) a.shard waits h.stated) h.kept
        h.given (without a.shard t.waiting) refl
    answer_phase t Idle tag waits h = stays_heard (Begun (record t { phase = Idle })) h
    answer_phase t (Checking asker) tag waits h =
        stays_heard (Begun (record t { phase = Checking asker })) h
    answer_phase t (Deciding asker) tag waits h =
        stays_heard (Begun (record t { phase = Deciding asker })) h
    answer_phase t Committed tag waits h = stays_heard (Begun (record t { phase = Committed })) h
    answer_phase t Released tag waits h = stays_heard (Begun (record t { phase = Released })) h
    answer_phase t (Aborted so) tag waits h =
        stays_heard (Begun (record t { phase = Aborted so })) h

    answer_case : (t : Transaction) (test : Bool)
        → (same_tag t.tag a.tag && nat_eq a.k t.k && is_waited a.shard t.waiting) ≡ test
        → TxnHas begun sent lsid number t
        → Hears begun sent lsid (Begun t)
        (if test then st.answer_to lsid number a t else in_session number t nothing)
    answer_case t true e h =
        let b =
        both_true (same_tag t.tag a.tag && nat_eq a.k t.k) (is_waited a.shard t.waiting) e in
        let c = both_true (same_tag t.tag a.tag) (nat_eq a.k t.k) b.0 in
        answer_phase t t.phase (sym (tag_same t.tag a.tag c.0)) b.1 h
    answer_case t false e h = stays_heard (Begun t) h

    pub answer_heard : (doing : Doing) → DoingHas begun sent lsid number doing
        → Hears begun sent lsid doing (answered_in a lsid (record {
          number = number;
          doing = doing;
        }))
    answer_heard (Begun t) h = answer_case t _ refl h
    answer_heard (Sought seeking known) h = stays_heard (Sought seeking known) h

  -- A session hears an Outcome.

  module _ (o : Outcome) (envelope : Envelope) (among : Contains sent envelope)
      (is : envelope.msg ≡ msg.Outcome o) where
    outcome_sent : (tag : Tag) (why : Cause) → o.tag ≡ tag → o.told ≡ told_as.Aborted why
        → CauseSent sent tag o.shard why
    outcome_sent tag why same e = record {
      envelope = envelope;
      among = among;
      causes = subst (Causes tag o.shard why) (sym is) (same, refl, e);
    }

    -- what is told of it
    outcome_caused : (tag : Tag) (done : Reply) (t : Told) → o.tag ≡ tag → o.told ≡ t
        → IsPlain done → CausedBy sent (Some tag) (co.outcome_reply o.shard number done t)
    outcome_caused tag done (told_as.Committed at) same e plain =
        plain_caused sent (Some tag) done plain
    outcome_caused tag done told_as.Released same e plain =
        plain_caused sent (Some tag) done plain
    outcome_caused tag done (told_as.Aborted why) same e plain =
        (tag, refl, outcome_sent tag why same e)
    outcome_caused tag done (told_as.TooOld have) same e plain = tt
    outcome_caused tag done told_as.NoTrace same e plain = tt

    module _ (t : Transaction) (asker : Option Asker) (tag : o.tag ≡ t.tag)
        (stated : Stated begun t.tag lsid number) (kept : KeepsPlain t.reply) where
      abbrev check : Transaction
      check = record t { phase = Checking asker }

      abbrev decide : Transaction
      decide = record t { phase = Deciding asker }

      ended_has : (p : Phase) → AreGiven sent t.tag p
          → TxnHas begun sent lsid number (en.ended p t)
      ended_has p given = record { stated = inr stated; kept = kept; given = given }

      released_heard : (posts : List Post)
          → Hears begun sent lsid (Begun check) (co.released lsid number asker check posts)
      released_heard [] =
          goes_heard begun sent lsid number asker check (Begun check) _ refl refl (λ h. h.1)
          (decides_goes begun sent lsid number asker check
          (record { stated = inr stated; kept = kept; given = tt }))
      released_heard (post ∷ posts) = record {
        has = record { stated = inr stated; kept = kept; given = tt };
        goes = inl (record {
          asker = refl;
          tag = λ x fits. elim fits [ inl same ↦ inl same | inr none ↦ absurd none.1 ];
          replies = refl;
        });
      }

      done_heard : (v : Transaction) → v.tag ≡ t.tag → v.reply ≡ t.reply → asker_in v.phase ≡ asker
          → (AsksNone (Begun v) → ⊥)
          → Hears begun sent lsid (Begun v) (co.finished lsid number asker Committed v)
      done_heard v same reply_is from some = record {
        has = record {
          stated = inr (subst (λ (x : Tag). Stated begun x lsid number) (sym same) stated);
          kept = subst KeepsPlain (sym reply_is) kept;
          given = tt;
        };
        goes = inr (record {
          nobody = refl;
          asks = some;
          reply = co.commit_reply lsid v;
          replies = ap (λ (o : Option Asker). told_if o (co.commit_reply lsid v)) (sym from);
          caused = plain_caused sent (Some v.tag) (co.commit_reply lsid v)
              (commit_plain begun sent lsid number v (subst KeepsPlain (sym reply_is) kept));
        });
      }

      fails_heard : (x : Told) → o.told ≡ x
          → Hears begun sent lsid (Begun check)
          (co.fails lsid number asker (record o { told = x }) check)
      fails_heard x e = record {
        has = ended_has (Aborted true) tt;
        goes = inr (record {
          nobody = refl;
          asks = λ h. h.1;
          reply = co.outcome_reply o.shard number (co.commit_reply lsid t) x;
          replies = refl;
          caused = outcome_caused t.tag (co.commit_reply lsid t) x tag e
              (commit_plain begun sent lsid number t kept);
        });
      }

      checked_heard : (x : Told) → o.told ≡ x
          → Hears begun sent lsid (Begun check)
          (co.checked lsid number asker (record o { told = x }) check)
      checked_heard told_as.Released e = released_heard (without o.shard t.waiting)
      checked_heard (told_as.Committed at) e = done_heard check refl refl refl (λ h. h.1)
      checked_heard (told_as.Aborted cause) e = fails_heard (told_as.Aborted cause) e
      checked_heard (told_as.TooOld have) e = fails_heard (told_as.TooOld have) e
      checked_heard told_as.NoTrace e = fails_heard told_as.NoTrace e

      tells_heard : (r : Reply) (p : Phase) → asker_in p ≡ None → AreGiven sent t.tag p
          → CausedBy sent (Some t.tag) r
          → Hears begun sent lsid (Begun decide) (record {
            session = SessionIs number (en.ended p decide);
            given = record { aborts = []; sends = []; replies = told_if asker r };
          })
      tells_heard r p none given caused = record {
        has = record { stated = inr stated; kept = kept; given = given };
        goes = inr (record {
          nobody = none;
          asks = λ h. h.1;
          reply = r;
          replies = refl;
          caused = caused;
        });
      }

      decided_heard : (x : Told) → o.told ≡ x
          → Hears begun sent lsid (Begun decide)
          (co.decided lsid number asker (record o { told = x }) decide)
      decided_heard (told_as.Committed at) e = done_heard decide refl refl refl (λ h. h.1)
      decided_heard told_as.Released e = done_heard decide refl refl refl (λ h. h.1)
      decided_heard (told_as.Aborted why) e =
          tells_heard (reply.Caused o.shard number why) (Aborted true) refl tt
          (t.tag, refl, outcome_sent t.tag why tag e)
      decided_heard (told_as.TooOld have) e =
          tells_heard (reply.TooOld number have) (Deciding None) refl tt tt
      decided_heard told_as.NoTrace e =
          tells_heard (reply.Refused refusal.NoDecision) (Deciding None) refl tt tt

    counted_heard : (t : Transaction) (p : Phase) → o.tag ≡ t.tag
        → is_waited o.shard t.waiting ≡ true
        → TxnHas begun sent lsid number (record t { phase = p })
        → Hears begun sent lsid (Begun (record t { phase = p }))
        (co.counted lsid number o (record t { phase = p }))
    counted_heard t (Checking asker) tag waits h =
        checked_heard t asker tag
        (stated_so (record t { phase = Checking asker }) o.shard waits h.stated) h.kept o.told refl
    counted_heard t (Deciding asker) tag waits h =
        decided_heard t asker tag
        (stated_so (record t { phase = Deciding asker }) o.shard waits h.stated) h.kept o.told refl
    counted_heard t Idle tag waits h = stays_heard (Begun (record t { phase = Idle })) h
    counted_heard t (Asking asker op answers) tag waits h =
        stays_heard (Begun (record t { phase = Asking asker op answers })) h
    counted_heard t Committed tag waits h = stays_heard (Begun (record t { phase = Committed })) h
    counted_heard t Released tag waits h = stays_heard (Begun (record t { phase = Released })) h
    counted_heard t (Aborted so) tag waits h =
        stays_heard (Begun (record t { phase = Aborted so })) h

    outcome_case : (t : Transaction) (test : Bool)
        → (same_tag t.tag o.tag && is_waited o.shard t.waiting) ≡ test
        → TxnHas begun sent lsid number t
        → Hears begun sent lsid (Begun t)
        (if test then co.counted lsid number o t else in_session number t nothing)
    outcome_case t true e h =
        let b = both_true (same_tag t.tag o.tag) (is_waited o.shard t.waiting) e in
        counted_heard t t.phase (sym (tag_same t.tag o.tag b.0)) b.1 h
    outcome_case t false e h = stays_heard (Begun t) h

    recovered_case : (k : Seeking) (known : List Tag) (test : Bool)
        → (same_tag k.tag o.tag && nat_eq k.shard o.shard) ≡ test
        → Hears begun sent lsid (Sought (Some k) known)
        (if test then tk.recovered number k known o else tk.sought number (Some k) known nothing)
    recovered_case k known true e =
        let b = both_true (same_tag k.tag o.tag) (nat_eq k.shard o.shard) e in
        record {
          has = tt;
          goes = inr (record {
            nobody = refl;
            asks = λ h. h;
            reply = co.outcome_reply o.shard number (tk.token_reply k) o.told;
            replies = refl;
            caused = outcome_caused k.tag (tk.token_reply k) o.told
                (sym (tag_same k.tag o.tag b.0)) refl tt;
          });
        }
    recovered_case k known false e = stays_heard (Sought (Some k) known) tt

    pub outcome_heard : (doing : Doing) → DoingHas begun sent lsid number doing
        → Hears begun sent lsid doing (ended_in o lsid (record {
          number = number;
          doing = doing;
        }))
    outcome_heard (Begun t) h = outcome_case t _ refl h
    outcome_heard (Sought None known) h = stays_heard (Sought None known) tt
    outcome_heard (Sought (Some k) known) h = recovered_case k known _ refl

  -- The end of a connection.

  gone_phase : (conn : ℕ) (t : Transaction) (p : Phase) → is_from conn (asker_in p) ≡ true
      → TxnHas begun sent lsid number (record t { phase = p })
      → Ends begun sent lsid conn (Begun (record t { phase = p }))
      (en.gone_asking conn lsid (SessionIs number (record t { phase = p }))
      (record t { phase = p }))
  gone_phase conn t (Asking asker op answers) from h = record {
    has = record {
      stated = ended_stated begun sent lsid number (record t { phase = Idle }) (Aborted false) tt
          (asking_stated t (Asking asker op answers) tt h.stated);
      kept = h.kept;
      given = tt;
    };
    goes = inr (record { nobody = refl; replies = refl; from = from });
  }
  gone_phase conn t (Checking asker) from h = record {
    has = record {
      stated = inr (not_bare t (Checking asker) (λ w. w) h.stated);
      kept = h.kept;
      given = tt;
    };
    goes = inr (record { nobody = refl; replies = refl; from = from });
  }
  gone_phase conn t (Deciding asker) from h = record {
    has = record {
      stated = inr (not_bare t (Deciding asker) (λ w. w) h.stated);
      kept = h.kept;
      given = tt;
    };
    goes = inr (record { nobody = refl; replies = refl; from = from });
  }
  gone_phase conn t Idle from h = no_from conn from
  gone_phase conn t Committed from h = no_from conn from
  gone_phase conn t Released from h = no_from conn from
  gone_phase conn t (Aborted so) from h = no_from conn from

  gone_doing : (conn : ℕ) (doing : Doing) → is_from conn (asker_of doing) ≡ true
      → DoingHas begun sent lsid number doing
      → Ends begun sent lsid conn doing (en.gone_in conn lsid (record {
        number = number;
        doing = doing;
      }))
  gone_doing conn (Begun t) from h = gone_phase conn t t.phase from h
  gone_doing conn (Sought None known) from h = no_from conn from
  gone_doing conn (Sought (Some k) known) from h = record {
    has = tt;
    goes = inr (record { nobody = refl; replies = refl; from = from });
  }

  gone_case : (conn : ℕ) (doing : Doing) (test : Bool) → is_from conn (asker_of doing) ≡ test
      → DoingHas begun sent lsid number doing
      → Ends begun sent lsid conn doing
      (if test then en.gone_in conn lsid (record { number = number; doing = doing })
      else stays (record { number = number; doing = doing }))
  gone_case conn doing true from h = gone_doing conn doing from h
  gone_case conn doing false from h = record {
    has = h;
    goes = inl (record { asker = refl; tag = λ x fits. fits; replies = refl });
  }

  pub gone_heard : (conn : ℕ) (doing : Doing) → DoingHas begun sent lsid number doing
      → Ends begun sent lsid conn doing (en.gone_from conn lsid (record {
        number = number;
        doing = doing;
      }))
  gone_heard conn doing h = gone_case conn doing _ refl h
