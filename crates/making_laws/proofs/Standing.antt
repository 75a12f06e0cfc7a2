-- Behind each step of a run, each cause that a shard told has its making, and so has each session
-- that is aborted at a running shard.
use Rattle.std.proofs.Common.{◌≡◌, ◌⊎◌, inl, inr, ◌∙◌, ◌<◌, ℕ, zero, suc, ℤ, Bool, true, false}
use Rattle.std.proofs.Common.{All, Contains, List, [], ◌∷◌, ◌++◌, Option, Some, None, slice_get}
use Rattle.std.proofs.Common.{Result, Ok, Err, refl, sym, ap, subst, arith}
use Rattle.std.proofs.lemmas.List.Elements.{All-nil, All-append, All-weaker, All-contains}
use Rattle.std.proofs.lemmas.List.Elements.{All-contains_itself}
use Rattle.txn_types.specs.Letters.{given_out}
use Rattle.txn_types.specs.declared.cause.Cause.{Cause}
use Rattle.txn_types.specs.declared.decision.Decision.{Decision}
use Rattle.txn_types.specs.declared.decision.Decision.TheVariants as decision
use Rattle.txn_types.specs.declared.decision.Told.{Told}
use Rattle.txn_types.specs.declared.decision.Told.TheVariants as told
use Rattle.txn_types.specs.declared.event.Happening.{Happening}
use Rattle.txn_types.specs.declared.event.Happening.TheVariants as what
use Rattle.txn_types.specs.declared.event.NodeAnswer.{NodeAnswer}
use Rattle.txn_types.specs.declared.event.NodeEvent.{NodeEvent}
use Rattle.txn_types.specs.declared.message.Envelope.{Envelope}
use Rattle.txn_types.specs.declared.message.Msg.{Msg}
use Rattle.txn_types.specs.declared.message.Msg.TheVariants as msg
use Rattle.txn_types.specs.declared.names.Tag.{Tag}
use Rattle.txn_types.specs.declared.node.Lsid.{Lsid}
use Rattle.txn_types.specs.declared.node.NodeId.TheVariants.{Shard, Router}
use Rattle.session_table.specs.Sessions.{state_behind}
use Rattle.session_table.specs.declared.session.Session.{Session}
use Rattle.session_table.specs.declared.session.SessionState.{SessionState}
use Rattle.session_table.specs.declared.session.SessionState.TheVariants as state
use Rattle.journal_rec.specs.declared.record.Rec.{Rec}
use Rattle.journal_rec.specs.declared.record.Rec.TheVariants as rec
use Rattle.participant.specs.Part.{Part, session}
use Rattle.shard_image.specs.Image as image
use Rattle.shard_image.specs.Image.{Image, empty_image, image_of}
use Rattle.shard_core.specs.State.{ShardState}
use Rattle.shard_core.specs.Core.{CoreStep, core_step}
use Rattle.shard_core.specs.NodeStep.{NodeState, Appended, Failed, started, node_of}
use Rattle.shard_core.specs.NodeStep.{boot_behind}
use Rattle.txn_model.specs.declared.ran.Ran.{Ran}
use Rattle.txn_model.specs.declared.ran.Ran.TheVariants.{Step, Swapped}
use Rattle.cluster_core.specs.Nodes.{Nodes}
use Rattle.cluster_core.specs.Parts.{IsRunning}
use Rattle.cluster_core.specs.Trace.{Happens, ShardSteps, IsTrace, IsFresh, At}
use Rattle.cluster_core.specs.Causes.{Past, Making, IsMade, Tells, TellsCause, EndsWith}
use Rattle.cluster_core.specs.Causes.{NamesAt, HasSession, HasPlan}
use Rattle.world_laws.specs.Clocks.{EachShard}
use Rattle.world_laws.specs.Joint.{Stands, DisksStand}
use Rattle.world_laws.specs.ReadTimes.{IsAsked}
use Rattle.world_laws.proofs.Clocks.{each_set, each_same, started_is}
use Rattle.world_laws.proofs.Joint.{stands_step, stands_fresh}
use Rattle.world_laws.proofs.Lists.{set_at}
use Rattle.known_laws.proofs.Sessions.{entries_put, entry_named}
use Rattle.world_laws.proofs.RouterSteps.{routers_sent}
use Rattle.making_laws.specs.News.{IsNew, is_free}
use Rattle.making_laws.proofs.Leaving.{is_kept, Origin, LivesStand}
use Rattle.making_laws.proofs.Turns.{ToldAs, Repeats, AllKept}
use Rattle.making_laws.proofs.Steps.{IfRefused, IfAborted, MsgTold, EnvTold, SubjectAt}
use Rattle.making_laws.proofs.Steps.{FreshAt, TellsGiven, Answers, StepTold, step_told, step_fresh}
use Rattle.making_laws.proofs.Steps.{step_stopped}

-- The places of a run.

-- the step at a place, with the nodes before and behind it
pub record StepAt (run : List Ran) (trace : List Nodes) (now : Nodes) (place : ℕ)
    (next : Nodes) : Type 0 where
  pub nodes : Nodes
  pub ran : Ran
  pub before : slice_get trace place ≡ Some nodes
  pub there : slice_get (trace ++ now ∷ []) place ≡ Some nodes
  pub step : slice_get run place ≡ Some ran
  pub happens : Happens nodes ran next

some_is : {A : Type 0} (a b : A) → Some a ≡ Some b → a ≡ b
some_is a b e = cc

no_some : {A X : Type 0} (a : A) → None ≡ Some a → X
no_some a e = cc

pub first_is : (old : Nodes) (run : List Ran) (trace : List Nodes) (now : Nodes)
    → IsTrace old run trace now → slice_get (trace ++ now ∷ []) 0 ≡ Some old
first_is old [] [] now h = ap (λ (n : Nodes). Some n) h
first_is old [] (nodes ∷ trace) now h = absurd h
first_is old (ran ∷ run) [] now h = absurd h
first_is old (ran ∷ run) (nodes ∷ trace) now h = ap (λ (n : Nodes). Some n) h.0

pub step_at : (old : Nodes) (run : List Ran) (trace : List Nodes) (now : Nodes)
    → IsTrace old run trace now → (place : ℕ) (next : Nodes)
    → slice_get (trace ++ now ∷ []) (suc place) ≡ Some next → StepAt run trace now place next
step_at old [] [] now h place next e = no_some next e
step_at old [] (nodes ∷ trace) now h place next e = absurd h
step_at old (ran ∷ run) [] now h place next e = absurd h
step_at old (ran ∷ run) (nodes ∷ trace) now h zero next e =
    let mid = h.1.0 in
    let same : mid ≡ next = some_is mid next (sym (first_is mid run trace now h.1.2) ∙ e) in
    record {
      nodes = old;
      ran = ran;
      before = ap (λ (n : Nodes). Some n) h.0;
      there = ap (λ (n : Nodes). Some n) h.0;
      step = refl;
      happens = subst (Happens old ran) same h.1.1;
    }
step_at old (ran ∷ run) (nodes ∷ trace) now h (suc place) next e =
    let more = step_at h.1.0 run trace now h.1.2 place next e in
    record {
      nodes = more.nodes;
      ran = more.ran;
      before = more.before;
      there = more.there;
      step = more.step;
      happens = more.happens;
    }

-- What has its making before a place.

pub record Made (past : Past) (place shard : ℕ) (tag : Tag) (why : Cause) : Type 0 where
  pub making : Making
  pub made : IsMade past making.place shard tag why making
  pub before : making.place < place
  pub new : is_free why ≡ false → IsNew making why

made_on : (past : Past) (place shard : ℕ) (tag : Tag) (why : Cause) → Made past place shard tag why
    → Made past (suc place) shard tag why
made_on past place shard tag why h =
    record { making = h.making; made = h.made; before = omega (arith, h.before); new = h.new }

abbrev pub MsgMade : Past → ℕ → Msg → Type 0
MsgMade past place (msg.Answer a) = IfRefused a.outcome (Made past place a.shard a.tag)
MsgMade past place (msg.Outcome o) = IfAborted o.told (Made past place o.shard o.tag)
MsgMade past place other = Unit {0}

abbrev pub EnvMade : Past → ℕ → Envelope → Type 0
EnvMade past place e = MsgMade past place e.msg

-- at a running shard
abbrev pub SessionsMade : Past → ℕ → ℕ → NodeState → Type 0
SessionsMade past place n s = (lsid : Lsid) (old : Session) (why : Cause) (at : ℕ)
    → session s.core.part lsid ≡ Some old → old.state ≡ state.Aborted why at
    → is_free why ≡ false → Made past place n old.tag why

pub record NodeMade (past : Past) (place n : ℕ) (s : NodeState) : Type 0 where
  pub lives : LivesStand s.core.part
  pub kept : AllKept s.core.part
  pub made : IsRunning s → SessionsMade past place n s

pub record MadeStands (past : Past) (place : ℕ) (nodes : Nodes) : Type 0 where
  pub sent : All (EnvMade past place) nodes.sent
  pub shards : EachShard nodes (NodeMade past place)

refused_on : {A : Type 0} (past : Past) (place shard : ℕ) (tag : Tag) (r : Result A Cause)
    → IfRefused r (Made past place shard tag) → IfRefused r (Made past (suc place) shard tag)
refused_on past place shard tag (Ok a) h = tt
refused_on past place shard tag (Err why) h = made_on past place shard tag why h

aborted_on : (past : Past) (place shard : ℕ) (tag : Tag) (t : Told)
    → IfAborted t (Made past place shard tag) → IfAborted t (Made past (suc place) shard tag)
aborted_on past place shard tag (told.Aborted why) h = made_on past place shard tag why h
aborted_on past place shard tag (told.Committed at) h = tt
aborted_on past place shard tag told.Released h = tt
aborted_on past place shard tag (told.TooOld have) h = tt
aborted_on past place shard tag told.NoTrace h = tt

msg_on : (past : Past) (place : ℕ) (m : Msg) → MsgMade past place m → MsgMade past (suc place) m
msg_on past place (msg.Answer a) h = refused_on past place a.shard a.tag a.outcome h
msg_on past place (msg.Outcome o) h = aborted_on past place o.shard o.tag o.told h
msg_on past place (msg.Statement m) h = tt
msg_on past place (msg.Commit m) h = tt
msg_on past place (msg.Abort m) h = tt
msg_on past place (msg.CommitTwo m) h = tt
msg_on past place (msg.Prepare m) h = tt
msg_on past place (msg.Vote m) h = tt
msg_on past place (msg.Decide m) h = tt
msg_on past place (msg.Acked m) h = tt
msg_on past place (msg.Recover m) h = tt
msg_on past place msg.Nudge h = tt

node_on : (past : Past) (place n : ℕ) (s : NodeState) → NodeMade past place n s
    → NodeMade past (suc place) n s
node_on past place n s h = record {
  lives = h.lives;
  kept = h.kept;
  made = λ runs lsid old why at there ended free. made_on past place n old.tag why
      (h.made runs lsid old why at there ended free);
}

sent_on : (past : Past) (place : ℕ) (sent : List Envelope) → All (EnvMade past place) sent
    → All (EnvMade past (suc place)) sent
sent_on past place sent h =
    All-weaker (EnvMade past place) (EnvMade past (suc place))
    (λ e k. msg_on past place e.msg k) sent h

asked_made : (past : Past) (place : ℕ) (m : Msg) → IsAsked m → MsgMade past place m
asked_made past place (msg.Answer a) h = absurd h
asked_made past place (msg.Outcome o) h = absurd h
asked_made past place (msg.Statement m) h = tt
asked_made past place (msg.Commit m) h = tt
asked_made past place (msg.Abort m) h = tt
asked_made past place (msg.CommitTwo m) h = tt
asked_made past place (msg.Prepare m) h = tt
asked_made past place (msg.Vote m) h = tt
asked_made past place (msg.Decide m) h = tt
asked_made past place (msg.Acked m) h = tt
asked_made past place (msg.Recover m) h = tt
asked_made past place msg.Nudge h = tt

-- what a message tells
told_is : (shard : ℕ) (S : Tag → Cause → Type 0) (m : Msg) → MsgTold shard S m
    → (tag : Tag) (why : Cause) → Answers tag why m → S tag why
told_is shard S (msg.Answer a) h tag why k =
    subst (λ (t : Tag). S t why) k.0
    (subst (λ (r : _). IfRefused r (S a.tag)) k.1 h.1)
told_is shard S (msg.Statement m) h tag why k = absurd k
told_is shard S (msg.Commit m) h tag why k = absurd k
told_is shard S (msg.Outcome m) h tag why k = absurd k
told_is shard S (msg.Abort m) h tag why k = absurd k
told_is shard S (msg.CommitTwo m) h tag why k = absurd k
told_is shard S (msg.Prepare m) h tag why k = absurd k
told_is shard S (msg.Vote m) h tag why k = absurd k
told_is shard S (msg.Decide m) h tag why k = absurd k
told_is shard S (msg.Acked m) h tag why k = absurd k
told_is shard S (msg.Recover m) h tag why k = absurd k
told_is shard S msg.Nudge h tag why k = absurd k

-- A shard's step.

same_answers : (tag : Tag) (why : Cause) (m : Msg) → Answers tag why m → Tells tag why m
same_answers tag why (msg.Answer a) h = h
same_answers tag why (msg.Statement m) h = absurd h
same_answers tag why (msg.Commit m) h = absurd h
same_answers tag why (msg.Outcome m) h = absurd h
same_answers tag why (msg.Abort m) h = absurd h
same_answers tag why (msg.CommitTwo m) h = absurd h
same_answers tag why (msg.Prepare m) h = absurd h
same_answers tag why (msg.Vote m) h = absurd h
same_answers tag why (msg.Decide m) h = absurd h
same_answers tag why (msg.Acked m) h = absurd h
same_answers tag why (msg.Recover m) h = absurd h
same_answers tag why msg.Nudge h = absurd h

not_free : {X : Type 0} (why : Cause) → is_free why ≡ true → is_free why ≡ false → X
not_free why is other = let wrong : true ≡ false = sym is ∙ other in cc

origin_kept : (T : Lsid → Session → Cause → Type 0) (p : Part) (lsid : Lsid) (new : Session)
    (why : Cause) (at : ℕ) → AllKept p → new.state ≡ state.Aborted why at → Origin T p lsid new why
    → is_kept why ≡ true
origin_kept T p lsid new why at kept ended (inr t) = t.1
origin_kept T p lsid new why at kept ended (inl f) =
    elim f.was [
      | inl same ↦ kept lsid f.old why at f.there (ap (λ (s : Session). s.state) (sym same) ∙ ended)
      | inr u ↦ u.2
    ]

module _ (past : Past) (place n : ℕ) (old new : Nodes) (e : NodeEvent) (a : NodeAnswer) (faults : ℕ)
    (h : ShardSteps old n e a faults new)
    (at : At past.trace past.run place old (Step (Shard n) e a faults))
    (behind : slice_get (past.trace ++ past.now ∷ []) (suc place) ≡ Some new)
    (own : h.before.core.part.shard ≡ n) (stands : NodeMade past place n h.before) where
  abbrev p : Part
  p = h.before.core.part

  abbrev making : Tag → Lsid → ℤ → Making
  making tag lsid number = record {
    place = place;
    shard = n;
    tag = tag;
    lsid = lsid;
    number = number;
    before = h.before;
    event = e;
    answer = a;
    after = h.after;
  }

  is_made : (tag : Tag) (lsid : Lsid) (number : ℤ) (why : Cause)
      → NamesAt (making tag lsid number) e.what
      ⊎ (HasSession (making tag lsid number) ⊎ HasPlan (making tag lsid number))
      → TellsCause (making tag lsid number) why ⊎ EndsWith (making tag lsid number) why
      → IsMade past place n tag why (making tag lsid number)
  is_made tag lsid number why named makes = record {
    faults = faults;
    nodes = old;
    next = new;
    at = at;
    behind = subst (λ (i : ℕ). slice_get (past.trace ++ past.now ∷ []) i ≡ Some new)
        (omega arith) behind;
    before = h.there;
    after = set_at old.shards new.shards n h.after h.before (ap (λ (w : Nodes). w.shards) h.nodes)
        h.there;
    there = refl;
    of = refl;
    earlier = omega arith;
    session = named;
    makes = makes;
  }

  made_now : (tag : Tag) (lsid : Lsid) (number : ℤ) (why : Cause)
      → NamesAt (making tag lsid number) e.what
      ⊎ (HasSession (making tag lsid number) ⊎ HasPlan (making tag lsid number))
      → TellsCause (making tag lsid number) why ⊎ EndsWith (making tag lsid number) why
      → (is_free why ≡ false → IsNew (making tag lsid number) why)
      → Made past (suc place) n tag why
  made_now tag lsid number why named makes new = record {
    making = making tag lsid number;
    made = is_made tag lsid number why named makes;
    before = omega arith;
    new = new;
  }

  -- what is told of a transaction that the message names
  names_so : (w : Happening) → e.what ≡ w → (tag : Tag) (lsid : Lsid) (number : ℤ)
      → NamesAt (making tag lsid number) w → NamesAt (making tag lsid number) e.what
  names_so w is tag lsid number k = subst (NamesAt (making tag lsid number)) (sym is) k

  repeat_case : (tag : Tag) (lsid : Lsid) (number : ℤ) (why : Cause) (test : Bool)
      → is_free why ≡ test → NamesAt (making tag lsid number) e.what
      → TellsCause (making tag lsid number) why
      → (is_free why ≡ false → Made past place n tag why) → Made past (suc place) n tag why
  repeat_case tag lsid number why true is names tells rep =
      made_now tag lsid number why (inl names) (inl tells) (λ no. not_free why is no)
  repeat_case tag lsid number why false is names tells rep =
      made_on past place n tag why (rep is)

  told_made : (tag : Tag) (lsid : Lsid) (number : ℤ) (why : Cause)
      → NamesAt (making tag lsid number) e.what → TellsCause (making tag lsid number) why
      → (Repeats p lsid tag why → is_free why ≡ false → Made past place n tag why)
      → ToldAs p lsid tag why → Made past (suc place) n tag why
  told_made tag lsid number why names tells rep (inl free) =
      made_now tag lsid number why (inl names) (inl tells) (λ no. not_free why free no)
  told_made tag lsid number why names tells rep (inr (inl fresh)) =
      made_now tag lsid number why (inl names) (inl tells) (λ no. inr (tells, fresh))
  told_made tag lsid number why names tells rep (inr (inr k)) =
      repeat_case tag lsid number why (is_free why) refl names tells (rep k)

  subject_made : IsRunning h.before → (w : Happening) → e.what ≡ w → (tag : Tag) (why : Cause)
      (env : Envelope) → Contains (given_out a) env → Tells tag why env.msg
      → SubjectAt p h.before.core.coord w tag why → Made past (suc place) n tag why
  subject_made runs (what.Deliver sent) is tag why env among tells (inl k) =
      told_made tag k.lsid k.number why
      (names_so (what.Deliver sent) is tag k.lsid k.number k.names) (env, among, tells)
      (λ rep free. subst (λ (t : Tag). Made past place n t why) rep.own
      (stands.made runs k.lsid rep.old why rep.at rep.there rep.ended free)) k.told
  subject_made runs (what.Deliver sent) is tag why env among tells (inr k) =
      made_now tag k.c.plan.lsid k.c.plan.number why (inr (inr (k.c, k.there, refl, refl)))
      (inl (env, among, tells)) (λ no. not_free why k.free no)
  subject_made runs (what.Client conn frame) is tag why env among tells k = absurd k
  subject_made runs (what.Gone conn) is tag why env among tells k = absurd k
  subject_made runs what.Resend is tag why env among tells k = absurd k
  subject_made runs what.Moment is tag why env among tells k = absurd k

  fresh_made : (w : Happening) → e.what ≡ w → (tag : Tag) (why : Cause)
      (env : Envelope) → Contains (given_out a) env → Tells tag why env.msg
      → FreshAt p w tag why → Made past (suc place) n tag why
  fresh_made (what.Deliver sent) is tag why env among tells k =
      made_now tag k.lsid k.number why
      (inl (names_so (what.Deliver sent) is tag k.lsid k.number k.names))
      (inl (env, among, tells)) (λ no. inr ((env, among, tells), k.first))
  fresh_made (what.Client conn frame) is tag why env among tells k = absurd k
  fresh_made (what.Gone conn) is tag why env among tells k = absurd k
  fresh_made what.Resend is tag why env among tells k = absurd k
  fresh_made what.Moment is tag why env among tells k = absurd k

  abbrev Makes : (Tag → Cause → Type 0) → Type 0
  Makes S = (tag : Tag) (why : Cause) (env : Envelope) → Contains (given_out a) env
      → Tells tag why env.msg → S tag why → Made past (suc place) n tag why

  -- each letter
  refused_made : {A : Type 0} (S : Tag → Cause → Type 0) (env : Envelope) (tag : Tag) (shard : ℕ)
      (r : Result A Cause) → shard ≡ n → ((why : Cause) → r ≡ Err why → S tag why
      → Made past (suc place) n tag why) → IfRefused r (S tag)
      → IfRefused r (Made past (suc place) shard tag)
  refused_made S env tag shard (Ok x) is f k = tt
  refused_made S env tag shard (Err why) is f k =
      subst (λ (i : ℕ). Made past (suc place) i tag why) (sym is) (f why refl k)

  outcome_made : (S : Tag → Cause → Type 0) (env : Envelope) (tag : Tag) (shard : ℕ)
      (t : Told) → shard ≡ n → ((why : Cause) → t ≡ told.Aborted why → S tag why
      → Made past (suc place) n tag why) → IfAborted t (S tag)
      → IfAborted t (Made past (suc place) shard tag)
  outcome_made S env tag shard (told.Aborted why) is f k =
      subst (λ (i : ℕ). Made past (suc place) i tag why) (sym is) (f why refl k)
  outcome_made S env tag shard (told.Committed at) is f k = tt
  outcome_made S env tag shard told.Released is f k = tt
  outcome_made S env tag shard (told.TooOld have) is f k = tt
  outcome_made S env tag shard told.NoTrace is f k = tt

  msg_made : (S : Tag → Cause → Type 0) → Makes S → (env : Envelope) → Contains (given_out a) env
      → (m : Msg) → env.msg ≡ m → MsgTold p.shard S m → MsgMade past (suc place) m
  msg_made S makes env among (msg.Answer x) is k =
      refused_made S env x.tag x.shard x.outcome (k.0 ∙ own)
      (λ why bad s. makes x.tag why env among
      (subst (Tells x.tag why) (sym is) (refl, bad)) s) k.1
  msg_made S makes env among (msg.Outcome x) is k =
      outcome_made S env x.tag x.shard x.told (k.0 ∙ own)
      (λ why bad s. makes x.tag why env among
      (subst (Tells x.tag why) (sym is) (refl, bad)) s) k.1
  msg_made S makes env among (msg.Statement m) is k = tt
  msg_made S makes env among (msg.Commit m) is k = tt
  msg_made S makes env among (msg.Abort m) is k = tt
  msg_made S makes env among (msg.CommitTwo m) is k = tt
  msg_made S makes env among (msg.Prepare m) is k = tt
  msg_made S makes env among (msg.Vote m) is k = tt
  msg_made S makes env among (msg.Decide m) is k = tt
  msg_made S makes env among (msg.Acked m) is k = tt
  msg_made S makes env among (msg.Recover m) is k = tt
  msg_made S makes env among msg.Nudge is k = tt

  letters_made : (S : Tag → Cause → Type 0) → Makes S → All (EnvTold p.shard S) (given_out a)
      → All (EnvMade past (suc place)) (given_out a)
  letters_made S makes k =
      All-weaker (Contains (given_out a)) (EnvMade past (suc place)) (λ env among.
      msg_made S makes env among env.msg refl
      (All-contains (EnvTold p.shard S) (given_out a) env k among))
      (given_out a) (All-contains_itself (given_out a))

  abbrev o : CoreStep
  o = core_step h.takes.0 h.before.core e

  step : StepTold h.before.core e.what o
  step = step_told h.before.core e stands.kept stands.lives h.takes.0

  -- all that is given out
  out_case : Appended h.before o a h.after → (stopped : Option ℕ) → h.before.core.stopped ≡ stopped
      → All (EnvMade past (suc place)) (given_out a)
  out_case d None is =
      letters_made (SubjectAt p h.before.core.coord e.what)
      (λ tag why env among tells k. subject_made is e.what refl tag why env among tells k)
      (subst (λ (x : NodeAnswer). All (EnvTold p.shard (SubjectAt p h.before.core.coord e.what))
      (given_out x)) (sym d.told) step.out)
  out_case d (Some failed) is =
      letters_made (FreshAt p e.what)
      (λ tag why env among tells k. fresh_made e.what refl tag why env among tells k)
      (subst (λ (x : NodeAnswer). All (EnvTold p.shard (FreshAt p e.what)) (given_out x))
      (sym d.told) (step_fresh h.before.core e stands.kept stands.lives h.takes.0 failed is))

  out_made : (Appended h.before o a h.after ⊎ Failed h.before o a h.after)
      → All (EnvMade past (suc place)) (given_out a)
  out_made (inl d) = out_case d h.before.core.stopped refl
  out_made (inr d) = subst (λ (x : NodeAnswer). All (EnvMade past (suc place)) (given_out x))
      (sym d.told) (All-nil (EnvMade past (suc place)))

  -- the sessions that are aborted then
  was_made : IsRunning h.before → Appended h.before o a h.after → (lsid : Lsid) (now : Session)
      (why : Cause) (time : ℕ) → session h.after.core.part lsid ≡ Some now
      → now.state ≡ state.Aborted why time → is_free why ≡ false
      → Origin (TellsGiven o.answer) p lsid now why → Made past (suc place) n now.tag why
  was_made runs d lsid now why time there ended free (inl f) =
      elim f.was [
        | inl same ↦ subst (λ (s : Session). Made past (suc place) n s.tag why) (sym same)
            (made_on past place n f.old.tag why (stands.made runs lsid f.old why time f.there
            (ap (λ (s : Session). s.state) (sym same) ∙ ended) free))
        | inr u ↦
            let ends : EndsWith (making now.tag lsid f.old.number) why = record {
              old = f.old;
              new = now;
              read_at = time;
              was = f.there;
              own = sym u.1;
              unended = u.0;
              is = there;
              same = refl;
              ended = ended;
            } in
            made_now now.tag lsid f.old.number why (inr (inl (f.old, f.there, sym u.1, refl)))
            (inr ends) (λ no. inl ends)
      ]
  was_made runs d lsid now why time there ended free (inr (t, kept)) =
      let among : Contains (given_out a) t.envelope =
      subst (λ (x : NodeAnswer). Contains (given_out x) t.envelope) (sym d.told) t.among in
      let s = told_is p.shard (SubjectAt p h.before.core.coord e.what) t.envelope.msg
      (All-contains (EnvTold p.shard (SubjectAt p h.before.core.coord e.what))
      (given_out o.answer) t.envelope step.out t.among) now.tag why t.tells in
      subject_made runs e.what refl now.tag why t.envelope among
      (same_answers now.tag why t.envelope.msg t.tells) s

  part_is : (Appended h.before o a h.after ⊎ Failed h.before o a h.after)
      → h.after.core.part ≡ o.core.part
  part_is (inl d) = ap (λ (c : ShardState). c.part) d.core
  part_is (inr d) = ap (λ (c : ShardState). c.part) d.core

  sessions_made : (Appended h.before o a h.after ⊎ Failed h.before o a h.after)
      → (stopped : Option ℕ) → h.before.core.stopped ≡ stopped → IsRunning h.after
      → SessionsMade past (suc place) n h.after
  sessions_made (inl d) None is runs lsid now why time there ended free =
      was_made is d lsid now why time there ended free
      (step.leaves.aborts lsid now why time
      (ap (λ (q : Part). session q lsid) (sym (part_is (inl d))) ∙ there) ended)
  sessions_made (inl d) (Some failed) is runs lsid now why time there ended free =
      no_some failed (sym runs ∙ ap (λ (c : ShardState). c.stopped) d.core
      ∙ step_stopped h.takes.0 h.before.core e failed is)
  sessions_made (inr d) stopped is runs lsid now why time there ended free =
      no_some h.after.faults (sym runs ∙ ap (λ (c : ShardState). c.stopped) d.core)

  node_made : NodeMade past (suc place) n h.after
  node_made = record {
    lives = subst LivesStand (sym (part_is h.takes.1)) (step.leaves.lives stands.lives);
    kept = subst AllKept (sym (part_is h.takes.1)) (λ lsid now why time there ended.
        origin_kept (TellsGiven o.answer) p lsid now why time stands.kept ended
        (step.leaves.aborts lsid now why time there ended));
    made = sessions_made h.takes.1 h.before.core.stopped refl;
  }

-- A start of a shard: what its records tell of aborted transactions is the votes against them.

abbrev VotedOnly : SessionState → Type 0
VotedOnly (state.Aborted why read_at) = (is_free why ≡ true) × (is_kept why ≡ true)
VotedOnly other = Unit {0}

behind_voted : (d : Decision) → VotedOnly (state_behind d)
behind_voted (decision.Commit at) = tt
behind_voted (decision.Abort shard code) = (refl, refl)

abbrev Entry : Lsid × Session → Type 0
Entry entry = VotedOnly entry.1.state

changed_voted : (i : Image) (r : Rec) → All Entry i.sessions.entries
    → All Entry (image.with_record i r).sessions.entries
changed_voted i (rec.Boot boot) h = h
changed_voted i (rec.Ceiling bound) h = h
changed_voted i (rec.Commit tag lsid number read_at at writes) h =
    entries_put Entry lsid _ i.sessions.entries tt h
changed_voted i (rec.Prepared tag lsid number boot read_at at coordinator writes) h =
    entries_put Entry lsid _ i.sessions.entries tt h
changed_voted i (rec.Decided d) h =
    entries_put Entry d.lsid _ i.sessions.entries (behind_voted d.decision) h
changed_voted i (rec.CoordStart tag lsid number parts) h = h
changed_voted i (rec.CoordDecision tag d) h = h
changed_voted i (rec.CoordEnd tag) h = h
changed_voted i (rec.Floor floor) h = h

image_voted : (recs : List Rec) (i : Image) → All Entry i.sessions.entries
    → All Entry (image.with_records i recs).sessions.entries
image_voted [] i h = h
image_voted (r ∷ recs) i h = image_voted recs (image.with_record i r) (changed_voted i r h)

of_image : (recs : List Rec) → All Entry (image_of recs).sessions.entries
unfolding image_of
of_image recs = image_voted recs empty_image (All-nil Entry)

node_voted : (past : Past) (place n : ℕ) (recs : List Rec) (faults : ℕ)
    → NodeMade past place n (node_of n recs faults)
node_voted past place n recs faults =
    let s = node_of n recs faults in
    let voted = λ (lsid : Lsid) (old : Session) (why : Cause) (at : ℕ)
    (there : session s.core.part lsid ≡ Some old) (ended : old.state ≡ state.Aborted why at).
    subst VotedOnly ended (entry_named Entry lsid s.core.part.sessions.entries (of_image recs) old
    there) in
    record {
      lives = record { rises = tt; live = λ lsid o there. no_some o there };
      kept = λ lsid old why at there ended. (voted lsid old why at there ended).1;
      made = λ runs lsid old why at there ended free. not_free why
          (voted lsid old why at there ended).0 free;
    }

start_made : (past : Past) (place n : ℕ) (recs : List Rec) (faults : ℕ) (s : NodeState)
    → started n recs faults ≡ Some s → NodeMade past place n s
start_made past place n recs faults s is =
    subst (NodeMade past place n) (sym (started_is n recs faults s is))
    (node_voted past place n (recs ++ boot_behind (image_of recs) ∷ []) faults)

-- Each step.

others_on : (past : Past) (place : ℕ) (nodes : Nodes) → EachShard nodes (NodeMade past place)
    → EachShard nodes (NodeMade past (suc place))
others_on past place nodes h number s there = node_on past place number s (h number s there)

more_sent : (past : Past) (place : ℕ) (old new : Nodes) (out : List Envelope)
    → new.sent ≡ old.sent ++ out → All (EnvMade past place) old.sent
    → All (EnvMade past (suc place)) out → All (EnvMade past (suc place)) new.sent
more_sent past place old new out is h k =
    subst (All (EnvMade past (suc place))) (sym is)
    (All-append (EnvMade past (suc place)) old.sent out (sent_on past place old.sent h) k)

made_step : (past : Past) (place : ℕ) (old new : Nodes) (ran : Ran)
    → At past.trace past.run place old ran
    → slice_get (past.trace ++ past.now ∷ []) (suc place) ≡ Some new → Happens old ran new
    → Stands old → MadeStands past place old → MadeStands past (suc place) new
made_step past place old new (Step (Shard n) e a faults) at behind h s m =
    let own = (s.reads.shards n h.before h.there).own in
    let stands = m.shards n h.before h.there in
    record {
      sent = more_sent past place old new (given_out a) (ap (λ (w : Nodes). w.sent) h.nodes) m.sent
          (out_made past place n old new e a faults h at behind own stands h.takes.1);
      shards = each_set (NodeMade past (suc place)) old n h.after new
          (ap (λ (w : Nodes). w.shards) h.nodes) (others_on past place old m.shards)
          (node_made past place n old new e a faults h at behind own stands);
    }
made_step past place old new (Step (Router n) e a faults) at behind h s m = record {
  sent = more_sent past place old new (given_out a) (ap (λ (w : Nodes). w.sent) h.nodes) m.sent
      (All-weaker (λ (x : Envelope). IsAsked x.msg) (EnvMade past (suc place))
      (λ x k. asked_made past (suc place) x.msg k) (given_out a)
      (routers_sent old (Step (Router n) e a faults) new h s.asks));
  shards = each_same (NodeMade past (suc place)) old new (ap (λ (w : Nodes). w.shards) h.nodes)
      (others_on past place old m.shards);
}
made_step past place old new (Swapped (Shard n)) at behind h s m = record {
  sent = subst (All (EnvMade past (suc place))) (sym (ap (λ (w : Nodes). w.sent) h.nodes))
      (sent_on past place old.sent m.sent);
  shards = each_set (NodeMade past (suc place)) old n h.after new
      (ap (λ (w : Nodes). w.shards) h.nodes) (others_on past place old m.shards)
      (start_made past (suc place) n h.recs h.faults h.after h.starts);
}
made_step past place old new (Swapped (Router n)) at behind h s m = record {
  sent = subst (All (EnvMade past (suc place))) (sym (ap (λ (w : Nodes). w.sent) h.nodes))
      (sent_on past place old.sent m.sent);
  shards = each_same (NodeMade past (suc place)) old new (ap (λ (w : Nodes). w.shards) h.nodes)
      (others_on past place old m.shards);
}

-- At each place of a run.

module _ (past : Past) (start : Nodes) (fresh : IsFresh past.chunks start)
    (disks : DisksStand start) (is : IsTrace start past.run past.trace past.now) where
  abbrev states : List Nodes
  states = past.trace ++ past.now ∷ []

  pub stands_at : (place : ℕ) (nodes : Nodes) → slice_get states place ≡ Some nodes → Stands nodes
  stands_at zero nodes e =
      subst Stands (some_is start nodes (sym (first_is start past.run past.trace past.now is) ∙ e))
      (stands_fresh past.chunks start fresh disks)
  stands_at (suc place) nodes e =
      let x = step_at start past.run past.trace past.now is place nodes e in
      stands_step x.nodes x.ran nodes x.happens (stands_at place x.nodes x.there)

  first_made : MadeStands past 0 start
  first_made = record {
    sent = subst (All (EnvMade past 0)) (sym fresh.sent) (All-nil (EnvMade past 0));
    shards = λ n s there. let x = fresh.shards n s there in start_made past 0 n x.0 x.1 s x.2;
  }

  pub made_at : (place : ℕ) (nodes : Nodes) → slice_get states place ≡ Some nodes
      → MadeStands past place nodes
  made_at zero nodes e =
      subst (MadeStands past 0)
      (some_is start nodes (sym (first_is start past.run past.trace past.now is) ∙ e)) first_made
  made_at (suc place) nodes e =
      let x = step_at start past.run past.trace past.now is place nodes e in
      made_step past place x.nodes nodes x.ran (record { before = x.before; step = x.step }) e
      x.happens (stands_at place x.nodes x.there) (made_at place x.nodes x.there)
