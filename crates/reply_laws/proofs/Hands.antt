-- Which requests of statements connections have in hand, beside what a router's sessions wait for: a
-- session that waits for the connection has the statement that the request asks, or the commit of a
-- command by itself whose statement was answered.
use Rattle.std.proofs.Common.{◌≡◌, ◌⊎◌, inl, inr, ◌++◌, ◌||◌, ℕ, ℤ, Bool, true, false, All, List}
use Rattle.std.proofs.Common.{[], nat_eq, Option, Some, None, Ok, Err, refl, sym, ap, subst, ◌∙◌}
use Rattle.std.specs.Prelude.{Contains, IsOk}
use Rattle.std.specs.List.{list_any}
use Rattle.std.proofs.lemmas.List.Elements.{All-nil, All-weaker, Contains-append_left}
use Rattle.txn_types.specs.BySession.{BySession}
use Rattle.txn_types.specs.declared.cause.Cause.{Cause}
use Rattle.txn_types.specs.declared.cause.Cause.TheVariants as cause
use Rattle.txn_types.specs.declared.decision.Token.{Token}
use Rattle.txn_types.specs.declared.node.Lsid.{Lsid}
use Rattle.txn_types.specs.declared.operation.OpErr.{OpErr}
use Rattle.txn_types.specs.declared.operation.OpReply.{OpReply}
use Rattle.txn_semantics.specs.declared.commits.Answered.{Answered}
use Rattle.client_cmd.specs.declared.request.Request.{Request}
use Rattle.client_cmd.specs.declared.request.Request.TheVariants as request
use Rattle.client_reply.specs.declared.reply.Refusal.TheVariants as refusal
use Rattle.client_reply.specs.declared.reply.Reply.{Reply}
use Rattle.client_reply.specs.declared.reply.Reply.TheVariants as reply
use Rattle.router_state.specs.declared.deed.Deed.{Deed}
use Rattle.router_state.specs.declared.deed.Sent.{Sent}
use Rattle.router_state.specs.declared.state.Asker.{Asker}
use Rattle.router_state.specs.declared.state.Doing.{Doing}
use Rattle.router_state.specs.declared.state.Doing.TheVariants.{Begun, Sought}
use Rattle.router_state.specs.declared.state.Phase.{Phase}
use Rattle.router_state.specs.declared.state.Phase.TheVariants.{Idle, Asking, Checking, Deciding}
use Rattle.router_state.specs.declared.state.Phase.TheVariants.{Committed, Released, Aborted}
use Rattle.router_state.specs.declared.state.Session.{Session}
use Rattle.router_state.specs.declared.state.Transaction.{Transaction}
use Rattle.router_state.specs.Deeds.{told_if}
use Rattle.router_state.specs.State.{asker_of, is_from, is_own}
use Rattle.router_rules.specs.Statements.{reply_of}
use Rattle.cluster_core.specs.Replying.{Hand, is_of}
use Rattle.cluster_core.specs.Telling.{HasAnswered, IsOf, IsTold, IsToldAlone, IsToldTo, Tells}
use Rattle.cluster_core.specs.Telling.{WasDone}
use Rattle.answer_laws.proofs.Lists.{both_true}
use Rattle.world_laws.proofs.Naming.{one}
use Rattle.told_laws.proofs.Opening.{nat_sym}
use Rattle.reply_laws.proofs.Lists.{Once, waits_in, and_both, not_both, or_left, or_right}

-- What a router keeps of a request of a statement.

abbrev pub IsStatement : Request → Type 0
IsStatement (request.Statement op txn at after more time) = Unit {0}
IsStatement other = ⊥

-- a command by itself
abbrev pub IsAlone : Request → Type 0
IsAlone (request.Statement op None at after more time) = Unit {0}
IsAlone other = ⊥

-- one of a transaction isn't asked in a connection's own session
abbrev pub KeepsTo : Request → Lsid → Type 0
KeepsTo (request.Statement op (Some txn) at after more time) lsid = is_own lsid ≡ false
KeepsTo other lsid = Unit {0}

-- it is the statement that the transaction asks, where any shard is asked
abbrev pub IsPlaced : Hand → Transaction → Type 0
IsPlaced h t = (t.waiting ≡ []) ⊎ ((h.tag ≡ Some t.tag) × (h.k ≡ t.k))

-- a command by itself, whose statement was answered so; the reply is told once it is committed
pub record WillTell (answered : List Answered) (h : Hand) (kept : Option Reply) : Type 0 where
  pub alone : IsAlone h.request
  pub answer : Answered
  pub among : Contains answered answer
  pub is_of : IsOf h answer
  pub done : OpReply
  pub outcome : answer.outcome ≡ Ok done
  pub reply : kept ≡ Some (reply_of answer.op done None)

abbrev pub Commits : List Answered → Hand → Lsid → Option Reply → Type 0
Commits answered h lsid kept = (is_own lsid ≡ true) × WillTell answered h kept

abbrev pub PhaseFits : List Answered → Hand → Lsid → Transaction → Phase → Type 0
PhaseFits answered h lsid t (Asking asker op answers) = KeepsTo h.request lsid × IsPlaced h t
PhaseFits answered h lsid t (Checking asker) = Commits answered h lsid t.reply
PhaseFits answered h lsid t (Deciding asker) = Commits answered h lsid t.reply
PhaseFits answered h lsid t other = Unit {0}

abbrev pub DoingFits : List Answered → Hand → Lsid → Doing → Type 0
DoingFits answered h lsid (Begun t) = PhaseFits answered h lsid t t.phase
DoingFits answered h lsid (Sought seeking known) = ⊥

-- a session that waits for the hand's connection
abbrev pub EntryStands : List Answered → Hand → Lsid × Session → Type 0
EntryStands answered h entry = is_from h.conn (asker_of entry.1.doing) ≡ true
    → DoingFits answered h entry.0 entry.1.doing

-- a request in hand is waited for, by sessions that fit it
pub record HandStands (answered : List Answered) (h : Hand) (sessions : BySession Session) :
    Type 0 where
  pub entries : All (EntryStands answered h) sessions
  pub waits : waits_in h.conn sessions ≡ true

abbrev pub IfStatement : ℕ → List Answered → BySession Session → Hand → Type 0
IfStatement n answered sessions h = h.router ≡ n → IsStatement h.request
    → HandStands answered h sessions

pub record RouterHands (n : ℕ) (answered : List Answered) (hands : List Hand)
    (sessions : BySession Session) : Type 0 where
  pub once : Once sessions
  pub stand : All (IfStatement n answered sessions) hands

-- What a step does for a request in hand.

abbrev pub ReplyRight : ℕ → List Answered → Hand → Sent → Type 0
ReplyRight n answered h sent = is_of n sent.conn h ≡ true
    → IsToldTo answered h h.request sent.reply

abbrev pub replied_to : ℕ → Hand → List Sent → Bool
replied_to n h replies = list_any (λ (sent : Sent). is_of n sent.conn h) replies

-- in a session in which this one waited
pub record Goes (n : ℕ) (answered : List Answered) (h : Hand) (lsid : Lsid) (old : Option Asker)
    (d : Deed) : Type 0 where
  pub after : EntryStands answered h (lsid, d.session)
  pub rights : All (ReplyRight n answered h) d.given.replies
  pub waits : is_from h.conn old ≡ true
      → (is_from h.conn (asker_of d.session.doing) || replied_to n h d.given.replies) ≡ true

-- at the router
pub record Moves (n : ℕ) (answered : List Answered) (h : Hand) (sessions : BySession Session)
    (replies : List Sent) : Type 0 where
  pub entries : All (EntryStands answered h) sessions
  pub rights : All (ReplyRight n answered h) replies
  pub waits : (waits_in h.conn sessions || replied_to n h replies) ≡ true

abbrev pub HandMoves : ℕ → List Answered → BySession Session → List Sent → Hand → Type 0
HandMoves n answered sessions replies h = h.router ≡ n → IsStatement h.request
    → Moves n answered h sessions replies

-- Where more was answered, all this stands.

pub will_on : (answered more : List Answered) (h : Hand) (kept : Option Reply)
    → WillTell answered h kept → WillTell (answered ++ more) h kept
will_on answered more h kept w = record {
  alone = w.alone;
  answer = w.answer;
  among = Contains-append_left answered more w.answer w.among;
  is_of = w.is_of;
  done = w.done;
  outcome = w.outcome;
  reply = w.reply;
}

phase_on : (answered more : List Answered) (h : Hand) (lsid : Lsid) (t : Transaction) (p : Phase)
    → PhaseFits answered h lsid t p → PhaseFits (answered ++ more) h lsid t p
phase_on answered more h lsid t (Asking asker op answers) f = f
phase_on answered more h lsid t (Checking asker) f = (f.0, will_on answered more h t.reply f.1)
phase_on answered more h lsid t (Deciding asker) f = (f.0, will_on answered more h t.reply f.1)
phase_on answered more h lsid t Idle f = tt
phase_on answered more h lsid t Committed f = tt
phase_on answered more h lsid t Released f = tt
phase_on answered more h lsid t (Aborted sent) f = tt

pub doing_on : (answered more : List Answered) (h : Hand) (lsid : Lsid) (doing : Doing)
    → DoingFits answered h lsid doing → DoingFits (answered ++ more) h lsid doing
doing_on answered more h lsid (Begun t) f = phase_on answered more h lsid t t.phase f
doing_on answered more h lsid (Sought seeking known) f = f

pub entry_on : (answered more : List Answered) (h : Hand) (entry : Lsid × Session)
    → EntryStands answered h entry → EntryStands (answered ++ more) h entry
entry_on answered more h entry f from = doing_on answered more h entry.0 entry.1.doing (f from)

pub entries_on : (answered more : List Answered) (h : Hand) (entries : BySession Session)
    → All (EntryStands answered h) entries → All (EntryStands (answered ++ more) h) entries
entries_on answered more h entries f = All-weaker (EntryStands answered h)
    (EntryStands (answered ++ more) h) (λ entry. entry_on answered more h entry) entries f

pub hand_on : (answered more : List Answered) (h : Hand) (sessions : BySession Session)
    → HandStands answered h sessions → HandStands (answered ++ more) h sessions
hand_on answered more h sessions f = record {
  entries = entries_on answered more h sessions f.entries;
  waits = f.waits;
}

has_on : (answered more : List Answered) (h : Hand) (r : Reply) → HasAnswered answered h r
    → HasAnswered (answered ++ more) h r
has_on answered more h r x = (x.0, Contains-append_left answered more x.0 x.1, x.2, x.3)

was_on : (answered more : List Answered) (h : Hand) → WasDone answered h
    → WasDone (answered ++ more) h
was_on answered more h x = (x.0, Contains-append_left answered more x.0 x.1, x.2, x.3)

told_on : (answered more : List Answered) (h : Hand) (r : Reply) → IsTold answered h r
    → IsTold (answered ++ more) h r
told_on answered more h (reply.Wrote n modified t) x = has_on answered more h
    (reply.Wrote n modified t) x
told_on answered more h (reply.Found ns docs t) x = has_on answered more h (reply.Found ns docs t) x
told_on answered more h (reply.Refused refusal.ReplyTooLarge) x = has_on answered more h
    (reply.Refused refusal.ReplyTooLarge) x
told_on answered more h (reply.Caused shard number (cause.Statement err)) x = has_on answered more h
    (reply.Caused shard number (cause.Statement err)) x
told_on answered more h other x = tt

alone_on : (answered more : List Answered) (h : Hand) (r : Reply) → IsToldAlone answered h r
    → IsToldAlone (answered ++ more) h r
alone_on answered more h (reply.Caused shard number (cause.Statement err)) (inl x) = inl
    (has_on answered more h (reply.Caused shard number (cause.Statement err)) x)
alone_on answered more h (reply.Caused shard number (cause.Statement err)) (inr x) = inr
    (was_on answered more h x)
alone_on answered more h other x = told_on answered more h other x

to_on : (answered more : List Answered) (h : Hand) (q : Request) (r : Reply)
    → IsToldTo answered h q r → IsToldTo (answered ++ more) h q r
to_on answered more h (request.Statement op None at after more' time) r x = alone_on answered more h
    r x
to_on answered more h (request.Statement op (Some txn) at after more' time) r x = told_on answered
    more h r x
to_on answered more h other r x = tt

pub right_on : (answered more : List Answered) (h : Hand) (r : Reply)
    → IsToldTo answered h h.request r → IsToldTo (answered ++ more) h h.request r
right_on answered more h r x = to_on answered more h h.request r x

-- What may be told of a statement.

has_told : (answered : List Answered) (h : Hand) (r : Reply) → HasAnswered answered h r
    → IsTold answered h r
has_told answered h (reply.Wrote n modified t) x = x
has_told answered h (reply.Found ns docs t) x = x
has_told answered h (reply.Refused refusal.ReplyTooLarge) x = x
has_told answered h (reply.Caused shard number (cause.Statement err)) x = x
has_told answered h other x = tt

has_alone : (answered : List Answered) (h : Hand) (r : Reply) → HasAnswered answered h r
    → IsToldAlone answered h r
has_alone answered h (reply.Caused shard number (cause.Statement err)) x = inl x
has_alone answered h other x = has_told answered h other x

has_to : (answered : List Answered) (h : Hand) (q : Request) (r : Reply)
    → HasAnswered answered h r → IsToldTo answered h q r
has_to answered h (request.Statement op None at after more time) r x = has_alone answered h r x
has_to answered h (request.Statement op (Some txn) at after more time) r x = has_told answered h r x
has_to answered h other r x = tt

-- what it was answered
pub told_answer : (answered : List Answered) (h : Hand) (r : Reply) → HasAnswered answered h r
    → IsToldTo answered h h.request r
told_answer answered h r x = has_to answered h h.request r x

pub told_done : (answered : List Answered) (h : Hand) (a : Answered) (done : OpReply)
    (t : Option Token) → Contains answered a → IsOf h a → a.outcome ≡ Ok done
    → IsToldTo answered h h.request (reply_of a.op done t)
told_done answered h a done t among of e =
    let tells : Tells a (reply_of a.op done t) = rw e (t, refl) in
    told_answer answered h (reply_of a.op done t) (a, among, of, tells)

pub told_err : (answered : List Answered) (h : Hand) (a : Answered) (err : OpErr) (shard : ℕ)
    (number : ℤ) → Contains answered a → IsOf h a → a.outcome ≡ Err err
    → IsToldTo answered h h.request (reply.Caused shard number (cause.Statement err))
told_err answered h a err shard number among of e =
    let r = reply.Caused shard number (cause.Statement err) in
    let tells : Tells a r = rw e (shard, number, refl) in
    told_answer answered h r (a, among, of, tells)

-- a reply that tells nothing of a statement
abbrev pub IsPlain : Reply → Type 0
IsPlain (reply.TooOld number have) = Unit {0}
IsPlain (reply.Refused refusal.ReplyTooLarge) = ⊥
IsPlain (reply.Refused why) = Unit {0}
IsPlain other = ⊥

plain_told : (answered : List Answered) (h : Hand) (r : Reply) → IsPlain r → IsTold answered h r
plain_told answered h (reply.Wrote n modified t) x = absurd x
plain_told answered h (reply.Found ns docs t) x = absurd x
plain_told answered h (reply.Refused refusal.ReplyTooLarge) x = absurd x
plain_told answered h (reply.Caused shard number why) x = absurd x
plain_told answered h other x = tt

plain_alone : (answered : List Answered) (h : Hand) (r : Reply) → IsPlain r
    → IsToldAlone answered h r
plain_alone answered h (reply.Caused shard number why) x = absurd x
plain_alone answered h other x = plain_told answered h other x

plain_to : (answered : List Answered) (h : Hand) (q : Request) (r : Reply) → IsPlain r
    → IsToldTo answered h q r
plain_to answered h (request.Statement op None at after more time) r x = plain_alone answered h r x
plain_to answered h (request.Statement op (Some txn) at after more time) r x = plain_told answered h
    r x
plain_to answered h other r x = tt

pub told_plain : (answered : List Answered) (h : Hand) (r : Reply) → IsPlain r
    → IsToldTo answered h h.request r
told_plain answered h r x = plain_to answered h h.request r x

-- a refusal of a shard, where the statement's own was answered
caused_told : (answered : List Answered) (h : Hand) (shard : ℕ) (number : ℤ) (why : Cause)
    → ((err : OpErr) → why ≡ cause.Statement err → HasAnswered answered h
    (reply.Caused shard number (cause.Statement err)))
    → IsTold answered h (reply.Caused shard number why)
caused_told answered h shard number (cause.Statement err) f = f err refl
caused_told answered h shard number other f = tt

caused_alone : (answered : List Answered) (h : Hand) (shard : ℕ) (number : ℤ) (why : Cause)
    → ((err : OpErr) → why ≡ cause.Statement err → HasAnswered answered h
    (reply.Caused shard number (cause.Statement err)))
    → IsToldAlone answered h (reply.Caused shard number why)
caused_alone answered h shard number (cause.Statement err) f = inl (f err refl)
caused_alone answered h shard number other f = tt

caused_to : (answered : List Answered) (h : Hand) (q : Request) (shard : ℕ) (number : ℤ)
    (why : Cause) → ((err : OpErr) → why ≡ cause.Statement err → HasAnswered answered h
    (reply.Caused shard number (cause.Statement err)))
    → IsToldTo answered h q (reply.Caused shard number why)
caused_to answered h (request.Statement op None at after more time) shard number why f =
    caused_alone answered h shard number why f
caused_to answered h (request.Statement op (Some txn) at after more time) shard number why f =
    caused_told answered h shard number why f
caused_to answered h other shard number why f = tt

pub told_caused : (answered : List Answered) (h : Hand) (shard : ℕ) (number : ℤ) (why : Cause)
    → ((err : OpErr) → why ≡ cause.Statement err → HasAnswered answered h
    (reply.Caused shard number (cause.Statement err)))
    → IsToldTo answered h h.request (reply.Caused shard number why)
told_caused answered h shard number why f = caused_to answered h h.request shard number why f

-- of the commit of a command by itself, which was done
done_cause : (answered : List Answered) (h : Hand) (shard : ℕ) (number : ℤ) (why : Cause)
    → WasDone answered h → IsToldAlone answered h (reply.Caused shard number why)
done_cause answered h shard number (cause.Statement err) w = inr w
done_cause answered h shard number other w = tt

done_to : (answered : List Answered) (h : Hand) (q : Request) (shard : ℕ) (number : ℤ)
    (why : Cause) → IsAlone q → WasDone answered h
    → IsToldTo answered h q (reply.Caused shard number why)
done_to answered h (request.Statement op None at after more time) shard number why alone w =
    done_cause answered h shard number why w
done_to answered h (request.Statement op (Some txn) at after more time) shard number why alone w =
    absurd alone
done_to answered h other shard number why alone w = tt

was_done : (answered : List Answered) (h : Hand) (kept : Option Reply) → WillTell answered h kept
    → WasDone answered h
was_done answered h kept w = (w.answer, w.among, w.is_of, subst IsOk (sym w.outcome) refl)

pub told_commit : (answered : List Answered) (h : Hand) (kept : Option Reply) (shard : ℕ)
    (number : ℤ) (why : Cause) → WillTell answered h kept
    → IsToldTo answered h h.request (reply.Caused shard number why)
told_commit answered h kept shard number why w = done_to answered h h.request shard number why
    w.alone (was_done answered h kept w)

-- Deeds.

of_from : (n : ℕ) (h : Hand) (asker : Asker) → is_of n asker.conn h ≡ true
    → is_from h.conn (Some asker) ≡ true
of_from n h asker e = nat_sym asker.conn h.conn ∙
    (both_true (nat_eq h.router n) (nat_eq h.conn asker.conn) e).1

from_of : (n : ℕ) (h : Hand) (asker : Asker) → nat_eq h.router n ≡ true
    → is_from h.conn (Some asker) ≡ true → is_of n asker.conn h ≡ true
from_of n h asker here e = and_both (nat_eq h.router n) (nat_eq h.conn asker.conn) here
    (nat_sym h.conn asker.conn ∙ e)

pub nobody : {X : Type 0} (conn : ℕ) (o : Option Asker) → o ≡ None → is_from conn o ≡ true → X
nobody conn o e from = not_both (is_from conn o) from (ap (is_from conn) e)

if_rights : (n : ℕ) (answered : List Answered) (h : Hand) (asker : Option Asker) (r : Reply)
    → (is_from h.conn asker ≡ true → IsToldTo answered h h.request r)
    → All (ReplyRight n answered h) (told_if asker r)
if_rights n answered h None r f = All-nil (ReplyRight n answered h)
if_rights n answered h (Some asker) r f =
    one (ReplyRight n answered h) (record {
      conn = asker.conn;
      request = asker.request;
      legacy = false;
      reply = r;
    }) (λ e. f (of_from n h asker e))

if_waits : (n : ℕ) (h : Hand) (asker : Option Asker) (r : Reply) → nat_eq h.router n ≡ true
    → is_from h.conn asker ≡ true → replied_to n h (told_if asker r) ≡ true
if_waits n h None r here e = nobody h.conn None refl e
if_waits n h (Some asker) r here e = or_left (is_of n asker.conn h) false (from_of n h asker here e)

-- whoever waited is told
pub tells_goes : (n : ℕ) (answered : List Answered) (h : Hand) → nat_eq h.router n ≡ true
    → (lsid : Lsid) (asker : Option Asker) (d : Deed) (r : Reply)
    → asker_of d.session.doing ≡ None → d.given.replies ≡ told_if asker r
    → (is_from h.conn asker ≡ true → IsToldTo answered h h.request r)
    → Goes n answered h lsid asker d
tells_goes n answered h here lsid asker d r none told f = record {
  after = λ from. nobody h.conn (asker_of d.session.doing) none from;
  rights = subst (All (ReplyRight n answered h)) (sym told) (if_rights n answered h asker r f);
  waits = λ from. or_right (is_from h.conn (asker_of d.session.doing))
      (replied_to n h d.given.replies)
      (ap (λ (l : List Sent). replied_to n h l) told ∙ if_waits n h asker r here from);
}

-- whoever waited waits
pub keeps_goes : (n : ℕ) (answered : List Answered) (h : Hand) (lsid : Lsid) (asker : Option Asker)
    (d : Deed) → asker_of d.session.doing ≡ asker → d.given.replies ≡ []
    → EntryStands answered h (lsid, d.session)
    → Goes n answered h lsid asker d
keeps_goes n answered h lsid asker d same none stands = record {
  after = stands;
  rights = subst (All (ReplyRight n answered h)) (sym none) (All-nil (ReplyRight n answered h));
  waits = λ from. or_left (is_from h.conn (asker_of d.session.doing))
      (replied_to n h d.given.replies) (ap (is_from h.conn) same ∙ from);
}

-- nobody waits, and it wasn't the hand's connection that did
pub drops_goes : (n : ℕ) (answered : List Answered) (h : Hand) (lsid : Lsid) (asker : Option Asker)
    (d : Deed) → asker_of d.session.doing ≡ None → d.given.replies ≡ []
    → is_from h.conn asker ≡ false → Goes n answered h lsid asker d
drops_goes n answered h lsid asker d same none other = record {
  after = λ from. nobody h.conn (asker_of d.session.doing) same from;
  rights = subst (All (ReplyRight n answered h)) (sym none) (All-nil (ReplyRight n answered h));
  waits = λ from. not_both (is_from h.conn asker) from other;
}
