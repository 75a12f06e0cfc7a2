-- What is done in a session names its transaction alone, and goes on with it.
use Rattle.std.proofs.Common.{◌≡◌, inr, ℕ, ℤ, true, false, not, ◌&&◌, List, [], ◌∷◌, map, length}
use Rattle.std.proofs.Common.{nat_eq, is_none, Option, Some, None, refl, sym, subst}
use Rattle.std.proofs.lemmas.List.Elements.{All-nil, All-append, All-filter}
use Rattle.std.specs.Ordering.{nat_cmp}
use Rattle.txn_types.specs.Order.{same_tag}
use Rattle.txn_types.specs.declared.cause.Cause.{Cause}
use Rattle.txn_types.specs.declared.decision.Told.{Told}
use Rattle.txn_types.specs.declared.decision.Told.TheVariants as told_as
use Rattle.txn_types.specs.declared.message.Answer.{Answer}
use Rattle.txn_types.specs.declared.message.Outcome.{Outcome}
use Rattle.txn_types.specs.declared.names.Tag.{Tag}
use Rattle.txn_types.specs.declared.node.Lsid.{Lsid}
use Rattle.txn_types.specs.declared.operation.Op.{Op}
use Rattle.txn_types.specs.declared.operation.OpReply.{OpReply}
use Rattle.txn_semantics.specs.Keyed.{put}
use Rattle.chunk_map.specs.Map.{Map}
use Rattle.router_state.specs.declared.deed.Deed.{Deed}
use Rattle.router_state.specs.declared.deed.Given.{Given}
use Rattle.router_state.specs.declared.state.Asker.{Asker}
use Rattle.router_state.specs.declared.state.Doing.{Doing}
use Rattle.router_state.specs.declared.state.Doing.TheVariants.{Begun, Sought}
use Rattle.router_state.specs.declared.state.Phase.{Phase}
use Rattle.router_state.specs.declared.state.Phase.TheVariants.{Idle, Asking, Checking, Deciding}
use Rattle.router_state.specs.declared.state.Phase.TheVariants.{Committed, Released, Aborted}
use Rattle.router_state.specs.declared.state.Seeking.{Seeking}
use Rattle.router_state.specs.declared.state.Session.{Session}
use Rattle.router_state.specs.declared.state.Transaction.{Transaction}
use Rattle.router_state.specs.State.{Post, asker_of, is_from, commit_sent, is_unfinished, is_waited}
use Rattle.router_state.specs.State.{is_own, without, token_of}
use Rattle.router_state.specs.Shards.{writers, readers}
use Rattle.router_state.specs.Deeds.{nothing, aborting, telling, told, both, in_session, stays}
use Rattle.router_rules.specs.Commits as co
use Rattle.router_rules.specs.Ends as en
use Rattle.router_rules.specs.Serving.{answered_in, ended_in}
use Rattle.router_rules.specs.Statements as st
use Rattle.router_rules.specs.Tokens as tk
use Rattle.participant.proofs.Cases.{either}
use Rattle.txn_types.specs.Letters.{Named}
use Rattle.world_laws.specs.Begins.{PostNames, AllNames, DoingNames, GivenNames, SameDoing}
use Rattle.world_laws.specs.Begins.{DeedNames}
use Rattle.world_laws.proofs.Naming.{one, each}

-- the name of a transaction
abbrev pub name_of : Lsid → ℤ → Tag → Named
name_of lsid number tag = record { tag = tag; lsid = lsid; number = number }

abbrev Id : (Named → Type 0) → Lsid → ℤ → Transaction → Type 0
Id P lsid number t = P (name_of lsid number t.tag)

abbrev pub BegunAs : (Named → Type 0) → Tag → Doing → Type 0
BegunAs P tag (Begun t) = (t.tag ≡ tag) × AllNames P t.waiting
BegunAs P tag (Sought seeking known) = ⊥

-- the session's transaction stays, and is all that is named
pub record Own (P : Named → Type 0) (number : ℤ) (tag : Tag) (d : Deed) : Type 0 where
  pub number_is : d.session.number ≡ number
  pub doing : BegunAs P tag d.session.doing
  pub given : GivenNames P d.given

none : (P : Named → Type 0) → AllNames P []
none P = All-nil (PostNames P)

no_given : (P : Named → Type 0) → GivenNames P nothing
no_given P = record { aborts = none P; sends = none P }

pub both_name : (P : Named → Type 0) (a b : Given) → GivenNames P a → GivenNames P b
    → GivenNames P (both a b)
both_name P a b h k = record {
  aborts = All-append (PostNames P) a.aborts b.aborts h.aborts k.aborts;
  sends = All-append (PostNames P) a.sends b.sends h.sends k.sends;
}

-- a transaction that waits for these, and what goes out
own : (P : Named → Type 0) (number : ℤ) (t : Transaction) (g : Given) → AllNames P t.waiting
    → GivenNames P g → Own P number t.tag (in_session number t g)
own P number t g w k = record { number_is = refl; doing = (refl, w); given = k }

rests : (P : Named → Type 0) (number : ℤ) (t : Transaction) → AllNames P t.waiting
    → Own P number t.tag (in_session number t nothing)
rests P number t h = own P number t nothing h (no_given P)

-- Ends.

aborts_name : (P : Named → Type 0) (lsid : Lsid) (number : ℤ) (why : ℕ) (t : Transaction)
    → Id P lsid number t → AllNames P (en.aborts lsid number why t)
aborts_name P lsid number why t p =
    each (PostNames P) (en.abort_to lsid number why t.tag) t.parts (λ x. p)

without_name : (P : Named → Type 0) (shard : ℕ) (posts : List Post) → AllNames P posts
    → AllNames P (without shard posts)
without_name P shard posts h = All-filter (λ post. not (nat_eq post.0 shard)) (PostNames P) posts h

ends_name : (P : Named → Type 0) (lsid : Lsid) (number : ℤ) (why : ℕ) (t : Transaction)
    → Id P lsid number t → Own P number t.tag (en.ends lsid number why t)
ends_name P lsid number why t p = own P number (en.aborted t) _ (none P)
    (record { aborts = aborts_name P lsid number why t p; sends = none P })

leaves_doing : (P : Named → Type 0) (lsid : Lsid) (number : ℤ) (doing : Doing)
    → DoingNames P lsid number doing
    → AllNames P (en.leaves lsid (record { number = number; doing = doing }))
leaves_doing P lsid number (Begun t) h =
    either (is_unfinished t.phase) (AllNames P) _ _ (aborts_name P lsid number 6 t h.0) (none P)
leaves_doing P lsid number (Sought seeking known) h = none P

pub leaves_name : (P : Named → Type 0) (lsid : Lsid) (s : Session)
    → DoingNames P lsid s.number s.doing → AllNames P (en.leaves lsid s)
leaves_name P lsid s h = leaves_doing P lsid s.number s.doing h

-- Commits.

commit_names : (P : Named → Type 0) (lsid : Lsid) (number : ℤ) (t : Transaction) (parts : List (ℕ
    × ℕ)) → Id P lsid number t → AllNames P (map (co.commit_to lsid number t) parts)
commit_names P lsid number t parts p =
    each (PostNames P) (co.commit_to lsid number t) parts (λ x. p)

finished_names : (P : Named → Type 0) (lsid : Lsid) (number : ℤ) (asker : Option Asker)
    (phase : Phase) (t : Transaction) → Own P number t.tag (co.finished lsid number asker phase t)
finished_names P lsid number asker phase t =
    own P number (en.ended phase t) _ (none P) (record { aborts = none P; sends = none P })

waits_name : (P : Named → Type 0) (number : ℤ) (phase : Phase) (posts : List Post) (t : Transaction)
    → AllNames P posts → Own P number t.tag (co.waits number phase posts t)
waits_name P number phase posts t h = own P number (record t { phase = phase; waiting = posts }) _ h
    (record { aborts = none P; sends = h })

decides_by_name : (P : Named → Type 0) (lsid : Lsid) (number : ℤ) (asker : Option Asker)
    (t : Transaction) (parts : List (ℕ × ℕ)) → Id P lsid number t
    → Own P number t.tag (co.decides_by lsid number asker t parts)
decides_by_name P lsid number asker t [] p = finished_names P lsid number asker Released t
decides_by_name P lsid number asker t (first ∷ []) p = waits_name P number (Deciding asker) _ t
    (one (PostNames P) (co.commit_to lsid number t first) p)
decides_by_name P lsid number asker t (first ∷ second ∷ more) p = waits_name P number
    (Deciding asker) _ t (one (PostNames P) (co.commit_two_to lsid number t first) p)

decides_name : (P : Named → Type 0) (lsid : Lsid) (number : ℤ) (asker : Option Asker)
    (t : Transaction) → Id P lsid number t → Own P number t.tag (co.decides lsid number asker t)
decides_name P lsid number asker t p = decides_by_name P lsid number asker t (writers t) p

commits_by_name : (P : Named → Type 0) (lsid : Lsid) (number : ℤ) (asker : Option Asker)
    (t : Transaction) (parts : List (ℕ × ℕ)) → Id P lsid number t
    → Own P number t.tag (co.commits_by lsid number asker t parts)
commits_by_name P lsid number asker t [] p = decides_name P lsid number asker t p
commits_by_name P lsid number asker t (first ∷ more) p =
    waits_name P number (Checking asker) _ t (commit_names P lsid number t (first ∷ more) p)

commits_name : (P : Named → Type 0) (lsid : Lsid) (number : ℤ) (asker : Option Asker)
    (t : Transaction) → Id P lsid number t → Own P number t.tag (co.commits lsid number asker t)
commits_name P lsid number asker t p = commits_by_name P lsid number asker t (readers t) p

listens_name : (P : Named → Type 0) (lsid : Lsid) (number : ℤ) (asker : Asker) (t : Transaction)
    → Id P lsid number t → AllNames P t.waiting
    → Own P number t.tag (co.listens lsid number asker t)
listens_name P lsid number asker t p h =
    either (nat_eq (length t.waiting) 0) (Own P number t.tag) _ _ (decides_name P lsid number
    (Some asker) t p) (rests P number (record t { phase = Deciding (Some asker) }) h)

commit_phase : (P : Named → Type 0) (lsid : Lsid) (number : ℤ) (asker : Asker)
    (t : Transaction) (p : Phase) → Id P lsid number t → AllNames P t.waiting
    → Own P number t.tag (co.commit_asked lsid number asker (record t { phase = p }))
commit_phase P lsid number asker t Idle p h =
    commits_name P lsid number (Some asker) (record t { phase = Idle }) p
commit_phase P lsid number asker t (Asking other op answers) p h =
    rests P number (record t { phase = Asking other op answers }) h
commit_phase P lsid number asker t (Checking other) p h =
    rests P number (record t { phase = Checking (Some asker) }) h
commit_phase P lsid number asker t (Deciding other) p h =
    listens_name P lsid number asker (record t { phase = Deciding other }) p h
commit_phase P lsid number asker t Committed p h =
    finished_names P lsid number (Some asker) Committed (record t { phase = Committed })
commit_phase P lsid number asker t Released p h =
    finished_names P lsid number (Some asker) Released (record t { phase = Released })
commit_phase P lsid number asker t (Aborted sent) p h = own P number (record t
    { phase = Aborted sent }) _ h (record { aborts = none P; sends = none P })

pub commit_asked_names : (P : Named
    → Type 0) (lsid : Lsid) (number : ℤ) (asker : Asker) (t : Transaction) → Id P lsid number t
    → AllNames P t.waiting → Own P number t.tag (co.commit_asked lsid number asker t)
commit_asked_names P lsid number asker t p h = commit_phase P lsid number asker t t.phase p h

released_names : (P : Named → Type 0) (lsid : Lsid) (number : ℤ) (asker : Option Asker)
    (t : Transaction) (posts : List Post) → Id P lsid number t → AllNames P posts
    → Own P number t.tag (co.released lsid number asker t posts)
released_names P lsid number asker t [] p h = decides_name P lsid number asker t p
released_names P lsid number asker t (post ∷ posts) p h =
    rests P number (record t { waiting = post ∷ posts }) h

fails_name : (P : Named → Type 0) (lsid : Lsid) (number : ℤ) (asker : Option Asker) (o : Outcome)
    (t : Transaction) → Id P lsid number t → Own P number t.tag (co.fails lsid number asker o t)
fails_name P lsid number asker o t p =
    own P number (en.ended (Aborted true) t) _ (none P)
    (record {
      aborts =
          All-append (PostNames P) (without o.shard (en.aborts lsid number 5 t)) [] (without_name P
          o.shard (en.aborts lsid number 5 t) (aborts_name P lsid number 5 t p)) (none P);
      sends = none P;
    })

-- Statements.

statements_name : (P : Named → Type 0) (chunks : Map) (lsid : Lsid) (number : ℤ) (t : Transaction)
    (op : Op) → Id P lsid number t → AllNames P (st.statements_to chunks lsid number t op)
statements_name P chunks lsid number t op p =
    each (PostNames P) (st.statement_to chunks lsid number t op) _ (λ x. p)

pub asks_name : (P : Named
    → Type 0) (chunks : Map) (lsid : Lsid) (number : ℤ) (asker : Asker) (op : Op) (t : Transaction)
    → Id P lsid number t → Own P number t.tag (st.asks chunks lsid number asker op t)
asks_name P chunks lsid number asker op t p =
    let sent = statements_name P chunks lsid number t op p in
    record {
      number_is = refl;
      doing = (refl, sent);
      given = record { aborts = none P; sends = sent };
    }

refuses_name : (P : Named
    → Type 0) (lsid : Lsid) (number : ℤ) (asker : Asker) (t : Transaction) (refusal : ℕ × Cause)
    → Id P lsid number t → Own P number t.tag (st.refuses lsid number asker t refusal)
refuses_name P lsid number asker t refusal p =
    own P number (en.ended (Aborted false) t) _ (none P)
    (record {
      aborts =
          All-append (PostNames P) (without refusal.0 (en.aborts lsid number 5 t)) [] (without_name
          P refusal.0 (en.aborts lsid number 5 t) (aborts_name P lsid number 5 t p)) (none P);
      sends = none P;
    })

replies_name : (P : Named → Type 0) (lsid : Lsid) (number : ℤ) (asker : Asker) (op : Op)
    (t : Transaction) (r : OpReply) → Id P lsid number t → AllNames P t.waiting
    → Own P number t.tag (st.replies lsid number asker op t r)
replies_name P lsid number asker op t r p h =
    either (is_own lsid && not (st.is_cut r)) (Own P number t.tag)
    (co.commits lsid number (Some asker) (record t { reply = Some (st.reply_of op r None) }))
    (in_session number t (telling (told asker (st.reply_of op r (Some (token_of t))) ∷ [])))
    (commits_name P lsid number (Some asker) (record t { reply = Some (st.reply_of op r None) }) p)
    (own P number t _ h (record { aborts = none P; sends = none P }))

concludes_by_name : (P : Named → Type 0) (lsid : Lsid) (number : ℤ) (asker : Asker) (op : Op)
    (answers : List (ℕ × Answer)) (t : Transaction) (w : Option (ℕ × Cause)) → Id P lsid number t
    → Own P number t.tag (st.concludes_by lsid number asker op answers t w)
concludes_by_name P lsid number asker op answers t None p =
    replies_name P lsid number asker op (st.answered_by answers t) _ p (none P)
concludes_by_name P lsid number asker op answers t (Some refusal) p =
    refuses_name P lsid number asker t refusal p

taken_by_names : (P : Named → Type 0) (lsid : Lsid) (number : ℤ) (asker : Asker) (op : Op)
    (answers : List (ℕ × Answer)) (t : Transaction) (posts : List Post) → Id P lsid number t
    → AllNames P t.waiting → Own P number t.tag (st.taken_by lsid number asker op answers t posts)
taken_by_names P lsid number asker op answers t [] p h =
    concludes_by_name P lsid number asker op answers t _ p
taken_by_names P lsid number asker op answers t (post ∷ posts) p h = rests P number t h

answer_phase : (P : Named → Type 0) (lsid : Lsid) (number : ℤ) (a : Answer)
    (t : Transaction) (p : Phase) → Id P lsid number t → AllNames P t.waiting
    → Own P number t.tag (st.answer_to lsid number a (record t { phase = p }))
answer_phase P lsid number a t (Asking asker op answers) p h =
    taken_by_names P lsid number asker op (put nat_cmp a.shard a answers)
    (st.with_answer asker op answers a (record t { phase = Asking asker op answers }))
    (without a.shard t.waiting) p (without_name P a.shard t.waiting h)
answer_phase P lsid number a t Idle p h = rests P number (record t { phase = Idle }) h
answer_phase P lsid number a t (Checking asker) p h =
    rests P number (record t { phase = Checking asker }) h
answer_phase P lsid number a t (Deciding asker) p h =
    rests P number (record t { phase = Deciding asker }) h
answer_phase P lsid number a t Committed p h = rests P number (record t { phase = Committed }) h
answer_phase P lsid number a t Released p h = rests P number (record t { phase = Released }) h
answer_phase P lsid number a t (Aborted sent) p h =
    rests P number (record t { phase = Aborted sent }) h

on_answer_names : (P : Named → Type 0) (lsid : Lsid) (number : ℤ) (a : Answer) (t : Transaction)
    → Id P lsid number t → AllNames P t.waiting → Own P number t.tag (st.on_answer lsid number a t)
on_answer_names P lsid number a t p h =
    either (same_tag t.tag a.tag && nat_eq a.k t.k && is_waited a.shard t.waiting)
    (Own P number t.tag) _ _ (answer_phase P lsid number a t t.phase p h) (rests P number t h)

-- Outcomes.

checked_told : (P : Named → Type 0) (lsid : Lsid) (number : ℤ) (asker : Option Asker)
    (o : Outcome) (t : Transaction) (x : Told) → Id P lsid number t → AllNames P t.waiting
    → Own P number t.tag (co.checked lsid number asker (record o { told = x }) t)
checked_told P lsid number asker o t told_as.Released p h = released_names P lsid number asker t
    (without o.shard t.waiting) p (without_name P o.shard t.waiting h)
checked_told P lsid number asker o t (told_as.Committed at) p h =
    finished_names P lsid number asker Committed t
checked_told P lsid number asker o t (told_as.Aborted cause) p h =
    fails_name P lsid number asker (record o { told = told_as.Aborted cause }) t p
checked_told P lsid number asker o t (told_as.TooOld have) p h =
    fails_name P lsid number asker (record o { told = told_as.TooOld have }) t p
checked_told P lsid number asker o t told_as.NoTrace p h =
    fails_name P lsid number asker (record o { told = told_as.NoTrace }) t p

decided_told : (P : Named → Type 0) (lsid : Lsid) (number : ℤ)
    (asker : Option Asker) (o : Outcome) (t : Transaction) (x : Told)
    → Own P number t.tag (co.decided lsid number asker (record o { told = x }) t)
decided_told P lsid number asker o t told_as.Released =
    finished_names P lsid number asker Committed t
decided_told P lsid number asker o t (told_as.Committed at) =
    finished_names P lsid number asker Committed t
decided_told P lsid number asker o t (told_as.Aborted cause) =
    own P number (en.ended (Aborted true) t) _ (none P) (record { aborts = none P; sends = none P })
decided_told P lsid number asker o t (told_as.TooOld have) = own P number (en.ended (Deciding None)
    t) _ (none P) (record { aborts = none P; sends = none P })
decided_told P lsid number asker o t told_as.NoTrace = own P number (en.ended (Deciding None) t) _
    (none P) (record { aborts = none P; sends = none P })

counted_phase : (P : Named → Type 0) (lsid : Lsid) (number : ℤ) (o : Outcome)
    (t : Transaction) (p : Phase) → Id P lsid number t → AllNames P t.waiting
    → Own P number t.tag (co.counted lsid number o (record t { phase = p }))
counted_phase P lsid number o t (Checking asker) p h =
    checked_told P lsid number asker o (record t { phase = Checking asker }) o.told p h
counted_phase P lsid number o t (Deciding asker) p h =
    decided_told P lsid number asker o (record t { phase = Deciding asker }) o.told
counted_phase P lsid number o t Idle p h = rests P number (record t { phase = Idle }) h
counted_phase P lsid number o t (Asking asker op answers) p h =
    rests P number (record t { phase = Asking asker op answers }) h
counted_phase P lsid number o t Committed p h = rests P number (record t { phase = Committed }) h
counted_phase P lsid number o t Released p h = rests P number (record t { phase = Released }) h
counted_phase P lsid number o t (Aborted sent) p h =
    rests P number (record t { phase = Aborted sent }) h

on_outcome_names : (P : Named → Type 0) (lsid : Lsid) (number : ℤ) (o : Outcome) (t : Transaction)
    → Id P lsid number t → AllNames P t.waiting → Own P number t.tag (co.on_outcome lsid number o t)
on_outcome_names P lsid number o t p h =
    either (same_tag t.tag o.tag && is_waited o.shard t.waiting) (Own P number t.tag) _ _
    (counted_phase P lsid number o t t.phase p h) (rests P number t h)

-- Ends that clients ask for, and those of sessions and connections.

client_ends : (P : Named → Type 0) (lsid : Lsid) (number : ℤ) (asker : Asker) (t : Transaction)
    → Id P lsid number t → AllNames P (en.aborts lsid number 1 t)
client_ends P lsid number asker t p = aborts_name P lsid number 1 t p

client_given : (P : Named → Type 0) (lsid : Lsid) (number : ℤ) (t : Transaction)
    → Id P lsid number t
    → AllNames P (both (aborting (en.aborts lsid number 1 t)) (telling [])).aborts
client_given P lsid number t p = All-append (PostNames P) (en.aborts lsid number 1 t) []
    (aborts_name P lsid number 1 t p) (none P)

client_phase : (P : Named → Type 0) (lsid : Lsid) (number : ℤ) (asker : Asker)
    (t : Transaction) (p : Phase) → Id P lsid number t → AllNames P t.waiting
    → Own P number t.tag (en.client_aborts lsid number asker (record t { phase = p }))
client_phase P lsid number asker t (Aborted sent) p h = own P number (record t
    { phase = Aborted sent }) _ h (record { aborts = none P; sends = none P })
client_phase P lsid number asker t Idle p h = record {
  number_is = refl;
  doing = (refl, none P);
  given = record { aborts = client_given P lsid number t p; sends = none P };
}
client_phase P lsid number asker t (Asking other op answers) p h = record {
  number_is = refl;
  doing = (refl, none P);
  given = record { aborts = client_given P lsid number t p; sends = none P };
}
client_phase P lsid number asker t (Checking other) p h = record {
  number_is = refl;
  doing = (refl, none P);
  given = record { aborts = client_given P lsid number t p; sends = none P };
}
client_phase P lsid number asker t (Deciding other) p h = record {
  number_is = refl;
  doing = (refl, none P);
  given = record { aborts = client_given P lsid number t p; sends = none P };
}
client_phase P lsid number asker t Committed p h = record {
  number_is = refl;
  doing = (refl, none P);
  given = record { aborts = client_given P lsid number t p; sends = none P };
}
client_phase P lsid number asker t Released p h = record {
  number_is = refl;
  doing = (refl, none P);
  given = record { aborts = client_given P lsid number t p; sends = none P };
}

pub client_aborts_name : (P : Named
    → Type 0) (lsid : Lsid) (number : ℤ) (asker : Asker) (t : Transaction) → Id P lsid number t
    → AllNames P t.waiting → Own P number t.tag (en.client_aborts lsid number asker t)
client_aborts_name P lsid number asker t p h = client_phase P lsid number asker t t.phase p h

gone_phase : (P : Named → Type 0) (conn : ℕ) (lsid : Lsid) (number : ℤ) (t : Transaction)
    (p : Phase) → Id P lsid number t → AllNames P t.waiting
    → Own P number t.tag (en.gone_asking conn lsid
    (record { number = number; doing = Begun (record t { phase = p }) })
    (record t { phase = p }))
gone_phase P conn lsid number t (Asking asker op answers) p h =
    ends_name P lsid number 4 (record t { phase = Asking asker op answers }) p
gone_phase P conn lsid number t (Checking asker) p h =
    rests P number (record t { phase = Checking None }) h
gone_phase P conn lsid number t (Deciding asker) p h =
    rests P number (record t { phase = Deciding None }) h
gone_phase P conn lsid number t Idle p h = rests P number (record t { phase = Idle }) h
gone_phase P conn lsid number t Committed p h = rests P number (record t { phase = Committed }) h
gone_phase P conn lsid number t Released p h = rests P number (record t { phase = Released }) h
gone_phase P conn lsid number t (Aborted sent) p h =
    rests P number (record t { phase = Aborted sent }) h

-- In any session.

own_doing : (P : Named → Type 0) (lsid : Lsid) (number own : ℤ) (tag : Tag) (doing : Doing)
    → P (name_of lsid number tag) → own ≡ number → BegunAs P tag doing → DoingNames P lsid own doing
own_doing P lsid number own tag (Begun t) p is h = (
  subst (λ (n : ℤ). P (name_of lsid n t.tag)) (sym is)
      (subst (λ (x : Tag). P (name_of lsid number x)) (sym h.0) p),
  h.1,
)
own_doing P lsid number own tag (Sought seeking known) p is h = absurd h

own_same : (P : Named → Type 0) (t : Transaction) (doing : Doing) → BegunAs P t.tag doing
    → SameDoing (Begun t) doing
own_same P t (Begun u) h = h.0
own_same P t (Sought seeking known) h = absurd h

pub own_deed : (P : Named → Type 0) (lsid : Lsid) (number : ℤ) (t : Transaction) (d : Deed)
    → Id P lsid number t → Own P number t.tag d
    → DeedNames P lsid (record { number = number; doing = Begun t }) d
own_deed P lsid number t d p h = record {
  doing = own_doing P lsid number d.session.number t.tag d.session.doing p h.number_is h.doing;
  given = h.given;
  goes = inr (h.number_is, own_same P t d.session.doing h.doing);
}

same_self : (doing : Doing) → SameDoing doing doing
same_self (Begun t) = refl
same_self (Sought seeking known) = tt

pub stays_names : (P : Named → Type 0) (lsid : Lsid) (s : Session)
    → DoingNames P lsid s.number s.doing → DeedNames P lsid s (stays s)
stays_names P lsid s h =
    record { doing = h; given = no_given P; goes = inr (refl, same_self s.doing) }

sought_names : (P : Named → Type 0) (lsid : Lsid) (number : ℤ) (old : Option Seeking)
    (was : List Tag) (seeking : Option Seeking) (known : List Tag) (g : Given) → GivenNames P g
    → DeedNames P lsid (record { number = number; doing = Sought old was })
    (tk.sought number seeking known g)
sought_names P lsid number old was seeking known g h =
    record { doing = tt; given = h; goes = inr (refl, tt) }

pub answered_names : (P : Named → Type 0) (a : Answer) (lsid : Lsid) (number : ℤ) (doing : Doing)
    → DoingNames P lsid number doing → DeedNames P lsid (record { number = number; doing = doing })
    (answered_in a lsid (record { number = number; doing = doing }))
answered_names P a lsid number (Begun t) h =
    own_deed P lsid number t _ h.0 (on_answer_names P lsid number a t h.0 h.1)
answered_names P a lsid number (Sought seeking known) h =
    stays_names P lsid (record { number = number; doing = Sought seeking known }) h

recovered_names : (P : Named
    → Type 0) (lsid : Lsid) (number : ℤ) (seeking : Option Seeking) (known : List Tag) (o : Outcome)
    → DeedNames P lsid (record { number = number; doing = Sought seeking known })
    (tk.on_recovered number seeking known o)
recovered_names P lsid number None known o =
    sought_names P lsid number None known None known nothing (no_given P)
recovered_names P lsid number (Some k) known o =
    either (same_tag k.tag o.tag && nat_eq k.shard o.shard)
    (DeedNames P lsid (record { number = number; doing = Sought (Some k) known })) _ _
    (sought_names P lsid number (Some k) known None _ _
    (record { aborts = none P; sends = none P }))
    (sought_names P lsid number (Some k) known (Some k) known nothing (no_given P))

pub ended_names : (P : Named → Type 0) (o : Outcome) (lsid : Lsid) (number : ℤ) (doing : Doing)
    → DoingNames P lsid number doing → DeedNames P lsid (record { number = number; doing = doing })
    (ended_in o lsid (record { number = number; doing = doing }))
ended_names P o lsid number (Begun t) h =
    own_deed P lsid number t _ h.0 (on_outcome_names P lsid number o t h.0 h.1)
ended_names P o lsid number (Sought seeking known) h = recovered_names P lsid number seeking known o

gone_doing : (P : Named → Type 0) (conn : ℕ) (lsid : Lsid) (number : ℤ) (doing : Doing)
    → DoingNames P lsid number doing → DeedNames P lsid (record { number = number; doing = doing })
    (en.gone_in conn lsid (record { number = number; doing = doing }))
gone_doing P conn lsid number (Begun t) h =
    own_deed P lsid number t _ h.0 (gone_phase P conn lsid number t t.phase h.0 h.1)
gone_doing P conn lsid number (Sought seeking known) h =
    sought_names P lsid number seeking known (en.unheard seeking) known nothing (no_given P)

pub gone_names : (P : Named → Type 0) (conn : ℕ) (lsid : Lsid) (s : Session)
    → DoingNames P lsid s.number s.doing → DeedNames P lsid s (en.gone_from conn lsid s)
gone_names P conn lsid s h = either (is_from conn (asker_of s.doing)) (DeedNames P lsid s) _ _
    (gone_doing P conn lsid s.number s.doing h) (stays_names P lsid s h)

session_doing : (P : Named → Type 0) (lsid : Lsid) (number : ℤ) (doing : Doing)
    → DoingNames P lsid number doing → DeedNames P lsid (record { number = number; doing = doing })
    (en.ends_session lsid (record { number = number; doing = doing }))
session_doing P lsid number (Begun t) h =
    either (is_none (asker_of (Begun t)) && not (commit_sent t.phase))
    (DeedNames P lsid (record { number = number; doing = Begun t })) _ _
    (own_deed P lsid number t _ h.0 (ends_name P lsid number 2 t h.0))
    (stays_names P lsid (record { number = number; doing = Begun t }) h)
session_doing P lsid number (Sought seeking known) h =
    stays_names P lsid (record { number = number; doing = Sought seeking known }) h

pub session_names : (P : Named → Type 0) (lsid : Lsid) (s : Session)
    → DoingNames P lsid s.number s.doing → DeedNames P lsid s (en.ends_session lsid s)
session_names P lsid s h = session_doing P lsid s.number s.doing h

-- Tokens.

pub anew_given : (P : Named → Type 0) (lsid : Lsid) (number : ℤ) (k : Seeking) (known : List Tag)
    → GivenNames P (tk.asks_anew lsid number k known).given
anew_given P lsid number k known =
    record { aborts = none P; sends = one (PostNames P) (tk.recover_to lsid number k) tt }

asks_for_names : (P : Named → Type 0) (lsid : Lsid) (number : ℤ) (k : Seeking)
    (was older : Option Seeking) (known : List Tag) → DeedNames P lsid
    (record { number = number; doing = Sought was known }) (tk.asks_for lsid number k older known)
asks_for_names P lsid number k was None known =
    record { doing = tt; given = anew_given P lsid number k known; goes = inr (refl, tt) }
asks_for_names P lsid number k was (Some older) known =
    either (tk.same_place older k)
    (DeedNames P lsid (record { number = number; doing = Sought was known })) _ _
    (record { doing = tt; given = no_given P; goes = inr (refl, tt) })
    (record { doing = tt; given = anew_given P lsid number k known; goes = inr (refl, tt) })

pub seeks_in_names : (P : Named → Type 0) (lsid : Lsid) (number : ℤ)
    (asker : Asker) (k : Seeking) (seeking : Option Seeking) (known : List Tag)
    → DeedNames P lsid (record { number = number; doing = Sought seeking known }) (tk.seeks_in lsid
    number asker k seeking known)
seeks_in_names P lsid number asker k seeking known =
    either (tk.is_known k.tag known)
    (DeedNames P lsid (record { number = number; doing = Sought seeking known })) _ _
    (record {
      doing = tt;
      given = record { aborts = none P; sends = none P };
      goes = inr (refl, tt);
    }) (asks_for_names P lsid number k seeking seeking known)
