-- What is done in a session sends again what waits, or asks a statement; and its transaction goes
-- on.
use Rattle.std.proofs.Common.{◌≡◌, inr, ℕ, ℤ, true, false, not, ◌&&◌, List, [], ◌∷◌, map, length}
use Rattle.std.proofs.Common.{nat_eq, is_none, Option, Some, None, refl, ◌≤◌, arith}
use Rattle.std.proofs.lemmas.List.Elements.{All-nil, All-append, All-filter}
use Rattle.std.specs.Ordering.{nat_cmp}
use Rattle.txn_types.specs.Order.{same_tag}
use Rattle.txn_types.specs.declared.cause.Cause.{Cause}
use Rattle.txn_types.specs.declared.decision.Told.{Told}
use Rattle.txn_types.specs.declared.decision.Told.TheVariants as told_as
use Rattle.txn_types.specs.declared.message.Answer.{Answer}
use Rattle.txn_types.specs.declared.message.Outcome.{Outcome}
use Rattle.txn_types.specs.declared.names.Tag.{Tag}
use Rattle.txn_types.specs.declared.node.Lsid.{Lsid}
use Rattle.txn_types.specs.declared.operation.Op.{Op}
use Rattle.txn_types.specs.declared.operation.OpReply.{OpReply}
use Rattle.txn_semantics.specs.Keyed.{put}
use Rattle.chunk_map.specs.Map.{Map}
use Rattle.router_state.specs.declared.deed.Deed.{Deed}
use Rattle.router_state.specs.declared.deed.Given.{Given}
use Rattle.router_state.specs.declared.state.Asker.{Asker}
use Rattle.router_state.specs.declared.state.Doing.{Doing}
use Rattle.router_state.specs.declared.state.Doing.TheVariants.{Begun, Sought}
use Rattle.router_state.specs.declared.state.Phase.{Phase}
use Rattle.router_state.specs.declared.state.Phase.TheVariants.{Idle, Asking, Checking, Deciding}
use Rattle.router_state.specs.declared.state.Phase.TheVariants.{Committed, Released, Aborted}
use Rattle.router_state.specs.declared.state.Seeking.{Seeking}
use Rattle.router_state.specs.declared.state.Session.{Session}
use Rattle.router_state.specs.declared.state.Transaction.{Transaction}
use Rattle.router_state.specs.State.{Post, asker_of, is_from, commit_sent, is_unfinished, is_waited}
use Rattle.router_state.specs.State.{is_own, without, token_of}
use Rattle.router_state.specs.Shards.{writers, readers}
use Rattle.router_state.specs.Deeds.{nothing, aborting, telling, told, both, in_session, stays}
use Rattle.router_rules.specs.Commits as co
use Rattle.router_rules.specs.Ends as en
use Rattle.router_rules.specs.Serving.{answered_in, ended_in}
use Rattle.router_rules.specs.Statements as st
use Rattle.router_rules.specs.Tokens as tk
use Rattle.participant.proofs.Cases.{either}
use Rattle.txn_types.specs.declared.message.Statement.{Statement}
use Rattle.answer_laws.proofs.Fits.{PostFits, AllFit, DoingFits, GivenFit, SameDoing, DeedFits}
use Rattle.world_laws.proofs.Naming.{one, each}

abbrev pub BegunAs : (ℕ → Statement → Type 0) → Tag → ℕ → Doing → Type 0
BegunAs Q tag k (Begun t) = (t.tag ≡ tag) × (k ≤ t.k) × AllFit Q t.waiting
BegunAs Q tag k (Sought seeking known) = ⊥

-- the session's transaction stays, and is all that is named
pub record Own (Q : ℕ → Statement → Type 0) (number : ℤ) (tag : Tag) (k : ℕ)
    (d : Deed) : Type 0 where
  pub number_is : d.session.number ≡ number
  pub doing : BegunAs Q tag k d.session.doing
  pub given : GivenFit Q d.given

none : (Q : ℕ → Statement → Type 0) → AllFit Q []
none Q = All-nil (PostFits Q)

no_given : (Q : ℕ → Statement → Type 0) → GivenFit Q nothing
no_given Q = record { aborts = none Q; sends = none Q }

pub both_name : (Q : ℕ → Statement → Type 0) (a b : Given) → GivenFit Q a → GivenFit Q b
    → GivenFit Q (both a b)
both_name Q a b h k = record {
  aborts = All-append (PostFits Q) a.aborts b.aborts h.aborts k.aborts;
  sends = All-append (PostFits Q) a.sends b.sends h.sends k.sends;
}

-- a transaction that waits for these, and what goes out
own : (Q : ℕ → Statement → Type 0) (number : ℤ) (t : Transaction) (g : Given) → AllFit Q t.waiting
    → GivenFit Q g → Own Q number t.tag t.k (in_session number t g)
own Q number t g w k = record { number_is = refl; doing = (refl, omega arith, w); given = k }

rests : (Q : ℕ → Statement → Type 0) (number : ℤ) (t : Transaction) → AllFit Q t.waiting
    → Own Q number t.tag t.k (in_session number t nothing)
rests Q number t h = own Q number t nothing h (no_given Q)

-- Ends.

aborts_name : (Q : ℕ → Statement → Type 0) (lsid : Lsid) (number : ℤ) (why : ℕ) (t : Transaction)
    → AllFit Q (en.aborts lsid number why t)
aborts_name Q lsid number why t =
    each (PostFits Q) (en.abort_to lsid number why t.tag) t.parts (λ x. tt)

without_name : (Q : ℕ → Statement → Type 0) (shard : ℕ) (posts : List Post) → AllFit Q posts
    → AllFit Q (without shard posts)
without_name Q shard posts h = All-filter (λ post. not (nat_eq post.0 shard)) (PostFits Q) posts h

ends_name : (Q : ℕ → Statement → Type 0) (lsid : Lsid) (number : ℤ) (why : ℕ) (t : Transaction)
    → Own Q number t.tag t.k (en.ends lsid number why t)
ends_name Q lsid number why t = own Q number (en.aborted t) _ (none Q)
    (record { aborts = aborts_name Q lsid number why t; sends = none Q })

leaves_doing : (Q : ℕ → Statement → Type 0) (lsid : Lsid) (number : ℤ) (doing : Doing)
    → AllFit Q (en.leaves lsid (record { number = number; doing = doing }))
leaves_doing Q lsid number (Begun t) =
    either (is_unfinished t.phase) (AllFit Q) _ _ (aborts_name Q lsid number 6 t) (none Q)
leaves_doing Q lsid number (Sought seeking known) = none Q

pub leaves_any : (Q : ℕ → Statement → Type 0) (lsid : Lsid) (s : Session)
    → AllFit Q (en.leaves lsid s)
leaves_any Q lsid s = leaves_doing Q lsid s.number s.doing

pub leaves_name : (Q : ℕ → Statement → Type 0) (lsid : Lsid) (s : Session) → DoingFits Q s.doing
    → AllFit Q (en.leaves lsid s)
leaves_name Q lsid s h = leaves_any Q lsid s

-- Commits.

commit_names : (Q : ℕ → Statement → Type 0) (lsid : Lsid) (number : ℤ) (t : Transaction)
    (parts : List (ℕ × ℕ)) → AllFit Q (map (co.commit_to lsid number t) parts)
commit_names Q lsid number t parts = each (PostFits Q) (co.commit_to lsid number t) parts (λ x. tt)

finished_names : (Q : ℕ → Statement
    → Type 0) (lsid : Lsid) (number : ℤ) (asker : Option Asker) (phase : Phase) (t : Transaction)
    → Own Q number t.tag t.k (co.finished lsid number asker phase t)
finished_names Q lsid number asker phase t =
    own Q number (en.ended phase t) _ (none Q) (record { aborts = none Q; sends = none Q })

waits_name : (Q : ℕ → Statement → Type 0) (number : ℤ) (phase : Phase) (posts : List Post)
    (t : Transaction) → AllFit Q posts → Own Q number t.tag t.k (co.waits number phase posts t)
waits_name Q number phase posts t h = own Q number (record t { phase = phase; waiting = posts }) _ h
    (record { aborts = none Q; sends = h })

decides_by_name : (Q : ℕ → Statement → Type 0) (lsid : Lsid) (number : ℤ)
    (asker : Option Asker) (t : Transaction) (parts : List (ℕ × ℕ))
    → Own Q number t.tag t.k (co.decides_by lsid number asker t parts)
decides_by_name Q lsid number asker t [] = finished_names Q lsid number asker Released t
decides_by_name Q lsid number asker t (first ∷ []) = waits_name Q number (Deciding asker) _ t
    (one (PostFits Q) (co.commit_to lsid number t first) tt)
decides_by_name Q lsid number asker t (first ∷ second ∷ more) = waits_name Q number (Deciding asker)
    _ t (one (PostFits Q) (co.commit_two_to lsid number t first) tt)

decides_name : (Q : ℕ → Statement → Type 0) (lsid : Lsid) (number : ℤ) (asker : Option Asker)
    (t : Transaction) → Own Q number t.tag t.k (co.decides lsid number asker t)
decides_name Q lsid number asker t = decides_by_name Q lsid number asker t (writers t)

commits_by_name : (Q : ℕ → Statement → Type 0) (lsid : Lsid) (number : ℤ)
    (asker : Option Asker) (t : Transaction) (parts : List (ℕ × ℕ))
    → Own Q number t.tag t.k (co.commits_by lsid number asker t parts)
commits_by_name Q lsid number asker t [] = decides_name Q lsid number asker t
commits_by_name Q lsid number asker t (first ∷ more) =
    waits_name Q number (Checking asker) _ t (commit_names Q lsid number t (first ∷ more))

commits_name : (Q : ℕ → Statement → Type 0) (lsid : Lsid) (number : ℤ) (asker : Option Asker)
    (t : Transaction) → Own Q number t.tag t.k (co.commits lsid number asker t)
commits_name Q lsid number asker t = commits_by_name Q lsid number asker t (readers t)

listens_name : (Q : ℕ → Statement → Type 0) (lsid : Lsid) (number : ℤ) (asker : Asker)
    (t : Transaction) → AllFit Q t.waiting → Own Q number t.tag t.k (co.listens lsid number asker t)
listens_name Q lsid number asker t h =
    either (nat_eq (length t.waiting) 0) (Own Q number t.tag t.k) _ _ (decides_name Q lsid number
    (Some asker) t) (rests Q number (record t { phase = Deciding (Some asker) }) h)

commit_phase : (Q : ℕ → Statement → Type 0) (lsid : Lsid) (number : ℤ)
    (asker : Asker) (t : Transaction) (p : Phase) → AllFit Q t.waiting
    → Own Q number t.tag t.k (co.commit_asked lsid number asker (record t { phase = p }))
commit_phase Q lsid number asker t Idle h =
    commits_name Q lsid number (Some asker) (record t { phase = Idle })
commit_phase Q lsid number asker t (Asking other op answers) h =
    rests Q number (record t { phase = Asking other op answers }) h
commit_phase Q lsid number asker t (Checking other) h =
    rests Q number (record t { phase = Checking (Some asker) }) h
commit_phase Q lsid number asker t (Deciding other) h =
    listens_name Q lsid number asker (record t { phase = Deciding other }) h
commit_phase Q lsid number asker t Committed h =
    finished_names Q lsid number (Some asker) Committed (record t { phase = Committed })
commit_phase Q lsid number asker t Released h =
    finished_names Q lsid number (Some asker) Released (record t { phase = Released })
commit_phase Q lsid number asker t (Aborted sent) h = own Q number (record t
    { phase = Aborted sent }) _ h (record { aborts = none Q; sends = none Q })

pub commit_asked_names : (Q : ℕ → Statement
    → Type 0) (lsid : Lsid) (number : ℤ) (asker : Asker) (t : Transaction) → AllFit Q t.waiting
    → Own Q number t.tag t.k (co.commit_asked lsid number asker t)
commit_asked_names Q lsid number asker t h = commit_phase Q lsid number asker t t.phase h

released_names : (Q : ℕ → Statement → Type 0) (lsid : Lsid) (number : ℤ)
    (asker : Option Asker) (t : Transaction) (posts : List Post) → AllFit Q posts
    → Own Q number t.tag t.k (co.released lsid number asker t posts)
released_names Q lsid number asker t [] h = decides_name Q lsid number asker t
released_names Q lsid number asker t (post ∷ posts) h =
    rests Q number (record t { waiting = post ∷ posts }) h

fails_name : (Q : ℕ → Statement → Type 0) (lsid : Lsid) (number : ℤ) (asker : Option Asker)
    (o : Outcome) (t : Transaction) → Own Q number t.tag t.k (co.fails lsid number asker o t)
fails_name Q lsid number asker o t =
    own Q number (en.ended (Aborted true) t) _ (none Q)
    (record {
      aborts =
          All-append (PostFits Q) (without o.shard (en.aborts lsid number 5 t)) [] (without_name Q
          o.shard (en.aborts lsid number 5 t) (aborts_name Q lsid number 5 t)) (none Q);
      sends = none Q;
    })

-- Statements.

pub asks_name : (Q : ℕ → Statement → Type 0) (chunks : Map) (lsid : Lsid) (number : ℤ) (asker :
    Asker) (op : Op) (t : Transaction) → AllFit Q (st.statements_to chunks lsid number t op)
    → Own Q number t.tag t.k (st.asks chunks lsid number asker op t)
asks_name Q chunks lsid number asker op t sent = record {
  number_is = refl;
  doing = (refl, omega arith, sent);
  given = record { aborts = none Q; sends = sent };
}

refuses_name : (Q : ℕ → Statement
    → Type 0) (lsid : Lsid) (number : ℤ) (asker : Asker) (t : Transaction) (refusal : ℕ × Cause)
    → Own Q number t.tag t.k (st.refuses lsid number asker t refusal)
refuses_name Q lsid number asker t refusal =
    own Q number (en.ended (Aborted false) t) _ (none Q)
    (record {
      aborts =
          All-append (PostFits Q) (without refusal.0 (en.aborts lsid number 5 t)) [] (without_name Q
          refusal.0 (en.aborts lsid number 5 t) (aborts_name Q lsid number 5 t)) (none Q);
      sends = none Q;
    })

replies_name : (Q : ℕ → Statement
    → Type 0) (lsid : Lsid) (number : ℤ) (asker : Asker) (op : Op) (t : Transaction) (r : OpReply)
    → AllFit Q t.waiting → Own Q number t.tag t.k (st.replies lsid number asker op t r)
replies_name Q lsid number asker op t r h =
    either (is_own lsid && not (st.is_cut r)) (Own Q number t.tag t.k)
    (co.commits lsid number (Some asker) (record t { reply = Some (st.reply_of op r None) }))
    (in_session number t (telling (told asker (st.reply_of op r (Some (token_of t))) ∷ [])))
    (commits_name Q lsid number (Some asker) (record t { reply = Some (st.reply_of op r None) }))
    (own Q number t _ h (record { aborts = none Q; sends = none Q }))

concludes_by_name : (Q : ℕ → Statement → Type 0) (lsid : Lsid) (number : ℤ) (asker : Asker)
    (op : Op) (answers : List (ℕ × Answer)) (t : Transaction) (w : Option (ℕ × Cause))
    → Own Q number t.tag t.k (st.concludes_by lsid number asker op answers t w)
concludes_by_name Q lsid number asker op answers t None =
    replies_name Q lsid number asker op (st.answered_by answers t) _ (none Q)
concludes_by_name Q lsid number asker op answers t (Some refusal) =
    refuses_name Q lsid number asker t refusal

taken_by_names : (Q : ℕ → Statement → Type 0) (lsid : Lsid) (number : ℤ) (asker : Asker) (op : Op)
    (answers : List (ℕ × Answer)) (t : Transaction) (posts : List Post) → AllFit Q t.waiting
    → Own Q number t.tag t.k (st.taken_by lsid number asker op answers t posts)
taken_by_names Q lsid number asker op answers t [] h =
    concludes_by_name Q lsid number asker op answers t _
taken_by_names Q lsid number asker op answers t (post ∷ posts) h = rests Q number t h

answer_phase : (Q : ℕ → Statement → Type 0) (lsid : Lsid) (number : ℤ)
    (a : Answer) (t : Transaction) (p : Phase) → AllFit Q t.waiting
    → Own Q number t.tag t.k (st.answer_to lsid number a (record t { phase = p }))
answer_phase Q lsid number a t (Asking asker op answers) h =
    taken_by_names Q lsid number asker op (put nat_cmp a.shard a answers)
    (st.with_answer asker op answers a (record t { phase = Asking asker op answers }))
    (without a.shard t.waiting) (without_name Q a.shard t.waiting h)
answer_phase Q lsid number a t Idle h = rests Q number (record t { phase = Idle }) h
answer_phase Q lsid number a t (Checking asker) h =
    rests Q number (record t { phase = Checking asker }) h
answer_phase Q lsid number a t (Deciding asker) h =
    rests Q number (record t { phase = Deciding asker }) h
answer_phase Q lsid number a t Committed h = rests Q number (record t { phase = Committed }) h
answer_phase Q lsid number a t Released h = rests Q number (record t { phase = Released }) h
answer_phase Q lsid number a t (Aborted sent) h =
    rests Q number (record t { phase = Aborted sent }) h

on_answer_names : (Q : ℕ → Statement → Type 0) (lsid : Lsid) (number : ℤ) (a : Answer)
    (t : Transaction) → AllFit Q t.waiting → Own Q number t.tag t.k (st.on_answer lsid number a t)
on_answer_names Q lsid number a t h =
    either (same_tag t.tag a.tag && nat_eq a.k t.k && is_waited a.shard t.waiting)
    (Own Q number t.tag t.k) _ _ (answer_phase Q lsid number a t t.phase h) (rests Q number t h)

-- Outcomes.

checked_told : (Q : ℕ → Statement → Type 0) (lsid : Lsid) (number : ℤ)
    (asker : Option Asker) (o : Outcome) (t : Transaction) (x : Told) → AllFit Q t.waiting
    → Own Q number t.tag t.k (co.checked lsid number asker (record o { told = x }) t)
checked_told Q lsid number asker o t told_as.Released h = released_names Q lsid number asker t
    (without o.shard t.waiting) (without_name Q o.shard t.waiting h)
checked_told Q lsid number asker o t (told_as.Committed at) h =
    finished_names Q lsid number asker Committed t
checked_told Q lsid number asker o t (told_as.Aborted cause) h =
    fails_name Q lsid number asker (record o { told = told_as.Aborted cause }) t
checked_told Q lsid number asker o t (told_as.TooOld have) h =
    fails_name Q lsid number asker (record o { told = told_as.TooOld have }) t
checked_told Q lsid number asker o t told_as.NoTrace h =
    fails_name Q lsid number asker (record o { told = told_as.NoTrace }) t

decided_told : (Q : ℕ → Statement → Type 0) (lsid : Lsid) (number : ℤ)
    (asker : Option Asker) (o : Outcome) (t : Transaction) (x : Told)
    → Own Q number t.tag t.k (co.decided lsid number asker (record o { told = x }) t)
decided_told Q lsid number asker o t told_as.Released =
    finished_names Q lsid number asker Committed t
decided_told Q lsid number asker o t (told_as.Committed at) =
    finished_names Q lsid number asker Committed t
decided_told Q lsid number asker o t (told_as.Aborted cause) =
    own Q number (en.ended (Aborted true) t) _ (none Q) (record { aborts = none Q; sends = none Q })
decided_told Q lsid number asker o t (told_as.TooOld have) = own Q number (en.ended (Deciding None)
    t) _ (none Q) (record { aborts = none Q; sends = none Q })
decided_told Q lsid number asker o t told_as.NoTrace = own Q number (en.ended (Deciding None) t) _
    (none Q) (record { aborts = none Q; sends = none Q })

counted_phase : (Q : ℕ → Statement → Type 0) (lsid : Lsid) (number : ℤ)
    (o : Outcome) (t : Transaction) (p : Phase) → AllFit Q t.waiting
    → Own Q number t.tag t.k (co.counted lsid number o (record t { phase = p }))
counted_phase Q lsid number o t (Checking asker) h =
    checked_told Q lsid number asker o (record t { phase = Checking asker }) o.told h
counted_phase Q lsid number o t (Deciding asker) h =
    decided_told Q lsid number asker o (record t { phase = Deciding asker }) o.told
counted_phase Q lsid number o t Idle h = rests Q number (record t { phase = Idle }) h
counted_phase Q lsid number o t (Asking asker op answers) h =
    rests Q number (record t { phase = Asking asker op answers }) h
counted_phase Q lsid number o t Committed h = rests Q number (record t { phase = Committed }) h
counted_phase Q lsid number o t Released h = rests Q number (record t { phase = Released }) h
counted_phase Q lsid number o t (Aborted sent) h =
    rests Q number (record t { phase = Aborted sent }) h

on_outcome_names : (Q : ℕ → Statement → Type 0) (lsid : Lsid) (number : ℤ) (o : Outcome)
    (t : Transaction) → AllFit Q t.waiting → Own Q number t.tag t.k (co.on_outcome lsid number o t)
on_outcome_names Q lsid number o t h = either (same_tag t.tag o.tag && is_waited o.shard t.waiting)
    (Own Q number t.tag t.k) _ _ (counted_phase Q lsid number o t t.phase h) (rests Q number t h)

-- Ends that clients ask for, and those of sessions and connections.

client_ends : (Q : ℕ → Statement → Type 0) (lsid : Lsid) (number : ℤ) (asker : Asker)
    (t : Transaction) → AllFit Q (en.aborts lsid number 1 t)
client_ends Q lsid number asker t = aborts_name Q lsid number 1 t

client_given : (Q : ℕ → Statement → Type 0) (lsid : Lsid) (number : ℤ) (t : Transaction)
    → AllFit Q (both (aborting (en.aborts lsid number 1 t)) (telling [])).aborts
client_given Q lsid number t =
    All-append (PostFits Q) (en.aborts lsid number 1 t) [] (aborts_name Q lsid number 1 t) (none Q)

client_phase : (Q : ℕ → Statement → Type 0) (lsid : Lsid) (number : ℤ)
    (asker : Asker) (t : Transaction) (p : Phase) → AllFit Q t.waiting
    → Own Q number t.tag t.k (en.client_aborts lsid number asker (record t { phase = p }))
client_phase Q lsid number asker t (Aborted sent) h = own Q number (record t
    { phase = Aborted sent }) _ h (record { aborts = none Q; sends = none Q })
client_phase Q lsid number asker t Idle h = record {
  number_is = refl;
  doing = (refl, omega arith, none Q);
  given = record { aborts = client_given Q lsid number t; sends = none Q };
}
client_phase Q lsid number asker t (Asking other op answers) h = record {
  number_is = refl;
  doing = (refl, omega arith, none Q);
  given = record { aborts = client_given Q lsid number t; sends = none Q };
}
client_phase Q lsid number asker t (Checking other) h = record {
  number_is = refl;
  doing = (refl, omega arith, none Q);
  given = record { aborts = client_given Q lsid number t; sends = none Q };
}
client_phase Q lsid number asker t (Deciding other) h = record {
  number_is = refl;
  doing = (refl, omega arith, none Q);
  given = record { aborts = client_given Q lsid number t; sends = none Q };
}
client_phase Q lsid number asker t Committed h = record {
  number_is = refl;
  doing = (refl, omega arith, none Q);
  given = record { aborts = client_given Q lsid number t; sends = none Q };
}
client_phase Q lsid number asker t Released h = record {
  number_is = refl;
  doing = (refl, omega arith, none Q);
  given = record { aborts = client_given Q lsid number t; sends = none Q };
}

pub client_aborts_name : (Q : ℕ → Statement
    → Type 0) (lsid : Lsid) (number : ℤ) (asker : Asker) (t : Transaction) → AllFit Q t.waiting
    → Own Q number t.tag t.k (en.client_aborts lsid number asker t)
client_aborts_name Q lsid number asker t h = client_phase Q lsid number asker t t.phase h

gone_phase : (Q : ℕ → Statement → Type 0) (conn : ℕ) (lsid : Lsid) (number : ℤ) (t : Transaction)
    (p : Phase) → AllFit Q t.waiting
    → Own Q number t.tag t.k (en.gone_asking conn lsid
    (record { number = number; doing = Begun (record t { phase = p }) })
    (record t { phase = p }))
gone_phase Q conn lsid number t (Asking asker op answers) h =
    ends_name Q lsid number 4 (record t { phase = Asking asker op answers })
gone_phase Q conn lsid number t (Checking asker) h =
    rests Q number (record t { phase = Checking None }) h
gone_phase Q conn lsid number t (Deciding asker) h =
    rests Q number (record t { phase = Deciding None }) h
gone_phase Q conn lsid number t Idle h = rests Q number (record t { phase = Idle }) h
gone_phase Q conn lsid number t Committed h = rests Q number (record t { phase = Committed }) h
gone_phase Q conn lsid number t Released h = rests Q number (record t { phase = Released }) h
gone_phase Q conn lsid number t (Aborted sent) h =
    rests Q number (record t { phase = Aborted sent }) h

-- In any session.

own_doing : (Q : ℕ → Statement → Type 0) (tag : Tag) (k : ℕ) (doing : Doing) → BegunAs Q tag k doing
    → DoingFits Q doing
own_doing Q tag k (Begun t) h = h.2
own_doing Q tag k (Sought seeking known) h = absurd h

own_same : (Q : ℕ → Statement → Type 0) (t : Transaction) (doing : Doing)
    → BegunAs Q t.tag t.k doing → SameDoing (Begun t) doing
own_same Q t (Begun u) h = (h.0, h.1)
own_same Q t (Sought seeking known) h = absurd h

pub own_deed : (Q : ℕ → Statement → Type 0) (lsid : Lsid) (number : ℤ) (t : Transaction) (d : Deed)
    → Own Q number t.tag t.k d → DeedFits Q lsid (record { number = number; doing = Begun t }) d
own_deed Q lsid number t d h = record {
  doing = own_doing Q t.tag t.k d.session.doing h.doing;
  given = h.given;
  goes = inr (h.number_is, own_same Q t d.session.doing h.doing);
}

same_self : (doing : Doing) → SameDoing doing doing
same_self (Begun t) = (refl, omega arith)
same_self (Sought seeking known) = tt

pub stays_names : (Q : ℕ → Statement → Type 0) (lsid : Lsid) (s : Session) → DoingFits Q s.doing
    → DeedFits Q lsid s (stays s)
stays_names Q lsid s h =
    record { doing = h; given = no_given Q; goes = inr (refl, same_self s.doing) }

sought_names : (Q : ℕ → Statement → Type 0) (lsid : Lsid) (number : ℤ) (old : Option Seeking)
    (was : List Tag) (seeking : Option Seeking) (known : List Tag) (g : Given) → GivenFit Q g
    → DeedFits Q lsid (record { number = number; doing = Sought old was })
    (tk.sought number seeking known g)
sought_names Q lsid number old was seeking known g h =
    record { doing = tt; given = h; goes = inr (refl, tt) }

pub answered_names : (Q : ℕ → Statement → Type 0) (a : Answer) (lsid : Lsid) (number : ℤ) (doing :
    Doing) → DoingFits Q doing → DeedFits Q lsid (record { number = number; doing = doing })
    (answered_in a lsid (record { number = number; doing = doing }))
answered_names Q a lsid number (Begun t) h =
    own_deed Q lsid number t _ (on_answer_names Q lsid number a t h)
answered_names Q a lsid number (Sought seeking known) h =
    stays_names Q lsid (record { number = number; doing = Sought seeking known }) h

recovered_names : (Q : ℕ → Statement
    → Type 0) (lsid : Lsid) (number : ℤ) (seeking : Option Seeking) (known : List Tag) (o : Outcome)
    → DeedFits Q lsid (record { number = number; doing = Sought seeking known })
    (tk.on_recovered number seeking known o)
recovered_names Q lsid number None known o =
    sought_names Q lsid number None known None known nothing (no_given Q)
recovered_names Q lsid number (Some k) known o =
    either (same_tag k.tag o.tag && nat_eq k.shard o.shard)
    (DeedFits Q lsid (record { number = number; doing = Sought (Some k) known })) _ _
    (sought_names Q lsid number (Some k) known None _ _
    (record { aborts = none Q; sends = none Q }))
    (sought_names Q lsid number (Some k) known (Some k) known nothing (no_given Q))

pub ended_names : (Q : ℕ → Statement → Type 0) (o : Outcome) (lsid : Lsid) (number : ℤ) (doing :
    Doing) → DoingFits Q doing → DeedFits Q lsid (record { number = number; doing = doing })
    (ended_in o lsid (record { number = number; doing = doing }))
ended_names Q o lsid number (Begun t) h =
    own_deed Q lsid number t _ (on_outcome_names Q lsid number o t h)
ended_names Q o lsid number (Sought seeking known) h = recovered_names Q lsid number seeking known o

gone_doing : (Q : ℕ → Statement → Type 0) (conn : ℕ) (lsid : Lsid) (number : ℤ) (doing : Doing)
    → DoingFits Q doing → DeedFits Q lsid (record { number = number; doing = doing })
    (en.gone_in conn lsid (record { number = number; doing = doing }))
gone_doing Q conn lsid number (Begun t) h =
    own_deed Q lsid number t _ (gone_phase Q conn lsid number t t.phase h)
gone_doing Q conn lsid number (Sought seeking known) h =
    sought_names Q lsid number seeking known (en.unheard seeking) known nothing (no_given Q)

pub gone_names : (Q : ℕ → Statement → Type 0) (conn : ℕ) (lsid : Lsid) (s : Session)
    → DoingFits Q s.doing → DeedFits Q lsid s (en.gone_from conn lsid s)
gone_names Q conn lsid s h = either (is_from conn (asker_of s.doing)) (DeedFits Q lsid s) _ _
    (gone_doing Q conn lsid s.number s.doing h) (stays_names Q lsid s h)

session_doing : (Q : ℕ → Statement → Type 0) (lsid : Lsid) (number : ℤ) (doing : Doing)
    → DoingFits Q doing → DeedFits Q lsid (record { number = number; doing = doing })
    (en.ends_session lsid (record { number = number; doing = doing }))
session_doing Q lsid number (Begun t) h =
    either (is_none (asker_of (Begun t)) && not (commit_sent t.phase))
    (DeedFits Q lsid (record { number = number; doing = Begun t })) _ _
    (own_deed Q lsid number t _ (ends_name Q lsid number 2 t))
    (stays_names Q lsid (record { number = number; doing = Begun t }) h)
session_doing Q lsid number (Sought seeking known) h =
    stays_names Q lsid (record { number = number; doing = Sought seeking known }) h

pub session_names : (Q : ℕ → Statement → Type 0) (lsid : Lsid) (s : Session) → DoingFits Q s.doing
    → DeedFits Q lsid s (en.ends_session lsid s)
session_names Q lsid s h = session_doing Q lsid s.number s.doing h

-- Tokens.

pub anew_given : (Q : ℕ → Statement → Type 0) (lsid : Lsid) (number : ℤ) (k : Seeking)
    (known : List Tag) → GivenFit Q (tk.asks_anew lsid number k known).given
anew_given Q lsid number k known =
    record { aborts = none Q; sends = one (PostFits Q) (tk.recover_to lsid number k) tt }

asks_for_names : (Q : ℕ → Statement → Type 0) (lsid : Lsid) (number : ℤ)
    (k : Seeking) (was older : Option Seeking) (known : List Tag) → DeedFits Q lsid
    (record { number = number; doing = Sought was known }) (tk.asks_for lsid number k older known)
asks_for_names Q lsid number k was None known =
    record { doing = tt; given = anew_given Q lsid number k known; goes = inr (refl, tt) }
asks_for_names Q lsid number k was (Some older) known =
    either (tk.same_place older k)
    (DeedFits Q lsid (record { number = number; doing = Sought was known })) _ _
    (record { doing = tt; given = no_given Q; goes = inr (refl, tt) })
    (record { doing = tt; given = anew_given Q lsid number k known; goes = inr (refl, tt) })

pub seeks_in_names : (Q : ℕ → Statement → Type 0) (lsid : Lsid) (number : ℤ)
    (asker : Asker) (k : Seeking) (seeking : Option Seeking) (known : List Tag)
    → DeedFits Q lsid (record { number = number; doing = Sought seeking known }) (tk.seeks_in lsid
    number asker k seeking known)
seeks_in_names Q lsid number asker k seeking known =
    either (tk.is_known k.tag known)
    (DeedFits Q lsid (record { number = number; doing = Sought seeking known })) _ _
    (record {
      doing = tt;
      given = record { aborts = none Q; sends = none Q };
      goes = inr (refl, tt);
    }) (asks_for_names Q lsid number k seeking seeking known)
