-- What is done in a session leaves its number, but for a request.
use Rattle.std.proofs.Common.{◌≡◌, ◌&&◌, ℕ, ℤ, not, List, [], ◌∷◌, Option, Some, None}
use Rattle.std.proofs.Common.{refl, nat_eq}
use Rattle.std.specs.Prelude.{is_none}
use Rattle.std.specs.Ordering.{nat_cmp}
use Rattle.txn_types.specs.Order.{same_tag}
use Rattle.txn_types.specs.declared.cause.Cause.{Cause}
use Rattle.txn_types.specs.declared.decision.Told.{Told}
use Rattle.txn_types.specs.declared.decision.Told.TheVariants as told_as
use Rattle.txn_types.specs.declared.message.Answer.{Answer}
use Rattle.txn_types.specs.declared.message.Outcome.{Outcome}
use Rattle.txn_types.specs.declared.names.Tag.{Tag}
use Rattle.txn_types.specs.declared.node.Lsid.{Lsid}
use Rattle.txn_types.specs.declared.operation.Op.{Op}
use Rattle.txn_types.specs.declared.operation.OpReply.{OpReply}
use Rattle.txn_semantics.specs.Keyed.{put}
use Rattle.participant.proofs.Cases.{either}
use Rattle.router_state.specs.declared.deed.Deed.{Deed}
use Rattle.router_state.specs.declared.state.Asker.{Asker}
use Rattle.router_state.specs.declared.state.Doing.{Doing}
use Rattle.router_state.specs.declared.state.Doing.TheVariants.{Begun, Sought}
use Rattle.router_state.specs.declared.state.Phase.{Phase}
use Rattle.router_state.specs.declared.state.Phase.TheVariants.{Idle, Asking, Checking, Deciding}
use Rattle.router_state.specs.declared.state.Phase.TheVariants.{Committed, Released, Aborted}
use Rattle.router_state.specs.declared.state.Seeking.{Seeking}
use Rattle.router_state.specs.declared.state.Session.{Session}
use Rattle.router_state.specs.declared.state.Transaction.{Transaction}
use Rattle.router_state.specs.Shards.{readers, writers}
use Rattle.router_state.specs.State.{Post, asker_of, commit_sent, is_from, is_own, is_waited}
use Rattle.router_state.specs.State.{without}
use Rattle.router_rules.specs.Commits as co
use Rattle.router_rules.specs.Ends as en
use Rattle.router_rules.specs.Serving.{answered_in, ended_in}
use Rattle.router_rules.specs.Statements as st
use Rattle.router_rules.specs.Tokens as tk

-- the session has this number then
abbrev pub Has : ℤ → Deed → Type 0
Has number d = d.session.number ≡ number

-- Commits.

decides_by_has : (lsid : Lsid) (number : ℤ) (asker : Option Asker) (t : Transaction)
    (parts : List (ℕ × ℕ)) → Has number (co.decides_by lsid number asker t parts)
decides_by_has lsid number asker t [] = refl
decides_by_has lsid number asker t (one ∷ []) = refl
decides_by_has lsid number asker t (first ∷ second ∷ more) = refl

commits_by_has : (lsid : Lsid) (number : ℤ) (asker : Option Asker) (t : Transaction)
    (parts : List (ℕ × ℕ)) → Has number (co.commits_by lsid number asker t parts)
commits_by_has lsid number asker t [] = decides_by_has lsid number asker t (writers t)
commits_by_has lsid number asker t (first ∷ more) = refl

released_has : (lsid : Lsid) (number : ℤ) (asker : Option Asker) (t : Transaction)
    (posts : List Post) → Has number (co.released lsid number asker t posts)
released_has lsid number asker t [] = decides_by_has lsid number asker t (writers t)
released_has lsid number asker t (post ∷ posts) = refl

-- Answers.

replies_have : (lsid : Lsid) (number : ℤ) (asker : Asker) (op : Op) (t : Transaction) (r : OpReply)
    → Has number (st.replies lsid number asker op t r)
replies_have lsid number asker op t r =
    let kept : Transaction = record t { reply = Some (st.reply_of op r None) } in
    either (is_own lsid && not (st.is_cut r)) (Has number)
    (co.commits lsid number (Some asker) kept) _
    (commits_by_has lsid number (Some asker) kept (readers kept)) refl

concludes_has : (lsid : Lsid) (number : ℤ) (asker : Asker) (op : Op) (answers : List (ℕ × Answer))
    (t : Transaction) (w : Option (ℕ × Cause))
    → Has number (st.concludes_by lsid number asker op answers t w)
concludes_has lsid number asker op answers t None =
    replies_have lsid number asker op (st.answered_by answers t) _
concludes_has lsid number asker op answers t (Some refusal) = refl

taken_has : (lsid : Lsid) (number : ℤ) (asker : Asker) (op : Op) (answers : List (ℕ × Answer))
    (t : Transaction) (posts : List Post)
    → Has number (st.taken_by lsid number asker op answers t posts)
taken_has lsid number asker op answers t [] = concludes_has lsid number asker op answers t _
taken_has lsid number asker op answers t (post ∷ posts) = refl

answer_phase : (lsid : Lsid) (number : ℤ) (a : Answer) (t : Transaction) (p : Phase)
    → Has number (st.answer_to lsid number a (record t { phase = p }))
answer_phase lsid number a t (Asking asker op answers) =
    taken_has lsid number asker op (put nat_cmp a.shard a answers)
    (st.with_answer asker op answers a (record t { phase = Asking asker op answers }))
    (without a.shard t.waiting)
answer_phase lsid number a t Idle = refl
answer_phase lsid number a t (Checking asker) = refl
answer_phase lsid number a t (Deciding asker) = refl
answer_phase lsid number a t Committed = refl
answer_phase lsid number a t Released = refl
answer_phase lsid number a t (Aborted sent) = refl

answer_doing : (a : Answer) (lsid : Lsid) (number : ℤ) (doing : Doing)
    → Has number (answered_in a lsid (record { number = number; doing = doing }))
answer_doing a lsid number (Begun t) =
    either (same_tag t.tag a.tag && nat_eq a.k t.k && is_waited a.shard t.waiting) (Has number) _ _
    (answer_phase lsid number a t t.phase) refl
answer_doing a lsid number (Sought seeking known) = refl

pub answered_has : (a : Answer) (lsid : Lsid) (s : Session) → Has s.number (answered_in a lsid s)
answered_has a lsid s = answer_doing a lsid s.number s.doing

-- Outcomes.

checked_has : (lsid : Lsid) (number : ℤ) (asker : Option Asker) (o : Outcome) (t : Transaction)
    (x : Told) → Has number (co.checked lsid number asker (record o { told = x }) t)
checked_has lsid number asker o t told_as.Released =
    released_has lsid number asker t (without o.shard t.waiting)
checked_has lsid number asker o t (told_as.Committed at) = refl
checked_has lsid number asker o t (told_as.Aborted cause) = refl
checked_has lsid number asker o t (told_as.TooOld have) = refl
checked_has lsid number asker o t told_as.NoTrace = refl

decided_has : (lsid : Lsid) (number : ℤ) (asker : Option Asker) (o : Outcome) (t : Transaction)
    (x : Told) → Has number (co.decided lsid number asker (record o { told = x }) t)
decided_has lsid number asker o t told_as.Released = refl
decided_has lsid number asker o t (told_as.Committed at) = refl
decided_has lsid number asker o t (told_as.Aborted cause) = refl
decided_has lsid number asker o t (told_as.TooOld have) = refl
decided_has lsid number asker o t told_as.NoTrace = refl

outcome_phase : (lsid : Lsid) (number : ℤ) (o : Outcome) (t : Transaction) (p : Phase)
    → Has number (co.counted lsid number o (record t { phase = p }))
outcome_phase lsid number o t (Checking asker) =
    checked_has lsid number asker o (record t { phase = Checking asker }) o.told
outcome_phase lsid number o t (Deciding asker) =
    decided_has lsid number asker o (record t { phase = Deciding asker }) o.told
outcome_phase lsid number o t Idle = refl
outcome_phase lsid number o t (Asking asker op answers) = refl
outcome_phase lsid number o t Committed = refl
outcome_phase lsid number o t Released = refl
outcome_phase lsid number o t (Aborted sent) = refl

recovered_has : (number : ℤ) (seeking : Option Seeking) (known : List Tag) (o : Outcome)
    → Has number (tk.on_recovered number seeking known o)
recovered_has number None known o = refl
recovered_has number (Some k) known o =
    either (same_tag k.tag o.tag && nat_eq k.shard o.shard) (Has number) _ _ refl refl

outcome_doing : (o : Outcome) (lsid : Lsid) (number : ℤ) (doing : Doing)
    → Has number (ended_in o lsid (record { number = number; doing = doing }))
outcome_doing o lsid number (Begun t) =
    either (same_tag t.tag o.tag && is_waited o.shard t.waiting) (Has number) _ _
    (outcome_phase lsid number o t t.phase) refl
outcome_doing o lsid number (Sought seeking known) = recovered_has number seeking known o

pub ended_has : (o : Outcome) (lsid : Lsid) (s : Session) → Has s.number (ended_in o lsid s)
ended_has o lsid s = outcome_doing o lsid s.number s.doing

-- Ends of connections and of sessions.

gone_phase : (conn : ℕ) (lsid : Lsid) (number : ℤ) (t : Transaction) (p : Phase)
    → Has number (en.gone_asking conn lsid
    (record { number = number; doing = Begun (record t { phase = p }) }) (record t { phase = p }))
gone_phase conn lsid number t (Asking asker op answers) = refl
gone_phase conn lsid number t (Checking asker) = refl
gone_phase conn lsid number t (Deciding asker) = refl
gone_phase conn lsid number t Idle = refl
gone_phase conn lsid number t Committed = refl
gone_phase conn lsid number t Released = refl
gone_phase conn lsid number t (Aborted sent) = refl

gone_doing : (conn : ℕ) (lsid : Lsid) (number : ℤ) (doing : Doing)
    → Has number (en.gone_in conn lsid (record { number = number; doing = doing }))
gone_doing conn lsid number (Begun t) = gone_phase conn lsid number t t.phase
gone_doing conn lsid number (Sought seeking known) = refl

pub gone_has : (conn : ℕ) (lsid : Lsid) (s : Session) → Has s.number (en.gone_from conn lsid s)
gone_has conn lsid s = either (is_from conn (asker_of s.doing)) (Has s.number) _ _
    (gone_doing conn lsid s.number s.doing) refl

end_doing : (lsid : Lsid) (number : ℤ) (doing : Doing)
    → Has number (en.ends_session lsid (record { number = number; doing = doing }))
end_doing lsid number (Begun t) =
    either (is_none (asker_of (Begun t)) && not (commit_sent t.phase)) (Has number) _ _ refl refl
end_doing lsid number (Sought seeking known) = refl

pub ends_has : (lsid : Lsid) (s : Session) → Has s.number (en.ends_session lsid s)
ends_has lsid s = end_doing lsid s.number s.doing
