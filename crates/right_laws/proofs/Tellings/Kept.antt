-- What a command by itself is told once it is committed is a reply of counts or documents, or that
-- these are too large; each deed keeps that.
use Rattle.std.proofs.Common.{◌&&◌, ℕ, ℤ, not, List, [], ◌∷◌, length}
use Rattle.std.proofs.Common.{nat_eq, int_lt, is_none, Option, Some, None, filter_map}
use Rattle.std.specs.Ordering.{nat_cmp}
use Rattle.txn_types.specs.Order.{same_tag}
use Rattle.txn_types.specs.declared.cause.Cause.{Cause}
use Rattle.txn_types.specs.declared.decision.Token.{Token}
use Rattle.txn_types.specs.declared.decision.Told.{Told}
use Rattle.txn_types.specs.declared.decision.Told.TheVariants as told_as
use Rattle.txn_types.specs.declared.message.Answer.{Answer}
use Rattle.txn_types.specs.declared.message.Outcome.{Outcome}
use Rattle.txn_types.specs.declared.names.Tag.{Tag}
use Rattle.txn_types.specs.declared.node.Lsid.{Lsid}
use Rattle.txn_types.specs.declared.operation.Op.{Op}
use Rattle.txn_types.specs.declared.operation.Op.TheVariants as op_as
use Rattle.txn_types.specs.declared.operation.OpReply.{OpReply}
use Rattle.txn_types.specs.declared.operation.OpReply.TheVariants.{Count, Rows}
use Rattle.txn_semantics.specs.Keyed.{put}
use Rattle.txn_semantics.specs.Merge.{merge}
use Rattle.client_reply.specs.declared.reply.Refusal.TheVariants as refusal
use Rattle.client_reply.specs.declared.reply.Reply.{Reply}
use Rattle.client_reply.specs.declared.reply.Reply.TheVariants as reply
use Rattle.router_state.specs.declared.deed.Deed.{Deed}
use Rattle.router_state.specs.declared.state.Asker.{Asker}
use Rattle.router_state.specs.declared.state.Doing.{Doing}
use Rattle.router_state.specs.declared.state.Doing.TheVariants.{Begun, Sought}
use Rattle.router_state.specs.declared.state.Phase.{Phase}
use Rattle.router_state.specs.declared.state.Phase.TheVariants.{Idle, Asking, Checking, Deciding}
use Rattle.router_state.specs.declared.state.Phase.TheVariants.{Committed, Released, Aborted}
use Rattle.router_state.specs.declared.state.Seeking.{Seeking}
use Rattle.router_state.specs.declared.state.Session.{Session}
use Rattle.router_state.specs.declared.state.Transaction.{Transaction}
use Rattle.router_state.specs.Shards.{writers, readers}
use Rattle.router_state.specs.State.{Post, asker_of, is_from, is_own, commit_sent, is_waited}
use Rattle.router_state.specs.State.{without}
use Rattle.router_rules.specs.Commits as co
use Rattle.router_rules.specs.Ends as en
use Rattle.router_rules.specs.Serving.{answered_in, ended_in}
use Rattle.router_rules.specs.Statements as st
use Rattle.router_rules.specs.Tokens as tk
use Rattle.participant.proofs.Cases.{either}

abbrev pub IsMild : Reply → Type 0
IsMild (reply.Wrote n modified t) = Unit {0}
IsMild (reply.Found ns docs t) = Unit {0}
IsMild (reply.Refused refusal.ReplyTooLarge) = Unit {0}
IsMild other = ⊥

abbrev pub KeepsMild : Option Reply → Type 0
KeepsMild None = Unit {0}
KeepsMild (Some r) = IsMild r

abbrev pub DoingKeeps : Doing → Type 0
DoingKeeps (Begun t) = KeepsMild t.reply
DoingKeeps (Sought seeking known) = Unit {0}

abbrev pub Keeps : Deed → Type 0
Keeps d = DoingKeeps d.session.doing

pub reply_mild : (op : Op) (r : OpReply) (t : Option Token) → IsMild (st.reply_of op r t)
reply_mild (op_as.Update ns items) (Count n modified) t = tt
reply_mild (op_as.Insert ns docs) (Count n modified) t = tt
reply_mild (op_as.Find ns wanted down limit) (Count n modified) t = tt
reply_mild (op_as.Delete ns items) (Count n modified) t = tt
reply_mild op (Rows docs None) t = tt
reply_mild op (Rows docs (Some id)) t = tt

decides_case : (lsid : Lsid) (number : ℤ) (asker : Option Asker) (t : Transaction)
    (parts : List (ℕ × ℕ)) → KeepsMild t.reply → Keeps (co.decides_by lsid number asker t parts)
decides_case lsid number asker t [] h = h
decides_case lsid number asker t (first ∷ []) h = h
decides_case lsid number asker t (first ∷ second ∷ more) h = h

commits_case : (lsid : Lsid) (number : ℤ) (asker : Option Asker) (t : Transaction)
    (parts : List (ℕ × ℕ)) → KeepsMild t.reply → Keeps (co.commits_by lsid number asker t parts)
commits_case lsid number asker t [] h = decides_case lsid number asker t (writers t) h
commits_case lsid number asker t (first ∷ more) h = h

commit_phase : (lsid : Lsid) (number : ℤ) (asker : Asker) (t : Transaction) (p : Phase)
    → KeepsMild t.reply → Keeps (co.commit_asked lsid number asker (record t { phase = p }))
commit_phase lsid number asker t Idle h =
    commits_case lsid number (Some asker) (record t { phase = Idle })
    (readers (record t { phase = Idle })) h
commit_phase lsid number asker t (Asking other op answers) h = h
commit_phase lsid number asker t (Checking other) h = h
commit_phase lsid number asker t (Deciding other) h =
    either (nat_eq (length t.waiting) 0) Keeps _ _
    (decides_case lsid number (Some asker) (record t { phase = Deciding other })
    (writers (record t { phase = Deciding other })) h) h
commit_phase lsid number asker t Committed h = h
commit_phase lsid number asker t Released h = h
commit_phase lsid number asker t (Aborted sent) h = h

pub commit_kept : (lsid : Lsid) (number : ℤ) (asker : Asker) (t : Transaction)
    → KeepsMild t.reply → Keeps (co.commit_asked lsid number asker t)
commit_kept lsid number asker t h = commit_phase lsid number asker t t.phase h

-- Outcomes.

released_kept : (lsid : Lsid) (number : ℤ) (asker : Option Asker) (t : Transaction)
    (posts : List Post) → KeepsMild t.reply → Keeps (co.released lsid number asker t posts)
released_kept lsid number asker t [] h = decides_case lsid number asker t (writers t) h
released_kept lsid number asker t (post ∷ posts) h = h

checked_kept : (lsid : Lsid) (number : ℤ) (asker : Option Asker) (o : Outcome) (t : Transaction)
    (x : Told) → KeepsMild t.reply
    → Keeps (co.checked lsid number asker (record o { told = x }) t)
checked_kept lsid number asker o t told_as.Released h =
    released_kept lsid number asker t (without o.shard t.waiting) h
checked_kept lsid number asker o t (told_as.Committed at) h = h
checked_kept lsid number asker o t (told_as.Aborted why) h = h
checked_kept lsid number asker o t (told_as.TooOld have) h = h
checked_kept lsid number asker o t told_as.NoTrace h = h

decided_kept : (lsid : Lsid) (number : ℤ) (asker : Option Asker) (o : Outcome) (t : Transaction)
    (x : Told) → KeepsMild t.reply
    → Keeps (co.decided lsid number asker (record o { told = x }) t)
decided_kept lsid number asker o t told_as.Released h = h
decided_kept lsid number asker o t (told_as.Committed at) h = h
decided_kept lsid number asker o t (told_as.Aborted why) h = h
decided_kept lsid number asker o t (told_as.TooOld have) h = h
decided_kept lsid number asker o t told_as.NoTrace h = h

counted_kept : (lsid : Lsid) (number : ℤ) (o : Outcome) (t : Transaction) (p : Phase)
    → KeepsMild t.reply → Keeps (co.counted lsid number o (record t { phase = p }))
counted_kept lsid number o t (Checking asker) h =
    checked_kept lsid number asker o (record t { phase = Checking asker }) o.told h
counted_kept lsid number o t (Deciding asker) h =
    decided_kept lsid number asker o (record t { phase = Deciding asker }) o.told h
counted_kept lsid number o t Idle h = h
counted_kept lsid number o t (Asking asker op answers) h = h
counted_kept lsid number o t Committed h = h
counted_kept lsid number o t Released h = h
counted_kept lsid number o t (Aborted sent) h = h

pub outcome_kept : (o : Outcome) (lsid : Lsid) (number : ℤ) (doing : Doing) → DoingKeeps doing
    → Keeps (ended_in o lsid (record { number = number; doing = doing }))
outcome_kept o lsid number (Begun t) h =
    either (same_tag t.tag o.tag && is_waited o.shard t.waiting) Keeps
    (co.counted lsid number o t) _ (counted_kept lsid number o t t.phase h) h
outcome_kept o lsid number (Sought None known) h = tt
outcome_kept o lsid number (Sought (Some k) known) h =
    either (same_tag k.tag o.tag && nat_eq k.shard o.shard) Keeps
    (tk.recovered number k known o) _ tt tt

-- Answers.

module _ (lsid : Lsid) (number : ℤ) (a : Answer) (asker : Asker) (op : Op)
    (answers : List (ℕ × Answer)) (t : Transaction) (h : KeepsMild t.reply) where
  abbrev now : Transaction
  now = st.with_answer asker op answers a t

  abbrev rows : List (ℕ × Answer)
  rows = put nat_cmp a.shard a answers

  replies_kept : (r : OpReply)
      → Keeps (st.replies lsid number asker op (st.answered_by rows now) r)
  replies_kept r =
      either (is_own lsid && not (st.is_cut r)) Keeps
      (co.commits lsid number (Some asker)
      (record (st.answered_by rows now) { reply = Some (st.reply_of op r None) })) _
      (commits_case lsid number (Some asker)
      (record (st.answered_by rows now) { reply = Some (st.reply_of op r None) })
      (readers (record (st.answered_by rows now) { reply = Some (st.reply_of op r None) }))
      (reply_mild op r None)) h

  concludes_kept : (o : Option (ℕ × Cause))
      → Keeps (st.concludes_by lsid number asker op rows now o)
  concludes_kept None = replies_kept (merge op (filter_map st.reply_in rows))
  concludes_kept (Some refusal) = h

  taken_kept : (posts : List Post) → Keeps (st.taken_by lsid number asker op rows now posts)
  taken_kept [] = concludes_kept (st.winning (filter_map st.cause_in rows))
  taken_kept (post ∷ posts) = h

answer_phase : (lsid : Lsid) (number : ℤ) (a : Answer) (t : Transaction) (p : Phase)
    → KeepsMild t.reply → Keeps (st.answer_to lsid number a (record t { phase = p }))
answer_phase lsid number a t (Asking asker op answers) h =
    taken_kept lsid number a asker op answers (record t { phase = Asking asker op answers }) h
    (without a.shard t.waiting)
answer_phase lsid number a t Idle h = h
answer_phase lsid number a t (Checking asker) h = h
answer_phase lsid number a t (Deciding asker) h = h
answer_phase lsid number a t Committed h = h
answer_phase lsid number a t Released h = h
answer_phase lsid number a t (Aborted sent) h = h

pub answer_kept : (a : Answer) (lsid : Lsid) (number : ℤ) (doing : Doing) → DoingKeeps doing
    → Keeps (answered_in a lsid (record { number = number; doing = doing }))
answer_kept a lsid number (Begun t) h =
    either (same_tag t.tag a.tag && nat_eq a.k t.k && is_waited a.shard t.waiting) Keeps
    (st.answer_to lsid number a t) _ (answer_phase lsid number a t t.phase h) h
answer_kept a lsid number (Sought seeking known) h = tt

-- Ends.

client_phase : (lsid : Lsid) (number : ℤ) (asker : Asker) (t : Transaction) (p : Phase)
    → KeepsMild t.reply → Keeps (en.client_aborts lsid number asker (record t { phase = p }))
client_phase lsid number asker t (Aborted sent) h = h
client_phase lsid number asker t Idle h = h
client_phase lsid number asker t (Asking other op answers) h = h
client_phase lsid number asker t (Checking other) h = h
client_phase lsid number asker t (Deciding other) h = h
client_phase lsid number asker t Committed h = h
client_phase lsid number asker t Released h = h

pub client_kept : (lsid : Lsid) (number : ℤ) (asker : Asker) (t : Transaction)
    → KeepsMild t.reply → Keeps (en.client_aborts lsid number asker t)
client_kept lsid number asker t h = client_phase lsid number asker t t.phase h

pub session_kept : (lsid : Lsid) (number : ℤ) (doing : Doing) → DoingKeeps doing
    → Keeps (en.ends_session lsid (record { number = number; doing = doing }))
session_kept lsid number (Begun t) h =
    either (is_none (asker_of (Begun t)) && not (commit_sent t.phase)) Keeps
    (en.ends lsid number 2 t) _ h h
session_kept lsid number (Sought seeking known) h = tt

gone_phase : (conn : ℕ) (lsid : Lsid) (number : ℤ) (t : Transaction) (p : Phase)
    → KeepsMild t.reply
    → Keeps (en.gone_asking conn lsid
    (record { number = number; doing = Begun (record t { phase = p }) }) (record t { phase = p }))
gone_phase conn lsid number t (Asking asker op answers) h = h
gone_phase conn lsid number t (Checking asker) h = h
gone_phase conn lsid number t (Deciding asker) h = h
gone_phase conn lsid number t Idle h = h
gone_phase conn lsid number t Committed h = h
gone_phase conn lsid number t Released h = h
gone_phase conn lsid number t (Aborted sent) h = h

gone_doing : (conn : ℕ) (lsid : Lsid) (number : ℤ) (doing : Doing) → DoingKeeps doing
    → Keeps (en.gone_in conn lsid (record { number = number; doing = doing }))
gone_doing conn lsid number (Begun t) h = gone_phase conn lsid number t t.phase h
gone_doing conn lsid number (Sought seeking known) h = tt

pub gone_kept : (conn : ℕ) (lsid : Lsid) (s : Session) → DoingKeeps s.doing
    → Keeps (en.gone_from conn lsid s)
gone_kept conn lsid s h =
    either (is_from conn (asker_of s.doing)) Keeps _ _ (gone_doing conn lsid s.number s.doing h) h

-- Tokens.

asks_for_kept : (lsid : Lsid) (number : ℤ) (k : Seeking) (older : Option Seeking)
    (known : List Tag) → Keeps (tk.asks_for lsid number k older known)
asks_for_kept lsid number k None known = tt
asks_for_kept lsid number k (Some older) known = either (tk.same_place older k) Keeps _ _ tt tt

seeks_in_kept : (lsid : Lsid) (number : ℤ) (asker : Asker) (k : Seeking)
    (seeking : Option Seeking) (known : List Tag)
    → Keeps (tk.seeks_in lsid number asker k seeking known)
seeks_in_kept lsid number asker k seeking known =
    either (tk.is_known k.tag known) Keeps _ _ tt (asks_for_kept lsid number k seeking known)

seeks_doing : (lsid : Lsid) (number own : ℤ) (asker : Asker) (k : Seeking) (doing : Doing)
    → DoingKeeps doing
    → Keeps (tk.seeks_by lsid number asker k (Some (record { number = own; doing = doing })))
seeks_doing lsid number own asker k (Begun t) h = either (int_lt own number) Keeps _ _ tt h
seeks_doing lsid number own asker k (Sought seeking known) h =
    either (int_lt own number) Keeps _ _ tt (seeks_in_kept lsid number asker k seeking known)

pub seeks_kept : (lsid : Lsid) (number : ℤ) (asker : Asker) (k : Seeking) (s : Session)
    → DoingKeeps s.doing → Keeps (tk.seeks_by lsid number asker k (Some s))
seeks_kept lsid number asker k s h = seeks_doing lsid number s.number asker k s.doing h
