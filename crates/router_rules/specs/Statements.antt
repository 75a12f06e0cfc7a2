-- How a router serves a statement: its parts are sent to the shards that it is for, all answers are
-- waited for, and what is told is one reply, or one refusal.
use Rattle.std.specs.Prelude.{ℕ, ℤ, ◌+◌, ◌&&◌, Bool, true, false, not, List, [], ◌∷◌, ◌++◌, map}
use Rattle.std.specs.Prelude.{filter, filter_map, find, fold, nat_eq, Option, Some, None}
use Rattle.std.specs.Prelude.{option_map, is_some, Ok, Err, if◌then◌else◌}
use Rattle.std.specs.Option.{option_or}
use Rattle.std.specs.Ordering.{nat_cmp, is_lt}
use Rattle.txn_types.specs.Order.{same_tag}
use Rattle.txn_types.specs.declared.cause.Cause.{Cause}
use Rattle.txn_types.specs.declared.cause.Cause.TheVariants as cause
use Rattle.txn_types.specs.declared.decision.Token.{Token}
use Rattle.txn_types.specs.declared.message.Answer.{Answer}
use Rattle.txn_types.specs.declared.message.Msg.TheVariants as msg
use Rattle.txn_types.specs.declared.node.Lsid.{Lsid}
use Rattle.txn_types.specs.declared.operation.Op.{Op}
use Rattle.txn_types.specs.declared.operation.Op.TheVariants.{Update}
use Rattle.txn_types.specs.declared.operation.OpErr.{OpErr}
use Rattle.txn_types.specs.declared.operation.OpReply.{OpReply}
use Rattle.txn_types.specs.declared.operation.OpReply.TheVariants.{Count, Rows}
use Rattle.txn_semantics.specs.Keyed.{put}
use Rattle.txn_semantics.specs.Meaning.{ns_of}
use Rattle.txn_semantics.specs.Merge.{merge}
use Rattle.txn_semantics.specs.Splits.{err_cmp}
use Rattle.client_reply.specs.declared.reply.Refusal.TheVariants.{ReplyTooLarge}
use Rattle.client_reply.specs.declared.reply.Reply.{Reply}
use Rattle.client_reply.specs.declared.reply.Reply.TheVariants as reply
use Rattle.chunk_map.specs.Map.{Map}
use Rattle.chunk_map.specs.Parts.{shards_of, part_at}
use Rattle.router_state.specs.declared.state.Asker.{Asker}
use Rattle.router_state.specs.declared.state.Transaction.{Transaction}
use Rattle.router_state.specs.declared.state.Phase.TheVariants.{Idle, Asking, Checking, Deciding}
use Rattle.router_state.specs.declared.state.Phase.TheVariants.{Committed, Released, Aborted}
use Rattle.router_state.specs.State.{Post, boot_of, is_own, is_waited, without, token_of}
use Rattle.router_state.specs.declared.deed.Deed.{Deed}
use Rattle.router_state.specs.Deeds.{nothing, both, aborting, sending, telling, told, in_session}
use Rattle.router_rules.specs.Ends.{aborts, ended}
use Rattle.router_state.specs.Shards.{with_shard, has_written}
use Rattle.router_rules.specs.Commits.{commits}

-- Sending.

-- the next statement's part for a shard
abbrev pub statement_to : Map → Lsid → ℤ → Transaction → Op → ℕ → Post
statement_to chunks lsid number t op shard = (
  shard,
  msg.Statement (record {
    tag = t.tag;
    lsid = lsid;
    number = number;
    k = t.k + 1;
    read_at = t.read_at;
    boot = boot_of t.parts shard;
    op = part_at chunks op shard;
  }),
)

-- the statement is sent to each of its shards, by rising number
abbrev pub statements_to : Map → Lsid → ℤ → Transaction → Op → List Post
statements_to chunks lsid number t op =
    map (statement_to chunks lsid number t op) (shards_of chunks op)

abbrev pub asks : Map → Lsid → ℤ → Asker → Op → Transaction → Deed
asks chunks lsid number asker op t =
    in_session number
    (record t {
      k = t.k + 1;
      parts = fold with_shard t.parts (shards_of chunks op);
      phase = Asking asker op [];
      waiting = statements_to chunks lsid number t op;
    })
    (sending (statements_to chunks lsid number t op))

-- What the answers tell, which stand by rising shard.

abbrev pub reply_in : ℕ × Answer → Option OpReply
reply_in answer = elim (answer.1.outcome) [ Ok done ↦ Some done.0 | Err why ↦ None ]

abbrev pub cause_in : ℕ × Answer → Option (ℕ × Cause)
cause_in answer = elim (answer.1.outcome) [ Ok done ↦ None | Err why ↦ Some (answer.0, why) ]

-- the shard wrote, in this statement
abbrev pub writer_in : ℕ × Answer → Option ℕ
writer_in answer =
    elim (answer.1.outcome) [ Ok done ↦ if done.1 then Some answer.0 else None | Err why ↦ None ]

-- the statement itself was refused there
abbrev pub err_by : ℕ → Cause → Option (ℕ × OpErr)
err_by shard (cause.Statement err) = Some (shard, err)
err_by shard other = None

abbrev pub err_in : ℕ × Cause → Option (ℕ × OpErr)
err_in refusal = err_by refusal.0 refusal.1

-- the least of these by index and then by id, that of the lowest shard among equals
abbrev pub lesser_err : ℕ × OpErr → Option (ℕ × OpErr) → ℕ × OpErr
lesser_err e None = e
lesser_err e (Some f) = if is_lt (err_cmp f.1 e.1) then f else e

abbrev pub least_err : List (ℕ × OpErr) → Option (ℕ × OpErr)
least_err [] = None
least_err (e ∷ errs) = Some (lesser_err e (least_err errs))

abbrev pub is_err : ℕ × Cause → Bool
is_err refusal = is_some (err_in refusal)

-- The refusal that is told: that of the lowest shard whose cause isn't the statement's own, or else
-- the least of these.
abbrev pub winning : List (ℕ × Cause) → Option (ℕ × Cause)
winning refusals =
    option_or
    (find (λ refusal. not (is_err refusal)) refusals)
    (option_map (λ e. (e.0, cause.Statement e.1)) (least_err (filter_map err_in refusals)))

-- what is told of counts, and of documents, which have to fit into one answer
abbrev pub reply_of : Op → OpReply → Option Token → Reply
reply_of (Update ns items) (Count n modified) t = reply.Wrote n (Some modified) t
reply_of op (Count n modified) t = reply.Wrote n None t
reply_of op (Rows docs None) t = reply.Found (ns_of op) docs t
reply_of op (Rows docs (Some id)) t = reply.Refused ReplyTooLarge

abbrev pub is_cut : OpReply → Bool
is_cut (Count n modified) = false
is_cut (Rows docs None) = false
is_cut (Rows docs (Some id)) = true

-- What comes of them.

-- the transaction is aborted, at each participant but the one whose cause is told
abbrev pub refuses : Lsid → ℤ → Asker → Transaction → ℕ × Cause → Deed
refuses lsid number asker t refusal =
    in_session number (ended (Aborted false) t) (both
    (aborting (without refusal.0 (aborts lsid number 5 t)))
    (telling (told asker (reply.Caused refusal.0 number refusal.1) ∷ [])))

-- nothing more is asked of the statement, and these have written
abbrev pub answered_by : List (ℕ × Answer) → Transaction → Transaction
answered_by answers t = ended Idle (record t {
  wrote = t.wrote ++ filter (λ shard. not (has_written t shard)) (filter_map writer_in answers);
})

-- a command by itself commits before it is told; one whose answer doesn't fit is left without a
-- commit
abbrev pub replies : Lsid → ℤ → Asker → Op → Transaction → OpReply → Deed
replies lsid number asker op t r =
    if is_own lsid && not (is_cut r)
    then commits lsid number (Some asker) (record t { reply = Some (reply_of op r None) })
    else in_session number t (telling (told asker (reply_of op r (Some (token_of t))) ∷ []))

abbrev pub concludes_by : Lsid → ℤ → Asker → Op → List (ℕ × Answer) → Transaction
    → Option (ℕ × Cause) → Deed
concludes_by lsid number asker op answers t None =
    replies lsid number asker op (answered_by answers t) (merge op (filter_map reply_in answers))
concludes_by lsid number asker op answers t (Some refusal) = refuses lsid number asker t refusal

abbrev pub concludes : Lsid → ℤ → Asker → Op → List (ℕ × Answer) → Transaction → Deed
concludes lsid number asker op answers t =
    concludes_by lsid number asker op answers t (winning (filter_map cause_in answers))

-- An answer is taken where it is the first to the unanswered statement of a shard that this was
-- sent to.

abbrev pub with_answer : Asker → Op → List (ℕ × Answer) → Answer → Transaction → Transaction
with_answer asker op answers a t =
    record t {
      parts = put nat_cmp a.shard a.boot t.parts;
      phase = Asking asker op (put nat_cmp a.shard a answers);
      waiting = without a.shard t.waiting;
    }

abbrev pub taken_by : Lsid → ℤ → Asker → Op → List (ℕ × Answer) → Transaction → List Post → Deed
taken_by lsid number asker op answers t [] = concludes lsid number asker op answers t
taken_by lsid number asker op answers t (post ∷ posts) = in_session number t nothing

abbrev pub taken : Lsid → ℤ → Answer → Asker → Op → List (ℕ × Answer) → Transaction → Deed
taken lsid number a asker op answers t =
    taken_by lsid number asker op (put nat_cmp a.shard a answers) (with_answer asker op answers a t)
    (without a.shard t.waiting)

abbrev pub answer_to : Lsid → ℤ → Answer → Transaction → Deed
answer_to lsid number a t = elim (t.phase) [
  | Asking asker op answers ↦ taken lsid number a asker op answers t
  | Idle ↦ in_session number t nothing
  | Checking asker ↦ in_session number t nothing
  | Deciding asker ↦ in_session number t nothing
  | Committed ↦ in_session number t nothing
  | Released ↦ in_session number t nothing
  | Aborted sent ↦ in_session number t nothing
]

abbrev pub on_answer : Lsid → ℤ → Answer → Transaction → Deed
on_answer lsid number a t =
    if same_tag t.tag a.tag && nat_eq a.k t.k && is_waited a.shard t.waiting
    then answer_to lsid number a t else in_session number t nothing
