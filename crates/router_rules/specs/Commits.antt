-- How a router commits a transaction. First each participant without a write is asked, and has to
-- answer Released. Then the one that wrote commits by itself, or the first of several coordinates
-- them all.
use Rattle.std.specs.Prelude.{ℕ, ℤ, ◌&&◌, true, List, [], ◌∷◌, map, nat_eq, length, Option, Some}
use Rattle.std.specs.Prelude.{None, unwrap_or, if◌then◌else◌}
use Rattle.txn_types.specs.Order.{same_tag}
use Rattle.txn_types.specs.declared.decision.Told.{Told}
use Rattle.txn_types.specs.declared.decision.Told.TheVariants as told_as
use Rattle.txn_types.specs.declared.message.Msg.TheVariants as msg
use Rattle.txn_types.specs.declared.message.Outcome.{Outcome}
use Rattle.txn_types.specs.declared.node.Lsid.{Lsid}
use Rattle.client_reply.specs.declared.reply.Refusal.TheVariants as refusal
use Rattle.client_reply.specs.declared.reply.Reply.{Reply}
use Rattle.client_reply.specs.declared.reply.Reply.TheVariants as reply
use Rattle.router_state.specs.declared.state.Asker.{Asker}
use Rattle.router_state.specs.declared.state.Phase.{Phase}
use Rattle.router_state.specs.declared.state.Transaction.{Transaction}
use Rattle.router_state.specs.declared.state.Phase.TheVariants.{Idle, Asking, Checking, Deciding}
use Rattle.router_state.specs.declared.state.Phase.TheVariants.{Committed, Released, Aborted}
use Rattle.router_state.specs.State.{Post, is_own, is_waited, without, token_of}
use Rattle.router_state.specs.declared.deed.Deed.{Deed}
use Rattle.router_state.specs.Deeds.{nothing, both, aborting, sending, telling, told_if, in_session}
use Rattle.router_state.specs.Shards.{readers, writers}
use Rattle.router_rules.specs.Ends.{aborts, ended}

abbrev pub commit_to : Lsid → ℤ → Transaction → ℕ × ℕ → Post
commit_to lsid number t part =
    (part.0, msg.Commit (record { tag = t.tag; lsid = lsid; number = number; boot = part.1 }))

abbrev pub commit_two_to : Lsid → ℤ → Transaction → ℕ × ℕ → Post
commit_two_to lsid number t first = (
  first.0,
  msg.CommitTwo
      (record { tag = t.tag; lsid = lsid; number = number; boot = first.1; parts = writers t }),
)

-- what is told of a commit: of a command by itself its reply, else the token
abbrev pub commit_reply : Lsid → Transaction → Reply
commit_reply lsid t = if is_own lsid then unwrap_or t.reply (reply.Ended None)
    else reply.Ended (Some (token_of t))

-- it is known how it ended, and whoever waits is told
abbrev pub finished : Lsid → ℤ → Option Asker → Phase → Transaction → Deed
finished lsid number asker phase t =
    in_session number (ended phase t) (telling (told_if asker (commit_reply lsid t)))

abbrev pub waits : ℤ → Phase → List Post → Transaction → Deed
waits number phase posts t =
    in_session number (record t { phase = phase; waiting = posts }) (sending posts)

-- the second step, by those that wrote
abbrev pub decides_by : Lsid → ℤ → Option Asker → Transaction → List (ℕ × ℕ) → Deed
decides_by lsid number asker t [] = finished lsid number asker Released t
decides_by lsid number asker t (one ∷ []) =
    waits number (Deciding asker) (commit_to lsid number t one ∷ []) t
decides_by lsid number asker t (first ∷ second ∷ more) =
    waits number (Deciding asker) (commit_two_to lsid number t first ∷ []) t

abbrev pub decides : Lsid → ℤ → Option Asker → Transaction → Deed
decides lsid number asker t = decides_by lsid number asker t (writers t)

-- the first step, by those that didn't write
abbrev pub commits_by : Lsid → ℤ → Option Asker → Transaction → List (ℕ × ℕ) → Deed
commits_by lsid number asker t [] = decides lsid number asker t
commits_by lsid number asker t (first ∷ more) =
    waits number (Checking asker) (map (commit_to lsid number t) (first ∷ more)) t

abbrev pub commits : Lsid → ℤ → Option Asker → Transaction → Deed
commits lsid number asker t = commits_by lsid number asker t (readers t)

-- A request to commit a transaction that was begun here, after its refusals: a known end is told
-- again; an unanswered commit is listened to; and a shard whose answer wasn't kept is asked again.
abbrev pub listens : Lsid → ℤ → Asker → Transaction → Deed
listens lsid number asker t =
    if nat_eq (length t.waiting) 0 then decides lsid number (Some asker) t
    else in_session number (record t { phase = Deciding (Some asker) }) nothing

abbrev pub commit_asked : Lsid → ℤ → Asker → Transaction → Deed
commit_asked lsid number asker t = elim (t.phase) [
  | Idle ↦ commits lsid number (Some asker) t
  | Asking other op answers ↦ in_session number t nothing
  | Checking other ↦ in_session number (record t { phase = Checking (Some asker) }) nothing
  | Deciding other ↦ listens lsid number asker t
  | Committed ↦ finished lsid number (Some asker) Committed t
  | Released ↦ finished lsid number (Some asker) Released t
  | Aborted sent ↦
      in_session number t (telling (told_if (Some asker) (reply.Refused refusal.Aborted)))
]

-- What is told of an outcome, where `done` is told of a commit.
abbrev pub outcome_reply : ℕ → ℤ → Reply → Told → Reply
outcome_reply shard number done (told_as.Committed at) = done
outcome_reply shard number done told_as.Released = done
outcome_reply shard number done (told_as.Aborted cause) = reply.Caused shard number cause
outcome_reply shard number done (told_as.TooOld have) = reply.TooOld number have
outcome_reply shard number done told_as.NoTrace = reply.Refused refusal.NoDecision

-- A participant without a write has answered: the last Released begins the second step, and any
-- other outcome aborts.

abbrev pub released : Lsid → ℤ → Option Asker → Transaction → List Post → Deed
released lsid number asker t [] = decides lsid number asker t
released lsid number asker t (post ∷ posts) =
    in_session number (record t { waiting = post ∷ posts }) nothing

abbrev pub fails : Lsid → ℤ → Option Asker → Outcome → Transaction → Deed
fails lsid number asker o t =
    in_session number (ended (Aborted true) t) (both
    (aborting (without o.shard (aborts lsid number 5 t)))
    (telling (told_if asker (outcome_reply o.shard number (commit_reply lsid t) o.told))))

abbrev pub checked : Lsid → ℤ → Option Asker → Outcome → Transaction → Deed
checked lsid number asker o t = elim (o.told) [
  | told_as.Released ↦ released lsid number asker t (without o.shard t.waiting)
  | told_as.Committed at ↦ finished lsid number asker Committed t
  | told_as.Aborted cause ↦ fails lsid number asker o t
  | told_as.TooOld have ↦ fails lsid number asker o t
  | told_as.NoTrace ↦ fails lsid number asker o t
]

-- The one that wrote, or the coordinator, has answered. An answer without a decision isn't kept:
-- the next request to commit asks again.
abbrev pub decided : Lsid → ℤ → Option Asker → Outcome → Transaction → Deed
decided lsid number asker o t = elim (o.told) [
  | told_as.Committed at ↦ finished lsid number asker Committed t
  | told_as.Released ↦ finished lsid number asker Committed t
  | told_as.Aborted cause ↦ in_session number (ended (Aborted true) t)
      (telling (told_if asker (reply.Caused o.shard number cause)))
  | told_as.TooOld have ↦ in_session number (ended (Deciding None) t)
      (telling (told_if asker (reply.TooOld number have)))
  | told_as.NoTrace ↦ in_session number (ended (Deciding None) t)
      (telling (told_if asker (reply.Refused refusal.NoDecision)))
]

-- An outcome counts where it is the first of a shard that the commit asked.
abbrev pub counted : Lsid → ℤ → Outcome → Transaction → Deed
counted lsid number o t = elim (t.phase) [
  | Checking asker ↦ checked lsid number asker o t
  | Deciding asker ↦ decided lsid number asker o t
  | Idle ↦ in_session number t nothing
  | Asking asker op answers ↦ in_session number t nothing
  | Committed ↦ in_session number t nothing
  | Released ↦ in_session number t nothing
  | Aborted sent ↦ in_session number t nothing
]

abbrev pub on_outcome : Lsid → ℤ → Outcome → Transaction → Deed
on_outcome lsid number o t = if same_tag t.tag o.tag && is_waited o.shard t.waiting
    then counted lsid number o t else in_session number t nothing
