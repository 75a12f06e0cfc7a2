-- What statements and commits tell of the statements before them, on one shard: each names the boot
-- of the shard that the Answer to the newest statement before it told.
use Rattle.std.specs.Prelude.{◌≡◌, ◌≤◌, ◌⊎◌, ◌+◌, ℕ, List, Contains, IsOk}
use Rattle.txn_types.specs.declared.message.Commit.{Commit}
use Rattle.txn_types.specs.declared.message.Envelope.{Envelope}
use Rattle.txn_types.specs.declared.message.Msg.{Msg}
use Rattle.txn_types.specs.declared.message.Msg.TheVariants as msg
use Rattle.txn_types.specs.declared.message.Statement.{Statement}
use Rattle.txn_types.specs.declared.names.Tag.{Tag}
use Rattle.txn_types.specs.declared.node.NodeId.{NodeId}
use Rattle.txn_types.specs.declared.node.NodeId.TheVariants.{Shard}
use Rattle.txn_semantics.specs.declared.commits.Answered.{Answered}
use Rattle.cluster_core.specs.Answering.{Unanswered}
use Rattle.answer_laws.specs.Comes.{IsOfOne}
use Rattle.told_laws.specs.Places.{HasReply}

-- the statement of this transaction and place was answered, with a reply, by an Answer of this boot
-- of the shard
pub record Gave (sent : List Envelope) (told : List Answered) (tag : Tag) (k : ℕ) (boot : ℕ) :
    Type 0 where
  pub answer : Answered
  pub among : Contains told answer
  pub tag_is : answer.tag ≡ tag
  pub k_is : answer.k ≡ k
  pub one : IsOfOne sent answer
  pub replied : IsOk one.answer.outcome
  pub boot_is : one.answer.boot ≡ boot

-- The first statement of a transaction names no boot, and each later one that of the Answer to the
-- one before it. `G tag k boot` says that the statement of this transaction and place was answered
-- in this boot.
abbrev pub StatementFollows : (Tag → ℕ → ℕ → Type 0) → Statement → Type 0
StatementFollows G m =
    ((m.k ≡ 1) × (m.boot ≡ 0)) ⊎ ((before : ℕ) × (m.k ≡ before + 1) × G m.tag before m.boot)

-- a commit names the boot of the Answer to the newest statement of its transaction that was opened,
-- and each of them had its reply
pub record CommitFollows (G : Tag → ℕ → ℕ → Type 0) (begun : List Unanswered)
    (told : List Answered) (m : Commit) : Type 0 where
  pub k : ℕ
  pub newest : G m.tag k m.boot
  pub below : (v : Unanswered) → Contains begun v → v.tag ≡ m.tag → v.k ≤ k
  pub replied : (v : Unanswered) → Contains begun v → v.tag ≡ m.tag → HasReply told v

-- a message to a node: a statement is for the first shard
abbrev pub MsgFollows : (Tag → ℕ → ℕ → Type 0) → List Unanswered → List Answered → NodeId → Msg
    → Type 0
MsgFollows G begun told to (msg.Statement m) = (to ≡ Shard 0) × StatementFollows G m
MsgFollows G begun told to (msg.Commit m) = CommitFollows G begun told m
MsgFollows G begun told to other = Unit {0}
