-- Where an answered statement comes from: a statement that a router opened, and an Answer of each
-- shard that it was sent to.
use Rattle.std.specs.Prelude.{◌≡◌, ℕ, List, [], ◌∷◌, Some, All, Contains, is_some, length, true}
use Rattle.txn_types.specs.declared.message.Answer.{Answer}
use Rattle.txn_types.specs.declared.message.Envelope.{Envelope}
use Rattle.txn_types.specs.declared.message.Msg.TheVariants as msg
use Rattle.txn_types.specs.declared.node.NodeId.TheVariants.{Router}
use Rattle.txn_semantics.specs.declared.commits.Answered.{Answered}
use Rattle.txn_semantics.specs.Meaning.{Meaning, document_rules}
use Rattle.txn_semantics.specs.Splits.{outcome}
use Rattle.cluster_core.specs.Answering.{Unanswered, answered_of, meaning_in}

-- the Answer of a shard, as it was sent to the router that asked
pub record IsGiven (messages : List Envelope) (u : Unanswered) (answer : ℕ × Answer) : Type 0 where
  pub envelope : Envelope
  pub sent : Contains messages envelope
  pub to : envelope.to ≡ Router u.router
  pub msg : envelope.msg ≡ msg.Answer answer.1
  pub shard : answer.1.shard ≡ answer.0
  pub asked : Contains u.shards answer.0
  pub tag : answer.1.tag ≡ u.tag
  pub k : answer.1.k ≡ u.k

-- a statement as it was opened, before any answer
abbrev pub as_opened : Unanswered → Unanswered
as_opened u = record u { answers = [] }

-- a statement that was opened, and what has been answered of it
pub record Comes (sent : List Envelope) (begun : List Unanswered) (u : Unanswered) : Type 0 where
  pub opened : Contains begun (as_opened u)
  pub answers : All (IsGiven sent u) u.answers

-- An answered statement is what the Answers of as many shards say as it was sent to, each its reply
-- or the statement's own refusal.
pub record IsAnswered (sent : List Envelope) (begun : List Unanswered) (a : Answered) : Type 0 where
  pub statement : Unanswered
  pub is : a ≡ answered_of statement
  pub comes : Comes sent begun statement
  pub complete : length statement.answers ≡ length statement.shards
  pub says : All (λ answer. is_some (meaning_in answer) ≡ true) statement.answers

-- A statement that was sent to one shard is what that shard's Answer says.
pub record IsOfOne (sent : List Envelope) (a : Answered) : Type 0 where
  pub envelope : Envelope
  pub answer : Answer
  pub meaning : Meaning
  pub was_sent : Contains sent envelope
  pub msg : envelope.msg ≡ msg.Answer answer
  pub tag : answer.tag ≡ a.tag
  pub k : answer.k ≡ a.k
  pub read_at : answer.read_at ≡ a.read_at
  pub says : meaning_in (answer.shard, answer) ≡ Some meaning
  pub outcome : a.outcome ≡ outcome document_rules a.op (meaning ∷ [])
