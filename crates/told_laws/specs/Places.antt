-- Which places the statements of a transaction have, and what the earlier ones were answered.
use Rattle.std.specs.Prelude.{◌≡◌, ◌<◌, List, Contains, IsOk}
use Rattle.txn_semantics.specs.declared.commits.Answered.{Answered}
use Rattle.cluster_core.specs.Answering.{Unanswered}

-- of one transaction, what is opened later has a larger place
abbrev pub Rises : Unanswered → Unanswered → Type 0
Rises u v = u.tag ≡ v.tag → u.k < v.k

-- and what is answered later
abbrev pub IsLater : Answered → Answered → Type 0
IsLater a b = a.tag ≡ b.tag → a.k < b.k

-- it was answered, with a reply
pub record HasReply (answered : List Answered) (u : Unanswered) : Type 0 where
  pub answer : Answered
  pub among : Contains answered answer
  pub tag : answer.tag ≡ u.tag
  pub k : answer.k ≡ u.k
  pub op : answer.op ≡ u.op
  pub replied : IsOk answer.outcome

-- an answered statement is one that was opened
pub record IsOpened (begun : List Unanswered) (a : Answered) : Type 0 where
  pub statement : Unanswered
  pub opened : Contains begun statement
  pub tag : a.tag ≡ statement.tag
  pub k : a.k ≡ statement.k
  pub op : a.op ≡ statement.op
