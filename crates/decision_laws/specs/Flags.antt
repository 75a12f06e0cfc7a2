-- What the Answers of a shard tell of what statements wrote.
use Rattle.std.specs.Prelude.{◌≡◌, ℕ, true, List, Contains, Ok, IsOk}
use Rattle.txn_types.specs.declared.message.Answer.{Answer}
use Rattle.txn_types.specs.declared.message.Commit.{Commit}
use Rattle.txn_types.specs.declared.message.Envelope.{Envelope}
use Rattle.txn_types.specs.declared.message.Msg.TheVariants as msg
use Rattle.txn_types.specs.declared.names.Tag.{Tag}
use Rattle.txn_types.specs.declared.operation.OpReply.{OpReply}
use Rattle.txn_semantics.specs.declared.commits.Entry.{Entry}
use Rattle.txn_model.specs.Commits.{has_entry}
use Rattle.decision_laws.specs.Ends.{WasSent}

-- an Answer was sent
abbrev pub WasAnswered : List Envelope → Answer → Type 0
WasAnswered sent a = (e : Envelope) × Contains sent e × (e.msg ≡ msg.Answer a)

-- one tells that a statement of the transaction wrote, in this boot of the shard
pub record ToldWrite (sent : List Envelope) (tag : Tag) (boot : ℕ) : Type 0 where
  pub answer : Answer
  pub was : WasAnswered sent answer
  pub tag_is : answer.tag ≡ tag
  pub boot_is : answer.boot ≡ boot
  pub reply : OpReply
  pub outcome : answer.outcome ≡ Ok (reply, true)

-- of each committed transaction one does, of the boot that a request to commit it names
abbrev pub CommitsToldWrites : List Envelope → List Entry → Type 0
CommitsToldWrites sent entries = (tag : Tag) → has_entry entries tag ≡ true
    → (m : Commit) × WasSent sent m × (m.tag ≡ tag) × ToldWrite sent tag m.boot

-- all replies to one statement in one boot are alike
abbrev pub RepliesAgree : List Envelope → Type 0
RepliesAgree sent = (a b : Answer) → WasAnswered sent a → WasAnswered sent b → a.tag ≡ b.tag
    → a.k ≡ b.k → a.boot ≡ b.boot → IsOk a.outcome → IsOk b.outcome → a.outcome ≡ b.outcome
