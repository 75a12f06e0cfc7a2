-- When answers are right against a list of commits: snapshot reads, the first committer wins, and a
-- transaction commits whole. After the MongoDB manual on transactions and read concern "snapshot".
use Rattle.std.specs.Prelude.{◌≡◌, ◌<◌, ◌≤◌, ◌⊎◌, ℕ, Bool, false, List, [], ◌∷◌, ◌++◌, Some, None}
use Rattle.std.specs.Prelude.{Err, filter, All, AllPairs, IsTrue, IsOk, nat_le, nat_lt, slice_get}
use Rattle.txn_types.specs.Order.{same_tag}
use Rattle.txn_types.specs.declared.names.Tag.{Tag}
use Rattle.txn_types.specs.declared.operation.OpErr.{OpErr}
use Rattle.txn_types.specs.declared.write.Write.{Write}
use Rattle.txn_semantics.specs.declared.commits.Entry.{Entry}
use Rattle.txn_semantics.specs.declared.commits.Answered.{Answered}
use Rattle.txn_semantics.specs.Rows.{under}
use Rattle.txn_semantics.specs.Meaning.{Meaning, eval, reply_of, writes_of, ns_of}
use Rattle.txn_semantics.specs.View.{view}
use Rattle.txn_semantics.specs.Writes.{write_set, share_document}

-- what a statement means at its read timestamp, under what its transaction wrote before it
abbrev pub means : List Entry → List Write → Answered → Meaning
means entries own a = eval a.op (under (ns_of a.op) (view entries a.read_at (ns_of a.op)) own)

-- the writes of statements, each over those before it
abbrev pub own_writes : List Entry → List Write → List Answered → List Write
own_writes entries own [] = own
own_writes entries own (a ∷ answered) =
    own_writes entries (own ++ writes_of (means entries own a)) answered

-- the statements of a transaction
abbrev pub of_tag : Tag → List Answered → List Answered
of_tag tag answered = filter (λ a. same_tag a.tag tag) answered

-- those of a statement's transaction that came before it
abbrev pub before : Answered → List Answered → List Answered
before one answered = filter (λ a. nat_lt a.k one.k) (of_tag one.tag answered)

-- what each statement was told is its meaning: it saw the writes committed at or below its read
-- timestamp, under its own, and no other
abbrev pub ReadsRight : List Entry → List Answered → Type 0
ReadsRight entries answered =
    All (λ a. a.outcome ≡ reply_of (means entries (own_writes entries [] (before a answered)) a))
    answered

-- a statement that is refused has its cause in the rows that stand at its read timestamp, under its
-- own writes
abbrev pub RefusedRight : List Entry → List Answered → Type 0
RefusedRight entries answered =
    All (λ a. (e : OpErr) → a.outcome ≡ Err e
    → means entries (own_writes entries [] (before a answered)) a ≡ Err e) answered

-- the transaction began in this run: its router was booted in it; boots has the first boot of each
-- router here
abbrev pub began : List ℕ → Tag → Bool
began boots tag =
    elim (slice_get boots tag.router) [ Some boot ↦ nat_le boot tag.boot | None ↦ false ]

-- one of them had committed at or below what the other read at
abbrev pub Apart : Entry → Entry → Type 0
Apart a b = (a.at ≤ b.read_at) ⊎ (b.at ≤ a.read_at)

-- each transaction read below its commit, and no two overlapping ones wrote one document; of two
-- that both began before this run nothing is said
pub record FirstCommitter (boots : List ℕ) (entries : List Entry) : Type 0 where
  pub rises : All (λ e. e.read_at < e.at) entries
  pub apart : AllPairs (λ a b. IsTrue (share_document a.writes b.writes)
      → (IsTrue (began boots a.tag) ⊎ IsTrue (began boots b.tag)) → Apart a b) entries

-- a committed transaction that began in this run is there once, with the last write to each
-- document of all its answered statements, none of which was refused
pub record Whole (boots : List ℕ) (entries : List Entry) (answered : List Answered) : Type 0 where
  pub writes : All (λ e. IsTrue (began boots e.tag)
      → e.writes ≡ write_set (own_writes entries [] (of_tag e.tag answered))) entries
  pub replied : All (λ e. IsTrue (began boots e.tag)
      → All (λ a. IsOk a.outcome) (of_tag e.tag answered)) entries
  pub once : AllPairs (λ a b. IsTrue (same_tag a.tag b.tag) → IsTrue (began boots a.tag)
      → ⊥) entries

-- the answers are those of one list of committed transactions
pub record Right (boots : List ℕ) (entries : List Entry) (answered : List Answered) : Type 0 where
  pub reads : ReadsRight entries answered
  pub refusals : RefusedRight entries answered
  pub first_committer : FirstCommitter boots entries
  pub whole : Whole boots entries answered
