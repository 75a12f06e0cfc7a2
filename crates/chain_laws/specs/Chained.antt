-- How the statements of a transaction follow one another on one shard: each later one names the boot
-- of the shard that the Answer to the one before it told, and all name one time to read at.
use Rattle.std.specs.Prelude.{◌≡◌, ◌<◌, ◌+◌, ◌⊎◌, ℕ, List, [], ◌∷◌, Contains}
use Rattle.txn_types.specs.declared.message.Answer.{Answer}
use Rattle.txn_types.specs.declared.message.Envelope.{Envelope}
use Rattle.txn_types.specs.declared.message.Msg.TheVariants as msg
use Rattle.txn_types.specs.declared.message.Statement.{Statement}
use Rattle.cluster_core.specs.Answering.{Unanswered}

-- a statement was sent
abbrev pub WasSent : List Envelope → Statement → Type 0
WasSent sent m = (e : Envelope) × Contains sent e × (e.msg ≡ msg.Statement m)

-- the first shard alone answered it, in this boot
abbrev pub IsAnsweredIn : ℕ → Unanswered → Type 0
IsAnsweredIn boot u = (a : Answer) × (u.answers ≡ (0, a) ∷ []) × (a.boot ≡ boot)

-- it names the boot in which the statement before it was answered
pub record Follows (completed : List Unanswered) (m : Statement) : Type 0 where
  pub before : Unanswered
  pub among : Contains completed before
  pub tag : before.tag ≡ m.tag
  pub k : before.k + 1 ≡ m.k
  pub boot : IsAnsweredIn m.boot before

-- the first statement of a transaction names no boot, and each other one follows the one before it
abbrev pub HasBoot : List Unanswered → Statement → Type 0
HasBoot completed m =
    ((m.k ≡ 1) × (m.boot ≡ 0)) ⊎ ((1 < m.k) × Follows completed m)

-- the choice of a time to read at is left to the shard of a command by itself alone, which is the
-- first of its transaction and has no other
abbrev pub IsLeftAlone : Statement → Type 0
IsLeftAlone m = m.read_at ≡ 0 → m.k ≡ 1
