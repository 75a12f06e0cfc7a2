-- Each cause that a reply tells has its making: a step of the shard that the reply names, at or
-- before the reply, at which the cause was new.
use Rattle.std.specs.Prelude.{◌≡◌, ℕ, List, All, false}
use Rattle.txn_types.specs.declared.cause.Cause.{Cause}
use Rattle.txn_types.specs.declared.names.Tag.{Tag}
use Rattle.cluster_core.specs.Causes.{Past, Making, IsMade}
use Rattle.cluster_core.specs.Telling.{Telling, Meant, Done, Undone, Caused}
use Rattle.making_laws.specs.News.{IsNew, is_free}

pub record HasMaking (past : Past) (place : ℕ) (tag : Tag) (shard : ℕ) (why : Cause) : Type 0 where
  pub making : Making
  pub made : IsMade past place shard tag why making
  pub new : is_free why ≡ false → IsNew making why

abbrev pub MakingOf : Past → ℕ → Tag → Meant → Type 0
MakingOf past place tag Done = Unit {0}
MakingOf past place tag Undone = Unit {0}
MakingOf past place tag (Caused shard why) = HasMaking past place tag shard why

abbrev pub AllMade : Past → List Telling → Type 0
AllMade past told = All (λ t. MakingOf past t.place t.tag t.meant) told
