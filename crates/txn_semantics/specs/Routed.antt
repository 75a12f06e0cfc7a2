-- Operations that are sent where their filters and documents belong, whatever the rows are.
use Rattle.std.specs.Prelude.{◌≡◌, ℕ, Bool, true, false, List, [], ◌∷◌, Some, Ok}
use Rattle.txn_types.specs.declared.id.Id.{Id}
use Rattle.txn_types.specs.declared.filter.Filter.{Filter}
use Rattle.txn_types.specs.declared.update.Update.{Update}
use Rattle.txn_types.specs.declared.operation.UpdateItem.{UpdateItem}
use Rattle.txn_types.specs.declared.operation.DeleteItem.{DeleteItem}
use Rattle.txn_types.specs.declared.operation.Op.{Op}
use Rattle.txn_types.specs.declared.operation.Op.TheVariants.{Insert, Find, Update as Updates}
use Rattle.txn_types.specs.declared.operation.Op.TheVariants.{Delete}
use Rattle.bson_core.specs.Fields.{Document}
use Rattle.txn_semantics.specs.Effect.{DocumentRules}
use Rattle.txn_semantics.specs.Rows.{Row}
use Rattle.txn_semantics.specs.Splits.{IndicesRise, times, GoOnce}

-- an update keeps the id
abbrev pub KeepsId : DocumentRules → Type 0
KeepsId w = (update : Update) (doc : Document) (id : Id) (new : Document) → w.id_in doc ≡ Some id
    → w.apply update doc ≡ Ok new → w.id_in new ≡ Some id

-- a row that matches stands at one of the shards, named once
abbrev pub Routes : DocumentRules → (Id → ℕ) → List ℕ → Filter → Type 0
Routes w place shards wanted = (row : Row) → w.id_in row.1 ≡ Some row.0
    → w.matches wanted row.1 ≡ true → times (place row.0) shards ≡ 1

-- where the item is for one document, what its filter matches stands at one shard
abbrev pub HasOneShard : DocumentRules → (Id → ℕ) → Bool → Filter → Type 0
HasOneShard w place many wanted = many ≡ false → (s : ℕ)
    × ((row : Row) → w.id_in row.1 ≡ Some row.0 → w.matches wanted row.1 ≡ true → place row.0 ≡ s)

-- what holds of each item
abbrev pub AllItems : {I : Type 0} → (I → Type 0) → List I → Type 0
AllItems P [] = Unit {0}
AllItems P (item ∷ items) = P item × AllItems P items

-- each document and each filter is sent to the shards where what it is for may stand
abbrev pub IsRouted : DocumentRules → (Id → ℕ) → List ℕ → Op → Type 0
IsRouted w place shards (Insert ns docs) = IndicesRise (λ item. item.index) docs
    × GoOnce w place shards docs
IsRouted w place shards (Find ns wanted down limit) = Routes w place shards wanted
IsRouted w place shards (Updates ns items) = IndicesRise (λ item. item.index) items
    × AllItems (λ (item : UpdateItem). Routes w place shards item.filter
    × HasOneShard w place item.many item.filter) items
IsRouted w place shards (Delete ns items) = IndicesRise (λ item. item.index) items
    × AllItems (λ (item : DeleteItem). Routes w place shards item.filter
    × HasOneShard w place item.many item.filter) items
