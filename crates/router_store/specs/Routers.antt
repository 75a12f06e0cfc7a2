-- A router's node over a log of its boots, as contracts see it.
use Rattle.std.specs.Prelude.{◌≡◌, ◌<◌, ℕ, List, [], ◌∷◌, ◌++◌, None}
use Rattle.chunk_map.specs.Map.{Map}
use Rattle.journal_rec.specs.declared.record.Rec.{Rec}
use Rattle.journal_rec.specs.declared.record.Rec.TheVariants as rec
use Rattle.router_state.specs.State.{RouterState, fresh_router}
use Rattle.record_store.specs.Found.{FoundIn}
use Rattle.router_store.specs.Boots.{first_refused, last_boot, next_boot}

pub record RouterOn (L : Type 0) : Type 0 where
  pub router : RouterState
  pub records : List Rec
  pub log : L

-- a router that starts after these records, at the next boot, which is recorded
pub record Boots (number : ℕ) (chunks : Map) (old : List Rec) (router : RouterState)
    (new : List Rec) : Type 0 where
  pub follow : first_refused old ≡ None
  pub left : last_boot old < 4294967294
  pub fresh : router ≡ fresh_router number (next_boot old) chunks
  pub records : new ≡ old ++ rec.Boot (next_boot old) ∷ []

-- a router that starts after the records of a file, where its disk tells
pub record StartsFrom (number : ℕ) (chunks : Map) (told : Type 0) (file : List ℕ)
    (router : RouterState) (new : List Rec) : Type 0 where
  pub recs : List Rec
  pub found : FoundIn told file recs
  pub boots : Boots number chunks recs router new
