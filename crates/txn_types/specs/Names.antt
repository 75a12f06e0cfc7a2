-- Names of databases, collections and namespaces. The limits are those of this project, within
-- those of the MongoDB manual.
use Rattle.std.specs.Prelude.{◌≡◌, ℕ, ◌==◌, ◌&&◌, Bool, not, true, List, ◌∷◌, ◌++◌, length, nat_le}
use Rattle.std.specs.List.{list_all}

-- no control byte, no space, no 0x7F and no `$`
abbrev pub is_name_byte : ℕ → Bool
is_name_byte b = nat_le 33 b && not (b == 127) && not (b == 36)

-- 1 to 63 bytes, and no full stop
abbrev pub is_database : List ℕ → Bool
is_database name = nat_le 1 (length name) && nat_le (length name) 63
    && list_all (λ b. is_name_byte b && not (b == 46)) name

-- 1 to 200 bytes
abbrev pub is_collection : List ℕ → Bool
is_collection name =
    nat_le 1 (length name) && nat_le (length name) 200 && list_all is_name_byte name

-- the two names with a full stop between
abbrev pub namespace_of : List ℕ → List ℕ → List ℕ
namespace_of database collection = database ++ 46 ∷ collection

-- the namespace of some collection in some database
pub record IsNamespace (ns : List ℕ) : Type 0 where
  pub database : List ℕ
  pub collection : List ℕ
  pub joined : ns ≡ namespace_of database collection
  pub first : is_database database ≡ true
  pub second : is_collection collection ≡ true
