-- What a map hashes of a session.
use Rattle.std.specs.Prelude.{◌≡◌, IsTrue, List, ℕ, [], ◌∷◌, ◌++◌}
use Rattle.std.specs.Hash as fed
use Rattle.std.specs.Ordering.{eq_by_cmp}
use Rattle.std.proofs.Common.{ap}
use Rattle.std.proofs.lemmas.Map.Views.{tells_apart}
use Rattle.txn_types.proofs.Orders.{lsid_exact}
use Rattle.txn_types.specs.Order.{lsid_cmp}
use Rattle.txn_types.specs.declared.node.Lsid.{Lsid}
use Rattle.txn_types.specs.declared.node.Lsid.TheVariants.{Client, Own}

-- a client's bytes, or a connection's numbers
abbrev pub lsid_input : Lsid → List (List ℕ)
lsid_input (Client bytes) = bytes ∷ []
lsid_input (Own router boot conn) = fed.u16 router ++ fed.u32 boot ++ fed.u32 conn

-- one session is hashed in one way
pub same_lsids_hash_alike : (a b : Lsid) → IsTrue (eq_by_cmp lsid_cmp a b)
    → lsid_input a ≡ lsid_input b
same_lsids_hash_alike a b same = ap lsid_input (tells_apart lsid_exact a b same)
