-- Writes by the document that they write: a namespace and an id.
use Rattle.std.specs.Prelude.{ℕ, Bool, List, [], map}
use Rattle.std.specs.List.{list_any}
use Rattle.std.specs.declared.cmp.Ordering.{Ordering}
use Rattle.std.specs.Ordering.{ordering_then, nat_cmp, is_eq}
use Rattle.std.specs.Cmp.Lexicographic.{slice_cmp}
use Rattle.txn_types.specs.Order.{id_cmp}
use Rattle.txn_types.specs.declared.id.Id.{Id}
use Rattle.txn_types.specs.declared.write.Write.{Write}
use Rattle.txn_types.specs.declared.write.Write.TheVariants.{Put, Delete}
use Rattle.txn_semantics.specs.Keyed.{laid}

-- the document that a write is to
abbrev pub Place : Type 0
Place = List ℕ × Id

abbrev pub place_of : Write → Place
place_of (Put ns id doc) = (ns, id)
place_of (Delete ns id) = (ns, id)

-- by the bytes of the namespace, and then by id
abbrev pub place_cmp : Place → Place → Ordering
place_cmp a b = ordering_then (slice_cmp nat_cmp a.0 b.0) (id_cmp a.1 b.1)

abbrev pub same_document : Write → Write → Bool
same_document a b = is_eq (place_cmp (place_of a) (place_of b))

-- some document is written by both
abbrev pub share_document : List Write → List Write → Bool
share_document xs ys = list_any (λ x. list_any (same_document x) ys) xs

abbrev pub placed : Write → Place × Write
placed write = (place_of write, write)

-- the last write to each document, rising by namespace and id
abbrev pub write_set : List Write → List Write
write_set writes = map (λ row. row.1) (laid place_cmp [] (map placed writes))
