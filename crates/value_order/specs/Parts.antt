-- What a binary, and a field of a document, are compared by.
use Rattle.std.specs.Prelude.{ℕ, List, length}
use Rattle.std.specs.declared.cmp.Ordering.{Ordering}
use Rattle.std.specs.Ordering.{ordering_then, nat_cmp}
use Rattle.std.specs.Cmp.Lexicographic.{slice_cmp}
use Rattle.bson_core.specs.declared.value.Bin.{Bin}
use Rattle.bson_core.specs.declared.value.Value.{Value}
use Rattle.bson_core.specs.Order.{bracket, value_cmp}

-- by length, then by subtype, then by the bytes
abbrev pub binary_cmp : Bin → Bin → Ordering
binary_cmp a b = ordering_then (nat_cmp (length a.bytes) (length b.bytes))
    (ordering_then (nat_cmp a.subtype b.subtype) (slice_cmp nat_cmp a.bytes b.bytes))

-- by the value's bracket, then by the name's bytes, then by the value
abbrev pub field_cmp : List ℕ × Value → List ℕ × Value → Ordering
field_cmp x y = ordering_then (nat_cmp (bracket x.1) (bracket y.1))
    (ordering_then (slice_cmp nat_cmp x.0 y.0) (value_cmp x.1 y.1))
