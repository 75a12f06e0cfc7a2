-- The order of values. It goes by bracket, that is by the kind, where the two kinds of numbers are
-- in one bracket: a number is compared by its value, whatever its kind. The MongoDB manual's
-- comparison order of BSON types is the model; the brackets are this project's own. `Less` stands
-- for "comes before", `Equal` for "in the same place".
use Rattle.std.specs.Prelude.{ℕ, ℤ, pos, true, List, [], ◌∷◌, map, length}
use Rattle.std.specs.declared.cmp.Ordering.{Ordering}
use Rattle.std.specs.declared.cmp.Ordering.TheVariants.{Less, Equal, Greater}
use Rattle.std.specs.Ordering.{ordering_then, nat_cmp, int_cmp}
use Rattle.std.specs.Cmp.Lexicographic.{slice_cmp}
use Rattle.bson_core.specs.declared.value.Value.{Value}
use Rattle.bson_core.specs.declared.value.Value.TheOpen as of
use Rattle.bson_core.specs.declared.value.Value.TheOpen.{Value-F}
use Rattle.bson_core.specs.declared.value.Value.TheViews.{out-Value}
use Rattle.bson_core.specs.declared.value.Value.TheFolds.{fold-Value}

-- the bracket of a kind
abbrev pub bracket_of : {A : Type 0} → Value-F A → ℕ
bracket_of of.Null = 1
bracket_of (of.Int n) = 2
bracket_of (of.Long n) = 2
bracket_of (of.Text t) = 3
bracket_of (of.Doc fields) = 4
bracket_of (of.List values) = 5
bracket_of (of.Bin b) = 6
bracket_of (of.Oid id) = 7
bracket_of (of.Bool b) = 8
bracket_of (of.Date n) = 9
bracket_of (of.Stamp n) = 10

abbrev pub bracket : Value → ℕ
bracket value = bracket_of (out-Value value)

-- What a value is compared by, within its bracket: a number, bytes, and what it holds.

-- a number, a moment and a timestamp are numbers, and false is before true
abbrev pub number_of : {A : Type 0} → Value-F A → ℤ
number_of (of.Int n) = n
number_of (of.Long n) = n
number_of (of.Date n) = n
number_of (of.Stamp n) = pos n
number_of (of.Bool true) = pos 1
number_of x = pos 0

-- a text by its bytes, an object id by its bytes, a binary by length, subtype and bytes
abbrev pub bytes_of : {A : Type 0} → Value-F A → List ℕ
bytes_of (of.Text t) = t
bytes_of (of.Oid id) = id
bytes_of (of.Bin b) = length b.bytes ∷ b.subtype ∷ b.bytes
bytes_of x = []

-- the fields of a document, in their order; the values of a list, which have no names
abbrev pub parts_of : {A : Type 0} → Value-F A → List (List ℕ × A)
parts_of (of.Doc fields) = fields
parts_of (of.List values) = map (λ value. ([], value)) values
parts_of x = []

-- a value's bracket, and where the value stands beside another
abbrev pub Place : Type 0
Place = ℕ × (Value → Ordering)

-- part by part: by the value's bracket, then the name, then the value; a proper prefix comes first
abbrev pub parts_cmp : List (List ℕ × Place) → List (List ℕ × Value) → Ordering
parts_cmp [] [] = Equal
parts_cmp [] (y ∷ ys) = Less
parts_cmp (x ∷ xs) [] = Greater
parts_cmp (x ∷ xs) (y ∷ ys) = ordering_then (nat_cmp x.1.0 (bracket y.1))
    (ordering_then (slice_cmp nat_cmp x.0 y.0) (ordering_then (x.1.1 y.1) (parts_cmp xs ys)))

abbrev pub place_step : Value-F Place → Place
place_step x = (
  bracket_of x,
  λ other. ordering_then (nat_cmp (bracket_of x) (bracket other))
      (ordering_then (int_cmp (number_of x) (number_of (out-Value other)))
      (ordering_then (slice_cmp nat_cmp (bytes_of x) (bytes_of (out-Value other)))
      (parts_cmp (parts_of x) (parts_of (out-Value other))))),
)

abbrev pub place : Value → Place
place = fold-Value Place place_step

-- where one value stands beside another
unfoldable pub value_cmp : Value → Value → Ordering
value_cmp a b = (place a).1 b
