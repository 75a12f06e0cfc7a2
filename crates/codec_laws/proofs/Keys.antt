-- Ids have the order of the values that they are: an id is compared by what its value is compared
-- by.
use Rattle.std.proofs.Common.{◌≡◌, true, false, List, [], Option, Some, refl, ap, sym, subst, ◌∙◌}
use Rattle.std.specs.declared.cmp.Ordering.{Ordering}
use Rattle.std.specs.declared.cmp.Ordering.TheVariants.{Less, Equal, Greater}
use Rattle.std.specs.Ordering.{ordering_then, nat_cmp, int_cmp}
use Rattle.std.specs.Cmp.Lexicographic.{slice_cmp}
use Rattle.bson_core.specs.declared.value.Value.{Value}
use Rattle.bson_core.specs.declared.value.Value.TheOpen as of
use Rattle.bson_core.specs.declared.value.Value.TheOpen.{Value-F}
use Rattle.bson_core.specs.declared.value.Value.TheViews.{out-Value}
use Rattle.bson_core.specs.Order.{value_cmp}
use Rattle.bson_core.specs.Order as values
use Rattle.txn_types.specs.Ids.{id_of_kind, id_of}
use Rattle.txn_types.specs.Order.{kind_of, number_of, bytes_of, id_cmp}
use Rattle.txn_types.specs.declared.id.Id.{Id}
use Rattle.value_order.specs.Parts.{field_cmp}
use Rattle.value_order.proofs.Unfolded.{Part, level, opened}

-- a value and its id are compared by the same, and the value has no parts
record IsKey (x : Value-F Value) (id : Id) : Type 0 where
  bracket : values.bracket_of x ≡ kind_of id
  number : values.number_of x ≡ number_of id
  bytes : values.bytes_of x ≡ bytes_of id
  parts : ◌≡◌ {A = List Part} (values.parts_of x) []

same_key : (x : Value-F Value) (made id : Id) → ◌≡◌ {A = Option Id} (Some made) (Some id)
    → IsKey x made → IsKey x id
same_key x made id is key = let same : made ≡ id = cc in subst (IsKey x) same key

plain : (x : Value-F Value) (id : Id) → values.bracket_of x ≡ kind_of id
    → values.number_of x ≡ number_of id → values.bytes_of x ≡ bytes_of id
    → ◌≡◌ {A = List Part} (values.parts_of x) [] → IsKey x id
plain x id bracket number bytes parts =
    record { bracket = bracket; number = number; bytes = bytes; parts = parts }

key : (x : Value-F Value) (id : Id) → id_of_kind x ≡ Some id → IsKey x id
key of.Null id is = absurd cc
key (of.Doc fields) id is = absurd cc
key (of.List values) id is = absurd cc
key (of.Stamp n) id is = absurd cc
key (of.Bool true) id is = same_key (of.Bool true) _ id is (plain _ _ refl refl refl refl)
key (of.Bool false) id is = same_key (of.Bool false) _ id is (plain _ _ refl refl refl refl)
key x id is = same_key x _ id is (plain _ _ refl refl refl refl)

then_nothing : (o : Ordering) → ordering_then o Equal ≡ o
then_nothing Less = refl
then_nothing Equal = refl
then_nothing Greater = refl

then_last : (a b c : Ordering) → ordering_then a (ordering_then b (ordering_then c Equal))
    ≡ ordering_then a (ordering_then b c)
then_last a b c = ap (λ (o : Ordering). ordering_then a (ordering_then b o)) (then_nothing c)

by_keys : (x y : Value-F Value) (i j : Id) → IsKey x i → IsKey y j
    → level field_cmp x y ≡ id_cmp i j
by_keys x y i j first second =
    rw (
      first.bracket,
      first.number,
      first.bytes,
      first.parts,
      second.bracket,
      second.number,
      second.bytes,
      second.parts,
    )
    (then_last (nat_cmp (kind_of i) (kind_of j)) (int_cmp (number_of i) (number_of j))
    (slice_cmp nat_cmp (bytes_of i) (bytes_of j)))

pub ids_as_values : (a b : Value) (i j : Id) → id_of a ≡ Some i → id_of b ≡ Some j
    → id_cmp i j ≡ value_cmp a b
ids_as_values a b i j first second = sym (opened a b ∙ by_keys (out-Value a) (out-Value b) i j
    (key (out-Value a) i first) (key (out-Value b) j second))
