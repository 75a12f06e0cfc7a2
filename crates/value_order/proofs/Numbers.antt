-- Numbers are compared by their values.
use Rattle.std.proofs.Common.{◌≡◌, ℤ, Some, ◌∙◌}
use Rattle.std.specs.declared.cmp.Ordering.TheVariants.{Equal}
use Rattle.std.specs.Ordering.{int_cmp}
use Rattle.std.proofs.lemmas.Cmp.{tied_itself, int_cmp_total}
use Rattle.bson_core.specs.declared.value.Value.{Value}
use Rattle.bson_core.specs.declared.value.Value.TheOpen as of
use Rattle.bson_core.specs.declared.value.Value.TheOpen.{Value-F}
use Rattle.bson_core.specs.declared.value.Value.TheVariants.{Int, Long}
use Rattle.bson_core.specs.declared.value.Value.TheViews.{out-Value}
use Rattle.bson_core.specs.Order.{value_cmp}
use Rattle.value_order.specs.Numbers.{number_of_kind, number_in}
use Rattle.value_order.specs.Parts.{field_cmp}
use Rattle.value_order.proofs.Unfolded.{level, opened}
use Rattle.value_order.proofs.Pairs.{int_long, then_equal}

pub one_place : (n : ℤ) → value_cmp (Int n) (Long n) ≡ Equal
one_place n = int_long n n ∙ tied_itself int_cmp_total n

level_of_numbers : (x y : Value-F Value) (m n : ℤ) → number_of_kind x ≡ Some m
    → number_of_kind y ≡ Some n → level field_cmp x y ≡ int_cmp m n
level_of_numbers (of.Int m) (of.Int n) i j h k = then_equal (int_cmp m n) ∙ (cc)
level_of_numbers (of.Int m) (of.Long n) i j h k = then_equal (int_cmp m n) ∙ (cc)
level_of_numbers (of.Long m) (of.Int n) i j h k = then_equal (int_cmp m n) ∙ (cc)
level_of_numbers (of.Long m) (of.Long n) i j h k = then_equal (int_cmp m n) ∙ (cc)
level_of_numbers (of.Int m) y i j h k = cc
level_of_numbers (of.Long m) y i j h k = cc
level_of_numbers x y i j h k = cc

pub by_value : (a b : Value) (m n : ℤ) → number_in a ≡ Some m → number_in b ≡ Some n
    → value_cmp a b ≡ int_cmp m n
by_value a b m n h k = opened a b ∙ level_of_numbers (out-Value a) (out-Value b) m n h k
