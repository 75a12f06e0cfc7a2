-- Two values of kinds that are in different brackets: the brackets decide.
use Rattle.std.proofs.Common.{◌≡◌, ℕ, ℤ, List, refl, ap, ◌∙◌, sym, Bool, arith}
use Rattle.std.specs.Ordering.{nat_cmp}
use Rattle.bson_core.specs.declared.value.Bin.{Bin}
use Rattle.bson_core.specs.declared.value.Value.{Value}
use Rattle.bson_core.specs.declared.value.Value.TheOpen as of
use Rattle.bson_core.specs.declared.value.Value.TheOpen.{Value-F}
use Rattle.bson_core.specs.declared.value.Value.TheVariants as variants
use Rattle.bson_core.specs.declared.value.Value.TheViews as views
use Rattle.bson_core.specs.declared.value.Value.TheViews.{out-Value, roll-Value, roll-out-Value}
use Rattle.bson_core.specs.Order.{bracket, bracket_of, value_cmp}
use Rattle.value_order.specs.Parts.{field_cmp}
use Rattle.value_order.proofs.Unfolded.{Part, level, opened}
use Rattle.value_order.proofs.Pairs.{apart}

-- where the first has a bracket that the second hasn't
unlike : (a b : Value) (n : ℕ) → bracket a ≡ n → (n ≡ bracket b → ⊥)
    → value_cmp a b ≡ nat_cmp (bracket a) (bracket b)
unlike a b n is h = apart a b (λ e. h (sym is ∙ e))

no_number : (b : Value) (y : Value-F Value) → b ≡ roll-Value y → ((n : ℤ) → b ≡ variants.Int n → ⊥)
    → ((n : ℤ) → b ≡ variants.Long n → ⊥) → 2 ≡ bracket_of y → ⊥
unfolding views.roll-Value denote.Hole.Carrier.roll
no_number b (of.Int n) e h k same = h n e
no_number b (of.Long n) e h k same = k n e
no_number b y e h k same = omega (arith, same)

pub int_unlike : (a b : Value) (n : ℤ) → a ≡ variants.Int n → ((m : ℤ) → b ≡ variants.Int m → ⊥)
    → ((m : ℤ) → b ≡ variants.Long m → ⊥) → value_cmp a b ≡ nat_cmp (bracket a) (bracket b)
unfolding views.roll-Value denote.Hole.Carrier.roll out-Value denote.Hole.Carrier.out
int_unlike a b n is h k =
    unlike a b 2 (ap bracket is) (no_number b (out-Value b) (sym (roll-out-Value b)) h k)

pub long_unlike : (a b : Value) (n : ℤ) → a ≡ variants.Long n → ((m : ℤ) → b ≡ variants.Int m → ⊥)
    → ((m : ℤ) → b ≡ variants.Long m → ⊥) → value_cmp a b ≡ nat_cmp (bracket a) (bracket b)
unfolding views.roll-Value denote.Hole.Carrier.roll out-Value denote.Hole.Carrier.out
long_unlike a b n is h k =
    unlike a b 2 (ap bracket is) (no_number b (out-Value b) (sym (roll-out-Value b)) h k)

no_text : (b : Value) (y : Value-F Value) → b ≡ roll-Value y
    → ((t : List ℕ) → b ≡ variants.Text t → ⊥) → 3 ≡ bracket_of y → ⊥
unfolding views.roll-Value denote.Hole.Carrier.roll
no_text b (of.Text t) e h same = h t e
no_text b y e h same = omega (arith, same)

pub text_unlike : (a b : Value) (t : List ℕ) → a ≡ variants.Text t
    → ((t : List ℕ) → b ≡ variants.Text t → ⊥) → value_cmp a b ≡ nat_cmp (bracket a) (bracket b)
unfolding views.roll-Value denote.Hole.Carrier.roll out-Value denote.Hole.Carrier.out
text_unlike a b t is h =
    unlike a b 3 (ap bracket is) (no_text b (out-Value b) (sym (roll-out-Value b)) h)

no_document : (b : Value) (y : Value-F Value) → b ≡ roll-Value y
    → ((xs : List Part) → b ≡ views.Doc xs → ⊥) → 4 ≡ bracket_of y → ⊥
unfolding views.roll-Value denote.Hole.Carrier.roll
no_document b (of.Doc xs) e h same = h xs e
no_document b y e h same = omega (arith, same)

pub document_unlike : (a b : Value) (xs : List Part) → a ≡ views.Doc xs
    → ((xs : List Part) → b ≡ views.Doc xs → ⊥) → value_cmp a b ≡ nat_cmp (bracket a) (bracket b)
unfolding views.roll-Value denote.Hole.Carrier.roll out-Value denote.Hole.Carrier.out
document_unlike a b xs is h =
    unlike a b 4 (ap bracket is) (no_document b (out-Value b) (sym (roll-out-Value b)) h)

no_list : (b : Value) (y : Value-F Value) → b ≡ roll-Value y
    → ((xs : List Value) → b ≡ views.List xs → ⊥) → 5 ≡ bracket_of y → ⊥
unfolding views.roll-Value denote.Hole.Carrier.roll
no_list b (of.List xs) e h same = h xs e
no_list b y e h same = omega (arith, same)

pub list_unlike : (a b : Value) (xs : List Value) → a ≡ views.List xs
    → ((xs : List Value) → b ≡ views.List xs → ⊥) → value_cmp a b ≡ nat_cmp (bracket a) (bracket b)
unfolding views.roll-Value denote.Hole.Carrier.roll out-Value denote.Hole.Carrier.out
list_unlike a b xs is h =
    unlike a b 5 (ap bracket is) (no_list b (out-Value b) (sym (roll-out-Value b)) h)

no_binary : (b : Value) (y : Value-F Value) → b ≡ roll-Value y
    → ((x : Bin) → b ≡ variants.Bin x → ⊥) → 6 ≡ bracket_of y → ⊥
unfolding views.roll-Value denote.Hole.Carrier.roll
no_binary b (of.Bin x) e h same = h x e
no_binary b y e h same = omega (arith, same)

pub binary_unlike : (a b : Value) (x : Bin) → a ≡ variants.Bin x
    → ((x : Bin) → b ≡ variants.Bin x → ⊥) → value_cmp a b ≡ nat_cmp (bracket a) (bracket b)
unfolding views.roll-Value denote.Hole.Carrier.roll out-Value denote.Hole.Carrier.out
binary_unlike a b x is h =
    unlike a b 6 (ap bracket is) (no_binary b (out-Value b) (sym (roll-out-Value b)) h)

no_object_id : (b : Value) (y : Value-F Value) → b ≡ roll-Value y
    → ((x : List ℕ) → b ≡ variants.Oid x → ⊥) → 7 ≡ bracket_of y → ⊥
unfolding views.roll-Value denote.Hole.Carrier.roll
no_object_id b (of.Oid x) e h same = h x e
no_object_id b y e h same = omega (arith, same)

pub object_id_unlike : (a b : Value) (x : List ℕ) → a ≡ variants.Oid x
    → ((x : List ℕ) → b ≡ variants.Oid x → ⊥) → value_cmp a b ≡ nat_cmp (bracket a) (bracket b)
unfolding views.roll-Value denote.Hole.Carrier.roll out-Value denote.Hole.Carrier.out
object_id_unlike a b x is h =
    unlike a b 7 (ap bracket is) (no_object_id b (out-Value b) (sym (roll-out-Value b)) h)

no_bool : (b : Value) (y : Value-F Value) → b ≡ roll-Value y
    → ((x : Bool) → b ≡ variants.Bool x → ⊥) → 8 ≡ bracket_of y → ⊥
unfolding views.roll-Value denote.Hole.Carrier.roll
no_bool b (of.Bool x) e h same = h x e
no_bool b y e h same = omega (arith, same)

pub bool_unlike : (a b : Value) (x : Bool) → a ≡ variants.Bool x
    → ((x : Bool) → b ≡ variants.Bool x → ⊥) → value_cmp a b ≡ nat_cmp (bracket a) (bracket b)
unfolding views.roll-Value denote.Hole.Carrier.roll out-Value denote.Hole.Carrier.out
bool_unlike a b x is h =
    unlike a b 8 (ap bracket is) (no_bool b (out-Value b) (sym (roll-out-Value b)) h)

no_date : (b : Value) (y : Value-F Value) → b ≡ roll-Value y → ((n : ℤ) → b ≡ variants.Date n → ⊥)
    → 9 ≡ bracket_of y → ⊥
unfolding views.roll-Value denote.Hole.Carrier.roll
no_date b (of.Date n) e h same = h n e
no_date b y e h same = omega (arith, same)

pub date_unlike : (a b : Value) (n : ℤ) → a ≡ variants.Date n → ((n : ℤ) → b ≡ variants.Date n → ⊥)
    → value_cmp a b ≡ nat_cmp (bracket a) (bracket b)
unfolding views.roll-Value denote.Hole.Carrier.roll out-Value denote.Hole.Carrier.out
date_unlike a b n is h =
    unlike a b 9 (ap bracket is) (no_date b (out-Value b) (sym (roll-out-Value b)) h)

no_stamp : (b : Value) (y : Value-F Value) → b ≡ roll-Value y → ((n : ℕ) → b ≡ variants.Stamp n → ⊥)
    → 10 ≡ bracket_of y → ⊥
unfolding views.roll-Value denote.Hole.Carrier.roll
no_stamp b (of.Stamp n) e h same = h n e
no_stamp b y e h same = omega (arith, same)

pub stamp_unlike : (a b : Value) (n : ℕ) → a ≡ variants.Stamp n
    → ((n : ℕ) → b ≡ variants.Stamp n → ⊥) → value_cmp a b ≡ nat_cmp (bracket a) (bracket b)
unfolding views.roll-Value denote.Hole.Carrier.roll out-Value denote.Hole.Carrier.out
stamp_unlike a b n is h =
    unlike a b 10 (ap bracket is) (no_stamp b (out-Value b) (sym (roll-out-Value b)) h)

null_least : (y : Value-F Value) → level field_cmp of.Null y ≡ nat_cmp 1 (bracket_of y)
null_least of.Null = refl
null_least y = refl

pub null_unlike : (a b : Value) → a ≡ variants.Null
    → value_cmp a b ≡ nat_cmp (bracket a) (bracket b)
unfolding views.roll-Value denote.Hole.Carrier.roll out-Value denote.Hole.Carrier.out
null_unlike a b is = rw is (opened variants.Null b ∙ null_least (out-Value b))
