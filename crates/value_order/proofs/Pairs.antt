-- Two values of one kind, and two that no kind holds both.
use Rattle.std.proofs.Common.{◌≡◌, ℕ, ℤ, List, [], ◌∷◌, map, refl, ap, ◌∙◌, sym, Bool, true, false}
use Rattle.std.proofs.Common.{pos, arith}
use Rattle.std.specs.declared.cmp.Ordering.{Ordering}
use Rattle.std.specs.declared.cmp.Ordering.TheVariants.{Less, Equal, Greater}
use Rattle.std.specs.Ordering.{ordering_then, nat_cmp, int_cmp, bool_cmp}
use Rattle.std.specs.Cmp.Lexicographic.{slice_cmp}
use Rattle.std.proofs.lemmas.Map.Lookups.{exact_unsigned}
use Rattle.std.proofs.lemmas.Bool.Decides.{nat_tests}
use Rattle.bson_core.specs.declared.value.Bin.{Bin}
use Rattle.bson_core.specs.declared.value.Value.{Value}
use Rattle.bson_core.specs.declared.value.Value.TheOpen as of
use Rattle.bson_core.specs.declared.value.Value.TheOpen.{Value-F}
use Rattle.bson_core.specs.declared.value.Value.TheVariants as variants
use Rattle.bson_core.specs.declared.value.Value.TheViews as views
use Rattle.bson_core.specs.declared.value.Value.TheViews.{out-Value, roll-Value, out-roll-Value}
use Rattle.bson_core.specs.declared.value.Value.TheViews.{roll-out-Value}
use Rattle.bson_core.specs.Order.{bracket, value_cmp}
use Rattle.value_order.specs.Parts.{binary_cmp, field_cmp}
use Rattle.value_order.proofs.Unfolded.{Part, unnamed, level, opened, then_again}

pub then_equal : (o : Ordering) → ordering_then o Equal ≡ o
then_equal Less = refl
then_equal Equal = refl
then_equal Greater = refl

-- the brackets decide first
pub brackets_first : (a b : Value)
    → value_cmp a b ≡ ordering_then (nat_cmp (bracket a) (bracket b)) (value_cmp a b)
brackets_first a b = rw (opened a b) (sym (then_again (nat_cmp (bracket a) (bracket b)) _))

decided : (m n : ℕ) (o : Ordering) → (m ≡ n → ⊥) → ordering_then (nat_cmp m n) o ≡ nat_cmp m n
decided m n o apart = go (nat_cmp m n) refl
  where
    go : (r : Ordering) → nat_cmp m n ≡ r → ordering_then r o ≡ r
    go Less e = refl
    go Equal e = absurd (apart (exact_unsigned m n e))
    go Greater e = refl

pub apart : (a b : Value) → (bracket a ≡ bracket b → ⊥)
    → value_cmp a b ≡ nat_cmp (bracket a) (bracket b)
apart a b h = brackets_first a b ∙ decided (bracket a) (bracket b) (value_cmp a b) h

same_bracket : (m n : ℕ) (o : Ordering) → ordering_then (nat_cmp m n) o ≡ Equal → m ≡ n
same_bracket m n o h = exact_unsigned m n (go (nat_cmp m n) h)
  where
    go : (r : Ordering) → ordering_then r o ≡ Equal → r ≡ Equal
    go Less e = e
    go Equal e = refl
    go Greater e = e

pub alike : (a b : Value) → value_cmp a b ≡ Equal → bracket a ≡ bracket b
alike a b h = same_bracket (bracket a) (bracket b) (value_cmp a b) (sym (brackets_first a b) ∙ h)

rolled : (x y : Value-F Value) → value_cmp (roll-Value x) (roll-Value y) ≡ level field_cmp x y
rolled x y = rw (opened (roll-Value x) (roll-Value y), out-roll-Value x, out-roll-Value y) refl

pub int_int : (m n : ℤ) → value_cmp (variants.Int m) (variants.Int n) ≡ int_cmp m n
unfolding views.roll-Value denote.Hole.Carrier.roll
int_int m n = rolled (of.Int m) (of.Int n) ∙ then_equal (int_cmp m n)

pub int_long : (m n : ℤ) → value_cmp (variants.Int m) (variants.Long n) ≡ int_cmp m n
unfolding views.roll-Value denote.Hole.Carrier.roll
int_long m n = rolled (of.Int m) (of.Long n) ∙ then_equal (int_cmp m n)

pub long_int : (m n : ℤ) → value_cmp (variants.Long m) (variants.Int n) ≡ int_cmp m n
unfolding views.roll-Value denote.Hole.Carrier.roll
long_int m n = rolled (of.Long m) (of.Int n) ∙ then_equal (int_cmp m n)

pub long_long : (m n : ℤ) → value_cmp (variants.Long m) (variants.Long n) ≡ int_cmp m n
unfolding views.roll-Value denote.Hole.Carrier.roll
long_long m n = rolled (of.Long m) (of.Long n) ∙ then_equal (int_cmp m n)

pub texts : (s t : List ℕ) → value_cmp (variants.Text s) (variants.Text t) ≡ slice_cmp nat_cmp s t
unfolding views.roll-Value denote.Hole.Carrier.roll
texts s t = rolled (of.Text s) (of.Text t) ∙ then_equal (slice_cmp nat_cmp s t)

pub documents : (xs ys : List Part)
    → value_cmp (views.Doc xs) (views.Doc ys) ≡ slice_cmp field_cmp xs ys
unfolding views.roll-Value denote.Hole.Carrier.roll
documents xs ys = rolled (of.Doc xs) (of.Doc ys)

unnamed_are : (xs ys : List Value)
    → slice_cmp field_cmp (map unnamed xs) (map unnamed ys) ≡ slice_cmp value_cmp xs ys
unnamed_are [] [] = refl
unnamed_are [] (y ∷ ys) = refl
unnamed_are (x ∷ xs) [] = refl
unnamed_are (x ∷ xs) (y ∷ ys) = rw (unnamed_are xs ys)
    (ap (λ (o : Ordering). ordering_then o (slice_cmp value_cmp xs ys)) (sym (brackets_first x y)))

pub lists : (xs ys : List Value)
    → value_cmp (views.List xs) (views.List ys) ≡ slice_cmp value_cmp xs ys
unfolding views.roll-Value denote.Hole.Carrier.roll
lists xs ys = rolled (of.List xs) (of.List ys) ∙ unnamed_are xs ys

pub binaries : (a b : Bin) → value_cmp (variants.Bin a) (variants.Bin b) ≡ binary_cmp a b
unfolding views.roll-Value denote.Hole.Carrier.roll
binaries a b = rolled (of.Bin a) (of.Bin b) ∙ then_equal (binary_cmp a b)

pub object_ids : (a b : List ℕ)
    → value_cmp (variants.Oid a) (variants.Oid b) ≡ slice_cmp nat_cmp a b
unfolding views.roll-Value denote.Hole.Carrier.roll
object_ids a b = rolled (of.Oid a) (of.Oid b) ∙ then_equal (slice_cmp nat_cmp a b)

bools_are : (a b : Bool) → level field_cmp (of.Bool a) (of.Bool b) ≡ bool_cmp a b
bools_are true true = refl
bools_are true false = refl
bools_are false true = refl
bools_are false false = refl

pub bools : (a b : Bool) → value_cmp (variants.Bool a) (variants.Bool b) ≡ bool_cmp a b
unfolding views.roll-Value denote.Hole.Carrier.roll
bools a b = rolled (of.Bool a) (of.Bool b) ∙ bools_are a b

pub dates : (m n : ℤ) → value_cmp (variants.Date m) (variants.Date n) ≡ int_cmp m n
unfolding views.roll-Value denote.Hole.Carrier.roll
dates m n = rolled (of.Date m) (of.Date n) ∙ then_equal (int_cmp m n)

unsigned : (m n : ℕ) → int_cmp (pos m) (pos n) ≡ nat_cmp m n
unsigned m n = grind (arith, nat_tests)

pub stamps : (m n : ℕ) → value_cmp (variants.Stamp m) (variants.Stamp n) ≡ nat_cmp m n
unfolding views.roll-Value denote.Hole.Carrier.roll
stamps m n = rolled (of.Stamp m) (of.Stamp n) ∙ then_equal (int_cmp (pos m) (pos n)) ∙ unsigned m n

pub ruleset pairs = (
  int_int,
  int_long,
  long_int,
  long_long,
  texts,
  documents,
  lists,
  binaries,
  object_ids,
  bools,
  dates,
  stamps,
)
