-- Documents and lists are compared part by part.
use Rattle.std.proofs.Common.{◌≡◌, List, [], ◌∷◌, ◌++◌, refl, ap, ◌∙◌, sym}
use Rattle.std.specs.declared.cmp.Ordering.{Ordering}
use Rattle.std.specs.declared.cmp.Ordering.TheVariants.{Less}
use Rattle.std.specs.Ordering.{ordering_then}
use Rattle.std.specs.Cmp.{IsTotalOrder}
use Rattle.std.specs.Cmp.Lexicographic.{slice_cmp}
use Rattle.std.proofs.lemmas.Cmp.{tied_itself}
use Rattle.bson_core.specs.declared.value.Value.{Value}
use Rattle.bson_core.specs.declared.value.Value.TheViews as kinds
use Rattle.bson_core.specs.Order.{value_cmp}
use Rattle.value_order.specs.Parts.{field_cmp}
use Rattle.value_order.proofs.Unfolded.{Part}
use Rattle.value_order.proofs.Pairs.{documents, lists}
use Rattle.value_order.proofs.Total.{part_total, value_total}

-- a proper prefix comes first
prefix : {A : Type 0} {R : A → A → Ordering} → IsTotalOrder R → (xs ys : List A) (y : A)
    → slice_cmp R xs (xs ++ y ∷ ys) ≡ Less
prefix t [] ys y = refl
prefix {R = R} t (x ∷ xs) ys y = rw (tied_itself t x) (prefix t xs ys y)

pub fields_more : (x y : Part) (xs ys : List Part) → value_cmp (kinds.Doc (x ∷ xs))
    (kinds.Doc (y ∷ ys)) ≡ ordering_then (field_cmp x y) (value_cmp (kinds.Doc xs) (kinds.Doc ys))
fields_more x y xs ys = documents (x ∷ xs) (y ∷ ys)
    ∙ ap (λ (o : Ordering). ordering_then (field_cmp x y) o) (sym (documents xs ys))

pub fewer_fields : (xs ys : List Part) (y : Part)
    → value_cmp (kinds.Doc xs) (kinds.Doc (xs ++ y ∷ ys)) ≡ Less
fewer_fields xs ys y = documents xs (xs ++ y ∷ ys) ∙ prefix (part_total value_total) xs ys y

pub values_more : (x y : Value) (xs ys : List Value) → value_cmp (kinds.List (x ∷ xs)) (kinds.List
    (y ∷ ys)) ≡ ordering_then (value_cmp x y) (value_cmp (kinds.List xs) (kinds.List ys))
values_more x y xs ys = lists (x ∷ xs) (y ∷ ys)
    ∙ ap (λ (o : Ordering). ordering_then (value_cmp x y) o) (sym (lists xs ys))

pub fewer_values : (xs ys : List Value) (y : Value)
    → value_cmp (kinds.List xs) (kinds.List (xs ++ y ∷ ys)) ≡ Less
fewer_values xs ys y = lists xs (xs ++ y ∷ ys) ∙ prefix value_total xs ys y
