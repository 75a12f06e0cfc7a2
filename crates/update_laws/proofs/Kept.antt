-- What updates leave, and what they make.
use Rattle.std.proofs.Common.{◌≡◌, ℕ, ℤ, pos, Bool, true, false, cond, not, List, [], ◌∷◌, ◌++◌}
use Rattle.std.proofs.Common.{length, Option, Some, None, Result, Ok, Err, refl, sym, ap, ◌∙◌}
use Rattle.std.proofs.Common.{if◌then◌else◌}
use Rattle.std.specs.Prelude.{◌+ℤ◌, nat_le, FitsSigned}
use Rattle.std.specs.Int.{w32, w64}
use Rattle.std.specs.Str.{bytes_eq}
use Rattle.std.proofs.lemmas.Slice.Eq.{bytes_eq-Decides}
use Rattle.bson_core.specs.declared.value.Value.{Value}
use Rattle.bson_core.specs.declared.value.Value.TheVariants as values
use Rattle.bson_core.specs.declared.value.Value.TheViews.{out-Value}
use Rattle.bson_core.specs.Fields.{Document, value_of, with_value}
use Rattle.bson_core.specs.Spelling.{spelling}
use Rattle.txn_types.specs.Ids.{id_name}
use Rattle.txn_types.specs.declared.operation.What.{What}
use Rattle.txn_types.specs.declared.operation.What.TheVariants.{Immutable, TooLarge}
use Rattle.txn_types.specs.declared.update.Update.{Update}
use Rattle.txn_types.specs.declared.update.Update.TheVariants.{Replace, Ops}
use Rattle.txn_types.specs.declared.update.UpdateKind.{UpdateKind}
use Rattle.txn_types.specs.declared.update.UpdateKind.TheVariants.{Set, Unset, Inc}
use Rattle.txn_types.specs.declared.update.UpdateOp.{UpdateOp}
use Rattle.txn_semantics.specs.Updates.{long_of, int_of, increased, without_name, applied}
use Rattle.txn_semantics.specs.Updates.{all_applied, is_same_value, with_old_id, id_fields}
use Rattle.txn_semantics.specs.Updates.{may_replace, within_limit, updated_by, apply}
use Rattle.std.proofs.Math.IntN.{+ℤ_idr}
use Rattle.outcomes.specs.Bind.{◌>>=◌}
use Rattle.outcomes.proofs.Binding.{ok_is}
use Rattle.query_eval.proofs.Sums.{int_fits, long_fits}
use Rattle.update_laws.specs.Others.{NoneNamed, fields_of}

-- Steps that gave something.

found : {A B : Type 0} (r : Result A What) (f : A → Result B What) (y : B) → (r >>= f) ≡ Ok y
    → (x : A) × (r ≡ Ok x) × (f x ≡ Ok y)
found (Ok x) f y e = (x, refl, e)
found (Err d) f y e = absurd cc

given : {A : Type 0} (b : Bool) (x y : A) (d : What)
    → ◌≡◌ {A = Result A What} (if b then Ok x else Err d) (Ok y) → x ≡ y
given true x y d e = cc
given false x y d e = absurd cc

-- what an update gave, before it was looked at
made : (update : Update) (doc new : Document) → apply update doc ≡ Ok new
    → updated_by update doc ≡ Ok new
unfolding apply
made update doc new is =
    let one = found (updated_by update doc) within_limit new is in
    one.1 ∙ ap (λ (d : Document). Ok d) (given (nat_le (length (spelling one.0)) 16777216) one.0 new
    TooLarge one.2)

by_operators : (ops : List UpdateOp) (doc new : Document) → apply (Ops ops) doc ≡ Ok new
    → all_applied ops doc ≡ Ok new
by_operators ops doc new is =
    let one = found (all_applied ops doc) (with_old_id doc) new (made (Ops ops) doc new is) in
    one.1 ∙ ap (λ (d : Document). Ok d) (given
    (is_same_value (value_of id_name one.0) (value_of id_name doc)) one.0 new Immutable one.2)

-- Fields of other names.

same_name : (a b : List ℕ) → bytes_eq a b ≡ true → a ≡ b
same_name a b is = (bytes_eq-Decides a b).0 is

set_case : (kept : List ℕ → Bool) (name : List ℕ) (value : Value) (field : List ℕ
    × Value) (fields : Document) (b : Bool) → kept name ≡ false → bytes_eq field.0 name ≡ b
    → fields_of kept (with_value name value fields) ≡ fields_of kept fields
    → fields_of kept (if b then (name, value) ∷ fields else field ∷ with_value name value fields)
    ≡ fields_of kept (field ∷ fields)
set_case kept name value field fields true none is more =
    let also : kept field.0 ≡ false = ap kept (same_name field.0 name is) ∙ none in
    rw (none, also) refl
set_case kept name value field fields false none is more =
    ap (λ (l : Document). cond (kept field.0) (field ∷ l) l) more

set_leaves : (kept : List ℕ → Bool) (name : List ℕ) (value : Value) (doc : Document)
    → kept name ≡ false → fields_of kept (with_value name value doc) ≡ fields_of kept doc
set_leaves kept name value [] none = rw none refl
set_leaves kept name value (field ∷ fields) none = set_case kept name value field fields
    (bytes_eq field.0 name) none refl (set_leaves kept name value fields none)

unset_case : (kept : List ℕ → Bool) (name : List ℕ) (field : List ℕ
    × Value) (fields : Document) (b : Bool) → kept name ≡ false → bytes_eq field.0 name ≡ b
    → fields_of kept (without_name name fields) ≡ fields_of kept fields
    → fields_of kept (cond (not b) (field ∷ without_name name fields) (without_name name fields))
    ≡ fields_of kept (field ∷ fields)
unset_case kept name field fields true none is more =
    let also : kept field.0 ≡ false = ap kept (same_name field.0 name is) ∙ none in
    more ∙ sym (ap (λ (b : Bool). cond b (field ∷ fields_of kept fields) (fields_of kept fields))
    also)
unset_case kept name field fields false none is more =
    ap (λ (l : Document). cond (kept field.0) (field ∷ l) l) more

unset_leaves : (kept : List ℕ → Bool) (name : List ℕ) (doc : Document) → kept name ≡ false
    → fields_of kept (without_name name doc) ≡ fields_of kept doc
unset_leaves kept name [] none = refl
unset_leaves kept name (field ∷ fields) none = unset_case kept name field fields (bytes_eq field.0
    name) none refl (unset_leaves kept name fields none)

one_leaves : (kept : List ℕ → Bool) (kind : UpdateKind) (name : List ℕ) (value : Value)
    (doc new : Document) → kept name ≡ false → applied kind name value doc ≡ Ok new
    → fields_of kept new ≡ fields_of kept doc
one_leaves kept Set name value doc new none is = ap (fields_of kept)
    (sym (ok_is (with_value name value doc) new is)) ∙ set_leaves kept name value doc none
one_leaves kept Unset name value doc new none is = ap (fields_of kept)
    (sym (ok_is (without_name name doc) new is)) ∙ unset_leaves kept name doc none
one_leaves kept Inc name value doc new none is =
    let sum =
    found (increased (value_of name doc) value) (λ sum. Ok (with_value name sum doc)) new is in
    ap (fields_of kept) (sym (ok_is (with_value name sum.0 doc) new sum.2))
    ∙ set_leaves kept name sum.0 doc none

all_leave : (kept : List ℕ → Bool) (ops : List UpdateOp) (doc new : Document) → NoneNamed kept ops
    → all_applied ops doc ≡ Ok new → fields_of kept new ≡ fields_of kept doc
all_leave kept [] doc new none is = ap (fields_of kept) (sym (ok_is doc new is))
all_leave kept (op ∷ ops) doc new none is =
    let one = found (applied op.kind op.name op.value doc) (λ next. all_applied ops next) new is in
    all_leave kept ops one.0 new none.1 one.2
    ∙ one_leaves kept op.kind op.name op.value doc one.0 none.0 one.1

pub others_stay : (kept : List ℕ → Bool) (ops : List UpdateOp) (doc new : Document)
    → NoneNamed kept ops → apply (Ops ops) doc ≡ Ok new → fields_of kept new ≡ fields_of kept doc
others_stay kept ops doc new none is = all_leave kept ops doc new none (by_operators ops doc new is)

-- What an operator makes.

itself : (name : List ℕ) → bytes_eq name name ≡ true
itself name = (bytes_eq-Decides name name).1 refl

value_case : (name : List ℕ) (value : Value) (field : List ℕ × Value) (fields : Document) (b : Bool)
    → bytes_eq field.0 name ≡ b → value_of name (with_value name value fields) ≡ Some value
    → value_of name (if b then (name, value) ∷ fields else field ∷ with_value name value fields)
    ≡ Some value
value_case name value field fields true is more = rw (itself name) refl
value_case name value field fields false is more = rw is more

has_value : (name : List ℕ) (value : Value) (doc : Document)
    → value_of name (with_value name value doc) ≡ Some value
has_value name value [] = rw (itself name) refl
has_value name value (field ∷ fields) =
    value_case name value field fields (bytes_eq field.0 name) refl (has_value name value fields)

none_case : (name : List ℕ) (field : List ℕ × Value) (fields : Document) (b : Bool)
    → bytes_eq field.0 name ≡ b → value_of name (without_name name fields) ≡ None → value_of name
    (cond (not b) (field ∷ without_name name fields) (without_name name fields)) ≡ None
none_case name field fields true is more = more
none_case name field fields false is more = rw is more

has_none : (name : List ℕ) (doc : Document) → value_of name (without_name name doc) ≡ None
has_none name [] = refl
has_none name (field ∷ fields) =
    none_case name field fields (bytes_eq field.0 name) refl (has_none name fields)

one_applied : (op : UpdateOp) (doc new : Document) → apply (Ops (op ∷ [])) doc ≡ Ok new
    → applied op.kind op.name op.value doc ≡ Ok new
one_applied op doc new is =
    let one = found (applied op.kind op.name op.value doc) (λ next.
    Ok next) new (by_operators (op ∷ []) doc new is) in
    one.1 ∙ one.2

pub set_is : (name : List ℕ) (value : Value) (doc new : Document)
    → apply (Ops (record { kind = Set; name = name; value = value } ∷ [])) doc ≡ Ok new
    → value_of name new ≡ Some value
set_is name value doc new is =
    ap (value_of name) (sym (ok_is (with_value name value doc) new
    (one_applied (record { kind = Set; name = name; value = value }) doc new is)))
    ∙ has_value name value doc

pub unset_is : (name : List ℕ) (value : Value) (doc new : Document)
    → apply (Ops (record { kind = Unset; name = name; value = value } ∷ [])) doc ≡ Ok new
    → value_of name new ≡ None
unset_is name value doc new is =
    ap (value_of name) (sym (ok_is (without_name name doc) new
    (one_applied (record { kind = Unset; name = name; value = value }) doc new is)))
    ∙ has_none name doc

-- the value that stands there, put there
again_case : (name : List ℕ) (value : Value) (field : List ℕ × Value) (fields : Document) (b : Bool)
    → bytes_eq field.0 name ≡ b → (if b then Some field.1 else value_of name fields) ≡ Some value
    → (value_of name fields ≡ Some value → with_value name value fields ≡ fields) → (if b
    then (name, value) ∷ fields else field ∷ with_value name value fields) ≡ field ∷ fields
again_case name value field fields true is there more =
    let name_is : name ≡ field.0 = sym (same_name field.0 name is) in
    let value_is : value ≡ field.1 = cc in
    λ i. (name_is i, value_is i) ∷ fields
again_case name value field fields false is there more =
    ap (λ (l : Document). field ∷ l) (more there)

put_again : (name : List ℕ) (value : Value) (doc : Document) → value_of name doc ≡ Some value
    → with_value name value doc ≡ doc
put_again name value [] there = absurd cc
put_again name value (field ∷ fields) there = again_case name value field fields (bytes_eq field.0
    name) refl there (put_again name value fields)

sum_put : (name : List ℕ) (value amount : Value) (doc : Document) → value_of name doc ≡ Some value
    → increased (Some value) amount ≡ Ok value → applied Inc name amount doc ≡ Ok doc
sum_put name value amount doc there sum =
    rw (there, sum) (ap (λ (d : Document). Ok d) (put_again name value doc there))

zero_more : (n : ℤ) → n +ℤ pos 0 ≡ n
zero_more n = +ℤ_idr n

pub zero_int : (name : List ℕ) (n : ℤ) (doc : Document) → FitsSigned w32 n
    → value_of name doc ≡ Some (values.Int n) → applied Inc name (values.Int (pos 0)) doc ≡ Ok doc
unfolding out-Value denote.Hole.Carrier.out
zero_int name n doc fits there = sum_put name (values.Int n) (values.Int (pos 0)) doc there
    (ap int_of (zero_more n) ∙ int_fits n fits)

pub zero_long : (name : List ℕ) (n : ℤ) (doc : Document) → FitsSigned w64 n
    → value_of name doc ≡ Some (values.Long n) → applied Inc name (values.Int (pos 0)) doc ≡ Ok doc
unfolding out-Value denote.Hole.Carrier.out
zero_long name n doc fits there = sum_put name (values.Long n) (values.Int (pos 0)) doc there
    (ap long_of (zero_more n) ∙ long_fits n fits)

-- What replaces a document.

twice_case : (name : List ℕ) (field : List ℕ × Value) (fields : Document) (b : Bool)
    → bytes_eq field.0 name ≡ b
    → without_name name (without_name name fields) ≡ without_name name fields
    → without_name name (cond (not b) (field ∷ without_name name fields) (without_name name fields))
    ≡ cond (not b) (field ∷ without_name name fields) (without_name name fields)
twice_case name field fields true is more = more
twice_case name field fields false is more =
    ap (λ (b : Bool). cond (not b) (field ∷ without_name name (without_name name fields))
    (without_name name (without_name name fields))) is ∙ ap (λ (l : Document). field ∷ l) more

twice : (name : List ℕ) (doc : Document)
    → without_name name (without_name name doc) ≡ without_name name doc
twice name [] = refl
twice name (field ∷ fields) =
    twice_case name field fields (bytes_eq field.0 name) refl (twice name fields)

first_id : (o : Option Value) (other : Document)
    → value_of id_name (id_fields o ++ without_name id_name other) ≡ o
first_id None other = has_none id_name other
first_id (Some v) other = refl

other_fields : (o : Option Value) (other : Document)
    → without_name id_name (id_fields o ++ without_name id_name other) ≡ without_name id_name other
other_fields None other = twice id_name other
other_fields (Some v) other = twice id_name other

replaced_is : (other doc new : Document) → apply (Replace other) doc ≡ Ok new
    → id_fields (value_of id_name doc) ++ without_name id_name other ≡ new
replaced_is other doc new is =
    given (may_replace (value_of id_name other) (value_of id_name doc)) (id_fields (value_of id_name
    doc) ++ without_name id_name other) new Immutable (made (Replace other) doc new is)

pub replaced_id : (other doc new : Document) → apply (Replace other) doc ≡ Ok new
    → value_of id_name new ≡ value_of id_name doc
replaced_id other doc new is = ap (value_of id_name) (sym (replaced_is other doc new is))
    ∙ first_id (value_of id_name doc) other

pub replaced_fields : (other doc new : Document) → apply (Replace other) doc ≡ Ok new
    → without_name id_name new ≡ without_name id_name other
replaced_fields other doc new is = ap (without_name id_name) (sym (replaced_is other doc new is))
    ∙ other_fields (value_of id_name doc) other
