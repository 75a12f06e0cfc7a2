-- What was checked is as it has to be: of each name the first field meets its rule, with nothing
-- missing inside.
use Rattle.std.proofs.Common.{◌≡◌, ℕ, Bool, true, false, cond, List, [], ◌∷◌, ◌++◌, map, Option}
use Rattle.std.proofs.Common.{Some, None, Result, Ok, Err, refl, sym, ap, subst, ◌∙◌}
use Rattle.std.specs.Prelude.{◌||◌}
use Rattle.std.specs.Option.{option_or}
use Rattle.std.proofs.lemmas.Slice.Eq.{bytes_eq-Decides}
use Rattle.std.specs.Str.{bytes_eq}
use Rattle.outcomes.specs.Bind.{◌>>=◌}
use Rattle.outcomes.proofs.Binding.{bind_ok}
use Rattle.bson_core.specs.declared.value.Value.{Value}
use Rattle.bson_core.specs.Fields.{Document, value_of}
use Rattle.op_msg.specs.declared.frame.Frame.{Frame}
use Rattle.txn_types.specs.declared.operation.Op.{Op}
use Rattle.crud_parse.specs.declared.error.CrudErr.{CrudErr}
use Rattle.command_parse.specs.declared.command.Command.{Command}
use Rattle.command_parse.specs.declared.command.Command.TheVariants as command
use Rattle.command_parse.specs.declared.command.Statement.{Statement}
use Rattle.command_parse.specs.declared.rules.Rule.{Rule}
use Rattle.command_parse.specs.Commands.{rule_of}
use Rattle.command_parse.specs.Checks.{Checked, behind, check_each, is_among, firsts_behind, firsts}
use Rattle.command_parse.specs.Checks.{present}
use Rattle.command_parse.specs.Items.{Given, InBody}
use Rattle.command_parse.specs.Operations.{Field, in_body, in_section, fields_of, value_check}
use Rattle.command_parse.specs.Operations.{field_by, field_check, checked, op_of}
use Rattle.command_parse.proofs.Lacking.{body_field}

-- Results that were given.

none_present : (missing : Option (List ℕ)) (u : Unit {0}) → present missing ≡ Ok u → missing ≡ None
none_present None u e = refl
none_present (Some name) u e = absurd cc

first_none : (a b : Option (List ℕ)) → option_or a b ≡ None → a ≡ None
first_none None b e = refl
first_none (Some x) b e = absurd cc

-- nothing was missing in the first, nor in those after it
pub both_checked : {A : Type 0} (check : A → Checked) (x : A) (xs : List A)
    → check_each check (x ∷ xs) ≡ Ok None → (check x ≡ Ok None) × (check_each check xs ≡ Ok None)
both_checked check x xs e =
    let one = bind_ok (check x) (λ missing. behind missing (check_each check xs)) None e in
    let more = bind_ok (check_each check xs) (λ name. Ok (option_or one.0 name)) None one.2 in
    let none = first_none one.0 more.0 cc in
    let rest : more.0 ≡ None = by one.0 more.0 none cc in (
      one.1 ∙ ap (λ (m : Option (List ℕ)). Ok m) none,
      more.1 ∙ ap (λ (m : Option (List ℕ)). Ok m) rest,
    )
  where
    by : (a b : Option (List ℕ)) → a ≡ None → option_or a b ≡ None → b ≡ None
    by None b none e = e
    by (Some x) b none e = absurd cc

-- what stands first under the name
abbrev first_of : {A : Type 0} → List ℕ → List (List ℕ × A) → Option A
first_of name [] = None
first_of name (field ∷ fields) = cond (bytes_eq field.0 name) (Some field.1) (first_of name fields)

-- the name isn't among these and one more that it isn't
not_among_by : (b rest more : Bool) → (b || rest) ≡ false → (rest ≡ false → more ≡ false)
    → (b || more) ≡ false
not_among_by true rest more among later = absurd cc
not_among_by false rest more among later = later among

not_among : (name other : List ℕ) (names : List (List ℕ)) → is_among name names ≡ false
    → bytes_eq other name ≡ false → is_among name (names ++ other ∷ []) ≡ false
not_among name other [] among differs = rw differs refl
not_among name other (first ∷ names) among differs =
    not_among_by (bytes_eq first name) (is_among name names) (is_among name (names ++ other ∷ []))
    among (λ h. not_among name other names h differs)

-- of each name the first field was checked
first_by : {A : Type 0} (check : List ℕ × A → Checked) (name : List ℕ) (names : List (List ℕ))
    (field : List ℕ × A) (fields : List (List ℕ × A)) (x : A) (same known : Bool)
    → bytes_eq field.0 name ≡ same → is_among field.0 names ≡ known → is_among name names ≡ false
    → cond same (Some field.1) (first_of name fields) ≡ Some x
    → check_each check (cond known (firsts_behind names fields)
    (field ∷ firsts_behind (names ++ field.0 ∷ []) fields)) ≡ Ok None
    → ((others : List (List ℕ)) → is_among name others ≡ false → first_of name fields ≡ Some x
    → check_each check (firsts_behind others fields) ≡ Ok None → check (name, x) ≡ Ok None)
    → check (name, x) ≡ Ok None
first_by check name names field fields x true true s k among is e later =
    absurd (let bad : true ≡ false = sym k
    ∙ ap (λ (n : List ℕ). is_among n names) ((bytes_eq-Decides field.0 name).0 s) ∙ among in cc)
first_by {A = A} check name names field fields x true false s k among is e later =
    let named : field.0 ≡ name = (bytes_eq-Decides field.0 name).0 s in
    let given : field.1 ≡ x = cc in
    let this : ◌≡◌ {A = List ℕ × A} field (name, x) = λ i. (named i, given i) in
    subst (λ (f : List ℕ × A). check f ≡ Ok None) this
    (both_checked check field (firsts_behind (names ++ field.0 ∷ []) fields) e).0
first_by check name names field fields x false true s k among is e later = later names among is e
first_by check name names field fields x false false s k among is e later =
    later (names ++ field.0 ∷ []) (not_among name field.0 names among s) is
    (both_checked check field (firsts_behind (names ++ field.0 ∷ []) fields) e).1

first_checked : {A : Type 0} (check : List ℕ × A → Checked) (name : List ℕ) (names : List (List ℕ))
    (fields : List (List ℕ × A)) (x : A)
    → is_among name names ≡ false → first_of name fields ≡ Some x
    → check_each check (firsts_behind names fields) ≡ Ok None → check (name, x) ≡ Ok None
first_checked check name names [] x among is e = absurd cc
first_checked check name names (field ∷ fields) x among is e =
    first_by check name names field fields x (bytes_eq field.0 name) (is_among field.0 names) refl
    refl among is e (λ others. first_checked check name others fields x)

-- what a name has in the body stands first of the fields
in_front_by : (b : Bool) (x v : Value) (o : Option Value) (p : Option Given)
    → cond b (Some x) o ≡ Some v → (o ≡ Some v → p ≡ Some (InBody v))
    → cond b (Some (InBody x)) p ≡ Some (InBody v)
in_front_by true x v o p is later =
    ap (λ (y : Value). Some (InBody y)) (let same : x ≡ v = cc in same)
in_front_by false x v o p is later = later is

in_front : (name : List ℕ) (body : Document) (sections : List Field) (v : Value)
    → value_of name body ≡ Some v → first_of name (map in_body body ++ sections) ≡ Some (InBody v)
in_front name [] sections v is = absurd cc
in_front name (field ∷ body) sections v is =
    in_front_by (bytes_eq field.0 name) field.1 v (value_of name body)
    (first_of name (map in_body body ++ sections)) is (in_front name body sections v)

-- a field of the body that a checked command has is as its rule wants it
pub field_is_checked : (c : Command) (frame : Frame) (name : List ℕ) (v : Value)
    (rule : Rule) (u : Unit {0}) → checked c frame ≡ Ok u → value_of name frame.body ≡ Some v
    → rule_of c name ≡ Some rule → value_check rule name v ≡ Ok None
unfolding checked
field_is_checked c frame name v rule u e is of_rule =
    let inside = bind_ok (check_each (field_check c) (firsts (fields_of frame))) _ u e in
    let none : inside.0 ≡ None = first_none inside.0 _ (none_present _ u inside.2) in
    let all : check_each (field_check c) (firsts (fields_of frame)) ≡ Ok None = inside.1
    ∙ ap (λ (m : Option (List ℕ)). Ok m) none in
    let first : field_check c (name, InBody v) ≡ Ok None =
    first_checked (field_check c) name [] (fields_of frame) (InBody v) refl (in_front name
    frame.body (map in_section frame.seqs) v is) all in
    sym (body_field c name v ∙ ap (field_by name (InBody v)) of_rule) ∙ first

-- what an operation was read from was checked
pub op_is_checked : (s : Statement) (frame : Frame) (op : Op) → op_of s frame ≡ Ok op
    → (u : Unit {0}) × (checked (command.Statement s) frame ≡ Ok u)
unfolding op_of
op_is_checked s frame op e =
    let first = bind_ok (checked (command.Statement s) frame) _ op e in
    (first.0, first.1)
