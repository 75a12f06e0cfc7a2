-- Lists of fields of which the first of each name counts: what changes nothing of their checks.
use Rattle.std.proofs.Common.{◌≡◌, ◌⊎◌, inl, inr, ℕ, Bool, true, false, cond, List, [], ◌∷◌, ◌++◌}
use Rattle.std.proofs.Common.{None, Ok, Err, refl, sym, ap, subst, ◌∙◌, append_assoc}
use Rattle.std.specs.Prelude.{◌||◌}
use Rattle.std.specs.Str.{bytes_eq}
use Rattle.std.proofs.lemmas.List.{append-nil}
use Rattle.std.proofs.lemmas.Slice.Eq.{bytes_eq-Decides}
use Rattle.outcomes.specs.Bind.{◌>>=◌}
use Rattle.command_parse.specs.Checks.{Checked, behind, check_each, is_among, firsts_behind}
use Rattle.command_laws.specs.Fields.{names_of}

pub named : (a b : List ℕ) → bytes_eq a b ≡ true → a ≡ b
named a b is = (bytes_eq-Decides a b).0 is

-- Names among others.

or_assoc : (a b c : Bool) → (a || (b || c)) ≡ ((a || b) || c)
or_assoc true b c = refl
or_assoc false b c = refl

or_none : (a : Bool) → (a || false) ≡ a
or_none true = refl
or_none false = refl

-- the second and the third change places
or_swap : (a b c : Bool) → ((a || b) || c) ≡ ((a || c) || b)
or_swap true b c = refl
or_swap false true true = refl
or_swap false true false = refl
or_swap false false true = refl
or_swap false false false = refl

pub among-append : (name : List ℕ) (names more : List (List ℕ))
    → is_among name (names ++ more) ≡ (is_among name names || is_among name more)
among-append name [] more = refl
among-append name (first ∷ names) more =
    ap (λ (b : Bool). bytes_eq first name || b) (among-append name names more)
    ∙ or_assoc (bytes_eq first name) (is_among name names) (is_among name more)

-- with one more
among_last : (name last : List ℕ) (names : List (List ℕ))
    → is_among name (names ++ last ∷ []) ≡ (is_among name names || bytes_eq last name)
among_last name last names = among-append name names (last ∷ [])
    ∙ ap (λ (b : Bool). is_among name names || b) (or_none (bytes_eq last name))

one_of : (a b : Bool) → (a || b) ≡ true → (a ≡ true) ⊎ (b ≡ true)
one_of true b h = inl refl
one_of false b h = inr h

pub among_either : (name : List ℕ) (names more : List (List ℕ)) → is_among name (names ++ more)
    ≡ true → (is_among name names ≡ true) ⊎ (is_among name more ≡ true)
among_either name names more h =
    one_of (is_among name names) (is_among name more) (sym (among-append name names more) ∙ h)

pub or_left : (a b : Bool) → a ≡ true → (a || b) ≡ true
or_left true b h = refl
or_left false b h = absurd cc

pub or_right : (a b : Bool) → b ≡ true → (a || b) ≡ true
or_right true b h = refl
or_right false b h = h

-- the same names
abbrev Same : List (List ℕ) → List (List ℕ) → Type 0
Same ns ms = (name : List ℕ) → is_among name ns ≡ is_among name ms

same_more : (ns ms : List (List ℕ)) (last : List ℕ) → Same ns ms
    → Same (ns ++ last ∷ []) (ms ++ last ∷ [])
same_more ns ms last h name = among_last name last ns
    ∙ ap (λ (b : Bool). b || bytes_eq last name) (h name) ∙ sym (among_last name last ms)

same_firsts : {A : Type 0} (ns ms : List (List ℕ)) (fields : List (List ℕ × A)) → Same ns ms
    → firsts_behind ns fields ≡ firsts_behind ms fields
same_firsts ns ms [] h = refl
same_firsts {A = A} ns ms (x ∷ xs) h =
    let kept = same_firsts ns ms xs h in
    let more = same_firsts (ns ++ x.0 ∷ []) (ms ++ x.0 ∷ []) xs (same_more ns ms x.0 h) in
    λ i. cond (h x.0 i) (kept i) (x ∷ more i)

-- a name that is among them once more is none more
known_again : (name : List ℕ) (names more : List (List ℕ)) → is_among name names ≡ true
    → Same (names ++ name ∷ more) (names ++ more)
known_again name names more there other =
    among-append other names (name ∷ more) ∙ by (bytes_eq name other) refl
    ∙ sym (among-append other names more)
  where
    by : (b : Bool) → bytes_eq name other ≡ b → (is_among other names || (b || is_among other more))
        ≡ (is_among other names || is_among other more)
    by true is =
        let same : is_among other names ≡ true =
        subst (λ (n : List ℕ). is_among n names ≡ true) (named name other is) there in
        or_left (is_among other names) (true || is_among other more) same
        ∙ sym (or_left (is_among other names) (is_among other more) same)
    by false is = refl

-- A field after another of its name is none of the first ones.

first_case : {A : Type 0} (b : Bool) (x : List ℕ × A) (xs ys more others : List (List ℕ × A))
    → (b ≡ true → xs ≡ ys) → (b ≡ false → more ≡ others)
    → cond b xs (x ∷ more) ≡ cond b ys (x ∷ others)
first_case true x xs ys more others h k = h refl
first_case {A = A} false x xs ys more others h k = ap (λ (l : List (List ℕ × A)). x ∷ l) (k refl)

pub passed_over : {A : Type 0} (field : List ℕ × A) (back front : List (List ℕ × A))
    (names : List (List ℕ)) → is_among field.0 (names ++ names_of front) ≡ true
    → firsts_behind names (front ++ field ∷ back) ≡ firsts_behind names (front ++ back)
passed_over field back [] names is = let known : is_among field.0 names ≡ true =
    subst (λ (l : List (List ℕ)). is_among field.0 l ≡ true) (append-nil names) is in rw known refl
passed_over {A = A} field back (x ∷ front) names is =
    let again : is_among x.0 names ≡ true → is_among field.0 (names ++ names_of front) ≡ true =
    λ known. sym (known_again x.0 names (names_of front) known field.0) ∙ is in
    let one : is_among field.0 ((names ++ x.0 ∷ []) ++ names_of front) ≡ true =
    subst (λ (l : List (List ℕ)). is_among field.0 l
    ≡ true) (sym (append_assoc names (x.0 ∷ []) (names_of front))) is in
    first_case (is_among x.0 names) x _ _ _ _ (λ known. passed_over field back front names
    (again known)) (λ new. passed_over field back front (names ++ x.0 ∷ []) one)

-- The checks of the fields that count.

behind_none : (r : Checked) → behind None r ≡ r
behind_none (Ok missing) = refl
behind_none (Err e) = refl

passing : {A : Type 0} (check : List ℕ × A → Checked) (x : List ℕ × A) (xs : List (List ℕ × A))
    → check x ≡ Ok None → check_each check (x ∷ xs) ≡ check_each check xs
passing check x xs h = ap (λ (r : Checked). r >>= λ missing. behind missing (check_each check xs)) h
    ∙ behind_none (check_each check xs)

-- each of that name passes, and nothing is missing in it
abbrev pub Passes : {A : Type 0} → (List ℕ × A → Checked) → List ℕ → List (List ℕ × A) → Type 0
Passes check name [] = Unit {0}
Passes check name (x ∷ xs) = (bytes_eq name x.0 ≡ true → check x ≡ Ok None) × Passes check name xs

-- the others are these and that name
abbrev Adds : List ℕ → List (List ℕ) → List (List ℕ) → Type 0
Adds name ns ms = (other : List ℕ) → is_among other ms ≡ (is_among other ns || bytes_eq name other)

adds_last : (name : List ℕ) (ns : List (List ℕ)) → Adds name ns (ns ++ name ∷ [])
adds_last name ns other = among_last other name ns

adds_more : (name last : List ℕ) (ns ms : List (List ℕ)) → Adds name ns ms
    → Adds name (ns ++ last ∷ []) (ms ++ last ∷ [])
adds_more name last ns ms h other =
    among_last other last ms ∙ ap (λ (b : Bool). b || bytes_eq last other) (h other)
    ∙ or_swap (is_among other ns) (bytes_eq name other) (bytes_eq last other)
    ∙ ap (λ (b : Bool). b || bytes_eq name other) (sym (among_last other last ns))

drop_case : {A : Type 0} (check : List ℕ × A → Checked) (x : List ℕ × A) (here same : Bool)
    (xs ys more others : List (List ℕ × A))
    → (here ≡ true → check_each check xs ≡ check_each check ys)
    → (here ≡ false → same ≡ true → check_each check xs ≡ check_each check (x ∷ others))
    → (here ≡ false → same ≡ false → check_each check more ≡ check_each check others)
    → check_each check (cond (here || same) xs (x ∷ more))
    ≡ check_each check (cond here ys (x ∷ others))
drop_case check x true same xs ys more others known first other = known refl
drop_case check x false true xs ys more others known first other = first refl refl
drop_case check x false false xs ys more others known first other =
    ap (λ (r : Checked). check x >>= λ missing. behind missing r) (other refl refl)

dropped : {A : Type 0} (check : List ℕ × A → Checked) (name : List ℕ) (ns ms : List (List ℕ))
    (fields : List (List ℕ × A)) → Adds name ns ms → Passes check name fields
    → check_each check (firsts_behind ms fields) ≡ check_each check (firsts_behind ns fields)
dropped check name ns ms [] adds pass = refl
dropped {A = A} check name ns ms (x ∷ xs) adds pass =
    ap (λ (b : Bool). check_each check
    (cond b (firsts_behind ms xs) (x ∷ firsts_behind (ms ++ x.0 ∷ []) xs))) (adds x.0)
    ∙ drop_case check x (is_among x.0 ns) (bytes_eq name x.0) _ _ _ _
    (λ known. dropped check name ns ms xs adds pass.1)
    (λ new is.
    let sames : Same ms (ns ++ x.0 ∷ []) = λ other. adds other
    ∙ ap (λ (n : List ℕ). is_among other ns || bytes_eq n other) (named name x.0 is)
    ∙ sym (among_last other x.0 ns) in
    ap (check_each check) (same_firsts ms (ns ++ x.0 ∷ []) xs sames)
    ∙ sym (passing check x (firsts_behind (ns ++ x.0 ∷ []) xs) (pass.0 is)))
    (λ new differs. dropped check name (ns ++ x.0 ∷ []) (ms ++ x.0 ∷ []) xs
    (adds_more name x.0 ns ms adds) pass.1)

each_case : {A : Type 0} (check : List ℕ × A
    → Checked) (b : Bool) (x : List ℕ × A) (xs ys more others : List (List ℕ × A))
    → check_each check xs ≡ check_each check ys → check_each check more ≡ check_each check others
    → check_each check (cond b xs (x ∷ more)) ≡ check_each check (cond b ys (x ∷ others))
each_case check true x xs ys more others h k = h
each_case check false x xs ys more others h k =
    ap (λ (r : Checked). check x >>= λ missing. behind missing r) k

-- a field that passes, where those of its name after it do, changes nothing
pub ignored : {A : Type 0} (check : List ℕ × A
    → Checked) (field : List ℕ × A) (back front : List (List ℕ × A)) (names : List (List ℕ))
    → check field ≡ Ok None → Passes check field.0 back
    → check_each check (firsts_behind names (front ++ field ∷ back))
    ≡ check_each check (firsts_behind names (front ++ back))
ignored check field back [] names free pass = by (is_among field.0 names)
  where
    by : (b : Bool) → check_each check (cond b (firsts_behind names back) (field
        ∷ firsts_behind (names ++ field.0 ∷ []) back)) ≡ check_each check (firsts_behind names back)
    by true = refl
    by false = passing check field (firsts_behind (names ++ field.0 ∷ []) back) free
        ∙ dropped check field.0 names (names ++ field.0 ∷ []) back (adds_last field.0 names) pass
ignored check field back (x ∷ front) names free pass =
    each_case check (is_among x.0 names) x _ _ _ _ (ignored check field back front names free pass)
    (ignored check field back front (names ++ x.0 ∷ []) free pass)

-- two fields of one name that are checked alike
pub exchanged : {A : Type 0} (check : List ℕ × A → Checked) (name : List ℕ) (x y : A)
    (back front : List (List ℕ × A)) (names : List (List ℕ)) → check (name, x) ≡ check (name, y)
    → check_each check (firsts_behind names (front ++ (name, x) ∷ back))
    ≡ check_each check (firsts_behind names (front ++ (name, y) ∷ back))
exchanged check name x y back [] names same = by (is_among name names)
  where
    by : (b : Bool) → check_each check (cond b (firsts_behind names back)
        ((name, x) ∷ firsts_behind (names ++ name ∷ []) back)) ≡ check_each check (cond b
        (firsts_behind names back) ((name, y) ∷ firsts_behind (names ++ name ∷ []) back))
    by true = refl
    by false = ap (λ (r : Checked). r >>= λ missing.
        behind missing (check_each check (firsts_behind (names ++ name ∷ []) back))) same
exchanged check name x y back (z ∷ front) names same =
    each_case check (is_among z.0 names) z _ _ _ _ (exchanged check name x y back front names same)
    (exchanged check name x y back front (names ++ z.0 ∷ []) same)
