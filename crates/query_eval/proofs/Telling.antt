-- Rows and marks, from the front as far as they fit.
use Rattle.std.proofs.Common.{◌≡◌, ℕ, ◌-◌, ◌+◌, suc, zero, ◌<◌, ◌≤◌, Bool, true, false, List, []}
use Rattle.std.proofs.Common.{◌∷◌, ◌++◌, Option, Some, None, length, map, take, drop, reverse}
use Rattle.std.proofs.Common.{get_or, refl, ap, ap₂, sym, ◌∙◌, arith, nat_le, nat_eq, append_assoc}
use Rattle.std.proofs.Common.{if◌then◌else◌}
use Rattle.std.proofs.lemmas.List.{map-append}
use Rattle.std.proofs.Math.Seq.{drop-cons}
use Rattle.std.proofs.lemmas.Bool.{le-leb, lt-leb}
use Rattle.std.proofs.lemmas.Grind.{reverse_onto}
use Rattle.bson_core.specs.Fields.{Document}
use Rattle.bson_core.specs.Spelling.{spelling}
use Rattle.txn_types.specs.declared.filter.Filter.{Filter}
use Rattle.txn_types.specs.declared.id.Id.{Id}
use Rattle.txn_semantics.specs.Effect.{matching}
use Rattle.txn_semantics.specs.Found.{Found, Mark, with_doc, cut_rows, cut_marks, first_of, ordered}
use Rattle.txn_semantics.specs.Meaning.{document_rules}
use Rattle.txn_semantics.specs.Rows.{Row}
use Rattle.query_eval.specs.Acts.{wanted_in}
use Rattle.query_eval.specs.Held.{doc_in, fitting_in, mark_of, some_of, rows_in}
use Rattle.query_eval.specs.declared.held.Held.{Held}
use Rattle.query_eval.proofs.Acting.{found}

-- documents that were told, and what is told after them
abbrev pub behind : List Document → Found → Found
behind docs told = (docs ++ told.0, told.1)

abbrev cut_by : ℕ → Id → List Mark → Option Document → Found
cut_by room id rest o = elim o [
  | None ↦ ([], Some id)
  | Some doc ↦ if nat_le (length (spelling doc)) room then with_doc doc (cut_marks document_rules
      (room - length (spelling doc)) rest) else ([], Some id)
]

abbrev fits_by : ℕ → Option Document → Option Document
fits_by room o = elim o
    [ None ↦ None | Some doc ↦ if nat_le (length (spelling doc)) room then Some doc else None ]

stop_case : (room : ℕ) (id : Id) (doc : Document) (rest : Found) (b : Bool) → (if b then Some doc
    else None) ≡ None → (if b then with_doc doc rest else ([], Some id)) ≡ ([], Some id)
stop_case room id doc rest true h = cc
stop_case room id doc rest false h = refl

stop_by : (room : ℕ) (id : Id) (rest : List Mark) (o : Option Document) → fits_by room o ≡ None
    → cut_by room id rest o ≡ ([], Some id)
stop_by room id rest None h = refl
stop_by room id rest (Some doc) h = stop_case room id doc (cut_marks document_rules
    (room - length (spelling doc)) rest) (nat_le (length (spelling doc)) room) h

-- one that doesn't fit is the cut
pub cut_stops : (room : ℕ) (one : Id × Held) (rest : List (Id × Held)) → fitting_in room one.1
    ≡ None → cut_marks document_rules room (map mark_of (one ∷ rest)) ≡ ([], Some one.0)
cut_stops room one rest h = stop_by room one.0 (map mark_of rest) (doc_in one.1) h

go_case : (id : Id) (d doc : Document) (rest : Document → Found) (b : Bool)
    → (if b then Some d else None) ≡ Some doc
    → (if b then with_doc d (rest d) else ([], Some id)) ≡ with_doc doc (rest doc)
go_case id d doc rest true h = let same : d ≡ doc = cc in
    ap (λ (x : Document). with_doc x (rest x)) same
go_case id d doc rest false h = cc

go_by : (room : ℕ) (id : Id) (rest : List Mark) (doc : Document) (o : Option Document)
    → fits_by room o ≡ Some doc → cut_by room id rest o
    ≡ with_doc doc (cut_marks document_rules (room - length (spelling doc)) rest)
go_by room id rest doc None h = cc
go_by room id rest doc (Some d) h = go_case id d doc (λ x. cut_marks document_rules
    (room - length (spelling x)) rest) (nat_le (length (spelling d)) room) h

-- one that fits is told
pub cut_goes_on : (room : ℕ) (one : Id × Held) (rest : List (Id × Held)) (doc : Document)
    → fitting_in room one.1 ≡ Some doc → cut_marks document_rules room (map mark_of (one ∷ rest))
    ≡ with_doc doc (cut_marks document_rules (room - length (spelling doc)) (map mark_of rest))
cut_goes_on room one rest doc h = go_by room one.0 (map mark_of rest) doc (doc_in one.1) h

pub behind_more : (docs : List Document) (doc : Document) (told : Found)
    → behind docs (with_doc doc told) ≡ behind (docs ++ doc ∷ []) told
behind_more docs doc told =
    ap (λ (xs : List Document). (xs, told.1)) (sym (append_assoc docs (doc ∷ []) told.0))

-- rows as marks
pub cut_some : (room : ℕ) (rows : List Row)
    → cut_marks document_rules room (map some_of rows) ≡ cut_rows document_rules room rows
cut_some room [] = refl
cut_some room (row ∷ rows) = ap (λ (rest : Found). if nat_le (length (spelling row.1)) room
    then with_doc row.1 rest else ([], Some row.0)) (cut_some (room - length (spelling row.1)) rows)

-- orders and limits, with each element seen in another way
map-reverse : {A B : Type 0} (f : A → B) (xs : List A) → map f (reverse xs) ≡ reverse (map f xs)
map-reverse f [] = refl
map-reverse f (x ∷ xs) = ap (map f) (reverse_onto xs x []) ∙ map-append f (reverse xs) (x ∷ [])
    ∙ ap (λ ys. ys ++ f x ∷ []) (map-reverse f xs) ∙ sym (reverse_onto (map f xs) (f x) [])

pub map-ordered : {A B : Type 0} (f : A → B) (down : Bool) (xs : List A)
    → map f (ordered down xs) ≡ ordered down (map f xs)
map-ordered f true xs = map-reverse f xs
map-ordered f false xs = refl

map-take : {A B : Type 0} (f : A → B) (n : ℕ) (xs : List A) → map f (take n xs) ≡ take n (map f xs)
map-take f zero [] = refl
map-take f (suc n) [] = refl
map-take f zero (x ∷ xs) = refl
map-take f (suc n) (x ∷ xs) = ap (λ ys. f x ∷ ys) (map-take f n xs)

first_case : {A B : Type 0} (f : A → B) (limit : ℕ) (xs : List A) (b : Bool)
    → map f (if b then xs else take limit xs) ≡ (if b then map f xs else take limit (map f xs))
first_case f limit xs true = refl
first_case f limit xs false = map-take f limit xs

pub map-first_of : {A B : Type 0} (f : A → B) (limit : ℕ) (xs : List A)
    → map f (first_of limit xs) ≡ first_of limit (map f xs)
map-first_of f limit xs = first_case f limit xs (nat_eq limit 0)

-- a row that matches, and one that doesn't
pub matching_more : (f : Filter) (marks after : List (Id × Held)) (one : Id
    × Held) (rest : List (Id × Held)) (doc : Document) (new : Id × Held)
    → wanted_in f one.1 ≡ Some doc → after ≡ marks ++ new ∷ [] → mark_of new ≡ (one.0, Some doc)
    → map mark_of after ++ map some_of (matching document_rules f (rows_in rest))
    ≡ map mark_of marks ++ map some_of (matching document_rules f (rows_in (one ∷ rest)))
matching_more f marks after one rest doc new h is mark =
    ap (λ xs. xs ++ map some_of (matching document_rules f (rows_in rest))) (ap (map mark_of) is
    ∙ map-append mark_of marks (new ∷ []) ∙ ap (λ (m : Mark). map mark_of marks ++ m ∷ []) mark)
    ∙ append_assoc (map mark_of marks) ((one.0, Some doc) ∷ [])
    (map some_of (matching document_rules f (rows_in rest)))
    ∙ ap (λ xs. map mark_of marks ++ map some_of xs) (sym (found f one rest doc h))

-- a document that fits, and one that doesn't
pub fitting_is : (room : ℕ) (held : Held) (doc : Document) → doc_in held ≡ Some doc
    → length (spelling doc) ≤ room → fitting_in room held ≡ Some doc
fitting_is room held doc is h = ap (fits_by room) is
    ∙ ap (λ b. if b then Some doc else None) (le-leb (length (spelling doc)) room h)

pub fitting_not : (room : ℕ) (held : Held) (doc : Document) → doc_in held ≡ Some doc
    → room < length (spelling doc) → fitting_in room held ≡ None
fitting_not room held doc is h = ap (fits_by room) is
    ∙ ap (λ b. if b then Some doc else None) (lt-leb (length (spelling doc)) room h)

-- the element at a place, in front of those after it
pub place_is : {A : Type 0} (xs : List A) (i : ℕ) (x : A) → x ≡ get_or xs i x → i < length xs
    → drop i xs ≡ x ∷ drop (i + 1) xs
place_is {A} xs i x is h = let next : suc i ≡ i + 1 = omega arith in
    drop-cons xs i x h ∙ ap (λ (y : A). y ∷ drop (suc i) xs) (sym is) ∙ ap (λ k. x ∷ drop k xs) next

pub cut_turn : (docs after : List Document) (room used : ℕ) (one : Id × Held) (xs rest : List (Id
    × Held)) (doc copy : Document) → xs ≡ one ∷ rest → fitting_in room one.1 ≡ Some doc
    → after ≡ docs ++ copy ∷ [] → copy ≡ doc → used ≡ length (spelling doc)
    → behind after (cut_marks document_rules (room - used) (map mark_of rest))
    ≡ behind docs (cut_marks document_rules room (map mark_of xs))
cut_turn docs after room used one xs rest doc copy place fits is same size =
    ap₂ (λ (ds : List Document) n. behind ds (cut_marks document_rules (room - n)
    (map mark_of rest))) (is ∙ ap (λ (d : Document). docs ++ d ∷ []) same) size
    ∙ sym (behind_more docs doc
    (cut_marks document_rules (room - length (spelling doc)) (map mark_of rest)))
    ∙ ap (behind docs) (sym (cut_goes_on room one rest doc fits))
    ∙ ap (λ ys. behind docs (cut_marks document_rules room (map mark_of ys))) (sym place)

pub found_some : (room : ℕ) (down : Bool) (limit : ℕ) (rows : List Row)
    → cut_marks document_rules room (first_of limit (ordered down (map some_of rows)))
    ≡ cut_rows document_rules room (first_of limit (ordered down rows))
found_some room down limit rows =
    ap (cut_marks document_rules room) (ap (first_of limit) (sym (map-ordered some_of down rows))
    ∙ sym (map-first_of some_of limit (ordered down rows)))
    ∙ cut_some room (first_of limit (ordered down rows))
