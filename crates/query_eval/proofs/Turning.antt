-- One turn of an item: a row that it comes to.
use Rattle.std.proofs.Common.{◌≡◌, ℕ, suc, zero, ◌+◌, ◌<◌, ◌≤◌, Bool, true, false, List, [], ◌∷◌}
use Rattle.std.proofs.Common.{Option, Some, None, Result, Ok, Err, length, get_or, set, refl, ap}
use Rattle.std.proofs.Common.{subst, sym, ◌∙◌, arith, if◌then◌else◌}
use Rattle.std.proofs.lemmas.List.{drop-set-lt}
use Rattle.bson_core.specs.Fields.{Document}
use Rattle.txn_types.specs.Ids.{id_in}
use Rattle.txn_types.specs.declared.filter.Filter.{Filter}
use Rattle.txn_types.specs.declared.id.Id.{Id}
use Rattle.txn_types.specs.declared.operation.UpdateItem.{UpdateItem}
use Rattle.txn_types.specs.declared.operation.DeleteItem.{DeleteItem}
use Rattle.txn_types.specs.declared.operation.What.{What}
use Rattle.txn_semantics.specs.Effect.{AreKnown, Done, Doing, with_done, each, met_by, updated}
use Rattle.txn_semantics.specs.Effect.{update_step, delete_step, without}
use Rattle.txn_semantics.specs.Meaning.{document_rules}
use Rattle.txn_semantics.specs.Rows.{Row, IsRising, put_row, laid_over}
use Rattle.txn_semantics.specs.Updates.{apply}
use Rattle.query_eval.specs.Acts.{change_of, wanted_in, with_change, count_of, Changed, Refused}
use Rattle.query_eval.specs.Acts.{Refuses, Follows, Acted, put_content, no_content}
use Rattle.query_eval.specs.Held.{doc_in, rows_in}
use Rattle.query_eval.specs.declared.error.EvalErr.{EvalErr}
use Rattle.query_eval.specs.declared.error.EvalErr.TheVariants.{Op, Memory}
use Rattle.query_eval.specs.declared.evaluating.Met.{Met}
use Rattle.query_eval.specs.declared.held.Held.{Held}
use Rattle.query_eval.specs.declared.held.Held.TheVariants.{Own, Nothing}
use Rattle.query_eval.proofs.Acting.{Walk, Ended, walk_start, without_none, walk_missed, walk_met}
use Rattle.query_eval.proofs.Acting.{walk_one, walk_err, walk_end, follows_put, follows_drop}
use Rattle.query_eval.proofs.Acting.{set_is_put, has_doc, laid_append, without_append}
use Rattle.query_eval.proofs.Keeping.{kept_some, kept_none}
use Rattle.query_eval.proofs.SameIds.{keeps_id}

-- an element set as it is
set_own : {A : Type 0} (xs : List A) (i : ℕ) (x : A) → x ≡ get_or xs i x → set xs i x ≡ xs
set_own [] i x h = refl
set_own (y ∷ ys) zero x h = ap (λ z. z ∷ ys) h
set_own (y ∷ ys) (suc i) x h = ap (λ zs. y ∷ zs) (set_own ys i x h)

-- the document of a row among those that are known has the row's id
known_case : (one : Id × Held) (rows : List (Id × Held)) (o : Option Document) → doc_in one.1 ≡ o
    → AreKnown document_rules (rows_in (one ∷ rows)) → AreKnown document_rules (rows_in rows)
known_case one rows None is known =
    subst (AreKnown document_rules) (kept_none doc_in one.0 one.1 rows is) known
known_case one rows (Some doc) is known =
    let all : AreKnown document_rules ((one.0, doc) ∷ rows_in rows) =
    subst (AreKnown document_rules) (kept_some doc_in one.0 one.1 doc rows is) known in all.1

pub known_at : (rows : List (Id × Held)) (i : ℕ) (d : Id × Held) (doc : Document) → i < length rows
    → AreKnown document_rules (rows_in rows) → doc_in (get_or rows i d).1 ≡ Some doc
    → id_in doc ≡ Some (get_or rows i d).0
known_at [] i d doc h known is = absurd (omega (arith, h))
known_at (one ∷ rows) zero d doc h known is =
    let all : AreKnown document_rules ((one.0, doc) ∷ rows_in rows) =
    subst (AreKnown document_rules) (kept_some doc_in one.0 one.1 doc rows is) known in all.0
known_at (one ∷ rows) (suc i) d doc h known is =
    known_at rows i d doc (omega (arith, h)) (known_case one rows (doc_in one.1) refl known) is

-- the document that an update made
abbrev changed_in : Doing → List Row
changed_in (Ok done) = done.changed
changed_in (Err e) = []

abbrev one_if : Row → Document → Bool → List Row
one_if row doc b = if b then [] else ((row.0, doc) ∷ [])

made_same : (row : Row) (doc d : Document) (b : Bool)
    → ◌≡◌ {A = List Row} (one_if row doc b) ((row.0, d) ∷ []) → doc ≡ d
made_same row doc d true h = cc
made_same row doc d false h = let first : ◌≡◌ {A = Row} (row.0, doc) (row.0, d) = cc in
    ap (λ (r : Row). r.1) first

made_case : (item : UpdateItem) (row : Row) (d : Document) (r : Result Document What)
    → ◌≡◌ {A = Doing} (elim r [
      | Err what ↦ Err (record { index = item.index; id = row.0; what = what })
      | Ok doc ↦ Ok (record {
        met = row ∷ [];
        changed = if document_rules.same row.1 doc then [] else ((row.0, doc) ∷ []);
      })
    ]) (Ok (change_of row (Some d))) → r ≡ Ok d
made_case item row d (Ok doc) h =
    ap Ok (made_same row doc d (document_rules.same row.1 doc) (ap changed_in h))
made_case item row d (Err what) h = cc

made : (item : UpdateItem) (row : Row) (d : Document)
    → updated document_rules item row ≡ Ok (change_of row (Some d)) → apply item.update row.1 ≡ Ok d
made item row d h = made_case item row d (apply item.update row.1) h

-- what a changed row leaves
follows_case : (item : UpdateItem) (now : List (Id × Held)) (i : ℕ) (old new : Id
    × Held) (doc : Document) (change : Option Document) → wanted_in item.filter old.1 ≡ Some doc
    → updated document_rules item (old.0, doc) ≡ Ok (change_of (old.0, doc) change)
    → new ≡ with_change old change
    → old ≡ get_or now i old → i < length now → IsRising now → AreKnown document_rules (rows_in now)
    → Follows put_content laid_over now (change_of (old.0, doc) change) (set now i new)
follows_case item now i old new doc None is_wanted does is at h rising known =
    let same : set now i new ≡ now = ap (set now i) is ∙ set_own now i old at in
    subst (Follows put_content laid_over now (change_of (old.0, doc) None)) (sym same)
    (record { rows = refl; written = refl; rising = rising; known = known })
follows_case item now i old new doc (Some d) is_wanted does is at h rising known =
    let has : id_in doc ≡ Some old.0 =
    subst (λ (r : Id × Held). doc_in r.1 ≡ Some doc → id_in doc ≡ Some r.0) (sym at)
    (known_at now i old doc h known) (has_doc item.filter old.1 doc is_wanted) in
    let keeps : id_in d ≡ Some old.0 =
    keeps_id item.update doc old.0 d has (made item (old.0, doc) d does) in
    let put : set now i new ≡ put_row old.0 (Own d) now = ap (set now i) is
    ∙ subst (λ (r : Id × Held). set now i (r.0, Own d)
    ≡ put_row r.0 (Own d) now) (sym at) (set_is_put now i old (Own d) rising h) in
    subst (Follows put_content laid_over now (change_of (old.0, doc) (Some d))) (sym put)
    (follows_put now ((old.0, doc) ∷ []) old.0 d rising known keeps)

one_met : (row : Row) (change : Option Document) → length (change_of row change).met ≡ 1
one_met row None = omega arith
one_met row (Some d) = omega arith

count_is : (row : Row) (change : Option Document)
    → length (change_of row change).changed ≡ count_of change
count_is row None = refl
count_is row (Some d) = omega arith

few : (change : Option Document) → count_of change ≤ 1
few None = omega arith
few (Some d) = omega arith

-- the turns of an update
abbrev Updating : UpdateItem → List (Id × Held) → List (Id × Held) → ℕ → ℕ → ℕ → Type 0
Updating item before now i n changed = Walk (updated document_rules item) item.filter item.many
    put_content laid_over before now i n changed

pub update_missed : (item : UpdateItem) (before now : List (Id × Held)) (i n changed : ℕ)
    (old new : Id × Held) → Updating item before now i n changed → old ≡ get_or now i old
    → i < length now → (wanted_in item.filter old.1 ≡ None) × (new ≡ old)
    → Updating item before (set now i new) (i + 1) n changed
update_missed item before now i n changed old new walk at h miss =
    let same : set now i new ≡ now = ap (set now i) miss.1 ∙ set_own now i old at in
    let none : wanted_in item.filter (get_or now i old).1 ≡ None =
    ap (λ (r : Id × Held). wanted_in item.filter r.1) (sym at) ∙ miss.0 in
    subst (λ xs. Updating item before xs (i + 1) n changed) (sym same)
    (walk_missed (updated document_rules item) item.filter item.many put_content laid_over
    before now i n changed old walk h none)

pub update_met : (item : UpdateItem) (before now : List (Id × Held)) (i n changed count : ℕ)
    (old new : Id × Held) → item.many ≡ true → Updating item before now i n changed
    → old ≡ get_or now i old → i < length now → Changed item old new count
    → Updating item before (set now i new) (i + 1) (n + 1) (changed + count)
update_met item before now i n changed count old new many walk at h c =
    let act = updated document_rules item in
    let follows : Follows put_content laid_over now (change_of (old.0, c.doc) c.change) (set now
    i new) = follows_case item now i old new c.doc c.change c.is_wanted c.does c.now at h
    walk.follows.rising walk.follows.known in
    let is_wanted : wanted_in item.filter (get_or now i old).1 ≡ Some c.doc =
    ap (λ (r : Id × Held). wanted_in item.filter r.1) (sym at) ∙ c.is_wanted in
    let does : updated document_rules item ((get_or now i old).0, c.doc)
    ≡ Ok (change_of (old.0, c.doc) c.change) =
    ap (λ (r : Id × Held). updated document_rules item (r.0, c.doc)) (sym at) ∙ c.does in
    let counts : length (change_of (old.0, c.doc) c.change).changed ≡ count =
    count_is (old.0, c.doc) c.change ∙ sym c.counted in
    let less : count ≤ 1 = omega (arith, few c.change, c.counted) in
    let first : Walk (updated document_rules item) item.filter true put_content laid_over before
    now i n changed = subst (λ m. Walk (updated document_rules item) item.filter m put_content
    laid_over before now i n changed) many walk in
    subst (λ m. Walk (updated document_rules item) item.filter m put_content laid_over before
    (set now i new) (i + 1) (n + 1) (changed + count)) (sym many)
    (walk_met (updated document_rules item) item.filter put_content laid_over before now
    (set now i new) i n changed count old c.doc (change_of (old.0, c.doc) c.change)
    laid_append first h is_wanted does follows (drop-set-lt (i + 1) now i new (omega arith))
    (one_met (old.0, c.doc) c.change) counts less)

pub acted : (content : Document → Option Document) (left : List Row → List Row → List Row)
    (act : Row → Doing) (f : Filter) (many : Bool) (before after : List (Id × Held)) (met : Met)
    → Ended act f many content left before after met.n met.changed
    → Acted content left (each act (met_by document_rules f many (rows_in before))) before after met
acted content left act f many before after met e = record {
  done = e.done;
  does = e.does;
  follows = e.follows;
  n = e.met_is;
  changed = e.changed_is;
}

pub update_one : (item : UpdateItem) (before now : List (Id × Held)) (i n changed count : ℕ)
    (old new : Id × Held) → item.many ≡ false → Updating item before now i n changed
    → old ≡ get_or now i old → i < length now → Changed item old new count
    → Acted put_content laid_over (update_step document_rules item (rows_in before)) before
    (set now i new) (record { n = n + 1; changed = changed + count })
update_one item before now i n changed count old new many walk at h c =
    let follows : Follows put_content laid_over now (change_of (old.0, c.doc) c.change) (set now
    i new) = follows_case item now i old new c.doc c.change c.is_wanted c.does c.now at h
    walk.follows.rising walk.follows.known in
    let is_wanted : wanted_in item.filter (get_or now i old).1 ≡ Some c.doc =
    ap (λ (r : Id × Held). wanted_in item.filter r.1) (sym at) ∙ c.is_wanted in
    let does : updated document_rules item ((get_or now i old).0, c.doc)
    ≡ Ok (change_of (old.0, c.doc) c.change) =
    ap (λ (r : Id × Held). updated document_rules item (r.0, c.doc)) (sym at) ∙ c.does in
    let counts : length (change_of (old.0, c.doc) c.change).changed ≡ count =
    count_is (old.0, c.doc) c.change ∙ sym c.counted in
    let first : Walk (updated document_rules item) item.filter false put_content laid_over before
    now i n changed = subst (λ m. Walk (updated document_rules item) item.filter m put_content
    laid_over before now i n changed) many walk in
    acted put_content laid_over (updated document_rules item) item.filter item.many before
    (set now i new) (record { n = n + 1; changed = changed + count })
    (subst (λ m. Ended (updated document_rules item) item.filter m put_content laid_over before
    (set now i new) (n + 1) (changed + count)) (sym many)
    (walk_one (updated document_rules item) item.filter put_content laid_over before now
    (set now i new) i n changed count old c.doc (change_of (old.0, c.doc) c.change) laid_append
    first h is_wanted does follows (one_met (old.0, c.doc) c.change) counts))

pub update_refused : (item : UpdateItem) (before now : List (Id × Held)) (i n changed : ℕ) (old : Id
    × Held) (e : EvalErr) → Updating item before now i n changed → old ≡ get_or now i old
    → i < length now → Refused item old e
    → Refuses e (update_step document_rules item (rows_in before))
update_refused item before now i n changed old (Op e) walk at h r =
    let is_wanted : wanted_in item.filter (get_or now i old).1 ≡ Some r.doc =
    ap (λ (x : Id × Held). wanted_in item.filter x.1) (sym at) ∙ r.is_wanted in
    let does : updated document_rules item ((get_or now i old).0, r.doc) ≡ Err e =
    ap (λ (x : Id × Held). updated document_rules item (x.0, r.doc)) (sym at) ∙ r.refuses in
    walk_err (updated document_rules item) item.filter item.many put_content laid_over before now i
    n changed old r.doc e walk h is_wanted does
update_refused item before now i n changed old Memory walk at h r = tt

pub update_ended : (item : UpdateItem) (before now : List (Id × Held)) (i : ℕ) (met : Met)
    → Updating item before now i met.n met.changed → length now ≤ i
    → Acted put_content laid_over (update_step document_rules item (rows_in before)) before now met
update_ended item before now i met walk h =
    acted put_content laid_over (updated document_rules item) item.filter item.many before now met
    (walk_end (updated document_rules item) item.filter item.many put_content laid_over before
    now i met.n met.changed walk h)

-- the turns of a delete
abbrev pub gone : Row → Doing
gone row = Ok (record { met = row ∷ []; changed = row ∷ [] })

each_gone : (rows : List Row) → each gone rows ≡ Ok (record { met = rows; changed = rows })
each_gone [] = refl
each_gone (row ∷ rows) =
    ap (with_done (record { met = row ∷ []; changed = row ∷ [] })) (each_gone rows)

abbrev Deleting : DeleteItem → List (Id × Held) → List (Id × Held) → ℕ → ℕ → ℕ → Type 0
Deleting item before now i n changed =
    Walk gone item.filter item.many no_content without before now i n changed

pub delete_start : (item : DeleteItem) (before : List (Id × Held)) → IsRising before
    → AreKnown document_rules (rows_in before) → Deleting item before before 0 0 0
delete_start item before rising known =
    walk_start gone item.filter item.many no_content without before without_none rising known

pub delete_missed : (item : DeleteItem) (before now : List (Id × Held)) (i n changed : ℕ)
    (old new : Id × Held) → Deleting item before now i n changed → old ≡ get_or now i old
    → i < length now → (wanted_in item.filter old.1 ≡ None) × (new ≡ old)
    → Deleting item before (set now i new) (i + 1) n changed
delete_missed item before now i n changed old new walk at h miss =
    let same : set now i new ≡ now = ap (set now i) miss.1 ∙ set_own now i old at in
    let none : wanted_in item.filter (get_or now i old).1 ≡ None =
    ap (λ (r : Id × Held). wanted_in item.filter r.1) (sym at) ∙ miss.0 in
    subst (λ xs. Deleting item before xs (i + 1) n changed) (sym same) (walk_missed gone item.filter
    item.many no_content without before now i n changed old walk h none)

dropped : (now : List (Id × Held)) (i : ℕ) (old new : Id × Held) (doc : Document)
    → new ≡ (old.0, Nothing) → old ≡ get_or now i old → i < length now → IsRising now
    → AreKnown document_rules (rows_in now)
    → Follows no_content without now
    (record { met = (old.0, doc) ∷ []; changed = (old.0, doc) ∷ [] }) (set now i new)
dropped now i old new doc is at h rising known =
    let put : set now i new ≡ put_row old.0 Nothing now = ap (set now i) is
    ∙ subst (λ (r : Id × Held). set now i (r.0, Nothing)
    ≡ put_row r.0 Nothing now) (sym at) (set_is_put now i old Nothing rising h) in
    subst (Follows no_content without now
    (record { met = (old.0, doc) ∷ []; changed = (old.0, doc) ∷ [] })) (sym put)
    (follows_drop now ((old.0, doc) ∷ []) old.0 doc rising known)

pub delete_met : (item : DeleteItem) (before now : List (Id × Held)) (i n changed : ℕ) (old new : Id
    × Held) → item.many ≡ true → Deleting item before now i n changed → old ≡ get_or now i old
    → i < length now → (doc : Document) × (wanted_in item.filter old.1 ≡ Some doc)
    × (new ≡ (old.0, Nothing))
    → Deleting item before (set now i new) (i + 1) (n + 1) (changed + 1)
delete_met item before now i n changed old new many walk at h d =
    let done : Done = record { met = (old.0, d.0) ∷ []; changed = (old.0, d.0) ∷ [] } in
    let is_wanted : wanted_in item.filter (get_or now i old).1 ≡ Some d.0 =
    ap (λ (r : Id × Held). wanted_in item.filter r.1) (sym at) ∙ d.1 in
    let does : gone ((get_or now i old).0, d.0) ≡ Ok done =
    ap (λ (r : Id × Held). gone (r.0, d.0)) (sym at) in
    let first : Walk gone item.filter true no_content without before now i n changed =
    subst (λ m. Walk gone item.filter m no_content without before now i n changed) many walk in
    subst (λ m. Walk gone item.filter m no_content without before (set now i new) (i + 1) (n + 1)
    (changed + 1)) (sym many)
    (walk_met gone item.filter no_content without before now (set now i new)
    i n changed 1 old d.0 done without_append first h is_wanted does
    (dropped now i old new d.0 d.2 at h walk.follows.rising walk.follows.known)
    (drop-set-lt (i + 1) now i new (omega arith)) (omega arith) (omega arith) (omega arith))

deleted : (item : DeleteItem) (before after : List (Id × Held)) (met : Met)
    → Acted no_content without (each gone
    (met_by document_rules item.filter item.many (rows_in before))) before after met
    → Acted no_content without (delete_step document_rules item (rows_in before)) before after met
deleted item before after met a = subst (λ doing. Acted no_content without doing before after met)
    (each_gone (met_by document_rules item.filter item.many (rows_in before))) a

pub delete_one : (item : DeleteItem) (before now : List (Id × Held)) (i n changed : ℕ) (old new : Id
    × Held) → item.many ≡ false → Deleting item before now i n changed → old ≡ get_or now i old
    → i < length now → (doc : Document) × (wanted_in item.filter old.1 ≡ Some doc)
    × (new ≡ (old.0, Nothing))
    → Acted no_content without (delete_step document_rules item (rows_in before)) before
    (set now i new) (record { n = n + 1; changed = changed + 1 })
delete_one item before now i n changed old new many walk at h d =
    let done : Done = record { met = (old.0, d.0) ∷ []; changed = (old.0, d.0) ∷ [] } in
    let is_wanted : wanted_in item.filter (get_or now i old).1 ≡ Some d.0 =
    ap (λ (r : Id × Held). wanted_in item.filter r.1) (sym at) ∙ d.1 in
    let does : gone ((get_or now i old).0, d.0) ≡ Ok done =
    ap (λ (r : Id × Held). gone (r.0, d.0)) (sym at) in
    let first : Walk gone item.filter false no_content without before now i n changed =
    subst (λ m. Walk gone item.filter m no_content without before now i n changed) many walk in
    deleted item before (set now i new) (record { n = n + 1; changed = changed + 1 })
    (acted no_content without gone item.filter item.many before (set now i new)
    (record { n = n + 1; changed = changed + 1 })
    (subst (λ m. Ended gone item.filter m no_content without before (set now i new) (n + 1)
    (changed + 1)) (sym many)
    (walk_one gone item.filter no_content without before now (set now i new) i n changed 1
    old d.0 done without_append first h is_wanted does (dropped now i old new d.0 d.2 at h
    walk.follows.rising walk.follows.known) (omega arith) (omega arith))))

pub delete_ended : (item : DeleteItem) (before now : List (Id × Held)) (i : ℕ) (met : Met)
    → Deleting item before now i met.n met.changed → length now ≤ i
    → Acted no_content without (delete_step document_rules item (rows_in before)) before now met
delete_ended item before now i met walk h =
    deleted item before now met
    (acted no_content without gone item.filter item.many before now met (walk_end gone
    item.filter item.many no_content without before now i met.n met.changed walk h))
