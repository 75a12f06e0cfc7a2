-- What is found under ids, where something is put or taken out.
use Rattle.std.proofs.Common.{◌≡◌, ℕ, ◌+◌, ◌<◌, length, take, get_or, ap₂, true, if◌then◌else◌}
use Rattle.std.proofs.Common.{List, [], ◌∷◌, ◌++◌, Option, Some, None, refl, ap, subst, sym, ◌∙◌}
use Rattle.std.proofs.Common.{map}
use Rattle.std.specs.declared.cmp.Ordering.{Ordering}
use Rattle.std.specs.declared.cmp.Ordering.TheVariants.{Less, Equal, Greater}
use Rattle.bson_core.specs.Fields.{Document}
use Rattle.txn_types.specs.Order.{id_cmp}
use Rattle.txn_types.specs.declared.id.Id.{Id}
use Rattle.txn_types.proofs.Orders.{id_total, id_exact}
use Rattle.txn_semantics.specs.Found.{Mark}
use Rattle.std.specs.Str.{bytes_eq}
use Rattle.txn_types.specs.declared.write.Write.{Write}
use Rattle.txn_types.specs.declared.write.Write.TheVariants.{Put}
use Rattle.txn_semantics.specs.Rows.{Row, IsRising, put_row, delete_row, written}
use Rattle.txn_semantics.proofs.Laying.{taken_first}
use Rattle.txn_semantics.proofs.Parts.{AllAbove, above_trans, put_first}
use Rattle.std.proofs.lemmas.List.{map-append, take_more}
use Rattle.txn_semantics.proofs.Laying.{rises_taken_out}
use Rattle.query_eval.specs.Held.{kept, doc_in, written_in, rows_in, all_written, mark_of, some_of}
use Rattle.query_eval.specs.declared.held.Held.{Held}
use Rattle.query_eval.specs.declared.held.Held.TheVariants.{Lent}
use Rattle.std.proofs.Common.{Bor}

-- one step of each
pub kept_some : {A B : Type 0} (f : A → Option B) (id : Id) (s : A) (b : B) (rows : List (Id × A))
    → f s ≡ Some b → kept f ((id, s) ∷ rows) ≡ (id, b) ∷ kept f rows
kept_some f id s b rows h =
    ap (λ o. elim o [ Some x ↦ (id, x) ∷ kept f rows | None ↦ kept f rows ]) h

pub kept_none : {A B : Type 0} (f : A → Option B) (id : Id) (s : A) (rows : List (Id × A))
    → f s ≡ None → kept f ((id, s) ∷ rows) ≡ kept f rows
kept_none f id s rows h = ap (λ o. elim o [ Some x ↦ (id, x) ∷ kept f rows | None ↦ kept f rows ]) h

put_by : {A : Type 0} (id : Id) (a : A) (row : Id × A) (rows : List (Id × A)) (o : Ordering)
    → id_cmp id row.0 ≡ o → put_row id a (row ∷ rows) ≡ (elim o
    [ Less ↦ (id, a) ∷ row ∷ rows | Equal ↦ (id, a) ∷ rows | Greater ↦ row ∷ put_row id a rows ])
put_by id a row rows o h = ap (λ q. elim q
    [ Less ↦ (id, a) ∷ row ∷ rows | Equal ↦ (id, a) ∷ rows | Greater ↦ row ∷ put_row id a rows ]) h

out_by : {A : Type 0} (id : Id) (row : Id × A) (rows : List (Id × A)) (o : Ordering)
    → id_cmp id row.0 ≡ o → delete_row id (row ∷ rows)
    ≡ (elim o [ Less ↦ row ∷ rows | Equal ↦ rows | Greater ↦ row ∷ delete_row id rows ])
out_by id row rows o h =
    ap (λ q. elim q [ Less ↦ row ∷ rows | Equal ↦ rows | Greater ↦ row ∷ delete_row id rows ]) h

out_first : {A : Type 0} (id : Id) (rows : List (Id × A)) → AllAbove id rows
    → delete_row id rows ≡ rows
out_first = taken_first id_cmp id_total id_exact

above_same : {A : Type 0} (a b : Id) (rows : List (Id × A)) → id_cmp a b ≡ Equal → AllAbove b rows
    → AllAbove a rows
above_same a b rows h above = subst (λ i. AllAbove i rows) (sym (id_exact a b h)) above

kept_above_case : {A B : Type 0} (f : A → Option B) (low : Id) (row : Id × A)
    (rows : List (Id × A)) (q : Option B) → id_cmp low row.0 ≡ Less → AllAbove low (kept f rows)
    → AllAbove low (elim q [ Some x ↦ (row.0, x) ∷ kept f rows | None ↦ kept f rows ])
kept_above_case f low row rows (Some x) h more = (h, more)
kept_above_case f low row rows None h more = more

pub kept_above : {A B : Type 0} (f : A → Option B) (low : Id) (rows : List (Id × A))
    → AllAbove low rows → AllAbove low (kept f rows)
kept_above f low [] above = tt
kept_above f low (row ∷ rows) above =
    kept_above_case f low row rows (f row.1) above.0 (kept_above f low rows above.1)

-- what is found is put
equal_put : {A B : Type 0} (f : A → Option B) (id : Id) (b : B) (row : Id
    × A) (rows : List (Id × A)) (q : Option B) → id_cmp id row.0 ≡ Equal → AllAbove row.0 rows
    → f row.1 ≡ q → (id, b) ∷ kept f rows ≡ put_row id b (kept f (row ∷ rows))
equal_put f id b row rows (Some x) is above h = sym (ap (put_row id b)
    (kept_some f row.0 row.1 x rows h) ∙ put_by id b (row.0, x) (kept f rows) Equal is)
equal_put f id b row rows None is above h = sym (ap (put_row id b) (kept_none f row.0 row.1 rows h)
    ∙ put_first id b (kept f rows) (kept_above f id rows (above_same id row.0 rows is above)))

greater_put : {A B : Type 0} (f : A → Option B) (id : Id) (s : A) (b : B) (row : Id
    × A) (rows : List (Id × A)) (q : Option B) → id_cmp id row.0 ≡ Greater → f row.1 ≡ q
    → kept f (put_row id s rows) ≡ put_row id b (kept f rows)
    → kept f (row ∷ put_row id s rows) ≡ put_row id b (kept f (row ∷ rows))
greater_put f id s b row rows (Some x) is h more = kept_some f row.0 row.1 x (put_row id s rows) h
    ∙ ap (λ xs. (row.0, x) ∷ xs) more ∙ sym (ap (put_row id b) (kept_some f row.0 row.1 x rows h)
    ∙ put_by id b (row.0, x) (kept f rows) Greater is)
greater_put f id s b row rows None is h more = kept_none f row.0 row.1 (put_row id s rows) h ∙ more
    ∙ sym (ap (put_row id b) (kept_none f row.0 row.1 rows h))

kept_put_case : {A B : Type 0} (f : A → Option B) (id : Id) (s : A) (b : B) (row : Id
    × A) (rows : List (Id × A)) (o : Ordering) → id_cmp id row.0 ≡ o → f s ≡ Some b
    → AllAbove row.0 rows → kept f (put_row id s rows) ≡ put_row id b (kept f rows)
    → kept f (put_row id s (row ∷ rows)) ≡ put_row id b (kept f (row ∷ rows))
kept_put_case f id s b row rows Less is h above more =
    ap (kept f) (put_by id s row rows Less is) ∙ kept_some f id s b (row ∷ rows) h
    ∙ sym (put_first id b (kept f (row ∷ rows))
    (kept_above f id (row ∷ rows) (is, above_trans id row.0 rows is above)))
kept_put_case f id s b row rows Equal is h above more = ap (kept f) (put_by id s row rows Equal is)
    ∙ kept_some f id s b rows h ∙ equal_put f id b row rows (f row.1) is above refl
kept_put_case f id s b row rows Greater is h above more = ap (kept f) (put_by id s row rows Greater
    is) ∙ greater_put f id s b row rows (f row.1) is refl more

pub kept_put : {A B : Type 0} (f : A → Option B) (id : Id) (s : A) (b : B) (rows : List (Id × A))
    → f s ≡ Some b → IsRising rows → kept f (put_row id s rows) ≡ put_row id b (kept f rows)
kept_put f id s b [] h rising = kept_some f id s b [] h
kept_put f id s b (row ∷ rows) h rising = kept_put_case f id s b row rows (id_cmp id row.0) refl h
    rising.0 (kept_put f id s b rows h rising.1)

-- what isn't found is taken out
equal_out : {A B : Type 0} (f : A → Option B) (id : Id) (row : Id
    × A) (rows : List (Id × A)) (q : Option B) → id_cmp id row.0 ≡ Equal → AllAbove row.0 rows
    → f row.1 ≡ q → kept f rows ≡ delete_row id (kept f (row ∷ rows))
equal_out f id row rows (Some x) is above h = sym (ap (delete_row id)
    (kept_some f row.0 row.1 x rows h) ∙ out_by id (row.0, x) (kept f rows) Equal is)
equal_out f id row rows None is above h = sym (ap (delete_row id) (kept_none f row.0 row.1 rows h)
    ∙ out_first id (kept f rows) (kept_above f id rows (above_same id row.0 rows is above)))

greater_out : {A B : Type 0} (f : A → Option B) (id : Id) (row : Id
    × A) (rows rest : List (Id × A)) (q : Option B) → id_cmp id row.0 ≡ Greater → f row.1 ≡ q
    → kept f rest ≡ delete_row id (kept f rows)
    → kept f (row ∷ rest) ≡ delete_row id (kept f (row ∷ rows))
greater_out f id row rows rest (Some x) is h more = kept_some f row.0 row.1 x rest h
    ∙ ap (λ xs. (row.0, x) ∷ xs) more ∙ sym (ap (delete_row id) (kept_some f row.0 row.1 x rows h)
    ∙ out_by id (row.0, x) (kept f rows) Greater is)
greater_out f id row rows rest None is h more = kept_none f row.0 row.1 rest h ∙ more
    ∙ sym (ap (delete_row id) (kept_none f row.0 row.1 rows h))

kept_gone_case : {A B : Type 0} (f : A → Option B) (id : Id) (s : A) (row : Id
    × A) (rows : List (Id × A)) (o : Ordering) → id_cmp id row.0 ≡ o → f s ≡ None
    → AllAbove row.0 rows → kept f (put_row id s rows) ≡ delete_row id (kept f rows)
    → kept f (put_row id s (row ∷ rows)) ≡ delete_row id (kept f (row ∷ rows))
kept_gone_case f id s row rows Less is h above more =
    ap (kept f) (put_by id s row rows Less is) ∙ kept_none f id s (row ∷ rows) h
    ∙ sym (out_first id (kept f (row ∷ rows))
    (kept_above f id (row ∷ rows) (is, above_trans id row.0 rows is above)))
kept_gone_case f id s row rows Equal is h above more = ap (kept f) (put_by id s row rows Equal is)
    ∙ kept_none f id s rows h ∙ equal_out f id row rows (f row.1) is above refl
kept_gone_case f id s row rows Greater is h above more = ap (kept f) (put_by id s row rows Greater
    is) ∙ greater_out f id row rows (put_row id s rows) (f row.1) is refl more

pub kept_gone : {A B : Type 0} (f : A → Option B) (id : Id) (s : A) (rows : List (Id × A))
    → f s ≡ None → IsRising rows → kept f (put_row id s rows) ≡ delete_row id (kept f rows)
kept_gone f id s [] h rising = kept_none f id s [] h
kept_gone f id s (row ∷ rows) h rising = kept_gone_case f id s row rows (id_cmp id row.0) refl h
    rising.0 (kept_gone f id s rows h rising.1)

kept_taken_case : {A B : Type 0} (f : A
    → Option B) (id : Id) (row : Id × A) (rows : List (Id × A)) (o : Ordering) → id_cmp id row.0 ≡ o
    → AllAbove row.0 rows → kept f (delete_row id rows) ≡ delete_row id (kept f rows)
    → kept f (delete_row id (row ∷ rows)) ≡ delete_row id (kept f (row ∷ rows))
kept_taken_case f id row rows Less is above more =
    ap (kept f) (out_by id row rows Less is) ∙ sym (out_first id (kept f (row ∷ rows))
    (kept_above f id (row ∷ rows) (is, above_trans id row.0 rows is above)))
kept_taken_case f id row rows Equal is above more = ap (kept f) (out_by id row rows Equal is)
    ∙ equal_out f id row rows (f row.1) is above refl
kept_taken_case f id row rows Greater is above more = ap (kept f) (out_by id row rows Greater is)
    ∙ greater_out f id row rows (delete_row id rows) (f row.1) is refl more

pub kept_taken : {A B : Type 0} (f : A → Option B) (id : Id) (rows : List (Id × A)) → IsRising rows
    → kept f (delete_row id rows) ≡ delete_row id (kept f rows)
kept_taken f id [] rising = refl
kept_taken f id (row ∷ rows) rising =
    kept_taken_case f id row rows (id_cmp id row.0) refl rising.0 (kept_taken f id rows rising.1)

-- one list after another
append_case : {A B : Type 0} (f : A → Option B) (row : Id × A) (xs ys : List (Id × A))
    (q : Option B) → f row.1 ≡ q → kept f (xs ++ ys) ≡ kept f xs ++ kept f ys
    → kept f (row ∷ (xs ++ ys)) ≡ kept f (row ∷ xs) ++ kept f ys
append_case f row xs ys (Some x) h more = kept_some f row.0 row.1 x (xs ++ ys) h ∙ ap (λ zs.
    (row.0, x) ∷ zs) more ∙ ap (λ zs. zs ++ kept f ys) (sym (kept_some f row.0 row.1 x xs h))
append_case f row xs ys None h more = kept_none f row.0 row.1 (xs ++ ys) h ∙ more
    ∙ ap (λ zs. zs ++ kept f ys) (sym (kept_none f row.0 row.1 xs h))

pub kept-append : {A B : Type 0} (f : A → Option B) (xs ys : List (Id × A))
    → kept f (xs ++ ys) ≡ kept f xs ++ kept f ys
kept-append f [] ys = refl
kept-append f (row ∷ xs) ys = append_case f row xs ys (f row.1) refl (kept-append f xs ys)

-- rows whose documents are all there
pub rows_all : (held : List (Id × Held)) (rows : List Row) → map mark_of held ≡ map some_of rows
    → rows_in held ≡ rows
rows_all [] [] h = refl
rows_all [] (row ∷ rows) h = cc
rows_all (one ∷ held) [] h = cc
rows_all (one ∷ held) (row ∷ rows) h =
    let first : mark_of one ≡ some_of row = cc in
    let doc : doc_in one.1 ≡ Some row.1 = ap (λ (m : Mark). m.1) first in
    let id : one.0 ≡ row.0 = ap (λ (m : Mark). m.0) first in
    let rest : map mark_of held ≡ map some_of rows = cc in
    kept_some doc_in one.0 one.1 row.1 held doc ∙ ap (λ (i : Id). (i, row.1) ∷ rows_in held) id
    ∙ ap (λ xs. row ∷ xs) (rows_all held rows rest)

above_all : (low : Id) (held : List (Id × Held)) (rows : List Row)
    → map mark_of held ≡ map some_of rows → AllAbove low rows → AllAbove low held
above_all low [] [] h above = tt
above_all low [] (row ∷ rows) h above = tt
above_all low (one ∷ held) [] h above = cc
above_all low (one ∷ held) (row ∷ rows) h above =
    let first : mark_of one ≡ some_of row = cc in
    let id : one.0 ≡ row.0 = ap (λ (m : Mark). m.0) first in
    let rest : map mark_of held ≡ map some_of rows = cc in
    (ap (id_cmp low) id ∙ above.0, above_all low held rows rest above.1)

pub rising_all : (held : List (Id × Held)) (rows : List Row) → map mark_of held ≡ map some_of rows
    → IsRising rows → IsRising held
rising_all [] rows h rising = tt
rising_all (one ∷ held) [] h rising = cc
rising_all (one ∷ held) (row ∷ rows) h rising =
    let first : mark_of one ≡ some_of row = cc in
    let id : one.0 ≡ row.0 = ap (λ (m : Mark). m.0) first in
    let rest : map mark_of held ≡ map some_of rows = cc in (
      above_all one.0 held rows rest (subst (λ i. AllAbove i rows) (sym id) rising.0),
      rising_all held rows rest rising.1,
    )

-- one more row lent
pub lent_more : (held after : List (Id × Held)) (rows : List Row) (i : ℕ) (one : Id × Held) (row :
    Row) → after ≡ held ++ one ∷ [] → mark_of one ≡ some_of (get_or rows i row) → i < length rows
    → map mark_of held ≡ map some_of (take i rows)
    → map mark_of after ≡ map some_of (take (i + 1) rows)
lent_more held after rows i one row is mark lt h =
    ap (map mark_of) is ∙ map-append mark_of held (one ∷ [])
    ∙ ap₂ (λ (xs : List Mark) m. xs ++ m ∷ []) h mark
    ∙ sym (map-append some_of (take i rows) (get_or rows i row ∷ []))
    ∙ ap (map some_of) (sym (take_more rows i row lt))

pub unwritten_more : (held after : List (Id × Held)) (id : Id) (doc : Bor Document)
    → after ≡ held ++ (id, Lent doc) ∷ [] → all_written held ≡ [] → all_written after ≡ []
unwritten_more held after id doc is h = ap all_written is
    ∙ kept-append written_in held ((id, Lent doc) ∷ []) ∙ ap (λ xs. xs ++ []) h

-- a row lent or taken back
pub lent_rows : (rows : List (Id × Held)) (id : Id) (doc : Bor Document) → IsRising rows
    → rows_in (put_row id (Lent doc) rows) ≡ put_row id doc.now (rows_in rows)
lent_rows rows id doc rising = kept_put doc_in id (Lent doc) doc.now rows refl rising

pub lent_unwritten : (rows : List (Id × Held)) (id : Id) (doc : Bor Document) → IsRising rows
    → all_written rows ≡ [] → all_written (put_row id (Lent doc) rows) ≡ []
lent_unwritten rows id doc rising h = kept_gone written_in id (Lent doc) rows refl rising
    ∙ ap (delete_row id) h

pub taken_rows : (rows : List (Id × Held)) (id : Id) → IsRising rows
    → rows_in (delete_row id rows) ≡ delete_row id (rows_in rows)
taken_rows rows id rising = kept_taken doc_in id rows rising

pub taken_unwritten : (rows : List (Id × Held)) (id : Id) → IsRising rows → all_written rows ≡ []
    → all_written (delete_row id rows) ≡ []
taken_unwritten rows id rising h = kept_taken written_in id rows rising ∙ ap (delete_row id) h

pub taken_rises : (rows : List (Id × Held)) (id : Id) → IsRising rows
    → IsRising (delete_row id rows)
taken_rises rows id rising = rises_taken_out id_cmp id_total id_exact id rows rising

-- a write that puts a document into the namespace
pub written_put : (ns there : List ℕ) (id : Id) (doc : Document) (rows : List Row) (write : Write)
    → write ≡ Put there id doc → bytes_eq ns there ≡ true
    → written ns rows write ≡ put_row id doc rows
written_put ns there id doc rows write is same = ap (written ns rows) is
    ∙ ap (λ b. if b then put_row id doc rows else rows) same
