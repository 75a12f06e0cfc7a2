-- What a statement makes of rows that fit, fits.
use Rattle.std.proofs.Common.{◌≡◌, ℕ, ℤ, pos, negsuc, ◌+ℤ◌, ◌&&◌, All, List, [], ◌∷◌, ◌++◌}
use Rattle.std.proofs.Common.{Option, Some, None, Bool, true, false, cond, not, Result}
use Rattle.std.proofs.Common.{Ok, Err, refl, sym, ap, subst, ◌∙◌, arith, if◌then◌else◌}
use Rattle.std.specs.Prelude.{FitsSigned, int_le, nat_le, length, option_and_then}
use Rattle.std.specs.Int.{w32, w64}
use Rattle.std.specs.Str.{bytes_eq}
use Rattle.std.specs.declared.cmp.Ordering.{Ordering}
use Rattle.std.specs.declared.cmp.Ordering.TheVariants.{Less, Equal, Greater}
use Rattle.std.proofs.lemmas.Grind.{common_steps}
use Rattle.std.proofs.lemmas.List.Elements.{All-nil, All-cons, All-head, All-tail, All-append}
use Rattle.std.proofs.lemmas.List.Elements.{All-filter, All-take, All-map, All-weaker}
use Rattle.outcomes.proofs.Binding.{bind_ok, ok_is}
use Rattle.bson_core.specs.declared.value.Value.{Value}
use Rattle.bson_core.specs.declared.value.Value.TheVariants.{Int, Long}
use Rattle.bson_core.specs.declared.value.Value.TheOpen as of
use Rattle.bson_core.specs.declared.value.Value.TheOpen.{Value-F}
use Rattle.bson_core.specs.declared.value.Value.TheViews.{roll-Value, out-Value, roll-out-Value}
use Rattle.bson_core.specs.declared.value.Value.TheViews as views
use Rattle.bson_core.specs.Fields.{Document, value_of, with_value}
use Rattle.bson_core.specs.Names.{IsName}
use Rattle.bson_core.specs.Spelling.{spelling}
use Rattle.bson_core.proofs.InGrammar.{int_written, long_written}
use Rattle.codec_laws.proofs.Levels.{levels_rolled}
use Rattle.txn_types.specs.Ids.{id_name, id_of, id_in}
use Rattle.txn_types.specs.Order.{id_cmp}
use Rattle.txn_types.specs.declared.id.Id.{Id}
use Rattle.txn_types.specs.declared.id.Id.TheVariants as kinds
use Rattle.txn_types.specs.declared.filter.Filter.{Filter}
use Rattle.txn_types.specs.declared.operation.DeleteItem.{DeleteItem}
use Rattle.txn_types.specs.declared.operation.InsertItem.{InsertItem}
use Rattle.txn_types.specs.declared.operation.Op.{Op}
use Rattle.txn_types.specs.declared.operation.Op.TheVariants as op
use Rattle.txn_types.specs.declared.operation.UpdateItem.{UpdateItem}
use Rattle.txn_types.specs.declared.operation.OpReply.{OpReply}
use Rattle.txn_types.specs.declared.operation.What.{What}
use Rattle.txn_types.specs.declared.operation.What.TheVariants.{Duplicate, Overflow}
use Rattle.txn_types.specs.Limits.{most_stored}
use Rattle.txn_types.specs.declared.update.Update.{Update}
use Rattle.txn_types.specs.declared.update.Update.TheVariants.{Replace, Ops}
use Rattle.txn_types.specs.declared.update.UpdateKind.{UpdateKind}
use Rattle.txn_types.specs.declared.update.UpdateKind.TheVariants.{Set, Unset, Inc}
use Rattle.txn_types.specs.declared.update.UpdateOp.{UpdateOp}
use Rattle.txn_types.specs.declared.write.Write.{Write}
use Rattle.txn_types.specs.declared.write.Write.TheVariants.{Put, Delete}
use Rattle.txn_semantics.specs.Effect.{Doing, Done, DocumentRules, after, delete_step, each}
use Rattle.txn_semantics.specs.Effect.{insert_new, insert_step, met_by, matching, nothing, through}
use Rattle.txn_semantics.specs.Effect.{update_step, updated, with_done, without}
use Rattle.txn_semantics.specs.Keyed.{put, laid, taken_out}
use Rattle.txn_semantics.specs.Meaning.{count_both, count_met, document_rules, eval, meaning_of}
use Rattle.txn_semantics.specs.Meaning.{put_of, removed_of, writes_of}
use Rattle.txn_semantics.specs.Rows.{Row, delete_row, holds_id, laid_over, put_row, under, written}
use Rattle.txn_semantics.specs.Updates as updates
use Rattle.record_laws.specs.Fits.{IdFits}
use Rattle.request_laws.specs.Fitting.{ChangeFits, DocFits, FieldFits, InsertFits, NsFits, OpFits}
use Rattle.request_laws.specs.Fitting.{RowFits, SetsFit, UpdateFits, ValueFits, WriteFits}
use Rattle.request_laws.proofs.Docs.{id_name_is_name, int_long}

-- Values.

int_fits : (n : ℤ) → FitsSigned w32 n → ValueFits (Int n)
unfolding views.roll-Value denote.Hole.Carrier.roll views.out-Value denote.Hole.Carrier.out
int_fits n h = record {
  written = int_written n h;
  levels = omega (arith, levels_rolled (of.Int n));
  id = λ id e. let same : kinds.Num n ≡ id = cc in subst IdFits same (int_long n h);
}

long_fits : (n : ℤ) → FitsSigned w64 n → ValueFits (Long n)
unfolding views.roll-Value denote.Hole.Carrier.roll views.out-Value denote.Hole.Carrier.out
long_fits n h = record {
  written = long_written n h;
  levels = omega (arith, levels_rolled (of.Long n));
  id = λ id e. let same : kinds.Num n ≡ id = cc in subst IdFits same h;
}

-- The value of a name.

named_case : (name : List ℕ) (field : List ℕ × Value) (rest : Option Value) (value : Value)
    (b : Bool) → cond b (Some field.1) rest ≡ Some value → FieldFits field
    → (rest ≡ Some value → ValueFits value) → ValueFits value
named_case name field rest value true e first more =
    let same : field.1 ≡ value = cc in subst ValueFits same first.1
named_case name field rest value false e first more = more e

pub named_fits : (name : List ℕ) (doc : Document) (value : Value)
    → value_of name doc ≡ Some value → DocFits doc → ValueFits value
named_fits name [] value e h = absurd cc
named_fits name (field ∷ fields) value e h =
    named_case name field (value_of name fields) value (bytes_eq field.0 name) e
    (All-head FieldFits field fields h)
    (λ more. named_fits name fields value more (All-tail FieldFits field fields h))

id_case : (o : Option Value) (id : Id) → ((v : Value) → o ≡ Some v → ValueFits v)
    → option_and_then id_of o ≡ Some id → IdFits id
id_case None id h e = absurd cc
id_case (Some v) id h e = (h v refl).id id e

pub its_id_fits : (doc : Document) (id : Id) → id_in doc ≡ Some id → DocFits doc → IdFits id
its_id_fits doc id e h =
    id_case (value_of id_name doc) id (λ v is. named_fits id_name doc v is h) e

-- Updates of a document.

set_case : (name : List ℕ) (value : Value) (field : List ℕ × Value) (fields rest : Document)
    (b : Bool) → FieldFits (name, value) → FieldFits field → DocFits fields → DocFits rest
    → DocFits (cond b ((name, value) ∷ fields) (field ∷ rest))
set_case name value field fields rest true new old all more =
    All-cons FieldFits (name, value) fields new all
set_case name value field fields rest false new old all more =
    All-cons FieldFits field rest old more

set_fits : (name : List ℕ) (value : Value) (doc : Document) → FieldFits (name, value)
    → DocFits doc → DocFits (with_value name value doc)
set_fits name value [] new h = All-cons FieldFits (name, value) [] new (All-nil FieldFits)
set_fits name value (field ∷ fields) new h =
    let all = All-tail FieldFits field fields h in
    set_case name value field fields (with_value name value fields) (bytes_eq field.0 name) new
    (All-head FieldFits field fields h) all (set_fits name value fields new all)

without_fits : (name : List ℕ) (doc : Document) → DocFits doc
    → DocFits (updates.without_name name doc)
without_fits name doc h = All-filter (λ (field : List ℕ × Value). not (bytes_eq field.0 name))
    FieldFits doc h

same_value : (value : Value) (x : Value-F Value) → out-Value value ≡ x → value ≡ roll-Value x
same_value value x is = sym (roll-out-Value value) ∙ ap roll-Value is

within_w64 : (z : ℤ) → (int_le (negsuc 9223372036854775807) z
    && int_le z (pos 9223372036854775807)) ≡ true → FitsSigned w64 z
within_w64 (pos k) h = grind (arith, common_steps, h)
within_w64 (negsuc k) h = grind (arith, common_steps, h)

within_w32 : (z : ℤ) → (int_le (negsuc 2147483647) z && int_le z (pos 2147483647)) ≡ true
    → FitsSigned w32 z
within_w32 (pos k) h = grind (arith, common_steps, h)
within_w32 (negsuc k) h = grind (arith, common_steps, h)

long_case : (z : ℤ) (b : Bool) (value : Value) → (int_le (negsuc 9223372036854775807) z
    && int_le z (pos 9223372036854775807)) ≡ b → cond b (Ok (Long z)) (Err Overflow) ≡ Ok value
    → ValueFits value
long_case z true value is e = subst ValueFits (ok_is (Long z) value e)
    (long_fits z (within_w64 z is))
long_case z false value is e = absurd cc

long_of_fits : (z : ℤ) (value : Value) → updates.long_of z ≡ Ok value → ValueFits value
long_of_fits z value e = long_case z (int_le (negsuc 9223372036854775807) z
    && int_le z (pos 9223372036854775807)) value refl e

int_case : (z : ℤ) (b : Bool) (value : Value) → (int_le (negsuc 2147483647) z
    && int_le z (pos 2147483647)) ≡ b → cond b (Ok (Int z)) (updates.long_of z) ≡ Ok value
    → ValueFits value
int_case z true value is e = subst ValueFits (ok_is (Int z) value e)
    (int_fits z (within_w32 z is))
int_case z false value is e = long_of_fits z value e

int_of_fits : (z : ℤ) (value : Value) → updates.int_of z ≡ Ok value → ValueFits value
int_of_fits z value e =
    int_case z (int_le (negsuc 2147483647) z && int_le z (pos 2147483647)) value refl e

sum_fits : (x y : Value-F Value) (value : Value) → updates.sum_of x y ≡ Ok value
    → ValueFits value
sum_fits (of.Int m) (of.Int n) value e = int_of_fits (m +ℤ n) value e
sum_fits (of.Int m) (of.Long n) value e = long_of_fits (m +ℤ n) value e
sum_fits (of.Long m) (of.Int n) value e = long_of_fits (m +ℤ n) value e
sum_fits (of.Long m) (of.Long n) value e = long_of_fits (m +ℤ n) value e
sum_fits x y value e = absurd cc

amount_fits : (x : Value-F Value) (amount value : Value) → amount ≡ roll-Value x
    → updates.amount_of x ≡ Ok value → ValueFits amount → ValueFits value
unfolding views.roll-Value denote.Hole.Carrier.roll
amount_fits (of.Int n) amount value is e h =
    subst ValueFits (is ∙ ok_is (Int n) value e) h
amount_fits (of.Long n) amount value is e h =
    subst ValueFits (is ∙ ok_is (Long n) value e) h
amount_fits x amount value is e h = absurd cc

increased_fits : (old : Option Value) (amount value : Value)
    → updates.increased old amount ≡ Ok value → ValueFits amount → ValueFits value
increased_fits None amount value e h = amount_fits (out-Value amount) amount value
    (same_value amount (out-Value amount) refl) e h
increased_fits (Some old) amount value e h =
    sum_fits (out-Value old) (out-Value amount) value e

applied_fits : (kind : UpdateKind) (name : List ℕ) (value : Value) (doc new : Document)
    → updates.applied kind name value doc ≡ Ok new → FieldFits (name, value) → DocFits doc
    → DocFits new
applied_fits Set name value doc new e h d =
    subst DocFits (ok_is (with_value name value doc) new e) (set_fits name value doc h d)
applied_fits Unset name value doc new e h d =
    subst DocFits (ok_is (updates.without_name name doc) new e) (without_fits name doc d)
applied_fits Inc name value doc new e h d =
    let sum = bind_ok (updates.increased (value_of name doc) value)
    (λ sum. Ok (with_value name sum doc)) new e in
    subst DocFits (ok_is (with_value name sum.0 doc) new sum.2) (set_fits name sum.0 doc
    (h.0, increased_fits (value_of name doc) value sum.0 sum.1 h.1) d)

all_applied_fit : (ops : List UpdateOp) (doc new : Document) → updates.all_applied ops doc ≡ Ok new
    → All SetsFit ops → DocFits doc → DocFits new
all_applied_fit [] doc new e h d = subst DocFits (ok_is doc new e) d
all_applied_fit (op ∷ ops) doc new e h d =
    let one = bind_ok (updates.applied op.kind op.name op.value doc)
    (λ next. updates.all_applied ops next) new e in
    all_applied_fit ops one.0 new one.2 (All-tail SetsFit op ops h) (applied_fits op.kind op.name
    op.value doc one.0 one.1 (All-head SetsFit op ops h) d)

id_fields_fit : (name_fits : IsName id_name) (o : Option Value)
    → ((v : Value) → o ≡ Some v → ValueFits v) → DocFits (updates.id_fields o)
id_fields_fit name_fits None h = All-nil FieldFits
id_fields_fit name_fits (Some v) h = All-cons FieldFits (id_name, v) [] (name_fits, h v refl)
    (All-nil FieldFits)

kept_case : {A : Type 0} (b : Bool) (x : A) (why : What) (y : A)
    → ◌≡◌ {A = Result A What} (cond b (Ok x) (Err why)) (Ok y) → x ≡ y
kept_case true x why y e = ok_is x y e
kept_case false x why y e = absurd cc

replaced_fits : (new doc made : Document) → updates.replaced new doc ≡ Ok made → DocFits new
    → DocFits doc → DocFits made
replaced_fits new doc made e h d =
    let old = value_of id_name doc in
    let whole = updates.id_fields old ++ updates.without_name id_name new in
    subst DocFits (kept_case (updates.may_replace (value_of id_name new) old) whole _ made e)
    (All-append FieldFits (updates.id_fields old) (updates.without_name id_name new)
    (id_fields_fit id_name_is_name old (λ v is. named_fits id_name doc v is d))
    (without_fits id_name new h))

updated_by_fits : (u : Update) (doc made : Document) → updates.updated_by u doc ≡ Ok made
    → ChangeFits u → DocFits doc → DocFits made
updated_by_fits (Replace new) doc made e h d = replaced_fits new doc made e h d
updated_by_fits (Ops ops) doc made e h d =
    let one = bind_ok (updates.all_applied ops doc) (updates.with_old_id doc) made e in
    subst DocFits (kept_case (updates.is_same_value (value_of id_name one.0)
    (value_of id_name doc)) one.0 _ made one.2) (all_applied_fit ops doc one.0 one.1 h d)

pub apply_fits : (u : Update) (doc made : Document) → updates.apply u doc ≡ Ok made
    → ChangeFits u → DocFits doc → DocFits made
unfolding updates.apply
apply_fits u doc made e h d =
    let one = bind_ok (updates.updated_by u doc) updates.within_limit made e in
    subst DocFits (kept_case (nat_le (length (spelling one.0)) most_stored) one.0 _ made one.2)
    (updated_by_fits u doc one.0 one.1 h d)

-- Rows under keys.

put_case : {K A : Type 0} (Q : K × A → Type 0) (key : K) (a : A) (row : K × A)
    (rows rest : List (K × A)) (o : Ordering) → Q (key, a) → Q row → All Q rows → All Q rest
    → All Q (elim o [
      | Less ↦ (key, a) ∷ row ∷ rows
      | Equal ↦ (key, a) ∷ rows
      | Greater ↦ row ∷ rest
    ])
put_case Q key a row rows rest Less new old all more =
    All-cons Q (key, a) (row ∷ rows) new (All-cons Q row rows old all)
put_case Q key a row rows rest Equal new old all more = All-cons Q (key, a) rows new all
put_case Q key a row rows rest Greater new old all more = All-cons Q row rest old more

put_all : {K A : Type 0} (cmp : K → K → Ordering) (Q : K × A → Type 0) (key : K) (a : A)
    (rows : List (K × A)) → Q (key, a) → All Q rows → All Q (put cmp key a rows)
put_all cmp Q key a [] new h = All-cons Q (key, a) [] new (All-nil Q)
put_all cmp Q key a (row ∷ rows) new h =
    let all = All-tail Q row rows h in
    put_case Q key a row rows (put cmp key a rows) (cmp key row.0) new (All-head Q row rows h) all
    (put_all cmp Q key a rows new all)

taken_case : {K A : Type 0} (Q : K × A → Type 0) (row : K × A) (rows rest : List (K × A))
    (o : Ordering) → Q row → All Q rows → All Q rest
    → All Q (elim o [ Less ↦ row ∷ rows | Equal ↦ rows | Greater ↦ row ∷ rest ])
taken_case Q row rows rest Less old all more = All-cons Q row rows old all
taken_case Q row rows rest Equal old all more = all
taken_case Q row rows rest Greater old all more = All-cons Q row rest old more

taken_all : {K A : Type 0} (cmp : K → K → Ordering) (Q : K × A → Type 0) (key : K)
    (rows : List (K × A)) → All Q rows → All Q (taken_out cmp key rows)
taken_all cmp Q key [] h = All-nil Q
taken_all cmp Q key (row ∷ rows) h =
    let all = All-tail Q row rows h in
    taken_case Q row rows (taken_out cmp key rows) (cmp key row.0) (All-head Q row rows h) all
    (taken_all cmp Q key rows all)

laid_all : {K A : Type 0} (cmp : K → K → Ordering) (Q : K × A → Type 0)
    (rows others : List (K × A)) → All Q rows → All Q others → All Q (laid cmp rows others)
laid_all cmp Q rows [] h g = h
laid_all cmp Q rows (other ∷ others) h g =
    laid_all cmp Q (put cmp other.0 other.1 rows) others
    (put_all cmp Q other.0 other.1 rows (All-head Q other others g) h) (All-tail Q other others g)

-- What items do to rows.

abbrev RowsFit : List Row → Type 0
RowsFit rows = All RowFits rows

abbrev DoingFits : Doing → Type 0
DoingFits (Ok done) = RowsFit done.changed
DoingFits (Err e) = Unit {0}

with_fits : (d : Done) (r : Doing) → RowsFit d.changed → DoingFits r → DoingFits (with_done d r)
with_fits d (Ok m) h g = All-append RowFits d.changed m.changed h g
with_fits d (Err e) h g = tt

after_fits : (r : Doing) (next : Done → Doing) → DoingFits r
    → ((d : Done) → RowsFit d.changed → DoingFits (next d)) → DoingFits (after r next)
after_fits (Ok d) next h f = with_fits d (next d) h (f d h)
after_fits (Err e) next h f = tt

changed_case : (row : Row) (b : Bool) → RowFits row → RowsFit (if b then [] else (row ∷ []))
changed_case row true h = All-nil RowFits
changed_case row false h = All-cons RowFits row [] h (All-nil RowFits)

updated_case : (w : DocumentRules) (item : UpdateItem) (row : Row) (r : Result Document What)
    → ((doc : Document) → r ≡ Ok doc → DocFits doc) → IdFits row.0 → DoingFits (elim r [
      | Err what ↦ Err (record { index = item.index; id = row.0; what = what })
      | Ok doc ↦ Ok (record {
        met = row ∷ [];
        changed = if w.same row.1 doc then [] else ((row.0, doc) ∷ []);
      })
    ])
updated_case w item row (Ok doc) h id = changed_case (row.0, doc) (w.same row.1 doc)
    (id, h doc refl)
updated_case w item row (Err what) h id = tt

each_fits : (act : Row → Doing) (rows : List Row)
    → ((row : Row) → RowFits row → DoingFits (act row))
    → RowsFit rows → DoingFits (each act rows)
each_fits act [] f h = All-nil RowFits
each_fits act (row ∷ rows) f h = after_fits (act row) (λ _. each act rows)
    (f row (All-head RowFits row rows h))
    (λ d _. each_fits act rows f (All-tail RowFits row rows h))

through_fits : {I : Type 0} (G : I → Type 0) (step : I → List Row → Doing)
    (left : List Row → List Row → List Row) → ((item : I) (rows : List Row) → G item → RowsFit rows
    → DoingFits (step item rows)) → ((rows changed : List Row) → RowsFit rows → RowsFit changed
    → RowsFit (left rows changed)) → (items : List I) (rows : List Row) → All G items → RowsFit rows
    → DoingFits (through step left items rows)
through_fits G step left f l [] rows g h = All-nil RowFits
through_fits G step left f l (item ∷ items) rows g h =
    after_fits (step item rows) (λ done. through step left items (left rows done.changed))
    (f item rows (All-head G item items g) h)
    (λ d c. through_fits G step left f l items (left rows d.changed) (All-tail G item items g)
    (l rows d.changed h c))

met_fits : (w : DocumentRules) (f : Filter) (many : Bool) (rows : List Row) → RowsFit rows
    → RowsFit (met_by w f many rows)
met_fits w f true rows h = All-filter (λ (row : Row). w.matches f row.1) RowFits rows h
met_fits w f false rows h = All-take RowFits 1 (matching w f rows)
    (All-filter (λ (row : Row). w.matches f row.1) RowFits rows h)

update_fits : (item : UpdateItem) (rows : List Row) → UpdateFits item → RowsFit rows
    → DoingFits (update_step document_rules item rows)
update_fits item rows g h =
    each_fits (updated document_rules item) (met_by document_rules item.filter item.many rows)
    (λ row fits. updated_case document_rules item row (updates.apply item.update row.1)
    (λ doc is. apply_fits item.update row.1 doc is g fits.1) fits.0)
    (met_fits document_rules item.filter item.many rows h)

delete_fits : (item : DeleteItem) (rows : List Row) → RowsFit rows
    → DoingFits (delete_step document_rules item rows)
delete_fits item rows h = met_fits document_rules item.filter item.many rows h

new_case : (item : InsertItem) (rows : List Row) (id : Id) (b : Bool) → IdFits id
    → DocFits item.doc → DoingFits (if b
    then Err (record { index = item.index; id = id; what = Duplicate })
    else Ok (record { met = (id, item.doc) ∷ []; changed = (id, item.doc) ∷ [] }))
new_case item rows id true g h = tt
new_case item rows id false g h =
    All-cons RowFits (id, item.doc) [] (g, h) (All-nil RowFits)

insert_case : (item : InsertItem) (rows : List Row) (o : Option Id) → id_in item.doc ≡ o
    → DocFits item.doc → DoingFits (elim o [
      | None ↦ Ok nothing
      | Some id ↦ insert_new item rows id
    ])
insert_case item rows None is h = All-nil RowFits
insert_case item rows (Some id) is h =
    new_case item rows id (holds_id id rows) (its_id_fits item.doc id is h) h

insert_fits : (item : InsertItem) (rows : List Row) → InsertFits item → RowsFit rows
    → DoingFits (insert_step document_rules item rows)
insert_fits item rows g h = insert_case item rows (id_in item.doc) refl g

laid_fits : (rows changed : List Row) → RowsFit rows → RowsFit changed
    → RowsFit (laid_over rows changed)
laid_fits rows changed h g = laid_all id_cmp RowFits rows changed h g

without_rows : (rows gone : List Row) → RowsFit rows → RowsFit gone → RowsFit (without rows gone)
without_rows rows gone h g =
    All-filter (λ (row : Row). not (holds_id row.0 gone)) RowFits rows h

-- Writes.

puts_fit : (ns : List ℕ) (reply : Done → OpReply) (r : Doing) → NsFits ns → DoingFits r
    → All WriteFits (writes_of (meaning_of reply (put_of ns) r))
puts_fit ns reply (Ok d) n h = All-map WriteFits (put_of ns) (laid_over [] d.changed)
    (All-weaker RowFits (λ row. WriteFits (put_of ns row)) (λ row fits. (n, fits.0, fits.1))
    (laid_over [] d.changed) (laid_fits [] d.changed (All-nil RowFits) h))
puts_fit ns reply (Err e) n h = All-nil WriteFits

removes_fit : (ns : List ℕ) (reply : Done → OpReply) (r : Doing) → NsFits ns → DoingFits r
    → All WriteFits (writes_of (meaning_of reply (removed_of ns) r))
removes_fit ns reply (Ok d) n h = All-map WriteFits (removed_of ns) (laid_over [] d.changed)
    (All-weaker RowFits (λ row. WriteFits (removed_of ns row)) (λ row fits. (n, fits.0))
    (laid_over [] d.changed) (laid_fits [] d.changed (All-nil RowFits) h))
removes_fit ns reply (Err e) n h = All-nil WriteFits

pub eval_fits : (o : Op) (rows : List Row) → OpFits o → All RowFits rows
    → All WriteFits (writes_of (eval o rows))
eval_fits (op.Insert ns items) rows g h = puts_fit ns count_met
    (through (insert_step document_rules) laid_over items rows) g.0
    (through_fits InsertFits (insert_step document_rules) laid_over insert_fits laid_fits items rows
    g.1 h)
eval_fits (op.Find ns wanted down limit) rows g h = All-nil WriteFits
eval_fits (op.Update ns items) rows g h = puts_fit ns count_both
    (through (update_step document_rules) laid_over items rows) g.0
    (through_fits UpdateFits (update_step document_rules) laid_over update_fits laid_fits items rows
    g.1 h)
eval_fits (op.Delete ns items) rows g h = removes_fit ns count_met
    (through (delete_step document_rules) without items rows) g
    (through_fits (λ (item : DeleteItem). Unit {0}) (delete_step document_rules) without
    (λ item rows any fits. delete_fits item rows fits) without_rows items rows (λ k d le. tt) h)

-- Rows under writes.

written_case : (b : Bool) (rows new : List Row) → RowsFit rows → RowsFit new
    → RowsFit (if b then new else rows)
written_case true rows new h g = g
written_case false rows new h g = h

written_fits : (ns : List ℕ) (rows : List Row) (write : Write) → RowsFit rows → WriteFits write
    → RowsFit (written ns rows write)
written_fits ns rows (Put there id doc) h w = written_case (bytes_eq ns there) rows
    (put_row id doc rows) h (put_all id_cmp RowFits id doc rows (w.1, w.2) h)
written_fits ns rows (Delete there id) h w = written_case (bytes_eq ns there) rows
    (delete_row id rows) h (taken_all id_cmp RowFits id rows h)

pub under_fits : (ns : List ℕ) (rows : List Row) (writes : List Write) → All RowFits rows
    → All WriteFits writes → All RowFits (under ns rows writes)
under_fits ns rows [] h w = h
under_fits ns rows (write ∷ writes) h w = under_fits ns (written ns rows write) writes
    (written_fits ns rows write h (All-head WriteFits write writes w))
    (All-tail WriteFits write writes w)
