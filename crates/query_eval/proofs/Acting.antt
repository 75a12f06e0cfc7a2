-- How what items do to rows as they are held follows what they do to the rows.
use Rattle.std.proofs.Common.{◌≡◌, ℕ, suc, ◌+◌, ◌<◌, ◌≤◌, Bool, true, false, cond, not, ◌||◌, List}
use Rattle.std.proofs.Common.{[], ◌∷◌, ◌++◌, Option, Some, None, Ok, Err, length, map, filter, take}
use Rattle.std.proofs.Common.{drop, get_or, set, refl, ap, ap₂, subst, sym, ◌∙◌, arith}
use Rattle.std.proofs.Common.{if◌then◌else◌, append_assoc, length-append}
use Rattle.std.specs.Ordering.{is_eq, ordering_reverse}
use Rattle.std.specs.declared.cmp.Ordering.{Ordering}
use Rattle.std.specs.declared.cmp.Ordering.TheVariants.{Less, Equal, Greater}
use Rattle.std.proofs.lemmas.List.{append-nil, map-append, drop_all}
use Rattle.std.proofs.lemmas.List.Folds.{list_any-append}
use Rattle.std.proofs.Math.Seq.{drop-cons}
use Rattle.bson_core.specs.Fields.{Document}
use Rattle.txn_types.specs.Ids.{id_in}
use Rattle.txn_types.specs.Order.{id_cmp, same_id}
use Rattle.txn_types.specs.declared.filter.Filter.{Filter}
use Rattle.txn_types.specs.declared.id.Id.{Id}
use Rattle.txn_types.specs.declared.operation.OpErr.{OpErr}
use Rattle.txn_types.proofs.Orders.{id_total, id_exact}
use Rattle.txn_semantics.specs.Effect.{AreKnown, Done, Doing, nothing, both, with_done, after, each}
use Rattle.txn_semantics.specs.Effect.{matching, met_by, without}
use Rattle.txn_semantics.specs.Filters.{matches}
use Rattle.txn_semantics.specs.Meaning.{document_rules}
use Rattle.txn_semantics.specs.Rows.{Row, IsRising, put_row, delete_row, laid_over, holds_id}
use Rattle.txn_semantics.proofs.Laying.{cmp_self}
use Rattle.txn_semantics.proofs.Parts.{AllAbove, rising_put}
use Rattle.txn_semantics.proofs.Routing.{known_put, known_filter}
use Rattle.query_eval.specs.Acts.{wanted_in, Follows, put_content, no_content}
use Rattle.query_eval.specs.Held.{doc_in, written_in, kept, rows_in, all_written}
use Rattle.query_eval.specs.declared.held.Held.{Held}
use Rattle.query_eval.specs.declared.held.Held.TheVariants.{Own, Nothing}
use Rattle.query_eval.proofs.Keeping.{kept_some, kept_none, kept_put, kept_gone, kept_above}
use Rattle.query_eval.proofs.Placed.{put_there, same_at}

-- what is done, one thing after another
both_assoc : (a b c : Done) → both (both a b) c ≡ both a (both b c)
both_assoc a b c = ap₂ (λ (x : List Row) (y : List Row). record { met = x; changed = y })
    (append_assoc a.met b.met c.met) (append_assoc a.changed b.changed c.changed)

pub with_twice : (a b : Done) (r : Doing) → with_done a (with_done b r) ≡ with_done (both a b) r
with_twice a b (Ok m) = ap Ok (sym (both_assoc a b m))
with_twice a b (Err e) = refl

pub both_nothing : (d : Done) → both d nothing ≡ d
both_nothing d = ap₂ (λ (x : List Row) (y : List Row). record { met = x; changed = y })
    (append-nil d.met) (append-nil d.changed)

pub with_nothing : (r : Doing) → with_done nothing r ≡ r
with_nothing (Ok m) = refl
with_nothing (Err e) = refl

pub laid_append : {A : Type 0} (rows others more : List (Id × A))
    → laid_over rows (others ++ more) ≡ laid_over (laid_over rows others) more
laid_append rows [] more = refl
laid_append rows (row ∷ others) more = laid_append (put_row row.0 row.1 rows) others more

-- rows without some, and then without others
without_case : (row : Row) (rows a b : List Row) (p q : Bool) → holds_id row.0 a ≡ p
    → holds_id row.0 b ≡ q → without rows (a ++ b) ≡ without (without rows a) b
    → cond (not (p || q)) (row ∷ without rows (a ++ b)) (without rows (a ++ b))
    ≡ without (cond (not p) (row ∷ without rows a) (without rows a)) b
without_case row rows a b true q hp hq more = more
without_case row rows a b false q hp hq more = ap (λ xs. cond (not q) (row ∷ xs) xs) more ∙ ap (λ c.
    cond (not c) (row ∷ without (without rows a) b) (without (without rows a) b)) (sym hq)

pub without_append : (rows a b : List Row) → without rows (a ++ b) ≡ without (without rows a) b
without_append [] a b = refl
without_append (row ∷ rows) a b =
    ap (λ c. cond (not c) (row ∷ without rows (a ++ b)) (without rows (a ++ b)))
    (list_any-append (λ (r : Row). same_id row.0 r.0) a b)
    ∙ without_case row rows a b (holds_id row.0 a) (holds_id row.0 b) refl refl
    (without_append rows a b)

filter_true : (rows : List Row) → filter (λ (_ : Row). true) rows ≡ rows
filter_true [] = refl
filter_true (row ∷ rows) = ap (λ xs. row ∷ xs) (filter_true rows)

pub without_none : (rows : List Row) → without rows [] ≡ rows
without_none rows = filter_true rows

-- rows without one are the rows with it taken out
others_stay : (gone : Row) (rows : List Row) → AllAbove gone.0 rows
    → without rows (gone ∷ []) ≡ rows
others_stay gone [] above = refl
others_stay gone (row ∷ rows) above =
    let other : same_id row.0 gone.0 ≡ false =
    ap is_eq (id_total.antisymm row.0 gone.0 ∙ ap ordering_reverse above.0) in
    ap (λ b. cond (not (b || false)) (row ∷ without rows (gone ∷ [])) (without rows (gone ∷ [])))
    other ∙ ap (λ xs. row ∷ xs) (others_stay gone rows above.1)

above_same : (a b : Id) (rows : List Row) → id_cmp a b ≡ Equal → AllAbove b rows → AllAbove a rows
above_same a b rows h above = subst (λ i. AllAbove i rows) (sym (id_exact a b h)) above

all_above : (a b : Id) (rows : List Row) → id_cmp a b ≡ Less → AllAbove b rows → AllAbove a rows
all_above a b [] h above = tt
all_above a b (row ∷ rows) h above =
    (id_total.trans a b row.0 h above.0, all_above a b rows h above.1)

one_out_case : (gone row : Row) (rows : List Row) (o : Ordering) → id_cmp gone.0 row.0 ≡ o
    → AllAbove row.0 rows → delete_row gone.0 rows ≡ without rows (gone ∷ [])
    → (elim o [ Less ↦ row ∷ rows | Equal ↦ rows | Greater ↦ row ∷ delete_row gone.0 rows ])
    ≡ without (row ∷ rows) (gone ∷ [])
one_out_case gone row rows Less is above more =
    sym (others_stay gone (row ∷ rows) (is, all_above gone.0 row.0 rows is above))
one_out_case gone row rows Equal is above more =
    let same : same_id row.0 gone.0 ≡ true =
    ap is_eq (id_total.antisymm row.0 gone.0 ∙ ap ordering_reverse is) in
    sym (ap (λ b. cond (not (b || false)) (row ∷ without rows (gone ∷ [])) (without rows
    (gone ∷ []))) same ∙ others_stay gone rows (above_same gone.0 row.0 rows is above))
one_out_case gone row rows Greater is above more =
    let other : same_id row.0 gone.0 ≡ false =
    ap is_eq (id_total.antisymm row.0 gone.0 ∙ ap ordering_reverse is) in
    ap (λ xs. row ∷ xs) more ∙ sym (ap (λ b. cond (not (b || false))
    (row ∷ without rows (gone ∷ [])) (without rows (gone ∷ []))) other)

pub one_out : (gone : Row) (rows : List Row) → IsRising rows
    → delete_row gone.0 rows ≡ without rows (gone ∷ [])
one_out gone [] rising = refl
one_out gone (row ∷ rows) rising =
    one_out_case gone row rows (id_cmp gone.0 row.0) refl rising.0 (one_out gone rows rising.1)

-- what is kept of rising ids rises
kept_rises_case : {A B : Type 0} (f : A → Option B) (row : Id × A) (rows : List (Id × A))
    (q : Option B) → AllAbove row.0 (kept f rows) → IsRising (kept f rows)
    → IsRising (elim q [ Some x ↦ (row.0, x) ∷ kept f rows | None ↦ kept f rows ])
kept_rises_case f row rows (Some x) above more = (above, more)
kept_rises_case f row rows None above more = more

pub kept_rises : {A B : Type 0} (f : A → Option B) (rows : List (Id × A)) → IsRising rows
    → IsRising (kept f rows)
kept_rises f [] rising = tt
kept_rises f (row ∷ rows) rising = kept_rises_case f row rows (f row.1) (kept_above f row.0 rows
    rising.0) (kept_rises f rows rising.1)

-- nothing was done yet, and one thing after another
pub follows_start : (content : Document → Option Document) (left : List Row → List Row → List Row)
    (before : List (Id × Held)) → ((rows : List Row) → left rows [] ≡ rows) → IsRising before
    → AreKnown document_rules (rows_in before) → Follows content left before nothing before
follows_start content left before idle rising known =
    record { rows = sym (idle (rows_in before)); written = refl; rising = rising; known = known }

pub follows_more : (content : Document → Option Document) (left : List Row
    → List Row → List Row) (before mid after : List (Id × Held)) (a b : Done)
    → ((rows xs ys : List Row) → left rows (xs ++ ys) ≡ left (left rows xs) ys)
    → Follows content left before a mid → Follows content left mid b after
    → Follows content left before (both a b) after
follows_more content left before mid after a b more f g = record {
  rows = g.rows ∙ ap (λ xs. left xs b.changed) f.rows
      ∙ sym (more (rows_in before) a.changed b.changed);
  written = g.written
      ∙ ap (λ xs. laid_over xs (map (λ (row : Row). (row.0, content row.1)) b.changed)) f.written
      ∙ sym (ap (laid_over (all_written before))
      (map-append (λ (row : Row). (row.0, content row.1)) a.changed b.changed)
      ∙ laid_append (all_written before) (map (λ (row : Row). (row.0, content row.1)) a.changed)
      (map (λ (row : Row). (row.0, content row.1)) b.changed));
  rising = g.rising;
  known = g.known;
}

-- a document put under an id, and a row taken away
pub follows_put : (rows : List (Id × Held)) (met : List Row) (id : Id) (doc : Document)
    → IsRising rows → AreKnown document_rules (rows_in rows) → id_in doc ≡ Some id
    → Follows put_content laid_over rows (record { met = met; changed = (id, doc) ∷ [] })
    (put_row id (Own doc) rows)
follows_put rows met id doc rising known has = record {
  rows = kept_put doc_in id (Own doc) doc rows refl rising;
  written = kept_put written_in id (Own doc) (Some doc) rows refl rising;
  rising = rising_put id (Own doc) rows rising;
  known = subst (AreKnown document_rules) (sym (kept_put doc_in id (Own doc) doc rows refl rising))
      (known_put document_rules id doc (rows_in rows) has known);
}

pub follows_drop : (rows : List (Id × Held)) (met : List Row) (id : Id) (doc : Document)
    → IsRising rows → AreKnown document_rules (rows_in rows)
    → Follows no_content without rows (record { met = met; changed = (id, doc) ∷ [] })
    (put_row id Nothing rows)
follows_drop rows met id doc rising known =
    let gone : rows_in (put_row id Nothing rows) ≡ without (rows_in rows) ((id, doc) ∷ []) =
    kept_gone doc_in id Nothing rows refl rising
    ∙ one_out (id, doc) (rows_in rows) (kept_rises doc_in rows rising) in
    record {
      rows = gone;
      written = kept_put written_in id Nothing None rows refl rising;
      rising = rising_put id Nothing rows rising;
      known = subst (AreKnown document_rules) (sym gone) (known_filter document_rules
          (λ row. not (holds_id row.0 ((id, doc) ∷ []))) (rows_in rows) known);
    }

-- a row set anew at its place
pub set_is_put : {A : Type 0} (rows : List (Id × A)) (i : ℕ) (d : Id × A) (a : A) → IsRising rows
    → i < length rows → set rows i ((get_or rows i d).0, a) ≡ put_row (get_or rows i d).0 a rows
set_is_put rows i d a rising h = sym (put_there (get_or rows i d).0 a rows i rising h
    (λ e. ap (λ (row : Id × _). id_cmp row.0 (get_or rows i d).0) (same_at rows i e d h)
    ∙ cmp_self id_cmp id_total id_exact (get_or rows i d).0))

-- what a filter wants of a row
abbrev asked : Filter → Option Document → Option Document
asked f o = elim o [ None ↦ None | Some doc ↦ if matches f doc then Some doc else None ]

missed_match : (f : Filter) (id : Id) (doc : Document) (rest : List Row) (m : Bool)
    → (if m then Some doc else None) ≡ None → cond m ((id, doc) ∷ rest) rest ≡ rest
missed_match f id doc rest true h = cc
missed_match f id doc rest false h = refl

missed_case : (f : Filter) (one : Id × Held) (rest : List (Id × Held)) (o : Option Document)
    → doc_in one.1 ≡ o → asked f o ≡ None
    → matching document_rules f (rows_in (one ∷ rest)) ≡ matching document_rules f (rows_in rest)
missed_case f one rest None is h =
    ap (matching document_rules f) (kept_none doc_in one.0 one.1 rest is)
missed_case f one rest (Some doc) is h =
    ap (matching document_rules f) (kept_some doc_in one.0 one.1 doc rest is)
    ∙ missed_match f one.0 doc (matching document_rules f (rows_in rest)) (matches f doc) h

pub missed : (f : Filter) (one : Id × Held) (rest : List (Id × Held)) → wanted_in f one.1 ≡ None
    → matching document_rules f (rows_in (one ∷ rest)) ≡ matching document_rules f (rows_in rest)
missed f one rest h = missed_case f one rest (doc_in one.1) refl h

found_match : (id : Id) (d doc : Document) (rest : List Row) (m : Bool)
    → (if m then Some d else None) ≡ Some doc → cond m ((id, d) ∷ rest) rest ≡ (id, doc) ∷ rest
found_match id d doc rest true h = let same : d ≡ doc = cc in
    ap (λ (x : Document). (id, x) ∷ rest) same
found_match id d doc rest false h = cc

found_case : (f : Filter) (one : Id × Held) (rest : List (Id × Held)) (doc : Document)
    (o : Option Document) → doc_in one.1 ≡ o → asked f o ≡ Some doc
    → matching document_rules f (rows_in (one ∷ rest))
    ≡ (one.0, doc) ∷ matching document_rules f (rows_in rest)
found_case f one rest doc None is h = cc
found_case f one rest doc (Some d) is h =
    ap (matching document_rules f) (kept_some doc_in one.0 one.1 d rest is)
    ∙ found_match one.0 d doc (matching document_rules f (rows_in rest)) (matches f d) h

pub found : (f : Filter) (one : Id × Held) (rest : List (Id × Held)) (doc : Document)
    → wanted_in f one.1 ≡ Some doc → matching document_rules f (rows_in (one ∷ rest))
    ≡ (one.0, doc) ∷ matching document_rules f (rows_in rest)
found f one rest doc h = found_case f one rest doc (doc_in one.1) refl h

doc_match : (d doc : Document) (m : Bool) → (if m then Some d else None) ≡ Some doc → d ≡ doc
doc_match d doc true h = cc
doc_match d doc false h = cc

doc_case : (f : Filter) (doc : Document) (o : Option Document) → asked f o ≡ Some doc → o ≡ Some doc
doc_case f doc None h = cc
doc_case f doc (Some d) h = ap Some (doc_match d doc (matches f d) h)

-- a row that is wanted has that document
pub has_doc : (f : Filter) (held : Held) (doc : Document) → wanted_in f held ≡ Some doc
    → doc_in held ≡ Some doc
has_doc f held doc h = doc_case f doc (doc_in held) h

-- an item on its way through the rows
pub record Walk (act : Row → Doing) (f : Filter) (many : Bool)
    (content : Document → Option Document) (left : List Row → List Row → List Row)
    (before now : List (Id × Held)) (i n changed : ℕ) : Type 0 where
  pub so_far : Done
  pub doing : with_done so_far (each act (met_by document_rules f many (rows_in (drop i now))))
      ≡ each act (met_by document_rules f many (rows_in before))
  pub follows : Follows content left before so_far now
  pub met_is : n ≡ length so_far.met
  pub changed_is : changed ≡ length so_far.changed
  pub within : n ≤ i
  pub fewer : changed ≤ n

pub walk_start : (act : Row → Doing) (f : Filter) (many : Bool) (content : Document
    → Option Document) (left : List Row → List Row → List Row) (before : List (Id × Held))
    → ((rows : List Row) → left rows [] ≡ rows) → IsRising before
    → AreKnown document_rules (rows_in before)
    → Walk act f many content left before before 0 0 0
walk_start act f many content left before idle rising known = record {
  so_far = nothing;
  doing = with_nothing (each act (met_by document_rules f many (rows_in before)));
  follows = follows_start content left before idle rising known;
  met_is = refl;
  changed_is = refl;
  within = omega arith;
  fewer = omega arith;
}

at_place : (now : List (Id × Held)) (i : ℕ) (d : Id × Held) → i < length now
    → drop i now ≡ get_or now i d ∷ drop (i + 1) now
at_place now i d h = let next : suc i ≡ i + 1 = omega arith in
    drop-cons now i d h ∙ ap (λ k. get_or now i d ∷ drop k now) next

meets_more : (many : Bool) (xs ys : List Row) → xs ≡ ys
    → (if many then xs else take 1 xs) ≡ (if many then ys else take 1 ys)
meets_more many xs ys h = ap (λ zs. if many then zs else take 1 zs) h

pub walk_missed : (act : Row → Doing) (f : Filter) (many : Bool)
    (content : Document → Option Document) (left : List Row → List Row → List Row)
    (before now : List (Id × Held)) (i n changed : ℕ) (d : Id × Held)
    → Walk act f many content left before now i n changed
    → i < length now → wanted_in f (get_or now i d).1 ≡ None
    → Walk act f many content left before now (i + 1) n changed
walk_missed act f many content left before now i n changed d walk h none = record {
  so_far = walk.so_far;
  doing = ap (λ xs. with_done walk.so_far (each act xs)) (sym
      (meets_more many (matching document_rules f (rows_in (drop i now))) (matching document_rules
      f (rows_in (drop (i + 1) now))) (ap (λ xs. matching document_rules f (rows_in xs))
      (at_place now i d h) ∙ missed f (get_or now i d) (drop (i + 1) now) none))) ∙ walk.doing;
  follows = walk.follows;
  met_is = walk.met_is;
  changed_is = walk.changed_is;
  within = omega (arith, walk.within);
  fewer = walk.fewer;
}

-- a row that is met, by its meaning
met_many : (act : Row → Doing) (f : Filter) (now : List (Id × Held)) (i : ℕ) (d : Id
    × Held) (doc : Document) → i < length now → wanted_in f (get_or now i d).1 ≡ Some doc
    → each act (met_by document_rules f true (rows_in (drop i now)))
    ≡ after (act ((get_or now i d).0, doc)) (λ _.
    each act (met_by document_rules f true (rows_in (drop (i + 1) now))))
met_many act f now i d doc h is = ap (each act) (ap (λ xs. matching document_rules f (rows_in xs))
    (at_place now i d h) ∙ found f (get_or now i d) (drop (i + 1) now) doc is)

met_one : (act : Row → Doing) (f : Filter) (now : List (Id × Held)) (i : ℕ) (d : Id
    × Held) (doc : Document) → i < length now → wanted_in f (get_or now i d).1 ≡ Some doc
    → each act (met_by document_rules f false (rows_in (drop i now)))
    ≡ after (act ((get_or now i d).0, doc)) (λ _. Ok nothing)
met_one act f now i d doc h is = ap (λ xs. each act (take 1 xs)) (ap (λ xs. matching document_rules
    f (rows_in xs)) (at_place now i d h) ∙ found f (get_or now i d) (drop (i + 1) now) doc is)

pub walk_met : (act : Row → Doing) (f : Filter) (content : Document → Option Document)
    (left : List Row → List Row → List Row) (before now next : List (Id × Held))
    (i n changed count : ℕ) (d : Id × Held) (doc : Document) (done : Done)
    → ((rows xs ys : List Row) → left rows (xs ++ ys) ≡ left (left rows xs) ys)
    → Walk act f true content left before now i n changed → i < length now
    → wanted_in f (get_or now i d).1 ≡ Some doc → act ((get_or now i d).0, doc) ≡ Ok done
    → Follows content left now done next → drop (i + 1) next ≡ drop (i + 1) now
    → length done.met ≡ 1 → length done.changed ≡ count → count ≤ 1
    → Walk act f true content left before next (i + 1) (n + 1) (changed + count)
walk_met act f content left before now next i n changed count d doc done more walk h is does follows
    rest one counts few = record {
      so_far = both walk.so_far done;
      doing = sym (with_twice walk.so_far done
          (each act (met_by document_rules f true (rows_in (drop (i + 1) next)))))
          ∙ ap (λ xs. with_done walk.so_far
          (with_done done (each act (met_by document_rules f true (rows_in xs))))) rest
          ∙ ap (λ r. with_done walk.so_far (after r
          (λ _. each act (met_by document_rules f true (rows_in (drop (i + 1) now)))))) (sym does)
          ∙ ap (with_done walk.so_far) (sym (met_many act f now i d doc h is)) ∙ walk.doing;
      follows =
          follows_more content left before now next walk.so_far done more walk.follows follows;
      met_is = omega (arith, walk.met_is, one, length-append walk.so_far.met done.met);
      changed_is =
          omega (arith, walk.changed_is, counts, length-append walk.so_far.changed done.changed);
      within = omega (arith, walk.within);
      fewer = omega (arith, walk.fewer, few);
    }

-- an item for one document ends at the first that it meets
pub record Ended (act : Row → Doing) (f : Filter) (many : Bool)
    (content : Document → Option Document) (left : List Row → List Row → List Row)
    (before after : List (Id × Held)) (n changed : ℕ) : Type 0 where
  pub done : Done
  pub does : each act (met_by document_rules f many (rows_in before)) ≡ Ok done
  pub follows : Follows content left before done after
  pub met_is : n ≡ length done.met
  pub changed_is : changed ≡ length done.changed

pub walk_one : (act : Row → Doing) (f : Filter) (content : Document → Option Document)
    (left : List Row → List Row → List Row) (before now next : List (Id × Held))
    (i n changed count : ℕ) (d : Id × Held) (doc : Document) (done : Done)
    → ((rows xs ys : List Row) → left rows (xs ++ ys) ≡ left (left rows xs) ys)
    → Walk act f false content left before now i n changed → i < length now
    → wanted_in f (get_or now i d).1 ≡ Some doc → act ((get_or now i d).0, doc) ≡ Ok done
    → Follows content left now done next → length done.met ≡ 1 → length done.changed ≡ count
    → Ended act f false content left before next (n + 1) (changed + count)
walk_one act f content left before now next i n changed count d doc done more walk h is does follows
    one counts = record {
      done = both walk.so_far done;
      does = sym walk.doing ∙ ap (with_done walk.so_far) (met_one act f now i d doc h is ∙ ap (λ r.
          after r (λ _. Ok nothing)) does) ∙ ap (λ x. Ok (both walk.so_far x)) (both_nothing done);
      follows =
          follows_more content left before now next walk.so_far done more walk.follows follows;
      met_is = omega (arith, walk.met_is, one, length-append walk.so_far.met done.met);
      changed_is =
          omega (arith, walk.changed_is, counts, length-append walk.so_far.changed done.changed);
    }

walk_err_case : (act : Row → Doing) (f : Filter) (many : Bool) (now : List (Id × Held))
    (i : ℕ) (d : Id × Held) (doc : Document) (e : OpErr) (so_far : Done) → i < length now
    → wanted_in f (get_or now i d).1 ≡ Some doc → act ((get_or now i d).0, doc) ≡ Err e
    → with_done so_far (each act (met_by document_rules f many (rows_in (drop i now)))) ≡ Err e
walk_err_case act f true now i d doc e so_far h is does =
    ap (with_done so_far) (met_many act f now i d doc h is ∙ ap
    (λ r. after r (λ _. each act (met_by document_rules f true (rows_in (drop (i + 1) now))))) does)
walk_err_case act f false now i d doc e so_far h is does = ap (with_done so_far) (met_one act f now
    i d doc h is ∙ ap (λ r. after r (λ _. Ok nothing)) does)

pub walk_err : (act : Row → Doing) (f : Filter) (many : Bool) (content : Document → Option Document)
    (left : List Row → List Row → List Row) (before now : List (Id × Held)) (i n changed : ℕ)
    (d : Id × Held) (doc : Document) (e : OpErr)
    → Walk act f many content left before now i n changed → i < length now
    → wanted_in f (get_or now i d).1 ≡ Some doc → act ((get_or now i d).0, doc) ≡ Err e
    → each act (met_by document_rules f many (rows_in before)) ≡ Err e
walk_err act f many content left before now i n changed d doc e walk h is does = sym walk.doing
    ∙ walk_err_case act f many now i d doc e walk.so_far h is does

ended_case : (act : Row → Doing) (f : Filter) (many : Bool) (so_far : Done)
    → with_done so_far (each act (met_by document_rules f many [])) ≡ Ok so_far
ended_case act f true so_far = ap Ok (both_nothing so_far)
ended_case act f false so_far = ap Ok (both_nothing so_far)

pub walk_end : (act : Row → Doing) (f : Filter) (many : Bool) (content : Document → Option Document)
    (left : List Row → List Row → List Row) (before now : List (Id × Held)) (i n changed : ℕ)
    → Walk act f many content left before now i n changed → length now ≤ i
    → Ended act f many content left before now n changed
walk_end act f many content left before now i n changed walk h = record {
  done = walk.so_far;
  does = sym walk.doing ∙ ap (λ xs. with_done walk.so_far
      (each act (met_by document_rules f many (rows_in xs)))) (drop_all i now h)
      ∙ ended_case act f many walk.so_far;
  follows = walk.follows;
  met_is = walk.met_is;
  changed_is = walk.changed_is;
}
