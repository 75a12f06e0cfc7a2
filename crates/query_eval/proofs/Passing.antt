-- Where the rows stand that a filter may want, and how an item passes over the others.
use Rattle.std.proofs.Common.{◌≡◌, ◌≢◌, ℕ, zero, suc, ◌+◌, ◌-◌, ◌<◌, ◌≤◌, Bool, true, false, List, []}
use Rattle.std.proofs.Common.{◌∷◌, Option, Some, None, length, get_or, set, refl, ap, subst, sym}
use Rattle.std.proofs.Common.{◌∙◌, arith, if◌then◌else◌}
use Rattle.std.proofs.lemmas.List.{get_or-set_other, length-set}
use Rattle.std.specs.List.{HoldsAt, AllWithin}
use Rattle.std.specs.List.Sorted.{IsPartitionPoint}
use Rattle.std.specs.Ordering.{is_eq}
use Rattle.std.specs.declared.cmp.Ordering.TheVariants.{Less, Equal, Greater}
use Rattle.bson_core.specs.declared.value.Value.{Value}
use Rattle.bson_core.specs.Fields.{Document}
use Rattle.txn_types.specs.Ids.{id_of}
use Rattle.txn_types.specs.Order.{id_cmp, same_id}
use Rattle.txn_types.specs.declared.filter.Filter.{Filter}
use Rattle.txn_types.specs.declared.id.Id.{Id}
use Rattle.txn_types.proofs.Orders.{id_exact}
use Rattle.txn_semantics.specs.Effect.{AreKnown, Doing}
use Rattle.txn_semantics.specs.Filters.{matches}
use Rattle.txn_semantics.specs.Meaning.{document_rules}
use Rattle.txn_semantics.specs.Rows.{Row, IsRising}
use Rattle.query_eval.specs.Acts.{wanted_in}
use Rattle.query_eval.specs.Held.{doc_in, rows_in}
use Rattle.query_eval.specs.Outside.{Outside, IsUnwanted, HasOtherId}
use Rattle.query_eval.specs.declared.held.Held.{Held}
use Rattle.query_eval.specs.declared.places.Places.{Places}
use Rattle.query_eval.proofs.Acting.{Walk, walk_start, walk_missed, has_doc}
use Rattle.query_eval.proofs.Asking.{AsksFor}
use Rattle.query_eval.proofs.Placed.{back, index_less}
use Rattle.query_eval.proofs.Touching.{equal_id, id_self}
use Rattle.query_eval.proofs.Turning.{known_at}

-- the rows around the one of an id have other ids
other_below : (a b : Id) → id_cmp a b ≡ Less → same_id a b ≡ false
other_below a b h = ap is_eq h

other_above : (a b : Id) → id_cmp a b ≡ Greater → same_id a b ≡ false
other_above a b h = ap is_eq h

pub alone_there : (id : Id) (rows : List (Id × Held)) (at : ℕ) → IsRising rows → at < length rows
    → HoldsAt (λ (row : Id × Held). id_cmp row.0 id ≡ Equal) rows at
    → Outside (HasOtherId id) rows (record { from = at; to = at + 1 })
alone_there id rows at rising h there = record {
  ordered = omega arith;
  within = omega (arith, h);
  before = λ k d low high. other_below (get_or rows k d).0 id
      (subst (λ i. id_cmp (get_or rows k d).0 i ≡ Less) (id_exact (get_or rows at d).0 id (there d))
      (index_less rows k at d rising high h));
  behind = λ k d low high. other_above (get_or rows k d).0 id (back id (get_or rows k d).0 Less
      (subst (λ i. id_cmp i (get_or rows k d).0 ≡ Less) (id_exact (get_or rows at d).0 id (there d))
      (index_less rows at k d rising (omega (arith, low)) high)));
}

pub none_there : (id : Id) (rows : List (Id × Held)) (at : ℕ) → at ≤ length rows
    → IsPartitionPoint (λ (row : Id × Held). id_cmp row.0 id ≡ Less) (λ (row : Id × Held).
    id_cmp row.0 id ≡ Greater) rows at → Outside (HasOtherId id) rows (record { from = at; to = at })
none_there id rows at h p = record {
  ordered = omega arith;
  within = h;
  before = λ k d low high. other_below (get_or rows k d).0 id (p.0 k d low high);
  behind = λ k d low high. other_above (get_or rows k d).0 id (p.1 k d low high);
}

-- a document that a filter wants matches it
match_case : (f : Filter) (d doc : Document) (b : Bool) → matches f d ≡ b
    → (if b then Some d else None) ≡ Some doc → matches f doc ≡ true
match_case f d doc true is h = let same : d ≡ doc = cc in
    subst (λ (x : Document). matches f x ≡ true) same is
match_case f d doc false is h = cc

abbrev asked : Filter → Option Document → Option Document
asked f o = elim o [ None ↦ None | Some doc ↦ if matches f doc then Some doc else None ]

wanted_case : (f : Filter) (doc : Document) (o : Option Document) → asked f o ≡ Some doc
    → matches f doc ≡ true
wanted_case f doc None h = cc
wanted_case f doc (Some d) h = match_case f d doc (matches f d) refl h

wanted_id : (f : Filter) (value : Value) (rows : List (Id × Held)) (k : ℕ) (d : Id × Held)
    (doc : Document) → AsksFor f value → AreKnown document_rules (rows_in rows) → k < length rows
    → wanted_in f (get_or rows k d).1 ≡ Some doc → id_of value ≡ Some (get_or rows k d).0
wanted_id f value rows k d doc asks known h is =
    equal_id doc (get_or rows k d).0 value
    (known_at rows k d doc h known (has_doc f (get_or rows k d).1 doc is))
    (asks doc (wanted_case f doc (doc_in (get_or rows k d).1) is))

unwanted_case : (o : Option Document) → ((doc : Document) → o ≡ Some doc → ⊥) → o ≡ None
unwanted_case None never = refl
unwanted_case (Some doc) never = absurd (never doc refl)

-- a row of another id is not wanted, nor is any where the value is no id
apart : (value : Value) (id other : Id) → id_of value ≡ Some id → same_id other id ≡ false
    → id_of value ≡ Some other → ⊥
apart value id other is different told =
    let same : id ≡ other = cc in
    let yes : same_id other id ≡ true = subst (λ i. same_id i id ≡ true) same (id_self id) in
    let wrong : true ≡ false = sym yes ∙ different in cc

pub asked_there : (f : Filter) (value : Value) (id : Id) (rows : List (Id × Held)) (places : Places)
    → AsksFor f value → AreKnown document_rules (rows_in rows) → id_of value ≡ Some id
    → Outside (HasOtherId id) rows places → Outside (IsUnwanted f) rows places
asked_there f value id rows places asks known is o = record {
  ordered = o.ordered;
  within = o.within;
  before = λ k d low high. unwanted_case (wanted_in f (get_or rows k d).1) (λ doc wanted.
      apart value id (get_or rows k d).0 is (o.before k d low high) (wanted_id f value rows k d doc
      asks known (omega (arith, high, o.ordered, o.within)) wanted));
  behind = λ k d low high. unwanted_case (wanted_in f (get_or rows k d).1) (λ doc wanted.
      apart value id (get_or rows k d).0 is (o.behind k d low high)
      (wanted_id f value rows k d doc asks known high wanted));
}

no_id : (value : Value) (id : Id) → id_of value ≡ None → id_of value ≡ Some id → ⊥
no_id value id none some = cc

pub asked_nowhere : (f : Filter) (value : Value) (rows : List (Id × Held)) → AsksFor f value
    → AreKnown document_rules (rows_in rows) → id_of value ≡ None
    → Outside (IsUnwanted f) rows (record { from = 0; to = 0 })
asked_nowhere f value rows asks known none = record {
  ordered = omega arith;
  within = omega arith;
  before = λ k d low high. absurd (omega (arith, high));
  behind = λ k d low high. unwanted_case (wanted_in f (get_or rows k d).1) (λ doc wanted.
      no_id value (get_or rows k d).0 none (wanted_id f value rows k d doc asks known high wanted));
}

pub everywhere : (f : Filter) (rows : List (Id × Held))
    → Outside (IsUnwanted f) rows (record { from = 0; to = length rows })
everywhere f rows = record {
  ordered = omega arith;
  within = omega arith;
  before = λ k d low high. absurd (omega (arith, high));
  behind = λ k d low high. absurd (omega (arith, low, high));
}

-- an item passes over rows that it doesn't want
some_element : {A : Type 0} (xs : List A) (i : ℕ) → i < length xs → A
some_element [] i h = absurd (omega (arith, h))
some_element (x ∷ xs) i h = x

pub walk_over : (act : Row → Doing) (f : Filter) (many : Bool) (content : Document
    → Option Document) (left : List Row → List Row → List Row) (before now : List (Id × Held))
    (i count n changed : ℕ) → Walk act f many content left before now i n changed
    → i + count ≤ length now → AllWithin (IsUnwanted f) now i (i + count)
    → Walk act f many content left before now (i + count) n changed
walk_over act f many content left before now i zero n changed walk h none =
    let same : i ≡ i + 0 = omega arith in
    subst (λ k. Walk act f many content left before now k n changed) same walk
walk_over act f many content left before now i (suc count) n changed walk h none =
    let here : i < length now = omega (arith, h) in
    let d : Id × Held = some_element now i here in
    let next : i + 1 + count ≡ i + suc count = omega arith in
    let later : AllWithin (IsUnwanted f) now (i + 1) (i + 1 + count) =
    λ k e low high. none k e (omega (arith, low)) (omega (arith, high)) in
    subst (λ k. Walk act f many content left before now k n changed) next
    (walk_over act f many content left before now (i + 1) count n changed
    (walk_missed act f many content left before now i n changed d walk here
    (none i d (omega arith) (omega arith))) (omega (arith, h)) later)

-- up to a place that is known by its own name
pub walk_to : (act : Row → Doing) (f : Filter) (many : Bool) (content : Document
    → Option Document) (left : List Row → List Row → List Row) (before now : List (Id × Held))
    (i to n changed : ℕ) → Walk act f many content left before now i n changed → i ≤ to
    → to ≤ length now → AllWithin (IsUnwanted f) now i to
    → Walk act f many content left before now to n changed
walk_to act f many content left before now i to n changed walk h within none =
    let same : i + (to - i) ≡ to = omega (arith, h) in
    subst (λ k. Walk act f many content left before now k n changed) same
    (walk_over act f many content left before now i (to - i) n changed walk (omega (
      arith,
      h,
      within,
    )) (λ k d low high. none k d low (omega (arith, high, h))))

-- what stands behind the places stays as it is
pub behind_set : (f : Filter) (rows : List (Id × Held)) (i to : ℕ) (row : Id × Held) → i < to
    → AllWithin (IsUnwanted f) rows to (length rows)
    → AllWithin (IsUnwanted f) (set rows i row) to (length (set rows i row))
behind_set f rows i to row h none = λ k d low high.
    let apart : k ≢ i = λ same. omega (arith, h, low, same) in
    ap (λ (r : Id × Held). wanted_in f r.1) (get_or-set_other rows i k row d apart)
    ∙ none k d low (omega (arith, high, length-set rows i row))

-- an item on its way through its places
pub record Between (act : Row → Doing) (f : Filter) (many : Bool)
    (content : Document → Option Document) (left : List Row → List Row → List Row)
    (before now : List (Id × Held)) (at to n changed : ℕ) : Type 0 where
  pub walk : Walk act f many content left before now at n changed
  pub up_to : at ≤ to
  pub within : to ≤ length now
  pub behind : AllWithin (IsUnwanted f) now to (length now)

pub between_start : (act : Row → Doing) (f : Filter) (many : Bool) (content : Document
    → Option Document) (left : List Row → List Row → List Row) (before : List (Id × Held))
    (places : Places) → ((rows : List Row) → left rows [] ≡ rows) → IsRising before
    → AreKnown document_rules (rows_in before) → Outside (IsUnwanted f) before places
    → Between act f many content left before before places.from places.to 0 0
between_start act f many content left before places idle rising known o = record {
  walk = walk_to act f many content left before before 0 places.from 0 0
      (walk_start act f many content left before idle rising known) (omega arith)
      (omega (arith, o.ordered, o.within)) o.before;
  up_to = o.ordered;
  within = o.within;
  behind = o.behind;
}

pub between_next : (act : Row → Doing) (f : Filter) (many : Bool) (content : Document
    → Option Document) (left : List Row → List Row → List Row) (before now : List (Id × Held))
    (at to n changed more_n more_changed : ℕ) (row : Id × Held) → at < to
    → Between act f many content left before now at to n changed
    → Walk act f many content left before (set now at row) (at + 1) more_n more_changed
    → Between act f many content left before (set now at row) (at + 1) to more_n more_changed
between_next act f many content left before now at to n changed more_n more_changed row h b walk =
    record {
      walk = walk;
      up_to = omega (arith, h);
      within = omega (arith, b.within, length-set now at row);
      behind = behind_set f now at to row h b.behind;
    }

pub between_end : (act : Row → Doing) (f : Filter) (many : Bool) (content : Document
    → Option Document) (left : List Row → List Row → List Row) (before now : List (Id × Held))
    (at to n changed : ℕ) → to ≤ at
    → Between act f many content left before now at to n changed
    → Walk act f many content left before now (length now) n changed
between_end act f many content left before now at to n changed h b =
    let same : at ≡ to = omega (arith, h, b.up_to) in
    walk_to act f many content left before now to (length now) n changed
    (subst (λ k. Walk act f many content left before now k n changed) same b.walk) b.within
    (omega arith) b.behind
