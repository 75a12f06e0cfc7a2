-- The rows that a scan gives rise by id.
use Rattle.std.proofs.Common.{◌≡◌, ◌&&◌, ℕ, Bool, true, false, cond, List, [], ◌∷◌, Option, Some}
use Rattle.std.proofs.Common.{None, Ok, filter, option_map, refl, ap, subst, ◌∙◌, sym}
use Rattle.std.specs.declared.cmp.Ordering.{Ordering}
use Rattle.std.specs.declared.cmp.Ordering.TheVariants.{Less, Equal, Greater}
use Rattle.std.specs.List.{filter_map, cons_option}
use Rattle.std.specs.Ordering.{nat_cmp, ordering_then, is_eq}
use Rattle.std.specs.Cmp.Lexicographic.{slice_cmp}
use Rattle.std.specs.Str.{bytes_eq}
use Rattle.std.proofs.lemmas.Cmp.{nat_list_cmp_total}
use Rattle.std.proofs.lemmas.Map.Lookups.{exact_bytes}
use Rattle.std.proofs.lemmas.Map.Text.{is_eq-slice_cmp}
use Rattle.bson_core.specs.Fields.{Document}
use Rattle.txn_types.specs.Order.{id_cmp}
use Rattle.txn_types.specs.declared.id.Id.{Id}
use Rattle.txn_types.specs.declared.names.Tag.{Tag}
use Rattle.txn_semantics.specs.Keyed.{AllAbove, Rises}
use Rattle.txn_semantics.specs.Effect.{AreKnown}
use Rattle.txn_semantics.specs.Meaning.{document_rules}
use Rattle.txn_semantics.specs.Rows.{Row, IsRising}
use Rattle.txn_semantics.specs.Touched.{Touched, touches}
use Rattle.txn_semantics.specs.Writes.{Place, place_cmp}
use Rattle.txn_semantics.proofs.Laying.{cmp_self}
use Rattle.version_store.specs.declared.version.Version.{Version}
use Rattle.version_store.specs.Versions.{Versions, first, seen, held_among, rows_among}
use Rattle.version_store.specs.Versions.{touched_keys, scan, unless}
use Rattle.version_store.specs.Ids.{HaveIds}
use Rattle.version_store.proofs.Ids.{rows_known}

is_equal : (o : Ordering) → is_eq o ≡ true → o ≡ Equal
is_equal Less h = cc
is_equal Equal h = refl
is_equal Greater h = cc

pub same_bytes : (a b : List ℕ) → bytes_eq a b ≡ true → a ≡ b
same_bytes a b h = exact_bytes a b (is_equal (slice_cmp nat_cmp a b) (is_eq-slice_cmp a b ∙ h))

-- the keys of a namespace whose ids pass a test
abbrev pub keys_in : List ℕ → (Id → Bool) → Versions → Versions
keys_in ns p store = filter (λ (key : Place × List Version). bytes_eq ns key.0.0 && p key.0.1) store

-- their documents
abbrev pub rows_in : (List Version → Option Document) → Versions → List Row
rows_in f keys = filter_map (λ (key : Place × List Version).
    option_map (λ (doc : Document). (key.0.1, doc)) (f key.1)) keys

above_row : (id other : Id) (o : Option Document) (rows : List Row)
    → id_cmp id other ≡ Less → AllAbove id_cmp id rows
    → AllAbove id_cmp id (cons_option (option_map (λ (doc : Document). (other, doc)) o) rows)
above_row id other None rows less above = above
above_row id other (Some doc) rows less above = (less, above)

rises_row : (other : Id) (o : Option Document) (rows : List Row) → AllAbove id_cmp other rows
    → IsRising rows → IsRising (cons_option (option_map (λ (doc : Document). (other, doc)) o) rows)
rises_row other None rows above r = r
rises_row other (Some doc) rows above r = (above, r)

in_one : (ns there : List ℕ) (id other : Id) → bytes_eq ns there ≡ true
    → place_cmp (ns, id) (there, other) ≡ Less → id_cmp id other ≡ Less
in_one ns there id other same less =
    let here : slice_cmp nat_cmp ns there ≡ Equal =
    subst (λ x. slice_cmp nat_cmp ns x ≡ Equal) (same_bytes ns there same)
    (cmp_self (slice_cmp nat_cmp) nat_list_cmp_total exact_bytes ns) in
    sym (ap (λ o. ordering_then o (id_cmp id other)) here) ∙ less

above_in_case : (f : List Version → Option Document) (ns : List ℕ) (p : Id → Bool) (id : Id)
    (key : Place × List Version) (keys : Versions) (b c : Bool) → bytes_eq ns key.0.0 ≡ b
    → place_cmp (ns, id) key.0 ≡ Less → AllAbove id_cmp id (rows_in f keys)
    → AllAbove id_cmp id (rows_in f (cond (b && c) (key ∷ keys) keys))
above_in_case f ns p id key keys true true hb less more =
    above_row id key.0.1 (f key.1) (rows_in f keys) (in_one ns key.0.0 id key.0.1 hb less) more
above_in_case f ns p id key keys true false hb less more = more
above_in_case f ns p id key keys false c hb less more = more

above_in : (f : List Version → Option Document) (ns : List ℕ) (p : Id
    → Bool) (id : Id) (keys : Versions) → AllAbove place_cmp (ns, id) keys
    → AllAbove id_cmp id (rows_in f (keys_in ns p keys))
above_in f ns p id [] above = tt
above_in f ns p id (key ∷ keys) above = above_in_case f ns p id key (keys_in ns p keys) (bytes_eq ns
    key.0.0) (p key.0.1) refl above.0 (above_in f ns p id keys above.1)

rises_in_case : (f : List Version → Option Document) (ns : List ℕ) (p : Id
    → Bool) (key : Place × List Version) (keys : Versions) (b c : Bool) → bytes_eq ns key.0.0 ≡ b
    → AllAbove place_cmp key.0 keys → IsRising (rows_in f (keys_in ns p keys))
    → IsRising (rows_in f (cond (b && c) (key ∷ keys_in ns p keys) (keys_in ns p keys)))
rises_in_case f ns p key keys true true hb above more =
    let here : AllAbove place_cmp (ns, key.0.1) keys = subst (λ (n : List ℕ).
    AllAbove place_cmp (n, key.0.1) keys) (sym (same_bytes ns key.0.0 hb)) above in
    rises_row key.0.1 (f key.1) (rows_in f (keys_in ns p keys))
    (above_in f ns p key.0.1 keys here) more
rises_in_case f ns p key keys true false hb above more = more
rises_in_case f ns p key keys false c hb above more = more

pub rises-rows_in : (f : List Version → Option Document) (ns : List ℕ) (p : Id
    → Bool) (store : Versions) → Rises place_cmp store → IsRising (rows_in f (keys_in ns p store))
rises-rows_in f ns p [] r = tt
rises-rows_in f ns p (key ∷ keys) r = rises_in_case f ns p key keys (bytes_eq ns key.0.0)
    (p key.0.1) refl r.0 (rises-rows_in f ns p keys r.1)

-- a scan that gives rows: no key is held
pub unless_ok : {A H : Type 0} (o : Option H) (a b : A) → unless o a ≡ Ok b → (o ≡ None) × (a ≡ b)
unless_ok None a b h = (refl, cc)
unless_ok (Some e) a b h = cc

-- the rows of a scan rise by id
pub rows_rise : (ns : List ℕ) (ids : Touched) (at : ℕ) (tag : Tag) (store : Versions)
    (rows : List Row) → Rises place_cmp store → scan store ns ids at tag ≡ Ok rows → IsRising rows
rows_rise ns ids at tag store rows r is =
    let both = unless_ok (first (held_among at tag (touched_keys store ns ids))) (rows_among at tag
    (touched_keys store ns ids)) rows is in
    subst IsRising both.1 (rises-rows_in (seen at tag) ns (touches ids) store r)

-- and have the ids of their documents
pub rows_have_ids : (ns : List ℕ) (ids : Touched) (at : ℕ) (tag : Tag) (store : Versions) (rows :
    List Row) → HaveIds store → scan store ns ids at tag ≡ Ok rows → AreKnown document_rules rows
rows_have_ids ns ids at tag store rows has is =
    let both = unless_ok (first (held_among at tag (touched_keys store ns ids))) (rows_among at tag
    (touched_keys store ns ids)) rows is in
    subst (AreKnown document_rules) both.1 (rows_known ns ids at tag store has)
