-- A statement goes where its filters and documents belong.
use Rattle.std.proofs.Common.{◌≡◌, ◌||◌, ◌&&◌, ℕ, ◌<◌, ◌≤◌, Bool, true, false, not, List, [], ◌∷◌}
use Rattle.std.proofs.Common.{◌++◌, map, flat_map, length, Option, Some, None, option_map, refl, ap}
use Rattle.std.proofs.Common.{sym, subst, ◌∙◌, arith, nat_eq, nat_lt}
use Rattle.std.specs.List.{list_any, filter_map, cons_option}
use Rattle.std.proofs.lemmas.Bool.{eq-eqb, eqb-true, ltb-false}
use Rattle.bson_core.specs.Fields.{Document}
use Rattle.txn_types.specs.Ids.{id_in}
use Rattle.txn_types.specs.declared.filter.Filter.{Filter}
use Rattle.txn_types.specs.declared.id.Id.{Id}
use Rattle.txn_types.specs.declared.operation.InsertItem.{InsertItem}
use Rattle.txn_types.specs.declared.operation.UpdateItem.{UpdateItem}
use Rattle.txn_types.specs.declared.operation.DeleteItem.{DeleteItem}
use Rattle.txn_types.specs.declared.operation.Op.{Op}
use Rattle.txn_types.specs.declared.operation.Op.TheVariants.{Insert, Find, Update, Delete}
use Rattle.txn_semantics.specs.Filters.{matches}
use Rattle.txn_semantics.specs.Meaning.{document_rules, ns_of}
use Rattle.txn_semantics.specs.Routed.{Routes, HasOneShard, AllItems, IsRouted}
use Rattle.txn_semantics.specs.Rows.{Row}
use Rattle.txn_semantics.specs.Splits.{times, GoOnce}
use Rattle.chunk_map.specs.Map.{Map, IsMap}
use Rattle.chunk_map.specs.Place.{shard_of, rising, shards_for}
use Rattle.chunk_map.specs.Parts.{shards_of, is_spread, has_spread}
use Rattle.chunk_laws.specs.Routing.{IndicesOfItemsRise}
use Rattle.chunk_laws.proofs.Risen.{among_once, named_among}
use Rattle.chunk_laws.proofs.Asked.{asked}

or_true : (a : Bool) {b : Bool} → b ≡ true → (a || b) ≡ true
or_true true h = refl
or_true false h = h

-- Inserts.

here_case : (n : ℕ) (place : Id → ℕ) (id : Id) (o : Option Id) (ns : List ℕ) → o ≡ Some id
    → list_any (nat_eq (place id)) (cons_option (option_map place o) ns) ≡ true
here_case n place id None ns h = cc
here_case n place id (Some other) ns h = let same : other ≡ id = cc in
    ap (λ (i : Id). nat_eq (place id) (place i) || list_any (nat_eq (place id)) ns) same
    ∙ ap (λ b. b || list_any (nat_eq (place id)) ns) (eq-eqb (place id) (place id) refl)

more_case : (n : ℕ) (o : Option ℕ) (ns : List ℕ) → list_any (nat_eq n) ns ≡ true
    → list_any (nat_eq n) (cons_option o ns) ≡ true
more_case n None ns h = h
more_case n (Some m) ns h = or_true (nat_eq n m) h

goes_in : (place : Id → ℕ) (shards : List ℕ) (docs : List InsertItem)
    → ((n : ℕ) → list_any (nat_eq n)
    (filter_map (λ (item : InsertItem). option_map place (id_in item.doc)) docs) ≡ true
    → times n shards ≡ 1) → GoOnce document_rules place shards docs
goes_in place shards [] once = tt
goes_in place shards (item ∷ docs) once = (
  (λ id is. once (place id) (here_case 0 place id (id_in item.doc)
      (filter_map (λ (item : InsertItem). option_map place (id_in item.doc)) docs) is)),
  goes_in place shards docs (λ n there. once n (more_case n (option_map place (id_in item.doc))
      (filter_map (λ (item : InsertItem). option_map place (id_in item.doc)) docs) there)),
)

-- Filters.

append_case : (n x : ℕ) (xs ys : List ℕ) (b : Bool) → (b || list_any (nat_eq n) xs) ≡ true
    → (list_any (nat_eq n) xs ≡ true → list_any (nat_eq n) (xs ++ ys) ≡ true)
    → (b || list_any (nat_eq n) (xs ++ ys)) ≡ true
append_case n x xs ys true h more = refl
append_case n x xs ys false h more = more h

any_append : (n : ℕ) (xs ys : List ℕ) → list_any (nat_eq n) xs ≡ true
    → list_any (nat_eq n) (xs ++ ys) ≡ true
any_append n [] ys h = cc
any_append n (x ∷ xs) ys h = append_case n x xs ys (nat_eq n x) h (λ more. any_append n xs ys more)

any_behind : (n : ℕ) (xs ys : List ℕ) → list_any (nat_eq n) ys ≡ true
    → list_any (nat_eq n) (xs ++ ys) ≡ true
any_behind n [] ys h = h
any_behind n (x ∷ xs) ys h = or_true (nat_eq n x) (any_behind n xs ys h)

only_one : (k s : ℕ) (b : Bool) → nat_eq k s ≡ b → (b || false) ≡ true → k ≡ s
only_one k s true is h = eqb-true k s is
only_one k s false is h = cc

nowhere : (k : ℕ) → list_any (nat_eq k) [] ≡ true → k ≡ 0
nowhere k h = cc

head_only : (k s : ℕ) (shards : List ℕ) → list_any (nat_eq k) (s ∷ shards) ≡ true
    → nat_lt 1 (length (s ∷ shards)) ≡ false → k ≡ s
head_only k s [] there short = only_one k s (nat_eq k s) refl there
head_only k s (t ∷ shards) there short = let few : length (s ∷ t ∷ shards) ≤ 1 =
    ltb-false 1 (length (s ∷ t ∷ shards)) short in absurd (omega (arith, few))

-- the shards of a filter where it is for one document: not several
one_case : (m : Map) (ns : List ℕ) (many : Bool) (wanted : Filter) → many ≡ false
    → is_spread m ns many wanted ≡ false → nat_lt 1 (length (shards_for m ns wanted)) ≡ false
one_case m ns true wanted one spread = cc
one_case m ns false wanted one spread = spread

at_head : (m : Map) (ns : List ℕ) (wanted : Filter) → IsMap m → (shards : List ℕ)
    → shards_for m ns wanted ≡ shards → nat_lt 1 (length (shards_for m ns wanted)) ≡ false
    → (s : ℕ) × ((row : Row) → id_in row.1 ≡ Some row.0 → matches wanted row.1 ≡ true
    → shard_of m ns row.0 ≡ s)
at_head m ns wanted is [] e short = (
  0,
  λ row has h. let named = named_among (shard_of m ns row.0) (shards_for m ns wanted)
      (asked m ns wanted row.0 row.1 is has h) in nowhere (shard_of m ns row.0)
      (subst (λ ss. list_any (nat_eq (shard_of m ns row.0)) ss ≡ true) e named),
)
at_head m ns wanted is (s ∷ shards) e short = (
  s,
  λ row has h. let named = named_among (shard_of m ns row.0) (shards_for m ns wanted) (asked m ns
      wanted row.0 row.1 is has h) in
      head_only (shard_of m ns row.0) s shards (subst (λ ss. list_any (nat_eq (shard_of m ns row.0))
      ss ≡ true) e named) (subst (λ ss. nat_lt 1 (length ss) ≡ false) e short),
)

at_one : (m : Map) (ns : List ℕ) (wanted : Filter) → IsMap m
    → nat_lt 1 (length (shards_for m ns wanted)) ≡ false → (s : ℕ) × ((row : Row)
    → id_in row.1 ≡ Some row.0 → matches wanted row.1 ≡ true → shard_of m ns row.0 ≡ s)
at_one m ns wanted is short = at_head m ns wanted is (shards_for m ns wanted) refl short

has_one : (m : Map) (ns : List ℕ) (many : Bool) (wanted : Filter) → IsMap m
    → is_spread m ns many wanted ≡ false → HasOneShard document_rules (shard_of m ns) many wanted
has_one m ns many wanted is spread =
    λ one. at_one m ns wanted is (one_case m ns many wanted one spread)

-- Items with filters.

or_first_false : (a b : Bool) → (a || b) ≡ false → a ≡ false
or_first_false true b h = cc
or_first_false false b h = refl

or_second_false : (a b : Bool) → (a || b) ≡ false → b ≡ false
or_second_false true b h = cc
or_second_false false b h = h

all_routed : {I : Type 0} (m : Map) (ns : List ℕ) (many : I → Bool) (wanted : I
    → Filter) (shards : List ℕ) → IsMap m → (items : List I)
    → list_any (λ item. is_spread m ns (many item) (wanted item)) items ≡ false
    → ((n : ℕ) → list_any (nat_eq n) (flat_map (λ item. shards_for m ns (wanted item)) items) ≡ true
    → times n shards ≡ 1)
    → AllItems (λ item. Routes document_rules (shard_of m ns) shards (wanted item)
    × HasOneShard document_rules (shard_of m ns) (many item) (wanted item)) items
all_routed m ns many wanted shards is [] spread once = tt
all_routed m ns many wanted shards is (item ∷ items) spread once =
    let rest = flat_map (λ item. shards_for m ns (wanted item)) items in
    let own = shards_for m ns (wanted item) in
    let here : Routes document_rules (shard_of m ns) shards (wanted item) =
    λ row has h. once (shard_of m ns row.0) (any_append (shard_of m ns row.0) own rest
    (named_among (shard_of m ns row.0) own (asked m ns (wanted item) row.0 row.1 is has h))) in
    let one : HasOneShard document_rules (shard_of m ns) (many item) (wanted item) = has_one m ns
    (many item) (wanted item) is (or_first_false (is_spread m ns (many item) (wanted item))
    (list_any (λ item. is_spread m ns (many item) (wanted item)) items) spread) in
    let more = all_routed m ns many wanted shards is items (or_second_false (is_spread m ns
    (many item) (wanted item)) (list_any (λ item. is_spread m ns (many item) (wanted item))
    items) spread) (λ n there. once n (any_behind n own rest there)) in
    ((here, one), more)

pub routed : (m : Map) (op : Op) → IsMap m → IndicesOfItemsRise op → has_spread m op ≡ false
    → IsRouted document_rules (shard_of m (ns_of op)) (shards_of m op) op
unfolding shards_of has_spread
routed m (Insert ns docs) is rise spread = (
  rise,
  goes_in (shard_of m ns) (shards_of m (Insert ns docs)) docs (λ n there. among_once n
      (filter_map (λ (item : InsertItem). option_map (shard_of m ns) (id_in item.doc)) docs) there),
)
routed m (Find ns wanted down limit) is rise spread =
    λ row has h. asked m ns wanted row.0 row.1 is has h
routed m (Update ns items) is rise spread = (
  rise,
  all_routed m ns (λ (item : UpdateItem). item.many) (λ (item : UpdateItem). item.filter)
      (shards_of m (Update ns items)) is items spread (λ n there.
      among_once n (flat_map (λ (item : UpdateItem). shards_for m ns item.filter) items) there),
)
routed m (Delete ns items) is rise spread = (
  rise,
  all_routed m ns (λ (item : DeleteItem). item.many) (λ (item : DeleteItem). item.filter)
      (shards_of m (Delete ns items)) is items spread (λ n there.
      among_once n (flat_map (λ (item : DeleteItem). shards_for m ns item.filter) items) there),
)
