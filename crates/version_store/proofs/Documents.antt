-- The documents of one namespace: what a call leaves of them, and what a scan finds.
use Rattle.std.proofs.Common.{◌≡◌, ◌||◌, ℕ, Bool, true, false, cond, List, [], ◌∷◌, ◌++◌, Option}
use Rattle.std.proofs.Common.{Some, None, is_some, Result, Ok, Err, OnOk, OnErr, option_map}
use Rattle.std.proofs.Common.{unwrap_or, map, filter, refl, ap, sym, subst, ◌∙◌}
use Rattle.std.specs.Map.{lookup, set_value, remove_entry}
use Rattle.std.specs.BTreeMap.{is_at, insert_entry}
use Rattle.std.specs.List.{AllByRecursion, filter_map, cons_option, list_any}
use Rattle.std.specs.List.Sorted.{IsStrictlySortedBy}
use Rattle.std.specs.Ordering.{is_eq, ordering_reverse}
use Rattle.std.specs.declared.cmp.Ordering.{Ordering}
use Rattle.std.specs.declared.cmp.Ordering.TheVariants.{Less, Equal, Greater}
use Rattle.txn_types.specs.Order.{id_cmp, same_id}
use Rattle.txn_types.specs.declared.id.Id.{Id}
use Rattle.txn_types.specs.declared.names.Tag.{Tag}
use Rattle.txn_types.proofs.Orders.{id_total, id_exact}
use Rattle.txn_semantics.specs.Keyed.{put, AllAbove, Rises}
use Rattle.txn_semantics.specs.Rows.{Row}
use Rattle.txn_semantics.specs.Touched.{Touched}
use Rattle.txn_semantics.proofs.Laying as laying
use Rattle.version_store.specs.declared.version.Stamp.{Stamp}
use Rattle.version_store.specs.declared.version.Version.{Version}
use Rattle.version_store.specs.Versions.{first, other_writer_of, without, restamped}
use Rattle.version_store.specs.Chains.{IsChain, IsHistory, Each, IsCollection, versions_at}
use Rattle.version_store.specs.Chains.{changed_at, with_versions}
use Rattle.version_store.specs.Collections.{Documents, touched_of, found_of, held_of, rows_of}
use Rattle.version_store.specs.TakenBack.{put_back}
use Rattle.version_store.proofs.Histories.{Line, each_put, each_found, each_changed, put_history}
use Rattle.version_store.proofs.Histories.{kept_all, removed, rises_changed, rises_filter}
use Rattle.version_store.proofs.Histories.{left_histories, stamped_history, put_back_history}
use Rattle.version_store.proofs.Histories.{chain_without}
use Rattle.version_store.proofs.Keyed as keyed

-- what is left is a collection
pub collection_put : (id : Id) (line : Line) (docs : Documents) → IsHistory line → IsCollection docs
    → IsCollection (put id_cmp id line docs)
collection_put id line docs new h =
    record {
      rises = laying.rises_put id_cmp id_total id_exact id line docs h.rises;
      histories = each_put id_cmp IsHistory id line docs new h.histories;
    }

pub collection_stamped : (tag : Tag) (stamp : Stamp) (id : Id) (docs : Documents)
    → IsCollection docs → IsCollection (changed_at id_cmp (map (restamped tag stamp)) id docs)
collection_stamped tag stamp id docs h =
    record {
      rises = rises_changed id_cmp (map (restamped tag stamp)) id docs h.rises;
      histories = each_changed id_cmp IsHistory IsHistory (map (restamped tag stamp)) id docs
          (stamped_history tag stamp) (λ line i. i) h.histories;
    }

pub collection_put_back : (tag : Tag) (version : Version) (id : Id) (docs : Documents)
    → IsCollection docs → IsCollection (changed_at id_cmp (put_back tag version) id docs)
collection_put_back tag version id docs h =
    record {
      rises = rises_changed id_cmp (put_back tag version) id docs h.rises;
      histories = each_changed id_cmp IsHistory IsHistory (put_back tag version) id docs
          (put_back_history tag version) (λ line i. i) h.histories;
    }

pub collection_taken : (tag : Tag) (id : Id) (docs : Documents) → IsCollection docs
    → IsCollection (with_versions (changed_at id_cmp (without tag) id docs))
collection_taken tag id docs h =
    record {
      rises = rises_filter id_cmp (λ row. is_some (first row.1)) (changed_at id_cmp (without tag) id
          docs) (rises_changed id_cmp (without tag) id docs h.rises);
      histories = left_histories (changed_at id_cmp (without tag) id docs) (each_changed id_cmp
          IsHistory IsChain (without tag) id docs (λ line i. chain_without tag line i.1)
          (λ line i. i.1) h.histories);
    }

chain_case : (id : Id) (docs : Documents) (o : Option Line) → lookup (is_at (id_cmp id)) docs ≡ o
    → IsCollection docs → IsChain (unwrap_or o [])
chain_case id docs None there h = tt
chain_case id docs (Some line) there h =
    (each_found id_cmp IsHistory id line docs there h.histories).1

pub chain_at : (id : Id) (docs : Documents) → IsCollection docs
    → IsChain (versions_at id_cmp id docs)
chain_at id docs h = chain_case id docs (lookup (is_at (id_cmp id)) docs) refl h

pub line_at : (id : Id) (line : Line) (docs : Documents)
    → lookup (is_at (id_cmp id)) docs ≡ Some line → versions_at id_cmp id docs ≡ line
line_at id line docs there = ap (λ (o : Option Line). unwrap_or o []) there

pub none_at : (id : Id) (docs : Documents) → lookup (is_at (id_cmp id)) docs ≡ None
    → versions_at id_cmp id docs ≡ []
none_at id docs there = ap (λ (o : Option Line). unwrap_or o []) there

-- a version put under an id
pub laid_there : (tag : Tag) (id : Id) (version : Version) (line new : Line)
    (docs store : Documents) → docs ≡ store → IsCollection docs
    → lookup (is_at (id_cmp id)) docs ≡ Some line → new ≡ version ∷ without tag line
    → set_value (is_at (id_cmp id)) docs new
    ≡ put id_cmp id (version ∷ without tag (versions_at id_cmp id store)) store
laid_there tag id version line new docs store e h there is =
    keyed.written id_cmp id_total id_exact id new line docs h.rises there
    ∙ ap (λ (l : Line). put id_cmp id l docs)
    (is ∙ ap (λ (l : Line). version ∷ without tag l) (sym (line_at id line docs there)))
    ∙ ap (λ (s : Documents). put id_cmp id (version ∷ without tag (versions_at id_cmp id s)) s) e

pub laid_new : (tag : Tag) (id : Id) (version : Version) (new : Line) (now docs store : Documents)
    → now ≡ docs → docs ≡ store → lookup (is_at (id_cmp id)) docs ≡ None → new ≡ version ∷ []
    → insert_entry id_cmp now id new
    ≡ put id_cmp id (version ∷ without tag (versions_at id_cmp id store)) store
laid_new tag id version new now docs store same e there is =
    keyed.inserted id_cmp id_total id_exact id new now
    ∙ ap (put id_cmp id new) same
    ∙ ap (λ (l : Line). put id_cmp id l docs)
    (is ∙ ap (λ (l : Line). version ∷ without tag l) (sym (none_at id docs there)))
    ∙ ap (λ (s : Documents). put id_cmp id (version ∷ without tag (versions_at id_cmp id s)) s) e

pub left_there : (id : Id) (line new : Line) (docs store : Documents)
    → docs ≡ store → lookup (is_at (id_cmp id)) docs ≡ Some line → new ≡ line
    → set_value (is_at (id_cmp id)) docs new ≡ store
left_there id line new docs store e there is = ap (set_value (is_at (id_cmp id)) docs) is
    ∙ keyed.set_same id_cmp id line docs there ∙ e

pub kept_there : {T E : Type 0} (tag : Tag) (id : Id) (version : Version)
    (line new : Line) (docs store : Documents) (r : Result T E) → docs ≡ store
    → OnOk r (new ≡ version ∷ without tag line) → OnErr r (new ≡ line)
    → lookup (is_at (id_cmp id)) docs ≡ Some line
    → first (filter_map (other_writer_of tag) (versions_at id_cmp id store)) ≡ None
    → IsCollection docs → IsCollection (set_value (is_at (id_cmp id)) docs new)
kept_there tag id version line new docs store (Ok t) e ok err there free h =
    let clear : first (filter_map (other_writer_of tag) line) ≡ None =
    ap (λ (l : Line). first (filter_map (other_writer_of tag) l)) (sym (line_at id line docs there)
    ∙ ap (versions_at id_cmp id) e) ∙ free in
    let history : IsHistory new = subst IsHistory (sym ok) (put_history tag version line clear
    (each_found id_cmp IsHistory id line docs there h.histories).1) in
    subst IsCollection (sym (keyed.written id_cmp id_total id_exact id new line docs h.rises there))
    (collection_put id new docs history h)
kept_there tag id version line new docs store (Err f) e ok err there free h =
    subst IsCollection (sym (left_there id line new docs docs refl there err)) h

pub kept_new : {T E : Type 0} (id : Id) (version : Version) (new : Line) (now docs
    left : Documents) (r : Result T E) → now ≡ docs → new ≡ version ∷ []
    → OnOk r (left ≡ insert_entry id_cmp now id new) → OnErr r (left ≡ now)
    → IsCollection docs → IsCollection left
kept_new id version new now docs left (Ok t) same is ok err h =
    let history : IsHistory new = subst IsHistory (sym is) (refl, tt) in
    subst IsCollection (sym (ok ∙ keyed.inserted id_cmp id_total id_exact id new now
    ∙ ap (put id_cmp id new) same)) (collection_put id new docs history h)
kept_new id version new now docs left (Err f) same is ok err h =
    subst IsCollection (sym (err ∙ same)) h

-- the versions under an id taken out, and the id where none is left
pub removed_there : (f : Line → Line) (id : Id) (old new left store : Documents) → old ≡ store
    → new ≡ changed_at id_cmp f id old → left ≡ remove_entry (is_at (id_cmp id)) new
    → IsCollection old
    → lookup (is_at (id_cmp id)) new ≡ Some [] → left ≡ with_versions (changed_at id_cmp f id store)
removed_there f id old new left store e is out h there =
    out ∙ ap (remove_entry (is_at (id_cmp id))) is
    ∙ removed id_cmp id_total id_exact f id old h.rises h.histories
    (ap (lookup (is_at (id_cmp id))) (sym is) ∙ there)
    ∙ ap (λ (s : Documents). with_versions (changed_at id_cmp f id s)) e

pub stays_there : (f : Line → Line) (id : Id) (old new store : Documents)
    → old ≡ store → new ≡ changed_at id_cmp f id old → Each IsHistory new
    → new ≡ with_versions (changed_at id_cmp f id store)
stays_there f id old new store e is h = sym (kept_all new h) ∙ ap with_versions is
    ∙ ap (λ (s : Documents). with_versions (changed_at id_cmp f id s)) e

-- the documents found under rising ids are those whose id is among them
abbrev Among : List Id → Id × Line → Bool
Among ids row = list_any (same_id row.0) ids

greater : (a b : Id) → id_cmp a b ≡ Less → same_id b a ≡ false
greater a b h = ap is_eq (id_total.antisymm b a ∙ ap ordering_reverse h)

less : (a b : Id) → id_cmp a b ≡ Greater → same_id b a ≡ false
less a b h = ap is_eq (id_total.antisymm b a ∙ ap ordering_reverse h)

equal : (a b : Id) → id_cmp a b ≡ Equal → same_id b a ≡ true
equal a b h = ap is_eq (id_total.antisymm b a ∙ ap ordering_reverse h)

abbrev AllOverId : Id → List Id → Type 0
AllOverId id ids = AllByRecursion (λ other. id_cmp id other ≡ Less) ids

not_among : (id : Id) (ids : List Id) → AllOverId id ids → list_any (same_id id) ids ≡ false
not_among id [] h = refl
not_among id (other ∷ ids) h = ap (λ (o : Ordering). is_eq o || list_any (same_id id) ids) h.0
    ∙ not_among id ids h.1

over_lower : (low id : Id) (ids : List Id) → id_cmp low id ≡ Less → AllOverId id ids
    → AllOverId low ids
over_lower low id [] h over = tt
over_lower low id (other ∷ ids) h over =
    (id_total.trans low id other h over.0, over_lower low id ids h over.1)

none_filtered : (docs : Documents) → filter (Among []) docs ≡ []
none_filtered [] = refl
none_filtered (row ∷ docs) = none_filtered docs

apart_above : (id : Id) (ids : List Id) (docs : Documents) → AllAbove id_cmp id docs
    → filter (Among (id ∷ ids)) docs ≡ filter (Among ids) docs
apart_above id ids [] h = refl
apart_above id ids (row ∷ docs) h =
    ap (λ (b : Bool). cond (b || Among ids row) (row ∷ filter (Among (id ∷ ids)) docs)
    (filter (Among (id ∷ ids)) docs)) (greater id row.0 h.0)
    ∙ ap (λ (xs : Documents). cond (Among ids row) (row ∷ xs) xs) (apart_above id ids docs h.1)

abbrev Found : Documents → Id → Option (Id × Line)
Found docs id = option_map (λ versions. (id, versions)) (lookup (is_at (id_cmp id)) docs)

passed_over : (ids : List Id) (row : Id × Line) (docs : Documents) → Among ids row ≡ false
    → filter (Among ids) (row ∷ docs) ≡ filter (Among ids) docs
passed_over ids row docs h =
    ap (λ (b : Bool). cond b (row ∷ filter (Among ids) docs) (filter (Among ids) docs)) h

taken_in : (ids : List Id) (row : Id × Line) (docs : Documents) → Among ids row ≡ true
    → filter (Among ids) (row ∷ docs) ≡ row ∷ filter (Among ids) docs
taken_in ids row docs h =
    ap (λ (b : Bool). cond b (row ∷ filter (Among ids) docs) (filter (Among ids) docs)) h

one_case : (id : Id) (ids : List Id) (row : Id × Line) (docs : Documents) (o : Ordering)
    → id_cmp id row.0 ≡ o → AllOverId id ids → Rises id_cmp (row ∷ docs)
    → cons_option (Found docs id) (filter (Among ids) docs) ≡ filter (Among (id ∷ ids)) docs
    → cons_option (Found (row ∷ docs) id) (filter (Among ids) (row ∷ docs))
    ≡ filter (Among (id ∷ ids)) (row ∷ docs)
one_case id ids row docs Less is over r h =
    let above : AllAbove id_cmp id (row ∷ docs) =
    (is, laying.above_trans id_cmp id_total id_exact id row.0 docs is r.0) in
    ap (λ (o : Option Line). cons_option (option_map (λ versions. (id, versions)) o)
    (filter (Among ids) (row ∷ docs))) (keyed.none_above id_cmp id (row ∷ docs) above)
    ∙ sym (apart_above id ids (row ∷ docs) above)
one_case id ids row docs Equal is over r h =
    let same : id ≡ row.0 = id_exact id row.0 is in
    let out : Among ids row ≡ false = ap (λ (k : Id). list_any (same_id k) ids) (sym same)
    ∙ not_among id ids over in
    let within : Among (id ∷ ids) row ≡ true =
    ap (λ (b : Bool). b || Among ids row) (equal id row.0 is) in
    ap (λ (o : Option Line). cons_option (option_map (λ versions. (id, versions)) o)
    (filter (Among ids) (row ∷ docs))) (keyed.found_here id_cmp id row docs is)
    ∙ ap (λ (k : Id). (k, row.1) ∷ filter (Among ids) (row ∷ docs)) same
    ∙ ap (λ (xs : Documents). row ∷ xs) (passed_over ids row docs out ∙ sym
    (apart_above id ids docs (keyed.same_above id_cmp id_total id_exact id row docs is r)))
    ∙ sym (taken_in (id ∷ ids) row docs within)
one_case id ids row docs Greater is over r h =
    let low : id_cmp row.0 id ≡ Less = id_total.antisymm row.0 id ∙ ap ordering_reverse is in
    let out : Among ids row ≡ false = not_among row.0 ids (over_lower row.0 id ids low over) in
    let beyond : Among (id ∷ ids) row ≡ false =
    ap (λ (b : Bool). b || Among ids row) (less id row.0 is) ∙ out in
    ap (λ (o : Option Line). cons_option (option_map (λ versions. (id, versions)) o)
    (filter (Among ids) (row ∷ docs))) (keyed.passed id_cmp id row docs Greater is refl)
    ∙ ap (cons_option (Found docs id)) (passed_over ids row docs out)
    ∙ h
    ∙ sym (passed_over (id ∷ ids) row docs beyond)

one_more : (id : Id) (ids : List Id) (docs : Documents) → AllOverId id ids → Rises id_cmp docs
    → cons_option (Found docs id) (filter (Among ids) docs) ≡ filter (Among (id ∷ ids)) docs
one_more id ids [] over r = refl
one_more id ids (row ∷ docs) over r =
    one_case id ids row docs (id_cmp id row.0) refl over r (one_more id ids docs over r.1)

found_among : (ids : List Id) (docs : Documents) → IsStrictlySortedBy id_cmp ids → Rises id_cmp docs
    → found_of docs ids ≡ filter (Among ids) docs
unfolding IsStrictlySortedBy
found_among [] docs sorted r = sym (none_filtered docs)
found_among (id ∷ ids) docs sorted r = ap (cons_option (Found docs id)) (found_among ids docs
    sorted.1 r) ∙ one_more id ids docs sorted.0 r

same_filter : (p q : Id × Line → Bool) (docs : Documents) → ((row : Id × Line) → p row ≡ q row)
    → filter p docs ≡ filter q docs
same_filter p q [] h = refl
same_filter p q (row ∷ docs) h = ap (λ (b : Bool). cond b (row ∷ filter p docs) (filter p docs))
    (h row) ∙ ap (λ (xs : Documents). cond (q row) (row ∷ xs) xs) (same_filter p q docs h)

-- the same ids, sorted
pub found_sorted : (sorted ids : List Id) (docs : Documents) → IsStrictlySortedBy id_cmp sorted
    → ((id : Id) → list_any (same_id id) sorted ≡ list_any (same_id id) ids) → Rises id_cmp docs
    → found_of docs sorted ≡ touched_of (Some ids) docs
found_sorted sorted ids docs rising same r = found_among sorted docs rising r
    ∙ same_filter (Among sorted) (Among ids) docs (λ row. same row.0)

all_touched : (docs : Documents) → touched_of None docs ≡ docs
all_touched [] = refl
all_touched (row ∷ docs) = ap (λ (xs : Documents). row ∷ xs) (all_touched docs)

pub touched_all : (ids : Touched) (docs : Documents) → ids ≡ None → touched_of ids docs ≡ docs
touched_all ids docs is = ap (λ (o : Touched). touched_of o docs) is ∙ all_touched docs

-- an id more among the sorted ones
more_case : (old left : Bool) (b : Bool) → (cond b true old || left) ≡ (old || (b || left))
more_case true left true = refl
more_case true left false = refl
more_case false left true = refl
more_case false left false = refl

either_way : (a b : Id) (o : Ordering) → id_cmp a b ≡ o → is_eq (id_cmp a b) ≡ same_id b a
either_way a b Less is = ap is_eq is ∙ sym (greater a b is)
either_way a b Equal is = ap is_eq is ∙ sym (equal a b is)
either_way a b Greater is = ap is_eq is ∙ sym (less a b is)

pub sorted_on : (id key item : Id) (now old left all : Bool) → key ≡ item
    → now ≡ cond (is_eq (id_cmp key id)) true old → (old || (same_id id item || left)) ≡ all
    → (now || left) ≡ all
sorted_on id key item now old left all is new so_far =
    ap (λ (b : Bool). b || left) new
    ∙ more_case old left (is_eq (id_cmp key id))
    ∙ ap (λ (b : Bool). old || (b || left))
    (either_way key id (id_cmp key id) refl ∙ ap (same_id id) is)
    ∙ so_far

-- what a scan has found so far, and where it goes on: none of what it passed is held
pub record IsScanned (at : ℕ) (tag : Tag) (rows : List Row) (left docs : Documents) : Type 0 where
  pub held : first (held_of at tag left) ≡ first (held_of at tag docs)
  pub rows_so_far : rows ++ rows_of at tag left ≡ rows_of at tag docs
