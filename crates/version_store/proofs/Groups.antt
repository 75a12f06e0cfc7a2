-- A store as the documents of its namespaces: what a call does to the documents of one namespace,
-- it does to the store.
use Rattle.std.proofs.Common.{◌≡◌, ◌&&◌, ℕ, Bool, true, false, cond, List, [], ◌∷◌, ◌++◌, Option}
use Rattle.std.proofs.Common.{Some, None, option_map, unwrap_or, Result, Ok, Err, OnOk, OnErr}
use Rattle.std.proofs.Common.{filter, is_some, refl, ap, sym, subst, ◌∙◌}
use Rattle.std.specs.Map.{lookup, set_value}
use Rattle.std.specs.BTreeMap.{is_at, insert_entry}
use Rattle.std.specs.Cmp.Lexicographic.{slice_cmp}
use Rattle.std.specs.List.{filter_map, cons_option}
use Rattle.std.specs.Ordering.{is_eq, nat_cmp}
use Rattle.std.specs.Str.{bytes_eq}
use Rattle.std.specs.declared.cmp.Ordering.{Ordering}
use Rattle.std.specs.declared.cmp.Ordering.TheVariants.{Less, Equal, Greater}
use Rattle.std.proofs.lemmas.Cmp.{nat_list_cmp_total}
use Rattle.std.proofs.lemmas.List.{append-nil}
use Rattle.std.proofs.lemmas.List.Elements.{filter-append}
use Rattle.std.proofs.lemmas.Map.Lookups.{exact_bytes}
use Rattle.std.proofs.lemmas.Map.Text.{is_eq-slice_cmp}
use Rattle.txn_types.specs.Order.{id_cmp}
use Rattle.txn_types.specs.declared.id.Id.{Id}
use Rattle.txn_types.specs.declared.names.Tag.{Tag}
use Rattle.txn_semantics.specs.Keyed.{put, AllAbove, Rises}
use Rattle.txn_semantics.specs.Rows.{Row}
use Rattle.txn_semantics.specs.Touched.{Touched, touches}
use Rattle.txn_semantics.specs.Writes.{Place, place_cmp}
use Rattle.version_store.specs.declared.version.Held.{Held}
use Rattle.version_store.specs.declared.version.Version.{Version}
use Rattle.version_store.specs.Versions.{Versions, first, other_writer_of, versions_of, without}
use Rattle.version_store.specs.Versions.{touched_keys, held_among, rows_among, scan, holder, seen}
use Rattle.version_store.specs.Versions.{unless}
use Rattle.version_store.specs.Chains.{IsHistory, IsCollection, AreCollections, IsKept, Each}
use Rattle.version_store.specs.Chains.{versions_at, changed_at, with_versions}
use Rattle.version_store.specs.Collections.{Documents, touched_of, held_of, rows_of, look}
use Rattle.version_store.specs.Nested.{under_first, flattened}
use Rattle.version_store.proofs.Histories.{Line, each_put, each_set, each_found, put_history}
use Rattle.version_store.proofs.Histories.{kept_all}
use Rattle.version_store.proofs.Documents.{collection_put, chain_at}
use Rattle.version_store.proofs.Keyed as keyed
use Rattle.version_store.proofs.Nested as nested

abbrev pub ns_cmp : List ℕ → List ℕ → Ordering
ns_cmp a b = slice_cmp nat_cmp a b

abbrev pub Groups : Type 0
Groups = List (List ℕ × Documents)

abbrev pub group_of : List ℕ → Groups → Documents
group_of ns groups = unwrap_or (lookup (is_at (ns_cmp ns)) groups) []

pub group_found : (ns : List ℕ) (docs : Documents) (groups : Groups)
    → lookup (is_at (ns_cmp ns)) groups ≡ Some docs → group_of ns groups ≡ docs
group_found ns docs groups h = ap (λ (o : Option Documents). unwrap_or o []) h

pub group_absent : (ns : List ℕ) (groups : Groups) → lookup (is_at (ns_cmp ns)) groups ≡ None
    → group_of ns groups ≡ []
group_absent ns groups h = ap (λ (o : Option Documents). unwrap_or o []) h

-- what a store keeps
all_rise : (groups : Groups) → Each IsCollection groups → nested.AllRise id_cmp groups
all_rise [] h = tt
all_rise (group ∷ groups) h = (h.0.rises, all_rise groups h.1)

histories_under : (ns : List ℕ) (docs : Documents) (rest : Versions) → Each IsHistory docs
    → Each IsHistory rest → Each IsHistory (under_first ns docs ++ rest)
histories_under ns [] rest h more = more
histories_under ns (row ∷ docs) rest h more = (h.0, histories_under ns docs rest h.1 more)

pub histories_flattened : (groups : Groups) → Each IsCollection groups
    → Each IsHistory (flattened groups)
histories_flattened [] h = tt
histories_flattened (group ∷ groups) h = histories_under group.0 group.1 (flattened groups)
    h.0.histories (histories_flattened groups h.1)

pub kept_flattened : (groups : Groups) → AreCollections groups → IsKept (flattened groups)
kept_flattened groups h =
    record {
      rises = nested.rises_flattened ns_cmp id_cmp nat_list_cmp_total exact_bytes groups h.rises
          (all_rise groups h.collections);
      histories = histories_flattened groups h.collections;
      ids = h.ids;
    }

-- the versions of a document
pub versions_nested : (ns : List ℕ) (id : Id) (groups : Groups) → Rises ns_cmp groups
    → versions_of (flattened groups) (ns, id) ≡ versions_at id_cmp id (group_of ns groups)
versions_nested ns id groups r =
    ap (λ (o : Option Line). unwrap_or o [])
    (sym (keyed.found place_cmp (ns, id) (flattened groups))
    ∙ nested.found_flattened ns_cmp id_cmp nat_list_cmp_total exact_bytes ns id groups r)

pub versions_in : (ns : List ℕ) (id : Id) (docs : Documents) (groups : Groups) (store : Versions)
    → flattened groups ≡ store → Rises ns_cmp groups → group_of ns groups ≡ docs
    → versions_at id_cmp id docs ≡ versions_of store (ns, id)
versions_in ns id docs groups store e r is =
    ap (versions_at id_cmp id) (sym is) ∙ sym (versions_nested ns id groups r)
    ∙ ap (λ (s : Versions). versions_of s (ns, id)) e

-- a version put under an id of a namespace
pub laid : (tag : Tag) (ns : List ℕ) (id : Id) (version : Version) (docs new : Documents)
    (groups : Groups) (store : Versions) → flattened groups ≡ store → Rises ns_cmp groups
    → group_of ns groups ≡ docs
    → new ≡ put id_cmp id (version ∷ without tag (versions_at id_cmp id docs)) docs
    → flattened (put ns_cmp ns new groups)
    ≡ put place_cmp (ns, id) (version ∷ without tag (versions_of store (ns, id))) store
laid tag ns id version docs new groups store e r here is =
    let line : Line = version ∷ without tag (versions_at id_cmp id docs) in
    ap (λ (d : Documents). flattened (put ns_cmp ns d groups))
    (is ∙ ap (put id_cmp id line) (sym here))
    ∙ sym (nested.put_flattened ns_cmp id_cmp nat_list_cmp_total exact_bytes ns id line groups r)
    ∙ ap (λ (s : Versions). put place_cmp (ns, id) line s) e
    ∙ ap (λ (l : Line). put place_cmp (ns, id) (version ∷ without tag l) store)
    (versions_in ns id docs groups store e r here)

pub laid_there : (tag : Tag) (ns : List ℕ) (id : Id) (version : Version) (docs new : Documents)
    (groups : Groups) (store : Versions) → flattened groups ≡ store → Rises ns_cmp groups
    → lookup (is_at (ns_cmp ns)) groups ≡ Some docs
    → new ≡ put id_cmp id (version ∷ without tag (versions_at id_cmp id docs)) docs
    → flattened (set_value (is_at (ns_cmp ns)) groups new)
    ≡ put place_cmp (ns, id) (version ∷ without tag (versions_of store (ns, id))) store
laid_there tag ns id version docs new groups store e r there is =
    ap flattened (keyed.written ns_cmp nat_list_cmp_total exact_bytes ns new docs groups r there)
    ∙ laid tag ns id version docs new groups store e r (group_found ns docs groups there) is

pub laid_new : (tag : Tag) (ns : List ℕ) (id : Id) (version : Version) (new : Documents)
    (now groups : Groups) (store : Versions) → now ≡ groups → flattened groups ≡ store
    → Rises ns_cmp groups
    → lookup (is_at (ns_cmp ns)) groups ≡ None → new ≡ (id, version ∷ []) ∷ []
    → flattened (insert_entry ns_cmp now ns new)
    ≡ put place_cmp (ns, id) (version ∷ without tag (versions_of store (ns, id))) store
laid_new tag ns id version new now groups store same e r there is =
    ap flattened (keyed.inserted ns_cmp nat_list_cmp_total exact_bytes ns new now
    ∙ ap (put ns_cmp ns new) same)
    ∙ laid tag ns id version [] new groups store e r (group_absent ns groups there) is

-- by what the trees tell of it
pub set_laid : {T E : Type 0} (tag : Tag) (ns : List ℕ) (id : Id) (version : Version)
    (docs new : Documents) (groups left : Groups) (store : Versions) (r : Result T E)
    → flattened groups ≡ store → Rises ns_cmp groups
    → lookup (is_at (ns_cmp ns)) groups ≡ Some docs
    → left ≡ set_value (is_at (ns_cmp ns)) groups new
    → OnOk r (new ≡ put id_cmp id (version ∷ without tag (versions_at id_cmp id docs)) docs)
    → OnOk r (flattened left
    ≡ put place_cmp (ns, id) (version ∷ without tag (versions_of store (ns, id))) store)
set_laid tag ns id version docs new groups left store (Ok t) e r there set is = ap flattened set
    ∙ laid_there tag ns id version docs new groups store e r there is
set_laid tag ns id version docs new groups left store (Err f) e r there set is = tt

pub insert_laid : {T E : Type 0} (tag : Tag) (ns : List ℕ) (id : Id) (version : Version)
    (new : Documents) (now groups left : Groups) (store : Versions) (r : Result T E) → now ≡ groups
    → flattened groups ≡ store → Rises ns_cmp groups
    → lookup (is_at (ns_cmp ns)) groups ≡ None → new ≡ (id, version ∷ []) ∷ []
    → OnOk r (left ≡ insert_entry ns_cmp now ns new)
    → OnOk r (flattened left
    ≡ put place_cmp (ns, id) (version ∷ without tag (versions_of store (ns, id))) store)
insert_laid tag ns id version new now groups left store (Ok t) same e r there is ok =
    ap flattened ok ∙ laid_new tag ns id version new now groups store same e r there is
insert_laid tag ns id version new now groups left store (Err f) same e r there is ok = tt

pub set_left : {T E : Type 0} (ns : List ℕ) (docs new : Documents) (groups left : Groups)
    (store : Versions) (r : Result T E) → flattened groups ≡ store
    → lookup (is_at (ns_cmp ns)) groups ≡ Some docs
    → left ≡ set_value (is_at (ns_cmp ns)) groups new → OnErr r (new ≡ docs)
    → OnErr r (flattened left ≡ store)
set_left ns docs new groups left store (Ok t) e there set is = tt
set_left ns docs new groups left store (Err f) e there set is =
    ap flattened (set ∙ ap (set_value (is_at (ns_cmp ns)) groups) is
    ∙ keyed.set_same ns_cmp ns docs groups there) ∙ e

pub insert_left : {T E : Type 0} (now groups left : Groups) (store : Versions) (r : Result T E)
    → now ≡ groups → flattened groups ≡ store → OnErr r (left ≡ now)
    → OnErr r (flattened left ≡ store)
insert_left now groups left store (Ok t) same e is = tt
insert_left now groups left store (Err f) same e is = ap flattened (is ∙ same) ∙ e

-- and still collections
kept_put : (tag : Tag) (id : Id) (version : Version) (docs new : Documents)
    → new ≡ put id_cmp id (version ∷ without tag (versions_at id_cmp id docs)) docs
    → first (filter_map (other_writer_of tag) (versions_at id_cmp id docs)) ≡ None
    → IsCollection docs → IsCollection new
kept_put tag id version docs new is free h =
    subst IsCollection (sym is)
    (collection_put id (version ∷ without tag (versions_at id_cmp id docs)) docs
    (put_history tag version (versions_at id_cmp id docs) free (chain_at id docs h)) h)

pub kept_there : {T E : Type 0} (tag : Tag) (ns : List ℕ) (id : Id) (version : Version)
    (docs new : Documents) (groups : Groups) (r : Result T E)
    → OnOk r (new ≡ put id_cmp id (version ∷ without tag (versions_at id_cmp id docs)) docs)
    → OnErr r (new ≡ docs) → lookup (is_at (ns_cmp ns)) groups ≡ Some docs
    → first (filter_map (other_writer_of tag) (versions_at id_cmp id docs)) ≡ None
    → Each IsCollection groups → Each IsCollection (set_value (is_at (ns_cmp ns)) groups new)
kept_there tag ns id version docs new groups (Ok t) ok err there free h =
    each_set ns_cmp IsCollection ns new groups (kept_put tag id version docs new ok free
    (each_found ns_cmp IsCollection ns docs groups there h)) h
kept_there tag ns id version docs new groups (Err f) ok err there free h =
    each_set ns_cmp IsCollection ns new groups
    (subst IsCollection (sym err) (each_found ns_cmp IsCollection ns docs groups there h)) h

none_is_collection : IsCollection []
none_is_collection = record { rises = tt; histories = tt }

pub kept_new : {T E : Type 0} (ns : List ℕ) (id : Id) (version : Version) (new : Documents)
    (now groups left : Groups) (r : Result T E) → now ≡ groups → new ≡ (id, version ∷ []) ∷ []
    → OnOk r (left ≡ insert_entry ns_cmp now ns new) → OnErr r (left ≡ now)
    → Each IsCollection groups → Each IsCollection left
kept_new ns id version new now groups left (Ok t) same is ok err h =
    let collection : IsCollection new = subst IsCollection (sym is) (collection_put id
    (version ∷ []) [] (refl, tt) none_is_collection) in
    subst (Each IsCollection)
    (sym (ok ∙ keyed.inserted ns_cmp nat_list_cmp_total exact_bytes ns new now
    ∙ ap (put ns_cmp ns new) same)) (each_put ns_cmp IsCollection ns new groups collection h)
kept_new ns id version new now groups left (Err f) same is ok err h =
    subst (Each IsCollection) (sym (err ∙ same)) h

-- the same documents again
pub left_there : (ns : List ℕ) (docs new : Documents) (groups : Groups) (store : Versions)
    → flattened groups ≡ store → lookup (is_at (ns_cmp ns)) groups ≡ Some docs → new ≡ docs
    → flattened (set_value (is_at (ns_cmp ns)) groups new) ≡ store
left_there ns docs new groups store e there is =
    ap (λ (d : Documents). flattened (set_value (is_at (ns_cmp ns)) groups d)) is
    ∙ ap flattened (keyed.set_same ns_cmp ns docs groups there) ∙ e

-- the versions under an id of a namespace changed
pub changed_there : (f : Line → Line) (ns : List ℕ) (id : Id) (docs new : Documents)
    (groups : Groups) (store : Versions) → flattened groups ≡ store → Rises ns_cmp groups
    → lookup (is_at (ns_cmp ns)) groups ≡ Some docs → new ≡ changed_at id_cmp f id docs → flattened
    (set_value (is_at (ns_cmp ns)) groups new) ≡ changed_at place_cmp f (ns, id) store
changed_there f ns id docs new groups store e r there is =
    ap flattened (keyed.set_to ns_cmp nat_list_cmp_total exact_bytes (changed_at id_cmp f id) ns
    docs new groups is r there)
    ∙ sym (nested.changed_flattened ns_cmp id_cmp nat_list_cmp_total exact_bytes f ns id groups)
    ∙ ap (changed_at place_cmp f (ns, id)) e

pub changed_nowhere : (f : Line → Line) (ns : List ℕ) (id : Id) (groups : Groups) (store : Versions)
    → flattened groups ≡ store → lookup (is_at (ns_cmp ns)) groups ≡ None
    → flattened groups ≡ changed_at place_cmp f (ns, id) store
changed_nowhere f ns id groups store e there =
    ap flattened (sym (keyed.changed_absent ns_cmp (changed_at id_cmp f id) ns groups there))
    ∙ sym (nested.changed_flattened ns_cmp id_cmp nat_list_cmp_total exact_bytes f ns id groups)
    ∙ ap (changed_at place_cmp f (ns, id)) e

-- and taken out, where none is left
under_with : (ns : List ℕ) (row : Id × Line) (xs : Documents) (b : Bool)
    → cond b (((ns, row.0), row.1) ∷ under_first ns xs) (under_first ns xs)
    ≡ under_first ns (cond b (row ∷ xs) xs)
under_with ns row xs true = refl
under_with ns row xs false = refl

with_under : (ns : List ℕ) (docs : Documents)
    → with_versions (under_first ns docs) ≡ under_first ns (with_versions docs)
with_under ns [] = refl
with_under ns (row ∷ docs) =
    ap (λ (xs : Versions). cond (is_some (first row.1)) (((ns, row.0), row.1) ∷ xs) xs)
    (with_under ns docs) ∙ under_with ns row (with_versions docs) (is_some (first row.1))

with_flattened : (group : List ℕ × Documents) (groups : Groups) → with_versions (flattened (group
    ∷ groups)) ≡ under_first group.0 (with_versions group.1) ++ with_versions (flattened groups)
with_flattened group groups =
    filter-append (λ row. is_some (first row.1)) (under_first group.0 group.1) (flattened groups)
    ∙ ap (λ (xs : Versions). xs ++ with_versions (flattened groups))
    (with_under group.0 group.1)

abbrev Taken : (Line → Line) → Id → Documents → Documents
Taken f id docs = with_versions (changed_at id_cmp f id docs)

taken_case : (f : Line → Line) (ns : List ℕ) (id : Id) (group : List ℕ
    × Documents) (groups : Groups) (o : Ordering) → ns_cmp ns group.0 ≡ o → IsCollection group.1
    → flattened (changed_at ns_cmp (Taken f id) ns groups)
    ≡ with_versions (flattened (changed_at ns_cmp (changed_at id_cmp f id) ns groups))
    → flattened (changed_at ns_cmp (Taken f id) ns (group ∷ groups))
    ≡ with_versions (flattened (changed_at ns_cmp (changed_at id_cmp f id) ns (group ∷ groups)))
taken_case f ns id group groups Less is c h =
    ap flattened (keyed.left_alone ns_cmp (Taken f id) ns group groups Less is refl)
    ∙ ap (λ (xs : Versions). under_first group.0 group.1 ++ xs) h
    ∙ ap (λ (d : Documents). under_first group.0 d ++ with_versions (flattened (changed_at ns_cmp
    (changed_at id_cmp f id) ns groups))) (sym (kept_all group.1 c.histories))
    ∙ sym (with_flattened group (changed_at ns_cmp (changed_at id_cmp f id) ns groups))
    ∙ ap (λ (gs : Groups). with_versions (flattened gs))
    (sym (keyed.left_alone ns_cmp (changed_at id_cmp f id) ns group groups Less is refl))
taken_case f ns id group groups Equal is c h =
    ap flattened (keyed.changed_here ns_cmp (Taken f id) ns group groups is)
    ∙ ap (λ (xs : Versions). under_first group.0 (Taken f id group.1) ++ xs) h
    ∙ sym (with_flattened (group.0, changed_at id_cmp f id group.1)
    (changed_at ns_cmp (changed_at id_cmp f id) ns groups))
    ∙ ap (λ (gs : Groups). with_versions (flattened gs))
    (sym (keyed.changed_here ns_cmp (changed_at id_cmp f id) ns group groups is))
taken_case f ns id group groups Greater is c h =
    ap flattened (keyed.left_alone ns_cmp (Taken f id) ns group groups Greater is refl)
    ∙ ap (λ (xs : Versions). under_first group.0 group.1 ++ xs) h
    ∙ ap (λ (d : Documents). under_first group.0 d ++ with_versions (flattened (changed_at ns_cmp
    (changed_at id_cmp f id) ns groups))) (sym (kept_all group.1 c.histories))
    ∙ sym (with_flattened group (changed_at ns_cmp (changed_at id_cmp f id) ns groups))
    ∙ ap (λ (gs : Groups). with_versions (flattened gs))
    (sym (keyed.left_alone ns_cmp (changed_at id_cmp f id) ns group groups Greater is refl))

taken_flattened : (f : Line → Line) (ns : List ℕ) (id : Id) (groups : Groups)
    → Each IsCollection groups
    → flattened (changed_at ns_cmp (Taken f id) ns groups)
    ≡ with_versions (flattened (changed_at ns_cmp (changed_at id_cmp f id) ns groups))
taken_flattened f ns id [] h = refl
taken_flattened f ns id (group ∷ groups) h = taken_case f ns id group groups (ns_cmp ns group.0)
    refl h.0 (taken_flattened f ns id groups h.1)

pub taken_there : (f : Line → Line) (ns : List ℕ) (id : Id) (docs new : Documents) (groups : Groups)
    (store : Versions) → flattened groups ≡ store → Rises ns_cmp groups → Each IsCollection groups
    → lookup (is_at (ns_cmp ns)) groups ≡ Some docs → new ≡ Taken f id docs → flattened (set_value
    (is_at (ns_cmp ns)) groups new) ≡ with_versions (changed_at place_cmp f (ns, id) store)
taken_there f ns id docs new groups store e r h there is =
    ap flattened (keyed.set_to ns_cmp nat_list_cmp_total exact_bytes (Taken f id) ns docs new
    groups is r there)
    ∙ taken_flattened f ns id groups h
    ∙ ap with_versions
    (sym (nested.changed_flattened ns_cmp id_cmp nat_list_cmp_total exact_bytes f ns id groups))
    ∙ ap (λ (s : Versions). with_versions (changed_at place_cmp f (ns, id) s)) e

pub taken_nowhere : (f : Line → Line) (ns : List ℕ) (id : Id) (groups : Groups) (store : Versions)
    → flattened groups ≡ store → Each IsCollection groups → lookup (is_at (ns_cmp ns)) groups ≡ None
    → flattened groups ≡ with_versions (changed_at place_cmp f (ns, id) store)
taken_nowhere f ns id groups store e h there =
    sym (kept_all (flattened groups) (histories_flattened groups h))
    ∙ ap with_versions (changed_nowhere f ns id groups store e there)

-- the keys that a scan touches
abbrev Touches : List ℕ → Touched → Place × Line → Bool
Touches ns ids key = bytes_eq ns key.0.0 && touches ids key.0.1

under_touched : (ns other : List ℕ) (ids : Touched) (docs : Documents) → bytes_eq ns other ≡ true
    → filter (Touches ns ids) (under_first other docs) ≡ under_first other (touched_of ids docs)
under_touched ns other ids [] is = refl
under_touched ns other ids (row ∷ docs) is =
    ap (λ (b : Bool). cond (b && touches ids row.0) (((other, row.0), row.1) ∷ filter (Touches ns
    ids) (under_first other docs)) (filter (Touches ns ids) (under_first other docs))) is
    ∙ ap (λ (xs : Versions). cond (touches ids row.0) (((other, row.0), row.1) ∷ xs) xs)
    (under_touched ns other ids docs is)
    ∙ under_with other row (touched_of ids docs) (touches ids row.0)

untouched : (ns other : List ℕ) (ids : Touched) (docs : Documents) → bytes_eq ns other ≡ false
    → filter (Touches ns ids) (under_first other docs) ≡ []
untouched ns other ids [] is = refl
untouched ns other ids (row ∷ docs) is =
    ap (λ (b : Bool). cond (b && touches ids row.0) (((other, row.0), row.1) ∷ filter (Touches ns
    ids) (under_first other docs)) (filter (Touches ns ids) (under_first other docs))) is
    ∙ untouched ns other ids docs is

named_apart : (ns other : List ℕ) (o : Ordering) → ns_cmp ns other ≡ o → is_eq o ≡ false
    → bytes_eq ns other ≡ false
named_apart ns other o is h = sym (is_eq-slice_cmp ns other) ∙ ap is_eq is ∙ h

skipped : (ns : List ℕ) (ids : Touched) (group : List ℕ
    × Documents) (groups : Groups) (o : Ordering) → ns_cmp ns group.0 ≡ o → is_eq o ≡ false
    → touched_keys (flattened (group ∷ groups)) ns ids ≡ touched_keys (flattened groups) ns ids
skipped ns ids group groups o is h =
    filter-append (Touches ns ids) (under_first group.0 group.1) (flattened groups)
    ∙ ap (λ (xs : Versions). xs ++ touched_keys (flattened groups) ns ids)
    (untouched ns group.0 ids group.1 (named_apart ns group.0 o is h))

none_touched : (ns : List ℕ) (ids : Touched) (groups : Groups) → AllAbove ns_cmp ns groups
    → touched_keys (flattened groups) ns ids ≡ []
none_touched ns ids [] h = refl
none_touched ns ids (group ∷ groups) h = skipped ns ids group groups Less h.0 refl
    ∙ none_touched ns ids groups h.1

touched_case : (ns : List ℕ) (ids : Touched) (group : List ℕ × Documents) (groups : Groups)
    (o : Ordering) → ns_cmp ns group.0 ≡ o → Rises ns_cmp (group ∷ groups)
    → touched_keys (flattened groups) ns ids ≡ under_first ns (touched_of ids (group_of ns groups))
    → touched_keys (flattened (group ∷ groups)) ns ids
    ≡ under_first ns (touched_of ids (group_of ns (group ∷ groups)))
touched_case ns ids group groups Less is r h =
    skipped ns ids group groups Less is refl ∙ h ∙ ap (λ (o : Option Documents). under_first ns
    (touched_of ids (unwrap_or o []))) (sym (keyed.passed ns_cmp ns group groups Less is refl))
touched_case ns ids group groups Equal is r h =
    let same : bytes_eq ns group.0 ≡ true = sym (is_eq-slice_cmp ns group.0) ∙ ap is_eq is in
    filter-append (Touches ns ids) (under_first group.0 group.1) (flattened groups)
    ∙ ap (λ (xs : Versions). xs ++ touched_keys (flattened groups) ns ids)
    (under_touched ns group.0 ids group.1 same)
    ∙ ap (λ (xs : Versions). under_first group.0 (touched_of ids group.1) ++ xs) (none_touched ns
    ids groups (keyed.same_above ns_cmp nat_list_cmp_total exact_bytes ns group groups is r))
    ∙ append-nil (under_first group.0 (touched_of ids group.1))
    ∙ ap (λ (n : List ℕ). under_first n (touched_of ids group.1)) (sym (exact_bytes ns group.0 is))
    ∙ ap (λ (o : Option Documents). under_first ns (touched_of ids (unwrap_or o [])))
    (sym (keyed.found_here ns_cmp ns group groups is))
touched_case ns ids group groups Greater is r h =
    skipped ns ids group groups Greater is refl ∙ h
    ∙ ap (λ (o : Option Documents). under_first ns (touched_of ids (unwrap_or o [])))
    (sym (keyed.passed ns_cmp ns group groups Greater is refl))

touched_nested : (ns : List ℕ) (ids : Touched) (groups : Groups) → Rises ns_cmp groups
    → touched_keys (flattened groups) ns ids ≡ under_first ns (touched_of ids (group_of ns groups))
touched_nested ns ids [] r = refl
touched_nested ns ids (group ∷ groups) r =
    touched_case ns ids group groups (ns_cmp ns group.0) refl r (touched_nested ns ids groups r.1)

held_under : (at : ℕ) (tag : Tag) (ns : List ℕ) (docs : Documents)
    → held_among at tag (under_first ns docs) ≡ held_of at tag docs
held_under at tag ns [] = refl
held_under at tag ns (row ∷ docs) =
    ap (cons_option (option_map (λ h. let held : Held =
    record { id = row.0; tag = h.0; ts = h.1 } in held) (holder at tag row.1)))
    (held_under at tag ns docs)

rows_under : (at : ℕ) (tag : Tag) (ns : List ℕ) (docs : Documents)
    → rows_among at tag (under_first ns docs) ≡ rows_of at tag docs
rows_under at tag ns [] = refl
rows_under at tag ns (row ∷ docs) = ap (cons_option
    (option_map (λ doc. (row.0, doc)) (seen at tag row.1))) (rows_under at tag ns docs)

look_under : (at : ℕ) (tag : Tag) (ns : List ℕ) (docs : Documents) (keys : Versions)
    → keys ≡ under_first ns docs
    → unless (first (held_among at tag keys)) (rows_among at tag keys) ≡ look at tag docs
look_under at tag ns docs keys is =
    ap (λ (ks : Versions). unless (first (held_among at tag ks)) (rows_among at tag ks)) is
    ∙ ap (λ (hs : List Held). unless (first hs) (rows_among at tag (under_first ns docs)))
    (held_under at tag ns docs)
    ∙ ap (λ (rs : List Row). unless (first (held_of at tag docs)) rs) (rows_under at tag ns docs)

-- a scan looks at the documents of its namespace
pub scan_nested : (ns : List ℕ) (ids : Touched) (at : ℕ) (tag : Tag) (docs : Documents)
    (groups : Groups) (store : Versions) → flattened groups ≡ store → Rises ns_cmp groups
    → group_of ns groups ≡ docs
    → scan store ns ids at tag ≡ look at tag (touched_of ids docs)
scan_nested ns ids at tag docs groups store e r is =
    look_under at tag ns (touched_of ids docs) (touched_keys store ns ids)
    (ap (λ (s : Versions). touched_keys s ns ids) (sym e) ∙ touched_nested ns ids groups r
    ∙ ap (λ (d : Documents). under_first ns (touched_of ids d)) is)
