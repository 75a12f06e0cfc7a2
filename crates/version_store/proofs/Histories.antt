-- The versions under each key: what a write, a stamp and an end leave of them; and keys that lose
-- their last version.
use Rattle.std.proofs.Common.{◌≡◌, Bool, true, false, cond, List, [], ◌∷◌, Option, Some, None}
use Rattle.std.proofs.Common.{is_some, not, map, filter, option_and_then, refl, ap, sym, subst, ◌∙◌}
use Rattle.std.specs.Map.{lookup, set_value, remove_entry}
use Rattle.std.specs.BTreeMap.{is_at}
use Rattle.std.specs.List.{filter_map, cons_option}
use Rattle.std.specs.Cmp.{IsTotalOrder}
use Rattle.std.specs.Ordering.{is_eq}
use Rattle.std.specs.declared.cmp.Ordering.{Ordering}
use Rattle.std.specs.declared.cmp.Ordering.TheVariants.{Less, Equal, Greater}
use Rattle.std.proofs.lemmas.Map.Lookups.{CmpEqualImpliesEq}
use Rattle.txn_types.specs.declared.names.Tag.{Tag}
use Rattle.txn_types.specs.Order.{same_tag}
use Rattle.txn_semantics.specs.Keyed.{put, AllAbove, Rises}
use Rattle.version_store.specs.declared.version.Stamp.{Stamp}
use Rattle.version_store.specs.declared.version.Version.{Version}
use Rattle.version_store.specs.Versions.{first, is_some_and, writer_of, is_of, other_writer_of}
use Rattle.version_store.specs.Versions.{without, restamped}
use Rattle.version_store.specs.Chains.{AreCommitted, IsChain, IsHistory, Each, changed_at}
use Rattle.version_store.specs.Chains.{changed_under, with_versions}
use Rattle.version_store.specs.TakenBack.{put_back}
use Rattle.version_store.proofs.Chained.{lost_version, kept_version, without_committed}
use Rattle.version_store.proofs.Chained.{restamped_committed, chain_behind}
use Rattle.version_store.proofs.Keyed as keyed

abbrev pub Line : Type 0
Line = List Version

-- what becomes of the versions of one document
pub stamped_history : (tag : Tag) (stamp : Stamp) (line : Line) → IsHistory line
    → IsHistory (map (restamped tag stamp) line)
stamped_history tag stamp [] h = h
stamped_history tag stamp (version ∷ line) h =
    (refl, subst AreCommitted (sym (restamped_committed tag stamp line h.1)) h.1)

put_back_case : (tag : Tag) (version older : Version) (line : Line) (b : Bool)
    → is_of tag older ≡ b → IsHistory (older ∷ line)
    → IsHistory (cond b (version ∷ without tag (older ∷ line)) (older ∷ line))
put_back_case tag version older line true is h = (
  refl,
  subst AreCommitted (sym (lost_version tag older line is ∙ without_committed tag line h.1)) h.1,
)
put_back_case tag version older line false is h = h

pub put_back_history : (tag : Tag) (version : Version) (line : Line) → IsHistory line
    → IsHistory (put_back tag version line)
put_back_history tag version [] h = h
put_back_history tag version (older ∷ line) h =
    put_back_case tag version older line (is_of tag older) refl h

chain_case : (tag : Tag) (version : Version) (line : Line) (b : Bool) → is_of tag version ≡ b
    → AreCommitted line → IsChain (without tag (version ∷ line))
chain_case tag version line true is h = subst IsChain
    (sym (lost_version tag version line is ∙ without_committed tag line h)) (chain_behind line h)
chain_case tag version line false is h = subst IsChain (sym (kept_version tag version line is))
    (subst AreCommitted (sym (without_committed tag line h)) h)

pub chain_without : (tag : Tag) (line : Line) → IsChain line → IsChain (without tag line)
chain_without tag [] h = tt
chain_without tag (version ∷ line) h = chain_case tag version line (is_of tag version) refl h

no_writer : (tag : Tag) (o : Option Tag) (rest : List Tag)
    → is_some_and (λ writer. same_tag writer tag) o ≡ false
    → first (cons_option (option_and_then (λ writer. cond (same_tag writer tag) None (Some writer))
    o) rest) ≡ None → o ≡ None
no_writer tag None rest h free = refl
no_writer tag (Some writer) rest h free =
    sym (ap (λ (b : Bool). first (cons_option (cond b None (Some writer)) rest)) h) ∙ free

free_case : (tag : Tag) (version : Version) (line : Line) (b : Bool) → is_of tag version ≡ b
    → first (filter_map (other_writer_of tag) (version ∷ line)) ≡ None → AreCommitted line
    → AreCommitted (without tag (version ∷ line))
free_case tag version line true is free h =
    subst AreCommitted (sym (lost_version tag version line is ∙ without_committed tag line h)) h
free_case tag version line false is free h =
    subst AreCommitted (sym (kept_version tag version line is)) (
      no_writer tag (writer_of version.stamp) (filter_map (other_writer_of tag) line) is free,
      subst AreCommitted (sym (without_committed tag line h)) h,
    )

pub free_rest : (tag : Tag) (line : Line) → first (filter_map (other_writer_of tag) line) ≡ None
    → IsChain line → AreCommitted (without tag line)
free_rest tag [] free h = tt
free_rest tag (version ∷ line) free h = free_case tag version line (is_of tag version) refl free h

pub put_history : (tag : Tag) (version : Version) (line : Line)
    → first (filter_map (other_writer_of tag) line) ≡ None → IsChain line
    → IsHistory (version ∷ without tag line)
put_history tag version line free h = (refl, free_rest tag line free h)

-- what stands under each key
module _ {K V : Type 0} (cmp : K → K → Ordering) where
  put_case : (P : V → Type 0) (key : K) (v : V) (row : K × V) (rows : List (K × V)) (o : Ordering)
      → P v → Each P (row ∷ rows) → Each P (put cmp key v rows)
      → Each P (elim o [
        | Less ↦ (key, v) ∷ row ∷ rows
        | Equal ↦ (key, v) ∷ rows
        | Greater ↦ row ∷ put cmp key v rows
      ])
  put_case P key v row rows Less new h more = (new, h)
  put_case P key v row rows Equal new h more = (new, h.1)
  put_case P key v row rows Greater new h more = (h.0, more)

  pub each_put : (P : V → Type 0) (key : K) (v : V) (rows : List (K × V)) → P v → Each P rows
      → Each P (put cmp key v rows)
  each_put P key v [] new h = (new, tt)
  each_put P key v (row ∷ rows) new h =
      put_case P key v row rows (cmp key row.0) new h (each_put P key v rows new h.1)

  set_case : (P : V → Type 0) (new : V) (row : K × V) (rows rest : List (K × V)) (b : Bool) → P new
      → Each P (row ∷ rows) → Each P rest → Each P (cond b ((row.0, new) ∷ rows) (row ∷ rest))
  set_case P new row rows rest true n h more = (n, h.1)
  set_case P new row rows rest false n h more = (h.0, more)

  pub each_set : (P : V → Type 0) (key : K) (new : V) (rows : List (K × V)) → P new → Each P rows
      → Each P (set_value (is_at (cmp key)) rows new)
  each_set P key new [] n h = tt
  each_set P key new (row ∷ rows) n h =
      set_case P new row rows _ (is_at (cmp key) row.0) n h (each_set P key new rows n h.1)

  found_case : (P : V → Type 0) (w : V) (row : K × V) (rest : Option V) (b : Bool)
      → cond b (Some row.1) rest ≡ Some w → P row.1 → (rest ≡ Some w → P w) → P w
  found_case P w row rest true there h more = let same : row.1 ≡ w = cc in subst P same h
  found_case P w row rest false there h more = more there

  pub each_found : (P : V → Type 0) (key : K) (w : V) (rows : List (K × V))
      → lookup (is_at (cmp key)) rows ≡ Some w → Each P rows → P w
  each_found P key w [] there h = cc
  each_found P key w (row ∷ rows) there h = found_case P w row (lookup (is_at (cmp key)) rows)
      (is_at (cmp key) row.0) there h.0 (λ more. each_found P key w rows more h.1)

  change_case : (P Q : V → Type 0) (f : V → V) (row : K × V) (b : Bool) → ((v : V) → P v → Q (f v))
      → ((v : V) → P v → Q v) → P row.1 → Q (cond b (row.0, f row.1) row).1
  change_case P Q f row true changes stays h = changes row.1 h
  change_case P Q f row false changes stays h = stays row.1 h

  pub each_changed : (P Q : V → Type 0) (f : V → V) (key : K) (rows : List (K × V)) → ((v : V) → P v
      → Q (f v)) → ((v : V) → P v → Q v) → Each P rows → Each Q (changed_at cmp f key rows)
  each_changed P Q f key [] changes stays h = tt
  each_changed P Q f key (row ∷ rows) changes stays h = (
    change_case P Q f row (is_eq (cmp key row.0)) changes stays h.0,
    each_changed P Q f key rows changes stays h.1,
  )

  -- the keys that stay rise
  same_key : (f : V → V) (row : K × V) (b : Bool) → row.0 ≡ (cond b (row.0, f row.1) row).0
  same_key f row true = refl
  same_key f row false = refl

  above_changed : (f : V → V) (low key : K) (rows : List (K × V)) → AllAbove cmp low rows
      → AllAbove cmp low (changed_at cmp f key rows)
  above_changed f low key [] h = tt
  above_changed f low key (row ∷ rows) h = (
    subst (λ (k : K). cmp low k ≡ Less) (same_key f row (is_eq (cmp key row.0))) h.0,
    above_changed f low key rows h.1,
  )

  pub rises_changed : (f : V → V) (key : K) (rows : List (K × V)) → Rises cmp rows
      → Rises cmp (changed_at cmp f key rows)
  rises_changed f key [] h = tt
  rises_changed f key (row ∷ rows) h = (
    subst (λ (k : K). AllAbove cmp k (changed_at cmp f key rows))
        (same_key f row (is_eq (cmp key row.0))) (above_changed f row.0 key rows h.0),
    rises_changed f key rows h.1,
  )

  above_filter_case : (low : K) (row : K × V) (xs : List (K × V)) (b : Bool) → cmp low row.0 ≡ Less
      → AllAbove cmp low xs → AllAbove cmp low (cond b (row ∷ xs) xs)
  above_filter_case low row xs true h more = (h, more)
  above_filter_case low row xs false h more = more

  above_filter : (p : K × V → Bool) (low : K) (rows : List (K × V)) → AllAbove cmp low rows
      → AllAbove cmp low (filter p rows)
  above_filter p low [] h = tt
  above_filter p low (row ∷ rows) h =
      above_filter_case low row (filter p rows) (p row) h.0 (above_filter p low rows h.1)

  rises_filter_case : (row : K × V) (xs : List (K × V)) (b : Bool) → AllAbove cmp row.0 xs
      → Rises cmp xs → Rises cmp (cond b (row ∷ xs) xs)
  rises_filter_case row xs true above more = (above, more)
  rises_filter_case row xs false above more = more

  pub rises_filter : (p : K × V → Bool) (rows : List (K × V)) → Rises cmp rows
      → Rises cmp (filter p rows)
  rises_filter p [] h = tt
  rises_filter p (row ∷ rows) h = rises_filter_case row (filter p rows) (p row) (above_filter p
      row.0 rows h.0) (rises_filter p rows h.1)

empty_left : (f : Line → Line) (line : Line) → f [] ≡ [] → is_some (first line) ≡ false
    → is_some (first (f line)) ≡ false
empty_left f [] e h = ap (λ (l : Line). is_some (first l)) e
empty_left f (version ∷ line) e h = cc

-- where each key has a version, all stay
module _ {K : Type 0} where
  lost : (row : K × Line) (rows : List (K × Line)) → is_some (first row.1) ≡ false
      → with_versions (row ∷ rows) ≡ with_versions rows
  lost row rows h = ap (λ (b : Bool). cond b (row ∷ with_versions rows) (with_versions rows)) h

  stays : (row : K × Line) (rows : List (K × Line)) → is_some (first row.1) ≡ true
      → with_versions (row ∷ rows) ≡ row ∷ with_versions rows
  stays row rows h = ap (λ (b : Bool). cond b (row ∷ with_versions rows) (with_versions rows)) h

  pub kept_all : (rows : List (K × Line)) → Each IsHistory rows → with_versions rows ≡ rows
  kept_all [] h = refl
  kept_all (row ∷ rows) h = stays row rows h.0.0
      ∙ ap (λ (xs : List (K × Line)). row ∷ xs) (kept_all rows h.1)

  left_case : (row : K × Line) (xs : List (K × Line)) (b : Bool) → is_some (first row.1) ≡ b
      → IsChain row.1 → Each IsHistory xs → Each IsHistory (cond b (row ∷ xs) xs)
  left_case row xs true is h more = ((is, h), more)
  left_case row xs false is h more = more

  pub left_histories : (rows : List (K × Line)) → Each IsChain rows
      → Each IsHistory (with_versions rows)
  left_histories [] h = tt
  left_histories (row ∷ rows) h =
      left_case row (with_versions rows) (is_some (first row.1)) refl h.0 (left_histories rows h.1)

  has_case : (row : K × Line) (xs : List (K × Line)) (b : Bool) → is_some (first row.1) ≡ b
      → with_versions xs ≡ xs → with_versions (cond b (row ∷ xs) xs) ≡ cond b (row ∷ xs) xs
  has_case row xs true is h = stays row xs is ∙ ap (λ (ys : List (K × Line)). row ∷ ys) h
  has_case row xs false is h = h

  pub kept_twice : (rows : List (K × Line))
      → with_versions (with_versions rows) ≡ with_versions rows
  kept_twice [] = refl
  kept_twice (row ∷ rows) =
      has_case row (with_versions rows) (is_some (first row.1)) refl (kept_twice rows)

module _ {K : Type 0} (cmp : K → K → Ordering) (total : IsTotalOrder cmp)
    (exact : CmpEqualImpliesEq cmp) where
  -- a key that lost its last version is taken out
  emptied_case : (f : Line → Line) (key : K) (row : K × Line) (rows : List (K × Line))
      (o : Ordering) → cmp key row.0 ≡ o → Rises cmp (row ∷ rows) → Each IsHistory (row ∷ rows)
      → cond (is_eq o) (Some (f row.1)) (lookup (is_at (cmp key)) (changed_at cmp f key rows))
      ≡ Some []
      → (lookup (is_at (cmp key)) (changed_at cmp f key rows) ≡ Some [] → remove_entry
      (is_at (cmp key)) (changed_at cmp f key rows) ≡ with_versions (changed_at cmp f key rows))
      → cond (is_eq o) (changed_at cmp f key rows) (cond (is_eq o) (row.0, f row.1) row
      ∷ remove_entry (is_at (cmp key)) (changed_at cmp f key rows))
      ≡ with_versions (cond (is_eq o) (row.0, f row.1) row ∷ changed_at cmp f key rows)
  emptied_case f key row rows Less is r h there rest = ap (λ (xs : List (K × Line)). row
      ∷ xs) (rest there) ∙ sym (stays row (changed_at cmp f key rows) h.0.0)
  emptied_case f key row rows Equal is r h there rest =
      let none : f row.1 ≡ [] = cc in
      let same : changed_at cmp f key rows ≡ rows =
      keyed.changed_above cmp f key rows (keyed.same_above cmp total exact key row rows is r) in
      same ∙ sym (kept_all rows h.1) ∙ ap with_versions (sym same) ∙ sym (lost (row.0, f row.1)
      (changed_at cmp f key rows) (ap (λ (l : Line). is_some (first l)) none))
  emptied_case f key row rows Greater is r h there rest = ap (λ (xs : List (K × Line)). row
      ∷ xs) (rest there) ∙ sym (stays row (changed_at cmp f key rows) h.0.0)

  -- one case of where the key stands, at both lists
  test_at : (f : Line → Line) (key : K) (row : K × Line) (rows : List (K × Line)) (o : Ordering)
      → cmp key row.0 ≡ o
      → (cond (is_eq o) (changed_at cmp f key rows) (cond (is_eq o) (row.0, f row.1) row
      ∷ remove_entry (is_at (cmp key)) (changed_at cmp f key rows))
      ≡ with_versions (cond (is_eq o) (row.0, f row.1) row ∷ changed_at cmp f key rows))
      → remove_entry (is_at (cmp key)) (changed_at cmp f key (row ∷ rows))
      ≡ with_versions (changed_at cmp f key (row ∷ rows))
  test_at f key row rows Less is h = rw is (rw is h)
  test_at f key row rows Equal is h = rw is (rw is h)
  test_at f key row rows Greater is h = rw is (rw is h)

  found_at : (f : Line → Line) (key : K) (row : K × Line) (rows : List (K × Line)) (o : Ordering)
      → cmp key row.0 ≡ o
      → lookup (is_at (cmp key)) (changed_at cmp f key (row ∷ rows)) ≡ Some [] → cond (is_eq o)
      (Some (f row.1)) (lookup (is_at (cmp key)) (changed_at cmp f key rows)) ≡ Some []
  found_at f key row rows Less is h =
      sym (ap (lookup (is_at (cmp key))) (keyed.left_alone cmp f key row rows Less is refl)
      ∙ ap (λ (p : Ordering). cond (is_eq p) (Some row.1)
      (lookup (is_at (cmp key)) (changed_at cmp f key rows))) is) ∙ h
  found_at f key row rows Equal is h =
      sym (ap (lookup (is_at (cmp key))) (keyed.changed_here cmp f key row rows is)
      ∙ ap (λ (p : Ordering). cond (is_eq p) (Some (f row.1))
      (lookup (is_at (cmp key)) (changed_at cmp f key rows))) is) ∙ h
  found_at f key row rows Greater is h =
      sym (ap (lookup (is_at (cmp key))) (keyed.left_alone cmp f key row rows Greater is refl)
      ∙ ap (λ (p : Ordering). cond (is_eq p) (Some row.1)
      (lookup (is_at (cmp key)) (changed_at cmp f key rows))) is) ∙ h

  removed_case : (f : Line → Line) (key : K) (row : K × Line) (rows : List (K × Line))
      (o : Ordering) → cmp key row.0 ≡ o → Rises cmp (row ∷ rows) → Each IsHistory (row ∷ rows)
      → lookup (is_at (cmp key)) (changed_at cmp f key (row ∷ rows)) ≡ Some []
      → (lookup (is_at (cmp key)) (changed_at cmp f key rows) ≡ Some [] → remove_entry
      (is_at (cmp key)) (changed_at cmp f key rows) ≡ with_versions (changed_at cmp f key rows))
      → remove_entry (is_at (cmp key)) (changed_at cmp f key (row ∷ rows))
      ≡ with_versions (changed_at cmp f key (row ∷ rows))
  removed_case f key row rows o is r h there rest = test_at f key row rows o is (emptied_case f key
      row rows o is r h (found_at f key row rows o is there) rest)

  pub removed : (f : Line → Line) (key : K) (rows : List (K × Line)) → Rises cmp rows
      → Each IsHistory rows → lookup (is_at (cmp key)) (changed_at cmp f key rows) ≡ Some []
      → remove_entry (is_at (cmp key)) (changed_at cmp f key rows)
      ≡ with_versions (changed_at cmp f key rows)
  removed f key [] r h there = cc
  removed f key (row ∷ rows) r h there =
      removed_case f key row rows (cmp key row.0) refl r h there (removed f key rows r.1 h.1)

  -- what has no version is taken out now or later
  none_left : (f : Line → Line) (row : K × Line) (b : Bool) → f [] ≡ []
      → is_some (first row.1) ≡ false → is_some (first (cond b (row.0, f row.1) row).1) ≡ false
  none_left f row true e h = empty_left f row.1 e h
  none_left f row false e h = h

  once_by : (f : Line → Line) (key : K) → f [] ≡ []
      → (row : K × Line) (rows : List (K × Line)) (b : Bool) → is_some (first row.1) ≡ b
      → with_versions (changed_at cmp f key (with_versions rows))
      ≡ with_versions (changed_at cmp f key rows)
      → with_versions (changed_at cmp f key (cond b (row ∷ with_versions rows)
      (with_versions rows))) ≡ with_versions (changed_at cmp f key (row ∷ rows))
  once_by f key e row rows true is h =
      ap (λ (xs : List (K × Line)). cond (is_some (first (cond (is_eq (cmp key row.0))
      (row.0, f row.1) row).1)) (cond (is_eq (cmp key row.0)) (row.0, f row.1) row ∷ xs) xs) h
  once_by f key e row rows false is h = h ∙ sym (lost (cond (is_eq (cmp key row.0)) (row.0, f row.1)
      row) (changed_at cmp f key rows) (none_left f row (is_eq (cmp key row.0)) e is))

  once : (f : Line → Line) (key : K) → f [] ≡ [] → (rows : List (K × Line)) → with_versions
      (changed_at cmp f key (with_versions rows)) ≡ with_versions (changed_at cmp f key rows)
  once f key e [] = refl
  once f key e (row ∷ rows) =
      once_by f key e row rows (is_some (first row.1)) refl (once f key e rows)

  pub kept_under : (f : Line → Line) → f [] ≡ [] → (keys : List K) (rows : List (K × Line))
      → with_versions (changed_under cmp f keys (with_versions rows))
      ≡ with_versions (changed_under cmp f keys rows)
  kept_under f e [] rows = kept_twice rows
  kept_under f e (key ∷ keys) rows =
      sym (kept_under f e keys (changed_at cmp f key (with_versions rows)))
      ∙ ap (λ (xs : List (K × Line)). with_versions (changed_under cmp f keys xs))
      (once f key e rows)
      ∙ kept_under f e keys (changed_at cmp f key rows)

pub is_none_left : (line : Line) → not (is_some (first line)) ≡ true → line ≡ []
is_none_left [] h = refl
is_none_left (version ∷ line) h = cc

pub has_some : (line : Line) → not (is_some (first line)) ≡ false → is_some (first line) ≡ true
has_some [] h = cc
has_some (version ∷ line) h = refl
