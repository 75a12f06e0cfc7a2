-- A write that is put and taken back leaves the store as it was.
use Rattle.std.proofs.Common.{◌≡◌, ℕ, length, take, Bool, true, false, cond, List, [], ◌∷◌, ◌++◌}
use Rattle.std.proofs.Common.{Option, Some, None, is_some, unwrap_or, option_map, option_and_then}
use Rattle.std.proofs.Common.{find, refl, ap, sym, subst, ◌∙◌}
use Rattle.std.proofs.Math.Seq.{take-append_seam}
use Rattle.std.specs.List.{filter_map, cons_option}
use Rattle.std.specs.Map.{lookup}
use Rattle.std.specs.BTreeMap.{is_at}
use Rattle.std.specs.Cmp.{IsTotalOrder}
use Rattle.std.specs.Option.{option_or}
use Rattle.std.specs.Ordering.{is_eq}
use Rattle.std.specs.declared.cmp.Ordering.{Ordering}
use Rattle.std.specs.declared.cmp.Ordering.TheVariants.{Less, Equal, Greater}
use Rattle.std.proofs.lemmas.Map.Lookups.{CmpEqualImpliesEq}
use Rattle.txn_types.specs.Order.{same_tag, tag_cmp}
use Rattle.txn_types.specs.declared.cause.By.{By}
use Rattle.txn_types.specs.declared.cause.By.TheVariants as reason
use Rattle.txn_types.specs.declared.id.Id.{Id}
use Rattle.txn_types.specs.declared.names.Tag.{Tag}
use Rattle.txn_types.specs.declared.write.Write.{Write}
use Rattle.txn_types.specs.Writes as txn
use Rattle.txn_types.specs.Writes.{AllHaveOwnIds}
use Rattle.txn_types.proofs.Orders.{tag_total, tag_exact}
use Rattle.txn_semantics.specs.Keyed.{put, Rises}
use Rattle.txn_semantics.specs.Writes.{Place, place_of, place_cmp}
use Rattle.txn_semantics.proofs.Laying as laying
use Rattle.txn_semantics.proofs.Places.{place_total, place_exact}
use Rattle.version_store.specs.declared.laid.Laid.{Laid}
use Rattle.version_store.specs.declared.version.Stamp.TheVariants.{Unfinished}
use Rattle.version_store.specs.declared.version.Version.{Version}
use Rattle.version_store.specs.Versions.{Versions, first, is_of, other_writer_of, versions_of}
use Rattle.version_store.specs.Versions.{without, with_write, with_writes, content_of, conflict}
use Rattle.version_store.specs.Versions.{against, commit_above, newest_of}
use Rattle.version_store.specs.Chains.{AreCommitted, IsChain, IsHistory, IsKept, changed_at}
use Rattle.version_store.specs.Chains.{with_versions}
use Rattle.version_store.specs.Ids.{HoldsId}
use Rattle.version_store.specs.TakenBack.{AreFree, HadIds, laid_by, put_back, taken_back_at}
use Rattle.version_store.specs.TakenBack.{taken_back, all_taken_back}
use Rattle.version_store.proofs.Chained.{lost_version, kept_version, without_committed, not_own}
use Rattle.version_store.proofs.Histories.{Line, each_found, each_put, put_history, kept_all}
use Rattle.version_store.proofs.Histories.{free_rest}
use Rattle.version_store.proofs.Ids.{id_found, ids_found, ids_with}
use Rattle.version_store.proofs.Keyed as keyed

-- a change of what was put
module _ {K V : Type 0} (cmp : K → K → Ordering) (total : IsTotalOrder cmp)
    (exact : CmpEqualImpliesEq cmp) where
  changed_put_case : (f : V → V) (key : K) (v : V) (row : K
      × V) (rows : List (K × V)) (o : Ordering) → cmp key row.0 ≡ o → Rises cmp (row ∷ rows)
      → changed_at cmp f key (put cmp key v rows) ≡ put cmp key (f v) rows
      → changed_at cmp f key (put cmp key v (row ∷ rows)) ≡ put cmp key (f v) (row ∷ rows)
  changed_put_case f key v row rows Less is r h =
      ap (changed_at cmp f key) (keyed.put_before cmp key v row rows is)
      ∙ keyed.changed_here cmp f key (key, v) (row ∷ rows) (laying.cmp_self cmp total exact key)
      ∙ ap (λ (xs : List (K × V)). (key, f v) ∷ xs) (keyed.changed_above cmp f key (row ∷ rows)
      (is, laying.above_trans cmp total exact key row.0 rows is r.0))
      ∙ sym (keyed.put_before cmp key (f v) row rows is)
  changed_put_case f key v row rows Equal is r h =
      ap (changed_at cmp f key) (keyed.put_here cmp key v row rows is)
      ∙ keyed.changed_here cmp f key (key, v) rows (laying.cmp_self cmp total exact key)
      ∙ ap (λ (xs : List (K × V)). (key, f v) ∷ xs)
      (keyed.changed_above cmp f key rows (keyed.same_above cmp total exact key row rows is r))
      ∙ sym (keyed.put_here cmp key (f v) row rows is)
  changed_put_case f key v row rows Greater is r h =
      ap (changed_at cmp f key) (keyed.put_behind cmp key v row rows is)
      ∙ keyed.left_alone cmp f key row (put cmp key v rows) Greater is refl
      ∙ ap (λ (xs : List (K × V)). row ∷ xs) h
      ∙ sym (keyed.put_behind cmp key (f v) row rows is)

  pub changed_put : (f : V → V) (key : K) (v : V) (rows : List (K × V)) → Rises cmp rows
      → changed_at cmp f key (put cmp key v rows) ≡ put cmp key (f v) rows
  changed_put f key v [] r =
      keyed.changed_here cmp f key (key, v) [] (laying.cmp_self cmp total exact key)
  changed_put f key v (row ∷ rows) r =
      changed_put_case f key v row rows (cmp key row.0) refl r (changed_put f key v rows r.1)

  pub put_same : (key : K) (v : V) (rows : List (K × V)) → Rises cmp rows
      → lookup (is_at (cmp key)) rows ≡ Some v → put cmp key v rows ≡ rows
  put_same key v rows r there = sym (keyed.written cmp total exact key v v rows r there)
      ∙ keyed.set_same cmp key v rows there

  -- what is found after it
  found_put_case : (key : K) (v : V) (row : K × V) (rows : List (K × V)) (o : Ordering)
      → cmp key row.0 ≡ o → lookup (is_at (cmp key)) (put cmp key v rows) ≡ Some v
      → lookup (is_at (cmp key)) (put cmp key v (row ∷ rows)) ≡ Some v
  found_put_case key v row rows Less is h =
      ap (lookup (is_at (cmp key))) (keyed.put_before cmp key v row rows is)
      ∙ keyed.found_here cmp key (key, v) (row ∷ rows) (laying.cmp_self cmp total exact key)
  found_put_case key v row rows Equal is h = ap (lookup (is_at (cmp key))) (keyed.put_here cmp key v
      row rows is) ∙ keyed.found_here cmp key (key, v) rows (laying.cmp_self cmp total exact key)
  found_put_case key v row rows Greater is h = ap (lookup (is_at (cmp key))) (keyed.put_behind cmp
      key v row rows is) ∙ keyed.passed cmp key row (put cmp key v rows) Greater is refl ∙ h

  pub found_put : (key : K) (v : V) (rows : List (K × V))
      → lookup (is_at (cmp key)) (put cmp key v rows) ≡ Some v
  found_put key v [] = keyed.found_here cmp key (key, v) [] (laying.cmp_self cmp total exact key)
  found_put key v (row ∷ rows) =
      found_put_case key v row rows (cmp key row.0) refl (found_put key v rows)

  skip : (other : K) (row : K × V) (rows : List (K × V)) → is_eq (cmp other row.0) ≡ false
      → lookup (is_at (cmp other)) (row ∷ rows) ≡ lookup (is_at (cmp other)) rows
  skip other row rows h = ap (λ (b : Bool). cond b (Some row.1) (lookup (is_at (cmp other)) rows)) h

  other_case : (key other : K) (v : V) (row : K × V) (rows : List (K × V)) (o : Ordering)
      → cmp key row.0 ≡ o → is_eq (cmp other key) ≡ false
      → lookup (is_at (cmp other)) (put cmp key v rows) ≡ lookup (is_at (cmp other)) rows → lookup
      (is_at (cmp other)) (put cmp key v (row ∷ rows)) ≡ lookup (is_at (cmp other)) (row ∷ rows)
  other_case key other v row rows Less is apart h = ap (lookup (is_at (cmp other)))
      (keyed.put_before cmp key v row rows is) ∙ skip other (key, v) (row ∷ rows) apart
  other_case key other v row rows Equal is apart h =
      ap (lookup (is_at (cmp other))) (keyed.put_here cmp key v row rows is)
      ∙ skip other (key, v) rows apart
      ∙ sym (skip other row rows
      (ap (λ (k : K). is_eq (cmp other k)) (sym (exact key row.0 is)) ∙ apart))
  other_case key other v row rows Greater is apart h =
      ap (lookup (is_at (cmp other))) (keyed.put_behind cmp key v row rows is)
      ∙ ap (λ (r : Option V). cond (is_eq (cmp other row.0)) (Some row.1) r) h

  pub found_other : (key other : K) (v : V) (rows : List (K × V)) → is_eq (cmp other key) ≡ false
      → lookup (is_at (cmp other)) (put cmp key v rows) ≡ lookup (is_at (cmp other)) rows
  found_other key other v [] apart = skip other (key, v) [] apart
  found_other key other v (row ∷ rows) apart = other_case key other v row rows (cmp key row.0) refl
      apart (found_other key other v rows apart)

module _ {K : Type 0} (cmp : K → K → Ordering) where
  -- a key that is put without versions is none
  emptied_case : (key : K) (row : K × Line) (rows : List (K × Line)) (o : Ordering)
      → cmp key row.0 ≡ o → lookup (is_at (cmp key)) (row ∷ rows) ≡ None
      → (lookup (is_at (cmp key)) rows ≡ None
      → with_versions (put cmp key [] rows) ≡ with_versions rows)
      → with_versions (put cmp key [] (row ∷ rows)) ≡ with_versions (row ∷ rows)
  emptied_case key row rows Less is there h =
      ap with_versions (keyed.put_before cmp key [] row rows is)
  emptied_case key row rows Equal is there h =
      let wrong : Some row.1 ≡ None = sym (keyed.found_here cmp key row rows is) ∙ there in
      cc
  emptied_case key row rows Greater is there h =
      ap with_versions (keyed.put_behind cmp key [] row rows is)
      ∙ ap (λ (xs : List (K × Line)). cond (is_some (first row.1)) (row ∷ xs) xs)
      (h (sym (keyed.passed cmp key row rows Greater is refl) ∙ there))

  pub emptied_put : (key : K) (rows : List (K × Line)) → lookup (is_at (cmp key)) rows ≡ None
      → with_versions (put cmp key [] rows) ≡ with_versions rows
  emptied_put key [] there = refl
  emptied_put key (row ∷ rows) there =
      emptied_case key row rows (cmp key row.0) refl there (emptied_put key rows)

-- the versions of a place
pub versions_by : (place : Place) (store : Versions)
    → versions_of store place ≡ unwrap_or (lookup (is_at (place_cmp place)) store) []
versions_by place store =
    ap (λ (o : Option Line). unwrap_or o []) (sym (keyed.found place_cmp place store))

own : (tag : Tag) → same_tag tag tag ≡ true
own tag = ap is_eq (laying.cmp_self tag_cmp tag_total tag_exact tag)

-- the transaction's own version in front of what others have
abbrev Laying : Tag → Version → Line → Line
Laying tag version line = version ∷ without tag line

again_case : (tag : Tag) (version : Version) (line : Line) (b : Bool)
    → is_of tag version ≡ b → without tag (without tag line) ≡ without tag line
    → without tag (without tag (version ∷ line)) ≡ without tag (version ∷ line)
again_case tag version line true is h = ap (without tag) (lost_version tag version line is) ∙ h
    ∙ sym (lost_version tag version line is)
again_case tag version line false is h =
    ap (without tag) (kept_version tag version line is)
    ∙ kept_version tag version (without tag line) is ∙ ap (λ (l : Line). version ∷ l) h
    ∙ sym (kept_version tag version line is)

again : (tag : Tag) (line : Line) → without tag (without tag line) ≡ without tag line
again tag [] = refl
again tag (version ∷ line) = again_case tag version line (is_of tag version) refl (again tag line)

-- what is taken back, by cases of whether it had a version
found_none : (tag : Tag) (line : Line) → AreCommitted line → find (is_of tag) line ≡ None
found_none tag [] h = refl
found_none tag (version ∷ line) h = ap (λ (b : Bool). cond b (Some version) (find (is_of tag) line))
    (not_own tag version h.0) ∙ found_none tag line h.1

taken : (tag : Tag) (version : Version) (line : Line) → is_of tag version ≡ true
    → without tag (Laying tag version line) ≡ without tag line
taken tag version line is = lost_version tag version (without tag line) is ∙ again tag line

-- by the versions there
back_at : (tag : Tag) (place : Place) (version : Version) (line : Line) (store : Versions)
    → is_of tag version ≡ true → IsKept store → lookup (is_at (place_cmp place)) store ≡ Some line
    → without tag line ≡ line
    → with_versions (changed_at place_cmp (without tag) place
    (put place_cmp place (Laying tag version line) store)) ≡ store
back_at tag place version line store is kept there same =
    ap with_versions
    (changed_put place_cmp place_total place_exact (without tag) place (Laying tag version line)
    store kept.rises
    ∙ ap (λ (l : Line). put place_cmp place l store) (taken tag version line is ∙ same)
    ∙ put_same place_cmp place_total place_exact place line store kept.rises there)
    ∙ kept_all store kept.histories

back_over : (tag : Tag) (place : Place) (version older : Version) (rest : Line) (store : Versions)
    → is_of tag version ≡ true → is_of tag older ≡ true → IsKept store → AreCommitted rest
    → lookup (is_at (place_cmp place)) store ≡ Some (older ∷ rest)
    → changed_at place_cmp (put_back tag older) place (put place_cmp place
    (Laying tag version (older ∷ rest)) store) ≡ store
back_over tag place version older rest store is was kept committed there =
    let put_in : put_back tag older (Laying tag version (older ∷ rest)) ≡ older ∷ rest =
    ap (λ (b : Bool). cond b (older ∷ without tag (Laying tag version (older ∷ rest)))
    (Laying tag version (older ∷ rest))) is
    ∙ ap (λ (l : Line). older ∷ l) (taken tag version (older ∷ rest) is
    ∙ lost_version tag older rest was ∙ without_committed tag rest committed) in
    changed_put place_cmp place_total place_exact (put_back tag older) place
    (Laying tag version (older ∷ rest)) store kept.rises
    ∙ ap (λ (l : Line). put place_cmp place l store) put_in
    ∙ put_same place_cmp place_total place_exact place (older ∷ rest) store kept.rises there

first_case : (tag : Tag) (place : Place) (version older : Version) (rest : Line) (store : Versions)
    (b : Bool) → is_of tag older ≡ b → is_of tag version ≡ true → IsKept store → AreCommitted rest
    → lookup (is_at (place_cmp place)) store ≡ Some (older ∷ rest)
    → taken_back_at tag place (find (is_of tag) (older ∷ rest)) (put place_cmp place
    (Laying tag version (older ∷ rest)) store) ≡ store
first_case tag place version older rest store true was is kept committed there =
    ap (λ (b : Bool). taken_back_at tag place (cond b (Some older) (find (is_of tag) rest))
    (put place_cmp place (Laying tag version (older ∷ rest)) store)) was
    ∙ back_over tag place version older rest store is was kept committed there
first_case tag place version older rest store false was is kept committed there =
    ap (λ (b : Bool). taken_back_at tag place (cond b (Some older) (find (is_of tag) rest))
    (put place_cmp place (Laying tag version (older ∷ rest)) store)) was
    ∙ ap (λ (o : Option Version). taken_back_at tag place o (put place_cmp place
    (Laying tag version (older ∷ rest)) store)) (found_none tag rest committed)
    ∙ back_at tag place version (older ∷ rest) store is kept there (kept_version tag older rest was
    ∙ ap (λ (l : Line). older ∷ l) (without_committed tag rest committed))

line_case : (tag : Tag) (place : Place) (version : Version) (line : Line) (store : Versions)
    → is_of tag version ≡ true → IsKept store → IsHistory line
    → lookup (is_at (place_cmp place)) store ≡ Some line
    → taken_back_at tag place (find (is_of tag) line) (put place_cmp place (Laying tag version line)
    store) ≡ store
line_case tag place version [] store is kept history there = cc
line_case tag place version (older ∷ rest) store is kept history there =
    first_case tag place version older rest store (is_of tag older) refl is kept history.1 there

back_case : (tag : Tag) (place : Place) (version : Version) (store : Versions) (o : Option Line)
    → lookup (is_at (place_cmp place)) store ≡ o → is_of tag version ≡ true → IsKept store
    → taken_back_at tag place (find (is_of tag) (unwrap_or o [])) (put place_cmp place
    (Laying tag version (unwrap_or o [])) store) ≡ store
back_case tag place version store None there is kept =
    ap with_versions
    (changed_put place_cmp place_total place_exact
    (without tag) place (version ∷ []) store kept.rises
    ∙ ap (λ (l : Line). put place_cmp place l store) (lost_version tag version [] is))
    ∙ emptied_put place_cmp place store there
    ∙ kept_all store kept.histories
back_case tag place version store (Some line) there is kept = line_case tag place version line store
    is kept (each_found place_cmp IsHistory place line store there kept.histories) there

pub back_again : (tag : Tag) (place : Place) (version : Version) (store : Versions)
    → is_of tag version ≡ true → IsKept store
    → taken_back_at tag place (find (is_of tag) (versions_of store place)) (put place_cmp place
    (version ∷ without tag (versions_of store place)) store) ≡ store
back_again tag place version store is kept =
    ap (λ (l : Line). taken_back_at tag place (find (is_of tag) l)
    (put place_cmp place (version ∷ without tag l) store)) (versions_by place store)
    ∙ back_case tag place version store (lookup (is_at (place_cmp place)) store) refl is kept

-- one more at the end is taken back first
pub back_last : (tag : Tag) (laid : List Laid) (last : Laid) (store : Versions) → all_taken_back tag
    (laid ++ last ∷ []) store ≡ all_taken_back tag laid (taken_back tag last store)
back_last tag [] last store = refl
back_last tag (one ∷ laid) last store = ap (taken_back tag one) (back_last tag laid last store)

-- after a write of the transaction the places of its others are free still
abbrev Free : Tag → Line → Type 0
Free tag line = first (filter_map (other_writer_of tag) line) ≡ None

committed_free : (tag : Tag) (line : Line) → AreCommitted line → Free tag line
committed_free tag [] h = refl
committed_free tag (version ∷ line) h =
    ap (λ (o : Option Tag). first
    (cons_option (option_and_then (λ writer. cond (same_tag writer tag) None (Some writer)) o)
    (filter_map (other_writer_of tag) line))) h.0 ∙ committed_free tag line h.1

abbrev version_of : Tag → Write → Version
version_of tag write = record { stamp = Unfinished tag; doc = content_of write }

own_free : (tag : Tag) (write : Write) (line : Line) → AreCommitted line
    → Free tag (version_of tag write ∷ line)
own_free tag write line h = ap (λ (b : Bool). first (cons_option (cond b None (Some tag))
    (filter_map (other_writer_of tag) line))) (own tag) ∙ committed_free tag line h

is_equal : (o : Ordering) → is_eq o ≡ true → o ≡ Equal
is_equal Less h = cc
is_equal Equal h = refl
is_equal Greater h = cc

history_case : (place : Place) (store : Versions) (o : Option Line)
    → lookup (is_at (place_cmp place)) store ≡ o → IsKept store → IsChain (unwrap_or o [])
history_case place store None there kept = tt
history_case place store (Some line) there kept =
    (each_found place_cmp IsHistory place line store there kept.histories).1

chain_of : (place : Place) (store : Versions) → IsKept store → IsChain (versions_of store place)
chain_of place store kept = subst IsChain (sym (versions_by place store)) (history_case place store
    (lookup (is_at (place_cmp place)) store) refl kept)

free_case : (tag : Tag) (store : Versions) (write other : Write) (b : Bool)
    → is_eq (place_cmp (place_of other) (place_of write)) ≡ b → IsKept store
    → Free tag (versions_of store (place_of write))
    → Free tag (versions_of store (place_of other))
    → Free tag (versions_of (with_write tag store write) (place_of other))
free_case tag store write other true is kept free more =
    let same : place_of other ≡ place_of write =
    place_exact (place_of other) (place_of write) (is_equal _ is) in
    let line : Line = version_of tag write ∷ without tag (versions_of store (place_of write)) in
    let found : versions_of (with_write tag store write) (place_of write) ≡ line =
    versions_by (place_of write) (with_write tag store write) ∙ ap (λ (o : Option Line).
    unwrap_or o []) (found_put place_cmp place_total place_exact (place_of write) line store) in
    subst (Free tag) (sym (ap (versions_of (with_write tag store write)) same ∙ found))
    (own_free tag write (without tag (versions_of store (place_of write))) (free_rest tag
    (versions_of store (place_of write)) free (chain_of (place_of write) store kept)))
free_case tag store write other false is kept free more =
    let line : Line = version_of tag write ∷ without tag (versions_of store (place_of write)) in
    let found : versions_of (with_write tag store write) (place_of other)
    ≡ versions_of store (place_of other) =
    versions_by (place_of other) (with_write tag store write)
    ∙ ap (λ (o : Option Line). unwrap_or o []) (found_other place_cmp place_total place_exact
    (place_of write) (place_of other) line store is)
    ∙ sym (versions_by (place_of other) store) in
    subst (Free tag) (sym found) more

free_behind : (tag : Tag) (store : Versions) (write : Write) (writes : List Write)
    → IsKept store → Free tag (versions_of store (place_of write)) → AreFree tag store writes
    → AreFree tag (with_write tag store write) writes
free_behind tag store write [] kept free more = tt
free_behind tag store write (other ∷ writes) kept free more = (
  free_case tag store write other (is_eq (place_cmp (place_of other) (place_of write))) refl kept
      free more.0,
  free_behind tag store write writes kept free more.1,
)

-- writes put one after the other: what they become, and what they were
pub record IsLaying (tag : Tag) (store : Versions) (laid : List Laid) (left : List Write)
    (begun : Versions) (writes : List Write) : Type 0 where
  pub forth : with_writes tag store left ≡ with_writes tag begun writes
  pub back : all_taken_back tag laid store ≡ begun
  pub free : AreFree tag store left
  pub known : AllHaveOwnIds left
  pub had : HadIds laid
  pub kept : IsKept store

pub laying_begun : (tag : Tag) (store : Versions) (writes : List Write) → AreFree tag store writes
    → AllHaveOwnIds writes → IsKept store → IsLaying tag store [] writes store writes
laying_begun tag store writes free known kept =
    record { forth = refl; back = refl; free = free; known = known; had = tt; kept = kept }

kept_behind : (tag : Tag) (store : Versions) (write : Write) → IsKept store → txn.HasOwnId write
    → Free tag (versions_of store (place_of write)) → IsKept (with_write tag store write)
kept_behind tag store write kept known free =
    let place : Place = place_of write in
    let line : Line = version_of tag write ∷ without tag (versions_of store place) in
    record {
      rises = laying.rises_put place_cmp place_total place_exact place line store kept.rises;
      histories = each_put place_cmp IsHistory place line store (put_history tag (version_of tag
          write) (versions_of store place) free (chain_of place store kept)) kept.histories;
      ids = ids_with tag store write known kept.ids;
    }

had_more : (laid : List Laid) (last : Laid) → HadIds laid → HoldsId last.key.1 last.replaced
    → HadIds (laid ++ last ∷ [])
had_more [] last had one = (one, tt)
had_more (other ∷ laid) last had one = (had.0, had_more laid last had.1 one)

-- and without the last
pub had_less : (laid : List Laid) (last : Laid) → HadIds (laid ++ last ∷ [])
    → HadIds laid × HoldsId last.key.1 last.replaced
had_less [] last had = (tt, had.0)
had_less (other ∷ laid) last had =
    let less = had_less laid last had.1 in
    ((had.0, less.0), less.1)

pub laying_on : (tag : Tag) (old new : Versions) (laid after : List Laid) (last : Laid)
    (write : Write) (left : List Write) (begun : Versions) (writes : List Write)
    → new ≡ with_write tag old write → after ≡ laid ++ last ∷ []
    → last ≡ laid_by tag old write → IsLaying tag old laid (write ∷ left) begun writes
    → IsLaying tag new after left begun writes
laying_on tag old new laid after last write left begun writes is more one h =
    let again : taken_back tag last new ≡ old =
    ap (λ (s : Versions). taken_back tag last s) is
    ∙ ap (λ (l : Laid). taken_back tag l (with_write tag old write)) one
    ∙ back_again tag (place_of write) (version_of tag write) old (own tag) h.kept in
    record {
      forth = ap (λ (s : Versions). with_writes tag s left) is ∙ h.forth;
      back = ap (λ (l : List Laid). all_taken_back tag l new) more ∙ back_last tag laid last new
          ∙ ap (all_taken_back tag laid) again ∙ h.back;
      free = subst (λ (s : Versions). AreFree tag s left) (sym is) (free_behind tag old write left
          h.kept h.free.0 h.free.1);
      known = h.known.1;
      had =
          subst HadIds (sym more)
          (had_more laid last h.had (subst (λ (l : Laid). HoldsId l.key.1 l.replaced) (sym one)
          (id_found (place_of write).1 (is_of tag) (versions_of old (place_of write))
          (ids_found (place_of write) old h.kept.ids))));
      kept = subst IsKept (sym is) (kept_behind tag old write h.kept h.known.0 h.free.0);
    }

-- what was noted and didn't come about
pub noted_in_vain : (one : Laid) (old noted left : List Laid) (count : ℕ) → count ≡ length old
    → noted ≡ old ++ one ∷ [] → left ≡ take count noted → left ≡ old
noted_in_vain one old noted left count long is cut =
    cut ∙ ap (take count) is ∙ ap (λ (n : ℕ). take n (old ++ one ∷ [])) long
    ∙ take-append_seam old (one ∷ [])

-- where no write meets a conflict, all places are free
nothing_here : {A B : Type 0} (f : A → B) (o : Option A) (rest : List B)
    → first (cons_option (option_map f o) rest) ≡ None → o ≡ None
nothing_here f None rest h = refl
nothing_here f (Some a) rest h = cc

nothing_left : {A B : Type 0} (f : A → B) (o : Option A) (rest : List B)
    → first (cons_option (option_map f o) rest) ≡ None → first rest ≡ None
nothing_left f None rest h = h
nothing_left f (Some a) rest h = cc

nobody : (o : Option Tag) (rest : Option By)
    → option_or (option_map (λ writer. reason.Tag writer) o) rest ≡ None → o ≡ None
nobody None rest h = refl
nobody (Some writer) rest h = cc

pub free_without_conflict : (tag : Tag) (at : ℕ) (store : Versions) (writes : List Write)
    → conflict store at tag writes ≡ None → AreFree tag store writes
free_without_conflict tag at store [] h = tt
free_without_conflict tag at store (write ∷ writes) h =
    let line : Line = versions_of store (place_of write) in
    let rest : List (Id × By) = filter_map (λ other. option_map (λ why. ((place_of other).1, why))
    (against at tag (versions_of store (place_of other)))) writes in (
      nobody (first (filter_map (other_writer_of tag) line))
          (option_and_then (commit_above at) (newest_of line))
          (nothing_here (λ why. ((place_of write).1, why)) (against at tag line) rest h),
      free_without_conflict tag at store writes
          (nothing_left (λ why. ((place_of write).1, why)) (against at tag line) rest h),
    )
