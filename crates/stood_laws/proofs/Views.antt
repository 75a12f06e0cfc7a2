-- Commits above a time change nothing of what that time sees of the list of commits.
use Rattle.std.proofs.Common.{◌≡◌, ◌<◌, ◌++◌, ℕ, Bool, true, false, List, [], ◌∷◌, All, refl, ap}
use Rattle.std.proofs.Common.{ap₂, ◌∙◌, sym, nat_le, if◌then◌else◌}
use Rattle.std.specs.Ordering.{is_lt}
use Rattle.std.proofs.lemmas.Bool.{lt-leb}
use Rattle.std.proofs.lemmas.List.{append-nil, append_assoc}
use Rattle.std.proofs.lemmas.List.Elements.{All-head, All-tail}
use Rattle.txn_types.specs.Letters.{Named}
use Rattle.txn_semantics.specs.declared.commits.Entry.{Entry}
use Rattle.txn_semantics.specs.Rows.{Row, under}
use Rattle.txn_semantics.specs.View.{view, view_from}
use Rattle.journal_rec.specs.declared.record.Rec.{Rec}
use Rattle.journal_rec.specs.declared.record.Rec.TheVariants as rec
use Rattle.part_laws.specs.Each.{Each}
use Rattle.part_laws.proofs.Known.{each_append}
use Rattle.txn_model.specs.Commits.{Journals, commits, entry_of, entries_behind, entry_cmp}
use Rattle.txn_model.specs.Commits.{put_entry, in_order}
use Rattle.world_laws.specs.Above.{IsAbove}
use Rattle.one_shard_laws.specs.Alone.{RecAlone}
use Rattle.one_shard_laws.specs.Lasting.{commits_by}

-- Into a list that is in order.

module _ (ns : List ℕ) (at : ℕ) where
  view_put : (e : Entry) (es : List Entry) (rows : List Row) → at < e.at
      → view_from rows (put_entry e es) at ns ≡ view_from rows es at ns
  view_put e [] rows above =
      ap (λ (b : Bool). if b then under ns rows e.writes else rows) (lt-leb e.at at above)
  view_put e (f ∷ fs) rows above =
      by_order (is_lt (entry_cmp e f)) (λ rs. view_put e fs rs above)
    where
      by_order : (b : Bool) → ((rs : List Row)
          → view_from rs (put_entry e fs) at ns ≡ view_from rs fs at ns)
          → view_from rows (if b then e ∷ f ∷ fs else f ∷ put_entry e fs) at ns
          ≡ view_from rows (f ∷ fs) at ns
      by_order true more =
          ap (λ (b : Bool). view_from (if b then under ns rows e.writes else rows) (f ∷ fs) at ns)
          (lt-leb e.at at above)
      by_order false more = more (if nat_le f.at at then under ns rows f.writes else rows)

  view_order : (es sorted : List Entry) (rows : List Row) → Each (λ (e : Entry). at < e.at) es
      → view_from rows (in_order sorted es) at ns ≡ view_from rows sorted at ns
  view_order [] sorted rows h = refl
  view_order (e ∷ es) sorted rows h =
      view_order es (put_entry e sorted) rows h.1 ∙ view_put e sorted rows h.0

order_append : (xs ys sorted : List Entry)
    → in_order sorted (xs ++ ys) ≡ in_order (in_order sorted xs) ys
order_append [] ys sorted = refl
order_append (x ∷ xs) ys sorted = order_append xs ys (put_entry x sorted)

-- Of the records of a shard that commits alone.

module _ (P : Named → Type 0) (J K : Journals) where
  one_alone : (b c : List Rec) (r : Rec) → RecAlone P r → entry_of J b r ≡ entry_of K c r
  one_alone b c (rec.Boot boot) h = refl
  one_alone b c (rec.Ceiling bound) h = refl
  one_alone b c (rec.Commit tag lsid number read_at at writes) h = refl
  one_alone b c (rec.Prepared tag lsid number boot read_at at coordinator writes) h = absurd h
  one_alone b c (rec.Decided d) h = absurd h
  one_alone b c (rec.CoordStart tag lsid number parts) h = absurd h
  one_alone b c (rec.CoordDecision tag d) h = absurd h
  one_alone b c (rec.CoordEnd tag) h = absurd h
  one_alone b c (rec.Floor floor) h = absurd h

  all_alone : (b c recs : List Rec) → All (RecAlone P) recs
      → entries_behind J b recs ≡ entries_behind K c recs
  all_alone b c [] h = refl
  all_alone b c (r ∷ recs) h =
      ap₂ (λ (x y : List Entry). x ++ y) (one_alone b c r (All-head (RecAlone P) r recs h))
      (all_alone (b ++ r ∷ []) (c ++ r ∷ []) recs (All-tail (RecAlone P) r recs h))

  both_alone : (b c d xs ys : List Rec) → All (RecAlone P) xs → All (RecAlone P) ys
      → entries_behind J b (xs ++ ys) ≡ entries_behind K c xs ++ entries_behind K d ys
  both_alone b c d [] ys h k = all_alone b d ys k
  both_alone b c d (x ∷ xs) ys h k =
      ap₂ (λ (x y : List Entry). x ++ y) (one_alone b c x (All-head (RecAlone P) x xs h))
      (both_alone (b ++ x ∷ []) (c ++ x ∷ []) d xs ys (All-tail (RecAlone P) x xs h) k)
      ∙ sym (append_assoc (entry_of K c x) (entries_behind K (c ++ x ∷ []) xs)
      (entries_behind K d ys))

module _ (P : Named → Type 0) (J : Journals) (at : ℕ) where
  one_above : (b : List Rec) (r : Rec) → RecAlone P r → IsAbove at r
      → Each (λ (e : Entry). at < e.at) (entry_of J b r)
  one_above b (rec.Boot boot) h k = tt
  one_above b (rec.Ceiling bound) h k = tt
  one_above b (rec.Commit tag lsid number read_at time writes) h k = (k, tt)
  one_above b (rec.Prepared tag lsid number boot read_at time coordinator writes) h k = absurd h
  one_above b (rec.Decided d) h k = absurd h
  one_above b (rec.CoordStart tag lsid number parts) h k = absurd h
  one_above b (rec.CoordDecision tag d) h k = absurd h
  one_above b (rec.CoordEnd tag) h k = absurd h
  one_above b (rec.Floor floor) h k = absurd h

  all_above : (b recs : List Rec) → All (RecAlone P) recs → All (IsAbove at) recs
      → Each (λ (e : Entry). at < e.at) (entries_behind J b recs)
  all_above b [] h k = tt
  all_above b (r ∷ recs) h k =
      each_append (λ (e : Entry). at < e.at) (entry_of J b r)
      (entries_behind J (b ++ r ∷ []) recs)
      (one_above b r (All-head (RecAlone P) r recs h) (All-head (IsAbove at) r recs k))
      (all_above (b ++ r ∷ []) recs (All-tail (RecAlone P) r recs h)
      (All-tail (IsAbove at) r recs k))

pub view_stays : (P : Named → Type 0) (xs ys : List Rec) (at : ℕ) (ns : List ℕ)
    → All (RecAlone P) xs → All (RecAlone P) ys → All (IsAbove at) ys
    → view (commits_by (xs ++ ys)) at ns ≡ view (commits_by xs) at ns
unfolding commits
view_stays P xs ys at ns h k above =
    let J : Journals = (xs ++ ys) ∷ [] in
    let K : Journals = xs ∷ [] in
    let old : List Entry = entries_behind K [] xs in
    let new : List Entry = entries_behind K [] ys in
    ap (λ (es : List Entry). view_from [] (in_order [] es) at ns)
    (append-nil (entries_behind J [] (xs ++ ys)) ∙ both_alone P J K [] [] [] xs ys h k)
    ∙ ap (λ (es : List Entry). view_from [] es at ns) (order_append old new [])
    ∙ view_order ns at new (in_order [] old) [] (all_above P K at [] ys k above)
    ∙ ap (λ (es : List Entry). view_from [] (in_order [] es) at ns) (sym (append-nil old))
