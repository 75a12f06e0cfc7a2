-- What no record's entry is, none of the list of commits is.
use Rattle.std.proofs.Common.{◌≡◌, ◌++◌, ◌||◌, Bool, true, false, All, List, [], ◌∷◌, flat_map, refl}
use Rattle.std.proofs.Common.{ap, ◌∙◌, if◌then◌else◌}
use Rattle.std.specs.List.{list_any}
use Rattle.std.proofs.lemmas.List.{append-nil}
use Rattle.std.proofs.lemmas.List.Elements.{All-head, All-tail}
use Rattle.std.proofs.lemmas.List.Folds.{list_any-append}
use Rattle.txn_types.specs.Letters.{Named}
use Rattle.txn_semantics.specs.declared.commits.Entry.{Entry}
use Rattle.journal_rec.specs.declared.record.Rec.{Rec}
use Rattle.journal_rec.specs.declared.record.Rec.TheVariants as rec
use Rattle.part_laws.specs.Each.{Each}
use Rattle.txn_model.specs.Commits.{Journals, entries_behind, entry_of, commits, put_entry, in_order}
use Rattle.txn_model.proofs.Ordered.{below, left_fails, right_fails}
use Rattle.one_shard_laws.specs.Alone.{RecAlone}

pub is_no : (a b : Bool) → a ≡ false → b ≡ false → (a || b) ≡ false
is_no true b h k = h
is_no false b h k = k

none_put : (p : Entry → Bool) (e : Entry) (es : List Entry) → p e ≡ false
    → list_any p es ≡ false → list_any p (put_entry e es) ≡ false
none_put p e [] h k = is_no (p e) false h refl
none_put p e (f ∷ fs) h k =
    by (below e f) (none_put p e fs h (right_fails (p f) (list_any p fs) k))
  where
    by : (test : Bool) → list_any p (put_entry e fs) ≡ false
        → list_any p (if test then e ∷ f ∷ fs else f ∷ put_entry e fs) ≡ false
    by true more = is_no (p e) (list_any p (f ∷ fs)) h k
    by false more =
        is_no (p f) (list_any p (put_entry e fs)) (left_fails (p f) (list_any p fs) k) more

none_ordered : (p : Entry → Bool) (sorted es : List Entry) → list_any p sorted ≡ false
    → list_any p es ≡ false → list_any p (in_order sorted es) ≡ false
none_ordered p sorted [] h k = h
none_ordered p sorted (e ∷ es) h k =
    none_ordered p (put_entry e sorted) es
    (none_put p e sorted (left_fails (p e) (list_any p es) k) h)
    (right_fails (p e) (list_any p es) k)

-- the entry of a commit isn't so
abbrev pub RecNo : (Entry → Bool) → Rec → Type 0
RecNo p (rec.Commit tag lsid number read_at at writes) =
    p (record { tag = tag; read_at = read_at; at = at; writes = writes }) ≡ false
RecNo p other = Unit {0}

module _ (P : Named → Type 0) (p : Entry → Bool) where
  none_of : (journals : Journals) (before : List Rec) (r : Rec) → RecAlone P r → RecNo p r
      → list_any p (entry_of journals before r) ≡ false
  none_of journals before (rec.Commit tag lsid number read_at at writes) h none =
      is_no (p (record { tag = tag; read_at = read_at; at = at; writes = writes })) false none refl
  none_of journals before (rec.Boot boot) h none = refl
  none_of journals before (rec.Ceiling bound) h none = refl
  none_of journals before (rec.Prepared tag lsid number boot read_at time coordinator writes) h
      none = absurd h
  none_of journals before (rec.Decided d) h none = absurd h
  none_of journals before (rec.CoordStart tag lsid number parts) h none = absurd h
  none_of journals before (rec.CoordDecision tag d) h none = absurd h
  none_of journals before (rec.CoordEnd tag) h none = absurd h
  none_of journals before (rec.Floor floor) h none = absurd h

  none_behind : (journals : Journals) (before recs : List Rec) → All (RecAlone P) recs
      → All (RecNo p) recs → list_any p (entries_behind journals before recs) ≡ false
  none_behind journals before [] h none = refl
  none_behind journals before (r ∷ recs) h none =
      list_any-append p (entry_of journals before r)
      (entries_behind journals (before ++ r ∷ []) recs)
      ∙ is_no (list_any p (entry_of journals before r))
      (list_any p (entries_behind journals (before ++ r ∷ []) recs))
      (none_of journals before r (All-head (RecAlone P) r recs h) (All-head (RecNo p) r recs none))
      (none_behind journals (before ++ r ∷ []) recs (All-tail (RecAlone P) r recs h)
      (All-tail (RecNo p) r recs none))

  pub none_listed : (recs : List Rec) → All (RecAlone P) recs → All (RecNo p) recs
      → list_any p (commits (recs ∷ [])) ≡ false
  unfolding commits
  none_listed recs h none =
      none_ordered p [] (flat_map (λ list. entries_behind (recs ∷ []) [] list) (recs ∷ [])) refl
      (ap (list_any p) (append-nil (entries_behind (recs ∷ []) [] recs))
      ∙ none_behind (recs ∷ []) [] recs h none)

-- and so it is of each
pub each_no : (p : Entry → Bool) (es : List Entry) → list_any p es ≡ false
    → Each (λ (e : Entry). p e ≡ false) es
each_no p [] h = tt
each_no p (e ∷ es) h =
    (left_fails (p e) (list_any p es) h, each_no p es (right_fails (p e) (list_any p es) h))
