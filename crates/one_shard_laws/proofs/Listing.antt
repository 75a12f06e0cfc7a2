-- The commits of one journal after a record more.
use Rattle.std.proofs.Common.{◌≡◌, ◌<◌, ◌||◌, ℕ, ℤ, Bool, true, false, List, [], ◌∷◌, ◌++◌, All}
use Rattle.std.proofs.Common.{refl, ap, ◌∙◌, arith, if◌then◌else◌}
use Rattle.std.specs.Ordering.{ordering_then, nat_cmp, is_lt, is_eq}
use Rattle.std.specs.declared.cmp.Ordering.{Ordering}
use Rattle.std.specs.declared.cmp.Ordering.TheVariants.{Greater}
use Rattle.std.proofs.lemmas.List.Elements.{All-nil, All-cons}
use Rattle.txn_types.specs.Order.{tag_cmp}
use Rattle.txn_types.specs.declared.names.Tag.{Tag}
use Rattle.txn_types.specs.declared.node.Lsid.{Lsid}
use Rattle.txn_types.specs.declared.write.Write.{Write}
use Rattle.txn_semantics.specs.declared.commits.Entry.{Entry}
use Rattle.journal_rec.specs.declared.record.Rec.{Rec}
use Rattle.journal_rec.specs.declared.record.Rec.TheVariants as rec
use Rattle.part_laws.specs.Each.{Each}
use Rattle.txn_model.specs.Commits.{entry_cmp, put_entry, has_moment}
use Rattle.txn_model.proofs.Added.{commits_more}
use Rattle.one_shard_laws.specs.Lasting.{commits_by}

-- What holds of each.

pub each_more : {X : Type 0} (Q R : X → Type 0) → ((x : X) → Q x → R x) → (xs : List X)
    → Each Q xs → Each R xs
each_more Q R f [] h = tt
each_more Q R f (x ∷ xs) h = (f x h.0, each_more Q R f xs h.1)

pub each_last : {X : Type 0} (Q : X → Type 0) (xs : List X) (x : X) → Each Q xs → Q x
    → Each Q (xs ++ x ∷ [])
each_last Q [] x h k = (k, tt)
each_last Q (y ∷ xs) x h k = (h.0, each_last Q xs x h.1 k)

pub each_all : {X : Type 0} (Q : X → Type 0) (xs : List X) → Each Q xs → All Q xs
each_all Q [] h = All-nil Q
each_all Q (x ∷ xs) h = All-cons Q x xs h.0 (each_all Q xs h.1)

-- A commit above all others is the last.

cmp_above : (a b : ℕ) → b < a → nat_cmp a b ≡ Greater
cmp_above a b h = grind (arith, h)

above : (e f : Entry) → f.at < e.at → entry_cmp e f ≡ Greater
above e f h = ap (λ (o : Ordering). ordering_then o (tag_cmp e.tag f.tag)) (cmp_above e.at f.at h)

put_last : (e : Entry) (es : List Entry) → Each (λ (f : Entry). f.at < e.at) es
    → put_entry e es ≡ es ++ e ∷ []
put_last e [] h = refl
put_last e (f ∷ es) h =
    ap (λ (o : Ordering). if is_lt o then e ∷ f ∷ es else f ∷ put_entry e es) (above e f h.0)
    ∙ ap (λ (l : List Entry). f ∷ l) (put_last e es h.1)

no_moment : (e : Entry) (es : List Entry) → Each (λ (f : Entry). f.at < e.at) es
    → has_moment es e ≡ false
no_moment e [] h = refl
no_moment e (f ∷ es) h = moment_case (is_eq (entry_cmp e f)) (has_moment es e) (ap is_eq
    (above e f h.0)) (no_moment e es h.1)
  where
    moment_case : (a b : Bool) → a ≡ false → b ≡ false → (a || b) ≡ false
    moment_case true b h k = h
    moment_case false b h k = k

pub ceiling_more : (recs : List Rec) (bound : ℕ)
    → commits_by (recs ++ rec.Ceiling bound ∷ []) ≡ commits_by recs
ceiling_more recs bound = commits_more (recs ∷ []) 0 recs (rec.Ceiling bound) refl tt tt

pub boot_more : (recs : List Rec) (boot : ℕ)
    → commits_by (recs ++ rec.Boot boot ∷ []) ≡ commits_by recs
boot_more recs boot = commits_more (recs ∷ []) 0 recs (rec.Boot boot) refl tt tt

pub commit_more : (recs : List Rec) (tag : Tag) (lsid : Lsid) (number : ℤ) (read_at at : ℕ)
    (writes : List Write) → Each (λ (f : Entry). f.at < at) (commits_by recs)
    → commits_by (recs ++ rec.Commit tag lsid number read_at at writes ∷ [])
    ≡ commits_by recs ++ record { tag = tag; read_at = read_at; at = at; writes = writes } ∷ []
commit_more recs tag lsid number read_at at writes h =
    let e : Entry = record { tag = tag; read_at = read_at; at = at; writes = writes } in
    commits_more (recs ∷ []) 0 recs (rec.Commit tag lsid number read_at at writes) refl tt
    (no_moment e (commits_by recs) h, tt) ∙ put_last e (commits_by recs) h
