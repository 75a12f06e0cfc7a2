-- What participants prepared, gathered one by one, is what their commit joins; and lists of
-- commits, journal by journal.
use Rattle.std.proofs.Common.{◌≡◌, ◌<◌, ℕ, ◌+◌, List, [], ◌∷◌, ◌++◌, Option, Some, None, length}
use Rattle.std.proofs.Common.{get_or, drop, map, Bor, refl, ap, ap₂, sym, ◌∙◌}
use Rattle.std.specs.Prelude.{flat_map, unwrap_or}
use Rattle.std.specs.Option.{option_or}
use Rattle.std.proofs.lemmas.List.{append_assoc, append-nil, at_drop_more}
use Rattle.txn_types.specs.declared.names.Tag.{Tag}
use Rattle.txn_types.specs.declared.write.Write.{Write}
use Rattle.txn_semantics.specs.declared.commits.Entry.{Entry}
use Rattle.txn_semantics.specs.Writes.{write_set}
use Rattle.journal_rec.specs.declared.record.Rec.{Rec}
use Rattle.txn_model.specs.Commits.{Journals, Prepared, records_of, prepared_in, prepared_at}
use Rattle.txn_model.specs.Commits.{read_at_of, joined, in_order}
use Rattle.txn_model.specs.Gathering.{with_prepared, gathered}
use Rattle.txn_model.specs.declared.gathering.Share.{Share}
use Rattle.txn_model.proofs.Ordered.{in_order-append}

gathered-append : (s : Share) (ps qs : List Prepared)
    → gathered s (ps ++ qs) ≡ gathered (gathered s ps) qs
gathered-append s [] qs = refl
gathered-append s (p ∷ ps) qs = gathered-append (with_prepared s p) ps qs

pub gathered_more : (journals : Journals) (tag : Tag) (s new : Share)
    (parts : List (ℕ × ℕ)) (i : ℕ) (d : ℕ × ℕ) (recs : List Rec) → i < length parts
    → recs ≡ records_of journals (get_or parts i d).0
    → new ≡ gathered s (prepared_in tag recs) → gathered new (prepared_at journals tag
    (drop (i + 1) parts)) ≡ gathered s (prepared_at journals tag (drop i parts))
gathered_more journals tag s new parts i d recs lt hr hn =
    ap (λ t. gathered t (prepared_at journals tag (drop (i + 1) parts)))
    (hn ∙ ap (λ r. gathered s (prepared_in tag r)) hr)
    ∙ sym (gathered-append s (prepared_in tag (records_of journals (get_or parts i d).0))
    (prepared_at journals tag (drop (i + 1) parts)))
    ∙ sym (at_drop_more (λ ps. gathered s (prepared_at journals tag ps)) parts i d lt)

first_read : List Prepared → Option ℕ
first_read [] = None
first_read (p ∷ ps) = Some p.read_at

read_first : (read_at : Option ℕ) (p : Prepared) (rest : Option ℕ)
    → option_or (option_or read_at (Some p.read_at)) rest ≡ option_or read_at (Some p.read_at)
read_first None p rest = refl
read_first (Some at) p rest = refl

read_none : (read_at : Option ℕ) → option_or read_at None ≡ read_at
read_none None = refl
read_none (Some at) = refl

gathered_all : (s : Share) (ps : List Prepared) → gathered s ps ≡ record {
  read_at = option_or s.read_at (first_read ps);
  writes = s.writes ++ flat_map (λ p. p.writes) ps;
}
unfolding first_read
gathered_all s [] = ap₂ (λ (r : Option ℕ) (w : List Write). record { read_at = r; writes = w })
    (sym (read_none s.read_at)) (sym (append-nil s.writes))
gathered_all s (p ∷ ps) =
    gathered_all (with_prepared s p) ps
    ∙ ap₂ (λ (r : Option ℕ) (w : List Write). record { read_at = r; writes = w }) (read_first
    s.read_at p (first_read ps)) (append_assoc s.writes p.writes (flat_map (λ q. q.writes) ps))

read_is : (ps : List Prepared) → unwrap_or (first_read ps) 0 ≡ read_at_of ps
unfolding first_read
read_is [] = refl
read_is (p ∷ ps) = refl

pub joined_is : (tag : Tag) (at : ℕ) (ps : List Prepared) (s : Share) (r : ℕ) (w : List Write)
    → s ≡ gathered (record { read_at = None; writes = [] }) ps → r ≡ unwrap_or s.read_at 0
    → w ≡ write_set s.writes
    → record { tag = tag; read_at = r; at = at; writes = w } ≡ joined tag at ps
joined_is tag at ps s r w hs hr hw =
    let whole = hs ∙ gathered_all (record { read_at = None; writes = [] }) ps in
    ap₂ (λ (x : ℕ) (y : List Write). record { tag = tag; read_at = x; at = at; writes = y })
    (hr ∙ ap (λ (t : Share). unwrap_or t.read_at 0) whole ∙ read_is ps)
    (hw ∙ ap (λ (t : Share). write_set t.writes) whole)

pub list_more : (f : List Rec → List Entry) (list new : List Entry)
    (journals : List (Bor (List Rec))) (i : ℕ) (item : Bor (List Rec)) → i < length journals
    → item ≡ get_or journals i item
    → new ≡ in_order list (f item.now) → in_order new (flat_map f (map (λ j. j.now)
    (drop (i + 1) journals))) ≡ in_order list (flat_map f (map (λ j. j.now) (drop i journals)))
list_more f list new journals i item lt is hn =
    ap (λ es. in_order es (flat_map f (map (λ j. j.now) (drop (i + 1) journals))))
    (hn ∙ ap (λ (j : Bor (List Rec)). in_order list (f j.now)) is)
    ∙ sym (in_order-append list (f (get_or journals i item).now)
    (flat_map f (map (λ j. j.now) (drop (i + 1) journals))))
    ∙ sym (at_drop_more (λ js. in_order list (flat_map f (map (λ (j : Bor (List Rec)). j.now) js)))
    journals i item lt)
