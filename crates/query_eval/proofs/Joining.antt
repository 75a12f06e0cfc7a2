-- The marks of several shards, joined.
use Rattle.std.proofs.Common.{◌≡◌, ℕ, drop, length, ◌+◌, ◌-◌, ◌^◌, ◌≤◌, List, [], ◌∷◌, ◌++◌, Option}
use Rattle.std.proofs.Common.{Some, None, map, refl, ap, sym, ◌∙◌, arith, append_assoc}
use Rattle.std.proofs.lemmas.List.{append-nil, map-append, drop_all}
use Rattle.bson_core.specs.Fields.{Document}
use Rattle.txn_types.specs.Ids.{id_in}
use Rattle.txn_types.specs.declared.id.Id.{Id}
use Rattle.txn_semantics.specs.Found.{Mark, marked, marks_of}
use Rattle.txn_semantics.specs.Meaning.{document_rules, capped}
use Rattle.txn_semantics.specs.Merge.{capped_sum}
use Rattle.txn_semantics.specs.Rows.{laid_over}
use Rattle.query_eval.specs.Held.{doc_in, mark_of}
use Rattle.query_eval.specs.declared.held.Held.{Held}
use Rattle.query_eval.specs.declared.held.Held.TheVariants.{Nothing}
use Rattle.query_eval.proofs.Operating.{laid-map}

pub sum_small : (counts : List ℕ) → capped_sum counts ≤ 2 ^ 63 - 1
sum_small [] = omega arith
sum_small (n ∷ counts) = omega arith

pub capped_small : (n : ℕ) → n ≤ 2 ^ 63 - 1 → capped (0 + n) ≡ n
capped_small n h = omega arith

-- marks, and one more after them
mark_by : Document → List Mark → Option Id → List Mark
mark_by doc rest o = elim o [ None ↦ rest | Some id ↦ (id, Some doc) ∷ rest ]

pub marked_none : (doc : Document) (docs : List Document) (tail : List Mark) → id_in doc ≡ None
    → marked document_rules (doc ∷ docs) tail ≡ marked document_rules docs tail
unfolding mark_by
marked_none doc docs tail h = ap (mark_by doc (marked document_rules docs tail)) h

pub marked_some : (doc : Document) (docs : List Document) (tail : List Mark) (id : Id)
    → id_in doc ≡ Some id
    → marked document_rules (doc ∷ docs) tail ≡ (id, Some doc) ∷ marked document_rules docs tail
unfolding mark_by
marked_some doc docs tail id h = ap (mark_by doc (marked document_rules docs tail)) h

append_case : (doc : Document) (docs : List Document) (tail : List Mark) (o : Option Id)
    → id_in doc ≡ o → marked document_rules docs tail ≡ marked document_rules docs [] ++ tail
    → marked document_rules (doc ∷ docs) tail ≡ marked document_rules (doc ∷ docs) [] ++ tail
append_case doc docs tail None is more = marked_none doc docs tail is ∙ more
    ∙ ap (λ xs. xs ++ tail) (sym (marked_none doc docs [] is))
append_case doc docs tail (Some id) is more = marked_some doc docs tail id is
    ∙ ap (λ (xs : List Mark). (id, Some doc) ∷ xs) more
    ∙ ap (λ xs. xs ++ tail) (sym (marked_some doc docs [] id is))

pub marked_append : (docs : List Document) (tail : List Mark)
    → marked document_rules docs tail ≡ marked document_rules docs [] ++ tail
marked_append [] tail = refl
marked_append (doc ∷ docs) tail =
    append_case doc docs tail (id_in doc) refl (marked_append docs tail)

-- one more mark pushed
pub pushed : (marks after : List (Id × Held)) (one : Id × Held) (rest : List Mark) → after
    ≡ marks ++ one ∷ [] → map mark_of after ++ rest ≡ map mark_of marks ++ mark_of one ∷ rest
pushed marks after one rest is = ap (λ xs. map mark_of xs ++ rest) is
    ∙ ap (λ xs. xs ++ rest) (map-append mark_of marks (one ∷ []))
    ∙ append_assoc (map mark_of marks) (mark_of one ∷ []) rest

-- a part laid over those before it
pub part_laid : (all marks : List (Id × Held))
    → map mark_of (laid_over all marks) ≡ laid_over (map mark_of all) (map mark_of marks)
part_laid all marks = laid-map doc_in all marks

-- at last the id of the next
pub named_last : (docs : List Document) (cut : Option Id) (id copy : Id) (marks after : List (Id
    × Held)) (i : ℕ) → cut ≡ Some id → copy ≡ id → after ≡ marks ++ (copy, Nothing) ∷ []
    → map mark_of marks ++ marked document_rules (drop i docs) [] ≡ marked document_rules docs []
    → length docs ≤ i → map mark_of after ≡ marks_of document_rules (docs, cut)
named_last docs cut id copy marks after i is same pushes told far =
    let all = ap (λ xs. map mark_of marks
    ++ marked document_rules xs []) (sym (drop_all i docs far)) ∙ told in
    sym (append-nil (map mark_of after))
    ∙ pushed marks after (copy, Nothing) [] pushes
    ∙ ap (λ xs. xs ++ (copy, None) ∷ []) (sym (append-nil (map mark_of marks)) ∙ all)
    ∙ ap (λ (k : Id). marked document_rules docs [] ++ (k, None) ∷ []) same
    ∙ sym (marked_append docs ((id, None) ∷ []))
    ∙ ap (λ o. marks_of document_rules (docs, o)) (sym is)
