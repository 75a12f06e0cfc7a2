-- Writes laid over others.
use Rattle.std.proofs.Common.{◌≡◌, ◌<◌, ℕ, zero, suc, List, [], ◌∷◌, ◌++◌, length, get_or, map}
use Rattle.std.proofs.Common.{refl, ap, sym, subst, ◌∙◌, arith}
use Rattle.txn_types.specs.Writes.{HasOwnId, AllHaveOwnIds}
use Rattle.txn_types.specs.declared.write.Write.{Write}
use Rattle.txn_semantics.specs.Keyed.{put, laid}
use Rattle.txn_semantics.specs.Writes.{Place, place_of, place_cmp, placed, write_set}

kept_in : (writes : List Write) (i : ℕ) (write : Write) → AllHaveOwnIds writes → i < length writes
    → HasOwnId (get_or writes i write)
kept_in [] i write all below = absurd (omega (arith, below))
kept_in (first ∷ writes) zero write all below = all.0
kept_in (first ∷ writes) (suc i) write all below =
    kept_in writes i write all.1 (omega (arith, below))

-- each of the writes is kept
pub kept_at : (writes : List Write) (i : ℕ) (write : Write) → AllHaveOwnIds writes
    → i < length writes → write ≡ get_or writes i write → HasOwnId write
kept_at writes i write all below is = subst HasOwnId (sym is) (kept_in writes i write all below)

pub laid-append : (rows : List (Place × Write)) (xs ys : List Write) → laid place_cmp rows
    (map placed (xs ++ ys)) ≡ laid place_cmp (laid place_cmp rows (map placed xs)) (map placed ys)
laid-append rows [] ys = refl
laid-append rows (x ∷ xs) ys = laid-append (put place_cmp (place_of x) x rows) xs ys

-- a transaction's own writes and those of a statement, laid over nothing
pub merged_is : (own writes slice : List Write) (none first last : List (Place × Write))
    → none ≡ [] → first ≡ laid place_cmp none (map placed own) → slice ≡ writes
    → last ≡ laid place_cmp first (map placed slice)
    → map (λ (row : Place × Write). row.1) last ≡ write_set (own ++ writes)
merged_is own writes slice none first last hn hf hs hl =
    ap (map (λ (row : Place × Write). row.1))
    (hl ∙ ap (λ ws. laid place_cmp first (map placed ws)) hs
    ∙ ap (λ rows. laid place_cmp rows (map placed writes)) (hf
    ∙ ap (λ rows. laid place_cmp rows (map placed own)) hn) ∙ sym (laid-append [] own writes))
