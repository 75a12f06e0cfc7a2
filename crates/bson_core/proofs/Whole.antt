-- The document that is all of the bytes.
use Rattle.std.proofs.Common.{◌≡◌, ℕ, ◌+◌, ◌^◌, ◌≤◌, ◌<◌, min, true, false, eqb, ltb, List, [], ◌∷◌}
use Rattle.std.proofs.Common.{◌++◌, length, get_or, Result, Ok, Err, refl, sym, ap, subst, ◌∙◌}
use Rattle.std.proofs.Common.{append_assoc, arith}
use Rattle.std.specs.Prelude.{IfOk}
use Rattle.std.specs.Int.{w32, to_le_bytes}
use Rattle.std.proofs.lemmas.Bool.{ltb-false, le-ltb, eqb-true, eq-eqb}
use Rattle.std.proofs.lemmas.List.{append-nil, nil_from_length, length-append}
use Rattle.outcomes.proofs.Binding.{bind_ok, passed, held, ok_is}
use Rattle.bson_core.specs.declared.error.BsonErr.{BsonErr}
use Rattle.bson_core.specs.declared.error.BsonErr.TheVariants.{Short, Length, TooLarge}
use Rattle.bson_core.specs.Fields.{Document}
use Rattle.bson_core.specs.Spelling.{framed}
use Rattle.bson_core.specs.Grammar.{Reads}
use Rattle.bson_core.specs.Reading.{Gives, fixed_at, document_at, nested_at, value_by, document_of}
use Rattle.bson_core.proofs.Lengths.{length_framed}
use Rattle.bson_core.proofs.Sound.{IsInput, nested_found, value_found}
use Rattle.bson_core.proofs.Again.{number32_again, document_again, value_again}

-- the count in front of a document
pub count_in_front : (e rest : List ℕ) → length e + 5 < 2 ^ 31
    → fixed_at w32 (framed e ++ rest) ≡ Ok (length e + 5, (e ++ 0 ∷ []) ++ rest)
unfolding framed
count_in_front e rest lt = rw (
  append_assoc (to_le_bytes w32 (length e + 5)) (e ++ 0 ∷ []) rest,
  number32_again (length e + 5) ((e ++ 0 ∷ []) ++ rest) (omega arith),
) refl

-- a document whose count is that of all bytes is all of them
nothing_behind : (e rest bytes : List ℕ) (count : ℕ) (after : List ℕ) → length e + 5 < 2 ^ 31
    → bytes ≡ framed e ++ rest → fixed_at w32 bytes ≡ Ok (count, after)
    → count ≡ length bytes → rest ≡ []
nothing_behind e rest bytes count after lt is number all =
    let read : ◌≡◌ {A = Result (ℕ × List ℕ) BsonErr} (Ok (length e + 5, (e ++ 0 ∷ []) ++ rest)) (Ok
    (count, after)) = sym (count_in_front e rest lt) ∙ sym (ap (fixed_at w32) is) ∙ number in
    let same : length e + 5 ≡ count = ap (λ (x : ℕ × List ℕ).
    x.0) (ok_is (length e + 5, (e ++ 0 ∷ []) ++ rest) (count, after) read) in
    nil_from_length rest
    (omega (arith, ap length is, length-append (framed e) rest, length_framed e))

pub whole_found : (limit : ℕ) (bytes : List ℕ) (d : Document) → ((i : ℕ) → get_or bytes i 0 < 256)
    → document_of limit bytes ≡ Ok d → Reads 100 d bytes × (length bytes ≤ limit)
unfolding document_of
whole_found limit bytes d fits e =
    let g0 = passed (ltb (length bytes) 5) Short _ d e in
    let b = bind_ok (fixed_at w32 bytes) _ d g0.1 in
    let g1 = passed (ltb (min limit 2147483647) b.0.0) TooLarge _ d b.2 in
    let g2 = held (eqb b.0.0 (length bytes)) (Length 0) _ d g1.1 in
    let below : b.0.0 ≤ min limit 2147483647 = ltb-false _ _ g1.0 in
    let all : b.0.0 ≡ length bytes = eqb-true _ _ g2.0 in
    let input : IsInput bytes = record { fits = fits; short = omega arith } in
    let x = bind_ok (nested_at 100 (length bytes) bytes) (λ x. Ok x.0) d g2.1 in
    let found = nested_found 99 (value_found 99) (length bytes) bytes x.0 input x.1 in
    let framed-is : bytes ≡ framed found.1.0 ++ x.0.1 = found.2
    ∙ ap (λ (t : List ℕ). t ++ x.0.1) found.1.2 in
    let nothing : x.0.1 ≡ [] =
    nothing_behind found.1.0 x.0.1 bytes b.0.0 b.0.1 found.1.3 framed-is b.1 all in
    let whole : bytes ≡ found.0 = found.2 ∙ ap (λ (t : List ℕ). found.0 ++ t) nothing
    ∙ append-nil found.0 in (
      subst (λ (y : Document). Reads 100 y bytes) (ok_is x.0.0 d x.2)
          (found.1.0, found.1.1, whole ∙ found.1.2, found.1.3),
      omega arith,
    )

pub whole_again : (limit : ℕ) (bytes : List ℕ) (d : Document) → Reads 100 d bytes
    → length bytes ≤ limit → document_of limit bytes ≡ Ok d
unfolding document_of nested_at
whole_again limit bytes d h short =
    let count = length h.0 + 5 in
    let rest = h.0 ++ 0 ∷ [] in
    let len : length bytes ≡ count = omega (arith, ap length h.2, length_framed h.0) in
    let closed : bytes ≡ framed h.0 ++ [] = h.2 ∙ sym (append-nil (framed h.0)) in
    let number : fixed_at w32 bytes ≡ Ok (count, rest ++ []) = ap (fixed_at w32) closed
    ∙ count_in_front h.0 [] h.3 in
    let five : ltb (length bytes) 5 ≡ false = le-ltb _ _ (omega arith) in
    let low : ltb (min limit 2147483647) count ≡ false = le-ltb _ _ (omega (arith, h.3)) in
    let same : eqb count (length bytes) ≡ true = eq-eqb _ _ (sym len) in
    let document : document_at (value_by (nested_at 99)) (length bytes) bytes ≡ Ok (d, []) =
    ap (document_at (value_by (nested_at 99)) (length bytes)) closed ∙ document_again 99
    (value_by (nested_at 99)) (value_again 99) (length bytes) d h.0 [] h.1 h.3 in
    rw (five, number, low, same, document) refl

pub is_found : (limit : ℕ) (bytes : List ℕ) (r : Result Document BsonErr)
    → ((i : ℕ) → get_or bytes i 0 < 256) → Gives (λ (d : Document). d) r (document_of limit bytes)
    → IfOk r (λ d. Reads 100 d bytes × (length bytes ≤ limit))
is_found limit bytes (Ok d) fits given = whole_found limit bytes d fits given
is_found limit bytes (Err e) fits given = tt
