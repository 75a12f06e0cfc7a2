-- A document's fault is told exactly where it is the first.
use Rattle.std.proofs.Common.{◌≡◌, ◌↔◌, inl, inr, ℕ, ◌-◌, ◌+◌, ◌^◌, ◌≤◌, ◌<◌, min, cond, eqb, ltb}
use Rattle.std.proofs.Common.{List, [], ◌∷◌, ◌++◌, length, get_or, drop, Result, Ok, Err, sym, ap}
use Rattle.std.proofs.Common.{subst, ◌∙◌, arith}
use Rattle.std.specs.Int.{w32, to_le_bytes}
use Rattle.std.proofs.lemmas.Bool.{ltb-false, ltb-true, eqb-true, eqb-false}
use Rattle.std.proofs.lemmas.List.{length-append, nil_from_length}
use Rattle.outcomes.specs.Bind.{◌>>=◌}
use Rattle.outcomes.proofs.Binding.{ok_is}
use Rattle.bson_core.specs.declared.error.BsonErr.{BsonErr}
use Rattle.bson_core.specs.declared.error.BsonErr.TheVariants as fault
use Rattle.bson_core.specs.Fields.{Document}
use Rattle.bson_core.specs.Written.{most}
use Rattle.bson_core.specs.Reading.{place, or_fault, fixed_at, nested_at, document_of}
use Rattle.bson_core.proofs.Again.{number32_again}
use Rattle.bson_core.proofs.Sound.{IsInput}
use Rattle.codec_laws.specs.Faults.{number_from}
use Rattle.codec_laws.specs.First.{HasWrongCount, Holds, IsFirst, HasFirst, IsTold}
use Rattle.codec_laws.proofs.Outer.{front_number, short_is, large_is, count_is}
use Rattle.codec_laws.proofs.Firsts.{first_is_told}
use Rattle.codec_laws.proofs.Only.{err_test, err_held, made_err, document_first}

-- the number in front is the first
same_number : (n : ℕ) (rest bytes : List ℕ) → 5 ≤ length bytes → n < 2 ^ 32
    → bytes ≡ to_le_bytes w32 n ++ rest → n ≡ number_from 0 bytes
same_number n rest bytes long lt is =
    let read : fixed_at w32 bytes ≡ Ok (n, rest) = ap (fixed_at w32) is
    ∙ ap (or_fault fault.Short) (number32_again n rest lt) in
    let both : ◌≡◌ {A = Result (ℕ × List ℕ) BsonErr} (Ok (n, rest))
    (Ok (number_from 0 bytes, drop 4 bytes)) = sym read ∙ front_number bytes long in
    ap (λ (x : ℕ × List ℕ). x.0) (ok_is (n, rest) (number_from 0 bytes, drop 4 bytes) both)

right_count : (bytes : List ℕ) (e : BsonErr) (at : ℕ) → 5 ≤ length bytes
    → number_from 0 bytes ≡ length bytes → HasWrongCount e at bytes → ⊥
right_count bytes e at long same h = elim (h.1) [
  | inl short ↦ omega arith
  | inr wrong ↦
      let n_is = same_number wrong.0 wrong.1 bytes long wrong.3 wrong.2 in
      let len : length bytes ≡ 4 + length wrong.1 = ap length wrong.2
      ∙ length-append (to_le_bytes w32 wrong.0) wrong.1 in
      elim (wrong.4) [
        | inl small ↦ omega (arith, small, n_is, same, long)
        | inr past ↦ omega (arith, past, n_is, same, len)
      ]
]

none_left : (n : ℕ) → n - n ≡ 0
none_left n = omega arith

whole_first : (limit : ℕ) (bytes : List ℕ) (e : BsonErr) → 5 ≤ length bytes
    → number_from 0 bytes ≡ length bytes → number_from 0 bytes ≤ min limit most
    → Holds (IsFirst 99 e) (place (length bytes) bytes) bytes → HasFirst limit bytes e
whole_first limit bytes e long same small h =
    let elements = h.0 in
    let n_is : length elements + 5 ≡ number_from 0 bytes =
    same_number (length elements + 5) (elements ++ h.1 ∷ h.2) bytes long h.4 h.3 in
    let len : length bytes ≡ length elements + 5 + length h.2 = omega (
      arith,
      ap length h.3,
      length-append (to_le_bytes w32 (length elements + 5)) (elements ++ h.1 ∷ h.2),
      length-append elements (h.1 ∷ h.2),
    ) in
    let nothing : h.2 ≡ [] = nil_from_length h.2 (omega (arith, len, n_is, same)) in (
      elements,
      h.1,
      h.3 ∙ ap (λ (l : List ℕ). to_le_bytes w32 (length elements + 5)
          ++ (elements ++ h.1 ∷ l)) nothing,
      omega (arith, n_is, small),
      subst (λ (k : ℕ). IsFirst 99 e k elements h.1) (none_left (length bytes)) h.5,
    )

inside_told : (limit : ℕ) (bytes : List ℕ) (e : BsonErr) → ((i : ℕ) → get_or bytes i 0 < 256)
    → 5 ≤ length bytes → number_from 0 bytes ≤ min limit most → number_from 0 bytes ≡ length bytes
    → nested_at 100 (length bytes) bytes ≡ Err e → HasFirst limit bytes e
inside_told limit bytes e fits long small same failed =
    let input : IsInput bytes = record { fits = fits; short = omega (arith, small, same) } in
    elim (document_first 99 (length bytes) bytes e input (omega arith) failed) [
      | inl wrong ↦ absurd (right_count bytes e (place (length bytes) bytes) long same wrong)
      | inr holds ↦ whole_first limit bytes e long same small holds
    ]

long_told : (limit : ℕ) (bytes : List ℕ) (e : BsonErr) → ((i : ℕ) → get_or bytes i 0 < 256)
    → 5 ≤ length bytes
    → ◌≡◌ {A = Result Document BsonErr} (cond (ltb (min limit 2147483647) (number_from 0 bytes))
    (Err fault.TooLarge) (cond (eqb (number_from 0 bytes) (length bytes))
    (nested_at 100 (length bytes) bytes >>= λ x. Ok x.0) (Err (fault.Length 0)))) (Err e)
    → IsTold limit bytes e
long_told limit bytes e fits long failed =
    elim (err_test (ltb (min limit 2147483647) (number_from 0 bytes)) fault.TooLarge _ e failed) [
      | inl above ↦ inl (inr (sym above.1, long, ltb-true _ _ above.0))
      | inr below ↦
          let small : number_from 0 bytes ≤ min limit most = ltb-false _ _ below.0 in
          elim (err_held (eqb (number_from 0 bytes) (length bytes)) (fault.Length 0)
          (nested_at 100 (length bytes) bytes >>= λ x. Ok x.0) e below.1) [
            | inr other ↦ inr (inl (sym other.1, long, small, eqb-false _ _ other.0))
            | inl same ↦ inr (inr (inside_told limit bytes e fits long small (eqb-true _ _ same.0)
                (made_err (nested_at 100 (length bytes) bytes) (λ x. x.0) e same.1)))
          ]
    ]

only : (limit : ℕ) (bytes : List ℕ) (e : BsonErr) → ((i : ℕ) → get_or bytes i 0 < 256)
    → document_of limit bytes ≡ Err e → IsTold limit bytes e
unfolding document_of
only limit bytes e fits failed = elim (err_test (ltb (length bytes) 5) fault.Short _ e failed) [
  | inl short ↦ inl (inl (sym short.1, ltb-true _ _ short.0))
  | inr more ↦
      let long : 5 ≤ length bytes = ltb-false _ _ more.0 in
      long_told limit bytes e fits long (rw (front_number bytes long) at more.1)
]

-- a fault that is told so
as_told : (limit : ℕ) (bytes : List ℕ) (d e : BsonErr) → e ≡ d → document_of limit bytes ≡ Err d
    → document_of limit bytes ≡ Err e
as_told limit bytes d e is h = h ∙ ap (λ (x : BsonErr). Err x) (sym is)

again : (limit : ℕ) (bytes : List ℕ) (e : BsonErr) → IsTold limit bytes e
    → document_of limit bytes ≡ Err e
again limit bytes e (inl (inl h)) = as_told limit bytes fault.Short e h.0 (short_is limit bytes h.1)
again limit bytes e (inl (inr h)) =
    as_told limit bytes fault.TooLarge e h.0 (large_is limit bytes h.1 h.2)
again limit bytes e (inr (inl h)) =
    as_told limit bytes (fault.Length 0) e h.0 (count_is limit bytes h.1 h.2 h.3)
again limit bytes e (inr (inr h)) = subst (λ (b : List ℕ). document_of limit b
    ≡ Err e) (sym h.2) (first_is_told limit h.0 h.1 e h.3 h.4)

pub exactly_first : (bytes : List ℕ) → ((i : ℕ) → get_or bytes i 0 < 256)
    → (limit : ℕ) (e : BsonErr) → (document_of limit bytes ≡ Err e) ↔ IsTold limit bytes e
exactly_first bytes fits limit e = (λ h. only limit bytes e fits h, λ h. again limit bytes e h)
