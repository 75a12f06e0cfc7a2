-- Documents are told apart by their bytes.
use Rattle.std.proofs.Common.{◌≡◌, ℕ, ◌+◌, ◌^◌, ◌<◌, List, [], ◌∷◌, ◌++◌, length, Result, Ok, sym}
use Rattle.std.proofs.Common.{ap, ◌∙◌, arith}
use Rattle.std.specs.Int.{w32}
use Rattle.std.proofs.lemmas.List.{append-nil, nil_from_length, length-append}
use Rattle.outcomes.proofs.Binding.{ok_is}
use Rattle.bson_core.specs.declared.error.BsonErr.{BsonErr}
use Rattle.bson_core.specs.Fields.{Document}
use Rattle.bson_core.specs.Spelling.{framed}
use Rattle.bson_core.specs.Grammar.{Reads}
use Rattle.bson_core.specs.Reading.{fixed_at}
use Rattle.bson_core.proofs.Lengths.{length_framed}
use Rattle.bson_core.proofs.Whole.{count_in_front, whole_again}

pub one_document : (a b : Document) (bytes : List ℕ) → Reads 100 a bytes → Reads 100 b bytes → a ≡ b
one_document a b bytes first second = ok_is a b (sym (whole_again (length bytes) bytes a first
    (omega arith)) ∙ whole_again (length bytes) bytes b second (omega arith))

-- the bytes of a document begin with their number
same_length : (e f rest : List ℕ) → length e + 5 < 2 ^ 31 → length f + 5 < 2 ^ 31
    → framed f ≡ framed e ++ rest → length e ≡ length f
same_length e f rest short long is =
    let closed : framed f ++ [] ≡ framed e ++ rest = append-nil (framed f) ∙ is in
    let read : ◌≡◌ {A = Result (ℕ × List ℕ) BsonErr} (Ok (length f + 5, (f ++ 0 ∷ []) ++ []))
    (Ok (length e + 5, (e ++ 0 ∷ []) ++ rest)) = sym (count_in_front f [] long)
    ∙ ap (fixed_at w32) closed ∙ count_in_front e rest short in
    let count : length f + 5 ≡ length e + 5 = ap (λ (x : ℕ × List ℕ). x.0)
    (ok_is (length f + 5, (f ++ 0 ∷ []) ++ []) (length e + 5, (e ++ 0 ∷ []) ++ rest) read) in
    omega arith

pub no_front : (levels depth : ℕ) (a b : Document) (bytes rest : List ℕ) → Reads levels a bytes
    → Reads depth b (bytes ++ rest) → rest ≡ []
no_front levels depth a b bytes rest first second =
    let is : framed second.0 ≡ framed first.0 ++ rest = sym second.2
    ∙ ap (λ (t : List ℕ). t ++ rest) first.2 in
    let same = same_length first.0 second.0 rest first.3 second.3 is in
    nil_from_length rest (omega (
      arith,
      ap length is,
      length-append (framed first.0) rest,
      length_framed first.0,
      length_framed second.0,
    ))
