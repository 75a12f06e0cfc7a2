-- Reading elements one after the other, as a loop does.
use Rattle.std.proofs.Common.{◌≡◌, ℕ, suc, ◌-◌, ◌+◌, ◌≤◌, ◌<◌, Bool, true, false, List, [], ◌∷◌}
use Rattle.std.proofs.Common.{◌++◌, Some, None, Result, Ok, Err, refl, sym, ap, ◌∙◌, append_assoc}
use Rattle.std.proofs.Common.{arith}
use Rattle.std.specs.Bool.{MatchBool}
use Rattle.std.proofs.lemmas.List.{append-nil}
use Rattle.outcomes.specs.Bind.{◌>>=◌}
use Rattle.outcomes.specs.Outcome.{Refuses}
use Rattle.bson_core.specs.declared.error.BsonErr.{BsonErr}
use Rattle.bson_core.specs.declared.error.BsonErr.TheVariants.{Length}
use Rattle.bson_core.specs.declared.value.Value.{Value}
use Rattle.bson_core.specs.Fields.{Document}
use Rattle.bson_core.specs.Reading.{is_memory, Reader, element_at, elements_at}

-- what was read before, and what is still read
abbrev pub with_front : Document → Result Document BsonErr → Result Document BsonErr
with_front front read = read >>= λ fields. Ok (front ++ fields)

regroup : (front : Document) (field : List ℕ × Value) (read : Result Document BsonErr) → with_front
    front (read >>= λ fields. Ok (field ∷ fields)) ≡ with_front (front ++ field ∷ []) read
regroup front field (Ok fields) = ap (λ (d : Document). Ok d) (simp append_assoc)
regroup front field (Err e) = refl

-- an element more
pub goes_on : (read : Reader) (start end : ℕ) (front : Document) (count i : ℕ) (bytes : List ℕ)
    (field : List ℕ × Value) (after : List ℕ) (whole : Result Document BsonErr) → i < count
    → element_at read start end bytes ≡ Ok (Some (field, after))
    → with_front front (elements_at read start end (count - i) bytes) ≡ whole → with_front (front
    ++ field ∷ []) (elements_at read start end (count - (i + 1)) after) ≡ whole
unfolding elements_at
goes_on read start end front count i bytes field after whole lt h so_far =
    let k : count - i ≡ suc (count - (i + 1)) = omega arith in
    let one : with_front front (elements_at read start end (count - i) bytes)
    ≡ with_front (front ++ field ∷ []) (elements_at read start end (count - (i + 1)) after) =
    rw (k, h) (regroup front field (elements_at read start end (count - (i + 1)) after)) in
    sym one ∙ so_far

-- no more bytes
pub stops : (read : Reader) (start end : ℕ) (front : Document) (count i : ℕ) (bytes : List ℕ)
    (whole : Result Document BsonErr) → i < count → element_at read start end bytes ≡ Ok None
    → with_front front (elements_at read start end (count - i) bytes) ≡ whole → whole ≡ Ok front
unfolding elements_at
stops read start end front count i bytes whole lt h so_far =
    let k : count - i ≡ suc (count - (i + 1)) = omega arith in
    let one : with_front front (elements_at read start end (count - i) bytes) ≡ Ok front =
    rw (k, h) (ap (λ (d : Document). Ok d) (append-nil front)) in
    sym so_far ∙ one

at_err : (read : Reader) (start end : ℕ) (front : Document) (n : ℕ) (bytes : List ℕ) (e : BsonErr)
    → element_at read start end bytes ≡ Err e
    → with_front front (elements_at read start end (suc n) bytes) ≡ Err e
unfolding elements_at
at_err read start end front n bytes e h = rw h refl

refused_or_memory : (memory : Bool) (e : BsonErr) (read : Reader) (start end : ℕ)
    (front : Document) (count i : ℕ) (bytes : List ℕ) (whole : Result Document BsonErr) → i < count
    → MatchBool memory (Unit {0}) (element_at read start end bytes ≡ Err e)
    → with_front front (elements_at read start end (count - i) bytes) ≡ whole
    → MatchBool memory (Unit {0}) (whole ≡ Err e)
refused_or_memory true e read start end front count i bytes whole lt h so_far = tt
refused_or_memory false e read start end front count i bytes whole lt h so_far =
    let k : count - i ≡ suc (count - (i + 1)) = omega arith in
    sym so_far ∙ rw k (at_err read start end front (count - (i + 1)) bytes e h)

-- an element that is refused, or for which there is no memory
pub refuses : (e : BsonErr) (read : Reader) (start end : ℕ) (front : Document)
    (count i : ℕ) (bytes : List ℕ) (whole : Result Document BsonErr) → i < count
    → Refuses is_memory e (element_at read start end bytes)
    → with_front front (elements_at read start end (count - i) bytes) ≡ whole
    → Refuses is_memory e whole
refuses e read start end front count i bytes whole lt h so_far =
    refused_or_memory (is_memory e) e read start end front count i bytes whole lt h so_far

-- as many elements as there can be, and no end
pub ends : (read : Reader) (start end : ℕ) (front : Document) (count i : ℕ) (bytes : List ℕ)
    (whole : Result Document BsonErr) → count ≤ i
    → with_front front (elements_at read start end (count - i) bytes) ≡ whole
    → whole ≡ Err (Length start)
unfolding elements_at
ends read start end front count i bytes whole le so_far =
    let k : count - i ≡ 0 = omega arith in
    let one : with_front front (elements_at read start end (count - i) bytes) ≡ Err (Length start) =
    rw k refl in
    sym so_far ∙ one
