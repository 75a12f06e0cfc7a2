-- Reading parts one after the other, as a loop does: what is still read, after each turn.
use Rattle.std.proofs.Common.{◌≡◌, ℕ, suc, ◌-◌, ◌+◌, ◌≤◌, ◌<◌, Bool, true, false, List, [], ◌∷◌}
use Rattle.std.proofs.Common.{◌++◌, Result, Ok, Err, refl, sym, ◌∙◌, arith}
use Rattle.std.specs.Bool.{MatchBool}
use Rattle.outcomes.specs.Bind.{◌>>=◌}
use Rattle.outcomes.specs.Outcome.{Refuses}
use Rattle.txn_types.specs.declared.write.Write.{Write}
use Rattle.journal_rec.specs.declared.error.RecErr.{RecErr}
use Rattle.journal_rec.specs.Errors.{is_memory}
use Rattle.journal_rec.specs.Reading.{part_at, parts_at, next_write_at, each_write_at}

turns : (count i : ℕ) → i < count → count - i ≡ suc (count - (i + 1))
turns count i lt = omega arith

-- a turn that is refused refuses the whole, unless it wants memory
refused : {A B : Type 0} (memory : Bool) (e : RecErr) (turn : Result A RecErr) (next : A
    → Result B RecErr) (whole : Result B RecErr) → MatchBool memory (Unit {0}) (turn ≡ Err e)
    → (turn >>= next) ≡ whole → MatchBool memory (Unit {0}) (whole ≡ Err e)
refused true e turn next whole h so_far = tt
refused false e turn next whole h so_far = sym so_far ∙ rw h refl

-- Participants.

abbrev pub Parts : Type 0
Parts = List (ℕ × ℕ)

pub parts_more : (count i : ℕ) (front : Parts) (bytes after : List ℕ) (part : ℕ
    × ℕ) (whole : Result (Parts × List ℕ) RecErr) → i < count → part_at bytes ≡ Ok (part, after)
    → parts_at (count - i) front bytes ≡ whole
    → parts_at (count - (i + 1)) (front ++ part ∷ []) after ≡ whole
unfolding parts_at
parts_more count i front bytes after part whole lt read so_far =
    let one : parts_at (count - i) front bytes ≡ parts_at (count - (i + 1)) (front ++ part
    ∷ []) after = rw (turns count i lt, read) refl in
    sym one ∙ so_far

pub parts_end : (count i : ℕ) (front : Parts) (bytes : List ℕ) (whole : Result (Parts × List ℕ)
    RecErr) → count ≤ i → parts_at (count - i) front bytes ≡ whole → whole ≡ Ok (front, bytes)
unfolding parts_at
parts_end count i front bytes whole le so_far =
    let k : count - i ≡ 0 = omega arith in
    sym so_far ∙ rw k refl

pub parts_refused : (count i : ℕ) (front : Parts) (bytes : List ℕ) (e : RecErr)
    (whole : Result (Parts × List ℕ) RecErr) → i < count → Refuses is_memory e (part_at bytes)
    → parts_at (count - i) front bytes ≡ whole → Refuses is_memory e whole
unfolding parts_at
parts_refused count i front bytes e whole lt h so_far =
    let one : parts_at (count - i) front bytes ≡ (part_at bytes >>= λ part.
    parts_at (count - (i + 1)) (front ++ part.0 ∷ []) part.1) = rw (turns count i lt) refl in
    refused (is_memory e) e (part_at bytes) (λ part. parts_at (count - (i + 1))
    (front ++ part.0 ∷ []) part.1) whole h (sym one ∙ so_far)

-- Writes.

pub writes_more : (count i end : ℕ) (front more : List Write) (bytes after : List ℕ) (whole : Result
    (List Write × List ℕ) RecErr) → i < count → next_write_at end front bytes ≡ Ok (more, after)
    → each_write_at (count - i) end front bytes ≡ whole
    → each_write_at (count - (i + 1)) end more after ≡ whole
unfolding each_write_at
writes_more count i end front more bytes after whole lt read so_far =
    let one : each_write_at (count - i) end front bytes
    ≡ each_write_at (count - (i + 1)) end more after = rw (turns count i lt, read) refl in
    sym one ∙ so_far

pub writes_end : (count i end : ℕ) (front : List Write) (bytes : List ℕ)
    (whole : Result (List Write × List ℕ) RecErr) → count ≤ i
    → each_write_at (count - i) end front bytes ≡ whole → whole ≡ Ok (front, bytes)
unfolding each_write_at
writes_end count i end front bytes whole le so_far =
    let k : count - i ≡ 0 = omega arith in
    sym so_far ∙ rw k refl

pub writes_refused : (count i end : ℕ) (front : List Write) (bytes : List ℕ)
    (e : RecErr) (whole : Result (List Write × List ℕ) RecErr) → i < count
    → Refuses is_memory e (next_write_at end front bytes)
    → each_write_at (count - i) end front bytes ≡ whole → Refuses is_memory e whole
unfolding each_write_at
writes_refused count i end front bytes e whole lt h so_far =
    let one : each_write_at (count - i) end front bytes ≡ (next_write_at end front bytes
    >>= λ x. each_write_at (count - (i + 1)) end x.0 x.1) = rw (turns count i lt) refl in
    refused (is_memory e) e (next_write_at end front bytes)
    (λ x. each_write_at (count - (i + 1)) end x.0 x.1) whole h (sym one ∙ so_far)
