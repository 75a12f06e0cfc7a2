-- Reading things one after the other, as a loop does: what is still read, after each turn.
use Rattle.std.proofs.Common.{◌≡◌, ℕ, suc, ◌-◌, ◌+◌, ◌≤◌, ◌<◌, Bool, true, false, List, [], ◌∷◌}
use Rattle.std.proofs.Common.{◌++◌, Result, Ok, Err, refl, sym, ◌∙◌, arith}
use Rattle.std.specs.Bool.{MatchBool}
use Rattle.outcomes.specs.Bind.{◌>>=◌}
use Rattle.outcomes.specs.Outcome.{Refuses}
use Rattle.node_wire.specs.declared.error.WireErr.{WireErr}
use Rattle.node_wire.specs.Errors.{is_memory}
use Rattle.node_wire.specs.Reading.{Found, each_at}

turns : (count i : ℕ) → i < count → count - i ≡ suc (count - (i + 1))
turns count i lt = omega arith

-- a turn that is refused refuses the whole, unless it wants memory
refused : {A B : Type 0} (memory : Bool) (e : WireErr) (turn : Result A WireErr) (next : A
    → Result B WireErr) (whole : Result B WireErr) → MatchBool memory (Unit {0}) (turn ≡ Err e)
    → (turn >>= next) ≡ whole → MatchBool memory (Unit {0}) (whole ≡ Err e)
refused true e turn next whole h so_far = tt
refused false e turn next whole h so_far = sym so_far ∙ rw h refl

pub each_more : {A : Type 0} (read : List ℕ → Found A) (count i : ℕ) (front : List A)
    (bytes after : List ℕ) (x : A) (whole : Found (List A)) → i < count → read bytes ≡ Ok (x, after)
    → each_at read (count - i) front bytes ≡ whole
    → each_at read (count - (i + 1)) (front ++ x ∷ []) after ≡ whole
each_more read count i front bytes after x whole lt h so_far =
    let one : each_at read (count - i) front bytes
    ≡ each_at read (count - (i + 1)) (front ++ x ∷ []) after = rw (turns count i lt, h) refl in
    sym one ∙ so_far

pub each_end : {A : Type 0} (read : List ℕ
    → Found A) (count i : ℕ) (front : List A) (bytes : List ℕ) (whole : Found (List A)) → count ≤ i
    → each_at read (count - i) front bytes ≡ whole → whole ≡ Ok (front, bytes)
each_end read count i front bytes whole le so_far =
    let k : count - i ≡ 0 = omega arith in
    sym so_far ∙ rw k refl

pub each_refused : {A : Type 0} (read : List ℕ → Found A) (count i : ℕ) (front : List A) (bytes :
    List ℕ) (e : WireErr) (whole : Found (List A)) → i < count → Refuses is_memory e (read bytes)
    → each_at read (count - i) front bytes ≡ whole → Refuses is_memory e whole
each_refused read count i front bytes e whole lt h so_far =
    let one : each_at read (count - i) front bytes ≡ (read bytes >>= λ x.
    each_at read (count - (i + 1)) (front ++ x.0 ∷ []) x.1) = rw (turns count i lt) refl in
    refused (is_memory e) e (read bytes)
    (λ x. each_at read (count - (i + 1)) (front ++ x.0 ∷ []) x.1) whole h (sym one ∙ so_far)
