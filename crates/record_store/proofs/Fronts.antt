-- A front in the room before what a record carries.
use Rattle.std.proofs.Common.{◌≡◌, ◌≤◌, ◌-◌, ◌+◌, ℕ, List, [], ◌++◌, length, take, drop, ap, sym}
use Rattle.std.proofs.Common.{◌∙◌, arith, append-nil, length-drop}
use Rattle.std.proofs.lemmas.List.{take_at, take_all, take-append-drop, drop-append-le, drop-take}
use Rattle.std.proofs.lemmas.List.{length-take-le}
use Rattle.journal_rec.specs.Spelling.{record_bytes, front_bytes, body_bytes}
use Rattle.journal_rec.specs.declared.record.Rec.{Rec}
use Rattle.journal_rec.proofs.Parted.{parted}

-- what was written over all of a list
pub over_all : (x rest : List ℕ) (n : ℕ) → length x ≡ n → take n (x ++ rest) ≡ x
over_all x rest n e = take_at x rest n e

pub first_written : (front rest : List ℕ) (place : ℕ) → length front ≡ 64
    → drop place (take 64 (front ++ rest)) ≡ drop place front
first_written front rest place e = ap (λ (l : List ℕ). drop place l) (take_at front rest 64 e)

-- a record that carries something is all from its front on
pub whole_record : (bytes : List ℕ) (place : ℕ) (r : Rec) → place ≤ 64 → 64 ≤ length bytes
    → drop place (take 64 bytes) ≡ front_bytes r → body_bytes r ≡ drop 64 bytes
    → take (length bytes - place) (drop place bytes) ≡ record_bytes r
whole_record bytes place r le long front body =
    let within : place ≤ length (take 64 bytes) = omega (arith, le, length-take-le 64 bytes long) in
    take_all (length bytes - place) (drop place bytes) (omega (arith, length-drop place bytes))
    ∙ ap (λ (l : List ℕ). drop place l) (sym (take-append-drop 64 bytes))
    ∙ drop-append-le place (take 64 bytes) (drop 64 bytes) within
    ∙ ap (λ (l : List ℕ). l ++ drop 64 bytes) front
    ∙ ap (λ (l : List ℕ). front_bytes r ++ l) (sym body)
    ∙ sym (parted r)

-- another is its front
pub bare_record : (bytes : List ℕ) (place : ℕ) (r : Rec) → place ≤ 64
    → drop place (take 64 bytes) ≡ front_bytes r → body_bytes r ≡ []
    → take (64 - place) (drop place bytes) ≡ record_bytes r
bare_record bytes place r le front body =
    let n : place + (64 - place) ≡ 64 = omega (arith, le) in
    sym (drop-take place (64 - place) bytes)
    ∙ ap (λ (m : ℕ). drop place (take m bytes)) n
    ∙ front
    ∙ sym (append-nil (front_bytes r))
    ∙ ap (λ (l : List ℕ). front_bytes r ++ l) (sym body)
    ∙ sym (parted r)
