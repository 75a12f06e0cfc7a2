-- Frames that stand in front of a byte at fault.
use Rattle.std.proofs.Common.{◌≡◌, ◌≤◌, ◌<◌, ◌+◌, ◌⊎◌, inl, inr, ℕ, suc, Bool, true, false, cond}
use Rattle.std.proofs.Common.{List, [], ◌∷◌, length, take, Ok, Err, nat_eq, nat_lt, refl, sym, ap}
use Rattle.std.proofs.Common.{subst, ◌∙◌, arith}
use Rattle.std.specs.Prelude.{IsTrue}
use Rattle.std.proofs.lemmas.Bool.{eqb-true, cases_lt}
use Rattle.std.proofs.lemmas.Bool.Decides.{nat_tests}
use Rattle.outside_core.specs.declared.disk.Disk.{Ghosts}
use Rattle.journal_core.specs.Frames.{header, payloads_of, read_behind}
use Rattle.journal_core.specs.Looks.{Looks}
use Rattle.journal_core.specs.Starts.{EndsAt, UnfitAt, Walked}
use Rattle.journal_core.proofs.Spelling.{reads_as, young_reads}
use Rattle.journal_core.proofs.Walks.{walked_bad, walked_to}

begins_case : (place at byte first : ℕ) (front file : List ℕ) (b : Bool)
    → nat_eq first byte ≡ b → place + suc (length front) ≤ at
    → cond b (read_behind (place + 1) front file) (Err place) ≡ Err at
    → (read_behind (place + 1) front file ≡ Err at → take (length front) file ≡ front)
    → take (suc (length front)) (first ∷ file) ≡ byte ∷ front
begins_case place at byte first front file true same le is more = let e : first ≡ byte =
    eqb-true first byte same in ap (λ (x : ℕ). x ∷ take (length front) file) e
    ∙ ap (λ (l : List ℕ). byte ∷ l) (more is)
begins_case place at byte first front file false same le is more = let e : place ≡ at = cc in
    absurd (omega (arith, e, le))

-- a file whose fault stands after this front begins with it
begins : (place at : ℕ) (front file : List ℕ) → place + length front ≤ at
    → read_behind place front file ≡ Err at → take (length front) file ≡ front
begins place at [] file le is = refl
begins place at (byte ∷ front) [] le is = let e : place ≡ at = cc in absurd (omega (arith, e, le))
begins place at (byte ∷ front) (first ∷ file) le is =
    begins_case place at byte first front file (nat_eq first byte) refl le is
    (begins (place + 1) at front file (omega (arith, le)))

-- a file with a fault is longer than a new one
pub long_enough : (file : List ℕ) (at : ℕ) → payloads_of file ≡ Err at → 17 < length file
long_enough file at is = elim (cases_lt 17 (length file)) [
  | inl long ↦ long
  | inr short ↦ let none : Ok [] ≡ Err at = sym (young_reads file short) ∙ is in absurd cc
]

lt_true : (m n : ℕ) → m < n → nat_lt m n ≡ true
lt_true m n lt = grind (arith, nat_tests)

pub header_of : (file : List ℕ) (at : ℕ) → 16 ≤ at → payloads_of file ≡ Err at
    → take 16 file ≡ header
header_of file at le is =
    begins 0 at header file le (sym (ap (λ (b : Bool). cond b (read_behind 0 header file) (Ok []))
    (lt_true 17 (length file) (long_enough file at is))) ∙ is)

one_fault : (file : List ℕ) (at place : ℕ) → payloads_of file ≡ Err at
    → payloads_of file ≡ Err place → at ≡ place
one_fault file at place is here = cc

-- where the walk stops in such a file, there the fault is
pub stops : (file : List ℕ) (at count place : ℕ) → payloads_of file ≡ Err at
    → Walked file count place → (((gate : ℕ) × EndsAt file place gate) ⊎ UnfitAt file place)
    → Walked file count at
stops file at count place is w (inl ends) =
    let e = walked_to file count place w ends.0 ends.1 in
    let none : payloads_of file ≡ Ok e.frames = ap payloads_of e.whole
    ∙ reads_as e.frames ends.0 e.rest e.short e.shut in
    absurd cc
stops file at count place is w (inr unfit) =
    subst (λ (n : ℕ). Walked file count n) (sym (one_fault file at place is
    (walked_bad file count place w (long_enough file at is) unfit))) w

module _ {D : Type 0} (d : Ghosts D) where
  -- a count of the frames in front of a fault, so far
  pub record Counting (first now : D) (count place len : ℕ) : Type 0 where
    pub tells : d.tells now ≡ d.tells first
    pub looks : IsTrue (d.tells first) → Looks d.seen d.may_leave d.moment d.left_since first now
    pub later : d.fault_count first ≤ d.fault_count now
    pub inside : place < len
    pub few : count ≤ place
    pub size : IsTrue (d.tells first) → length (d.seen first) ≡ len
    pub walked : IsTrue (d.tells first) → take 16 (d.seen first) ≡ header
        → Walked (d.seen first) count place
