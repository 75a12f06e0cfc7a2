-- Reading payloads as records, one after the other.
use Rattle.std.proofs.Common.{◌≡◌, inl, ℕ, ◌+◌, List, [], ◌∷◌, ◌++◌, Result, Ok, Err, refl, sym, ap}
use Rattle.std.proofs.Common.{◌∙◌, append_assoc, append-nil}
use Rattle.journal_rec.specs.Reading.{record_of}
use Rattle.journal_rec.specs.declared.error.RecErr.{RecErr}
use Rattle.journal_rec.specs.declared.record.Rec.{Rec}
use Rattle.record_store.specs.Found.{in_front, read_then, records_from, records_of, RefusesPayload}
use Rattle.record_store.specs.Found.{RefusesPayloads}
use Rattle.record_store.specs.Logged.{IsOf, AreOf}
use Rattle.record_store.specs.declared.error.NodeErr.{NodeErr}
use Rattle.record_store.specs.declared.error.NodeErr.TheVariants.{DiskFault, BadJournal, Memory}

-- what was read in front, and what follows
abbrev pub behind : List Rec → Result (List Rec) ℕ → Result (List Rec) ℕ
behind front (Ok recs) = Ok (front ++ recs)
behind front (Err index) = Err index

behind_none : (following : Result (List Rec) ℕ) → behind [] following ≡ following
behind_none (Ok recs) = refl
behind_none (Err index) = refl

behind_one : (front : List Rec) (r : Rec) (following : Result (List Rec) ℕ)
    → behind front (in_front r following) ≡ behind (front ++ r ∷ []) following
behind_one front r (Ok recs) = ap (λ (l : List Rec). Ok l) (sym (append_assoc front (r ∷ []) recs))
behind_one front r (Err index) = refl

-- Between two turns: what was read in front and what is read of the rest is what is read of all.
pub record Reading (front : List Rec) (number : ℕ) (rest all : List (List ℕ)) : Type 0 where
  pub reads : behind front (records_from number rest) ≡ records_of all

pub reads_none : (all : List (List ℕ)) → Reading [] 0 all all
reads_none all = record { reads = behind_none (records_of all) }

pub reads_one : (front : List Rec) (number : ℕ) (payload : List ℕ) (rest all : List (List ℕ))
    (r : Rec) → record_of payload ≡ Ok r → Reading front number (payload ∷ rest) all
    → Reading (front ++ r ∷ []) (number + 1) rest all
reads_one front number payload rest all r is so_far = record {
  reads = sym (behind_one front r (records_from (number + 1) rest)) ∙ ap (λ (x : Result Rec RecErr).
      behind front (read_then number x (records_from (number + 1) rest))) (sym is) ∙ so_far.reads;
}

pub reads_all : (front : List Rec) (number : ℕ) (all : List (List ℕ)) → Reading front number [] all
    → records_of all ≡ Ok front
reads_all front number all so_far = sym so_far.reads
    ∙ ap (λ (l : List Rec). Ok l) (append-nil front)

pub reads_refused : (e : NodeErr) (front : List Rec) (number : ℕ)
    (payload : List ℕ) (rest all : List (List ℕ)) → RefusesPayload number payload e
    → Reading front number (payload ∷ rest) all → RefusesPayloads all e
reads_refused DiskFault front number payload rest all refused so_far = absurd refused
reads_refused (BadJournal index) front number payload rest all refused so_far =
    sym so_far.reads ∙ ap (λ (x : Result Rec RecErr). behind front (read_then number x
    (records_from (number + 1) rest))) refused.2 ∙ ap (λ (n : ℕ). Err n) (sym refused.0)
reads_refused Memory front number payload rest all refused so_far = tt

-- the payloads are of the records that were read
are_case : (number : ℕ) (payload : List ℕ) (payloads : List (List ℕ)) (recs : List Rec)
    (x : Result Rec RecErr) (y : Result (List Rec) ℕ) → record_of payload ≡ x
    → records_from (number + 1) payloads ≡ y
    → ((rest : List Rec) → records_from (number + 1) payloads ≡ Ok rest → AreOf payloads rest)
    → read_then number x y ≡ Ok recs → AreOf (payload ∷ payloads) recs
are_case number payload payloads recs (Err e) y is follows more h = absurd cc
are_case number payload payloads recs (Ok r) (Err index) is follows more h = absurd cc
are_case number payload payloads [] (Ok r) (Ok rest) is follows more h = absurd cc
are_case number payload payloads (q ∷ recs) (Ok r) (Ok rest) is follows more h =
    (inl cc, more recs cc)

pub are_of : (number : ℕ) (payloads : List (List ℕ)) (recs : List Rec)
    → records_from number payloads ≡ Ok recs → AreOf payloads recs
are_of number [] [] h = tt
are_of number [] (r ∷ recs) h = absurd cc
are_of number (payload ∷ payloads) recs h =
    are_case number payload payloads recs (record_of payload) (records_from (number + 1) payloads)
    refl refl (λ rest. are_of (number + 1) payloads rest) h

-- one more of each
pub are_push : (payloads : List (List ℕ)) (recs : List Rec) (payload : List ℕ) (r : Rec)
    → AreOf payloads recs → IsOf payload r → AreOf (payloads ++ payload ∷ []) (recs ++ r ∷ [])
are_push [] [] payload r are is = (is, tt)
are_push [] (q ∷ recs) payload r are is = absurd are
are_push (p ∷ payloads) [] payload r are is = absurd are
are_push (p ∷ payloads) (q ∷ recs) payload r are is =
    (are.0, are_push payloads recs payload r are.1 is)
