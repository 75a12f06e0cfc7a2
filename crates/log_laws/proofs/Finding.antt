-- What is read of the payloads of records.
use Rattle.std.proofs.Common.{◌≡◌, ◌⊎◌, inl, inr, ℕ, ◌+◌, List, [], ◌∷◌, ◌++◌, Option, Some, None}
use Rattle.std.proofs.Common.{Result, Ok, Err, refl, sym, ap, ◌∙◌}
use Rattle.journal_core.specs.Frames.{payloads_of}
use Rattle.journal_core.specs.Left.{Leaves}
use Rattle.journal_rec.specs.Reading.{record_of}
use Rattle.journal_rec.specs.declared.error.RecErr.{RecErr}
use Rattle.journal_rec.specs.declared.error.RecErr.TheVariants.{Short}
use Rattle.journal_rec.specs.declared.record.Rec.{Rec}
use Rattle.record_laws.specs.Fits.{RecordFits}
use Rattle.record_laws.proofs.Records.{record_again}
use Rattle.record_store.specs.Found.{in_front, read_then, records_from, records_of, FoundIn}
use Rattle.record_store.specs.Logged.{IsOf, AreOf, listed, payload_in}
use Rattle.record_store.proofs.Gathered.{are_push}
use Rattle.log_laws.specs.Fitting.{AllFit, HandFits}

-- a payload of a record that fits is read as that
one_read : (payload : List ℕ) (r : Rec) → IsOf payload r → RecordFits r → record_of payload ≡ Ok r
one_read payload r (inl is) fits = is
one_read payload r (inr spelled) fits = ap record_of spelled ∙ record_again r fits

all_read : (number : ℕ) (payloads : List (List ℕ)) (recs : List Rec) → AreOf payloads recs
    → AllFit recs → records_from number payloads ≡ Ok recs
all_read number [] [] are fit = refl
all_read number [] (r ∷ recs) are fit = absurd are
all_read number (payload ∷ payloads) [] are fit = absurd are
all_read number (payload ∷ payloads) (r ∷ recs) are fit =
    ap (λ (x : Result Rec RecErr). read_then number x (records_from (number + 1) payloads))
    (one_read payload r are.0 fit.0)
    ∙ ap (λ (x : Result (List Rec) ℕ). in_front r x)
    (all_read (number + 1) payloads recs are.1 fit.1)

fit_push : (recs : List Rec) (r : Rec) → AllFit recs → RecordFits r → AllFit (recs ++ r ∷ [])
fit_push [] r fit one = (one, tt)
fit_push (q ∷ recs) r fit one = (fit.0, fit_push recs r fit.1 one)

-- no record has no bytes
no_record : record_of [] ≡ Err Short
unfolding record_of
no_record = refl

-- so a payload without bytes after others is the one that is refused
none_read : (number : ℕ) (payloads : List (List ℕ)) (recs : List Rec) → AreOf payloads recs
    → AllFit recs → (index : ℕ) × (records_from number (payloads ++ [] ∷ []) ≡ Err index)
none_read number [] recs are fit =
    (number, ap (λ (x : Result Rec RecErr). read_then number x (Ok [])) no_record)
none_read number (payload ∷ payloads) [] are fit = absurd are
none_read number (payload ∷ payloads) (r ∷ recs) are fit =
    let more = none_read (number + 1) payloads recs are.1 fit.1 in (
      more.0,
      ap (λ (x : Result Rec RecErr). read_then number x
          (records_from (number + 1) (payloads ++ [] ∷ []))) (one_read payload r are.0 fit.0)
          ∙ ap (λ (x : Result (List Rec) ℕ). in_front r x) more.1,
    )

behind : (payloads : List (List ℕ)) (recs found : List Rec) (hand : Option Rec)
    → AreOf payloads recs → AllFit recs → HandFits hand
    → records_of (payloads ++ payload_in hand ∷ []) ≡ Ok found
    → (found ≡ recs) ⊎ (found ≡ recs ++ listed hand)
behind payloads recs found None are fit hand_fits h = let none =
    none_read 0 payloads recs are fit in absurd cc
behind payloads recs found (Some r) are fit hand_fits h =
    let all : records_of (payloads ++ payload_in (Some r) ∷ []) ≡ Ok (recs ++ r ∷ []) =
    all_read 0 _ _ (are_push payloads recs (payload_in (Some r)) r are (inr refl))
    (fit_push recs r fit hand_fits) in
    inr cc

same_payloads : (file : List ℕ) (a b : List (List ℕ)) → payloads_of file ≡ Ok a
    → payloads_of file ≡ Ok b → a ≡ b
same_payloads file a b h k = cc

pub left_found : (payloads : List (List ℕ)) (recs found : List Rec) (hand : Option Rec) (file : List
    ℕ) → AreOf payloads recs → Leaves payloads (payload_in hand) file → AllFit recs → HandFits hand
    → FoundIn (Unit {0}) file found → (found ≡ recs) ⊎ (found ≡ recs ++ listed hand)
left_found payloads recs found hand file are leaves fit hand_fits f =
    let has = f.file_has tt in
    elim leaves.reads [
      | inl these ↦
          let same : f.payloads ≡ payloads = same_payloads file f.payloads payloads has these in
          let read : records_of payloads ≡ Ok found = ap records_of (sym same) ∙ f.are in
          let all : records_of payloads ≡ Ok recs = all_read 0 payloads recs are fit in
          inl cc
      | inr more ↦
          let same : f.payloads ≡ payloads ++ payload_in hand ∷ [] =
          same_payloads file f.payloads (payloads ++ payload_in hand ∷ []) has more in
          behind payloads recs found hand are fit hand_fits (ap records_of (sym same) ∙ f.are)
    ]
