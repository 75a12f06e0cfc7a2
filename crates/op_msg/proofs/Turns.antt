-- Reading parts one after the other, as a loop does: what is still read, after each turn.
use Rattle.std.proofs.Common.{◌≡◌, ℕ, suc, ◌-◌, ◌+◌, ◌≤◌, ◌<◌, Bool, true, false, List, [], ◌∷◌}
use Rattle.std.proofs.Common.{◌++◌, length, Option, Result, Ok, Err, refl, sym, ◌∙◌, arith}
use Rattle.std.specs.Bool.{MatchBool}
use Rattle.outcomes.specs.Outcome.{Refuses}
use Rattle.std.proofs.lemmas.List.{nil_from_length}
use Rattle.outcomes.specs.Bind.{◌>>=◌}
use Rattle.bson_core.specs.Fields.{Document}
use Rattle.op_msg.specs.declared.frame.FrameErr.{FrameErr}
use Rattle.op_msg.specs.declared.frame.FrameErr.TheVariants.{Section}
use Rattle.op_msg.specs.Errors.{is_memory}
use Rattle.op_msg.specs.Message.{Sequence, has_flag}
use Rattle.op_msg.specs.Reading.{Found, finish, document_at, documents_at, section_at, sections_at}
use Rattle.op_msg.specs.Reading.{least_flag}

turns : (count i : ℕ) → i < count → count - i ≡ suc (count - (i + 1))
turns count i lt = omega arith

-- a turn that is refused refuses the whole, unless it wants memory
refused : {A B : Type 0} (memory : Bool) (e : FrameErr) (turn : Result A FrameErr) (next : A
    → Result B FrameErr) (whole : Result B FrameErr) → MatchBool memory (Unit {0}) (turn ≡ Err e)
    → (turn >>= next) ≡ whole → MatchBool memory (Unit {0}) (whole ≡ Err e)
refused true e turn next whole h so_far = tt
refused false e turn next whole h so_far = sym so_far ∙ rw h refl

-- Documents.

pub documents_more : (count i : ℕ) (front : List Document) (bytes after : List ℕ) (doc : Document)
    (whole : Result (List Document) FrameErr) → i < count → (length bytes ≡ 0 → ⊥)
    → document_at bytes ≡ Ok (doc, after)
    → documents_at (count - i) front bytes ≡ whole
    → documents_at (count - (i + 1)) (front ++ doc ∷ []) after ≡ whole
unfolding documents_at
documents_more count i front [] after doc whole lt some read so_far = absurd (some refl)
documents_more count i front (b ∷ bytes) after doc whole lt some read so_far =
    let one : documents_at (count - i) front (b ∷ bytes) ≡ documents_at (count - (i + 1)) (front
    ++ doc ∷ []) after = rw (turns count i lt, read) refl in
    sym one ∙ so_far

pub documents_end : (count i : ℕ) (front : List Document) (bytes : List ℕ)
    (whole : Result (List Document) FrameErr) → i < count → length bytes ≡ 0
    → documents_at (count - i) front bytes ≡ whole → whole ≡ Ok front
unfolding documents_at
documents_end count i front bytes whole lt none so_far = sym so_far
    ∙ rw (turns count i lt, nil_from_length bytes none) refl

pub documents_refused : (count i : ℕ) (front : List Document) (bytes : List ℕ) (e : FrameErr)
    (whole : Result (List Document) FrameErr) → i < count → (length bytes ≡ 0 → ⊥)
    → Refuses is_memory e (document_at bytes)
    → documents_at (count - i) front bytes ≡ whole → Refuses is_memory e whole
unfolding documents_at
documents_refused count i front [] e whole lt some h so_far = absurd (some refl)
documents_refused count i front (b ∷ bytes) e whole lt some h so_far =
    let one : documents_at (count - i) front (b ∷ bytes) ≡ (document_at (b ∷ bytes) >>= λ x.
    documents_at (count - (i + 1)) (front ++ x.0 ∷ []) x.1) = rw (turns count i lt) refl in
    refused (is_memory e) e (document_at (b ∷ bytes))
    (λ x. documents_at (count - (i + 1)) (front ++ x.0 ∷ []) x.1) whole h (sym one ∙ so_far)

pub documents_out : (count i : ℕ) (front : List Document) (bytes : List ℕ)
    (whole : Result (List Document) FrameErr) → count ≤ i
    → documents_at (count - i) front bytes ≡ whole → whole ≡ Err Section
unfolding documents_at
documents_out count i front bytes whole le so_far =
    let k : count - i ≡ 0 = omega arith in
    sym so_far ∙ rw k refl

-- Sections.

pub sections_more : (count i : ℕ) (found more : Found) (kind : ℕ) (bytes behind after : List ℕ)
    (whole : Result (Document × List Sequence) FrameErr) → i < count → bytes ≡ kind ∷ behind
    → section_at found kind behind ≡ Ok (more, after)
    → sections_at (count - i) found bytes ≡ whole → sections_at (count - (i + 1)) more after ≡ whole
unfolding sections_at
sections_more count i found more kind bytes behind after whole lt is read so_far =
    let one : sections_at (count - i) found bytes ≡ sections_at (count - (i + 1)) more after =
    rw (turns count i lt, is, read) refl in
    sym one ∙ so_far

pub sections_end : (count i : ℕ) (found : Found) (bytes : List ℕ)
    (whole : Result (Document × List Sequence) FrameErr) → i < count → length bytes ≡ 0
    → sections_at (count - i) found bytes ≡ whole → finish found ≡ whole
unfolding sections_at
sections_end count i found bytes whole lt none so_far =
    let one : sections_at (count - i) found bytes ≡ finish found =
    rw (turns count i lt, nil_from_length bytes none) refl in
    sym one ∙ so_far

pub sections_refused : (count i : ℕ) (found : Found) (kind : ℕ) (bytes behind : List ℕ)
    (e : FrameErr) (whole : Result (Document × List Sequence) FrameErr) → i < count
    → bytes ≡ kind ∷ behind → Refuses is_memory e (section_at found kind behind)
    → sections_at (count - i) found bytes ≡ whole → Refuses is_memory e whole
unfolding sections_at
sections_refused count i found kind bytes behind e whole lt is h so_far =
    let one : sections_at (count - i) found bytes ≡ (section_at found kind behind
    >>= λ x. sections_at (count - (i + 1)) x.0 x.1) = rw (turns count i lt, is) refl in
    refused (is_memory e) e (section_at found kind behind)
    (λ x. sections_at (count - (i + 1)) x.0 x.1) whole h (sym one ∙ so_far)

pub sections_out : (count i : ℕ) (found : Found) (bytes : List ℕ)
    (whole : Result (Document × List Sequence) FrameErr) → count ≤ i
    → sections_at (count - i) found bytes ≡ whole → whole ≡ Err Section
unfolding sections_at
sections_out count i found bytes whole le so_far =
    let k : count - i ≡ 0 = omega arith in
    sym so_far ∙ rw k refl

-- Flags.

pub flag_passed : (bit flags : ℕ) (whole : Option ℕ) → bit < 16 → has_flag bit flags ≡ false
    → least_flag (16 - bit) bit flags ≡ whole → least_flag (16 - (bit + 1)) (bit + 1) flags ≡ whole
flag_passed bit flags whole lt clear so_far =
    let one : least_flag (16 - bit) bit flags ≡ least_flag (16 - (bit + 1)) (bit + 1) flags =
    rw (turns 16 bit lt, clear) refl in
    sym one ∙ so_far
