-- The faults of a message's contents are none of its header.
use Rattle.std.proofs.Common.{◌≡◌, ℕ, zero, suc, ◌-◌, ◌+◌, ◌≤◌, ◌<◌, ◌||◌, Bool, true, false, cond}
use Rattle.std.proofs.Common.{eqb, ltb, List, [], ◌∷◌, ◌++◌, length, take, drop, Option, Some, None}
use Rattle.std.proofs.Common.{Result, Ok, Err, refl, sym, ap, ◌∙◌, arith}
use Rattle.std.specs.Int.{w32, from_le_bytes}
use Rattle.std.proofs.lemmas.Bool.{le-ltb, ltb-true, ltb-false}
use Rattle.outcomes.specs.Bind.{◌>>=◌}
use Rattle.bson_core.specs.declared.error.BsonErr.{BsonErr}
use Rattle.bson_core.specs.declared.error.BsonErr.TheVariants as document
use Rattle.bson_core.specs.Fields.{Document}
use Rattle.bson_core.specs.Reading.{number_at, document_of}
use Rattle.bson_core.specs.Reading as reading
use Rattle.op_msg.specs.Message.{Sequence, has_flag}
use Rattle.op_msg.specs.Reading.{or_fault, number, extent, as_message, document_at, documents_at}
use Rattle.op_msg.specs.Reading.{as_section, name_at, sequence_at, Found, with_body, section_at}
use Rattle.op_msg.specs.Reading.{finish, sections_at, least_flag, known_by, without_sum}
use Rattle.op_msg.specs.Reading.{contents_at, at_end, second_at, query_at}
use Rattle.op_msg.specs.declared.frame.FrameErr.{FrameErr}
use Rattle.op_msg.specs.declared.frame.FrameErr.TheVariants as message
use Rattle.codec_laws.proofs.Outer.{fault_is_there}

-- a fault of sections, bodies or documents
abbrev pub IsInner : FrameErr → Type 0
IsInner message.Section = Unit {0}
IsInner message.NoBody = Unit {0}
IsInner message.TwoBodies = Unit {0}
IsInner (message.Bson e) = Unit {0}
IsInner other = ⊥

abbrev pub Plain : {A : Type 0} → Result A FrameErr → Type 0
Plain (Ok x) = Unit {0}
Plain (Err e) = IsInner e

bound : {A B : Type 0} (r : Result A FrameErr) (f : A → Result B FrameErr) → Plain r
    → ((x : A) → Plain (f x)) → Plain (r >>= f)
bound (Ok x) f h next = next x
bound (Err e) f h next = h

tested : {A : Type 0} (b : Bool) (r : Result A FrameErr) → Plain r
    → Plain (cond b (Err message.Section) r)
tested true r h = tt
tested false r h = h

number_plain : (bytes : List ℕ) → Plain (number bytes)
number_plain bytes = go (number_at w32 bytes)
  where
    go : (o : Option (ℕ × List ℕ)) → Plain (or_fault message.Section o)
    go None = tt
    go (Some x) = tt

read_plain : {A : Type 0} (r : Result A BsonErr) → (r ≡ Err document.Memory → ⊥)
    → Plain (as_message r)
read_plain (Ok x) h = tt
read_plain (Err document.Memory) h = h refl
read_plain (Err document.Short) h = tt
read_plain (Err (document.Length at)) h = tt
read_plain (Err (document.Kind at byte)) h = tt
read_plain (Err (document.Text at)) h = tt
read_plain (Err (document.Bool at)) h = tt
read_plain (Err (document.Deep at)) h = tt
read_plain (Err document.TooLarge) h = tt

document_plain : (bytes : List ℕ) → Plain (document_at bytes)
unfolding document_at
document_plain bytes = bound (as_message (document_of 400000000 (take (extent bytes) bytes)))
    _ (read_plain (document_of 400000000 (take (extent bytes) bytes))
    (λ is. fault_is_there 400000000 (take (extent bytes) bytes) document.Memory is)) (λ x. tt)

documents_plain : (n : ℕ) (front : List Document) (bytes : List ℕ)
    → Plain (documents_at n front bytes)
unfolding documents_at
documents_plain zero front bytes = tt
documents_plain (suc n) front [] = tt
documents_plain (suc n) front (b ∷ bytes) = bound (document_at (b ∷ bytes)) _
    (document_plain (b ∷ bytes)) (λ x. documents_plain n (front ++ x.0 ∷ []) x.1)

name_plain : (bytes : List ℕ) → Plain (name_at bytes)
unfolding name_at
name_plain bytes = go (reading.name_at 0 bytes)
  where
    go : (r : Result (List ℕ × List ℕ) BsonErr) → Plain (as_section r)
    go (Ok x) = tt
    go (Err e) = tt

sequence_plain : (bytes : List ℕ) → Plain (sequence_at bytes)
unfolding sequence_at
sequence_plain bytes = bound (number bytes) _ (number_plain bytes) (λ size.
    tested (ltb size.0 4 || ltb (length size.1) (size.0 - 4)) _
    (bound (name_at (take (size.0 - 4) size.1)) _ (name_plain (take (size.0 - 4) size.1)) (λ name.
    bound (documents_at (length name.1 + 1) [] name.1) _
    (documents_plain (length name.1 + 1) [] name.1) (λ docs. tt))))

body_plain : (body : Option Document) (seqs : List Sequence) (bytes : List ℕ)
    → Plain (with_body body seqs bytes)
body_plain None seqs bytes = bound (document_at bytes) _ (document_plain bytes) (λ x. tt)
body_plain (Some body) seqs bytes = tt

section_case : (body seq : Bool) (x y : Result (Found × List ℕ) FrameErr) → Plain x → Plain y
    → Plain (cond body x (cond seq y (Err message.Section)))
section_case true seq x y h k = h
section_case false true x y h k = k
section_case false false x y h k = tt

section_plain : (found : Found) (kind : ℕ) (bytes : List ℕ) → Plain (section_at found kind bytes)
unfolding section_at
section_plain found kind bytes =
    section_case (eqb kind 0) (eqb kind 1) (with_body found.0 found.1 bytes) _ (body_plain found.0
    found.1 bytes) (bound (sequence_at bytes) _ (sequence_plain bytes) (λ x. tt))

finish_plain : (body : Option Document) (seqs : List Sequence) → Plain (finish (body, seqs))
finish_plain None seqs = tt
finish_plain (Some body) seqs = tt

sections_plain : (n : ℕ) (found : Found) (bytes : List ℕ) → Plain (sections_at n found bytes)
unfolding sections_at
sections_plain zero found bytes = tt
sections_plain (suc n) found [] = finish_plain found.0 found.1
sections_plain (suc n) found (kind ∷ bytes) = bound (section_at found kind bytes) _
    (section_plain found kind bytes) (λ x. sections_plain n x.0 x.1)

sum_plain : (b : Bool) (bytes : List ℕ) → Plain (without_sum b bytes)
sum_plain false bytes = tt
sum_plain true bytes = tested (ltb (length bytes) 4) _ tt

-- The flags.

-- the least flag from that bit on, among so many, is set, and none below it is
pub record IsLeast (n bit flags k : ℕ) : Type 0 where
  pub above : bit ≤ k
  pub below : k < bit + n
  pub set : has_flag k flags ≡ true
  pub least : (j : ℕ) → bit ≤ j → j < k → has_flag j flags ≡ false

least_case : (n bit flags k : ℕ) (b : Bool) (others : Option ℕ) → has_flag bit flags ≡ b
    → cond b (Some bit) others ≡ Some k → (others ≡ Some k → IsLeast n (bit + 1) flags k)
    → IsLeast (suc n) bit flags k
least_case n bit flags k true others is e more =
    let same : bit ≡ k = cc in
    record {
      above = omega arith;
      below = omega arith;
      set = ap (λ (m : ℕ). has_flag m flags) (sym same) ∙ is;
      least = λ j from to. absurd (omega arith);
    }
least_case n bit flags k false others is e more =
    let h = more e in
    record {
      above = omega (arith, h.above);
      below = omega (arith, h.below);
      set = h.set;
      least = λ j from to. least_at j (ltb bit j) refl from to h;
    }
  where
    least_at : (j : ℕ) (later : Bool) → ltb bit j ≡ later → bit ≤ j → j < k
        → IsLeast n (bit + 1) flags k → has_flag j flags ≡ false
    least_at j true t from to h = h.least j (omega (arith, ltb-true bit j t)) to
    least_at j false t from to h = let same : bit ≡ j = omega (arith, ltb-false bit j t, from) in
        ap (λ (m : ℕ). has_flag m flags) (sym same) ∙ is

pub least_found : (n bit flags k : ℕ) → least_flag n bit flags ≡ Some k → IsLeast n bit flags k
least_found zero bit flags k e = absurd cc
least_found (suc n) bit flags k e = least_case n bit flags k (has_flag bit flags) (least_flag n
    (bit + 1) flags) refl e (least_found n (bit + 1) flags k)

again_case : (n bit flags k : ℕ) (b : Bool) (others : Option ℕ) → has_flag bit flags ≡ b
    → IsLeast (suc n) bit flags k → (IsLeast n (bit + 1) flags k → others ≡ Some k)
    → cond b (Some bit) others ≡ Some k
again_case n bit flags k true others is h more = first (ltb bit k) refl
  where
    first : (later : Bool) → ltb bit k ≡ later → ◌≡◌ {A = Option ℕ} (Some bit) (Some k)
    first true t = let clear = h.least bit (omega arith) (ltb-true bit k t) in absurd cc
    first false t = let same : bit ≡ k = omega (arith, ltb-false bit k t, h.above) in
        ap (λ (m : ℕ). Some m) same
again_case n bit flags k false others is h more = more (record {
  above = omega (arith, apart, h.above);
  below = omega (arith, h.below);
  set = h.set;
  least = λ j from to. h.least j (omega arith) to;
})
  where
    apart : bit ≡ k → ⊥
    apart same = let clear : has_flag k flags ≡ false = ap (λ (m : ℕ). has_flag m flags) (sym same)
        ∙ is in let set = h.set in absurd cc

pub least_again : (n bit flags k : ℕ) → IsLeast n bit flags k → least_flag n bit flags ≡ Some k
least_again zero bit flags k h = absurd (omega (arith, h.above, h.below))
least_again (suc n) bit flags k h = again_case n bit flags k (has_flag bit flags) (least_flag n
    (bit + 1) flags) refl h (least_again n (bit + 1) flags k)

-- What stands after a header.

abbrev flags_in : List ℕ → ℕ
flags_in bytes = from_le_bytes w32 (take 4 bytes)

pub query_plain : (bytes : List ℕ) → Plain (query_at bytes)
unfolding query_at
query_plain bytes = bound (number bytes) _ (number_plain bytes) (λ flags.
    bound (name_at flags.1) _ (name_plain flags.1) (λ collection.
    bound (number collection.1) _ (number_plain collection.1)
    (λ skip. bound (number skip.1) _ (number_plain skip.1) (λ count.
    bound (document_at count.1) _ (document_plain count.1)
    (λ body. bound (second_at body.1) _ (second_plain body.1) (λ second. tt))))))
  where
    end_plain : (bytes : List ℕ) → Plain (at_end bytes)
    end_plain [] = tt
    end_plain (b ∷ bytes) = tt

    second_plain : (bytes : List ℕ) → Plain (second_at bytes)
    second_plain [] = tt
    second_plain (b ∷ bytes) =
        bound (document_at (b ∷ bytes)) _ (document_plain (b ∷ bytes)) (λ x. end_plain x.1)

-- the least unknown flag of an OP_MSG is its fault, or a fault of its sections
abbrev pub FlagsOr : {A : Type 0} → ℕ → ℕ → Result A FrameErr → Type 0
FlagsOr count flags (Ok x) = Unit {0}
FlagsOr count flags (Err (message.Flags bit)) = (4 ≤ count) × IsLeast 14 2 flags bit
FlagsOr count flags (Err e) = IsInner e

plain_or : {A : Type 0} (count flags : ℕ) (r : Result A FrameErr) → Plain r → FlagsOr count flags r
plain_or count flags (Ok x) h = tt
plain_or count flags (Err (message.Flags bit)) h = absurd h
plain_or count flags (Err message.Length) h = h
plain_or count flags (Err message.OpCode) h = h
plain_or count flags (Err message.Section) h = h
plain_or count flags (Err message.NoBody) h = h
plain_or count flags (Err message.TwoBodies) h = h
plain_or count flags (Err (message.Bson e)) h = h
plain_or count flags (Err message.TooLarge) h = h
plain_or count flags (Err message.Memory) h = h

known_case : {A : Type 0} (count flags : ℕ) (o : Option ℕ) (next : ℕ → Result A FrameErr)
    → 4 ≤ count → least_flag 14 2 flags ≡ o → ((known : ℕ) → Plain (next known))
    → FlagsOr count flags (known_by o (Ok flags) >>= next)
known_case count flags None next long is plain = plain_or count flags (next flags) (plain flags)
known_case count flags (Some bit) next long is plain = (long, least_found 14 2 flags bit is)

number_case : {A : Type 0} (bytes : List ℕ) (b : Bool) (next : ℕ × List ℕ → Result A FrameErr)
    → ltb (length bytes) 4 ≡ b → (4 ≤ length bytes
    → FlagsOr (length bytes) (flags_in bytes) (next (flags_in bytes, drop 4 bytes)))
    → FlagsOr (length bytes) (flags_in bytes)
    (or_fault message.Section (cond b None (Some (flags_in bytes, drop 4 bytes))) >>= next)
number_case bytes true next is more = tt
number_case bytes false next is more = more (ltb-false _ _ is)

pub contents_fault : (bytes : List ℕ) → FlagsOr (length bytes) (flags_in bytes) (contents_at bytes)
unfolding contents_at number_at
contents_fault bytes = number_case bytes (ltb (length bytes) 4) _ refl (λ long.
    known_case (length bytes) (flags_in bytes) (least_flag 14 2 (flags_in bytes)) _ long
    refl (λ known.
    bound (without_sum (has_flag 0 known) (drop 4 bytes)) _
    (sum_plain (has_flag 0 known) (drop 4 bytes)) (λ inside.
    bound (sections_at (length inside + 1) (None, []) inside) _
    (sections_plain (length inside + 1) (None, []) inside) (λ found. tt))))

pub flags_first : (bytes : List ℕ) (bit : ℕ) → 4 ≤ length bytes → IsLeast 14 2 (flags_in bytes) bit
    → contents_at bytes ≡ Err (message.Flags bit)
unfolding contents_at number_at
flags_first bytes bit long h =
    rw (le-ltb (length bytes) 4 long, least_again 14 2 (flags_in bytes) bit h) refl
