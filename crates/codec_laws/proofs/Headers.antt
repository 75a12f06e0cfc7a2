-- Faults of a message's header, and that no other fault comes before them.
use Rattle.std.proofs.Common.{◌≡◌, ◌⊎◌, inl, inr, ℕ, ◌+◌, ◌≤◌, ◌<◌, ◌&&◌, Bool, true, false, cond}
use Rattle.std.proofs.Common.{not, eqb, ltb, List, [], length, drop, Result, Ok, Err, refl, sym}
use Rattle.std.proofs.Common.{subst, ◌∙◌, arith}
use Rattle.std.proofs.lemmas.Bool.{cases_lt, le-ltb, lt-ltb, ltb-false, ltb-true, eqb-true}
use Rattle.std.proofs.lemmas.Bool.{eqb-false, eq-eqb, ne_eqb}
use Rattle.std.proofs.lemmas.List.{length-drop, drop-drop}
use Rattle.outcomes.specs.Bind.{◌>>=◌}
use Rattle.bson_core.specs.Fields.{Document}
use Rattle.bson_core.specs.Reading.{number_at}
use Rattle.op_msg.specs.Message.{Sequence, is_internal}
use Rattle.op_msg.specs.Reading.{contents_at, query_at, is_older, header_number, header_at}
use Rattle.op_msg.specs.Reading.{contents_within, frame_by, is_length, frame_of}
use Rattle.op_msg.specs.declared.header.Header.{Header}
use Rattle.op_msg.specs.declared.frame.Frame.{Frame}
use Rattle.op_msg.specs.declared.frame.FrameErr.{FrameErr}
use Rattle.op_msg.specs.declared.frame.FrameErr.TheVariants as message
use Rattle.codec_laws.specs.Faults.{number_from, HasItsLength, op_code, HasOtherCode}
use Rattle.codec_laws.specs.Faults.{IsLeastUnknown, IsFramed, IsSaid}
use Rattle.codec_laws.proofs.Contents.{Plain, query_plain, IsLeast, FlagsOr, contents_fault}
use Rattle.codec_laws.proofs.Contents.{flags_first}

-- The header.

number_is : (place : ℕ) (bytes : List ℕ) → place + 4 ≤ length bytes
    → header_number (drop place bytes) ≡ Ok (number_from place bytes, drop (place + 4) bytes)
unfolding number_at
number_is place bytes long =
    rw (
      le-ltb (length (drop place bytes)) 4 (omega (arith, length-drop place bytes)),
      drop-drop 4 place bytes,
    ) refl

number_not : (place : ℕ) (bytes : List ℕ) → length bytes < place + 4
    → header_number (drop place bytes) ≡ Err message.Length
unfolding number_at
number_not place bytes short =
    rw (lt-ltb (length (drop place bytes)) 4 (omega (arith, length-drop place bytes))) refl

abbrev header_of : List ℕ → Header
header_of bytes = record {
  len = number_from 0 bytes;
  request_id = number_from 4 bytes;
  response_to = number_from 8 bytes;
  op_code = number_from 12 bytes;
}

header_is : (bytes : List ℕ) → 16 ≤ length bytes
    → header_at bytes ≡ Ok (header_of bytes, drop 16 bytes)
unfolding header_at
header_is bytes long = rw (
  number_is 0 bytes (omega arith),
  number_is 4 bytes (omega arith),
  number_is 8 bytes (omega arith),
  number_is 12 bytes (omega arith),
) refl

header_not : (bytes : List ℕ) → length bytes < 16 → header_at bytes ≡ Err message.Length
unfolding header_at
header_not bytes short = elim (cases_lt (length bytes) 4) [
  | inl lt ↦ rw (number_not 0 bytes lt) refl
  | inr le ↦ elim (cases_lt (length bytes) 8) [
    | inl lt ↦ rw (number_is 0 bytes le, number_not 4 bytes lt) refl
    | inr le ↦ elim (cases_lt (length bytes) 12) [
      | inl lt ↦
          rw (number_is 0 bytes (omega arith), number_is 4 bytes le, number_not 8 bytes lt) refl
      | inr le ↦ rw (
        number_is 0 bytes (omega arith),
        number_is 4 bytes (omega arith),
        number_is 8 bytes le,
        number_not 12 bytes short,
      ) refl
    ]
  ]
]

-- What follows a header that has the message's length.

abbrev Contents : Type 0
Contents = Bool × Document × List Sequence

abbrev further : List ℕ → Bool → Result Frame FrameErr
further bytes legacy = contents_within legacy (length bytes) (drop 16 bytes)
    >>= λ contents. Ok (frame_by (header_of bytes) legacy contents)

abbrev behind : List ℕ → Result Frame FrameErr
behind bytes = is_older (op_code bytes) >>= further bytes

length_true : (bytes : List ℕ) → HasItsLength bytes
    → is_length (number_from 0 bytes) (length bytes) ≡ true
length_true bytes h = rw (
  eq-eqb (number_from 0 bytes) (length bytes) h.same,
  lt-ltb (number_from 0 bytes) 2147483648 (omega (arith, h.same, h.positive)),
) refl

is_framed : (bytes : List ℕ) → HasItsLength bytes
    → frame_of bytes ≡ cond (ltb 400000000 (length bytes)) (Err message.TooLarge) (behind bytes)
unfolding frame_of
is_framed bytes h = rw (header_is bytes h.header, length_true bytes h) refl

both_true : (a b : Bool) → (a && b) ≡ true → (a ≡ true) × (b ≡ true)
both_true true b h = (refl, h)
both_true false b h = absurd cc

has_its_length : (bytes : List ℕ) → 16 ≤ length bytes
    → is_length (number_from 0 bytes) (length bytes) ≡ true → HasItsLength bytes
has_its_length bytes long is =
    let both = both_true (eqb (number_from 0 bytes) (length bytes)) (ltb (number_from 0 bytes)
    2147483648) is in
    let same : number_from 0 bytes ≡ length bytes = eqb-true _ _ both.0 in
    record { header = long; positive = omega (arith, same, ltb-true _ _ both.1); same = same }

length_case : (bytes : List ℕ) (b : Bool) → 16 ≤ length bytes
    → is_length (number_from 0 bytes) (length bytes) ≡ b
    → HasItsLength bytes ⊎ (frame_of bytes ≡ Err message.Length)
unfolding frame_of
length_case bytes true long is = inl (has_its_length bytes long is)
length_case bytes false long is = inr (rw (header_is bytes long, is) refl)

short_message : (bytes : List ℕ) → length bytes < 16 → frame_of bytes ≡ Err message.Length
unfolding frame_of
short_message bytes short = rw (header_not bytes short) refl

either : (bytes : List ℕ) → HasItsLength bytes ⊎ (frame_of bytes ≡ Err message.Length)
either bytes = elim (cases_lt (length bytes) 16) [
  | inl short ↦ inr (short_message bytes short)
  | inr long ↦ length_case bytes (is_length (number_from 0 bytes) (length bytes)) long refl
]

pub length_fault : (bytes : List ℕ) → (HasItsLength bytes → ⊥) → frame_of bytes ≡ Err message.Length
length_fault bytes not_its = elim (either bytes) [ inl h ↦ absurd (not_its h) | inr is ↦ is ]

-- What is said of a fault after it.

abbrev Said : {A : Type 0} → List ℕ → Result A FrameErr → Type 0
Said bytes (Ok x) = Unit {0}
Said bytes (Err message.Length) = ⊥
Said bytes (Err message.TooLarge) = 48000000 < length bytes
Said bytes (Err message.OpCode) = HasOtherCode bytes
Said bytes (Err (message.Flags bit)) = IsLeastUnknown bit bytes
Said bytes (Err message.Memory) = ⊥
Said bytes (Err contents) = HasOtherCode bytes → ⊥

-- one of the two forms that are read
abbrev IsKnown : List ℕ → Type 0
IsKnown bytes = (op_code bytes ≡ 2013) ⊎ (op_code bytes ≡ 2004)

not_other : (bytes : List ℕ) → IsKnown bytes → HasOtherCode bytes → ⊥
not_other bytes (inl is) h = h.message is
not_other bytes (inr is) h = h.query is

plain_said : {A : Type 0} (bytes : List ℕ) (r : Result A FrameErr) → IsKnown bytes → Plain r
    → Said bytes r
plain_said bytes (Ok x) known h = tt
plain_said bytes (Err message.Length) known h = h
plain_said bytes (Err message.OpCode) known h = absurd h
plain_said bytes (Err (message.Flags bit)) known h = absurd h
plain_said bytes (Err message.Section) known h = not_other bytes known
plain_said bytes (Err message.NoBody) known h = not_other bytes known
plain_said bytes (Err message.TwoBodies) known h = not_other bytes known
plain_said bytes (Err (message.Bson e)) known h = not_other bytes known
plain_said bytes (Err message.TooLarge) known h = absurd h
plain_said bytes (Err message.Memory) known h = h

flags_said : (bytes : List ℕ) (r : Result Contents FrameErr) → 16 ≤ length bytes
    → op_code bytes ≡ 2013 → FlagsOr (length (drop 16 bytes)) (number_from 16 bytes) r
    → Said bytes r
flags_said bytes (Ok x) long is h = tt
flags_said bytes (Err (message.Flags bit)) long is h = record {
  message = is;
  there = omega (arith, h.0, length-drop 16 bytes);
  above = h.1.above;
  below = omega (arith, h.1.below);
  set = h.1.set;
  least = h.1.least;
}
flags_said bytes (Err message.Length) long is h = h
flags_said bytes (Err message.OpCode) long is h = absurd h
flags_said bytes (Err message.Section) long is h = not_other bytes (inl is)
flags_said bytes (Err message.NoBody) long is h = not_other bytes (inl is)
flags_said bytes (Err message.TwoBodies) long is h = not_other bytes (inl is)
flags_said bytes (Err (message.Bson e)) long is h = not_other bytes (inl is)
flags_said bytes (Err message.TooLarge) long is h = absurd h
flags_said bytes (Err message.Memory) long is h = h

limit_case : (bytes : List ℕ) (large internal : Bool) (contents : Contents)
    → ltb 48000000 (length bytes) ≡ large
    → Said {A = Contents} bytes (cond (large && not internal) (Err message.TooLarge) (Ok contents))
limit_case bytes true true contents is = tt
limit_case bytes true false contents is = ltb-true _ _ is
limit_case bytes false internal contents is = tt

within_said : (bytes : List ℕ) (legacy : Bool) (r : Result Contents FrameErr) → Said bytes r
    → Said {A = Frame} bytes ((r >>= λ contents. cond (ltb 48000000 (length bytes)
    && not (is_internal contents.1)) (Err message.TooLarge) (Ok contents))
    >>= λ contents. Ok (frame_by (header_of bytes) legacy contents))
within_said bytes legacy (Ok contents) h = kept (cond (ltb 48000000 (length bytes)
    && not (is_internal contents.1)) (Err message.TooLarge) (Ok contents)) (limit_case bytes
    (ltb 48000000 (length bytes)) (is_internal contents.1) contents refl)
  where
    kept : (r : Result Contents FrameErr) → Said bytes r
        → Said {A = Frame} bytes (r >>= λ contents. Ok (frame_by (header_of bytes) legacy contents))
    kept (Ok contents) h = tt
    kept (Err message.Length) h = h
    kept (Err message.OpCode) h = h
    kept (Err (message.Flags bit)) h = h
    kept (Err message.Section) h = h
    kept (Err message.NoBody) h = h
    kept (Err message.TwoBodies) h = h
    kept (Err (message.Bson e)) h = h
    kept (Err message.TooLarge) h = h
    kept (Err message.Memory) h = h
within_said bytes legacy (Err message.Length) h = h
within_said bytes legacy (Err message.OpCode) h = h
within_said bytes legacy (Err (message.Flags bit)) h = h
within_said bytes legacy (Err message.Section) h = h
within_said bytes legacy (Err message.NoBody) h = h
within_said bytes legacy (Err message.TwoBodies) h = h
within_said bytes legacy (Err (message.Bson e)) h = h
within_said bytes legacy (Err message.TooLarge) h = h
within_said bytes legacy (Err message.Memory) h = h

plain_contents : {A B : Type 0} (r : Result A FrameErr) (f : A → B) → Plain r
    → Plain (r >>= λ x. Ok (f x))
plain_contents (Ok x) f h = tt
plain_contents (Err e) f h = h

code_case : (bytes : List ℕ) (current older : Bool) → 16 ≤ length bytes
    → eqb (op_code bytes) 2013 ≡ current → eqb (op_code bytes) 2004 ≡ older
    → Said bytes
    (cond current (Ok false) (cond older (Ok true) (Err message.OpCode)) >>= further bytes)
code_case bytes true older long is_current is_older =
    let code : op_code bytes ≡ 2013 = eqb-true _ _ is_current in
    within_said bytes false (contents_at (drop 16 bytes))
    (flags_said bytes (contents_at (drop 16 bytes)) long code (contents_fault (drop 16 bytes)))
code_case bytes false true long is_current is_older =
    let code : op_code bytes ≡ 2004 = eqb-true _ _ is_older in
    let made : Result Contents FrameErr =
    query_at (drop 16 bytes) >>= λ body. Ok (false, body, []) in
    within_said bytes true made (plain_said bytes made (inr code) (plain_contents
    (query_at (drop 16 bytes)) (λ body. (false, body, [])) (query_plain (drop 16 bytes))))
code_case bytes false false long is_current is_older =
    record { message = eqb-false _ _ is_current; query = eqb-false _ _ is_older }

behind_said : (bytes : List ℕ) → 16 ≤ length bytes → Said bytes (behind bytes)
behind_said bytes long =
    code_case bytes (eqb (op_code bytes) 2013) (eqb (op_code bytes) 2004) long refl refl

-- The whole.

made_of : (bytes : List ℕ) (e : FrameErr) → HasItsLength bytes → length bytes ≤ 400000000
    → Said {A = Frame} bytes (Err e) → IsSaid bytes e
made_of bytes message.Length h small said = absurd said
made_of bytes message.TooLarge h small said = (h, said)
made_of bytes message.OpCode h small said = (record { whole = h; most = small }, said)
made_of bytes (message.Flags bit) h small said = (record { whole = h; most = small }, said)
made_of bytes message.Memory h small said = said
made_of bytes message.Section h small said = (record { whole = h; most = small }, said)
made_of bytes message.NoBody h small said = (record { whole = h; most = small }, said)
made_of bytes message.TwoBodies h small said = (record { whole = h; most = small }, said)
made_of bytes (message.Bson e) h small said = (record { whole = h; most = small }, said)

size_case : (bytes : List ℕ) (large : Bool) (e : FrameErr)
    → HasItsLength bytes → ltb 400000000 (length bytes) ≡ large
    → cond large (Err message.TooLarge) (behind bytes) ≡ Err e → IsSaid bytes e
size_case bytes true e h is told =
    let same : message.TooLarge ≡ e = cc in
    subst (IsSaid bytes) same (h, omega (arith, ltb-true _ _ is))
size_case bytes false e h is told = made_of bytes e h (ltb-false _ _ is)
    (subst (λ (r : Result Frame FrameErr). Said bytes r) told (behind_said bytes h.header))

not_length : (bytes : List ℕ) → frame_of bytes ≡ Err message.Length → HasItsLength bytes → ⊥
not_length bytes is h = size_case bytes (ltb 400000000 (length bytes)) message.Length h refl
    (sym (is_framed bytes h) ∙ is) h

pub fault_is_said : (bytes : List ℕ) (e : FrameErr) → frame_of bytes ≡ Err e → IsSaid bytes e
fault_is_said bytes e is = elim (either bytes) [
  | inl h ↦ size_case bytes (ltb 400000000 (length bytes)) e h refl (sym (is_framed bytes h) ∙ is)
  | inr length ↦ let same : message.Length ≡ e = cc in
      subst (IsSaid bytes) same (not_length bytes length)
]

pub large_fault : (bytes : List ℕ) → HasItsLength bytes → 400000000 < length bytes
    → frame_of bytes ≡ Err message.TooLarge
large_fault bytes h above = rw (is_framed bytes h, lt-ltb 400000000 (length bytes) above) refl

pub code_fault : (bytes : List ℕ) → IsFramed bytes → HasOtherCode bytes
    → frame_of bytes ≡ Err message.OpCode
code_fault bytes h other = rw (
  is_framed bytes h.whole,
  le-ltb 400000000 (length bytes) h.most,
  ne_eqb (op_code bytes) 2013 other.message,
  ne_eqb (op_code bytes) 2004 other.query,
) refl

pub flags_fault : (bit : ℕ) (bytes : List ℕ) → IsFramed bytes → IsLeastUnknown bit bytes
    → frame_of bytes ≡ Err (message.Flags bit)
flags_fault bit bytes h unknown =
    let least : IsLeast 14 2 (number_from 16 bytes) bit = record {
      above = unknown.above;
      below = omega (arith, unknown.below);
      set = unknown.set;
      least = unknown.least;
    } in
    rw (
      is_framed bytes h.whole,
      le-ltb 400000000 (length bytes) h.most,
      eq-eqb (op_code bytes) 2013 unknown.message,
      flags_first (drop 16 bytes) bit (omega (arith, length-drop 16 bytes, unknown.there)) least,
    ) refl
