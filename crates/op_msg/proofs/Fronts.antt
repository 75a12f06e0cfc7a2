-- What stands in front: the numbers of a message, and what a section of kind 1 has beside its
-- documents. How long they are, and that a message begins with its length.
use Rattle.std.proofs.Common.{◌≡◌, ℕ, ℤ, ◌+◌, ◌^◌, ◌<◌, ◌≤◌, true, false, inl, inr, List, [], ◌∷◌}
use Rattle.std.proofs.Common.{◌++◌, length, take, refl, sym, ap, ◌∙◌, arith, append_assoc}
use Rattle.std.specs.Int.{w32, from_le_bytes, cast_unsigned}
use Rattle.std.proofs.lemmas.List.{length-append, nil_from_length}
use Rattle.std.proofs.lemmas.Nat.{from_le_bytes-to_le_bytes_4}
use Rattle.bson_core.specs.Spelling.{spelling}
use Rattle.op_msg.specs.Words.{word}
use Rattle.op_msg.specs.Message.{front, sequence_section, sequences, sections, reply_front}
use Rattle.op_msg.specs.Message.{message_by, query_header, query_front, IsCurrent, IsOlder}
use Rattle.op_msg.specs.Message.{IsMessage}
use Rattle.op_msg.specs.declared.frame.Frame.{Frame}

pub length_word : (n : ℕ) → length (word n) ≡ 4
unfolding word
length_word n = refl

pub length_front : (len : ℕ) (request_id response_to : ℤ) (flags : ℕ)
    → length (front len request_id response_to flags) ≡ 20
unfolding front
length_front len request_id response_to flags = simp (length-append, length_word) (omega arith)

pub section_is : (size : ℕ) (name documents : List ℕ) → 4 + length name + 1 + length documents
    ≡ size → sequence_section name documents ≡ 1 ∷ (word size ++ (name ++ 0 ∷ documents))
unfolding sequence_section
section_is size name documents is =
    rw (append_assoc (word (4 + length name + 1 + length documents)) name (0 ∷ documents), is) refl

pub length_sequence_section : (name documents : List ℕ)
    → length (sequence_section name documents) ≡ 6 + length name + length documents
unfolding sequence_section
length_sequence_section name documents = simp (length-append, length_word) (omega arith)

pub length_sections : (f : Frame)
    → length (sections f) ≡ 1 + length (spelling f.body) + length (sequences f.seqs)
length_sections f = simp length-append (omega arith)

pub length_reply_front : (len : ℕ) (request_id response_to : ℤ)
    → length (reply_front len request_id response_to) ≡ 36
unfolding reply_front
length_reply_front len request_id response_to = simp (length-append, length_word) (omega arith)

pub length_message : (f : Frame) → length (message_by false f) ≡ 20 + length (sections f)
length_message f = simp (length-append, length_front) (omega arith)

pub length_reply : (f : Frame) → length (message_by true f) ≡ 36 + length (spelling f.body)
length_reply f = simp (length-append, length_reply_front) (omega arith)

-- Messages begin with their length.

word_number : (a b : ℕ) (s t : List ℕ) → a < 2 ^ 32 → b < 2 ^ 32 → word a ++ s ≡ word b ++ t → a ≡ b
unfolding word
word_number a b s t a_fits b_fits is = sym (from_le_bytes-to_le_bytes_4 a a_fits)
    ∙ ap (λ (bytes : List ℕ). from_le_bytes w32 (take 4 bytes)) is
    ∙ from_le_bytes-to_le_bytes_4 b b_fits

-- each message begins with its length, which counts a header
pub record Begins (bytes : List ℕ) : Type 0 where
  pub behind : List ℕ
  pub is : bytes ≡ word (length bytes) ++ behind
  pub header : 16 ≤ length bytes
  pub most : length bytes ≤ 400000000

-- what stands after the length of an OP_MSG
abbrev behind : ℤ → ℤ → ℕ → List ℕ → List ℕ
behind request_id response_to flags inside = word (cast_unsigned w32 request_id)
    ++ (word (cast_unsigned w32 response_to) ++ (word 2013 ++ (word flags ++ inside)))

begins : (len : ℕ) (request_id response_to : ℤ) (flags : ℕ) (inside sum : List ℕ)
    → front len request_id response_to flags ++ inside ++ sum
    ≡ word len ++ behind request_id response_to flags (inside ++ sum)
unfolding front
begins len request_id response_to flags inside sum = simp append_assoc

current_begins : (f : Frame) (bytes : List ℕ) → IsCurrent bytes f → Begins bytes
current_begins f bytes m =
    let len = length_front (length bytes) f.request_id f.response_to m.flags in record {
      behind = behind f.request_id f.response_to m.flags (m.inside ++ m.checksum);
      is = m.spelled ∙ begins (length bytes) f.request_id f.response_to m.flags m.inside m.checksum;
      header = omega (
        arith,
        ap length m.spelled,
        length-append (front (length bytes) f.request_id f.response_to m.flags ++ m.inside)
            m.checksum,
        length-append (front (length bytes) f.request_id f.response_to m.flags) m.inside,
        len,
      );
      most = m.limits.most;
    }

-- what stands after the length of an OP_QUERY
abbrev pub query_behind : ℤ → ℤ → List ℕ → List ℕ
query_behind request_id response_to inside = word (cast_unsigned w32 request_id)
    ++ (word (cast_unsigned w32 response_to) ++ (word 2004 ++ inside))

pub query_begins : (len : ℕ) (request_id response_to : ℤ) (numbers first second : List ℕ)
    → query_header len request_id response_to ++ numbers ++ first ++ second
    ≡ word len ++ query_behind request_id response_to (numbers ++ (first ++ second))
unfolding query_header
query_begins len request_id response_to numbers first second = simp append_assoc

pub length_query_behind : (request_id response_to : ℤ) (inside : List ℕ)
    → length (query_behind request_id response_to inside) ≡ 12 + length inside
length_query_behind request_id response_to inside = simp (length-append, length_word) (omega arith)

older_begins : (f : Frame) (bytes : List ℕ) → IsOlder bytes f → Begins bytes
older_begins f bytes m =
    let inside = query_front m.query ++ (m.first ++ m.second) in
    let behind = query_behind f.request_id f.response_to inside in
    let is : bytes ≡ word (length bytes) ++ behind = m.spelled ∙ query_begins (length bytes)
    f.request_id f.response_to (query_front m.query) m.first m.second in record {
      behind = behind;
      is = is;
      header = omega (
        arith,
        ap length is,
        length-append (word (length bytes)) behind,
        length_word (length bytes),
        length_query_behind f.request_id f.response_to inside,
      );
      most = m.limits.most;
    }

pub begins_with_length : (f : Frame) (bytes : List ℕ) → IsMessage bytes f → Begins bytes
begins_with_length f bytes (inl m) = current_begins f bytes m
begins_with_length f bytes (inr m) = older_begins f bytes m

pub no_front : (f g : Frame) (bytes rest : List ℕ) → IsMessage bytes f
    → IsMessage (bytes ++ rest) g → rest ≡ []
no_front f g bytes rest first second =
    let short = begins_with_length f bytes first in
    let long = begins_with_length g (bytes ++ rest) second in
    let same : word (length bytes) ++ (short.behind ++ rest)
    ≡ word (length (bytes ++ rest)) ++ long.behind =
    sym (append_assoc (word (length bytes)) short.behind rest)
    ∙ sym (ap (λ (b : List ℕ). b ++ rest) short.is) ∙ long.is in
    let number : length bytes ≡ length (bytes ++ rest) =
    word_number (length bytes) (length (bytes ++ rest)) (short.behind
    ++ rest) long.behind (omega (arith, short.most)) (omega (arith, long.most)) same in
    nil_from_length rest (omega (arith, number, length-append bytes rest))
