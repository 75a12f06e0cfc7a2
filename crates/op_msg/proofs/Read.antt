-- A message is read.
use Rattle.std.proofs.Common.{◌≡◌, ℕ, zero, suc, ◌-◌, ◌+◌, ◌^◌, ◌≤◌, ◌<◌, Bool, true, false, cond}
use Rattle.std.proofs.Common.{ltb, List, [], ◌∷◌, ◌++◌, length, take, drop, Option, Some, None, Ok}
use Rattle.std.proofs.Common.{refl, sym, ap, ◌∙◌, append_assoc, arith, inl, inr, option_to_list}
use Rattle.std.specs.Int.{w32, to_le_bytes}
use Rattle.std.proofs.lemmas.Bool.{le-ltb}
use Rattle.std.proofs.lemmas.List.{length-append, append-nil, take_at, drop_at}
use Rattle.outcomes.specs.Bind.{◌>>=◌}
use Rattle.outcomes.proofs.Binding.{bound}
use Rattle.bson_core.specs.Fields.{Document}
use Rattle.bson_core.specs.Names.{IsName}
use Rattle.bson_core.specs.Spelling.{framed}
use Rattle.bson_core.specs.Grammar.{Reads}
use Rattle.bson_core.specs.Reading.{number_at}
use Rattle.bson_core.proofs.Lengths.{length_framed}
use Rattle.bson_core.proofs.Again.{number32_again, name_again}
use Rattle.bson_core.proofs.Whole.{whole_again}
use Rattle.op_msg.specs.Words.{word}
use Rattle.op_msg.specs.Message.{Sequence, sequence_section, ReadsDocuments, ReadsSection}
use Rattle.op_msg.specs.Message.{ReadsSections, bodies, sequences_of, has_flag, AreFlags, MayRead}
use Rattle.op_msg.specs.Message.{Query, query_front, IsQuery}
use Rattle.op_msg.specs.Message as grammar
use Rattle.op_msg.specs.Reading.{number, extent, document_at, documents_at, name_at, sequence_at}
use Rattle.op_msg.specs.Reading.{Found, section_at, finish, sections_at, least_flag, without_sum}
use Rattle.op_msg.specs.Reading.{contents_at, at_end, second_at, query_at}

-- No document in a message is longer.
abbrev most : ℕ
most = 400000000

pub number_again : (n : ℕ) (rest : List ℕ) → n < 2 ^ 32 → number (word n ++ rest) ≡ Ok (n, rest)
unfolding word
number_again n rest lt = rw (number32_again n rest lt) refl

-- Documents.

-- a document begins with the number of its bytes
front_number : (e rest : List ℕ) → length e + 5 < 2 ^ 31
    → number_at w32 (framed e ++ rest) ≡ Some (length e + 5, (e ++ 0 ∷ []) ++ rest)
unfolding framed
front_number e rest lt = rw (append_assoc (to_le_bytes w32 (length e + 5)) (e ++ 0 ∷ []) rest)
    (number32_again (length e + 5) ((e ++ 0 ∷ []) ++ rest) (omega arith))

extent_is : (e rest : List ℕ) → length e + 5 < 2 ^ 31
    → extent (framed e ++ rest) ≡ length (framed e)
unfolding extent
extent_is e rest lt =
    let five : ltb (length e + 5) 5 ≡ false = le-ltb _ _ (omega arith) in
    let room : ltb (length (framed e ++ rest)) (length e + 5) ≡ false =
    le-ltb _ _ (omega (arith, length-append (framed e) rest, length_framed e)) in
    rw (front_number e rest lt, five, room) (sym (length_framed e))

document_again : (doc : Document) (b rest : List ℕ) → Reads 100 doc b → length b ≤ most
    → document_at (b ++ rest) ≡ Ok (doc, rest)
unfolding document_at
document_again doc b rest h small =
    let own : extent (b ++ rest) ≡ length b = ap (λ (l : List ℕ). extent (l ++ rest)) h.2
    ∙ extent_is h.0 rest h.3 ∙ ap length (sym h.2) in
    let front : take (extent (b ++ rest)) (b ++ rest) ≡ b =
    rw own (take_at b rest (length b) refl) in
    let back : drop (extent (b ++ rest)) (b ++ rest) ≡ rest =
    rw own (drop_at b rest (length b) refl) in
    rw (front, back, whole_again 400000000 b doc h small) refl

-- a document has bytes
document_long : (doc : Document) (b : List ℕ) → Reads 100 doc b → 5 ≤ length b
document_long doc b h = omega (arith, ap length h.2, length_framed h.0)

documents_turn : (n : ℕ) (front : List Document) (bytes : List ℕ) → 0 < length bytes → documents_at
    (suc n) front bytes ≡ (document_at bytes >>= λ x. documents_at n (front ++ x.0 ∷ []) x.1)
unfolding documents_at
documents_turn n front [] some = absurd (omega arith)
documents_turn n front (b ∷ bytes) some = refl

documents_long : (docs : List Document) (bytes : List ℕ) → ReadsDocuments docs bytes
    → length docs ≤ length bytes
documents_long [] bytes h = omega arith
documents_long (doc ∷ docs) bytes h = omega (
  arith,
  documents_long docs h.1 h.4,
  document_long doc h.0 h.2,
  ap length h.3,
  length-append h.0 h.1,
)

documents_none : (n : ℕ) (front : List Document) (bytes : List ℕ) → bytes ≡ []
    → documents_at (suc n) front bytes ≡ Ok (front ++ [])
unfolding documents_at
documents_none n front bytes is = rw (is, append-nil front) refl

documents_again : (docs : List Document) (bytes : List ℕ) (n : ℕ) (front : List Document)
    → ReadsDocuments docs bytes → length docs < n → length bytes ≤ most
    → documents_at n front bytes ≡ Ok (front ++ docs)
documents_again docs bytes zero front h lt small = absurd (omega arith)
documents_again [] bytes (suc n) front h lt small = documents_none n front bytes h
documents_again (doc ∷ docs) bytes (suc n) front h lt small =
    let len = length-append h.0 h.1 in
    let some : 0 < length bytes = omega (arith, document_long doc h.0 h.2, ap length h.3, len) in
    let first : document_at bytes ≡ Ok (doc, h.1) = ap document_at h.3
    ∙ document_again doc h.0 h.1 h.2 (omega (arith, ap length h.3, len)) in
    let others = documents_again docs h.1 n (front ++ doc
    ∷ []) h.4 (omega arith) (omega (arith, ap length h.3, len)) in
    documents_turn n front bytes some ∙ bound (document_at bytes) (doc, h.1) _ first ∙ others
    ∙ ap (λ (l : List Document). Ok l) (append_assoc front (doc ∷ []) docs)

-- Sequences.

name_read : (name rest : List ℕ) → IsName name → name_at (name ++ 0 ∷ rest) ≡ Ok (name, rest)
unfolding name_at
name_read name rest h = rw (name_again 0 name rest h) refl

-- a sequence's bytes after its kind
abbrev behind_kind : List ℕ → List ℕ → List ℕ → List ℕ
behind_kind name documents rest =
    word (4 + length name + 1 + length documents) ++ ((name ++ 0 ∷ documents) ++ rest)

sequence_again : (seq : Sequence) (documents rest : List ℕ) → IsName seq.0
    → ReadsDocuments seq.1 documents → 5 + length seq.0 + length documents ≤ most
    → sequence_at (behind_kind seq.0 documents rest) ≡ Ok (seq, rest)
unfolding sequence_at
sequence_again seq documents rest is reads small =
    let name = seq.0 in
    let inside = name ++ 0 ∷ documents in
    let size = 4 + length name + 1 + length documents in
    let len : length inside ≡ size - 4 = omega (arith, length-append name (0 ∷ documents)) in
    let num : number (behind_kind name documents rest) ≡ Ok (size, inside ++ rest) =
    number_again size (inside ++ rest) (omega arith) in
    let four : ltb size 4 ≡ false = le-ltb _ _ (omega arith) in
    let room : ltb (length (inside ++ rest)) (size - 4) ≡ false =
    le-ltb _ _ (omega (arith, length-append inside rest)) in
    let front : take (size - 4) (inside ++ rest) ≡ inside = take_at inside rest (size - 4) len in
    let back : drop (size - 4) (inside ++ rest) ≡ rest = drop_at inside rest (size - 4) len in
    let docs : documents_at (length documents + 1) [] documents ≡ Ok seq.1 =
    documents_again seq.1 documents (length documents + 1) [] reads
    (omega (arith, documents_long seq.1 documents reads)) (omega arith) in
    rw (num, four, room, front, back, name_read name documents is, docs) refl

section_length : (name documents : List ℕ)
    → length (sequence_section name documents) ≡ 6 + length name + length documents
unfolding sequence_section word
section_length name documents = omega (arith, length-append name (0 ∷ documents))

-- Sections.

-- what was found, and a section more
abbrev adds : Found → grammar.Section → Found
adds found (inl doc) = (Some doc, found.1)
adds found (inr seq) = (found.0, found.1 ++ seq ∷ [])

-- no section of kind 0 came before one
abbrev MayAdd : Found → grammar.Section → Type 0
MayAdd found (inl doc) = found.0 ≡ None
MayAdd found (inr seq) = Unit {0}

sections_turn : (n : ℕ) (found : Found) (kind : ℕ) (behind : List ℕ) (x : Found × List ℕ)
    → section_at found kind behind ≡ Ok x
    → sections_at (suc n) found (kind ∷ behind) ≡ sections_at n x.0 x.1
unfolding sections_at
sections_turn n found kind behind x is = rw is refl

body_section : (found : Found) (doc : Document) (b rest : List ℕ) → found.0 ≡ None → Reads 100 doc b
    → length b ≤ most → section_at found 0 (b ++ rest) ≡ Ok ((Some doc, found.1), rest)
unfolding section_at
body_section found doc b rest none reads small =
    rw (none, document_again doc b rest reads small) refl

seq_section : (found : Found) (seq : Sequence) (documents rest : List ℕ) → IsName seq.0
    → ReadsDocuments seq.1 documents → 5 + length seq.0 + length documents ≤ most → section_at found
    1 (behind_kind seq.0 documents rest) ≡ Ok ((found.0, found.1 ++ seq ∷ []), rest)
unfolding section_at
seq_section found seq documents rest is reads small =
    rw (sequence_again seq documents rest is reads small) refl

kind_first : (name documents rest : List ℕ)
    → sequence_section name documents ++ rest ≡ 1 ∷ behind_kind name documents rest
unfolding sequence_section
kind_first name documents rest = simp append_assoc

section_again : (n : ℕ) (found : Found) (section : grammar.Section) (first rest bytes : List ℕ)
    → ReadsSection section first → MayAdd found section → bytes ≡ first ++ rest → length bytes
    ≤ most → sections_at (suc n) found bytes ≡ sections_at n (adds found section) rest
section_again n found (inl doc) first rest bytes h may is small =
    let whole : bytes ≡ 0 ∷ h.0 ++ rest = is ∙ ap (λ (l : List ℕ). l ++ rest) h.2 in
    ap (sections_at (suc n) found) whole
    ∙ sections_turn n found 0 (h.0 ++ rest) ((Some doc, found.1), rest) (body_section found doc
    h.0 rest may h.1 (omega (arith, ap length whole, length-append h.0 rest)))
section_again n found (inr seq) first rest bytes h may is small =
    let whole : bytes ≡ 1 ∷ behind_kind seq.0 h.0 rest = is ∙ ap (λ (l : List ℕ). l ++ rest) h.3
    ∙ kind_first seq.0 h.0 rest in
    let len : 5 + length seq.0 + length h.0 ≤ most = omega
    (arith, ap length is, length-append first rest, ap length h.3, section_length seq.0 h.0) in
    ap (sections_at (suc n) found) whole ∙ sections_turn n found 1 (behind_kind seq.0 h.0 rest)
    ((found.0, found.1 ++ seq ∷ []), rest) (seq_section found seq h.0 rest h.1 h.2 len)

section_long : (section : grammar.Section) (first : List ℕ) → ReadsSection section first
    → 0 < length first
section_long (inl doc) first h = omega (arith, ap length h.2)
section_long (inr seq) first h = omega (arith, ap length h.3, section_length seq.0 h.0)

sections_long : (parts : List grammar.Section) (bytes : List ℕ) → ReadsSections parts bytes
    → length parts ≤ length bytes
sections_long [] bytes h = omega arith
sections_long (section ∷ more) bytes h = omega (
  arith,
  sections_long more h.1 h.4,
  section_long section h.0 h.2,
  ap length h.3,
  length-append h.0 h.1,
)

sections_none : (n : ℕ) (found : Found) (bytes : List ℕ) → bytes ≡ []
    → sections_at (suc n) found bytes ≡ finish found
unfolding sections_at
sections_none n found bytes is = rw is refl

-- the body and the sequences of what was found and of the sections after it
record AreWhole (found : Found) (parts : List grammar.Section) (one : Document)
    (all : List Sequence) : Type 0 where
  body : option_to_list found.0 ++ bodies parts ≡ one ∷ []
  seqs : found.1 ++ sequences_of parts ≡ all

one_body : (found : Option Document) (body : Document) → option_to_list found ++ [] ≡ body ∷ []
    → found ≡ Some body
one_body None body e = absurd cc
one_body (Some doc) body e = cc

no_body : (found : Option Document) (doc body : Document) (more : List Document)
    → option_to_list found ++ doc ∷ more ≡ body ∷ [] → found ≡ None
no_body None doc body more e = refl
no_body (Some other) doc body more e = absurd (omega (arith, ap length e))

may_add : (found : Found) (section : grammar.Section) (parts : List grammar.Section)
    (body : Document) (seqs : List Sequence) → AreWhole found (section ∷ parts) body seqs
    → MayAdd found section
may_add found (inl doc) parts body seqs h = no_body found.0 doc body (bodies parts) h.body
may_add found (inr seq) parts body seqs h = tt

added : (found : Found) (section : grammar.Section) (parts : List grammar.Section)
    (body : Document) (seqs : List Sequence) → AreWhole found (section ∷ parts) body seqs
    → AreWhole (adds found section) parts body seqs
added found (inl doc) parts body seqs h = record {
  body = rw (no_body found.0 doc body (bodies parts) h.body) at h.body;
  seqs = h.seqs;
}
added found (inr seq) parts body seqs h =
    record { body = h.body; seqs = append_assoc found.1 (seq ∷ []) (sequences_of parts) ∙ h.seqs }

sections_again : (parts : List grammar.Section) (bytes : List ℕ) (n : ℕ) (found : Found)
    (body : Document) (seqs : List Sequence) → ReadsSections parts bytes
    → AreWhole found parts body seqs → length parts < n → length bytes ≤ most
    → sections_at n found bytes ≡ Ok (body, seqs)
sections_again parts bytes zero found body seqs h whole lt small = absurd (omega arith)
sections_again [] bytes (suc n) found body seqs h whole lt small =
    sections_none n found bytes h ∙ rw (one_body found.0 body whole.body)
    (ap (λ (l : List Sequence). Ok (body, l)) (sym (append-nil found.1) ∙ whole.seqs))
sections_again (section ∷ parts) bytes (suc n) found body seqs h whole lt small =
    section_again n found section h.0 h.1 bytes h.2
    (may_add found section parts body seqs whole) h.3 small
    ∙ sections_again parts h.1 n (adds found section) body seqs h.4 (added found section parts body
    seqs whole) (omega arith) (omega (arith, ap length h.3, length-append h.0 h.1))

-- Flags and a checksum.

flags_again : (n bit flags : ℕ) → ((k : ℕ) → bit ≤ k → k < bit + n → has_flag k flags ≡ false)
    → least_flag n bit flags ≡ None
flags_again zero bit flags clear = refl
flags_again (suc n) bit flags clear = rw (clear bit (omega arith) (omega arith)) (flags_again n
    (bit + 1) flags (λ k low high. clear k (omega arith) (omega arith)))

sum_again : (b : Bool) (inside checksum : List ℕ) → length checksum ≡ cond b 4 0
    → without_sum b (inside ++ checksum) ≡ Ok inside
sum_again false inside [] len = ap (λ (l : List ℕ). Ok l) (append-nil inside)
sum_again false inside (x ∷ xs) len = absurd (omega arith)
sum_again true inside checksum len =
    let whole = inside ++ checksum in
    let four : ltb (length whole) 4 ≡ false =
    le-ltb _ _ (omega (arith, length-append inside checksum)) in
    let front : take (length whole - 4) whole ≡ inside =
    take_at inside checksum (length whole - 4) (omega (arith, length-append inside checksum)) in
    rw (four, front) refl

pub contents_again : (flags : ℕ) (more : Bool) (parts : List grammar.Section)
    (inside checksum : List ℕ) (body : Document) (seqs : List Sequence)
    → AreFlags flags more checksum → ReadsSections parts inside → bodies parts ≡ body ∷ []
    → sequences_of parts ≡ seqs → length inside ≤ most
    → contents_at (word flags ++ (inside ++ checksum)) ≡ Ok (more, body, seqs)
unfolding contents_at
contents_again flags more parts inside checksum body seqs f reads is_body are_seqs small =
    let num : number (word flags ++ (inside ++ checksum)) ≡ Ok (flags, inside ++ checksum) =
    number_again flags (inside ++ checksum) f.fits in
    let clear : least_flag 14 2 flags ≡ None =
    flags_again 14 2 flags (λ k low high. f.known k low (omega arith)) in
    let sum : without_sum (has_flag 0 flags) (inside ++ checksum) ≡ Ok inside =
    sum_again (has_flag 0 flags) inside checksum f.sum in
    let found : sections_at (length inside + 1) (None, []) inside ≡ Ok (body, seqs) =
    sections_again parts inside (length inside + 1) (None, []) body
    seqs reads (record { body = is_body; seqs = are_seqs })
    (omega (arith, sections_long parts inside reads)) small in
    rw (num, clear, sum, found) (ap (λ (b : Bool). Ok (b, body, seqs)) f.more_to_come)

-- An older message.

second_turn : (bytes : List ℕ) → 0 < length bytes
    → second_at bytes ≡ (document_at bytes >>= λ x. at_end x.1)
second_turn [] some = absurd (omega arith)
second_turn (b ∷ bytes) some = refl

second_again : (selector : Option Document) (bytes : List ℕ) → MayRead selector bytes
    → length bytes ≤ most → second_at bytes ≡ Ok tt
second_again None bytes h small = ap second_at h
second_again (Some doc) bytes h small =
    let some : 0 < length bytes = omega (arith, document_long doc bytes h) in
    let read : document_at bytes ≡ Ok (doc, []) = ap document_at (sym (append-nil bytes))
    ∙ document_again doc bytes [] h small in
    second_turn bytes some ∙ rw read refl

-- what stands after the header of an OP_QUERY
pub query_again : (q : Query) (body : Document) (selector : Option Document) (first second : List ℕ)
    → IsQuery q → Reads 100 body first → MayRead selector second → length first ≤ most
    → length second ≤ most
    → query_at (query_front q ++ (first ++ second)) ≡ Ok body
unfolding query_at query_front
query_again q body selector first second is reads fields small also_small =
    let documents = first ++ second in
    let behind_skip = word q.count ++ documents in
    let behind_name = word q.skip ++ behind_skip in
    let behind_flags = q.collection ++ 0 ∷ behind_name in
    let whole : query_front q ++ documents ≡ word q.flags ++ behind_flags = simp append_assoc in
    let flags : number (word q.flags ++ behind_flags) ≡ Ok (q.flags, behind_flags) =
    number_again q.flags behind_flags is.flags in
    let collection : name_at behind_flags ≡ Ok (q.collection, behind_name) =
    name_read q.collection behind_name is.collection in
    let skip : number behind_name ≡ Ok (q.skip, behind_skip) =
    number_again q.skip behind_skip is.skip in
    let count : number behind_skip ≡ Ok (q.count, documents) =
    number_again q.count documents is.count in
    let one : document_at documents ≡ Ok (body, second) =
    document_again body first second reads small in
    let two : second_at second ≡ Ok tt = second_again selector second fields also_small in
    rw (whole, flags, collection, skip, count, one, two) refl
