-- What is read is a message.
use Rattle.std.proofs.Common.{◌≡◌, ℕ, zero, suc, ◌-◌, ◌+◌, ◌≤◌, ◌<◌, Bool, true, false, cond, eqb}
use Rattle.std.proofs.Common.{ltb, List, [], ◌∷◌, ◌++◌, length, take, drop, Option, Some, None}
use Rattle.std.proofs.Common.{Result, Ok, Err, refl, sym, ap, subst, ◌∙◌, append_assoc, arith, inl}
use Rattle.std.proofs.Common.{inr, ◌⊎◌, option_to_list}
use Rattle.std.specs.Prelude.{◌||◌}
use Rattle.std.specs.Int.{w32}
use Rattle.std.proofs.lemmas.Bool.{cases_lt, ltb-false, eqb-true}
use Rattle.std.proofs.lemmas.List.{take-append-drop, length-append, length-take, length-drop}
use Rattle.std.proofs.lemmas.List.{append-nil, take_at}
use Rattle.outcomes.specs.Bind.{◌>>=◌}
use Rattle.outcomes.proofs.Binding.{bind_ok, passed, ok_is}
use Rattle.bson_core.specs.Fields.{Document}
use Rattle.bson_core.specs.Names.{IsName}
use Rattle.bson_core.specs.Grammar.{Reads}
use Rattle.bson_core.specs.Reading.{number_at, document_of}
use Rattle.bson_core.specs.Reading as document
use Rattle.bson_core.proofs.Sound.{IsInput, input-take, input-drop, Is32, number32, name_found}
use Rattle.bson_core.proofs.Whole.{whole_found}
use Rattle.op_msg.specs.declared.frame.FrameErr.{FrameErr}
use Rattle.op_msg.specs.declared.frame.FrameErr.TheVariants.{Section}
use Rattle.op_msg.specs.Words.{word}
use Rattle.op_msg.specs.Message.{Sequence, sequence_section, ReadsDocuments, ReadsSection}
use Rattle.op_msg.specs.Message.{ReadsSections, bodies, sequences_of, has_flag, AreFlags, MayRead}
use Rattle.op_msg.specs.Message.{Query, query_front, IsQuery}
use Rattle.op_msg.specs.Message as grammar
use Rattle.op_msg.specs.Reading.{number, extent, document_at, documents_at, name_at, sequence_at}
use Rattle.op_msg.specs.Reading.{Found, with_body, section_at, finish, sections_at, least_flag}
use Rattle.op_msg.specs.Reading.{known_by, without_sum, contents_at, at_end, second_at, query_at}
use Rattle.op_msg.proofs.Steps.{no_fault, was_read, was_name}

number_found : (bytes : List ℕ) (x : ℕ × List ℕ) → IsInput bytes → number bytes ≡ Ok x
    → Is32 bytes x
number_found bytes x h e = number32 bytes x h (no_fault Section (number_at w32 bytes) x e)

input_front : (front rest bytes : List ℕ) → bytes ≡ front ++ rest → IsInput bytes → IsInput front
input_front front rest bytes is h = subst IsInput (ap (take (length front)) is
    ∙ take_at front rest (length front) refl) (input-take (length front) bytes h)

-- Documents.

abbrev FoundDocument : List ℕ → Document × List ℕ → Type 0
FoundDocument bytes x = (b : List ℕ) × Reads 100 x.0 b × (bytes ≡ b ++ x.1) × IsInput x.1

document_found : (bytes : List ℕ) (x : Document × List ℕ) → IsInput bytes → document_at bytes ≡ Ok x
    → FoundDocument bytes x
unfolding document_at
document_found bytes x h e =
    let k = extent bytes in
    let b = bind_ok _ (λ doc. Ok (doc, drop k bytes)) x e in
    let read = was_read (document_of 400000000 (take k bytes)) b.0 b.1 in
    let front = input-take k bytes h in
    subst (FoundDocument bytes) (ok_is (b.0, drop k bytes) x b.2) (
      take k bytes,
      (whole_found 400000000 (take k bytes) b.0 front.fits read).0,
      sym (take-append-drop k bytes),
      input-drop k bytes h,
    )

documents_found : (n : ℕ) (front : List Document) (bytes : List ℕ) (docs : List Document)
    → IsInput bytes → documents_at n front bytes ≡ Ok docs
    → (more : List Document) × ReadsDocuments more bytes × (docs ≡ front ++ more)
unfolding documents_at
documents_found zero front bytes docs h e = absurd cc
documents_found (suc n) front [] docs h e =
    ([], refl, sym (ok_is front docs e) ∙ sym (append-nil front))
documents_found (suc n) front (b ∷ bytes) docs h e =
    let d =
    bind_ok (document_at (b ∷ bytes)) (λ x. documents_at n (front ++ x.0 ∷ []) x.1) docs e in
    let f = document_found (b ∷ bytes) d.0 h d.1 in
    let r = documents_found n (front ++ d.0.0 ∷ []) d.0.1 docs f.3 d.2 in
    (d.0.0 ∷ r.0, (f.0, d.0.1, f.1, f.2, r.1), r.2 ∙ append_assoc front (d.0.0 ∷ []) r.0)

-- Sequences.

abbrev FoundSequence : List ℕ → Sequence × List ℕ → Type 0
FoundSequence bytes x = (documents : List ℕ) × IsName x.0.0 × ReadsDocuments x.0.1 documents
    × (1 ∷ bytes ≡ sequence_section x.0.0 documents ++ x.1) × IsInput x.1

both_clear : (a b : Bool) → (a || b) ≡ false → (a ≡ false) × (b ≡ false)
both_clear true b e = absurd cc
both_clear false b e = (refl, e)

sized : (size : ℕ) (bytes rest name documents after : List ℕ) → bytes ≡ word size ++ rest
    → rest ≡ (name ++ 0 ∷ documents) ++ after → size ≡ 4 + length name + 1 + length documents
    → 1 ∷ bytes ≡ sequence_section name documents ++ after
unfolding sequence_section
sized size bytes rest name documents after p q s =
    ap (λ (l : List ℕ). 1 ∷ l) (p ∙ ap (λ (n : ℕ). word n ++ rest) s ∙ ap
    (λ (l : List ℕ). word (4 + length name + 1 + length documents) ++ l) q) ∙ simp append_assoc

sequence_found : (bytes : List ℕ) (x : Sequence × List ℕ) → IsInput bytes → sequence_at bytes ≡ Ok x
    → FoundSequence bytes x
unfolding sequence_at name_at word
sequence_found bytes x h e =
    let s = bind_ok (number bytes) _ x e in
    let size = s.0.0 in
    let rest = s.0.1 in
    let inside = take (size - 4) rest in
    let after = drop (size - 4) rest in
    let num = number_found bytes s.0 h s.1 in
    let g = passed (ltb size 4 || ltb (length rest) (size - 4)) Section _ x s.2 in
    let tests = both_clear (ltb size 4) (ltb (length rest) (size - 4)) g.0 in
    let four : 4 ≤ size = ltb-false _ _ tests.0 in
    let long : size - 4 ≤ length rest = ltb-false _ _ tests.1 in
    let m = bind_ok (name_at inside) _ x g.1 in
    let name = name_found 0 inside m.0 (input-take (size - 4) rest num.1)
    (was_name (document.name_at 0 inside) m.0 m.1) in
    let d = bind_ok (documents_at (length m.0.1 + 1) [] m.0.1) (λ docs.
    Ok ((m.0.0, docs), after)) x m.2 in
    let docs = documents_found (length m.0.1 + 1) [] m.0.1 d.0 name.2 d.1 in
    let parts : rest ≡ (m.0.0 ++ 0 ∷ m.0.1) ++ after = sym (take-append-drop (size - 4) rest)
    ∙ ap (λ (l : List ℕ). l ++ after) name.0 in
    let len : size ≡ 4 + length m.0.0 + 1 + length m.0.1 = omega
    (arith, length-take (size - 4) rest, ap length name.0, length-append m.0.0 (0 ∷ m.0.1)) in
    let reads : ReadsDocuments d.0 m.0.1 =
    subst (λ (l : List Document). ReadsDocuments l m.0.1) (sym docs.2) docs.1 in
    subst (FoundSequence bytes) (ok_is ((m.0.0, d.0), after) x d.2) (
      m.0.1,
      name.1,
      reads,
      sized size bytes rest m.0.0 m.0.1 after num.0 parts len,
      input-drop (size - 4) rest num.1,
    )

-- Sections.

-- what a section adds to what was found
abbrev Adds : Found → grammar.Section → Found → Type 0
Adds found (inl doc) more = (found.0 ≡ None) × (more ≡ (Some doc, found.1))
Adds found (inr seq) more = more ≡ (found.0, found.1 ++ seq ∷ [])

abbrev FoundSection : Found → List ℕ → Found × List ℕ → Type 0
FoundSection found bytes x = (section : grammar.Section) × (first : List ℕ)
    × ReadsSection section first × (bytes ≡ first ++ x.1) × IsInput x.1 × Adds found section x.0

body_found : (body : Option Document) (seqs : List Sequence) (kind : ℕ) (bytes : List ℕ) (x : Found
    × List ℕ) → kind ≡ 0 → IsInput bytes → with_body body seqs bytes ≡ Ok x
    → FoundSection (body, seqs) (kind ∷ bytes) x
body_found (Some body) seqs kind bytes x is h e = absurd cc
body_found None seqs kind bytes x is h e =
    let d = bind_ok (document_at bytes) (λ y. Ok ((Some y.0, seqs), y.1)) x e in
    let f = document_found bytes d.0 h d.1 in
    subst (λ (y : Found × List ℕ). FoundSection (None, seqs) (kind ∷ bytes) y)
    (ok_is ((Some d.0.0, seqs), d.0.1) x d.2) (
      inl d.0.0,
      0 ∷ f.0,
      (f.0, f.1, refl),
      ap (λ (k : ℕ). k ∷ bytes) is ∙ ap (λ (l : List ℕ). 0 ∷ l) f.2,
      f.3,
      (refl, refl),
    )

chosen : {A : Type 0} (b : Bool) (x y z : A) → cond b x y ≡ z
    → ((b ≡ true) × (x ≡ z)) ⊎ ((b ≡ false) × (y ≡ z))
chosen true x y z e = inl (refl, e)
chosen false x y z e = inr (refl, e)

section_found : (found : Found) (kind : ℕ) (bytes : List ℕ) (x : Found × List ℕ)
    → IsInput (kind ∷ bytes) → section_at found kind bytes ≡ Ok x
    → FoundSection found (kind ∷ bytes) x
unfolding section_at
section_found found kind bytes x h e =
    let inner : IsInput bytes = input-drop 1 (kind ∷ bytes) h in
    elim (chosen (eqb kind 0) (with_body found.0 found.1 bytes) _ (Ok x) e) [
      | inl w ↦ body_found found.0 found.1 kind bytes x (eqb-true kind 0 w.0) inner w.1
      | inr v ↦ elim (chosen (eqb kind 1) (sequence_at bytes
          >>= λ y. Ok ((found.0, found.1 ++ y.0 ∷ []), y.1)) (Err Section) (Ok x) v.1) [
            | inl w ↦
                let s =
                bind_ok (sequence_at bytes) (λ y. Ok ((found.0, found.1 ++ y.0 ∷ []), y.1)) x w.1 in
                let f = sequence_found bytes s.0 inner s.1 in
                subst (λ (y : Found × List ℕ). FoundSection found (kind ∷ bytes) y)
                (ok_is ((found.0, found.1 ++ s.0.0 ∷ []), s.0.1) x s.2) (
                  inr s.0.0,
                  sequence_section s.0.0.0 f.0,
                  (f.0, f.1, f.2, refl),
                  ap (λ (k : ℕ). k ∷ bytes) (eqb-true kind 1 w.0) ∙ f.3,
                  f.4,
                  refl,
                )
            | inr w ↦ absurd (let bad : ◌≡◌ {A = Result (Found × List ℕ) FrameErr} (Err Section)
                (Ok x) = w.1 in cc)
          ]
    ]

-- the body and the sequences of what was found and of the sections after it
pub record AreWhole (found : Found) (parts : List grammar.Section)
    (whole : Document × List Sequence) : Type 0 where
  pub body : option_to_list found.0 ++ bodies parts ≡ whole.0 ∷ []
  pub seqs : found.1 ++ sequences_of parts ≡ whole.1

finished : (found : Found) (whole : Document × List Sequence) → finish found ≡ Ok whole
    → AreWhole found [] whole
finished (None, seqs) whole e = absurd cc
finished (Some body, seqs) whole e =
    let same : (body, seqs) ≡ whole = ok_is (body, seqs) whole e in
    subst (AreWhole (Some body, seqs) []) same (record { body = refl; seqs = append-nil seqs })

one_more : (found more : Found) (section : grammar.Section) (parts : List grammar.Section)
    (whole : Document × List Sequence) → Adds found section more → AreWhole more parts whole
    → AreWhole found (section ∷ parts) whole
one_more found more (inl doc) parts whole adds rest = record {
  body = rw adds.0 (rw adds.1 at rest.body);
  seqs = rw adds.1 at rest.seqs;
}
one_more found more (inr seq) parts whole adds rest = record {
  body = rw adds at rest.body;
  seqs = sym (append_assoc found.1 (seq ∷ []) (sequences_of parts)) ∙ (rw adds at rest.seqs);
}

sections_found : (n : ℕ) (found : Found) (bytes : List ℕ) (whole : Document × List Sequence)
    → IsInput bytes → sections_at n found bytes ≡ Ok whole
    → (parts : List grammar.Section) × ReadsSections parts bytes × AreWhole found parts whole
unfolding sections_at
sections_found zero found bytes whole h e = absurd cc
sections_found (suc n) found [] whole h e = ([], refl, finished found whole e)
sections_found (suc n) found (kind ∷ bytes) whole h e =
    let s = bind_ok (section_at found kind bytes) (λ x. sections_at n x.0 x.1) whole e in
    let f = section_found found kind bytes s.0 h s.1 in
    let r = sections_found n s.0.0 s.0.1 whole f.4 s.2 in
    (f.0 ∷ r.0, (f.1, s.0.1, f.2, f.3, r.1), one_more found s.0.0 f.0 r.0 whole f.5 r.2)

-- Flags.

one_clear : (b : Bool) (bit k flags : ℕ) (others : Option ℕ) → has_flag bit flags ≡ b
    → cond b (Some bit) others ≡ None → (others ≡ None → bit + 1 ≤ k → has_flag k flags ≡ false)
    → bit ≤ k → has_flag k flags ≡ false
one_clear true bit k flags others is none behind low = absurd cc
one_clear false bit k flags others is none behind low = elim (cases_lt bit k) [
  | inl lt ↦ behind none (omega arith)
  | inr ge ↦ (let same : k ≡ bit = omega arith in ap (λ (i : ℕ). has_flag i flags) same ∙ is)
]

flags_clear : (n bit flags : ℕ) → least_flag n bit flags ≡ None → (k : ℕ) → bit ≤ k → k < bit + n
    → has_flag k flags ≡ false
flags_clear zero bit flags e k low high = absurd (omega arith)
flags_clear (suc n) bit flags e k low high =
    one_clear (has_flag bit flags) bit k flags (least_flag n (bit + 1) flags) refl e (λ none more.
    flags_clear n (bit + 1) flags none k more (omega arith)) low

known : (o : Option ℕ) (flags x : ℕ) → known_by o (Ok flags) ≡ Ok x → (o ≡ None) × (flags ≡ x)
known None flags x e = (refl, ok_is flags x e)
known (Some bit) flags x e = absurd cc

-- the sections and the checksum after them
sum_found : (b : Bool) (bytes inside : List ℕ) → without_sum b bytes ≡ Ok inside
    → (checksum : List ℕ) × (bytes ≡ inside ++ checksum) × (length checksum ≡ cond b 4 0)
sum_found false bytes inside e = ([], ok_is bytes inside e ∙ sym (append-nil inside), refl)
sum_found true bytes inside e =
    let g = passed (ltb (length bytes) 4) Section (Ok (take (length bytes - 4) bytes)) inside e in
    let four : 4 ≤ length bytes = ltb-false _ _ g.0 in (
      drop (length bytes - 4) bytes,
      sym (take-append-drop (length bytes - 4) bytes) ∙ ap (λ (l : List ℕ). l
          ++ drop (length bytes - 4) bytes) (ok_is (take (length bytes - 4) bytes) inside g.1),
      omega (arith, length-drop (length bytes - 4) bytes),
    )

-- what stands after a header
pub record AreContents (bytes : List ℕ) (c : Bool × Document × List Sequence) : Type 0 where
  pub flags : ℕ
  pub parts : List grammar.Section
  pub inside : List ℕ
  pub checksum : List ℕ
  pub spelled : bytes ≡ word flags ++ (inside ++ checksum)
  pub are_flags : AreFlags flags c.0 checksum
  pub reads : ReadsSections parts inside
  pub body : bodies parts ≡ c.1 ∷ []
  pub seqs : sequences_of parts ≡ c.2

pub contents_found : (bytes : List ℕ) (c : Bool × Document × List Sequence) → IsInput bytes
    → contents_at bytes ≡ Ok c → AreContents bytes c
unfolding contents_at word
contents_found bytes c h e =
    let f = bind_ok (number bytes) _ c e in
    let num = number_found bytes f.0 h f.1 in
    let k = bind_ok (known_by (least_flag 14 2 f.0.0) (Ok f.0.0)) _ c f.2 in
    let is = known (least_flag 14 2 f.0.0) f.0.0 k.0 k.1 in
    let s = bind_ok (without_sum (has_flag 0 k.0) f.0.1) _ c k.2 in
    let sum = sum_found (has_flag 0 k.0) f.0.1 s.0 s.1 in
    let r = bind_ok (sections_at (length s.0 + 1) (None, []) s.0) _ c s.2 in
    let inner = input_front s.0 sum.0 f.0.1 sum.1 num.1 in
    let found = sections_found (length s.0 + 1) (None, []) s.0 r.0 inner r.1 in
    let clear = flags_clear 14 2 f.0.0 is.0 in
    subst (AreContents bytes) (ok_is (has_flag 1 k.0, r.0.0, r.0.1) c r.2)
    (record {
      flags = f.0.0;
      parts = found.0;
      inside = s.0;
      checksum = sum.0;
      spelled = num.0 ∙ ap (λ (l : List ℕ). word f.0.0 ++ l) sum.1;
      are_flags = record {
        fits = num.2;
        known = λ bit low high. clear bit low (omega arith);
        more_to_come = ap (λ (n : ℕ). has_flag 1 n) is.1;
        sum = sum.2 ∙ ap (λ (n : ℕ). cond (has_flag 0 n) 4 0) (sym is.1);
      };
      reads = found.1;
      body = found.2.body;
      seqs = found.2.seqs;
    })

-- An older message.

ended : (bytes : List ℕ) (u : Unit {0}) → at_end bytes ≡ Ok u → bytes ≡ []
ended [] u e = refl
ended (b ∷ bytes) u e = absurd cc

second_found : (bytes : List ℕ) (u : Unit {0}) → IsInput bytes → second_at bytes ≡ Ok u
    → (selector : Option Document) × MayRead selector bytes
second_found [] u h e = (None, refl)
second_found (b ∷ bytes) u h e =
    let d = bind_ok (document_at (b ∷ bytes)) (λ x. at_end x.1) u e in
    let f = document_found (b ∷ bytes) d.0 h d.1 in
    let whole : b ∷ bytes ≡ f.0 = f.2 ∙ ap (λ (l : List ℕ). f.0 ++ l) (ended d.0.1 u d.2)
    ∙ append-nil f.0 in
    (Some d.0.0, subst (λ (l : List ℕ). Reads 100 d.0.0 l) (sym whole) f.1)

-- what stands after the header of an OP_QUERY
pub record AreQuery (bytes : List ℕ) (body : Document) : Type 0 where
  pub query : Query
  pub selector : Option Document
  pub first : List ℕ
  pub second : List ℕ
  pub spelled : bytes ≡ query_front query ++ (first ++ second)
  pub is_query : IsQuery query
  pub reads : Reads 100 body first
  pub fields : MayRead selector second

query_spelled : (q : Query) (bytes after name skip documents : List ℕ)
    → bytes ≡ word q.flags ++ after → after ≡ q.collection ++ 0 ∷ name → name ≡ word q.skip ++ skip
    → skip ≡ word q.count ++ documents → bytes ≡ query_front q ++ documents
unfolding query_front
query_spelled q bytes after name skip documents a b c d =
    a ∙ ap (λ (l : List ℕ). word q.flags ++ l) (b ∙ ap (λ (l : List ℕ). q.collection ++ 0 ∷ l)
    (c ∙ ap (λ (l : List ℕ). word q.skip ++ l) d)) ∙ simp append_assoc

pub query_found : (bytes : List ℕ) (body : Document) → IsInput bytes → query_at bytes ≡ Ok body
    → AreQuery bytes body
unfolding query_at name_at word
query_found bytes body h e =
    let a = bind_ok (number bytes) _ body e in
    let na = number_found bytes a.0 h a.1 in
    let b = bind_ok (name_at a.0.1) _ body a.2 in
    let nb = name_found 0 a.0.1 b.0 na.1 (was_name (document.name_at 0 a.0.1) b.0 b.1) in
    let c = bind_ok (number b.0.1) _ body b.2 in
    let nc = number_found b.0.1 c.0 nb.2 c.1 in
    let d = bind_ok (number c.0.1) _ body c.2 in
    let nd = number_found c.0.1 d.0 nc.1 d.1 in
    let one = bind_ok (document_at d.0.1) _ body d.2 in
    let first = document_found d.0.1 one.0 nd.1 one.1 in
    let two = bind_ok (second_at one.0.1) _ body one.2 in
    let second = second_found one.0.1 two.0 first.3 two.1 in
    let query : Query = record { flags = a.0.0; collection = b.0.0; skip = c.0.0; count = d.0.0 } in
    subst (AreQuery bytes) (ok_is one.0.0 body two.2)
    (record {
      query = query;
      selector = second.0;
      first = first.0;
      second = one.0.1;
      spelled = query_spelled query bytes a.0.1 b.0.1 c.0.1 d.0.1 na.0 nb.0 nc.0 nd.0
          ∙ ap (λ (l : List ℕ). query_front query ++ l) first.2;
      is_query = record { flags = na.2; collection = nb.1; skip = nc.2; count = nd.2 };
      reads = first.1;
      fields = second.1;
    })
