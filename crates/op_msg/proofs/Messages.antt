-- The message that is all of the bytes.
use Rattle.std.proofs.Common.{◌≡◌, ℕ, ℤ, ◌^◌, ◌≤◌, ◌<◌, Bool, true, false, not, cond, eqb, ltb}
use Rattle.std.proofs.Common.{List, [], ◌++◌, length, get_or, Result, Ok, Err, refl, sym, ap, subst}
use Rattle.std.proofs.Common.{◌∙◌, append_assoc, arith, inl, inr, ◌⊎◌, Fits}
use Rattle.std.specs.Prelude.{if◌then◌else◌, ◌&&◌, IsTrue, FitsSigned, IfOk}
use Rattle.std.specs.Int.{w32, cast_signed, cast_unsigned}
use Rattle.std.proofs.lemmas.Int.{of_z-to_z, to_z-of_z}
use Rattle.std.proofs.Math.Facts.{sfits_to_z, Fits-of_z}
use Rattle.std.proofs.lemmas.Bool.{ltb-false, le-ltb, lt-ltb, eqb-true, eq-eqb}
use Rattle.std.proofs.lemmas.List.{length-append}
use Rattle.outcomes.proofs.Binding.{bind_ok, passed, ok_is}
use Rattle.bson_core.specs.Fields.{Document}
use Rattle.bson_core.specs.Reading.{number_at}
use Rattle.bson_core.proofs.Sound.{IsInput, Is32, number32}
use Rattle.bson_core.proofs.Again.{number32_again}
use Rattle.op_msg.specs.declared.header.Header.{Header}
use Rattle.op_msg.specs.declared.frame.Frame.{Frame}
use Rattle.op_msg.specs.declared.frame.FrameErr.{FrameErr}
use Rattle.op_msg.specs.declared.frame.FrameErr.TheVariants.{Length, TooLarge, OpCode}
use Rattle.op_msg.specs.Words.{word}
use Rattle.op_msg.specs.Errors.{Gives}
use Rattle.op_msg.specs.Message.{Sequence, front, is_internal, IsWithinLimits, query_front}
use Rattle.op_msg.specs.Message.{IsCurrent, IsOlder, IsMessage}
use Rattle.op_msg.specs.Reading.{header_number, header_at, is_length, contents_at, query_at}
use Rattle.op_msg.specs.Reading.{contents_in, contents_within, is_older, frame_by, frame_of}
use Rattle.op_msg.proofs.Steps.{no_fault}
use Rattle.op_msg.proofs.Fronts.{query_behind, query_begins}
use Rattle.op_msg.proofs.Found.{contents_found, query_found}
use Rattle.op_msg.proofs.Read.{contents_again, query_again}

-- The header.

number_found : (bytes : List ℕ) (x : ℕ × List ℕ) → IsInput bytes → header_number bytes ≡ Ok x
    → Is32 bytes x
number_found bytes x h e = number32 bytes x h (no_fault Length (number_at w32 bytes) x e)

number_again : (n : ℕ) (rest : List ℕ) → n < 2 ^ 32 → header_number (word n ++ rest) ≡ Ok (n, rest)
unfolding word
number_again n rest lt = rw (number32_again n rest lt) refl

record AreHeader (bytes : List ℕ) (x : Header × List ℕ) : Type 0 where
  spelled : bytes
      ≡ word x.0.len ++ (word x.0.request_id ++ (word x.0.response_to ++ (word x.0.op_code ++ x.1)))
  request_id : x.0.request_id < 2 ^ 32
  response_to : x.0.response_to < 2 ^ 32
  input : IsInput x.1

header_found : (bytes : List ℕ) (x : Header × List ℕ) → IsInput bytes → header_at bytes ≡ Ok x
    → AreHeader bytes x
unfolding header_at word
header_found bytes x h e =
    let a = bind_ok (header_number bytes) _ x e in
    let na = number_found bytes a.0 h a.1 in
    let b = bind_ok (header_number a.0.1) _ x a.2 in
    let nb = number_found a.0.1 b.0 na.1 b.1 in
    let c = bind_ok (header_number b.0.1) _ x b.2 in
    let nc = number_found b.0.1 c.0 nb.1 c.1 in
    let d = bind_ok (header_number c.0.1) _ x c.2 in
    let nd = number_found c.0.1 d.0 nc.1 d.1 in
    let made : Header =
    record { len = a.0.0; request_id = b.0.0; response_to = c.0.0; op_code = d.0.0 } in
    let last = ap (λ (l : List ℕ). word c.0.0 ++ l) nd.0 in
    let third = nc.0 ∙ last in
    let second = nb.0 ∙ ap (λ (l : List ℕ). word b.0.0 ++ l) third in
    subst (AreHeader bytes) (ok_is (made, d.0.1) x d.2)
    (record {
      spelled = na.0 ∙ ap (λ (l : List ℕ). word a.0.0 ++ l) second;
      request_id = nb.2;
      response_to = nc.2;
      input = nd.1;
    })

header_again : (len request_id response_to op_code : ℕ) (rest : List ℕ) → len < 2 ^ 32
    → request_id < 2 ^ 32 → response_to < 2 ^ 32 → op_code < 2 ^ 32
    → header_at (word len ++ (word request_id ++ (word response_to ++ (word op_code ++ rest))))
    ≡ Ok (
      record { len = len; request_id = request_id; response_to = response_to; op_code = op_code },
      rest,
    )
unfolding header_at
header_again len request_id response_to op_code rest p q r s =
    rw (
      number_again len (word request_id ++ (word response_to ++ (word op_code ++ rest))) p,
      number_again request_id (word response_to ++ (word op_code ++ rest)) q,
      number_again response_to (word op_code ++ rest) r,
      number_again op_code rest s,
    ) refl

front_header : (len : ℕ) (request_id response_to : ℤ) (flags : ℕ) (rest : List ℕ)
    → front len request_id response_to flags ++ rest ≡ word len ++ (word (cast_unsigned w32
    request_id) ++ (word (cast_unsigned w32 response_to) ++ (word 2013 ++ (word flags ++ rest))))
unfolding front
front_header len request_id response_to flags rest = simp append_assoc

-- Limits.

not_clear : (b : Bool) → not b ≡ false → b ≡ true
not_clear true e = refl
not_clear false e = absurd cc

both_set : (a b : Bool) → (a && b) ≡ true → (a ≡ true) × (b ≡ true)
both_set true b e = (refl, e)
both_set false b e = absurd cc

within : (long internal : Bool) → (long && not internal) ≡ false → (long ≡ false) ⊎ IsTrue internal
within true true e = inr refl
within true false e = absurd cc
within false internal e = inl refl

limits_found : (len : ℕ) (body : Document) → ltb 400000000 len ≡ false
    → (ltb 48000000 len && not (is_internal body)) ≡ false → IsWithinLimits len body
limits_found len body low client = record {
  most = ltb-false _ _ low;
  client = elim (within (ltb 48000000 len) (is_internal body) client)
      [ inl w ↦ inl (ltb-false _ _ w) | inr w ↦ inr w ];
}

client_again : (len : ℕ) (body : Document) → IsWithinLimits len body
    → (ltb 48000000 len && not (is_internal body)) ≡ false
client_again len body h = elim h.client [
  | inl w ↦ (let low : ltb 48000000 len ≡ false = le-ltb _ _ w in rw low refl)
  | inr w ↦ by (ltb 48000000 len) (is_internal body) w
]
  where
    by : (a b : Bool) → IsTrue b → (a && not b) ≡ false
    by true true w = refl
    by true false w = absurd cc
    by false b w = refl

-- The whole.

signed : (n : ℕ) → n < 2 ^ 32 → FitsSigned w32 (cast_signed w32 n)
signed n lt = let f : Fits w32 n = omega arith in sfits_to_z f

cast_fits : (a : ℤ) → FitsSigned w32 a → cast_unsigned w32 a < 2 ^ 32
cast_fits a fits = let h = Fits-of_z fits in omega arith

-- which operation is read
older : (op_code : ℕ) (legacy : Bool) → is_older op_code ≡ Ok legacy
    → op_code ≡ (if legacy then 2004 else 2013)
older op_code legacy e = by (eqb op_code 2013) (eqb op_code 2004) refl refl legacy e
  where
    by : (current query : Bool) → eqb op_code 2013 ≡ current → eqb op_code 2004 ≡ query
        → (legacy : Bool) → cond current (Ok false) (cond query (Ok true) (Err OpCode)) ≡ Ok legacy
        → op_code ≡ (if legacy then 2004 else 2013)
    by true query p q false e = eqb-true _ _ p
    by true query p q true e = absurd cc
    by false true p q true e = eqb-true _ _ q
    by false true p q false e = absurd cc
    by false false p q legacy e = absurd cc

-- The numbers of a header, and what stands after them.
record AreFound (bytes : List ℕ) (header : Header) (legacy : Bool) (inside : List ℕ) : Type 0 where
  spelled : bytes ≡ word (length bytes) ++ (word header.request_id
      ++ (word header.response_to ++ (word (if legacy then 2004 else 2013) ++ inside)))
  request_id : header.request_id < 2 ^ 32
  response_to : header.response_to < 2 ^ 32
  input : IsInput inside

current_found : (bytes : List ℕ) (header : Header) (inside : List ℕ) (c : Bool × Document
    × List Sequence) → AreFound bytes header false inside → contents_at inside ≡ Ok c
    → IsWithinLimits (length bytes) c.1 → IsCurrent bytes (frame_by header false c)
current_found bytes header inside c found e limits =
    let contents = contents_found inside c found.input e in
    let request_id = cast_signed w32 header.request_id in
    let response_to = cast_signed w32 header.response_to in
    let rest = contents.inside ++ contents.checksum in
    let whole : bytes ≡ front (length bytes) request_id response_to contents.flags ++ rest =
    rw (
      front_header (length bytes) request_id response_to contents.flags rest,
      of_z-to_z w32 header.request_id found.request_id,
      of_z-to_z w32 header.response_to found.response_to,
    )
    (found.spelled ∙ ap (λ (l : List ℕ). word (length bytes) ++ (word header.request_id
    ++ (word header.response_to ++ (word 2013 ++ l)))) contents.spelled) in record {
      flags = contents.flags;
      parts = contents.parts;
      inside = contents.inside;
      checksum = contents.checksum;
      spelled = whole ∙ sym (append_assoc (front (length bytes) request_id response_to
          contents.flags) contents.inside contents.checksum);
      request_id = signed header.request_id found.request_id;
      response_to = signed header.response_to found.response_to;
      are_flags = contents.are_flags;
      reads = contents.reads;
      body = contents.body;
      seqs = contents.seqs;
      limits = limits;
      modern = refl;
    }

older_found : (bytes : List ℕ) (header : Header) (inside : List ℕ) (body : Document)
    → AreFound bytes header true inside → query_at inside ≡ Ok body
    → IsWithinLimits (length bytes) body → IsOlder bytes (frame_by header true (false, body, []))
older_found bytes header inside body found e limits =
    let q = query_found inside body found.input e in
    let request_id = cast_signed w32 header.request_id in
    let response_to = cast_signed w32 header.response_to in
    let whole : bytes ≡ word (length bytes)
    ++ query_behind request_id response_to (query_front q.query ++ (q.first ++ q.second)) =
    rw (
      of_z-to_z w32 header.request_id found.request_id,
      of_z-to_z w32 header.response_to found.response_to,
    )
    (found.spelled ∙ ap (λ (l : List ℕ). word (length bytes) ++ (word header.request_id
    ++ (word header.response_to ++ (word 2004 ++ l)))) q.spelled) in record {
      query = q.query;
      selector = q.selector;
      first = q.first;
      second = q.second;
      spelled = whole ∙ sym (query_begins (length bytes) request_id response_to
          (query_front q.query) q.first q.second);
      request_id = signed header.request_id found.request_id;
      response_to = signed header.response_to found.response_to;
      is_query = q.is_query;
      body = q.reads;
      fields = q.fields;
      limits = limits;
      older = refl;
      no_more = refl;
      no_sequences = refl;
    }

in_form : (bytes : List ℕ) (header : Header) (legacy : Bool) (inside : List ℕ) (c : Bool × Document
    × List Sequence) → AreFound bytes header legacy inside → contents_in legacy inside ≡ Ok c
    → IsWithinLimits (length bytes) c.1 → IsMessage bytes (frame_by header legacy c)
in_form bytes header false inside c found e limits =
    inl (current_found bytes header inside c found e limits)
in_form bytes header true inside c found e limits =
    let b = bind_ok (query_at inside) (λ body. Ok (false, body, [])) c e in
    let same : (false, b.0, []) ≡ c = ok_is (false, b.0, []) c b.2 in
    inr (subst (λ (x : Bool × Document × List Sequence). IsOlder bytes (frame_by header true x))
    same (older_found bytes header inside b.0 found b.1 (subst (λ (x : Bool × Document
    × List Sequence). IsWithinLimits (length bytes) x.1) (sym same) limits)))

pub frame_found : (bytes : List ℕ) (f : Frame) → ((i : ℕ) → get_or bytes i 0 < 256)
    → frame_of bytes ≡ Ok f → IsMessage bytes f
unfolding frame_of
frame_found bytes f fits e =
    let h = bind_ok (header_at bytes) _ f e in
    let g1 = passed (not (is_length h.0.0.len (length bytes))) Length _ f h.2 in
    let g2 = passed (ltb 400000000 (length bytes)) TooLarge _ f g1.1 in
    let o = bind_ok (is_older h.0.0.op_code) _ f g2.1 in
    let c = bind_ok (contents_within o.0 (length bytes) h.0.1) (λ contents.
    Ok (frame_by h.0.0 o.0 contents)) f o.2 in
    let d = bind_ok (contents_in o.0 h.0.1) _ c.0 c.1 in
    let g4 =
    passed (ltb 48000000 (length bytes) && not (is_internal d.0.1)) TooLarge (Ok d.0) c.0 d.2 in
    let same : d.0 ≡ c.0 = ok_is d.0 c.0 g4.1 in
    let low : length bytes ≤ 400000000 = ltb-false _ _ g2.0 in
    let input : IsInput bytes = record { fits = fits; short = omega arith } in
    let header = header_found bytes h.0 input h.1 in
    let len =
    both_set (eqb h.0.0.len (length bytes)) (ltb h.0.0.len 2147483648) (not_clear _ g1.0) in
    let len_is : h.0.0.len ≡ length bytes = eqb-true _ _ len.0 in
    let whole = header.spelled ∙ ap (λ (n : ℕ). word n ++ (word h.0.0.request_id
    ++ (word h.0.0.response_to ++ (word h.0.0.op_code ++ h.0.1)))) len_is
    ∙ ap (λ (n : ℕ). word (length bytes) ++ (word h.0.0.request_id
    ++ (word h.0.0.response_to ++ (word n ++ h.0.1)))) (older h.0.0.op_code o.0 o.1) in
    let found : AreFound bytes h.0.0 o.0 h.0.1 = record {
      spelled = whole;
      request_id = header.request_id;
      response_to = header.response_to;
      input = header.input;
    } in
    subst (IsMessage bytes) (ap (frame_by h.0.0 o.0) same ∙ ok_is (frame_by h.0.0 o.0 c.0) f c.2)
    (in_form bytes h.0.0 o.0 h.0.1 d.0 found d.1 (limits_found (length bytes) d.0.1 g2.0 g4.0))

frame_is : (f : Frame) (legacy more : Bool) (seqs : List Sequence) → f.legacy ≡ legacy
    → f.more ≡ more → f.seqs ≡ seqs → record {
      request_id = f.request_id;
      response_to = f.response_to;
      legacy = legacy;
      more = more;
      body = f.body;
      seqs = seqs;
    } ≡ f
frame_is f legacy more seqs a b c = sym (λ i. record {
  request_id = f.request_id;
  response_to = f.response_to;
  legacy = a i;
  more = b i;
  body = f.body;
  seqs = c i;
})

-- the tests in front of what a message holds
record IsFramed (bytes : List ℕ) (f : Frame) (legacy : Bool) (inside : List ℕ) : Type 0 where
  spelled : bytes ≡ word (length bytes) ++ (word (cast_unsigned w32 f.request_id) ++ (word
      (cast_unsigned w32 f.response_to) ++ (word (if legacy then 2004 else 2013) ++ inside)))
  request_id : FitsSigned w32 f.request_id
  response_to : FitsSigned w32 f.response_to
  limits : IsWithinLimits (length bytes) f.body

-- the operation of a form
is_form : (legacy : Bool) → is_older (if legacy then 2004 else 2013) ≡ Ok legacy
is_form true = refl
is_form false = refl

small_form : (legacy : Bool) → (if legacy then 2004 else 2013) < 2 ^ 32
small_form true = omega arith
small_form false = omega arith

framed_again : (bytes : List ℕ) (f : Frame) (legacy : Bool) (inside : List ℕ) (c : Bool × Document
    × List Sequence) → IsFramed bytes f legacy inside → contents_in legacy inside ≡ Ok c
    → c.1 ≡ f.body
    → frame_of bytes ≡ Ok (record {
      request_id = f.request_id;
      response_to = f.response_to;
      legacy = legacy;
      more = c.0;
      body = c.1;
      seqs = c.2;
    })
unfolding frame_of
framed_again bytes f legacy inside c m contents same =
    let request_id = cast_unsigned w32 f.request_id in
    let response_to = cast_unsigned w32 f.response_to in
    let p = cast_fits f.request_id m.request_id in
    let q = cast_fits f.response_to m.response_to in
    let low : length bytes ≤ 400000000 = m.limits.most in
    let op_code = if legacy then 2004 else 2013 in
    let header : header_at bytes ≡ Ok (
      record {
        len = length bytes;
        request_id = request_id;
        response_to = response_to;
        op_code = op_code;
      },
      inside,
    ) =
    ap header_at m.spelled ∙ header_again (length bytes) request_id response_to op_code inside
    (omega arith) p q (small_form legacy) in
    let is_len : eqb (length bytes) (length bytes) ≡ true = eq-eqb _ _ refl in
    let is_small : ltb (length bytes) 2147483648 ≡ true = lt-ltb _ _ (omega arith) in
    let most : ltb 400000000 (length bytes) ≡ false = le-ltb _ _ low in
    let client = client_again (length bytes) c.1
    (subst (λ (body : Document). IsWithinLimits (length bytes) body) (sym same) m.limits) in
    rw (
      header,
      is_len,
      is_small,
      most,
      is_form legacy,
      contents,
      client,
      to_z-of_z w32 f.request_id m.request_id,
      to_z-of_z w32 f.response_to m.response_to,
    ) refl

-- a message's length is that of its parts
length_inside : (a b c d inside : List ℕ)
    → length inside ≤ length (a ++ (b ++ (c ++ (d ++ inside))))
length_inside a b c d inside = omega (
  arith,
  length-append a (b ++ (c ++ (d ++ inside))),
  length-append b (c ++ (d ++ inside)),
  length-append c (d ++ inside),
  length-append d inside,
)

current_again : (bytes : List ℕ) (f : Frame) → IsCurrent bytes f → frame_of bytes ≡ Ok f
current_again bytes f m =
    let rest = m.inside ++ m.checksum in
    let request_id = word (cast_unsigned w32 f.request_id) in
    let response_to = word (cast_unsigned w32 f.response_to) in
    let whole : bytes ≡ word (length bytes) ++ (request_id
    ++ (response_to ++ (word 2013 ++ (word m.flags ++ rest)))) = m.spelled
    ∙ append_assoc (front (length bytes) f.request_id f.response_to m.flags) m.inside m.checksum
    ∙ front_header (length bytes) f.request_id f.response_to m.flags rest in
    let inner : length m.inside ≤ 400000000 = omega (
      arith,
      ap length whole,
      length_inside (word (length bytes)) request_id response_to (word 2013) (word m.flags ++ rest),
      length-append (word m.flags) rest,
      length-append m.inside m.checksum,
      m.limits.most,
    ) in
    let contents : contents_at (word m.flags ++ rest) ≡ Ok (f.more, f.body, f.seqs) =
    contents_again m.flags f.more m.parts m.inside m.checksum f.body f.seqs m.are_flags m.reads
    m.body m.seqs inner in
    framed_again bytes f false (word m.flags ++ rest) (f.more, f.body, f.seqs) (record {
      spelled = whole;
      request_id = m.request_id;
      response_to = m.response_to;
      limits = m.limits;
    }) contents refl
    ∙ ap (λ (g : Frame). Ok g) (frame_is f false f.more f.seqs m.modern refl refl)

older_again : (bytes : List ℕ) (f : Frame) → IsOlder bytes f → frame_of bytes ≡ Ok f
older_again bytes f m =
    let rest = m.first ++ m.second in
    let inside = query_front m.query ++ rest in
    let request_id = word (cast_unsigned w32 f.request_id) in
    let response_to = word (cast_unsigned w32 f.response_to) in
    let whole : bytes ≡ word (length bytes) ++ (request_id
    ++ (response_to ++ (word 2004 ++ inside))) = m.spelled ∙ query_begins (length bytes)
    f.request_id f.response_to (query_front m.query) m.first m.second in
    let inner : length inside ≤ length bytes = omega (
      arith,
      ap length whole,
      length_inside (word (length bytes)) request_id response_to (word 2004) inside,
    ) in
    let parts = length-append (query_front m.query) rest in
    let documents = length-append m.first m.second in
    let query : query_at inside ≡ Ok f.body = query_again m.query f.body m.selector m.first m.second
    m.is_query m.body m.fields (omega (arith, m.limits.most)) (omega (arith, m.limits.most)) in
    let contents : contents_in true inside ≡ Ok (false, f.body, []) = rw query refl in
    framed_again bytes f true inside (false, f.body, []) (record {
      spelled = whole;
      request_id = m.request_id;
      response_to = m.response_to;
      limits = m.limits;
    }) contents refl
    ∙ ap (λ (g : Frame). Ok g) (frame_is f true false [] m.older m.no_more m.no_sequences)

pub frame_again : (bytes : List ℕ) (f : Frame) → IsMessage bytes f → frame_of bytes ≡ Ok f
frame_again bytes f (inl m) = current_again bytes f m
frame_again bytes f (inr m) = older_again bytes f m

pub is_found : (bytes : List ℕ) (r : Result Frame FrameErr) → ((i : ℕ) → get_or bytes i 0 < 256)
    → Gives (λ (f : Frame). f) r (frame_of bytes) → IfOk r (λ f. IsMessage bytes f)
is_found bytes (Ok f) fits given = frame_found bytes f fits given
is_found bytes (Err e) fits given = tt

pub one_message : (f g : Frame) (bytes : List ℕ) → IsMessage bytes f → IsMessage bytes g → f ≡ g
one_message f g bytes first second =
    ok_is f g (sym (frame_again bytes f first) ∙ frame_again bytes g second)
