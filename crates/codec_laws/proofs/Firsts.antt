-- The first fault is told.
use Rattle.std.proofs.Common.{◌≡◌, ◌≢◌, ◌⊎◌, inl, inr, ℕ, zero, suc, ◌-◌, ◌+◌, ◌^◌, ◌≤◌, ◌<◌, min}
use Rattle.std.proofs.Common.{Bool, true, false, cond, eqb, ltb, List, [], ◌∷◌, ◌++◌, length}
use Rattle.std.proofs.Common.{get_or, take, drop, Option, Some, None, is_some, Ok, Err, refl, sym}
use Rattle.std.proofs.Common.{ap, subst, ◌∙◌, append_assoc, arith}
use Rattle.std.specs.Int.{Width, w32, w64, byte_len, to_le_bytes}
use Rattle.std.specs.Str.{is_utf8}
use Rattle.std.specs.List.{position_or_len}
use Rattle.std.proofs.lemmas.Bool.{le-ltb, lt-ltb, ne_eqb, eq-eqb, eqb-true}
use Rattle.std.proofs.lemmas.List.{length-append, take_at, drop_at, get_or_append_left}
use Rattle.std.proofs.lemmas.List.{get_or-append_right}
use Rattle.std.proofs.lemmas.List.Sums.{position_or_len_is}
use Rattle.bson_core.specs.declared.error.BsonErr.{BsonErr}
use Rattle.bson_core.specs.declared.error.BsonErr.TheVariants as fault
use Rattle.bson_core.specs.declared.kind.Kind.{Kind}
use Rattle.bson_core.specs.declared.kind.Kind.TheVariants as kinds
use Rattle.bson_core.specs.declared.kind.Leaf.TheVariants as leaf
use Rattle.bson_core.specs.declared.value.Value.{Value}
use Rattle.bson_core.specs.Fields.{Document}
use Rattle.bson_core.specs.Grammar.{ReadsAt, ReadsElements}
use Rattle.bson_core.specs.Kinds.{kind_of}
use Rattle.bson_core.specs.Names.{has_no_zero, IsName}
use Rattle.bson_core.specs.Written.{most}
use Rattle.bson_core.specs.Reading.{Field, place, or_fault, number_at, count_at, fixed_at, name_at}
use Rattle.bson_core.specs.Reading.{text_at, binary_at, object_id_at, flag_at, leaf_at, Reader}
use Rattle.bson_core.specs.Reading.{Nested, value_by, element_at, elements_at, body_at, document_at}
use Rattle.bson_core.specs.Reading.{nested_at, document_of}
use Rattle.bson_core.proofs.Names.{not_zero_at}
use Rattle.bson_core.proofs.TypeBytes.{not_the_end}
use Rattle.bson_core.proofs.Again.{number32_again, name_again, none_again, ReadsAgain, value_again}
use Rattle.codec_laws.specs.First.{headed, IsNoKind, IsEarlyEnd, IsNoName, HasWidth, oid, truth}
use Rattle.codec_laws.specs.First.{moment, int, stamp, long, IsWrongCount, text_none, text_past}
use Rattle.codec_laws.specs.First.{binary_past, IsCounted, IsNoValue, HasNoValue, IsAtHead, Nests}
use Rattle.codec_laws.specs.First.{HoldsNest, IsTooDeep, HasWrongCount, Holds, Behind, IsWrongEnd}
use Rattle.codec_laws.specs.First.{IsFirst}

-- An element in front.

regroup : (byte : ℕ) (name value rest tail e : List ℕ) → e ≡ (byte ∷ name ++ 0 ∷ value) ++ rest
    → e ++ tail ≡ headed byte name (value ++ (rest ++ tail))
regroup byte name value rest tail e p = ap (λ (t : List ℕ). t ++ tail) p ∙ simp append_assoc

one_front : (levels : ℕ) (read : Reader) → ReadsAgain levels read
    → (start end byte : ℕ) (name b tail : List ℕ) (value : Value) (bytes : List ℕ)
    → ReadsAt levels value byte b → IsName name → bytes ≡ headed byte name (b ++ tail)
    → element_at read start end bytes ≡ Ok (Some ((name, value), tail))
unfolding element_at
one_front levels read again start end byte name b tail value bytes reads is same =
    let found = again value byte b reads in
    rw (
      same,
      not_the_end byte found.0 found.1,
      found.1,
      name_again end name (b ++ tail) is,
      found.2 end tail,
    ) refl

-- a fault after well-formed elements is that of the elements
front_then : (levels : ℕ) (read : Reader) → ReadsAgain levels read
    → (start end : ℕ) (fields : Document) (e tail : List ℕ) (n : ℕ) (d : BsonErr)
    → length fields < n → ReadsElements (ReadsAt levels) fields e
    → element_at read start end tail ≡ Err d → elements_at read start end n (e ++ tail) ≡ Err d
unfolding elements_at
front_then levels read again start end fields e tail zero d lt h failed = absurd (omega arith)
front_then levels read again start end [] e tail (suc n) d lt h failed = rw (h, failed) refl
front_then levels read again start end (field ∷ fields) e tail (suc n) d lt h failed =
    rw (
      one_front levels read again start end h.0 field.0 h.1 (h.2 ++ tail) field.1 (e ++ tail) h.3
          h.4 (regroup h.0 field.0 h.1 h.2 tail e h.5),
      front_then levels read again start end fields h.2 tail n d (omega arith) h.6 failed,
    ) refl

elements_long : (levels : ℕ) (fields : Document) (e : List ℕ)
    → ReadsElements (ReadsAt levels) fields e → length fields ≤ length e
elements_long levels [] e h = omega arith
elements_long levels (field ∷ fields) e h =
    let more = elements_long levels fields h.2 h.6 in
    omega (
      arith,
      more,
      ap length h.5,
      length-append (h.0 ∷ field.0 ++ 0 ∷ h.1) h.2,
      length-append (h.0 ∷ field.0) (0 ∷ h.1),
    )

body_fails : (levels : ℕ) (read : Reader) → ReadsAgain levels read
    → (start end last : ℕ) (fields : Document) (front tail : List ℕ) (d : BsonErr)
    → ReadsElements (ReadsAt levels) fields front
    → element_at read start end tail ≡ Err d → body_at read start end (front ++ tail) last ≡ Err d
unfolding body_at
body_fails levels read again start end last fields front tail d reads failed =
    rw (front_then levels read again start end fields front tail (length (front ++ tail) + 1) d
    (omega (arith, elements_long levels fields front reads, length-append front tail)) reads
    failed) refl

-- A fault of the element itself.

is_there : (o : Option Kind) → is_some o ≡ true → (k : Kind) × (o ≡ Some k)
is_there None h = absurd cc
is_there (Some k) h = (k, refl)

known : (byte : ℕ) → is_some (kind_of byte) ≡ true → (k : Kind) × (kind_of byte ≡ Some k)
known byte h = is_there (kind_of byte) h

element_fails : (read : Reader) (start end byte : ℕ) (bytes : List ℕ) (k : Kind) (d : BsonErr)
    → kind_of byte ≡ Some k → name_at end bytes ≡ Err d
    → element_at read start end (byte ∷ bytes) ≡ Err d
unfolding element_at
element_fails read start end byte bytes k d is failed = rw (not_the_end byte k is, is, failed) refl

value_fails : (read : Reader) (start end byte : ℕ) (name value : List ℕ) (k : Kind) (d : BsonErr)
    → kind_of byte ≡ Some k → IsName name → read k end value ≡ Err d
    → element_at read start end (headed byte name value) ≡ Err d
unfolding element_at
value_fails read start end byte name value k d is named failed =
    rw (not_the_end byte k is, is, name_again end name value named, failed) refl

no_end : (end : ℕ) (bytes : List ℕ) → has_no_zero bytes ≡ true → name_at end bytes ≡ Err fault.Short
unfolding name_at
no_end end bytes none =
    let whole : position_or_len (λ b. eqb b 0) bytes ≡ length bytes =
    position_or_len_is (λ b. eqb b 0) bytes (length bytes) 0 (omega arith)
    (λ k lt. ne_eqb (get_or bytes k 0) 0 (not_zero_at bytes k none lt)) (λ lt.
    absurd (omega arith)) in
    rw (whole, le-ltb (length bytes) (length bytes) (omega arith)) refl

nothing_left : (n : ℕ) → n - n ≡ 0
nothing_left n = omega arith

bad_text : (end : ℕ) (name rest : List ℕ) → has_no_zero name ≡ true → is_utf8 name ≡ false
    → name_at end (name ++ 0 ∷ rest) ≡ Err (fault.Text (place end (name ++ 0 ∷ rest)))
unfolding name_at
bad_text end name rest none wrong =
    let whole = name ++ 0 ∷ rest in
    let n-is : position_or_len (λ b. eqb b 0) whole ≡ length name = position_or_len_is (λ b.
    eqb b 0) whole (length name) 0 (omega (arith, length-append name (0 ∷ rest)))
    (λ k lt. rw (get_or_append_left name (0 ∷ rest) 0 k lt)
    (ne_eqb (get_or name k 0) 0 (not_zero_at name k none lt)))
    (λ lt. rw (
      get_or-append_right name (0 ∷ rest) (length name) (length name) 0 refl (omega arith),
      nothing_left (length name),
    ) refl) in
    let room : ltb (length name) (length whole) ≡ true =
    lt-ltb _ _ (omega (arith, length-append name (0 ∷ rest))) in
    rw (n-is, room, take_at name (0 ∷ rest) (length name) refl, wrong) refl

length_headed : (kind : ℕ) (name value : List ℕ)
    → length (headed kind name value) ≡ length name + 2 + length value
length_headed kind name value = omega (arith, length-append (kind ∷ name) (0 ∷ value))

-- the place of a value, and that it is there
value_at_place : (end place_is k : ℕ) (name value tail : List ℕ)
    → place_is ≡ place end tail → length tail ≤ end → tail ≡ headed k name value
    → (place_is + 2 + length name ≡ place end value) × (length value ≤ end)
value_at_place end at k name value tail is le tail_is =
    let len : length tail ≡ length name + 2 + length value = ap length tail_is
    ∙ length_headed k name value in
    (omega (arith, len, is, le), omega (arith, len, le))

-- A value that is none.

-- a value of that kind isn't read there
abbrev Fails : Nested → ℕ → ℕ → List ℕ → BsonErr → Type 0
Fails nested kind end bytes e = (k : Kind) × (kind_of kind ≡ Some k)
    × (value_by nested k end bytes ≡ Err e)

cut_number : (w : Width) (bytes : List ℕ) → length bytes < byte_len w → number_at w bytes ≡ None
unfolding number_at
cut_number w bytes short = rw (lt-ltb (length bytes) (byte_len w) short) refl

cut_value : (nested : Nested) (kind width end : ℕ) (bytes : List ℕ) → HasWidth kind width
    → length bytes < width → Fails nested kind end bytes fault.Short
unfolding value_by leaf_at object_id_at flag_at
cut_value nested kind width end bytes oid short =
    (kinds.Leaf leaf.Oid, refl, rw (lt-ltb (length bytes) 12 short) refl)
cut_value nested kind width end [] truth short = (kinds.Leaf leaf.Bool, refl, refl)
cut_value nested kind width end (b ∷ bytes) truth short = absurd (omega arith)
cut_value nested kind width end bytes moment short =
    (kinds.Leaf leaf.Date, refl, rw (cut_number w64 bytes short) refl)
cut_value nested kind width end bytes int short =
    (kinds.Leaf leaf.Int, refl, rw (cut_number w32 bytes short) refl)
cut_value nested kind width end bytes stamp short =
    (kinds.Leaf leaf.Stamp, refl, rw (cut_number w64 bytes short) refl)
cut_value nested kind width end bytes long short =
    (kinds.Leaf leaf.Long, refl, rw (cut_number w64 bytes short) refl)

cut_count : (end : ℕ) (bytes : List ℕ) → length bytes < 4
    → count_at end bytes ≡ Err (fault.Length (place end bytes))
unfolding count_at
cut_count end bytes short = rw (cut_number w32 bytes short) refl

is_count : (end n : ℕ) (rest : List ℕ) → n < 2 ^ 32
    → count_at end (to_le_bytes w32 n ++ rest) ≡ Ok (n, rest)
unfolding count_at
is_count end n rest lt = rw (number32_again n rest lt) refl

counted_cut : (nested : Nested) (kind end : ℕ) (bytes : List ℕ) → IsCounted kind → length bytes < 4
    → Fails nested kind end bytes (fault.Length (place end bytes))
unfolding value_by leaf_at text_at binary_at
counted_cut nested kind end bytes (inl is) short =
    (kinds.Leaf leaf.Text, ap kind_of is, rw (cut_count end bytes short) refl)
counted_cut nested kind end bytes (inr is) short =
    (kinds.Leaf leaf.Bin, ap kind_of is, rw (cut_count end bytes short) refl)

wrong_count : (nested : Nested) (kind end n : ℕ) (rest : List ℕ)
    → IsWrongCount kind n (length rest) → n < 2 ^ 32 → Fails nested kind end (to_le_bytes w32 n
    ++ rest) (fault.Length (place end (to_le_bytes w32 n ++ rest)))
unfolding value_by leaf_at text_at binary_at
wrong_count nested kind end n rest text_none lt =
    (kinds.Leaf leaf.Text, refl, rw (is_count end 0 rest lt) refl)
wrong_count nested kind end n rest (text_past past) lt = (
  kinds.Leaf leaf.Text,
  refl,
  rw (is_count end n rest lt, ne_eqb n 0 (λ is. omega arith), lt-ltb (length rest) n past) refl,
)
wrong_count nested kind end n rest (binary_past past) lt =
    (kinds.Leaf leaf.Bin, refl, rw (is_count end n rest lt, lt-ltb (length rest) (n + 1) past) refl)

text_case : (p : ℕ) (t others : List ℕ) (last zero_there : Bool)
    → ((last ≡ true → ⊥) ⊎ (zero_there ≡ false))
    → ◌≡◌ {A = Field (List ℕ)} (cond last (cond zero_there (Ok (t, others)) (Err (fault.Text p)))
    (Err (fault.Text p))) (Err (fault.Text p))
text_case p t others true true (inl h) = absurd (h refl)
text_case p t others true true (inr h) = absurd cc
text_case p t others true false h = refl
text_case p t others false zero_there h = refl

last_not : (last : ℕ) → last ≢ 0 → eqb last 0 ≡ true → ⊥
last_not last h is = h (eqb-true last 0 is)

wrong_text : (end : ℕ) (t : List ℕ) (last : ℕ) (rest : List ℕ) → length t + 1 < 2 ^ 32
    → ((last ≢ 0) ⊎ (is_utf8 t ≡ false)) → text_at end (to_le_bytes w32 (length t + 1) ++ t ++ last
    ∷ rest) ≡ Err (fault.Text (place end (t ++ last ∷ rest)))
unfolding text_at
wrong_text end t last rest lt wrong =
    let count = length t + 1 in
    let after = t ++ last ∷ rest in
    let room : ltb (length after) count ≡ false =
    le-ltb _ _ (omega (arith, length-append t (last ∷ rest))) in
    let less : count - 1 ≡ length t = omega arith in
    let front : take (count - 1) after ≡ t = rw less (take_at t (last ∷ rest) (length t) refl) in
    let last_is : get_or after (count - 1) 0 ≡ last = rw (
      less,
      get_or-append_right t (last ∷ rest) (length t) (length t) 0 refl (omega arith),
      nothing_left (length t),
    ) refl in
    let either : (eqb last 0 ≡ true → ⊥) ⊎ (is_utf8 t ≡ false) =
    elim wrong [ inl h ↦ inl (last_not last h) | inr h ↦ inr h ] in
    rw (is_count end count after lt, ne_eqb count 0 (λ is. omega arith), room, last_is, front)
    (text_case (place end after) t (drop count after) (eqb last 0) (is_utf8 t) either)

bad_flag : (end byte : ℕ) (rest : List ℕ) → 1 < byte
    → flag_at end (byte ∷ rest) ≡ Err (fault.Bool (place end (byte ∷ rest)))
unfolding flag_at
bad_flag end byte rest above = rw
    (ne_eqb byte 0 (λ is. omega (arith, is, above)), ne_eqb byte 1 (λ is. omega (arith, is, above)))
    refl

text_fails : (nested : Nested) (kind end : ℕ) (bytes : List ℕ) (e : BsonErr) → kind ≡ 2
    → text_at end bytes ≡ Err e → Fails nested kind end bytes e
unfolding value_by leaf_at
text_fails nested kind end bytes e is failed = (kinds.Leaf leaf.Text, ap kind_of is, rw failed refl)

flag_fails : (nested : Nested) (kind end : ℕ) (bytes : List ℕ) (e : BsonErr) → kind ≡ 8
    → flag_at end bytes ≡ Err e → Fails nested kind end bytes e
unfolding value_by leaf_at
flag_fails nested kind end bytes e is failed = (kinds.Leaf leaf.Bool, ap kind_of is, rw failed refl)

same_fault : (nested : Nested) (kind end : ℕ) (bytes : List ℕ) (d e : BsonErr) → d ≡ e
    → Fails nested kind end bytes d → Fails nested kind end bytes e
same_fault nested kind end bytes d e is h =
    subst (λ (x : BsonErr). Fails nested kind end bytes x) is h

no_value : (nested : Nested) (kind end at : ℕ) (bytes : List ℕ) (e : BsonErr) → at ≡ place end bytes
    → length bytes ≤ end → IsNoValue kind at bytes e → Fails nested kind end bytes e
no_value nested kind end at bytes fault.Short is le h = cut_value nested kind h.0 end bytes h.1 h.2
no_value nested kind end at bytes (fault.Length there) is le h = elim (h.1) [
  | inl cut ↦ same_fault nested kind end bytes (fault.Length (place end bytes))
      (fault.Length there) (ap (λ (k : ℕ). fault.Length k) (sym (h.0 ∙ is)))
      (counted_cut nested kind end bytes cut.0 cut.1)
  | inr wrong ↦
      same_fault nested kind end bytes (fault.Length (place end bytes)) (fault.Length there)
      (ap (λ (k : ℕ). fault.Length k) (sym (h.0 ∙ is)))
      (subst (λ (b : List ℕ). Fails nested kind end b (fault.Length (place end b))) (sym wrong.2)
      (wrong_count nested kind end wrong.0 wrong.1 wrong.4 wrong.3))
]
no_value nested kind end at bytes (fault.Text there) is le h =
    let t = h.2.0 in
    let after = t ++ h.2.1 ∷ h.2.2 in
    let len : length bytes ≡ 4 + length after = ap length h.2.3
    ∙ length-append (to_le_bytes w32 (length t + 1)) after in
    let at_is : place end after ≡ there = omega (arith, len, h.1, is, le) in
    subst (λ (b : List ℕ). Fails nested kind end b (fault.Text there)) (sym h.2.3)
    (text_fails nested kind end (to_le_bytes w32 (length t + 1) ++ after) (fault.Text there) h.0
    (wrong_text end t h.2.1 h.2.2 h.2.4 h.2.5 ∙ ap (λ (k : ℕ). Err (fault.Text k)) at_is))
no_value nested kind end at bytes (fault.Bool there) is le h =
    let at_is : place end (h.2.0 ∷ h.2.1) ≡ there = sym (ap (place end) h.2.2) ∙ sym (h.1 ∙ is) in
    subst (λ (b : List ℕ). Fails nested kind end b (fault.Bool there)) (sym h.2.2)
    (flag_fails nested kind end (h.2.0 ∷ h.2.1) (fault.Bool there) h.0
    (bad_flag end h.2.0 h.2.1 h.2.3 ∙ ap (λ (k : ℕ). Err (fault.Bool k)) at_is))
no_value nested kind end at bytes other is le h = absurd h

-- The element at the head.

no_kind : (read : Reader) (start end at : ℕ) (bytes : List ℕ) (e : BsonErr) → at ≡ place end bytes
    → IsNoKind at bytes e → element_at read start end bytes ≡ Err e
unfolding element_at
no_kind read start end at bytes (fault.Kind there byte) is h = rw (h.1, ne_eqb byte 0 h.3, h.2)
    (ap (λ (k : ℕ). Err (fault.Kind k byte)) (sym (h.4 ∙ is ∙ ap (place end) h.1)))
no_kind read start end at bytes other is h = absurd h

early_end : (read : Reader) (start end : ℕ) (bytes : List ℕ) (e : BsonErr)
    → IsEarlyEnd start bytes e → element_at read start end bytes ≡ Err e
unfolding element_at
early_end read start end bytes (fault.Length there) h =
    rw (h.1) (ap (λ (k : ℕ). Err (fault.Length k)) (sym h.2))
early_end read start end bytes other h = absurd h

no_name : (read : Reader) (start end at : ℕ) (bytes : List ℕ) (e : BsonErr) → at ≡ place end bytes
    → length bytes ≤ end → IsNoName at bytes e → element_at read start end bytes ≡ Err e
no_name read start end at bytes fault.Short is le h =
    let k = known h.0 h.3 in
    subst (λ (b : List ℕ). element_at read start end b ≡ Err fault.Short) (sym h.2)
    (element_fails read start end h.0 h.1 k.0 fault.Short k.1 (no_end end h.1 h.4))
no_name read start end at bytes (fault.Text there) is le h =
    let k = known h.0 h.4 in
    let len : length bytes ≡ length h.1 + 2 + length h.2 = ap length h.3
    ∙ length_headed h.0 h.1 h.2 in
    let at_is : place end (h.1 ++ 0 ∷ h.2) ≡ there =
    omega (arith, h.7, is, len, le, length-append h.1 (0 ∷ h.2)) in
    subst (λ (b : List ℕ). element_at read start end b ≡ Err (fault.Text there)) (sym h.3)
    (element_fails read start end h.0 (h.1 ++ 0 ∷ h.2) k.0 (fault.Text there) k.1
    (bad_text end h.1 h.2 h.5 h.6 ∙ ap (λ (p : ℕ). Err (fault.Text p)) at_is))
no_name read start end at bytes other is le h = absurd h

has_no_value : (nested : Nested) (start end at : ℕ) (bytes : List ℕ) (e : BsonErr)
    → at ≡ place end bytes → length bytes ≤ end → HasNoValue at bytes e
    → element_at (value_by nested) start end bytes ≡ Err e
has_no_value nested start end at bytes e is le h =
    let there = value_at_place end at h.0 h.1 h.2 bytes is le h.3 in
    let failed = no_value nested h.0 end (at + 2 + length h.1) h.2 e there.0 there.1 h.5 in
    subst (λ (b : List ℕ). element_at (value_by nested) start end b ≡ Err e) (sym h.3)
    (value_fails (value_by nested) start end h.0 h.1 h.2 failed.0 e failed.1 h.4 failed.2)

head_fails : (nested : Nested) (start end at : ℕ) (bytes : List ℕ) (e : BsonErr)
    → at ≡ place end bytes → length bytes ≤ end → IsAtHead start at bytes e
    → element_at (value_by nested) start end bytes ≡ Err e
head_fails nested start end at bytes e is le (inl (inl h)) =
    no_kind (value_by nested) start end at bytes e is h
head_fails nested start end at bytes e is le (inl (inr h)) =
    early_end (value_by nested) start end bytes e h
head_fails nested start end at bytes e is le (inr (inl h)) =
    no_name (value_by nested) start end at bytes e is le h
head_fails nested start end at bytes e is le (inr (inr h)) =
    has_no_value nested start end at bytes e is le h

-- A document or a list in it.

nest_fails : (nested : Nested) (start end kind : ℕ) (name value : List ℕ) (d : BsonErr)
    → Nests kind → IsName name → nested end value ≡ Err d
    → element_at (value_by nested) start end (headed kind name value) ≡ Err d
unfolding value_by
nest_fails nested start end k name value d (inl is) named failed =
    subst (λ (n : ℕ). element_at (value_by nested) start end (headed n name value) ≡ Err d)
    (sym is) (value_fails (value_by nested) start end 3 name value kinds.Doc d refl named
    (rw failed refl))
nest_fails nested start end k name value d (inr is) named failed =
    subst (λ (n : ℕ). element_at (value_by nested) start end (headed n name value) ≡ Err d)
    (sym is) (value_fails (value_by nested) start end 4 name value kinds.List d refl named
    (rw failed refl))

nest_then : (nested : Nested) (There : ℕ → List ℕ
    → Type 0) (start end at : ℕ) (tail : List ℕ) (e : BsonErr) → ((p : ℕ) (value : List ℕ)
    → p ≡ place end value → length value ≤ end → There p value → nested end value ≡ Err e)
    → at ≡ place end tail → length tail ≤ end → HoldsNest There at tail
    → element_at (value_by nested) start end tail ≡ Err e
nest_then nested There start end at tail e fails is le h =
    let there = value_at_place end at h.0 h.1 h.2 tail is le h.5 in
    subst (λ (b : List ℕ). element_at (value_by nested) start end b ≡ Err e)
    (sym h.5) (nest_fails nested start end h.0 h.1 h.2 e h.3 h.4
    (fails (at + 2 + length h.1) h.2 there.0 there.1 h.6))

too_deep : (end p : ℕ) (value : List ℕ) (e : BsonErr) → p ≡ place end value → IsTooDeep e p value
    → nested_at 0 end value ≡ Err e
unfolding nested_at
too_deep end p value e is h =
    ap (λ (d : BsonErr). Err d) (sym (h ∙ ap (λ (k : ℕ). fault.Deep k) is))

wrong_size : (read : Reader) (end n : ℕ) (rest bytes : List ℕ)
    → count_at end bytes ≡ Ok (n, rest) → ((n < 5) ⊎ (length rest < n - 4))
    → document_at read end bytes ≡ Err (fault.Length (place end bytes))
unfolding document_at
wrong_size read end n rest bytes is (inl small) = rw (is, lt-ltb n 5 small) refl
wrong_size read end n rest bytes is (inr past) =
    rw (is, le-ltb n 5 (omega arith), lt-ltb (length rest) (n - 4) past) refl

no_size : (read : Reader) (end : ℕ) (bytes : List ℕ) → length bytes < 4
    → document_at read end bytes ≡ Err (fault.Length (place end bytes))
unfolding document_at
no_size read end bytes short = rw (cut_count end bytes short) refl

has_wrong_count : (levels end p : ℕ) (value : List ℕ) (e : BsonErr) → p ≡ place end value
    → HasWrongCount e p value → nested_at (suc levels) end value ≡ Err e
unfolding nested_at
has_wrong_count levels end p value e is h =
    let e_is : fault.Length (place end value) ≡ e = sym (h.0 ∙ ap (λ (k : ℕ). fault.Length k) is) in
    subst (λ (d : BsonErr). document_at (value_by (nested_at levels)) end value ≡ Err d) e_is
    (elim (h.1) [
      | inl short ↦ no_size (value_by (nested_at levels)) end value short
      | inr wrong ↦
          subst (λ (b : List ℕ). document_at (value_by (nested_at levels)) end b
          ≡ Err (fault.Length (place end b))) (sym wrong.2)
          (wrong_size (value_by (nested_at levels)) end wrong.0 wrong.1
          (to_le_bytes w32 wrong.0 ++ wrong.1) (is_count end wrong.0 wrong.1 wrong.3) wrong.4)
    ])

-- a document by its elements and what is after them
abbrev framed_by : List ℕ → ℕ → List ℕ → List ℕ
framed_by elements last rest = to_le_bytes w32 (length elements + 5) ++ elements ++ last ∷ rest

length_framed_by : (elements : List ℕ) (last : ℕ) (rest : List ℕ)
    → length (framed_by elements last rest) ≡ length elements + 5 + length rest
length_framed_by elements last rest = omega (
  arith,
  length-append (to_le_bytes w32 (length elements + 5)) (elements ++ last ∷ rest),
  length-append elements (last ∷ rest),
)

document_body : (read : Reader) (end : ℕ) (elements : List ℕ) (last : ℕ)
    (rest : List ℕ) (d : BsonErr) → length elements + 5 < 2 ^ 32
    → body_at read (place end (framed_by elements last rest)) (place end rest - 1) elements last
    ≡ Err d → document_at read end (framed_by elements last rest) ≡ Err d
unfolding document_at
document_body read end elements last rest d lt failed =
    let count = length elements + 5 in
    let after = elements ++ last ∷ rest in
    let five : ltb count 5 ≡ false = le-ltb _ _ (omega arith) in
    let room : ltb (length after) (count - 4) ≡ false =
    le-ltb _ _ (omega (arith, length-append elements (last ∷ rest))) in
    let less : count - 5 ≡ length elements = omega arith in
    let inside : take (count - 5) after ≡ elements =
    rw less (take_at elements (last ∷ rest) (length elements) refl) in
    let last_is : get_or after (count - 5) 0 ≡ last = rw (
      less,
      get_or-append_right elements (last ∷ rest) (length elements) (length elements) 0 refl
          (omega arith),
      nothing_left (length elements),
    ) refl in
    let one : after ≡ (elements ++ last ∷ []) ++ rest =
    sym (append_assoc elements (last ∷ []) rest) in
    let back : drop (count - 4) after ≡ rest = ap (drop (count - 4)) one ∙ drop_at (elements ++ last
    ∷ []) rest (count - 4) (omega (arith, length-append elements (last ∷ []))) in
    rw (is_count end count after lt, five, room, inside, last_is, back, failed) refl

-- elements that are well formed to the end
all_read : (levels : ℕ) (read : Reader) → ReadsAgain levels read
    → (start end : ℕ) (fields : Document) (e : List ℕ) (n : ℕ) → length fields < n
    → ReadsElements (ReadsAt levels) fields e → elements_at read start end n e ≡ Ok fields
unfolding elements_at
all_read levels read again start end fields e zero lt h = absurd (omega arith)
all_read levels read again start end [] e (suc n) lt h = rw (h, none_again read start end) refl
all_read levels read again start end (field ∷ fields) e (suc n) lt h =
    let head : e ≡ headed h.0 field.0 (h.1 ++ h.2) = h.5 ∙ simp append_assoc in
    rw (
      one_front levels read again start end h.0 field.0 h.1 h.2 field.1 e h.3 h.4 head,
      all_read levels read again start end fields h.2 n (omega arith) h.6,
    ) refl

wrong_end : (levels : ℕ) (read : Reader) → ReadsAgain levels read
    → (start end last : ℕ) (elements : List ℕ) (e : BsonErr)
    → IsWrongEnd levels e start elements last → body_at read start end elements last ≡ Err e
unfolding body_at
wrong_end levels read again start end last elements e h =
    let all = all_read levels read again start end h.1.0 elements (length elements + 1)
    (omega (arith, elements_long levels h.1.0 elements h.1.1)) h.1.1 in
    rw (all, ne_eqb last 0 h.2) (ap (λ (d : BsonErr). Err d) (sym h.0))

-- The whole.

-- the place of what is left, seen from the document and from its holder
left_at : (end before : ℕ) (front tail elements : List ℕ) (last : ℕ) (rest : List ℕ)
    → elements ≡ front ++ tail → length (framed_by elements last rest) ≤ end
    → before ≡ place end rest - 1
    → (place end (framed_by elements last rest) + 4 + length front ≡ place before tail)
    × (length tail ≤ before)
left_at end before front tail elements last rest is le before_is =
    let len = length_framed_by elements last rest in
    let both : length elements ≡ length front + length tail = ap length is
    ∙ length-append front tail in
    (omega (arith, len, both, before_is, le), omega (arith, len, both, before_is, le))

-- a document that has it tells it
abbrev Tells : ℕ → BsonErr → Type 0
Tells levels e = (end : ℕ) (elements : List ℕ) (last : ℕ) (rest : List ℕ)
    → length (framed_by elements last rest) ≤ end → length elements + 5 < 2 ^ 32
    → IsFirst levels e (place end (framed_by elements last rest)) elements last
    → document_at (value_by (nested_at levels)) end (framed_by elements last rest) ≡ Err e

-- after well-formed elements
behind_tells : (levels : ℕ) (e : BsonErr) (There : ℕ → List ℕ
    → Type 0) (end : ℕ) (elements : List ℕ) (last : ℕ) (rest : List ℕ)
    → length (framed_by elements last rest) ≤ end → length elements + 5 < 2 ^ 32
    → ((before at : ℕ) (tail : List ℕ) → at ≡ place before tail → length tail ≤ before
    → There at tail → element_at (value_by (nested_at levels))
    (place end (framed_by elements last rest)) before tail ≡ Err e)
    → Behind levels There (place end (framed_by elements last rest)) elements
    → document_at (value_by (nested_at levels)) end (framed_by elements last rest) ≡ Err e
behind_tells levels e There end elements last rest le lt fails h =
    let start = place end (framed_by elements last rest) in
    let before = place end rest - 1 in
    let at_is = left_at end before h.1 h.2 elements last rest h.4 le refl in
    let failed = fails before (start + 4 + length h.1) h.2 at_is.0 at_is.1 h.5 in
    document_body (value_by (nested_at levels)) end elements last rest e lt
    (subst (λ (b : List ℕ). body_at (value_by (nested_at levels)) start before b last ≡ Err e)
    (sym h.4) (body_fails levels (value_by (nested_at levels)) (value_again levels) start before
    last h.0 h.1 h.2 e h.3 failed))

end_tells : (levels : ℕ) (e : BsonErr) (end : ℕ) (elements : List ℕ) (last : ℕ) (rest : List ℕ)
    → length elements + 5 < 2 ^ 32
    → IsWrongEnd levels e (place end (framed_by elements last rest)) elements last
    → document_at (value_by (nested_at levels)) end (framed_by elements last rest) ≡ Err e
end_tells levels e end elements last rest lt h =
    document_body (value_by (nested_at levels)) end elements last rest e lt
    (wrong_end levels (value_by (nested_at levels)) (value_again levels)
    (place end (framed_by elements last rest)) (place end rest - 1) last elements e h)

holds_tells : (levels : ℕ) (e : BsonErr) → Tells levels e → (end p : ℕ) (value : List ℕ)
    → p ≡ place end value → length value ≤ end → Holds (IsFirst levels e) p value
    → nested_at (suc levels) end value ≡ Err e
unfolding nested_at
holds_tells levels e tells end p value is le h =
    let start : p ≡ place end (framed_by h.0 h.1 h.2) = is ∙ ap (place end) h.3 in
    subst (λ (b : List ℕ). document_at (value_by (nested_at levels)) end b ≡ Err e) (sym h.3)
    (tells end h.0 h.1 h.2 (subst (λ (b : List ℕ). length b ≤ end) h.3 le) h.4
    (subst (λ (k : ℕ). IsFirst levels e k h.0 h.1) start h.5))

-- what may stand after well-formed elements
abbrev pub Deepest : BsonErr → ℕ → ℕ → List ℕ → Type 0
Deepest e start place bytes = IsAtHead start place bytes e ⊎ HoldsNest (IsTooDeep e) place bytes

abbrev pub Higher : ℕ → BsonErr → ℕ → ℕ → List ℕ → Type 0
Higher levels e start place bytes = IsAtHead start place bytes e
    ⊎ (HoldsNest (HasWrongCount e) place bytes ⊎ HoldsNest (Holds (IsFirst levels e)) place bytes)

first_fails : (levels : ℕ) (e : BsonErr) → Tells levels e
unfolding IsFirst
first_fails zero e end elements last rest le lt (inl h) =
    behind_tells 0 e (Deepest e (place end (framed_by elements last rest))) end elements last rest
    le lt (λ before at tail is room there. elim there [
      | inl head ↦
          head_fails (nested_at 0) (place end (framed_by elements last rest)) before at tail e
          is room head
      | inr deep ↦ nest_then (nested_at 0) (IsTooDeep e) (place end (framed_by elements last rest))
          before at tail e (λ p value p_is value_le h. too_deep before p value e p_is h)
          is room deep
    ]) h
first_fails zero e end elements last rest le lt (inr h) = end_tells 0 e end elements last rest lt h
first_fails (suc levels) e end elements last rest le lt (inl h) =
    behind_tells (suc levels) e (Higher levels e (place end (framed_by elements last rest))) end
    elements last rest le lt (λ before at tail is room there. elim there [
      | inl head ↦
          head_fails (nested_at (suc levels)) (place end (framed_by elements last rest)) before
          at tail e is room head
      | inr nest ↦ elim nest [
        | inl wrong ↦ nest_then (nested_at (suc levels)) (HasWrongCount e)
            (place end (framed_by elements last rest)) before at tail e
            (λ p value p_is value_le h. has_wrong_count levels before p value e p_is h)
            is room wrong
        | inr holder ↦ nest_then (nested_at (suc levels)) (Holds (IsFirst levels e))
            (place end (framed_by elements last rest)) before at tail e (λ p value p_is value_le h.
            holds_tells levels e (first_fails levels e) before p value p_is value_le h)
            is room holder
      ]
    ]) h
first_fails (suc levels) e end elements last rest le lt (inr h) =
    end_tells (suc levels) e end elements last rest lt h

all_at : (n : ℕ) → n - n ≡ 0
all_at n = omega arith

pub first_is_told : (limit : ℕ) (elements : List ℕ) (last : ℕ) (e : BsonErr)
    → length elements + 5 ≤ min limit most → IsFirst 99 e 0 elements last
    → document_of limit (framed_by elements last []) ≡ Err e
unfolding document_of nested_at
first_is_told limit elements last e small h =
    let bytes = framed_by elements last [] in
    let len : length bytes ≡ length elements + 5 =
    omega (arith, length_framed_by elements last []) in
    let number : fixed_at w32 bytes ≡ Ok (length elements + 5, elements ++ last ∷ []) =
    ap (or_fault fault.Short) (number32_again (length elements + 5) (elements ++ last ∷ [])
    (omega (arith, small))) in
    let five : ltb (length bytes) 5 ≡ false = le-ltb _ _ (omega (arith, len)) in
    let low : ltb (min limit 2147483647) (length elements + 5) ≡ false = le-ltb _ _ small in
    let same : eqb (length elements + 5) (length bytes) ≡ true = eq-eqb _ _ (sym len) in
    let start : IsFirst 99 e (place (length bytes) bytes) elements last =
    subst (λ (k : ℕ). IsFirst 99 e k elements last) (sym (all_at (length bytes))) h in
    let told : document_at (value_by (nested_at 99)) (length bytes) bytes ≡ Err e = first_fails 99 e
    (length bytes) elements last [] (omega arith) (omega (arith, small)) start in
    rw (five, number, low, same, told) refl
