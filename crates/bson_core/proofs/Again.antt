-- What is in the grammar is read.
use Rattle.std.proofs.Common.{◌≡◌, ℕ, zero, suc, ◌-◌, ◌+◌, ◌^◌, ◌≤◌, ◌<◌, Bool, true, false, eqb}
use Rattle.std.proofs.Common.{ltb, List, [], ◌∷◌, ◌++◌, length, get_or, take, drop, Some, None}
use Rattle.std.proofs.Common.{Result, Ok, refl, sym, ap, subst, ◌∙◌, append_assoc, arith, ℤ}
use Rattle.std.specs.Prelude.{FitsSigned}
use Rattle.std.specs.Int.{Width, byte_len, w32, w64, to_le_bytes, from_le_bytes, cast_unsigned}
use Rattle.std.specs.Str.{is_utf8}
use Rattle.std.specs.List.{position_or_len}
use Rattle.std.proofs.lemmas.Bool.{le-ltb, lt-ltb, ne_eqb}
use Rattle.std.proofs.lemmas.List.{take_at, drop_at, length-append, get_or_append_left}
use Rattle.std.proofs.lemmas.List.{get_or-append_right}
use Rattle.std.proofs.lemmas.List.Sums.{position_or_len_is}
use Rattle.std.proofs.lemmas.Nat.{from_le_bytes-to_le_bytes_4, from_le_bytes-to_le_bytes_8}
use Rattle.std.proofs.lemmas.Int.{to_z-of_z}
use Rattle.std.proofs.Math.Facts.{Fits-of_z}
use Rattle.outcomes.specs.Bind.{◌>>=◌}
use Rattle.bson_core.specs.declared.error.BsonErr.{BsonErr}
use Rattle.bson_core.specs.declared.kind.Leaf.TheVariants as leaf
use Rattle.bson_core.specs.declared.kind.Kind.{Kind}
use Rattle.bson_core.specs.declared.kind.Kind.TheVariants as kind
use Rattle.bson_core.specs.declared.value.Bin.{Bin}
use Rattle.bson_core.specs.declared.value.Value.{Value}
use Rattle.bson_core.specs.declared.value.Value.TheOpen as of
use Rattle.bson_core.specs.declared.value.Value.TheViews.{roll-Value, out-Value, roll-out-Value}
use Rattle.bson_core.specs.Names.{IsName}
use Rattle.bson_core.specs.Kinds.{kind_of}
use Rattle.bson_core.specs.Fields.{Document}
use Rattle.bson_core.specs.Spelling.{text, framed, binary, bit}
use Rattle.bson_core.specs.Grammar.{ReadsAt, reads_leaf, reads_step, ReadsElements}
use Rattle.bson_core.specs.Reading.{place, number_at, count_at, fixed_at, name_at, text_at}
use Rattle.bson_core.specs.Reading.{binary_at, object_id_at, flag_at, leaf_at, Reader, Nested}
use Rattle.bson_core.specs.Reading.{value_by, element_at, elements_at, body_at, document_at}
use Rattle.bson_core.specs.Reading.{nested_at}
use Rattle.bson_core.proofs.Names.{not_zero_at}
use Rattle.bson_core.proofs.TypeBytes.{not_the_end}

-- Numbers.

number_again : (w : Width) (front rest : List ℕ) → length front ≡ byte_len w
    → number_at w (front ++ rest) ≡ Some (from_le_bytes w front, rest)
unfolding number_at
number_again w front rest len =
    let long : ltb (length (front ++ rest)) (byte_len w) ≡ false =
    le-ltb _ _ (omega (arith, length-append front rest)) in
    rw (long, take_at front rest (byte_len w) len, drop_at front rest (byte_len w) len) refl

pub number32_again : (n : ℕ) (rest : List ℕ) → n < 2 ^ 32
    → number_at w32 (to_le_bytes w32 n ++ rest) ≡ Some (n, rest)
number32_again n rest lt = number_again w32 (to_le_bytes w32 n) rest refl
    ∙ ap (λ (m : ℕ). Some (m, rest)) (from_le_bytes-to_le_bytes_4 n lt)

pub number64_again : (n : ℕ) (rest : List ℕ) → n < 2 ^ 64
    → number_at w64 (to_le_bytes w64 n ++ rest) ≡ Some (n, rest)
number64_again n rest lt = number_again w64 (to_le_bytes w64 n) rest refl
    ∙ ap (λ (m : ℕ). Some (m, rest)) (from_le_bytes-to_le_bytes_8 n lt)

count_again : (end n : ℕ) (rest : List ℕ) → n < 2 ^ 32
    → count_at end (to_le_bytes w32 n ++ rest) ≡ Ok (n, rest)
unfolding count_at
count_again end n rest lt = rw (number32_again n rest lt) refl

-- Names and texts.

not_zero : (n : ℕ) → (n ≡ 0 → ⊥) → eqb n 0 ≡ false
not_zero n h = ne_eqb _ _ h

nothing_left : (n : ℕ) → n - n ≡ 0
nothing_left n = omega arith

drop_at_next : (xs : List ℕ) (y : ℕ) (ys : List ℕ) → drop (length xs + 1) (xs ++ y ∷ ys) ≡ ys
drop_at_next xs y ys =
    ap (λ (l : List ℕ). drop (length xs + 1) l) (sym (append_assoc xs (y ∷ []) ys))
    ∙ drop_at (xs ++ y ∷ []) ys (length xs + 1) (omega (arith, length-append xs (y ∷ [])))

pub name_again : (end : ℕ) (name rest : List ℕ) → IsName name
    → name_at end (name ++ 0 ∷ rest) ≡ Ok (name, rest)
unfolding name_at
name_again end name rest h =
    let whole = name ++ 0 ∷ rest in
    let n-is : position_or_len (λ b. eqb b 0) whole ≡ length name = position_or_len_is (λ b.
    eqb b 0) whole (length name) 0 (omega (arith, length-append name (0 ∷ rest)))
    (λ k lt. rw (get_or_append_left name (0 ∷ rest) 0 k lt)
    (not_zero (get_or name k 0) (not_zero_at name k h.1 lt)))
    (λ lt. rw (
      get_or-append_right name (0 ∷ rest) (length name) (length name) 0 refl (omega arith),
      nothing_left (length name),
    ) refl) in
    let room : ltb (length name) (length whole) ≡ true =
    lt-ltb _ _ (omega (arith, length-append name (0 ∷ rest))) in
    rw (n-is, room, take_at name (0 ∷ rest) (length name) refl, h.0, drop_at_next name 0 rest) refl

text_behind : (end : ℕ) (t rest : List ℕ) (count : ℕ) (after : List ℕ) (bytes : List ℕ)
    → count_at end bytes ≡ Ok (count, after) → is_utf8 t ≡ true → count ≡ length t + 1
    → after ≡ t ++ 0 ∷ rest → text_at end bytes ≡ Ok (t, rest)
unfolding text_at
text_behind end t rest count after bytes number u p q =
    let less : count - 1 ≡ length t = omega arith in
    let room : ltb (length after) count ≡ false =
    le-ltb _ _ (omega (arith, ap length q, length-append t (0 ∷ rest))) in
    let some : eqb count 0 ≡ false = not_zero count (λ e. omega arith) in
    let last : get_or after (count - 1) 0 ≡ 0 = rw (
      q,
      less,
      get_or-append_right t (0 ∷ rest) (length t) (length t) 0 refl (omega arith),
      nothing_left (length t),
    ) refl in
    let front : take (count - 1) after ≡ t = rw (q, less) (take_at t (0 ∷ rest) (length t) refl) in
    let back : drop count after ≡ rest = rw (q, p) (drop_at_next t 0 rest) in
    rw (number, some, room, last, front, u, back) refl

text_again : (end : ℕ) (t rest : List ℕ) → is_utf8 t ≡ true → length t + 1 < 2 ^ 31
    → text_at end (text t ++ rest) ≡ Ok (t, rest)
unfolding text_at text
text_again end t rest u lt =
    let count = length t + 1 in
    let after = t ++ 0 ∷ rest in
    let number : count_at end (to_le_bytes w32 count ++ after) ≡ Ok (count, after) =
    count_again end count after (omega arith) in
    let same : text t ++ rest ≡ to_le_bytes w32 count ++ after =
    append_assoc (to_le_bytes w32 count) (t ++ 0 ∷ []) rest
    ∙ ap (λ (l : List ℕ). to_le_bytes w32 count ++ l) (append_assoc t (0 ∷ []) rest) in
    ap (text_at end) same
    ∙ text_behind end t rest count after (to_le_bytes w32 count ++ after) number u refl refl

-- Binaries, object ids and flags.

binary_behind : (end : ℕ) (b : Bin) (rest bytes : List ℕ)
    → count_at end bytes ≡ Ok (length b.bytes, b.subtype ∷ b.bytes ++ rest)
    → binary_at end bytes ≡ Ok (b, rest)
unfolding binary_at
binary_behind end b rest bytes number =
    let count = length b.bytes in
    let after = b.subtype ∷ b.bytes ++ rest in
    let room : ltb (length after) (count + 1) ≡ false =
    le-ltb _ _ (omega (arith, length-append b.bytes rest)) in
    let front : take count (drop 1 after) ≡ b.bytes = take_at b.bytes rest count refl in
    let back : drop (count + 1) after ≡ rest =
    drop_at (b.subtype ∷ b.bytes) rest (count + 1) (omega arith) in
    rw (number, room, front, back) refl

binary_again : (end : ℕ) (b : Bin) (rest : List ℕ) → length b.bytes < 2 ^ 31
    → binary_at end (binary b ++ rest) ≡ Ok (b, rest)
unfolding binary
binary_again end b rest lt =
    let count = length b.bytes in
    let after = b.subtype ∷ b.bytes ++ rest in
    let number : count_at end (to_le_bytes w32 count ++ after) ≡ Ok (count, after) =
    count_again end count after (omega arith) in
    let same : binary b ++ rest ≡ to_le_bytes w32 count ++ after =
    append_assoc (to_le_bytes w32 count) (b.subtype ∷ b.bytes) rest in
    ap (binary_at end) same ∙ binary_behind end b rest (to_le_bytes w32 count ++ after) number

object_id_again : (id rest : List ℕ) → length id ≡ 12 → object_id_at (id ++ rest) ≡ Ok (id, rest)
unfolding object_id_at
object_id_again id rest len =
    let room : ltb (length (id ++ rest)) 12 ≡ false =
    le-ltb _ _ (omega (arith, length-append id rest)) in
    rw (room, take_at id rest 12 len, drop_at id rest 12 len) refl

flag_again : (end : ℕ) (b : Bool) (rest : List ℕ) → flag_at end (bit b ∷ rest) ≡ Ok (b, rest)
unfolding flag_at
flag_again end true rest = refl
flag_again end false rest = refl

-- Values that hold no others.

bound : {A B : Type 0} (r : Result A BsonErr) (x : A) (f : A → Result B BsonErr) → r ≡ Ok x
    → (r >>= f) ≡ f x
bound r x f e = rw e refl

below32 : (n : ℤ) → FitsSigned w32 n → cast_unsigned w32 n < 2 ^ 32
below32 n h = let f = Fits-of_z {w = w32} {z = n} h in omega arith

below64 : (n : ℤ) → FitsSigned w64 n → cast_unsigned w64 n < 2 ^ 64
below64 n h = let f = Fits-of_z {w = w64} {z = n} h in omega arith

fixed32_again : (n : ℤ) (rest : List ℕ) → FitsSigned w32 n
    → fixed_at w32 (to_le_bytes w32 (cast_unsigned w32 n) ++ rest) ≡ Ok (cast_unsigned w32 n, rest)
fixed32_again n rest h = rw (number32_again (cast_unsigned w32 n) rest (below32 n h)) refl

fixed64_again : (n : ℕ) (rest : List ℕ) → n < 2 ^ 64
    → fixed_at w64 (to_le_bytes w64 n ++ rest) ≡ Ok (n, rest)
fixed64_again n rest lt = rw (number64_again n rest lt) refl

-- what a reader gives of the bytes of a value, whatever stands after them
abbrev ReadBy : Reader → Value → ℕ → List ℕ → Type 0
ReadBy read value byte b = (found : Kind) × (kind_of byte ≡ Some found)
    × ((end : ℕ) (rest : List ℕ) → read found end (b ++ rest) ≡ Ok (value, rest))

leaf_again : (nested : Nested) (x : of.Value-F Value) (byte : ℕ) (b : List ℕ) → reads_leaf x byte b
    → ReadBy (value_by nested) (roll-Value x) byte b
unfolding value_by leaf_at
leaf_again nested (of.Text t) byte b h = (
  kind.Leaf leaf.Text,
  ap kind_of h.0,
  λ end rest. rw h.1 (bound _ _ _ (text_again end t rest h.2 h.3)),
)
leaf_again nested (of.Doc fields) byte b h = absurd h
leaf_again nested (of.List values) byte b h = absurd h
leaf_again nested (of.Bin bin) byte b h = (
  kind.Leaf leaf.Bin,
  ap kind_of h.0,
  λ end rest. rw h.1 (bound _ _ _ (binary_again end bin rest h.2)),
)
leaf_again nested (of.Oid id) byte b h = (
  kind.Leaf leaf.Oid,
  ap kind_of h.0,
  λ end rest. rw h.1 (bound _ _ _ (object_id_again id rest h.2)),
)
leaf_again nested (of.Bool flag) byte b h = (
  kind.Leaf leaf.Bool,
  ap kind_of h.0,
  λ end rest. rw h.1 (bound _ _ _ (flag_again end flag rest)),
)
leaf_again nested (of.Date n) byte b h = (
  kind.Leaf leaf.Date,
  ap kind_of h.0,
  λ end rest. rw h.1 (bound _ _ _ (fixed64_again (cast_unsigned w64 n) rest (below64 n h.2))
      ∙ ap (λ (m : ℤ). Ok (roll-Value (of.Date m), rest)) (to_z-of_z w64 n h.2)),
)
leaf_again nested of.Null byte b h = (kind.Leaf leaf.Null, ap kind_of h.0, λ end rest. rw h.1 refl)
leaf_again nested (of.Int n) byte b h = (
  kind.Leaf leaf.Int,
  ap kind_of h.0,
  λ end rest. rw h.1 (bound _ _ _ (fixed32_again n rest h.2)
      ∙ ap (λ (m : ℤ). Ok (roll-Value (of.Int m), rest)) (to_z-of_z w32 n h.2)),
)
leaf_again nested (of.Stamp n) byte b h = (
  kind.Leaf leaf.Stamp,
  ap kind_of h.0,
  λ end rest. rw h.1 (bound _ _ _ (fixed64_again n rest h.2)),
)
leaf_again nested (of.Long n) byte b h = (
  kind.Leaf leaf.Long,
  ap kind_of h.0,
  λ end rest. rw h.1 (bound _ _ _ (fixed64_again (cast_unsigned w64 n) rest (below64 n h.2))
      ∙ ap (λ (m : ℤ). Ok (roll-Value (of.Long m), rest)) (to_z-of_z w64 n h.2)),
)

-- Elements and documents, over a reader that reads again what is in the grammar.

abbrev pub ReadsAgain : ℕ → Reader → Type 0
ReadsAgain levels read = (value : Value) (byte : ℕ) (b : List ℕ) → ReadsAt levels value byte b
    → ReadBy read value byte b

one_again : (levels : ℕ) (read : Reader) → ReadsAgain levels read
    → (start end byte : ℕ) (name b tail : List ℕ) (value : Value) (bytes : List ℕ)
    → ReadsAt levels value byte b → IsName name → bytes ≡ byte ∷ (name ++ 0 ∷ (b ++ tail))
    → element_at read start end bytes ≡ Ok (Some ((name, value), tail))
unfolding element_at
one_again levels read again start end byte name b tail value bytes reads is same =
    let found = again value byte b reads in
    rw (
      same,
      not_the_end byte found.0 found.1,
      found.1,
      name_again end name (b ++ tail) is,
      found.2 end tail,
    ) refl

pub none_again : (read : Reader) (start end : ℕ) → element_at read start end [] ≡ Ok None
unfolding element_at
none_again read start end = refl

regroup : (byte : ℕ) (name value rest e : List ℕ) → e ≡ (byte ∷ name ++ 0 ∷ value) ++ rest
    → e ≡ byte ∷ (name ++ 0 ∷ (value ++ rest))
regroup byte name value rest e p = p ∙ simp append_assoc

elements_again : (levels : ℕ) (read : Reader) → ReadsAgain levels read
    → (start end : ℕ) (fields : Document) (e : List ℕ) (n : ℕ) → length fields < n
    → ReadsElements (ReadsAt levels) fields e → elements_at read start end n e ≡ Ok fields
unfolding elements_at
elements_again levels read again start end fields e zero lt h = absurd (omega arith)
elements_again levels read again start end [] e (suc n) lt h =
    rw (h, none_again read start end) refl
elements_again levels read again start end (field ∷ fields) e (suc n) lt h =
    rw (
      one_again levels read again start end h.0 field.0 h.1 h.2 field.1 e h.3 h.4
          (regroup h.0 field.0 h.1 h.2 e h.5),
      elements_again levels read again start end fields h.2 n (omega arith) h.6,
    ) refl

-- an element has bytes
elements_long : (reads : Value → ℕ → List ℕ → Type 0) (fields : Document) (e : List ℕ)
    → ReadsElements reads fields e → length fields ≤ length e
elements_long reads [] e h = omega arith
elements_long reads (field ∷ fields) e h =
    let more = elements_long reads fields h.2 h.6 in
    omega (
      arith,
      more,
      ap length h.5,
      length-append (h.0 ∷ field.0 ++ 0 ∷ h.1) h.2,
      length-append (h.0 ∷ field.0) (0 ∷ h.1),
    )

body_again : (levels : ℕ) (read : Reader) → ReadsAgain levels read
    → (start end : ℕ) (fields : Document) (e : List ℕ) → ReadsElements (ReadsAt levels) fields e
    → body_at read start end e 0 ≡ Ok fields
unfolding body_at
body_again levels read again start end fields e reads =
    rw (elements_again levels read again start end fields e (length e + 1)
    (omega (arith, elements_long (ReadsAt levels) fields e reads)) reads) refl

document_behind : (levels : ℕ) (read : Reader) → ReadsAgain levels read
    → (end count : ℕ) (after e rest bytes : List ℕ) (fields : Document)
    → count_at end bytes ≡ Ok (count, after) → count ≡ length e + 5 → after ≡ e ++ 0 ∷ rest
    → ReadsElements (ReadsAt levels) fields e → document_at read end bytes ≡ Ok (fields, rest)
unfolding document_at
document_behind levels read again end count after e rest bytes fields number p q reads =
    let less : count - 5 ≡ length e = omega arith in
    let more : count - 4 ≡ length e + 1 = omega arith in
    let five : ltb count 5 ≡ false = le-ltb _ _ (omega arith) in
    let room : ltb (length after) (count - 4) ≡ false =
    le-ltb _ _ (omega (arith, ap length q, length-append e (0 ∷ rest))) in
    let front : take (count - 5) after ≡ e = rw (q, less) (take_at e (0 ∷ rest) (length e) refl) in
    let last : get_or after (count - 5) 0 ≡ 0 = rw (
      q,
      less,
      get_or-append_right e (0 ∷ rest) (length e) (length e) 0 refl (omega arith),
      nothing_left (length e),
    ) refl in
    let back : drop (count - 4) after ≡ rest = rw (q, more) (drop_at_next e 0 rest) in
    rw (
      number,
      five,
      room,
      front,
      last,
      back,
      body_again levels read again (place end bytes) (place end rest - 1) fields e reads,
    ) refl

pub document_again : (levels : ℕ) (read : Reader) → ReadsAgain levels read
    → (end : ℕ) (fields : Document) (e rest : List ℕ) → ReadsElements (ReadsAt levels) fields e
    → length e + 5 < 2 ^ 31 → document_at read end (framed e ++ rest) ≡ Ok (fields, rest)
unfolding framed
document_again levels read again end fields e rest reads lt =
    let count = length e + 5 in
    let after = e ++ 0 ∷ rest in
    let number : count_at end (to_le_bytes w32 count ++ after) ≡ Ok (count, after) =
    count_again end count after (omega arith) in
    let same : framed e ++ rest ≡ to_le_bytes w32 count ++ after =
    append_assoc (to_le_bytes w32 count) (e ++ 0 ∷ []) rest
    ∙ ap (λ (l : List ℕ). to_le_bytes w32 count ++ l) (append_assoc e (0 ∷ []) rest) in
    ap (document_at read end) same ∙ document_behind levels read again end count after e rest
    (to_le_bytes w32 count ++ after) fields number refl refl reads

-- Values, by the number of levels.

step_again : (levels : ℕ) → ReadsAgain levels (value_by (nested_at levels))
    → (x : of.Value-F Value) (byte : ℕ) (b : List ℕ) → reads_step (ReadsAt levels) x byte b
    → ReadBy (value_by (nested_at (suc levels))) (roll-Value x) byte b
unfolding value_by nested_at
step_again levels again (of.Doc fields) byte b h = (
  kind.Doc,
  ap kind_of h.0,
  λ end rest. rw h.1.2 (bound _ _ _ (document_again levels (value_by (nested_at levels)) again end
      fields h.1.0 rest h.1.1 h.1.3)),
)
step_again levels again (of.List values) byte b h = (
  kind.List,
  ap kind_of h.0,
  λ end rest. rw h.1.2
      (bound _ _ _ (document_again levels (value_by (nested_at levels)) again end h.1.1.0 h.1.0 rest
      h.1.1.2 h.1.3) ∙ ap (λ (l : List Value). Ok (roll-Value (of.List l), rest)) h.1.1.1),
)
step_again levels again x byte b h = leaf_again (nested_at (suc levels)) x byte b h

pub value_again : (levels : ℕ) → ReadsAgain levels (value_by (nested_at levels))
unfolding ReadsAt
value_again zero value byte b h = subst (λ (v : Value). ReadBy (value_by (nested_at 0)) v byte b)
    (roll-out-Value value) (leaf_again (nested_at 0) (out-Value value) byte b h)
value_again (suc levels) value byte b h =
    subst (λ (v : Value). ReadBy (value_by (nested_at (suc levels))) v byte b)
    (roll-out-Value value) (step_again levels (value_again levels) (out-Value value) byte b h)
