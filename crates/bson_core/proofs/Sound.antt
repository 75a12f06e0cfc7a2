-- What is read is in the grammar.
use Rattle.std.proofs.Common.{◌≡◌, ℕ, zero, suc, ◌-◌, ◌+◌, ◌^◌, ◌≤◌, ◌<◌, Bool, true, false, cond}
use Rattle.std.proofs.Common.{eqb, ltb, List, [], ◌∷◌, ◌++◌, length, get_or, take, drop, Option}
use Rattle.std.proofs.Common.{Some, None, Result, Ok, Err, refl, sym, ap, subst, ◌∙◌, append_assoc}
use Rattle.std.proofs.Common.{arith, inl, inr, Fits}
use Rattle.std.specs.Prelude.{FitsSigned}
use Rattle.std.specs.Int.{w32, w64, to_le_bytes, from_le_bytes, cast_signed}
use Rattle.std.proofs.lemmas.Int.{of_z-to_z}
use Rattle.std.proofs.Math.Facts.{sfits_to_z}
use Rattle.std.specs.Str.{is_utf8}
use Rattle.std.specs.List.{position_or_len}
use Rattle.std.proofs.lemmas.Bool.{cases_lt, ltb-false, ltb-true, eqb-true, eqb-false}
use Rattle.std.proofs.lemmas.List.{take-append-drop, length-take, length-drop, get_or-drop}
use Rattle.std.proofs.lemmas.List.{get_or-take, get_or_past, take_more}
use Rattle.std.proofs.lemmas.List.Sums.{split_at_first, passes_at_first}
use Rattle.std.proofs.lemmas.Nat.{le_bytes_4, le_bytes_8}
use Rattle.outcomes.specs.Bind.{◌>>=◌}
use Rattle.outcomes.proofs.Binding.{bind_ok, passed, held, ok_is}
use Rattle.bson_core.specs.declared.error.BsonErr.{BsonErr}
use Rattle.bson_core.specs.declared.error.BsonErr.TheVariants.{Short, Length}
use Rattle.bson_core.specs.declared.error.BsonErr.TheVariants as fault
use Rattle.bson_core.specs.declared.kind.Leaf.{Leaf}
use Rattle.bson_core.specs.declared.kind.Leaf.TheVariants as leaf
use Rattle.bson_core.specs.declared.kind.Kind.{Kind}
use Rattle.bson_core.specs.declared.kind.Kind.TheVariants as kind
use Rattle.bson_core.specs.declared.value.Bin.{Bin}
use Rattle.bson_core.specs.declared.value.Value.{Value}
use Rattle.bson_core.specs.declared.value.Value.TheOpen as of
use Rattle.bson_core.specs.declared.value.Value.TheViews.{roll-Value, out-Value, out-roll-Value}
use Rattle.bson_core.specs.Names.{IsName}
use Rattle.bson_core.specs.Kinds.{leaf_byte, kind_byte, kind_of}
use Rattle.bson_core.specs.Fields.{Document}
use Rattle.bson_core.specs.Spelling.{text, framed, binary, bit}
use Rattle.bson_core.specs.Grammar.{Relation, values_of, ReadsAt, reads_leaf, reads_step}
use Rattle.bson_core.specs.Grammar.{ReadsElements, IsFramed}
use Rattle.bson_core.specs.Reading.{Field, place, or_fault, number_at, count_at, fixed_at, cut_at}
use Rattle.bson_core.specs.Reading.{name_at, text_at, binary_at, object_id_at, flag_at, leaf_at}
use Rattle.bson_core.specs.Reading.{Reader, value_by, element_at, elements_at, body_at, document_at}
use Rattle.bson_core.specs.Reading.{nested_at}
use Rattle.bson_core.proofs.Names.{no_zero_before}
use Rattle.bson_core.proofs.TypeBytes.{kind_found}
use Rattle.bson_core.proofs.Again.{none_again}

-- bytes, fewer than an int32 counts
pub record IsInput (bytes : List ℕ) : Type 0 where
  pub fits : (i : ℕ) → get_or bytes i 0 < 256
  pub short : length bytes < 2 ^ 31

pub input-drop : (n : ℕ) (bytes : List ℕ) → IsInput bytes → IsInput (drop n bytes)
input-drop n bytes h = record {
  fits = λ i. rw get_or-drop (h.fits (n + i));
  short = omega (arith, length-drop n bytes, h.short);
}

pub input-take : (n : ℕ) (bytes : List ℕ) → IsInput bytes → IsInput (take n bytes)
input-take n bytes h = record {
  fits = λ i. elim (cases_lt i n) [
    | inl lt ↦ rw (get_or-take n bytes i 0 lt) (h.fits i)
    | inr le ↦
        rw (get_or_past (take n bytes) i 0 (omega (arith, length-take n bytes))) (omega arith)
  ];
  short = omega (arith, length-take n bytes, h.short);
}

-- The steps of a reader that gave something.

some_is : {A : Type 0} (x y : A) → ◌≡◌ {A = Option A} (Some x) (Some y) → x ≡ y
some_is x y e = cc

pub no_fault : {A : Type 0} (d : BsonErr) (o : Option A) (x : A) → or_fault d o ≡ Ok x → o ≡ Some x
no_fault d None x e = absurd cc
no_fault d (Some y) x e = ap (λ z. Some z) (ok_is y x e)

enough : {A : Type 0} (b : Bool) (o : A) (x : A) → cond b None (Some o) ≡ Some x
    → (b ≡ false) × (o ≡ x)
enough true o x e = absurd cc
enough false o x e = (refl, some_is o x e)

-- Numbers.

-- a number of four bytes, and the bytes after it, are all of the bytes
abbrev pub Is32 : List ℕ → ℕ × List ℕ → Type 0
Is32 bytes x = (bytes ≡ to_le_bytes w32 x.0 ++ x.1) × IsInput x.1 × (x.0 < 2 ^ 32)
    × (length x.1 + 4 ≡ length bytes)

pub number32 : (bytes : List ℕ) (x : ℕ × List ℕ) → IsInput bytes → number_at w32 bytes ≡ Some x
    → Is32 bytes x
unfolding number_at
number32 bytes x h e =
    let made : ℕ × List ℕ = (from_le_bytes w32 (take 4 bytes), drop 4 bytes) in
    let g = enough (ltb (length bytes) 4) made x e in
    let long : 4 ≤ length bytes = ltb-false _ _ g.0 in
    let front = input-take 4 bytes h in
    let len : length (take 4 bytes) ≡ 4 = omega (arith, length-take 4 bytes) in
    let back : to_le_bytes w32 (from_le_bytes w32 (take 4 bytes)) ≡ take 4 bytes =
    le_bytes_4 (take 4 bytes) _ len front.fits refl in
    subst (Is32 bytes) g.1 (
      sym (take-append-drop 4 bytes) ∙ ap (λ (t : List ℕ). t ++ drop 4 bytes) (sym back),
      input-drop 4 bytes h,
      omega (arith, front.fits 0, front.fits 1, front.fits 2, front.fits 3),
      omega (arith, length-drop 4 bytes),
    )

abbrev Is64 : List ℕ → ℕ × List ℕ → Type 0
Is64 bytes x = (bytes ≡ to_le_bytes w64 x.0 ++ x.1) × IsInput x.1 × (x.0 < 2 ^ 64)

number64 : (bytes : List ℕ) (x : ℕ × List ℕ) → IsInput bytes → number_at w64 bytes ≡ Some x
    → Is64 bytes x
unfolding number_at
number64 bytes x h e =
    let made : ℕ × List ℕ = (from_le_bytes w64 (take 8 bytes), drop 8 bytes) in
    let g = enough (ltb (length bytes) 8) made x e in
    let long : 8 ≤ length bytes = ltb-false _ _ g.0 in
    let front = input-take 8 bytes h in
    let len : length (take 8 bytes) ≡ 8 = omega (arith, length-take 8 bytes) in
    let back : to_le_bytes w64 (from_le_bytes w64 (take 8 bytes)) ≡ take 8 bytes =
    le_bytes_8 (take 8 bytes) _ len front.fits refl in
    subst (Is64 bytes) g.1 (
      sym (take-append-drop 8 bytes) ∙ ap (λ (t : List ℕ). t ++ drop 8 bytes) (sym back),
      input-drop 8 bytes h,
      omega (
        arith,
        front.fits 0,
        front.fits 1,
        front.fits 2,
        front.fits 3,
        front.fits 4,
        front.fits 5,
        front.fits 6,
        front.fits 7,
      ),
    )

fixed32 : (bytes : List ℕ) (x : ℕ × List ℕ) → IsInput bytes → fixed_at w32 bytes ≡ Ok x
    → Is32 bytes x
fixed32 bytes x h e = number32 bytes x h (no_fault Short (number_at w32 bytes) x e)

fixed64 : (bytes : List ℕ) (x : ℕ × List ℕ) → IsInput bytes → fixed_at w64 bytes ≡ Ok x
    → Is64 bytes x
fixed64 bytes x h e = number64 bytes x h (no_fault Short (number_at w64 bytes) x e)

count_found : (end : ℕ) (bytes : List ℕ) (x : ℕ × List ℕ) → IsInput bytes
    → count_at end bytes ≡ Ok x → Is32 bytes x
unfolding count_at
count_found end bytes x h e =
    number32 bytes x h (no_fault (Length (place end bytes)) (number_at w32 bytes) x e)

-- Names and texts.

cut_ok : (end : ℕ) (b : Bool) (n : ℕ) (bytes : List ℕ) (x : List ℕ × List ℕ)
    → cut_at end (cond b (Some n) None) bytes ≡ Ok x
    → (b ≡ true) × (is_utf8 (take n bytes) ≡ true) × ((take n bytes, drop (n + 1) bytes) ≡ x)
cut_ok end true n bytes x e =
    let g = held (is_utf8 (take n bytes)) (fault.Text (place end bytes))
    (Ok (take n bytes, drop (n + 1) bytes)) x e in
    (refl, g.0, ok_is (take n bytes, drop (n + 1) bytes) x g.1)
cut_ok end false n bytes x e = absurd cc

pub name_found : (end : ℕ) (bytes : List ℕ) (x : List ℕ × List ℕ) → IsInput bytes
    → name_at end bytes ≡ Ok x → (bytes ≡ x.0 ++ 0 ∷ x.1) × IsName x.0 × IsInput x.1
unfolding name_at
name_found end bytes x h e =
    let n = position_or_len (λ b. eqb b 0) bytes in
    let g = cut_ok end (ltb n (length bytes)) n bytes x e in
    let lt : n < length bytes = ltb-true _ _ g.0 in
    let zero-at : get_or bytes n 0 ≡ 0 = eqb-true _ _ (passes_at_first (λ b. eqb b 0) bytes 0 lt) in
    let parts : bytes ≡ take n bytes ++ (get_or bytes n 0 ∷ drop (n + 1) bytes) =
    split_at_first (λ b. eqb b 0) bytes 0 lt in
    subst (λ (y : List ℕ × List ℕ). (bytes ≡ y.0 ++ 0 ∷ y.1) × IsName y.0 × IsInput y.1) g.2 (
      parts ∙ ap (λ (z : ℕ). take n bytes ++ (z ∷ drop (n + 1) bytes)) zero-at,
      (g.1, no_zero_before bytes),
      input-drop (n + 1) bytes h,
    )

last_zero : (xs : List ℕ) (n : ℕ) → 0 < n → n ≤ length xs → get_or xs (n - 1) 0 ≡ 0
    → take n xs ≡ take (n - 1) xs ++ 0 ∷ []
last_zero xs n some long is =
    let k : n ≡ (n - 1) + 1 = omega arith in
    ap (λ (m : ℕ). take m xs) k ∙ take_more xs (n - 1) 0 (omega arith)
    ∙ ap (λ (z : ℕ). take (n - 1) xs ++ z ∷ []) is

framed_parts : (count : ℕ) (rest t after : List ℕ) {len : ℕ}
    → count ≡ len → rest ≡ (t ++ 0 ∷ []) ++ after
    → to_le_bytes w32 count ++ rest ≡ (to_le_bytes w32 len ++ (t ++ 0 ∷ [])) ++ after
framed_parts count rest t after {len = len} p q = ap (λ (m : ℕ). to_le_bytes w32 m ++ rest) p
    ∙ ap (λ (r : List ℕ). to_le_bytes w32 len ++ r) q
    ∙ sym (append_assoc (to_le_bytes w32 len) (t ++ 0 ∷ []) after)

-- what stands in front of a 00, and what after it
around_zero : (rest : List ℕ) (count : ℕ) → 0 < count → count ≤ length rest
    → get_or rest (count - 1) 0 ≡ 0 → rest ≡ (take (count - 1) rest ++ 0 ∷ []) ++ drop count rest
around_zero rest count some long is = sym (take-append-drop count rest)
    ∙ ap (λ (z : List ℕ). z ++ drop count rest) (last_zero rest count some long is)

text_found : (end : ℕ) (bytes : List ℕ) (x : List ℕ × List ℕ) → IsInput bytes
    → text_at end bytes ≡ Ok x → (bytes ≡ text x.0 ++ x.1) × IsInput x.1 × (is_utf8 x.0 ≡ true)
    × (length x.0 + 1 < 2 ^ 31)
unfolding text_at text
text_found end bytes x h e =
    let b = bind_ok (count_at end bytes) _ x e in
    let count = b.0.0 in
    let rest = b.0.1 in
    let t = take (count - 1) rest in
    let number = count_found end bytes b.0 h b.1 in
    let g1 = passed (eqb count 0) (Length (place end bytes)) _ x b.2 in
    let g2 = passed (ltb (length rest) count) (Length (place end bytes)) _ x g1.1 in
    let g3 = held (eqb (get_or rest (count - 1) 0) 0) (fault.Text (place end rest)) _ x g2.1 in
    let g4 = held (is_utf8 t) (fault.Text (place end rest)) (Ok (t, drop count rest)) x g3.1 in
    let nonzero : count ≡ 0 → ⊥ = eqb-false _ _ g1.0 in
    let long : count ≤ length rest = ltb-false _ _ g2.0 in
    let some : 0 < count = omega (arith, nonzero) in
    let len : length t ≡ count - 1 = omega (arith, length-take (count - 1) rest) in
    let count-is : length t + 1 ≡ count = omega arith in
    let parts : rest ≡ (t ++ 0 ∷ []) ++ drop count rest =
    around_zero rest count some long (eqb-true _ _ g3.0) in
    let whole : bytes ≡ (to_le_bytes w32 (length t + 1) ++ (t ++ 0 ∷ [])) ++ drop count rest =
    number.0 ∙ framed_parts count rest t (drop count rest) (sym count-is) parts in
    subst (λ (y : List ℕ × List ℕ). (bytes ≡ text y.0 ++ y.1) × IsInput y.1 × (is_utf8 y.0 ≡ true)
    × (length y.0 + 1 < 2 ^ 31)) (ok_is (t, drop count rest) x g4.1)
    (whole, input-drop count rest number.1, g4.0, omega (arith, number.1.short))

-- Binaries, object ids and flags.

first_and_others : (rest : List ℕ) (n : ℕ) → n + 1 ≤ length rest
    → rest ≡ (get_or rest 0 0 ∷ take n (drop 1 rest)) ++ drop (n + 1) rest
first_and_others [] n long = absurd (omega arith)
first_and_others (x ∷ xs) n long =
    let next : n + 1 ≡ suc n = omega arith in
    rw next (ap (λ (t : List ℕ). x ∷ t) (sym (take-append-drop n xs)))

binary_found : (end : ℕ) (bytes : List ℕ) (x : Bin × List ℕ) → IsInput bytes → binary_at end bytes
    ≡ Ok x → (bytes ≡ binary x.0 ++ x.1) × IsInput x.1 × (length x.0.bytes < 2 ^ 31)
unfolding binary_at binary
binary_found end bytes x h e =
    let b = bind_ok (count_at end bytes) _ x e in
    let count = b.0.0 in
    let rest = b.0.1 in
    let number = count_found end bytes b.0 h b.1 in
    let bin : Bin = record { subtype = get_or rest 0 0; bytes = take count (drop 1 rest) } in
    let g = passed (ltb (length rest) (count + 1)) (Length (place end bytes))
    (Ok (bin, drop (count + 1) rest)) x b.2 in
    let long : count + 1 ≤ length rest = ltb-false _ _ g.0 in
    let len : length (take count (drop 1 rest)) ≡ count =
    omega (arith, length-take count (drop 1 rest), length-drop 1 rest) in
    let parts : rest ≡ (get_or rest 0 0 ∷ take count (drop 1 rest)) ++ drop (count + 1) rest =
    first_and_others rest count long in
    let whole : bytes ≡ (to_le_bytes w32 (length bin.bytes) ++ bin.subtype ∷ bin.bytes)
    ++ drop (count + 1) rest =
    number.0 ∙ ap (λ (m : ℕ). to_le_bytes w32 m ++ rest) (sym len)
    ∙ ap (λ (r : List ℕ). to_le_bytes w32 (length bin.bytes) ++ r) parts ∙ sym (append_assoc
    (to_le_bytes w32 (length bin.bytes)) (bin.subtype ∷ bin.bytes) (drop (count + 1) rest)) in
    subst (λ (y : Bin × List ℕ). (bytes ≡ binary y.0 ++ y.1) × IsInput y.1
    × (length y.0.bytes < 2 ^ 31)) (ok_is (bin, drop (count + 1) rest) x g.1)
    (whole, input-drop (count + 1) rest number.1, omega (arith, number.1.short))

object_id_found : (bytes : List ℕ) (x : List ℕ × List ℕ) → IsInput bytes → object_id_at bytes ≡ Ok x
    → (bytes ≡ x.0 ++ x.1) × IsInput x.1 × (length x.0 ≡ 12)
unfolding object_id_at
object_id_found bytes x h e =
    let g = passed (ltb (length bytes) 12) Short (Ok (take 12 bytes, drop 12 bytes)) x e in
    let long : 12 ≤ length bytes = ltb-false _ _ g.0 in
    subst (λ (y : List ℕ × List ℕ). (bytes ≡ y.0 ++ y.1) × IsInput y.1 × (length y.0 ≡ 12))
    (ok_is (take 12 bytes, drop 12 bytes) x g.1)
    (sym (take-append-drop 12 bytes), input-drop 12 bytes h, omega (arith, length-take 12 bytes))

flag_of : (b : Bool) (end n : ℕ) (bytes : List ℕ) (x : Bool × List ℕ)
    → eqb n 0 ≡ b → cond b (Ok (false, bytes)) (cond (eqb n 1) (Ok (true, bytes))
    (Err (fault.Bool (place end (n ∷ bytes))))) ≡ Ok x → (n ∷ bytes ≡ bit x.0 ∷ x.1) × (bytes ≡ x.1)
flag_of true end n bytes x test e =
    subst (λ (y : Bool × List ℕ). (n ∷ bytes ≡ bit y.0 ∷ y.1) × (bytes ≡ y.1))
    (ok_is (false, bytes) x e) (ap (λ (m : ℕ). m ∷ bytes) (eqb-true n 0 test), refl)
flag_of false end n bytes x test e =
    let g = held (eqb n 1) (fault.Bool (place end (n ∷ bytes))) (Ok (true, bytes)) x e in
    subst (λ (y : Bool × List ℕ). (n ∷ bytes ≡ bit y.0 ∷ y.1) × (bytes ≡ y.1))
    (ok_is (true, bytes) x g.1) (ap (λ (m : ℕ). m ∷ bytes) (eqb-true n 1 g.0), refl)

flag_found : (end : ℕ) (bytes : List ℕ) (x : Bool × List ℕ) → IsInput bytes
    → flag_at end bytes ≡ Ok x → (bytes ≡ bit x.0 ∷ x.1) × IsInput x.1
unfolding flag_at
flag_found end [] x h e = absurd cc
flag_found end (n ∷ bytes) x h e =
    let g = flag_of (eqb n 0) end n bytes x refl e in
    (g.0, subst (λ (t : List ℕ). IsInput t) g.1 (input-drop 1 (n ∷ bytes) h))

-- Values that hold no others.

-- a value of a kind, and the rest, are all of the bytes
abbrev Found : (Value → Relation) → ℕ → List ℕ → Value × List ℕ → Type 0
Found reads byte bytes x = (b : List ℕ) × reads x.0 byte b × (bytes ≡ b ++ x.1) × IsInput x.1

abbrev reads_as_leaf : Value → Relation
reads_as_leaf value = reads_leaf (out-Value value)

signed32 : (n : ℕ) → n < 2 ^ 32 → FitsSigned w32 (cast_signed w32 n)
signed32 n lt = let f : Fits w32 n = omega arith in sfits_to_z f

signed64 : (n : ℕ) → n < 2 ^ 64 → FitsSigned w64 (cast_signed w64 n)
signed64 n lt = let f : Fits w64 n = omega arith in sfits_to_z f

-- a value made of what was read
made_of : {A : Type 0} (make : A → Value) (byte : ℕ) (bytes : List ℕ) (read : Field A) (x : Value
    × List ℕ) → (read >>= λ y. Ok (make y.0, y.1)) ≡ Ok x → ((y : A × List ℕ) → read ≡ Ok y
    → Found reads_as_leaf byte bytes (make y.0, y.1)) → Found reads_as_leaf byte bytes x
made_of make byte bytes read x e found =
    let b = bind_ok read (λ y. Ok (make y.0, y.1)) x e in
    subst (λ (y : Value × List ℕ). Found reads_as_leaf byte bytes y)
    (ok_is (make b.0.0, b.0.1) x b.2) (found b.0 b.1)

leaf_found : (l : Leaf) (end : ℕ) (bytes : List ℕ) (x : Value × List ℕ) → IsInput bytes
    → leaf_at l end bytes ≡ Ok x → Found reads_as_leaf (leaf_byte l) bytes x
unfolding leaf_at out-Value denote.Hole.Carrier.out roll-Value denote.Hole.Carrier.roll
leaf_found leaf.Text end bytes x h e =
    made_of (λ t. roll-Value (of.Text t)) 2 bytes (text_at end bytes) x e (λ y is. let t =
    text_found end bytes y h is in (text y.0, (refl, refl, t.2, t.3), t.0, t.1))
leaf_found leaf.Bin end bytes x h e =
    made_of (λ b. roll-Value (of.Bin b)) 5 bytes (binary_at end bytes) x e (λ y is. let t =
    binary_found end bytes y h is in (binary y.0, (refl, refl, t.2), t.0, t.1))
leaf_found leaf.Oid end bytes x h e = made_of (λ id. roll-Value (of.Oid id)) 7 bytes (object_id_at
    bytes) x e (λ y is. let t = object_id_found bytes y h is in (y.0, (refl, refl, t.2), t.0, t.1))
leaf_found leaf.Bool end bytes x h e =
    made_of (λ b. roll-Value (of.Bool b)) 8 bytes (flag_at end bytes) x e (λ y is. let t =
    flag_found end bytes y h is in (bit y.0 ∷ [], (refl, refl), t.0, t.1))
leaf_found leaf.Date end bytes x h e =
    made_of (λ n. roll-Value (of.Date (cast_signed w64 n))) 9 bytes (fixed_at w64 bytes) x e
    (λ y is. let t = fixed64 bytes y h is in (
      to_le_bytes w64 y.0,
      (refl, ap (λ (n : ℕ). to_le_bytes w64 n) (sym (of_z-to_z w64 y.0 t.2)), signed64 y.0 t.2),
      t.0,
      t.1,
    ))
leaf_found leaf.Null end bytes x h e = subst (λ (y : Value × List ℕ). Found reads_as_leaf 10 bytes
    y) (ok_is (roll-Value of.Null, bytes) x e) ([], (refl, refl), refl, h)
leaf_found leaf.Int end bytes x h e =
    made_of (λ n. roll-Value (of.Int (cast_signed w32 n))) 16 bytes (fixed_at w32 bytes) x e
    (λ y is. let t = fixed32 bytes y h is in (
      to_le_bytes w32 y.0,
      (refl, ap (λ (n : ℕ). to_le_bytes w32 n) (sym (of_z-to_z w32 y.0 t.2)), signed32 y.0 t.2),
      t.0,
      t.1,
    ))
leaf_found leaf.Stamp end bytes x h e =
    made_of (λ n. roll-Value (of.Stamp n)) 17 bytes (fixed_at w64 bytes) x e (λ y is. let t =
    fixed64 bytes y h is in (to_le_bytes w64 y.0, (refl, refl, t.2), t.0, t.1))
leaf_found leaf.Long end bytes x h e =
    made_of (λ n. roll-Value (of.Long (cast_signed w64 n))) 18 bytes (fixed_at w64 bytes) x e
    (λ y is. let t = fixed64 bytes y h is in (
      to_le_bytes w64 y.0,
      (refl, ap (λ (n : ℕ). to_le_bytes w64 n) (sym (of_z-to_z w64 y.0 t.2)), signed64 y.0 t.2),
      t.0,
      t.1,
    ))

-- Elements and documents, over a reader of values that is sound.

abbrev pub IsSound : ℕ → Reader → Type 0
IsSound levels read = (k : Kind) (end : ℕ) (bytes : List ℕ) (x : Value × List ℕ) → IsInput bytes
    → read k end bytes ≡ Ok x → Found (ReadsAt levels) (kind_byte k) bytes x

joined : (byte : ℕ) (bytes name after value rest : List ℕ) → bytes ≡ name ++ 0 ∷ after
    → after ≡ value ++ rest → byte ∷ bytes ≡ (byte ∷ name ++ 0 ∷ value) ++ rest
joined byte bytes name after value rest p q =
    ap (λ (x : List ℕ). byte ∷ x) (p ∙ ap (λ (x : List ℕ). name ++ 0 ∷ x) q) ∙ simp append_assoc

-- an element in front of the rest
abbrev FoundElement : ℕ → List ℕ → (List ℕ × Value) × List ℕ → Type 0
FoundElement levels bytes x = (byte : ℕ) × (value : List ℕ) × ReadsAt levels x.0.1 byte value
    × IsName x.0.0 × (bytes ≡ (byte ∷ x.0.0 ++ 0 ∷ value) ++ x.1) × IsInput x.1

element_found : (levels : ℕ) (read : Reader) → IsSound levels read
    → (start end byte : ℕ) (bytes : List ℕ) (o : Option ((List ℕ × Value) × List ℕ))
    → IsInput (byte ∷ bytes) → element_at read start end (byte ∷ bytes) ≡ Ok o
    → (x : (List ℕ × Value) × List ℕ) × (o ≡ Some x) × FoundElement levels (byte ∷ bytes) x
unfolding element_at
element_found levels read sound start end byte bytes o h e =
    let g = passed (eqb byte 0) (Length start) _ o e in
    let k =
    bind_ok (or_fault (fault.Kind (place end (byte ∷ bytes)) byte) (kind_of byte)) _ o g.1 in
    let a = bind_ok (name_at end bytes) _ o k.2 in
    let b = bind_ok (read k.0 end a.0.1) _ o a.2 in
    let is : kind_byte k.0 ≡ byte = kind_found byte k.0
    (no_fault (fault.Kind (place end (byte ∷ bytes)) byte) (kind_of byte) k.0 k.1) in
    let name = name_found end bytes a.0 (input-drop 1 (byte ∷ bytes) h) a.1 in
    let value = sound k.0 end a.0.1 b.0 name.2 b.1 in (
      ((a.0.0, b.0.0), b.0.1),
      sym (ok_is (Some ((a.0.0, b.0.0), b.0.1)) o b.2),
      (
        byte,
        value.0,
        subst (λ (n : ℕ). ReadsAt levels b.0.0 n value.0) is value.1,
        name.1,
        joined byte bytes a.0.0 a.0.1 value.0 b.0.1 name.0 value.2,
        value.3,
      ),
    )

elements_found : (levels : ℕ) (read : Reader) → IsSound levels read
    → (start end n : ℕ) (bytes : List ℕ) (fields : Document) → IsInput bytes
    → elements_at read start end n bytes ≡ Ok fields → ReadsElements (ReadsAt levels) fields bytes
unfolding elements_at
elements_found levels read sound start end zero bytes fields h e = absurd cc
elements_found levels read sound start end (suc n) [] fields h e =
    let stop : ◌≡◌ {A = Result Document BsonErr} (Ok []) (Ok fields) =
    rw (none_again read start end) at e in
    subst (λ (y : Document). ReadsElements (ReadsAt levels) y []) (ok_is [] fields stop) refl
elements_found levels read sound start end (suc n) (byte ∷ bytes) fields h e =
    let o = bind_ok (element_at read start end (byte ∷ bytes)) _ fields e in
    let f = element_found levels read sound start end byte bytes o.0 h o.1 in
    let next : (elements_at read start end n f.0.1 >>= λ more. Ok (f.0.0 ∷ more)) ≡ Ok fields =
    rw f.1 at o.2 in
    let d = bind_ok (elements_at read start end n f.0.1) (λ more. Ok (f.0.0 ∷ more)) fields next in
    let others = elements_found levels read sound start end n f.0.1 d.0 f.2.5 d.1 in
    subst (λ (y : Document). ReadsElements (ReadsAt levels) y (byte ∷ bytes))
    (ok_is (f.0.0 ∷ d.0) fields d.2)
    (f.2.0, f.2.1, f.0.1, f.2.2, f.2.3, f.2.4, others)

body_found : (levels : ℕ) (read : Reader) → IsSound levels read
    → (start end : ℕ) (inside : List ℕ) (last : ℕ) (fields : Document)
    → IsInput inside → body_at read start end inside last ≡ Ok fields
    → ReadsElements (ReadsAt levels) fields inside × (last ≡ 0)
unfolding body_at
body_found levels read sound start end inside last fields h e =
    let b = bind_ok (elements_at read start end (length inside + 1) inside) _ fields e in
    let g = held (eqb last 0) (Length start) (Ok b.0) fields b.2 in (
      subst (λ (y : Document). ReadsElements (ReadsAt levels) y inside) (ok_is b.0 fields g.1)
          (elements_found levels read sound start end (length inside + 1) inside b.0 h b.1),
      eqb-true last 0 g.0,
    )

abbrev pub FoundDocument : ℕ → List ℕ → Document × List ℕ → Type 0
FoundDocument levels bytes x = (b : List ℕ) × IsFramed (ReadsElements (ReadsAt levels) x.0) b
    × (bytes ≡ b ++ x.1) × IsInput x.1

pub document_found : (levels : ℕ) (read : Reader) → IsSound levels read
    → (end : ℕ) (bytes : List ℕ) (x : Document × List ℕ) → IsInput bytes
    → document_at read end bytes ≡ Ok x → FoundDocument levels bytes x
unfolding document_at framed
document_found levels read sound end bytes x h e =
    let b = bind_ok (count_at end bytes) _ x e in
    let count = b.0.0 in
    let rest = b.0.1 in
    let inside = take (count - 5) rest in
    let after = drop (count - 4) rest in
    let number = count_found end bytes b.0 h b.1 in
    let g1 = passed (ltb count 5) (Length (place end bytes)) _ x b.2 in
    let g2 = passed (ltb (length rest) (count - 4)) (Length (place end bytes)) _ x g1.1 in
    let five : 5 ≤ count = ltb-false _ _ g1.0 in
    let long : count - 4 ≤ length rest = ltb-false _ _ g2.0 in
    let d = bind_ok (body_at read (place end bytes) (place end after - 1) inside
    (get_or rest (count - 5) 0)) (λ fields. Ok (fields, after)) x g2.1 in
    let found = body_found levels read sound (place end bytes) (place end after - 1) inside
    (get_or rest (count - 5) 0) d.0 (input-take (count - 5) rest number.1) d.1 in
    let less : (count - 4) - 1 ≡ count - 5 = omega arith in
    let len : length inside + 5 ≡ count = omega (arith, length-take (count - 5) rest) in
    let parts : rest ≡ (inside ++ 0 ∷ []) ++ after =
    rw less at (around_zero rest (count - 4) (omega arith) long (rw less found.1)) in
    let whole : bytes ≡ (to_le_bytes w32 (length inside + 5) ++ (inside ++ 0 ∷ [])) ++ after =
    number.0 ∙ framed_parts count rest inside after (sym len) parts in
    subst (FoundDocument levels bytes) (ok_is (d.0, after) x d.2) (
      framed inside,
      (inside, found.0, refl, omega (arith, number.3, h.short)),
      whole,
      input-drop (count - 4) rest number.1,
    )

-- Values, by the number of levels.

pub leaf_step : (reads : Value → Relation) (x : of.Value-F Value) (byte : ℕ) (bytes : List ℕ)
    → reads_leaf x byte bytes → reads_step reads x byte bytes
leaf_step reads (of.Doc fields) byte bytes h = absurd h
leaf_step reads (of.List values) byte bytes h = absurd h
leaf_step reads x byte bytes h = h

pub nested_found : (levels : ℕ) → IsSound levels (value_by (nested_at levels))
    → (end : ℕ) (bytes : List ℕ) (x : Document × List ℕ) → IsInput bytes
    → nested_at (suc levels) end bytes ≡ Ok x → FoundDocument levels bytes x
unfolding nested_at
nested_found levels sound end bytes x h e =
    document_found levels (value_by (nested_at levels)) sound end bytes x h e

too_deep : {A : Type 0} (end : ℕ) (bytes : List ℕ) (f : Document × List ℕ
    → Result A BsonErr) (x : A) → (nested_at 0 end bytes >>= f) ≡ Ok x → ⊥
unfolding nested_at
too_deep end bytes f x e = cc

pub value_found : (levels : ℕ) → IsSound levels (value_by (nested_at levels))
unfolding value_by ReadsAt
value_found zero kind.Doc end bytes x h e = absurd (too_deep end bytes _ x e)
value_found zero kind.List end bytes x h e = absurd (too_deep end bytes _ x e)
value_found zero (kind.Leaf l) end bytes x h e = leaf_found l end bytes x h e
value_found (suc levels) kind.Doc end bytes x h e =
    let b =
    bind_ok (nested_at (suc levels) end bytes) (λ d. Ok (roll-Value (of.Doc d.0), d.1)) x e in
    let t = nested_found levels (value_found levels) end bytes b.0 h b.1 in
    subst (λ (y : Value × List ℕ). Found (ReadsAt (suc levels)) 3 bytes y) (ok_is
    (roll-Value (of.Doc b.0.0), b.0.1) x b.2) (t.0, rw out-roll-Value (refl, t.1), t.2, t.3)
value_found (suc levels) kind.List end bytes x h e =
    let b = bind_ok (nested_at (suc levels) end bytes) (λ d.
    Ok (roll-Value (of.List (values_of d.0)), d.1)) x e in
    let t = nested_found levels (value_found levels) end bytes b.0 h b.1 in
    subst (λ (y : Value × List ℕ). Found (ReadsAt (suc levels)) 4 bytes y)
    (ok_is (roll-Value (of.List (values_of b.0.0)), b.0.1) x b.2)
    (t.0, rw out-roll-Value (refl, (t.1.0, (b.0.0, refl, t.1.1), t.1.2, t.1.3)), t.2, t.3)
value_found (suc levels) (kind.Leaf l) end bytes x h e =
    let t = leaf_found l end bytes x h e in
    (t.0, leaf_step (ReadsAt levels) (out-Value x.0) (leaf_byte l) t.0 t.1, t.2, t.3)
