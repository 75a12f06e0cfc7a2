-- Each fault of a document is at a place of the bytes, and says of the byte there what is so.
use Rattle.std.proofs.Common.{◌≡◌, ℕ, zero, suc, ◌-◌, ◌+◌, ◌≤◌, ◌<◌, Bool, true, false, cond, eqb}
use Rattle.std.proofs.Common.{ltb, List, [], ◌∷◌, length, get_or, take, drop, Option, Some, None}
use Rattle.std.proofs.Common.{Result, Ok, Err, refl, sym, ap, ◌∙◌, arith}
use Rattle.std.specs.Int.{Width, w32, w64, byte_len, from_le_bytes}
use Rattle.std.specs.Str.{is_utf8}
use Rattle.std.specs.List.{position_or_len}
use Rattle.std.proofs.lemmas.Bool.{ltb-false, ltb-true, eqb-false}
use Rattle.std.proofs.lemmas.List.{length-take, length-drop, get_or-drop, get_or-take}
use Rattle.outcomes.specs.Bind.{◌>>=◌}
use Rattle.bson_core.specs.declared.error.BsonErr.{BsonErr}
use Rattle.bson_core.specs.declared.error.BsonErr.TheVariants as fault
use Rattle.bson_core.specs.declared.kind.Leaf.{Leaf}
use Rattle.bson_core.specs.declared.kind.Leaf.TheVariants as leaf
use Rattle.bson_core.specs.declared.kind.Kind.{Kind}
use Rattle.bson_core.specs.declared.kind.Kind.TheVariants as kind
use Rattle.bson_core.specs.declared.value.Value.{Value}
use Rattle.bson_core.specs.Fields.{Document}
use Rattle.bson_core.specs.Kinds.{kind_of}
use Rattle.bson_core.specs.Reading.{Field, place, or_fault, number_at, count_at, fixed_at, cut_at}
use Rattle.bson_core.specs.Reading.{name_at, text_at, binary_at, object_id_at, flag_at, leaf_at}
use Rattle.bson_core.specs.Reading.{Reader, Nested, value_by, behind, element_at, elements_at}
use Rattle.bson_core.specs.Reading.{body_at, document_at, nested_at}

-- the bytes are those of the whole up to that place
record Stands (whole : List ℕ) (end : ℕ) (bytes : List ℕ) : Type 0 where
  inside : length bytes ≤ end
  within : end ≤ length whole
  same : (i : ℕ) → i < length bytes → get_or bytes i 0 ≡ get_or whole (end - length bytes + i) 0

stands_all : (whole : List ℕ) → Stands whole (length whole) whole
stands_all whole = record {
  inside = omega arith;
  within = omega arith;
  same = λ i lt. ap (λ (k : ℕ). get_or whole k 0) (omega arith);
}

stands_drop : (whole : List ℕ) (end n : ℕ) (bytes : List ℕ) → n ≤ length bytes
    → Stands whole end bytes → Stands whole end (drop n bytes)
stands_drop whole end n bytes le h = record {
  inside = omega (arith, length-drop n bytes, h.inside);
  within = h.within;
  same = λ i lt.
      let long : n + i < length bytes = omega (arith, length-drop n bytes, lt) in
      get_or-drop n bytes i 0 ∙ h.same (n + i) long
      ∙ ap (λ (k : ℕ). get_or whole k 0) (omega (arith, length-drop n bytes, h.inside));
}

stands_take : (whole : List ℕ) (end before n : ℕ) (bytes : List ℕ) → n ≤ length bytes
    → before ≡ end - length bytes + n → Stands whole end bytes → Stands whole before (take n bytes)
stands_take whole end before n bytes le is h = record {
  inside = omega (arith, length-take n bytes);
  within = omega (arith, h.inside, h.within);
  same = λ i lt.
      let short : i < n = omega (arith, length-take n bytes, lt) in
      get_or-take n bytes i 0 short ∙ h.same i (omega (arith, length-take n bytes, lt))
      ∙ ap (λ (k : ℕ). get_or whole k 0) (omega (arith, length-take n bytes, h.inside));
}

-- what is said of a fault inside a document
abbrev pub IsInside : List ℕ → BsonErr → Type 0
IsInside whole fault.Short = Unit {0}
IsInside whole (fault.Length at) = at ≤ length whole
IsInside whole (fault.Kind at byte) = (at < length whole) × (get_or whole at 0 ≡ byte)
    × (kind_of byte ≡ None)
IsInside whole (fault.Text at) = at ≤ length whole
IsInside whole (fault.Bool at) = (at < length whole) × (1 < get_or whole at 0)
IsInside whole (fault.Deep at) = at ≤ length whole
IsInside whole fault.TooLarge = ⊥
IsInside whole fault.Memory = ⊥

-- what was read, and the bytes after it, or such a fault
abbrev Sane : {A : Type 0} → List ℕ → ℕ → Field A → Type 0
Sane whole end (Ok x) = Stands whole end x.1
Sane whole end (Err e) = IsInside whole e

-- the same of what reads to the end
abbrev pub SaneEnd : {A : Type 0} → List ℕ → Result A BsonErr → Type 0
SaneEnd whole (Ok x) = Unit {0}
SaneEnd whole (Err e) = IsInside whole e

bound : {A B : Type 0} (whole : List ℕ) (end : ℕ) (r : Field A) (f : A × List ℕ → Field B)
    → Sane whole end r → ((x : A × List ℕ) → Stands whole end x.1 → Sane whole end (f x))
    → Sane whole end (r >>= f)
bound whole end (Ok x) f h next = next x h
bound whole end (Err e) f h next = h

tested : {A : Type 0} (whole : List ℕ) (end : ℕ) (b : Bool) (e : BsonErr) (r : Field A)
    → IsInside whole e → (b ≡ false → Sane whole end r) → Sane whole end (cond b (Err e) r)
tested whole end true e r there next = there
tested whole end false e r there next = next refl

held : {A : Type 0} (whole : List ℕ) (end : ℕ) (b : Bool) (e : BsonErr) (r : Field A)
    → IsInside whole e → (b ≡ true → Sane whole end r) → Sane whole end (cond b r (Err e))
held whole end true e r there next = next refl
held whole end false e r there next = there

-- where bytes stand, their place is one of the whole's
placed : (whole : List ℕ) (end : ℕ) (bytes : List ℕ) → Stands whole end bytes
    → place end bytes ≤ length whole
placed whole end bytes h = omega (arith, h.within)

-- Numbers, names and texts.

number_case : (whole : List ℕ) (end n m : ℕ) (bytes : List ℕ) (e : BsonErr) (b : Bool)
    → ltb (length bytes) n ≡ b → IsInside whole e → Stands whole end bytes
    → Sane {A = ℕ} whole end (or_fault e (cond b None (Some (m, drop n bytes))))
number_case whole end n m bytes e true is there h = there
number_case whole end n m bytes e false is there h =
    stands_drop whole end n bytes (ltb-false _ _ is) h

number_sane : (whole : List ℕ) (w : Width) (end : ℕ) (bytes : List ℕ) (e : BsonErr)
    → IsInside whole e → Stands whole end bytes
    → Sane {A = ℕ} whole end (or_fault e (number_at w bytes))
unfolding number_at
number_sane whole w end bytes e there h = number_case whole end (byte_len w) (from_le_bytes w
    (take (byte_len w) bytes)) bytes e (ltb (length bytes) (byte_len w)) refl there h

count_sane : (whole : List ℕ) (end : ℕ) (bytes : List ℕ) → Stands whole end bytes
    → Sane {A = ℕ} whole end (count_at end bytes)
unfolding count_at
count_sane whole end bytes h =
    number_sane whole w32 end bytes (fault.Length (place end bytes)) (placed whole end bytes h) h

cut_case : (whole : List ℕ) (end n : ℕ) (bytes : List ℕ) (b : Bool) → ltb n (length bytes) ≡ b
    → Stands whole end bytes → Sane {A = List ℕ} whole end (cut_at end (cond b (Some n) None) bytes)
cut_case whole end n bytes true is h =
    held whole end (is_utf8 (take n bytes)) (fault.Text (place end bytes))
    (Ok (take n bytes, drop (n + 1) bytes)) (placed whole end bytes h)
    (λ utf8. stands_drop whole end (n + 1) bytes (omega (arith, ltb-true n (length bytes) is)) h)
cut_case whole end n bytes false is h = tt

name_sane : (whole : List ℕ) (end : ℕ) (bytes : List ℕ) → Stands whole end bytes
    → Sane {A = List ℕ} whole end (name_at end bytes)
unfolding name_at
name_sane whole end bytes h = let n = position_or_len (λ b. eqb b 0) bytes in
    cut_case whole end n bytes (ltb n (length bytes)) refl h

text_sane : (whole : List ℕ) (end : ℕ) (bytes : List ℕ) → Stands whole end bytes
    → Sane {A = List ℕ} whole end (text_at end bytes)
unfolding text_at
text_sane whole end bytes h =
    bound whole end (count_at end bytes) _ (count_sane whole end bytes h) (λ n more.
    tested whole end (eqb n.0 0) _ _ (placed whole end bytes h) (λ some.
    tested whole end (ltb (length n.1) n.0) _ _ (placed whole end bytes h) (λ long.
    held whole end (eqb (get_or n.1 (n.0 - 1) 0) 0) _ _ (placed whole end n.1 more) (λ last.
    held whole end (is_utf8 (take (n.0 - 1) n.1)) _ _ (placed whole end n.1 more) (λ utf8.
    stands_drop whole end n.0 n.1 (ltb-false _ _ long) more)))))

binary_sane : (whole : List ℕ) (end : ℕ) (bytes : List ℕ) → Stands whole end bytes
    → Sane whole end (binary_at end bytes)
unfolding binary_at
binary_sane whole end bytes h =
    bound whole end (count_at end bytes) _ (count_sane whole end bytes h) (λ n more.
    tested whole end (ltb (length n.1) (n.0 + 1)) _ _ (placed whole end bytes h)
    (λ long. stands_drop whole end (n.0 + 1) n.1 (ltb-false _ _ long) more))

object_id_sane : (whole : List ℕ) (end : ℕ) (bytes : List ℕ) → Stands whole end bytes
    → Sane whole end (object_id_at bytes)
unfolding object_id_at
object_id_sane whole end bytes h =
    tested whole end (ltb (length bytes) 12) fault.Short (Ok (take 12 bytes, drop 12 bytes)) tt
    (λ long. stands_drop whole end 12 bytes (ltb-false _ _ long) h)

-- the byte that is first
first_is : (whole : List ℕ) (end b : ℕ) (bytes : List ℕ) → Stands whole end (b ∷ bytes)
    → get_or whole (place end (b ∷ bytes)) 0 ≡ b
first_is whole end b bytes h = ap (λ (k : ℕ). get_or whole k 0) (omega arith)
    ∙ sym (h.same 0 (omega arith))

first_within : (whole : List ℕ) (end b : ℕ) (bytes : List ℕ) → Stands whole end (b ∷ bytes)
    → place end (b ∷ bytes) < length whole
first_within whole end b bytes h = omega (arith, h.inside, h.within)

flag_case : (whole : List ℕ) (end b : ℕ) (bytes : List ℕ) (none one : Bool) → eqb b 0 ≡ none
    → eqb b 1 ≡ one → Stands whole end (b ∷ bytes) → Stands whole end bytes
    → Sane {A = Bool} whole end (cond none (Ok (false, bytes))
    (cond one (Ok (true, bytes)) (Err (fault.Bool (place end (b ∷ bytes))))))
flag_case whole end b bytes true one is_none is_one h behind = behind
flag_case whole end b bytes false true is_none is_one h behind = behind
flag_case whole end b bytes false false is_none is_one h behind =
    let above : 1 < b = omega (arith, eqb-false b 0 is_none, eqb-false b 1 is_one) in
    (first_within whole end b bytes h, omega (arith, above, first_is whole end b bytes h))

flag_sane : (whole : List ℕ) (end : ℕ) (bytes : List ℕ) → Stands whole end bytes
    → Sane whole end (flag_at end bytes)
unfolding flag_at
flag_sane whole end [] h = tt
flag_sane whole end (b ∷ bytes) h = flag_case whole end b bytes (eqb b 0) (eqb b 1) refl refl h
    (stands_drop whole end 1 (b ∷ bytes) (omega arith) h)

-- Values.

made : {A : Type 0} (whole : List ℕ) (end : ℕ) (make : A → Value) (r : Field A) → Sane whole end r
    → Sane whole end (r >>= λ x. Ok (make x.0, x.1))
made whole end make (Ok x) h = h
made whole end make (Err e) h = h

leaf_sane : (whole : List ℕ) (l : Leaf) (end : ℕ) (bytes : List ℕ) → Stands whole end bytes
    → Sane whole end (leaf_at l end bytes)
unfolding leaf_at
leaf_sane whole leaf.Text end bytes h =
    made whole end _ (text_at end bytes) (text_sane whole end bytes h)
leaf_sane whole leaf.Bin end bytes h =
    made whole end _ (binary_at end bytes) (binary_sane whole end bytes h)
leaf_sane whole leaf.Oid end bytes h =
    made whole end _ (object_id_at bytes) (object_id_sane whole end bytes h)
leaf_sane whole leaf.Bool end bytes h =
    made whole end _ (flag_at end bytes) (flag_sane whole end bytes h)
leaf_sane whole leaf.Date end bytes h =
    made whole end _ (fixed_at w64 bytes) (number_sane whole w64 end bytes fault.Short tt h)
leaf_sane whole leaf.Null end bytes h = h
leaf_sane whole leaf.Int end bytes h =
    made whole end _ (fixed_at w32 bytes) (number_sane whole w32 end bytes fault.Short tt h)
leaf_sane whole leaf.Stamp end bytes h =
    made whole end _ (fixed_at w64 bytes) (number_sane whole w64 end bytes fault.Short tt h)
leaf_sane whole leaf.Long end bytes h =
    made whole end _ (fixed_at w64 bytes) (number_sane whole w64 end bytes fault.Short tt h)

abbrev ReadsSanely : List ℕ → Reader → Type 0
ReadsSanely whole read = (k : Kind) (end : ℕ) (bytes : List ℕ) → Stands whole end bytes
    → Sane whole end (read k end bytes)

abbrev NestsSanely : List ℕ → Nested → Type 0
NestsSanely whole nested = (end : ℕ) (bytes : List ℕ) → Stands whole end bytes
    → Sane whole end (nested end bytes)

value_sane : (whole : List ℕ) (nested : Nested) → NestsSanely whole nested
    → ReadsSanely whole (value_by nested)
unfolding value_by
value_sane whole nested each kind.Doc end bytes h =
    made whole end _ (nested end bytes) (each end bytes h)
value_sane whole nested each kind.List end bytes h =
    made whole end _ (nested end bytes) (each end bytes h)
value_sane whole nested each (kind.Leaf l) end bytes h = leaf_sane whole l end bytes h

-- Elements.

abbrev SaneElement : List ℕ → ℕ → Result (Option ((List ℕ × Value) × List ℕ)) BsonErr → Type 0
SaneElement whole end (Ok None) = Unit {0}
SaneElement whole end (Ok (Some x)) = Stands whole end x.1
SaneElement whole end (Err e) = IsInside whole e

element_value : (whole : List ℕ) (end : ℕ) (name : List ℕ) (r : Field Value) → Sane whole end r
    → SaneElement whole end (r >>= λ value. Ok (Some ((name, value.0), value.1)))
element_value whole end name (Ok x) h = h
element_value whole end name (Err e) h = h

element_name : (whole : List ℕ) (read : Reader) (k : Kind) (end : ℕ) (r : Field (List ℕ))
    → ReadsSanely whole read → Sane whole end r → SaneElement whole end (r
    >>= λ name. read k end name.1 >>= λ value. Ok (Some ((name.0, value.0), value.1)))
element_name whole read k end (Ok x) each h =
    element_value whole end x.0 (read k end x.1) (each k end x.1 h)
element_name whole read k end (Err e) each h = h

element_kind : (whole : List ℕ) (read : Reader) (end byte : ℕ) (bytes : List ℕ) (o : Option Kind)
    → kind_of byte ≡ o → ReadsSanely whole read → Stands whole end (byte ∷ bytes)
    → SaneElement whole end
    (or_fault (fault.Kind (place end (byte ∷ bytes)) byte) o >>= λ k. name_at end bytes
    >>= λ name. read k end name.1 >>= λ value. Ok (Some ((name.0, value.0), value.1)))
element_kind whole read end byte bytes (Some k) is each h =
    element_name whole read k end (name_at end bytes) each (name_sane whole end bytes
    (stands_drop whole end 1 (byte ∷ bytes) (omega arith) h))
element_kind whole read end byte bytes None is each h =
    (first_within whole end byte bytes h, first_is whole end byte bytes h, is)

element_case : (whole : List ℕ) (end start : ℕ) (b : Bool)
    (r : Result (Option ((List ℕ × Value) × List ℕ)) BsonErr) → start ≤ length whole
    → SaneElement whole end r → SaneElement whole end (cond b (Err (fault.Length start)) r)
element_case whole end start true r le h = le
element_case whole end start false r le h = h

element_sane : (whole : List ℕ) (read : Reader) (start end : ℕ) (bytes : List ℕ)
    → ReadsSanely whole read → start ≤ length whole → Stands whole end bytes
    → SaneElement whole end (element_at read start end bytes)
unfolding element_at
element_sane whole read start end [] each le h = tt
element_sane whole read start end (byte ∷ bytes) each le h = element_case whole end start (eqb byte
    0) _ le (element_kind whole read end byte bytes (kind_of byte) refl each h)

one_more : (whole : List ℕ) (x : List ℕ × Value) (r : Result Document BsonErr) → SaneEnd whole r
    → SaneEnd whole (r >>= λ fields. Ok (x ∷ fields))
one_more whole x (Ok fields) h = tt
one_more whole x (Err e) h = h

elements_more : (whole : List ℕ) (end : ℕ) (next : List ℕ → Result Document BsonErr)
    (r : Result (Option ((List ℕ × Value) × List ℕ)) BsonErr) → SaneElement whole end r
    → ((bytes : List ℕ) → Stands whole end bytes → SaneEnd whole (next bytes))
    → SaneEnd whole (r >>= λ o. behind next o)
elements_more whole end next (Ok None) h more = tt
elements_more whole end next (Ok (Some x)) h more = one_more whole x.0 (next x.1) (more x.1 h)
elements_more whole end next (Err e) h more = h

elements_sane : (whole : List ℕ) (read : Reader) (start end n : ℕ) (bytes : List ℕ)
    → ReadsSanely whole read → start ≤ length whole → Stands whole end bytes
    → SaneEnd whole (elements_at read start end n bytes)
unfolding elements_at
elements_sane whole read start end zero bytes each le h = le
elements_sane whole read start end (suc n) bytes each le h =
    elements_more whole end (elements_at read start end n) (element_at read start end bytes)
    (element_sane whole read start end bytes each le h)
    (λ rest stands. elements_sane whole read start end n rest each le stands)

-- Documents.

last_case : (whole : List ℕ) (start last : ℕ) (r : Result Document BsonErr)
    → start ≤ length whole → SaneEnd whole r
    → SaneEnd whole (r >>= λ fields. cond (eqb last 0) (Ok fields) (Err (fault.Length start)))
last_case whole start last (Ok fields) le h = go (eqb last 0)
  where
    go : (b : Bool) → SaneEnd {A = Document} whole (cond b (Ok fields) (Err (fault.Length start)))
    go true = tt
    go false = le
last_case whole start last (Err e) le h = h

body_sane : (whole : List ℕ) (read : Reader) (start end : ℕ) (inside : List ℕ) (last : ℕ)
    → ReadsSanely whole read → start ≤ length whole → Stands whole end inside
    → SaneEnd whole (body_at read start end inside last)
unfolding body_at
body_sane whole read start end inside last each le h =
    last_case whole start last (elements_at read start end (length inside + 1) inside) le
    (elements_sane whole read start end (length inside + 1) inside each le h)

document_end : (whole : List ℕ) (end : ℕ) (after : List ℕ) (r : Result Document BsonErr)
    → Stands whole end after → SaneEnd whole r → Sane whole end (r >>= λ fields. Ok (fields, after))
document_end whole end after (Ok fields) stands h = stands
document_end whole end after (Err e) stands h = h

document_sane : (whole : List ℕ) (read : Reader) → ReadsSanely whole read
    → NestsSanely whole (document_at read)
unfolding document_at
document_sane whole read each end bytes h =
    bound whole end (count_at end bytes) _ (count_sane whole end bytes h) (λ n more.
    tested whole end (ltb n.0 5) _ _ (placed whole end bytes h) (λ five.
    tested whole end (ltb (length n.1) (n.0 - 4)) _ _ (placed whole end bytes h) (λ long.
    let after : Stands whole end (drop (n.0 - 4) n.1) =
    stands_drop whole end (n.0 - 4) n.1 (ltb-false _ _ long) more in
    let room : n.0 - 4 ≤ length n.1 = ltb-false _ _ long in
    let some : 5 ≤ n.0 = ltb-false _ _ five in
    let before : place end (drop (n.0 - 4) n.1) - 1 ≡ end - length n.1 + (n.0 - 5) =
    omega (arith, length-drop (n.0 - 4) n.1, more.inside) in
    document_end whole end (drop (n.0 - 4) n.1) (body_at read (place end bytes)
    (place end (drop (n.0 - 4) n.1) - 1) (take (n.0 - 5) n.1) (get_or n.1 (n.0 - 5) 0)) after
    (body_sane whole read (place end bytes) (place end (drop (n.0 - 4) n.1) - 1)
    (take (n.0 - 5) n.1) (get_or n.1 (n.0 - 5) 0) each (placed whole end bytes h)
    (stands_take whole end (place end (drop (n.0 - 4) n.1) - 1) (n.0 - 5) n.1 (omega arith)
    before more)))))

nested_sane : (whole : List ℕ) (levels : ℕ) → NestsSanely whole (nested_at levels)
unfolding nested_at
nested_sane whole zero end bytes h = placed whole end bytes h
nested_sane whole (suc levels) end bytes h = document_sane whole (value_by (nested_at levels))
    (value_sane whole (nested_at levels) (nested_sane whole levels)) end bytes h

alone : (whole : List ℕ) (r : Field Document) → Sane whole (length whole) r
    → SaneEnd whole (r >>= λ x. Ok x.0)
alone whole (Ok x) h = tt
alone whole (Err e) h = h

-- what is read of a document that is all of the bytes
pub whole_sane : (levels : ℕ) (bytes : List ℕ)
    → SaneEnd bytes (nested_at levels (length bytes) bytes >>= λ x. Ok x.0)
whole_sane levels bytes = alone bytes (nested_at levels (length bytes) bytes) (nested_sane bytes
    levels (length bytes) bytes (stands_all bytes))
