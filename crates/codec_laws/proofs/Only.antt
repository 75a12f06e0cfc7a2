-- What is told of a document's elements is their first fault.
use Rattle.std.proofs.Common.{◌≡◌, ◌≢◌, ◌⊎◌, inl, inr, ℕ, zero, suc, ◌-◌, ◌+◌, ◌≤◌, ◌<◌, Bool, true}
use Rattle.std.proofs.Common.{false, cond, eqb, ltb, List, [], ◌∷◌, ◌++◌, length, get_or, take}
use Rattle.std.proofs.Common.{drop, Option, Some, None, is_some, Result, Ok, Err, refl, sym, ap}
use Rattle.std.proofs.Common.{subst, ◌∙◌, append_assoc, arith}
use Rattle.std.specs.Int.{Width, w32, w64, byte_len, from_le_bytes, to_le_bytes}
use Rattle.std.specs.Str.{is_utf8}
use Rattle.std.specs.List.{position_or_len}
use Rattle.std.proofs.Math.Seq.{drop-cons}
use Rattle.std.proofs.lemmas.Bool.{ltb-false, ltb-true, eqb-true, eqb-false}
use Rattle.std.proofs.lemmas.List.{length-append, length-take, length-drop, take-append-drop}
use Rattle.std.proofs.lemmas.List.{append-nil}
use Rattle.std.proofs.lemmas.List.Sums.{passes_at_first}
use Rattle.outcomes.specs.Bind.{◌>>=◌}
use Rattle.outcomes.proofs.Binding.{bind_ok, passed, ok_is}
use Rattle.bson_core.specs.declared.error.BsonErr.{BsonErr}
use Rattle.bson_core.specs.declared.error.BsonErr.TheVariants as fault
use Rattle.bson_core.specs.declared.kind.Kind.{Kind}
use Rattle.bson_core.specs.declared.kind.Kind.TheVariants as kinds
use Rattle.bson_core.specs.declared.kind.Leaf.{Leaf}
use Rattle.bson_core.specs.declared.kind.Leaf.TheVariants as leaf
use Rattle.bson_core.specs.declared.value.Value.{Value}
use Rattle.bson_core.specs.Fields.{Document}
use Rattle.bson_core.specs.Grammar.{ReadsAt, ReadsElements}
use Rattle.bson_core.specs.Kinds.{kind_of, kind_byte, leaf_byte}
use Rattle.bson_core.specs.Names.{has_no_zero, IsName}
use Rattle.bson_core.specs.Reading.{Field, place, or_fault, number_at, count_at, fixed_at, cut_at}
use Rattle.bson_core.specs.Reading.{name_at, text_at, binary_at, object_id_at, flag_at, leaf_at}
use Rattle.bson_core.specs.Reading.{Reader, value_by, element_at, elements_at, body_at, document_at}
use Rattle.bson_core.specs.Reading.{nested_at}
use Rattle.bson_core.proofs.Names.{no_zero_before}
use Rattle.bson_core.proofs.TypeBytes.{kind_found}
use Rattle.bson_core.proofs.Again.{none_again}
use Rattle.bson_core.proofs.Sound.{IsInput, input-drop, input-take, no_fault, Is32, number32}
use Rattle.bson_core.proofs.Sound.{name_found, IsSound, value_found}
use Rattle.codec_laws.specs.First.{headed, IsNoKind, IsEarlyEnd, IsNoName, HasWidth, oid, truth}
use Rattle.codec_laws.specs.First.{moment, int, stamp, long, IsWrongCount, text_none, text_past}
use Rattle.codec_laws.specs.First.{binary_past, IsNoValue, IsAtHead, Nests, HasWrongCount, Holds}
use Rattle.codec_laws.specs.First.{Behind, IsWrongEnd, IsFirst}
use Rattle.codec_laws.proofs.Firsts.{Deepest, Higher}

-- Steps that told a fault.

err_bound : {A B : Type 0} (r : Result A BsonErr) (f : A → Result B BsonErr) (e : BsonErr)
    → (r >>= f) ≡ Err e → (r ≡ Err e) ⊎ ((x : A) × (r ≡ Ok x) × (f x ≡ Err e))
err_bound (Ok x) f e h = inr (x, refl, h)
err_bound (Err d) f e h = inl (let same : d ≡ e = cc in ap (λ (x : BsonErr). Err x) same)

pub err_test : {A : Type 0} (b : Bool) (d : BsonErr) (r : Result A BsonErr) (e : BsonErr)
    → cond b (Err d) r ≡ Err e → ((b ≡ true) × (d ≡ e)) ⊎ ((b ≡ false) × (r ≡ Err e))
err_test true d r e h = inl (refl, cc)
err_test false d r e h = inr (refl, h)

pub err_held : {A : Type 0} (b : Bool) (d : BsonErr) (r : Result A BsonErr) (e : BsonErr)
    → cond b r (Err d) ≡ Err e → ((b ≡ true) × (r ≡ Err e)) ⊎ ((b ≡ false) × (d ≡ e))
err_held true d r e h = inl (refl, h)
err_held false d r e h = inr (refl, cc)

no_err : {A : Type 0} (x : A) (e : BsonErr) → ◌≡◌ {A = Result A BsonErr} (Ok x) (Err e) → ⊥
no_err x e h = cc

pub made_err : {A B : Type 0} (r : Result A BsonErr) (f : A → B) (e : BsonErr)
    → (r >>= λ x. Ok (f x)) ≡ Err e → r ≡ Err e
made_err (Ok x) f e h = absurd cc
made_err (Err d) f e h = let same : d ≡ e = cc in ap (λ (x : BsonErr). Err x) same

-- Numbers.

number_case : {A : Type 0} (b : Bool) (x : A) (d e : BsonErr)
    → or_fault d (cond b None (Some x)) ≡ Err e → (b ≡ true) × (d ≡ e)
number_case true x d e h = (refl, cc)
number_case false x d e h = absurd cc

number_err : (w : Width) (bytes : List ℕ) (d e : BsonErr) → or_fault d (number_at w bytes) ≡ Err e
    → (length bytes < byte_len w) × (d ≡ e)
unfolding number_at
number_err w bytes d e h =
    let g = number_case (ltb (length bytes) (byte_len w))
    (from_le_bytes w (take (byte_len w) bytes), drop (byte_len w) bytes) d e h in
    (ltb-true _ _ g.0, g.1)

count_err : (end : ℕ) (bytes : List ℕ) (e : BsonErr) → count_at end bytes ≡ Err e
    → (length bytes < 4) × (fault.Length (place end bytes) ≡ e)
unfolding count_at
count_err end bytes e h = number_err w32 bytes (fault.Length (place end bytes)) e h

count_ok : (end : ℕ) (bytes : List ℕ) (x : ℕ × List ℕ) → IsInput bytes → count_at end bytes ≡ Ok x
    → Is32 bytes x
unfolding count_at
count_ok end bytes x h e =
    number32 bytes x h (no_fault (fault.Length (place end bytes)) (number_at w32 bytes) x e)

-- what stands at a place, in front of it and after it
split_at : (rest : List ℕ) (n m : ℕ) → m ≡ n + 1 → n < length rest
    → rest ≡ take n rest ++ get_or rest n 0 ∷ drop m rest
split_at rest n m is lt =
    let next : suc n ≡ m = omega arith in
    sym (take-append-drop n rest) ∙ ap (λ (l : List ℕ). take n rest ++ l) (drop-cons rest n 0 lt
    ∙ ap (λ (k : ℕ). get_or rest n 0 ∷ drop k rest) next)

-- Texts.

text_wrong : (end n : ℕ) (rest bytes : List ℕ) → Is32 bytes (n, rest) → length bytes ≤ end → (n ≢ 0)
    → n ≤ length rest → ((get_or rest (n - 1) 0 ≢ 0) ⊎ (is_utf8 (take (n - 1) rest) ≡ false))
    → IsNoValue 2 (place end bytes) bytes (fault.Text (place end rest))
text_wrong end n rest bytes is le some room wrong =
    let t = take (n - 1) rest in
    let len : length t + 1 ≡ n = omega (arith, length-take (n - 1) rest, some) in
    let parts : rest ≡ t ++ get_or rest (n - 1) 0 ∷ drop n rest =
    split_at rest (n - 1) n (omega (arith, some)) (omega (arith, some)) in
    let whole : bytes ≡ to_le_bytes w32 (length t + 1) ++ (t ++ get_or rest (n - 1) 0
    ∷ drop n rest) = is.0 ∙ (λ i. to_le_bytes w32 (sym len i) ++ parts i) in (
      refl,
      omega (arith, is.3, le),
      (t, get_or rest (n - 1) 0, drop n rest, whole, omega (arith, len, is.2), wrong),
    )

text_counted : (end n : ℕ) (rest bytes : List ℕ) (e : BsonErr) → Is32 bytes (n, rest)
    → length bytes ≤ end
    → ◌≡◌ {A = Field (List ℕ)} (cond (eqb n 0) (Err (fault.Length (place end bytes)))
    (cond (ltb (length rest) n) (Err (fault.Length (place end bytes))) (cond (eqb (get_or rest
    (n - 1) 0) 0) (cond (is_utf8 (take (n - 1) rest)) (Ok (take (n - 1) rest, drop n rest))
    (Err (fault.Text (place end rest)))) (Err (fault.Text (place end rest)))))) (Err e)
    → IsNoValue 2 (place end bytes) bytes e
text_counted end n rest bytes e is le failed =
    elim (err_test (eqb n 0) (fault.Length (place end bytes)) _ e failed) [
      | inl none ↦ subst (IsNoValue 2 (place end bytes) bytes) none.1 (
        refl,
        inr (
          n,
          rest,
          is.0,
          is.2,
          subst (λ (m : ℕ). IsWrongCount 2 m (length rest)) (sym (eqb-true n 0 none.0)) text_none,
        ),
      )
      | inr some ↦
          elim (err_test (ltb (length rest) n) (fault.Length (place end bytes)) _ e some.1) [
            | inl past ↦ subst (IsNoValue 2 (place end bytes) bytes) past.1
                (refl, inr (n, rest, is.0, is.2, text_past (ltb-true _ _ past.0)))
            | inr within ↦
                elim (err_held (eqb (get_or rest (n - 1) 0) 0) (fault.Text (place end rest)) _
                e within.1) [
                  | inr last ↦ subst (IsNoValue 2 (place end bytes) bytes) last.1
                      (text_wrong end n rest bytes is le (eqb-false n 0 some.0)
                      (ltb-false _ _ within.0)
                      (inl (eqb-false (get_or rest (n - 1) 0) 0 last.0)))
                  | inl ended ↦
                      elim (err_held (is_utf8 (take (n - 1) rest)) (fault.Text (place end rest))
                      (Ok (take (n - 1) rest, drop n rest)) e ended.1) [
                        | inl good ↦ absurd (no_err (take (n - 1) rest, drop n rest) e good.1)
                        | inr bad ↦ subst (IsNoValue 2 (place end bytes) bytes) bad.1
                            (text_wrong end n rest bytes
                            is le (eqb-false n 0 some.0) (ltb-false _ _ within.0) (inr bad.0))
                      ]
                ]
          ]
    ]

text_err : (end : ℕ) (bytes : List ℕ) (e : BsonErr) → IsInput bytes → length bytes ≤ end
    → text_at end bytes ≡ Err e → IsNoValue 2 (place end bytes) bytes e
unfolding text_at
text_err end bytes e input le failed = elim (err_bound (count_at end bytes) _ e failed) [
  | inl cut ↦ let g = count_err end bytes e cut in
      subst (IsNoValue 2 (place end bytes) bytes) g.1 (refl, inl (inl refl, g.0))
  | inr counted ↦ text_counted end counted.0.0 counted.0.1 bytes e
      (count_ok end bytes counted.0 input counted.1) le counted.2
]

-- Binaries, object ids and truth values.

binary_err : (end : ℕ) (bytes : List ℕ) (e : BsonErr) → IsInput bytes → binary_at end bytes ≡ Err e
    → IsNoValue 5 (place end bytes) bytes e
unfolding binary_at
binary_err end bytes e input failed = elim (err_bound (count_at end bytes) _ e failed) [
  | inl cut ↦ let g = count_err end bytes e cut in
      subst (IsNoValue 5 (place end bytes) bytes) g.1 (refl, inl (inr refl, g.0))
  | inr counted ↦
      let n = counted.0.0 in
      let rest = counted.0.1 in
      let is = count_ok end bytes counted.0 input counted.1 in
      elim (err_test (ltb (length rest) (n + 1)) (fault.Length (place end bytes)) _ e counted.2) [
        | inl past ↦ subst (IsNoValue 5 (place end bytes) bytes) past.1
            (refl, inr (n, rest, is.0, is.2, binary_past (ltb-true _ _ past.0)))
        | inr within ↦ absurd (no_err _ e within.1)
      ]
]

object_id_err : (p : ℕ) (bytes : List ℕ) (e : BsonErr) → object_id_at bytes ≡ Err e
    → IsNoValue 7 p bytes e
unfolding object_id_at
object_id_err p bytes e failed = elim (err_test (ltb (length bytes) 12) fault.Short
    (Ok (take 12 bytes, drop 12 bytes)) e failed) [
      | inl cut ↦ subst (IsNoValue 7 p bytes) cut.1 (12, oid, ltb-true _ _ cut.0)
      | inr within ↦ absurd (no_err (take 12 bytes, drop 12 bytes) e within.1)
    ]

flag_case : (p b : ℕ) (bytes : List ℕ) (none one : Bool) (e : BsonErr) → eqb b 0 ≡ none
    → eqb b 1 ≡ one → ◌≡◌ {A = Field Bool} (cond none (Ok (false, bytes))
    (cond one (Ok (true, bytes)) (Err (fault.Bool p)))) (Err e) → IsNoValue 8 p (b ∷ bytes) e
flag_case p b bytes true one e is_none is_one failed = absurd (no_err (false, bytes) e failed)
flag_case p b bytes false true e is_none is_one failed = absurd (no_err (true, bytes) e failed)
flag_case p b bytes false false e is_none is_one failed =
    let same : fault.Bool p ≡ e = cc in
    subst (IsNoValue 8 p (b ∷ bytes)) same
    (refl, refl, (b, bytes, refl, omega (arith, eqb-false b 0 is_none, eqb-false b 1 is_one)))

flag_err : (end : ℕ) (bytes : List ℕ) (e : BsonErr) → flag_at end bytes ≡ Err e
    → IsNoValue 8 (place end bytes) bytes e
unfolding flag_at
flag_err end [] e failed = let same : fault.Short ≡ e = cc in
    subst (IsNoValue 8 (place end []) []) same (1, truth, omega arith)
flag_err end (b ∷ bytes) e failed =
    flag_case (place end (b ∷ bytes)) b bytes (eqb b 0) (eqb b 1) e refl refl failed

-- Values that hold no others.

fixed_err : (w : Width) (kind width p : ℕ) (bytes : List ℕ) (e : BsonErr) → byte_len w ≡ width
    → HasWidth kind width → fixed_at w bytes ≡ Err e → IsNoValue kind p bytes e
fixed_err w kind width p bytes e is has failed =
    let g = number_err w bytes fault.Short e failed in
    subst (IsNoValue kind p bytes) g.1 (width, has, subst (λ (n : ℕ). length bytes < n) is g.0)

leaf_err : (l : Leaf) (end : ℕ) (bytes : List ℕ) (e : BsonErr) → IsInput bytes → length bytes ≤ end
    → leaf_at l end bytes ≡ Err e → IsNoValue (leaf_byte l) (place end bytes) bytes e
unfolding leaf_at
leaf_err leaf.Text end bytes e input le failed =
    text_err end bytes e input le (made_err (text_at end bytes) _ e failed)
leaf_err leaf.Bin end bytes e input le failed =
    binary_err end bytes e input (made_err (binary_at end bytes) _ e failed)
leaf_err leaf.Oid end bytes e input le failed =
    object_id_err (place end bytes) bytes e (made_err (object_id_at bytes) _ e failed)
leaf_err leaf.Bool end bytes e input le failed =
    flag_err end bytes e (made_err (flag_at end bytes) _ e failed)
leaf_err leaf.Date end bytes e input le failed = fixed_err w64 9 8 (place end bytes) bytes e refl
    moment (made_err (fixed_at w64 bytes) _ e failed)
leaf_err leaf.Null end bytes e input le failed = absurd (no_err _ e failed)
leaf_err leaf.Int end bytes e input le failed =
    fixed_err w32 16 4 (place end bytes) bytes e refl int (made_err (fixed_at w32 bytes) _ e failed)
leaf_err leaf.Stamp end bytes e input le failed = fixed_err w64 17 8 (place end bytes) bytes e refl
    stamp (made_err (fixed_at w64 bytes) _ e failed)
leaf_err leaf.Long end bytes e input le failed = fixed_err w64 18 8 (place end bytes) bytes e refl
    long (made_err (fixed_at w64 bytes) _ e failed)

-- Names.

none_in : (bytes : List ℕ) → length bytes ≤ position_or_len (λ b. eqb b 0) bytes
    → has_no_zero bytes ≡ true
none_in bytes le =
    let n = position_or_len (λ b. eqb b 0) bytes in
    let all : take n bytes ≡ bytes = sym (append-nil (take n bytes))
    ∙ ap (λ (l : List ℕ). take n bytes ++ l) (sym (nothing n bytes le))
    ∙ take-append-drop n bytes in
    subst (λ (l : List ℕ). has_no_zero l ≡ true) all (no_zero_before bytes)
  where
    empty : (l : List ℕ) → length l ≡ 0 → l ≡ []
    empty [] h = refl
    empty (x ∷ l) h = absurd (omega arith)

    nothing : (n : ℕ) (bytes : List ℕ) → length bytes ≤ n → drop n bytes ≡ []
    nothing n bytes le = empty (drop n bytes) (omega (arith, length-drop n bytes))

cut_err : (end kind n : ℕ) (bytes : List ℕ) (b : Bool) (e : BsonErr)
    → n ≡ position_or_len (λ b. eqb b 0) bytes → ltb n (length bytes) ≡ b → is_some (kind_of kind)
    ≡ true → length (kind ∷ bytes) ≤ end → cut_at end (cond b (Some n) None) bytes ≡ Err e
    → IsNoName (place end (kind ∷ bytes)) (kind ∷ bytes) e
cut_err end kind n bytes true e is there known le failed = elim (err_held (is_utf8 (take n bytes))
    (fault.Text (place end bytes)) (Ok (take n bytes, drop (n + 1) bytes)) e failed) [
      | inl good ↦ absurd (no_err (take n bytes, drop (n + 1) bytes) e good.1)
      | inr bad ↦
          let lt : n < length bytes = ltb-true _ _ there in
          let zero_there : get_or bytes n 0 ≡ 0 = ap (λ (k : ℕ). get_or bytes k 0) is ∙ eqb-true _ _
          (passes_at_first (λ b. eqb b 0) bytes 0 (subst (λ (k : ℕ). k < length bytes) is lt)) in
          let parts : bytes ≡ take n bytes ++ 0 ∷ drop (n + 1) bytes =
          split_at bytes n (n + 1) refl lt
          ∙ ap (λ (z : ℕ). take n bytes ++ z ∷ drop (n + 1) bytes) zero_there in
          let clear : has_no_zero (take n bytes) ≡ true =
          subst (λ (k : ℕ). has_no_zero (take k bytes) ≡ true) (sym is) (no_zero_before bytes) in
          subst (IsNoName (place end (kind ∷ bytes)) (kind ∷ bytes)) bad.1 (
            kind,
            take n bytes,
            drop (n + 1) bytes,
            ap (λ (l : List ℕ). kind ∷ l) parts,
            known,
            clear,
            bad.0,
            omega (arith, le),
          )
    ]
cut_err end kind n bytes false e is there known le failed =
    let same : fault.Short ≡ e = cc in
    subst (IsNoName (place end (kind ∷ bytes)) (kind ∷ bytes)) same (
      kind,
      bytes,
      refl,
      known,
      none_in bytes (subst (λ (k : ℕ). length bytes ≤ k) is (ltb-false _ _ there)),
    )

name_err : (end kind : ℕ) (bytes : List ℕ) (e : BsonErr) → is_some (kind_of kind) ≡ true
    → length (kind ∷ bytes) ≤ end → name_at end bytes ≡ Err e
    → IsNoName (place end (kind ∷ bytes)) (kind ∷ bytes) e
unfolding name_at
name_err end kind bytes e known le failed = let n = position_or_len (λ b. eqb b 0) bytes in
    cut_err end kind n bytes (ltb n (length bytes)) e refl refl known le failed

-- Elements.

abbrev FoundElement : ℕ → List ℕ → (List ℕ × Value) × List ℕ → Type 0
FoundElement levels bytes x = (byte : ℕ) × (value : List ℕ) × ReadsAt levels x.0.1 byte value
    × IsName x.0.0 × (bytes ≡ (byte ∷ x.0.0 ++ 0 ∷ value) ++ x.1) × IsInput x.1

joined : (byte : ℕ) (bytes name after value rest : List ℕ) → bytes ≡ name ++ 0 ∷ after
    → after ≡ value ++ rest → byte ∷ bytes ≡ (byte ∷ name ++ 0 ∷ value) ++ rest
joined byte bytes name after value rest p q =
    ap (λ (x : List ℕ). byte ∷ x) (p ∙ ap (λ (x : List ℕ). name ++ 0 ∷ x) q) ∙ simp append_assoc

element_found : (levels : ℕ) (read : Reader) → IsSound levels read
    → (start end byte : ℕ) (bytes : List ℕ) (o : Option ((List ℕ × Value) × List ℕ))
    → IsInput (byte ∷ bytes) → element_at read start end (byte ∷ bytes) ≡ Ok o
    → (x : (List ℕ × Value) × List ℕ) × (o ≡ Some x) × FoundElement levels (byte ∷ bytes) x
unfolding element_at
element_found levels read sound start end byte bytes o h e =
    let g = passed (eqb byte 0) (fault.Length start) _ o e in
    let k =
    bind_ok (or_fault (fault.Kind (place end (byte ∷ bytes)) byte) (kind_of byte)) _ o g.1 in
    let a = bind_ok (name_at end bytes) _ o k.2 in
    let b = bind_ok (read k.0 end a.0.1) _ o a.2 in
    let is : kind_byte k.0 ≡ byte = kind_found byte k.0
    (no_fault (fault.Kind (place end (byte ∷ bytes)) byte) (kind_of byte) k.0 k.1) in
    let name = name_found end bytes a.0 (input-drop 1 (byte ∷ bytes) h) a.1 in
    let value = sound k.0 end a.0.1 b.0 name.2 b.1 in (
      ((a.0.0, b.0.0), b.0.1),
      sym (ok_is (Some ((a.0.0, b.0.0), b.0.1)) o b.2),
      (
        byte,
        value.0,
        subst (λ (n : ℕ). ReadsAt levels b.0.0 n value.0) is value.1,
        name.1,
        joined byte bytes a.0.0 a.0.1 value.0 b.0.1 name.0 value.2,
        value.3,
      ),
    )

-- what may stand after well-formed elements, by the levels that are left
abbrev There : ℕ → BsonErr → ℕ → ℕ → List ℕ → Type 0
There zero e start = Deepest e start
There (suc levels) e start = Higher levels e start

-- what a nested document's fault is
abbrev NestFails : ℕ → Type 0
NestFails levels = (start end : ℕ) (bytes : List ℕ) (e : BsonErr) (kind : ℕ) (name value : List ℕ)
    → Nests kind → IsName name → bytes ≡ headed kind name value → length bytes ≤ end → IsInput value
    → nested_at levels end value ≡ Err e → There levels e start (place end bytes) bytes

kind_known : (byte : ℕ) (k : Kind) → kind_of byte ≡ Some k → is_some (kind_of byte) ≡ true
kind_known byte k is = ap (λ (o : Option Kind). is_some o) is

head_there : (levels : ℕ) (e : BsonErr) (start p : ℕ) (bytes : List ℕ) → IsAtHead start p bytes e
    → There levels e start p bytes
head_there zero e start p bytes h = inl h
head_there (suc levels) e start p bytes h = inl h

length_headed : (kind : ℕ) (name value : List ℕ)
    → length (headed kind name value) ≡ length name + 2 + length value
length_headed kind name value = omega (arith, length-append (kind ∷ name) (0 ∷ value))

value_place : (end kind : ℕ) (bytes name value : List ℕ) → bytes ≡ headed kind name value
    → length bytes ≤ end → (place end value ≡ place end bytes + 2 + length name)
    × (length value ≤ end)
value_place end kind bytes name value is le =
    let len : length bytes ≡ length name + 2 + length value = ap length is
    ∙ length_headed kind name value in
    (omega (arith, len, le), omega (arith, len, le))

value_err : (levels : ℕ) → NestFails levels
    → (start end byte : ℕ) (bytes name value : List ℕ) (k : Kind) (e : BsonErr) → kind_byte k ≡ byte
    → IsName name → bytes ≡ headed byte name value → length bytes ≤ end → IsInput value
    → value_by (nested_at levels) k end value ≡ Err e → There levels e start (place end bytes) bytes
unfolding value_by
value_err levels nests start end byte bytes name value kinds.Doc e is named parts le input failed =
    nests start end bytes e byte name value (inl (sym is)) named parts le input
    (made_err (nested_at levels end value) _ e failed)
value_err levels nests start end byte bytes name value kinds.List e is named parts le input failed =
    nests start end bytes e byte name value (inr (sym is)) named parts le input
    (made_err (nested_at levels end value) _ e failed)
value_err levels nests start end byte bytes name value (kinds.Leaf l) e is named parts le
    input failed =
    let p = value_place end byte bytes name value parts le in
    let none : IsNoValue byte (place end bytes + 2 + length name) value e = subst (λ (n : ℕ).
    IsNoValue n (place end bytes + 2 + length name) value e) is (subst (λ (n : ℕ).
    IsNoValue (leaf_byte l) n value e) p.0 (leaf_err l end value e input p.1 failed)) in
    head_there levels e start (place end bytes) bytes
    (inr (inr (byte, name, value, parts, named, none)))

named_err : (levels : ℕ) → NestFails levels
    → (start end byte : ℕ) (bytes : List ℕ) (k : Kind) (e : BsonErr) → kind_of byte ≡ Some k
    → length (byte ∷ bytes) ≤ end → IsInput bytes
    → ◌≡◌ {A = Result (Option ((List ℕ × Value) × List ℕ)) BsonErr} (name_at end bytes
    >>= λ name. value_by (nested_at levels) k end name.1
    >>= λ value. Ok (Some ((name.0, value.0), value.1))) (Err e)
    → There levels e start (place end (byte ∷ bytes)) (byte ∷ bytes)
named_err levels nests start end byte bytes k e is le input failed =
    elim (err_bound (name_at end bytes) _ e failed) [
      | inl no_name ↦ head_there levels e start (place end (byte ∷ bytes)) (byte ∷ bytes)
          (inr (inl (name_err end byte bytes e (kind_known byte k is) le no_name)))
      | inr named ↦
          let found = name_found end bytes named.0 input named.1 in
          value_err levels nests start end byte (byte ∷ bytes) named.0.0 named.0.1 k e
          (kind_found byte k is) found.1 (ap (λ (l : List ℕ). byte ∷ l) found.0) le found.2
          (made_err (value_by (nested_at levels) k end named.0.1)
          (λ value. Some ((named.0.0, value.0), value.1)) e named.2)
    ]

kind_err : (levels : ℕ) → NestFails levels
    → (start end byte : ℕ) (bytes : List ℕ) (o : Option Kind) (e : BsonErr) → kind_of byte ≡ o
    → byte ≢ 0 → length (byte ∷ bytes) ≤ end → IsInput bytes
    → ◌≡◌ {A = Result (Option ((List ℕ × Value) × List ℕ)) BsonErr}
    (or_fault (fault.Kind (place end (byte ∷ bytes)) byte) o
    >>= λ k. name_at end bytes >>= λ name. value_by (nested_at levels) k end name.1
    >>= λ value. Ok (Some ((name.0, value.0), value.1))) (Err e)
    → There levels e start (place end (byte ∷ bytes)) (byte ∷ bytes)
kind_err levels nests start end byte bytes (Some k) e is some le input failed =
    named_err levels nests start end byte bytes k e is le input failed
kind_err levels nests start end byte bytes None e is some le input failed =
    let same : fault.Kind (place end (byte ∷ bytes)) byte ≡ e = cc in
    head_there levels e start (place end (byte ∷ bytes)) (byte ∷ bytes) (inl (inl (subst
    (IsNoKind (place end (byte ∷ bytes)) (byte ∷ bytes)) same (bytes, refl, is, some, refl))))

element_err : (levels : ℕ) → NestFails levels → (start end : ℕ) (bytes : List ℕ) (e : BsonErr)
    → IsInput bytes → length bytes ≤ end → element_at (value_by (nested_at levels)) start end bytes
    ≡ Err e → There levels e start (place end bytes) bytes
unfolding element_at
element_err levels nests start end [] e input le failed = absurd (no_err None e failed)
element_err levels nests start end (byte ∷ bytes) e input le failed =
    elim (err_test (eqb byte 0) (fault.Length start) _ e failed) [
      | inl early ↦ head_there levels e start (place end (byte ∷ bytes))
          (byte ∷ bytes) (inl (inr (subst (IsEarlyEnd start (byte ∷ bytes)) early.1
          (bytes, ap (λ (b : ℕ). b ∷ bytes) (eqb-true byte 0 early.0), refl))))
      | inr more ↦ kind_err levels nests start end byte bytes (kind_of byte) e refl
          (eqb-false byte 0 more.0) le (input-drop 1 (byte ∷ bytes) input) more.1
    ]

-- after the elements that were read
abbrev BehindThese : ℕ → BsonErr → ℕ → ℕ → List ℕ → Type 0
BehindThese levels e start end bytes = (fields : Document) × (front : List ℕ)
    × (rest : List ℕ) × ReadsElements (ReadsAt levels) fields front × (bytes ≡ front ++ rest)
    × There levels e start (place end rest) rest

one_more : (levels : ℕ) (e : BsonErr) (start end : ℕ) (bytes : List ℕ) (x : (List ℕ × Value)
    × List ℕ) → FoundElement levels bytes x → BehindThese levels e start end x.1
    → BehindThese levels e start end bytes
one_more levels e start end bytes x found more =
    let head = found.0 ∷ x.0.0 ++ 0 ∷ found.1 in (
      x.0 ∷ more.0,
      head ++ more.1,
      more.2,
      (found.0, found.1, more.1, found.2, found.3, refl, more.3),
      found.4 ∙ ap (λ (l : List ℕ). head ++ l) more.4 ∙ sym (append_assoc head more.1 more.2),
      more.5,
    )

shorter : (levels : ℕ) (bytes : List ℕ) (x : (List ℕ × Value) × List ℕ)
    → FoundElement levels bytes x → length x.1 < length bytes
shorter levels bytes x found =
    omega (arith, ap length found.4, length-append (found.0 ∷ x.0.0 ++ 0 ∷ found.1) x.1)

elements_err : (levels : ℕ) → NestFails levels → (start end n : ℕ) (bytes : List ℕ) (e : BsonErr)
    → IsInput bytes → length bytes ≤ end → length bytes < n
    → elements_at (value_by (nested_at levels)) start end n bytes ≡ Err e
    → BehindThese levels e start end bytes
unfolding elements_at
elements_err levels nests start end zero bytes e input le lt failed = absurd (omega arith)
elements_err levels nests start end (suc n) [] e input le lt failed =
    absurd (no_err [] e (rw (none_again (value_by (nested_at levels)) start end) at failed))
elements_err levels nests start end (suc n) (byte ∷ bytes) e input le lt failed = elim (err_bound
    (element_at (value_by (nested_at levels)) start end (byte ∷ bytes)) _ e failed) [
      | inl here ↦ (
        [],
        [],
        byte ∷ bytes,
        refl,
        refl,
        element_err levels nests start end (byte ∷ bytes) e input le here,
      )
      | inr read ↦
          let found =
          element_found levels (value_by (nested_at levels)) (value_found levels) start end
          byte bytes read.0 input read.1 in
          let next : (elements_at (value_by (nested_at levels)) start end n found.0.1
          >>= λ more. Ok (found.0.0 ∷ more)) ≡ Err e = rw found.1 at read.2 in
          let less = shorter levels (byte ∷ bytes) found.0 found.2 in
          one_more levels e start end (byte ∷ bytes) found.0 found.2
          (elements_err levels nests start end n found.0.1 e found.2.5 (omega (arith, less, le))
          (omega (arith, less, lt)) (made_err (elements_at (value_by (nested_at levels)) start end n
          found.0.1) (λ more. found.0.0 ∷ more) e next))
    ]

elements_ok : (levels start end n : ℕ) (bytes : List ℕ) (fields : Document) → IsInput bytes
    → elements_at (value_by (nested_at levels)) start end n bytes ≡ Ok fields
    → ReadsElements (ReadsAt levels) fields bytes
unfolding elements_at
elements_ok levels start end zero bytes fields input e = absurd cc
elements_ok levels start end (suc n) [] fields input e =
    let stop : ◌≡◌ {A = Result Document BsonErr} (Ok []) (Ok fields) =
    rw (none_again (value_by (nested_at levels)) start end) at e in
    subst (λ (y : Document). ReadsElements (ReadsAt levels) y []) (ok_is [] fields stop) refl
elements_ok levels start end (suc n) (byte ∷ bytes) fields input e =
    let o =
    bind_ok (element_at (value_by (nested_at levels)) start end (byte ∷ bytes)) _ fields e in
    let f = element_found levels (value_by (nested_at levels)) (value_found levels) start end byte
    bytes o.0 input o.1 in
    let next : (elements_at (value_by (nested_at levels)) start end n f.0.1
    >>= λ more. Ok (f.0.0 ∷ more)) ≡ Ok fields = rw f.1 at o.2 in
    let d = bind_ok (elements_at (value_by (nested_at levels)) start end n f.0.1) (λ more.
    Ok (f.0.0 ∷ more)) fields next in
    let others = elements_ok levels start end n f.0.1 d.0 f.2.5 d.1 in
    subst (λ (y : Document). ReadsElements (ReadsAt levels) y (byte ∷ bytes))
    (ok_is (f.0.0 ∷ d.0) fields d.2) (f.2.0, f.2.1, f.0.1, f.2.2, f.2.3, f.2.4, others)

-- Documents.

-- seen from the document's count
placed_behind : (levels : ℕ) (e : BsonErr) (start end : ℕ) (elements : List ℕ)
    → start + 4 + length elements ≡ end → BehindThese levels e start end elements
    → Behind levels (There levels e start) start elements
placed_behind levels e start end elements at h =
    let len : length elements ≡ length h.1 + length h.2 = ap length h.4 ∙ length-append h.1 h.2 in
    let is : place end h.2 ≡ start + 4 + length h.1 = omega (arith, len, at) in
    (h.0, h.1, h.2, h.3, h.4, subst (λ (k : ℕ). There levels e start k h.2) is h.5)

body_err : (levels : ℕ) → NestFails levels
    → (start end : ℕ) (elements : List ℕ) (last : ℕ) (e : BsonErr)
    → IsInput elements → start + 4 + length elements ≡ end
    → body_at (value_by (nested_at levels)) start end elements last ≡ Err e
    → Behind levels (There levels e start) start elements ⊎ IsWrongEnd levels e start elements last
unfolding body_at
body_err levels nests start end elements last e input at failed = elim (err_bound (elements_at
    (value_by (nested_at levels)) start end (length elements + 1) elements) _ e failed) [
      | inl inside ↦
          inl (placed_behind levels e start end elements at (elements_err levels nests start
          end (length elements + 1) elements e input (omega (arith, at)) (omega arith) inside))
      | inr all ↦ elim (err_held (eqb last 0) (fault.Length start) (Ok all.0) e all.2) [
        | inl ended ↦ absurd (no_err all.0 e ended.1)
        | inr wrong ↦ inr (
          sym wrong.1,
          (all.0, elements_ok levels start end (length elements + 1) elements all.0 input all.1),
          eqb-false last 0 wrong.0,
        )
      ]
    ]

first_of : (levels : ℕ) (e : BsonErr) (start : ℕ) (elements : List ℕ) (last : ℕ)
    → Behind levels (There levels e start) start elements ⊎ IsWrongEnd levels e start elements last
    → IsFirst levels e start elements last
unfolding IsFirst
first_of zero e start elements last h = h
first_of (suc levels) e start elements last h = h

-- the fault of a document in another
document_err : (levels : ℕ) → NestFails levels
    → (end : ℕ) (bytes : List ℕ) (e : BsonErr) → IsInput bytes → length bytes ≤ end
    → document_at (value_by (nested_at levels)) end bytes ≡ Err e
    → HasWrongCount e (place end bytes) bytes ⊎ Holds (IsFirst levels e) (place end bytes) bytes
unfolding document_at
document_err levels nests end bytes e input le failed =
    elim (err_bound (count_at end bytes) _ e failed) [
      | inl cut ↦ let g = count_err end bytes e cut in inl (sym g.1, inl g.0)
      | inr counted ↦
          counted_err counted.0.0 counted.0.1
          (count_ok end bytes counted.0 input counted.1) counted.2
    ]
  where
    counted_err : (n : ℕ) (rest : List ℕ) → Is32 bytes (n, rest)
        → ◌≡◌ {A = Field Document}
        (cond (ltb n 5) (Err (fault.Length (place end bytes))) (cond (ltb (length rest) (n - 4))
        (Err (fault.Length (place end bytes))) (body_at (value_by (nested_at levels))
        (place end bytes) (place end (drop (n - 4) rest) - 1) (take (n - 5) rest)
        (get_or rest (n - 5) 0) >>= λ fields. Ok (fields, drop (n - 4) rest)))) (Err e)
        → HasWrongCount e (place end bytes) bytes ⊎ Holds (IsFirst levels e) (place end bytes) bytes
    counted_err n rest is failed =
        elim (err_test (ltb n 5) (fault.Length (place end bytes)) _ e failed) [
          | inl small ↦ inl (sym small.1, inr (n, rest, is.0, is.2, inl (ltb-true _ _ small.0)))
          | inr five ↦
              elim (err_test (ltb (length rest) (n - 4)) (fault.Length (place end bytes))
              _ e five.1) [
                | inl past ↦ inl (sym past.1, inr (n, rest, is.0, is.2, inr (ltb-true _ _ past.0)))
                | inr within ↦
                    let some : 5 ≤ n = ltb-false _ _ five.0 in
                    let room : n - 4 ≤ length rest = ltb-false _ _ within.0 in
                    let elements = take (n - 5) rest in
                    let last = get_or rest (n - 5) 0 in
                    let after = drop (n - 4) rest in
                    let len : length elements + 5 ≡ n = omega (arith, length-take (n - 5) rest) in
                    let len_after : length after ≡ length rest - (n - 4) =
                    length-drop (n - 4) rest in
                    let parts : rest ≡ elements ++ last ∷ after =
                    split_at rest (n - 5) (n - 4) (omega arith) (omega arith) in
                    let whole : bytes ≡ to_le_bytes w32 (length elements + 5) ++ (elements ++ last
                    ∷ after) = is.0 ∙ (λ i. to_le_bytes w32 (sym len i) ++ parts i) in
                    let at : place end bytes + 4 + length elements ≡ place end after - 1 =
                    omega (arith, len, len_after, is.3, le, room, some) in
                    let body = made_err (body_at (value_by (nested_at levels)) (place end bytes)
                    (place end after - 1) elements last) (λ fields. (fields, after)) e within.1 in
                    inr (
                      elements,
                      last,
                      after,
                      whole,
                      omega (arith, len, is.2),
                      first_of levels e (place end bytes) elements last
                          (body_err levels nests (place end bytes) (place end after - 1) elements
                          last e (input-take (n - 5) rest is.1) at body),
                    )
              ]
        ]

nest_fails : (levels : ℕ) → NestFails levels
unfolding nested_at
nest_fails zero start end bytes e kind name value nests named parts le input failed =
    let p = value_place end kind bytes name value parts le in
    let same : fault.Deep (place end value) ≡ e = cc in
    inr (kind, name, value, nests, named, parts, sym same ∙ ap (λ (k : ℕ). fault.Deep k) p.0)
nest_fails (suc levels) start end bytes e kind name value nests named parts le input failed =
    let p = value_place end kind bytes name value parts le in
    elim (document_err levels (nest_fails levels) end value e input p.1 failed) [
      | inl wrong ↦ inr (inl (
        kind,
        name,
        value,
        nests,
        named,
        parts,
        subst (λ (k : ℕ). HasWrongCount e k value) p.0 wrong,
      ))
      | inr holds ↦ inr (inr (
        kind,
        name,
        value,
        nests,
        named,
        parts,
        subst (λ (k : ℕ). Holds (IsFirst levels e) k value) p.0 holds,
      ))
    ]

pub document_first : (levels end : ℕ) (bytes : List ℕ) (e : BsonErr)
    → IsInput bytes → length bytes ≤ end → nested_at (suc levels) end bytes ≡ Err e
    → HasWrongCount e (place end bytes) bytes ⊎ Holds (IsFirst levels e) (place end bytes) bytes
unfolding nested_at
document_first levels end bytes e input le failed =
    document_err levels (nest_fails levels) end bytes e input le failed
