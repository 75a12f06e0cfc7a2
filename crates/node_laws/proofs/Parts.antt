-- What is written of numbers, counts, texts, documents, values and ids is read again, whatever
-- stands after it.
use Rattle.std.proofs.Common.{◌≡◌, ℕ, ℤ, suc, ◌-◌, ◌+◌, ◌^◌, ◌≤◌, ◌<◌, Bool, true, false, ltb, eqb}
use Rattle.std.proofs.Common.{not, position, List, [], ◌∷◌, ◌++◌, length, take, Option, Some, None}
use Rattle.std.proofs.Common.{Ok, refl, sym, ap, ◌∙◌, append_assoc, arith, FitsSigned}
use Rattle.std.specs.Int.{Width, w16, w32, w64, to_le_bytes, cast_unsigned}
use Rattle.std.specs.List.{All, flat_map}
use Rattle.std.specs.Str.{bytes_eq}
use Rattle.std.proofs.lemmas.Bool.{le-ltb}
use Rattle.std.proofs.lemmas.Int.{to_z-of_z}
use Rattle.std.proofs.Math.Facts.{Fits-of_z}
use Rattle.std.proofs.lemmas.List.{append-nil, take_at, drop_at, length-append}
use Rattle.std.proofs.lemmas.List.Elements.{All-nil, All-cons, All-head, All-tail}
use Rattle.bson_core.specs.declared.value.Value.{Value}
use Rattle.bson_core.specs.declared.value.Value.TheViews as views
use Rattle.bson_core.specs.Fields.{Document}
use Rattle.bson_core.specs.Reading.{number_at, document_of}
use Rattle.bson_core.specs.Spelling.{bit, framed, elements, spelling}
use Rattle.bson_core.proofs.InGrammar.{spelling_reads}
use Rattle.bson_core.proofs.Lengths.{length_framed}
use Rattle.bson_core.proofs.Whole.{whole_again}
use Rattle.txn_types.specs.Ids.{id_name, id_of, value_of_id, id_document}
use Rattle.txn_types.specs.declared.id.Id.{Id}
use Rattle.txn_types.specs.declared.id.Id.TheVariants as kinds
use Rattle.node_wire.specs.Errors.{most}
use Rattle.node_wire.specs.Reading.{Found, number_of, signed_at, bytes_of, zeros_at, count_at}
use Rattle.node_wire.specs.Reading.{flag_of, code_at, each_at, counted_at, text_at, document_at}
use Rattle.node_wire.specs.Reading.{only_under, value_at, long_id, id_at}
use Rattle.node_wire.specs.Spelling.{half, word, long, signed, text_bytes, counted, value_bytes}
use Rattle.node_wire.specs.Spelling.{id_bytes}
use Rattle.node_laws.proofs.Numbers.{IsNumber, number16_again, wide32, wide64}
use Rattle.node_laws.specs.Fits.{ListFits, DocumentFits, ValueFits, IdFits}

-- these bytes are read as this
abbrev pub IsReadAs : {A : Type 0} → (List ℕ → Found A) → List ℕ → A → Type 0
IsReadAs read bytes x = (rest : List ℕ) → read (bytes ++ rest) ≡ Ok (x, rest)

-- Numbers.

number_again : (w : Width) (end : ℕ) (a : List ℕ) (n : ℕ) → IsNumber w a n
    → IsReadAs (number_of w end) a n
number_again w end a n h rest = rw (h rest) refl

pub half_again : (end n : ℕ) → n < 2 ^ 16 → IsReadAs (number_of w16 end) (half n) n
unfolding half
half_again end n lt = number_again w16 end (to_le_bytes w16 n) n (number16_again n lt)

pub word_again : (end n : ℕ) → n < 2 ^ 32 → IsReadAs (number_of w32 end) (word n) n
unfolding word
word_again end n lt = number_again w32 end (to_le_bytes w32 n) n (wide32 n lt)

pub long_again : (end n : ℕ) → n < 2 ^ 64 → IsReadAs (number_of w64 end) (long n) n
unfolding long
long_again end n lt = number_again w64 end (to_le_bytes w64 n) n (wide64 n lt)

below64 : (n : ℤ) → FitsSigned w64 n → cast_unsigned w64 n < 2 ^ 64
below64 n h = let f = Fits-of_z {w = w64} {z = n} h in omega arith

signed_parts : (end : ℕ) (a : List ℕ) (n : ℤ) → FitsSigned w64 n
    → IsNumber w64 a (cast_unsigned w64 n) → IsReadAs (signed_at end) a n
signed_parts end a n fits h rest = rw (h rest) (ap (λ (m : ℤ). Ok (m, rest)) (to_z-of_z w64 n fits))

pub signed_again : (end : ℕ) (n : ℤ) → FitsSigned w64 n → IsReadAs (signed_at end) (signed n) n
unfolding signed
signed_again end n fits = signed_parts end (to_le_bytes w64 (cast_unsigned w64 n)) n fits
    (wide64 (cast_unsigned w64 n) (below64 n fits))

pub flag_again : (end : ℕ) (b : Bool) → IsReadAs (code_at flag_of end) (bit b ∷ []) b
unfolding code_at
flag_again end true rest = refl
flag_again end false rest = refl

pub code_again : {A : Type 0} (meaning : ℕ → Option A) (end code : ℕ) (x : A)
    → meaning code ≡ Some x → IsReadAs (code_at meaning end) (code ∷ []) x
unfolding code_at
code_again meaning end code x h rest = rw h refl

pub bytes_again : (n end : ℕ) (front rest : List ℕ) → length front ≡ n
    → bytes_of n end (front ++ rest) ≡ Ok (front, rest)
unfolding bytes_of
bytes_again n end front rest len =
    let room : ltb (length (front ++ rest)) n ≡ false =
    le-ltb _ _ (omega (arith, length-append front rest)) in
    rw (room, take_at front rest n len, drop_at front rest n len) refl

pub zeros_again : (n end : ℕ) (zeros rest : List ℕ) → length zeros ≡ n
    → position (λ b. not (eqb b 0)) zeros ≡ None → zeros_at n end (zeros ++ rest) ≡ Ok rest
unfolding zeros_at
zeros_again n end zeros rest len none =
    let room : ltb (length (zeros ++ rest)) n ≡ false =
    le-ltb _ _ (omega (arith, length-append zeros rest)) in
    rw (take_at zeros rest n len, none, room, drop_at zeros rest n len) refl

-- Counts and lists.

pub count_again : (end n : ℕ) (a tail : List ℕ) → IsReadAs (number_of w32 end) a n → n ≤ length tail
    → count_at end (a ++ tail) ≡ Ok (n, tail)
unfolding count_at
count_again end n a tail h le = rw (h tail, le-ltb (length tail) n le) refl

each_turn : {A : Type 0} (read : List ℕ
    → Found A) (n : ℕ) (front : List A) (bytes after : List ℕ) (x : A) → read bytes ≡ Ok (x, after)
    → each_at read (suc n) front bytes ≡ each_at read n (front ++ x ∷ []) after
each_turn read n front bytes after x h = rw h refl

pub each_again : {A : Type 0} (read : List ℕ → Found A) (f : A → List ℕ) (P : A → Type 0)
    → ((x : A) → P x → IsReadAs read (f x) x) → (front xs : List A) (rest : List ℕ) → All P xs
    → each_at read (length xs) front (flat_map f xs ++ rest) ≡ Ok (front ++ xs, rest)
each_again read f P again front [] rest h = rw (append-nil front) refl
each_again {A} read f P again front (x ∷ xs) rest h =
    let after = flat_map f xs ++ rest in
    let one : read ((f x ++ flat_map f xs) ++ rest) ≡ Ok (x, after) =
    ap read (append_assoc (f x) (flat_map f xs) rest) ∙ again x (All-head P x xs h) after in
    each_turn read (length xs) front ((f x ++ flat_map f xs) ++ rest) after x one
    ∙ each_again read f P again (front ++ x ∷ []) xs rest (All-tail P x xs h)
    ∙ ap (λ (l : List A). Ok (l, rest)) (append_assoc front (x ∷ []) xs)

long_enough : {A : Type 0} (f : A → List ℕ) → ((x : A) → 1 ≤ length (f x)) → (xs : List A)
    → length xs ≤ length (flat_map f xs)
long_enough f one [] = omega arith
long_enough f one (x ∷ xs) =
    omega (arith, length-append (f x) (flat_map f xs), one x, long_enough f one xs)

pub counted_again : {A : Type 0} (read : List ℕ → Found A) (f : A → List ℕ) (P : A → Type 0)
    → ((x : A) → P x → IsReadAs read (f x) x) → ((x : A) → 1 ≤ length (f x))
    → (end : ℕ) (xs : List A) → ListFits P xs
    → IsReadAs (counted_at read end) (counted f xs) xs
unfolding counted_at
counted_again read f P again one end xs h rest =
    let tail = flat_map f xs ++ rest in
    let room : length xs ≤ length tail =
    omega (arith, length-append (flat_map f xs) rest, long_enough f one xs) in
    rw (
      append_assoc (word (length xs)) (flat_map f xs) rest,
      count_again end (length xs) (word (length xs)) tail (word_again end (length xs) h.0) room,
      each_again read f P again [] xs rest h.1,
    ) refl

-- Texts.

pub text_again : (passes : List ℕ → Bool) (end : ℕ) (t : List ℕ) → passes t ≡ true
    → length t < 2 ^ 32 → IsReadAs (text_at passes end) (text_bytes t) t
unfolding text_at
text_again passes end t is lt rest =
    let room : length t ≤ length (t ++ rest) = omega (arith, length-append t rest) in
    rw (
      append_assoc (word (length t)) t rest,
      count_again end (length t) (word (length t)) (t ++ rest) (word_again end (length t) lt) room,
      take_at t rest (length t) refl,
      is,
      drop_at t rest (length t) refl,
    ) refl

-- Documents.

count_before : (e rest : List ℕ) → length e + 5 < 2 ^ 32
    → number_at w32 (framed e ++ rest) ≡ Some (length e + 5, (e ++ 0 ∷ []) ++ rest)
unfolding framed
count_before e rest lt = ap (number_at w32) (append_assoc (to_le_bytes w32 (length e + 5))
    (e ++ 0 ∷ []) rest) ∙ wide32 (length e + 5) lt ((e ++ 0 ∷ []) ++ rest)

document_pieces : (end count : ℕ) (bytes after rest : List ℕ) (doc : Document)
    → number_at w32 (bytes ++ rest) ≡ Some (count, after) → length bytes ≡ count
    → document_of 400000000 bytes ≡ Ok doc → document_at end (bytes ++ rest) ≡ Ok (doc, rest)
unfolding document_at
document_pieces end count bytes after rest doc number len h =
    let room : ltb (length (bytes ++ rest)) count ≡ false =
    le-ltb _ _ (omega (arith, length-append bytes rest)) in
    rw (number, room, take_at bytes rest count len, h, drop_at bytes rest count len) refl

pub document_again : (end : ℕ) (doc : Document) → DocumentFits doc
    → IsReadAs (document_at end) (spelling doc) doc
document_again end doc h rest =
    let len = length_framed (elements doc) in
    document_pieces end (length (elements doc) + 5) (spelling doc) ((elements doc ++ 0 ∷ [])
    ++ rest) rest doc (count_before (elements doc) rest (omega (arith, len, h.2))) len
    (whole_again 400000000 (spelling doc) doc (spelling_reads doc h.0 h.1 (omega (arith, h.2))) h.2)

pub document_long : (doc : Document) → 1 ≤ length (spelling doc)
document_long doc = omega (arith, length_framed (elements doc))

-- Values.

value_pieces : (end : ℕ) (bytes rest : List ℕ) (v : Value)
    → document_at end (bytes ++ rest) ≡ Ok (([], v) ∷ [], rest)
    → value_at end (bytes ++ rest) ≡ Ok (v, rest)
unfolding value_at
value_pieces end bytes rest v h = rw h refl

pub value_again : (end : ℕ) (v : Value) → ValueFits v → IsReadAs (value_at end) (value_bytes v) v
value_again end v h rest =
    value_pieces end (value_bytes v) rest v (document_again end (([], v) ∷ []) h rest)
