-- The namespace of a database and a collection fits.
use Rattle.std.proofs.Common.{◌≡◌, ◌<◌, ◌≤◌, ◌+◌, ◌&&◌, ℕ, suc, Bool, true, false, not, List}
use Rattle.std.proofs.Common.{[], ◌∷◌, ◌++◌, length, refl, sym, ap, ◌∙◌, arith, eqb, take, drop}
use Rattle.std.specs.Prelude.{nat_le}
use Rattle.std.specs.List.{list_all, position_or_len, before_first, after_first}
use Rattle.std.specs.Str.{is_utf8}
use Rattle.std.proofs.Math.Seq.{take-append_seam, drop-append-add}
use Rattle.std.proofs.lemmas.List.{length-append}
use Rattle.std.proofs.lemmas.Bool.{leb-true}
use Rattle.std.proofs.lemmas.Str.Ascii.{IsAscii-cons, IsAscii-nil}
use Rattle.std.proofs.lemmas.Str.{IsUtf8-append, IsUtf8-from_ascii, IsUtf8-from_is_utf8}
use Rattle.std.proofs.lemmas.Str.{is_utf8-from_IsUtf8}
use Rattle.txn_types.specs.Names.{is_collection, is_database, is_name_byte, namespace_of}
use Rattle.journal_rec.proofs.Namespaces.{named}
use Rattle.request_laws.specs.Fitting.{NsFits}

le_of : (a b : ℕ) → nat_le a b ≡ true → a ≤ b
le_of a b is = leb-true a b is

both : (a b : Bool) → (a && b) ≡ true → (a ≡ true) × (b ≡ true)
both true b is = (refl, is)
both false b is = absurd cc

no_stop : (b : Bool) → not b ≡ true → b ≡ false
no_stop true is = absurd cc
no_stop false is = refl

stop_case : (x : ℕ) (xs : List ℕ) (n : ℕ) (b : Bool) → eqb x 46 ≡ b → b ≡ false
    → position_or_len (λ y. eqb y 46) xs ≡ n → position_or_len (λ y. eqb y 46) (x ∷ xs) ≡ suc n
stop_case x xs n true at is more = absurd cc
stop_case x xs n false at is more =
    let one : position_or_len (λ y. eqb y 46) (x ∷ xs) ≡ 1 + n = rw (at, more) refl in
    omega (arith, one)

first_stop : (d c : List ℕ) → list_all (λ b. is_name_byte b && not (eqb b 46)) d ≡ true
    → position_or_len (λ y. eqb y 46) (d ++ 46 ∷ c) ≡ length d
first_stop [] c h = refl
first_stop (x ∷ d) c h =
    let parts = both (is_name_byte x && not (eqb x 46))
    (list_all (λ b. is_name_byte b && not (eqb b 46)) d) h in
    let own = both (is_name_byte x) (not (eqb x 46)) parts.0 in
    stop_case x (d ++ 46 ∷ c) (length d) (eqb x 46) refl (no_stop (eqb x 46) own.1)
    (first_stop d c parts.1)

database_parts : (d : List ℕ) → is_database d ≡ true → (length d ≤ 63)
    × (list_all (λ b. is_name_byte b && not (eqb b 46)) d ≡ true)
database_parts d h =
    let front = nat_le 1 (length d) && nat_le (length d) 63 in
    let parts = both front (list_all (λ b. is_name_byte b && not (eqb b 46)) d) h in
    let within = both (nat_le 1 (length d)) (nat_le (length d) 63) parts.0 in
    (le_of (length d) 63 within.1, parts.1)

collection_short : (c : List ℕ) → is_collection c ≡ true → length c ≤ 200
collection_short c h =
    let front = nat_le 1 (length c) && nat_le (length c) 200 in
    let parts = both front (list_all is_name_byte c) h in
    let within = both (nat_le 1 (length c)) (nat_le (length c) 200) parts.0 in
    le_of (length c) 200 within.1

pub namespace_fits : (d c : List ℕ) → is_utf8 d ≡ true → is_utf8 c ≡ true → is_database d ≡ true
    → is_collection c ≡ true → NsFits (namespace_of d c)
namespace_fits d c du cu dis cis =
    let ns = namespace_of d c in
    let parts = database_parts d dis in
    let short = collection_short c cis in
    let len = length-append d (46 ∷ c) in
    let at = first_stop d c parts.1 in
    let dot = IsUtf8-from_ascii (46 ∷ []) (IsAscii-cons 46 [] (omega arith) IsAscii-nil) in
    let tail = IsUtf8-append (46 ∷ []) c dot (IsUtf8-from_is_utf8 c cu) in
    let whole = is_utf8-from_IsUtf8 ns (IsUtf8-append d (46 ∷ c) (IsUtf8-from_is_utf8 d du) tail) in
    let inside : position_or_len (λ y. eqb y 46) ns < length ns = omega (arith, at, len) in
    let first : d ≡ before_first (λ y. eqb y 46) ns = sym (ap (λ (n : ℕ). take n ns) at
    ∙ take-append_seam d (46 ∷ c)) in
    let second : c ≡ after_first (λ y. eqb y 46) ns = sym (ap (λ (n : ℕ). drop (n + 1) ns) at
    ∙ drop-append-add d (46 ∷ c) 1) in (
      named ns ns d c refl whole inside first second ∙ ap (λ (b : Bool). b && is_collection c) dis
          ∙ cis,
      omega (arith, len, parts.0, short),
    )
