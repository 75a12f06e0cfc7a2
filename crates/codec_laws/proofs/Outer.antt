-- Faults of a document that is all of the bytes.
use Rattle.std.proofs.Common.{◌≡◌, ◌≢◌, ℕ, ◌≤◌, ◌<◌, min, Bool, true, false, cond, eqb, ltb, List}
use Rattle.std.proofs.Common.{length, drop, Result, Ok, Err, refl, arith}
use Rattle.std.specs.Int.{w32}
use Rattle.std.proofs.lemmas.Bool.{le-ltb, lt-ltb, ltb-false, ltb-true, ne_eqb}
use Rattle.bson_core.specs.declared.error.BsonErr.{BsonErr}
use Rattle.bson_core.specs.declared.error.BsonErr.TheVariants as fault
use Rattle.bson_core.specs.Fields.{Document}
use Rattle.bson_core.specs.Written.{most}
use Rattle.bson_core.specs.Reading.{number_at, fixed_at, document_of}
use Rattle.codec_laws.specs.Faults.{number_from, IsThere}
use Rattle.codec_laws.proofs.Places.{IsInside, SaneEnd, whole_sane}

pub front_number : (bytes : List ℕ) → 5 ≤ length bytes
    → fixed_at w32 bytes ≡ Ok (number_from 0 bytes, drop 4 bytes)
unfolding number_at
front_number bytes long = rw (le-ltb (length bytes) 4 (omega arith)) refl

-- a fault inside is one of the whole
inside_there : (limit : ℕ) (bytes : List ℕ) (e : BsonErr) → IsInside bytes e → IsThere limit bytes e
inside_there limit bytes fault.Short h = h
inside_there limit bytes (fault.Length at) h = h
inside_there limit bytes (fault.Kind at byte) h = h
inside_there limit bytes (fault.Text at) h = h
inside_there limit bytes (fault.Bool at) h = h
inside_there limit bytes (fault.Deep at) h = h
inside_there limit bytes fault.TooLarge h = absurd h
inside_there limit bytes fault.Memory h = absurd h

abbrev ErrIsThere : ℕ → List ℕ → Result Document BsonErr → Type 0
ErrIsThere limit bytes (Ok d) = Unit {0}
ErrIsThere limit bytes (Err e) = IsThere limit bytes e

inner : (limit : ℕ) (bytes : List ℕ) (r : Result Document BsonErr) → SaneEnd bytes r
    → ErrIsThere limit bytes r
inner limit bytes (Ok d) h = tt
inner limit bytes (Err e) h = inside_there limit bytes e h

same_case : (limit : ℕ) (bytes : List ℕ) (b : Bool) (r : Result Document BsonErr) → SaneEnd bytes r
    → ErrIsThere limit bytes (cond b r (Err (fault.Length 0)))
same_case limit bytes true r h = inner limit bytes r h
same_case limit bytes false r h = omega arith

large_case : (limit : ℕ) (bytes : List ℕ) (b : Bool) (r : Result Document BsonErr)
    → 5 ≤ length bytes → ltb (min limit 2147483647) (number_from 0 bytes) ≡ b
    → ErrIsThere limit bytes r → ErrIsThere limit bytes (cond b (Err fault.TooLarge) r)
large_case limit bytes true r long is h = (long, ltb-true _ _ is)
large_case limit bytes false r long is h = h

long_there : (limit : ℕ) (bytes : List ℕ) → 5 ≤ length bytes
    → ErrIsThere limit bytes (document_of limit bytes)
unfolding document_of
long_there limit bytes long =
    rw (le-ltb (length bytes) 5 long, front_number bytes long)
    (large_case limit bytes (ltb (min limit 2147483647) (number_from 0 bytes)) _ long refl
    (same_case limit bytes (eqb (number_from 0 bytes) (length bytes)) _ (whole_sane 100 bytes)))

pub short_is : (limit : ℕ) (bytes : List ℕ) → length bytes < 5
    → document_of limit bytes ≡ Err fault.Short
unfolding document_of
short_is limit bytes short = rw (lt-ltb (length bytes) 5 short) refl

either : (limit : ℕ) (bytes : List ℕ) (b : Bool) → ltb (length bytes) 5 ≡ b
    → ErrIsThere limit bytes (document_of limit bytes)
either limit bytes true is = rw (short_is limit bytes (ltb-true _ _ is)) tt
either limit bytes false is = long_there limit bytes (ltb-false _ _ is)

told : (limit : ℕ) (bytes : List ℕ) (e : BsonErr) (r : Result Document BsonErr) → r ≡ Err e
    → ErrIsThere limit bytes r → IsThere limit bytes e
told limit bytes e (Ok d) is h = absurd cc
told limit bytes e (Err f) is h = let same : f ≡ e = cc in rw (← same) h

pub fault_is_there : (limit : ℕ) (bytes : List ℕ) (e : BsonErr) → document_of limit bytes ≡ Err e
    → IsThere limit bytes e
fault_is_there limit bytes e is =
    told limit bytes e (document_of limit bytes) is (either limit bytes (ltb (length bytes) 5) refl)

pub large_is : (limit : ℕ) (bytes : List ℕ) → 5 ≤ length bytes
    → min limit most < number_from 0 bytes → document_of limit bytes ≡ Err fault.TooLarge
unfolding document_of
large_is limit bytes long above = rw (
  le-ltb (length bytes) 5 long,
  front_number bytes long,
  lt-ltb (min limit 2147483647) (number_from 0 bytes) above,
) refl

pub count_is : (limit : ℕ) (bytes : List ℕ) → 5 ≤ length bytes
    → number_from 0 bytes ≤ min limit most → number_from 0 bytes ≢ length bytes
    → document_of limit bytes ≡ Err (fault.Length 0)
unfolding document_of
count_is limit bytes long below other = rw (
  le-ltb (length bytes) 5 long,
  front_number bytes long,
  le-ltb (min limit 2147483647) (number_from 0 bytes) below,
  ne_eqb (number_from 0 bytes) (length bytes) other,
) refl
