-- What a line of a schedule brings of a client is bytes, on a connection whose number has 32 bits.
use Rattle.std.proofs.Common.{◌≡◌, ◌<◌, ◌≤◌, ◌+◌, ◌-◌, ◌*◌, ◌%◌, ◌^◌, ◌&&◌, ◌==◌, nat_le, ℕ, Bool, true}
use Rattle.std.proofs.Common.{false, cond, All, List, [], ◌∷◌, length, Option, Some, None, Result, Ok}
use Rattle.std.proofs.Common.{Err, refl, subst, arith}
use Rattle.std.specs.Prelude.{codes}
use Rattle.std.specs.List.{slice_split}
use Rattle.std.specs.Str.{bytes_eq}
use Rattle.std.proofs.lemmas.List.Elements.{All-nil, All-cons}
use Rattle.hex.specs.Hex as hex
use Rattle.hex.specs.declared.error.FromHexError.{FromHexError}
use Rattle.hex.specs.declared.error.FromHexError.TheVariants.{OddLength}
use Rattle.txn_types.specs.declared.node.NodeId.{NodeId}
use Rattle.play_script.specs.Lines.{asked_by, asked_in, bytes_in, decoded, line_of, mapped}
use Rattle.play_script.specs.Lines.{is_decimal, read_of, value_of, with_number, words_ask}
use Rattle.play_script.specs.Lines.{number_in, node_in}
use Rattle.play_script.specs.declared.line.Line.{Line}
use Rattle.play_script.specs.declared.line.Line.TheVariants as line
use Rattle.play_script.specs.declared.line.LineErr.{LineErr}
use Rattle.play_script.specs.declared.line.LineErr.TheVariants.{Form, Hex, Number}

abbrev pub AreBytes : List ℕ → Type 0
AreBytes bytes = All (λ b. b < 2 ^ 8) bytes

-- bytes come on a connection, whose number has 32 bits
abbrev pub Comes : ℕ → List ℕ → Type 0
Comes conn bytes = (conn < 2 ^ 32) × AreBytes bytes

-- Hexadecimal digits.

up_to : (a b c : ℕ) → (nat_le a c && nat_le c b) ≡ true → (a ≤ c) × (c ≤ b)
up_to a b c is = (grind (arith, is), grind (arith, is))

digit_case : (c i v : ℕ) (t u w : Bool) → (nat_le 65 c && nat_le c 70) ≡ t
    → (nat_le 97 c && nat_le c 102) ≡ u → (nat_le 48 c && nat_le c 57) ≡ w
    → hex.digit_or_error c i (cond t (Some (c - 55)) (cond u (Some (c - 87))
    (cond w (Some (c - 48)) None))) ≡ Ok v → v < 16
digit_case c i v true u w upper lower digit is =
    let same : c - 55 ≡ v = cc in
    let h = up_to 65 70 c upper in
    omega (arith, same, h.0, h.1)
digit_case c i v false true w upper lower digit is =
    let same : c - 87 ≡ v = cc in
    let h = up_to 97 102 c lower in
    omega (arith, same, h.0, h.1)
digit_case c i v false false true upper lower digit is =
    let same : c - 48 ≡ v = cc in
    let h = up_to 48 57 c digit in
    omega (arith, same, h.0, h.1)
digit_case c i v false false false upper lower digit is = absurd cc

digit_small : (c i v : ℕ) → hex.value_at c i ≡ Ok v → v < 16
digit_small c i v is = digit_case c i v (nat_le 65 c && nat_le c 70) (nat_le 97 c && nat_le c 102)
    (nat_le 48 c && nat_le c 57) refl refl refl is

hex_bind : {A B : Type 0} (r : Result A FromHexError) (f : A → Result B FromHexError) (y : B)
    → hex.◌>>=◌ r f ≡ Ok y → (x : A) × (r ≡ Ok x) × (f x ≡ Ok y)
hex_bind (Ok x) f y is = (x, refl, is)
hex_bind (Err e) f y is = absurd cc

is_ok : {A : Type 0} (x y : A) → ◌≡◌ {A = Result A FromHexError} (Ok x) (Ok y) → x ≡ y
is_ok x y is = cc

pair_small : (high low i byte : ℕ) → hex.pair_value high low i ≡ Ok byte → byte < 2 ^ 8
pair_small high low i byte is =
    let h = hex_bind (hex.value_at high i) _ byte is in
    let l = hex_bind (hex.value_at low (i + 1)) _ byte h.2 in
    omega (
      arith,
      is_ok (h.0 * 16 + l.0) byte l.2,
      digit_small high i h.0 h.1,
      digit_small low (i + 1) l.0 l.1,
    )

pairs_bytes : (i : ℕ) (text bytes : List ℕ) → hex.decode_pairs i text ≡ Ok bytes → AreBytes bytes
unfolding hex.decode_pairs
pairs_bytes i [] bytes is = subst AreBytes (is_ok [] bytes is) (All-nil (λ (b : ℕ). b < 2 ^ 8))
pairs_bytes i (digit ∷ []) bytes is = absurd cc
pairs_bytes i (high ∷ low ∷ rest) bytes is =
    let b = hex_bind (hex.pair_value high low i) _ bytes is in
    let more = hex_bind (hex.decode_pairs (i + 2) rest) _ bytes b.2 in
    subst AreBytes (is_ok (b.0 ∷ more.0) bytes more.2)
    (All-cons (λ (x : ℕ). x < 2 ^ 8) b.0 more.0 (pair_small high low i b.0 b.1)
    (pairs_bytes (i + 2) rest more.0 more.1))

decoded_case : (text bytes : List ℕ) (odd : Bool)
    → cond odd (Err OddLength) (hex.decode_pairs 0 text) ≡ Ok bytes → AreBytes bytes
decoded_case text bytes true is = absurd cc
decoded_case text bytes false is = pairs_bytes 0 text bytes is

-- What a line asks.

abbrev pub LineFits : Line → Type 0
LineFits (line.Ask conn bytes) = Comes conn bytes
LineFits (line.Client conn bytes) = Comes conn bytes
LineFits other = Unit {0}

abbrev AskFits : Result Line LineErr → Type 0
AskFits (Ok l) = LineFits l
AskFits (Err why) = Unit {0}

abbrev GivesBytes : Result (List ℕ) LineErr → Type 0
GivesBytes (Ok bytes) = AreBytes bytes
GivesBytes (Err why) = Unit {0}

decoded_fits : (r : Result (List ℕ) FromHexError) → ((bytes : List ℕ) → r ≡ Ok bytes → AreBytes bytes)
    → GivesBytes (decoded r)
decoded_fits (Ok bytes) h = h bytes refl
decoded_fits (Err why) h = tt

none_or : (b : Bool) (r : Result (List ℕ) LineErr) → GivesBytes r → GivesBytes (cond b (Err Hex) r)
none_or true r h = tt
none_or false r h = h

bytes_fit : (digits : List ℕ) → GivesBytes (bytes_in digits)
bytes_fit digits = none_or (length digits == 0) (decoded (hex.decode_of digits))
    (decoded_fits (hex.decode_of digits)
    (λ bytes is. decoded_case digits bytes (length digits % 2 == 1) is))

abbrev GivesConn : Result (ℕ × List ℕ) LineErr → Type 0
GivesConn (Ok a) = Comes a.0 a.1
GivesConn (Err why) = Unit {0}

small_case : (n : ℕ) (bytes : List ℕ) (b : Bool) → nat_le n 4294967295 ≡ b → AreBytes bytes
    → GivesConn (mapped (λ (conn : ℕ). (conn, bytes)) (cond b (Ok n) (Err Number)))
small_case n bytes true is h = (grind (arith, is), h)
small_case n bytes false is h = tt

with_small : (n : ℕ) (r : Result (List ℕ) LineErr) → GivesBytes r → GivesConn (with_number n r)
with_small n (Ok bytes) h = small_case n bytes (nat_le n 4294967295) refl h
with_small n (Err why) h = tt

decimal_or : (b : Bool) (r : Result (ℕ × List ℕ) LineErr) → GivesConn r
    → GivesConn (cond b r (Err Form))
decimal_or true r h = h
decimal_or false r h = tt

asked_fits : (conn digits : List ℕ) → GivesConn (asked_in conn digits)
asked_fits conn digits = decimal_or (is_decimal conn) (with_number (value_of conn) (bytes_in digits))
    (with_small (value_of conn) (bytes_in digits) (bytes_fit digits))

one_fits : (settle dump log : Bool) → AskFits (cond settle (Ok line.Settle) (cond dump
    (Ok line.Dump) (cond log (Ok line.Log) (Err Form))))
one_fits true dump log = tt
one_fits false true log = tt
one_fits false false true = tt
one_fits false false false = tt

mapped_fits : {A : Type 0} (f : A → Line) (r : Result A LineErr) → ((a : A) → LineFits (f a))
    → AskFits (mapped f r)
mapped_fits f (Ok a) h = h a
mapped_fits f (Err why) h = tt

two_fits : (digits : List ℕ) (gone deliver lose wall : Bool) → AskFits (cond gone
    (mapped (λ (n : ℕ). line.Gone n) (number_in 4294967295 digits)) (cond deliver
    (mapped (λ (n : ℕ). line.Deliver n) (number_in 18446744073709551615 digits)) (cond lose
    (mapped (λ (n : ℕ). line.Lose n) (number_in 18446744073709551615 digits)) (cond wall
    (mapped (λ (n : ℕ). line.Wall n) (number_in 4294967295 digits)) (Err Form)))))
two_fits digits true deliver lose wall =
    mapped_fits (λ (n : ℕ). line.Gone n) (number_in 4294967295 digits) (λ n. tt)
two_fits digits false true lose wall =
    mapped_fits (λ (n : ℕ). line.Deliver n) (number_in 18446744073709551615 digits) (λ n. tt)
two_fits digits false false true wall =
    mapped_fits (λ (n : ℕ). line.Lose n) (number_in 18446744073709551615 digits) (λ n. tt)
two_fits digits false false false true =
    mapped_fits (λ (n : ℕ). line.Wall n) (number_in 4294967295 digits) (λ n. tt)
two_fits digits false false false false = tt

ask_fits : (r : Result (ℕ × List ℕ) LineErr) → GivesConn r
    → AskFits (mapped (λ (a : ℕ × List ℕ). line.Ask a.0 a.1) r)
ask_fits (Ok a) h = h
ask_fits (Err why) h = tt

client_fits : (r : Result (ℕ × List ℕ) LineErr) → GivesConn r
    → AskFits (mapped (λ (a : ℕ × List ℕ). line.Client a.0 a.1) r)
client_fits (Ok a) h = h
client_fits (Err why) h = tt

three_fits : (first second : List ℕ) (ask client restart resend : Bool) → AskFits (cond ask
    (mapped (λ (a : ℕ × List ℕ). line.Ask a.0 a.1) (asked_in first second)) (cond client
    (mapped (λ (a : ℕ × List ℕ). line.Client a.0 a.1) (asked_in first second)) (cond restart
    (mapped (λ (node : NodeId). line.Restart node) (node_in first second)) (cond resend
    (mapped (λ (node : NodeId). line.Resend node) (node_in first second)) (Err Form)))))
three_fits first second true client restart resend =
    ask_fits (asked_in first second) (asked_fits first second)
three_fits first second false true restart resend =
    client_fits (asked_in first second) (asked_fits first second)
three_fits first second false false true resend =
    mapped_fits (λ (node : NodeId). line.Restart node) (node_in first second) (λ node. tt)
three_fits first second false false false true =
    mapped_fits (λ (node : NodeId). line.Resend node) (node_in first second) (λ node. tt)
three_fits first second false false false false = tt

words_fit : (words : List (List ℕ)) → AskFits (words_ask words)
words_fit [] = tt
words_fit (word ∷ []) = one_fits (bytes_eq word (codes "settle")) (bytes_eq word (codes "dump"))
    (bytes_eq word (codes "log"))
words_fit (word ∷ first ∷ []) = two_fits first (bytes_eq word (codes "gone"))
    (bytes_eq word (codes "deliver")) (bytes_eq word (codes "lose")) (bytes_eq word (codes "wall"))
words_fit (word ∷ first ∷ second ∷ []) = three_fits first second (bytes_eq word (codes "ask"))
    (bytes_eq word (codes "client")) (bytes_eq word (codes "restart"))
    (bytes_eq word (codes "resend"))
words_fit (word ∷ first ∷ second ∷ third ∷ words) = tt

form_or : (b : Bool) (r : Result Line LineErr) → AskFits r → AskFits (cond b r (Err Form))
form_or true r h = h
form_or false r h = tt

read_fits : (l : List ℕ) → AskFits (read_of l)
unfolding read_of
read_fits l = form_or (nat_le (length l) 100000000) (words_ask (slice_split (λ b. b == 32) l))
    (words_fit (slice_split (λ b. b == 32) l))

abbrev pub SomeFits : Option Line → Type 0
SomeFits None = Unit {0}
SomeFits (Some l) = LineFits l

by_result : (r : Result Line LineErr) → AskFits r → SomeFits (asked_by r)
by_result (Ok l) h = h
by_result (Err why) h = tt

pub line_fits : (l : List ℕ) → SomeFits (line_of l)
line_fits l = by_result (read_of l) (read_fits l)
