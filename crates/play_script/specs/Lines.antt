-- Lines of a schedule, and what they ask: the grammar of docs/formats/SCHEDULES.md.
use Rattle.std.specs.Prelude.{◌≡◌, ◌≤◌, ℕ, ◌+◌, ◌-◌, ◌*◌, ◌==◌, ◌&&◌, ◌||◌, Bool, not, true, false}
use Rattle.std.specs.Prelude.{List, [], ◌∷◌, length, fold, nat_le, Option, Some, None, Result, Ok}
use Rattle.std.specs.Prelude.{Err, codes, if◌then◌else◌}
use Rattle.std.specs.List.{list_all, slice_split}
use Rattle.std.specs.Str.{bytes_eq}
use Rattle.play_script.specs.Limits.{most_line}
use Rattle.outcomes.specs.Outcome as outcome
use Rattle.hex.specs.Hex.{decode_of}
use Rattle.hex.specs.declared.error.FromHexError.{FromHexError}
use Rattle.hex.specs.declared.error.FromHexError.TheVariants.{OutOfMemory}
use Rattle.txn_types.specs.declared.node.NodeId.{NodeId}
use Rattle.txn_types.specs.declared.node.NodeId.TheVariants.{Shard, Router}
use Rattle.play_script.specs.declared.line.Line.{Line}
use Rattle.play_script.specs.declared.line.Line.TheVariants as line
use Rattle.play_script.specs.declared.line.LineErr.{LineErr}
use Rattle.play_script.specs.declared.line.LineErr.TheVariants.{Form, Hex, Number, Memory}

-- no byte of these is that one
abbrev pub Lacks : ℕ → List ℕ → Type 0
Lacks byte bytes = list_all (λ b. not (b == byte)) bytes ≡ true

-- the pieces as lines: after the last line feed there is no line where nothing stands
abbrev pub lines_in : List (List ℕ) → List (List ℕ)
lines_in [] = []
lines_in (x ∷ []) = if length x == 0 then [] else x ∷ []
lines_in (x ∷ y ∷ more) = x ∷ lines_in (y ∷ more)

-- the lines of a text: each is ended by a line feed, which the last may lack
unfoldable pub lines_of : List ℕ → List (List ℕ)
lines_of text = lines_in (slice_split (λ b. b == 10) text)

-- Results of reading.

abbrev pub is_memory : LineErr → Bool
is_memory Memory = true
is_memory other = false

-- the result is what is defined, or there was no memory
abbrev pub Gives : {X Y : Type 0} → (X → Y) → Result X LineErr → Result Y LineErr → Type 0
Gives view result defined = outcome.Gives is_memory view result defined

abbrev pub mapped : {A B : Type 0} → (A → B) → Result A LineErr → Result B LineErr
mapped f (Ok a) = Ok (f a)
mapped f (Err why) = Err why

-- Words of a line, which one space parts.

abbrev pub is_digit : ℕ → Bool
is_digit b = nat_le 48 b && nat_le b 57

-- decimal digits, without a leading zero but for 0 itself
abbrev pub is_decimal : List ℕ → Bool
is_decimal [] = false
is_decimal (d ∷ more) = list_all is_digit (d ∷ more) && (length more == 0 || not (d == 48))

-- the number with one more digit
abbrev pub with_digit : ℕ → ℕ → ℕ
with_digit n d = n * 10 + (d - 48)

-- the number of digits
abbrev pub value_of : List ℕ → ℕ
value_of digits = fold with_digit 0 digits

abbrev pub number_by : ℕ → ℕ → Result ℕ LineErr
number_by most n = if nat_le n most then Ok n else Err Number

-- the number that the digits spell, at most so large
abbrev pub number_in : ℕ → List ℕ → Result ℕ LineErr
number_in most digits = if is_decimal digits then number_by most (value_of digits) else Err Form

-- what is told of digits that are no bytes
abbrev pub told_of : FromHexError → LineErr
told_of OutOfMemory = Memory
told_of other = Hex

abbrev pub decoded : Result (List ℕ) FromHexError → Result (List ℕ) LineErr
decoded (Ok bytes) = Ok bytes
decoded (Err why) = Err Hex

-- bytes in hexadecimal, digits of either case; not none
abbrev pub bytes_in : List ℕ → Result (List ℕ) LineErr
bytes_in digits = if length digits == 0 then Err Hex else decoded (decode_of digits)

-- a node's kind and number
abbrev pub node_in : List ℕ → List ℕ → Result NodeId LineErr
node_in kind digits =
    if bytes_eq kind (codes "shard") then mapped (λ n. Shard n) (number_in 65535 digits)
    else if bytes_eq kind (codes "router") then mapped (λ n. Router n) (number_in 65535 digits)
    else Err Form

abbrev pub with_number : ℕ → Result (List ℕ) LineErr → Result (ℕ × List ℕ) LineErr
with_number n (Ok bytes) = mapped (λ conn. (conn, bytes)) (number_by 4294967295 n)
with_number n (Err why) = Err why

-- a connection and the bytes that come on it; it is asked whether its number is one, then for the
-- bytes, then how large the number is
abbrev pub asked_in : List ℕ → List ℕ → Result (ℕ × List ℕ) LineErr
asked_in conn digits = if is_decimal conn then with_number (value_of conn) (bytes_in digits)
    else Err Form

-- What the words ask.

abbrev pub one_word : List ℕ → Result Line LineErr
one_word word =
    if bytes_eq word (codes "settle") then Ok line.Settle
    else if bytes_eq word (codes "dump") then Ok line.Dump
    else if bytes_eq word (codes "log") then Ok line.Log
    else Err Form

abbrev pub two_words : List ℕ → List ℕ → Result Line LineErr
two_words word digits =
    if bytes_eq word (codes "gone") then mapped (λ n. line.Gone n) (number_in 4294967295 digits)
    else if bytes_eq word (codes "deliver")
    then mapped (λ n. line.Deliver n) (number_in 18446744073709551615 digits)
    else if bytes_eq word (codes "lose")
    then mapped (λ n. line.Lose n) (number_in 18446744073709551615 digits)
    else if bytes_eq word (codes "wall")
    then mapped (λ n. line.Wall n) (number_in 4294967295 digits)
    else Err Form

abbrev pub three_words : List ℕ → List ℕ → List ℕ → Result Line LineErr
three_words word first second =
    if bytes_eq word (codes "ask") then mapped (λ a. line.Ask a.0 a.1) (asked_in first second)
    else if bytes_eq word (codes "client")
    then mapped (λ a. line.Client a.0 a.1) (asked_in first second)
    else if bytes_eq word (codes "restart")
    then mapped (λ node. line.Restart node) (node_in first second)
    else if bytes_eq word (codes "resend")
    then mapped (λ node. line.Resend node) (node_in first second)
    else Err Form

abbrev pub words_ask : List (List ℕ) → Result Line LineErr
words_ask (word ∷ []) = one_word word
words_ask (word ∷ first ∷ []) = two_words word first
words_ask (word ∷ first ∷ second ∷ []) = three_words word first second
words_ask other = Err Form

-- what a line asks, or why it is refused; one of more than 100,000,000 bytes has no form
unfoldable pub read_of : List ℕ → Result Line LineErr
read_of bytes = if nat_le (length bytes) most_line then words_ask (slice_split (λ b. b == 32) bytes)
    else Err Form

abbrev pub asked_by : Result Line LineErr → Option Line
asked_by (Ok asked) = Some asked
asked_by (Err why) = None

-- what a line asks; none where it is outside the grammar
abbrev pub line_of : List ℕ → Option Line
line_of bytes = asked_by (read_of bytes)

-- What is played so far: bytes that come on a connection, and what they lead to.

pub record Asked : Type 0 where
  pub connection : ℕ
  pub bytes : List ℕ

-- the line brings these bytes on this connection
pub record Asks (bytes : List ℕ) (a : Asked) : Type 0 where
  pub form : line_of bytes ≡ Some (line.Client a.connection a.bytes)
  pub short : length bytes ≤ most_line

-- the line asks nothing that is played
abbrev pub IsBad : List ℕ → Type 0
IsBad bytes = (a : Asked) → Asks bytes a → ⊥
