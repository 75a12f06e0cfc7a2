-- The text of values and documents: one line, as its bytes in UTF-8. From JSON (RFC 8259) it takes
-- the marks around texts, documents and lists, and how a character is escaped. The other kinds have
-- forms of this project's own, so that each kind can be told from the others.
use Rattle.std.specs.Prelude.{ℕ, ◌/◌, ◌%◌, ◌^◌, ◌≤◌, ◌==◌, nat_lt, true, false, if◌then◌else◌, List}
use Rattle.std.specs.Prelude.{[], ◌∷◌, ◌++◌, map, codes}
use Rattle.std.specs.Char.{digit_char}
use Rattle.std.specs.Fmt.{decimal, signed_decimal}
use Rattle.std.specs.List.{All, flat_map, join_by}
use Rattle.std.specs.Str.{byte}
use Rattle.bson_core.specs.declared.value.Bin.{Bin}
use Rattle.bson_core.specs.declared.value.Value.{Value}
use Rattle.bson_core.specs.declared.value.Value.TheOpen as of
use Rattle.bson_core.specs.declared.value.Value.TheOpen.{Value-F}
use Rattle.bson_core.specs.declared.value.Value.TheFolds.{fold-Value}
use Rattle.bson_core.specs.Fields.{Document}

-- each byte as two hexadecimal digits in lower case, the high four bits first
abbrev pub hex_digits : List ℕ → List ℕ
hex_digits bytes = flat_map (λ b. digit_char (b / 16) ∷ digit_char (b % 16) ∷ []) bytes

-- a byte of a text in quotes: a quote and a backslash get a backslash in front, and a control byte
-- is written by its number. The bytes of a character outside ASCII are all above these, and stay.
abbrev pub escaped : ℕ → List ℕ
escaped b =
    if b == byte "\"" then codes "\\\""
    else if b == byte "\\" then codes "\\\\"
    else if nat_lt b 32 then codes "\\u00" ++ hex_digits (b ∷ [])
    else b ∷ []

-- a text in double quotes
abbrev pub quoted : List ℕ → List ℕ
quoted text = codes "\"" ++ flat_map escaped text ++ codes "\""

-- the subtype and the bytes, as in `b4:00ff`
abbrev pub binary : Bin → List ℕ
binary b = codes "b" ++ decimal b.subtype ++ codes ":" ++ hex_digits b.bytes

-- the seconds and the increment, as in `t:1700000000.1`
abbrev pub timestamp : ℕ → List ℕ
timestamp n = codes "t:" ++ decimal (n / 2 ^ 32) ++ codes "." ++ decimal (n % 2 ^ 32)

-- a name, and the text of its value
abbrev pub field_text : List ℕ × List ℕ → List ℕ
field_text field = quoted field.0 ++ codes ": " ++ field.1

-- the fields with commas between them, in braces
abbrev pub braced : List (List ℕ × List ℕ) → List ℕ
braced fields = codes "{" ++ join_by field_text (codes ", ") fields ++ codes "}"

-- the texts with commas between them, in brackets
abbrev pub bracketed : List (List ℕ) → List ℕ
bracketed texts = codes "[" ++ join_by (λ text. text) (codes ", ") texts ++ codes "]"

-- by cases on the kinds, over the texts of what a document or a list holds
abbrev pub text_step : Value-F (List ℕ) → List ℕ
text_step of.Null = codes "null"
text_step (of.Bool true) = codes "true"
text_step (of.Bool false) = codes "false"
text_step (of.Int n) = signed_decimal n
text_step (of.Long n) = signed_decimal n ++ codes "L"
text_step (of.Text t) = quoted t
text_step (of.Doc fields) = braced fields
text_step (of.List texts) = bracketed texts
text_step (of.Bin b) = binary b
text_step (of.Oid bytes) = codes "o:" ++ hex_digits bytes
text_step (of.Date n) = codes "d:" ++ signed_decimal n
text_step (of.Stamp n) = timestamp n

-- the text of a value
abbrev pub value_text : Value → List ℕ
value_text = fold-Value (List ℕ) text_step

-- the text of a document
abbrev pub document_text : Document → List ℕ
document_text doc = braced (map (λ (field : List ℕ × Value). (field.0, value_text field.1)) doc)

-- no byte is a control byte, and so none is a line feed
abbrev pub IsOneLine : List ℕ → Type 0
IsOneLine text = All (λ b. 32 ≤ b) text
