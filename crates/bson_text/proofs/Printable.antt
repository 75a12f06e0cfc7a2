-- No byte of a text is a control byte.
use Rattle.std.proofs.Common.{◌≡◌, ℕ, zero, suc, ◌/◌, ◌%◌, ◌≤◌, ◌==◌, nat_le, nat_lt, ◌^◌, ℤ, pos}
use Rattle.std.proofs.Common.{negsuc, Bool, true, false, if◌then◌else◌, List, [], ◌∷◌, ◌++◌, map}
use Rattle.std.proofs.Common.{codes, refl, subst, arith}
use Rattle.std.specs.Char.{digit_char}
use Rattle.std.specs.Fmt.{digits, digits_onto, digit_glyph, decimal, signed_decimal}
use Rattle.std.specs.List.{flat_map, join_by, list_all}
use Rattle.std.proofs.lemmas.List.Elements.{All-nil, All-cons, All-append, All-weaker}
use Rattle.std.proofs.lemmas.List.Sums.{AllPass-from_list_all}
use Rattle.std.proofs.lemmas.Bool.Decides.{nat_tests}
use Rattle.bson_core.specs.declared.value.Value.{Value, map-Value}
use Rattle.bson_core.specs.declared.value.Value.TheOpen as of
use Rattle.bson_core.specs.declared.value.Value.TheOpen.{Value-F}
use Rattle.bson_core.specs.declared.value.Value.TheViews as views
use Rattle.bson_core.specs.declared.value.Value.TheViews.{roll-Value}
use Rattle.bson_core.specs.declared.value.Value.TheFolds.{fold-roll-Value, ind-Value}
use Rattle.bson_core.specs.Fields.{Document}
use Rattle.bson_text.specs.Text.{hex_digits, escaped, quoted, field_text, text_step, value_text}
use Rattle.bson_text.specs.Text.{document_text, IsOneLine}
use Rattle.bson_text.proofs.Equations.{value_text_doc}

record IsPrintable (bytes : List ℕ) : Type 0 where
  each : IsOneLine bytes

none : IsPrintable []
none = record { each = All-nil (λ b. 32 ≤ b) }

cons : {b : ℕ} {bytes : List ℕ} → 32 ≤ b → IsPrintable bytes → IsPrintable (b ∷ bytes)
cons {b} {bytes} printable rest =
    record { each = All-cons (λ b. 32 ≤ b) b bytes printable rest.each }

append : {xs ys : List ℕ} → IsPrintable xs → IsPrintable ys → IsPrintable (xs ++ ys)
append {xs} {ys} front back = record { each = All-append (λ b. 32 ≤ b) xs ys front.each back.each }

-- a literal text, by a test that computes
literal : (bytes : List ℕ) → list_all (nat_le 32) bytes ≡ true → IsPrintable bytes
literal bytes passes = record {
  each = All-weaker (λ b. nat_le 32 b ≡ true) (λ b. 32
      ≤ b) (λ b h. grind (arith, nat_tests)) bytes (AllPass-from_list_all (nat_le 32) bytes passes);
}

printable_flat_map : {X : Type 0} (f : X → List ℕ) → ((x : X) → IsPrintable (f x)) → (xs : List X)
    → IsPrintable (flat_map f xs)
printable_flat_map f each [] = none
printable_flat_map f each (x ∷ xs) = append (each x) (printable_flat_map f each xs)

printable_digit : (d : ℕ) → 32 ≤ digit_char d
printable_digit d = grind (arith, nat_tests)

printable_hex : (bytes : List ℕ) → IsPrintable (hex_digits bytes)
printable_hex = printable_flat_map (λ b. digit_char (b / 16) ∷ digit_char (b % 16)
    ∷ []) (λ b. cons (printable_digit (b / 16)) (cons (printable_digit (b % 16)) none))

printable_glyph : (upper : Bool) (d : ℕ) → 32 ≤ digit_glyph upper d
printable_glyph true d = grind (arith, nat_tests)
printable_glyph false d = grind (arith, nat_tests)

either : (test : Bool) (xs ys : List ℕ) → IsPrintable xs → IsPrintable ys
    → IsPrintable (if test then xs else ys)
either true xs ys first second = first
either false xs ys first second = second

printable_digits_onto : (k base : ℕ) (upper : Bool) (n : ℕ) (rest : List ℕ) → IsPrintable rest
    → IsPrintable (digits_onto k base upper n rest)
printable_digits_onto zero base upper n rest is = is
printable_digits_onto (suc k) base upper n rest is =
    let more = cons (printable_glyph upper (n % base)) is in
    either (n / base == 0) _ _ more (printable_digits_onto k base upper (n / base) _ more)

printable_decimal : (n : ℕ) → IsPrintable (decimal n)
unfolding digits
printable_decimal n = printable_digits_onto 64 10 false n [] none

printable_signed : (z : ℤ) → IsPrintable (signed_decimal z)
printable_signed (pos n) = printable_decimal n
printable_signed (negsuc n) = cons (omega arith) (printable_decimal (suc n))

printable_control : (b : ℕ) (control : Bool) → nat_lt b 32 ≡ control
    → IsPrintable (if control then codes "\\u00" ++ hex_digits (b ∷ []) else b ∷ [])
printable_control b true is = append (literal (codes "\\u00") refl) (printable_hex (b ∷ []))
printable_control b false is = cons (grind (arith, nat_tests)) none

printable_escaped : (b : ℕ) → IsPrintable (escaped b)
printable_escaped b = either (b == 34) _ _ (literal (codes "\\\"") refl) (either (b == 92) _ _
    (literal (codes "\\\\") refl) (printable_control b (nat_lt b 32) refl))

printable_quoted : (text : List ℕ) → IsPrintable (quoted text)
printable_quoted text = append (append (literal (codes "\"") refl)
    (printable_flat_map escaped printable_escaped text)) (literal (codes "\"") refl)

module _ {X Y Z : Type 0} (f : Z → List ℕ) (g : Y → Z) (h : X → Y)
    (each : (x : X) → IsPrintable (f (g (h x)))) where
  printable_rest : (xs : List X)
      → IsPrintable (flat_map (λ z. codes ", " ++ f z) (map g (map h xs)))
  printable_rest [] = none
  printable_rest (x ∷ xs) = append (append (literal (codes ", ") refl) (each x)) (printable_rest xs)

  printable_join : (xs : List X) → IsPrintable (join_by f (codes ", ") (map g (map h xs)))
  printable_join [] = none
  printable_join (x ∷ xs) = append (each x) (printable_rest xs)

-- a value with a proof that its text is printable
abbrev Printed : Type 0
Printed = (value : Value) × IsPrintable (value_text value)

printable_step : (x : Value-F Printed) → IsPrintable (text_step
    (map-Value Value (List ℕ) value_text (map-Value Printed Value (λ e. e.0) x)))
printable_step of.Null = literal (codes "null") refl
printable_step (of.Bool true) = literal (codes "true") refl
printable_step (of.Bool false) = literal (codes "false") refl
printable_step (of.Int n) = printable_signed n
printable_step (of.Long n) = append (printable_signed n) (literal (codes "L") refl)
printable_step (of.Text t) = printable_quoted t
printable_step (of.Doc fields) = append (append (literal (codes "{") refl)
    (printable_join field_text (λ (field : List ℕ × Value). (field.0, value_text field.1))
    (λ (field : List ℕ × Printed). (field.0, field.1.0)) (λ field. append (append (printable_quoted
    field.0) (literal (codes ": ") refl)) field.1.1) fields)) (literal (codes "}") refl)
printable_step (of.List values) =
    append (append (literal (codes "[") refl) (printable_join (λ (text : List ℕ). text) value_text
    (λ (e : Printed). e.0) (λ e. e.1) values)) (literal (codes "]") refl)
printable_step (of.Bin b) = append (append (append (literal (codes "b") refl)
    (printable_decimal b.subtype)) (literal (codes ":") refl)) (printable_hex b.bytes)
printable_step (of.Oid bytes) = append (literal (codes "o:") refl) (printable_hex bytes)
printable_step (of.Date n) = append (literal (codes "d:") refl) (printable_signed n)
printable_step (of.Stamp n) = append (append (append (literal (codes "t:") refl)
    (printable_decimal (n / 2 ^ 32))) (literal (codes ".") refl)) (printable_decimal (n % 2 ^ 32))

printable_layer : (x : Value-F Printed)
    → IsPrintable (value_text (roll-Value (map-Value Printed Value (λ e. e.0) x)))
printable_layer x = rw (fold-roll-Value (List ℕ) text_step (map-Value Printed Value (λ e. e.0) x))
    (printable_step x)

printable_value : (value : Value) → IsPrintable (value_text value)
printable_value = ind-Value (λ value. IsPrintable (value_text value)) (λ x y is.
    subst (λ (z : Value-F Value). IsPrintable (value_text (roll-Value z))) is (printable_layer y))

pub one_line_value : (value : Value) → IsOneLine (value_text value)
one_line_value value = (printable_value value).each

pub one_line_document : (doc : Document) → IsOneLine (document_text doc)
one_line_document doc =
    (subst IsPrintable (value_text_doc doc) (printable_value (views.Doc doc))).each
