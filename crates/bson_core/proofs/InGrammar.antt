-- What is written is in the grammar.
use Rattle.std.proofs.Common.{◌≡◌, ℕ, zero, suc, ◌+◌, ◌%◌, ◌^◌, ◌≤◌, ◌<◌, Bool, true, eqb, not}
use Rattle.std.proofs.Common.{List, [], ◌∷◌, length, map, refl, sym, ap, subst, ◌∙◌, arith, ℤ}
use Rattle.std.specs.Prelude.{FitsSigned}
use Rattle.std.specs.Int.{w32, w64, to_le_bytes, cast_unsigned}
use Rattle.std.specs.List.{All}
use Rattle.std.specs.Str.{is_utf8}
use Rattle.std.specs.Fmt.{decimal}
use Rattle.std.proofs.lemmas.Fmt.{decimal_by_steps, IsAscii-decimal}
use Rattle.std.proofs.lemmas.Str.{IsUtf8-from_ascii, is_utf8-from_IsUtf8}
use Rattle.std.proofs.lemmas.List.{length-append}
use Rattle.std.proofs.lemmas.List.Elements.{All-head, All-tail}
use Rattle.std.proofs.lemmas.List.Folds.{list_all-append}
use Rattle.std.proofs.lemmas.Bool.{ne_eqb}
use Rattle.bson_core.specs.declared.value.Bin.{Bin}
use Rattle.bson_core.specs.declared.value.Value.{Value}
use Rattle.bson_core.specs.declared.value.Value.TheOpen as of
use Rattle.bson_core.specs.declared.value.Value.TheViews.{roll-Value, out-Value, out-roll-Value}
use Rattle.bson_core.specs.declared.value.Value.TheViews as views
use Rattle.bson_core.specs.declared.value.Value.TheVariants as variants
use Rattle.bson_core.specs.declared.value.Value.TheFolds.{fold-roll-Value}
use Rattle.bson_core.specs.Names.{has_no_zero, IsName}
use Rattle.bson_core.specs.Fields.{Document}
use Rattle.bson_core.specs.Spelling.{Coded, coded_step, coded, element, elements, numbered, framed}
use Rattle.bson_core.specs.Spelling.{text, binary, bit, spelling}
use Rattle.bson_core.specs.Grammar.{values_of, ReadsAt, Reads, reads_leaf, reads_step}
use Rattle.bson_core.specs.Grammar.{ReadsElements}
use Rattle.bson_core.specs.Nesting.{greatest, levels_step, levels, nesting}
use Rattle.bson_core.specs.Written.{most, IsWritten, IsFieldWritten}
use Rattle.bson_core.proofs.Spelled.{coded_text, coded_doc, coded_list, coded_bin, coded_oid}
use Rattle.bson_core.proofs.Lengths.{length_text, length_framed, length_binary}
use Rattle.bson_core.proofs.Sound.{leaf_step}

-- Levels.

levels_fields : (fields : Document) → map (λ (field : List ℕ × ℕ). field.1) (map
    (λ (field : List ℕ × Value). (field.0, levels field.1)) fields) ≡ map levels (values_of fields)
levels_fields [] = refl
levels_fields (field ∷ fields) = ap (λ (ns : List ℕ). levels field.1 ∷ ns) (levels_fields fields)

levels_doc : (fields : Document)
    → levels (views.Doc fields) ≡ 1 + greatest (map levels (values_of fields))
unfolding views.roll-Value denote.Hole.Carrier.roll
levels_doc fields = fold-roll-Value ℕ levels_step (of.Doc fields)
    ∙ ap (λ (ns : List ℕ). 1 + greatest ns) (levels_fields fields)

levels_list : (values : List Value) → levels (views.List values) ≡ 1 + greatest (map levels values)
unfolding views.roll-Value denote.Hole.Carrier.roll
levels_list values = fold-roll-Value ℕ levels_step (of.List values)

-- Values that hold no others.

leaf_reads : (depth : ℕ) (x : of.Value-F Value) (kind : ℕ) (bytes : List ℕ)
    → reads_leaf x kind bytes → ReadsAt depth (roll-Value x) kind bytes
unfolding ReadsAt
leaf_reads zero x kind bytes h = rw out-roll-Value h
leaf_reads (suc depth) x kind bytes h = rw out-roll-Value (leaf_step (ReadsAt depth) x kind bytes h)

step_reads : (depth : ℕ) (x : of.Value-F Value) (kind : ℕ) (bytes : List ℕ)
    → reads_step (ReadsAt depth) x kind bytes → ReadsAt (suc depth) (roll-Value x) kind bytes
unfolding ReadsAt
step_reads depth x kind bytes h = rw out-roll-Value h

leaf_written : (x : of.Value-F Value) (kind : ℕ) (bytes : List ℕ)
    → coded (roll-Value x) ≡ (kind, bytes) → (length bytes ≤ most → reads_leaf x kind bytes)
    → IsWritten (roll-Value x)
leaf_written x kind bytes is reads depth deep small =
    let short : length bytes ≤ most = rw is at small in
    subst (λ (c : Coded). ReadsAt depth (roll-Value x) c.0 c.1) (sym is)
    (leaf_reads depth x kind bytes (reads short))

pub text_written : (t : List ℕ) → is_utf8 t ≡ true → IsWritten (variants.Text t)
unfolding views.roll-Value denote.Hole.Carrier.roll
text_written t u = leaf_written (of.Text t) 2 (text t) (coded_text t) (λ small.
    (refl, refl, u, omega (arith, length_text t)))

pub bin_written : (b : Bin) → IsWritten (variants.Bin b)
unfolding views.roll-Value denote.Hole.Carrier.roll
bin_written b = leaf_written (of.Bin b) 5 (binary b) (coded_bin b) (λ small.
    (refl, refl, omega (arith, length_binary b)))

pub oid_written : (id : List ℕ) → length id ≡ 12 → IsWritten (variants.Oid id)
unfolding views.roll-Value denote.Hole.Carrier.roll
oid_written id len = leaf_written (of.Oid id) 7 id (coded_oid id) (λ small. (refl, refl, len))

pub bool_written : (b : Bool) → IsWritten (variants.Bool b)
unfolding views.roll-Value denote.Hole.Carrier.roll
bool_written b = leaf_written (of.Bool b) 8 (bit b
    ∷ []) (fold-roll-Value Coded coded_step (of.Bool b)) (λ small. (refl, refl))

pub date_written : (n : ℤ) → FitsSigned w64 n → IsWritten (variants.Date n)
unfolding views.roll-Value denote.Hole.Carrier.roll
date_written n fits = leaf_written (of.Date n) 9 (to_le_bytes w64 (cast_unsigned w64 n))
    (fold-roll-Value Coded coded_step (of.Date n)) (λ small. (refl, refl, fits))

pub null_written : IsWritten variants.Null
unfolding views.roll-Value denote.Hole.Carrier.roll
null_written =
    leaf_written of.Null 10 [] (fold-roll-Value Coded coded_step of.Null) (λ small. (refl, refl))

pub int_written : (n : ℤ) → FitsSigned w32 n → IsWritten (variants.Int n)
unfolding views.roll-Value denote.Hole.Carrier.roll
int_written n fits = leaf_written (of.Int n) 16 (to_le_bytes w32 (cast_unsigned w32 n))
    (fold-roll-Value Coded coded_step (of.Int n)) (λ small. (refl, refl, fits))

pub stamp_written : (n : ℕ) → n < 2 ^ 64 → IsWritten (variants.Stamp n)
unfolding views.roll-Value denote.Hole.Carrier.roll
stamp_written n lt = leaf_written (of.Stamp n) 17 (to_le_bytes w64 n) (fold-roll-Value Coded
    coded_step (of.Stamp n)) (λ small. (refl, refl, lt))

pub long_written : (n : ℤ) → FitsSigned w64 n → IsWritten (variants.Long n)
unfolding views.roll-Value denote.Hole.Carrier.roll
long_written n fits = leaf_written (of.Long n) 18 (to_le_bytes w64 (cast_unsigned w64 n))
    (fold-roll-Value Coded coded_step (of.Long n)) (λ small. (refl, refl, fits))

-- Names of the values of a list.

digit_is_not_zero : (n : ℕ) → has_no_zero ((48 + n) ∷ []) ≡ true
digit_is_not_zero n = rw (ne_eqb (48 + n) 0 (λ is. omega arith)) refl

no_zero_in_decimal : (n : ℕ) → n < 2 ^ 64 → has_no_zero (decimal n) ≡ true
no_zero_in_decimal = decimal_by_steps (λ n ds. has_no_zero ds ≡ true) (λ n lt. digit_is_not_zero n)
    (λ n ds le front. rw (
      list_all-append (λ b. not (eqb b 0)) ds ((48 + n % 10) ∷ []),
      front,
      digit_is_not_zero (n % 10),
    ) refl)

number_is_name : (n : ℕ) → n < 2 ^ 64 → IsName (decimal n)
number_is_name n lt = (
  is_utf8-from_IsUtf8 _ (IsUtf8-from_ascii (decimal n) (IsAscii-decimal n lt)),
  no_zero_in_decimal n lt,
)

abbrev named : ℕ → List Value → Document
named place [] = []
named place (value ∷ values) = (decimal place, value) ∷ named (place + 1) values

values_of_named : (place : ℕ) (values : List Value) → values_of (named place values) ≡ values
values_of_named place [] = refl
values_of_named place (value ∷ values) =
    ap (λ (vs : List Value). value ∷ vs) (values_of_named (place + 1) values)

-- Documents and lists.

pub elements_written : (depth : ℕ) (fields : Document) → All IsFieldWritten fields
    → greatest (map levels (values_of fields)) ≤ depth → length (elements fields) ≤ most
    → ReadsElements (ReadsAt depth) fields (elements fields)
elements_written depth [] all deep small = refl
elements_written depth (field ∷ fields) all deep small =
    let first = All-head IsFieldWritten field fields all in
    let c = coded field.1 in
    let len = length-append (element (field.0, c)) (elements fields) in
    let inner = length-append (c.0 ∷ field.0) (0 ∷ c.1) in (
      c.0,
      c.1,
      elements fields,
      first.1 depth (omega arith) (omega (arith, len, inner)),
      first.0,
      refl,
      elements_written depth fields (All-tail IsFieldWritten field fields all) (omega arith)
          (omega (arith, len)),
    )

items_written : (depth place : ℕ) (values : List Value) → All IsWritten values
    → greatest (map levels values) ≤ depth → place + length (numbered place (map coded values))
    ≤ most → ReadsElements (ReadsAt depth) (named place values) (numbered place (map coded values))
items_written depth place [] all deep small = refl
items_written depth place (value ∷ values) all deep small =
    let first = All-head IsWritten value values all in
    let c = coded value in
    let rest = numbered (place + 1) (map coded values) in
    let len = length-append (element (decimal place, c)) rest in
    let inner = length-append (c.0 ∷ decimal place) (0 ∷ c.1) in (
      c.0,
      c.1,
      rest,
      first depth (omega arith) (omega (arith, len, inner)),
      number_is_name place (omega arith),
      refl,
      items_written depth (place + 1) values (All-tail IsWritten value values all) (omega arith)
          (omega (arith, len, inner)),
    )

pub doc_written : (fields : Document) → All IsFieldWritten fields → IsWritten (views.Doc fields)
unfolding views.roll-Value denote.Hole.Carrier.roll
doc_written fields all zero deep small = absurd (omega (arith, levels_doc fields))
doc_written fields all (suc depth) deep small =
    let short : length (framed (elements fields)) ≤ most = rw (coded_doc fields) at small in
    let len = length_framed (elements fields) in
    subst (λ (c : Coded). ReadsAt (suc depth) (views.Doc fields) c.0 c.1) (sym (coded_doc fields))
    (step_reads depth (of.Doc fields) 3 (framed (elements fields)) (
      refl,
      (
        elements fields,
        elements_written depth fields all (omega (arith, levels_doc fields)) (omega (arith, len)),
        refl,
        omega (arith, len),
      ),
    ))

pub list_written : (values : List Value) → All IsWritten values → IsWritten (views.List values)
unfolding views.roll-Value denote.Hole.Carrier.roll
list_written values all zero deep small = absurd (omega (arith, levels_list values))
list_written values all (suc depth) deep small =
    let items = numbered 0 (map coded values) in
    let short : length (framed items) ≤ most = rw (coded_list values) at small in
    let len = length_framed items in
    subst (λ (c : Coded). ReadsAt (suc depth) (views.List values) c.0 c.1) (sym (coded_list values))
    (step_reads depth (of.List values) 4 (framed items) (
      refl,
      (
        items,
        (
          named 0 values,
          values_of_named 0 values,
          items_written depth 0 values all (omega (arith, levels_list values)) (omega (arith, len)),
        ),
        refl,
        omega (arith, len),
      ),
    ))

-- The whole.

pub spelling_reads : (doc : Document) → All IsFieldWritten doc → nesting doc ≤ 100
    → length (spelling doc) ≤ most → Reads 100 doc (spelling doc)
spelling_reads doc all deep small =
    let len = length_framed (elements doc) in (
      elements doc,
      elements_written 99 doc all (omega arith) (omega (arith, len)),
      refl,
      omega (arith, len),
    )
