-- A document has a spelling in the grammar's terms, where its length allows it.
use Rattle.std.proofs.Common.{◌≡◌, ◌↔◌, ℕ, zero, suc, ◌+◌, ◌%◌, ◌^◌, ◌≤◌, ◌<◌, Bool, true, not, eqb}
use Rattle.std.proofs.Common.{List, [], ◌∷◌, length, map, refl, sym, subst, arith, ℤ}
use Rattle.std.specs.Prelude.{FitsSigned}
use Rattle.std.specs.Int.{w32, w64}
use Rattle.std.specs.List.{All}
use Rattle.std.specs.Str.{is_utf8}
use Rattle.std.specs.Fmt.{decimal}
use Rattle.std.proofs.lemmas.Fmt.{decimal_by_steps, IsAscii-decimal}
use Rattle.std.proofs.lemmas.Str.{IsUtf8-from_ascii, is_utf8-from_IsUtf8}
use Rattle.std.proofs.lemmas.List.{length-append}
use Rattle.std.proofs.lemmas.List.Elements.{All-head, All-tail}
use Rattle.std.proofs.lemmas.List.Folds.{list_all-append}
use Rattle.std.proofs.lemmas.Bool.{ne_eqb}
use Rattle.bson_core.specs.declared.value.Bin.{Bin}
use Rattle.bson_core.specs.declared.value.Value.{Value}
use Rattle.bson_core.specs.declared.value.Value.TheOpen as of
use Rattle.bson_core.specs.declared.value.Value.TheOpen.{Value-F}
use Rattle.bson_core.specs.declared.value.Value.TheViews.{roll-Value, out-Value, out-roll-Value}
use Rattle.bson_core.specs.declared.value.Value.TheViews as views
use Rattle.bson_core.specs.declared.value.Value.TheVariants as variants
use Rattle.bson_core.specs.Names.{has_no_zero, IsName}
use Rattle.bson_core.specs.Fields.{Document}
use Rattle.bson_core.specs.Spelling.{Coded, coded, element, elements, numbered, framed, spelling}
use Rattle.bson_core.specs.Grammar.{Relation, values_of, ReadsAt, reads_leaf, ReadsElements}
use Rattle.bson_core.specs.Nesting.{greatest, levels}
use Rattle.bson_core.specs.Written.{most, IsWritten}
use Rattle.bson_core.proofs.InGrammar.{text_written, bin_written, oid_written, bool_written}
use Rattle.bson_core.proofs.InGrammar.{date_written, null_written, int_written, stamp_written}
use Rattle.bson_core.proofs.InGrammar.{long_written}
use Rattle.bson_core.proofs.Spelled.{coded_doc, coded_list}
use Rattle.bson_core.proofs.Lengths.{length_framed}
use Rattle.codec_laws.specs.Spells.{named_by_place, spells_step, SpellsAt, Spells, IsSpelt}
use Rattle.codec_laws.specs.Spells.{IsFieldSpelt}
use Rattle.codec_laws.proofs.Levels.{levels_of, levels_rolled, flat_step}
use Rattle.codec_laws.proofs.Spelt.{document_spelt, spelt_short}

-- Values that hold no others.

leaf_spells : (spells : Value → Relation) (x : Value-F Value) (kind : ℕ) (bytes : List ℕ)
    → reads_leaf x kind bytes → spells_step spells x kind bytes
leaf_spells spells (of.Doc fields) kind bytes h = absurd h
leaf_spells spells (of.List values) kind bytes h = absurd h
leaf_spells spells x kind bytes h = h

leaf_spelt : (value : Value) → levels_of (out-Value value) ≤ 0 → IsWritten value → IsSpelt value
unfolding ReadsAt SpellsAt
leaf_spelt value flat written zero deep small = written zero deep small
leaf_spelt value flat written (suc depth) deep small =
    let c = coded value in
    leaf_spells (SpellsAt depth) (out-Value value) c.0 c.1
    (flat_step (ReadsAt depth) (out-Value value) c.0 c.1 flat (written (suc depth) deep small))

pub text_spelt : (t : List ℕ) → is_utf8 t ≡ true → IsSpelt (variants.Text t)
unfolding out-Value denote.Hole.Carrier.out
text_spelt t u = leaf_spelt (variants.Text t) (omega arith) (text_written t u)

pub bin_spelt : (b : Bin) → IsSpelt (variants.Bin b)
unfolding out-Value denote.Hole.Carrier.out
bin_spelt b = leaf_spelt (variants.Bin b) (omega arith) (bin_written b)

pub oid_spelt : (id : List ℕ) → length id ≡ 12 → IsSpelt (variants.Oid id)
unfolding out-Value denote.Hole.Carrier.out
oid_spelt id len = leaf_spelt (variants.Oid id) (omega arith) (oid_written id len)

pub bool_spelt : (b : Bool) → IsSpelt (variants.Bool b)
unfolding out-Value denote.Hole.Carrier.out
bool_spelt b = leaf_spelt (variants.Bool b) (omega arith) (bool_written b)

pub date_spelt : (n : ℤ) → FitsSigned w64 n → IsSpelt (variants.Date n)
unfolding out-Value denote.Hole.Carrier.out
date_spelt n fits = leaf_spelt (variants.Date n) (omega arith) (date_written n fits)

pub null_spelt : IsSpelt variants.Null
unfolding out-Value denote.Hole.Carrier.out
null_spelt = leaf_spelt variants.Null (omega arith) null_written

pub int_spelt : (n : ℤ) → FitsSigned w32 n → IsSpelt (variants.Int n)
unfolding out-Value denote.Hole.Carrier.out
int_spelt n fits = leaf_spelt (variants.Int n) (omega arith) (int_written n fits)

pub stamp_spelt : (n : ℕ) → n < 2 ^ 64 → IsSpelt (variants.Stamp n)
unfolding out-Value denote.Hole.Carrier.out
stamp_spelt n lt = leaf_spelt (variants.Stamp n) (omega arith) (stamp_written n lt)

pub long_spelt : (n : ℤ) → FitsSigned w64 n → IsSpelt (variants.Long n)
unfolding out-Value denote.Hole.Carrier.out
long_spelt n fits = leaf_spelt (variants.Long n) (omega arith) (long_written n fits)

-- The names of a list's values.

digit_is_not_zero : (n : ℕ) → has_no_zero ((48 + n) ∷ []) ≡ true
digit_is_not_zero n = rw (ne_eqb (48 + n) 0 (λ is. omega arith)) refl

no_zero_in_decimal : (n : ℕ) → n < 2 ^ 64 → has_no_zero (decimal n) ≡ true
no_zero_in_decimal = decimal_by_steps (λ n ds. has_no_zero ds ≡ true) (λ n lt. digit_is_not_zero n)
    (λ n ds le front. rw (
      list_all-append (λ b. not (eqb b 0)) ds ((48 + n % 10) ∷ []),
      front,
      digit_is_not_zero (n % 10),
    ) refl)

place_is_name : (n : ℕ) → n < 2 ^ 64 → IsName (decimal n)
place_is_name n lt = (
  is_utf8-from_IsUtf8 _ (IsUtf8-from_ascii (decimal n) (IsAscii-decimal n lt)),
  no_zero_in_decimal n lt,
)

-- Documents and lists.

elements_spelt : (depth : ℕ) (fields : Document) → All IsFieldSpelt fields
    → greatest (map levels (values_of fields)) ≤ depth → length (elements fields) ≤ most
    → ReadsElements (SpellsAt depth) fields (elements fields)
elements_spelt depth [] all deep small = refl
elements_spelt depth (field ∷ fields) all deep small =
    let first = All-head IsFieldSpelt field fields all in
    let c = coded field.1 in
    let len = length-append (element (field.0, c)) (elements fields) in
    let inner = length-append (c.0 ∷ field.0) (0 ∷ c.1) in (
      c.0,
      c.1,
      elements fields,
      first.1 depth (omega arith) (omega (arith, len, inner)),
      first.0,
      refl,
      elements_spelt depth fields (All-tail IsFieldSpelt field fields all) (omega arith)
          (omega (arith, len)),
    )

items_spelt : (depth place : ℕ) (values : List Value)
    → All IsSpelt values → greatest (map levels values) ≤ depth
    → place + length (numbered place (map coded values)) ≤ most
    → ReadsElements (SpellsAt depth) (named_by_place place values)
    (numbered place (map coded values))
items_spelt depth place [] all deep small = refl
items_spelt depth place (value ∷ values) all deep small =
    let first = All-head IsSpelt value values all in
    let c = coded value in
    let rest = numbered (place + 1) (map coded values) in
    let len = length-append (element (decimal place, c)) rest in
    let inner = length-append (c.0 ∷ decimal place) (0 ∷ c.1) in (
      c.0,
      c.1,
      rest,
      first depth (omega arith) (omega (arith, len, inner)),
      place_is_name place (omega arith),
      refl,
      items_spelt depth (place + 1) values (All-tail IsSpelt value values all) (omega arith)
          (omega (arith, len, inner)),
    )

step_spells : (depth : ℕ) (x : Value-F Value) (kind : ℕ) (bytes : List ℕ)
    → spells_step (SpellsAt depth) x kind bytes → SpellsAt (suc depth) (roll-Value x) kind bytes
unfolding SpellsAt
step_spells depth x kind bytes h = rw out-roll-Value h

pub doc_spelt : (fields : Document) → All IsFieldSpelt fields → IsSpelt (views.Doc fields)
unfolding views.roll-Value denote.Hole.Carrier.roll
doc_spelt fields all zero deep small = absurd (omega (arith, levels_rolled (of.Doc fields)))
doc_spelt fields all (suc depth) deep small =
    let short : length (framed (elements fields)) ≤ most = rw (coded_doc fields) at small in
    let len = length_framed (elements fields) in
    subst (λ (c : Coded). SpellsAt (suc depth) (views.Doc fields) c.0 c.1) (sym (coded_doc fields))
    (step_spells depth (of.Doc fields) 3 (framed (elements fields)) (
      refl,
      (
        elements fields,
        elements_spelt depth fields all (omega (arith, levels_rolled (of.Doc fields)))
            (omega (arith, len)),
        refl,
        omega (arith, len),
      ),
    ))

pub list_spelt : (values : List Value) → All IsSpelt values → IsSpelt (views.List values)
unfolding views.roll-Value denote.Hole.Carrier.roll
list_spelt values all zero deep small = absurd (omega (arith, levels_rolled (of.List values)))
list_spelt values all (suc depth) deep small =
    let items = numbered 0 (map coded values) in
    let short : length (framed items) ≤ most = rw (coded_list values) at small in
    let len = length_framed items in
    subst (λ (c : Coded). SpellsAt (suc depth) (views.List values) c.0 c.1)
    (sym (coded_list values))
    (step_spells depth (of.List values) 4 (framed items) (
      refl,
      (
        items,
        items_spelt depth 0 values all (omega (arith, levels_rolled (of.List values)))
            (omega (arith, len)),
        refl,
        omega (arith, len),
      ),
    ))

-- The whole.

spells_spelling : (doc : Document) → All IsFieldSpelt doc → length (spelling doc) ≤ most
    → Spells doc (spelling doc)
spells_spelling doc all small =
    let len = length_framed (elements doc) in
    let depth = greatest (map levels (values_of doc)) in (
      depth,
      (
        elements doc,
        elements_spelt depth doc all (omega arith) (omega (arith, len)),
        refl,
        omega (arith, len),
      ),
    )

pub spells_where_short : (doc : Document) → All IsFieldSpelt doc → (bytes : List ℕ)
    → Spells doc bytes ↔ ((bytes ≡ spelling doc) × (length bytes ≤ most))
spells_where_short doc all bytes = (
  λ h. (document_spelt doc bytes h, spelt_short doc bytes h),
  λ h. subst (Spells doc) (sym h.0)
      (spells_spelling doc all (subst (λ (t : List ℕ). length t ≤ most) h.0 h.1)),
)
