-- A document that was read, and what lies in it, fits.
use Rattle.std.proofs.Common.{◌≡◌, ℕ, ℤ, pos, negsuc, zero, suc, ◌≤◌, All, List, [], ◌∷◌, Some}
use Rattle.std.proofs.Common.{Bool, true, false, cond, refl, subst, arith}
use Rattle.std.specs.Prelude.{FitsSigned}
use Rattle.std.specs.Int.{w32, w64}
use Rattle.std.specs.Str.{bytes_eq}
use Rattle.std.proofs.lemmas.Grind.{common_steps}
use Rattle.std.proofs.lemmas.Str.Ascii.{IsAscii-cons, IsAscii-nil}
use Rattle.std.proofs.lemmas.Str.{IsUtf8-from_ascii, is_utf8-from_IsUtf8}
use Rattle.std.proofs.lemmas.List.Elements.{All-nil, All-cons, All-head, All-tail}
use Rattle.bson_core.specs.declared.value.Value.{Value}
use Rattle.bson_core.specs.declared.value.Value.TheOpen as of
use Rattle.bson_core.specs.declared.value.Value.TheOpen.{Value-F}
use Rattle.bson_core.specs.declared.value.Value.TheViews.{roll-Value, out-Value, roll-out-Value}
use Rattle.bson_core.specs.declared.value.Value.TheViews as views
use Rattle.bson_core.specs.Fields.{Document, value_of}
use Rattle.bson_core.specs.Grammar.{Relation, values_of, reads_leaf, reads_step, ReadsAt}
use Rattle.bson_core.specs.Grammar.{ReadsElements, Reads}
use Rattle.bson_core.specs.Names.{IsName}
use Rattle.bson_core.specs.Written.{IsWritten, IsFieldWritten}
use Rattle.bson_core.proofs.InGrammar.{text_written, bin_written, oid_written, bool_written}
use Rattle.bson_core.proofs.InGrammar.{date_written, null_written, int_written, stamp_written}
use Rattle.bson_core.proofs.InGrammar.{long_written, doc_written, list_written}
use Rattle.txn_types.specs.Ids.{id_name, id_of, id_of_kind}
use Rattle.txn_types.specs.declared.id.Id.{Id}
use Rattle.txn_types.specs.declared.id.Id.TheVariants as kinds
use Rattle.record_laws.specs.Fits.{IdFits}
use Rattle.codec_laws.proofs.Levels.{within}
use Rattle.request_laws.specs.Fitting.{ValueFits, FieldFits, DocFits}

-- some bytes are the value, within so many levels
abbrev pub IsReadAt : ℕ → Value → Type 0
IsReadAt depth value = (kind : ℕ) × (bytes : List ℕ) × ReadsAt depth value kind bytes

-- within those that a document leaves
abbrev pub IsRead : Value → Type 0
IsRead value = (depth : ℕ) × (depth ≤ 99) × IsReadAt depth value

abbrev pub FieldRead : List ℕ × Value → Type 0
FieldRead field = IsName field.0 × IsRead field.1

abbrev pub DocRead : Document → Type 0
DocRead doc = All FieldRead doc

-- What is read can be written.

pub int_long : (n : ℤ) → FitsSigned w32 n → FitsSigned w64 n
int_long (pos k) h = grind (arith, common_steps, h)
int_long (negsuc k) h = grind (arith, common_steps, h)

leaf_written : (x : Value-F Value) (kind : ℕ) (bytes : List ℕ) → reads_leaf x kind bytes
    → IsWritten (roll-Value x)
unfolding views.roll-Value denote.Hole.Carrier.roll
leaf_written (of.Text t) kind bytes h = text_written t h.2
leaf_written (of.Doc fields) kind bytes h = absurd h
leaf_written (of.List values) kind bytes h = absurd h
leaf_written (of.Bin b) kind bytes h = bin_written b
leaf_written (of.Oid id) kind bytes h = oid_written id h.2
leaf_written (of.Bool b) kind bytes h = bool_written b
leaf_written (of.Date n) kind bytes h = date_written n h.2
leaf_written of.Null kind bytes h = null_written
leaf_written (of.Int n) kind bytes h = int_written n h.2
leaf_written (of.Stamp n) kind bytes h = stamp_written n h.2
leaf_written (of.Long n) kind bytes h = long_written n h.2

elements_fit : (reads : Value → Relation)
    → ((value : Value) (kind : ℕ) (bytes : List ℕ) → reads value kind bytes → IsWritten value)
    → (fields : Document) (bytes : List ℕ) → ReadsElements reads fields bytes
    → All IsFieldWritten fields
elements_fit reads each [] bytes h = All-nil IsFieldWritten
elements_fit reads each (field ∷ fields) bytes h = All-cons IsFieldWritten field fields
    (h.4, each field.1 h.0 h.1 h.3) (elements_fit reads each fields h.2 h.6)

values_fit : (fields : Document) → All IsFieldWritten fields → All IsWritten (values_of fields)
values_fit [] all = All-nil IsWritten
values_fit (field ∷ fields) all = All-cons IsWritten field.1 (values_of fields)
    (All-head IsFieldWritten field fields all).1
    (values_fit fields (All-tail IsFieldWritten field fields all))

step_written : (reads : Value → Relation)
    → ((value : Value) (kind : ℕ) (bytes : List ℕ) → reads value kind bytes → IsWritten value)
    → (x : Value-F Value) (kind : ℕ) (bytes : List ℕ) → reads_step reads x kind bytes
    → IsWritten (roll-Value x)
unfolding views.roll-Value denote.Hole.Carrier.roll
step_written reads each (of.Doc fields) kind bytes h =
    doc_written fields (elements_fit reads each fields h.1.0 h.1.1)
step_written reads each (of.List values) kind bytes h =
    list_written values (subst (All IsWritten) h.1.1.1
    (values_fit h.1.1.0 (elements_fit reads each h.1.1.0 h.1.0 h.1.1.2)))
step_written reads each (of.Text t) kind bytes h = leaf_written (of.Text t) kind bytes h
step_written reads each (of.Bin b) kind bytes h = leaf_written (of.Bin b) kind bytes h
step_written reads each (of.Oid id) kind bytes h = leaf_written (of.Oid id) kind bytes h
step_written reads each (of.Bool b) kind bytes h = leaf_written (of.Bool b) kind bytes h
step_written reads each (of.Date n) kind bytes h = leaf_written (of.Date n) kind bytes h
step_written reads each of.Null kind bytes h = leaf_written of.Null kind bytes h
step_written reads each (of.Int n) kind bytes h = leaf_written (of.Int n) kind bytes h
step_written reads each (of.Stamp n) kind bytes h = leaf_written (of.Stamp n) kind bytes h
step_written reads each (of.Long n) kind bytes h = leaf_written (of.Long n) kind bytes h

pub read_written : (depth : ℕ) (value : Value) (kind : ℕ) (bytes : List ℕ)
    → ReadsAt depth value kind bytes → IsWritten value
unfolding ReadsAt
read_written zero value kind bytes h =
    subst IsWritten (roll-out-Value value) (leaf_written (out-Value value) kind bytes h)
read_written (suc depth) value kind bytes h = subst IsWritten (roll-out-Value value)
    (step_written (ReadsAt depth) (read_written depth) (out-Value value) kind bytes h)

-- the id that a value is

leaf_id : (x : Value-F Value) (kind : ℕ) (bytes : List ℕ) (id : Id) → reads_leaf x kind bytes
    → id_of_kind x ≡ Some id → IdFits id
leaf_id (of.Text t) kind bytes id h e = let same : kinds.Text t ≡ id = cc in subst IdFits same h.2
leaf_id (of.Doc fields) kind bytes id h e = absurd h
leaf_id (of.List values) kind bytes id h e = absurd h
leaf_id (of.Bin b) kind bytes id h e = let same : kinds.Bin b ≡ id = cc in subst IdFits same tt
leaf_id (of.Oid o) kind bytes id h e = let same : kinds.Oid o ≡ id = cc in subst IdFits same h.2
leaf_id (of.Bool b) kind bytes id h e = let same : kinds.Bool b ≡ id = cc in subst IdFits same tt
leaf_id (of.Date n) kind bytes id h e = let same : kinds.Date n ≡ id = cc in subst IdFits same h.2
leaf_id of.Null kind bytes id h e = absurd cc
leaf_id (of.Int n) kind bytes id h e = let same : kinds.Num n ≡ id = cc in
    subst IdFits same (int_long n h.2)
leaf_id (of.Stamp n) kind bytes id h e = absurd cc
leaf_id (of.Long n) kind bytes id h e = let same : kinds.Num n ≡ id = cc in subst IdFits same h.2

step_id : (reads : Value → Relation) (x : Value-F Value) (kind : ℕ) (bytes : List ℕ) (id : Id)
    → reads_step reads x kind bytes → id_of_kind x ≡ Some id → IdFits id
step_id reads (of.Doc fields) kind bytes id h e = absurd cc
step_id reads (of.List values) kind bytes id h e = absurd cc
step_id reads (of.Text t) kind bytes id h e = leaf_id (of.Text t) kind bytes id h e
step_id reads (of.Bin b) kind bytes id h e = leaf_id (of.Bin b) kind bytes id h e
step_id reads (of.Oid o) kind bytes id h e = leaf_id (of.Oid o) kind bytes id h e
step_id reads (of.Bool b) kind bytes id h e = leaf_id (of.Bool b) kind bytes id h e
step_id reads (of.Date n) kind bytes id h e = leaf_id (of.Date n) kind bytes id h e
step_id reads of.Null kind bytes id h e = leaf_id of.Null kind bytes id h e
step_id reads (of.Int n) kind bytes id h e = leaf_id (of.Int n) kind bytes id h e
step_id reads (of.Stamp n) kind bytes id h e = leaf_id (of.Stamp n) kind bytes id h e
step_id reads (of.Long n) kind bytes id h e = leaf_id (of.Long n) kind bytes id h e

id_read : (depth : ℕ) (value : Value) (kind : ℕ) (bytes : List ℕ) (id : Id)
    → ReadsAt depth value kind bytes → id_of value ≡ Some id → IdFits id
unfolding ReadsAt
id_read zero value kind bytes id h e = leaf_id (out-Value value) kind bytes id h e
id_read (suc depth) value kind bytes id h e =
    step_id (ReadsAt depth) (out-Value value) kind bytes id h e

pub value_fits : (value : Value) → IsRead value → ValueFits value
value_fits value h =
    let le = within h.0 value h.2.0 h.2.1 h.2.2 in
    record {
      written = read_written h.0 value h.2.0 h.2.1 h.2.2;
      levels = omega (arith, le, h.1);
      id = λ id e. id_read h.0 value h.2.0 h.2.1 id h.2.2 e;
    }

pub doc_fits : (doc : Document) → DocRead doc → DocFits doc
doc_fits [] h = All-nil FieldFits
doc_fits (field ∷ fields) h =
    let first = All-head FieldRead field fields h in
    All-cons FieldFits field fields (first.0, value_fits field.1 first.1)
    (doc_fits fields (All-tail FieldRead field fields h))

-- the name of an id
pub id_name_is_name : IsName id_name
id_name_is_name =
    let ascii = IsAscii-cons 95 (105 ∷ 100 ∷ []) (omega arith) (IsAscii-cons 105 (100 ∷ [])
    (omega arith) (IsAscii-cons 100 [] (omega arith) IsAscii-nil)) in
    (is_utf8-from_IsUtf8 id_name (IsUtf8-from_ascii id_name ascii), refl)

-- What lies in a value.

elements_read : (depth : ℕ) → depth ≤ 99 → (fields : Document) (bytes : List ℕ)
    → ReadsElements (ReadsAt depth) fields bytes → DocRead fields
elements_read depth le [] bytes h = All-nil FieldRead
elements_read depth le (field ∷ fields) bytes h =
    All-cons FieldRead field fields (h.4, (depth, le, (h.0, h.1, h.3)))
    (elements_read depth le fields h.2 h.6)

fields_read : (fields : Document) → DocRead fields → All IsRead (values_of fields)
fields_read [] h = All-nil IsRead
fields_read (field ∷ fields) h = All-cons IsRead field.1 (values_of fields)
    (All-head FieldRead field fields h).1 (fields_read fields (All-tail FieldRead field fields h))

pub document_read : (doc : Document) (bytes : List ℕ) → Reads 100 doc bytes → DocRead doc
document_read doc bytes h = elements_read 99 (omega arith) doc h.0 h.1

pub inner_document : (value : Value) (fields : Document) → out-Value value ≡ of.Doc fields
    → IsRead value → DocRead fields
unfolding ReadsAt
inner_document value fields is (zero, le, at) =
    let none : reads_leaf (of.Doc fields) at.0 at.1 =
    subst (λ (x : Value-F Value). reads_leaf x at.0 at.1) is at.2 in
    absurd none
inner_document value fields is (suc depth, le, at) =
    let step : reads_step (ReadsAt depth) (of.Doc fields) at.0 at.1 =
    subst (λ (x : Value-F Value). reads_step (ReadsAt depth) x at.0 at.1) is at.2 in
    elements_read depth (omega (arith, le)) fields step.1.0 step.1.1

pub inner_list : (value : Value) (values : List Value) → out-Value value ≡ of.List values
    → IsRead value → All IsRead values
unfolding ReadsAt
inner_list value values is (zero, le, at) =
    let none : reads_leaf (of.List values) at.0 at.1 =
    subst (λ (x : Value-F Value). reads_leaf x at.0 at.1) is at.2 in
    absurd none
inner_list value values is (suc depth, le, at) =
    let step : reads_step (ReadsAt depth) (of.List values) at.0 at.1 =
    subst (λ (x : Value-F Value). reads_step (ReadsAt depth) x at.0 at.1) is at.2 in
    subst (All IsRead) step.1.1.1 (fields_read step.1.1.0
    (elements_read depth (omega (arith, le)) step.1.1.0 step.1.0 step.1.1.2))

-- The value of a name.

pub named_read : (name : List ℕ) (doc : Document) (value : Value) → value_of name doc ≡ Some value
    → DocRead doc → IsRead value
named_read name [] value e h = absurd cc
named_read name (field ∷ fields) value e h =
    by (bytes_eq field.0 name) e (All-head FieldRead field fields h)
    (named_read name fields value)
  where
    by : (b : Bool) → cond b (Some field.1) (value_of name fields) ≡ Some value → FieldRead field
        → (value_of name fields ≡ Some value → DocRead fields → IsRead value) → IsRead value
    by true e first more = let same : field.1 ≡ value = cc in subst IsRead same first.1
    by false e first more = more e (All-tail FieldRead field fields h)
