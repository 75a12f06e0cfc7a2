-- What is written of writes is read again, whatever stands after them.
use Rattle.std.proofs.Common.{◌≡◌, ℕ, suc, ◌-◌, ◌+◌, ◌^◌, ◌≤◌, ◌<◌, true, false, ltb, List, [], ◌∷◌}
use Rattle.std.proofs.Common.{◌++◌, length, Option, Some, None, Ok, refl, sym, ap, ◌∙◌}
use Rattle.std.proofs.Common.{append_assoc, arith}
use Rattle.std.specs.Int.{w16, w32, to_le_bytes}
use Rattle.std.specs.List.{All}
use Rattle.std.proofs.lemmas.Bool.{le-ltb}
use Rattle.std.proofs.lemmas.List.{append-nil, take_at, drop_at, length-append, get_or_push}
use Rattle.std.proofs.lemmas.List.Elements.{All-nil, All-cons, All-head, All-tail}
use Rattle.std.proofs.lemmas.Option.{slice_get_read}
use Rattle.std.proofs.lemmas.Str.{IsUtf8-from_ascii, is_utf8-from_IsUtf8}
use Rattle.std.proofs.lemmas.Str.Ascii.{IsAscii-nil, IsAscii-cons}
use Rattle.bson_core.specs.declared.value.Value.{Value}
use Rattle.bson_core.specs.declared.value.Value.TheOpen as of
use Rattle.bson_core.specs.declared.value.Value.TheViews as views
use Rattle.bson_core.specs.declared.value.Value.TheFolds.{fold-roll-Value}
use Rattle.bson_core.specs.Fields.{Document}
use Rattle.bson_core.specs.Names.{IsName}
use Rattle.bson_core.specs.Nesting.{levels_step, levels, nesting}
use Rattle.bson_core.specs.Reading.{number_at, document_of}
use Rattle.bson_core.specs.Spelling.{framed, elements, spelling}
use Rattle.bson_core.specs.Written.{IsWritten, IsFieldWritten}
use Rattle.bson_core.proofs.Again.{number32_again}
use Rattle.bson_core.proofs.InGrammar.{text_written, bin_written, oid_written, bool_written}
use Rattle.bson_core.proofs.InGrammar.{date_written, long_written, spelling_reads}
use Rattle.bson_core.proofs.Lengths.{length_framed}
use Rattle.bson_core.proofs.Whole.{whole_again}
use Rattle.txn_types.specs.Ids.{id_name, id_in, value_of_id, id_document}
use Rattle.txn_types.specs.declared.id.Id.{Id}
use Rattle.txn_types.specs.declared.id.Id.TheVariants as kinds
use Rattle.txn_types.specs.declared.write.Write.{Write}
use Rattle.txn_types.specs.declared.write.Write.TheVariants.{Put, Delete}
use Rattle.journal_rec.specs.Reading.{is_namespace, namespace_at, document_at, is_id_alone}
use Rattle.journal_rec.specs.Reading.{content_at, write_at, is_above, last_of, next_write_at}
use Rattle.journal_rec.specs.Reading.{each_write_at, writes_at}
use Rattle.journal_rec.specs.Volume.{write_bytes, each_write_bytes, writes_bytes}
use Rattle.record_laws.specs.Fits.{DocumentFits, IdFits, WriteFits, Rise, WritesFit}
use Rattle.record_laws.proofs.Fields.{IsNumber, IsReadAs, number16_again, wide32, bytes_again}

-- Documents.

count_before : (e rest : List ℕ) → length e + 5 < 2 ^ 32
    → number_at w32 (framed e ++ rest) ≡ Some (length e + 5, (e ++ 0 ∷ []) ++ rest)
unfolding framed
count_before e rest lt = ap (number_at w32) (append_assoc (to_le_bytes w32 (length e + 5))
    (e ++ 0 ∷ []) rest) ∙ number32_again (length e + 5) ((e ++ 0 ∷ []) ++ rest) lt

document_pieces : (end count : ℕ) (bytes after rest : List ℕ) (doc : Document)
    → number_at w32 (bytes ++ rest) ≡ Some (count, after) → count ≤ 2147483647
    → length bytes ≡ count → document_of 2147483647 bytes ≡ Ok doc
    → document_at end (bytes ++ rest) ≡ Ok (doc, rest)
unfolding document_at
document_pieces end count bytes after rest doc number small len h =
    let most : ltb 2147483647 count ≡ false = le-ltb _ _ small in
    let room : ltb (length (bytes ++ rest)) count ≡ false =
    le-ltb _ _ (omega (arith, length-append bytes rest)) in
    rw (number, most, room, take_at bytes rest count len, h, drop_at bytes rest count len) refl

document_again : (end : ℕ) (doc : Document) → DocumentFits doc
    → IsReadAs (document_at end) (spelling doc) doc
document_again end doc h rest =
    let len = length_framed (elements doc) in
    document_pieces end (length (elements doc) + 5) (spelling doc)
    ((elements doc ++ 0 ∷ []) ++ rest) rest doc
    (count_before (elements doc) rest (omega (arith, len, h.2))) (omega (arith, len, h.2)) len
    (whole_again 2147483647 (spelling doc) doc (spelling_reads doc h.0 h.1 h.2) h.2)

-- Ids.

flat : (id : Id) → levels (value_of_id id) ≡ 0
unfolding views.roll-Value denote.Hole.Carrier.roll
flat (kinds.Num n) = fold-roll-Value ℕ levels_step (of.Long n)
flat (kinds.Text t) = fold-roll-Value ℕ levels_step (of.Text t)
flat (kinds.Bin b) = fold-roll-Value ℕ levels_step (of.Bin b)
flat (kinds.Oid bytes) = fold-roll-Value ℕ levels_step (of.Oid bytes)
flat (kinds.Bool b) = fold-roll-Value ℕ levels_step (of.Bool b)
flat (kinds.Date n) = fold-roll-Value ℕ levels_step (of.Date n)

id_written : (id : Id) → IdFits id → IsWritten (value_of_id id)
id_written (kinds.Num n) h = long_written n h
id_written (kinds.Text t) h = text_written t h
id_written (kinds.Bin b) h = bin_written b
id_written (kinds.Oid bytes) h = oid_written bytes h
id_written (kinds.Bool b) h = bool_written b
id_written (kinds.Date n) h = date_written n h

its_id : (id : Id) → id_in (id_document id) ≡ Some id
unfolding views.out-Value denote.Hole.Carrier.out views.roll-Value denote.Hole.Carrier.roll
its_id (kinds.Num n) = refl
its_id (kinds.Text t) = refl
its_id (kinds.Bin b) = refl
its_id (kinds.Oid bytes) = refl
its_id (kinds.Bool b) = refl
its_id (kinds.Date n) = refl

its_id_alone : (id : Id) → is_id_alone (id_document id) ≡ true
unfolding views.out-Value denote.Hole.Carrier.out views.roll-Value denote.Hole.Carrier.roll
its_id_alone (kinds.Num n) = refl
its_id_alone (kinds.Text t) = refl
its_id_alone (kinds.Bin b) = refl
its_id_alone (kinds.Oid bytes) = refl
its_id_alone (kinds.Bool b) = refl
its_id_alone (kinds.Date n) = refl

one_level : (v : Value) → levels v ≡ 0 → nesting ((id_name, v) ∷ []) ≤ 100
one_level v h = rw h (omega arith)

id_name_is_name : IsName id_name
id_name_is_name =
    let ascii = IsAscii-cons 95 (105 ∷ 100 ∷ []) (omega arith) (IsAscii-cons 105 (100 ∷ [])
    (omega arith) (IsAscii-cons 100 [] (omega arith) IsAscii-nil)) in
    (is_utf8-from_IsUtf8 id_name (IsUtf8-from_ascii id_name ascii), refl)

id_document_fits : (id : Id) → IdFits id → length (spelling (id_document id)) ≤ 2147483647
    → DocumentFits (id_document id)
id_document_fits id h small = (
  All-cons IsFieldWritten (id_name, value_of_id id) [] (id_name_is_name, id_written id h)
      (All-nil IsFieldWritten),
  one_level (value_of_id id) (flat id),
  small,
)

-- Writes.

namespace_again : (end : ℕ) (a ns rest : List ℕ) → IsNumber w16 a (length ns)
    → is_namespace ns ≡ true → namespace_at end (a ++ (ns ++ rest)) ≡ Ok (ns, rest)
unfolding namespace_at
namespace_again end a ns rest h is =
    rw (h (ns ++ rest), bytes_again (length ns) ns rest refl, is) refl

put_again : (end : ℕ) (a ns body : List ℕ) (id : Id) (doc : Document) → IsNumber w16 a (length ns)
    → is_namespace ns ≡ true → IsReadAs (document_at end) body doc → id_in doc ≡ Some id
    → IsReadAs (write_at end) (a ++ ns ++ 1 ∷ body) (Put ns id doc)
unfolding write_at content_at
put_again end a ns body id doc h is read its rest =
    rw (
      append_assoc (a ++ ns) (1 ∷ body) rest,
      append_assoc a ns (1 ∷ body ++ rest),
      namespace_again end a ns (1 ∷ body ++ rest) h is,
      read rest,
      its,
    ) refl

delete_again : (end : ℕ) (a ns body : List ℕ) (id : Id) (doc : Document)
    → IsNumber w16 a (length ns) → is_namespace ns ≡ true → IsReadAs (document_at end) body doc
    → id_in doc ≡ Some id → is_id_alone doc ≡ true
    → IsReadAs (write_at end) (a ++ ns ++ 0 ∷ body) (Delete ns id)
unfolding write_at content_at
delete_again end a ns body id doc h is read its one rest =
    rw (
      append_assoc (a ++ ns) (0 ∷ body) rest,
      append_assoc a ns (0 ∷ body ++ rest),
      namespace_again end a ns (0 ∷ body ++ rest) h is,
      read rest,
      its,
      one,
    ) refl

write_again : (end : ℕ) (write : Write) → WriteFits write
    → IsReadAs (write_at end) (write_bytes write) write
write_again end (Put ns id doc) h =
    put_again end (to_le_bytes w16 (length ns)) ns (spelling doc) id doc
    (number16_again (length ns) h.1) h.0 (document_again end doc h.2) h.3
write_again end (Delete ns id) h =
    delete_again end (to_le_bytes w16 (length ns)) ns (spelling (id_document id)) id
    (id_document id) (number16_again (length ns) h.1) h.0 (document_again end (id_document id)
    (id_document_fits id h.2 h.3)) (its_id id) (its_id_alone id)

last_is : (front : List Write) (write : Write) → last_of (front ++ write ∷ []) ≡ Some write
last_is front write =
    let len = length-append front (write ∷ []) in
    slice_get_read (front ++ write ∷ []) (length (front ++ write ∷ []))
    (length (front ++ write ∷ []) - 1) write refl (omega (arith, len)) (sym
    (get_or_push front write write (length (front ++ write ∷ []) - 1) (omega (arith, len))))

next_again : (end : ℕ) (front : List Write) (write : Write) (bytes rest : List ℕ)
    → is_above (last_of front) write ≡ true → write_at end (bytes ++ rest) ≡ Ok (write, rest)
    → next_write_at end front (bytes ++ rest) ≡ Ok (front ++ write ∷ [], rest)
unfolding next_write_at
next_again end front write bytes rest above h = rw (h, above) refl

each_turn : (n end : ℕ) (front more : List Write) (bytes after : List ℕ)
    → next_write_at end front bytes ≡ Ok (more, after)
    → each_write_at (suc n) end front bytes ≡ each_write_at n end more after
unfolding each_write_at
each_turn n end front more bytes after h = rw h refl

each_again : (end : ℕ) (front writes : List Write) (last : Option Write) (rest : List ℕ)
    → last_of front ≡ last → All WriteFits writes → Rise last writes
    → each_write_at (length writes) end front (each_write_bytes writes ++ rest)
    ≡ Ok (front ++ writes, rest)
unfolding each_write_at
each_again end front [] last rest is fit rise = rw (append-nil front) refl
each_again end front (write ∷ writes) last rest is fit rise =
    let after = each_write_bytes writes ++ rest in
    let above : is_above (last_of front) write ≡ true =
    ap (λ (o : Option Write). is_above o write) is ∙ rise.0 in
    let read = write_again end write (All-head WriteFits write writes fit) after in
    let one : next_write_at end front ((write_bytes write ++ each_write_bytes writes) ++ rest)
    ≡ Ok (front ++ write ∷ [], after) =
    ap (next_write_at end front) (append_assoc (write_bytes write) (each_write_bytes writes) rest)
    ∙ next_again end front write (write_bytes write) after above read in
    each_turn (length writes) end front (front ++ write ∷ [])
    ((write_bytes write ++ each_write_bytes writes) ++ rest) after one
    ∙ each_again end (front ++ write ∷ []) writes (Some write) rest (last_is front write)
    (All-tail WriteFits write writes fit) rise.1
    ∙ ap (λ (l : List Write). Ok (l, rest)) (append_assoc front (write ∷ []) writes)

writes_pieces : (end count : ℕ) (a each rest : List ℕ) (writes : List Write)
    → IsNumber w32 a count → each_write_at count end [] (each ++ rest) ≡ Ok (writes, rest)
    → writes_at end ((a ++ each) ++ rest) ≡ Ok (writes, rest)
unfolding writes_at
writes_pieces end count a each rest writes h k =
    rw (append_assoc a each rest, h (each ++ rest), k) refl

pub writes_again : (end : ℕ) (writes : List Write) → WritesFit writes
    → IsReadAs (writes_at end) (writes_bytes writes) writes
writes_again end writes h rest =
    writes_pieces end (length writes) (to_le_bytes w32 (length writes)) (each_write_bytes writes)
    rest writes (wide32 (length writes) h.0) (each_again end [] writes None rest refl h.1 h.2)
