-- Writes of documents and namespaces that fit, within a transaction's volume, fit a record.
use Rattle.std.proofs.Common.{◌≤◌, ◌<◌, ℕ, All, List, [], ◌∷◌, ◌++◌, map}
use Rattle.std.proofs.Common.{length, Some, None, refl, ap, arith}
use Rattle.std.specs.Map.{values_of}
use Rattle.std.specs.Int.{w16, w32, to_le_bytes}
use Rattle.std.specs.Ordering.{is_lt}
use Rattle.std.proofs.lemmas.List.{length-append}
use Rattle.std.proofs.lemmas.List.Elements.{All-nil, All-cons, All-head, All-tail, All-weaker}
use Rattle.std.proofs.lemmas.List.Elements.{All-map}
use Rattle.bson_core.specs.Fields.{Document}
use Rattle.bson_core.specs.Nesting.{greatest, levels}
use Rattle.bson_core.specs.Spelling.{spelling}
use Rattle.bson_core.specs.Written.{IsFieldWritten}
use Rattle.bson_core.specs.declared.value.Value.{Value}
use Rattle.txn_types.specs.Ids.{id_document}
use Rattle.txn_types.specs.Limits.{most_written}
use Rattle.txn_types.specs.declared.write.Write.{Write}
use Rattle.txn_types.specs.declared.write.Write.TheVariants.{Put, Delete}
use Rattle.txn_semantics.specs.Keyed.{put, laid, Rises}
use Rattle.txn_semantics.specs.Writes.{Place, place_of, place_cmp, placed, write_set}
use Rattle.journal_rec.specs.Volume.{write_bytes, each_write_bytes, writes_bytes, volume}
use Rattle.record_laws.specs.Fits.{DocumentFits, Rise, WritesFit}
use Rattle.record_laws.specs.Fits.{WriteFits as IsFitting}
use Rattle.request_laws.specs.Fitting.{DocFits, FieldFits, WriteFits}
use Rattle.part_laws.specs.Sound.{IsKnown}
use Rattle.world_laws.proofs.Naming.{put_all}

-- A write set has no other writes.

laid_all : (P : Write → Type 0) (rows : List (Place × Write)) (writes : List Write)
    → All (λ (row : Place × Write). P row.1) rows → All P writes
    → All (λ (row : Place × Write). P row.1) (laid place_cmp rows (map placed writes))
laid_all P rows [] h k = h
laid_all P rows (write ∷ writes) h k =
    laid_all P (put place_cmp (place_of write) write rows) writes
    (put_all place_cmp (λ (row : Place × Write). P row.1) (place_of write) write rows
    (All-head P write writes k) h) (All-tail P write writes k)

pub set_all : (P : Write → Type 0) (writes : List Write) → All P writes → All P (write_set writes)
set_all P writes h = All-map P (λ (row : Place × Write). row.1)
    (laid place_cmp [] (map placed writes))
    (laid_all P [] writes (All-nil (λ (row : Place × Write). P row.1)) h)

-- Writes that rise.

rise_from : (write : Write) (writes : List Write) → Rises place_cmp (map placed (write ∷ writes))
    → Rise (Some write) writes
rise_from write [] h = tt
rise_from write (next ∷ writes) h = (ap is_lt h.0.0, rise_from next writes h.1)

rise_all : (writes : List Write) → Rises place_cmp (map placed writes) → Rise None writes
rise_all [] h = tt
rise_all (write ∷ writes) h = (refl, rise_from write writes h)

-- Sizes.

-- the document of a write, or its id as one
abbrev content : Write → List ℕ
content (Put ns id doc) = spelling doc
content (Delete ns id) = spelling (id_document id)

sized : (front ns more : List ℕ) (kind : ℕ)
    → length more < length (front ++ ns ++ kind ∷ more)
sized front ns more kind =
    let outer = length-append (front ++ ns) (kind ∷ more) in
    let inner = length-append front ns in
    omega (arith, outer, inner)

write_sized : (write : Write) → length (content write) < length (write_bytes write)
write_sized (Put ns id doc) = sized (to_le_bytes w16 (length ns)) ns (spelling doc) 1
write_sized (Delete ns id) = sized (to_le_bytes w16 (length ns)) ns (spelling (id_document id)) 0

abbrev IsWithin : ℕ → Write → Type 0
IsWithin most write = length (content write) ≤ most

all_within : (most : ℕ) (writes : List Write) → length (each_write_bytes writes) ≤ most
    → (length writes ≤ most) × All (IsWithin most) writes
all_within most [] h = (omega (arith, h), All-nil (IsWithin most))
all_within most (write ∷ writes) h =
    let both = length-append (write_bytes write) (each_write_bytes writes) in
    let first = write_sized write in
    let rest = more writes in (
      omega (arith, both, first, rest, h),
      All-cons (IsWithin most) write writes (omega (arith, both, first, h))
          (all_within most writes (omega (arith, both, h))).1,
    )
  where
    more : (writes : List Write) → length writes ≤ length (each_write_bytes writes)
    more [] = omega arith
    more (write ∷ writes) =
        let both = length-append (write_bytes write) (each_write_bytes writes) in
        let first = write_sized write in
        let rest = more writes in
        omega (arith, both, first, rest)

each_below : (writes : List Write) (most : ℕ) → length (writes_bytes writes) ≤ most
    → length (each_write_bytes writes) ≤ most
each_below writes most h =
    let both = length-append (to_le_bytes w32 (length writes)) (each_write_bytes writes) in
    omega (arith, both, h)

-- Documents.

abbrev IsFlat : Value → Type 0
IsFlat value = levels value ≤ 99

greatest_flat : (doc : Document) → DocFits doc → greatest (map levels (values_of doc)) ≤ 99
greatest_flat [] h = omega arith
greatest_flat (field ∷ fields) h =
    let first = (All-head FieldFits field fields h).1.levels in
    let more = greatest_flat fields (All-tail FieldFits field fields h) in
    grind (arith, first, more)

document_fits : (doc : Document) → DocFits doc → length (spelling doc) ≤ 2147483647
    → DocumentFits doc
document_fits doc h small =
    let flat = greatest_flat doc h in (
      All-weaker FieldFits IsFieldWritten (λ field k. (k.0, k.1.written)) doc h,
      omega (arith, flat),
      small,
    )

-- Writes.

write_fits : (write : Write) → WriteFits write → IsKnown write
    → length (content write) ≤ 2147483647 → IsFitting write
write_fits (Put ns id doc) h known small =
    (h.0.0, h.0.1, document_fits doc h.2 small, known)
write_fits (Delete ns id) h known small = (h.0.0, h.0.1, h.1, small)

each_fits : (writes : List Write) → All WriteFits writes → All IsKnown writes
    → All (IsWithin 2147483647) writes → All IsFitting writes
each_fits [] h known small = All-nil IsFitting
each_fits (write ∷ writes) h known small =
    All-cons IsFitting write writes
    (write_fits write (All-head WriteFits write writes h) (All-head IsKnown write writes known)
    (All-head (IsWithin 2147483647) write writes small))
    (each_fits writes (All-tail WriteFits write writes h) (All-tail IsKnown write writes known)
    (All-tail (IsWithin 2147483647) write writes small))

pub writes_fit : (writes : List Write) → All WriteFits writes → All IsKnown writes
    → Rises place_cmp (map placed writes) → length (writes_bytes writes) ≤ most_written
    → WritesFit writes
writes_fit writes h known rises small =
    let all = all_within 2147483647 writes
    (each_below writes 2147483647 (omega (arith, small))) in
    let few = all.0 in
    (omega (arith, few), each_fits writes h known all.1, rise_all writes rises)

pub bytes_within : (writes : List Write) → volume writes ≤ most_written
    → length (writes_bytes writes) ≤ most_written
unfolding volume
bytes_within writes h = grind (arith, h)
