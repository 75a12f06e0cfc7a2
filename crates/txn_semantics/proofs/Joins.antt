-- Own writes place by place, and the join of shards' writes.
use Rattle.std.proofs.Common.{◌≡◌, ℕ, List, [], ◌∷◌, Bool, true, false, cond, refl, ap, ap₂, subst}
use Rattle.std.proofs.Common.{◌∙◌, sym, filter, map, if◌then◌else◌, bytes_eq}
use Rattle.txn_types.specs.declared.id.Id.{Id}
use Rattle.txn_types.specs.declared.write.Write.{Write}
use Rattle.txn_types.specs.declared.write.Write.TheVariants.{Put, Delete}
use Rattle.txn_semantics.specs.Found.{joined}
use Rattle.txn_semantics.specs.Rows.{Row, put_row, delete_row, written, under, at, IsRising}
use Rattle.txn_semantics.specs.Splits.{here, written_id, keyed}
use Rattle.txn_semantics.proofs.Parts.{at-taken_in, at-taken_past, rising_taken_out, AllAbove}
use Rattle.txn_semantics.proofs.Parts.{at-put_in, at-put_out, rising_put}
use Rattle.txn_semantics.proofs.Totals.{AreNamed, join_parts}
use Rattle.txn_types.specs.Order.{id_cmp}

-- a write, place by place
abbrev write_if : (Id → Bool) → List ℕ → List Row → Write → List Row
write_if p ns rows write = if p (written_id write) then written ns rows write else rows

rising_if : (b : Bool) (xs ys : List Row) → IsRising xs → IsRising ys
    → IsRising (if b then xs else ys)
rising_if true xs ys hx hy = hx
rising_if false xs ys hx hy = hy

rising_written : (ns : List ℕ) (rows : List Row) (write : Write) → IsRising rows
    → IsRising (written ns rows write)
rising_written ns rows (Put there id doc) r =
    rising_if (bytes_eq ns there) (put_row id doc rows) rows (rising_put id doc rows r) r
rising_written ns rows (Delete there id) r =
    rising_if (bytes_eq ns there) (delete_row id rows) rows (rising_taken_out id rows r) r

if_same : (p : Id → Bool) (b : Bool) (xs ys zs us : List Row) → at p xs ≡ zs → at p ys ≡ us
    → at p (if b then xs else ys) ≡ (if b then zs else us)
if_same p true xs ys zs us hx hy = hx
if_same p false xs ys zs us hx hy = hy

if_both : (b : Bool) (xs : List Row) → (if b then xs else xs) ≡ xs
if_both true xs = refl
if_both false xs = refl

at_written_case : (p : Id → Bool) (ns : List ℕ) (rows : List Row) (write : Write) (b : Bool)
    → p (written_id write) ≡ b → IsRising rows
    → at p (written ns rows write) ≡ (if b then written ns (at p rows) write else at p rows)
at_written_case p ns rows (Put there id doc) true is r = if_same p (bytes_eq ns there) (put_row id
    doc rows) rows (put_row id doc (at p rows)) (at p rows) (at-put_in p id doc rows is r) refl
at_written_case p ns rows (Put there id doc) false is r = if_same p (bytes_eq ns there)
    (put_row id doc rows) rows (at p rows) (at p rows) (at-put_out p id doc rows is) refl
    ∙ if_both (bytes_eq ns there) (at p rows)
at_written_case p ns rows (Delete there id) true is r = if_same p (bytes_eq ns there) (delete_row id
    rows) rows (delete_row id (at p rows)) (at p rows) (at-taken_in p id rows is r) refl
at_written_case p ns rows (Delete there id) false is r = if_same p (bytes_eq ns there)
    (delete_row id rows) rows (at p rows) (at p rows) (at-taken_past p id rows is) refl
    ∙ if_both (bytes_eq ns there) (at p rows)

under_case : (p : Id → Bool) (ns : List ℕ) (rows : List Row) (write : Write) (writes : List Write)
    (b : Bool) → p (written_id write) ≡ b → IsRising rows
    → at p (under ns (written ns rows write) writes)
    ≡ under ns (at p (written ns rows write)) (filter (λ wr. p (written_id wr)) writes)
    → at p (under ns (written ns rows write) writes) ≡ under ns (at p rows) (cond b
    (write ∷ filter (λ wr. p (written_id wr)) writes) (filter (λ wr. p (written_id wr)) writes))
under_case p ns rows write writes true is r more = more ∙ ap (λ xs. under ns xs
    (filter (λ wr. p (written_id wr)) writes)) (at_written_case p ns rows write true is r)
under_case p ns rows write writes false is r more = more ∙ ap (λ xs. under ns xs
    (filter (λ wr. p (written_id wr)) writes)) (at_written_case p ns rows write false is r)

-- the part of rows under writes is the part under its writes
pub at-under : (p : Id → Bool) (ns : List ℕ) (rows : List Row) (writes : List Write) → IsRising rows
    → at p (under ns rows writes) ≡ under ns (at p rows) (filter (λ wr. p (written_id wr)) writes)
at-under p ns rows [] r = refl
at-under p ns rows (write ∷ writes) r = under_case p ns rows write writes (p (written_id write))
    refl r (at-under p ns (written ns rows write) writes (rising_written ns rows write r))

-- the join of shards' writes
keyed_case : (p : Id → Bool) (write : Write) (writes : List Write) (b : Bool) → keyed (cond b
    (write ∷ writes) writes) ≡ cond b ((written_id write, write) ∷ keyed writes) (keyed writes)
keyed_case p write writes true = refl
keyed_case p write writes false = refl

keyed_filter : (p : Id → Bool) (writes : List Write)
    → keyed (filter (λ wr. p (written_id wr)) writes) ≡ at p (keyed writes)
keyed_filter p [] = refl
keyed_filter p (write ∷ writes) = keyed_case p write (filter (λ wr. p (written_id wr))
    writes) (p (written_id write)) ∙ ap (λ (xs : List (Id × Write)).
    cond (p (written_id write)) ((written_id write, write) ∷ xs) xs) (keyed_filter p writes)

keyed_parts : (place : Id → ℕ) (writes : List Write) (shards : List ℕ)
    → map (λ s. keyed (filter (λ wr. here place s (written_id wr)) writes)) shards
    ≡ map (λ s. at (here place s) (keyed writes)) shards
keyed_parts place writes [] = refl
keyed_parts place writes (s ∷ shards) = ap₂ (λ (x : List (Id × Write)) xs. x
    ∷ xs) (keyed_filter (here place s) writes) (keyed_parts place writes shards)

pub writes_join : (place : Id → ℕ) (shards : List ℕ) (writes : List Write) → IsRising (keyed writes)
    → AreNamed place shards (keyed writes)
    → joined [] (map (λ s. keyed (filter (λ wr. here place s (written_id wr)) writes)) shards)
    ≡ keyed writes
writes_join place shards writes r named = ap (joined []) (keyed_parts place writes shards)
    ∙ join_parts place shards (keyed writes) r named

above_keyed : (write : Row → Write) → ((row : Row) → written_id (write row) ≡ row.0)
    → (id : Id) (rows : List Row) → AllAbove id rows → AllAbove id (keyed (map write rows))
above_keyed write ids id [] h = tt
above_keyed write ids id (row ∷ rows) h =
    (ap (id_cmp id) (ids row) ∙ h.0, above_keyed write ids id rows h.1)

pub rising_keyed : (write : Row → Write) → ((row : Row) → written_id (write row) ≡ row.0)
    → (rows : List Row) → IsRising rows → IsRising (keyed (map write rows))
rising_keyed write ids [] r = tt
rising_keyed write ids (row ∷ rows) r = (
  subst (λ i. AllAbove i (keyed (map write rows))) (sym (ids row))
      (above_keyed write ids row.0 rows r.0),
  rising_keyed write ids rows r.1,
)
