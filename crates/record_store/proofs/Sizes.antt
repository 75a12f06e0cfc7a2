-- How many bytes a record carries.
use Rattle.std.proofs.Common.{◌≡◌, ◌≤◌, ℕ, ◌+◌, ◌*◌, List, [], ◌∷◌, ◌++◌, length, drop, ap, ◌∙◌}
use Rattle.std.proofs.Common.{arith, length-append}
use Rattle.std.proofs.lemmas.List.{drop_at}
use Rattle.std.specs.Int.{w16, w32, to_le_bytes}
use Rattle.journal_rec.specs.Spelling.{part_bytes, each_part_bytes, parts_bytes}
use Rattle.journal_rec.specs.Volume.{volume, writes_bytes}
use Rattle.txn_types.specs.declared.write.Write.{Write}

length_part : (part : ℕ × ℕ) → length (part_bytes part) ≡ 6
unfolding part_bytes
length_part part = omega (arith, length-append (to_le_bytes w16 part.0) (to_le_bytes w32 part.1))

length_each : (parts : List (ℕ × ℕ)) → length (each_part_bytes parts) ≡ 6 * length parts
length_each [] = omega arith
length_each (part ∷ parts) = omega (
  arith,
  length-append (part_bytes part) (each_part_bytes parts),
  length_part part,
  length_each parts,
)

pub length_parts : (parts : List (ℕ × ℕ)) → length (parts_bytes parts) ≡ 2 + 6 * length parts
length_parts parts = omega (
  arith,
  length-append (to_le_bytes w16 (length parts)) (each_part_bytes parts),
  length_each parts,
)

-- within what a payload may have
abbrev pub IsPayload : List ℕ → Type 0
IsPayload bytes = (64 ≤ length bytes) × (length bytes ≤ 134217728)

pub with_room : (room carried all : List ℕ) → length room ≡ 64 → all ≡ room ++ carried
    → length carried ≤ 134217664 → IsPayload all
with_room room carried all n is le =
    let size : length all ≡ 64 + length carried =
    omega (arith, n, ap (λ (l : List ℕ). length l) is, length-append room carried) in
    (omega (arith, size), omega (arith, size, le))

pub carried_in : (room carried all : List ℕ) → length room ≡ 64 → all ≡ room ++ carried
    → drop 64 all ≡ carried
carried_in room carried all n is = ap (λ (l : List ℕ). drop 64 l) is ∙ drop_at room carried 64 n

pub length_writes : (writes : List Write) → volume writes ≤ 100000000
    → length (writes_bytes writes) ≤ 100000000
unfolding volume
length_writes writes h = omega (arith, h)
