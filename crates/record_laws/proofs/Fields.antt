-- What is written of a field is read again, whatever stands after it.
use Rattle.std.proofs.Common.{◌≡◌, ℕ, ℤ, suc, ◌^◌, ◌<◌, false, ltb, List, [], ◌∷◌, ◌++◌, length}
use Rattle.std.proofs.Common.{position, not, eqb, Some, None, Ok, refl, ap, ◌∙◌, append_assoc}
use Rattle.std.proofs.Common.{arith}
use Rattle.std.specs.Prelude.{FitsSigned}
use Rattle.std.specs.Int.{Width, w16, w32, w64, to_le_bytes, from_le_bytes, cast_unsigned}
use Rattle.std.specs.List.{All}
use Rattle.std.proofs.lemmas.Bool.{le-ltb}
use Rattle.std.proofs.lemmas.List.{append-nil, take_at, drop_at, length-append}
use Rattle.std.proofs.lemmas.List.Elements.{All-head, All-tail}
use Rattle.std.proofs.lemmas.Nat.{from_le_bytes-to_le_bytes_2}
use Rattle.std.proofs.lemmas.Int.{to_z-of_z}
use Rattle.std.proofs.Math.Facts.{Fits-of_z}
use Rattle.bson_core.specs.Reading.{number_at}
use Rattle.bson_core.proofs.Again.{number32_again, number64_again}
use Rattle.txn_types.specs.declared.decision.Decision.{Decision}
use Rattle.txn_types.specs.declared.decision.Decision.TheVariants as decision
use Rattle.txn_types.specs.declared.names.Tag.{Tag}
use Rattle.txn_types.specs.declared.node.Lsid.{Lsid}
use Rattle.txn_types.specs.declared.node.Lsid.TheVariants.{Client, Own}
use Rattle.journal_rec.specs.Reading.{Found, signed_at, bytes_at, zeros_at, tag_at, client_at}
use Rattle.journal_rec.specs.Reading.{own_at, lsid_at, named_at, commit_at, abort_at, decision_at}
use Rattle.journal_rec.specs.Reading.{part_at, parts_at}
use Rattle.journal_rec.specs.Spelling.{tag_bytes, own_bytes, lsid_bytes, number_bytes, named_bytes}
use Rattle.journal_rec.specs.Spelling.{decision_bytes, part_bytes, each_part_bytes}
use Rattle.record_laws.specs.Fits.{TagFits, LsidFits, DecisionFits, PartFits}

-- these bytes are those of the number
abbrev pub IsNumber : Width → List ℕ → ℕ → Type 0
IsNumber w bytes n = (rest : List ℕ) → number_at w (bytes ++ rest) ≡ Some (n, rest)

-- these bytes are read as this
abbrev pub IsReadAs : {A : Type 0} → (List ℕ → Found A) → List ℕ → A → Type 0
IsReadAs read bytes x = (rest : List ℕ) → read (bytes ++ rest) ≡ Ok (x, rest)

two_bytes : (front rest : List ℕ) → length front ≡ 2
    → number_at w16 (front ++ rest) ≡ Some (from_le_bytes w16 front, rest)
unfolding number_at
two_bytes front rest len =
    let long : ltb (length (front ++ rest)) 2 ≡ false =
    le-ltb _ _ (omega (arith, length-append front rest)) in
    rw (long, take_at front rest 2 len, drop_at front rest 2 len) refl

pub number16_again : (n : ℕ) → n < 2 ^ 16 → IsNumber w16 (to_le_bytes w16 n) n
number16_again n lt rest = two_bytes (to_le_bytes w16 n) rest refl
    ∙ ap (λ (m : ℕ). Some (m, rest)) (from_le_bytes-to_le_bytes_2 n lt)

pub wide32 : (n : ℕ) → n < 2 ^ 32 → IsNumber w32 (to_le_bytes w32 n) n
wide32 n lt rest = number32_again n rest lt

pub wide64 : (n : ℕ) → n < 2 ^ 64 → IsNumber w64 (to_le_bytes w64 n) n
wide64 n lt rest = number64_again n rest lt

pub bytes_again : (n : ℕ) (front rest : List ℕ) → length front ≡ n
    → bytes_at n (front ++ rest) ≡ Ok (front, rest)
unfolding bytes_at
bytes_again n front rest len =
    let long : ltb (length (front ++ rest)) n ≡ false =
    le-ltb _ _ (omega (arith, length-append front rest)) in
    rw (long, take_at front rest n len, drop_at front rest n len) refl

pub zeros_again : (end n : ℕ) (zeros rest : List ℕ) → length zeros ≡ n
    → position (λ b. not (eqb b 0)) zeros ≡ None → zeros_at end n (zeros ++ rest) ≡ Ok rest
unfolding zeros_at
zeros_again end n zeros rest len none = rw (bytes_again n zeros rest len, none) refl

-- Tags and sessions.

tag_parts : (a b d : List ℕ) (tag : Tag) → IsNumber w16 a tag.router → IsNumber w32 b tag.boot
    → IsNumber w64 d tag.serial → IsReadAs tag_at (a ++ b ++ d) tag
unfolding tag_at
tag_parts a b d tag h k l rest = rw (
  append_assoc (a ++ b) d rest,
  append_assoc a b (d ++ rest),
  h (b ++ (d ++ rest)),
  k (d ++ rest),
  l rest,
) refl

pub tag_again : (tag : Tag) → TagFits tag → IsReadAs tag_at (tag_bytes tag) tag
unfolding tag_bytes
tag_again tag h = tag_parts (to_le_bytes w16 tag.router) (to_le_bytes w32 tag.boot) (to_le_bytes w64
    tag.serial) tag (number16_again tag.router h.0) (wide32 tag.boot h.1) (wide64 tag.serial h.2)

own_parts : (end : ℕ) (a b d zeros : List ℕ) (router boot conn : ℕ)
    → IsNumber w16 a router → IsNumber w32 b boot → IsNumber w32 d conn → length zeros ≡ 6
    → position (λ b. not (eqb b 0)) zeros ≡ None
    → IsReadAs (own_at end) (a ++ b ++ d ++ zeros) (Own router boot conn)
unfolding own_at
own_parts end a b d zeros router boot conn h k l six none rest =
    rw (
      append_assoc (a ++ b ++ d) zeros rest,
      append_assoc (a ++ b) d (zeros ++ rest),
      append_assoc a b (d ++ (zeros ++ rest)),
      h (b ++ (d ++ (zeros ++ rest))),
      k (d ++ (zeros ++ rest)),
      l (zeros ++ rest),
      zeros_again end 6 zeros rest six none,
    ) refl

client_again : (bytes : List ℕ) → length bytes ≡ 16 → IsReadAs client_at bytes (Client bytes)
unfolding client_at
client_again bytes len rest = rw (bytes_again 16 bytes rest len) refl

pub lsid_again : (end : ℕ) (lsid : Lsid) → LsidFits lsid
    → IsReadAs (lsid_at end) (lsid_bytes lsid) lsid
unfolding lsid_at lsid_bytes own_bytes
lsid_again end (Client bytes) h rest = client_again bytes h rest
lsid_again end (Own router boot conn) h rest =
    own_parts end (to_le_bytes w16 router) (to_le_bytes w32 boot) (to_le_bytes w32 conn)
    (0 ∷ 0 ∷ 0 ∷ 0 ∷ 0 ∷ 0 ∷ []) router boot conn (number16_again router h.0) (wide32 boot h.1)
    (wide32 conn h.2) refl refl rest

signed_parts : (a : List ℕ) (number : ℤ) → FitsSigned w64 number
    → IsNumber w64 a (cast_unsigned w64 number) → IsReadAs signed_at a number
signed_parts a number fits h rest =
    rw (h rest) (ap (λ (n : ℤ). Ok (n, rest)) (to_z-of_z w64 number fits))

below64 : (n : ℤ) → FitsSigned w64 n → cast_unsigned w64 n < 2 ^ 64
below64 n h = let f = Fits-of_z {w = w64} {z = n} h in omega arith

pub signed_again : (number : ℤ) → FitsSigned w64 number
    → IsReadAs signed_at (number_bytes number) number
unfolding number_bytes
signed_again number fits = signed_parts (to_le_bytes w64 (cast_unsigned w64 number)) number fits
    (wide64 (cast_unsigned w64 number) (below64 number fits))

pub named_again : (end : ℕ) (tag : Tag) (lsid : Lsid) (number : ℤ)
    → TagFits tag → LsidFits lsid → FitsSigned w64 number
    → IsReadAs (named_at end) (named_bytes tag lsid number) (tag, lsid, number)
unfolding named_at
named_again end tag lsid number h k l rest =
    rw (
      append_assoc (tag_bytes tag ++ lsid_bytes lsid) (number_bytes number) rest,
      append_assoc (tag_bytes tag) (lsid_bytes lsid) (number_bytes number ++ rest),
      tag_again tag h (lsid_bytes lsid ++ (number_bytes number ++ rest)),
      lsid_again end lsid k (number_bytes number ++ rest),
      signed_again number l rest,
    ) refl

-- Decisions.

commit_parts : (end : ℕ) (a zeros : List ℕ) (at : ℕ) → IsNumber w64 a at
    → length zeros ≡ 3 → position (λ b. not (eqb b 0)) zeros ≡ None
    → IsReadAs (commit_at end) (a ++ zeros) (decision.Commit at)
unfolding commit_at
commit_parts end a zeros at h three none rest =
    rw (append_assoc a zeros rest, h (zeros ++ rest), zeros_again end 3 zeros rest three none) refl

abort_parts : (end : ℕ) (zeros a : List ℕ) (shard code : ℕ) → IsNumber w16 a shard
    → length zeros ≡ 8 → position (λ b. not (eqb b 0)) zeros ≡ None
    → IsReadAs (abort_at end) (zeros ++ a ++ code ∷ []) (decision.Abort shard code)
unfolding abort_at
abort_parts end zeros a shard code h eight none rest =
    rw (
      append_assoc (zeros ++ a) (code ∷ []) rest,
      append_assoc zeros a (code ∷ rest),
      zeros_again end 8 zeros (a ++ code ∷ rest) eight none,
      h (code ∷ rest),
    ) refl

pub decision_again : (end : ℕ) (d : Decision) → DecisionFits d
    → IsReadAs (decision_at end) (decision_bytes d) d
unfolding decision_at decision_bytes
decision_again end (decision.Commit at) h rest =
    commit_parts end (to_le_bytes w64 at) (0 ∷ 0 ∷ 0 ∷ []) at (wide64 at h) refl refl rest
decision_again end (decision.Abort shard code) h rest = abort_parts end (0 ∷ 0 ∷ 0 ∷ 0 ∷ 0 ∷ 0 ∷ 0
    ∷ 0 ∷ []) (to_le_bytes w16 shard) shard code (number16_again shard h.0) refl refl rest

-- Participants.

part_parts : (a b : List ℕ) (part : ℕ × ℕ) → IsNumber w16 a part.0 → IsNumber w32 b part.1
    → IsReadAs part_at (a ++ b) part
unfolding part_at
part_parts a b part h k rest = rw (append_assoc a b rest, h (b ++ rest), k rest) refl

part_again : (part : ℕ × ℕ) → PartFits part → IsReadAs part_at (part_bytes part) part
unfolding part_bytes
part_again part h = part_parts (to_le_bytes w16 part.0) (to_le_bytes w32 part.1) part
    (number16_again part.0 h.0) (wide32 part.1 h.1)

parts_turn : (n : ℕ) (front : List (ℕ × ℕ)) (bytes after : List ℕ) (part : ℕ × ℕ) → part_at bytes
    ≡ Ok (part, after) → parts_at (suc n) front bytes ≡ parts_at n (front ++ part ∷ []) after
unfolding parts_at
parts_turn n front bytes after part h = rw h refl

pub parts_again : (parts front : List (ℕ × ℕ)) (rest : List ℕ) → All PartFits parts
    → parts_at (length parts) front (each_part_bytes parts ++ rest) ≡ Ok (front ++ parts, rest)
unfolding parts_at
parts_again [] front rest h = rw (append-nil front) refl
parts_again (part ∷ parts) front rest h =
    let after = each_part_bytes parts ++ rest in
    let one : part_at ((part_bytes part ++ each_part_bytes parts) ++ rest) ≡ Ok (part, after) =
    ap part_at (append_assoc (part_bytes part) (each_part_bytes parts) rest)
    ∙ part_again part (All-head PartFits part parts h) after in
    parts_turn (length parts) front ((part_bytes part ++ each_part_bytes parts) ++ rest)
    after part one
    ∙ parts_again parts (front ++ part ∷ []) rest (All-tail PartFits part parts h)
    ∙ ap (λ (l : List (ℕ × ℕ)). Ok (l, rest)) (append_assoc front (part ∷ []) parts)
