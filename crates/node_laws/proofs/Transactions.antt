-- What is written of transactions, nodes, decisions and participants is read again, whatever stands
-- after it.
use Rattle.std.proofs.Common.{◌≡◌, ℕ, ℤ, ◌^◌, ◌<◌, true, ltb, List, [], ◌∷◌, ◌++◌, length, Some}
use Rattle.std.proofs.Common.{None, Ok, refl, ap, ◌∙◌, append_assoc, position, not, eqb, arith}
use Rattle.std.proofs.Common.{FitsSigned}
use Rattle.std.specs.Int.{w16, w32, w64}
use Rattle.std.specs.List.{All, flat_map}
use Rattle.std.proofs.lemmas.Bool.{lt-ltb}
use Rattle.txn_types.specs.declared.decision.Decision.{Decision}
use Rattle.txn_types.specs.declared.decision.Decision.TheVariants as decision
use Rattle.txn_types.specs.declared.names.Tag.{Tag}
use Rattle.txn_types.specs.declared.node.Lsid.{Lsid}
use Rattle.txn_types.specs.declared.node.Lsid.TheVariants.{Client, Own}
use Rattle.txn_types.specs.declared.node.NodeId.{NodeId}
use Rattle.txn_types.specs.declared.node.NodeId.TheVariants.{Shard, Router}
use Rattle.node_wire.specs.Reading.{number_of, flag_of, code_at, tag_at, client_at, own_at, lsid_at}
use Rattle.node_wire.specs.Reading.{named_at, node_at, committed_at, aborted_at, decision_at}
use Rattle.node_wire.specs.Reading.{part_at, parts_at, one_to}
use Rattle.node_wire.specs.Spelling.{half, word, long, signed, tag_bytes, own_bytes, lsid_bytes}
use Rattle.node_wire.specs.Spelling.{named_bytes, node_bytes, decision_bytes, part_bytes}
use Rattle.node_wire.specs.Spelling.{parts_bytes}
use Rattle.node_laws.specs.Fits.{TagFits, LsidFits, DecisionFits, PartFits, NodeFits}
use Rattle.node_laws.proofs.Parts.{IsReadAs, half_again, word_again, long_again, signed_again}
use Rattle.node_laws.proofs.Parts.{bytes_again, zeros_again, each_again}

pub tag_again : (end : ℕ) (tag : Tag) → TagFits tag → IsReadAs (tag_at end) (tag_bytes tag) tag
unfolding tag_at tag_bytes
tag_again end tag h rest =
    let a = half tag.router in
    let b = word tag.boot in
    let d = long tag.serial in
    rw (
      append_assoc (a ++ b) d rest,
      append_assoc a b (d ++ rest),
      half_again end tag.router h.0 (b ++ (d ++ rest)),
      word_again end tag.boot h.1 (d ++ rest),
      long_again end tag.serial h.2 rest,
    ) refl

client_again : (end : ℕ) (bytes : List ℕ) → length bytes ≡ 16
    → IsReadAs (client_at end) bytes (Client bytes)
client_again end bytes len rest = rw (bytes_again 16 end bytes rest len) refl

own_again : (end router boot conn : ℕ) (zeros : List ℕ) → router < 2 ^ 16 → boot < 2 ^ 32
    → conn < 2 ^ 32 → length zeros ≡ 6 → position (λ b. not (eqb b 0)) zeros ≡ None
    → IsReadAs (own_at end) (own_bytes router boot conn ++ zeros) (Own router boot conn)
unfolding own_at own_bytes
own_again end router boot conn zeros h k l six none rest =
    let a = half router in
    let b = word boot in
    let d = word conn in
    rw (
      append_assoc (a ++ b ++ d) zeros rest,
      append_assoc (a ++ b) d (zeros ++ rest),
      append_assoc a b (d ++ (zeros ++ rest)),
      half_again end router h (b ++ (d ++ (zeros ++ rest))),
      word_again end boot k (d ++ (zeros ++ rest)),
      word_again end conn l (zeros ++ rest),
      zeros_again 6 end zeros rest six none,
    ) refl

pub lsid_again : (end : ℕ) (lsid : Lsid) → LsidFits lsid
    → IsReadAs (lsid_at end) (lsid_bytes lsid) lsid
unfolding lsid_at lsid_bytes code_at
lsid_again end (Client bytes) h rest = client_again end bytes h rest
lsid_again end (Own router boot conn) h rest =
    own_again end router boot conn (0 ∷ 0 ∷ 0 ∷ 0 ∷ 0 ∷ 0 ∷ []) h.0 h.1 h.2 refl refl rest

pub named_again : (end : ℕ) (tag : Tag) (lsid : Lsid) (number : ℤ)
    → TagFits tag → LsidFits lsid → FitsSigned w64 number
    → IsReadAs (named_at end) (named_bytes tag lsid number) (tag, lsid, number)
unfolding named_at
named_again end tag lsid number h k l rest =
    let a = tag_bytes tag in
    let b = lsid_bytes lsid in
    let d = signed number in
    rw (
      append_assoc (a ++ b) d rest,
      append_assoc a b (d ++ rest),
      tag_again end tag h (b ++ (d ++ rest)),
      lsid_again end lsid k (d ++ rest),
      signed_again end number l rest,
    ) refl

pub node_again : (end : ℕ) (node : NodeId) → NodeFits node
    → IsReadAs (node_at end) (node_bytes node) node
unfolding node_at code_at
node_again end (Shard number) h rest =
    rw (half_again end number (omega (arith, h)) rest, lt-ltb number 64 h) refl
node_again end (Router number) h rest =
    rw (half_again end number (omega (arith, h)) rest, lt-ltb number 8 h) refl

commit_parts : (end at : ℕ) (zeros : List ℕ) → at < 2 ^ 64
    → length zeros ≡ 3 → position (λ b. not (eqb b 0)) zeros ≡ None
    → IsReadAs (committed_at end) (long at ++ zeros) (decision.Commit at)
unfolding committed_at
commit_parts end at zeros h three none rest = rw (
  append_assoc (long at) zeros rest,
  long_again end at h (zeros ++ rest),
  zeros_again 3 end zeros rest three none,
) refl

abort_parts : (end shard code : ℕ) (zeros : List ℕ) → shard < 2 ^ 16
    → length zeros ≡ 8 → position (λ b. not (eqb b 0)) zeros ≡ None
    → IsReadAs (aborted_at end) (zeros ++ (half shard ++ code ∷ [])) (decision.Abort shard code)
unfolding aborted_at
abort_parts end shard code zeros h eight none rest =
    rw (
      append_assoc zeros (half shard ++ code ∷ []) rest,
      append_assoc (half shard) (code ∷ []) rest,
      zeros_again 8 end zeros (half shard ++ code ∷ rest) eight none,
      half_again end shard h (code ∷ rest),
    ) refl

pub decision_again : (end : ℕ) (d : Decision) → DecisionFits d
    → IsReadAs (decision_at end) (decision_bytes d) d
unfolding decision_at decision_bytes code_at
decision_again end (decision.Commit at) h rest =
    commit_parts end at (0 ∷ 0 ∷ 0 ∷ []) h refl refl rest
decision_again end (decision.Abort shard code) h rest =
    abort_parts end shard code (0 ∷ 0 ∷ 0 ∷ 0 ∷ 0 ∷ 0 ∷ 0 ∷ 0 ∷ []) h refl refl rest

part_again : (end : ℕ) (part : ℕ × ℕ) → PartFits part
    → IsReadAs (part_at end) (part_bytes part) part
unfolding part_at part_bytes
part_again end part h rest = rw (
  append_assoc (half part.0) (word part.1) rest,
  half_again end part.0 h.0 (word part.1 ++ rest),
  word_again end part.1 h.1 rest,
) refl

pub parts_again : (end : ℕ) (parts : List (ℕ × ℕ)) → length parts < 2 ^ 16 → All PartFits parts
    → IsReadAs (parts_at end) (parts_bytes parts) parts
unfolding parts_at
parts_again end parts few h rest =
    let tail = flat_map part_bytes parts in
    rw (
      append_assoc (half (length parts)) tail rest,
      half_again end (length parts) few (tail ++ rest),
      each_again (part_at end) part_bytes PartFits (part_again end) [] parts rest h,
    ) refl
