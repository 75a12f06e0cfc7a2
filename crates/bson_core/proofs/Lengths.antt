-- How long the parts of a spelling are.
use Rattle.std.proofs.Common.{◌≡◌, ℕ, ◌+◌, List, length, arith}
use Rattle.std.proofs.lemmas.Grind.{common_steps}
use Rattle.bson_core.specs.declared.value.Bin.{Bin}
use Rattle.bson_core.specs.Spelling.{text, framed, binary}
use Rattle.bson_core.proofs.Spelled.{coded_text, coded_doc, coded_list, coded_bin, coded_oid}

pub length_text : (bytes : List ℕ) → length (text bytes) ≡ length bytes + 5
unfolding text
length_text bytes = grind (arith, common_steps)

pub length_framed : (elements : List ℕ) → length (framed elements) ≡ length elements + 5
unfolding framed
length_framed elements = grind (arith, common_steps)

pub length_binary : (b : Bin) → length (binary b) ≡ length b.bytes + 5
unfolding binary
length_binary b = grind (arith, common_steps)

-- the length of a value's bytes, at the kinds whose values have several lengths
pub ruleset length_coded = (
  coded_text,
  coded_doc,
  coded_list,
  coded_bin,
  coded_oid,
  length_text,
  length_framed,
  length_binary,
)
