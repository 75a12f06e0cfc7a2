use Rattle.std.proofs.Common.{◌≡◌, List, ℕ, true, subst}
use Rattle.std.specs.Str.{is_utf8}
use Rattle.std.proofs.lemmas.Str.{is_utf8-from_IsUtf8}
use Rattle.bson_core.proofs.text.Name.new.Goals as goal

pub invariant_of-result : goal.invariant_of-result
invariant_of-result c = (
  subst (λ (bytes : List ℕ). is_utf8 bytes ≡ true) c.as_str-text.ensures.value
      (is_utf8-from_IsUtf8 _ c.as_str-text.utf8),
  c.requires,
)
