-- How long the spelling of an id is.
use Rattle.std.proofs.Common.{◌≡◌, ℤ, ◌+◌, Bool, length, ap, ◌∙◌, arith}
use Rattle.std.proofs.lemmas.Grind.{common_steps}
use Rattle.bson_core.specs.declared.value.Value.TheOpen as of
use Rattle.bson_core.specs.declared.value.Value.TheViews as views
use Rattle.bson_core.specs.declared.value.Value.TheVariants as variants
use Rattle.bson_core.specs.declared.value.Value.TheFolds.{fold-roll-Value}
use Rattle.bson_core.specs.Spelling.{Coded, coded_step, coded, elements, spelling}
use Rattle.bson_core.proofs.Lengths.{length_framed}
use Rattle.txn_types.specs.Ids.{value_of_id, id_document}
use Rattle.txn_types.specs.declared.id.Id.{Id}

pub length_long : (n : ℤ) → length (coded (variants.Long n)).1 ≡ 8
unfolding views.roll-Value denote.Hole.Carrier.roll
length_long n = ap (λ (c : Coded). length c.1) (fold-roll-Value Coded coded_step (of.Long n))

pub length_date : (n : ℤ) → length (coded (variants.Date n)).1 ≡ 8
unfolding views.roll-Value denote.Hole.Carrier.roll
length_date n = ap (λ (c : Coded). length c.1) (fold-roll-Value Coded coded_step (of.Date n))

pub length_flag : (b : Bool) → length (coded (variants.Bool b)).1 ≡ 1
unfolding views.roll-Value denote.Hole.Carrier.roll
length_flag b = ap (λ (c : Coded). length c.1) (fold-roll-Value Coded coded_step (of.Bool b))

pub length_id_document : (id : Id)
    → length (spelling (id_document id)) ≡ length (coded (value_of_id id)).1 + 10
length_id_document id = length_framed (elements (id_document id)) ∙ grind (arith, common_steps)

pub ruleset length_value = (length_long, length_date, length_flag)
