use Rattle.update_laws.proofs.Kept.{replaced_id, replaced_fields}
use Rattle.update_laws.proofs.laws.a_replacement_keeps_the_id.Goals as goal

pub returns-clause-id : goal.returns-clause-id
returns-clause-id c = replaced_id

pub returns-clause-fields : goal.returns-clause-fields
returns-clause-fields c = replaced_fields
