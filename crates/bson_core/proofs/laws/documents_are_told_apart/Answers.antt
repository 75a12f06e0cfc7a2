use Rattle.bson_core.proofs.Apart.{one_document, no_front}
use Rattle.bson_core.proofs.laws.documents_are_told_apart.Goals as goal

pub returns-clause-one : goal.returns-clause-one
returns-clause-one c = one_document

pub returns-clause-no_front : goal.returns-clause-no_front
returns-clause-no_front c = no_front
