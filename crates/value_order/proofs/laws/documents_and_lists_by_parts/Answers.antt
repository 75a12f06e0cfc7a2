use Rattle.std.proofs.Common.{[]}
use Rattle.value_order.proofs.Parts.{fields_more, fewer_fields, values_more, fewer_values}
use Rattle.value_order.proofs.Pairs.{documents, lists}
use Rattle.value_order.proofs.laws.documents_and_lists_by_parts.Goals as goal

pub returns-clause-no_fields : goal.returns-clause-no_fields
returns-clause-no_fields c = documents [] []

pub returns-clause-fields : goal.returns-clause-fields
returns-clause-fields c = fields_more

pub returns-clause-fewer_fields : goal.returns-clause-fewer_fields
returns-clause-fewer_fields c = fewer_fields

pub returns-clause-no_values : goal.returns-clause-no_values
returns-clause-no_values c = lists [] []

pub returns-clause-values : goal.returns-clause-values
returns-clause-values c = values_more

pub returns-clause-fewer_values : goal.returns-clause-fewer_values
returns-clause-fewer_values c = fewer_values
