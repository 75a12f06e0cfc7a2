use Rattle.value_order.proofs.Pairs.{texts, binaries, object_ids, bools, dates, stamps}
use Rattle.value_order.proofs.laws.other_kinds_by_content.Goals as goal

pub returns-clause-texts : goal.returns-clause-texts
returns-clause-texts c = texts

pub returns-clause-binaries : goal.returns-clause-binaries
returns-clause-binaries c = binaries

pub returns-clause-object_ids : goal.returns-clause-object_ids
returns-clause-object_ids c = object_ids

pub returns-clause-bools : goal.returns-clause-bools
returns-clause-bools c = bools

pub returns-clause-dates : goal.returns-clause-dates
returns-clause-dates c = dates

pub returns-clause-stamps : goal.returns-clause-stamps
returns-clause-stamps c = stamps
