use Rattle.told_laws.proofs.Placed.{all_rise, all_once, all_behind, all_later}
use Rattle.told_laws.proofs.laws.each_statement_has_its_place.Goals as goal

pub returns-clause-rises : goal.returns-clause-rises
returns-clause-rises c = all_rise

pub returns-clause-once : goal.returns-clause-once
returns-clause-once c = all_once

pub returns-clause-behind : goal.returns-clause-behind
returns-clause-behind c = all_behind

pub returns-clause-later : goal.returns-clause-later
returns-clause-later c = all_later
