use Rattle.std.proofs.Common.{◌≡◌, [], drop}
use Rattle.crud_parse.specs.Results.{each, with_front}
use Rattle.crud_parse.specs.Filters.{condition}
use Rattle.crud_parse.proofs.filters.read_conditions.Given as goal

abbrev pub invariant-loop-operator : goal.invariant-loop-operator
invariant-loop-operator l = with_front l.filters.items (each (condition l.field)
    (drop l.operator-index l.operators)) ≡ with_front [] (each (condition l.field) l.operators)
