use Rattle.std.proofs.Common.{◌≡◌, drop}
use Rattle.bson_core.specs.declared.value.Value.TheViews.{out-Value}
use Rattle.command_parse.specs.Checks.{behind, check_each}
use Rattle.command_parse.specs.Values.{session_in}
use Rattle.command_parse.proofs.values.check_each_session.Given as goal

abbrev pub invariant-loop-value : goal.invariant-loop-value
invariant-loop-value l =
    behind l.missing (check_each (λ value. session_in l.name (out-Value value)) (drop l.value-index
    l.values)) ≡ check_each (λ value. session_in l.name (out-Value value)) l.values
