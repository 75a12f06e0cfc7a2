use Rattle.std.proofs.Common.{◌≡◌, ◌++◌, Some, None, Ok, codes, drop}
use Rattle.std.specs.List.{filter_map}
use Rattle.bson_core.specs.declared.value.Value.TheViews.{out-Value}
use Rattle.command_parse.specs.Checks.{check_each}
use Rattle.command_parse.specs.Values.{session_in}
use Rattle.client_cmd.specs.Commands.{session_by}
use Rattle.client_cmd.proofs.fields.sessions_of.Given as goal

abbrev pub invariant-loop-value : goal.invariant-loop-value
invariant-loop-value l = record {
  read : l.ids.items ++ filter_map (λ value. Some (session_by (out-Value value))) (drop
      l.value-index l.values) ≡ filter_map (λ value. Some (session_by (out-Value value))) l.values;
  checked : check_each (λ value. session_in (codes "lsid") (out-Value value)) (drop l.value-index
      l.values) ≡ Ok None;
}
