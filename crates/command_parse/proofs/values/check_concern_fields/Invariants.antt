use Rattle.std.proofs.Common.{◌≡◌, drop}
use Rattle.command_parse.specs.Checks.{behind, check_each, firsts_behind, firsts}
use Rattle.command_parse.specs.Values.{concern_field}
use Rattle.command_parse.proofs.values.check_concern_fields.Given as goal

abbrev pub invariant-loop-name : goal.invariant-loop-name
invariant-loop-name l = behind l.missing (check_each concern_field (firsts_behind l.names.items
    (drop l.name-index l.fields))) ≡ check_each concern_field (firsts l.fields)
