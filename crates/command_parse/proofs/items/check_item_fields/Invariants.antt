use Rattle.std.proofs.Common.{◌≡◌, drop}
use Rattle.command_parse.specs.Checks.{behind, check_each, firsts_behind, firsts}
use Rattle.command_parse.specs.Items.{item_field_check}
use Rattle.command_parse.proofs.items.check_item_fields.Given as goal

abbrev pub invariant-loop-name : goal.invariant-loop-name
invariant-loop-name l =
    behind l.missing (check_each (item_field_check l.change) (firsts_behind l.names.items
    (drop l.name-index l.fields))) ≡ check_each (item_field_check l.change) (firsts l.fields)
