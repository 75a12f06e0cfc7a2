use Rattle.std.proofs.Common.{◌≡◌, ◌++◌, drop, map}
use Rattle.command_parse.specs.Checks.{behind, check_each, firsts_behind, firsts}
use Rattle.command_parse.specs.Operations.{in_body, in_section, field_check}
use Rattle.command_parse.proofs.fields.check_fields.Given as goal

abbrev pub invariant-loop-name : goal.invariant-loop-name
invariant-loop-name l = behind l.missing (check_each (field_check l.command) (firsts_behind
    l.names.items (map in_body (drop l.name-index l.body) ++ map in_section l.sections)))
    ≡ check_each (field_check l.command) (firsts (map in_body l.body ++ map in_section l.sections))

abbrev pub invariant-loop-section : goal.invariant-loop-section
invariant-loop-section l = behind l.missing (check_each (field_check l.command)
    (firsts_behind l.names.items (map in_section (drop l.section-index l.sections))))
    ≡ check_each (field_check l.command) (firsts (map in_body l.body ++ map in_section l.sections))
