use Rattle.std.proofs.Common.{◌≡◌, ◌+◌, ℕ, List, drop, map, false, Ok, ap, sym, ◌∙◌}
use Rattle.bson_core.specs.Fields.{Document}
use Rattle.command_parse.specs.Checks.{behind, check_each, firsts_behind, is_among}
use Rattle.command_parse.specs.Operations.{in_section, field_check}
use Rattle.command_parse.proofs.Behind.{drop_next, next_first}
use Rattle.command_parse.proofs.fields.check_fields.Goals as goal

pub loop-section-preserved : goal.loop-section-preserved
loop-section-preserved c =
    let i = c.loop-section.section-index in
    let sections = c.args.sections.now in
    let item = c.loop-section-item.result in
    let check = field_check c.args.command in
    let names = c.loop-section.names.items in
    let missing = c.loop-section.missing in
    let new : is_among item.0 names ≡ false =
    sym (rw c.as_slice-in-loop-section.ensures.value at c.if-is_among-2.ensures) in
    let is : check (in_section item) ≡ Ok c.in_ok-check_section.field-0 =
    rw c.as_slice-in-loop-section-2.ensures at c.in_ok-check_section.ensures in
    let left = drop_next sections i item c.loop-section-test.true c.loop-section-item.is in
    rw (c.or-missing-in-loop-section.ensures, c.in_ok-push-2.ensures.items, c.in_ok-copy-2.ensures)
    (next_first check missing c.in_ok-check_section.field-0 names (in_section item)
    (map in_section (drop (i + 1) sections)) new is
    ∙ ap (λ (rest : List (List ℕ × List Document)). behind missing (check_each check
    (firsts_behind names (map in_section rest)))) (sym left) ∙ c.loop-section.invariant)
