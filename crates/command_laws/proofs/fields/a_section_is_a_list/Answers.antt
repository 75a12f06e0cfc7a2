use Rattle.std.proofs.Common.{sym}
use Rattle.command_laws.proofs.Sections.{section_as_list}
use Rattle.command_laws.proofs.fields.a_section_is_a_list.Goals as goal

pub returns : goal.returns
returns c =
    λ wall frame first more batch docs. sym (section_as_list wall frame first more batch docs)
