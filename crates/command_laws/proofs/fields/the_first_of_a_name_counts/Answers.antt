use Rattle.command_laws.proofs.Behind.{later_field, later_section}
use Rattle.command_laws.proofs.fields.the_first_of_a_name_counts.Goals as goal

pub returns-clause-field : goal.returns-clause-field
returns-clause-field c = later_field

pub returns-clause-section : goal.returns-clause-section
returns-clause-section c = later_section
