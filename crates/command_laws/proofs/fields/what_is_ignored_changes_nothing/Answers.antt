use Rattle.command_laws.proofs.Unlooked.{ignored_field, free_is_ignored, hello_ignores}
use Rattle.command_laws.proofs.fields.what_is_ignored_changes_nothing.Goals as goal

pub returns-clause-nothing : goal.returns-clause-nothing
returns-clause-nothing c = ignored_field

pub returns-clause-names : goal.returns-clause-names
returns-clause-names c = free_is_ignored

pub returns-clause-hello : goal.returns-clause-hello
returns-clause-hello c = hello_ignores
