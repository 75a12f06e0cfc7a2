-- A command's fields: which checks are whose, and what is lacking after one another.
use Rattle.std.proofs.Common.{◌≡◌, ℕ, Bool, true, false, cond, List, [], ◌∷◌, ◌++◌, Some, refl}
use Rattle.std.specs.Option.{option_or}
use Rattle.bson_core.specs.declared.value.Value.{Value}
use Rattle.command_parse.specs.declared.command.Command.{Command}
use Rattle.command_parse.specs.declared.command.Command.TheVariants as command
use Rattle.command_parse.specs.Commands.{rule_of}
use Rattle.command_parse.specs.Checks.{lacking}
use Rattle.command_parse.specs.Items.{InBody}
use Rattle.command_parse.specs.Operations.{field_by, field_checked}

-- a field of the body is as its rule wants it, of a hello too
pub body_field : (c : Command) (name : List ℕ) (value : Value)
    → field_checked c name (InBody value) ≡ field_by name (InBody value) (rule_of c name)
body_field command.Ping name value = refl
body_field (command.Hello old_name) name value = refl
body_field (command.Statement statement) name value = refl
body_field command.Commit name value = refl
body_field command.Abort name value = refl
body_field command.EndSessions name value = refl

-- what is lacking of two lists is what is lacking of the first, or else of the second
pub lacking_behind : (is_there : List ℕ → Bool) (first second : List (List ℕ)) → lacking is_there
    (first ++ second) ≡ option_or (lacking is_there first) (lacking is_there second)
lacking_behind is_there [] second = refl
lacking_behind is_there (name ∷ names) second =
    by (is_there name) (lacking_behind is_there names second)
  where
    by : (there : Bool) → lacking is_there (names ++ second)
        ≡ option_or (lacking is_there names) (lacking is_there second)
        → cond there (lacking is_there (names ++ second)) (Some name)
        ≡ option_or (cond there (lacking is_there names) (Some name)) (lacking is_there second)
    by true more = more
    by false more = refl
