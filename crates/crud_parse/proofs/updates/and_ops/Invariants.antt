use Rattle.std.proofs.Common.{◌≡◌, drop}
use Rattle.crud_parse.specs.Results.{each, with_front}
use Rattle.crud_parse.specs.Updates.{field_op}
use Rattle.crud_parse.proofs.updates.and_ops.Given as goal

abbrev pub invariant-loop-name : goal.invariant-loop-name
invariant-loop-name l = with_front l.ops.items (each (field_op l.kind) (drop l.name-index l.fields))
    ≡ with_front l.initial.ops.items (each (field_op l.kind) l.fields)
