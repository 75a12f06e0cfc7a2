use Rattle.std.proofs.Common.{◌≡◌, [], drop}
use Rattle.crud_parse.specs.Results.{each_of, with_front}
use Rattle.crud_parse.specs.Updates.{ops_of}
use Rattle.crud_parse.proofs.updates.read_ops.Given as goal

abbrev pub invariant-loop-name : goal.invariant-loop-name
invariant-loop-name l = with_front l.ops.items (each_of ops_of (drop l.name-index l.operators))
    ≡ with_front [] (each_of ops_of l.operators)
