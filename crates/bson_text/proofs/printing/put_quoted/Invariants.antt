use Rattle.std.proofs.Common.{◌≡◌, ◌++◌, string_bytes}
use Rattle.std.specs.List.{flat_map}
use Rattle.std.specs.Str.Iter.{chars_rest}
use Rattle.bson_text.specs.Text.{escaped}
use Rattle.bson_text.proofs.printing.put_quoted.Given as goal

abbrev pub invariant-loop-c : goal.invariant-loop-c
invariant-loop-c l = string_bytes l.out ++ flat_map escaped (chars_rest l.c-iterator)
    ≡ string_bytes l.initial.out ++ flat_map escaped l.text
