use Rattle.std.proofs.Common.{◌≡◌, ◌++◌, take, string_bytes}
use Rattle.bson_text.specs.Text.{hex_digits}
use Rattle.bson_text.proofs.printing.put_hex.Given as goal

abbrev pub invariant-loop-byte : goal.invariant-loop-byte
invariant-loop-byte l =
    string_bytes l.out ≡ string_bytes l.initial.out ++ hex_digits (take l.byte-index l.bytes)
