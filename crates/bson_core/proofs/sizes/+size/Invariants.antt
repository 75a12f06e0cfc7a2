use Rattle.std.proofs.Common.{◌≡◌, ◌+◌, ◌-◌, ◌^◌, ◌<◌, length, map, min, drop}
use Rattle.bson_core.specs.Spelling.{coded, elements, numbered}
use Rattle.bson_core.proofs.sizes.+size.Given as goal

abbrev pub invariant-elements_size-loop-name : goal.invariant-elements_size-loop-name
invariant-elements_size-loop-name l = record {
  fits : l.size < 2 ^ 64;
  counted : min (l.size + length (elements (drop l.name-index l.fields))) (2 ^ 64 - 1)
      ≡ min (length (elements l.fields)) (2 ^ 64 - 1);
}

abbrev pub invariant-numbered_size-loop-place : goal.invariant-numbered_size-loop-place
invariant-numbered_size-loop-place l = record {
  fits : l.size < 2 ^ 64;
  counted : min (l.size + length (numbered l.place (map coded (drop l.place l.values)))) (2 ^ 64
      - 1) ≡ min (length (numbered 0 (map coded l.values))) (2 ^ 64 - 1);
}
