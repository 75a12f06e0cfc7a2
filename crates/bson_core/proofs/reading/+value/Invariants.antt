use Rattle.std.proofs.Common.{◌≡◌, ◌+◌, ◌*◌, ◌-◌, length}
use Rattle.bson_core.specs.Reading.{value_by, nested_at, elements_at}
use Rattle.bson_core.proofs.Loop.{with_front}
use Rattle.bson_core.proofs.reading.+value.Given as goal

abbrev pub decreases-read_nested : goal.decreases-read_nested
decreases-read_nested l = 6 * l.levels

abbrev pub decreases-read_document : goal.decreases-read_document
decreases-read_document l = 6 * l.levels + 5

abbrev pub decreases-read_body : goal.decreases-read_body
decreases-read_body l = 6 * l.levels + 4

abbrev pub decreases-read_elements : goal.decreases-read_elements
decreases-read_elements l = 6 * l.levels + 3

abbrev pub decreases-read_element : goal.decreases-read_element
decreases-read_element l = 6 * l.levels + 2

abbrev pub decreases-read_value : goal.decreases-read_value
decreases-read_value l = 6 * l.levels + 1

abbrev pub invariant-read_elements-loop : goal.invariant-read_elements-loop
invariant-read_elements-loop l = with_front l.fields.items (elements_at
    (value_by (nested_at l.levels)) l.start l.last_at (length l.bytes + 1 - l.counter) l.rest)
    ≡ elements_at (value_by (nested_at l.levels)) l.start l.last_at (length l.bytes + 1) l.bytes
