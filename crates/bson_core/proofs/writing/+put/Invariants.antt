use Rattle.std.proofs.Common.{◌≡◌, ◌≤◌, ◌+◌, ◌*◌, ◌++◌, drop, map, length}
use Rattle.bson_core.specs.Spelling.{coded, element, elements, numbered, framed}
use Rattle.bson_core.proofs.writing.+put.Given as goal

-- Each call writes less than its caller, or as much by a function that stands lower.
abbrev pub decreases-put_value : goal.decreases-put_value
decreases-put_value l = 4 * length (coded l.value.now).1 + 3

abbrev pub decreases-put_document : goal.decreases-put_document
decreases-put_document l = 4 * length (framed (elements l.fields.now)) + 2

abbrev pub decreases-put_list : goal.decreases-put_list
decreases-put_list l = 4 * length (framed (numbered 0 (map coded l.values.now))) + 2

abbrev pub decreases-put_elements : goal.decreases-put_elements
decreases-put_elements l = 4 * length (elements l.fields.now) + 1

abbrev pub decreases-put_numbered : goal.decreases-put_numbered
decreases-put_numbered l = 4 * length (numbered 0 (map coded l.values.now)) + 1

abbrev pub decreases-put_element : goal.decreases-put_element
decreases-put_element l = 4 * length (element (l.name.now, coded l.value.now))

abbrev pub invariant-put_elements-loop-name : goal.invariant-put_elements-loop-name
invariant-put_elements-loop-name l = record {
  written : l.out.items ++ elements (drop l.name-index l.fields)
      ≡ l.initial.out.items ++ elements l.fields;
  small : length (elements (drop l.name-index l.fields)) ≤ length (elements l.fields);
}

abbrev pub invariant-put_numbered-loop-place : goal.invariant-put_numbered-loop-place
invariant-put_numbered-loop-place l = record {
  written : l.out.items ++ numbered l.place (map coded (drop l.place l.values))
      ≡ l.initial.out.items ++ numbered 0 (map coded l.values);
  small : length (numbered l.place (map coded (drop l.place l.values)))
      ≤ length (numbered 0 (map coded l.values));
}
