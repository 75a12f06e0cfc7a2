use Rattle.std.proofs.Common.{◌≡◌, ◌++◌, take, string_bytes, codes, map}
use Rattle.std.specs.List.{join_by}
use Rattle.bson_text.specs.Text.{field_text, value_text}
use Rattle.bson_text.proofs.printing.+put.Given as goal

abbrev pub invariant-put_document-loop-place : goal.invariant-put_document-loop-place
invariant-put_document-loop-place l = string_bytes l.out ≡ string_bytes l.initial.out ++ join_by
    field_text (codes ", ") (map (λ field. (field.0, value_text field.1)) (take l.place l.fields))

abbrev pub invariant-put_list-loop-place : goal.invariant-put_list-loop-place
invariant-put_list-loop-place l = string_bytes l.out ≡ string_bytes l.initial.out
    ++ join_by (λ text. text) (codes ", ") (map value_text (take l.place l.values))
