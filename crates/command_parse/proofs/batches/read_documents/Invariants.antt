use Rattle.std.proofs.Common.{◌≡◌, [], drop, map}
use Rattle.bson_core.specs.declared.value.Value.TheViews.{out-Value}
use Rattle.crud_parse.specs.Results.{each, with_front}
use Rattle.command_parse.specs.Commands.{list_name}
use Rattle.command_parse.specs.Values.{document_in}
use Rattle.command_parse.specs.Checks.{or_wrong}
use Rattle.command_parse.proofs.batches.read_documents.Given as goal

abbrev pub invariant-loop-value : goal.invariant-loop-value
invariant-loop-value l = with_front (map (λ doc. doc.now) l.docs.items) (each (λ value. or_wrong
    (list_name l.batch) (document_in (out-Value value))) (drop l.value-index l.values)) ≡ with_front
    [] (each (λ value. or_wrong (list_name l.batch) (document_in (out-Value value))) l.values)
