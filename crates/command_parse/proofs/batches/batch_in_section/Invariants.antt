use Rattle.std.proofs.Common.{◌≡◌, ◌++◌, drop, map}
use Rattle.command_parse.proofs.batches.batch_in_section.Given as goal

abbrev pub invariant-loop-doc : goal.invariant-loop-doc
invariant-loop-doc l = map (λ doc. doc.now) l.docs.items ++ drop l.doc-index l.section ≡ l.section
