use Rattle.std.proofs.Common.{◌≡◌, map, take}
use Rattle.bson_core.specs.declared.value.Value.TheViews as views
use Rattle.client_reply.proofs.documents.batch.Given as goal

abbrev pub invariant-loop-doc : goal.invariant-loop-doc
invariant-loop-doc l = l.values.items ≡ map views.Doc (take l.doc-index l.docs)
