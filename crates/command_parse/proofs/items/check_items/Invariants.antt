use Rattle.std.proofs.Common.{◌≡◌, drop, map}
use Rattle.command_parse.specs.Checks.{behind, check_each}
use Rattle.command_parse.specs.Items.{item_check}
use Rattle.command_parse.proofs.items.check_items.Given as goal

abbrev pub invariant-loop-doc : goal.invariant-loop-doc
invariant-loop-doc l = behind l.missing (check_each (item_check l.batch) (map (λ doc. doc.now)
    (drop l.doc-index l.docs))) ≡ check_each (item_check l.batch) (map (λ doc. doc.now) l.docs)
