use Rattle.std.proofs.Common.{List, ◌∙◌, ap}
use Rattle.txn_types.specs.Order.{lsid_cmp}
use Rattle.txn_types.specs.declared.node.Lsid.{Lsid}
use Rattle.txn_semantics.specs.Keyed.{taken_out}
use Rattle.participant.specs.declared.said.Open.{Open}
use Rattle.participant.proofs.Laid.{undone}
use Rattle.participant.proofs.putting.put_first.Goals as goal

pub returns-in-Err-clause-old_lives : goal.returns-in-Err-clause-old_lives
returns-in-Err-clause-old_lives c =
    c.take_out.ensures.left
    ∙ ap (λ (live : List (Lsid × Open)). taken_out lsid_cmp c.args.m.now.lsid live)
    c.in_ok-put.ensures.ok
    ∙ undone c.args.m.now.lsid c.args.live c.args.lives.now c.requires.none
