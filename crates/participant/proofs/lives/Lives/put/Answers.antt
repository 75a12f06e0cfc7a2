use Rattle.std.proofs.Common.{List, IsSome, ap, subst, sym, ◌∙◌, rules}
use Rattle.txn_types.specs.BySession.{entry_of}
use Rattle.txn_types.specs.Order.{lsid_cmp}
use Rattle.txn_types.specs.declared.node.Lsid.{Lsid}
use Rattle.txn_types.proofs.Orders.{lsid_total, lsid_exact}
use Rattle.txn_semantics.specs.Keyed.{put as put_in}
use Rattle.version_store.proofs.Keyed.{found, inserted}
use Rattle.participant.specs.declared.said.Open.{Open}
use Rattle.participant.proofs.Ordered.{absent}
use Rattle.participant.proofs.lives.Lives.put.Goals as goal
use Rattle.participant.proofs.lives.Lives.put.Goals.{in-Ok, in-Err}

pub returns-clause-ok : goal.returns-clause-ok
returns-clause-ok c =
    elim c.match-insert.branch [
      | in-Ok w ↦ rw w.result-is (w.in-Ok.ensures.entries ∙ inserted lsid_cmp lsid_total
          lsid_exact c.new.result c.args.live c.self.inside.lives.entries ∙ ap (λ (lsid : Lsid).
          put_in lsid_cmp lsid c.args.live c.self.inside.lives.entries) c.new.ensures
          ∙ ap (λ (rows : List (Lsid × Open)). put_in lsid_cmp c.args.lsid.now c.args.live rows)
          c.self.view_is)
      | in-Err w ↦ rw w.result-is tt
    ]

pub returns-clause-there : goal.returns-clause-there
returns-clause-there c =
    elim c.match-insert.branch [
      | in-Ok w ↦ search rules
      | in-Err w ↦
          λ some.
          absurd
          (absent _ _ (found lsid_cmp c.new.result c.self.inside.lives.entries)
          w.in-Err.ensures.absent
          (subst (λ (lsid : Lsid). IsSome (entry_of lsid c.self.inside.lives.entries))
          (sym c.new.ensures)
          (subst (λ (rows : List (Lsid × Open)). IsSome (entry_of c.args.lsid.now rows))
          (sym c.self.view_is) some)))
    ]
