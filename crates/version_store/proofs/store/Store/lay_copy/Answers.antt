use Rattle.std.proofs.Common.{◌≡◌, ◌∙◌, arith, rules}
use Rattle.version_store.proofs.TakenBack.{noted_in_vain}
use Rattle.version_store.proofs.store.Store.lay_copy.Goals as goal
use Rattle.version_store.proofs.store.Store.lay_copy.Goals.{in-Ok, in-Err}

pub returns-clause-left : goal.returns-clause-left
returns-clause-left c =
    elim c.match-lay.branch [
      | in-Ok w ↦ search (w.result-is, rules)
      | in-Err w ↦
          let same : w.truncate.new.self.items ≡ c.args.laid.now.items =
          noted_in_vain _ c.args.laid.now.items c.push.new.self.items
          w.truncate.new.self.items c.len-before.result (c.len-before.ensures
          ∙ c.args.laid.now.ok.0) c.in_ok-push.ensures.items w.truncate.ensures.items in
          first_of (
            grind (arith, w.result-is, w.laid-is, same),
            search (w.result-is, w.laid-is, same, rules),
          )
    ]
