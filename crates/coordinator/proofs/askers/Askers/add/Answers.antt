use Rattle.std.proofs.Common.{ℕ, ap, ◌∙◌, arith, zero-add}
use Rattle.txn_types.specs.Numbers.{put_number}
use Rattle.coordinator.specs.Askers.{numbers_from}
use Rattle.coordinator.proofs.Waiting.{put_raised}
use Rattle.coordinator.proofs.askers.Askers.add.Goals as goal

pub returns : goal.returns
returns c =
    let flags = c.self.inside.waits in
    put_raised 0 c.from.result flags (omega arith)
    ∙ ap (λ (n : ℕ). put_number n (numbers_from 0 flags)) (zero-add c.from.result ∙ c.from.ensures)
    ∙ ap (put_number c.args.router) c.self.view_is
